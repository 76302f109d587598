-- A line that is too long was read up to its line feed.
use Rattle.std.proofs.Common.{[], ◌∷◌, arith, rules}
use Rattle.std.proofs.lemmas.Grind.{common_steps}
use Rattle.trex_rpc.proofs.line_reader.LineReader.next.Goals as goal

pub returns-then-len-gt-LONGEST_LINE-clause-line : goal.returns-then-len-gt-LONGEST_LINE-clause-line
returns-then-len-gt-LONGEST_LINE-clause-line g c = (10 ∷ [], grind (arith, common_steps), grind (arith, common_steps), search rules)
