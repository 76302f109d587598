-- A line is text, or it isn't.
use Rattle.std.proofs.Common.{◌≡◌, ℕ, Bool, true, false, List, codes, refl, if◌then◌else◌, rules}
use Rattle.std.specs.Str.{IsUtf8, is_utf8}
use Rattle.std.proofs.lemmas.Str.{IsUtf8-from_is_utf8, is_utf8-from_IsUtf8}
use Rattle.trex_rpc.specs.Answer.{answer, answer_text, says}
use Rattle.trex_rpc.specs.Table.{Table}
use Rattle.trex_rpc.proofs.session.Session.line.Goals as goal

answer-text : (table : Table) (line : List ℕ) → IsUtf8 line → answer table line ≡ answer_text table line
unfolding answer
answer-text table line utf8 = let test = is_utf8-from_IsUtf8 line utf8 in rw test

answer-no_text : (table : Table) (line : List ℕ) → ¬ IsUtf8 line → answer table line ≡ says table (codes "refused: NotText\n")
unfolding answer
answer-no_text table line other = by_test (is_utf8 line) (IsUtf8-from_is_utf8 line)
  where
    by_test : (t : Bool) → (t ≡ true → IsUtf8 line) → (if t then answer_text table line else says table (codes "refused: NotText\n")) ≡ says table (codes "refused: NotText\n")
    by_test true is = absurd (other (is refl))
    by_test false is = refl

pub returns-in-Ok : goal.returns-in-Ok
returns-in-Ok c =
    let (same, utf8) = c.in-Ok.ensures.cases in
    rw (answer-text c.args.self.now c.args.line.now utf8, ← same) c.text.ensures

pub returns-in-Err : goal.returns-in-Err
returns-in-Err c = rw (answer-no_text c.args.self.now c.args.line.now c.in-Err.ensures.cases.0) (search rules)
