-- The first pair with a fault decides.
use Rattle.std.proofs.Common.{◌≡◌, ◌/◌, ◌<◌, None, length, sym, subst, arith}
use Rattle.trex_words.specs.Asked.{texts, pair_fault, fault_of, options_of}
use Rattle.trex_words.specs.First.{first_of}
use Rattle.trex_words.proofs.Firsts.{first_of-found}
use Rattle.trex_words.proofs.Words.{length_texts}
use Rattle.trex_words.proofs.read.options_fault.Goals as goal

pub returns-in-Some : goal.returns-in-Some
unfolding fault_of
returns-in-Some c =
    let words = texts c.args.words.now in
    let less : c.loop-pair.pair < length words / 2 = omega (arith, length_texts c.args.words.now) in
    sym (first_of-found (pair_fault (options_of c.args.command) words) (length words / 2) c.loop-pair.pair c.in-Some.fault less c.loop-pair.invariant (sym c.in-Some.ensures))

pub returns : goal.returns
unfolding fault_of
returns c =
    let words = texts c.args.words.now in
    let all : c.loop-pair.pair ≡ length words / 2 = omega (arith, length_texts c.args.words.now) in
    sym (subst (λ k. first_of (pair_fault (options_of c.args.command) words) k ≡ None) all c.loop-pair.invariant)
