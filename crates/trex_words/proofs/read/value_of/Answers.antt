-- Where nothing is wrong with the words, the value is a number within its limits.
use Rattle.std.proofs.Common.{◌≡◌, ℕ, ◌/◌, List, length, Some, None, String, sym, ap, ◌∙◌, arith}
use Rattle.std.specs.declared.alloc.Global.{Global}
use Rattle.std.specs.Str.Parse.{digits_value}
use Rattle.trex_words.specs.declared.command.Command.{Command}
use Rattle.trex_words.specs.declared.options.Limits.{Limits}
use Rattle.trex_words.specs.Asked.{texts, is_number, limits_of, value_place, fault_of, value_of, number_at, default_of, options_of}
use Rattle.trex_words.proofs.Faultless.{IsSound, sound_value, greatest_fits}
use Rattle.trex_words.proofs.Words.{length_texts}
use Rattle.trex_words.proofs.read.value_of.Goals as goal

sound : (command : Command) (words : List (String Global)) (name : List ℕ) (l : Limits) (at : ℕ) → limits_of (options_of command) name ≡ Some l → fault_of (options_of command) (texts words) ≡ None
    → Some at ≡ value_place (texts words) (length words / 2) name → IsSound (texts words) at l
sound command words name l at known faultless stands =
    sound_value (options_of command) (texts words) name l at known faultless (ap (λ n. value_place (texts words) (n / 2) name) (length_texts words) ∙ sym stands)

pub word-requires : goal.word-requires
word-requires c =
    let s : IsSound (texts c.args.words.now) c.in-Some.at c.args.limits = sound c.args.command _ _ _ _ c.requires.option c.requires.faultless c.in-Some.ensures in
    omega (arith, s.within, length_texts c.args.words.now)

pub number-requires-clause-digits : goal.number-requires-clause-digits
number-requires-clause-digits c =
    let s : IsSound (texts c.args.words.now) c.in-Some.at c.args.limits = sound c.args.command _ _ _ _ c.requires.option c.requires.faultless c.in-Some.ensures in
    ap is_number c.word.ensures ∙ s.number

pub number-requires-clause-fits : goal.number-requires-clause-fits
number-requires-clause-fits c =
    let s : IsSound (texts c.args.words.now) c.in-Some.at c.args.limits = sound c.args.command _ _ _ _ c.requires.option c.requires.faultless c.in-Some.ensures in
    omega (arith, s.greatest, ap (digits_value 10) c.word.ensures, greatest_fits c.args.command c.args.name.now c.args.limits c.requires.option)

pub returns-in-Some-clause-value : goal.returns-in-Some-clause-value
unfolding value_of
returns-in-Some-clause-value c =
    let words = texts c.args.words.now in
    let stands : value_place words (length words / 2) c.args.name.now ≡ Some c.in-Some.at =
    ap (λ n. value_place words (n / 2) c.args.name.now) (length_texts c.args.words.now) ∙ sym c.in-Some.ensures in
    c.number.ensures ∙ ap (digits_value 10) c.word.ensures ∙ sym (ap (λ p. number_at words p (default_of (limits_of (options_of c.args.command) c.args.name.now))) stands)

pub returns-in-Some-clause-least : goal.returns-in-Some-clause-least
returns-in-Some-clause-least c =
    let s : IsSound (texts c.args.words.now) c.in-Some.at c.args.limits = sound c.args.command _ _ _ _ c.requires.option c.requires.faultless c.in-Some.ensures in
    λ default. omega (arith, s.least, c.number.ensures, ap (digits_value 10) c.word.ensures)

pub returns-in-Some-clause-greatest : goal.returns-in-Some-clause-greatest
returns-in-Some-clause-greatest c =
    let s : IsSound (texts c.args.words.now) c.in-Some.at c.args.limits = sound c.args.command _ _ _ _ c.requires.option c.requires.faultless c.in-Some.ensures in
    λ default. omega (arith, s.greatest, c.number.ensures, ap (digits_value 10) c.word.ensures)

pub returns-in-None-clause-value : goal.returns-in-None-clause-value
unfolding value_of
returns-in-None-clause-value c =
    let words = texts c.args.words.now in
    let absent : value_place words (length words / 2) c.args.name.now ≡ None =
    ap (λ n. value_place words (n / 2) c.args.name.now) (length_texts c.args.words.now) ∙ sym c.in-None.ensures in
    sym (ap (λ p. number_at words p (default_of (limits_of (options_of c.args.command) c.args.name.now))) absent ∙ ap default_of c.requires.option)
