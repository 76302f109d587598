-- The first word says which command is read.
use Rattle.std.proofs.Common.{◌≡◌, ℕ, ◌<◌, ◌==◌, Bool, true, false, List, Option, Ok, length, String, sym, ap, ◌∙◌, arith}
use Rattle.std.specs.declared.alloc.Global.{Global}
use Rattle.trex_words.specs.declared.command.Command.{Command}
use Rattle.trex_words.specs.Asked.{texts, word, command_of, asked, asked_by, request, unless}
use Rattle.trex_words.proofs.Words.{asked_some, asked_none, length_texts}
use Rattle.trex_words.proofs.read.read_words.Goals as goal

-- where there is a first word, its command is read
read : (words : List (String Global)) (b : Bool) (name : List ℕ) (command : Option Command) → b ≡ (length words == 0) → b ≡ false
    → name ≡ word (texts words) 0 → command ≡ command_of name → asked (texts words) ≡ asked_by command (texts words)
read words b name command test other first is =
    let some : 0 < length words = grind arith in
    asked_some (texts words) (omega (arith, length_texts words)) ∙ ap (λ o. asked_by o (texts words)) (ap command_of (sym first) ∙ sym is)

none : (words : List (String Global)) (b : Bool) → b ≡ (length words == 0) → b ≡ true → length (texts words) ≡ 0
none words b test same = let none : length words ≡ 0 = grind arith in omega (arith, length_texts words)

pub returns-then-is_empty-clause-value : goal.returns-then-is_empty-clause-value
returns-then-is_empty-clause-value c = sym (asked_none _ (none c.args.words.now _ c.is_empty.ensures c.if-is_empty.true))

pub returns-in_default-clause-value : goal.returns-in_default-clause-value
returns-in_default-clause-value c = sym (read c.args.words.now _ _ _ c.is_empty.ensures c.if-is_empty.false c.word.ensures c.in_default.ensures)

pub returns-in-Some-command_fault-clause-value : goal.returns-in-Some-command_fault-clause-value
returns-in-Some-command_fault-clause-value c =
    let words = c.args.words.now in
    ap (λ f. unless f (request c.in-Some.command (texts words))) c.in-Some-command_fault.ensures
    ∙ sym (read words _ _ _ c.is_empty.ensures c.if-is_empty.false c.word.ensures c.in-Some.ensures)

pub returns-in-None-clause-value : goal.returns-in-None-clause-value
returns-in-None-clause-value c =
    let words = c.args.words.now in
    ap Ok c.request.ensures.value
    ∙ ap (λ f. unless f (request c.in-Some.command (texts words))) c.in-None.ensures
    ∙ sym (read words _ _ _ c.is_empty.ensures c.if-is_empty.false c.word.ensures c.in-Some.ensures)
