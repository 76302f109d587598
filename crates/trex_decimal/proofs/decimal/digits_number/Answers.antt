-- Each digit takes a place more, and there are at most 38.
use Rattle.std.proofs.Common.{◌≡◌, ◌+◌, ◌-◌, ◌*◌, ◌^◌, ◌<◌, true, take, sym, ap, ◌∙◌, arith, get_or}
use Rattle.std.specs.Char.{is_ascii_digit}
use Rattle.trex_decimal.proofs.Digits.{digit_below, digits_number-digit, digits_number-other, digits_number-room, digits_number-fits, few_before}
use Rattle.trex_decimal.proofs.decimal.digits_number.Goals as goal
use Rattle.trex_decimal.proofs.decimal.digits_number.Goals.{then-is_ascii_digit, else-is_ascii_digit}

pub overflow_mul-number : goal.overflow_mul-number
overflow_mul-number c =
    let is : is_ascii_digit (get_or c.args.text.now c.loop-byte.byte-index 0) ≡ true = sym c.is_ascii_digit.ensures.value ∙ c.if-is_ascii_digit.true in
    let small : c.loop-byte.number < 10 ^ 37 = digits_number-room _ _ _ c.loop-byte-test.true is c.loop-byte.invariant c.requires in
    omega arith

pub overflow_add-number : goal.overflow_add-number
overflow_add-number c =
    let b = get_or c.args.text.now c.loop-byte.byte-index 0 in
    let is : is_ascii_digit b ≡ true = sym c.is_ascii_digit.ensures.value ∙ c.if-is_ascii_digit.true in
    let small : c.loop-byte.number < 10 ^ 37 = digits_number-room _ _ _ c.loop-byte-test.true is c.loop-byte.invariant c.requires in
    let digit : b - 48 < 10 = digit_below b is in
    omega (arith, c.from.ensures)

pub loop-byte-preserved : goal.loop-byte-preserved
loop-byte-preserved c =
    let text = c.args.text.now in
    let i = c.loop-byte.byte-index in
    elim c.if-is_ascii_digit.branch [
      | then-is_ascii_digit w ↦
          w.number-is ∙ ap (λ n. n * 10 + w.from.result) c.loop-byte.invariant ∙ ap (λ d. _ * 10 + d) w.from.ensures
          ∙ sym (digits_number-digit text i c.loop-byte-test.true (sym c.is_ascii_digit.ensures.value ∙ w.if-is_ascii_digit.true))
      | else-is_ascii_digit w ↦
          w.number-is ∙ c.loop-byte.invariant ∙ sym (digits_number-other text i c.loop-byte-test.true (sym c.is_ascii_digit.ensures.value ∙ w.if-is_ascii_digit.false))
    ]

pub returns-clause-below : goal.returns-clause-below
returns-clause-below c = digits_number-fits (take c.loop-byte.byte-index c.args.text.now) _ c.loop-byte.invariant (few_before c.args.text.now c.loop-byte.byte-index 38 c.requires)
