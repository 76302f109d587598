-- The three texts of an entry are read back.
use Rattle.std.proofs.Common.{◌≡◌, ℕ, ◌+◌, ◌*◌, ◌/◌, ◌%◌, ◌^◌, ◌<◌, List, Some, Ok, refl, ap, ◌∙◌, arith}
use Rattle.std.specs.Result.{result_ok}
use Rattle.base64.proofs.EngineFacts.{decode_of-encode_of}
use Rattle.base64.specs.Engines.{standard}
use Rattle.base64.specs.GeneralPurpose.{IsBytes, decoded_of, encode_of}
use Rattle.trex_decimal.proofs.NumberLemmas.{scaled_of-thousandths}
use Rattle.trex_decimal.specs.Decimal.{scaled_of}
use Rattle.trex_import.specs.Imported.{microseconds}

pub scaled_of-microseconds : (ns : ℕ) → ns < 10 ^ 18 → scaled_of (microseconds ns) 3 ≡ Ok ns
scaled_of-microseconds ns small =
    let rest = ns % 1000 in
    let whole : ns / 1000 * 1000 + rest / 100 * 100 + rest / 10 % 10 * 10 + rest % 10 ≡ ns = omega arith in
    scaled_of-thousandths (ns / 1000) (rest / 100) (rest / 10 % 10) (rest % 10) (omega arith) (omega arith) (omega arith) (omega arith) ∙ ap Ok whole

pub decoded_of-encode_of : (bytes : List ℕ) → IsBytes bytes → decoded_of standard (encode_of standard bytes) ≡ Some bytes
unfolding decoded_of
decoded_of-encode_of bytes are = ap result_ok (decode_of-encode_of standard bytes refl are)
