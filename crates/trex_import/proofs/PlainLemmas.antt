-- Texts whose characters stand for themselves in JSON (RFC 8259, section 7): decimals and base64 are such.
use Rattle.std.proofs.Common.{◌≡◌, ◌≢◌, ℕ, zero, suc, ◌+◌, ◌*◌, ◌/◌, ◌%◌, ◌<◌, ◌≤◌, Bool, true, false, not, cond, ◌&&◌, ◌==◌, nat_le, nat_lt, List, [], ◌∷◌, ◌++◌, length, replicate, decimal, refl, ap₂, ◌∙◌, arith, lt-ltb}
use Rattle.std.proofs.lemmas.Bool.{and_parts}
use Rattle.std.proofs.lemmas.Bool.Decides.{nat_tests}
use Rattle.std.proofs.lemmas.List.Folds.{list_all-append}
use Rattle.std.specs.Fmt.{digits, digits_onto, digit_glyph}
use Rattle.std.specs.List.{list_all, slice_index}
use Rattle.base64.specs.Engines.{standard}
use Rattle.base64.specs.GeneralPurpose.{IsBytes, encode_of, engine_symbols}
use Rattle.base64.specs.Rfc4648.{encode_symbols, padding_len}
use Rattle.json.proofs.Printed.Strings.{escape_byte_plain}
use Rattle.json.specs.Print.{escape}
use Rattle.trex_import.specs.Imported.{microseconds, three_digits}

-- a printable character of ASCII other than the quote and the backslash
abbrev pub is_plain : ℕ → Bool
is_plain b = nat_le 32 b && (nat_lt b 127 && (not (b == 34) && not (b == 92)))

abbrev pub is_plain_text : List ℕ → Bool
is_plain_text = list_all is_plain

-- what the test tells
pub record IsPlainByte (b : ℕ) : Type 0 where
  pub printable : 32 ≤ b
  pub ascii : b < 127
  pub no_quote : b ≢ 34
  pub no_backslash : b ≢ 92

pub plain_tells : (b : ℕ) → is_plain b ≡ true → IsPlainByte b
plain_tells b e = record { printable = grind (arith, nat_tests); ascii = grind (arith, nat_tests); no_quote = grind (arith, nat_tests); no_backslash = grind (arith, nat_tests) }

-- the test from what it tells
plain_from : (b : ℕ) → IsPlainByte b → is_plain b ≡ true
plain_from b h = grind (arith, nat_tests)

pub plain-append : (s t : List ℕ) → is_plain_text s ≡ true → is_plain_text t ≡ true → is_plain_text (s ++ t) ≡ true
plain-append s t p q = list_all-append is_plain s t ∙ ap₂ (λ a b. a && b) p q

-- a plain text is not escaped
pub escape-plain : (s : List ℕ) → is_plain_text s ≡ true → escape s ≡ s
escape-plain [] e = refl
escape-plain (b ∷ s) e =
    let parts = and_parts (is_plain b) (is_plain_text s) e in
    let tells = plain_tells b parts.0 in
    ap₂ (λ x y. x ++ y) (escape_byte_plain b tells.no_quote tells.no_backslash tells.printable) (escape-plain s parts.1)

-- ---- decimals

digit_is_plain : (n : ℕ) → n < 10 → is_plain (48 + n) ≡ true
digit_is_plain n small = plain_from (48 + n) (record { printable = omega arith; ascii = omega arith; no_quote = λ e. omega arith; no_backslash = λ e. omega arith })

glyph_is_plain : (n : ℕ) → is_plain (digit_glyph false (n % 10)) ≡ true
glyph_is_plain n = let small : n % 10 < 10 = omega arith in rw (lt-ltb (n % 10) 10 small) (digit_is_plain (n % 10) small)

either_plain : (b : Bool) (s t : List ℕ) → is_plain_text s ≡ true → is_plain_text t ≡ true → is_plain_text (cond b s t) ≡ true
either_plain true s t p q = p
either_plain false s t p q = q

digits_are_plain : (k n : ℕ) (rest : List ℕ) → is_plain_text rest ≡ true → is_plain_text (digits_onto k 10 false n rest) ≡ true
digits_are_plain zero n rest e = e
digits_are_plain (suc k) n rest e =
    let more : is_plain_text (digit_glyph false (n % 10) ∷ rest) ≡ true = ap₂ (λ a b. a && b) (glyph_is_plain n) e in
    either_plain (n / 10 == 0) (digit_glyph false (n % 10) ∷ rest) (digits_onto k 10 false (n / 10) (digit_glyph false (n % 10) ∷ rest)) more
    (digits_are_plain k (n / 10) (digit_glyph false (n % 10) ∷ rest) more)

pub plain-decimal : (n : ℕ) → is_plain_text (decimal n) ≡ true
unfolding digits
plain-decimal n = digits_are_plain 64 n [] refl

plain-three_digits : (n : ℕ) → n < 1000 → is_plain_text (three_digits n) ≡ true
plain-three_digits n small =
    rw (digit_is_plain (n / 100) (omega arith), digit_is_plain (n / 10 % 10) (omega arith), digit_is_plain (n % 10) (omega arith)) refl

pub plain-microseconds : (ns : ℕ) → is_plain_text (microseconds ns) ≡ true
plain-microseconds ns =
    plain-append (decimal (ns / 1000)) (46 ∷ three_digits (ns % 1000)) (plain-decimal (ns / 1000)) (plain-three_digits (ns % 1000) (omega arith))

-- ---- base64

-- a symbol of the alphabet, by its place
symbol_is_plain : (i : ℕ) → i < 64 → is_plain (slice_index (engine_symbols standard) i) ≡ true
symbol_is_plain i small = all_at (engine_symbols standard) refl i small
  where
    all_at : (s : List ℕ) → is_plain_text s ≡ true → (i : ℕ) → i < length s → is_plain (slice_index s i) ≡ true
    all_at [] e i within = absurd (omega arith)
    all_at (b ∷ s) e zero within = (and_parts (is_plain b) (is_plain_text s) e).0
    all_at (b ∷ s) e (suc i) within = all_at s (and_parts (is_plain b) (is_plain_text s) e).1 i (omega arith)

plain-symbols : (m : List ℕ) → IsBytes m → is_plain_text (encode_symbols (engine_symbols standard) m) ≡ true
unfolding encode_symbols
plain-symbols [] bytes = refl
plain-symbols (a ∷ []) bytes =
    let one : a < 256 = bytes 0 in
    rw (symbol_is_plain (a / 4) (omega arith), symbol_is_plain (a % 4 * 16) (omega arith)) refl
plain-symbols (a ∷ b ∷ []) bytes =
    let one : a < 256 = bytes 0 in
    let two : b < 256 = bytes 1 in
    rw (symbol_is_plain (a / 4) (omega arith), symbol_is_plain (a % 4 * 16 + b / 16) (omega arith), symbol_is_plain (b % 16 * 4) (omega arith)) refl
plain-symbols (a ∷ b ∷ c ∷ rest) bytes =
    let one : a < 256 = bytes 0 in
    let two : b < 256 = bytes 1 in
    let three : c < 256 = bytes 2 in
    rw (symbol_is_plain (a / 4) (omega arith), symbol_is_plain (a % 4 * 16 + b / 16) (omega arith), symbol_is_plain (b % 16 * 4 + c / 64) (omega arith), symbol_is_plain (c % 64) (omega arith))
    (plain-symbols rest (λ i. bytes (suc (suc (suc i)))))

plain-replicate : (n b : ℕ) → is_plain b ≡ true → is_plain_text (replicate n b) ≡ true
plain-replicate zero b e = refl
plain-replicate (suc n) b e = ap₂ (λ x y. x && y) e (plain-replicate n b e)

pub plain-encode_of : (m : List ℕ) → IsBytes m → is_plain_text (encode_of standard m) ≡ true
plain-encode_of m bytes =
    plain-append (encode_symbols (engine_symbols standard) m) (replicate (padding_len (length m)) 61) (plain-symbols m bytes) (plain-replicate (padding_len (length m)) 61 refl)
