-- What is known of records that are fit to be a profile.
use Rattle.std.proofs.Common.{◌≡◌, ℕ, suc, ◌+◌, ◌-◌, ◌^◌, ◌<◌, ◌≤◌, ◌==◌, ◌||◌, Bool, true, false, not, nat_lt, nat_le, List, [], ◌∷◌, length, Option, Some, None, if◌then◌else◌, refl, ap, arith}
use Rattle.std.proofs.lemmas.Bool.Decides.{nat_tests}
use Rattle.std.specs.Option.{option_or}
use Rattle.trex_io.specs.Seen.{Seen}
use Rattle.trex_import.specs.Fit.{record_unfit, records_unfit, text_unfit, unfit_of}
use Rattle.trex_import.specs.Imported.{first_time, for_each, imported}

-- a record that is fit, where it has this number, and the first record and the one before it had these times
pub record IsFit (start before number : ℕ) (r : Seen) : Type 0 where
  pub few : number ≤ 4096
  pub long : 14 ≤ length r.bytes
  pub short : length r.bytes ≤ 9216
  pub later : before ≤ r.time
  pub near : r.time - start < 10 ^ 18

-- the records are fit, one after another
abbrev pub AreFit : ℕ → ℕ → ℕ → List Seen → Type 0
AreFit start before number [] = Unit {0}
AreFit start before number (r ∷ rs) = IsFit start before number r × AreFit start r.time (number + 1) rs

-- a rule that isn't broken, and those after it
kept : {E : Type 0} (test : Bool) (e : E) (rest : Option E) → (if test then Some e else rest) ≡ None → (test ≡ false) × (rest ≡ None)
kept true e rest none = absurd (cc)
kept false e rest none = (refl, none)

-- where neither of two rules is broken
neither : {E : Type 0} (a b : Option E) → option_or a b ≡ None → (a ≡ None) × (b ≡ None)
neither (Some e) b none = absurd (cc)
neither None b none = (refl, none)

-- a record that breaks no rule is fit
fit-from : (start before number : ℕ) (r : Seen) → record_unfit start before number r ≡ None → IsFit start before number r
unfolding record_unfit
fit-from start before number r none =
    let count = kept (nat_lt 4096 number) _ _ none in
    let len = kept (nat_lt (length r.bytes) 14 || nat_lt 9216 (length r.bytes)) _ _ count.1 in
    let cut = kept (not (length r.bytes == r.original)) _ _ len.1 in
    let backwards = kept (nat_lt r.time before) _ _ cut.1 in
    let late = kept (nat_le (10 ^ 18) (r.time - start)) _ _ backwards.1 in
    let few : nat_lt 4096 number ≡ false = count.0 in
    let whole : (nat_lt (length r.bytes) 14 || nat_lt 9216 (length r.bytes)) ≡ false = len.0 in
    let follows : nat_lt r.time before ≡ false = backwards.0 in
    let soon : nat_le (10 ^ 18) (r.time - start) ≡ false = late.0 in
    record {
      few = grind (arith, nat_tests);
      long = grind (arith, nat_tests);
      short = grind (arith, nat_tests);
      later = grind (arith, nat_tests);
      near = grind (arith, nat_tests);
    }

fits-from : (start before number : ℕ) (rs : List Seen) → records_unfit start before number rs ≡ None → AreFit start before number rs
fits-from start before number [] none = tt
fits-from start before number (r ∷ rs) none =
    let parts = neither (record_unfit start before number r) (records_unfit start r.time (number + 1) rs) none in
    (fit-from start before number r parts.0, fits-from start r.time (number + 1) rs parts.1)

-- fit records are numbered to 4,096 at most
few-from : (start before number : ℕ) (rs : List Seen) → number ≤ 4097 → AreFit start before number rs → number + length rs ≤ 4097
few-from start before number [] small fit = omega arith
few-from start before number (r ∷ rs) small fit =
    let here : number ≤ 4096 = fit.0.few in
    let later = few-from start r.time (number + 1) rs (omega arith) fit.1 in
    omega arith

-- records that are fit, and their text
pub record AreProfile (rs : List Seen) : Type 0 where
  pub fit : AreFit (first_time rs) (first_time rs) 1 rs
  pub few : length rs ≤ 4096
  pub text : length (imported rs) ≤ 33554432

pub profile-from : (rs : List Seen) → unfit_of rs ≡ None → AreProfile rs
unfolding unfit_of
profile-from rs none =
    let parts = neither (records_unfit (first_time rs) (first_time rs) 1 rs) (text_unfit (imported rs)) none in
    let fit = fits-from (first_time rs) (first_time rs) 1 rs parts.0 in
    let few = few-from (first_time rs) (first_time rs) 1 rs (omega arith) fit in
    let short = kept (nat_lt 33554432 (length (imported rs))) _ _ parts.1 in
    let test : nat_lt 33554432 (length (imported rs)) ≡ false = short.0 in
    record { fit = fit; few = omega arith; text = text-from (length (imported rs)) test }
  where
    text-from : (n : ℕ) → nat_lt 33554432 n ≡ false → n ≤ 33554432
    text-from n test = grind (arith, nat_tests)

-- there is one value for each record
pub count-each : {A : Type 0} (f : ℕ → ℕ → List ℕ → A) (start number : ℕ) (rs : List Seen) → length (for_each f start number rs) ≡ length rs
count-each f start number [] = refl
count-each f start number (r ∷ rs) = ap (λ n. suc n) (count-each f start (number + 1) rs)
