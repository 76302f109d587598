-- Where nothing is wrong with the words, each option's value is a number within its limits.
use Rattle.std.proofs.Common.{◌≡◌, ℕ, ◌+◌, ◌/◌, ◌^◌, ◌<◌, ◌≤◌, ◌==◌, Bool, true, false, cond, List, length, Option, None, Some, is_some, codes, refl, sym, ap, ◌∙◌, subst, arith, nat_le}
use Rattle.std.specs.Str.{bytes_eq}
use Rattle.std.specs.Str.Parse.{digits_value}
use Rattle.std.proofs.lemmas.Slice.Eq.{bytes_eq-Decides}
use Rattle.std.proofs.lemmas.Bool.Decides.{nat_tests}
use Rattle.trex_words.specs.declared.command.Command.{Command}
use Rattle.trex_words.specs.declared.command.Command.TheVariants.{Run, Check, Analyze, Sample, Import, Wire, Session, Help}
use Rattle.trex_words.specs.declared.options.Limits.{Limits}
use Rattle.trex_words.specs.declared.asked.Usage.TheVariants.{Repeated, NoValue, BadNumber, OutOfRange}
use Rattle.trex_words.specs.Asked.{Options, schedule_options, options_of, limits_of, word, option_at, value_place, option_fault, pair_fault, fault_of, is_number, is_within}
use Rattle.trex_words.proofs.Firsts.{first_of-none, first_of-some}
use Rattle.trex_words.proofs.Numbers.{both, le_of}

-- a value that stands at a place within the words, is a number and lies within limits
pub record IsSound (words : List (List ℕ)) (at : ℕ) (l : Limits) : Type 0 where
  pub within : at < length words
  pub number : is_number (word words at) ≡ true
  pub least : l.least ≤ digits_value 10 (word words at)
  pub greatest : digits_value 10 (word words at) ≤ l.greatest

unless_true : {X : Type 0} (c : Bool) (x : X) (y : Option X) → cond c (Some x) y ≡ None → (c ≡ false) × (y ≡ None)
unless_true true x y e = cc
unless_true false x y e = (refl, e)

only_true : {X : Type 0} (c : Bool) (x : X) (y : Option X) → cond c y (Some x) ≡ None → (c ≡ true) × (y ≡ None)
only_true true x y e = (refl, e)
only_true false x y e = cc

placed : (c : Bool) (p at : ℕ) → cond c (Some p) None ≡ Some at → (c ≡ true) × (p ≡ at)
placed true p at e = (refl, cc)
placed false p at e = cc

other : (m n : ℕ) → (m == n) ≡ false → m ≡ n → ⊥
other m n e = grind (arith, nat_tests)

sound_pair : (words : List (List ℕ)) (at : ℕ) (l : Limits) (stood : Bool) → at + 1 ≤ length words → option_fault (Some l) stood words at ≡ None → IsSound words (at + 1) l
sound_pair words at l stood room e =
    let (once, rest) = unless_true stood (Repeated at) _ e in
    let (more, value) = unless_true (length words == at + 1) (NoValue at) _ rest in
    let (number, range) = only_true (is_number (word words (at + 1))) (BadNumber (at + 1)) _ value in
    let (within, done) = only_true (is_within l.least l.greatest (word words (at + 1))) (OutOfRange (at + 1)) None range in
    let n = digits_value 10 (word words (at + 1)) in
    let (low, high) = both (nat_le l.least n) (nat_le n l.greatest) within in
    let not_last : length words ≡ at + 1 → ⊥ = other (length words) (at + 1) more in
    record { within = omega arith; number = number; least = le_of l.least n low; greatest = le_of n l.greatest high }

pub sound_value : (options : Options) (words : List (List ℕ)) (name : List ℕ) (l : Limits) (at : ℕ)
    → limits_of options name ≡ Some l → fault_of options words ≡ None → value_place words (length words / 2) name ≡ Some at → IsSound words at l
unfolding fault_of
sound_value options words name l at known faultless stands =
    let (k, less, here) = first_of-some (λ k. cond (bytes_eq (word words (option_at k)) name) (Some (option_at k + 1)) None) (length words / 2) at stands in
    let (same, place) = placed (bytes_eq (word words (option_at k)) name) (option_at k + 1) at here in
    let spelt : word words (option_at k) ≡ name = (bytes_eq-Decides (word words (option_at k)) name).0 same in
    let fine : pair_fault options words k ≡ None = first_of-none (pair_fault options words) (length words / 2) k faultless less in
    let stood = is_some (value_place words k (word words (option_at k))) in
    let named : limits_of options (word words (option_at k)) ≡ Some l = ap (limits_of options) spelt ∙ known in
    let sound : option_fault (Some l) stood words (option_at k) ≡ None = ap (λ o. option_fault o stood words (option_at k)) (sym named) ∙ fine in
    subst (λ p. IsSound words p l) place (sound_pair words (option_at k) l stood (omega arith) sound)

some_greatest : (c : Bool) (x : Limits) (rest : Option Limits) (l : Limits) → x.greatest < 2 ^ 64 → (rest ≡ Some l → l.greatest < 2 ^ 64) → cond c (Some x) rest ≡ Some l → l.greatest < 2 ^ 64
some_greatest true x rest l fits others e = let same : x ≡ l = cc in subst (λ l. l.greatest < 2 ^ 64) same fits
some_greatest false x rest l fits others e = others e

schedule_fits : (name : List ℕ) (l : Limits) → limits_of schedule_options name ≡ Some l → l.greatest < 2 ^ 64
schedule_fits name l =
    some_greatest (bytes_eq name (codes "--duration")) _ _ l (omega arith)
    (some_greatest (bytes_eq name (codes "--limit")) _ _ l (omega arith)
    (some_greatest (bytes_eq name (codes "--cores")) _ _ l (omega arith) (λ none. cc)))

-- each option's greatest value fits a u64
pub greatest_fits : (command : Command) (name : List ℕ) (l : Limits) → limits_of (options_of command) name ≡ Some l → l.greatest < 2 ^ 64
greatest_fits Run name l e = some_greatest (bytes_eq name (codes "--base")) _ _ l (omega arith) (schedule_fits name l) e
greatest_fits Check name l e = cc
greatest_fits Analyze name l e = cc
greatest_fits Sample name l e =
    some_greatest (bytes_eq name (codes "--seed")) _ _ l (omega arith)
    (some_greatest (bytes_eq name (codes "--streams")) _ _ l (omega arith) (schedule_fits name l))
    e
greatest_fits Import name l e = cc
greatest_fits Wire name l e =
    some_greatest (bytes_eq name (codes "--seed")) _ _ l (omega arith)
    (some_greatest (bytes_eq name (codes "--loss")) _ _ l (omega arith)
    (some_greatest (bytes_eq name (codes "--copy")) _ _ l (omega arith)
    (some_greatest (bytes_eq name (codes "--delay")) _ _ l (omega arith) (λ none. cc))))
    e
greatest_fits Session name l e = cc
greatest_fits Help name l e = cc
