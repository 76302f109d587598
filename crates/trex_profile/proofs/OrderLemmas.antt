-- One step of the search for the first broken rule, and the starts in order.
use Rattle.std.proofs.Common.{◌≡◌, ℕ, ◌+◌, ◌≤◌, ◌<◌, Bool, true, false, List, [], ◌∷◌, length, get_or, map, drop, Option, Some, None, Ok, Err, if◌then◌else◌, refl, sym, ap, add-one, arith}
use Rattle.std.proofs.Math.Seq.{drop-cons}
use Rattle.trex_profile.specs.declared.refusal.Breach.{Breach}
use Rattle.trex_profile.specs.declared.fault.Fault.{Fault}
use Rattle.trex_profile.specs.declared.fault.Fault.TheVariants.{Refused, Memory}
use Rattle.trex_profile.specs.Answer.{Fails}
use Rattle.trex_profile.specs.Order.{first, first_each, unless}
use Rattle.trex_profile.specs.Stream.{Stream}
use Rattle.trex_profile.specs.Chains.{begins, starts_from}
use Rattle.trex_profile.specs.Reached.{AreRising}

first-one : {E : Type 0} (o : Option E) → first (o ∷ []) ≡ o
first-one None = refl
first-one (Some e) = refl

-- where none of a list of rules is broken
pub first-none : {E : Type 0} (e : Option E) (rules : List (Option E)) → first (e ∷ rules) ≡ None → (e ≡ None) × (first rules ≡ None)
first-none None rules none = (refl, none)
first-none (Some e) rules none = cc

-- a rule is broken here
pub first_each-here : {A B E : Type 0} (f : ℕ → B → Option E) (g : A → B) (xs : List A) (i : ℕ) (d : A) (e : E) → i < length xs → f i (g (get_or xs i d)) ≡ Some e
    → first_each f i (map g (drop i xs)) ≡ Some e
first_each-here f g xs i d e inside is = rw (drop-cons xs i d inside) (rw is)

-- no rule is broken here
pub first_each-next : {A B E : Type 0} (f : ℕ → B → Option E) (g : A → B) (xs : List A) (i : ℕ) (d : A) → i < length xs → f i (g (get_or xs i d)) ≡ None
    → first_each f (i + 1) (map g (drop (i + 1) xs)) ≡ first_each f i (map g (drop i xs))
first_each-next f g xs i d inside is = rw (drop-cons xs i d inside) (rw is (rw add-one (sym (first-one _))))

-- a value that is there breaks no rule
pub unless-kept : {A E : Type 0} (rule : Option E) (x y : A) → unless rule x ≡ Ok y → (rule ≡ None) × (x ≡ y)
unless-kept None x y is = (refl, cc)
unless-kept (Some e) x y is = absurd (cc)

-- an error is the rule that is broken
unless-broken : {A E : Type 0} (rule : Option E) (x : A) (e : E) → unless rule x ≡ Err e → rule ≡ Some e
unless-broken None x e is = absurd (cc)
unless-broken (Some other) x e is = cc

-- the fault of the first item that breaks a rule is that of all
pub fails-here : {A B X Y : Type 0} (f : ℕ → B → Option Breach) (g : A → B) (xs : List A) (i : ℕ) (d : A) (fault : Fault Breach) (x : X) (y : Y) → i < length xs
    → Fails fault (unless (f i (g (get_or xs i d))) x) → Fails fault (unless (first_each f i (map g (drop i xs))) y)
fails-here f g xs i d (Refused b) x y inside is =
    ap (λ rule. unless rule y) (first_each-here f g xs i d b inside (unless-broken (f i (g (get_or xs i d))) x b is))
fails-here f g xs i d Memory x y inside is = tt

-- rising from a place on is rising from an earlier one on
rising-earlier : (n low later : ℕ) (xs : List ℕ) → low ≤ later → AreRising n later xs → AreRising n low xs
rising-earlier n low later [] earlier rises = tt
rising-earlier n low later (x ∷ xs) earlier rises = let above : later ≤ x = rises.0 in (omega arith, rises.1, rises.2)

-- the positions of the streams that start by themselves rise
pub starts_from-rising : (n position : ℕ) (streams : List Stream) → position + length streams ≤ n → AreRising n position (starts_from position streams)
starts_from-rising n position [] room = tt
starts_from-rising n position (s ∷ streams) room = by_test (begins s) (starts_from-rising n (position + 1) streams (omega arith))
  where
    by_test : (test : Bool) → AreRising n (position + 1) (starts_from (position + 1) streams)
        → AreRising n position (if test then position ∷ starts_from (position + 1) streams else starts_from (position + 1) streams)
    by_test true later = (omega arith, omega arith, later)
    by_test false later = rising-earlier n position (position + 1) (starts_from (position + 1) streams) (omega arith) later
