-- The streams of fit records keep the rules on values, and those over several streams.
use Rattle.std.proofs.Common.{◌≡◌, ℕ, zero, suc, ◌+◌, ◌-◌, ◌<◌, ◌≤◌, Bool, true, false, nat_eq, ◌||◌, List, [], ◌∷◌, length, filter, map, take, Option, None, Ok, cond, refl, ap, ◌∙◌, arith, ne_eqb, le-ltb}
use Rattle.std.proofs.lemmas.Bool.{eqb-true}
use Rattle.std.specs.List.{AllByRecursion, list_any}
use Rattle.trex_import.specs.Imported.{first_time, for_each, imported}
use Rattle.trex_import.specs.Drafts.{HaveBytes}
use Rattle.trex_import.specs.Fit.{unfit_of}
use Rattle.trex_io.specs.Seen.{Seen}
use Rattle.trex_json.specs.Verdict.{verdict}
use Rattle.trex_profile.proofs.OrderLemmas.{starts_from-rising}
use Rattle.trex_profile.specs.declared.refusal.Refusal.{Refusal}
use Rattle.trex_profile.specs.Admission.{admitted}
use Rattle.trex_profile.specs.Chains.{starts}
use Rattle.trex_profile.specs.Cross.{cross_rules, duplicate_refusal, flow_refusal, lost_refusal, shared_refusal}
use Rattle.trex_profile.specs.InstrRules.{does_rules, length_rules, names_rules, place_rules}
use Rattle.trex_profile.specs.Links.{effective_next, ids, links}
use Rattle.trex_profile.specs.Order.{first_each, ◌>>=◌}
use Rattle.trex_profile.specs.Reached.{AreRising}
use Rattle.trex_profile.specs.Rules.{time_rules, value_refusal, value_rules}
use Rattle.trex_profile.specs.Stream.{Stream}
use Rattle.trex_profile.specs.Visits.{Round, comes_to, has, is_shared, link_at, reach_of, round_of, visits}
use Rattle.trex_import_law.proofs.Entries.{imported-shape}
use Rattle.trex_import_law.proofs.Fit.{AreFit, profile-from}
use Rattle.trex_import_law.specs.Resent.{once, streams_of}

-- ---- values

-- a packet of 14 to 9,216 bytes, once, at a billion packets a second
value-fits : (id ns : ℕ) (bytes : List ℕ) → 14 ≤ length bytes → length bytes ≤ 9216 → value_rules (once id ns bytes) ≡ None
unfolding value_rules time_rules names_rules does_rules length_rules place_rules
value-fits id ns bytes long short = rw (le-ltb (length bytes) 14 long, le-ltb 9216 (length bytes) short) refl

-- the rules on values, stream by stream
values-fit : (position start before number : ℕ) (rs : List Seen) → AreFit start before number rs → first_each value_refusal position (for_each once start number rs) ≡ None
values-fit position start before number [] fit = refl
values-fit position start before number (r ∷ rs) fit =
    rw (value-fits number (r.time - start) r.bytes fit.0.long fit.0.short, values-fit (position + 1) start r.time (number + 1) rs fit.1) refl

-- ---- ids

-- the first k streams have ids below the next one's
ids-below : (bound k start number : ℕ) (rs : List Seen) → number + k ≤ bound → AllByRecursion (λ id. id < bound) (take k (ids (for_each once start number rs)))
ids-below bound zero start number rs within = tt
ids-below bound (suc k) start number [] within = tt
ids-below bound (suc k) start number (r ∷ rs) within = (omega arith, ids-below bound k start (number + 1) rs (omega arith))

-- a number is none of those below it
absent : (id : ℕ) (others : List ℕ) → AllByRecursion (λ other. other < id) others → list_any (nat_eq id) others ≡ false
absent id [] below = refl
absent id (other ∷ others) below =
    let less : other < id = below.0 in
    rw (ne_eqb id other (λ e. omega arith)) (absent id others below.1)

-- where the ids before a position are below the one there, none comes twice
no-duplicate : (all : List ℕ) (position start number : ℕ) (rs : List Seen)
    → ((k id : ℕ) → k + 1 ≡ id → AllByRecursion (λ other. other < id) (take k all))
    → position + 1 ≡ number → first_each (duplicate_refusal all) position (for_each once start number rs) ≡ None
no-duplicate all position start number [] below at = refl
no-duplicate all position start number (r ∷ rs) below at =
    rw (absent number (take position all) (below position number at), no-duplicate all (position + 1) start (number + 1) rs below (omega arith)) refl

-- ---- next streams, and chains

-- a rule that no stream of one packet breaks
none-each : (rule : ℕ → Stream → Option Refusal) → ((position id ns : ℕ) (bytes : List ℕ) → rule position (once id ns bytes) ≡ None)
    → (position start number : ℕ) (rs : List Seen) → first_each rule position (for_each once start number rs) ≡ None
none-each rule none position start number [] = refl
none-each rule none position start number (r ∷ rs) =
    rw (none position number (r.time - start) r.bytes, none-each rule none (position + 1) start (number + 1) rs) refl

-- nothing follows a stream of a record
pub no-links : (all : List Stream) (start number : ℕ) (rs : List Seen) (at : ℕ) → link_at (map (effective_next all) (for_each once start number rs)) at ≡ None
no-links all start number [] at = refl
no-links all start number (r ∷ rs) zero = refl
no-links all start number (r ∷ rs) (suc at) = no-links all start (number + 1) rs at

-- a position that nothing follows is a round of its own
pub round-alone : (links : List (Option ℕ)) (start : ℕ) → link_at links start ≡ None → round_of links start ≡ record { order = start ∷ []; back = None }
unfolding visits
round-alone links start none = rw none refl

or-none : (b : Bool) → (b || false) ≡ b
or-none true = refl
or-none false = refl

-- where nothing follows any position
module _ (links : List (Option ℕ)) (none : (at : ℕ) → link_at links at ≡ None) where
  -- a chain comes to its first position alone
  comes_to-itself : (at start : ℕ) → comes_to links at start ≡ nat_eq at start
  comes_to-itself at start = ap (λ (round : Round). has round.order at) (round-alone links start (none start)) ∙ or-none (nat_eq at start)

  -- no chain that begins above a position comes to it
  none-comes : (at n low : ℕ) (starts : List ℕ) → at < low → AreRising n low starts → filter (comes_to links at) starts ≡ []
  none-comes at n low [] above rising = refl
  none-comes at n low (start ∷ starts) above rising =
      let later : low ≤ start = rising.0 in
      rw (comes_to-itself at start, ne_eqb at start (λ e. omega arith)) (none-comes at n (start + 1) starts (omega arith) rising.2)

  -- no two chains come to one position
  unshared : (at n low : ℕ) (starts : List ℕ) → AreRising n low starts → is_shared (reach_of (filter (comes_to links at) starts)) ≡ false
  unshared at n low [] rising = refl
  unshared at n low (start ∷ starts) rising = rw (comes_to-itself at start) (by_test (nat_eq at start) refl (unshared at n (start + 1) starts rising.2))
    where
      by_test : (test : Bool) → nat_eq at start ≡ test → is_shared (reach_of (filter (comes_to links at) starts)) ≡ false
          → is_shared (reach_of (cond test (start ∷ filter (comes_to links at) starts) (filter (comes_to links at) starts))) ≡ false
      by_test true is later =
          let same : at ≡ start = eqb-true at start is in
          rw (none-comes at n (start + 1) starts (omega arith) rising.2) refl
      by_test false is later = later

-- ---- all rules

cross-fit : (rs : List Seen) → cross_rules (streams_of rs) ≡ None
unfolding cross_rules
cross-fit rs =
    let start = first_time rs in
    let all = streams_of rs in
    let one_each : (position id ns : ℕ) (bytes : List ℕ) → shared_refusal (links all) (starts all) position (once id ns bytes) ≡ None =
    λ position id ns bytes. rw (unshared (links all) (no-links all start 1 rs) position (length all) 0 (starts all) (starts_from-rising (length all) 0 all (omega arith))) refl in
    rw (
      no-duplicate (ids all) 0 start 1 rs (λ k id at. ids-below id k start 1 rs (omega arith)) refl,
      none-each (lost_refusal (ids all)) (λ position id ns bytes. refl) 0 start 1 rs,
      none-each (shared_refusal (links all) (starts all)) one_each 0 start 1 rs,
      none-each (flow_refusal all) (λ position id ns bytes. refl) 0 start 1 rs,
    ) refl

pub imported-verdict : (rs : List Seen) → unfit_of rs ≡ None → HaveBytes rs → verdict (imported rs) ≡ Ok (streams_of rs)
imported-verdict rs fit have =
    let are = profile-from rs fit in
    ap (λ shape. shape >>= admitted) (imported-shape rs are have) ∙ rw (values-fit 0 (first_time rs) (first_time rs) 1 rs are.fit, cross-fit rs) refl
