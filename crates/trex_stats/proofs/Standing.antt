-- What one more record makes of the counts, and the lines of what is kept.
use Rattle.std.proofs.Common.{◌≡◌, ℕ, zero, suc, ◌+◌, ◌<◌, slice_index_or, ◌==◌, List, [], ◌∷◌, ◌++◌, length, refl, sym, ap, ◌∙◌, subst, arith, Bool, true, false, ◌||◌, nat_eq, IsTrue, ◌↔◌, inl, inr, Option, Some, None, MatchOption, is_some, count_by, append-nil, length-append, if◌then◌else◌}
use Rattle.std.proofs.lemmas.Bool.{cases_lt, eq-eqb, ne_eqb}
use Rattle.std.proofs.lemmas.List.Elements.{filter_map-append, All-head, All-tail}
use Rattle.std.proofs.lemmas.List.Sums.{sum_by-append, sum_by-cons}
use Rattle.std.specs.BTreeMap.{is_at}
use Rattle.std.specs.List.{All, cons_option}
use Rattle.std.specs.Map.{keys_of, lookup}
use Rattle.std.specs.Ordering.{nat_cmp, is_eq}
use Rattle.trex_io.specs.Seen.{Seen}
use Rattle.trex_stamp.specs.declared.header.Stamp.{Stamp}
use Rattle.trex_stats.specs.declared.arrival.Arrival.{Arrival}
use Rattle.trex_stats.specs.declared.flow.Flow.{Flow}
use Rattle.trex_stats.specs.declared.glimpse.Glimpse.TheVariants.{Plain, Stamped}
use Rattle.trex_stats.specs.declared.line.FlowLine.{FlowLine}
use Rattle.trex_stats.specs.Arrivals.{line_of, sequences}
use Rattle.trex_stats.specs.Counts.{Counts, CountsFor, StandsFor, glimpse_by, glimpse_of, stamp_at, arrival_of, arrival_in, arrivals, stamped_of, with_one, lines_in, lines_of}
use Rattle.trex_stats.specs.Kept.{AreFlow, AreFlows, line_in}
use Rattle.trex_stats.specs.Ranges.{has}
use Rattle.trex_stats.proofs.Members.{missing_same}
use Rattle.trex_stats.proofs.Spans.{cmp_less, cmp_same, cmp_more}

-- ---- one more record

-- flows that are those of some packets are those of the same packets
AreFlows-same : (flows : List (ℕ × Flow)) (ps qs : ℕ → List Arrival) → ((q : ℕ) → ps q ≡ qs q) → AreFlows flows ps → AreFlows flows qs
AreFlows-same flows ps qs same are = λ q. subst (λ l. MatchOption (lookup (is_at (nat_cmp q)) flows) (l ≡ []) (λ f. AreFlow f l × (0 < length l))) (same q) (are q)

arrivals-push : (rs : List Seen) (r : Seen) (q : ℕ) → arrivals (rs ++ r ∷ []) q ≡ arrivals rs q ++ cons_option (arrival_in q r.time (stamp_at r)) []
arrivals-push rs r q = filter_map-append (λ s. arrival_in q s.time (stamp_at s)) rs (r ∷ [])

of_one : (b : Bool) (ps : List Arrival) (a : Arrival) → (ps ++ cons_option (if b then Some a else None) []) ≡ (if b then ps ++ a ∷ [] else ps)
of_one true ps a = refl
of_one false ps a = append-nil ps

arrivals_stamped : (rs : List Seen) (r : Seen) (s : Stamp) → stamp_at r ≡ Some s → (q : ℕ) → with_one (arrivals rs) s.flow (arrival_of r.time s) q ≡ arrivals (rs ++ r ∷ []) q
arrivals_stamped rs r s is q =
    sym (of_one (s.flow == q) (arrivals rs q) (arrival_of r.time s))
    ∙ ap (λ o. arrivals rs q ++ cons_option (arrival_in q r.time o) []) (sym is)
    ∙ sym (arrivals-push rs r q)

arrivals_plain : (rs : List Seen) (r : Seen) → stamp_at r ≡ None → (q : ℕ) → arrivals rs q ≡ arrivals (rs ++ r ∷ []) q
arrivals_plain rs r is q =
    sym (append-nil (arrivals rs q))
    ∙ ap (λ o. arrivals rs q ++ cons_option (arrival_in q r.time o) []) (sym is)
    ∙ sym (arrivals-push rs r q)

-- counts that stand for some records are theirs but for the bytes, too
pub but_bytes : (c : Counts) (rs : List Seen) → StandsFor c rs → CountsFor c rs
but_bytes c rs stands = record { records = stands.records; stamped = stands.stamped; flows = stands.flows }

-- and with the bytes of one record more
pub with_bytes : (c mid new : Counts) (rs : List Seen) (r : Seen) → StandsFor c rs → CountsFor mid (rs ++ r ∷ []) → mid.bytes ≡ c.bytes → new.bytes ≡ mid.bytes + length r.bytes
    → new.records ≡ mid.records → new.stamped ≡ mid.stamped → new.flows ≡ mid.flows → StandsFor new (rs ++ r ∷ [])
with_bytes c mid new rs r stands counts kept bytes records stamped flows = record {
  records = records ∙ counts.records;
  bytes = omega (arith, bytes, kept, stands.bytes, sum_by-append (λ s. length s.bytes) rs (r ∷ []));
  stamped = stamped ∙ counts.stamped;
  flows = subst (λ l. AreFlows l (arrivals (rs ++ r ∷ []))) (sym flows) counts.flows;
}

module _ (c new : Counts) (rs : List Seen) (r : Seen) (stands : CountsFor c rs) (records : new.records ≡ c.records + 1) where
  all_records : new.records ≡ length (rs ++ r ∷ [])
  all_records = omega (arith, records, stands.records, length-append rs (r ∷ []))

  -- a record that counts for a flow
  pub stands_stamped : (s : Stamp) → stamp_at r ≡ Some s → new.stamped ≡ c.stamped + 1 → AreFlows new.flows (with_one (arrivals rs) s.flow (arrival_of r.time s))
      → CountsFor new (rs ++ r ∷ [])
  stands_stamped s is stamped flows =
      let one : is_some (stamp_at r) ≡ true = ap is_some is in
      let more = sum_by-append (λ t. if is_some (stamp_at t) then 1 else 0) rs (r ∷ []) in
      record {
        records = all_records;
        stamped = omega (arith, stamped, stands.stamped, rw one at more);
        flows = AreFlows-same new.flows (with_one (arrivals rs) s.flow (arrival_of r.time s)) (arrivals (rs ++ r ∷ [])) (arrivals_stamped rs r s is) flows;
      }

  -- a record that doesn't
  pub stands_plain : stamp_at r ≡ None → new.stamped ≡ c.stamped → new.flows ≡ c.flows → CountsFor new (rs ++ r ∷ [])
  stands_plain is stamped flows =
      let one : is_some (stamp_at r) ≡ false = ap is_some is in
      let more = sum_by-append (λ t. if is_some (stamp_at t) then 1 else 0) rs (r ∷ []) in
      record {
        records = all_records;
        stamped = omega (arith, stamped, stands.stamped, rw one at more);
        flows = subst (λ l. AreFlows l (arrivals (rs ++ r ∷ []))) (sym flows) (AreFlows-same c.flows (arrivals rs) (arrivals (rs ++ r ∷ [])) (arrivals_plain rs r is) stands.flows);
      }

-- ---- records that count for no flow

front_kept : (r : Seen) (rs : List Seen) → is_some (stamp_at r) ≡ true → stamped_of (r ∷ rs) ≡ r ∷ stamped_of rs
front_kept r rs is = ap (λ b. if b then r ∷ stamped_of rs else stamped_of rs) is

front_left : (r : Seen) (rs : List Seen) → is_some (stamp_at r) ≡ false → stamped_of (r ∷ rs) ≡ stamped_of rs
front_left r rs is = ap (λ b. if b then r ∷ stamped_of rs else stamped_of rs) is

-- a flow's packets are among the records that count for a flow
arrivals_in_front : (r : Seen) (rs : List Seen) (q : ℕ) (o : Option Stamp) → stamp_at r ≡ o → arrivals (stamped_of rs) q ≡ arrivals rs q → arrivals (stamped_of (r ∷ rs)) q ≡ arrivals (r ∷ rs) q
arrivals_in_front r rs q None is same =
    ap (λ l. arrivals l q) (front_left r rs (ap is_some is)) ∙ same ∙ ap (λ o. cons_option (arrival_in q r.time o) (arrivals rs q)) (sym is)
arrivals_in_front r rs q (Some s) is same =
    ap (λ l. arrivals l q) (front_kept r rs (ap is_some is)) ∙ ap (cons_option (arrival_in q r.time (stamp_at r))) same

arrivals-stamped_of : (rs : List Seen) (q : ℕ) → arrivals (stamped_of rs) q ≡ arrivals rs q
arrivals-stamped_of [] q = refl
arrivals-stamped_of (r ∷ rs) q = arrivals_in_front r rs q (stamp_at r) refl (arrivals-stamped_of rs q)

-- and so many are they
abbrev stamped_in : List Seen → ℕ
stamped_in rs = count_by (λ t. is_some (stamp_at t)) rs

stamped_in_front : (r : Seen) (rs : List Seen) (b : Bool) → is_some (stamp_at r) ≡ b → stamped_in (stamped_of rs) ≡ stamped_in rs → stamped_in (stamped_of (r ∷ rs)) ≡ stamped_in (r ∷ rs)
stamped_in_front r rs true is same =
    let one : Seen → ℕ = λ t. if is_some (stamp_at t) then 1 else 0 in
    ap stamped_in (front_kept r rs is) ∙ omega (arith, same, sum_by-cons one r (stamped_of rs), sum_by-cons one r rs)
stamped_in_front r rs false is same =
    let one : Seen → ℕ = λ t. if is_some (stamp_at t) then 1 else 0 in
    let none : one r ≡ 0 = ap (λ b. if b then 1 else 0) is in
    ap stamped_in (front_left r rs is) ∙ omega (arith, same, none, sum_by-cons one r rs)

in-stamped_of : (rs : List Seen) → stamped_in (stamped_of rs) ≡ stamped_in rs
in-stamped_of [] = refl
in-stamped_of (r ∷ rs) = stamped_in_front r rs (is_some (stamp_at r)) refl (in-stamped_of rs)

-- the counts of those, and as many more records as count for none
pub stands_filled : (c new : Counts) (rs : List Seen) → CountsFor c (stamped_of rs) → new.records ≡ length rs → new.stamped ≡ c.stamped → new.flows ≡ c.flows → CountsFor new rs
stands_filled c new rs counts records stamped flows = record {
  records = records;
  stamped = stamped ∙ counts.stamped ∙ in-stamped_of rs;
  flows = subst (λ l. AreFlows l (arrivals rs)) (sym flows) (AreFlows-same c.flows (arrivals (stamped_of rs)) (arrivals rs) (arrivals-stamped_of rs) counts.flows);
}

-- a record of which the counts take a stamp has this stamp
pub record HasStamp (r : Seen) (flow sequence sent : ℕ) : Type 0 where
  pub stamp : Stamp
  pub there : stamp_at r ≡ Some stamp
  pub flow_is : stamp.flow ≡ flow
  pub arrival_is : (came : ℕ) → arrival_of came stamp ≡ record { sequence = sequence; sent = sent; came = came }

stamp_by : (r : Seen) (flow sequence sent : ℕ) (o : Option Stamp) → stamp_at r ≡ o → glimpse_by o ≡ Stamped flow sequence sent → HasStamp r flow sequence sent
stamp_by r flow sequence sent None is glimpse = cc
stamp_by r flow sequence sent (Some s) is glimpse =
    let number : s.sequence ≡ sequence = cc in
    let time : s.time ≡ sent = cc in
    record { stamp = s; there = is; flow_is = cc; arrival_is = λ came. rw (number, time) refl }

pub glimpse_stamped : (r : Seen) (flow sequence sent : ℕ) → glimpse_of r.bytes r.original ≡ Stamped flow sequence sent → HasStamp r flow sequence sent
glimpse_stamped r flow sequence sent glimpse = stamp_by r flow sequence sent (stamp_at r) refl glimpse

-- a record of which they take none has none
plain_by : (o : Option Stamp) → glimpse_by o ≡ Plain → o ≡ None
plain_by None glimpse = refl
plain_by (Some s) glimpse = cc

pub glimpse_plain : (r : Seen) → glimpse_of r.bytes r.original ≡ Plain → stamp_at r ≡ None
glimpse_plain r glimpse = plain_by (stamp_at r) glimpse

-- ---- lines

-- the line of what is kept of a flow is that of its packets
kept_line : (flow : ℕ) (f : Flow) (ps : List Arrival) → AreFlow f ps → line_in (flow, f) ≡ line_of flow ps
unfolding line_of
kept_line flow f ps are =
    rw (are.received, are.order.duplicates, missing_same f.order.seen (sequences ps) are.order.seen, are.order.reordered, are.delays.early, are.delays.least, are.delays.greatest, are.delays.total) refl

-- the same of a flow that is found among those that are kept
pub found_line : (flow : ℕ) (f : Flow) (flows : List (ℕ × Flow)) (rs : List Seen) → lookup (is_at (nat_cmp flow)) flows ≡ Some f → AreFlows flows (arrivals rs)
    → line_in (flow, f) ≡ line_of flow (arrivals rs flow)
found_line flow f flows rs found are =
    let one : AreFlow f (arrivals rs flow) × (0 < length (arrivals rs flow)) =
    subst (λ o. MatchOption o (arrivals rs flow ≡ []) (λ g. AreFlow g (arrivals rs flow) × (0 < length (arrivals rs flow)))) found (are flow) in
    kept_line flow f (arrivals rs flow) one.0

-- all lines
pub found_lines : (part flows : List (ℕ × Flow)) (rs : List Seen) → All (λ e. lookup (is_at (nat_cmp e.0)) flows ≡ Some e.1) part → AreFlows flows (arrivals rs)
    → lines_in part ≡ lines_of rs (keys_of part)
found_lines [] flows rs found are = refl
found_lines (e ∷ part) flows rs found are =
    let P : ℕ × Flow → Type 0 = λ x. lookup (is_at (nat_cmp x.0)) flows ≡ Some x.1 in
    let first = found_line e.0 e.1 flows rs (All-head P e part found) are in
    let rest = found_lines part flows rs (All-tail P e part found) are in
    cc

-- the line at a place
pub line_by_place : (part flows : List (ℕ × Flow)) (rs : List Seen) (place : ℕ) (line : FlowLine) → All (λ e. lookup (is_at (nat_cmp e.0)) flows ≡ Some e.1) part
    → AreFlows flows (arrivals rs) → place < length part → ((d : FlowLine) → line ≡ slice_index_or (lines_in part) place d) → line ≡ line_of line.flow (arrivals rs line.flow)
line_by_place [] flows rs place line found are within is = absurd (omega arith)
line_by_place (e ∷ part) flows rs zero line found are within is =
    let P : ℕ × Flow → Type 0 = λ x. lookup (is_at (nat_cmp x.0)) flows ≡ Some x.1 in
    subst (λ l. l ≡ line_of l.flow (arrivals rs l.flow)) (sym (is (line_in e))) (found_line e.0 e.1 flows rs (All-head P e part found) are)
line_by_place (e ∷ part) flows rs (suc place) line found are within is =
    line_by_place part flows rs place line (All-tail (λ x. lookup (is_at (nat_cmp x.0)) flows ≡ Some x.1) e part found) are (omega arith) is

-- ---- which flows there are

at_is_eq : (q k : ℕ) → is_at (nat_cmp q) k ≡ nat_eq q k
at_is_eq q k =
    elim (cases_lt q k) [
      | inl less ↦ ap is_eq (cmp_less q k less) ∙ sym (ne_eqb q k (omega arith))
      | inr not_less ↦ elim (cases_lt k q) [
        | inl more ↦ ap is_eq (cmp_more q k more) ∙ sym (ne_eqb q k (omega arith))
        | inr not_more ↦ ap is_eq (cmp_same q k (omega arith)) ∙ sym (eq-eqb q k (omega arith))
      ]
    ]

found_or_not : (b : Bool) (f : Flow) (o : Option Flow) → is_some (if b then Some f else o) ≡ (b || is_some o)
found_or_not true f o = refl
found_or_not false f o = refl

-- a flow is found where its number is among those that are kept
found_has : (q : ℕ) (flows : List (ℕ × Flow)) → is_some (lookup (is_at (nat_cmp q)) flows) ≡ has (keys_of flows) q
found_has q [] = refl
found_has q (e ∷ flows) =
    found_or_not (is_at (nat_cmp q) e.0) e.1 (lookup (is_at (nat_cmp q)) flows)
    ∙ ap (λ b. b || is_some (lookup (is_at (nat_cmp q)) flows)) (at_is_eq q e.0)
    ∙ ap (λ b. nat_eq q e.0 || b) (found_has q flows)

present_if : (o : Option Flow) (b : Bool) (ps : List Arrival) → is_some o ≡ b → MatchOption o (ps ≡ []) (λ f. AreFlow f ps × (0 < length ps)) → IsTrue b ↔ (0 < length ps)
present_if None b ps is are = (λ there. cc, λ some. absurd (omega (arith, ap length are)))
present_if (Some f) b ps is are = (λ there. are.1, λ some. sym is)

-- the flows that are kept are those that have packets
pub kept_present : (flows : List (ℕ × Flow)) (ps : ℕ → List Arrival) → AreFlows flows ps → (q : ℕ) → IsTrue (has (keys_of flows) q) ↔ (0 < length (ps q))
kept_present flows ps are q = present_if (lookup (is_at (nat_cmp q)) flows) (has (keys_of flows) q) (ps q) (found_has q flows) (are q)
