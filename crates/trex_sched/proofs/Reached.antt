-- The runs that a chain comes to: their visits took at least 1 ns a packet.
use Rattle.std.proofs.Common.{◌≡◌, ℕ, ◌+◌, ◌*◌, ◌<◌, ◌≤◌, nat_lt, Bool, true, false, cond, length, unwrap_or, Option, None, Some, refl, sym, ap, ◌∙◌, arith, inl, inr}
use Rattle.std.proofs.lemmas.Bool.{cases_lt}
use Rattle.std.proofs.lemmas.Bool.Decides.{nat_tests}
use Rattle.std.proofs.lemmas.Option.{slice_get_within}
use Rattle.std.proofs.Math.Nat.{add-mul, mul-le-mul_left}
use Rattle.std.specs.List.{slice_get}
use Rattle.trex_sched.specs.declared.chain.Leg.{Leg}
use Rattle.trex_sched.specs.declared.run.Run.{Run}
use Rattle.trex_sched.specs.Chain.{Chain, IsChain}
use Rattle.trex_sched.specs.Runs.{run_after, run_at}
use Rattle.trex_sched.specs.Times.{HasPackets, size}
use Rattle.trex_sched.specs.Remaining.{back_of, IsReachable, visits_of}
use Rattle.trex_sched.proofs.Offsets.{size_pos}
use Rattle.trex_sched.proofs.RunLemmas.{all_get, begins, follows, Follows, lasts_long}

-- a leg visited in this round already, and one that isn't
visits_before : (run : Run) (place : ℕ) → place < run.place → visits_of run place ≡ run.visit + 1
visits_before run place less =
    let test : nat_lt place run.place ≡ true = grind (arith, nat_tests) in
    ap (λ (b : Bool). cond b (run.visit + 1) run.visit) test

visits_from : (run : Run) (place : ℕ) → run.place ≤ place → visits_of run place ≡ run.visit
visits_from run place over =
    let test : nat_lt place run.place ≡ false = grind (arith, nat_tests) in
    ap (λ (b : Bool). cond b (run.visit + 1) run.visit) test

-- the first run of a chain is reached
pub reached_first : (chain : Chain) (t : ℕ) (run : Run) → run_at chain 0 0 t ≡ Some run → IsReachable chain run
reached_first chain t run is =
    let b = begins chain 0 0 t run is in
    record {
      at_place = ap (slice_get chain.legs) b.place_is ∙ b.leg_at;
      first = λ before. b.visit_is;
      sent = λ place leg at after.
          let none : visits_of run place ≡ 0 = visits_from run place (omega (arith, b.place_is)) ∙ b.visit_is in
          let e : visits_of run place * unwrap_or (size leg) 0 ≡ 0 * unwrap_or (size leg) 0 = ap (λ (n : ℕ). n * unwrap_or (size leg) 0) none in
          omega arith;
    }

-- The leg of a run that goes by has been visited once more, and so much was sent.
went_by : (chain : Chain) (run next : Run) (place : ℕ) (leg : Leg) → IsChain chain → IsReachable chain run → (f : Follows chain run next)
    → slice_get chain.legs place ≡ Some leg → back_of chain ≤ place → place ≤ run.place
    → (run.visit + 1) * unwrap_or (size leg) 0 ≤ run.start + f.lasts
went_by chain run next place leg is reached f at after within =
    let sent = reached.sent place leg at after in
    elim (cases_lt place run.place) [
      | inl earlier ↦
          let e : visits_of run place * unwrap_or (size leg) 0 ≡ (run.visit + 1) * unwrap_or (size leg) 0 = ap (λ (n : ℕ). n * unwrap_or (size leg) 0) (visits_before run place earlier) in
          omega arith
      | inr not_earlier ↦
          let same_place : place ≡ run.place = omega arith in
          let found : slice_get chain.legs run.place ≡ Some leg = ap (slice_get chain.legs) (sym same_place) ∙ at in
          let was = reached.at_place in
          let same : leg ≡ run.leg = cc in
          let long = (lasts_long chain run next is reached.at_place f).1 in
          let packets : unwrap_or (size leg) 0 ≡ unwrap_or (size run.leg) 0 = ap (λ (l : Leg). unwrap_or (size l) 0) same in
          let e : visits_of run place * unwrap_or (size leg) 0 ≡ run.visit * unwrap_or (size leg) 0 = ap (λ (n : ℕ). n * unwrap_or (size leg) 0) (visits_from run place (omega arith)) in
          let whole : (run.visit + 1) * unwrap_or (size leg) 0 ≡ run.visit * unwrap_or (size leg) 0 + 1 * unwrap_or (size leg) 0 = add-mul run.visit 1 (unwrap_or (size leg) 0) in
          omega arith
    ]

-- the run after a run that is reached is reached
pub reached_next : (chain : Chain) (run next : Run) → IsChain chain → IsReachable chain run → run_after chain run ≡ Some next → IsReachable chain next
reached_next chain run next is reached some =
    let f = follows chain run next some in
    elim f.went [
      | inl on ↦ record {
        at_place = f.leg_at;
        first = λ before. on.1 ∙ reached.first (omega arith);
        sent = λ place leg at after. elim (cases_lt place next.place) [
          | inl earlier ↦
              let e : visits_of next place * unwrap_or (size leg) 0 ≡ (run.visit + 1) * unwrap_or (size leg) 0 =
              ap (λ (n : ℕ). n * unwrap_or (size leg) 0) (visits_before next place earlier ∙ ap (λ (n : ℕ). n + 1) on.1) in
              let by = went_by chain run next place leg is reached f at after (omega arith) in
              omega (arith, f.start_is)
          | inr later ↦
              let e : visits_of next place * unwrap_or (size leg) 0 ≡ run.visit * unwrap_or (size leg) 0 =
              ap (λ (n : ℕ). n * unwrap_or (size leg) 0) (visits_from next place later ∙ on.1) in
              let was : visits_of run place * unwrap_or (size leg) 0 ≡ run.visit * unwrap_or (size leg) 0 =
              ap (λ (n : ℕ). n * unwrap_or (size leg) 0) (visits_from run place (omega arith)) in
              let sent = reached.sent place leg at after in
              omega (arith, f.start_is)
        ];
      }
      | inr back ↦
          let back_is : back_of chain ≡ next.place = ap (λ (o : Option ℕ). unwrap_or o (length chain.legs)) back.0 in
          record {
            at_place = f.leg_at;
            first = λ before. absurd (omega arith);
            sent = λ place leg at after.
                let e : visits_of next place * unwrap_or (size leg) 0 ≡ (run.visit + 1) * unwrap_or (size leg) 0 =
                ap (λ (n : ℕ). n * unwrap_or (size leg) 0) (visits_from next place (omega arith) ∙ back.1) in
                let inside : place < length chain.legs = slice_get_within chain.legs place leg at in
                let by = went_by chain run next place leg is reached f at after (omega (arith, back.2)) in
                omega (arith, f.start_is);
          }
    ]

-- ---- what a reached run keeps

pub has_packets : (chain : Chain) (run : Run) → IsChain chain → IsReachable chain run → HasPackets run.leg.mode
has_packets chain run is reached = all_get (λ leg. HasPackets leg.mode) chain.legs run.place run.leg is.packets reached.at_place

-- the packets of the leg's earlier visits are no more than the start
pub sent_before : (chain : Chain) (run : Run) → IsChain chain → IsReachable chain run → run.visit * unwrap_or (size run.leg) 0 ≤ run.start
sent_before chain run is reached =
    elim (cases_lt run.place (back_of chain)) [
      | inl before ↦
          let e : run.visit * unwrap_or (size run.leg) 0 ≡ 0 * unwrap_or (size run.leg) 0 = ap (λ (n : ℕ). n * unwrap_or (size run.leg) 0) (reached.first before) in
          omega arith
      | inr after ↦
          let sent = reached.sent run.place run.leg reached.at_place after in
          let e : visits_of run run.place * unwrap_or (size run.leg) 0 ≡ run.visit * unwrap_or (size run.leg) 0 =
          ap (λ (n : ℕ). n * unwrap_or (size run.leg) 0) (visits_from run run.place (omega arith)) in
          omega arith
    ]

-- a visit of a run is no more than the run's start
pub visit_small : (chain : Chain) (run : Run) → IsChain chain → IsReachable chain run → run.visit ≤ run.start
visit_small chain run is reached =
    elim (size run.leg) as (λ o. size run.leg ≡ o → run.visit ≤ run.start) [
      | None ↦ λ never.
          let last = is.endless run.place run.leg reached.at_place never in
          let back_is : back_of chain ≡ length chain.legs = ap (λ (o : Option ℕ). unwrap_or o (length chain.legs)) last.1 in
          let none = reached.first (omega (arith, last.0)) in
          omega arith
      | Some n ↦ λ sized.
          let sent = sent_before chain run is reached in
          let e : run.visit * unwrap_or (size run.leg) 0 ≡ run.visit * n = ap (λ (o : Option ℕ). run.visit * unwrap_or o 0) sized in
          let some : 1 ≤ n = size_pos run.leg n (has_packets chain run is reached) sized in
          let more : run.visit * 1 ≤ run.visit * n = mul-le-mul_left run.visit some in
          omega arith
    ] refl

-- the next run starts later
pub start_rises : (chain : Chain) (run next : Run) → IsChain chain → IsReachable chain run → run_after chain run ≡ Some next → run.start < next.start
start_rises chain run next is reached some =
    let f = follows chain run next some in
    let long = lasts_long chain run next is reached.at_place f in
    omega (arith, f.start_is)
