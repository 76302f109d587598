-- A run of packets: what is sent of it, and what stays true of the run of the profile.
use Rattle.std.proofs.Common.{◌≡◌, ℕ, zero, suc, ◌+◌, ◌-◌, ◌≤◌, ◌<◌, true, false, cond, Option, List, [], ◌∷◌, ◌++◌, append_assoc, append-nil, length, map, take, drop, replicate, refl, sym, ap, ◌∙◌, subst, arith, Some, length-append, length-take, get_or}
use Rattle.std.proofs.lemmas.List.{drop_at, drop-map, drop-take, length-map, length-take-le}
use Rattle.std.proofs.Math.Seq.{take-add, take-append_seam}
use Rattle.std.specs.List.{AllByRecursion, range_with_len, slice_get}
use Rattle.trex_core.specs.Plan.{PlanOf, frames_of_plan}
use Rattle.trex_core.specs.declared.waiting.Waiting.{Waiting}
use Rattle.trex_core.specs.Records.{waiting_of}
use Rattle.trex_core.specs.Works.{IsMade, Work, added, turned}
use Rattle.trex_merge.specs.declared.key.Key.{Key}
use Rattle.trex_merge.specs.declared.next.Next.{Next}
use Rattle.trex_merge.specs.declared.next.Next.TheVariants.{Packet, Need, End}
use Rattle.trex_merge.specs.Frames.{Frame, key_of, sequence}
use Rattle.trex_merge.specs.Machine.{Emit, HaveShares, IsEnded, IsMill, MillState, happens, next_in, run}
use Rattle.trex_merge.specs.Order.{joined, ordered}
use Rattle.trex_merge.specs.Queues.{Queue, at_place, next_of, stem, waiting_at}
use Rattle.trex_merge.specs.Runs.{IsLeastElsewhere, OthersNotBefore, dropped, run_length, stands_before}
use Rattle.trex_merge.proofs.EventLemmas.{run_keeps, sent_whole}
use Rattle.trex_merge.proofs.RunLemmas.{run_has_one, run_passes}
use Rattle.trex_merge.proofs.ShareLemmas.{emit_shares}
use Rattle.trex_profile.specs.Stream.{Stream}
use Rattle.trex_report.specs.declared.report.Tally.{Tally}
use Rattle.trex_run.specs.Capture.{tallies}
use Rattle.trex_core.specs.Texts.{records_text}
use Rattle.trex_merge.proofs.QueueLemmas.{packet_is_least}
use Rattle.trex_run.specs.Ready.{HaveBase, IsReady, base_at, marks_of, queues_of, run_at}
use Rattle.trex_run.specs.Rounds.{EnteredAfter, HasKeptUp, IsEnoughRounds, TellRounds}
use Rattle.trex_run.specs.State.{IsPass, IsShort, ahead}
use Rattle.trex_run.specs.Step.{is_packet, mill_after, packet_ahead, passed, rounds_after, supplied, works_after}
use Rattle.trex_run.specs.Tallies.{all_counted}
use Rattle.trex_run.proofs.HeadLemmas.{waits_within}
use Rattle.trex_run.proofs.BaseLemmas.{base_is}
use Rattle.trex_run.proofs.ListLemmas.{all_take, take_split}
use Rattle.trex_run.proofs.MillLemmas.{next_is, none_ahead}
use Rattle.trex_run.proofs.ReadyLemmas.{IsSent, after_supply, ended, ended_suffices, sent_within, state_of}
use Rattle.trex_run.proofs.RoundsLemmas.{tell_after}
use Rattle.trex_run.proofs.ShareLemmas.{as_many, cores_by_marks, in_order_still}
use Rattle.trex_run.proofs.TallyLemmas.{tallies-more}
use Rattle.trex_run.proofs.TurnLemmas.{turns_by_marks, turns_within}

-- ---- how long a run is

pub run_most : (before : Option Key) (most : ℕ) (waiting : List Frame) → run_length before most waiting ≤ most
run_most before most [] = omega arith
run_most before zero (x ∷ waiting) = omega arith
run_most before (suc most) (x ∷ waiting) =
    elim (stands_before (key_of x) before) as (λ t. cond t (suc (run_length before most waiting)) 0 ≤ suc most) [
      | true ↦ let rest = run_most before most waiting in omega (arith, rest)
      | false ↦ omega arith
    ]

pub run_within : (before : Option Key) (most : ℕ) (waiting : List Frame) → run_length before most waiting ≤ length waiting
run_within before most [] = omega arith
run_within before zero (x ∷ waiting) = omega arith
run_within before (suc most) (x ∷ waiting) =
    elim (stands_before (key_of x) before) as (λ t. cond t (suc (run_length before most waiting)) 0 ≤ suc (length waiting)) [
      | true ↦ let rest = run_within before most waiting in omega (arith, rest)
      | false ↦ omega arith
    ]

-- how many packets a run has
pub run_many : (before : Option Key) (left at : ℕ) (queues : List Queue) (packets : List Waiting) → packets ≡ map waiting_of (run_at at before left queues)
    → length packets ≡ run_length before left (waiting_at at queues)
run_many before left at queues packets is =
    let waiting = waiting_at at queues in
    ap length is ∙ length-map (run_at at before left queues) waiting_of
    ∙ length-take-le (run_length before left waiting) waiting (run_within before left waiting)

-- ---- so many packets are sent

-- so many packets more were sent: they are the next of all
many_more : (all sent new rest : List Frame) (count many : ℕ) → length sent ≡ count → length new ≡ many → (sent ++ new) ++ rest ≡ all
    → (sent ++ new ≡ take (count + many) all) × (count + many ≤ length all)
many_more all sent new rest count many long as_many whole =
    let both : length (sent ++ new) ≡ count + many = length-append sent new ∙ omega (arith, long, as_many) in
    let total : length ((sent ++ new) ++ rest) ≡ length (sent ++ new) + length rest = length-append (sent ++ new) rest in
    let same : length ((sent ++ new) ++ rest) ≡ length all = ap length whole in (
      sym (ap (λ n. take n all) (sym both) ∙ ap (take (length (sent ++ new))) (sym whole) ∙ take-append_seam (sent ++ new) rest),
      omega (arith, both, total, same),
    )

-- The mill after so many packets of a core: as many emissions, and the packets are the next of all.
pub record IsRun (frames : List Frame) (queues : List Queue) (sent limit at many : ℕ) : Type 0 where
  pub state : run (replicate many Emit) (mill_after frames queues sent limit) ≡ mill_after frames (at_place (dropped many) at queues) (sent + many) limit
  pub within : sent + many ≤ length (ordered key_of frames)
  pub sent_are : take sent (ordered key_of frames) ++ take many (waiting_at at queues) ≡ take (sent + many) (ordered key_of frames)

pub run_is : (frames : List Frame) (queues : List Queue) (sent limit at many : ℕ) (before : Option Key) → IsMill frames (mill_after frames queues sent limit)
    → sent ≤ length (ordered key_of frames) → next_of (limit - sent) queues ≡ Packet at → OthersNotBefore at before queues
    → many ≤ run_length before (limit - sent) (waiting_at at queues) → IsRun frames queues sent limit at many
run_is frames queues sent limit at many before mill within next others few =
    let state : MillState = mill_after frames queues sent limit in
    let all = ordered key_of frames in
    let waiting = waiting_at at queues in
    let long = length-take-le sent all within in
    let left : state.limit - length state.sent ≡ limit - sent = ap (λ n. limit - n) long in
    let few' : many ≤ run_length before (state.limit - length state.sent) waiting = subst (λ n. many ≤ run_length before n waiting) (sym left) few in
    let e = run_passes many state at before (λ some. next_is frames queues sent limit within ∙ next) others few' in
    let kept = subst (IsMill frames) e (run_keeps frames state (replicate many Emit) mill) in
    let fits = run_within before (limit - sent) waiting in
    let more = many_more all (take sent all) (take many waiting) (ordered key_of (joined (map stem (at_place (dropped many) at queues)))) sent many long
    (length-take-le many waiting (omega arith)) kept.whole in
    record {
      state = e ∙ ap (λ (list : List Frame). record { queues = at_place (dropped many) at queues; sent = list; limit = limit }) more.0;
      within = more.1;
      sent_are = more.0;
    }

-- the packets of the run are the next of what is sent in all
pub run_frames : (all waiting : List Frame) (sent limit many : ℕ) → sent ≤ length all → sent + many ≤ limit → take sent all ++ take many waiting ≡ take (sent + many) all
    → take many waiting ≡ take many (drop sent (take limit all))
run_frames all waiting sent limit many within few is =
    sym (drop_at (take sent all) (take many waiting) sent (length-take-le sent all within))
    ∙ ap (drop sent) (is ∙ sym (take_split (sent + many) limit all few))
    ∙ drop-take sent many (take limit all)

-- ---- shares

run_shares : (many : ℕ) (frames : List Frame) (cores : ℕ) (state : MillState) → HaveShares cores frames state → HaveShares cores frames (run (replicate many Emit) state)
run_shares zero frames cores state have = have
run_shares (suc many) frames cores state have = run_shares many frames cores (happens state Emit) (emit_shares frames cores state have)

-- what is to come at a core stays
coming_still : (many at core : ℕ) (queues : List Queue) (queue : Queue) → slice_get (at_place (dropped many) at queues) core ≡ Some queue
    → (old : Queue) × (slice_get queues core ≡ Some old) × (queue.coming ≡ old.coming)
coming_still many at core [] queue there = cc
coming_still many zero zero (q ∷ queues) queue there = let same : dropped many q ≡ queue = cc in (q, refl, ap (λ (x : Queue). x.coming) (sym same))
coming_still many zero (suc core) (q ∷ queues) queue there = (queue, there, refl)
coming_still many (suc at) zero (q ∷ queues) queue there = (queue, there, refl)
coming_still many (suc at) (suc core) (q ∷ queues) queue there = coming_still many at core queues queue there

run_fed : (many at cores : ℕ) (frames : List Frame) (rounds : ℕ) (queues : List Queue) → HasKeptUp cores frames rounds queues
    → HasKeptUp cores frames rounds (at_place (dropped many) at queues)
run_fed many at cores frames rounds queues fed core queue there =
    let was = coming_still many at core queues queue there in
    let h = fed core was.0 was.1 in
    let same = ap length was.2 in
    omega arith

-- ---- the run of the profile after a run

pub after_run : (frames : List Frame) (works works' : List Work) (rounds limit sent sent' at many : ℕ) (before : Option Key) (next' : Next)
    → IsReady frames works rounds limit sent (Packet at) → OthersNotBefore at before (queues_of works) → 0 < many
    → many ≤ run_length before (limit - sent) (waiting_at at (queues_of works))
    → queues_of works' ≡ at_place (dropped many) at (queues_of works) → marks_of works' ≡ marks_of works
    → sent' ≡ sent + many → next' ≡ next_of (limit - sent') (queues_of works') → IsSent frames works' rounds limit sent' next'
after_run frames works works' rounds limit sent sent' at many before next' ready others some few queues marks count is' =
    let state : MillState = mill_after frames (queues_of works) sent limit in
    let gone = run_is frames (queues_of works) sent limit at many before ready.is ready.counted (sym ready.next_is) others few in
    let now : IsMill frames (mill_after frames (queues_of works') sent' limit) =
    rw (queues, count) (subst (IsMill frames) gone.state (run_keeps frames state (replicate many Emit) ready.is)) in
    let counted : sent' ≤ length (ordered key_of frames) = rw count gone.within in
    let rounds_before = ready.rounds_are in
    let cores = cores_by_marks works' works marks in
    let as_long : length works' ≡ length works = as_many works' works cores in
    let turns : AllByRecursion (λ work. work.turns ≤ sent') works' = turns_by_marks sent' works' works marks (turns_within (sent + 1) sent' works (omega (arith, count, some)) ready.turns) in
    record {
      ready = record {
        is = now;
        counted = counted;
        next_is = is';
        short = ready.short;
        limited = ready.limited;
        turns = turns_within sent' (sent' + packet_ahead next') works' (omega arith) turns;
        rounds_are = omega (arith, count, some, rounds_before);
        cores_are = in_order_still works' works cores ready.cores_are;
        shares = subst (λ n. HaveShares n frames (mill_after frames (queues_of works') sent' limit)) (sym as_long)
            (rw (queues, count) (subst (HaveShares (length works) frames) gone.state (run_shares many frames (length works) state ready.shares)));
        fed = rw (as_long, queues) (run_fed many at (length works) frames rounds (queues_of works) ready.fed);
      };
      turns = turns;
      rounds_are = omega (arith, count, some, rounds_before);
    }

-- the whole: a run is sent, and then a round is made if a core has to be waited for
pub record IsPast (frames : List Frame) (works between works' : List Work) (rounds limit sent sent' at many : ℕ) (after next : Next) : Type 0 where
  pub sends : IsSent frames between rounds limit sent' after
  pub ready : IsReady frames works' (rounds_after after rounds) limit sent' next
  pub state : mill_after frames (queues_of works') sent' limit ≡ passed added many (mill_after frames (queues_of works) sent limit)
  pub served : (core : ℕ) → ¬ (next ≡ Need core)
  pub then_is : next_in (run (replicate many Emit) (mill_after frames (queues_of works) sent limit)) ≡ after
  pub cores : length works' ≡ length works
  pub order : map (λ (w : Work). w.core) between ≡ range_with_len 0 (length works)
  pub frames_are : take many (waiting_at at (queues_of works)) ≡ take many (drop sent (sequence limit frames))
  pub within : sent' ≤ length (sequence limit frames)

pub past : (frames : List Frame) (works between works' : List Work) (rounds limit sent sent' at many : ℕ) (before : Option Key) (after next : Next)
    → IsReady frames works rounds limit sent (Packet at) → OthersNotBefore at before (queues_of works) → 0 < many
    → many ≤ run_length before (limit - sent) (waiting_at at (queues_of works))
    → queues_of between ≡ at_place (dropped many) at (queues_of works) → marks_of between ≡ marks_of works
    → sent' ≡ sent + many → after ≡ next_of (limit - sent') (queues_of between)
    → works' ≡ works_after turned after between → next ≡ next_of (limit - sent') (queues_of works')
    → IsPast frames works between works' rounds limit sent sent' at many after next
past frames works between works' rounds limit sent sent' at many before after next ready others some few queues marks count is works_are is' =
    let all = ordered key_of frames in
    let gone = run_is frames (queues_of works) sent limit at many before ready.is ready.counted (sym ready.next_is) others few in
    let sends = after_run frames works between rounds limit sent sent' at many before after ready others some few queues marks count is in
    let step = after_supply frames between works' rounds (rounds_after after rounds) limit sent' after next sends works_are refl is' in
    let state : run (replicate many Emit) (mill_after frames (queues_of works) sent limit) ≡ mill_after frames (queues_of between) sent' limit =
    gone.state ∙ rw (queues, count) refl in
    let coming_then : next_in (mill_after frames (queues_of between) sent' limit) ≡ after =
    next_is frames (queues_of between) sent' limit sends.ready.counted ∙ sym is in
    let most = run_most before (limit - sent) (waiting_at at (queues_of works)) in
    let below = sent_within frames works rounds limit sent (Packet at) ready in
    let fits : sent + many ≤ limit = omega (arith, most, below, few) in
    let long = length-take limit all in
    let reach = gone.within in
    record {
      sends = sends;
      ready = step.ready;
      state = step.state ∙ sym (ap (λ (s : MillState). supplied added (next_in s) s) state
          ∙ ap (λ (n : Next). supplied added n (mill_after frames (queues_of between) sent' limit)) coming_then);
      served = step.served;
      then_is = ap next_in state ∙ coming_then;
      cores = supplied_as_many after between works' works_are ∙ as_many between works (cores_by_marks between works marks);
      order = cores_by_marks between works marks ∙ ready.cores_are;
      frames_are = run_frames all (waiting_at at (queues_of works)) sent limit many ready.counted fits gone.sent_are;
      within = omega (arith, count, fits, long, reach);
    }
  where
    supplied_as_many : (after : Next) (between works' : List Work) → works' ≡ works_after turned after between → length works' ≡ length between
    supplied_as_many (Packet at) between works' is = ap length is
    supplied_as_many End between works' is = ap length is
    supplied_as_many (Need core) between works' is = ap length is ∙ length-map between turned

-- a run has a packet at least
pub some_packets : (frames : List Frame) (works : List Work) (rounds limit sent at : ℕ) (before : Option Key) → IsReady frames works rounds limit sent (Packet at)
    → IsLeastElsewhere at before (queues_of works) → 0 < run_length before (limit - sent) (waiting_at at (queues_of works))
some_packets frames works rounds limit sent at before ready elsewhere =
    run_has_one frames (mill_after frames (queues_of works) sent limit) (limit - sent) at before ready.is (sym ready.next_is) elsewhere

-- ---- the contract

pub pass_is : {G : Type 0} (entries : G → Option (List (ℕ × ℕ))) (plan : PlanOf) (works between works' : List Work) (rounds limit sent sent' at many : ℕ)
    (after next' : Next) (old new : List G) → IsReady (frames_of_plan plan) works rounds limit sent (Packet at) → 0 < many
    → IsPast (frames_of_plan plan) works between works' rounds limit sent sent' at many after next'
    → sent' ≡ sent + many → EnteredAfter entries (λ (w : Work). w.core) after between rounds old new
    → IsPass entries (state_of plan works rounds sent limit) (state_of plan works' (rounds_after after rounds) sent' limit) old new many (is_packet next')
pass_is entries plan works between works' rounds limit sent sent' at many after next' old new ready some gone count entered =
    let frames = frames_of_plan plan in
    let rounds' = rounds_after after rounds in
    let all = sequence limit frames in
    let state' : MillState = mill_after frames (queues_of works') sent' limit in
    let cores : length (queues_of works) ≡ length works = length-map works (λ (w : Work). w.queue) in
    let cores' : length (queues_of works') ≡ length works' = length-map works' (λ (w : Work). w.queue) in
    let comes : next_in state' ≡ next' = next_is frames (queues_of works') sent' limit gone.ready.counted ∙ sym gone.ready.next_is in
    let tells = tell_after entries (length works) (λ (w : Work). w.core) after between rounds old new gone.order entered in
    let over : is_packet next' ≡ false → IsEnded state' = λ none. ended frames works' rounds' limit sent' next' gone.ready none gone.served in
    let whole : is_packet next' ≡ false → state'.sent ≡ all = λ none. sent_whole frames state' gone.ready.is (over none) in
    let long : length (take sent (ordered key_of frames)) ≡ sent = length-take-le sent (ordered key_of frames) ready.counted in
    let long' : length state'.sent ≡ sent' = length-take-le sent' (ordered key_of frames) gone.ready.counted in
    let within = gone.within in
    let limited = sent_within frames works' rounds' limit sent' next' gone.ready in
    let before = sent_within frames works rounds limit sent (Packet at) ready in
    record {
      steps = record {
        plan = refl;
        limit = refl;
        cores = cores' ∙ gone.cores ∙ sym cores;
        told = subst (λ n. TellRounds entries n rounds rounds' old new) (sym cores) tells;
      };
      some = some;
      state = gone.state;
      rounds = ap (λ (n : Next). rounds_after n rounds) (sym gone.then_is);
      sent = ap (λ n. take n (ordered key_of frames)) count
          ∙ sym (take_split (sent + many) limit (ordered key_of frames) (omega (arith, count, limited)))
          ∙ take-add sent many all
          ∙ ap (λ (l : List Frame). l ++ take many (drop sent all)) (take_split sent limit (ordered key_of frames) before)
          ∙ ap (λ n. take sent (ordered key_of frames) ++ take many (drop n all)) (sym long);
      longer = long' ∙ count ∙ ap (λ n. n + many) (sym long);
      within = omega (arith, long', within);
      more = ap is_packet (sym comes);
      whole = whole;
      through = λ none. record {
        all = ap (λ n. n + packet_ahead (next_in state')) (ap length (whole none)) ∙ ap (λ (n : Next). length all + packet_ahead n) comes
            ∙ ap (λ n. length all + n) (none_ahead next' none) ∙ (let zero_more : length all + 0 ≡ length all = omega arith in zero_more);
        enough = subst (λ n. IsEnoughRounds n rounds' all) (gone.cores ∙ sym cores) (ended_suffices frames works' rounds' limit sent' next' gone.ready none (whole none));
      };
    }

-- ---- tallies

-- some packets more are counted
tallies_run : (p : List Stream) (xs frames : List Frame) → all_counted (tallies p xs) (map waiting_of frames) ≡ tallies p (xs ++ frames)
tallies_run p xs [] = ap (tallies p) (sym (append-nil xs))
tallies_run p xs (frame ∷ frames) =
    ap (λ (ts : List Tally). all_counted ts (map waiting_of frames)) (sym (tallies-more p xs frame))
    ∙ tallies_run p (xs ++ frame ∷ []) frames
    ∙ ap (tallies p) (append_assoc xs (frame ∷ []) frames)

take_rest : (xs : List Frame) (many : ℕ) → 0 < many → take 1 xs ++ drop 1 (take many xs) ≡ take many xs
take_rest xs zero some = absurd (omega arith)
take_rest [] (suc many) some = refl
take_rest (x ∷ xs) (suc many) some = refl

-- where the first of a run is counted, the others are counted
pub run_counted : (p : List Stream) (frames : List Frame) (sent many : ℕ) (old : List Tally) → 0 < many → old ≡ tallies p (take (sent + 1) frames)
    → all_counted old (drop 1 (map waiting_of (take many (drop sent frames)))) ≡ tallies p (take (sent + many) frames)
run_counted p frames sent many old some was =
    let rest = drop sent frames in
    ap (λ (ts : List Tally). all_counted ts (drop 1 (map waiting_of (take many rest)))) was
    ∙ ap (all_counted (tallies p (take (sent + 1) frames))) (drop-map waiting_of 1 (take many rest))
    ∙ tallies_run p (take (sent + 1) frames) (drop 1 (take many rest))
    ∙ ap (tallies p) (ap (λ (l : List Frame). l ++ drop 1 (take many rest)) (take-add sent 1 frames)
    ∙ append_assoc (take sent frames) (take 1 rest) (drop 1 (take many rest))
    ∙ ap (λ (l : List Frame). take sent frames ++ l) (take_rest rest many some)
    ∙ sym (take-add sent many frames))

-- what is counted is short
pub all_small : (frames : List Frame) → AllByRecursion IsShort frames → AllByRecursion (λ packet. packet.length ≤ 9216) (map waiting_of frames)
all_small [] short = tt
all_small (frame ∷ frames) short = (short.0, all_small frames short.1)

-- ---- a work

-- the base and what waits at a work
pub base_there : (works : List Work) (at : ℕ) (work : Work) → at < length works → work ≡ get_or works at work → base_at at works ≡ work.base
base_there [] at work within is = absurd (omega arith)
base_there (w ∷ works) zero work within is = ap (λ (x : Work). x.base) (sym is)
base_there (w ∷ works) (suc at) work within is = base_there works at work (omega arith) is

pub waiting_there : (works : List Work) (at : ℕ) (work : Work) → at < length works → work ≡ get_or works at work → waiting_at at (queues_of works) ≡ work.queue.waiting
waiting_there [] at work within is = absurd (omega arith)
waiting_there (w ∷ works) zero work within is = ap (λ (x : Work). x.queue.waiting) (sym is)
waiting_there (w ∷ works) (suc at) work within is = waiting_there works at work (omega arith) is

-- packets that were made are short
pub made_short : (frames : List Frame) → AllByRecursion IsMade frames → AllByRecursion IsShort frames
made_short [] made = tt
made_short (frame ∷ frames) made = (made.0.bytes, made_short frames made.1)

-- ---- what the calls of a pass say

-- The run that is passed: packets of the core whose packet comes next.
pub record IsFound (frames : List Frame) (works : List Work) (rounds limit sent at : ℕ) (before : Option Key) (packets : List Waiting) : Type 0 where
  pub ready : IsReady frames works rounds limit sent (Packet at)
  pub elsewhere : IsLeastElsewhere at before (queues_of works)
  pub packets_are : packets ≡ map waiting_of (run_at at before (limit - sent) (queues_of works))
  pub many : length packets ≡ run_length before (limit - sent) (waiting_at at (queues_of works))
  pub some : 0 < length packets
  pub fits : sent + length packets ≤ limit
  pub within : at < length works

pub is_found : (frames : List Frame) (works read : List Work) (rounds limit sent at left : ℕ) (before : Option Key) (packets : List Waiting) (next : Next)
    → IsReady frames works rounds limit sent next → next ≡ Packet at → IsLeastElsewhere at before (queues_of works) → read ≡ works → left ≡ limit - sent
    → packets ≡ map waiting_of (run_at at before left (queues_of read)) → IsFound frames works rounds limit sent at before packets
is_found frames works read rounds limit sent at left before packets next ready is elsewhere read_is left_is packets_are =
    let here : IsReady frames works rounds limit sent (Packet at) = subst (IsReady frames works rounds limit sent) is ready in
    let are : packets ≡ map waiting_of (run_at at before (limit - sent) (queues_of works)) =
    packets_are ∙ ap (λ (w : List Work). map waiting_of (run_at at before left (queues_of w))) read_is
    ∙ ap (λ n. map waiting_of (run_at at before n (queues_of works))) left_is in
    let many = run_many before (limit - sent) at (queues_of works) packets are in
    let some = some_packets frames works rounds limit sent at before here elsewhere in
    let most = run_most before (limit - sent) (waiting_at at (queues_of works)) in
    let below = sent_within frames works rounds limit sent (Packet at) here in
    let chosen = packet_is_least (limit - sent) at (queues_of works) (sym here.next_is) in
    record {
      ready = here;
      elsewhere = elsewhere;
      packets_are = are;
      many = many;
      some = omega (arith, many, some);
      fits = omega (arith, many, most, below);
      within = waits_within works at _ chosen.there;
    }

-- its packets are the next of all
found_ahead : (frames : List Frame) (works : List Work) (rounds limit sent at : ℕ) (before : Option Key) (packets : List Waiting)
    → IsFound frames works rounds limit sent at before packets
    → run_at at before (limit - sent) (queues_of works) ≡ take (length packets) (drop sent (sequence limit frames))
found_ahead frames works rounds limit sent at before packets found =
    let many = found.many in
    let gone = run_is frames (queues_of works) sent limit at (length packets) before found.ready.is found.ready.counted (sym found.ready.next_is)
    found.elsewhere.least (omega (arith, many)) in
    ap (λ n. take n (waiting_at at (queues_of works))) (sym many)
    ∙ run_frames (ordered key_of frames) (waiting_at at (queues_of works)) sent limit (length packets) found.ready.counted found.fits gone.sent_are

-- its text
pub found_text : (plan : PlanOf) (works read : List Work) (rounds limit sent at left : ℕ) (before : Option Key) (packets : List Waiting) (text : List ℕ)
    → IsFound (frames_of_plan plan) works rounds limit sent at before packets → HaveBase plan.base works → read ≡ works → left ≡ limit - sent
    → text ≡ records_text (base_at at read) (run_at at before left (queues_of read))
    → text ≡ records_text plan.base (ahead (length packets) (state_of plan works rounds sent limit))
found_text plan works read rounds limit sent at left before packets text found bases read_is left_is is =
    let frames = frames_of_plan plan in
    let long : length (take sent (ordered key_of frames)) ≡ sent = length-take-le sent (ordered key_of frames) found.ready.counted in
    is ∙ ap (λ (w : List Work). records_text (base_at at w) (run_at at before left (queues_of w))) read_is
    ∙ ap (λ n. records_text (base_at at works) (run_at at before n (queues_of works))) left_is
    ∙ ap (λ n. records_text n (run_at at before (limit - sent) (queues_of works))) (base_is plan.base at works found.within bases)
    ∙ ap (records_text plan.base) (found_ahead frames works rounds limit sent at before packets found
    ∙ ap (λ n. take (length packets) (drop n (sequence limit frames))) (sym long))

-- how many bytes its text has
pub found_bytes : (frames : List Frame) (works read : List Work) (rounds limit sent at left : ℕ) (before : Option Key) (packets : List Waiting) (text : List ℕ)
    → IsFound frames works rounds limit sent at before packets → read ≡ works → left ≡ limit - sent
    → text ≡ records_text (base_at at read) (run_at at before left (queues_of read))
    → length text ≡ length (records_text (base_at at works) (take (length packets) (waiting_at at (queues_of works))))
found_bytes frames works read rounds limit sent at left before packets text found read_is left_is is =
    ap length (is ∙ ap (λ (w : List Work). records_text (base_at at w) (run_at at before left (queues_of w))) read_is
    ∙ ap (λ n. records_text (base_at at works) (run_at at before n (queues_of works))) left_is
    ∙ ap (λ n. records_text (base_at at works) (take n (waiting_at at (queues_of works)))) (sym found.many))

take_all : {X : Type 0} (xs : List X) → take (length xs) xs ≡ xs
take_all [] = refl
take_all (x ∷ xs) = ap (λ l. x ∷ l) (take_all xs)

rest_whole : {X : Type 0} (xs : List X) → take (length xs - 1) (drop 1 xs) ≡ drop 1 xs
rest_whole [] = refl
rest_whole (x ∷ xs) = let one : suc (length xs) - 1 ≡ length xs = omega arith in ap (λ n. take n xs) one ∙ take_all xs

all_rest : {X : Type 0} (P : X → Type 0) (xs : List X) → AllByRecursion P xs → AllByRecursion P (drop 1 xs)
all_rest P [] all = tt
all_rest P (x ∷ xs) all = all.1

-- what is counted of it is short
pub found_small : (frames : List Frame) (works read : List Work) (rounds limit sent at : ℕ) (before : Option Key) (packets : List Waiting)
    → IsFound frames works rounds limit sent at before packets → read ≡ works → AllByRecursion IsShort (waiting_at at (queues_of read))
    → AllByRecursion (λ packet. packet.length ≤ 9216) (take (length packets - 1) (drop 1 packets))
found_small frames works read rounds limit sent at before packets found read_is short =
    let here : AllByRecursion IsShort (waiting_at at (queues_of works)) = subst (λ (w : List Work). AllByRecursion IsShort (waiting_at at (queues_of w))) read_is short in
    let waiting = waiting_at at (queues_of works) in
    let n = run_length before (limit - sent) waiting in
    let all : AllByRecursion (λ packet. packet.length ≤ 9216) packets =
    subst (λ (l : List Waiting). AllByRecursion (λ packet. packet.length ≤ 9216) l) (sym found.packets_are) (all_small (take n waiting) (all_take IsShort n waiting here)) in
    all_take (λ (packet : Waiting). packet.length ≤ 9216) (length packets - 1) (drop 1 packets) (all_rest (λ (packet : Waiting). packet.length ≤ 9216) packets all)

-- where its first packet is counted, the others are counted
pub found_counted : (p : List Stream) (frames : List Frame) (works : List Work) (rounds limit sent sent' at : ℕ) (before : Option Key) (packets : List Waiting)
    (next : Next) (old now new : List Tally) → IsFound frames works rounds limit sent at before packets → next ≡ Packet at
    → old ≡ tallies p (take (sent + packet_ahead next) (sequence limit frames)) → now ≡ old
    → new ≡ all_counted now (take (length packets - 1) (drop 1 packets)) → sent' ≡ sent + length packets
    → new ≡ tallies p (take sent' (sequence limit frames))
found_counted p frames works rounds limit sent sent' at before packets next old now new found is was same counts count =
    let seq = sequence limit frames in
    let first : old ≡ tallies p (take (sent + 1) seq) = was ∙ ap (λ (n : Next). tallies p (take (sent + packet_ahead n) seq)) is in
    let are : packets ≡ map waiting_of (take (length packets) (drop sent seq)) =
    found.packets_are ∙ ap (map waiting_of) (found_ahead frames works rounds limit sent at before packets found) in
    counts ∙ ap (λ (ts : List Tally). all_counted ts (take (length packets - 1) (drop 1 packets))) same
    ∙ ap (all_counted old) (rest_whole packets ∙ ap (drop 1) are)
    ∙ run_counted p seq sent (length packets) old found.some first
    ∙ ap (λ n. tallies p (take n seq)) (sym count)

-- where it is sent
pub found_sent : (frames : List Frame) (works between : List Work) (rounds limit same_limit sent sent' at : ℕ) (before : Option Key) (packets : List Waiting) (after : Next)
    → IsFound frames works rounds limit sent at before packets
    → queues_of between ≡ at_place (dropped (length packets)) at (queues_of works) → marks_of between ≡ marks_of works
    → sent' ≡ sent + length packets → same_limit ≡ limit → after ≡ next_of (same_limit - sent') (queues_of between)
    → IsSent frames between rounds limit sent' after
found_sent frames works between rounds limit same_limit sent sent' at before packets after found queues marks count same_limit_is is =
    let many = found.many in
    after_run frames works between rounds limit sent sent' at (length packets) before after found.ready found.elsewhere.least found.some (omega (arith, many))
    queues marks count (is ∙ ap (λ n. next_of (n - sent') (queues_of between)) same_limit_is)

-- and a round is made if a core has to be waited for
pub record HasPassed (frames : List Frame) (works between works' : List Work) (rounds rounds' limit sent sent' at many : ℕ) (after next : Next) : Type 0 where
  pub past : IsPast frames works between works' rounds limit sent sent' at many after next
  pub rounds_are : rounds' ≡ rounds_after after rounds
  pub ready : IsReady frames works' rounds' limit sent' next

pub found_passed : (frames : List Frame) (works between works' : List Work) (rounds same_rounds rounds' limit same_limit sent sent' at : ℕ) (before : Option Key)
    (packets : List Waiting) (after next : Next) → IsFound frames works rounds limit sent at before packets
    → queues_of between ≡ at_place (dropped (length packets)) at (queues_of works) → marks_of between ≡ marks_of works → same_rounds ≡ rounds
    → sent' ≡ sent + length packets → same_limit ≡ limit → after ≡ next_of (same_limit - sent') (queues_of between)
    → works' ≡ works_after turned after between → rounds' ≡ rounds_after after same_rounds → next ≡ next_of (same_limit - sent') (queues_of works')
    → HasPassed frames works between works' rounds rounds' limit sent sent' at (length packets) after next
found_passed frames works between works' rounds same_rounds rounds' limit same_limit sent sent' at before packets after next found queues marks same_rounds_is count
    same_limit_is is works_are rounds_are is' =
    let many = found.many in
    let gone = past frames works between works' rounds limit sent sent' at (length packets) before after next found.ready found.elsewhere.least found.some
    (omega (arith, many)) queues marks count (is ∙ ap (λ n. next_of (n - sent') (queues_of between)) same_limit_is) works_are
    (is' ∙ ap (λ n. next_of (n - sent') (queues_of works')) same_limit_is) in
    let rounds_here : rounds' ≡ rounds_after after rounds = rounds_are ∙ ap (rounds_after after) same_rounds_is in
    record {
      past = gone;
      rounds_are = rounds_here;
      ready = subst (λ n. IsReady frames works' n limit sent' next) (sym rounds_here) gone.ready;
    }
