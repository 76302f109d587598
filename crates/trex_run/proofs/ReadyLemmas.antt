-- What stays true of a run from its beginning to its end, step by step.
use Rattle.std.proofs.Common.{◌≡◌, ℕ, zero, suc, ◌+◌, ◌-◌, ◌≤◌, ◌<◌, true, false, List, [], ◌∷◌, ◌++◌, length, map, take, refl, sym, ap, ◌∙◌, subst, arith, Some, add-one, add-zero, Option}
use Rattle.std.specs.List.{AllByRecursion, range_with_len, slice_get}
use Rattle.trex_core.specs.Plan.{PlanOf, frames_of_plan}
use Rattle.trex_core.specs.Works.{Work, added, turned}
use Rattle.trex_merge.specs.declared.next.Next.{Next}
use Rattle.trex_merge.specs.declared.next.Next.TheVariants.{Packet, Need, End}
use Rattle.trex_merge.specs.Frames.{Frame, key_of, sequence, share}
use Rattle.trex_merge.specs.Machine.{Emit, HaveShares, IsEnded, IsMill, MillState, happens, next_in, run}
use Rattle.trex_merge.proofs.ShareLemmas.{emit_shares, start_shares}
use Rattle.trex_merge.proofs.EventLemmas.{emit_keeps, run_keeps, sent_whole, start_is}
use Rattle.trex_merge.proofs.QueueLemmas.{end_is_ended, packet_is_least}
use Rattle.std.proofs.lemmas.List.{length-map, length-take-le}
use Rattle.trex_merge.specs.Order.{AreDistinct, ordered}
use Rattle.trex_merge.specs.Queues.{Queue, all_waiting, next_of, refilled}
use Rattle.trex_run.specs.Step.{packet_ahead, is_packet, reached, queues_after, round_from, rounds_after, mill_after, stepped, supplied, works_after}
use Rattle.trex_run.specs.State.{IsShort, IsStep, RunState}
use Rattle.trex_run.specs.Ready.{IsReady, first_work, first_works, queues_of}
use Rattle.trex_run.proofs.MillLemmas.{emit_is, goes_on, next_is, round_is, none_ahead, one_ahead}
use Rattle.trex_run.proofs.RoundsLemmas.{tell_after}
use Rattle.trex_run.proofs.ShareLemmas.{as_many, cores_by_marks, cores_turned, fed_after, fed_first, fed_more, in_order_still, shares_round, suffices}
use Rattle.trex_crew.specs.Crews.{AreInOrder}
use Rattle.std.proofs.lemmas.List.FromFn.{length-map-range_with_len}
use Rattle.trex_run.specs.Rounds.{EnteredAfter, HasKeptUp, IsEnoughRounds, TellRounds}
use Rattle.trex_run.proofs.TurnLemmas.{all_calm, queues_turned, stems_short, stems_turned, turns_by_marks, turns_more, turns_within}

-- ---- a step of the run

-- the number of packets sent is within the limit
pub sent_within : (frames : List Frame) (works : List Work) (rounds limit sent : ℕ) (next : Next) → IsReady frames works rounds limit sent next → sent ≤ limit
sent_within frames works rounds limit sent next ready =
    let within = ready.is.within in
    let long = length-take-le sent (ordered key_of frames) ready.counted in
    omega (arith, within, long)

-- the run after the packet that comes next, with the number of turns and of rounds
pub record IsSent (frames : List Frame) (works : List Work) (rounds limit sent : ℕ) (next : Next) : Type 0 where
  pub ready : IsReady frames works rounds limit sent next
  pub turns : AllByRecursion (λ work. work.turns ≤ sent) works
  pub rounds_are : rounds ≤ sent

pub after_emit : (frames : List Frame) (works works' : List Work) (rounds limit sent sent' : ℕ) (next next' : Next) → IsReady frames works rounds limit sent next
    → queues_of works' ≡ queues_after next (queues_of works)
    → map (λ (w : Work). w.core ∷ w.turns ∷ w.base ∷ []) works' ≡ map (λ (w : Work). w.core ∷ w.turns ∷ w.base ∷ []) works
    → sent' ≡ sent + packet_ahead next → next' ≡ next_of (limit - sent') (queues_of works')
    → IsSent frames works' rounds limit sent' next'
after_emit frames works works' rounds limit sent sent' next next' ready queues marks count is' =
    let emitted = emit_is frames (queues_of works) sent limit next ready.is ready.counted ready.next_is in
    let kept : IsMill frames (happens (mill_after frames (queues_of works) sent limit) Emit) = emit_keeps frames (mill_after frames (queues_of works) sent limit) ready.is in
    let now : IsMill frames (mill_after frames (queues_of works') sent' limit) = rw (queues, count) (subst (IsMill frames) emitted.0 kept) in
    let counted : sent' ≤ length (ordered key_of frames) = rw count emitted.1 in
    let many : sent + packet_ahead next ≡ sent' = sym count in
    let rounds_before = ready.rounds_are in
    let cores = cores_by_marks works' works marks in
    let as_long : length works' ≡ length works = as_many works' works cores in
    let turns : AllByRecursion (λ work. work.turns ≤ sent') works' = turns_by_marks sent' works' works marks (turns_within (sent + packet_ahead next) sent' works (omega (arith, many)) ready.turns) in
    record {
      ready = record {
        is = now;
        counted = counted;
        next_is = is';
        short = ready.short;
        limited = ready.limited;
        turns = turns_within sent' (sent' + packet_ahead next') works' (omega arith) turns;
        rounds_are = omega (arith, many, rounds_before);
        cores_are = in_order_still works' works cores ready.cores_are;
        shares = subst (λ n. HaveShares n frames (mill_after frames (queues_of works') sent' limit)) (sym as_long)
            (rw (queues, count) (subst (HaveShares (length works) frames) emitted.0 (emit_shares frames (length works) (mill_after frames (queues_of works) sent limit) ready.shares)));
        fed = rw (as_long, queues) (fed_after (length works) frames rounds next (queues_of works) ready.fed);
      };
      turns = turns;
      rounds_are = omega (arith, many, rounds_before);
    }

-- a packet that comes next is nobody to be waited for
pub packet_served : (next : Next) (core : ℕ) → is_packet next ≡ true → ¬ (next ≡ Need core)
packet_served (Packet at) core is = λ e. cc
packet_served (Need other) core is = cc
packet_served End core is = cc

-- the run after the round, where one was needed
pub record IsSupplied (frames : List Frame) (works works' : List Work) (rounds limit sent : ℕ) (after next : Next) : Type 0 where
  pub ready : IsReady frames works' rounds limit sent next
  pub state : mill_after frames (queues_of works') sent limit ≡ supplied added after (mill_after frames (queues_of works) sent limit)
  pub served : (core : ℕ) → ¬ (next ≡ Need core)

pub after_supply : (frames : List Frame) (works works' : List Work) (rounds rounds' limit sent : ℕ) (after next : Next) → IsSent frames works rounds limit sent after
    → works' ≡ works_after turned after works → rounds' ≡ rounds_after after rounds → next ≡ next_of (limit - sent) (queues_of works')
    → IsSupplied frames works works' rounds' limit sent after next
after_supply frames works works' rounds rounds' limit sent (Packet at) next sends same count is =
    let e : next ≡ Packet at = is ∙ ap (λ (w : List Work). next_of (limit - sent) (queues_of w)) same ∙ sym sends.ready.next_is in
    record { ready = rw (same, count, e) sends.ready; state = rw same refl; served = λ core other. cc }
after_supply frames works works' rounds rounds' limit sent End next sends same count is =
    let e : next ≡ End = is ∙ ap (λ (w : List Work). next_of (limit - sent) (queues_of w)) same ∙ sym sends.ready.next_is in
    record { ready = rw (same, count, e) sends.ready; state = rw same refl; served = λ core other. cc }
after_supply frames works works' rounds rounds' limit sent (Need core) next sends same count is =
    let old = queues_of works in
    let queues : queues_of works' ≡ map (λ queue. refilled (added queue) queue) old = ap queues_of same ∙ queues_turned works in
    let state : MillState = mill_after frames old sent limit in
    let round = round_is added frames old sent limit in
    let kept : IsMill frames (run (round_from added 0 old) state) = run_keeps frames state (round_from added 0 old) sends.ready.is in
    let now : IsMill frames (mill_after frames (map (λ queue. refilled (added queue) queue) old) sent limit) = subst (IsMill frames) round kept in
    let short = stems_short frames state sends.ready.is sends.ready.short in
    let goes = goes_on (limit - sent) core old (map (λ queue. refilled (added queue) queue) old) (sym sends.ready.next_is) (stems_turned old) (all_calm old short) in
    let packet : is_packet next ≡ true = ap is_packet (is ∙ ap (next_of (limit - sent)) queues) ∙ goes in
    let one = one_ahead next packet in
    let many = sends.rounds_are in
    let cores : map (λ (w : Work). w.core) works' ≡ map (λ (w : Work). w.core) works = ap (map (λ (w : Work). w.core)) same ∙ cores_turned works in
    let as_long : length works' ≡ length works = as_many works' works cores in
    record {
      ready = record {
        is = rw queues now;
        counted = sends.ready.counted;
        next_is = is;
        short = sends.ready.short;
        limited = sends.ready.limited;
        turns = rw same (turns_within (sent + 1) (sent + packet_ahead next) (map turned works) (omega (arith, one)) (turns_more sent works sends.turns));
        rounds_are = omega (arith, one, many, count);
        cores_are = in_order_still works' works cores sends.ready.cores_are;
        shares = subst (λ n. HaveShares n frames (mill_after frames (queues_of works') sent limit)) (sym as_long)
            (rw queues (shares_round (length works) frames old sent limit sends.ready.shares));
        fed = rw (as_long, queues, count) (fed_more (length works) frames rounds old sends.ready.fed);
      };
      state = ap (λ (l : List Queue). mill_after frames l sent limit) queues ∙ sym round;
      served = λ other. packet_served next other packet;
    }

-- a whole step of the run
pub record IsGone (frames : List Frame) (works between works' : List Work) (rounds limit sent sent' : ℕ) (after next : Next) : Type 0 where
  pub ready : IsReady frames works' rounds limit sent' next
  pub state : mill_after frames (queues_of works') sent' limit ≡ stepped added (mill_after frames (queues_of works) sent limit)
  pub served : (core : ℕ) → ¬ (next ≡ Need core)
  pub then_is : next_in (happens (mill_after frames (queues_of works) sent limit) Emit) ≡ after
  pub cores : length works' ≡ length works
  pub order : map (λ (w : Work). w.core) between ≡ range_with_len 0 (length works)

pub gone : (frames : List Frame) (works between works' : List Work) (rounds rounds' limit sent sent' : ℕ) (next after next' : Next)
    → IsReady frames works rounds limit sent next
    → queues_of between ≡ queues_after next (queues_of works)
    → map (λ (w : Work). w.core ∷ w.turns ∷ w.base ∷ []) between ≡ map (λ (w : Work). w.core ∷ w.turns ∷ w.base ∷ []) works
    → sent' ≡ sent + packet_ahead next → after ≡ next_of (limit - sent') (queues_of between)
    → works' ≡ works_after turned after between → rounds' ≡ rounds_after after rounds → next' ≡ next_of (limit - sent') (queues_of works')
    → IsGone frames works between works' rounds' limit sent sent' after next'
gone frames works between works' rounds rounds' limit sent sent' next after next' ready queues marks count is works_are rounds_are is' =
    let sends = after_emit frames works between rounds limit sent sent' next after ready queues marks count is in
    let step = after_supply frames between works' rounds rounds' limit sent' after next' sends works_are rounds_are is' in
    let emitted = emit_is frames (queues_of works) sent limit next ready.is ready.counted ready.next_is in
    let state : happens (mill_after frames (queues_of works) sent limit) Emit ≡ mill_after frames (queues_of between) sent' limit =
    emitted.0 ∙ rw (queues, count) refl in
    let coming_then : next_in (mill_after frames (queues_of between) sent' limit) ≡ after =
    next_is frames (queues_of between) sent' limit sends.ready.counted ∙ sym is in
    record {
      ready = step.ready;
      state = step.state ∙ sym (ap (λ (s : MillState). supplied added (next_in s) s) state
          ∙ ap (λ (n : Next). supplied added n (mill_after frames (queues_of between) sent' limit)) coming_then);
      served = step.served;
      then_is = ap next_in state ∙ coming_then;
      cores = supplied_as_many after between works' works_are ∙ as_many between works (cores_by_marks between works marks);
      order = cores_by_marks between works marks ∙ ready.cores_are;
    }
  where
    supplied_as_many : (after : Next) (between works' : List Work) → works' ≡ works_after turned after between → length works' ≡ length between
    supplied_as_many (Packet at) between works' is = ap length is
    supplied_as_many End between works' is = ap length is
    supplied_as_many (Need core) between works' is = ap length is ∙ length-map between turned

-- the same from what sending and supplying say
pub gone_to : (frames : List Frame) (works between works' : List Work) (rounds same_rounds rounds' limit same_limit sent sent' : ℕ) (next after next' : Next)
    → IsReady frames works rounds limit sent next
    → queues_of between ≡ queues_after next (queues_of works)
    → map (λ (w : Work). w.core ∷ w.turns ∷ w.base ∷ []) between ≡ map (λ (w : Work). w.core ∷ w.turns ∷ w.base ∷ []) works
    → same_rounds ≡ rounds → sent' ≡ sent + packet_ahead next → same_limit ≡ limit → after ≡ next_of (same_limit - sent') (queues_of between)
    → works' ≡ works_after turned after between → rounds' ≡ rounds_after after same_rounds → next' ≡ next_of (same_limit - sent') (queues_of works')
    → IsGone frames works between works' rounds' limit sent sent' after next'
gone_to frames works between works' rounds same_rounds rounds' limit same_limit sent sent' next after next' ready queues marks rounds_same count limit_same is works_are rounds_are is' =
    gone frames works between works' rounds rounds' limit sent sent' next after next' ready queues marks count
    (is ∙ ap (λ n. next_of (n - sent') (queues_of between)) limit_same) works_are (rounds_are ∙ ap (rounds_after after) rounds_same)
    (is' ∙ ap (λ n. next_of (n - sent') (queues_of works')) limit_same)

-- ---- the end and the beginning of a run

-- where nothing comes next and nobody has to be waited for, the state is ended
pub ended : (frames : List Frame) (works : List Work) (rounds limit sent : ℕ) (next : Next) → IsReady frames works rounds limit sent next
    → is_packet next ≡ false → ((core : ℕ) → ¬ (next ≡ Need core)) → IsEnded (mill_after frames (queues_of works) sent limit)
ended frames works rounds limit sent (Packet at) ready none served = cc
ended frames works rounds limit sent (Need core) ready none served = absurd (served core refl)
ended frames works rounds limit sent End ready none served =
    (end_is_ended (mill_after frames (queues_of works) sent limit)).0 (next_is frames (queues_of works) sent limit ready.counted ∙ sym ready.next_is)

-- and then the rounds sufficed
pub ended_suffices : (frames : List Frame) (works : List Work) (rounds limit sent : ℕ) (next : Next) → IsReady frames works rounds limit sent next
    → is_packet next ≡ false → take sent (ordered key_of frames) ≡ sequence limit frames → IsEnoughRounds (length works) rounds (sequence limit frames)
ended_suffices frames works rounds limit sent next ready none whole =
    let long = length-take-le sent (ordered key_of frames) ready.counted in
    let all = ap length whole in
    let many = ready.rounds_are in
    let no_more = none_ahead next none in
    suffices frames works rounds sent limit (sequence limit frames) ready.shares ready.fed whole (omega arith)

-- before the first turn nothing waits
none_waits : (works : List Work) (at : ℕ) (waiting : List Frame) → AllByRecursion (λ work. work.queue.waiting ≡ []) works
    → slice_get (all_waiting (queues_of works)) at ≡ Some waiting → waiting ≡ []
none_waits [] at waiting none there = cc
none_waits (w ∷ works) zero waiting none there = let here = none.0 in cc
none_waits (w ∷ works) (suc at) waiting none there = none_waits works at waiting none.1 there

first_none : (base : ℕ) (frames : List Frame) (cores from count : ℕ) → AllByRecursion (λ work. work.queue.waiting ≡ []) (map (first_work base cores frames) (range_with_len from count))
first_none base frames cores from zero = tt
first_none base frames cores from (suc count) = (refl, first_none base frames cores (from + 1) count)

-- no turn was taken
first_turns : (base : ℕ) (frames : List Frame) (cores from count most : ℕ) → AllByRecursion (λ work. work.turns ≤ most) (map (first_work base cores frames) (range_with_len from count))
first_turns base frames cores from zero most = tt
first_turns base frames cores from (suc count) most = (omega arith, first_turns base frames cores (from + 1) count most)

-- what is to come is the cores' shares
first_queues : (base : ℕ) (frames : List Frame) (cores from count : ℕ)
    → queues_of (map (first_work base cores frames) (range_with_len from count))
    ≡ map (λ (l : List Frame). record { waiting = []; coming = l }) (map (λ core. share core cores frames) (range_with_len from count))
first_queues base frames cores from zero = refl
first_queues base frames cores from (suc count) =
    ap (λ (l : List Queue). record { waiting = []; coming = share from cores frames } ∷ l) (first_queues base frames cores (from + 1) count)

-- the works are in order of core
first_cores : (base : ℕ) (frames : List Frame) (cores from count : ℕ) → map (λ (w : Work). w.core) (map (first_work base cores frames) (range_with_len from count)) ≡ range_with_len from count
first_cores base frames cores from zero = refl
first_cores base frames cores from (suc count) = ap (λ (l : List ℕ). from ∷ l) (first_cores base frames cores (from + 1) count)

first_none_waits : (base : ℕ) (frames : List Frame) (cores from count : ℕ) → AllByRecursion (λ queue. queue.waiting ≡ []) (queues_of (map (first_work base cores frames) (range_with_len from count)))
first_none_waits base frames cores from zero = tt
first_none_waits base frames cores from (suc count) = (refl, first_none_waits base frames cores (from + 1) count)

-- no packet comes next
nothing_comes : (base : ℕ) (frames : List Frame) (cores limit : ℕ) (next : Next) → next ≡ next_of (limit - 0) (queues_of (first_works base cores frames)) → packet_ahead next ≡ 0
nothing_comes base frames cores limit (Need core) is = refl
nothing_comes base frames cores limit End is = refl
nothing_comes base frames cores limit (Packet at) is =
    let least = packet_is_least (limit - 0) at (queues_of (first_works base cores frames)) (sym is) in
    let none = none_waits (first_works base cores frames) at (least.frame ∷ least.rest) (first_none base frames cores 0 cores) least.there in
    cc

pub record IsBegun (frames : List Frame) (works : List Work) (limit : ℕ) (next : Next) : Type 0 where
  pub ready : IsReady frames works 0 limit 0 next
  pub none : packet_ahead next ≡ 0

pub begins : (base : ℕ) (frames : List Frame) (works : List Work) (cores limit : ℕ) (next : Next) → AreDistinct key_of frames → AllByRecursion IsShort frames
    → 0 < cores → limit ≤ 100000000 → works ≡ first_works base cores frames → next ≡ next_of (limit - 0) (queues_of works)
    → IsBegun frames works limit next
begins base frames works cores limit next distinct short some few first is =
    let is' : next ≡ next_of (limit - 0) (queues_of (first_works base cores frames)) = is ∙ ap (λ (w : List Work). next_of (limit - 0) (queues_of w)) first in
    let mill : IsMill frames (mill_after frames (queues_of works) 0 limit) =
    rw (first, first_queues base frames cores 0 cores) (start_is frames cores limit distinct some) in
    let long : length works ≡ cores = ap length first ∙ length-map-range_with_len (first_work base cores frames) 0 cores in
    let shares : HaveShares cores frames (mill_after frames (queues_of works) 0 limit) = rw (first, first_queues base frames cores 0 cores) (start_shares frames cores limit) in
    let none : AllByRecursion (λ queue. queue.waiting ≡ []) (queues_of works) = rw first (first_none_waits base frames cores 0 cores) in
    record {
      ready = record {
        is = mill;
        counted = omega arith;
        next_is = is;
        short = short;
        limited = few;
        turns = rw first (first_turns base frames cores 0 cores (0 + packet_ahead next));
        rounds_are = omega arith;
        cores_are = ap (map (λ (w : Work). w.core)) first ∙ first_cores base frames cores 0 cores ∙ ap (range_with_len 0) (sym long);
        shares = subst (λ n. HaveShares n frames (mill_after frames (queues_of works) 0 limit)) (sym long) shares;
        fed = subst (λ n. HasKeptUp n frames 0 (queues_of works)) (sym long) (fed_first cores frames (queues_of works) limit shares none);
      };
      none = nothing_comes base frames cores limit next is';
    }

-- how many packets were reached
pub reached_is : (frames : List Frame) (works : List Work) (rounds limit sent : ℕ) (next : Next) → IsReady frames works rounds limit sent next
    → reached (mill_after frames (queues_of works) sent limit) ≡ sent + packet_ahead next
reached_is frames works rounds limit sent next ready =
    let long = length-take-le sent (ordered key_of frames) ready.counted in
    let is : next_in (mill_after frames (queues_of works) sent limit) ≡ next = next_is frames (queues_of works) sent limit ready.counted ∙ sym ready.next_is in
    ap (λ n. n + packet_ahead (next_in (mill_after frames (queues_of works) sent limit))) long ∙ ap (λ (n : Next). sent + packet_ahead n) is

-- ---- a step as its contract says it

-- a run as its contracts see it, of these works
abbrev pub state_of : PlanOf → List Work → ℕ → ℕ → ℕ → RunState
state_of plan works rounds sent limit = record { plan = plan; state = mill_after (frames_of_plan plan) (queues_of works) sent limit; rounds = rounds }

pub step_is : {G : Type 0} (entries : G → Option (List (ℕ × ℕ))) (plan : PlanOf) (works between works' : List Work) (rounds rounds' limit sent sent' : ℕ)
    (next then next' : Next) (old new : List G) → IsReady (frames_of_plan plan) works rounds limit sent next
    → IsGone (frames_of_plan plan) works between works' rounds' limit sent sent' then next'
    → sent' ≡ sent + packet_ahead next → rounds' ≡ rounds_after then rounds → EnteredAfter entries (λ (w : Work). w.core) then between rounds old new
    → IsStep entries (state_of plan works rounds sent limit) (state_of plan works' rounds' sent' limit) old new (is_packet next')
step_is entries plan works between works' rounds rounds' limit sent sent' next then next' old new ready gone count made entered =
    let frames = frames_of_plan plan in
    let after : MillState = mill_after frames (queues_of works') sent' limit in
    let all = sequence limit frames in
    let cores : length (queues_of works) ≡ length works = length-map works (λ (w : Work). w.queue) in
    let cores' : length (queues_of works') ≡ length works' = length-map works' (λ (w : Work). w.queue) in
    let comes : next_in after ≡ next' = next_is frames (queues_of works') sent' limit gone.ready.counted ∙ sym gone.ready.next_is in
    let tells = tell_after entries (length works) (λ (w : Work). w.core) then between rounds old new gone.order entered in
    let over : is_packet next' ≡ false → IsEnded after = λ none. ended frames works' rounds' limit sent' next' gone.ready none gone.served in
    let whole : is_packet next' ≡ false → after.sent ≡ all = λ none. sent_whole frames after gone.ready.is (over none) in
    record {
      steps = record {
        plan = refl;
        limit = refl;
        cores = cores' ∙ gone.cores ∙ sym cores;
        told = subst (λ n. TellRounds entries n rounds rounds' old new) (sym cores) (subst (λ n. TellRounds entries (length works) rounds n old new) (sym made) tells);
      };
      state = gone.state;
      rounds = made ∙ ap (λ (n : Next). rounds_after n rounds) (sym gone.then_is);
      sent = length-take-le sent' (ordered key_of frames) gone.ready.counted ∙ count ∙ sym (reached_is frames works rounds limit sent next ready);
      more = ap is_packet (sym comes);
      ended = over;
      whole = whole;
      through = λ none. record {
        all = ap (λ n. n + packet_ahead (next_in after)) (ap length (whole none)) ∙ ap (λ (n : Next). length all + packet_ahead n) comes
            ∙ ap (λ n. length all + n) (none_ahead next' none) ∙ add-zero (length all);
        enough = subst (λ n. IsEnoughRounds n rounds' all) (gone.cores ∙ sym cores) (ended_suffices frames works' rounds' limit sent' next' gone.ready none (whole none));
      };
    }

-- ---- the works of all cores

-- one core more
pub works_more : (base cores core : ℕ) (frames : List Frame) (works : List Work) → works ≡ map (first_work base cores frames) (range_with_len 0 core)
    → works ++ first_work base cores frames core ∷ [] ≡ map (first_work base cores frames) (range_with_len 0 (core + 1))
works_more base cores core frames works is =
    ap (λ (l : List Work). l ++ first_work base cores frames core ∷ []) is ∙ sym (range_more (first_work base cores frames) 0 core core (omega arith))
  where
    range_suc : {X : Type 0} (f : ℕ → X) (from count last : ℕ) → from + count ≡ last → map f (range_with_len from (suc count)) ≡ map f (range_with_len from count) ++ f last ∷ []
    range_suc f from zero last at = let same : from ≡ last = omega arith in ap (λ n. f n ∷ []) same
    range_suc f from (suc count) last at = ap (λ l. f from ∷ l) (range_suc f (from + 1) count last (omega arith))

    range_more : {X : Type 0} (f : ℕ → X) (from count last : ℕ) → from + count ≡ last → map f (range_with_len from (count + 1)) ≡ map f (range_with_len from count) ++ f last ∷ []
    range_more f from count last at = rw add-one (range_suc f from count last at)

-- the works of all cores are in order of core
in_order : (base cores : ℕ) (frames : List Frame) (from count : ℕ) → AreInOrder (λ (w : Work). w.core) from (map (first_work base cores frames) (range_with_len from count))
in_order base cores frames from zero = tt
in_order base cores frames from (suc count) = (refl, in_order base cores frames (from + 1) count)

pub works_in_order : (base cores : ℕ) (frames : List Frame) → AreInOrder (λ (w : Work). w.core) 0 (first_works base cores frames)
works_in_order base cores frames = in_order base cores frames 0 cores

pub works_count : (base cores : ℕ) (frames : List Frame) → length (first_works base cores frames) ≡ cores
works_count base cores frames = length-map-range_with_len (first_work base cores frames) 0 cores
