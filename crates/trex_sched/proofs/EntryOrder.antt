-- The packets of a chain, run after run, rise in time and, within a stream, in number.
use Rattle.std.proofs.Common.{◌≡◌, ℕ, zero, suc, ◌+◌, ◌-◌, ◌*◌, ◌%◌, ◌==◌, ◌<◌, ◌≤◌, ◌⊎◌, nat_lt, Bool, true, cond, List, [], ◌∷◌, map, unwrap_or, Option, None, Some, refl, sym, ap, ◌∙◌, subst, arith, inl, inr}
use Rattle.std.proofs.lemmas.Bool.Decides.{nat_tests}
use Rattle.std.proofs.Math.Nat.{add-mul, mod-one, mul-le-mul_right}
use Rattle.std.specs.List.{AllByRecursion, slice_get, range_with_len}
use Rattle.trex_merge.specs.Order.{AreApart, AreDistinct, ComesBefore, EachPair, Has, IsRising}
use Rattle.trex_merge.proofs.OrderLemmas.{all-filter, pairs-filter}
use Rattle.trex_sched.specs.declared.chain.Leg.{Leg}
use Rattle.trex_sched.specs.declared.run.Run.{Run}
use Rattle.trex_sched.specs.declared.slot.Slot.{Slot}
use Rattle.trex_sched.specs.Chain.{Chain, IsChain}
use Rattle.trex_sched.specs.Entries.{entries, key_of, run_entries, share, slot_of}
use Rattle.trex_sched.specs.Runs.{run_after, run_at, runs, runs_from}
use Rattle.trex_sched.specs.Times.{HasPackets, size, span}
use Rattle.trex_sched.specs.Remaining.{IsReachable}
use Rattle.trex_sched.proofs.RunLemmas.{all_get, follows, Follows, runs_none}
use Rattle.trex_sched.proofs.Offsets.{ends_together, offset_rising, offset_spread, offset_within, run_ends}
use Rattle.trex_sched.proofs.Pairs.{all_flat, all_kept, all_more, all_range, pairs_flat, pairs_more, pairs_range}
use Rattle.trex_sched.proofs.Reached.{has_packets, reached_first, reached_next, sent_before}

-- ---- the runs of a chain

-- The later of two runs starts at the earlier one's end or after it, and stands later in the round or in a later round.
pub record Precedes (a b : Run) : Type 0 where
  pub lasts : ℕ
  pub ends : span a.leg ≡ Some lasts
  pub later : a.start + lasts ≤ b.start
  pub turn : (a.visit < b.visit) ⊎ ((a.visit ≡ b.visit) × (a.place < b.place))

precedes_next : (chain : Chain) (run next : Run) → Follows chain run next → Precedes run next
precedes_next chain run next f =
    record {
      lasts = f.lasts;
      ends = f.ends;
      later = omega (arith, f.start_is);
      turn = elim f.went [ inl on ↦ inr (sym on.1, omega (arith, on.0)) | inr back ↦ inl (omega (arith, back.1)) ];
    }

precedes_on : (chain : Chain) (a b c : Run) → Precedes a b → Follows chain b c → Precedes a c
precedes_on chain a b c p f =
    record {
      lasts = p.lasts;
      ends = p.ends;
      later = omega (arith, f.start_is, p.later);
      turn = elim f.went [
        | inl on ↦ elim p.turn [ inl higher ↦ inl (omega (arith, on.1)) | inr same ↦ inr (omega (arith, on.1, same.0), omega (arith, on.0, same.1)) ]
        | inr back ↦ elim p.turn [ inl higher ↦ inl (omega (arith, back.1)) | inr same ↦ inl (omega (arith, back.1, same.0)) ]
      ];
    }

-- a run precedes all that come after one that it precedes
all_after : (chain : Chain) (n : ℕ) (a b : Run) → Precedes a b → AllByRecursion (Precedes a) (runs_from chain n (Some b))
all_after chain zero a b p = tt
all_after chain (suc n) a b p = (
  p,
  elim (run_after chain b) as (λ o. run_after chain b ≡ o → AllByRecursion (Precedes a) (runs_from chain n o)) [
    | None ↦ λ none. subst (AllByRecursion (Precedes a)) (sym (runs_none chain n)) tt
    | Some c ↦ λ some. all_after chain n a c (precedes_on chain a b c p (follows chain b c some))
  ] refl,
)

pub runs_precede : (chain : Chain) (n : ℕ) (run : Run) → EachPair Precedes (runs_from chain n (Some run))
runs_precede chain zero run = tt
runs_precede chain (suc n) run =
    elim (run_after chain run) as (λ o. run_after chain run ≡ o → AllByRecursion (Precedes run) (runs_from chain n o) × EachPair Precedes (runs_from chain n o)) [
      | None ↦ λ none. subst (λ (rs : List Run). AllByRecursion (Precedes run) rs × EachPair Precedes rs) (sym (runs_none chain n)) (tt, tt)
      | Some next ↦ λ some. (all_after chain n run next (precedes_next chain run next (follows chain run next some)), runs_precede chain n next)
    ] refl

pub runs_reached : (chain : Chain) (n : ℕ) (run : Run) → IsChain chain → IsReachable chain run → AllByRecursion (IsReachable chain) (runs_from chain n (Some run))
runs_reached chain zero run is reached = tt
runs_reached chain (suc n) run is reached = (
  reached,
  elim (run_after chain run) as (λ o. run_after chain run ≡ o → AllByRecursion (IsReachable chain) (runs_from chain n o)) [
    | None ↦ λ none. subst (AllByRecursion (IsReachable chain)) (sym (runs_none chain n)) tt
    | Some next ↦ λ some. runs_reached chain n next is (reached_next chain run next is reached some)
  ] refl,
)

-- the runs below a duration
pub all_precede : (chain : Chain) (d : ℕ) → EachPair Precedes (runs chain d)
all_precede chain d =
    pairs-filter Precedes (λ run. nat_lt run.start d) (runs_from chain d (run_at chain 0 0 0))
    (elim (run_at chain 0 0 0) as (λ o. EachPair Precedes (runs_from chain d o)) [
      | None ↦ subst (EachPair Precedes) (sym (runs_none chain d)) tt
      | Some run ↦ runs_precede chain d run
    ])

pub all_reached : (chain : Chain) (d : ℕ) → IsChain chain → AllByRecursion (IsReachable chain) (runs chain d)
all_reached chain d is =
    all-filter (IsReachable chain) (λ run. nat_lt run.start d) (runs_from chain d (run_at chain 0 0 0))
    (elim (run_at chain 0 0 0) as (λ o. run_at chain 0 0 0 ≡ o → AllByRecursion (IsReachable chain) (runs_from chain d o)) [
      | None ↦ λ none. subst (AllByRecursion (IsReachable chain)) (sym (runs_none chain d)) tt
      | Some run ↦ λ some. runs_reached chain d run is (reached_first chain 0 run some)
    ] refl)

-- a run that is reached starts before one that it precedes
starts_before : (chain : Chain) (run later : Run) → IsChain chain → IsReachable chain run → Precedes run later → run.start < later.start
starts_before chain run later is reached p =
    let sized = ends_together run.leg.period run.leg.mode p.lasts p.ends in
    let long = run_ends run.leg.period run.leg.mode sized.0 p.lasts (has_packets chain run is reached) sized.1 p.ends in
    omega (arith, p.later)

pub starts_rise : (chain : Chain) (d : ℕ) → IsChain chain → EachPair (λ run later. run.start < later.start) (runs chain d)
starts_rise chain d is = rise (runs chain d) (all_reached chain d is) (all_precede chain d)
  where
    rise : (rs : List Run) → AllByRecursion (IsReachable chain) rs → EachPair Precedes rs → EachPair (λ run later. run.start < later.start) rs
    rise [] reached pairs = tt
    rise (run ∷ rs) reached pairs = (
      all_more (Precedes run) (λ later. run.start < later.start) rs (λ later p. starts_before chain run later is reached.0 p) pairs.0,
      rise rs reached.1 pairs.1,
    )

-- ---- legs

-- two legs of one stream stand at one place
pub one_place : (legs : List Leg) (p q : ℕ) (a b : Leg) → EachPair (λ a b. ¬ (a.stream ≡ b.stream)) legs → slice_get legs p ≡ Some a → slice_get legs q ≡ Some b
    → a.stream ≡ b.stream → p ≡ q
one_place [] p q a b distinct at at' same = absurd cc
one_place (leg ∷ legs) zero zero a b distinct at at' same = refl
one_place (leg ∷ legs) zero (suc q) a b distinct at at' same =
    let is : leg ≡ a = cc in
    absurd (all_get (λ l. ¬ (leg.stream ≡ l.stream)) legs q b distinct.0 at' (ap (λ (l : Leg). l.stream) is ∙ same))
one_place (leg ∷ legs) (suc p) zero a b distinct at at' same =
    let is : leg ≡ b = cc in
    absurd (all_get (λ l. ¬ (leg.stream ≡ l.stream)) legs p a distinct.0 at (ap (λ (l : Leg). l.stream) is ∙ sym same))
one_place (leg ∷ legs) (suc p) (suc q) a b distinct at at' same = ap suc (one_place legs p q a b distinct.1 at at' same)

-- Of two runs of one stream the later is of a later visit, and of the same leg.
later_visit : (chain : Chain) (a b : Run) → IsChain chain → IsReachable chain a → IsReachable chain b → Precedes a b → a.leg.stream ≡ b.leg.stream
    → (a.visit < b.visit) × (a.leg ≡ b.leg)
later_visit chain a b is ra rb p same =
    let place : a.place ≡ b.place = one_place chain.legs a.place b.place a.leg b.leg is.distinct ra.at_place rb.at_place same in
    let at : slice_get chain.legs a.place ≡ Some b.leg = ap (slice_get chain.legs) place ∙ rb.at_place in
    let was = ra.at_place in
    (elim p.turn [ inl higher ↦ higher | inr equal ↦ absurd (omega (arith, equal.1)) ], cc)

-- ---- packets

-- a later packet: its time is greater, and its number where the stream is the same
abbrev pub IsLater : Slot → Slot → Type 0
IsLater a b = (a.time < b.time) × (a.stream ≡ b.stream → a.number < b.number)

-- within a run
later_in_run : (d : ℕ) (run : Run) → HasPackets run.leg.mode → EachPair IsLater (run_entries d run 0)
later_in_run d run some =
    pairs-filter IsLater (λ slot. nat_lt slot.time d) (map (slot_of run) (range_with_len 0 (unwrap_or (size run.leg) d - 0)))
    (pairs_range IsLater (slot_of run) 0 (unwrap_or (size run.leg) d - 0) (λ i j less within.
    let rising = offset_rising run.leg.period run.leg.mode i j some less in
    (omega arith, λ same. omega arith)))

-- a packet of a run and one of a later run
later_run : (chain : Chain) (a b : Run) (i j d : ℕ) → IsChain chain → IsReachable chain a → IsReachable chain b → Precedes a b → i < unwrap_or (size a.leg) d
    → IsLater (slot_of a i) (slot_of b j)
later_run chain a b i j d is ra rb p within =
    let sized = ends_together a.leg.period a.leg.mode p.lasts p.ends in
    let n = sized.0 in
    let bound : unwrap_or (size a.leg) d ≡ n = ap (λ (o : Option ℕ). unwrap_or o d) sized.1 in
    let inside = offset_within a.leg.period a.leg.mode i n p.lasts (has_packets chain a is ra) sized.1 p.ends (omega arith) in (
      omega (arith, p.later),
      λ same.
          let next = later_visit chain a b is ra rb p same in
          let packets : unwrap_or (size a.leg) 0 ≡ n = ap (λ (o : Option ℕ). unwrap_or o 0) sized.1 in
          let packets' : unwrap_or (size b.leg) 0 ≡ n = ap (λ (l : Leg). unwrap_or (size l) 0) (sym next.1) ∙ packets in
          let mine : a.visit * unwrap_or (size a.leg) 0 ≡ a.visit * n = ap (λ (x : ℕ). a.visit * x) packets in
          let other : b.visit * unwrap_or (size b.leg) 0 ≡ b.visit * n = ap (λ (x : ℕ). b.visit * x) packets' in
          let whole : (a.visit + 1) * n ≡ a.visit * n + 1 * n = add-mul a.visit 1 n in
          let more : (a.visit + 1) * n ≤ b.visit * n = mul-le-mul_right n (omega (arith, next.0)) in
          omega arith,
    )

later_across : (chain : Chain) (d : ℕ) (a b : Run) → IsChain chain → IsReachable chain a → IsReachable chain b → Precedes a b
    → AllByRecursion (λ slot. AllByRecursion (IsLater slot) (run_entries d b 0)) (run_entries d a 0)
later_across chain d a b is ra rb p =
    all-filter (λ slot. AllByRecursion (IsLater slot) (run_entries d b 0)) (λ slot. nat_lt slot.time d) (map (slot_of a) (range_with_len 0 (unwrap_or (size a.leg) d - 0)))
    (all_range (λ slot. AllByRecursion (IsLater slot) (run_entries d b 0)) (slot_of a) 0 (unwrap_or (size a.leg) d - 0) (λ i low high.
    all-filter (IsLater (slot_of a i)) (λ slot. nat_lt slot.time d) (map (slot_of b) (range_with_len 0 (unwrap_or (size b.leg) d - 0)))
    (all_range (IsLater (slot_of a i)) (slot_of b) 0 (unwrap_or (size b.leg) d - 0) (λ j low' high'.
    later_run chain a b i j d is ra rb p (omega arith)))))

-- all packets of a chain
pub entries_later : (chain : Chain) (d : ℕ) → IsChain chain → EachPair IsLater (entries chain d)
entries_later chain d is =
    pairs_flat (IsReachable chain) Precedes IsLater (λ run. run_entries d run 0) (runs chain d)
    (λ run reached. later_in_run d run (has_packets chain run is reached))
    (λ a b ra rb p. later_across chain d a b is ra rb p)
    (all_reached chain d is) (all_precede chain d)

-- ---- the laws

pub entries_rising : (chain : Chain) (d : ℕ) → IsChain chain → IsRising key_of (entries chain d)
entries_rising chain d is =
    pairs_more IsLater (ComesBefore key_of) (entries chain d) (λ a b later. let first = later.0 in grind (arith, nat_tests)) (entries_later chain d is)

pub entries_distinct : (chain : Chain) (d : ℕ) → IsChain chain → AreDistinct key_of (entries chain d)
entries_distinct chain d is =
    pairs_more IsLater (AreApart key_of) (entries chain d) (λ a b later same. let more = later.1 same.0 in omega (arith, same.1)) (entries_later chain d is)

pub entries_shares : (chain : Chain) (core cores d : ℕ) → IsChain chain → IsRising key_of (share core cores (entries chain d))
entries_shares chain core cores d is = pairs-filter (ComesBefore key_of) (λ slot. slot.number % cores == core) (entries chain d) (entries_rising chain d is)

-- of each packet of each run
each_entry : (chain : Chain) (d : ℕ) (P : Slot → Type 0) → IsChain chain → ((run : Run) (k : ℕ) → IsReachable chain run → P (slot_of run k)) → AllByRecursion P (entries chain d)
each_entry chain d P is each =
    all_flat (IsReachable chain) P (λ run. run_entries d run 0) (runs chain d)
    (λ run reached. all-filter P (λ slot. nat_lt slot.time d) (map (slot_of run) (range_with_len 0 (unwrap_or (size run.leg) d - 0)))
    (all_range P (slot_of run) 0 (unwrap_or (size run.leg) d - 0) (λ k low high. each run k reached)))
    (all_reached chain d is)

pub entries_numbers : (chain : Chain) (d : ℕ) → IsChain chain → AllByRecursion (λ slot. slot.number ≤ slot.time) (entries chain d)
entries_numbers chain d is =
    each_entry chain d (λ slot. slot.number ≤ slot.time) is (λ run k reached.
    let sent = sent_before chain run is reached in
    let spread = offset_spread run.leg.period run.leg.mode k (has_packets chain run is reached) in
    omega arith)

pub entries_places : (chain : Chain) (d : ℕ) → IsChain chain → AllByRecursion (λ slot. slot.in_run ≤ slot.number) (entries chain d)
entries_places chain d is = each_entry chain d (λ slot. slot.in_run ≤ slot.number) is (λ run k reached. omega arith)

pub entries_streams : (chain : Chain) (d : ℕ) → IsChain chain → AllByRecursion (λ slot. Has (map (λ leg. leg.stream) chain.legs) slot.stream) (entries chain d)
entries_streams chain d is =
    each_entry chain d (λ slot. Has (map (λ leg. leg.stream) chain.legs) slot.stream) is (λ run k reached. stream_of chain.legs run.place run.leg reached.at_place)
  where
    stream_of : (legs : List Leg) (place : ℕ) (leg : Leg) → slice_get legs place ≡ Some leg → Has (map (λ leg. leg.stream) legs) leg.stream
    stream_of [] place leg at = absurd cc
    stream_of (l ∷ legs) zero leg at = let same : l ≡ leg = cc in inl (ap (λ (x : Leg). x.stream) (sym same))
    stream_of (l ∷ legs) (suc place) leg at = inr (stream_of legs place leg at)

pub entries_below : (chain : Chain) (d : ℕ) → AllByRecursion (λ slot. slot.time < d) (entries chain d)
entries_below chain d =
    all_flat (λ run. Unit {0}) (λ slot. slot.time < d) (λ run. run_entries d run 0) (runs chain d)
    (λ run any. all_kept (λ slot. slot.time < d) (λ slot. nat_lt slot.time d) (map (slot_of run) (range_with_len 0 (unwrap_or (size run.leg) d - 0))) (λ slot test. grind (arith, nat_tests)))
    (of_any (runs chain d))
  where
    of_any : (xs : List Run) → AllByRecursion (λ run. Unit {0}) xs
    of_any [] = tt
    of_any (x ∷ xs) = (tt, of_any xs)

-- one core has all
pub share_one : (slots : List Slot) → share 0 1 slots ≡ slots
share_one [] = refl
share_one (slot ∷ slots) =
    let test : (slot.number % 1 == 0) ≡ true = grind (arith, nat_tests, mod-one) in
    ap (λ (b : Bool). cond b (slot ∷ share 0 1 slots) (share 0 1 slots)) test ∙ ap (λ (rest : List Slot). slot ∷ rest) (share_one slots)
