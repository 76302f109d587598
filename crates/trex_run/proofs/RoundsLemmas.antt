-- What the gates of a run are told, round by round.
use Rattle.std.proofs.Common.{◌≡◌, ℕ, zero, suc, ◌+◌, ◌*◌, ◌/◌, ◌<◌, List, [], ◌∷◌, ◌++◌, length, map, sym, ap, subst, ◌∙◌, arith, Option, append_assoc, append-nil, zero-add, add-one, length-append, IsPermutation}
use Rattle.std.specs.List.{flat_map, range_with_len}
use Rattle.std.proofs.lemmas.Grind.{flat_map-append}
use Rattle.std.proofs.lemmas.List.FromFn.{length-map-range_with_len}
use Rattle.std.proofs.lemmas.List.Sorted.{IsPermutation-append_left, IsPermutation-append_right, IsPermutation-refl, IsPermutation-trans, length_permutation}
use Rattle.std.proofs.lemmas.Simd.{map-map}
use Rattle.std.proofs.Math.Nat.{mul-div_cancel, zero-div}
use Rattle.trex_crew.specs.Told.{IfTold}
use Rattle.trex_crew.proofs.CoreLemmas.{range_snoc}
use Rattle.trex_crew.proofs.EntryLemmas.{all_told, told_nothing, told_twice}
use Rattle.trex_merge.specs.declared.next.Next.{Next}
use Rattle.trex_merge.specs.declared.next.Next.TheVariants.{Packet, Need, End}
use Rattle.trex_merge.specs.Frames.{Frame}
use Rattle.trex_run.specs.Rounds.{AreRounds, EnteredAfter, IsEnoughRounds, TellEnough, TellRounds, entries_of, round_of}
use Rattle.trex_run.specs.Step.{rounds_after}

-- ---- the entries of rounds

-- one round more
entries_more : (cores rounds : ℕ) → entries_of cores (rounds + 1) ≡ entries_of cores rounds ++ round_of cores rounds
entries_more cores rounds =
    ap (entries_of cores) (add-one rounds)
    ∙ ap (flat_map (round_of cores)) (range_snoc 0 rounds ∙ ap (λ n. range_with_len 0 rounds ++ n ∷ []) (zero-add rounds))
    ∙ flat_map-append (round_of cores) (range_with_len 0 rounds) (rounds ∷ [])
    ∙ ap (λ l. entries_of cores rounds ++ l) (append-nil (round_of cores rounds))

-- how many there are
entries_count : (cores from rounds : ℕ) → length (flat_map (round_of cores) (range_with_len from rounds)) ≡ rounds * cores
entries_count cores from zero = omega arith
entries_count cores from (suc rounds) =
    let one : length (round_of cores from) ≡ cores = length-map-range_with_len (λ core. (from, core)) 0 cores in
    let rest = entries_count cores (from + 1) rounds in
    length-append (round_of cores from) (flat_map (round_of cores) (range_with_len (from + 1) rounds)) ∙ omega (arith, one, rest)

-- how many rounds they are of
rounds_told : (cores rounds : ℕ) (told : List (ℕ × ℕ)) → 0 < cores → IsPermutation told (entries_of cores rounds) → length told / cores ≡ rounds
rounds_told cores rounds told some same =
    ap (λ n. n / cores) (sym (length_permutation told (entries_of cores rounds) same) ∙ entries_count cores 0 rounds) ∙ mul-div_cancel rounds some

module _ {G : Type 0} (entries : G → Option (List (ℕ × ℕ))) (cores : ℕ) where
  -- ---- from step to step

  -- nothing happened
  pub tell_nothing : (rounds : ℕ) (gates : List G) → TellRounds entries cores rounds rounds gates gates
  tell_nothing rounds gates some tell =
      ([], told_nothing entries gates tell, subst (λ l. IsPermutation l (entries_of cores rounds)) (sym (append-nil (entries_of cores rounds))) (IsPermutation-refl _))

  -- a round was made, where one was needed
  pub tell_after : {T : Type 0} (core_of : T → ℕ) (next : Next) (works : List T) (rounds : ℕ) (old new : List G) → map core_of works ≡ range_with_len 0 cores
      → EnteredAfter entries core_of next works rounds old new → TellRounds entries cores rounds (rounds_after next rounds) old new
  tell_after core_of (Packet at) works rounds old new order same some tell = subst (TellRounds entries cores rounds rounds old) (sym same) (tell_nothing rounds old) some tell
  tell_after core_of End works rounds old new order same some tell = subst (TellRounds entries cores rounds rounds old) (sym same) (tell_nothing rounds old) some tell
  tell_after core_of (Need core) works rounds old new order entered some tell =
      let one = entered some tell in
      let round : map (λ work. (rounds, core_of work)) works ≡ round_of cores rounds = sym (map-map (λ n. (rounds, n)) core_of works) ∙ ap (map (λ n. (rounds, n))) order in (
        one.0,
        one.1,
        subst (IsPermutation (entries_of cores rounds ++ one.0)) (sym (entries_more cores rounds))
            (IsPermutation-append_right (entries_of cores rounds) _ _ (subst (IsPermutation one.0) round one.2)),
      )

  -- one step after another
  pub tell_on : (same before between after : ℕ) (old mid new : List G) → same ≡ cores → length mid ≡ length old → TellRounds entries cores before between old mid
      → TellRounds entries same between after mid new → TellRounds entries cores before after old new
  tell_on same before between after old mid new is long first then some tell =
      let some_then : 0 < length mid = omega arith in
      let b = subst (λ n. TellRounds entries n between after mid new) is then some_then tell in
      let a = first some (all_told entries mid new b.0 b.1) in
      let both = told_twice entries old mid new a.0 b.0 a.1 b.1 in
      let whole : IsPermutation (entries_of cores before ++ (a.0 ++ b.0)) (entries_of cores after) =
      subst (λ l. IsPermutation l (entries_of cores after)) (append_assoc (entries_of cores before) a.0 b.0)
      (IsPermutation-trans _ _ _ (IsPermutation-append_left b.0 _ _ a.2) b.2) in
      (both.0, both.1, IsPermutation-trans _ _ _ (IsPermutation-append_right (entries_of cores before) _ _ both.2) whole)

  -- ---- over a whole run

  -- from the first round on
  from_first : (same before rounds : ℕ) (old new : List G) → same ≡ cores → before ≡ 0 → TellRounds entries same before rounds old new → TellRounds entries cores 0 rounds old new
  from_first same before rounds old new is none tells =
      subst (λ n. TellRounds entries n 0 rounds old new) is (subst (λ n. TellRounds entries same n rounds old new) none tells)

  -- no gate was entered
  pub tell_no_rounds : (gates : List G) → IfTold entries gates gates (AreRounds cores)
  tell_no_rounds gates tell =
      ([], told_nothing entries gates tell, subst (λ n. IsPermutation [] (entries_of cores n)) (sym (zero-div cores)) (IsPermutation-refl []))

  -- they were told of whole rounds
  pub tell_all : (same before rounds : ℕ) (old new : List G) → same ≡ cores → before ≡ 0 → 0 < cores → length new ≡ length old → TellRounds entries same before rounds old new
      → IfTold entries old new (AreRounds cores)
  tell_all same before rounds [] [] is none some long tells tell = tell_no_rounds [] tell
  tell_all same before rounds [] (b ∷ new) is none some long tells tell = absurd (omega arith)
  tell_all same before rounds (a ∷ old) new is none some long tells tell =
      let all = from_first same before rounds (a ∷ old) new is none tells (omega arith) tell in
      (all.0, all.1, subst (λ n. IsPermutation all.0 (entries_of cores n)) (sym (rounds_told cores rounds all.0 some all.2)) all.2)

  -- and of as many as the packets want
  pub tell_enough : (same before rounds : ℕ) (frames : List Frame) (old new : List G) → same ≡ cores → before ≡ 0 → 0 < cores → TellRounds entries same before rounds old new
      → IsEnoughRounds same rounds frames → TellEnough entries cores frames old new
  tell_enough same before rounds frames old new is none some tells enough gates tell =
      let all = from_first same before rounds old new is none tells gates tell in
      let told = sym (rounds_told cores rounds all.0 some all.2) in
      (all.0, all.1, subst (λ n. IsEnoughRounds cores n frames) told (subst (λ n. IsEnoughRounds n rounds frames) is enough))
