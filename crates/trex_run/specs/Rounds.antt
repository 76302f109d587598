-- The rounds of a run, and what its gates are told of them. Own.
use Rattle.std.specs.Prelude.{◌≡◌, ℕ, ◌+◌, ◌*◌, ◌/◌, ◌<◌, ◌≤◌, List, ◌++◌, length, map, Option, Some, IsPermutation}
use Rattle.std.specs.List.{flat_map, range_with_len, slice_get}
use Rattle.trex_crew.specs.Told.{Entered, IfTold}
use Rattle.trex_merge.specs.declared.next.Next.{Next}
use Rattle.trex_merge.specs.declared.next.Next.TheVariants.{Packet, Need, End}
use Rattle.trex_merge.specs.Frames.{Frame, share}
use Rattle.trex_merge.specs.Machine.{sent_by}
use Rattle.trex_merge.specs.Queues.{Queue}

-- the entries of a round: one for each core
abbrev pub round_of : ℕ → ℕ → List (ℕ × ℕ)
round_of cores round = map (λ core. (round, core)) (range_with_len 0 cores)

-- the entries of so many rounds, from the first one on
abbrev pub entries_of : ℕ → ℕ → List (ℕ × ℕ)
entries_of cores rounds = flat_map (round_of cores) (range_with_len 0 rounds)

-- Where there are gates, they were told of the rounds between two: with the entries of the rounds before, theirs are the entries of all.
abbrev pub TellRounds : {G : Type 0} → (G → Option (List (ℕ × ℕ))) → ℕ → ℕ → ℕ → List G → List G → Type 0
TellRounds entries cores before after old new =
    0 < length old → IfTold entries old new (λ told. IsPermutation (entries_of cores before ++ told) (entries_of cores after))

-- Where a round is needed, the gates were entered for it; else for nothing.
abbrev pub EnteredAfter : {G T : Type 0} → (G → Option (List (ℕ × ℕ))) → (T → ℕ) → Next → List T → ℕ → List G → List G → Type 0
EnteredAfter entries core_of (Need core) works round old new = 0 < length old → Entered entries core_of works round old new
EnteredAfter entries core_of (Packet at) works round old new = new ≡ old
EnteredAfter entries core_of End works round old new = new ≡ old

-- Entries are those of whole rounds: each pair of a round and a core once, in some order, and nothing else.
abbrev pub AreRounds : ℕ → List (ℕ × ℕ) → Type 0
AreRounds cores told = IsPermutation told (entries_of cores (length told / cores))

-- So many rounds suffice for the packets, of which a core makes at most 4,096 a round, and are no more than the packets.
pub record IsEnoughRounds (cores rounds : ℕ) (frames : List Frame) : Type 0 where
  pub enough : (core : ℕ) → core < cores → length (sent_by core cores frames) ≤ 4096 * rounds
  pub few : rounds ≤ length frames

-- Where there are gates, the rounds that they were told of suffice for the packets.
abbrev pub TellEnough : {G : Type 0} → (G → Option (List (ℕ × ℕ))) → ℕ → List Frame → List G → List G → Type 0
TellEnough entries cores frames old new = 0 < length old → IfTold entries old new (λ told. IsEnoughRounds cores (length told / cores) frames)

-- A core made at most 4,096 packets a round: the others of its share are still to come.
abbrev pub HasKeptUp : ℕ → List Frame → ℕ → List Queue → Type 0
HasKeptUp cores frames rounds queues =
    (core : ℕ) (queue : Queue) → slice_get queues core ≡ Some queue → length (share core cores frames) ≤ length queue.coming + 4096 * rounds
