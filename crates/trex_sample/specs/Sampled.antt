-- The profile of a sample: streams that a seed determines. Own.
use Rattle.std.specs.Prelude.{ℕ, ◌+◌, ◌*◌, ◌%◌, ◌^◌, ◌==◌, pos, true, false, if◌then◌else◌, codes, List, [], ◌∷◌, map, None}
use Rattle.std.specs.List.{range_with_len}
use Rattle.trex_vars.specs.Value.{word_at}
use Rattle.trex_vars.specs.declared.spec.Op.TheVariants.{Inc, Random}
use Rattle.trex_sched.specs.declared.mode.Mode.{Mode}
use Rattle.trex_sched.specs.declared.mode.Mode.TheVariants.{Continuous, SingleBurst, MultiBurst}
use Rattle.trex_profile.specs.declared.raw.RateKind.TheVariants.{Pps}
use Rattle.trex_profile.specs.declared.raw.RawPlace.TheVariants.{At}
use Rattle.trex_profile.specs.Instruction.{Instruction, FlowVar, Write, FixHw}
use Rattle.trex_profile.specs.Stream.{Stream}
use Rattle.trex_sample.specs.Template.{template}

-- word i of a seed: the generator PCG XSL RR 128/64 with that state and stream 0
abbrev pub word : ℕ → ℕ → ℕ
word seed i = word_at seed 0 i

-- how a stream sends, by a word, and how much, by another
abbrev pub mode_by : ℕ → ℕ → Mode
mode_by kind size =
    if kind % 3 == 0 then Continuous
    else if kind % 3 == 1 then SingleBurst (1 + size % 1000)
    else MultiBurst (1 + size % 100) 1000 (1 + size % 10)

-- An address that counts from 16.0.0.1 to 16.0.0.254 is the IPv4 source, and a random port from 1024 on the UDP source; then both checksums
-- are fixed.
abbrev pub instructions : List Instruction
instructions =
    FlowVar (codes "src") 4 Inc 268435457 268435457 268435710 1 false
    ∷ Write (codes "src") (At 26) (pos 0) true
    ∷ FlowVar (codes "port") 2 Random 1024 1024 65535 1 false
    ∷ Write (codes "port") (At 34) (pos 0) true
    ∷ FixHw 14 20 11
    ∷ []

-- stream j of the sample of a seed: four words are its own
abbrev pub sampled_stream : ℕ → ℕ → Stream
sampled_stream seed j = record {
  id = j + 1;
  enabled = true;
  self_start = true;
  isg = j * 1000;
  next = None;
  action_count = 0;
  seed = j;
  template = template (18 + word seed (4 * j) % 1001);
  rate = record { kind = Pps; value = (1 + word seed (4 * j + 3) % 1000000) * 10 ^ 6 };
  mode = mode_by (word seed (4 * j + 1)) (word seed (4 * j + 2));
  flow = None;
  instrs = instructions;
}

-- so many streams of the sample of a seed
unfoldable pub sampled : ℕ → ℕ → List Stream
sampled seed streams = map (sampled_stream seed) (range_with_len 0 streams)
