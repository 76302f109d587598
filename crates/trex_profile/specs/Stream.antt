-- What a stream says, as plain data (own).
use Rattle.std.specs.Prelude.{ℕ, ◌≤◌, ◌<◌, ◌^◌, Bool, List, length, map, Option, All}
use Rattle.std.specs.Option.{ForSome}
use Rattle.trex_sched.specs.declared.mode.Mode.{Mode}
use Rattle.trex_sched.specs.declared.mode.Mode.TheVariants.{Continuous, SingleBurst, MultiBurst}
use Rattle.trex_profile.specs.declared.flow.Flow.{Flow}
use Rattle.trex_profile.specs.declared.raw.RawRate.{RawRate}
use Rattle.trex_profile.specs.declared.raw.RawStream.{RawStream}
use Rattle.trex_profile.specs.Flow.{IsFlow}
use Rattle.trex_profile.specs.Instruction.{Instruction, instruction, IsRawInstr}

-- A stream: its names in a profile, each default filled in. The gap is in nanoseconds, the template is the bytes of each packet
-- before its instructions.
pub record Stream : Type 0 where
  pub id : ℕ
  pub enabled : Bool
  pub self_start : Bool
  pub isg : ℕ
  pub next : Option ℕ
  pub action_count : ℕ
  pub seed : ℕ
  pub template : List ℕ
  pub rate : RawRate
  pub mode : Mode
  pub flow : Option Flow
  pub instrs : List Instruction

-- a stream as it is held before its values are looked at
abbrev pub raw_stream : RawStream → Stream
raw_stream s = record {
  id = s.id;
  enabled = s.enabled;
  self_start = s.self_start;
  isg = s.isg;
  next = s.next;
  action_count = s.action_count;
  seed = s.seed;
  template = s.template.items;
  rate = s.rate;
  mode = s.mode;
  flow = s.flow;
  instrs = map instruction s.instrs.items;
}

-- the gap between bursts is at most 10^18 ns
abbrev pub HasGap : Mode → Type 0
HasGap Continuous = Unit {0}
HasGap (SingleBurst total) = Unit {0}
HasGap (MultiBurst per_burst ibg count) = ibg ≤ 10 ^ 18

-- the ranges that the reading of a stream keeps
pub record IsRawStream (s : RawStream) : Type 0 where
  pub id : s.id ≤ 2147483647
  pub next : ForSome s.next (λ id. id ≤ 2147483647)
  pub isg : s.isg ≤ 10 ^ 18
  pub rate : s.rate.value < 10 ^ 30
  pub ibg : HasGap s.mode
  pub flow : ForSome s.flow IsFlow
  pub count : length s.instrs.items ≤ 256
  pub instrs : All IsRawInstr (map instruction s.instrs.items)
