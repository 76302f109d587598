-- An admitted stream, as plain data (own).
use Rattle.std.specs.Prelude.{map}
use Rattle.trex_profile.specs.declared.member.Member.{Member}
use Rattle.trex_profile.specs.Instruction.{instruction}
use Rattle.trex_profile.specs.Spec.{IsSpecOf}
use Rattle.trex_profile.specs.Stream.{Stream}

-- what an admitted stream says
abbrev pub member_stream : Member → Stream
member_stream m = record {
  id = m.spec.id;
  enabled = m.enabled;
  self_start = m.self_start;
  isg = m.isg;
  next = m.next;
  action_count = m.action_count;
  seed = m.seed;
  template = m.spec.template.items;
  rate = m.rate;
  mode = m.mode;
  flow = m.spec.flow;
  instrs = map instruction m.instrs.items;
}

-- what it says of its packets is what they are made of
abbrev pub IsMember : Member → Type 0
IsMember m = IsSpecOf (member_stream m) m.spec
