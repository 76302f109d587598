-- What an admitted stream's packets are made of (own).
use Rattle.std.specs.Prelude.{◌≡◌, ℕ, ◌≤◌, length, map, IfSome}
use Rattle.trex_layers.specs.declared.sizes.TheConstants.{LONGEST_PACKET}
use Rattle.trex_vars.specs.Variable.{variable_of}
use Rattle.trex_vm.specs.Program.{AreSound, AreValuesOf, IsTemplateOf, program_view}
use Rattle.trex_profile.specs.declared.member.StreamSpec.{StreamSpec}
use Rattle.trex_profile.specs.Flow.{IsFlow}
use Rattle.trex_profile.specs.Packets.{variables, restarts, values_of, program, stamp_version, packet_of, EndsInStamp}
use Rattle.trex_profile.specs.Stream.{Stream}

-- It says what the packets of a stream are made of: its variables, of which none has a fault, which of them restart, and a program that is
-- meant for its template and for the values of the variables in each packet. No packet is longer than the longest, and each ends in its latency
-- header, where the stream has a flow.
pub record IsSpecOf (s : Stream) (spec : StreamSpec) : Type 0 where
  pub id : spec.id ≡ s.id
  pub template : spec.template.items ≡ s.template
  pub flow : spec.flow ≡ s.flow
  pub vars : map variable_of spec.vars.items ≡ variables s
  pub restart : spec.restart.items ≡ restarts s
  pub sound : AreSound (variables s)
  pub plan : spec.program ≡ program_view (program s) (variables s) s.template (stamp_version s)
  pub fits : IsTemplateOf spec.program s.template
  pub values : (number place : ℕ) → AreValuesOf spec.program (values_of s number place)
  pub short : (number place time : ℕ) → length (packet_of s number place time) ≤ LONGEST_PACKET
  pub flows : IfSome s.flow IsFlow
  pub stamped : EndsInStamp s
