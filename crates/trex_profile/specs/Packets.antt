-- The packets of a stream (own).
use Rattle.std.specs.Prelude.{◌≡◌, ℕ, Bool, List, ◌++◌, map, Option, option_map, IfSome, if◌then◌else◌}
use Rattle.std.specs.List.{filter_map, zip}
use Rattle.trex_stamp.specs.declared.header.Stamp.{Stamp}
use Rattle.trex_stamp.specs.declared.header.Version.{Version}
use Rattle.trex_stamp.specs.Stamp.{stamp_bytes}
use Rattle.trex_vars.specs.Variable.{Variable}
use Rattle.trex_vars.specs.Value.{value_at}
use Rattle.trex_vars.specs.declared.value.VarValue.{VarValue}
use Rattle.trex_vm.specs.declared.instr.Instr.{Instr}
use Rattle.trex_vm.specs.Packet.{packet}
use Rattle.trex_profile.specs.Flow.{stamp_with}
use Rattle.trex_profile.specs.Stream.{Stream}
use Rattle.trex_profile.specs.Steps.{variables_from, restart_of, steps_of, program_of}

-- the variables of a stream, in the order of their instructions
abbrev pub variables : Stream → List Variable
variables s = variables_from s.seed 0 s.instrs

-- whether each of the variables restarts at each visit of the stream
abbrev pub restarts : Stream → List Bool
restarts s = filter_map restart_of s.instrs

-- the index at which a packet has its value of a variable: the packet's place in its run where the variable restarts, else its number
abbrev pub index_of : Bool → ℕ → ℕ → ℕ
index_of restart number place = if restart then place else number

-- the values of variables in the packet of a number, at a place in its run, where it is said of each whether it restarts
abbrev pub values_at : List Variable → List Bool → ℕ → ℕ → List VarValue
values_at vars restarts number place = map (λ (variable, restart). value_at variable (index_of restart number place)) (zip vars restarts)

-- the values of a stream's variables in the packet of a number, at a place in its run
abbrev pub values_of : Stream → ℕ → ℕ → List VarValue
values_of s number place = values_at (variables s) (restarts s) number place

-- The program of a stream: its other instructions, in order, each name resolved. A field lies where the headers of the template are.
abbrev pub program : Stream → List Instr
program s = program_of (steps_of s.template s.instrs)

-- the version of a stream's latency headers, where it has a flow
abbrev pub stamp_version : Stream → Option Version
stamp_version s = option_map (λ flow. flow.version) s.flow

-- the latency header of the packet of a number at an absolute time in nanoseconds, where the stream has a flow
abbrev pub stamp_at : Stream → ℕ → ℕ → Option Stamp
stamp_at s number time = option_map (λ flow. stamp_with flow number time) s.flow

-- the packet of a number, at a place in its run and an absolute time in nanoseconds
abbrev pub packet_of : Stream → ℕ → ℕ → ℕ → List ℕ
packet_of s number place time = packet (program s) (values_of s number place) (stamp_at s number time) s.template

-- each packet of a stream that has a flow ends in its latency header
abbrev pub EndsInStamp : Stream → Type 0
EndsInStamp s =
    (number place time : ℕ) → IfSome (stamp_at s number time)
    (λ stamp. (front : List ℕ) × (packet_of s number place time ≡ front ++ stamp_bytes stamp))
