-- What a flow's latency headers can hold.
use Rattle.std.proofs.Common.{ℕ, ◌<◌, ◌^◌, Option, None, Some, IfSome, refl, arith}
use Rattle.std.specs.Option.{ForSome}
use Rattle.trex_stamp.specs.declared.header.Version.{Version}
use Rattle.trex_stamp.specs.declared.header.Version.TheVariants.{One, Two}
use Rattle.trex_stamp.specs.Stamp.{IsStamp, sequence_size}
use Rattle.trex_profile.specs.declared.flow.Flow.{Flow}
use Rattle.trex_profile.specs.Flow.{IsFlow, sequence_of, stamp_with}

-- what is said of each flow that there is
pub flow-there : (P : Flow → Type 0) (flow : Option Flow) → ForSome flow P → IfSome flow P
flow-there P None each = tt
flow-there P (Some f) each = each f refl

sequence-fits : (version : Version) (number : ℕ) → number < 2 ^ 64 → sequence_of version number < 256 ^ sequence_size version
sequence-fits One number below = omega arith
sequence-fits Two number below = below

-- the latency header of a flow's packet can be written
pub stamp_with-fits : (flow : Flow) (number time : ℕ) → IsFlow flow → number < 2 ^ 64 → time < 2 ^ 64 → IsStamp (stamp_with flow number time)
stamp_with-fits flow number time fits below due = record { flow = fits; sequence = sequence-fits flow.version number below; time = due }
