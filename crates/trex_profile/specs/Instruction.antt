-- What an instruction says, as plain data (own). A name is its bytes.
use Rattle.std.specs.Prelude.{◌≡◌, ◌⊎◌, ℕ, ℤ, pos, negsuc, ◌≤ℤ◌, Bool, List}
use Rattle.trex_fields.specs.Bytes.{IsSize}
use Rattle.trex_vars.specs.declared.spec.Op.{Op}
use Rattle.trex_profile.specs.declared.raw.RawPlace.{RawPlace}
use Rattle.trex_profile.specs.declared.raw.RawInstr.{RawInstr}
use Rattle.trex_profile.specs.declared.raw.RawInstr.TheVariants.{FlowVar as RawFlowVar, ListVar as RawListVar, RandLimit as RawRandLimit, Tuple as RawTuple, Write as RawWrite, WriteMask as RawWriteMask, FixIpv4 as RawFixIpv4, FixHw as RawFixHw, FixL6 as RawFixL6, Trim as RawTrim}

pub data Instruction : Type 0 where
  -- name, size, operation, init, min, max, step, whether it restarts at each visit
  FlowVar : List ℕ → ℕ → Op → ℕ → ℕ → ℕ → ℕ → Bool → Instruction
  -- name, size, operation, step, values, whether it restarts
  ListVar : List ℕ → ℕ → Op → ℕ → List ℕ → Bool → Instruction
  -- name, size, min, max, limit, seed, whether it restarts
  RandLimit : List ℕ → ℕ → ℕ → ℕ → ℕ → ℕ → Bool → Instruction
  -- name, least and greatest address, least and greatest port, limit, whether it restarts
  Tuple : List ℕ → ℕ → ℕ → ℕ → ℕ → ℕ → Bool → Instruction
  -- name, place, number added, whether in network byte order
  Write : List ℕ → RawPlace → ℤ → Bool → Instruction
  -- name, place, bytes written, mask, shift, number added, whether in network byte order
  WriteMask : List ℕ → RawPlace → ℕ → ℕ → ℤ → ℤ → Bool → Instruction
  -- place of the header
  FixIpv4 : ℕ → Instruction
  -- place and length of the header, number of what stands behind it
  FixHw : ℕ → ℕ → ℕ → Instruction
  -- place of the IPv6 header, number of what stands behind it
  FixL6 : ℕ → ℕ → Instruction
  -- name
  Trim : List ℕ → Instruction

-- an instruction as it is held
abbrev pub instruction : RawInstr → Instruction
instruction (RawFlowVar name size op init min max step restart) = FlowVar name size op init min max step restart
instruction (RawListVar name size op step values restart) = ListVar name size op step values.items restart
instruction (RawRandLimit name size min max limit seed restart) = RandLimit name size min max limit seed restart
instruction (RawTuple name ip_min ip_max port_min port_max limit restart) = Tuple name ip_min ip_max port_min port_max limit restart
instruction (RawWrite name place add big) = Write name place add big
instruction (RawWriteMask name place cast mask shift add big) = WriteMask name place cast mask shift add big
instruction (RawFixIpv4 at) = FixIpv4 at
instruction (RawFixHw l2 l3 l4) = FixHw l2 l3 l4
instruction (RawFixL6 l2 l4) = FixL6 l2 l4
instruction (RawTrim name) = Trim name

-- the ranges that the reading of an instruction keeps
abbrev pub IsRawInstr : Instruction → Type 0
IsRawInstr (FlowVar name size op init min max step restart) = IsSize size
IsRawInstr (ListVar name size op step values restart) = IsSize size
IsRawInstr (RandLimit name size min max limit seed restart) = IsSize size
IsRawInstr (Tuple name ip_min ip_max port_min port_max limit restart) = Unit {0}
IsRawInstr (Write name place add big) = Unit {0}
IsRawInstr (WriteMask name place cast mask shift add big) = IsSize cast × (negsuc 62 ≤ℤ shift) × (shift ≤ℤ pos 63)
IsRawInstr (FixIpv4 at) = Unit {0}
IsRawInstr (FixHw l2 l3 l4) = (l4 ≡ 11) ⊎ ((l4 ≡ 13) ⊎ (l4 ≡ 17))
IsRawInstr (FixL6 l2 l4) = (l4 ≡ 11) ⊎ (l4 ≡ 13)
IsRawInstr (Trim name) = Unit {0}
