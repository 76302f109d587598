-- The numbers that instructions write, and where they stand. Own.
use Rattle.std.specs.Prelude.{ℕ, ◌+◌, ◌*◌, ◌/◌, ◌%◌, ◌^◌, ℤ, pos, negsuc, Bool, if◌then◌else◌, List, drop, slice_index_or, bit_and, bit_or}
use Rattle.std.specs.Int.{w64, bit_not, cast_unsigned}
use Rattle.byteorder.specs.Endian.{big_bytes, big_number, little_bytes, little_number}
use Rattle.trex_fields.specs.Bytes.{put}
use Rattle.trex_vars.specs.declared.value.VarValue.{VarValue}
use Rattle.trex_vars.specs.declared.value.VarValue.TheVariants.{One, Pair}
use Rattle.trex_vm.specs.declared.instr.Operand.{Operand}
use Rattle.trex_vm.specs.declared.instr.Part.{Part}
use Rattle.trex_vm.specs.declared.instr.Part.TheVariants.{Whole, Ip, Port}

-- a part of a variable's value: 0 where the value has no such part
abbrev pub part_of : Part → VarValue → ℕ
part_of Whole (One number) = number
part_of Whole (Pair ip port) = 0
part_of Ip (One number) = 0
part_of Ip (Pair ip port) = ip
part_of Port (One number) = 0
part_of Port (Pair ip port) = port

-- the number that an operand takes from the values of the variables
abbrev pub number_in : List VarValue → Operand → ℕ
number_in values from = part_of from.part (slice_index_or values from.var (One 0))

-- the operand's number with another added to it, modulo 2^64
abbrev pub sum_in : List VarValue → Operand → ℤ → ℕ
sum_in values from add = (number_in values from + cast_unsigned w64 add) % 2 ^ 64

-- the lowest bytes of a number, in one of the two orders
abbrev pub bytes_in : Bool → ℕ → ℕ → List ℕ
bytes_in big size n = if big then big_bytes size n else little_bytes size n

-- the number of so many bytes at a place, in one of the two orders
abbrev pub number_at : Bool → ℕ → ℕ → List ℕ → ℕ
number_at big size at bytes = if big then big_number size (drop at bytes) else little_number size (drop at bytes)

-- a number shifted in 64 bits: to the left by a positive number of bits, to the right by a negative one
abbrev pub shifted : ℤ → ℕ → ℕ
shifted (pos left) n = n * 2 ^ left % 2 ^ 64
shifted (negsuc right) n = n / 2 ^ (right + 1)

-- the bits of the new number where the mask has ones, those of the old number elsewhere
abbrev pub masked : ℕ → ℕ → ℕ → ℕ
masked mask new old = bit_or (bit_and old (bit_not w64 mask)) (bit_and new mask)

-- the bytes with a number written over some of them
abbrev pub with_number : Bool → ℕ → ℕ → ℕ → List ℕ → List ℕ
with_number big size at n bytes = put at (bytes_in big size n) bytes

-- the bytes with a number written over some of them where the mask has ones
abbrev pub with_masked_number : Bool → ℕ → ℕ → ℕ → ℕ → List ℕ → List ℕ
with_masked_number big size at mask n bytes = with_number big size at (masked mask n (number_at big size at bytes)) bytes
