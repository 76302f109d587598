-- What is wrong with a variable. Own.
use Rattle.std.specs.Prelude.{ℕ, ◌-◌, ◌^◌, ◌==◌, ◌||◌, Bool, false, not, nat_lt, if◌then◌else◌, length, Option, None, Some}
use Rattle.std.specs.List.{list_any}
use Rattle.trex_vars.specs.declared.spec.Op.TheVariants.{Inc, Dec, Random}
use Rattle.trex_vars.specs.declared.faults.VarFault.{VarFault}
use Rattle.trex_vars.specs.declared.faults.VarFault.TheVariants.{Size, Wide, Order, Init, List as BadList, Limit}
use Rattle.trex_vars.specs.Variable.{Variable, Counter, RandLimit, ListOf, Tuple}

-- a size that a variable may have, in bytes
abbrev pub is_size : ℕ → Bool
is_size size = (size == 1) || ((size == 2) || ((size == 4) || (size == 8)))

-- the size is another
abbrev pub has_size_fault : Variable → Bool
has_size_fault (Counter op size init min max step seed position) = not (is_size size)
has_size_fault (RandLimit size min max limit seed position) = not (is_size size)
has_size_fault (ListOf op size step values seed position) = not (is_size size)
has_size_fault (Tuple ip_min ip_max port_min port_max limit) = false

-- the greatest number of so many bytes
abbrev pub widest : ℕ → ℕ
widest size = 256 ^ size - 1

-- the greatest value, or a value of the list, needs more bytes than the size
abbrev pub has_wide_fault : Variable → Bool
has_wide_fault (Counter op size init min max step seed position) = nat_lt (widest size) max
has_wide_fault (RandLimit size min max limit seed position) = nat_lt (widest size) max
has_wide_fault (ListOf op size step values seed position) = list_any (nat_lt (widest size)) values
has_wide_fault (Tuple ip_min ip_max port_min port_max limit) = false

-- a lower end is above its upper end
abbrev pub has_order_fault : Variable → Bool
has_order_fault (Counter op size init min max step seed position) = nat_lt max min
has_order_fault (RandLimit size min max limit seed position) = nat_lt max min
has_order_fault (ListOf op size step values seed position) = false
has_order_fault (Tuple ip_min ip_max port_min port_max limit) = nat_lt ip_max ip_min || nat_lt port_max port_min

-- a counter that isn't random begins outside its range
abbrev pub has_init_fault : Variable → Bool
has_init_fault (Counter Inc size init min max step seed position) = nat_lt init min || nat_lt max init
has_init_fault (Counter Dec size init min max step seed position) = nat_lt init min || nat_lt max init
has_init_fault (Counter Random size init min max step seed position) = false
has_init_fault (RandLimit size min max limit seed position) = false
has_init_fault (ListOf op size step values seed position) = false
has_init_fault (Tuple ip_min ip_max port_min port_max limit) = false

-- a list has no value, or too many
abbrev pub has_list_fault : Variable → Bool
has_list_fault (Counter op size init min max step seed position) = false
has_list_fault (RandLimit size min max limit seed position) = false
has_list_fault (ListOf op size step values seed position) = (length values == 0) || nat_lt 4096 (length values)
has_list_fault (Tuple ip_min ip_max port_min port_max limit) = false

-- no word comes before the first comes again
abbrev pub has_limit_fault : Variable → Bool
has_limit_fault (Counter op size init min max step seed position) = false
has_limit_fault (RandLimit size min max limit seed position) = limit == 0
has_limit_fault (ListOf op size step values seed position) = false
has_limit_fault (Tuple ip_min ip_max port_min port_max limit) = false

-- the first fault that a variable has
abbrev pub fault_of : Variable → Option VarFault
fault_of variable =
    if has_size_fault variable then Some Size
    else if has_wide_fault variable then Some Wide
    else if has_order_fault variable then Some Order
    else if has_init_fault variable then Some Init
    else if has_list_fault variable then Some BadList
    else if has_limit_fault variable then Some Limit
    else None
