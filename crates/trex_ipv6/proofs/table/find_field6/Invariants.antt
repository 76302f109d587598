use Rattle.std.proofs.Common.{◌≡◌, map, drop}
use Rattle.std.specs.List.{find}
use Rattle.trex_ipv6.specs.Fields.{named, row6_of}
use Rattle.trex_ipv6.proofs.table.find_field6.Given as goal

abbrev pub invariant-loop-field : goal.invariant-loop-field
invariant-loop-field l =
    find (named l.name) (map row6_of (drop l.field-index l.table)) ≡ find (named l.name) (map row6_of l.table)
