use Rattle.std.proofs.Common.{◌≡◌, map, drop}
use Rattle.std.specs.List.{find}
use Rattle.trex_fields.specs.Fields.{named}
use Rattle.trex_fields.specs.Rows.{row_of}
use Rattle.trex_fields.proofs.table.find_field.Given as goal

abbrev pub invariant-loop-field : goal.invariant-loop-field
invariant-loop-field l =
    find (named l.name) (map row_of (drop l.field-index l.table)) ≡ find (named l.name) (map row_of l.table)
