-- The table's rows as the program holds them. Own.
use Rattle.trex_fields.specs.declared.table.Field.{Field}
use Rattle.trex_fields.specs.Fields.{Row, row}

-- a field as a row of the table
abbrev pub row_of : Field → Row
row_of field = row field.name.now field.base field.offset field.size
