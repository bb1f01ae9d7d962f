-- A client may skip this file: the kind and the width of each integer field, which no public contract cites.
-- The public contracts have these numbers themselves.
use Rattle.std.specs.Prelude.{ℕ}
use Rattle.integer_read.specs.declared.Field.{Field}
use Rattle.integer_read.specs.declared.Field.TheVariants.{Int16, Uint16, Int24, Uint24, Int32, Uint32}

abbrev pub kind_of : Field → ℕ
kind_of Int16 = 1
kind_of Uint16 = 2
kind_of Int24 = 3
kind_of Uint24 = 4
kind_of Int32 = 5
kind_of Uint32 = 6

abbrev pub width_of : Field → ℕ
width_of Int16 = 2
width_of Uint16 = 2
width_of Int24 = 3
width_of Uint24 = 3
width_of Int32 = 4
width_of Uint32 = 4
