-- The table of a bank's link records. Assumes nothing.
use Rattle.std.specs.Prelude.{ℕ, false, List, [], slice_index_or}
use Rattle.modes.specs.declared.Mode.TheVariants.{Cbc}
use Rattle.modes.specs.declared.Direction.TheVariants.{Send}
use Rattle.link.specs.declared.Link.{Link}

-- what stands for a record past the eight: one that is not open
abbrev pub absent : Link
absent = record { «open» = false; mode = Cbc; direction = Send; key = 0; width = 0; chain = []; held = []; count = 0 }

-- the record under number i
abbrev pub at : List Link → ℕ → Link
at links i = slice_index_or links i absent
