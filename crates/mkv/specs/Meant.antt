-- What a version of MKV means as a kit. Assumes nothing.
use Rattle.std.specs.Prelude.{ℕ}
use Rattle.kit.specs.Meaning.{Meaning}
use Rattle.mkv.specs.declared.tables.Version.{Version}
use Rattle.mkv.specs.Versions.{mkv}

-- the kit of a version, by its matrix and its inverse
abbrev pub meant : (t : ℕ) → Version t → Meaning
meant t v = mkv t v.matrix.rows v.inverse.rows
