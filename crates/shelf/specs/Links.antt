-- Rows of linked cells, over plain tables: for each row its first cell and its length, for each cell the next one.
-- The chain book keeps these facts in its type; no promise to a caller speaks of them. Assumes nothing.
use Rattle.std.specs.Prelude.{◌≡◌, ℕ, zero, suc, ◌+◌, ◌<◌, List, map, slice_index}
use Rattle.std.specs.List.{range_with_len}
use Rattle.shelf.specs.declared.book.Row.{Row}

-- what each row says of its first cell, its last cell and its length
abbrev pub firsts : List Row → List ℕ
firsts rows = map (λ r. r.first) rows

abbrev pub lasts : List Row → List ℕ
lasts rows = map (λ r. r.last) rows

abbrev pub lens : List Row → List ℕ
lens rows = map (λ r. r.len) rows

-- the cell that lies p links after cell a
abbrev pub step : List ℕ → ℕ → ℕ → ℕ
step next a zero = a
step next a (suc p) = slice_index next (step next a p)

-- n cells, one link after another from cell a on
abbrev pub run : List ℕ → ℕ → ℕ → List ℕ
run next a n = map (step next a) (range_with_len 0 n)

-- the cell at position p of row c
abbrev pub cell_at : List ℕ → List ℕ → ℕ → ℕ → ℕ
cell_at next first c p = step next (slice_index first c) p

-- row c has a position p
abbrev pub Linked : List ℕ → ℕ → ℕ → Type 0
Linked len c p = (c < 17) × (p < slice_index len c)

-- every linked cell is one of the first `size`
abbrev pub Within : List ℕ → List ℕ → List ℕ → ℕ → Type 0
Within next first len size = (c p : ℕ) → Linked len c p → cell_at next first c p < size

-- No cell stands at two places, w.1 of row w.0 and w.3 of row w.2. (A ghost field's type takes few binders, so the four numbers are one.)
abbrev pub Apart : List ℕ → List ℕ → List ℕ → Type 0
Apart next first len =
    (w : ℕ × ℕ × ℕ × ℕ) → Linked len w.0 w.1 × Linked len w.2 w.3 × (cell_at next first w.0 w.1 ≡ cell_at next first w.2 w.3) → (w.0 ≡ w.2) × (w.1 ≡ w.3)

-- `last` names the last cell of each chain that has one
abbrev pub Ends : List ℕ → List ℕ → List ℕ → List ℕ → Type 0
Ends next first last len = (c p : ℕ) → (c < 16) × (p + 1 ≡ slice_index len c) → slice_index last c ≡ cell_at next first c p
