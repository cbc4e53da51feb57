-- How a shelf stands, as its user sees it: how many cells it has, and which of them each chain has, in order.
-- Assumes nothing.
use Rattle.std.specs.Prelude.{ℕ, ◌-◌, List, map, length, sum, slice_index}
use Rattle.std.specs.List.{range_with_len}
use Rattle.shelf.specs.Links.{firsts, lens, cell_at}
use Rattle.shelf.specs.declared.book.ChainBook.{ChainBook}

-- how a shelf stands
pub record Standing : Type 0 where
  pub size : ℕ
  -- the cells of a chain, 0 to 15, in the order of their items
  pub chain : ℕ → List ℕ

-- a number for each of the sixteen chains, all together
unfoldable pub total : (ℕ → ℕ) → ℕ
total long = sum (map long (range_with_len 0 16))

-- the free cells are those that no chain has
abbrev pub free : Standing → ℕ
free s = s.size - total (λ c. length (s.chain c))

-- the cells of row c of a book, in order: rows 0 to 15 are the chains, and row 16 has the free cells
abbrev pub places : ChainBook → ℕ → List ℕ
places b c = map (cell_at b.next (firsts b.rows) c) (range_with_len 0 (slice_index (lens b.rows) c))

-- what a book says
abbrev pub standing : ChainBook → Standing
standing b = record { size = b.size; chain = places b }
