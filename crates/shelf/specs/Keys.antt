-- Key cells as bytes: each cell of a shelf of keys holds sixteen. Assumes nothing.
use Rattle.std.specs.Prelude.{◌≡◌, ℕ, ◌*◌, ◌/◌, Bool, List, [], ◌∷◌, ◌++◌, length, drop, Result, nat_lt}
use Rattle.std.specs.List.{concat}
use Rattle.std.specs.Simd.{first_chunks}
use Rattle.refusal.specs.Checks.{Answers}
use Rattle.refusal.specs.declared.Refusal.{Refusal}
use Rattle.refusal.specs.declared.Refusal.TheVariants.{Output}
use Rattle.shelf.specs.Standing.{Standing}
use Rattle.shelf.specs.Items.{list}
use Rattle.shelf.specs.Calls.{access_checks}

-- the cells that bytes make: sixteen bytes each, in order; a rest shorter than a cell makes none
abbrev pub key_cells : List ℕ → List (List ℕ)
key_cells bytes = first_chunks 16 (length bytes / 16) bytes

-- lists, one behind another
unfoldable pub joined : List (List ℕ) → List ℕ
joined cells = concat cells

-- bytes that fill their cells are these cells joined
abbrev pub GivesBack : List ℕ → Type 0
GivesBack bytes = (n : ℕ) → length bytes ≡ 16 * n → joined (key_cells bytes) ≡ bytes

-- what a gather of bytes checks: a whole chain of `long` cells, to `room` bytes
abbrev pub gather_bytes_checks : (size long shown c room : ℕ) → List (Bool × Refusal)
gather_bytes_checks size long shown c room = access_checks size shown c ++ ((nat_lt room (16 * long), Output) ∷ [])

-- n bytes in all: those of the chain's cells, in order, and behind them what was there
abbrev pub GatherBytes : Standing → List (List ℕ) → ℕ → List ℕ → Result ℕ Refusal → List ℕ → Type 0
GatherBytes s cells c out r out' =
    Answers (gather_bytes_checks s.size (length (s.chain c)) (length cells) c (length out)) r
    (λ n. (n ≡ 16 * length (s.chain c)) × (out' ≡ joined (list s cells c) ++ drop n out)) (out' ≡ out)
