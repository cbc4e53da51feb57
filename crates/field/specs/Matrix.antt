-- Rows of bytes and matrices, over the bytes modulo x^8 + p. A place past a row's end counts as 0. Assumes nothing.
use Rattle.std.specs.Prelude.{◌≡◌, ℕ, zero, suc, ◌<◌, List, [], ◌∷◌, map, replicate, bit_xor}
use Rattle.block.specs.Bytes.{Bytes, Block, xor}
use Rattle.field.specs.Byte.{mul}

-- a row times a column
unfoldable pub dot : ℕ → List ℕ → List ℕ → ℕ
dot p [] v = 0
dot p (r ∷ rs) [] = 0
dot p (r ∷ rs) (x ∷ xs) = bit_xor (mul p r x) (dot p rs xs)

-- a matrix, as its rows, times a column
unfoldable pub apply : ℕ → List (List ℕ) → List ℕ → List ℕ
apply p m v = map (λ row. dot p row v) m

-- a row times a matrix, and a matrix times a matrix
unfoldable pub combine : ℕ → List ℕ → List (List ℕ) → List ℕ
combine p [] m = []
combine p (c ∷ cs) [] = []
combine p (c ∷ cs) (r ∷ rs) = xor (map (mul p c) r) (combine p cs rs)

unfoldable pub times : ℕ → List (List ℕ) → List (List ℕ) → List (List ℕ)
times p n m = map (λ row. combine p row m) n

-- the matrix of t rows that leaves every column alone
unfoldable pub identity : ℕ → List (List ℕ)
identity zero = []
identity (suc t) = (1 ∷ replicate t 0) ∷ map (λ row. 0 ∷ row) (identity t)

abbrev pub AllBytes : List (List ℕ) → Type 0
AllBytes [] = Unit {0}
AllBytes (r ∷ rs) = Bytes r × AllBytes rs

-- n is an inverse of m from the left: bytes throughout, and the product is the identity of t rows
pub record Undoes (p t : ℕ) (n m : List (List ℕ)) : Type 0 where
  pub low : p < 256
  pub left : AllBytes n
  pub right : AllBytes m
  pub product : times p n m ≡ identity t

-- an inverse matrix undoes a matrix, at every polynomial and size
abbrev pub InverseUndoes : Type 0
InverseUndoes = (p t : ℕ) (n m : List (List ℕ)) → Undoes p t n m → (v : List ℕ) → Block t v → apply p n (apply p m v) ≡ v
