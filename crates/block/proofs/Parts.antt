-- Parts of lists of bytes are lists of bytes. Assumes nothing.
use Rattle.std.proofs.Common.{ℕ, zero, suc, ◌<◌, Bool, true, T, ltb, List, [], ◌∷◌, ◌++◌, get_or, take, drop, replicate, ltb→lt, lit<}
use Rattle.block.specs.Bytes.{Bytes}
use Rattle.block.proofs.Test.{both, both_left, both_right}

-- what a program knows of the elements of a slice of bytes
pub bytes_from : (xs : List ℕ) → ((i : ℕ) → get_or xs i 0 < 256) → Bytes xs
bytes_from [] h = tt
bytes_from (x ∷ xs) h = (h 0, bytes_from xs (λ i. h (suc i)))

-- zeros are bytes
pub bytes_zeros : (n : ℕ) → Bytes (replicate n 0)
bytes_zeros zero = tt
bytes_zeros (suc n) = (lit< tt, bytes_zeros n)

pub bytes_append : (xs ys : List ℕ) → Bytes xs → Bytes ys → Bytes (xs ++ ys)
bytes_append [] ys hx hy = hy
bytes_append (x ∷ xs) ys hx hy = (hx.0, bytes_append xs ys hx.1 hy)

pub bytes_take : (n : ℕ) (xs : List ℕ) → Bytes xs → Bytes (take n xs)
bytes_take zero xs h = tt
bytes_take (suc n) [] h = tt
bytes_take (suc n) (x ∷ xs) h = (h.0, bytes_take n xs h.1)

pub bytes_drop : (n : ℕ) (xs : List ℕ) → Bytes xs → Bytes (drop n xs)
bytes_drop zero xs h = h
bytes_drop (suc n) [] h = tt
bytes_drop (suc n) (x ∷ xs) h = bytes_drop n xs h.1

-- the test of a list of bytes, which antt computes
abbrev pub low? : List ℕ → Bool
low? [] = true
low? (x ∷ xs) = both (ltb x 256) (low? xs)

pub bytes_by : (xs : List ℕ) → T (low? xs) → Bytes xs
bytes_by [] t = tt
bytes_by (x ∷ xs) t = (ltb→lt x 256 (both_left (ltb x 256) (low? xs) t), bytes_by xs (both_right (ltb x 256) (low? xs) t))
