-- A loop that overwrites a row place by place: its state after i places. Assumes nothing.
use Rattle.std.proofs.Common.{◌≡◌, ℕ, zero, suc, ◌+◌, ◌<◌, ◌≤◌, List, [], ◌∷◌, ◌++◌, length, get_or, take, drop, set, sym, refl, ap, ◌∙◌, ap₂, le_of_suc-le-suc, not-suc-le-zero, add-one, arith}
use Rattle.block.specs.Bytes.{fitted}

-- the first i places already as in zs, the others still as in xs
abbrev pub over : List ℕ → List ℕ → ℕ → List ℕ
over zs xs i = take i zs ++ drop i xs

over_suc : (zs xs : List ℕ) (i v : ℕ) → i < length xs → length zs ≡ length xs → v ≡ get_or zs i 0 → set (over zs xs i) i v ≡ over zs xs (suc i)
over_suc zs [] i v h e r = absurd (not-suc-le-zero h)
over_suc [] (x ∷ xs) i v h e r = absurd (omega arith)
over_suc (z ∷ zs) (x ∷ xs) zero v h e r = ap (λ a. a ∷ xs) r
over_suc (z ∷ zs) (x ∷ xs) (suc i) v h e r = ap (λ l. z ∷ l) (over_suc zs xs i v (le_of_suc-le-suc h) (omega arith) r)

-- a turn of the loop: v is written at place i of r
pub over_more : (zs xs r : List ℕ) (i v : ℕ) → r ≡ over zs xs i → i < length xs → length zs ≡ length xs → v ≡ get_or zs i 0 → set r i v ≡ over zs xs (i + 1)
over_more zs xs r i v er h e ev = ap (λ l. set l i v) er ∙ over_suc zs xs i v h e ev ∙ ap (over zs xs) (sym (add-one i))

-- what is read at a place before it is written
pub over_read : (zs xs : List ℕ) (i : ℕ) → i < length xs → length zs ≡ length xs → get_or (over zs xs i) i 0 ≡ get_or xs i 0
over_read zs [] i h e = absurd (not-suc-le-zero h)
over_read [] (x ∷ xs) i h e = absurd (omega arith)
over_read (z ∷ zs) (x ∷ xs) zero h e = refl
over_read (z ∷ zs) (x ∷ xs) (suc i) h e = over_read zs xs i (le_of_suc-le-suc h) (omega arith)

-- the end of the loop: the places that it did not reach are as they should be
pub over_all : (zs xs : List ℕ) (i : ℕ) → length zs ≡ length xs → ((k : ℕ) → i ≤ k → k < length xs → get_or xs k 0 ≡ get_or zs k 0) → over zs xs i ≡ zs
over_all [] [] zero e rest = refl
over_all [] [] (suc i) e rest = refl
over_all [] (x ∷ xs) i e rest = absurd (omega arith)
over_all (z ∷ zs) [] i e rest = absurd (omega arith)
over_all (z ∷ zs) (x ∷ xs) zero e rest =
    ap₂ ◌∷◌ (rest 0 (omega arith) (omega arith)) (over_all zs xs zero (omega arith) (λ k h l. rest (suc k) (omega arith) (omega arith)))
over_all (z ∷ zs) (x ∷ xs) (suc i) e rest =
    ap (λ l. z ∷ l) (over_all zs xs i (omega arith) (λ k h l. rest (suc k) (omega arith) (omega arith)))

pub length_fitted : (n : ℕ) (xs : List ℕ) → length (fitted n xs) ≡ n
unfolding fitted
length_fitted zero xs = refl
length_fitted (suc n) [] = ap suc (length_fitted n [])
length_fitted (suc n) (x ∷ xs) = ap suc (length_fitted n xs)

pub get_or_fitted : (n : ℕ) (xs : List ℕ) (i : ℕ) → i < n → get_or (fitted n xs) i 0 ≡ get_or xs i 0
unfolding fitted
get_or_fitted zero xs i h = absurd (not-suc-le-zero h)
get_or_fitted (suc n) [] zero h = refl
get_or_fitted (suc n) [] (suc i) h = get_or_fitted n [] i (le_of_suc-le-suc h)
get_or_fitted (suc n) (x ∷ xs) zero h = refl
get_or_fitted (suc n) (x ∷ xs) (suc i) h = get_or_fitted n xs i (le_of_suc-le-suc h)

pub fitted_whole : (n : ℕ) (xs : List ℕ) → length xs ≡ n → fitted n xs ≡ xs
unfolding fitted
fitted_whole zero [] e = refl
fitted_whole zero (x ∷ xs) e = absurd (omega arith)
fitted_whole (suc n) [] e = absurd (omega arith)
fitted_whole (suc n) (x ∷ xs) e = ap (λ l. x ∷ l) (fitted_whole n xs (omega arith))
