-- A row times a column as a sum over their pairs. Assumes nothing.
use Rattle.std.proofs.Common.{◌≡◌, ℕ, List, [], ◌∷◌, sym, ◌∙◌}
use Rattle.std.specs.List.{fold, zip}
use lib.Bits.{bit_xor, xor_assoc, xor_zero_r}
use Rattle.field.specs.Byte.{mul}
use Rattle.field.specs.Matrix.{dot}

-- a pair's product added to a sum
abbrev pub added : ℕ → ℕ → ℕ × ℕ → ℕ
added p sum pair = bit_xor sum (mul p pair.0 pair.1)

pub fold_dot : (p sum : ℕ) (row v : List ℕ) → fold (added p) sum (zip row v) ≡ bit_xor sum (dot p row v)
unfolding dot
fold_dot p sum [] v = sym (xor_zero_r sum)
fold_dot p sum (r ∷ rs) [] = sym (xor_zero_r sum)
fold_dot p sum (r ∷ rs) (x ∷ xs) = fold_dot p (bit_xor sum (mul p r x)) rs xs ∙ xor_assoc sum (mul p r x) (dot p rs xs)
