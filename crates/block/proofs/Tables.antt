-- Substitution: a table undone by another, shown by one test over the whole table. Assumes nothing.
use Rattle.std.proofs.Common.{◌≡◌, ℕ, Bool, T, eqb, ltb, List, [], ◌∷◌, length, get_or, refl, ◌∙◌, ap₂, eqb→eq, ltb→lt}
use Rattle.std.proofs.lemmas.List.{length-map}
use Rattle.block.specs.Bytes.{Bytes, Block}
use Rattle.block.specs.Table.{sub, Reverses}
use Rattle.block.proofs.Test.{below, at, both, both_left, both_right}

unfoldable pub reverse_test : List ℕ → List ℕ → ℕ → Bool
reverse_test f g x = both (eqb (get_or g (get_or f x 0) 0) x) (ltb (get_or f x 0) 256)

pub reverses_by : (f g : List ℕ) → T (below (reverse_test f g) 256) → Reverses f g
unfolding reverse_test
reverses_by f g test = record {
  low = λ x h. ltb→lt (get_or f x 0) 256 (both_right (eqb (get_or g (get_or f x 0) 0) x) (ltb (get_or f x 0) 256) (at (reverse_test f g) 256 test x h));
  back = λ x h. eqb→eq _ x (both_left (eqb (get_or g (get_or f x 0) 0) x) (ltb (get_or f x 0) 256) (at (reverse_test f g) 256 test x h));
}

pub sub_back : (f g : List ℕ) → Reverses f g → (b : List ℕ) → Bytes b → sub g (sub f b) ≡ b
unfolding sub
sub_back f g r [] h = refl
sub_back f g r (x ∷ b) h = ap₂ ◌∷◌ (r.back x h.0) (sub_back f g r b h.1)

pub bytes_sub : (f g : List ℕ) → Reverses f g → (b : List ℕ) → Bytes b → Bytes (sub f b)
unfolding sub
bytes_sub f g r [] h = tt
bytes_sub f g r (x ∷ b) h = (r.low x h.0, bytes_sub f g r b h.1)

pub length_sub : (f b : List ℕ) → length (sub f b) ≡ length b
unfolding sub
length_sub f b = length-map b (λ x. get_or f x 0)

pub block_sub : (n : ℕ) (f g : List ℕ) → Reverses f g → (b : List ℕ) → Block n b → Block n (sub f b)
block_sub n f g r b h = record { size = length_sub f b ∙ h.size; bytes = bytes_sub f g r b h.bytes }
