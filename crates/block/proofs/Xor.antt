-- XOR of blocks: its three facts, its places, its bytes. Assumes nothing.
use Rattle.std.proofs.Common.{◌≡◌, ℕ, zero, suc, ◌<◌, List, [], ◌∷◌, length, get_or, take, sym, refl, ap, ◌∙◌, ap₂, arith}
use lib.Bits.{bit_xor, xor_zero_r, xor_self, xor_assoc, xor_comm, xor_lt}
use Rattle.std.proofs.lemmas.List.{take_all, get_or-take}
use Rattle.block.specs.Bytes.{Bytes, Block, xor, XorLaws}

pub associates : (x y z : List ℕ) → xor (xor x y) z ≡ xor x (xor y z)
unfolding xor
associates [] y z = refl
associates (x ∷ xs) [] z = refl
associates (x ∷ xs) (y ∷ ys) [] = refl
associates (x ∷ xs) (y ∷ ys) (z ∷ zs) = ap₂ ◌∷◌ (xor_assoc x y z) (associates xs ys zs)

pub commutes : (x y : List ℕ) → xor x y ≡ xor y x
unfolding xor
commutes [] [] = refl
commutes [] (y ∷ ys) = refl
commutes (x ∷ xs) [] = refl
commutes (x ∷ xs) (y ∷ ys) = ap₂ ◌∷◌ (xor_comm x y) (commutes xs ys)

pub cancels : (x y : List ℕ) → length x ≡ length y → xor (xor x y) y ≡ x
unfolding xor
cancels [] [] e = refl
cancels [] (y ∷ ys) e = absurd (omega arith)
cancels (x ∷ xs) [] e = refl
cancels (x ∷ xs) (y ∷ ys) e =
    ap₂ ◌∷◌ (xor_assoc x y y ∙ ap (bit_xor x) (xor_self y) ∙ xor_zero_r x) (cancels xs ys (omega arith))

pub laws : XorLaws
laws = record { associates = associates; commutes = commutes; cancels = cancels }

-- (a + u) + (a + v) = u + v
pub cancels_both : (a u v : List ℕ) → length v ≡ length a → xor (xor a u) (xor a v) ≡ xor u v
cancels_both a u v e =
    ap (λ x. xor x (xor a v)) (commutes a u) ∙ associates u a (xor a v)
    ∙ ap (xor u) (commutes a (xor a v) ∙ ap (λ x. xor x a) (commutes a v) ∙ cancels v a e)

pub length_xor : (xs ys : List ℕ) → length xs ≡ length ys → length (xor xs ys) ≡ length xs
unfolding xor
length_xor [] [] e = refl
length_xor [] (y ∷ ys) e = absurd (omega arith)
length_xor (x ∷ xs) [] e = refl
length_xor (x ∷ xs) (y ∷ ys) e = ap suc (length_xor xs ys (omega arith))

pub get_or_xor : (xs ys : List ℕ) (i : ℕ) → get_or (xor xs ys) i 0 ≡ bit_xor (get_or xs i 0) (get_or ys i 0)
unfolding xor
get_or_xor [] ys i = refl
get_or_xor (x ∷ xs) [] i = sym (xor_zero_r (get_or (x ∷ xs) i 0))
get_or_xor (x ∷ xs) (y ∷ ys) zero = refl
get_or_xor (x ∷ xs) (y ∷ ys) (suc i) = get_or_xor xs ys i

pub bytes_xor : (xs ys : List ℕ) → Bytes xs → Bytes ys → Bytes (xor xs ys)
unfolding xor
bytes_xor [] ys bx by = by
bytes_xor (x ∷ xs) [] bx by = bx
bytes_xor (x ∷ xs) (y ∷ ys) bx by = (xor_lt 8 x y bx.0 by.0, bytes_xor xs ys bx.1 by.1)

pub block_xor : (n : ℕ) (x y : List ℕ) → Block n x → Block n y → Block n (xor x y)
block_xor n x y hx hy = record {
  size = length_xor x y (hx.size ∙ sym hy.size) ∙ hx.size;
  bytes = bytes_xor x y hx.bytes hy.bytes;
}

-- what `xor_into` leaves, where both blocks have one length
pub xor_whole : (x y : List ℕ) → length x ≡ length y → take (length x) (xor x y) ≡ xor x y
xor_whole x y e = let l = length_xor x y e in take_all (length x) (xor x y) (omega arith)

-- what it leaves in any case
pub get_or_cut : (x y : List ℕ) (i : ℕ) → i < length x → get_or (take (length x) (xor x y)) i 0 ≡ bit_xor (get_or x i 0) (get_or y i 0)
get_or_cut x y i h = get_or-take (length x) (xor x y) i 0 h ∙ get_or_xor x y i

pub length_cut : (x y : List ℕ) → length (take (length x) (xor x y)) ≡ length x
unfolding xor
length_cut [] y = refl
length_cut (x ∷ xs) [] = ap length (take_all (length (x ∷ xs)) (x ∷ xs) (omega arith))
length_cut (x ∷ xs) (y ∷ ys) = ap suc (length_cut xs ys)
