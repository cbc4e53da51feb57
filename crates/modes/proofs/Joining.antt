-- What the modes use of joining: lengths, bytes, the way byte by byte, and that parting undoes it. Assumes nothing.
use Rattle.std.proofs.Common.{◌≡◌, ℕ, zero, suc, ◌<◌, List, [], ◌∷◌, length, get_or, take, drop, sym, refl, ap, ◌∙◌, ap₂}
use lib.Bits.{bit_xor, xor_zero_r, xor_lt}
use Rattle.block.specs.Bytes.{Bytes, Block, xor, fitted, XorLaws}
use Rattle.block.proofs.Xor.{laws, length_cut, bytes_xor}
use Rattle.block.proofs.Loops.{length_fitted}
use Rattle.block.proofs.Parts.{bytes_take}
use Rattle.modes.specs.Join.{join, part, join_byte, part_byte}

xor_nil : (t : List ℕ) → xor t [] ≡ t
unfolding xor
xor_nil [] = refl
xor_nil (x ∷ t) = refl

-- the text under a pad that has its own length
cut_fitted : (t p : List ℕ) → take (length t) (xor t p) ≡ xor t (fitted (length t) p)
unfolding xor fitted
cut_fitted [] p = refl
cut_fitted (x ∷ t) [] = ap₂ ◌∷◌ (sym (xor_zero_r x)) (ap (take (length t)) (sym (xor_nil t)) ∙ cut_fitted t [])
cut_fitted (x ∷ t) (y ∷ p) = ap (λ l. bit_xor x y ∷ l) (cut_fitted t p)

-- one byte, then the others
cut_byte : (x : ℕ) (t p : List ℕ) (n : ℕ) → take (suc (length t)) (xor (x ∷ t) (drop n p)) ≡ bit_xor x (get_or p n 0) ∷ take (length t) (xor t (drop (suc n) p))
unfolding xor
cut_byte x t [] zero = ap₂ ◌∷◌ (sym (xor_zero_r x)) (ap (take (length t)) (sym (xor_nil t)))
cut_byte x t [] (suc n) = ap₂ ◌∷◌ (sym (xor_zero_r x)) (ap (take (length t)) (sym (xor_nil t)))
cut_byte x t (y ∷ p) zero = refl
cut_byte x t (y ∷ p) (suc n) = cut_byte x t p n

-- parting undoes joining, from the facts of XOR
undone : XorLaws → (t p : List ℕ) → part (join t p) p ≡ t
unfolding join part
undone facts t p =
    let j = take (length t) (xor t p) in
    let is : j ≡ xor t (fitted (length t) p) = cut_fitted t p in
    let long : length j ≡ length t = length_cut t p in
    cut_fitted j p ∙ ap₂ (λ l n. xor l (fitted n p)) is long ∙ facts.cancels t (fitted (length t) p) (sym (length_fitted (length t) p))

pub part_join : (t p : List ℕ) → part (join t p) p ≡ t
part_join = undone laws

pub length_join : (t p : List ℕ) → length (join t p) ≡ length t
unfolding join
length_join t p = length_cut t p

pub length_part : (t p : List ℕ) → length (part t p) ≡ length t
unfolding part
length_part t p = length_cut t p

pub bytes_join : (t p : List ℕ) → Bytes t → Bytes p → Bytes (join t p)
unfolding join
bytes_join t p bt bp = bytes_take (length t) (xor t p) (bytes_xor t p bt bp)

pub block_join : (w : ℕ) (t p : List ℕ) → Block w t → Bytes p → Block w (join t p)
block_join w t p bt bp = record { size = length_join t p ∙ bt.size; bytes = bytes_join t p bt.bytes bp }

pub join_none : (p : List ℕ) → join [] p ≡ []
unfolding join
join_none p = refl

pub part_none : (p : List ℕ) → part [] p ≡ []
unfolding part
part_none p = refl

pub join_more : (x : ℕ) (t p : List ℕ) (n : ℕ) → join (x ∷ t) (drop n p) ≡ join_byte x (get_or p n 0) ∷ join t (drop (suc n) p)
unfolding join join_byte
join_more x t p n = cut_byte x t p n

pub part_more : (x : ℕ) (t p : List ℕ) (n : ℕ) → part (x ∷ t) (drop n p) ≡ part_byte x (get_or p n 0) ∷ part t (drop (suc n) p)
unfolding part part_byte
part_more x t p n = cut_byte x t p n

pub byte_join : (x y : ℕ) → x < 256 → y < 256 → join_byte x y < 256
unfolding join_byte
byte_join x y hx hy = xor_lt 8 x y hx hy
