-- Bytes, blocks of bytes, and their XOR. Assumes nothing.
use Rattle.std.specs.Prelude.{◌≡◌, ℕ, zero, suc, ◌<◌, List, [], ◌∷◌, length, bit_xor}

-- every number of the list is a byte
abbrev pub Bytes : List ℕ → Type 0
Bytes [] = Unit {0}
Bytes (x ∷ xs) = (x < 256) × Bytes xs

-- n bytes
pub record Block (n : ℕ) (b : List ℕ) : Type 0 where
  pub size : length b ≡ n
  pub bytes : Bytes b

-- the XOR of two blocks, place by place; a place past a block's end counts as 0
unfoldable pub xor : List ℕ → List ℕ → List ℕ
xor [] ys = ys
xor (x ∷ xs) [] = x ∷ xs
xor (x ∷ xs) (y ∷ ys) = bit_xor x y ∷ xor xs ys

-- the first n places, with 0 at each that is missing
unfoldable pub fitted : ℕ → List ℕ → List ℕ
fitted zero xs = []
fitted (suc n) [] = 0 ∷ fitted n []
fitted (suc n) (x ∷ xs) = x ∷ fitted n xs

-- the facts of XOR that ciphers rest on
pub record XorLaws : Type 0 where
  pub associates : (x y z : List ℕ) → xor (xor x y) z ≡ xor x (xor y z)
  pub commutes : (x y : List ℕ) → xor x y ≡ xor y x
  pub cancels : (x y : List ℕ) → length x ≡ length y → xor (xor x y) y ≡ x
