-- The laws of the product of bytes, at one polynomial. Assumes nothing.
use Rattle.std.specs.Prelude.{◌≡◌, ℕ, ◌*◌, ◌<◌, bit_xor}
use Rattle.field.specs.Byte.{times_x, mul}

-- f adds up over its second factor, leaves the first alone at 1, and takes an x out of the second
pub record Multiplies (p : ℕ) (f : ℕ → ℕ → ℕ) : Type 0 where
  pub none : (a : ℕ) → a < 256 → f a 0 ≡ 0
  pub one : (a : ℕ) → a < 256 → f a 1 ≡ a
  pub sum : (a b c : ℕ) → a < 256 → b < 256 → c < 256 → f a (bit_xor b c) ≡ bit_xor (f a b) (f a c)
  pub shift : (a b : ℕ) → a < 256 → b < 128 → f a (b * 2) ≡ times_x p (f a b)

-- what holds of the product of bytes, and fixes it
pub record ProductLaws (p : ℕ) : Type 0 where
  pub low : (a b : ℕ) → a < 256 → b < 256 → mul p a b < 256
  pub commutes : (a b : ℕ) → a < 256 → b < 256 → mul p a b ≡ mul p b a
  pub associates : (a b c : ℕ) → a < 256 → b < 256 → c < 256 → mul p (mul p a b) c ≡ mul p a (mul p b c)
  pub distributes : (a b c : ℕ) → a < 256 → b < 256 → c < 256 → mul p a (bit_xor b c) ≡ bit_xor (mul p a b) (mul p a c)
  pub one : (a : ℕ) → a < 256 → mul p 1 a ≡ a
  pub times : (a : ℕ) → a < 256 → mul p 2 a ≡ times_x p a
  -- the product multiplies, and nothing else does
  pub multiplies : Multiplies p (mul p)
  pub only : (f : ℕ → ℕ → ℕ) → Multiplies p f → (a b : ℕ) → a < 256 → b < 256 → f a b ≡ mul p a b
