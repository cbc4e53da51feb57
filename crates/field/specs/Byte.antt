-- Bytes as polynomials over GF(2), modulo x^8 + p, where p is the low byte of the reduction polynomial. Assumes nothing.
use Rattle.std.specs.Prelude.{ℕ, zero, suc, ◌*◌, ◌/◌, ◌%◌, bit_xor}

-- x where the digit is set, else 0
unfoldable pub sel : ℕ → ℕ → ℕ
sel zero x = 0
sel (suc d) x = x

-- x times a: shift, and p in place of x^8 where that came up
unfoldable pub times_x : ℕ → ℕ → ℕ
times_x p a = bit_xor (a * 2 % 256) (sel (a / 128 % 2) p)

-- the sum of x^i times a over the digits i of b that are set, of the n lowest
unfoldable pub mul_digits : ℕ → ℕ → ℕ → ℕ → ℕ
mul_digits zero p a b = 0
mul_digits (suc n) p a b = bit_xor (sel (b % 2) a) (mul_digits n p (times_x p a) (b / 2))

-- the product of a and b
unfoldable pub mul : ℕ → ℕ → ℕ → ℕ
mul p a b = mul_digits 8 p a b
