-- The laws of the product of bytes, for every reduction polynomial. Assumes nothing.
use Rattle.std.proofs.Common.{◌≡◌, ℕ, zero, suc, ◌+◌, ◌-◌, ◌*◌, ◌/◌, ◌%◌, ◌<◌, Bool, T, eqb, sym, refl, ap, ◌∙◌, ap₂, add-zero, mod-lt, zero-lt-suc, arith, eqb→eq}
use lib.Bits.{bit_xor, xor_assoc, xor_comm, xor_self, xor_zero_r, xor_lt, xor_shr, xor_mod, xor_block}
use Rattle.block.proofs.Test.{below, at}
use Rattle.field.specs.Byte.{sel, times_x, mul_digits, mul}

-- (a + b) + (c + d) = (a + c) + (b + d)
pub xor4 : (a b c d : ℕ) → bit_xor (bit_xor a b) (bit_xor c d) ≡ bit_xor (bit_xor a c) (bit_xor b d)
xor4 a b c d =
    xor_assoc a b (bit_xor c d)
    ∙ ap (bit_xor a) (sym (xor_assoc b c d) ∙ ap (λ x. bit_xor x d) (xor_comm b c) ∙ xor_assoc c b d)
    ∙ sym (xor_assoc a c (bit_xor b d))

sel_xor : (d x y : ℕ) → sel d (bit_xor x y) ≡ bit_xor (sel d x) (sel d y)
unfolding sel
sel_xor zero x y = refl
sel_xor (suc d) x y = refl

digit_xor : (d e p : ℕ) → d < 2 → e < 2 → sel (bit_xor d e) p ≡ bit_xor (sel d p) (sel e p)
unfolding sel
digit_xor zero e p hd he = refl
digit_xor (suc zero) zero p hd he = sym (xor_zero_r p)
digit_xor (suc zero) (suc zero) p hd he = sym (xor_self p)
digit_xor (suc zero) (suc (suc e)) p hd he = absurd (omega arith)
digit_xor (suc (suc d)) e p hd he = absurd (omega arith)

sel_lt : (d x : ℕ) → x < 256 → sel d x < 256
unfolding sel
sel_lt zero x h = zero-lt-suc 255
sel_lt (suc d) x h = h

double_xor : (a b : ℕ) → bit_xor a b * 2 ≡ bit_xor (a * 2) (b * 2)
double_xor a b =
    sym (add-zero (bit_xor a b * 2)) ∙ sym (xor_block 1 a b 0 0 (zero-lt-suc 1) (zero-lt-suc 1)) ∙ ap₂ bit_xor (add-zero (a * 2)) (add-zero (b * 2))

-- multiplication by x is additive
pub times_x_xor : (p a b : ℕ) → times_x p (bit_xor a b) ≡ bit_xor (times_x p a) (times_x p b)
unfolding times_x
times_x_xor p a b =
    ap₂ bit_xor
    (ap (λ n. n % 256) (double_xor a b) ∙ xor_mod (a * 2) (b * 2) 8)
    (ap (λ n. sel n p) (ap (λ n. n % 2) (xor_shr a b 7) ∙ xor_mod (a / 128) (b / 128) 1)
    ∙ digit_xor (a / 128 % 2) (b / 128 % 2) p (mod-lt (a / 128) (zero-lt-suc 1)) (mod-lt (b / 128) (zero-lt-suc 1)))
    ∙ xor4 (a * 2 % 256) (b * 2 % 256) (sel (a / 128 % 2) p) (sel (b / 128 % 2) p)

digits_xor : (n p a b y : ℕ) → mul_digits n p (bit_xor a b) y ≡ bit_xor (mul_digits n p a y) (mul_digits n p b y)
unfolding mul_digits
digits_xor zero p a b y = refl
digits_xor (suc n) p a b y =
    ap₂ bit_xor (sel_xor (y % 2) a b)
    (ap (λ x. mul_digits n p x (y / 2)) (times_x_xor p a b) ∙ digits_xor n p (times_x p a) (times_x p b) (y / 2))
    ∙ xor4 (sel (y % 2) a) (sel (y % 2) b) (mul_digits n p (times_x p a) (y / 2)) (mul_digits n p (times_x p b) (y / 2))

-- the product is additive in the first argument
pub mul_xor_left : (p a b y : ℕ) → mul p (bit_xor a b) y ≡ bit_xor (mul p a y) (mul p b y)
unfolding mul
mul_xor_left p a b y = digits_xor 8 p a b y

-- what is additive and commutes with x commutes with every product
module _ (p : ℕ) (f : ℕ → ℕ) (nil : f 0 ≡ 0) (add : (a b : ℕ) → f (bit_xor a b) ≡ bit_xor (f a) (f b))
    (pass : (a : ℕ) → f (times_x p a) ≡ times_x p (f a)) where
  sel_pass : (d x : ℕ) → f (sel d x) ≡ sel d (f x)
  unfolding sel
  sel_pass zero x = nil
  sel_pass (suc d) x = refl

  digits_pass : (n a y : ℕ) → f (mul_digits n p a y) ≡ mul_digits n p (f a) y
  unfolding mul_digits
  digits_pass zero a y = nil
  digits_pass (suc n) a y =
      add (sel (y % 2) a) (mul_digits n p (times_x p a) (y / 2))
      ∙ ap₂ bit_xor (sel_pass (y % 2) a)
      (digits_pass n (times_x p a) (y / 2) ∙ ap (λ x. mul_digits n p x (y / 2)) (pass a))

sel_zero : (d : ℕ) → sel d 0 ≡ 0
unfolding sel
sel_zero zero = refl
sel_zero (suc d) = refl

times_x_zero : (p : ℕ) → times_x p 0 ≡ 0
unfolding times_x sel
times_x_zero p = refl

digits_zero : (n p y : ℕ) → mul_digits n p 0 y ≡ 0
unfolding mul_digits
digits_zero zero p y = refl
digits_zero (suc n) p y = ap₂ bit_xor (sel_zero (y % 2)) (ap (λ x. mul_digits n p x (y / 2)) (times_x_zero p) ∙ digits_zero n p (y / 2))

pub digits_times_x : (n p a y : ℕ) → times_x p (mul_digits n p a y) ≡ mul_digits n p (times_x p a) y
digits_times_x n p a y = digits_pass p (times_x p) (times_x_zero p) (times_x_xor p) (λ b. refl) n a y

-- x (a y) = (x a) y
pub mul_times_x : (p a y : ℕ) → times_x p (mul p a y) ≡ mul p (times_x p a) y
unfolding mul
mul_times_x p a y = digits_times_x 8 p a y

pub mul_zero_left : (p y : ℕ) → mul p 0 y ≡ 0
unfolding mul
mul_zero_left p y = digits_zero 8 p y

-- (a b) c = (a c) b
pub mul_swap : (p a b c : ℕ) → mul p (mul p a b) c ≡ mul p (mul p a c) b
unfolding mul
mul_swap p a b c =
    digits_pass p (λ x. mul p x c) (mul_zero_left p c) (λ x y. mul_xor_left p x y c) (λ x. sym (mul_times_x p x c)) 8 a b

-- 1 a = a, by a test at each byte, which computes for every p alike
one_right : ℕ → ℕ → Bool
one_right p a = eqb (mul p 1 a) a

one_test : (p : ℕ) → T (below (one_right p) 256)
unfolding one_right mul mul_digits times_x sel
one_test p = tt

pub mul_one_left : (p a : ℕ) → a < 256 → mul p 1 a ≡ a
unfolding one_right
mul_one_left p a h = eqb→eq (mul p 1 a) a (at (one_right p) 256 (one_test p) a h)

-- a b = b a
pub mul_comm : (p a b : ℕ) → a < 256 → b < 256 → mul p a b ≡ mul p b a
mul_comm p a b ha hb =
    ap (λ x. mul p x b) (sym (mul_one_left p a ha)) ∙ mul_swap p 1 a b ∙ ap (λ x. mul p x a) (mul_one_left p b hb)

times_x_lt : (p a : ℕ) → p < 256 → times_x p a < 256
unfolding times_x
times_x_lt p a h = xor_lt 8 (a * 2 % 256) (sel (a / 128 % 2) p) (mod-lt (a * 2) (zero-lt-suc 255)) (sel_lt (a / 128 % 2) p h)

digits_lt : (n p a y : ℕ) → p < 256 → a < 256 → mul_digits n p a y < 256
unfolding mul_digits
digits_lt zero p a y hp ha = zero-lt-suc 255
digits_lt (suc n) p a y hp ha =
    xor_lt 8 (sel (y % 2) a) (mul_digits n p (times_x p a) (y / 2)) (sel_lt (y % 2) a ha)
    (digits_lt n p (times_x p a) (y / 2) hp (times_x_lt p a hp))

pub mul_lt : (p a b : ℕ) → p < 256 → a < 256 → mul p a b < 256
unfolding mul
mul_lt p a b hp ha = digits_lt 8 p a b hp ha

-- (a b) c = a (b c)
pub mul_assoc : (p a b c : ℕ) → p < 256 → a < 256 → b < 256 → c < 256 → mul p (mul p a b) c ≡ mul p a (mul p b c)
mul_assoc p a b c hp ha hb hc =
    ap (λ x. mul p x c) (mul_comm p a b ha hb) ∙ mul_swap p b a c ∙ mul_comm p (mul p b c) a (mul_lt p b c hp hb) ha

-- the product is additive in the second argument
pub mul_xor_right : (p a b c : ℕ) → p < 256 → a < 256 → b < 256 → c < 256 → mul p a (bit_xor b c) ≡ bit_xor (mul p a b) (mul p a c)
mul_xor_right p a b c hp ha hb hc =
    mul_comm p a (bit_xor b c) ha (xor_lt 8 b c hb hc) ∙ mul_xor_left p b c a
    ∙ ap₂ bit_xor (mul_comm p b a hb ha) (mul_comm p c a hc ha)

pub mul_zero_right : (p a : ℕ) → a < 256 → mul p a 0 ≡ 0
mul_zero_right p a h = mul_comm p a 0 h (zero-lt-suc 255) ∙ mul_zero_left p a

mul_step : (n p a y : ℕ) → mul_digits (suc n) p a y ≡ bit_xor (sel (y % 2) a) (mul_digits n p (times_x p a) (y / 2))
unfolding mul_digits
mul_step n p a y = refl

-- a turn of the loop that multiplies
pub mul_more : (i p a y : ℕ) → i < 8 → mul_digits (8 - i) p a y ≡ bit_xor (sel (y % 2) a) (mul_digits (8 - (i + 1)) p (times_x p a) (y / 2))
mul_more i p a y h =
    let e : 8 - i ≡ suc (8 - (i + 1)) = omega arith in
    ap (λ n. mul_digits n p a y) e ∙ mul_step (8 - (i + 1)) p a y

pub mul_none : (p a y : ℕ) → mul_digits 0 p a y ≡ 0
unfolding mul_digits
mul_none p a y = refl
