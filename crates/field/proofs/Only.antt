-- The product is what adds up over the digits of its second factor, and nothing else is. Assumes nothing.
use Rattle.std.proofs.Common.{◌≡◌, ℕ, zero, suc, ◌+◌, ◌*◌, ◌/◌, ◌%◌, ◌<◌, sym, refl, ap, ◌∙◌, ap₂, add-zero, zero-lt-suc, zero-add, arith}
use lib.Bits.{bit_xor, xor_block, xor_zero_r}
use Rattle.field.specs.Byte.{sel, times_x, mul_digits, mul}
use Rattle.field.specs.Laws.{Multiplies, ProductLaws}
use Rattle.field.proofs.Laws.{mul_lt, mul_comm, mul_assoc, mul_xor_right, mul_one_left, mul_zero_right, mul_times_x, digits_times_x}

-- a number is its last digit and twice the rest
halves : (b : ℕ) → bit_xor (b % 2) (b / 2 * 2) ≡ b
halves b =
    let h : b % 2 < 2 = omega arith in
    ap₂ bit_xor (sym (zero-add (b % 2))) (sym (add-zero (b / 2 * 2))) ∙ xor_block 1 0 (b / 2) (b % 2) 0 h (zero-lt-suc 1)
    ∙ ap (λ n. b / 2 * 2 + n) (xor_zero_r (b % 2)) ∙ omega arith

module _ (p : ℕ) (f : ℕ → ℕ → ℕ) (m : Multiplies p f) where
  last_digit : (a d : ℕ) → a < 256 → d < 2 → f a d ≡ sel d a
  unfolding sel
  last_digit a zero ha h = m.none a ha
  last_digit a (suc zero) ha h = m.one a ha
  last_digit a (suc (suc d)) ha h = absurd (omega arith)

  -- one digit more
  digit_more : (a b : ℕ) → a < 256 → b < 256 → f a b ≡ bit_xor (sel (b % 2) a) (times_x p (f a (b / 2)))
  digit_more a b ha hb =
      let h : b % 2 < 2 = omega arith in
      let k : b / 2 < 128 = omega arith in
      ap (f a) (sym (halves b)) ∙ m.sum a (b % 2) (b / 2 * 2) ha (omega arith) (omega arith)
      ∙ ap₂ bit_xor (last_digit a (b % 2) ha h) (m.shift a (b / 2) ha k)

  -- a bound on what is left after n digits, by halving
  abbrev Short : ℕ → ℕ → Type 0
  Short zero b = b ≡ 0
  Short (suc n) b = Short n (b / 2)

  digits_only : (n a b : ℕ) → a < 256 → b < 256 → Short n b → f a b ≡ mul_digits n p a b
  unfolding mul_digits
  digits_only zero a b ha hb h = ap (f a) h ∙ m.none a ha
  digits_only (suc n) a b ha hb h =
      digit_more a b ha hb
      ∙ ap (bit_xor (sel (b % 2) a)) (ap (times_x p) (digits_only n a (b / 2) ha (omega arith) h) ∙ digits_times_x n p a (b / 2))

  short_byte : (b : ℕ) → b < 256 → Short 8 b
  short_byte b h = omega arith

  pub only : (a b : ℕ) → a < 256 → b < 256 → f a b ≡ mul p a b
  unfolding mul
  only a b ha hb = digits_only 8 a b ha hb (short_byte b hb)

x_is : (p : ℕ) → times_x p 1 ≡ 2
unfolding times_x sel
x_is p = refl

pub mul_two : (p a : ℕ) → a < 256 → mul p 2 a ≡ times_x p a
mul_two p a h = ap (λ n. mul p n a) (sym (x_is p)) ∙ sym (mul_times_x p 1 a) ∙ ap (times_x p) (mul_one_left p a h)

-- 2 b = x b, where no x^8 comes up
double_is : (p b : ℕ) → b < 128 → b * 2 ≡ times_x p b
unfolding times_x sel
double_is p b h =
    let low : b * 2 % 256 ≡ b * 2 = omega arith in
    let high : b / 128 % 2 ≡ 0 = omega arith in
    rw (low, high) (sym (xor_zero_r (b * 2)))

pub multiplies : (p : ℕ) → p < 256 → Multiplies p (mul p)
multiplies p hp = record {
  none = mul_zero_right p;
  one = λ a ha. mul_comm p a 1 ha (omega arith) ∙ mul_one_left p a ha;
  sum = λ a b c ha hb hc. mul_xor_right p a b c hp ha hb hc;
  shift = λ a b ha hb.
      mul_comm p a (b * 2) ha (omega arith) ∙ ap (λ n. mul p n a) (double_is p b hb) ∙ sym (mul_times_x p b a)
      ∙ ap (times_x p) (mul_comm p b a (omega arith) ha);
}

pub product_laws : (p : ℕ) → p < 256 → ProductLaws p
product_laws p hp = record {
  low = λ a b ha hb. mul_lt p a b hp ha;
  commutes = mul_comm p;
  associates = λ a b c ha hb hc. mul_assoc p a b c hp ha hb hc;
  distributes = λ a b c ha hb hc. mul_xor_right p a b c hp ha hb hc;
  one = mul_one_left p;
  times = mul_two p;
  multiplies = multiplies p hp;
  only = only p;
}
