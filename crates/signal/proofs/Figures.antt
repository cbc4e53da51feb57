-- What is read of a text's digits, one by one. Assumes nothing.
use Rattle.std.proofs.Common.{◌≡◌, ℕ, zero, suc, ◌+◌, ◌*◌, ◌^◌, ◌<◌, ◌≤◌, List, [], ◌∷◌, length, get_or, take, arith}
use Rattle.std.proofs.Math.Nat.{pow-le-pow_left, pow-le-pow_right}
use Rattle.std.proofs.lemmas.List.{length-take-le}
use Rattle.std.proofs.lemmas.Int.Digits.{digits_value-lt, digits_value_more, digits_more}
use Rattle.std.specs.Char.{digit_value}
use Rattle.std.specs.Str.Parse.{AllDigits, digits_value}

-- each digit of a figure is below the base
pub digit_at : (base : ℕ) (ds : List ℕ) (i : ℕ) → AllDigits base ds → i < length ds → digit_value (get_or ds i 0) < base
digit_at base [] i h lt = absurd (omega arith)
digit_at base (c ∷ cs) zero h lt = h.0
digit_at base (c ∷ cs) (suc i) h lt = digit_at base cs i h.1 (omega arith)

-- the first i bytes are digits, and write n
pub record Read (base : ℕ) (ds : List ℕ) (i n : ℕ) : Type 0 where
  pub number : n ≡ digits_value base (take i ds)
  pub digits : AllDigits base (take i ds)

pub more : (base : ℕ) (ds : List ℕ) (i n d : ℕ) → Read base ds i n → i < length ds → (digit_value (get_or ds i 0) < base) × (d ≡ digit_value (get_or ds i 0)) → Read base ds (i + 1) (n * base + d)
more base ds i n d r lt e = record {
  number = cc (r.number, e.1, digits_value_more base ds i lt);
  digits = digits_more base ds i lt r.digits e.0;
}

pub record Small (i n : ℕ) : Type 0 where
  pub by_length : n < 16 ^ i
  pub bits : n < 2 ^ 60

-- 15 digits at most, in a base of at most 16
pub small : (base : ℕ) (ds : List ℕ) (i n : ℕ) → Read base ds i n → base ≤ 16 → i ≤ length ds → i ≤ 15 → Small i n
small base ds i n r high within few =
    let lt = rw (length-take-le i ds within) at (digits_value-lt base (take i ds) r.digits) in
    let wide : base ^ i ≤ 16 ^ i = pow-le-pow_left high i in
    let most : 16 ^ i ≤ 16 ^ 15 = pow-le-pow_right (omega arith) few in
    record { by_length = omega (arith, r.number, lt); bits = omega (arith, r.number, lt) }
