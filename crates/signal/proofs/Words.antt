-- Numbers written with zeros in front, to a width. Assumes nothing.
use Rattle.std.proofs.Common.{◌≡◌, refl, ℕ, zero, suc, ◌+◌, ◌-◌, ◌/◌, ◌%◌, ◌^◌, ◌<◌, ◌≤◌, Bool, true, false, List, [], ◌∷◌, ◌++◌, length, replicate, ap, sym, ◌∙◌, arith, append-nil, pow-suc, decimal}
use Rattle.std.proofs.Math.Nat.{zero-div, zero-mod, pow-zero, div-lt_iff_lt-mul, div-div-eq-div-mul}
use mathlib.Core.Bool.{cond}
use mathlib.Core.Logic.{⊎_elim}
use lib.Dec.{eqb}
use borrow.Author.Tests.{eq-eqb, ne_eqb}
use Rattle.std.proofs.lemmas.Bool.{cases_eq}
use Rattle.std.specs.Fmt.{digit_glyph, digits_onto, digits, padded_integral, format_spec, char_count}
use Rattle.signal.specs.Words.{hex, two}

zeros : (k : ℕ) (acc : List ℕ) → replicate k 48 ++ (48 ∷ acc) ≡ 48 ∷ (replicate k 48 ++ acc)
zeros zero acc = refl
zeros (suc k) acc = ap (λ l. 48 ∷ l) (zeros k acc)

module _ (base : ℕ) (upper : Bool) (some : 0 < base) where
  one_more : (k n : ℕ) (acc : List ℕ) (t : Bool) → eqb (n / base) 0 ≡ t
      → digits_onto (suc k) base upper n acc ≡ cond t (digit_glyph upper (n % base) ∷ acc) (digits_onto k base upper (n / base) (digit_glyph upper (n % base) ∷ acc))
  one_more k n acc t e = ap (λ (b : Bool). cond b (digit_glyph upper (n % base) ∷ acc) (digits_onto k base upper (n / base) (digit_glyph upper (n % base) ∷ acc))) e

  -- the last k digits of n, and then acc
  abbrev pub places : (k n : ℕ) → List ℕ → List ℕ
  places zero n acc = acc
  places (suc k) n acc = places k (n / base) (digit_glyph upper (n % base) ∷ acc)

  of_zero : (k : ℕ) (acc : List ℕ) → places k 0 acc ≡ replicate k 48 ++ acc
  of_zero zero acc = refl
  of_zero (suc k) acc = rw (zero-div base, zero-mod base) (of_zero k (48 ∷ acc) ∙ zeros k acc)

  below : (k n : ℕ) → n < base ^ suc k → n / base < base ^ k
  below k n small = (div-lt_iff_lt-mul some).1 (rw pow-suc at small)

  abbrev Filled : (k i n d : ℕ) → List ℕ → Type 0
  Filled k i n d acc = n < base ^ suc k → k ≤ i → d ≡ suc k + length acc - length (digits_onto (suc i) base upper n acc)
      → replicate d 48 ++ digits_onto (suc i) base upper n acc ≡ places (suc k) n acc

  last : (k i n d : ℕ) (acc : List ℕ) → n / base ≡ 0 → Filled k i n d acc
  last k i n d acc none small le e =
      let step = one_more i n acc true (eq-eqb _ 0 none) in
      let same : d ≡ k = omega (arith, rw step at e) in
      rw (step, same, none) (sym (of_zero k (digit_glyph upper (n % base) ∷ acc)))

  before : (k i n d : ℕ) (acc : List ℕ) → (n / base ≡ 0 → ⊥) → Filled k i (n / base) d (digit_glyph upper (n % base) ∷ acc) → Filled (suc k) (suc i) n d acc
  before k i n d acc some_left front small le e =
      let step = one_more (suc i) n acc false (ne_eqb _ 0 some_left) in
      rw step (front (below (suc k) n small) (omega arith) (omega (arith, rw step at e)))

  filled : (k i n d : ℕ) (acc : List ℕ) → Filled k i n d acc
  filled zero i n d acc small le e = let one : base ^ 0 ≡ 1 = pow-zero base in last zero i n d acc (omega (arith, below 0 n small)) small le e
  filled (suc k) zero n d acc small le e = absurd (omega arith)
  filled (suc k) (suc i) n d acc small le e = ⊎_elim
      (λ none. last (suc k) (suc i) n d acc none small le e)
      (λ left. before k i n d acc left (filled k i (n / base) d (digit_glyph upper (n % base) ∷ acc)) small le e)
      (cases_eq (n / base) 0)

  -- what a hole of width k + 1 with zeros in front writes
  pub padded_places : (k n : ℕ) → n < base ^ suc k → k ≤ 63 → padded_integral (format_spec 32 0 4 (suc k) (2 ^ 64 - 1)) false [] (digits base upper n) ≡ places (suc k) n []
  unfolding padded_integral char_count digits
  padded_places k n small le = rw append-nil (filled k 63 n _ [] small (omega arith) (omega arith))

-- `{:08X}`
pub hex_eight : (n : ℕ) → n < 2 ^ 32 → padded_integral (format_spec 32 0 4 8 (2 ^ 64 - 1)) false [] (digits 16 true n) ≡ hex n
unfolding hex
hex_eight n small = padded_places 16 true (omega arith) 7 n small (omega arith) ∙ simp div-div-eq-div-mul

one : (n : ℕ) → n < 10 → decimal n ≡ digit_glyph false (n % 10) ∷ []
unfolding digits
one n small = one_more 10 false (omega arith) 63 n [] true (eq-eqb _ 0 (omega arith))

-- `{:02}`
pub two_digits : (n : ℕ) → n < 100 → padded_integral (format_spec 32 0 4 2 (2 ^ 64 - 1)) false [] (decimal n) ≡ two n
two_digits n small =
    let same : n % 10 % 10 ≡ n % 10 = omega arith in
    padded_places 10 false (omega arith) 1 n small (omega arith) ∙ rw (one (n / 10) (omega arith), one (n % 10) (omega arith), same)
