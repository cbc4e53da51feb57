-- Bytes spell a text where each is spelled by its pair of characters, and none do where a pair spells no byte. Assumes nothing.
use Rattle.std.proofs.Common.{◌≡◌, ◌≢◌, ℕ, zero, suc, ◌+◌, ◌*◌, ◌/◌, ◌%◌, ◌<◌, List, [], ◌∷◌, ◌++◌, length, get_or, drop, All, refl, sym, ap, arith}
use Rattle.std.proofs.lemmas.Grind.{common_steps}
use Rattle.std.specs.Simd.{first_chunks}
use Rattle.compare.specs.Hex.{digit, spelled}

-- byte k is spelled by pair k
pub record SpelledAt (pairs : List (List ℕ)) (bytes : List ℕ) (k : ℕ) : Type 0 where
  pub high : get_or (get_or pairs k []) 0 0 ≡ digit (get_or bytes k 0 / 16)
  pub low : get_or (get_or pairs k []) 1 0 ≡ digit (get_or bytes k 0 % 16)

-- n bytes, each by its pair
pub record SpelledByPairs (n : ℕ) (pairs : List (List ℕ)) (bytes : List ℕ) : Type 0 where
  pub count : length bytes ≡ n
  pub each : (k : ℕ) → k < n → SpelledAt pairs bytes k

pub spelled_by_pairs : (n : ℕ) (text bytes : List ℕ) → length text ≡ 2 * n → SpelledByPairs n (first_chunks 2 n text) bytes → spelled bytes ≡ text
spelled_by_pairs zero [] [] long by = refl
spelled_by_pairs zero (x ∷ text) bytes long by = absurd (omega arith)
spelled_by_pairs zero [] (b ∷ bytes) long by = absurd (omega (arith, by.count))
spelled_by_pairs (suc n) [] bytes long by = absurd (omega arith)
spelled_by_pairs (suc n) (x ∷ []) bytes long by = absurd (omega arith)
spelled_by_pairs (suc n) (x ∷ y ∷ text) [] long by = absurd (omega (arith, by.count))
spelled_by_pairs (suc n) (x ∷ y ∷ text) (b ∷ bytes) long by =
    let first = by.each 0 (omega arith) in
    let later : (k : ℕ) → k < n → SpelledAt (first_chunks 2 n text) bytes k = λ k lt. let at = by.each (suc k) (omega (arith, lt)) in record { high = at.high; low = at.low } in
    let rest = spelled_by_pairs n text bytes (omega arith) (record { count = omega (arith, by.count); each = later }) in
    rw (rest, first.high, first.low)

pub spelled_by_pairs-more : (i : ℕ) (pairs : List (List ℕ)) (bytes : List ℕ) (b : ℕ) → SpelledByPairs i pairs bytes
    → get_or (get_or pairs i []) 0 0 ≡ digit (b / 16) → get_or (get_or pairs i []) 1 0 ≡ digit (b % 16) → SpelledByPairs (i + 1) pairs (bytes ++ b ∷ [])
spelled_by_pairs-more i pairs bytes b by high low = record {
  count = grind (arith, common_steps, by.count);
  each = λ k lt. record {
    high = grind (arith, common_steps, by.count, λ (l : k < i). (by.each k l).high, high, lt);
    low = grind (arith, common_steps, by.count, λ (l : k < i). (by.each k l).low, low, lt);
  };
}

-- pair k is the spelling of no byte
abbrev pub NoByteAt : List (List ℕ) → ℕ → Type 0
NoByteAt pairs k = (b : ℕ) → b < 256 → get_or (get_or pairs k []) 0 0 ≡ digit (b / 16) → get_or (get_or pairs k []) 1 0 ≢ digit (b % 16)

pub no_bytes_at : (n : ℕ) (text bytes : List ℕ) (k : ℕ) → length text ≡ 2 * n → k < n → NoByteAt (first_chunks 2 n text) k → All (λ b. b < 256) bytes → spelled bytes ≡ text → ⊥
no_bytes_at zero text bytes k long lt none all is = absurd (omega (arith, lt))
no_bytes_at (suc n) [] bytes k long lt none all is = absurd (omega arith)
no_bytes_at (suc n) (x ∷ []) bytes k long lt none all is = absurd (omega arith)
no_bytes_at (suc n) (x ∷ y ∷ text) [] k long lt none all is = absurd (omega (arith, ap length is))
no_bytes_at (suc n) (x ∷ y ∷ text) (b ∷ bytes) zero long lt none all is =
    none b (all 0 0 (omega arith)) (sym (ap (λ (l : List ℕ). get_or l 0 0) is)) (sym (ap (λ (l : List ℕ). get_or l 1 0) is))
no_bytes_at (suc n) (x ∷ y ∷ text) (b ∷ bytes) (suc k) long lt none all is =
    no_bytes_at n text bytes k (omega arith) (omega (arith, lt)) none (λ j d less. all (suc j) d (omega (arith, less))) (ap (drop 2) is)

-- a spelling has two characters a byte
pub length-spelled : (bytes : List ℕ) → length (spelled bytes) ≡ 2 * length bytes
length-spelled [] = refl
length-spelled (b ∷ bytes) = let more = length-spelled bytes in omega (arith, more)
