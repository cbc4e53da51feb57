-- AES step by step, for whoever compares every state. Assumes nothing.
use Rattle.std.specs.Prelude.{◌≡◌, ℕ, Bool, not, List, [], ◌∷◌, ◌==◌}
use Rattle.refusal.specs.declared.Refusal.{Refusal}
use Rattle.refusal.specs.declared.Refusal.TheVariants.{Block}
use Rattle.aes.specs.Steps.{sub_bytes, inv_sub_bytes, shift_rows, inv_shift_rows, mix_columns, inv_mix_columns, add_round_key}
use Rattle.aes.specs.Cipher.{round, last_round, inv_round, inv_last_round}
use Rattle.aes.specs.declared.Step.{Step}
use Rattle.aes.specs.declared.Step.TheVariants.{SubBytes, ShiftRows, MixColumns, AddRoundKey}

-- one step with a round key, and the step that undoes it
abbrev pub forward : Step → List ℕ → List ℕ → List ℕ
forward SubBytes key b = sub_bytes b
forward ShiftRows key b = shift_rows b
forward MixColumns key b = mix_columns b
forward AddRoundKey key b = add_round_key b key

abbrev pub backward : Step → List ℕ → List ℕ → List ℕ
backward SubBytes key b = inv_sub_bytes b
backward ShiftRows key b = inv_shift_rows b
backward MixColumns key b = inv_mix_columns b
backward AddRoundKey key b = add_round_key b key

-- steps in a row
abbrev pub run : (Step → List ℕ → List ℕ) → List Step → List ℕ → List ℕ
run f [] b = b
run f (x ∷ xs) b = run f xs (f x b)

-- they make up the rounds of both directions
pub record StepsMakeRounds : Type 0 where
  pub forwards : (key b : List ℕ) → run (λ x. forward x key) (SubBytes ∷ ShiftRows ∷ MixColumns ∷ AddRoundKey ∷ []) b ≡ round key b
  pub last : (key b : List ℕ) → run (λ x. forward x key) (SubBytes ∷ ShiftRows ∷ AddRoundKey ∷ []) b ≡ last_round key b
  pub backwards : (key b : List ℕ) → run (λ x. backward x key) (ShiftRows ∷ SubBytes ∷ AddRoundKey ∷ MixColumns ∷ []) b ≡ inv_round key b
  pub last_back : (key b : List ℕ) → run (λ x. backward x key) (ShiftRows ∷ SubBytes ∷ AddRoundKey ∷ []) b ≡ inv_last_round key b

-- the checks of a step: 8, a round key of 16 bytes and a block of 16 bytes
abbrev pub step_checks : ℕ → ℕ → List (Bool × Refusal)
step_checks key b = (not (key == 16), Block) ∷ (not (b == 16), Block) ∷ []
