-- MKV's round step by step, for whoever compares every state. Assumes nothing.
use Rattle.std.specs.Prelude.{◌≡◌, ℕ, ◌*◌, Bool, cond, not, ◌||◌, List, [], ◌∷◌, length, ◌==◌}
use Rattle.refusal.specs.declared.Refusal.{Refusal}
use Rattle.refusal.specs.declared.Refusal.TheVariants.{Block}
use Rattle.block.specs.Bytes.{xor}
use Rattle.block.specs.Table.{sub}
use Rattle.field.specs.Known.{m4, m4_inverse, m8, m8_inverse}
use Rattle.mkv.specs.Tables.{s, s_inverse}
use Rattle.mkv.specs.Steps.{mix_words, x_words, half_a, half_b, round, round_back}
use Rattle.mkv.specs.declared.Step.{Step}
use Rattle.mkv.specs.declared.Step.TheVariants.{XorA, SubCells, MixWords, XorB, XWords}

-- one step with a key (A, B), by a table for SubCells and a matrix for MixWords
abbrev pub stepped : List ℕ → ℕ → List (List ℕ) → Step → List ℕ → List ℕ → List ℕ
stepped table t m XorA key b = xor b (half_a t key)
stepped table t m SubCells key b = sub table b
stepped table t m MixWords key b = mix_words t m b
stepped table t m XorB key b = xor b (half_b t key)
stepped table t m XWords key b = x_words t b

-- one step of the round, and one step of the round undone
abbrev pub forward : ℕ → List (List ℕ) → Step → List ℕ → List ℕ → List ℕ
forward t m x key b = stepped s t m x key b

abbrev pub backward : ℕ → List (List ℕ) → Step → List ℕ → List ℕ → List ℕ
backward t n x key b = stepped s_inverse t n x key b

-- steps in a row
abbrev pub run : (Step → List ℕ → List ℕ) → List Step → List ℕ → List ℕ
run f [] b = b
run f (x ∷ xs) b = run f xs (f x b)

-- the steps of a round, in order
abbrev pub forth : List Step
forth = XorA ∷ SubCells ∷ MixWords ∷ XorB ∷ SubCells ∷ XWords ∷ []

-- the steps of a round undone, in order
abbrev pub back : List Step
back = XWords ∷ SubCells ∷ XorB ∷ MixWords ∷ SubCells ∷ XorA ∷ []

-- they make up the round, and from the last to the first the round undone
pub record StepsMakeRounds : Type 0 where
  pub forwards : (t : ℕ) (m : List (List ℕ)) (key b : List ℕ) → run (λ x. forward t m x key) forth b ≡ round t m key b
  pub backwards : (t : ℕ) (n : List (List ℕ)) (key b : List ℕ) → run (λ x. backward t n x key) back b ≡ round_back t n key b

-- the checks of a step: 8, a block of 16 or 32 bytes; then 8, a round key of two blocks
abbrev pub step_checks : ℕ → ℕ → List (Bool × Refusal)
step_checks key b = (not (b == 16 || b == 32), Block) ∷ (not (key == 2 * b), Block) ∷ []

-- the step at the width of the block, by the matrices of both widths
abbrev pub stepped_at : List ℕ → List (List ℕ) → List (List ℕ) → Step → List ℕ → List ℕ → List ℕ
stepped_at table narrow wide x key b = cond (length b == 16) (stepped table 4 narrow x key b) (stepped table 8 wide x key b)

-- the same with the table and the matrices of the round, and of the round undone
abbrev pub at_width : Step → List ℕ → List ℕ → List ℕ
at_width x key b = stepped_at s m4 m8 x key b

abbrev pub at_width_back : Step → List ℕ → List ℕ → List ℕ
at_width_back x key b = stepped_at s_inverse m4_inverse m8_inverse x key b
