-- What the calls promise of the scratch, and what a refusal leaves. Assumes nothing.
use Rattle.std.proofs.Common.{◌≡◌, ℕ, eqb, List, length, replicate, Ok, Err, Result, sym, refl, ◌∙◌, arith, MatchResult}
use Rattle.std.proofs.lemmas.Bool.{eq-eqb, cond-true}
use Rattle.refusal.specs.declared.Refusal.{Refusal}
use Rattle.bank_calls.specs.Calls.{gave, Wiped, Kept}
use Rattle.bank_calls.specs.declared.state.Bank.{Bank}

pub wiped : (scratch scratch' : List ℕ) → length scratch ≡ 1536 → scratch' ≡ replicate 1536 0 → Wiped scratch scratch'
wiped scratch scratch' e zeros =
    zeros ∙ sym (cond-true (eqb (length scratch) 1536) (replicate 1536 0) scratch (eq-eqb (length scratch) 1536 e))

module _ {K : Type 0} (b b' : Bank K) where
  pub unchanged : Kept b b
  unchanged = record { kit = refl; shelf = refl; links = refl }

  -- a refused call has kept the bank
  pub refused_keeps : (X : ℕ → Type 0) (r : Result ℕ Refusal) (out : List ℕ) → MatchResult r X (λ _. Kept b b') → (e : Refusal) → gave r out ≡ Err e → Kept b b'
  refused_keeps X (Ok n) out h e is = let z : ◌≡◌ {A = ℕ} 0 1 = cc in absurd (omega arith)
  refused_keeps X (Err f) out h e is = h
