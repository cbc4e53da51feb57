-- A piece's checks. Assumes nothing.
use Rattle.std.proofs.Common.{◌≡◌, ℕ, ◌<◌, ◌≤◌, Bool, true, false, List, [], ◌∷◌, length, Err, sym, refl, ap, ◌∙◌}
use Rattle.std.proofs.lemmas.Bool.{lt-ltb, le-ltb}
use Rattle.refusal.specs.Checks.{first}
use Rattle.refusal.specs.declared.Refusal.TheVariants.{Piece, Output}
use Rattle.kit.specs.Meaning.{Meaning}
use Rattle.link.specs.declared.Link.{Link}
use Rattle.link.specs.Calls.{link_given, Puts}

checks_as : (a b a' b' : Bool) → a ≡ a' → b ≡ b' → first ((a, Piece) ∷ (b, Output) ∷ []) ≡ first ((a', Piece) ∷ (b', Output) ∷ [])
checks_as a b a' b' e f = ap (λ t. first ((t, Piece) ∷ (b, Output) ∷ [])) e ∙ ap (λ t. first ((a', Piece) ∷ (t, Output) ∷ [])) f

module _ (m : Meaning) (s : List ℕ) (l : Link) (piece out : List ℕ) where
  abbrev count : ℕ
  count = length (link_given m s l piece)

  pub put_short : length piece ≤ 4096 → length out < count → Puts m s l piece out (Err Output) l out
  put_short h lt = record { told = sym (checks_as _ _ false true (le-ltb 4096 (length piece) h) (lt-ltb (length out) count lt)); holds = (refl, refl) }
