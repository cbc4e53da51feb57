-- Pieces join: what a link holds and gives depends on the bytes taken alone. Assumes nothing.
use Rattle.std.proofs.Common.{◌≡◌, ℕ, List, [], ◌∷◌, ◌++◌, sym, refl, ap, ◌∙◌, append_assoc}
use Rattle.modes.specs.Modes.{Cipher}
use Rattle.modes.specs.Machine.{State, fed, due, after, given}
use Rattle.std.specs.List.{concat}
use Rattle.modes.specs.Laws.{Joins, PiecesJoin}
use Rattle.modes.specs.declared.Mode.{Mode}
use Rattle.modes.specs.declared.Direction.{Direction}

module _ (m : Mode) (d : Direction) (k : Cipher) where
  pub after_append : (s : State) (a b : List ℕ) → after m d k s (a ++ b) ≡ after m d k (after m d k s a) b
  after_append s [] b = refl
  after_append s (x ∷ a) b = after_append (fed m d k s x) a b

  pub given_append : (s : State) (a b : List ℕ) → given m d k s (a ++ b) ≡ given m d k s a ++ given m d k (after m d k s a) b
  given_append s [] b = refl
  given_append s (x ∷ a) b =
      ap (λ l. due m d k s x ++ l) (given_append (fed m d k s x) a b)
      ∙ sym (append_assoc (due m d k s x) (given m d k (fed m d k s x) a) (given m d k (after m d k (fed m d k s x) a) b))

  joins : (s : State) (pieces : List (List ℕ)) → Joins m d k s pieces
  joins s [] = record { holds = refl; gives = refl }
  joins s (p ∷ ps) =
      let r = joins (after m d k s p) ps in
      record { holds = r.holds ∙ sym (after_append s p (concat ps)); gives = ap (λ l. given m d k s p ++ l) r.gives ∙ sym (given_append s p (concat ps)) }

pub pieces_join : PiecesJoin
pieces_join = joins
