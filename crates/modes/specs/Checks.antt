-- What is checked of a piece and of an end, by the machine of a link. Assumes nothing.
use Rattle.std.specs.Prelude.{ℕ, Bool, List, [], ◌∷◌, length, nat_lt}
use Rattle.refusal.specs.declared.Refusal.{Refusal}
use Rattle.refusal.specs.declared.Refusal.TheVariants.{Piece, Output, Ragged, Padding}
use Rattle.modes.specs.Modes.{Cipher}
use Rattle.modes.specs.Machine.{State, given, closing, ragged, bare}
use Rattle.modes.specs.declared.Mode.{Mode}
use Rattle.modes.specs.declared.Direction.{Direction}

-- the checks of a piece, in order: 13, its length; 14, the room for what it gives
abbrev pub piece_checks : Mode → Direction → Cipher → State → List ℕ → ℕ → List (Bool × Refusal)
piece_checks m d k s piece room = (nat_lt 4096 (length piece), Piece) ∷ (nat_lt room (length (given m d k s piece)), Output) ∷ []

-- the checks of an end, in order: 15; 16; 14, the room for what it gives
abbrev pub closing_checks : Mode → Direction → Cipher → State → ℕ → List (Bool × Refusal)
closing_checks m d k s room = (ragged m d k s, Ragged) ∷ (bare m d k s, Padding) ∷ (nat_lt room (length (closing m d k s)), Output) ∷ []
