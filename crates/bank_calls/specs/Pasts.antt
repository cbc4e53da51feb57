-- How each call of a bank adds itself to every past that bank and cell memory may have. Assumes nothing.
use Rattle.std.specs.Prelude.{ℕ, List, ◌∷◌}
use Rattle.kit.specs.Meaning.{Meaning}
use Rattle.shelf.specs.Past.{Shown}
use Rattle.bank.specs.Past.{Event, Ran}
use Rattle.bank_calls.specs.Seen.{books}
use Rattle.bank_calls.specs.declared.state.Bank.{Bank}

-- A call that is shown cell memory, the bank's own or some of another length.
abbrev pub Adds : {K : Type 0} → Meaning → Bank K → List (List ℕ) → Event → Bank K → List (List ℕ) → Type 0
Adds m b shown e b' shown' = (n : ℕ) (past : List Event) (own own' : List (List ℕ)) → Ran m n past (books b own) → Shown n own own' shown shown' → Ran m n (e ∷ past) (books b' own')

-- one that is shown none
abbrev pub AddsUnshown : {K : Type 0} → Meaning → Bank K → Event → Bank K → Type 0
AddsUnshown m b e b' = (n : ℕ) (past : List Event) (own : List (List ℕ)) → Ran m n past (books b own) → Ran m n (e ∷ past) (books b' own)
