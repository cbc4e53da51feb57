-- What each call on a link answers and leaves. Assumes nothing.
use Rattle.std.specs.Prelude.{◌≡◌, ℕ, ◌≤◌, Bool, List, ◌++◌, length, take, drop, Result, MatchResult}
use Rattle.refusal.specs.Checks.{Answers}
use Rattle.refusal.specs.declared.Refusal.{Refusal}
use Rattle.block.specs.Bytes.{Bytes}
use Rattle.kit.specs.Meaning.{Meaning, Sound}
use Rattle.modes.specs.Checks.{piece_checks, closing_checks}
use Rattle.modes.specs.Machine.{State, fed, due, after, given, closing, pad}
use Rattle.link.specs.declared.Link.{Link}
use Rattle.link.specs.declared.Call.{Call}
use Rattle.link.specs.declared.Call.TheVariants.{Byte, End}
use Rattle.link.specs.Record.{view, instrument, Fits, Kept}

-- a list with its first places overwritten by g
abbrev pub overwritten : List ℕ → List ℕ → List ℕ
overwritten xs g = g ++ drop (length g) xs

-- ---- what the machine says of a link with the schedule s

abbrev pub link_fed : Meaning → List ℕ → Link → ℕ → State
link_fed m s l x = fed l.mode l.direction (instrument m s l) (view l) x

abbrev pub link_due : Meaning → List ℕ → Link → ℕ → List ℕ
link_due m s l x = due l.mode l.direction (instrument m s l) (view l) x

abbrev pub link_after : Meaning → List ℕ → Link → List ℕ → State
link_after m s l piece = after l.mode l.direction (instrument m s l) (view l) piece

abbrev pub link_given : Meaning → List ℕ → Link → List ℕ → List ℕ
link_given m s l piece = given l.mode l.direction (instrument m s l) (view l) piece

abbrev pub link_closing : Meaning → List ℕ → Link → List ℕ
link_closing m s l = closing l.mode l.direction (instrument m s l) (view l)

abbrev pub link_pad : Meaning → List ℕ → Link → List ℕ
link_pad m s l = pad (instrument m s l) (take l.width l.chain) (take l.count l.held)

-- ---- steps

-- one byte x: the bytes due stand at the front of out
pub record Took (m : Meaning) (s : List ℕ) (l : Link) (x : ℕ) (out : List ℕ) (r : ℕ) (l' : Link) (out' : List ℕ) : Type 0 where
  pub count : r ≡ length (link_due m s l x)
  pub output : out' ≡ overwritten out (link_due m s l x)
  pub state : view l' ≡ link_fed m s l x
  pub fits : Fits l'
  pub kept : Kept l l'

-- the end: its checks; the last bytes stand at the front of out
abbrev pub end_checks : Meaning → List ℕ → Link → ℕ → List (Bool × Refusal)
end_checks m s l out = closing_checks l.mode l.direction (instrument m s l) (view l) out

-- an end that is accepted gives n bytes
pub record Closed (m : Meaning) (s : List ℕ) (l : Link) (out : List ℕ) (n : ℕ) (out' : List ℕ) : Type 0 where
  pub count : n ≡ length (link_closing m s l)
  pub output : out' ≡ overwritten out (link_closing m s l)

-- a refusal leaves out as it was
abbrev pub Ends : Meaning → List ℕ → Link → List ℕ → Result ℕ Refusal → List ℕ → Type 0
Ends m s l out r out' = Answers (end_checks m s l (length out)) r (λ n. Closed m s l out n out') (out' ≡ out)

-- what a call asks of out: a byte that its bytes have room; the end checks that itself
abbrev pub Room : Meaning → List ℕ → Link → Call → ℕ → Type 0
Room m s l (Byte x) out = length (link_due m s l x) ≤ out
Room m s l End out = Unit {0}

-- a byte is never refused
abbrev pub Stepped : Meaning → List ℕ → Link → Call → List ℕ → Result ℕ Refusal → Link → List ℕ → Type 0
Stepped m s l (Byte x) out r l' out' = MatchResult r (λ n. Took m s l x out n l' out') (λ _. ⊥)
Stepped m s l End out r l' out' = Ends m s l out r out' × (l' ≡ l)

-- ---- a piece

-- the state after it, and the bytes given at the front of out
pub record Fed (m : Meaning) (s : List ℕ) (l : Link) (piece out : List ℕ) (r : ℕ) (l' : Link) (out' : List ℕ) : Type 0 where
  pub count : r ≡ length (link_given m s l piece)
  pub output : out' ≡ overwritten out (link_given m s l piece)
  pub state : view l' ≡ link_after m s l piece
  pub fits : Fits l'
  pub kept : Kept l l'

-- the checks of a piece
abbrev pub put_checks : Meaning → List ℕ → Link → List ℕ → ℕ → List (Bool × Refusal)
put_checks m s l piece out = piece_checks l.mode l.direction (instrument m s l) (view l) piece out

-- a refusal leaves the record and out as they were
abbrev pub Puts : Meaning → List ℕ → Link → List ℕ → List ℕ → Result ℕ Refusal → Link → List ℕ → Type 0
Puts m s l piece out r l' out' = Answers (put_checks m s l piece (length out)) r (λ n. Fed m s l piece out n l' out') ((l' ≡ l) × (out' ≡ out))

-- n more bytes give r, under every kit and schedule
abbrev pub Gives : Link → ℕ → ℕ → Type 0
Gives l n r = (m : Meaning) (s piece : List ℕ) → Sound m → Bytes s → Bytes piece → length piece ≡ n → r ≡ length (link_given m s l piece)
