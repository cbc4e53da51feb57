-- What each call of a bank answers and leaves: its checks in order, and what holds once it is accepted. Assumes nothing.
use Rattle.std.specs.Prelude.{◌≡◌, ℕ, ◌+◌, ◌<◌, Bool, true, not, ◌||◌, List, [], ◌∷◌, ◌++◌, length, is_err, Some, None, Ok, Err, Option, Result, ◌==◌, nat_lt}
use Rattle.refusal.specs.Checks.{Answers}
use Rattle.refusal.specs.declared.KeyFault.{KeyFault}
use Rattle.refusal.specs.declared.Refusal.{Refusal}
use Rattle.refusal.specs.declared.Refusal.TheVariants.{Scratch, Memory, Cells, Key, Mode, Start, Links, Closed}
use Rattle.modes.specs.Checks.{piece_checks, closing_checks}
use Rattle.modes.specs.Machine.{opened, after, given, closing}
use Rattle.modes.specs.Numbers.{mode_numbered, direction_numbered}
use Rattle.modes.specs.declared.Mode as mode
use Rattle.modes.specs.declared.Mode.TheVariants.{Ofb}
use Rattle.modes.specs.declared.Direction.{Direction}
use Rattle.modes.specs.declared.Direction.TheVariants.{Receive}
use Rattle.kit.specs.Meaning.{Meaning}
use Rattle.bank.specs.Books.{Books, Running, tool, links, Same, Only}

-- ---- open

-- what an open is shown: how long scratch and cell memory are, the numbers of mode and direction, key and start block
pub record Ask : Type 0 where
  pub scratch : ℕ
  pub memory : ℕ
  pub mode : ℕ
  pub direction : ℕ
  pub key : List ℕ
  pub start : List ℕ

-- the modes are 1, 2 and 3, the directions 0 and 1; other numbers are refused
abbrev pub unknown : Ask → Bool
unknown a = is_err (mode_numbered a.mode) || is_err (direction_numbered a.direction)

-- what a number names; one that names none does not come so far
abbrev pub mode_of : ℕ → mode.Mode
mode_of n = elim (mode_numbered n) [ Ok m ↦ m | Err e ↦ Ofb ]

abbrev pub direction_of : ℕ → Direction
direction_of n = elim (direction_numbered n) [ Ok d ↦ d | Err e ↦ Receive ]

-- the check of the key's length, and the cells that a key needs
abbrev pub key_checks : Result ℕ KeyFault → List (Bool × Refusal)
key_checks (Ok n) = []
key_checks (Err fault) = (true, Key fault) ∷ []

abbrev pub need : Meaning → List ℕ → ℕ
need m key = elim (m.need (length key)) [ Ok n ↦ n | Err fault ↦ 0 ]

-- the checks that follow it but for the one for cells, at a bank of `size` cells with `open` links
abbrev pub start_checks : Meaning → (size «open» : ℕ) → Ask → List (Bool × Refusal)
start_checks m size «open» a = (not (length a.start == m.width), Start) ∷ (not (a.memory == size), Memory) ∷ (nat_lt 7 «open», Links) ∷ []

-- the checks that come before the one for cells
abbrev pub early_checks : Meaning → (size «open» : ℕ) → Ask → List (Bool × Refusal)
early_checks m size «open» a = (not (a.scratch == 1536), Scratch) ∷ (unknown a, Mode) ∷ (key_checks (m.need (length a.key)) ++ start_checks m size «open» a)

-- all checks of an open, in order, where `room` cells are free
abbrev pub open_checks : Meaning → (size «open» room : ℕ) → Ask → List (Bool × Refusal)
open_checks m size «open» room a = early_checks m size «open» a ++ ((nat_lt room (need m a.key), Cells) ∷ [])

-- the link that it begins
abbrev pub fresh : Meaning → Ask → Running
fresh m a =
    record { mode = mode_of a.mode; direction = direction_of a.direction; key = length a.key; cells = need m a.key; schedule = m.schedule a.key; width = m.width; state = opened a.start }

-- accepted, under a number not in use; which one is left open
pub record Opened (m : Meaning) (b : Books) (a : Ask) (i : ℕ) (b' : Books) : Type 0 where
  pub low : i < 8
  pub unused : b.link i ≡ None
  pub only : Only b i (Some (fresh m a)) b'
  pub room : b'.room + need m a.key ≡ b.room

-- what an open answers and leaves
abbrev pub Opens : Meaning → Books → Ask → Result ℕ Refusal → Books → Type 0
Opens m b a r b' = Answers (open_checks m b.size (links b) b.room a) r (λ i. Opened m b a i b') (Same b b')

-- ---- put

-- how long the buffers of a put or an end are
pub record Buffers : Type 0 where
  pub scratch : ℕ
  pub memory : ℕ
  pub out : ℕ

-- the link after a piece, and the bytes that it gives
abbrev pub fed_link : Meaning → Running → List ℕ → Running
fed_link m l piece =
    record { mode = l.mode; direction = l.direction; key = l.key; cells = l.cells; schedule = l.schedule; width = l.width; state = after l.mode l.direction (tool m l) l.state piece }

abbrev pub given_link : Meaning → Running → List ℕ → List ℕ
given_link m l piece = given l.mode l.direction (tool m l) l.state piece

-- what every call on an open link checks first
abbrev pub link_checks : Books → Buffers → Option Running → List (Bool × Refusal)
link_checks b f None = (not (f.scratch == 1536), Scratch) ∷ (true, Closed) ∷ []
link_checks b f (Some l) = (not (f.scratch == 1536), Scratch) ∷ (not (f.memory == b.size), Memory) ∷ []

-- and then, of a put, the piece's
abbrev pub put_tail : Meaning → Buffers → Option Running → List ℕ → List (Bool × Refusal)
put_tail m f None piece = []
put_tail m f (Some l) piece = piece_checks l.mode l.direction (tool m l) l.state piece f.out

abbrev pub put_checks : Meaning → Books → Buffers → ℕ → List ℕ → List (Bool × Refusal)
put_checks m b f i piece = link_checks b f (b.link i) ++ put_tail m f (b.link i) piece

-- accepted: the bytes due are given, and the link has gone on
pub record Fed (m : Meaning) (b : Books) (i : ℕ) (piece bytes : List ℕ) (b' : Books) : Type 0 where
  pub link : Running
  pub was : b.link i ≡ Some link
  pub gives : bytes ≡ given_link m link piece
  pub only : Only b i (Some (fed_link m link piece)) b'
  pub room : b'.room ≡ b.room

-- what a put answers and leaves
abbrev pub Puts : Meaning → Books → Buffers → ℕ → List ℕ → Result (List ℕ) Refusal → Books → Type 0
Puts m b f i piece r b' = Answers (put_checks m b f i piece) r (λ bytes. Fed m b i piece bytes b') (Same b b')

-- ---- end

-- the bytes that the end of a link gives
abbrev pub last_bytes : Meaning → Running → List ℕ
last_bytes m l = closing l.mode l.direction (tool m l) l.state

-- and then, of an end, the end's
abbrev pub end_tail : Meaning → Buffers → Option Running → List (Bool × Refusal)
end_tail m f None = []
end_tail m f (Some l) = closing_checks l.mode l.direction (tool m l) l.state f.out

abbrev pub end_checks : Meaning → Books → Buffers → ℕ → List (Bool × Refusal)
end_checks m b f i = link_checks b f (b.link i) ++ end_tail m f (b.link i)

-- link i, which was l, is closed, and its cells are free
pub record Closes (b : Books) (i : ℕ) (l : Running) (b' : Books) : Type 0 where
  pub was : b.link i ≡ Some l
  pub only : Only b i None b'
  pub room : b'.room ≡ b.room + l.cells

-- accepted: the last bytes are given, and the link is closed
pub record Ended (m : Meaning) (b : Books) (i : ℕ) (bytes : List ℕ) (b' : Books) : Type 0 where
  pub link : Running
  pub closes : Closes b i link b'
  pub gives : bytes ≡ last_bytes m link

-- what an end answers and leaves
abbrev pub Ends : Meaning → Books → Buffers → ℕ → Result (List ℕ) Refusal → Books → Type 0
Ends m b f i r b' = Answers (end_checks m b f i) r (λ bytes. Ended m b i bytes b') (Same b b')

-- ---- strike

-- an open link is closed; where none is open, nothing changes
abbrev pub Struck : Books → ℕ → Option Running → Books → Type 0
Struck b i None b' = Same b b'
Struck b i (Some l) b' = Closes b i l b'

-- what a strike leaves
abbrev pub Strikes : Books → ℕ → Books → Type 0
Strikes b i b' = Struck b i (b.link i) b'
