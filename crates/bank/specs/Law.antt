-- The law of banks, over every kit that keeps the meaning and every past. Assumes nothing.
use Rattle.std.specs.Prelude.{◌≡◌, ◌↔◌, ℕ, ◌-◌, ◌<◌, ◌≤◌, List, ◌∷◌, ◌++◌, length, None, Ok, Err, Result, ◌≢◌}
use Rattle.refusal.specs.Checks.{first}
use Rattle.refusal.specs.declared.Refusal.{Refusal}
use Rattle.refusal.specs.declared.Refusal.TheVariants.{Cells, Ragged, Padding}
use Rattle.modes.specs.Modes.{Cipher, Ciphertext}
use Rattle.modes.specs.declared.Mode as mode
use Rattle.modes.specs.declared.Mode.TheVariants.{Cbc, Cfb, Ofb}
use Rattle.kit.specs.Meaning.{Meaning, Sound, Agree}
use Rattle.bank.specs.Books.{Books, links}
use Rattle.bank.specs.Calls.{Ask, mode_of, need, early_checks}
use Rattle.bank.specs.Past.{Event, opens, Ran, Course, Session, Gave, cells_now, links_now}

-- the kit's cipher under a key
abbrev pub keyed : Meaning → List ℕ → Cipher
keyed m key = record { width = m.width; enc = m.enc (length key) (m.schedule key); dec = m.dec (length key) (m.schedule key) }

-- An open that passes the earlier checks is refused for want of cells exactly when n less the cells of all links open
-- then is below its key's need. The past alone tells which are open.
abbrev pub ShortOfCells : Meaning → ℕ → List Event → Type 0
ShortOfCells m n past = (later before : List Event) (a : Ask) (answer : Result ℕ Refusal) → past ≡ later ++ (opens a answer ∷ before)
    → first (early_checks m n (links_now before) a) ≡ None
    → (answer ≡ Err Cells) ↔ (n - cells_now m before < need m a.key)

-- The bytes that a sending link gave, from its open to its accepted end, are its mode's ciphertext of the bytes it took.
abbrev pub Sends : Meaning → List Event → Type 0
Sends m past = (a : Ask) (text bytes last : List ℕ) → a.direction ≡ 0 → Session past a text bytes (Ok last)
    → Ciphertext (mode_of a.mode) (keyed m a.key) a.start text (bytes ++ last)

-- A receiving link, in this bank or another whose kit agrees on the key, with the sender's mode, key and start block,
-- that took exactly the bytes that the sender gave, in any pieces, is never refused 15 or 16 at its end; and once its end
-- is accepted it has given exactly the bytes that the sender took.
abbrev pub Hears : Meaning → List Event → Meaning → List Event → Type 0
Hears m past m' past' = (a a' : Ask) (text bytes last bytes' : List ℕ) (answer : Result (List ℕ) Refusal)
    → a.direction ≡ 0 → Session past a text bytes (Ok last)
    → a'.direction ≡ 1 → a'.mode ≡ a.mode → a'.key ≡ a.key → a'.start ≡ a.start → Agree m m' a.key
    → Session past' a' (bytes ++ last) bytes' answer
    → (answer ≢ Err Ragged) × (answer ≢ Err Padding) × ((last' : List ℕ) → answer ≡ Ok last' → bytes' ++ last' ≡ text)

-- what is to come of a sending link that takes no more: in CBC a padded block
abbrev pub to_come : mode.Mode → ℕ → ℕ
to_come Cbc width = width
to_come Cfb width = 0
to_come Ofb width = 0

-- these bytes are the ciphertext of the text, but for what is to come at the end
pub record Front (m : Meaning) (a : Ask) (text bytes : List ℕ) : Type 0 where
  pub last : List ℕ
  pub long : length last ≡ to_come (mode_of a.mode) m.width
  pub is : Ciphertext (mode_of a.mode) (keyed m a.key) a.start text (bytes ++ last)

-- And while it is open: the bytes that a sending link gave are at every moment all but the last of its mode's ciphertext of
-- the bytes it took.
abbrev pub SendsFront : Meaning → List Event → Type 0
SendsFront m past = (i : ℕ) (a : Ask) (text bytes : List ℕ) → a.direction ≡ 0 → Course past i a text bytes → Front m a text bytes

-- A receiving link that took the front of what a sender gave, so far or in all, has at every moment given the front of what
-- the sender took.
abbrev pub HearsFront : Meaning → List Event → Meaning → List Event → Type 0
HearsFront m past m' past' = (i : ℕ) (a a' : Ask) (text bytes took more gave : List ℕ)
    → a.direction ≡ 0 → Gave past a text bytes
    → a'.direction ≡ 1 → a'.mode ≡ a.mode → a'.key ≡ a.key → a'.start ≡ a.start → Agree m m' a.key
    → Course past' i a' took gave → took ++ more ≡ bytes
    → (rest : List ℕ) × (gave ++ rest ≡ text)

-- What the books tell is what the past tells: the open links never have more cells than there are, and the others are free.
pub record Told (m : Meaning) (n : ℕ) (past : List Event) (b : Books) : Type 0 where
  pub fits : cells_now m past ≤ n
  pub free : b.room ≡ n - cells_now m past
  pub «open» : links b ≡ links_now past

-- what holds after a past that leaves the books b
pub record LawAfter (m : Meaning) (n : ℕ) (past : List Event) (b : Books) : Type 0 where
  pub short : ShortOfCells m n past
  pub sends : Sends m past
  pub sends_front : SendsFront m past
  pub hears : (m' : Meaning) → Sound m' → (n' : ℕ) (past' : List Event) (b' : Books) → Ran m' n' past' b' → Hears m past m' past' × HearsFront m past m' past'
  pub told : Told m n past b

-- the law of banks
abbrev pub Law : Type 0
Law = (m : Meaning) → Sound m → (n : ℕ) (past : List Event) (b : Books) → Ran m n past b → LawAfter m n past b
