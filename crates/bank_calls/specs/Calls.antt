-- What each call of a bank leaves besides its books: scratch, cell memory, output, and the bank itself. Assumes nothing.
use Rattle.std.specs.Prelude.{◌≡◌, ℕ, ◌≤◌, Bool, cond, not, List, [], ◌∷◌, length, take, drop, replicate, Ok, Err, MatchBool, Result, MatchResult, ◌==◌, ◌≢◌, nat_lt, slice_set}
use Rattle.refusal.specs.Checks.{Answers}
use Rattle.refusal.specs.declared.Refusal.{Refusal}
use Rattle.refusal.specs.declared.Refusal.TheVariants.{Closed, Memory, Links, Cells}
use Rattle.shelf.specs.Standing.{standing, free}
use Rattle.shelf.specs.Calls.{size_checks, Grown, Emptied}
use Rattle.shelf.specs.Keys.{key_cells}
use Rattle.kit.specs.Meaning.{Meaning}
use Rattle.link.specs.Record.{closed, begun}
use Rattle.bank.specs.Books.{links}
use Rattle.bank.specs.Calls.{Ask, Buffers, mode_of, direction_of}
use Rattle.bank.specs.Past.{New}
use Rattle.bank_calls.specs.Table.{at}
use Rattle.bank_calls.specs.Seen.{books}
use Rattle.bank_calls.specs.declared.state.Bank.{Bank}
use Rattle.bank_calls.specs.declared.ticket.Ticket.{Ticket}
use Rattle.bank_calls.specs.declared.ticket.Returned.{Returned}

-- ---- what calls answer, as a past has it

-- the number on the ticket
abbrev pub number : Result Ticket Refusal → Result ℕ Refusal
number (Ok t) = Ok t.link
number (Err e) = Err e

-- the bytes given: the first so many of the output
abbrev pub gave : Result ℕ Refusal → List ℕ → Result (List ℕ) Refusal
gave (Ok n) out = Ok (take n out)
gave (Err e) out = Err e

-- an end's answer without the ticket
abbrev pub reason : Result ℕ Returned → Result ℕ Refusal
reason (Ok n) = Ok n
reason (Err e) = Err e.refusal

-- ---- what calls are shown, as a past has it

-- what an open is shown, with a scratch of so many bytes
abbrev pub asked_with : ℕ → List (List ℕ) → (mode direction : ℕ) → List ℕ → List ℕ → Ask
asked_with scratch memory mode direction key start = record { scratch = scratch; memory = length memory; mode = mode; direction = direction; key = key; start = start }

abbrev pub asked : List ℕ → List (List ℕ) → (mode direction : ℕ) → List ℕ → List ℕ → Ask
asked scratch = asked_with (length scratch)

-- the lengths that a put or an end is shown, with a scratch of so many bytes
abbrev pub lengths_with : ℕ → List (List ℕ) → List ℕ → Buffers
lengths_with scratch memory out = record { scratch = scratch; memory = length memory; out = length out }

abbrev pub lengths : List ℕ → List (List ℕ) → List ℕ → Buffers
lengths scratch = lengths_with (length scratch)

-- ---- buffers

-- zeros after every way out; a scratch of another length is not touched
abbrev pub Wiped : List ℕ → List ℕ → Type 0
Wiped scratch scratch' = scratch' ≡ cond (length scratch == 1536) (replicate 1536 0) scratch

-- what lies beyond the n bytes given is kept, and after a refusal all
abbrev pub Written : List ℕ → Result ℕ Refusal → List ℕ → Type 0
Written out r out' = MatchResult r (λ n. (n ≤ length out) × (drop n out' ≡ drop n out)) (λ _. out' ≡ out)

module _ {K : Type 0} where
  -- ---- the bank itself: its kit, its shelf and its records

  -- nothing in it has changed
  pub record Kept (b b' : Bank K) : Type 0 where
    pub kit : b'.kit ≡ b.kit
    pub shelf : b'.shelf ≡ b.shelf
    pub links : b'.links ≡ b.links

  -- n cells are asked for: all of them are free then, and no link is open
  abbrev pub Sizes : Bank K → ℕ → Result (Unit {0}) Refusal → Bank K → Type 0
  Sizes b n r b' = Answers (size_checks b.shelf.book.size n) r (λ _. (memory : List (List ℕ)) → New n (books b' memory)) (Kept b b')

  -- what comes after the scratch's check: is link i open, and is the memory the bank's
  abbrev pub load_checks : Bank K → List (List ℕ) → ℕ → List (Bool × Refusal)
  load_checks b memory i = (not (at b.links i).open, Closed) ∷ (not (length memory == b.shelf.book.size), Memory) ∷ []

  -- is the memory the bank's, is a link not open, and are as many cells free
  abbrev pub room_checks : Bank K → (shown need : ℕ) → List (Bool × Refusal)
  room_checks b shown need =
      (not (shown == b.shelf.book.size), Memory) ∷ (nat_lt 7 (links (books b [])), Links) ∷ (nat_lt (free (standing b.shelf.book)) need, Cells) ∷ []

  -- the free cells and the open links
  pub record Counted (b : Bank K) (r : ℕ × ℕ) : Type 0 where
    pub free : (memory : List (List ℕ)) → r.0 ≡ (books b memory).room
    pub «open» : (memory : List (List ℕ)) → r.1 ≡ links (books b memory)

  -- An open link i: its record begins with the start block, and its chain has the key's schedule in cells that were free.
  -- Which ones is left open; every other cell keeps what it held.
  pub record Takes (m : Meaning) (b : Bank K) (memory : List (List ℕ)) (a : Ask) (i : ℕ) (b' : Bank K) (memory' : List (List ℕ)) : Type 0 where
    pub kit : b'.kit ≡ b.kit
    pub links : b'.links ≡ slice_set b.links i (begun (mode_of a.mode) (direction_of a.direction) (length a.key) m.width a.start)
    pub shelf : Grown (standing b.shelf.book) memory i (key_cells (m.schedule a.key)) (standing b'.shelf.book) memory'

  -- a put on link i writes its record alone
  pub record Steps (b : Bank K) (i : ℕ) (b' : Bank K) : Type 0 where
    pub kit : b'.kit ≡ b.kit
    pub shelf : b'.shelf ≡ b.shelf
    pub others : (j : ℕ) → (j ≢ i) → at b'.links j ≡ at b.links j

  -- link i is closed: its record holds zeros, and its cells are free
  pub record Shuts (b : Bank K) (i : ℕ) (b' : Bank K) : Type 0 where
    pub kit : b'.kit ≡ b.kit
    pub links : b'.links ≡ slice_set b.links i closed
    pub shelf : Emptied (standing b.shelf.book) i (standing b'.shelf.book)

  -- a strike closes an open link, and changes nothing where none is open
  abbrev pub StrikesOne : Bank K → ℕ → Bank K → Type 0
  StrikesOne b i b' = MatchBool (at b.links i).open (Shuts b i b') (Kept b b')
