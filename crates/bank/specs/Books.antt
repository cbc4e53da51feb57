-- The books of a bank: what a bank and its cell memory hold, as its user sees them. Assumes nothing.
use Rattle.std.specs.Prelude.{◌≡◌, ℕ, ◌+◌, List, Some, None, Option, ◌≢◌}
use Rattle.modes.specs.Modes.{Cipher}
use Rattle.modes.specs.Machine.{State}
use Rattle.modes.specs.declared.Mode.{Mode}
use Rattle.modes.specs.declared.Direction.{Direction}
use Rattle.kit.specs.Meaning.{Meaning}
use Rattle.kit.specs.Calls.{enciphered, deciphered}

-- an open link
pub record Running : Type 0 where
  pub mode : Mode
  pub direction : Direction
  -- the length of its key, how many cells its schedule has, and what these hold
  pub key : ℕ
  pub cells : ℕ
  pub schedule : List ℕ
  -- the bytes of a block, and how far the link has come
  pub width : ℕ
  pub state : State

-- the number of cells, how many of them are free, and the link under each number, if one is open
pub record Books : Type 0 where
  pub size : ℕ
  pub room : ℕ
  pub link : ℕ → Option Running

-- the cipher of a link: the kit's, under the length of its key and what its cells hold
abbrev pub tool : Meaning → Running → Cipher
tool m l = record { width = l.width; enc = enciphered m l.key l.schedule; dec = deciphered m l.key l.schedule }

-- a number for each of the eight links, all together
abbrev pub eight : (ℕ → ℕ) → ℕ
eight f = f 0 + f 1 + f 2 + f 3 + f 4 + f 5 + f 6 + f 7

-- what an open link counts for, among the links and among the cells
abbrev pub one_if_open : {A : Type 0} → Option A → ℕ
one_if_open None = 0
one_if_open (Some l) = 1

abbrev pub cells_if_open : Option Running → ℕ
cells_if_open None = 0
cells_if_open (Some l) = l.cells

-- how many links are open
abbrev pub links : Books → ℕ
links b = eight (λ i. one_if_open (b.link i))

-- nothing has changed
pub record Same (b b' : Books) : Type 0 where
  pub size : b'.size ≡ b.size
  pub room : b'.room ≡ b.room
  pub link : (j : ℕ) → b'.link j ≡ b.link j

-- what stands under number i is now o, and what stands under any other number is as it was
pub record Only (b : Books) (i : ℕ) (o : Option Running) (b' : Books) : Type 0 where
  pub size : b'.size ≡ b.size
  pub this : b'.link i ≡ o
  pub others : (j : ℕ) → (j ≢ i) → b'.link j ≡ b.link j
