-- What a kit means: one value that no call changes. Assumes nothing.
-- A kit is a block cipher with all its key lengths. A cell is 16 bytes of a schedule.
use Rattle.std.specs.Prelude.{◌≡◌, ℕ, ◌*◌, ◌≤◌, ◌⊎◌, List, length, Ok, Result}
use Rattle.refusal.specs.declared.KeyFault.{KeyFault}
use Rattle.block.specs.Bytes.{Bytes, Block}

pub record Meaning : Type 0 where
  -- the bytes of a block
  pub width : ℕ
  -- of a key length: the cells that its schedules have, or where it is refused and the length shown there
  pub need : ℕ → Result ℕ KeyFault
  -- the schedule of a key
  pub schedule : List ℕ → List ℕ
  -- E and D under a key length and a schedule
  pub enc : ℕ → List ℕ → List ℕ → List ℕ
  pub dec : ℕ → List ℕ → List ℕ → List ℕ

-- a key length that is accepted, a schedule of its size and a block
pub record Sized (m : Meaning) (len : ℕ) (s b : List ℕ) : Type 0 where
  pub cells : ℕ
  pub accepted : m.need len ≡ Ok cells
  pub schedule : Block (16 * cells) s
  pub block : Block m.width b

-- what each kit owes
pub record Sound (m : Meaning) : Type 0 where
  pub widths : (m.width ≡ 16) ⊎ (m.width ≡ 32)
  pub lengths : (len n : ℕ) → m.need len ≡ Ok n → (1 ≤ len) × (len ≤ 256)
  pub cells : (len n : ℕ) → m.need len ≡ Ok n → (1 ≤ n) × (n ≤ 96)
  -- a key's schedule has its cells
  pub scheduled : (n : ℕ) (key : List ℕ) → m.need (length key) ≡ Ok n → Bytes key → Block (16 * n) (m.schedule key)
  -- E and D give blocks, and undo one another, under every schedule of the right size
  pub enciphers : (len : ℕ) (s b : List ℕ) → Sized m len s b → Block m.width (m.enc len s b)
  pub deciphers : (len : ℕ) (s b : List ℕ) → Sized m len s b → Block m.width (m.dec len s b)
  pub back : (len : ℕ) (s b : List ℕ) → Sized m len s b → m.dec len s (m.enc len s b) ≡ b
  pub forth : (len : ℕ) (s b : List ℕ) → Sized m len s b → m.enc len s (m.dec len s b) ≡ b

-- two kits agree on a key: both accept its length, have equal width, and encipher every block alike under it
pub record Agree (a b : Meaning) (key : List ℕ) : Type 0 where
  pub first : (n : ℕ) × (a.need (length key) ≡ Ok n)
  pub second : (n : ℕ) × (b.need (length key) ≡ Ok n)
  pub widths : a.width ≡ b.width
  pub alike : (x : List ℕ) → Block a.width x → a.enc (length key) (a.schedule key) x ≡ b.enc (length key) (b.schedule key) x

-- kits that agree on a key decipher alike under it
abbrev pub AgreeBack : Meaning → Meaning → Type 0
AgreeBack a b = (key x : List ℕ) → Bytes key → Agree a b key → Block a.width x
    → a.dec (length key) (a.schedule key) x ≡ b.dec (length key) (b.schedule key) x
