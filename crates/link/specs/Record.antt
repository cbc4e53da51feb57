-- What a link's record means: the state of its machine, and its cipher. Assumes nothing.
use Rattle.std.specs.Prelude.{◌≡◌, ℕ, ◌-◌, ◌<◌, ◌≤◌, true, false, List, ◌++◌, take, drop, replicate}
use Rattle.kit.specs.Meaning.{Meaning}
use Rattle.kit.specs.Calls.{enciphered, deciphered}
use Rattle.modes.specs.Join.{join_byte, part_byte}
use Rattle.modes.specs.Modes.{Cipher}
use Rattle.modes.specs.Machine.{State, state, limit}
use Rattle.modes.specs.declared.Mode.{Mode}
use Rattle.modes.specs.declared.Mode.TheVariants.{Cbc}
use Rattle.modes.specs.declared.Direction.{Direction}
use Rattle.modes.specs.declared.Direction.TheVariants.{Send, Receive}
use Rattle.link.specs.declared.Link.{Link}

-- how far the link has come
abbrev pub view : Link → State
view l = state (take l.width l.chain) (take l.count l.held)

-- its cipher: the kit's, under the length of its key and the schedule s; the identity where the kit refuses
abbrev pub instrument : Meaning → List ℕ → Link → Cipher
instrument m s l = record { width = l.width; enc = enciphered m l.key s; dec = deciphered m l.key s }

-- what the record of an open link keeps
pub record Fits (l : Link) : Type 0 where
  pub some : 1 ≤ l.width
  pub thin : l.width ≤ 32
  pub begun : l.count < limit l.mode l.direction l.width

-- beyond its block, and beyond the bytes held, a record has zeros: no key, no other text
pub record Clear (l : Link) : Type 0 where
  pub chain : drop l.width l.chain ≡ replicate (32 - l.width) 0
  pub held : drop l.count l.held ≡ replicate (32 - l.count) 0

-- what no call changes but the end
pub record Kept (l l' : Link) : Type 0 where
  pub stays : l'.open ≡ l.open
  pub mode : l'.mode ≡ l.mode
  pub direction : l'.direction ≡ l.direction
  pub key : l'.key ≡ l.key
  pub width : l'.width ≡ l.width

-- the record l with another chain block, other bytes held and another count
abbrev pub link : Link → List ℕ → List ℕ → ℕ → Link
link l chain held count =
    record { «open» = l.open; mode = l.mode; direction = l.direction; key = l.key; width = l.width; chain = chain; held = held; count = count }

-- a closed record: no key stream, no text
abbrev pub closed : Link
closed = record { «open» = false; mode = Cbc; direction = Send; key = 0; width = 0; chain = replicate 32 0; held = replicate 32 0; count = 0 }

-- a link just opened, with the start block for its chain block
abbrev pub begun : Mode → Direction → ℕ → ℕ → List ℕ → Link
begun m d key width start =
    record { «open» = true; mode = m; direction = d; key = key; width = width; chain = start ++ replicate (32 - width) 0; held = replicate 32 0; count = 0 }

-- a byte joined with a byte of the pad, or parted from it
abbrev pub mixed_byte : Direction → ℕ → ℕ → ℕ
mixed_byte Send x pad = join_byte x pad
mixed_byte Receive x pad = part_byte x pad
