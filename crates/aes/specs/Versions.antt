-- AES as a kit, with its three key lengths. Assumes nothing.
use Rattle.std.specs.Prelude.{◌≡◌, ℕ, ◌+◌, ◌/◌, cond, List, [], length, Some, None, Ok, Err, Option, Result, ◌==◌}
use Rattle.refusal.specs.declared.KeyFault.{KeyFault}
use Rattle.refusal.specs.Faults.{here}
use Rattle.block.specs.Bytes.{Bytes}
use Rattle.kit.specs.Meaning.{Meaning}
use Rattle.aes.specs.Cipher.{encipher, decipher}
use Rattle.aes.specs.Keys.{schedule as round_keys, Expands}

-- the rounds of a key: 10, 12 or 14; no other length is taken
abbrev pub rounds : ℕ → Option ℕ
rounds len = cond (len == 16) (Some 10) (cond (len == 24) (Some 12) (cond (len == 32) (Some 14) None))

-- a cell for each round key, and one for round key 0; another length is refused right here
abbrev pub cells : ℕ → Option ℕ → Result ℕ KeyFault
cells len (Some r) = Ok (r + 1)
cells len None = Err (here len)

-- what a key of len bytes needs
abbrev pub need : ℕ → Result ℕ KeyFault
need len = cells len (rounds len)

-- with the rounds of the key, where its length is taken
abbrev pub under : Option ℕ → (ℕ → List ℕ) → List ℕ → List ℕ
under (Some r) f other = f r
under None f other = other

-- the schedule of a key, E and D
abbrev pub schedule : List ℕ → List ℕ
schedule key = under (rounds (length key)) (λ r. round_keys (length key / 4) r key) []

abbrev pub enc : ℕ → List ℕ → List ℕ → List ℕ
enc len s b = under (rounds len) (λ r. encipher r s b) b

abbrev pub dec : ℕ → List ℕ → List ℕ → List ℕ
dec len s b = under (rounds len) (λ r. decipher r s b) b

-- the kit of AES
abbrev pub aes : Meaning
aes = record { width = 16; need = need; schedule = schedule; enc = enc; dec = dec }

-- the schedule of a key that is taken follows the rule of the standard's key expansion
abbrev pub KeyExpansion : Type 0
KeyExpansion = (key : List ℕ) (r : ℕ) → Bytes key → rounds (length key) ≡ Some r → Expands (length key / 4) r key (schedule key)
