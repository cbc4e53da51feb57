-- MKV as a kit, with words of t bytes, and its two widths. Assumes nothing.
use Rattle.std.specs.Prelude.{◌≡◌, ℕ, ◌+◌, ◌*◌, ◌/◌, cond, List, [], length, Some, None, Ok, Err, Option, Result, ◌==◌}
use Rattle.refusal.specs.declared.KeyFault.{KeyFault}
use Rattle.refusal.specs.Faults.{here}
use Rattle.block.specs.Bytes.{Bytes}
use Rattle.kit.specs.Meaning.{Meaning}
use Rattle.field.specs.Known.{m4, m4_inverse, m8, m8_inverse}
use Rattle.mkv.specs.Cipher.{encipher, decipher}
use Rattle.mkv.specs.Keys.{schedule as round_keys, Expands}

-- the rounds of a key: 6 at four words, 7 at six, 8 at eight; no other length is taken
abbrev pub rounds : ℕ → ℕ → Option ℕ
rounds t len = cond (len == 4 * t) (Some 6) (cond (len == 6 * t) (Some 7) (cond (len == 8 * t) (Some 8) None))

-- two blocks a round and the post key, in cells of 16 bytes; another length is refused right here
abbrev pub cells : ℕ → ℕ → Option ℕ → Result ℕ KeyFault
cells t len (Some r) = Ok ((2 * r + 1) * (t / 4))
cells t len None = Err (here len)

-- with the rounds of the key, where its length is taken
abbrev pub under : Option ℕ → (ℕ → List ℕ) → List ℕ → List ℕ
under (Some r) f other = f r
under None f other = other

-- what a key of len bytes needs
abbrev pub need : ℕ → ℕ → Result ℕ KeyFault
need t len = cells t len (rounds t len)

-- the schedule of a key, E and D, with words of t bytes, the matrix m of MixWords and its inverse n
abbrev pub schedule : ℕ → List (List ℕ) → List ℕ → List ℕ
schedule t m key = under (rounds t (length key)) (λ r. round_keys t m r key) []

abbrev pub enc : ℕ → List (List ℕ) → ℕ → List ℕ → List ℕ → List ℕ
enc t m len s b = under (rounds t len) (λ r. encipher t m r s b) b

abbrev pub dec : ℕ → List (List ℕ) → ℕ → List ℕ → List ℕ → List ℕ
dec t n len s b = under (rounds t len) (λ r. decipher t n r s b) b

-- the kit with words of t bytes
abbrev pub mkv : ℕ → List (List ℕ) → List (List ℕ) → Meaning
mkv t m n = record { width = 4 * t; need = need t; schedule = schedule t m; enc = enc t m; dec = dec t n }

-- the kits of blocks of 16 and of 32 bytes
abbrev pub mkv_128 : Meaning
mkv_128 = mkv 4 m4 m4_inverse

abbrev pub mkv_256 : Meaning
mkv_256 = mkv 8 m8 m8_inverse

-- the schedule that the kit gives for a key that is taken, of n words, follows the rule of the updates
abbrev pub KeyExpansion : ℕ → List (List ℕ) → Meaning → Type 0
KeyExpansion t m kit = (key : List ℕ) (n r : ℕ) → Bytes key → length key ≡ n * t → rounds t (length key) ≡ Some r → Expands t m n r key (kit.schedule key)
