-- What the calls of a kit answer and write, over its meaning. Assumes nothing.
use Rattle.std.specs.Prelude.{ℕ, ◌*◌, Bool, true, not, List, [], ◌∷◌, length, Some, None, Ok, Err, Option, Result, ◌==◌}
use Rattle.refusal.specs.declared.KeyFault.{KeyFault}
use Rattle.refusal.specs.declared.Refusal.{Refusal}
use Rattle.refusal.specs.declared.Refusal.TheVariants.{Key, Block}
use Rattle.refusal.specs.Checks.{first}
use Rattle.kit.specs.Meaning.{Meaning}

-- the answer to a key length: its cells, or refusal 7
abbrev pub told : Result ℕ KeyFault → Result ℕ Refusal
told (Ok n) = Ok n
told (Err fault) = Err (Key fault)

-- the checks of expand: 7, the key's length; then 8, the size of the schedule's buffer
abbrev pub expand_checks : Result ℕ KeyFault → ℕ → List (Bool × Refusal)
expand_checks (Err fault) out = (true, Key fault) ∷ []
expand_checks (Ok n) out = (not (out == 16 * n), Block) ∷ []

-- the checks of encipher and decipher at width w: 7, the key's length; then 8, the sizes of the schedule and of the block
abbrev pub cipher_checks : ℕ → Result ℕ KeyFault → ℕ → ℕ → List (Bool × Refusal)
cipher_checks w (Err fault) s b = (true, Key fault) ∷ []
cipher_checks w (Ok n) s b = (not (s == 16 * n), Block) ∷ (not (b == w), Block) ∷ []

-- what a buffer holds after a call: what is due, or after a refusal what it held
abbrev pub unless : Option Refusal → List ℕ → List ℕ → List ℕ
unless None new old = new
unless (Some reason) new old = old

-- the refusal of each call, if it is refused
abbrev pub expand_refusal : Meaning → List ℕ → List ℕ → Option Refusal
expand_refusal m key out = first (expand_checks (m.need (length key)) (length out))

abbrev pub cipher_refusal : Meaning → ℕ → List ℕ → List ℕ → Option Refusal
cipher_refusal m len s b = first (cipher_checks m.width (m.need len) (length s) (length b))

-- what each call leaves in its buffer
abbrev pub expanded : Meaning → List ℕ → List ℕ → List ℕ
expanded m key out = unless (expand_refusal m key out) (m.schedule key) out

abbrev pub enciphered : Meaning → ℕ → List ℕ → List ℕ → List ℕ
enciphered m len s b = unless (cipher_refusal m len s b) (m.enc len s b) b

abbrev pub deciphered : Meaning → ℕ → List ℕ → List ℕ → List ℕ
deciphered m len s b = unless (cipher_refusal m len s b) (m.dec len s b) b
