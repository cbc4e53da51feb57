-- How bytes are spelled: each by two hexadecimal digits, the high one first, as ASCII characters.
use Rattle.std.specs.Prelude.{◌≢◌, ℕ, ◌+◌, ◌/◌, ◌%◌, ◌<◌, cond, List, [], ◌∷◌, nat_lt, All, ⊤}
use Rattle.compare.specs.declared.fault.Fault.{Fault}
use Rattle.compare.specs.declared.fault.Fault.TheVariants.{Form, Memory}

-- The character of a digit: 0 to 9, then A to F.
abbrev pub digit : ℕ → ℕ
digit d = cond (nat_lt d 10) (48 + d) (55 + d)

-- The text of some bytes.
abbrev pub spelled : List ℕ → List ℕ
spelled [] = []
spelled (b ∷ bs) = digit (b / 16) ∷ digit (b % 16) ∷ spelled bs

-- why a text gives no bytes: it is the text of none; or no memory is left for them
abbrev pub NoBytes : List ℕ → Fault → Type 0
NoBytes text (Form what) = (bytes : List ℕ) → All (λ b. b < 256) bytes → spelled bytes ≢ text
NoBytes text (Memory e) = ⊤
NoBytes text e = ⊥
