-- What the fault of a comparison tells. Assumes nothing.
use Rattle.std.specs.Prelude.{◌≡◌, ◌≢◌, ℕ, List, None, Some, Err, Option, Result, IsOk, ⊤}
use Rattle.std.specs.String.{string_bytes}
use Rattle.hex.specs.Hex.{encode_upper}
use Rattle.refusal.specs.declared.KeyFault.{KeyFault}
use Rattle.refusal.specs.declared.Refusal.{Refusal}
use Rattle.kit.specs.Calls.{told}
use Rattle.compare.specs.declared.fault.Value.{Value}
use Rattle.compare.specs.declared.fault.Fault.{Fault}
use Rattle.compare.specs.declared.fault.Fault.TheVariants.{Differs, Refused, Form, Memory}

-- the bytes found are not those that are due; what was compared is named, and the bytes found are spelled; or no memory is left for that
abbrev pub Tells : Value → (found due : List ℕ) → Fault → Type 0
Tells value found due (Differs named text) = (found ≢ due) × ((named ≡ value) × (string_bytes text ≡ encode_upper found))
Tells value found due (Memory e) = found ≢ due
Tells value found due e = ⊥

-- the same where the cipher comes before the comparison, and may refuse; or no memory is left at either
abbrev pub Explains : Value → Option Refusal → (found due : List ℕ) → Fault → Type 0
Explains value refusal found due (Differs named text) = (refusal ≡ None) × Tells value found due (Differs named text)
Explains value refusal found due (Refused e) = refusal ≡ Some e
Explains value refusal found due (Memory e) = ⊤
Explains value refusal found due (Form what) = ⊥

-- why no schedule is made: the cipher refuses the key's length; or no memory is left for one
abbrev pub Unkeyed : Result ℕ KeyFault → Fault → Type 0
Unkeyed need (Refused e) = told need ≡ Err e
Unkeyed need (Memory e) = IsOk need
Unkeyed need e = ⊥

-- something else was expected
abbrev pub Expects : List ℕ → Fault → Type 0
Expects what (Form text) = text.now ≡ what
Expects what e = ⊥
