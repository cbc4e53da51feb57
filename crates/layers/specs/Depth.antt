-- How a layer answers a key length: itself, or with what rises from below. Assumes nothing.
-- A layer is a cipher made over ciphers below it. Its depth is counted from the top, which has depth 0.
use Rattle.std.specs.Prelude.{ℕ, ◌+◌, min, cond, ◌||◌, Ok, Err, Option, Result, nat_lt}
use Rattle.refusal.specs.declared.KeyFault.{KeyFault}
use Rattle.refusal.specs.declared.Refusal.{Refusal}
use Rattle.refusal.specs.Faults.{here}
use Rattle.refusal.specs.Checks.{first}
use Rattle.kit.specs.Meaning.{Meaning}
use Rattle.kit.specs.Calls.{expand_checks, cipher_checks}

-- a fault from below, one deeper; a depth of 255 grows no further
abbrev pub deeper : KeyFault → KeyFault
deeper fault = record { depth = min (fault.depth + 1) 255; length = fault.length }

-- an answer from below, as a layer passes it on
abbrev pub risen : Result ℕ KeyFault → Result ℕ KeyFault
risen (Ok n) = Ok n
risen (Err fault) = Err (deeper fault)

-- n cells for a key of len bytes, refused by this layer above 96 cells or 256 bytes
abbrev pub bounded : ℕ → ℕ → Result ℕ KeyFault
bounded len n = cond (nat_lt 96 n || nat_lt 256 len) (Err (here len)) (Ok n)

-- the cells of both parts of a key of len bytes; the first part is asked before the second
abbrev pub both : ℕ → Result ℕ KeyFault → Result ℕ KeyFault → Result ℕ KeyFault
both len (Err fault) second = Err fault
both len (Ok m) (Err fault) = Err fault
both len (Ok m) (Ok n) = bounded len (m + n)

-- what is due, if anything, of a key of len bytes and a schedule of s bytes, and of a block of b bytes besides
abbrev pub due_of_schedule : Meaning → ℕ → ℕ → Option Refusal
due_of_schedule m len s = first (expand_checks (m.need len) s)

abbrev pub due_of_block : Meaning → ℕ → ℕ → ℕ → Option Refusal
due_of_block m len s b = first (cipher_checks m.width (m.need len) s b)
