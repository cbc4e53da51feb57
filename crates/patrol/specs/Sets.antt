-- How a set stands: its shelf and the records in its cell memory. Assumes nothing.
use Rattle.std.specs.Prelude.{◌≡◌, ℕ, List, [], Some, None, length, replicate, Result, Ok, Err, vec_items}
use Rattle.shelf.specs.Standing.{Standing, standing}
use Rattle.shelf.specs.Items.{list}
use Rattle.shelf.specs.Calls.{Empty, size_checks, gather_checks}
use Rattle.refusal.specs.Checks.{Answers, first}
use Rattle.refusal.specs.declared.Refusal.{Refusal}
use Rattle.signal.specs.declared.record.SignalRecord.{SignalRecord}
use Rattle.patrol.specs.declared.set.Transceiver.{Transceiver}
use Rattle.patrol.specs.declared.calls.SizeError.{SizeError}
use Rattle.patrol.specs.declared.calls.SizeError.TheVariants.{Refused, Memory}

-- how its shelf stands, and the records in its cell memory
abbrev pub stands : Transceiver → Standing
stands t = standing t.shelf.book

abbrev pub memory : Transceiver → List SignalRecord
memory t = vec_items t.cells

-- nothing in a set has changed
pub record Kept (t t' : Transceiver) : Type 0 where
  pub shelf : t'.shelf ≡ t.shelf
  pub cells : t'.cells ≡ t.cells
  pub radio : t'.radio ≡ t.radio

-- what a cell has before its first record
abbrev pub blank : SignalRecord
blank = record { beacon = 0; distance = 0; strength = 0; second = 0 }

-- n blank cells, all free; the radio is as it was
pub record Given (n : ℕ) (t t' : Transceiver) : Type 0 where
  pub shelf : Empty n (stands t')
  pub cells : memory t' ≡ replicate n blank
  pub radio : t'.radio ≡ t.radio

-- n cells are asked for: the shelf's answer, and a refused set is as it was
abbrev pub Sizes : Transceiver → ℕ → Result (Unit {0}) Refusal → Transceiver → Type 0
Sizes t n r t' = Answers (size_checks (stands t).size n) r (λ _. Given n t t') (Kept t t')

-- what is answered where memory is asked for too: the answer that `sizes` tells of, or none is left, and then `rests`
abbrev pub WithMemory : (Result (Unit {0}) Refusal → Type 0) → Type 0 → Result (Unit {0}) SizeError → Type 0
WithMemory sizes rests (Ok done) = sizes (Ok done)
WithMemory sizes rests (Err (Refused refusal)) = sizes (Err refusal)
WithMemory sizes rests (Err (Memory e)) = rests

abbrev pub Sized : Transceiver → ℕ → Result (Unit {0}) SizeError → Transceiver → Type 0
Sized t n r t' = WithMemory (λ answer. Sizes t n answer t') (Kept t t') r

-- a whole list: refused as it would be with room for 256 records
abbrev pub Whole : {V : Type 0} → (V → List SignalRecord) → Standing → List SignalRecord → ℕ → Result V Refusal → Type 0
Whole items s cells c r = Answers (gather_checks s.size (length (s.chain c)) (length cells) c 256) r (λ v. items v ≡ list s cells c) (Unit {0})

-- the same with no refusal: a list that is refused is told as empty
abbrev pub whole_or_none : Standing → List SignalRecord → ℕ → List SignalRecord
whole_or_none s cells c = elim (first (gather_checks s.size (length (s.chain c)) (length cells) c 256)) [ None ↦ list s cells c | Some refusal ↦ [] ]
