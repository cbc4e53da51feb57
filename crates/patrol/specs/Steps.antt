-- What a set tells of a step that it does for itself. Assumes nothing.
use Rattle.std.specs.Prelude.{◌≡◌, ℕ, List, length, replicate, Option, Some, None, Result, Ok, Err, ◌-◌}
use Rattle.refusal.specs.declared.Refusal.{Refusal}
use Rattle.shelf.specs.Standing.{free}
use Rattle.shelf.specs.Calls.{Empty, Append, Read, Drop}
use Rattle.kit.specs.Calls.{told}
use Rattle.ciphers.specs.Piles.{pile_meaning}
use Rattle.ciphers.specs.declared.Pile.{Pile}
use Rattle.signal.specs.declared.record.SignalRecord.{SignalRecord}
use Rattle.patrol.specs.Sets as sets
use Rattle.patrol.specs.Sets.{stands, memory, blank}
use Rattle.patrol.specs.Radios as radios
use Rattle.patrol.specs.Radios.{radio_books}
use Rattle.patrol.specs.declared.radio.Radio.{Radio}
use Rattle.patrol.specs.declared.set.Transceiver.{Transceiver}
use Rattle.patrol.specs.declared.event.Event.{Event}
use Rattle.patrol.specs.declared.event.Event.TheVariants.{Joined, Sized, KeysSized, Heard, Lost, Told, Keyed}
use Rattle.patrol.specs.declared.event.Side.{Side}
use Rattle.patrol.specs.declared.event.Side.TheVariants.{Own}
use Rattle.patrol.specs.declared.event.Refused.{Refused}
use Rattle.patrol.specs.declared.event.Undone.{Undone}
use Rattle.patrol.specs.declared.event.Undone.TheVariants.{Refused as RefusedStep, Fault}

-- a refusal, with the set's free cells; and one of its radio, with the free key cells
abbrev pub refused_of : Transceiver → Side → Refusal → Option ℕ → Refused
refused_of t by refusal needed = record { by = by; refusal = refusal; free = free (stands t); needed = needed }

abbrev pub unlinked_of : Transceiver → Side → Refusal → Option ℕ → Refused
unlinked_of t by refusal needed = record { by = by; refusal = refusal; free = (radio_books t.radio).room; needed = needed }

-- a set has its cells, and its radio the key cells where a number is told
abbrev pub KeysGiven : Option ℕ → Radio → Radio → Type 0
KeysGiven None r r' = r' ≡ r
KeysGiven (Some n) r r' = radios.Given n r r'

pub record Joins (t : Transceiver) (cells : ℕ) (key_cells : Option ℕ) (e : Event) (t' : Transceiver) : Type 0 where
  pub shelf : Empty cells (stands t')
  pub holds : memory t' ≡ replicate cells blank
  pub radio : KeysGiven key_cells t.radio t'.radio
  pub event : e ≡ Joined cells key_cells

-- records are heard: how many, and what is free now
abbrev pub Hears : Transceiver → ℕ → List SignalRecord → Result Event Refused → Transceiver → Type 0
Hears t list records (Ok e) t' = Append (stands t) (memory t) list records (Ok tt) (stands t') (memory t') × (e ≡ Heard list (length records) (free (stands t')))
Hears t list records (Err r) t' = Append (stands t) (memory t) list records (Err r.refusal) (stands t') (memory t') × (r ≡ refused_of t' Own r.refusal (Some (length records)))

-- a list is lost: how many cells are free by it, and what is free now
abbrev pub Loses : Transceiver → ℕ → Result Event Refused → Transceiver → Type 0
Loses t list (Ok e) t' = Drop (stands t) list (Ok tt) (stands t') × (e ≡ Lost list (free (stands t') - free (stands t)) (free (stands t')))
Loses t list (Err r) t' = Drop (stands t) list (Err r.refusal) (stands t') × (r ≡ refused_of t' Own r.refusal None)

-- a record is read
abbrev pub Tells : Transceiver → (list position : ℕ) → Result Event Refused → Type 0
Tells t list position (Ok e) = (heard : SignalRecord) × Read (stands t) (memory t) list position (Ok heard) × (e ≡ Told list position heard)
Tells t list position (Err r) = Read (stands t) (memory t) list position (Err r.refusal) × (r ≡ refused_of t Own r.refusal None)

-- a set is given n cells
abbrev pub SizesTold : Transceiver → ℕ → Result Event Undone → Transceiver → Type 0
SizesTold t n (Ok e) t' = sets.Sizes t n (Ok tt) t' × (e ≡ Sized n)
SizesTold t n (Err (RefusedStep r)) t' = sets.Sizes t n (Err r.refusal) t' × (r ≡ refused_of t' Own r.refusal (Some n))
SizesTold t n (Err (Fault f)) t' = sets.Kept t t'

-- its radio is given n key cells
abbrev pub KeysTold : Transceiver → ℕ → Result Event Undone → Transceiver → Type 0
KeysTold t n (Ok e) t' = radios.Sizes t.radio n (Ok tt) t'.radio × (e ≡ KeysSized n)
KeysTold t n (Err (RefusedStep r)) t' = radios.Sizes t.radio n (Err r.refusal) t'.radio × (r ≡ unlinked_of t' Own r.refusal (Some n))
KeysTold t n (Err (Fault f)) t' = radios.Rests t.radio t'.radio

-- the cells that a link needs under a key of so many bytes
abbrev pub Keys : Transceiver → Pile → ℕ → Result Event Refused → Type 0
Keys t cipher bytes (Ok e) = (n : ℕ) × (Ok n ≡ told ((pile_meaning cipher).need bytes)) × (e ≡ Keyed cipher bytes n)
Keys t cipher bytes (Err r) = (Err r.refusal ≡ told ((pile_meaning cipher).need bytes)) × (r ≡ refused_of t Own r.refusal None)
