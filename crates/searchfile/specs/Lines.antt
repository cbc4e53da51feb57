-- What the figures of a line say, and which fault is told where one is none. Assumes nothing.
-- Of signal: `Figure` and `DistanceText` say which texts are a figure. Of std and signal: `digits_value` and `decimetres` say what it is.
use Rattle.std.specs.Prelude.{◌≡◌, ◌≢◌, ℕ, ◌<◌, List, length, codes, Ok, Err, Result}
use Rattle.std.specs.Str.Parse.{digits_value}
use Rattle.signal.specs.Figures.{Figure, DistanceText, decimetres}
use Rattle.signal.specs.declared.record.SignalRecord.{SignalRecord}
use Rattle.searchfile.specs.declared.fault.Fault.{Fault}
use Rattle.searchfile.specs.declared.fault.Fault.TheVariants.{Number, OpensForm, Beacon, Distance, Strength}

-- a whole number, or the fault that says so
abbrev pub Numbered : List ℕ → Result ℕ Fault → Type 0
Numbered text (Ok n) = Figure 10 text × (n ≡ digits_value 10 text)
Numbered text (Err e) = (Figure 10 text → ⊥) × (e ≡ Number)

-- the number of the mode that a word names, or that it writes
pub data ModeNumber (text : List ℕ) : ℕ → Type 0 where
  cbc : text ≡ codes "cbc" → ModeNumber text 1
  cfb : text ≡ codes "cfb" → ModeNumber text 2
  ofb : text ≡ codes "ofb" → ModeNumber text 3
  written : {n : ℕ} → Figure 10 text → n ≡ digits_value 10 text → n < 256 → ModeNumber text n

-- a word that does neither
pub record NoMode (text : List ℕ) (e : Fault) : Type 0 where
  pub unnamed : (text ≢ codes "cbc") × (text ≢ codes "cfb") × (text ≢ codes "ofb")
  pub large : Figure 10 text → (digits_value 10 text < 256 → ⊥) × (e ≡ OpensForm)
  pub no_number : (Figure 10 text → ⊥) → e ≡ Number

abbrev pub ModeNumbered : List ℕ → Result ℕ Fault → Type 0
ModeNumbered text (Ok n) = ModeNumber text n
ModeNumbered text (Err e) = NoMode text e

-- the text of a beacon's identity, and that of a strength
abbrev pub IsBeacon : List ℕ → Type 0
IsBeacon text = Figure 16 text × (length text ≡ 8)

abbrev pub IsStrength : List ℕ → Type 0
IsStrength text = Figure 10 text × (digits_value 10 text < 256)

-- the record that three texts say at a second
pub record Says (second : ℕ) (beacon distance strength : List ℕ) (r : SignalRecord) : Type 0 where
  pub identity : IsBeacon beacon × (r.beacon ≡ digits_value 16 beacon)
  pub far : DistanceText distance × (r.distance ≡ decimetres distance)
  pub strong : IsStrength strength × (r.strength ≡ digits_value 10 strength)
  pub at : r.second ≡ second

-- the fault of the first of the three that is no figure of its kind
pub data Blames (beacon distance strength : List ℕ) : Fault → Type 0 where
  no_beacon : (IsBeacon beacon → ⊥) → Blames beacon distance strength Beacon
  no_distance : IsBeacon beacon → (DistanceText distance → ⊥) → Blames beacon distance strength Distance
  no_strength : IsBeacon beacon → DistanceText distance → (IsStrength strength → ⊥) → Blames beacon distance strength Strength

-- what a record is read as: the one that the texts say, or the fault to blame
abbrev pub Recorded : ℕ → List ℕ → List ℕ → List ℕ → Result SignalRecord Fault → Type 0
Recorded second beacon distance strength (Ok r) = Says second beacon distance strength r
Recorded second beacon distance strength (Err e) = Blames beacon distance strength e
