use Rattle.std.proofs.Common.{◌≡◌, ℕ, List, Option, None, Some, Result, Ok, Err, rules}
use Rattle.std.specs.Option.{SomeIff, ok_or}
use Rattle.std.specs.Result.{IsErrAnd}
use Rattle.signal.specs.declared.record.SignalRecord.{SignalRecord}
use Rattle.searchfile.specs.declared.fault.Fault.{Fault}
use Rattle.searchfile.specs.Lines.{Recorded, Blames, no_beacon, no_distance, no_strength}
use Rattle.searchfile.proofs.grammar.record.Goals as goal

-- a figure that is none, and the fault named there
missing : (o : Option ℕ) (P : Type 0) (v : ℕ) (e fault : Fault) → SomeIff o P v → Err e ≡ ok_or {T = ℕ} o fault → (P → ⊥) × (e ≡ fault)
missing None P v e fault none is = (none, cc)
missing (Some x) P v e fault some is = cc

blamed : (second : ℕ) (beacon distance strength : List ℕ) (r : Result SignalRecord Fault) (e fault : Fault) → IsErrAnd r (λ y. y ≡ e) → e ≡ fault
    → Blames beacon distance strength fault → Recorded second beacon distance strength r
blamed second beacon distance strength (Ok x) e fault told is blame = absurd told
blamed second beacon distance strength (Err y) e fault told is blame = let same : y ≡ fault = cc in rw same blame

pub returns-in_err-beacon : goal.returns-in_err-beacon
returns-in_err-beacon c =
    let m = missing c.beacon.result _ _ _ _ c.beacon.ensures c.in_err-beacon.ensures.value in
    blamed _ _ _ _ c.from_residual.result _ _ c.from_residual.ensures.1 m.1 (no_beacon m.0)

pub returns-in_err-distance : goal.returns-in_err-distance
returns-in_err-distance c =
    let m = missing c.metres.result _ _ _ _ c.metres.ensures c.in_err-distance.ensures.value in
    blamed _ _ _ _ c.from_residual-in_err-distance.result _ _ c.from_residual-in_err-distance.ensures.1 m.1 (no_distance (search rules) m.0)

pub returns-in_err-strength : goal.returns-in_err-strength
returns-in_err-strength c =
    let m = missing c.strength.result _ _ _ _ c.strength.ensures c.in_err-strength.ensures.value in
    blamed _ _ _ _ c.from_residual-in_err-strength.result _ _ c.from_residual-in_err-strength.ensures.1 m.1 (no_strength (search rules) (search rules) m.0)
