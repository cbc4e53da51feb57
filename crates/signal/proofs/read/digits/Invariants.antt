use Rattle.signal.proofs.Figures.{Read}
use Rattle.signal.proofs.read.digits.Given as goal

abbrev pub invariant-loop-b : goal.invariant-loop-b
invariant-loop-b l = Read l.base l.text l.b-index l.n
