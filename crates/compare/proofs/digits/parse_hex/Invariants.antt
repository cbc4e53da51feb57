use Rattle.compare.proofs.digits.parse_hex.Given as goal
use Rattle.compare.proofs.Spelling.{SpelledByPairs}

abbrev pub invariant-loop-high : goal.invariant-loop-high
invariant-loop-high l = SpelledByPairs l.high-index l.pairs l.bytes.items
