use Rattle.std.proofs.Common.{◌≤◌, length}
use Rattle.firmware.proofs.Radio.put_all.Given as goal

-- what was given so far lies in `out`
abbrev pub invariant-loop-piece : goal.invariant-loop-piece
invariant-loop-piece l = l.given ≤ length l.out
