use Rattle.std.proofs.Common.{◌/◌, ◌%◌, arith}
use Rattle.signal.proofs.Words.{two_digits}
use Rattle.signal.proofs.write.ClockDisplay.fmt.Goals as goal

pub returns-clause-writes : goal.returns-clause-writes
returns-clause-writes g c =
    let m = two_digits (c.args.self.now.0 / 60 % 60) (omega arith) in
    let s = two_digits (c.args.self.now.0 % 60) (omega arith) in
    rw (c.laid_out.ensures, c.laid_out-2.ensures, m, s) at c.write.ensures.writes
