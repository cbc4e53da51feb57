use Rattle.std.proofs.Common.{arith}
use Rattle.signal.proofs.Words.{hex_eight}
use Rattle.signal.proofs.write.BeaconDisplay.fmt.Goals as goal

pub returns-clause-writes : goal.returns-clause-writes
returns-clause-writes g c = rw (c.laid_out.ensures, c.in_radix.ensures, hex_eight c.args.self.now.0 (omega arith)) at c.write.ensures.writes
