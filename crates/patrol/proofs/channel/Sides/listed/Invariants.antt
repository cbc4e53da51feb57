use Rattle.std.proofs.Common.{length}
use Rattle.patrol.proofs.channel.Sides.listed.Given as goal

abbrev pub decreases-loop-records : goal.decreases-loop-records
decreases-loop-records l = length l.came.items
