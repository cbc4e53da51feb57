use Rattle.std.proofs.Common.{◌≡◌, ◌+◌, ◌-◌, ◌*◌, ◌/◌, ◌++◌, length, take, drop}
use Rattle.mkv.specs.Keys.{updates, schedule}
use Rattle.mkv.proofs.schedule.write_schedule.Given as goal

abbrev pub invariant-loop-i : goal.invariant-loop-i
invariant-loop-i g l =
    take (4 * g.row.T + l.i * (8 * g.row.T)) l.out ++ updates g.row.T l.m.rows (length l.fn.out / (8 * g.row.T) - l.i) (l.i + 1) (take (4 * g.row.T) l.state) (drop (4 * g.row.T) l.state)
    ≡ schedule g.row.T l.m.rows (length l.fn.out / (8 * g.row.T)) l.key
