use Rattle.modes.proofs.Counts.{counted, ends_count}
use Rattle.modes.proofs.Holds.{holds_count, ragged_by_count}
use Rattle.modes.proofs.counts_stand.Goals as goal

pub returns : goal.returns
returns c = record { pieces = counted; ends = ends_count; holds = holds_count; ragged = ragged_by_count }
