use Rattle.mkv.specs.Substitution.{tables}
use Rattle.mkv.specs.Widths.{keys_128, keys_256}
use Rattle.mkv.proofs.Trace.{steps_make_rounds}
use Rattle.mkv.proofs.mkv_stands.Goals as goal

pub returns : goal.returns
returns c = record { tables = tables; rounds = steps_make_rounds; keys = (keys_128, keys_256) }
