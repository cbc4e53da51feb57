-- The steps one by one make up the round. Assumes nothing.
use Rattle.std.proofs.Common.{refl}
use Rattle.mkv.specs.Steps.{sub_cells, sub_cells_back, round, round_back}
use Rattle.mkv.specs.Trace.{StepsMakeRounds}

pub steps_make_rounds : StepsMakeRounds
unfolding round round_back sub_cells sub_cells_back
steps_make_rounds = record { forwards = λ t m key b. refl; backwards = λ t n key b. refl }
