-- The steps one by one make up the rounds. Assumes nothing.
use Rattle.std.proofs.Common.{refl}
use Rattle.aes.specs.Cipher.{round, last_round, inv_round, inv_last_round}
use Rattle.aes.specs.Trace.{StepsMakeRounds}

pub steps_make_rounds : StepsMakeRounds
unfolding round last_round inv_round inv_last_round
steps_make_rounds = record { forwards = λ key b. refl; last = λ key b. refl; backwards = λ key b. refl; last_back = λ key b. refl }
