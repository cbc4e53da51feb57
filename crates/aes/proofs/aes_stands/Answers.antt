use Rattle.aes.specs.Substitution.{tables}
use Rattle.aes.proofs.Trace.{steps_make_rounds}
use Rattle.aes.specs.Sound.{key_expansion}
use Rattle.aes.proofs.aes_stands.Goals as goal

pub returns : goal.returns
returns c = record { tables = tables; rounds = steps_make_rounds; keys = key_expansion }
