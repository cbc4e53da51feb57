use Rattle.layers.specs.WhitensLemmas.{law}
use Rattle.layers.proofs.whitening.Whitening.over.Goals as goal

pub returns-clause-law : goal.returns-clause-law
returns-clause-law g c = law (g.K.Kit.meaning c.args.kit)
