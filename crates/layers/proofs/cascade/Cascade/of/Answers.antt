use Rattle.std.proofs.Common.{sym, ◌∙◌}
use Rattle.layers.specs.CascadesLemmas.{law}
use Rattle.layers.proofs.cascade.Cascade.of.Goals as goal

pub returns-clause-law : goal.returns-clause-law
returns-clause-law g c =
    let a = c.args.first in
    let b = c.args.second in
    law c.args.split (g.A.Kit.meaning a) (g.B.Kit.meaning b) (g.met.A.Kit.sound a) (g.met.B.Kit.width b ∙ sym (g.met.A.Kit.width a))
