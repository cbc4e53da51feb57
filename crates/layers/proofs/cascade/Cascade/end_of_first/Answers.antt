use Rattle.std.proofs.Common.{sym, ap, ◌∙◌}
use Rattle.kit.specs.Calls.{told}
use Rattle.kit.proofs.Calls.{told_ok}
use Rattle.kit.proofs.Calls.{cells_due}
use Rattle.layers.specs.AnswersLemmas.{refused_not_ok}
use Rattle.layers.specs.CascadesLemmas.{told_accepted, begins}
use Rattle.layers.proofs.cascade.Cascade.end_of_first.Goals as goal

pub returns-in_err-ours-clause-outcome : goal.returns-in_err-ours-clause-outcome
returns-in_err-ours-clause-outcome g c =
    let self = c.args.self.now in
    let a = told_accepted self.split (g.A.Kit.meaning self.first) (g.B.Kit.meaning self.second) c.args.len c.in_ok-need.field-0 c.need.result c.need.ensures c.in_ok-need.was in
    absurd (refused_not_ok (sym c.in_err-ours.was ∙ c.need-2.ensures ∙ ap told a.first))

pub returns-clause-within : goal.returns-clause-within
returns-clause-within g c =
    let self = c.args.self.now in
    let m = g.A.Kit.meaning self.first in
    let n = g.B.Kit.meaning self.second in
    let cells = c.in_ok-need.field-0 in
    let a = told_accepted self.split m n c.args.len cells c.need.result c.need.ensures c.in_ok-need.was in
    let ours = told_ok (m.need self.split) c.in_ok-ours.ours (sym c.need-2.ensures ∙ c.in_ok-ours.was) in
    (begins self.split m n c.args.len cells a c.args.size c.in_ok-ours.ours (cells_due cells c.args.size (sym c.in_ok-fitting.ensures)) ours, a.long)
