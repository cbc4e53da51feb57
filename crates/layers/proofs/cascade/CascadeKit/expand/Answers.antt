use Rattle.std.proofs.Common.{length, sym, ◌∙◌}
use Rattle.kit.proofs.Calls.{expand_passes, expanded_fits}
use Rattle.layers.specs.Cascaded.{cascaded, need as cascaded_need}
use Rattle.layers.specs.AnswersLemmas.{expand_due, none_due}
use Rattle.layers.specs.CascadesLemmas.{accepted, first_accepted, second_accepted, written}
use Rattle.layers.proofs.cascade.CascadeKit.expand.Goals as goal

pub returns-in_err-expand : goal.returns-in_err-expand
returns-in_err-expand g c =
    let self = c.args.self.now in
    let m = g.A.Kit.meaning self.first in
    let n = g.B.Kit.meaning self.second in
    let key = c.args.key.now in
    let out = c.args.schedule.now in
    let d = expand_due (cascaded_need self.split m n (length key)) (length out) (sym c.in_ok-end.ensures.outcome) in
    let a = accepted self.split m n (length key) d.0 d.1.0 in
    let k = c.split_at.ensures in
    let s = c.split_at_mut-first.ensures in
    absurd (none_due c.in_err-expand.ensures.outcome
    (first_accepted self.split m n key out d.0 a d.1.1 c.in_ok-end.end c.in_ok-end.ensures.end _ _ _ _ k.front k.back s.front_len s.back_len))

pub returns : goal.returns
returns g c =
    let self = c.args.self.now in
    let m = g.A.Kit.meaning self.first in
    let n = g.B.Kit.meaning self.second in
    let key = c.args.key.now in
    let out = c.args.schedule.now in
    let d = expand_due (cascaded_need self.split m n (length key)) (length out) (sym c.in_ok-end.ensures.outcome) in
    let a = accepted self.split m n (length key) d.0 d.1.0 in
    let k = c.split_at.ensures in
    let s = c.split_at_mut-first.ensures in
    record {
      outcome =
          c.expand-2.ensures.outcome
          ∙ second_accepted self.split m n key out d.0 a d.1.1 c.in_ok-end.end c.in_ok-end.ensures.end _ _ _ _ k.front k.back s.front_len s.back_len
          ∙ sym (expand_passes (cascaded_need self.split m n (length key)) (length out) d.0 d.1.0 d.1.1);
      written =
          written self.split m n key out d.0 a d.1.1 c.in_ok-end.end c.in_ok-end.ensures.end _ _ _ _ k.front k.back s.front_len s.back_len
          c.expand.new.schedule c.expand-2.new.schedule c.expand.ensures.written c.expand-2.ensures.written
          ∙ sym (expanded_fits (cascaded self.split m n) key out d.0 d.1.0 d.1.1);
    }
