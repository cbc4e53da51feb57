use Rattle.std.proofs.Common.{◌-◌, length, take, drop, sym, ap, ◌∙◌, arith}
use Rattle.kit.proofs.Calls.{expanded_fits, told_ok}
use Rattle.layers.specs.Whitened.{inner, need, whitened}
use Rattle.kit.proofs.Calls.{cells_due}
use Rattle.layers.specs.AnswersLemmas.{none_due}
use Rattle.layers.specs.WhitensLemmas.{told_accepted, room, expand_accepted, written}
use Rattle.layers.proofs.whitening.WhiteningKit.expand.Goals as goal

pub overflow_sub-key : goal.overflow_sub-key
overflow_sub-key g c =
    let m = g.K.Kit.meaning c.args.self.now.inner in
    let a = told_accepted m (length c.args.key.now) c.in_ok-need.field-0 c.need.result c.need.ensures c.in_ok-need.was in
    omega (arith, a.long, c.white.ensures.is)

pub overflow_sub-schedule : goal.overflow_sub-schedule
overflow_sub-schedule g c =
    let k = c.args.self.now.inner in
    let m = g.K.Kit.meaning k in
    let n = c.in_ok-need.field-0 in
    let a = told_accepted m (length c.args.key.now) n c.need.result c.need.ensures c.in_ok-need.was in
    let size = cells_due n (length c.args.schedule.now) (sym c.in_ok-fitting.ensures) in
    omega (arith, room m (g.met.K.Kit.sound k) (length c.args.key.now) n a, size, c.white-2.ensures.is)

pub returns-in_err-expand : goal.returns-in_err-expand
unfolding inner
returns-in_err-expand g c =
    let k = c.args.self.now.inner in
    let m = g.K.Kit.meaning k in
    let key = c.args.key.now in
    let n = c.in_ok-need.field-0 in
    let a = told_accepted m (length key) n c.need.result c.need.ensures c.in_ok-need.was in
    let size = cells_due n (length c.args.schedule.now) (sym c.in_ok-fitting.ensures) in
    let er = c.split_at.ensures.front ∙ ap (λ v. take (length key - v) key) c.white.ensures.is in
    absurd (none_due c.in_err-expand.ensures.outcome
    (expand_accepted m key n a c.split_at.result.0.now c.split_at_mut-inner.result.0.now er
    (omega (arith, room m (g.met.K.Kit.sound k) (length key) n a, size, c.white-2.ensures.is, c.split_at_mut-inner.ensures.front_len))))

pub returns-clause-written : goal.returns-clause-written
unfolding inner
returns-clause-written g c =
    let k = c.args.self.now.inner in
    let m = g.K.Kit.meaning k in
    let key = c.args.key.now in
    let out = c.args.schedule.now in
    let n = c.in_ok-need.field-0 in
    let a = told_accepted m (length key) n c.need.result c.need.ensures c.in_ok-need.was in
    let size = cells_due n (length out) (sym c.in_ok-fitting.ensures) in
    let er = c.split_at.ensures.front ∙ ap (λ v. take (length key - v) key) c.white.ensures.is in
    let ev = c.copy_from_slice.ensures.after ∙ c.split_at.ensures.back ∙ ap (λ v. drop (length key - v) key) c.white.ensures.is in
    written m key n a c.split_at.result.0.now c.split_at_mut-inner.result.0.now er
    (omega (arith, room m (g.met.K.Kit.sound k) (length key) n a, size, c.white-2.ensures.is, c.split_at_mut-inner.ensures.front_len))
    c.expand.new.schedule c.copy_from_slice.new.self c.expand.ensures.written ev
    ∙ sym (expanded_fits (whitened m) key out n (told_ok (need m (length key)) n (sym c.need.ensures ∙ c.in_ok-need.was)) size)
