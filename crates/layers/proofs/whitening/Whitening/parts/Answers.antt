use Rattle.std.proofs.Common.{◌≡◌, ◌-◌, ◌*◌, length, take, drop, sym, ap, ◌∙◌, ap₂, arith}
use Rattle.layers.specs.Whitened.{inner, block_a, block_b}
use Rattle.kit.proofs.Calls.{cells_due}
use Rattle.layers.specs.WhitensLemmas.{told_accepted, room}
use Rattle.layers.proofs.whitening.Whitening.parts.Goals as goal

pub overflow_sub-schedule : goal.overflow_sub-schedule
overflow_sub-schedule g c =
    let k = c.args.self.now.inner in
    let m = g.K.Kit.meaning k in
    let n = c.in_ok-need.field-0 in
    let a = told_accepted m c.args.len n c.need.result c.need.ensures c.in_ok-need.was in
    let size = cells_due n (length c.args.schedule.now) (sym c.in_ok-fitting.ensures) in
    omega (arith, room m (g.met.K.Kit.sound k) c.args.len n a, size, c.white.ensures.is)

pub split_at-requires-2 : goal.split_at-requires-2
split_at-requires-2 g c =
    let k = c.args.self.now.inner in
    let m = g.K.Kit.meaning k in
    let n = c.in_ok-need.field-0 in
    let a = told_accepted m c.args.len n c.need.result c.need.ensures c.in_ok-need.was in
    let size = cells_due n (length c.args.schedule.now) (sym c.in_ok-fitting.ensures) in
    omega (arith, room m (g.met.K.Kit.sound k) c.args.len n a, size, c.white.ensures.is, c.width_of.ensures.is, c.if-block-width_of.false, c.split_at.ensures.back_len)

pub overflow_sub-result : goal.overflow_sub-result
overflow_sub-result g c =
    let m = g.K.Kit.meaning c.args.self.now.inner in
    let a = told_accepted m c.args.len c.in_ok-need.field-0 c.need.result c.need.ensures c.in_ok-need.was in
    omega (arith, a.long, c.white-2.ensures.is)

pub returns-clause-whole : goal.returns-clause-whole
returns-clause-whole g c =
    let k = c.args.self.now.inner in
    let m = g.K.Kit.meaning k in
    let n = c.in_ok-need.field-0 in
    let a = told_accepted m c.args.len n c.need.result c.need.ensures c.in_ok-need.was in
    let size = cells_due n (length c.args.schedule.now) (sym c.in_ok-fitting.ensures) in
    let both : length c.split_at.result.1.now ≡ 2 * c.args.block =
    omega (arith, room m (g.met.K.Kit.sound k) c.args.len n a, size, c.white.ensures.is, c.width_of.ensures.is, c.if-block-width_of.false, c.split_at.ensures.back_len) in
    let ends = c.split_at-2.ensures in
    (omega (arith, both, ends.front_len, ends.back_len), omega (arith, both, ends.front_len, ends.back_len))

pub returns-clause-parts : goal.returns-clause-parts
unfolding inner block_a block_b
returns-clause-parts g c =
    let s = c.args.schedule.now in
    let w = c.if-block-width_of.false ∙ c.width_of.ensures.is in
    let back = c.split_at.ensures.back ∙ ap (λ v. drop (length s - v) s) c.white.ensures.is in
    record {
      rest = ap (λ v. c.args.len - v) c.white-2.ensures.is;
      inner = c.split_at.ensures.front ∙ ap (λ v. take (length s - v) s) c.white.ensures.is;
      a = c.split_at-2.ensures.front ∙ ap₂ take w back;
      b = c.split_at-2.ensures.back ∙ ap₂ drop w back;
    }
