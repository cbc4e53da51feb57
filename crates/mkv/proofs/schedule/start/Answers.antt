use Rattle.std.proofs.Common.{◌≡◌, ◌+◌, ◌-◌, ◌*◌, ◌++◌, map, length, take, drop, sym, ap, ◌∙◌, arith}
use Rattle.std.proofs.lemmas.List.{drop-take, take-append-le, drop-append-le}
use Rattle.mkv.specs.Keys.{start_left, start_right}
use Rattle.mkv.proofs.schedule.start.Goals as goal

pub returns-clause-left : goal.returns-clause-left
unfolding start_left
returns-clause-left g c =
    let given : c.copy_from_slice.new.self ≡ c.args.key.now = c.copy_from_slice.ensures.after in
    rw given (take-append-le (4 * g.row.T) c.args.key.now c.complement.new.block (omega arith))

pub returns-clause-right : goal.returns-clause-right
unfolding start_right
returns-clause-right g c =
    let t = g.row.T in
    let key = c.args.key.now in
    let n = length key - 4 * t in
    let given : c.copy_from_slice.new.self ≡ key = c.copy_from_slice.ensures.after in
    let size : n + (4 * t - n) ≡ 4 * t = omega arith in
    rw given (drop-append-le (4 * t) key c.complement.new.block (omega arith))
    ∙ ap (λ x. drop (4 * t) key ++ x) (c.complement.ensures
    ∙ ap (map (λ x. 255 - x)) (c.copy_from_slice-2.ensures.after ∙ sym (drop-take n (4 * t - n) key) ∙ ap (λ k. drop n (take k key)) size))
