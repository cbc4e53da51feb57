use Rattle.std.proofs.Common.{◌≡◌, ◌+◌, ◌-◌, ◌*◌, ◌/◌, ◌<◌, ◌++◌, length, take, drop, sym, ap, ◌∙◌, ap₂, zero-mul, suc-mul, ◌≤◌, suc, arith, rules}
use Rattle.std.proofs.Math.Nat.{mul-le-mul_right}
use Rattle.std.proofs.lemmas.List.{take_at, take_all, append-nil}
use Rattle.std.proofs.lemmas.Slice.{take-put_mid}
use borrow.Rule.Slice.PartMut.{put_mid}
use Rattle.mkv.specs.Keys.{updates, schedule}
use Rattle.mkv.proofs.KeyCode.{updates_none, updates_more}
use Rattle.mkv.proofs.schedule.write_schedule.Goals as goal

pub loop-i-init : goal.loop-i-init
unfolding schedule
loop-i-init g c =
    let t = g.row.T in
    let r = length c.args.out.now / (8 * t) in
    let m = c.args.m.now.rows in
    let state = c.start.new.state in
    let w = c.copy_from_slice.new.self in
    let lw : length w ≡ 4 * t + 0 * (8 * t) = search (rules, zero-mul (8 * t)) in
    let n : r - 0 ≡ r = omega arith in
    let left = c.start.ensures.left in
    ap₂ ◌++◌ (take_at w (drop (4 * t) c.args.out.now) (4 * t + 0 * (8 * t)) lw ∙ c.copy_from_slice.ensures.after ∙ left)
    (ap (λ k. updates t m k 1 (take (4 * t) state) (drop (4 * t) state)) n ∙ ap₂ (updates t m r 1) left c.start.ensures.right)

pub loop-i-preserved : goal.loop-i-preserved
loop-i-preserved g c =
    let t = g.row.T in
    let r = length c.args.out.now / (8 * t) in
    let i = c.loop-i.i in
    let m = c.args.m.now.rows in
    let at = 4 * t + i * (8 * t) in
    let out = c.loop-i.out in
    let state = c.update.new.state in
    let w = c.copy_from_slice-in-loop-i.new.self in
    let is : w ≡ state = c.copy_from_slice-in-loop-i.ensures.after in
    let lw : length w ≡ 8 * t = search rules in
    let inside : i < r = search rules in
    let room : suc i * (8 * t) ≤ r * (8 * t) = mul-le-mul_right (8 * t) inside in
    let written : take (4 * t + (i + 1) * (8 * t)) (put_mid at (at + 8 * t - at) out w) ≡ take at out ++ state =
    take-put_mid at (at + 8 * t - at) out w (4 * t + (i + 1) * (8 * t)) (omega (arith, suc-mul i (8 * t))) (omega (arith, suc-mul i (8 * t), room)) ∙ ap (λ l. take at out ++ l) is in
    let left : r - i - 1 ≡ r - (i + 1) = omega arith in
    let more = updates_more t m (r - i) (i + 1) (take (4 * t) c.loop-i.state) (drop (4 * t) c.loop-i.state) state (take at out) _ (omega arith) c.update.ensures.left c.update.ensures.right c.loop-i.invariant in
    ap₂ (λ l r. l ++ updates t m r (i + 1 + 1) (take (4 * t) state) (drop (4 * t) state)) written (sym left) ∙ more

pub returns : goal.returns
returns g c =
    let t = g.row.T in
    let r = length c.args.out.now / (8 * t) in
    let i = c.loop-i.i in
    let m = c.args.m.now.rows in
    let e : i ≡ r = search rules in
    let none = updates_none t m (r - i) (i + 1) (take (4 * t) c.loop-i.state) (drop (4 * t) c.loop-i.state) (omega arith) in
    sym (ap₂ ◌++◌ (take_all (4 * t + i * (8 * t)) c.loop-i.out (omega (arith, ap (λ n. n * (8 * t)) e))) none ∙ append-nil c.loop-i.out) ∙ c.loop-i.invariant
