use Rattle.std.proofs.Common.{◌≡◌, ◌+◌, ◌-◌, ◌/◌, ◌<◌, ◌≤◌, Ok, Err, sym, ap, ◌∙◌, arith, rules}
use Rattle.std.proofs.lemmas.Result.{err_from_is_err_and}
use Rattle.refusal.specs.declared.Refusal.TheVariants.{Key}
use Rattle.refusal.specs.Faults.{here}
use Rattle.kit.specs.Calls.{told}
use Rattle.kit.proofs.Calls.{told_ok}
use Rattle.layers.specs.Depth.{risen, bounded, both}
use Rattle.layers.specs.Whitened.{white, white_cells}
use Rattle.layers.specs.AnswersLemmas.{both_refused}
use Rattle.layers.specs.WhitensLemmas.{need_short, need_long}
use Rattle.layers.proofs.whitening.WhiteningKit.need.Goals as goal

pub returns-in_err-rest : goal.returns-in_err-rest
returns-in_err-rest g c =
    let m = g.K.Kit.meaning c.args.self.now.inner in
    let len = c.args.len in
    let short : len < c.white-white.result = search rules in
    let is : c.from_residual.result ≡ Err (Key (here len)) = search rules in
    is ∙ sym (ap told (need_short m len (omega (arith, short, c.white-white.ensures.is))))

pub returns-in_err-cells : goal.returns-in_err-cells
returns-in_err-cells g c =
    let m = g.K.Kit.meaning c.args.self.now.inner in
    let len = c.args.len in
    let long : c.white-white.result ≤ len = search rules in
    let left : c.in_ok-rest.rest ≡ len - c.white-white.result = search rules in
    let p = err_from_is_err_and c.from_residual-in_err-cells.result c.from_residual-in_err-cells.ensures.1 in
    let rises : c.risen.result ≡ told (risen (m.need (len - white m))) =
    c.risen.ensures (m.need c.in_ok-rest.rest) c.need.ensures ∙ ap (λ l. told (risen (m.need l))) (left ∙ ap (λ w. len - w) c.white-white.ensures.is) in
    p.1 ∙ ap Err p.2
    ∙ sym (ap told (need_long m len (omega (arith, long, c.white-white.ensures.is)))
    ∙ both_refused len (risen (m.need (len - white m))) (Ok (white_cells m)) _ (sym rises ∙ c.in_err-cells.was))

pub returns : goal.returns
returns g c =
    let m = g.K.Kit.meaning c.args.self.now.inner in
    let len = c.args.len in
    let n = c.in_ok-cells.cells in
    let long : c.white-white.result ≤ len = search rules in
    let left : c.in_ok-rest.rest ≡ len - c.white-white.result = search rules in
    let rises : c.risen.result ≡ told (risen (m.need (len - white m))) =
    c.risen.ensures (m.need c.in_ok-rest.rest) c.need.ensures ∙ ap (λ l. told (risen (m.need l))) (left ∙ ap (λ w. len - w) c.white-white.ensures.is) in
    let accepts : risen (m.need (len - white m)) ≡ Ok n = told_ok (risen (m.need (len - white m))) n (sym rises ∙ c.in_ok-cells.was) in
    c.bounded.ensures ∙ ap (λ w. told (bounded len (n + w / 16))) c.white-white.ensures.is
    ∙ sym (ap told (need_long m len (omega (arith, long, c.white-white.ensures.is)) ∙ ap (λ r. both len r (Ok (white_cells m))) accepts))
