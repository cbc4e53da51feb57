use Rattle.std.proofs.Common.{◌≡◌, ◌-◌, ◌<◌, ◌≤◌, Err, sym, ap, ◌∙◌, ap₂, rules}
use Rattle.std.proofs.lemmas.Result.{err_from_is_err_and}
use Rattle.refusal.specs.declared.Refusal.TheVariants.{Key}
use Rattle.refusal.specs.Faults.{here}
use Rattle.kit.specs.Calls.{told}
use Rattle.kit.proofs.Calls.{told_ok}
use Rattle.layers.specs.Depth.{risen, both}
use Rattle.layers.specs.AnswersLemmas.{both_refused, both_refused_second}
use Rattle.layers.specs.CascadesLemmas.{need_short, need_long}
use Rattle.layers.proofs.cascade.CascadeKit.need.Goals as goal

pub returns-in_err-rest : goal.returns-in_err-rest
returns-in_err-rest g c =
    let self = c.args.self.now in
    let short : c.args.len < self.split = search rules in
    let is : c.from_residual.result ≡ Err (Key (here c.args.len)) = search rules in
    is ∙ sym (ap told (need_short self.split (g.A.Kit.meaning self.first) (g.B.Kit.meaning self.second) c.args.len short))

pub returns-in_err-ours : goal.returns-in_err-ours
returns-in_err-ours g c =
    let self = c.args.self.now in
    let m = g.A.Kit.meaning self.first in
    let n = g.B.Kit.meaning self.second in
    let len = c.args.len in
    let long : self.split ≤ len = search rules in
    let p = err_from_is_err_and c.from_residual-in_err-ours.result c.from_residual-in_err-ours.ensures.1 in
    let rises = c.risen.ensures (m.need self.split) c.need.ensures in
    p.1 ∙ ap Err p.2
    ∙ sym (ap told (need_long self.split m n len long)
    ∙ both_refused len (risen (m.need self.split)) (risen (n.need (len - self.split))) _ (sym rises ∙ c.in_err-ours.was))

pub returns-in_err-others : goal.returns-in_err-others
returns-in_err-others g c =
    let self = c.args.self.now in
    let m = g.A.Kit.meaning self.first in
    let n = g.B.Kit.meaning self.second in
    let len = c.args.len in
    let ours = c.in_ok-ours.ours in
    let long : self.split ≤ len = search rules in
    let left : c.in_ok-rest.rest ≡ len - self.split = search rules in
    let p = err_from_is_err_and c.from_residual-in_err-others.result c.from_residual-in_err-others.ensures.1 in
    let rises_first = c.risen.ensures (m.need self.split) c.need.ensures in
    let rises = c.risen-2.ensures (n.need c.in_ok-rest.rest) c.need-2.ensures ∙ ap (λ l. told (risen (n.need l))) left in
    p.1 ∙ ap Err p.2
    ∙ sym (ap told (need_long self.split m n len long)
    ∙ both_refused_second len ours (risen (m.need self.split)) (risen (n.need (len - self.split))) _
    (told_ok (risen (m.need self.split)) ours (sym rises_first ∙ c.in_ok-ours.was)) (sym rises ∙ c.in_err-others.was))

pub returns : goal.returns
returns g c =
    let self = c.args.self.now in
    let m = g.A.Kit.meaning self.first in
    let n = g.B.Kit.meaning self.second in
    let len = c.args.len in
    let ours = c.in_ok-ours.ours in
    let others = c.in_ok-others.others in
    let long : self.split ≤ len = search rules in
    let left : c.in_ok-rest.rest ≡ len - self.split = search rules in
    let rises_first = c.risen.ensures (m.need self.split) c.need.ensures in
    let rises = c.risen-2.ensures (n.need c.in_ok-rest.rest) c.need-2.ensures ∙ ap (λ l. told (risen (n.need l))) left in
    c.bounded.ensures
    ∙ sym (ap told (need_long self.split m n len long
    ∙ ap₂ (both len) (told_ok (risen (m.need self.split)) ours (sym rises_first ∙ c.in_ok-ours.was)) (told_ok (risen (n.need (len - self.split))) others (sym rises ∙ c.in_ok-others.was))))
