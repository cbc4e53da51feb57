use Rattle.std.proofs.Common.{◌≡◌, length, replicate, ap, ◌∙◌, rules}
use Rattle.bank_calls.proofs.guard.wipe.Goals as goal

pub returns : goal.returns
returns c =
    let e : c.fill.new.self ≡ replicate (length c.args.scratch.now) 0 = search rules in
    let long : length c.args.scratch.now ≡ 1536 = search rules in
    e ∙ ap (λ n. replicate n 0) long
