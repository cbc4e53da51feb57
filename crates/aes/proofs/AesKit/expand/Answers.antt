use Rattle.std.proofs.Common.{◌≡◌, ◌+◌, ◌-◌, ◌*◌, ◌/◌, length, sym, ap, ◌∙◌, None, arith, rules}
use Rattle.refusal.specs.Checks.{first}
use Rattle.kit.specs.Calls.{expand_checks, unless}
use Rattle.aes.specs.Keys.{words, schedule as round_keys}
use Rattle.aes.specs.Versions.{need, aes}
use Rattle.aes.specs.Sound.{fitted, schedule_is}
use Rattle.aes.proofs.AesKit.expand.Goals as goal

pub returns-clause-written : goal.returns-clause-written
unfolding round_keys
returns-clause-written c =
    let key = c.args.key.now in
    let out = c.args.schedule.now in
    let passed : first (expand_checks (need (length key)) (length out)) ≡ None = search rules in
    let f = fitted (length key) (length out) passed in
    let all : length out / 4 ≡ 4 * (f.r + 1) = omega (arith, f.size) in
    c.write_schedule.ensures ∙ ap (λ n. words (length key / 4) (n - length key / 4) key) all
    ∙ sym (ap (λ o. unless o (aes.schedule key) out) passed ∙ schedule_is key f.r f.is)
