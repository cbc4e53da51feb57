use Rattle.std.proofs.Common.{ℕ, List, Ok, subst, rules}
use Rattle.link.specs.Calls as one
use Rattle.bank_calls.specs.Table.{at}
use Rattle.bank_calls.proofs.Closes.{end_given}
use Rattle.bank_calls.proofs.state.Bank.end_with.Goals as goal

pub returns : goal.returns
returns g c =
    let b = c.args.self.now in
    let memory = c.args.memory.now in
    let i = c.args.link in
    let held = c.in_ok-schedule.ensures in
    let m = g.K.Kit.meaning b.kit in
    let P : List ℕ → Type 0 = λ s. one.Ends m s (at b.links i) c.args.out.now (Ok c.in_ok-given.given) c.end.new.out in
    let d = end_given b c.close.new.self memory i m c.args.out.now c.end.new.out held.told c.in_ok-given.given c.end.auto.out (subst P held.holds c.in_ok-given.ensures) c.close.ensures in
    record { scratch = search rules; outcome = d.0; output = d.1; link = d.2 }
