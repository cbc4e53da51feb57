use Rattle.std.proofs.Common.{ℕ, List, refl, subst, rules}
use Rattle.shelf.specs.Standing.{standing}
use Rattle.link.specs.Calls as one
use Rattle.bank_calls.specs.Table.{at}
use Rattle.bank_calls.proofs.Invariants.{written}
use Rattle.bank_calls.proofs.Loads.{load_low, put_sits}
use Rattle.bank_calls.proofs.Puts.{put_later}
use Rattle.bank_calls.proofs.state.Bank.put_with.Goals as goal

pub invariant_of-self : goal.invariant_of-self
invariant_of-self g c =
    let b = c.args.self.now in
    let told = c.in_ok-schedule.ensures.told in
    written b c.args.link c.put.new.self (standing b.shelf.book) (load_low b c.args.memory.now c.args.link told)
    (put_sits b c.args.memory.now c.args.link _ _ _ _ c.put.result c.put.new.self c.put.new.out told c.put.ensures.puts c.put.ensures.clear) refl (λ d h ne. refl)

pub returns : goal.returns
returns g c =
    let b = c.args.self.now in
    let memory = c.args.memory.now in
    let i = c.args.link in
    let held = c.in_ok-schedule.ensures in
    let m = g.K.Kit.meaning b.kit in
    let P : List ℕ → Type 0 = λ s. one.Puts m s (at b.links i) c.args.piece.now c.args.out.now c.put.result c.put.new.self c.put.new.out in
    let d = put_later m b _ memory i c.args.piece.now c.args.out.now c.put.new.out held.told c.put.new.self refl refl refl c.put.auto.out c.put.result (subst P held.holds c.put.ensures.puts) in
    record { scratch = search rules; outcome = d.0; output = d.1; link = d.2 }
