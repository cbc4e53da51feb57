use Rattle.std.proofs.Common.{ap}
use Rattle.shelf.specs.Standing.{standing}
use Rattle.bank_calls.proofs.Invariants.{written}
use Rattle.bank_calls.proofs.Closes.{dropped, shut_sits}
use Rattle.bank_calls.proofs.state.Bank.close.Goals as goal

pub invariant_of-self : goal.invariant_of-self
invariant_of-self g c =
    let b = c.args.self.now in
    let d = dropped (standing b.shelf.book) c.args.link _ (standing c.drop_chain.new.self.book) c.requires c.drop_chain.ensures.outcome in
    written b c.args.link c.closed.result (standing c.drop_chain.new.self.book) c.requires (shut_sits _ _ _ (ap (λ l. l.open) c.closed.ensures) d.none) d.sized d.others
