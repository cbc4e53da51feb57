use Rattle.std.proofs.Common.{refl}
use Rattle.bank.proofs.Law.{law}
use Rattle.shelf.specs.Standing.{standing}
use Rattle.bank_calls.proofs.Sizing.{sizes, begun, sized_keeps}
use Rattle.bank_calls.proofs.state.Bank.size.Goals as goal

pub invariant_of-self : goal.invariant_of-self
invariant_of-self g c = sized_keeps c.args.self.now c.args.n c.size.result (standing c.size.new.self.book) c.size.ensures.outcome

pub returns : goal.returns
returns g c =
    let did = sizes _ _ refl refl c.args.n c.size.result c.size.ensures.outcome c.size.ensures.kept in
    record { outcome = did; kit = refl; links = refl; begins = λ e own long. begun _ _ _ _ _ did e own; law = law }
