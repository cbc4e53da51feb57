use Rattle.bank.proofs.Law.{law}
use Rattle.bank.proofs.law_of_banks.Goals as goal

pub returns : goal.returns
returns c = law
