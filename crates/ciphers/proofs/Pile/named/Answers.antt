use Rattle.ciphers.proofs.Naming.{no_pile}
use Rattle.ciphers.proofs.Pile.named.Goals as goal

pub returns-in_err-named-in-None : goal.returns-in_err-named-in-None
returns-in_err-named-in-None c = rw c.from_residual.ensures (no_pile _ c.coat-coat.result.0 _ c.coat-coat.ensures.words c.coat-coat.ensures.whole c.in-None.ensures c.in_err-named-in-None.ensures)
