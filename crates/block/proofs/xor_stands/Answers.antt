use Rattle.block.proofs.Xor.{laws}
use Rattle.block.proofs.xor_stands.Goals as goal

pub returns : goal.returns
returns c = laws
