use Rattle.block.proofs.Parts.{bytes_from}
use Rattle.link.proofs.blocks.are_bytes.Goals as goal

pub returns : goal.returns
returns c = bytes_from c.args.xs.now (λ i. (c.type_inv.xs i).fits)
