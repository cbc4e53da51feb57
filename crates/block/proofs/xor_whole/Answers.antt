use Rattle.std.proofs.Common.{◌∙◌}
use Rattle.block.proofs.Xor.{xor_whole}
use Rattle.block.proofs.xor_whole.Goals as goal

pub returns : goal.returns
returns c = c.xor_into.ensures ∙ xor_whole c.args.block.now c.args.by.now c.requires
