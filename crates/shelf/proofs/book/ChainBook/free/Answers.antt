use Rattle.std.proofs.Common.{◌∙◌, arith}
use Rattle.shelf.proofs.Tables.{len_at}
use Rattle.shelf.proofs.Totals.{free_is}
use Rattle.shelf.proofs.book.ChainBook.free.Goals as goal

pub returns : goal.returns
returns c = c.from.ensures ∙ len_at c.args.self.now.rows 16 ∙ free_is c.args.self.now (omega arith)
