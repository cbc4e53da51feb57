use Rattle.std.proofs.Common.{sym, ◌∙◌}
use Rattle.shelf.proofs.Tables.{len_at}
use Rattle.shelf.proofs.Totals.{length_places}
use Rattle.shelf.proofs.book.ChainBook.count.Goals as goal

pub returns : goal.returns
returns c = c.from.ensures ∙ len_at c.args.self.now.rows c.args.chain ∙ sym (length_places c.args.self.now c.args.chain)
