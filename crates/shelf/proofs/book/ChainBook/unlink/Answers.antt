use Rattle.std.proofs.Common.{◌<◌, get_or, refl, arith}
use Rattle.std.proofs.lemmas.List.{length-map}
use Rattle.std.proofs.lemmas.List.Sums.{get_or-le-sum_by}
use Rattle.shelf.specs.Links.{lens}
use Rattle.shelf.proofs.Totals.{length_places, places_few}
use Rattle.shelf.proofs.Tables.{len_at, unlink_kept, unlink_others, unlink_none, unlink_within}
use Rattle.shelf.proofs.book.ChainBook.unlink.Goals as goal

pub bounds-self-from : goal.bounds-self-from
bounds-self-from c =
    let b = c.args.self.now in
    omega (arith, c.from.ensures, unlink_within b c.args.chain c.requires.0 (omega arith) (omega (arith, length_places b c.args.chain, c.requires.1)), b.few)

pub overflow_add-self : goal.overflow_add-self
overflow_add-self c =
    let b = c.args.self.now in
    omega (arith, len_at b.rows 16, len_at b.rows c.args.chain, get_or-le-sum_by (λ x. x) (lens b.rows) 16 0 (omega (arith, length-map b.rows (λ r. r.len))), length_places b c.args.chain, places_few b c.args.chain, b.whole, b.few)

pub invariant_of-self : goal.invariant_of-self
invariant_of-self c =
    let b = c.args.self.now in
    let any : 0 < get_or (lens b.rows) c.args.chain 0 = omega (arith, length_places b c.args.chain, c.requires.1) in
    let k = unlink_kept b c.args.chain c.requires.0 (omega arith) any _ c.from.ensures in
    record { few = b.few; whole = k.whole; within = k.within; apart = k.apart; ends = k.ends }

pub returns : goal.returns
returns c =
    let b = c.args.self.now in
    let any : 0 < get_or (lens b.rows) c.args.chain 0 = omega (arith, length_places b c.args.chain, c.requires.1) in
    record { sized = refl; none = unlink_none b c.args.chain c.requires.0 (omega arith) any _ c.from.ensures; others = unlink_others b c.args.chain c.requires.0 (omega arith) any _ c.from.ensures }
