use Rattle.std.proofs.Common.{arith, rules}
use Rattle.shelf.proofs.Tables.{sized_kept, sized_none}
use Rattle.shelf.proofs.book.ChainBook.size.Goals as goal

pub invariant_of-self : goal.invariant_of-self
invariant_of-self c =
    let k = sized_kept c.args.self.now c.in-Ok-1-to-256.size (omega arith) c.line-self.result c.line-self.ensures (omega arith) c.if-self-eq0.true in
    record { few = omega arith; whole = k.whole; within = k.within; apart = k.apart; ends = k.ends }

pub returns-in-Ok-1-to-256-clause-outcome : goal.returns-in-Ok-1-to-256-clause-outcome
returns-in-Ok-1-to-256-clause-outcome c =
    record {
      told = search rules;
      holds = record {
        sized = omega arith;
        none = sized_none c.args.self.now c.in-Ok-1-to-256.size (omega arith) c.line-self.result c.line-self.ensures (omega arith) c.if-self-eq0.true;
      };
    }
