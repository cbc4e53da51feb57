use Rattle.std.proofs.Common.{ap}
use Rattle.shelf.specs.Standing.{standing}
use Rattle.shelf.proofs.Law.{law, begins}
use Rattle.shelf.proofs.shelf.Shelf.size.Goals as goal

pub returns : goal.returns
returns g c =
    let did = c.size.ensures in
    record { outcome = did.outcome; kept = λ e. ap (λ b. record { book = b; kind = c.args.self.now.kind }) (did.kept e); begins = begins (standing c.args.self.now.book) c.args.n _ _ did.outcome; law = law }
