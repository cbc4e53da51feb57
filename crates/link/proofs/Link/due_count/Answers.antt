use Rattle.std.proofs.Common.{rules}
use Rattle.link.proofs.Lengths.{arrays_from, gives_by}
use Rattle.link.proofs.Link.due_count.Goals as goal

pub returns-in-Cbc-Send-clause-gives : goal.returns-in-Cbc-Send-clause-gives
returns-in-Cbc-Send-clause-gives c =
    let l = c.args.self.now in
    gives_by l c.requires.fits (arrays_from l (search rules) (λ i. search rules) (search rules) (λ i. search rules)) c.args.n _ (search rules)

pub returns-in-Cbc-Receive-clause-gives : goal.returns-in-Cbc-Receive-clause-gives
returns-in-Cbc-Receive-clause-gives c =
    let l = c.args.self.now in
    gives_by l c.requires.fits (arrays_from l (search rules) (λ i. search rules) (search rules) (λ i. search rules)) c.args.n _ (search rules)

pub returns-in-Cfb-default-clause-gives : goal.returns-in-Cfb-default-clause-gives
returns-in-Cfb-default-clause-gives c =
    let l = c.args.self.now in
    gives_by l c.requires.fits (arrays_from l (search rules) (λ i. search rules) (search rules) (λ i. search rules)) c.args.n _ (search rules)
