use Rattle.std.proofs.Common.{◌≡◌, ◌<◌, length, ap, ◌∙◌, arith, rules}
use Rattle.std.specs.Int.{w16, from_be_bytes}
use Rattle.patrol.specs.Reports.{told_count, told_bytes}
use Rattle.patrol.proofs.Reports.{begins, long, back}
use Rattle.patrol.proofs.report.first.Goals as goal

pub returns-clause-cases : goal.returns-clause-cases
returns-clause-cases c =
    let text = c.args.text.now in
    let cut = c.in_ok-count.ensures.cases in
    let count : c.from-bytes.result ≡ told_count text = c.from-bytes.ensures ∙ c.from_be_bytes.ensures ∙ ap (from_be_bytes w16) cut.0 in
    begins text _ _ _ _ c.from-bytes.result count cut.1 cut.2 c.in_ok-body.ensures.cases c.as_chunks.ensures.front

pub returns-clause-back : goal.returns-clause-back
returns-clause-back c = λ list rest small is. back list rest c.args.text.now _ _ small is (returns-clause-cases c)

pub returns-in_err-body-clause-back : goal.returns-in_err-body-clause-back
returns-in_err-body-clause-back c = λ list rest small is.
    let text = c.args.text.now in
    let short : length text < told_bytes text = search rules in
    absurd (omega (arith, short, long list rest text small is))
