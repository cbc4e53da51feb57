use Rattle.std.proofs.Common.{◌≡◌, Ok, Result, refl, subst, rules}
use Rattle.refusal.specs.declared.Refusal.{Refusal}
use Rattle.bank_calls.specs.Calls.{number}
use Rattle.bank_calls.specs.declared.ticket.Ticket.{Ticket}
use Rattle.patrol.specs.Links.{OpensLink}
use Rattle.patrol.proofs.channel.Channel.open.Goals as goal

pub returns-in-Ok-clause-outcome : goal.returns-in-Ok-clause-outcome
returns-in-Ok-clause-outcome c =
    let sent : c.open.result ≡ Ok c.in_ok-sends.sends = search rules in
    let P : Result Ticket Refusal → Type 0 = λ z. OpensLink c.args.sides.now.patroller.now.radio 0 c.args.agreed.now (number z) c.open.new.self in
    (subst P sent c.open.ensures.outcome, c.in-Ok.ensures.outcome, refl, c.new.ensures.items)

pub returns-in-Err-clause-outcome : goal.returns-in-Err-clause-outcome
returns-in-Err-clause-outcome c =
    let sent : c.open.result ≡ Ok c.in_ok-sends.sends = search rules in
    let P : Result Ticket Refusal → Type 0 = λ z. OpensLink c.args.sides.now.patroller.now.radio 0 c.args.agreed.now (number z) c.open.new.self in
    (c.in-Err.ensures.outcome, (c.open.new.self, c.in_ok-sends.sends.link, subst P sent c.open.ensures.outcome, c.strike.ensures.outcome))
