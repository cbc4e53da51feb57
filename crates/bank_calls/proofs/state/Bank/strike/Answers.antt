use Rattle.std.proofs.Common.{◌≡◌, Bool, true, false, MatchBool, sym, refl, ◌∙◌, subst}
use Rattle.bank_calls.specs.Calls.{Kept, Shuts, StrikesOne}
use Rattle.bank_calls.specs.Table.{at}
use Rattle.bank_calls.proofs.Closes.{strikes_as}
use Rattle.bank_calls.proofs.Adds.{adds_strike}
use Rattle.bank_calls.proofs.state.Bank.strike.Goals as goal

pub returns-then-is_open : goal.returns-then-is_open
returns-then-is_open g c =
    let b = c.args.self.now in
    let i = c.args.ticket.link in
    let b' = c.close.new.self in
    let o : (at b.links i).open ≡ true = sym c.is_open.ensures ∙ c.if-is_open.true in
    let P : Bool → Type 0 = λ t. MatchBool t (Shuts b i b') (Kept b b') in
    let h : StrikesOne b i b' = subst P (sym o) c.close.ensures in
    record { outcome = λ memory. strikes_as b b' memory i h; link = h; past = adds_strike _ b b' i (λ memory. strikes_as b b' memory i h) }

pub returns-else-is_open : goal.returns-else-is_open
returns-else-is_open g c =
    let b = c.args.self.now in
    let i = c.args.ticket.link in
    let o : (at b.links i).open ≡ false = sym c.is_open.ensures ∙ c.if-is_open.false in
    let P : Bool → Type 0 = λ t. MatchBool t (Shuts b i b) (Kept b b) in
    let h : StrikesOne b i b = subst P (sym o) (record { kit = refl; shelf = refl; links = refl }) in
    record { outcome = λ memory. strikes_as b b memory i h; link = h; past = adds_strike _ b b i (λ memory. strikes_as b b memory i h) }
