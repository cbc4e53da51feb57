use Rattle.std.proofs.Common.{◌≡◌, ℕ, length, Ok, Err, Result, sym, refl, ap, ◌∙◌, subst, arith, rules}
use Rattle.std.proofs.lemmas.Result.{err_from_is_err_and}
use Rattle.block.proofs.Parts.{bytes_from}
use Rattle.bank.specs.Calls.{Opens}
use Rattle.bank.specs.Past.{opens}
use Rattle.refusal.specs.declared.Refusal.{Refusal}
use Rattle.refusal.specs.declared.Refusal.TheVariants.{Scratch}
use Rattle.bank_calls.specs.Seen.{books}
use Rattle.bank_calls.specs.Calls.{number, asked, asked_with}
use Rattle.bank_calls.specs.Pasts.{Adds}
use Rattle.bank_calls.specs.declared.ticket.Ticket.{Ticket}
use Rattle.bank_calls.proofs.Opens.{open_unscratched}
use Rattle.bank_calls.proofs.Adds.{adds_open}
use Rattle.bank_calls.proofs.Guarded.{wiped, unchanged}
use Rattle.bank_calls.proofs.state.Bank.open.Goals as goal

pub returns-in_err-bytes-clause-past : goal.returns-in_err-bytes-clause-past
returns-in_err-bytes-clause-past g c =
    let b = c.args.self.now in
    let m = g.K.Kit.meaning b.kit in
    let memory = c.args.memory.now in
    let key = c.args.key.now in
    let start = c.args.start.now in
    let a = asked c.args.scratch.now memory c.args.mode c.args.direction key start in
    let d : length c.args.scratch.now ≡ 1536 → ⊥ = search rules in
    let p = err_from_is_err_and c.from_residual.result c.from_residual.ensures.1 in
    let s : c.in_err-bytes.field-0.0 ≡ Scratch = search rules in
    let Q : Result Ticket Refusal → Type 0 = λ z. Adds m b memory (opens a (number z)) b memory in
    subst Q (sym (p.1 ∙ ap Err (p.2 ∙ s)))
    (adds_open m b b memory memory a refl (bytes_from key (λ i. (c.type_inv.key i).fits)) (bytes_from start (λ i. (c.type_inv.start i).fits)) (Err Scratch) (λ e is. unchanged b b)
    (open_unscratched m b b memory memory a d (unchanged b b) refl))

pub returns-in_err-link-clause-outcome : goal.returns-in_err-link-clause-outcome
returns-in_err-link-clause-outcome g c =
    let b = c.args.self.now in
    let b' = c.open_with.new.self in
    let m = g.K.Kit.meaning b.kit in
    let memory = c.args.memory.now in
    let memory' = c.open_with.new.memory in
    let right : length c.args.scratch.now ≡ 1536 = search rules in
    let P : ℕ → Type 0 = λ k. Opens m (books b memory) (asked_with k memory c.args.mode c.args.direction c.args.key.now c.args.start.now) (Err c.in_err-link.field-0.0) (books b' memory') in
    let a = asked c.args.scratch.now memory c.args.mode c.args.direction c.args.key.now c.args.start.now in
    let p = err_from_is_err_and c.from_residual-in_err-link.result c.from_residual-in_err-link.ensures.1 in
    let Q : Result Ticket Refusal → Type 0 = λ z. Opens m (books b memory) a (number z) (books b' memory') in
    subst Q (sym (p.1 ∙ ap Err p.2)) (subst P (sym right) c.in_err-link.ensures.outcome)

pub returns-in_err-link-clause-scratch : goal.returns-in_err-link-clause-scratch
returns-in_err-link-clause-scratch g c = wiped c.args.scratch.now c.open_with.new.scratch (search rules) c.in_err-link.ensures.scratch

pub returns-in_err-link-clause-past : goal.returns-in_err-link-clause-past
returns-in_err-link-clause-past g c =
    let b = c.args.self.now in
    let b' = c.open_with.new.self in
    let m = g.K.Kit.meaning b.kit in
    let memory = c.args.memory.now in
    let memory' = c.open_with.new.memory in
    let key = c.args.key.now in
    let start = c.args.start.now in
    let right : length c.args.scratch.now ≡ 1536 = search rules in
    let f = c.in_err-link.field-0.0 in
    let e = c.in_err-link.ensures in
    let a = asked c.args.scratch.now memory c.args.mode c.args.direction key start in
    let P : ℕ → Type 0 = λ k. Opens m (books b memory) (asked_with k memory c.args.mode c.args.direction key start) (Err f) (books b' memory') in
    let p = err_from_is_err_and c.from_residual-in_err-link.result c.from_residual-in_err-link.ensures.1 in
    let Q : Result Ticket Refusal → Type 0 = λ z. Adds m b memory (opens a (number z)) b' memory' in
    subst Q (sym (p.1 ∙ ap Err p.2))
    (adds_open m b b' memory memory' a refl (bytes_from key (λ i. (c.type_inv.key i).fits)) (bytes_from start (λ i. (c.type_inv.start i).fits)) (Err f) (λ r is. e.link.0) (subst P (sym right) e.outcome))

pub returns-clause-outcome : goal.returns-clause-outcome
returns-clause-outcome g c =
    let b = c.args.self.now in
    let b' = c.open_with.new.self in
    let m = g.K.Kit.meaning b.kit in
    let memory = c.args.memory.now in
    let memory' = c.open_with.new.memory in
    let right : length c.args.scratch.now ≡ 1536 = search rules in
    let P : ℕ → Type 0 = λ k. Opens m (books b memory) (asked_with k memory c.args.mode c.args.direction c.args.key.now c.args.start.now) (Ok c.in_ok-link.link) (books b' memory') in
    subst P (sym right) c.in_ok-link.ensures.outcome

pub returns-clause-scratch : goal.returns-clause-scratch
returns-clause-scratch g c = wiped c.args.scratch.now c.open_with.new.scratch (search rules) c.in_ok-link.ensures.scratch

pub returns-clause-past : goal.returns-clause-past
returns-clause-past g c =
    let b = c.args.self.now in
    let b' = c.open_with.new.self in
    let m = g.K.Kit.meaning b.kit in
    let memory = c.args.memory.now in
    let memory' = c.open_with.new.memory in
    let key = c.args.key.now in
    let start = c.args.start.now in
    let right : length c.args.scratch.now ≡ 1536 = search rules in
    let i = c.in_ok-link.link in
    let P : ℕ → Type 0 = λ k. Opens m (books b memory) (asked_with k memory c.args.mode c.args.direction key start) (Ok i) (books b' memory') in
    adds_open m b b' memory memory' (asked c.args.scratch.now memory c.args.mode c.args.direction key start) refl (bytes_from key (λ i. (c.type_inv.key i).fits)) (bytes_from start (λ i. (c.type_inv.start i).fits)) (Ok i)
    (λ e is. let z : ◌≡◌ {A = ℕ} 0 1 = cc in absurd (omega arith)) (subst P (sym right) c.in_ok-link.ensures.outcome)
