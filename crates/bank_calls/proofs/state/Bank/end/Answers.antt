use Rattle.std.proofs.Common.{◌≡◌, ℕ, length, Ok, Err, sym, refl, subst, rules}
use Rattle.bank.specs.Calls.{Ends}
use Rattle.refusal.specs.declared.Refusal.TheVariants.{Scratch}
use Rattle.bank_calls.specs.Seen.{books}
use Rattle.bank_calls.specs.Calls.{gave, lengths, lengths_with, Shuts}
use Rattle.bank_calls.proofs.Closes.{end_unscratched}
use Rattle.bank_calls.proofs.Adds.{adds_end}
use Rattle.bank_calls.proofs.Guarded.{wiped, unchanged, refused_keeps}
use Rattle.bank_calls.proofs.state.Bank.end.Goals as goal

pub returns-in_default-clause-past : goal.returns-in_default-clause-past
returns-in_default-clause-past g c =
    let b = c.args.self.now in
    let m = g.K.Kit.meaning b.kit in
    let memory = c.args.memory.now in
    let out = c.args.out.now in
    let i = c.args.ticket.link in
    let f = lengths c.args.scratch.now memory out in
    let d : length c.args.scratch.now ≡ 1536 → ⊥ = search rules in
    adds_end m b b memory i f refl (Err Scratch) (λ e is. unchanged b b) (end_unscratched b b memory i m out out f d (unchanged b b))

pub returns-in-Ok-clause-outcome : goal.returns-in-Ok-clause-outcome
returns-in-Ok-clause-outcome g c =
    let b = c.args.self.now in
    let b' = c.end_with.new.self in
    let m = g.K.Kit.meaning b.kit in
    let memory = c.args.memory.now in
    let right : length c.args.scratch.now ≡ 1536 = search rules in
    let P : ℕ → Type 0 = λ k. Ends m (books b memory) (lengths_with k memory c.args.out.now) c.args.ticket.link (gave (Ok c.in-Ok.given) c.end_with.new.out) (books b' memory) in
    subst P (sym right) c.in-Ok.ensures.outcome

pub returns-in-Ok-clause-scratch : goal.returns-in-Ok-clause-scratch
returns-in-Ok-clause-scratch g c = wiped c.args.scratch.now c.end_with.new.scratch (search rules) c.in-Ok.ensures.scratch

pub returns-in-Ok-clause-past : goal.returns-in-Ok-clause-past
returns-in-Ok-clause-past g c =
    let b = c.args.self.now in
    let b' = c.end_with.new.self in
    let m = g.K.Kit.meaning b.kit in
    let memory = c.args.memory.now in
    let out = c.args.out.now in
    let out' = c.end_with.new.out in
    let i = c.args.ticket.link in
    let r = Ok c.in-Ok.given in
    let right : length c.args.scratch.now ≡ 1536 = search rules in
    let P : ℕ → Type 0 = λ k. Ends m (books b memory) (lengths_with k memory out) i (gave r out') (books b' memory) in
    adds_end m b b' memory i (lengths c.args.scratch.now memory out) refl (gave r out') (refused_keeps b b' (λ _. Shuts b i b') r out' c.in-Ok.ensures.link) (subst P (sym right) c.in-Ok.ensures.outcome)

pub returns-in-Err-clause-outcome : goal.returns-in-Err-clause-outcome
returns-in-Err-clause-outcome g c =
    let b = c.args.self.now in
    let b' = c.end_with.new.self in
    let m = g.K.Kit.meaning b.kit in
    let memory = c.args.memory.now in
    let right : length c.args.scratch.now ≡ 1536 = search rules in
    let P : ℕ → Type 0 = λ k. Ends m (books b memory) (lengths_with k memory c.args.out.now) c.args.ticket.link (gave (Err c.in-Err.refusal) c.end_with.new.out) (books b' memory) in
    subst P (sym right) c.in-Err.ensures.outcome

pub returns-in-Err-clause-scratch : goal.returns-in-Err-clause-scratch
returns-in-Err-clause-scratch g c = wiped c.args.scratch.now c.end_with.new.scratch (search rules) c.in-Err.ensures.scratch

pub returns-in-Err-clause-past : goal.returns-in-Err-clause-past
returns-in-Err-clause-past g c =
    let b = c.args.self.now in
    let b' = c.end_with.new.self in
    let m = g.K.Kit.meaning b.kit in
    let memory = c.args.memory.now in
    let out = c.args.out.now in
    let out' = c.end_with.new.out in
    let i = c.args.ticket.link in
    let r = Err c.in-Err.refusal in
    let right : length c.args.scratch.now ≡ 1536 = search rules in
    let P : ℕ → Type 0 = λ k. Ends m (books b memory) (lengths_with k memory out) i (gave r out') (books b' memory) in
    adds_end m b b' memory i (lengths c.args.scratch.now memory out) refl (gave r out') (refused_keeps b b' (λ _. Shuts b i b') r out' c.in-Err.ensures.link) (subst P (sym right) c.in-Err.ensures.outcome)
