use Rattle.std.proofs.Common.{◌≡◌, ℕ, length, Err, Result, sym, refl, ap, ◌∙◌, subst, rules}
use Rattle.std.proofs.lemmas.Result.{err_from_is_err_and}
use Rattle.block.proofs.Parts.{bytes_from}
use Rattle.bank.specs.Calls.{Puts}
use Rattle.bank.specs.Past.{puts}
use Rattle.refusal.specs.declared.Refusal.{Refusal}
use Rattle.refusal.specs.declared.Refusal.TheVariants.{Scratch}
use Rattle.bank_calls.specs.Seen.{books}
use Rattle.bank_calls.specs.Calls.{gave, lengths, lengths_with, Steps}
use Rattle.bank_calls.specs.Pasts.{Adds}
use Rattle.bank_calls.proofs.Puts.{put_unscratched}
use Rattle.bank_calls.proofs.Adds.{adds_put}
use Rattle.bank_calls.proofs.Guarded.{wiped, unchanged, refused_keeps}
use Rattle.bank_calls.proofs.state.Bank.put.Goals as goal

pub returns-in_err-bytes-clause-past : goal.returns-in_err-bytes-clause-past
returns-in_err-bytes-clause-past g c =
    let b = c.args.self.now in
    let m = g.K.Kit.meaning b.kit in
    let memory = c.args.memory.now in
    let piece = c.args.piece.now in
    let out = c.args.out.now in
    let f = lengths c.args.scratch.now memory out in
    let d : length c.args.scratch.now ≡ 1536 → ⊥ = search rules in
    let p = err_from_is_err_and c.from_residual.result c.from_residual.ensures.1 in
    let s : c.in_err-bytes.field-0.0 ≡ Scratch = search rules in
    let P : Result ℕ Refusal → Type 0 = λ z. Adds m b memory (puts c.args.link piece (gave z out)) b memory in
    subst P (sym (p.1 ∙ ap Err (p.2 ∙ s)))
    (adds_put m b b memory c.args.link f refl (Err Scratch) (λ e is. unchanged b b) piece (bytes_from piece (λ i. (c.type_inv.piece i).fits))
    (put_unscratched m b b memory c.args.link piece out out f d (unchanged b b)))

pub returns-clause-scratch : goal.returns-clause-scratch
returns-clause-scratch g c = wiped c.args.scratch.now c.put_with.new.scratch (search rules) c.put_with.ensures.scratch

pub returns-clause-past : goal.returns-clause-past
returns-clause-past g c =
    let b = c.args.self.now in
    let b' = c.put_with.new.self in
    let m = g.K.Kit.meaning b.kit in
    let memory = c.args.memory.now in
    let piece = c.args.piece.now in
    let out = c.args.out.now in
    let out' = c.put_with.new.out in
    let r = c.put_with.result in
    let right : length c.args.scratch.now ≡ 1536 = search rules in
    let P : ℕ → Type 0 = λ k. Puts m (books b memory) (lengths_with k memory out) c.args.link piece (gave r out') (books b' memory) in
    adds_put m b b' memory c.args.link (lengths c.args.scratch.now memory out) refl (gave r out') (refused_keeps b b' (λ _. Steps b c.args.link b') r out' c.put_with.ensures.link) piece (bytes_from piece (λ i. (c.type_inv.piece i).fits))
    (subst P (sym right) c.put_with.ensures.outcome)
