use Rattle.std.proofs.Common.{◌≡◌, ◌+◌, ◌-◌, ◌*◌, ◌/◌, length, take, sym, refl, ap, ◌∙◌, arith, rules}
use Rattle.std.proofs.lemmas.List.{length-take-le}
use Rattle.std.proofs.lemmas.Slice.{take-put_mid}
use Rattle.aes.specs.Keys.{next, words}
use Rattle.aes.specs.KeysLemmas.{words_none, words_more}
use Rattle.aes.proofs.schedule.KeyWords.extend.Goals as goal

pub loop-i-init : goal.loop-i-init
loop-i-init c =
    let nk = c.args.self.nk in
    let key = take (nk * 4) c.args.out.now in
    let e : 0 ≡ nk - nk = omega arith in
    (refl, sym (words_none nk key) ∙ ap (λ n. words nk n key) e)

pub loop-i-preserved : goal.loop-i-preserved
loop-i-preserved c =
    let nk = c.args.self.nk in
    let i = c.loop-i.i in
    let out = c.loop-i.out in
    let w = c.copy_from_slice.new.self in
    let lw : length w ≡ 4 = search rules in
    let long = length-take-le (i * 4) out (omega (arith, c.loop-i.invariant.0, c.loop-i-test.true, c.requires.words)) in
    let e : length (take (i * 4) out) / 4 ≡ i = omega arith in
    let is : w ≡ next nk i (take (i * 4) out) = c.copy_from_slice.ensures.after ∙ c.next_word-word.ensures ∙ ap (λ n. next nk n (take (i * 4) out)) e in (
      search rules,
      take-put_mid (i * 4) (i * 4 + 4 - i * 4) out w ((i + 1) * 4) (omega arith) (omega arith)
          ∙ words_more nk i (take (nk * 4) c.args.out.now) (take (i * 4) out) w c.loop-i.auto.i c.loop-i.invariant.1 is,
    )
