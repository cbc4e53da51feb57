use Rattle.std.proofs.Common.{◌≡◌, ◌+◌, ◌-◌, ◌*◌, ◌≤◌, length, sym, ap, ◌∙◌, arith}
use Rattle.block.specs.Bytes.{xor}
use Rattle.block.specs.Words.{each_word}
use Rattle.block.proofs.Xor.{length_xor}
use Rattle.block.proofs.Words.{word_end, word_more, each_word_none}
use Rattle.mkv.proofs.XWords.{left_more, left_none, x_words_by}
use Rattle.mkv.proofs.round.x_words.Goals as goal

pub loop-word-preserved : goal.loop-word-preserved
loop-word-preserved g c =
    let h = c.in-Some.ensures.steps in
    let k = c.loop-word.invariant in
    let b = c.args.block.now in
    let more = left_more g.row.T b c.loop-word.all c.loop-word.word-iterator.rest.now c.in-Some.word.now c.next.new.self.rest.now c.requires.size k.1 h.1.0 (h.1.1 ∙ k.0) in
    (h.0 ∙ k.0, rw c.xor_whole.ensures more)

pub loop-i-init : goal.loop-i-init
loop-i-init g c = each_word_none g.row.T (λ w. xor w c.loop-word.all) c.args.block.now

pub loop-i-preserved : goal.loop-i-preserved
loop-i-preserved g c =
    let i = c.loop-i.i in
    let t = g.row.T in
    let all = c.loop-word.all in
    let h : i * t + t ≤ 4 * t = word_end i t c.loop-i-test.true in
    word_more t (λ w. xor w all) (λ v l. let la : length all ≡ t = omega arith in length_xor v all (l ∙ sym la) ∙ l) i (i * t + t - i * t) c.args.block.now c.loop-i.block c.xor_whole-in-loop-i.new.block
    (omega arith) (omega arith) c.loop-i.invariant c.xor_whole-in-loop-i.ensures

pub returns : goal.returns
returns g c =
    let t = g.row.T in
    let all = c.loop-word.all in
    let e : c.loop-i.i ≡ 4 = omega arith in
    let sum = left_none t c.args.block.now all c.loop-word.word-iterator.rest.now c.loop-word.invariant.1 (let h = c.in-None.ensures.steps in omega (arith, c.loop-word.invariant.0, h.1)) in
    c.loop-i.invariant ∙ ap (λ n. each_word n t (λ w. xor w all) c.args.block.now) e ∙ x_words_by t c.args.block.now all c.requires.width sum
