use Rattle.std.proofs.Common.{◌≡◌, ℕ, ◌<◌, ◌-◌, ◌/◌, [], length, drop, slice_index_or, ap, ◌∙◌, ap₂, arith}
use Rattle.std.proofs.lemmas.List.{get_or-take, length-take, length-drop}
use Rattle.aes.specs.Steps.{add_round_key}
use Rattle.aes.specs.Cipher.{round_key, round, rounds, last_round, encipher}
use Rattle.aes.specs.CipherLemmas.{rounds_none, rounds_more}
use Rattle.aes.proofs.Chunks.{chunk_is, later_chunk}
use Rattle.aes.proofs.round.run_rounds.Goals as goal

pub loop-key-init : goal.loop-key-init
loop-key-init c = rounds_none c.args.schedule.now c.add_round_key.new.block

pub loop-key-preserved : goal.loop-key-preserved
loop-key-preserved c =
    let s = c.args.schedule.now in
    let keys = c.as_chunks.result.0.now in
    let i = c.loop-key.key-index in
    let long = length-take (length keys - 1 - 1) (drop 1 keys) in
    let key = get_or-take (length keys - 1 - 1) (drop 1 keys) i [] (omega (arith, c.loop-key-test.true)) ∙ ap (λ k. slice_index_or (drop 1 k) i []) c.as_chunks.ensures.front
    ∙ later_chunk 16 (length s / 16) s i [] (omega (arith, c.loop-key-test.true, c.as_chunks.ensures.front_len)) in
    c.round.ensures ∙ ap₂ round key c.loop-key.invariant ∙ rounds_more i s c.add_round_key.new.block

pub returns : goal.returns
unfolding encipher
returns c =
    let s = c.args.schedule.now in
    let keys = c.as_chunks.result.0.now in
    let n = length s / 16 in
    let long = length-take (length keys - 1 - 1) (drop 1 keys) in
    let rest = length-drop 1 keys in
    let key : (i : ℕ) → i < n → slice_index_or keys i [] ≡ round_key i s = λ i h. ap (λ k. slice_index_or k i []) c.as_chunks.ensures.front ∙ chunk_is 16 n s i [] h in
    let last : length keys - 1 ≡ n - 1 = omega (arith, c.as_chunks.ensures.front_len) in
    let done : c.loop-key.key-index ≡ n - 1 - 1 = omega (arith, c.loop-key-test.false, c.loop-key.auto.key-index-end, c.as_chunks.ensures.front_len) in
    let started = c.add_round_key.ensures ∙ ap (add_round_key c.args.block.now) (key 0 (omega (arith, c.requires))) in
    c.last_round.ensures
    ∙ ap₂ last_round (ap (λ i. slice_index_or keys i []) last ∙ key (n - 1) (omega (arith, c.requires))) (c.loop-key.invariant ∙ ap₂ (λ i b. rounds i s b) done started)
