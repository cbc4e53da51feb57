use Rattle.std.proofs.Common.{◌≡◌, ℕ, ◌<◌, ◌+◌, ◌-◌, ◌/◌, [], length, drop, slice_index_or, sym, ap, ◌∙◌, ap₂, arith}
use Rattle.std.proofs.lemmas.List.{length_push}
use Rattle.aes.specs.Steps.{add_round_key}
use Rattle.aes.specs.Cipher.{round_key, inv_round, inv_rounds, inv_last_round, decipher}
use Rattle.aes.specs.CipherLemmas.{inv_rounds_none, inv_rounds_more}
use Rattle.aes.proofs.Chunks.{chunk_is, later_chunk, part_less}
use Rattle.aes.proofs.round.undo_rounds.Goals as goal

pub loop-key-preserved : goal.loop-key-preserved
loop-key-preserved c =
    let s = c.args.schedule.now in
    let keys = c.as_chunks.result.0.now in
    let rest = c.next.new.self.iter.rest.now in
    let more = c.loop-key.key-iterator.iter.rest.now in
    let less = part_less more rest (drop 1 keys) c.in-Some.key.now [] c.in-Some.ensures.steps c.loop-key.invariant.1 in
    let l : length more ≡ length rest + 1 = ap length c.in-Some.ensures.steps ∙ length_push rest c.in-Some.key.now in
    let key = less.1 ∙ ap (λ k. slice_index_or (drop 1 k) (length rest) []) c.as_chunks.ensures.front
    ∙ later_chunk 16 (length s / 16) s (length rest) [] (omega (arith, l, c.loop-key.invariant.0, c.as_chunks.ensures.front_len)) in (
      omega (arith, l, c.loop-key.invariant.0),
      less.0,
      ap (inv_rounds (length rest) s) (c.inv_round.ensures ∙ ap (λ k. inv_round k c.loop-key.block) key) ∙ inv_rounds_more (length rest) s c.loop-key.block
          ∙ ap (λ n. inv_rounds n s c.loop-key.block) (sym l) ∙ c.loop-key.invariant.2,
    )

pub returns : goal.returns
unfolding decipher
returns c =
    let s = c.args.schedule.now in
    let keys = c.as_chunks.result.0.now in
    let n = length s / 16 in
    let key : (i : ℕ) → i < n → slice_index_or keys i [] ≡ round_key i s = λ i h. ap (λ k. slice_index_or k i []) c.as_chunks.ensures.front ∙ chunk_is 16 n s i [] h in
    let last : length keys - 1 ≡ n - 1 = omega (arith, c.as_chunks.ensures.front_len) in
    let started = c.add_round_key.ensures ∙ ap (add_round_key c.args.block.now) (ap (λ i. slice_index_or keys i []) last ∙ key (n - 1) (omega (arith, c.requires))) in
    c.inv_last_round.ensures
    ∙ ap₂ inv_last_round (key 0 (omega (arith, c.requires)))
    (sym (inv_rounds_none (length c.loop-key.key-iterator.iter.rest.now) s c.loop-key.block c.in-None.ensures.steps.0) ∙ c.loop-key.invariant.2 ∙ ap₂ (λ i b. inv_rounds (i - 1) s b) last started)
