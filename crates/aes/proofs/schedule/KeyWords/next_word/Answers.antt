use Rattle.std.proofs.Common.{◌≡◌, ℕ, ◌-◌, ◌/◌, ◌<◌, [], length, slice_index_or, ap, ◌∙◌, ap₂, arith}
use Rattle.block.specs.Bytes.{xor}
use Rattle.block.specs.Words.{word}
use Rattle.block.proofs.Xor.{commutes}
use Rattle.aes.specs.Keys.{changed, next}
use Rattle.aes.proofs.Chunks.{chunk_is}
use Rattle.aes.proofs.schedule.KeyWords.next_word.Goals as goal

pub returns : goal.returns
unfolding next
returns c =
    let nk = c.args.self.nk in
    let keys = c.args.keys.now in
    let chunks = c.as_chunks.result.0.now in
    let n = length keys / 4 in
    let long : length chunks ≡ n = c.as_chunks.ensures.front_len in
    let some = c.requires in
    let key : (i : ℕ) → i < n → slice_index_or chunks i [] ≡ word 4 i keys = λ i h. ap (λ k. slice_index_or k i []) c.as_chunks.ensures.front ∙ chunk_is 4 n keys i [] h in
    let before = ap (λ i. slice_index_or chunks (i - nk) []) long ∙ key (n - nk) (omega arith) in
    let last = ap (λ i. slice_index_or chunks (i - 1) []) long ∙ key (n - 1) (omega arith) in
    c.xor_whole.ensures ∙ commutes _ _ ∙ ap₂ xor before (c.changed_word-word.ensures ∙ ap₂ (changed nk) long last)
