use Rattle.std.proofs.Common.{◌≡◌, ◌≢◌, ℕ, ◌/◌, ◌%◌, ◌*◌, ◌<◌, List, [], ◌∷◌, ◌++◌, get_or, length, All, ap, subst, arith}
use Rattle.std.specs.Simd.{first_chunks}
use Rattle.std.proofs.lemmas.Grind.{common_steps}
use Rattle.compare.specs.Hex.{digit, spelled}
use Rattle.compare.proofs.Spelling.{SpelledByPairs, spelled_by_pairs, spelled_by_pairs-more, NoByteAt, no_bytes_at, length-spelled}
use Rattle.compare.proofs.digits.parse_hex.Goals as goal

pub returns-in_default : goal.returns-in_default
returns-in_default c = λ bytes all is. let two = length-spelled bytes in let same = ap length is in grind (arith, common_steps, two, same)

pub returns-in_err-byte : goal.returns-in_err-byte
returns-in_err-byte c =
    let pairs : c.as_chunks.result.0.now ≡ first_chunks 2 (length c.args.text.now / 2) c.args.text.now = grind (arith, common_steps) in
    let half : length c.args.text.now ≡ 2 * (length c.args.text.now / 2) = grind (arith, common_steps) in
    let within : c.loop-high.high-index < length c.args.text.now / 2 = grind (arith, common_steps) in
    let at : NoByteAt c.as_chunks.result.0.now c.loop-high.high-index = grind (arith, common_steps) in
    let none : (bytes : List ℕ) → All (λ b. b < 256) bytes → spelled bytes ≢ c.args.text.now = λ bytes. no_bytes_at (length c.args.text.now / 2) c.args.text.now bytes c.loop-high.high-index half within (subst (λ (p : List (List ℕ)). NoByteAt p c.loop-high.high-index) pairs at) in
    grind (arith, common_steps, none)

pub loop-high-preserved : goal.loop-high-preserved
loop-high-preserved c =
    let items : c.push.new.self.items ≡ c.loop-high.bytes.items ++ c.in_ok-byte.byte ∷ [] = grind (arith, common_steps) in
    let high : get_or (get_or c.as_chunks.result.0.now c.loop-high.high-index []) 0 0 ≡ digit (c.in_ok-byte.byte / 16) = grind (arith, common_steps) in
    let low : get_or (get_or c.as_chunks.result.0.now c.loop-high.high-index []) 1 0 ≡ digit (c.in_ok-byte.byte % 16) = grind (arith, common_steps) in
    rw items (spelled_by_pairs-more c.loop-high.high-index c.as_chunks.result.0.now c.loop-high.bytes.items c.in_ok-byte.byte c.loop-high.invariant high low)

pub returns : goal.returns
returns c =
    let pairs : c.as_chunks.result.0.now ≡ first_chunks 2 (length c.args.text.now / 2) c.args.text.now = grind (arith, common_steps) in
    let half : length c.args.text.now ≡ 2 * (length c.args.text.now / 2) = grind (arith, common_steps) in
    let count : c.loop-high.high-index ≡ length c.args.text.now / 2 = grind (arith, common_steps) in
    let by = subst (λ (p : List (List ℕ)). SpelledByPairs c.loop-high.high-index p c.loop-high.bytes.items) pairs c.loop-high.invariant in
    spelled_by_pairs (length c.args.text.now / 2) c.args.text.now c.loop-high.bytes.items half (subst (λ (n : ℕ). SpelledByPairs n (first_chunks 2 (length c.args.text.now / 2) c.args.text.now) c.loop-high.bytes.items) count by)
