use Rattle.std.proofs.Common.{◌≡◌, ℕ, get_or, take, drop, ◌∙◌, w8, w16, w32, Fits, rules}
use Rattle.std.specs.Int.{from_be_bytes}
use Rattle.signal.specs.Coded.{coded}
use Rattle.signal.proofs.Coded.{coded_decoded}
use Rattle.signal.proofs.record.SignalRecord.from_bytes.Goals as goal

pub returns-clause-back : goal.returns-clause-back
returns-clause-back c =
    let bs = c.args.bytes in
    let small : (i : ℕ) → Fits w8 (get_or bs i 0) = λ i. search rules in
    let beacon : c.from_be_bytes.result ≡ from_be_bytes w32 (take 4 bs) = search rules in
    let distance : c.from_be_bytes-2.result ≡ from_be_bytes w16 (take 2 (drop 4 bs)) = search rules in
    let second : c.from_be_bytes-3.result ≡ from_be_bytes w32 (drop 7 bs) = search rules in
    (λ i. coded (record { beacon = beacon i; distance = distance i; strength = get_or bs 6 0; second = second i })) ∙ coded_decoded bs (search rules) (λ i. (small i).fits)
