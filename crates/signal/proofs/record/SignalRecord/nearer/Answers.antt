use Rattle.std.proofs.Common.{◌≡◌, ℕ, nat_lt, rules, arith}
use Rattle.std.proofs.lemmas.Fn.{always_returns_same}
use Rattle.std.specs.Ordering.{is_lt, nat_cmp}
use Rattle.signal.proofs.record.SignalRecord.nearer.Goals as goal

below : (a b : ℕ) → is_lt (nat_cmp a b) ≡ nat_lt a b
below a b = grind arith

pub returns : goal.returns
returns c = rw below at (c.min_by_key.ensures (λ r. r.distance) (always_returns_same _ _ _ (λ a r f called. search rules)))
