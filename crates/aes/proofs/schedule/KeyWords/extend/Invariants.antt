use Rattle.std.proofs.Common.{◌≡◌, ◌-◌, ◌*◌, length, take}
use Rattle.aes.specs.Keys.{words}
use Rattle.aes.proofs.schedule.KeyWords.extend.Given as goal

abbrev pub invariant-loop-i : goal.invariant-loop-i
invariant-loop-i l = (length l.out ≡ length l.initial.out) × (take (l.i * 4) l.out ≡ words l.self.nk (l.i - l.self.nk) (take (l.self.nk * 4) l.initial.out))
