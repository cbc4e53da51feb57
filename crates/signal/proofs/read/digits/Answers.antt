use Rattle.std.proofs.Common.{◌≡◌, ◌+◌, ◌*◌, ◌≤◌, length, mul-le-mul_left, subst, arith, rules}
use Rattle.signal.proofs.Figures.{digit_at, Read, more, Small, small}
use Rattle.signal.proofs.read.digits.Goals as goal

-- with the digit just read
grown : (c : goal.After-from-in-loop-b-2) → Read c.args.base c.args.text.now (c.loop-b.b-index + 1) (c.loop-b.n * c.args.base + c.in_ok-digit.digit)
grown c =
    more c.args.base c.args.text.now c.loop-b.b-index c.loop-b.n c.in_ok-digit.digit c.loop-b.invariant (omega arith)
    (rw c.from.ensures at c.in_ok-digit.ensures.value)

fits : (c : goal.After-from-in-loop-b-2) → Small (c.loop-b.b-index + 1) (c.loop-b.n * c.args.base + c.in_ok-digit.digit)
fits c = small c.args.base c.args.text.now (c.loop-b.b-index + 1) _ (grown c) (omega arith) (omega arith) (omega arith)

whole : (c : goal.After-loop-b) → c.loop-b.b-index ≡ length c.args.text.now → Small (length c.args.text.now) c.loop-b.n
whole c end =
    subst (λ i. Small i c.loop-b.n) end (small c.args.base c.args.text.now c.loop-b.b-index c.loop-b.n c.loop-b.invariant (omega arith) (omega arith) (omega arith))

pub returns-in_err-digit-clause-value : goal.returns-in_err-digit-clause-value
returns-in_err-digit-clause-value c =
    rw c.from_residual.ensures (λ f. c.in_err-digit.ensures.value (rw c.from.ensures (digit_at c.args.base c.args.text.now c.loop-b.b-index f.0.1 (omega arith))))

pub overflow_mul-n : goal.overflow_mul-n
overflow_mul-n c =
    let s = small c.args.base c.args.text.now c.loop-b.b-index c.loop-b.n c.loop-b.invariant (omega arith) (omega arith) (omega arith) in
    let wide : c.loop-b.n * c.args.base ≤ c.loop-b.n * 16 = mul-le-mul_left c.loop-b.n (omega arith) in
    rw c.from-in-loop-b.ensures (search rules)

pub overflow_add-n : goal.overflow_add-n
overflow_add-n c = let s = fits c in rw (c.from-in-loop-b.ensures, c.from-in-loop-b-2.ensures) (search rules)

pub loop-b-preserved : goal.loop-b-preserved
loop-b-preserved c = rw (c.from-in-loop-b.ensures, c.from-in-loop-b-2.ensures) (grown c)

pub returns-clause-by_length : goal.returns-clause-by_length
returns-clause-by_length c = (whole c (omega arith)).by_length

pub returns-clause-bits : goal.returns-clause-bits
returns-clause-bits c = (whole c (omega arith)).bits
