use Rattle.std.proofs.Common.{◌≡◌, ◌<◌, ◌≤◌, length, get_or, take, sym, ap, ◌∙◌, arith}
use lib.Bits.{bit_xor, xor_zero_r}
use Rattle.std.proofs.lemmas.List.{get_or_past, get_or-take, length-take}
use Rattle.block.specs.Bytes.{xor}
use Rattle.block.proofs.Xor.{length_cut, get_or_cut}
use Rattle.block.proofs.Loops.{over_more, over_read, over_all}
use Rattle.block.proofs.xor_into.Goals as goal

pub loop-i-preserved : goal.loop-i-preserved
loop-i-preserved c =
    let xs = c.args.block.now in
    let ys = c.args.by.now in
    let zs = take (length xs) (xor xs ys) in
    let i = c.loop-i.i in
    let n = length-take c.min-shared.result ys in
    let h : i < length xs = omega arith in
    let e : length zs ≡ length xs = length_cut xs ys in
    over_more zs xs c.loop-i.block i _ c.loop-i.invariant h e
    (ap (bit_xor (get_or c.loop-i.block i 0)) (get_or-take c.min-shared.result ys i 0 (omega arith))
    ∙ ap (λ r. bit_xor (get_or r i 0) (get_or ys i 0)) c.loop-i.invariant
    ∙ ap (λ n. bit_xor n (get_or ys i 0)) (over_read zs xs i h e) ∙ sym (get_or_cut xs ys i h))

pub returns : goal.returns
returns c =
    let xs = c.args.block.now in
    let ys = c.args.by.now in
    let zs = take (length xs) (xor xs ys) in
    let n = length-take c.min-shared.result ys in
    c.loop-i.invariant
    ∙ over_all zs xs c.loop-i.i (length_cut xs ys) (λ k h l.
    let past : length ys ≤ k = omega arith in
    sym (get_or_cut xs ys k l ∙ ap (bit_xor (get_or xs k 0)) (get_or_past ys k 0 past) ∙ xor_zero_r (get_or xs k 0)))
