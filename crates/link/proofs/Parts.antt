-- Lists that the code writes in place. Assumes nothing.
use Rattle.std.proofs.Common.{◌≡◌, ℕ, ◌+◌, ◌-◌, List, [], ◌++◌, length, take, drop, replicate, sym, ap, ◌∙◌, ap₂, append_assoc, append-nil, arith, length-append}
use borrow.Rule.Slice.PartMut.{put_mid, post_of}
use Rattle.std.proofs.lemmas.List.{take_at, drop_at, drop-drop, drop_all, length-drop, drop-replicate}
use Rattle.link.specs.Calls.{overwritten}

-- one place of the output further, after g the bytes d
pub overwritten_more : (out g d : List ℕ) (at k : ℕ) → at ≡ length g → at + k ≡ length (overwritten out g)
    → put_mid at k (overwritten out g) (overwritten (drop at (overwritten out g)) d) ≡ overwritten out (g ++ d)
overwritten_more out g d at k e long =
    let rest = drop (length g) out in
    let front : take at (g ++ rest) ≡ g = take_at g rest at (sym e) in
    let back : drop at (g ++ rest) ≡ rest = drop_at g rest at (sym e) in
    let none : drop k (drop at (g ++ rest)) ≡ [] = drop_all k (drop at (g ++ rest)) (simp length-drop (omega arith)) in
    ap₂ (λ x y. x ++ ((d ++ drop (length d) y) ++ drop k (drop at (g ++ rest)))) front back
    ∙ ap (λ x. g ++ ((d ++ drop (length d) rest) ++ x)) none
    ∙ ap (λ x. g ++ x) (append-nil (d ++ drop (length d) rest) ∙ ap (λ x. d ++ x) (drop-drop (length d) (length g) out))
    ∙ ap (λ n. g ++ (d ++ drop n out)) (sym (length-append g d))
    ∙ sym (append_assoc g d (drop (length (g ++ d)) out))

-- a start block at the front of 32 zeros
pub start_chain : (start u : List ℕ) (w : ℕ) → u ≡ start → u ++ post_of 0 (w - 0) (replicate 32 0) ≡ start ++ replicate (32 - w) 0
start_chain start u w e =
    let z : w - 0 ≡ w = omega arith in
    ap (λ y. y ++ drop (w - 0) (replicate 32 0)) e ∙ ap (λ y. start ++ y) (drop-replicate (w - 0) 32 0 ∙ ap (λ k. replicate (32 - k) 0) z)
