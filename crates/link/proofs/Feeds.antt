-- A piece, byte after byte. Assumes nothing.
use Rattle.std.proofs.Common.{◌≡◌, ℕ, ◌+◌, ◌<◌, ◌≤◌, List, [], ◌∷◌, ◌++◌, length, get_or, take, drop, sym, refl, ap, ◌∙◌, append-nil, arith, length-append, take-append-drop}
use borrow.Rule.Slice.PartMut.{put_mid}
use Rattle.std.proofs.lemmas.List.{take_more, length-drop}
use Rattle.kit.specs.Meaning.{Meaning}
use Rattle.modes.specs.Machine.{fed, due, given}
use Rattle.modes.proofs.Pieces.{after_append, given_append}
use Rattle.link.specs.declared.Link.{Link}
use Rattle.link.specs.Record.{view, instrument, Kept}
use Rattle.link.specs.Calls.{overwritten, link_fed, link_due, link_after, link_given, Took, Fed}
use Rattle.link.proofs.Parts.{overwritten_more}

-- a link of the same mode, direction, key and width
module _ (m : Meaning) (s : List ℕ) (l l₁ : Link) (q : Kept l l₁) where
  due_kept : (x : ℕ) → link_due m s l₁ x ≡ due l.mode l.direction (instrument m s l) (view l₁) x
  due_kept x = rw (q.mode, q.direction, q.key, q.width) refl

  fed_kept : (x : ℕ) → link_fed m s l₁ x ≡ fed l.mode l.direction (instrument m s l) (view l₁) x
  fed_kept x = rw (q.mode, q.direction, q.key, q.width) refl

  kept_trans : (l₂ : Link) → Kept l₁ l₂ → Kept l l₂
  kept_trans l₂ r =
      record { stays = r.stays ∙ q.stays; mode = r.mode ∙ q.mode; direction = r.direction ∙ q.direction; key = r.key ∙ q.key; width = r.width ∙ q.width }

module _ (m : Meaning) (s : List ℕ) (l : Link) (piece out : List ℕ) (i at : ℕ) (l₁ : Link) (out₁ : List ℕ) (f : Fed m s l (take i piece) out at l₁ out₁) where
  -- the bytes given by the front of a piece are not more than those of the whole
  front_count : (n : ℕ) → length (link_given m s l (take n piece)) ≤ length (link_given m s l piece)
  front_count n =
      let a : link_given m s l piece ≡ link_given m s l (take n piece) ++ given l.mode l.direction (instrument m s l) (link_after m s l (take n piece)) (drop n piece) =
      ap (link_given m s l) (sym (take-append-drop n piece)) ∙ given_append l.mode l.direction (instrument m s l) (view l) (take n piece) (drop n piece) in
      omega (arith, simp length-append at (ap length a))

  pub at_within : length (link_given m s l piece) ≤ length out → length out₁ ≡ length out → at ≤ length out₁
  at_within h e = omega (arith, f.count, front_count i)

  module _ (below : i < length piece) where
    abbrev x : ℕ
    x = get_or piece i 0

    next : take (i + 1) piece ≡ take i piece ++ (x ∷ [])
    next = take_more piece i 0 below

    due_is : link_due m s l₁ x ≡ due l.mode l.direction (instrument m s l) (link_after m s l (take i piece)) x
    due_is = due_kept m s l l₁ f.kept x ∙ ap (λ z. due l.mode l.direction (instrument m s l) z x) f.state

    given_next : link_given m s l (take (i + 1) piece) ≡ link_given m s l (take i piece) ++ link_due m s l₁ x
    given_next =
        ap (link_given m s l) next ∙ given_append l.mode l.direction (instrument m s l) (view l) (take i piece) (x ∷ [])
        ∙ ap (λ z. link_given m s l (take i piece) ++ z) (append-nil _ ∙ sym due_is)

    due_count_is : at + length (link_due m s l₁ x) ≡ length (link_given m s l (take (i + 1) piece))
    due_count_is = omega (arith, f.count, simp length-append at (ap length given_next))

    pub room : length (link_given m s l piece) ≤ length out → length out₁ ≡ length out → (part : List ℕ) → part ≡ drop at out₁ → length (link_due m s l₁ x) ≤ length part
    room h e part p = omega (arith, due_count_is, front_count (i + 1), ap length p, length-drop at out₁)

    pub fed_more : (n k : ℕ) (l₂ : Link) (part part' : List ℕ) → part ≡ drop at out₁ → at + k ≡ length out₁ → Took m s l₁ x part n l₂ part'
        → Fed m s l (take (i + 1) piece) out (at + n) l₂ (put_mid at k out₁ part')
    fed_more n k l₂ part part' p long t =
        let g = link_given m s l (take i piece) in
        let d = link_due m s l₁ x in
        record {
          count = omega (arith, t.count, due_count_is);
          output =
              ap (put_mid at k out₁) (t.output ∙ ap (λ z. overwritten z d) p)
              ∙ ap (λ z. put_mid at k z (overwritten (drop at z) d)) f.output
              ∙ overwritten_more out g d at k f.count (long ∙ ap length f.output)
              ∙ ap (overwritten out) (sym given_next);
          state =
              t.state ∙ fed_kept m s l l₁ f.kept x ∙ ap (λ z. fed l.mode l.direction (instrument m s l) z x) f.state
              ∙ sym (after_append l.mode l.direction (instrument m s l) (view l) (take i piece) (x ∷ [])) ∙ ap (link_after m s l) (sym next);
          fits = t.fits;
          kept = kept_trans m s l l₁ f.kept l₂ t.kept;
        }
