-- The padding of a text and its end. Assumes nothing.
use Rattle.std.proofs.Common.{◌≡◌, ℕ, zero, suc, ◌+◌, ◌-◌, ◌%◌, ◌<◌, ◌≤◌, Bool, true, false, cond, ◌&&◌, eqb, ◌⊎◌, List, [], ◌∷◌, ◌++◌, length, get_or, take, drop, replicate, Some, None, Option, sym, refl, ap, ◌∙◌, subst, ap₂, inl, inr, ⊎_elim, mod-eq_of_lt, arith, lit<, length-append, ◌≢◌}
use native.Mathlib.Nat.{add-mod_left}
use lib.ListN.{length-replicate}
use Rattle.block.specs.Bytes.{Bytes, Block}
use Rattle.block.proofs.Parts.{bytes_append, bytes_zeros}
use Rattle.std.proofs.lemmas.List.{length-take, length-take-le, take-append-drop, get_or-drop, drop_more, length-drop}
use Rattle.std.proofs.lemmas.Bool.{and_left, and_right, and_parts, ne_eqb, eqb-true}
use Rattle.std.specs.List.{All}
use Rattle.std.proofs.lemmas.List.Elements.{All-head, All-tail, All-from_get_or}
use Rattle.modes.specs.Padding.{padding, Unpadded, all_zero, or_here, text_end, TextEnd, padded_from}

pub length_padding : (w : ℕ) (text : List ℕ) → 0 < w → length (padding w text) ≤ w
length_padding w text some = simp length-replicate (omega arith)

pub bytes_padding : (w : ℕ) (text : List ℕ) → Bytes (padding w text)
bytes_padding w text = (lit< tt, bytes_zeros (w - 1 - length text % w))

-- a short text and its padding are a block
pub block_padded : (w : ℕ) (h : List ℕ) → length h < w → Bytes h → Block w (h ++ padding w h)
block_padded w h l b =
    let m : length h % w ≡ length h = mod-eq_of_lt l in
    record {
      size = rw m (simp (length-append, length-replicate) (omega arith));
      bytes = bytes_append h (padding w h) b (bytes_padding w h);
    }

-- a whole block in front leaves the padding as it is
pub padding_front : (w : ℕ) (b text : List ℕ) → length b ≡ w → padding w (b ++ text) ≡ padding w text
padding_front w b text e =
    let l : length (b ++ text) % w ≡ length text % w = rw (length-append b text, e) (add-mod_left w (length text)) in
    ap (λ r. 0x80 ∷ replicate (w - 1 - r) 0) l

-- ---- the end of a text

zeros_end : (n : ℕ) → (text_end (replicate n 0) ≡ None) × (all_zero (replicate n 0) ≡ true)
unfolding text_end
zeros_end zero = (refl, refl)
zeros_end (suc n) = (ap (λ o. or_here o (eqb 0 0x80 && all_zero (replicate n 0))) (zeros_end n).0, (zeros_end n).1)

not_zero : (front : List ℕ) (b n : ℕ) → (b ≡ 0 → ⊥) → all_zero (front ++ (b ∷ replicate n 0)) ≡ false
not_zero [] b n h = and_left (eqb b 0) (all_zero (replicate n 0)) (ne_eqb b 0 h)
not_zero (x ∷ front) b n h = and_right (eqb x 0) (all_zero (front ++ (b ∷ replicate n 0))) (not_zero front b n h)

past : (x : ℕ) (t : Bool) (i : ℕ) (zero? : Bool) → zero? ≡ false → or_here (cond t (Some i) None) (eqb x 0x80 && zero?) ≡ cond t (Some (suc i)) None
past x true i zero? e = refl
past x false i zero? e = ap (λ b. cond b (Some 0) None) (and_right (eqb x 0x80) zero? e)

-- a block whose last byte other than 00 is b
pub end_at : (front : List ℕ) (b n : ℕ) → (b ≡ 0 → ⊥) → text_end (front ++ (b ∷ replicate n 0)) ≡ cond (eqb b 0x80) (Some (length front)) None
unfolding text_end
end_at [] b n h = ap₂ (λ o z. or_here o (eqb b 0x80 && z)) (zeros_end n).0 (zeros_end n).1 ∙ ap (λ t. cond t (Some 0) None) (and_true (eqb b 0x80))
  where
    and_true : (t : Bool) → (t && true) ≡ t
    and_true true = refl
    and_true false = refl
end_at (x ∷ front) b n h =
    let rest = front ++ (b ∷ replicate n 0) in
    ap (λ o. or_here o (eqb x 0x80 && all_zero rest)) (end_at front b n h) ∙ past x (eqb b 0x80) (length front) (all_zero rest) (not_zero front b n h)

pub end_of : (block text : List ℕ) → Unpadded block text → text_end block ≡ Some (length text)
end_of block text u = ap text_end u.is ∙ end_at text 0x80 u.zeros (λ e. omega arith)

zeros_are : (xs : List ℕ) → all_zero xs ≡ true → xs ≡ replicate (length xs) 0
zeros_are [] e = refl
zeros_are (x ∷ xs) e = let h = and_parts (eqb x 0) (all_zero xs) e in ap₂ ◌∷◌ (eqb-true x 0 h.0) (zeros_are xs h.1)

found : (x : ℕ) (xs : List ℕ) (o : Option ℕ) (here : Bool) → text_end xs ≡ o → here ≡ (eqb x 0x80 && all_zero xs) → TextEnd o xs
    → TextEnd (or_here o here) (x ∷ xs) ⊎ (or_here o here ≡ None)
found x xs (Some i) here e h r = inl (record { zeros = r.zeros; is = ap (λ l. x ∷ l) r.is })
found x xs None true e h r =
    let t = and_parts (eqb x 0x80) (all_zero xs) (sym h) in
    inl (record { zeros = length xs; is = ap₂ ◌∷◌ (eqb-true x 0x80 t.0) (zeros_are xs t.1) })
found x xs None false e h r = inr refl

no_text : (block : List ℕ) → text_end block ≡ None → TextEnd (text_end block) block
no_text block e = subst (λ o. TextEnd o block) (sym e) (λ text u. let s = end_of block text u in let z : ◌≡◌ {A = ℕ} 0 1 = cc in omega arith)

pub text_end_law : (block : List ℕ) → TextEnd (text_end block) block
unfolding text_end
text_end_law [] = no_text [] refl
text_end_law (x ∷ xs) =
    ⊎_elim (λ r. r) (λ e. no_text (x ∷ xs) e) (found x xs (text_end xs) (eqb x 0x80 && all_zero xs) refl refl (text_end_law xs))

pub answered : (block : List ℕ) (r : Option ℕ) → r ≡ text_end block → TextEnd r block
answered block r e = subst (λ o. TextEnd o block) (sym e) (text_end_law block)

-- ---- the search for it

zeros_by : (xs : List ℕ) → All (λ b. b ≡ 0) xs → xs ≡ replicate (length xs) 0
zeros_by [] h = refl
zeros_by (x ∷ xs) h = ap₂ ◌∷◌ (All-head (λ b. b ≡ 0) x xs h) (zeros_by xs (All-tail (λ b. b ≡ 0) x xs h))

-- zeros alone have no end
pub end_none : (block : List ℕ) → All (λ b. b ≡ 0) block → text_end block ≡ None
end_none block h = ap text_end (zeros_by block h) ∙ (zeros_end (length block)).0

-- what the last byte other than 00 tells
pub end_last : (block : List ℕ) (i : ℕ) → i < length block → get_or block i 0 ≢ 0 → ((k : ℕ) → i + 1 ≤ k → k < length block → get_or block k 0 ≡ 0)
    → text_end block ≡ cond (eqb (get_or block i 0) 0x80) (Some i) None
end_last block i l h after =
    let rest = drop (i + 1) block in
    let read : (k : ℕ) → k < length rest → get_or rest k 0 ≡ 0 = λ k low. get_or-drop (i + 1) block k 0 ∙ after (i + 1 + k) (omega arith) (omega (arith, length-drop (i + 1) block)) in
    let zeros : rest ≡ replicate (length rest) 0 = zeros_by rest (All-from_get_or (λ b. b ≡ 0) rest 0 read) in
    let is : block ≡ take i block ++ (get_or block i 0 ∷ replicate (length rest) 0) =
    sym (take-append-drop i block) ∙ ap (λ y. take i block ++ y) (drop_more block i 0 l ∙ ap (λ y. get_or block i 0 ∷ y) zeros) in
    ap text_end is ∙ end_at (take i block) (get_or block i 0) (length rest) h ∙ ap (λ n. cond (eqb (get_or block i 0) 0x80) (Some n) None) (length-take-le i block (omega arith))

pub length_padded_from : (n : ℕ) (b : List ℕ) → length (padded_from n b) ≡ length b
length_padded_from n b = simp (length-take, length-append, length-replicate) (omega arith)

-- ---- a text and its padding, in two parts

-- a text with its padding, cut in two with no less than the padding in the second part
pub record Last (text pad front rest : List ℕ) : Type 0 where
  pub last : List ℕ
  pub is : rest ≡ last ++ pad
  pub whole : front ++ last ≡ text

pub last_of : (text pad front rest : List ℕ) → text ++ pad ≡ front ++ rest → length pad ≤ length rest → Last text pad front rest
last_of text pad [] rest e l = record { last = text; is = sym e; whole = refl }
last_of [] pad (y ∷ front) rest e l = absurd (omega (arith, simp length-append at (ap length e)))
last_of (x ∷ text) pad (y ∷ front) rest e l =
    let t : text ++ pad ≡ front ++ rest = cc in
    let r = last_of text pad front rest t l in
    let q : y ≡ x = cc in
    record { last = r.last; is = r.is; whole = ap₂ ◌∷◌ q r.whole }
