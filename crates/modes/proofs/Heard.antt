-- A receiving link gives the text that its bytes are led back to, or its end is refused and there is none. Assumes nothing.
use Rattle.std.proofs.Common.{◌≡◌, ℕ, zero, suc, ◌-◌, ◌%◌, ◌<◌, ◌≤◌, Bool, true, false, not, eqb, List, [], ◌∷◌, ◌++◌, length, take, drop, replicate, is_some, Some, None, Option, sym, refl, ap, ◌∙◌, subst, ap₂, inl, inr, true≢false, append_assoc, append-nil, mod-eq_of_lt, arith, length-append, length-drop}
use lib.ListN.{length-replicate}
use Rattle.std.proofs.lemmas.List.{take-append-drop, length-take-le}
use Rattle.std.proofs.lemmas.Bool.{cases_lt, eqb-true}
use Rattle.block.specs.Bytes.{Bytes, Block}
use Rattle.block.proofs.Parts.{bytes_take, bytes_drop}
use Rattle.modes.specs.Padding.{padding, Unpadded, text_end, TextEnd}
use Rattle.modes.specs.Modes.{Cipher, plain_block, onward, ends, goes, Streams, cfb, ofb, Cut, none, short, whole, Plaintext}
use Rattle.modes.specs.Machine.{state, opened, after, given, after_pieces, given_pieces, last_text, before, closing, ragged, bare}
use Rattle.modes.specs.Laws.{Deciphers, Judged, ReceivesBytes}
use Rattle.modes.specs.declared.Mode.{Mode}
use Rattle.modes.specs.declared.Mode.TheVariants.{Cbc, Cfb, Ofb}
use Rattle.modes.specs.declared.Direction.TheVariants.{Receive}
use Rattle.modes.proofs.Joining.{length_part}
use Rattle.modes.proofs.Paddings.{text_end_law}
use Rattle.modes.proofs.Pieces.{pieces_join, after_append, given_append}
use Rattle.modes.proofs.Blocks.{hold, stream_given, stream_after}
use Rattle.modes.proofs.Sent.{cut_one, padded_front, padded_is}
use Rattle.modes.proofs.Received.{plain_is, driven, received}

-- a whole block in front of bytes that are led back to a text
front : (m : Mode) (k : Cipher) (v c bytes text : List ℕ) → length c ≡ k.width → length (plain_block m k v c) ≡ k.width
    → Plaintext m k (onward m k v c) bytes text → Plaintext m k v (c ++ bytes) (plain_block m k v c ++ text)
front m k v c bytes text l lp r =
    let p = plain_block m k v c in
    record {
      plain = p ∷ r.plain;
      cipher = c ∷ r.cipher;
      text_cut = subst (λ t. Cut m k.width t (p ∷ r.plain)) (sym (padded_front m k.width p text lp)) (whole p lp r.text_cut);
      bytes_cut = whole c l r.bytes_cut;
      chain = goes refl r.chain;
    }

-- ---- CFB and OFB: any bytes are led back to a text

-- less than a block
short_text : {m : Mode} → Streams m → (k : Cipher) (v b : List ℕ) → length b < k.width → Plaintext m k v b (given m Receive k (opened v) b)
short_text {m} st k v [] l =
    record { plain = []; cipher = []; text_cut = subst (λ t. Cut m k.width t []) (sym (padded_is st k.width [])) none; bytes_cut = none; chain = ends }
short_text {m} st k v (x ∷ b) l =
    let g = given m Receive k (opened v) (x ∷ b) in
    let e : g ≡ plain_block m k v (x ∷ b) = stream_given st Receive k v (x ∷ b) (omega arith) ∙ sym (plain_is st k v (x ∷ b)) in
    let n : length g ≡ length (x ∷ b) = ap length (e ∙ plain_is st k v (x ∷ b)) ∙ length_part (x ∷ b) (k.enc v) in
    record {
      plain = g ∷ [];
      cipher = (x ∷ b) ∷ [];
      text_cut = subst (λ t. Cut m k.width t (g ∷ [])) (sym (padded_is st k.width g)) (short st g (omega arith) (omega arith));
      bytes_cut = short st (x ∷ b) (omega arith) l;
      chain = goes e ends;
    }

-- a block and what follows it
stream_more : {m : Mode} → Streams m → (k : Cipher) → 0 < k.width → (v b rest : List ℕ) → length b ≡ k.width
    → Plaintext m k (onward m k v b) rest (given m Receive k (opened (onward m k v b)) rest) → Plaintext m k v (b ++ rest) (given m Receive k (opened v) (b ++ rest))
stream_more {m} st k some v b rest l r =
    let is = plain_is st k v b in
    let gives : given m Receive k (opened v) (b ++ rest) ≡ plain_block m k v b ++ given m Receive k (opened (onward m k v b)) rest =
    given_append m Receive k (opened v) b rest
    ∙ ap₂ ◌++◌ (stream_given st Receive k v b (omega arith) ∙ sym is) (ap (λ q. given m Receive k q rest) (stream_after st Receive k v b some l)) in
    subst (Plaintext m k v (b ++ rest)) (sym gives) (front m k v b rest _ l (ap length is ∙ length_part b (k.enc v) ∙ l) r)

-- by the number of bytes left
stream_text : {m : Mode} → Streams m → (k : Cipher) → 0 < k.width → (n : ℕ) (bytes v : List ℕ) → length bytes ≤ n → Plaintext m k v bytes (given m Receive k (opened v) bytes)
stream_text st k some zero bytes v h = short_text st k v bytes (omega (arith, some))
stream_text {m} st k some (suc n) bytes v h =
    elim (cases_lt (length bytes) k.width) [
      | inl l ↦ short_text st k v bytes l
      | inr l ↦
          let b = take k.width bytes in
          let rest = drop k.width bytes in
          let i = stream_text st k some n rest (onward m k v b) (simp length-drop (omega (arith, some))) in
          subst (λ t. Plaintext m k v t (given m Receive k (opened v) t)) (take-append-drop k.width bytes) (stream_more st k some v b rest (length-take-le k.width bytes l) i)
    ]

-- ---- CBC: whole blocks are led back to a text where the last one's text ends

-- a block that is a text and its padding
tail_padded : (w : ℕ) (p text : List ℕ) → length p ≡ w → Unpadded p text → text ++ padding w text ≡ p
tail_padded w p text l u =
    let s = simp (length-append, length-replicate) at (ap length u.is) in
    let m : length text % w ≡ length text = mod-eq_of_lt (omega (arith, s)) in
    let z : w - 1 - length text % w ≡ u.zeros = rw m (omega (arith, s)) in
    ap (λ r. text ++ (0x80 ∷ replicate r 0)) z ∙ sym u.is

-- what a link that holds the block c has given after t, with the last block's text, is what c and t are led back to
abbrev Led : Cipher → List ℕ → List ℕ → List ℕ → ℕ → Type 0
Led k v c t i =
    length (after Cbc Receive k (state v c) t).held ≡ k.width → text_end (last_text k (after Cbc Receive k (state v c) t)) ≡ Some i
    → Plaintext Cbc k v (c ++ t) (given Cbc Receive k (state v c) t ++ take i (last_text k (after Cbc Receive k (state v c) t)))

module _ (k : Cipher) (some : 0 < k.width) (de : Deciphers k) where
  text_size : (v c : List ℕ) → Block k.width c → length (plain_block Cbc k v c) ≡ k.width
  text_size v c bc = length_part (k.dec c) v ∙ (de c bc).size

  led_last : (v c : List ℕ) (i : ℕ) → Block k.width c → Led k v c [] i
  led_last v c i bc h e =
      let p = plain_block Cbc k v c in
      let lp = text_size v c bc in
      let u : Unpadded p (take i p) = subst (λ o. TextEnd o p) e (text_end_law p) in
      record {
        plain = p ∷ [];
        cipher = c ∷ [];
        text_cut = subst (λ t. Cut Cbc k.width t (p ∷ [])) (sym (tail_padded k.width p (take i p) lp u)) (cut_one Cbc k.width p lp);
        bytes_cut = whole c bc.size none;
        chain = goes refl ends;
      }

  -- less than a block more: no whole block is held
  led_short : (v c : List ℕ) (x : ℕ) (b : List ℕ) (i : ℕ) → Block k.width c → length (x ∷ b) < k.width → Led k v c (x ∷ b) i
  led_short v c x b i bc l h e =
      let d = driven k v c (x ∷ b) bc.size (omega arith) (omega arith) in
      absurd (omega (arith, l, h, ap (λ q. length q.held) d.0))

  led_more : (v c b rest : List ℕ) (i : ℕ) → Block k.width c → length b ≡ k.width → Led k c b rest i → Led k v c (b ++ rest) i
  led_more v c b rest i bc lb r h e =
      let d = driven k v c b bc.size (omega (arith, some)) (omega arith) in
      let s = after Cbc Receive k (state c b) rest in
      let g = given Cbc Receive k (state c b) rest in
      let p = plain_block Cbc k v c in
      let holds : after Cbc Receive k (state v c) (b ++ rest) ≡ s = after_append Cbc Receive k (state v c) b rest ∙ ap (λ q. after Cbc Receive k q rest) d.0 in
      let gives : given Cbc Receive k (state v c) (b ++ rest) ≡ p ++ g =
      given_append Cbc Receive k (state v c) b rest ∙ ap₂ (λ o q. o ++ given Cbc Receive k q rest) d.1 d.0 in
      let t = r (ap (λ q. length q.held) (sym holds) ∙ h) (ap (λ q. text_end (last_text k q)) (sym holds) ∙ e) in
      subst (Plaintext Cbc k v (c ++ (b ++ rest)))
      (sym (append_assoc p g (take i (last_text k s))) ∙ ap₂ (λ o q. o ++ take i (last_text k q)) (sym gives) (sym holds))
      (front Cbc k v c (b ++ rest) (g ++ take i (last_text k s)) bc.size (text_size v c bc) t)

  -- by the number of bytes left
  led : (n : ℕ) (v c t : List ℕ) (i : ℕ) → length t ≤ n → Block k.width c → Bytes t → Led k v c t i
  led n v c [] i l bc bt = led_last v c i bc
  led zero v c (x ∷ t) i l bc bt = absurd (omega (arith, l))
  led (suc n) v c (x ∷ t) i l bc bt =
      elim (cases_lt (length (x ∷ t)) k.width) [
        | inl s ↦ led_short v c x t i bc s
        | inr s ↦
            let b = take k.width (x ∷ t) in
            let rest = drop k.width (x ∷ t) in
            let lb : length b ≡ k.width = length-take-le k.width (x ∷ t) s in
            let lr : length rest ≤ n = simp length-drop (omega (arith, some)) in
            let r = led n c b rest i lr record { size = lb; bytes = bytes_take k.width (x ∷ t) bt } (bytes_drop k.width (x ∷ t) bt) in
            subst (λ q. Led k v c q i) (take-append-drop k.width (x ∷ t)) (led_more v c b rest i bc lb r)
      ]

  -- the same from the open on
  abbrev FromOpen : List ℕ → List ℕ → ℕ → Type 0
  FromOpen start bytes i =
      length (after Cbc Receive k (opened start) bytes).held ≡ k.width → text_end (last_text k (after Cbc Receive k (opened start) bytes)) ≡ Some i
      → Plaintext Cbc k start bytes (given Cbc Receive k (opened start) bytes ++ take i (last_text k (after Cbc Receive k (opened start) bytes)))

  open_short : (start bytes : List ℕ) (i : ℕ) → length bytes < k.width → FromOpen start bytes i
  open_short start bytes i l h e =
      let d = hold k start [] bytes (omega arith) in
      absurd (omega (arith, l, h, ap (λ q. length q.held) d.holds))

  open_more : (start b rest : List ℕ) (i : ℕ) → length b ≡ k.width → Led k start b rest i → FromOpen start (b ++ rest) i
  open_more start b rest i lb r h e =
      let d = hold k start [] b (omega arith) in
      let holds : after Cbc Receive k (opened start) (b ++ rest) ≡ after Cbc Receive k (state start b) rest =
      after_append Cbc Receive k (opened start) b rest ∙ ap (λ q. after Cbc Receive k q rest) d.holds in
      let gives : given Cbc Receive k (opened start) (b ++ rest) ≡ given Cbc Receive k (state start b) rest =
      given_append Cbc Receive k (opened start) b rest ∙ ap₂ (λ o q. o ++ given Cbc Receive k q rest) d.gives d.holds in
      let t = r (ap (λ q. length q.held) (sym holds) ∙ h) (ap (λ q. text_end (last_text k q)) (sym holds) ∙ e) in
      subst (Plaintext Cbc k start (b ++ rest)) (ap₂ (λ o q. o ++ take i (last_text k q)) (sym gives) (sym holds)) t

  from_open : (start bytes : List ℕ) (i : ℕ) → Bytes bytes → FromOpen start bytes i
  from_open start bytes i bb =
      elim (cases_lt (length bytes) k.width) [
        | inl l ↦ open_short start bytes i l
        | inr l ↦
            let b = take k.width bytes in
            let rest = drop k.width bytes in
            let lb : length b ≡ k.width = length-take-le k.width bytes l in
            let r = led (length rest) start b rest i (omega arith) record { size = lb; bytes = bytes_take k.width bytes bb } (bytes_drop k.width bytes bb) in
            subst (λ q. FromOpen start q i) (take-append-drop k.width bytes) (open_more start b rest i lb r)
      ]

  cbc_text : (start bytes : List ℕ) (o : Option ℕ) → Bytes bytes → length (after Cbc Receive k (opened start) bytes).held ≡ k.width
      → text_end (last_text k (after Cbc Receive k (opened start) bytes)) ≡ o → not (is_some o) ≡ false
      → Plaintext Cbc k start bytes (given Cbc Receive k (opened start) bytes ++ before o (last_text k (after Cbc Receive k (opened start) bytes)))
  cbc_text start bytes None bb h e b = absurd (true≢false b)
  cbc_text start bytes (Some i) bb h e b = from_open start bytes i bb h e

not_false : (b : Bool) → not b ≡ false → b ≡ true
not_false true e = refl
not_false false e = absurd (true≢false e)

-- ---- every mode

-- what is given, where the end is not refused
gave : (m : Mode) (k : Cipher) (start bytes : List ℕ) → 0 < k.width → (m ≡ Cbc → Deciphers k) → Bytes bytes
    → ragged m Receive k (after m Receive k (opened start) bytes) ≡ false → bare m Receive k (after m Receive k (opened start) bytes) ≡ false
    → Plaintext m k start bytes (given m Receive k (opened start) bytes ++ closing m Receive k (after m Receive k (opened start) bytes))
gave Cbc k start bytes some de bb r b =
    let s = after Cbc Receive k (opened start) bytes in
    cbc_text k some (de refl) start bytes (text_end (last_text k s)) bb (eqb-true (length s.held) k.width (not_false (eqb (length s.held) k.width) r)) refl b
gave Cfb k start bytes some de bb r b =
    subst (Plaintext Cfb k start bytes) (sym (append-nil (given Cfb Receive k (opened start) bytes))) (stream_text cfb k some (length bytes) bytes start (omega arith))
gave Ofb k start bytes some de bb r b =
    subst (Plaintext Ofb k start bytes) (sym (append-nil (given Ofb Receive k (opened start) bytes))) (stream_text ofb k some (length bytes) bytes start (omega arith))

only : (b : Bool) {X : Type 0} → (b ≡ false → X) → (X → ⊥) → b ≡ true
only true x n = refl
only false x n = absurd (n (x refl))

judged : (m : Mode) (k : Cipher) (start bytes : List ℕ) → 0 < k.width → (m ≡ Cbc → Deciphers k) → Bytes bytes
    → Judged m k start bytes (after m Receive k (opened start) bytes) (given m Receive k (opened start) bytes)
judged m k start bytes some de bb =
    let s = after m Receive k (opened start) bytes in
    record {
      accepted = gave m k start bytes some de bb;
      ragged_none = λ e text p. true≢false (sym e ∙ (received m k start text bytes some p).whole);
      bare_none = λ r e text p. true≢false (sym e ∙ (received m k start text bytes some p).marked);
      none_bare = λ r n. only (bare m Receive k s) (gave m k start bytes some de bb r) (λ p. n _ p);
    }

pub receives_bytes : ReceivesBytes
receives_bytes m k start bytes pieces some de bb is =
    let j = pieces_join m Receive k (opened start) pieces in
    let s : after m Receive k (opened start) bytes ≡ after_pieces m Receive k (opened start) pieces = ap (after m Receive k (opened start)) (sym is) ∙ sym j.holds in
    let g : given m Receive k (opened start) bytes ≡ given_pieces m Receive k (opened start) pieces = ap (given m Receive k (opened start)) (sym is) ∙ sym j.gives in
    subst (λ q. Judged m k start bytes q (given_pieces m Receive k (opened start) pieces)) s
    (subst (λ q. Judged m k start bytes (after m Receive k (opened start) bytes) q) g (judged m k start bytes some de bb))
