-- From open to end a sending link gives the mode's ciphertext of what it took. Assumes nothing.
use Rattle.std.proofs.Common.{◌≡◌, ℕ, zero, suc, ◌<◌, ◌≤◌, List, [], ◌∷◌, ◌++◌, length, take, drop, sym, refl, ap, ◌∙◌, subst, ap₂, inl, inr, append_assoc, append-nil, arith, length-drop}
use Rattle.std.proofs.lemmas.List.{take-append-drop, length-take-le}
use Rattle.std.proofs.lemmas.Bool.{cases_lt}
use Rattle.block.specs.Bytes.{Bytes, Block}
use Rattle.block.proofs.Parts.{bytes_take, bytes_drop}
use Rattle.modes.specs.Join.{join}
use Rattle.modes.specs.Padding.{padding}
use Rattle.modes.specs.Modes.{Cipher, cipher_block, onward, ends, goes, Streams, cfb, ofb, Cut, none, short, whole, padded, Ciphertext}
use Rattle.modes.specs.Machine.{State, state, opened, after, given, closing}
use Rattle.modes.specs.Laws.{Enciphers, sent, SendsCiphertext}
use Rattle.modes.specs.declared.Mode.{Mode}
use Rattle.modes.specs.declared.Mode.TheVariants.{Cbc, Cfb, Ofb}
use Rattle.modes.specs.declared.Direction.TheVariants.{Send}
use Rattle.modes.proofs.Joining.{block_join, length_join, join_none}
use Rattle.modes.proofs.Paddings.{block_padded, padding_front}
use Rattle.modes.proofs.Pieces.{after_append, given_append}
use Rattle.modes.proofs.Blocks.{is_full, not_full, fills, stream_given, stream_after}

-- ---- CFB and OFB alike

cipher_is : {m : Mode} → Streams m → (k : Cipher) (v p : List ℕ) → cipher_block m k v p ≡ join p (k.enc v)
cipher_is cfb k v p = refl
cipher_is ofb k v p = refl

pub padded_is : {m : Mode} → Streams m → (w : ℕ) (text : List ℕ) → padded m w text ≡ text
padded_is cfb w text = refl
padded_is ofb w text = refl

closing_is : {m : Mode} → Streams m → (k : Cipher) (s : State) → closing m Send k s ≡ []
closing_is cfb k s = refl
closing_is ofb k s = refl

-- ---- cuts

pub cut_one : (m : Mode) (w : ℕ) (b : List ℕ) → length b ≡ w → Cut m w b (b ∷ [])
cut_one m w b l = subst (λ t. Cut m w t (b ∷ [])) (append-nil b) (whole b l none)

pub padded_front : (m : Mode) (w : ℕ) (b text : List ℕ) → length b ≡ w → padded m w (b ++ text) ≡ b ++ padded m w text
padded_front Cbc w b text l = append_assoc b text (padding w (b ++ text)) ∙ ap (λ q. b ++ (text ++ q)) (padding_front w b text l)
padded_front Cfb w b text l = refl
padded_front Ofb w b text l = refl

-- a whole block in front of a ciphertext
front : (m : Mode) (k : Cipher) (v p text bytes : List ℕ) → length p ≡ k.width → length (cipher_block m k v p) ≡ k.width
    → Ciphertext m k (onward m k v (cipher_block m k v p)) text bytes → Ciphertext m k v (p ++ text) (cipher_block m k v p ++ bytes)
front m k v p text bytes l lc c =
    record {
      plain = p ∷ c.plain;
      cipher = cipher_block m k v p ∷ c.cipher;
      text_cut = subst (λ t. Cut m k.width t (p ∷ c.plain)) (sym (padded_front m k.width p text l)) (whole p l c.text_cut);
      bytes_cut = whole (cipher_block m k v p) lc c.bytes_cut;
      chain = goes refl c.chain;
    }

-- a text of less than a block, in CFB and OFB
short_text : {m : Mode} → Streams m → (k : Cipher) (v p c : List ℕ) → length p < k.width → c ≡ cipher_block m k v p → Ciphertext m k v p c
short_text {m} st k v [] c l e =
    let z : c ≡ [] = e ∙ cipher_is st k v [] ∙ join_none (k.enc v) in
    subst (Ciphertext m k v []) (sym z)
    record { plain = []; cipher = []; text_cut = subst (λ t. Cut m k.width t []) (sym (padded_is st k.width [])) none; bytes_cut = none; chain = ends }
short_text {m} st k v (x ∷ p) c l e =
    let n : length c ≡ length (x ∷ p) = ap length (e ∙ cipher_is st k v (x ∷ p)) ∙ length_join (x ∷ p) (k.enc v) in
    record {
      plain = (x ∷ p) ∷ [];
      cipher = c ∷ [];
      text_cut = subst (λ t. Cut m k.width t ((x ∷ p) ∷ [])) (sym (padded_is st k.width (x ∷ p))) (short st (x ∷ p) (omega arith) l);
      bytes_cut = short st c (omega arith) (omega arith);
      chain = goes e ends;
    }

-- what a sender holds and gives after one whole block
record BlockSent (m : Mode) (k : Cipher) (v p : List ℕ) : Type 0 where
  holds : after m Send k (opened v) p ≡ opened (onward m k v (cipher_block m k v p))
  gives : given m Send k (opened v) p ≡ cipher_block m k v p

module _ (k : Cipher) (e : Enciphers k) where
  pub block_cipher : (m : Mode) (v p : List ℕ) → Block k.width v → Block k.width p → Block k.width (cipher_block m k v p)
  block_cipher Cbc v p bv bp = e.blocks (join p v) (block_join k.width p v bp bv.bytes)
  block_cipher Cfb v p bv bp = block_join k.width p (k.enc v) bp (e.blocks v bv).bytes
  block_cipher Ofb v p bv bp = block_join k.width p (k.enc v) bp (e.blocks v bv).bytes

  pub block_onward : (m : Mode) (v c : List ℕ) → Block k.width v → Block k.width c → Block k.width (onward m k v c)
  block_onward Cbc v c bv bc = bc
  block_onward Cfb v c bv bc = bc
  block_onward Ofb v c bv bc = e.blocks v bv

  stream_block : {m : Mode} → Streams m → (v p : List ℕ) → length p ≡ k.width → BlockSent m k v p
  stream_block {m} st v p l =
      let is = sym (cipher_is st k v p) in
      record { holds = stream_after st Send k v p e.some l ∙ ap (λ c. opened (onward m k v c)) is; gives = stream_given st Send k v p (omega arith) ∙ is }

  block_sent : (m : Mode) (v p : List ℕ) → length p ≡ k.width → BlockSent m k v p
  block_sent Cbc v p l =
      let f = fills k v [] p e.some (omega arith) in
      let n = is_full k p l in
      record { holds = f.holds ∙ rw n refl; gives = f.gives ∙ rw n refl }
  block_sent Cfb v p l = stream_block cfb v p l
  block_sent Ofb v p l = stream_block ofb v p l

  stream_rest : {m : Mode} → Streams m → (v p : List ℕ) → length p < k.width → Ciphertext m k v p (sent m k v p)
  stream_rest {m} st v p l =
      short_text st k v p (sent m k v p) l
      (ap₂ ◌++◌ (stream_given st Send k v p (omega arith) ∙ sym (cipher_is st k v p)) (closing_is st k (after m Send k (opened v) p)) ∙ append-nil (cipher_block m k v p))

  -- a text of less than a block
  rest_sent : (m : Mode) (v p : List ℕ) → length p < k.width → Block k.width v → Bytes p → Ciphertext m k v p (sent m k v p)
  rest_sent Cbc v p l bv bp =
      let f = fills k v [] p e.some (omega arith) in
      let n = not_full k p l in
      let b = p ++ padding k.width p in
      let bb = block_padded k.width p l bp in
      let c = cipher_block Cbc k v b in
      let holds : after Cbc Send k (opened v) p ≡ state v p = f.holds ∙ rw n refl in
      let gives : given Cbc Send k (opened v) p ≡ [] = f.gives ∙ rw n refl in
      let is : sent Cbc k v p ≡ c = ap₂ (λ g s. g ++ closing Cbc Send k s) gives holds in
      subst (Ciphertext Cbc k v p) (sym is)
      record {
        plain = b ∷ [];
        cipher = c ∷ [];
        text_cut = cut_one Cbc k.width b bb.size;
        bytes_cut = cut_one Cbc k.width c (block_cipher Cbc v b bv bb).size;
        chain = goes refl ends;
      }
  rest_sent Cfb v p l bv bp = stream_rest cfb v p l
  rest_sent Ofb v p l bv bp = stream_rest ofb v p l

  -- a block and what follows it
  sent_more : (m : Mode) (v p q : List ℕ) → length p ≡ k.width → sent m k v (p ++ q) ≡ cipher_block m k v p ++ sent m k (onward m k v (cipher_block m k v p)) q
  sent_more m v p q l =
      let b = block_sent m v p l in
      let s = opened (onward m k v (cipher_block m k v p)) in
      ap₂ (λ g r. g ++ closing m Send k r)
      (given_append m Send k (opened v) p q ∙ ap₂ (λ g r. g ++ given m Send k r q) b.gives b.holds)
      (after_append m Send k (opened v) p q ∙ ap (λ r. after m Send k r q) b.holds)
      ∙ append_assoc (cipher_block m k v p) (given m Send k s q) (closing m Send k (after m Send k s q))

  -- by the number of bytes left
  sends : (m : Mode) (n : ℕ) (text v : List ℕ) → length text ≤ n → Block k.width v → Bytes text → Ciphertext m k v text (sent m k v text)
  sends m zero text v h bv bt = rest_sent m v text (omega (arith, e.some)) bv bt
  sends m (suc n) text v h bv bt =
      elim (cases_lt (length text) k.width) [
        | inl l ↦ rest_sent m v text l bv bt
        | inr l ↦
            let p = take k.width text in
            let q = drop k.width text in
            let lp : length p ≡ k.width = length-take-le k.width text l in
            let lq : length q ≤ n = simp length-drop (omega (arith, e.some)) in
            let bp : Block k.width p = record { size = lp; bytes = bytes_take k.width text bt } in
            let bc = block_cipher m v p bv bp in
            let i = sends m n q (onward m k v (cipher_block m k v p)) lq (block_onward m v (cipher_block m k v p) bv bc) (bytes_drop k.width text bt) in
            let r : Ciphertext m k v (p ++ q) (sent m k v (p ++ q)) = subst (Ciphertext m k v (p ++ q)) (sym (sent_more m v p q lp)) (front m k v p q _ lp bc.size i) in
            subst (λ t. Ciphertext m k v t (sent m k v t)) (take-append-drop k.width text) r
      ]

pub sends_ciphertext : SendsCiphertext
sends_ciphertext m k start text e bs bt = sends k e m (length text) text start (omega arith) bs bt
