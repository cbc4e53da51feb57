-- Receiving inverts sending: by the laws, and by a link. Assumes nothing.
use Rattle.std.proofs.Common.{◌≡◌, ℕ, ◌<◌, ◌≤◌, not, List, [], ◌∷◌, ◌++◌, length, take, is_some, Some, sym, refl, ap, ◌∙◌, subst, ap₂, append_assoc, append-nil, arith, length-append}
use Rattle.std.proofs.lemmas.List.{take_at}
use Rattle.block.specs.Bytes.{Block}
use Rattle.modes.specs.Join.{join, part}
use Rattle.modes.specs.Padding.{padding, text_end}
use Rattle.modes.specs.Modes.{Cipher, plain_block, Sends, Receives, Chain, ends, goes, Streams, cfb, ofb, Cut, none, short, whole, Plaintext}
use Rattle.modes.specs.Machine.{State, state, opened, after, given, after_pieces, given_pieces, last_text, before}
use Rattle.std.specs.List.{concat}
use Rattle.modes.specs.Laws.{Agrees, Returned, ReceivingInverts, ReceivesPlaintext, ReceivesCiphertext}
use Rattle.modes.specs.declared.Mode.{Mode}
use Rattle.modes.specs.declared.Mode.TheVariants.{Cbc, Cfb, Ofb}
use Rattle.modes.specs.declared.Direction.TheVariants.{Receive}
use Rattle.modes.proofs.Joining.{part_join, block_join}
use Rattle.modes.proofs.Paddings.{length_padding, end_at, last_of}
use Rattle.modes.proofs.Pieces.{pieces_join, after_append, given_append}
use Rattle.modes.proofs.Blocks.{is_full, hold, stream_given, stream_after}
use Rattle.modes.proofs.Cuts.{cut_concat}
use Rattle.modes.proofs.Alike.{coded_as}

-- CBC is none of the modes that give each byte as it comes
not_cbc : {X : Type 0} → Streams Cbc → X
not_cbc st = elim st [ ]

-- ---- the laws: block by block, P_i comes back

module _ (k k' : Cipher) (a : Agrees k k') where
  stream_back : {m : Mode} → Streams m → (v p c : List ℕ) → Block k.width v → Sends m k v p c → Receives m k' v p c
  stream_back cfb v p c bv s = sym (ap₂ part s (a.alike.enc v bv) ∙ part_join p (k.enc v))
  stream_back ofb v p c bv s = sym (ap₂ part s (a.alike.enc v bv) ∙ part_join p (k.enc v))

  block_back : (m : Mode) (v p c : List ℕ) → Block k.width v → Block k.width p → Sends m k v p c → Receives m k' v p c
  block_back Cbc v p c bv bp s =
      sym (ap (λ b. part b v) (ap k'.dec s ∙ a.back (join p v) (block_join k.width p v bp bv.bytes)) ∙ part_join p v)
  block_back Cfb v p c bv bp s = stream_back cfb v p c bv s
  block_back Ofb v p c bv bp s = stream_back ofb v p c bv s

pub receiving_inverts : ReceivingInverts
receiving_inverts m k k' start text bytes e a bs bt c =
    coded_as m k k' e a.alike Receives (λ st v p c. stream_back k k' a st v p c) (block_back k k' a m) start text bytes bs bt c

-- ---- a receiving link, CFB and OFB

pub plain_is : {m : Mode} → Streams m → (k : Cipher) (v c : List ℕ) → plain_block m k v c ≡ part c (k.enc v)
plain_is cfb k v c = refl
plain_is ofb k v c = refl

-- it gives the P_i of the C_i
stream_received : {m : Mode} → Streams m → (k : Cipher) → 0 < k.width → {bytes v : List ℕ} {ps cs : List (List ℕ)} → Cut m k.width bytes cs
    → Chain m k (Receives m k) v ps cs → given m Receive k (opened v) bytes ≡ concat ps
stream_received st k some none ends = refl
stream_received st k some (short q b l g) (goes {v} {p} {c} s ends) =
    stream_given st Receive k v b (omega arith) ∙ sym (plain_is st k v b) ∙ sym s ∙ sym (append-nil p)
stream_received {m} st k some (whole b {rest} l cut) (goes {v} {p} {c} {ps} s ch) =
    given_append m Receive k (opened v) b rest
    ∙ ap₂ ◌++◌ (stream_given st Receive k v b (omega arith) ∙ sym (plain_is st k v b) ∙ sym s)
    (ap (λ q. given m Receive k q rest) (stream_after st Receive k v b some l) ∙ stream_received st k some cut ch)

-- ---- a receiving link, CBC: it holds a whole block, and gives it when the next one comes

record Behind (k : Cipher) (v c t text : List ℕ) : Type 0 where
  held : length (after Cbc Receive k (state v c) t).held ≡ k.width
  last : length (last_text k (after Cbc Receive k (state v c) t)) ≡ k.width
  gives : given Cbc Receive k (state v c) t ++ last_text k (after Cbc Receive k (state v c) t) ≡ plain_block Cbc k v c ++ text

-- the block c is held: bytes of the next block, one or more, drive its text out
pub driven : (k : Cipher) (v c b : List ℕ) → length c ≡ k.width → 0 < length b → length b ≤ k.width
    → (after Cbc Receive k (state v c) b ≡ state c b) × (given Cbc Receive k (state v c) b ≡ plain_block Cbc k v c)
driven k v c [] lc some lb = absurd (omega arith)
driven k v c (x ∷ b) lc some lb =
    let n = is_full k c lc in
    let h = hold k c (x ∷ []) b (omega arith) in
    (rw n h.holds, rw n (ap (λ g. plain_block Cbc k v c ++ g) h.gives ∙ append-nil (plain_block Cbc k v c)))

behind : (k : Cipher) → 0 < k.width → (v c : List ℕ) {t text : List ℕ} {ps cs : List (List ℕ)}
    → length c ≡ k.width → length (plain_block Cbc k v c) ≡ k.width
    → Chain Cbc k (Receives Cbc k) c ps cs → Cut Cbc k.width t cs → Cut Cbc k.width text ps → Behind k v c t text
behind k some v c lc lp ends none none = record { held = lc; last = lp; gives = sym (append-nil (plain_block Cbc k v c)) }
behind k some v c lc lp (goes s ch) (short st b l g) cut = not_cbc st
behind k some v c lc lp (goes s ch) (whole b l cut) (short st p g h) = not_cbc st
behind k some v c lc lp (goes s ch) (whole b {rest} lb cut) (whole p {rest = more} l cut') =
    let d = driven k v c b lc (omega (arith, some)) (omega arith) in
    let i = behind k some c b lb (ap length (sym s) ∙ l) ch cut cut' in
    let holds : after Cbc Receive k (state v c) (b ++ rest) ≡ after Cbc Receive k (state c b) rest =
    after_append Cbc Receive k (state v c) b rest ∙ ap (λ q. after Cbc Receive k q rest) d.0 in
    let gives : given Cbc Receive k (state v c) (b ++ rest) ≡ plain_block Cbc k v c ++ given Cbc Receive k (state c b) rest =
    given_append Cbc Receive k (state v c) b rest ∙ ap₂ (λ g q. g ++ given Cbc Receive k q rest) d.1 d.0 in
    record {
      held = ap (λ q. length q.held) holds ∙ i.held;
      last = ap (λ q. length (last_text k q)) holds ∙ i.last;
      gives = ap₂ (λ g q. g ++ last_text k q) gives holds
          ∙ append_assoc (plain_block Cbc k v c) (given Cbc Receive k (state c b) rest) (last_text k (after Cbc Receive k (state c b) rest))
          ∙ ap (λ g. plain_block Cbc k v c ++ g) (i.gives ∙ ap (λ q. q ++ more) (sym s));
    }

-- a link that holds the last block, with the text and its padding in what it gave and holds
cbc_ends : (k : Cipher) → 0 < k.width → (s : State) (so_far text : List ℕ) → length s.held ≡ k.width → length (last_text k s) ≡ k.width
    → text ++ padding k.width text ≡ so_far ++ last_text k s → Returned Cbc k s so_far text
cbc_ends k some s so_far text lh ll e =
    let l = last_of text (padding k.width text) so_far (last_text k s) e (omega (arith, length_padding k.width text some, ll)) in
    let at : text_end (last_text k s) ≡ Some (length l.last) = ap text_end l.is ∙ end_at l.last 0x80 _ (λ z. omega arith) in
    record {
      whole = ap not (is_full k s.held lh);
      marked = ap (λ o. not (is_some o)) at;
      gave = ap (λ b. so_far ++ b) (ap (λ o. before o (last_text k s)) at ∙ ap (take (length l.last)) l.is ∙ take_at l.last (padding k.width text) (length l.last) refl) ∙ l.whole;
    }

cbc_received : (k : Cipher) → 0 < k.width → (start text : List ℕ) {bytes t : List ℕ} {ps cs : List (List ℕ)} → Chain Cbc k (Receives Cbc k) start ps cs
    → Cut Cbc k.width bytes cs → Cut Cbc k.width t ps → text ++ padding k.width text ≡ t
    → Returned Cbc k (after Cbc Receive k (opened start) bytes) (given Cbc Receive k (opened start) bytes) text
cbc_received k some start text ends none none e = absurd (omega (arith, simp length-append at (ap length e)))
cbc_received k some start text (goes s ch) (short st b l g) cut e = not_cbc st
cbc_received k some start text (goes s ch) (whole b l cut) (short st p g h) e = not_cbc st
cbc_received k some start text (goes s ch) (whole b {rest} lb cut) (whole p {rest = more} l cut') e =
    let h = hold k start [] b (omega arith) in
    let r = behind k some start b lb (ap length (sym s) ∙ l) ch cut cut' in
    let holds : after Cbc Receive k (opened start) (b ++ rest) ≡ after Cbc Receive k (state start b) rest =
    after_append Cbc Receive k (opened start) b rest ∙ ap (λ q. after Cbc Receive k q rest) h.holds in
    let gives : given Cbc Receive k (opened start) (b ++ rest) ≡ given Cbc Receive k (state start b) rest =
    given_append Cbc Receive k (opened start) b rest ∙ ap₂ (λ g q. g ++ given Cbc Receive k q rest) h.gives h.holds in
    let is : text ++ padding k.width text ≡ given Cbc Receive k (state start b) rest ++ last_text k (after Cbc Receive k (state start b) rest) =
    e ∙ ap (λ q. q ++ more) s ∙ sym r.gives in
    rw (holds, gives) (cbc_ends k some (after Cbc Receive k (state start b) rest) (given Cbc Receive k (state start b) rest) text r.held r.last is)

pub received : (m : Mode) (k : Cipher) (start text bytes : List ℕ) → 0 < k.width → Plaintext m k start bytes text
    → Returned m k (after m Receive k (opened start) bytes) (given m Receive k (opened start) bytes) text
received Cbc k start text bytes some c = cbc_received k some start text c.chain c.bytes_cut c.text_cut refl
received Cfb k start text bytes some c =
    record {
      whole = refl;
      marked = refl;
      gave = append-nil (given Cfb Receive k (opened start) bytes) ∙ stream_received cfb k some c.bytes_cut c.chain ∙ sym (cut_concat c.text_cut);
    }
received Ofb k start text bytes some c =
    record {
      whole = refl;
      marked = refl;
      gave = append-nil (given Ofb Receive k (opened start) bytes) ∙ stream_received ofb k some c.bytes_cut c.chain ∙ sym (cut_concat c.text_cut);
    }

pub receives_plaintext : ReceivesPlaintext
receives_plaintext m k start text bytes pieces some c is =
    let j = pieces_join m Receive k (opened start) pieces in
    let r = received m k start text bytes some c in
    let s : after m Receive k (opened start) bytes ≡ after_pieces m Receive k (opened start) pieces = ap (after m Receive k (opened start)) (sym is) ∙ sym j.holds in
    let g : given m Receive k (opened start) bytes ≡ given_pieces m Receive k (opened start) pieces = ap (given m Receive k (opened start)) (sym is) ∙ sym j.gives in
    subst (λ q. Returned m k q (given_pieces m Receive k (opened start) pieces) text) s (subst (λ q. Returned m k (after m Receive k (opened start) bytes) q text) g r)

pub receives_ciphertext : ReceivesCiphertext
receives_ciphertext m k k' start text bytes pieces e a bs bt c is =
    receives_plaintext m k' start text bytes pieces (subst (λ w. 0 < w) a.alike.widths e.some) (receiving_inverts m k k' start text bytes e a bs bt c) is
