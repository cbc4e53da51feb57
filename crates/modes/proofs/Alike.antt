-- What is coded under one cipher is coded, by a law that follows, under one that enciphers alike. Assumes nothing.
use Rattle.std.proofs.Common.{◌≡◌, ℕ, List, [], ◌∷◌, ◌++◌, sym, refl, ap, ◌∙◌, subst}
use Rattle.block.specs.Bytes.{Bytes, Block}
use Rattle.block.proofs.Parts.{bytes_append}
use Rattle.modes.specs.Join.{join}
use Rattle.modes.specs.Padding.{padding}
use Rattle.modes.specs.Modes.{Cipher, onward, Sends, Chain, ends, goes, Streams, cfb, ofb, Cut, none, short, whole, padded, Coded, Ciphertext}
use Rattle.modes.specs.Laws.{Enciphers, Alike, SameCiphertext}
use Rattle.modes.specs.declared.Mode.{Mode}
use Rattle.modes.specs.declared.Mode.TheVariants.{Cbc, Cfb, Ofb}
use Rattle.modes.proofs.Joining.{block_join}
use Rattle.modes.proofs.Paddings.{bytes_padding}
use Rattle.modes.proofs.Sent.{block_cipher, block_onward}

bytes_parts : (xs ys : List ℕ) → Bytes (xs ++ ys) → Bytes xs × Bytes ys
bytes_parts [] ys b = (tt, b)
bytes_parts (x ∷ xs) ys b = let r = bytes_parts xs ys b.1 in ((b.0, r.0), r.1)

bytes_padded : (m : Mode) (w : ℕ) (text : List ℕ) → Bytes text → Bytes (padded m w text)
bytes_padded Cbc w text b = bytes_append text (padding w text) b (bytes_padding w text)
bytes_padded Cfb w text b = b
bytes_padded Ofb w text b = b

onward_alike : (m : Mode) (k k' : Cipher) → Alike k k' → (v c : List ℕ) → Block k.width v → onward m k v c ≡ onward m k' v c
onward_alike Cbc k k' a v c bv = refl
onward_alike Cfb k k' a v c bv = refl
onward_alike Ofb k k' a v c bv = sym (a.enc v bv)

module _ (m : Mode) (k k' : Cipher) (e : Enciphers k) (a : Alike k k') (Law : Mode → Cipher → List ℕ → List ℕ → List ℕ → Type 0)
    (short_law : Streams m → (v p c : List ℕ) → Block k.width v → Sends m k v p c → Law m k' v p c)
    (block_law : (v p c : List ℕ) → Block k.width v → Block k.width p → Sends m k v p c → Law m k' v p c) where
  chain_as : {t v : List ℕ} {ps cs : List (List ℕ)} → Cut m k.width t ps → Bytes t → Block k.width v → Chain m k (Sends m k) v ps cs → Chain m k' (Law m k') v ps cs
  chain_as none bt bv ends = ends
  chain_as (short st b l g) bt bv (goes {v} {p} {c} s ends) = goes (short_law st v b c bv s) ends
  chain_as (whole b {rest} l cut) bt bv (goes {v} {p} {c} {ps} {cs} s ch) =
      let parts = bytes_parts b rest bt in
      let bb : Block k.width b = record { size = l; bytes = parts.0 } in
      let bc : Block k.width c = subst (Block k.width) (sym s) (block_cipher k e m v b bv bb) in
      let i = chain_as cut parts.1 (block_onward k e m v c bv bc) ch in
      goes (block_law v b c bv bb s) (subst (λ x. Chain m k' (Law m k') x ps cs) (onward_alike m k k' a v c bv) i)

  pub coded_as : (start text bytes : List ℕ) → Block k.width start → Bytes text → Ciphertext m k start text bytes → Coded Law m k' start text bytes
  coded_as start text bytes bs bt c =
      record {
        plain = c.plain;
        cipher = c.cipher;
        text_cut = subst (λ w. Cut m w (padded m w text) c.plain) a.widths c.text_cut;
        bytes_cut = subst (λ w. Cut m w bytes c.cipher) a.widths c.bytes_cut;
        chain = chain_as c.text_cut (bytes_padded m k.width text bt) bs c.chain;
      }

module _ (k k' : Cipher) (a : Alike k k') where
  stream_alike : {m : Mode} → Streams m → (v p c : List ℕ) → Block k.width v → Sends m k v p c → Sends m k' v p c
  stream_alike cfb v p c bv s = s ∙ ap (join p) (sym (a.enc v bv))
  stream_alike ofb v p c bv s = s ∙ ap (join p) (sym (a.enc v bv))

  block_alike : (m : Mode) (v p c : List ℕ) → Block k.width v → Block k.width p → Sends m k v p c → Sends m k' v p c
  block_alike Cbc v p c bv bp s = s ∙ sym (a.enc (join p v) (block_join k.width p v bp bv.bytes))
  block_alike Cfb v p c bv bp s = stream_alike cfb v p c bv s
  block_alike Ofb v p c bv bp s = stream_alike ofb v p c bv s

pub same_ciphertext : SameCiphertext
same_ciphertext m k k' start text bytes e a bs bt c =
    coded_as m k k' e a Sends (λ st v p c. stream_alike k k' a st v p c) (block_alike k k' a m) start text bytes bs bt c
