-- CBC, CFB and OFB over any block cipher: laws on the blocks P_i of a text and C_i of its ciphertext. Assumes nothing.
-- C_0 is the start block; in OFB S_0 is, and S_i = E(S_(i-1)).
use Rattle.std.specs.Prelude.{◌≡◌, ℕ, ◌<◌, List, [], ◌∷◌, ◌++◌, length}
use Rattle.modes.specs.Join.{join, part}
use Rattle.modes.specs.Padding.{padding}
use Rattle.modes.specs.declared.Mode.{Mode}
use Rattle.modes.specs.declared.Mode.TheVariants.{Cbc, Cfb, Ofb}

-- a block cipher under one key: E and D on blocks of so many bytes
pub record Cipher : Type 0 where
  pub width : ℕ
  pub enc : List ℕ → List ℕ
  pub dec : List ℕ → List ℕ

-- C_i from P_i; v is the block before, C_(i-1), in OFB S_(i-1)
abbrev pub cipher_block : Mode → Cipher → List ℕ → List ℕ → List ℕ
cipher_block Cbc k v p = k.enc (join p v)
cipher_block Cfb k v p = join p (k.enc v)
cipher_block Ofb k v p = join p (k.enc v)

-- P_i from C_i; CFB and OFB are received with E
abbrev pub plain_block : Mode → Cipher → List ℕ → List ℕ → List ℕ
plain_block Cbc k v c = part (k.dec c) v
plain_block Cfb k v c = part c (k.enc v)
plain_block Ofb k v c = part c (k.enc v)

-- the block before the next one: C_i, in OFB S_i
abbrev pub onward : Mode → Cipher → List ℕ → List ℕ → List ℕ
onward Cbc k v c = c
onward Cfb k v c = c
onward Ofb k v c = k.enc v

-- the law of a mode for one block: of sending, and of receiving
abbrev pub Sends : Mode → Cipher → List ℕ → List ℕ → List ℕ → Type 0
Sends m k v p c = c ≡ cipher_block m k v p

abbrev pub Receives : Mode → Cipher → List ℕ → List ℕ → List ℕ → Type 0
Receives m k v p c = p ≡ plain_block m k v c

-- the P_i and the C_i, one after another from v on, each by the law
pub data Chain (m : Mode) (k : Cipher) (Law : List ℕ → List ℕ → List ℕ → Type 0) : List ℕ → List (List ℕ) → List (List ℕ) → Type 0 where
  ends : {v : List ℕ} → Chain m k Law v [] []
  goes : {v p c : List ℕ} {ps cs : List (List ℕ)} → Law v p c → Chain m k Law (onward m k v c) ps cs → Chain m k Law v (p ∷ ps) (c ∷ cs)

-- the modes that give each byte as it comes
pub data Streams : Mode → Type 0 where
  cfb : Streams Cfb
  ofb : Streams Ofb

-- bytes cut in blocks of w; in CFB and OFB the last may be shorter
pub data Cut (m : Mode) (w : ℕ) : List ℕ → List (List ℕ) → Type 0 where
  none : Cut m w [] []
  short : Streams m → (b : List ℕ) → 0 < length b → length b < w → Cut m w b (b ∷ [])
  whole : (b : List ℕ) {rest : List ℕ} {bs : List (List ℕ)} → length b ≡ w → Cut m w rest bs → Cut m w (b ++ rest) (b ∷ bs)

-- what is cut in blocks: in CBC the text with its padding
abbrev pub padded : Mode → ℕ → List ℕ → List ℕ
padded Cbc w text = text ++ padding w text
padded Cfb w text = text
padded Ofb w text = text

-- a text and bytes whose blocks are the P_i and the C_i of a chain from the start block on
pub record Coded (Law : Mode → Cipher → List ℕ → List ℕ → List ℕ → Type 0) (m : Mode) (k : Cipher) (start text bytes : List ℕ) : Type 0 where
  pub plain : List (List ℕ)
  pub cipher : List (List ℕ)
  pub text_cut : Cut m k.width (padded m k.width text) plain
  pub bytes_cut : Cut m k.width bytes cipher
  pub chain : Chain m k (Law m k) start plain cipher

-- bytes are the mode's ciphertext of text
abbrev pub Ciphertext : Mode → Cipher → List ℕ → List ℕ → List ℕ → Type 0
Ciphertext = Coded Sends

-- text is what the mode receives of bytes
abbrev pub Plaintext : Mode → Cipher → List ℕ → List ℕ → List ℕ → Type 0
Plaintext m k start bytes text = Coded Receives m k start text bytes
