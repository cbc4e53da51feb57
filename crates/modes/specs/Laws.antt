-- What holds of links over every cipher, in the words of Modes. Assumes nothing.
-- Of std, `concat`: pieces or blocks joined.
use Rattle.std.specs.Prelude.{◌≡◌, ℕ, ◌<◌, true, false, List, ◌++◌, length}
use Rattle.std.specs.List.{concat}
use Rattle.block.specs.Bytes.{Bytes, Block}
use Rattle.modes.specs.Modes.{Cipher, Ciphertext, Plaintext}
use Rattle.modes.specs.Machine.{State, opened, after, given, after_pieces, given_pieces, closing, ragged, bare, due_count, held_count, uneven, end_count, limit}
use Rattle.modes.specs.declared.Mode.{Mode}
use Rattle.modes.specs.declared.Mode.TheVariants.{Cbc}
use Rattle.modes.specs.declared.Direction.{Direction}
use Rattle.modes.specs.declared.Direction.TheVariants.{Send, Receive}

-- E is a function on blocks
pub record Enciphers (k : Cipher) : Type 0 where
  pub some : 0 < k.width
  pub blocks : (b : List ℕ) → Block k.width b → Block k.width (k.enc b)

-- D is a function on blocks
abbrev pub Deciphers : Cipher → Type 0
Deciphers k = (b : List ℕ) → Block k.width b → Block k.width (k.dec b)

-- two ciphers of one width that encipher every block alike
pub record Alike (k k' : Cipher) : Type 0 where
  pub widths : k.width ≡ k'.width
  pub enc : (b : List ℕ) → Block k.width b → k'.enc b ≡ k.enc b

-- and the second deciphers what the first enciphered
pub record Agrees (k k' : Cipher) : Type 0 where
  pub alike : Alike k k'
  pub back : (b : List ℕ) → Block k.width b → k'.dec (k.enc b) ≡ b

-- ---- pieces: what a link holds and gives depends on the bytes taken alone, however they were cut

pub record Joins (m : Mode) (d : Direction) (k : Cipher) (s : State) (pieces : List (List ℕ)) : Type 0 where
  pub holds : after_pieces m d k s pieces ≡ after m d k s (concat pieces)
  pub gives : given_pieces m d k s pieces ≡ given m d k s (concat pieces)

abbrev pub PiecesJoin : Type 0
PiecesJoin = (m : Mode) (d : Direction) (k : Cipher) (s : State) (pieces : List (List ℕ)) → Joins m d k s pieces

-- ---- a text has one ciphertext, the same under ciphers that encipher alike

abbrev pub OneCiphertext : Type 0
OneCiphertext = (m : Mode) (k : Cipher) (start text bytes bytes' : List ℕ) → 0 < k.width
    → Ciphertext m k start text bytes → Ciphertext m k start text bytes' → bytes ≡ bytes'

abbrev pub SameCiphertext : Type 0
SameCiphertext = (m : Mode) (k k' : Cipher) (start text bytes : List ℕ) → Enciphers k → Alike k k' → Block k.width start → Bytes text
    → Ciphertext m k start text bytes → Ciphertext m k' start text bytes

-- ---- sending: from open to end a link gives the mode's ciphertext of what it took

-- all that a sending link gives for a text, from open to end
abbrev pub sent : Mode → Cipher → List ℕ → List ℕ → List ℕ
sent m k start text = given m Send k (opened start) text ++ closing m Send k (after m Send k (opened start) text)

abbrev pub SendsCiphertext : Type 0
SendsCiphertext = (m : Mode) (k : Cipher) (start text : List ℕ) → Enciphers k → Block k.width start → Bytes text
    → Ciphertext m k start text (sent m k start text)

-- ---- receiving inverts sending

-- the law of receiving leads from the ciphertext back to the text
abbrev pub ReceivingInverts : Type 0
ReceivingInverts = (m : Mode) (k k' : Cipher) (start text bytes : List ℕ) → Enciphers k → Agrees k k' → Block k.width start → Bytes text
    → Ciphertext m k start text bytes → Plaintext m k' start bytes text

-- a receiving link ends without a refusal and has given the text
pub record Returned (m : Mode) (k : Cipher) (s : State) (so_far text : List ℕ) : Type 0 where
  pub whole : ragged m Receive k s ≡ false
  pub marked : bare m Receive k s ≡ false
  pub gave : so_far ++ closing m Receive k s ≡ text

-- it does, where it took bytes, in any pieces, of which the text is the mode's
abbrev pub ReceivesPlaintext : Type 0
ReceivesPlaintext = (m : Mode) (k : Cipher) (start text bytes : List ℕ) (pieces : List (List ℕ)) → 0 < k.width
    → Plaintext m k start bytes text → concat pieces ≡ bytes
    → Returned m k (after_pieces m Receive k (opened start) pieces) (given_pieces m Receive k (opened start) pieces) text

-- and so it does where it took a ciphertext, in any pieces
abbrev pub ReceivesCiphertext : Type 0
ReceivesCiphertext = (m : Mode) (k k' : Cipher) (start text bytes : List ℕ) (pieces : List (List ℕ)) → Enciphers k → Agrees k k'
    → Block k.width start → Bytes text → Ciphertext m k start text bytes → concat pieces ≡ bytes
    → Returned m k' (after_pieces m Receive k' (opened start) pieces) (given_pieces m Receive k' (opened start) pieces) text

-- ---- receiving any bytes: an end is refused exactly where the law of receiving leads the bytes back to no text

-- bytes that the mode leads back to no text
abbrev pub NoText : Mode → Cipher → List ℕ → List ℕ → Type 0
NoText m k start bytes = (text : List ℕ) → Plaintext m k start bytes text → ⊥

-- what the end of a receiving link tells of the bytes that it took
pub record Judged (m : Mode) (k : Cipher) (start bytes : List ℕ) (s : State) (so_far : List ℕ) : Type 0 where
  pub accepted : ragged m Receive k s ≡ false → bare m Receive k s ≡ false → Plaintext m k start bytes (so_far ++ closing m Receive k s)
  pub ragged_none : ragged m Receive k s ≡ true → NoText m k start bytes
  pub bare_none : ragged m Receive k s ≡ false → bare m Receive k s ≡ true → NoText m k start bytes
  pub none_bare : ragged m Receive k s ≡ false → NoText m k start bytes → bare m Receive k s ≡ true

-- so it does, whatever bytes it took, in any pieces; D is used in CBC alone
abbrev pub ReceivesBytes : Type 0
ReceivesBytes = (m : Mode) (k : Cipher) (start bytes : List ℕ) (pieces : List (List ℕ)) → 0 < k.width → (m ≡ Cbc → Deciphers k) → Bytes bytes
    → concat pieces ≡ bytes → Judged m k start bytes (after_pieces m Receive k (opened start) pieces) (given_pieces m Receive k (opened start) pieces)

-- ---- counts

-- a state that a link can have
pub record Fit (m : Mode) (d : Direction) (k : Cipher) (s : State) : Type 0 where
  pub chain : Block k.width s.chain
  pub held : Bytes s.held
  pub room : length s.held < limit m d k.width

-- every piece leaves such a state, and gives so many bytes; D is used in receiving CBC alone
abbrev pub Counts : Type 0
Counts = (m : Mode) (d : Direction) (k : Cipher) (s : State) (piece : List ℕ) → Enciphers k → (m ≡ Cbc → d ≡ Receive → Deciphers k)
    → Fit m d k s → Bytes piece → Fit m d k (after m d k s piece) × (length (given m d k s piece) ≡ due_count m d k.width (length s.held) (length piece))

-- and an end gives so many
abbrev pub EndsCount : Type 0
EndsCount = (m : Mode) (d : Direction) (k : Cipher) (s : State) → Enciphers k → Fit m d k s → length (closing m d k s) ≡ end_count m d k s

-- after a piece a link holds so many
abbrev pub HoldsCount : Type 0
HoldsCount = (m : Mode) (d : Direction) (k : Cipher) (s : State) (piece : List ℕ) → 0 < k.width → length s.held < limit m d k.width
    → length (after m d k s piece).held ≡ held_count m d k.width (length s.held) (length piece)

-- an end is ragged by the number of bytes taken since the open, and by nothing else
abbrev pub RaggedByCount : Type 0
RaggedByCount = (m : Mode) (d : Direction) (k : Cipher) (start bytes : List ℕ) → 0 < k.width
    → ragged m d k (after m d k (opened start) bytes) ≡ uneven m d k.width (length bytes)
