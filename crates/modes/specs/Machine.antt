-- How a link goes on, byte by byte: its state, what a byte gives, what an end gives. Assumes nothing.
-- Its laws stand in Laws: from open to end it gives what the mode's law says.
use Rattle.std.specs.Prelude.{ℕ, zero, suc, ◌+◌, ◌-◌, ◌*◌, ◌/◌, ◌%◌, Bool, false, cond, not, ◌||◌, List, [], ◌∷◌, ◌++◌, length, take, is_some, Some, None, Option, ◌==◌, slice_index}
use Rattle.modes.specs.Join.{join_byte, part_byte}
use Rattle.modes.specs.Padding.{padding, text_end}
use Rattle.modes.specs.Modes.{Cipher, cipher_block, plain_block}
use Rattle.modes.specs.declared.Mode.{Mode}
use Rattle.modes.specs.declared.Mode.TheVariants.{Cbc, Cfb, Ofb}
use Rattle.modes.specs.declared.Direction.{Direction}
use Rattle.modes.specs.declared.Direction.TheVariants.{Send, Receive}

-- The chain block is the block before the one to come; in CFB and OFB, once that one has begun, its pad.
-- The bytes held are those of the block that has begun: in CBC as they were taken, in CFB and OFB its ciphertext.
pub record State : Type 0 where
  pub chain : List ℕ
  pub held : List ℕ

-- the state with the chain block v, and the bytes h held
abbrev pub state : List ℕ → List ℕ → State
state v h = record { chain = v; held = h }

-- a link just opened
abbrev pub opened : List ℕ → State
opened start = state start []

-- one byte more
abbrev pub push : List ℕ → ℕ → List ℕ
push h x = h ++ (x ∷ [])

-- as many bytes as a block has
abbrev pub full : Cipher → List ℕ → Bool
full k h = length h == k.width

-- sending CBC: the block h is enciphered once it is full
abbrev pub sent_state : Cipher → List ℕ → List ℕ → State
sent_state k v h = cond (full k h) (state (cipher_block Cbc k v h) []) (state v h)

abbrev pub sent_block : Cipher → List ℕ → List ℕ → List ℕ
sent_block k v h = cond (full k h) (cipher_block Cbc k v h) []

-- CFB and OFB: the pad of a block. E is applied once a block, at its first byte.
abbrev pub pad : Cipher → List ℕ → List ℕ → List ℕ
pad k v [] = k.enc v
pad k v (x ∷ h) = v

-- a byte joined with the pad's byte at its place, or parted from it
abbrev pub mixed : Direction → List ℕ → List ℕ → ℕ → ℕ
mixed Send u h x = join_byte x (slice_index u (length h))
mixed Receive u h x = part_byte x (slice_index u (length h))

-- of the byte given and the byte taken, the ciphertext's
abbrev pub cipher_byte : Direction → ℕ → ℕ → ℕ
cipher_byte Send given taken = given
cipher_byte Receive given taken = taken

-- of a block's pad and its ciphertext, the block before the next one
abbrev pub rolled : Mode → List ℕ → List ℕ → List ℕ
rolled Cbc u h = h
rolled Cfb u h = h
rolled Ofb u h = u

-- CFB and OFB: a block with pad u, of which the ciphertext h is there, may be full
abbrev pub stream_state : Mode → Cipher → List ℕ → List ℕ → State
stream_state m k u h = cond (full k h) (state (rolled m u h) []) (state u h)

-- the byte that a stream gives for one more, and the state after it
abbrev pub stream_byte : Direction → Cipher → State → ℕ → ℕ
stream_byte d k s x = mixed d (pad k s.chain s.held) s.held x

abbrev pub stream_fed : Mode → Direction → Cipher → State → ℕ → State
stream_fed m d k s x = stream_state m k (pad k s.chain s.held) (push s.held (cipher_byte d (stream_byte d k s x) x))

-- the state after one byte; a receiving CBC link holds a whole block until one more byte comes
abbrev pub fed : Mode → Direction → Cipher → State → ℕ → State
fed Cbc Send k s x = sent_state k s.chain (push s.held x)
fed Cbc Receive k s x = cond (full k s.held) (state s.held (x ∷ [])) (state s.chain (push s.held x))
fed Cfb d k s x = stream_fed Cfb d k s x
fed Ofb d k s x = stream_fed Ofb d k s x

-- the bytes that it gives
abbrev pub due : Mode → Direction → Cipher → State → ℕ → List ℕ
due Cbc Send k s x = sent_block k s.chain (push s.held x)
due Cbc Receive k s x = cond (full k s.held) (plain_block Cbc k s.chain s.held) []
due Cfb d k s x = stream_byte d k s x ∷ []
due Ofb d k s x = stream_byte d k s x ∷ []

-- the same for a piece, byte after byte
abbrev pub after : Mode → Direction → Cipher → State → List ℕ → State
after m d k s [] = s
after m d k s (x ∷ xs) = after m d k (fed m d k s x) xs

abbrev pub given : Mode → Direction → Cipher → State → List ℕ → List ℕ
given m d k s [] = []
given m d k s (x ∷ xs) = due m d k s x ++ given m d k (fed m d k s x) xs

-- the same for pieces, one after another
abbrev pub after_pieces : Mode → Direction → Cipher → State → List (List ℕ) → State
after_pieces m d k s [] = s
after_pieces m d k s (p ∷ ps) = after_pieces m d k (after m d k s p) ps

abbrev pub given_pieces : Mode → Direction → Cipher → State → List (List ℕ) → List ℕ
given_pieces m d k s [] = []
given_pieces m d k s (p ∷ ps) = given m d k s p ++ given_pieces m d k (after m d k s p) ps

-- the text of the block that a receiving CBC link holds
abbrev pub last_text : Cipher → State → List ℕ
last_text k s = plain_block Cbc k s.chain s.held

-- a text's end, 0 where there is none, and the bytes before it
abbrev pub place : Option ℕ → ℕ
place None = 0
place (Some i) = i

abbrev pub before : Option ℕ → List ℕ → List ℕ
before None block = []
before (Some i) block = take i block

-- what an end gives: sending CBC the padded block, receiving CBC the bytes before the padding
abbrev pub closing : Mode → Direction → Cipher → State → List ℕ
closing Cbc Send k s = cipher_block Cbc k s.chain (s.held ++ padding k.width s.held)
closing Cbc Receive k s = before (text_end (last_text k s)) (last_text k s)
closing Cfb d k s = []
closing Ofb d k s = []

-- an end is refused: receiving CBC, no whole block is held
abbrev pub ragged : Mode → Direction → Cipher → State → Bool
ragged Cbc Send k s = false
ragged Cbc Receive k s = not (full k s.held)
ragged Cfb d k s = false
ragged Ofb d k s = false

-- an end is refused: receiving CBC, the held block's text has no last byte other than 00, or that byte is not 80
abbrev pub bare : Mode → Direction → Cipher → State → Bool
bare Cbc Send k s = false
bare Cbc Receive k s = not (is_some (text_end (last_text k s)))
bare Cfb d k s = false
bare Ofb d k s = false

-- how many bytes a link that holds h bytes gives for n more
abbrev pub due_count : Mode → Direction → ℕ → ℕ → ℕ → ℕ
due_count Cbc Send w h n = (h + n) / w * w
due_count Cbc Receive w h n = (h + n - 1) / w * w
due_count Cfb d w h n = n
due_count Ofb d w h n = n

-- of t bytes, those beyond the blocks that a receiving CBC link gave: 1 to w once any came
abbrev pub kept_back : ℕ → ℕ → ℕ
kept_back w zero = 0
kept_back w (suc t) = suc (t % w)

-- how many bytes a link that held h bytes holds after n more
abbrev pub held_count : Mode → Direction → ℕ → ℕ → ℕ → ℕ
held_count Cbc Send w h n = (h + n) % w
held_count Cbc Receive w h n = kept_back w (h + n)
held_count Cfb d w h n = (h + n) % w
held_count Ofb d w h n = (h + n) % w

-- whether a link that took n bytes ends ragged: receiving CBC, of no byte, or of bytes that are no whole blocks
abbrev pub uneven : Mode → Direction → ℕ → ℕ → Bool
uneven Cbc Send w n = false
uneven Cbc Receive w n = n == 0 || not (n % w == 0)
uneven Cfb d w n = false
uneven Ofb d w n = false

-- how many bytes an end gives
abbrev pub end_count : Mode → Direction → Cipher → State → ℕ
end_count Cbc Send k s = k.width
end_count Cbc Receive k s = place (text_end (last_text k s))
end_count Cfb d k s = 0
end_count Ofb d k s = 0

-- how many bytes a link holds at most: a receiving CBC link a whole block, the others less
abbrev pub limit : Mode → Direction → ℕ → ℕ
limit Cbc Send w = w
limit Cbc Receive w = suc w
limit Cfb d w = w
limit Ofb d w = w
