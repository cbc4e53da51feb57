-- The worked figures: one table, and that every row of it holds. Bytes are hexadecimal, lengths and counts decimal. Assumes nothing.
-- A row says what a definition that contracts cite gives at some values.
use Rattle.std.specs.Prelude.{◌≡◌, ℕ, List, [], ◌∷◌, ◌++◌, length, take, drop, Some, None, Ok, Err, Result, slice_index}
use Rattle.std.specs.List.{range_with_len}
use Rattle.field.specs.Byte.{mul}
use Rattle.field.specs.Known.{mkv_poly, aes_poly, m4}
use Rattle.field.specs.Matrix.{apply}
use Rattle.mkv.specs.Tables.{s, s_inverse}
use Rattle.mkv.specs.Steps.{x_words}
use Rattle.mkv.specs.Versions.{mkv_128, mkv_256}
use Rattle.aes.specs.Tables.{s_box}
use Rattle.aes.specs.Versions.{aes}
use Rattle.layers.specs.Whitened.{whitened}
use Rattle.layers.specs.Cascaded.{cascaded}
use Rattle.layers.specs.Depth.{risen}
use Rattle.kit.specs.Meaning.{Meaning}
use Rattle.refusal.specs.declared.KeyFault.{KeyFault}
use Rattle.refusal.specs.declared.Refusal.TheVariants.{Cells, Ragged}
use Rattle.figures.specs.Banks.{ask, three_open, two_struck, one_more, left, answer, linked, gives, end_gives, end_answer}

-- the key, the text and the ciphertext of the worked cipher
abbrev pub key : List ℕ
key = 0x01 ∷ 0x02 ∷ 0x03 ∷ 0x04 ∷ 0x05 ∷ 0x06 ∷ 0x07 ∷ 0x08 ∷ 0x09 ∷ 0x0A ∷ 0x0B ∷ 0x0C ∷ 0x0D ∷ 0x0E ∷ 0x0F ∷ 0x11 ∷ []

abbrev pub text : List ℕ
text = 0x11 ∷ 0x22 ∷ 0x33 ∷ 0x44 ∷ 0x55 ∷ 0x66 ∷ 0x77 ∷ 0x88 ∷ 0x99 ∷ 0xAA ∷ 0xBB ∷ 0xCC ∷ 0xDD ∷ 0xEE ∷ 0xFF ∷ 0x00 ∷ []

abbrev pub cipher : List ℕ
cipher = 0xB3 ∷ 0x31 ∷ 0x22 ∷ 0x83 ∷ 0x34 ∷ 0xC3 ∷ 0xF8 ∷ 0x1A ∷ 0x37 ∷ 0x20 ∷ 0x65 ∷ 0x91 ∷ 0x49 ∷ 0x87 ∷ 0x56 ∷ 0xA1 ∷ []

-- its schedule: Left_0, Left_1, Right_1 and so on, 16 bytes each
unfoldable pub worked : List ℕ
worked = mkv_128.schedule key

-- the vectors of the standard for longer keys and blocks: the front of these key bytes, and the worked text, twice in MKV-256
abbrev pub long_key : List ℕ
long_key =
    0x01 ∷ 0x02 ∷ 0x03 ∷ 0x04 ∷ 0x05 ∷ 0x06 ∷ 0x07 ∷ 0x08 ∷ 0x09 ∷ 0x0A ∷ 0x0B ∷ 0x0C ∷ 0x0D ∷ 0x0E ∷ 0x0F ∷ 0x11 ∷
    0x12 ∷ 0x13 ∷ 0x14 ∷ 0x15 ∷ 0x16 ∷ 0x17 ∷ 0x18 ∷ 0x19 ∷ 0x1A ∷ 0x1B ∷ 0x1C ∷ 0x1D ∷ 0x1E ∷ 0x1F ∷ 0x22 ∷ 0x23 ∷ []

-- E of a text under a key, as a kit means it
unfoldable pub under_key : Meaning → List ℕ → List ℕ → List ℕ
under_key m key text = m.enc (length key) (m.schedule key) text

-- the cipher example of FIPS 197
abbrev pub aes_key : List ℕ
aes_key = 0x2B ∷ 0x7E ∷ 0x15 ∷ 0x16 ∷ 0x28 ∷ 0xAE ∷ 0xD2 ∷ 0xA6 ∷ 0xAB ∷ 0xF7 ∷ 0x15 ∷ 0x88 ∷ 0x09 ∷ 0xCF ∷ 0x4F ∷ 0x3C ∷ []

abbrev pub aes_text : List ℕ
aes_text = 0x32 ∷ 0x43 ∷ 0xF6 ∷ 0xA8 ∷ 0x88 ∷ 0x5A ∷ 0x30 ∷ 0x8D ∷ 0x31 ∷ 0x31 ∷ 0x98 ∷ 0xA2 ∷ 0xE0 ∷ 0x37 ∷ 0x07 ∷ 0x34 ∷ []

abbrev pub aes_cipher : List ℕ
aes_cipher = 0x39 ∷ 0x25 ∷ 0x84 ∷ 0x1D ∷ 0x02 ∷ 0xDC ∷ 0x09 ∷ 0xFB ∷ 0xDC ∷ 0x11 ∷ 0x85 ∷ 0x97 ∷ 0x19 ∷ 0x6A ∷ 0x0B ∷ 0x32 ∷ []

-- the text of its long examples
abbrev pub counted : List ℕ
counted = 0x00 ∷ 0x11 ∷ 0x22 ∷ 0x33 ∷ 0x44 ∷ 0x55 ∷ 0x66 ∷ 0x77 ∷ 0x88 ∷ 0x99 ∷ 0xAA ∷ 0xBB ∷ 0xCC ∷ 0xDD ∷ 0xEE ∷ 0xFF ∷ []

unfoldable pub aes_worked : List ℕ
aes_worked = aes.schedule aes_key

-- MKV-128 whitened, and the cascade of AES with 16 key bytes and MKV-128
abbrev pub white : Meaning
white = whitened mkv_128

abbrev pub two : Meaning
two = cascaded 16 aes mkv_128

-- refused at a depth, with the length shown there
abbrev pub refused : ℕ → ℕ → Result ℕ KeyFault
refused depth length = Err (record { depth = depth; length = length })

unfoldable pub figures : List (Type 0)
figures =
    -- the substitution and its inverse
    (slice_index s 0x24 ≡ 0x1C) ∷
    (slice_index s_inverse 0x82 ≡ 0xB4) ∷
    -- products in the field of MKV and in that of AES
    (mul mkv_poly 0x04 0x63 ≡ 0xA7) ∷
    (mul aes_poly 0x02 0x87 ≡ 0x15) ∷
    -- MixWords of a word
    (apply mkv_poly m4 (0x00 ∷ 0x08 ∷ 0x0F ∷ 0x0C ∷ []) ≡ 0x0B ∷ 0x07 ∷ 0x15 ∷ 0x22 ∷ []) ∷
    (apply mkv_poly m4 (0x0A ∷ 0x06 ∷ 0x07 ∷ 0x0E ∷ []) ≡ 0x13 ∷ 0x33 ∷ 0x5D ∷ 0xFC ∷ []) ∷
    -- XWords at one place of the four words
    (x_words 1 (0x71 ∷ 0xBF ∷ 0x5A ∷ 0xA1 ∷ []) ≡ 0x44 ∷ 0x8A ∷ 0x6F ∷ 0x94 ∷ []) ∷
    -- Left_1 and Right_1 of the worked key begin so
    (take 4 (drop 16 worked) ≡ 0x0D ∷ 0x96 ∷ 0xE3 ∷ 0xD1 ∷ []) ∷
    (take 4 (drop 32 worked) ≡ 0x05 ∷ 0x6F ∷ 0x4B ∷ 0x9A ∷ []) ∷
    -- the worked text enciphered, and back
    (mkv_128.enc 16 worked text ≡ cipher) ∷
    (mkv_128.dec 16 worked cipher ≡ text) ∷
    -- the other key lengths of MKV-128, and those of MKV-256
    (under_key mkv_128 (take 24 long_key) text ≡ 0x4A ∷ 0x9F ∷ 0xC1 ∷ 0x35 ∷ 0x0A ∷ 0xAF ∷ 0xCC ∷ 0xAE ∷ 0x7C ∷ 0xB5 ∷ 0xB1 ∷ 0x2A ∷ 0xE4 ∷ 0xB2 ∷ 0x4F ∷ 0x91 ∷ []) ∷
    (under_key mkv_128 long_key text ≡ 0x5F ∷ 0x16 ∷ 0xD1 ∷ 0x7C ∷ 0x48 ∷ 0xE4 ∷ 0x01 ∷ 0x46 ∷ 0x55 ∷ 0x9D ∷ 0x60 ∷ 0x2F ∷ 0x50 ∷ 0xD6 ∷ 0x30 ∷ 0x7E ∷ []) ∷
    (under_key mkv_256 long_key (text ++ text) ≡
    0xCF ∷ 0x2F ∷ 0x2C ∷ 0x10 ∷ 0x08 ∷ 0x18 ∷ 0x6A ∷ 0x57 ∷ 0x8F ∷ 0xE5 ∷ 0xB4 ∷ 0x5D ∷ 0xBD ∷ 0x15 ∷ 0x44 ∷ 0x73 ∷ 0x94 ∷ 0x0C ∷ 0x2B ∷ 0xEC ∷ 0x56 ∷ 0x82 ∷ 0xCD ∷ 0xF8 ∷ 0x3A ∷ 0x35 ∷ 0x64 ∷ 0xA7 ∷ 0x2D ∷ 0xB0 ∷ 0x16 ∷ 0x1B ∷ []) ∷
    (under_key mkv_256 (long_key ++ take 16 long_key) (text ++ text) ≡
    0x73 ∷ 0x1E ∷ 0x24 ∷ 0x4B ∷ 0x25 ∷ 0xD8 ∷ 0xF7 ∷ 0x48 ∷ 0x9D ∷ 0x2E ∷ 0x4B ∷ 0xDE ∷ 0xC8 ∷ 0xEA ∷ 0xEE ∷ 0x17 ∷ 0x96 ∷ 0xF5 ∷ 0x5A ∷ 0x26 ∷ 0x90 ∷ 0x4E ∷ 0xED ∷ 0xB2 ∷ 0x2D ∷ 0x96 ∷ 0xC2 ∷ 0xC1 ∷ 0x74 ∷ 0x52 ∷ 0x73 ∷ 0x9D ∷ []) ∷
    (under_key mkv_256 (long_key ++ long_key) (text ++ text) ≡
    0x93 ∷ 0xB4 ∷ 0x42 ∷ 0xFB ∷ 0x88 ∷ 0xD2 ∷ 0x57 ∷ 0xFB ∷ 0xE7 ∷ 0x12 ∷ 0x56 ∷ 0xBE ∷ 0x51 ∷ 0x1A ∷ 0xAB ∷ 0x9B ∷ 0x1F ∷ 0x71 ∷ 0xA4 ∷ 0xDD ∷ 0x52 ∷ 0x46 ∷ 0x35 ∷ 0xA6 ∷ 0x10 ∷ 0x19 ∷ 0xA1 ∷ 0x2A ∷ 0xCB ∷ 0x26 ∷ 0x2C ∷ 0x85 ∷ []) ∷
    -- AES: the substitution, round key 1 of the worked key, the worked text enciphered, and back
    (slice_index s_box 0x53 ≡ 0xED) ∷
    (mul aes_poly 0x57 0x83 ≡ 0xC1) ∷
    (take 4 (drop 16 aes_worked) ≡ 0xA0 ∷ 0xFA ∷ 0xFE ∷ 0x17 ∷ []) ∷
    (aes.enc 16 aes_worked aes_text ≡ aes_cipher) ∷
    (aes.dec 16 aes_worked aes_cipher ≡ aes_text) ∷
    -- AES with keys 00 01 02 and so on, of each length
    (under_key aes (range_with_len 0 16) counted ≡ 0x69 ∷ 0xC4 ∷ 0xE0 ∷ 0xD8 ∷ 0x6A ∷ 0x7B ∷ 0x04 ∷ 0x30 ∷ 0xD8 ∷ 0xCD ∷ 0xB7 ∷ 0x80 ∷ 0x70 ∷ 0xB4 ∷ 0xC5 ∷ 0x5A ∷ []) ∷
    (under_key aes (range_with_len 0 24) counted ≡ 0xDD ∷ 0xA9 ∷ 0x7C ∷ 0xA4 ∷ 0x86 ∷ 0x4C ∷ 0xDF ∷ 0xE0 ∷ 0x6E ∷ 0xAF ∷ 0x70 ∷ 0xA0 ∷ 0xEC ∷ 0x0D ∷ 0x71 ∷ 0x91 ∷ []) ∷
    (under_key aes (range_with_len 0 32) counted ≡ 0x8E ∷ 0xA2 ∷ 0xB7 ∷ 0xCA ∷ 0x51 ∷ 0x67 ∷ 0x45 ∷ 0xBF ∷ 0xEA ∷ 0xFC ∷ 0x49 ∷ 0x90 ∷ 0x4B ∷ 0x49 ∷ 0x60 ∷ 0x89 ∷ []) ∷
    -- the cells that keys of each length need; other lengths are refused with the length as it came
    (mkv_128.need 16 ≡ Ok 13) ∷
    (mkv_128.need 24 ≡ Ok 15) ∷
    (mkv_128.need 32 ≡ Ok 17) ∷
    (mkv_256.need 32 ≡ Ok 26) ∷
    (mkv_256.need 48 ≡ Ok 30) ∷
    (mkv_256.need 64 ≡ Ok 34) ∷
    (aes.need 16 ≡ Ok 11) ∷
    (aes.need 24 ≡ Ok 13) ∷
    (aes.need 32 ≡ Ok 15) ∷
    (mkv_128.need 0 ≡ refused 0 0) ∷
    (mkv_256.need 16 ≡ refused 0 16) ∷
    (aes.need 300 ≡ refused 0 300) ∷
    -- whitened MKV-128: 48 key bytes need 15 cells; 32 and 31 are refused
    (white.need 48 ≡ Ok 15) ∷
    (white.need 32 ≡ refused 1 0) ∷
    (white.need 31 ≡ refused 0 31) ∷
    -- the cascade: 32 key bytes need 24 cells; 20 are refused
    (two.need 32 ≡ Ok 24) ∷
    (two.need 20 ≡ refused 1 4) ∷
    -- a depth of 255 grows no further
    (risen (refused 254 300) ≡ refused 255 300) ∷
    (risen (refused 255 300) ≡ refused 255 300) ∷
    -- a bank of 41 cells: 13, 15 and 13 leave none; 26 are free after the two strikes, 15 of them are given and leave 11, and
    -- 13 are refused
    (left three_open ≡ 0) ∷
    (left two_struck ≡ 26) ∷
    (answer two_struck (ask 0 24) ≡ None) ∷
    (left one_more ≡ 11) ∷
    (answer one_more (ask 0 16) ≡ Some Cells) ∷
    -- sending CBC, 5 and then 27 bytes: none, then 32; the end gives 16
    (gives (linked 0 0) 5 ≡ 0) ∷
    (gives (linked 0 5) 27 ≡ 32) ∷
    (end_gives (linked 0 32) ≡ 16) ∷
    -- receiving CBC: 16 give none, 17 give 16, 48 give 32 and 16 are held
    (gives (linked 1 0) 16 ≡ 0) ∷
    (gives (linked 1 0) 17 ≡ 16) ∷
    (gives (linked 1 0) 48 ≡ 32) ∷
    (length (linked 1 48).state.held ≡ 16) ∷
    -- after 20, or after none, its end is refused
    (end_answer (linked 1 20) ≡ Some Ragged) ∷
    (end_answer (linked 1 0) ≡ Some Ragged) ∷ []

-- every row holds
abbrev pub All : List (Type 0) → Type 0
All [] = Unit {0}
All (row ∷ rows) = row × All rows
