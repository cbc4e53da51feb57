-- The words that name a cipher. Assumes nothing.
-- Of std, `IsNumeral base ds`: one digit or more, and nothing else; `digits_value base ds`: the number that they write.
use Rattle.std.specs.Prelude.{◌≡◌, ◌≢◌, ℕ, ◌^◌, ◌<◌, ◌⊎◌, List, [], ◌∷◌, ◌++◌, codes, ⊤}
use Rattle.std.specs.Str.Parse.{IsNumeral, digits_value, without_leading_plus}
use Rattle.ciphers.specs.declared.plain.Narrow.{Narrow}
use Rattle.ciphers.specs.declared.plain.Narrow.TheVariants.{Aes, Mkv128}
use Rattle.ciphers.specs.declared.plain.Wide.{Wide}
use Rattle.ciphers.specs.declared.plain.Wide.TheVariants.{Mkv256}
use Rattle.ciphers.specs.declared.layered.Base.{Base}
use Rattle.ciphers.specs.declared.layered.Base.TheVariants.{One, Two}
use Rattle.ciphers.specs.declared.layered.Coat.{Coat}
use Rattle.ciphers.specs.declared.layered.Coat.TheVariants.{Bare, Whitened, TwiceWhitened}
use Rattle.ciphers.specs.declared.layered.Coated.{Coated}
use Rattle.ciphers.specs.declared.Pile.{Pile}
use Rattle.ciphers.specs.declared.Pile.TheVariants.{Narrow as NarrowPile, Wide as WidePile}

-- the name of each plain cipher, by the size of its blocks
abbrev pub word : Narrow → List ℕ
word Aes = codes "aes"
word Mkv128 = codes "mkv128"

abbrev pub wide_word : Wide → List ℕ
wide_word Mkv256 = codes "mkv256"

-- the text of a number of bytes: its decimal digits, after a plus or none
abbrev pub Writes : List ℕ → ℕ → Type 0
Writes text n = IsNumeral 10 (without_leading_plus text) × (n ≡ digits_value 10 (without_leading_plus text)) × (n < 2 ^ 64)

-- words that name a base, where `IsWord` says which word names a cipher: one, or two with the first one's key bytes between
abbrev pub NameBase : {K : Type 0} → (List ℕ → K → Type 0) → List (List ℕ) → Base K → Type 0
NameBase IsWord words (One cipher) = (text : List ℕ) × (words ≡ text ∷ []) × IsWord text cipher
NameBase IsWord words (Two first split second) = (a : List ℕ) × (n : List ℕ) × (b : List ℕ) × (words ≡ a ∷ n ∷ b ∷ []) × IsWord a first × Writes n split × IsWord b second

-- the words of a coat, which come first
abbrev pub coat_words : Coat → List (List ℕ)
coat_words Bare = []
coat_words Whitened = codes "whitened" ∷ []
coat_words TwiceWhitened = codes "whitened" ∷ codes "whitened" ∷ []

-- words that name a base in its coat
abbrev pub NameCoated : {K : Type 0} → (K → List ℕ) → List (List ℕ) → Coated K → Type 0
NameCoated of words c = (rest : List (List ℕ)) × (words ≡ coat_words c.coat ++ rest) × NameBase (λ text cipher. text ≡ of cipher) rest c.base

-- words that name a pile, of either width
abbrev pub Name : List (List ℕ) → Pile → Type 0
Name words (NarrowPile c) = NameCoated word words c
Name words (WidePile c) = NameCoated wide_word words c

-- ---- what the inner calls tell

-- words that name none, where `NoWord` says which word names no cipher
abbrev pub NoBase : (List ℕ → Type 0) → List (List ℕ) → Type 0
NoBase NoWord (text ∷ []) = NoWord text
NoBase NoWord (a ∷ n ∷ b ∷ []) = NoWord a ⊎ (((k : ℕ) → Writes n k → ⊥) ⊎ NoWord b)
NoBase NoWord words = ⊤

-- the words after a coat that is whole: they tell no further whitening, or there is none
abbrev pub Whole : Coat → List (List ℕ) → Type 0
Whole TwiceWhitened words = ⊤
Whole coat words = (rest : List (List ℕ)) → words ≢ codes "whitened" ∷ rest
