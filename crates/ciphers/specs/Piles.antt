-- The ciphers that can be named, by their meanings. Assumes nothing.
use Rattle.kit.specs.Meaning.{Meaning}
use Rattle.aes.specs.Versions.{aes}
use Rattle.mkv.specs.Versions.{mkv_128, mkv_256}
use Rattle.layers.specs.Whitened.{whitened}
use Rattle.layers.specs.Cascaded.{cascaded}
use Rattle.ciphers.specs.declared.plain.Narrow.{Narrow}
use Rattle.ciphers.specs.declared.plain.Narrow.TheVariants.{Aes, Mkv128}
use Rattle.ciphers.specs.declared.plain.Wide.{Wide}
use Rattle.ciphers.specs.declared.plain.Wide.TheVariants.{Mkv256}
use Rattle.ciphers.specs.declared.layered.Base.{Base}
use Rattle.ciphers.specs.declared.layered.Base.TheVariants.{One, Two}
use Rattle.ciphers.specs.declared.layered.Coat.{Coat}
use Rattle.ciphers.specs.declared.layered.Coat.TheVariants.{Bare, Whitened, TwiceWhitened}
use Rattle.ciphers.specs.declared.layered.Coated.{Coated}
use Rattle.ciphers.specs.declared.Pile.{Pile}
use Rattle.ciphers.specs.declared.Pile.TheVariants.{Narrow as NarrowPile, Wide as WidePile}

-- the plain ciphers, of 16 and of 32 bytes
abbrev pub narrow : Narrow → Meaning
narrow Aes = aes
narrow Mkv128 = mkv_128

abbrev pub wide : Wide → Meaning
wide Mkv256 = mkv_256

-- one cipher or a cascade of two, where `of` says what each cipher means
abbrev pub base_meaning : {K : Type 0} → (K → Meaning) → Base K → Meaning
base_meaning of (One cipher) = of cipher
base_meaning of (Two first split second) = cascaded split (of first) (of second)

-- a cipher whitened as often as its coat says
abbrev pub coated : Coat → Meaning → Meaning
coated Bare m = m
coated Whitened m = whitened m
coated TwiceWhitened m = whitened (whitened m)

-- a base in its coat
abbrev pub coated_meaning : {K : Type 0} → (K → Meaning) → Coated K → Meaning
coated_meaning of c = coated c.coat (base_meaning of c.base)

-- what a pile means, of either width
abbrev pub pile_meaning : Pile → Meaning
pile_meaning (NarrowPile c) = coated_meaning narrow c
pile_meaning (WidePile c) = coated_meaning wide c
