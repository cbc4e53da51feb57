-- Words name no pile where the words after their coat name no base of either width. Assumes nothing.
use Rattle.std.proofs.Common.{◌≡◌, ◌≢◌, ℕ, List, [], ◌∷◌, ◌++◌, get_or, drop, codes, subst, sym, ap, ◌∙◌, inl, inr, rules}
use Rattle.ciphers.specs.declared.plain.Narrow.{Narrow}
use Rattle.ciphers.specs.declared.plain.Narrow.TheVariants.{Aes, Mkv128}
use Rattle.ciphers.specs.declared.plain.Wide.{Wide}
use Rattle.ciphers.specs.declared.plain.Wide.TheVariants.{Mkv256}
use Rattle.ciphers.specs.declared.words.UnknownCipher.{UnknownCipher}
use Rattle.ciphers.specs.declared.layered.Base.{Base}
use Rattle.ciphers.specs.declared.layered.Base.TheVariants.{One, Two}
use Rattle.ciphers.specs.declared.layered.Coat.{Coat}
use Rattle.ciphers.specs.declared.layered.Coat.TheVariants.{Bare, Whitened, TwiceWhitened}
use Rattle.ciphers.specs.declared.Pile.{Pile}
use Rattle.ciphers.specs.declared.Pile.TheVariants.{Narrow as NarrowPile, Wide as WidePile}
use Rattle.ciphers.specs.Words.{word, wide_word, NameBase, NoBase, coat_words, Whole, Name}

module _ {K : Type 0} (of : K → List ℕ) where
  abbrev pub NoWord : List ℕ → Type 0
  NoWord text = (e : UnknownCipher) × ((cipher : K) → text ≢ of cipher)

  abbrev Named : List (List ℕ) → Base K → Type 0
  Named = NameBase (λ text cipher. text ≡ of cipher)

  no_base : (words : List (List ℕ)) → NoBase NoWord words → (b : Base K) → Named words b → ⊥
  no_base words unnamed (One cipher) (text, is, named) =
      let at : NoBase NoWord (text ∷ []) = subst (NoBase NoWord) is unnamed in at.1 cipher named
  no_base words unnamed (Two first split second) (a, n, b, is, named, writes, also) =
      let at : NoBase NoWord (a ∷ n ∷ b ∷ []) = subst (NoBase NoWord) is unnamed in
      elim at [
        | inl x ↦ x.1 first named
        | inr y ↦ elim y [
          | inl x ↦ x split writes
          | inr x ↦ x.1 second also
        ]
      ]

  -- where whitening is the name of no cipher
  module _ (plain : (k : K) → codes "whitened" ≢ of k) where
    whitened_no_base : (words : List (List ℕ)) (b : Base K) → Named (codes "whitened" ∷ words) b → ⊥
    whitened_no_base words (One cipher) (text, is, named) = plain cipher (ap (λ (l : List (List ℕ)). get_or l 0 []) is ∙ named)
    whitened_no_base words (Two first split second) (a, n, b, is, named, writes, also) = plain first (ap (λ (l : List (List ℕ)). get_or l 0 []) is ∙ named)

    -- the coat that is told and another one
    no_coated : (told coat : Coat) (rest words : List (List ℕ)) (b : Base K) → Whole told rest → NoBase NoWord rest
        → coat_words told ++ rest ≡ coat_words coat ++ words → Named words b → ⊥
    no_coated Bare Bare rest words b whole unnamed is named = no_base rest unnamed b (subst (λ (l : List (List ℕ)). Named l b) (sym is) named)
    no_coated Bare Whitened rest words b whole unnamed is named = whole words is
    no_coated Bare TwiceWhitened rest words b whole unnamed is named = whole (codes "whitened" ∷ words) is
    no_coated Whitened Bare rest words b whole unnamed is named = whitened_no_base rest b (subst (λ (l : List (List ℕ)). Named l b) (sym is) named)
    no_coated Whitened Whitened rest words b whole unnamed is named = no_base rest unnamed b (subst (λ (l : List (List ℕ)). Named l b) (sym (ap (drop 1) is)) named)
    no_coated Whitened TwiceWhitened rest words b whole unnamed is named = whole words (ap (drop 1) is)
    no_coated TwiceWhitened Bare rest words b whole unnamed is named = whitened_no_base (codes "whitened" ∷ rest) b (subst (λ (l : List (List ℕ)). Named l b) (sym is) named)
    no_coated TwiceWhitened Whitened rest words b whole unnamed is named = whitened_no_base rest b (subst (λ (l : List (List ℕ)). Named l b) (sym (ap (drop 1) is)) named)
    no_coated TwiceWhitened TwiceWhitened rest words b whole unnamed is named = no_base rest unnamed b (subst (λ (l : List (List ℕ)). Named l b) (sym (ap (drop 2) is)) named)

plain_narrow : (k : Narrow) → codes "whitened" ≢ word k
plain_narrow Aes = search rules
plain_narrow Mkv128 = search rules

plain_wide : (k : Wide) → codes "whitened" ≢ wide_word k
plain_wide Mkv256 = search rules

pub no_pile : (words : List (List ℕ)) (coat : Coat) (rest : List (List ℕ)) → words ≡ coat_words coat ++ rest → Whole coat rest
    → NoBase (NoWord word) rest → NoBase (NoWord wide_word) rest → (pile : Pile) → Name words pile → ⊥
no_pile words coat rest is whole narrow wide (NarrowPile c) (more, told, named) = no_coated word plain_narrow coat c.coat rest more c.base whole narrow (sym is ∙ told) named
no_pile words coat rest is whole narrow wide (WidePile c) (more, told, named) = no_coated wide_word plain_wide coat c.coat rest more c.base whole wide (sym is ∙ told) named
