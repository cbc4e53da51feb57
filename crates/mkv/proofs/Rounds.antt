-- The loops over the round keys of a schedule, from the first and from the last. Assumes nothing.
use Rattle.std.proofs.Common.{◌≡◌, ℕ, zero, suc, ◌+◌, ◌-◌, ◌*◌, ◌%◌, ◌<◌, ◌≤◌, List, [], ◌++◌, length, take, drop, sym, ap, ◌∙◌, ap₂, suc-mul, zero-mul, arith, length-append, append_assoc}
use Rattle.std.proofs.Math.Nat.{mul-mod_left}
use Rattle.std.proofs.lemmas.List.{take_at, take_all, drop_at, nil_from_length, take-append-drop, take-append-le, drop-append-le, length-drop, length-take-le}
use Rattle.block.specs.Bytes.{xor}
use Rattle.mkv.specs.Steps.{round, round_back}
use Rattle.mkv.specs.Cipher.{encipher, decipher}

-- n rounds are left, with the round keys of rest and then the post key; what comes of b is what was to come in all
pub record Ahead (t : ℕ) (m : List (List ℕ)) (post rest b end : List ℕ) : Type 0 where
  pub n : ℕ
  pub long : length rest ≡ n * (8 * t)
  pub ends : encipher t m n (rest ++ post) b ≡ end

ahead_by : (t : ℕ) (m : List (List ℕ)) (post rest b end key more : List ℕ) → 0 < t → rest ≡ key ++ more → length key ≡ 8 * t
    → (n : ℕ) → length rest ≡ n * (8 * t) → encipher t m n (rest ++ post) b ≡ end → Ahead t m post more (round t m key b) end
unfolding encipher
ahead_by t m post rest b end key more h e lk zero l s = absurd (omega (arith, ap length e, length-append key more, zero-mul (8 * t)))
ahead_by t m post rest b end key more h e lk (suc n) l s =
    let w : rest ++ post ≡ key ++ (more ++ post) = ap (λ l. l ++ post) e ∙ append_assoc key more post in
    record {
      n = n;
      long = omega (arith, ap length e, length-append key more, suc-mul n (8 * t));
      ends =
          ap₂ (λ u v. encipher t m n u (round t m v b)) (sym (ap (drop (8 * t)) w ∙ drop_at key (more ++ post) (8 * t) lk)) (sym (ap (take (8 * t)) w ∙ take_at key (more ++ post) (8 * t) lk)) ∙ s;
    }

pub ahead_more : (t : ℕ) (m : List (List ℕ)) (post rest b end key more : List ℕ) → 0 < t → rest ≡ key ++ more → length key ≡ 8 * t
    → Ahead t m post rest b end → Ahead t m post more (round t m key b) end
ahead_more t m post rest b end key more h e lk k = ahead_by t m post rest b end key more h e lk k.n k.long k.ends

none_by : (t : ℕ) (m : List (List ℕ)) (post rest b end : List ℕ) → length rest < 8 * t
    → (n : ℕ) → length rest ≡ n * (8 * t) → encipher t m n (rest ++ post) b ≡ end → xor b post ≡ end
unfolding encipher
none_by t m post rest b end h zero l s = ap (λ l. xor b (l ++ post)) (sym (nil_from_length rest (l ∙ zero-mul (8 * t)))) ∙ s
none_by t m post rest b end h (suc n) l s = absurd (omega (arith, suc-mul n (8 * t)))

pub ahead_none : (t : ℕ) (m : List (List ℕ)) (post rest b end : List ℕ) → length rest < 8 * t → Ahead t m post rest b end → xor b post ≡ end
ahead_none t m post rest b end h k = none_by t m post rest b end h k.n k.long k.ends

-- ---- the rounds undone

-- n rounds undone, the last first
abbrev pub undone : ℕ → List (List ℕ) → ℕ → List ℕ → List ℕ → List ℕ
undone t m zero keys b = b
undone t m (suc n) keys b = round_back t m (take (8 * t) keys) (undone t m n (drop (8 * t) keys) b)

deciphers : (t : ℕ) (m : List (List ℕ)) (n : ℕ) (rounds post b : List ℕ) → length rounds ≡ n * (8 * t)
    → undone t m n rounds (xor b post) ≡ decipher t m n (rounds ++ post) b
unfolding decipher
deciphers t m zero rounds post b l = ap (λ k. xor b (k ++ post)) (sym (nil_from_length rounds (l ∙ zero-mul (8 * t))))
deciphers t m (suc n) rounds post b l =
    let long : 8 * t ≤ length rounds = omega (arith, suc-mul n (8 * t)) in
    let rest : length (drop (8 * t) rounds) ≡ n * (8 * t) = simp length-drop (omega (arith, suc-mul n (8 * t))) in
    ap₂ (round_back t m) (sym (take-append-le (8 * t) rounds post long))
    (deciphers t m n (drop (8 * t) rounds) post b rest ∙ ap (λ k. decipher t m n k b) (sym (drop-append-le (8 * t) rounds post long)))

undone_last : (t : ℕ) (m : List (List ℕ)) (n : ℕ) (rest key b : List ℕ) → length rest ≡ n * (8 * t) → length key ≡ 8 * t
    → undone t m n rest (round_back t m key b) ≡ undone t m (suc n) (rest ++ key) b
undone_last t m zero rest key b l k =
    let none : rest ≡ [] = nil_from_length rest (l ∙ zero-mul (8 * t)) in
    ap (λ x. round_back t m x b) (sym (ap (λ x. take (8 * t) (x ++ key)) none ∙ take_all (8 * t) key (omega arith)))
undone_last t m (suc n) rest key b l k =
    let long : 8 * t ≤ length rest = omega (arith, suc-mul n (8 * t)) in
    let later : length (drop (8 * t) rest) ≡ n * (8 * t) = simp length-drop (omega (arith, suc-mul n (8 * t))) in
    ap₂ (round_back t m) (sym (take-append-le (8 * t) rest key long))
    (undone_last t m n (drop (8 * t) rest) key b later k ∙ ap (λ x. undone t m (suc n) x b) (sym (drop-append-le (8 * t) rest key long)))

-- n rounds are left to be undone
pub record Behind (t : ℕ) (m : List (List ℕ)) (rest b end : List ℕ) : Type 0 where
  pub n : ℕ
  pub long : length rest ≡ n * (8 * t)
  pub ends : undone t m n rest b ≡ end

behind_by : (t : ℕ) (m : List (List ℕ)) (rest b end key more : List ℕ) → 0 < t → rest ≡ more ++ key → length key ≡ 8 * t
    → (n : ℕ) → length rest ≡ n * (8 * t) → undone t m n rest b ≡ end → Behind t m more (round_back t m key b) end
behind_by t m rest b end key more h e lk zero l s = absurd (omega (arith, ap length e, length-append more key, zero-mul (8 * t)))
behind_by t m rest b end key more h e lk (suc n) l s =
    let long : length more ≡ n * (8 * t) = omega (arith, ap length e, length-append more key, suc-mul n (8 * t)) in
    record { n = n; long = long; ends = undone_last t m n more key b long lk ∙ ap (λ x. undone t m (suc n) x b) (sym e) ∙ s }

pub behind_more : (t : ℕ) (m : List (List ℕ)) (rest b end key more : List ℕ) → 0 < t → rest ≡ more ++ key → length key ≡ 8 * t
    → Behind t m rest b end → Behind t m more (round_back t m key b) end
behind_more t m rest b end key more h e lk k = behind_by t m rest b end key more h e lk k.n k.long k.ends

-- before the last round is undone
pub behind_all : (t : ℕ) (m : List (List ℕ)) (n : ℕ) (keys rounds post rem rest b : List ℕ) → length keys ≡ n * (8 * t) + 4 * t
    → rounds ≡ take (length keys - 4 * t) keys → post ≡ drop (length keys - 4 * t) keys
    → rounds ≡ rem ++ rest → length rem ≡ length rounds % (8 * t) → Behind t m rest (xor b post) (decipher t m n keys b)
behind_all t m n keys rounds post rem rest b h er ep parts rl =
    let long : length rounds ≡ n * (8 * t) = ap length er ∙ length-take-le (length keys - 4 * t) keys (omega arith) ∙ omega arith in
    let none : rem ≡ [] = nil_from_length rem (rl ∙ ap (λ k. k % (8 * t)) long ∙ mul-mod_left n (8 * t)) in
    let is : rounds ≡ rest = parts ∙ ap (λ l. l ++ rest) none in
    record {
      n = n;
      long = ap length (sym is) ∙ long;
      ends =
          ap (λ l. undone t m n l (xor b post)) (sym is) ∙ deciphers t m n rounds post b long
          ∙ ap (λ l. decipher t m n l b) (ap₂ ◌++◌ er ep ∙ take-append-drop (length keys - 4 * t) keys);
    }
