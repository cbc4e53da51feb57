-- A link from its open on: what it took fixes its state and what it gave, whatever was called on other links. Assumes nothing.
use Rattle.std.proofs.Common.{◌≡◌, ℕ, true, false, eqb, List, [], ◌∷◌, ◌++◌, Some, None, Ok, Err, Option, sym, refl, ap, ◌∙◌, inl, inr, append-nil, arith}
use Rattle.std.proofs.lemmas.Bool.{eq-eqb, ne_eqb, cases_eq}
use Rattle.refusal.specs.Checks.{first}
use Rattle.block.specs.Bytes.{Bytes}
use Rattle.block.proofs.Parts.{bytes_append}
use Rattle.modes.proofs.Pieces.{after_append, given_append}
use Rattle.kit.specs.Meaning.{Meaning}
use Rattle.bank.specs.Books.{Books, Running, tool}
use Rattle.bank.specs.Calls.{Ask, open_checks, fresh, fed_link, given_link, Struck}
use Rattle.bank.specs.Past.{Event, opens, puts, ends, strikes, Ran, took, gave, Stays}
use Rattle.bank.proofs.Runs.{last}

-- a link's two pieces are their join
fed_twice : (m : Meaning) (l : Running) (x y : List ℕ) → fed_link m (fed_link m l x) y ≡ fed_link m l (x ++ y)
fed_twice m l x y =
    ap (λ z. record { mode = l.mode; direction = l.direction; key = l.key; cells = l.cells; schedule = l.schedule; width = l.width; state = z }) (sym (after_append l.mode l.direction (tool m l) l.state x y))

given_twice : (m : Meaning) (l : Running) (x y : List ℕ) → given_link m l x ++ given_link m (fed_link m l x) y ≡ given_link m l (x ++ y)
given_twice m l x y = sym (given_append l.mode l.direction (tool m l) l.state x y)

-- what is known of a link that the ask a opened, after the calls ys since
pub record Live (m : Meaning) (a : Ask) (i : ℕ) (ys : List Event) (b : Books) : Type 0 where
  pub link : b.link i ≡ Some (fed_link m (fresh m a) (took i ys))
  pub gives : gave i ys ≡ given_link m (fresh m a) (took i ys)
  pub bytes : Bytes (took i ys)
  pub key : Bytes a.key
  pub start : Bytes a.start
  pub numbers : ℕ × ℕ × ℕ
  pub passed : None ≡ first (open_checks m numbers.0 numbers.1 numbers.2 a)

module _ (m : Meaning) (n : ℕ) (a : Ask) (i : ℕ) (xs : List Event) where
  -- a call that leaves the link and what it took and gave as they were
  kept : (e : Event) (ys : List Event) (b b' : Books) → took i (e ∷ ys) ≡ took i ys → gave i (e ∷ ys) ≡ gave i ys → b'.link i ≡ b.link i → Live m a i ys b → Live m a i (e ∷ ys) b'
  kept e ys b b' t g s l =
      record {
        link = s ∙ l.link ∙ ap (λ z. Some (fed_link m (fresh m a) z)) (sym t);
        gives = g ∙ l.gives ∙ ap (given_link m (fresh m a)) (sym t);
        bytes = rw t l.bytes;
        key = l.key;
        start = l.start;
        numbers = l.numbers;
        passed = l.passed;
      }

  struck_kept : (b : Books) (j : ℕ) (o : Option Running) (b' : Books) → (i ≡ j → ⊥) → Struck b j o b' → b'.link i ≡ b.link i
  struck_kept b j None b' ne s = s.link i
  struck_kept b j (Some l) b' ne s = s.only.others i ne

  pub session : (ys : List Event) (b : Books) → Stays i ys → Ran m n (ys ++ (opens a (Ok i) ∷ xs)) b → Live m a i ys b
  session [] b st r =
      let o = last m n (opens a (Ok i)) xs b r in
      let s = o.step in
      record { link = s.2.holds.only.this; gives = refl; bytes = tt; key = s.0; start = s.1; numbers = (_, _, _); passed = s.2.told }
  session (opens c (Ok j) ∷ ys) b st r =
      let o = last m n (opens c (Ok j)) (ys ++ (opens a (Ok i) ∷ xs)) b r in
      let l = session ys o.books st o.ran in
      let s = o.step.2.holds in
      elim (cases_eq i j) [
        | inl e ↦ (let v : o.books.link i ≡ None = ap o.books.link e ∙ s.unused in let w = l.link in let z : ◌≡◌ {A = ℕ} 0 1 = cc in absurd (omega arith))
        | inr e ↦ kept (opens c (Ok j)) ys o.books b refl refl (s.only.others i e) l
      ]
  session (opens c (Err q) ∷ ys) b st r =
      let o = last m n (opens c (Err q)) (ys ++ (opens a (Ok i) ∷ xs)) b r in
      kept (opens c (Err q)) ys o.books b refl refl (o.step.2.holds.link i) (session ys o.books st o.ran)
  session (puts j x (Ok g) ∷ ys) b st r =
      let o = last m n (puts j x (Ok g)) (ys ++ (opens a (Ok i) ∷ xs)) b r in
      let l = session ys o.books st o.ran in
      let s = o.step.1.1.holds in
      elim (cases_eq i j) [
        | inl e ↦
            (let q : eqb i j ≡ true = eq-eqb i j e in
            let L : Running = fed_link m (fresh m a) (took i ys) in
            let was : Some L ≡ Some s.link = sym l.link ∙ ap o.books.link e ∙ s.was in
            let same : s.link ≡ L = cc in
            let to : took i (puts j x (Ok g) ∷ ys) ≡ took i ys ++ x = rw q refl in
            let go : gave i (puts j x (Ok g) ∷ ys) ≡ gave i ys ++ g = rw q refl in
            record {
              link = ap b.link e ∙ s.only.this ∙ ap (λ z. Some (fed_link m z x)) same ∙ ap Some (fed_twice m (fresh m a) (took i ys) x) ∙ ap (λ z. Some (fed_link m (fresh m a) z)) (sym to);
              gives = go ∙ ap (λ z. z ++ g) l.gives ∙ ap (λ z. given_link m (fresh m a) (took i ys) ++ z) (s.gives ∙ ap (λ z. given_link m z x) same)
                  ∙ given_twice m (fresh m a) (took i ys) x ∙ ap (given_link m (fresh m a)) (sym to);
              bytes = rw to (bytes_append (took i ys) x l.bytes o.step.0);
              key = l.key;
              start = l.start;
              numbers = l.numbers;
              passed = l.passed;
            })
        | inr e ↦
            (let q : eqb i j ≡ false = ne_eqb i j e in
            kept (puts j x (Ok g)) ys o.books b (rw q (append-nil (took i ys))) (rw q (append-nil (gave i ys))) (s.only.others i e) l)
      ]
  session (puts j x (Err q) ∷ ys) b st r =
      let o = last m n (puts j x (Err q)) (ys ++ (opens a (Ok i) ∷ xs)) b r in
      kept (puts j x (Err q)) ys o.books b refl refl (o.step.1.1.holds.link i) (session ys o.books st o.ran)
  session (ends j (Ok g) ∷ ys) b st r =
      let o = last m n (ends j (Ok g)) (ys ++ (opens a (Ok i) ∷ xs)) b r in
      kept (ends j (Ok g)) ys o.books b refl refl (o.step.1.holds.closes.only.others i st.0) (session ys o.books st.1 o.ran)
  session (ends j (Err q) ∷ ys) b st r =
      let o = last m n (ends j (Err q)) (ys ++ (opens a (Ok i) ∷ xs)) b r in
      kept (ends j (Err q)) ys o.books b refl refl (o.step.1.holds.link i) (session ys o.books st o.ran)
  session (strikes j ∷ ys) b st r =
      let o = last m n (strikes j) (ys ++ (opens a (Ok i) ∷ xs)) b r in
      kept (strikes j) ys o.books b refl refl (struck_kept o.books j (o.books.link j) b st.0 o.step) (session ys o.books st.1 o.ran)
