-- The law of banks. Assumes nothing.
use Rattle.std.proofs.Common.{◌≡◌, ℕ, ◌<◌, Bool, true, false, cond, not, eqb, ltb, List, [], ◌∷◌, ◌++◌, length, Some, None, Ok, Err, Result, sym, refl, ap, ◌∙◌, subst, ⊎_elim, append-nil, append_assoc, arith}
use Rattle.std.proofs.lemmas.Bool.{eqb-true, not-false, both_ways}
use Rattle.refusal.specs.Checks.{first}
use Rattle.refusal.specs.declared.KeyFault.{KeyFault}
use Rattle.refusal.specs.declared.Refusal.{Refusal}
use Rattle.refusal.specs.declared.Refusal.TheVariants.{Scratch, Memory, Cells, Mode as BadMode, Start, Links, Output, Ragged, Padding}
use Rattle.refusal.proofs.Checks.{none_due}
use Rattle.block.specs.Bytes.{Bytes, Block}
use Rattle.modes.specs.Modes.{Cipher, Ciphertext}
use Rattle.modes.specs.Machine.{State, opened, after, given, closing, ragged, bare, end_count}
use Rattle.modes.specs.Laws.{Enciphers, Deciphers, Agrees, Returned, Fit}
use Rattle.modes.specs.declared.Mode.{Mode}
use Rattle.modes.specs.declared.Mode.TheVariants.{Cbc, Cfb, Ofb}
use Rattle.modes.specs.declared.Direction.{Direction}
use Rattle.modes.specs.declared.Direction.TheVariants.{Send, Receive}
use Rattle.modes.proofs.Pieces.{given_append}
use Rattle.modes.proofs.Sent.{sends_ciphertext}
use Rattle.modes.proofs.Counts.{counted, ends_count}
use Rattle.modes.proofs.Received.{receives_ciphertext}
use Rattle.modes.proofs.Alike.{same_ciphertext}
use Rattle.kit.specs.Meaning.{Meaning, Sized, Sound, Agree}
use Rattle.kit.specs.Calls.{enciphered, deciphered}
use Rattle.kit.proofs.Calls.{enciphered_fits, deciphered_fits}
use Rattle.bank.specs.Books.{Books, Running, tool}
use Rattle.bank.specs.Calls.{Ask, Buffers, mode_of, direction_of, unknown, key_checks, need, start_checks, open_checks, link_checks, fresh, fed_link, given_link, last_bytes, end_tail, Ends}
use Rattle.bank.specs.Past.{Event, ends, Ran, Course, Session, Gave, so_far, in_all}
use Rattle.bank.specs.Law.{keyed, to_come, Sends, SendsFront, Hears, HearsFront, Law}
use Rattle.bank.proofs.Runs.{last, earlier}
use Rattle.bank.proofs.Totals.{told_ran, short_of_cells}
use Rattle.bank.proofs.Sessions.{session}

-- ---- what an accepted open has passed

pub key_passed : (q : Result ℕ KeyFault) (rest more : List (Bool × Refusal)) → None ≡ first ((key_checks q ++ rest) ++ more) → ((n : ℕ) × (q ≡ Ok n)) × (None ≡ first (rest ++ more))
key_passed (Ok n) rest more none = ((n, refl), none)
key_passed (Err fault) rest more none = let z : ◌≡◌ {A = ℕ} 0 1 = cc in absurd (omega arith)

record Accepted (m : Meaning) (a : Ask) : Type 0 where
  pub cells : ℕ
  pub key : m.need (length a.key) ≡ Ok cells
  pub start : length a.start ≡ m.width

-- past two checks, and past one
pub two_passed : (c d : Bool × Refusal) (rest : List (Bool × Refusal)) → None ≡ first (c ∷ (d ∷ rest)) → None ≡ first rest
two_passed c d rest none = (none_due d.0 d.1 (first rest) (none_due c.0 c.1 (first (d ∷ rest)) none).1).1

pub one_passed : (c : Bool × Refusal) (rest : List (Bool × Refusal)) → None ≡ first (c ∷ rest) → c.0 ≡ false
one_passed c rest none = (none_due c.0 c.1 (first rest) none).0

accepted : (m : Meaning) (a : Ask) (size links room : ℕ) → None ≡ first (open_checks m size links room a) → Accepted m a
accepted m a size links room none =
    let q = m.need (length a.key) in
    let more : List (Bool × Refusal) = (ltb room (need m a.key), Cells) ∷ [] in
    let two = two_passed (not (eqb a.scratch 1536), Scratch) (unknown a, BadMode) ((key_checks q ++ start_checks m size links a) ++ more) none in
    let three = key_passed q (start_checks m size links a) more two in
    let start = one_passed (not (eqb (length a.start) m.width), Start) ((not (eqb a.memory size), Memory) ∷ (ltb 7 links, Links) ∷ more) three.1 in
    record { cells = three.0.0; key = three.0.1; start = eqb-true (length a.start) m.width (not-false (eqb (length a.start) m.width) start) }

-- ---- the cipher of a link, and the kit's own under its key

module _ (m : Meaning) (sound : Sound m) (key : List ℕ) (bytes : Bytes key) (n : ℕ) (takes : m.need (length key) ≡ Ok n) where
  abbrev applied : Cipher
  applied = record { width = m.width; enc = enciphered m (length key) (m.schedule key); dec = deciphered m (length key) (m.schedule key) }

  sized : (b : List ℕ) → Block m.width b → Sized m (length key) (m.schedule key) b
  sized b bb = record { cells = n; accepted = takes; schedule = sound.scheduled n key takes bytes; block = bb }

  enc_is : (b : List ℕ) → Block m.width b → applied.enc b ≡ m.enc (length key) (m.schedule key) b
  enc_is b bb = enciphered_fits m (length key) (m.schedule key) b (sized b bb)

  enc_block : (b : List ℕ) → Block m.width b → Block m.width (m.enc (length key) (m.schedule key) b)
  enc_block b bb = sound.enciphers (length key) (m.schedule key) b (sized b bb)

  dec_is : (b : List ℕ) → Block m.width b → applied.dec (applied.enc b) ≡ b
  dec_is b bb =
      ap applied.dec (enc_is b bb) ∙ deciphered_fits m (length key) (m.schedule key) (m.enc (length key) (m.schedule key) b) (sized _ (enc_block b bb))
      ∙ sound.back (length key) (m.schedule key) b (sized b bb)

  some : 0 < m.width
  some = ⊎_elim (λ e. omega arith) (λ e. omega arith) sound.widths

  blocks : (b : List ℕ) → Block m.width b → Block m.width (applied.enc b)
  blocks b bb = let P : List ℕ → Type 0 = Block m.width in subst P (sym (enc_is b bb)) (enc_block b bb)

  enciphers : Enciphers applied
  enciphers = record { some = some; blocks = blocks }

  as_kit : (md : Mode) (start text out : List ℕ) → Block m.width start → Bytes text → Ciphertext md applied start text out → Ciphertext md (keyed m key) start text out
  as_kit md start text out bs bt c =
      same_ciphertext md applied (keyed m key) start text out enciphers (record { widths = refl; enc = λ b bb. sym (enc_is b bb) }) bs bt c

-- kits that agree on a key: the second's link answers the first's
answering : (m m' : Meaning) (sound : Sound m) (sound' : Sound m') (key : List ℕ) (bytes : Bytes key) (n n' : ℕ) (takes : m.need (length key) ≡ Ok n) (takes' : m'.need (length key) ≡ Ok n') →
    Agree m m' key → Agrees (applied m sound key bytes n takes) (applied m' sound' key bytes n' takes')
answering m m' sound sound' key bytes n n' takes takes' agree =
    record {
      alike = record { widths = agree.widths; enc = alike };
      back = λ b bb. ap (deciphered m' (length key) (m'.schedule key)) (sym (alike b bb)) ∙ dec_is m' sound' key bytes n' takes' b (wide b bb);
    }
  where
    wide : (b : List ℕ) → Block m.width b → Block m'.width b
    wide b bb = record { size = bb.size ∙ agree.widths; bytes = bb.bytes }

    alike : (b : List ℕ) → Block m.width b → enciphered m' (length key) (m'.schedule key) b ≡ enciphered m (length key) (m.schedule key) b
    alike b bb = enc_is m' sound' key bytes n' takes' b (wide b bb) ∙ sym (agree.alike b bb) ∙ sym (enc_is m sound key bytes n takes b bb)

-- ---- an open link as it is now

record Open (m : Meaning) (a : Ask) (i : ℕ) (text bytes : List ℕ) (b : Books) : Type 0 where
  pub link : b.link i ≡ Some (fed_link m (fresh m a) text)
  pub gives : bytes ≡ given_link m (fresh m a) text
  pub took_bytes : Bytes text
  pub key : Bytes a.key
  pub start : Block m.width a.start
  pub cells : ℕ
  pub takes : m.need (length a.key) ≡ Ok cells

open_on : (m : Meaning) (n : ℕ) (past : List Event) (b : Books) → Ran m n past b → (i : ℕ) (a : Ask) (text bytes : List ℕ) → Course past i a text bytes → Open m a i text bytes b
open_on m n past b r i a text bytes e =
    let l = session m n a i e.before e.during b e.stays (rw e.is at r) in
    let t = accepted m a l.numbers.0 l.numbers.1 l.numbers.2 l.passed in
    record {
      link = rw e.takes l.link;
      gives = rw e.takes (e.gives ∙ l.gives);
      took_bytes = rw e.takes l.bytes;
      key = l.key;
      start = record { size = t.start; bytes = l.start };
      cells = t.cells;
      takes = t.key;
    }

-- ---- the end of a session, and the link as it then was

record Closing (m : Meaning) (a : Ask) (text bytes : List ℕ) (answer : Result (List ℕ) Refusal) : Type 0 where
  pub number : ℕ
  pub books : Books
  pub after_it : Books
  pub buffers : Buffers
  pub until : Open m a number text bytes books
  pub step : Ends m books buffers number answer after_it

closes : (m : Meaning) (n : ℕ) (past : List Event) (b : Books) → Ran m n past b → (a : Ask) (text bytes : List ℕ) (answer : Result (List ℕ) Refusal) → Session past a text bytes answer → Closing m a text bytes answer
closes m n past b r a text bytes answer e =
    let s = earlier m n e.later (ends e.link answer ∷ e.earlier) b (rw e.is at r) in
    let o = last m n (ends e.link answer) e.earlier s.0 s.1 in
    record { number = e.link; books = o.books; after_it = s.0; buffers = o.step.0; until = open_on m n e.earlier o.books o.ran e.link a text bytes e.course; step = o.step.1 }

-- the last bytes of an accepted end
last_is : (m : Meaning) (a : Ask) (text bytes g : List ℕ) (c : Closing m a text bytes (Ok g)) → g ≡ last_bytes m (fed_link m (fresh m a) text)
last_is m a text bytes g c =
    let h = c.step.holds in
    let was : Some h.link ≡ Some (fed_link m (fresh m a) text) = sym h.closes.was ∙ c.until.link in
    let same : h.link ≡ fed_link m (fresh m a) text = cc in
    h.gives ∙ ap (last_bytes m) same

-- ---- sending

module _ (m : Meaning) (sound : Sound m) (a : Ask) (sending : a.direction ≡ 0) {i : ℕ} {b : Books} {text bytes : List ℕ} (o : Open m a i text bytes b) where
  abbrev md : Mode
  md = mode_of a.mode

  abbrev k : Cipher
  k = tool m (fresh m a)

  abbrev S : State
  S = opened a.start

  -- with what its end would give now, it gave the ciphertext
  sent_by : (g : List ℕ) → g ≡ last_bytes m (fed_link m (fresh m a) text) → Ciphertext md k a.start text (bytes ++ g)
  sent_by g is =
      let all : bytes ++ g ≡ given md Send k S text ++ closing md Send k (after md Send k S text) =
      ap (λ z. z ++ g) o.gives ∙ ap (λ z. given_link m (fresh m a) text ++ z) is
      ∙ ap (λ z. given md (direction_of z) k S text ++ closing md (direction_of z) k (after md (direction_of z) k S text)) sending in
      let P : List ℕ → Type 0 = Ciphertext md k a.start text in
      subst P (sym all) (sends_ciphertext md k a.start text (enciphers m sound a.key o.key o.cells o.takes) o.start o.took_bytes)

  sent_by_kit : (g : List ℕ) → g ≡ last_bytes m (fed_link m (fresh m a) text) → Ciphertext md (keyed m a.key) a.start text (bytes ++ g)
  sent_by_kit g is = as_kit m sound a.key o.key o.cells o.takes md a.start text (bytes ++ g) o.start o.took_bytes (sent_by g is)

sends : (m : Meaning) → Sound m → (n : ℕ) (past : List Event) (b : Books) → Ran m n past b → Sends m past
sends m sound n past b r a text bytes g d e =
    let c = closes m n past b r a text bytes (Ok g) e in
    sent_by_kit m sound a d c.until g (last_is m a text bytes g c)

-- how many bytes the end of a sending link gives
begins : (md : Mode) (k : Cipher) (start : List ℕ) → Enciphers k → Block k.width start → Fit md Send k (opened start)
begins Cbc k start e b = record { chain = b; held = tt; room = e.some }
begins Cfb k start e b = record { chain = b; held = tt; room = e.some }
begins Ofb k start e b = record { chain = b; held = tt; room = e.some }

end_is : (md : Mode) (k : Cipher) (s : State) → end_count md Send k s ≡ to_come md k.width
end_is Cbc k s = refl
end_is Cfb k s = refl
end_is Ofb k s = refl

receives_none : (md : Mode) (k : Cipher) → md ≡ Cbc → Send ≡ Receive → Deciphers k
receives_none md k c e = let z : ◌≡◌ {A = ℕ} 0 1 = cc in absurd (omega arith)

sends_front : (m : Meaning) → Sound m → (n : ℕ) (past : List Event) (b : Books) → Ran m n past b → SendsFront m past
sends_front m sound n past b r i a text bytes d e =
    let o = open_on m n past b r i a text bytes e in
    let md : Mode = mode_of a.mode in
    let k : Cipher = tool m (fresh m a) in
    let does : Enciphers k = enciphers m sound a.key o.key o.cells o.takes in
    let s : State = after md Send k (opened a.start) text in
    let fits = (counted md Send k (opened a.start) text does (receives_none md k) (begins md k a.start does o.start) o.took_bytes).0 in
    let way : last_bytes m (fed_link m (fresh m a) text) ≡ closing md Send k s = ap (λ z. closing md (direction_of z) k (after md (direction_of z) k (opened a.start) text)) d in
    record {
      last = last_bytes m (fed_link m (fresh m a) text);
      long = ap length way ∙ ends_count md Send k s does fits ∙ end_is md k s;
      is = sent_by_kit m sound a d o (last_bytes m (fed_link m (fresh m a) text)) refl;
    }

-- ---- receiving

-- a sending link, open or ended, and its ciphertext: what it gave, and what is to come
record Sending (m : Meaning) (a : Ask) (text bytes : List ℕ) : Type 0 where
  pub number : ℕ
  pub books : Books
  pub put : List ℕ
  pub until : Open m a number text put books
  pub more : List ℕ
  pub sent : Ciphertext (mode_of a.mode) (tool m (fresh m a)) a.start text (bytes ++ more)

sending : (m : Meaning) → Sound m → (n : ℕ) (past : List Event) (b : Books) → Ran m n past b → (a : Ask) (text bytes : List ℕ) → a.direction ≡ 0 → Gave past a text bytes → Sending m a text bytes
sending m sound n past b r a text bytes d (so_far {i} e) =
    let o = open_on m n past b r i a text bytes e in
    record { number = i; books = b; put = bytes; until = o; more = last_bytes m (fed_link m (fresh m a) text); sent = sent_by m sound a d o (last_bytes m (fed_link m (fresh m a) text)) refl }
sending m sound n past b r a text _ d (in_all {bytes = front} {last = last} e) =
    let c = closes m n past b r a text front (Ok last) e in
    let P : List ℕ → Type 0 = Ciphertext (mode_of a.mode) (tool m (fresh m a)) a.start text in
    record {
      number = c.number;
      books = c.books;
      put = front;
      until = c.until;
      more = [];
      sent = subst P (sym (append-nil (front ++ last))) (sent_by m sound a d c.until last (last_is m a text front last c));
    }

-- a receiver of the whole ciphertext has the text back
module _ (m m' : Meaning) (sound : Sound m) (sound' : Sound m') (a a' : Ask) {i i' : ℕ} {b b' : Books} {text put took gave : List ℕ} (o : Open m a i text put b) (o' : Open m' a' i' took gave b')
    (em : a'.mode ≡ a.mode) (ek : a'.key ≡ a.key) (es : a'.start ≡ a.start) (agree : Agree m m' a.key) where
  returned : (all : List ℕ) → Ciphertext (mode_of a.mode) (tool m (fresh m a)) a.start text all →
      Returned (mode_of a'.mode) (tool m' (fresh m' a')) (after (mode_of a'.mode) Receive (tool m' (fresh m' a')) (opened a'.start) all) (given (mode_of a'.mode) Receive (tool m' (fresh m' a')) (opened a'.start) all) text
  returned all sent =
      let md : Mode = mode_of a'.mode in
      let k' : Cipher = tool m' (fresh m' a') in
      let takes : m.need (length a'.key) ≡ Ok o.cells = rw ek o.takes in
      let agree' : Agree m m' a'.key = rw ek agree in
      let k : Cipher = applied m sound a'.key o'.key o.cells takes in
      let sent' : Ciphertext md k a'.start text all = rw (em, ek, es) sent in
      let start : Block m.width a'.start = rw es o.start in
      let back = receives_ciphertext md k k' a'.start text all (all ∷ []) (enciphers m sound a'.key o'.key o.cells takes)
      (answering m m' sound sound' a'.key o'.key o.cells o'.cells takes o'.takes agree') start o.took_bytes sent' (append-nil all) in
      let P : List ℕ → Type 0 = λ z. Returned md k' (after md Receive k' (opened a'.start) all) z text in
      subst P (append-nil (given md Receive k' (opened a'.start) all)) back

same_err : (e f : Refusal) → ◌≡◌ {A = Result (List ℕ) Refusal} (Err e) (Err f) → e ≡ f
same_err e f h = cc

-- an end that is neither ragged nor bare tells neither
no_fault : (s t r f o : Bool) → r ≡ false → f ≡ false → (e : Refusal) → Some e ≡ cond s (Some Scratch) (cond t (Some Memory) (cond r (Some Ragged) (cond f (Some Padding) (cond o (Some Output) None)))) → (e ≡ Ragged → ⊥) × (e ≡ Padding → ⊥)
no_fault true t r f o nr nf e told = ((λ q. let z : ◌≡◌ {A = ℕ} 0 1 = cc in omega arith), (λ q. let z : ◌≡◌ {A = ℕ} 0 1 = cc in omega arith))
no_fault false true r f o nr nf e told = ((λ q. let z : ◌≡◌ {A = ℕ} 0 1 = cc in omega arith), (λ q. let z : ◌≡◌ {A = ℕ} 0 1 = cc in omega arith))
no_fault false false true f o nr nf e told = absurd (both_ways true nr refl)
no_fault false false false true o nr nf e told = absurd (both_ways true nf refl)
no_fault false false false false true nr nf e told = ((λ q. let z : ◌≡◌ {A = ℕ} 0 1 = cc in omega arith), (λ q. let z : ◌≡◌ {A = ℕ} 0 1 = cc in omega arith))
no_fault false false false false false nr nf e told = let z : ◌≡◌ {A = ℕ} 0 1 = cc in absurd (omega arith)

heard : (m : Meaning) (a : Ask) (text cipher bytes : List ℕ) (answer : Result (List ℕ) Refusal) → a.direction ≡ 1 → (c : Closing m a cipher bytes answer) →
    Returned (mode_of a.mode) (tool m (fresh m a)) (fed_link m (fresh m a) cipher).state bytes text →
    (answer ≡ Err Ragged → ⊥) × (answer ≡ Err Padding → ⊥) × ((last : List ℕ) → answer ≡ Ok last → bytes ++ last ≡ text)
heard m a text cipher bytes (Ok g) d c back =
    let md : Mode = mode_of a.mode in
    let k : Cipher = tool m (fresh m a) in
    let S : State = (fed_link m (fresh m a) cipher).state in
    let is : g ≡ closing md Receive k S = last_is m a cipher bytes g c ∙ ap (λ z. closing md (direction_of z) k S) d in
    ((λ e. let z : ◌≡◌ {A = ℕ} 0 1 = cc in omega arith), (λ e. let z : ◌≡◌ {A = ℕ} 0 1 = cc in omega arith), (λ last e. let q : last ≡ g = cc in ap (λ z. bytes ++ z) (q ∙ is) ∙ back.gave))
heard m a text cipher bytes (Err e) d c back =
    let md : Mode = mode_of a.mode in
    let k : Cipher = tool m (fresh m a) in
    let S : State = (fed_link m (fresh m a) cipher).state in
    let L : Running = fed_link m (fresh m a) cipher in
    let told : Some e ≡ first (link_checks c.books c.buffers (Some L) ++ end_tail m c.buffers (Some L)) =
    c.step.told ∙ ap (λ z. first (link_checks c.books c.buffers z ++ end_tail m c.buffers z)) c.until.link in
    let nr : ragged md (direction_of a.direction) k S ≡ false = ap (λ z. ragged md (direction_of z) k S) d ∙ back.whole in
    let nf : bare md (direction_of a.direction) k S ≡ false = ap (λ z. bare md (direction_of z) k S) d ∙ back.marked in
    let q = no_fault (not (eqb c.buffers.scratch 1536)) (not (eqb c.buffers.memory c.books.size)) (ragged md (direction_of a.direction) k S) (bare md (direction_of a.direction) k S)
    (ltb c.buffers.out (length (last_bytes m L))) nr nf e told in
    ((λ h. q.0 (same_err e Ragged h)), (λ h. q.1 (same_err e Padding h)), (λ last h. let z : ◌≡◌ {A = ℕ} 0 1 = cc in absurd (omega arith)))

hears : (m : Meaning) → Sound m → (n : ℕ) (past : List Event) (b : Books) → Ran m n past b → (m' : Meaning) → Sound m' → (n' : ℕ) (past' : List Event) (b' : Books) → Ran m' n' past' b' → Hears m past m' past'
hears m sound n past b r m' sound' n' past' b' r' a a' text bytes g bytes' answer d e d' em ek es agree e' =
    let c = closes m n past b r a text bytes (Ok g) e in
    let c' = closes m' n' past' b' r' a' (bytes ++ g) bytes' answer e' in
    let md : Mode = mode_of a'.mode in
    let k' : Cipher = tool m' (fresh m' a') in
    let S : State = opened a'.start in
    let back = returned m m' sound sound' a a' c.until c'.until em ek es agree (bytes ++ g) (sent_by m sound a d c.until g (last_is m a text bytes g c)) in
    let w : given md Receive k' S (bytes ++ g) ≡ bytes' = sym (ap (λ z. given md (direction_of z) k' S (bytes ++ g)) d') ∙ sym c'.until.gives in
    let P : List ℕ → Type 0 = λ z. Returned md k' (after md Receive k' S (bytes ++ g)) z text in
    let Q : Direction → Type 0 = λ z. Returned md k' (after md z k' S (bytes ++ g)) bytes' text in
    heard m' a' text (bytes ++ g) bytes' answer d' c' (subst Q (sym (ap direction_of d')) (subst P w back))

hears_front : (m : Meaning) → Sound m → (n : ℕ) (past : List Event) (b : Books) → Ran m n past b → (m' : Meaning) → Sound m' → (n' : ℕ) (past' : List Event) (b' : Books) → Ran m' n' past' b' → HearsFront m past m' past'
hears_front m sound n past b r m' sound' n' past' b' r' i a a' text bytes took more gave d e d' em ek es agree e' front =
    let s = sending m sound n past b r a text bytes d e in
    let o' = open_on m' n' past' b' r' i a' took gave e' in
    let md : Mode = mode_of a'.mode in
    let k' : Cipher = tool m' (fresh m' a') in
    let S : State = opened a'.start in
    let back = returned m m' sound sound' a a' s.until o' em ek es agree (bytes ++ s.more) s.sent in
    let rest : List ℕ = more ++ s.more in
    let cut : took ++ rest ≡ bytes ++ s.more = sym (append_assoc took more s.more) ∙ ap (λ z. z ++ s.more) front in
    let X : List ℕ = given md Receive k' (after md Receive k' S took) rest in
    let Y : List ℕ = closing md Receive k' (after md Receive k' S (bytes ++ s.more)) in
    let is : gave ≡ given md Receive k' S took = o'.gives ∙ ap (λ z. given md (direction_of z) k' S took) d' in
    let whole : gave ++ X ≡ given md Receive k' S (bytes ++ s.more) = ap (λ z. z ++ X) is ∙ sym (given_append md Receive k' S took rest) ∙ ap (given md Receive k' S) cut in
    (X ++ Y, sym (append_assoc gave X Y) ∙ ap (λ z. z ++ Y) whole ∙ back.gave)

pub law : Law
law m sound n past b r =
    record {
      short = short_of_cells m n past b r;
      sends = sends m sound n past b r;
      sends_front = sends_front m sound n past b r;
      hears = λ m' sound' n' past' b' r'. (hears m sound n past b r m' sound' n' past' b' r', hears_front m sound n past b r m' sound' n' past' b' r');
      told = told_ran m n past b r;
    }
