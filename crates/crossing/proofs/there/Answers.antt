use Rattle.std.proofs.Common.{◌≡◌, ℕ, List, [], ◌∷◌, ◌++◌, length, Ok, Result, ◌==◌, sym, refl, ap, ap₂, rules}
use Rattle.std.proofs.lemmas.Bool.{eq-eqb, cond-true}
use Rattle.refusal.specs.declared.Refusal.{Refusal}
use Rattle.shelf.specs.Past.{its_own}
use Rattle.kit.specs.Meaning.{Agree}
use Rattle.aes.specs.Versions.{aes, need}
use Rattle.aes.specs.Sound.{sound}
use Rattle.bank.specs.Calls.{Ask}
use Rattle.bank.specs.Past.{opens, puts, ends, Session}
use Rattle.bank_calls.specs.Calls.{number, gave, reason}
use Rattle.crossing.proofs.there.Goals as goal

-- an open, a put and an end that are accepted are a session of their past
one_piece : (a : Ask) (x : Result ℕ Refusal) (l l' : ℕ) (text bytes last : List ℕ) (y z : Result (List ℕ) Refusal)
    → x ≡ Ok l → l' ≡ l → y ≡ Ok bytes → z ≡ Ok last → Session (ends l z ∷ (puts l' text y ∷ (opens a x ∷ []))) a text bytes (Ok last)
one_piece a x l l' text bytes last y z q1 q0 q2 q3 = record {
  link = l;
  later = [];
  earlier = puts l' text y ∷ (opens a x ∷ []);
  is = cc;
  course = record {
    during = puts l text (Ok bytes) ∷ [];
    before = [];
    is = cc;
    stays = tt;
    takes = sym (cond-true (l == l) text [] (eq-eqb l l refl));
    gives = sym (cond-true (l == l) bytes [] (eq-eqb l l refl));
  };
}

-- and so with two puts, whatever the end answers
two_pieces : (a : Ask) (x : Result ℕ Refusal) (l l' l'' : ℕ) (p q b d : List ℕ) (y z answer : Result (List ℕ) Refusal)
    → x ≡ Ok l → l' ≡ l → l'' ≡ l → y ≡ Ok b → z ≡ Ok d
    → Session (ends l answer ∷ (puts l'' q z ∷ (puts l' p y ∷ (opens a x ∷ [])))) a (p ++ q) (b ++ d) answer
two_pieces a x l l' l'' p q b d y z answer q1 q0 q00 q2 q3 =
    let e = eq-eqb l l refl in
    record {
      link = l;
      later = [];
      earlier = puts l'' q z ∷ (puts l' p y ∷ (opens a x ∷ []));
      is = cc;
      course = record {
        during = puts l q (Ok d) ∷ (puts l p (Ok b) ∷ []);
        before = [];
        is = cc;
        stays = tt;
        takes = sym (ap₂ ◌++◌ (cond-true (l == l) p [] e) (cond-true (l == l) q [] e));
        gives = sym (ap₂ ◌++◌ (cond-true (l == l) b [] e) (cond-true (l == l) d [] e));
      };
    }

pub returns-in-Ok-end-2 : goal.returns-in-Ok-end-2
returns-in-Ok-end-2 c =
    let begins = c.size.ensures.begins c.in_ok-size.was _ refl in
    let opened = c.open.ensures.past 11 [] _ _ begins (its_own refl refl) in
    let fed = c.put.ensures.past 11 _ _ _ opened (its_own refl refl) in
    let ended = c.end.ensures.past 11 _ _ _ fed (its_own refl refl) in
    let sent =
    one_piece _ _ _ _ c.args.text.now _ _ _ _ (ap number c.in_ok-sends.was) c.link.ensures
    (ap (λ r. gave r c.put.new.out) c.in-Ok.is) (ap (λ r. gave (reason r) c.end.new.out) c.in-Ok-end.is)
    in
    let begins_there = c.size-2.ensures.begins c.in_ok-size-2.was _ refl in
    let opened_there = c.open-2.ensures.past 11 [] _ _ begins_there (its_own refl refl) in
    let one = c.put-2.ensures.past 11 _ _ _ opened_there (its_own refl refl) in
    let two = c.put-3.ensures.past 11 _ _ _ one (its_own refl refl) in
    let ended_there = c.end-2.ensures.past 11 _ _ _ two (its_own refl refl) in
    let heard =
    two_pieces _ _ _ _ _ _ _ _ _ _ _ _ (ap number c.in_ok-hears.was) c.link-2.ensures c.link-3.ensures
    (ap (λ r. gave r c.put-2.new.out) c.in-Ok-put.is) (ap (λ r. gave r c.put-3.new.out) c.in-Ok-put-2.is)
    in
    let long : length c.args.key.now ≡ 16 = search rules in
    let agree : Agree aes aes c.args.key.now = record { first = (11, ap need long); second = (11, ap need long); widths = refl; alike = λ x h. refl } in
    let law = (c.size.ensures.law aes sound 11 _ _ ended).hears aes sound 11 _ _ ended_there in
    (law.0 _ _ _ _ _ _ _ refl sent refl refl refl refl agree heard).2 _ (ap (λ r. gave (reason r) c.end-2.new.out) c.in-Ok-end-2.is)
