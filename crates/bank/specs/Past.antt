-- The past of a bank: its open, put, end and strike calls since it was sized, the newest first, each with its answer.
-- Assumes nothing.
use Rattle.std.specs.Prelude.{◌≡◌, ℕ, cond, List, [], ◌∷◌, ◌++◌, Some, None, Ok, Err, Option, Result, ◌==◌, ◌≢◌}
use Rattle.refusal.specs.declared.Refusal.{Refusal}
use Rattle.block.specs.Bytes.{Bytes}
use Rattle.kit.specs.Meaning.{Meaning}
use Rattle.bank.specs.Books.{Books, eight, one_if_open}
use Rattle.bank.specs.Calls.{Ask, Buffers, need, Opens, Puts, Ends, Strikes}

-- a call with its answer: an open the number of its link, a put and an end the bytes that they gave
pub data Event : Type 0 where
  opens : Ask → Result ℕ Refusal → Event
  puts : ℕ → List ℕ → Result (List ℕ) Refusal → Event
  ends : ℕ → Result (List ℕ) Refusal → Event
  strikes : ℕ → Event

-- ---- what a past alone tells

-- what the open link under number i asked for
abbrev pub open_now : List Event → ℕ → Option Ask
open_now [] i = None
open_now (opens a (Ok j) ∷ past) i = cond (i == j) (Some a) (open_now past i)
open_now (opens a (Err r) ∷ past) i = open_now past i
open_now (puts j piece r ∷ past) i = open_now past i
open_now (ends j (Ok bytes) ∷ past) i = cond (i == j) None (open_now past i)
open_now (ends j (Err r) ∷ past) i = open_now past i
open_now (strikes j ∷ past) i = cond (i == j) None (open_now past i)

-- the cells of a link, if it is open
abbrev pub need_if_open : Meaning → Option Ask → ℕ
need_if_open m None = 0
need_if_open m (Some a) = need m a.key

-- the cells of all open links, and how many are open
abbrev pub cells_now : Meaning → List Event → ℕ
cells_now m past = eight (λ i. need_if_open m (open_now past i))

abbrev pub links_now : List Event → ℕ
links_now past = eight (λ i. one_if_open (open_now past i))

-- of each accepted put on link i, what f takes of its piece and the bytes that it gave, joined in order
abbrev pub joined_puts : (List ℕ → List ℕ → List ℕ) → ℕ → List Event → List ℕ
joined_puts f i [] = []
joined_puts f i (opens a r ∷ past) = joined_puts f i past
joined_puts f i (puts j piece (Ok bytes) ∷ past) = joined_puts f i past ++ cond (i == j) (f piece bytes) []
joined_puts f i (puts j piece (Err r) ∷ past) = joined_puts f i past
joined_puts f i (ends j r ∷ past) = joined_puts f i past
joined_puts f i (strikes j ∷ past) = joined_puts f i past

-- the bytes that link i took, and gave, in the puts of some calls
abbrev pub took : ℕ → List Event → List ℕ
took i past = joined_puts (λ piece bytes. piece) i past

abbrev pub gave : ℕ → List Event → List ℕ
gave i past = joined_puts (λ piece bytes. bytes) i past

-- none of the calls closes link i
abbrev pub Stays : ℕ → List Event → Type 0
Stays i [] = Unit {0}
Stays i (opens a r ∷ past) = Stays i past
Stays i (puts j piece r ∷ past) = Stays i past
Stays i (ends j (Ok bytes) ∷ past) = (i ≢ j) × Stays i past
Stays i (ends j (Err r) ∷ past) = Stays i past
Stays i (strikes j ∷ past) = (i ≢ j) × Stays i past

-- A link that is open now, since the open a that handed out its ticket: it took the text, and its puts gave these bytes.
pub record Course (past : List Event) (i : ℕ) (a : Ask) (text bytes : List ℕ) : Type 0 where
  pub during : List Event
  pub before : List Event
  pub is : past ≡ during ++ (opens a (Ok i) ∷ before)
  pub stays : Stays i during
  pub takes : text ≡ took i during
  pub gives : bytes ≡ gave i during

-- A link of a past, from its open to an end with this answer.
pub record Session (past : List Event) (a : Ask) (text bytes : List ℕ) (answer : Result (List ℕ) Refusal) : Type 0 where
  pub link : ℕ
  pub later : List Event
  pub earlier : List Event
  pub is : past ≡ later ++ (ends link answer ∷ earlier)
  pub course : Course earlier link a text bytes

-- What a link took and gave since its open: so far, or in all, where its end was accepted.
pub data Gave (past : List Event) (a : Ask) (text : List ℕ) : List ℕ → Type 0 where
  so_far : {i : ℕ} {bytes : List ℕ} → Course past i a text bytes → Gave past a text bytes
  in_all : {bytes last : List ℕ} → Session past a text bytes (Ok last) → Gave past a text (bytes ++ last)

-- ---- the pasts that a bank may have

-- what is promised of a call
abbrev pub Step : Meaning → Books → Event → Books → Type 0
Step m b (opens a r) b' = Bytes a.key × Bytes a.start × Opens m b a r b'
Step m b (puts i piece r) b' = Bytes piece × ((f : Buffers) × Puts m b f i piece r b')
Step m b (ends i r) b' = (f : Buffers) × Ends m b f i r b'
Step m b (strikes i) b' = Strikes b i b'

-- n cells, all free, and no link is open
pub record New (n : ℕ) (b : Books) : Type 0 where
  pub size : b.size ≡ n
  pub room : b.room ≡ n
  pub link : (j : ℕ) → b.link j ≡ None

-- How the books of a bank of n cells may stand after a past: each call answers and leaves what is promised of it.
pub data Ran (m : Meaning) (n : ℕ) : List Event → Books → Type 0 where
  starts : {b : Books} → New n b → Ran m n [] b
  calls : {past : List Event} {b b' : Books} (e : Event) → Ran m n past b → Step m b e b' → Ran m n (e ∷ past) b'
