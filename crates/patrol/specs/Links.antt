-- A link between two sets. Assumes nothing.
use Rattle.std.specs.Prelude.{◌≡◌, ℕ, ◌+◌, ◌*◌, ◌%◌, List, [], take, Option, Result, Ok, Err, vec_items}
use Rattle.refusal.specs.declared.Refusal.{Refusal}
use Rattle.bank.specs.Books.{Books}
use Rattle.bank.specs.Calls.{Opens, Ends, Strikes}
use Rattle.bank_calls.specs.Calls.{asked, lengths}
use Rattle.searchfile.specs.declared.fault.Fault.TheVariants.{Memory as NoMemory}
use Rattle.patrol.specs.Radios.{key_memory, radio_books, radio_meaning}
use Rattle.patrol.specs.Steps.{unlinked_of}
use Rattle.patrol.specs.declared.set.Transceiver.{Transceiver}
use Rattle.patrol.specs.declared.radio.Radio.{Radio}
use Rattle.patrol.specs.declared.radio.Agreed.{Agreed}
use Rattle.patrol.specs.declared.channel.Channel.{Channel}
use Rattle.patrol.specs.declared.channel.Broken.{Broken}
use Rattle.patrol.specs.declared.channel.Broken.TheVariants.{ByPatroller, ByLeader, Memory}
use Rattle.patrol.specs.declared.event.Side.TheVariants.{Own, Leader}
use Rattle.patrol.specs.declared.event.Undone.{Undone}
use Rattle.patrol.specs.declared.event.Undone.TheVariants.{Refused, Fault}

-- the lists of both sets are as they were
pub record SameLists (patroller leader patroller' leader' : Transceiver) : Type 0 where
  pub patroller_shelf : patroller'.shelf ≡ patroller.shelf
  pub patroller_cells : patroller'.cells ≡ patroller.cells
  pub leader_shelf : leader'.shelf ≡ leader.shelf
  pub leader_cells : leader'.cells ≡ leader.cells

-- a radio opens a link in a direction, as it is agreed
abbrev pub OpensLink : Radio → (direction : ℕ) → Agreed → Result ℕ Refusal → Radio → Type 0
OpensLink r direction a answer r' =
    Opens (radio_meaning r) (radio_books r) (asked r.scratch (key_memory r) a.mode direction a.key.now a.start.now) answer (radio_books r')

-- it ends one, where it gives what it answers
abbrev pub EndsLink : Radio → (link : ℕ) → (out : List ℕ) → Result (List ℕ) Refusal → Books → Type 0
EndsLink r link out answer b = Ends (radio_meaning r) (radio_books r) (lengths r.scratch (key_memory r) out) link answer b

-- a link is opened on both sets, the patroller's to send and the leader's to receive
abbrev pub OpensBoth : (place : ℕ) → (patroller leader : Radio) → Agreed → Result Channel Broken → (patroller' leader' : Radio) → Type 0
OpensBoth place patroller leader a (Ok c) patroller' leader' =
    OpensLink patroller 0 a (Ok c.sends.link) patroller' × OpensLink leader 1 a (Ok c.receives.link) leader' × (c.place ≡ place) × (vec_items c.came ≡ [])
OpensBoth place patroller leader a (Err (ByPatroller refusal)) patroller' leader' = OpensLink patroller 0 a (Err refusal) patroller' × (leader' ≡ leader)
OpensBoth place patroller leader a (Err (ByLeader refusal)) patroller' leader' =
    OpensLink leader 1 a (Err refusal) leader' × ((opened : Radio) × (link : ℕ) × OpensLink patroller 0 a (Ok link) opened × Strikes (radio_books opened) link (radio_books patroller'))
OpensBoth place patroller leader a (Err (Memory e)) patroller' leader' = ⊥

-- a link ends with its last bytes; one that can't is struck
abbrev pub EndsOrStrikes : Radio → (link : ℕ) → (out : List ℕ) → Result ℕ Refusal → (out' : List ℕ) → Radio → Type 0
EndsOrStrikes r link out (Ok n) out' r' = EndsLink r link out (Ok (take n out')) (radio_books r')
EndsOrStrikes r link out (Err refusal) out' r' = (b : Books) × EndsLink r link out (Err refusal) b × Strikes b link (radio_books r')

-- what a broken call is told as: the refusal of one of the sets, with its free key cells
abbrev pub undone_of : (patroller leader : Transceiver) → Broken → Option ℕ → Undone
undone_of patroller leader (ByPatroller refusal) needed = Refused (unlinked_of patroller Own refusal needed)
undone_of patroller leader (ByLeader refusal) needed = Refused (unlinked_of leader Leader refusal needed)
undone_of patroller leader (Memory e) needed = Fault (NoMemory e)

-- byte i of the key that is made up for link n
abbrev pub key_byte : (n i : ℕ) → ℕ
key_byte n i = (i % 256 * 59 % 256 + n % 256 * 101 % 256) % 256
