use Rattle.std.proofs.Common.{◌/◌, sym, ap, ◌∙◌, ap₂, inl, inr}
use Rattle.block.specs.Bytes.{xor}
use Rattle.block.specs.Table.{sub}
use Rattle.aes.specs.Tables.{s_box}
use Rattle.aes.specs.Keys.{rot_word, sub_word}
use Rattle.aes.specs.KeysLemmas.{rcon_is, changed_first, changed_middle, changed_not}
use Rattle.aes.proofs.schedule.KeyWords.changed_word.Goals as goal
use Rattle.aes.proofs.schedule.KeyWords.changed_word.Goals.{else-self-gt-SHORT_KEY-via-then-self-gt-SHORT_KEY+else-i-self-eq4, else-self-gt-SHORT_KEY-via-else-self-gt-SHORT_KEY}

pub returns-then-i-self-eq0 : goal.returns-then-i-self-eq0
unfolding rot_word sub_word s_box
returns-then-i-self-eq0 c =
    c.xor_whole.ensures
    ∙ ap₂ xor (c.substitute.ensures ∙ ap (sub s_box) c.rotate_left.ensures.after) (rcon_is (c.args.i / c.args.self.nk) c.power_of_x.result c.power_of_x.ensures)
    ∙ sym (changed_first c.args.self.nk c.args.i c.args.last.now c.if-i-self-eq0.true)

pub returns-then-i-self-eq4 : goal.returns-then-i-self-eq4
unfolding sub_word s_box
returns-then-i-self-eq4 c =
    c.substitute-then-i-self-eq4.ensures
    ∙ sym (changed_middle c.args.self.nk c.args.i c.args.last.now c.if-i-self-eq0.false c.if-self-gt-SHORT_KEY.true c.if-i-self-eq4.true)

pub returns-else-self-gt-SHORT_KEY : goal.returns-else-self-gt-SHORT_KEY
returns-else-self-gt-SHORT_KEY c =
    sym (changed_not c.args.self.nk c.args.i c.args.last.now c.if-i-self-eq0.false
    (elim c.else-self-gt-SHORT_KEY.branch [ else-self-gt-SHORT_KEY-via-then-self-gt-SHORT_KEY+else-i-self-eq4 v ↦ inr v.if-i-self-eq4.false | else-self-gt-SHORT_KEY-via-else-self-gt-SHORT_KEY v ↦ inl v.if-self-gt-SHORT_KEY.false ]))
