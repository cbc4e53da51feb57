-- Where in a pile of ciphers a key's length is refused. Assumes nothing.
use Rattle.std.specs.Prelude.{ℕ}
use Rattle.refusal.specs.declared.KeyFault.{KeyFault}

-- refused by the topmost cipher itself
abbrev pub here : ℕ → KeyFault
here len = record { depth = 0; length = len }
