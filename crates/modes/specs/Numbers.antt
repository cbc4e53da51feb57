-- The numbers of modes and directions, as firmware gives them. Assumes nothing.
use Rattle.std.specs.Prelude.{ℕ, zero, suc, Ok, Err, Result}
use Rattle.refusal.specs.declared.Refusal.{Refusal}
use Rattle.refusal.specs.declared.Refusal.TheVariants as refusal
use Rattle.modes.specs.declared.Mode.{Mode}
use Rattle.modes.specs.declared.Mode.TheVariants.{Cbc, Cfb, Ofb}
use Rattle.modes.specs.declared.Direction.{Direction}
use Rattle.modes.specs.declared.Direction.TheVariants.{Send, Receive}

-- the modes are 1, 2 and 3
abbrev pub mode_numbered : ℕ → Result Mode Refusal
mode_numbered zero = Err refusal.Mode
mode_numbered (suc zero) = Ok Cbc
mode_numbered (suc (suc zero)) = Ok Cfb
mode_numbered (suc (suc (suc zero))) = Ok Ofb
mode_numbered (suc (suc (suc (suc n)))) = Err refusal.Mode

-- the directions are 0 and 1
abbrev pub direction_numbered : ℕ → Result Direction Refusal
direction_numbered zero = Ok Send
direction_numbered (suc zero) = Ok Receive
direction_numbered (suc (suc n)) = Err refusal.Mode
