use Rattle.modes.proofs.Pieces.{pieces_join}
use Rattle.modes.proofs.Cuts.{one_ciphertext}
use Rattle.modes.proofs.Alike.{same_ciphertext}
use Rattle.modes.proofs.Sent.{sends_ciphertext}
use Rattle.modes.proofs.Received.{receiving_inverts, receives_plaintext, receives_ciphertext}
use Rattle.modes.proofs.Heard.{receives_bytes}
use Rattle.modes.proofs.receiving_inverts_sending.Goals as goal

pub returns : goal.returns
returns c =
    record { pieces = pieces_join; sends = sends_ciphertext; one = one_ciphertext; alike = same_ciphertext; inverts = receiving_inverts; hears = receives_plaintext; receives = receives_ciphertext; judges = receives_bytes }
