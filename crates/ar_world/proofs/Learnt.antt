-- What the line `learn` makes of a world.
use Rattle.std.proofs.Common.{◌≡◌, ℕ, List, [], ◌∷◌, Some, Ok, refl}
use Rattle.ar_message.specs.Messages.{message_in}
use Rattle.ar_statement.specs.declared.text.SeenText.{SeenText}
use Rattle.party_keys.specs.Directory.{Directory}
use Rattle.report_text.specs.declared.happening.Happening.{Happening}
use Rattle.report_text.specs.declared.happening.Happening.TheVariants.{Learnt}
use Rattle.ar_world.specs.Finding.{message_at}
use Rattle.ar_world.specs.Learning.{knows_by, learn_line, refused_by, rolls_by}
use Rattle.client_rule.specs.Notes.{note_of}
use Rattle.ar_nodes.specs.Pool.{Pooled}
use Rattle.ar_world.specs.State.{World}

-- the clients' directory takes what the message announces, and that of the first keys stays
pub learns : (w : World) (message : ℕ) (p : Pooled) (bytes : List ℕ) (genesis clients : Directory) (rolls : List SeenText) (said : List Happening)
    → message_at w message ≡ Some p → bytes ≡ p.bytes → genesis ≡ w.genesis → clients ≡ knows_by w.clients (note_of (message_in bytes))
    → rolls ≡ rolls_by w.clients w.learned (note_of (message_in bytes)) → said ≡ Learnt message (refused_by w.clients (note_of (message_in bytes))) ∷ []
    → learn_line w message ≡ Ok (record w { genesis = genesis; clients = clients; learned = rolls }, said)
learns w message p bytes genesis clients rolls said there is one two three four = rw (four, three, two, one, is, there) refl
