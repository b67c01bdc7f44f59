-- What the table with a root shows of a name: its certificate, or that it has none.
use Rattle.std.specs.Prelude.{ℕ, Bool, ◌&&◌, List}
use Rattle.std.specs.Str.{bytes_eq}
use Rattle.ar_names.specs.Names.{name_digest_of}
use Rattle.ar_cert.specs.Certificate.{certificate_value}
use Rattle.tree_proof.specs.Membership.{is_off, is_on}
use Rattle.ar_message.specs.Confirmation.{Body, Subject, absent, present}
use Rattle.ar_message.specs.Messages.{about_in, path_in, shown_in}
use Rattle.ar_message.specs.declared.message.Confirming.{Confirming}

-- the table with the root has this for the name: the certificate is the name's, and the steps lead from
-- the name's entry to the root; or they show that the name has no entry
unfoldable pub is_shown : Subject → Body → List ℕ → Bool
is_shown about (present certificate) steps =
    bytes_eq certificate.name about.name
    && is_on (name_digest_of about.name) (certificate_value certificate) steps about.root
is_shown about (absent bottom) steps = is_off (name_digest_of about.name) bottom steps about.root

-- a log's confirmation shows what it says
abbrev pub shows : Confirming → Bool
shows part = is_shown (about_in part) (shown_in part.body) (path_in part.body)
