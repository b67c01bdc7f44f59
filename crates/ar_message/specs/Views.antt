-- A confirmation, votes and statuses that are read in place, as contracts see them.
use Rattle.ar_message.specs.declared.fields.SubjectView.{SubjectView}
use Rattle.ar_message.specs.declared.fields.SignedView.{SignedView}
use Rattle.ar_message.specs.declared.fields.BodyView.{BodyView}
use Rattle.ar_message.specs.declared.fields.BodyView.TheVariants.{Present, Absent}
use Rattle.std.specs.Prelude.{List}
use Rattle.ar_message.specs.declared.confirming.ConfirmingView.{ConfirmingView}
use Rattle.ar_message.specs.declared.message.Confirming.{Confirming}
use Rattle.ar_message.specs.Messages.{body_with}
use Rattle.ar_message.specs.declared.take_lists.VoteView.{VoteView}
use Rattle.ar_message.specs.declared.take_lists.StatusView.{StatusView}
use Rattle.ar_message.specs.declared.lists.Vote.{Vote}
use Rattle.ar_message.specs.declared.lists.LogStatus.{LogStatus}
use Rattle.ar_message.specs.declared.view.ConfView.TheInside.{Inside}
use Rattle.ar_message.specs.Confirmation.{Subject, Body, present, absent, Signed, Confirmation, IsConfirmation}

-- what it is about
abbrev pub subject_of : SubjectView → Subject
subject_of v = record { client = v.client; epoch = v.epoch; name = v.name.now; root = v.root }

-- what the table has for the name
abbrev pub body_of : BodyView → Body
body_of (Present certificate) = present certificate
body_of (Absent bottom) = absent bottom

-- who signed, and how
abbrev pub signed_of : SignedView → Signed
signed_of v = record { number = v.number; signature = v.signature.now }

-- the confirmation that is viewed
abbrev pub confirmation_of : Inside → Confirmation
confirmation_of v = record { about = subject_of v.about; body = body_of v.body; steps = v.steps.now; log = signed_of v.log; first = signed_of v.first; second = signed_of v.second }

-- it is a confirmation
abbrev pub IsConfView : Inside → Type 0
IsConfView v = IsConfirmation (confirmation_of v)

-- a vote that is viewed
abbrev pub vote_of : VoteView → Vote
vote_of v = record { log = v.log; signature = v.signature.now }

-- a status that is viewed
abbrev pub status_of : StatusView → LogStatus
status_of v = record { log = v.log; value = v.value; signature = v.signature.now }

-- a confirmation on its way that is viewed, with its votes
abbrev pub confirming_of : ConfirmingView → List Vote → Confirming
confirming_of v votes = record {
  client = v.about.client;
  epoch = v.about.epoch;
  name = v.about.name.now;
  root = v.about.root;
  base = v.base;
  body = body_with (body_of v.shown) v.path.now;
  votes = votes;
  log = v.log.number;
  signature = v.log.signature.now;
  first = v.first;
  second = v.second;
}
