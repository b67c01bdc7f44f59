-- Where an authority stands, as plain data, and what an answer to a message makes of that.
use Rattle.std.specs.Prelude.{◌≡◌, ℕ, ◌^◌, ◌<◌, ◌⊎◌, ◌-◌, List, [], ◌∷◌, length, None, Result, Ok, Err}
use Rattle.std.specs.Result.{result_map_both}
use Rattle.ar_base.specs.Gives.{StepsUnless, with_error}
use Rattle.ar_council.specs.Council.{council_of}
use Rattle.ar_message.specs.Sending.{Letter}
use Rattle.ar_message.specs.declared.address.Address.{Address}
use Rattle.ar_message.specs.declared.unsigned.Unsigned.{Unsigned}
use Rattle.ar_statement.specs.Claims.{Claim, text_of}
use Rattle.key_roll.specs.Due.{DueParts}
use Rattle.key_roll.specs.Entry.{entered}
use Rattle.party_keys.specs.Directory.{Directory}
use Rattle.authority_core.specs.Honest.{IsOfHonestAuthority}
use Rattle.authority_core.specs.Record.{AuthorityRecord}
use Rattle.authority_core.specs.Refusals.{of_book}
use Rattle.authority_core.specs.declared.refusal.AuthorityRefusal.{AuthorityRefusal}
use Rattle.authority_core.specs.declared.refusal.AuthorityRefusal.TheVariants.{Memory}

-- its number, the keys that it knows, how many bytes a signature of its own has, and what it remembers
pub record AuthorityState : Type 0 where
  pub me : ℕ
  pub keys : Directory
  pub signature_len : ℕ
  pub past : AuthorityRecord

-- What is true of each: the numbers are in their ranges, and what it remembers is an honest authority's.
pub record IsAuthority (s : AuthorityState) : Type 0 where
  pub number : s.me < 2 ^ 16
  pub bytes : s.signature_len < 2 ^ 16
  pub honest : IsOfHonestAuthority (council_of s.keys) s.me s.past

-- ---- answers

-- the answer to a message or an order: where the authority stands then and what it sends, or why it refuses
abbrev pub AuthorityAnswer : Type 0
AuthorityAnswer = Result (AuthorityState × Unsigned) AuthorityRefusal

-- A call answered as the row does, and the authority stands where the row says; or it refused so, or wanted memory, and the
-- authority stands as before.
abbrev pub StepsBy : Result Unsigned AuthorityRefusal → AuthorityState → AuthorityState → AuthorityAnswer → Type 0
StepsBy = StepsUnless Memory (λ new sent. (new, sent))

-- ---- what is sent

-- messages, and where the authority's own signature begins in the first
abbrev pub Prepared : Type 0
Prepared = List Letter × ℕ

-- one message, whose last bytes are to be a signature of so many bytes
abbrev pub prepared : ℕ → Address → List ℕ → Prepared
prepared len to bytes = (record { to = to; bytes = bytes } ∷ [], length bytes - len)

-- it is sent, with the signature that is due
abbrev pub sent_with : Prepared → DueParts → Unsigned
sent_with p due = record {
  sent = record { messages = p.0; ended = None };
  blanks = record { message = 0; at = p.1; due = due } ∷ [];
}

-- one message, whose last bytes are the authority's own signature, so many bytes, which is due
abbrev pub sends : ℕ → Address → List ℕ → DueParts → Unsigned
sends len to bytes due = sent_with (prepared len to bytes) due

-- the most messages that a step sends
abbrev pub most_sent : ℕ
most_sent = 1

-- ---- what is signed

-- what is due where a statement is entered in the book, or that no leaf is left
abbrev pub entering : AuthorityRecord → Claim → Result DueParts AuthorityRefusal
entering r claim = with_error of_book (entered r.signed (text_of claim))

-- the answer by what is due
abbrev pub if_due : {A : Type 0} → Result DueParts AuthorityRefusal → (DueParts → A) → Result A AuthorityRefusal
if_due entered answer = result_map_both answer (λ refusal. refusal) entered

-- This is due, as it should be, and the record is the one that it should be; or it was refused so, or memory was wanting, and
-- the record is as before.
abbrev pub EntersBy : Result DueParts AuthorityRefusal → AuthorityRecord → AuthorityRecord → Result DueParts AuthorityRefusal → AuthorityRecord → Type 0
EntersBy (Ok due) old new expected after = (expected ≡ Ok due) × (new ≡ after)
EntersBy (Err refusal) old new expected after = (new ≡ old) × ((refusal ≡ Memory) ⊎ (expected ≡ Err refusal))
