-- How many messages each row of an owner sends.
use Rattle.std.proofs.Common.{◌≡◌, ℕ, List, [], length, Option, Some, None, Result, Ok, Err, ap, sym, ◌∙◌}
use Rattle.std.specs.Prelude.{option_and_then, slice_get}
use Rattle.std.proofs.lemmas.List.{length-map}
use Rattle.ar_base.specs.Chaining.{◌>>=◌}
use Rattle.ar_base.specs.Gives.{with_error}
use Rattle.ar_cert.specs.Certificate.{Certificate, digest_of}
use Rattle.ar_cert.specs.Changes.{Change}
use Rattle.ar_message.specs.Messages.{message_in}
use Rattle.ar_message.specs.declared.address.Address.TheVariants.{One}
use Rattle.ar_message.specs.declared.message.Message.{Message}
use Rattle.ar_message.specs.declared.message.Message.TheVariants.{EndorseAsk, Endorsed, RollNote}
use Rattle.ar_message.specs.declared.sent.Sent.{Sent}
use Rattle.ar_statement.specs.Claims.{authority_party, endorse, object, text_of}
use Rattle.party_keys.specs.Learning.{Announced, after_learning, learned}
use Rattle.party_keys.specs.Signatures.{verified}
use Rattle.owner_core.specs.declared.refusal.OwnerRefusal.{OwnerRefusal}
use Rattle.owner_core.specs.declared.refusal.OwnerRefusal.TheVariants.{Form, NotForOwner}
use Rattle.owner_core.specs.Drafts.{changed_draft, endorsed, place_of_draft}
use Rattle.owner_core.specs.Objecting.{objection}
use Rattle.owner_core.specs.Rows.{OwnerAnswer, begin_row, endorsed_row, is_own, letter, message_row, object_row, roll_refusal, roll_row, sent, step_row, submission, submit_row, verified_as}
use Rattle.owner_core.specs.Signing.{signed_by_owner}
use Rattle.owner_core.specs.State.{Owner}
use Rattle.owner_core.proofs.Spots.{found}

-- where a row answers, it sends so many messages
abbrev Sends : ℕ → OwnerAnswer Sent → Type 0
Sends n row = (reply : Sent) (later : Owner) → row ≡ Ok (reply, later) → length reply.messages ≡ n

abbrev reply-in : OwnerAnswer Sent → Sent → Sent
reply-in (Ok p) other = p.0
reply-in (Err refusal) other = other

-- what is sent is the answer's
answered : (given : Sent) (me : Owner) → Sends (length given.messages) (Ok (given, me))
answered given me reply later is = ap (λ (r : OwnerAnswer Sent). length (reply-in r given).messages) (sym is)

refused : (n : ℕ) (refusal : OwnerRefusal) → Sends n (Err refusal)
refused n refusal reply later is = absurd cc

-- behind a step that gives something, or refuses
behind : {A : Type 0} (n : ℕ) (first : Result A OwnerRefusal) (next : A → OwnerAnswer Sent) → ((a : A) → Sends n (next a)) → Sends n (first >>= next)
behind n (Ok a) next each = each a
behind n (Err refusal) next each = refused n refusal

-- ---- each row

pub begun : (me : Owner) (cert : Certificate) (asks : List ℕ) → Sends (length asks) (begin_row me cert asks)
begun me cert asks reply later is =
    answered _ _ reply later is ∙ length-map asks (λ (authority : ℕ). letter (One (authority_party authority)) (EndorseAsk me.number cert))

taken : (me : Owner) (owner authority : ℕ) (certificate signature : List ℕ) → Sends 0 (endorsed_row me owner authority certificate signature)
taken me owner authority certificate signature =
    behind 0 (is_own me owner) _
    (λ own. behind 0 (verified_as (authority_party authority) (verified me.directory (authority_party authority) (text_of (endorse authority certificate)) signature)) _
    (λ valid. behind 0 (changed_draft me.drafts certificate (endorsed (record { authority = authority; signature = signature }))) _
    (λ drafts. answered (sent []) (record me { drafts = drafts }))))

rolled : (me : Owner) (a : Announced) → Sends 0 (roll_row me a)
rolled me a =
    behind 0 (with_error (roll_refusal a.party a.generation) (learned me.directory a)) _
    (λ new. answered (sent []) (record me { directory = after_learning me.directory a }))

messaged : (me : Owner) (m : Message) → Sends 0 (message_row me m)
messaged me (Endorsed owner authority certificate signature) = taken me owner authority certificate signature
messaged me (RollNote party generation key signature) = rolled me (record { party = party; generation = generation; key = key; signature = signature })
messaged me _ = refused 0 NotForOwner

pub stepped : (me : Owner) (bytes : List ℕ) → Sends 0 (step_row me bytes)
stepped me bytes = behind 0 (with_error Form (message_in bytes)) (message_row me) (messaged me)

pub objected : (me : Owner) (cert : Certificate) → Sends 1 (object_row me cert)
objected me cert =
    behind 1 (signed_by_owner me (object (digest_of cert))) _ (λ signature. answered (submission (objection cert signature.0)) signature.1)

-- the draft is the one change that is sent
pub submitted : (me : Owner) (digest : List ℕ) (reply : Sent) → submit_row me digest ≡ Ok reply → length reply.messages ≡ 1
submitted me digest reply is = by (option_and_then (slice_get me.drafts) (place_of_draft me.drafts digest)) is
  where
    by : (draft : Option Change) → (found draft >>= λ draft. Ok (submission draft)) ≡ Ok reply → length reply.messages ≡ 1
    by None is = absurd cc
    by (Some draft) is =
        let same : submission draft ≡ reply = cc in
        ap (λ (s : Sent). length s.messages) (sym same)
