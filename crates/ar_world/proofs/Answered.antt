-- What owners answer, and the lines on what becomes of drafts.
use Rattle.std.proofs.Common.{◌≡◌, ◌≢◌, ℕ, zero, suc, ◌+◌, ◌<◌, ◌⊎◌, inl, inr, List, [], ◌∷◌, length, get_or, Some, None, Result, Ok, Err, IfErr, refl, sym, ap, subst, ◌∙◌, arith}
use Rattle.std.specs.Prelude.{IfOk, position, slice_set}
use Rattle.ar_base.specs.Chaining.{◌>>=◌}
use Rattle.ar_base.proofs.Shown.{if-chained}
use Rattle.ar_cert.specs.Certificate.{Certificate, digest_of}
use Rattle.ar_cert.specs.Changes.{Change}
use Rattle.ar_statement.specs.Claims.{object, owner_party}
use Rattle.ar_statement.specs.declared.party.Party.{Party}
use Rattle.owner_core.specs.Drafts.{changed_draft, handed_over}
use Rattle.owner_core.specs.Rows.{attach_row, handover_row, object_row}
use Rattle.owner_core.specs.Signing.{after_signing, signed_by_owner, signed_at}
use Rattle.owner_core.specs.State.{Owner}
use Rattle.owner_core.specs.declared.refusal.OwnerRefusal.{OwnerRefusal}
use Rattle.owner_core.specs.declared.refusal.OwnerRefusal.TheVariants as refusals
use Rattle.report_text.specs.declared.happening.Happening.{Happening}
use Rattle.report_text.specs.declared.happening.Happening.TheVariants.{Step}
use Rattle.report_text.specs.declared.happening.What.TheVariants.{Handover}
use Rattle.ar_statement.specs.declared.fault.BookFault.{BookFault}
use Rattle.ar_nodes.specs.Acting.{ActsBy, owner_objected, owner_submitted}
use Rattle.ar_nodes.specs.Codes.{owner_code}
use Rattle.ar_world.specs.Finding.{Effect, owner_at, room, with_owner}
use Rattle.ar_nodes.specs.Finding.{is_owner, named}
use Rattle.ar_nodes.specs.Pool.{Pooled}
use Rattle.ar_world.specs.State.{Drafted, Moved, World}
use Rattle.ar_world.specs.Step.{StepsBy}
use Rattle.ar_world.specs.Sending.{owner_made}
use Rattle.ar_world.specs.Submitting.{attached, attached_by, handed, handover_line, object_line, submit_line}
use Rattle.ar_nodes.specs.declared.fault.WorldFault.{WorldFault}
use Rattle.ar_nodes.specs.declared.fault.WorldFault.TheVariants as faults
use Rattle.ar_world.proofs.Drafts.{draft_is_at, owner_is_at, owner_number, owner_put, same_item, steps_as}
use Rattle.ar_nodes.proofs.Found.{item_kept, owner_nowhere}
use Rattle.ar_world.proofs.Orders.{acts-steps}
use Rattle.ar_world.proofs.OwnerReplies.{does-number, owner-made, owner-steps}

-- ---- what rows keep

signed-number : (me : Owner) (text : List ℕ) (r : Result ℕ BookFault) (made : List ℕ × Owner) → signed_at me text r ≡ Ok made → made.1.number ≡ me.number
signed-number me text (Ok leaf) made e =
    let same : made.1 ≡ after_signing me text = cc in
    ap (λ (o : Owner). o.number) same
signed-number me text (Err fault) made e = absurd (cc)

pub handover_number : (me : Owner) (digest : List ℕ) (made : List ℕ × Owner) → handover_row me digest ≡ Ok made → made.1.number ≡ me.number
handover_number me digest made e = signed-number me _ _ made e

object-number : (me : Owner) (cert : Certificate) → IfOk (object_row me cert) (λ made. made.1.number ≡ me.number)
object-number me cert = if-chained (signed_by_owner me (object (digest_of cert))) _ (λ made. made.1.number ≡ me.number) (λ signature e. signed-number me _ _ signature e)

attached-number : (me : Owner) (r : Result (List Change) OwnerRefusal) (made : Unit {0} × Owner) → (r >>= λ drafts. Ok (tt, record me { drafts = drafts })) ≡ Ok made → made.1.number ≡ me.number
attached-number me (Ok drafts) made e =
    let same : made.1 ≡ record me { drafts = drafts } = cc in
    ap (λ (o : Owner). o.number) same
attached-number me (Err refusal) made e = absurd (cc)

-- ---- `object` and `submit`

pub objected_there : (result : Result (List Happening) WorldFault) (w : World) (number place draft spot : ℕ) (me new : Owner) (found : Drafted) (after : List Pooled)
    → position (is_owner number) w.owners ≡ Some place → me ≡ get_or w.owners place me → draft ≡ spot + 1 → spot < length w.drafts → found ≡ get_or w.drafts spot found
    → room w ≡ Ok tt → ActsBy result me new w.pool after (owner_objected w.pool number draft found.cert me)
    → StepsBy result w (record w { owners = slice_set w.owners place new; pool = after }) (object_line w number draft)
objected_there result w number place draft spot me new found after here is next lt is-found free acts =
    let owner = owner_is_at w number place me here is in
    let there = draft_is_at w draft spot found next lt is-found in
    let made = owner_objected w.pool number draft found.cert me in
    let reached : object_line w number draft ≡ Ok (owner_made w made) = rw (owner, there, free) refl in
    owner-steps w number place me result new after made (object_line w number draft) here is acts
    (reached ∙ ap (λ m. Ok m) (owner-made w number place me made here is (does-number me (object_row me found.cert) (object-number me found.cert))))

-- what an owner that stays as it is makes of a world
abbrev sent_made : World → Owner × (List Pooled × List Happening) → Moved
sent_made w made = (record w { pool = made.1.0 }, made.1.1)

-- by two names of the draft
pub submits : (result : Result (List Happening) WorldFault) (w : World) (place draft spot : ℕ) (me : Owner) (found again : Drafted) (after : List Pooled)
    → position (is_owner found.owner) w.owners ≡ Some place → me ≡ get_or w.owners place me → draft ≡ spot + 1 → spot < length w.drafts → found ≡ get_or w.drafts spot found
    → again ≡ get_or w.drafts spot again → room w ≡ Ok tt
    → ActsBy result me me w.pool after (owner_submitted w.pool found.owner draft again.cert me)
    → StepsBy result w (record w { pool = after }) (submit_line w draft)
submits result w place draft spot me found again after here is next lt is-found is-again free acts =
    let one : again ≡ found = same_item w.drafts spot again found lt is-again is-found in
    let owner = owner_is_at w found.owner place me here is in
    let there = draft_is_at w draft spot found next lt is-found in
    let made = owner_submitted w.pool found.owner draft again.cert me in
    let reached : submit_line w draft ≡ Ok (owner_made w (owner_submitted w.pool found.owner draft found.cert me)) = rw (there, owner, free) refl in
    let same : with_owner w me ≡ w =
    owner_put w found.owner place me here (owner_number w.owners found.owner place me here is)
    ∙ ap (λ (owners : List Owner). record w { owners = owners }) (item_kept w.owners place me me is refl) in
    acts-steps w (λ o pool. record w { pool = pool }) me me result after made (submit_line w draft) refl acts
    (reached ∙ ap (λ (d : Drafted). Ok (owner_made w (owner_submitted w.pool found.owner draft d.cert me))) (sym one)
    ∙ ap (λ (v : World). Ok (sent_made v made)) same)

-- ---- handovers

pub attached_there : (w : World) (number place : ℕ) (me new : Owner) (digest signature : List ℕ)
    → position (is_owner number) w.owners ≡ Some place → me ≡ get_or w.owners place me → attach_row me digest signature ≡ Ok (tt, new)
    → record w { owners = slice_set w.owners place new } ≡ attached_by w (owner_at w number) digest signature
attached_there w number place me new digest signature here is row =
    let owner = owner_is_at w number place me here is in
    let same : new.number ≡ number =
    attached-number me (changed_draft me.drafts digest (handed_over signature)) (tt, new) row ∙ owner_number w.owners number place me here is
    in sym (ap (λ o. attached_by w o digest signature) owner ∙ ap (attached w) row ∙ owner_put w number place new here same)

pub unattached : (w : World) (number place : ℕ) (me new : Owner) (digest signature : List ℕ) (refusal : OwnerRefusal)
    → position (is_owner number) w.owners ≡ Some place → me ≡ get_or w.owners place me → new ≡ me → attach_row me digest signature ≡ Err refusal
    → record w { owners = slice_set w.owners place new } ≡ attached_by w (owner_at w number) digest signature
unattached w number place me new digest signature refusal here is kept row =
    let owner = owner_is_at w number place me here is
    in ap (λ (o : List Owner). record w { owners = o }) (item_kept w.owners place me new is kept)
    ∙ sym (ap (λ o. attached_by w o digest signature) owner ∙ ap (attached w) row)

pub attached_nowhere : (w : World) (number : ℕ) (digest signature : List ℕ) → position (is_owner number) w.owners ≡ None → w ≡ attached_by w (owner_at w number) digest signature
attached_nowhere w number digest signature here = sym (ap (λ o. attached_by w o digest signature) (owner_nowhere w.owners number here))

pub ruleset attaches = (attached_there, unattached)

-- the handover is signed, and put to the draft
pub handed_done : (w after : World) (number place draft : ℕ) (me new : Owner) (found : Drafted) (digest signature : List ℕ) (said : List Happening)
    → position (is_owner number) w.owners ≡ Some place → me ≡ get_or w.owners place me → digest_of found.cert ≡ digest → handover_row me digest ≡ Ok (signature, new)
    → after ≡ attached_by (record w { owners = slice_set w.owners place new }) (owner_at (record w { owners = slice_set w.owners place new }) found.owner) digest signature
    → said ≡ Step (owner_party number) (Handover draft) None ∷ []
    → handed w number draft found (handover_row me digest) ≡ (after, said)
handed_done w after number place draft me new found digest signature said here is same row done told =
    let mine : new.number ≡ number = handover_number me digest (signature, new) row ∙ owner_number w.owners number place me here is in
    let put = owner_put w number place new here mine in
    ap (handed w number draft found) row
    ∙ ap (λ (v : World). (attached_by v (owner_at v found.owner) (digest_of found.cert) signature, Step (owner_party number) (Handover draft) None ∷ [])) put
    ∙ ap (λ (d : List ℕ). (attached_by (record w { owners = slice_set w.owners place new }) (owner_at (record w { owners = slice_set w.owners place new }) found.owner) d signature, Step (owner_party number) (Handover draft) None ∷ [])) same
    ∙ ap (λ (v : World). (v, Step (owner_party number) (Handover draft) None ∷ [])) (sym done) ∙ ap (λ (s : List Happening). (after, s)) (sym told)

-- or it is refused
pub handed_refused : (w : World) (number place draft : ℕ) (me new : Owner) (found : Drafted) (digest : List ℕ) (refusal : OwnerRefusal) (said : List Happening)
    → me ≡ get_or w.owners place me → new ≡ me → handover_row me digest ≡ Err refusal
    → said ≡ Step (owner_party number) (Handover draft) (Some (owner_code refusal)) ∷ []
    → handed w number draft found (handover_row me digest) ≡ (record w { owners = slice_set w.owners place new }, said)
handed_refused w number place draft me new found digest refusal said is kept row told =
    ap (handed w number draft found) row ∙ rw (item_kept w.owners place me new is kept, told) refl

pub hands_done : (w after : World) (number place draft : ℕ) (me e new : Owner) (holder : ℕ) (found : Drafted) (digest signature : List ℕ) (who : Party) (said : List Happening)
    → position (is_owner number) w.owners ≡ Some place → place < length w.owners → me ≡ get_or w.owners place me → e ≡ get_or w.owners place e → found.owner ≡ holder → digest_of found.cert ≡ digest
    → handover_row e digest ≡ Ok (signature, new)
    → after ≡ attached_by (record w { owners = slice_set w.owners place new }) (owner_at (record w { owners = slice_set w.owners place new }) holder) digest signature
    → who ≡ owner_party number → said ≡ Step who (Handover draft) None ∷ []
    → ◌≡◌ {A = Effect} (Ok (handed w number draft found (handover_row me digest))) (Ok (after, said))
hands_done w after number place draft me e new holder found digest signature who said here lt is-me is-e held same row done named told =
    let one : me ≡ e = same_item w.owners place me e lt is-me is-e in
    let put : World = record w { owners = slice_set w.owners place new } in
    let behind = subst (λ n. after ≡ attached_by put (owner_at put n) digest signature) (sym held) done in
    let says = told ∙ ap (λ (p : Party). Step p (Handover draft) None ∷ []) named in
    ap Ok (handed_done w after number place draft me new found digest signature said here is-me same (ap (λ (o : Owner). handover_row o digest) one ∙ row) behind says)

hands-refused : (result : Result (List Happening) WorldFault) (w : World) (number place draft : ℕ) (me new : Owner) (found : Drafted) (digest : List ℕ) (refusal : OwnerRefusal)
    → me ≡ get_or w.owners place me → new ≡ me → (refusal ≡ refusals.Memory) ⊎ (handover_row me digest ≡ Err refusal)
    → IfOk result (λ said. (said ≡ Step (owner_party number) (Handover draft) (Some (owner_code refusal)) ∷ []) × (refusal ≢ refusals.Memory))
    → IfErr result (λ fault. (fault ≡ faults.Memory) × (refusal ≡ refusals.Memory))
    → StepsBy result w (record w { owners = slice_set w.owners place new }) (Ok (handed w number draft found (handover_row me digest)))
hands-refused (Ok said) w number place draft me new found digest refusal is kept row ok err =
    elim row [ inl m ↦ absurd (ok.1 m) | inr r ↦ ap Ok (handed_refused w number place draft me new found digest refusal said is kept r ok.0) ]
hands-refused (Err fault) w number place draft me new found digest refusal is kept row ok err = (rw (item_kept w.owners place me new is kept) refl, inl err.0)

pub hands_refused : (result : Result (List Happening) WorldFault) (w : World) (number place draft : ℕ) (me e new : Owner) (found : Drafted) (digest : List ℕ) (refusal : OwnerRefusal) (who : Party)
    → place < length w.owners → me ≡ get_or w.owners place me → e ≡ get_or w.owners place e → new ≡ e → (refusal ≡ refusals.Memory) ⊎ (handover_row e digest ≡ Err refusal)
    → who ≡ owner_party number → IfOk result (λ said. (said ≡ Step who (Handover draft) (Some (owner_code refusal)) ∷ []) × (refusal ≢ refusals.Memory))
    → IfErr result (λ fault. (fault ≡ faults.Memory) × (refusal ≡ refusals.Memory))
    → StepsBy result w (record w { owners = slice_set w.owners place new }) (Ok (handed w number draft found (handover_row me digest)))
hands_refused result w number place draft me e new found digest refusal who lt is-me is-e kept row named ok err =
    let one : e ≡ me = same_item w.owners place e me lt is-e is-me in
    let says = subst (λ (p : Party). IfOk result (λ said. (said ≡ Step p (Handover draft) (Some (owner_code refusal)) ∷ []) × (refusal ≢ refusals.Memory))) named ok in
    subst (λ (o : Owner). StepsBy result w (record w { owners = slice_set w.owners place new }) (Ok (handed w number draft found (handover_row o digest)))) one
    (hands-refused result w number place draft e new found digest refusal is-e kept row says err)

pub handed_there : (w : World) (number place draft spot : ℕ) (me : Owner) (found : Drafted)
    → position (is_owner number) w.owners ≡ Some place → me ≡ get_or w.owners place me → draft ≡ spot + 1 → spot < length w.drafts → found ≡ get_or w.drafts spot found
    → handover_line w number draft ≡ Ok (handed w number draft found (handover_row me (digest_of found.cert)))
handed_there w number place draft spot me found here is next lt is-found =
    let owner = owner_is_at w number place me here is in
    let there = draft_is_at w draft spot found next lt is-found in
    rw (owner, there) refl

-- what stands at a place
there-is : {X : Type 0} (xs : List X) (i : ℕ) → i < length xs → (x : X) × (x ≡ get_or xs i x)
there-is [] i lt = absurd (omega (arith, lt))
there-is (x ∷ xs) zero lt = (x, refl)
there-is (x ∷ xs) (suc i) lt = there-is xs i (omega (arith, lt))

pub handed_line : (result : Result (List Happening) WorldFault) (w new : World) (number place draft spot holder : ℕ) (found : Drafted) (digest : List ℕ)
    → position (is_owner number) w.owners ≡ Some place → place < length w.owners → draft ≡ spot + 1 → spot < length w.drafts → found ≡ get_or w.drafts spot found
    → found.owner ≡ holder → digest_of found.cert ≡ digest
    → ((o : Owner) (f : Drafted) → o ≡ get_or w.owners place o → position (is_owner number) w.owners ≡ Some place → f.owner ≡ holder → digest_of f.cert ≡ digest
    → StepsBy result w new (Ok (handed w number draft f (handover_row o digest))))
    → StepsBy result w new (handover_line w number draft)
handed_line result w new number place draft spot holder found digest here lt next within is-found held same hands =
    let o = there-is w.owners place lt in
    let reached : handover_line w number draft ≡ Ok (handed w number draft found (handover_row o.0 digest)) =
    handed_there w number place draft spot o.0 found here o.1 next within is-found ∙ ap (λ (d : List ℕ). Ok (handed w number draft found (handover_row o.0 d))) same
    in steps_as result w new (handover_line w number draft) (Ok (handed w number draft found (handover_row o.0 digest))) reached (hands o.0 found o.1 here held same)
