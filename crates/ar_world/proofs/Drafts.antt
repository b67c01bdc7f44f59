-- Owners and drafts at their places, and the lines that make drafts.
use Rattle.std.proofs.Common.{◌≡◌, ℕ, zero, suc, ◌+◌, ◌<◌, ◌≤◌, ltb, Bool, true, false, List, [], ◌∷◌, ◌++◌, length, get_or, Option, Some, None, Result, Ok, Err, IfErr, inl, refl, sym, ap, subst, ◌∙◌, add-one, arith, length-append}
use Rattle.std.specs.Prelude.{All, IfOk, position, slice_set}
use Rattle.std.specs.List.{list_all, position_or_len}
use Rattle.std.proofs.lemmas.Bool.{and_parts, eqb-true, ltb-true}
use Rattle.std.proofs.lemmas.List.Elements.{All-cons, All-nil, All-push, All-weaker}
use Rattle.std.proofs.lemmas.List.Quantifiers.{position-Some}
use Rattle.std.proofs.lemmas.Option.{cond_some, same_Some, slice_get_past, slice_get_read}
use Rattle.ar_base.specs.Chaining.{◌>>=◌, need}
use Rattle.ar_cert.specs.Certificate.{Certificate, digest_of}
use Rattle.ar_statement.specs.declared.party.Role.TheVariants.{Authority}
use Rattle.owner_core.specs.Drafts.{begun_draft}
use Rattle.owner_core.specs.State.{Owner}
use Rattle.report_text.specs.declared.happening.Happening.{Happening}
use Rattle.report_text.specs.declared.happening.Happening.TheVariants.{Draft}
use Rattle.script_text.specs.declared.line.PolicyWords.{PolicyWords}
use Rattle.cert_drafts.specs.Certificates.{first_certificate, next_certificate}
use Rattle.cert_drafts.specs.Policies.{are_authorities, may_wait, terms_of}
use Rattle.lms_tree.specs.Key.{public_of}
use Rattle.ar_world.specs.Drafting.{asked, draft_room, drafted, register_line, revoke_line, update_line}
use Rattle.ar_world.specs.Finding.{Effect, draft_at, is_authority, is_there, known_asks, owner_at, room, with_owner}
use Rattle.ar_nodes.specs.Finding.{is_owner, named}
use Rattle.ar_founding.specs.FirstKeys.{FirstKeys}
use Rattle.ar_world.specs.Kept.{IsKeptWorld}
use Rattle.ar_nodes.specs.Parties.{LogNode}
use Rattle.ar_nodes.specs.Pool.{Pooled, entries_from, numbered}
use Rattle.ar_world.specs.State.{Drafted, World}
use Rattle.ar_founding.specs.FirstKeys.{Setup}
use Rattle.ar_world.specs.Step.{StepsBy}
use Rattle.ar_nodes.specs.declared.fault.WorldFault.{WorldFault}
use Rattle.ar_nodes.specs.declared.fault.WorldFault.TheVariants.{Absent, Limit, Memory}
use Rattle.ar_world.specs.declared.phase.Phase.{Phase}
use Rattle.ar_founding.specs.declared.directories.Directories.{Directories}
use Rattle.ar_nodes.proofs.Found.{item_kept, owner_there}

-- ---- an owner at its place

-- what is there has the number by which it was searched for
pub owner_number : (owners : List Owner) (number place : ℕ) (me : Owner) → position (is_owner number) owners ≡ Some place → me ≡ get_or owners place me → me.number ≡ number
owner_number owners number place me here is =
    ap (λ (o : Owner). o.number) is ∙ eqb-true (get_or owners place me).number number (position-Some (is_owner number) owners place me here).1

pub owner_within : (owners : List Owner) (number place : ℕ) → position (is_owner number) owners ≡ Some place → place < length owners
owner_within owners number place here =
    let spot = position_or_len (is_owner number) owners in
    let c = cond_some (ltb spot (length owners)) spot place here in
    subst (λ n. n < length owners) c.1 (ltb-true spot (length owners) c.0)

pub owner_is_at : (w : World) (number place : ℕ) (me : Owner) → position (is_owner number) w.owners ≡ Some place → me ≡ get_or w.owners place me → owner_at w number ≡ Some me
owner_is_at w number place me here is = owner_there w.owners number place me here (sym is)

-- it stands there again, with the same number
pub owner_put : (w : World) (number place : ℕ) (new : Owner) → position (is_owner number) w.owners ≡ Some place → new.number ≡ number
    → with_owner w new ≡ record w { owners = slice_set w.owners place new }
owner_put w number place new here same =
    let there : position (is_owner new.number) w.owners ≡ Some place = ap (λ n. position (is_owner n) w.owners) same ∙ here in
    rw there refl

-- ---- a draft at its place

pub draft_is_at : (w : World) (number place : ℕ) (d : Drafted) → number ≡ place + 1 → place < length w.drafts → d ≡ get_or w.drafts place d → draft_at w number ≡ Some d
draft_is_at w number place d e lt is = ap (numbered w.drafts) (e ∙ add-one place) ∙ slice_get_read w.drafts (length w.drafts) place d refl lt is

pub no_draft : (word : ℕ) (w : World) (number : ℕ) → number ≡ 0 → named word (draft_at w number) ≡ Err (Absent word)
no_draft word w number e = ap (λ n. named word (draft_at w n)) e

past : {X : Type 0} (xs : List X) (number : ℕ) → length xs < number → numbered xs number ≡ None
past xs zero lt = absurd (omega (arith, lt))
past xs (suc place) lt = slice_get_past xs place (omega (arith, lt))

pub past_drafts : (word : ℕ) (w : World) (number : ℕ) → length w.drafts < number → named word (draft_at w number) ≡ Err (Absent word)
past_drafts word w number lt = ap (named word) (past w.drafts number lt)

pub ruleset draft_places = (no_draft, past_drafts)

-- ---- asks

below : (w : World) (asks : List ℕ) → list_all (is_authority w) asks ≡ true → All (λ number. number < 65536) asks
below w [] h = All-nil (λ n. n < 65536)
below w (n ∷ more) h =
    let b = and_parts (is_authority w n) (list_all (is_authority w) more) h in
    let c = and_parts (ltb n 65536) (is_there w Authority n) b.0 in
    All-cons (λ number. number < 65536) n more (ltb-true n 65536 c.0) (below w more b.1)

known : (w : World) (word : ℕ) (asks : List ℕ) (b : Bool) → list_all (is_authority w) asks ≡ b → known_asks w word asks ≡ Ok tt → list_all (is_authority w) asks ≡ true
known w word asks true e h = e
known w word asks false e h =
    let f : ◌≡◌ {A = Result (Unit {0}) WorldFault} (Ok tt) (Err (Absent word)) = sym h ∙ ap (λ b. need b (Absent word)) e in
    absurd (cc)

pub known_below : (w : World) (word : ℕ) (asks : List ℕ) → known_asks w word asks ≡ Ok tt → All (λ number. number < 65536) asks
known_below w word asks h = below w asks (known w word asks (list_all (is_authority w) asks) refl h)

-- ---- what the world keeps

-- of one draft more, whose serial is not above the number of drafts
pub kept_more : (phase : Phase) (setup : Setup) (keys : FirstKeys) (directories : Option Directories) (drafts after : List Drafted) (logs : List (Option LogNode)) (d : Drafted)
    → IsKeptWorld phase setup keys directories drafts logs → d.cert.serial ≤ length drafts → after ≡ drafts ++ d ∷ [] → IsKeptWorld phase setup keys directories after logs
kept_more phase setup keys directories drafts after logs d kept low e =
    let long : length after ≡ length drafts + 1 = ap length e ∙ length-append drafts (d ∷ []) in
    let each : All (λ (x : Drafted). x.cert.serial < length after) drafts = All-weaker (λ (x : Drafted). x.cert.serial < length drafts) (λ (x : Drafted). x.cert.serial < length after) (λ x h. omega arith) drafts kept.serials in
    let last : d.cert.serial < length after = omega arith in
    let all : All (λ (x : Drafted). x.cert.serial < length after) (drafts ++ d ∷ []) = All-push (λ (x : Drafted). x.cert.serial < length after) drafts d each last in
    record { keys = kept.keys; known = kept.known; serials = subst (λ (xs : List Drafted). All (λ (x : Drafted). x.cert.serial < length after) xs) (sym e) all; few = kept.few }

pub kept_same : (phase : Phase) (setup : Setup) (keys : FirstKeys) (directories : Option Directories) (drafts after : List Drafted) (logs : List (Option LogNode))
    → IsKeptWorld phase setup keys directories drafts logs → after ≡ drafts → IsKeptWorld phase setup keys directories after logs
kept_same phase setup keys directories drafts after logs kept e = subst (λ (xs : List Drafted). IsKeptWorld phase setup keys directories xs logs) (sym e) kept

-- ---- a new draft

-- what is made of the world where an owner drafts a certificate
pub drafted_there : (w : World) (place : ℕ) (me new : Owner) (cert : Certificate) (asks : List ℕ) (drafts : List Drafted) (pool : List Pooled) (said : List Happening)
    → position (is_owner me.number) w.owners ≡ Some place → new ≡ record me { drafts = begun_draft me.drafts cert } → drafts ≡ w.drafts ++ record { owner = me.number; cert = cert } ∷ []
    → pool ≡ w.pool ++ asked me cert asks → said ≡ Draft (length w.drafts + 1) (digest_of cert) ∷ entries_from (length w.pool + 1) (asked me cert asks)
    → drafted w me cert asks ≡ (record w { owners = slice_set w.owners place new; drafts = drafts; pool = pool }, said)
drafted_there w place me new cert asks drafts pool said here is-new is-drafts is-pool is-said = rw (here, is-new, is-drafts, is-pool, is-said) refl

-- and where it is as it was
pub undrafted : (w : World) (place : ℕ) (me new : Owner) (drafts : List Drafted) (pool : List Pooled) → me ≡ get_or w.owners place me → new ≡ me → drafts ≡ w.drafts → pool ≡ w.pool
    → record w { owners = slice_set w.owners place new; drafts = drafts; pool = pool } ≡ w
undrafted w place me new drafts pool is is-new is-drafts is-pool =
    ap (λ (o : List Owner). record w { owners = o; drafts = drafts; pool = pool }) (item_kept w.owners place me new is is-new)
    ∙ ap (λ (d : List Drafted). record w { drafts = d; pool = pool }) is-drafts ∙ ap (λ (p : List Pooled). record w { pool = p }) is-pool

-- two names of the item at one place
pub same_item : {X : Type 0} (xs : List X) (i : ℕ) (x y : X) → i < length xs → x ≡ get_or xs i x → y ≡ get_or xs i y → x ≡ y
same_item xs i x y lt is-x is-y = same_Some x y (sym (slice_get_read xs (length xs) i x refl lt is-x) ∙ slice_get_read xs (length xs) i y refl lt is-y)

makes-as : (result : Result (List Happening) WorldFault) (w : World) (place : ℕ) (me new : Owner) (cert : Certificate) (asks : List ℕ) (drafts : List Drafted) (pool : List Pooled)
    → position (is_owner me.number) w.owners ≡ Some place → me ≡ get_or w.owners place me
    → IfOk result (λ said. new ≡ record me { drafts = begun_draft me.drafts cert })
    → IfOk result (λ said. drafts ≡ w.drafts ++ record { owner = me.number; cert = cert } ∷ [])
    → IfOk result (λ said. pool ≡ w.pool ++ asked me cert asks)
    → IfOk result (λ said. said ≡ Draft (length w.drafts + 1) (digest_of cert) ∷ entries_from (length w.pool + 1) (asked me cert asks))
    → IfErr result (λ fault. (fault ≡ Memory) × (new ≡ me) × (drafts ≡ w.drafts) × (pool ≡ w.pool))
    → StepsBy result w (record w { owners = slice_set w.owners place new; drafts = drafts; pool = pool }) (Ok (drafted w me cert asks))
makes-as (Ok said) w place me new cert asks drafts pool here is is-new is-drafts is-pool is-said err = ap Ok (drafted_there w place me new cert asks drafts pool said here is-new is-drafts is-pool is-said)
makes-as (Err fault) w place me new cert asks drafts pool here is is-new is-drafts is-pool is-said err = (undrafted w place me new drafts pool is err.1 err.2 err.3, inl err.0)

-- the same, by two names of the owner
pub makes : (result : Result (List Happening) WorldFault) (w : World) (place : ℕ) (me e new : Owner) (cert : Certificate) (asks : List ℕ) (drafts : List Drafted) (pool : List Pooled)
    → position (is_owner me.number) w.owners ≡ Some place → place < length w.owners → me ≡ get_or w.owners place me → e ≡ get_or w.owners place e
    → IfOk result (λ said. new ≡ record e { drafts = begun_draft e.drafts cert })
    → IfOk result (λ said. drafts ≡ w.drafts ++ record { owner = e.number; cert = cert } ∷ [])
    → IfOk result (λ said. pool ≡ w.pool ++ asked e cert asks)
    → IfOk result (λ said. said ≡ Draft (length w.drafts + 1) (digest_of cert) ∷ entries_from (length w.pool + 1) (asked e cert asks))
    → IfErr result (λ fault. (fault ≡ Memory) × (new ≡ e) × (drafts ≡ w.drafts) × (pool ≡ w.pool))
    → StepsBy result w (record w { owners = slice_set w.owners place new; drafts = drafts; pool = pool }) (Ok (drafted w me cert asks))
makes result w place me e new cert asks drafts pool here lt is-me is-e is-new is-drafts is-pool is-said err =
    let same : e ≡ me = same_item w.owners place e me lt is-e is-me in
    let there : position (is_owner e.number) w.owners ≡ Some place = ap (λ (o : Owner). position (is_owner o.number) w.owners) same ∙ here in
    subst (λ (o : Owner). StepsBy result w (record w { owners = slice_set w.owners place new; drafts = drafts; pool = pool }) (Ok (drafted w o cert asks))) same
    (makes-as result w place e new cert asks drafts pool there is-e is-new is-drafts is-pool is-said err)

-- what the world keeps of drafts behind a call
pub kept_after : (result : Result (List Happening) WorldFault) (phase : Phase) (setup : Setup) (keys : FirstKeys) (directories : Option Directories) (drafts after : List Drafted) (logs : List (Option LogNode)) (d : Drafted)
    (me new : Owner) (pool more : List Pooled)
    → IfOk result (λ said. after ≡ drafts ++ d ∷ []) → IfErr result (λ fault. (fault ≡ Memory) × (new ≡ me) × (after ≡ drafts) × (more ≡ pool))
    → IsKeptWorld phase setup keys directories drafts logs → d.cert.serial ≤ length drafts → IsKeptWorld phase setup keys directories after logs
kept_after (Ok said) phase setup keys directories drafts after logs d me new pool more ok err kept low = kept_more phase setup keys directories drafts after logs d kept low ok
kept_after (Err fault) phase setup keys directories drafts after logs d me new pool more ok err kept low = kept_same phase setup keys directories drafts after logs kept err.2

pub ruleset drafts = (kept_after, makes)

-- ---- lines that are taken

-- a step by an effect that comes to the same
pub steps_as : (result : Result (List Happening) WorldFault) (old new : World) (effect same : Effect) → effect ≡ same → StepsBy result old new same → StepsBy result old new effect
steps_as result old new effect same e h = subst (λ (x : Effect). StepsBy result old new x) (sym e) h

pub registered_there : (w : World) (number place : ℕ) (name : List ℕ) (policy : PolicyWords) (asks : List ℕ) (me : Owner)
    → position (is_owner number) w.owners ≡ Some place → me ≡ get_or w.owners place me → are_authorities policy.trusted ≡ true → may_wait policy.wait ≡ true
    → known_asks w 8 asks ≡ Ok tt → draft_room w ≡ Ok tt
    → register_line w number name policy asks ≡ Ok (drafted w me (first_certificate (public_of me.key) name (terms_of policy)) asks)
registered_there w number place name policy asks me here is ascends waits known room =
    let owner = owner_is_at w number place me here is in
    rw (owner, ascends, waits, known, room) refl

pub updated_there : (w : World) (number place draft spot : ℕ) (policy : PolicyWords) (asks : List ℕ) (me : Owner) (old : Drafted)
    → position (is_owner number) w.owners ≡ Some place → me ≡ get_or w.owners place me → draft ≡ spot + 1 → spot < length w.drafts → old ≡ get_or w.drafts spot old
    → are_authorities policy.trusted ≡ true → may_wait policy.wait ≡ true → known_asks w 8 asks ≡ Ok tt → draft_room w ≡ Ok tt
    → update_line w number draft policy asks ≡ Ok (drafted w me (next_certificate (public_of me.key) old.cert (terms_of policy) false) asks)
updated_there w number place draft spot policy asks me old here is next lt is-old ascends waits known room =
    let owner = owner_is_at w number place me here is in
    let found = draft_is_at w draft spot old next lt is-old in
    rw (owner, found, ascends, waits, known, room) refl

pub revoked_there : (w : World) (number place draft spot : ℕ) (asks : List ℕ) (me : Owner) (old : Drafted)
    → position (is_owner number) w.owners ≡ Some place → me ≡ get_or w.owners place me → draft ≡ spot + 1 → spot < length w.drafts → old ≡ get_or w.drafts spot old
    → known_asks w 3 asks ≡ Ok tt → draft_room w ≡ Ok tt
    → revoke_line w number draft asks ≡ Ok (drafted w me (next_certificate (public_of me.key) old.cert old.cert.policy true) asks)
revoked_there w number place draft spot asks me old here is next lt is-old known room =
    let owner = owner_is_at w number place me here is in
    let found = draft_is_at w draft spot old next lt is-old in
    rw (owner, found, known, room) refl

-- ---- serials

few : (n : ℕ) (free : Result (Unit {0}) WorldFault) (b : Bool) → ltb n 4096 ≡ b → (need (ltb n 4096) Limit >>= λ u. free) ≡ Ok tt → n < 4096
few n free true e h = ltb-true n 4096 e
few n free false e h =
    let f : ◌≡◌ {A = Result (Unit {0}) WorldFault} (Ok tt) (Err Limit) = sym h ∙ ap (λ b. need b Limit >>= λ u. free) e in
    absurd (cc)

-- there are few drafts
pub few_drafts : (w : World) → draft_room w ≡ Ok tt → length w.drafts < 4096
few_drafts w h = few (length w.drafts) (room w) (ltb (length w.drafts) 4096) refl h

-- so the serial of one of them is small, and that of the next one is not above their number
pub serial_low : (phase : Phase) (setup : Setup) (keys : FirstKeys) (directories : Option Directories) (drafts : List Drafted) (logs : List (Option LogNode)) (spot : ℕ) (old : Drafted)
    → IsKeptWorld phase setup keys directories drafts logs → spot < length drafts → old ≡ get_or drafts spot old → old.cert.serial < length drafts
serial_low phase setup keys directories drafts logs spot old kept lt is =
    subst (λ (d : Drafted). d.cert.serial < length drafts) (sym is) (kept.serials spot old lt)

pub ruleset serials = (few_drafts, serial_low)

-- ---- steps

-- what `make_draft` says of its result
abbrev pub Makes : Result (List Happening) WorldFault → World → World → ℕ → Certificate → List ℕ → Type 0
Makes result w new place cert asks =
    (o : Owner) → o ≡ get_or w.owners place o → position (is_owner o.number) w.owners ≡ Some place → StepsBy result w new (Ok (drafted w o cert asks))

made : (result : Result (List Happening) WorldFault) (w new : World) (number place : ℕ) (me : Owner) (cert same : Certificate) (asks : List ℕ) (effect : Effect)
    → position (is_owner number) w.owners ≡ Some place → me ≡ get_or w.owners place me → cert ≡ same → effect ≡ Ok (drafted w me same asks)
    → Makes result w new place cert asks → StepsBy result w new effect
made result w new number place me cert same asks effect here is alike reached makes =
    let mine = owner_number w.owners number place me here is in
    let there : position (is_owner me.number) w.owners ≡ Some place = ap (λ n. position (is_owner n) w.owners) mine ∙ here in
    steps_as result w new effect (Ok (drafted w me cert asks)) (reached ∙ ap (λ c. Ok (drafted w me c asks)) (sym alike)) (makes me is there)

pub registered : (result : Result (List Happening) WorldFault) (w new : World) (number place : ℕ) (name : List ℕ) (policy : PolicyWords) (asks : List ℕ) (me : Owner) (cert : Certificate)
    → position (is_owner number) w.owners ≡ Some place → me ≡ get_or w.owners place me → are_authorities policy.trusted ≡ true → may_wait policy.wait ≡ true
    → known_asks w 8 asks ≡ Ok tt → draft_room w ≡ Ok tt → cert ≡ first_certificate (public_of me.key) name (terms_of policy)
    → Makes result w new place cert asks → StepsBy result w new (register_line w number name policy asks)
registered result w new number place name policy asks me cert here is ascends waits known room alike makes =
    made result w new number place me cert (first_certificate (public_of me.key) name (terms_of policy)) asks (register_line w number name policy asks) here is alike
    (registered_there w number place name policy asks me here is ascends waits known room) makes

pub updated : (result : Result (List Happening) WorldFault) (w new : World) (number place draft spot : ℕ) (policy : PolicyWords) (asks : List ℕ) (me : Owner) (old : Drafted) (cert : Certificate)
    → position (is_owner number) w.owners ≡ Some place → me ≡ get_or w.owners place me → draft ≡ spot + 1 → spot < length w.drafts → old ≡ get_or w.drafts spot old
    → are_authorities policy.trusted ≡ true → may_wait policy.wait ≡ true → known_asks w 8 asks ≡ Ok tt → draft_room w ≡ Ok tt
    → cert ≡ next_certificate (public_of me.key) old.cert (terms_of policy) false → Makes result w new place cert asks → StepsBy result w new (update_line w number draft policy asks)
updated result w new number place draft spot policy asks me old cert here is next lt is-old ascends waits known room alike makes =
    made result w new number place me cert (next_certificate (public_of me.key) old.cert (terms_of policy) false) asks (update_line w number draft policy asks) here is alike
    (updated_there w number place draft spot policy asks me old here is next lt is-old ascends waits known room) makes

pub revoked : (result : Result (List Happening) WorldFault) (w new : World) (number place draft spot : ℕ) (asks : List ℕ) (me : Owner) (old : Drafted) (cert : Certificate)
    → position (is_owner number) w.owners ≡ Some place → me ≡ get_or w.owners place me → draft ≡ spot + 1 → spot < length w.drafts → old ≡ get_or w.drafts spot old
    → known_asks w 3 asks ≡ Ok tt → draft_room w ≡ Ok tt → cert ≡ next_certificate (public_of me.key) old.cert old.cert.policy true
    → Makes result w new place cert asks → StepsBy result w new (revoke_line w number draft asks)
revoked result w new number place draft spot asks me old cert here is next lt is-old known room alike makes =
    made result w new number place me cert (next_certificate (public_of me.key) old.cert old.cert.policy true) asks (revoke_line w number draft asks) here is alike
    (revoked_there w number place draft spot asks me old here is next lt is-old known room) makes
