-- Dishonest parties, and the leaves by which they sign.
use Rattle.std.proofs.Common.{◌≡◌, ℕ, ◌+◌, ◌<◌, ◌≤◌, ◌⊎◌, inl, inr, Bool, true, false, ◌&&◌, eqb, List, [], ◌∷◌, ◌++◌, length, get_or, Option, Some, None, Result, Ok, Err, IfErr, refl, sym, ap, subst, ◌∙◌, arith}
use Rattle.std.specs.Prelude.{IfOk, find, nat_lt, position, slice_get, slice_set}
use Rattle.std.specs.List.{position_or_len}
use Rattle.std.proofs.lemmas.Bool.{and_parts, eqb-true, ltb-false, ltb-true}
use Rattle.std.proofs.lemmas.List.Folds.{find_at}
use Rattle.std.proofs.lemmas.List.Quantifiers.{position-Some}
use Rattle.std.proofs.lemmas.Option.{slice_get_cases, slice_get_read, cond_some}
use Rattle.ar_base.specs.Chaining.{◌>>=◌}
use Rattle.ar_base.proofs.Shown.{cond_none}
use Rattle.ar_base.proofs.Lists.{has-item}
use Rattle.ar_statement.specs.Claims.{role_number}
use Rattle.ar_statement.specs.declared.party.Party.{Party}
use Rattle.report_text.specs.declared.happening.Happening.{Happening}
use Rattle.report_text.specs.declared.happening.Happening.TheVariants.{SignRefused}
use Rattle.report_text.specs.declared.happening.Target.{Target}
use Rattle.report_text.specs.declared.happening.Target.TheVariants.{Nobody}
use Rattle.ar_nodes.specs.Composing.{composed}
use Rattle.ar_nodes.specs.Finding.{is_forger, named}
use Rattle.ar_nodes.specs.Forging.{forged}
use Rattle.ar_nodes.specs.Parties.{Forger}
use Rattle.lms_tree.specs.LmsKind.{leaves_of}
use Rattle.ar_nodes.specs.Pool.{Pooled, entries_from, raw}
use Rattle.ar_nodes.specs.declared.fault.WorldFault.{WorldFault}
use Rattle.ar_nodes.specs.declared.fault.WorldFault.TheVariants.{Absent, Memory}
use Rattle.ar_nodes.proofs.Found.{item_kept}
use Rattle.ar_world.specs.Finding.{Effect, room}
use Rattle.ar_world.specs.Forging.{composed_in, inject_line, receiver_in, sign_line, signing}
use Rattle.ar_world.specs.State.{World, with_messages}
use Rattle.ar_world.specs.Step.{StepsBy}

-- ---- where dishonest parties are found

-- the test of a party by the number of its role and its own
has_numbers : ℕ → ℕ → Forger → Bool
has_numbers role number forger = eqb role (role_number forger.party.role) && eqb number forger.party.number

-- one party has one place, by whichever of two equal names
same-place : (who : Party) (fs : List Forger) (forger : Forger) → is_forger who forger ≡ true → position (is_forger forger.party) fs ≡ position (is_forger who) fs
unfolding has_numbers
same-place who fs forger same =
    let parts = and_parts (eqb (role_number who.role) (role_number forger.party.role)) (eqb who.number forger.party.number) same in
    let role = eqb-true (role_number who.role) (role_number forger.party.role) parts.0 in
    let number = eqb-true who.number forger.party.number parts.1 in
    ap (λ r. position (has_numbers r forger.party.number) fs) (sym role) ∙ ap (λ n. position (has_numbers (role_number who.role) n) fs) (sym number)

forger-within : (who : Party) (fs : List Forger) (place : ℕ) → position (is_forger who) fs ≡ Some place → place < length fs
forger-within who fs place here =
    let c = cond_some (nat_lt (position_or_len (is_forger who) fs) (length fs)) (position_or_len (is_forger who) fs) place here in
    omega (arith, ltb-true (position_or_len (is_forger who) fs) (length fs) c.0, c.1)

forger-is-at : (who : Party) (fs : List Forger) (place : ℕ) (me : Forger) → position (is_forger who) fs ≡ Some place → slice_get fs place ≡ Some me
    → find (is_forger who) fs ≡ Some me
forger-is-at who fs place me here is =
    let at = position_or_len (is_forger who) fs in
    find_at (is_forger who) fs ∙ ap (slice_get fs) (cond_some (nat_lt at (length fs)) at place here).1 ∙ is

-- it has its place by its own name, too
own-place : (who : Party) (fs : List Forger) (place : ℕ) (me : Forger) → position (is_forger who) fs ≡ Some place → me ≡ get_or fs place me
    → position (is_forger me.party) fs ≡ Some place
own-place who fs place me here is = same-place who fs me (ap (is_forger who) is ∙ (position-Some (is_forger who) fs place me here).1) ∙ here

-- where none has a place, none is named
pub absent : (who : Party) (fs : List Forger) → position (is_forger who) fs ≡ None → find (is_forger who) fs ≡ None
absent who fs h =
    let at = position_or_len (is_forger who) fs in
    let none : length fs ≤ at = ltb-false at (length fs) (cond_none (nat_lt at (length fs)) at h) in
    find_at (is_forger who) fs ∙ elim (slice_get_cases fs at).1 [
      | inl some ↦ absurd (omega (arith, some.1, none))
      | inr past ↦ past.1
    ]

-- ---- what is composed

abbrev composed-by : World → Result (List ℕ) WorldFault → Result (List ℕ) WorldFault
composed-by w r = r >>= λ bytes. room w >>= λ free. Ok bytes

abbrev fitting : List ℕ → Result (Unit {0}) WorldFault → Result (List ℕ) WorldFault
fitting bytes r = r >>= λ free. Ok bytes

pub uncomposed : (w : World) (pieces : List (List ℕ)) (fault : WorldFault) → (fault ≡ Memory) ⊎ (composed w.pool pieces ≡ Err fault) → (fault ≡ Memory) ⊎ (composed_in w pieces ≡ Err fault)
uncomposed w pieces fault h = elim h [ inl m ↦ inl m | inr e ↦ inr (ap (composed-by w) e) ]

pub composed_full : (w : World) (pieces : List (List ℕ)) (bytes : List ℕ) (fault : WorldFault) → composed w.pool pieces ≡ Ok bytes → room w ≡ Err fault → composed_in w pieces ≡ Err fault
composed_full w pieces bytes fault there full = ap (composed-by w) there ∙ ap (fitting bytes) full

pub composed_there : (w : World) (pieces : List (List ℕ)) (bytes : List ℕ) → composed w.pool pieces ≡ Ok bytes → room w ≡ Ok tt → composed_in w pieces ≡ Ok bytes
composed_there w pieces bytes there free = ap (composed-by w) there ∙ ap (fitting bytes) free

pub ruleset composed_laws = (uncomposed, composed_full, composed_there)

-- ---- `sign`

abbrev sign-by : World → List (List ℕ) → Option Forger → Effect
sign-by w pieces o = named 1 o >>= λ forger. composed_in w pieces >>= λ text. Ok (signing w forger text)

abbrev sign-with : World → Forger → Result (List ℕ) WorldFault → Effect
sign-with w forger r = r >>= λ text. Ok (signing w forger text)

pub sign_within : (who : Party) (w : World) (place : ℕ) → position (is_forger who) w.forgers ≡ Some place → place < length w.forgers
sign_within who w place here = forger-within who w.forgers place here

pub sign_absent : (w : World) (who : Party) (pieces : List (List ℕ)) → position (is_forger who) w.forgers ≡ None → sign_line w who pieces ≡ Err (Absent 1)
sign_absent w who pieces none = ap (sign-by w pieces) (absent who w.forgers none)

pub sign_uncomposed : (w : World) (who : Party) (pieces : List (List ℕ)) (place : ℕ) (fault : WorldFault) → position (is_forger who) w.forgers ≡ Some place
    → (fault ≡ Memory) ⊎ (composed_in w pieces ≡ Err fault) → (fault ≡ Memory) ⊎ (sign_line w who pieces ≡ Err fault)
sign_uncomposed w who pieces place fault here h =
    let item = has-item w.forgers place (forger-within who w.forgers place here) in
    let there = forger-is-at who w.forgers place item.0 here item.1 in
    elim h [ inl m ↦ inl m | inr e ↦ inr (ap (sign-by w pieces) there ∙ ap (sign-with w item.0) e) ]

pub ruleset sign_refusals = (sign_within, sign_absent, sign_uncomposed)

-- what comes of signing
signed-world : (b : Bool) (w : World) (place : ℕ) (me new : Forger) (text : List ℕ) (after : List Pooled) (said : List Happening)
    → nat_lt me.next (leaves_of me.key.lms) ≡ b → position (is_forger me.party) w.forgers ≡ Some place → me ≡ get_or w.forgers place me
    → (nat_lt me.next (leaves_of me.key.lms) ≡ true → (new ≡ record me { next = me.next + 1 }) × (after ≡ w.pool ++ raw (Some me.party) Nobody (forged me text) ∷ [])
    × (said ≡ entries_from (length w.pool + 1) (raw (Some me.party) Nobody (forged me text) ∷ [])))
    → (nat_lt me.next (leaves_of me.key.lms) ≡ false → (new ≡ me) × (after ≡ w.pool) × (said ≡ SignRefused me.party ∷ []))
    → signing w me text ≡ (record w { forgers = slice_set w.forgers place new; pool = after }, said)
signed-world true w place me new text after said e there is left none = let t = left e in rw (e, there, t.0, t.1, t.2) refl
signed-world false w place me new text after said e there is left none =
    let t = none e in
    rw (e, item_kept w.forgers place me new is t.0, t.1, t.2) refl

pub sign_there : (result : Result (List Happening) WorldFault) (w : World) (who : Party) (place : ℕ) (pieces : List (List ℕ)) (text : List ℕ) (me new : Forger) (after : List Pooled)
    → position (is_forger who) w.forgers ≡ Some place → me ≡ get_or w.forgers place me → composed_in w pieces ≡ Ok text
    → (nat_lt me.next (leaves_of me.key.lms) ≡ true → IfOk result (λ said. (new ≡ record me { next = me.next + 1 }) × (after ≡ w.pool ++ raw (Some me.party) Nobody (forged me text) ∷ [])
    × (said ≡ entries_from (length w.pool + 1) (raw (Some me.party) Nobody (forged me text) ∷ []))))
    → (nat_lt me.next (leaves_of me.key.lms) ≡ false → IfOk result (λ said. (new ≡ me) × (after ≡ w.pool) × (said ≡ SignRefused me.party ∷ [])))
    → IfErr result (λ fault. (fault ≡ Memory) × (new ≡ me) × (after ≡ w.pool))
    → StepsBy result w (record w { forgers = slice_set w.forgers place new; pool = after }) (sign_line w who pieces)
sign_there (Ok said) w who place pieces text me new after here is there left none err =
    let at = forger-is-at who w.forgers place me here (slice_get_read w.forgers (length w.forgers) place me refl (forger-within who w.forgers place here) is) in
    ap (sign-by w pieces) at ∙ ap (sign-with w me) there
    ∙ ap Ok (signed-world (nat_lt me.next (leaves_of me.key.lms)) w place me new text after said refl (own-place who w.forgers place me here is) is left none)
sign_there (Err fault) w who place pieces text me new after here is there left none err =
    (rw (item_kept w.forgers place me new is err.1, err.2) refl, inl err.0)

-- the same of a world and of bytes that have two names
pub sign_seen : (result : Result (List Happening) WorldFault) (w now : World) (who : Party) (place : ℕ) (pieces : List (List ℕ)) (bytes text : List ℕ) (me new : Forger) (after : List Pooled)
    → w ≡ now → bytes ≡ text → position (is_forger who) now.forgers ≡ Some place → me ≡ get_or w.forgers place me → composed_in now pieces ≡ Ok text
    → (nat_lt me.next (leaves_of me.key.lms) ≡ true → IfOk result (λ said. (new ≡ record me { next = me.next + 1 }) × (after ≡ w.pool ++ raw (Some me.party) Nobody (forged me bytes) ∷ [])
    × (said ≡ entries_from (length w.pool + 1) (raw (Some me.party) Nobody (forged me bytes) ∷ []))))
    → (nat_lt me.next (leaves_of me.key.lms) ≡ false → IfOk result (λ said. (new ≡ me) × (after ≡ w.pool) × (said ≡ SignRefused me.party ∷ [])))
    → IfErr result (λ fault. (fault ≡ Memory) × (new ≡ me) × (after ≡ w.pool))
    → StepsBy result now (record w { forgers = slice_set w.forgers place new; pool = after }) (sign_line now who pieces)
sign_seen result w now who place pieces bytes text me new after one same here is there left none err =
    let before : position (is_forger who) w.forgers ≡ Some place = subst (λ (x : World). position (is_forger who) x.forgers ≡ Some place) (sym one) here in
    let composes : composed_in w pieces ≡ Ok bytes = subst (λ (x : World). composed_in x pieces ≡ Ok text) (sym one) there ∙ ap Ok (sym same) in
    subst (λ (x : World). StepsBy result x (record w { forgers = slice_set w.forgers place new; pool = after }) (sign_line x who pieces)) one
    (sign_there result w who place pieces bytes me new after before is composes left none err)

-- ---- `inject`

abbrev inject-by : World → List (List ℕ) → Result Target WorldFault → Effect
inject-by w pieces r = r >>= λ to. composed_in w pieces >>= λ bytes. Ok (with_messages w (raw None to bytes ∷ []))

abbrev inject-with : World → Target → Result (List ℕ) WorldFault → Effect
inject-with w to r = r >>= λ bytes. Ok (with_messages w (raw None to bytes ∷ []))

pub inject_refused : (w : World) (who : Option Party) (pieces : List (List ℕ)) (fault : WorldFault) → receiver_in w who ≡ Err fault → inject_line w who pieces ≡ Err fault
inject_refused w who pieces fault h = ap (inject-by w pieces) h

pub inject_uncomposed : (w : World) (who : Option Party) (pieces : List (List ℕ)) (to : Target) (fault : WorldFault) → receiver_in w who ≡ Ok to
    → (fault ≡ Memory) ⊎ (composed_in w pieces ≡ Err fault) → (fault ≡ Memory) ⊎ (inject_line w who pieces ≡ Err fault)
inject_uncomposed w who pieces to fault there h = elim h [ inl m ↦ inl m | inr e ↦ inr (ap (inject-by w pieces) there ∙ ap (inject-with w to) e) ]

pub inject_there : (w : World) (who : Option Party) (pieces : List (List ℕ)) (to : Target) (bytes : List ℕ) → receiver_in w who ≡ Ok to → composed_in w pieces ≡ Ok bytes
    → inject_line w who pieces ≡ Ok (with_messages w (raw None to bytes ∷ []))
inject_there w who pieces to bytes there are = ap (inject-by w pieces) there ∙ ap (inject-with w to) are

pub ruleset inject_laws = (inject_refused, inject_uncomposed, inject_there)
