-- The run in which a client accepts a certificate meets the premises.
use Rattle.std.proofs.Common.{◌≡◌, ◌≢◌, ℕ, zero, suc, ◌+◌, ◌<◌, ◌≤◌, ◌^◌, inl, inr, List, [], ◌∷◌, ◌++◌, length, get_or, refl, sym, ap, ◌∙◌, subst, arith, Bool, true, false, cond, not, Option, Some, None, Ok}
use Rattle.std.specs.Prelude.{All, Contains, IfSome, count_by, flat_map, is_some, map, nat_lt, replicate, slice_get, slice_index, unwrap_or}
use Rattle.std.specs.Int.{w8, w16, w64}
use Rattle.std.specs.List.{list_all}
use Rattle.std.specs.Option.{option_map}
use Rattle.std.specs.Str.{bytes_eq}
use Rattle.std.proofs.lemmas.List.Elements.{All-append, All-cons, All-contains, All-map, All-nil, Contains-append_left, Contains-append_right}
use Rattle.std.proofs.lemmas.Bool.{and_parts, cases_eq, ltb-true, or_left, or_right}
use Rattle.std.proofs.lemmas.Slice.Eq.{bytes_eq-Decides}
use Rattle.std.specs.FinMap as maps
use Rattle.std.specs.FinMap.{get, get-entries}
use Rattle.std.specs.Ordering.{eq_by_cmp}
use Rattle.sha2.specs.Sha256.{compress, digest_bytes, first_words, hash_after, rounds, schedule, sha256}
use Rattle.ar_base.specs.Apart.{IsIn, are_apart}
use Rattle.ar_base.specs.Bytes.{IsDigest}
use Rattle.ar_base.specs.Places.{place_of}
use Rattle.ar_base.proofs.Apart.{in_both, all_from}
use Rattle.ar_base.proofs.Digests.{bytes_by_recursion, sha256-IsDigest, AllBytes, at_each, joined}
use Rattle.ar_bytes.specs.RoundTrip.{number_text}
use Rattle.ar_bytes.proofs.Parts.{whole_again}
use Rattle.lms_tree.specs.Key.{public_of}
use Rattle.lms_tree.specs.PublicKey.{key_text}
use Rattle.ar_names.specs.Names.{IsName, first_fault_of, is_open, is_wrong_at, name_digest_of, name_string}
use Rattle.ar_statement.specs.declared.party.Role.{Role}
use Rattle.ar_statement.specs.declared.party.Role.TheVariants.{LogServer, Authority}
use Rattle.ar_statement.specs.declared.party.Party.{Party}
use Rattle.ar_statement.specs.declared.text.SeenText.{SeenText}
use Rattle.ar_statement.specs.Claims.{Claim, authority_party, endorse, log_party, party, text_of}
use Rattle.ar_statement.specs.Ranges.{IsTextOf, IsValid, IsValue, is_witness}
use Rattle.key_roll.specs.Book.{texts_of}
use Rattle.key_roll.specs.Rolls.{is_plain_of}
use Rattle.party_keys.specs.Directory.{keys_of}
use Rattle.party_keys.specs.Signatures.{verified}
use Rattle.ar_cert.specs.Certificate.{Certificate, IsCertificate, certificate_string, certificate_text, digest_of, front_text, rules_text, wait_text}
use Rattle.ar_cert.specs.Changes.{Change, IsChange}
use Rattle.hash_tree.specs.Strings.{entry_string, value_string}
use Rattle.tree_proof.specs.Membership.{OnBytes}
use Rattle.ar_message.specs.Confirmation.{IsConfirmation, body_text, confirmation_at, confirmation_fields_text, confirmation_text, signed_text, subject_text}
use Rattle.ar_message.proofs.ConfirmationLaws.{confirmation_again}
use Rattle.client_rule.specs.Meaning.{HasSigners, HoldsAll, PassesChecks}
use Rattle.client_rule.specs.Rule.{judgement}
use Rattle.client_rule.specs.declared.judgement.Judgement.TheVariants.{Accepted}
use Rattle.client_rule.proofs.Meanings.{accepted}
use Rattle.hash_tree.specs.Entries.{key_cmp}
use Rattle.domain_table.specs.Tables.{Table, certificates, certificates_of, newest, no_table, pair_of, pairs}
use Rattle.domain_table.specs.Tree.{root_of, table_strings}
use Rattle.domain_table.proofs.Trees.{root-digest}
use Rattle.epoch_log.specs.Calls as calls
use Rattle.ar_council.proofs.Books.{entry-has, entry-keeps}
use Rattle.ar_council.proofs.Seeing.{seen-all}
use Rattle.ar_council.proofs.Texts.{own-text}
use Rattle.ar_council.specs.Council.{IsMember}
use Rattle.ar_council.specs.Room.{HasRoom}
use Rattle.party_keys.specs.Seen.{seen_of}
use Rattle.ar_council.specs.Values.{confirm_claim, vote_claim}
use Rattle.ar_council.specs.Votes.{SawVotes}
use Rattle.epoch_log.specs.Honest.{IsOfHonestLog}
use Rattle.epoch_log.specs.Record.{base_of, ending}
use Rattle.epoch_log.specs.Right.{IsRightDecision, IsRightVote, LeadsTo, SawEndorsements, newest_digest}
use Rattle.epoch_log.specs.State.{IsKeptLog, IsNewestDecision, table_of}
use Rattle.epoch_log.specs.Told.{ToldByLog}
use Rattle.epoch_log.specs.declared.entries.Ended.{Ended}
use Rattle.epoch_log.specs.declared.entries.How.{How}
use Rattle.epoch_log.specs.declared.entries.How.TheVariants.{Decided, Skipped}
use Rattle.epoch_log.specs.declared.entries.Voted.{Voted}
use Rattle.epoch_log.proofs.Acting.{kept-confirming}
use Rattle.epoch_log.proofs.Texts.{plain-vote, valid-vote}
use Rattle.authority_core.specs.Calls.{MayConfirm, after_endorse, fresh_authority, seen_of_log}
use Rattle.authority_core.specs.Honest.{IsOfHonestAuthority}
use Rattle.authority_core.specs.declared.entries.Approved.{Approved}
use Rattle.authority_core.proofs.Growing.{confirm-signed, endorse-signed, honest-endorse, honest-first, honest-fresh, map-has}
use Rattle.ar_safety.specs.Agreed.{Confirms}
use Rattle.ar_safety.specs.Examples.{book_with, five}
use Rattle.ar_safety.specs.Hashed.{StandsIn, hashed, judged_strings, log_tables, tables_below}
use Rattle.ar_safety.specs.Records.{AreSigned, IsHonest, IsJudged, AcceptedConfirmation, carried, signed_by}
use Rattle.ar_safety.specs.RegisteredRun.{a_name, all_five, asked_for, asked_in_one, confirmation, confirming_authority, confirming_log, decided_log, directory_of_five, due_for, first_certificate, first_decision, judged_one, kept_one, key_for, one_table, registered, registered_run, registering_log, registration, says, seen_by_all, signed_for}
use Rattle.ar_safety.specs.Theorem.{AreHonest, Few, NoCollision, NoForgery}
use Rattle.ar_safety.proofs.ExampleLogs.{base-one, first-ending, first-is, first-order, one-book, only, single}
use Rattle.ar_safety.proofs.Examples.{all-below, five-many, five-quorums, signed-of}
use Rattle.ar_safety.proofs.OneName.{IsOne, NameKey, NameValue, applied-one, chain-is, no-waiting, one-chain, root-is, tables-of}
use Rattle.ar_safety.proofs.Spelled.{number-spelled, signature-spelled}
use Rattle.ar_safety.proofs.Verifying.{signature-fits, signed-verified}

-- ---- the certificate has a text

is-name : IsName a_name
unfolding first_fault_of is_wrong_at is_open
is-name = refl

zeros-digest : IsDigest (replicate 32 0)
zeros-digest = record { len = refl; bytes = at_each (replicate 32 0) (zeros 32) }
  where
    zeros : (n : ℕ) → AllBytes (replicate n 0)
    zeros zero = tt
    zeros (suc n) = (omega arith, zeros n)

certificate-fits : IsCertificate first_certificate
certificate-fits = record {
  name = is-name;
  serial = omega arith;
  previous = zeros-digest;
  subject = (refl, refl);
  policy = record {
    threshold = omega arith;
    max_age = omega arith;
    until = omega arith;
    few = omega arith;
    ascending = (omega arith, omega arith, (omega arith, omega arith, (omega arith, omega arith, tt)));
    wait = tt;
  };
}

change-fits : IsChange registration
change-fits = record {
  cert = certificate-fits;
  endorsements = (omega arith, (omega arith, (omega arith, omega arith), (omega arith, (omega arith, omega arith), (omega arith, (omega arith, omega arith), tt))));
  handover = tt;
  objection = tt;
  alone = tt;
}

digest-fits : IsDigest (digest_of first_certificate)
unfolding digest_of
digest-fits = record { len = (sha256-IsDigest _).len; bytes = (sha256-IsDigest _).bytes }

says-valid : (p : Party) → p.number < 2 ^ 16 → is_witness p.role ≡ true → IsValid (says p)
says-valid p small witness = record {
  held = record { signer = small; fields = (omega arith, (is-name, (digest-fits, root-digest one_table))) };
  ranges = rw witness refl;
}

-- ---- a log that decided the registration

end : How
end = Decided (registration ∷ []) (root_of one_table)

abbrev Endings : List Ended
Endings = record { epoch = 1; how = Decided (registration ∷ []) (root_of one_table) } ∷ []

abbrev OwnVote : Voted
OwnVote = record { epoch = 1; base = root_of no_table; changes = registration ∷ []; root = root_of one_table }

value-fits : IsValue registered
value-fits = record { base = root-digest no_table; root = root-digest one_table }

abbrev Endorsing : ℕ → SeenText
Endorsing a = seen_of (authority_party a) (endorse a (digest_of first_certificate))

abbrev Voting : ℕ → SeenText
Voting log = seen_of (log_party log) (vote_claim log 1 registered)

saw-endorsements : SawEndorsements seen_by_all registration
saw-endorsements = λ k d less. Contains-append_left (map Endorsing (0 ∷ (1 ∷ (2 ∷ [])))) (map Voting all_five) _ (map-has Endorsing (0 ∷ (1 ∷ (2 ∷ []))) k d less)

saw-votes : All (λ log. Contains seen_by_all (Voting log)) all_five
saw-votes = λ k d less. Contains-append_right (map Endorsing (0 ∷ (1 ∷ (2 ∷ [])))) (map Voting all_five) _ (map-has Voting all_five k d less)

leads : (seen : List SeenText) → SawEndorsements seen registration → LeadsTo seen 1 (base_of Endings 1) (registration ∷ []) (root_of one_table)
leads seen saw = subst (λ t. LeadsTo seen 1 t (registration ∷ []) (root_of one_table)) (sym (base-one (Decided (registration ∷ []) (root_of one_table)))) (record {
  reaches = record { table = one_table; applied = applied-one; is_root = refl };
  are_changes = only IsChange registration change-fits;
  endorsed = only (SawEndorsements seen) registration saw;
})

right-decision : IsRightDecision five seen_by_all Endings 1 (registration ∷ []) (root_of one_table)
right-decision = record {
  leads = leads seen_by_all saw-endorsements;
  votes = subst (λ t. SawVotes five seen_by_all 1 (record { base = root_of t; root = root_of one_table })) (sym (base-one (Decided (registration ∷ []) (root_of one_table))))
      (record { numbers = all_five; many = five-many; below = all-below; each = saw-votes });
}

abbrev IsTold : ℕ → Claim → Type 0
IsTold me = ToldByLog me (OwnVote ∷ []) [] []

registering-honest : (me : ℕ) → me < 5 → IsOfHonestLog five me (registering_log me)
unfolding ToldByLog
registering-honest me small = record {
  ends_in_order = first-order (Decided (registration ∷ []) (root_of one_table));
  votes_once = record { once = single (λ v w. v.epoch ≢ w.epoch) OwnVote; up_to_now = only (λ v. (1 ≤ v.epoch) × (v.epoch ≤ 2)) OwnVote (omega arith, omega arith) };
  states_its_vote = record { once = λ i j d before within. absurd (omega (arith, within)); up_to_now = λ k d less. absurd (omega (arith, less)); fits = λ k d less. absurd (omega (arith, less)) };
  votes_rightly = only (IsRightVote seen_by_all Endings) OwnVote
      (record { are_digests = value-fits; from_base = ap root_of (sym (base-one (Decided (registration ∷ []) (root_of one_table)))); leads = leads seen_by_all saw-endorsements });
  decides_rightly = λ epoch changes to is.
      let f = first-is (Decided (registration ∷ []) (root_of one_table)) (Decided changes to) epoch is in
      let same-changes : changes ≡ registration ∷ [] = cc in
      let same-root : to ≡ root_of one_table = cc in
      rw f.0 (rw same-changes (rw same-root right-decision));
  skips_rightly = λ epoch statuses is. let f = first-is (Decided (registration ∷ []) (root_of one_table)) (Skipped statuses) epoch is in absurd cc;
  confirms_rightly = λ k d less. absurd (omega (arith, less));
  signs_what_it_tells = record {
    sound = one-book (vote_claim me 1 registered) (plain-vote me 1 registered);
    told = only (IsTextOf (IsTold me)) (text_of (vote_claim me 1 registered))
        (own-text (IsTold me) (vote_claim me 1 registered) (valid-vote me 0 registered (omega (arith, small)) (omega arith) value-fits) (refl, (OwnVote, ((0, omega arith, refl), refl, refl))));
    votes = only (λ v. Contains (text_of (vote_claim me 1 registered) ∷ []) (text_of (vote_claim me v.epoch (record { base = v.base; root = v.root })))) OwnVote (0, omega arith, refl);
    statuses = λ k d less. absurd (omega (arith, less));
    confirmations = λ k d less. absurd (omega (arith, less));
  };
  sees_members = All-append (λ (s : SeenText). IsMember five s.party) (map Endorsing (0 ∷ (1 ∷ (2 ∷ [])))) (map Voting all_five)
      (All-map (λ (s : SeenText). IsMember five s.party) Endorsing (0 ∷ (1 ∷ (2 ∷ [])))
      (All-cons (λ a. a < 3) 0 (1 ∷ (2 ∷ [])) (omega arith) (All-cons (λ a. a < 3) 1 (2 ∷ []) (omega arith) (only (λ a. a < 3) 2 (omega arith)))))
      (All-map (λ (s : SeenText). IsMember five s.party) Voting all_five all-below);
}

second-base : base_of Endings 2 ≡ one_table
unfolding base_of ending
second-base = ap (λ o. unwrap_or o no_table) applied-one

certificate-there : (me : ℕ) → newest_digest (table_of (decided_log me)) a_name ≡ Some (digest_of first_certificate)
certificate-there me =
    ap (λ t. newest_digest t a_name) second-base
    ∙ ap (λ (c : List Change). option_map digest_of (newest c)) chain-is

is-newest : (me : ℕ) → IsNewestDecision five seen_by_all Endings first_decision
is-newest me = record {
  changes = registration ∷ [];
  decided = first-ending (Decided (registration ∷ []) (root_of one_table));
  last = λ epoch others to less is. let f = first-is (Decided (registration ∷ []) (root_of one_table)) (Decided others to) epoch is in omega (arith, f.0, less);
  from_base = ap root_of (sym (base-one (Decided (registration ∷ []) (root_of one_table))));
  votes = All-map (λ (v : ℕ × Option (List ℕ)). Contains seen_by_all (Voting v.0)) (λ log. (log, None)) all_five saw-votes;
  many = five-many;
}

decided-kept : (me : ℕ) → me < 5 → IsKeptLog (decided_log me)
decided-kept me less = record {
  number = omega (arith, less);
  honest = registering-honest me less;
  votes = λ k d within. absurd (omega (arith, within));
  statuses = record {
    of_logs = record { ascending = λ k within. absurd (omega (arith, within)); below = λ k d within. absurd (omega (arith, within)) };
    values = λ k d within. absurd (omega (arith, within));
    saw = λ k d within. absurd (omega (arith, within));
  };
  newest = is-newest me;
}

one-most : {X : Type 0} (p : X → Bool) (x : X) → count_by p (x ∷ []) ≤ 1
one-most p x = by (p x)
  where
    by : (b : Bool) → 0 + cond b 1 0 ≤ 1
    by true = omega arith
    by false = omega arith

-- a book with one entry has room for one more
has-room : (claim : Claim) (text : List ℕ) → HasRoom (book_with claim) (text ∷ [])
has-room claim text =
    omega (arith, one-most (is_plain_of 0) (record { generation = 0; text = text_of claim }), one-most (λ t. not (is_some (place_of (text_of claim ∷ []) t))) text)

log-kept : (me : ℕ) → me < 5 → IsKeptLog (calls.after_confirm (decided_log me) first_decision a_name)
log-kept me less =
    kept-confirming (decided_log me) first_decision a_name (decided-kept me less)
    (record { is_newest = refl; is_name = is-name; certificate = subst (λ o. IfSome o IsDigest) (sym (certificate-there me)) digest-fits; root = root-digest one_table })
    (has-room (vote_claim me 1 registered) (calls.confirmation_text (decided_log me) first_decision a_name))

log-honest : (me : ℕ) → me < 5 → IsOfHonestLog five me (confirming_log me)
log-honest me less = (log-kept me less).honest

-- it signed its vote and its confirmation
log-voted : (me : ℕ) → me < 5 → Contains (texts_of (confirming_log me).signed) (text_of (vote_claim me 1 registered))
log-voted me less = (log-honest me less).signs_what_it_tells.votes 0 OwnVote (omega arith)

log-says : (me : ℕ) → Contains (texts_of (confirming_log me).signed) (text_of (says (log_party me)))
log-says me =
    let text = calls.confirmation_text (decided_log me) first_decision a_name in
    let there = entry-has (book_with (vote_claim me 1 registered)) text (has-room (vote_claim me 1 registered) text) in
    subst (λ o. Contains (texts_of (confirming_log me).signed) (text_of (confirm_claim me 1 a_name o (root_of one_table)))) (certificate-there me) there

-- ---- an authority

may-confirm : MayConfirm five 0 all_five kept_one
may-confirm = record {
  known = omega arith;
  voted = all-below;
  many = five-many;
  epoch = refl;
  name = is-name;
  certificate = digest-fits;
  value = value-fits;
}

authority-honest : (me : ℕ) → me < 3 → IsOfHonestAuthority five me (confirming_authority me)
authority-honest me less =
    honest-first five me (after_endorse me (fresh_authority 32) asked_for) 0 all_five kept_one
    (honest-endorse five me (fresh_authority 32) asked_for (honest-fresh five me 32 (omega arith)) (omega (arith, less)) digest-fits) (omega (arith, less)) may-confirm

fresh-room : (text : List ℕ) → HasRoom (fresh_authority 32).signed (text ∷ [])
fresh-room text = omega (arith, one-most (λ t. not (is_some (place_of [] t))) text)

authority-endorsed : (me : ℕ) → Contains (texts_of (confirming_authority me).signed) (text_of (endorse me (digest_of first_certificate)))
authority-endorsed me =
    let text : List ℕ = text_of (endorse me (digest_of first_certificate)) in
    entry-keeps (after_endorse me (fresh_authority 32) asked_for).signed (text_of (says (authority_party me))) text
    (endorse-signed me (fresh_authority 32) asked_for (fresh-room text))

authority-says : (me : ℕ) → Contains (texts_of (confirming_authority me).signed) (text_of (says (authority_party me)))
authority-says me =
    confirm-signed me (after_endorse me (fresh_authority 32) asked_for) 0 all_five kept_one
    (has-room (endorse me (digest_of first_certificate)) (text_of (says (authority_party me))))

-- ---- no statement was forged

abbrev IsOwn : SeenText → Type 0
IsOwn s = IsHonest registered_run s.party → Contains (signed_by registered_run s.party) s.text

abbrev Saying : Party → SeenText
Saying p = seen_of p (says p)

votes-own : All IsOwn (map Voting all_five)
votes-own = All-map IsOwn Voting all_five (λ k d less honest. log-voted (get_or all_five k d) honest.known)

seen-own : All IsOwn seen_by_all
seen-own = All-append IsOwn (map Endorsing (0 ∷ (1 ∷ (2 ∷ [])))) (map Voting all_five)
    (All-map IsOwn Endorsing (0 ∷ (1 ∷ (2 ∷ []))) (λ k d less honest. authority-endorsed (get_or (0 ∷ (1 ∷ (2 ∷ []))) k d))) votes-own

unforged : NoForgery registered_run
unforged = record {
  logs = λ log is. signed-of registered_run (confirming_log log).seen seen-own;
  authorities = λ authority is. signed-of registered_run (confirming_authority authority).seen
      (seen-all IsOwn (seen_of_log 0 all_five kept_one) [] (All-nil IsOwn)
      (All-cons IsOwn (Saying (log_party 0)) (map Voting all_five) (λ honest. log-says 0) votes-own));
  judged = only (λ (j : AcceptedConfirmation). AreSigned registered_run (carried j.confirmation)) judged_one (signed-of registered_run (carried confirmation)
      (All-cons IsOwn (Saying (log_party 0)) (Saying (authority_party 0) ∷ (Saying (authority_party 1) ∷ [])) (λ honest. log-says 0)
      (All-cons IsOwn (Saying (authority_party 0)) (Saying (authority_party 1) ∷ []) (λ honest. authority-says 0)
      (only IsOwn (Saying (authority_party 1)) (λ honest. authority-says 1)))));
  learned = λ party text good there. absurd (omega (arith, there.1));
}

-- ---- nothing collides

-- each log voted for the table, and decided it
one-tables : (log : ℕ) → All (λ t. t ≡ one_table) (log_tables (confirming_log log))
one-tables log = rw (base-one (Decided (registration ∷ []) (root_of one_table))) (rw applied-one (All-cons (λ t. t ≡ one_table) one_table (one_table ∷ []) refl (only (λ t. t ≡ one_table) one_table refl)))

tables-below : (n : ℕ) → All (λ t. t ≡ one_table) (tables_below registered_run n)
unfolding tables_below
tables-below zero = All-nil (λ t. t ≡ one_table)
tables-below (suc n) = All-append (λ t. t ≡ one_table) (log_tables (confirming_log n)) (tables_below registered_run n) (one-tables n) (tables-below n)

hashed-one : (x : List ℕ) → IsIn (hashed registered_run) x → IsOne x
hashed-one x is = elim (in_both (flat_map table_strings (tables_below registered_run 5)) (flat_map judged_strings registered_run.judged) x is) [
  | inl table ↦ tables-of (tables_below registered_run 5) (tables-below 5) x table
  | inr client ↦ in-judged client
]
  where
    in-judged : IsIn (flat_map judged_strings registered_run.judged) x → IsOne x
    in-judged (inl name) = inl name
    in-judged (inr (inl value)) = inr (inl value)
    in-judged (inr (inr (inl certificate))) = inr (inr (inl certificate))
    in-judged (inr (inr (inr (inl entry)))) = inr (inr (inr entry))
    in-judged (inr (inr (inr (inr more)))) = absurd more

-- the first bytes of the four digests
first-of : List ℕ → ℕ
first-of string = slice_index (sha256 string) 0

certificate-digest : List ℕ
certificate-digest =
    0x42 ∷ 0x3b ∷ 0xed ∷ 0x3d ∷ 0x2e ∷ 0x2c ∷ 0xad ∷ 0x9f ∷ 0x34 ∷ 0x82 ∷ 0x28 ∷ 0x43 ∷ 0x6e ∷ 0x2d ∷ 0xff ∷ 0x2e
    ∷ 0x5e ∷ 0x03 ∷ 0x1e ∷ 0x19 ∷ 0xe1 ∷ 0x1a ∷ 0x19 ∷ 0xe8 ∷ 0x17 ∷ 0xf2 ∷ 0x4e ∷ 0x51 ∷ 0x18 ∷ 0x8d ∷ 0xdf ∷ 0x89 ∷ []

name-digest : List ℕ
name-digest =
    0x0d ∷ 0x23 ∷ 0x39 ∷ 0x1c ∷ 0x4b ∷ 0x1f ∷ 0xad ∷ 0x26 ∷ 0x85 ∷ 0xdc ∷ 0xa0 ∷ 0x0c ∷ 0x69 ∷ 0xad ∷ 0x44 ∷ 0x8a
    ∷ 0x00 ∷ 0x31 ∷ 0x64 ∷ 0xa0 ∷ 0xd1 ∷ 0xe7 ∷ 0x3c ∷ 0xef ∷ 0x30 ∷ 0xb8 ∷ 0xf6 ∷ 0x9a ∷ 0x86 ∷ 0xec ∷ 0x9a ∷ 0xba ∷ []

value-digest : List ℕ
value-digest =
    0x74 ∷ 0x44 ∷ 0xa2 ∷ 0x24 ∷ 0x03 ∷ 0x42 ∷ 0xc8 ∷ 0xe8 ∷ 0xd3 ∷ 0x38 ∷ 0x72 ∷ 0x0f ∷ 0xa2 ∷ 0x93 ∷ 0x80 ∷ 0x79
    ∷ 0x25 ∷ 0xa6 ∷ 0xb7 ∷ 0xe1 ∷ 0xbf ∷ 0x24 ∷ 0xc3 ∷ 0x87 ∷ 0x9c ∷ 0x5e ∷ 0x62 ∷ 0x29 ∷ 0xaa ∷ 0x90 ∷ 0x5b ∷ 0x8c ∷ []

digest-of-name : NameKey ≡ name-digest
unfolding sha256 hash_after compress rounds schedule first_words digest_bytes name-digest
digest-of-name = refl

digest-of-certificate : digest_of first_certificate ≡ certificate-digest
unfolding sha256 hash_after compress rounds schedule first_words digest_bytes digest_of certificate_text front_text rules_text wait_text key_text number_text certificate-digest
digest-of-certificate = refl

value-of-literal : sha256 (value_string 0 certificate-digest) ≡ value-digest
unfolding sha256 hash_after compress rounds schedule first_words digest_bytes certificate-digest value-digest
value-of-literal = refl

digest-of-value : NameValue ≡ value-digest
digest-of-value = ap (λ d. sha256 (value_string 0 d)) digest-of-certificate ∙ value-of-literal

entry-of-literal : slice_index (sha256 (entry_string name-digest value-digest)) 0 ≡ 0xec
unfolding sha256 hash_after compress rounds schedule first_words digest_bytes name-digest value-digest
entry-of-literal = refl

head-of-name : first-of (name_string a_name) ≡ 0x0d
unfolding first-of name-digest
head-of-name = ap (λ d. slice_index d 0) digest-of-name

head-of-value : first-of (value_string 0 (digest_of first_certificate)) ≡ 0x74
unfolding first-of value-digest
head-of-value = ap (λ d. slice_index d 0) digest-of-value

head-of-certificate : first-of (certificate_string first_certificate) ≡ 0x42
unfolding first-of digest_of certificate-digest
head-of-certificate = ap (λ d. slice_index d 0) digest-of-certificate

head-of-entry : first-of (entry_string NameKey NameValue) ≡ 0xec
unfolding first-of
head-of-entry =
    ap (λ k. slice_index (sha256 (entry_string k NameValue)) 0) digest-of-name
    ∙ ap (λ v. slice_index (sha256 (entry_string name-digest v)) 0) digest-of-value ∙ entry-of-literal

differ : (x y : List ℕ) → (x ≡ y → ⊥) → not (bytes_eq x y) ≡ true
differ x y none = by (bytes_eq x y) refl
  where
    by : (b : Bool) → bytes_eq x y ≡ b → not b ≡ true
    by true is = absurd (none ((bytes_eq-Decides x y).0 is))
    by false is = refl

equal-apart : (x y s : List ℕ) → x ≡ s → y ≡ s → are_apart x y ≡ true
equal-apart x y s a b = or_right (not (bytes_eq (sha256 x) (sha256 y))) (bytes_eq x y) ((bytes_eq-Decides x y).1 (a ∙ sym b))

heads-apart : (x y : List ℕ) (m n : ℕ) → first-of x ≡ m → first-of y ≡ n → m ≢ n → are_apart x y ≡ true
unfolding first-of
heads-apart x y m n a b other =
    or_left (not (bytes_eq (sha256 x) (sha256 y))) (bytes_eq x y) (differ (sha256 x) (sha256 y) (λ e. other (sym a ∙ ap (λ d. slice_index d 0) e ∙ b)))

-- a string with the first byte of its digest, one of the four
record IsHeaded (x s : List ℕ) (n : ℕ) : Type 0 where
  same : x ≡ s
  head : first-of x ≡ n

headed : (x s : List ℕ) (n : ℕ) → x ≡ s → first-of s ≡ n → IsHeaded x s n
headed x s n is head = record { same = is; head = ap first-of is ∙ head }

-- the place of a string among the four, with its string and the first byte of its digest
string-at : ℕ → List ℕ
string-at zero = name_string a_name
string-at (suc zero) = value_string 0 (digest_of first_certificate)
string-at (suc (suc zero)) = certificate_string first_certificate
string-at (suc (suc (suc k))) = entry_string NameKey NameValue

head-at : ℕ → ℕ
head-at zero = 0x0d
head-at (suc zero) = 0x74
head-at (suc (suc zero)) = 0x42
head-at (suc (suc (suc k))) = 0xec

place-at : (x : List ℕ) → IsOne x → (k : ℕ) × ((k < 4) × IsHeaded x (string-at k) (head-at k))
unfolding string-at head-at
place-at x (inl a) = (0, (omega arith, headed x (name_string a_name) 0x0d a head-of-name))
place-at x (inr (inl a)) = (1, (omega arith, headed x (value_string 0 (digest_of first_certificate)) 0x74 a head-of-value))
place-at x (inr (inr (inl a))) = (2, (omega arith, headed x (certificate_string first_certificate) 0x42 a head-of-certificate))
place-at x (inr (inr (inr a))) = (3, (omega arith, headed x (entry_string NameKey NameValue) 0xec a head-of-entry))

one-head : (j k : ℕ) → j < 4 → k < 4 → head-at j ≡ head-at k → j ≡ k
unfolding head-at
one-head zero zero a b e = refl
one-head zero (suc zero) a b e = absurd (omega (arith, e))
one-head zero (suc (suc zero)) a b e = absurd (omega (arith, e))
one-head zero (suc (suc (suc k))) a b e = absurd (omega (arith, e))
one-head (suc zero) zero a b e = absurd (omega (arith, e))
one-head (suc zero) (suc zero) a b e = refl
one-head (suc zero) (suc (suc zero)) a b e = absurd (omega (arith, e))
one-head (suc zero) (suc (suc (suc k))) a b e = absurd (omega (arith, e))
one-head (suc (suc zero)) zero a b e = absurd (omega (arith, e))
one-head (suc (suc zero)) (suc zero) a b e = absurd (omega (arith, e))
one-head (suc (suc zero)) (suc (suc zero)) a b e = refl
one-head (suc (suc zero)) (suc (suc (suc k))) a b e = absurd (omega (arith, e))
one-head (suc (suc (suc j))) zero a b e = absurd (omega (arith, e))
one-head (suc (suc (suc j))) (suc zero) a b e = absurd (omega (arith, e))
one-head (suc (suc (suc j))) (suc (suc zero)) a b e = absurd (omega (arith, e))
one-head (suc (suc (suc j))) (suc (suc (suc k))) a b e = omega (arith, a, b)

pair-apart : (x y : List ℕ) → IsOne x → IsOne y → are_apart x y ≡ true
pair-apart x y is-x is-y = elim (cases_eq a.0 b.0) [
  | inl same ↦ equal-apart x y (string-at b.0) (a.1.1.same ∙ ap string-at same) b.1.1.same
  | inr other ↦ heads-apart x y (head-at a.0) (head-at b.0) a.1.1.head b.1.1.head (λ e. other (one-head a.0 b.0 a.1.0 b.1.0 e))
]
  where
    a : (k : ℕ) × ((k < 4) × IsHeaded x (string-at k) (head-at k))
    a = place-at x is-x

    b : (k : ℕ) × ((k < 4) × IsHeaded y (string-at k) (head-at k))
    b = place-at y is-y

-- a look-up in a list of one finds that one alone
one-found : {V : Type 0} (name : List ℕ) (v : V) (q : List ℕ) (w : V) → maps.find key_cmp q ((name, v) ∷ []) ≡ Some w → w ≡ v
one-found name v q w is = by (eq_by_cmp key_cmp q name) is
  where
    by : (b : Bool) → cond b (Some v) None ≡ Some w → w ≡ v
    by true e = cc
    by false e = absurd cc

one-in : (certificate : Certificate) → Contains (first_certificate ∷ []) certificate → certificate ≡ first_certificate
one-in certificate here = by here.0 here.1 here.2
  where
    by : (k : ℕ) → k < 1 → get_or (first_certificate ∷ []) k certificate ≡ certificate → certificate ≡ first_certificate
    by zero less same = sym same
    by (suc k) less same = absurd (omega (arith, less))

in-chain : (name : List ℕ) (certificate : Certificate) → Contains (certificates one_table name) certificate → certificate ≡ first_certificate
in-chain name certificate there =
    by (get one_table.chains name) (λ chain is. one-found a_name (registration ∷ []) name chain (sym (get-entries one_table.chains name ∙ ap (maps.find key_cmp name) one-chain) ∙ is)) there
  where
    by : (o : Option (List Change)) → ((chain : List Change) → o ≡ Some chain → chain ≡ registration ∷ []) → Contains (certificates_of (unwrap_or o [])) certificate → certificate ≡ first_certificate
    by None found inside = absurd (omega (arith, inside.1))
    by (Some chain) found inside = one-in certificate (subst (λ c. Contains (certificates_of c) certificate) (found chain refl) inside)

none-waits : (name : List ℕ) (certificate : Certificate) (since : ℕ) → pairs one_table name ≡ Some (certificate, since) → ⊥
none-waits name certificate since is =
    let none : get one_table.waiting name ≡ None = get-entries one_table.waiting name ∙ ap (maps.find key_cmp name) no-waiting in
    let wrong : ◌≡◌ {A = Option (Certificate × ℕ)} None (Some (certificate, since)) = sym (ap (λ o. option_map pair_of o) none) ∙ is in
    absurd cc

asked-one : (authority : ℕ) (a : Approved) → Contains (confirming_authority authority).asked a → a ≡ asked_for
asked-one authority a there = by there.0 there.1 there.2
  where
    by : (k : ℕ) → k < 1 → get_or (asked_for ∷ []) k a ≡ a → a ≡ asked_for
    by zero less same = sym same
    by (suc k) less same = absurd (omega (arith, less))

-- what stands in the table is the certificate
stands-one : (table : Table) → table ≡ one_table → (name : List ℕ) (certificate : Certificate) → StandsIn table name certificate → certificate ≡ first_certificate
stands-one table is name certificate (inl chain) = in-chain name certificate (subst (λ t. Contains (certificates t name) certificate) is chain)
stands-one table is name certificate (inr waits) = absurd (none-waits name certificate waits.0 (subst (λ t. pairs t name ≡ Some (certificate, waits.0)) is waits.1))

collision-free : NoCollision registered_run
collision-free = record {
  strings = all_from (λ x. list_all (λ y. are_apart x y) (hashed registered_run)) (hashed registered_run)
      (λ x here. all_from (λ y. are_apart x y) (hashed registered_run) (λ y there. pair-apart x y (hashed-one x here) (hashed-one y there)));
  asked = λ authority is a there table listed name certificate stands same.
      let one : table ≡ one_table = All-contains (λ t. t ≡ one_table) (tables_below registered_run 5) table (tables-below 5) listed in
      let this : certificate ≡ first_certificate = stands-one table one name certificate stands in
      let yes : a ≡ asked_for = asked-one authority a there in
      (ap (λ (c : Certificate). c.name) this ∙ ap (λ (x : Approved). x.name) (sym yes), ap (λ (c : Certificate). key_text c.subject) this ∙ ap (λ (x : Approved). x.key) (sym yes));
}

-- ---- the client

signed-spelled : (role : Role) (number : ℕ) → AllBytes (signed_text (signed_for role number))
signed-spelled role number =
    joined (number_text w16 number) (number_text w16 (length (signed_for role number).signature) ++ (signed_for role number).signature) (number-spelled w16 number)
    (joined (number_text w16 (length (signed_for role number).signature)) (signed_for role number).signature (number-spelled w16 (length (signed_for role number).signature))
    (signature-spelled (key_for role number) (due_for (party role number))))

subject-spelled : AllBytes (subject_text confirmation.about)
unfolding subject_text
subject-spelled =
    joined (number_text w16 0) (number_text w64 1 ++ ((number_text w8 1 ++ a_name) ++ root_of one_table)) (number-spelled w16 0)
    (joined (number_text w64 1) ((number_text w8 1 ++ a_name) ++ root_of one_table) (number-spelled w64 1)
    (joined (number_text w8 1 ++ a_name) (root_of one_table) (joined (number_text w8 1) a_name (number-spelled w8 1) (omega arith, tt)) (bytes_by_recursion (root_of one_table) (root-digest one_table).bytes)))

-- what a test on each says
tested : (xs : List ℕ) → list_all (λ b. nat_lt b 256) xs ≡ true → AllBytes xs
tested [] e = tt
tested (b ∷ xs) e = let two = and_parts (nat_lt b 256) (list_all (λ c. nat_lt c 256) xs) e in (ltb-true b 256 two.0, tested xs two.1)

body-spelled : AllBytes (body_text confirmation.body)
unfolding body_text certificate_text front_text rules_text wait_text key_text number_text
body-spelled = tested (body_text confirmation.body) refl

text-spelled : AllBytes (confirmation_text confirmation)
unfolding confirmation_text confirmation_fields_text
text-spelled =
    joined (number_text w8 12) (number_text w8 1 ++ (subject ++ (body ++ (path ++ signers)))) (number-spelled w8 12)
    (joined (number_text w8 1) (subject ++ (body ++ (path ++ signers))) (number-spelled w8 1)
    (joined subject (body ++ (path ++ signers)) subject-spelled
    (joined body (path ++ signers) body-spelled
    (joined path signers (joined (number_text w16 0) [] (number-spelled w16 0) tt)
    (joined (signed_text (signed_for LogServer 0)) (signed_text (signed_for Authority 0) ++ signed_text (signed_for Authority 1)) (signed-spelled LogServer 0)
    (joined (signed_text (signed_for Authority 0)) (signed_text (signed_for Authority 1)) (signed-spelled Authority 0) (signed-spelled Authority 1)))))))
  where
    subject : List ℕ
    subject = subject_text confirmation.about

    body : List ℕ
    body = body_text confirmation.body

    path : List ℕ
    path = number_text w16 0 ++ []

    signers : List ℕ
    signers = signed_text (signed_for LogServer 0) ++ (signed_text (signed_for Authority 0) ++ signed_text (signed_for Authority 1))

signature-small : (role : Role) (number : ℕ) → length (signed_for role number).signature < 2 ^ 16
signature-small role number = signature-fits (key_for role number) (due_for (party role number)) (omega arith)

confirmation-fits : IsConfirmation confirmation
confirmation-fits = record {
  about = record { client = omega arith; epoch = (omega arith, omega arith); name = is-name; root = root-digest one_table };
  body = certificate-fits;
  steps = (0, (omega arith, refl));
  log = (omega arith, signature-small LogServer 0);
  first = (omega arith, signature-small Authority 0);
  second = (omega arith, signature-small Authority 1);
}

is-verified : (role : Role) (number : ℕ) → number < 2 ^ 16 → is_witness role ≡ true → slice_get (keys_of directory_of_five (party role number)) 0 ≡ Some (public_of (key_for role number))
    → verified directory_of_five (party role number) (text_of (says (party role number))) (signed_for role number).signature ≡ Ok tt
is-verified role number small witness known =
    signed-verified directory_of_five (party role number) (says (party role number)) (key_for role number) (due_for (party role number)) (says-valid (party role number) small witness) refl
    (record { text_is = refl; generation = omega arith; known = known; leaf = omega arith })

-- the path without steps shows the certificate
shown : OnBytes (name_digest_of a_name) NameValue [] (root_of one_table)
shown = (refl, (omega arith, sym root-is))

holds : HoldsAll asked_in_one confirmation
holds = (
  refl,
  (
    parties,
    (
      is-verified LogServer 0 (omega arith) refl refl,
      (
        is-verified Authority 0 (omega arith) refl refl,
        (is-verified Authority 1 (omega arith) refl refl, ((refl, shown), (omega arith, ((omega arith, omega arith), (refl, (omega arith, tt)))))),
      ),
    ),
  ),
)
  where
    parties : HasSigners directory_of_five confirmation
    parties = record { log = omega arith; first = omega arith; second = omega arith; two = λ e. omega (arith, e) }

one-passes : PassesChecks asked_in_one (confirmation_text confirmation) confirmation
one-passes = record {
  is_read = whole_again confirmation_at confirmation (confirmation_text confirmation) (confirmation_again confirmation confirmation-fits);
  holds = holds;
}

-- ---- the run

pub run-honest : AreHonest registered_run
run-honest = record {
  quorums = five-quorums;
  logs = λ log is. log-honest log is.known;
  authorities = λ authority is. authority-honest authority is.known;
  judged = only (IsJudged five) judged_one (record { bytes = at_each (confirmation_text confirmation) text-spelled; passes = one-passes; same_council = refl });
}

pub run-premises : Few registered_run × (NoForgery registered_run × NoCollision registered_run)
run-premises = (omega arith, (unforged, collision-free))

pub run-accepted : judgement (record { keys = directory_of_five; name = a_name; epoch = 1; age = 0 }) (confirmation_text confirmation) ≡ Accepted first_certificate (digest_of first_certificate) 1 (root_of one_table)
run-accepted = (accepted asked_in_one (confirmation_text confirmation) first_certificate (digest_of first_certificate) 1 (root_of one_table)).1 (record {
  confirmation = confirmation;
  passes = one-passes;
  body = refl;
  digest_is = refl;
  epoch_is = refl;
  root_is = refl;
})

-- ---- what is confirmed

-- the log and the first authority confirmed it under the root of the table
pub run-confirmed : Confirms registered_run (log_party 0) 1 (root_of one_table) × Confirms registered_run (authority_party 0) 1 (root_of one_table)
run-confirmed = (
  record { name = a_name; certificate = Some (digest_of first_certificate); valid = says-valid (log_party 0) (omega arith) refl; signed = log-says 0 },
  record { name = a_name; certificate = Some (digest_of first_certificate); valid = says-valid (authority_party 0) (omega arith) refl; signed = authority-says 0 },
)
