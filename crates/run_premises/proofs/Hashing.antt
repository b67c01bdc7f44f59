-- The strings that are hashed in a run, log by log, and of what clients accepted.
use Rattle.std.proofs.Common.{◌≡◌, ℕ, Bool, false, suc, ◌+◌, ◌-◌, ◌<◌, ◌≤◌, get_or, length, drop, subst, List, [], ◌∷◌, ◌++◌, refl, sym, ap, ◌∙◌, arith, Option, Some, None}
use Rattle.std.specs.Prelude.{flat_map, if◌then◌else◌, slice_get, slice_index_or}
use Rattle.std.specs.List.{cons_option, filter_map}
use Rattle.std.specs.Option.{option_map}
use Rattle.std.specs.Result.{result_ok}
use Rattle.std.proofs.lemmas.Grind.{flat_map-append}
use Rattle.std.proofs.lemmas.List.{append_assoc, append-nil, drop_more}
use Rattle.ar_bytes.specs.Reading.{whole}
use Rattle.ar_message.specs.Confirmation.{Confirmation, confirmation_at}
use Rattle.ar_council.specs.Council.{council_of}
use Rattle.ar_safety.specs.Hashed.{hashed, judged_strings, listed_tables, log_tables, tables_below}
use Rattle.ar_safety.specs.Held.{Held, AcceptedBytes, asked_by, honest_below, judged_in, records_of}
use Rattle.ar_safety.specs.Records.{AcceptedConfirmation, Records}
use Rattle.ar_statement.specs.Claims.{has_party, log_party}
use Rattle.domain_table.specs.Tree.{table_strings}
use Rattle.epoch_log.specs.Calls.{fresh}
use Rattle.epoch_log.specs.Record.{LogRecord}
use Rattle.hashed_strings.specs.Index.{AreNoted}
use Rattle.hashed_strings.specs.Judged.{strings_in, strings_read}
use Rattle.hashed_strings.specs.declared.noted.Noted.{Noted}
use Rattle.party_keys.specs.Directory.{Directory}
use Rattle.run_premises.specs.Hashing.{tables_of}
use Rattle.run_premises.proofs.Counting.{found-at, none-at}

-- ---- logs

pub first-log : (r : Records) → tables_below r 0 ≡ []
unfolding tables_below
first-log r = refl

-- the strings of one log more stand in front of those of the logs before it
pub next-log : (r : Records) (n : ℕ) (others : List (List ℕ))
    → flat_map table_strings (tables_of r n) ++ (flat_map table_strings (tables_below r n) ++ others) ≡ flat_map table_strings (tables_below r (n + 1)) ++ others
unfolding tables_below
next-log r n others =
    let one : n + 1 ≡ suc n = omega arith in
    sym (append_assoc (flat_map table_strings (tables_of r n)) (flat_map table_strings (tables_below r n)) others)
    ∙ ap (λ strings. strings ++ others) (sym (flat_map-append table_strings (tables_of r n) (tables_below r n)) ∙ ap (λ k. flat_map table_strings (tables_below r k)) (sym one))

-- the tables of an honest log are those of the record at its place
pub found-tables : (h : Held) (number place : ℕ) (kept : LogRecord) → has_party h.dishonest (log_party number) ≡ false → place ≡ honest_below log_party h.dishonest number → Some kept ≡ slice_get h.logs place
    → log_tables kept ≡ tables_of (records_of h) number
found-tables h number place kept honest same there =
    let none : LogRecord = (fresh 0 (council_of h.directory) 1).past in
    let own : kept ≡ (records_of h).logs number = sym (found-at h.logs place kept none (sym there)) ∙ ap (λ k. slice_index_or h.logs k none) same in
    ap log_tables own ∙ ap (λ (b : Bool). if b then [] else log_tables ((records_of h).logs number)) (sym honest)

-- where there is none, it has none
pub missing-tables : (h : Held) (number place : ℕ) → has_party h.dishonest (log_party number) ≡ false → place ≡ honest_below log_party h.dishonest number → None ≡ slice_get h.logs place
    → [] ≡ tables_of (records_of h) number
missing-tables h number place honest same there =
    let none : LogRecord = (fresh 0 (council_of h.directory) 1).past in
    let own : none ≡ (records_of h).logs number = sym (none-at h.logs place none (sym there)) ∙ ap (λ k. slice_index_or h.logs k none) same in
    let empty : [] ≡ log_tables none = refl in
    empty ∙ ap log_tables own ∙ ap (λ (b : Bool). if b then [] else log_tables ((records_of h).logs number)) (sym honest)

-- ---- clients

-- the strings of one confirmation more, in front of those behind it
pub judged-before : (noted : Noted) (judged : List AcceptedBytes) (i : ℕ) (t : AcceptedBytes) (bytes : List ℕ) (others : List (List ℕ)) → 0 < i → i ≤ length judged → get_or judged (i - 1) t ≡ t → bytes ≡ t.bytes
    → AreNoted noted (strings_in bytes ++ (flat_map (λ (t : AcceptedBytes). strings_in t.bytes) (drop i judged) ++ others))
    → AreNoted noted (flat_map (λ (t : AcceptedBytes). strings_in t.bytes) (drop (i - 1) judged) ++ others)
judged-before noted judged i t bytes others some within is same index =
    let behind : List (List ℕ) = flat_map (λ (t : AcceptedBytes). strings_in t.bytes) (drop i judged) in
    let back : (i - 1) + 1 ≡ i = omega (arith, some) in
    let longer : drop (i - 1) judged ≡ t ∷ drop i judged = drop_more judged (i - 1) t (omega (arith, some, within)) ∙ ap (λ (y : AcceptedBytes). y ∷ drop ((i - 1) + 1) judged) is ∙ ap (λ k. t ∷ drop k judged) back in
    subst (AreNoted noted)
    (ap (λ b. strings_in b ++ (behind ++ others)) same ∙ sym (append_assoc (strings_in t.bytes) behind others) ∙ ap (λ ts. flat_map (λ (t : AcceptedBytes). strings_in t.bytes) ts ++ others) (sym longer)) index

-- what a client hashes for a confirmation
told-judged : (directory : Directory) (t : AcceptedBytes) (o : Option Confirmation) (rest : List AcceptedConfirmation)
    → flat_map judged_strings (cons_option (option_map (λ (c : Confirmation). record { asked = asked_by directory t; bytes = t.bytes; confirmation = c }) o) rest)
    ≡ strings_read o ++ flat_map judged_strings rest
told-judged directory t None rest = refl
told-judged directory t (Some c) rest = refl

pub all-judged : (directory : Directory) (taken : List AcceptedBytes) → flat_map judged_strings (filter_map (judged_in directory) taken) ≡ flat_map (λ (t : AcceptedBytes). strings_in t.bytes) taken
all-judged directory [] = refl
all-judged directory (t ∷ taken) =
    told-judged directory t (result_ok (whole confirmation_at t.bytes)) (filter_map (judged_in directory) taken)
    ∙ ap (λ strings. strings_in t.bytes ++ strings) (all-judged directory taken)

-- all that is hashed in a run
pub all-hashed : (h : Held) (judged : List AcceptedBytes) → judged ≡ h.judged
    → flat_map table_strings (listed_tables (records_of h)) ++ (flat_map (λ (t : AcceptedBytes). strings_in t.bytes) judged ++ []) ≡ hashed (records_of h)
all-hashed h judged same =
    ap (λ strings. flat_map table_strings (listed_tables (records_of h)) ++ strings)
    (append-nil (flat_map (λ (t : AcceptedBytes). strings_in t.bytes) judged) ∙ ap (λ ts. flat_map (λ (t : AcceptedBytes). strings_in t.bytes) ts) same ∙ sym (all-judged h.directory h.judged))
