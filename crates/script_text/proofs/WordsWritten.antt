-- A word of each form is what is written of the value that it spells.
use Rattle.std.proofs.Common.{◌≡◌, ℕ, ◌==◌, Bool, true, false, cond, List, [], ◌∷◌, ◌++◌, length, take, drop, codes, map, Option, Some, None, refl, sym, ap, ◌∙◌, subst}
use Rattle.std.specs.Prelude.{option_map}
use Rattle.std.specs.Fmt.{decimal}
use Rattle.std.specs.List.{join_with_byte}
use Rattle.std.specs.Str.{bytes_eq}
use Rattle.std.proofs.lemmas.Bool.{eqb-true}
use Rattle.std.proofs.lemmas.List.Splits.{join_with_byte-slice_split}
use Rattle.std.proofs.lemmas.Option.{same_Some}
use Rattle.std.proofs.lemmas.Slice.Eq.{bytes_eq-Decides}
use Rattle.std.proofs.lemmas.List.{take-append-drop}
use Rattle.std.proofs.lemmas.Map.Entries.{option_filter}
use Rattle.ar_lines.specs.Forms.{name_of, number_in, number_of}
use Rattle.ar_lines.specs.Lines.{parts_of}
use Rattle.ar_lines.specs.Written.{WritesBack}
use Rattle.ar_lines.proofs.LineLaws.{pieces_are_some}
use Rattle.ar_lines.proofs.PartyWords.{party_writes}
use Rattle.ar_lines.proofs.Respelled.{name_own, number_in_writes, number_own, filtered_some, filtered_writes, stepped}
use Rattle.ar_statement.specs.Claims.{role_number}
use Rattle.ar_statement.specs.declared.party.Party.{Party}
use Rattle.ar_statement.specs.declared.party.Role.{Role}
use Rattle.ar_statement.specs.declared.party.Role.TheVariants as role
use Rattle.ar_statement.proofs.Statements.{same_role}
use Rattle.ar_lines.specs.Parties.{member_word, party_of, party_word}
use Rattle.script_text.specs.Forms.{ascending_of, asks_of, behind, binding_in, binding_of, each_of, judged_of, list_of, lms_of, new_owner_of, number_with, ots_of, party_count_of, quorum_of, receiver_of, trusted_of, wait_in, wait_of, witness_of}
use Rattle.script_text.specs.Written.{binding_word, judged_word, list_word, receiver_word, trusted_word, wait_word}
use Rattle.ar_base.proofs.Shown.{mapped}

-- ---- numbers

pub party_count_writes : WritesBack party_count_of decimal
unfolding party_count_of
party_count_writes = filtered_writes number_of decimal _ number_own

pub quorum_writes : (n : ℕ) → WritesBack (quorum_of n) decimal
unfolding quorum_of
quorum_writes n = filtered_writes number_of decimal _ number_own

pub lms_writes : WritesBack lms_of decimal
unfolding lms_of
lms_writes = filtered_writes number_of decimal _ number_own

pub ots_writes : (lms : ℕ) → WritesBack (ots_of lms) decimal
unfolding ots_of
ots_writes lms = filtered_writes number_of decimal _ number_own

-- ---- parties

pub member_writes : (r : Role) → WritesBack (number_with r) (member_word r)
unfolding number_with
member_writes r word number h =
    let found = mapped (λ (p : Party). p.number) (option_filter (λ (p : Party). role_number p.role == role_number r) (party_of word)) number h in
    let passed = filtered_some (λ (p : Party). role_number p.role == role_number r) (party_of word) found.0 found.1 in
    let same : found.0.role ≡ r = same_role found.0.role r (eqb-true _ _ passed.1) in
    ap (λ s. member_word s number) (sym same)
    ∙ ap (λ n. member_word found.0.role n) (sym found.2)
    ∙ party_writes word found.0 passed.0

pub witness_writes : WritesBack witness_of party_word
unfolding witness_of
witness_writes = filtered_writes party_of party_word _ party_writes

pub new_owner_writes : WritesBack new_owner_of (member_word role.Owner)
unfolding new_owner_of
new_owner_writes = filtered_writes (number_with role.Owner) (member_word role.Owner) _ (member_writes role.Owner)

-- ---- a word that stands for a choice, or another

chosen : {T : Type 0} (word name : List ℕ) (form : List ℕ → Option T) (write : T → List ℕ) (value : Option T) → WritesBack form write → cond (bytes_eq word name) (Some None) (option_map Some (form word)) ≡ Some value → elim value as (λ _. List ℕ) [ None ↦ name | Some x ↦ write x ] ≡ word
chosen {T = T} word name form write value writes h = by (bytes_eq word name) refl h
  where
    by : (b : Bool) → bytes_eq word name ≡ b → cond b (Some None) (option_map Some (form word)) ≡ Some value → elim value as (λ _. List ℕ) [ None ↦ name | Some x ↦ write x ] ≡ word
    by true is h = subst (λ (v : Option T). elim v as (λ _. List ℕ) [ None ↦ name | Some x ↦ write x ] ≡ word) (same_Some None value h) (sym ((bytes_eq-Decides word name).0 is))
    by false is h =
        let found = mapped Some (form word) value h in
        subst (λ (v : Option T). elim v as (λ _. List ℕ) [ None ↦ name | Some x ↦ write x ] ≡ word) found.2 (writes word found.0 found.1)

pub receiver_writes : WritesBack receiver_of receiver_word
unfolding receiver_of
receiver_writes word None h = chosen word (codes "logs") party_of party_word None party_writes h
receiver_writes word (Some p) h = chosen word (codes "logs") party_of party_word (Some p) party_writes h

pub judged_writes : WritesBack judged_of judged_word
unfolding judged_of
judged_writes word None h = chosen word (codes "last") number_of decimal None number_own h
judged_writes word (Some n) h = chosen word (codes "last") number_of decimal (Some n) number_own h

-- ---- lists

each_writes : (form : List ℕ → Option ℕ) (words : List (List ℕ)) (values : List ℕ) → WritesBack form decimal → each_of form words ≡ Some values → map decimal values ≡ words
each_writes form [] values writes h = ap (map decimal) (sym (same_Some [] values h))
each_writes form (word ∷ words) values writes h =
    let first = stepped _ (form word) values h in
    let others = mapped (λ (more : List ℕ). first.0 ∷ more) (each_of form words) values first.2 in
    ap (map decimal) (sym others.2)
    ∙ ap (λ w. w ∷ map decimal others.0) (writes word first.0 first.1)
    ∙ ap (λ ws. word ∷ ws) (each_writes form words others.0 writes others.1)

parts_joined : (mark : ℕ) (word : List ℕ) → join_with_byte mark (parts_of mark word) ≡ word
unfolding parts_of
parts_joined mark word = join_with_byte-slice_split mark word

list_each : (count most : ℕ) (word : List ℕ) (numbers : List ℕ) → list_of count most word ≡ Some numbers → map decimal numbers ≡ parts_of 44 word
unfolding list_of
list_each count most word numbers h =
    each_writes (number_in 0 most) (parts_of 44 word) numbers (number_in_writes 0 most) (filtered_some _ (each_of (number_in 0 most) (parts_of 44 word)) numbers h).0

ascending_each : (count most : ℕ) (word : List ℕ) (numbers : List ℕ) → ascending_of count most word ≡ Some numbers → map decimal numbers ≡ parts_of 44 word
unfolding ascending_of
ascending_each count most word numbers h = list_each count most word numbers (filtered_some _ (list_of count most word) numbers h).0

ascending_writes : (count most : ℕ) → WritesBack (ascending_of count most) list_word
ascending_writes count most word numbers h = ap (join_with_byte 44) (ascending_each count most word numbers h) ∙ parts_joined 44 word

pub asks_writes : WritesBack asks_of list_word
unfolding asks_of
asks_writes = ascending_writes 8 0xffff_ffff_ffff_ffff

-- a word has a part, so no list is empty
no_parts : (word : List ℕ) → [] ≡ parts_of 44 word → ⊥
unfolding parts_of
no_parts word h = let some = pieces_are_some (λ byte. byte == 44) word in cc

trusted_list : (word numbers : List ℕ) → ascending_of 16 65535 word ≡ Some numbers → trusted_word numbers ≡ word
trusted_list word [] h = absurd (no_parts word (ascending_each 16 65535 word [] h))
trusted_list word (n ∷ ns) h = ascending_writes 16 65535 word (n ∷ ns) h

trusted_by : (word numbers : List ℕ) (b : Bool) → bytes_eq word (codes "-") ≡ b → cond b (Some []) (ascending_of 16 65535 word) ≡ Some numbers → trusted_word numbers ≡ word
trusted_by word numbers true is h = ap trusted_word (sym (same_Some [] numbers h)) ∙ sym ((bytes_eq-Decides word (codes "-")).0 is)
trusted_by word numbers false is h = trusted_list word numbers h

pub trusted_writes : WritesBack trusted_of trusted_word
unfolding trusted_of
trusted_writes word numbers h = trusted_by word numbers (bytes_eq word (codes "-")) refl h

-- ---- bindings

wait_in_writes : WritesBack wait_in wait_word
wait_in_writes [] value h = ap wait_word (sym (same_Some None value h))
wait_in_writes (mark ∷ digits) value h = by (mark == 47) refl h
  where
    by : (b : Bool) → (mark == 47) ≡ b → cond b (option_map Some (number_in 1 10000 digits)) None ≡ Some value → wait_word value ≡ mark ∷ digits
    by false is h = absurd cc
    by true is h =
        let found = mapped Some (number_in 1 10000 digits) value h in
        ap wait_word (sym found.2)
        ∙ ap (λ m. m ∷ decimal found.0) (sym (eqb-true mark 47 is))
        ∙ ap (λ d. mark ∷ d) (number_in_writes 1 10000 digits found.0 found.1)

pub wait_writes : WritesBack wait_of wait_word
unfolding wait_of
wait_writes = wait_in_writes

behind_is : (front word text : List ℕ) (b : Bool) → bytes_eq (take (length front) word) front ≡ b → cond b (Some (drop (length front) word)) None ≡ Some text → front ++ text ≡ word
behind_is front word text true is h =
    ap (λ t. front ++ t) (sym (same_Some _ text h))
    ∙ ap (λ f. f ++ drop (length front) word) (sym ((bytes_eq-Decides (take (length front) word) front).0 is))
    ∙ take-append-drop (length front) word
behind_is front word text false is h = absurd cc

binding_by : (word : List ℕ) (keyed free : Option (List ℕ)) (value : Bool × Option ℕ) → behind (codes "keyed") word ≡ keyed → behind (codes "free") word ≡ free → binding_in keyed free ≡ Some value → binding_word value ≡ word
binding_by word (Some text) free value k f h =
    let wait = mapped (λ (w : Option ℕ). (true, w)) (wait_of text) value h in
    ap binding_word (sym wait.2)
    ∙ ap (λ t. codes "keyed" ++ t) (wait_writes text wait.0 wait.1)
    ∙ behind_is (codes "keyed") word text (bytes_eq (take 5 word) (codes "keyed")) refl k
binding_by word None (Some text) value k f h =
    let wait = mapped (λ (w : Option ℕ). (false, w)) (wait_of text) value h in
    ap binding_word (sym wait.2)
    ∙ ap (λ t. codes "free" ++ t) (wait_writes text wait.0 wait.1)
    ∙ behind_is (codes "free") word text (bytes_eq (take 4 word) (codes "free")) refl f
binding_by word None None value k f h = absurd cc

pub binding_writes : WritesBack binding_of binding_word
unfolding binding_of
binding_writes word value h = binding_by word (behind (codes "keyed") word) (behind (codes "free") word) value refl refl h

pub name_writes : WritesBack name_of (λ name. name)
name_writes = name_own
