-- One text is of one directory.
use Rattle.std.proofs.Common.{◌≡◌, ℕ, zero, suc, ◌+◌, ◌*◌, ◌<◌, ◌≤◌, ⊎_elim, List, [], ◌∷◌, ◌++◌, length, length-append, get_or, drop, slice_get, Option, Some, None, refl, sym, ap, ◌∙◌, subst, arith}
use Rattle.std.specs.Prelude.{All}
use Rattle.std.proofs.lemmas.Bool.{cases_lt}
use Rattle.std.proofs.lemmas.List.{get_or_past}
use Rattle.ar_statement.specs.declared.party.Party.{Party}
use Rattle.ar_statement.specs.declared.party.Role.{Role}
use Rattle.ar_statement.specs.declared.party.Role.TheVariants.{LogServer, Authority, Owner, Client}
use Rattle.lms_tree.specs.PublicKey.{HasWidths}
use Rattle.lms_tree.specs.declared.public_key.LmsPublic.{LmsPublic}
use Rattle.lms_tree.proofs.KeyLemmas.{length-key_text, one-text-one-key}
use Rattle.party_keys.specs.Directory.{Directory, HaveKeys, IsDirectory, keys_at, keys_of}
use Rattle.tree_proof.proofs.Lands.{same_parts, same_parts_from_end}
use Rattle.table_map.specs.Digests.{AreWide, OneDirectory, directory_text, first_text, first_texts, texts_below}

first-length : (keys : List LmsPublic) → 0 < length keys → All HasWidths keys → length (first_text keys) ≡ 56
first-length [] some wide = absurd (omega (arith, some))
first-length (key ∷ keys) some wide = length-key_text key (wide 0 key (omega arith))

-- what the first key is, by its text
first-key : (keys others : List LmsPublic) → 0 < length keys → 0 < length others → All HasWidths keys → All HasWidths others → first_text keys ≡ first_text others → slice_get keys 0 ≡ slice_get others 0
first-key [] others some more wide broad same = absurd (omega (arith, some))
first-key (key ∷ keys) [] some more wide broad same = absurd (omega (arith, more))
first-key (key ∷ keys) (other ∷ others) some more wide broad same =
    ap (λ (k : LmsPublic). Some k) (one-text-one-key key other (wide 0 key (omega arith)) (broad 0 other (omega arith)) same)

texts-length : (lists : List (List LmsPublic)) (n : ℕ) → HaveKeys lists → AreWide lists → n ≤ length lists → length (texts_below lists n) ≡ n * 56
unfolding texts_below
texts-length lists zero have wide few = refl
texts-length lists (suc n) have wide few =
    let before = texts-length lists n have wide (omega (arith, few)) in
    let here = first-length (keys_at lists n) (have n [] (omega (arith, few))) (wide n [] (omega (arith, few))) in
    omega (arith, before, here, length-append (texts_below lists n) (first_text (keys_at lists n)))

-- texts of equally many parties tell the first key of each
texts-tell : (lists others : List (List LmsPublic)) (n : ℕ) → HaveKeys lists → HaveKeys others → AreWide lists → AreWide others → n ≤ length lists → n ≤ length others
    → texts_below lists n ≡ texts_below others n → (k : ℕ) → k < n → slice_get (keys_at lists k) 0 ≡ slice_get (keys_at others k) 0
unfolding texts_below
texts-tell lists others zero have own wide broad few less same k below = absurd (omega (arith, below))
texts-tell lists others (suc n) have own wide broad few less same k below =
    let one = first-length (keys_at lists n) (have n [] (omega (arith, few))) (wide n [] (omega (arith, few))) in
    let other = first-length (keys_at others n) (own n [] (omega (arith, less))) (broad n [] (omega (arith, less))) in
    let parts = same_parts_from_end (texts_below lists n) (first_text (keys_at lists n)) (texts_below others n) (first_text (keys_at others n)) same (one ∙ sym other) in
    ⊎_elim
    (λ (l : k < n). texts-tell lists others n have own wide broad (omega (arith, few)) (omega (arith, less)) parts.0 k l)
    (λ (l : n ≤ k).
    let at : n ≡ k = omega (arith, below, l) in
    subst (λ m. slice_get (keys_at lists m) 0 ≡ slice_get (keys_at others m) 0) at
    (first-key (keys_at lists n) (keys_at others n) (have n [] (omega (arith, few))) (own n [] (omega (arith, less))) (wide n [] (omega (arith, few))) (broad n [] (omega (arith, less))) parts.1))
    (cases_lt k n)

-- also of parties that there are not
role-tells : (lists others : List (List LmsPublic)) → HaveKeys lists → HaveKeys others → AreWide lists → AreWide others → length lists ≡ length others
    → first_texts lists ≡ first_texts others → (k : ℕ) → slice_get (keys_at lists k) 0 ≡ slice_get (keys_at others k) 0
role-tells lists others have own wide broad long same k =
    ⊎_elim
    (λ (l : k < length lists).
    texts-tell lists others (length lists) have own wide broad (omega arith) (omega (arith, long)) (same ∙ ap (texts_below others) (sym long)) k l)
    (λ (l : length lists ≤ k).
    let none : keys_at lists k ≡ [] = get_or_past lists k [] l in
    let neither : keys_at others k ≡ [] = get_or_past others k [] (omega (arith, l, long)) in
    ap (λ (ks : List LmsPublic). slice_get ks 0) (none ∙ sym neither))
    (cases_lt k (length lists))

pub one-of-text : (keys others : Directory) → IsDirectory keys → IsDirectory others → AreWide keys.logs → AreWide keys.authorities → AreWide others.logs → AreWide others.authorities
    → directory_text keys ≡ directory_text others → OneDirectory keys others
one-of-text keys others is are logs-wide authorities-wide logs-broad authorities-broad same =
    record { quorum = ap (λ xs. get_or xs 0 0) same; logs = logs; authorities = authorities; first = λ party. by party.role party.number }
  where
    logs : length keys.logs ≡ length others.logs
    logs = ap (λ xs. get_or xs 1 0) same

    authorities : length keys.authorities ≡ length others.authorities
    authorities = ap (λ xs. get_or xs 2 0) same

    long : length (first_texts keys.logs) ≡ length (first_texts others.logs)
    long = texts-length keys.logs (length keys.logs) is.logs_keys logs-wide (omega arith) ∙ ap (λ n. n * 56) logs
        ∙ sym (texts-length others.logs (length others.logs) are.logs_keys logs-broad (omega arith))

    parts : (first_texts keys.logs ≡ first_texts others.logs) × (first_texts keys.authorities ≡ first_texts others.authorities)
    parts = same_parts (first_texts keys.logs) (first_texts keys.authorities) (first_texts others.logs) (first_texts others.authorities) (ap (drop 3) same) long

    by : (role : Role) (number : ℕ) → slice_get (keys_of keys (record { role = role; number = number })) 0 ≡ slice_get (keys_of others (record { role = role; number = number })) 0
    by LogServer number = role-tells keys.logs others.logs is.logs_keys are.logs_keys logs-wide logs-broad logs parts.0 number
    by Authority number = role-tells keys.authorities others.authorities is.authorities_keys are.authorities_keys authorities-wide authorities-broad authorities parts.1 number
    by Owner number = refl
    by Client number = refl
