-- What a directory learns moves neither its text nor its digest.
use Rattle.std.proofs.Common.{◌≡◌, ℕ, zero, suc, ◌<◌, ◌≤◌, List, [], ◌∷◌, ◌++◌, length, bytes_eq, cond, true, false, refl, ap, ◌∙◌, arith}
use Rattle.sha2.specs.Sha256.{sha256}
use Rattle.ar_base.specs.Prefixes.{BeginsWith}
use Rattle.ar_council.specs.Council.{Council, council_of}
use Rattle.ar_council.proofs.Members.{council-all}
use Rattle.ar_statement.specs.Claims.{authority_party, log_party}
use Rattle.lms_tree.specs.declared.public_key.LmsPublic.{LmsPublic}
use Rattle.party_keys.specs.Directory.{Directory, HaveKeys, IsDirectory, keys_at}
use Rattle.party_keys.specs.Learning.{Announced, after_all, after_learning}
use Rattle.party_keys.proofs.Growing.{all_grows}
use Rattle.table_map.specs.Recalling.{after_lessons, lessons_under, recalled}
use Rattle.table_map.specs.declared.recalling.Lesson.{Lesson}
use Rattle.table_map.specs.Digests.{directory_digest, directory_text, first_text, first_texts, texts_below}

-- keys behind others leave the first where it was
first-same : (keys more : List LmsPublic) → 0 < length keys → BeginsWith more keys → first_text more ≡ first_text keys
first-same [] more some begins = absurd (omega (arith, some))
first-same (key ∷ keys) more some begins = ap first_text begins.1

texts-same : (one other : List (List LmsPublic)) (count : ℕ) → HaveKeys one → count ≤ length one → ((n : ℕ) → BeginsWith (keys_at other n) (keys_at one n))
    → texts_below other count ≡ texts_below one count
unfolding texts_below
texts-same one other zero have few begins = refl
texts-same one other (suc n) have few begins =
    let before = texts-same one other n have (omega (arith, few)) begins in
    let here = first-same (keys_at one n) (keys_at other n) (have n [] (omega (arith, few))) (begins n) in
    λ i. before i ++ here i

pub text-stays : (keys : Directory) (announced : List Announced) → IsDirectory keys → directory_text (after_all keys announced) ≡ directory_text keys
text-stays keys announced is =
    let later : Directory = after_all keys announced in
    let same : council_of later ≡ council_of keys = council-all keys announced in
    let logs : length later.logs ≡ length keys.logs = ap (λ (c : Council). c.logs) same in
    let authorities : length later.authorities ≡ length keys.authorities = ap (λ (c : Council). c.authorities) same in
    let quorum : later.quorum ≡ keys.quorum = ap (λ (c : Council). c.quorum) same in
    let of-logs : first_texts later.logs ≡ first_texts keys.logs =
    ap (texts_below later.logs) logs ∙ texts-same keys.logs later.logs (length keys.logs) is.logs_keys (omega arith) (λ n. all_grows keys announced (log_party n)) in
    let of-authorities : first_texts later.authorities ≡ first_texts keys.authorities =
    ap (texts_below later.authorities) authorities
    ∙ texts-same keys.authorities later.authorities (length keys.authorities) is.authorities_keys (omega arith) (λ n. all_grows keys announced (authority_party n)) in
    λ i. quorum i ∷ (logs i ∷ (authorities i ∷ (of-logs i ++ of-authorities i)))

pub digest-stays : (keys : Directory) (announced : List Announced) → IsDirectory keys → directory_digest (after_all keys announced) ≡ directory_digest keys
unfolding directory_digest
digest-stays keys announced is = ap (λ text. sha256 (0x05 ∷ text)) (text-stays keys announced is)

-- ---- what is recalled

lessons-all : (digest : List ℕ) (keys : Directory) (lessons : List Lesson) → after_lessons digest keys lessons ≡ after_all keys (lessons_under digest lessons)
unfolding after_lessons lessons_under
lessons-all digest keys [] = refl
lessons-all digest keys (lesson ∷ lessons) =
    elim (bytes_eq lesson.under digest) as (λ b. after_lessons digest (cond b (after_learning keys lesson.note.now) keys) lessons ≡ after_all keys (cond b (lesson.note.now ∷ lessons_under digest lessons) (lessons_under digest lessons))) [
      | true ↦ lessons-all digest (after_learning keys lesson.note.now) lessons
      | false ↦ lessons-all digest keys lessons
    ]

-- it is what was learnt under the directory
pub recalled-all : (keys : Directory) (lessons : List Lesson) → recalled keys lessons ≡ after_all keys (lessons_under (directory_digest keys) lessons)
unfolding recalled
recalled-all keys lessons = lessons-all (directory_digest keys) keys lessons

pub recalled-digest : (keys : Directory) (lessons : List Lesson) → IsDirectory keys → directory_digest (recalled keys lessons) ≡ directory_digest keys
recalled-digest keys lessons is = ap directory_digest (recalled-all keys lessons) ∙ digest-stays keys (lessons_under (directory_digest keys) lessons) is
