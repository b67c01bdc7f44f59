-- Chains whose newest certificates are equal are equal, back to the first, where no strings collide.
use Rattle.std.proofs.Common.{◌≡◌, ℕ, zero, suc, ◌+◌, ◌<◌, List, [], ◌∷◌, ◌++◌, length, get_or, drop, refl, sym, ap, ◌∙◌, arith, Some}
use Rattle.std.specs.Prelude.{All}
use Rattle.std.proofs.lemmas.List.{append-nil}
use Rattle.std.proofs.lemmas.Option.{same_Some}
use Rattle.ar_base.specs.Apart.{IsIn, Apart}
use Rattle.ar_cert.specs.Certificate.{Certificate, IsCertificate, certificate_at, certificate_string, certificate_text, digest_of}
use Rattle.ar_cert.specs.Changes.{Change, IsChange}
use Rattle.ar_cert.specs.Judging.{IsChain}
use Rattle.ar_cert.proofs.CertificateLaws.{certificate_again}
use Rattle.ar_cert.proofs.ChangeLaws.{one_text}
use Rattle.ar_cert.proofs.Accepted.{accepted_succeeds, serial_at}
use Rattle.domain_table.specs.Tables.{certificates_of, newest}
use Rattle.domain_table.proofs.Newest.{newest_is}

-- the digest tells which certificate it is
pub one_certificate : (strings : List (List ℕ)) → Apart strings → (a b : Certificate) → IsCertificate a → IsCertificate b
    → IsIn strings (certificate_string a) → IsIn strings (certificate_string b) → digest_of a ≡ digest_of b → a ≡ b
unfolding digest_of
one_certificate strings apart a b is_a is_b in_a in_b e =
    let same : certificate_string a ≡ certificate_string b = apart (certificate_string a) (certificate_string b) in_a in_b e in
    let texts : certificate_text a ++ [] ≡ certificate_text b ++ [] = append-nil (certificate_text a) ∙ ap (drop 1) same ∙ sym (append-nil (certificate_text b)) in
    (one_text certificate_at a b (certificate_text a) (certificate_text b) [] [] (certificate_again a is_a) (certificate_again b is_b) texts).0

-- a chain whose certificates are hashed
pub record Good (strings : List (List ℕ)) (chain : List Change) : Type 0 where
  pub is_chain : IsChain chain
  pub each : All IsChange chain
  pub hashed : All (λ r. IsIn strings (certificate_string r.cert)) chain

-- certificates of two lists that agree at each place
same_places : (xs ys : List Change) → length xs ≡ length ys → ((k : ℕ) (d : Change) → k < length xs → (get_or xs k d).cert ≡ (get_or ys k d).cert) → certificates_of xs ≡ certificates_of ys
same_places [] [] e at = refl
same_places [] (y ∷ ys) e at = absurd (omega (arith, e))
same_places (x ∷ xs) [] e at = absurd (omega (arith, e))
same_places (x ∷ xs) (y ∷ ys) e at =
    let here : x.cert ≡ y.cert = at 0 x (omega arith) in
    let rest = same_places xs ys (omega (arith, e)) (λ k d l. at (suc k) d (omega (arith, l))) in
    λ i. here i ∷ rest i

-- the certificate before, by the previous digest
before : (strings : List (List ℕ)) → Apart strings → (one other : List Change) → Good strings one → Good strings other → (k : ℕ) (d : Change) → k + 1 < length one → k + 1 < length other
    → (get_or one (k + 1) d).cert ≡ (get_or other (k + 1) d).cert → (get_or one k d).cert ≡ (get_or other k d).cert
before strings apart one other good_one good_other k d l m e =
    let links_one = (accepted_succeeds (get_or one k d).cert (get_or one (k + 1) d) (good_one.is_chain.next k d l)).linked in
    let links_other = (accepted_succeeds (get_or other k d).cert (get_or other (k + 1) d) (good_other.is_chain.next k d m)).linked in
    one_certificate strings apart (get_or one k d).cert (get_or other k d).cert
    (good_one.each k d (omega (arith, l))).cert (good_other.each k d (omega (arith, m))).cert
    (good_one.hashed k d (omega (arith, l))) (good_other.hashed k d (omega (arith, m)))
    (sym links_one ∙ ap (λ c. c.previous) e ∙ links_other)

-- from one place down
down : (strings : List (List ℕ)) → Apart strings → (one other : List Change) → Good strings one → Good strings other → length one ≡ length other
    → (n k : ℕ) (d : Change) → n + (k + 1) ≡ length one → ((j : ℕ) → j + 1 ≡ length one → (get_or one j d).cert ≡ (get_or other j d).cert) → (get_or one k d).cert ≡ (get_or other k d).cert
down strings apart one other good_one good_other e zero k d at top = top k (omega (arith, at))
down strings apart one other good_one good_other e (suc n) k d at top =
    before strings apart one other good_one good_other k d (omega (arith, at)) (omega (arith, at, e))
    (down strings apart one other good_one good_other e n (k + 1) d (omega (arith, at)) top)

pub one_chain : (strings : List (List ℕ)) → Apart strings → (one other : List Change) → Good strings one → Good strings other → newest one ≡ newest other → certificates_of one ≡ certificates_of other
one_chain strings apart [] other good_one good_other e = absurd (omega (arith, good_one.is_chain.some))
one_chain strings apart (a ∷ one) [] good_one good_other e = absurd (omega (arith, good_other.is_chain.some))
one_chain strings apart (a ∷ one) (b ∷ other) good_one good_other e =
    same_places (a ∷ one) (b ∷ other) same_length
    (λ k d l. let rest = length_less k (a ∷ one) l in down strings apart (a ∷ one) (b ∷ other) good_one good_other same_length rest.0 k d rest.1 (λ j at. tops d j at)) where
      length_less : (k : ℕ) (xs : List Change) → k < length xs → (n : ℕ) × (n + (k + 1) ≡ length xs)
      length_less k [] l = absurd (omega (arith, l))
      length_less zero (x ∷ xs) l = (length xs, omega arith)
      length_less (suc k) (x ∷ xs) l = let rest = length_less k xs (omega (arith, l)) in (rest.0, omega (arith, rest.1))

      last_one : newest (a ∷ one) ≡ Some (get_or (a ∷ one) (length one) a).cert
      last_one = newest_is (a ∷ one) (length one) a (omega arith)

      last_other : newest (b ∷ other) ≡ Some (get_or (b ∷ other) (length other) a).cert
      last_other = newest_is (b ∷ other) (length other) a (omega arith)

      lasts : (get_or (a ∷ one) (length one) a).cert ≡ (get_or (b ∷ other) (length other) a).cert
      lasts = same_Some (get_or (a ∷ one) (length one) a).cert (get_or (b ∷ other) (length other) a).cert (sym last_one ∙ e ∙ last_other)

      same_length : length (a ∷ one) ≡ length (b ∷ other)
      same_length =
          let n : (get_or (a ∷ one) (length one) a).cert.serial ≡ length one = serial_at (a ∷ one) good_one.is_chain (length one) a (omega arith) in
          let m : (get_or (b ∷ other) (length other) a).cert.serial ≡ length other = serial_at (b ∷ other) good_other.is_chain (length other) a (omega arith) in
          let same : length one ≡ length other = sym n ∙ ap (λ c. c.serial) lasts ∙ m in
          omega (arith, same)

      tops : (d : Change) (j : ℕ) → j + 1 ≡ length (a ∷ one) → (get_or (a ∷ one) j d).cert ≡ (get_or (b ∷ other) j d).cert
      tops d j at = same_Some (get_or (a ∷ one) j d).cert (get_or (b ∷ other) j d).cert
          (sym (newest_is (a ∷ one) j d at) ∙ e ∙ newest_is (b ∷ other) j d (at ∙ same_length))
