-- How many parties are honest below a number, and the record at a place.
use Rattle.std.proofs.Common.{◌≡◌, ℕ, zero, suc, ◌+◌, Bool, true, false, not, List, [], ◌∷◌, refl, sym, ap, ◌∙◌, arith, Some, None}
use Rattle.std.specs.Prelude.{slice_get, slice_index_or}
use Rattle.ar_base.specs.Counting.{one_if}
use Rattle.ar_safety.specs.Held.{honest_below}
use Rattle.ar_statement.specs.Claims.{has_party}
use Rattle.authority_core.specs.Record.{AuthorityRecord}
use Rattle.epoch_log.specs.Record.{LogRecord}
use Rattle.run_premises.specs.Books.{holds}
use Rattle.ar_statement.specs.declared.party.Party.{Party}

-- one party more, which is honest or not
pub honest-more : (named : ℕ → Party) (dishonest : List Party) (n count : ℕ) → has_party dishonest (named n) ≡ false
    → count ≡ honest_below named dishonest n → count + 1 ≡ honest_below named dishonest (n + 1)
honest-more named dishonest n count honest is =
    let one : n + 1 ≡ suc n = omega arith in
    let more : honest_below named dishonest (suc n) ≡ 1 + honest_below named dishonest n = ap (λ (t : Bool). one_if (not t) + honest_below named dishonest n) honest in
    let whole = ap (honest_below named dishonest) one ∙ more in
    omega (arith, is, whole)

pub honest-same : (named : ℕ → Party) (dishonest : List Party) (n count : ℕ) → has_party dishonest (named n) ≡ true
    → count ≡ honest_below named dishonest n → count ≡ honest_below named dishonest (n + 1)
honest-same named dishonest n count not_honest is =
    let one : n + 1 ≡ suc n = omega arith in
    let more : honest_below named dishonest (suc n) ≡ 0 + honest_below named dishonest n = ap (λ (t : Bool). one_if (not t) + honest_below named dishonest n) not_honest in
    let whole = ap (honest_below named dishonest) one ∙ more in
    omega (arith, is, whole)

pub ruleset counting_laws = (honest-more, honest-same)

-- what stands at a place, and what is taken in its stead where nothing does
pub found-at : {X : Type 0} (xs : List X) (k : ℕ) (x d : X) → slice_get xs k ≡ Some x → slice_index_or xs k d ≡ x
found-at [] k x d is = absurd (cc)
found-at (y ∷ xs) zero x d is = cc
found-at (y ∷ xs) (suc k) x d is = found-at xs k x d is

pub none-at : {X : Type 0} (xs : List X) (k : ℕ) (d : X) → slice_get xs k ≡ None → slice_index_or xs k d ≡ d
none-at [] k d is = refl
none-at (y ∷ xs) zero d is = absurd (cc)
none-at (y ∷ xs) (suc k) d is = none-at xs k d is

pub log-held : (logs : List LogRecord) (place n : ℕ) (kept none : LogRecord) (text : List ℕ) (held : Bool) → place ≡ n → Some kept ≡ slice_get logs place
    → held ≡ holds kept.signed text → held ≡ holds (slice_index_or logs n none).signed text
log-held logs place n kept none text held same there is =
    is ∙ ap (λ (r : LogRecord). holds r.signed text) (sym (found-at logs place kept none (sym there)) ∙ ap (λ k. slice_index_or logs k none) same)

pub authority-held : (authorities : List AuthorityRecord) (place n : ℕ) (kept none : AuthorityRecord) (text : List ℕ) (held : Bool) → place ≡ n → Some kept ≡ slice_get authorities place
    → held ≡ holds kept.signed text → held ≡ holds (slice_index_or authorities n none).signed text
authority-held authorities place n kept none text held same there is =
    is ∙ ap (λ (r : AuthorityRecord). holds r.signed text) (sym (found-at authorities place kept none (sym there)) ∙ ap (λ k. slice_index_or authorities k none) same)

pub ruleset place_laws = (log-held, authority-held, none-at)
