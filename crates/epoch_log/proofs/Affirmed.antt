-- A confirmation by the newest decision, and what a log keeps with it.
use Rattle.std.proofs.Common.{◌≡◌, ℕ, List, [], ◌∷◌, refl, sym, ap, ◌∙◌, subst, Option, Some}
use Rattle.std.specs.Prelude.{IfSome}
use Rattle.ar_base.specs.Bytes.{IsDigest}
use Rattle.ar_council.specs.Room.{HasRoom}
use Rattle.ar_names.specs.Names.{IsName}
use Rattle.ar_statement.specs.Claims.{text_of}
use Rattle.epoch_log.specs.Told.{confirmation_claim}
use Rattle.epoch_log.specs.Calls.{after_confirm, confirmed_of, confirming}
use Rattle.epoch_log.specs.Log.{IsLog, moved, parts_of, state_in}
use Rattle.epoch_log.specs.Right.{newest_digest}
use Rattle.epoch_log.specs.State.{LogState, table_of}
use Rattle.epoch_log.specs.declared.entries.Confirmed.{Confirmed}
use Rattle.epoch_log.specs.declared.entries.Newest.{Newest}
use Rattle.epoch_log.specs.declared.parts.Parts.{Parts}
use Rattle.epoch_log.specs.declared.parts.Tables.{Tables}
use Rattle.epoch_log.proofs.Acting.{kept-confirming}
use Rattle.epoch_log.proofs.Moved.{log-moved}

-- the confirmation of a certificate with this digest, or of none
abbrev pub by_newest : Newest → List ℕ → Option (List ℕ) → Confirmed
by_newest w name certificate = record { epoch = w.epoch; name = name; certificate = certificate; root = w.root }

same-digest : (p : Parts) (name : List ℕ) (certificate : Option (List ℕ)) → IsLog p → certificate ≡ newest_digest p.tables.base name
    → certificate ≡ newest_digest (table_of (state_in p)) name
same-digest p name certificate log is = is ∙ ap (λ (t : Tables). newest_digest t.base name) log.tables

same : (p : Parts) (w : Newest) (name : List ℕ) (certificate : Option (List ℕ)) → IsLog p → certificate ≡ newest_digest p.tables.base name
    → by_newest w name certificate ≡ confirmed_of (state_in p) w name
same p w name certificate log is = ap (by_newest w name) (same-digest p name certificate log is)

pub at-newest : (p : Parts) (w : Newest) (name : List ℕ) (certificate : Option (List ℕ)) (Q : Confirmed → Type 0) → p.newest ≡ Some w → IsLog p
    → certificate ≡ newest_digest p.tables.base name → Q (by_newest w name certificate) → IfSome p.newest (λ v. Q (confirmed_of (state_in p) v name))
at-newest p w name certificate Q is log digest holds =
    subst (λ (o : Option Newest). IfSome o (λ v. Q (confirmed_of (state_in p) v name))) (sym is) (subst Q (same p w name certificate log digest) holds)

pub log-confirmed : (p q : Parts) (w : Newest) (name : List ℕ) (certificate : Option (List ℕ)) → p.newest ≡ Some w → IsLog p → certificate ≡ newest_digest p.tables.base name
    → IsName name → IfSome certificate IsDigest → IsDigest w.root
    → HasRoom (state_in p).past.signed (text_of (confirmation_claim p.number (by_newest w name certificate)) ∷ [])
    → parts_of q ≡ moved (parts_of p) (confirming (state_in p) (text_of (confirmation_claim p.number (by_newest w name certificate))) (by_newest w name certificate)) → q.tables ≡ p.tables → IsLog q
log-confirmed p q w name certificate is log digest named one root room there table =
    let s : LogState = state_in p in
    let now : by_newest w name certificate ≡ confirmed_of s w name = same p w name certificate log digest in
    log-moved p q (after_confirm s w name) (subst (λ (k : Confirmed). parts_of q ≡ moved (parts_of p) (confirming s (text_of (confirmation_claim s.me k)) k)) now there) table log
    (kept-confirming s w name log.kept
    (record { is_newest = is; is_name = named; certificate = subst (λ (d : Option (List ℕ)). IfSome d IsDigest) (same-digest p name certificate log digest) one; root = root })
    (subst (λ (k : Confirmed). HasRoom s.past.signed (text_of (confirmation_claim s.me k) ∷ [])) now room)) refl
