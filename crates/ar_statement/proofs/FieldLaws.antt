-- A digest, an epoch and a name: what was put is read again, and what is read is spelled so.
use Rattle.std.proofs.Common.{◌≡◌, ℕ, ◌^◌, ◌<◌, ◌≤◌, true, ◌&&◌, leb, List, ◌++◌, length, Option, None, Some, Ok, refl, sym, subst, arith}
use Rattle.std.specs.Prelude.{is_none}
use Rattle.std.specs.Int.{w8, w64}
use Rattle.std.proofs.lemmas.Bool.{le-leb, leb-true, and_parts, and_from}
use Rattle.ar_bytes.specs.Reading.{Cursor, bytes_at, number_at, such_that}
use Rattle.ar_base.specs.Bytes.{AreBytes, IsDigest}
use Rattle.ar_base.proofs.Shown.{bind_ok}
use Rattle.ar_bytes.specs.RoundTrip.{Passes, ReadsBack, number_text}
use Rattle.ar_bytes.proofs.Steps.{between, Passes-then, Passes-first, Passes-second, AreBytes-behind}
use Rattle.ar_bytes.proofs.Passing.{bytes_again, bytes_pass, number_again, number_pass, wide8, wide64, AreBytes-front}
use Rattle.ar_bytes.proofs.Parts.{such_that_again, such_that_pass}
use Rattle.ar_names.specs.Names.{first_fault_of, IsName, is_name}
use Rattle.ar_names.proofs.Least.{short}
use Rattle.ar_statement.specs.Claims.{name_text}
use Rattle.ar_statement.specs.Fields.{IsEpoch, is_epoch, is_name_len, digest_at, epoch_at, name_at}

pub digest_again : (digest : List ℕ) → IsDigest digest → ReadsBack digest_at digest digest
digest_again digest d at new p = bytes_again 32 digest at new d.len p

pub digest_pass : (at new : Cursor) (digest : List ℕ) → AreBytes at.ahead → digest_at at ≡ Ok (digest, new) → Passes at digest new × IsDigest digest
digest_pass at new digest bytes e =
    let p = bytes_pass 32 at new digest e in
    (p.0, record { len = p.1; bytes = AreBytes-front at new digest p.0 bytes })

-- a number from low to high
in_range : (low high n : ℕ) → low ≤ n → n ≤ high → (leb low n && leb n high) ≡ true
in_range low high n a b = and_from (leb low n) (leb n high) (le-leb low n a) (le-leb n high b)

from_range : (low high n : ℕ) → (leb low n && leb n high) ≡ true → (low ≤ n) × (n ≤ high)
from_range low high n e =
    let parts = and_parts (leb low n) (leb n high) e in
    (leb-true low n parts.0, leb-true n high parts.1)

pub epoch_again : (epoch : ℕ) → IsEpoch epoch → ReadsBack epoch_at epoch (number_text w64 epoch)
unfolding epoch_at
epoch_again epoch h =
    such_that_again is_epoch (number_at w64) epoch (number_text w64 epoch) (number_again w64 (2 ^ 64) wide64 epoch (omega (arith, h))) (in_range 1 (2 ^ 63) epoch h.0 h.1)

pub epoch_pass : (at new : Cursor) (epoch : ℕ) → AreBytes at.ahead → epoch_at at ≡ Ok (epoch, new) → Passes at (number_text w64 epoch) new × IsEpoch epoch
unfolding epoch_at
epoch_pass at new epoch bytes e =
    let p = such_that_pass is_epoch (number_at w64) (number_text w64) (λ n. n < 2 ^ 64) (number_pass w64 (2 ^ 64) wide64) at new epoch bytes e in
    (p.0, from_range 1 (2 ^ 63) epoch p.1.1)

is_none_of : (o : Option ℕ) → is_none o ≡ true → o ≡ None
is_none_of None e = refl
is_none_of (Some x) e = absurd cc

pub name_again : (name : List ℕ) → IsName name → ReadsBack name_at name (name_text name)
unfolding name_at
name_again name h at new p =
    let s = short name h in
    let count = number_text w8 (length name) in
    let mid = between at count (name ++ new.ahead) in
    let len = such_that_again is_name_len (number_at w8) (length name) count (number_again w8 (2 ^ 8) wide8 (length name) (omega (arith, s.1))) (in_range 1 253 (length name) s.0 s.1) at mid (Passes-first at new count name p) in
    let is : is_name name ≡ true = rw h refl in
    let rest = such_that_again is_name (bytes_at (length name)) name name (λ a n q. bytes_again (length name) name a n refl q) is mid new (Passes-second at new count name p) in
    rw (len, rest) refl

pub name_pass : (at new : Cursor) (name : List ℕ) → AreBytes at.ahead → name_at at ≡ Ok (name, new) → Passes at (name_text name) new × IsName name
unfolding name_at
name_pass at new name bytes e =
    let b = bind_ok (such_that is_name_len (number_at w8) at) (λ len. such_that is_name (bytes_at len.0) len.1) (name, new) e in
    let first = such_that_pass is_name_len (number_at w8) (number_text w8) (λ n. n < 2 ^ 8) (number_pass w8 (2 ^ 8) wide8) at b.0.1 b.0.0 bytes b.1 in
    let behind = AreBytes-behind at b.0.1 (number_text w8 b.0.0) first.0 bytes in
    let second = such_that_pass is_name (bytes_at b.0.0) (λ x. x) (λ x. length x ≡ b.0.0) (λ a n v f. bytes_pass b.0.0 a n v) b.0.1 new name behind b.2 in
    let both = Passes-then at b.0.1 new (number_text w8 b.0.0) name first.0 second.0 in
    (subst (λ (k : ℕ). Passes at (number_text w8 k ++ name) new) (sym second.1.0) both, is_none_of (first_fault_of name) second.1.1)
