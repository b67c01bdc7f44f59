-- The lines that make drafts of certificates: `register`, `update` and `revoke`.
use Rattle.std.specs.Prelude.{ℕ, ◌+◌, nat_lt, true, false, List, [], ◌∷◌, ◌++◌, length, map, Result, Ok, Err}
use Rattle.ar_base.specs.Chaining.{◌>>=◌, need}
use Rattle.ar_cert.specs.Certificate.{Certificate, digest_of}
use Rattle.ar_message.specs.declared.address.Address.TheVariants.{One}
use Rattle.ar_message.specs.declared.message.Message.TheVariants.{EndorseAsk}
use Rattle.ar_message.specs.declared.sent.Sent.{Sent}
use Rattle.cert_drafts.specs.Certificates.{first_certificate, next_certificate}
use Rattle.cert_drafts.specs.Policies.{policy_of}
use Rattle.lms_tree.specs.Key.{public_of}
use Rattle.owner_core.specs.Rows.{OwnerAnswer, begin_row, letter}
use Rattle.owner_core.specs.State.{Owner}
use Rattle.ar_statement.specs.Claims.{authority_party, owner_party}
use Rattle.report_text.specs.declared.happening.Happening.TheVariants.{Draft}
use Rattle.script_text.specs.declared.line.PolicyWords.{PolicyWords}
use Rattle.ar_world.specs.Finding.{Effect, draft_at, known_asks, most_drafts, owner_at, room, with_owner}
use Rattle.ar_nodes.specs.Finding.{named}
use Rattle.ar_nodes.specs.Pool.{Pooled, pooled_from}
use Rattle.ar_world.specs.Sending.{posted}
use Rattle.ar_world.specs.State.{Moved, World, printing, silent}
use Rattle.ar_nodes.specs.declared.fault.WorldFault.{WorldFault}
use Rattle.ar_nodes.specs.declared.fault.WorldFault.TheVariants.{Limit}

-- ---- a new draft

-- what an owner sends that asks these authorities to endorse a certificate
abbrev pub asked : Owner → Certificate → List ℕ → List Pooled
asked owner cert asks =
    map (pooled_from (owner_party owner.number)) (map (λ authority. letter (One (authority_party authority)) (EndorseAsk owner.number cert)) asks)

-- the owner asks authorities to endorse it
abbrev pub draft_begun : World → ℕ → OwnerAnswer Sent → Moved
draft_begun w number (Ok made) = posted (with_owner w made.1) (owner_party number) made.0
draft_begun w number (Err refusal) = silent w

-- the draft gets the next number
abbrev pub drafted : World → Owner → Certificate → List ℕ → Moved
drafted w owner cert asks =
    printing (Draft (length w.drafts + 1) (digest_of cert) ∷ [])
    (draft_begun (record w { drafts = w.drafts ++ record { owner = owner.number; cert = cert } ∷ [] }) owner.number (begin_row owner cert asks))

-- there is room for a draft and for messages
abbrev pub draft_room : World → Result (Unit {0}) WorldFault
draft_room w = do
  few ← need (nat_lt (length w.drafts) most_drafts) Limit
  room w

-- the draft, where there is room
abbrev pub draft_if : World → Owner → Certificate → List ℕ → Effect
draft_if w owner cert asks = do
  free ← draft_room w
  Ok (drafted w owner cert asks)

-- ---- lines

-- word 1 names an owner, the words from 3 on say a policy, and word 8 names authorities
abbrev pub register_line : World → ℕ → List ℕ → PolicyWords → List ℕ → Effect
register_line w number name policy asks = do
  owner ← named 1 (owner_at w number)
  terms ← named 3 (policy_of policy)
  known ← known_asks w 8 asks
  draft_if w owner (first_certificate (public_of owner.key) name terms) asks

-- word 1 names an owner, word 2 a draft, the words from 3 on say a policy, and word 8 names authorities
abbrev pub update_line : World → ℕ → ℕ → PolicyWords → List ℕ → Effect
update_line w number draft policy asks = do
  owner ← named 1 (owner_at w number)
  old ← named 2 (draft_at w draft)
  terms ← named 3 (policy_of policy)
  known ← known_asks w 8 asks
  draft_if w owner (next_certificate (public_of owner.key) old.cert terms false) asks

-- word 1 names an owner, word 2 a draft, and word 3 authorities
abbrev pub revoke_line : World → ℕ → ℕ → List ℕ → Effect
revoke_line w number draft asks = do
  owner ← named 1 (owner_at w number)
  old ← named 2 (draft_at w draft)
  known ← known_asks w 3 asks
  draft_if w owner (next_certificate (public_of owner.key) old.cert old.cert.policy true) asks
