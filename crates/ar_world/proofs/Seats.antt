-- Worlds in which a log changed in its place.
use Rattle.std.proofs.Common.{◌≡◌, ◌<◌, ◌^◌, ℕ, List, [], length, Option, Some, sym, subst, arith}
use Rattle.std.proofs.lemmas.List.{length-set}
use Rattle.std.specs.Prelude.{slice_set}
use Rattle.ar_nodes.specs.Acting.{ChangesAt}
use Rattle.ar_nodes.specs.Parties.{LogNode}
use Rattle.ar_founding.specs.FirstKeys.{FirstKeys, Setup}
use Rattle.ar_founding.specs.declared.directories.Directories.{Directories}
use Rattle.ar_world.specs.Kept.{IsKeptWorld}
use Rattle.ar_world.specs.State.{Drafted}
use Rattle.ar_world.specs.declared.phase.Phase.{Phase}

-- a world in which a log changed is one that the program keeps
pub still_kept : (phase : Phase) (setup : Setup) (log_keys : FirstKeys) (directories : Option Directories) (drafts : List Drafted) (logs : List (Option LogNode)) (number : ℕ) (slot : Option LogNode)
    → IsKeptWorld phase setup log_keys directories drafts logs → IsKeptWorld phase setup log_keys directories drafts (slice_set logs number slot)
still_kept phase setup log_keys directories drafts logs number slot kept =
    record { keys = kept.keys; known = kept.known; serials = kept.serials; few = subst (λ (n : ℕ). n < 2 ^ 16) (sym (length-set logs number slot)) kept.few }

-- the same by what changed
pub kept_there : (phase : Phase) (setup : Setup) (log_keys : FirstKeys) (directories : Option Directories) (drafts : List Drafted) (logs logs' : List (Option LogNode)) (number : ℕ)
    (changes : LogNode → LogNode → Type 0) → ChangesAt logs logs' number changes → IsKeptWorld phase setup log_keys directories drafts logs → IsKeptWorld phase setup log_keys directories drafts logs'
kept_there phase setup log_keys directories drafts logs logs' number changes at kept =
    subst (λ (ls : List (Option LogNode)). IsKeptWorld phase setup log_keys directories drafts ls) (sym at.behind) (still_kept phase setup log_keys directories drafts logs number (Some at.is) kept)

-- or with as many logs
pub kept_as_many : (phase : Phase) (setup : Setup) (log_keys : FirstKeys) (directories : Option Directories) (drafts : List Drafted) (logs logs' : List (Option LogNode))
    → length logs' ≡ length logs → IsKeptWorld phase setup log_keys directories drafts logs → IsKeptWorld phase setup log_keys directories drafts logs'
kept_as_many phase setup log_keys directories drafts logs logs' many kept =
    record { keys = kept.keys; known = kept.known; serials = kept.serials; few = subst (λ (n : ℕ). n < 2 ^ 16) (sym many) kept.few }

-- or with none
pub kept_without : (phase : Phase) (setup : Setup) (log_keys : FirstKeys) (directories : Option Directories) (drafts : List Drafted) (logs none : List (Option LogNode))
    → none ≡ [] → IsKeptWorld phase setup log_keys directories drafts logs → IsKeptWorld phase setup log_keys directories drafts none
kept_without phase setup log_keys directories drafts logs none empty kept =
    let few : length logs < 2 ^ 16 = kept.few in
    let least : length {A = Option LogNode} [] < 2 ^ 16 = omega (arith, few) in
    record { keys = kept.keys; known = kept.known; serials = kept.serials; few = subst (λ (ls : List (Option LogNode)). length ls < 2 ^ 16) (sym empty) least }
