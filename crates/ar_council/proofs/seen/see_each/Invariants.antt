use Rattle.std.proofs.Common.{◌≡◌, ◌+◌, ◌≤◌, length, drop, vec_len, vec_capacity}
use Rattle.ar_council.specs.Seen.{seen_after}
use Rattle.ar_council.proofs.seen.see_each.Given as goal

-- those that are left are seen behind those so far, and there is room for them
abbrev pub invariant-loop-text : goal.invariant-loop-text
invariant-loop-text l =
    (seen_after l.seen.items (drop l.text-index l.more) ≡ seen_after l.initial.seen.items l.more)
    × (vec_len l.seen + length l.more ≤ vec_capacity l.seen + l.text-index)
