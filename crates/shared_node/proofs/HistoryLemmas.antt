-- A core that answered one more call.
use Rattle.std.proofs.Common.{subst, sym}
use Rattle.node_core.specs.History.{Replays}
use Rattle.node_core.proofs.Histories.{replays_on}
use Rattle.shared_node.specs.Answers.{AddsCall}
use Rattle.shared_node.specs.declared.node.Node.{Node}

-- its history, which it has beside it, replays to where it stands then
pub adds_replays : {C S I N R : Type 0} (state : C → S) (next : S → I → N → R × S) (legal : S → I → N → Type 0) (first : S) (old new : Node C I N) (input : I) (reply : R)
    → AddsCall state next legal old input reply new → Replays next legal first old.history.items (state old.core) → Replays next legal first new.history.items (state new.core)
adds_replays state next legal first old new input reply adds before =
    let on = replays_on next legal first (state old.core) (state new.core) old.history.items input adds.note reply before adds.legally adds.next_is in
    subst (λ history. Replays next legal first history (state new.core)) (sym adds.history_is) on
