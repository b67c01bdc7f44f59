-- That a station may be sent to another thread, with all that it is made of. Nothing shows it of a type that holds itself, as the
-- node of a kept tree, nor of those above it, but by these lemmas.
use denote.RattleType.{RattleType}
use denote.Param.Send.{IsSend, sendable, view_send}
use denote.Param.SendFields.{as_row_send, declared_send, variants_send}
use Rattle.std.proofs.Crossing.{crosses}
use Rattle.ar_base.proofs.items.Items.TheSendSync.{the_send as items_send}
use Rattle.ar_cert.proofs.change.Change.TheSendSync.{the_send as change_send}
use Rattle.authority_core.proofs.keyless.AuthorityCore.TheSendSync.{the_send as authority_send}
use Rattle.domain_table.proofs.row.Row.TheSendSync.{the_send as row_send}
use Rattle.domain_table.specs.contracts.counted_trie.CountedTrie as CountedTrie
use Rattle.domain_table.specs.contracts.table.Table as Table
use Rattle.epoch_log.proofs.entries.Newest.TheSendSync.{the_send as newest_send}
use Rattle.epoch_log.proofs.past.Record.TheSendSync.{the_send as record_send}
use Rattle.epoch_log.specs.contracts.log.EpochLog as EpochLog
use Rattle.epoch_log.specs.contracts.log.EpochLog.TheInside as LogInside
use Rattle.epoch_log.specs.contracts.parts.Parts as Parts
use Rattle.hash_tree.proofs.node.Node.TheLaws.TheKnot as knot
use Rattle.hash_tree.specs.contracts.trie.Trie as Trie
use Rattle.log_core.specs.contracts.log_core.LogCore as LogCore
use Rattle.log_core.specs.contracts.log_core.LogCore.TheInside as CoreInside
use Rattle.party_keys.proofs.directory.Directory.TheSendSync.{the_send as directory_send}
use Rattle.station.specs.contracts.station.Station as Station
use Rattle.vote_quorum.proofs.value.Value.TheSendSync.{the_send as value_send}

pub trie_send : IsSend Trie.the_row
trie_send = search (knot.crosses, crosses, sendable) depth 30

counted_send : IsSend CountedTrie.the_row
counted_send = search (trie_send, crosses, sendable) depth 30

pub table_send : IsSend Table.the_row
table_send = search (counted_send, row_send, crosses, sendable) depth 30

-- what a log holds
pub parts_send : IsSend Parts.the_row
parts_send =
    search (declared_send, variants_send, as_row_send, table_send, directory_send, record_send, newest_send, items_send, value_send, crosses, sendable) depth 60 fits 20000

log_inside : IsSend LogInside.the_row
log_inside = search (declared_send, parts_send, crosses, sendable) depth 30

pub log_send : IsSend EpochLog.the_row
log_send = view_send LogInside.the_row _ _ _ _ log_inside

core_inside : IsSend CoreInside.the_row
core_inside = declared_send CoreInside.the_type (
  search (log_send, crosses, sendable) depth 30,
  (search (as_row_send, change_send, crosses, sendable) depth 30, (search (as_row_send, crosses, sendable) depth 30, tt)),
)

-- a log without its keys
pub core_send : IsSend LogCore.the_row
core_send = view_send CoreInside.the_row _ _ _ _ core_inside

-- a station, where its check may be sent
pub station_send : (C : RattleType) → IsSend C → IsSend (Station.the_row C)
station_send C check_send = search (variants_send, core_send, authority_send, check_send, crosses, sendable) depth 30
