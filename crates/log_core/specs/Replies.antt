-- What a step makes: the log behind it, and what it sends.
use Rattle.std.specs.Prelude.{List, ◌++◌, None}
use Rattle.ar_cert.specs.Changes.{Change}
use Rattle.epoch_log.specs.State.{LogState, epoch_of}
use Rattle.epoch_log.specs.declared.entries.Closing.{Closing}
use Rattle.log_sending.specs.Closings.{closing_drafts, ended_by, queue_after}
use Rattle.log_sending.specs.Sending.{DraftMessage, unsigned_of}
use Rattle.log_core.specs.State.{CoreState, LogStep}

-- the core behind a step that leaves the log, and the queue, like this
abbrev pub core_after : CoreState → LogState → List Change → CoreState
core_after s after queue = record { log = after; keys = s.keys; queue = queue; signature_len = s.signature_len }

-- a step that sends these drafts, and ends with the closing rule
abbrev pub closing_reply : CoreState → LogState → List DraftMessage → LogState × Closing → LogStep
closing_reply s before drafts closed = record {
  unsigned =
      unsigned_of closed.0.past.signed (drafts ++ closing_drafts closed.1 s.signature_len before closed.0)
      (ended_by closed.1 (epoch_of before) closed.0.newest);
  after = core_after s closed.0 (queue_after closed.1 closed.0 s.queue);
}

-- a step that sends these drafts, and goes on in the epoch
abbrev pub open_reply : CoreState → LogState → List DraftMessage → LogStep
open_reply s after drafts = record { unsigned = unsigned_of after.past.signed drafts None; after = core_after s after s.queue }
