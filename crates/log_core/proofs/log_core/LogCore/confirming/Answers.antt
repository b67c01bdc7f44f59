use Rattle.std.proofs.Common.{◌≡◌, ◌∙◌, ap}
use Rattle.ar_message.specs.Filling.{zeros}
use Rattle.domain_table.specs.Tables.{Table}
use Rattle.epoch_log.specs.State.{table_of}
use Rattle.log_core.specs.Confirming.{ConfirmQuestion, confirming_of}
use Rattle.log_core.specs.State.{CoreState}
use Rattle.log_sending.specs.Sending.{sent_votes}
use Rattle.log_sending.specs.Showing.{body_in}
use Rattle.log_core.proofs.log_core.LogCore.confirming.Goals as goal

pub returns : goal.returns
returns c =
    let was : CoreState = record { log = c.self.inside.log.state; keys = c.self.inside.log.keys; queue = c.self.inside.queue.items; signature_len = c.self.inside.signature_len } in
    let asked : ConfirmQuestion = record { client = c.asked.inside.client; name = c.asked.inside.name.now; first = c.asked.inside.first; second = c.asked.inside.second } in
    let name : c.in_ok-name.name ≡ asked.name = c.in_ok-name.ensures ∙ c.view.ensures in
    let body : c.in_ok-body.body ≡ body_in (table_of was.log) asked.name = c.in_ok-body.ensures ∙ ap (λ (t : Table). body_in t asked.name) c.table.ensures in
    let votes : c.in_ok-votes.votes ≡ sent_votes was.signature_len c.args.newest.now.votes = c.in_ok-votes.ensures ∙ ap (sent_votes was.signature_len) c.as_slice.ensures in
    let log : c.number.result ≡ was.log.me = c.number.ensures in
    let signature : c.in_ok-signature.signature ≡ zeros was.signature_len = c.in_ok-signature.ensures in
    (λ i. record {
      client = asked.client;
      epoch = c.args.newest.now.epoch;
      name = name i;
      root = c.args.newest.now.root;
      base = c.args.newest.now.base;
      body = body i;
      votes = votes i;
      log = log i;
      signature = signature i;
      first = asked.first;
      second = asked.second;
    }) ∙ (λ i. confirming_of (c.self.view_is i) c.args.newest.now (c.asked.view_is i))
