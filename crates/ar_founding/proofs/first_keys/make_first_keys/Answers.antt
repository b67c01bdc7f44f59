use Rattle.std.proofs.Common.{◌≡◌, ◌∙◌, ap}
use Rattle.ar_statement.specs.Claims.{party}
use Rattle.ar_statement.specs.declared.party.Party.{Party}
use Rattle.lms_tree.specs.PublicKey.{key_text}
use Rattle.lms_tree.specs.declared.public_key.LmsPublic.{LmsPublic}
use Rattle.report_text.specs.declared.happening.Happening.TheVariants.{Made}
use Rattle.sha2.specs.Sha256.{sha256}
use Rattle.ar_founding.specs.FirstKeys.{key_for, key_made}
use Rattle.ar_founding.proofs.FirstParties.{first-grown, grown}
use Rattle.ar_founding.proofs.first_keys.make_first_keys.Goals as goal

pub loop-number-preserved : goal.loop-number-preserved
loop-number-preserved c =
    let told : c.key_made.result ≡ key_made (party c.args.role c.loop-number.number) (key_for c.args.setup.now c.args.role c.loop-number.number) =
    c.key_made.ensures ∙ ap (λ (public : LmsPublic). Made c.party.result (sha256 (key_text public))) c.public.ensures
    ∙ ap (λ (who : Party). key_made who c.in_ok-key.key) c.party.ensures ∙ ap (key_made (party c.args.role c.loop-number.number)) c.in_ok-key.ensures in
    record {
      keys = first-grown c.args.setup.now c.args.role c.loop-number.number c.loop-number.keys c.add.new.self c.in_ok-key.key c.loop-number.invariant.keys c.in_ok-key.ensures c.in_ok-add.ensures;
      said = grown _ c.loop-number.number c.loop-number.said.items c.push.new.self.items c.key_made.result c.loop-number.invariant.said told c.in_ok-push.ensures.items;
    }
