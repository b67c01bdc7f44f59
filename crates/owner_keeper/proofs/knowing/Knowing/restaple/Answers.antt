use Rattle.std.proofs.Common.{rules, ◌≡◌, Some, Ok}
use Rattle.ar_base.specs.Chaining.{need}
use Rattle.lms_tree.specs.Key.{public_of}
use Rattle.party_keys.specs.Learning.{is_key}
use Rattle.owner_keeper.specs.Keeping.{draft_in}
use Rattle.owner_keeper.specs.Stapling.{may_staple}
use Rattle.owner_keeper.specs.declared.refusal.OwnerOrderRefusal.TheVariants as refusals
use Rattle.owner_keeper.proofs.Stapled.{restapled}
use Rattle.owner_keeper.proofs.knowing.Knowing.restaple.Goals as goal

pub returns : goal.returns
returns c =
    let found : Some c.in-Some.cert.now ≡ draft_in c.self.inside.certs.items c.args.staple.now.draft = search rules in
    let own : need (is_key c.in-Some.cert.now.subject (public_of c.self.inside.owner.key)) refusals.Foreign ≡ Ok tt = search rules in
    let may : may_staple c.self.inside.stapler c.self.inside.owner.book c.args.staple.now ≡ Ok tt = search rules in
    restapled c.args.self.now c.self.inside.owner c.sign-signature.new.owner c.self.inside.certs.items c.self.inside.stapler c.sign-signature.new.self c.args.staple.now c.in-Some.cert.now c.sign-signature.result c.stapled_reply.result
    c.self.view_is found own may c.sign-signature.ensures.answer c.sign-signature.ensures.ok c.sign-signature.ensures.err c.stapled_reply.ensures
