use Rattle.std.proofs.Common.{rules, ◌≡◌, ◌<◌, ◌≤◌, ℕ, List, length, Some, Ok, Err, refl, subst, inr}
use Rattle.std.specs.Option.{option_map}
use Rattle.std.specs.Prelude.{IfErr, IfOk}
use Rattle.ar_cert.specs.Certificate.{digest_of}
use Rattle.owner_core.specs.Rows.{attach_row}
use Rattle.owner_keeper.specs.Keeping.{draft_in}
use Rattle.owner_keeper.proofs.Acting.{attached_or, too_long}
use Rattle.owner_keeper.proofs.knowing.Knowing.attach.Goals as goal

pub returns-then-handover-gt-MOST_HANDOVER : goal.returns-then-handover-gt-MOST_HANDOVER
returns-then-handover-gt-MOST_HANDOVER c =
    let many : 65535 < length c.args.handover.now = search rules in
    (refl, inr (too_long c.args.self.now c.args.draft c.args.handover.now many))

pub returns : goal.returns
returns c =
    let found : Some c.in-Some.digest ≡ option_map digest_of (draft_in c.self.inside.certs.items c.args.draft) = search rules in
    let few : length c.args.handover.now ≤ 65535 = search rules in
    let items : c.in_ok-copied.copied.items ≡ c.args.handover.now = search rules in
    let ok = subst (λ (h : List ℕ). IfOk c.attach.result (λ u. attach_row c.self.inside.owner c.in-Some.digest h ≡ Ok (tt, c.attach.new.self))) items c.attach.ensures.ok in
    let err = subst (λ (h : List ℕ). IfErr c.attach.result (λ e. (c.attach.new.self ≡ c.self.inside.owner) × (attach_row c.self.inside.owner c.in-Some.digest h ≡ Err e))) items c.attach.ensures.err in
    attached_or c.args.self.now c.self.inside.owner c.attach.new.self c.self.inside.certs.items c.self.inside.stapler c.args.draft c.in-Some.digest c.args.handover.now c.attach.result c.silent_reply.result c.self.view_is found
    few ok err c.silent_reply.ensures
