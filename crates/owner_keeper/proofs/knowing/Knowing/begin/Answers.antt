use Rattle.std.proofs.Common.{rules, ◌≡◌, ◌<◌, ◌≤◌, ◌++◌, ◌∷◌, List, [], length, Ok, ap, refl, inl, inr, ◌∙◌}
use Rattle.owner_core.specs.Rows.{begin_row}
use Rattle.owner_core.specs.State.{Owner}
use Rattle.ar_cert.specs.Certificate.{Certificate}
use Rattle.owner_keeper.specs.Keeping.{standing_with}
use Rattle.owner_keeper.specs.declared.refusal.OwnerOrderRefusal.TheVariants as refusals
use Rattle.owner_keeper.proofs.Acting.{begin_wants, begun, too_many}
use Rattle.owner_keeper.proofs.knowing.Knowing.begin.Goals as goal

pub returns-then-asks-gt-MOST_ASKS : goal.returns-then-asks-gt-MOST_ASKS
returns-then-asks-gt-MOST_ASKS c =
    let many : 255 < length c.args.asks.now = search rules in
    (refl, inr (too_many c.args.self.now c.args.cert.now c.args.asks.now many))

pub returns-in-Ok : goal.returns-in-Ok
returns-in-Ok c =
    let few : length c.args.asks.now ≤ 255 = search rules in
    let row : begin_row c.self.inside.owner c.args.cert.now c.args.asks.now ≡ Ok (c.in-Ok.sent, c.begin.new.self) = search rules in
    let items : c.push_reserved.new.self.items ≡ c.self.inside.certs.items ++ c.args.cert.now ∷ [] = search rules in
    begun c.args.self.now c.self.inside.owner c.begin.new.self c.self.inside.certs.items c.push_reserved.new.self.items c.self.inside.stapler c.args.cert.now c.args.asks.now c.in-Ok.sent c.self.view_is few row items

pub returns-in-Err : goal.returns-in-Err
returns-in-Err c =
    let w = begin_wants c.self.inside.owner c.begin.new.self c.args.cert.now c.args.asks.now c.in-Err.refusal (search rules) in
    let items : c.reserve.new.self.items ≡ c.self.inside.certs.items = search rules in (
      ap (λ (me : Owner). standing_with me c.reserve.new.self.items c.self.inside.stapler) w.0 ∙ ap (λ (cs : List Certificate). standing_with c.self.inside.owner cs c.self.inside.stapler) items ∙ c.self.view_is,
      inl (ap refusals.Owner w.1),
    )
