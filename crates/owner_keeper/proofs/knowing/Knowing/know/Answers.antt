use Rattle.std.proofs.Common.{rules, ◌≡◌, ◌++◌, ◌∷◌, []}
use Rattle.owner_keeper.proofs.Acting.{knew}
use Rattle.owner_keeper.proofs.knowing.Knowing.know.Goals as goal

pub returns : goal.returns
returns c =
    let items : c.push.new.self.items ≡ c.self.inside.certs.items ++ c.args.cert.now ∷ [] = search rules in
    knew c.args.self.now c.self.inside.owner c.self.inside.certs.items c.push.new.self.items c.self.inside.stapler c.args.cert.now c.silence.result c.self.view_is items c.silence.ensures
