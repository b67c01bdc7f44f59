use Rattle.std.proofs.Common.{◌≡◌, ap, get_or, sym, ◌∙◌}
use Rattle.ar_cert.specs.Changes.{Change}
use Rattle.owner_core.specs.Drafts.{endorsed}
use Rattle.owner_core.proofs.Spots.{stepped_there}
use Rattle.owner_core.proofs.drafts.endorse.Goals as goal

pub returns : goal.returns
returns c =
    let there : Change = get_or c.args.drafts.now c.in-Some.place c.index-drafts-place.result in
    let is : get_or c.args.drafts.now c.in-Some.place there ≡ there = ap (λ (x : Change). get_or c.args.drafts.now c.in-Some.place x) (sym c.index-drafts-place.is) in
    stepped_there c.args.drafts.now c.args.digest.now (endorsed c.args.endorsement) c.in-Some.place there c.endorse.new.self c.endorse.result
    (sym c.place_of.ensures ∙ c.in-Some.is) is c.endorse.ensures
