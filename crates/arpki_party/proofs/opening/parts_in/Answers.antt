use Rattle.std.proofs.Common.{rules, ◌≡◌, ◌∙◌, ap, subst, true, ◌∷◌, []}
use Rattle.ar_base.specs.Prefixes.{BeginsWith}
use Rattle.ar_statement.specs.Claims.{party}
use Rattle.ar_statement.specs.Ranges.{is_witness}
use Rattle.lms_tree.specs.Key.{public_of}
use Rattle.party_keys.specs.Directory.{keys_of}
use Rattle.arpki_party.proofs.FirstOwn.{first_alone}
use Rattle.arpki_party.proofs.opening.parts_in.Goals as goal

pub returns-clause-own : goal.returns-clause-own
returns-clause-own c witness =
    let keys = c.in_ok-keys.keys in
    let its : c.party-party.result ≡ party c.args.role c.args.number = search rules in
    let public : c.public-public.result ≡ public_of c.in_ok-key.key = search rules in
    let may : c.may_have.result ≡ true = search rules in
    let begins = c.may_have.ensures.own may (ap (λ p. is_witness p.role) its ∙ witness) in
    first_alone c.args.role c.args.number c.args.directory.now keys (public_of c.in_ok-key.key) c.in_ok-keys.ensures
    (subst (λ k. BeginsWith (keys_of keys (party c.args.role c.args.number)) (k ∷ [])) public
    (subst (λ p. BeginsWith (keys_of keys p) (c.public-public.result ∷ [])) its begins))
