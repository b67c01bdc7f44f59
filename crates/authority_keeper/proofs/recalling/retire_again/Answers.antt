use Rattle.std.proofs.Common.{rules, ◌≡◌, ap, refl, false, is_none, None}
use Rattle.authority_keeper.specs.Checks.{book_of}
use Rattle.authority_keeper.specs.Keeping.{standing_of}
use Rattle.authority_keeper.proofs.Lessons.{retired_so, same_standing, standing}
use Rattle.authority_keeper.proofs.recalling.retire_again.Goals as goal

pub returns-clause-taken : goal.returns-clause-taken
returns-clause-taken c =
    let state : c.retire.new.self.state ≡ c.args.authority.now.core.state = search rules in
    let keys : c.authority.inside.ring.keys ≡ c.args.authority.now.ring.keys = search rules in
    let there : is_none c.args.authority.now.core.check ≡ false = search rules in
    retired_so c.args.authority.now.core.check (standing_of c.args.authority.now) (standing c.retire.new.self.state c.authority.inside.ring.keys (book_of c.retire.new.self.check))
    c.nothing.result there refl
    (same_standing c.args.authority.now.core.state c.retire.new.self.state c.args.authority.now.ring.keys c.authority.inside.ring.keys None (book_of c.retire.new.self.check) state keys
    (ap book_of c.retire.ensures.check)) c.nothing.ensures
