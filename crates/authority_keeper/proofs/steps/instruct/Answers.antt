use Rattle.std.proofs.Common.{rules, ◌≡◌, is_none, subst, Option}
use Rattle.std.specs.Prelude.{OnOk}
use Rattle.std.specs.Option.{option_map}
use Rattle.authority_core.specs.Checked.{TellsBy}
use Rattle.owner_check.specs.Answers.{Booked, forgotten, learnt}
use Rattle.authority_keeper.specs.declared.text.Lesson.TheVariants as lessons
use Rattle.authority_keeper.proofs.Answered.{told_of}
use Rattle.authority_keeper.proofs.Lessons.{taught_on_ok, taught_standing}
use Rattle.authority_keeper.proofs.steps.instruct.Goals as goal

pub returns-in-Learn-clause-ok : goal.returns-in-Learn-clause-ok
returns-in-Learn-clause-ok c =
    let state : c.teach.new.self.state ≡ c.args.authority.now.core.state = search rules in
    let keys : c.authority.inside.ring.keys ≡ c.args.authority.now.ring.keys = search rules in
    let check : c.authority.inside.core.check ≡ c.args.authority.now.core.check = search rules in
    let there : is_none c.teach.new.self.check ≡ is_none c.args.authority.now.core.check = search rules in
    taught_on_ok c.teach.result c.args.lesson lessons.Learn c.args.name.now c.args.key.now c.args.authority.now.core.state c.teach.new.self.state c.args.authority.now.ring.keys
    c.authority.inside.ring.keys c.args.authority.now.core.check c.teach.new.self.check c.in-Learn.is state keys c.requires there
    (subst (λ (k : Option Booked). OnOk c.teach.result (TellsBy (option_map (learnt c.args.name.now c.args.key.now)) told_of k c.teach.new.self.check)) check c.teach.ensures.ok)

pub returns-in-Forget-clause-ok : goal.returns-in-Forget-clause-ok
returns-in-Forget-clause-ok c =
    let state : c.forget.new.self.state ≡ c.args.authority.now.core.state = search rules in
    let keys : c.authority.inside.ring.keys ≡ c.args.authority.now.ring.keys = search rules in
    let check : c.authority.inside.core.check ≡ c.args.authority.now.core.check = search rules in
    let there : is_none c.forget.new.self.check ≡ is_none c.args.authority.now.core.check = search rules in
    taught_standing c.args.lesson lessons.Forget c.args.name.now c.args.key.now c.args.authority.now.core.state c.forget.new.self.state c.args.authority.now.ring.keys
    c.authority.inside.ring.keys c.args.authority.now.core.check c.forget.new.self.check c.in-Forget.is state keys c.requires there
    (subst (λ (k : Option Booked). TellsBy (option_map (forgotten c.args.name.now c.args.key.now)) told_of k c.forget.new.self.check) check c.forget.ensures.told)
