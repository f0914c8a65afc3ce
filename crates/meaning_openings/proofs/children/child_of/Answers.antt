use Rattle.std.proofs.Common.{rules, ◌≡◌, ℕ, Some, None, sym, subst}
use Rattle.meaning_facts.specs.Paths.{child_at}
use Rattle.meaning_invariants.specs.Held.{with_instances}
use Rattle.meaning_invariants.specs.Opened.{IsChildOf, was_there, is_new}
use Rattle.meaning_openings.proofs.children.child_of.Goals as goal

pub returns-in-Some-clause-found : goal.returns-in-Some-clause-found
returns-in-Some-clause-found c =
    let there : child_at c.args.fact_base.now.instances c.args.parent c.args.step.offset c.args.step.key ≡ Some c.in-Some.child = search rules in
    was_there there

pub returns-in_ok-child-in-None-clause-found : goal.returns-in_ok-child-in-None-clause-found
returns-in_ok-child-in-None-clause-found c =
    let lacks : child_at c.args.fact_base.now.instances c.args.parent c.args.step.offset c.args.step.key ≡ None = search rules in
    subst (λ (k : ℕ). IsChildOf c.args.fact_base.now c.args.parent c.args.step c.args.given (with_instances c.args.fact_base.now c.open.new.self) k) (sym c.in_ok-child-in-None.ensures.number)
    (is_new lacks c.in_ok-child-in-None.ensures.opened)
