use Rattle.std.proofs.Common.{rules, ◌≡◌, ◌++◌, ◌∷◌, [], true, false}
use Rattle.flow.specs.View.{core_of}
use Rattle.meaning_facts.specs.Sighted.{closed_at}
use Rattle.meaning_round.specs.Made.{candidate_of}
use Rattle.meaning_openings.proofs.LookedAt.{closed_ends, looked_closed, looked_still, open_ends}
use Rattle.meaning_openings.proofs.closing.close_one.Goals as goal

pub returns-then-is_closed-clause-tried : goal.returns-then-is_closed-clause-tried
returns-then-is_closed-clause-tried g c =
    let A = g.row.A.Denot in
    let s = core_of {A = A} c.args.flow.now in
    let a = candidate_of {A = A} c.args.array.now in
    let closed : closed_at c.args.fact_base.now c.args.array.now.place ≡ true = search rules in
    looked_still s a c.args.fact_base.now c.args.closed.now.items (closed_ends s c.args.fact_base.now a closed)

pub returns-then-not-branch-clause-tried : goal.returns-then-not-branch-clause-tried
returns-then-not-branch-clause-tried g c =
    let A = g.row.A.Denot in
    let s = core_of {A = A} c.args.flow.now in
    let a = candidate_of {A = A} c.args.array.now in
    let lacks : c.in_ok-is_closing.field-0 ≡ false = search rules in
    looked_still s a c.args.fact_base.now c.args.closed.now.items (open_ends s c.args.fact_base.now a (c.in_ok-is_closing.ensures.never lacks))

pub returns-clause-tried : goal.returns-clause-tried
returns-clause-tried g c =
    let A = g.row.A.Denot in
    let yes : c.in_ok-is_closing.field-0 ≡ true = search rules in
    let pushed : c.push.new.self.items ≡ c.args.closed.now.items ++ c.args.array.now.place ∷ [] = search rules in
    looked_closed (core_of {A = A} c.args.flow.now) (candidate_of {A = A} c.args.array.now) c.args.fact_base.now c.close.new.fact_base c.args.closed.now.items c.push.new.self.items
    (c.in_ok-is_closing.ensures.so yes) c.close.ensures.facts c.close.ensures.instances c.in_ok-close.ensures.closed pushed
