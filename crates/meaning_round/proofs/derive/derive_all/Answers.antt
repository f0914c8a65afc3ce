use Rattle.std.proofs.Common.{rules, ◌≡◌, ℕ, List, length, map, sym, ap, ◌∙◌, subst}
use Rattle.std.proofs.lemmas.List.{length-map}
use Rattle.std.proofs.lemmas.Result.{on_ok_weaker}
use Rattle.std.specs.Prelude.{IfOk}
use Rattle.meaning_invariants.specs.Held.{AreInside}
use Rattle.meaning_round.specs.Hearing.{numbers_of}
use Rattle.meaning_round.specs.Made.{picks}
use Rattle.meaning_round.specs.Standing.{active_of, HavePlaces}
use Rattle.meaning_round.proofs.Heard.{heard_taken}
use Rattle.meaning_round.proofs.derive.derive_all.Goals as goal

pub returns-clause-inside : goal.returns-clause-inside
returns-clause-inside g c =
    let A = g.row.A.Denot in
    let ls = map (active_of {A = A}) c.args.tasks.now in
    let ns = c.args.fact_base.now.instances.all.items in
    let numbers : c.in_ok-numbers.numbers.items ≡ numbers_of c.args.worklist.now (length c.args.tasks.now) = search rules in
    let same = numbers ∙ ap (numbers_of c.args.worklist.now) (sym (length-map c.args.tasks.now (active_of {A = A}))) in
    subst (λ (z : List ℕ). IfOk c.derive_each.result (λ news. HavePlaces ns (picks ls z) → AreInside ns news.items)) same c.derive_each.ensures.inside

pub returns-clause-heard : goal.returns-clause-heard
returns-clause-heard g c =
    let A = g.row.A.Denot in
    let l = c.args.fact_base.now in
    let ls = map (active_of {A = A}) c.args.tasks.now in
    let numbers : c.in_ok-numbers.numbers.items ≡ numbers_of c.args.worklist.now (length c.args.tasks.now) = search rules in
    let fresh : c.drain_ready.new.self.fresh ≡ length c.args.tasks.now = search rules in
    let counts = sym (length-map c.args.tasks.now (active_of {A = A})) in
    on_ok_weaker c.derive_each.result
    (λ f. λ places h. f places
    (heard_taken l ls c.args.worklist.now c.drain_ready.new.self c.in_ok-numbers.numbers.items (numbers ∙ ap (numbers_of c.args.worklist.now) counts) (fresh ∙ counts)
    c.drain_ready.ensures.asleep c.drain_ready.ensures.called h))
    c.derive_each.ensures.heard
