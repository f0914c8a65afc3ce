use Rattle.std.proofs.Common.{◌≡◌, ◌∙◌, ◌∷◌, [], None, Some, arith, sym, ap}
use Rattle.values.specs.Keys.{key_seen}
use Rattle.meaning_facts.specs.declared.facts.Write.{Write}
use Rattle.meaning_facts.specs.Indexed.{first_in}
use Rattle.meaning_facts.proofs.Indexed.{first_is, first_none, none_under, one_under, two_under}
use Rattle.meaning_facts.proofs.writes.Writes.written.Goals as goal

pub index-requires : goal.index-requires
index-requires c =
    let there : first_in c.self.inside.all.items (key_seen c.args.key) ≡ Some c.in-Some.first = sym (c.self.invariant.firsts (key_seen c.args.key)) ∙ sym c.get.ensures ∙ c.in-Some.is in
    let within = (first_is c.self.inside.all.items (key_seen c.args.key) c.in-Some.first there).within in
    omega (arith, within, c.self.inside.all.ok.0)

pub returns-in-None : goal.returns-in-None
returns-in-None c =
    let absent : first_in c.self.inside.all.items (key_seen c.args.key) ≡ None = sym (c.self.invariant.firsts (key_seen c.args.key)) ∙ sym c.get.ensures ∙ c.in-None.is in
    rw (← c.self.view_is) (none_under c.self.inside.all.items (key_seen c.args.key) (first_none c.self.inside.all.items (key_seen c.args.key) absent))

pub returns-in-Some : goal.returns-in-Some
returns-in-Some c =
    let there : first_in c.self.inside.all.items (key_seen c.args.key) ≡ Some c.in-Some.first = sym (c.self.invariant.firsts (key_seen c.args.key)) ∙ sym c.get.ensures ∙ c.in-Some.is in
    rw (← c.self.view_is) (two_under c.self.inside.all.items (key_seen c.args.key) c.in-Some.first there c.if-first.true)

pub returns-in-Some-2 : goal.returns-in-Some-2
returns-in-Some-2 c =
    let there : first_in c.self.inside.all.items (key_seen c.args.key) ≡ Some c.in-Some.first = sym (c.self.invariant.firsts (key_seen c.args.key)) ∙ sym c.get.ensures ∙ c.in-Some.is in
    rw (← c.self.view_is) (one_under c.self.inside.all.items (key_seen c.args.key) c.in-Some.first c.index.result.now there c.if-first.false ∙ ap (λ (z : Write). z.value ∷ []) (sym c.index.ensures))
