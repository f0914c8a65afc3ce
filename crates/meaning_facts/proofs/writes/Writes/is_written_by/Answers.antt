use Rattle.std.proofs.Common.{rules, ◌≡◌, ◌∙◌, List, None, Some, arith, sym, ap}
use Rattle.values.specs.Keys.{key_seen}
use Rattle.meaning_facts.specs.declared.facts.Write.{Write}
use Rattle.meaning_facts.specs.Indexed.{first_in}
use Rattle.meaning_facts.specs.Store.{is_written_in, same_place}
use Rattle.meaning_facts.proofs.Indexed.{first_is, first_none, none_written, one_written}
use Rattle.meaning_facts.proofs.writes.Writes.is_written_by.Goals as goal

pub index-requires : goal.index-requires
index-requires c =
    let there : first_in c.self.inside.all.items (key_seen c.args.key) ≡ Some c.in-Some.first = sym (c.self.invariant.firsts (key_seen c.args.key)) ∙ sym c.get.ensures ∙ c.in-Some.is in
    let within = (first_is c.self.inside.all.items (key_seen c.args.key) c.in-Some.first there).within in
    omega (arith, within, c.self.inside.all.ok.0)

pub returns-in-None : goal.returns-in-None
returns-in-None c =
    let absent : first_in c.self.inside.all.items (key_seen c.args.key) ≡ None = sym (c.self.invariant.firsts (key_seen c.args.key)) ∙ sym c.get.ensures ∙ c.in-None.is in
    rw (← c.self.view_is) (sym (none_written c.self.inside.all.items (key_seen c.args.key) c.args.writer (first_none c.self.inside.all.items (key_seen c.args.key) absent)))

pub returns-in-Some : goal.returns-in-Some
returns-in-Some c =
    let list : c.as_slice.result.now ≡ c.self.inside.all.items = search rules in
    rw (← c.self.view_is) (c.has_writer.ensures ∙ ap (λ (z : List Write). is_written_in z (key_seen c.args.key) c.args.writer) list)

pub returns-in-Some-2 : goal.returns-in-Some-2
returns-in-Some-2 c =
    let there : first_in c.self.inside.all.items (key_seen c.args.key) ≡ Some c.in-Some.first = sym (c.self.invariant.firsts (key_seen c.args.key)) ∙ sym c.get.ensures ∙ c.in-Some.is in
    rw (← c.self.view_is) (c.is_same.ensures ∙ ap (λ (z : Write). same_place z.writer c.args.writer) c.index.ensures
    ∙ sym (one_written c.self.inside.all.items (key_seen c.args.key) c.in-Some.first c.index.result.now c.args.writer there c.if-first.false))
