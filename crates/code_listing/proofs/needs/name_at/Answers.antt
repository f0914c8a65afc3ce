use Rattle.std.proofs.Common.{sym, ◌∙◌, []}
use Rattle.flow.specs.declared.statement.Variable.{Variable}
use Rattle.code_listing.proofs.Adding.{nth_at, nth_beyond}
use Rattle.code_listing.proofs.needs.name_at.Goals as goal

pub returns-in-None : goal.returns-in-None
returns-in-None g c = sym (nth_beyond (λ (v : Variable g.row.A.Denot). v.name.items) [] c.args.variables.now c.args.place c.in-None.ensures.lookup.3)

pub returns-in-Some : goal.returns-in-Some
returns-in-Some g c = c.as_slice.ensures.value ∙ sym (nth_at (λ (v : Variable g.row.A.Denot). v.name.items) [] c.args.variables.now c.args.place c.in-Some.variable.now c.in-Some.ensures.lookup.3.0 c.in-Some.ensures.lookup.1)
