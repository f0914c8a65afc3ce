use Rattle.std.proofs.Common.{◌∙◌, ap, subst, ◌≤◌, length}
use Rattle.ref_counting.specs.Rows.{row}
use Rattle.ref_counting.proofs.Filling.{row_past, row_there, rows_of}
use Rattle.ref_counting.proofs.numbered_lists.NumberedLists.at.Goals as goal

pub returns-in-None : goal.returns-in-None
returns-in-None g c = row_past c.self.inside.rows.items c.args.number (subst (λ xs. length xs ≤ c.args.number) c.deref.ensures.value c.in-None.ensures.lookup.3) ∙ ap (λ rs. row rs c.args.number) c.self.view_is

pub returns-in-Some : goal.returns-in-Some
returns-in-Some g c =
    c.as_slice.ensures.value
    ∙ ap (λ v. v.items) c.in-Some.ensures.lookup.1
    ∙ row_there c.deref.result.now c.args.number c.in-Some.found.now c.in-Some.ensures.lookup.3.0
    ∙ ap (λ vs. row (rows_of vs) c.args.number) c.deref.ensures.value
    ∙ ap (λ rs. row rs c.args.number) c.self.view_is
