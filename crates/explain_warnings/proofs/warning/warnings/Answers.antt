use Rattle.std.proofs.Common.{ap, ◌∙◌, ◌++◌}
use Rattle.std.proofs.lemmas.Result.{IfOk-weaker}
use Rattle.syntax_trees.specs.View.{tree_of}
use Rattle.types.specs.Typed.{table_of}
use Rattle.explain_warnings.specs.declared.name_use.NameUseKind.TheVariants as Is
use Rattle.explain_warnings.specs.Marks.{is_marked, uses_local}
use Rattle.explain_warnings.specs.Warnings.{parts_warnings, warnings_at}
use Rattle.explain_warnings.proofs.Marking.{uses_by, warned_by}
use Rattle.explain_warnings.proofs.warning.warnings.Goals as goal

pub returns : goal.returns
returns g c =
    IfOk-weaker c.parts.result _ _
    (λ found said. said ∙ ap (λ ms. warnings_at (uses_by (is_marked c.as_slice-4.result.now) (is_marked c.as_slice-5.result.now) (is_marked c.as_slice-6.result.now) (is_marked c.as_slice-7.result.now)) ms
    ++ parts_warnings (table_of c.args.typed.now) (uses_by (is_marked c.as_slice-4.result.now) (is_marked c.as_slice-5.result.now) (is_marked c.as_slice-6.result.now) (is_marked c.as_slice-7.result.now)) 0
    (tree_of {A = g.row.A.Denot} c.args.script.now)) (c.as_slice-8.ensures.value ∙ c.in_ok-first.ensures)
    ∙ warned_by (table_of c.args.typed.now) (tree_of {A = g.row.A.Denot} c.args.script.now)
    (is_marked c.as_slice-4.result.now) (is_marked c.as_slice-5.result.now) (is_marked c.as_slice-6.result.now) (is_marked c.as_slice-7.result.now)
    (λ k. ap (λ marks. is_marked marks k) c.as_slice-4.ensures.value ∙ c.in_ok-read.ensures k
    ∙ ap (λ ms. uses_local (table_of c.args.typed.now) Is.Read ms k) (c.as_slice.ensures.value ∙ c.in_ok-name_uses.ensures))
    (λ k. ap (λ marks. is_marked marks k) c.as_slice-5.ensures.value ∙ c.in_ok-written.ensures k
    ∙ ap (λ ms. uses_local (table_of c.args.typed.now) Is.Written ms k) (c.as_slice-2.ensures.value ∙ c.in_ok-name_uses.ensures))
    (λ k. ap (λ marks. is_marked marks k) c.as_slice-6.ensures.value ∙ c.in_ok-element_read.ensures k
    ∙ ap (λ ms. uses_local (table_of c.args.typed.now) Is.ReadElement ms k) (c.as_slice-3.ensures.value ∙ c.in_ok-name_uses.ensures))
    (λ k. ap (λ marks. is_marked marks k) c.as_slice-7.ensures.value ∙ c.in_ok-called.ensures k))
    c.parts.ensures
