use Rattle.std.proofs.Common.{arith, ◌≡◌, ◌<◌, ◌+◌, length, get_or, drop, true, false, subst, sym, ◌∙◌}
use Rattle.std.proofs.lemmas.Grind.{common_steps}
use Rattle.flow.specs.declared.name.Name.{Name}
use Rattle.flow.specs.declared.name.NameBinding.TheVariants as Owned
use Rattle.language.specs.declared.tree.Shape.{Shape}
use Rattle.flow.specs.View.{name_view, names_view}
use Rattle.flow.specs.Tests.{are_declared, is_declared}
use Rattle.flow.specs.Viewed.{owners_of}
use Rattle.flow.proofs.Fits.{and_true, and_false, names_step}
use Rattle.flow.proofs.naming.are_names_fit.Goals as goal

-- what is read where there is nothing
abbrev none : Name
none = record { up = 0; what = Owned.Local 0; shape = Shape.Scalar }

pub returns-then-not-is_declared : goal.returns-then-not-is_declared
returns-then-not-is_declared g c =
    let os = owners_of {A = g.row.A.Denot} c.args.scopes.now in
    let i = c.loop-name.name-index in
    let within : c.loop-name.name-index < length c.args.names.now.items = grind (arith, common_steps) in
    let here = subst (λ zs. is_declared os (name_view (get_or zs i none)) ≡ false) c.deref-name-items.ensures.value (sym c.is_declared.ensures ∙ c.if-not-is_declared.true) in
    and_false (are_declared os (names_view (drop (i + 1) c.args.names.now.items))) here
    ∙ sym (c.loop-name.invariant ∙ names_step os c.args.names.now.items i none within)

pub loop-name-preserved : goal.loop-name-preserved
loop-name-preserved g c =
    let os = owners_of {A = g.row.A.Denot} c.args.scopes.now in
    let i = c.loop-name.name-index in
    let within : c.loop-name.name-index < length c.args.names.now.items = grind (arith, common_steps) in
    let here = subst (λ zs. is_declared os (name_view (get_or zs i none)) ≡ true) c.deref-name-items.ensures.value (sym c.is_declared.ensures ∙ c.if-not-is_declared.false) in
    c.loop-name.invariant ∙ names_step os c.args.names.now.items i none within
    ∙ and_true (are_declared os (names_view (drop (i + 1) c.args.names.now.items))) here
