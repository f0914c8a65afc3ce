-- The outline that a value of the program represents.
use Rattle.std.specs.Prelude.{List, map}
use Rattle.types.specs.Typed.{owned_name}
use Rattle.assign_check.specs.declared.outlining.outline.UseKind.{UseKind}
use Rattle.assign_check.specs.declared.outlining.outline.UseKind.TheVariants.{Named, Written, Read}
use Rattle.assign_check.specs.declared.outlining.outline.DeclRole.{DeclRole}
use Rattle.assign_check.specs.declared.outlining.outline.DeclRole.TheVariants.{Own, Output, Given}
use Rattle.assign_check.specs.declared.outlining.outline.UseSite.{UseSite}
use Rattle.assign_check.specs.declared.outlining.outline.Declaration.{Declaration}
use Rattle.assign_check.specs.declared.outlining.outline.OutlineStep.{OutlineStep, OutlineStep-F, fold-OutlineStep}
use Rattle.assign_check.specs.declared.outlining.outline.OutlineStep.TheOpen as Act
use Rattle.assign_check.specs.Outline as O
use Rattle.assign_check.specs.Outline.{named, written, read, own, result, given, declares, uses, splits, repeats, encloses, Outline, outlined}

abbrev pub kind_of : UseKind → O.Kind
kind_of Named = named
kind_of Written = written
kind_of Read = read

abbrev pub role_of : DeclRole → O.Role
role_of Own = own
role_of Output = result
role_of Given = given

abbrev pub use_view : UseSite → O.Use
use_view u = record { kind = kind_of u.kind; of = owned_name u.of; span = u.span }

abbrev pub declared_view : Declaration → O.Declared
declared_view d = record { what = owned_name d.what; shape = d.shape; role = role_of d.role; span = d.span }

-- a step, with its blocks already converted
abbrev pub step_step : OutlineStep-F O.Step → O.Step
step_step (Act.Declares d) = declares (declared_view d)
step_step (Act.Uses u) = uses (use_view u)
step_step (Act.Splits n at first other) = splits n at (outlined first.items) (outlined other.items)
step_step (Act.Repeats n b) = repeats n (outlined b.items)
step_step (Act.Encloses b) = encloses (outlined b.items)

abbrev pub step_view : OutlineStep → O.Step
step_view = fold-OutlineStep O.Step step_step

-- steps in their order
abbrev pub steps_view : List OutlineStep → List O.Step
steps_view ss = map step_view ss

-- a block with these steps
abbrev pub outline_view : List OutlineStep → Outline
outline_view ss = outlined (steps_view ss)
