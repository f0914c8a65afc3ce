-- The code within the script: both meanings of what is closed agree, so all that the code ever has is what the script's answers yield.
use Rattle.dataflow.specs.System.{Effect}
use Rattle.dataflow.specs.Facts.{Ever, Clean}
use Rattle.values.specs.declared.key.Key.{Key}
use Rattle.values.specs.declared.value.Scalar.{Scalar}
use Rattle.language.specs.Core.{Core}
use Rattle.language.specs.Facts.{Knowledge}
use Rattle.language.specs.Single.{SinglyAssigned}
use Rattle.language.specs.WellFormed.{WellFormed}
use Rattle.language_laws.specs.Scoped.{Scoped}
use Rattle.language_laws.specs.TypedValues.{TypedValues}
use Rattle.task_code.specs.Code.{Code}
use Rattle.task_code.specs.Effects.{Task}
use Rattle.task_code.specs.Exact.{IsExact}
use Rattle.task_code.specs.Places.{Place}
use Rattle.task_code.specs.System.{code_system}
use Rattle.task_code.specs.Whole.{IsCode}
use Rattle.code_rules.specs.IsCodeOf.{IsCodeOf}
use Rattle.code_rules.specs.NodesOnce.{NodesOnce}
use Rattle.headline.specs.Answered.{IsRight}
use Rattle.headline.specs.Chains.{Answers}
use Rattle.headline.specs.Inclusions.{Facts, ClosedFrom}
use Rattle.headline.specs.Knows.{Knows}
use Rattle.headline.proofs.Assembled as As
use Rattle.headline.proofs.ClosedFrom.{closed_from}
use Rattle.headline.proofs.ClosingTo.{closed_to}
use Rattle.headline.proofs.ElementsFrom.{written_from}
use Rattle.headline.proofs.Inputs.{inputs_fit}
use Rattle.headline.proofs.WholeTo.{written_to, arrays_once}

module _ (s : Core) (C : Code) (w : IsCodeOf s C) (K : Knowledge) (wf : WellFormed s) (kn : Knows s K) (I : IsCode C) (sc : Scoped s) (ty : TypedValues s K) (nodes : NodesOnce C) (ex : IsExact C) (single : SinglyAssigned s) where
  pub script_closed : ClosedFrom s C K
  script_closed = closed_from s C w K wf kn I sc ty ex single (arrays_once s C w K wf kn I sc ty nodes)

  pub script_right : IsRight (code_system C) (Answers s K)
  script_right = As.right s C I K kn (written_to s C w K wf kn I sc ty) (written_from s C w K wf kn I sc ty) (closed_to s C w K wf kn I sc ty) script_closed (inputs_fit s C w K wf kn I sc ty) (arrays_once s C w K wf kn I sc ty nodes)

  pub ever_in : (t : Task) (e : Effect Task Place Key Scalar) → Ever (code_system C) t e → Facts s C K t e
  ever_in t e h = As.code_within_script s C I K kn (written_to s C w K wf kn I sc ty) (written_from s C w K wf kn I sc ty) (closed_to s C w K wf kn I sc ty) script_closed (inputs_fit s C w K wf kn I sc ty) (arrays_once s C w K wf kn I sc ty nodes) t e h

  pub clean_code : Clean (code_system C)
  clean_code = As.code_clean s C I K kn (written_to s C w K wf kn I sc ty) (written_from s C w K wf kn I sc ty) (closed_to s C w K wf kn I sc ty) script_closed (inputs_fit s C w K wf kn I sc ty) (arrays_once s C w K wf kn I sc ty nodes)
