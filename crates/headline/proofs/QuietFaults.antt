-- The script of a state that is quiet without fault has no fault.
use Rattle.dataflow.specs.Facts.{Comes, Ever}
use Rattle.dataflow.specs.Promises.{Complete}
use Rattle.dataflow.specs.System.{Outcome, Bad}
use Rattle.dataflow.proofs.Ever.{ever_settled, comes_round}
use Rattle.dataflow.proofs.Settled.{settled_comes}
use Rattle.std.specs.Prelude.{◌≡◌, ℕ, List}
use Rattle.values.specs.declared.key.Key.{Key}
use Rattle.values.specs.declared.value.Scalar.{Scalar}
use Rattle.language.specs.Core.{Core}
use Rattle.language.specs.Facts.{Fault}
use Rattle.language.specs.Meaning.{Meaning}
use Rattle.language.specs.Outcomes.{Faults}
use Rattle.language.specs.Places.{Path}
use Rattle.language.specs.Single.{SinglyAssigned}
use Rattle.language.specs.WellFormed.{WellFormed}
use Rattle.language_laws.specs.Scoped.{Scoped}
use Rattle.language_laws.specs.TypedValues.{TypedValues}
use Rattle.task_code.specs.Code.{Code}
use Rattle.task_code.specs.Compute.{EntryFault}
use Rattle.task_code.specs.Effects.{Task}
use Rattle.task_code.specs.Exact.{IsExact}
use Rattle.task_code.specs.Machine.{CodeState}
use Rattle.task_code.specs.Places as CodePlaces
use Rattle.task_code.specs.System.{code_system}
use Rattle.task_code.specs.Whole.{IsCode}
use Rattle.task_code.proofs.Kept.{code_laws}
use Rattle.code_rules.specs.IsCodeOf.{IsCodeOf}
use Rattle.code_rules.specs.NodesOnce.{NodesOnce}
use Rattle.headline.specs.Answered.{ReadAll, Shown}
use Rattle.headline.specs.Chains.{Answers}
use Rattle.headline.specs.Inclusions.{Facts}
use Rattle.headline.specs.Knows.{Knows}
use Rattle.headline.proofs.Backing.{backs}
use Rattle.headline.proofs.Evaluate.{Got}
use Rattle.headline.proofs.FaultsFrom.{no_faults}
use Rattle.headline.proofs.LiveBy.{TaskEffect}
use Rattle.headline.proofs.LiveFrom.{Alive}
use Rattle.headline.proofs.Transfer.{live_shown, given}
use Rattle.headline.proofs.Within.{script_right}

module _ (s : Core) (C : Code) (w : IsCodeOf s C) (wf : WellFormed s) (kn : Knows s (Meaning s)) (I : IsCode C) (sc : Scoped s) (ty : TypedValues s (Meaning s)) (nodes : NodesOnce C) (ex : IsExact C) (single : SinglyAssigned s)
    (back : (t : Task) (e : TaskEffect) → Facts s C (Meaning s) t e → Ever (code_system C) t e) where
  pub quiet_no_fault : (st : CodeState) → Complete (code_system C) st → (f : Fault) (at : ℕ) (path : Path) → Faults (Meaning s) f at path → ⊥
  quiet_no_fault st full = no_faults s C w (Meaning s) wf kn I sc never
    where
      never : (t : Task) (f : EntryFault) → Alive s C w (Meaning s) wf (backs s (Meaning s) kn) I sc t → (xs : List Got) → ReadAll (code_system C) (Answers s (Meaning s)) ((code_system C).inputs t) xs → ◌≡◌ {A = Outcome Task CodePlaces.Place Key Scalar EntryFault} ((code_system C).effect t xs) (Bad f) → ⊥
      never t f lv xs rd q =
          let L = code_laws C I in
          let shown : Comes (code_system C) (Shown (code_system C) (Answers s (Meaning s))) t (Bad f) = record {
            live = live_shown (code_system C) L (Answers s (Meaning s)) lv;
            answers = xs;
            known = given (code_system C) L (Answers s (Meaning s)) (script_right s C w (Meaning s) wf kn I sc ty nodes ex single) t lv ((code_system C).inputs t) (λ i m. m) xs rd;
            is = q;
          } in
          let ever = settled_comes (code_system C) L (Shown (code_system C) (Answers s (Meaning s))) (Ever (code_system C)) back (ever_settled (code_system C) L full.clean) shown in
          let r = comes_round (code_system C) L full.clean ever in
          full.no_fault t f (record { round = r.0; comes = r.1 })
