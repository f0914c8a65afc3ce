-- The headline, from the parts.
use Rattle.dataflow.specs.Facts.{Ever}
use Rattle.dataflow.specs.History.{log_of}
use Rattle.dataflow.specs.Machine.{Event}
use Rattle.dataflow.specs.Promises.{Complete}
use Rattle.dataflow.proofs.Headline.{agrees_with, complete}
use Rattle.dataflow.proofs.Steps.{run_follows}
use Rattle.std.specs.Prelude.{◌≡◌, ℕ, List, map}
use Rattle.language.specs.Core.{Core}
use Rattle.language.specs.Meaning.{Meaning}
use Rattle.language.specs.Facts.{Fault}
use Rattle.language.specs.Outcomes.{Clean, Faults, Lines}
use Rattle.language.specs.Places.{Path}
use Rattle.values.specs.declared.value.Scalar.TheVariants.{Text}
use Rattle.language.specs.Single.{SinglyAssigned}
use Rattle.language.specs.WellFormed.{WellFormed}
use Rattle.language_laws.specs.Scoped.{Scoped}
use Rattle.language_laws.specs.TypedValues.{TypedValues}
use Rattle.task_code.specs.Code.{Code}
use Rattle.task_code.specs.Effects.{Task}
use Rattle.task_code.specs.Exact.{IsExact}
use Rattle.task_code.specs.Machine.{CodeState, Run, Quiet}
use Rattle.task_code.specs.System.{code_system}
use Rattle.task_code.specs.Whole.{IsCode}
use Rattle.task_code.proofs.Blocks.{ever_blocked, blocked_here}
use Rattle.task_code.proofs.Kept.{code_laws}
use Rattle.headline.specs.Headline.{Agrees, IsAll, Headline}
use Rattle.code_rules.specs.IsCodeOf.{IsCodeOf}
use Rattle.code_rules.specs.NodesOnce.{NodesOnce}
use Rattle.headline.specs.Asserted.{Asserted}
use Rattle.headline.specs.Inclusions.{Facts}
use Rattle.headline.specs.Knows.{Knows}
use Rattle.headline.proofs.BlockedFrom.{blocked_from}
use Rattle.headline.proofs.BlockedTo.{blocked_to}
use Rattle.headline.proofs.Compact.{meaning_in}
use Rattle.headline.proofs.FaultsTo.{faults_to}
use Rattle.headline.proofs.LiveBy.{TaskEffect}
use Rattle.headline.proofs.Meant.{meaning_knows}
use Rattle.headline.proofs.QuietFaults.{quiet_no_fault}
use Rattle.headline.proofs.QuietLines.{quiet_lines}
use Rattle.headline.proofs.RoundsOf.{script_clean, half_in}
use Rattle.headline.proofs.RunsWithin.{run_agrees}
use Rattle.headline.proofs.Within.{clean_code, script_right}

module _ (s : Core) (C : Code) (w : IsCodeOf s C) (I : IsCode C) (ex : IsExact C) (nodes : NodesOnce C) (wf : WellFormed s) (single : SinglyAssigned s) (sc : Scoped s) (ty : TypedValues s (Meaning s)) where
  -- every state of a run agrees with a script that writes no key twice
  pub state_agrees : Clean s → (events : List Event) (st : CodeState) → Run C events st → Agrees s C st
  state_agrees clean events st run =
      let kn = meaning_knows s wf single clean in
      run_agrees s C w wf kn I sc ty nodes ex single (faults_to s C w (Meaning s) wf kn I sc ty (script_right s C w (Meaning s) wf kn I sc ty nodes ex single)) st
      (agrees_with (code_system C) (code_laws C I) st (log_of (code_system C) events st run) (run_follows (code_system C) (code_laws C I) events st run) (clean_code s C w (Meaning s) wf kn I sc ty nodes ex single))

  quiet_complete : (events : List Event) (st : CodeState) → Run C events st → Quiet C st → Complete (code_system C) st
  quiet_complete events st run quiet = complete (code_system C) (code_laws C I) st (log_of (code_system C) events st run) (run_follows (code_system C) (code_laws C I) events st run) quiet

  -- the script of a state that is quiet without fault writes no key twice
  pub quiet_clean : (events : List Event) (st : CodeState) → Run C events st → Quiet C st → Clean s
  quiet_clean events st run quiet = (let full = quiet_complete events st run quiet in script_clean s C w wf single I sc full.clean ex)

  module _ (asserts : Asserted s) where
    all_of : (st : CodeState) → Complete (code_system C) st → Clean s → IsAll s C st
    all_of st full clean = record {
      no_fault = no_fault;
      printed = lines.0;
      printed_is = lines.1;
      lines = lines.2;
      blocked = λ at path b. blocked_to s C w (Meaning s) wf kn I sc ty nodes ex single back no_fault at path (ever_blocked C I st full at path b);
      blocked_all = λ at path b. blocked_here C I st full at path (blocked_from s C w (Meaning s) wf kn I sc ty nodes ex single back asserts at path b);
    }
      where
        kn : Knows s (Meaning s)
        kn = meaning_knows s wf single clean

        back : (t : Task) (e : TaskEffect) → Facts s C (Meaning s) t e → Ever (code_system C) t e
        back = meaning_in s C wf single clean (half_in s C w wf single I sc full.clean ex)

        no_fault : (f : Fault) (at : ℕ) (path : Path) → Faults (Meaning s) f at path → ⊥
        no_fault = quiet_no_fault s C w wf kn I sc ty nodes ex single back st full

        lines : (printed : List (List ℕ)) × (st.lines ≡ map Text printed) × Lines (Meaning s) printed
        lines = quiet_lines s C w wf kn I sc ty nodes ex single back st full

    pub headline_of : Headline s C
    headline_of = record { agrees = state_agrees; all = λ events st run quiet. all_of st (quiet_complete events st run quiet) (quiet_clean events st run quiet) }
