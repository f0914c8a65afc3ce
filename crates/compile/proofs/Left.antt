-- What a run of a script's code leaves where it ends quiet without fault: a blocked statement, or nothing.
use Rattle.std.specs.Prelude.{◌≡◌, ℕ, List, []}
use Rattle.dataflow.specs.History.{log_of}
use Rattle.dataflow.specs.Machine.{Event}
use Rattle.dataflow.specs.System.{In}
use Rattle.dataflow.proofs.Follows.{Follows}
use Rattle.dataflow.proofs.Steps.{run_follows}
use Rattle.task_code.specs.Code.{Code}
use Rattle.task_code.specs.Machine.{CodeItem, CodeState, IsTidy, Quiet, Run}
use Rattle.task_code.specs.Places.{Step}
use Rattle.task_code.specs.Runs.{Blocked}
use Rattle.task_code.specs.System.{code_system}
use Rattle.task_code.proofs.Kept.{code_laws}
use Rattle.code_laws.specs.Sources.{CellsFollow, FindsSources}
use Rattle.code_laws.proofs.Left.{blocked_left, none_left}
use Rattle.code_laws.proofs.SourcesFound.{cells_follow, sources_found}
use Rattle.constant_fold.specs.Folded.{folded_tree}
use Rattle.compile.specs.Compiled.{IsCompiled}
use Rattle.compile.proofs.Runs.{declared_stay, folds_placed, folds_single, folds_typed, kinds_stay}

module _ (src : List ℕ) (C : Code) (w : IsCompiled src C) where
  sources : FindsSources C
  sources =
      sources_found w.table (folded_tree w.tree) w.laid.kinds w.laid.declared C (folds_placed src w.table w.tree w.accepted) (folds_typed src w.table w.tree w.accepted) (folds_single src w.table w.tree w.accepted)
      (kinds_stay w.laid.kinds w.tree w.laid.kinds_of) (declared_stay w.laid.declared w.tree w.laid.declared_in) w.laid.emitted

  order : CellsFollow C
  order = cells_follow w.table (folded_tree w.tree) w.laid.kinds w.laid.declared C (folds_placed src w.table w.tree w.accepted) (folds_typed src w.table w.tree w.accepted) (folds_single src w.table w.tree w.accepted) w.laid.emitted

  module _ (events : List Event) (st : CodeState) (run : Run C events st) (quiet : Quiet C st) where
    follows : Follows (code_system C) st (log_of (code_system C) events st run)
    follows = run_follows (code_system C) (code_laws C w.whole) events st run

    pub blocked : (i : CodeItem) → In i st.items → (at : ℕ) × (path : List Step) × Blocked C st at path
    blocked i there = blocked_left C w.whole sources w.exact order st (log_of (code_system C) events st run) follows quiet i there

    pub no_items : ((at : ℕ) (path : List Step) → Blocked C st at path → ⊥) → st.items ≡ []
    no_items none = none_left C w.whole sources w.exact order st (log_of (code_system C) events st run) follows quiet none

    pub no_data : ((at : ℕ) (path : List Step) → Blocked C st at path → ⊥) → IsTidy C st → st.places ≡ []
    no_data none tidy = (w.runs.exact events st run tidy).none_left (no_items none)
