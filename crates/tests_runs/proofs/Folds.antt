-- What each stage is handed, by what those before owe.
use Rattle.std.specs.Prelude.{◌≡◌, ◌++◌, ℕ, List, [], map, refl}
use Rattle.assign_check.specs.Faults.{faults}
use Rattle.compile.specs.Compiled.{IsOfScript}
use Rattle.compile.proofs.Scripts.{accepted}
use Rattle.constant_fold.specs.Folded.{folded_tree}
use Rattle.flow.specs.Cells.{AreAmong, anchors_of}
use Rattle.flow.specs.Listed.{shown_of}
use Rattle.flow.specs.Shapes.{declared_of, kinds_of}
use Rattle.flow.specs.View.{core_of}
use Rattle.flow.specs.declared.script.Flow.{Flow}
use Rattle.language.specs.Numbered.{numbered}
use Rattle.language.specs.Reads.{Reads}
use Rattle.language.specs.Resolved.{core}
use Rattle.language.specs.Scopes.{signatures}
use Rattle.language.specs.Table.{Table}
use Rattle.language.specs.Tree.{Tree}
use Rattle.language.specs.Typing.{WellTyped}
use Rattle.lowering.specs.Listed.{shown}
use Rattle.lowering.specs.Nodes.{nodes_of}
use Rattle.lowering.specs.Shapes.{flagged, function_declarations, kinds_of_signature, own_declarations}
use Rattle.swt_library.proofs.Flows.{of_fold}
use Rattle.wait_merge.specs.Merged.{IsMerged}
use Rattle.tests_runs.specs.Folds.{IsFold, IsOfText}

pub of_text : (src : List ℕ) (tree : Tree) → Reads src tree → IsOfText tree
of_text src tree reads = record { src = src; reads = reads }

pub is_fold : (t : Table) (tree folded : Tree) → IsOfText tree → ((n : ℕ) (u : Tree) → tree ≡ numbered n u → WellTyped tree t) → faults t tree ≡ [] → folded ≡ folded_tree tree → IsFold t folded
is_fold t tree folded text typed none is = record { src = text.src; tree = tree; accepted = accepted text.src tree t text.reads typed none; is = is }

pub flow_of_fold : {A : Type 0} (t : Table) (folded : Tree) (flow : Flow A) → IsFold t folded → core_of flow ≡ core t folded → declared_of flow ≡ flagged (own_declarations folded) ++ flagged (function_declarations folded)
    → kinds_of flow ≡ map kinds_of_signature (signatures folded) → shown_of flow ≡ shown folded → AreAmong (anchors_of flow) (nodes_of folded) → IsMerged flow → IsOfScript flow
flow_of_fold t folded flow fold core_is declared_is kinds_are shown_is cells_are is_merged =
    of_fold fold.src t fold.tree folded flow flow fold.accepted fold.is (record { core_is = core_is; declared_is = declared_is; kinds_are = kinds_are; shown_is = shown_is; cells_are = cells_are })
    (record { core_stays = refl; declared_stays = refl; kinds_stay = refl; shown_stays = refl; cells_stay = refl; merged = is_merged })
