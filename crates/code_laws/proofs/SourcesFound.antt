-- Emitted code of an accepted script has sources.
use Rattle.std.specs.Prelude.{ℕ, Bool, List}
use Rattle.language.specs.Resolved.{core}
use Rattle.language.specs.Scopes.{signatures}
use Rattle.language.specs.Single.{SinglyAssigned}
use Rattle.language.specs.Table.{Table}
use Rattle.language.specs.Tree.{Tree}
use Rattle.language.specs.Typing.{WellTyped}
use Rattle.language_accepted.specs.Placed.{IsPlaced}
use Rattle.language_accepted.specs.Types.{Types}
use Rattle.language_accepted.proofs.Accepted.{placed_formed, placed_types}
use Rattle.language_accepted.proofs.Formed.{scoped}
use Rattle.task_code.specs.Code.{Code}
use Rattle.code_rules.specs.Emitted.{IsEmitted}
use Rattle.code_rules.specs.Laying.{Kinds}
use Rattle.code_laws.proofs.Accepted.{accepted_cells, accepted_laid, accepted_nodes}
use Rattle.code_laws.proofs.IndexParts.{reads_stand}
use Rattle.code_laws.proofs.Marks.{laid_marks}
use Rattle.code_laws.specs.Described.{DeclaredIn, KindsOf}
use Rattle.code_laws.proofs.AcceptedWhole.{accepted_whole, declared_kinds}
use Rattle.code_laws.proofs.Offsets.{accepted_calls}
use Rattle.code_laws.proofs.Settling.{scopes_of}
use Rattle.code_laws.specs.Sources.{CellsFollow, FindsSources}
use Rattle.language_accepted.proofs.Once.{rising_once}
use Rattle.language_laws.proofs.TreeNodes.{nodes_once}
use Rattle.code_laws.proofs.Ascending.{ascending}
use Rattle.code_laws.proofs.Following.{follow}
use Rattle.code_laws.proofs.Found.{assigned}
use Rattle.code_laws.proofs.Handed.{handed}
use Rattle.code_laws.proofs.Walked.{all_good}

pub sources_found : (t : Table) (tree : Tree) (fs : List Kinds) (ds : List (ℕ × Bool)) (C : Code) → IsPlaced tree → WellTyped tree t → SinglyAssigned (core t tree)
    → KindsOf fs tree → DeclaredIn ds tree → IsEmitted (core t tree) fs ds C → FindsSources C
sources_found t tree fs ds C place typed single kinds declared emitted =
    let found = laid_marks (core t tree) fs ds C emitted.laid (accepted_cells t tree place) (reads_stand t tree) (accepted_calls t tree place) in
    let laid = accepted_laid t tree fs ds C place emitted.laid in
    let whole = accepted_whole t tree fs ds C _ place typed single kinds declared laid emitted.rights found (accepted_nodes t tree fs ds C place emitted.laid) in
    let types : Types t tree = placed_types t tree place typed in
    let held = scoped t tree place.in_order typed in
    record {
      assigned = assigned C _ laid emitted.rights found held single whole;
      handed = handed C _ laid emitted.rights found held (signatures tree) types.type_of (scopes_of types.type_of t tree types.declared typed) (declared_kinds types.type_of ds tree declared types.declared) kinds single whole
          (placed_formed t tree place typed single);
    }

pub cells_follow : (t : Table) (tree : Tree) (fs : List Kinds) (ds : List (ℕ × Bool)) (C : Code) → IsPlaced tree → WellTyped tree t → SinglyAssigned (core t tree) → IsEmitted (core t tree) fs ds C → CellsFollow C
cells_follow t tree fs ds C place typed single emitted =
    follow C _ (accepted_laid t tree fs ds C place emitted.laid) (ascending emitted.laid) (all_good t tree typed) (placed_formed t tree place typed single) (accepted_nodes t tree fs ds C place emitted.laid)
    (nodes_once t tree (rising_once tree place.in_order))
