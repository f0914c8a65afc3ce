-- Emitted code of an accepted script is whole, and keeps the headline.
use Rattle.std.specs.Prelude.{ℕ, Bool, List}
use Rattle.language_accepted.specs.Placed.{IsPlaced}
use Rattle.language.specs.Resolved.{core}
use Rattle.language.specs.Single.{SinglyAssigned}
use Rattle.language.specs.Table.{Table}
use Rattle.language.specs.Tree.{Tree}
use Rattle.language.specs.Typing.{WellTyped}
use Rattle.task_code.specs.Code.{Code}
use Rattle.task_code.specs.Exact.{IsExact}
use Rattle.task_code.specs.Whole.{IsCode}
use Rattle.language_accepted.proofs.Accepted.{placed_formed, values_meant}
use Rattle.language_accepted.proofs.Formed.{scoped}
use Rattle.code_rules.specs.Emitted.{IsEmitted, HasRights}
use Rattle.headline.specs.Headline.{Headline}
use Rattle.code_rules.specs.Laying.{Kinds}
use Rattle.headline.proofs.AssertedCores.{asserted_core}
use Rattle.headline.proofs.HeadlineOf.{headline_of}
use Rattle.code_laws.proofs.Accepted.{accepted_cells, accepted_code, accepted_laid, accepted_nodes}
use Rattle.code_laws.proofs.IndexParts.{reads_stand}
use Rattle.code_laws.proofs.Marks.{laid_marks}
use Rattle.code_laws.proofs.AcceptedWhole.{accepted_whole}
use Rattle.code_laws.proofs.Offsets.{accepted_calls}
use Rattle.code_laws.specs.Described.{DeclaredIn, KindsOf}

pub exact_rights : (C : Code) → HasRights C → IsExact C
exact_rights C r = record { reads = r.reads; writes = r.writes }

pub whole_emitted : (t : Table) (tree : Tree) (fs : List Kinds) (ds : List (ℕ × Bool)) (C : Code) → IsPlaced tree → WellTyped tree t → SinglyAssigned (core t tree)
    → KindsOf fs tree → DeclaredIn ds tree → IsEmitted (core t tree) fs ds C → IsCode C
whole_emitted t tree fs ds C place typed single kinds declared emitted =
    let found = laid_marks (core t tree) fs ds C emitted.laid (accepted_cells t tree place) (reads_stand t tree) (accepted_calls t tree place) in
    let nodes = accepted_nodes t tree fs ds C place emitted.laid in
    accepted_whole t tree fs ds C _ place typed single kinds declared (accepted_laid t tree fs ds C place emitted.laid) emitted.rights found nodes

pub headline_emitted : (t : Table) (tree : Tree) (fs : List Kinds) (ds : List (ℕ × Bool)) (C : Code) → IsPlaced tree → WellTyped tree t → SinglyAssigned (core t tree)
    → KindsOf fs tree → DeclaredIn ds tree → IsEmitted (core t tree) fs ds C → Headline (core t tree) C
headline_emitted t tree fs ds C place typed single kinds declared emitted =
    headline_of (core t tree) C (accepted_code t tree fs ds C place emitted.laid) (whole_emitted t tree fs ds C place typed single kinds declared emitted) (exact_rights C emitted.rights)
    (accepted_nodes t tree fs ds C place emitted.laid) (placed_formed t tree place typed single) single (scoped t tree place.in_order typed) (values_meant t tree place typed) (asserted_core t tree)
