-- The core of a placed tree: its nodes stand once, and code that is laid for it is its code.
use Rattle.std.specs.Prelude.{ℕ, Bool, List}
use Rattle.language_accepted.specs.Placed.{IsPlaced}
use Rattle.language.specs.Resolved.{core}
use Rattle.language.specs.Table.{Table}
use Rattle.language.specs.Tree.{Tree}
use Rattle.language_laws.proofs.TreeNodes.{nodes_once}
use Rattle.language_accepted.proofs.Once.{rising_once}
use Rattle.language_accepted.proofs.Accepted.{placed_stmts}
use Rattle.task_code.specs.Code.{Code}
use Rattle.code_rules.specs.Emitted.{CellsOnce}
use Rattle.code_rules.specs.IsCodeOf.{IsCodeOf}
use Rattle.code_rules.specs.Laid.{IsLaid}
use Rattle.code_rules.specs.Laying.{Kinds, LaysScript}
use Rattle.code_rules.specs.NodesOnce.{NodesOnce}
use Rattle.code_laws.proofs.CodeOf.{code_of_table}
use Rattle.code_laws.proofs.IndexParts.{reads_stand}
use Rattle.code_laws.proofs.Layouts.{layout_of}
use Rattle.code_laws.proofs.Nodes.{NodesApart, nodes_apart, cells_once}
use Rattle.code_laws.proofs.Told.{laid_nodes}
use Rattle.code_laws.proofs.Whole.{is_laid}

pub accepted_apart : (t : Table) (tree : Tree) → IsPlaced tree → NodesApart (core t tree)
accepted_apart t tree p = nodes_apart (core t tree) (nodes_once t tree (rising_once tree p.in_order))

pub accepted_cells : (t : Table) (tree : Tree) → IsPlaced tree → CellsOnce (core t tree)
accepted_cells t tree p = cells_once (core t tree) (accepted_apart t tree p)

pub accepted_laid : (t : Table) (tree : Tree) (fs : List Kinds) (ds : List (ℕ × Bool)) (C : Code) → IsPlaced tree → LaysScript (core t tree) fs ds C → IsLaid (core t tree) fs ds C (layout_of (core t tree) ds)
accepted_laid t tree fs ds C p L = is_laid L (accepted_apart t tree p) (reads_stand t tree)

pub accepted_code : (t : Table) (tree : Tree) (fs : List Kinds) (ds : List (ℕ × Bool)) (C : Code) → IsPlaced tree → LaysScript (core t tree) fs ds C → IsCodeOf (core t tree) C
accepted_code t tree fs ds C p L = code_of_table (accepted_laid t tree fs ds C p L)

pub accepted_nodes : (t : Table) (tree : Tree) (fs : List Kinds) (ds : List (ℕ × Bool)) (C : Code) → IsPlaced tree → LaysScript (core t tree) fs ds C → NodesOnce C
accepted_nodes t tree fs ds C p L =
    laid_nodes (core t tree) fs ds C (layout_of (core t tree) ds) (accepted_apart t tree p) (placed_stmts t tree p) (reads_stand t tree) L (accepted_laid t tree fs ds C p L)
