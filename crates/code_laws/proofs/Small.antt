-- Laid code has few entries and bodies.
use Rattle.std.proofs.Common.{◌≡◌, ℕ, ◌≤◌, Bool, List, [], ◌∷◌, length, refl, arith}
use Rattle.std.specs.Prelude.{ℤ}
use Rattle.language.specs.Core.{Part, Stmt, stmt, Action, Core}
use Rattle.language.specs.Parts.{parts, script_stmts}
use Rattle.task_code.specs.Code.{Entry, Code}
use Rattle.code_rules.specs.IsCodeOf.{Layout, PartAs, plain_literal, plain_name, a_cell, a_read, a_call}
use Rattle.code_rules.specs.Laying.{Kinds, LaysScript}
use Rattle.code_rules.specs.Emitted.{CellsOnce, ReadsStand, stmts_size, size_of}
use Rattle.code_laws.proofs.Counts.{total, total_one}
use Rattle.code_laws.proofs.Layouts.{layout_of, layout_suits}
use Rattle.code_laws.proofs.Few.{IsOwn, Weights, stmt_weight, script_few}

part_ones : (C : Code) (l : Layout) (k : ℕ) (all : List Part) (at : ℕ) (p : ℤ) (x : Part) (is : List ℕ) → PartAs C l k all at p x is → total (λ (j : ℕ). 1) is ≤ 1
part_ones C l k all at p x is (plain_literal z) = omega arith
part_ones C l k all at p x is (plain_name z) = omega arith
part_ones C l k all at p x is (a_cell z nd en) = omega arith
part_ones C l k all at p x is (a_read z nd ix en) = omega arith
part_ones C l k all at p x is (a_call ca) = omega arith

own_ones : (e : Entry) (at n : ℕ) (a : Action) → IsOwn e n a → 1 ≤ 1
own_ones e at n a h = omega arith

abbrev ones : Weights
ones = record { of_entry = λ e. 1; of_part = λ x. 1; of_own = λ st. 1; bared = λ e. refl; part_few = part_ones; own_few = own_ones }

sizes : (sts : List Stmt) → total (stmt_weight ones) sts ≡ stmts_size sts
sizes [] = refl
sizes (stmt at n a ∷ sts) = let x = total_one (parts a) in let y = sizes sts in omega arith

pub laid_small : (c : Core) (fs : List Kinds) (ds : List (ℕ × Bool)) (C : Code) → LaysScript c fs ds C → CellsOnce c → ReadsStand c → length C.entries ≤ size_of c
laid_small c fs ds C L cells reads =
    let a = script_few ones c (layout_of c ds) (layout_suits c ds cells) reads L in
    let b = sizes (script_stmts c) in
    let d = total_one C.entries in
    omega arith
