-- Blocked statements among the live ones, by the fact base.
use Rattle.std.specs.Prelude.{ℕ, Bool, true, false, not, ◌&&◌, ◌||◌, List, [], ◌∷◌, is_some, Option, Some, None}
use Rattle.values.specs.declared.value.Scalar.{Scalar}
use Rattle.values.specs.declared.value.Value.{Value}
use Rattle.values.specs.declared.value.Value.TheVariants.{One, Many}
use Rattle.language.specs.Core.{Cell, Stmt, stmt, Action, declare, call_alone, assign, fill, insert, print, assert, when, choose, range, each, wait}
use Rattle.language.specs.Parts.{outer_cells}
use Rattle.meaning_facts.specs.declared.fact_base.FactBase.{FactBase}
use Rattle.meaning_cells.specs.Chosen.{chosen_in, have_come_in}
use Rattle.meaning_cells.specs.Ending.{is_inserted_in}
use Rattle.meaning_facts.specs.Keeping.{some_fault_at}
use Rattle.meaning_facts.specs.Sighted.{sight_of}
use Rattle.meaning_facts.specs.Store.{value_at, line_at}

abbrev pub is_truth : Option Value → Bool
is_truth (Some (One (Scalar.Truth b))) = b
is_truth (Some (One (Scalar.Number z))) = false
is_truth (Some (One (Scalar.Text t))) = false
is_truth (Some (Many es)) = false
is_truth None = false

-- a statement of a node in an instance has its own fact, or is of a form that is never blocked
abbrev pub has_fact : FactBase → (instance node : ℕ) → Action → Bool
has_fact l i n (declare v) = true
has_fact l i n (call_alone p ps c) = true
has_fact l i n (assign x e) = is_some (value_at l.facts (record { instance = i; node = e.cell.node }))
has_fact l i n (fill a e) = is_some (value_at l.facts (record { instance = i; node = e.cell.node }))
has_fact l i n (insert a k e) = is_inserted_in l i a k.cell.node n
has_fact l i n (print p e) = is_some (line_at l.facts (record { instance = i; node = n }))
has_fact l i n (assert p e) = is_truth (value_at l.facts (record { instance = i; node = e.cell.node }))
has_fact l i n (when c b) = is_some (chosen_in (sight_of l i) (when c b))
has_fact l i n (choose c b d) = is_some (chosen_in (sight_of l i) (choose c b d))
has_fact l i n (range lo hi st x t b) = is_some (chosen_in (sight_of l i) (range lo hi st x t b))
has_fact l i n (each a x t b) = is_some (chosen_in (sight_of l i) (each a x t b))
has_fact l i n (wait ns b) = have_come_in (sight_of l i) ns

-- a fault of the statement at an offset is known at one of these cells
abbrev pub fails_among : FactBase → (instance at : ℕ) → List Cell → Bool
fails_among l i at [] = false
fails_among l i at (c ∷ cs) = some_fault_at l.facts at (record { instance = i; node = c.node }) || fails_among l i at cs

-- a live statement in an instance is blocked
abbrev pub is_stuck_in : FactBase → ℕ → Stmt → Bool
is_stuck_in l i (stmt at n a) = not (has_fact l i n a) && (not (some_fault_at l.facts at (record { instance = i; node = n })) && not (fails_among l i at (outer_cells a)))
