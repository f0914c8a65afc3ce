-- The facts that a round derives from a live statement in an instance: as `news` of the meaning, with names resolved by
-- the program's instances.
use Rattle.std.specs.Prelude.{Bool, true, false, List, [], ◌∷◌, ◌++◌, Option, Some, None, option_map, option_to_list}
use Rattle.values.specs.declared.key.Key.{Key}
use Rattle.values.specs.declared.map.Element.{Element}
use Rattle.values.specs.declared.value.Scalar.{Scalar}
use Rattle.values.specs.declared.value.Value.{Value}
use Rattle.values.specs.declared.value.Value.TheVariants.{One, Many}
use Rattle.flow.specs.declared.statement.Range.{Range}
use Rattle.flow.specs.View.{outer_view}
use Rattle.language.specs.Core.{Name, Stmt, stmt, Cell, Outer, Action, assign, fill, insert, print, when, choose, range, each}
use Rattle.language.specs.Facts.{element_twice, Fact, value, element}
use Rattle.language.specs.Parts.{stmt_calls, cells, part_cells, outer_cells, outer_parts}
use Rattle.language.specs.Openings.{bounds}
use Rattle.language.specs.Places.{Place}
use Rattle.meaning_steps.specs.News.{unless, comes, cell_told, cells_told, key_in, one_in, text_in, comes_all, printed_told, bad_by, branch_by, some_turn, count_of, some_call}
use Rattle.meaning_facts.specs.declared.fact_base.FactBase.{FactBase}
use Rattle.meaning_facts.specs.Keeping.{place_view}
use Rattle.meaning_facts.specs.Store.{spot}
use Rattle.meaning_round.specs.declared.site.LiveStatement.{LiveStatement}
use Rattle.meaning_round.specs.Faults.{sight_at, past_at, path_at, fault_news, deep_news, each_news}

-- the place of a name
abbrev pub lies_at : FactBase → LiveStatement → Name → Place
lies_at l t x = place_view l.instances.all.items (spot l.instances.all.items t.instance x)

-- CELLS

abbrev pub cell_news : FactBase → LiveStatement → Cell → List Fact
cell_news l t c = cell_told (sight_at l t) (past_at l t) (path_at l t) t.at c

abbrev pub cells_news : FactBase → LiveStatement → List Cell → List Fact
cells_news l t cs = cells_told (sight_at l t) (past_at l t) (path_at l t) t.at cs

-- outermost cells, each after its inner cells
abbrev pub outers_news : FactBase → LiveStatement → List Outer → List Fact
outers_news l t os = cells_news l t (part_cells (outer_parts os))

-- the value that a cell has after the round
abbrev pub comes_at : FactBase → LiveStatement → Cell → Option Value
comes_at l t c = comes (sight_at l t) c

-- FAULTS

-- the fault of a path that would be too long, for a condition that opens a block
abbrev pub branch_news : FactBase → LiveStatement → Option Value → (other : Bool) → List Fact
branch_news l t (Some v) other = deep_news l t (branch_by (v ∷ []) other)
branch_news l t None other = []

-- the fault of a range, or that of a path that would be too long, if the range has a turn
abbrev pub bounds_news : FactBase → LiveStatement → List Value → List Fact
bounds_news l t vs = bad_by (past_at l t) (path_at l t) t.at t.node (count_of (bounds vs)) ++ deep_news l t (some_turn (count_of (bounds vs)))

abbrev pub range_news : FactBase → LiveStatement → Option (List Value) → List Fact
range_news l t (Some vs) = bounds_news l t vs
range_news l t None = []

-- the outermost cells of a range
abbrev pub range_outers : {A : Type 0} → Range A → List Outer
range_outers r = outer_view r.low ∷ outer_view r.high ∷ option_to_list (option_map outer_view r.step)

-- STATEMENTS

abbrev pub assigned_news : FactBase → LiveStatement → Name → Option Value → List Fact
assigned_news l t x (Some v) = unless ((past_at l t).valued x) (value (lies_at l t x) v)
assigned_news l t x None = []

abbrev pub element_by : FactBase → LiveStatement → Place → Key → Scalar → (written twice : Bool) → List Fact
element_by l t p k v false b = element p k (path_at l t, t.node) v ∷ []
element_by l t p k v true true = fault_news l t element_twice t.node
element_by l t p k v true false = []

abbrev pub element_news : FactBase → LiveStatement → Name → Key → Scalar → List Fact
element_news l t a k v = element_by l t (lies_at l t a) k v ((past_at l t).written a k t.node) ((past_at l t).twice a k)

abbrev pub elements_news : FactBase → LiveStatement → Name → List Element → List Fact
elements_news l t a [] = []
elements_news l t a (e ∷ es) = element_news l t a e.key e.value ++ elements_news l t a es

abbrev pub filled_news : FactBase → LiveStatement → Name → Option Value → List Fact
filled_news l t a (Some (Many es)) = elements_news l t a es
filled_news l t a (Some (One v)) = []
filled_news l t a None = []

abbrev pub inserted_news : FactBase → LiveStatement → Name → Option Key → Option Scalar → List Fact
inserted_news l t a (Some k) (Some v) = element_news l t a k v
inserted_news l t a (Some k) None = []
inserted_news l t a None v = []

-- the facts of a statement that follow from the values of its outermost cells
abbrev pub own_news : FactBase → LiveStatement → Action → List Fact
own_news l t (assign x e) = assigned_news l t x (comes_at l t e.cell)
own_news l t (fill a e) = filled_news l t a (comes_at l t e.cell)
own_news l t (insert a i e) = inserted_news l t a (key_in (comes_at l t i.cell)) (one_in (comes_at l t e.cell))
own_news l t (print p e) = printed_told (past_at l t) (path_at l t) t.node (text_in (comes_at l t e.cell))
own_news l t (when c b) = branch_news l t (comes_at l t c.cell) false
own_news l t (choose c b d) = branch_news l t (comes_at l t c.cell) true
own_news l t (range lo hi st x n b) = range_news l t (comes_all (sight_at l t) (outer_cells (range lo hi st x n b)))
own_news l t (each a x n b) = each_news l t ((sight_at l t).closed a) ((sight_at l t).elements a)
own_news l t _ = []

-- the fault of a path that would be too long, for a call
abbrev pub calls_news : FactBase → LiveStatement → Stmt → List Fact
calls_news l t st = deep_news l t (some_call (stmt_calls st))

abbrev pub site_news : FactBase → LiveStatement → Action → List Fact
site_news l t a = cells_news l t (cells (stmt t.at t.node a)) ++ (own_news l t a ++ calls_news l t (stmt t.at t.node a))
