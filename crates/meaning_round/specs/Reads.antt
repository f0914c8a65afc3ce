-- The read set of a live statement without a new fact, and the changes that matter to it.
use Rattle.std.specs.Prelude.{◌≡◌, ℕ, true, List, [], ◌∷◌, ◌++◌, map, Option, Some, None}
use Rattle.values.specs.declared.key.Key.{Key}
use Rattle.values.specs.declared.map.Element.{Element}
use Rattle.values.specs.declared.value.Value.{Value}
use Rattle.values.specs.declared.value.Value.TheVariants.{One, Many}
use Rattle.values.specs.Keys.{hash_of, value_key}
use Rattle.language.specs.Core.{Cell, Name, Expr, Exprs, literal, name, whole, operator, none, also, Form, compute, read, Outer, Action, fill, insert, each}
use Rattle.language.specs.Parts.{outer_parts, parts, part_cells}
use Rattle.meaning_facts.specs.declared.facts.Place.{Place}
use Rattle.meaning_facts.specs.declared.fact_base.FactBase.{FactBase}
use Rattle.meaning_facts.specs.Sighted.{closed_at}
use Rattle.meaning_facts.specs.Store.{value_at, writes_at, writes_under, spot}
use Rattle.meaning_round.specs.declared.site.LiveStatement.{LiveStatement}
use Rattle.meaning_round.specs.declared.worklist.WakeEvent.{WakeEvent}

-- EVENTS

-- a place gets its value, or is closed
abbrev pub at : Place → WakeEvent
at p = record { place = p; hash = 0 }

-- a key of an array is written
abbrev pub under : Place → Key → WakeEvent
under a k = record { place = a; hash = hash_of k }

-- nothing has changed for an event
pub record IsSame (l m : FactBase) (e : WakeEvent) : Type 0 where
  pub value : e.hash ≡ 0 → value_at m.facts e.place ≡ value_at l.facts e.place
  pub closed : e.hash ≡ 0 → closed_at m e.place ≡ closed_at l e.place
  pub elements : e.hash ≡ 0 → closed_at l e.place ≡ true → writes_at m.facts e.place ≡ writes_at l.facts e.place
  pub writes : (k : Key) → hash_of k ≡ e.hash → writes_under (writes_at m.facts e.place) k ≡ writes_under (writes_at l.facts e.place) k

-- CELLS

abbrev pub here : ℕ → ℕ → Place
here i n = record { instance = i; node = n }

abbrev pub lies : FactBase → ℕ → Name → Place
lies l i x = spot l.instances.all.items i x

-- the event of a value that is not known
abbrev pub unknown : Option Value → Place → List WakeEvent
unknown (Some v) p = []
unknown None p = at p ∷ []

abbrev mutual
  pub expr_reads : FactBase → ℕ → Expr → List WakeEvent
  expr_reads l i (literal v) = []
  expr_reads l i (name x) = unknown (value_at l.facts (lies l i x)) (lies l i x)
  expr_reads l i (whole a) = at (lies l i a) ∷ []
  expr_reads l i (operator o es) = exprs_reads l i es

  pub exprs_reads : FactBase → ℕ → Exprs → List WakeEvent
  exprs_reads l i none = []
  exprs_reads l i (also e es) = expr_reads l i e ++ exprs_reads l i es

-- the writes of a key, and the closing of the array
abbrev pub key_reads : Place → Option Key → List WakeEvent
key_reads a (Some k) = under a k ∷ at a ∷ []
key_reads a None = []

-- the read set of an element: of its key if the index is known, and otherwise the index
abbrev pub element_reads : Place → Place → Option Value → List WakeEvent
element_reads a i (Some v) = key_reads a (value_key v)
element_reads a i None = at i ∷ []

abbrev pub form_reads : FactBase → ℕ → Form → List WakeEvent
form_reads l i (compute e) = expr_reads l i e
form_reads l i (read a n) = element_reads (lies l i a) (here i n) (value_at l.facts (here i n))

-- a cell with a value reads nothing
abbrev pub unless_known : Option Value → Place → List WakeEvent → List WakeEvent
unless_known (Some v) p es = []
unless_known None p es = at p ∷ es

abbrev pub cell_reads : FactBase → LiveStatement → Cell → List WakeEvent
cell_reads l t c = unless_known (value_at l.facts (here t.instance c.node)) (here t.instance c.node) (form_reads l t.instance c.form)

abbrev pub cells_reads : FactBase → LiveStatement → List Cell → List WakeEvent
cells_reads l t [] = []
cells_reads l t (c ∷ cs) = cell_reads l t c ++ cells_reads l t cs

-- outermost cells, each after its inner cells
abbrev pub outers_reads : FactBase → LiveStatement → List Outer → List WakeEvent
outers_reads l t os = cells_reads l t (part_cells (outer_parts os))

-- STATEMENTS

abbrev pub elements_reads : Place → List Element → List WakeEvent
elements_reads a es = map (λ e. under a e.key) es

-- the writes of the keys of the elements that an array is filled with
abbrev pub filled_reads : Place → Option Value → List WakeEvent
filled_reads a (Some (Many es)) = elements_reads a es
filled_reads a (Some (One v)) = []
filled_reads a None = []

-- the writes of a key
abbrev pub put_reads : Place → Option Key → List WakeEvent
put_reads a (Some k) = under a k ∷ []
put_reads a None = []

abbrev pub inserted_reads : Place → Option Value → List WakeEvent
inserted_reads a (Some v) = put_reads a (value_key v)
inserted_reads a None = []

abbrev pub own_reads : FactBase → LiveStatement → Action → List WakeEvent
own_reads l t (fill a e) = filled_reads (lies l t.instance a) (value_at l.facts (here t.instance e.cell.node))
own_reads l t (insert a i e) = inserted_reads (lies l t.instance a) (value_at l.facts (here t.instance i.cell.node))
own_reads l t (each a x n b) = at (lies l t.instance a) ∷ []
own_reads l t _ = []

abbrev pub site_reads : FactBase → LiveStatement → Action → List WakeEvent
site_reads l t a = cells_reads l t (part_cells (parts a)) ++ own_reads l t a
