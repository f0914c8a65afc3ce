-- What never ends in waits one in another, and in statements one after another.
use Rattle.std.specs.Prelude.{◌≡◌, ℕ, ℤ, suc, ◌+◌, ◌<◌, ◌≤◌, Bool, true, false, ◌&&◌, ◌||◌, List, [], ◌∷◌, length, drop, Vec, Box, Option, option_map, refl}
use Rattle.std.proofs.Common.{rules, sym, ap, ◌∙◌, get_or}
use Rattle.std.proofs.lemmas.List.{drop_more}
use Rattle.language.specs.Core as core
use Rattle.flow.specs.declared.cell.Call.{Call}
use Rattle.flow.specs.declared.cell.OuterCell.{OuterCell}
use Rattle.flow.specs.declared.cell.CellPart.{CellPart}
use Rattle.flow.specs.declared.statement.Action.{the_lemmas}
use Rattle.flow.specs.declared.name.Name.{Name}
use Rattle.flow.specs.declared.statement.Action as live_action
use Rattle.flow.specs.declared.statement.Action.{Call as Does}
use Rattle.flow.specs.declared.statement.Block.{Block, out-Block}
use Rattle.flow.specs.declared.statement.Header.{Header}
use Rattle.flow.specs.declared.statement.Range.{Range}
use Rattle.flow.specs.declared.statement.Statement.{Statement, out-Statement}
use Rattle.flow.specs.declared.statement.Variable.{Variable}
use Rattle.flow.specs.View.{call_view, name_view, outer_view, parts_view, waits_around, action_view, block_view, block_of, statements_view}
use Rattle.meaning_cells.specs.Targeted.{same_owned}
use Rattle.meaning_cells.proofs.Aims.{view_statement}
use Rattle.meaning_invariants.specs.Never.{never, never_by, never_in, some_output}
use Rattle.meaning_cells.proofs.Ending.{drop_past}
use Rattle.meaning_round.specs.Made.{no_calls}
use Rattle.meaning_round.proofs.Made.{block_seen}

and_false : (b : Bool) → b && false ≡ false
and_false true = refl
and_false false = refl

or_false : (b : Bool) → b || false ≡ b
or_false true = refl
or_false false = refl

output_none : (x : core.Owned) (j f : ℕ) (ys : List core.Name) → some_output (no_calls f) x j ys ≡ false
output_none x j f [] = refl
output_none x j f (y ∷ ys) = ap (λ (b : Bool). b || some_output (no_calls f) x (suc j) ys) (and_false (same_owned y.what x)) ∙ output_none x (suc j) f ys

pub no_output : (x : core.Owned) (j f : ℕ) (ys : List core.Name) → false ≡ some_output (no_calls f) x j ys
no_output x j f ys = sym (output_none x j f ys)

pub waits_never : {A : Type 0} (x : core.Owned) (hs : List (Header A)) (b : core.Block) → never_in no_calls x (waits_around hs b) ≡ never_in no_calls x b
waits_never x [] b = refl
waits_never x (h ∷ hs) b = or_false (never_in no_calls x (waits_around hs b)) ∙ waits_never x hs b

pub never_step : (A : Type 0) (x : core.Owned) (ss : List (Statement A)) (i : ℕ) (d : Statement A) → i < length ss
    → never_in no_calls x (block_of (statements_view (drop i ss))) ≡ never_by no_calls x (action_view (out-Statement A (get_or ss i d)).action) || never_in no_calls x (block_of (statements_view (drop (i + 1) ss)))
never_step A x ss i d l =
    ap (λ (z : List (Statement A)). never_in no_calls x (block_of (statements_view z))) (drop_more ss i d l)
    ∙ ap (λ (z : core.Stmt). never no_calls x z || never_in no_calls x (block_of (statements_view (drop (i + 1) ss)))) (view_statement A (get_or ss i d))

pub never_whole : (A : Type 0) (x : core.Owned) (b : Block A) → never_in no_calls x (block_view b) ≡ never_in no_calls x (block_of (statements_view (out-Block A b).statements.items))
never_whole A x b = ap (never_in no_calls x) (block_seen A b)

pub never_past : (A : Type 0) (x : core.Owned) (ss : List (Statement A)) (i : ℕ) → length ss ≤ i → never_in no_calls x (block_of (statements_view (drop i ss))) ≡ false
never_past A x ss i l = ap (λ (z : List (Statement A)). never_in no_calls x (block_of (statements_view z))) (drop_past ss i l)

view_call : {A : Type 0} (p : ℤ) (ps : Vec (CellPart A) A) (c : Box (Call A) A) → action_view (Does p ps c) ≡ core.call_alone p (parts_view ps.items) (call_view c.value)
view_call p ps c = search (rules, the_lemmas)

-- a call says nothing
pub call_never : {A : Type 0} (x : core.Owned) (p : ℤ) (ps : Vec (CellPart A) A) (c : Box (Call A) A) → false ≡ never_by no_calls x (action_view (Does p ps c))
call_never x p ps c = no_output x 0 c.value.function (call_view c.value).outputs ∙ sym (ap (never_by no_calls x) (view_call p ps c))

-- SETS OF THEM

-- one step more of what is sought
pub adds_step : (old new s b r : Bool) → new ≡ old || (s && b) → old || (s && (b || r)) ≡ new || (s && r)
adds_step old new s b r e = by old s b ∙ ap (λ (z : Bool). z || (s && r)) (sym e)
  where
    by : (old s b : Bool) → old || (s && (b || r)) ≡ (old || (s && b)) || (s && r)
    by true s b = refl
    by false true true = refl
    by false true false = refl
    by false false b = refl

pub adds_past : (old s : Bool) → old || (s && false) ≡ old
adds_past true s = refl
adds_past false true = refl
adds_past false false = refl

pub adds_none : (vs s : ℕ → Bool) (a : core.Action) → ((n : ℕ) → never_by no_calls (core.local n) a ≡ false) → (n : ℕ) → vs n ≡ vs n || (s n && never_by no_calls (core.local n) a)
adds_none vs s a none n = sym (ap (λ (z : Bool). vs n || (s n && z)) (none n) ∙ adds_past (vs n) (s n))

-- what never ends in one branch is sought in the other
pub among_both : (old new nodes none s b d : Bool) → none ≡ false → nodes ≡ none || (s && b) → new ≡ old || (nodes && d) → new ≡ old || (s && (b && d))
among_both old new nodes none s b d e f h = h ∙ ap (λ (z : Bool). old || (z && d)) (f ∙ ap (λ (z : Bool). z || (s && b)) e) ∙ ap (λ (z : Bool). old || z) (turned s b)
  where
    turned : (s b : Bool) → (s && b) && d ≡ s && (b && d)
    turned true b = refl
    turned false b = refl

module _ {A : Type 0} where
  pub view_assign : (x : Name) (o : Box (OuterCell A) A) → action_view (live_action.Assign x o) ≡ core.assign (name_view x) (outer_view o.value)
  view_assign x o = search (rules, the_lemmas)

  pub view_choose : (c : Box (OuterCell A) A) (b d : Box (Block A) A) → action_view (live_action.Choose c b d) ≡ core.choose (outer_view c.value) (block_view b.value) (block_view d.value)
  view_choose c b d = search (rules, the_lemmas)

  pub view_declare : (v : Variable A) → action_view (live_action.Declare v) ≡ core.declare v.node
  view_declare v = search (rules, the_lemmas)

  pub view_fill : (a : Name) (o : Box (OuterCell A) A) → action_view (live_action.Fill a o) ≡ core.fill (name_view a) (outer_view o.value)
  view_fill a o = search (rules, the_lemmas)

  pub view_insert : (a : Name) (i o : Box (OuterCell A) A) → action_view (live_action.Insert a i o) ≡ core.insert (name_view a) (outer_view i.value) (outer_view o.value)
  view_insert a i o = search (rules, the_lemmas)

  pub view_print : (p : ℤ) (o : Box (OuterCell A) A) → action_view (live_action.Print p o) ≡ core.print p (outer_view o.value)
  view_print p o = search (rules, the_lemmas)

  pub view_assert : (p : ℤ) (o : Box (OuterCell A) A) → action_view (live_action.Assert p o) ≡ core.assert p (outer_view o.value)
  view_assert p o = search (rules, the_lemmas)

  pub view_when : (c : Box (OuterCell A) A) (b : Box (Block A) A) → action_view (live_action.When c b) ≡ core.when (outer_view c.value) (block_view b.value)
  view_when c b = search (rules, the_lemmas)

  pub view_range : (r : Box (Range A) A) (v : Variable A) (k : Option (Variable A)) (b : Box (Block A) A)
      → action_view (live_action.Range r v k b)
      ≡ core.range (outer_view r.value.low) (outer_view r.value.high) (option_map outer_view r.value.step) v.node (option_map (λ x. x.node) k) (block_view b.value)
  view_range r v k b = search (rules, the_lemmas)

  pub view_each : (a : Name) (v : Variable A) (k : Option (Variable A)) (b : Box (Block A) A)
      → action_view (live_action.Each a v k b) ≡ core.each (name_view a) v.node (option_map (λ x. x.node) k) (block_view b.value)
  view_each a v k b = search (rules, the_lemmas)
