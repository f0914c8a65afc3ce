-- The cells of each form of action, of a statement and of a block.
use Rattle.std.proofs.Common.{rules, ◌≡◌, ℤ, List, [], ◌∷◌, ◌++◌, Option, map, refl, ap, ◌∙◌, Vec, Box}
use Rattle.std.specs.List.{flat_map}
use Rattle.flow.specs.declared.name.Name.{Name}
use Rattle.flow.specs.declared.cell.Call.{Call as Called}
use Rattle.flow.specs.declared.cell.OuterCell.{OuterCell}
use Rattle.flow.specs.declared.cell.CellPart.{CellPart}
use Rattle.flow.specs.declared.statement.Variable.{Variable}
use Rattle.flow.specs.declared.statement.Header.{Header}
use Rattle.flow.specs.declared.statement.Range.{Range as Ranged}
use Rattle.flow.specs.declared.statement.Block.{Block, out-Block}
use Rattle.flow.specs.declared.statement.Statement.{Statement, out-Statement}
use Rattle.flow.specs.declared.statement.Action.{Declare, Call, Assign, Fill, Insert, Print, Assert, When, Choose, Range, Each, Wait, the_lemmas}
use Rattle.flow.specs.Cells.{Anchor, action_anchors, block_anchors, outer_anchors, parts_anchors, range_anchors, statement_anchors}

module _ {A : Type 0} where
  pub declare_anchors : (v : Variable A) → action_anchors (Declare v) ≡ []
  declare_anchors v = search (rules, the_lemmas)

  pub call_anchors : (p : ℤ) (ps : Vec (CellPart A) A) (c : Box (Called A) A) → action_anchors (Call p ps c) ≡ parts_anchors ps.items
  call_anchors p ps c = search (rules, the_lemmas)

  pub assign_anchors : (x : Name) (e : Box (OuterCell A) A) → action_anchors (Assign x e) ≡ outer_anchors e.value
  assign_anchors x e = search (rules, the_lemmas)

  pub fill_anchors : (x : Name) (e : Box (OuterCell A) A) → action_anchors (Fill x e) ≡ outer_anchors e.value
  fill_anchors x e = search (rules, the_lemmas)

  pub insert_anchors : (x : Name) (i e : Box (OuterCell A) A) → action_anchors (Insert x i e) ≡ outer_anchors i.value ++ outer_anchors e.value
  insert_anchors x i e = search (rules, the_lemmas)

  pub print_anchors : (p : ℤ) (e : Box (OuterCell A) A) → action_anchors (Print p e) ≡ outer_anchors e.value
  print_anchors p e = search (rules, the_lemmas)

  pub assert_anchors : (p : ℤ) (e : Box (OuterCell A) A) → action_anchors (Assert p e) ≡ outer_anchors e.value
  assert_anchors p e = search (rules, the_lemmas)

  pub when_anchors : (e : Box (OuterCell A) A) (b : Box (Block A) A) → action_anchors (When e b) ≡ outer_anchors e.value ++ block_anchors b.value
  when_anchors e b = search (rules, the_lemmas)

  pub choose_anchors : (e : Box (OuterCell A) A) (b d : Box (Block A) A) → action_anchors (Choose e b d) ≡ outer_anchors e.value ++ block_anchors b.value ++ block_anchors d.value
  choose_anchors e b d = search (rules, the_lemmas)

  pub range_loop_anchors : (r : Box (Ranged A) A) (v : Variable A) (k : Option (Variable A)) (b : Box (Block A) A) → action_anchors (Range r v k b) ≡ range_anchors r.value ++ block_anchors b.value
  range_loop_anchors r v k b = search (rules, the_lemmas)

  pub each_anchors : (n : Name) (v : Variable A) (k : Option (Variable A)) (b : Box (Block A) A) → action_anchors (Each n v k b) ≡ block_anchors b.value
  each_anchors n v k b = search (rules, the_lemmas)

  pub wait_anchors : (ns : Vec Name A) (hs : Vec (Header A) A) (b : Box (Block A) A) → action_anchors (Wait ns hs b) ≡ block_anchors b.value
  wait_anchors ns hs b = search (rules, the_lemmas)

pub anchors_statement : (A : Type 0) (s : Statement A) → statement_anchors s ≡ action_anchors (out-Statement A s).action
anchors_statement A s = search (rules, the_lemmas)

in_steps : (A : Type 0) (b : Block A) → block_anchors b ≡ flat_map (λ (xs : List Anchor). xs) (map statement_anchors (out-Block A b).statements.items)
in_steps A b = search (rules, the_lemmas)

joins : {X : Type 0} (f : X → List Anchor) (xs : List X) → flat_map (λ (ys : List Anchor). ys) (map f xs) ≡ flat_map f xs
joins f [] = refl
joins f (x ∷ xs) = ap (λ (ys : List Anchor). f x ++ ys) (joins f xs)

-- those of a block are those of its statements, one after another
pub anchors_block : (A : Type 0) (b : Block A) → block_anchors b ≡ flat_map statement_anchors (out-Block A b).statements.items
anchors_block A b = in_steps A b ∙ joins (statement_anchors {A = A}) (out-Block A b).statements.items
