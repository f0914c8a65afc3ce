-- Where the cells that are found stand: where nodes of the tree do.
use Rattle.std.proofs.Common.{arith, ◌≡◌, ◌<◌, ℕ, zero, suc, List, [], ◌∷◌, ◌++◌, Result, Ok, Err, map, length, get_or, refl, sym, ap, subst, ◌∙◌}
use Rattle.std.specs.Prelude.{IfOk, IsOkAnd}
use Rattle.std.specs.List.{flat_map}
use Rattle.std.proofs.lemmas.List.{append-nil}
use Rattle.std.proofs.lemmas.List.Concat.{flat_map-append}
use Rattle.syntax_trees.specs.declared.tree.Expr.{Expr, out-Expr}
use Rattle.syntax_trees.specs.View.{expression_view, form_view}
use Rattle.language.specs.Tree.{Expression, Command, Statement, statements_of, Body, body, Part as Part', import, function, single, Tree}
use Rattle.flow.specs.declared.cell.Call.{Call}
use Rattle.flow.specs.declared.cell.Cell.{Cell}
use Rattle.flow.specs.declared.cell.CellPart.{CellPart}
use Rattle.flow.specs.declared.cell.CellPart.TheVariants as Stands
use Rattle.flow.specs.declared.statement.Action.{Action}
use Rattle.flow.specs.declared.statement.Statement.{Statement as Found}
use Rattle.flow.specs.Cells.{Anchor, AreAmong, AnchorsGrow, action_anchors, anchor_of, part_anchors, parts_anchors, statement_anchors}
use Rattle.flow.proofs.Growing.{among_left, among_right, among_then, among_both, grows_among, grows_as, grows_by, grows_none, grows_same}
use Rattle.lowering.specs.Nodes.{PartsStand, StatementsStand, all_nodes, body_nodes, command_nodes, expression_nodes, form_nodes, function_nodes, nodes_among, own_nodes, statement_nodes}
use Rattle.lowering.proofs.Views.{view_expr}

-- PARTS

pub stays : {A : Type 0} (ps : List (CellPart A)) (nodes : List Anchor) → PartsStand ps ps nodes
stays ps nodes = grows_none (parts_anchors ps) nodes

-- one more cell
pub cell_stands : {A : Type 0} (old new : List (CellPart A)) (c : Cell A) → new ≡ old ++ Stands.Inner c ∷ [] → PartsStand old new (anchor_of c ∷ [])
cell_stands old new c is = grows_by (parts_anchors old) (parts_anchors new) (anchor_of c ∷ []) (ap parts_anchors is ∙ flat_map-append part_anchors old (Stands.Inner c ∷ []))

-- a call has no cell of its own
pub call_stands : {A : Type 0} (old new : List (CellPart A)) (c : Call A) → new ≡ old ++ Stands.Calls c ∷ [] → PartsStand old new []
call_stands old new c is = grows_same (parts_anchors old) (parts_anchors new) [] (ap parts_anchors is ∙ flat_map-append part_anchors old (Stands.Calls c ∷ []) ∙ append-nil (parts_anchors old))

-- NODES

-- the node of an expression, and those inside it
pub node_among : (A : Type 0) (e : Expr A) → AreAmong (record { node = (out-Expr A e).number; at = (out-Expr A e).first.from } ∷ []) (expression_nodes (expression_view e))
node_among A e =
    let own : Anchor = record { node = (out-Expr A e).number; at = (out-Expr A e).first.from } in
    subst (λ (x : Expression). AreAmong (own ∷ []) (expression_nodes x)) (sym (view_expr A e)) (among_left (own ∷ []) (form_nodes (form_view (out-Expr A e).kind)))

pub form_among : (A : Type 0) (e : Expr A) → AreAmong (form_nodes (form_view (out-Expr A e).kind)) (expression_nodes (expression_view e))
form_among A e =
    let own : Anchor = record { node = (out-Expr A e).number; at = (out-Expr A e).first.from } in
    let inside = form_nodes (form_view (out-Expr A e).kind) in
    subst (λ (x : Expression). AreAmong inside (expression_nodes x)) (sym (view_expr A e)) (among_right (own ∷ []) inside)

-- those of one expression are among those of all
pub nodes_at : {X : Type 0} (view : X → Expression) (xs : List X) (i : ℕ) (x : X) → i < length xs → x ≡ get_or xs i x → AreAmong (expression_nodes (view x)) (all_nodes (map view xs))
nodes_at view [] i x below is = absurd (omega (arith, below))
nodes_at view (y ∷ ys) zero x below is =
    subst (λ z. AreAmong (expression_nodes (view z)) (expression_nodes (view y) ++ all_nodes (map view ys))) (sym is) (among_left (expression_nodes (view y)) (all_nodes (map view ys)))
nodes_at view (y ∷ ys) (suc i) x below is = among_then (nodes_at view ys i x (omega (arith, below)) is) (among_right (expression_nodes (view y)) (all_nodes (map view ys)))

-- an outermost cell, behind the parts that were found for it
pub outer_stands : {A : Type 0} (before now : List (CellPart A)) (own : Anchor) (nodes : List Anchor) → before ≡ [] → PartsStand before now nodes → AreAmong (own ∷ []) nodes
    → AreAmong (parts_anchors now ++ own ∷ []) nodes
outer_stands {A} before now own nodes empty found one =
    among_both (parts_anchors now) (own ∷ []) (subst (λ (ps : List (CellPart A)). AnchorsGrow (parts_anchors ps) (parts_anchors now) nodes) empty found).each one

-- STATEMENTS

-- one more
pub one_more_stands : {A : Type 0} (old : List (Found A)) (s : Found A) → flat_map statement_anchors (old ++ s ∷ []) ≡ flat_map statement_anchors old ++ statement_anchors s
one_more_stands old s = flat_map-append statement_anchors old (s ∷ []) ∙ ap (λ (ds : List Anchor). flat_map statement_anchors old ++ ds) (append-nil (statement_anchors s))

-- a form of statement, where what it does was made
pub form_stands : {A E : Type 0} (made : Result (Action A) E) (k k' : Command) (old now nodes : List Anchor)
    → k ≡ k' → IfOk made (λ x. AreAmong (action_anchors x) nodes) → AreAmong nodes (command_nodes k')
    → IsOkAnd made (λ x. AnchorsGrow old now (action_anchors x)) → AnchorsGrow old now (command_nodes k)
form_stands (Ok x) k k' old now nodes is does same adds = grows_as (ap command_nodes is) (grows_among adds (among_then does same))
form_stands (Err e) k k' old now nodes is does same adds = absurd adds

-- those of one statement are among those of all
pub statement_at : {X : Type 0} (view : X → Statement) (xs : List X) (i : ℕ) (x : X) → i < length xs → x ≡ get_or xs i x → AreAmong (statement_nodes (view x)) (nodes_among (map view xs))
statement_at view [] i x below is = absurd (omega (arith, below))
statement_at view (y ∷ ys) zero x below is =
    subst (λ z. AreAmong (statement_nodes (view z)) (statement_nodes (view y) ++ nodes_among (map view ys))) (sym is) (among_left (statement_nodes (view y)) (nodes_among (map view ys)))
statement_at view (y ∷ ys) (suc i) x below is = among_then (statement_at view ys i x (omega (arith, below)) is) (among_right (statement_nodes (view y)) (nodes_among (map view ys)))

-- those of a block of statements that were added to none
pub block_stands : {A : Type 0} (before now : List (Found A)) (from : ℕ) (ss : List Statement) (b : Body) → before ≡ [] → StatementsStand before now (nodes_among ss) → b ≡ body from (statements_of ss)
    → AreAmong (flat_map statement_anchors now) (body_nodes b)
block_stands {A} before now from ss b empty found is =
    subst (λ (x : Body). AreAmong (flat_map statement_anchors now) (body_nodes x)) (sym is)
    (subst (λ (xs : List (Found A)). AnchorsGrow (flat_map statement_anchors xs) (flat_map statement_anchors now) (nodes_among ss)) empty found).each

-- SCRIPTS

own_next : (p : Part') (ps : Tree) → own_nodes (p ∷ ps) ≡ own_nodes (p ∷ []) ++ own_nodes ps
own_next (import sp) ps = refl
own_next (function f) ps = refl
own_next (single s) ps = ap (λ (xs : List Anchor). xs ++ own_nodes ps) (sym (append-nil (statement_nodes s)))

function_next : (p : Part') (ps : Tree) → function_nodes (p ∷ ps) ≡ function_nodes (p ∷ []) ++ function_nodes ps
function_next (import sp) ps = refl
function_next (single s) ps = refl
function_next (function f) ps = ap (λ (xs : List Anchor). xs ++ function_nodes ps) (sym (append-nil (body_nodes f.body)))

-- those of one part of a script are among those of all
module _ {X : Type 0} (view : X → Part') (nodes : Tree → List Anchor) (next : (p : Part') (ps : Tree) → nodes (p ∷ ps) ≡ nodes (p ∷ []) ++ nodes ps) where
  part_at : (xs : List X) (i : ℕ) (x : X) → i < length xs → x ≡ get_or xs i x → AreAmong (nodes (view x ∷ [])) (nodes (map view xs))
  part_at [] i x below is = absurd (omega (arith, below))
  part_at (y ∷ ys) zero x below is =
      subst (λ (zs : List Anchor). AreAmong (nodes (view x ∷ [])) zs) (sym (next (view y) (map view ys)))
      (subst (λ z. AreAmong (nodes (view z ∷ [])) (nodes (view y ∷ []) ++ nodes (map view ys))) (sym is) (among_left (nodes (view y ∷ [])) (nodes (map view ys))))
  part_at (y ∷ ys) (suc i) x below is =
      subst (λ (zs : List Anchor). AreAmong (nodes (view x ∷ [])) zs) (sym (next (view y) (map view ys)))
      (among_then (part_at ys i x (omega (arith, below)) is) (among_right (nodes (view y ∷ [])) (nodes (map view ys))))

pub own_at : {X : Type 0} (view : X → Part') (xs : List X) (i : ℕ) (x : X) → i < length xs → x ≡ get_or xs i x → AreAmong (own_nodes (view x ∷ [])) (own_nodes (map view xs))
own_at view = part_at view own_nodes own_next

pub function_at : {X : Type 0} (view : X → Part') (xs : List X) (i : ℕ) (x : X) → i < length xs → x ≡ get_or xs i x → AreAmong (function_nodes (view x ∷ [])) (function_nodes (map view xs))
function_at view = part_at view function_nodes function_next
