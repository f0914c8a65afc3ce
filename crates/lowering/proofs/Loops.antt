-- How statements with blocks inside them are seen.
use Rattle.std.proofs.Common.{rules, ◌≡◌, ℕ, ℤ, [], Option, map, option_map, ap, sym, ◌∙◌, Vec, Box}
use Rattle.syntax_trees.specs.declared.tree.Stmt.{Stmt, out-Stmt}
use Rattle.syntax_trees.specs.declared.tree.Name.{Name as Word'}
use Rattle.syntax_trees.specs.declared.tree.Decl.{Decl}
use Rattle.syntax_trees.specs.declared.tree.Right.{Right}
use Rattle.syntax_trees.specs.declared.tree.Call.{Call as Called}
use Rattle.syntax_trees.specs.declared.tree.StmtKind.{Declare, AssignAll, Call, the_lemmas}
use Rattle.language.specs.Tree as T
use Rattle.language.specs.Tree.{Word, Expression, Over, statement}
use Rattle.language.specs.Table.{Table}
use Rattle.language.specs.Resolved.{outer, loop_action, refers}
use Rattle.syntax_trees.specs.View.{words_view, declaration_of, right_of, calling_of, statement_view, command_view}
use Rattle.language.specs.Core as core
use Rattle.flow.specs.declared.name.Name.{Name}
use Rattle.flow.specs.declared.statement.Variable.{Variable}
use Rattle.flow.specs.declared.statement.Header.{Header}
use Rattle.flow.specs.declared.statement.Range.{Range as Ranged}
use Rattle.flow.specs.declared.statement.Block.{Block}
use Rattle.flow.specs.declared.statement.Action.{Declare as Declares, Each, Range, Wait, the_lemmas as action_lemmas}
use Rattle.flow.specs.View.{action_view, block_view, name_view, outer_view, awaited_view, waits_around}

pub view_stmt : (A : Type 0) → (s : Stmt A)
    → statement_view s ≡ statement (record { number = (out-Stmt A s).number; first = (out-Stmt A s).first; to = (out-Stmt A s).to }) (command_view (out-Stmt A s).kind)
view_stmt A s = search (rules, the_lemmas)

pub view_wait : {A : Type 0} → (ns : Vec Name A) (hs : Vec (Header A) A) (b : Box (Block A) A)
    → action_view (Wait ns hs b) ≡ core.wait (map awaited_view ns.items) (waits_around hs.items (block_view b.value))
view_wait ns hs b = search (rules, action_lemmas)

-- a `wait` with no other one inside of it
pub view_wait_alone : {A : Type 0} → (ns : Vec Name A) (hs : Vec (Header A) A) (b : Box (Block A) A) → hs.items ≡ []
    → action_view (Wait ns hs b) ≡ core.wait (map awaited_view ns.items) (block_view b.value)
view_wait_alone ns hs b empty = view_wait ns hs b ∙ ap (λ is. core.wait (map awaited_view ns.items) (waits_around is (block_view b.value))) empty

pub view_range : {A : Type 0} → (r : Box (Ranged A) A) (v : Variable A) (k : Option (Variable A)) (b : Box (Block A) A)
    → action_view (Range r v k b)
    ≡ core.range (outer_view r.value.low) (outer_view r.value.high) (option_map outer_view r.value.step) v.node (option_map (λ x. x.node) k) (block_view b.value)
view_range r v k b = search (rules, action_lemmas)

pub view_each : {A : Type 0} → (a : Name) (v : Variable A) (k : Option (Variable A)) (b : Box (Block A) A)
    → action_view (Each a v k b) ≡ core.each (name_view a) v.node (option_map (λ x. x.node) k) (block_view b.value)
view_each a v k b = search (rules, action_lemmas)

pub view_declare : {A : Type 0} → (v : Variable A) → action_view (Declares v) ≡ core.declare v.node
view_declare v = search (rules, action_lemmas)

pub view_declaration : {A : Type 0} → (d : Decl A) (r : Option (Right A)) → command_view (Declare d r) ≡ T.declare (declaration_of d) (option_map right_of r)
view_declaration d r = search (rules, the_lemmas)

pub view_assign_all : {A : Type 0} → (v : Vec (Word' A) A) (c : Box (Called A) A) → command_view (AssignAll v c) ≡ T.assign_all (words_view v) (calling_of c.value)
view_assign_all v c = search (rules, the_lemmas)

pub view_calls : {A : Type 0} → (p : ℤ) (c : Box (Called A) A) → command_view (Call p c) ≡ T.calls p (calling_of c.value)
view_calls p c = search (rules, the_lemmas)

same_range : (low low' high high' : core.Outer) (step step' : Option core.Outer) (v v' : ℕ) (k k' : Option ℕ) (b b' : core.Block)
    → low ≡ low' → high ≡ high' → step ≡ step' → v ≡ v' → k ≡ k' → b ≡ b' → core.range low high step v k b ≡ core.range low' high' step' v' k' b'
same_range low low' high high' step step' v v' k k' b b' at_low at_high at_step value key content = cc

-- a loop over a range
pub range_found : {A : Type 0} → (t : Table) (w : Word) (key : Option Word) (o : Over) (low high : Expression) (step : Option Expression) (inside : core.Block)
    (r : Box (Ranged A) A) (v : Variable A) (k : Option (Variable A)) (b : Box (Block A) A)
    → o ≡ T.range low high step → outer_view r.value.low ≡ outer t low → outer_view r.value.high ≡ outer t high → option_map outer_view r.value.step ≡ option_map (outer t) step
    → v.node ≡ w.number → option_map (λ (x : Variable A). x.node) k ≡ option_map (λ (x : Word). x.number) key → block_view b.value ≡ inside
    → action_view (Range r v k b) ≡ loop_action t w key o inside
range_found t w key o low high step inside r v k b is at_low at_high at_step value turn content =
    view_range r v k b
    ∙ same_range (outer_view r.value.low) (outer t low) (outer_view r.value.high) (outer t high) (option_map outer_view r.value.step) (option_map (outer t) step)
    v.node w.number (option_map (λ x. x.node) k) (option_map (λ x. x.number) key) (block_view b.value) inside at_low at_high at_step value turn content
    ∙ ap (λ (p : Over). loop_action t w key p inside) (sym is)

same_each : (a a' : core.Name) (v v' : ℕ) (k k' : Option ℕ) (b b' : core.Block) → a ≡ a' → v ≡ v' → k ≡ k' → b ≡ b' → core.each a v k b ≡ core.each a' v' k' b'
same_each a a' v v' k k' b b' array value key content = cc

-- a loop over an array
pub each_found : {A : Type 0} → (t : Table) (w : Word) (key : Option Word) (o : Over) (x : Word) (inside : core.Block) (a : Name) (v : Variable A) (k : Option (Variable A)) (b : Box (Block A) A)
    → o ≡ T.array x → name_view a ≡ refers t x → v.node ≡ w.number → option_map (λ (y : Variable A). y.node) k ≡ option_map (λ (y : Word). y.number) key → block_view b.value ≡ inside
    → action_view (Each a v k b) ≡ loop_action t w key o inside
each_found t w key o x inside a v k b is array value turn content =
    view_each a v k b
    ∙ same_each (name_view a) (refers t x) v.node w.number (option_map (λ y. y.node) k) (option_map (λ y. y.number) key) (block_view b.value) inside array value turn content
    ∙ ap (λ (p : Over). loop_action t w key p inside) (sym is)
