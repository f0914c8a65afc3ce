-- How the statements and blocks of a flow are seen, and what they declare.
use Rattle.std.proofs.Common.{rules, ◌≡◌, ◌&&◌, ℕ, Bool, true, false, not, List, [], ◌∷◌, map, refl, sym, ap, subst, ◌∙◌}
use Rattle.language.specs.Core as core
use Rattle.flow.specs.declared.statement.Variable.{Variable}
use Rattle.flow.specs.declared.statement.Action.{Action, Action-F, Declare, out-Action, roll-Action, the_lemmas}
use Rattle.flow.specs.declared.statement.Action.TheOpen as Does
use Rattle.flow.specs.declared.statement.Block.{Block, out-Block}
use Rattle.flow.specs.declared.statement.Statement.{Statement, out-Statement}
use Rattle.flow.specs.View.{action_view, block_of, block_view, statement_view}
use Rattle.flow.specs.Shapes.{action_declared, is_array}
use Rattle.code_rules.specs.Laying.{is_one_wait, is_wait, is_wait_alone}
use Rattle.wait_merge.specs.Merged.{Seen, action_seen, alone, block_seen, statement_seen}
use Rattle.wait_merge.proofs.Actions.{seen_statement, view_statement}
use Rattle.wait_merge.proofs.Blocks.{seen_alone}
use Rattle.std.proofs.lemmas.Bool.{not-true, and_parts}

-- what a statement does, as it is seen, and what it declares
module _ {A : Type 0} where
  pub record SeenAs (a : Action A) (b : core.Action) (ds : List (ℕ × Bool)) : Type 0 where
    pub view : action_view a ≡ b
    pub tells : action_declared a ≡ ds

  pub see_declare : (v : Variable A) → SeenAs (Declare v) (core.declare v.node) ((v.node, is_array v.shape) ∷ [])
  see_declare v = record { view = search (rules, the_lemmas); tells = search (rules, the_lemmas) }

-- WAITS

rolled : (A : Type 0) (a : Action A) → a ≡ roll-Action A (out-Action A a)
rolled A a = search (rules, the_lemmas)

by_form : (A : Type 0) (d : Action-F A (Action A) (Block A) (Statement A)) → is_wait (action_view (roll-Action A d)) ≡ (action_seen (roll-Action A d)).wait
by_form A (Does.Declare v) = search (rules, the_lemmas)
by_form A (Does.Call p ps c) = search (rules, the_lemmas)
by_form A (Does.Assign x e) = search (rules, the_lemmas)
by_form A (Does.Fill a e) = search (rules, the_lemmas)
by_form A (Does.Insert a i e) = search (rules, the_lemmas)
by_form A (Does.Print p e) = search (rules, the_lemmas)
by_form A (Does.Assert p e) = search (rules, the_lemmas)
by_form A (Does.When e b) = search (rules, the_lemmas)
by_form A (Does.Choose e b d) = search (rules, the_lemmas)
by_form A (Does.Range r v k b) = search (rules, the_lemmas)
by_form A (Does.Each a v k b) = search (rules, the_lemmas)
by_form A (Does.Wait ns hs b) = search (rules, the_lemmas)

wait_seen : (A : Type 0) (a : Action A) → is_wait (action_view a) ≡ (action_seen a).wait
wait_seen A a = subst (λ (x : Action A). is_wait (action_view x) ≡ (action_seen x).wait) (sym (rolled A a)) (by_form A (out-Action A a))

not_alone : (x y : core.Stmt) (b : core.Block) → is_wait_alone x (core.stmts y b) ≡ false
not_alone (core.stmt at n a) y b = refl

alone_seen : (A : Type 0) (ss : List (Statement A)) → is_one_wait (block_of (map statement_view ss)) ≡ alone (map statement_seen ss)
alone_seen A [] = refl
alone_seen A (s ∷ []) =
    ap (λ (x : core.Stmt). is_wait_alone x core.no_stmts) (view_statement A s) ∙ wait_seen A (out-Statement A s).action ∙ sym (ap (λ (x : Seen). x.wait) (seen_statement A s))
alone_seen A (s ∷ t ∷ ss) = not_alone (statement_view s) (statement_view t) (block_of (map statement_view ss))

view_block : (A : Type 0) (b : Block A) → block_view b ≡ block_of (map statement_view (out-Block A b).statements.items)
view_block A b = search (rules, the_lemmas)

one_wait_seen : (A : Type 0) (b : Block A) → is_one_wait (block_view b) ≡ (block_seen b).wait
one_wait_seen A b = ap is_one_wait (view_block A b) ∙ alone_seen A (out-Block A b).statements.items ∙ sym (seen_alone A b)

-- the content of a `wait` that is merged is not one `wait` more
pub lone_and : {A : Type 0} → (b : Block A) → (not (block_seen b).wait && (block_seen b).merged) ≡ true → (is_one_wait (block_view b) ≡ false) × ((block_seen b).merged ≡ true)
lone_and {A} b h =
    let both = and_parts (not (block_seen b).wait) (block_seen b).merged h in
    (one_wait_seen A b ∙ not-true (block_seen b).wait both.0, both.1)
