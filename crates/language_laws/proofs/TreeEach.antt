-- What holds of each statement that a core is made of holds of all its statements: calls in expressions have one output, and whole arrays go to arrays.
use Rattle.std.specs.Prelude.{◌≡◌, ℕ, ℤ, Bool, true, false, ◌&&◌, List, [], ◌∷◌, ◌++◌, map, Option, Some, None, refl}
use Rattle.std.proofs.Common.{sym, subst}
use Rattle.std.proofs.lemmas.Bool.{and_parts}
use Rattle.language.specs.declared.tree.Shape.{Shape}
use Rattle.language.specs.Tree as T
use Rattle.language.specs.Tree.{Word, Node, Declaration, Expression, expression, number, text, truth, variable, element, call, prefixed, chain, Expressions, no_expressions, and_expression, expressions_of, RightSide, value, list, Calling, Over, Statement, statement, Command, choice, choice_else, loop, waits, Body, body, Statements, no_statements, and_statement, Composite, Tree, import, function, single}
use Rattle.language.specs.Core.{Name, here, Action, declare, insert, when, choose, wait, Stmt, stmt, Block, stmts}
use Rattle.language.specs.Parts.{stmts_among, script_stmts, block_list, blocks_below, blocks_inside, blocks_of, function_blocks}
use Rattle.language.specs.Resolved.{refers, outer, right_of, call_action, several, awaited, loop_action, stmt_of, block_of, block_in, with_statement, with_command, script_block, functions_of, core}
use Rattle.language.specs.Table.{Table, Callee}
use Rattle.language.proofs.Tested.{every}
use Rattle.language_laws.proofs.TreeBlocks.{right_no_block, several_no_block, call_no_block, loop_block}

pub every-append : {X : Type 0} (p : X → Bool) (xs ys : List X) → every p xs ≡ true → every p ys ≡ true → every p (xs ++ ys) ≡ true
every-append p [] ys h k = k
every-append p (x ∷ xs) ys h k = let r = and_parts (p x) (every p xs) h in both_are (p x) (every p (xs ++ ys)) r.0 (every-append p xs ys r.1 k)
  where
    both_are : (a b : Bool) → a ≡ true → b ≡ true → (a && b) ≡ true
    both_are true b h k = k
    both_are false b h k = absurd (cc (h))

every_cons : {X : Type 0} (p : X → Bool) (x : X) (xs : List X) → p x ≡ true → every p xs ≡ true → every p (x ∷ xs) ≡ true
every_cons p x xs h k = every-append p (x ∷ []) xs (every_one (p x) h) k
  where
    every_one : (a : Bool) → a ≡ true → (a && true) ≡ true
    every_one true h = refl
    every_one false h = absurd (cc (h))

every_among : (p : Stmt → Bool) (xs ys : List Block) → every p (stmts_among xs) ≡ true → every p (stmts_among ys) ≡ true → every p (stmts_among (xs ++ ys)) ≡ true
every_among p [] ys h k = k
every_among p (b ∷ xs) ys h k =
    let r = every_left p (block_list b) (stmts_among xs) h in
    every-append p (block_list b) (stmts_among (xs ++ ys)) r.0 (every_among p xs ys r.1 k)
  where
    every_left : (p : Stmt → Bool) (xs ys : List Stmt) → every p (xs ++ ys) ≡ true → (every p xs ≡ true) × (every p ys ≡ true)
    every_left p [] ys h = (refl, h)
    every_left p (x ∷ xs) ys h = let r = and_parts (p x) (every p (xs ++ ys)) h in let q = every_left p xs ys r.1 in (every_cons p x xs r.0 q.0, q.1)

-- what a test says of each statement that can be made
pub record OfEach (p : Stmt → Bool) (t : Table) : Type 0 where
  pub declares : (at m v : ℕ) → p (stmt at m (declare v)) ≡ true
  pub rights : (at m : ℕ) (x : Name) (sh : Shape) (r : RightSide) → p (stmt at m (right_of t x sh r)) ≡ true
  pub writes : (at m : ℕ) (x : Name) (i e : Expression) → p (stmt at m (insert x (outer t i) (outer t e))) ≡ true
  pub severals : (at m k : ℕ) (w : Word) (es : Expressions) (xs : List Name) (c : Callee) → p (stmt at m (several t k w es xs c)) ≡ true
  pub calleds : (at m k : ℕ) (i : ℤ) (w : Word) (es : Expressions) (c : Callee) → p (stmt at m (call_action t i k w es c)) ≡ true
  pub whens : (at m : ℕ) (e : Expression) (d : Block) → p (stmt at m (when (outer t e) d)) ≡ true
  pub chooses : (at m : ℕ) (e : Expression) (d f : Block) → p (stmt at m (choose (outer t e) d f)) ≡ true
  pub loops : (at m : ℕ) (v : Word) (k : Option Word) (o : Over) (b : Block) → p (stmt at m (loop_action t v k o b)) ≡ true
  pub waits : (at m : ℕ) (ws : List Word) (b : Block) → p (stmt at m (wait (map (awaited t) ws) b)) ≡ true

module _ (p : Stmt → Bool) (t : Table) (g : OfEach p t) where
  -- it holds in a block and inside it
  record Holds (b : Block) : Type 0 where
    here_all : every p (block_list b) ≡ true
    below_all : every p (stmts_among (blocks_below b)) ≡ true

  whole : (b : Block) → Holds b → every p (stmts_among (b ∷ blocks_below b)) ≡ true
  whole b h = every-append p (block_list b) (stmts_among (blocks_below b)) h.here_all h.below_all

  in_front : (at m : ℕ) (a : Action) (b : Block) → p (stmt at m a) ≡ true → every p (stmts_among (blocks_inside a)) ≡ true → Holds b → Holds (stmts (stmt at m a) b)
  in_front at m a b h k r = record { here_all = every_cons p (stmt at m a) (block_list b) h r.here_all; below_all = every_among p (blocks_inside a) (blocks_below b) k r.below_all }

  none_in : (a : Action) → blocks_inside a ≡ [] → every p (stmts_among (blocks_inside a)) ≡ true
  none_in a e = subst (λ (bs : List Block). every p (stmts_among bs) ≡ true) (sym e) refl

  mutual
    body_holds : (b : Body) → Holds (block_of t b)
    body_holds (body from ss) = statements_hold ss

    statements_hold : (ss : Statements) → Holds (block_in t ss)
    statements_hold no_statements = record { here_all = refl; below_all = refl }
    statements_hold (and_statement s ss) = statement_holds s (block_in t ss) (statements_hold ss)

    statement_holds : (s : Statement) (b : Block) → Holds b → Holds (with_statement t s b)
    statement_holds (statement nd c) b h = command_holds nd c b h

    command_holds : (nd : Node) (c : Command) (b : Block) → Holds b → Holds (with_command t nd c b)
    command_holds nd (T.declare d None) b h = in_front nd.first.from nd.number (declare d.name.number) b (g.declares nd.first.from nd.number d.name.number) refl h
    command_holds nd (T.declare d (Some r)) b h =
        let x = right_of t (here d.name.number) d.shape r in
        in_front nd.first.from nd.number (declare d.name.number) (stmts (stmt_of nd x) b) (g.declares nd.first.from nd.number d.name.number) refl
        (in_front nd.first.from nd.number x b (g.rights nd.first.from nd.number (here d.name.number) d.shape r) (none_in x (right_no_block t (here d.name.number) d.shape r)) h)
    command_holds nd (T.assign w r) b h =
        let x = right_of t (refers t w) (t.shape_of w.number) r in
        in_front nd.first.from nd.number x b (g.rights nd.first.from nd.number (refers t w) (t.shape_of w.number) r) (none_in x (right_no_block t (refers t w) (t.shape_of w.number) r)) h
    command_holds nd (T.write w i e) b h = in_front nd.first.from nd.number (insert (refers t w) (outer t i) (outer t e)) b (g.writes nd.first.from nd.number (refers t w) i e) refl h
    command_holds nd (T.assign_all ws c) b h =
        let x = several t c.node.number c.name (expressions_of c.arguments) (map (refers t) ws) (t.callee_of c.name.number) in
        in_front nd.first.from nd.number x b (g.severals nd.first.from nd.number c.node.number c.name (expressions_of c.arguments) (map (refers t) ws) (t.callee_of c.name.number))
        (none_in x (several_no_block t c.node.number c.name (expressions_of c.arguments) (map (refers t) ws) (t.callee_of c.name.number))) h
    command_holds nd (T.calls i c) b h =
        let x = call_action t i c.node.number c.name (expressions_of c.arguments) (t.callee_of c.name.number) in
        in_front nd.first.from nd.number x b (g.calleds nd.first.from nd.number c.node.number i c.name (expressions_of c.arguments) (t.callee_of c.name.number))
        (none_in x (call_no_block t i c.node.number c.name (expressions_of c.arguments) (t.callee_of c.name.number))) h
    command_holds nd (choice e d) b h =
        in_front nd.first.from nd.number (when (outer t e) (block_of t d)) b (g.whens nd.first.from nd.number e (block_of t d)) (whole (block_of t d) (body_holds d)) h
    command_holds nd (choice_else e d other) b h =
        in_front nd.first.from nd.number (choose (outer t e) (block_of t d) (block_of t other)) b (g.chooses nd.first.from nd.number e (block_of t d) (block_of t other))
        (every_among p (block_of t d ∷ blocks_below (block_of t d)) (block_of t other ∷ blocks_below (block_of t other)) (whole (block_of t d) (body_holds d)) (whole (block_of t other) (body_holds other))) h
    command_holds nd (loop v k o d) b h =
        in_front nd.first.from nd.number (loop_action t v k o (block_of t d)) b (g.loops nd.first.from nd.number v k o (block_of t d))
        (subst (λ (bs : List Block). every p (stmts_among bs) ≡ true) (sym (loop_block t v k o (block_of t d))) (whole (block_of t d) (body_holds d))) h
    command_holds nd (waits ws d) b h =
        in_front nd.first.from nd.number (wait (map (awaited t) ws) (block_of t d)) b (g.waits nd.first.from nd.number ws (block_of t d)) (whole (block_of t d) (body_holds d)) h

  script_holds : (ps : Tree) → Holds (script_block t ps) × (every p (stmts_among (function_blocks (functions_of t ps))) ≡ true)
  script_holds [] = (record { here_all = refl; below_all = refl }, refl)
  script_holds (import sp ∷ ps) = script_holds ps
  script_holds (single s ∷ ps) = let r = script_holds ps in (statement_holds s (script_block t ps) r.0, r.1)
  script_holds (function f ∷ ps) =
      let r = script_holds ps in
      (r.0, every_among p (block_of t f.body ∷ blocks_below (block_of t f.body)) (function_blocks (functions_of t ps)) (whole (block_of t f.body) (body_holds f.body)) r.1)

  -- what holds of each statement that can be made holds of every statement of the core
  pub holds_of_all : (tree : Tree) → every p (script_stmts (core t tree)) ≡ true
  holds_of_all tree =
      let r = script_holds tree in
      every_among p (blocks_of (script_block t tree)) (function_blocks (functions_of t tree)) (whole (script_block t tree) r.0) r.1
