-- What holds of each statement that a core is made of holds of all its statements.
use Rattle.std.specs.Prelude.{◌≡◌, ℕ, ℤ, List, [], ◌∷◌, ◌++◌, map, Option, Some, None}
use Rattle.std.proofs.Common.{inl, inr, sym, subst}
use Rattle.language.specs.declared.tree.Shape.{Shape}
use Rattle.language.specs.Tree as T
use Rattle.language.specs.Tree.{Word, Node, Expression, Expressions, expressions_of, RightSide, Over, Statement, statement, Command, choice, choice_else, loop, waits, Body, body, Statements, no_statements, and_statement, Tree, import, function, single}
use Rattle.language.specs.Core.{Name, here, Action, declare, insert, when, choose, wait, Stmt, stmt, Block, stmts}
use Rattle.language.specs.Members.{◌∈◌}
use Rattle.language.specs.Parts.{stmts_among, script_stmts, block_list, blocks_below, blocks_inside, blocks_of, function_blocks, stmt_action}
use Rattle.language.specs.Resolved.{refers, outer, right_of, call_action, several, awaited, loop_action, stmt_of, block_of, block_in, with_statement, with_command, script_block, functions_of, core}
use Rattle.language.specs.Table.{Table, Callee}
use Rattle.language.proofs.Members.{either, split_in, to_left, to_right}
use Rattle.language_laws.proofs.TreeBlocks.{right_no_block, several_no_block, call_no_block, loop_block}

module _ (P : Action → Type 0) where
  abbrev pub All : List Stmt → Type 0
  All xs = (st : Stmt) → st ∈ xs → P (stmt_action st)

  all_none : All []
  all_none st h = elim h [ ]

  all_first : (at m : ℕ) (a : Action) (xs : List Stmt) → P a → All xs → All (stmt at m a ∷ xs)
  all_first at m a xs p h st i = elim (split_in i) [ inl e ↦ subst (λ (s : Stmt). P (stmt_action s)) (sym e) p | inr j ↦ h st j ]

  all_both : (xs ys : List Stmt) → All xs → All ys → All (xs ++ ys)
  all_both xs ys h k st i = elim (either xs ys i) [ inl j ↦ h st j | inr j ↦ k st j ]

  -- what is said of each statement that can be made
  pub record OfEach (t : Table) : Type 0 where
    pub declares : (v : ℕ) → P (declare v)
    pub rights : (x : Name) (sh : Shape) (r : RightSide) → P (right_of t x sh r)
    pub writes : (x : Name) (i e : Expression) → P (insert x (outer t i) (outer t e))
    pub severals : (k : ℕ) (w : Word) (es : Expressions) (xs : List Name) (c : Callee) → P (several t k w es xs c)
    pub calleds : (k : ℕ) (i : ℤ) (w : Word) (es : Expressions) (c : Callee) → P (call_action t i k w es c)
    pub whens : (e : Expression) (d : Block) → P (when (outer t e) d)
    pub chooses : (e : Expression) (d f : Block) → P (choose (outer t e) d f)
    pub loops : (v : Word) (k : Option Word) (o : Over) (b : Block) → P (loop_action t v k o b)
    pub waits : (ws : List Word) (b : Block) → P (wait (map (awaited t) ws) b)

  all_among : (xs ys : List Block) → All (stmts_among xs) → All (stmts_among ys) → All (stmts_among (xs ++ ys))
  all_among [] ys h k st i = k st i
  all_among (b ∷ xs) ys h k st i = elim (either (block_list b) (stmts_among (xs ++ ys)) i) [
    | inl j ↦ h st (to_left (block_list b) (stmts_among xs) j)
    | inr j ↦ all_among xs ys (λ s m. h s (to_right (block_list b) (stmts_among xs) m)) k st j
  ]

  module _ (t : Table) (g : OfEach t) where
    -- it holds in a block and inside it
    record Holds (b : Block) : Type 0 where
      here_all : All (block_list b)
      below_all : All (stmts_among (blocks_below b))

    whole : (b : Block) → Holds b → All (stmts_among (blocks_of b))
    whole b h = all_both (block_list b) (stmts_among (blocks_below b)) h.here_all h.below_all

    none : Holds (block_in t no_statements)
    none = record { here_all = all_none; below_all = all_none }

    in_front : (at m : ℕ) (a : Action) (b : Block) → P a → All (stmts_among (blocks_inside a)) → Holds b → Holds (stmts (stmt at m a) b)
    in_front at m a b p k h = record { here_all = all_first at m a (block_list b) p h.here_all; below_all = all_among (blocks_inside a) (blocks_below b) k h.below_all }

    -- a statement without blocks
    alone : (at m : ℕ) (a : Action) (b : Block) → P a → blocks_inside a ≡ [] → Holds b → Holds (stmts (stmt at m a) b)
    alone at m a b p e h = in_front at m a b p (subst (λ (bs : List Block). All (stmts_among bs)) (sym e) all_none) h

    mutual
      body_holds : (b : Body) → Holds (block_of t b)
      body_holds (body from ss) = statements_hold ss

      statements_hold : (ss : Statements) → Holds (block_in t ss)
      statements_hold no_statements = none
      statements_hold (and_statement s ss) = statement_holds s (block_in t ss) (statements_hold ss)

      statement_holds : (s : Statement) (b : Block) → Holds b → Holds (with_statement t s b)
      statement_holds (statement nd c) b h = command_holds nd c b h

      command_holds : (nd : Node) (c : Command) (b : Block) → Holds b → Holds (with_command t nd c b)
      command_holds nd (T.declare d None) b h = in_front nd.first.from nd.number (declare d.name.number) b (g.declares d.name.number) all_none h
      command_holds nd (T.declare d (Some r)) b h =
          let x = right_of t (here d.name.number) d.shape r in
          in_front nd.first.from nd.number (declare d.name.number) (stmts (stmt_of nd x) b) (g.declares d.name.number) all_none
          (alone nd.first.from nd.number x b (g.rights (here d.name.number) d.shape r) (right_no_block t (here d.name.number) d.shape r) h)
      command_holds nd (T.assign w r) b h =
          let x = right_of t (refers t w) (t.shape_of w.number) r in
          alone nd.first.from nd.number x b (g.rights (refers t w) (t.shape_of w.number) r) (right_no_block t (refers t w) (t.shape_of w.number) r) h
      command_holds nd (T.write w i e) b h = in_front nd.first.from nd.number (insert (refers t w) (outer t i) (outer t e)) b (g.writes (refers t w) i e) all_none h
      command_holds nd (T.assign_all ws c) b h =
          let x = several t c.node.number c.name (expressions_of c.arguments) (map (refers t) ws) (t.callee_of c.name.number) in
          alone nd.first.from nd.number x b (g.severals c.node.number c.name (expressions_of c.arguments) (map (refers t) ws) (t.callee_of c.name.number))
          (several_no_block t c.node.number c.name (expressions_of c.arguments) (map (refers t) ws) (t.callee_of c.name.number)) h
      command_holds nd (T.calls i c) b h =
          let x = call_action t i c.node.number c.name (expressions_of c.arguments) (t.callee_of c.name.number) in
          alone nd.first.from nd.number x b (g.calleds c.node.number i c.name (expressions_of c.arguments) (t.callee_of c.name.number))
          (call_no_block t i c.node.number c.name (expressions_of c.arguments) (t.callee_of c.name.number)) h
      command_holds nd (choice e d) b h = in_front nd.first.from nd.number (when (outer t e) (block_of t d)) b (g.whens e (block_of t d)) (whole (block_of t d) (body_holds d)) h
      command_holds nd (choice_else e d other) b h =
          in_front nd.first.from nd.number (choose (outer t e) (block_of t d) (block_of t other)) b (g.chooses e (block_of t d) (block_of t other))
          (all_among (blocks_of (block_of t d)) (blocks_of (block_of t other)) (whole (block_of t d) (body_holds d)) (whole (block_of t other) (body_holds other))) h
      command_holds nd (loop v k o d) b h =
          in_front nd.first.from nd.number (loop_action t v k o (block_of t d)) b (g.loops v k o (block_of t d))
          (subst (λ (bs : List Block). All (stmts_among bs)) (sym (loop_block t v k o (block_of t d))) (whole (block_of t d) (body_holds d))) h
      command_holds nd (waits ws d) b h = in_front nd.first.from nd.number (wait (map (awaited t) ws) (block_of t d)) b (g.waits ws (block_of t d)) (whole (block_of t d) (body_holds d)) h

    script_holds : (ps : Tree) → Holds (script_block t ps) × All (stmts_among (function_blocks (functions_of t ps)))
    script_holds [] = (none, all_none)
    script_holds (import sp ∷ ps) = script_holds ps
    script_holds (single s ∷ ps) = let r = script_holds ps in (statement_holds s (script_block t ps) r.0, r.1)
    script_holds (function f ∷ ps) = let r = script_holds ps in (r.0, all_among (blocks_of (block_of t f.body)) (function_blocks (functions_of t ps)) (whole (block_of t f.body) (body_holds f.body)) r.1)

    -- what holds of each statement that can be made holds of every statement of the core
    pub holds_of_all : (tree : Tree) → All (script_stmts (core t tree))
    holds_of_all tree =
        let r = script_holds tree in
        all_among (blocks_of (script_block t tree)) (function_blocks (functions_of t tree)) (whole (script_block t tree) r.0) r.1
