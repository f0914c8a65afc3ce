-- Each statement of a typed script has its cells in order, in a scope of variables alone.
use Rattle.std.proofs.Common.{◌≡◌, ◌⊎◌, inl, inr, ℕ, suc, List, [], ◌∷◌, ◌++◌, refl, sym, ap, ◌∙◌, subst, Option, Some, None}
use Rattle.language.specs.declared.tree.Base.{Base}
use Rattle.language.specs.declared.tree.Shape.{Shape}
use Rattle.language.specs.Tree as T
use Rattle.language.specs.Tree.{Word, Node, Declaration, Statement, statement, choice, choice_else, loop, waits, Body, body, Statements, no_statements, and_statement, Over, Composite, Tree, import, function, single, expressions_of}
use Rattle.language.specs.Core.{Owned, local, input, output, Name, Stmt, stmt, Action, declare, insert, when, choose, wait, Block, no_stmts, stmts, Function, Core, here}
use Rattle.language.specs.Members.{◌∈◌, first, later}
use Rattle.language.specs.Parts.{block_list, blocks_below, blocks_in, blocks_inside, blocks_of, function_blocks, script_blocks, script_stmts, stmt_action}
use Rattle.language.specs.Resolved.{refers, outer, awaited, right_of, call_action, several, loop_action, stmt_of, block_of, block_in, with_statement, script_block, functions_of, core}
use Rattle.language.specs.Scopes.{Visible, Scope, deeper, own, one_of, Signature, declared_type, signatures}
use Rattle.language.specs.Table.{Table}
use Rattle.language.specs.Typing as rules
use Rattle.language.specs.Typing.{LoopScope, StatementTyped, StatementsTyped, BodyTyped, Parameters, FunctionTyped, PartsTyped, WellTyped}
use Rattle.language.proofs.Blocks.{among}
use Rattle.language.proofs.Members.{split_in, either, to_left, to_right}
use Rattle.language.proofs.Tested.{among_split, declared_of, roles_of}
use Rattle.language_laws.proofs.Declared.{local_same}
use Rattle.language_laws.proofs.TreeBlocks.{right_no_block, several_no_block, call_no_block, loop_block}
use Rattle.code_laws.proofs.Lookup.{deeper_of}
use Rattle.code_laws.proofs.Settling.{first_role, second_role}
use Rattle.code_laws.proofs.Scoping.{before}
use Rattle.code_laws.proofs.Ordered.{Ordered, Fine, right_fine, write_fine, several_fine, called_fine, when_fine, choose_fine, loop_fine}

module _ (s : Core) where
  -- the node is that of a variable that a statement declares, or of a loop
  pub record IsVariable (n : ℕ) : Type 0 where
    pub at : ℕ
    pub node : ℕ
    pub action : Action
    pub there : stmt at node action ∈ script_stmts s
    pub of : (n ∈ declared_of action) ⊎ (n ∈ roles_of action)

  abbrev pub Known : Scope → Type 0
  Known g = (v : Visible) → v ∈ g → (n : ℕ) → v.refers_to.what ≡ local n → IsVariable n

  pub record Good (st : Stmt) : Type 0 where
    pub scope : Scope
    pub known : Known scope
    pub ordered : Ordered scope [] (before (stmt_action st))

  -- BLOCKS

  abbrev InScript : Block → Type 0
  InScript b = (c : Block) → c ∈ blocks_of b → (st : Stmt) → st ∈ block_list c → st ∈ script_stmts s

  abbrev GoodIn : Block → Type 0
  GoodIn b = (c : Block) → c ∈ blocks_of b → (st : Stmt) → st ∈ block_list c → Good st

  abbrev GoodInside : Action → Type 0
  GoodInside a = (c : Block) → c ∈ blocks_inside a → (st : Stmt) → st ∈ block_list c → Good st

  rest_script : (u : Stmt) (b : Block) → InScript (stmts u b) → InScript b
  rest_script u b f c m st i = elim (split_in m) [
    | inl e ↦ f (stmts u b) first st (later (subst (λ (z : Block). st ∈ block_list z) e i))
    | inr j ↦ f c (later (to_right (blocks_in u) (blocks_below b) j)) st i
  ]

  inner_script : (at n : ℕ) (a : Action) (b d : Block) → ((c : Block) → c ∈ blocks_of d → c ∈ blocks_inside a) → InScript (stmts (stmt at n a) b) → InScript d
  inner_script at n a b d g f c m st i = f c (later (to_left (blocks_inside a) (blocks_below b) (g c m))) st i

  head_script : (u : Stmt) (b : Block) → InScript (stmts u b) → u ∈ script_stmts s
  head_script u b f = f (stmts u b) first u first

  front : (at n : ℕ) (a : Action) (b : Block) → Good (stmt at n a) → GoodInside a → GoodIn b → GoodIn (stmts (stmt at n a) b)
  front at n a b g f h c m st i = elim (split_in m) [
    | inl e ↦ elim (split_in (subst (λ (z : Block). st ∈ block_list z) e i)) [ inl q ↦ subst Good (sym q) g | inr j ↦ h b first st j ]
    | inr j ↦ elim (either (blocks_inside a) (blocks_below b) j) [ inl k ↦ f c k st i | inr k ↦ h c (later k) st i ]
  ]

  no_inside : (a : Action) → blocks_inside a ≡ [] → GoodInside a
  no_inside a e c m st i = elim (subst (λ (bs : List Block). c ∈ bs) e m) [ ]

  -- SCOPES

  known_deeper : (g : Scope) → Known g → Known (deeper g)
  known_deeper g k v m n e = (let u = deeper_of g v m in k u.variable u.there n (ap (λ (x : Name). x.what) (sym u.is) ∙ e))

  known_more : (w : Visible) (g : Scope) → ((n : ℕ) → w.refers_to.what ≡ local n → IsVariable n) → Known g → Known (w ∷ g)
  known_more w g f k v m n e = elim (split_in m) [
    | inl q ↦ f n (ap (λ (z : Visible). z.refers_to.what) (sym q) ∙ e)
    | inr i ↦ k v i n e
  ]

  named : (n m : ℕ) → local n ≡ local m → IsVariable n → IsVariable m
  named n m e x = subst IsVariable (local_same e) x

  known_loop : {γ : Base} (at n : ℕ) (t : Table) (v : Word) (u : Option Word) (o : Over) (d : Block) (g h : Scope) (b : Base) → stmt at n (loop_action t v u o d) ∈ script_stmts s → LoopScope g v b u γ h → Known g → Known h
  known_loop at n t v None o d g h b i (rules.value_only (rules.fresh free)) k =
      known_more (own v (one_of b)) (deeper g) (λ m e. named v.number m e (record { at = at; node = n; action = loop_action t v None o d; there = i; of = inr (first_role t v None o d) })) (known_deeper g k)
  known_loop {γ} at n t v (Some u) o d g h b i (rules.with_key (rules.fresh free) (rules.fresh other)) k =
      known_more (own u (one_of γ)) (own v (one_of b) ∷ deeper g) (λ m e. named u.number m e (record { at = at; node = n; action = loop_action t v (Some u) o d; there = i; of = inr (second_role t v u o d) }))
      (known_more (own v (one_of b)) (deeper g) (λ m e. named v.number m e (record { at = at; node = n; action = loop_action t v (Some u) o d; there = i; of = inr (first_role t v (Some u) o d) })) (known_deeper g k))

  -- STATEMENTS

  module _ (fs : List Signature) (t : Table) where
    -- one statement more, before a block
    next : (nd : Node) (a : Action) (b : Block) (g : Scope) → Known g → Fine fs t g a → GoodInside a → InScript (stmts (stmt_of nd a) b) → (InScript b → GoodIn b) → GoodIn (stmts (stmt_of nd a) b)
    next nd a b g k fine inside f rec = front nd.first.from nd.number a b (record { scope = g; known = k; ordered = fine }) inside (rec (rest_script (stmt_of nd a) b f))

    known_declared : (at n : ℕ) (d : Declaration) (g : Scope) → stmt at n (declare d.name.number) ∈ script_stmts s → Known g → Known (own d.name (declared_type d) ∷ g)
    known_declared at n d g i k = known_more (own d.name (declared_type d)) g (λ m e. named d.name.number m e (record { at = at; node = n; action = declare d.name.number; there = i; of = inl first })) k

    inner_of : (nd : Node) (a : Action) (b d : Block) → ((c : Block) → c ∈ blocks_of d → c ∈ blocks_inside a) → InScript (stmts (stmt_of nd a) b) → InScript d
    inner_of nd a b d h f = inner_script nd.first.from nd.number a b d h f

    no_good : GoodIn no_stmts
    no_good c m st i = elim (split_in m) [ inl e ↦ elim (subst (λ (z : Block). st ∈ block_list z) e i) [ ] | inr j ↦ elim j [ ] ]

    two_good : (b d : Block) → GoodIn b → GoodIn d → (c : Block) → c ∈ (blocks_of b ++ blocks_of d) → (st : Stmt) → st ∈ block_list c → Good st
    two_good b d h k c m st i = elim (either (blocks_of b) (blocks_of d) m) [ inl j ↦ h c j st i | inr j ↦ k c j st i ]

    mutual
      body_good : (b : Body) (g : Scope) → Known g → BodyTyped fs t g b → InScript (block_of t b) → GoodIn (block_of t b)
      body_good (body from ss) g k (rules.in_braces h) f = statements_good ss g k h f

      statements_good : (ss : Statements) (g : Scope) → Known g → StatementsTyped fs t g ss → InScript (block_in t ss) → GoodIn (block_in t ss)
      statements_good no_statements g k rules.no_more_statements f = no_good
      statements_good (and_statement u ss) g k (rules.next_statement {h = h} one rest) f = statement_good u g h (block_in t ss) k one f (λ k' f'. statements_good ss h k' rest f')

      statement_good : (u : Statement) (g h : Scope) (b : Block) → Known g → StatementTyped fs t g u h → InScript (with_statement t u b) → (Known h → InScript b → GoodIn b) → GoodIn (with_statement t u b)
      statement_good (statement nd (T.declare d None)) g h b k (rules.declaration (rules.fresh free)) f rec =
          next nd (declare d.name.number) b g k tt (no_inside (declare d.name.number) refl) f (rec (known_declared nd.first.from nd.number d g (head_script (stmt_of nd (declare d.name.number)) b f) k))
      statement_good (statement nd (T.declare d (Some r))) g h b k (rules.definition (rules.fresh free) typed) f rec =
          let x = right_of t (here d.name.number) d.shape r in
          let g' = own d.name (declared_type d) ∷ g in
          let k' = known_declared nd.first.from nd.number d g (head_script (stmt_of nd (declare d.name.number)) (stmts (stmt_of nd x) b) f) k in
          next nd (declare d.name.number) (stmts (stmt_of nd x) b) g k tt (no_inside (declare d.name.number) refl) f
          (λ f'. next nd x b g' k' (right_fine fs t g' (here d.name.number) typed) (no_inside x (right_no_block t (here d.name.number) d.shape r)) f' (rec k'))
      statement_good (statement nd (T.assign w r)) g h b k (rules.assignment {τ = τ} refers typed) f rec =
          let x = right_of t (t.name_of w.number) (t.shape_of w.number) r in
          next nd x b g k (subst (λ (sh : Shape). Fine fs t g (right_of t (t.name_of w.number) sh r)) (sym refers.shaped) (right_fine fs t g (t.name_of w.number) typed)) (no_inside x (right_no_block t (t.name_of w.number) (t.shape_of w.number) r)) f (rec k)
      statement_good (statement nd (T.write w i e)) g h b k (rules.element_write refers index right) f rec =
          let x = insert (t.name_of w.number) (outer t i) (outer t e) in
          next nd x b g k (write_fine fs t g (t.name_of w.number) index right) (no_inside x refl) f (rec k)
      statement_good (statement nd (T.assign_all ws c)) g h b k typed f rec =
          let q = several_fine fs t g nd ws c h typed in
          let x = several t c.node.number c.name (expressions_of c.arguments) (Rattle.std.specs.Prelude.map (refers t) ws) (t.callee_of c.name.number) in
          next nd x b g k q.0 (no_inside x (several_no_block t c.node.number c.name (expressions_of c.arguments) (Rattle.std.specs.Prelude.map (refers t) ws) (t.callee_of c.name.number))) f (rec (subst Known q.1 k))
      statement_good (statement nd (T.calls p c)) g h b k (rules.call_statement typed) f rec =
          let x = call_action t p c.node.number c.name (expressions_of c.arguments) (t.callee_of c.name.number) in
          next nd x b g k (called_fine fs t g p c.node.number typed) (no_inside x (call_no_block t p c.node.number c.name (expressions_of c.arguments) (t.callee_of c.name.number))) f (rec k)
      statement_good (statement nd (choice e d)) g h b k (rules.if_statement condition typed) f rec =
          let x = when (outer t e) (block_of t d) in
          next nd x b g k (when_fine fs t g (block_of t d) condition) (body_good d (deeper g) (known_deeper g k) typed (inner_of nd x b (block_of t d) (λ c m. m) f)) f (rec k)
      statement_good (statement nd (choice_else e d o)) g h b k (rules.if_else_statement condition typed other) f rec =
          let x = choose (outer t e) (block_of t d) (block_of t o) in
          next nd x b g k (choose_fine fs t g (block_of t d) (block_of t o) condition)
          (two_good (block_of t d) (block_of t o) (body_good d (deeper g) (known_deeper g k) typed (inner_of nd x b (block_of t d) (λ c m. to_left (blocks_of (block_of t d)) (blocks_of (block_of t o)) m) f))
          (body_good o (deeper g) (known_deeper g k) other (inner_of nd x b (block_of t o) (λ c m. to_right (blocks_of (block_of t d)) (blocks_of (block_of t o)) m) f))) f (rec k)
      statement_good (statement nd (loop v u o d)) g h b k (rules.loop_statement {h = inner} {β = β} source scope typed) f rec =
          let x = loop_action t v u o (block_of t d) in
          let e = loop_block t v u o (block_of t d) in
          next nd x b g k (loop_fine fs t g v u o (block_of t d) source)
          (λ c m. body_good d inner (known_loop nd.first.from nd.number t v u o (block_of t d) g inner β (head_script (stmt_of nd x) b f) scope k) typed
          (inner_of nd x b (block_of t d) (λ c' m'. subst (λ (bs : List Block). c' ∈ bs) (sym e) m') f) c (subst (λ (bs : List Block). c ∈ bs) e m)) f (rec k)
      statement_good (statement nd (waits ws d)) g h b k (rules.wait_statement names typed) f rec =
          let x = wait (Rattle.std.specs.Prelude.map (awaited t) ws) (block_of t d) in
          next nd x b g k tt (body_good d g k typed (inner_of nd x b (block_of t d) (λ c m. m) f)) f (rec k)

    -- PARTS

    script_good : (ps : Tree) (names : List (List ℕ)) (g : Scope) → Known g → PartsTyped fs t names g ps → InScript (script_block t ps) → GoodIn (script_block t ps)
    script_good [] names g k h f = no_good
    script_good (import sp ∷ ps) names g k (rules.an_import h) f = script_good ps names g k h f
    script_good (function c ∷ ps) names g k (rules.a_function one h) f = script_good ps (c.name.text ∷ names) g k h f
    script_good (single u ∷ ps) names g k (rules.a_statement {h = h} one rest) f = statement_good u g h (script_block t ps) k one f (λ k' f'. script_good ps names h k' rest f')

    known_parameters : (owned : ℕ → Owned) {g h : Scope} (i : ℕ) (ds : List Declaration) → ((j n : ℕ) → owned j ≡ local n → IsVariable n) → Parameters owned g i ds h → Known g → Known h
    known_parameters owned i [] f rules.no_more k = k
    known_parameters owned {g} i (d ∷ ds) f (rules.one_parameter free p) k = known_parameters owned (suc i) ds f p (known_more _ g (λ n e. f i n e) k)

    no_known : Known []
    no_known v m n e = elim m [ ]

    function_good : (c : Composite) (names : List (List ℕ)) → FunctionTyped fs t names c → InScript (block_of t c.body) → GoodIn (block_of t c.body)
    function_good c names (rules.function_typed {h = h} free other outs ins typed) f =
        body_good c.body h (known_parameters input 0 c.inputs (λ j n e. absurd (cc (e))) ins (known_parameters output 0 c.outputs (λ j n e. absurd (cc (e))) outs no_known)) typed f

    functions_good : (ps : Tree) (names : List (List ℕ)) (g : Scope) → PartsTyped fs t names g ps → ((c : Function) → c ∈ functions_of t ps → InScript c.body) → (c : Function) → c ∈ functions_of t ps → GoodIn c.body
    functions_good [] names g h f c m = elim m [ ]
    functions_good (import sp ∷ ps) names g (rules.an_import h) f c m = functions_good ps names g h f c m
    functions_good (function d ∷ ps) names g (rules.a_function one h) f c m = elim (split_in m) [
      | inl e ↦ subst (λ (z : Function). GoodIn z.body) (sym e) (function_good d names one (f _ first))
      | inr i ↦ functions_good ps (d.name.text ∷ names) g h (λ z j. f z (later j)) c i
    ]
    functions_good (single u ∷ ps) names g (rules.a_statement {h = h} one rest) f c m = functions_good ps names h rest f c m

function_block : (fs : List Function) {b : Block} → b ∈ function_blocks fs → (f : Function) × (f ∈ fs) × (b ∈ blocks_of f.body)
function_block [] m = elim m [ ]
function_block (f ∷ fs) m = elim (either (blocks_of f.body) (function_blocks fs) m) [ inl i ↦ (f, first, i) | inr i ↦ (let r = function_block fs i in (r.0, later r.1, r.2)) ]

block_of_function : (fs : List Function) {f : Function} {b : Block} → f ∈ fs → b ∈ blocks_of f.body → b ∈ function_blocks fs
block_of_function [] m i = elim m [ ]
block_of_function (g ∷ fs) {b = b} m i = elim (split_in m) [
  | inl e ↦ to_left (blocks_of g.body) (function_blocks fs) (subst (λ (z : Function). b ∈ blocks_of z.body) e i)
  | inr j ↦ to_right (blocks_of g.body) (function_blocks fs) (block_of_function fs j i)
]

-- EACH STATEMENT OF A SCRIPT
pub all_good : (t : Table) (tree : Tree) → WellTyped tree t → (st : Stmt) → st ∈ script_stmts (core t tree) → Good (core t tree) st
all_good t tree typed st m = (let r = among_split (script_blocks s) m in by r.0 r.1 r.2)
  where
    s : Core
    s = core t tree

    by : (b : Block) → b ∈ script_blocks s → st ∈ block_list b → Good s st
    by b i j = elim (either (blocks_of s.body) (function_blocks s.functions) i) [
      | inl k ↦ script_good s (signatures tree) t tree [] [] (no_known s (signatures tree) t) typed (λ c h u v. among (script_blocks s) (to_left (blocks_of s.body) (function_blocks s.functions) h) v) b k st j
      | inr k ↦ (let r = function_block s.functions k in
          functions_good s (signatures tree) t tree [] [] typed (λ c h d x u v. among (script_blocks s) (to_right (blocks_of s.body) (function_blocks s.functions) (block_of_function s.functions h x)) v) r.0 r.1 b r.2 st j)
    ]
