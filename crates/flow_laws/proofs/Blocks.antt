-- In typed blocks each name stands for what the block declares that it leads to.
use Rattle.std.specs.Prelude.{◌≡◌, ℕ, zero, suc, ◌+◌, ◌<◌, List, [], ◌∷◌, ◌++◌, map, Option, Some, None, option_map, option_to_list, length, slice_get, refl}
use Rattle.std.specs.List.{flat_map}
use Rattle.std.proofs.Common.{inl, inr, sym, subst, arith}
use Rattle.language.specs.declared.tree.Base.{Base}
use Rattle.language.specs.declared.tree.Shape.{Shape}
use Rattle.language.specs.Tree as T
use Rattle.language.specs.Tree.{Word, Declaration, Over, Statement, statement, choice, choice_else, loop, waits, Body, body, Statements, no_statements, and_statement, Composite, Tree, import, function, single, expressions_of}
use Rattle.language.specs.Core.{Owned, local, input, output, Name, here, Part, Stmt, stmt, Action, declare, call_alone, assign, fill, insert, print, assert, when, choose, range, each, wait, Block, no_stmts, stmts, Function}
use Rattle.language.specs.Members.{◌∈◌, first, later}
use Rattle.language.specs.Parts.{block_list, outers, outer_parts}
use Rattle.language.specs.Resolved.{refers, outer, awaited, right_of, several, call_action, loop_action, block_of, block_in, with_statement, script_block, functions_of, core}
use Rattle.language.specs.Table.{Table}
use Rattle.language.specs.Scopes.{Typ, declared_type, one_of, Visible, Scope, deeper, own, Signature, signatures}
use Rattle.language.specs.Typing as rules
use Rattle.language.specs.Typing.{LoopScope, StatementTyped, StatementsTyped, BodyTyped, Parameters, FunctionTyped, PartsTyped, WellTyped}
use Rattle.language.proofs.Members.{split_in, to_left, to_right}
use Rattle.language_accepted.proofs.Placed.{Sees, IsPlain}
use Rattle.language_accepted.proofs.Placing.{deeper_of}
use Rattle.flow.specs.Names.{names_used, part_nodes, action_nodes, block_nodes, Opened, opens}
use Rattle.flow.specs.Whole.{Owner, opened_owner, script_owner, function_owner, in_content, IsWithin, of_script, of_function, in_wait, opened}
use Rattle.flow_laws.proofs.Known.{Known, of_scope, of_part}
use Rattle.flow_laws.proofs.Expressions.{seen}
use Rattle.flow_laws.proofs.Statements.{before, Fit, Plain, right_fits, write_fits, several_fits, called_fits, when_fits, choose_fits, loop_fits, wait_fits}

-- WHAT A NAME STANDS FOR

abbrev pub Has : Owner → Owned → Type 0
Has o (local n) = n ∈ o.nodes
Has o (input i) = i < o.inputs
Has o (output i) = i < o.outputs

pub record Stands (os : List Owner) (x : Name) : Type 0 where
  pub owner : Owner
  pub there : slice_get os x.up ≡ Some owner
  pub has : Has owner x.what

-- all names in a block and in those inside it
abbrev mutual
  pub ClearInside : List Owner → Action → Type 0
  ClearInside os (when c b) = Clear (opened_owner (record { variables = []; block = b }) ∷ os) b
  ClearInside os (choose c b d) = Clear (opened_owner (record { variables = []; block = b }) ∷ os) b × Clear (opened_owner (record { variables = []; block = d }) ∷ os) d
  ClearInside os (range lo hi st v k b) = Clear (opened_owner (record { variables = v ∷ option_to_list k; block = b }) ∷ os) b
  ClearInside os (each a v k b) = Clear (opened_owner (record { variables = v ∷ option_to_list k; block = b }) ∷ os) b
  ClearInside os (wait xs b) = Clear (in_content b os) b
  ClearInside os _ = Unit {0}

  pub ClearStmt : List Owner → Stmt → Type 0
  ClearStmt os (stmt at n a) = ((x : Name) → x ∈ names_used a → Stands os x) × ClearInside os a

  pub Clear : List Owner → Block → Type 0
  Clear os no_stmts = Unit {0}
  Clear os (stmts s b) = ClearStmt os s × Clear os b

abbrev pub AllStand : List Owner → Action → Type 0
AllStand os a = (x : Name) → x ∈ names_used a → Stands os x

-- SCOPES

abbrev pub ScopeStands : Scope → List Owner → Type 0
ScopeStands g os = (v : Visible) → v ∈ g → Stands os v.refers_to

deeper_stands : (g : Scope) (o : Owner) (os : List Owner) → ScopeStands g os → ScopeStands (deeper g) (o ∷ os)
deeper_stands g o os k v m =
    let r = deeper_of g v m in
    let s = k r.0 r.1 in
    subst (λ (x : Name). Stands (o ∷ os) x) (sym r.2) (record { owner = s.owner; there = s.there; has = s.has })

-- an owner of names in the content of a `wait`
abbrev waiting : Block → Owner → Owner
waiting c o = record { inputs = o.inputs; outputs = o.outputs; nodes = block_nodes c ++ o.nodes }

has_more : (c : Block) (o : Owner) (w : Owned) → Has o w → Has (waiting c o) w
has_more c o (local n) h = to_right (block_nodes c) o.nodes h
has_more c o (input i) h = h
has_more c o (output i) h = h

same_owner : {x y : Owner} → Some x ≡ Some y → x ≡ y
same_owner h = cc

owner_inside : (c : Block) (o : Owner) (os : List Owner) (k : ℕ) (w : Owned) (p : Owner) → slice_get (o ∷ os) k ≡ Some p → Has p w
    → (q : Owner) × (slice_get (waiting c o ∷ os) k ≡ Some q) × Has q w
owner_inside c o os zero w p e h = (waiting c o, refl, has_more c o w (subst (λ (z : Owner). Has z w) (sym (same_owner e)) h))
owner_inside c o os (suc k) w p e h = (p, e, h)

-- what stands around a `wait` stands in its content
content_stands : (g : Scope) (c : Block) (o : Owner) (os : List Owner) → ScopeStands g (o ∷ os) → ScopeStands g (waiting c o ∷ os)
content_stands g c o os k v m =
    let s = k v m in
    let r = owner_inside c o os v.refers_to.up v.refers_to.what s.owner s.there s.has in
    record { owner = r.0; there = r.1; has = r.2 }

-- a variable is added that this block declares
own_stands : (g : Scope) (w : Word) (τ : Typ) (o : Owner) (os : List Owner) → w.number ∈ o.nodes → ScopeStands g (o ∷ os) → ScopeStands (own w τ ∷ g) (o ∷ os)
own_stands g w τ o os i k v m = elim (split_in m) [
  | inl e ↦ subst (λ (u : Visible). Stands (o ∷ os) u.refers_to) (sym e) (record { owner = o; there = refl; has = i })
  | inr j ↦ k v j
]

abbrev turn_of : Option Word → Option ℕ
turn_of u = option_map (λ (x : Word). x.number) u

abbrev loop_owner : Word → Option Word → Block → Owner
loop_owner v u d = opened_owner (record { variables = v.number ∷ option_to_list (turn_of u); block = d })

loop_stands : {γ : Base} (v : Word) (u : Option Word) (d : Block) (g h : Scope) (b : Base) (os : List Owner) → LoopScope g v b u γ h → ScopeStands g os → ScopeStands h (loop_owner v u d ∷ os)
loop_stands v None d g h b os (rules.value_only (rules.fresh free)) k =
    let o = loop_owner v None d in own_stands (deeper g) v (one_of b) o os first (deeper_stands g o os k)
loop_stands {γ} v (Some u) d g h b os (rules.with_key (rules.fresh free) (rules.fresh other)) k =
    let o = loop_owner v (Some u) d in
    own_stands (own v (one_of b) ∷ deeper g) u (one_of γ) o os (later first) (own_stands (deeper g) v (one_of b) o os first (deeper_stands g o os k))

own_seen : (g : Scope) (w : Word) (τ : Typ) → Sees (own w τ ∷ g) (here w.number)
own_seen g w τ = record { variable = own w τ; visible = first; is = refl }

-- STATEMENTS

pub member_flat : {X Y : Type 0} (f : X → List Y) {x : X} {y : Y} (xs : List X) → x ∈ xs → y ∈ f x → y ∈ flat_map f xs
member_flat f [] m i = elim m [ ]
member_flat f (x ∷ xs) first i = to_left (f x) (flat_map f xs) i
member_flat f (z ∷ xs) (later m) i = to_right (f z) (flat_map f xs) (member_flat f xs m i)

-- what a statement's own parts declare, it declares
part_node : (a : Action) (p : Part) (n : ℕ) → p ∈ before a → n ∈ part_nodes p → n ∈ action_nodes a
part_node (declare v) p n m i = elim m [ ]
part_node (call_alone q ps c) p n m i = member_flat part_nodes ps m i
part_node (assign x e) p n m i = member_flat part_nodes (outer_parts (outers (assign x e))) m i
part_node (fill x e) p n m i = member_flat part_nodes (outer_parts (outers (fill x e))) m i
part_node (insert x k e) p n m i = member_flat part_nodes (outer_parts (outers (insert x k e))) m i
part_node (print q e) p n m i = member_flat part_nodes (outer_parts (outers (print q e))) m i
part_node (assert q e) p n m i = member_flat part_nodes (outer_parts (outers (assert q e))) m i
part_node (when c b) p n m i = member_flat part_nodes (outer_parts (outers (when c b))) m i
part_node (choose c b d) p n m i = member_flat part_nodes (outer_parts (outers (choose c b d))) m i
part_node (range lo hi st v k b) p n m i = member_flat part_nodes (outer_parts (outers (range lo hi st v k b))) m i
part_node (each x v k b) p n m i = elim m [ ]
part_node (wait xs b) p n m i = elim m [ ]

plain_inside : (os : List Owner) (a : Action) → IsPlain a → ClearInside os a
plain_inside os (declare v) h = tt
plain_inside os (call_alone p ps c) h = tt
plain_inside os (assign x e) h = tt
plain_inside os (fill x e) h = tt
plain_inside os (insert x k e) h = tt
plain_inside os (print p e) h = tt
plain_inside os (assert p e) h = tt
plain_inside os (when c b) h = absurd h
plain_inside os (choose c b d) h = absurd h
plain_inside os (range lo hi st v k b) h = absurd h
plain_inside os (each x v k b) h = absurd h
plain_inside os (wait xs b) h = absurd h

-- what a block declares, its owner has
abbrev Below : Owner → Block → Type 0
Below o b = (n : ℕ) → n ∈ block_nodes b → n ∈ o.nodes

module _ (fs : List Signature) (t : Table) where
  stand : (g : Scope) (o : Owner) (os : List Owner) (a : Action) → Fit fs t g a → ScopeStands g (o ∷ os) → ((n : ℕ) → n ∈ action_nodes a → n ∈ o.nodes) → AllStand (o ∷ os) a
  stand g o os a h k f x m = by (h x m)
    where
      by : Known g (before a) x → Stands (o ∷ os) x
      by (of_scope s) = subst (λ (y : Name). Stands (o ∷ os) y) (sym s.is) (k s.variable s.visible)
      by (of_part n p i j e) = subst (λ (y : Name). Stands (o ∷ os) y) (sym e) (record { owner = o; there = refl; has = f n (part_node a p n i j) })

  -- a statement in front of a block
  headed : (at n : ℕ) (a : Action) (b : Block) (g : Scope) (o : Owner) (os : List Owner) → Fit fs t g a → ClearInside (o ∷ os) a → ScopeStands g (o ∷ os) → Below o (stmts (stmt at n a) b)
      → (Below o b → Clear (o ∷ os) b) → Clear (o ∷ os) (stmts (stmt at n a) b)
  headed at n a b g o os h i k f r =
      ((stand g o os a h k (λ m j. f m (to_left (action_nodes a) (block_nodes b) j)), i), r (λ m j. f m (to_right (action_nodes a) (block_nodes b) j)))

  plain : (at n : ℕ) (a : Action) (b : Block) (g : Scope) (o : Owner) (os : List Owner) → Plain fs t g a → ScopeStands g (o ∷ os) → Below o (stmts (stmt at n a) b)
      → (Below o b → Clear (o ∷ os) b) → Clear (o ∷ os) (stmts (stmt at n a) b)
  plain at n a b g o os q k f r = headed at n a b g o os q.1 (plain_inside (o ∷ os) a q.0) k f r

  declared : (at n v : ℕ) (b : Block) (o : Owner) (os : List Owner) → Clear (o ∷ os) b → Clear (o ∷ os) (stmts (stmt at n (declare v)) b)
  declared at n v b o os h = ((λ x m. elim m [ ], tt), h)

  loop_inside : (v : Word) (u : Option Word) (over : Over) (d : Block) (os : List Owner) → Clear (loop_owner v u d ∷ os) d → ClearInside os (loop_action t v u over d)
  loop_inside v u (T.array w) d os h = h
  loop_inside v u (T.range low high step) d os h = h

  mutual
    body_clear : (b : Body) (g : Scope) (o : Owner) (os : List Owner) → ScopeStands g (o ∷ os) → Below o (block_of t b) → BodyTyped fs t g b → Clear (o ∷ os) (block_of t b)
    body_clear (body from ss) g o os k f (rules.in_braces h) = statements_clear ss g o os k f h

    statements_clear : (ss : Statements) (g : Scope) (o : Owner) (os : List Owner) → ScopeStands g (o ∷ os) → Below o (block_in t ss) → StatementsTyped fs t g ss → Clear (o ∷ os) (block_in t ss)
    statements_clear no_statements g o os k f rules.no_more_statements = tt
    statements_clear (and_statement s ss) g o os k f (rules.next_statement {h = h} one rest) =
        statement_clear s g h (block_in t ss) o os k f one (λ l m. statements_clear ss h o os l m rest)

    statement_clear : (s : Statement) (g h : Scope) (b : Block) (o : Owner) (os : List Owner) → ScopeStands g (o ∷ os) → Below o (with_statement t s b) → StatementTyped fs t g s h
        → (ScopeStands h (o ∷ os) → Below o b → Clear (o ∷ os) b) → Clear (o ∷ os) (with_statement t s b)
    statement_clear (statement nd (T.declare d None)) g h b o os k f (rules.declaration (rules.fresh free)) behind =
        declared nd.first.from nd.number d.name.number b o os (behind (own_stands g d.name (declared_type d) o os (f d.name.number first) k) (λ n m. f n (later m)))
    statement_clear (statement nd (T.declare d (Some r))) g h b o os k f (rules.definition (rules.fresh free) typed) behind =
        let w = own d.name (declared_type d) in
        let l = own_stands g d.name (declared_type d) o os (f d.name.number first) k in
        let a = right_of t (here d.name.number) d.shape r in
        let q = right_fits fs t (w ∷ g) (here d.name.number) (own_seen g d.name (declared_type d)) typed in
        declared nd.first.from nd.number d.name.number (stmts (stmt nd.first.from nd.number a) b) o os
        (plain nd.first.from nd.number a b (w ∷ g) o os q l (λ n m. f n (later m)) (λ e. behind l e))
    statement_clear (statement nd (T.assign w r)) g h b o os k f (rules.assignment {τ = τ} named typed) behind =
        let x = refers t w in
        let q = subst (λ (sh : Shape). Plain fs t g (right_of t x sh r)) (sym named.shaped) (right_fits fs t g x (seen fs t g named) typed) in
        plain nd.first.from nd.number (right_of t x (t.shape_of w.number) r) b g o os q k f (λ e. behind k e)
    statement_clear (statement nd (T.write w i e)) g h b o os k f (rules.element_write named index right) behind =
        let x = refers t w in
        plain nd.first.from nd.number (insert x (outer t i) (outer t e)) b g o os (write_fits fs t g x (seen fs t g named) index right) k f (λ z. behind k z)
    statement_clear (statement nd (T.assign_all ws c)) g h b o os k f typed behind =
        let q = several_fits fs t g nd ws c h typed in
        plain nd.first.from nd.number (several t c.node.number c.name (expressions_of c.arguments) (map (refers t) ws) (t.callee_of c.name.number)) b g o os q.0 k f
        (λ e. behind (subst (λ (z : Scope). ScopeStands z (o ∷ os)) q.1 k) e)
    statement_clear (statement nd (T.calls p c)) g h b o os k f (rules.call_statement typed) behind =
        plain nd.first.from nd.number (call_action t p c.node.number c.name (expressions_of c.arguments) (t.callee_of c.name.number)) b g o os (called_fits fs t g p c.node.number typed) k f (λ e. behind k e)
    statement_clear (statement nd (choice e d)) g h b o os k f (rules.if_statement condition typed) behind =
        let c = block_of t d in
        let i = opened_owner (record { variables = []; block = c }) in
        headed nd.first.from nd.number (when (outer t e) c) b g o os (when_fits fs t g c condition)
        (body_clear d (deeper g) i (o ∷ os) (deeper_stands g i (o ∷ os) k) (λ n m. m) typed) k f (λ z. behind k z)
    statement_clear (statement nd (choice_else e d u)) g h b o os k f (rules.if_else_statement condition typed other) behind =
        let c = block_of t d in
        let l = block_of t u in
        let i = opened_owner (record { variables = []; block = c }) in
        let j = opened_owner (record { variables = []; block = l }) in
        headed nd.first.from nd.number (choose (outer t e) c l) b g o os (choose_fits fs t g c l condition)
        (body_clear d (deeper g) i (o ∷ os) (deeper_stands g i (o ∷ os) k) (λ n m. m) typed, body_clear u (deeper g) j (o ∷ os) (deeper_stands g j (o ∷ os) k) (λ n m. m) other) k f (λ z. behind k z)
    statement_clear (statement nd (loop v u over d)) g h b o os k f (rules.loop_statement {h = inner} {β = β} source scope typed) behind =
        let c = block_of t d in
        let i = loop_owner v u c in
        headed nd.first.from nd.number (loop_action t v u over c) b g o os (loop_fits fs t g v u over c source)
        (loop_inside v u over c (o ∷ os) (body_clear d inner i (o ∷ os) (loop_stands v u c g inner β (o ∷ os) scope k) (λ n m. to_right (v.number ∷ option_to_list (turn_of u)) (block_nodes c) m) typed)) k f (λ z. behind k z)
    statement_clear (statement nd (waits ws d)) g h b o os k f (rules.wait_statement names typed) behind =
        let c = block_of t d in
        headed nd.first.from nd.number (wait (map (awaited t) ws) c) b g o os (wait_fits fs t g c names)
        (body_clear d g (waiting c o) os (content_stands g c o os k) (λ n m. to_left (block_nodes c) o.nodes m) typed) k f (λ z. behind k z)

  -- SCRIPTS

  script_clear : (ps : Tree) (names : List (List ℕ)) (g : Scope) (o : Owner) → ScopeStands g (o ∷ []) → Below o (script_block t ps) → PartsTyped fs t names g ps → Clear (o ∷ []) (script_block t ps)
  script_clear [] names g o k f h = tt
  script_clear (import sp ∷ ps) names g o k f (rules.an_import h) = script_clear ps names g o k f h
  script_clear (function c ∷ ps) names g o k f (rules.a_function one h) = script_clear ps (c.name.text ∷ names) g o k f h
  script_clear (single s ∷ ps) names g o k f (rules.a_statement {h = h} one rest) = statement_clear s g h (script_block t ps) o [] k f one (λ l m. script_clear ps names h o l m rest)

  -- parameters so far stand, and so do those that follow
  parameters_stand : (owned : ℕ → Owned) (os : List Owner) {g h : Scope} (i : ℕ) (ds : List Declaration) → Parameters owned g i ds h → ((j : ℕ) → j < i + length ds → Stands os (record { up = 0; what = owned j }))
      → ScopeStands g os → ScopeStands h os
  parameters_stand owned os i [] rules.no_more s k = k
  parameters_stand owned os {g} {h} i (d ∷ ds) (rules.one_parameter free p) s k =
      parameters_stand owned os (suc i) ds p (λ j l. s j (omega arith)) (λ v m. elim (split_in m) [
        | inl e ↦ subst (λ (u : Visible). Stands os u.refers_to) (sym e) (s i (omega arith))
        | inr j ↦ k v j
      ])

  abbrev as_function : Composite → Function
  as_function f = record { inputs = length f.inputs; outputs = length f.outputs; body = block_of t f.body }

  function_clear : (f : Composite) (names : List (List ℕ)) → FunctionTyped fs t names f → Clear (function_owner (as_function f) ∷ []) (block_of t f.body)
  function_clear f names (rules.function_typed {g = g} {h = h} free other outs ins typed) =
      let o = function_owner (as_function f) in
      let k = parameters_stand output (o ∷ []) 0 f.outputs outs (λ j l. record { owner = o; there = refl; has = omega arith }) (λ v m. elim m [ ]) in
      let l = parameters_stand input (o ∷ []) 0 f.inputs ins (λ j l. record { owner = o; there = refl; has = omega arith }) k in
      body_clear f.body h o [] l (λ n m. m) typed

  same_function : {x y : Function} → Some x ≡ Some y → x ≡ y
  same_function h = cc

  functions_clear : (ps : Tree) (names : List (List ℕ)) (g : Scope) → PartsTyped fs t names g ps → (i : ℕ) (f : Function) → slice_get (functions_of t ps) i ≡ Some f → Clear (function_owner f ∷ []) f.body
  functions_clear [] names g h zero f e = absurd (cc (e))
  functions_clear [] names g h (suc i) f e = absurd (cc (e))
  functions_clear (import sp ∷ ps) names g (rules.an_import h) i f e = functions_clear ps names g h i f e
  functions_clear (function c ∷ ps) names g (rules.a_function one h) zero f e =
      subst (λ (z : Function). Clear (function_owner z ∷ []) z.body) (same_function e) (function_clear c names one)
  functions_clear (function c ∷ ps) names g (rules.a_function one h) (suc i) f e = functions_clear ps (c.name.text ∷ names) g h i f e
  functions_clear (single s ∷ ps) names g (rules.a_statement {h = h} one rest) i f e = functions_clear ps names h rest i f e

-- BLOCKS OF A SCRIPT

action_same : {at n at' n' : ℕ} {a a' : Action} → stmt at n a ≡ stmt at' n' a' → a ≡ a'
action_same h = cc

pub clear_at : {at n : ℕ} {a : Action} (os : List Owner) (b : Block) → Clear os b → stmt at n a ∈ block_list b → AllStand os a × ClearInside os a
clear_at os no_stmts h m = elim m [ ]
clear_at os (stmts (stmt at' n' a') b) h m = elim (split_in m) [
  | inl e ↦ subst (λ (z : Action). AllStand os z × ClearInside os z) (sym (action_same e)) h.0
  | inr i ↦ clear_at os b h.1 i
]

opened_clear : (os : List Owner) (a : Action) (o : Opened) → ClearInside os a → o ∈ opens a → Clear (opened_owner o ∷ os) o.block
opened_clear os (when c b) o h m = elim (split_in m) [ inl e ↦ subst (λ (z : Opened). Clear (opened_owner z ∷ os) z.block) (sym e) h | inr i ↦ elim i [ ] ]
opened_clear os (choose c b d) o h m = elim (split_in m) [
  | inl e ↦ subst (λ (z : Opened). Clear (opened_owner z ∷ os) z.block) (sym e) h.0
  | inr i ↦ elim (split_in i) [ inl e ↦ subst (λ (z : Opened). Clear (opened_owner z ∷ os) z.block) (sym e) h.1 | inr j ↦ elim j [ ] ]
]
opened_clear os (range lo hi st v k b) o h m = elim (split_in m) [ inl e ↦ subst (λ (z : Opened). Clear (opened_owner z ∷ os) z.block) (sym e) h | inr i ↦ elim i [ ] ]
opened_clear os (each x v k b) o h m = elim (split_in m) [ inl e ↦ subst (λ (z : Opened). Clear (opened_owner z ∷ os) z.block) (sym e) h | inr i ↦ elim i [ ] ]
opened_clear os (declare v) o h m = elim m [ ]
opened_clear os (call_alone p ps c) o h m = elim m [ ]
opened_clear os (assign x e) o h m = elim m [ ]
opened_clear os (fill x e) o h m = elim m [ ]
opened_clear os (insert x k e) o h m = elim m [ ]
opened_clear os (print p e) o h m = elim m [ ]
opened_clear os (assert p e) o h m = elim m [ ]
opened_clear os (wait xs b) o h m = elim m [ ]

pub within_clear : (t : Table) (tree : Tree) → WellTyped tree t → {os : List Owner} {b : Block} → IsWithin (core t tree) os b → Clear os b
within_clear t tree h of_script = script_clear (signatures tree) t tree [] [] (script_owner (core t tree)) (λ v m. elim m [ ]) (λ n m. m) h
within_clear t tree h (of_function i {f = f} e) = functions_clear (signatures tree) t tree [] [] h i f e
within_clear t tree h (in_wait {os = os} {b = b} w m) = (clear_at os b (within_clear t tree h w) m).1
within_clear t tree h (opened {os = os} {b = b} {a = a} {o = o} w m i) = opened_clear os a o (clear_at os b (within_clear t tree h w) m).1 i
