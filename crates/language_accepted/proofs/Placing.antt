-- The blocks of a typed script with numbers in reading order are placed.
use Rattle.std.specs.List.{flat_map}
use Rattle.std.specs.Prelude.{◌≡◌, ℕ, suc, ◌<◌, ◌≤◌, ℤ, List, [], ◌∷◌, ◌++◌, map, Option, Some, None, refl}
use Rattle.std.proofs.Common.{inl, inr, sym, ap, ◌∙◌, subst, arith}
use Rattle.language.specs.declared.tree.Base.{Base}
use Rattle.language.specs.declared.tree.Shape.{Shape}
use Rattle.language.specs.Tree as T
use Rattle.language.specs.Tree.{Word, Node, Declaration, Expression, expression, number, text, truth, variable, element, call, prefixed, chain, Expressions, expressions_of, value, list, RightSide, Over, Statement, statement, choice, choice_else, loop, waits, Body, body, Statements, no_statements, and_statement, Composite, Tree, import, function, single}
use Rattle.language.specs.Core.{local, input, Name, here, Block}
use Rattle.language.specs.Members.{◌∈◌, first, later}
use Rattle.language.specs.Numbers.{expression_numbers, word_numbers, option_numbers, right_numbers, over_numbers, statement_numbers, body_numbers, statements_numbers}
use Rattle.language.specs.Resolved.{refers, call_right, right_of, call_action, several, loop_action, block_of, block_in, with_statement}
use Rattle.language.specs.Table as table
use Rattle.language.specs.Table.{Table, Callee, composite, built_in}
use Rattle.language.specs.Scopes.{Typ, one_of, declared_type, Visible, Scope, deeper, further, own, Signature}
use Rattle.language.specs.Typing as rules
use Rattle.language.specs.Typing.{RightType, LoopScope, StatementTyped, StatementsTyped, BodyTyped}
use Rattle.language.proofs.Members.{split_in}
use Rattle.language.proofs.Tested.{roles_of}
use Rattle.language_laws.specs.Scoped.{IsIn}
use Rattle.language_accepted.specs.Placed.{Rise}
use Rattle.language_accepted.proofs.Rising.{last, rise_least, rise_front, rise_rest, last_append}
use Rattle.language_accepted.proofs.Placed.{Sees, Fits, IsPlain, Loops, over_range, over_each, LoopSees, Placed, placed_end, placed_declaration, placed_plain, placed_when, placed_choose, placed_loop, placed_wait}
use Rattle.language_accepted.proofs.Fitting.{seen, declare_fits, right_fits, write_fits, several_fits, called_fits, when_fits, choose_fits, loop_fits, wait_fits}

-- SCOPES

-- the inputs in a scope are among so many
abbrev pub AreIn : ℕ → Scope → Type 0
AreIn k g = (x : Name) → Sees g x → IsIn k x

pub deeper_of : (g : Scope) (v : Visible) → v ∈ deeper g → (u : Visible) × (u ∈ g) × (v.refers_to ≡ further u.refers_to)
deeper_of [] v m = elim m [ ]
deeper_of (u ∷ g) v m = elim (split_in m) [
  | inl e ↦ (u, first, ap (λ (z : Visible). z.refers_to) e)
  | inr i ↦ (let r = deeper_of g v i in (r.0, later r.1, r.2))
]

own_in : (k : ℕ) (g : Scope) (w : Visible) (n : ℕ) → w.refers_to ≡ here n → AreIn k g → AreIn k (w ∷ g)
own_in k g w n e h x s = elim (split_in s.visible) [
  | inl q ↦ (λ i p. absurd (is_local i (sym (ap (λ (z : Name). z.what) (s.is ∙ ap (λ (z : Visible). z.refers_to) q ∙ e)) ∙ p)))
  | inr i ↦ h x (record { variable = s.variable; visible = i; is = s.is })
]
  where
    is_local : (i : ℕ) → local n ≡ input i → ⊥
    is_local i q = cc

deeper_in : (k : ℕ) (g : Scope) → AreIn k g → AreIn k (deeper g)
deeper_in k g h x s =
    let r = deeper_of g s.variable s.visible in
    let e = ap (λ (z : Name). z.what) (s.is ∙ r.2) in
    λ i p. h r.0.refers_to (record { variable = r.0; visible = r.1; is = refl }) i (sym e ∙ p)

-- LOOPS

loops_body : (t : Table) (v : Word) (u : Option Word) (o : Over) (d : Block) → Loops (loop_action t v u o d) d
loops_body t v u (T.array w) d = over_each
loops_body t v u (T.range low high step) d = over_range

first_role : (t : Table) (v : Word) (u : Option Word) (o : Over) (d : Block) → v.number ∈ roles_of (loop_action t v u o d)
first_role t v None (T.array w) d = first
first_role t v (Some k) (T.array w) d = first
first_role t v None (T.range low high step) d = first
first_role t v (Some k) (T.range low high step) d = first

second_role : (t : Table) (v k : Word) (o : Over) (d : Block) → k.number ∈ roles_of (loop_action t v (Some k) o d)
second_role t v k (T.array w) d = later first
second_role t v k (T.range low high step) d = later first

loop_in : {γ : Base} (k : ℕ) (v : Word) (u : Option Word) (g h : Scope) (b : Base) → LoopScope g v b u γ h → AreIn k g → AreIn k h
loop_in k v None g h b (rules.value_only (rules.fresh free)) a = own_in k (deeper g) (own v (one_of b)) v.number refl (deeper_in k g a)
loop_in {γ} k v (Some u) g h b (rules.with_key (rules.fresh free) (rules.fresh other)) a =
    own_in k (own v (one_of b) ∷ deeper g) (own u (one_of γ)) u.number refl (own_in k (deeper g) (own v (one_of b)) v.number refl (deeper_in k g a))

-- a key's number, where there is a key
abbrev KeyBelow : Option Word → ℕ → Type 0
KeyBelow None m = Unit {0}
KeyBelow (Some w) m = w.number < m

loop_sees : {γ : Base} (t : Table) (m : ℕ) (v : Word) (u : Option Word) (o : Over) (d : Block) (g h : Scope) (b : Base) → v.number < m → KeyBelow u m
    → LoopScope g v b u γ h → LoopSees g (loop_action t v u o d) m h
loop_sees t m v None o d g h b less low (rules.value_only (rules.fresh free)) x i = elim (split_in i) [
  | inl e ↦ inr (record { node = v.number; is = ap (λ (z : Visible). z.refers_to) e; role = first_role t v None o d; less = less })
  | inr j ↦ inl j
]
loop_sees t m v (Some u) o d g h b less low (rules.with_key (rules.fresh free) (rules.fresh other)) x i = elim (split_in i) [
  | inl e ↦ inr (record { node = u.number; is = ap (λ (z : Visible). z.refers_to) e; role = second_role t v u o d; less = low })
  | inr j ↦ elim (split_in j) [
    | inl e ↦ inr (record { node = v.number; is = ap (λ (z : Visible). z.refers_to) e; role = first_role t v (Some u) o d; less = less })
    | inr l ↦ inl l
  ]
]

-- the variables of a loop have numbers below those of its body
key_below : (n : ℕ) (u : Option Word) (ns : List ℕ) → Rise n (option_numbers word_numbers u ++ ns) → KeyBelow u (suc (last n (option_numbers word_numbers u ++ ns)))
key_below n None ns h = tt
key_below n (Some w) ns h = let l = rise_least w.number ns h.1 in omega arith

-- STATEMENTS

right_plain : (t : Table) (x : Name) (sh : Shape) (r : RightSide) → IsPlain (right_of t x sh r)
right_plain t x sh (value (expression nd (call w es))) = by (t.callee_of w.number)
  where
    by : (c : Callee) → IsPlain (call_right t x (expression nd (call w es)) w es c)
    by (composite i) = tt
    by (built_in b) = tt
right_plain t x (Shape.Array κ) (value (expression nd (variable w))) = tt
right_plain t x Shape.Scalar (value (expression nd (variable w))) = tt
right_plain t x sh (list nd es) = tt
right_plain t x (Shape.Array κ) (value (expression nd (number z))) = tt
right_plain t x Shape.Scalar (value (expression nd (number z))) = tt
right_plain t x (Shape.Array κ) (value (expression nd (text bytes))) = tt
right_plain t x Shape.Scalar (value (expression nd (text bytes))) = tt
right_plain t x (Shape.Array κ) (value (expression nd (truth b))) = tt
right_plain t x Shape.Scalar (value (expression nd (truth b))) = tt
right_plain t x (Shape.Array κ) (value (expression nd (element w i))) = tt
right_plain t x Shape.Scalar (value (expression nd (element w i))) = tt
right_plain t x (Shape.Array κ) (value (expression nd (prefixed p e))) = tt
right_plain t x Shape.Scalar (value (expression nd (prefixed p e))) = tt
right_plain t x (Shape.Array κ) (value (expression nd (chain os es))) = tt
right_plain t x Shape.Scalar (value (expression nd (chain os es))) = tt

several_plain : (t : Table) (m : ℕ) (w : Word) (es : Expressions) (xs : List Name) (c : Callee) → IsPlain (several t m w es xs c)
several_plain t m w es xs (composite i) = tt
several_plain t m w es xs (built_in b) = tt

call_plain : (t : Table) (p : ℤ) (m : ℕ) (w : Word) (es : Expressions) (c : Callee) → IsPlain (call_action t p m w es c)
call_plain t p m w es (composite i) = tt
call_plain t p m w es (built_in table.printf) = tt
call_plain t p m w es (built_in table.assert) = tt
call_plain t p m w es (built_in table.strcat) = tt
call_plain t p m w es (built_in table.fromint) = tt
call_plain t p m w es (built_in table.toint) = tt
call_plain t p m w es (built_in table.size) = tt

module _ (fs : List Signature) (t : Table) (k : ℕ) where
  -- the variable that a declaration adds is visible
  own_seen : (g : Scope) (w : Word) (τ : Typ) → Sees (own w τ ∷ g) (here w.number)
  own_seen g w τ = record { variable = own w τ; visible = first; is = refl }

  -- numbers may begin earlier
  pub placed_from : (g : Scope) (from m : ℕ) (b : Block) (to : ℕ) → from ≤ m → Placed fs k g m b to → Placed fs k g from b to
  placed_from g from m b to less (placed_end e) = placed_end (omega arith)
  placed_from g from m b to less (placed_declaration f e l p) = placed_declaration f e (omega arith) p
  placed_from g from m b to less (placed_plain h f l p) = placed_plain h f (omega arith) p
  placed_from g from m b to less (placed_when f l p e q) = placed_when f (omega arith) p e q
  placed_from g from m b to less (placed_choose f l p q e r) = placed_choose f (omega arith) p q e r
  placed_from g from m b to less (placed_loop i f s l p e q) = placed_loop i f s (omega arith) p e q
  placed_from g from m b to less (placed_wait f l p e q) = placed_wait f (omega arith) p e q

  mutual
    -- the numbers of a thing are above the one before it
    pub body_placed : (n : ℕ) (b : Body) (g : Scope) → Rise n (body_numbers b) → AreIn k g → BodyTyped fs t g b → Placed fs k g (suc n) (block_of t b) (suc (last n (body_numbers b)))
    body_placed n (body from ss) g r a (rules.in_braces h) = statements_placed n ss g r a h

    statements_placed : (n : ℕ) (ss : Statements) (g : Scope) → Rise n (statements_numbers ss) → AreIn k g → StatementsTyped fs t g ss → Placed fs k g (suc n) (block_in t ss) (suc (last n (statements_numbers ss)))
    statements_placed n no_statements g r a rules.no_more_statements = placed_end (omega arith)
    statements_placed n (and_statement s ss) g r a (rules.next_statement {h = h} one rest) =
        let ms = statement_numbers s in
        let ks = statements_numbers ss in
        statement_placed n s g h (block_in t ss) (suc (last n (ms ++ ks))) (rise_front n ms ks r) a one
        (λ c. subst (λ (m : ℕ). Placed fs k h (suc (last n ms)) (block_in t ss) (suc m)) (sym (last_append n ms ks)) (statements_placed (last n ms) ss h (rise_rest n ms ks r) c rest))

    pub statement_placed : (n : ℕ) (s : Statement) (g h : Scope) (b : Block) (to : ℕ) → Rise n (statement_numbers s) → AreIn k g → StatementTyped fs t g s h
        → (AreIn k h → Placed fs k h (suc (last n (statement_numbers s))) b to) → Placed fs k g (suc n) (with_statement t s b) to
    statement_placed n (statement nd (T.declare d None)) g h b to r a (rules.declaration (rules.fresh free)) behind =
        let w = own d.name (declared_type d) in
        let p = r.0 in
        let q = r.1.0 in
        placed_declaration {w = w} (declare_fits fs t k g a d.name.number) refl (omega arith) (behind (own_in k g w d.name.number refl a))
    statement_placed n (statement nd (T.declare d (Some e))) g h b to r a (rules.definition (rules.fresh free) typed) behind =
        let w = own d.name (declared_type d) in
        let more = own_in k g w d.name.number refl a in
        let p = r.0 in
        let q = r.1.0 in
        let l = rise_least d.name.number (right_numbers e) r.1.1 in
        placed_declaration {w = w} (declare_fits fs t k g a d.name.number) refl (omega arith)
        (placed_plain (right_plain t (here d.name.number) d.shape e)
        (right_fits fs t k (w ∷ g) more (here d.name.number) (own_seen g d.name (declared_type d)) typed) (omega arith) (behind more))
    statement_placed n (statement nd (T.assign w e)) g h b to r a (rules.assignment {τ = τ} refers typed) behind =
        let l = rise_least n (statement_numbers (statement nd (T.assign w e))) r in
        placed_plain (right_plain t (t.name_of w.number) (t.shape_of w.number) e)
        (subst (λ (sh : Shape). Fits fs k g (right_of t (t.name_of w.number) sh e)) (sym refers.shaped)
        (right_fits fs t k g a (t.name_of w.number) (seen fs t k g a refers) typed)) (omega arith) (behind a)
    statement_placed n (statement nd (T.write w i e)) g h b to r a (rules.element_write {b = c} refers index right) behind =
        let l = rise_least n (statement_numbers (statement nd (T.write w i e))) r in
        placed_plain tt (write_fits fs t k g a (t.name_of w.number) (seen fs t k g a refers) index right) (omega arith) (behind a)
    statement_placed n (statement nd (T.assign_all ws c)) g h b to r a typed behind =
        let q = several_fits fs t k g a nd ws c h typed in
        let l = rise_least n (statement_numbers (statement nd (T.assign_all ws c))) r in
        placed_plain (several_plain t c.node.number c.name (expressions_of c.arguments) (map (refers t) ws) (t.callee_of c.name.number)) q.0 (omega arith)
        (subst (λ (z : Scope). Placed fs k z (suc (last n (statement_numbers (statement nd (T.assign_all ws c))))) b to) (sym q.1) (behind (subst (AreIn k) q.1 a)))
    statement_placed n (statement nd (T.calls p c)) g h b to r a (rules.call_statement typed) behind =
        let l = rise_least n (statement_numbers (statement nd (T.calls p c))) r in
        placed_plain (call_plain t p c.node.number c.name (expressions_of c.arguments) (t.callee_of c.name.number)) (called_fits fs t k g a p c.node.number typed) (omega arith) (behind a)
    statement_placed n (statement nd (choice e d)) g h b to r a (rules.if_statement condition typed) behind =
        let es = expression_numbers e in
        let ds = body_numbers d in
        let m = last nd.number es in
        let p = r.0 in
        let q = rise_least nd.number es (rise_front nd.number es ds r.1) in
        let l = last_append nd.number es ds in
        placed_when {m = suc m} {l = suc (last m ds)} (when_fits fs t k g a (block_of t d) condition) (omega arith) (body_placed m d (deeper g) (rise_rest nd.number es ds r.1) (deeper_in k g a) typed) (omega arith) (behind a)
    statement_placed n (statement nd (choice_else e d f)) g h b to r a (rules.if_else_statement condition typed other) behind =
        let es = expression_numbers e in
        let ds = body_numbers d in
        let os = body_numbers f in
        let m = last nd.number es in
        let i = last m ds in
        let p = r.0 in
        let front = rise_front nd.number (es ++ ds) os r.1 in
        let q = rise_least nd.number es (rise_front nd.number es ds front) in
        let same = last_append nd.number es ds in
        let more = last_append nd.number (es ++ ds) os in
        let behind_d = subst (λ (z : ℕ). Rise z os) same (rise_rest nd.number (es ++ ds) os r.1) in
        let is : last (last nd.number (es ++ ds)) os ≡ last i os = ap (λ (z : ℕ). last z os) same in
        placed_choose {m = suc m} {l = suc i} {i = suc (last i os)} (choose_fits fs t k g a (block_of t d) (block_of t f) condition) (omega arith)
        (body_placed m d (deeper g) (rise_rest nd.number es ds front) (deeper_in k g a) typed) (body_placed i f (deeper g) behind_d (deeper_in k g a) other) (omega arith) (behind a)
    statement_placed n (statement nd (loop v u o d)) g h b to r a (rules.loop_statement {h = inner} {β = β} source scope typed) behind =
        let us = option_numbers word_numbers u in
        let os = over_numbers o in
        let ds = body_numbers d in
        let m = last v.number (us ++ os) in
        let p = r.0 in
        let q = r.1.0 in
        let front = rise_front v.number (us ++ os) ds r.1.1 in
        let l = rise_least v.number (us ++ os) front in
        let same = last_append v.number (us ++ os) ds in
        let c = block_of t d in
        placed_loop {h = inner} {m = suc m} {l = suc (last m ds)} (loops_body t v u o c) (loop_fits fs t k g a v u o c source)
        (loop_sees t (suc m) v u o c g inner β (omega arith) (key_below v.number u os front) scope) (omega arith) (body_placed m d inner (rise_rest v.number (us ++ os) ds r.1.1) (loop_in k v u g inner β scope a) typed) (omega arith) (behind a)
    statement_placed n (statement nd (waits ws d)) g h b to r a (rules.wait_statement {τs = τs} names typed) behind =
        let vs = flat_map word_numbers ws in
        let ds = body_numbers d in
        let m = last nd.number vs in
        let p = r.0 in
        let q = rise_least nd.number vs (rise_front nd.number vs ds r.1) in
        let l = last_append nd.number vs ds in
        placed_wait {m = suc m} {l = suc (last m ds)} (wait_fits fs t k g a (block_of t d) names) (omega arith) (body_placed m d g (rise_rest nd.number vs ds r.1) a typed) (omega arith) (behind a)
