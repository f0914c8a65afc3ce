-- What is known of a statement of a block that stands in a scope: its own scope, what it names, and the scopes of the blocks inside it.
use Rattle.std.specs.Prelude.{◌≡◌, ◌⊎◌, ℕ, Bool, true, false, List, [], ◌∷◌, ◌++◌, map, refl}
use Rattle.std.proofs.Common.{inl, inr, sym, ap, ◌∙◌, subst}
use Rattle.language.specs.Core.{here, Part, inner, calls, Cell, Call, Awaited, Stmt, stmt, Action, declare, call_alone, assign, fill, insert, print, assert, when, choose, range, each, wait, Block, no_stmts, stmts}
use Rattle.language.specs.Members.{◌∈◌, first, later}
use Rattle.language.specs.Parts.{block_list}
use Rattle.language.specs.WellFormed.{header_blocks}
use Rattle.language.specs.Scopes.{Typ, Visible, Scope, deeper, further, Signature}
use Rattle.language.proofs.Members.{split_in, either, to_left}
use Rattle.language_accepted.proofs.Placed.{IsPlain, Loops, over_range, over_each}
use Rattle.language_laws.specs.TypedValues.{own_parts}
use Rattle.code_laws.proofs.Scoping.{OutputsCome, Hidden, CallComes, before, StmtComes, LoopSees, InScopes, scoped_end, scoped_declaration, scoped_plain, scoped_when, scoped_choose, scoped_loop, scoped_wait}

-- a variable of a scope further in
pub record Deeper (g : Scope) (v : Visible) : Type 0 where
  pub variable : Visible
  pub there : variable ∈ g
  pub is : v.refers_to ≡ further variable.refers_to
  pub type : v.type ≡ variable.type

pub deeper_of : (g : Scope) (v : Visible) → v ∈ deeper g → Deeper g v
deeper_of [] v m = elim m [ ]
deeper_of (u ∷ g) v m = elim (split_in m) [
  | inl e ↦ record { variable = u; there = first; is = ap (λ (z : Visible). z.refers_to) e; type = ap (λ (z : Visible). z.type) e }
  | inr i ↦ (let r = deeper_of g v i in record { variable = r.variable; there = later r.there; is = r.is; type = r.type })
]

plain_headers : {A : Type 0} {c : Block} (a : Action) → IsPlain a → c ∈ header_blocks a → A
plain_headers (declare v) h m = absurd h
plain_headers (call_alone p ps c) h m = elim m [ ]
plain_headers (assign x e) h m = elim m [ ]
plain_headers (fill a e) h m = elim m [ ]
plain_headers (insert a j e) h m = elim m [ ]
plain_headers (print p e) h m = elim m [ ]
plain_headers (assert p e) h m = elim m [ ]
plain_headers (when c b) h m = absurd h
plain_headers (choose c b d) h m = absurd h
plain_headers (range lo hi st v t b) h m = absurd h
plain_headers (each a v t b) h m = absurd h
plain_headers (wait ns b) h m = absurd h

no_loop : {A : Type 0} {ns : List Awaited} {c d : Block} → Loops (wait ns c) d → A
no_loop h = elim h [ ]

loop_header : {a : Action} {c d : Block} → Loops a d → c ∈ header_blocks a → c ≡ d
loop_header over_range m = elim (split_in m) [ inl e ↦ e | inr i ↦ elim i [ ] ]
loop_header over_each m = elim (split_in m) [ inl e ↦ e | inr i ↦ elim i [ ] ]

action_same : {at n at' n' : ℕ} {a a' : Action} → stmt at n a ≡ stmt at' n' a' → a ≡ a'
action_same h = cc

content_same : {ns ns' : List Awaited} {c c' : Block} → wait ns c ≡ wait ns' c' → c ≡ c'
content_same h = cc

pub before_own : (a : Action) {x : Part} → x ∈ before a → x ∈ own_parts a
before_own (call_alone p ps d) m = to_left ps (calls d ∷ []) m
before_own (declare v) m = m
before_own (assign x e) m = m
before_own (fill a e) m = m
before_own (insert a j e) m = m
before_own (print p e) m = m
before_own (assert p e) m = m
before_own (when c b) m = m
before_own (choose c b d) m = m
before_own (range lo hi st v t b) m = m
before_own (each a v t b) m = m
before_own (wait ns b) m = m

module _ (fs : List Signature) (type_of : ℕ → Typ) where
  -- the block declares the variable
  pub record DeclaredBy (b : Block) (v : Visible) : Type 0 where
    pub node : ℕ
    pub at : ℕ
    pub stmt_node : ℕ
    pub is : v.refers_to ≡ here node
    pub typed : type_of node ≡ v.type
    pub there : stmt at stmt_node (declare node) ∈ block_list b

  pub record HeaderScope (g : Scope) (a : Action) (c : Block) : Type 0 where
    pub scope : Scope
    pub inner : InScopes fs type_of scope c
    pub sees : LoopSees g a scope

  pub record StmtAt (g : Scope) (b : Block) (a : Action) : Type 0 where
    pub scope : Scope
    pub grows : (v : Visible) → v ∈ scope → (v ∈ g) ⊎ DeclaredBy b v
    pub comes : StmtComes fs scope a
    pub headers : (c : Block) → c ∈ header_blocks a → HeaderScope scope a c
    pub content : (ns : List Awaited) (c : Block) → a ≡ wait ns c → InScopes fs type_of scope c

  later_by : (s : Stmt) (b : Block) (v : Visible) → DeclaredBy b v → DeclaredBy (stmts s b) v
  later_by s b v r = record { node = r.node; at = r.at; stmt_node = r.stmt_node; is = r.is; typed = r.typed; there = later r.there }

  behind : {g : Scope} {a : Action} (s : Stmt) (b : Block) → StmtAt g b a → StmtAt g (stmts s b) a
  behind s b r = record {
    scope = r.scope;
    grows = λ v m. elim (r.grows v m) [ inl i ↦ inl i | inr d ↦ inr (later_by s b v d) ];
    comes = r.comes;
    headers = r.headers;
    content = r.content;
  }

  -- a statement at the head, or one of the rest
  head_or : {g : Scope} {at n at' n' : ℕ} {a a' : Action} (b : Block) → stmt at' n' a' ∈ (stmt at n a ∷ block_list b) → StmtAt g (stmts (stmt at n a) b) a → (stmt at' n' a' ∈ block_list b → StmtAt g b a') → StmtAt g (stmts (stmt at n a) b) a'
  head_or {g} {at} {n} {a = a} b m here_at rec = elim (split_in m) [
    | inl e ↦ subst (λ (z : Action). StmtAt g (stmts (stmt at n a) b) z) (sym (action_same e)) here_at
    | inr i ↦ behind (stmt at n a) b (rec i)
  ]

  header_of : {g : Scope} {a : Action} {c : Block} → InScopes fs type_of (deeper g) c → HeaderScope g a c
  header_of {g} p = record { scope = deeper g; inner = p; sees = λ v m. inl m }

  pub lookup : {g : Scope} {b : Block} {at n : ℕ} {a : Action} → InScopes fs type_of g b → stmt at n a ∈ block_list b → StmtAt g b a
  lookup scoped_end m = elim m [ ]
  lookup {g} {at = at'} {n = n'} {a = a} (scoped_declaration {v = v} {at = at} {n = n} {w = w} {b = b} e q p) m = elim (split_in m) [
    | inl s ↦ subst (λ (z : Action). StmtAt g (stmts (stmt at n (declare v)) b) z) (sym (action_same s)) (record {
      scope = g;
      grows = λ u i. inl i;
      comes = record { parts = λ x i. elim i [ ]; own = tt };
      headers = λ c i. elim i [ ];
      content = λ ns c x. absurd (cc (x));
    })
    | inr i ↦ (let r = lookup p i in record {
      scope = r.scope;
      grows = λ u j. elim (r.grows u j) [
        | inl k ↦ elim (split_in k) [
          | inl s ↦ inr (record { node = v; at = at; stmt_node = n; is = ap (λ (z : Visible). z.refers_to) s ∙ e; typed = q ∙ sym (ap (λ (z : Visible). z.type) s); there = first })
          | inr o ↦ inl o
        ]
        | inr d ↦ inr (later_by (stmt at n (declare v)) b u d)
      ];
      comes = r.comes;
      headers = r.headers;
      content = r.content;
    })
  ]
  lookup {g} (scoped_plain {a = a} {b = b} h f p) m =
      head_or b m (record { scope = g; grows = λ v i. inl i; comes = f; headers = λ c i. plain_headers a h i; content = λ ns c e. absurd (subst IsPlain e h) }) (λ i. lookup p i)
  lookup {g} (scoped_when {b = b} f p q) m =
      head_or b m (record { scope = g; grows = λ v i. inl i; comes = f; headers = λ c i. elim (split_in i) [ inl e ↦ header_of (subst (λ (z : Block). InScopes fs type_of (deeper g) z) (sym e) p) | inr j ↦ elim j [ ] ]; content = λ ns c e. absurd (cc (e)) }) (λ i. lookup q i)
  lookup {g} (scoped_choose {b = b} f p r q) m =
      head_or b m (record {
        scope = g;
        grows = λ v i. inl i;
        comes = f;
        headers = λ c i. elim (split_in i) [
          | inl e ↦ header_of (subst (λ (z : Block). InScopes fs type_of (deeper g) z) (sym e) p)
          | inr j ↦ elim (split_in j) [ inl e ↦ header_of (subst (λ (z : Block). InScopes fs type_of (deeper g) z) (sym e) r) | inr o ↦ elim o [ ] ]
        ];
        content = λ ns c e. absurd (cc (e));
      }) (λ i. lookup q i)
  lookup {g} (scoped_loop {h = h} {a = a} {d = d} {b = b} l f s p q) m =
      head_or b m (record {
        scope = g;
        grows = λ v i. inl i;
        comes = f;
        headers = λ c i. record { scope = h; inner = subst (λ (z : Block). InScopes fs type_of h z) (sym (loop_header l i)) p; sees = s };
        content = λ ns c e. no_loop (subst (λ (z : Action). Loops z d) e l);
      }) (λ i. lookup q i)
  lookup {g} (scoped_wait {b = b} f p q) m =
      head_or b m (record { scope = g; grows = λ v i. inl i; comes = f; headers = λ c i. elim i [ ]; content = λ ns c e. subst (λ (z : Block). InScopes fs type_of g z) (content_same e) p }) (λ i. lookup q i)

  -- THE CONTENT OF WAITS

  pub record Waits (g : Scope) (ns : List Awaited) (c : Block) : Type 0 where
    pub comes : StmtComes fs g (wait ns c)
    pub content : InScopes fs type_of g c

  -- the only statement of a block is a wait
  pub one_wait : {g : Scope} {at n : ℕ} {ns : List Awaited} {c : Block} → InScopes fs type_of g (stmts (stmt at n (wait ns c)) no_stmts) → Waits g ns c
  one_wait (scoped_plain h f p) = absurd h
  one_wait (scoped_loop l f s p q) = no_loop l
  one_wait (scoped_wait f p q) = record { comes = f; content = p }

  -- CALLS

  pub inner_before : (a : Action) {c : Cell} → inner c ∈ own_parts a → inner c ∈ before a
  inner_before (call_alone p ps d) m = elim (either ps (calls d ∷ []) m) [ inl i ↦ i | inr i ↦ elim (split_in i) [ inl e ↦ absurd (cc (e)) | inr j ↦ elim j [ ] ] ]
  inner_before (declare v) m = m
  inner_before (assign x e) m = m
  inner_before (fill a e) m = m
  inner_before (insert a j e) m = m
  inner_before (print p e) m = m
  inner_before (assert p e) m = m
  inner_before (when c b) m = m
  inner_before (choose c b d) m = m
  inner_before (range lo hi st v t b) m = m
  inner_before (each a v t b) m = m
  inner_before (wait ns b) m = m

  -- a call that is the statement
  pub record AloneComes (g : Scope) (a : Action) (c : Call) : Type 0 where
    pub priority : Rattle.std.specs.Prelude.ℤ
    pub parts : List Part
    pub is : a ≡ call_alone priority parts c
    pub comes : CallComes fs (OutputsCome g) g (before a) c

  calls_same : {x y : Call} → calls x ≡ calls y → x ≡ y
  calls_same h = cc

  pub call_comes : {g : Scope} (a : Action) {c : Call} → StmtComes fs g a → calls c ∈ own_parts a → (calls c ∈ before a × CallComes fs Hidden g (before a) c) ⊎ AloneComes g a c
  call_comes {g} (call_alone p ps d) {c} f m = elim (either ps (calls d ∷ []) m) [
    | inl i ↦ inl (i, f.parts (calls c) i)
    | inr i ↦ elim (split_in i) [
      | inl e ↦ inr (record { priority = p; parts = ps; is = ap (λ (z : Call). call_alone p ps z) (sym (calls_same e)); comes = subst (λ (z : Call). CallComes fs (OutputsCome g) g ps z) (sym (calls_same e)) f.own })
      | inr j ↦ elim j [ ]
    ]
  ]
  call_comes (declare v) f m = inl (m, f.parts _ m)
  call_comes (assign x e) f m = inl (m, f.parts _ m)
  call_comes (fill a e) f m = inl (m, f.parts _ m)
  call_comes (insert a j e) f m = inl (m, f.parts _ m)
  call_comes (print p e) f m = inl (m, f.parts _ m)
  call_comes (assert p e) f m = inl (m, f.parts _ m)
  call_comes (when c b) f m = inl (m, f.parts _ m)
  call_comes (choose c b d) f m = inl (m, f.parts _ m)
  call_comes (range lo hi st v t b) f m = inl (m, f.parts _ m)
  call_comes (each a v t b) f m = inl (m, f.parts _ m)
  call_comes (wait ns b) f m = inl (m, f.parts _ m)
