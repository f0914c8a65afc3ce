-- What an entry of laid code needs or stores itself is declared in its body, or is a variable that its block sees.
use Rattle.std.proofs.Common.{◌≡◌, inl, inr, ℕ, suc, ℤ, Bool, true, false, List, [], ◌∷◌, map, refl, sym, ap, ◌∙◌, subst, Option, Some, None}
use Rattle.std.specs.Prelude.{slice_get}
use Rattle.std.specs.List.{flat_map}
use Rattle.std.proofs.lemmas.Option.{same_Some}
use Rattle.dataflow.specs.System.{In}
use Rattle.dataflow.proofs.Lists.{in_split}
use Rattle.language.specs.Core as Co
use Rattle.language.specs.Core.{Owned, input, Name, here, Expr, Exprs, none, also, Form, compute, read, Cell, Call, Part, inner, calls, Outer, Awaited, Stmt, stmt, Action, declare, call_alone, assign, fill, insert, print, assert, when, choose, range, each, wait, Block, no_stmts, stmts, Function, Core}
use Rattle.language.specs.Members.{◌∈◌, first, later}
use Rattle.language.specs.Parts.{block_list, blocks_below, outers, outer_parts, by_name, by_element}
use Rattle.language.specs.Scopes.{Typ, Scope, Signature}
use Rattle.language.specs.Single.{SinglyAssigned, an_input}
use Rattle.language.proofs.Blocks.{inner_blocks, inner_below, below_below}
use Rattle.language.proofs.Members.{split_in, to_right}
use Rattle.language_laws.proofs.OneAssign.{function_in}
use Rattle.task_code.specs.Code as code
use Rattle.task_code.specs.Code.{Variable, Need, Stored, Closed, At, AtKey, Header, Act, Code, Entry, entry, body, scalar, is_array_name, needed, targets, targets_of}
use Rattle.task_code.specs.Exact.{needs_of}
use Rattle.task_code.specs.Whole.{Declared}
use Rattle.language_laws.specs.Scoped.{Scoped}
use Rattle.language_laws.specs.TypedValues.{own_outer, own_parts}
use Rattle.code_rules.specs.CodeNames.{name_as, wanted, wanted_all, each_once, awaited_need, header}
use Rattle.code_rules.specs.IsCodeOf.{Layout, seen, seen_as, own_form, own_expr, own_exprs, own_needs, fill_act, simple_act, step_expr, IsSimple, IndexAs, at_literal, at_name, at_datum, CallAs, PartAs, plain_literal, plain_name, a_cell, a_read, a_call}
use Rattle.code_rules.specs.Laying.{Kinds, Headers, one_header, more_headers}
use Rattle.code_rules.specs.Laid.{IsLaid}
use Rattle.language_accepted.proofs.Given.{HasTarget, no_target}
use Rattle.code_laws.specs.Described.{is_array_shape, kinds_of_signature}
use Rattle.code_laws.specs.Standing.{CallsAreFound}
use Rattle.code_laws.proofs.Needs.{of_once, of_flat}
use Rattle.code_laws.proofs.Roles.{OwnOf, own_simple, own_branch, own_branches, own_range, own_each, own_wait, Role}
use Rattle.code_laws.proofs.Shapes.{HomeIn, home_in, body_within}
use Rattle.code_laws.proofs.Scoping.{SeesAs, Comes, ExprComes, AllCome, FormComes, before, AwaitedSeen, InScopes}
use Rattle.code_laws.proofs.Settling.{ScriptScoped}
use Rattle.code_laws.proofs.Lookup.{lookup, one_wait, inner_before}
use Rattle.code_laws.proofs.MadeWhole.{PartsMade, stmt_made, cell_declared, read_real, plain_before}
use Rattle.code_laws.proofs.Arguments.{get_map, get_one, get_some, out_at, out_type}
use Rattle.code_laws.proofs.Led.{cell_part, Keeping, Within, Settled, settle, come, CallKnown, call_known, out_settled}

pub of_needed : (r : code.Name) (ns : List Need) → In r (flat_map needed ns) → (n : Need) × In n ns × In r (needed n)
of_needed r [] h = absurd h
of_needed r (n ∷ ns) h = elim (in_split r (needed n) (flat_map needed ns) h) [ inl i ↦ (n, inl refl, i) | inr i ↦ (let q = of_needed r ns i in (q.0, inr q.1, q.2)) ]

pub of_exprs : (k : ℕ) (n : Need) (es : List Expr) → In n (flat_map (wanted k) es) → (e : Expr) × In e es × In n (wanted k e)
of_exprs k n [] h = absurd h
of_exprs k n (e ∷ es) h = elim (in_split n (wanted k e) (flat_map (wanted k) es) h) [ inl i ↦ (e, inl refl, i) | inr i ↦ (let q = of_exprs k n es i in (q.0, inr q.1, q.2)) ]

pub outer_in : (os : List Outer) {o : Outer} → o ∈ os → inner o.cell ∈ outer_parts os
outer_in [] m = elim m [ ]
outer_in (p ∷ os) {o} m = elim (split_in m) [
  | inl e ↦ subst (λ (z : Outer). inner z.cell ∈ outer_parts (p ∷ os)) (sym e) (to_right p.parts (inner p.cell ∷ outer_parts os) first)
  | inr i ↦ to_right p.parts (inner p.cell ∷ outer_parts os) (later (outer_in os i))
]

pub only : {X : Type 0} {x y : X} → In x (y ∷ []) → x ≡ y
only (inl e) = e
only (inr z) = absurd z

-- a block, or one inside it, assigns or writes the variable: a scalar is assigned by name alone
pub data Assigns : Bool → Block → Owned → Type 0 where
  names : (d : Bool) {b : Block} {at n : ℕ} {a : Action} {x : Name} {w : Owned} → stmt at n a ∈ block_list b → x ∈ by_name a → x.what ≡ w → Assigns d b w
  writes : {b : Block} {at n : ℕ} {a : Action} {x : Name} {w : Owned} → stmt at n a ∈ block_list b → x ∈ by_element a → x.what ≡ w → Assigns true b w
  further_in : (d : Bool) {b c : Block} {at n : ℕ} {a : Action} {w : Owned} → stmt at n a ∈ block_list b → c ∈ inner_blocks a → Assigns d c w → Assigns d b w

pub has_target : {d : Bool} {b : Block} {w : Owned} → Assigns d b w → HasTarget w b
has_target (names d {b = b} m i e) = record { block = b; inside = first; st = _; there = m; target = _; is = e; of = inl i }
has_target (writes {b = b} m i e) = record { block = b; inside = first; st = _; there = m; target = _; is = e; of = inr i }
has_target (further_in d {b = b} m i h) =
    let r = has_target h in
    let below = inner_below b m i in
    record { block = r.block; inside = elim (split_in r.inside) [ inl e ↦ later (subst (λ (z : Block). z ∈ blocks_below b) (sym e) below) | inr j ↦ later (below_below b below j) ]; st = r.st; there = r.there; target = r.target; is = r.is; of = r.of }

pub keeps_targets : (s : Core) → SinglyAssigned s → Keeping s Assigns
keeps_targets s single = record {
  inside = λ b c at n a d w m i h. further_in d m i h;
  from_input = λ f i j d fn lt h e b w. absurd (no_target s single (an_input (function_in s.functions i f fn) lt) (has_target h));
  to_output = λ b at n p ps c d y m i. names d m i refl;
}

abbrev pub Free : Bool → Block → Owned → Type 0
Free d b w = Unit {0}

pub keeps_all : (s : Core) → Keeping s Free
keeps_all s = record { inside = λ b c at n a d w m i h. tt; from_input = λ f i j d fn lt h e b w. tt; to_output = λ b at n p ps c d y m i. tt }

module _ {s : Core} {fs : List Kinds} {ds : List (ℕ × Bool)} (C : Code) (l : Layout) (L : IsLaid s fs ds C l) (found : CallsAreFound C) (scoped : Scoped s)
    (sigs : List Signature) (type_of : ℕ → Typ) (S : ScriptScoped sigs type_of s) (D : (n : ℕ) (b : Bool) → ◌∈◌ {X = ℕ × Bool} (n, b) ds → is_array_shape (type_of n).shape ≡ b) where
  abbrev Known : ℕ → Scope → Action → Type 0
  Known t g a = Within C l L found scoped sigs type_of S D t g a

  abbrev Made : ℕ → Action → Type 0
  Made t a = PartsMade C l L t a

  -- NEEDS
  abbrev pub Read : ℕ → Scope → code.Name → Type 0
  Read t g r = Settled C l L found scoped sigs type_of S D Free t g r

  reads_seen : {t : ℕ} {g : Scope} {a : Action} {d : Bool} {x : Name} (w : Known t g a) → SeesAs w.known.scope x d → (r : code.Name) → r ≡ name_as (L.table.inputs_of t) d x → Read t g r
  reads_seen w s r e = settle C l L found scoped sigs type_of S D Free w s tt r e

  reads_come : {t : ℕ} {g : Scope} {a : Action} {x : Name} (w : Known t g a) → Made t a → Comes w.known.scope (before a) x → (r : code.Name) → r ≡ name_as (L.table.inputs_of t) false x → Read t g r
  reads_come w p c r e = come C l L found scoped sigs type_of S D Free w p c tt r e

  reads_cell : {t : ℕ} {g : Scope} {a : Action} {c : Cell} → Made t a → inner c ∈ before a → l.plain c.node ≡ false → (r : code.Name) → r ≡ name_as (L.table.inputs_of t) false (here c.node) → Read t g r
  reads_cell {t} p m e r q = inl (subst (λ (z : code.Name). Declared C t z) (sym q) (cell_declared C l L p m e))

  one_of_need : (r q : code.Name) (n m : Need) → n ≡ m → In r (needed n) → needed m ≡ q ∷ [] → r ≡ q
  one_of_need r q n m e h f = only (subst (λ (zs : List code.Name). In r zs) f (subst (λ (z : Need). In r (needed z)) e h))

  mutual
    expr_reads : {t : ℕ} {g : Scope} {a : Action} (w : Known t g a) → Made t a → (e : Expr) → ExprComes w.known.scope (before a) e → (n : Need) (r : code.Name) → In n (wanted (L.table.inputs_of t) e) → In r (needed n) → Read t g r
    expr_reads w p (Co.literal v) c n r h i = absurd h
    expr_reads {t} w p (Co.name x) c n r h i = reads_come w p c r (one_of_need r (name_as (L.table.inputs_of t) false x) n (Stored (name_as (L.table.inputs_of t) false x)) (only h) i refl)
    expr_reads {t} w p (Co.whole x) c n r h i = reads_seen w c r (one_of_need r (name_as (L.table.inputs_of t) true x) n (Closed (name_as (L.table.inputs_of t) true x)) (only h) i refl)
    expr_reads w p (Co.operator o es) c n r h i = exprs_read w p es c n r h i

    exprs_read : {t : ℕ} {g : Scope} {a : Action} (w : Known t g a) → Made t a → (es : Exprs) → AllCome w.known.scope (before a) es → (n : Need) (r : code.Name) → In n (wanted_all (L.table.inputs_of t) es) → In r (needed n) → Read t g r
    exprs_read w p none c n r h i = absurd h
    exprs_read {t} w p (also e es) c n r h i = elim (in_split n (wanted (L.table.inputs_of t) e) (wanted_all (L.table.inputs_of t) es) h) [ inl j ↦ expr_reads w p e c.0 n r j i | inr j ↦ exprs_read w p es c.1 n r j i ]

  here_reads : {t : ℕ} {g : Scope} {a : Action} {c : Cell} → Made t a → inner c ∈ before a → l.plain c.node ≡ false → (n : Need) (r : code.Name) → In n (wanted (L.table.inputs_of t) (Co.name (here c.node))) → In r (needed n) → Read t g r
  here_reads {t} {c = c} p m e n r h i = reads_cell p m e r (one_of_need r (name_as (L.table.inputs_of t) false (here c.node)) n (Stored (name_as (L.table.inputs_of t) false (here c.node))) (only h) i refl)

  seen_reads : {t : ℕ} {g : Scope} {a : Action} (w : Known t g a) → Made t a → (c : Cell) → inner c ∈ before a → (n : Need) (r : code.Name) → In n (wanted (L.table.inputs_of t) (seen l c)) → In r (needed n) → Read t g r
  seen_reads {t} {g} {a} w p c m n r h i = by (l.plain c.node) c.form refl refl h
    where
      by : (b : Bool) (f : Form) → l.plain c.node ≡ b → c.form ≡ f → In n (wanted (L.table.inputs_of t) (seen_as b c.node f)) → Read t g r
      by true (compute e) q z k = expr_reads w p e (subst (λ (x : Form). FormComes w.known.scope (before a) x) z (w.known.comes.parts (inner c) m)) n r k i
      by true (read x j) q z k = here_reads p m (read_real l None (before a) (plain_before l a p.plain) m z) n r k i
      by false f q z k = here_reads p m q n r k i

  own_reads : {t : ℕ} {g : Scope} {a : Action} (w : Known t g a) → Made t a → (o : Outer) → own_outer o ≡ before a → FormComes w.known.scope (before a) o.cell.form → (n : Need) (r : code.Name) → In n (wanted (L.table.inputs_of t) (own_expr o)) → In r (needed n) → Read t g r
  own_reads {t} {g} {a} w p o q f n r h i = by o.cell.form refl f h
    where
      there : (x : Name) (j : ℕ) → o.cell.form ≡ read x j → inner o.cell ∈ before a
      there x j z = subst (λ (ps : List Part). inner o.cell ∈ ps) q (to_right o.parts _ (subst (λ (y : Form). inner o.cell ∈ Rattle.language_laws.specs.TypedValues.own_cell o.cell y) (sym z) first))

      by : (y : Form) → o.cell.form ≡ y → FormComes w.known.scope (before a) y → In n (wanted (L.table.inputs_of t) (own_form o.cell.node y)) → Read t g r
      by (compute e) z c k = expr_reads w p e c n r k i
      by (read x j) z c k = here_reads p (there x j z) (read_real l None (before a) (plain_before l a p.plain) (there x j z) z) n r k i

  simple_reads : {t : ℕ} {g : Scope} (a : Action) (w : Known t g a) → Made t a → IsSimple a → (e : Expr) (n : Need) (r : code.Name) → In e (own_exprs l (L.table.inputs_of t) a) → In n (wanted (L.table.inputs_of t) e) → In r (needed n) → Read t g r
  simple_reads {t} (assign x o) w p z e n r h k i = own_reads w p o refl w.known.comes.own.1 n r (subst (λ (y : Expr). In n (wanted (L.table.inputs_of t) y)) (only h) k) i
  simple_reads {t} (fill x o) w p z e n r h k i = own_reads w p o refl w.known.comes.own.1 n r (subst (λ (y : Expr). In n (wanted (L.table.inputs_of t) y)) (only h) k) i
  simple_reads {t} (insert x j o) w p z e n r (inl q) k i = seen_reads w p j.cell (outer_in (j ∷ o ∷ []) first) n r (subst (λ (y : Expr). In n (wanted (L.table.inputs_of t) y)) q k) i
  simple_reads {t} (insert x j o) w p z e n r (inr h) k i = seen_reads w p o.cell (outer_in (j ∷ o ∷ []) (later first)) n r (subst (λ (y : Expr). In n (wanted (L.table.inputs_of t) y)) (only h) k) i
  simple_reads {t} (print q o) w p z e n r h k i = own_reads w p o refl w.known.comes.own n r (subst (λ (y : Expr). In n (wanted (L.table.inputs_of t) y)) (only h) k) i
  simple_reads {t} (assert q o) w p z e n r h k i = own_reads w p o refl w.known.comes.own n r (subst (λ (y : Expr). In n (wanted (L.table.inputs_of t) y)) (only h) k) i
  simple_reads (declare v) w p z e n r h k i = absurd z
  simple_reads (call_alone q ps c) w p z e n r h k i = absurd z
  simple_reads (when c b) w p z e n r h k i = absurd z
  simple_reads (choose c b d) w p z e n r h k i = absurd z
  simple_reads (range lo hi st v u b) w p z e n r h k i = absurd z
  simple_reads (each x v u b) w p z e n r h k i = absurd z
  simple_reads (wait ns b) w p z e n r h k i = absurd z

  step_reads : {t : ℕ} {g : Scope} {a : Action} (w : Known t g a) → Made t a → (st : Option Outer) → ((o : Outer) → st ≡ Some o → inner o.cell ∈ before a) → (n : Need) (r : code.Name) → In n (wanted (L.table.inputs_of t) (step_expr l (L.table.inputs_of t) st)) → In r (needed n) → Read t g r
  step_reads w p None f n r h i = absurd h
  step_reads w p (Some o) f n r h i = seen_reads w p o.cell (f o refl) n r h i

  step_in : (lo hi : Outer) (st : Option Outer) (x : ℕ) (y : Option ℕ) (b : Block) (o : Outer) → st ≡ Some o → inner o.cell ∈ before (range lo hi st x y b)
  step_in lo hi None x y b o e = absurd (cc (e))
  step_in lo hi (Some q) x y b o e = outer_in (lo ∷ hi ∷ q ∷ []) (later (later (subst (λ (z : Outer). o ∈ (z ∷ [])) (sym (same_Some _ _ e)) first)))

  range_reads : {t : ℕ} {g : Scope} (lo hi : Outer) (st : Option Outer) (x : ℕ) (y : Option ℕ) (b : Block) (w : Known t g (range lo hi st x y b)) → Made t (range lo hi st x y b) → (e : Expr) (n : Need) (r : code.Name)
      → In e (own_exprs l (L.table.inputs_of t) (range lo hi st x y b)) → In n (wanted (L.table.inputs_of t) e) → In r (needed n) → Read t g r
  range_reads {t} lo hi st x y b w p e n r (inl q) k i = seen_reads w p lo.cell (outer_in (outers (range lo hi st x y b)) first) n r (subst (λ (z : Expr). In n (wanted (L.table.inputs_of t) z)) q k) i
  range_reads {t} lo hi st x y b w p e n r (inr (inl q)) k i = seen_reads w p hi.cell (outer_in (outers (range lo hi st x y b)) (later first)) n r (subst (λ (z : Expr). In n (wanted (L.table.inputs_of t) z)) q k) i
  range_reads {t} lo hi st x y b w p e n r (inr (inr h)) k i = step_reads w p st (step_in lo hi st x y b) n r (subst (λ (z : Expr). In n (wanted (L.table.inputs_of t) z)) (only h) k) i

  -- waits
  pub record Awaits (k : ℕ) (g : Scope) (r : code.Name) : Type 0 where
    pub flag : Bool
    pub name : Name
    pub sees : SeesAs g name flag
    pub is : r ≡ name_as k flag name

  awaited_reads : (k : ℕ) (g : Scope) (ns : List Awaited) → ((x : Awaited) → x ∈ ns → AwaitedSeen g x) → (n : Need) (r : code.Name) → In n (map (awaited_need k) ns) → In r (needed n) → Awaits k g r
  awaited_reads k g [] f n r h i = absurd h
  awaited_reads k g (x ∷ ns) f n r (inl e) i = by x (f x first) e
    where
      by : (x : Awaited) → AwaitedSeen g x → n ≡ awaited_need k x → Awaits k g r
      by (Co.scalar y) s q = record { flag = false; name = y; sees = s; is = one_of_need r (name_as k false y) n (Stored (name_as k false y)) q i refl }
      by (Co.array y) s q = record { flag = true; name = y; sees = s; is = one_of_need r (name_as k true y) n (Closed (name_as k true y)) q i refl }
  awaited_reads k g (x ∷ ns) f n r (inr h) i = awaited_reads k g ns (λ y m. f y (later m)) n r h i

  wait_same : {at n at' n' : ℕ} {ns ns' : List Awaited} {c c' : Block} → stmt at n (wait ns c) ≡ stmt at' n' (wait ns' c') → (ns ≡ ns') × (c ≡ c')
  wait_same h = (cc, cc)

  headers_read : {k : ℕ} {st : Stmt} {hs : List Header} {c : Block} (at n : ℕ) (ns : List Awaited) (d : Block) (g : Scope) → Headers k st hs c → st ≡ stmt at n (wait ns d) → ((x : Awaited) → x ∈ ns → AwaitedSeen g x) → InScopes sigs type_of g d
      → (h : Header) (m : Need) (r : code.Name) → In h hs → In m h.needs → In r (needed m) → Awaits k g r
  headers_read {k} at n ns d g (one_header {at = at'} {ns = ns'} {hs = hs} lone e) q f i h m r j u v =
      let same : ns' ≡ ns = (wait_same q).0 in
      let is : h ≡ header k at' ns' = only (subst (λ (z : List Header). In h z) e j) in
      awaited_reads k g ns f m r (subst (λ (z : List Awaited). In m (map (awaited_need k) z)) same (subst (λ (z : Header). In m z.needs) is u)) v
  headers_read {k} at n ns d g (more_headers {at = at'} {ns = ns'} {st = st} {gs = gs} {hs = hs} y e) q f i h m r j u v = by (subst (λ (z : List Header). In h z) e j) (λ a1 n1 ns1 d1 o f1 i1 z. headers_read a1 n1 ns1 d1 g y o f1 i1 h m r z u v)
    where
      same : (ns' ≡ ns) × (stmts st no_stmts ≡ d)
      same = wait_same q

      rest : {hs' : List Header} {c : Block} (u' : Stmt) → Headers k u' hs' c → st ≡ u' → In h hs' → ((at1 n1 : ℕ) (ns1 : List Awaited) (d1 : Block) → st ≡ stmt at1 n1 (wait ns1 d1) → ((x : Awaited) → x ∈ ns1 → AwaitedSeen g x) → InScopes sigs type_of g d1 → Awaits k g r) → Awaits k g r
      rest u' (one_header {at = a1} {n = n1} {ns = ns1} {b = b1} lone z) o p rec =
          let w = one_wait sigs type_of (subst (λ (x : Stmt). InScopes sigs type_of g (stmts x no_stmts)) o (subst (λ (x : Block). InScopes sigs type_of g x) (sym same.1) i)) in
          rec a1 n1 ns1 b1 o w.comes.own w.content
      rest u' (more_headers {at = a1} {n = n1} {ns = ns1} {st = s1} y' z) o p rec =
          let w = one_wait sigs type_of (subst (λ (x : Stmt). InScopes sigs type_of g (stmts x no_stmts)) o (subst (λ (x : Block). InScopes sigs type_of g x) (sym same.1) i)) in
          rec a1 n1 ns1 (stmts s1 no_stmts) o w.comes.own w.content

      by : In h (header k at' ns' ∷ gs) → ((at1 n1 : ℕ) (ns1 : List Awaited) (d1 : Block) → st ≡ stmt at1 n1 (wait ns1 d1) → ((x : Awaited) → x ∈ ns1 → AwaitedSeen g x) → InScopes sigs type_of g d1 → In h gs → Awaits k g r) → Awaits k g r
      by (inl z) rec = awaited_reads k g ns f m r (subst (λ (x : List Awaited). In m (map (awaited_need k) x)) same.0 (subst (λ (x : Header). In m x.needs) z u)) v
      by (inr z) rec = rest st y refl z (λ a1 n1 ns1 d1 o f1 i1. rec a1 n1 ns1 d1 o f1 i1 z)

  abbrev NeedsOf : ℕ → code.Name → Type 0
  NeedsOf j r = (n : Need) × In n (entry C j).needs × In r (needed n)

  by_needs : (j : ℕ) (ns : List Need) (n : Need) → (entry C j).needs ≡ ns → In n (entry C j).needs → In n ns
  by_needs j ns n e h = subst (λ (z : List Need). In n z) e h

  own_need : (t j : ℕ) (a : Action) (m : Need) → (entry C j).needs ≡ own_needs l (L.table.inputs_of t) a → In m (entry C j).needs → (e : Expr) × In e (own_exprs l (L.table.inputs_of t) a) × In m (wanted (L.table.inputs_of t) e)
  own_need t j a m e h =
      of_exprs (L.table.inputs_of t) m (own_exprs l (L.table.inputs_of t) a)
      (of_once m (flat_map (wanted (L.table.inputs_of t)) (own_exprs l (L.table.inputs_of t) a)) (by_needs j (own_needs l (L.table.inputs_of t) a) m e h))

  own_needs_read : {t at n j : ℕ} {g : Scope} (a : Action) (w : Known t g a) → at ≡ w.at → n ≡ w.node → Made t a → OwnOf C l L.table (L.table.inputs_of t) (stmt at n a) j → (m : Need) (r : code.Name) → In m (entry C j).needs → In r (needed m) → Read t g r
  own_needs_read {t} {j = j} a w q1 q2 p (own_simple z e q) m r h i = let u = own_need t j a m e.needs_is h in simple_reads a w p z u.0 m r u.1 u.2 i
  own_needs_read {t} {j = j} a w q1 q2 p (own_branch {c = c} e mk s) m r h i =
      let u = own_need t j a m e.needs_is h in
      seen_reads w p c.cell (outer_in (c ∷ []) first) m r (subst (λ (z : Expr). In m (wanted (L.table.inputs_of t) z)) (only u.1) u.2) i
  own_needs_read {t} {j = j} a w q1 q2 p (own_branches {c = c} e mk s s') m r h i =
      let u = own_need t j a m e.needs_is h in
      seen_reads w p c.cell (outer_in (c ∷ []) first) m r (subst (λ (z : Expr). In m (wanted (L.table.inputs_of t) z)) (only u.1) u.2) i
  own_needs_read {t} {j = j} a w q1 q2 p (own_range {x = x} {lo = lo} {hi = hi} {st = st} {y = y} {b = b} e mk s) m r h i =
      let u = own_need t j a m e.needs_is h in
      range_reads lo hi st x y b w p u.0 m r u.1 u.2 i
  own_needs_read {t} {j = j} a w q1 q2 p (own_each {a = x} e mk s) m r h i =
      let u = own_need t j a m e.needs_is h in
      expr_reads w p (Co.whole x) w.known.comes.own m r (subst (λ (z : Expr). In m (wanted (L.table.inputs_of t) z)) (only u.1) u.2) i
  own_needs_read {t} {at} {n} {j} a w q1 q2 p (own_wait {ns = ns} {c = c} {hs = hs} hd e s) m r h i =
      let u = of_flat hs m (of_once m (flat_map (λ (z : Header). z.needs) hs) (by_needs j (each_once (flat_map (λ (z : Header). z.needs) hs)) m e.needs_is h)) in
      let x = headers_read at n ns c w.known.scope hd refl w.known.comes.own (w.known.content ns c refl) u.0 m r u.1 u.2 i in
      reads_seen w x.sees r x.is

  index_reads : {t n : ℕ} {g : Scope} {a : Action} {x : Name} {need : Need} (w : Known t g a) → Made t a → IndexAs C l (L.table.inputs_of t) (own_parts a) x n need → SeesAs w.known.scope x true → (r : code.Name) → In r (needed need) → Read t g r
  index_reads w p (at_literal m e) s r h = reads_seen w s r (only h)
  index_reads w p (at_name m e) s r (inl q) = reads_seen w s r q
  index_reads {a = a} w p (at_name m e) s r (inr h) = reads_come w p (w.known.comes.parts _ (inner_before sigs type_of a (cell_part (own_parts a) m))) r (only h)
  index_reads w p (at_datum m e) s r (inl q) = reads_seen w s r q
  index_reads {a = a} w p (at_datum m e) s r (inr h) = reads_cell p (inner_before sigs type_of a (cell_part (own_parts a) m)) e r (only h)

  at_entry : {i j : ℕ} (m : Need) → In i (j ∷ []) → In m (entry C i).needs → In m (entry C j).needs
  at_entry m h u = subst (λ (z : ℕ). In m (entry C z).needs) (only h) u

  part_reads : {t at : ℕ} {q : ℤ} {g : Scope} {a : Action} {x : Part} {js : List ℕ} (i : ℕ) (w : Known t g a) → Made t a → x ∈ own_parts a → PartAs C l (L.table.inputs_of t) (own_parts a) at q x js → In i js → (m : Need) (r : code.Name) → In m (entry C i).needs → In r (needed m) → Read t g r
  part_reads i w p k (plain_literal e) h m r u v = absurd h
  part_reads i w p k (plain_name e) h m r u v = absurd h
  part_reads {t} {a = a} i w p k (a_cell {j = j} {e = x} e q en) h m r u v =
      expr_reads w p x (w.known.comes.parts _ (inner_before sigs type_of a k)) m r (of_once m _ (by_needs j _ m en.needs_is (at_entry m h u))) v
  part_reads {t} {a = a} i w p k (a_read {j = j} {need = need} e q ix en) h m r u v =
      index_reads w p ix (w.known.comes.parts _ (inner_before sigs type_of a k)) r (subst (λ (z : Need). In r (needed z)) (only (by_needs j (need ∷ []) m en.needs_is (at_entry m h u))) v)
  part_reads i w p k (a_call {j = j} ca) h m r u v = absurd (by_needs j [] m (ca.is).needs_is (at_entry m h u))

  pub base_reads : (t j : ℕ) (g : Scope) (r : code.Name) → In j (body C t).entries → InScopes sigs type_of g (L.table.block_of t) → In r (needs_of (entry C j)) → Read t g r
  base_reads t j g r h sc u = (let x = home_in C l L t j h in let n = of_needed r (entry C j).needs u in by (x.of).st (x.of).there x.role n.0 n.1 n.2)
    where
      by : (st : Stmt) → st ∈ block_list (L.table.block_of t) → Role C l L.table (L.table.inputs_of t) st j → (n : Need) → In n (entry C j).needs → In r (needed n) → Read t g r
      by (stmt at n a) m role nd v z =
          let w : Known t g a = record { at = at; node = n; there = m; known = lookup sigs type_of sc m; in_code = body_within C t j h } in
          let p = stmt_made C l L t at n a (body_within C t j h) m in
          elim role [ inl q ↦ part_reads j w p q.there q.as_part q.among nd r v z | inr o ↦ own_needs_read a w refl refl p o nd r v z ]

  -- TARGETS
  module _ (single : SinglyAssigned s) (kinds : fs ≡ map kinds_of_signature sigs) where
    abbrev pub Written : ℕ → Scope → code.Name → Type 0
    Written t g r = Settled C l L found scoped sigs type_of S D Assigns t g r

    written_seen : {t : ℕ} {g : Scope} {a : Action} {d : Bool} {x : Name} (w : Known t g a) → SeesAs w.known.scope x d → Assigns d (L.table.block_of t) x.what → (r : code.Name) → r ≡ name_as (L.table.inputs_of t) d x → Written t g r
    written_seen w s k r e = settle C l L found scoped sigs type_of S D Assigns w s k r e

    written_cell : {t n : ℕ} {g : Scope} {a : Action} {c : Cell} → Made t a → inner c ∈ before a → l.plain c.node ≡ false → (r : code.Name) → n ≡ c.node → r ≡ code.here (scalar n) → Written t g r
    written_cell {t} p m e r q z = inl (subst (λ (y : code.Name). Declared C t y) (sym (z ∙ ap (λ (y : ℕ). code.here (scalar y)) q)) (cell_declared C l L p m e))

    fill_stores : (k n : ℕ) (ms : List Need) (x : Name) (e : Expr) (r : code.Name) → In r (targets_of n (fill_act l k ms x e)) → r ≡ name_as k true x
    fill_stores k n ms x (Co.whole y) r h = only h
    fill_stores k n ms x (Co.literal y) r h = only h
    fill_stores k n ms x (Co.name y) r h = only h
    fill_stores k n ms x (Co.operator y es) r h = only h

    simple_written : {t : ℕ} {g : Scope} (n : ℕ) (a : Action) (w : Known t g a) → IsSimple a → (r : code.Name) → In r (targets_of n (simple_act l (L.table.inputs_of t) (own_needs l (L.table.inputs_of t) a) a)) → Written t g r
    simple_written n (assign x o) w z r h = written_seen w w.known.comes.own.0 (names false w.there first refl) r (only h)
    simple_written {t} n (fill x o) w z r h = written_seen w w.known.comes.own.0 (names true w.there first refl) r (fill_stores (L.table.inputs_of t) n _ x (own_expr o) r h)
    simple_written n (insert x j o) w z r h = written_seen w w.known.comes.own (writes w.there first refl) r (only h)
    simple_written n (print q o) w z r h = absurd h
    simple_written n (assert q o) w z r h = absurd h
    simple_written n (declare v) w z r h = absurd z
    simple_written n (call_alone q ps c) w z r h = absurd z
    simple_written n (when c b) w z r h = absurd z
    simple_written n (choose c b d) w z r h = absurd z
    simple_written n (range lo hi st v u b) w z r h = absurd z
    simple_written n (each x v u b) w z r h = absurd z
    simple_written n (wait ns b) w z r h = absurd z

    by_target : (j n : ℕ) (a : Act) (r : code.Name) → (entry C j).act ≡ a → In r (targets_of n (entry C j).act) → In r (targets_of n a)
    by_target j n a r e h = subst (λ (z : Act). In r (targets_of n z)) e h

    own_written : {t at n j : ℕ} {g : Scope} (a : Action) (w : Known t g a) → OwnOf C l L.table (L.table.inputs_of t) (stmt at n a) j → (r : code.Name) → In r (targets (entry C j)) → Written t g r
    own_written {j = j} a w (own_simple z e q) r h = simple_written (entry C j).node a w z r (by_target j (entry C j).node _ r e.act_is h)
    own_written {j = j} a w (own_branch e mk s) r h = absurd (by_target j (entry C j).node _ r e.act_is h)
    own_written {j = j} a w (own_branches e mk s s') r h = absurd (by_target j (entry C j).node _ r e.act_is h)
    own_written {j = j} a w (own_range e mk s) r h = absurd (by_target j (entry C j).node _ r e.act_is h)
    own_written {j = j} a w (own_each e mk s) r h = absurd (by_target j (entry C j).node _ r e.act_is h)
    own_written {j = j} a w (own_wait hd e s) r h = absurd (by_target j (entry C j).node _ r e.act_is h)

    abbrev CallIn : Scope → Action → Call → Type 0
    CallIn g a c = CallKnown C l L found scoped sigs type_of S D Assigns (keeps_targets s single) g a c

    -- the kinds of a call's outputs are those of its function
    pub call_kind : {k i at : ℕ} {q : ℤ} {all : List Part} {c : Call} {sig : Signature} → slice_get sigs c.function ≡ Some sig → l.body_of c.function ≡ suc c.function → (ca : CallAs C l k all at q c i) → (j : ℕ) (r : code.Name) (τ : Typ)
        → slice_get ca.outs j ≡ Some r → slice_get sig.outputs j ≡ Some τ → is_array_name r ≡ is_array_shape τ.shape
    call_kind {i = i} {c = c} {sig = sig} there e ca j r τ o ty =
        let f = L.fit i c.function ca.ins ca.outs ((ca.is).act_is ∙ ap (λ (b : ℕ). code.Call b ca.ins ca.outs) e) in
        let q = f.2 in
        q.fits.outputs (kinds_of_signature sig) j r (is_array_shape τ.shape)
        (subst (λ (n : ℕ). slice_get fs n ≡ Some (kinds_of_signature sig)) (sym q.function) (subst (λ (z : List Kinds). slice_get z c.function ≡ Some (kinds_of_signature sig)) (sym kinds) (get_map kinds_of_signature sigs c.function sig there)))
        o (get_map (λ (z : Typ). is_array_shape z.shape) sig.outputs j τ ty)

    type_at : {g : Scope} {a : Action} {c : Call} (k : CallIn g a c) (j : ℕ) (x : Name) → slice_get c.outputs j ≡ Some x → (τ : Typ) × (slice_get k.signature.outputs j ≡ Some τ)
    type_at {c = c} k j x e = elim k.outputs [
      | inl h ↦ (let z = (get_one (here (h.1).node) x j (subst (λ (xs : List Name). slice_get xs j ≡ Some x) (h.1).is e)).0 in
          ((h.1).type, subst (λ (n : ℕ). slice_get k.signature.outputs n ≡ Some (h.1).type) (sym z) (subst (λ (xs : List Typ). slice_get xs 0 ≡ Some (h.1).type) (sym (h.1).typed) refl)))
      | inr h ↦ (let q = out_type j x h.3 e in (q.0, q.1))
    ]

    calls_written : {t i at : ℕ} {q : ℤ} {g : Scope} {a : Action} {c : Call} (w : Known t g a) → Made t a → calls c ∈ own_parts a → l.body_of c.function ≡ suc c.function → CallAs C l (L.table.inputs_of t) (own_parts a) at q c i → (r : code.Name) → In r (targets (entry C i)) → Written t g r
    calls_written {t} {i} {g = g} {a = a} {c = c} w p m e ca r h =
        let k : CallIn w.known.scope a c = call_known C l L found scoped sigs type_of S D Assigns (keeps_targets s single) w m in
        let o = get_some ca.outs r (by_target i (entry C i).node _ r (ca.is).act_is h) in
        let x = out_at C l o.0 r ca.outputs o.1 in
        let τ = type_at k o.0 x.0 x.2 in
        out_settled C l L found scoped sigs type_of S D Assigns (keeps_targets s single) w p k ca.outputs o.0 τ.0 (is_array_shape (τ.0).shape) r τ.1 refl o.1 (call_kind k.there e ca o.0 r τ.0 o.1 τ.1)

    at_target : {i j : ℕ} (r : code.Name) → In i (j ∷ []) → In r (targets (entry C i)) → In r (targets (entry C j))
    at_target r m u = subst (λ (z : ℕ). In r (targets (entry C z))) (only m) u

    part_written : {t at : ℕ} {q : ℤ} {g : Scope} {a : Action} {x : Part} {js : List ℕ} (i : ℕ) (w : Known t g a) → Made t a → ((n : ℕ) → l.body_of n ≡ suc n) → x ∈ own_parts a → PartAs C l (L.table.inputs_of t) (own_parts a) at q x js → In i js → (r : code.Name) → In r (targets (entry C i)) → Written t g r
    part_written i w p e k (plain_literal z) h r u = absurd h
    part_written i w p e k (plain_name z) h r u = absurd h
    part_written {t} {a = a} i w p e k (a_cell {j = j} z q en) h r u = written_cell p (inner_before sigs type_of a k) z r q (only (by_target j (entry C j).node _ r en.act_is (at_target r h u)))
    part_written {t} {a = a} i w p e k (a_read {j = j} z q ix en) h r u = written_cell p (inner_before sigs type_of a k) z r q (only (by_target j (entry C j).node _ r en.act_is (at_target r h u)))
    part_written i w p e k (a_call {c = c} ca) h r u = calls_written w p k (e c.function) ca r (at_target r h u)

    pub base_written : (t j : ℕ) (g : Scope) (r : code.Name) → In j (body C t).entries → InScopes sigs type_of g (L.table.block_of t) → In r (targets (entry C j)) → Written t g r
    base_written t j g r h sc u = (let x = home_in C l L t j h in by x (x.of).st (x.of).there x.role)
      where
        by : HomeIn C l L t j → (st : Stmt) → st ∈ block_list (L.table.block_of t) → Role C l L.table (L.table.inputs_of t) st j → Written t g r
        by x (stmt at n a) m role =
            let w : Known t g a = record { at = at; node = n; there = m; known = lookup sigs type_of sc m; in_code = body_within C t j h } in
            let p = stmt_made C l L t at n a (body_within C t j h) m in
            elim role [ inl q ↦ part_written j w p (x.laid.suits at n a m).bodies q.there q.as_part q.among r u | inr o ↦ own_written a w o r u ]
