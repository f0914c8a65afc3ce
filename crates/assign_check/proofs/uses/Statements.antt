-- What a statement of a well typed script reads, in no block inside it, and what it assigns.
use Rattle.std.specs.Prelude.{◌≡◌, ◌⊎◌, ℕ, ℤ, pos, List, [], ◌∷◌, ◌++◌, refl}
use Rattle.std.specs.List.{flat_map}
use Rattle.std.proofs.Common.{inl, inr, sym, ap, subst}
use Rattle.values.specs.Operators as op
use Rattle.language.specs.declared.tree.Base.{Base}
use Rattle.language.specs.declared.tree.Shape.{Shape}
use Rattle.language.specs.declared.tree.Shape.TheVariants.{Scalar}
use Rattle.language.specs.Core.{Owned, Name, whole, compute, Call, Part, inner, calls, Outer, scalar, Stmt, stmt, Action, call_alone, assign, fill, wait}
use Rattle.language.specs.Members.{◌∈◌, first, later}
use Rattle.language.specs.Numbers.{expression_numbers, expressions_numbers, right_numbers}
use Rattle.language.specs.Parts.{outer_parts, parts, by_name, by_element}
use Rattle.language.specs.Resolved.{Formed, Arguments, computes, form_of, operands_of, arguments_of, number_of, refers, outer, outer_of, right_of, plain_right, call_right, composite_call, call_to}
use Rattle.language.specs.Scopes.{Typ, Scope, Signature}
use Rattle.language.specs.Single.{IsSimple}
use Rattle.language.specs.Table.{Table, Callee, composite}
use Rattle.language.specs.Tree.{Word, Expression, expression, variable, call, Expressions, expressions_of, RightSide, value}
use Rattle.language.specs.Typing.{HasType, of_number, of_text, of_truth, of_variable, of_element, of_prefixed, of_chain, of_call, of_builtin, ArgumentTypes, RightType, of_scalar, of_copy, of_list, of_array_call}
use Rattle.language.proofs.Tested.{declared_of}
use Rattle.assign_check.specs.Outline as outline
use Rattle.assign_check.specs.Outline.{Use, Declared, Step, declares, uses, name_read, read_in, read_all, read_right}
use Rattle.assign_check.proofs.like.Like.{Plain, no_step as nothing_read, named_step, read_step as is_read}
use Rattle.assign_check.proofs.uses.Reading.{Clear, Counted, Match, match_same, match_both, match_array, InParts, InFormed, InArguments, no_parts, parts_left, parts_right, parts_either, cell_first, cell_split, call_split, match_cell, computed, reading_of, all_of, arguments_read}

-- READS OF A STATEMENT

abbrev pub InWait : Owned → Action → Type 0
InWait x (wait ns d) = (y : Name) × (scalar y ∈ ns) × (y.what ≡ x)
InWait x _ = ⊥

-- a statement reads a scalar's name, in no block inside it
abbrev pub ReadHere : Owned → Action → Type 0
ReadHere x a = InParts x (parts a) ⊎ InWait x a

abbrev pub action_of : Stmt → Action
action_of (stmt at n a) = a

-- the reads among steps are a statement's; of variables with a taken number nothing is said; what the statement declares has a number of its own kind
pub record SameReads (Taken Own : ℕ → Type 0) (ss : List Step) (st : Stmt) : Type 0 where
  pub own : (v : ℕ) → v ∈ declared_of (action_of st) → Own v
  pub to : (u : Use) → uses u ∈ ss → u.kind ≡ outline.read → ReadHere u.of (action_of st)
  pub from : (x : Owned) → Clear Taken x → ReadHere x (action_of st) → (u : Use) × (uses u ∈ ss) × (u.kind ≡ outline.read) × (u.of ≡ x)

only_reads : {rs : List Step} {u : Use} → Plain rs [] [] [] → uses u ∈ rs → u.kind ≡ outline.read
only_reads nothing_read m = elim m [ ]
only_reads (is_read h p) first = h
only_reads (is_read h p) (later m) = only_reads p m

pub same_reads : {Taken Own : ℕ → Type 0} {rs : List Step} {at n : ℕ} {a : Action} → ((v : ℕ) → v ∈ declared_of a → Own v) → Match Taken rs (λ x. ReadHere x a)
    → SameReads Taken Own rs (stmt at n a)
same_reads o m = record {
  own = o;
  to = λ u i k. m.to u i;
  from = λ x d h. let r = m.from x d h in (r.0, r.1, only_reads m.plain r.1, r.2);
}

-- a target or a declaration in front of reads
pub behind_target : {Taken Own : ℕ → Type 0} {u : Use} {ss : List Step} {st : Stmt} → (u.kind ≡ outline.read → ⊥) → SameReads Taken Own ss st → SameReads Taken Own (uses u ∷ ss) st
behind_target {u = u} {ss = ss} {st = st} f r = record {
  own = r.own;
  to = λ v i k. one v i k;
  from = λ x d h. let q = r.from x d h in (q.0, later q.1, q.2, q.3);
}
  where
    one : (v : Use) → uses v ∈ (uses u ∷ ss) → v.kind ≡ outline.read → ReadHere v.of (action_of st)
    one v first k = absurd (f k)
    one v (later m) k = r.to v m k

pub behind_declaration : {Taken Own : ℕ → Type 0} {d : Declared} {ss : List Step} {st : Stmt} → SameReads Taken Own ss st → SameReads Taken Own (declares d ∷ ss) st
behind_declaration {d = d} {ss = ss} {st = st} r = record {
  own = r.own;
  to = λ v i k. one v i k;
  from = λ x d h. let q = r.from x d h in (q.0, later q.1, q.2, q.3);
}
  where
    one : (v : Use) → uses v ∈ (declares d ∷ ss) → v.kind ≡ outline.read → ReadHere v.of (action_of st)
    one v (later m) k = r.to v m k

-- OUTERMOST CELLS

pub at_parts : {Taken : ℕ → Type 0} {rs : List Step} (a : Action) → ((x : Owned) → InWait x a → ⊥) → Match Taken rs (λ x. InParts x (parts a)) → Match Taken rs (λ x. ReadHere x a)
at_parts a f m = match_same (λ x p. inl p) (λ x d q. elim q [ inl h ↦ h | inr z ↦ absurd (f x z) ]) m

pub next_outer : {Taken : ℕ → Type 0} {rs qs : List Step} (n : ℕ) (f : Formed) (os : List Outer) → Match Taken rs (λ x. InFormed x f) → Match Taken qs (λ x. InParts x (outer_parts os))
    → Match Taken (rs ++ qs) (λ x. InParts x (outer_parts (outer_of n f ∷ os)))
next_outer n (ps, f) os m k = match_same (λ x p. to p) (λ x d q. from q) (match_both m k)
  where
    to : {x : Owned} → (InFormed x (ps, f) ⊎ InParts x (outer_parts os)) → InParts x (ps ++ inner (record { node = n; form = f }) ∷ outer_parts os)
    to (inl (inl h)) = parts_left ps (inner (record { node = n; form = f }) ∷ outer_parts os) h
    to (inl (inr r)) = parts_right ps (inner (record { node = n; form = f }) ∷ outer_parts os) (cell_first n f (outer_parts os) r)
    to (inr h) = parts_right ps (inner (record { node = n; form = f }) ∷ outer_parts os) (behind h)
      where
        behind : {x : Owned} {p : Part} {qs : List Part} → InParts x qs → InParts x (p ∷ qs)
        behind h = record { node = h.node; expr = h.expr; there = later h.there; reads = h.reads }

    from : {x : Owned} → InParts x (ps ++ inner (record { node = n; form = f }) ∷ outer_parts os) → (InFormed x (ps, f) ⊎ InParts x (outer_parts os))
    from h = elim (parts_either ps (inner (record { node = n; form = f }) ∷ outer_parts os) h) [
      | inl i ↦ inl (inl i)
      | inr i ↦ elim (cell_split n f (outer_parts os) i) [ inl r ↦ inl (inr r) | inr j ↦ inr j ]
    ]

-- the only outermost cell is the last
pub last_outer : {Taken : ℕ → Type 0} {rs : List Step} (n : ℕ) (f : Formed) → Match Taken rs (λ x. InFormed x f) → Match Taken rs (λ x. InParts x (outer_parts (outer_of n f ∷ [])))
last_outer n (ps, f) m = match_cell n (ps, f) m

pub in_call : {Taken : ℕ → Type 0} {rs : List Step} (p : ℤ) (w : Word) (i : ℕ) (a : Arguments) (os : List Name) → Match Taken rs (λ x. InArguments x a)
    → Match Taken rs (λ x. ReadHere x (composite_call p w i a os))
in_call p w i (ps, xs) os m = match_same (λ x h. inl (parts_left ps (calls (call_to w i xs os) ∷ []) h)) (λ x d q. elim q [ inl h ↦ call_split ps (call_to w i xs os) h | inr z ↦ absurd z ]) m

-- RIGHT SIDES

-- an action assigns one name, and is simple
pub data Sets (x : Name) : Action → Type 0 where
  by_assign : {e : Outer} → Sets x (assign x e)
  by_fill : {e : Outer} → Sets x (fill x e)
  by_call : {p : ℤ} {ps : List Part} {c : Call} → c.outputs ≡ x ∷ [] → Sets x (call_alone p ps c)

pub sets_simple : {x : Name} {a : Action} → Sets x a → IsSimple a
sets_simple by_assign = tt
sets_simple by_fill = tt
sets_simple (by_call e) = tt

pub sets_declare_nothing : {x : Name} {a : Action} {v : ℕ} → Sets x a → v ∈ declared_of a → ⊥
sets_declare_nothing by_assign m = elim m [ ]
sets_declare_nothing by_fill m = elim m [ ]
sets_declare_nothing (by_call e) m = elim m [ ]

pub sets_plain : {x : Name} {a : Action} {u : Use} {rs : List Step} → Sets x a → u.kind ≡ outline.named → x.what ≡ u.of → Plain rs [] [] []
    → Plain (uses u ∷ rs) (by_name a) (by_element a) (declared_of a)
sets_plain by_assign k e p = named_step k e p
sets_plain by_fill k e p = named_step k e p
sets_plain {u = u} {rs = rs} (by_call q) k e p = subst (λ (ns : List Name). Plain (uses u ∷ rs) ns [] []) (sym q) (named_step k e p)

set_by_call : {x : Name} (p : ℤ) (w : Word) (i : ℕ) (a : Arguments) → Sets x (composite_call p w i a (x ∷ []))
set_by_call p w i (ps, xs) = by_call refl

-- an action with what it sets and reads
pub record Right (Taken : ℕ → Type 0) (rs : List Step) (x : Name) (a : Action) : Type 0 where
  pub sets : Sets x a
  pub reads : Match Taken rs (λ z. ReadHere z a)

flat_numbers : (es : List Expression) → expressions_numbers (expressions_of es) ≡ flat_map expression_numbers es
flat_numbers [] = refl
flat_numbers (e ∷ es) = ap (λ ns. expression_numbers e ++ ns) (flat_numbers es)

pub in_list : {Taken : ℕ → Type 0} (es : List Expression) → Counted Taken (flat_map expression_numbers es) → Counted Taken (expressions_numbers (expressions_of es))
in_list {Taken} es k = subst (λ (ns : List ℕ). Counted Taken ns) (sym (flat_numbers es)) k

module _ (Taken : ℕ → Type 0) (fs : List Signature) (t : Table) (g : Scope) (x : Name) where
  assigned_by : {e : Expression} {b : Base} → HasType fs t g e b → Counted Taken (expression_numbers e) → Right Taken (read_in t e) x (assign x (outer t e))
  assigned_by {e = e} h k = record {
    sets = by_assign;
    reads = at_parts (assign x (outer t e)) (λ z i. i) (last_outer (number_of e) (form_of t e) (reading_of Taken fs t g h k));
  }

  called_by : (w : Word) {es : Expressions} {τs : List Typ} (e : Expression) (i : ℕ) → ArgumentTypes fs t g es τs → Counted Taken (expressions_numbers es) → t.callee_of w.number ≡ composite i
      → Right Taken (read_all t es) x (call_right t x e w es (t.callee_of w.number))
  called_by w {es} e i h k q = subst (λ (c : Callee). Right Taken (read_all t es) x (call_right t x e w es c)) (sym q) (record {
    sets = set_by_call (pos 0) w i (arguments_of t es);
    reads = in_call (pos 0) w i (arguments_of t es) (x ∷ []) (arguments_read Taken fs t g h k);
  })

  scalar_right : {e : Expression} {b : Base} → HasType fs t g e b → Counted Taken (expression_numbers e) → Right Taken (read_in t e) x (right_of t x Scalar (value e))
  scalar_right (of_number {nd = nd}) k = assigned_by (of_number {nd = nd}) k
  scalar_right (of_text {nd = nd}) k = assigned_by (of_text {nd = nd}) k
  scalar_right (of_truth {nd = nd}) k = assigned_by (of_truth {nd = nd}) k
  scalar_right (of_variable {nd = nd} r) k = assigned_by (of_variable {nd = nd} r) k
  scalar_right (of_element {nd = nd} r h) k = assigned_by (of_element {nd = nd} r h) k
  scalar_right (of_prefixed {nd = nd} p h) k = assigned_by (of_prefixed {nd = nd} p h) k
  scalar_right (of_chain {nd = nd} h r) k = assigned_by (of_chain {nd = nd} h r) k
  scalar_right (of_call {nd = nd} {w = w} {es = es} c h e) k = called_by w (expression nd (call w es)) c.place h (λ n m. k n (later (later m))) c.named
  scalar_right (of_builtin {nd = nd} {w = w} {es = es} {f = f} c h) k =
      subst (λ (a : Callee). Right Taken (read_all t es) x (call_right t x (expression nd (call w es)) w es a)) (sym c.named) (assigned_by (of_builtin {nd = nd} c h) k)

  pub right_reads : {r : RightSide} {τ : Typ} (s : Shape) → RightType fs t g r τ → s ≡ τ.shape → Counted Taken (right_numbers r) → Right Taken (read_right t r) x (right_of t x s r)
  right_reads s (of_scalar {e = e} h) q k = subst (λ (z : Shape). Right Taken (read_in t e) x (right_of t x z (value e))) (sym q) (scalar_right h k)
  right_reads s (of_copy {nd = nd} {w = w} r) q k =
      subst (λ (z : Shape). Right Taken (name_read t w) x (plain_right t x z (expression nd (variable w)))) (sym q) (record {
        sets = by_fill;
        reads = match_array t w r.shaped (λ z p. elim p [ inl h ↦ no_copy h | inr i ↦ i ]);
      })
    where
      no_copy : {z : Owned} {n : ℕ} → InParts z (outer_parts (outer_of n ([], compute (whole (refers t w))) ∷ [])) → ⊥
      no_copy {n = n} h = elim (cell_split n (compute (whole (refers t w))) [] h) [ inl r ↦ elim r [ ] | inr i ↦ no_parts i ]
  right_reads s (of_list {nd = nd} {es = es} h) q k = record {
    sets = by_fill;
    reads = at_parts (fill x (outer_of nd.number (computes op.literal (operands_of t (expressions_of es))))) (λ z i. i)
        (last_outer nd.number (computes op.literal (operands_of t (expressions_of es)))
        (computed op.literal (operands_of t (expressions_of es)) (all_of Taken fs t g h (in_list es (λ n m. k n (later m))))));
  }
  right_reads s (of_array_call {nd = nd} {w = w} {es = es} c h e) q k = called_by w (expression nd (call w es)) c.place h (λ n m. k n (later (later m))) c.named
