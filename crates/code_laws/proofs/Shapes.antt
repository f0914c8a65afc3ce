-- The entries of laid code have their shape.
use Rattle.std.proofs.Common.{◌≡◌, ◌⊎◌, inl, inr, ℕ, zero, suc, ◌<◌, ℤ, Bool, true, List, [], ◌∷◌, length, refl, sym, subst, arith}
use Rattle.std.specs.Prelude.{◌&&◌}
use Rattle.std.specs.List.{list_all, list_any, flat_map}
use Rattle.std.proofs.lemmas.Bool.{and_from}
use Rattle.dataflow.specs.System.{In}
use Rattle.dataflow.proofs.Lists.{in_left, in_right}
use Rattle.language.specs.Core as Co
use Rattle.language.specs.Core.{Name, Expr, Part, Outer, Stmt, stmt, Action, declare, call_alone, assign, fill, insert, print, assert, when, choose, range, each, wait, Block, Core}
use Rattle.language.specs.Parts.{block_list}
use Rattle.task_code.specs.Code as code
use Rattle.task_code.specs.Code.{Need, Act, Entry, Header, Variable, Code, entry, body, nth, blank_entry, blank_body, is_array_name}
use Rattle.task_code.specs.Shape.{fits_kinds, is_plain, is_same_plain, is_fed, one_element, feeds, has_headers, has_shape, is_shaped}
use Rattle.task_code.proofs.Equal.{in_every}
use Rattle.code_rules.specs.CodeNames.{name_as, wanted, each_once, over}
use Rattle.code_rules.specs.IsCodeOf.{Layout, seen, own_expr, own_exprs, own_needs, step_expr, fill_act, simple_act, IsSimple, IsEntry, IndexAs, at_literal, at_name, at_datum, PartAs, plain_literal, plain_name, a_cell, a_read, a_call}
use Rattle.code_rules.specs.Laying.{Kinds}
use Rattle.code_rules.specs.Laid.{Table, BodyLaid, IsLaid}
use Rattle.code_laws.proofs.Needs.{flag_of, no_array, plain_same, in_once, of_once, AllFine, wanted_fine, flat_fine, once_fine, fine_kinds, fine_plain, is_fed_over, all_fed_over, headers_fine, HeadersFine, headers_flat, in_flat, of_flat, any_in}
use Rattle.code_laws.proofs.Roles.{OwnOf, own_simple, own_branch, own_branches, own_range, own_each, own_wait, Role, role_of, StmtOf, stmt_of}

-- MEMBERS BY NUMBERS

pub within : {X : Type 0} (d : X) (xs : List X) (i : ℕ) → (i < length xs) ⊎ (nth d xs i ≡ d)
within d [] i = inr refl
within d (x ∷ xs) zero = inl (omega arith)
within d (x ∷ xs) (suc i) = elim (within d xs i) [ inl l ↦ inl (omega arith) | inr e ↦ inr e ]

pub body_within : (C : Code) (t j : ℕ) → In j (body C t).entries → t < length C.bodies
body_within C t j h = elim (within blank_body C.bodies t) [
  | inl l ↦ l
  | inr e ↦ absurd (subst (λ (b : code.Body). In j b.entries) e h)
]

-- SHAPES

shaped : (e : Entry) (ns : List Need) (a : Act) → e.needs ≡ ns → e.act ≡ a → list_all fits_kinds ns ≡ true → has_shape a ns ≡ true → is_shaped e ≡ true
shaped e ns a q p h g =
    subst (λ (z : List Need). (list_all fits_kinds z && has_shape e.act z) ≡ true) (sym q)
    (subst (λ (z : Act). (list_all fits_kinds ns && has_shape z ns) ≡ true) (sym p) (and_from (list_all fits_kinds ns) (has_shape a ns) h g))

fed_all : (ns : List Need) (b : Bool) → AllFine ns → b ≡ true → feeds ns b ≡ true
fed_all ns b f h = and_from (list_all is_plain ns) b (fine_plain ns f) h

in_exprs : (k : ℕ) (e : Expr) (es : List Expr) → In e es → (n : Need) → In n (wanted k e) → In n (flat_map (wanted k) es)
in_exprs k e [] i n h = absurd i
in_exprs k e (x ∷ xs) (inl q) n h = in_left n (wanted k x) (flat_map (wanted k) xs) (subst (λ (z : Expr). In n (wanted k z)) q h)
in_exprs k e (x ∷ xs) (inr i) n h = in_right n (wanted k x) (flat_map (wanted k) xs) (in_exprs k e xs i n h)

-- the needs of several expressions, each once
abbrev needs_of : ℕ → List Expr → List Need
needs_of k es = each_once (flat_map (wanted k) es)

fine_of : (k : ℕ) (es : List Expr) → AllFine (needs_of k es)
fine_of k es = once_fine (flat_map (wanted k) es) (flat_fine k es)

fed_in : (k : ℕ) (e : Expr) (es : List Expr) → In e es → is_fed (length (needs_of k es)) (over k (needs_of k es) e) ≡ true
fed_in k e es i = is_fed_over k (needs_of k es) e (λ n h. in_once n (flat_map (wanted k) es) (in_exprs k e es i n h))

fill_shape : (l : Layout) (k : ℕ) (x : Name) (e : Expr) → has_shape (fill_act l k (needs_of k (e ∷ [])) x e) (needs_of k (e ∷ [])) ≡ true
fill_shape l k x (Co.whole b) = and_from (is_array_name (name_as k true x)) true (flag_of k true x) refl
fill_shape l k x (Co.literal v) = and_from (is_array_name (name_as k true x)) true (flag_of k true x) refl
fill_shape l k x (Co.name y) = and_from (is_array_name (name_as k true x)) true (flag_of k true x) refl
fill_shape l k x (Co.operator o es) =
    let ns = needs_of k (Co.operator o es ∷ []) in
    and_from (is_array_name (name_as k true x)) _ (flag_of k true x)
    (fed_all ns _ (fine_of k (Co.operator o es ∷ [])) (all_fed_over k ns es (λ n h. in_once n (flat_map (wanted k) (Co.operator o es ∷ [])) (in_exprs k (Co.operator o es) (Co.operator o es ∷ []) (inl refl) n h))))

headers_shape : (hs : List Header) → HeadersFine hs → has_headers hs (each_once (flat_map (λ h. h.needs) hs)) ≡ true
headers_shape hs f =
    let ns = each_once (flat_map (λ (h : Header). h.needs) hs) in
    and_from _ _
    (in_every (λ (h : Header). list_all (λ n. list_any (is_same_plain n) ns) h.needs) hs (λ h i. in_every (λ n. list_any (is_same_plain n) ns) h.needs (λ n j.
    any_in (is_same_plain n) n ns (in_once n _ (in_flat hs h n i j)) (plain_same n (f h i n j).1))))
    (in_every (λ (n : Need). list_any (λ (h : Header). list_any (is_same_plain n) h.needs) hs) ns (λ n i. (
    let r = of_flat hs n (of_once n _ i) in
    any_in (λ (h : Header). list_any (is_same_plain n) h.needs) r.0 hs r.1 (any_in (is_same_plain n) n (r.0).needs r.2 (plain_same n (f r.0 r.1 n r.2).1)))))

module _ (C : Code) (l : Layout) (T : Table) where
  -- an entry with the needs of these expressions
  fed_entry : (k j at : ℕ) (p : ℤ) (es : List Expr) (a : Act) → IsEntry (entry C j) at p (needs_of k es) a → has_shape a (needs_of k es) ≡ true → is_shaped (entry C j) ≡ true
  fed_entry k j at p es a e h = shaped (entry C j) (needs_of k es) a e.needs_is e.act_is (fine_kinds (needs_of k es) (fine_of k es)) h

  simple_shape : (k : ℕ) (a : Action) → IsSimple a → has_shape (simple_act l k (own_needs l k a) a) (own_needs l k a) ≡ true
  simple_shape k (assign x o) z = and_from _ _ (no_array k x) (fed_all _ _ (fine_of k (own_expr o ∷ [])) (fed_in k (own_expr o) (own_expr o ∷ []) (inl refl)))
  simple_shape k (fill x o) z = fill_shape l k x (own_expr o)
  simple_shape k (insert x i o) z =
      let es = seen l i.cell ∷ seen l o.cell ∷ [] in
      and_from _ _ (flag_of k true x) (fed_all _ _ (fine_of k es) (and_from _ _ (fed_in k (seen l i.cell) es (inl refl)) (fed_in k (seen l o.cell) es (inr (inl refl)))))
  simple_shape k (print p o) z = fed_all _ _ (fine_of k (own_expr o ∷ [])) (fed_in k (own_expr o) (own_expr o ∷ []) (inl refl))
  simple_shape k (assert p o) z = fed_all _ _ (fine_of k (own_expr o ∷ [])) (fed_in k (own_expr o) (own_expr o ∷ []) (inl refl))
  simple_shape k (declare v) z = absurd z
  simple_shape k (call_alone p ps c) z = absurd z
  simple_shape k (when c b) z = absurd z
  simple_shape k (choose c b d) z = absurd z
  simple_shape k (range lo hi st v t b) z = absurd z
  simple_shape k (each a v t b) z = absurd z
  simple_shape k (wait ns b) z = absurd z

  own_shaped : {k j : ℕ} {st : Stmt} → OwnOf C l T k st j → is_shaped (entry C j) ≡ true
  own_shaped {k} {j} (own_simple {at = at} {a = a} z e q) = fed_entry k j at _ (own_exprs l k a) _ e (simple_shape k a z)
  own_shaped {k} {j} (own_branch {at = at} {c = c} e m s) =
      let es = seen l c.cell ∷ [] in fed_entry k j at _ es _ e (fed_all _ _ (fine_of k es) (fed_in k (seen l c.cell) es (inl refl)))
  own_shaped {k} {j} (own_branches {at = at} {c = c} e m s u) =
      let es = seen l c.cell ∷ [] in fed_entry k j at _ es _ e (fed_all _ _ (fine_of k es) (fed_in k (seen l c.cell) es (inl refl)))
  own_shaped {k} {j} (own_range {at = at} {lo = lo} {hi = hi} {st = st} e m s) =
      let es = seen l lo.cell ∷ seen l hi.cell ∷ step_expr l k st ∷ [] in
      fed_entry k j at _ es _ e
      (fed_all _ _ (fine_of k es) (and_from _ _ (fed_in k (seen l lo.cell) es (inl refl)) (and_from _ _ (fed_in k (seen l hi.cell) es (inr (inl refl))) (fed_in k (step_expr l k st) es (inr (inr (inl refl)))))))
  own_shaped {k} {j} (own_each {at = at} {a = a} e m s) = fed_entry k j at _ (Co.whole a ∷ []) _ e refl
  own_shaped {k} {j} (own_wait {at = at} {hs = hs} w e s) =
      let f = headers_fine w in
      shaped (entry C j) _ _ e.needs_is e.act_is (fine_kinds _ (once_fine _ (headers_flat hs f))) (headers_shape hs f)

  index_shape : {k n : ℕ} {all : List Part} {x : Name} {need : Need} → IndexAs C l k all x n need → (list_all fits_kinds (need ∷ []) ≡ true) × (one_element (need ∷ []) ≡ true)
  index_shape {k} {x = x} (at_literal i p) = (and_from _ _ (flag_of k true x) refl, refl)
  index_shape {k} {x = x} (at_name {x = y} i p) = (and_from _ _ (and_from _ _ (flag_of k true x) (no_array k y)) refl, refl)
  index_shape {k} {x = x} (at_datum {c = c} i p) = (and_from _ _ (and_from _ _ (flag_of k true x) refl) refl, refl)

  only_that : (i : ℕ) {j : ℕ} → In j (i ∷ []) → is_shaped (entry C i) ≡ true → is_shaped (entry C j) ≡ true
  only_that i (inl e) h = subst (λ (z : ℕ). is_shaped (entry C z) ≡ true) (sym e) h
  only_that i (inr z) h = absurd z

  part_shaped : {k at : ℕ} {p : ℤ} {all : List Part} {x : Part} {js : List ℕ} (j : ℕ) → PartAs C l k all at p x js → In j js → is_shaped (entry C j) ≡ true
  part_shaped y (plain_literal h) i = absurd i
  part_shaped y (plain_name h) i = absurd i
  part_shaped {k} y (a_cell {j = j} {e = x} h q e) i =
      only_that j i (shaped (entry C j) _ _ e.needs_is e.act_is (fine_kinds _ (once_fine _ (wanted_fine k x)))
      (fed_all _ _ (once_fine _ (wanted_fine k x)) (is_fed_over k _ x (λ n m. in_once n (wanted k x) m))))
  part_shaped y (a_read {j = j} h q x e) i = let r = index_shape x in only_that j i (shaped (entry C j) _ _ e.needs_is e.act_is r.0 r.1)
  part_shaped y (a_call {j = j} c) i = only_that j i (shaped (entry C j) _ _ (c.is).needs_is (c.is).act_is refl refl)

  pub role_shaped : {k j : ℕ} {st : Stmt} → Role C l T k st j → is_shaped (entry C j) ≡ true
  role_shaped {j = j} (inl p) = part_shaped j p.as_part p.among
  role_shaped (inr o) = own_shaped o

-- WHERE AN ENTRY STANDS

module _ {s : Core} {fs : List Kinds} {ds : List (ℕ × Bool)} (C : Code) (l : Layout) (L : IsLaid s fs ds C l) where
  -- the statement that an entry of a body is of, and what the entry is for
  pub record HomeIn (t j : ℕ) : Type 0 where
    pub laid : BodyLaid C l L.table s t
    pub of : StmtOf C l L.table (L.table.inputs_of t) (block_list (L.table.block_of t)) laid.own j
    pub role : Role C l L.table (L.table.inputs_of t) of.st j

  pub home_in : (t j : ℕ) → In j (body C t).entries → HomeIn t j
  home_in t j h =
      let b = L.bodies t (body_within C t j h) in
      let o = stmt_of C l L.table b.stmts h in
      record { laid = b; of = o; role = role_of C l L.table o.laid o.among }

  -- EACH ENTRY HAS ITS SHAPE
  pub shapes : (i : ℕ) → is_shaped (entry C i) ≡ true
  shapes i = elim (within blank_entry C.entries i) [
    | inl lt ↦ (let r = L.stands i lt in role_shaped C l L.table (home_in r.0 i r.1).role)
    | inr e ↦ subst (λ (z : Entry). is_shaped z ≡ true) (sym e) refl
  ]
