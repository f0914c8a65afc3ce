-- A script that reads an element that nothing writes, and one whose inner wait never opens.
use Rattle.std.specs.Prelude.{◌≡◌, ◌⊎◌, ℕ, zero, suc, List, [], ◌∷◌, Result, pos, refl}
use Rattle.std.proofs.Common.{inl, inr, sym, ap, subst, ◌∙◌, arith}
use Rattle.values.specs.declared.key.Key.{Key}
use Rattle.values.specs.declared.value.Scalar.{Scalar}
use Rattle.values.specs.declared.value.Scalar.TheVariants.{Number}
use Rattle.values.specs.declared.value.Value.{Value}
use Rattle.values.specs.declared.value.Value.TheVariants.{One}
use Rattle.language.specs.Core.{local, Name, here, Form, Cell, Outer, Awaited, scalar, Stmt, stmt, assign, fill, insert, Core}
use Rattle.language_laws.specs.Examples as example
use Rattle.language_laws.specs.Examples.{plain, num, variable, block_of}
use Rattle.language.specs.Facts.{Fault, no_element, Fact, value, element, fault, Knowledge, IsKey, a_number}
use Rattle.language.specs.Meaning.{script, waited, closed, Finished, no_target, write_known, Ready, cells_known, names_known, Come, scalar_known, stored, of_literal, of_name, Gives, computed, faulty, missing, Comes, before, now, in_block, New, cell_value, cell_fault, assigned, filled, inserted, printed, written_twice, bad_range, too_deep_header, too_deep_call, Known, Meaning}
use Rattle.language.specs.Members.{◌∈◌, first, later}
use Rattle.language.specs.Outcomes.{Blocked}
use Rattle.language.specs.Parts.{block_list, cells, stmt_action}
use Rattle.language.specs.Places.{Path, Place, place}
use Rattle.language.specs.Parts.{script_stmts}
use Rattle.language_laws.proofs.Flat.{Flat, opens_none, plain_stmt, call_free, flat_stmt, flat_value}
use Rattle.language_laws.proofs.Scripts.{inner_wait}
use Rattle.language_laws.proofs.Sources.{CellValue, AssignValue, value_view, FillElement, InsertElement, element_view}

-- A MISSING ELEMENT

abbrev M : Core
M = example.missing_element

the_write : Known M 1 (element ([], 2) (Key.Number (pos 0)) ([], 3) (Number (pos 1)))
the_write = inr (inserted (in_block script (later first)) (now (computed of_literal)) a_number (now (computed of_literal)))

the_index : Known M 1 (value ([], 13) (One (Number (pos 3))))
the_index = inr (cell_value (in_block script (later (later first))) first (computed of_literal))

-- each statement of the block is finished for A after one round
all_finished : (st : Stmt) → st ∈ block_list M.body → Finished M (Known M 1) (local 2) [] st
all_finished _ first = no_target (λ h. elim h [ ])
all_finished _ (later first) = write_known the_write
all_finished _ (later (later first)) = no_target (λ h. elim h [ ])
all_finished _ (later (later (later h))) = elim h [ ]

no_fill : {at n : ℕ} {a : Name} {c : Outer} → stmt at n (fill a c) ∈ script_stmts M → ⊥
no_fill (later (later (later h))) = elim h [ ]

-- what the one insertion writes
written : {at n : ℕ} {a : Name} {i c : Outer} {path : Path} {u : Value} {k : Key} → stmt at n (insert a i c) ∈ script_stmts M → Comes M (Known M 0) path i.cell u → IsKey u k → (k ≡ Key.Number (pos 0)) × (n ≡ 3)
written (later first) (before h) is = absurd h
written (later first) (now (computed of_literal)) a_number = (refl, refl)
written (later (later (later h))) x q = elim h [ ]

one_write : {a w : Place} {k : Key} {v : Scalar} → Known M 1 (element a k w v) → (k ≡ Key.Number (pos 0)) × (w ≡ ([], 3))
one_write {a} {w} {k} {v} (inr f) = by (element_view f refl)
  where
    by : (FillElement M (Known M 0) a k w v ⊎ InsertElement M (Known M 0) a k w v) → (k ≡ Key.Number (pos 0)) × (w ≡ ([], 3))
    by (inl e) = absurd (no_fill (flat_stmt M refl e.live).1)
    by (inr e) =
        let at = flat_stmt M refl e.live in
        let r = written at.1 e.comes_index e.is_key in
        (r.0, sym e.writer_is ∙ (λ i. (at.0 i, r.1 i)))
one_write (inl h) = absurd h

three_zero : Key.Number (pos 3) ≡ Key.Number (pos 0) → ⊥
three_zero h = grind arith

pub none_at_three : Known M 2 (fault no_element 19 ([], 11))
none_at_three = inr (cell_fault (in_block script (later (later first))) (later first)
    (missing the_index a_number (closed script first all_finished (λ k w w' v v' x y. (one_write x).1 ∙ sym (one_write y).1)) (λ w v x. three_zero (one_write x).0)))

-- NESTED WAITS

abbrev W : Core
W = example.nested_waits

-- a value in the circle, of y, of z or of a right side
data InCircle : ℕ → Type 0 where
  is_y : InCircle 5
  is_z : InCircle 7
  first_right : InCircle 10
  second_right : InCircle 14

-- no cell of the circle has a value where none of its places has one
abbrev NoneIn : Knowledge → Type 0
NoneIn K = (m : ℕ) (v : Value) → InCircle m → K (value ([], m) v) → ⊥

flat : Flat W
flat = refl

cell_circle : {K : Knowledge} {r : Result Value Fault} → NoneIn K → (st : Stmt) (c : Cell) → st ∈ script_stmts W → c ∈ cells st → InCircle c.node → Gives W K [] c.form r → ⊥
cell_circle no_value _ c first i q g = elim i [ ]
cell_circle no_value _ _ (later first) first q g = elim q [ ]
cell_circle no_value _ _ (later first) (later i) q g = elim i [ ]
cell_circle no_value _ c (later (later first)) i q g = elim i [ ]
cell_circle no_value _ c (later (later (later first))) i q g = elim i [ ]
cell_circle no_value _ _ (later (later (later (later first)))) first q (computed (of_name h)) = no_value 7 _ is_z (flat_value W flat h)
cell_circle no_value _ _ (later (later (later (later first)))) first q (faulty x) = elim x [ ]
cell_circle no_value _ _ (later (later (later (later first)))) (later i) q g = elim i [ ]
cell_circle no_value _ _ (later (later (later (later (later first))))) first q (computed (of_name h)) = no_value 5 _ is_y (flat_value W flat h)
cell_circle no_value _ _ (later (later (later (later (later first))))) first q (faulty x) = elim x [ ]
cell_circle no_value _ _ (later (later (later (later (later first))))) (later i) q g = elim i [ ]
cell_circle no_value _ c (later (later (later (later (later (later first)))))) i q g = elim i [ ]
cell_circle no_value _ c (later (later (later (later (later (later (later first))))))) i q g = elim i [ ]
cell_circle no_value _ _ (later (later (later (later (later (later (later (later first)))))))) first q g = elim q [ ]
cell_circle no_value _ _ (later (later (later (later (later (later (later (later first)))))))) (later i) q g = elim i [ ]
cell_circle no_value _ c (later (later (later (later (later (later (later (later (later h))))))))) i q g = elim h [ ]

moved : {K : Knowledge} {path : Path} {f : Form} {r : Result Value Fault} → path ≡ [] → Gives W K path f r → Gives W K [] f r
moved {K} {f = f} {r = r} e g = subst (λ (p : Path). Gives W K p f r) e g

at_root : (K : Knowledge) {path : Path} {m : ℕ} {v : Value} → path ≡ [] → K (value (path, m) v) → K (value ([], m) v)
at_root K {m = m} {v = v} e k = subst (λ (p : Path). K (value (p, m) v)) e k

-- what is assigned in the circle comes from the circle
assign_circle : {K : Knowledge} {at n m : ℕ} {x : Name} {o : Outer} {path : Path} {v : Value} → NoneIn K → path ≡ [] → stmt at n (assign x o) ∈ script_stmts W → ([], m) ≡ place W path x → InCircle m → Comes W K path o.cell v → ⊥
assign_circle no_value p (later first) e q x = two_off q (ap (λ (z : Place). z.1) (e ∙ (λ i. place W (p i) (here 2))))
  where
    two_off : {m : ℕ} → InCircle m → m ≡ 2 → ⊥
    two_off is_y e = omega arith
    two_off is_z e = omega arith
    two_off first_right e = omega arith
    two_off second_right e = omega arith
assign_circle {K} no_value p (later (later (later (later first)))) e q (before k) = no_value 10 _ first_right (at_root K p k)
assign_circle no_value p (later (later (later (later first)))) e q (now g) = cell_circle no_value _ _ (later (later (later (later first)))) first first_right (moved p g)
assign_circle {K} no_value p (later (later (later (later (later first))))) e q (before k) = no_value 14 _ second_right (at_root K p k)
assign_circle no_value p (later (later (later (later (later first))))) e q (now g) = cell_circle no_value _ _ (later (later (later (later (later first))))) first second_right (moved p g)
assign_circle no_value p (later (later (later (later (later (later (later (later (later h))))))))) e q x = elim h [ ]

circle_new : {K : Knowledge} → NoneIn K → (m : ℕ) (v : Value) → InCircle m → New W K (value ([], m) v) → ⊥
circle_new {K} no_value m v q f = by (value_view f refl)
  where
    by : (CellValue W K ([], m) v ⊎ AssignValue W K ([], m) v) → ⊥
    by (inl e) =
        let at = flat_stmt W flat e.live in
        cell_circle no_value e.st e.cell at.1 e.there (subst (λ (n : ℕ). InCircle n) (ap (λ (z : Place). z.1) e.is) q) (moved at.0 e.gives)
    by (inr e) = let at = flat_stmt W flat e.live in assign_circle no_value at.0 at.1 e.is q e.comes

circle_known : (n : ℕ) → NoneIn (Known W n)
circle_known zero m v q h = h
circle_known (suc n) m v q (inl h) = circle_known n m v q h
circle_known (suc n) m v q (inr h) = circle_new (circle_known n) m v q h

-- y never has a value
pub y_unknown : (v : Value) → Meaning W (value ([], 5) v) → ⊥
y_unknown v (n, h) = circle_known n 5 v is_y h

cell_nodes : (st : Stmt) (c : Cell) → st ∈ script_stmts W → c ∈ cells st → c.node ≡ 18 → ⊥
cell_nodes _ c first i e = elim i [ ]
cell_nodes _ _ (later first) first e = omega arith
cell_nodes _ _ (later first) (later i) e = elim i [ ]
cell_nodes _ c (later (later first)) i e = elim i [ ]
cell_nodes _ c (later (later (later first))) i e = elim i [ ]
cell_nodes _ _ (later (later (later (later first)))) first e = omega arith
cell_nodes _ _ (later (later (later (later first)))) (later i) e = elim i [ ]
cell_nodes _ _ (later (later (later (later (later first))))) first e = omega arith
cell_nodes _ _ (later (later (later (later (later first))))) (later i) e = elim i [ ]
cell_nodes _ c (later (later (later (later (later (later first)))))) i e = elim i [ ]
cell_nodes _ c (later (later (later (later (later (later (later first))))))) i e = elim i [ ]
cell_nodes _ _ (later (later (later (later (later (later (later (later first)))))))) first e = omega arith
cell_nodes _ _ (later (later (later (later (later (later (later (later first)))))))) (later i) e = elim i [ ]
cell_nodes _ c (later (later (later (later (later (later (later (later (later h))))))))) i e = elim h [ ]

no_filling : {at n : ℕ} {a : Name} {c : Outer} → stmt at n (fill a c) ∈ script_stmts W → ⊥
no_filling (later (later (later (later (later (later (later (later (later h))))))))) = elim h [ ]

no_insertion : {at n : ℕ} {a : Name} {i c : Outer} → stmt at n (insert a i c) ∈ script_stmts W → ⊥
no_insertion (later (later (later (later (later (later (later (later (later h))))))))) = elim h [ ]

no_element_known : (n : ℕ) (a w : Place) (k : Key) (v : Scalar) → Known W n (element a k w v) → ⊥
no_element_known zero a w k v h = h
no_element_known (suc n) a w k v (inl h) = no_element_known n a w k v h
no_element_known (suc n) a w k v (inr h) = by (element_view h refl)
  where
    by : (FillElement W (Known W n) a k w v ⊎ InsertElement W (Known W n) a k w v) → ⊥
    by (inl e) = no_filling (flat_stmt W flat e.live).1
    by (inr e) = no_insertion (flat_stmt W flat e.live).1

fault_node : {f g : Fault} {at at' : ℕ} {p q : Place} → fault f at p ≡ fault g at' q → p ≡ q
fault_node h = cc

no_fault_new : (n : ℕ) {x : Fact} {f : Fault} {at : ℕ} → New W (Known W n) x → x ≡ fault f at ([], 18) → ⊥
no_fault_new n (cell_fault l i g) e = cell_nodes _ _ (flat_stmt W flat l).1 i (ap (λ (p : Place). p.1) (fault_node e))
no_fault_new n (written_twice l h k d) e = no_element_known n _ _ _ _ h
no_fault_new n (bad_range l x b q) e = let z = plain_stmt W flat (flat_stmt W flat l).1 in absurd (cc (z))
no_fault_new n (too_deep_header l r o d) e = opens_none (plain_stmt W flat (flat_stmt W flat l).1) o
no_fault_new n (too_deep_call l c d) e = call_free W flat (flat_stmt W flat l).1 c
no_fault_new n (cell_value l i g) e = absurd (cc (e))
no_fault_new n (assigned l x) e = absurd (cc (e))
no_fault_new n (filled l x i) e = absurd (cc (e))
no_fault_new n (inserted l x i y) e = absurd (cc (e))
no_fault_new n (printed l x) e = absurd (cc (e))

no_fault_known : (n : ℕ) (f : Fault) (at : ℕ) → Known W n (fault f at ([], 18)) → ⊥
no_fault_known zero f at h = h
no_fault_known (suc n) f at (inl h) = no_fault_known n f at h
no_fault_known (suc n) f at (inr h) = no_fault_new n h refl

waits_x : Known W 1 (value ([], 2) (One (Number (pos 1))))
waits_x = inr (assigned (in_block script (later first)) (now (computed of_literal)))

outer_names : (x : Awaited) → x ∈ (scalar (here 2) ∷ []) → Come W (Meaning W) [] x
outer_names _ first = scalar_known (stored (1, waits_x))
outer_names _ (later m) = elim m [ ]

never_ready : (vs : List Value) → Ready W (Meaning W) [] (stmt_action inner_wait) vs → ⊥
never_ready vs (cells_known ks d) = elim d [ ]
never_ready vs (names_known f) = never_come (f (scalar (here 5)) first)
  where
    never_come : Come W (Meaning W) [] (scalar (here 5)) → ⊥
    never_come (scalar_known h) = y_unknown _ (flat_value W flat h)

pub inner_blocked : Blocked W (Meaning W) 50 []
inner_blocked = (
  18,
  stmt_action inner_wait,
  record {
    live = in_block (waited script (later (later (later (later (later (later first)))))) (names_known outer_names)) first;
    counts = tt;
    no_fact = λ r. never_ready r.0 r.1;
    no_fault = λ f (n, h). no_fault_known n f _ h;
    no_cell_fault = λ c f i. elim i [ ];
  },
)
