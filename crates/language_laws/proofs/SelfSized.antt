-- A script that waits for itself: int A[]; A[0] = size(A);
use Rattle.std.specs.Prelude.{◌≡◌, ◌⊎◌, ℕ, zero, suc, [], Result, Err, refl}
use Rattle.std.proofs.Common.{inl, inr, sym, ap, subst, arith}
use Rattle.values.specs.declared.fault.OpFault.{OpFault}
use Rattle.values.specs.declared.key.Key.{Key}
use Rattle.values.specs.declared.value.Scalar.{Scalar}
use Rattle.values.specs.declared.value.Value.{Value}
use Rattle.language.specs.Core.{local, here, Name, Form, Cell, Outer, Stmt, stmt, assign, fill, insert, Block, Core}
use Rattle.language_laws.specs.ArrayExamples as example
use Rattle.language_laws.specs.ArrayExamples.{size_of}
use Rattle.language_laws.specs.Examples.{plain, num}
use Rattle.language.specs.Facts.{Fault, Fact, value, element, fault, Knowledge}
use Rattle.language.specs.Meaning.{Live, script, Closed, closed, Finished, no_target, write_known, blocks_finished, ValueUnder, of_array, of_operator, operand, Gives, computed, faulty, Comes, before, now, in_block, New, cell_value, cell_fault, assigned, filled, inserted, printed, written_twice, bad_range, too_deep_header, too_deep_call, Known, Meaning}
use Rattle.language.specs.Members.{◌∈◌, first, later}
use Rattle.language.specs.Outcomes.{Blocked}
use Rattle.language.specs.Parts.{block_list, script_stmts, cells}
use Rattle.language.specs.Places.{Path, Place}
use Rattle.language_laws.proofs.Flat.{Flat, opens_none, plain_stmt, call_free, flat_stmt}
use Rattle.language_laws.proofs.Printing.{main_or_other}
use Rattle.language_laws.proofs.Rounds.{came}
use Rattle.language_laws.proofs.Sources.{CellValue, AssignValue, value_view, FillElement, InsertElement, element_view}

abbrev S : Core
S = example.waits_for_itself

flat : Flat S
flat = refl

abbrev the_insertion : Stmt
the_insertion = stmt 9 3 (insert (here 2) (plain 5 (num 0)) (plain 6 (size_of 2)))

-- nothing is written, and the right side has no value
record Silent (K : Knowledge) : Type 0 where
  no_element : (a w : Place) (k : Key) (v : Scalar) → K (element a k w v) → ⊥
  no_value : (v : Value) → K (value ([], 6) v) → ⊥

live_main : {K : Knowledge} {path : Path} {b : Block} → Live S K path b → b ≡ S.body
live_main l = elim (main_or_other S l) [ inl r ↦ r.1 | inr m ↦ elim m [ ] ]

not_finished : {K : Knowledge} → Silent K → {path : Path} → Finished S K (local 2) path the_insertion → ⊥
not_finished q (no_target h) = h first
not_finished q (write_known k) = q.no_element _ _ _ _ k
not_finished q (blocks_finished h r d f) = h

-- so the array is never closed
never_closed : {K : Knowledge} → Silent K → {p : Place} → Closed S K p → p ≡ ([], 2) → ⊥
never_closed {K} q (closed {path = path} {n = n} {b = b} l m fs o) e =
    not_finished q (subst (λ (i : ℕ). Finished S K (local i) path the_insertion) (ap (λ (z : Place). z.1) e) (fs the_insertion (subst (λ (z : Block). the_insertion ∈ block_list z) (sym (live_main l)) (later first))))

never_sized : {K : Knowledge} → Silent K → {r : Result Value OpFault} → ValueUnder S K [] (size_of 2) r → ⊥
never_sized q (of_operator (operand (of_array c x) rest) e) = never_closed q c refl

never_given : {K : Knowledge} → Silent K → {r : Result Value Fault} → Gives S K [] (plain 6 (size_of 2)).cell.form r → ⊥
never_given q (computed x) = never_sized q x
never_given q (faulty x) = never_sized q x

moved : {K : Knowledge} {path : Path} {f : Form} {r : Result Value Fault} → path ≡ [] → Gives S K path f r → Gives S K [] f r
moved {K} {f = f} {r = r} e g = subst (λ (p : Path). Gives S K p f r) e g

cell_at : {K : Knowledge} → Silent K → {r : Result Value Fault} (st : Stmt) (c : Cell) → st ∈ script_stmts S → c ∈ cells st → c.node ≡ 6 → Gives S K [] c.form r → ⊥
cell_at q _ c first i e g = elim i [ ]
cell_at q _ _ (later first) first e g = absurd (omega arith)
cell_at q _ _ (later first) (later first) e g = never_given q g
cell_at q _ _ (later first) (later (later i)) e g = elim i [ ]
cell_at q _ c (later (later m)) i e g = elim m [ ]

right_comes : {K : Knowledge} → Silent K → {path : Path} {at n : ℕ} {a : Name} {i c : Outer} {v : Value} → path ≡ [] → stmt at n (insert a i c) ∈ script_stmts S → Comes S K path c.cell v → ⊥
right_comes {K} q {v = v} e (later first) (before k) = q.no_value v (subst (λ (p : Path). K (value (p, 6) v)) e k)
right_comes q e (later first) (now g) = never_given q (moved e g)
right_comes q e (later (later m)) x = elim m [ ]

no_fill : {at n : ℕ} {a : Name} {c : Outer} → stmt at n (fill a c) ∈ script_stmts S → ⊥
no_fill (later (later m)) = elim m [ ]

no_assigning : {at n : ℕ} {x : Name} {o : Outer} → stmt at n (assign x o) ∈ script_stmts S → ⊥
no_assigning (later (later m)) = elim m [ ]

silent_new : {K : Knowledge} → Silent K → Silent (New S K)
silent_new {K} q = record { no_element = λ a w k v f. of_element (element_view f refl); no_value = λ v f. of_value (value_view f refl) }
  where
    of_element : {a w : Place} {k : Key} {v : Scalar} → (FillElement S K a k w v ⊎ InsertElement S K a k w v) → ⊥
    of_element (inl e) = no_fill (flat_stmt S flat e.live).1
    of_element (inr e) = let at = flat_stmt S flat e.live in right_comes q at.0 at.1 e.comes

    of_value : {v : Value} → (CellValue S K ([], 6) v ⊎ AssignValue S K ([], 6) v) → ⊥
    of_value (inl e) = let at = flat_stmt S flat e.live in cell_at q e.st e.cell at.1 e.there (sym (ap (λ (z : Place). z.1) e.is)) (moved at.0 e.gives)
    of_value (inr e) = no_assigning (flat_stmt S flat e.live).1

silent : (n : ℕ) → Silent (Known S n)
silent zero = record { no_element = λ a w k v f. f; no_value = λ v f. f }
silent (suc n) = let q = silent n in let r = silent_new q in record {
  no_element = λ a w k v f. elim f [ inl g ↦ q.no_element a w k v g | inr g ↦ r.no_element a w k v g ];
  no_value = λ v f. elim f [ inl g ↦ q.no_value v g | inr g ↦ r.no_value v g ];
}

-- NO FAULT

index_fault : {K : Knowledge} {f : Fault} → Gives S K [] (plain 5 (num 0)).cell.form (Err f) → ⊥
index_fault (faulty x) = elim x [ ]

cell_no_fault : {K : Knowledge} → Silent K → {f : Fault} (st : Stmt) (c : Cell) → st ∈ script_stmts S → c ∈ cells st → Gives S K [] c.form (Err f) → ⊥
cell_no_fault q _ c first i g = elim i [ ]
cell_no_fault q _ _ (later first) first g = index_fault g
cell_no_fault q _ _ (later first) (later first) g = never_given q g
cell_no_fault q _ _ (later first) (later (later i)) g = elim i [ ]
cell_no_fault q _ c (later (later m)) i g = elim m [ ]

no_fault_new : {K : Knowledge} → Silent K → {x : Fact} {f : Fault} {at : ℕ} {p : Place} → New S K x → x ≡ fault f at p → ⊥
no_fault_new q (cell_fault l i g) e = let at = flat_stmt S flat l in cell_no_fault q _ _ at.1 i (moved at.0 g)
no_fault_new q (written_twice l h k d) e = q.no_element _ _ _ _ h
no_fault_new q (bad_range l x b r) e = let z = plain_stmt S flat (flat_stmt S flat l).1 in absurd (cc (z))
no_fault_new q (too_deep_header l r o d) e = opens_none (plain_stmt S flat (flat_stmt S flat l).1) o
no_fault_new q (too_deep_call l c d) e = call_free S flat (flat_stmt S flat l).1 c
no_fault_new q (cell_value l i g) e = absurd (cc (e))
no_fault_new q (assigned l x) e = absurd (cc (e))
no_fault_new q (filled l x i) e = absurd (cc (e))
no_fault_new q (inserted l x i y) e = absurd (cc (e))
no_fault_new q (printed l x) e = absurd (cc (e))

no_fault : (f : Fault) (at : ℕ) (p : Place) → Meaning S (fault f at p) → ⊥
no_fault f at p h = let c = came S h.0 (fault f at p) h.1 in no_fault_new (silent c.round) c.new refl

pub blocked : Blocked S (Meaning S) 9 []
blocked = (
  3,
  insert (here 2) (plain 5 (num 0)) (plain 6 (size_of 2)),
  record {
    live = in_block script (later first);
    counts = tt;
    no_fact = λ r. (silent r.2.0).no_element _ _ _ _ r.2.1;
    no_fault = λ f h. no_fault f 9 ([], 3) h;
    no_cell_fault = λ c f i h. no_fault f 9 ([], c.node) h;
  },
)
