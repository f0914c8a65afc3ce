-- An entry of laid code that calls a function is found by its offset, where no call has the offset of another.
use Rattle.std.proofs.Common.{◌≡◌, ◌⊎◌, inl, inr, ℕ, zero, suc, ◌+◌, ◌≤◌, ◌<◌, Bool, true, false, nat_eq, List, [], ◌∷◌, ◌++◌, map, length, refl, sym, ap, ◌∙◌, subst, arith, Some, None}
use Rattle.std.specs.Prelude.{ℤ}
use Rattle.std.proofs.lemmas.Bool.{eqb-true, cases_lt}
use Rattle.dataflow.specs.System.{In}
use Rattle.language.specs.Core as Co
use Rattle.language.specs.Core.{Expr, Call, Part, inner, calls, Stmt, stmt, Action, declare, call_alone, assign, fill, insert, print, assert, when, choose, range, each, wait, Core}
use Rattle.language.specs.Parts.{parts, part_calls, calls_among, script_stmts}
use Rattle.language.proofs.Tested.{self_eq}
use Rattle.task_code.specs.Code as code
use Rattle.task_code.specs.Code.{Act, Way, Calling, Entry, Code, entry, nth, blank_entry, call_from, call_at, ways}
use Rattle.code_rules.specs.IsCodeOf.{Layout, IsSimple, own_needs, own_expr, fill_act, simple_act, PartAs, plain_literal, plain_name, a_cell, a_read, a_call}
use Rattle.code_rules.specs.Laying.{Kinds, LaysScript}
use Rattle.code_rules.specs.Emitted.{CallsOnce, CellsOnce, ReadsStand}
use Rattle.code_laws.proofs.Counts.{total, total-append, hit, hit_same, count, distinct_count}
use Rattle.code_laws.proofs.Adding.{nth_beyond}
use Rattle.code_laws.proofs.Layouts.{layout_of, layout_suits}
use Rattle.code_laws.proofs.Few.{IsOwn, it_works, it_opens, OpensBlocks, Weights, stmt_weight, script_few}
use Rattle.std.proofs.lemmas.List.{map-append}

-- the offset of a call
abbrev pub call_mark : ℕ → Act → List ℕ
call_mark m (code.Call b rs os) = m ∷ []
call_mark m _ = []

abbrev pub marked : ℕ → Entry → ℕ
marked n e = count n (call_mark e.offset e.act)

pub simple_unmarked : (l : Layout) (k m : ℕ) (a : Action) → IsSimple a → call_mark m (simple_act l k (own_needs l k a) a) ≡ []
simple_unmarked l k m (assign x o) h = refl
simple_unmarked l k m (fill x o) h = by (own_expr o)
  where
    by : (e : Expr) → call_mark m (fill_act l k (own_needs l k (fill x o)) x e) ≡ []
    by (Co.whole a) = refl
    by (Co.literal a) = refl
    by (Co.name a) = refl
    by (Co.operator a es) = refl
simple_unmarked l k m (insert x i o) h = refl
simple_unmarked l k m (print x o) h = refl
simple_unmarked l k m (assert x o) h = refl
simple_unmarked l k m (declare v) h = absurd h
simple_unmarked l k m (call_alone x y o) h = absurd h
simple_unmarked l k m (when o d) h = absurd h
simple_unmarked l k m (choose o d e) h = absurd h
simple_unmarked l k m (range o d e f g i) h = absurd h
simple_unmarked l k m (each o d e f) h = absurd h
simple_unmarked l k m (wait o d) h = absurd h

opens_unmarked : (m : ℕ) (act : Act) → OpensBlocks act → call_mark m act ≡ []
opens_unmarked m (code.If e b d) h = refl
opens_unmarked m (code.Range lo hi s w) h = refl
opens_unmarked m (code.Each w) h = refl
opens_unmarked m (code.Wait hs b) h = refl
opens_unmarked m (code.Cell e) h = absurd h
opens_unmarked m code.Read h = absurd h
opens_unmarked m (code.Call b rs os) h = absurd h
opens_unmarked m (code.Set r e) h = absurd h
opens_unmarked m (code.Fill r es) h = absurd h
opens_unmarked m (code.Copy r) h = absurd h
opens_unmarked m (code.InsertElement r i e) h = absurd h
opens_unmarked m (code.Print e) h = absurd h
opens_unmarked m (code.Assert e) h = absurd h

-- MARKS ARE NO MORE THAN CALLS

abbrev call_hit : ℕ → Part → ℕ
call_hit n (inner c) = 0
call_hit n (calls c) = hit n c.at

unmarked : (n : ℕ) (e : Entry) → call_mark e.offset e.act ≡ [] → marked n e ≤ 0
unmarked n e q = let a : marked n e ≡ 0 = ap (count n) q in omega arith

part_marks : (n : ℕ) (C : Code) (l : Layout) (k : ℕ) (all : List Part) (at : ℕ) (p : ℤ) (x : Part) (is : List ℕ) → PartAs C l k all at p x is → total (λ j. marked n (entry C j)) is ≤ call_hit n x
part_marks n C l k all at p x is (plain_literal z) = omega arith
part_marks n C l k all at p x is (plain_name z) = omega arith
part_marks n C l k all at p x is (a_cell {j = j} z nd en) = let a = unmarked n (entry C j) (ap (call_mark (entry C j).offset) en.act_is) in omega arith
part_marks n C l k all at p x is (a_read {j = j} z nd ix en) = let a = unmarked n (entry C j) (ap (call_mark (entry C j).offset) en.act_is) in omega arith
part_marks n C l k all at p x is (a_call {c = c} {j = j} ca) =
    let a : marked n (entry C j) ≡ hit n c.at + 0 = ap (count n) (ap (call_mark (entry C j).offset) ca.is.act_is) ∙ ap (λ (m : ℕ). hit n m + 0) ca.offset_is in
    omega arith

own_marks : (n : ℕ) (e : Entry) (at m : ℕ) (a : Action) → IsOwn e m a → marked n e ≤ 0
own_marks n e at m a (it_works l k s q nd) = unmarked n e (ap (call_mark e.offset) q ∙ simple_unmarked l k e.offset a s)
own_marks n e at m a (it_opens h) = unmarked n e (opens_unmarked e.offset e.act h)

mark_weights : ℕ → Weights
mark_weights n = record { of_entry = marked n; of_part = call_hit n; of_own = λ st. 0; bared = λ e. refl; part_few = part_marks n; own_few = own_marks n }

call_hits : (n : ℕ) (ps : List Part) → total (call_hit n) ps ≡ count n (map (λ (c : Call). c.at) (part_calls ps))
call_hits n [] = refl
call_hits n (inner c ∷ ps) = let a = call_hits n ps in omega arith
call_hits n (calls c ∷ ps) = ap (λ (z : ℕ). hit n c.at + z) (call_hits n ps)

call_weights : (n : ℕ) (sts : List Stmt) → total (stmt_weight (mark_weights n)) sts ≡ count n (map (λ (c : Call). c.at) (calls_among sts))
unfolding mark_weights
call_weights n [] = refl
call_weights n (stmt at m a ∷ sts) =
    let x = call_hits n (parts a) in
    let y = call_weights n sts in
    let z : count n (map (λ (c : Call). c.at) (part_calls (parts a) ++ calls_among sts)) ≡ count n (map (λ (c : Call). c.at) (part_calls (parts a))) + count n (map (λ (c : Call). c.at) (calls_among sts)) =
    ap (count n) (map-append (λ (c : Call). c.at) (part_calls (parts a)) (calls_among sts)) ∙ total-append (hit n) (map (λ (c : Call). c.at) (part_calls (parts a))) (map (λ (c : Call). c.at) (calls_among sts)) in
    omega arith

marks_few : (c : Core) (fs : List Kinds) (ds : List (ℕ × Bool)) (C : Code) → LaysScript c fs ds C → CellsOnce c → ReadsStand c → CallsOnce c → (n : ℕ) → total (marked n) C.entries ≤ 1
unfolding mark_weights
marks_few c fs ds C L apart reads once n =
    let a = script_few (mark_weights n) c (layout_of c ds) (layout_suits c ds apart) reads L in
    let b = call_weights n (script_stmts c) in
    let d = distinct_count (map (λ (x : Call). x.at) (calls_among (script_stmts c))) once n in
    omega arith

-- AN ENTRY IS FOUND

is_called : (b : ℕ) (act : Act) (m : ℕ) → In (Calling, b) (ways act) → call_mark m act ≡ m ∷ []
is_called b (code.Call d rs os) m h = refl
is_called b (code.If e d None) m (inl q) = absurd (no_way q)
  where
    no_way : ◌≡◌ {A = Way × ℕ} (Calling, b) (code.Through, d) → ⊥
    no_way q = (let z : Calling ≡ code.Through = ap (λ (w : Way × ℕ). w.0) q in cc)
is_called b (code.If e d None) m (inr q) = absurd q
is_called b (code.If e d (Some f)) m (inl q) = absurd (let z : Calling ≡ code.Through = ap (λ (w : Way × ℕ). w.0) q in cc)
is_called b (code.If e d (Some f)) m (inr (inl q)) = absurd (let z : Calling ≡ code.Through = ap (λ (w : Way × ℕ). w.0) q in cc)
is_called b (code.If e d (Some f)) m (inr (inr q)) = absurd q
is_called b (code.Range lo hi s w) m (inl q) = absurd (let z : Calling ≡ code.Through = ap (λ (w : Way × ℕ). w.0) q in cc)
is_called b (code.Range lo hi s w) m (inr q) = absurd q
is_called b (code.Each w) m (inl q) = absurd (let z : Calling ≡ code.Through = ap (λ (w : Way × ℕ). w.0) q in cc)
is_called b (code.Each w) m (inr q) = absurd q
is_called b (code.Wait hs d) m (inl q) = absurd (let z : Calling ≡ code.InPlace = ap (λ (w : Way × ℕ). w.0) q in cc)
is_called b (code.Wait hs d) m (inr q) = absurd q
is_called b (code.Cell e) m h = absurd h
is_called b code.Read m h = absurd h
is_called b (code.Set r e) m h = absurd h
is_called b (code.Fill r es) m h = absurd h
is_called b (code.Copy r) m h = absurd h
is_called b (code.InsertElement r i e) m h = absurd h
is_called b (code.Print e) m h = absurd h
is_called b (code.Assert e) m h = absurd h

-- what the search does at an entry that is the call, and at one whose offset is another
found_here : (act : Act) (e : Entry) (i at : ℕ) (es : List Entry) → e.act ≡ act → call_mark e.offset act ≡ e.offset ∷ [] → e.offset ≡ at → call_from i (e ∷ es) at ≡ i
found_here (code.Call b rs os) e i at es q h m = (rw (q, call_from) (rw m (rw (self_eq at) refl)))
found_here _ e i at es q h m = absurd (cc (h))

differs : (m at : ℕ) → hit at m + 0 ≡ 0 → nat_eq m at ≡ false
differs m at h = by (nat_eq m at) refl
  where
    by : (b : Bool) → nat_eq m at ≡ b → nat_eq m at ≡ false
    by true e = absurd (let a = hit_same at m (sym (eqb-true m at e)) in omega arith)
    by false e = e

found_later : (act : Act) (e : Entry) (i at : ℕ) (es : List Entry) → e.act ≡ act → count at (call_mark e.offset act) ≡ 0 → call_from i (e ∷ es) at ≡ call_from (suc i) es at
found_later (code.Call b rs os) e i at es q h = (rw (q, call_from) (rw (differs e.offset at h) refl))
found_later (code.Cell x) e i at es q h = (rw (q, call_from) refl)
found_later code.Read e i at es q h = (rw (q, call_from) refl)
found_later (code.Set r x) e i at es q h = (rw (q, call_from) refl)
found_later (code.Fill r xs) e i at es q h = (rw (q, call_from) refl)
found_later (code.Copy r) e i at es q h = (rw (q, call_from) refl)
found_later (code.InsertElement r x y) e i at es q h = (rw (q, call_from) refl)
found_later (code.Print x) e i at es q h = (rw (q, call_from) refl)
found_later (code.Assert x) e i at es q h = (rw (q, call_from) refl)
found_later (code.If x b d) e i at es q h = (rw (q, call_from) refl)
found_later (code.Range lo hi s w) e i at es q h = (rw (q, call_from) refl)
found_later (code.Each w) e i at es q h = (rw (q, call_from) refl)
found_later (code.Wait hs b) e i at es q h = (rw (q, call_from) refl)

pub nth_total : (w : Entry → ℕ) (es : List Entry) (i : ℕ) → i < length es → w (nth blank_entry es i) ≤ total w es
nth_total w [] i h = absurd (omega arith)
nth_total w (e ∷ es) zero h = omega arith
nth_total w (e ∷ es) (suc i) h = let a = nth_total w es i (omega arith) in omega arith

found_from : (es : List Entry) (from i at b : ℕ) → i < length es → In (Calling, b) (ways (nth blank_entry es i).act) → (nth blank_entry es i).offset ≡ at → total (marked at) es ≤ 1 → call_from from es at ≡ from + i
found_from [] from i at b h c m t = absurd (omega arith)
found_from (e ∷ es) from zero at b h c m t = found_here e.act e from at es refl (is_called b e.act e.offset c) m ∙ (let z : from ≡ from + 0 = omega arith in z)
found_from (e ∷ es) from (suc i) at b h c m t =
    let x = nth_total (marked at) es i (omega arith) in
    let y : marked at (nth blank_entry es i) ≡ hit at at + 0 = ap (count at) (is_called b (nth blank_entry es i).act (nth blank_entry es i).offset c) ∙ ap (λ (z : ℕ). hit at z + 0) m in
    let v = hit_same at at refl in
    found_later e.act e from at es refl (omega arith) ∙ (found_from es (suc from) i at b (omega arith) c m (omega arith) ∙ (let z : suc from + i ≡ from + suc i = omega arith in z))

pub laid_marks : (c : Core) (fs : List Kinds) (ds : List (ℕ × Bool)) (C : Code) → LaysScript c fs ds C → CellsOnce c → ReadsStand c → CallsOnce c → (i b : ℕ) → In (Calling, b) (ways (entry C i).act) → call_at C (entry C i).offset ≡ i
laid_marks c fs ds C L apart reads once i b h = by (cases_lt i (length C.entries))
  where
    by : (i < length C.entries) ⊎ (length C.entries ≤ i) → call_at C (entry C i).offset ≡ i
    by (inl l) = found_from C.entries 0 i (entry C i).offset b l h refl (marks_few c fs ds C L apart reads once (entry C i).offset) ∙ (let z : 0 + i ≡ i = omega arith in z)
    by (inr l) = absurd (subst (λ (e : Entry). In (Calling, b) (ways e.act)) (nth_beyond blank_entry C.entries i l) h)
