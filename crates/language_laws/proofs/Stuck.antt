-- Scripts that stop before their end: circles of assignments, and what waits for them.
use Rattle.std.specs.Prelude.{◌≡◌, ℕ, zero, suc, [], Result, refl}
use Rattle.std.proofs.Common.{inl, inr, subst}
use Rattle.values.specs.declared.value.Value.{Value}
use Rattle.language.specs.Core.{Form, Cell, Stmt, stmt, Action, declare, call_alone, assign, fill, insert, print, assert, when, choose, range, each, wait, Core}
use Rattle.language_laws.specs.Examples as example
use Rattle.language_laws.specs.Examples.{plain, num, variable, block_of}
use Rattle.language.specs.Facts.{Fault, Fact, Knowledge}
use Rattle.language.specs.Meaning.{script, of_name, of_operator, operand, Gives, computed, faulty, Comes, before, now, LiveStmt, in_block, New, cell_value, cell_fault, assigned, filled, inserted, printed, written_twice, bad_range, too_deep_header, too_deep_call, Known, Meaning}
use Rattle.language.specs.Members.{◌∈◌, first, later}
use Rattle.language.specs.Outcomes.{OwnFact, Counts, Blocked}
use Rattle.language.specs.Parts.{block_list, cells}
use Rattle.language.specs.Places.{Path}
use Rattle.language.specs.Parts.{script_stmts}
use Rattle.language_laws.proofs.Flat.{Flat, opens_none, plain_stmt, call_free, flat_stmt, flat_value}
use Rattle.language_laws.proofs.Sources.{outer_in, index_in}

abbrev pub IsEmpty : Knowledge → Type 0
IsEmpty K = (f : Fact) → K f → ⊥

-- from nothing known no cell has anything
abbrev IsStarved : Core → Type 1
IsStarved s = (K : Knowledge) → IsEmpty K → (r : Result Value Fault) (st : Stmt) (c : Cell) → st ∈ script_stmts s → c ∈ cells st → Gives s K [] c.form r → ⊥

moved : {s : Core} {K : Knowledge} {path : Path} {f : Form} {r : Result Value Fault} → path ≡ [] → Gives s K path f r → Gives s K [] f r
moved {s} {K} {f = f} {r = r} e g = subst (λ (p : Path). Gives s K p f r) e g

module _ (s : Core) (flat : Flat s) (starved : IsStarved s) where
  no_comes : {K : Knowledge} → IsEmpty K → {path : Path} {st : Stmt} {c : Cell} {v : Value} → LiveStmt s K path st → c ∈ cells st → Comes s K path c v → ⊥
  no_comes empty l i (before k) = empty _ k
  no_comes {K} empty l i (now g) = let at = flat_stmt s flat l in starved K empty _ _ _ at.1 i (moved at.0 g)

  nothing_new : {K : Knowledge} → IsEmpty K → (f : Fact) → New s K f → ⊥
  nothing_new {K} empty f (cell_value l c g) = let at = flat_stmt s flat l in starved K empty _ _ _ at.1 c (moved at.0 g)
  nothing_new {K} empty f (cell_fault l c g) = let at = flat_stmt s flat l in starved K empty _ _ _ at.1 c (moved at.0 g)
  nothing_new empty f (assigned {c = c} l x) = no_comes empty l (outer_in c.parts c.cell) x
  nothing_new empty f (filled {c = c} l x m) = no_comes empty l (outer_in c.parts c.cell) x
  nothing_new empty f (inserted {i = i} {c = c} l x k y) = no_comes empty l (index_in i c) x
  nothing_new empty f (printed {c = c} l x) = no_comes empty l (outer_in c.parts c.cell) x
  nothing_new empty f (bad_range l x e q) = let e = plain_stmt s flat (flat_stmt s flat l).1 in absurd (cc (e))
  nothing_new empty f (too_deep_header l r o d) = opens_none (plain_stmt s flat (flat_stmt s flat l).1) o
  nothing_new empty f (too_deep_call l c d) = call_free s flat (flat_stmt s flat l).1 c
  nothing_new empty f (written_twice l k k' d) = empty _ k

  nothing_known : (n : ℕ) → IsEmpty (Known s n)
  nothing_known zero f h = h
  nothing_known (suc n) f (inl h) = nothing_known n f h
  nothing_known (suc n) f (inr h) = nothing_new (nothing_known n) f h

  pub means_nothing : IsEmpty (Meaning s)
  means_nothing f (n, h) = nothing_known n f h

-- A CIRCLE

circle_starved : IsStarved example.circle
circle_starved K empty _ _ c first i g = elim i [ ]
circle_starved K empty _ _ c (later first) i g = elim i [ ]
circle_starved K empty _ _ _ (later (later first)) first (computed (of_name h)) = empty _ (flat_value example.circle refl h)
circle_starved K empty _ _ _ (later (later first)) first (faulty x) = elim x [ ]
circle_starved K empty _ _ _ (later (later first)) (later x) g = elim x [ ]
circle_starved K empty _ _ _ (later (later (later first))) first (computed (of_name h)) = empty _ (flat_value example.circle refl h)
circle_starved K empty _ _ _ (later (later (later first))) first (faulty x) = elim x [ ]
circle_starved K empty _ _ _ (later (later (later first))) (later x) g = elim x [ ]
circle_starved K empty _ _ _ (later (later (later (later first)))) first (computed (of_operator (operand (of_name h) os) e)) = empty _ (flat_value example.circle refl h)
circle_starved K empty _ _ _ (later (later (later (later first)))) first (faulty (of_operator (operand (of_name h) os) e)) = empty _ (flat_value example.circle refl h)
circle_starved K empty _ _ _ (later (later (later (later first)))) (later x) g = elim x [ ]
circle_starved K empty _ _ _ (later (later (later (later (later h))))) c g = elim h [ ]

pub circle_nothing : IsEmpty (Meaning example.circle)
circle_nothing = means_nothing example.circle refl circle_starved

-- an assignment or a print
abbrev IsAssign : Action → Type 0
IsAssign (assign x e) = Unit {0}
IsAssign (print p e) = Unit {0}
IsAssign _ = ⊥

blocked_in : {s : Core} {at n : ℕ} {a : Action} → IsEmpty (Meaning s) → stmt at n a ∈ block_list s.body → IsAssign a → Blocked s (Meaning s) at []
blocked_in {s} {at} {n} {a} empty m h = (
  n,
  a,
  record {
    live = in_block script m;
    counts = counts a h;
    no_fact = no_own a h;
    no_fault = λ f k. empty _ k;
    no_cell_fault = λ c f i k. empty _ k;
  },
)
  where
    counts : (a : Action) → IsAssign a → Counts a
    counts (assign x e) h = tt
    counts (print p e) h = tt
    counts (declare v) h = absurd h
    counts (call_alone p ps c) h = absurd h
    counts (fill x e) h = absurd h
    counts (insert x k e) h = absurd h
    counts (assert p e) h = absurd h
    counts (when c b) h = absurd h
    counts (choose c b d) h = absurd h
    counts (range lo hi st x t b) h = absurd h
    counts (each x v k b) h = absurd h
    counts (wait ns b) h = absurd h

    no_own : (a : Action) → IsAssign a → ¬ OwnFact s (Meaning s) [] n a
    no_own (assign x e) h (v, k) = empty _ k
    no_own (print p e) h (v, k) = empty _ k
    no_own (declare v) h k = absurd h
    no_own (call_alone p ps c) h k = absurd h
    no_own (fill x e) h k = absurd h
    no_own (insert x i e) h k = absurd h
    no_own (assert p e) h k = absurd h
    no_own (when c b) h k = absurd h
    no_own (choose c b d) h k = absurd h
    no_own (range lo hi st x t b) h k = absurd h
    no_own (each x v i b) h k = absurd h
    no_own (wait ns b) h k = absurd h

pub circle_blocked : Blocked example.circle (Meaning example.circle) 14 [] × Blocked example.circle (Meaning example.circle) 21 [] × Blocked example.circle (Meaning example.circle) 28 []
circle_blocked = (blocked_in circle_nothing (later (later first)) tt, blocked_in circle_nothing (later (later (later first))) tt, blocked_in circle_nothing (later (later (later (later first)))) tt)

-- A FAULT BESIDE AN UNKNOWN PART

beside_starved : IsStarved example.fault_beside_unknown
beside_starved K empty _ _ c first i g = elim i [ ]
beside_starved K empty _ _ c (later first) i g = elim i [ ]
beside_starved K empty _ _ _ (later (later first)) first (computed (of_name h)) = empty _ (flat_value example.fault_beside_unknown refl h)
beside_starved K empty _ _ _ (later (later first)) first (faulty x) = elim x [ ]
beside_starved K empty _ _ _ (later (later first)) (later x) g = elim x [ ]
beside_starved K empty _ _ _ (later (later (later first))) first (computed (of_name h)) = empty _ (flat_value example.fault_beside_unknown refl h)
beside_starved K empty _ _ _ (later (later (later first))) first (faulty x) = elim x [ ]
beside_starved K empty _ _ _ (later (later (later first))) (later x) g = elim x [ ]
beside_starved K empty _ _ _ (later (later (later (later first)))) first (computed (of_operator (operand (of_operator (operand q (operand (of_name h) rest)) z) os) e)) = empty _ (flat_value example.fault_beside_unknown refl h)
beside_starved K empty _ _ _ (later (later (later (later first)))) first (faulty (of_operator (operand (of_operator (operand q (operand (of_name h) rest)) z) os) e)) = empty _ (flat_value example.fault_beside_unknown refl h)
beside_starved K empty _ _ _ (later (later (later (later first)))) (later x) g = elim x [ ]
beside_starved K empty _ _ _ (later (later (later (later (later h))))) c g = elim h [ ]

pub beside_nothing : IsEmpty (Meaning example.fault_beside_unknown)
beside_nothing = means_nothing example.fault_beside_unknown refl beside_starved

pub beside_blocked : Blocked example.fault_beside_unknown (Meaning example.fault_beside_unknown) 28 []
beside_blocked = blocked_in beside_nothing (later (later (later (later first)))) tt
