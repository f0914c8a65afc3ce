-- A layout that suits every statement of a core whose cells have nodes of their own.
use Rattle.std.proofs.Common.{◌≡◌, ℕ, suc, ◌+◌, ◌≤◌, Bool, true, false, cond, nat_eq, List, [], ◌∷◌, ◌++◌, map, refl, ap, ◌∙◌, arith, Option, Some, None}
use Rattle.std.specs.List.{flat_map}
use Rattle.std.proofs.lemmas.Bool.{eqb-true}
use Rattle.language.specs.Core.{Form, compute, read, Cell, Part, inner, calls, Outer, Stmt, stmt, Action, declare, call_alone, assign, fill, insert, print, assert, when, choose, range, each, wait, Core}
use Rattle.language.specs.Members.{◌∈◌, first, later}
use Rattle.language.specs.Parts.{parts, part_cells, cells, script_stmts}
use Rattle.language.proofs.Members.{to_left, to_right}
use Rattle.language.proofs.Tested.{self_eq}
use Rattle.language_laws.specs.TypedValues.{own_cell, own_parts}
use Rattle.code_rules.specs.IsCodeOf.{Layout, own_is_plain, OwnPlain}
use Rattle.code_rules.specs.Laying.{plain_after, PlainAs, Suits}
use Rattle.code_rules.specs.Emitted.{CellsOnce}
use Rattle.code_laws.proofs.Counts.{total-append, hit, hit_same, count, in_count, distinct_count}
use Rattle.std.proofs.lemmas.List.{map-append}

-- LOOKING UP

-- what a list of pairs tells of a number, by the first that is there
abbrev pub look : ℕ → List (ℕ × Bool) → Bool
look n [] = false
look n (p ∷ ps) = cond (nat_eq n p.0) p.1 (look n ps)

abbrev pub numbers : List (ℕ × Bool) → List ℕ
numbers ps = map (λ (p : ℕ × Bool). p.0) ps

pub number_there : {p : ℕ × Bool} {ps : List (ℕ × Bool)} → p ∈ ps → p.0 ∈ numbers ps
number_there first = first
number_there (later m) = later (number_there m)

-- of a number that stands once it tells what stands with it
pub look_found : {p : ℕ × Bool} {ps : List (ℕ × Bool)} → p ∈ ps → count p.0 (numbers ps) ≤ 1 → look p.0 ps ≡ p.1
look_found (first {x = p} {xs = ps}) h = ap (λ (b : Bool). cond b p.1 (look p.0 ps)) (self_eq p.0)
look_found {p} (later {y = q} {xs = ps} m) h = by (nat_eq p.0 q.0) refl (λ l. look_found m l)
  where
    by : (b : Bool) → nat_eq p.0 q.0 ≡ b → (count p.0 (numbers ps) ≤ 1 → look p.0 ps ≡ p.1) → look p.0 (q ∷ ps) ≡ p.1
    by true e rec = let a = hit_same p.0 q.0 (eqb-true p.0 q.0 e) in let b = in_count (number_there m) in absurd (omega arith)
    by false e rec = ap (λ (b : Bool). cond b q.1 (look p.0 ps)) e ∙ rec (omega arith)

-- of a number that is not there it tells nothing
pub look_none : (n : ℕ) (ps : List (ℕ × Bool)) → count n (numbers ps) ≡ 0 → look n ps ≡ false
look_none n [] h = refl
look_none n (q ∷ ps) h = by (nat_eq n q.0) refl (λ l. look_none n ps l)
  where
    by : (b : Bool) → nat_eq n q.0 ≡ b → (count n (numbers ps) ≡ 0 → look n ps ≡ false) → look n (q ∷ ps) ≡ false
    by true e rec = let a = hit_same n q.0 (eqb-true n q.0 e) in absurd (omega arith)
    by false e rec = ap (λ (b : Bool). cond b q.1 (look n ps)) e ∙ rec (omega arith)

-- WHICH CELLS ARE PLAIN

abbrev pub plains : Option Part → List Part → List (ℕ × Bool)
plains p [] = []
plains p (inner c ∷ ps) = (c.node, plain_after p c.form) ∷ plains (Some (inner c)) ps
plains p (calls c ∷ ps) = plains (Some (calls c)) ps

abbrev own_plain : Cell → Form → List (ℕ × Bool)
own_plain c (compute e) = (c.node, true) ∷ []
own_plain c (read a i) = []

abbrev own_plains : Action → List (ℕ × Bool)
own_plains (assign x o) = own_plain o.cell o.cell.form
own_plains (fill a o) = own_plain o.cell o.cell.form
own_plains (print p o) = own_plain o.cell o.cell.form
own_plains (assert p o) = own_plain o.cell o.cell.form
own_plains _ = []

abbrev pub stmt_plains : Stmt → List (ℕ × Bool)
stmt_plains (stmt at n a) = plains None (own_parts a) ++ own_plains a

abbrev pub cell_count : ℕ → List Cell → ℕ
cell_count n cs = count n (map (λ (c : Cell). c.node) cs)

plains_count : (n : ℕ) (p : Option Part) (ps : List Part) → count n (numbers (plains p ps)) ≡ cell_count n (part_cells ps)
plains_count n p [] = refl
plains_count n p (inner c ∷ ps) = ap (λ (z : ℕ). hit n c.node + z) (plains_count n (Some (inner c)) ps)
plains_count n p (calls c ∷ ps) = plains_count n (Some (calls c)) ps

pub numbers-append : (n : ℕ) (ps qs : List (ℕ × Bool)) → count n (numbers (ps ++ qs)) ≡ count n (numbers ps) + count n (numbers qs)
numbers-append n ps qs = ap (count n) (map-append (λ (p : ℕ × Bool). p.0) ps qs) ∙ total-append (hit n) (numbers ps) (numbers qs)

part_cells-append : (ps qs : List Part) → part_cells (ps ++ qs) ≡ part_cells ps ++ part_cells qs
part_cells-append [] qs = refl
part_cells-append (inner c ∷ ps) qs = ap (λ cs. c ∷ cs) (part_cells-append ps qs)
part_cells-append (calls c ∷ ps) qs = part_cells-append ps qs

cells-append : (n : ℕ) (ps qs : List Part) → cell_count n (part_cells (ps ++ qs)) ≡ cell_count n (part_cells ps) + cell_count n (part_cells qs)
cells-append n ps qs = ap (cell_count n) (part_cells-append ps qs) ∙ ap (count n) (map-append (λ (c : Cell). c.node) (part_cells ps) (part_cells qs)) ∙ total-append (hit n) (map (λ (c : Cell). c.node) (part_cells ps)) (map (λ (c : Cell). c.node) (part_cells qs))

outer_count : (n : ℕ) (o : Outer) → count n (numbers (plains None (o.parts ++ own_cell o.cell o.cell.form) ++ own_plain o.cell o.cell.form)) ≡ cell_count n (part_cells (o.parts ++ inner o.cell ∷ []))
outer_count n o = by o.cell.form
  where
    by : (f : Form) → count n (numbers (plains None (o.parts ++ own_cell o.cell f) ++ own_plain o.cell f)) ≡ cell_count n (part_cells (o.parts ++ inner o.cell ∷ []))
    by (compute e) =
        let a = numbers-append n (plains None (o.parts ++ [])) ((o.cell.node, true) ∷ []) in
        let b = plains_count n None (o.parts ++ []) in
        let c = cells-append n o.parts [] in
        let d = cells-append n o.parts (inner o.cell ∷ []) in
        omega arith
    by (read x i) =
        let a = numbers-append n (plains None (o.parts ++ inner o.cell ∷ [])) [] in
        let b = plains_count n None (o.parts ++ inner o.cell ∷ []) in
        omega arith

no_own : (n : ℕ) (ps : List Part) → count n (numbers (plains None ps ++ [])) ≡ cell_count n (part_cells ps)
no_own n ps = let a = numbers-append n (plains None ps) [] in let b = plains_count n None ps in omega arith

pub stmt_count : (n : ℕ) (st : Stmt) → count n (numbers (stmt_plains st)) ≡ cell_count n (cells st)
stmt_count n (stmt at m (declare x)) = refl
stmt_count n (stmt at m (call_alone p ps c)) = no_own n (parts (call_alone p ps c))
stmt_count n (stmt at m (assign x o)) = outer_count n o
stmt_count n (stmt at m (fill a o)) = outer_count n o
stmt_count n (stmt at m (insert a i o)) = no_own n (parts (insert a i o))
stmt_count n (stmt at m (print p o)) = outer_count n o
stmt_count n (stmt at m (assert p o)) = outer_count n o
stmt_count n (stmt at m (when c b)) = no_own n (parts (when c b))
stmt_count n (stmt at m (choose c b d)) = no_own n (parts (choose c b d))
stmt_count n (stmt at m (range lo hi st x y b)) = no_own n (parts (range lo hi st x y b))
stmt_count n (stmt at m (each a x y b)) = refl
stmt_count n (stmt at m (wait ns b)) = refl

abbrev pub all_plains : List Stmt → List (ℕ × Bool)
all_plains sts = flat_map stmt_plains sts

pub all_count : (n : ℕ) (sts : List Stmt) → count n (numbers (all_plains sts)) ≡ cell_count n (flat_map cells sts)
all_count n [] = refl
all_count n (st ∷ sts) =
    let a = numbers-append n (stmt_plains st) (all_plains sts) in
    let b = stmt_count n st in
    let d = all_count n sts in
    let e : cell_count n (cells st ++ flat_map cells sts) ≡ cell_count n (cells st) + cell_count n (flat_map cells sts) = ap (count n) (map-append (λ (c : Cell). c.node) (cells st) (flat_map cells sts)) ∙ total-append (hit n) (map (λ (c : Cell). c.node) (cells st)) (map (λ (c : Cell). c.node) (flat_map cells sts)) in
    omega arith

pub plains_there : {st : Stmt} {p : ℕ × Bool} (sts : List Stmt) → st ∈ sts → p ∈ stmt_plains st → p ∈ all_plains sts
plains_there [] m i = elim m [ ]
plains_there (st ∷ sts) first i = to_left (stmt_plains st) (all_plains sts) i
plains_there (st ∷ sts) (later m) i = to_right (stmt_plains st) (all_plains sts) (plains_there sts m i)

-- THE LAYOUT

-- the layout of a core, for variables that are arrays by a list
abbrev pub layout_of : Core → List (ℕ × Bool) → Layout
layout_of c ds = record { plain = λ n. look n (all_plains (script_stmts c)); array = λ n. look n ds; body_of = λ i. suc i }

plain_as : (l : Layout) (p : Option Part) (ps : List Part) → ((q : ℕ × Bool) → q ∈ plains p ps → l.plain q.0 ≡ q.1) → PlainAs l p ps
plain_as l p [] h = tt
plain_as l p (inner c ∷ ps) h = (h (c.node, plain_after p c.form) first, plain_as l (Some (inner c)) ps (λ q m. h q (later m)))
plain_as l p (calls c ∷ ps) h = plain_as l (Some (calls c)) ps h

own_as : (l : Layout) (c : Cell) (f : Form) → ((q : ℕ × Bool) → q ∈ own_plain c f → l.plain q.0 ≡ q.1) → own_is_plain l c f
own_as l c (compute e) h = h (c.node, true) first
own_as l c (read a i) h = tt

own_plain_as : (l : Layout) (a : Action) → ((q : ℕ × Bool) → q ∈ own_plains a → l.plain q.0 ≡ q.1) → OwnPlain l a
own_plain_as l (declare x) h = tt
own_plain_as l (call_alone p ps c) h = tt
own_plain_as l (assign x o) h = own_as l o.cell o.cell.form h
own_plain_as l (fill a o) h = own_as l o.cell o.cell.form h
own_plain_as l (insert a i o) h = tt
own_plain_as l (print p o) h = own_as l o.cell o.cell.form h
own_plain_as l (assert p o) h = own_as l o.cell o.cell.form h
own_plain_as l (when c b) h = tt
own_plain_as l (choose c b d) h = tt
own_plain_as l (range lo hi st x y b) h = tt
own_plain_as l (each a x y b) h = tt
own_plain_as l (wait ns b) h = tt

pub layout_suits : (c : Core) (ds : List (ℕ × Bool)) → CellsOnce c → (at n : ℕ) (a : Action) → stmt at n a ∈ script_stmts c → Suits (layout_of c ds) a
layout_suits c ds once at n a m = record {
  own = own_plain_as (layout_of c ds) a (λ q i. found q (to_right (plains None (own_parts a)) (own_plains a) i));
  parts_plain = plain_as (layout_of c ds) None (own_parts a) (λ q i. found q (to_left (plains None (own_parts a)) (own_plains a) i));
  bodies = λ i. refl;
}
  where
    found : (q : ℕ × Bool) → q ∈ stmt_plains (stmt at n a) → look q.0 (all_plains (script_stmts c)) ≡ q.1
    found q i = look_found (plains_there (script_stmts c) m i) (let a = all_count q.0 (script_stmts c) in let b = distinct_count (map (λ (x : Cell). x.node) (flat_map cells (script_stmts c))) once q.0 in omega arith)
