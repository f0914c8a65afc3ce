-- A test that a core is singly assigned.
use Rattle.std.specs.Prelude.{◌≡◌, ◌⊎◌, ℕ, zero, suc, ◌+◌, ◌<◌, ◌≤◌, Bool, true, false, not, ◌&&◌, ◌||◌, List, [], ◌∷◌, Some, None, nat_eq, nat_lt, max, min, refl}
use Rattle.std.proofs.Common.{inl, inr, sym, ap, ◌∙◌, subst, arith}
use Rattle.std.proofs.lemmas.Bool.{eqb-true, ltb-true, and_from, or_cases, or_left, or_right, and_parts}
use Rattle.language.specs.Core.{Owned, local, input, output, Name, Expr, literal, name, whole, operator, Exprs, none, also, Form, compute, read, Cell, Awaited, scalar, array, Stmt, stmt, Action, declare, call_alone, assign, fill, insert, print, assert, when, choose, range, each, wait, Block, no_stmts, stmts, Function, Core}
use Rattle.language.specs.Members.{◌∈◌, first, later}
use Rattle.language.specs.Parts.{block_list, script_blocks, script_stmts, stmts_within, cells, stmt_action, by_name, by_element}
use Rattle.language.specs.Single.{Times, nowhere, here_too, not_here, IsSimple, Way, way_end, way_on, StmtWay, simple, taken, skipped, then_way, else_way, range_way, each_way, wait_way, IsNamed, IsWritten, Reads, the_name, an_operand, ReadsSome, the_first, a_later, IsRead, in_cell, in_wait, Owns, declared_here, an_output, Given, an_input, range_value, range_turn, each_value, each_key, LoopBody, of_range, of_each, SinglyAssigned}
use Rattle.language.proofs.Tested.{self_eq, flat_in, every, every_in, roles_of}
use Rattle.language_laws.proofs.TestedNames.{declared_by, declared_in}

-- COUNTS

abbrev is_one : Owned → Owned → Bool
is_one (local m) (local n) = nat_eq m n
is_one (input m) (input n) = nat_eq m n
is_one (output m) (output n) = nat_eq m n
is_one _ _ = false

one_self : (x : Owned) → is_one x x ≡ true
one_self (local n) = self_eq n
one_self (input n) = self_eq n
one_self (output n) = self_eq n

one_same : (x y : Owned) → is_one x y ≡ true → x ≡ y
one_same (local m) (local n) h = ap local (eqb-true m n h)
one_same (input m) (input n) h = ap input (eqb-true m n h)
one_same (output m) (output n) h = ap output (eqb-true m n h)
one_same (local m) (input n) h = absurd (cc (h))
one_same (local m) (output n) h = absurd (cc (h))
one_same (input m) (local n) h = absurd (cc (h))
one_same (input m) (output n) h = absurd (cc (h))
one_same (output m) (local n) h = absurd (cc (h))
one_same (output m) (input n) h = absurd (cc (h))

abbrev plus_one : Bool → ℕ → ℕ
plus_one true n = suc n
plus_one false n = n

abbrev count : Owned → List Name → ℕ
count x [] = 0
count x (y ∷ ys) = plus_one (is_one y.what x) (count x ys)

times_count : {x : Owned} {ys : List Name} {n : ℕ} → Times x ys n → n ≡ count x ys
times_count nowhere = refl
times_count {x} (here_too {y = y} {ys = ys} {n = n} e t) = ap suc (times_count t) ∙ ap (λ (b : Bool). plus_one b (count x ys)) (sym (subst (λ (z : Owned). is_one z x ≡ true) (sym e) (one_self x)))
times_count {x} (not_here {y = y} {ys = ys} {n = n} h t) = times_count t ∙ by (is_one y.what x) refl
  where
    by : (b : Bool) → is_one y.what x ≡ b → count x ys ≡ plus_one b (count x ys)
    by true e = absurd (h (one_same y.what x e))
    by false e = refl

abbrev mutual
  -- the most and the least that a way through a block assigns
  most : Owned → Block → ℕ
  most x no_stmts = 0
  most x (stmts s b) = most_stmt x s + most x b

  most_stmt : Owned → Stmt → ℕ
  most_stmt x (stmt at n a) = most_action x a

  most_action : Owned → Action → ℕ
  most_action x (declare v) = 0
  most_action x (call_alone p ps c) = count x c.outputs
  most_action x (assign y e) = count x (y ∷ [])
  most_action x (fill y e) = count x (y ∷ [])
  most_action x (insert y k e) = 0
  most_action x (print p e) = 0
  most_action x (assert p e) = 0
  most_action x (when c b) = most x b
  most_action x (choose c b d) = max (most x b) (most x d)
  most_action x (range lo hi st v t b) = 0
  most_action x (each y v t b) = 0
  most_action x (wait ns b) = most x b

abbrev mutual
  least : Owned → Block → ℕ
  least x no_stmts = 0
  least x (stmts s b) = least_stmt x s + least x b

  least_stmt : Owned → Stmt → ℕ
  least_stmt x (stmt at n a) = least_action x a

  least_action : Owned → Action → ℕ
  least_action x (declare v) = 0
  least_action x (call_alone p ps c) = count x c.outputs
  least_action x (assign y e) = count x (y ∷ [])
  least_action x (fill y e) = count x (y ∷ [])
  least_action x (insert y k e) = 0
  least_action x (print p e) = 0
  least_action x (assert p e) = 0
  least_action x (when c b) = 0
  least_action x (choose c b d) = min (least x b) (least x d)
  least_action x (range lo hi st v t b) = 0
  least_action x (each y v t b) = 0
  least_action x (wait ns b) = least x b

simple_most : {x : Owned} (a : Action) {m : ℕ} → IsSimple a → Times x (by_name a) m → (least_action x a ≤ m) × (m ≤ most_action x a)
simple_most (declare v) h times = let e = times_count times in (omega arith, omega arith)
simple_most (call_alone p ps c) h times = let e = times_count times in (omega arith, omega arith)
simple_most (assign y e) h times = let e = times_count times in (omega arith, omega arith)
simple_most (fill y e) h times = let e = times_count times in (omega arith, omega arith)
simple_most (insert y k e) h times = let e = times_count times in (omega arith, omega arith)
simple_most (print p e) h times = let e = times_count times in (omega arith, omega arith)
simple_most (assert p e) h times = let e = times_count times in (omega arith, omega arith)
simple_most (when c b) h times = absurd h
simple_most (choose c b d) h times = absurd h
simple_most (range lo hi st v t b) h times = absurd h
simple_most (each y v t b) h times = absurd h
simple_most (wait ns b) h times = absurd h

mutual
  way_between : {x : Owned} {b : Block} {n : ℕ} → Way x b n → (least x b ≤ n) × (n ≤ most x b)
  way_between way_end = (omega arith, omega arith)
  way_between (way_on h k e) =
      let a = stmt_between h in
      let b = way_between k in
      let p = a.0 in
      let q = a.1 in
      let r = b.0 in
      let t = b.1 in
      (omega arith, omega arith)

  stmt_between : {x : Owned} {s : Stmt} {n : ℕ} → StmtWay x s n → (least_stmt x s ≤ n) × (n ≤ most_stmt x s)
  stmt_between (simple {a = a} h t) = simple_most a h t
  stmt_between (taken h) = let r = way_between h in let q = r.1 in (omega arith, omega arith)
  stmt_between skipped = (omega arith, omega arith)
  stmt_between (then_way h) = let r = way_between h in let p = r.0 in let q = r.1 in (omega arith, omega arith)
  stmt_between (else_way h) = let r = way_between h in let p = r.0 in let q = r.1 in (omega arith, omega arith)
  stmt_between range_way = (omega arith, omega arith)
  stmt_between each_way = (omega arith, omega arith)
  stmt_between (wait_way h) = let r = way_between h in let p = r.0 in let q = r.1 in (omega arith, omega arith)

-- NAMES

abbrev any : {X : Type 0} → (X → Bool) → List X → Bool
any p [] = false
any p (x ∷ xs) = p x || any p xs

any_of : {X : Type 0} (p : X → Bool) {x : X} {xs : List X} → x ∈ xs → p x ≡ true → any p xs ≡ true
any_of p (first {x = x} {xs = xs}) h = or_left (p x) (any p xs) h
any_of p (later {y = y} {xs = xs} m) h = or_right (p y) (any p xs) (any_of p m h)

of_any : {X : Type 0} (p : X → Bool) (xs : List X) → any p xs ≡ true → (x : X) × (x ∈ xs) × (p x ≡ true)
of_any p [] h = absurd (cc (h))
of_any p (x ∷ xs) h = elim (or_cases (p x) (any p xs) h) [ inl e ↦ (x, first, e) | inr k ↦ (let r = of_any p xs k in (r.0, later r.1, r.2)) ]

abbrev is_this : Owned → Name → Bool
is_this x y = is_one y.what x

abbrev assigns : Owned → Stmt → Bool
assigns x st = any (is_this x) (by_name (stmt_action st))

abbrev writes : Owned → Stmt → Bool
writes x st = any (is_this x) (by_element (stmt_action st))

abbrev named : Owned → Block → Bool
named x b = any (assigns x) (stmts_within b)

abbrev written : Owned → Block → Bool
written x b = any (writes x) (stmts_within b)

this_one : (x : Owned) (y : Name) → y.what ≡ x → is_this x y ≡ true
this_one x y e = subst (λ (z : Owned). is_one z x ≡ true) (sym e) (one_self x)

named_true : {x : Owned} {b : Block} → IsNamed x b → named x b ≡ true
named_true {x} h = any_of (assigns x) h.there (any_of (is_this x) h.assigns (this_one x h.target h.is))

named_is : (x : Owned) (b : Block) → named x b ≡ true → IsNamed x b
named_is x b h =
    let r = of_any (assigns x) (stmts_within b) h in
    let q = of_any (is_this x) (by_name (stmt_action r.0)) r.2 in
    record { st = r.0; target = q.0; there = r.1; assigns = q.1; is = one_same (q.0).what x q.2 }

written_true : {x : Owned} {b : Block} → IsWritten x b → written x b ≡ true
written_true {x} h = any_of (writes x) h.there (any_of (is_this x) h.writes (this_one x h.target h.is))

written_is : (x : Owned) (b : Block) → written x b ≡ true → IsWritten x b
written_is x b h =
    let r = of_any (writes x) (stmts_within b) h in
    let q = of_any (is_this x) (by_element (stmt_action r.0)) r.2 in
    record { st = r.0; target = q.0; there = r.1; writes = q.1; is = one_same (q.0).what x q.2 }

-- READS

abbrev mutual
  reads : Owned → Expr → Bool
  reads x (literal v) = false
  reads x (name y) = is_this x y
  reads x (whole a) = false
  reads x (operator o es) = reads_some x es

  reads_some : Owned → Exprs → Bool
  reads_some x none = false
  reads_some x (also e es) = reads x e || reads_some x es

mutual
  reads_true : {x : Owned} {e : Expr} → Reads x e → reads x e ≡ true
  reads_true {x} (the_name {y = y} e) = this_one x y e
  reads_true (an_operand h) = some_true h

  some_true : {x : Owned} {es : Exprs} → ReadsSome x es → reads_some x es ≡ true
  some_true {x} (the_first {e = e} {es = es} h) = or_left (reads x e) (reads_some x es) (reads_true h)
  some_true {x} (a_later {e = e} {es = es} h) = or_right (reads x e) (reads_some x es) (some_true h)

abbrev form_reads : Owned → Form → Bool
form_reads x (compute e) = reads x e
form_reads x (read a i) = false

abbrev cell_reads : Owned → Cell → Bool
cell_reads x c = form_reads x c.form

abbrev awaited_is : Owned → Awaited → Bool
awaited_is x (scalar y) = is_this x y
awaited_is x (array y) = false

abbrev awaits : Owned → Action → Bool
awaits x (wait ns d) = any (awaited_is x) ns
awaits x _ = false

abbrev stmt_reads : Owned → Stmt → Bool
stmt_reads x st = any (cell_reads x) (cells st) || awaits x (stmt_action st)

abbrev is_read : Owned → Block → Bool
is_read x b = any (stmt_reads x) (stmts_within b)

read_true : {x : Owned} {b : Block} → IsRead x b → is_read x b ≡ true
read_true {x} (in_cell {s = s} i m h) = any_of (stmt_reads x) i (or_left (any (cell_reads x) (cells s)) (awaits x (stmt_action s)) (any_of (cell_reads x) m (reads_true h)))
read_true {x} (in_wait {at = at} {n = n} {ns = ns} {d = d} {y = y} i m e) =
    any_of (stmt_reads x) i (or_right (any (cell_reads x) (cells (stmt at n (wait ns d)))) (any (awaited_is x) ns) (any_of (awaited_is x) m (this_one x y e)))

-- THE TEST

abbrev implies : Bool → Bool → Bool
implies a b = not a || b

implied : (a b : Bool) → implies a b ≡ true → a ≡ true → b ≡ true
implied true b h k = h
implied false b h k = absurd (cc (k))

denied : (a : Bool) {A : Type 0} → not a ≡ true → a ≡ true → A
denied true h k = absurd (cc (h))
denied false h k = absurd (cc (k))

-- the branches of an `if` count alike
abbrev branches : Owned → Action → Bool
branches x (when c d) = nat_eq (most x d) 0
branches x (choose c d e) = nat_eq (least x d) (most x d) && (nat_eq (most x d) (least x e) && nat_eq (least x e) (most x e))
branches x _ = true

abbrev branches_fine : Owned → Stmt → Bool
branches_fine x (stmt at n a) = branches x a

-- a loop assigns nothing from outside
abbrev loop : Owned → Action → Bool
loop x (range lo hi st v t d) = not (named x d)
loop x (each y v t d) = not (named x d)
loop x _ = true

abbrev loop_fine : Owned → Stmt → Bool
loop_fine x (stmt at n a) = loop x a

abbrev owner_fine : Owned → Block → Bool
owner_fine x b =
    nat_lt (most x b) 2 && (every (branches_fine x) (stmts_within b) && (implies (is_read x b) (named x b) && (every (loop_fine x) (stmts_within b) && not (named x b && written x b))))

abbrev given_fine : Owned → Block → Bool
given_fine x b = nat_eq (most x b) 0 && (every (loop_fine x) (stmts_within b) && not (written x b))

abbrev below : ℕ → List ℕ
below zero = []
below (suc n) = n ∷ below n

below_in : (j n : ℕ) → j < n → j ∈ below n
below_in j zero h = absurd (omega arith)
below_in j (suc n) h = elim (last j n h) [ inl e ↦ subst (λ (z : ℕ). j ∈ (z ∷ below n)) e first | inr l ↦ later (below_in j n l) ]
  where
    last : (j n : ℕ) → j < suc n → (j ≡ n) ⊎ (j < n)
    last j n h = grind arith

abbrev block_fine : Block → Bool
block_fine b = every (λ (n : ℕ). owner_fine (local n) b) (declared_in b)

abbrev output_fine : Function → ℕ → Bool
output_fine f j = owner_fine (output j) f.body && (named (output j) f.body || written (output j) f.body)

abbrev outputs_fine : Function → Bool
outputs_fine f = every (output_fine f) (below f.outputs)

abbrev inputs_fine : Function → Bool
inputs_fine f = every (λ (j : ℕ). given_fine (input j) f.body) (below f.inputs)

abbrev loop_body : Action → Block
loop_body (range lo hi st v t b) = b
loop_body (each y v t b) = b
loop_body _ = no_stmts

abbrev loops_given : Stmt → Bool
loops_given (stmt at n a) = every (λ (v : ℕ). given_fine (local v) (loop_body a)) (roles_of a)

-- a core passes the test of single assignment
pub record PassesSingle (s : Core) : Type 0 where
  pub declared : every block_fine (script_blocks s) ≡ true
  pub outputs : every outputs_fine s.functions ≡ true
  pub inputs : every inputs_fine s.functions ≡ true
  pub loops : every loops_given (script_stmts s) ≡ true

record IsOwner (x : Owned) (b : Block) : Type 0 where
  few : most x b < 2
  alike : every (branches_fine x) (stmts_within b) ≡ true
  read : implies (is_read x b) (named x b) ≡ true
  loops : every (loop_fine x) (stmts_within b) ≡ true
  form : not (named x b && written x b) ≡ true

owner_of : (x : Owned) (b : Block) → owner_fine x b ≡ true → IsOwner x b
owner_of x b h =
    let a = and_parts (nat_lt (most x b) 2) (every (branches_fine x) (stmts_within b) && (implies (is_read x b) (named x b) && (every (loop_fine x) (stmts_within b) && not (named x b && written x b)))) h in
    let c = and_parts (every (branches_fine x) (stmts_within b)) (implies (is_read x b) (named x b) && (every (loop_fine x) (stmts_within b) && not (named x b && written x b))) a.1 in
    let d = and_parts (implies (is_read x b) (named x b)) (every (loop_fine x) (stmts_within b) && not (named x b && written x b)) c.1 in
    let e = and_parts (every (loop_fine x) (stmts_within b)) (not (named x b && written x b)) d.1 in
    record { few = ltb-true (most x b) 2 a.0; alike = c.0; read = d.0; loops = e.0; form = e.1 }

record IsGiven (x : Owned) (b : Block) : Type 0 where
  none_at_all : most x b ≡ 0
  loops : every (loop_fine x) (stmts_within b) ≡ true
  form : not (written x b) ≡ true

given_of : (x : Owned) (b : Block) → given_fine x b ≡ true → IsGiven x b
given_of x b h =
    let a = and_parts (nat_eq (most x b) 0) (every (loop_fine x) (stmts_within b) && not (written x b)) h in
    let c = and_parts (every (loop_fine x) (stmts_within b)) (not (written x b)) a.1 in
    record { none_at_all = eqb-true (most x b) 0 a.0; loops = c.0; form = c.1 }

module _ (s : Core) (g : PassesSingle s) where
  owner : {x : Owned} {b : Block} → Owns s x b → IsOwner x b
  owner (declared_here {b = b} {n = n} m i) =
      owner_of (local n) b (every_in (λ (n : ℕ). owner_fine (local n) b) (declared_in b) (every_in block_fine (script_blocks s) g.declared m) (flat_in declared_by (block_list b) i first))
  owner (an_output {f = f} {j = j} m l) =
      owner_of (output j) f.body (and_parts (owner_fine (output j) f.body) (named (output j) f.body || written (output j) f.body) (every_in (output_fine f) (below f.outputs) (every_in outputs_fine s.functions g.outputs m) (below_in j f.outputs l))).0

  of_loop : {at n v : ℕ} {a : Action} → stmt at n a ∈ script_stmts s → v ∈ roles_of a → IsGiven (local v) (loop_body a)
  of_loop {v = v} {a = a} m i = given_of (local v) (loop_body a) (every_in (λ (v : ℕ). given_fine (local v) (loop_body a)) (roles_of a) (every_in loops_given (script_stmts s) g.loops m) i)

  given : {x : Owned} {b : Block} → Given s x b → IsGiven x b
  given (an_input {f = f} {j = j} m l) = given_of (input j) f.body (every_in (λ (j : ℕ). given_fine (input j) f.body) (below f.inputs) (every_in inputs_fine s.functions g.inputs m) (below_in j f.inputs l))
  given (range_value {k = None} m) = of_loop m first
  given (range_value {k = Some k} m) = of_loop m first
  given (range_turn m) = of_loop m (later first)
  given (each_value {k = None} m) = of_loop m first
  given (each_value {k = Some k} m) = of_loop m first
  given (each_key m) = of_loop m (later first)

  no_loop : {x : Owned} {b d : Block} → every (loop_fine x) (stmts_within b) ≡ true → LoopBody b d → IsNamed x d → ⊥
  no_loop {x} {b} {d} h (of_range i) n = denied (named x d) (every_in (loop_fine x) (stmts_within b) h i) (named_true n)
  no_loop {x} {b} {d} h (of_each i) n = denied (named x d) (every_in (loop_fine x) (stmts_within b) h i) (named_true n)

  two_branches : (x : Owned) (d e : Block) (i j : ℕ) → (nat_eq (least x d) (most x d) && (nat_eq (most x d) (least x e) && nat_eq (least x e) (most x e))) ≡ true → Way x d i → Way x e j → i ≡ j
  two_branches x d e i j h k l =
      let a = and_parts (nat_eq (least x d) (most x d)) (nat_eq (most x d) (least x e) && nat_eq (least x e) (most x e)) h in
      let b = and_parts (nat_eq (most x d) (least x e)) (nat_eq (least x e) (most x e)) a.1 in
      let p = eqb-true (least x d) (most x d) a.0 in
      let q = eqb-true (most x d) (least x e) b.0 in
      let r = eqb-true (least x e) (most x e) b.1 in
      let u = way_between k in
      let v = way_between l in
      let u0 = u.0 in
      let u1 = u.1 in
      let v0 = v.0 in
      let v1 = v.1 in
      omega arith

  -- A CORE THAT PASSES IS SINGLY ASSIGNED
  pub singly_assigned : SinglyAssigned s
  singly_assigned = record {
    once = λ x b n o w. (let l = (owner o).few in let k = (way_between w).1 in omega arith);
    given_once = λ x b n o w. (let l = (given o).none_at_all in let k = (way_between w).1 in omega arith);
    alike = λ x b at n c d e i j o m k l. two_branches x d e i j (every_in (branches_fine x) (stmts_within b) (owner o).alike m) k l;
    alone = λ x b at n c d i o m k. (let l = eqb-true (most x d) 0 (every_in (branches_fine x) (stmts_within b) (owner o).alike m) in let u = (way_between k).1 in omega arith);
    assigned = λ x b o r. named_is x b (implied (is_read x b) (named x b) (owner o).read (read_true r));
    outside_loops = λ x b d o l n. elim o [ inl h ↦ no_loop (owner h).loops l n | inr h ↦ no_loop (given h).loops l n ];
    one_form = λ x b o n w. denied (named x b && written x b) (owner o).form (and_from (named x b) (written x b) (named_true n) (written_true w));
    given_form = λ x b o w. denied (written x b) (given o).form (written_true w);
    output_assigned = λ f j m l. elim (or_cases (named (output j) f.body) (written (output j) f.body) (and_parts (owner_fine (output j) f.body) (named (output j) f.body || written (output j) f.body) (every_in (output_fine f) (below f.outputs) (every_in outputs_fine s.functions g.outputs m) (below_in j f.outputs l))).1) [
      | inl h ↦ inl (named_is (output j) f.body h)
      | inr h ↦ inr (written_is (output j) f.body h)
    ];
  }
