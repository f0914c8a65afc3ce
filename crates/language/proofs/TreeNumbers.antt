-- The nodes of a core are numbers of its tree, each at most as often: so where no number stands twice in the tree, none does in the core.
use Rattle.std.specs.Prelude.{◌≡◌, ℕ, zero, suc, ◌+◌, ◌≤◌, Bool, true, false, not, ◌&&◌, ◌||◌, List, [], ◌∷◌, ◌++◌, nat_eq, cond, refl}
use Rattle.std.proofs.Common.{ap, subst, arith}
use Rattle.std.proofs.lemmas.Bool.{eqb-true, and_parts}
use Rattle.language.specs.Tree as T
use Rattle.language.specs.Tree.{Word, Node, Expression, expression, number, text, truth, variable, element, call, prefixed, chain, Expressions, no_expressions, and_expression, expressions_of, RightSide, value, list, Calling, Over, Statement, statement, Command, choice, choice_else, loop, waits, Body, body, Statements, no_statements, and_statement, Tree, import, function, single}
use Rattle.language.specs.Core.{here, compute, read, Call, Part, inner, calls}
use Rattle.language.specs.Parts.{part_cells, part_calls}
use Rattle.language.specs.Resolved.{Formed, Operands, Arguments, form_of, form_in, operands_of, arguments_of, as_cell, as_operand, as_argument, variable_or_cell, call_form, call_to, number_of}
use Rattle.language.specs.Table as table
use Rattle.language.specs.Table.{Table, Callee, composite, built_in}
use Rattle.language.specs.declared.tree.Shape.{Shape}
pub use Rattle.language.specs.Numbers.{expression_numbers, form_numbers, expressions_numbers}
use Rattle.language.specs.Members.{◌∈◌, first, later}
use Rattle.language.proofs.Tested.{flat, self_eq, cell_nodes, name_nodes}
use Rattle.language.specs.Distinct.{has, distinct}

-- COUNTS

-- 1 where two numbers are the same
pub hit : ℕ → ℕ → ℕ
hit n x = cond (nat_eq n x) 1 0

abbrev pub times : ℕ → List ℕ → ℕ
times n [] = 0
times n (x ∷ xs) = hit n x + times n xs

pub times-append : (n : ℕ) (xs ys : List ℕ) → times n (xs ++ ys) ≡ times n xs + times n ys
times-append n [] ys = omega arith
times-append n (x ∷ xs) ys = let e = times-append n xs ys in omega arith

pub times-flat : {X : Type 0} (f : X → List ℕ) (n : ℕ) (xs ys : List X) → times n (flat f (xs ++ ys)) ≡ times n (flat f xs) + times n (flat f ys)
times-flat f n [] ys = omega arith
times-flat f n (x ∷ xs) ys =
    let e = times-flat f n xs ys in
    let a = times-append n (f x) (flat f (xs ++ ys)) in
    let b = times-append n (f x) (flat f xs) in
    omega arith

pub hit_self : (n : ℕ) → hit n n ≡ 1
unfolding hit
hit_self n = ap (λ (b : Bool). cond b 1 0) (self_eq n)

times_has : (n : ℕ) (xs : List ℕ) → has n xs ≡ true → 1 ≤ times n xs
unfolding hit
times_has n [] h = absurd (cc (h))
times_has n (x ∷ xs) h = by (nat_eq n x) refl h (λ k. times_has n xs k)
  where
    by : (b : Bool) → nat_eq n x ≡ b → (b || has n xs) ≡ true → (has n xs ≡ true → 1 ≤ times n xs) → 1 ≤ times n (x ∷ xs)
    by true e k rec = let q : hit n x ≡ 1 = ap (λ (b : Bool). cond b 1 0) e in omega arith
    by false e k rec = let q = rec k in omega arith

has_times : (n : ℕ) (xs : List ℕ) → 1 ≤ times n xs → has n xs ≡ true
unfolding hit
has_times n [] h = absurd (omega arith)
has_times n (x ∷ xs) h = by (nat_eq n x) refl (λ k. has_times n xs k)
  where
    by : (b : Bool) → nat_eq n x ≡ b → (1 ≤ times n xs → has n xs ≡ true) → (b || has n xs) ≡ true
    by true e rec = refl
    by false e rec = let q : hit n x ≡ 0 = ap (λ (b : Bool). cond b 1 0) e in rec (omega arith)

pub in_times : {n : ℕ} {xs : List ℕ} → n ∈ xs → 1 ≤ times n xs
in_times {n} first = let e = hit_self n in omega arith
in_times (later m) = let e = in_times m in omega arith

-- what stands at most once each is distinct
pub few_distinct : (xs : List ℕ) → ((n : ℕ) → times n xs ≤ 1) → distinct xs ≡ true
few_distinct [] h = refl
few_distinct (x ∷ xs) h = and_true (not (has x xs)) (distinct xs) (fresh (has x xs) refl) (few_distinct xs (λ n. (let q = h n in omega arith)))
  where
    and_true : (a b : Bool) → a ≡ true → b ≡ true → (a && b) ≡ true
    and_true true b h k = k
    and_true false b h k = absurd (cc (h))

    fresh : (b : Bool) → has x xs ≡ b → not b ≡ true
    fresh false e = refl
    fresh true e = let q = times_has x xs e in let r = h x in let z = hit_self x in absurd (omega arith)

pub distinct_few : (xs : List ℕ) → distinct xs ≡ true → (n : ℕ) → times n xs ≤ 1
unfolding hit
distinct_few [] h n = omega arith
distinct_few (x ∷ xs) h n = by (nat_eq n x) refl (distinct_few xs (and_parts (not (has x xs)) (distinct xs) h).1 n)
  where
    none_more : has x xs ≡ true → ⊥
    none_more k = no_true (has x xs) (and_parts (not (has x xs)) (distinct xs) h).0 k
      where
        no_true : (b : Bool) → not b ≡ true → b ≡ true → ⊥
        no_true true h k = absurd (cc (h))
        no_true false h k = absurd (cc (k))

    few : (m : ℕ) → (1 ≤ m → ⊥) → m ≤ 0
    few zero h = omega arith
    few (suc m) h = absurd (h (omega arith))

    by : (b : Bool) → nat_eq n x ≡ b → times n xs ≤ 1 → times n (x ∷ xs) ≤ 1
    by true e rec =
        let same : n ≡ x = eqb-true n x e in
        let q : hit n x ≡ 1 = ap (λ (b : Bool). cond b 1 0) e in
        let z = few (times n xs) (λ k. none_more (subst (λ (m : ℕ). has m xs ≡ true) same (has_times n xs k))) in
        omega arith
    by false e rec = let q : hit n x ≡ 0 = ap (λ (b : Bool). cond b 1 0) e in omega arith

-- THE NODES OF PARTS

abbrev pub call_nodes : List Call → List ℕ
call_nodes cs = flat (λ (c : Call). name_nodes c.outputs) cs

-- how often a number is the node of a cell or of an output among the parts
abbrev pub part_times : ℕ → List Part → ℕ
part_times n ps = times n (cell_nodes (part_cells ps)) + times n (call_nodes (part_calls ps))

pub part-append : (n : ℕ) (ps qs : List Part) → part_times n (ps ++ qs) ≡ part_times n ps + part_times n qs
part-append n [] qs = omega arith
part-append n (inner c ∷ ps) qs = let e = part-append n ps qs in omega arith
part-append n (calls c ∷ ps) qs =
    let e = part-append n ps qs in
    let a = times-append n (name_nodes c.outputs) (call_nodes (part_calls (ps ++ qs))) in
    let b = times-append n (name_nodes c.outputs) (call_nodes (part_calls ps)) in
    omega arith

-- a cell of its own adds its node
cell_part : (n m : ℕ) (f : Formed) → part_times n (as_cell m f) ≡ part_times n f.0 + hit n m
cell_part n m f = let e = part-append n f.0 (inner (record { node = m; form = f.1 }) ∷ []) in omega arith

operand_part : (n m : ℕ) (f : Formed) → part_times n (as_operand m f).0 ≤ part_times n f.0 + hit n m
operand_part n m (ps, compute e) = omega arith
operand_part n m (ps, read a i) = let e = cell_part n m (ps, read a i) in omega arith

shape_part : (n m : ℕ) (sh : Shape) (t : Table) (w : Word) (f : Formed) → part_times n (variable_or_cell sh t w m f).0 ≤ part_times n f.0 + hit n m
shape_part n m (Shape.Array κ) t w f = omega arith
shape_part n m Shape.Scalar t w f = let e = cell_part n m f in omega arith

argument_part : (n : ℕ) (t : Table) (e : Expression) (f : Formed) → part_times n (as_argument t e f).0 ≤ part_times n f.0 + hit n (number_of e)
argument_part n t (expression nd (variable w)) f = shape_part n nd.number (t.shape_of w.number) t w f
argument_part n t (expression nd (number z)) f = let e = cell_part n nd.number f in omega arith
argument_part n t (expression nd (text bytes)) f = let e = cell_part n nd.number f in omega arith
argument_part n t (expression nd (truth b)) f = let e = cell_part n nd.number f in omega arith
argument_part n t (expression nd (element w i)) f = let e = cell_part n nd.number f in omega arith
argument_part n t (expression nd (call w es)) f = let e = cell_part n nd.number f in omega arith
argument_part n t (expression nd (prefixed p x)) f = let e = cell_part n nd.number f in omega arith
argument_part n t (expression nd (chain os es)) f = let e = cell_part n nd.number f in omega arith

pub call_part : (n : ℕ) (t : Table) (w : Word) (c : Callee) (es : Expressions) (xs : Arguments) (os : Operands) (k : ℕ) → part_times n xs.0 ≤ k → part_times n os.0 ≤ k → part_times n (call_form t w c es xs os).0 ≤ hit n w.number + k
call_part n t w (composite i) es xs os k h g = let e = part-append n xs.0 (calls (call_to w i xs.1 (here w.number ∷ [])) ∷ []) in omega arith
call_part n t w (built_in table.size) es xs os k h g = omega arith
call_part n t w (built_in table.strcat) es xs os k h g = omega arith
call_part n t w (built_in table.fromint) es xs os k h g = omega arith
call_part n t w (built_in table.toint) es xs os k h g = omega arith
call_part n t w (built_in table.printf) es xs os k h g = omega arith
call_part n t w (built_in table.assert) es xs os k h g = omega arith

mutual
  -- the parts before an expression have its numbers, but not its own
  pub expression_part : (n : ℕ) (t : Table) (e : Expression) → part_times n (form_of t e).0 + hit n (number_of e) ≤ times n (expression_numbers e)
  expression_part n t (expression nd f) = let q = form_part n t f in omega arith

  form_part : (n : ℕ) (t : Table) (f : T.Form) → part_times n (form_in t f).0 ≤ times n (form_numbers f)
  form_part n t (number z) = omega arith
  form_part n t (text bytes) = omega arith
  form_part n t (truth b) = omega arith
  form_part n t (variable w) = omega arith
  form_part n t (element w i) = let q = expression_part n t i in let c = cell_part n (number_of i) (form_of t i) in omega arith
  form_part n t (call w es) = call_part n t w (t.callee_of w.number) es (arguments_of t es) (operands_of t es) (times n (expressions_numbers es)) (arguments_part n t es) (operands_part n t es)
  form_part n t (prefixed p e) = let q = expression_part n t e in let c = operand_part n (number_of e) (form_of t e) in omega arith
  form_part n t (chain os es) = operands_part n t es

  pub operands_part : (n : ℕ) (t : Table) (es : Expressions) → part_times n (operands_of t es).0 ≤ times n (expressions_numbers es)
  operands_part n t no_expressions = omega arith
  operands_part n t (and_expression e es) =
      let q = expression_part n t e in
      let c = operand_part n (number_of e) (form_of t e) in
      let r = operands_part n t es in
      let a = part-append n (as_operand (number_of e) (form_of t e)).0 (operands_of t es).0 in
      let b = times-append n (expression_numbers e) (expressions_numbers es) in
      omega arith

  pub arguments_part : (n : ℕ) (t : Table) (es : Expressions) → part_times n (arguments_of t es).0 ≤ times n (expressions_numbers es)
  arguments_part n t no_expressions = omega arith
  arguments_part n t (and_expression e es) =
      let q = expression_part n t e in
      let c = argument_part n t e (form_of t e) in
      let r = arguments_part n t es in
      let a = part-append n (as_argument t e (form_of t e)).0 (arguments_of t es).0 in
      let b = times-append n (expression_numbers e) (expressions_numbers es) in
      omega arith
