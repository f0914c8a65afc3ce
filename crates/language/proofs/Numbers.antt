-- The numbers of what is numbered from n on are n, n + 1, n + 2 ..
use Rattle.std.proofs.Common.{◌≡◌, ℕ, zero, suc, ◌+◌, List, [], ◌∷◌, ◌++◌, Option, Some, None, ap, ap₂, refl, sym, ◌∙◌, arith}
use Rattle.std.proofs.lemmas.List.Sums.{sum_by-cons}
use Rattle.std.specs.List.{sum_by, flat_map}
use Rattle.std.specs.Prelude.{option_map}
use Rattle.language.specs.Tree.{Word, Expression, expression, Form, number, text, truth, variable, element, call, prefixed, chain, Expressions, no_expressions, and_expression, Declaration, RightSide, value, list, Calling, Over, array, range, Statement, statement, Statements, no_statements, and_statement, Command, declare, assign, write, assign_all, calls, choice, choice_else, loop, waits, Body, body, Composite, Part, import, function, single, Tree}
use Rattle.language.specs.Numbered.{expression_size, form_size, expressions_size, word_size, declaration_size, right_size, calling_size, option_size, over_size, statement_size, command_size, body_size, statements_size, composite_size, part_size, tree_size, numbered_word, numbered_each, numbered_expression, numbered_form, numbered_expressions, numbered_declaration, numbered_right, numbered_calling, numbered_over, numbered_statement, numbered_command, numbered_body, numbered_statements, numbered_composite, numbered_part, numbered}
use Rattle.language.specs.Numbers.{expression_numbers, form_numbers, expressions_numbers, word_numbers, declaration_numbers, right_numbers, calling_numbers, option_numbers, over_numbers, statement_numbers, command_numbers, body_numbers, statements_numbers, composite_numbers, part_numbers, numbers, numbers_from}

numbers_from-add : (n a b : ℕ) → numbers_from n (a + b) ≡ numbers_from n a ++ numbers_from (n + a) b
numbers_from-add n zero b = let none : zero + b ≡ b = omega arith in let here : n ≡ n + zero = omega arith in ap (numbers_from n) none ∙ ap (λ m. numbers_from m b) here
numbers_from-add n (suc a) b =
    let more : suc a + b ≡ suc (a + b) = omega arith in
    let behind : n + 1 + a ≡ n + suc a = omega arith in
    ap (numbers_from n) more ∙ ap (λ xs. n ∷ xs) (numbers_from-add (n + 1) a b ∙ ap (λ m. numbers_from (n + 1) a ++ numbers_from m b) behind)

-- one number before others
headed : (n m : ℕ) (xs : List ℕ) → xs ≡ numbers_from (n + 1) m → n ∷ xs ≡ numbers_from n (1 + m)
headed n m xs rest = let more : suc m ≡ 1 + m = omega arith in ap (λ ys. n ∷ ys) rest ∙ ap (numbers_from n) more

-- some numbers before others
joined : (n a b m : ℕ) (xs ys : List ℕ) → xs ≡ numbers_from n a → ys ≡ numbers_from m b → m ≡ n + a → xs ++ ys ≡ numbers_from n (a + b)
joined n a b m xs ys front back is = ap₂ (λ x y. x ++ y) front (back ∙ ap (λ k. numbers_from k b) is) ∙ sym (numbers_from-add n a b)

each_counts : {X : Type 0} (f : ℕ → X → X) (size : X → ℕ) (nums : X → List ℕ) → ((n : ℕ) (x : X) → nums (f n x) ≡ numbers_from n (size x))
    → (n : ℕ) (xs : List X) → flat_map nums (numbered_each f size n xs) ≡ numbers_from n (sum_by size xs)
each_counts f size nums law n [] = refl
each_counts f size nums law n (x ∷ xs) =
    joined n (size x) (sum_by size xs) (n + size x) (nums (f n x)) (flat_map nums (numbered_each f size (n + size x) xs)) (law n x) (each_counts f size nums law (n + size x) xs) refl
    ∙ ap (numbers_from n) (sym (sum_by-cons size x xs))

option_counts : {X : Type 0} (f : ℕ → X → X) (size : X → ℕ) (nums : X → List ℕ) → ((n : ℕ) (x : X) → nums (f n x) ≡ numbers_from n (size x))
    → (n : ℕ) (o : Option X) → option_numbers nums (option_map (f n) o) ≡ numbers_from n (option_size size o)
option_counts f size nums law n None = refl
option_counts f size nums law n (Some x) = law n x

mutual
  expression_counts : (n : ℕ) (e : Expression) → expression_numbers (numbered_expression n e) ≡ numbers_from n (expression_size e)
  expression_counts n (expression node f) = headed n (form_size f) (form_numbers (numbered_form (n + 1) f)) (form_counts (n + 1) f)

  form_counts : (n : ℕ) (f : Form) → form_numbers (numbered_form n f) ≡ numbers_from n (form_size f)
  form_counts n (number z) = refl
  form_counts n (text t) = refl
  form_counts n (truth b) = refl
  form_counts n (variable w) = refl
  form_counts n (element w e) = headed n (expression_size e) (expression_numbers (numbered_expression (n + 1) e)) (expression_counts (n + 1) e)
  form_counts n (call w es) = headed n (expressions_size es) (expressions_numbers (numbered_expressions (n + 1) es)) (expressions_counts (n + 1) es)
  form_counts n (prefixed p e) = expression_counts n e
  form_counts n (chain os es) = expressions_counts n es

  expressions_counts : (n : ℕ) (es : Expressions) → expressions_numbers (numbered_expressions n es) ≡ numbers_from n (expressions_size es)
  expressions_counts n no_expressions = refl
  expressions_counts n (and_expression e es) =
      joined n (expression_size e) (expressions_size es) (n + expression_size e) (expression_numbers (numbered_expression n e)) (expressions_numbers (numbered_expressions (n + expression_size e) es))
      (expression_counts n e) (expressions_counts (n + expression_size e) es) refl

word_counts : (n : ℕ) (w : Word) → word_numbers (numbered_word n w) ≡ numbers_from n (word_size w)
word_counts n w = refl

declaration_counts : (n : ℕ) (d : Declaration) → declaration_numbers (numbered_declaration n d) ≡ numbers_from n (declaration_size d)
declaration_counts n d = refl

list_counts : (n : ℕ) (es : List Expression) → flat_map expression_numbers (numbered_each numbered_expression expression_size n es) ≡ numbers_from n (sum_by expression_size es)
list_counts n es = each_counts numbered_expression expression_size expression_numbers expression_counts n es

right_counts : (n : ℕ) (r : RightSide) → right_numbers (numbered_right n r) ≡ numbers_from n (right_size r)
right_counts n (value e) = expression_counts n e
right_counts n (list node es) = headed n (sum_by expression_size es) (flat_map expression_numbers (numbered_each numbered_expression expression_size (n + 1) es)) (list_counts (n + 1) es)

calling_counts : (n : ℕ) (c : Calling) → calling_numbers (numbered_calling n c) ≡ numbers_from n (calling_size c)
calling_counts n c =
    let arguments = flat_map expression_numbers (numbered_each numbered_expression expression_size (n + 1 + 1) c.arguments) in
    let two : 1 + (1 + sum_by expression_size c.arguments) ≡ 2 + sum_by expression_size c.arguments = omega arith in
    headed n (1 + sum_by expression_size c.arguments) ((n + 1) ∷ arguments) (headed (n + 1) (sum_by expression_size c.arguments) arguments (list_counts (n + 1 + 1) c.arguments))
    ∙ ap (numbers_from n) two

over_counts : (n : ℕ) (o : Over) → over_numbers (numbered_over n o) ≡ numbers_from n (over_size o)
over_counts n (array w) = refl
over_counts n (range low high step) =
    joined n (expression_size low + expression_size high) (option_size expression_size step) (n + expression_size low + expression_size high) _ _
    (joined n (expression_size low) (expression_size high) (n + expression_size low) _ _ (expression_counts n low) (expression_counts (n + expression_size low) high) refl)
    (option_counts numbered_expression expression_size expression_numbers expression_counts (n + expression_size low + expression_size high) step)
    (omega arith)

mutual
  statement_counts : (n : ℕ) (s : Statement) → statement_numbers (numbered_statement n s) ≡ numbers_from n (statement_size s)
  statement_counts n (statement node c) = headed n (command_size c) (command_numbers (numbered_command (n + 1) c)) (command_counts (n + 1) c)

  command_counts : (n : ℕ) (c : Command) → command_numbers (numbered_command n c) ≡ numbers_from n (command_size c)
  command_counts n (declare d r) =
      joined n 1 (option_size right_size r) (n + 1) _ _ (declaration_counts n d) (option_counts numbered_right right_size right_numbers right_counts (n + 1) r) refl
  command_counts n (assign w r) = headed n (right_size r) (right_numbers (numbered_right (n + 1) r)) (right_counts (n + 1) r)
  command_counts n (write w i e) =
      joined n (1 + expression_size i) (expression_size e) (n + 1 + expression_size i) _ _
      (headed n (expression_size i) (expression_numbers (numbered_expression (n + 1) i)) (expression_counts (n + 1) i))
      (expression_counts (n + 1 + expression_size i) e) (omega arith)
  command_counts n (assign_all ws c) =
      joined n (sum_by word_size ws) (calling_size c) (n + sum_by word_size ws) _ _
      (each_counts numbered_word word_size word_numbers word_counts n ws) (calling_counts (n + sum_by word_size ws) c) refl
  command_counts n (calls p c) = calling_counts n c
  command_counts n (choice e b) =
      joined n (expression_size e) (body_size b) (n + expression_size e) _ _ (expression_counts n e) (body_counts (n + expression_size e) b) refl
  command_counts n (choice_else e b other) =
      joined n (expression_size e + body_size b) (body_size other) (n + expression_size e + body_size b) _ _
      (joined n (expression_size e) (body_size b) (n + expression_size e) _ _ (expression_counts n e) (body_counts (n + expression_size e) b) refl)
      (body_counts (n + expression_size e + body_size b) other) (omega arith)
  command_counts n (loop w k o b) =
      joined n (1 + option_size word_size k + over_size o) (body_size b) (n + 1 + option_size word_size k + over_size o) _ _
      (joined n (1 + option_size word_size k) (over_size o) (n + 1 + option_size word_size k) _ _
      (headed n (option_size word_size k) (option_numbers word_numbers (option_map (numbered_word (n + 1)) k)) (option_counts numbered_word word_size word_numbers word_counts (n + 1) k))
      (over_counts (n + 1 + option_size word_size k) o) (omega arith))
      (body_counts (n + 1 + option_size word_size k + over_size o) b) (omega arith)
  command_counts n (waits ws b) =
      joined n (sum_by word_size ws) (body_size b) (n + sum_by word_size ws) _ _
      (each_counts numbered_word word_size word_numbers word_counts n ws) (body_counts (n + sum_by word_size ws) b) refl

  body_counts : (n : ℕ) (b : Body) → body_numbers (numbered_body n b) ≡ numbers_from n (body_size b)
  body_counts n (body from ss) = statements_counts n ss

  statements_counts : (n : ℕ) (ss : Statements) → statements_numbers (numbered_statements n ss) ≡ numbers_from n (statements_size ss)
  statements_counts n no_statements = refl
  statements_counts n (and_statement s ss) =
      joined n (statement_size s) (statements_size ss) (n + statement_size s) _ _ (statement_counts n s) (statements_counts (n + statement_size s) ss) refl

composite_counts : (n : ℕ) (f : Composite) → composite_numbers (numbered_composite n f) ≡ numbers_from n (composite_size f)
composite_counts n f =
    let outputs : ℕ = sum_by declaration_size f.outputs in
    let inputs : ℕ = sum_by declaration_size f.inputs in
    let size : 1 + outputs + (1 + inputs) + body_size f.body ≡ 1 + outputs + 1 + inputs + body_size f.body = omega arith in
    joined n (1 + outputs + (1 + inputs)) (body_size f.body) (n + 1 + outputs + 1 + inputs) _ _
    (joined n (1 + outputs) (1 + inputs) (n + 1 + outputs) _ _
    (headed n outputs (flat_map declaration_numbers (numbered_each numbered_declaration declaration_size (n + 1) f.outputs)) (each_counts numbered_declaration declaration_size declaration_numbers declaration_counts (n + 1) f.outputs))
    (headed (n + 1 + outputs) inputs (flat_map declaration_numbers (numbered_each numbered_declaration declaration_size (n + 1 + outputs + 1) f.inputs)) (each_counts numbered_declaration declaration_size declaration_numbers declaration_counts (n + 1 + outputs + 1) f.inputs))
    (omega arith))
    (body_counts (n + 1 + outputs + 1 + inputs) f.body) (omega arith)
    ∙ ap (numbers_from n) size

part_counts : (n : ℕ) (p : Part) → part_numbers (numbered_part n p) ≡ numbers_from n (part_size p)
part_counts n (import s) = refl
part_counts n (function f) = composite_counts n f
part_counts n (single s) = statement_counts n s

-- no two nodes share a number, and no number is left out
pub numbers-numbered : (n : ℕ) (t : Tree) → numbers (numbered n t) ≡ numbers_from n (tree_size t)
numbers-numbered n t = each_counts numbered_part part_size part_numbers part_counts n t
