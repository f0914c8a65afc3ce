-- The fold of a tree is no larger than the tree.
use Rattle.std.specs.Prelude.{◌≡◌, ℕ, ◌+◌, ◌≤◌, List, [], ◌∷◌, map, Option, Some, None, option_map, sum_by, Result, Ok, Err}
use Rattle.std.proofs.Common.{arith}
use Rattle.std.proofs.lemmas.List.Sums.{sum_by-cons}
use Rattle.values.specs.declared.fault.OpFault.{OpFault}
use Rattle.values.specs.declared.value.Scalar.{Scalar}
use Rattle.values.specs.declared.value.Scalar.TheVariants.{Number, Truth, Text}
use Rattle.values.specs.declared.value.Value.{Value}
use Rattle.values.specs.declared.value.Value.TheVariants.{One, Many}
use Rattle.values.specs.Operators.{Operation, evaluated}
use Rattle.language.specs.Numbered.{expression_size, form_size, expressions_size, right_size, calling_size, option_size, over_size, statement_size, command_size, body_size, statements_size, part_size, tree_size}
use Rattle.language.specs.Resolved.{chain_operation, prefix_operation}
use Rattle.language.specs.Tree.{Expression, expression, Form, number, text, truth, variable, element, call, prefixed, chain, Expressions, no_expressions, and_expression, RightSide, value, list, Calling, Over, array, range, Statement, statement, Statements, no_statements, and_statement, Command, declare, assign, write, assign_all, calls, choice, choice_else, loop, waits, Body, body, Part, import, function, single, Tree}
use Rattle.constant_fold.specs.Folded.{scalars_of, collapsed, called, called_operation, folded, folded_form, folded_all, folded_right, folded_calling, folded_over, folded_statement, folded_command, folded_body, folded_statements, folded_part, folded_tree}
use Rattle.constant_fold.specs.Literals.{literal_or}

literal_small : (f : Form) (r : Result Value OpFault) (k : ℕ) → form_size f ≤ k → form_size (literal_or f r) ≤ k
literal_small f (Ok (One (Number z))) k h = omega arith
literal_small f (Ok (One (Text bytes))) k h = omega arith
literal_small f (Ok (One (Truth b))) k h = omega arith
literal_small f (Ok (Many es)) k h = h
literal_small f (Err x) k h = h

collapsed_small : (o : Operation) (x : Option (List Scalar)) (f : Form) (k : ℕ) → form_size f ≤ k → form_size (collapsed o x f) ≤ k
collapsed_small o None f k h = h
collapsed_small o (Some vs) f k h = literal_small f (evaluated o (map (λ v. Ok (One v)) vs)) k h

called_small : (o : Option Operation) (x : Option (List Scalar)) (f : Form) (k : ℕ) → form_size f ≤ k → form_size (called o x f) ≤ k
called_small None x f k h = h
called_small (Some o) x f k h = collapsed_small o x f k h

each_small : {X : Type 0} (size : X → ℕ) (g : X → X) → ((x : X) → size (g x) ≤ size x) → (xs : List X) → sum_by size (map g xs) ≤ sum_by size xs
each_small size g h [] = omega arith
each_small size g h (x ∷ xs) =
    let a = h x in
    let b = each_small size g h xs in
    let c : sum_by size (map g (x ∷ xs)) ≡ size (g x) + sum_by size (map g xs) = sum_by-cons size (g x) (map g xs) in
    let d = sum_by-cons size x xs in
    omega arith

option_small : {X : Type 0} (size : X → ℕ) (g : X → X) → ((x : X) → size (g x) ≤ size x) → (o : Option X) → option_size size (option_map g o) ≤ option_size size o
option_small size g h None = omega arith
option_small size g h (Some x) = h x

mutual
  expression_small : (e : Expression) → expression_size (folded e) ≤ expression_size e
  expression_small (expression nd f) = let a = form_small f in omega arith

  form_small : (f : Form) → form_size (folded_form f) ≤ form_size f
  form_small (number z) = omega arith
  form_small (text bytes) = omega arith
  form_small (truth b) = omega arith
  form_small (variable w) = omega arith
  form_small (element w i) = let a = expression_small i in omega arith
  form_small (call w es) = let a = expressions_small es in called_small (called_operation w.text) (scalars_of (folded_all es)) (call w (folded_all es)) (form_size (call w es)) (omega arith)
  form_small (prefixed p e) = collapsed_small (prefix_operation p) (scalars_of (and_expression (folded e) no_expressions)) (prefixed p (folded e)) (form_size (prefixed p e)) (expression_small e)
  form_small (chain os es) = collapsed_small (chain_operation os) (scalars_of (folded_all es)) (chain os (folded_all es)) (form_size (chain os es)) (expressions_small es)

  expressions_small : (es : Expressions) → expressions_size (folded_all es) ≤ expressions_size es
  expressions_small no_expressions = omega arith
  expressions_small (and_expression e es) = let a = expression_small e in let b = expressions_small es in omega arith

right_small : (r : RightSide) → right_size (folded_right r) ≤ right_size r
right_small (value e) = expression_small e
right_small (list nd es) = let a = each_small expression_size folded expression_small es in omega arith

calling_small : (c : Calling) → calling_size (folded_calling c) ≤ calling_size c
calling_small c = let a = each_small expression_size folded expression_small c.arguments in omega arith

over_small : (o : Over) → over_size (folded_over o) ≤ over_size o
over_small (array w) = omega arith
over_small (range low high step) = let a = expression_small low in let b = expression_small high in let c = option_small expression_size folded expression_small step in omega arith

mutual
  statement_small : (s : Statement) → statement_size (folded_statement s) ≤ statement_size s
  statement_small (statement nd c) = let a = command_small c in omega arith

  command_small : (c : Command) → command_size (folded_command c) ≤ command_size c
  command_small (declare d r) = let a = option_small right_size folded_right right_small r in omega arith
  command_small (assign w r) = let a = right_small r in omega arith
  command_small (write w i e) = let a = expression_small i in let b = expression_small e in omega arith
  command_small (assign_all ws c) = let a = calling_small c in omega arith
  command_small (calls p c) = calling_small c
  command_small (choice e b) = let a = expression_small e in let c = body_small b in omega arith
  command_small (choice_else e b d) = let a = expression_small e in let c = body_small b in let f = body_small d in omega arith
  command_small (loop v k o b) = let a = over_small o in let c = body_small b in omega arith
  command_small (waits ws b) = let a = body_small b in omega arith

  body_small : (b : Body) → body_size (folded_body b) ≤ body_size b
  body_small (body from ss) = statements_small ss

  statements_small : (ss : Statements) → statements_size (folded_statements ss) ≤ statements_size ss
  statements_small no_statements = omega arith
  statements_small (and_statement s ss) = let a = statement_small s in let b = statements_small ss in omega arith

part_small : (p : Part) → part_size (folded_part p) ≤ part_size p
part_small (import sp) = omega arith
part_small (function f) = let a = body_small f.body in omega arith
part_small (single s) = statement_small s

pub tree_small : (tree : Tree) → tree_size (folded_tree tree) ≤ tree_size tree
tree_small tree = each_small part_size folded_part part_small tree
