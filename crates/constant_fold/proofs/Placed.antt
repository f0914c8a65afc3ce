-- The numbers and the offsets of a fold are those of the tree, with some taken out.
use Rattle.std.specs.Prelude.{◌≡◌, ℕ, List, [], ◌∷◌, map, Option, Some, None, Result, Ok, Err, refl}
use Rattle.std.proofs.Common.{sym, subst}
use Rattle.values.specs.declared.fault.OpFault.{OpFault}
use Rattle.values.specs.declared.value.Scalar.{Scalar}
use Rattle.values.specs.declared.value.Scalar.TheVariants.{Number, Truth, Text}
use Rattle.values.specs.declared.value.Value.{Value}
use Rattle.values.specs.declared.value.Value.TheVariants.{One, Many}
use Rattle.values.specs.Operators.{Operation, evaluated}
use Rattle.language.specs.Numbers.{expression_numbers, form_numbers, expressions_numbers, right_numbers, calling_numbers, over_numbers, statement_numbers, command_numbers, body_numbers, statements_numbers, part_numbers, numbers}
use Rattle.language.specs.Resolved.{chain_operation, prefix_operation}
use Rattle.language.specs.Tree.{Expression, expression, Form, number, text, truth, variable, element, call, prefixed, chain, Expressions, no_expressions, and_expression, expressions_of, RightSide, value, list, Calling, Over, array, range, Statement, statement, Statements, no_statements, and_statement, Command, declare, assign, write, assign_all, calls, choice, choice_else, loop, waits, Body, body, Part, import, function, single, Tree}
use Rattle.language_laws.specs.Offsets.{expression_offsets, form_offsets, expressions_offsets, right_offsets, calling_offsets, over_offsets, header_offsets, statement_offsets, command_offsets, body_offsets, statements_offsets, tree_offsets}
use Rattle.constant_fold.specs.Folded.{scalars_of, collapsed, called, called_operation, folded, folded_form, folded_all, folded_right, folded_calling, folded_over, folded_statement, folded_command, folded_body, folded_statements, folded_part, folded_tree}
use Rattle.constant_fold.specs.Literals.{literal_of, literal_or}
use Rattle.constant_fold.proofs.Scripts.{all_of}
use Rattle.language_accepted.specs.Placed.{IsPlaced}
use Rattle.constant_fold.proofs.Sublists.{Sub, nothing, kept, sub_all, sub_none, sub_both, sub_each, sub_option, sub_maybe, sub_rises, sub_distinct}

-- A LITERAL HAS NONE

module _ (of : Form → List ℕ) (bare : (v : Scalar) → of (literal_of v) ≡ []) where
  literal_sub : (f : Form) (r : Result Value OpFault) (all : List ℕ) → Sub (of f) all → Sub (of (literal_or f r)) all
  literal_sub f (Ok (One v)) all h = subst (λ xs. Sub xs all) (sym (bare v)) (sub_none all)
  literal_sub f (Ok (Many es)) all h = h
  literal_sub f (Err x) all h = h

  collapsed_sub : (o : Operation) (x : Option (List Scalar)) (f : Form) (all : List ℕ) → Sub (of f) all → Sub (of (collapsed o x f)) all
  collapsed_sub o None f all h = h
  collapsed_sub o (Some vs) f all h = literal_sub f (evaluated o (map (λ v. Ok (One v)) vs)) all h

  called_sub : (o : Option Operation) (x : Option (List Scalar)) (f : Form) (all : List ℕ) → Sub (of f) all → Sub (of (called o x f)) all
  called_sub None x f all h = h
  called_sub (Some o) x f all h = collapsed_sub o x f all h

bare_numbers : (v : Scalar) → form_numbers (literal_of v) ≡ []
bare_numbers (Number z) = refl
bare_numbers (Text bytes) = refl
bare_numbers (Truth b) = refl

bare_offsets : (v : Scalar) → form_offsets (literal_of v) ≡ []
bare_offsets (Number z) = refl
bare_offsets (Text bytes) = refl
bare_offsets (Truth b) = refl

-- NUMBERS

mutual
  expression_sub : (e : Expression) → Sub (expression_numbers (folded e)) (expression_numbers e)
  expression_sub (expression nd f) = kept (form_sub f)

  form_sub : (f : Form) → Sub (form_numbers (folded_form f)) (form_numbers f)
  form_sub (number z) = nothing
  form_sub (text bytes) = nothing
  form_sub (truth b) = nothing
  form_sub (variable w) = sub_all (w.number ∷ [])
  form_sub (element w i) = kept (expression_sub i)
  form_sub (call w es) = called_sub form_numbers bare_numbers (called_operation w.text) (scalars_of (folded_all es)) (call w (folded_all es)) (form_numbers (call w es)) (kept (expressions_sub es))
  form_sub (prefixed p e) = collapsed_sub form_numbers bare_numbers (prefix_operation p) (scalars_of (and_expression (folded e) no_expressions)) (prefixed p (folded e)) (form_numbers (prefixed p e)) (expression_sub e)
  form_sub (chain os es) = collapsed_sub form_numbers bare_numbers (chain_operation os) (scalars_of (folded_all es)) (chain os (folded_all es)) (form_numbers (chain os es)) (expressions_sub es)

  expressions_sub : (es : Expressions) → Sub (expressions_numbers (folded_all es)) (expressions_numbers es)
  expressions_sub no_expressions = nothing
  expressions_sub (and_expression e es) = sub_both (expression_sub e) (expressions_sub es)

right_sub : (r : RightSide) → Sub (right_numbers (folded_right r)) (right_numbers r)
right_sub (value e) = expression_sub e
right_sub (list nd es) = kept (sub_each expression_numbers folded expression_sub es)

calling_sub : (c : Calling) → Sub (calling_numbers (folded_calling c)) (calling_numbers c)
calling_sub c = kept (kept (sub_each expression_numbers folded expression_sub c.arguments))

over_sub : (o : Over) → Sub (over_numbers (folded_over o)) (over_numbers o)
over_sub (array w) = sub_all (w.number ∷ [])
over_sub (range low high step) = sub_both (sub_both (expression_sub low) (expression_sub high)) (sub_option expression_numbers folded expression_sub step)

mutual
  statement_sub : (s : Statement) → Sub (statement_numbers (folded_statement s)) (statement_numbers s)
  statement_sub (statement nd c) = kept (command_sub c)

  command_sub : (c : Command) → Sub (command_numbers (folded_command c)) (command_numbers c)
  command_sub (declare d r) = kept (sub_option right_numbers folded_right right_sub r)
  command_sub (assign w r) = kept (right_sub r)
  command_sub (write w i e) = kept (sub_both (expression_sub i) (expression_sub e))
  command_sub (assign_all ws c) = sub_both (sub_all _) (calling_sub c)
  command_sub (calls p c) = calling_sub c
  command_sub (choice e b) = sub_both (expression_sub e) (body_sub b)
  command_sub (choice_else e b d) = sub_both (sub_both (expression_sub e) (body_sub b)) (body_sub d)
  command_sub (loop v k o b) = kept (sub_both (sub_both (sub_all _) (over_sub o)) (body_sub b))
  command_sub (waits ws b) = sub_both (sub_all _) (body_sub b)

  body_sub : (b : Body) → Sub (body_numbers (folded_body b)) (body_numbers b)
  body_sub (body from ss) = statements_sub ss

  statements_sub : (ss : Statements) → Sub (statements_numbers (folded_statements ss)) (statements_numbers ss)
  statements_sub no_statements = nothing
  statements_sub (and_statement s ss) = sub_both (statement_sub s) (statements_sub ss)

part_sub : (p : Part) → Sub (part_numbers (folded_part p)) (part_numbers p)
part_sub (import sp) = nothing
part_sub (function f) = kept (sub_both (sub_all _) (body_sub f.body))
part_sub (single s) = statement_sub s

numbers_sub : (tree : Tree) → Sub (numbers (folded_tree tree)) (numbers tree)
numbers_sub tree = sub_each part_numbers folded_part part_sub tree

-- OFFSETS

mutual
  expression_lies : (e : Expression) → Sub (expression_offsets (folded e)) (expression_offsets e)
  expression_lies (expression nd f) = form_lies f

  form_lies : (f : Form) → Sub (form_offsets (folded_form f)) (form_offsets f)
  form_lies (number z) = nothing
  form_lies (text bytes) = nothing
  form_lies (truth b) = nothing
  form_lies (variable w) = nothing
  form_lies (element w i) = expression_lies i
  form_lies (call w es) = called_sub form_offsets bare_offsets (called_operation w.text) (scalars_of (folded_all es)) (call w (folded_all es)) (form_offsets (call w es)) (kept (expressions_lie es))
  form_lies (prefixed p e) = collapsed_sub form_offsets bare_offsets (prefix_operation p) (scalars_of (and_expression (folded e) no_expressions)) (prefixed p (folded e)) (form_offsets (prefixed p e)) (expression_lies e)
  form_lies (chain os es) = collapsed_sub form_offsets bare_offsets (chain_operation os) (scalars_of (folded_all es)) (chain os (folded_all es)) (form_offsets (chain os es)) (expressions_lie es)

  expressions_lie : (es : Expressions) → Sub (expressions_offsets (folded_all es)) (expressions_offsets es)
  expressions_lie no_expressions = nothing
  expressions_lie (and_expression e es) = sub_both (expression_lies e) (expressions_lie es)

list_lies : (es : List Expression) → Sub (expressions_offsets (expressions_of (map folded es))) (expressions_offsets (expressions_of es))
list_lies es = subst (λ ds. Sub (expressions_offsets ds) (expressions_offsets (expressions_of es))) (sym (all_of es)) (expressions_lie (expressions_of es))

right_lies : (r : RightSide) → Sub (right_offsets (folded_right r)) (right_offsets r)
right_lies (value e) = expression_lies e
right_lies (list nd es) = list_lies es

calling_lies : (c : Calling) → Sub (calling_offsets (folded_calling c)) (calling_offsets c)
calling_lies c = kept (list_lies c.arguments)

over_lies : (o : Over) → Sub (over_offsets (folded_over o)) (over_offsets o)
over_lies (array w) = nothing
over_lies (range low high step) = sub_both (expression_lies low) (sub_both (expression_lies high) (sub_maybe expression_offsets folded expression_lies step))

header_lies : (at : ℕ) (c : Command) → Sub (header_offsets at (folded_command c)) (header_offsets at c)
header_lies at (choice e b) = sub_all _
header_lies at (choice_else e b d) = sub_all _
header_lies at (loop v k o b) = sub_all _
header_lies at (declare d r) = nothing
header_lies at (assign w r) = nothing
header_lies at (write w i e) = nothing
header_lies at (assign_all ws c) = nothing
header_lies at (calls p c) = nothing
header_lies at (waits ws b) = nothing

mutual
  statement_lies : (s : Statement) → Sub (statement_offsets (folded_statement s)) (statement_offsets s)
  statement_lies (statement nd c) = sub_both (header_lies nd.first.from c) (command_lies c)

  command_lies : (c : Command) → Sub (command_offsets (folded_command c)) (command_offsets c)
  command_lies (declare d r) = sub_maybe right_offsets folded_right right_lies r
  command_lies (assign w r) = right_lies r
  command_lies (write w i e) = sub_both (expression_lies i) (expression_lies e)
  command_lies (assign_all ws c) = calling_lies c
  command_lies (calls p c) = calling_lies c
  command_lies (choice e b) = sub_both (expression_lies e) (body_lies b)
  command_lies (choice_else e b d) = sub_both (expression_lies e) (sub_both (body_lies b) (body_lies d))
  command_lies (loop v k o b) = sub_both (over_lies o) (body_lies b)
  command_lies (waits ws b) = body_lies b

  body_lies : (b : Body) → Sub (body_offsets (folded_body b)) (body_offsets b)
  body_lies (body from ss) = statements_lie ss

  statements_lie : (ss : Statements) → Sub (statements_offsets (folded_statements ss)) (statements_offsets ss)
  statements_lie no_statements = nothing
  statements_lie (and_statement s ss) = sub_both (statement_lies s) (statements_lie ss)

offsets_sub : (tree : Tree) → Sub (tree_offsets (folded_tree tree)) (tree_offsets tree)
offsets_sub [] = nothing
offsets_sub (import sp ∷ ps) = offsets_sub ps
offsets_sub (function f ∷ ps) = sub_both (body_lies f.body) (offsets_sub ps)
offsets_sub (single s ∷ ps) = sub_both (statement_lies s) (offsets_sub ps)

pub folded_placed : (tree : Tree) → IsPlaced tree → IsPlaced (folded_tree tree)
folded_placed tree p = record { in_order = sub_rises (numbers_sub tree) 0 p.in_order; apart = sub_distinct (offsets_sub tree) p.apart }
