-- A tree that is numbered has as many numbers as before; so a script that was read comes to code that has room.
use Rattle.std.proofs.Common.{◌≡◌, ℕ, ◌+◌, ◌*◌, ◌≤◌, List, [], ◌∷◌, refl, ap, sym, ◌∙◌, Option, Some, None, arith}
use Rattle.std.specs.Prelude.{option_map, sum_by, ◌<◌, ◌^◌}
use Rattle.std.proofs.lemmas.List.Sums.{sum_by-cons}
use Rattle.language.specs.Tree.{Expression, expression, Form, number, text, truth, variable, element, call, prefixed, chain, Expressions, no_expressions, and_expression, RightSide, value, list, Calling, Over, array, range, Statement, statement, Statements, no_statements, and_statement, Command, declare, assign, write, assign_all, calls, choice, choice_else, loop, waits, Body, body, Composite, Part, import, function, single, Tree}
use Rattle.language.specs.Numbered.{expression_size, form_size, expressions_size, word_size, declaration_size, right_size, calling_size, option_size, over_size, statement_size, command_size, body_size, statements_size, composite_size, part_size, tree_size, numbered_word, numbered_each, numbered_expression, numbered_form, numbered_expressions, numbered_declaration, numbered_right, numbered_calling, numbered_over, numbered_statement, numbered_command, numbered_body, numbered_statements, numbered_composite, numbered_part, numbered}
use Rattle.language.specs.Reads.{Reads}
use Rattle.language.specs.Resolved.{core}
use Rattle.language.specs.Table.{Table}
use Rattle.language.specs.Typing.{WellTyped}
use Rattle.syntax.proofs.Sizes.{script_fits, tokens_fit}
use Rattle.code_rules.specs.Emitted.{size_of}
use Rattle.code_rules.specs.Room.{CoreRoom}
use Rattle.language_accepted.specs.Placed.{IsPlaced}
use Rattle.language_accepted.proofs.Apart.{read_placed}
use Rattle.code_laws.proofs.Room.{room_in}
use Rattle.code_laws.proofs.Sizes.{size_within}
use Rattle.constant_fold.specs.Folded.{folded_tree}
use Rattle.constant_fold.proofs.Placed.{folded_placed}
use Rattle.constant_fold.proofs.Smaller.{tree_small}
use Rattle.constant_fold.proofs.Typed.{folded_typed}
use Rattle.values.specs.Limits.{max_entries, max_nesting}

each_same : {X : Type 0} (f : ℕ → X → X) (size : X → ℕ) → ((n : ℕ) (x : X) → size (f n x) ≡ size x) → (n : ℕ) (xs : List X) → sum_by size (numbered_each f size n xs) ≡ sum_by size xs
each_same f size h n [] = refl
each_same f size h n (x ∷ xs) = sum_by-cons size (f n x) (numbered_each f size (n + size x) xs) ∙ (λ i. h n x i + each_same f size h (n + size x) xs i) ∙ sym (sum_by-cons size x xs)

option_same : {X : Type 0} (f : ℕ → X → X) (size : X → ℕ) → ((n : ℕ) (x : X) → size (f n x) ≡ size x) → (n : ℕ) (o : Option X) → option_size size (option_map (f n) o) ≡ option_size size o
option_same f size h n None = refl
option_same f size h n (Some x) = h n x

mutual
  expression_same : (n : ℕ) (e : Expression) → expression_size (numbered_expression n e) ≡ expression_size e
  expression_same n (expression node f) = ap (λ m. 1 + m) (form_same (n + 1) f)

  form_same : (n : ℕ) (f : Form) → form_size (numbered_form n f) ≡ form_size f
  form_same n (number z) = refl
  form_same n (text t) = refl
  form_same n (truth b) = refl
  form_same n (variable w) = refl
  form_same n (element w e) = ap (λ m. 1 + m) (expression_same (n + 1) e)
  form_same n (call w es) = ap (λ m. 1 + m) (expressions_same (n + 1) es)
  form_same n (prefixed p e) = expression_same n e
  form_same n (chain os es) = expressions_same n es

  expressions_same : (n : ℕ) (es : Expressions) → expressions_size (numbered_expressions n es) ≡ expressions_size es
  expressions_same n no_expressions = refl
  expressions_same n (and_expression e es) = λ i. expression_same n e i + expressions_same (n + expression_size e) es i

right_same : (n : ℕ) (r : RightSide) → right_size (numbered_right n r) ≡ right_size r
right_same n (value e) = expression_same n e
right_same n (list node es) = ap (λ m. 1 + m) (each_same numbered_expression expression_size expression_same (n + 1) es)

calling_same : (n : ℕ) (c : Calling) → calling_size (numbered_calling n c) ≡ calling_size c
calling_same n c = ap (λ m. 1 + 1 + m) (each_same numbered_expression expression_size expression_same (n + 1 + 1) c.arguments)

over_same : (n : ℕ) (o : Over) → over_size (numbered_over n o) ≡ over_size o
over_same n (array w) = refl
over_same n (range low high step) =
    λ i. expression_same n low i + expression_same (n + expression_size low) high i + option_same numbered_expression expression_size expression_same (n + expression_size low + expression_size high) step i

mutual
  statement_same : (n : ℕ) (s : Statement) → statement_size (numbered_statement n s) ≡ statement_size s
  statement_same n (statement node c) = ap (λ m. 1 + m) (command_same (n + 1) c)

  command_same : (n : ℕ) (c : Command) → command_size (numbered_command n c) ≡ command_size c
  command_same n (declare d r) = ap (λ m. 1 + m) (option_same numbered_right right_size right_same (n + 1) r)
  command_same n (assign w r) = ap (λ m. 1 + m) (right_same (n + 1) r)
  command_same n (write w j e) = λ i. 1 + expression_same (n + 1) j i + expression_same (n + 1 + expression_size j) e i
  command_same n (assign_all ws c) = λ i. each_same numbered_word word_size (λ m w. refl) n ws i + calling_same (n + sum_by word_size ws) c i
  command_same n (calls p c) = calling_same n c
  command_same n (choice e b) = λ i. expression_same n e i + body_same (n + expression_size e) b i
  command_same n (choice_else e b other) = λ i. expression_same n e i + body_same (n + expression_size e) b i + body_same (n + expression_size e + body_size b) other i
  command_same n (loop w k o b) =
      λ i. 1 + option_same numbered_word word_size (λ m u. refl) (n + 1) k i + over_same (n + 1 + option_size word_size k) o i + body_same (n + 1 + option_size word_size k + over_size o) b i
  command_same n (waits ws b) = λ i. each_same numbered_word word_size (λ m w. refl) n ws i + body_same (n + sum_by word_size ws) b i

  body_same : (n : ℕ) (b : Body) → body_size (numbered_body n b) ≡ body_size b
  body_same n (body from ss) = statements_same n ss

  statements_same : (n : ℕ) (ss : Statements) → statements_size (numbered_statements n ss) ≡ statements_size ss
  statements_same n no_statements = refl
  statements_same n (and_statement s ss) = λ i. statement_same n s i + statements_same (n + statement_size s) ss i

composite_same : (n : ℕ) (f : Composite) → composite_size (numbered_composite n f) ≡ composite_size f
composite_same n f =
    let outputs = sum_by declaration_size f.outputs in
    let inputs = sum_by declaration_size f.inputs in
    λ i. 1 + each_same numbered_declaration declaration_size (λ m d. refl) (n + 1) f.outputs i + 1 + each_same numbered_declaration declaration_size (λ m d. refl) (n + 1 + outputs + 1) f.inputs i + body_same (n + 1 + outputs + 1 + inputs) f.body i

part_same : (n : ℕ) (p : Part) → part_size (numbered_part n p) ≡ part_size p
part_same n (import s) = refl
part_same n (function f) = composite_same n f
part_same n (single s) = statement_same n s

numbered_same : (n : ℕ) (t : Tree) → tree_size (numbered n t) ≡ tree_size t
numbered_same n t = each_same numbered_part part_size part_same n t

-- a tree that was read has at most two numbers for each byte
pub read_fits : (src : List ℕ) (tree : Tree) → Reads src tree → tree_size tree ≤ 2097152
read_fits src tree r =
    let numbers = script_fits max_nesting r.tokens r.parsed r.is_script in
    let tokens = tokens_fit src r.tokens r.lexed in
    let same : tree_size tree ≡ tree_size r.parsed = ap tree_size r.is_numbered ∙ numbered_same 1 r.parsed in
    let short = r.short in
    omega arith

-- so the code of its fold has room
pub fold_fits : (src : List ℕ) (tree : Tree) → Reads src tree → tree_size (folded_tree tree) ≤ 2097152
fold_fits src tree r = let a = read_fits src tree r in let b = tree_small tree in omega arith

pub small_tree : (t : Table) (tree : Tree) → tree_size tree ≤ 2097152 → size_of (core t tree) ≤ max_entries
small_tree t tree fits = let a = size_within t tree in omega arith

pub room_tree : (t : Table) (tree : Tree) → IsPlaced tree → WellTyped tree t → tree_size tree ≤ 2097152 → CoreRoom (core t tree)
room_tree t tree place typed fits = (let light : 2 * tree_size tree < 2 ^ 30 = omega arith in room_in t tree place typed light)

pub small_fold : (src : List ℕ) (t : Table) (tree : Tree) → Reads src tree → size_of (core t (folded_tree tree)) ≤ max_entries
small_fold src t tree r = let a = size_within t (folded_tree tree) in let b = fold_fits src tree r in omega arith

pub room_fold : (src : List ℕ) (t : Table) (tree : Tree) → Reads src tree → WellTyped tree t → CoreRoom (core t (folded_tree tree))
room_fold src t tree r typed = (let b = fold_fits src tree r in let light : 2 * tree_size (folded_tree tree) < 2 ^ 30 = omega arith in room_in t (folded_tree tree) (folded_placed tree (read_placed src tree r)) (folded_typed t tree typed) light)
