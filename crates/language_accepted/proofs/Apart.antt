-- In a tree that a text reads as no called name and no header stands at the offset of another.
use Rattle.std.specs.Prelude.{◌≡◌, ℕ, ◌+◌, ◌<◌, ◌≤◌, true, List, [], ◌∷◌, ◌++◌, map, Some, None, length, sum_by, Ok, refl}
use Rattle.std.proofs.Common.{sym, ap, ap₂, ◌∙◌, subst, arith}
use Rattle.lexer.specs.Reading.{items_from}
use Rattle.lexer.proofs.Items.{only_tokens, spans_rise}
use Rattle.lexer.specs.Items.{Lexeme, SpansRise}
use Rattle.language.specs.Numbers.{numbers}
use Rattle.language.specs.Numbered.{expression_size, word_size, option_size, over_size, statement_size, body_size, composite_size, numbered_each, numbered_expression, numbered_form, numbered_expressions, numbered_right, numbered_calling, numbered_over, numbered_statement, numbered_command, numbered_body, numbered_statements, numbered}
use Rattle.language.specs.Reads.{Reads}
use Rattle.language.specs.Tree as T
use Rattle.language.specs.Tree.{Word, Expression, expression, number, text, truth, variable, element, call, prefixed, chain, Expressions, no_expressions, and_expression, expressions_of, RightSide, value, list, Calling, Over, Statement, statement, Command, choice, choice_else, loop, waits, Body, body, Statements, no_statements, and_statement, Tree, import, function, single}
use Rattle.language.specs.Distinct.{distinct}
use Rattle.language.proofs.TreeNumbers.{times, few_distinct}
use Rattle.language_laws.specs.Offsets.{expression_offsets, form_offsets, expressions_offsets, right_offsets, calling_offsets, over_offsets, header_offsets, statement_offsets, command_offsets, body_offsets, statements_offsets, tree_offsets}
use Rattle.language_accepted.specs.Placed.{Rise, IsPlaced}
use Rattle.language_accepted.proofs.Called.{starts_of, c_script}
use Rattle.language_accepted.proofs.Once.{numbered_rise}
use Rattle.language_accepted.proofs.Rising.{hit_most, here_or_none, hit_other}
use Rattle.values.specs.Limits.{max_nesting}

-- NUMBERS CHANGE NO OFFSET

mutual
  of_expression : (n : ℕ) (e : Expression) → expression_offsets (numbered_expression n e) ≡ expression_offsets e
  of_expression n (expression nd f) = of_form (n + 1) f

  of_form : (n : ℕ) (f : T.Form) → form_offsets (numbered_form n f) ≡ form_offsets f
  of_form n (number z) = refl
  of_form n (text t) = refl
  of_form n (truth b) = refl
  of_form n (variable w) = refl
  of_form n (element w e) = of_expression (n + 1) e
  of_form n (call w es) = ap (λ (xs : List ℕ). w.span.from ∷ xs) (of_expressions (n + 1) es)
  of_form n (prefixed p e) = of_expression n e
  of_form n (chain os es) = of_expressions n es

  of_expressions : (n : ℕ) (es : Expressions) → expressions_offsets (numbered_expressions n es) ≡ expressions_offsets es
  of_expressions n no_expressions = refl
  of_expressions n (and_expression e es) = ap₂ (λ (x y : List ℕ). x ++ y) (of_expression n e) (of_expressions (n + expression_size e) es)

of_list : (n : ℕ) (es : List Expression) → expressions_offsets (expressions_of (numbered_each numbered_expression expression_size n es)) ≡ expressions_offsets (expressions_of es)
of_list n [] = refl
of_list n (e ∷ es) = ap₂ (λ (x y : List ℕ). x ++ y) (of_expression n e) (of_list (n + expression_size e) es)

of_right : (n : ℕ) (r : RightSide) → right_offsets (numbered_right n r) ≡ right_offsets r
of_right n (value e) = of_expression n e
of_right n (list nd es) = of_list (n + 1) es

of_calling : (n : ℕ) (c : Calling) → calling_offsets (numbered_calling n c) ≡ calling_offsets c
of_calling n c = ap (λ (xs : List ℕ). c.name.span.from ∷ xs) (of_list (n + 1 + 1) c.arguments)

of_over : (n : ℕ) (o : Over) → over_offsets (numbered_over n o) ≡ over_offsets o
of_over n (T.array w) = refl
of_over n (T.range low high None) =
    ap₂ (λ (x y : List ℕ). x ++ (y ++ [])) (of_expression n low) (of_expression (n + expression_size low) high)
of_over n (T.range low high (Some step)) =
    ap₂ (λ (x y : List ℕ). x ++ y) (of_expression n low)
    (ap₂ (λ (x y : List ℕ). x ++ y) (of_expression (n + expression_size low) high) (of_expression (n + expression_size low + expression_size high) step))

of_header : (n at : ℕ) (c : Command) → header_offsets at (numbered_command n c) ≡ header_offsets at c
of_header n at (choice e b) = refl
of_header n at (choice_else e b d) = refl
of_header n at (loop v k o b) = refl
of_header n at (T.declare d r) = refl
of_header n at (T.assign w r) = refl
of_header n at (T.write w i e) = refl
of_header n at (T.assign_all ws c) = refl
of_header n at (T.calls p c) = refl
of_header n at (waits ws b) = refl

mutual
  of_statement : (n : ℕ) (s : Statement) → statement_offsets (numbered_statement n s) ≡ statement_offsets s
  of_statement n (statement nd c) = ap₂ (λ (x y : List ℕ). x ++ y) (of_header (n + 1) nd.first.from c) (of_command (n + 1) c)

  of_command : (n : ℕ) (c : Command) → command_offsets (numbered_command n c) ≡ command_offsets c
  of_command n (T.declare d None) = refl
  of_command n (T.declare d (Some r)) = of_right (n + 1) r
  of_command n (T.assign w r) = of_right (n + 1) r
  of_command n (T.write w i e) = ap₂ (λ (x y : List ℕ). x ++ y) (of_expression (n + 1) i) (of_expression (n + 1 + expression_size i) e)
  of_command n (T.assign_all ws c) = of_calling (n + sum_by word_size ws) c
  of_command n (T.calls p c) = of_calling n c
  of_command n (choice e b) = ap₂ (λ (x y : List ℕ). x ++ y) (of_expression n e) (of_body (n + expression_size e) b)
  of_command n (choice_else e b d) =
      ap₂ (λ (x y : List ℕ). x ++ y) (of_expression n e)
      (ap₂ (λ (x y : List ℕ). x ++ y) (of_body (n + expression_size e) b) (of_body (n + expression_size e + body_size b) d))
  of_command n (loop v k o b) =
      ap₂ (λ (x y : List ℕ). x ++ y) (of_over (n + 1 + option_size word_size k) o) (of_body (n + 1 + option_size word_size k + over_size o) b)
  of_command n (waits ws b) = of_body (n + sum_by word_size ws) b

  of_body : (n : ℕ) (b : Body) → body_offsets (numbered_body n b) ≡ body_offsets b
  of_body n (body from ss) = of_statements n ss

  of_statements : (n : ℕ) (ss : Statements) → statements_offsets (numbered_statements n ss) ≡ statements_offsets ss
  of_statements n no_statements = refl
  of_statements n (and_statement s ss) = ap₂ (λ (x y : List ℕ). x ++ y) (of_statement n s) (of_statements (n + statement_size s) ss)

of_tree : (n : ℕ) (ps : Tree) → tree_offsets (numbered n ps) ≡ tree_offsets ps
of_tree n [] = refl
of_tree n (import sp ∷ ps) = of_tree (n + 0) ps
of_tree n (function f ∷ ps) = ap₂ (λ (x y : List ℕ). x ++ y) (of_body _ f.body) (of_tree (n + composite_size f) ps)
of_tree n (single s ∷ ps) = ap₂ (λ (x y : List ℕ). x ++ y) (of_statement n s) (of_tree (n + statement_size s) ps)

-- TOKENS BEGIN APART

none_before : (least most n : ℕ) (ts : List Lexeme) → SpansRise least most (map Ok ts) → n < least → times n (starts_of ts) ≡ 0
none_before least most n [] h l = refl
none_before least most n (t ∷ ts) h l =
    let a = h.0 in
    let b = h.1 in
    let q = none_before (t.span).to most n ts h.3 (omega arith) in
    let r = hit_other n (t.span).from (omega arith) in
    omega arith

starts_once : (least most n : ℕ) (ts : List Lexeme) → SpansRise least most (map Ok ts) → times n (starts_of ts) ≤ 1
starts_once least most n [] h = omega arith
starts_once least most n (t ∷ ts) h =
    let r = starts_once (t.span).to most n ts h.3 in
    let a = h.1 in
    let m = hit_most n (t.span).from in
    here_or_none n (t.span).from (times n (starts_of (t ∷ ts)) ≤ 1)
    (λ e. (let q = none_before (t.span).to most n ts h.3 (omega arith) in omega arith))
    (λ e. omega arith)

-- no called name and no header of a text stands at the offset of another
apart : (bytes : List ℕ) (tree : Tree) → Reads bytes tree → distinct (tree_offsets tree) ≡ true
apart bytes tree r = few_distinct (tree_offsets tree) (λ n. few n)
  where
    few : (n : ℕ) → times n (tree_offsets tree) ≤ 1
    few n =
        let items : map Ok r.tokens ≡ items_from 0 bytes = only_tokens 0 bytes (map Ok r.tokens) r.lexed in
        let rise = subst (SpansRise 0 (length bytes)) (sym items) (spans_rise bytes) in
        let same : tree_offsets tree ≡ tree_offsets r.parsed = ap tree_offsets r.is_numbered ∙ of_tree 1 r.parsed in
        let a = ap (times n) same in
        let b = c_script max_nesting n (record { before = 0; rest = r.tokens }) r.parsed (r.is_script).0 (r.is_script).1 in
        let c = starts_once 0 (length bytes) n r.tokens rise in
        omega arith

-- a tree that a text reads as is placed
pub read_placed : (bytes : List ℕ) (tree : Tree) → Reads bytes tree → IsPlaced tree
read_placed bytes tree r = record {
  in_order = subst (λ (p : Tree). Rise 0 (numbers p)) (sym r.is_numbered) (numbered_rise r.parsed);
  apart = apart bytes tree r;
}
