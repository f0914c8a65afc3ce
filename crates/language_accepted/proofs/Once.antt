-- Where the numbers of a tree stand in reading order, none stands twice.
use Rattle.std.specs.Prelude.{◌≡◌, ℕ, true, List, [], ◌∷◌, ◌++◌, Some, None, refl}
use Rattle.std.proofs.Common.{sym, subst, arith}
use Rattle.std.specs.List.{flat_map}
use Rattle.language.specs.Tree as T
use Rattle.language.specs.Tree.{Word, Expression, expression, number, text, truth, variable, element, call, prefixed, chain, Expressions, no_expressions, and_expression, expressions_of, Declaration, RightSide, value, list, Calling, Over, Statement, statement, Command, choice, choice_else, loop, waits, Body, body, Statements, no_statements, and_statement, Tree, import, function, single}
use Rattle.language.specs.Numbered.{numbered, tree_size}
use Rattle.language.specs.Numbers as N
use Rattle.language.specs.Numbers.{numbers}
use Rattle.language.proofs.Numbers.{numbers-numbered}
use Rattle.language.specs.Distinct.{distinct}
use Rattle.language.proofs.TreeNumbers.{times, times-append, few_distinct, distinct_few, expression_numbers, form_numbers, expressions_numbers}
use Rattle.language_accepted.specs.Placed.{Rise}
use Rattle.language_accepted.proofs.Rising.{rise_distinct, rise_from}
use Rattle.language_laws.proofs.TreeNodes.{words_numbers, right_numbers, calling_numbers, over_numbers, statement_numbers, command_numbers, body_numbers, statements_numbers, declarations_numbers, tree_numbers}

module _ (n : ℕ) where
  mutual
    of_expression : (e : Expression) → times n (expression_numbers e) ≡ times n (N.expression_numbers e)
    of_expression (expression nd f) = let q = of_form f in omega arith

    of_form : (f : T.Form) → times n (form_numbers f) ≡ times n (N.form_numbers f)
    of_form (number z) = refl
    of_form (text t) = refl
    of_form (truth b) = refl
    of_form (variable w) = refl
    of_form (element w e) = let q = of_expression e in omega arith
    of_form (call w es) = let q = of_expressions es in omega arith
    of_form (prefixed p e) = of_expression e
    of_form (chain os es) = of_expressions es

    of_expressions : (es : Expressions) → times n (expressions_numbers es) ≡ times n (N.expressions_numbers es)
    of_expressions no_expressions = refl
    of_expressions (and_expression e es) =
        let q = of_expression e in
        let r = of_expressions es in
        let a = times-append n (expression_numbers e) (expressions_numbers es) in
        let b = times-append n (N.expression_numbers e) (N.expressions_numbers es) in
        omega arith

  of_list : (es : List Expression) → times n (expressions_numbers (expressions_of es)) ≡ times n (flat_map N.expression_numbers es)
  of_list [] = refl
  of_list (e ∷ es) =
      let q = of_expression e in
      let r = of_list es in
      let a = times-append n (expression_numbers e) (expressions_numbers (expressions_of es)) in
      let b = times-append n (N.expression_numbers e) (flat_map N.expression_numbers es) in
      omega arith

  of_words : (ws : List Word) → times n (words_numbers ws) ≡ times n (flat_map N.word_numbers ws)
  of_words [] = refl
  of_words (w ∷ ws) = let q = of_words ws in omega arith

  of_declarations : (ds : List Declaration) → times n (declarations_numbers ds) ≡ times n (flat_map N.declaration_numbers ds)
  of_declarations [] = refl
  of_declarations (d ∷ ds) = let q = of_declarations ds in omega arith

  of_right : (r : RightSide) → times n (right_numbers r) ≡ times n (N.right_numbers r)
  of_right (value e) = of_expression e
  of_right (list nd es) = let q = of_list es in omega arith

  of_calling : (c : Calling) → times n (calling_numbers c) ≡ times n (N.calling_numbers c)
  of_calling c = let q = of_list c.arguments in omega arith

  of_over : (o : Over) → times n (over_numbers o) ≡ times n (N.over_numbers o)
  of_over (T.array w) = refl
  of_over (T.range low high None) =
      let p = of_expression low in
      let q = of_expression high in
      let a = times-append n (expression_numbers low) (expression_numbers high ++ []) in
      let b = times-append n (expression_numbers high) [] in
      let c = times-append n (N.expression_numbers low ++ N.expression_numbers high) [] in
      let d = times-append n (N.expression_numbers low) (N.expression_numbers high) in
      omega arith
  of_over (T.range low high (Some step)) =
      let p = of_expression low in
      let q = of_expression high in
      let r = of_expression step in
      let a = times-append n (expression_numbers low) (expression_numbers high ++ expression_numbers step) in
      let b = times-append n (expression_numbers high) (expression_numbers step) in
      let c = times-append n (N.expression_numbers low ++ N.expression_numbers high) (N.expression_numbers step) in
      let d = times-append n (N.expression_numbers low) (N.expression_numbers high) in
      omega arith

  mutual
    of_statement : (s : Statement) → times n (statement_numbers s) ≡ times n (N.statement_numbers s)
    of_statement (statement nd c) = let q = of_command c in omega arith

    of_command : (c : Command) → times n (command_numbers c) ≡ times n (N.command_numbers c)
    of_command (T.declare d None) = refl
    of_command (T.declare d (Some r)) = let q = of_right r in omega arith
    of_command (T.assign w r) = let q = of_right r in omega arith
    of_command (T.write w i e) =
        let p = of_expression i in
        let q = of_expression e in
        let a = times-append n (expression_numbers i) (expression_numbers e) in
        let b = times-append n (N.expression_numbers i) (N.expression_numbers e) in
        omega arith
    of_command (T.assign_all ws c) =
        let p = of_words ws in
        let q = of_calling c in
        let a = times-append n (words_numbers ws) (calling_numbers c) in
        let b = times-append n (flat_map N.word_numbers ws) (N.calling_numbers c) in
        omega arith
    of_command (T.calls p c) = of_calling c
    of_command (choice e b) =
        let p = of_expression e in
        let q = of_body b in
        let a = times-append n (expression_numbers e) (body_numbers b) in
        let c = times-append n (N.expression_numbers e) (N.body_numbers b) in
        omega arith
    of_command (choice_else e b d) =
        let p = of_expression e in
        let q = of_body b in
        let r = of_body d in
        let a = times-append n (expression_numbers e) (body_numbers b ++ body_numbers d) in
        let c = times-append n (body_numbers b) (body_numbers d) in
        let f = times-append n (N.expression_numbers e ++ N.body_numbers b) (N.body_numbers d) in
        let g = times-append n (N.expression_numbers e) (N.body_numbers b) in
        omega arith
    of_command (loop v None o b) =
        let p = of_over o in
        let q = of_body b in
        let a = times-append n (over_numbers o) (body_numbers b) in
        let c = times-append n (N.over_numbers o) (N.body_numbers b) in
        omega arith
    of_command (loop v (Some k) o b) =
        let p = of_over o in
        let q = of_body b in
        let a = times-append n (over_numbers o) (body_numbers b) in
        let c = times-append n (N.over_numbers o) (N.body_numbers b) in
        omega arith
    of_command (waits ws b) =
        let p = of_words ws in
        let q = of_body b in
        let a = times-append n (words_numbers ws) (body_numbers b) in
        let c = times-append n (flat_map N.word_numbers ws) (N.body_numbers b) in
        omega arith

    of_body : (b : Body) → times n (body_numbers b) ≡ times n (N.body_numbers b)
    of_body (body from ss) = of_statements ss

    of_statements : (ss : Statements) → times n (statements_numbers ss) ≡ times n (N.statements_numbers ss)
    of_statements no_statements = refl
    of_statements (and_statement s ss) =
        let p = of_statement s in
        let q = of_statements ss in
        let a = times-append n (statement_numbers s) (statements_numbers ss) in
        let b = times-append n (N.statement_numbers s) (N.statements_numbers ss) in
        omega arith

  of_tree : (ps : Tree) → times n (tree_numbers ps) ≡ times n (numbers ps)
  of_tree [] = refl
  of_tree (import sp ∷ ps) = of_tree ps
  of_tree (single s ∷ ps) =
      let p = of_statement s in
      let q = of_tree ps in
      let a = times-append n (statement_numbers s) (tree_numbers ps) in
      let b = times-append n (N.statement_numbers s) (numbers ps) in
      omega arith
  of_tree (function f ∷ ps) =
      let o = of_declarations f.outputs in
      let i = of_declarations f.inputs in
      let p = of_body f.body in
      let q = of_tree ps in
      let a = times-append n (declarations_numbers f.outputs) (f.name.number ∷ (declarations_numbers f.inputs ++ (body_numbers f.body ++ tree_numbers ps))) in
      let b = times-append n (declarations_numbers f.inputs) (body_numbers f.body ++ tree_numbers ps) in
      let c = times-append n (body_numbers f.body) (tree_numbers ps) in
      let d = times-append n (N.composite_numbers f) (numbers ps) in
      let e = times-append n (flat_map N.declaration_numbers f.outputs ++ f.name.number ∷ flat_map N.declaration_numbers f.inputs) (N.body_numbers f.body) in
      let g = times-append n (flat_map N.declaration_numbers f.outputs) (f.name.number ∷ flat_map N.declaration_numbers f.inputs) in
      omega arith

-- no number stands twice in a tree whose numbers rise, and none is 0
pub rising_once : (tree : Tree) → Rise 0 (numbers tree) → distinct (0 ∷ tree_numbers tree) ≡ true
rising_once tree h = few_distinct (0 ∷ tree_numbers tree) (λ n. (let a = distinct_few (0 ∷ numbers tree) (rise_distinct 0 (numbers tree) h) n in let b = of_tree n tree in omega arith))

-- the numbers of a numbered tree rise
pub numbered_rise : (u : Tree) → Rise 0 (numbers (numbered 1 u))
numbered_rise u = subst (Rise 0) (sym (numbers-numbered 1 u)) (rise_from 0 1 (tree_size u) (omega arith))

pub numbers_once : (u : Tree) → distinct (0 ∷ tree_numbers (numbered 1 u)) ≡ true
numbers_once u = rising_once (numbered 1 u) (numbered_rise u)
