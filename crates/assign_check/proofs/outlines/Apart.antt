-- In a script whose nodes are numbered in reading order, no variable that a statement declares has the number of an expression or a call.
use Rattle.std.specs.Prelude.{◌≡◌, ℕ, zero, suc, ◌+◌, ◌≤◌, Bool, true, false, not, ◌&&◌, List, [], ◌∷◌, ◌++◌, nat_eq, refl}
use Rattle.std.specs.List.{flat_map}
use Rattle.std.proofs.Common.{inl, inr, ap, ◌∙◌, arith}
use Rattle.std.proofs.lemmas.Bool.{eqb-true, or_cases}
use Rattle.language.specs.Members.{◌∈◌, first, later}
use Rattle.language.specs.Numbered.{numbered, tree_size}
use Rattle.language.specs.Numbers.{word_numbers, expression_numbers, calling_numbers, option_numbers, over_numbers, statement_numbers, command_numbers, body_numbers, statements_numbers, declaration_numbers, part_numbers, numbers, numbers_from}
use Rattle.language.specs.Tree as T
use Rattle.language.specs.Tree.{Statement, statement, Command, assign, write, assign_all, calls, choice, choice_else, loop, waits, Body, body, Statements, no_statements, and_statement, Composite, import, function, Tree}
use Rattle.language.proofs.Numbers.{numbers-numbered}
use Rattle.language.proofs.Rows.{row_distinct}
use Rattle.language.proofs.TreeNumbers.{times, times-append, in_times, distinct_few}
use Rattle.language.specs.Distinct.{has, distinct}
use Rattle.assign_check.proofs.outlines.Built.{inner_statement, inner_command, inner_body, inner_statements, own_statement, own_command, own_body, own_statements}
use Rattle.assign_check.proofs.outlines.Pairs.{inner_tree, own_tree}

-- TREES

module _ (n : ℕ) where
  mutual
    fewer_statement : (s : Statement) → times n (own_statement s) + times n (inner_statement s) ≤ times n (statement_numbers s)
    fewer_statement (statement node c) = let e = fewer_command c in omega arith

    fewer_command : (c : Command) → times n (own_command c) + times n (inner_command c) ≤ times n (command_numbers c)
    fewer_command (T.declare d r) = omega arith
    fewer_command (assign w r) = omega arith
    fewer_command (write w i e) = omega arith
    fewer_command (assign_all ws c) = let a = times-append n (flat_map word_numbers ws) (calling_numbers c) in omega arith
    fewer_command (calls p c) = omega arith
    fewer_command (choice e b) =
        let r = fewer_body b in
        let a = times-append n (expression_numbers e) (body_numbers b) in
        let c = times-append n (expression_numbers e) (inner_body b) in
        omega arith
    fewer_command (choice_else e b d) =
        let r = fewer_body b in
        let q = fewer_body d in
        let a = times-append n (expression_numbers e ++ body_numbers b) (body_numbers d) in
        let c = times-append n (expression_numbers e) (body_numbers b) in
        let f = times-append n (expression_numbers e) (inner_body b ++ inner_body d) in
        let g = times-append n (inner_body b) (inner_body d) in
        let h = times-append n (own_body b) (own_body d) in
        omega arith
    fewer_command (loop v k o b) =
        let r = fewer_body b in
        let a = times-append n (option_numbers word_numbers k ++ over_numbers o) (body_numbers b) in
        let c = times-append n (option_numbers word_numbers k) (over_numbers o) in
        let f = times-append n (over_numbers o) (inner_body b) in
        omega arith
    fewer_command (waits ws b) =
        let r = fewer_body b in
        let a = times-append n (flat_map word_numbers ws) (body_numbers b) in
        omega arith

    fewer_body : (b : Body) → times n (own_body b) + times n (inner_body b) ≤ times n (body_numbers b)
    fewer_body (body from ss) = fewer_statements ss

    fewer_statements : (ss : Statements) → times n (own_statements ss) + times n (inner_statements ss) ≤ times n (statements_numbers ss)
    fewer_statements no_statements = omega arith
    fewer_statements (and_statement s ss) =
        let r = fewer_statement s in
        let q = fewer_statements ss in
        let a = times-append n (statement_numbers s) (statements_numbers ss) in
        let c = times-append n (inner_statement s) (inner_statements ss) in
        let f = times-append n (own_statement s) (own_statements ss) in
        omega arith

  fewer_composite : (f : Composite) → times n (own_body f.body) + times n (inner_body f.body) ≤ times n (part_numbers (function f))
  fewer_composite f =
      let r = fewer_body f.body in
      let outputs = flat_map declaration_numbers f.outputs in
      let inputs = flat_map declaration_numbers f.inputs in
      let a = times-append n (outputs ++ f.name.number ∷ inputs) (body_numbers f.body) in
      let c = times-append n outputs (f.name.number ∷ inputs) in
      omega arith

  fewer_tree : (tree : Tree) → times n (own_tree tree) + times n (inner_tree tree) ≤ times n (numbers tree)
  fewer_tree [] = omega arith
  fewer_tree (import sp ∷ ps) = fewer_tree ps
  fewer_tree (function f ∷ ps) =
      let r = fewer_composite f in
      let q = fewer_tree ps in
      let a = times-append n (part_numbers (function f)) (numbers ps) in
      let c = times-append n (inner_body f.body) (inner_tree ps) in
      let g = times-append n (own_body f.body) (own_tree ps) in
      omega arith
  fewer_tree (T.single s ∷ ps) =
      let r = fewer_statement s in
      let q = fewer_tree ps in
      let a = times-append n (statement_numbers s) (numbers ps) in
      let c = times-append n (inner_statement s) (inner_tree ps) in
      let g = times-append n (own_statement s) (own_tree ps) in
      omega arith

pub apart : {n : ℕ} (m : ℕ) (u tree : Tree) → tree ≡ numbered m u → n ∈ own_tree tree → n ∈ inner_tree tree → ⊥
apart {n} m u tree e o i =
    let f = fewer_tree n tree in
    let a = in_times o in
    let b = in_times i in
    let c = distinct_few (numbers_from m (tree_size u)) (row_distinct m (tree_size u)) n in
    let g : times n (numbers tree) ≡ times n (numbers_from m (tree_size u)) = ap (λ (z : Tree). times n (numbers z)) e ∙ ap (times n) (numbers-numbered m u) in
    omega arith
