-- Two scripts have their codes.
use Rattle.std.proofs.Common.{◌≡◌, ℕ, zero, suc, true, false, List, [], ◌∷◌, refl, subst, Some}
use Rattle.std.specs.Prelude.{ℤ, slice_get}
use Rattle.language.specs.Core.{Expr, Part, inner, compute, Function}
use Rattle.language.specs.Members.{first, later}
use Rattle.task_code.specs.Code.{Need, Act, Cell, Entry, Code, entry}
use Rattle.task_code.specs.Whole.{IsCode}
use Rattle.task_code.proofs.Checked.{code_checked}
use Rattle.task_code.proofs.Exactly.{exact_checked}
use Rattle.task_code.specs.Exact.{IsExact}
use Rattle.code_rules.specs.IsCodeOf.{Layout, IsEntry, of_literal, of_datum, no_input, one_input, no_output, one_output, PartAs, plain_literal, plain_name, a_cell, a_read, at_literal, a_call, no_part, one_part, declares, calls_alone, simple, branches, range_loop, no_stmt, one_stmt, BodyAs, body_as, IsCodeOf}
use Rattle.task_code.proofs.Opens.{some_same}
use Rattle.code_rules.specs.CodeNames.{wanted, each_once, over}
use Rattle.code_rules.specs.NodesOnce.{NodesOnce}
use Rattle.headline.proofs.NodesChecked.{nodes_checked}
use Rattle.headline.proofs.MakesChecked.{makes_checked}
use Rattle.headline.specs.Worked.{fibonacci, fibonacci_layout, fibonacci_code, filled, filled_layout, filled_code}

-- FIBONACCI

same : {e : Entry} {at : ℕ} {p : ℤ} {ns : List Need} {a : Act} → e.at ≡ at → e.priority ≡ p → e.needs ≡ ns → e.act ≡ a → IsEntry e at p ns a
same a b c d = record { at_is = a; priority_is = b; needs_is = c; act_is = d }

pub fibonacci_whole : IsCode fibonacci_code
fibonacci_whole = code_checked fibonacci_code refl

-- a cell or an element read
the_cell : {C : Code} {l : Layout} {k at j n : ℕ} {p : ℤ} {all : List Part} {e : Expr} → l.plain n ≡ false → (entry C j).node ≡ n → IsEntry (entry C j) at p (each_once (wanted k e)) (Cell (over k (each_once (wanted k e)) e))
    → PartAs C l k all at p (inner (record { node = n; form = compute e })) (j ∷ [])
the_cell a b c = a_cell a b c

fibonacci_functions : (i : ℕ) (f : Function) → slice_get fibonacci.functions i ≡ Some f → BodyAs fibonacci_code fibonacci_layout f.inputs f.body 1
fibonacci_functions zero f h = subst (λ (f : Function). BodyAs fibonacci_code fibonacci_layout f.inputs f.body 1) (some_same h)
    (body_as (one_stmt (branches 3 (one_part (the_cell refl refl (same refl refl refl refl)) no_part refl) (same refl refl refl refl) refl
    (body_as (one_stmt (simple 4 tt refl no_part (same refl refl refl refl) refl refl) no_stmt refl) (makes_checked fibonacci_code fibonacci_layout _ _ refl refl))
    (body_as (one_stmt (simple 9 tt refl
    (one_part (the_cell refl refl (same refl refl refl refl))
    (one_part (a_call (record { ins = _; outs = _; is = same refl refl refl refl; offset_is = refl; inputs = one_input (of_datum {c = record { node = 19; form = _ }} first refl) no_input; outputs = one_output false no_output }))
    (one_part (the_cell refl refl (same refl refl refl refl))
    (one_part (a_call (record { ins = _; outs = _; is = same refl refl refl refl; offset_is = refl; inputs = one_input (of_datum {c = record { node = 25; form = _ }} (later first) refl) no_input; outputs = one_output false no_output })) no_part refl) refl) refl) refl)
    (same refl refl refl refl) refl refl) no_stmt refl) (makes_checked fibonacci_code fibonacci_layout _ _ refl refl))
    refl) no_stmt refl) (makes_checked fibonacci_code fibonacci_layout _ _ refl refl))
fibonacci_functions (suc i) f h = absurd (cc)

pub fibonacci_is : IsCodeOf fibonacci fibonacci_code
fibonacci_is = record {
  layout = fibonacci_layout;
  script = body_as (one_stmt (simple 1 tt refl
      (one_part (plain_literal refl) (one_part (a_call (record { ins = _; outs = _; is = same refl refl refl refl; offset_is = refl; inputs = one_input (of_literal first refl) no_input; outputs = one_output false no_output })) no_part refl) refl)
      (same refl refl refl refl) refl refl) no_stmt refl) (makes_checked fibonacci_code fibonacci_layout _ _ refl refl);
  functions = fibonacci_functions;
}

-- A CALL THAT FILLS AN ARRAY IN A LOOP

pub filled_whole : IsCode filled_code
filled_whole = code_checked filled_code refl

filled_functions : (i : ℕ) (f : Function) → slice_get filled.functions i ≡ Some f → BodyAs filled_code filled_layout f.inputs f.body 1
filled_functions zero f h = subst (λ (f : Function). BodyAs filled_code filled_layout f.inputs f.body 1) (some_same h)
    (body_as (one_stmt (range_loop 4
    (one_part (plain_literal refl) (one_part (the_cell refl refl (same refl refl refl refl)) no_part refl) refl)
    (same refl refl refl refl) refl
    (body_as (one_stmt (simple 6 tt tt (one_part (plain_name refl) (one_part (the_cell refl refl (same refl refl refl refl)) no_part refl) refl) (same refl refl refl refl) refl refl) no_stmt refl) (makes_checked filled_code filled_layout _ _ refl refl))
    refl) no_stmt refl) (makes_checked filled_code filled_layout _ _ refl refl))
filled_functions (suc i) f h = absurd (cc)

pub filled_is : IsCodeOf filled filled_code
filled_is = record {
  layout = filled_layout;
  script = body_as (one_stmt declares (one_stmt (calls_alone
      (one_part (plain_literal refl) (one_part (a_call (record { ins = _; outs = _; is = same refl refl refl refl; offset_is = refl; inputs = one_input (of_literal first refl) no_input; outputs = one_output true no_output })) no_part refl) refl))
      (one_stmt (simple 2 tt refl (one_part (plain_literal refl) (one_part (a_read refl refl (at_literal first refl) (same refl refl refl refl)) no_part refl) refl) (same refl refl refl refl) refl refl) no_stmt refl) refl) refl)
      (makes_checked filled_code filled_layout _ _ refl refl);
  functions = filled_functions;
}

pub fibonacci_nodes : NodesOnce fibonacci_code
fibonacci_nodes = nodes_checked fibonacci_code fibonacci_whole refl

pub filled_nodes : NodesOnce filled_code
filled_nodes = nodes_checked filled_code filled_whole refl

-- NO RIGHT IS IDLE

pub fibonacci_exact : IsExact fibonacci_code
fibonacci_exact = exact_checked fibonacci_code 4 refl

pub filled_exact : IsExact filled_code
filled_exact = exact_checked filled_code 4 refl
