-- A script with an array that is filled in a loop of a function is laid as its code.
use Rattle.std.proofs.Common.{ℕ, true, false, [], ◌∷◌, refl, sym, None}
use Rattle.std.specs.Prelude.{pos}
use Rattle.std.specs.List.{flat_map}
use Rattle.values.specs.Operators.{sum_of, product_of}
use Rattle.values.specs.declared.key.Key.TheVariants.{Number as number_key}
use Rattle.values.specs.declared.op.Factor.TheVariants.{Times}
use Rattle.values.specs.declared.op.Sign.TheVariants.{Minus}
use Rattle.values.specs.declared.value.Scalar.TheVariants.{Number}
use Rattle.language.specs.Core as Co
use Rattle.language.specs.Core.{input, local, Name, here, name, literal, operator, none, also, Form, compute}
use Rattle.language.specs.Members.{first}
use Rattle.task_code.specs.Code as code
use Rattle.task_code.specs.Code.{Entry, Variable, ByCalls, ByStep, entry, scalar}
use Rattle.code_rules.specs.CodeNames.{wanted, each_once, over, name_as}
use Rattle.code_rules.specs.IsCodeOf.{seen_as, of_literal, no_input, one_input, no_output, one_output, at_literal, plain_literal, plain_name, a_read, a_call, no_part, one_part}
use Rattle.code_rules.specs.Laying.{Laying, bare, LaysBlock, no_statement, one_statement, declares, calls_alone, simple, range_loop, LaysFunctions, no_function, one_function, LaysScript}
use Rattle.code_laws.specs.Worked.{filled, filled_kinds, filled_declared, filled_code}
use Rattle.code_laws.proofs.Worked.{same, the_cell, calls_body, one_fits, call_fit, cell_fits, read_fits, fit_none, fit_more}

abbrev laid : ℕ → Entry
laid i = bare (entry filled_code i)

abbrev s0 : Laying
s0 = record { entries = []; bodies = [] }

abbrev s1 : Laying
s1 = record { entries = laid 0 ∷ []; bodies = [] }

abbrev s2 : Laying
s2 = record { entries = laid 0 ∷ laid 1 ∷ []; bodies = [] }

abbrev s3 : Laying
s3 = record { entries = laid 0 ∷ laid 1 ∷ laid 2 ∷ []; bodies = [] }

abbrev s4 : Laying
s4 = record { entries = laid 0 ∷ laid 1 ∷ laid 2 ∷ laid 3 ∷ []; bodies = [] }

abbrev s5 : Laying
s5 = record { entries = laid 0 ∷ laid 1 ∷ laid 2 ∷ laid 3 ∷ laid 4 ∷ []; bodies = [] }

abbrev s6 : Laying
s6 = record { entries = laid 0 ∷ laid 1 ∷ laid 2 ∷ laid 3 ∷ laid 4 ∷ laid 5 ∷ []; bodies = [] }

abbrev s7 : Laying
s7 = record {
  entries = laid 0 ∷ laid 1 ∷ laid 2 ∷ laid 3 ∷ laid 4 ∷ laid 5 ∷ laid 6 ∷ [];
  bodies = record { opener = ByStep 6; makes = scalar 6 ∷ scalar 16 ∷ []; entries = 4 ∷ 5 ∷ [] } ∷ [];
}

abbrev array : Variable
array = record { node = 22; array = true }

filled_script : LaysBlock filled_kinds 2 0 filled.body filled_declared s0 s3 (0 ∷ 1 ∷ 2 ∷ []) (array ∷ scalar 36 ∷ [])
filled_script =
    one_statement {cs = filled_declared} {ds = []} {t = s0} {is = []} {js = 0 ∷ 1 ∷ 2 ∷ []} {vs = array ∷ []} {ws = scalar 36 ∷ []} (declares true)
    (one_statement {cs = []} {ds = []} {t = s1} {is = 0 ∷ []} {js = 1 ∷ 2 ∷ []} {vs = []} {ws = scalar 36 ∷ []}
    (calls_alone {s = s0} {t = s1} {es = 0 ∷ []}
    (record {
      more = laid 0 ∷ [];
      entries = refl;
      bodies = refl;
      numbers = refl;
      fit = fit_more _ _ (laid 0) [] (call_fit _ _ (laid 0) _ _ _ first refl refl (one_fits _ (here 27) _ _ false true refl refl refl)) (fit_none _ _);
      parts_as = λ l pl b st.
          one_part (plain_literal pl.0)
          (one_part (a_call (record { ins = _; outs = _; is = calls_body (b 0) refl refl refl refl; offset_is = refl; inputs = one_input (of_literal first pl.0) no_input; outputs = one_output true no_output })) no_part refl) refl;
    }))
    (one_statement {cs = []} {ds = []} {t = s3} {is = 1 ∷ 2 ∷ []} {js = []} {vs = scalar 36 ∷ []} {ws = []}
    (simple (laid 2) {s = s1} {t = s2} {u = s3} {es = 1 ∷ 2 ∷ []} {is = 1 ∷ []} tt
    (record {
      more = laid 1 ∷ [];
      entries = refl;
      bodies = refl;
      numbers = refl;
      fit = fit_more _ _ (laid 1) [] (read_fits _ _ (laid 1) refl) (fit_none _ _);
      parts_as = λ l pl b st. one_part (plain_literal pl.0) (one_part (a_read {n = 36} {i = 38} {j = 1} {a = here 22} {need = code.AtKey (code.here array) (number_key (pos 3))} pl.1.0 refl (at_literal {n = 38} {v = Number (pos 3)} first pl.0) (same refl refl refl refl)) no_part refl) refl;
    })
    (λ l su. same refl refl refl refl) (refl, refl) refl refl)
    no_statement refl refl refl)
    refl refl refl)
    refl refl refl

-- the loop's bounds: 0 and m - 1
abbrev low : Form
low = compute (literal (Number (pos 0)))

abbrev high : Form
high = compute (operator (sum_of (Minus ∷ [])) (also (name (record { up = 0; what = input 0 })) (also (literal (Number (pos 1))) none)))

-- the index and the value that a turn writes
abbrev index : Form
index = compute (name (here 6))

abbrev square : Form
square = compute (operator (product_of (Times ∷ [])) (also (name (here 6)) (also (name (here 6)) none)))

filled_functions : LaysFunctions filled_kinds 2 filled.functions [] s3 s7 (record { opener = ByCalls; makes = scalar 8 ∷ []; entries = 3 ∷ 6 ∷ [] } ∷ [])
filled_functions =
    one_function {s = s3} {t = s7} {u = s7} {js = 3 ∷ 6 ∷ []} {vs = scalar 8 ∷ []}
    (one_statement {t = s7} {is = 3 ∷ 6 ∷ []} {js = []} {vs = scalar 8 ∷ []} {ws = []}
    (range_loop (laid 6) {s = s3} {t = s4} {u = s6} {w = s7} {es = 3 ∷ 6 ∷ []} {is = 3 ∷ []} {js = 4 ∷ 5 ∷ []} {vs = scalar 16 ∷ []}
    (record {
      more = laid 3 ∷ [];
      entries = refl;
      bodies = refl;
      numbers = refl;
      fit = fit_more _ _ (laid 3) [] (cell_fits _ _ (laid 3) refl) (fit_none _ _);
      parts_as = λ l pl b st. one_part (plain_literal pl.0) (one_part (the_cell pl.1.0 refl (same refl refl refl refl)) no_part refl) refl;
    })
    (one_statement {t = s6} {is = 4 ∷ 5 ∷ []} {js = []} {vs = scalar 16 ∷ []} {ws = []}
    (simple (laid 5) {s = s4} {t = s5} {u = s6} {es = 4 ∷ 5 ∷ []} {is = 4 ∷ []} tt
    (record {
      more = laid 4 ∷ [];
      entries = refl;
      bodies = refl;
      numbers = refl;
      fit = fit_more _ _ (laid 4) [] (cell_fits _ _ (laid 4) refl) (fit_none _ _);
      parts_as = λ l pl b st. one_part (plain_name pl.0) (one_part (the_cell pl.1.0 refl (same refl refl refl refl)) no_part refl) refl;
    })
    (λ l su. (let x = sym su.parts_plain.0 in
    let y = sym su.parts_plain.1.0 in
    same refl refl (λ i. each_once (flat_map (wanted 1) (seen_as (x i) 14 index ∷ seen_as (y i) 16 square ∷ [])))
    (λ i. code.InsertElement (name_as 1 true (record { up = 1; what = Co.output 0 })) (over 1 (each_once (flat_map (wanted 1) (seen_as (x i) 14 index ∷ seen_as (y i) 16 square ∷ []))) (seen_as (x i) 14 index)) (over 1 (each_once (flat_map (wanted 1) (seen_as (x i) 14 index ∷ seen_as (y i) 16 square ∷ []))) (seen_as (y i) 16 square)))))
    (refl, refl) refl refl)
    no_statement refl refl refl)
    (λ l su. (let x = sym su.parts_plain.0 in
    let y = sym su.parts_plain.1.0 in
    same refl refl (λ i. each_once (flat_map (wanted 1) (seen_as (x i) 7 low ∷ seen_as (y i) 8 high ∷ literal (Number (pos 1)) ∷ [])))
    (λ i. code.Range (over 1 (each_once (flat_map (wanted 1) (seen_as (x i) 7 low ∷ seen_as (y i) 8 high ∷ literal (Number (pos 1)) ∷ []))) (seen_as (x i) 7 low)) (over 1 (each_once (flat_map (wanted 1) (seen_as (x i) 7 low ∷ seen_as (y i) 8 high ∷ literal (Number (pos 1)) ∷ []))) (seen_as (y i) 8 high)) (over 1 (each_once (flat_map (wanted 1) (seen_as (x i) 7 low ∷ seen_as (y i) 8 high ∷ literal (Number (pos 1)) ∷ []))) (literal (Number (pos 1)))) (record { body = 2; value = 6; turn = None }))))
    refl refl refl)
    no_statement refl refl refl)
    no_function refl refl

pub filled_laid : LaysScript filled filled_kinds filled_declared filled_code
filled_laid = record {
  own_declared = filled_declared;
  function_declared = [];
  declared = refl;
  first = s3;
  last = s7;
  entries_are = 0 ∷ 1 ∷ 2 ∷ [];
  makes_are = array ∷ scalar 36 ∷ [];
  function_bodies = record { opener = ByCalls; makes = scalar 8 ∷ []; entries = 3 ∷ 6 ∷ [] } ∷ [];
  script = filled_script;
  functions = filled_functions;
  entries = refl;
  bodies = refl;
}
