-- Worked scripts are laid as their code; code with an entry in a wrong body is not laid.
use Rattle.std.proofs.Common.{◌≡◌, inl, inr, ℕ, zero, suc, Bool, false, List, [], ◌∷◌, length, refl, sym, ap, ◌∙◌, subst, Option, Some, arith}
use Rattle.std.specs.Prelude.{ℤ, pos, slice_get}
use Rattle.values.specs.Operators.{Operation, compare}
use Rattle.values.specs.declared.op.Order.TheVariants.{Less}
use Rattle.values.specs.declared.value.Scalar.TheVariants.{Number}
use Rattle.language.specs.Core.{input, Name, name, literal, operator, none, also, here, Expr, Exprs, Form, Part, inner, Call, compute, stmt, choose, Block, no_stmts, Function}
use Rattle.language.specs.Members.{◌∈◌, first, later}
use Rattle.language.specs.Parts.{part_calls, block_list}
use Rattle.std.specs.List.{flat_map}
use Rattle.language_laws.specs.ExampleTrees.{table_of_fibonacci, tree_of_fibonacci}
use Rattle.task_code.specs.Code as code
use Rattle.task_code.specs.Code.{Variable, Need, Argument, Act, Entry, Code, entry, is_array_name, ByMain, ByCalls, ByStep, scalar}
use Rattle.code_rules.specs.IsCodeOf.{Layout, seen_as, IsEntry, of_literal, of_datum, no_input, one_input, no_output, one_output, PartAs, plain_literal, a_cell, a_call, PartsAs, no_part, one_part}
use Rattle.code_rules.specs.CodeNames.{wanted, each_once, over}
use Rattle.code_rules.specs.Laid.{Table, StmtLaid, branches_laid, simple_laid, StmtsLaid, one_laid, none_laid, IsLaid}
use Rattle.code_rules.specs.Laying.{Kinds, Laying, bare, CallFits, IsCallOf, CallsFit, is_array_argument, simple, branches, LaysBlock, no_statement, one_statement, LaysFunctions, no_function, one_function, LaysScript}
use Rattle.code_laws.specs.Worked.{fibonacci, fibonacci_kinds, fibonacci_code, misplaced_code}
use Rattle.code_laws.proofs.IndexParts.{reads_stand}
use Rattle.code_laws.proofs.Nodes.{NodesApart, nodes_apart}
use Rattle.code_laws.proofs.Layouts.{layout_of}
use Rattle.code_laws.proofs.Whole.{is_laid}
use Rattle.std.proofs.lemmas.List.{length-append}

pub same : {e : Entry} {at : ℕ} {p : ℤ} {ns : List Need} {a : Act} → e.at ≡ at → e.priority ≡ p → e.needs ≡ ns → e.act ≡ a → IsEntry e at p ns a
same a b c d = record { at_is = a; priority_is = b; needs_is = c; act_is = d }

pub the_cell : {C : Code} {l : Layout} {k at j n : ℕ} {p : ℤ} {all : List Part} {e : Expr} → l.plain n ≡ false → (entry C j).node ≡ n → IsEntry (entry C j) at p (each_once (wanted k e)) (code.Cell (over k (each_once (wanted k e)) e))
    → PartAs C l k all at p (inner (record { node = n; form = compute e })) (j ∷ [])
the_cell a b c = a_cell a b c

-- a call of a function whose body stands so
pub calls_body : {e : Entry} {at : ℕ} {p : ℤ} {ins : List Argument} {outs : List code.Name} {f g : ℕ} → g ≡ f → e.at ≡ at → e.priority ≡ p → e.needs ≡ [] → e.act ≡ code.Call f ins outs → IsEntry e at p [] (code.Call g ins outs)
calls_body {ins = ins} {outs = outs} q a b c d = same a b c (d ∙ ap (λ (z : ℕ). code.Call z ins outs) (sym q))

-- CALLS FIT

some_same : {A : Type 0} {x y : A} → ◌≡◌ {A = Option A} (Some x) (Some y) → x ≡ y
some_same h = cc

none_there : {A X : Type 0} {x : A} (i : ℕ) → slice_get [] i ≡ Some x → X
none_there zero h = absurd (cc (h))
none_there (suc i) h = absurd (cc (h))

only_there : {A : Type 0} {x y : A} (i : ℕ) → slice_get (x ∷ []) i ≡ Some y → x ≡ y
only_there zero h = some_same h
only_there (suc i) h = none_there i h

-- a call of a function with one input and one output
pub one_fits : {fs : List Kinds} {all : List Part} (c : Call) (x : Name) (a : Argument) (o : code.Name) (p q : Bool) → slice_get fs c.function ≡ Some (p ∷ [], q ∷ []) → is_array_argument a ≡ p → is_array_name o ≡ q → CallFits fs all c (a ∷ []) (o ∷ [])
one_fits c x a o p q f g h = record {
  inputs = λ kinds i y b v k m n z s. (let e = some_same (sym f ∙ k) in
      let w = only_there i n in
      let u = only_there i (ap (λ (t : Kinds). slice_get t.0 i) e ∙ z) in
      sym (ap is_array_argument w) ∙ g ∙ u);
  outputs = λ kinds i y b k n z. (let e = some_same (sym f ∙ k) in
      let w = only_there i n in
      let u = only_there i (ap (λ (t : Kinds). slice_get t.1 i) e ∙ z) in
      sym (ap is_array_name w) ∙ h ∙ u);
}

module _ (fs : List Kinds) (all : List Part) where
  -- an entry is a call that fits, or calls nothing
  abbrev pub FitsAs : Entry → Type 0
  FitsAs e = (f : ℕ) (ins : List Argument) (outs : List code.Name) → e.act ≡ code.Call (suc f) ins outs → IsCallOf fs all e f ins outs

  body_same : {b d : ℕ} {is js : List Argument} {os us : List code.Name} → code.Call b is os ≡ code.Call d js us → (b ≡ d) × (is ≡ js) × (os ≡ us)
  body_same h = (cc, cc, cc)

  pub call_fit : (e : Entry) (c : Call) (ins : List Argument) (outs : List code.Name) → c ∈ part_calls all → e.offset ≡ c.at → e.act ≡ code.Call (suc c.function) ins outs → CallFits fs all c ins outs → FitsAs e
  call_fit e c ins outs m q a h f is os z =
      let s = body_same (sym a ∙ z) in
      record { call = c; there = m; function = (let y = s.0 in omega arith); offset = q; fits = subst (λ (us : List code.Name). CallFits fs all c is us) s.2 (subst (λ (js : List Argument). CallFits fs all c js outs) s.1 h) }

  pub fit_none : CallsFit fs all []
  fit_none e f ins outs i = absurd i

  pub fit_more : (d : Entry) (es : List Entry) → FitsAs d → CallsFit fs all es → CallsFit fs all (d ∷ es)
  fit_more d es h g e f ins outs (inl q) z = subst (λ (x : Entry). x.act ≡ code.Call (suc f) ins outs → IsCallOf fs all x f ins outs) (sym q) (h f ins outs) z
  fit_more d es h g e f ins outs (inr i) z = g e f ins outs i z

-- FIBONACCI

abbrev laid : ℕ → Entry
laid i = bare (entry fibonacci_code i)

abbrev s0 : Laying
s0 = record { entries = []; bodies = [] }

abbrev s1 : Laying
s1 = record { entries = laid 0 ∷ []; bodies = [] }

abbrev s2 : Laying
s2 = record { entries = laid 0 ∷ laid 1 ∷ []; bodies = [] }

abbrev s3 : Laying
s3 = record { entries = laid 0 ∷ laid 1 ∷ laid 2 ∷ []; bodies = [] }

abbrev s4 : Laying
s4 = record { entries = laid 0 ∷ laid 1 ∷ laid 2 ∷ laid 3 ∷ []; bodies = [] }

abbrev s5 : Laying
s5 = record { entries = laid 0 ∷ laid 1 ∷ laid 2 ∷ laid 3 ∷ laid 4 ∷ laid 5 ∷ laid 6 ∷ laid 7 ∷ []; bodies = [] }

abbrev s6 : Laying
s6 = record { entries = laid 0 ∷ laid 1 ∷ laid 2 ∷ laid 3 ∷ laid 4 ∷ laid 5 ∷ laid 6 ∷ laid 7 ∷ laid 8 ∷ []; bodies = [] }

abbrev s7 : Laying
s7 = record {
  entries = laid 0 ∷ laid 1 ∷ laid 2 ∷ laid 3 ∷ laid 4 ∷ laid 5 ∷ laid 6 ∷ laid 7 ∷ laid 8 ∷ laid 9 ∷ [];
  bodies = record { opener = ByStep 9; makes = []; entries = 3 ∷ [] } ∷ record { opener = ByStep 9; makes = scalar 19 ∷ scalar 18 ∷ scalar 25 ∷ scalar 24 ∷ []; entries = 4 ∷ 5 ∷ 6 ∷ 7 ∷ 8 ∷ [] } ∷ [];
}

pub fibonacci_script : LaysBlock fibonacci_kinds 2 0 fibonacci.body [] s0 s2 (0 ∷ 1 ∷ []) (scalar 34 ∷ [])
fibonacci_script =
    one_statement
    (simple (laid 1) {s = s0} {t = s1} {u = s2} {es = 0 ∷ 1 ∷ []} {is = 0 ∷ []} tt
    (record {
      more = laid 0 ∷ [];
      entries = refl;
      bodies = refl;
      numbers = refl;
      fit = fit_more _ _ (laid 0) [] (call_fit _ _ (laid 0) _ _ _ first refl refl (one_fits _ (here 35) _ _ false false refl refl refl)) (fit_none _ _);
      parts_as = λ l pl b st.
          one_part (plain_literal pl.0)
          (one_part (a_call (record { ins = _; outs = _; is = calls_body (b 0) refl refl refl refl; offset_is = refl; inputs = one_input (of_literal first pl.0) no_input; outputs = one_output false no_output })) no_part refl) refl;
    })
    (λ l su. same refl refl refl refl) (refl, refl) refl refl)
    no_statement refl refl refl

-- no entry of a cell or of a simple statement calls
pub cell_fits : (fs : List Kinds) (all : List Part) (e : Entry) {x : code.Expr} → e.act ≡ code.Cell x → FitsAs fs all e
cell_fits fs all e q f ins outs z = absurd (let y : code.Cell _ ≡ code.Call (suc f) ins outs = sym q ∙ z in cc)

pub read_fits : (fs : List Kinds) (all : List Part) (e : Entry) → e.act ≡ code.Read → FitsAs fs all e
read_fits fs all e q f ins outs z = absurd (let y : code.Read ≡ code.Call (suc f) ins outs = sym q ∙ z in cc)

-- n < 2
abbrev condition : Form
condition = compute (operator (compare Less) (also (name (record { up = 0; what = input 0 })) (also (literal (Number (pos 2))) none)))

pub fibonacci_functions : LaysFunctions fibonacci_kinds 2 fibonacci.functions [] s2 s7 (record { opener = ByCalls; makes = scalar 6 ∷ []; entries = 2 ∷ 9 ∷ [] } ∷ [])
fibonacci_functions =
    one_function {s = s2} {t = s7} {u = s7} {js = 2 ∷ 9 ∷ []} {vs = scalar 6 ∷ []}
    (one_statement {t = s7} {is = 2 ∷ 9 ∷ []} {js = []} {vs = scalar 6 ∷ []} {ws = []}
    (branches (laid 9) {s = s2} {t = s3} {u = s4} {v = s6} {w = s7} {es = 2 ∷ 9 ∷ []} {is = 2 ∷ []} {js = 3 ∷ []} {ks = 4 ∷ 5 ∷ 6 ∷ 7 ∷ 8 ∷ []} {vs = []} {ws = scalar 19 ∷ scalar 18 ∷ scalar 25 ∷ scalar 24 ∷ []}
    (record {
      more = laid 2 ∷ [];
      entries = refl;
      bodies = refl;
      numbers = refl;
      fit = fit_more _ _ (laid 2) [] (cell_fits _ _ (laid 2) refl) (fit_none _ _);
      parts_as = λ l pl b st. one_part (the_cell pl.0 refl (same refl refl refl refl)) no_part refl;
    })
    (one_statement {t = s4} {is = 3 ∷ []} {js = []} {vs = []} {ws = []}
    (simple (laid 3) {s = s3} {t = s3} {u = s4} {es = 3 ∷ []} {is = []} tt
    (record { more = []; entries = refl; bodies = refl; numbers = refl; fit = fit_none _ _; parts_as = λ l pl b st. no_part })
    (λ l su. same refl refl refl refl) (refl, refl) refl refl)
    no_statement refl refl refl)
    (one_statement {t = s6} {is = 4 ∷ 5 ∷ 6 ∷ 7 ∷ 8 ∷ []} {js = []} {vs = scalar 19 ∷ scalar 18 ∷ scalar 25 ∷ scalar 24 ∷ []} {ws = []}
    (simple (laid 8) {s = s4} {t = s5} {u = s6} {es = 4 ∷ 5 ∷ 6 ∷ 7 ∷ 8 ∷ []} {is = 4 ∷ 5 ∷ 6 ∷ 7 ∷ []} tt
    (record {
      more = laid 4 ∷ laid 5 ∷ laid 6 ∷ laid 7 ∷ [];
      entries = refl;
      bodies = refl;
      numbers = refl;
      fit = fit_more _ _ (laid 4) (laid 5 ∷ laid 6 ∷ laid 7 ∷ []) (cell_fits _ _ (laid 4) refl)
          (fit_more _ _ (laid 5) (laid 6 ∷ laid 7 ∷ []) (call_fit _ _ (laid 5) _ _ _ first refl refl (one_fits _ (here 19) _ _ false false refl refl refl))
          (fit_more _ _ (laid 6) (laid 7 ∷ []) (cell_fits _ _ (laid 6) refl)
          (fit_more _ _ (laid 7) [] (call_fit _ _ (laid 7) _ _ _ (later first) refl refl (one_fits _ (here 25) _ _ false false refl refl refl)) (fit_none _ _))));
      parts_as = λ l pl b st.
          one_part (the_cell pl.0 refl (same refl refl refl refl))
          (one_part (a_call (record { ins = _; outs = _; is = calls_body (b 0) refl refl refl refl; offset_is = refl; inputs = one_input (of_datum {c = record { node = 19; form = _ }} first pl.0) no_input; outputs = one_output false no_output }))
          (one_part (the_cell pl.1.0 refl (same refl refl refl refl))
          (one_part (a_call (record { ins = _; outs = _; is = calls_body (b 0) refl refl refl refl; offset_is = refl; inputs = one_input (of_datum {c = record { node = 25; form = _ }} (later first) pl.1.0) no_input; outputs = one_output false no_output })) no_part refl) refl) refl) refl;
    })
    (λ l su. same refl refl refl refl) (refl, refl) refl refl)
    no_statement refl refl refl)
    refl
    (λ l su. same refl refl (ap (λ (b : Bool). each_once (flat_map (wanted 1) (seen_as b 6 condition ∷ []))) (sym su.parts_plain.0))
    (ap (λ (b : Bool). code.If (over 1 (each_once (flat_map (wanted 1) (seen_as b 6 condition ∷ []))) (seen_as b 6 condition)) 2 (Some 3)) (sym su.parts_plain.0))) refl refl refl)
    no_statement refl refl refl)
    no_function refl refl

pub fibonacci_laid : LaysScript fibonacci fibonacci_kinds [] fibonacci_code
fibonacci_laid = record {
  own_declared = [];
  function_declared = [];
  declared = refl;
  first = s2;
  last = s7;
  entries_are = 0 ∷ 1 ∷ [];
  makes_are = scalar 34 ∷ [];
  function_bodies = record { opener = ByCalls; makes = scalar 6 ∷ []; entries = 2 ∷ 9 ∷ [] } ∷ [];
  script = fibonacci_script;
  functions = fibonacci_functions;
  entries = refl;
  bodies = refl;
}

-- AN ENTRY IN A WRONG BODY

-- a cell that computes an operator has one entry
one_cell : {C : Code} {l : Layout} {k n at : ℕ} {p : ℤ} {all : List Part} {o : Operation} {es : Exprs} {is : List ℕ} → PartsAs C l k all at p (inner (record { node = n; form = compute (operator o es) }) ∷ []) is → length is ≡ 1
one_cell (one_part (a_cell z nd en) no_part e) = ap (λ (js : List ℕ). length js) e

-- and a branch by it two
two_entries : {C : Code} {l : Layout} {T : Table} {k at n m : ℕ} {o : Operation} {es : Exprs} {b d : Block} {is : List ℕ} {vs : List Variable}
    → StmtLaid C l T k (stmt at n (choose (record { parts = []; cell = record { node = m; form = compute (operator o es) } }) b d)) is vs → length is ≡ 2
two_entries (branches_laid j {is = js} ps en mk st sd e) =
    let a = one_cell ps in
    let z = length-append js (j ∷ []) in
    let y = ap (λ (js : List ℕ). length js) e in
    omega arith
two_entries (simple_laid j sim ps en nd e) = absurd sim

alone_two : {C : Code} {l : Layout} {T : Table} {k at n m : ℕ} {o : Operation} {es : Exprs} {b d : Block} {is : List ℕ} {vs : List Variable}
    → StmtsLaid C l T k (stmt at n (choose (record { parts = []; cell = record { node = m; form = compute (operator o es) } }) b d) ∷ []) is vs → length is ≡ 2
alone_two (one_laid {is = js} x none_laid e me) =
    let a = two_entries x in
    let z = length-append js [] in
    let y = ap (λ (js : List ℕ). length js) e in
    omega arith

fibonacci_apart : NodesApart fibonacci
fibonacci_apart = nodes_apart fibonacci refl

abbrev first_of_list : List Function → Function
first_of_list [] = record { inputs = 0; outputs = 0; body = no_stmts }
first_of_list (f ∷ fs) = f

abbrev the_function : Function
the_function = first_of_list fibonacci.functions

abbrev function_block : Block
function_block = the_function.body

three_two : (m : ℕ) → m ≡ 3 → m ≡ 2 → ⊥
three_two m e f = absurd (omega arith)

-- a function's body that has these three entries
function_wrong : {l : Layout} {T : Table} {k : ℕ} {b : Block} {vs : List Variable} → k ≡ 1 → b ≡ function_block → StmtsLaid misplaced_code l T k (block_list b) (2 ∷ 3 ∷ 9 ∷ []) vs → ⊥
function_wrong {l} {T} {k} {b} {vs} p q h =
    three_two (length {A = ℕ} (2 ∷ 3 ∷ 9 ∷ [])) refl (alone_two (subst (λ (z : ℕ). StmtsLaid misplaced_code l T z (block_list function_block) (2 ∷ 3 ∷ 9 ∷ []) vs) p (subst (λ (z : Block). StmtsLaid misplaced_code l T k (block_list z) (2 ∷ 3 ∷ 9 ∷ []) vs) q h)))

pub misplaced : (fs : List Kinds) (ds : List (ℕ × Bool)) → LaysScript fibonacci fs ds misplaced_code → ⊥
misplaced fs ds L =
    let h : IsLaid fibonacci fs ds misplaced_code (layout_of fibonacci ds) = is_laid L fibonacci_apart (reads_stand table_of_fibonacci tree_of_fibonacci) in
    let st = h.functions 0 the_function refl in
    let bd = h.bodies 1 st.within in
    function_wrong st.inputs st.block bd.stmts
