-- A fault of the code is one of the script's: of the cell that an entry works out, of a range, of an element that is not there, or of a path that would be too long.
use Rattle.std.proofs.Common.{◌≡◌, ◌⊎◌, inl, inr, ℕ, suc, ◌≤◌, arith, Bool, true, false, List, [], ◌∷◌, length, refl, sym, ap, ◌∙◌, subst, Option, Some, None, Result, Ok, Err}
use Rattle.std.specs.Prelude.{pos, ℤ, nat_le}
use Rattle.std.specs.List.{flat_map}
use Rattle.dataflow.specs.System.{In, Found, Missing, Content, Outcome, Bad, Effect}
use Rattle.dataflow.specs.Facts.{Live}
use Rattle.dataflow.specs.Machine.{OfTask}
use Rattle.dataflow.proofs.Lists.{in_left, in_right, in_unmap}
use Rattle.values.specs.declared.fault.OpFault.{OpFault}
use Rattle.values.specs.declared.key.Key.{Key}
use Rattle.values.specs.declared.value.Scalar.{Scalar}
use Rattle.values.specs.declared.value.Scalar.TheVariants.{Truth}
use Rattle.values.specs.declared.value.Value.{Value}
use Rattle.values.specs.declared.value.Value.TheVariants.{One}
use Rattle.values.specs.Operators.{literal, evaluated}
use Rattle.values.specs.Ranges.{range_count}
use Rattle.values.specs.Values.{number_of, truth_of}
use Rattle.language.specs.Core as Co
use Rattle.language.specs.Core.{here, Name, Expr, Form, compute, read, Cell, Call, Part, Outer, Stmt, stmt, Action, fill, insert, when, choose, range, each, wait, Block, Core}
use Rattle.language.specs.Facts.{value, fault, Knowledge, KnownAll, no_cell, next_cell, IsKey}
use Rattle.language.specs.Meaning.{ValueUnder, of_literal, of_name, LiveStmt, in_block, computed, missing, cell_value, cell_fault, bad_range, too_deep_header, too_deep_call, ComeAll, none_comes, next_comes, before, Ready, cells_known, source_closed}
use Rattle.language.specs.Members.{◌∈◌, first, later}
use Rattle.language.specs.Openings.{Bounds, bounds, one_way, two_ways, in_turns, Opens, then_alone, then_first, else_second, turn, item}
use Rattle.language.specs.Outcomes.{Faults}
use Rattle.language.specs.Parts.{stmt_node, cells, part_cells, block_list, outer_cells}
use Rattle.language.specs.Places.{Place, place, max_path_steps}
use Rattle.language.specs.WellFormed.{WellFormed, IsMany, a_list, a_copy}
use Rattle.language_laws.proofs.Declared.{stmt_in, place_here}
use Rattle.language_laws.proofs.Sources.{outer_in}
use Rattle.task_code.specs.Code as code
use Rattle.task_code.specs.Code.{Need, Act, Code, entry, body, ways, loop_of}
use Rattle.task_code.specs.Compute as Compute
use Rattle.task_code.specs.Compute.{Computed, EntryFault, InOperation, NoElement, TooDeep, Fails, given, insert_element, branched, ranged, turns_or, filled, eval, answer_at, content, key_of, elements}
use Rattle.task_code.specs.Effects as Eff
use Rattle.task_code.specs.Effects.{Task, Main, Item, instances, is_too_deep, steps_on, is_some_list, outcome_of, effect_at, step_at, turns_of}
use Rattle.task_code.specs.Places.{Step, place_at}
use Rattle.task_code.proofs.Chunks.{in_chunk}
use Rattle.task_code.specs.Places as CodePlaces
use Rattle.task_code.specs.System.{answered, code_system}
use Rattle.task_code.specs.Whole.{IsCode}
use Rattle.task_code.proofs.Kept.{code_laws}
use Rattle.headline.specs.Headline.{script_path, script_fault}
use Rattle.code_rules.specs.CodeNames.{name_as, wanted, over}
use Rattle.code_rules.specs.IsCodeOf.{seen, own_form, own_expr, own_needs, own_exprs, own_priority, simple_act, fill_act, step_expr, IsSimple, IsEntry, PartAs, plain_literal, plain_name, a_cell, a_read, a_call, IndexAs, at_literal, at_name, at_datum, BodyAs, body_as, IsCodeOf}
use Rattle.language_laws.specs.Scoped.{IsIn, Scoped}
use Rattle.language_laws.specs.TypedValues.{TypedValues}
use Rattle.headline.specs.Answered.{ReadAll, Reading, IsRight}
use Rattle.headline.specs.Chains.{Answers, Chain, at_script, by_header, by_wait, by_call, HasElement, Lacks}
use Rattle.headline.specs.Inclusions.{FaultsTo}
use Rattle.headline.specs.Knows.{Knows}
use Rattle.headline.proofs.Backing.{backs}
use Rattle.headline.proofs.Evaluate.{Got, Ans, AnsAll, SaysScript, answers_of, in_once}
use Rattle.headline.proofs.FaultsOf.{value_at, own_fails, seen_fails, assign_fails, print_fails, assert_fails, when_fails, choose_fails, insert_fails, cell_fails}
use Rattle.headline.proofs.LiveTo.{ItemLive, live_to, in_one, branch_of, ranged_of, bounds_two, bounds_three, ok_step, outer_among, call_of, simple_opens_none, listed_in}
use Rattle.headline.proofs.Means.{chain_live, chain_body, chain_scope}
use Rattle.headline.proofs.Opening.{arrays_are_data, seen_known, seen_scoped}
use Rattle.headline.proofs.Readings.{name_stands, says_script, same_array, to_script, IsSame, element_in}
use Rattle.headline.proofs.Roles.{parts_of, PartOf, OwnAs, own_simple, own_branch, own_branches, own_range, own_each, own_wait, RoleIn, find_role, cell_among}
use Rattle.headline.proofs.Transfer.{fault_read}
use Rattle.headline.proofs.Readings.{cell_has}
use Rattle.headline.proofs.KeysOf.{key_of_is}
use Rattle.std.proofs.lemmas.Bool.{and_parts}

-- a fault of a computation is an operation's
abbrev OpOnly : Computed → Type 0
OpOnly (Fails (InOperation f)) = Unit {0}
OpOnly (Fails NoElement) = ⊥
OpOnly (Fails TooDeep) = ⊥
OpOnly _ = Unit {0}

given_op : (r : Result Value OpFault) → OpOnly (given r)
given_op (Ok v) = tt
given_op (Err f) = tt

filled_op : (r : Result Value OpFault) → OpOnly (filled r)
filled_op (Ok v) = tt
filled_op (Err f) = tt

put_op : (i r : Result Value OpFault) → OpOnly (insert_element i r)
put_op (Err f) r = tt
put_op (Ok i) (Err f) = tt
put_op (Ok i) (Ok v) = tt

branched_op : (r : Result Value OpFault) → OpOnly (branched r)
branched_op (Ok v) = tt
branched_op (Err f) = tt

turns_op : (r : Result ℕ OpFault) (low step : ℤ) → OpOnly (turns_or r low step)
turns_op (Ok n) low step = tt
turns_op (Err f) low step = tt

ranged_op : (l h d : Result Value OpFault) → OpOnly (ranged l h d)
ranged_op (Err f) h d = tt
ranged_op (Ok l) (Err f) d = tt
ranged_op (Ok l) (Ok h) (Err f) = tt
ranged_op (Ok l) (Ok h) (Ok d) = turns_op (range_count (number_of l) (number_of h) (number_of d)) (number_of l) (number_of d)

op_only : (a : Act) (ys : List Got) → (a ≡ code.Read → ⊥) → OpOnly (Compute.compute a ys)
op_only (code.Cell e) ys n = given_op (eval ys e)
op_only code.Read ys n = absurd (n refl)
op_only (code.Call b rs os) ys n = tt
op_only (code.Set r e) ys n = given_op (eval ys e)
op_only (code.Fill r es) ys n = filled_op (evaluated literal (Compute.evals ys es))
op_only (code.Copy r) ys n = tt
op_only (code.InsertElement r i e) ys n = put_op (eval ys i) (eval ys e)
op_only (code.Print e) ys n = given_op (eval ys e)
op_only (code.Assert e) ys n = given_op (eval ys e)
op_only (code.If e b d) ys n = branched_op (eval ys e)
op_only (code.Range l h d w) ys n = ranged_op (eval ys l) (eval ys h) (eval ys d)
op_only (code.Each w) ys n = tt
op_only (code.Wait hs b) ys n = tt

-- what comes of an item that is no effect
bad_outcome : (x : Computed) (b : Bool) (e : Effect Task CodePlaces.Place Key Scalar) (f : EntryFault) → ◌≡◌ {A = Outcome Task CodePlaces.Place Key Scalar EntryFault} (outcome_of x b e) (Bad f) → (x ≡ Fails f) ⊎ ((b ≡ true) × (f ≡ TooDeep))
bad_outcome (Fails g) b e f h = inl (cc)
bad_outcome (Compute.Gives v) true e f h = inr (refl, cc)
bad_outcome (Compute.Gives v) false e f h = absurd (cc (h))
bad_outcome (Compute.Inserts v) true e f h = inr (refl, cc)
bad_outcome (Compute.Inserts v) false e f h = absurd (cc (h))
bad_outcome (Compute.Takes v) true e f h = inr (refl, cc)
bad_outcome (Compute.Takes v) false e f h = absurd (cc (h))
bad_outcome (Compute.Turns v) true e f h = inr (refl, cc)
bad_outcome (Compute.Turns v) false e f h = absurd (cc (h))
bad_outcome Compute.Opens true e f h = inr (refl, cc)
bad_outcome Compute.Opens false e f h = absurd (cc (h))

-- where ranges fail
record CountFails (l h d : Result Value OpFault) (f : OpFault) : Type 0 where
  low : Value
  high : Value
  step : Value
  low_is : l ≡ Ok low
  high_is : h ≡ Ok high
  step_is : d ≡ Ok step
  count : range_count (number_of low) (number_of high) (number_of step) ≡ Err f

data RangeFails (l h d : Result Value OpFault) (f : OpFault) : Type 0 where
  low_fails : l ≡ Err f → RangeFails l h d f
  high_fails : h ≡ Err f → RangeFails l h d f
  step_fails : d ≡ Err f → RangeFails l h d f
  count_fails : CountFails l h d f → RangeFails l h d f

fault_same : {a b : OpFault} → Fails (InOperation a) ≡ Fails (InOperation b) → a ≡ b
fault_same h = cc

ranged_fails : {f : OpFault} (l h d : Result Value OpFault) → ranged l h d ≡ Fails (InOperation f) → RangeFails l h d f
ranged_fails (Err g) h d e = low_fails (ap Err (fault_same e))
ranged_fails (Ok l) (Err g) d e = high_fails (ap Err (fault_same e))
ranged_fails (Ok l) (Ok h) (Err g) e = step_fails (ap Err (fault_same e))
ranged_fails {f} (Ok l) (Ok h) (Ok d) e = by (range_count (number_of l) (number_of h) (number_of d)) refl e
  where
    by : (r : Result ℕ OpFault) → range_count (number_of l) (number_of h) (number_of d) ≡ r → turns_or r (number_of l) (number_of d) ≡ Fails (InOperation f) → RangeFails (Ok l) (Ok h) (Ok d) f
    by (Ok n) q e = absurd (cc (e))
    by (Err g) q e = count_fails (record { low = l; high = h; step = d; low_is = refl; high_is = refl; step_is = refl; count = q ∙ ap Err (fault_same e) })

fails_same : {a b : EntryFault} → Fails a ≡ Fails b → a ≡ b
fails_same h = cc

no_turns : {zs : Compute.Elements} {f : EntryFault} → Compute.Turns zs ≡ Fails f → ⊥
no_turns h = absurd (cc (h))

no_opens : {f : EntryFault} → Compute.Opens ≡ Fails f → ⊥
no_opens h = absurd (cc (h))

none_some : {u : ℕ} → ◌≡◌ {A = Option ℕ} None (Some u) → ⊥
none_some h = absurd (cc (h))

path_length : (p : List Step) → length (script_path p) ≡ length p
path_length [] = refl
path_length (t ∷ p) = ap suc (path_length p)

at_least : (n : ℕ) → nat_le max_path_steps n ≡ true → max_path_steps ≤ n
at_least n h = grind arith

member : {X : Type 0} (xs : List X) → is_some_list xs ≡ true → (x : X) × In x xs
member [] h = absurd (cc (h))
member (x ∷ xs) h = (x, inl refl)

module _ (s : Core) (C : Code) (w : IsCodeOf s C) (K : Knowledge) (wf : WellFormed s) (kn : Knows s K) (I : IsCode C) (sc : Scoped s) (ty : TypedValues s K) where
  -- no path of a live block is longer than the limit
  chain_bound : {p : List Step} {t k : ℕ} {b : Block} → Chain s C w.layout K p t k b → length (script_path p) ≤ max_path_steps
  chain_bound (at_script h) = omega arith
  chain_bound (by_header j ch m i mk wy h r o dp) = omega arith
  chain_bound (by_wait j ch m i wy h r) = chain_bound ch
  chain_bound (by_call j ch m n i ca cs f len h dp) = omega arith

  -- A LIVE ENTRY WHOSE INPUTS ARE READ
  module _ {p : List Step} {t k : ℕ} {b : Block} (ch : Chain s C w.layout K p t k b) (i c : ℕ) (there : In i (body C t).entries)
      (xs : List Got) (read_all : ReadAll (code_system C) (Answers s K) ((code_system C).inputs (Item i p c)) xs) where
    abbrev ys : List Got
    ys = answered C p (entry C i).needs xs

    abbrev X : Computed
    X = Compute.compute (entry C i).act ys

    abbrev IsIt : EntryFault → Type 0
    IsIt f = Faults K (script_fault (OfTask f)) (entry C i).at (script_path p)

    live : {st : Stmt} → st ∈ block_list b → LiveStmt s K (script_path p) st
    live m = in_block (chain_live s C w.layout K wf.names I sc ch) m

    put_at : {at : ℕ} (f : EntryFault) (n : ℕ) → (entry C i).at ≡ at → K (fault (script_fault (OfTask f)) at (script_path p, n)) → IsIt f
    put_at f n e h = (n, subst (λ (z : ℕ). K (fault (script_fault (OfTask f)) z (script_path p, n))) (sym e) h)

    says : SaysScript s C K p k (entry C i).needs
    says = says_script s wf K (backs s K kn) C w.layout I sc ch i there kn

    all_said : AnsAll s C K p (entry C i).needs ys
    all_said = answers_of s C K p (entry C i).needs (arrays_are_data s C w.layout K I ch i there) xs read_all

    -- the value of a cell that it sees
    seen_is : {at n : ℕ} {a : Action} (d : Cell) {v : Value} → stmt at n a ∈ block_list b → d ∈ cells (stmt at n a) → (ms : List Need) → (entry C i).needs ≡ ms → ((m : Need) → In m (wanted k (seen w.layout d)) → In m ms)
        → eval ys (over k ms (seen w.layout d)) ≡ Ok v → K (value (script_path p, d.node) v)
    seen_is {at} {n} {a} d {v} sm cm ms q sub ev =
        let g = (sc.statements k b (stmt at n a) (chain_scope s C w.layout K wf.names I sc ch) sm).in_cells d cm in
        seen_known s wf K kn w.layout d (live sm) cm (subst (λ (r : Result Value OpFault). ValueUnder s K (script_path p) (seen w.layout d) r) ev
        (value_at s C w K wf kn I sc ch i c there xs read_all (seen w.layout d) (seen_scoped k w.layout d g) ms q sub))

    as_act : {a : Act} {x : Computed} → (entry C i).act ≡ a → X ≡ x → Compute.compute a ys ≡ x
    as_act e h = sym (ap (λ (z : Act). Compute.compute z ys) e) ∙ h

    -- A LITERAL OF AN ARRAY
    fill_fails : {at n : ℕ} {pr : ℤ} {x : Name} (o : Outer) {f : OpFault} → stmt at n (fill x o) ∈ block_list b
        → IsEntry (entry C i) at pr (own_needs w.layout k (fill x o)) (fill_act w.layout k (own_needs w.layout k (fill x o)) x (own_expr o)) → X ≡ Fails (InOperation f) → IsIt (InOperation f)
    fill_fails {at} {n} {x = x} o {f} sm en h = by (wf.cells.fill_many at n x o (stmt_in s (live sm))) refl
      where
        ms : List Need
        ms = own_needs w.layout k (fill x o)

        by : {g : Form} → IsMany g → o.cell.form ≡ g → IsIt (InOperation f)
        by (a_list {es = es}) q =
            let eq : own_expr o ≡ Co.operator literal es = ap (own_form o.cell.node) q in
            let h' : filled (eval ys (over k ms (Co.operator literal es))) ≡ Fails (InOperation f) = as_act (en.act_is ∙ ap (fill_act w.layout k ms x) eq) h in
            own_fails s C w K wf kn I sc ch i c there xs read_all o.cell sm (outer_in o.parts o.cell) en.at_is ms en.needs_is (λ m j. in_once m _ (in_left m _ [] j))
            (subst (λ (z : Expr). eval ys (over k ms z) ≡ Err f) (sym eq) (filled_fails _ h'))
          where
            filled_fails : (r : Result Value OpFault) → filled r ≡ Fails (InOperation f) → r ≡ Err f
            filled_fails (Ok v) h = absurd (cc (h))
            filled_fails (Err g) h = ap Err (fault_same h)
        by (a_copy {a = a}) q = absurd (no_copy (as_act (en.act_is ∙ ap (fill_act w.layout k ms x) (ap (own_form o.cell.node) q)) h))
          where
            no_copy : {zs : Compute.Elements} → Compute.Inserts zs ≡ Fails (InOperation f) → ⊥
            no_copy h = absurd (cc (h))

    -- A RANGE
    bounds_known : {at n x : ℕ} {lo hi : Outer} (st : Option Outer) {y : Option ℕ} {d : Block} → stmt at n (range lo hi st x y d) ∈ block_list b → (ms : List Need) → own_needs w.layout k (range lo hi st x y d) ≡ ms → (entry C i).needs ≡ ms
        → (u v z : Value) → eval ys (over k ms (seen w.layout lo.cell)) ≡ Ok u → eval ys (over k ms (seen w.layout hi.cell)) ≡ Ok v → eval ys (over k ms (step_expr w.layout k st)) ≡ Ok z
        → (vs : List Value) × (r : Bounds) × KnownAll K (script_path p) (outer_cells (range lo hi st x y d)) vs × (bounds vs ≡ Some r) × (range_count r.low r.high r.step ≡ range_count (number_of u) (number_of v) (number_of z))
    bounds_known {at} {n} {x} {lo} {hi} None {y} {d} sm ms mq nq u v z eu ev ez =
        let e1 = wanted k (seen w.layout lo.cell) in
        let e2 = wanted k (seen w.layout hi.cell) in
        let into : (m : Need) → In m (flat_map (wanted k) (own_exprs w.layout k (range lo hi None x y d))) → In m ms = λ m j. subst (λ (l : List Need). In m l) mq (in_once m _ j) in
        let kl = seen_is lo.cell sm (cell_among _ (outer_among (lo ∷ hi ∷ []) lo first)) ms nq (λ m j. into m (in_left m e1 _ j)) eu in
        let kh = seen_is hi.cell sm (cell_among _ (outer_among (lo ∷ hi ∷ []) hi (later first))) ms nq (λ m j. into m (in_right m e1 _ (in_left m e2 _ j))) ev in
        let ka = next_cell kl (next_cell kh no_cell) in
        let bd = ty.range_bounds (script_path p) at n x lo hi None y d (u ∷ v ∷ []) (stmt_in s (live sm)) ka in
        let nb = bounds_two u v bd.0 bd.1 in
        let st1 : number_of z ≡ bd.0.step = ap number_of (ok_step ez) ∙ sym nb.2 in
        (u ∷ v ∷ [], bd.0, ka, bd.1, λ i. range_count (sym nb.0 i) (sym nb.1 i) (sym st1 i))
    bounds_known {at} {n} {x} {lo} {hi} (Some o) {y} {d} sm ms mq nq u v z eu ev ez =
        let e1 = wanted k (seen w.layout lo.cell) in
        let e2 = wanted k (seen w.layout hi.cell) in
        let e3 = wanted k (seen w.layout o.cell) in
        let into : (m : Need) → In m (flat_map (wanted k) (own_exprs w.layout k (range lo hi (Some o) x y d))) → In m ms = λ m j. subst (λ (l : List Need). In m l) mq (in_once m _ j) in
        let kl = seen_is lo.cell sm (cell_among _ (outer_among (lo ∷ hi ∷ o ∷ []) lo first)) ms nq (λ m j. into m (in_left m e1 _ j)) eu in
        let kh = seen_is hi.cell sm (cell_among _ (outer_among (lo ∷ hi ∷ o ∷ []) hi (later first))) ms nq (λ m j. into m (in_right m e1 _ (in_left m e2 _ j))) ev in
        let ko = seen_is o.cell sm (cell_among _ (outer_among (lo ∷ hi ∷ o ∷ []) o (later (later first)))) ms nq (λ m j. into m (in_right m e1 _ (in_right m e2 _ (in_left m e3 _ j)))) ez in
        let ka = next_cell kl (next_cell kh (next_cell ko no_cell)) in
        let bd = ty.range_bounds (script_path p) at n x lo hi (Some o) y d (u ∷ v ∷ z ∷ []) (stmt_in s (live sm)) ka in
        let nb = bounds_three u v z bd.0 bd.1 in
        (u ∷ v ∷ z ∷ [], bd.0, ka, bd.1, λ i. range_count (sym nb.0 i) (sym nb.1 i) (sym nb.2 i))

    all_come : {cs : List Cell} {vs : List Value} → KnownAll K (script_path p) cs vs → ComeAll s K (script_path p) cs vs
    all_come no_cell = none_comes
    all_come (next_cell h more) = next_comes (before h) (all_come more)

    range_fails : {at n x t' : ℕ} {lo hi : Outer} (st : Option Outer) {y : Option ℕ} {d : Block} {f : OpFault} → stmt at n (range lo hi st x y d) ∈ block_list b → (ms : List Need) → own_needs w.layout k (range lo hi st x y d) ≡ ms
        → IsEntry (entry C i) at (pos 0) ms (code.Range (over k ms (seen w.layout lo.cell)) (over k ms (seen w.layout hi.cell)) (over k ms (step_expr w.layout k st)) (record { body = t'; value = x; turn = y })) → X ≡ Fails (InOperation f) → IsIt (InOperation f)
    range_fails {at} {n} {x} {t'} {lo} {hi} st {y} {d} {f} sm ms mq en h = by st mq sm (ranged_fails _ _ _ (as_act en.act_is h))
      where
        into : (st : Option Outer) → own_needs w.layout k (range lo hi st x y d) ≡ ms → (m : Need) → In m (flat_map (wanted k) (own_exprs w.layout k (range lo hi st x y d))) → In m ms
        into st q m j = subst (λ (l : List Need). In m l) q (in_once m _ j)

        by : (st : Option Outer) → own_needs w.layout k (range lo hi st x y d) ≡ ms → stmt at n (range lo hi st x y d) ∈ block_list b
            → RangeFails (eval ys (over k ms (seen w.layout lo.cell))) (eval ys (over k ms (seen w.layout hi.cell))) (eval ys (over k ms (step_expr w.layout k st))) f → IsIt (InOperation f)
        by st q sm (low_fails e) = seen_fails s C w K wf kn I sc ch i c there xs read_all lo.cell sm (low_in st) en.at_is ms en.needs_is (λ m j. into st q m (in_left m (wanted k (seen w.layout lo.cell)) _ j)) e
          where
            low_in : (st : Option Outer) → lo.cell ∈ cells (stmt at n (range lo hi st x y d))
            low_in None = cell_among _ (outer_among (lo ∷ hi ∷ []) lo first)
            low_in (Some o) = cell_among _ (outer_among (lo ∷ hi ∷ o ∷ []) lo first)
        by st q sm (high_fails e) = seen_fails s C w K wf kn I sc ch i c there xs read_all hi.cell sm (high_in st) en.at_is ms en.needs_is (λ m j. into st q m (in_right m (wanted k (seen w.layout lo.cell)) _ (in_left m (wanted k (seen w.layout hi.cell)) _ j))) e
          where
            high_in : (st : Option Outer) → hi.cell ∈ cells (stmt at n (range lo hi st x y d))
            high_in None = cell_among _ (outer_among (lo ∷ hi ∷ []) hi (later first))
            high_in (Some o) = cell_among _ (outer_among (lo ∷ hi ∷ o ∷ []) hi (later first))
        by None q sm (step_fails e) = absurd (cc (e))
        by (Some o) q sm (step_fails e) =
            seen_fails s C w K wf kn I sc ch i c there xs read_all o.cell sm (cell_among _ (outer_among (lo ∷ hi ∷ o ∷ []) o (later (later first)))) en.at_is ms en.needs_is
            (λ m j. into (Some o) q m (in_right m (wanted k (seen w.layout lo.cell)) _ (in_right m (wanted k (seen w.layout hi.cell)) _ (in_left m (wanted k (seen w.layout o.cell)) _ j)))) e
        by st q sm (count_fails z) =
            let r = bounds_known st sm ms q en.needs_is z.low z.high z.step z.low_is z.high_is z.step_is in
            put_at (InOperation f) n en.at_is (kn.shut _ (bad_range (live sm) (all_come r.2) r.3 (r.4 ∙ z.count)))

    -- AN ELEMENT THAT IS NOT THERE
    array_place : (a : Name) → IsIn k a → (need : Need) → In need (entry C i).needs → In (name_as k true a) (code.needed need) → IsSame s wf K (place_at C p (name_as k true a)) (place s (script_path p) a)
    array_place a g need m h = same_array s wf K (name_stands s wf K (backs s K kn) C w.layout I sc ch i there true a need g m h) refl

    lacks_there : (a : Name) (z : IsSame s wf K (place_at C p (name_as k true a)) (place s (script_path p) a)) (key : Key) → HasElement s K (place_at C p (name_as k true a)) key Missing → Lacks s K (place s (script_path p) a) key
    lacks_there a z key h = subst (λ (pl : Place). Lacks s K pl key) (sym z.place_is) (subst (λ (d : CodePlaces.Place). HasElement s K d key Missing) z.is h)

    -- the value of the index, under which there is nothing
    record ReadLacks (a : Name) (ix : ℕ) : Type 0 where
      index : Value
      index_known : K (value (script_path p, ix) index)
      lacks : (key : Key) → IsKey index key → Lacks s K (place s (script_path p) a) key

    lacking : {st : Stmt} {all : List Part} {a : Name} {ix : ℕ} {need : Need} {n : ℕ} → st ∈ block_list b → ((d : Cell) → d ∈ part_cells all → d ∈ cells st) → record { node = n; form = read a ix } ∈ cells st → IndexAs C w.layout k all a ix need
        → In need (entry C i).needs → IsIn k a → Ans s C K p need Missing → ReadLacks a ix
    lacking {st} {all} {a} {ix} {n = n} sm sub cm (at_literal {v = v} im pl) m g h =
        let kv = kn.shut _ (cell_value (live sm) (sub _ im) (computed of_literal)) in
        record { index = One v; index_known = kv; lacks = λ key q. subst (λ (y : Key). Lacks s K (place s (script_path p) a) y) (key_of_is q) (lacks_there a (array_place a g _ m (inl refl)) (key_of v) h) }
    lacking {st} {all} {a} {ix} {n = n} sm sub cm (at_name {x = y} im pl) m g h =
        let scp = sc.statements k b st (chain_scope s C w.layout K wf.names I sc ch) sm in
        let hv = to_script s wf K kn C w.layout (name_stands s wf K (backs s K kn) C w.layout I sc ch i there false y _ (scp.in_cells _ (sub _ im)) m (inr (inl refl))) h.0 h.1 in
        let kv = kn.shut _ (cell_value (live sm) (sub _ im) (computed (of_name hv))) in
        record { index = One h.0; index_known = kv; lacks = λ key q. subst (λ (y : Key). Lacks s K (place s (script_path p) a) y) (key_of_is q) (lacks_there a (array_place a g _ m (inl refl)) (key_of h.0) h.2) }
    lacking {st} {all} {a} {n = n} sm sub cm (at_datum {c = d} im pl) m g h =
        let hv = to_script s wf K kn C w.layout (name_stands s wf K (backs s K kn) C w.layout I sc ch i there false (here d.node) _ (λ i e. absurd (cc (e))) m (inr (inl refl))) h.0 h.1 in
        let kv = cell_has s wf K hv (script_path p) st d (stmt_in s (live sm)) (sub d im) (place_here s (script_path p) d.node) in
        record { index = One h.0; index_known = kv; lacks = λ key q. subst (λ (y : Key). Lacks s K (place s (script_path p) a) y) (key_of_is q) (lacks_there a (array_place a g _ m (inl refl)) (key_of h.0) h.2) }

    read_fails : {at : ℕ} {pr : ℤ} {n m ix at' : ℕ} {a : Action} {y : Name} {all : List Part} {need : Need} {f : EntryFault} → stmt at' m a ∈ block_list b → record { node = n; form = read y ix } ∈ cells (stmt at' m a) → ((d : Cell) → d ∈ part_cells all → d ∈ cells (stmt at' m a))
        → IndexAs C w.layout k all y ix need → IsEntry (entry C i) at pr (need ∷ []) code.Read → at ≡ at' → X ≡ Fails f → IsIt f
    read_fails {n = n} {m = m} {ix = ix} {at' = at'} {a = a} {y = y} {all = all} {need = need} {f = f} sm cm sub ia en e h =
        by (answered C p (entry C i).needs xs) (subst (λ (l : List Need). AnsAll s C K p l (answered C p (entry C i).needs xs)) en.needs_is all_said) (as_act en.act_is h)
      where
        g : IsIn k y
        g = (sc.statements k b (stmt at' m a) (chain_scope s C w.layout K wf.names I sc ch) sm).in_cells _ cm

        need_in : In need (entry C i).needs
        need_in = subst (λ (l : List Need). In need l) (sym en.needs_is) (inl refl)

        no_gives : {v : Scalar} → Compute.Gives v ≡ Fails f → ⊥
        no_gives h = absurd (cc (h))

        lacks_it : Ans s C K p need Missing → IsIt NoElement
        lacks_it an =
            let r = lacking sm sub cm ia need_in g an in
            let z = ty.index_key (script_path p) (stmt at' m a) n ix y r.index (stmt_in s (live sm)) cm r.index_known in
            let l = r.lacks (key_of z.0) z.2 in
            put_at NoElement n (en.at_is ∙ e) (kn.shut _ (cell_fault (live sm) cm (missing r.index_known z.2 l.closed l.none)))

        by : (zs : List Got) → AnsAll s C K p (need ∷ []) zs → Compute.read (answer_at zs 0) ≡ Fails f → IsIt f
        by [] al q = absurd al
        by (Found v ∷ zs) al q = absurd (no_gives q)
        by (Missing ∷ zs) al q = subst IsIt (fails_same q) (lacks_it al.0)
        by (Content us ∷ zs) al q = absurd (no_gives q)

    -- A PATH THAT WOULD BE TOO LONG
    record Deep : Type 0 where
      at_limit : length (script_path p) ≡ max_path_steps
      steps : steps_on (entry C i).act ≡ true
      instance : ℕ × List Step
      opens : In instance (instances (entry C i).act (entry C i).offset p c X)

    deep_here : is_too_deep (entry C i).act p (instances (entry C i).act (entry C i).offset p c X) ≡ true → Deep
    deep_here h =
        let a = and_parts (nat_le max_path_steps (length p)) _ h in
        let d = and_parts (steps_on (entry C i).act) _ a.1 in
        let q = member (instances (entry C i).act (entry C i).offset p c X) d.1 in
        let le = at_least (length p) a.0 in
        let b' = chain_bound ch in
        let e = path_length p in
        record { at_limit = omega arith; steps = d.0; instance = q.0; opens = q.1 }

    deep_header : {at n : ℕ} {a : Action} {vs : List Value} {key : Key} {d : Block} → Deep → stmt at n a ∈ block_list b → (entry C i).at ≡ at → Ready s K (script_path p) a vs → Opens a vs key d → IsIt TooDeep
    deep_header {n = n} z sm e r o = put_at TooDeep n e (kn.shut _ (too_deep_header (live sm) (inr r) o z.at_limit))

    opens_as : (z : Deep) {a : Act} → (entry C i).act ≡ a → In z.instance (instances a (entry C i).offset p c (Compute.compute a ys))
    opens_as z e = subst (λ (y : Act). In z.instance (instances y (entry C i).offset p c (Compute.compute y ys))) e z.opens

    no_steps : {a : Act} → Deep → (entry C i).act ≡ a → steps_on a ≡ false → IsIt TooDeep
    no_steps z e q = absurd (no_both (sym (sym (ap steps_on e) ∙ z.steps) ∙ q))
      where
        no_both : true ≡ false → ⊥
        no_both h = absurd (cc (h))

    truth_as : {v : Value} {d : Bool} (e : Bool) → v ≡ One (Truth d) → truth_of v ≡ e → v ≡ One (Truth e)
    truth_as e q h = (let z = sym (ap truth_of q) ∙ h in q ∙ ap (λ (x : Bool). One (Truth x)) z)

    own_deep : (st : Stmt) → st ∈ block_list b → OwnAs C w.layout k st i → Deep → IsIt TooDeep
    own_deep st m (own_simple {a = a} z en nd) d = absurd (subst (λ (l : List (ℕ × List Step)). In d.instance l) (simple_opens_none w.layout k c (entry C i).offset p ys a z) (opens_as d en.act_is))
    own_deep st m (own_branch {at = at} {n = n} {t = t'} {c = o} {b = d} en mk ba) z =
        let ms = own_needs w.layout k (when o d) in
        let r = branch_of c (eval ys (over k ms (seen w.layout o.cell))) t' None (entry C i).offset p z.instance (opens_as z en.act_is) in
        let kv = seen_is o.cell m (outer_in o.parts o.cell) ms en.needs_is (λ x j. in_once x _ (in_left x _ [] j)) r.is in
        let tr = ty.when_truth (script_path p) at n o d r.condition (stmt_in s (live m)) kv in
        elim r.taken [
          | inl h ↦ deep_header z m en.at_is (cells_known (next_cell (subst (λ (v : Value). K (value (script_path p, o.cell.node) v)) (truth_as true tr.1 h.0) kv) no_cell) one_way) then_alone
          | inr h ↦ absurd (none_some h.1.1)
        ]
    own_deep st m (own_branches {at = at} {n = n} {t = t'} {u = u'} {c = o} {b = d} {d = d'} en mk ba bb) z =
        let ms = own_needs w.layout k (choose o d d') in
        let r = branch_of c (eval ys (over k ms (seen w.layout o.cell))) t' (Some u') (entry C i).offset p z.instance (opens_as z en.act_is) in
        let kv = seen_is o.cell m (outer_in o.parts o.cell) ms en.needs_is (λ x j. in_once x _ (in_left x _ [] j)) r.is in
        let tr = ty.choose_truth (script_path p) at n o d d' r.condition (stmt_in s (live m)) kv in
        elim r.taken [
          | inl h ↦ deep_header z m en.at_is (cells_known (next_cell (subst (λ (v : Value). K (value (script_path p, o.cell.node) v)) (truth_as true tr.1 h.0) kv) no_cell) two_ways) then_first
          | inr h ↦ deep_header z m en.at_is (cells_known (next_cell (subst (λ (v : Value). K (value (script_path p, o.cell.node) v)) (truth_as false tr.1 h.0) kv) no_cell) two_ways) else_second
        ]
    own_deep st m (own_range {at = at} {n = n} {t = t'} {x = x} {lo = lo} {hi = hi} {st = so} {y = y} {b = d} en mk ba) z =
        let ms = own_needs w.layout k (range lo hi so x y d) in
        let rl = eval ys (over k ms (seen w.layout lo.cell)) in
        let rh = eval ys (over k ms (seen w.layout hi.cell)) in
        let rs = eval ys (over k ms (step_expr w.layout k so)) in
        let u = in_unmap (λ (v : Key × Scalar). (t', step_at (entry C i).offset v.0 p)) z.instance (Eff.chunk c (turns_of (ranged rl rh rs))) (opens_as z en.act_is) in
        let r = ranged_of rl rh rs u.0 (in_chunk c (turns_of (ranged rl rh rs)) u.0 u.1) in
        let kb = bounds_known so m ms refl en.needs_is r.low r.high r.step r.low_is r.high_is r.step_is in
        deep_header z m en.at_is (cells_known kb.2 (in_turns kb.3 (kb.4 ∙ r.count))) (turn kb.3 (kb.4 ∙ r.count) r.below)
    own_deep st m (own_each {at = at} {n = n} {t = t'} {x = x} {a = a} {y = y} {b = d} en mk ba) z =
        by (answered C p (entry C i).needs xs) (subst (λ (l : List Need). AnsAll s C K p l (answered C p (entry C i).needs xs)) en.needs_is all_said)
        (let u = in_unmap (λ (v : Key × Scalar). (t', step_at (entry C i).offset v.0 p)) z.instance (Eff.chunk c (content (answer_at ys 0))) (opens_as z en.act_is) in (u.0, in_chunk c (content (answer_at ys 0)) u.0 u.1))
      where
        g : IsIn k a
        g = sc.loops k b at n x a y d (chain_scope s C w.layout K wf.names I sc ch) m

        by : (zs : List Got) → AnsAll s C K p (code.Closed (name_as k true a) ∷ []) zs → (u : Key × Scalar) × In u (content (answer_at zs 0)) → IsIt TooDeep
        by [] al u = absurd al
        by (v ∷ zs) al u =
            let r = says.array a g (subst (λ (l : List Need). In (code.Closed (name_as k true a)) l) (sym en.needs_is) (inl refl)) v al.0 in
            let j : In u.0 r.0 = listed_in r.0 u.0 (subst (λ (o : Option Got). In u.0 (content o)) (ap Some r.1) u.1) in
            deep_header z m en.at_is (source_closed {x = x} {t = y} {b = d} r.2 r.3) (item (element_in r.0 u.0.0 u.0.1 j))
    own_deep st m (own_wait wa en) d = no_steps d en.act_is refl

    part_deep : (st : Stmt) → st ∈ block_list b → PartOf C w.layout k st i → Deep → IsIt TooDeep
    part_deep st m po d = by po.as_part po.there po.in_stmt
      where
        by : {y : Part} {js : List ℕ} → PartAs C w.layout k po.all po.at po.priority y js → In i js → y ∈ parts_of st → IsIt TooDeep
        by (plain_literal z) j v = absurd j
        by (plain_name z) j v = absurd j
        by (a_cell {j = j'} z nd en) j v = no_steps d (ap (λ (u : ℕ). (entry C u).act) (in_one i j' j) ∙ en.act_is) refl
        by (a_read {j = j'} z nd ix en) j v = no_steps d (ap (λ (u : ℕ). (entry C u).act) (in_one i j' j) ∙ en.act_is) refl
        by (a_call {c = x} {j = j'} ca) j v =
            put_at TooDeep (stmt_node st) (ap (λ (u : ℕ). (entry C u).at) (in_one i j' j) ∙ ca.is.at_is ∙ po.at_is) (kn.shut _ (too_deep_call (live m) (call_of st x v) d.at_limit))

    -- ITS OWN FAULT
    not_read : {a : Act} {f : EntryFault} → (entry C i).act ≡ a → (a ≡ code.Read → ⊥) → ((g : OpFault) → X ≡ Fails (InOperation g) → IsIt (InOperation g)) → X ≡ Fails f → IsIt f
    not_read {f = InOperation g} e n by h = by g h
    not_read {a = a} {f = NoElement} e n by h = absurd (subst OpOnly (as_act e h) (op_only a ys n))
    not_read {a = a} {f = TooDeep} e n by h = absurd (subst OpOnly (as_act e h) (op_only a ys n))

    fill_no_read : (ms : List Need) (x : Name) (e : Expr) → fill_act w.layout k ms x e ≡ code.Read → ⊥
    fill_no_read ms x (Co.whole z) h = absurd (cc (h))
    fill_no_read ms x (Co.literal z) h = absurd (cc (h))
    fill_no_read ms x (Co.name z) h = absurd (cc (h))
    fill_no_read ms x (Co.operator z es) h = absurd (cc (h))

    simple_fails : {at n : ℕ} {f : EntryFault} (a : Action) → stmt at n a ∈ block_list b → IsSimple a → IsEntry (entry C i) at (own_priority a) (own_needs w.layout k a) (simple_act w.layout k (own_needs w.layout k a) a) → X ≡ Fails f → IsIt f
    simple_fails (Co.assign x o) m z en h = not_read en.act_is (λ e. absurd (cc (e))) (λ g h. assign_fails s C w K wf kn I sc ch i c there xs read_all o m en h) h
    simple_fails (fill x o) m z en h = not_read en.act_is (λ e. fill_no_read _ x (own_expr o) e) (λ g h. fill_fails o m en h) h
    simple_fails (insert y x o) m z en h = not_read en.act_is (λ e. absurd (cc (e))) (λ g h. insert_fails s C w K wf kn I sc ch i c there xs read_all x o m en h) h
    simple_fails (Co.print q o) m z en h = not_read en.act_is (λ e. absurd (cc (e))) (λ g h. print_fails s C w K wf kn I sc ch i c there xs read_all o m en h) h
    simple_fails (Co.assert q o) m z en h = not_read en.act_is (λ e. absurd (cc (e))) (λ g h. assert_fails s C w K wf kn I sc ch i c there xs read_all o m en h) h
    simple_fails (Co.declare v) m z en h = absurd z
    simple_fails (Co.call_alone u v o) m z en h = absurd z
    simple_fails (when u v) m z en h = absurd z
    simple_fails (choose u v o) m z en h = absurd z
    simple_fails (range u v o d l y) m z en h = absurd z
    simple_fails (each u v o d) m z en h = absurd z
    simple_fails (wait u v) m z en h = absurd z

    own_failed : {f : EntryFault} (st : Stmt) → st ∈ block_list b → OwnAs C w.layout k st i → X ≡ Fails f → IsIt f
    own_failed st m (own_simple {a = a} z en nd) h = simple_fails a m z en h
    own_failed st m (own_branch en mk ba) h = not_read en.act_is (λ e. absurd (cc (e))) (λ g h. when_fails s C w K wf kn I sc ch i c there xs read_all m en h) h
    own_failed st m (own_branches en mk ba bb) h = not_read en.act_is (λ e. absurd (cc (e))) (λ g h. choose_fails s C w K wf kn I sc ch i c there xs read_all m en h) h
    own_failed st m (own_range {st = so} en mk ba) h = not_read en.act_is (λ e. absurd (cc (e))) (λ g h. range_fails so m _ refl en h) h
    own_failed st m (own_each en mk ba) h = absurd (no_turns (as_act en.act_is h))
    own_failed st m (own_wait wa en) h = absurd (no_opens (as_act en.act_is h))

    part_failed : {f : EntryFault} (st : Stmt) → st ∈ block_list b → PartOf C w.layout k st i → X ≡ Fails f → IsIt f
    part_failed {f} (stmt at n a) m po h = by po.as_part po.there po.in_stmt
      where
        at_of : {j : ℕ} {ns : List Need} {act : Act} → i ≡ j → IsEntry (entry C j) po.at po.priority ns act → IsEntry (entry C i) po.at po.priority ns act
        at_of {ns = ns} {act = act} e en = subst (λ (z : ℕ). IsEntry (entry C z) po.at po.priority ns act) (sym e) en

        by : {y : Part} {js : List ℕ} → PartAs C w.layout k po.all po.at po.priority y js → In i js → y ∈ parts_of (stmt at n a) → IsIt f
        by (plain_literal z) j v = absurd j
        by (plain_name z) j v = absurd j
        by (a_cell {j = j'} {e = e} z nd en) j v =
            let en' = at_of (in_one i j' j) en in
            not_read en'.act_is (λ e. absurd (cc (e))) (λ g h. cell_fails s C w K wf kn I sc ch i c there xs read_all e m (cell_among (parts_of (stmt at n a)) v) en' po.at_is h) h
        by (a_read {j = j'} z nd ix en) j v = read_fails m (cell_among (parts_of (stmt at n a)) v) po.cells_in ix (at_of (in_one i j' j) en) po.at_is h
        by (a_call {j = j'} ca) j v = absurd (no_opens (as_act (ap (λ (u : ℕ). (entry C u).act) (in_one i j' j) ∙ ca.is.act_is) h))

    -- whatever is wrong
    wrong : {f : EntryFault} → (code_system C).effect (Item i p c) xs ≡ Bad f → IsIt f
    wrong {f} q = by_body (chain_body s C w.layout K wf.names I sc ch)
      where
        by_role : RoleIn C w.layout k b i → IsIt f
        by_role r =
            elim (bad_outcome X (is_too_deep (entry C i).act p (instances (entry C i).act (entry C i).offset p c X)) (effect_at C i p c X) f q) [
              | inl h ↦ elim r.role [ inl po ↦ part_failed r.st r.there po h | inr ow ↦ own_failed r.st r.there ow h ]
              | inr h ↦ subst IsIt (sym h.1) (elim r.role [ inl po ↦ part_deep r.st r.there po (deep_here h.0) | inr ow ↦ own_deep r.st r.there ow (deep_here h.0) ])
            ]

        by_body : BodyAs C w.layout k b t → IsIt f
        by_body (body_as bl mk) = by_role (find_role C w.layout bl there)

  -- FAULTS OF THE CODE ARE THE SCRIPT'S
  pub faults_to : IsRight (code_system C) (Answers s K) → FaultsTo s C K
  faults_to right i c p f cm = elim (live_to s C w K wf kn I sc ty r.0) [ inl q ↦ absurd (cc (q)) | inr a ↦ item_case a ]
    where
      r : Live (code_system C) (Reading (code_system C) (Answers s K)) (Item i p c) × ((xs : List Got) × ReadAll (code_system C) (Answers s K) ((code_system C).inputs (Item i p c)) xs × ((code_system C).effect (Item i p c) xs ≡ Bad f))
      r = fault_read (code_system C) (code_laws C I) (Answers s K) right cm

      parts_same : {i j c d : ℕ} {p q : List Step} → Item i p c ≡ Item j q d → (i ≡ j) × (p ≡ q)
      parts_same h = (cc (h), cc (h))

      item_case : ItemLive s C w K wf kn I sc ty (Item i p c) → Faults K (script_fault (OfTask f)) (entry C i).at (script_path p)
      item_case a =
          let e = parts_same a.is in
          let z = wrong a.chain a.number a.chunk a.there r.1.0 (subst (λ (u : Task). ReadAll (code_system C) (Answers s K) ((code_system C).inputs u) r.1.0) (sym a.is) r.1.1) (ap (λ (u : Task). (code_system C).effect u r.1.0) a.is ∙ r.1.2) in
          subst (λ (u : ℕ). Faults K (script_fault (OfTask f)) (entry C u).at (script_path p)) e.0 (subst (λ (u : List Step). Faults K (script_fault (OfTask f)) (entry C a.number).at (script_path u)) e.1 z)
