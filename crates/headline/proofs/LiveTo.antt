-- What is live in the code, by the script's answers, is live in the script.
use Rattle.std.proofs.Common.{◌≡◌, ◌⊎◌, inl, inr, ℕ, zero, suc, ◌<◌, ◌+◌, arith, Bool, true, false, List, [], ◌∷◌, ◌++◌, map, length, refl, sym, ap, ◌∙◌, subst, Option, Some, None, Result, Ok, Err}
use Rattle.std.specs.Prelude.{pos, ℤ, if◌then◌else◌}
use Rattle.std.specs.List.{flat_map}
use Rattle.dataflow.specs.System.{In, Effect, Outcome, Good}
use Rattle.dataflow.specs.Facts.{Live, live_main, live_opened}
use Rattle.dataflow.specs.Laws.{Can}
use Rattle.dataflow.proofs.Lists.{in_left, in_right, in_unmap}
use Rattle.values.specs.declared.fault.OpFault.{OpFault}
use Rattle.values.specs.declared.key.Key.{Key}
use Rattle.values.specs.declared.value.Scalar.{Scalar}
use Rattle.values.specs.declared.value.Scalar.TheVariants.{Number, Text, Truth}
use Rattle.values.specs.declared.value.Value.{Value}
use Rattle.values.specs.declared.value.Value.TheVariants.{One, Many}
use Rattle.values.specs.Values.{truth_of, number_of}
use Rattle.values.specs.Ranges.{range_count}
use Rattle.language.specs.Core as Co
use Rattle.language.specs.Core.{Name, Expr, Cell, Call, Outer, Awaited, Stmt, stmt, Action, when, choose, range, each, wait, Block, Function, Core}
use Rattle.language.specs.Facts.{value, Knowledge, no_cell, next_cell}
use Rattle.language.specs.Meaning as Mn
use Rattle.language.specs.Meaning.{ValueUnder, LiveStmt, in_block, Ready, cells_known, source_closed, names_known, Come, scalar_known, array_closed}
use Rattle.language.specs.Members.{◌∈◌, first, later}
use Rattle.language.specs.Openings.{Bounds, bounds, in_turns, turn, one_way, two_ways, then_alone, then_first, else_second, item}
use Rattle.language.specs.Parts.{parts, outers, outer_parts, part_cells, cells, stmt_calls, block_list}
use Rattle.language.specs.Places.{max_path_steps}
use Rattle.language.specs.WellFormed.{WellFormed}
use Rattle.language_laws.proofs.Declared.{stmt_in}
use Rattle.language.proofs.Members.{to_right}
use Rattle.language_laws.proofs.Sources.{outer_in}
use Rattle.task_code.specs.Code as code
use Rattle.task_code.specs.Code.{Need, Stored, Header, Act, If, Wait, Way, Code, Through, InPlace, Calling, entry, body, ways}
use Rattle.task_code.specs.Compute.{EntryFault, Computed, Takes, compute, branched, ranged, range_turns, turns_or, content, listed, answer_at, in_key_order, eval}
use Rattle.task_code.specs.Effects.{Task, Main, Item, block, instances, branch_instances, turn_instances, turns_of, chunk, at_first, step_at, is_too_deep, steps_on}
use Rattle.task_code.specs.Places.{Step}
use Rattle.task_code.specs.Places as CodePlaces
use Rattle.task_code.specs.System.{answered, code_system}
use Rattle.task_code.specs.Whole.{IsCode}
use Rattle.task_code.proofs.Chunks.{in_chunk}
use Rattle.task_code.proofs.Kept.{code_laws}
use Rattle.task_code.proofs.Opens.{OpensBlock, opened, in_rest, found}
use Rattle.task_code.proofs.Opens as Op
use Rattle.headline.specs.Headline.{script_path}
use Rattle.headline.specs.Answered.{Reading}
use Rattle.headline.specs.Knows.{Knows}
use Rattle.headline.specs.Chains.{Answers, Chain, at_script, by_header, by_wait, by_call, Waited, one_ready, more_ready}
use Rattle.code_rules.specs.CodeNames.{name_as, wanted, over, each_once, awaited_need}
use Rattle.language_laws.specs.Scoped.{IsIn, AreIn, AwaitedIn, InScope, in_wait, Scoped}
use Rattle.code_rules.specs.IsCodeOf.{Layout, seen, own_needs, own_exprs, own_expr, fill_act, simple_act, IsSimple, step_expr, IsEntry, CallAs, PartAs, plain_literal, plain_name, a_cell, a_read, a_call, WaitAs, one_wait, merged, BodyAs, body_as, IsCodeOf}
use Rattle.language_laws.specs.TypedValues.{TypedValues}
use Rattle.headline.proofs.Backing.{backs}
use Rattle.headline.proofs.Evaluate.{Got, AnsAll, answers_of, SaysScript, computes, in_once, answer_in, a_scalar, an_array}
use Rattle.headline.proofs.Means.{chain_live, chain_body, chain_scope}
use Rattle.headline.proofs.Opening.{depth_below, arrays_are_data, seen_known, seen_scoped, shallow}
use Rattle.headline.proofs.Readings.{says_script, element_in}
use Rattle.headline.proofs.Roles.{parts_of, PartOf, OwnAs, own_simple, own_branch, own_branches, own_range, own_each, own_wait, RoleIn, find_role, cell_among, call_among}
use Rattle.headline.proofs.Transfer.{reading_valid}

-- a condition that opens a block
pub record Branched (r : Result Value OpFault) (t : ℕ) (d : Option ℕ) (offset : ℕ) (p : List Step) (s : ℕ × List Step) : Type 0 where
  pub condition : Value
  pub is : r ≡ Ok condition
  pub taken : ((truth_of condition ≡ true) × (s ≡ (t, step_at offset (Key.Number (pos 0)) p))) ⊎ ((truth_of condition ≡ false) × ((u : ℕ) × (d ≡ Some u) × (s ≡ (u, step_at offset (Key.Number (pos 1)) p))))

pub in_one : {X : Type 0} (x y : X) → In x (y ∷ []) → x ≡ y
in_one x y (inl e) = e
in_one x y (inr z) = absurd z

pub branch_of : (c : ℕ) (r : Result Value OpFault) (t : ℕ) (d : Option ℕ) (offset : ℕ) (p : List Step) (s : ℕ × List Step) → In s (at_first c (branch_instances (branched r) t d offset p)) → Branched r t d offset p s
branch_of (suc c) r t d offset p s h = absurd h
branch_of zero (Err f) t d offset p s h = absurd h
branch_of zero (Ok v) t d offset p s h = by (truth_of v) refl d h
  where
    by : (b : Bool) → truth_of v ≡ b → (d : Option ℕ) → In s (branch_instances (Takes b) t d offset p) → Branched (Ok v) t d offset p s
    by true q d h = record { condition = v; is = refl; taken = inl (q, in_one s _ h) }
    by false q None h = absurd h
    by false q (Some u) h = record { condition = v; is = refl; taken = inr (q, (u, refl, in_one s _ h)) }

pub first_one : {X : Type 0} (c : ℕ) (x y : X) → In x (at_first c (y ∷ [])) → x ≡ y
first_one zero x y h = in_one x y h
first_one (suc c) x y h = absurd h

pub listed_in : (xs : List (Key × Scalar)) (y : Key × Scalar) → In y (listed xs) → In y xs
listed_in xs y h = by (in_key_order xs) h
  where
    by : (d : Bool) → In y (if d then xs else []) → In y xs
    by true h = h
    by false h = absurd h

-- a turn of a range
pub record Ranged (rl rh rs : Result Value OpFault) (y : Key × Scalar) : Type 0 where
  pub low : Value
  pub high : Value
  pub step : Value
  pub low_is : rl ≡ Ok low
  pub high_is : rh ≡ Ok high
  pub step_is : rs ≡ Ok step
  pub many : ℕ
  pub count : range_count (number_of low) (number_of high) (number_of step) ≡ Ok many
  pub place : ℕ
  pub below : place < many
  pub key_is : y.0 ≡ Key.Number (pos place)

pub turn_in : (low step : ℤ) (m n : ℕ) (y : Key × Scalar) → In y (range_turns low step m n) → (j : ℕ) × (j < m + n) × (y.0 ≡ Key.Number (pos j))
turn_in low step m zero y h = absurd h
turn_in low step m (suc n) y (inl e) = (m, omega arith, ap (λ (z : Key × Scalar). z.0) e)
turn_in low step m (suc n) y (inr h) = let r = turn_in low step (suc m) n y h in (r.0, (let z = r.1 in omega arith), r.2)

pub ranged_of : (rl rh rs : Result Value OpFault) (y : Key × Scalar) → In y (turns_of (ranged rl rh rs)) → Ranged rl rh rs y
ranged_of (Err f) rh rs y h = absurd h
ranged_of (Ok l) (Err f) rs y h = absurd h
ranged_of (Ok l) (Ok g) (Err f) y h = absurd h
ranged_of (Ok l) (Ok g) (Ok st) y h = by (range_count (number_of l) (number_of g) (number_of st)) refl h
  where
    by : (c : Result ℕ OpFault) → range_count (number_of l) (number_of g) (number_of st) ≡ c → In y (turns_of (turns_or c (number_of l) (number_of st))) → Ranged (Ok l) (Ok g) (Ok st) y
    by (Err f) q h = absurd h
    by (Ok n) q h =
        let r = turn_in (number_of l) (number_of st) 0 n y h in
        record { low = l; high = g; step = st; low_is = refl; high_is = refl; step_is = refl; many = n; count = q; place = r.0; below = (let z = r.1 in omega arith); key_is = r.2 }

pub ok_step : {v u : Value} → ◌≡◌ {A = Result Value OpFault} (Ok v) (Ok u) → u ≡ v
ok_step h = cc

some_bounds : {x y : Bounds} → Some x ≡ Some y → x ≡ y
some_bounds h = cc

pub bounds_two : (l h : Value) (r : Bounds) → bounds (l ∷ h ∷ []) ≡ Some r → (number_of l ≡ r.low) × (number_of h ≡ r.high) × (r.step ≡ pos 1)
bounds_two (One (Number a)) (One (Number b)) r e = let q = some_bounds e in (ap (λ (z : Bounds). z.low) q, ap (λ (z : Bounds). z.high) q, sym (ap (λ (z : Bounds). z.step) q))
bounds_two (One (Number a)) (One (Text b)) r e = absurd (cc (e))
bounds_two (One (Number a)) (One (Truth b)) r e = absurd (cc (e))
bounds_two (One (Number a)) (Many b) r e = absurd (cc (e))
bounds_two (One (Text a)) h r e = absurd (cc (e))
bounds_two (One (Truth a)) h r e = absurd (cc (e))
bounds_two (Many a) h r e = absurd (cc (e))

pub bounds_three : (l h d : Value) (r : Bounds) → bounds (l ∷ h ∷ d ∷ []) ≡ Some r → (number_of l ≡ r.low) × (number_of h ≡ r.high) × (number_of d ≡ r.step)
bounds_three (One (Number a)) (One (Number b)) (One (Number d)) r e = let q = some_bounds e in (ap (λ (z : Bounds). z.low) q, ap (λ (z : Bounds). z.high) q, ap (λ (z : Bounds). z.step) q)
bounds_three (One (Number a)) (One (Number b)) (One (Text d)) r e = absurd (cc (e))
bounds_three (One (Number a)) (One (Number b)) (One (Truth d)) r e = absurd (cc (e))
bounds_three (One (Number a)) (One (Number b)) (Many d) r e = absurd (cc (e))
bounds_three (One (Number a)) (One (Text b)) d r e = absurd (cc (e))
bounds_three (One (Number a)) (One (Truth b)) d r e = absurd (cc (e))
bounds_three (One (Number a)) (Many b) d r e = absurd (cc (e))
bounds_three (One (Text a)) h d r e = absurd (cc (e))
bounds_three (One (Truth a)) h d r e = absurd (cc (e))
bounds_three (Many a) h d r e = absurd (cc (e))

pub outer_among : (os : List Outer) (o : Outer) → o ∈ os → Co.inner o.cell ∈ outer_parts os
outer_among [] o h = elim h [ ]
outer_among (x ∷ os) o first = to_right o.parts _ first
outer_among (x ∷ os) o (later h) = to_right x.parts _ (later (outer_among os o h))

pub call_of : (st : Stmt) (x : Call) → Co.calls x ∈ parts_of st → x ∈ stmt_calls st
call_of (stmt at n a) x h = call_among (parts a) h

pub simple_opens_none : (l : Layout) (k c offset : ℕ) (p : List Step) (ys : List Got) (a : Action) → IsSimple a → instances (simple_act l k (own_needs l k a) a) offset p c (compute (simple_act l k (own_needs l k a) a) ys) ≡ []
simple_opens_none l k c offset p ys (Co.assign x o) z = refl
simple_opens_none l k c offset p ys (Co.fill x o) z = by (own_expr o)
  where
    by : (e : Expr) → instances (fill_act l k (own_needs l k (Co.fill x o)) x e) offset p c (compute (fill_act l k (own_needs l k (Co.fill x o)) x e) ys) ≡ []
    by (Co.whole y) = refl
    by (Co.literal y) = refl
    by (Co.name y) = refl
    by (Co.operator y es) = refl
simple_opens_none l k c offset p ys (Co.insert x i o) z = refl
simple_opens_none l k c offset p ys (Co.print x o) z = refl
simple_opens_none l k c offset p ys (Co.assert x o) z = refl
simple_opens_none l k c offset p ys (Co.declare v) z = absurd z
simple_opens_none l k c offset p ys (Co.call_alone x y o) z = absurd z
simple_opens_none l k c offset p ys (when o d) z = absurd z
simple_opens_none l k c offset p ys (choose o d e) z = absurd z
simple_opens_none l k c offset p ys (range o d e f g h) z = absurd z
simple_opens_none l k c offset p ys (each o d e f) z = absurd z
simple_opens_none l k c offset p ys (wait o d) z = absurd z

pub good_in : {x y : Effect Task CodePlaces.Place Key Scalar} → ◌≡◌ {A = Outcome Task CodePlaces.Place Key Scalar EntryFault} (Good x) (Good y) → x ≡ y
good_in h = cc

module _ (s : Core) (C : Code) (w : IsCodeOf s C) (K : Knowledge) (wf : WellFormed s) (kn : Knows s K) (I : IsCode C) (sc : Scoped s) (ty : TypedValues s K) where
  abbrev L : Layout
  L = w.layout

  abbrev pub Fact : Task → Effect Task CodePlaces.Place Key Scalar → Type 0
  Fact t e = Reading (code_system C) (Answers s K) t e

  -- a block that an item opens, with the script's live block
  pub record OpenedBlock (q : ℕ × List Step) : Type 0 where
    pub inputs : ℕ
    pub inner_block : Block
    pub chain : Chain s C w.layout K q.1 q.0 inputs inner_block

  module _ {p : List Step} {t k : ℕ} {b : Block} (ch : Chain s C w.layout K p t k b) (i c : ℕ) (there : In i (body C t).entries) (e : Effect Task CodePlaces.Place Key Scalar) (f : Fact (Item i p c) e) where
    abbrev ns : List Need
    ns = (entry C i).needs

    abbrev ys : List Got
    ys = answered C p (entry C i).needs f.answers

    pub answers_all : AnsAll s C K p (entry C i).needs (answered C p (entry C i).needs f.answers)
    answers_all = answers_of s C K p (entry C i).needs (arrays_are_data s C w.layout K I ch i there) f.answers f.read

    pub says : SaysScript s C K p k (entry C i).needs
    says = says_script s wf K (backs s K kn) C w.layout I sc ch i there kn

    -- what the entry computes of an expression that it waits for, the script has
    pub value_of : (x : Expr) → AreIn k x → (ms : List Need) → (entry C i).needs ≡ ms → ((n : Need) → In n (wanted k x) → In n ms) → ValueUnder s K (script_path p) x (eval (answered C p (entry C i).needs f.answers) (over k ms x))
    value_of x g ms q h =
        subst (λ (l : List Need). ValueUnder s K (script_path p) x (eval (answered C p (entry C i).needs f.answers) (over k l x))) q
        (computes s C K p k (entry C i).needs (answered C p (entry C i).needs f.answers) answers_all says x g (λ n m. subst (λ (l : List Need). In n l) (sym q) (h n m)))

    pub not_deep : is_too_deep (entry C i).act p (instances (entry C i).act (entry C i).offset p c (compute (entry C i).act (answered C p (entry C i).needs f.answers))) ≡ false
    not_deep = shallow _ _ _ _ f.is

    pub depth : (q : ℕ × List Step) → steps_on (entry C i).act ≡ true → In q (instances (entry C i).act (entry C i).offset p c (compute (entry C i).act (answered C p (entry C i).needs f.answers))) → length (script_path p) < max_path_steps
    depth q st h = depth_below (entry C i).act p q _ st h not_deep

    abbrev Opened : ℕ × List Step → Type 0
    Opened q = In q (instances (entry C i).act (entry C i).offset p c (compute (entry C i).act (answered C p (entry C i).needs f.answers)))

    -- CALLS
    call_opened : (q : ℕ × List Step) → Opened q → (st : Stmt) → st ∈ block_list b → (x : Call) → x ∈ stmt_calls st → {all : List Co.Part} {at : ℕ} {pr : ℤ} → CallAs C w.layout k all at pr x i → ((d : Cell) → d ∈ part_cells all → d ∈ cells st) → OpenedBlock q
    call_opened q h st m x n ca cs =
        let g = sc.calls st x (stmt_in s (in_block (chain_live s C w.layout K wf.names I sc ch) m)) n in
        let h' = subst (λ (a : Act). In q (instances a (entry C i).offset p c (compute a (answered C p (entry C i).needs f.answers)))) ca.is.act_is h in
        let q' : (w.layout.body_of x.function, step_at x.at (Key.Number (pos 0)) p) ≡ q =
        ap (λ (z : ℕ). (w.layout.body_of x.function, step_at z (Key.Number (pos 0)) p)) (sym ca.offset_is) ∙ sym (first_one c q _ h') in
        subst OpenedBlock q' (record {
          inputs = g.0.inputs;
          inner_block = g.0.body;
          chain = by_call i ch m n there ca cs g.1 g.2 (w.functions x.function g.0 g.1) (depth q (ap steps_on ca.is.act_is) h);
        })

    -- BRANCHES
    pub condition_known : (at n : ℕ) (a : Action) (o : Outer) → stmt at n a ∈ block_list b → o.cell ∈ cells (stmt at n a) → (entry C i).needs ≡ each_once (wanted k (seen w.layout o.cell) ++ []) → (v : Value)
        → eval (answered C p (entry C i).needs f.answers) (over k (each_once (wanted k (seen w.layout o.cell) ++ [])) (seen w.layout o.cell)) ≡ Ok v → Mn.LiveStmt s K (script_path p) (stmt at n a) × K (value (script_path p, o.cell.node) v)
    condition_known at n a o m cm q v ev =
        let lv = in_block (chain_live s C w.layout K wf.names I sc ch) m in
        let g = (sc.statements k b (stmt at n a) (chain_scope s C w.layout K wf.names I sc ch) m).in_cells o.cell cm in
        let u = value_of (seen w.layout o.cell) (seen_scoped k w.layout o.cell g) (each_once (wanted k (seen w.layout o.cell) ++ [])) q (λ x j. in_once x _ (in_left x (wanted k (seen w.layout o.cell)) [] j)) in
        (lv, seen_known s wf K kn w.layout o.cell lv cm (subst (λ (r : Result Value OpFault). ValueUnder s K (script_path p) (seen w.layout o.cell) r) ev u))

    pub truth_is : (v : Value) (d : Bool) → v ≡ One (Truth d) → (e : Bool) → truth_of v ≡ e → v ≡ One (Truth e)
    truth_is v d q e h = let z : d ≡ e = sym (ap truth_of q) ∙ h in q ∙ ap (λ (x : Bool). One (Truth x)) z

    moved_to : {at u : ℕ} {key : Key} {kk : ℕ} {bb : Block} (q : ℕ × List Step) → (entry C i).offset ≡ at → q ≡ (u, step_at (entry C i).offset key p) → Chain s C w.layout K (step_at at key p) u kk bb → OpenedBlock q
    moved_to {at} {u} {key} {kk} {bb} q mk e h =
        let e' : (u, step_at at key p) ≡ q = ap (λ (z : ℕ). (u, step_at z key p)) (sym mk) ∙ sym e in
        subst OpenedBlock e' (record { inputs = kk; inner_block = bb; chain = h })

    when_opened : (q : ℕ × List Step) → Opened q → {at n t' : ℕ} {o : Outer} {d : Block} → stmt at n (when o d) ∈ block_list b
        → IsEntry (entry C i) at (pos 0) (own_needs w.layout k (when o d)) (If (over k (own_needs w.layout k (when o d)) (seen w.layout o.cell)) t' None) → (entry C i).offset ≡ at → BodyAs C w.layout k d t' → OpenedBlock q
    when_opened q h {at} {n} {t'} {o} {d} m en mk ba =
        by r.taken
      where
        E : code.Expr
        E = over k (own_needs w.layout k (when o d)) (seen w.layout o.cell)

        r : Branched (eval (answered C p (entry C i).needs f.answers) (over k (own_needs w.layout k (when o d)) (seen w.layout o.cell))) t' None (entry C i).offset p q
        r = branch_of c _ t' None (entry C i).offset p q (subst (λ (a : Act). In q (instances a (entry C i).offset p c (compute a (answered C p (entry C i).needs f.answers)))) en.act_is h)

        z : Mn.LiveStmt s K (script_path p) (stmt at n (when o d)) × K (value (script_path p, o.cell.node) r.condition)
        z = condition_known at n (when o d) o m (outer_in o.parts o.cell) en.needs_is r.condition r.is

        ty' : (x : Bool) × (r.condition ≡ One (Truth x))
        ty' = ty.when_truth (script_path p) at n o d r.condition (stmt_in s z.0) z.1

        by : ((truth_of r.condition ≡ true) × (q ≡ (t', step_at (entry C i).offset (Key.Number (pos 0)) p))) ⊎ ((truth_of r.condition ≡ false) × ((u : ℕ) × (None ≡ Some u) × (q ≡ (u, step_at (entry C i).offset (Key.Number (pos 1)) p)))) → OpenedBlock q
        by (inl g) =
            let kv : K (value (script_path p, o.cell.node) (One (Truth true))) = subst (λ (v : Value). K (value (script_path p, o.cell.node) v)) (truth_is r.condition ty'.0 ty'.1 true g.0) z.1 in
            moved_to q mk g.1 (by_header i ch m there mk (subst (λ (a : Act). In (Through, t') (ways a)) (sym en.act_is) (inl refl)) ba (cells_known (next_cell kv no_cell) one_way) then_alone (depth q (ap steps_on en.act_is) h))
        by (inr g) = absurd (cc (g.1.1))

    choose_opened : (q : ℕ × List Step) → Opened q → {at n t' u' : ℕ} {o : Outer} {d d' : Block} → stmt at n (choose o d d') ∈ block_list b
        → IsEntry (entry C i) at (pos 0) (own_needs w.layout k (choose o d d')) (If (over k (own_needs w.layout k (choose o d d')) (seen w.layout o.cell)) t' (Some u')) → (entry C i).offset ≡ at → BodyAs C w.layout k d t' → BodyAs C w.layout k d' u' → OpenedBlock q
    choose_opened q h {at} {n} {t'} {u'} {o} {d} {d'} m en mk ba bb =
        by r.taken
      where
        r : Branched (eval (answered C p (entry C i).needs f.answers) (over k (own_needs w.layout k (choose o d d')) (seen w.layout o.cell))) t' (Some u') (entry C i).offset p q
        r = branch_of c _ t' (Some u') (entry C i).offset p q (subst (λ (a : Act). In q (instances a (entry C i).offset p c (compute a (answered C p (entry C i).needs f.answers)))) en.act_is h)

        z : Mn.LiveStmt s K (script_path p) (stmt at n (choose o d d')) × K (value (script_path p, o.cell.node) r.condition)
        z = condition_known at n (choose o d d') o m (outer_in o.parts o.cell) en.needs_is r.condition r.is

        ty' : (x : Bool) × (r.condition ≡ One (Truth x))
        ty' = ty.choose_truth (script_path p) at n o d d' r.condition (stmt_in s z.0) z.1

        known : (x : Bool) → truth_of r.condition ≡ x → K (value (script_path p, o.cell.node) (One (Truth x)))
        known x g = subst (λ (v : Value). K (value (script_path p, o.cell.node) v)) (truth_is r.condition ty'.0 ty'.1 x g) z.1

        by : ((truth_of r.condition ≡ true) × (q ≡ (t', step_at (entry C i).offset (Key.Number (pos 0)) p))) ⊎ ((truth_of r.condition ≡ false) × ((u : ℕ) × (Some u' ≡ Some u) × (q ≡ (u, step_at (entry C i).offset (Key.Number (pos 1)) p)))) → OpenedBlock q
        by (inl g) =
            moved_to q mk g.1 (by_header i ch m there mk (subst (λ (a : Act). In (Through, t') (ways a)) (sym en.act_is) (inl refl)) ba (cells_known (next_cell (known true g.0) no_cell) two_ways) then_first (depth q (ap steps_on en.act_is) h))
        by (inr g) =
            let e : q ≡ (u', step_at (entry C i).offset (Key.Number (pos 1)) p) = g.1.2 ∙ ap (λ (z : ℕ). (z, step_at (entry C i).offset (Key.Number (pos 1)) p)) (sym (Op.some_same g.1.1)) in
            moved_to q mk e (by_header i ch m there mk (subst (λ (a : Act). In (Through, u') (ways a)) (sym en.act_is) (inr (inl refl))) bb (cells_known (next_cell (known false g.0) no_cell) two_ways) else_second (depth q (ap steps_on en.act_is) h))

    -- WAITS
    record InnerBlock (st : Stmt) (t' : ℕ) : Type 0 where
      content : Block
      waited : Waited s C w.layout K (script_path p) st content
      stands : BodyAs C w.layout k content t'

    pub awaited_come : (x : Awaited) → AwaitedIn k x → In (awaited_need k x) (entry C i).needs → Come s K (script_path p) x
    awaited_come (Co.scalar x) g m =
        let r = answer_in s C K p (awaited_need k (Co.scalar x)) a_scalar (entry C i).needs (answered C p (entry C i).needs f.answers) answers_all m in
        scalar_known (says.scalar x g m r.says.0 r.says.1)
    awaited_come (Co.array x) g m =
        let r = answer_in s C K p (awaited_need k (Co.array x)) an_array (entry C i).needs (answered C p (entry C i).needs f.answers) answers_all m in
        array_closed (says.array x g m r.answer r.says).2

    pub awaited_all : (zs : List Awaited) → (x : Awaited) → x ∈ zs → In (awaited_need k x) (map (awaited_need k) zs)
    awaited_all [] x h = elim h [ ]
    awaited_all (y ∷ zs) x first = inl refl
    awaited_all (y ∷ zs) x (later h) = inr (awaited_all zs x h)

    wait_opened : {st : Stmt} {hs : List Header} {t' : ℕ} {b' : Block} → WaitAs C w.layout k st hs t' → InScope s k b' → st ∈ block_list b' → ((n : Need) → In n (flat_map (λ h. h.needs) hs) → In n (entry C i).needs) → InnerBlock st t'
    wait_opened {b' = b'} (one_wait {at = at} {n = n} {ns = ns} {b = bb} ba q) g m sub =
        record {
          content = bb;
          waited = one_ready (names_known (λ x j. awaited_come x (sc.waits k b' at n ns bb x g m j) (sub _ (subst (λ (l : List Header). In (awaited_need k x) (flat_map (λ h. h.needs) l)) (sym q) (in_left _ (map (awaited_need k) ns) [] (awaited_all ns x j))))));
          stands = ba;
        }
    wait_opened {b' = b'} (merged {at = at} {n = n} {ns = ns} {st = st'} {gs = gs} wa q) g m sub =
        let r = wait_opened wa (in_wait g m) first (λ x j. sub x (subst (λ (l : List Header). In x (flat_map (λ h. h.needs) l)) (sym q) (in_right x (map (awaited_need k) ns) _ j))) in
        record {
          content = r.content;
          waited = more_ready (names_known (λ x j. awaited_come x (sc.waits k b' at n ns _ x g m j) (sub _ (subst (λ (l : List Header). In (awaited_need k x) (flat_map (λ h. h.needs) l)) (sym q) (in_left _ (map (awaited_need k) ns) _ (awaited_all ns x j)))))) r.waited;
          stands = r.stands;
        }

    -- LOOPS
    pub turns_are : (lp : code.Loop) (x : Computed) (q : ℕ × List Step) → In q (turn_instances lp (entry C i).offset p (chunk c (turns_of x))) → (y : Key × Scalar) × In y (turns_of x) × (q ≡ (lp.body, step_at (entry C i).offset y.0 p))
    turns_are lp x q h =
        let r = in_unmap (λ (y : Key × Scalar). (lp.body, step_at (entry C i).offset y.0 p)) q (chunk c (turns_of x)) h in
        (r.0, in_chunk c (turns_of x) r.0 r.1, sym r.2)

    each_opened : (q : ℕ × List Step) → Opened q → {at n x t' : ℕ} {a : Name} {y : Option ℕ} {d : Block} → stmt at n (each a x y d) ∈ block_list b
        → IsEntry (entry C i) at (pos 0) (own_needs w.layout k (each a x y d)) (code.Each (record { body = t'; value = x; turn = y })) → (entry C i).offset ≡ at → BodyAs C w.layout k d t' → OpenedBlock q
    each_opened q h {at} {n} {x} {t'} {a} {y} {d} m en mk ba =
        by (answered C p (entry C i).needs f.answers) (subst (λ (l : List Need). AnsAll s C K p l (answered C p (entry C i).needs f.answers)) en.needs_is answers_all)
        (turns_are (record { body = t'; value = x; turn = y }) (compute (code.Each (record { body = t'; value = x; turn = y })) (answered C p (entry C i).needs f.answers)) q (subst (λ (z : Act). In q (instances z (entry C i).offset p c (compute z (answered C p (entry C i).needs f.answers)))) en.act_is h))
      where
        g : IsIn k a
        g = sc.loops k b at n x a y d (chain_scope s C w.layout K wf.names I sc ch) m

        by : (zs : List Got) → AnsAll s C K p (code.Closed (name_as k true a) ∷ []) zs → (u : Key × Scalar) × In u (content (answer_at zs 0)) × (q ≡ (t', step_at (entry C i).offset u.0 p)) → OpenedBlock q
        by [] z u = absurd z
        by (z ∷ zs) al u =
            let r = says.array a g (subst (λ (l : List Need). In (code.Closed (name_as k true a)) l) (sym en.needs_is) (inl refl)) z al.0 in
            let j : In u.0 r.0 = listed_in r.0 u.0 (subst (λ (o : Option Got). In u.0 (content o)) (ap Some r.1) u.1) in
            moved_to q mk u.2 (by_header i ch m there mk (subst (λ (z : Act). In (Through, t') (ways z)) (sym en.act_is) (inl refl)) ba (source_closed r.2 r.3) (item (element_in r.0 u.0.0 u.0.1 j)) (depth q (ap steps_on en.act_is) h))

    -- the value of a header's cell
    pub cell_known_by : (at n : ℕ) (a : Action) (o : Cell) → stmt at n a ∈ block_list b → o ∈ cells (stmt at n a) → (ms : List Need) → (entry C i).needs ≡ ms → ((x : Need) → In x (wanted k (seen w.layout o)) → In x ms) → (v : Value)
        → eval (answered C p (entry C i).needs f.answers) (over k ms (seen w.layout o)) ≡ Ok v → K (value (script_path p, o.node) v)
    cell_known_by at n a o m cm ms q sub v ev =
        let lv = in_block (chain_live s C w.layout K wf.names I sc ch) m in
        let g = (sc.statements k b (stmt at n a) (chain_scope s C w.layout K wf.names I sc ch) m).in_cells o cm in
        let u = value_of (seen w.layout o) (seen_scoped k w.layout o g) ms q sub in
        seen_known s wf K kn w.layout o lv cm (subst (λ (r : Result Value OpFault). ValueUnder s K (script_path p) (seen w.layout o) r) ev u)

    pub range_known : (at n x : ℕ) (lo hi : Outer) (st : Option Outer) (y : Option ℕ) (d : Block) → stmt at n (range lo hi st x y d) ∈ block_list b → (ms : List Need) → own_needs w.layout k (range lo hi st x y d) ≡ ms → (entry C i).needs ≡ ms
        → (o : Outer) → o ∈ outers (range lo hi st x y d) → ((z : Need) → In z (wanted k (seen w.layout o.cell)) → In z (flat_map (wanted k) (own_exprs w.layout k (range lo hi st x y d)))) → (v : Value)
        → eval (answered C p (entry C i).needs f.answers) (over k ms (seen w.layout o.cell)) ≡ Ok v → K (value (script_path p, o.cell.node) v)
    range_known at n x lo hi st y d m ms mq nq o j sub v ev =
        cell_known_by at n (range lo hi st x y d) o.cell m (cell_among _ (outer_among (outers (range lo hi st x y d)) o j)) ms nq (λ z u. subst (λ (l : List Need). In z l) mq (in_once z _ (sub z u))) v ev

    range_finish : (q : ℕ × List Step) → Opened q → (at n x t' : ℕ) (lo hi : Outer) (st : Option Outer) (y : Option ℕ) (d : Block) → stmt at n (range lo hi st x y d) ∈ block_list b
        → (ms : List Need) → own_needs w.layout k (range lo hi st x y d) ≡ ms
        → IsEntry (entry C i) at (pos 0) ms
        (code.Range (over k ms (seen w.layout lo.cell)) (over k ms (seen w.layout hi.cell)) (over k ms (step_expr w.layout k st)) (record { body = t'; value = x; turn = y }))
        → (entry C i).offset ≡ at → BodyAs C w.layout k d t' → (u : Key × Scalar) → q ≡ (t', step_at (entry C i).offset u.0 p)
        → Ranged (eval (answered C p (entry C i).needs f.answers) (over k ms (seen w.layout lo.cell))) (eval (answered C p (entry C i).needs f.answers) (over k ms (seen w.layout hi.cell))) (eval (answered C p (entry C i).needs f.answers) (over k ms (step_expr w.layout k st))) u
        → OpenedBlock q
    range_finish q h at n x t' lo hi None y d m ms mq en mk ba u uq r =
        let known = range_known at n x lo hi None y d m ms mq en.needs_is in
        let e1 = wanted k (seen w.layout lo.cell) in
        let e2 = wanted k (seen w.layout hi.cell) in
        let kl = known lo first (λ z j. in_left z e1 _ j) r.low r.low_is in
        let kh = known hi (later first) (λ z j. in_right z e1 _ (in_left z e2 _ j)) r.high r.high_is in
        let ka = next_cell kl (next_cell kh no_cell) in
        let bd = ty.range_bounds (script_path p) at n x lo hi None y d (r.low ∷ r.high ∷ []) (stmt_in s (in_block (chain_live s C w.layout K wf.names I sc ch) m)) ka in
        let nb = bounds_two r.low r.high bd.0 bd.1 in
        let st1 : number_of r.step ≡ bd.0.step = ap number_of (ok_step r.step_is) ∙ sym nb.2 in
        let rc : range_count bd.0.low bd.0.high bd.0.step ≡ Ok r.many = (λ i. range_count (sym nb.0 i) (sym nb.1 i) (sym st1 i)) ∙ r.count in
        moved_to q mk (uq ∙ ap (λ (z : Key). (t', step_at (entry C i).offset z p)) r.key_is)
        (by_header i ch m there mk (subst (λ (z : Act). In (Through, t') (ways z)) (sym en.act_is) (inl refl)) ba (cells_known ka (in_turns bd.1 rc)) (turn bd.1 rc r.below) (depth q (ap steps_on en.act_is) h))
    range_finish q h at n x t' lo hi (Some o) y d m ms mq en mk ba u uq r =
        let known = range_known at n x lo hi (Some o) y d m ms mq en.needs_is in
        let e1 = wanted k (seen w.layout lo.cell) in
        let e2 = wanted k (seen w.layout hi.cell) in
        let e3 = wanted k (seen w.layout o.cell) in
        let kl = known lo first (λ z j. in_left z e1 _ j) r.low r.low_is in
        let kh = known hi (later first) (λ z j. in_right z e1 _ (in_left z e2 _ j)) r.high r.high_is in
        let ks = known o (later (later first)) (λ z j. in_right z e1 _ (in_right z e2 _ (in_left z e3 _ j))) r.step r.step_is in
        let ka = next_cell kl (next_cell kh (next_cell ks no_cell)) in
        let bd = ty.range_bounds (script_path p) at n x lo hi (Some o) y d (r.low ∷ r.high ∷ r.step ∷ []) (stmt_in s (in_block (chain_live s C w.layout K wf.names I sc ch) m)) ka in
        let nb = bounds_three r.low r.high r.step bd.0 bd.1 in
        let rc : range_count bd.0.low bd.0.high bd.0.step ≡ Ok r.many = (λ i. range_count (sym nb.0 i) (sym nb.1 i) (sym nb.2 i)) ∙ r.count in
        moved_to q mk (uq ∙ ap (λ (z : Key). (t', step_at (entry C i).offset z p)) r.key_is)
        (by_header i ch m there mk (subst (λ (z : Act). In (Through, t') (ways z)) (sym en.act_is) (inl refl)) ba (cells_known ka (in_turns bd.1 rc)) (turn bd.1 rc r.below) (depth q (ap steps_on en.act_is) h))

    range_opened : (q : ℕ × List Step) → Opened q → {at n x t' : ℕ} {lo hi : Outer} {st : Option Outer} {y : Option ℕ} {d : Block} → stmt at n (range lo hi st x y d) ∈ block_list b
        → (ms : List Need) → own_needs w.layout k (range lo hi st x y d) ≡ ms
        → IsEntry (entry C i) at (pos 0) ms
        (code.Range (over k ms (seen w.layout lo.cell)) (over k ms (seen w.layout hi.cell)) (over k ms (step_expr w.layout k st)) (record { body = t'; value = x; turn = y }))
        → (entry C i).offset ≡ at → BodyAs C w.layout k d t' → OpenedBlock q
    range_opened q h {at} {n} {x} {t'} {lo} {hi} {st} {y} {d} m ms mq en mk ba =
        let lp : code.Loop = record { body = t'; value = x; turn = y } in
        let rl = eval (answered C p (entry C i).needs f.answers) (over k ms (seen w.layout lo.cell)) in
        let rh = eval (answered C p (entry C i).needs f.answers) (over k ms (seen w.layout hi.cell)) in
        let rs = eval (answered C p (entry C i).needs f.answers) (over k ms (step_expr w.layout k st)) in
        let u = turns_are lp (ranged rl rh rs) q (subst (λ (z : Act). In q (instances z (entry C i).offset p c (compute z (answered C p (entry C i).needs f.answers)))) en.act_is h) in
        range_finish q h at n x t' lo hi st y d m ms mq en mk ba u.0 u.2 (ranged_of rl rh rs u.0 u.1)

    -- A BLOCK THAT AN ITEM OPENS IS LIVE
    no_way : {a : Act} {q : ℕ × List Step} → (entry C i).act ≡ a → instances a (entry C i).offset p c (compute a (answered C p (entry C i).needs f.answers)) ≡ [] → Opened q → OpenedBlock q
    no_way {a} {q} e z h = absurd (subst (λ (l : List (ℕ × List Step)). In q l) z (subst (λ (z : Act). In q (instances z (entry C i).offset p c (compute z (answered C p (entry C i).needs f.answers)))) e h))

    part_opens : (q : ℕ × List Step) → Opened q → (st : Stmt) → st ∈ block_list b → PartOf C w.layout k st i → OpenedBlock q
    part_opens q h st m po = by po.as_part po.there po.in_stmt
      where
        by : {x : Co.Part} {js : List ℕ} → PartAs C w.layout k po.all po.at po.priority x js → In i js → x ∈ parts_of st → OpenedBlock q
        by (plain_literal z) j v = absurd j
        by (plain_name z) j v = absurd j
        by (a_cell {j = j'} z nd en) j v = no_way {q = q} (ap (λ (z : ℕ). (entry C z).act) (in_one i j' j) ∙ en.act_is) refl h
        by (a_read {j = j'} z nd ix en) j v = no_way {q = q} (ap (λ (z : ℕ). (entry C z).act) (in_one i j' j) ∙ en.act_is) refl h
        by (a_call {c = x} {j = j'} ca) j v = call_opened q h st m x (call_of st x v) (subst (λ (z : ℕ). CallAs C w.layout k po.all po.at po.priority x z) (sym (in_one i j' j)) ca) po.cells_in

    own_opens : (q : ℕ × List Step) → Opened q → (st : Stmt) → st ∈ block_list b → OwnAs C w.layout k st i → OpenedBlock q
    own_opens q h st m (own_simple {a = a} z en nd) = no_way {q = q} en.act_is (simple_opens_none w.layout k c (entry C i).offset p _ a z) h
    own_opens q h st m (own_branch en mk ba) = when_opened q h m en mk ba
    own_opens q h st m (own_branches en mk ba bb) = choose_opened q h m en mk ba bb
    own_opens q h st m (own_range en mk ba) = range_opened q h m _ refl en mk ba
    own_opens q h st m (own_each en mk ba) = each_opened q h m en mk ba
    own_opens q h st m (own_wait {t = t'} wa en) =
        let r = wait_opened wa (chain_scope s C w.layout K wf.names I sc ch) m (λ z j. subst (λ (l : List Need). In z l) (sym en.needs_is) (in_once z _ j)) in
        let e : q ≡ (t', p) = first_one c q (t', p) (subst (λ (z : Act). In q (instances z (entry C i).offset p c (compute z (answered C p (entry C i).needs f.answers)))) en.act_is h) in
        subst OpenedBlock (sym e) (record { inputs = k; inner_block = r.content; chain = by_wait i ch m there (subst (λ (z : Act). In (InPlace, t') (ways z)) (sym en.act_is) (inl refl)) r.stands r.waited })

  -- an item of a live block: its entry is one of a body that stands for a block that is live in the script
  pub record ItemLive (u : Task) : Type 0 where
    pub number : ℕ
    pub path : List Step
    pub chunk : ℕ
    pub is : Item number path chunk ≡ u
    pub body_number : ℕ
    pub inputs : ℕ
    pub block : Block
    pub chain : Chain s C w.layout K path body_number inputs block
    pub there : In number (body C body_number).entries

  pub opens_block : {p : List Step} {t k : ℕ} {b : Block} (ch : Chain s C w.layout K p t k b) (i c : ℕ) (there : In i (body C t).entries) (e : Effect Task CodePlaces.Place Key Scalar) (f : Fact (Item i p c) e) (q : ℕ × List Step)
      → In q (instances (entry C i).act (entry C i).offset p c (compute (entry C i).act (answered C p (entry C i).needs f.answers))) → OpenedBlock q
  opens_block {t = t} {k = k} {b = b} ch i c there e f q h = by_body (chain_body s C w.layout K wf.names I sc ch)
    where
      by_role : RoleIn C w.layout k b i → OpenedBlock q
      by_role r = elim r.role [ inl po ↦ part_opens ch i c there e f q h r.st r.there po | inr ow ↦ own_opens ch i c there e f q h r.st r.there ow ]

      by_body : BodyAs C w.layout k b t → OpenedBlock q
      by_body (body_as bl mk) = by_role (find_role C w.layout bl there)

  -- WHAT IS LIVE IN THE CODE IS LIVE IN THE SCRIPT
  pub live_to : {u : Task} → Live (code_system C) (Reading (code_system C) (Answers s K)) u → (u ≡ Main) ⊎ ItemLive u
  live_to live_main = inl refl
  live_to (live_opened t u e o lv f io iu) =
      elim (live_to lv) [
        | inl q ↦ inr (main_case q)
        | inr x ↦ inr (item_case x (subst (λ (z : Task). Live (code_system C) (Reading (code_system C) (Answers s K)) z) (sym x.is) lv) (subst (λ (z : Task). Fact z e) (sym x.is) f))
      ]
    where
      main_case : t ≡ Main → ItemLive u
      main_case q =
          let io' : In o (block C (0, []) ∷ []) = subst (λ (x : Effect Task CodePlaces.Place Key Scalar). In o x.opens) (sym (good_in (ap (λ (z : Task). (code_system C).effect z f.answers) (sym q) ∙ f.is))) io in
          let m = Op.in_block C (0, []) o u (in_one o _ io') iu in
          record { number = m.0; path = []; chunk = 0; is = sym m.2; body_number = 0; inputs = 0; block = s.body; chain = at_script w.script; there = m.1 }

      item_case : (x : ItemLive t) → Live (code_system C) (Reading (code_system C) (Answers s K)) (Item x.number x.path x.chunk) → Fact (Item x.number x.path x.chunk) e → ItemLive u
      item_case x lv f =
          elim (opened C x.number x.chunk x.path e can o io) [
            | inl ob ↦ (let m = Op.in_block C ob.instance o u ob.is iu in
                let r = opens_block x.chain x.number x.chunk x.there e f ob.instance ob.there in
                record { number = m.0; path = ob.instance.1; chunk = 0; is = sym m.2; body_number = ob.instance.0; inputs = r.inputs; block = r.inner_block; chain = r.chain; there = m.1 })
            | inr rs ↦ record { number = x.number; path = x.path; chunk = suc x.chunk; is = sym (in_rest C x.number x.chunk x.path o u rs iu); body_number = x.body_number; inputs = x.inputs; block = x.block; chain = x.chain; there = x.there }
          ]
        where
          can : Can (code_system C) (Item x.number x.path x.chunk) e
          can = record { answers = f.answers; is = f.is; valid = reading_valid (code_system C) (code_laws C I) (Answers s K) lv }
