-- What is closed in the code, by the script's answers, is closed in the script.
use Rattle.std.proofs.Common.{◌≡◌, inl, inr, ℕ, suc, ◌<◌, Bool, true, false, List, [], ◌∷◌, map, length, refl, sym, ap, ◌∙◌, subst, Option, Some, None, Result, Ok, Err, arith}
use Rattle.std.specs.Prelude.{pos, ℤ, slice_get, take, if◌then◌else◌}
use Rattle.std.specs.List.{flat_map}
use Rattle.dataflow.specs.System.{In, Opening}
use Rattle.dataflow.specs.Facts as Fa
use Rattle.dataflow.proofs.Lists.{in_left, in_right, in_map}
use Rattle.values.specs.declared.fault.OpFault.{OpFault}
use Rattle.values.specs.declared.key.Key.{Key}
use Rattle.values.specs.declared.value.Scalar.{Scalar}
use Rattle.values.specs.declared.value.Scalar.TheVariants.{Number, Truth}
use Rattle.values.specs.declared.value.Value.{Value}
use Rattle.values.specs.declared.value.Value.TheVariants.{One, Many}
use Rattle.values.specs.Ranges.{range_count, value_in}
use Rattle.values.specs.Values.{truth_of, number_of}
use Rattle.language.specs.Core.{Owned, local, input, output, Name, Expr, Form, compute, read, Cell, Call, Part, Outer, Stmt, stmt, Action, declare, call_alone, assign, fill, insert, print, assert, when, choose, range, each, wait, Block, stmts, no_stmts, Function, Core}
use Rattle.language.specs.Facts.{value, Knowledge, no_cell, next_cell}
use Rattle.language.specs.Meaning as Mn
use Rattle.language.specs.Meaning.{IsTarget, Finished, no_target, value_known, write_known, body_finished, blocks_finished, content_finished, closed, ValueUnder, computed, LiveStmt, in_block, Ready, cells_known, source_closed, names_known, cell_value, inserted, before}
use Rattle.language.specs.Members.{◌∈◌, first, later}
use Rattle.language.specs.Openings.{Bounds, bounds, in_turns, one_way, two_ways, Opens, then_alone, then_first, else_second, turn, item, Branches}
use Rattle.language.specs.Parts.{stmt_at, part_cells, cells, stmt_calls, block_list, script_blocks, stmts_of, output_name}
use Rattle.language.specs.Places.{Place, place, place_of, max_path_steps}
use Rattle.language.specs.WellFormed.{Declares, Uses, IsMany, a_list, a_copy, own, WellFormed}
use Rattle.language.proofs.Blocks.{header_inner, inner_block}
use Rattle.language_laws.proofs.Declared.{local_same, stmt_in, live_block, header_of, output_found, output_in, place_here}
use Rattle.language.proofs.Members.{to_right}
use Rattle.language_laws.proofs.Sources.{outer_in, index_in, right_in}
use Rattle.task_code.specs.Code as code
use Rattle.task_code.specs.Code.{Variable, Need, Header, Act, If, Wait, InPlace, Through, Loop, Code, entry, body, ways, loop_of}
use Rattle.task_code.specs.Compute.{EntryFault, InOperation, Computed, Fails, Takes, Turns, Elements, eval, branched, range_turns, content, answer_at, filled, insert_element, elements, compute as work_out}
use Rattle.task_code.specs.Effects.{Task, Item, block, effect_at, instances, turns_of, chunk, step_at, steps_on, outcome_of, is_too_deep}
use Rattle.task_code.specs.Places as CodePlaces
use Rattle.task_code.specs.Places.{Step, Datum, place_at}
use Rattle.task_code.specs.System.{answered, code_system}
use Rattle.task_code.specs.Whole.{IsCode}
use Rattle.task_code.proofs.Opens.{some_same}
use Rattle.task_code.proofs.Places.{spot_path, spot_variable}
use Rattle.task_code.proofs.Rights.{loop_instances}
use Rattle.headline.specs.Headline.{script_path, script_place}
use Rattle.headline.specs.Answered.{Reading}
use Rattle.headline.specs.Knows.{Knows}
use Rattle.headline.specs.Inclusions.{Facts, ClosedTo}
use Rattle.headline.specs.Chains.{Answers, Chain, by_header, by_wait, by_call, Waited, one_ready, more_ready}
use Rattle.code_rules.specs.CodeNames.{name_as, wanted, over, each_once, awaited_need}
use Rattle.language_laws.specs.Scoped.{FormIn, AreIn, InScope, in_wait, Scoped}
use Rattle.code_rules.specs.IsCodeOf.{seen, own_form, own_expr, own_needs, own_priority, fill_act, simple_act, step_expr, IsSimple, IsEntry, CallAs, WaitAs, one_wait, merged, BodyAs, IsCodeOf}
use Rattle.language_laws.specs.TypedValues.{TypedValues}
use Rattle.headline.proofs.Carries.{node_of, Carries, by_own, by_alone, carrier, carries_right}
use Rattle.headline.proofs.Evaluate.{Got, AnsAll, in_once}
use Rattle.headline.proofs.Hits.{IsArrayAt, right_hits, made_in_block, array_made}
use Rattle.headline.proofs.HeaderWorks.{turn_there}
use Rattle.headline.proofs.LiveTo.{value_of, says, answers_all, condition_known, cell_known_by, range_known, awaited_come, awaited_all, bounds_two, bounds_three, ok_step}
use Rattle.headline.proofs.Means.{chain_live, chain_body, chain_scope}
use Rattle.headline.proofs.NoFault.{bad_good, RangeAll, range_all}
use Rattle.headline.proofs.Opening.{depth_below, shallow}
use Rattle.headline.proofs.Readings.{in_element}
use Rattle.headline.proofs.Rights.{alone_call, IsArray, stmt_of_body, target_right, only_one}
use Rattle.headline.proofs.Roles.{own_simple, own_branch, own_branches, own_range, own_each, own_wait}
use Rattle.headline.proofs.Steps.{InAll, now_opened, turn_in_all, computes_by, DoneBy, Step_, item_closes}
use Rattle.headline.proofs.Targets.{UsesIn, uses_block, uses_stmt, NoneInside, none_inner, none_declared, none_output, OnlyAt, only_declared, only_output, only_header, only_wait}
use Rattle.values.specs.Limits.{chunk_size}

-- some turn stands in the first chunk
first_turn : {X : Type 0} (xs : List X) (x : X) → In x xs → (y : X) × In y (take chunk_size xs)
first_turn [] x h = absurd h
first_turn (y ∷ xs) x h = (y, inl refl)

ok_same : {n m : ℕ} → ◌≡◌ {A = Result ℕ OpFault} (Ok n) (Ok m) → n ≡ m
ok_same h = cc

value_ok : {v u : Value} → ◌≡◌ {A = Result Value OpFault} (Ok v) (Ok u) → v ≡ u
value_ok h = cc

module _ (s : Core) (C : Code) (w : IsCodeOf s C) (K : Knowledge) (wf : WellFormed s) (kn : Knows s K) (I : IsCode C) (sc : Scoped s) (ty : TypedValues s K) (p0 : List Step) (v0 : Variable) (ar : IsArrayAt s C w K wf I sc v0) where
  -- a name that means the array in a live block, at one depth
  record Means (p : List Step) (b : Block) (up : ℕ) (what : Owned) : Type 0 where
    place_is : place s (script_path p) (record { up = up; what = what }) ≡ script_place p0 v0
    no_input : (i : ℕ) → what ≡ input i → ⊥
    only : OnlyAt s wf.names what b up
    none : NoneInside b what

  abbrev G : ℕ → List Step → Type 0
  G i p = (t k : ℕ) (b : Block) → Chain s C w.layout K p t k b → In i (body C t).entries → (st : Stmt) → st ∈ block_list b → Carries C w.layout k i st → (up : ℕ) (what : Owned) → Means p b up what → Finished s K what (script_path p) st

  is_array : {p : List Step} {b : Block} {up : ℕ} {what : Owned} → Means p b up what → IsArray C w.layout I what
  is_array {p} {b} {up} {what} inv n e =
      let same : n ≡ v0.node = sym (node_of s (script_path p) up n) ∙ ap (λ (o : Owned). (place_of s (script_path p) up o).1) (sym e) ∙ ap (λ (z : Place). z.1) inv.place_is in
      ap w.layout.array same ∙ ar.of_layout

  right_to : {p : List Step} {t k : ℕ} {b : Block} (ch : Chain s C w.layout K p t k b) (i : ℕ) → In i (body C t).entries → (st : Stmt) → st ∈ block_list b → Carries C w.layout k i st → (up : ℕ) (what : Owned) → Means p b up what
      → IsTarget what st → In (Datum p0 v0) ((code_system C).may_write (Item i p 0))
  right_to {p} {k = k} {b = b} ch i there st m cr up what inv tg =
      let u = uses_stmt s wf.names what st b m (live_block s (chain_live s C w.layout K wf.names I sc ch)) inv.none tg in
      let e : u.0 ≡ up = inv.only u.0 (uses_block u.1 m) in
      let r = carries_right C w.layout I cr (subst (λ (z : ℕ). UsesIn st z what) e u.1) (is_array inv) in
      let h = right_hits s C w K wf I sc ch i there r.0 (record { up = up; what = what }) r.1 (λ j q. absurd (inv.no_input j q)) p0 v0 ar inv.place_is in
      subst (λ (z : CodePlaces.Place). In z (map (place_at C p) (entry C i).writes)) h.1 (in_map (place_at C p) (name_as k r.0 (record { up = up; what = what })) (entry C i).writes r.1)

  -- the statements of a block whose items are finished
  inner : {q : List Step} {u k : ℕ} {c : Block} (ch : Chain s C w.layout K q u k c) → ((j : ℕ) → In j (body C u).entries → G j q) → (up : ℕ) (what : Owned) → Means q c up what → (st : Stmt) → st ∈ block_list c → Finished s K what (script_path q) st
  inner {q} {u} {k} {c} ch g up what inv st m =
      let sf = stmt_of_body C w.layout I (chain_body s C w.layout K wf.names I sc ch) m in
      elim (carrier C w.layout sf.as_stmt) [
        | inl cr ↦ g cr.number (sf.among cr.number cr.there) u k c ch (sf.among cr.number cr.there) st m cr.carries up what inv
        | inr z ↦ no_target (z what)
      ]

  module _ {p : List Step} {t k : ℕ} {b : Block} (ch : Chain s C w.layout K p t k b) (i : ℕ) (there : In i (body C t).entries) (d : DoneBy s C K kn I (Datum p0 v0) G i p 0) (up : ℕ) (what : Owned) (inv : Means p b up what) where
    abbrev f : Reading (code_system C) (Answers s K) (Item i p 0) d.effect
    f = d.fact.reading

    abbrev ys : List Got
    ys = answered C p (entry C i).needs d.fact.reading.answers

    abbrev X : Computed
    X = computes_by s C K kn I d.fact.reading

    fails : (g : EntryFault) → X ≡ Fails g → ⊥
    fails g q = bad_good (sym (ap (λ (z : Computed). outcome_of z (is_too_deep (entry C i).act p (instances (entry C i).act (entry C i).offset p 0 X)) (effect_at C i p 0 X)) q) ∙ d.fact.reading.is)

    depth_at : (q : ℕ × List Step) → steps_on (entry C i).act ≡ true → In q (instances (entry C i).act (entry C i).offset p 0 X) → length (script_path p) < max_path_steps
    depth_at q st h = depth_below (entry C i).act p q _ st h (shallow _ _ _ _ d.fact.reading.is)

    live : {st : Stmt} → st ∈ block_list b → LiveStmt s K (script_path p) st
    live m = in_block (chain_live s C w.layout K wf.names I sc ch) m

    script_block : b ∈ script_blocks s
    script_block = live_block s (chain_live s C w.layout K wf.names I sc ch)

    -- HEADERS
    record OpensAt (key : Key) (c : Block) : Type 0 where
      number : ℕ
      way : In (Through, number) (ways (entry C i).act)
      stands : BodyAs C w.layout k c number
      all : InAll (entry C i).act (entry C i).offset p 0 X (number, step_at (entry C i).offset key p)
      some : ℕ × List Step
      some_in : In some (instances (entry C i).act (entry C i).offset p 0 X)

    header_finished : {at n : ℕ} {a : Action} {vs : List Value} → stmt at n a ∈ block_list b → (entry C i).offset ≡ at → steps_on (entry C i).act ≡ true → Branches a → Ready s K (script_path p) a vs
        → ((key : Key) (c : Block) → Opens a vs key c → OpensAt key c) → Finished s K what (script_path p) (stmt at n a)
    header_finished {at} {n} {a} {vs} m mk so hb r opens =
        blocks_finished hb r (λ key c o. (let z = opens key c o in depth_at z.some so z.some_in)) (λ key c st' o m'. by key c o st' m')
      where
        by : (key : Key) (c : Block) → Opens a vs key c → (st' : Stmt) → st' ∈ block_list c → Finished s K what ((at, key) ∷ script_path p) st'
        by key c o st' m' =
            let z = opens key c o in
            inner (by_header i ch m there mk z.way z.stands r o (depth_at z.some so z.some_in))
            (λ j jm. subst (λ (y : ℕ). G j (step_at y key p)) mk (d.below (z.number, step_at (entry C i).offset key p) z.all j jm))
            (suc up) what
            (record { place_is = inv.place_is; no_input = inv.no_input; only = only_header s wf.names what script_block inv.none m (header_of o) inv.only; none = none_inner b inv.none m (header_inner a (header_of o)) })
            st' m'

    -- an instance that stands in the first chunk
    at_once : {act : Act} {x : Computed} (q : ℕ × List Step) → (entry C i).act ≡ act → X ≡ x → In q (instances act (entry C i).offset p 0 x) → In q (instances (entry C i).act (entry C i).offset p 0 X)
    at_once {act} {x} q e h m = subst (λ (z : Act). In q (instances z (entry C i).offset p 0 X)) (sym e) (subst (λ (z : Computed). In q (instances act (entry C i).offset p 0 z)) (sym h) m)

    a_turn : (lp : Loop) → loop_of (entry C i).act ≡ Some lp → (y : Key × Scalar) → In y (turns_of X) → (q : ℕ × List Step) × In q (instances (entry C i).act (entry C i).offset p 0 X)
    a_turn lp q y h =
        let z = first_turn (turns_of X) y h in
        ((lp.body, step_at (entry C i).offset z.0.0 p), subst (λ (l : List (ℕ × List Step)). In (lp.body, step_at (entry C i).offset z.0.0 p) l) (sym (loop_instances C (entry C i).act lp (entry C i).offset p 0 X q)) (in_map (λ (u : Key × Scalar). (lp.body, step_at (entry C i).offset u.0 p)) z.0 (chunk 0 (turns_of X)) z.1))

    turn_opens : {key : Key} {c : Block} (u : Scalar) (lp : Loop) → loop_of (entry C i).act ≡ Some lp → In (Through, lp.body) (ways (entry C i).act) → BodyAs C w.layout k c lp.body → In (key, u) (turns_of X) → OpensAt key c
    turn_opens {key} u lp q wy ba h =
        let z = a_turn lp q (key, u) h in
        record { number = lp.body; way = wy; stands = ba; all = turn_in_all C (entry C i).act (entry C i).offset p X lp q (key, u) h; some = z.0; some_in = z.1 }

    when_finished : {at n t' : ℕ} {o : Outer} {c : Block} → stmt at n (when o c) ∈ block_list b → IsEntry (entry C i) at (pos 0) (own_needs w.layout k (when o c)) (If (over k (own_needs w.layout k (when o c)) (seen w.layout o.cell)) t' None)
        → (entry C i).offset ≡ at → BodyAs C w.layout k c t' → Finished s K what (script_path p) (stmt at n (when o c))
    when_finished {at} {n} {t'} {o} {c} m en mk ba = by_value (eval ys (over k (own_needs w.layout k (when o c)) (seen w.layout o.cell))) refl
      where
        x_is : X ≡ branched (eval ys (over k (own_needs w.layout k (when o c)) (seen w.layout o.cell)))
        x_is = ap (λ (z : Act). work_out z ys) en.act_is

        finish : (x : Bool) → K (value (script_path p, o.cell.node) (One (Truth x))) → X ≡ Takes x → Finished s K what (script_path p) (stmt at n (when o c))
        finish true kv q = header_finished m mk (ap steps_on en.act_is) tt (cells_known (next_cell kv no_cell) one_way) opens
          where
            opens : (key : Key) (c' : Block) → Opens (when o c) (One (Truth true) ∷ []) key c' → OpensAt key c'
            opens key c' then_alone =
                let h = at_once (t', step_at (entry C i).offset (Key.Number (pos 0)) p) en.act_is q (inl refl) in
                record { number = t'; way = subst (λ (z : Act). In (Through, t') (ways z)) (sym en.act_is) (inl refl); stands = ba; all = now_opened h; some = (t', step_at (entry C i).offset (Key.Number (pos 0)) p); some_in = h }
        finish false kv q = header_finished m mk (ap steps_on en.act_is) tt (cells_known (next_cell kv no_cell) one_way) (λ key c' z. elim z [ ])

        by_value : (r : Result Value OpFault) → eval ys (over k (own_needs w.layout k (when o c)) (seen w.layout o.cell)) ≡ r → Finished s K what (script_path p) (stmt at n (when o c))
        by_value (Err g) q = absurd (fails (InOperation g) (x_is ∙ ap branched q))
        by_value (Ok v) q =
            let z = condition_known s C w K wf kn I sc ty ch i 0 there d.effect d.fact.reading at n (when o c) o m (outer_in o.parts o.cell) en.needs_is v q in
            let tr = ty.when_truth (script_path p) at n o c v (stmt_in s z.0) z.1 in
            finish tr.0 (subst (λ (u : Value). K (value (script_path p, o.cell.node) u)) tr.1 z.1) (x_is ∙ ap branched q ∙ ap (λ (u : Value). Takes (truth_of u)) tr.1)

    choose_finished : {at n t' u' : ℕ} {o : Outer} {c c2 : Block} → stmt at n (choose o c c2) ∈ block_list b → IsEntry (entry C i) at (pos 0) (own_needs w.layout k (choose o c c2)) (If (over k (own_needs w.layout k (choose o c c2)) (seen w.layout o.cell)) t' (Some u'))
        → (entry C i).offset ≡ at → BodyAs C w.layout k c t' → BodyAs C w.layout k c2 u' → Finished s K what (script_path p) (stmt at n (choose o c c2))
    choose_finished {at} {n} {t'} {u'} {o} {c} {c2} m en mk ba bb = by_value (eval ys (over k (own_needs w.layout k (choose o c c2)) (seen w.layout o.cell))) refl
      where
        x_is : X ≡ branched (eval ys (over k (own_needs w.layout k (choose o c c2)) (seen w.layout o.cell)))
        x_is = ap (λ (z : Act). work_out z ys) en.act_is

        finish : (x : Bool) → K (value (script_path p, o.cell.node) (One (Truth x))) → X ≡ Takes x → Finished s K what (script_path p) (stmt at n (choose o c c2))
        finish true kv q = header_finished m mk (ap steps_on en.act_is) tt (cells_known (next_cell kv no_cell) two_ways) opens
          where
            opens : (key : Key) (c' : Block) → Opens (choose o c c2) (One (Truth true) ∷ []) key c' → OpensAt key c'
            opens key c' then_first =
                let h = at_once (t', step_at (entry C i).offset (Key.Number (pos 0)) p) en.act_is q (inl refl) in
                record { number = t'; way = subst (λ (z : Act). In (Through, t') (ways z)) (sym en.act_is) (inl refl); stands = ba; all = now_opened h; some = (t', step_at (entry C i).offset (Key.Number (pos 0)) p); some_in = h }
        finish false kv q = header_finished m mk (ap steps_on en.act_is) tt (cells_known (next_cell kv no_cell) two_ways) opens
          where
            opens : (key : Key) (c' : Block) → Opens (choose o c c2) (One (Truth false) ∷ []) key c' → OpensAt key c'
            opens key c' else_second =
                let h = at_once (u', step_at (entry C i).offset (Key.Number (pos 1)) p) en.act_is q (inl refl) in
                record { number = u'; way = subst (λ (z : Act). In (Through, u') (ways z)) (sym en.act_is) (inr (inl refl)); stands = bb; all = now_opened h; some = (u', step_at (entry C i).offset (Key.Number (pos 1)) p); some_in = h }

        by_value : (r : Result Value OpFault) → eval ys (over k (own_needs w.layout k (choose o c c2)) (seen w.layout o.cell)) ≡ r → Finished s K what (script_path p) (stmt at n (choose o c c2))
        by_value (Err g) q = absurd (fails (InOperation g) (x_is ∙ ap branched q))
        by_value (Ok v) q =
            let z = condition_known s C w K wf kn I sc ty ch i 0 there d.effect d.fact.reading at n (choose o c c2) o m (outer_in o.parts o.cell) en.needs_is v q in
            let tr = ty.choose_truth (script_path p) at n o c c2 v (stmt_in s z.0) z.1 in
            finish tr.0 (subst (λ (u : Value). K (value (script_path p, o.cell.node) u)) tr.1 z.1) (x_is ∙ ap branched q ∙ ap (λ (u : Value). Takes (truth_of u)) tr.1)

    -- LOOPS
    each_finished : {at n x t' : ℕ} {a : Name} {y : Option ℕ} {c : Block} → stmt at n (each a x y c) ∈ block_list b → IsEntry (entry C i) at (pos 0) (own_needs w.layout k (each a x y c)) (code.Each (record { body = t'; value = x; turn = y }))
        → (entry C i).offset ≡ at → BodyAs C w.layout k c t' → Finished s K what (script_path p) (stmt at n (each a x y c))
    each_finished {at} {n} {x} {t'} {a} {y} {c} m en mk ba = by ys refl (subst (λ (l : List Need). AnsAll s C K p l ys) en.needs_is (answers_all s C w K wf kn I sc ty ch i 0 there d.effect d.fact.reading))
      where
        by : (zs : List Got) → ys ≡ zs → AnsAll s C K p (code.Closed (name_as k true a) ∷ []) zs → Finished s K what (script_path p) (stmt at n (each a x y c))
        by [] q al = absurd al
        by (z ∷ zs) q al =
            let g = sc.loops k b at n x a y c (chain_scope s C w.layout K wf.names I sc ch) m in
            let r = (says s C w K wf kn I sc ty ch i 0 there d.effect d.fact.reading).array a g (subst (λ (l : List Need). In (code.Closed (name_as k true a)) l) (sym en.needs_is) (inl refl)) z al.0 in
            header_finished m mk (ap steps_on en.act_is) tt (source_closed r.2 r.3) (λ key c' o. opens r.0
            (ap (λ (u : Act). work_out u ys) en.act_is ∙ ap (λ (l : List Got). Turns (content (answer_at l 0))) q ∙ ap (λ (u : Got). Turns (content (Some u))) r.1 ∙ ap (λ (u : Bool). Turns (if u then r.0 else [])) (r.3).in_order) key c' o)
          where
            opens : (xs : Elements) → X ≡ Turns xs → (key : Key) (c' : Block) → Opens (each a x y c) (Many (elements xs) ∷ []) key c' → OpensAt key c'
            opens xs e key c' (item {v = u} h) =
                turn_opens u (record { body = t'; value = x; turn = y }) (ap loop_of en.act_is) (subst (λ (z : Act). In (Through, t') (ways z)) (sym en.act_is) (inl refl)) ba
                (subst (λ (z : Computed). In (key, u) (turns_of z)) (sym e) (in_element xs (record { key = key; value = u }) h))

    range_opens : {at x t' : ℕ} {lo hi : Outer} {st : Option Outer} {y : Option ℕ} {c : Block} {vs : List Value} (ms : List Need) (bd : Bounds) (many : ℕ) → bounds vs ≡ Some bd → range_count bd.low bd.high bd.step ≡ Ok many
        → IsEntry (entry C i) at (pos 0) ms (code.Range (over k ms (seen w.layout lo.cell)) (over k ms (seen w.layout hi.cell)) (over k ms (step_expr w.layout k st)) (record { body = t'; value = x; turn = y }))
        → BodyAs C w.layout k c t' → X ≡ Turns (range_turns bd.low bd.step 0 many) → (key : Key) (c' : Block) → Opens (range lo hi st x y c) vs key c' → OpensAt key c'
    range_opens {x = x} {t' = t'} {y = y} ms bd many bq rc en ba xq key c' (turn {r = r} {n = n'} {i = j} bq' rc' lt) =
        let rb : r ≡ bd = some_same (sym bq' ∙ bq) in
        let nm : n' ≡ many = ok_same (sym rc' ∙ ap (λ (z : Bounds). range_count z.low z.high z.step) rb ∙ rc) in
        turn_opens (Number (value_in bd.low bd.step j)) (record { body = t'; value = x; turn = y }) (ap loop_of en.act_is) (subst (λ (z : Act). In (Through, t') (ways z)) (sym en.act_is) (inl refl)) ba
        (subst (λ (z : Computed). In (Key.Number (pos j), Number (value_in bd.low bd.step j)) (turns_of z)) (sym xq) (turn_there bd.low bd.step 0 many j (omega arith) (omega arith)))

    range_finished : {at n x t' : ℕ} {lo hi : Outer} (st : Option Outer) {y : Option ℕ} {c : Block} → stmt at n (range lo hi st x y c) ∈ block_list b → (ms : List Need) → own_needs w.layout k (range lo hi st x y c) ≡ ms
        → IsEntry (entry C i) at (pos 0) ms (code.Range (over k ms (seen w.layout lo.cell)) (over k ms (seen w.layout hi.cell)) (over k ms (step_expr w.layout k st)) (record { body = t'; value = x; turn = y }))
        → (entry C i).offset ≡ at → BodyAs C w.layout k c t' → RangeAll (eval ys (over k ms (seen w.layout lo.cell))) (eval ys (over k ms (seen w.layout hi.cell))) (eval ys (over k ms (step_expr w.layout k st)))
        → Finished s K what (script_path p) (stmt at n (range lo hi st x y c))
    range_finished {at} {n} {x} {t'} {lo} {hi} None {y} {c} m ms mq en mk ba r =
        let known = range_known s C w K wf kn I sc ty ch i 0 there d.effect d.fact.reading at n x lo hi None y c m ms mq en.needs_is in
        let e1 = wanted k (seen w.layout lo.cell) in
        let e2 = wanted k (seen w.layout hi.cell) in
        let kl = known lo first (λ z j. in_left z e1 _ j) r.low r.low_is in
        let kh = known hi (later first) (λ z j. in_right z e1 _ (in_left z e2 _ j)) r.high r.high_is in
        let ka = next_cell kl (next_cell kh no_cell) in
        let bd = ty.range_bounds (script_path p) at n x lo hi None y c (r.low ∷ r.high ∷ []) (stmt_in s (live m)) ka in
        let nb = bounds_two r.low r.high bd.0 bd.1 in
        let st1 : number_of r.step ≡ bd.0.step = ap number_of (ok_step r.step_is) ∙ sym nb.2 in
        let rc : range_count bd.0.low bd.0.high bd.0.step ≡ Ok r.many = (λ i. range_count (sym nb.0 i) (sym nb.1 i) (sym st1 i)) ∙ r.count in
        let xq : X ≡ Turns (range_turns bd.0.low bd.0.step 0 r.many) = ap (λ (z : Act). work_out z ys) en.act_is ∙ r.turns_is ∙ (λ i. Turns (range_turns (nb.0 i) (st1 i) 0 r.many)) in
        header_finished m mk (ap steps_on en.act_is) tt (cells_known ka (in_turns bd.1 rc)) (range_opens ms bd.0 r.many bd.1 rc en ba xq)
    range_finished {at} {n} {x} {t'} {lo} {hi} (Some o) {y} {c} m ms mq en mk ba r =
        let known = range_known s C w K wf kn I sc ty ch i 0 there d.effect d.fact.reading at n x lo hi (Some o) y c m ms mq en.needs_is in
        let e1 = wanted k (seen w.layout lo.cell) in
        let e2 = wanted k (seen w.layout hi.cell) in
        let e3 = wanted k (seen w.layout o.cell) in
        let kl = known lo first (λ z j. in_left z e1 _ j) r.low r.low_is in
        let kh = known hi (later first) (λ z j. in_right z e1 _ (in_left z e2 _ j)) r.high r.high_is in
        let ks = known o (later (later first)) (λ z j. in_right z e1 _ (in_right z e2 _ (in_left z e3 _ j))) r.step r.step_is in
        let ka = next_cell kl (next_cell kh (next_cell ks no_cell)) in
        let bd = ty.range_bounds (script_path p) at n x lo hi (Some o) y c (r.low ∷ r.high ∷ r.step ∷ []) (stmt_in s (live m)) ka in
        let nb = bounds_three r.low r.high r.step bd.0 bd.1 in
        let rc : range_count bd.0.low bd.0.high bd.0.step ≡ Ok r.many = (λ i. range_count (sym nb.0 i) (sym nb.1 i) (sym nb.2 i)) ∙ r.count in
        let xq : X ≡ Turns (range_turns bd.0.low bd.0.step 0 r.many) = ap (λ (z : Act). work_out z ys) en.act_is ∙ r.turns_is ∙ (λ i. Turns (range_turns (nb.0 i) (nb.2 i) 0 r.many)) in
        header_finished m mk (ap steps_on en.act_is) tt (cells_known ka (in_turns bd.1 rc)) (range_opens ms bd.0 r.many bd.1 rc en ba xq)

    any_range : {at n x t' : ℕ} {lo hi : Outer} {st : Option Outer} {y : Option ℕ} {c : Block} → stmt at n (range lo hi st x y c) ∈ block_list b → (ms : List Need) → own_needs w.layout k (range lo hi st x y c) ≡ ms
        → IsEntry (entry C i) at (pos 0) ms (code.Range (over k ms (seen w.layout lo.cell)) (over k ms (seen w.layout hi.cell)) (over k ms (step_expr w.layout k st)) (record { body = t'; value = x; turn = y }))
        → (entry C i).offset ≡ at → BodyAs C w.layout k c t' → Finished s K what (script_path p) (stmt at n (range lo hi st x y c))
    any_range {st = st} m ms mq en mk ba =
        range_finished st m ms mq en mk ba (range_all _ _ _ (λ g q. fails g (ap (λ (z : Act). work_out z ys) en.act_is ∙ q)))

    -- WAITS
    content_done : {t' : ℕ} {b' : Block} (st0 : Stmt) → st0 ∈ block_list b → {hs0 : List Header} → IsEntry (entry C i) (stmt_at st0) (pos 0) (each_once (flat_map (λ h. h.needs) hs0)) (Wait hs0 t')
        → {st : Stmt} {hs : List Header} → WaitAs C w.layout k st hs t' → InScope s k b' → b' ∈ script_blocks s → st ∈ block_list b' → OnlyAt s wf.names what b' up → NoneInside b' what
        → ((n : Need) → In n (flat_map (λ h. h.needs) hs) → In n (entry C i).needs)
        → ((c : Block) → Waited s C w.layout K (script_path p) st c → Waited s C w.layout K (script_path p) st0 c)
        → Finished s K what (script_path p) st
    content_done {t' = t'} {b' = b'} st0 m0 en (one_wait {at = at} {n = n} {ns = ns} {b = c} ba q) g bs m only none sub wrap =
        content_finished r (λ st' m'. inner (by_wait i ch m0 there (subst (λ (z : Act). In (InPlace, t') (ways z)) (sym en.act_is) (inl refl)) ba (wrap c (one_ready r)))
        (λ j jm. d.below (t', p) (now_opened (at_once (t', p) en.act_is (ap (λ (z : Act). work_out z ys) en.act_is) (inl refl))) j jm) up what
        (record { place_is = inv.place_is; no_input = inv.no_input; only = only_wait s wf.names what none m only; none = none_inner b' none m first }) st' m')
      where
        r : Ready s K (script_path p) (wait ns c) []
        r = names_known (λ x j. awaited_come s C w K wf kn I sc ty ch i 0 there d.effect d.fact.reading x (sc.waits k b' at n ns c x g m j) (sub _ (subst (λ (l : List Header). In (awaited_need k x) (flat_map (λ h. h.needs) l)) (sym q) (in_left _ (map (awaited_need k) ns) [] (awaited_all s C w K wf kn I sc ty ch i 0 there d.effect d.fact.reading ns x j)))))
    content_done {b' = b'} st0 m0 en (merged {at = at} {n = n} {ns = ns} {st = st'} {gs = gs} wa q) g bs m only none sub wrap =
        content_finished r (λ st'' m''. subst (λ (z : Stmt). Finished s K what (script_path p) z) (sym (only_one m''))
        (content_done st0 m0 en wa (in_wait g m) (inner_block s bs m first) first (only_wait s wf.names what none m only) (none_inner b' none m first)
        (λ x j. sub x (subst (λ (l : List Header). In x (flat_map (λ h. h.needs) l)) (sym q) (in_right x (map (awaited_need k) ns) _ j))) (λ c y. wrap c (more_ready r y))))
      where
        r : Ready s K (script_path p) (wait ns (stmts st' no_stmts)) []
        r = names_known (λ x j. awaited_come s C w K wf kn I sc ty ch i 0 there d.effect d.fact.reading x (sc.waits k b' at n ns _ x g m j) (sub _ (subst (λ (l : List Header). In (awaited_need k x) (flat_map (λ h. h.needs) l)) (sym q) (in_left _ (map (awaited_need k) ns) _ (awaited_all s C w K wf kn I sc ty ch i 0 there d.effect d.fact.reading ns x j)))))

    -- A CALL ALONE
    call_finished : {at n : ℕ} {pr : ℤ} {ps : List Part} {c : Call} {all : List Part} {at' : ℕ} {pr' : ℤ} → stmt at n (call_alone pr ps c) ∈ block_list b → c ∈ stmt_calls (stmt at n (call_alone pr ps c)) → CallAs C w.layout k all at' pr' c i
        → ((x : Cell) → x ∈ part_cells all → x ∈ cells (stmt at n (call_alone pr ps c))) → Finished s K what (script_path p) (stmt at n (call_alone pr ps c))
    call_finished {at} {n} {pr} {ps} {c} m cm ca cs =
        body_finished deep (λ j x st' e q m'. subst (λ (o : Option Function). st' ∈ stmts_of o → Finished s K (output j) ((c.at, Key.Number (pos 0)) ∷ script_path p) st') (sym fq) (λ m''. by j x st' e q m'') m')
      where
        g : (f : Function) × (slice_get s.functions c.function ≡ Some f) × (length c.inputs ≡ f.inputs)
        g = sc.calls (stmt at n (call_alone pr ps c)) c (stmt_in s (live m)) cm

        fq : slice_get s.functions c.function ≡ Some g.0
        fq = g.1

        h : In (w.layout.body_of c.function, step_at (entry C i).offset (Key.Number (pos 0)) p) (instances (entry C i).act (entry C i).offset p 0 X)
        h = at_once _ ca.is.act_is (ap (λ (z : Act). work_out z ys) ca.is.act_is) (inl refl)

        deep : length (script_path p) < max_path_steps
        deep = depth_at _ (ap steps_on ca.is.act_is) h

        by : (j : ℕ) (x : Name) (st' : Stmt) → slice_get c.outputs j ≡ Some x → x.what ≡ what → st' ∈ block_list (g.0).body → Finished s K (output j) ((c.at, Key.Number (pos 0)) ∷ script_path p) st'
        by j x st' e q m' =
            inner (by_call i ch m cm there ca cs fq g.2 (w.functions c.function g.0 fq) deep)
            (λ z jm. subst (λ (y : ℕ). G z (step_at y (Key.Number (pos 0)) p)) ca.offset_is (d.below (w.layout.body_of c.function, step_at (entry C i).offset (Key.Number (pos 0)) p) (now_opened h) z jm))
            0 (output j)
            (record { place_is = place_out; no_input = λ z y. absurd (cc (y)); only = only_output s wf.names (output j) c.function g.0 fq; none = none_output (g.0).body j })
            st' m'
          where
            up_is : x.up ≡ up
            up_is = inv.only x.up (subst (λ (z : Owned). Uses b x.up z) q (own m (inl (output_in c.outputs j x e))))

            place_out : place_of s ((c.at, Key.Number (pos 0)) ∷ script_path p) 0 (output j) ≡ script_place p0 v0
            place_out =
                ap (λ (z : Option Call). place s (script_path p) (output_name z j)) (wf.names.call_found b (stmt at n (call_alone pr ps c)) c script_block m cm)
                ∙ ap (λ (z : Name). place s (script_path p) z) (output_found c.outputs j x e) ∙ (λ z. place_of s (script_path p) (up_is z) (q z)) ∙ inv.place_is

    -- SIMPLE STATEMENTS
    needs_sub : (ms : List Need) → (entry C i).needs ≡ ms → (E : Expr) → ((x : Need) → In x (wanted k E) → In x ms) → (r : Result Value OpFault) → eval ys (over k ms E) ≡ r → AreIn k E → ValueUnder s K (script_path p) E r
    needs_sub ms q E sub r e g = subst (λ (z : Result Value OpFault). ValueUnder s K (script_path p) E z) e (value_of s C w K wf kn I sc ty ch i 0 there d.effect d.fact.reading E g ms q sub)

    fill_ok : (nd : ℕ) (ms : List Need) (x : Name) (fm : Form) → IsMany fm → (entry C i).act ≡ fill_act w.layout k ms x (own_form nd fm) → (r : Result Value OpFault) → eval ys (over k ms (own_form nd fm)) ≡ r → (v : Value) × (r ≡ Ok v)
    fill_ok nd ms x fm mn e (Ok v) q = (v, refl)
    fill_ok nd ms x fm (a_list {es = es}) e (Err g) q = absurd (fails (InOperation g) (ap (λ (z : Act). work_out z ys) e ∙ ap filled q))
    fill_ok nd ms x fm a_copy e (Err g) q = absurd (cc (q))

    fill_finished : {at n : ℕ} {x : Name} {o : Outer} → stmt at n (fill x o) ∈ block_list b → (ms : List Need) → own_needs w.layout k (fill x o) ≡ ms → (entry C i).needs ≡ ms → (entry C i).act ≡ fill_act w.layout k ms x (own_expr o) → Finished s K what (script_path p) (stmt at n (fill x o))
    fill_finished {at} {n} {x} {o} m ms mq nq aq = by o.cell.form refl (wf.cells.fill_many at n x o (stmt_in s (live m)))
      where
        cm : o.cell ∈ cells (stmt at n (fill x o))
        cm = outer_in o.parts o.cell

        in_scope : FormIn k o.cell.form
        in_scope = (sc.statements k b (stmt at n (fill x o)) (chain_scope s C w.layout K wf.names I sc ch) m).in_cells o.cell cm

        sub : (z : Need) → In z (wanted k (own_expr o)) → In z ms
        sub z h = subst (λ (l : List Need). In z l) mq (in_once z _ (in_left z (wanted k (own_expr o)) [] h))

        by : (fm : Form) → o.cell.form ≡ fm → IsMany o.cell.form → Finished s K what (script_path p) (stmt at n (fill x o))
        by (read a j) q mn = absurd (not_read (subst IsMany q mn))
          where
            not_read : {a : Name} {j : ℕ} → IsMany (read a j) → ⊥
            not_read h = elim h [ ]
        by (compute E) q mn =
            let eq : own_expr o ≡ E = ap (own_form o.cell.node) q in
            let r = fill_ok o.cell.node ms x o.cell.form mn aq (eval ys (over k ms (own_expr o))) refl in
            let u = needs_sub ms nq E (λ z h. sub z (subst (λ (y : Expr). In z (wanted k y)) (sym eq) h)) (Ok r.0) (ap (λ (y : Expr). eval ys (over k ms y)) (sym eq) ∙ r.1) (subst (λ (y : Form). FormIn k y) q in_scope) in
            value_known (kn.shut _ (cell_value (live m) cm (subst (λ (y : Form). Mn.Gives s K (script_path p) y (Ok r.0)) (sym q) (computed u))))

    insert_finished : {at n : ℕ} {x : Name} {j o : Outer} → stmt at n (insert x j o) ∈ block_list b → (ms : List Need) → own_needs w.layout k (insert x j o) ≡ ms → (entry C i).needs ≡ ms
        → (entry C i).act ≡ code.InsertElement (name_as k true x) (over k ms (seen w.layout j.cell)) (over k ms (seen w.layout o.cell)) → Finished s K what (script_path p) (stmt at n (insert x j o))
    insert_finished {at} {n} {x} {j} {o} m ms mq nq aq = by (eval ys (over k ms (seen w.layout j.cell))) (eval ys (over k ms (seen w.layout o.cell))) refl refl
      where
        x_is : X ≡ insert_element (eval ys (over k ms (seen w.layout j.cell))) (eval ys (over k ms (seen w.layout o.cell)))
        x_is = ap (λ (z : Act). work_out z ys) aq

        e1 : List Need
        e1 = wanted k (seen w.layout j.cell)

        e2 : List Need
        e2 = wanted k (seen w.layout o.cell)

        by : (r r' : Result Value OpFault) → eval ys (over k ms (seen w.layout j.cell)) ≡ r → eval ys (over k ms (seen w.layout o.cell)) ≡ r' → Finished s K what (script_path p) (stmt at n (insert x j o))
        by (Err g) r' q q' = absurd (fails (InOperation g) (x_is ∙ ap (λ (z : Result Value OpFault). insert_element z (eval ys (over k ms (seen w.layout o.cell)))) q))
        by (Ok v) (Err g) q q' = absurd (fails (InOperation g) (x_is ∙ (λ z. insert_element (q z) (q' z))))
        by (Ok v) (Ok u) q q' =
            let kj = cell_known_by s C w K wf kn I sc ty ch i 0 there d.effect d.fact.reading at n (insert x j o) j.cell m (index_in j o) ms nq (λ z h. subst (λ (l : List Need). In z l) mq (in_once z _ (in_left z e1 _ h))) v q in
            let ko = cell_known_by s C w K wf kn I sc ty ch i 0 there d.effect d.fact.reading at n (insert x j o) o.cell m (right_in j o) ms nq (λ z h. subst (λ (l : List Need). In z l) mq (in_once z _ (in_right z e1 _ (in_left z e2 _ h)))) u q' in
            let tj = ty.insert_key (script_path p) at n x j o v (stmt_in s (live m)) kj in
            let to = ty.cell_one (script_path p) at n (insert x j o) o.cell u (stmt_in s (live m)) (to_right j.parts _ (later (to_right o.parts _ first))) ko in
            write_known (kn.shut _ (inserted (live m) (before kj) tj.2 (before (subst (λ (y : Value). K (value (script_path p, o.cell.node) y)) to.1 ko))))

    assign_finished : {at n : ℕ} {x : Name} {o : Outer} {E : code.Expr} → stmt at n (assign x o) ∈ block_list b → (entry C i).act ≡ code.Set (name_as k false x) E → Finished s K what (script_path p) (stmt at n (assign x o))
    assign_finished {at} {n} {x} {o} m aq = no_target (λ tg. by (only_one tg))
      where
        by : what ≡ x.what → ⊥
        by e =
            let up_is : x.up ≡ up = inv.only x.up (subst (λ (z : Owned). Uses b x.up z) (sym e) (own m (inl first))) in
            let right = target_right C w.layout I k i false x aq (inl refl) in
            let place_is : place s (script_path p) x ≡ script_place p0 v0 = (λ z. place_of s (script_path p) (up_is z) (sym e z)) ∙ inv.place_is in
            let h = right_hits s C w K wf I sc ch i there false x right (λ j q. absurd (inv.no_input j (e ∙ q))) p0 v0 ar place_is in
            absurd (cc (h.0))

    simple_finished : {at n : ℕ} {a : Action} → stmt at n a ∈ block_list b → IsSimple a → IsEntry (entry C i) at (own_priority a) (own_needs w.layout k a) (simple_act w.layout k (own_needs w.layout k a) a) → Finished s K what (script_path p) (stmt at n a)
    simple_finished {a = assign x o} m z en = assign_finished m en.act_is
    simple_finished {a = fill x o} m z en = fill_finished m _ refl en.needs_is en.act_is
    simple_finished {a = insert x j o} m z en = insert_finished m _ refl en.needs_is en.act_is
    simple_finished {a = print x o} m z en = no_target (λ tg. elim tg [ ])
    simple_finished {a = assert x o} m z en = no_target (λ tg. elim tg [ ])
    simple_finished {a = declare v} m z en = absurd z
    simple_finished {a = call_alone x y o} m z en = absurd z
    simple_finished {a = when o d} m z en = absurd z
    simple_finished {a = choose o d e} m z en = absurd z
    simple_finished {a = range o d e f g h} m z en = absurd z
    simple_finished {a = each o d e f} m z en = absurd z
    simple_finished {a = wait o d} m z en = absurd z

    carried : {st : Stmt} → st ∈ block_list b → Carries C w.layout k i st → Finished s K what (script_path p) st
    carried m (by_own (own_simple z en nd)) = simple_finished m z en
    carried m (by_own (own_branch en mk ba)) = when_finished m en mk ba
    carried m (by_own (own_branches en mk ba bb)) = choose_finished m en mk ba bb
    carried m (by_own (own_range en mk ba)) = any_range m _ refl en mk ba
    carried m (by_own (own_each en mk ba)) = each_finished m en mk ba
    carried m (by_own (own_wait {at = at} {n = n} {ns = ns} {b = c} wa en)) =
        content_done (stmt at n (wait ns c)) m en wa (chain_scope s C w.layout K wf.names I sc ch) script_block m inv.only inv.none (λ z h. subst (λ (l : List Need). In z l) (sym en.needs_is) (in_once z _ h)) (λ c y. y)
    carried m (by_alone {at = at} {n = n} {p = pr} {ps = ps} {c = c} ca cs) = call_finished m (alone_call at n pr ps c) ca cs

  close : (i : ℕ) (p : List Step) → Step_ s C K kn I (Datum p0 v0) G i p 0 → G i p
  close i p (inl z) t k b ch there st m cr up what inv = no_target (λ tg. z (right_to ch i there st m cr up what inv tg))
  close i p (inr d) t k b ch there st m cr up what inv = carried ch i there d up what inv m cr

module _ (s : Core) (C : Code) (w : IsCodeOf s C) (K : Knowledge) (wf : WellFormed s) (kn : Knows s K) (I : IsCode C) (sc : Scoped s) (ty : TypedValues s K) where
  -- CLOSED IN THE CODE, CLOSED IN THE SCRIPT
  pub closed_to : ClosedTo s C K
  closed_to p0 v0 a0 cl =
      let md = made_in_block s C w K wf kn I sc ty cl.made.task cl.made.effect cl.made.opening (Datum p0 v0) cl.made.fact cl.made.opens cl.made.makes in
      by md.path md.variable md.is md.body_number md.inputs md.block_of md.chain md.opening_is md.made
    where
      by : (path : List Step) (v : Variable) → Datum p0 v0 ≡ Datum path v → (t k : ℕ) (b : Block) → Chain s C w.layout K path t k b → cl.made.opening ≡ block C (t, path) → In v (body C t).makes → Mn.Closed s K (script_place p0 v0)
      by path v e t k b ch oq h =
          let am = array_made s C w K wf I sc (chain_body s C w.layout K wf.names I sc ch) h (ap (λ (z : Variable). z.array) (sym (spot_variable e)) ∙ a0) in
          subst (λ (z : Place). Mn.Closed s K z) (sym (λ z. script_place (spot_path e z) (spot_variable e z))) (closed (chain_live s C w.layout K wf.names I sc ch) (decl am.1 (sym (local_same (am.1).is))) (fin am.0 am.1) (kn.one_writer (script_place path v)))
        where
          decl : (d : Declares b (local v.node)) → d.node ≡ v.node → stmt d.at d.stmt_node (declare v.node) ∈ block_list b
          decl d q = subst (λ (z : ℕ). stmt d.at d.stmt_node (declare z) ∈ block_list b) q d.there

          fin : IsArrayAt s C w K wf I sc v → Declares b (local v.node) → (st : Stmt) → st ∈ block_list b → Finished s K (local v.node) (script_path path) st
          fin ar d st m =
              let bs = live_block s (chain_live s C w.layout K wf.names I sc ch) in
              inner s C w K wf kn I sc ty path v ar ch
              (λ j jm. item_closes s C K kn I (Datum path v) (G s C w K wf kn I sc ty path v ar) (close s C w K wf kn I sc ty path v ar) j path
              (subst (λ (z : CodePlaces.Place). Fa.Finished (code_system C) (Facts s C K) z (Item j path 0)) e
              (cl.finished (Item j path 0) (subst (λ (o : Opening Task CodePlaces.Place). In (Item j path 0) o.tasks) (sym oq) (in_map (λ (z : ℕ). Item z path 0) j (body C t).entries jm)))))
              0 (local v.node)
              (record { place_is = place_here s (script_path path) v.node; no_input = λ z y. absurd (cc (y)); only = only_declared s wf.names (local v.node) b bs d; none = none_declared s wf.names (local v.node) b bs d })
              st m
