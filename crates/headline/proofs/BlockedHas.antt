-- A statement whose own entry has an effect, by the script's answers, has its own fact in the script.
use Rattle.std.proofs.Common.{◌≡◌, inl, ℕ, true, List, [], ◌∷◌, ◌++◌, refl, sym, ap, ◌∙◌, subst, Option, Some, None, Result, Ok, Err}
use Rattle.dataflow.specs.System.{In, Effect}
use Rattle.dataflow.proofs.Lists.{in_left, in_right}
use Rattle.values.specs.declared.fault.OpFault.{OpFault}
use Rattle.values.specs.declared.key.Key.{Key}
use Rattle.values.specs.declared.value.Scalar.{Scalar}
use Rattle.values.specs.declared.value.Scalar.TheVariants.{Truth}
use Rattle.values.specs.declared.value.Value.{Value}
use Rattle.values.specs.declared.value.Value.TheVariants.{One}
use Rattle.values.specs.Ranges.{range_count}
use Rattle.values.specs.Values.{number_of}
use Rattle.language.specs.Core as Co
use Rattle.language.specs.Core.{Name, Form, compute, read, Cell, Outer, Stmt, stmt, Action, assign, fill, insert, print, assert, when, choose, range, each, Block, Core}
use Rattle.language.specs.Facts.{value, Knowledge, no_cell, next_cell}
use Rattle.language.specs.Meaning.{ValueUnder, Gives, LiveStmt, in_block, computed, cells_known, source_closed, cell_value, inserted, printed, before}
use Rattle.language.specs.Members.{◌∈◌, first, later}
use Rattle.language.specs.Openings.{in_turns, one_way, two_ways}
use Rattle.language.specs.Outcomes.{OwnFact, IsReady}
use Rattle.language.specs.Parts.{cells, block_list}
use Rattle.language.specs.WellFormed.{IsMany, a_list, a_copy, WellFormed}
use Rattle.language.proofs.Members.{to_right}
use Rattle.language_laws.proofs.Declared.{stmt_in, place_here}
use Rattle.language_laws.proofs.Sources.{outer_in, index_in, right_in, cell_gives}
use Rattle.language_laws.specs.Scoped.{FormIn, Scoped}
use Rattle.language_laws.specs.TypedValues.{TypedValues}
use Rattle.task_code.specs.Code as code
use Rattle.task_code.specs.Code.{Need, Act, Code, entry, body}
use Rattle.task_code.specs.Compute.{EntryFault, InOperation, Computed, Fails, eval, branched, given, filled, insert_element, compute as work_out}
use Rattle.task_code.specs.Effects.{Task, Item, effect_at, instances, outcome_of, is_too_deep}
use Rattle.task_code.specs.Places as CodePlaces
use Rattle.task_code.specs.Places.{Step}
use Rattle.task_code.specs.System.{answered, code_system}
use Rattle.task_code.specs.Whole.{IsCode}
use Rattle.code_rules.proofs.Given.{true_value}
use Rattle.code_rules.proofs.Given.{gives_value}
use Rattle.code_rules.specs.CodeNames.{name_as, wanted, over, each_once}
use Rattle.headline.specs.Headline.{script_path}
use Rattle.code_rules.specs.IsCodeOf.{seen, own_form, own_expr, own_needs, own_priority, fill_act, simple_act, step_expr, IsSimple, IsEntry, IsCodeOf}
use Rattle.headline.specs.Asserted.{Asserted}
use Rattle.headline.specs.Answered.{Reading}
use Rattle.headline.specs.Chains.{Answers, Chain}
use Rattle.headline.specs.Knows.{Knows}
use Rattle.headline.proofs.Evaluate.{Got, AnsAll, in_once}
use Rattle.headline.proofs.LiveTo.{value_of, says, answers_all, condition_known, cell_known_by, range_known, bounds_two, bounds_three, ok_step}
use Rattle.headline.proofs.Means.{chain_live, chain_scope}
use Rattle.headline.proofs.NoFault.{bad_good, RangeAll, range_all}
use Rattle.headline.proofs.Opening.{name_value}
use Rattle.headline.proofs.Readings.{cell_has}
use Rattle.headline.proofs.Roles.{OwnAs, own_simple, own_branch, own_branches, own_range, own_each, own_wait}
use Rattle.headline.proofs.WrittenTo.{own_in_scope}

-- a statement that is no wait
abbrev pub NoWait : Action → Type 0
NoWait (Co.wait ns d) = ⊥
NoWait a = Unit {0}

module _ (s : Core) (C : Code) (w : IsCodeOf s C) (K : Knowledge) (wf : WellFormed s) (kn : Knows s K) (I : IsCode C) (sc : Scoped s) (ty : TypedValues s K) (asserts : Asserted s)
    {p : List Step} {t k : ℕ} {b : Block} (ch : Chain s C w.layout K p t k b) (i c : ℕ) (there : In i (body C t).entries) (e : Effect Task CodePlaces.Place Key Scalar) (f : Reading (code_system C) (Answers s K) (Item i p c) e) where
  abbrev ys : List Got
  ys = answered C p (entry C i).needs f.answers

  abbrev X : Computed
  X = work_out (entry C i).act (answered C p (entry C i).needs f.answers)

  fails : (g : EntryFault) → X ≡ Fails g → ⊥
  fails g q = bad_good (sym (ap (λ (z : Computed). outcome_of z (is_too_deep (entry C i).act p (instances (entry C i).act (entry C i).offset p c X)) (effect_at C i p c X)) q) ∙ f.is)

  live : {st : Stmt} → st ∈ block_list b → LiveStmt s K (script_path p) st
  live m = in_block (chain_live s C w.layout K wf.names I sc ch) m

  abbrev Has : ℕ → Action → Type 0
  Has n a = OwnFact s K (script_path p) n a

  in_form : {at n : ℕ} {a : Action} (o : Cell) → stmt at n a ∈ block_list b → o ∈ cells (stmt at n a) → FormIn k o.form
  in_form {at} {n} {a} o m cm = (sc.statements k b (stmt at n a) (chain_scope s C w.layout K wf.names I sc ch) m).in_cells o cm

  -- THE CELL THAT THE ENTRY WORKS OUT ITSELF
  own_known : {at n : ℕ} {a : Action} (o : Outer) {v : Value} → stmt at n a ∈ block_list b → o.cell ∈ cells (stmt at n a) → ValueUnder s K (script_path p) (own_expr o) (Ok v) → K (value (script_path p, o.cell.node) v)
  own_known {at} {n} {a} o {v} m cm u = by o.cell.form refl u
    where
      by : (g : Form) → o.cell.form ≡ g → ValueUnder s K (script_path p) (own_form o.cell.node g) (Ok v) → K (value (script_path p, o.cell.node) v)
      by (compute ex) q u = kn.shut _ (cell_value (live m) cm (subst (λ (z : Form). Gives s K (script_path p) z (Ok v)) (sym q) (computed u)))
      by (read y j) q u =
          let r = name_value s wf K kn w.layout u refl refl in
          subst (λ (z : Value). K (value (script_path p, o.cell.node) z)) (sym r.1) (cell_has s wf K r.2 (script_path p) (stmt at n a) o.cell (stmt_in s (live m)) cm (place_here s (script_path p) o.cell.node))

  own_value : {at n : ℕ} {a : Action} (o : Outer) (ms : List Need) → stmt at n a ∈ block_list b → o.cell ∈ cells (stmt at n a) → (entry C i).needs ≡ ms → ((m : Need) → In m (wanted k (own_expr o)) → In m ms) → X ≡ given (eval ys (over k ms (own_expr o)))
      → (v : Value) × K (value (script_path p, o.cell.node) v)
  own_value o ms m cm nq sub x = by (eval ys (over k ms (own_expr o))) refl
    where
      by : (r : Result Value OpFault) → eval ys (over k ms (own_expr o)) ≡ r → (v : Value) × K (value (script_path p, o.cell.node) v)
      by (Err g) q = absurd (fails (InOperation g) (x ∙ ap given q))
      by (Ok v) q = (
        v,
        own_known o m cm (subst (λ (z : Result Value OpFault). ValueUnder s K (script_path p) (own_expr o) z) q
            (value_of s C w K wf kn I sc ty ch i c there e f (own_expr o) (own_in_scope s C w K wf kn I sc ty ch i c there e f o (in_form o.cell m cm)) ms nq sub)),
      )

  -- A LITERAL AND A COPY
  fill_ok : (nd : ℕ) (ms : List Need) (x : Name) (fm : Form) → IsMany fm → (entry C i).act ≡ fill_act w.layout k ms x (own_form nd fm) → (r : Result Value OpFault) → eval ys (over k ms (own_form nd fm)) ≡ r → (v : Value) × (r ≡ Ok v)
  fill_ok nd ms x fm mn e (Ok v) q = (v, refl)
  fill_ok nd ms x fm (a_list {es = es}) e (Err g) q = absurd (fails (InOperation g) (ap (λ (z : Act). work_out z ys) e ∙ ap filled q))
  fill_ok nd ms x fm a_copy e (Err g) q = absurd (cc (q))

  fill_has : {at n : ℕ} {x : Name} (o : Outer) → stmt at n (fill x o) ∈ block_list b → (ms : List Need) → own_needs w.layout k (fill x o) ≡ ms → (entry C i).needs ≡ ms → (entry C i).act ≡ fill_act w.layout k ms x (own_expr o) → Has n (fill x o)
  fill_has {at} {n} {x} o m ms mq nq aq =
      let cm = outer_in o.parts o.cell in
      let r = fill_ok o.cell.node ms x o.cell.form (wf.cells.fill_many at n x o (stmt_in s (live m))) aq (eval ys (over k ms (own_expr o))) refl in (
        r.0,
        own_known o m cm (subst (λ (z : Result Value OpFault). ValueUnder s K (script_path p) (own_expr o) z) r.1
            (value_of s C w K wf kn I sc ty ch i c there e f (own_expr o) (own_in_scope s C w K wf kn I sc ty ch i c there e f o (in_form o.cell m cm)) ms nq (λ z h. subst (λ (l : List Need). In z l) mq (in_once z _ (in_left z (wanted k (own_expr o)) [] h))))),
      )

  -- ONE ELEMENT
  insert_has : {at n : ℕ} {x : Name} (j o : Outer) → stmt at n (insert x j o) ∈ block_list b → (ms : List Need) → own_needs w.layout k (insert x j o) ≡ ms → (entry C i).needs ≡ ms
      → (entry C i).act ≡ code.InsertElement (name_as k true x) (over k ms (seen w.layout j.cell)) (over k ms (seen w.layout o.cell)) → Has n (insert x j o)
  insert_has {at} {n} {x} j o m ms mq nq aq = by (eval ys (over k ms (seen w.layout j.cell))) (eval ys (over k ms (seen w.layout o.cell))) refl refl
    where
      x_is : X ≡ insert_element (eval ys (over k ms (seen w.layout j.cell))) (eval ys (over k ms (seen w.layout o.cell)))
      x_is = ap (λ (z : Act). work_out z ys) aq

      e1 : List Need
      e1 = wanted k (seen w.layout j.cell)

      e2 : List Need
      e2 = wanted k (seen w.layout o.cell)

      by : (r r' : Result Value OpFault) → eval ys (over k ms (seen w.layout j.cell)) ≡ r → eval ys (over k ms (seen w.layout o.cell)) ≡ r' → Has n (insert x j o)
      by (Err g) r' q q' = absurd (fails (InOperation g) (x_is ∙ ap (λ (z : Result Value OpFault). insert_element z (eval ys (over k ms (seen w.layout o.cell)))) q))
      by (Ok v) (Err g) q q' = absurd (fails (InOperation g) (x_is ∙ (λ z. insert_element (q z) (q' z))))
      by (Ok v) (Ok u) q q' =
          let kj = cell_known_by s C w K wf kn I sc ty ch i c there e f at n (insert x j o) j.cell m (index_in j o) ms nq (λ z h. subst (λ (l : List Need). In z l) mq (in_once z _ (in_left z e1 _ h))) v q in
          let ko = cell_known_by s C w K wf kn I sc ty ch i c there e f at n (insert x j o) o.cell m (right_in j o) ms nq (λ z h. subst (λ (l : List Need). In z l) mq (in_once z _ (in_right z e1 _ (in_left z e2 _ h)))) u q' in
          let tj = ty.insert_key (script_path p) at n x j o v (stmt_in s (live m)) kj in
          let to = ty.cell_one (script_path p) at n (insert x j o) o.cell u (stmt_in s (live m)) (to_right j.parts _ (later (to_right o.parts _ first))) ko in
          (_, to.0, kn.shut _ (inserted (live m) (before kj) tj.2 (before (subst (λ (y : Value). K (value (script_path p, o.cell.node) y)) to.1 ko))))

  pub simple_has : (at n : ℕ) (a : Action) → IsSimple a → stmt at n a ∈ block_list b → IsEntry (entry C i) at (own_priority a) (own_needs w.layout k a) (simple_act w.layout k (own_needs w.layout k a) a) → Has n a
  simple_has at n (assign x o) z m en = own_value o (own_needs w.layout k (assign x o)) m (outer_in o.parts o.cell) en.needs_is (λ z j. in_once z _ (in_left z _ [] j)) (ap (λ (z : Act). work_out z ys) en.act_is)
  simple_has at n (fill x o) z m en = fill_has o m _ refl en.needs_is en.act_is
  simple_has at n (insert x j o) z m en = insert_has j o m _ refl en.needs_is en.act_is
  simple_has at n (print x o) z m en =
      let r = own_value o (own_needs w.layout k (print x o)) m (outer_in o.parts o.cell) en.needs_is (λ z j. in_once z _ (in_left z _ [] j)) (ap (λ (z : Act). work_out z ys) en.act_is) in
      let tx = ty.print_text (script_path p) at n x o r.0 (stmt_in s (live m)) r.1 in
      (tx.0, kn.shut _ (printed (live m) (before (subst (λ (z : Value). K (value (script_path p, o.cell.node) z)) tx.1 r.1))))
  simple_has at n (assert x o) z m en =
      let r = own_value o (own_needs w.layout k (assert x o)) m (outer_in o.parts o.cell) en.needs_is (λ z j. in_once z _ (in_left z _ [] j)) (ap (λ (z : Act). work_out z ys) en.act_is) in
      let g = (cell_gives s wf.cells K (stmt_in s (live m)) (outer_in o.parts o.cell) (kn.backed _ r.1)).1 in
      let q = asserts at n x o (stmt_in s (live m)) in
      subst (λ (z : Value). K (value (script_path p, o.cell.node) z)) (true_value (gives_value g q.1)) r.1
  simple_has at n (Co.declare v) z m en = absurd z
  simple_has at n (Co.call_alone x y o) z m en = absurd z
  simple_has at n (when o d) z m en = absurd z
  simple_has at n (choose o d e) z m en = absurd z
  simple_has at n (range o d e f g l) z m en = absurd z
  simple_has at n (each o d e f) z m en = absurd z
  simple_has at n (Co.wait o d) z m en = absurd z

  -- HEADERS
  condition_ok : {at n : ℕ} {a : Action} (o : Outer) → stmt at n a ∈ block_list b → o.cell ∈ cells (stmt at n a) → (entry C i).needs ≡ each_once (wanted k (seen w.layout o.cell) ++ []) → X ≡ branched (eval ys (over k (each_once (wanted k (seen w.layout o.cell) ++ [])) (seen w.layout o.cell)))
      → (v : Value) × K (value (script_path p, o.cell.node) v)
  condition_ok {at} {n} {a} o m cm nq x = by (eval ys (over k (each_once (wanted k (seen w.layout o.cell) ++ [])) (seen w.layout o.cell))) refl
    where
      by : (r : Result Value OpFault) → eval ys (over k (each_once (wanted k (seen w.layout o.cell) ++ [])) (seen w.layout o.cell)) ≡ r → (v : Value) × K (value (script_path p, o.cell.node) v)
      by (Err g) q = absurd (fails (InOperation g) (x ∙ ap branched q))
      by (Ok v) q = (v, (condition_known s C w K wf kn I sc ty ch i c there e f at n a o m cm nq v q).1)

  range_has : {at n x : ℕ} {lo hi : Outer} (st : Option Outer) {y : Option ℕ} {d : Block} → stmt at n (range lo hi st x y d) ∈ block_list b → (ms : List Need) → own_needs w.layout k (range lo hi st x y d) ≡ ms
      → (entry C i).needs ≡ ms → RangeAll (eval ys (over k ms (seen w.layout lo.cell))) (eval ys (over k ms (seen w.layout hi.cell))) (eval ys (over k ms (step_expr w.layout k st))) → IsReady s K (script_path p) (range lo hi st x y d)
  range_has {at} {n} {x} {lo} {hi} None {y} {d} m ms mq nq r =
      let known = range_known s C w K wf kn I sc ty ch i c there e f at n x lo hi None y d m ms mq nq in
      let e1 = wanted k (seen w.layout lo.cell) in
      let e2 = wanted k (seen w.layout hi.cell) in
      let kl = known lo first (λ z j. in_left z e1 _ j) r.low r.low_is in
      let kh = known hi (later first) (λ z j. in_right z e1 _ (in_left z e2 _ j)) r.high r.high_is in
      let ka = next_cell kl (next_cell kh no_cell) in
      let bd = ty.range_bounds (script_path p) at n x lo hi None y d (r.low ∷ r.high ∷ []) (stmt_in s (live m)) ka in
      let nb = bounds_two r.low r.high bd.0 bd.1 in
      let st1 : number_of r.step ≡ bd.0.step = ap number_of (ok_step r.step_is) ∙ sym nb.2 in
      let rc : range_count bd.0.low bd.0.high bd.0.step ≡ Ok r.many = (λ i. range_count (sym nb.0 i) (sym nb.1 i) (sym st1 i)) ∙ r.count in
      (r.low ∷ r.high ∷ [], cells_known ka (in_turns bd.1 rc))
  range_has {at} {n} {x} {lo} {hi} (Some o) {y} {d} m ms mq nq r =
      let known = range_known s C w K wf kn I sc ty ch i c there e f at n x lo hi (Some o) y d m ms mq nq in
      let e1 = wanted k (seen w.layout lo.cell) in
      let e2 = wanted k (seen w.layout hi.cell) in
      let e3 = wanted k (seen w.layout o.cell) in
      let kl = known lo first (λ z j. in_left z e1 _ j) r.low r.low_is in
      let kh = known hi (later first) (λ z j. in_right z e1 _ (in_left z e2 _ j)) r.high r.high_is in
      let ks = known o (later (later first)) (λ z j. in_right z e1 _ (in_right z e2 _ (in_left z e3 _ j))) r.step r.step_is in
      let ka = next_cell kl (next_cell kh (next_cell ks no_cell)) in
      let bd = ty.range_bounds (script_path p) at n x lo hi (Some o) y d (r.low ∷ r.high ∷ r.step ∷ []) (stmt_in s (live m)) ka in
      let nb = bounds_three r.low r.high r.step bd.0 bd.1 in
      let rc : range_count bd.0.low bd.0.high bd.0.step ≡ Ok r.many = (λ i. range_count (sym nb.0 i) (sym nb.1 i) (sym nb.2 i)) ∙ r.count in
      (r.low ∷ r.high ∷ r.step ∷ [], cells_known ka (in_turns bd.1 rc))

  pub own_has : (at n : ℕ) (a : Action) → NoWait a → stmt at n a ∈ block_list b → OwnAs C w.layout k (stmt at n a) i → Has n a
  own_has at n a nw m (own_simple z en nd) = simple_has at n a z m en
  own_has at n a nw m (own_branch {c = o} {b = d} en mk ba) =
      let r = condition_ok o m (outer_in o.parts o.cell) en.needs_is (ap (λ (z : Act). work_out z ys) en.act_is) in
      let tr = ty.when_truth (script_path p) at n o d r.0 (stmt_in s (live m)) r.1 in
      (One (Truth tr.0) ∷ [], cells_known (next_cell (subst (λ (u : Value). K (value (script_path p, o.cell.node) u)) tr.1 r.1) no_cell) one_way)
  own_has at n a nw m (own_branches {c = o} {b = d} {d = d'} en mk ba bb) =
      let r = condition_ok o m (outer_in o.parts o.cell) en.needs_is (ap (λ (z : Act). work_out z ys) en.act_is) in
      let tr = ty.choose_truth (script_path p) at n o d d' r.0 (stmt_in s (live m)) r.1 in
      (One (Truth tr.0) ∷ [], cells_known (next_cell (subst (λ (u : Value). K (value (script_path p, o.cell.node) u)) tr.1 r.1) no_cell) two_ways)
  own_has at n a nw m (own_range {st = st} en mk ba) = range_has st m _ refl en.needs_is (range_all _ _ _ (λ g q. fails g (ap (λ (z : Act). work_out z ys) en.act_is ∙ q)))
  own_has at n a nw m (own_each {x = x} {a = y} {y = z} {b = d} en mk ba) = by ys (subst (λ (l : List Need). AnsAll s C K p l ys) en.needs_is (answers_all s C w K wf kn I sc ty ch i c there e f))
    where
      by : (zs : List Got) → AnsAll s C K p (code.Closed (name_as k true y) ∷ []) zs → IsReady s K (script_path p) (each y x z d)
      by [] al = absurd al
      by (u ∷ zs) al =
          let g = sc.loops k b at n x y z d (chain_scope s C w.layout K wf.names I sc ch) m in
          let r = (says s C w K wf kn I sc ty ch i c there e f).array y g (subst (λ (l : List Need). In (code.Closed (name_as k true y)) l) (sym en.needs_is) (inl refl)) u al.0 in
          (_, source_closed r.2 r.3)
  own_has at n a nw m (own_wait wa en) = absurd nw
