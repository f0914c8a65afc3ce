-- What the code writes, by the script's answers, the script knows: elements and loop variables; and so all writes of all entries.
use Rattle.std.proofs.Common.{◌≡◌, inl, inr, ℕ, Bool, true, List, [], ◌∷◌, ◌++◌, refl, sym, ap, ◌∙◌, subst, Result, Ok, Err, Option, Some, None, arith}
use Rattle.std.specs.Prelude.{pos, ℤ, suc, zero, ◌<◌, ◌+◌, length}
use Rattle.std.specs.List.{flat_map}
use Rattle.dataflow.specs.System.{In, Write, Effect}
use Rattle.dataflow.proofs.Lists.{in_left, in_right, in_map, in_unmap}
use Rattle.values.specs.declared.fault.OpFault.{OpFault}
use Rattle.values.specs.declared.key.Key.{Key}
use Rattle.values.specs.declared.map.Element.{Element}
use Rattle.values.specs.declared.value.Scalar.{Scalar}
use Rattle.values.specs.declared.value.Scalar.TheVariants.{Number}
use Rattle.values.specs.declared.value.Value.{Value}
use Rattle.values.specs.declared.value.Value.TheVariants.{Many}
use Rattle.values.specs.Maps.{element as entry_of}
use Rattle.values.specs.Operators.{literal}
use Rattle.values.specs.Ranges.{range_count, value_in}
use Rattle.values.specs.Values.{scalar_of, number_of, elements_of}
use Rattle.language.specs.Core.{Name, Expr, Exprs, whole, operator, Form, compute, Outer, Stmt, stmt, Action, fill, insert, range, each, Block, Core}
use Rattle.language.specs.Facts.{value, element, Knowledge, KnownAll, no_cell, next_cell}
use Rattle.language.specs.Meaning.{ValueUnder, of_array, Gives, computed, now, before, filled, inserted, LiveStmt, in_block, HasValue, in_turn, Ready, cells_known, source_closed}
use Rattle.language.specs.Members.{◌∈◌, first, later}
use Rattle.language.specs.Openings.{Bounds, bounds, Opens, in_turns, turn, item, InTurn, range_value, range_turn, each_value, each_key}
use Rattle.language.specs.Parts.{outer_cells, block_list}
use Rattle.language.specs.Places.{Place, place, max_path_steps}
use Rattle.language.specs.WellFormed.{WellFormed, IsMany, a_list, a_copy}
use Rattle.language_laws.proofs.Declared.{stmt_in}
use Rattle.language_laws.proofs.Sources.{outer_in, index_in, right_in, many_given}
use Rattle.task_code.specs.Code as code
use Rattle.task_code.specs.Code.{Variable, Need, Act, Code, entry, body, scalar, loop_of}
use Rattle.task_code.specs.Compute.{Computed, Inserts, Turns, pairs, elements, content, answer_at, eval, key_of, key_scalar, ranged, range_turns, turns_or}
use Rattle.task_code.specs.Compute as Compute
use Rattle.task_code.specs.Effects.{Task, Item, only, stores, inserted_at, bound, turn_bound, chunk, turns_of, step_at, steps_on}
use Rattle.task_code.specs.Places.{Step, Datum, place_at}
use Rattle.task_code.specs.Places as CodePlaces
use Rattle.task_code.specs.System.{answered}
use Rattle.task_code.specs.Whole.{IsCode}
use Rattle.task_code.proofs.Chunks.{in_chunk}
use Rattle.task_code.proofs.Rights.{in_gather, loop_instances}
use Rattle.headline.specs.Headline.{script_path, script_place}
use Rattle.headline.specs.Knows as Know
use Rattle.headline.specs.Inclusions.{Knows}
use Rattle.headline.specs.Chains.{Chain}
use Rattle.code_rules.specs.NodesOnce.{TellsNode}
use Rattle.code_rules.specs.CodeNames.{name_as, wanted, over, all_over, each_once}
use Rattle.language_laws.specs.Scoped.{AreIn, FormIn, Scoped, IsIn, IsScoped}
use Rattle.code_rules.specs.IsCodeOf.{seen, own_form, own_expr, own_needs, fill_act, step_expr, IsEntry, IsCodeOf}
use Rattle.language_laws.specs.TypedValues.{TypedValues}
use Rattle.headline.proofs.Evaluate.{Got, AnsAll, in_once}
use Rattle.headline.proofs.HeaderWorks.{outer_among}
use Rattle.headline.proofs.LiveTo.{Fact, value_of, says, answers_all, cell_known_by, range_known, bounds_two, bounds_three, listed_in, ok_step, depth}
use Rattle.headline.proofs.Means.{chain_live, chain_scope, means, covering_writes}
use Rattle.headline.proofs.Readings.{IsSame, same_array, element_in}
use Rattle.language_accepted.proofs.Values.{key_same}
use Rattle.headline.proofs.WrittenTo.{IsKnown}

-- elements that are stored
pub record InsertedOne (d : CodePlaces.Place) (xs : List (Key × Scalar)) (x : Write CodePlaces.Place Key Scalar) : Type 0 where
  pub one : Key × Scalar
  pub there : In one xs
  pub place_is : x.place ≡ d
  pub key_is : x.key ≡ one.0
  pub value_is : x.value ≡ one.1

pub inserted_one : (d : CodePlaces.Place) (xs : List (Key × Scalar)) (x : Write CodePlaces.Place Key Scalar) → In x (inserted_at d (Inserts xs)) → InsertedOne d xs x
inserted_one d xs x h =
    let r = in_unmap (λ (y : Key × Scalar). record { place = d; key = y.0; value = y.1 }) x xs h in
    let e = sym r.2 in
    record { one = r.0; there = r.1; place_is = ap (λ (z : Write CodePlaces.Place Key Scalar). z.place) e; key_is = ap (λ (z : Write CodePlaces.Place Key Scalar). z.key) e; value_is = ap (λ (z : Write CodePlaces.Place Key Scalar). z.value) e }

-- a literal's elements are stored
filled_ok : (d : CodePlaces.Place) (r : Result Value OpFault) (x : Write CodePlaces.Place Key Scalar) → In x (inserted_at d (Compute.filled r)) → (v : Value) × (r ≡ Ok v) × In x (inserted_at d (Inserts (pairs (elements_of v))))
filled_ok d (Ok v) x h = (v, refl, h)
filled_ok d (Err f) x h = absurd h

-- one element is stored
record PutOne (d : CodePlaces.Place) (ri ro : Result Value OpFault) (x : Write CodePlaces.Place Key Scalar) : Type 0 where
  index : Value
  right : Value
  index_is : ri ≡ Ok index
  right_is : ro ≡ Ok right
  place_is : x.place ≡ d
  key_is : x.key ≡ key_of (scalar_of index)
  value_is : x.value ≡ scalar_of right

put_one : (d : CodePlaces.Place) (ri ro : Result Value OpFault) (x : Write CodePlaces.Place Key Scalar) → In x (inserted_at d (Compute.insert_element ri ro)) → PutOne d ri ro x
put_one d (Err f) ro x h = absurd h
put_one d (Ok i) (Err f) x h = absurd h
put_one d (Ok i) (Ok v) x (inl e) = record { index = i; right = v; index_is = refl; right_is = refl; place_is = ap (λ (z : Write CodePlaces.Place Key Scalar). z.place) e; key_is = ap (λ (z : Write CodePlaces.Place Key Scalar). z.key) e; value_is = ap (λ (z : Write CodePlaces.Place Key Scalar). z.value) e }
put_one d (Ok i) (Ok v) x (inr z) = absurd z

pairs_in : (es : List Element) (y : Key × Scalar) → In y (pairs es) → entry_of y.0 y.1 ∈ es
pairs_in [] y h = absurd h
pairs_in (e ∷ es) y (inl q) = subst (λ (z : Key × Scalar). entry_of z.0 z.1 ∈ (e ∷ es)) (sym q) first
pairs_in (e ∷ es) y (inr h) = later (pairs_in es y h)

-- a turn of a range, with its value
record RangeTurn (rl rh rs : Result Value OpFault) (y : Key × Scalar) : Type 0 where
  low : Value
  high : Value
  step : Value
  low_is : rl ≡ Ok low
  high_is : rh ≡ Ok high
  step_is : rs ≡ Ok step
  many : ℕ
  count : range_count (number_of low) (number_of high) (number_of step) ≡ Ok many
  place : ℕ
  below : place < many
  key_is : y.0 ≡ Key.Number (pos place)
  value_is : y.1 ≡ Number (value_in (number_of low) (number_of step) place)

turn_in : (low step : ℤ) (m n : ℕ) (y : Key × Scalar) → In y (range_turns low step m n) → (j : ℕ) × (j < m + n) × (y.0 ≡ Key.Number (pos j)) × (y.1 ≡ Number (value_in low step j))
turn_in low step m zero y h = absurd h
turn_in low step m (suc n) y (inl e) = (m, omega arith, ap (λ (z : Key × Scalar). z.0) e, ap (λ (z : Key × Scalar). z.1) e)
turn_in low step m (suc n) y (inr h) = let r = turn_in low step (suc m) n y h in (r.0, (let z = r.1 in omega arith), r.2, r.3)

range_turn_of : (rl rh rs : Result Value OpFault) (y : Key × Scalar) → In y (turns_of (ranged rl rh rs)) → RangeTurn rl rh rs y
range_turn_of (Err f) rh rs y h = absurd h
range_turn_of (Ok l) (Err f) rs y h = absurd h
range_turn_of (Ok l) (Ok g) (Err f) y h = absurd h
range_turn_of (Ok l) (Ok g) (Ok st) y h = by (range_count (number_of l) (number_of g) (number_of st)) refl h
  where
    by : (c : Result ℕ OpFault) → range_count (number_of l) (number_of g) (number_of st) ≡ c → In y (turns_of (turns_or c (number_of l) (number_of st))) → RangeTurn (Ok l) (Ok g) (Ok st) y
    by (Err f) q h = absurd h
    by (Ok n) q h =
        let r = turn_in (number_of l) (number_of st) 0 n y h in
        record { low = l; high = g; step = st; low_is = refl; high_is = refl; step_is = refl; many = n; count = q; place = r.0; below = (let z = r.1 in omega arith); key_is = r.2; value_is = r.3 }

module _ (s : Core) (C : Code) (w : IsCodeOf s C) (K : Knowledge) (wf : WellFormed s) (kn : Know.Knows s K) (I : IsCode C) (sc : Scoped s) (ty : TypedValues s K) where
  abbrev IsOurs : Write CodePlaces.Place Key Scalar → Type 0
  IsOurs x = IsKnown s C w K wf kn I sc ty x

  module _ {p : List Step} {t k : ℕ} {b : Block} (ch : Chain s C w.layout K p t k b) (i c : ℕ) (there : In i (body C t).entries) (e : Effect Task CodePlaces.Place Key Scalar) (f : Fact s C w K wf kn I sc ty (Item i p c) e) where
    abbrev Ys : List Got
    Ys = answered C p (entry C i).needs f.answers

    -- what the entry stores, as an entry of this act
    abbrev StoresAs : Act → Write CodePlaces.Place Key Scalar → Type 0
    StoresAs a x = In x (stores C a (entry C i).node (entry C i).offset p c (Compute.compute a (answered C p (entry C i).needs f.answers)))

    abbrev Stored : Write CodePlaces.Place Key Scalar → Type 0
    Stored x = StoresAs (entry C i).act x

    live_stmt : {st : Stmt} → st ∈ block_list b → LiveStmt s K (script_path p) st
    live_stmt m = in_block (chain_live s C w.layout K wf.names I sc ch) m

    scoped_stmt : {st : Stmt} → st ∈ block_list b → IsScoped k st
    scoped_stmt {st} m = sc.statements k b st (chain_scope s C w.layout K wf.names I sc ch) m

    array_target : (y : Name) → IsIn k y → In (name_as k true y) (entry C i).writes → IsSame s wf K (place_at C p (name_as k true y)) (place s (script_path p) y)
    array_target y g right = same_array s wf K (means s C w.layout K wf.names I sc (λ z. z.writes) (covering_writes s C w.layout K wf.names I sc) ch i there true y right g) refl

    -- an element that the script writes too, by the same writer
    pub record OwnWrite (x : Write CodePlaces.Place Key Scalar) : Type 0 where
      pub path : List Step
      pub variable : Variable
      pub array : variable.array ≡ true
      pub place_is : x.place ≡ Datum path variable
      pub known : K (element (script_place path variable) x.key (script_path p, (entry C i).node) x.value)
      pub no_loop : loop_of (entry C i).act ≡ None
      pub tells : TellsNode (entry C i).act

    element_ours : (y : Name) {a : Act} {n : ℕ} → IsIn k y → In (name_as k true y) (code.targets_of (entry C i).node a) → loop_of a ≡ None → TellsNode a → (entry C i).act ≡ a → (entry C i).node ≡ n
        → (x : Write CodePlaces.Place Key Scalar) (key : Key) (v : Scalar) → x.place ≡ place_at C p (name_as k true y) → x.key ≡ key → x.value ≡ v → K (element (place s (script_path p) y) key (script_path p, n) v) → OwnWrite x
    element_ours y {a} {n} g tg nl tn act nd x key v pq kq vq h =
        let z = array_target y g (I.stores i (name_as k true y) (subst (λ (z : Act). In (name_as k true y) (code.targets_of (entry C i).node z)) (sym act) tg)) in
        let h1 = subst (λ (q : Scalar). K (element (place s (script_path p) y) key (script_path p, n) q)) (sym vq) h in
        let h2 = subst (λ (q : Key). K (element (place s (script_path p) y) q (script_path p, n) x.value)) (sym kq) h1 in
        let h3 = subst (λ (m : ℕ). K (element (place s (script_path p) y) x.key (script_path p, m) x.value)) (sym nd) h2 in
        record {
          path = z.path;
          variable = z.variable;
          array = z.array;
          place_is = pq ∙ z.is;
          known = subst (λ (pl : Place). K (element pl x.key (script_path p, (entry C i).node) x.value)) z.place_is h3;
          no_loop = ap loop_of act ∙ nl;
          tells = subst TellsNode (sym act) tn;
        }

    pub own_ours : (x : Write CodePlaces.Place Key Scalar) → OwnWrite x → IsOurs x
    own_ours x o = (o.path, o.variable, o.place_is, subst (λ (d : Bool). Knows s C K d (script_place o.path o.variable) x.key x.value) (sym o.array) ((script_path p, (entry C i).node), o.known))

    -- A LITERAL'S ELEMENTS
    list_written : {at n : ℕ} (y : Name) (o : Outer) (exs : Exprs) → stmt at n (fill y o) ∈ block_list b → o.cell.form ≡ compute (operator literal exs)
        → IsEntry (entry C i) at (pos 0) (own_needs w.layout k (fill y o)) (fill_act w.layout k (own_needs w.layout k (fill y o)) y (own_expr o)) → (entry C i).node ≡ n → (x : Write CodePlaces.Place Key Scalar) → Stored x → OwnWrite x
    list_written {at} {n} y o exs sm q en nd x h =
        let lv = live_stmt sm in
        let scp = scoped_stmt sm in
        let ms = own_needs w.layout k (fill y o) in
        let eq : own_expr o ≡ operator literal exs = ap (own_form o.cell.node) q in
        let act : (entry C i).act ≡ code.Fill (name_as k true y) (all_over k ms exs) = en.act_is ∙ ap (fill_act w.layout k ms y) eq in
        let r = filled_ok (place_at C p (name_as k true y)) (eval (answered C p (entry C i).needs f.answers) (over k ms (operator literal exs))) x (subst (λ (z : Act). StoresAs z x) act h) in
        let g : AreIn k (operator literal exs) = subst (FormIn k) q (scp.in_cells o.cell (outer_in o.parts o.cell)) in
        let vu = value_of s C w K wf kn I sc ty ch i c there e f (operator literal exs) g ms en.needs_is
        (λ z j. subst (λ (E : Expr). In z (each_once (wanted k E ++ []))) (sym eq) (in_once z _ (in_left z (wanted k (operator literal exs)) [] j))) in
        let gv : Gives s K (script_path p) (compute (operator literal exs)) (Ok r.0) = computed (subst (λ (z : Result Value OpFault). ValueUnder s K (script_path p) (operator literal exs) z) r.1 vu) in
        let m = many_given a_list gv in
        let io = inserted_one (place_at C p (name_as k true y)) (pairs m.elements) x (subst (λ (z : Value). In x (inserted_at (place_at C p (name_as k true y)) (Inserts (pairs (elements_of z))))) m.is r.2) in
        let gm : Gives s K (script_path p) o.cell.form (Ok (Many m.elements)) = subst (λ (z : Form). Gives s K (script_path p) z (Ok (Many m.elements))) (sym q) (subst (λ (z : Value). Gives s K (script_path p) (compute (operator literal exs)) (Ok z)) m.is gv) in
        element_ours y (scp.in_targets y first) (inl refl) refl tt act nd x (io.one).0 (io.one).1 io.place_is io.key_is io.value_is
        (kn.shut _ (filled lv (now gm) (pairs_in m.elements io.one io.there)))

    -- A COPY'S ELEMENTS
    copy_written : {at n : ℕ} (y : Name) (o : Outer) (a : Name) → stmt at n (fill y o) ∈ block_list b → o.cell.form ≡ compute (whole a)
        → IsEntry (entry C i) at (pos 0) (own_needs w.layout k (fill y o)) (fill_act w.layout k (own_needs w.layout k (fill y o)) y (own_expr o)) → (entry C i).node ≡ n → (x : Write CodePlaces.Place Key Scalar) → Stored x → OwnWrite x
    copy_written {at} {n} y o a sm q en nd x h =
        by (answered C p (entry C i).needs f.answers) (subst (λ (l : List Need). AnsAll s C K p l (answered C p (entry C i).needs f.answers)) needs_are (answers_all s C w K wf kn I sc ty ch i c there e f)) (subst (λ (z : Act). StoresAs z x) act h)
      where
        eq : own_expr o ≡ whole a
        eq = ap (own_form o.cell.node) q

        act : (entry C i).act ≡ code.Copy (name_as k true y)
        act = en.act_is ∙ ap (fill_act w.layout k (own_needs w.layout k (fill y o)) y) eq

        needs_are : (entry C i).needs ≡ code.Closed (name_as k true a) ∷ []
        needs_are = en.needs_is ∙ ap (λ (E : Expr). each_once (wanted k E ++ [])) eq

        scp : IsScoped k (stmt at n (fill y o))
        scp = scoped_stmt sm

        by : (zs : List Got) → AnsAll s C K p (code.Closed (name_as k true a) ∷ []) zs → In x (inserted_at (place_at C p (name_as k true y)) (Inserts (content (answer_at zs 0)))) → OwnWrite x
        by [] al j = absurd al
        by (z ∷ zs) al j =
            let r = (says s C w K wf kn I sc ty ch i c there e f).array a (subst (FormIn k) q (scp.in_cells o.cell (outer_in o.parts o.cell))) (subst (λ (l : List Need). In (code.Closed (name_as k true a)) l) (sym needs_are) (inl refl)) z al.0 in
            let io = inserted_one (place_at C p (name_as k true y)) (content (Some z)) x j in
            let m : In io.one r.0 = listed_in r.0 io.one (subst (λ (u : Option Got). In io.one (content u)) (ap Some r.1) io.there) in
            let gm : Gives s K (script_path p) o.cell.form (Ok (Many (elements r.0))) = subst (λ (u : Form). Gives s K (script_path p) u (Ok (Many (elements r.0)))) (sym q) (computed (of_array r.2 r.3)) in
            element_ours y (scp.in_targets y first) (inl refl) refl tt act nd x (io.one).0 (io.one).1 io.place_is io.key_is io.value_is
            (kn.shut _ (filled (live_stmt sm) (now gm) (element_in r.0 (io.one).0 (io.one).1 m)))

    pub fill_written : {at n : ℕ} (y : Name) (o : Outer) → stmt at n (fill y o) ∈ block_list b → IsEntry (entry C i) at (pos 0) (own_needs w.layout k (fill y o)) (fill_act w.layout k (own_needs w.layout k (fill y o)) y (own_expr o))
        → (entry C i).node ≡ n → (x : Write CodePlaces.Place Key Scalar) → Stored x → OwnWrite x
    fill_written {at} {n} y o sm en nd x h = by refl ((wf.cells).fill_many at n y o (stmt_in s (live_stmt sm)))
      where
        by : {g : Form} → o.cell.form ≡ g → IsMany g → OwnWrite x
        by q (a_list {es = exs}) = list_written y o exs sm q en nd x h
        by q (a_copy {a = a}) = copy_written y o a sm q en nd x h

    -- ONE ELEMENT
    pub put_written : {at n : ℕ} (y : Name) (ix o : Outer) → stmt at n (insert y ix o) ∈ block_list b → (ms : List Need) → own_needs w.layout k (insert y ix o) ≡ ms
        → IsEntry (entry C i) at (pos 0) ms (code.InsertElement (name_as k true y) (over k ms (seen w.layout ix.cell)) (over k ms (seen w.layout o.cell))) → (entry C i).node ≡ n → (x : Write CodePlaces.Place Key Scalar) → Stored x → OwnWrite x
    put_written {at} {n} y ix o sm ms mq en nd x h =
        let lv = live_stmt sm in
        let scp = scoped_stmt sm in
        let ys = answered C p (entry C i).needs f.answers in
        let r = put_one (place_at C p (name_as k true y)) (eval ys (over k ms (seen w.layout ix.cell))) (eval ys (over k ms (seen w.layout o.cell))) x (subst (λ (z : Act). StoresAs z x) en.act_is h) in
        let e1 = wanted k (seen w.layout ix.cell) in
        let e2 = wanted k (seen w.layout o.cell) in
        let ki = cell_known_by s C w K wf kn I sc ty ch i c there e f at n (insert y ix o) ix.cell sm (index_in ix o) ms en.needs_is (λ z j. subst (λ (l : List Need). In z l) mq (in_once z _ (in_left z e1 _ j))) r.index r.index_is in
        let ko = cell_known_by s C w K wf kn I sc ty ch i c there e f at n (insert y ix o) o.cell sm (right_in ix o) ms en.needs_is (λ z j. subst (λ (l : List Need). In z l) mq (in_once z _ (in_right z e1 _ (in_left z e2 [] j)))) r.right r.right_is in
        let index = ty.insert_key (script_path p) at n y ix o r.index (stmt_in s lv) ki in
        let one = ty.cell_one (script_path p) at n (insert y ix o) o.cell r.right (stmt_in s lv) (outer_among (ix ∷ o ∷ []) o (later first)) ko in
        element_ours y (scp.in_elements y first) (inl refl) refl tt en.act_is nd x (key_of index.0) one.0 r.place_is
        (r.key_is ∙ ap (λ (z : Value). key_of (scalar_of z)) index.1) (r.value_is ∙ ap scalar_of one.1)
        (kn.shut _ (inserted lv (before ki) index.2 (before (subst (λ (z : Value). K (value (script_path p, o.cell.node) z)) one.1 ko))))

    -- A LOOP'S VARIABLES
    turn_ours : {at n v : ℕ} {y : Option ℕ} {a : Action} {vs : List Value} {d : Block} (t' : ℕ) (u : Key × Scalar) → stmt at n a ∈ block_list b → (entry C i).offset ≡ at → Ready s K (script_path p) a vs → Opens a vs u.0 d → length (script_path p) < max_path_steps
        → InTurn a vs u.0 v u.1 → ((m : ℕ) → y ≡ Some m → InTurn a vs u.0 m (key_scalar u.0)) → (x : Write CodePlaces.Place Key Scalar) → In x (bound (record { body = t'; value = v; turn = y }) (entry C i).offset p u) → IsOurs x
    turn_ours {at} {n} {v} {y} {a} {vs} t' u m mk r o dp iv it x h = elim h [ inl q ↦ one_ours v u.1 q iv | inr z ↦ by y refl z ]
      where
        one_ours : (nn : ℕ) (val : Scalar) → x ≡ record { place = Datum (step_at (entry C i).offset u.0 p) (scalar nn); key = only; value = val } → InTurn a vs u.0 nn val → IsOurs x
        one_ours nn val q tn =
            let hv : HasValue s K ((at, u.0) ∷ script_path p, nn) val = in_turn (chain_live s C w.layout K wf.names I sc ch) m r o tn dp in (
              step_at at u.0 p,
              scalar nn,
              ap (λ (z : Write CodePlaces.Place Key Scalar). z.place) q ∙ ap (λ (z : ℕ). Datum (step_at z u.0 p) (scalar nn)) mk,
              (ap (λ (z : Write CodePlaces.Place Key Scalar). z.key) q, subst (λ (z : Scalar). HasValue s K ((at, u.0) ∷ script_path p, nn) z) (sym (ap (λ (z : Write CodePlaces.Place Key Scalar). z.value) q)) hv),
            )

        by : (yy : Option ℕ) → y ≡ yy → In x (turn_bound yy (step_at (entry C i).offset u.0 p) u.0) → IsOurs x
        by None q z = absurd z
        by (Some nn) q (inl z) = one_ours nn (key_scalar u.0) z (it nn q)
        by (Some nn) q (inr z) = absurd z

    -- the turn that a write is of
    turn_of_write : (lp : code.Loop) (X : Computed) (x : Write CodePlaces.Place Key Scalar) → In x (flat_map (bound lp (entry C i).offset p) (chunk c (turns_of X))) → (u : Key × Scalar) × In u (turns_of X) × In u (chunk c (turns_of X)) × In x (bound lp (entry C i).offset p u)
    turn_of_write lp X x h = let r = in_gather C (bound lp (entry C i).offset p) (chunk c (turns_of X)) x h in (r.0, in_chunk c (turns_of X) r.0 r.1, r.1, r.2)

    -- a loop that has a turn does not lie too deep
    loop_depth : (lp : code.Loop) → loop_of (entry C i).act ≡ Some lp → steps_on (entry C i).act ≡ true → (u : Key × Scalar) → In u (chunk c (turns_of (Compute.compute (entry C i).act (answered C p (entry C i).needs f.answers)))) → length (script_path p) < max_path_steps
    loop_depth lp q st u h =
        depth s C w K wf kn I sc ty ch i c there e f (lp.body, step_at (entry C i).offset u.0 p) st
        (subst (λ (l : List (ℕ × List Step)). In (lp.body, step_at (entry C i).offset u.0 p) l) (sym (loop_instances C (entry C i).act lp (entry C i).offset p c (Compute.compute (entry C i).act (answered C p (entry C i).needs f.answers)) q))
        (in_map (λ (z : Key × Scalar). (lp.body, step_at (entry C i).offset z.0 p)) u _ h))

    pub each_written : {at n x' t' : ℕ} {a : Name} {y : Option ℕ} {d : Block} → stmt at n (each a x' y d) ∈ block_list b → IsEntry (entry C i) at (pos 0) (own_needs w.layout k (each a x' y d)) (code.Each (record { body = t'; value = x'; turn = y })) → (entry C i).offset ≡ at
        → (x : Write CodePlaces.Place Key Scalar) → Stored x → IsOurs x
    each_written {at} {n} {x'} {t'} {a} {y} {d} m en mk x h =
        by (answered C p (entry C i).needs f.answers) refl (subst (λ (l : List Need). AnsAll s C K p l (answered C p (entry C i).needs f.answers)) en.needs_is (answers_all s C w K wf kn I sc ty ch i c there e f))
      where
        lp : code.Loop
        lp = record { body = t'; value = x'; turn = y }

        g : IsIn k a
        g = sc.loops k b at n x' a y d (chain_scope s C w.layout K wf.names I sc ch) m

        comp : Compute.compute (entry C i).act (answered C p (entry C i).needs f.answers) ≡ Turns (content (answer_at (answered C p (entry C i).needs f.answers) 0))
        comp = ap (λ (z : Act). Compute.compute z (answered C p (entry C i).needs f.answers)) en.act_is

        ut : (u : Key × Scalar) × In u (content (answer_at (answered C p (entry C i).needs f.answers) 0)) × In u (chunk c (content (answer_at (answered C p (entry C i).needs f.answers) 0))) × In x (bound lp (entry C i).offset p u)
        ut = turn_of_write lp (Turns (content (answer_at (answered C p (entry C i).needs f.answers) 0))) x (subst (λ (z : Act). StoresAs z x) en.act_is h)

        dp : length (script_path p) < max_path_steps
        dp = loop_depth lp (ap loop_of en.act_is) (ap steps_on en.act_is) ut.0 (subst (λ (z : Computed). In ut.0 (chunk c (turns_of z))) (sym comp) ut.2)

        by : (zs : List Got) → answered C p (entry C i).needs f.answers ≡ zs → AnsAll s C K p (code.Closed (name_as k true a) ∷ []) zs → IsOurs x
        by [] q al = absurd al
        by (z ∷ zs) q al =
            let r = (says s C w K wf kn I sc ty ch i c there e f).array a g (subst (λ (l : List Need). In (code.Closed (name_as k true a)) l) (sym en.needs_is) (inl refl)) z al.0 in
            let j : In ut.0 r.0 = listed_in r.0 ut.0 (subst (λ (u : Option Got). In ut.0 (content u)) (ap Some r.1) (subst (λ (l : List Got). In ut.0 (content (answer_at l 0))) q ut.1)) in
            let it = element_in r.0 (ut.0).0 (ut.0).1 j in
            turn_ours t' ut.0 m mk (source_closed r.2 r.3) (item it) dp (each_value it) (λ mm q. at_key mm q) x ut.3
          where
            at_key : {es : List Element} (mm : ℕ) → y ≡ Some mm → InTurn (each a x' y d) (Many es ∷ []) (ut.0).0 mm (key_scalar (ut.0).0)
            at_key {es} mm q = subst (λ (o : Option ℕ). InTurn (each a x' o d) (Many es ∷ []) (ut.0).0 mm (key_scalar (ut.0).0)) (sym q) (each_key (key_same (ut.0).0))

    range_ours : {at n x' : ℕ} {lo hi : Outer} {st : Option Outer} {y : Option ℕ} {d : Block} {vs : List Value} (t' : ℕ) (u : Key × Scalar) → stmt at n (range lo hi st x' y d) ∈ block_list b → (entry C i).offset ≡ at
        → KnownAll K (script_path p) (outer_cells (range lo hi st x' y d)) vs → (bd : Bounds) → bounds vs ≡ Some bd → (many turn_no : ℕ) → range_count bd.low bd.high bd.step ≡ Ok many → turn_no < many
        → u.0 ≡ Key.Number (pos turn_no) → u.1 ≡ Number (value_in bd.low bd.step turn_no) → length (script_path p) < max_path_steps
        → (x : Write CodePlaces.Place Key Scalar) → In x (bound (record { body = t'; value = x'; turn = y }) (entry C i).offset p u) → IsOurs x
    range_ours {x' = x'} {lo = lo} {hi = hi} {st = st} {y = y} {d = d} {vs = vs} t' u m mk ka bd bq many turn_no rc lt kq vq dp x h =
        let key = Key.Number (pos turn_no) in
        turn_ours t' u m mk (cells_known ka (in_turns bq rc)) (subst (λ (z : Key). Opens (range lo hi st x' y d) vs z d) (sym kq) (turn bq rc lt)) dp
        (subst (λ (z : Key). InTurn (range lo hi st x' y d) vs z x' u.1) (sym kq) (range_value bq vq))
        (λ mm q. subst (λ (o : Option ℕ). InTurn (range lo hi st x' o d) vs u.0 mm (key_scalar u.0)) (sym q) (range_turn (key_same u.0))) x h

    range_finish : (at n x' t' : ℕ) (lo hi : Outer) (st : Option Outer) (y : Option ℕ) (d : Block) → stmt at n (range lo hi st x' y d) ∈ block_list b → (ms : List Need) → own_needs w.layout k (range lo hi st x' y d) ≡ ms → (entry C i).needs ≡ ms → (entry C i).offset ≡ at → (u : Key × Scalar)
        → RangeTurn (eval (answered C p (entry C i).needs f.answers) (over k ms (seen w.layout lo.cell))) (eval (answered C p (entry C i).needs f.answers) (over k ms (seen w.layout hi.cell))) (eval (answered C p (entry C i).needs f.answers) (over k ms (step_expr w.layout k st))) u
        → length (script_path p) < max_path_steps → (x : Write CodePlaces.Place Key Scalar) → In x (bound (record { body = t'; value = x'; turn = y }) (entry C i).offset p u) → IsOurs x
    range_finish at n x' t' lo hi None y d m ms mq nq mk u r dp x h =
        let known = range_known s C w K wf kn I sc ty ch i c there e f at n x' lo hi None y d m ms mq nq in
        let e1 = wanted k (seen w.layout lo.cell) in
        let e2 = wanted k (seen w.layout hi.cell) in
        let kl = known lo first (λ z j. in_left z e1 _ j) r.low r.low_is in
        let kh = known hi (later first) (λ z j. in_right z e1 _ (in_left z e2 _ j)) r.high r.high_is in
        let ka = next_cell kl (next_cell kh no_cell) in
        let bd = ty.range_bounds (script_path p) at n x' lo hi None y d (r.low ∷ r.high ∷ []) (stmt_in s (live_stmt m)) ka in
        let nb = bounds_two r.low r.high bd.0 bd.1 in
        let st1 : number_of r.step ≡ bd.0.step = ap number_of (ok_step r.step_is) ∙ sym nb.2 in
        let rc : range_count bd.0.low bd.0.high bd.0.step ≡ Ok r.many = (λ i. range_count (sym nb.0 i) (sym nb.1 i) (sym st1 i)) ∙ r.count in
        range_ours t' u m mk ka bd.0 bd.1 r.many r.place rc r.below r.key_is (r.value_is ∙ (λ i. Number (value_in (nb.0 i) (st1 i) r.place))) dp x h
    range_finish at n x' t' lo hi (Some o) y d m ms mq nq mk u r dp x h =
        let known = range_known s C w K wf kn I sc ty ch i c there e f at n x' lo hi (Some o) y d m ms mq nq in
        let e1 = wanted k (seen w.layout lo.cell) in
        let e2 = wanted k (seen w.layout hi.cell) in
        let e3 = wanted k (seen w.layout o.cell) in
        let kl = known lo first (λ z j. in_left z e1 _ j) r.low r.low_is in
        let kh = known hi (later first) (λ z j. in_right z e1 _ (in_left z e2 _ j)) r.high r.high_is in
        let ks = known o (later (later first)) (λ z j. in_right z e1 _ (in_right z e2 _ (in_left z e3 _ j))) r.step r.step_is in
        let ka = next_cell kl (next_cell kh (next_cell ks no_cell)) in
        let bd = ty.range_bounds (script_path p) at n x' lo hi (Some o) y d (r.low ∷ r.high ∷ r.step ∷ []) (stmt_in s (live_stmt m)) ka in
        let nb = bounds_three r.low r.high r.step bd.0 bd.1 in
        let rc : range_count bd.0.low bd.0.high bd.0.step ≡ Ok r.many = (λ i. range_count (sym nb.0 i) (sym nb.1 i) (sym nb.2 i)) ∙ r.count in
        range_ours t' u m mk ka bd.0 bd.1 r.many r.place rc r.below r.key_is (r.value_is ∙ (λ i. Number (value_in (nb.0 i) (nb.2 i) r.place))) dp x h

    pub range_written : {at n x' t' : ℕ} {lo hi : Outer} {st : Option Outer} {y : Option ℕ} {d : Block} → stmt at n (range lo hi st x' y d) ∈ block_list b → (ms : List Need) → own_needs w.layout k (range lo hi st x' y d) ≡ ms
        → IsEntry (entry C i) at (pos 0) ms (code.Range (over k ms (seen w.layout lo.cell)) (over k ms (seen w.layout hi.cell)) (over k ms (step_expr w.layout k st)) (record { body = t'; value = x'; turn = y })) → (entry C i).offset ≡ at
        → (x : Write CodePlaces.Place Key Scalar) → Stored x → IsOurs x
    range_written {at} {n} {x'} {t'} {lo} {hi} {st} {y} {d} m ms mq en mk x h =
        let lp : code.Loop = record { body = t'; value = x'; turn = y } in
        let ys = answered C p (entry C i).needs f.answers in
        let rl = eval ys (over k ms (seen w.layout lo.cell)) in
        let rh = eval ys (over k ms (seen w.layout hi.cell)) in
        let rs = eval ys (over k ms (step_expr w.layout k st)) in
        let ut = turn_of_write lp (ranged rl rh rs) x (subst (λ (z : Act). StoresAs z x) en.act_is h) in
        let comp : Compute.compute (entry C i).act ys ≡ ranged rl rh rs = ap (λ (z : Act). Compute.compute z ys) en.act_is in
        let dp = loop_depth lp (ap loop_of en.act_is) (ap steps_on en.act_is) ut.0 (subst (λ (z : Computed). In ut.0 (chunk c (turns_of z))) (sym comp) ut.2) in
        range_finish at n x' t' lo hi st y d m ms mq en.needs_is mk ut.0 (range_turn_of rl rh rs ut.0 ut.1) dp x ut.3
