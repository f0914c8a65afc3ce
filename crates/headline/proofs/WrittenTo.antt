-- What the code writes, by the script's answers, the script knows: cells and assignments.
use Rattle.std.proofs.Common.{◌≡◌, inl, inr, ℕ, Bool, false, List, [], refl, sym, ap, ◌∙◌, subst, Result, Ok, Err, true, ◌∷◌}
use Rattle.std.specs.Prelude.{pos, ℤ}
use Rattle.dataflow.specs.System.{In, Write, Effect, Found, Missing, Content}
use Rattle.dataflow.proofs.Lists.{in_left}
use Rattle.values.specs.declared.fault.OpFault.{OpFault}
use Rattle.values.specs.declared.key.Key.{Key}
use Rattle.values.specs.declared.value.Scalar.{Scalar}
use Rattle.values.specs.declared.value.Value.{Value}
use Rattle.values.specs.declared.value.Value.TheVariants.{One}
use Rattle.values.specs.Values.{scalar_of}
use Rattle.language.specs.Core as Co
use Rattle.language.specs.Core.{Name, here, Expr, name, Form, compute, read, Cell, Outer, Part, Stmt, stmt, Action, assign, fill, insert, print, assert, Block, Core}
use Rattle.language.specs.Facts.{value, Knowledge, IsKey, OneWrite}
use Rattle.language.specs.Meaning.{ValueUnder, of_literal, of_name, found, LiveStmt, in_block, HasValue, stored, Gives, Comes, before, now, computed, cell_value, assigned}
use Rattle.language.specs.Members.{◌∈◌, first}
use Rattle.language.specs.Parts.{cells, block_list, script_stmts, part_cells}
use Rattle.language.specs.Places.{Place, place}
use Rattle.language.specs.WellFormed.{WellFormed}
use Rattle.language_laws.proofs.Declared.{stmt_in, place_here}
use Rattle.language_laws.proofs.Sources.{outer_in}
use Rattle.task_code.specs.Code as code
use Rattle.task_code.specs.Code.{Variable, Need, Act, Code, entry, body, scalar, targets}
use Rattle.task_code.specs.Compute.{given, eval, key_of, answer_at}
use Rattle.task_code.specs.Compute as Compute
use Rattle.task_code.specs.Effects.{Task, Item, only, stored_at, stores}
use Rattle.task_code.specs.Places.{Step, Datum, place_at}
use Rattle.task_code.specs.Places as CodePlaces
use Rattle.task_code.specs.System.{answered}
use Rattle.task_code.specs.Whole.{IsCode}
use Rattle.task_code.proofs.Places.{declared_at}
use Rattle.headline.specs.Headline.{script_path, script_place}
use Rattle.headline.specs.Knows as Know
use Rattle.headline.specs.Inclusions.{Knows}
use Rattle.headline.specs.Chains.{Chain, Stands, same, plain, constant, HasElement}
use Rattle.code_rules.specs.CodeNames.{name_as, wanted, over, each_once}
use Rattle.language_laws.specs.Scoped.{AreIn, FormIn, Scoped, IsIn}
use Rattle.code_rules.specs.IsCodeOf.{own_form, own_expr, own_needs, IsEntry, IsCodeOf, IndexAs, at_literal, at_name, at_datum}
use Rattle.language_laws.specs.TypedValues.{TypedValues, own_parts}
use Rattle.headline.proofs.Backing.{backs}
use Rattle.headline.proofs.Evaluate.{Got, Ans, AnsAll, in_once}
use Rattle.headline.proofs.LiveTo.{Fact, value_of, answers_all}
use Rattle.headline.proofs.Means.{chain_live, chain_scope, means, covering_writes}
use Rattle.headline.proofs.Opening.{name_value}
use Rattle.headline.proofs.Readings.{IsSame, same_array, name_stands, to_script, cell_has}
use Rattle.headline.proofs.Roles.{cell_among, part_of_stmt}
use Rattle.headline.proofs.KeysOf.{key_of_is}

-- a scalar that is stored
record StoredValue (d : CodePlaces.Place) (r : Result Value OpFault) (w : Write CodePlaces.Place Key Scalar) : Type 0 where
  value : Value
  is : r ≡ Ok value
  place_is : w.place ≡ d
  key_is : w.key ≡ only
  value_is : w.value ≡ scalar_of value

stored_value : (d : CodePlaces.Place) (r : Result Value OpFault) (w : Write CodePlaces.Place Key Scalar) → In w (stored_at d (given r)) → StoredValue d r w
stored_value d (Ok v) w (inl e) = record { value = v; is = refl; place_is = ap (λ (z : Write CodePlaces.Place Key Scalar). z.place) e; key_is = ap (λ (z : Write CodePlaces.Place Key Scalar). z.key) e; value_is = ap (λ (z : Write CodePlaces.Place Key Scalar). z.value) e }
stored_value d (Ok v) w (inr z) = absurd z
stored_value d (Err f) w h = absurd h

module _ (s : Core) (C : Code) (w : IsCodeOf s C) (K : Knowledge) (wf : WellFormed s) (kn : Know.Knows s K) (I : IsCode C) (sc : Scoped s) (ty : TypedValues s K) where
  -- the script knows what is written
  abbrev pub IsKnown : Write CodePlaces.Place Key Scalar → Type 0
  IsKnown x = (p : List Step) × (v : Variable) × (x.place ≡ Datum p v) × Knows s C K v.array (script_place p v) x.key x.value

  module _ {p : List Step} {t k : ℕ} {b : Block} (ch : Chain s C w.layout K p t k b) (i c : ℕ) (there : In i (body C t).entries) (e : Effect Task CodePlaces.Place Key Scalar) (f : Fact s C w K wf kn I sc ty (Item i p c) e) where
    -- what the entry stores
    abbrev pub Stores : Write CodePlaces.Place Key Scalar → Type 0
    Stores x = In x (stores C (entry C i).act (entry C i).node (entry C i).offset p c (Compute.compute (entry C i).act (answered C p (entry C i).needs f.answers)))

    -- A CELL
    pub cell_written : {at : ℕ} {pr : ℤ} {n m : ℕ} {a : Action} {ex : Expr} {at' : ℕ} → stmt at' m a ∈ block_list b → Co.inner (record { node = n; form = compute ex }) ∈ own_parts a → (entry C i).node ≡ n
        → IsEntry (entry C i) at pr (each_once (wanted k ex)) (code.Cell (over k (each_once (wanted k ex)) ex)) → (x : Write CodePlaces.Place Key Scalar) → Stores x → IsKnown x
    cell_written {n = n} {m = m} {a = a} {ex = ex} {at' = at'} sm pm nd en x h =
        let d = place_at C p (code.here (scalar (entry C i).node)) in
        let r = stored_value d (eval (answered C p (entry C i).needs f.answers) (over k (each_once (wanted k ex)) ex)) x
        (subst (λ (z : Act). In x (stores C z (entry C i).node (entry C i).offset p c (Compute.compute z (answered C p (entry C i).needs f.answers)))) en.act_is h) in
        let lv = in_block (chain_live s C w.layout K wf.names I sc ch) sm in
        let cm = cell_among _ (part_of_stmt a pm) in
        let g = (sc.statements k b (stmt at' m a) (chain_scope s C w.layout K wf.names I sc ch) sm).in_cells _ cm in
        let u = subst (λ (z : Result Value OpFault). ValueUnder s K (script_path p) ex z) r.is (value_of s C w K wf kn I sc ty ch i c there e f ex g (each_once (wanted k ex)) en.needs_is (λ z j. in_once z _ j)) in
        let kv = kn.shut _ (cell_value lv cm (computed u)) in
        let one = ty.cell_one (script_path p) at' m a (record { node = n; form = compute ex }) r.value (stmt_in s lv) pm kv in
        let hv : HasValue s K (script_path p, n) x.value = stored (subst (λ (z : Value). K (value (script_path p, n) z)) (one.1 ∙ ap One (sym (ap scalar_of one.1) ∙ sym r.value_is)) kv) in
        (p, scalar n, r.place_is ∙ declared_at C p (scalar (entry C i).node) ∙ ap (λ (z : ℕ). Datum p (scalar z)) nd, (r.key_is, hv))

    -- AN ASSIGNMENT
    -- a target is no cell
    target_same : {d : Bool} {y : CodePlaces.Place} {pl : Place} → Stands s C w.layout K d y pl → d ≡ false → {at n : ℕ} {x : Name} {o : Outer} → stmt at n (assign x o) ∈ script_stmts s → pl ≡ place s (script_path p) x
        → (q : List Step) × (v : Variable) × (v.array ≡ false) × (y ≡ Datum q v) × (pl ≡ script_place q v)
    target_same (same {p = q} {v = v}) e m h = (q, v, e, refl, refl)
    target_same (plain {path = path} {st = st'} {n = n'} live cm pl st) e {at} {n} {x} {o} m h = absurd ((wf.cells).assign_apart at n x o st' _ (script_path p) path m (stmt_in s live) cm (sym h))
    target_same (constant {path = path} {st = st'} {n = n'} live cm pl) e {at} {n} {x} {o} m h = absurd ((wf.cells).assign_apart at n x o st' _ (script_path p) path m (stmt_in s live) cm (sym h))

    -- the value of a right side comes, and is known
    right_known : {at n : ℕ} {x : Name} (o : Outer) {v : Value} → LiveStmt s K (script_path p) (stmt at n (assign x o)) → ValueUnder s K (script_path p) (own_expr o) (Ok v) → Comes s K (script_path p) o.cell v × K (value (script_path p, o.cell.node) v)
    right_known {at} {n} {x} o {v} live u = by o.cell.form refl u
      where
        cm : o.cell ∈ cells (stmt at n (assign x o))
        cm = outer_in o.parts o.cell

        by : (g : Form) → o.cell.form ≡ g → ValueUnder s K (script_path p) (own_form o.cell.node g) (Ok v) → Comes s K (script_path p) o.cell v × K (value (script_path p, o.cell.node) v)
        by (compute ex) q u =
            let gv = subst (λ (z : Form). Gives s K (script_path p) z (Ok v)) (sym q) (computed u) in
            (now gv, kn.shut _ (cell_value live cm gv))
        by (read y j) q u =
            let r = name_value s wf K kn w.layout u refl refl in
            let kv = subst (λ (z : Value). K (value (script_path p, o.cell.node) z)) (sym r.1) (cell_has s wf K r.2 (script_path p) (stmt at n (assign x o)) o.cell (stmt_in s live) cm (place_here s (script_path p) o.cell.node)) in
            (before kv, kv)

    pub own_in_scope : (o : Outer) → FormIn k o.cell.form → AreIn k (own_expr o)
    own_in_scope o g = by o.cell.form g
      where
        by : (y : Form) → FormIn k y → AreIn k (own_form o.cell.node y)
        by (compute ex) g = g
        by (read y j) g = λ i e. absurd (cc (e))

    pub assign_written : {at n : ℕ} {y : Name} {o : Outer} → stmt at n (assign y o) ∈ block_list b
        → IsEntry (entry C i) at (pos 0) (own_needs w.layout k (assign y o)) (code.Set (name_as k false y) (over k (own_needs w.layout k (assign y o)) (own_expr o))) → (x : Write CodePlaces.Place Key Scalar) → Stores x → IsKnown x
    assign_written {at} {n} {y} {o} sm en x h =
        let ms = own_needs w.layout k (assign y o) in
        let r = stored_value (place_at C p (name_as k false y)) (eval (answered C p (entry C i).needs f.answers) (over k ms (own_expr o))) x
        (subst (λ (z : Act). In x (stores C z (entry C i).node (entry C i).offset p c (Compute.compute z (answered C p (entry C i).needs f.answers)))) en.act_is h) in
        let lv = in_block (chain_live s C w.layout K wf.names I sc ch) sm in
        let scp = sc.statements k b (stmt at n (assign y o)) (chain_scope s C w.layout K wf.names I sc ch) sm in
        let u = subst (λ (z : Result Value OpFault). ValueUnder s K (script_path p) (own_expr o) z) r.is
        (value_of s C w K wf kn I sc ty ch i c there e f (own_expr o) (own_in_scope o (scp.in_cells o.cell (outer_in o.parts o.cell))) ms en.needs_is (λ z j. in_once z _ (in_left z _ [] j))) in
        let rk = right_known o lv u in
        let one = ty.assign_one (script_path p) at n y o r.value (stmt_in s lv) rk.1 in
        let kv = kn.shut _ (assigned lv rk.0) in
        let right : In (name_as k false y) (entry C i).writes = I.stores i (name_as k false y) (subst (λ (z : Act). In (name_as k false y) (code.targets_of (entry C i).node z)) (sym en.act_is) (inl refl)) in
        let st = means s C w.layout K wf.names I sc (λ z. z.writes) (covering_writes s C w.layout K wf.names I sc) ch i there false y right (scp.in_targets y first) in
        let tg = target_same st refl (stmt_in s lv) refl in
        let hv : HasValue s K (script_place tg.0 tg.1) x.value =
        stored (subst (λ (z : Place). K (value z (One x.value))) tg.4 (subst (λ (z : Value). K (value (place s (script_path p) y) z)) (one.1 ∙ ap One (sym (ap scalar_of one.1) ∙ sym r.value_is)) kv)) in
        (tg.0, tg.1, r.place_is ∙ tg.3, subst (λ (z : Bool). Knows s C K z (script_place tg.0 tg.1) x.key x.value) (sym tg.2) (r.key_is, hv))

    -- AN ELEMENT READ
    none_content : (d : CodePlaces.Place) (key : Key) (xs : List (Key × Scalar)) → HasElement s K d key (Content xs) → ⊥
    none_content (Datum q v) key xs h = h
    none_content (CodePlaces.Constant c) key xs h = h
    none_content CodePlaces.Nowhere key xs h = h

    array_place : (a : Name) → IsIn k a → (need : Need) → In need (entry C i).needs → In (name_as k true a) (code.needed need) → IsSame s wf K (place_at C p (name_as k true a)) (place s (script_path p) a)
    array_place a g need m h = same_array s wf K (name_stands s wf K (backs s K kn) C w.layout I sc ch i there true a need g m h) refl

    -- the value of the index, and the element under it
    record ReadOf (st : Stmt) (a : Name) (ix : ℕ) (x : Scalar) : Type 0 where
      index : Value
      index_known : K (value (script_path p, ix) index)
      element : (key : Key) → IsKey index key → OneWrite K (place s (script_path p) a) key x

    element_there : (a : Name) (z : IsSame s wf K (place_at C p (name_as k true a)) (place s (script_path p) a)) (key : Key) (x : Scalar) → HasElement s K (place_at C p (name_as k true a)) key (Found x) → OneWrite K (place s (script_path p) a) key x
    element_there a z key x h =
        subst (λ (pl : Place). OneWrite K pl key x) (sym z.place_is) (subst (λ (d : CodePlaces.Place). HasElement s K d key (Found x)) z.is h)

    index_of : {st : Stmt} {all : List Part} {a : Name} {ix : ℕ} {need : Need} {x : Scalar} {n : ℕ} → st ∈ block_list b → ((d : Cell) → d ∈ part_cells all → d ∈ cells st) → record { node = n; form = read a ix } ∈ cells st → IndexAs C w.layout k all a ix need
        → In need (entry C i).needs → IsIn k a → Ans s C K p need (Found x) → ReadOf st a ix x
    index_of {st} {all} {a} {ix} {x = x} {n = n} sm sub cm (at_literal {v = v} im pl) m g h =
        let lv = in_block (chain_live s C w.layout K wf.names I sc ch) sm in
        let kv = kn.shut _ (cell_value lv (sub _ im) (computed of_literal)) in
        record { index = One v; index_known = kv; element = λ key q. subst (λ (y : Key). OneWrite K (place s (script_path p) a) y x) (key_of_is q) (element_there a (array_place a g _ m (inl refl)) (key_of v) x h) }
    index_of {st} {all} {a} {ix} {x = x} {n = n} sm sub cm (at_name {x = y} im pl) m g h =
        let lv = in_block (chain_live s C w.layout K wf.names I sc ch) sm in
        let scp = sc.statements k b st (chain_scope s C w.layout K wf.names I sc ch) sm in
        let v = h.0 in
        let hv = to_script s wf K kn C w.layout (name_stands s wf K (backs s K kn) C w.layout I sc ch i there false y _ (scp.in_cells _ (sub _ im)) m (inr (inl refl))) v h.1 in
        let kv = kn.shut _ (cell_value lv (sub _ im) (computed (of_name hv))) in
        record { index = One v; index_known = kv; element = λ key q. subst (λ (y : Key). OneWrite K (place s (script_path p) a) y x) (key_of_is q) (element_there a (array_place a g _ m (inl refl)) (key_of v) x h.2) }
    index_of {st} {all} {a} {x = x} {n = n} sm sub cm (at_datum {c = d} im pl) m g h =
        let lv = in_block (chain_live s C w.layout K wf.names I sc ch) sm in
        let v = h.0 in
        let hv = to_script s wf K kn C w.layout (name_stands s wf K (backs s K kn) C w.layout I sc ch i there false (here d.node) _ (λ i e. absurd (cc (e))) m (inr (inl refl))) v h.1 in
        let kv = cell_has s wf K hv (script_path p) st d (stmt_in s lv) (sub d im) (place_here s (script_path p) d.node) in
        record { index = One v; index_known = kv; element = λ key q. subst (λ (y : Key). OneWrite K (place s (script_path p) a) y x) (key_of_is q) (element_there a (array_place a g _ m (inl refl)) (key_of v) x h.2) }

    pub read_written : {at : ℕ} {pr : ℤ} {n m ix at' : ℕ} {a : Action} {y : Name} {all : List Part} {need : Need} → stmt at' m a ∈ block_list b → Co.inner (record { node = n; form = read y ix }) ∈ own_parts a → ((d : Cell) → d ∈ part_cells all → d ∈ cells (stmt at' m a))
        → (entry C i).node ≡ n → IndexAs C w.layout k all y ix need → IsEntry (entry C i) at pr (need ∷ []) code.Read → (x : Write CodePlaces.Place Key Scalar) → Stores x → IsKnown x
    read_written {n = n} {m = m} {ix = ix} {at' = at'} {a = a} {y = y} {all = all} {need = need} sm pm sub nd ia en x h =
        by (answered C p (entry C i).needs f.answers) (subst (λ (l : List Need). AnsAll s C K p l (answered C p (entry C i).needs f.answers)) en.needs_is (answers_all s C w K wf kn I sc ty ch i c there e f))
        (subst (λ (z : Act). In x (stores C z (entry C i).node (entry C i).offset p c (Compute.compute z (answered C p (entry C i).needs f.answers)))) en.act_is h)
      where
        lv : LiveStmt s K (script_path p) (stmt at' m a)
        lv = in_block (chain_live s C w.layout K wf.names I sc ch) sm

        cm : record { node = n; form = read y ix } ∈ cells (stmt at' m a)
        cm = cell_among _ (part_of_stmt a pm)

        g : IsIn k y
        g = (sc.statements k b (stmt at' m a) (chain_scope s C w.layout K wf.names I sc ch) sm).in_cells _ cm

        need_in : In need (entry C i).needs
        need_in = subst (λ (l : List Need). In need l) (sym en.needs_is) (inl refl)

        finish : (v : Scalar) → Ans s C K p need (Found v) → x.place ≡ place_at C p (code.here (scalar (entry C i).node)) → x.key ≡ only → x.value ≡ v → IsKnown x
        finish v an pq kq vq =
            let r = index_of sm sub cm ia need_in g an in
            let z = ty.index_key (script_path p) (stmt at' m a) n ix y r.index (stmt_in s lv) cm r.index_known in
            let kv = kn.shut _ (cell_value lv cm (found r.index_known z.2 (r.element (key_of z.0) z.2))) in
            (p, scalar n, pq ∙ declared_at C p (scalar (entry C i).node) ∙ ap (λ (z : ℕ). Datum p (scalar z)) nd, (kq, stored (subst (λ (u : Scalar). K (value (script_path p, n) (One u))) (sym vq) kv)))

        one_write : (d : CodePlaces.Place) (v : Scalar) → In x (record { place = d; key = only; value = v } ∷ []) → (x.place ≡ d) × (x.key ≡ only) × (x.value ≡ v)
        one_write d v (inl e) = (ap (λ (z : Write CodePlaces.Place Key Scalar). z.place) e, ap (λ (z : Write CodePlaces.Place Key Scalar). z.key) e, ap (λ (z : Write CodePlaces.Place Key Scalar). z.value) e)
        one_write d v (inr z) = absurd z

        no_content : (n' : Need) (xs : List (Key × Scalar)) → IndexAs C w.layout k all y ix n' → Ans s C K p n' (Content xs) → ⊥
        no_content n' xs (at_literal im pl) an = none_content (place_at C p (name_as k true y)) _ xs an
        no_content n' xs (at_name im pl) an = none_content (place_at C p (name_as k true y)) _ xs an.2
        no_content n' xs (at_datum im pl) an = none_content (place_at C p (name_as k true y)) _ xs an.2

        by : (ys : List Got) → AnsAll s C K p (need ∷ []) ys → In x (stored_at (place_at C p (code.here (scalar (entry C i).node))) (Compute.read (answer_at ys 0))) → IsKnown x
        by [] al j = absurd al
        by (Found v ∷ ys) al j = (let o = one_write _ v j in finish v al.0 o.0 o.1 o.2)
        by (Missing ∷ ys) al j = absurd j
        by (Content xs ∷ ys) al j = absurd (no_content need xs ia al.0)
