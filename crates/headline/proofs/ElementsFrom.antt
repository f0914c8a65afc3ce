-- The elements that the script writes, the code writes, by the script's answers; and so all that the script knows.
use Rattle.std.proofs.Common.{Result, ◌≡◌, inl, inr, ℕ, Bool, true, false, List, [], ◌∷◌, ◌++◌, refl, sym, ap, ◌∙◌, subst, Ok, Some}
use Rattle.std.specs.Prelude.{ℤ, if◌then◌else◌}
use Rattle.std.specs.List.{flat_map}
use Rattle.dataflow.specs.System.{In, Write, Content}
use Rattle.dataflow.specs.Facts.{Written}
use Rattle.dataflow.proofs.Lists.{in_map}
use Rattle.values.specs.declared.fault.OpFault.{OpFault}
use Rattle.values.specs.declared.key.Key.{Key}
use Rattle.values.specs.declared.map.Element.{Element}
use Rattle.values.specs.declared.value.Scalar.{Scalar}
use Rattle.values.specs.declared.value.Value.{Value}
use Rattle.values.specs.declared.value.Value.TheVariants.{One, Many}
use Rattle.values.specs.Maps.{element as entry_of}
use Rattle.values.specs.Operators.{literal}
use Rattle.language.specs.Core.{Name, Expr, Exprs, whole, operator, Form, compute, Outer, stmt, fill, insert, Block, Core}
use Rattle.language.specs.Facts.{value, element, Knowledge, Elements}
use Rattle.language.specs.Meaning.{ValueUnder, of_literal, of_name, of_array, of_operator, Gives, Comes, before, now, Closed, New}
use Rattle.language.specs.Members.{◌∈◌, first, later}
use Rattle.language.specs.Parts.{cells, block_list}
use Rattle.language.specs.Places.{Path, Place, place}
use Rattle.language.specs.WellFormed.{WellFormed, IsMany, a_list, a_copy}
use Rattle.language_laws.proofs.Declared.{stmt_in}
use Rattle.language.proofs.Members.{split_in}
use Rattle.language_laws.proofs.Sources.{outer_in, index_in, right_in, cell_gives, FillElement, InsertElement}
use Rattle.task_code.specs.Code as code
use Rattle.task_code.specs.Code.{Variable, Need, Act, Code, entry, body}
use Rattle.task_code.specs.Compute.{Computed, Inserts, filled, insert_element, content, answer_at, in_key_order, key_of, pairs, eval}
use Rattle.task_code.specs.Compute as Compute
use Rattle.task_code.specs.Effects.{Item, effect_at, stores, inserted_at, steps_on}
use Rattle.task_code.specs.Places.{Step, Datum, place_at}
use Rattle.task_code.specs.Places as CodePlaces
use Rattle.task_code.specs.System.{answered, code_system}
use Rattle.task_code.specs.Whole.{IsCode}
use Rattle.headline.specs.Headline.{script_path, script_place}
use Rattle.code_rules.proofs.Given.{gives_value}
use Rattle.headline.specs.Answered.{Reading}
use Rattle.headline.specs.Backs.{RightKnown, Backs}
use Rattle.headline.specs.Knows as Know
use Rattle.headline.specs.Inclusions.{Facts, WrittenFrom, Knows}
use Rattle.headline.specs.Chains.{Answers, Chain}
use Rattle.code_rules.specs.CodeNames.{name_as, wanted, over, all_over, each_once}
use Rattle.language_laws.specs.Scoped.{AreIn, IsIn, IsScoped, FormIn, Scoped}
use Rattle.code_rules.specs.IsCodeOf.{seen, own_form, own_expr, own_needs, fill_act, IsEntry, StmtAs, simple, IsCodeOf}
use Rattle.language_laws.specs.TypedValues.{TypedValues}
use Rattle.headline.proofs.Backing.{backs, element_known}
use Rattle.headline.proofs.Evaluate.{Got, Ans, AnsAll, in_once, once_in}
use Rattle.headline.proofs.Facts.{Known, known, fact_of, computes_so, has_answers}
use Rattle.headline.proofs.Inputs.{read_real}
use Rattle.headline.proofs.HeaderWorks.{Works, cell_seen, needs_answered, wanted_in}
use Rattle.headline.proofs.LiveFrom.{Alive}
use Rattle.headline.proofs.Means.{chain_scope, means, covering_writes}
use Rattle.headline.proofs.Readings.{IsSame, same_array, name_stands, gives_all, all_in_order, in_element}
use Rattle.headline.proofs.TurnsFrom.{turns_stored}
use Rattle.headline.proofs.WrittenFrom.{path_same, StmtLive, stmt_live, leaf_deep, nothing_behind, scalars_from}
use Rattle.headline.proofs.KeysOf.{key_as}

many_same : {x y : List Element} → ◌≡◌ {A = Result Value OpFault} (Ok (Many x)) (Ok (Many y)) → x ≡ y
many_same h = cc

many_one : {A : Type 0} {x : Scalar} {y : List Element} → ◌≡◌ {A = Result Value OpFault} (Ok (One x)) (Ok (Many y)) → A
many_one h = absurd (cc)

whole_same : {x y : Name} → whole x ≡ whole y → x ≡ y
whole_same h = cc

in_pairs : (es : List Element) (x : Element) → x ∈ es → In (x.key, x.value) (pairs es)
in_pairs [] x h = elim h [ ]
in_pairs (y ∷ ys) x first = inl refl
in_pairs (y ∷ ys) x (later h) = inr (in_pairs ys x h)

module _ (s : Core) (C : Code) (w : IsCodeOf s C) (K : Knowledge) (wf : WellFormed s) (kn : Backs s K) (I : IsCode C) (sc : Scoped s) where
  abbrev Stored : List Step → Variable → Key → Scalar → Type 0
  Stored p v key u = Written (code_system C) (Facts s C K) (Datum p v) key u

  -- stored by that item
  abbrev By : ℕ → List Step → List Step → Variable → Key → Scalar → Type 0
  By j p q v key x = (z : Stored q v key x) × (z.task ≡ Item j p 0)

  -- stored by the item that stands for that writer
  abbrev pub StoredBy : Place → List Step → Variable → Key → Scalar → Type 0
  StoredBy u q v key x = (i : ℕ) × (p : List Step) × By i p q v key x × ((script_path p, (entry C i).node) ≡ u)

  whole_inv : {path : Path} {a : Name} {e : Expr} {r : Result Value OpFault} {es : List Element} → ValueUnder s K path e r → e ≡ whole a → r ≡ Ok (Many es) → Closed s K (place s path a) × Elements K (place s path a) es
  whole_inv of_literal q h = absurd (cc (q))
  whole_inv (of_name u) q h = absurd (cc (q))
  whole_inv {path} {a} {es = es} (of_array {a = b} {es = xs} c el) q h =
      let e = whole_same q in
      (subst (λ (z : Name). Closed s K (place s path z)) e c, subst (λ (z : Name). Elements K (place s path z) es) e (subst (λ (z : List Element). Elements K (place s path b) z) (many_same h) el))
  whole_inv (of_operator us z) q h = absurd (cc (q))

  module _ {p : List Step} {t k : ℕ} {b : Block} (ch : Chain s C w.layout K p t k b) (j : ℕ) (there : In j (body C t).entries) where
    -- what a write of one element works out
    pub put_works : {y : Name} {ix o : Outer} {at at' n : ℕ} {pr : ℤ} {z x : Scalar} → stmt at' n (insert y ix o) ∈ block_list b
        → (ms : List Need) → own_needs w.layout k (insert y ix o) ≡ ms → IsEntry (entry C j) at pr ms (code.InsertElement (name_as k true y) (over k ms (seen w.layout ix.cell)) (over k ms (seen w.layout o.cell)))
        → K (value (script_path p, ix.cell.node) (One z)) → K (value (script_path p, o.cell.node) (One x)) → Works s C w K wf kn I sc ch j there (Inserts ((key_of z, x) ∷ []))
    put_works {y} {ix} {o} {z = key} {x = x} m ms mq en ki ko =
        let vi = cell_seen s C w K wf kn I sc ch j there ix.cell m (index_in ix o) ki in
        let vo = cell_seen s C w K wf kn I sc ch j there o.cell m (right_in ix o) ko in
        let es = seen w.layout ix.cell ∷ seen w.layout o.cell ∷ [] in
        let nq : (entry C j).needs ≡ each_once (flat_map (wanted k) es) = en.needs_is ∙ sym mq in
        let among : (e : Expr) → e ∈ es → (n : Need) → In n (wanted k e) → In n (each_once (flat_map (wanted k) es)) = wanted_in s C w K wf kn I sc ch j there es in
        let sub : (e : Expr) → e ∈ es → (n : Need) → In n (wanted k e) → In n (entry C j).needs = λ e i n h. subst (λ (l : List Need). In n l) (sym nq) (among e i n h) in
        let into : (e : Expr) → e ∈ es → (n : Need) → In n (wanted k e) → In n ms = λ e i n h. subst (λ (l : List Need). In n l) mq (among e i n h) in
        let kz = known s C w K wf kn I sc ch j there (needs_answered s C w K wf kn I sc ch j there es nq (λ e i. elim (split_in i) [
          | inl q ↦ (λ n h. has_answers s C w K wf kn I sc ch j there vi.0 vi.1 (sub _ first) n (subst (λ (u : Expr). In n (wanted k u)) q h))
          | inr i ↦ elim (split_in i) [
            | inl q ↦ (λ n h. has_answers s C w K wf kn I sc ch j there vo.0 vo.1 (sub _ (later first)) n (subst (λ (u : Expr). In n (wanted k u)) q h))
            | inr i ↦ elim i [ ]
          ]
        ])) in
        let ei = computes_so s C w K wf kn I sc ch j there kz vi.0 vi.1 ms en.needs_is (into _ first) in
        let eo = computes_so s C w K wf kn I sc ch j there kz vo.0 vo.1 ms en.needs_is (into _ (later first)) in
        record { answers = kz; computed = ap (λ (act : Act). Compute.compute act (answered C p (entry C j).needs kz.answers)) en.act_is ∙ (λ i. insert_element (ei i) (eo i)) }

  module _ {p : List Step} {t k : ℕ} {b : Block} (ch : Chain s C w.layout K p t k b) (alive : (j : ℕ) → In j (body C t).entries → Alive s C w K wf kn I sc (Item j p 0)) (j : ℕ) (there : In j (body C t).entries) where
    abbrev Ys : Known s C w K wf kn I sc ch j there → List Got
    Ys z = answered C p (entry C j).needs z.answers

    -- an element that an item inserts
    insert_out : (y : Name) → IsIn k y → In (name_as k true y) (entry C j).writes → (xs : List (Key × Scalar)) → Reading (code_system C) (Answers s K) (Item j p 0) (effect_at C j p 0 (Inserts xs))
        → stores C (entry C j).act (entry C j).node (entry C j).offset p 0 (Inserts xs) ≡ inserted_at (place_at C p (name_as k true y)) (Inserts xs)
        → (q : List Step) (v : Variable) (key : Key) (x : Scalar) → v.array ≡ true → place s (script_path p) y ≡ script_place q v → In (key, x) xs → By j p q v key x
    insert_out y g right xs f se q v key x va pq i =
        let z = same_array s wf K (means s C w.layout K wf.names I sc (λ z. z.writes) (covering_writes s C w.layout K wf.names I sc) ch j there true y right g) refl in
        let e : script_place z.path z.variable ≡ script_place q v = sym z.place_is ∙ pq in
        let ep : z.path ≡ q = path_same z.path q (ap (λ (u : Place). u.0) e) in
        let en : z.variable.node ≡ v.node = ap (λ (u : Place). u.1) e in
        let ea : z.variable.array ≡ v.array = z.array ∙ sym va in
        let d : place_at C p (name_as k true y) ≡ Datum q v = z.is ∙ (λ i. Datum (ep i) (record { node = en i; array = ea i })) in (
          record {
            task = Item j p 0;
            effect = effect_at C j p 0 (Inserts xs);
            fact = record { live = alive j there; reading = f };
            write = subst (λ (l : List (Write CodePlaces.Place Key Scalar)). In (record { place = Datum q v; key = key; value = x }) l) (sym se)
                (subst (λ (u : CodePlaces.Place). In (record { place = u; key = key; value = x }) (inserted_at (place_at C p (name_as k true y)) (Inserts xs))) d
                (in_map (λ (u : Key × Scalar). record { place = place_at C p (name_as k true y); key = u.0; value = u.1 }) (key, x) xs i));
          },
          refl,
        )

    stores_as : {a : Act} (x : Computed) (ws : List (Write CodePlaces.Place Key Scalar)) → (entry C j).act ≡ a → stores C a (entry C j).node (entry C j).offset p 0 x ≡ ws → stores C (entry C j).act (entry C j).node (entry C j).offset p 0 x ≡ ws
    stores_as x ws e h = ap (λ (z : Act). stores C z (entry C j).node (entry C j).offset p 0 x) e ∙ h

    -- A LITERAL'S ELEMENTS
    list_out : (y : Name) (o : Outer) {at : ℕ} {pr : ℤ} {es : List Element} (exs : Exprs) → own_expr o ≡ operator literal exs → IsIn k y → AreIn k (operator literal exs)
        → IsEntry (entry C j) at pr (own_needs w.layout k (fill y o)) (fill_act w.layout k (own_needs w.layout k (fill y o)) y (own_expr o)) → ValueUnder s K (script_path p) (operator literal exs) (Ok (Many es))
        → (q : List Step) (v : Variable) (key : Key) (x : Scalar) → v.array ≡ true → place s (script_path p) y ≡ script_place q v → entry_of key x ∈ es → By j p q v key x
    list_out y o {es = es} exs eq gy g en vu q v key x va pq i =
        let ex = operator literal exs in
        let ms = own_needs w.layout k (fill y o) in
        let mq : ms ≡ each_once (wanted k ex) = ap each_once (nothing_behind s C w K wf kn I sc (wanted k (own_expr o)) ∙ ap (wanted k) eq) in
        let act : (entry C j).act ≡ code.Fill (name_as k true y) (all_over k ms exs) = en.act_is ∙ ap (fill_act w.layout k ms y) eq in
        let sub : (n : Need) → In n (wanted k ex) → In n ms = λ n h. subst (λ (l : List Need). In n l) (sym mq) (in_once n _ h) in
        let z = known s C w K wf kn I sc ch j there (λ n h. has_answers s C w K wf kn I sc ch j there vu g (λ n h. subst (λ (l : List Need). In n l) (sym en.needs_is) (sub n h)) n (once_in n _ (subst (λ (l : List Need). In n l) (en.needs_is ∙ mq) h))) in
        let ev = computes_so s C w K wf kn I sc ch j there z vu g ms en.needs_is sub in
        let f = fact_of s C w K wf kn I sc ch j there z 0 (Inserts (pairs es)) (ap (λ (a : Act). Compute.compute a (answered C p (entry C j).needs z.answers)) act ∙ ap filled ev) tt
        (leaf_deep s C w K wf kn I sc (entry C j).act p _ (ap steps_on act)) in
        insert_out y gy (I.stores j (name_as k true y) (subst (λ (a : Act). In (name_as k true y) (code.targets_of (entry C j).node a)) (sym act) (inl refl))) (pairs es) f
        (stores_as _ _ act refl) q v key x va pq (in_pairs es (entry_of key x) i)

    -- A COPY'S ELEMENTS
    copy_out : (y : Name) (o : Outer) {at : ℕ} {pr : ℤ} {es : List Element} (a : Name) → own_expr o ≡ whole a → IsIn k y → IsIn k a
        → IsEntry (entry C j) at pr (own_needs w.layout k (fill y o)) (fill_act w.layout k (own_needs w.layout k (fill y o)) y (own_expr o)) → ValueUnder s K (script_path p) (whole a) (Ok (Many es))
        → (q : List Step) (v : Variable) (key : Key) (x : Scalar) → v.array ≡ true → place s (script_path p) y ≡ script_place q v → entry_of key x ∈ es → By j p q v key x
    copy_out y o {es = es} a eq gy g en vu q v key x va pq i =
        by (answered C p (entry C j).needs z.answers) refl (subst (λ (l : List Need). AnsAll s C K p l (answered C p (entry C j).needs z.answers)) needs_are z.says)
      where
        src : Closed s K (place s (script_path p) a) × Elements K (place s (script_path p) a) es
        src = whole_inv vu refl refl

        act : (entry C j).act ≡ code.Copy (name_as k true y)
        act = en.act_is ∙ ap (fill_act w.layout k (own_needs w.layout k (fill y o)) y) eq

        needs_are : (entry C j).needs ≡ code.Closed (name_as k true a) ∷ []
        needs_are = en.needs_is ∙ ap (λ (e : Expr). each_once (wanted k e ++ [])) eq

        need_in : In (code.Closed (name_as k true a)) (entry C j).needs
        need_in = subst (λ (l : List Need). In (code.Closed (name_as k true a)) l) (sym needs_are) (inl refl)

        is_same : IsSame s wf K (place_at C p (name_as k true a)) (place s (script_path p) a)
        is_same = same_array s wf K (name_stands s wf K kn C w.layout I sc ch j there true a _ g need_in (inl refl)) refl

        z : Known s C w K wf kn I sc ch j there
        z = known s C w K wf kn I sc ch j there (λ n' h. elim (subst (λ (l : List Need). In n' l) needs_are h) [ inl e ↦ subst (λ (u : Need). (y : Got) × Ans s C K p u y) (sym e) (Content (pairs es), gives_all s wf K is_same src.0 src.1) | inr u ↦ absurd u ])

        by : (ys : List Got) → answered C p (entry C j).needs z.answers ≡ ys → AnsAll s C K p (code.Closed (name_as k true a) ∷ []) ys → By j p q v key x
        by [] e al = absurd al
        by (y' ∷ ys) e al =
            let o' = all_in_order s wf K is_same src.0 src.1 al.0 in
            let order : (if in_key_order o'.0 then o'.0 else []) ≡ o'.0 = ap (λ (c : Bool). if c then o'.0 else []) o'.3 in
            let comp : Compute.compute (entry C j).act (answered C p (entry C j).needs z.answers) ≡ Inserts o'.0 =
            ap (λ (act : Act). Compute.compute act (answered C p (entry C j).needs z.answers)) act ∙ ap (λ (l : List Got). Inserts (content (answer_at l 0))) e ∙ ap (λ (u : Got). Inserts (content (Some u))) o'.1 ∙ ap Inserts order in
            let f = fact_of s C w K wf kn I sc ch j there z 0 (Inserts o'.0) comp tt (leaf_deep s C w K wf kn I sc (entry C j).act p _ (ap steps_on act)) in
            insert_out y gy (I.stores j (name_as k true y) (subst (λ (a : Act). In (name_as k true y) (code.targets_of (entry C j).node a)) (sym act) (inl refl))) o'.0 f
            (stores_as _ _ act refl) q v key x va pq (in_element o'.0 (entry_of key x) (subst (λ (l : List Element). entry_of key x ∈ l) (sym o'.2) i))

    -- ONE ELEMENT
    put_out : {y : Name} {ix o : Outer} {at at' n : ℕ} {pr : ℤ} {z x : Scalar} → stmt at' n (insert y ix o) ∈ block_list b → IsIn k y
        → (ms : List Need) → own_needs w.layout k (insert y ix o) ≡ ms → IsEntry (entry C j) at pr ms (code.InsertElement (name_as k true y) (over k ms (seen w.layout ix.cell)) (over k ms (seen w.layout o.cell)))
        → K (value (script_path p, ix.cell.node) (One z)) → K (value (script_path p, o.cell.node) (One x))
        → (q : List Step) (v : Variable) → v.array ≡ true → place s (script_path p) y ≡ script_place q v → By j p q v (key_of z) x
    put_out {y} {ix} {o} {z = index} {x = x} m gy ms mq en ki ko q v va pq =
        let z = put_works ch j there m ms mq en ki ko in
        let f = fact_of s C w K wf kn I sc ch j there z.answers 0 (Inserts ((key_of index, x) ∷ [])) z.computed tt (leaf_deep s C w K wf kn I sc (entry C j).act p _ (ap steps_on en.act_is)) in
        insert_out y gy (I.stores j (name_as k true y) (subst (λ (a : Act). In (name_as k true y) (code.targets_of (entry C j).node a)) (sym en.act_is) (inl refl))) ((key_of index, x) ∷ []) f
        (stores_as _ _ en.act_is refl) q v (key_of index) x va pq (inl refl)

  -- ALL ELEMENTS
  from_fill : (q : List Step) (v : Variable) (key : Key) (u : Place) (x : Scalar) → v.array ≡ true → FillElement s K (script_place q v) key u x → StoredBy u q v key x
  from_fill q v key u x va a = by_entry (sl.entries).as_stmt (sl.entries).among
    where
      cm : (a.right).cell ∈ cells (stmt a.at a.node (fill a.array a.right))
      cm = outer_in (a.right).parts (a.right).cell

      sl : StmtLive s C w K wf kn I sc a.path (stmt a.at a.node (fill a.array a.right))
      sl = stmt_live s C w K wf kn I sc a.live (a.right).cell cm

      scp : IsScoped sl.k (stmt a.at a.node (fill a.array a.right))
      scp = sc.statements sl.k sl.block _ (chain_scope s C w.layout K wf.names I sc sl.chain) sl.there

      gave : Gives s K a.path (a.right).cell.form (Ok (Many a.elements))
      gave = by a.comes
        where
          by : Comes s K a.path (a.right).cell (Many a.elements) → Gives s K a.path (a.right).cell.form (Ok (Many a.elements))
          by (before k) = (cell_gives s wf.cells K (stmt_in s a.live) cm (kn.backed _ k)).1
          by (now g) = g

      place_eq : place s (script_path sl.p) a.array ≡ script_place q v
      place_eq = ap (λ (z : Path). place s z a.array) sl.path_is ∙ a.array_is

      under : {e : Expr} → (a.right).cell.form ≡ compute e → ValueUnder s K (script_path sl.p) e (Ok (Many a.elements))
      under {e} f = subst (λ (z : Path). ValueUnder s K z e (Ok (Many a.elements))) (sym sl.path_is) (gives_value gave f)

      by_entry : {js : List ℕ} → StmtAs C w.layout sl.k (stmt a.at a.node (fill a.array a.right)) js → ((j : ℕ) → In j js → In j (body C sl.t).entries) → StoredBy u q v key x
      by_entry (simple j {is = is} z op as' en nd eq) sub =
          let there = sub j (subst (λ (l : List ℕ). In j l) (sym eq) (in_right' is)) in
          (j, sl.p, by_form refl ((wf.cells).fill_many a.at a.node a.array a.right (stmt_in s a.live)) there, (λ i. (sl.path_is i, nd i)) ∙ a.writer_is)
        where
          in_right' : (is : List ℕ) → In j (is ++ j ∷ [])
          in_right' [] = inl refl
          in_right' (i ∷ is) = inr (in_right' is)

          by_form : {g : Form} → (a.right).cell.form ≡ g → IsMany g → In j (body C sl.t).entries → By j sl.p q v key x
          by_form f (a_list {es = exs}) there =
              list_out sl.chain sl.alive j there a.array a.right exs (ap (own_form (a.right).cell.node) f) (scp.in_targets a.array first) (subst (FormIn sl.k) f (scp.in_cells (a.right).cell cm)) en (under f) q v key x va place_eq a.there
          by_form f (a_copy {a = b}) there =
              copy_out sl.chain sl.alive j there a.array a.right b (ap (own_form (a.right).cell.node) f) (scp.in_targets a.array first) (subst (FormIn sl.k) f (scp.in_cells (a.right).cell cm)) en (under f) q v key x va place_eq a.there

  from_insert : (q : List Step) (v : Variable) (key : Key) (u : Place) (x : Scalar) → v.array ≡ true → (z : InsertElement s K (script_place q v) key u x) → K (value (z.path, z.index.cell.node) z.index_value) → K (value (z.path, z.right.cell.node) (One x)) → StoredBy u q v key x
  from_insert q v key u x va a known_index known_right = by_key (key_as a.is_key)
    where
      ci : (a.index).cell ∈ cells (stmt a.at a.node (insert a.array a.index a.right))
      ci = index_in a.index a.right

      cr : (a.right).cell ∈ cells (stmt a.at a.node (insert a.array a.index a.right))
      cr = right_in a.index a.right

      sl : StmtLive s C w K wf kn I sc a.path (stmt a.at a.node (insert a.array a.index a.right))
      sl = stmt_live s C w K wf kn I sc a.live (a.right).cell cr

      scp : IsScoped sl.k (stmt a.at a.node (insert a.array a.index a.right))
      scp = sc.statements sl.k sl.block _ (chain_scope s C w.layout K wf.names I sc sl.chain) sl.there

      place_eq : place s (script_path sl.p) a.array ≡ script_place q v
      place_eq = ap (λ (z : Path). place s z a.array) sl.path_is ∙ a.array_is

      by_key : (r : (i : Scalar) × (a.index_value ≡ One i) × (key_of i ≡ key)) → StoredBy u q v key x
      by_key (index, index_is, is_key) = subst (λ (k : Key). StoredBy u q v k x) is_key (by_entry (sl.entries).as_stmt (sl.entries).among)
        where
          ki : K (value (script_path sl.p, (a.index).cell.node) (One index))
          ki = subst (λ (z : Path). K (value (z, (a.index).cell.node) (One index))) (sym sl.path_is) (subst (λ (z : Value). K (value (a.path, (a.index).cell.node) z)) index_is known_index)

          ko : K (value (script_path sl.p, (a.right).cell.node) (One x))
          ko = subst (λ (z : Path). K (value (z, (a.right).cell.node) (One x))) (sym sl.path_is) known_right

          by_entry : {js : List ℕ} → StmtAs C w.layout sl.k (stmt a.at a.node (insert a.array a.index a.right)) js → ((j : ℕ) → In j js → In j (body C sl.t).entries) → StoredBy u q v (key_of index) x
          by_entry (simple j {is = is} z op as' en nd eq) sub =
              let there = sub j (subst (λ (l : List ℕ). In j l) (sym eq) (in_right' is)) in
              (j, sl.p, put_out sl.chain sl.alive j there sl.there (scp.in_elements a.array first) _ refl en ki ko q v va place_eq, (λ i. (sl.path_is i, nd i)) ∙ a.writer_is)
            where
              in_right' : (is : List ℕ) → In j (is ++ j ∷ [])
              in_right' [] = inl refl
              in_right' (i ∷ is) = inr (in_right' is)

  -- an element that follows, with the values behind it known
  pub element_from : (q : List Step) (v : Variable) (key : Key) (u : Place) (x : Scalar) → v.array ≡ true → (n : New s K (element (script_place q v) key u x)) → RightKnown s K n → StoredBy u q v key x
  element_from q v key u x va n h = elim (element_known n h refl) [ inl a ↦ from_fill q v key u x va a | inr a ↦ from_insert q v key u x va a.0 a.1 a.2 ]

  pub elements_from : (q : List Step) (v : Variable) (key : Key) (u : Place) (x : Scalar) → v.array ≡ true → K (element (script_place q v) key u x) → Stored q v key x
  elements_from q v key u x va kv = (element_from q v key u x va (kn.backed _ kv) (kn.behind _ kv)).2.0

  -- WHAT THE SCRIPT KNOWS, THE CODE WRITES: at an array, or at a scalar that is no plain cell
  pub stored_from : (p : List Step) (v : Variable) (key : Key) (x : Scalar) → (v.array ≡ false → w.layout.plain v.node ≡ false) → Knows s C K v.array (script_place p v) key x → Stored p v key x
  stored_from p v key x real h = by v.array refl h
    where
      by : (d : Bool) → v.array ≡ d → Knows s C K d (script_place p v) key x → Stored p v key x
      by true e h = elements_from p v key h.0 x e h.1
      by false e h = subst (λ (z : Key). Stored p v z x) (sym h.0) (scalars_from s C w K wf kn I sc (turns_stored s C w K wf kn I sc) p v x e (real e) h.1 refl)

module _ (s : Core) (C : Code) (w : IsCodeOf s C) (K : Knowledge) (wf : WellFormed s) (kn : Know.Knows s K) (I : IsCode C) (sc : Scoped s) where
  pub written_from : TypedValues s K → WrittenFrom s C K
  written_from ty p v key x rd h = stored_from s C w K wf (backs s K kn) I sc p v key x (λ e. read_real s C w K wf kn I sc ty p v rd) h
