-- The fact of a statement's own entry, once the script knows what the entry works out.
use Rattle.std.proofs.Common.{◌≡◌, inl, inr, ℕ, zero, suc, ◌<◌, arith, Bool, true, false, List, [], ◌∷◌, map, length, refl, sym, ap, ◌∙◌, subst, Option, Some, None, Result, Ok}
use Rattle.std.specs.Prelude.{pos, ℤ, ◌&&◌, nat_le, if◌then◌else◌}
use Rattle.std.specs.List.{flat_map}
use Rattle.dataflow.specs.System.{In, Write}
use Rattle.dataflow.proofs.Lists.{in_right, in_split, in_unmap}
use Rattle.values.specs.declared.fault.OpFault.{OpFault}
use Rattle.values.specs.declared.key.Key.{Key}
use Rattle.values.specs.declared.map.Element.{Element}
use Rattle.values.specs.Maps.{element as element_of}
use Rattle.values.specs.declared.value.Scalar.{Scalar}
use Rattle.values.specs.declared.value.Scalar.TheVariants.{Truth}
use Rattle.values.specs.declared.value.Value.{Value}
use Rattle.values.specs.declared.value.Value.TheVariants.{One, Many}
use Rattle.language.specs.Core as Co
use Rattle.language.specs.Core.{Name, Expr, Form, Cell, Call, Part, Outer, Awaited, Stmt, stmt, Action, fill, insert, when, choose, range, each, wait, Block, no_stmts, stmts, Core}
use Rattle.language.specs.Facts.{value, element, Knowledge}
use Rattle.language.specs.Meaning.{Gives, ValueUnder, of_literal, of_name, of_array, of_operator, LiveStmt, in_block, Ready, cells_known, source_closed}
use Rattle.language.specs.Members.{◌∈◌, first}
use Rattle.language.specs.Openings.{Branches, one_way, two_ways, in_turns, Opens, then_alone, then_first, else_second, turn, item}
use Rattle.language.specs.Parts.{block_list, cells}
use Rattle.language.specs.Places.{Place, place, max_path_steps}
use Rattle.language.specs.WellFormed.{WellFormed, IsMany, a_list, a_copy}
use Rattle.language_laws.proofs.Sources.{outer_in, cell_gives, IsFull}
use Rattle.language_laws.proofs.Declared.{stmt_in}
use Rattle.code_rules.proofs.Given.{gives_value}
use Rattle.values.specs.Operators.{literal}
use Rattle.task_code.specs.Code as code
use Rattle.task_code.specs.Code.{Need, Header, Act, If, Code, entry, body, Way, Through, InPlace, Loop, ways, loop_of}
use Rattle.task_code.specs.Compute.{Computed, Inserts, eval, filled, content, answer_at, Takes, Turns, Opens as OpensIt, Elements, compute, turns_or, range_turns, pairs, elements, in_key_order, key_of}
use Rattle.task_code.specs.Effects.{Item, stores, inserted_at, instances, is_too_deep, steps_on, chunk, effect_at, step_at, at_first}
use Rattle.task_code.specs.Places.{Step, Datum, place_at}
use Rattle.task_code.specs.Places as CodePlaces
use Rattle.task_code.proofs.Places.{spot_path, spot_variable}
use Rattle.task_code.proofs.Chunks.{in_chunk}
use Rattle.task_code.proofs.Rights.{loop_instances}
use Rattle.task_code.specs.System.{answered, code_system}
use Rattle.task_code.specs.Whole.{IsCode}
use Rattle.headline.specs.Headline.{script_path, script_place}
use Rattle.code_rules.specs.CodeNames.{awaited_need, each_once, wanted, over, name_as}
use Rattle.code_rules.specs.IsCodeOf.{Layout, own_form, own_expr, own_needs, fill_act, simple_act, IsEntry, CallAs, BodyAs, IsCodeOf}
use Rattle.language_laws.specs.Scoped.{IsIn, AreIn, FormIn, InScope, in_wait, Scoped}
use Rattle.headline.specs.Answered.{Reading}
use Rattle.headline.specs.Chains.{Answers, Chain}
use Rattle.headline.specs.Backs.{Backs}
use Rattle.headline.proofs.ClosingFrom.{ReadsAs, KnownWrites, written_cells, OpenedAs, HeaderFact, AllReady, last_ready, outer_ready, FactsFrom}
use Rattle.headline.proofs.ElementsFrom.{put_works}
use Rattle.headline.proofs.Evaluate.{Got, Ans, AnsAll, once_in, in_once}
use Rattle.headline.proofs.Facts.{Known, known, computes_so, has_answers, fact_of, IsGood, not_too_deep}
use Rattle.headline.proofs.HeaderWorks.{no_simple, Works, branch_works, condition_value, each_turns, range_seen, range_works, ready_names, come_answer, awaited_of}
use Rattle.headline.proofs.LiveTo.{first_one, turn_in}
use Rattle.headline.proofs.Means.{chain_live, chain_scope, means, covering_writes}
use Rattle.headline.proofs.Readings.{element_in, elements_pairs, IsSame, same_array, name_stands, all_in_order}
use Rattle.headline.proofs.WritesTo.{inserted_one}
use Rattle.headline.proofs.WrittenFrom.{leaf_deep, nothing_behind}
use Rattle.headline.proofs.Roles.{OwnAs, own_simple, own_branch, own_branches, own_range, own_each, own_wait}

-- no path is too long for blocks that are not there
never_deep : (a : Act) (p : List Step) (ss : List (ℕ × List Step)) → ((q : ℕ × List Step) → In q ss → length (script_path p) < max_path_steps) → is_too_deep a p ss ≡ false
never_deep a p [] h = none (nat_le max_path_steps (length p)) (steps_on a)
  where
    none : (b d : Bool) → (b && (d && false)) ≡ false
    none true true = refl
    none true false = refl
    none false d = refl
never_deep a p (q ∷ qs) h = not_too_deep a p (q ∷ qs) (h q (inl refl))

none_first : {X : Type 0} (c : ℕ) (x : X) → In x (at_first c []) → ⊥
none_first zero x h = h
none_first (suc c) x h = h

many_in : {x y : List Element} → Many x ≡ Many y → x ≡ y
many_in h = cc

ok_many : {v : Value} {es : List Element} → ◌≡◌ {A = Result Value OpFault} (Ok (Many es)) (Ok v) → Many es ≡ v
ok_many h = cc

whole_in : {x y : Name} → Co.whole x ≡ Co.whole y → x ≡ y
whole_in h = cc

-- a fill may write its array
fill_right : (C : Code) (l : Layout) (I : IsCode C) (k : ℕ) (ms : List Need) (e : Expr) {at : ℕ} {pr : ℤ} (x : Name) (j : ℕ) → IsEntry (entry C j) at pr ms (fill_act l k ms x e) → In (name_as k true x) (entry C j).writes
fill_right C l I k ms e x j en = I.stores j (name_as k true x) (subst (λ (a : Act). In (name_as k true x) (code.targets_of (entry C j).node a)) (sym en.act_is) (by e))
  where
    by : (e : Expr) → In (name_as k true x) (code.targets_of (entry C j).node (fill_act l k ms x e))
    by (Co.whole y) = inl refl
    by (Co.literal y) = inl refl
    by (Co.name y) = inl refl
    by (Co.operator y es) = inl refl

module _ (s : Core) (C : Code) (w : IsCodeOf s C) (K : Knowledge) (wf : WellFormed s) (kn : Backs s K) (I : IsCode C) (sc : Scoped s) (full : IsFull s K) where
  module _ {p : List Step} {t k : ℕ} {b : Block} (ch : Chain s C w.layout K p t k b) (j : ℕ) (there : In j (body C t).entries) where
    fact_at : {x : Computed} → Works s C w K wf kn I sc ch j there x → IsGood x → (c : ℕ) → ((q : ℕ × List Step) → In q (instances (entry C j).act (entry C j).offset p c x) → length (script_path p) < max_path_steps)
        → Reading (code_system C) (Answers s K) (Item j p c) (effect_at C j p c x)
    fact_at {x} z g c h = fact_of s C w K wf kn I sc ch j there z.answers c x z.computed g (never_deep (entry C j).act p _ h)

    header_fact : {at : ℕ} {a : Action} {vs : List Value} {x : Computed} → Works s C w K wf kn I sc ch j there x → IsGood x → (entry C j).offset ≡ at
        → ((c : ℕ) (q : ℕ × List Step) → In q (instances (entry C j).act (entry C j).offset p c x) → OpenedAs s C w K wf kn I sc j k p a vs q) → ((key : Key) (c : Block) → Opens a vs key c → length (script_path p) < max_path_steps) → HeaderFact s C w K wf kn I sc j k at p a vs
    header_fact {x = x} z g mk o dp = record { computed = x; offset_is = mk; fact = λ c. fact_at z g c (λ q i. (let r = o c q i in dp r.key r.content r.opens)); opens = o }

    -- BRANCHES
    when_opens : {t' : ℕ} {o : Outer} {d : Block} {e : code.Expr} (x : Bool) → (entry C j).act ≡ If e t' None → BodyAs C w.layout k d t' → (c : ℕ) (q : ℕ × List Step) → In q (instances (entry C j).act (entry C j).offset p c (Takes x)) → OpenedAs s C w K wf kn I sc j k p (when o d) (One (Truth x) ∷ []) q
    when_opens {t' = t'} {d = d} true aq ba c q h = record {
      number = t';
      key = Key.Number (pos 0);
      content = d;
      way = subst (λ (a : Act). In (Through, t') (ways a)) (sym aq) (inl refl);
      stands = ba;
      opens = then_alone;
      is = first_one c q (t', step_at (entry C j).offset (Key.Number (pos 0)) p) (subst (λ (a : Act). In q (instances a (entry C j).offset p c (Takes true))) aq h);
    }
    when_opens false aq ba c q h = absurd (none_first c q (subst (λ (a : Act). In q (instances a (entry C j).offset p c (Takes false))) aq h))

    choose_opens : {t' u' : ℕ} {o : Outer} {d d' : Block} {e : code.Expr} (x : Bool) → (entry C j).act ≡ If e t' (Some u') → BodyAs C w.layout k d t' → BodyAs C w.layout k d' u' → (c : ℕ) (q : ℕ × List Step) → In q (instances (entry C j).act (entry C j).offset p c (Takes x))
        → OpenedAs s C w K wf kn I sc j k p (choose o d d') (One (Truth x) ∷ []) q
    choose_opens {t'} {d = d} true aq ba bb c q h = record {
      number = t';
      key = Key.Number (pos 0);
      content = d;
      way = subst (λ (a : Act). In (Through, t') (ways a)) (sym aq) (inl refl);
      stands = ba;
      opens = then_first;
      is = first_one c q (t', step_at (entry C j).offset (Key.Number (pos 0)) p) (subst (λ (a : Act). In q (instances a (entry C j).offset p c (Takes true))) aq h);
    }
    choose_opens {u' = u'} {d' = d'} false aq ba bb c q h = record {
      number = u';
      key = Key.Number (pos 1);
      content = d';
      way = subst (λ (a : Act). In (Through, u') (ways a)) (sym aq) (inr (inl refl));
      stands = bb;
      opens = else_second;
      is = first_one c q (u', step_at (entry C j).offset (Key.Number (pos 1)) p) (subst (λ (a : Act). In q (instances a (entry C j).offset p c (Takes false))) aq h);
    }

    -- TURNS
    turns_opened : {x t' : ℕ} {y : Option ℕ} {a : Action} {d : Block} {vs : List Value} (ts : Elements) → loop_of (entry C j).act ≡ Some (record { body = t'; value = x; turn = y }) → In (Through, t') (ways (entry C j).act) → BodyAs C w.layout k d t'
        → ((u : Key × Scalar) → In u ts → Opens a vs u.0 d) → (c : ℕ) (q : ℕ × List Step) → In q (instances (entry C j).act (entry C j).offset p c (Turns ts)) → OpenedAs s C w K wf kn I sc j k p a vs q
    turns_opened {x} {t'} {y} {d = d} ts lq wy ba f c q h =
        let r = in_unmap (λ (u : Key × Scalar). (t', step_at (entry C j).offset u.0 p)) q (chunk c ts) (subst (λ (l : List (ℕ × List Step)). In q l) (loop_instances C (entry C j).act (record { body = t'; value = x; turn = y }) (entry C j).offset p c (Turns ts) lq) h) in
        record { number = t'; key = (r.0).0; content = d; way = wy; stands = ba; opens = f r.0 (in_chunk c ts r.0 r.1); is = sym r.2 }

    headers : (at n : ℕ) (a : Action) (vs : List Value) → stmt at n a ∈ block_list b → OwnAs C w.layout k (stmt at n a) j → Branches a → Ready s K (script_path p) a vs → ((key : Key) (c : Block) → Opens a vs key c → length (script_path p) < max_path_steps) → HeaderFact s C w K wf kn I sc j k at p a vs
    headers at n a vs m (own_simple z en nd) br r dp = absurd (no_simple a z br)
    headers at n (when o d) vs m (own_branch en mk ba) br (cells_known ks (one_way {t = x})) dp =
        let kv = condition_value s C w K wf kn I sc ch j there (cells_known ks (one_way {c = o} {b = d} {t = x})) refl refl (λ ns c e. absurd (cc (e))) (λ x y z c e. absurd (cc (e))) in
        header_fact (branch_works s C w K wf kn I sc ch j there o x m (outer_in o.parts o.cell) kv en) tt mk (when_opens {o = o} x en.act_is ba) dp
    headers at n (choose o d d') vs m (own_branches en mk ba bb) br (cells_known ks (two_ways {t = x})) dp =
        let kv = condition_value s C w K wf kn I sc ch j there (cells_known ks (two_ways {c = o} {b = d} {d = d'} {t = x})) refl refl (λ ns c e. absurd (cc (e))) (λ x y z c e. absurd (cc (e))) in
        header_fact (branch_works s C w K wf kn I sc ch j there o x m (outer_in o.parts o.cell) kv en) tt mk (choose_opens {o = o} x en.act_is ba bb) dp
    headers at n (range lo hi st x y d) vs m (own_range {t = t'} en mk ba) br (cells_known ks (in_turns {r = rr} {n = many} bq rc)) dp =
        let z = range_works s C w K wf kn I sc ch j there lo hi st d _ refl en (range_seen s C w K wf kn I sc ch j there st m ks bq) in
        header_fact (record { answers = z.answers; computed = z.computed ∙ ap (λ (c : Result ℕ OpFault). turns_or c rr.low rr.step) rc }) tt mk
        (turns_opened (range_turns rr.low rr.step 0 many) (ap loop_of en.act_is) (subst (λ (act : Act). In (Through, t') (ways act)) (sym en.act_is) (inl refl)) ba
        (λ u i. (let r = turn_in rr.low rr.step 0 many u i in subst (λ (key : Key). Opens (range lo hi st x y d) vs key d) (sym r.2) (turn bq rc (let z = r.1 in omega arith))))) dp
    headers at n (each a x y d) vs m (own_each {t = t'} en mk ba) br (source_closed {es = es} c el) dp =
        let o = each_turns s C w K wf kn I sc ch j there (sc.loops k b at n x a y d (chain_scope s C w.layout K wf.names I sc ch) m) en (source_closed {b = d} c el) in
        header_fact (record { answers = o.answers; computed = o.computed }) tt mk
        (turns_opened o.turns (ap loop_of en.act_is) (subst (λ (act : Act). In (Through, t') (ways act)) (sym en.act_is) (inl refl)) ba
        (λ u i. item (subst (λ (l : List Element). element_of u.0 u.1 ∈ l) o.all (element_in o.turns u.0 u.1 i)))) dp
    headers at n (each a x y d) vs m (own_each en mk ba) br (cells_known ks z) dp = elim z [ ]
    headers at n (wait ns d) vs m (own_wait wa en) br r dp = absurd br

    -- elements that an item inserts are known, if they are as elements of the script's array
    insert_known : (x : Name) → In (name_as k true x) (entry C j).writes → IsIn k x → (xs : List (Key × Scalar)) → ((key : Key) (y : Scalar) → In (key, y) xs → (u : Place) × K (element (place s (script_path p) x) key u y))
        → stores C (entry C j).act (entry C j).node (entry C j).offset p 0 (Inserts xs) ≡ inserted_at (place_at C p (name_as k true x)) (Inserts xs) → KnownWrites s C w K wf kn I sc j p 0 (Inserts xs)
    insert_known x right g xs f q d v key y va i =
        let one = inserted_one (place_at C p (name_as k true x)) xs _ (subst (λ (l : List (Write CodePlaces.Place Key Scalar)). In (record { place = Datum d v; key = key; value = y }) l) q i) in
        let sm = same_array s wf K (means s C w.layout K wf.names I sc (λ z. z.writes) (covering_writes s C w.layout K wf.names I sc) ch j there true x right g) refl in
        let e : Datum sm.path sm.variable ≡ Datum d v = sym sm.is ∙ sym one.place_is in
        let r = f one.one.0 one.one.1 one.there in
        let at_place : place s (script_path p) x ≡ script_place d v = sm.place_is ∙ (λ z. script_place (spot_path e z) (spot_variable e z)) in
        (r.0, subst (λ (z : Key). K (element (script_place d v) z r.0 y)) (sym one.key_is) (subst (λ (z : Scalar). K (element (script_place d v) one.one.0 r.0 z)) (sym one.value_is) (subst (λ (z : Place). K (element z one.one.0 r.0 one.one.1)) at_place r.1)))

    -- A LITERAL AND A COPY
    abbrev Filled : Type 0
    Filled = (c : Computed) × ReadsAs s C w K wf kn I sc j p 0 c × KnownWrites s C w K wf kn I sc j p 0 c

    fills : (at n : ℕ) (x : Name) (o : Outer) (v : Value) → stmt at n (fill x o) ∈ block_list b → IsEntry (entry C j) at (pos 0) (own_needs w.layout k (fill x o)) (fill_act w.layout k (own_needs w.layout k (fill x o)) x (own_expr o)) → K (value (script_path p, o.cell.node) v) → Filled
    fills at n x o v m en kv = by_form refl (wf.cells.fill_many at n x o (stmt_in s live))
      where
        live : LiveStmt s K (script_path p) (stmt at n (fill x o))
        live = in_block (chain_live s C w.layout K wf.names I sc ch) m

        cm : o.cell ∈ cells (stmt at n (fill x o))
        cm = outer_in o.parts o.cell

        gave : Gives s K (script_path p) o.cell.form (Ok v)
        gave = (cell_gives s wf.cells K (stmt_in s live) cm (kn.backed _ kv)).1

        inside : FormIn k o.cell.form
        inside = (sc.statements k b (stmt at n (fill x o)) (chain_scope s C w.layout K wf.names I sc ch) m).in_cells o.cell cm

        target_in : IsIn k x
        target_in = (sc.statements k b (stmt at n (fill x o)) (chain_scope s C w.layout K wf.names I sc ch) m).in_targets x first

        by_expr : (E : Expr) → own_expr o ≡ E → ValueUnder s K (script_path p) E (Ok v) → AreIn k E → (f : List Got → Computed) → ((ys : List Got) → compute (fill_act w.layout k (own_needs w.layout k (fill x o)) x E) ys ≡ f ys) → ((ys : List Got) → steps_on (fill_act w.layout k (own_needs w.layout k (fill x o)) x E) ≡ false)
            → ((z : Known s C w K wf kn I sc ch j there) → (entry C j).needs ≡ each_once (wanted k E) → (xs : List (Key × Scalar)) × (f (answered C p (entry C j).needs z.answers) ≡ Inserts xs) × (v ≡ Many (elements xs)))
            → ((X : Computed) → stores C (fill_act w.layout k (own_needs w.layout k (fill x o)) x E) (entry C j).node (entry C j).offset p 0 X ≡ inserted_at (place_at C p (name_as k true x)) X) → Filled
        by_expr E eq vu g f fq sf good st =
            let nq : (entry C j).needs ≡ each_once (wanted k E) = en.needs_is ∙ ap each_once (nothing_behind s C w K wf kn I sc (wanted k (own_expr o)) ∙ ap (wanted k) eq) in
            let act : (entry C j).act ≡ fill_act w.layout k (own_needs w.layout k (fill x o)) x E = en.act_is ∙ ap (fill_act w.layout k (own_needs w.layout k (fill x o)) x) eq in
            let z = known s C w K wf kn I sc ch j there (λ n h. has_answers s C w K wf kn I sc ch j there vu g (λ n h. subst (λ (l : List Need). In n l) (sym nq) (in_once n _ h)) n (once_in n _ (subst (λ (l : List Need). In n l) nq h))) in
            let ys = answered C p (entry C j).needs z.answers in
            let r = good z nq in
            let all = full (script_path p) at n x o v (stmt_in s live) kv in
            let same : all.0 ≡ elements r.0 = many_in (sym all.1 ∙ r.2) in (
              Inserts r.0,
              fact_of s C w K wf kn I sc ch j there z 0 (Inserts r.0) (ap (λ (a : Act). compute a ys) act ∙ fq ys ∙ r.1) tt (leaf_deep s C w K wf kn I sc (entry C j).act p _ (ap steps_on act ∙ sf ys)),
              insert_known x (fill_right C w.layout I k (own_needs w.layout k (fill x o)) (own_expr o) x j en) target_in r.0 (λ key y i. ((script_path p, n), all.2 key y (subst (λ (l : List Element). element_of key y ∈ l) (sym same) (element_in r.0 key y i))))
                  (ap (λ (a : Act). stores C a (entry C j).node (entry C j).offset p 0 (Inserts r.0)) act ∙ st (Inserts r.0)),
            )

        by_form : {g : Form} → o.cell.form ≡ g → IsMany g → Filled
        by_form f (a_list {es = exs}) = list (gives_value gave f)
          where
            list : ValueUnder s K (script_path p) (Co.operator literal exs) (Ok v) → Filled
            list vu =
                let E = Co.operator literal exs in
                let eq : own_expr o ≡ E = ap (own_form o.cell.node) f in
                let ms = own_needs w.layout k (fill x o) in
                let mq : ms ≡ each_once (wanted k E) = ap each_once (nothing_behind s C w K wf kn I sc (wanted k (own_expr o)) ∙ ap (wanted k) eq) in
                let g : AreIn k E = subst (FormIn k) f inside in
                let all = full (script_path p) at n x o v (stmt_in s live) kv in
                by_expr E eq vu g (λ ys. filled (eval ys (over k ms E))) (λ ys. refl) (λ ys. refl)
                (λ z nq. (pairs all.0, ap filled (computes_so s C w K wf kn I sc ch j there z vu g ms en.needs_is (λ n h. subst (λ (l : List Need). In n l) (sym mq) (in_once n _ h)) ∙ ap Ok all.1), all.1 ∙ ap Many (sym (elements_pairs all.0)))) (λ X. refl)
        by_form f (a_copy {a = a}) = copy (gives_value gave f)
          where
            g : IsIn k a
            g = subst (FormIn k) f inside

            copied : {r : Result Value OpFault} {E : Expr} → ValueUnder s K (script_path p) E r → E ≡ Co.whole a → r ≡ Ok v → (z : Known s C w K wf kn I sc ch j there) → (entry C j).needs ≡ each_once (wanted k (Co.whole a))
                → (xs : List (Key × Scalar)) × (Inserts (content (answer_at (answered C p (entry C j).needs z.answers) 0)) ≡ Inserts xs) × (v ≡ Many (elements xs))
            copied of_literal q h z nq = absurd (cc (q))
            copied (of_name u) q h z nq = absurd (cc (q))
            copied (of_operator us e) q h z nq = absurd (cc (q))
            copied (of_array {a = a'} {es = es} c el) q h z nq = by (answered C p (entry C j).needs z.answers) refl (subst (λ (l : List Need). AnsAll s C K p l (answered C p (entry C j).needs z.answers)) nq z.says)
              where
                need_in : In (code.Closed (name_as k true a)) (entry C j).needs
                need_in = subst (λ (l : List Need). In (code.Closed (name_as k true a)) l) (sym nq) (inl refl)

                is_same : IsSame s wf K (place_at C p (name_as k true a)) (place s (script_path p) a')
                is_same = subst (λ (y : Name). IsSame s wf K (place_at C p (name_as k true a)) (place s (script_path p) y)) (sym (whole_in q)) (same_array s wf K (name_stands s wf K kn C w.layout I sc ch j there true a _ g need_in (inl refl)) refl)

                by : (ys : List Got) → answered C p (entry C j).needs z.answers ≡ ys → AnsAll s C K p (code.Closed (name_as k true a) ∷ []) ys → (xs : List (Key × Scalar)) × (Inserts (content (answer_at (answered C p (entry C j).needs z.answers) 0)) ≡ Inserts xs) × (v ≡ Many (elements xs))
                by [] e al = absurd al
                by (y ∷ ys) e al =
                    let o' = all_in_order s wf K is_same c el al.0 in
                    let order : (if in_key_order o'.0 then o'.0 else []) ≡ o'.0 = ap (λ (c : Bool). if c then o'.0 else []) o'.3 in
                    (o'.0, ap (λ (l : List Got). Inserts (content (answer_at l 0))) e ∙ ap (λ (u : Got). Inserts (content (Some u))) o'.1 ∙ ap Inserts order, sym (ok_many h) ∙ ap Many (sym o'.2))

            copy : ValueUnder s K (script_path p) (Co.whole a) (Ok v) → Filled
            copy vu = by_expr (Co.whole a) (ap (own_form o.cell.node) f) vu g (λ ys. Inserts (content (answer_at ys 0))) (λ ys. refl) (λ ys. refl) (copied vu refl refl) (λ X. refl)

    -- ONE ELEMENT
    one_element : {a u : Place} {key : Key} {v : Scalar} (other : Key) → other ≡ key → K (element a key u v) → (l : Key) (y : Scalar) → In {X = Key × Scalar} (l, y) ((other, v) ∷ []) → K (element a l u y)
    one_element {a} {u} {key} other q kv l y (inl e) = subst (λ (z : Key). K (element a z u y)) (sym q ∙ sym (ap (λ (z : Key × Scalar). z.0) e)) (subst (λ (z : Scalar). K (element a key u z)) (sym (ap (λ (z : Key × Scalar). z.1) e)) kv)
    one_element other q kv l y (inr z) = absurd z

    inserts : (at n : ℕ) (x : Name) (i o : Outer) (key : Key) (v : Scalar) → stmt at n (insert x i o) ∈ block_list b → IsEntry (entry C j) at (pos 0) (own_needs w.layout k (insert x i o)) (simple_act w.layout k (own_needs w.layout k (insert x i o)) (insert x i o))
        → K (element (place s (script_path p) x) key (script_path p, n) v) → (c : Computed) × ReadsAs s C w K wf kn I sc j p 0 c × KnownWrites s C w K wf kn I sc j p 0 c
    inserts at n x i o key v m en kv =
        let r = written_cells s wf K kn (stmt_in s (in_block (chain_live s C w.layout K wf.names I sc ch) m)) kv in
        let xs = (key_of r.scalar, v) ∷ [] in
        let z = put_works s C w K wf kn I sc ch j there m _ refl en r.index r.right in
        let right = I.stores j (name_as k true x) (subst (λ (a : Act). In (name_as k true x) (code.targets_of (entry C j).node a)) (sym en.act_is) (inl refl)) in
        let g = (sc.statements k b (stmt at n (insert x i o)) (chain_scope s C w.layout K wf.names I sc ch) m).in_elements x first in (
          Inserts xs,
          fact_of s C w K wf kn I sc ch j there z.answers 0 (Inserts xs) z.computed tt (leaf_deep s C w K wf kn I sc (entry C j).act p _ (ap steps_on en.act_is)),
          insert_known x right g xs (λ l y h. ((script_path p, n), one_element (key_of r.scalar) r.key_is kv l y h))
              (ap (λ (a : Act). stores C a (entry C j).node (entry C j).offset p 0 (Inserts xs)) en.act_is),
        )

    -- CALLS AND WAITS
    calls_fact : (c : Call) (all : List Part) (at : ℕ) (pr : ℤ) → CallAs C w.layout k all at pr c j → length (script_path p) < max_path_steps → Reading (code_system C) (Answers s K) (Item j p 0) (effect_at C j p 0 OpensIt)
    calls_fact c all at pr ca dp =
        let z = known s C w K wf kn I sc ch j there (λ n h. absurd (subst (λ (l : List Need). In n l) ca.is.needs_is h)) in
        fact_of s C w K wf kn I sc ch j there z 0 OpensIt (ap (λ (a : Act). compute a (answered C p (entry C j).needs z.answers)) ca.is.act_is) tt (not_too_deep _ p _ dp)

    own_answers : (at sn : ℕ) (ns : List Awaited) (c : Block) {bb : Block} → InScope s k bb → stmt at sn (wait ns c) ∈ block_list bb → Ready s K (script_path p) (wait ns c) [] → (n : Need) → In n (map (awaited_need k) ns) → In n (entry C j).needs → (y : Got) × Ans s C K p n y
    own_answers at sn ns c {bb} sp m r n i h =
        let x = awaited_of s C w K wf kn I sc k ns n i in
        subst (λ (z : Need). (y : Got) × Ans s C K p z y) (sym x.2)
        (come_answer s C w K wf kn I sc ch j there x.0 (sc.waits k bb at sn ns c x.0 sp m x.1) (subst (λ (z : Need). In z (entry C j).needs) x.2 h) (ready_names s C w K wf kn I sc r ns c refl x.0 x.1))

    all_answers : {st : Stmt} {hs : List Header} {bb : Block} → InScope s k bb → st ∈ block_list bb → AllReady s C w K wf kn I sc k (script_path p) st hs → ((n : Need) → In n (flat_map (λ h. h.needs) hs) → In n (entry C j).needs)
        → (n : Need) → In n (flat_map (λ h. h.needs) hs) → (y : Got) × Ans s C K p n y
    all_answers {bb = bb} sp m (last_ready {at = at} {n = sn} {ns = ns} {c = c} r q) sub n h =
        elim (in_split n (map (awaited_need k) ns) [] (subst (λ (l : List Header). In n (flat_map (λ h. h.needs) l)) q h)) [ inl i ↦ own_answers at sn ns c sp m r n i (sub n h) | inr z ↦ absurd z ]
    all_answers {bb = bb} sp m (outer_ready {at = at} {n = sn} {ns = ns} {st = st} {gs = gs} r q more) sub n h =
        elim (in_split n (map (awaited_need k) ns) (flat_map (λ h. h.needs) gs) (subst (λ (l : List Header). In n (flat_map (λ h. h.needs) l)) q h)) [
          | inl i ↦ own_answers at sn ns (stmts st no_stmts) sp m r n i (sub n h)
          | inr i ↦ all_answers (in_wait sp m) first more (λ n' h'. sub n' (subst (λ (l : List Header). In n' (flat_map (λ h. h.needs) l)) (sym q) (in_right n' (map (awaited_need k) ns) (flat_map (λ h. h.needs) gs) h'))) n i
        ]

    waits_fact : (st : Stmt) (hs : List Header) (u : ℕ) → st ∈ block_list b → (entry C j).needs ≡ each_once (flat_map (λ h. h.needs) hs) → (entry C j).act ≡ code.Wait hs u → AllReady s C w K wf kn I sc k (script_path p) st hs → Reading (code_system C) (Answers s K) (Item j p 0) (effect_at C j p 0 OpensIt)
    waits_fact st hs u m nq aq r =
        let into : (n : Need) → In n (flat_map (λ h. h.needs) hs) → In n (entry C j).needs = λ n h. subst (λ (l : List Need). In n l) (sym nq) (in_once n _ h) in
        let z = known s C w K wf kn I sc ch j there (λ n h. all_answers (chain_scope s C w.layout K wf.names I sc ch) m r into n (once_in n _ (subst (λ (l : List Need). In n l) nq h))) in
        fact_of s C w K wf kn I sc ch j there z 0 OpensIt (ap (λ (a : Act). compute a (answered C p (entry C j).needs z.answers)) aq) tt (leaf_deep s C w K wf kn I sc (entry C j).act p _ (ap steps_on aq))

  pub facts_from : FactsFrom s C w K wf kn I sc
  facts_from = record {
    filled = λ p t k b ch j there at n x o v m en kv. fills ch j there at n x o v m en kv;
    inserted = λ p t k b ch j there at n x i o key v m en kv. inserts ch j there at n x i o key v m en kv;
    header = λ p t k b ch j there at n a vs m ow br r dp. headers ch j there at n a vs m ow br r dp;
    waited = λ p t k b ch j there st hs u m nq aq r. waits_fact ch j there st hs u m nq aq r;
    called = λ p t k b ch j there c all at pr ca dp. calls_fact ch j there c all at pr ca dp;
  }
