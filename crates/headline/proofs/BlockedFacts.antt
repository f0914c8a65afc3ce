-- Once a live statement has its own fact in the script, and the script has no fault, the script's answers give the statement's own entry its effect.
use Rattle.std.proofs.Common.{◌≡◌, ◌⊎◌, inl, inr, ℕ, ◌<◌, ◌≤◌, false, List, [], ◌++◌, length, refl, sym, ap, ◌∙◌, subst, Ok, arith}
use Rattle.std.specs.Prelude.{ℤ}
use Rattle.dataflow.specs.System.{In, Effect}
use Rattle.dataflow.specs.Laws.{Can}
use Rattle.values.specs.declared.key.Key.{Key}
use Rattle.values.specs.declared.value.Scalar.{Scalar}
use Rattle.values.specs.declared.value.Scalar.TheVariants.{Text}
use Rattle.values.specs.declared.value.Value.{Value}
use Rattle.values.specs.declared.value.Value.TheVariants.{One}
use Rattle.language.specs.Core as Co
use Rattle.language.specs.Core.{Expr, Form, compute, read, Outer, Stmt, stmt, Action, assign, fill, insert, print, assert, Block, Core}
use Rattle.language.specs.Facts.{Fault, too_deep, value, line, Knowledge}
use Rattle.language.specs.Meaning.{ValueUnder, of_name, LiveStmt, in_block, HasValue, stored, Gives, Ready, too_deep_header}
use Rattle.language.specs.Members.{◌∈◌}
use Rattle.language.specs.Openings.{Opens, Branches}
use Rattle.language.specs.Outcomes.{Faults, OwnFact, IsReady}
use Rattle.language.specs.Parts.{cells, block_list}
use Rattle.language.specs.Places.{Path, Place, max_path_steps}
use Rattle.language.specs.WellFormed.{WellFormed}
use Rattle.language_laws.proofs.Declared.{stmt_in, place_here}
use Rattle.language_laws.proofs.Sources.{outer_in, cell_gives}
use Rattle.language_laws.specs.Scoped.{AreIn, Scoped}
use Rattle.language_laws.specs.TypedValues.{TypedValues}
use Rattle.task_code.specs.Code as code
use Rattle.task_code.specs.Code.{Need, Act, Code, entry, body}
use Rattle.task_code.specs.Compute as Compute
use Rattle.task_code.specs.Compute.{Computed, given, eval}
use Rattle.task_code.specs.Effects.{Task, Item, prints, effect_at, steps_on}
use Rattle.task_code.specs.Places.{Step}
use Rattle.task_code.specs.Places as CodePlaces
use Rattle.task_code.specs.System.{answered, code_system}
use Rattle.task_code.specs.Whole.{IsCode}
use Rattle.task_code.proofs.Kept.{code_laws}
use Rattle.task_code.proofs.Opens.{effect_is}
use Rattle.code_rules.proofs.Given.{gives_value}
use Rattle.code_rules.specs.CodeNames.{name_as, wanted, over, each_once}
use Rattle.headline.specs.Headline.{script_path}
use Rattle.code_rules.specs.IsCodeOf.{own_form, own_expr, own_needs, own_priority, simple_act, IsSimple, IsEntry, IsCodeOf}
use Rattle.code_rules.specs.NodesOnce.{TellsNode, NodesOnce}
use Rattle.headline.specs.Answered.{Reading}
use Rattle.headline.specs.Chains.{Answers, Chain, at_script, by_header, by_wait, by_call}
use Rattle.headline.specs.Inclusions.{Facts}
use Rattle.headline.specs.Knows.{Knows}
use Rattle.headline.proofs.Backing.{backs, knows_full}
use Rattle.headline.proofs.Evaluate.{Got, once_in, in_once}
use Rattle.headline.proofs.Facts.{known, computes_so, has_answers, fact_of}
use Rattle.headline.proofs.LinesOf.{lines_from}
use Rattle.headline.proofs.LiveTo.{ItemLive, live_to}
use Rattle.headline.proofs.Means.{chain_live, chain_scope}
use Rattle.headline.proofs.OwnFacts.{facts_from}
use Rattle.headline.proofs.Roles.{OwnAs}
use Rattle.headline.proofs.Transfer.{reading_valid}
use Rattle.headline.proofs.WrittenFrom.{path_same, leaf_deep, nothing_behind, own_scope}

-- an act that prints tells its node
prints_node : (a : Act) (x : Computed) (v : Scalar) → In v (prints a x) → TellsNode a
prints_node (code.Print e) x v h = tt
prints_node (code.Cell e) x v h = tt
prints_node code.Read x v h = tt
prints_node (code.Set r e) x v h = tt
prints_node (code.Fill r es) x v h = tt
prints_node (code.Copy r) x v h = tt
prints_node (code.InsertElement r i e) x v h = tt
prints_node (code.Assert e) x v h = tt
prints_node (code.Call b rs os) x v h = absurd h
prints_node (code.If e b d) x v h = absurd h
prints_node (code.Range l g s w) x v h = absurd h
prints_node (code.Each w) x v h = absurd h
prints_node (code.Wait hs b) x v h = absurd h

pub item_parts : {i j c c' : ℕ} {p q : List Step} → Item i p c ≡ Item j q c' → (i ≡ j) × (p ≡ q) × (c ≡ c')
item_parts h = (cc (h), cc (h), cc (h))

at_most : (n : ℕ) → n ≤ max_path_steps → (n < max_path_steps) ⊎ (n ≡ max_path_steps)
at_most n h = grind arith

module _ (s : Core) (C : Code) (w : IsCodeOf s C) (K : Knowledge) (wf : WellFormed s) (kn : Knows s K) (I : IsCode C) (sc : Scoped s) (ty : TypedValues s K) (nodes : NodesOnce C) (sound : (f : Fault) (at : ℕ) (path : Path) → Faults K f at path → ⊥) where
  -- no path of a live block is longer than the limit
  chain_bound : {p : List Step} {t k : ℕ} {b : Block} → Chain s C w.layout K p t k b → length (script_path p) ≤ max_path_steps
  chain_bound (at_script h) = omega arith
  chain_bound (by_header j ch m i mk wy h r o dp) = omega arith
  chain_bound (by_wait j ch m i wy h r) = chain_bound ch
  chain_bound (by_call j ch m n i ca cs f len h dp) = omega arith

  module _ {p : List Step} {t k : ℕ} {b : Block} (ch : Chain s C w.layout K p t k b) (i : ℕ) (there : In i (body C t).entries) where
    abbrev pub HasReading : ℕ → Type 0
    HasReading c = (e : Effect Task CodePlaces.Place Key Scalar) × Reading (code_system C) (Answers s K) (Item i p c) e

    live : {st : Stmt} → st ∈ block_list b → LiveStmt s K (script_path p) st
    live m = in_block (chain_live s C w.layout K wf.names I sc ch) m

    -- an entry that works out one expression
    one_reading : {ex : Expr} {u : Scalar} {at : ℕ} {pr : ℤ} {ms : List Need} (act : code.Expr → Act) → ((x : code.Expr) (ys : List Got) → Compute.compute (act x) ys ≡ given (eval ys x)) → ((x : code.Expr) → steps_on (act x) ≡ false)
        → IsEntry (entry C i) at pr ms (act (over k ms ex)) → ms ≡ each_once (wanted k ex) → AreIn k ex → ValueUnder s K (script_path p) ex (Ok (One u)) → HasReading 0
    one_reading {ex} {u} {ms = ms} act comp leaf en mq g vu =
        let sub : (n : Need) → In n (wanted k ex) → In n ms = λ n h. subst (λ (l : List Need). In n l) (sym mq) (in_once n _ h) in
        let z = known s C w K wf (backs s K kn) I sc ch i there (λ n h. has_answers s C w K wf (backs s K kn) I sc ch i there vu g (λ n h. subst (λ (l : List Need). In n l) (sym en.needs_is) (sub n h)) n (once_in n _ (subst (λ (l : List Need). In n l) (en.needs_is ∙ mq) h))) in
        let ev = computes_so s C w K wf (backs s K kn) I sc ch i there z vu g ms en.needs_is sub in (
          effect_at C i p 0 (Compute.Gives u),
          fact_of s C w K wf (backs s K kn) I sc ch i there z 0 (Compute.Gives u)
              (ap (λ (a : Act). Compute.compute a (answered C p (entry C i).needs z.answers)) en.act_is ∙ comp (over k ms ex) (answered C p (entry C i).needs z.answers) ∙ ap given ev) tt
              (leaf_deep s C w K wf (backs s K kn) I sc (entry C i).act p _ (ap steps_on en.act_is ∙ leaf (over k ms ex))),
        )

    own_under : {at n : ℕ} {a : Action} (o : Outer) {u : Scalar} → stmt at n a ∈ block_list b → o.cell ∈ cells (stmt at n a) → K (value (script_path p, o.cell.node) (One u)) → ValueUnder s K (script_path p) (own_expr o) (Ok (One u))
    own_under {at} {n} {a} o {u} m cm c = by o.cell.form refl
      where
        gave : Gives s K (script_path p) o.cell.form (Ok (One u))
        gave = (cell_gives s wf.cells K (stmt_in s (live m)) cm (kn.backed _ c)).1

        by : (f : Form) → o.cell.form ≡ f → ValueUnder s K (script_path p) (own_form o.cell.node f) (Ok (One u))
        by (compute e) q = gives_value gave q
        by (read y j) q = of_name (subst (λ (z : Place). HasValue s K z u) (sym (place_here s (script_path p) o.cell.node)) (stored c))

    scoped : {at n : ℕ} {a : Action} (o : Outer) → stmt at n a ∈ block_list b → o.cell ∈ cells (stmt at n a) → AreIn k (own_expr o)
    scoped {at} {n} {a} o m cm = own_scope s C w K wf (backs s K kn) I sc k o ((sc.statements k b (stmt at n a) (chain_scope s C w.layout K wf.names I sc ch) m).in_cells o.cell cm)

    once_is : (o : Outer) → each_once (wanted k (own_expr o) ++ []) ≡ each_once (wanted k (own_expr o))
    once_is o = ap each_once (nothing_behind s C w K wf (backs s K kn) I sc (wanted k (own_expr o)))

    -- A LINE: the item that prints it is the one of the entry, by its node
    line_reading : (n : ℕ) (bytes : List ℕ) → TellsNode (entry C i).act → (entry C i).node ≡ n → K (line (script_path p, n) bytes) → HasReading 0
    line_reading n bytes tells nd h = (let r = lines_from s C w K wf (backs s K kn) I sc (script_path p) n bytes h in by r.0 r.1 r.2 r.3 r.4 r.5 r.6)
      where
        by : (j : ℕ) (q : List Step) (e : Effect Task CodePlaces.Place Key Scalar) → Facts s C K (Item j q 0) e → In (Text bytes) e.lines → script_path q ≡ script_path p → (entry C j).node ≡ n → HasReading 0
        by j q e fact l pq nq = elim (live_to s C w K wf kn I sc ty fact.live) [ inl z ↦ absurd (cc (z)) | inr y ↦ same y ]
          where
            can : Can (code_system C) (Item j q 0) e
            can = record { answers = fact.reading.answers; is = fact.reading.is; valid = reading_valid (code_system C) (code_laws C I) (Answers s K) fact.live }

            tells_too : TellsNode (entry C j).act
            tells_too = prints_node (entry C j).act (Compute.compute (entry C j).act (answered C q (entry C j).needs fact.reading.answers)) (Text bytes) (subst (λ (z : Effect Task CodePlaces.Place Key Scalar). In (Text bytes) z.lines) (sym (effect_is C j 0 q e can)) l)

            same : ItemLive s C w K wf kn I sc ty (Item j q 0) → HasReading 0
            same y =
                let nj : y.number ≡ j = (item_parts y.is).0 in
                let ji : j ≡ i = nodes y.body_number t j i (subst (λ (z : ℕ). In z (body C y.body_number).entries) nj y.there) there tells_too tells (nq ∙ sym nd) in
                (e, subst (λ (z : ℕ). Reading (code_system C) (Answers s K) (Item z p 0) e) ji (subst (λ (z : List Step). Reading (code_system C) (Answers s K) (Item j z 0) e) (path_same q p pq) fact.reading))

    -- SIMPLE STATEMENTS
    pub simple_reading : (at n : ℕ) (a : Action) → IsSimple a → stmt at n a ∈ block_list b → IsEntry (entry C i) at (own_priority a) (own_needs w.layout k a) (simple_act w.layout k (own_needs w.layout k a) a) → (entry C i).node ≡ n → OwnFact s K (script_path p) n a → HasReading 0
    simple_reading at n (assign x o) z m en nd h =
        let cm = outer_in o.parts o.cell in
        let u = ty.assign_one (script_path p) at n x o h.0 (stmt_in s (live m)) h.1 in
        one_reading (code.Set (name_as k false x)) (λ x ys. refl) (λ x. refl) en (once_is o) (scoped o m cm) (own_under o m cm (subst (λ (v : Value). K (value (script_path p, o.cell.node) v)) u.1 h.1))
    simple_reading at n (fill x o) z m en nd h = (let r = (facts_from s C w K wf (backs s K kn) I sc (knows_full s K kn wf)).filled p t k b ch i there at n x o h.0 m en h.1 in (_, r.1))
    simple_reading at n (insert x j o) z m en nd h = (let r = (facts_from s C w K wf (backs s K kn) I sc (knows_full s K kn wf)).inserted p t k b ch i there at n x j o h.0 h.1 m en h.2 in (_, r.1))
    simple_reading at n (print x o) z m en nd h = line_reading n h.0 (subst (λ (a : Act). TellsNode a) (sym en.act_is) tt) nd h.1
    simple_reading at n (assert x o) z m en nd h = (let cm = outer_in o.parts o.cell in one_reading code.Assert (λ x ys. refl) (λ x. refl) en (once_is o) (scoped o m cm) (own_under o m cm h))
    simple_reading at n (Co.declare v) z m en nd h = absurd z
    simple_reading at n (Co.call_alone x y o) z m en nd h = absurd z
    simple_reading at n (Co.when o d) z m en nd h = absurd z
    simple_reading at n (Co.choose o d e) z m en nd h = absurd z
    simple_reading at n (Co.range o d e f g l) z m en nd h = absurd z
    simple_reading at n (Co.each o d e f) z m en nd h = absurd z
    simple_reading at n (Co.wait o d) z m en nd h = absurd z

    -- HEADERS
    shallow_so : (at n : ℕ) (a : Action) (vs : List Value) → stmt at n a ∈ block_list b → Ready s K (script_path p) a vs → (key : Key) (c : Block) → Opens a vs key c → length (script_path p) < max_path_steps
    shallow_so at n a vs m r key c o =
        elim (at_most (length (script_path p)) (chain_bound ch)) [
          | inl lt ↦ lt
          | inr e ↦ absurd (sound too_deep at (script_path p) (n, kn.shut _ (too_deep_header (live m) (inr r) o e)))
        ]

    pub header_reading : (at n : ℕ) (a : Action) → stmt at n a ∈ block_list b → OwnAs C w.layout k (stmt at n a) i → Branches a → IsReady s K (script_path p) a → (c : ℕ) → HasReading c
    header_reading at n a m ow br r c = (let h = (facts_from s C w K wf (backs s K kn) I sc (knows_full s K kn wf)).header p t k b ch i there at n a r.0 m ow br r.1 (shallow_so at n a r.0 m r.1) in (_, h.fact c))
