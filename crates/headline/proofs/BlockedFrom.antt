-- A statement that is blocked in the script is blocked in the code's meaning, at the item of its entry; once all that the script's answers yield is in the code's meaning.
use Rattle.std.proofs.Common.{◌≡◌, inl, inr, ℕ, ◌<◌, Bool, true, false, List, [], ◌∷◌, map, length, refl, sym, ap, ◌∙◌, subst, Option, Some}
use Rattle.std.specs.Prelude.{pos, slice_get}
use Rattle.std.specs.List.{flat_map}
use Rattle.dataflow.specs.System.{In, Effect, Input}
use Rattle.dataflow.specs.Facts.{live_main, live_opened, Ever, EverGiven}
use Rattle.dataflow.proofs.Lists.{in_left, in_right, in_map}
use Rattle.values.specs.declared.key.Key.{Key}
use Rattle.values.specs.declared.value.Scalar.{Scalar}
use Rattle.values.specs.declared.value.Scalar.TheVariants.{Truth}
use Rattle.values.specs.declared.value.Value.{Value}
use Rattle.values.specs.declared.value.Value.TheVariants.{One}
use Rattle.language.specs.Core as Co
use Rattle.language.specs.Core.{Name, Expr, Call, Outer, Awaited, Stmt, stmt, Action, when, choose, range, each, wait, Block, stmts, no_stmts, Function, Core}
use Rattle.language.specs.Facts.{Knowledge}
use Rattle.language.specs.Meaning as Mn
use Rattle.language.specs.Meaning.{in_block, Ready, names_known}
use Rattle.language.specs.Members.{◌∈◌, first, later}
use Rattle.language.specs.Openings.{Opens, then_alone, then_first, else_second, turn, item}
use Rattle.language.specs.Outcomes.{Blocked, OwnFact, Counts}
use Rattle.language.specs.Parts.{stmt_calls, block_list}
use Rattle.language.specs.Places.{Path, max_path_steps}
use Rattle.language.specs.Single.{SinglyAssigned}
use Rattle.language.specs.WellFormed.{WellFormed}
use Rattle.language_laws.proofs.Declared.{stmt_in}
use Rattle.language_laws.proofs.Sources.{outer_in}
use Rattle.language_laws.specs.Scoped.{AwaitedIn, InScope, in_wait, Scoped}
use Rattle.language_laws.specs.TypedValues.{TypedValues}
use Rattle.task_code.specs.Code as code
use Rattle.task_code.specs.Code.{Need, Header, Act, InPlace, Through, Code, entry, body, ways}
use Rattle.task_code.specs.Compute.{Computed, Takes, Turns, Opens as OpensIt}
use Rattle.task_code.specs.Effects.{Task, Main, Item, block, effect_at, instances, step_at}
use Rattle.task_code.specs.Exact.{IsExact}
use Rattle.task_code.specs.Places as CodePlaces
use Rattle.task_code.specs.Places.{Step}
use Rattle.task_code.specs.Runs.{counts, FirstUnknown, IsBlockedAt, EverBlocked}
use Rattle.task_code.specs.System.{code_system}
use Rattle.task_code.specs.Whole.{IsCode}
use Rattle.task_code.proofs.Opens.{some_same}
use Rattle.task_code.proofs.Rights.{loop_instances}
use Rattle.code_rules.specs.CodeNames.{awaited_need, each_once, header}
use Rattle.headline.specs.Headline.{script_path}
use Rattle.code_rules.specs.IsCodeOf.{Layout, own_expr, own_needs, fill_act, simple_act, IsSimple, StmtAs, declares, calls_alone, simple, branch, branches, range_loop, array_loop, waits, WaitAs, one_wait, merged, BodyAs, IsCodeOf}
use Rattle.code_rules.specs.NodesOnce.{NodesOnce}
use Rattle.headline.specs.Asserted.{Asserted}
use Rattle.headline.specs.Chains.{Chain, at_script, by_header, by_wait, by_call, Waited, one_ready, more_ready}
use Rattle.headline.specs.Inclusions.{Facts}
use Rattle.headline.specs.Knows.{Knows}
use Rattle.headline.proofs.Backing.{backs, knows_full}
use Rattle.headline.proofs.BlockedHas.{NoWait, own_has}
use Rattle.headline.proofs.BlockedInputs.{Reads, Alive, round_of, header_ever, come_back}
use Rattle.headline.proofs.ClosingFrom.{AllReady, last_ready, outer_ready}
use Rattle.headline.proofs.Evaluate.{in_once}
use Rattle.headline.proofs.Facts.{fact_of, not_too_deep}
use Rattle.headline.proofs.HeaderWorks.{find_call, CallFound, StmtFound, found_body, only_stmt, branch_works, condition_value, branch_key, taken, ready_names}
use Rattle.headline.proofs.LiveBy.{LoopRun, range_run, each_run}
use Rattle.headline.proofs.LiveFrom.{by_answers}
use Rattle.headline.proofs.LiveTo.{awaited_come}
use Rattle.headline.proofs.Means.{chain_live, chain_body, chain_scope}
use Rattle.headline.proofs.OwnFacts.{facts_from}
use Rattle.headline.proofs.Roles.{OwnAs, own_simple, own_branch, own_branches, own_range, own_each, own_wait}
use Rattle.headline.proofs.Within.{ever_in}
use Rattle.headline.proofs.WrittenFrom.{path_same}

need_of : (k : ℕ) (zs : List Awaited) (x : Awaited) → x ∈ zs → In (awaited_need k x) (map (awaited_need k) zs)
need_of k [] x h = elim h [ ]
need_of k (y ∷ zs) x first = inl refl
need_of k (y ∷ zs) x (later h) = inr (need_of k zs x h)

-- a statement that counts has an entry of its own
record Own (C : Code) (l : Layout) (k : ℕ) (st : Stmt) (es : List ℕ) : Type 0 where
  number : ℕ
  there : In number es
  as_own : OwnAs C l k st number

own_entry : {C : Code} {l : Layout} {k at n : ℕ} {a : Action} {es : List ℕ} → StmtAs C l k (stmt at n a) es → Counts a → Own C l k (stmt at n a) es
own_entry declares c = absurd c
own_entry (calls_alone as') c = absurd c
own_entry (simple j {is = is} z op as' e nd q) c = record { number = j; there = subst (λ (l : List ℕ). In j l) (sym q) (in_right j is (j ∷ []) (inl refl)); as_own = own_simple z e nd }
own_entry (branch j {is = is} as' e mk ba q) c = record { number = j; there = subst (λ (l : List ℕ). In j l) (sym q) (in_right j is (j ∷ []) (inl refl)); as_own = own_branch e mk ba }
own_entry (branches j {is = is} as' e mk ba bb q) c = record { number = j; there = subst (λ (l : List ℕ). In j l) (sym q) (in_right j is (j ∷ []) (inl refl)); as_own = own_branches e mk ba bb }
own_entry (range_loop j {is = is} as' e mk ba q) c = record { number = j; there = subst (λ (l : List ℕ). In j l) (sym q) (in_right j is (j ∷ []) (inl refl)); as_own = own_range e mk ba }
own_entry (array_loop j e mk ba q) c = record { number = j; there = subst (λ (l : List ℕ). In j l) (sym q) (inl refl); as_own = own_each e mk ba }
own_entry (waits j wa e q) c = record { number = j; there = subst (λ (l : List ℕ). In j l) (sym q) (inl refl); as_own = own_wait wa e }

module _ (C : Code) (P : Input CodePlaces.Place Key → Type 0) (l : Layout) (k : ℕ) (p : List Step) (own : ℕ) where
  -- a simple act counts, and is blocked at its own offset
  abbrev Plain : Act → Type 0
  Plain a = (counts a ≡ true) × IsBlockedAt C P p a own own

  plain_fill : (ns : List Need) (x : Co.Name) (e : Expr) → Plain (fill_act l k ns x e)
  plain_fill ns x (Co.whole b) = (refl, refl)
  plain_fill ns x (Co.literal v) = (refl, refl)
  plain_fill ns x (Co.name y) = (refl, refl)
  plain_fill ns x (Co.operator o es) = (refl, refl)

  simple_plain : (a : Action) → IsSimple a → Plain (simple_act l k (own_needs l k a) a)
  simple_plain (Co.assign x o) z = (refl, refl)
  simple_plain (Co.fill x o) z = plain_fill (own_needs l k (Co.fill x o)) x (own_expr o)
  simple_plain (Co.insert x i o) z = (refl, refl)
  simple_plain (Co.print x o) z = (refl, refl)
  simple_plain (Co.assert x o) z = (refl, refl)
  simple_plain (Co.declare v) z = absurd z
  simple_plain (Co.call_alone x y o) z = absurd z
  simple_plain (when o d) z = absurd z
  simple_plain (choose o d e) z = absurd z
  simple_plain (range o d e f g m) z = absurd z
  simple_plain (each o d e f) z = absurd z
  simple_plain (wait o d) z = absurd z

simple_no_wait : (a : Action) → IsSimple a → NoWait a
simple_no_wait (Co.assign x o) z = tt
simple_no_wait (Co.fill x o) z = tt
simple_no_wait (Co.insert x i o) z = tt
simple_no_wait (Co.print x o) z = tt
simple_no_wait (Co.assert x o) z = tt
simple_no_wait (Co.declare v) z = absurd z
simple_no_wait (Co.call_alone x y o) z = absurd z
simple_no_wait (when o d) z = absurd z
simple_no_wait (choose o d e) z = absurd z
simple_no_wait (range o d e f g m) z = absurd z
simple_no_wait (each o d e f) z = absurd z
simple_no_wait (wait o d) z = absurd z

module _ (s : Core) (C : Code) (w : IsCodeOf s C) (K : Knowledge) (wf : WellFormed s) (kn : Knows s K) (I : IsCode C) (sc : Scoped s) (ty : TypedValues s K) (nodes : NodesOnce C) (ex : IsExact C) (single : SinglyAssigned s)
    (back : (t : Task) (e : Effect Task CodePlaces.Place Key Scalar) → Facts s C K t e → Ever (code_system C) t e) (asserts : Asserted s) where
  abbrev Known : Input CodePlaces.Place Key → Type 0
  Known x = EverGiven (code_system C) x

  abbrev IsAlive : Task → Type 0
  IsAlive u = Alive s C w K wf kn I sc ty nodes ex single back u

  abbrev AllAlive : List Step → ℕ → Type 0
  AllAlive p t = (j : ℕ) → In j (body C t).entries → IsAlive (Item j p 0)

  abbrev ReadsAs : ℕ → List Step → ℕ → Computed → Type 0
  ReadsAs j p c x = Reads s C w K wf kn I sc ty nodes ex single back (Item j p c) (effect_at C j p c x)

  -- WHERE A LIVE BLOCK'S ITEMS ARE
  -- between merged waits: those before this block are known
  record Between (path : Path) (b : Block) : Type 0 where
    p : List Step
    t : ℕ
    k : ℕ
    outer_block : Block
    path_is : script_path p ≡ path
    chain : Chain s C w.layout K p t k outer_block
    alive : AllAlive p t
    outermost : Stmt
    in_outer : outermost ∈ block_list outer_block
    number : ℕ
    there : In number (body C t).entries
    headers : List Header
    content : ℕ
    needs_is : (entry C number).needs ≡ each_once (flat_map (λ h. h.needs) headers)
    act_is : (entry C number).act ≡ code.Wait headers content
    inner : Stmt
    block_is : b ≡ stmts inner no_stmts
    below : List Header
    as_wait : WaitAs C w.layout k inner below content
    scope : InScope s k b
    wrap : (c : Block) → Waited s C w.layout K (script_path p) inner c → Waited s C w.layout K (script_path p) outermost c
    wrap_ready : AllReady s C w K wf (backs s K kn) I sc k (script_path p) inner below → AllReady s C w K wf (backs s K kn) I sc k (script_path p) outermost headers
    sub : (n : Need) → In n (flat_map (λ h. h.needs) below) → In n (entry C number).needs
    before : (at : ℕ) → FirstUnknown C Known p below at → FirstUnknown C Known p headers at

  data Spot (path : Path) (b : Block) : Type 0 where
    at_body : {p : List Step} {t k : ℕ} → script_path p ≡ path → Chain s C w.layout K p t k b → AllAlive p t → Spot path b
    between : Between path b → Spot path b

  opens_alive : {j c : ℕ} {p : List Step} (x : Computed) → IsAlive (Item j p c) → ReadsAs j p c x → (q : ℕ × List Step) → In q (instances (entry C j).act (entry C j).offset p c x) → (i : ℕ) → In i (body C q.0).entries → IsAlive (Item i q.1 0)
  opens_alive {j} {c} {p} x lv f q h i m =
      live_opened (Item j p c) (Item i q.1 0) (effect_at C j p c x) (block C q) lv f
      (in_left (block C q) (map (block C) (instances (entry C j).act (entry C j).offset p c x)) _ (in_map (block C) q (instances (entry C j).act (entry C j).offset p c x) h))
      (in_map (λ (i : ℕ). Item i q.1 0) i (body C q.0).entries m)

  module _ {p : List Step} {t k : ℕ} {b : Block} (ch : Chain s C w.layout K p t k b) (alive : AllAlive p t) where
    -- A BLOCK UNDER A KEY
    under : {at n u : ℕ} {a : Action} {d : Block} {vs : List Value} {key : Key} (j : ℕ) → In j (body C t).entries → (c : ℕ) (x : Computed) → stmt at n a ∈ block_list b → (entry C j).offset ≡ at → In (Through, u) (ways (entry C j).act)
        → BodyAs C w.layout k d u → Ready s K (script_path p) a vs → Opens a vs key d → length (script_path p) < max_path_steps → IsAlive (Item j p c) → ReadsAs j p c x → In (u, step_at (entry C j).offset key p) (instances (entry C j).act (entry C j).offset p c x)
        → Spot ((at, key) ∷ script_path p) d
    under {at} {u = u} {key = key} j there c x m mk wy ba r o dp lv f h =
        at_body refl (by_header j ch m there mk wy ba r o dp) (λ i m'. subst (λ (z : ℕ). IsAlive (Item i (step_at z key p) 0)) mk (opens_alive x lv f (u, step_at (entry C j).offset key p) h i m'))

    when_under : {at n : ℕ} {o : Outer} {d : Block} {js : List ℕ} → stmt at n (when o d) ∈ block_list b → StmtAs C w.layout k (stmt at n (when o d)) js → ((j : ℕ) → In j js → In j (body C t).entries)
        → Ready s K (script_path p) (when o d) (One (Truth true) ∷ []) → length (script_path p) < max_path_steps → Spot ((at, Key.Number (pos 0)) ∷ script_path p) d
    when_under m (simple j z op as' e nd q) sub r dp = absurd z
    when_under {o = o} m (branch {t = u} j {is = is} as' en mk ba q) sub r dp =
        let there = sub j (subst (λ (z : List ℕ). In j z) (sym q) (in_right j is (j ∷ []) (inl refl))) in
        let kv = condition_value s C w K wf (backs s K kn) I sc ch j there r refl refl (λ ns c e. absurd (cc (e))) (λ x y z c e. absurd (cc (e))) in
        let z = branch_works s C w K wf (backs s K kn) I sc ch j there o true m (outer_in o.parts o.cell) kv en in
        under j there 0 (Takes true) m mk (subst (λ (a : Act). In (Through, u) (ways a)) (sym en.act_is) (inl refl)) ba r then_alone dp (alive j there)
        (fact_of s C w K wf (backs s K kn) I sc ch j there z.answers 0 (Takes true) z.computed tt (not_too_deep _ p _ dp))
        (subst (λ (a : Act). In (u, step_at (entry C j).offset (Key.Number (pos 0)) p) (instances a (entry C j).offset p 0 (Takes true))) (sym en.act_is) (inl refl))

    choose_under : {at n : ℕ} {o : Outer} {d d' : Block} {js : List ℕ} (x : Bool) → stmt at n (choose o d d') ∈ block_list b → StmtAs C w.layout k (stmt at n (choose o d d')) js → ((j : ℕ) → In j js → In j (body C t).entries)
        → Ready s K (script_path p) (choose o d d') (One (Truth x) ∷ []) → length (script_path p) < max_path_steps → Spot ((at, branch_key x) ∷ script_path p) (taken x d d')
    choose_under x m (simple j z op as' e nd q) sub r dp = absurd z
    choose_under {at = at} {o = o} {d = d} {d' = d'} x m (branches {t = u} {u = u'} j {is = is} as' en mk ba bb q) sub r dp = by x r f
      where
        there : In j (body C t).entries
        there = sub j (subst (λ (z : List ℕ). In j z) (sym q) (in_right j is (j ∷ []) (inl refl)))

        f : ReadsAs j p 0 (Takes x)
        f =
            let kv = condition_value s C w K wf (backs s K kn) I sc ch j there r refl refl (λ ns c e. absurd (cc (e))) (λ x y z c e. absurd (cc (e))) in
            let z = branch_works s C w K wf (backs s K kn) I sc ch j there o x m (outer_in o.parts o.cell) kv en in
            fact_of s C w K wf (backs s K kn) I sc ch j there z.answers 0 (Takes x) z.computed tt (not_too_deep _ p _ dp)

        by : (x : Bool) → Ready s K (script_path p) (choose o d d') (One (Truth x) ∷ []) → ReadsAs j p 0 (Takes x) → Spot ((at, branch_key x) ∷ script_path p) (taken x d d')
        by true r g = under j there 0 (Takes true) m mk (subst (λ (a : Act). In (Through, u) (ways a)) (sym en.act_is) (inl refl)) ba r then_first dp (alive j there) g
            (subst (λ (a : Act). In (u, step_at (entry C j).offset (Key.Number (pos 0)) p) (instances a (entry C j).offset p 0 (Takes true))) (sym en.act_is) (inl refl))
        by false r g = under j there 0 (Takes false) m mk (subst (λ (a : Act). In (Through, u') (ways a)) (sym en.act_is) (inr (inl refl))) bb r else_second dp (alive j there) g
            (subst (λ (a : Act). In (u', step_at (entry C j).offset (Key.Number (pos 1)) p) (instances a (entry C j).offset p 0 (Takes false))) (sym en.act_is) (inl refl))

    turn_under : {at n x : ℕ} {y : Option ℕ} {d : Block} {a : Action} {vs : List Value} (u : Key × Scalar) → LoopRun s C w K wf (backs s K kn) I sc (by_answers s C w K wf (backs s K kn) I sc) p t k at x y d u → stmt at n a ∈ block_list b → Ready s K (script_path p) a vs → Opens a vs u.0 d
        → length (script_path p) < max_path_steps → Spot ((at, u.0) ∷ script_path p) d
    turn_under u run m r o dp =
        under run.number run.there run.chunk_number (Turns run.turns) m run.offset_is run.way run.stands r o dp run.alive run.fact
        (subst (λ (l : List (ℕ × List Step)). In (run.content, step_at (entry C run.number).offset u.0 p) l) (sym (loop_instances C (entry C run.number).act _ (entry C run.number).offset p run.chunk_number (Turns run.turns) run.loops))
        (in_map (λ (z : Key × Scalar). (run.content, step_at (entry C run.number).offset z.0 p)) u _ run.in_chunk))

    header_under : {at n : ℕ} {a : Action} {vs : List Value} {key : Key} {d : Block} {js : List ℕ} → stmt at n a ∈ block_list b → StmtAs C w.layout k (stmt at n a) js → ((j : ℕ) → In j js → In j (body C t).entries) → Ready s K (script_path p) a vs → Opens a vs key d
        → length (script_path p) < max_path_steps → Spot ((at, key) ∷ script_path p) d
    header_under m sa sub r then_alone dp = when_under m sa sub r dp
    header_under m sa sub r then_first dp = choose_under true m sa sub r dp
    header_under m sa sub r else_second dp = choose_under false m sa sub r dp
    header_under m sa sub r (turn {st = st} e f i) dp = turn_under _ (range_run s C w K wf (backs s K kn) I sc (by_answers s C w K wf (backs s K kn) I sc) ch alive st m sa sub r e f i dp) m r (turn e f i) dp
    header_under m sa sub r (item i) dp = turn_under _ (each_run s C w K wf (backs s K kn) I sc (by_answers s C w K wf (backs s K kn) I sc) ch alive m sa sub r tt i dp) m r (item i) dp

    -- A CALL
    call_under : {st : Stmt} {c : Call} {f : Function} {js : List ℕ} → st ∈ block_list b → c ∈ stmt_calls st → CallFound C w.layout k st c js → ((j : ℕ) → In j js → In j (body C t).entries) → slice_get s.functions c.function ≡ Some f → length c.inputs ≡ f.inputs
        → length (script_path p) < max_path_steps → Spot ((c.at, Key.Number (pos 0)) ∷ script_path p) f.body
    call_under {c = c} {f = f} m n cf sub fq len dp =
        let j = cf.number in
        let there = sub cf.number cf.there in
        let fact = (facts_from s C w K wf (backs s K kn) I sc (knows_full s K kn wf)).called p t k b ch cf.number there c cf.all cf.at cf.priority cf.as_call dp in
        let opens = subst (λ (a : Act). In (w.layout.body_of c.function, step_at (entry C cf.number).offset (Key.Number (pos 0)) p) (instances a (entry C cf.number).offset p 0 OpensIt)) (sym (cf.as_call).is.act_is) (inl refl) in
        at_body refl (by_call cf.number ch m n there cf.as_call cf.cells_in fq len (w.functions c.function f fq) dp)
        (λ i m'. subst (λ (z : ℕ). IsAlive (Item i (step_at z (Key.Number (pos 0)) p) 0)) (cf.as_call).offset_is (opens_alive OpensIt (alive j there) fact (w.layout.body_of c.function, step_at (entry C cf.number).offset (Key.Number (pos 0)) p) opens i m'))

    -- WAITS
    content : (st0 : Stmt) → st0 ∈ block_list b → (j : ℕ) (there : In j (body C t).entries) (hs : List Header) (t' : ℕ) → (entry C j).needs ≡ each_once (flat_map (λ h. h.needs) hs) → (entry C j).act ≡ code.Wait hs t'
        → {at n : ℕ} {ns : List Awaited} {c bb : Block} {gs : List Header} → InScope s k bb → stmt at n (wait ns c) ∈ block_list bb → WaitAs C w.layout k (stmt at n (wait ns c)) gs t' → Ready s K (script_path p) (wait ns c) []
        → ((d : Block) → Waited s C w.layout K (script_path p) (stmt at n (wait ns c)) d → Waited s C w.layout K (script_path p) st0 d)
        → (AllReady s C w K wf (backs s K kn) I sc k (script_path p) (stmt at n (wait ns c)) gs → AllReady s C w K wf (backs s K kn) I sc k (script_path p) st0 hs)
        → ((x : Need) → In x (flat_map (λ h. h.needs) gs) → In x (entry C j).needs) → ((at : ℕ) → FirstUnknown C Known p gs at → FirstUnknown C Known p hs at) → Spot (script_path p) c
    content st0 m0 j there hs t' nq aq sp mm (one_wait ba q) r wrap wr sub bf =
        let fact = (facts_from s C w K wf (backs s K kn) I sc (knows_full s K kn wf)).waited p t k b ch j there st0 hs t' m0 nq aq (wr (last_ready r q)) in
        at_body refl (by_wait j ch m0 there (subst (λ (a : Act). In (InPlace, t') (ways a)) (sym aq) (inl refl)) ba (wrap _ (one_ready r)))
        (λ i m'. opens_alive OpensIt (alive j there) fact (t', p) (subst (λ (a : Act). In (t', p) (instances a (entry C j).offset p 0 OpensIt)) (sym aq) (inl refl)) i m')
    content st0 m0 j there hs t' nq aq {bb = bb} sp mm (merged {at = at} {n = n} {ns = ns} {st = st'} {gs = gs'} wa q) r wrap wr sub bf =
        between (record {
          p = p;
          t = t;
          k = k;
          outer_block = b;
          path_is = refl;
          chain = ch;
          alive = alive;
          outermost = st0;
          in_outer = m0;
          number = j;
          there = there;
          headers = hs;
          content = t';
          needs_is = nq;
          act_is = aq;
          inner = st';
          block_is = refl;
          below = gs';
          as_wait = wa;
          scope = in_wait sp mm;
          wrap = λ d x. wrap d (more_ready r x);
          wrap_ready = λ x. wr (outer_ready r q x);
          sub = λ x h. sub x (subst (λ (l : List Header). In x (flat_map (λ h. h.needs) l)) (sym q) (in_right x (map (awaited_need k) ns) (flat_map (λ h. h.needs) gs') h));
          before = λ at' h. bf at' (subst (λ (l : List Header). FirstUnknown C Known p l at') (sym q) (inr (
            header_ever s C w K wf kn I sc ty nodes ex single back ch j 0 there (alive j there) at ns (λ x i. sc.waits k bb at n ns _ x sp mm i)
                (λ y i. sub y (subst (λ (l : List Header). In y (flat_map (λ h. h.needs) l)) (sym q) (in_left y (map (awaited_need k) ns) (flat_map (λ h. h.needs) gs') i))) (ready_names s C w K wf (backs s K kn) I sc r ns _ refl),
            h,
          )));
        })

    wait_under : {at n : ℕ} {ns : List Awaited} {c : Block} {js : List ℕ} → stmt at n (wait ns c) ∈ block_list b → StmtAs C w.layout k (stmt at n (wait ns c)) js → ((j : ℕ) → In j js → In j (body C t).entries) → Ready s K (script_path p) (wait ns c) [] → Spot (script_path p) c
    wait_under m (simple j z op as' e nd q) sub r = absurd z
    wait_under {at = at} {n = n} {ns = ns} {c = c} m (waits {t = t'} j {hs = hs} wa en q) sub r =
        content (stmt at n (wait ns c)) m j (sub j (subst (λ (z : List ℕ). In j z) (sym q) (inl refl))) hs t' en.needs_is en.act_is (chain_scope s C w.layout K wf.names I sc ch) m wa r (λ d x. x) (λ x. x)
        (λ x h. subst (λ (l : List Need). In x l) (sym en.needs_is) (in_once x _ h)) (λ at h. h)

  opens_no_wait : {k t' at n : ℕ} {gs : List Header} {a : Action} {vs : List Value} {key : Key} {c : Block} → WaitAs C w.layout k (stmt at n a) gs t' → Opens a vs key c → ⊥
  opens_no_wait (one_wait ba q) o = elim o [ ]
  opens_no_wait (merged wa q) o = elim o [ ]

  calls_no_wait : {k t' : ℕ} {gs : List Header} {st : Stmt} {c : Call} → WaitAs C w.layout k st gs t' → c ∈ stmt_calls st → ⊥
  calls_no_wait (one_wait ba q) m = elim m [ ]
  calls_no_wait (merged wa q) m = elim m [ ]

  found : {k t : ℕ} {b : Block} {st : Stmt} → BodyAs C w.layout k b t → st ∈ block_list b → StmtFound C w.layout k st (body C t).entries
  found ba m = found_body s C w K wf (backs s K kn) I sc ba m

  main_reading : Reads s C w K wf kn I sc ty nodes ex single back Main (record { writes = []; lines = []; opens = block C (0, []) ∷ [] })
  main_reading = record { answers = []; read = tt; is = refl }

  spot : {path : Path} {b : Block} → Mn.Live s K path b → Spot path b
  spot Mn.script =
      at_body refl (at_script w.script) (λ j m. live_opened Main (Item j [] 0) _ (block C (0, [])) live_main main_reading (inl refl) (in_map (λ (j : ℕ). Item j [] 0) j (body C 0).entries m))
  spot (Mn.opened {path = path} {b = b} {c = c} {at = at} {n = n} {header = header} {vs = vs} {k = key} lv m r o dp) = by (spot lv)
    where
      by : Spot path b → Spot ((at, key) ∷ path) c
      by (at_body {p = p} e ch alive) =
          let f = found (chain_body s C w.layout K wf.names I sc ch) m in
          subst (λ (z : Path). Spot ((at, key) ∷ z) c) e (header_under ch alive m f.as_stmt f.among (subst (λ (z : Path). Ready s K z header vs) (sym e) r) o (subst (λ (z : Path). length z < max_path_steps) (sym e) dp))
      by (between x) = absurd (opens_no_wait (subst (λ (z : Stmt). WaitAs C w.layout x.k z x.below x.content) (sym (only_stmt s C w K wf (backs s K kn) I sc m x.block_is)) x.as_wait) o)
  spot (Mn.waited {path = path} {b = b} {c = c} {at = at} {n = n} {ns = ns} lv m r) = by (spot lv)
    where
      by : Spot path b → Spot path c
      by (at_body {p = p} e ch alive) =
          let f = found (chain_body s C w.layout K wf.names I sc ch) m in
          subst (λ (z : Path). Spot z c) e (wait_under ch alive m f.as_stmt f.among (subst (λ (z : Path). Ready s K z (wait ns c) []) (sym e) r))
      by (between x) =
          let q = only_stmt s C w K wf (backs s K kn) I sc m x.block_is in
          subst (λ (z : Path). Spot z c) x.path_is
          (content x.chain x.alive x.outermost x.in_outer x.number x.there x.headers x.content x.needs_is x.act_is x.scope m (subst (λ (z : Stmt). WaitAs C w.layout x.k z x.below x.content) (sym q) x.as_wait)
          (subst (λ (z : Path). Ready s K z (wait ns c) []) (sym x.path_is) r) (λ d y. x.wrap d (subst (λ (z : Stmt). Waited s C w.layout K (script_path x.p) z d) q y))
          (λ y. x.wrap_ready (subst (λ (z : Stmt). AllReady s C w K wf (backs s K kn) I sc x.k (script_path x.p) z x.below) q y)) x.sub x.before)
  spot (Mn.called {path = path} {b = b} {f = f} {st = st} {c = c} lv m n fq dp) = by (spot lv)
    where
      by : Spot path b → Spot ((c.at, Key.Number (pos 0)) ∷ path) f.body
      by (at_body {p = p} e ch alive) =
          let fs = found (chain_body s C w.layout K wf.names I sc ch) m in
          let g = sc.calls st c (stmt_in s (in_block (chain_live s C w.layout K wf.names I sc ch) m)) n in
          subst (λ (z : Path). Spot ((c.at, Key.Number (pos 0)) ∷ z) f.body) e
          (call_under ch alive m n (find_call C w.layout c fs.as_stmt n) fs.among fq (g.2 ∙ ap (λ (z : Function). z.inputs) (some_same (sym g.1 ∙ fq))) (subst (λ (z : Path). length z < max_path_steps) (sym e) dp))
      by (between x) = absurd (calls_no_wait (subst (λ (z : Stmt). WaitAs C w.layout x.k z x.below x.content) (sym (only_stmt s C w K wf (backs s K kn) I sc m x.block_is)) x.as_wait) n)

  -- THE ITEM OF A BLOCKED STATEMENT
  module _ {p : List Step} {t k : ℕ} {b : Block} (ch : Chain s C w.layout K p t k b) (alive : AllAlive p t) (j : ℕ) (there : In j (body C t).entries) where
    reads_of : (e : Effect Task CodePlaces.Place Key Scalar) → Ever (code_system C) (Item j p 0) e → Reads s C w K wf kn I sc ty nodes ex single back (Item j p 0) e
    reads_of e h = (ever_in s C w K wf kn I sc ty nodes ex single (Item j p 0) e h).reading

    blocked : (at : ℕ) → ((e : Effect Task CodePlaces.Place Key Scalar) → Reads s C w K wf kn I sc ty nodes ex single back (Item j p 0) e → ⊥) → counts (entry C j).act ≡ true → IsBlockedAt C Known p (entry C j).act (entry C j).at at → EverBlocked C at p
    blocked at none co h =
        let l = round_of s C w K wf kn I sc ty nodes ex single back (alive j there) in
        record { round = l.0; number = j; chunk = 0; live = l.1; never = λ e z. none e (reads_of e z); counted = co; stands = h }

    wait_blocked : {hs gs : List Header} {t' at n : ℕ} {a : Action} {bb : Block} → (entry C j).act ≡ code.Wait hs t' → WaitAs C w.layout k (stmt at n a) gs t' → InScope s k bb → stmt at n a ∈ block_list bb
        → ((x : Need) → In x (flat_map (λ h. h.needs) gs) → In x (entry C j).needs) → ((at : ℕ) → FirstUnknown C Known p gs at → FirstUnknown C Known p hs at) → (OwnFact s K (script_path p) n a → ⊥) → EverBlocked C at p
    wait_blocked {hs = hs} {at = at} {n = n} aq wa g m sub bf none = by wa g m sub bf none
      where
        at_wait : {ns : List Awaited} {c bb : Block} {gs : List Header} (gs' : List Header) → InScope s k bb → stmt at n (wait ns c) ∈ block_list bb → gs ≡ header k at ns ∷ gs' → ((x : Need) → In x (flat_map (λ h. h.needs) gs) → In x (entry C j).needs)
            → ((at : ℕ) → FirstUnknown C Known p gs at → FirstUnknown C Known p hs at) → (OwnFact s K (script_path p) n (wait ns c) → ⊥) → EverBlocked C at p
        at_wait {ns} {c} {bb} gs' g m q sub bf none =
            let own_sub : (y : Need) → In y (map (awaited_need k) ns) → In y (entry C j).needs = λ y i. sub y (subst (λ (l : List Header). In y (flat_map (λ h. h.needs) l)) (sym q) (in_left y (map (awaited_need k) ns) (flat_map (λ h. h.needs) gs') i)) in
            let scoped : (x : Awaited) → x ∈ ns → AwaitedIn k x = λ x i. sc.waits k bb at n ns c x g m i in
            blocked at (λ e f. none ([], names_known (λ x i. awaited_come s C w K wf kn I sc ty ch j 0 there e f x (scoped x i) (own_sub (awaited_need k x) (need_of k ns x i))))) (ap counts aq)
            (subst (λ (z : Act). IsBlockedAt C Known p z (entry C j).at at) (sym aq) (bf at (subst (λ (l : List Header). FirstUnknown C Known p l at) (sym q)
            (inl (λ u. none ([], names_known (λ x i. come_back s C w K wf kn I sc ty nodes ex single back ch j 0 there (alive j there) x (scoped x i) (own_sub (awaited_need k x) (need_of k ns x i)) (λ z y. u (awaited_need k x) z (need_of k ns x i) y))), refl)))))

        by : {gs : List Header} {t' : ℕ} {a : Action} {bb : Block} → WaitAs C w.layout k (stmt at n a) gs t' → InScope s k bb → stmt at n a ∈ block_list bb → ((x : Need) → In x (flat_map (λ h. h.needs) gs) → In x (entry C j).needs)
            → ((at : ℕ) → FirstUnknown C Known p gs at → FirstUnknown C Known p hs at) → (OwnFact s K (script_path p) n a → ⊥) → EverBlocked C at p
        by (one_wait ba q) g m sub bf none = at_wait [] g m q sub bf none
        by (merged wa q) g m sub bf none = at_wait _ g m q sub bf none

    own_blocked : (at n : ℕ) (a : Action) → stmt at n a ∈ block_list b → OwnAs C w.layout k (stmt at n a) j → (OwnFact s K (script_path p) n a → ⊥) → EverBlocked C at p
    own_blocked at n a m (own_simple z en nd) none =
        let pl = simple_plain C Known w.layout k p at a z in
        blocked at (λ e f. none (own_has s C w K wf kn I sc ty asserts ch j 0 there e f at n a (simple_no_wait a z) m (own_simple z en nd))) (ap counts en.act_is ∙ pl.0)
        (subst (λ (x : Act). IsBlockedAt C Known p x (entry C j).at at) (sym en.act_is) (subst (λ (y : ℕ). IsBlockedAt C Known p (simple_act w.layout k (own_needs w.layout k a) a) y at) (sym en.at_is) pl.1))
    own_blocked at n a m (own_branch en mk ba) none =
        blocked at (λ e f. none (own_has s C w K wf kn I sc ty asserts ch j 0 there e f at n a tt m (own_branch en mk ba))) (ap counts en.act_is) (subst (λ (x : Act). IsBlockedAt C Known p x (entry C j).at at) (sym en.act_is) (sym en.at_is))
    own_blocked at n a m (own_branches en mk ba bb) none =
        blocked at (λ e f. none (own_has s C w K wf kn I sc ty asserts ch j 0 there e f at n a tt m (own_branches en mk ba bb))) (ap counts en.act_is) (subst (λ (x : Act). IsBlockedAt C Known p x (entry C j).at at) (sym en.act_is) (sym en.at_is))
    own_blocked at n a m (own_range en mk ba) none =
        blocked at (λ e f. none (own_has s C w K wf kn I sc ty asserts ch j 0 there e f at n a tt m (own_range en mk ba))) (ap counts en.act_is) (subst (λ (x : Act). IsBlockedAt C Known p x (entry C j).at at) (sym en.act_is) (sym en.at_is))
    own_blocked at n a m (own_each en mk ba) none =
        blocked at (λ e f. none (own_has s C w K wf kn I sc ty asserts ch j 0 there e f at n a tt m (own_each en mk ba))) (ap counts en.act_is) (subst (λ (x : Act). IsBlockedAt C Known p x (entry C j).at at) (sym en.act_is) (sym en.at_is))
    own_blocked at n a m (own_wait wa en) none =
        wait_blocked en.act_is wa (chain_scope s C w.layout K wf.names I sc ch) m (λ x h. subst (λ (l : List Need). In x l) (sym en.needs_is) (in_once x _ h)) (λ at h. h) none

  -- BLOCKED IN THE SCRIPT, BLOCKED IN THE CODE
  pub blocked_from : (at : ℕ) (path : List Step) → Blocked s K at (script_path path) → EverBlocked C at path
  blocked_from at path (n, a, st) = from_live st.live
    where
      from_spot : {bb : Block} → stmt at n a ∈ block_list bb → Spot (script_path path) bb → EverBlocked C at path
      from_spot m (at_body {p = p} e ch alive) =
          let f = found (chain_body s C w.layout K wf.names I sc ch) m in
          let ow = own_entry f.as_stmt st.counts in
          subst (λ (z : List Step). EverBlocked C at z) (path_same p path e)
          (own_blocked ch alive ow.number (f.among ow.number ow.there) at n a m ow.as_own (subst (λ (z : Path). OwnFact s K z n a → ⊥) (sym e) st.no_fact))
      from_spot m (between x) =
          let q = only_stmt s C w K wf (backs s K kn) I sc m x.block_is in
          subst (λ (z : List Step). EverBlocked C at z) (path_same x.p path x.path_is)
          (wait_blocked x.chain x.alive x.number x.there x.act_is (subst (λ (z : Stmt). WaitAs C w.layout x.k z x.below x.content) (sym q) x.as_wait) x.scope m x.sub x.before (subst (λ (z : Path). OwnFact s K z n a → ⊥) (sym x.path_is) st.no_fact))

      from_live : Mn.LiveStmt s K (script_path path) (stmt at n a) → EverBlocked C at path
      from_live (in_block lv m) = from_spot m (spot lv)
