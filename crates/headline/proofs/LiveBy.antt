-- What is live in the script is live in the code, for facts of the code to which each task comes whose needs are fed.
use Rattle.std.proofs.Common.{◌≡◌, ◌⊎◌, inl, inr, ℕ, zero, suc, ◌<◌, arith, Bool, true, false, List, [], ◌∷◌, map, length, refl, sym, ap, ◌∙◌, subst, Option, Some, None, Result, Ok}
use Rattle.std.specs.Prelude.{pos, ◌&&◌, nat_le, slice_get}
use Rattle.std.specs.List.{flat_map}
use Rattle.dataflow.specs.System.{In, Effect}
use Rattle.dataflow.specs.Facts.{Live, live_main, live_opened}
use Rattle.dataflow.proofs.Lists.{in_left, in_right, in_split, in_map}
use Rattle.values.specs.declared.fault.OpFault.{OpFault}
use Rattle.values.specs.declared.key.Key.{Key}
use Rattle.values.specs.declared.map.Element.{Element}
use Rattle.values.specs.Maps.{element as element_of}
use Rattle.values.specs.declared.value.Scalar.{Scalar}
use Rattle.values.specs.declared.value.Scalar.TheVariants.{Number, Truth}
use Rattle.values.specs.Ranges.{range_count, value_in}
use Rattle.values.specs.declared.value.Value.{Value}
use Rattle.values.specs.declared.value.Value.TheVariants.{One, Many}
use Rattle.language.specs.Core as Co
use Rattle.language.specs.Core.{Name, Expr, Cell, Call, Part, Outer, Awaited, Stmt, stmt, Action, when, choose, range, each, wait, Block, stmts, no_stmts, Function, Core}
use Rattle.language.specs.Facts.{value, Knowledge, KnownAll}
use Rattle.language.specs.Meaning.{in_block, Ready, cells_known, source_closed, Come}
use Rattle.language.specs.Members.{◌∈◌, first, later}
use Rattle.language.specs.Openings.{Branches, Bounds, bounds, one_way, two_ways, in_turns, Opens, then_alone, then_first, else_second, turn, item}
use Rattle.language.specs.Parts.{stmt_at, outer_cells, cells, stmt_calls, block_list}
use Rattle.language.specs.Places.{Path, Place, place, max_path_steps}
use Rattle.language.specs.WellFormed.{WellFormed}
use Rattle.language.proofs.Members.{split_in}
use Rattle.language_laws.proofs.Declared.{stmt_in}
use Rattle.language_laws.proofs.Sources.{outer_in}
use Rattle.task_code.proofs.Opens.{some_same}
use Rattle.task_code.specs.Code as code
use Rattle.task_code.specs.Code.{Need, Header, Act, If, Wait, Way, Code, Through, InPlace, Calling, Loop, entry, body, ways, loop_of}
use Rattle.task_code.specs.Compute.{Computed, Takes, Turns, Opens as OpensIt, Elements, range_turns, turns_or, compute}
use Rattle.task_code.specs.Effects.{Task, Main, Item, block, effect_at, is_too_deep, instances, rest, rest_if, left_at, chunk, is_some_list, step_at}
use Rattle.task_code.specs.Places.{Step, place_at}
use Rattle.task_code.specs.Places as CodePlaces
use Rattle.task_code.proofs.Rights.{loop_instances}
use Rattle.task_code.specs.System.{answered, code_system}
use Rattle.task_code.specs.Whole.{IsCode}
use Rattle.headline.specs.Headline.{script_path}
use Rattle.headline.specs.Answered.{Reading}
use Rattle.headline.specs.Backs.{Backs}
use Rattle.headline.specs.Chains.{Answers, Chain, at_script, by_header, by_wait, by_call, Waited, one_ready, more_ready}
use Rattle.code_rules.specs.CodeNames.{name_as, wanted, each_once, awaited_need, header}
use Rattle.language_laws.specs.Scoped.{IsIn, AwaitedIn, InScope, in_wait, Scoped}
use Rattle.code_rules.specs.IsCodeOf.{seen, step_expr, IsEntry, CallAs, StmtAs, simple, branch, branches, range_loop, array_loop, waits, WaitAs, one_wait, merged, BodyAs, IsCodeOf}
use Rattle.headline.proofs.Evaluate.{Got, Ans, once_in, in_once}
use Rattle.headline.proofs.Facts.{Known, known, fact_of, not_too_deep}
use Rattle.headline.proofs.Means.{chain_live, chain_body, chain_scope}
use Rattle.headline.proofs.Readings.{in_element}
use Rattle.headline.proofs.HeaderWorks.{find_call, CallFound, in_some_chunk, some_of, none_taken, left_before, branch_key, taken, two_numbers, three_numbers, outer_among, turn_there, branch_takes, condition_value, ready_names, come_answer, awaited_of, each_turns, ready_cells, known_two, known_three, range_seen, range_works, IsLoop, only_stmt, opens_no_wait, calls_no_wait, found_body, no_simple}
use Rattle.headline.proofs.Roles.{cell_among, OwnAs, own_simple, own_branch, own_branches, own_range, own_each, own_wait}
use Rattle.values.specs.Limits.{chunk_size}

abbrev pub TaskEffect : Type 0
TaskEffect = Effect Task CodePlaces.Place Key Scalar

module _ (s : Core) (C : Code) (w : IsCodeOf s C) (K : Knowledge) (wf : WellFormed s) (kn : Backs s K) (I : IsCode C) (sc : Scoped s) where
  abbrev Chained : List Step → ℕ → ℕ → Block → Type 0
  Chained p t k b = Chain s C w.layout K p t k b

  -- facts of the code, and what it is for a need of an item, and for a scalar or an array of the script, to be fed
  pub record Feed : Type 1 where
    pub Fact : Task → TaskEffect → Type 0
    pub Fed : List Step → Need → Type 0
    pub ScalarFed : Place → Type 0
    pub ArrayFed : Place → Type 0
    pub main : Fact Main (record { writes = []; lines = []; opens = block C (0, []) ∷ [] })
    -- a live item whose needs are fed comes to what the script's answers yield
    pub yields : (j c : ℕ) (p : List Step) (e : TaskEffect) → Live (code_system C) Fact (Item j p c) → ((x : Need) → In x (entry C j).needs → Fed p x) → Reading (code_system C) (Answers s K) (Item j p c) e → Fact (Item j p c) e
    -- the cells of a statement whose values are known, and names of fed data
    pub cell : (p : List Step) (t k : ℕ) (b : Block) → Chained p t k b → (j : ℕ) → In j (body C t).entries → (at n : ℕ) (a : Action) → stmt at n a ∈ block_list b → (c : Cell) → c ∈ cells (stmt at n a) → (u : Scalar) → K (value (script_path p, c.node) (One u)) → (x : Need) → In x (wanted k (seen w.layout c)) → In x (entry C j).needs → Fed p x
    pub scalar : (p : List Step) (t k : ℕ) (b : Block) → Chained p t k b → (j : ℕ) → In j (body C t).entries → (x : Name) → IsIn k x → In (code.Stored (name_as k false x)) (entry C j).needs → ScalarFed (place s (script_path p) x) → Fed p (code.Stored (name_as k false x))
    pub array : (p : List Step) (t k : ℕ) (b : Block) → Chained p t k b → (j : ℕ) → In j (body C t).entries → (x : Name) → IsIn k x → In (code.Closed (name_as k true x)) (entry C j).needs → ArrayFed (place s (script_path p) x) → Fed p (code.Closed (name_as k true x))

  module _ (fd : Feed) where
    abbrev pub Alive : Task → Type 0
    Alive t = Live (code_system C) fd.Fact t

    abbrev pub AllAlive : List Step → ℕ → Type 0
    AllAlive p t = (j : ℕ) → In j (body C t).entries → Alive (Item j p 0)

    -- what a header waits for is fed
    abbrev pub ComeFed : Path → Awaited → Type 0
    ComeFed path (Co.scalar x) = fd.ScalarFed (place s path x)
    ComeFed path (Co.array x) = fd.ArrayFed (place s path x)

    abbrev pub ReadyFed : Path → Action → Type 0
    ReadyFed path (each a x y d) = fd.ArrayFed (place s path a)
    ReadyFed path (wait ns d) = (x : Awaited) → x ∈ ns → ComeFed path x
    ReadyFed path _ = Unit {0}

    -- a need that is answered and fed
    abbrev pub Given : List Step → Need → Type 0
    Given p n = ((y : Got) × Ans s C K p n y) × fd.Fed p n

    -- what the fact of a live item opens is live
    opens_alive : {j c : ℕ} {p : List Step} (x : Computed) → Alive (Item j p c) → fd.Fact (Item j p c) (effect_at C j p c x)
        → (q : ℕ × List Step) → In q (instances (entry C j).act (entry C j).offset p c x) → (i : ℕ) → In i (body C q.0).entries → Alive (Item i q.1 0)
    opens_alive {j} {c} {p} x lv f q h i m =
        live_opened (Item j p c) (Item i q.1 0) (effect_at C j p c x) (block C q) lv f
        (in_left (block C q) (map (block C) (instances (entry C j).act (entry C j).offset p c x)) _ (in_map (block C) q (instances (entry C j).act (entry C j).offset p c x) h))
        (in_map (λ (i : ℕ). Item i q.1 0) i (body C q.0).entries m)

    rest_alive : {j c : ℕ} {p : List Step} (ts : Elements) {lp : Loop} → Alive (Item j p c) → fd.Fact (Item j p c) (effect_at C j p c (Turns ts)) → loop_of (entry C j).act ≡ Some lp
        → is_some_list (left_at (suc c) ts) ≡ true → Alive (Item j p (suc c))
    rest_alive {j} {c} {p} ts lv f q h =
        live_opened (Item j p c) (Item j p (suc c)) (effect_at C j p c (Turns ts)) (record { makes = []; tasks = Item j p (suc c) ∷ [] }) lv f
        (in_right _ (map (block C) (instances (entry C j).act (entry C j).offset p c (Turns ts))) _
        (subst (λ (o : Option Loop). In (record { makes = []; tasks = Item j p (suc c) ∷ [] }) (rest o j p c (Turns ts))) (sym q)
        (subst (λ (b : Bool). In (record { makes = []; tasks = Item j p (suc c) ∷ [] }) (rest_if b j p c)) (sym h) (inl refl))))
        (inl refl)

    -- who opened the body at that path
    pub data Opener (t : ℕ) (p : List Step) : Type 0 where
      of_main : t ≡ 0 → p ≡ [] → Opener t p
      of_item : {j c : ℕ} {q : List Step} (x : Computed) → Alive (Item j q c) → fd.Fact (Item j q c) (effect_at C j q c x) → In (t, p) (instances (entry C j).act (entry C j).offset q c x) → Opener t p

    -- WHERE A LIVE BLOCK'S ITEMS ARE
    -- between the headers of merged waits no body stands for the block; the entry is that of the outermost one
    pub record Between (path : Path) (b : Block) : Type 0 where
      pub p : List Step
      pub t : ℕ
      pub k : ℕ
      pub outer_block : Block
      pub path_is : script_path p ≡ path
      pub chain : Chained p t k outer_block
      pub alive : AllAlive p t
      pub outermost : Stmt
      pub in_block : outermost ∈ block_list outer_block
      pub number : ℕ
      pub there : In number (body C t).entries
      pub headers : List Header
      pub content : ℕ
      pub as_entry : IsEntry (entry C number) (stmt_at outermost) (pos 0) (each_once (flat_map (λ h. h.needs) headers)) (Wait headers content)
      pub inner : Stmt
      pub block_is : b ≡ stmts inner no_stmts
      pub below : List Header
      pub as_wait : WaitAs C w.layout k inner below content
      pub scope : InScope s k b
      pub wrap : (c : Block) → Waited s C w.layout K (script_path p) inner c → Waited s C w.layout K (script_path p) outermost c
      pub answers : (n : Need) → In n (flat_map (λ h. h.needs) headers) → Given p n ⊎ In n (flat_map (λ h. h.needs) below)

    pub data Where (path : Path) (b : Block) : Type 0 where
      at_body : {p : List Step} {t k : ℕ} → script_path p ≡ path → Chained p t k b → AllAlive p t → Opener t p → Where path b
      between : Between path b → Where path b

    module _ {p : List Step} {t k : ℕ} {b : Block} (ch : Chained p t k b) (j : ℕ) (there : In j (body C t).entries) where
      -- a block under a key, once the item of its chunk has the fact that opens it
      header_where : {at n u : ℕ} {a : Action} {c : Block} {vs : List Value} {key : Key} (chunk_no : ℕ) (x : Computed) → stmt at n a ∈ block_list b → (entry C j).offset ≡ at → In (Through, u) (ways (entry C j).act)
          → BodyAs C w.layout k c u → Ready s K (script_path p) a vs → Opens a vs key c → length (script_path p) < max_path_steps
          → Alive (Item j p chunk_no) → fd.Fact (Item j p chunk_no) (effect_at C j p chunk_no x) → In (u, step_at (entry C j).offset key p) (instances (entry C j).act (entry C j).offset p chunk_no x)
          → Where ((at, key) ∷ script_path p) c
      header_where {at} {u = u} {key = key} cn x m mk wy ba r o d lv f h =
          at_body refl (by_header j ch m there mk wy ba r o d) (λ i m'. subst (λ (z : ℕ). Alive (Item i (step_at z key p) 0)) mk (opens_alive x lv f (u, step_at (entry C j).offset key p) h i m'))
          (subst (λ (z : ℕ). Opener u (step_at z key p)) mk (of_item x lv f h))

      -- THE NEEDS OF A HEADER ARE FED
      pub needs_fed : (es : List Expr) → (entry C j).needs ≡ each_once (flat_map (wanted k) es) → ((e : Expr) → e ∈ es → (x : Need) → In x (wanted k e) → In x (entry C j).needs → fd.Fed p x) → (x : Need) → In x (entry C j).needs → fd.Fed p x
      needs_fed es q f x h = among es (λ e i m. f e i x m h) (once_in x _ (subst (λ (l : List Need). In x l) q h))
        where
          among : (es : List Expr) → ((e : Expr) → e ∈ es → In x (wanted k e) → fd.Fed p x) → In x (flat_map (wanted k) es) → fd.Fed p x
          among [] f h = absurd h
          among (e ∷ es) f h = elim (in_split x (wanted k e) (flat_map (wanted k) es) h) [ inl i ↦ f e first i | inr i ↦ among es (λ e m. f e (later m)) i ]

      pub known_cell : {at n : ℕ} {a : Action} (o : Cell) {u : Scalar} → stmt at n a ∈ block_list b → o ∈ cells (stmt at n a) → K (value (script_path p, o.node) (One u)) → (e : Expr) → e ≡ seen w.layout o → (x : Need) → In x (wanted k e) → In x (entry C j).needs → fd.Fed p x
      known_cell {at} {n} {a} o {u} m cm kv e q x h g = fd.cell p t k b ch j there at n a m o cm u kv x (subst (λ (y : Expr). In x (wanted k y)) q h) g

      range_fed : {at n y : ℕ} {lo hi : Outer} (st : Option Outer) {z : Option ℕ} {d : Block} {vs : List Value} {rr : Bounds} → stmt at n (range lo hi st y z d) ∈ block_list b → KnownAll K (script_path p) (outer_cells (range lo hi st y z d)) vs → bounds vs ≡ Some rr
          → (e : Expr) → e ∈ (seen w.layout lo.cell ∷ seen w.layout hi.cell ∷ step_expr w.layout k st ∷ []) → (x : Need) → In x (wanted k e) → In x (entry C j).needs → fd.Fed p x
      range_fed {lo = lo} {hi = hi} None {rr = rr} m ka bq e i =
          let kk = known_two s C w K wf kn I sc ka in
          let nn = two_numbers kk.0 kk.1 rr (ap bounds (sym kk.2) ∙ bq) in
          elim (split_in i) [
            | inl q ↦ known_cell lo.cell m (cell_among _ (outer_among (lo ∷ hi ∷ []) lo first)) (subst (λ (u : Value). K (value (script_path p, lo.cell.node) u)) nn.0 kk.3) e q
            | inr i ↦ elim (split_in i) [
              | inl q ↦ known_cell hi.cell m (cell_among _ (outer_among (lo ∷ hi ∷ []) hi (later first))) (subst (λ (u : Value). K (value (script_path p, hi.cell.node) u)) nn.1 kk.4) e q
              | inr i ↦ elim (split_in i) [ inl q ↦ (λ x h g. absurd (subst (λ (y : Expr). In x (wanted k y)) q h)) | inr i ↦ elim i [ ] ]
            ]
          ]
      range_fed {lo = lo} {hi = hi} (Some o) {rr = rr} m ka bq e i =
          let kk = known_three s C w K wf kn I sc ka in
          let nn = three_numbers kk.0 kk.1 kk.2 rr (ap bounds (sym kk.3) ∙ bq) in
          elim (split_in i) [
            | inl q ↦ known_cell lo.cell m (cell_among _ (outer_among (lo ∷ hi ∷ o ∷ []) lo first)) (subst (λ (u : Value). K (value (script_path p, lo.cell.node) u)) nn.0 kk.4) e q
            | inr i ↦ elim (split_in i) [
              | inl q ↦ known_cell hi.cell m (cell_among _ (outer_among (lo ∷ hi ∷ o ∷ []) hi (later first))) (subst (λ (u : Value). K (value (script_path p, hi.cell.node) u)) nn.1 kk.5) e q
              | inr i ↦ elim (split_in i) [
                | inl q ↦ known_cell o.cell m (cell_among _ (outer_among (lo ∷ hi ∷ o ∷ []) o (later (later first)))) (subst (λ (u : Value). K (value (script_path p, o.cell.node) u)) nn.2 kk.6) e q
                | inr i ↦ elim i [ ]
              ]
            ]
          ]

      pub header_fed : (at n : ℕ) (a : Action) (vs : List Value) → stmt at n a ∈ block_list b → OwnAs C w.layout k (stmt at n a) j → Branches a → Ready s K (script_path p) a vs → ReadyFed (script_path p) a → (x : Need) → In x (entry C j).needs → fd.Fed p x
      header_fed at n a vs m (own_simple z en nd) br r rf = absurd (no_simple a z br)
      header_fed at n (when o d) vs m (own_branch en mk ba) br (cells_known ks (one_way {t = x})) rf =
          let kv = condition_value s C w K wf kn I sc ch j there (cells_known ks (one_way {c = o} {b = d} {t = x})) refl refl (λ ns c e. absurd (cc (e))) (λ x y z c e. absurd (cc (e))) in
          needs_fed (seen w.layout o.cell ∷ []) en.needs_is (λ e i. elim (split_in i) [ inl q ↦ known_cell o.cell m (outer_in o.parts o.cell) kv e q | inr i ↦ elim i [ ] ])
      header_fed at n (choose o d d') vs m (own_branches en mk ba bb) br (cells_known ks (two_ways {t = x})) rf =
          let kv = condition_value s C w K wf kn I sc ch j there (cells_known ks (two_ways {c = o} {b = d} {d = d'} {t = x})) refl refl (λ ns c e. absurd (cc (e))) (λ x y z c e. absurd (cc (e))) in
          needs_fed (seen w.layout o.cell ∷ []) en.needs_is (λ e i. elim (split_in i) [ inl q ↦ known_cell o.cell m (outer_in o.parts o.cell) kv e q | inr i ↦ elim i [ ] ])
      header_fed at n (range lo hi st x y d) vs m (own_range en mk ba) br (cells_known ks (in_turns bq rc)) rf =
          needs_fed (seen w.layout lo.cell ∷ seen w.layout hi.cell ∷ step_expr w.layout k st ∷ []) en.needs_is (range_fed st m ks bq)
      header_fed at n (each a x y d) vs m (own_each en mk ba) br (source_closed c el) rf =
          λ z h. elim (subst (λ (l : List Need). In z l) en.needs_is h) [
            | inl e ↦ subst (λ (u : Need). fd.Fed p u) (sym e) (fd.array p t k b ch j there a (sc.loops k b at n x a y d (chain_scope s C w.layout K wf.names I sc ch) m) (subst (λ (l : List Need). In (code.Closed (name_as k true a)) l) (sym en.needs_is) (inl refl)) rf)
            | inr u ↦ absurd u
          ]
      header_fed at n (each a x y d) vs m (own_each en mk ba) br (cells_known ks z) rf = elim z [ ]
      header_fed at n (wait ns d) vs m (own_wait wa en) br r rf = absurd br

      pub come_fed : (x : Awaited) → AwaitedIn k x → In (awaited_need k x) (entry C j).needs → ComeFed (script_path p) x → fd.Fed p (awaited_need k x)
      come_fed (Co.scalar x) g m h = fd.scalar p t k b ch j there x g m h
      come_fed (Co.array x) g m h = fd.array p t k b ch j there x g m h

    -- a branch that a header opens
    when_where : {p : List Step} {t k : ℕ} {b : Block} (ch : Chained p t k b) → AllAlive p t → {at n : ℕ} {o : Outer} {d : Block} {js : List ℕ} → stmt at n (when o d) ∈ block_list b → StmtAs C w.layout k (stmt at n (when o d)) js → ((j : ℕ) → In j js → In j (body C t).entries)
        → Ready s K (script_path p) (when o d) (One (Truth true) ∷ []) → length (script_path p) < max_path_steps → Where ((at, Key.Number (pos 0)) ∷ script_path p) d
    when_where ch alive m (simple j z op as' e nd q) sub r dp = absurd z
    when_where {p} {t} {k} ch alive {at = at} {n = n} {o = o} {d = d} m (branch {t = u} j {is = is} as' en mk ba q) sub r dp =
        let there = sub j (subst (λ (z : List ℕ). In j z) (sym q) (in_right j is (j ∷ []) (inl refl))) in
        let kv = condition_value s C w K wf kn I sc ch j there r refl refl (λ ns c e. absurd (cc (e))) (λ x y z c e. absurd (cc (e))) in
        let f = fd.yields j 0 p _ (alive j there) (header_fed ch j there at n (when o d) _ m (own_branch en mk ba) tt r tt) (branch_takes s C w K wf kn I sc ch j there o true m (outer_in o.parts o.cell) kv en dp) in
        header_where ch j there 0 (Takes true) m mk (subst (λ (a : Act). In (Through, u) (ways a)) (sym en.act_is) (inl refl)) ba r then_alone dp (alive j there) f
        (subst (λ (a : Act). In (u, step_at (entry C j).offset (Key.Number (pos 0)) p) (instances a (entry C j).offset p 0 (Takes true))) (sym en.act_is) (inl refl))

    choose_where : {p : List Step} {t k : ℕ} {b : Block} (ch : Chained p t k b) → AllAlive p t → {at n : ℕ} {o : Outer} {d d' : Block} {js : List ℕ} (x : Bool) → stmt at n (choose o d d') ∈ block_list b → StmtAs C w.layout k (stmt at n (choose o d d')) js → ((j : ℕ) → In j js → In j (body C t).entries)
        → Ready s K (script_path p) (choose o d d') (One (Truth x) ∷ []) → length (script_path p) < max_path_steps → Where ((at, branch_key x) ∷ script_path p) (taken x d d')
    choose_where ch alive x m (simple j z op as' e nd q) sub r dp = absurd z
    choose_where {p} {t} {k} ch alive {at = at} {n = n} {o = o} {d = d} {d' = d'} x m (branches {t = u} {u = u'} j {is = is} as' en mk ba bb q) sub r dp =
        by x r f
      where
        there : In j (body C t).entries
        there = sub j (subst (λ (z : List ℕ). In j z) (sym q) (in_right j is (j ∷ []) (inl refl)))

        f : fd.Fact (Item j p 0) (effect_at C j p 0 (Takes x))
        f = fd.yields j 0 p _ (alive j there) (header_fed ch j there at n (choose o d d') _ m (own_branches en mk ba bb) tt r tt) (branch_takes s C w K wf kn I sc ch j there o x m (outer_in o.parts o.cell) (condition_value s C w K wf kn I sc ch j there r refl refl (λ ns c e. absurd (cc (e))) (λ x y z c e. absurd (cc (e)))) en dp)

        by : (x : Bool) → Ready s K (script_path p) (choose o d d') (One (Truth x) ∷ []) → fd.Fact (Item j p 0) (effect_at C j p 0 (Takes x)) → Where ((at, branch_key x) ∷ script_path p) (taken x d d')
        by true r g = header_where ch j there 0 (Takes true) m mk (subst (λ (a : Act). In (Through, u) (ways a)) (sym en.act_is) (inl refl)) ba r then_first dp (alive j there) g
            (subst (λ (a : Act). In (u, step_at (entry C j).offset (Key.Number (pos 0)) p) (instances a (entry C j).offset p 0 (Takes true))) (sym en.act_is) (inl refl))
        by false r g = header_where ch j there 0 (Takes false) m mk (subst (λ (a : Act). In (Through, u') (ways a)) (sym en.act_is) (inr (inl refl))) bb r else_second dp (alive j there) g
            (subst (λ (a : Act). In (u', step_at (entry C j).offset (Key.Number (pos 1)) p) (instances a (entry C j).offset p 0 (Takes false))) (sym en.act_is) (inl refl))

    -- CALLS
    call_where : {p : List Step} {t k : ℕ} {b : Block} (ch : Chained p t k b) → AllAlive p t → {st : Stmt} {c : Call} {f : Function} {js : List ℕ} → st ∈ block_list b → c ∈ stmt_calls st → CallFound C w.layout k st c js → ((j : ℕ) → In j js → In j (body C t).entries)
        → slice_get s.functions c.function ≡ Some f → length c.inputs ≡ f.inputs → length (script_path p) < max_path_steps → Where ((c.at, Key.Number (pos 0)) ∷ script_path p) f.body
    call_where {p} {t} {k} ch alive {c = c} {f = f} m n cf sub fq len dp =
        at_body refl (by_call j ch m n there ca cf.cells_in fq len (w.functions c.function f fq) dp)
        (λ i m'. subst (λ (z : ℕ). Alive (Item i (step_at z (Key.Number (pos 0)) p) 0)) ca.offset_is (opens_alive OpensIt (alive j there) fact (w.layout.body_of c.function, step_at (entry C j).offset (Key.Number (pos 0)) p) opens i m'))
        (subst (λ (z : ℕ). Opener (w.layout.body_of c.function) (step_at z (Key.Number (pos 0)) p)) ca.offset_is (of_item OpensIt (alive j there) fact opens))
      where
        j : ℕ
        j = cf.number

        ca : CallAs C w.layout k cf.all cf.at cf.priority c cf.number
        ca = cf.as_call

        there : In cf.number (body C t).entries
        there = sub cf.number cf.there

        z : Known s C w K wf kn I sc ch cf.number (sub cf.number cf.there)
        z = known s C w K wf kn I sc ch cf.number (sub cf.number cf.there) (λ n h. absurd (subst (λ (l : List Need). In n l) (cf.as_call).is.needs_is h))

        fact : fd.Fact (Item cf.number p 0) (effect_at C cf.number p 0 OpensIt)
        fact = fd.yields cf.number 0 p _ (alive cf.number there) (λ n h. absurd (subst (λ (l : List Need). In n l) (cf.as_call).is.needs_is h))
            (fact_of s C w K wf kn I sc ch cf.number (sub cf.number cf.there) z 0 OpensIt (ap (λ (a : Act). compute a (answered C p (entry C cf.number).needs z.answers)) (cf.as_call).is.act_is) tt (not_too_deep _ p _ dp))

        opens : In (w.layout.body_of c.function, step_at (entry C cf.number).offset (Key.Number (pos 0)) p) (instances (entry C cf.number).act (entry C cf.number).offset p 0 OpensIt)
        opens = subst (λ (a : Act). In (w.layout.body_of c.function, step_at (entry C cf.number).offset (Key.Number (pos 0)) p) (instances a (entry C cf.number).offset p 0 OpensIt)) (sym (cf.as_call).is.act_is) (inl refl)

    -- a ready wait, innermost of those merged so far: its content is live, or the content is one more of them
    module _ {p : List Step} {t k : ℕ} {b0 : Block} (ch : Chained p t k b0) (alive : AllAlive p t) (st0 : Stmt) (m0 : st0 ∈ block_list b0) (j : ℕ) (there : In j (body C t).entries) (hs : List Header) (t' : ℕ)
        (en : IsEntry (entry C j) (stmt_at st0) (pos 0) (each_once (flat_map (λ h. h.needs) hs)) (Wait hs t')) where
      header_answers : (at : ℕ) (ns : List Awaited) (gs : List Header) → ((x : Awaited) → x ∈ ns → AwaitedIn k x) → ((x : Awaited) → x ∈ ns → Come s K (script_path p) x) → ((x : Awaited) → x ∈ ns → ComeFed (script_path p) x)
          → (n : Need) → In n (flat_map (λ h. h.needs) hs) → In n (flat_map (λ h. h.needs) (header k at ns ∷ gs)) → Given p n ⊎ In n (flat_map (λ h. h.needs) gs)
      header_answers at ns gs g r rf n i h =
          elim (in_split n (map (awaited_need k) ns) (flat_map (λ h. h.needs) gs) h) [
            | inl m ↦ (let x = awaited_of s C w K wf kn I sc k ns n m in
                let there_is = subst (λ (z : Need). In z (entry C j).needs) x.2 (subst (λ (l : List Need). In n l) (sym en.needs_is) (in_once n _ i)) in
                inl (subst (λ (z : Need). Given p z) (sym x.2) (come_answer s C w K wf kn I sc ch j there x.0 (g x.0 x.1) there_is (r x.0 x.1), come_fed ch j there x.0 (g x.0 x.1) there_is (rf x.0 x.1))))
            | inr m ↦ inr m
          ]

      wait_where : {at n : ℕ} {ns : List Awaited} {c bb : Block} {gs : List Header} → InScope s k bb → stmt at n (wait ns c) ∈ block_list bb → WaitAs C w.layout k (stmt at n (wait ns c)) gs t' → Ready s K (script_path p) (wait ns c) [] → ReadyFed (script_path p) (wait ns c)
          → ((d : Block) → Waited s C w.layout K (script_path p) (stmt at n (wait ns c)) d → Waited s C w.layout K (script_path p) st0 d)
          → ((x : Need) → In x (flat_map (λ h. h.needs) hs) → Given p x ⊎ In x (flat_map (λ h. h.needs) gs)) → Where (script_path p) c
      wait_where {bb = bb} sp mm (one_wait {at = at} {n = n} {ns = ns} {b = c} ba q) r rf wrap an =
          at_body refl (by_wait j ch m0 there wy ba (wrap c (one_ready r)))
          (λ i m'. opens_alive OpensIt (alive j there) fact (t', p) opens i m')
          (of_item OpensIt (alive j there) fact opens)
        where
          wy : In (InPlace, t') (ways (entry C j).act)
          wy = subst (λ (a : Act). In (InPlace, t') (ways a)) (sym en.act_is) (inl refl)

          all : (x : Need) → In x (entry C j).needs → Given p x
          all x h =
              let i = once_in x _ (subst (λ (l : List Need). In x l) en.needs_is h) in
              elim (an x i) [
                | inl y ↦ y
                | inr m ↦ elim (header_answers at ns [] (λ z u. sc.waits k bb at n ns c z sp mm u) (ready_names s C w K wf kn I sc r ns c refl) rf x i (subst (λ (l : List Header). In x (flat_map (λ h. h.needs) l)) q m)) [ inl y ↦ y | inr z ↦ absurd z ]
              ]

          opens : In (t', p) (instances (entry C j).act (entry C j).offset p 0 OpensIt)
          opens = subst (λ (a : Act). In (t', p) (instances a (entry C j).offset p 0 OpensIt)) (sym en.act_is) (inl refl)

          z : Known s C w K wf kn I sc ch j there
          z = known s C w K wf kn I sc ch j there (λ x h. (all x h).0)

          fact : fd.Fact (Item j p 0) (effect_at C j p 0 OpensIt)
          fact = fd.yields j 0 p _ (alive j there) (λ x h. (all x h).1)
              (fact_of s C w K wf kn I sc ch j there z 0 OpensIt (ap (λ (a : Act). compute a (answered C p (entry C j).needs z.answers)) en.act_is) tt
              (subst (λ (a : Act). is_too_deep a p (instances a (entry C j).offset p 0 OpensIt) ≡ false) (sym en.act_is) (no_step (nat_le max_path_steps (length p)))))
            where
              no_step : (b : Bool) → (b && false) ≡ false
              no_step true = refl
              no_step false = refl
      wait_where {bb = bb} sp mm (merged {at = at} {n = n} {ns = ns} {st = st'} {gs = gs'} wa q) r rf wrap an =
          between (record {
            p = p;
            t = t;
            k = k;
            outer_block = b0;
            path_is = refl;
            chain = ch;
            alive = alive;
            outermost = st0;
            in_block = m0;
            number = j;
            there = there;
            headers = hs;
            content = t';
            as_entry = en;
            inner = st';
            block_is = refl;
            below = gs';
            as_wait = wa;
            scope = in_wait sp mm;
            wrap = λ d x. wrap d (more_ready r x);
            answers = λ x i. elim (an x i) [
              | inl y ↦ inl y
              | inr m ↦ header_answers at ns gs' (λ z u. sc.waits k bb at n ns _ z sp mm u) (ready_names s C w K wf kn I sc r ns _ refl) rf x i (subst (λ (l : List Header). In x (flat_map (λ h. h.needs) l)) q m)
            ];
          })

    -- LOOPS
    -- the item of a loop that has a turn, with its fact
    pub record LoopRun (p : List Step) (t k at x : ℕ) (y : Option ℕ) (d : Block) (u : Key × Scalar) : Type 0 where
      pub number : ℕ
      pub there : In number (body C t).entries
      pub offset_is : (entry C number).offset ≡ at
      pub content : ℕ
      pub stands : BodyAs C w.layout k d content
      pub loops : loop_of (entry C number).act ≡ Some (record { body = content; value = x; turn = y })
      pub way : In (Through, content) (ways (entry C number).act)
      pub chunk_number : ℕ
      pub turns : Elements
      pub alive : Alive (Item number p chunk_number)
      pub fact : fd.Fact (Item number p chunk_number) (effect_at C number p chunk_number (Turns turns))
      pub in_chunk : In u (chunk chunk_number turns)

    module _ {p : List Step} {t k : ℕ} {b : Block} (ch : Chained p t k b) (alive : AllAlive p t) (j : ℕ) (there : In j (body C t).entries) (fed : (x : Need) → In x (entry C j).needs → fd.Fed p x) (dp : length (script_path p) < max_path_steps) where
      turns_fact : (z : Known s C w K wf kn I sc ch j there) (ts : Elements) → compute (entry C j).act (answered C p (entry C j).needs z.answers) ≡ Turns ts → (c : ℕ) → Reading (code_system C) (Answers s K) (Item j p c) (effect_at C j p c (Turns ts))
      turns_fact z ts e c = fact_of s C w K wf kn I sc ch j there z c (Turns ts) e tt (not_too_deep _ p _ dp)

      -- the item of each chunk that has a turn
      chunk_alive : (z : Known s C w K wf kn I sc ch j there) (ts : Elements) (lp : Loop) → compute (entry C j).act (answered C p (entry C j).needs z.answers) ≡ Turns ts → loop_of (entry C j).act ≡ Some lp → (c : ℕ) → is_some_list (left_at c ts) ≡ true → Alive (Item j p c)
      chunk_alive z ts lp e q zero h = alive j there
      chunk_alive z ts lp e q (suc c) h = (let lv = chunk_alive z ts lp e q c (left_before c ts h) in rest_alive ts lv (fd.yields j c p _ lv fed (turns_fact z ts e c)) q h)

      turns_run : {at x t' : ℕ} {y : Option ℕ} {d : Block} (z : Known s C w K wf kn I sc ch j there) (ts : Elements) → compute (entry C j).act (answered C p (entry C j).needs z.answers) ≡ Turns ts
          → loop_of (entry C j).act ≡ Some (record { body = t'; value = x; turn = y }) → (entry C j).offset ≡ at → In (Through, t') (ways (entry C j).act) → BodyAs C w.layout k d t' → (u : Key × Scalar) → In u ts → LoopRun p t k at x y d u
      turns_run {t' = t'} z ts e q mk wy ba u i =
          let f = in_some_chunk (length ts) ts u (omega arith) i in
          let lv = chunk_alive z ts _ e q f.0 (some_of (left_at f.0 ts) u (none_taken chunk_size (left_at f.0 ts) u f.1)) in
          record {
            number = j;
            there = there;
            offset_is = mk;
            content = t';
            stands = ba;
            loops = q;
            way = wy;
            chunk_number = f.0;
            turns = ts;
            alive = lv;
            fact = fd.yields j f.0 p _ lv fed (turns_fact z ts e f.0);
            in_chunk = f.1;
          }

    run_where : {p : List Step} {t k : ℕ} {b : Block} (ch : Chained p t k b) → AllAlive p t → {at n x : ℕ} {y : Option ℕ} {d : Block} {a : Action} {vs : List Value} (u : Key × Scalar) → LoopRun p t k at x y d u → stmt at n a ∈ block_list b → Ready s K (script_path p) a vs → Opens a vs u.0 d
        → length (script_path p) < max_path_steps → Where ((at, u.0) ∷ script_path p) d
    run_where {p} ch alive u run m r o dp =
        header_where ch run.number run.there run.chunk_number (Turns run.turns) m run.offset_is run.way run.stands r o dp run.alive run.fact
        (subst (λ (l : List (ℕ × List Step)). In (run.content, step_at (entry C run.number).offset u.0 p) l) (sym (loop_instances C (entry C run.number).act _ (entry C run.number).offset p run.chunk_number (Turns run.turns) run.loops))
        (in_map (λ (z : Key × Scalar). (run.content, step_at (entry C run.number).offset z.0 p)) u (chunk run.chunk_number run.turns) run.in_chunk))

    pub each_run : {p : List Step} {t k : ℕ} {b : Block} (ch : Chained p t k b) → AllAlive p t → {at n x : ℕ} {a : Name} {y : Option ℕ} {d : Block} {js : List ℕ} {es : List Element} {key : Key} {v : Scalar} → stmt at n (each a x y d) ∈ block_list b
        → StmtAs C w.layout k (stmt at n (each a x y d)) js → ((j : ℕ) → In j js → In j (body C t).entries) → Ready s K (script_path p) (each a x y d) (Many es ∷ []) → fd.ArrayFed (place s (script_path p) a) → element_of key v ∈ es → length (script_path p) < max_path_steps → LoopRun p t k at x y d (key, v)
    each_run ch alive m (simple j z op as' e nd q) sub r rf i dp = absurd z
    each_run {p} {t} {k} {b} ch alive {at} {n} {x} {a} {y} {d} {js} {es} {key} {v} m (array_loop {t = t'} j en mk ba q) sub r rf i dp =
        let there = sub j (subst (λ (l : List ℕ). In j l) (sym q) (inl refl)) in
        let o = each_turns s C w K wf kn I sc ch j there (sc.loops k b at n x a y d (chain_scope s C w.layout K wf.names I sc ch) m) en r in
        turns_run ch alive j there (header_fed ch j there at n (each a x y d) _ m (own_each en mk ba) tt r rf) dp o.answers o.turns o.computed (ap loop_of en.act_is) mk (subst (λ (act : Act). In (Through, t') (ways act)) (sym en.act_is) (inl refl)) ba (key, v) (in_element o.turns (element_of key v) (subst (λ (l : List Element). element_of key v ∈ l) (sym o.all) i))

    pub range_run : {p : List Step} {t k : ℕ} {b : Block} (ch : Chained p t k b) → AllAlive p t → {at n x : ℕ} {lo hi : Outer} (st : Option Outer) {y : Option ℕ} {d : Block} {js : List ℕ} {vs : List Value} {rr : Bounds} {many i : ℕ} → stmt at n (range lo hi st x y d) ∈ block_list b
        → StmtAs C w.layout k (stmt at n (range lo hi st x y d)) js → ((j : ℕ) → In j js → In j (body C t).entries) → Ready s K (script_path p) (range lo hi st x y d) vs → bounds vs ≡ Some rr → range_count rr.low rr.high rr.step ≡ Ok many → i < many → length (script_path p) < max_path_steps
        → LoopRun p t k at x y d (Key.Number (pos i), Number (value_in rr.low rr.step i))
    range_run ch alive st m (simple j z op as' e nd q) sub r bq rc lt dp = absurd z
    range_run {p} ch alive {at = at} {n = n} {x = x} {lo = lo} {hi = hi} st {y = y} {d = d} {vs = vs} {rr = rr} {many = many} {i = i} m (range_loop {t = t'} j {is = is} as' en mk ba q) sub r bq rc lt dp =
        let there = sub j (subst (λ (l : List ℕ). In j l) (sym q) (in_right j is (j ∷ []) (inl refl))) in
        let z = range_works s C w K wf kn I sc ch j there lo hi st d _ refl en (range_seen s C w K wf kn I sc ch j there st m (ready_cells s C w K wf kn I sc r) bq) in
        turns_run ch alive j there (header_fed ch j there at n (range lo hi st x y d) vs m (own_range en mk ba) tt r tt) dp z.answers (range_turns rr.low rr.step 0 many) (z.computed ∙ ap (λ (c : Result ℕ OpFault). turns_or c rr.low rr.step) rc) (ap loop_of en.act_is) mk (subst (λ (act : Act). In (Through, t') (ways act)) (sym en.act_is) (inl refl)) ba
        (Key.Number (pos i), Number (value_in rr.low rr.step i)) (turn_there rr.low rr.step 0 many i (omega arith) (omega arith))

    abbrev pub LoopsAlive : Type 0
    LoopsAlive = (p : List Step) (t k : ℕ) (b : Block) (ch : Chained p t k b) → AllAlive p t → (at n : ℕ) (a : Action) (vs : List Value) (key : Key) (c : Block) (js : List ℕ) → IsLoop s C w K wf kn I sc a → stmt at n a ∈ block_list b
        → StmtAs C w.layout k (stmt at n a) js → ((j : ℕ) → In j js → In j (body C t).entries) → Ready s K (script_path p) a vs → ReadyFed (script_path p) a → Opens a vs key c → length (script_path p) < max_path_steps → Where ((at, key) ∷ script_path p) c

    wait_stmt : {p : List Step} {t k : ℕ} {b : Block} (ch : Chained p t k b) → AllAlive p t → {at n : ℕ} {ns : List Awaited} {c : Block} {js : List ℕ} → stmt at n (wait ns c) ∈ block_list b → StmtAs C w.layout k (stmt at n (wait ns c)) js → ((j : ℕ) → In j js → In j (body C t).entries)
        → Ready s K (script_path p) (wait ns c) [] → ReadyFed (script_path p) (wait ns c) → Where (script_path p) c
    wait_stmt ch alive m (simple j z op as' e nd q) sub r rf = absurd z
    wait_stmt ch alive {at = at} {n = n} {ns = ns} {c = c} m (waits {t = t'} j {hs = hs} wa en q) sub r rf =
        wait_where ch alive (stmt at n (wait ns c)) m j (sub j (subst (λ (z : List ℕ). In j z) (sym q) (inl refl))) hs t' en (chain_scope s C w.layout K wf.names I sc ch) m wa r rf (λ d x. x) (λ x i. inr i)

    pub loops : LoopsAlive
    loops p t k b ch alive at n (range lo hi st x y d) vs key c js lp m sa sub r rf (turn bq rc lt) dp = run_where ch alive _ (range_run ch alive st m sa sub r bq rc lt dp) m r (turn bq rc lt) dp
    loops p t k b ch alive at n (each a x y d) vs key c js lp m sa sub r rf (item i) dp = run_where ch alive _ (each_run ch alive m sa sub r rf i dp) m r (item i) dp
    loops p t k b ch alive at n (Co.declare v) vs key c js lp m sa sub r rf o dp = absurd lp
    loops p t k b ch alive at n (Co.call_alone x y z) vs key c js lp m sa sub r rf o dp = absurd lp
    loops p t k b ch alive at n (Co.assign x y) vs key c js lp m sa sub r rf o dp = absurd lp
    loops p t k b ch alive at n (Co.fill x y) vs key c js lp m sa sub r rf o dp = absurd lp
    loops p t k b ch alive at n (Co.insert x y z) vs key c js lp m sa sub r rf o dp = absurd lp
    loops p t k b ch alive at n (Co.print x y) vs key c js lp m sa sub r rf o dp = absurd lp
    loops p t k b ch alive at n (Co.assert x y) vs key c js lp m sa sub r rf o dp = absurd lp
    loops p t k b ch alive at n (when x y) vs key c js lp m sa sub r rf o dp = absurd lp
    loops p t k b ch alive at n (choose x y z) vs key c js lp m sa sub r rf o dp = absurd lp
    loops p t k b ch alive at n (wait x y) vs key c js lp m sa sub r rf o dp = absurd lp

    -- WHAT IS LIVE IN THE SCRIPT IS LIVE IN THE CODE
    header_step : {p : List Step} {t k : ℕ} {b : Block} (ch : Chained p t k b) → AllAlive p t → {at n : ℕ} {a : Action} {vs : List Value} {key : Key} {c : Block} {js : List ℕ} → stmt at n a ∈ block_list b
        → StmtAs C w.layout k (stmt at n a) js → ((j : ℕ) → In j js → In j (body C t).entries) → Ready s K (script_path p) a vs → ReadyFed (script_path p) a → Opens a vs key c → length (script_path p) < max_path_steps → Where ((at, key) ∷ script_path p) c
    header_step ch alive m sa sub r rf then_alone dp = when_where ch alive m sa sub r dp
    header_step ch alive m sa sub r rf then_first dp = choose_where ch alive true m sa sub r dp
    header_step ch alive m sa sub r rf else_second dp = choose_where ch alive false m sa sub r dp
    header_step ch alive m sa sub r rf (turn e f i) dp = loops _ _ _ _ ch alive _ _ _ _ _ _ _ tt m sa sub r rf (turn e f i) dp
    header_step ch alive m sa sub r rf (item i) dp = loops _ _ _ _ ch alive _ _ _ _ _ _ _ tt m sa sub r rf (item i) dp

    pub live_script : Where [] s.body
    live_script =
        at_body refl (at_script w.script) (λ j m. live_opened Main (Item j [] 0) _ (block C (0, [])) live_main fd.main (inl refl) (in_map (λ (j : ℕ). Item j [] 0) j (body C 0).entries m)) (of_main refl refl)

    pub opened_from : {path : Path} {b c : Block} {at n : ℕ} {header : Action} {vs : List Value} {key : Key} → Where path b → stmt at n header ∈ block_list b → Ready s K path header vs → ReadyFed path header → Opens header vs key c → length path < max_path_steps → Where ((at, key) ∷ path) c
    opened_from {c = c} {at = at} {header = header} {vs = vs} {key = key} (at_body {p = p} e ch alive op) m r rf o dp =
        let f = found_body s C w K wf kn I sc (chain_body s C w.layout K wf.names I sc ch) m in
        subst (λ (z : Path). Where ((at, key) ∷ z) c) e
        (header_step ch alive m f.as_stmt f.among (subst (λ (z : Path). Ready s K z header vs) (sym e) r) (subst (λ (z : Path). ReadyFed z header) (sym e) rf) o (subst (λ (z : Path). length z < max_path_steps) (sym e) dp))
    opened_from (between x) m r rf o dp = absurd (opens_no_wait s C w K wf kn I sc (subst (λ (z : Stmt). WaitAs C w.layout x.k z x.below x.content) (sym (only_stmt s C w K wf kn I sc m x.block_is)) x.as_wait) o)

    pub waited_from : {path : Path} {b c : Block} {at n : ℕ} {ns : List Awaited} → Where path b → stmt at n (wait ns c) ∈ block_list b → Ready s K path (wait ns c) [] → ReadyFed path (wait ns c) → Where path c
    waited_from {c = c} {ns = ns} (at_body {p = p} e ch alive op) m r rf =
        let f = found_body s C w K wf kn I sc (chain_body s C w.layout K wf.names I sc ch) m in
        subst (λ (z : Path). Where z c) e (wait_stmt ch alive m f.as_stmt f.among (subst (λ (z : Path). Ready s K z (wait ns c) []) (sym e) r) (subst (λ (z : Path). ReadyFed z (wait ns c)) (sym e) rf))
    waited_from {c = c} {ns = ns} (between x) m r rf =
        let q = only_stmt s C w K wf kn I sc m x.block_is in
        subst (λ (z : Path). Where z c) x.path_is
        (wait_where x.chain x.alive x.outermost x.in_block x.number x.there x.headers x.content x.as_entry x.scope m (subst (λ (z : Stmt). WaitAs C w.layout x.k z x.below x.content) (sym q) x.as_wait)
        (subst (λ (z : Path). Ready s K z (wait ns c) []) (sym x.path_is) r) (subst (λ (z : Path). ReadyFed z (wait ns c)) (sym x.path_is) rf) (λ d y. x.wrap d (subst (λ (z : Stmt). Waited s C w.layout K (script_path x.p) z d) q y)) x.answers)

    pub called_from : {path : Path} {b : Block} {f : Function} {st : Stmt} {c : Call} → Where path b → st ∈ block_list b → c ∈ stmt_calls st → slice_get s.functions c.function ≡ Some f → length path < max_path_steps → Where ((c.at, Key.Number (pos 0)) ∷ path) f.body
    called_from {f = f} {st = st} {c = c} (at_body {p = p} e ch alive op) m n fq dp =
        let fs = found_body s C w K wf kn I sc (chain_body s C w.layout K wf.names I sc ch) m in
        let g = sc.calls st c (stmt_in s (in_block (chain_live s C w.layout K wf.names I sc ch) m)) n in
        subst (λ (z : Path). Where ((c.at, Key.Number (pos 0)) ∷ z) f.body) e
        (call_where ch alive m n (find_call C w.layout c fs.as_stmt n) fs.among fq (g.2 ∙ ap (λ (z : Function). z.inputs) (some_same (sym g.1 ∙ fq))) (subst (λ (z : Path). length z < max_path_steps) (sym e) dp))
    called_from (between x) m n fq dp = absurd (calls_no_wait s C w K wf kn I sc (subst (λ (z : Stmt). WaitAs C w.layout x.k z x.below x.content) (sym (only_stmt s C w K wf kn I sc m x.block_is)) x.as_wait) n)
