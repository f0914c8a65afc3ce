-- By induction on what the script derives: its live blocks, closed arrays, ready headers and loop variables are those of the code, for any facts to which fed items come.
use Rattle.std.proofs.Common.{◌≡◌, ◌⊎◌, inl, inr, ℕ, ◌<◌, Bool, true, List, [], ◌∷◌, map, length, refl, sym, ap, ◌∙◌, subst}
use Rattle.std.specs.Prelude.{pos}
use Rattle.std.specs.List.{flat_map}
use Rattle.dataflow.specs.System.{In, Opening}
use Rattle.dataflow.specs.Facts as Fa
use Rattle.dataflow.specs.Facts.{Live, Written}
use Rattle.dataflow.proofs.Lists.{in_left, in_right, in_split, in_map, in_unmap}
use Rattle.values.specs.declared.key.Key.{Key}
use Rattle.values.specs.declared.value.Scalar.{Scalar}
use Rattle.values.specs.declared.value.Value.{Value}
use Rattle.values.specs.declared.value.Value.TheVariants.{One}
use Rattle.language.specs.Core.{Owned, local, Awaited, Stmt, stmt, Action, declare, wait, Block, stmts, no_stmts, Core}
use Rattle.language.specs.Facts.{value, element, Knowledge}
use Rattle.language.specs.Meaning as Mn
use Rattle.language.specs.Meaning.{IsTarget, Finished, no_target, value_known, write_known, body_finished, blocks_finished, content_finished, Ready, cells_known, source_closed, names_known, Come, scalar_known, array_closed, HasValue, stored, in_turn}
use Rattle.language.specs.Members.{◌∈◌, first}
use Rattle.language.specs.Openings.{one_way, two_ways, in_turns}
use Rattle.language.specs.Parts.{block_list, script_blocks}
use Rattle.language.specs.Places.{Path, Place, place, max_path_steps}
use Rattle.language.specs.Single.{SinglyAssigned}
use Rattle.language.specs.WellFormed.{Declares, WellFormed}
use Rattle.language.proofs.Blocks.{inner_block}
use Rattle.language_laws.proofs.Declared.{live_block}
use Rattle.language_laws.proofs.Sources.{IsFull}
use Rattle.language_laws.specs.Scoped.{InScope, in_wait, Scoped}
use Rattle.task_code.specs.Code.{Variable, Need, Header, Code, entry, body, scalar}
use Rattle.task_code.specs.Effects.{Task, Main, Item, only, block, effect_at, instances, step_at}
use Rattle.task_code.specs.Exact.{IsExact}
use Rattle.task_code.specs.Places as CodePlaces
use Rattle.task_code.specs.Places.{Step, Datum}
use Rattle.task_code.specs.System.{code_system}
use Rattle.task_code.specs.Whole.{IsCode}
use Rattle.code_rules.specs.CodeNames.{awaited_need, header}
use Rattle.headline.specs.Headline.{script_path, script_place}
use Rattle.code_rules.specs.IsCodeOf.{WaitAs, one_wait, merged, BodyAs, body_as, IsCodeOf}
use Rattle.headline.specs.Backs.{Backs}
use Rattle.headline.specs.Chains.{Chain, one_ready, more_ready}
use Rattle.headline.proofs.ClosingFrom.{instance_way, FactsFrom, Ends, Concl, Every, WaitEnd, last_ready, outer_ready, no_writes, idle_item, no_right, part_no_right, in_script, in_wait_block, fill_done, insert_done, call_done, header_done, wait_done, no_branch, wait_not_alone, only_target, block_done}
use Rattle.headline.proofs.HeaderWorks.{awaited_of, only_stmt}
use Rattle.headline.proofs.Hits.{IsArrayAt}
use Rattle.headline.proofs.LiveBy.{TaskEffect, Feed, AllAlive, ReadyFed, ComeFed, Opener, of_main, of_item, Where, at_body, between, come_fed, live_script, opened_from, waited_from, called_from}
use Rattle.headline.proofs.Means.{chain_body, chain_scope}
use Rattle.headline.proofs.OwnFacts.{facts_from}
use Rattle.headline.proofs.Roles.{own_simple, own_wait}
use Rattle.headline.proofs.TurnsFrom.{turn_from}
use Rattle.headline.proofs.WrittenFrom.{path_same}

module _ (s : Core) (C : Code) (w : IsCodeOf s C) (K : Knowledge) (wf : WellFormed s) (kn : Backs s K) (I : IsCode C) (sc : Scoped s) (fd : Feed s C w K wf kn I sc) (ends : Ends s C w K wf kn I sc fd) (full : IsFull s K) (ex : IsExact C) (single : SinglyAssigned s) where
  -- an array that is made, and written no more
  pub record Ended (q : List Step) (v : Variable) : Type 0 where
    pub made : Fa.Made (code_system C) (ends.Counted q v) (Datum q v)
    pub finished : (u : Task) → In u made.opening.tasks → Fa.Finished (code_system C) (ends.Counted q v) (Datum q v) u

  abbrev pub EndedAt : Place → Type 0
  EndedAt pl = (q : List Step) (v : Variable) → v.array ≡ true → script_place q v ≡ pl → w.layout.array v.node ≡ true → Ended q v

  abbrev ff : FactsFrom s C w K wf kn I sc
  ff = facts_from s C w K wf kn I sc full

  -- a statement that is finished for any array
  abbrev Finishes : Owned → Path → Stmt → Type 0
  Finishes what path st = (p0 : List Step) (v0 : Variable) (ar : IsArrayAt s C w K wf I sc v0) (db : Block) (dbs : db ∈ script_blocks s) (dd : Declares db (local v0.node)) (p : List Step) → script_path p ≡ path → Concl s C w K wf kn I sc fd ends ex single ff p0 v0 ar db dbs dd what p st

  -- AN ARRAY AT ITS BLOCK
  record MadeBy (p : List Step) (t : ℕ) (v : Variable) : Type 0 where
    made : Fa.Made (code_system C) (ends.Counted p v) (Datum p v)
    opening_is : made.opening ≡ block C (t, p)

  made_by : {t : ℕ} {p : List Step} (v : Variable) → v.array ≡ true → Opener s C w K wf kn I sc fd t p → In v (body C t).makes → MadeBy p t v
  made_by {t} {p} v va (of_main tz pz) vm = record {
    made = record { task = Main; effect = record { writes = []; lines = []; opens = block C (0, []) ∷ [] }; opening = block C (t, p); fact = ends.main p v; opens = inl (λ i. block C (tz i, pz i)); makes = in_map (Datum p) v (body C t).makes vm };
    opening_is = refl;
  }
  made_by {t} {p} v va (of_item {j = j} {c = c} {q = q} x lv f h) vm = record {
    made = record {
      task = Item j q c;
      effect = effect_at C j q c x;
      opening = block C (t, p);
      fact = ends.counts p v j c q x va lv f (no_writes s C w K wf kn I sc j c q x (instance_way (entry C j).act (entry C j).offset q c x (t, p) h));
      opens = in_left (block C (t, p)) (map (block C) (instances (entry C j).act (entry C j).offset q c x)) _ (in_map (block C) (t, p) (instances (entry C j).act (entry C j).offset q c x) h);
      makes = in_map (Datum p) v (body C t).makes vm;
    };
    opening_is = refl;
  }

  ended_here : {p : List Step} {t k : ℕ} {b : Block} (ch : Chain s C w.layout K p t k b) → AllAlive s C w K wf kn I sc fd p t → Opener s C w K wf kn I sc fd t p → {n at m : ℕ} → stmt at m (declare n) ∈ block_list b → b ∈ script_blocks s → ((st : Stmt) → st ∈ block_list b → Finishes (local n) (script_path p) st) → w.layout.array n ≡ true → Ended p (record { node = n; array = true })
  ended_here {p} {t} {k} {b} ch al op {n} {at} {m} mem bs fs la = by (chain_body s C w.layout K wf.names I sc ch)
    where
      dd : Declares b (local n)
      dd = record { node = n; at = at; stmt_node = m; is = refl; there = mem }

      with_made : IsArrayAt s C w K wf I sc (record { node = n; array = true }) → MadeBy p t (record { node = n; array = true }) → Ended p (record { node = n; array = true })
      with_made ar mb = record {
        made = mb.made;
        finished = λ u iu.
            (let r = in_unmap (λ (j : ℕ). Item j p 0) u (body C t).entries (subst (λ (o : Opening Task CodePlaces.Place). In u o.tasks) mb.opening_is iu) in
            subst (λ (z : Task). Fa.Finished (code_system C) (ends.Counted p (record { node = n; array = true })) (Datum p (record { node = n; array = true })) z) r.2
            (block_done s C w K wf kn I sc fd ends ex single ff p (record { node = n; array = true }) ar b bs dd ch dd (λ st i. fs st i p (record { node = n; array = true }) ar b bs dd p refl) r.0 r.1 (al r.0 r.1)));
      }

      by : BodyAs C w.layout k b t → Ended p (record { node = n; array = true })
      by (body_as bl mk) =
          let vm : In (record { node = n; array = true }) (body C t).makes = subst (λ (z : Bool). In (record { node = n; array = z }) (body C t).makes) la (mk.declared at m n mem) in
          with_made (record { array = refl; of_layout = la; real = mk.real (record { node = n; array = true }) vm }) (made_by (record { node = n; array = true }) refl op vm)

  no_declare : {k at m n u : ℕ} {hs : List Header} → WaitAs C w.layout k (stmt at m (declare n)) hs u → ⊥
  no_declare h = elim h [ ]

  array_ended : {path : Path} {n at m : ℕ} {b : Block} → Where s C w K wf kn I sc fd path b → stmt at m (declare n) ∈ block_list b → b ∈ script_blocks s → ((st : Stmt) → st ∈ block_list b → Finishes (local n) path st) → EndedAt (path, n)
  array_ended (between x) mem bs fs q v va pe la = absurd (no_declare (subst (λ (z : Stmt). WaitAs C w.layout x.k z x.below x.content) (sym (only_stmt s C w K wf kn I sc mem x.block_is)) x.as_wait))
  array_ended {path} {n} (at_body {p = p} e ch al op) mem bs fs q v va pe la =
      let pq : p ≡ q = path_same p q (e ∙ sym (ap (λ (z : Place). z.0) pe)) in
      let nq : n ≡ v.node = sym (ap (λ (z : Place). z.1) pe) in
      subst (λ (z : Variable). Ended q z) (λ i. record { node = nq i; array = sym va i })
      (subst (λ (z : List Step). Ended z (record { node = n; array = true })) pq
      (ended_here ch al op mem bs (λ st i p0 v0 ar db dbs dd p' e'. fs st i p0 v0 ar db dbs dd p' (e' ∙ e)) (ap w.layout.array nq ∙ la)))

  -- THE HEADERS OF MERGED WAITS
  abbrev HeadersFed : ℕ → List Step → List Header → Type 0
  HeadersFed k p hs = (t : ℕ) (b : Block) → Chain s C w.layout K p t k b → (j : ℕ) → In j (body C t).entries → ((z : Need) → In z (flat_map (λ h. h.needs) hs) → In z (entry C j).needs) → (z : Need) → In z (flat_map (λ h. h.needs) hs) → fd.Fed p z

  own_fed : {k : ℕ} {p : List Step} {at n : ℕ} {ns : List Awaited} {c bb : Block} → InScope s k bb → stmt at n (wait ns c) ∈ block_list bb → ReadyFed s C w K wf kn I sc fd (script_path p) (wait ns c) → (t : ℕ) (b : Block) → Chain s C w.layout K p t k b → (j : ℕ) → In j (body C t).entries
      → (z : Need) → In z (map (awaited_need k) ns) → In z (entry C j).needs → fd.Fed p z
  own_fed {k} {p} {at} {n} {ns} {c} {bb} sp m rf t b ch j there z i h =
      let x = awaited_of s C w K wf kn I sc k ns z i in
      subst (λ (y : Need). fd.Fed p y) (sym x.2) (come_fed s C w K wf kn I sc fd ch j there x.0 (sc.waits k bb at n ns c x.0 sp m x.1) (subst (λ (y : Need). In y (entry C j).needs) x.2 h) (rf x.0 x.1))

  last_fed : {k : ℕ} {p : List Step} {at n : ℕ} {ns : List Awaited} {c bb : Block} {hs : List Header} → InScope s k bb → stmt at n (wait ns c) ∈ block_list bb → ReadyFed s C w K wf kn I sc fd (script_path p) (wait ns c) → hs ≡ header k at ns ∷ [] → HeadersFed k p hs
  last_fed {k} {ns = ns} sp m rf q t b ch j there sub z h =
      elim (in_split z (map (awaited_need k) ns) [] (subst (λ (l : List Header). In z (flat_map (λ h. h.needs) l)) q h)) [ inl i ↦ own_fed sp m rf t b ch j there z i (sub z h) | inr y ↦ absurd y ]

  outer_fed : {k : ℕ} {p : List Step} {at n : ℕ} {ns : List Awaited} {c bb : Block} {gs hs : List Header} → InScope s k bb → stmt at n (wait ns c) ∈ block_list bb → ReadyFed s C w K wf kn I sc fd (script_path p) (wait ns c) → hs ≡ header k at ns ∷ gs → HeadersFed k p gs → HeadersFed k p hs
  outer_fed {k} {ns = ns} {gs = gs} sp m rf q more t b ch j there sub z h =
      elim (in_split z (map (awaited_need k) ns) (flat_map (λ h. h.needs) gs) (subst (λ (l : List Header). In z (flat_map (λ h. h.needs) l)) q h)) [
        | inl i ↦ own_fed sp m rf t b ch j there z i (sub z h)
        | inr i ↦ more t b ch j there (λ z' h'. sub z' (subst (λ (l : List Header). In z' (flat_map (λ h. h.needs) l)) (sym q) (in_right z' (map (awaited_need k) ns) (flat_map (λ h. h.needs) gs) h'))) z i
      ]

  -- THE INDUCTION
  module _ (G : Task → TaskEffect → Type 0) (counts : (j c : ℕ) (p : List Step) (e : TaskEffect) → Live (code_system C) fd.Fact (Item j p c) → fd.Fact (Item j p c) e → G (Item j p c) e)
      (close : (pl : Place) → EndedAt pl → fd.ArrayFed pl) (known : (pl : Place) (u : Scalar) → K (value pl (One u)) → fd.ScalarFed pl)
      (turn : (pl : Place) (u : Scalar) → HasValue s K pl u → (q : List Step) (x : ℕ) → (script_path q, x) ≡ pl → Written (code_system C) G (Datum q (scalar x)) only u → fd.ScalarFed pl) where
    wait_ready : (p : List Step) {path : Path} {ns : List Awaited} (c : Block) → script_path p ≡ path → ReadyFed s C w K wf kn I sc fd path (wait ns c) → ReadyFed s C w K wf kn I sc fd (script_path p) (wait ns c)
    wait_ready p {ns = ns} c e rf = subst (λ (z : Path). ReadyFed s C w K wf kn I sc fd z (wait ns c)) (sym e) rf

    turned : {at x : ℕ} {key : Key} {path : Path} {u : Scalar} → HasValue s K ((at, key) ∷ path, x) u → (p : List Step) × (script_path p ≡ path) × Written (code_system C) G (Datum (step_at at key p) (scalar x)) only u → fd.ScalarFed ((at, key) ∷ path, x)
    turned {at = at} {x = x} {key = key} {u = u} h r = turn _ u h (step_at at key r.0) x (λ i. ((at, key) ∷ r.1 i, x)) r.2

    mutual
      pub live_by : {path : Path} {b : Block} → Mn.Live s K path b → Where s C w K wf kn I sc fd path b
      live_by Mn.script = live_script s C w K wf kn I sc fd
      live_by (Mn.opened lv m r o dp) = opened_from s C w K wf kn I sc fd (live_by lv) m r (ready_by r) o dp
      live_by (Mn.waited lv m r) = waited_from s C w K wf kn I sc fd (live_by lv) m r (ready_by r)
      live_by (Mn.called lv m n fq dp) = called_from s C w K wf kn I sc fd (live_by lv) m n fq dp

      pub ended_by : {pl : Place} → Mn.Closed s K pl → EndedAt pl
      ended_by (Mn.closed lv mem fs o) = array_ended (live_by lv) mem (live_block s lv) (λ st i. finish_by (fs st i))

      ready_by : {path : Path} {a : Action} {vs : List Value} → Ready s K path a vs → ReadyFed s C w K wf kn I sc fd path a
      ready_by (cells_known ks one_way) = tt
      ready_by (cells_known ks two_ways) = tt
      ready_by (cells_known ks (in_turns bq rc)) = tt
      ready_by (source_closed c el) = close _ (ended_by c)
      ready_by (names_known h) = λ x i. come_by (h x i)

      come_by : {path : Path} {x : Awaited} → Come s K path x → ComeFed s C w K wf kn I sc fd path x
      come_by (scalar_known h) = value_by h
      come_by (array_closed c) = close _ (ended_by c)

      pub value_by : {pl : Place} {u : Scalar} → HasValue s K pl u → fd.ScalarFed pl
      value_by (stored {at = pl} {v = u} k) = known pl u k
      value_by (in_turn lv m r o t dp) = turned (in_turn lv m r o t dp) (turn_from s C w K wf kn I sc fd G counts (live_by lv) m o t r (ready_by r) dp)

      finish_by : {what : Owned} {path : Path} {st : Stmt} → Finished s K what path st → Finishes what path st
      finish_by {what} (no_target {st = st} h) p0 v0 ar db dbs dd p e t k b ch m up inv j there lv role = idle_item s C w K wf kn I sc fd ends ex single ff p0 v0 ar db dbs dd j (no_right s C w K wf kn I sc fd ends ex single ff p0 v0 ar db dbs dd ch j there st m role up what inv h)
      finish_by {what} (value_known {c = c} {v = v} kv) p0 v0 ar db dbs dd p e t k b ch m up inv j there lv role =
          fill_done s C w K wf kn I sc fd ends ex single ff p0 v0 ar db dbs dd {what = what} {p = p} {o = c} (subst (λ (z : Path). K (value (z, c.cell.node) v)) (sym e) kv) t k b ch m up inv j there lv role
      finish_by {what} (write_known {n = n} {x = x} {k = key} {v = v} kv) p0 v0 ar db dbs dd p e t k b ch m up inv j there lv role =
          insert_done s C w K wf kn I sc fd ends ex single ff p0 v0 ar db dbs dd {what = what} {p = p} {x = x} {key = key} (subst (λ (z : Path). K (element (place s z x) key (z, n) v)) (sym e) kv) t k b ch m up inv j there lv role
      finish_by {what} (body_finished {c = c} dp f) p0 v0 ar db dbs dd p e t k b ch m up inv j there lv role =
          call_done s C w K wf kn I sc fd ends ex single ff p0 v0 ar db dbs dd {what = what} {p = p} (subst (λ (z : Path). length z < max_path_steps) (sym e) dp) (λ j x st' e' q m'. finish_by (f j x st' e' q m') p0 v0 ar db dbs dd (step_at c.at (Key.Number (pos 0)) p) (λ z. (c.at, Key.Number (pos 0)) ∷ e z)) t k b ch m up inv j there lv role
      finish_by {what} (blocks_finished {at = at} {header = header} {vs = vs} hb r dp f) p0 v0 ar db dbs dd p e t k b ch m up inv j there lv role =
          header_done s C w K wf kn I sc fd ends ex single ff p0 v0 ar db dbs dd {what = what} {p = p} hb (subst (λ (z : Path). Ready s K z header vs) (sym e) r) (subst (λ (z : Path). ReadyFed s C w K wf kn I sc fd z header) (sym e) (ready_by r)) (λ key c o. subst (λ (z : Path). length z < max_path_steps) (sym e) (dp key c o))
          (λ key c o st' m'. finish_by (f key c st' o m') p0 v0 ar db dbs dd (step_at at key p) (λ z. (at, key) ∷ e z)) t k b ch m up inv j there lv role
      finish_by (content_finished {at = at} {n = n} {ns = ns} {b = c} r f) p0 v0 ar db dbs dd p e t k b ch m up inv j there lv (inl po) = idle_item s C w K wf kn I sc fd ends ex single ff p0 v0 ar db dbs dd j (part_no_right s C w K wf kn I sc fd ends ex single ff p0 v0 ar db dbs dd ch j there (stmt at n (wait ns c)) m po (λ c' al. wait_not_alone s C w K wf kn I sc fd ends ex single ff p0 v0 ar db dbs dd al.is))
      finish_by (content_finished r f) p0 v0 ar db dbs dd p e t k b ch m up inv j there lv (inr (own_simple z en nd)) = absurd z
      finish_by (content_finished {at = at} {n = n} {ns = ns} {b = c} r f) p0 v0 ar db dbs dd p e t k b ch m up inv j there lv (inr (own_wait (one_wait ba q) en)) =
          wait_done s C w K wf kn I sc fd ends ex single ff p0 v0 ar db dbs dd (stmt at n (wait ns c)) ch m j there lv en.needs_is en.act_is up
          (record { content = c; waited = one_ready (subst (λ (z : Path). Ready s K z (wait ns c) []) (sym e) r); ready = last_ready (subst (λ (z : Path). Ready s K z (wait ns c) []) (sym e) r) q; stands = ba; fed = last_fed (chain_scope s C w.layout K wf.names I sc ch) m (wait_ready p c e (ready_by r)) q; every = in_wait_block s C w K wf kn I sc fd ends ex single ff p0 v0 ar db dbs dd (in_script s C w K wf kn I sc fd ends ex single ff p0 v0 ar db dbs dd ch) inv m; each_done = λ st' m'. finish_by (f st' m') p0 v0 ar db dbs dd p e })
      finish_by {what} (content_finished {at = at} {n = n} {ns = ns} r f) p0 v0 ar db dbs dd p e t k b ch m up inv j there lv (inr (own_wait (merged {st = st'} wa q) en)) =
          elim (wait_by wa (f st' first) p0 v0 ar db dbs dd p e first (inner_block s (in_script s C w K wf kn I sc fd ends ex single ff p0 v0 ar db dbs dd ch) m first) (in_wait (chain_scope s C w.layout K wf.names I sc ch) m) up (in_wait_block s C w K wf kn I sc fd ends ex single ff p0 v0 ar db dbs dd (in_script s C w K wf kn I sc fd ends ex single ff p0 v0 ar db dbs dd ch) inv m)) [
            | inl z ↦ idle_item s C w K wf kn I sc fd ends ex single ff p0 v0 ar db dbs dd j (no_right s C w K wf kn I sc fd ends ex single ff p0 v0 ar db dbs dd ch j there (stmt at n (wait ns (stmts st' no_stmts))) m (inr (own_wait (merged wa q) en)) up what inv (λ tg. z (only_target s C w K wf kn I sc fd ends ex single ff p0 v0 ar db dbs dd st' tg)))
            | inr z ↦ wait_done s C w K wf kn I sc fd ends ex single ff p0 v0 ar db dbs dd (stmt at n (wait ns (stmts st' no_stmts))) ch m j there lv en.needs_is en.act_is up (record { content = z.content; waited = more_ready (subst (λ (y : Path). Ready s K y (wait ns (stmts st' no_stmts)) []) (sym e) r) z.waited; ready = outer_ready (subst (λ (y : Path). Ready s K y (wait ns (stmts st' no_stmts)) []) (sym e) r) q z.ready; stands = z.stands; fed = outer_fed (chain_scope s C w.layout K wf.names I sc ch) m (wait_ready p (stmts st' no_stmts) e (ready_by r)) q z.fed; every = z.every; each_done = z.each_done })
          ]

      wait_by : {what : Owned} {path : Path} {st : Stmt} {k u : ℕ} {hs : List Header} {b : Block} → WaitAs C w.layout k st hs u → Finished s K what path st → (p0 : List Step) (v0 : Variable) (ar : IsArrayAt s C w K wf I sc v0) (db : Block) (dbs : db ∈ script_blocks s) (dd : Declares db (local v0.node)) (p : List Step) → script_path p ≡ path
          → st ∈ block_list b → b ∈ script_blocks s → InScope s k b → (up : ℕ) → Every s C w K wf kn I sc fd ends ex single ff p0 v0 ar db dbs dd p b up what → (IsTarget what st → ⊥) ⊎ WaitEnd s C w K wf kn I sc fd ends ex single ff p0 v0 ar db dbs dd what p k u up st hs
      wait_by wa (no_target h) p0 v0 ar db dbs dd p e m bs sp up inv = inl h
      wait_by wa (blocks_finished hb r dp f) p0 v0 ar db dbs dd p e m bs sp up inv = absurd (no_branch s C w K wf kn I sc fd ends ex single ff p0 v0 ar db dbs dd wa hb)
      wait_by wa (value_known kv) p0 v0 ar db dbs dd p e m bs sp up inv = elim wa [ ]
      wait_by wa (write_known kv) p0 v0 ar db dbs dd p e m bs sp up inv = elim wa [ ]
      wait_by wa (body_finished dp f) p0 v0 ar db dbs dd p e m bs sp up inv = elim wa [ ]
      wait_by (one_wait {ns = ns} {b = c} ba q) (content_finished r f) p0 v0 ar db dbs dd p e m bs sp up inv =
          inr (record { content = c; waited = one_ready (subst (λ (z : Path). Ready s K z (wait ns c) []) (sym e) r); ready = last_ready (subst (λ (z : Path). Ready s K z (wait ns c) []) (sym e) r) q; stands = ba; fed = last_fed sp m (wait_ready p c e (ready_by r)) q; every = in_wait_block s C w K wf kn I sc fd ends ex single ff p0 v0 ar db dbs dd bs inv m; each_done = λ st' m'. finish_by (f st' m') p0 v0 ar db dbs dd p e })
      wait_by (merged {ns = ns} {st = st'} wa q) (content_finished r f) p0 v0 ar db dbs dd p e m bs sp up inv =
          elim (wait_by wa (f st' first) p0 v0 ar db dbs dd p e first (inner_block s bs m first) (in_wait sp m) up (in_wait_block s C w K wf kn I sc fd ends ex single ff p0 v0 ar db dbs dd bs inv m)) [
            | inl z ↦ inl (λ tg. z (only_target s C w K wf kn I sc fd ends ex single ff p0 v0 ar db dbs dd st' tg))
            | inr z ↦ inr (record { content = z.content; waited = more_ready (subst (λ (y : Path). Ready s K y (wait ns (stmts st' no_stmts)) []) (sym e) r) z.waited; ready = outer_ready (subst (λ (y : Path). Ready s K y (wait ns (stmts st' no_stmts)) []) (sym e) r) q z.ready; stands = z.stands; fed = outer_fed sp m (wait_ready p (stmts st' no_stmts) e (ready_by r)) q z.fed; every = z.every; each_done = z.each_done })
          ]
