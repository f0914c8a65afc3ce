-- What a loop's variables are in a turn, the code stores, where each item whose needs are fed has its fact; so it does by the script's answers.
use Rattle.std.proofs.Common.{◌≡◌, inl, inr, ℕ, List, [], ◌∷◌, refl, sym, ap, ◌∙◌, subst, Option, Some}
use Rattle.std.specs.Prelude.{◌<◌, ℤ, length}
use Rattle.std.specs.List.{flat_map}
use Rattle.dataflow.specs.System.{In, Write, Effect}
use Rattle.dataflow.specs.Facts.{Live, Written}
use Rattle.dataflow.proofs.Lists.{in_left, in_right}
use Rattle.values.specs.declared.key.Key.{Key}
use Rattle.values.specs.declared.value.Scalar.{Scalar}
use Rattle.values.specs.declared.value.Scalar.TheVariants.{Number}
use Rattle.values.specs.declared.value.Value.{Value}
use Rattle.values.specs.Ranges.{value_in}
use Rattle.language.specs.Core.{Stmt, stmt, Action, Block, Core}
use Rattle.language.specs.Facts.{Knowledge}
use Rattle.language.specs.Meaning.{in_block, Ready}
use Rattle.language.specs.Members.{◌∈◌}
use Rattle.language.specs.Parts.{block_list}
use Rattle.language.specs.Openings.{Bounds, Opens, then_alone, then_first, else_second, turn, item, InTurn, range_value, range_turn, each_value, each_key}
use Rattle.language.specs.Places.{Path, Place, max_path_steps}
use Rattle.language.specs.WellFormed.{WellFormed}
use Rattle.task_code.specs.Code as code
use Rattle.task_code.specs.Code.{Variable, Act, Loop, Code, entry, body, loop_of, scalar}
use Rattle.task_code.specs.Compute.{Computed, Turns, key_scalar}
use Rattle.task_code.specs.Effects.{Task, Item, only, effect_at, stores, bound, turn_bound, chunk, turns_of, step_at}
use Rattle.task_code.specs.Places.{Step, Datum}
use Rattle.task_code.specs.Places as CodePlaces
use Rattle.task_code.specs.System.{code_system}
use Rattle.task_code.specs.Whole.{IsCode}
use Rattle.task_code.proofs.Opens.{some_same}
use Rattle.headline.specs.Headline.{script_path}
use Rattle.headline.specs.Backs.{Backs}
use Rattle.headline.specs.Inclusions.{Facts}
use Rattle.language_laws.specs.Scoped.{Scoped}
use Rattle.code_rules.specs.IsCodeOf.{WaitAs, StmtAs, IsCodeOf}
use Rattle.headline.specs.Chains.{Chain}
use Rattle.headline.proofs.HeaderWorks.{opens_no_wait, only_stmt, found_body, some_bounds}
use Rattle.headline.proofs.LiveBy.{Feed, Where, at_body, between, ReadyFed, AllAlive, LoopRun, range_run, each_run}
use Rattle.headline.proofs.LiveFrom.{by_answers, no_need, live_from}
use Rattle.headline.proofs.Means.{chain_body}
use Rattle.headline.proofs.WrittenFrom.{path_same, TurnsStored}
use Rattle.language_accepted.proofs.Values.{key_same}

-- what a loop stores are its turns' variables
pub loop_stores : (C : Code) (a : Act) (l : Loop) (node offset : ℕ) (p : List Step) (c : ℕ) (x : Computed) → loop_of a ≡ Some l → stores C a node offset p c x ≡ flat_map (bound l offset p) (chunk c (turns_of x))
loop_stores C (code.Range lo h s v) l node offset p c x e = ap (λ (z : Loop). flat_map (bound z offset p) (chunk c (turns_of x))) (some_same e)
loop_stores C (code.Each v) l node offset p c x e = ap (λ (z : Loop). flat_map (bound z offset p) (chunk c (turns_of x))) (some_same e)
loop_stores C (code.Cell y) l node offset p c x e = absurd (cc)
loop_stores C code.Read l node offset p c x e = absurd (cc)
loop_stores C (code.Call b rs os) l node offset p c x e = absurd (cc)
loop_stores C (code.Set t y) l node offset p c x e = absurd (cc)
loop_stores C (code.Fill t es) l node offset p c x e = absurd (cc)
loop_stores C (code.Copy t) l node offset p c x e = absurd (cc)
loop_stores C (code.InsertElement t i y) l node offset p c x e = absurd (cc)
loop_stores C (code.Print y) l node offset p c x e = absurd (cc)
loop_stores C (code.Assert y) l node offset p c x e = absurd (cc)
loop_stores C (code.If y b d) l node offset p c x e = absurd (cc)
loop_stores C (code.Wait hs b) l node offset p c x e = absurd (cc)

in_flat : {A B : Type 0} (f : A → List B) (x : A) (y : B) (xs : List A) → In x xs → In y (f x) → In y (flat_map f xs)
in_flat f x y [] h i = absurd h
in_flat f x y (z ∷ xs) (inl e) i = in_left y (f z) (flat_map f xs) (subst (λ u. In y (f u)) e i)
in_flat f x y (z ∷ xs) (inr h) i = in_right y (f z) (flat_map f xs) (in_flat f x y xs h i)

module _ (s : Core) (C : Code) (w : IsCodeOf s C) (K : Knowledge) (wf : WellFormed s) (kn : Backs s K) (I : IsCode C) (sc : Scoped s) (fd : Feed s C w K wf kn I sc) (G : Task → Effect Task CodePlaces.Place Key Scalar → Type 0)
    (counts : (j c : ℕ) (p : List Step) (e : Effect Task CodePlaces.Place Key Scalar) → Live (code_system C) fd.Fact (Item j p c) → fd.Fact (Item j p c) e → G (Item j p c) e) where
  abbrev pub StoredIn : List Step → Variable → Scalar → Type 0
  StoredIn p v u = Written (code_system C) G (Datum p v) only u

  -- a turn's variables are stored
  module _ {p : List Step} {t k at x : ℕ} {y : Option ℕ} {d : Block} {u : Key × Scalar} (run : LoopRun s C w K wf kn I sc fd p t k at x y d u) where
    loop_write : {q : List Step} {v : Variable} {val : Scalar} → In (record { place = Datum q v; key = only; value = val }) (bound (record { body = run.content; value = x; turn = y }) (entry C run.number).offset p u) → StoredIn q v val
    loop_write {q} {v} {val} h = record {
      task = Item run.number p run.chunk_number;
      effect = effect_at C run.number p run.chunk_number (Turns run.turns);
      fact = counts run.number run.chunk_number p _ run.alive run.fact;
      write = subst (λ (l : List (Write CodePlaces.Place Key Scalar)). In (record { place = Datum q v; key = only; value = val }) l)
          (sym (loop_stores C (entry C run.number).act _ (entry C run.number).node (entry C run.number).offset p run.chunk_number (Turns run.turns) run.loops))
          (in_flat (bound (record { body = run.content; value = x; turn = y }) (entry C run.number).offset p) u _ (chunk run.chunk_number run.turns) run.in_chunk h);
    }

    value_stored : StoredIn (step_at at u.0 p) (scalar x) u.1
    value_stored = subst (λ (m : ℕ). StoredIn (step_at m u.0 p) (scalar x) u.1) run.offset_is (loop_write (inl refl))

    turn_stored : {n : ℕ} → y ≡ Some n → StoredIn (step_at at u.0 p) (scalar n) (key_scalar u.0)
    turn_stored {n} e =
        subst (λ (m : ℕ). StoredIn (step_at m u.0 p) (scalar n) (key_scalar u.0)) run.offset_is
        (loop_write (inr (subst (λ (o : Option ℕ). In (record { place = Datum (step_at (entry C run.number).offset u.0 p) (scalar n); key = only; value = key_scalar u.0 }) (turn_bound o (step_at (entry C run.number).offset u.0 p) u.0)) (sym e) (inl refl))))

  stored_turn : {p : List Step} {t k : ℕ} {b : Block} (ch : Chain s C w.layout K p t k b) → AllAlive s C w K wf kn I sc fd p t → {at n x : ℕ} {a : Action} {vs : List Value} {key : Key} {c : Block} {u : Scalar} {js : List ℕ} → stmt at n a ∈ block_list b → StmtAs C w.layout k (stmt at n a) js
      → ((j : ℕ) → In j js → In j (body C t).entries) → Opens a vs key c → InTurn a vs key x u → Ready s K (script_path p) a vs → ReadyFed s C w K wf kn I sc fd (script_path p) a → length (script_path p) < max_path_steps → StoredIn (step_at at key p) (scalar x) u
  stored_turn {p} ch al {at = at} m sa sub (turn {st = st} {r = r} {i = i} bq rc lt) (range_value {x = x} {r = r'} {v = v} bq' e) rd rf dp =
      let same : r ≡ r' = some_bounds (sym bq ∙ bq') in
      let run = range_run s C w K wf kn I sc fd ch al st m sa sub rd bq rc lt dp in
      subst (λ (z : Scalar). StoredIn (step_at at (Key.Number (ℤ.pos i)) p) (scalar x) z) (ap (λ (z : Bounds). Number (value_in z.low z.step i)) same ∙ sym e) (value_stored run)
  stored_turn {p} ch al {at = at} m sa sub (turn {st = st} {i = i} bq rc lt) (range_turn {t = t} e) rd rf dp =
      let run = range_run s C w K wf kn I sc fd ch al st m sa sub rd bq rc lt dp in
      subst (λ (z : Scalar). StoredIn (step_at at (Key.Number (ℤ.pos i)) p) (scalar t) z) (key_same (Key.Number (ℤ.pos i)) ∙ sym e) (turn_stored run refl)
  stored_turn ch al m sa sub (item i) (each_value i') rd rf dp = value_stored (each_run s C w K wf kn I sc fd ch al m sa sub rd rf i' dp)
  stored_turn {p} ch al {at = at} m sa sub (item {k = k} i) (each_key {t = t} e) rd rf dp =
      subst (λ (z : Scalar). StoredIn (step_at at k p) (scalar t) z) (key_same k ∙ sym e) (turn_stored (each_run s C w K wf kn I sc fd ch al m sa sub rd rf i dp) refl)
  stored_turn ch al m sa sub then_alone tn rd rf dp = elim tn [ ]
  stored_turn ch al m sa sub then_first tn rd rf dp = elim tn [ ]
  stored_turn ch al m sa sub else_second tn rd rf dp = elim tn [ ]

  -- a loop variable of a live block is stored
  pub turn_from : {path : Path} {b : Block} → Where s C w K wf kn I sc fd path b → {at n x : ℕ} {a : Action} {vs : List Value} {key : Key} {c : Block} {u : Scalar} → stmt at n a ∈ block_list b → Opens a vs key c → InTurn a vs key x u → Ready s K path a vs → ReadyFed s C w K wf kn I sc fd path a
      → length path < max_path_steps → (p : List Step) × (script_path p ≡ path) × StoredIn (step_at at key p) (scalar x) u
  turn_from (at_body {p = p} e ch al op) {a = a} {vs = vs} m o tn rd rf dp =
      let f = found_body s C w K wf kn I sc (chain_body s C w.layout K wf.names I sc ch) m in
      (p, e, stored_turn ch al m f.as_stmt f.among o tn (subst (λ (z : Path). Ready s K z a vs) (sym e) rd) (subst (λ (z : Path). ReadyFed s C w K wf kn I sc fd z a) (sym e) rf) (subst (λ (z : Path). length z < max_path_steps) (sym e) dp))
  turn_from (between x) m o tn rd rf dp = absurd (opens_no_wait s C w K wf kn I sc (subst (λ (z : Stmt). WaitAs C w.layout x.k z x.below x.content) (sym (only_stmt s C w K wf kn I sc m x.block_is)) x.as_wait) o)

module _ (s : Core) (C : Code) (w : IsCodeOf s C) (K : Knowledge) (wf : WellFormed s) (kn : Backs s K) (I : IsCode C) (sc : Scoped s) where
  -- LOOP VARIABLES ARE STORED, by the script's answers
  pub turns_stored : TurnsStored s C w K wf kn I sc
  turns_stored p v u at n x header path vs key b va (in_block lv m) rd o tn dp q =
      let h = turn_from s C w K wf kn I sc (by_answers s C w K wf kn I sc) (Facts s C K) (λ j c p e l f. record { live = l; reading = f }) (live_from s C w K wf kn I sc lv) m o tn rd (no_need s C w K wf kn I sc path header) dp in
      let same_path : step_at at key h.0 ≡ p = path_same (step_at at key h.0) p (ap (λ (z : Path). (at, key) ∷ z) h.1 ∙ sym (ap (λ (z : Place). z.0) q)) in
      let same_node : x ≡ v.node = sym (ap (λ (z : Place). z.1) q) in
      subst (λ (z : CodePlaces.Place). Written (code_system C) (Facts s C K) z only u) (λ i. Datum (same_path i) (record { node = same_node i; array = sym va i })) h.2
