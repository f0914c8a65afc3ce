-- All that the code writes, by the script's answers, the script knows; and an array's key has one task that writes it.
use Rattle.std.proofs.Common.{◌≡◌, ◌⊎◌, inl, inr, ℕ, Bool, true, false, List, [], ◌∷◌, refl, sym, ap, ◌∙◌, subst, Option, Some, None}
use Rattle.dataflow.specs.System.{In, Write, Effect}
use Rattle.dataflow.specs.Facts.{Written, Live, live_main, live_opened}
use Rattle.dataflow.specs.Laws.{Can}
use Rattle.values.specs.declared.key.Key.{Key}
use Rattle.values.specs.declared.value.Scalar.{Scalar}
use Rattle.language.specs.Core as Co
use Rattle.language.specs.Core.{Name, Stmt, stmt, Action, Block, Core}
use Rattle.language.specs.Facts.{element, Knowledge}
use Rattle.language.specs.Members.{◌∈◌, first}
use Rattle.language.specs.Parts.{block_list}
use Rattle.language.specs.Places.{Place}
use Rattle.language.specs.WellFormed.{WellFormed}
use Rattle.task_code.specs.Code as code
use Rattle.task_code.specs.Code.{Variable, Act, Loop, Code, entry, body, scalar, loop_of}
use Rattle.task_code.specs.Compute as Compute
use Rattle.task_code.specs.Compute.{Computed, Turns}
use Rattle.task_code.specs.Effects.{Task, Main, Item, stores, stored_at, bound, turn_bound, chunk, turns_of, step_at, block}
use Rattle.task_code.specs.Places.{Step, Datum, place_at}
use Rattle.task_code.specs.Places as CodePlaces
use Rattle.task_code.specs.System.{answered, code_system}
use Rattle.task_code.specs.Whole.{IsCode}
use Rattle.task_code.proofs.Kept.{code_laws}
use Rattle.task_code.proofs.Opens as Op
use Rattle.task_code.proofs.Opens.{effect_is, opened, in_rest}
use Rattle.task_code.proofs.Places.{declared_at, spot_path, spot_variable, not_constant}
use Rattle.task_code.proofs.Rights.{in_gather}
use Rattle.headline.specs.Headline.{script_path, script_place}
use Rattle.headline.specs.Answered.{Reading}
use Rattle.headline.specs.Knows as Know
use Rattle.headline.specs.Inclusions.{Facts, WrittenTo, ArraysOnce}
use Rattle.headline.specs.Chains.{Answers, Chain, Stands, same, plain, constant}
use Rattle.code_rules.specs.CodeNames.{name_as, wanted, over, each_once}
use Rattle.code_rules.specs.NodesOnce.{NodesOnce, TellsNode}
use Rattle.language_laws.specs.Scoped.{Scoped}
use Rattle.code_rules.specs.IsCodeOf.{own_needs, own_priority, simple_act, IsSimple, IsEntry, PartAs, plain_literal, plain_name, a_cell, a_read, a_call, BodyAs, body_as, IsCodeOf}
use Rattle.language_laws.specs.TypedValues.{TypedValues}
use Rattle.headline.proofs.LiveTo.{Fact, ItemLive, live_to, good_in, in_one}
use Rattle.headline.proofs.Means.{chain_body, chain_scope, means, covering_writes}
use Rattle.headline.proofs.Roles.{PartOf, OwnAs, own_of, own_simple, own_branch, own_branches, own_range, own_each, own_wait, RoleIn, find_role}
use Rattle.headline.proofs.Transfer.{reading_valid}
use Rattle.headline.proofs.TurnsFrom.{loop_stores}
use Rattle.headline.proofs.WritesTo.{OwnWrite, own_ours, fill_written, put_written, each_written, range_written}
use Rattle.headline.proofs.WrittenFrom.{path_same}
use Rattle.headline.proofs.WrittenTo.{IsKnown, cell_written, read_written, assign_written}

-- a write at a scalar
abbrev pub AtScalar : Write CodePlaces.Place Key Scalar → Type 0
AtScalar x = (q : List Step) × (v : Variable) × (x.place ≡ Datum q v) × (v.array ≡ false)

stored_place : (d : CodePlaces.Place) (X : Computed) (x : Write CodePlaces.Place Key Scalar) → In x (stored_at d X) → x.place ≡ d
stored_place d (Compute.Gives v) x (inl e) = ap (λ (z : Write CodePlaces.Place Key Scalar). z.place) e
stored_place d (Compute.Gives v) x (inr z) = absurd z
stored_place d (Compute.Fails f) x h = absurd h
stored_place d (Compute.Inserts xs) x h = absurd h
stored_place d (Compute.Takes b) x h = absurd h
stored_place d (Turns ts) x h = absurd h
stored_place d Compute.Opens x h = absurd h

pub bound_place : (lp : Loop) (offset : ℕ) (p : List Step) (u : Key × Scalar) (x : Write CodePlaces.Place Key Scalar) → In x (bound lp offset p u) → AtScalar x
bound_place lp offset p u x (inl e) = (step_at offset u.0 p, scalar lp.value, ap (λ (z : Write CodePlaces.Place Key Scalar). z.place) e, refl)
bound_place lp offset p u x (inr h) = by lp.turn h
  where
    by : (o : Option ℕ) → In x (turn_bound o (step_at offset u.0 p) u.0) → AtScalar x
    by None h = absurd h
    by (Some n) (inl e) = (step_at offset u.0 p, scalar n, ap (λ (z : Write CodePlaces.Place Key Scalar). z.place) e, refl)
    by (Some n) (inr h) = absurd h

item_parts : {i j c c' : ℕ} {p q : List Step} → Item i p c ≡ Item j q c' → (i ≡ j) × (p ≡ q) × (c ≡ c')
item_parts h = (cc (h), cc (h), cc (h))

none_some : {A B : Type 0} {x : A} {o : Option A} → o ≡ None → o ≡ Some x → B
none_some h g = let z = sym h ∙ g in absurd (cc (z))

module _ (s : Core) (C : Code) (w : IsCodeOf s C) (K : Knowledge) (wf : WellFormed s) (kn : Know.Knows s K) (I : IsCode C) (sc : Scoped s) (ty : TypedValues s K) where
  abbrev IsOurs : Write CodePlaces.Place Key Scalar → Type 0
  IsOurs x = IsKnown s C w K wf kn I sc ty x

  -- a name of a scalar means a scalar
  stands_kind : {d : Bool} {a : CodePlaces.Place} {pl : Place} → Stands s C w.layout K d a pl → (q : List Step) (v : Variable) → a ≡ Datum q v → v.array ≡ d
  stands_kind (same {p = p} {v = x}) q v e = sym (ap (λ (z : Variable). z.array) (spot_variable e))
  stands_kind (plain live i pl st) q v e = stands_kind st q v e
  stands_kind (constant live i pl) q v e = absurd (not_constant e)

  module _ {p : List Step} {t k : ℕ} {b : Block} (ch : Chain s C w.layout K p t k b) (i c : ℕ) (there : In i (body C t).entries) (e : Effect Task CodePlaces.Place Key Scalar) (f : Fact s C w K wf kn I sc ty (Item i p c) e) where
    abbrev StoresAs : Act → Write CodePlaces.Place Key Scalar → Type 0
    StoresAs a x = In x (stores C a (entry C i).node (entry C i).offset p c (Compute.compute a (answered C p (entry C i).needs f.answers)))

    -- an array's element, with its writer, or a scalar's value
    abbrev pub WriteOf : Write CodePlaces.Place Key Scalar → Type 0
    WriteOf x = OwnWrite s C w K wf kn I sc ty ch i c there e f x ⊎ (IsOurs x × AtScalar x)

    at_node : (x : Write CodePlaces.Place Key Scalar) → x.place ≡ place_at C p (code.here (scalar (entry C i).node)) → AtScalar x
    at_node x h = (p, scalar (entry C i).node, h ∙ declared_at C p (scalar (entry C i).node), refl)

    at_turn : (lp : Loop) → loop_of (entry C i).act ≡ Some lp → (x : Write CodePlaces.Place Key Scalar) → StoresAs (entry C i).act x → AtScalar x
    at_turn lp q x h =
        let X = Compute.compute (entry C i).act (answered C p (entry C i).needs f.answers) in
        let r = in_gather C (bound lp (entry C i).offset p) (chunk c (turns_of X)) x (subst (λ (l : List (Write CodePlaces.Place Key Scalar)). In x l) (loop_stores C (entry C i).act lp (entry C i).node (entry C i).offset p c X q) h) in
        bound_place lp (entry C i).offset p r.0 x r.2

    part_writes : (x : Write CodePlaces.Place Key Scalar) → StoresAs (entry C i).act x → (st : Stmt) → st ∈ block_list b → PartOf C w.layout k st i → WriteOf x
    part_writes x h (stmt at' m a) sm po = by po.as_part po.there po.in_own
      where
        by : {y : Co.Part} {js : List ℕ} → PartAs C w.layout k po.all po.at po.priority y js → In i js → y ∈ own_of (stmt at' m a) → WriteOf x
        by (plain_literal z) j v = absurd j
        by (plain_name z) j v = absurd j
        by (a_cell {n = n} {j = j'} {e = ex} z nd en) j v =
            let q = sym (in_one i j' j) in
            let en' = subst (λ (u : ℕ). IsEntry (entry C u) po.at po.priority (each_once (wanted k ex)) (code.Cell (over k (each_once (wanted k ex)) ex))) q en in
            inr (cell_written s C w K wf kn I sc ty ch i c there e f sm v (ap (λ (u : ℕ). (entry C u).node) (sym q) ∙ nd) en' x h, at_node x (stored_place (place_at C p (code.here (scalar (entry C i).node))) (Compute.compute (code.Cell (over k (each_once (wanted k ex)) ex)) (answered C p (entry C i).needs f.answers)) x (subst (λ (u : Act). StoresAs u x) en'.act_is h)))
        by (a_read {n = n} {j = j'} {need = need} z nd ix en) j v =
            let q = sym (in_one i j' j) in
            let en' = subst (λ (u : ℕ). IsEntry (entry C u) po.at po.priority (need ∷ []) code.Read) q en in
            inr (read_written s C w K wf kn I sc ty ch i c there e f sm v po.cells_in (ap (λ (u : ℕ). (entry C u).node) (sym q) ∙ nd) ix en' x h, at_node x (stored_place (place_at C p (code.here (scalar (entry C i).node))) (Compute.compute code.Read (answered C p (entry C i).needs f.answers)) x (subst (λ (u : Act). StoresAs u x) en'.act_is h)))
        by (a_call {c = d} {j = j'} ca) j v = absurd (subst (λ (u : Act). StoresAs u x) (ap (λ (u : ℕ). (entry C u).act) (in_one i j' j) ∙ ca.is.act_is) h)

    simple_writes : (x : Write CodePlaces.Place Key Scalar) → StoresAs (entry C i).act x → {at n : ℕ} (a : Action) → stmt at n a ∈ block_list b → IsSimple a → IsEntry (entry C i) at (own_priority a) (own_needs w.layout k a) (simple_act w.layout k (own_needs w.layout k a) a) → (entry C i).node ≡ n → WriteOf x
    simple_writes x h {at} {n} (Co.assign y o) sm z en nd =
        let r = assign_written s C w K wf kn I sc ty ch i c there e f sm en x h in
        let right : In (name_as k false y) (entry C i).writes = I.stores i (name_as k false y) (subst (λ (u : Act). In (name_as k false y) (code.targets_of (entry C i).node u)) (sym en.act_is) (inl refl)) in
        let scp = sc.statements k b (stmt at n (Co.assign y o)) (chain_scope s C w.layout K wf.names I sc ch) sm in
        let st = means s C w.layout K wf.names I sc (λ u. u.writes) (covering_writes s C w.layout K wf.names I sc) ch i there false y right (scp.in_targets y first) in
        let pq = stored_place _ _ x (subst (λ (u : Act). StoresAs u x) en.act_is h) in
        inr (r, (r.0, r.1, r.2, stands_kind st r.0 r.1 (sym pq ∙ r.2)))
    simple_writes x h (Co.fill y o) sm z en nd = inl (fill_written s C w K wf kn I sc ty ch i c there e f y o sm en nd x h)
    simple_writes x h (Co.insert y ix o) sm z en nd = inl (put_written s C w K wf kn I sc ty ch i c there e f y ix o sm _ refl en nd x h)
    simple_writes x h (Co.print y o) sm z en nd = absurd (subst (λ (u : Act). StoresAs u x) en.act_is h)
    simple_writes x h (Co.assert y o) sm z en nd = absurd (subst (λ (u : Act). StoresAs u x) en.act_is h)
    simple_writes x h (Co.declare v) sm z en nd = absurd z
    simple_writes x h (Co.call_alone u v o) sm z en nd = absurd z
    simple_writes x h (Co.when u v) sm z en nd = absurd z
    simple_writes x h (Co.choose u v o) sm z en nd = absurd z
    simple_writes x h (Co.range u v o d l m) sm z en nd = absurd z
    simple_writes x h (Co.each u v o d) sm z en nd = absurd z
    simple_writes x h (Co.wait u v) sm z en nd = absurd z

    own_writes : (x : Write CodePlaces.Place Key Scalar) → StoresAs (entry C i).act x → (st : Stmt) → st ∈ block_list b → OwnAs C w.layout k st i → WriteOf x
    own_writes x h st sm (own_simple {a = a} z en nd) = simple_writes x h a sm z en nd
    own_writes x h st sm (own_branch en mk ba) = absurd (subst (λ (u : Act). StoresAs u x) en.act_is h)
    own_writes x h st sm (own_branches en mk ba bb) = absurd (subst (λ (u : Act). StoresAs u x) en.act_is h)
    own_writes x h st sm (own_range en mk ba) = inr (range_written s C w K wf kn I sc ty ch i c there e f sm _ refl en mk x h, at_turn _ (ap loop_of en.act_is) x h)
    own_writes x h st sm (own_each en mk ba) = inr (each_written s C w K wf kn I sc ty ch i c there e f sm en mk x h, at_turn _ (ap loop_of en.act_is) x h)
    own_writes x h st sm (own_wait wa en) = absurd (subst (λ (u : Act). StoresAs u x) en.act_is h)

  -- what an entry of a live block stores
  entry_writes : {p : List Step} {t k : ℕ} {b : Block} (ch : Chain s C w.layout K p t k b) (i c : ℕ) (there : In i (body C t).entries) (e : Effect Task CodePlaces.Place Key Scalar) (f : Fact s C w K wf kn I sc ty (Item i p c) e) (x : Write CodePlaces.Place Key Scalar)
      → In x (stores C (entry C i).act (entry C i).node (entry C i).offset p c (Compute.compute (entry C i).act (answered C p (entry C i).needs f.answers))) → WriteOf ch i c there e f x
  entry_writes {t = t} {k = k} {b = b} ch i c there e f x h = by_body (chain_body s C w.layout K wf.names I sc ch)
    where
      by_role : RoleIn C w.layout k b i → WriteOf ch i c there e f x
      by_role r = elim r.role [ inl po ↦ part_writes ch i c there e f x h r.st r.there po | inr ow ↦ own_writes ch i c there e f x h r.st r.there ow ]

      by_body : BodyAs C w.layout k b t → WriteOf ch i c there e f x
      by_body (body_as bl mk) = by_role (find_role C w.layout bl there)

  -- a write of a live task, by its item
  record ItemWrites (u : Task) (x : Write CodePlaces.Place Key Scalar) : Type 0 where
    item : ItemLive s C w K wf kn I sc ty u
    effect : Effect Task CodePlaces.Place Key Scalar
    live : Live (code_system C) (Reading (code_system C) (Answers s K)) (Item item.number item.path item.chunk)
    fact : Fact s C w K wf kn I sc ty (Item item.number item.path item.chunk) effect
    write : WriteOf item.chain item.number item.chunk item.there effect fact x

  item_writes : (a : CodePlaces.Place) (key : Key) (v : Scalar) (wr : Written (code_system C) (Facts s C K) a key v) → ItemWrites wr.task (record { place = a; key = key; value = v })
  item_writes a key v wr = elim (live_to s C w K wf kn I sc ty (wr.fact).live) [ inl q ↦ absurd (main_case q) | inr x ↦ item_case x ]
    where
      main_case : wr.task ≡ Main → ⊥
      main_case q =
          subst (λ (z : Effect Task CodePlaces.Place Key Scalar). In (record { place = a; key = key; value = v }) z.writes)
          (sym (good_in (ap (λ (z : Task). (code_system C).effect z ((wr.fact).reading).answers) (sym q) ∙ ((wr.fact).reading).is))) wr.write

      item_case : (x : ItemLive s C w K wf kn I sc ty wr.task) → ItemWrites wr.task (record { place = a; key = key; value = v })
      item_case x =
          let lv = subst (λ (z : Task). Live (code_system C) (Reading (code_system C) (Answers s K)) z) (sym x.is) (wr.fact).live in
          let f = subst (λ (z : Task). Fact s C w K wf kn I sc ty z wr.effect) (sym x.is) (wr.fact).reading in
          let can : Can (code_system C) (Item x.number x.path x.chunk) wr.effect = record { answers = f.answers; is = f.is; valid = reading_valid (code_system C) (code_laws C I) (Answers s K) lv } in
          let h = subst (λ (z : Effect Task CodePlaces.Place Key Scalar). In (record { place = a; key = key; value = v }) z.writes) (sym (effect_is C x.number x.chunk x.path wr.effect can)) wr.write in
          record { item = x; effect = wr.effect; live = lv; fact = f; write = entry_writes x.chain x.number x.chunk x.there wr.effect f (record { place = a; key = key; value = v }) h }

  -- WHAT THE CODE WRITES, THE SCRIPT KNOWS
  pub written_to : WrittenTo s C K
  written_to a key v wr =
      let r = item_writes a key v wr in
      elim r.write [ inl o ↦ own_ours s C w K wf kn I sc ty (r.item).chain (r.item).number (r.item).chunk (r.item).there r.effect r.fact _ o | inr o ↦ o.0 ]

  -- only a loop has a second chunk
  abbrev Chunked : ℕ → ℕ → Type 0
  Chunked i c = (c ≡ 0) ⊎ ((lp : Loop) × (loop_of (entry C i).act ≡ Some lp))

  pub first_chunk : (u : Task) → Live (code_system C) (Reading (code_system C) (Answers s K)) u → (i c : ℕ) (p : List Step) → u ≡ Item i p c → Chunked i c
  first_chunk u live_main i c p q = absurd (cc (q))
  first_chunk u (live_opened t u' e o lv f io iu) i c p q = by t lv f
    where
      by : (t : Task) → Live (code_system C) (Reading (code_system C) (Answers s K)) t → Fact s C w K wf kn I sc ty t e → Chunked i c
      by Main lv f =
          let io' : In o (block C (0, []) ∷ []) = subst (λ (x : Effect Task CodePlaces.Place Key Scalar). In o x.opens) (sym (good_in f.is)) io in
          let m = Op.in_block C (0, []) o u' (in_one o _ io') iu in
          inl (item_parts (sym q ∙ m.2)).2
      by (Item j p' c') lv f =
          let can : Can (code_system C) (Item j p' c') e = record { answers = f.answers; is = f.is; valid = reading_valid (code_system C) (code_laws C I) (Answers s K) lv } in
          elim (opened C j c' p' e can o io) [
            | inl ob ↦ (let m = Op.in_block C ob.instance o u' ob.is iu in inl (item_parts (sym q ∙ m.2)).2)
            | inr rs ↦ (let m = item_parts (sym q ∙ in_rest C j c' p' o u' rs iu) in inr (rs.loop, ap (λ (z : ℕ). loop_of (entry C z).act) m.0 ∙ rs.loops))
          ]

  -- ONE TASK WRITES AN ARRAY'S KEY
  -- the element that a task writes, with its writer in the script
  record Element (p : List Step) (v : Variable) (key : Key) (val : Scalar) (u : Task) : Type 0 where
    item : ItemLive s C w K wf kn I sc ty u
    chunk_is : item.chunk ≡ 0
    known : K (element (script_place p v) key (script_path item.path, (entry C item.number).node) val)
    tells : TellsNode (entry C item.number).act

  as_element : (p : List Step) (v : Variable) → v.array ≡ true → (key : Key) (val : Scalar) (wr : Written (code_system C) (Facts s C K) (Datum p v) key val) → Element p v key val wr.task
  as_element p v va key val wr = by (item_writes (Datum p v) key val wr)
    where
      by : ItemWrites wr.task (record { place = Datum p v; key = key; value = val }) → Element p v key val wr.task
      by r = elim r.write [ inl o ↦ own o | inr o ↦ (let z : true ≡ false = sym va ∙ ap (λ (u : Variable). u.array) (spot_variable (o.1).2) ∙ (o.1).3 in absurd (cc (z))) ]
        where
          own : OwnWrite s C w K wf kn I sc ty (r.item).chain (r.item).number (r.item).chunk (r.item).there r.effect r.fact (record { place = Datum p v; key = key; value = val }) → Element p v key val wr.task
          own o = record {
            item = r.item;
            chunk_is = elim (first_chunk _ r.live (r.item).number (r.item).chunk (r.item).path refl) [ inl e ↦ e | inr l ↦ none_some o.no_loop l.1 ];
            known = subst (λ (z : Place). K (element z key (script_path (r.item).path, (entry C (r.item).number).node) val)) (λ i. script_place (sym (spot_path o.place_is) i) (sym (spot_variable o.place_is) i)) o.known;
            tells = o.tells;
          }

  pub arrays_once : NodesOnce C → ArraysOnce s C K
  arrays_once once p v va key x y f g =
      let a = as_element p v va key x f in
      let b = as_element p v va key y g in
      let e : ◌≡◌ {A = Place} (script_path (a.item).path, (entry C (a.item).number).node) (script_path (b.item).path, (entry C (b.item).number).node) = kn.one_writer (script_place p v) key _ _ x y a.known b.known in
      let ep = path_same (a.item).path (b.item).path (ap (λ (z : Place). z.0) e) in
      let en = once (a.item).body_number (b.item).body_number (a.item).number (b.item).number (a.item).there (b.item).there a.tells b.tells (ap (λ (z : Place). z.1) e) in
      sym (a.item).is ∙ (λ i. Item (en i) (ep i) ((a.chunk_is ∙ sym b.chunk_is) i)) ∙ (b.item).is
