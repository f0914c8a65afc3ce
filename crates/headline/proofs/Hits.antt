-- Which names of rights mean a given array, on both sides; and which live block makes a datum.
use Rattle.std.proofs.Common.{◌≡◌, ◌⊎◌, inl, inr, ℕ, Bool, true, false, List, [], ◌∷◌, refl, sym, ap, ◌∙◌, subst}
use Rattle.std.specs.Prelude.{pos}
use Rattle.dataflow.specs.System.{In, Effect, Opening}
use Rattle.dataflow.specs.Laws.{Can}
use Rattle.values.specs.declared.key.Key.{Key}
use Rattle.values.specs.declared.value.Scalar.{Scalar}
use Rattle.language.specs.Core.{Owned, local, input, output, Name, Block, Core}
use Rattle.language.specs.Facts.{Knowledge}
use Rattle.language.specs.Places.{Place, place}
use Rattle.language.specs.WellFormed.{Declares, WellFormed}
use Rattle.task_code.specs.Code as code
use Rattle.task_code.specs.Code.{Variable, Local, Parameter, Entry, Code, Way, InPlace, Through, Calling, entry, body, ways, arguments, is_array_name}
use Rattle.task_code.specs.Effects.{Task, Main, Item, block}
use Rattle.task_code.specs.Places as CodePlaces
use Rattle.task_code.specs.Places.{Step, Datum, Constant, place_at}
use Rattle.task_code.specs.System.{code_system}
use Rattle.task_code.specs.Whole.{Declared, SeenFrom, Fixes, IsCode}
use Rattle.task_code.proofs.Kept.{code_laws}
use Rattle.task_code.proofs.Opens.{seen_place, opened, made_in, rest_makes}
use Rattle.task_code.proofs.Places.{argument_kind, argued, spot_variable, not_constant}
use Rattle.task_code.proofs.Rights.{declared_place}
use Rattle.headline.specs.Headline.{script_path, script_place}
use Rattle.headline.specs.Inclusions.{Facts}
use Rattle.headline.specs.Knows.{Knows}
use Rattle.headline.specs.Chains.{Answers, Stands, same, plain, constant, Chain, at_script, by_header, by_wait, by_call}
use Rattle.code_rules.specs.CodeNames.{owned_as, name_as}
use Rattle.language_laws.specs.Scoped.{IsIn, Scoped}
use Rattle.code_rules.specs.IsCodeOf.{BodyAs, body_as, IsCodeOf}
use Rattle.language_laws.specs.TypedValues.{TypedValues}
use Rattle.headline.proofs.LiveTo.{ItemLive, live_to, opens_block, good_in, in_one}
use Rattle.headline.proofs.Means.{Covering, covering_writes, means}
use Rattle.headline.proofs.Transfer.{reading_valid}
use Rattle.headline.proofs.WrittenFrom.{path_same}

module _ (s : Core) (C : Code) (w : IsCodeOf s C) (K : Knowledge) (wf : WellFormed s) (I : IsCode C) (sc : Scoped s) where
  -- the kind of a datum that a name of a right means
  pub record Kind (r : code.Name) (v : Variable) : Type 0 where
    pub of_layout : v.array ≡ w.layout.array v.node
    pub of_name : is_array_name r ≡ v.array
    pub real : w.layout.plain v.node ≡ false

  made_kind : {k t : ℕ} {b : Block} → BodyAs C w.layout k b t → (r : code.Name) (d : Declared C t r) → Kind r d.variable
  made_kind (body_as bl mk) r d = record { of_layout = mk.kinds d.variable d.made; of_name = ap is_array_name d.is; real = mk.real d.variable d.made }

  pub declared_kind : {k t : ℕ} {b : Block} → BodyAs C w.layout k b t → (p : List Step) (r : code.Name) → Declared C t r → (q : List Step) (v : Variable) → place_at C p r ≡ Datum q v → Kind r v
  declared_kind {t = t} ba p r d q v e = subst (λ (z : Variable). Kind r z) (spot_variable (sym (declared_place C t p r d) ∙ e)) (made_kind ba r d)

  module _ (rights : Entry → List code.Name) (cov : Covering s C w.layout K wf.names I sc rights) where
    seen_kind : (j : ℕ) (y : Way) (r : code.Name) (h : SeenFrom C rights j y r) → is_array_name h.outside ≡ is_array_name r
    seen_kind j InPlace r h = ap is_array_name (sym h.seen)
    seen_kind j Through r h = ap is_array_name (sym h.seen)
    seen_kind j Calling r h = argument_kind (arguments (entry C _).act) h.seen.0 h.seen.1 h.outside h.seen.3 ∙ sym (ap is_array_name h.seen.2)

    abbrev pub Kinds : List Step → ℕ → Type 0
    Kinds p j = (r : code.Name) → In r (rights (entry C j)) → (q : List Step) (v : Variable) → place_at C p r ≡ Datum q v → Kind r v

    pub outside_kind : (p p' : List Step) (j : ℕ) (y : Way) (r : code.Name) (sf : SeenFrom C rights j y r) → place_at C p r ≡ place_at C p' sf.outside → Kinds p' j → (q : List Step) (v : Variable) → place_at C p r ≡ Datum q v → Kind r v
    outside_kind p p' j y r sf z rec q v e =
        let k = rec sf.outside sf.right q v (sym z ∙ e) in
        record { of_layout = k.of_layout; of_name = sym (seen_kind j y r sf) ∙ k.of_name; real = k.real }

    pub right_kind : {p : List Step} {t k : ℕ} {b : Block} → Chain s C w.layout K p t k b → (j : ℕ) → In j (body C t).entries → Kinds p j
    right_kind {p} (at_script h) j i r m q v e = declared_kind h p r (cov.in_script j r i m) q v e
    right_kind {p} {t} (by_header {p = p'} {at = at} j' {key = key} ch m' i' mk wy h o' o dp) j i r m q v e = by (cov.in_body j' Through t wy j r i m) (right_kind ch j' i')
      where
        by : ((Declared C t r ⊎ SeenFrom C rights j' Through r) ⊎ Fixes C (entry C j').offset Through r) → Kinds p' j' → Kind r v
        by (inl (inl d)) rec = declared_kind h p r d q v e
        by (inl (inr sf)) rec = outside_kind p p' j' Through r sf (seen_place C Through (entry C j').offset p' key p r sf.outside (λ i. record { offset = sym mk i; key = key } ∷ p') sf.seen) rec q v e
        by (inr fx) rec = absurd fx
    right_kind {p} {t} (by_wait j' ch m' i' wy h o) j i r m q v e = by (cov.in_body j' InPlace t wy j r i m) (right_kind ch j' i')
      where
        by : ((Declared C t r ⊎ SeenFrom C rights j' InPlace r) ⊎ Fixes C (entry C j').offset InPlace r) → Kinds p j' → Kind r v
        by (inl (inl d)) rec = declared_kind h p r d q v e
        by (inl (inr sf)) rec = outside_kind p p j' InPlace r sf (ap (λ (z : code.Name). place_at C p z) sf.seen) rec q v e
        by (inr fx) rec = absurd fx
    right_kind {p} {t} (by_call {p = p'} {c = c} j' ch m' n' i' ca cs f len h dp) j i r m q v e = by (cov.in_body j' Calling t calls_it j r i m) (right_kind ch j' i')
      where
        calls_it : In (Calling, t) (ways (entry C j').act)
        calls_it = subst (λ (a : code.Act). In (Calling, t) (ways a)) (sym ca.is.act_is) (inl refl)

        by : ((Declared C t r ⊎ SeenFrom C rights j' Calling r) ⊎ Fixes C (entry C j').offset Calling r) → Kinds p' j' → Kind r v
        by (inl (inl d)) rec = declared_kind h p r d q v e
        by (inl (inr sf)) rec = outside_kind p p' j' Calling r sf (seen_place C Calling (entry C j').offset p' (Key.Number (pos 0)) p r sf.outside (λ i. record { offset = sym ca.offset_is i; key = Key.Number (pos 0) } ∷ p') sf.seen) rec q v e
        by (inr fx) rec =
            let place_is : place_at C p r ≡ Constant fx.2 = (λ i. place_at C (record { offset = sym ca.offset_is i; key = Key.Number (pos 0) } ∷ p') (fx.3 i)) ∙ ap (argued C p') fx.4 in
            absurd (not_constant (sym place_is ∙ e))

  -- A GIVEN ARRAY
  pub record IsArrayAt (v : Variable) : Type 0 where
    pub array : v.array ≡ true
    pub of_layout : w.layout.array v.node ≡ true
    pub real : w.layout.plain v.node ≡ false

  from_stands : {d : Bool} {a : CodePlaces.Place} {pl : Place} (p0 : List Step) (v0 : Variable) → w.layout.plain v0.node ≡ false → Stands s C w.layout K d a pl → pl ≡ script_place p0 v0 → (q : List Step) × (v : Variable) × (a ≡ Datum q v) × (script_place q v ≡ script_place p0 v0)
  from_stands p0 v0 pl (same {p = p} {v = v}) e = (p, v, refl, e)
  from_stands p0 v0 pl (plain live m z st) e = absurd (cc (sym z ∙ ap (λ (x : Place). w.layout.plain x.1) e ∙ pl))
  from_stands p0 v0 pl (constant live m z) e = absurd (cc (sym z ∙ ap (λ (x : Place). w.layout.plain x.1) e ∙ pl))

  same_datum : (q p0 : List Step) (v v0 : Variable) → v.array ≡ v0.array → script_place q v ≡ script_place p0 v0 → Datum q v ≡ Datum p0 v0
  same_datum q p0 v v0 e h =
      let x = path_same q p0 (ap (λ (z : Place). z.0) h) in
      let n : v.node ≡ v0.node = ap (λ (z : Place). z.1) h in
      λ i. Datum (x i) (record { node = n i; array = e i })

  -- a right to a name that means the array in the script
  pub right_hits : {p : List Step} {t k : ℕ} {b : Block} (ch : Chain s C w.layout K p t k b) (j : ℕ) (there : In j (body C t).entries) (d : Bool) (x : Name) → In (name_as k d x) (entry C j).writes → IsIn k x
      → (p0 : List Step) (v0 : Variable) → IsArrayAt v0 → place s (script_path p) x ≡ script_place p0 v0 → (d ≡ true) × (place_at C p (name_as k d x) ≡ Datum p0 v0)
  right_hits {p} {k = k} ch j there d x m g p0 v0 ar e =
      let st = means s C w.layout K wf.names I sc (λ z. z.writes) (covering_writes s C w.layout K wf.names I sc) ch j there d x m g in
      let f = from_stands p0 v0 ar.real st e in
      let kd = right_kind (λ z. z.writes) (covering_writes s C w.layout K wf.names I sc) ch j there (name_as k d x) m f.0 f.1 f.2 in
      let same_node : f.1.node ≡ v0.node = ap (λ (z : Place). z.1) f.3 in
      let is_array : f.1.array ≡ true = kd.of_layout ∙ ap w.layout.array same_node ∙ ar.of_layout in
      (sym (kind_of k d x) ∙ kd.of_name ∙ is_array, f.2 ∙ same_datum f.0 p0 f.1 v0 (is_array ∙ sym ar.array) f.3)
    where
      kind_of : (k : ℕ) (b : Bool) (x : Name) → is_array_name (name_as k b x) ≡ b
      kind_of k b x = by x.what
        where
          by : (what : Owned) → is_array_name (record { up = x.up; owned = owned_as k b what }) ≡ b
          by (local n) = refl
          by (input i) = refl
          by (output j) = refl

  -- the body of a block that makes an array declares it
  pub array_made : {k t : ℕ} {b : Block} {v : Variable} → BodyAs C w.layout k b t → In v (body C t).makes → v.array ≡ true → IsArrayAt v × Declares b (local v.node)
  array_made {t = t} {v = v} (body_as bl mk) h a =
      let r = mk.arrays v.node (subst (λ (z : Variable). In z (body C t).makes) (λ i. record { node = v.node; array = a i }) h) in
      (record { array = a; of_layout = sym (mk.kinds v h) ∙ a; real = mk.real v h }, record { node = v.node; at = r.0; stmt_node = r.1; is = refl; there = r.2 })

module _ (s : Core) (C : Code) (w : IsCodeOf s C) (K : Knowledge) (wf : WellFormed s) (kn : Knows s K) (I : IsCode C) (sc : Scoped s) where
  module _ (ty : TypedValues s K) where
    -- WHO MAKES A DATUM
    pub record MadeIn (o : Opening Task CodePlaces.Place) (a : CodePlaces.Place) : Type 0 where
      pub path : List Step
      pub variable : Variable
      pub is : a ≡ Datum path variable
      pub body_number : ℕ
      pub inputs : ℕ
      pub block_of : Block
      pub chain : Chain s C w.layout K path body_number inputs block_of
      pub opening_is : o ≡ block C (body_number, path)
      pub made : In variable (body C body_number).makes

    pub made_in_block : (t : Task) (e : Effect Task CodePlaces.Place Key Scalar) (o : Opening Task CodePlaces.Place) (a : CodePlaces.Place) → Facts s C K t e → In o e.opens → In a o.makes → MadeIn o a
    made_in_block t e o a f io ia =
        elim (live_to s C w K wf kn I sc ty f.live) [
          | inl q ↦ main_case q
          | inr x ↦ item_case x (subst (λ (z : Task). Facts s C K z e) (sym x.is) f)
        ]
      where
        main_case : t ≡ Main → MadeIn o a
        main_case q =
            let io' : In o (block C (0, []) ∷ []) = subst (λ (x : Effect Task CodePlaces.Place Key Scalar). In o x.opens) (sym (good_in (ap (λ (z : Task). (code_system C).effect z f.reading.answers) (sym q) ∙ f.reading.is))) io in
            let oi = in_one o _ io' in
            let m = made_in C (0, []) o a oi ia in
            record { path = []; variable = m.0; is = m.2; body_number = 0; inputs = 0; block_of = s.body; chain = at_script w.script; opening_is = oi; made = m.1 }

        item_case : (x : ItemLive s C w K wf kn I sc ty t) → Facts s C K (Item x.number x.path x.chunk) e → MadeIn o a
        item_case x g =
            elim (opened C x.number x.chunk x.path e can o io) [
              | inl ob ↦ (let m = made_in C ob.instance o a ob.is ia in
                  let r = opens_block s C w K wf kn I sc ty x.chain x.number x.chunk x.there e g.reading ob.instance ob.there in
                  record { path = ob.instance.1; variable = m.0; is = m.2; body_number = ob.instance.0; inputs = r.inputs; block_of = r.inner_block; chain = r.chain; opening_is = ob.is; made = m.1 })
              | inr rs ↦ absurd (rest_makes C x.number x.chunk x.path o a rs ia)
            ]
          where
            can : Can (code_system C) (Item x.number x.path x.chunk) e
            can = record { answers = g.reading.answers; is = g.reading.is; valid = reading_valid (code_system C) (code_laws C I) (Answers s K) g.live }
