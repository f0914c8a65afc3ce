-- The inputs of a live task are data of their kinds, and what a live task may read is no plain cell.
use Rattle.std.proofs.Common.{◌≡◌, ◌⊎◌, inl, inr, ℕ, Bool, true, false, List, [], ◌∷◌, refl, sym, ap, ◌∙◌, subst}
use Rattle.std.specs.Prelude.{pos, not}
use Rattle.std.specs.List.{list_all}
use Rattle.dataflow.specs.System.{In, Input}
use Rattle.dataflow.proofs.Lists.{in_unmap}
use Rattle.values.specs.declared.key.Key.{Key}
use Rattle.values.specs.declared.value.Scalar.{Scalar}
use Rattle.language.specs.Core.{Block, Core}
use Rattle.language.specs.Facts.{Knowledge}
use Rattle.language.specs.WellFormed.{WellFormed}
use Rattle.task_code.specs.Code as code
use Rattle.task_code.specs.Code.{Variable, Need, Stored, At, AtKey, Named, Fixed, Code, Way, InPlace, Through, Calling, entry, body, ways, argument, arguments, argument_in, is_array_name}
use Rattle.task_code.specs.Effects.{Task, Item}
use Rattle.task_code.specs.Places.{Step, Datum, Constant, Nowhere, place_at}
use Rattle.task_code.specs.Places as CodePlaces
use Rattle.task_code.specs.Shape.{fits_kinds, has_shape}
use Rattle.task_code.specs.System.{scalar_input, whole_input, key_input, element_input, data_among, inputs_at, code_system}
use Rattle.task_code.specs.Whole.{Declared, SeenFrom, Fixes, IsCode}
use Rattle.task_code.proofs.Equal.{every_in}
use Rattle.task_code.proofs.Opens.{seen_place}
use Rattle.task_code.proofs.Places.{argument_kind, argued, spot_variable, not_constant}
use Rattle.task_code.proofs.Rights.{declared_place, in_gather}
use Rattle.headline.specs.Knows.{Knows}
use Rattle.headline.specs.Inclusions.{IsRead, FitsKind, InputsFit}
use Rattle.headline.specs.Chains.{Chain, at_script, by_header, by_wait, by_call}
use Rattle.language_laws.specs.Scoped.{Scoped}
use Rattle.code_rules.specs.IsCodeOf.{Layout, BodyAs, body_as, IsCodeOf}
use Rattle.language_laws.specs.TypedValues.{TypedValues}
use Rattle.headline.proofs.LiveTo.{live_to}
use Rattle.headline.proofs.Opening.{kind_fixed}
use Rattle.std.proofs.lemmas.Bool.{false_from_ne_true, not-true, and_parts}

in_data : (d : CodePlaces.Place) (ds : List CodePlaces.Place) → In d (data_among ds) → In d ds
in_data d [] h = absurd h
in_data d (Datum p v ∷ ds) (inl e) = inl e
in_data d (Datum p v ∷ ds) (inr h) = inr (in_data d ds h)
in_data d (Constant c ∷ ds) h = inr (in_data d ds h)
in_data d (Nowhere ∷ ds) (inl e) = inl e
in_data d (Nowhere ∷ ds) (inr h) = inr (in_data d ds h)

module _ (l : Layout) where
  -- a datum of this kind that is no plain cell, or a literal for a scalar
  pub data Fit (d : Bool) : CodePlaces.Place → Type 0 where
    a_datum : {q : List Step} {v : Variable} → v.array ≡ d → l.plain v.node ≡ false → Fit d (Datum q v)
    a_literal : {c : Scalar} → d ≡ false → Fit d (Constant c)

module _ (s : Core) (C : Code) (w : IsCodeOf s C) (K : Knowledge) (wf : WellFormed s) (kn : Knows s K) (I : IsCode C) (sc : Scoped s) (ty : TypedValues s K) where
  made_real : {k t : ℕ} {b : Block} → BodyAs C w.layout k b t → (v : Variable) → In v (body C t).makes → w.layout.plain v.node ≡ false
  made_real (body_as bl mk) v h = mk.real v h

  moved : {d e : Bool} {x y : CodePlaces.Place} → d ≡ e → x ≡ y → Fit w.layout d x → Fit w.layout e y
  moved {d} {e} {x} {y} p q h = subst (λ (z : Bool). Fit w.layout z y) p (subst (λ (z : CodePlaces.Place). Fit w.layout d z) q h)

  declared_fits : {k t : ℕ} {b : Block} → BodyAs C w.layout k b t → (p : List Step) (r : code.Name) → Declared C t r → Fit w.layout (is_array_name r) (place_at C p r)
  declared_fits {t = t} ba p r h = moved (sym (ap is_array_name h.is)) (sym (declared_place C t p r h)) (a_datum {q = p} {v = h.variable} refl (made_real ba h.variable h.made))

  seen_kind : (j : ℕ) (v : Way) (r : code.Name) (h : SeenFrom C (λ e. e.reads) j v r) → is_array_name h.outside ≡ is_array_name r
  seen_kind j InPlace r h = ap is_array_name (sym h.seen)
  seen_kind j Through r h = ap is_array_name (sym h.seen)
  seen_kind j Calling r h = argument_kind (arguments (entry C _).act) h.seen.0 h.seen.1 h.outside h.seen.3 ∙ sym (ap is_array_name h.seen.2)

  abbrev Reads : List Step → ℕ → Type 0
  Reads p j = (r : code.Name) → In r (entry C j).reads → Fit w.layout (is_array_name r) (place_at C p r)

  -- a name that an entry of a live block may read
  pub reads_fit : {p : List Step} {t k : ℕ} {b : Block} → Chain s C w.layout K p t k b → (j : ℕ) → In j (body C t).entries → Reads p j
  reads_fit {p} {t} (at_script h) j i r m = declared_fits h p r (I.script_reads j r i m)
  reads_fit {p} {t} {k} {b} (by_header {p = p'} {at = at} j' {key = key} ch m' i' mk wy h o' o dp) j i r m = by ((I.fits j' Through t wy).reads j r i m) (reads_fit ch j' i')
    where
      by : ((Declared C t r ⊎ SeenFrom C (λ e. e.reads) j' Through r) ⊎ Fixes C (entry C j').offset Through r) → Reads p' j' → Fit w.layout (is_array_name r) (place_at C p r)
      by (inl (inl d)) rec = declared_fits h p r d
      by (inl (inr sf)) rec = moved (seen_kind j' Through r sf) (sym (seen_place C Through (entry C j').offset p' key p r sf.outside (λ i. record { offset = sym mk i; key = key } ∷ p') sf.seen)) (rec sf.outside sf.right)
      by (inr fx) rec = absurd fx
  reads_fit {p} {t} {k} {b} (by_wait j' ch m' i' wy h o) j i r m = by ((I.fits j' InPlace t wy).reads j r i m) (reads_fit ch j' i')
    where
      by : ((Declared C t r ⊎ SeenFrom C (λ e. e.reads) j' InPlace r) ⊎ Fixes C (entry C j').offset InPlace r) → Reads p j' → Fit w.layout (is_array_name r) (place_at C p r)
      by (inl (inl d)) rec = declared_fits h p r d
      by (inl (inr sf)) rec = moved (seen_kind j' InPlace r sf) (ap (λ (z : code.Name). place_at C p z) (sym sf.seen)) (rec sf.outside sf.right)
      by (inr fx) rec = absurd fx
  reads_fit {p} {t} {k} {b} (by_call {p = p'} {c = c} j' ch m' n' i' ca cs f len h dp) j i r m = by ((I.fits j' Calling t calls_it).reads j r i m) (reads_fit ch j' i')
    where
      calls_it : In (Calling, t) (ways (entry C j').act)
      calls_it = subst (λ (a : code.Act). In (Calling, t) (ways a)) (sym ca.is.act_is) (inl refl)

      by : ((Declared C t r ⊎ SeenFrom C (λ e. e.reads) j' Calling r) ⊎ Fixes C (entry C j').offset Calling r) → Reads p' j' → Fit w.layout (is_array_name r) (place_at C p r)
      by (inl (inl d)) rec = declared_fits h p r d
      by (inl (inr sf)) rec = moved (seen_kind j' Calling r sf) (sym (seen_place C Calling (entry C j').offset p' (Key.Number (pos 0)) p r sf.outside (λ i. record { offset = sym ca.offset_is i; key = Key.Number (pos 0) } ∷ p') sf.seen)) (rec sf.outside sf.right)
      by (inr fx) rec =
          let place_is : place_at C p r ≡ Constant fx.2 = (λ i. place_at C (record { offset = sym ca.offset_is i; key = Key.Number (pos 0) } ∷ p') (fx.3 i)) ∙ ap (argued C p') fx.4 in
          moved refl (sym place_is) (a_literal (false_from_ne_true (is_array_name r) (λ e. kind_fixed (arguments (entry C _).act) fx.0 fx.1 fx.2 fx.4 (sym (ap is_array_name fx.3) ∙ e))))

  -- INPUTS
  in_one : {X : Type 0} {x y : X} → In x (y ∷ []) → x ≡ y
  in_one (inl e) = e
  in_one (inr z) = absurd z

  scalar_fits : (d : CodePlaces.Place) → Fit w.layout false d → (i : Input CodePlaces.Place Key) → In i (scalar_input d) → FitsKind s C K i
  scalar_fits (Datum q v) (a_datum a pl) i h = subst (λ (z : Input CodePlaces.Place Key). FitsKind s C K z) (sym (in_one h)) (q, v, refl, a)
  scalar_fits (Constant c) f i h = absurd h
  scalar_fits Nowhere f i h = elim f [ ]

  whole_fits : (d : CodePlaces.Place) → Fit w.layout true d → (i : Input CodePlaces.Place Key) → In i (whole_input d) → FitsKind s C K i
  whole_fits (Datum q v) (a_datum a pl) i h = subst (λ (z : Input CodePlaces.Place Key). FitsKind s C K z) (sym (in_one h)) (q, v, refl, a)
  whole_fits (Constant c) f i h = absurd h
  whole_fits Nowhere f i h = elim f [ ]

  key_fits : (d : CodePlaces.Place) (k : Key) → Fit w.layout true d → (i : Input CodePlaces.Place Key) → In i (key_input d k) → FitsKind s C K i
  key_fits (Datum q v) k (a_datum a pl) i h = subst (λ (z : Input CodePlaces.Place Key). FitsKind s C K z) (sym (in_one h)) (q, v, refl, a)
  key_fits (Constant c) k f i h = absurd h
  key_fits Nowhere k f i h = elim f [ ]

  element_fits : (a d : CodePlaces.Place) → Fit w.layout true a → Fit w.layout false d → (i : Input CodePlaces.Place Key) → In i (element_input a d) → FitsKind s C K i
  element_fits (Datum p x) (Datum q v) (a_datum a pl) (a_datum b pm) i h = subst (λ (z : Input CodePlaces.Place Key). FitsKind s C K z) (sym (in_one h)) ((p, x, refl, a), (q, v, refl, b))
  element_fits (Datum p x) (Constant c) f g i h = key_fits (Datum p x) _ f i h
  element_fits (Datum p x) Nowhere f g i h = elim g [ ]
  element_fits (Constant c) (Datum q v) f g i h = absurd h
  element_fits (Constant c) (Constant d) f g i h = absurd h
  element_fits (Constant c) Nowhere f g i h = absurd h
  element_fits Nowhere d f g i h = elim f [ ]

  module _ {p : List Step} {t k : ℕ} {b : Block} (ch : Chain s C w.layout K p t k b) (j : ℕ) (there : In j (body C t).entries) where
    read_fits : (d : Bool) (n : Need) (r : code.Name) → In n (entry C j).needs → In r (code.needed n) → is_array_name r ≡ d → Fit w.layout d (place_at C p r)
    read_fits d n r i h e = moved e refl (reads_fit ch j there r (I.needs j n r i h))

    need_fits : (n : Need) → In n (entry C j).needs → fits_kinds n ≡ true → (i : Input CodePlaces.Place Key) → In i (inputs_at C p n) → FitsKind s C K i
    need_fits (Stored r) m f i h = scalar_fits (place_at C p r) (read_fits false (Stored r) r m (inl refl) (not-true (is_array_name r) f)) i h
    need_fits (code.Closed r) m f i h = whole_fits (place_at C p r) (read_fits true (code.Closed r) r m (inl refl) f) i h
    need_fits (At a r) m f i h =
        let q = and_parts (is_array_name a) (not (is_array_name r)) f in
        element_fits (place_at C p a) (place_at C p r) (read_fits true (At a r) a m (inl refl) q.0) (read_fits false (At a r) r m (inr (inl refl)) (not-true (is_array_name r) q.1)) i h
    need_fits (AtKey a key) m f i h = key_fits (place_at C p a) key (read_fits true (AtKey a key) a m (inl refl) f) i h

    item_fits : (c : ℕ) (i : Input CodePlaces.Place Key) → In i ((code_system C).inputs (Item j p c)) → FitsKind s C K i
    item_fits c i h =
        let n = in_gather C (inputs_at C p) (entry C j).needs i h in
        let f = every_in fits_kinds (entry C j).needs (and_parts (list_all fits_kinds (entry C j).needs) (has_shape (entry C j).act (entry C j).needs) (I.shape j)).0 n.0 n.1 in
        need_fits n.0 n.1 f i n.2

  -- THE INPUTS OF A LIVE TASK FIT
  pub inputs_fit : InputsFit s C K
  inputs_fit t i lv m =
      elim (live_to s C w K wf kn I sc ty lv) [
        | inl q ↦ absurd (subst (λ (z : Task). In i ((code_system C).inputs z)) q m)
        | inr x ↦ item_fits x.chain x.number x.there x.chunk i (subst (λ (z : Task). In i ((code_system C).inputs z)) (sym x.is) m)
      ]

  fit_real : {d : Bool} {a : CodePlaces.Place} → Fit w.layout d a → (q : List Step) (v : Variable) → a ≡ Datum q v → (w.layout.plain v.node ≡ false) × (v.array ≡ d)
  fit_real {d} (a_datum {v = x} a pl) q v e = let f = spot_variable e in (subst (λ (z : Variable). w.layout.plain z.node ≡ false) f pl, subst (λ (z : Variable). z.array ≡ d) f a)
  fit_real (a_literal e') q v e = absurd (not_constant e)

  -- WHAT A LIVE TASK MAY READ IS NO PLAIN CELL
  pub read_real : (q : List Step) (v : Variable) → IsRead s C K (Datum q v) → w.layout.plain v.node ≡ false
  read_real q v r =
      elim (live_to s C w K wf kn I sc ty r.1) [
        | inl e ↦ absurd (subst (λ (z : Task). In (Datum q v) ((code_system C).may_read z)) e r.2)
        | inr x ↦ (let h = in_data (Datum q v) _ (subst (λ (z : Task). In (Datum q v) ((code_system C).may_read z)) (sym x.is) r.2) in
            let n = in_unmap (place_at C x.path) (Datum q v) (entry C x.number).reads h in
            (fit_real (reads_fit x.chain x.number x.there n.0 n.1) q v n.2).0)
      ]
