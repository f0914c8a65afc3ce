-- Each change, and an End of one.
use Rattle.std.proofs.Common.{◌≡◌, ◌∙◌, refl, sym, ap, subst, ℕ, List, [], ◌∷◌, ◌++◌, append-nil, append_assoc, map, Option, Some, true, false, Bool, Vec, Global}
use Rattle.data_store.specs.Stores.{Store}
use Rattle.board_history.specs.Fields.{Frame, Job, Row, Want, Whole}
use Rattle.task_code.specs.Code.{Code}
use Rattle.task_code.specs.Compute.{pairs}
use Rattle.task_code.specs.Effects.{only}
use Rattle.values.specs.Maps.{element}
use Rattle.values.specs.declared.key.Key.{Key}
use Rattle.values.specs.declared.map.Element.{Element}
use Rattle.values.specs.declared.value.Scalar.{Scalar}
use Rattle.board_data.specs.Stored.{IsScalarTarget, StoresIn, Takes}
use Rattle.board_data.proofs.Stored.{stored_nothing}
use Rattle.board_instances.specs.declared.pending.PendingInstances.{PendingInstances}
use Rattle.board_changes.specs.World.{Changed, Goes, LetsGo, Opens, WorldEnds, goes_on, told_of}
use Rattle.board_changes.specs.declared.data_state.Change.{Change}
use Rattle.board_changes.specs.declared.data_state.Change.TheVariants as Changes

module _ (C : Code) (j : Job) (x : Change) (fs gs : List (Option Frame)) (old : List Row) (s t : Store) where
  pub nothing_changed : x ≡ Changes.Nothing → gs ≡ fs → t ≡ s → Changed C j x fs gs old old s t
  nothing_changed q e d = subst (λ (y : Change). Changed C j y fs gs old old s t) (sym q) (record {
    stored = s;
    stores = λ h. stored_nothing [] s s refl;
    opens = record { frames = e; rows = refl; data_same = d };
  })

  pub value_changed : (d : Option ℕ) (v : Scalar) → x ≡ Changes.Value d v → gs ≡ fs → (u : Store) → t ≡ u → (IsScalarTarget d s → StoresIn d ((only, v) ∷ []) s u) → Changed C j x fs gs old old s t
  value_changed d v q e u i h = subst (λ (y : Change). Changed C j y fs gs old old s t) (sym q) (record { stored = u; stores = h; opens = record { frames = e; rows = refl; data_same = i } })

  pub element_changed : (d : Option ℕ) (k : Key) (v : Scalar) → x ≡ Changes.Element d k v → gs ≡ fs → (u : Store) → t ≡ u → (((n : ℕ) → d ≡ Some n → Takes n (element k v ∷ []) s) → StoresIn d ((k, v) ∷ []) s u) → Changed C j x fs gs old old s t
  element_changed d k v q e u i h = subst (λ (y : Change). Changed C j y fs gs old old s t) (sym q) (record { stored = u; stores = h; opens = record { frames = e; rows = refl; data_same = i } })

  pub elements_changed : (d : Option ℕ) (es : Vec Element Global) → x ≡ Changes.Elements d es → gs ≡ fs → (u : Store) → t ≡ u → (((n : ℕ) → d ≡ Some n → Takes n es.items s) → StoresIn d (pairs es.items) s u) → Changed C j x fs gs old old s t
  elements_changed d es q e u i h = subst (λ (y : Change). Changed C j y fs gs old old s t) (sym q) (record { stored = u; stores = h; opens = record { frames = e; rows = refl; data_same = i } })

-- instances are opened
pub open_changed : (C : Code) (j : Job) (x : Change) (o : PendingInstances) → x ≡ Changes.Opens o → (fs gs : List (Option Frame)) (old new : List Row) (s t : Store) → Opens C j o fs gs old new s t → Changed C j x fs gs old new s t
open_changed C j x o q fs gs old new s t h = subst (λ (y : Change). Changed C j y fs gs old new s t) (sym q) (record { stored = s; stores = λ k. stored_nothing [] s s refl; opens = h })

-- all that an End does
module _ (C : Code) (j : Job) (x : Change) (fs hs : List (Option Frame)) (old new : List Row) (s m : Store) where
  pub stays_ends : goes_on x ≡ true → (gs : List (Option Frame)) (t : Store) (known now then : List (Want ℕ)) → Changed C j x fs hs old new s m → gs ≡ hs → t ≡ m → now ≡ known ++ told_of x → then ≡ now →
      (news : List (Want ℕ)) × (then ≡ known ++ news) × WorldEnds C j x fs gs old new s t news
  stays_ends g gs t known now then c e d n k = (
    told_of x,
    k ∙ n,
    record {
      middle = hs;
      more = m;
      changed = c;
      closed = [];
      goes = subst (λ (b : Bool). Goes C b j hs gs m t []) (sym g) (e, d, refl);
      known_is = sym (append-nil (told_of x));
    },
  )

  pub goes_ends : goes_on x ≡ false → (gs : List (Option Frame)) (t : Store) (known now then : List (Want ℕ)) → Changed C j x fs hs old new s m → now ≡ known ++ told_of x →
      (closed : List ℕ) × LetsGo C j hs gs m t closed × (then ≡ now ++ map Whole closed) →
      (news : List (Want ℕ)) × (then ≡ known ++ news) × WorldEnds C j x fs gs old new s t news
  goes_ends g gs t known now then c n w = (
    told_of x ++ map Whole w.0,
    w.2 ∙ ap (λ ks. ks ++ map Whole w.0) n ∙ append_assoc known (told_of x) (map Whole w.0),
    record {
      middle = hs;
      more = m;
      changed = c;
      closed = w.0;
      goes = subst (λ (b : Bool). Goes C b j hs gs m t w.0) (sym g) w.1;
      known_is = refl;
    },
  )

-- the same with other names for what came of it
pub goes_away : (C : Code) (j : Job) (hs gs ks : List (Option Frame)) (m u t : Store) (old now then : List (Want ℕ)) → ks ≡ gs → t ≡ u → then ≡ now →
    (closed : List ℕ) × LetsGo C j hs gs m u closed × (now ≡ old ++ map Whole closed) → (closed : List ℕ) × LetsGo C j hs ks m t closed × (then ≡ old ++ map Whole closed)
goes_away C j hs gs ks m u t old now then e d n w =
    (w.0, subst (λ (fs : List (Option Frame)). LetsGo C j hs fs m t w.0) (sym e) (subst (λ (s : Store). LetsGo C j hs gs m s w.0) (sym d) w.1), n ∙ w.2)
