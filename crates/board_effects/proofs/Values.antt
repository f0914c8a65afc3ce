-- What is stored, and what goes wrong.
use Rattle.std.proofs.Common.{◌≡◌, ◌∙◌, refl, sym, ap, subst, inl, inr, ℕ, Bool, true, false, ◌||◌, List, [], ◌∷◌, Option, Some, None, Result, Ok, Err, IfOk}
use Rattle.std.specs.List.{list_any}
use Rattle.std.proofs.lemmas.Bool.{cases_Bool, or_parts}
use Rattle.dataflow.specs.Machine.{Fault}
use Rattle.dataflow.specs.System.{In}
use Rattle.board_history.specs.Fields.{Counted, slot_at}
use Rattle.board_history.specs.Needs.{cell_element, has}
use Rattle.task_code.specs.Compute.{Computed, EntryFault, elements, in_key_order, pairs}
use Rattle.values.specs.Maps.{rising}
use Rattle.values.specs.declared.key.Key.{Key}
use Rattle.values.specs.declared.map.Element.{Element}
use Rattle.values.specs.declared.value.Scalar.{Scalar}
use Rattle.board_effects.specs.Effects.{GoesWrong}
use Rattle.board_effects.specs.Ended.{Ends, FailsWith, cells_of, code_of, frames_of, job_of}
use Rattle.board_effects.specs.declared.effect.Effect.{Effect}
use Rattle.board_effects.specs.declared.effect.EndingItem.{EndingItem}

-- of what a call gives, where it gives something
pub ok_map : {A E : Type 0} (P Q : A → Type 0) (r : Result A E) → ((x : A) → P x → Q x) → IfOk r P → IfOk r Q
ok_map P Q (Ok x) f h = f x h
ok_map P Q (Err e) f h = h

module _ (cs : List (Option Counted)) (d : ℕ) where
  abbrev pub there : Element → Bool
  there e = has (cell_element e.key (slot_at cs d))

  pub none_there : (es : List Element) → list_any there es ≡ false → (q : Key × Scalar) → In q (pairs es) → has (cell_element q.0 (slot_at cs d)) ≡ false
  none_there [] h q m = absurd m
  none_there (e ∷ es) h q (inl s) = ap (λ (p : Key × Scalar). has (cell_element p.0 (slot_at cs d))) s ∙ (or_parts (there e) (list_any there es) h).0
  none_there (e ∷ es) h q (inr m) = none_there es (or_parts (there e) (list_any there es) h).1 q m

  is_has : (o : Option Scalar) → has o ≡ true → (v : Scalar) × (o ≡ Some v)
  is_has None h = absurd (cc h)
  is_has (Some v) h = (v, refl)

  pub some_there : (es : List Element) → list_any there es ≡ true → (q : Key × Scalar) × (v : Scalar) × In q (pairs es) × (cell_element q.0 (slot_at cs d) ≡ Some v)
  some_there [] h = absurd (cc h)
  some_there (e ∷ es) h = elim (cases_Bool (there e)) [
    | inl t ↦ (let r = is_has (cell_element e.key (slot_at cs d)) t in ((e.key, e.value), r.0, inl refl, r.1))
    | inr f ↦ (let r = some_there es (sym (ap (λ b. b || list_any there es) f) ∙ h) in (r.0, r.1, inr r.2, r.3))
  ]

  pub key_none : (k : Key) (v : Scalar) → has (cell_element k (slot_at cs d)) ≡ false → (q : Key × Scalar) → In q ((k, v) ∷ []) → has (cell_element q.0 (slot_at cs d)) ≡ false
  key_none k v h q (inl s) = ap (λ (p : Key × Scalar). has (cell_element p.0 (slot_at cs d))) s ∙ h
  key_none k v h q (inr m) = absurd m

  pub key_some : (k : Key) → has (cell_element k (slot_at cs d)) ≡ true → (v : Scalar) × (cell_element k (slot_at cs d) ≡ Some v)
  key_some k h = is_has (cell_element k (slot_at cs d)) h

-- elements of a map are in their order
pub elements_back : (es : List Element) → elements (pairs es) ≡ es
elements_back [] = refl
elements_back (e ∷ es) = ap (λ l. e ∷ l) (elements_back es)

pub in_order : (es : List Element) → rising es ≡ true → in_key_order (pairs es) ≡ true
in_order es h = ap rising (elements_back es) ∙ h

-- a fault that is met
pub fails_ends : (p : EndingItem) (x : Computed) (f : Fault EntryFault) (e : Effect) → GoesWrong (code_of p) (frames_of p) (cells_of p) (job_of p) x f → FailsWith p f e → Ends p x e
fails_ends p x f e g r = subst (λ (y : Effect). Ends p x y) (sym r.is) (subst (λ (y : Fault EntryFault). GoesWrong (code_of p) (frames_of p) (cells_of p) (job_of p) x y) (sym r.kind_is) g, r.met)
