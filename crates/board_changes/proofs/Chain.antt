-- Data of several instances: each under a number of its own, which had none before.
use Rattle.std.proofs.Common.{◌≡◌, ◌⊎◌, ◌∙◌, refl, sym, ap, subst, inl, inr, ℕ, zero, suc, ◌+◌, ◌<◌, ◌≤◌, List, [], ◌∷◌, length, map, Option, Some, None, arith}
use Rattle.std.specs.List.{slice_get}
use Rattle.std.proofs.lemmas.Bool.{cases_eq}
use Rattle.std.proofs.lemmas.Option.{slice_get-get_or}
use Rattle.dataflow.specs.System.{In}
use Rattle.data_store.specs.Stores.{Store, at}
use Rattle.data_store.specs.declared.datum.Datum.{Datum}
use Rattle.board_history.specs.Fields.{Absent, DatumOf, Frame}
use Rattle.board_history.specs.Fields as Pure
use Rattle.task_code.specs.Code.{nth}
use Rattle.board_program.specs.declared.program.LocalVariable.{LocalVariable}
use Rattle.board_data.specs.Made.{DataMade, new_datum, slot_in, start_at}
use Rattle.board_instances.specs.Openings.{Put}
use Rattle.board_instances.specs.View.{opening_frame, slot_view}
use Rattle.board_instances.specs.declared.instance.Slot.{Slot}
use Rattle.board_instances.specs.declared.instance.Slot.TheVariants as Slots
use Rattle.board_instances.specs.declared.pending.PendingInstance.{PendingInstance}
use Rattle.values.specs.declared.value.Scalar.{Scalar}
use Rattle.board_changes.specs.declared.instance_data.TurnSlots.{TurnSlots}
use Rattle.board_changes.specs.Filled.{AreFilled, Fills, HasSlots, starts_of}

-- what stands in a slot, as it is seen
pub seen : (xs : List Slot) (i : ℕ) → nth Absent (map slot_view xs) i ≡ slot_view (slot_in xs i)
seen [] i = refl
seen (x ∷ xs) zero = refl
seen (x ∷ xs) (suc i) = seen xs i

pub views : (xs : List Slot) → length (map slot_view xs) ≡ length xs
views [] = refl
views (x ∷ xs) = ap suc (views xs)

seen_datum : (x : Slot) (d : ℕ) → slot_view x ≡ DatumOf d → x ≡ Slots.Datum d
seen_datum Slots.Absent d e = absurd (cc)
seen_datum (Slots.Datum k) d e = let q : k ≡ d = cc in ap (λ n. Slots.Datum n) q
seen_datum (Slots.Literal k n) d e = absurd (cc)

some_none : {X : Type 0} (r : Option X) (x : X) → r ≡ Some x → r ≡ None → ⊥
some_none r x s n = let e : Some x ≡ None = sym s ∙ n in absurd cc

-- what was there is there
abbrev pub Kept : Store → Store → Type 0
Kept s t = (d : ℕ) (x : Datum) → at s d ≡ Some x → at t d ≡ Some x

-- what was not there later was not there before
free_before : (s t : Store) (d : ℕ) → ((x : Datum) → at s d ≡ Some x → at t d ≡ Some x) → at t d ≡ None → at s d ≡ None
free_before s t d k e = by (at s d) refl
  where
    by : (r : Option Datum) → at s d ≡ r → at s d ≡ None
    by None q = q
    by (Some x) q = absurd (some_none (at t d) x (k x q) e)

module _ (own : List LocalVariable) where
  -- the data of one instance: told by its slots
  pub record Stored (first : ℕ → Option Scalar) (f : Frame) (s t : Store) : Type 0 where
    pub absent : (i : ℕ) (o : LocalVariable) → i < length own → slice_get own i ≡ Some o → o.reads + o.writes ≡ 0 → nth Absent f.slots i ≡ Absent
    pub key : (i : ℕ) (o : LocalVariable) → i < length own → slice_get own i ≡ Some o → 0 < o.reads + o.writes → (d : ℕ) × (nth Absent f.slots i ≡ DatumOf d) × (at s d ≡ None) × (at t d ≡ Some (new_datum o (first i)))
    pub apart : (i j d : ℕ) → i < length own → j < length own → nth Absent f.slots i ≡ DatumOf d → nth Absent f.slots j ≡ DatumOf d → i ≡ j

  stored_one : (first : ℕ → Option Scalar) (f : Frame) (xs : List Slot) (s t : Store) → f.slots ≡ map slot_view xs → DataMade own first (length own) s xs t → Stored first f s t
  stored_one first f xs s t e m = record {
    absent = λ i o h g z. here i ∙ ap slot_view (m.absent i o h g z);
    key = λ i o h g p. let n = m.made i o h g p in (n.key, here i ∙ ap slot_view n.slot_is, n.was_free, n.has);
    apart = λ i j d h k a b. m.apart i j d h k (seen_datum (slot_in xs i) d (sym (here i) ∙ a)) (seen_datum (slot_in xs j) d (sym (here j) ∙ b));
  }
    where
      here : (i : ℕ) → nth Absent f.slots i ≡ slot_view (slot_in xs i)
      here i = ap (λ (ys : List Pure.Slot). nth Absent ys i) e ∙ seen xs i

  -- the same in more data
  stored_within : (first : ℕ → Option Scalar) (f : Frame) (r s t u : Store) → Kept r s → Kept t u → Stored first f s t → Stored first f r u
  stored_within first f r s t u before after m = record {
    absent = m.absent;
    key = λ i o h g p. let n = m.key i o h g p in (n.0, n.1, free_before r s n.0 (before n.0) n.2, after n.0 (new_datum o (first i)) n.3);
    apart = m.apart;
  }

  -- a slot of its own data that names a datum names a new one
  pub named : (first : ℕ → Option Scalar) (f : Frame) (s t : Store) → Stored first f s t → (i d : ℕ) → i < length own → nth Absent f.slots i ≡ DatumOf d → (o : LocalVariable) × (slice_get own i ≡ Some o) × (0 < o.reads + o.writes) × (at s d ≡ None) × (at t d ≡ Some (new_datum o (first i)))
  named first f s t m i d h e = by own refl
    where
      by : (zs : List LocalVariable) → own ≡ zs → (o : LocalVariable) × (slice_get own i ≡ Some o) × (0 < o.reads + o.writes) × (at s d ≡ None) × (at t d ≡ Some (new_datum o (first i)))
      by [] q = absurd (omega (arith, h, ap (λ (zs : List LocalVariable). length zs) q))
      by (z ∷ zs) q = of _ (slice_get-get_or own i z h)
        where
          of : (o : LocalVariable) → slice_get own i ≡ Some o → (o : LocalVariable) × (slice_get own i ≡ Some o) × (0 < o.reads + o.writes) × (at s d ≡ None) × (at t d ≡ Some (new_datum o (first i)))
          of o g = elim (cases_eq (o.reads + o.writes) 0) [
            | inl n ↦ (let w : Absent ≡ DatumOf d = sym (m.absent i o h g n) ∙ e in absurd cc)
            | inr p ↦ (let k = m.key i o h g (omega (arith, p)) in
                let w : DatumOf k.0 ≡ DatumOf d = sym k.1 ∙ e in
                let c : k.0 ≡ d = cc in
                (o, g, omega (arith, p), ap (at s) (sym c) ∙ k.2, ap (at t) (sym c) ∙ k.3))
          ]

  module _ (slots : TurnSlots) where
    -- instances that were put in are those that were filled, in order
    abbrev pub Placed : List Put → List PendingInstance → Type 0
    Placed [] [] = Unit {0}
    Placed (q ∷ qs) (p ∷ ps) = (q.frame ≡ opening_frame p) × Placed qs ps
    Placed [] (p ∷ ps) = ⊥
    Placed (q ∷ qs) [] = ⊥

    pub kept_all : (os ps : List PendingInstance) (s t : Store) → ((o : PendingInstance) → In o os → HasSlots (length own) o) → AreFilled own slots os s ps t → Kept s t
    kept_all [] [] s t all e = λ d x h. ap (λ u. at u d) e ∙ h
    kept_all (o ∷ os) (p ∷ ps) s t all f = λ d x h. kept_all os ps f.0 t (λ z i. all z (inr i)) f.2 d x ((f.1.makes (all o (inl refl))).older d x h)
    kept_all [] (p ∷ ps) s t all f = absurd f
    kept_all (o ∷ os) [] s t all f = absurd f

    -- one of the instances, with the opening that it was
    pub record OneStored (os : List PendingInstance) (q : Put) (s t : Store) : Type 0 where
      pub was : PendingInstance
      pub is_in : In was os
      pub frame : q.frame ≡ record { parent = (opening_frame was).parent; level = (opening_frame was).level; depth = (opening_frame was).depth; way = (opening_frame was).way; body = (opening_frame was).body; live = (opening_frame was).live; slots = q.frame.slots }
      pub stored : Stored (start_at (starts_of slots was)) q.frame s t
      pub tail : (i : ℕ) → length own ≤ i → nth Absent q.frame.slots i ≡ nth Absent (opening_frame was).slots i
      pub count : length q.frame.slots ≡ length (opening_frame was).slots

    head_stored : (o p : PendingInstance) (q : Put) (s m : Store) → HasSlots (length own) o → Fills own slots o s p m → q.frame ≡ opening_frame p → Stored (start_at (starts_of slots o)) q.frame s m
    head_stored o p q s m h f e = stored_one (start_at (starts_of slots o)) q.frame p.instance.slots.items s m (ap (λ (z : Frame). z.slots) e) (f.makes h)

    pub each_stored : (os ps : List PendingInstance) (qs : List Put) (s t : Store) → ((o : PendingInstance) → In o os → HasSlots (length own) o) → AreFilled own slots os s ps t → Placed qs ps → (q : Put) → In q qs → OneStored os q s t
    each_stored [] [] [] s t all f p q i = absurd i
    each_stored (o ∷ os) (p ∷ ps) (r ∷ qs) s t all f e q i =
        elim i [
          | inl x ↦ subst (λ (z : Put). OneStored (o ∷ os) z s t) (sym x) (record {
            was = o;
            is_in = inl refl;
            frame = e.0 ∙ f.1.frame ∙ ap (λ (zs : List Pure.Slot). record { parent = (opening_frame o).parent; level = (opening_frame o).level; depth = (opening_frame o).depth; way = (opening_frame o).way; body = (opening_frame o).body; live = (opening_frame o).live; slots = zs }) (sym (ap (λ (z : Frame). z.slots) e.0));
            stored = stored_within (start_at (starts_of slots o)) r.frame s s f.0 t (λ d y h. h) (kept_all os ps f.0 t (λ z j. all z (inr j)) f.2) (head_stored o p r s f.0 (all o (inl refl)) f.1 e.0);
            tail = λ k h. ap (λ (z : Frame). nth Absent z.slots k) e.0 ∙ seen p.instance.slots.items k ∙ ap slot_view (f.1.others k h) ∙ sym (seen o.instance.slots.items k);
            count = ap (λ (z : Frame). length z.slots) e.0 ∙ views p.instance.slots.items ∙ f.1.count ∙ sym (views o.instance.slots.items);
          })
          | inr j ↦ (let one = each_stored os ps qs f.0 t (λ z k. all z (inr k)) f.2 e.1 q j in record {
            was = one.was;
            is_in = inr one.is_in;
            frame = one.frame;
            stored = stored_within (start_at (starts_of slots one.was)) q.frame s f.0 t t (f.1.makes (all o (inl refl))).older (λ d y h. h) one.stored;
            tail = one.tail;
            count = one.count;
          })
        ]
    each_stored [] [] (r ∷ qs) s t all f p q i = absurd p
    each_stored [] (x ∷ ps) qs s t all f p q i = absurd f
    each_stored (o ∷ os) [] qs s t all f p q i = absurd f
    each_stored (o ∷ os) (x ∷ ps) [] s t all f p q i = absurd p

    -- two slots that name the same datum are one slot of one instance
    pub all_apart : (os ps : List PendingInstance) (qs : List Put) (s t : Store) → ((o : PendingInstance) → In o os → HasSlots (length own) o) → AreFilled own slots os s ps t → Placed qs ps →
        (q r : Put) (i j d : ℕ) → In q qs → In r qs → i < length own → j < length own → nth Absent q.frame.slots i ≡ DatumOf d → nth Absent r.frame.slots j ≡ DatumOf d → (q ≡ r) × (i ≡ j)
    all_apart [] [] [] s t all f p q r i j d iq ir hi hj a b = absurd iq
    all_apart (o ∷ os) (p ∷ ps) (x ∷ qs) s t all f e q r i j d iq ir hi hj a b = by iq ir (λ u v. all_apart os ps qs f.0 t (λ y l. all y (inr l)) f.2 e.1 q r i j d u v hi hj a b)
      where
        one : Stored (start_at (starts_of slots o)) x.frame s f.0
        one = head_stored o p x s f.0 (all o (inl refl)) f.1 e.0

        rest : (z : Put) → In z qs → OneStored os z f.0 t
        rest z k = each_stored os ps qs f.0 t (λ y l. all y (inr l)) f.2 e.1 z k

        -- a datum of the first instance is none of a later one
        differ : (z : Put) (k l : ℕ) → In z qs → k < length own → l < length own → nth Absent x.frame.slots k ≡ DatumOf d → nth Absent z.frame.slots l ≡ DatumOf d → ⊥
        differ z k l iz hk hl u v =
            let m = named (start_at (starts_of slots o)) x.frame s f.0 one k d hk u in
            let n = named (start_at (starts_of slots (rest z iz).was)) z.frame f.0 t (rest z iz).stored l d hl v in
            some_none (at f.0 d) (new_datum m.0 (start_at (starts_of slots o) k)) m.4 n.3

        by : In q (x ∷ qs) → In r (x ∷ qs) → (In q qs → In r qs → (q ≡ r) × (i ≡ j)) → (q ≡ r) × (i ≡ j)
        by (inl u) (inl v) more = (u ∙ sym v, one.apart i j d hi hj (subst (λ (z : Put). nth Absent z.frame.slots i ≡ DatumOf d) u a) (subst (λ (z : Put). nth Absent z.frame.slots j ≡ DatumOf d) v b))
        by (inl u) (inr v) more = absurd (differ r i j v hi hj (subst (λ (z : Put). nth Absent z.frame.slots i ≡ DatumOf d) u a) b)
        by (inr u) (inl v) more = absurd (differ q j i u hj hi (subst (λ (z : Put). nth Absent z.frame.slots j ≡ DatumOf d) v b) a)
        by (inr u) (inr v) more = more u v
    all_apart [] [] (x ∷ qs) s t all f p q r i j d iq ir hi hj a b = absurd p
    all_apart [] (x ∷ ps) qs s t all f p q r i j d iq ir hi hj a b = absurd f
    all_apart (o ∷ os) [] qs s t all f p q r i j d iq ir hi hj a b = absurd f
    all_apart (o ∷ os) (x ∷ ps) [] s t all f p q r i j d iq ir hi hj a b = absurd p

    -- nothing else was made
    pub only_stored : (os ps : List PendingInstance) (qs : List Put) (s t : Store) → ((o : PendingInstance) → In o os → HasSlots (length own) o) → AreFilled own slots os s ps t → Placed qs ps → (d : ℕ) (y : Datum) → at t d ≡ Some y →
        (at s d ≡ Some y) ⊎ ((q : Put) × (i : ℕ) × In q qs × (i < length own) × (nth Absent q.frame.slots i ≡ DatumOf d))
    only_stored [] [] [] s t all f p d y h = inl (ap (λ u. at u d) (sym f) ∙ h)
    only_stored (o ∷ os) (p ∷ ps) (x ∷ qs) s t all f e d y h =
        elim (only_stored os ps qs f.0 t (λ z k. all z (inr k)) f.2 e.1 d y h) [
          | inl was ↦ elim ((f.1.makes (all o (inl refl))).only d y was) [
            | inl old ↦ inl old
            | inr new ↦ inr (x, new.0, inl refl, new.1, ap (λ (z : Frame). nth Absent z.slots new.0) e.0 ∙ seen p.instance.slots.items new.0 ∙ ap slot_view new.2)
          ]
          | inr later ↦ inr (later.0, later.1, inr later.2, later.3, later.4)
        ]
    only_stored [] [] (x ∷ qs) s t all f p d y h = absurd p
    only_stored [] (x ∷ ps) qs s t all f p d y h = absurd f
    only_stored (o ∷ os) [] qs s t all f p d y h = absurd f
    only_stored (o ∷ os) (x ∷ ps) [] s t all f p d y h = absurd p

-- from the equation of lists
pub placed : (own : List LocalVariable) (slots : TurnSlots) (qs : List Put) (ps : List PendingInstance) → map (λ (p : Put). p.frame) qs ≡ map opening_frame ps → Placed own slots qs ps
placed own slots [] [] e = tt
placed own slots (q ∷ qs) (p ∷ ps) e =
    let h : q.frame ≡ opening_frame p = cc in
    let t : map (λ (p : Put). p.frame) qs ≡ map opening_frame ps = cc in
    (h, placed own slots qs ps t)
placed own slots [] (p ∷ ps) e = absurd (cc)
placed own slots (q ∷ qs) [] e = absurd (cc)
