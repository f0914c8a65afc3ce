-- Of a state without free data: what a step leaves is told by the item that the event names.
use Rattle.std.proofs.Common.{◌≡◌, ◌⊎◌, inl, inr, ℕ, Bool, true, false, List, [], ◌∷◌, ◌++◌, refl, sym, ap, ◌∙◌, subst, Option, None, Some}
use Rattle.dataflow.specs.System.{In, Answer, Write, makes_of, tasks_of, Outcome, Good, Bad, System}
use Rattle.dataflow.specs.Machine.{Item, Fault, OfTask, ElementTwice, State, Event, Begin, End, Back, ended, new_items, ClosedByRights, Free, Leaves, After, Step, start}
use Rattle.dataflow.proofs.Lists.{in_left, in_right, seam_in, in_seam, seam_here}
use Rattle.board_history.specs.Replay.{Tests, AreTests, Spot, find, has_reader, has_writer, is_by, unless_fault, is_used, places_left, stored_left, tidied, answers, clashes, marked, begun, given_back, state_after, finished, happens, named, next_state, replayed_from, replayed}
use Rattle.board_history.specs.Tidy.{FaultOnly, IsBare, MarksOnly, OnlyItsOwn}
use Rattle.board_history.proofs.Tests.{choose, none_some, used_not_free, unused_free, a_reader, a_writer, no_reader, no_writer}
use Rattle.board_history.proofs.Next.{find_at, by_sound}

module _ {T D K V E : Type 0} (S : System T D K V E) (X : Tests D K V) (R : AreTests S X) where
  -- the values of free data have gone too
  values_used : (s : State T D K V E) (v : Write D K V) (ws : List (Write D K V)) → In v (stored_left S X s.items ws) → Free S s v.place → ⊥
  values_used s v [] = λ h f. h
  values_used s v (w ∷ ws) =
      choose (λ (l : List (Write D K V)). In v l → Free S s v.place → ⊥) (is_used S X s.items w.place) (w ∷ stored_left S X s.items ws) (stored_left S X s.items ws)
      (λ t h f. elim h [ inl p ↦ used_not_free S X R s w.place t (subst (λ (x : Write D K V). Free S s x.place) p f) | inr i ↦ values_used s v ws i f ])
      (λ t h f. values_used s v ws h f)

  places_used : (s : State T D K V E) (a : D) (ds : List D) → In a (places_left S X s.items ds) → Free S s a → ⊥
  places_used s a [] = λ h f. h
  places_used s a (d ∷ ds) =
      choose (λ (l : List D). In a l → Free S s a → ⊥) (is_used S X s.items d) (d ∷ places_left S X s.items ds) (places_left S X s.items ds)
      (λ t h f. elim h [ inl p ↦ used_not_free S X R s d t (subst (λ (x : D). Free S s x) p f) | inr i ↦ places_used s a ds i f ])
      (λ t h f. places_used s a ds h f)

  free_of : (s t : State T D K V E) (a : D) → t.items ≡ s.items → Free S t a → Free S s a
  free_of s t a p f = record {
    unread = λ i h m. f.unread i (subst (λ (is : List (Item T)). In i is) (sym p) h) m;
    unwritten = λ i h m. f.unwritten i (subst (λ (is : List (Item T)). In i is) (sym p) h) m;
  }

  tidied_bare : (s : State T D K V E) → IsBare S (tidied S X s)
  tidied_bare s = record {
    places = λ a h f. places_used s a s.places h (free_of s (tidied S X s) a refl f);
    values = λ w h f. values_used s w s.stored h (free_of s (tidied S X s) w.place refl f);
  }

  -- where nothing is free, nothing leaves
  all_places : (s : State T D K V E) (ds : List D) → ((a : D) → In a ds → Free S s a → ⊥) → places_left S X s.items ds ≡ ds
  all_places s [] n = refl
  all_places s (d ∷ ds) n =
      choose (λ (l : List D). l ≡ d ∷ ds) (is_used S X s.items d) (d ∷ places_left S X s.items ds) (places_left S X s.items ds)
      (λ t. ap (λ (l : List D). d ∷ l) (all_places s ds (λ a i. n a (inr i))))
      (λ t. absurd (n d (inl refl) (unused_free S X R s d t)))

  all_values : (s : State T D K V E) (ws : List (Write D K V)) → ((w : Write D K V) → In w ws → Free S s w.place → ⊥) → stored_left S X s.items ws ≡ ws
  all_values s [] n = refl
  all_values s (w ∷ ws) n =
      choose (λ (l : List (Write D K V)). l ≡ w ∷ ws) (is_used S X s.items w.place) (w ∷ stored_left S X s.items ws) (stored_left S X s.items ws)
      (λ t. ap (λ (l : List (Write D K V)). w ∷ l) (all_values s ws (λ v i. n v (inr i))))
      (λ t. absurd (n w (inl refl) (unused_free S X R s w.place t)))

  bare_stays : (s : State T D K V E) → IsBare S s → tidied S X s ≡ s
  bare_stays s b =
      let p = all_places s s.places b.places in
      let q = all_values s s.stored b.values in
      λ k. record { places = p k; stored = q k; items = s.items; next = s.next; lines = s.lines; fault = s.fault }

  -- a status changes no rights
  marked_free : (s : State T D K V E) (x : Spot T) (r : Option ℕ) → s.items ≡ x.before ++ x.item ∷ x.after → (a : D) → Free S (marked S X s x r) a → Free S s a
  marked_free s x r at a f = record {
    unread = λ i h m. by S.may_read f.unread i (subst (λ (is : List (Item T)). In i is) at h) m;
    unwritten = λ i h m. by S.may_write f.unwritten i (subst (λ (is : List (Item T)). In i is) at h) m;
  }
    where
      by : (rights : T → List D) → ((i : Item T) → In i (marked S X s x r).items → In a (rights i.task) → ⊥) → (i : Item T) → In i (x.before ++ x.item ∷ x.after) → In a (rights i.task) → ⊥
      by rights n i h m =
          elim (in_seam i x.item x.before x.after h) [
            | inl g ↦ n i (seam_in i (record { number = x.item.number; task = x.item.task; runs = r }) x.before x.after g) m
            | inr p ↦ n (record { number = x.item.number; task = x.item.task; runs = r }) (seam_here (record { number = x.item.number; task = x.item.task; runs = r }) x.before x.after) (subst (λ (j : Item T). In a (rights j.task)) p m)
          ]

  marked_bare : (s : State T D K V E) (x : Spot T) (r : Option ℕ) → s.items ≡ x.before ++ x.item ∷ x.after → IsBare S s → IsBare S (marked S X s x r)
  marked_bare s x r at b = record {
    places = λ a h f. b.places a h (marked_free s x r at a f);
    values = λ w h f. b.values w h (marked_free s x r at w.place f);
  }

  -- each next state is one whose free data have been taken out
  after_tidied : (s : State T D K V E) (t : T) (others : List (Item T)) (r : Outcome T D K V E) → (m : State T D K V E) × (tidied S X m ≡ state_after S X s t others r)
  after_tidied s t others (Bad f) = (_, refl)
  after_tidied s t others (Good e) =
      choose (λ (z : State T D K V E). (m : State T D K V E) × (tidied S X m ≡ z)) (clashes S X s.stored e.writes) _ _
      (λ b. (_, refl))
      (λ b. (_, refl))

  begun_is : (s : State T D K V E) (w : ℕ) (x : Spot T) (r : Option ℕ) (o : Option (List (Answer K V))) (t : State T D K V E) → begun S X s w x r o ≡ Some t → tidied S X (marked S X s x (Some w)) ≡ t
  begun_is s w x (Some v) o t h = none_some h
  begun_is s w x None None t h = none_some h
  begun_is s w x None (Some xs) t h = cc

  back_is : (s : State T D K V E) (x : Spot T) (b : Bool) (t : State T D K V E) → given_back S X s x b ≡ Some t → tidied S X (marked S X s x None) ≡ t
  back_is s x false t h = none_some h
  back_is s x true t h = cc

  finished_is : (s : State T D K V E) (x : Spot T) (b : Bool) (o : Option (List (Answer K V))) (t : State T D K V E) → finished S X s x b o ≡ Some t → (m : State T D K V E) × (tidied S X m ≡ t)
  finished_is s x false o t h = none_some h
  finished_is s x true None t h = none_some h
  finished_is s x true (Some xs) t h =
      let a = after_tidied s x.item.task (x.before ++ x.after) (S.effect x.item.task xs) in
      let e : state_after S X s x.item.task (x.before ++ x.after) (S.effect x.item.task xs) ≡ t = cc in
      (a.0, a.1 ∙ e)

  no_fault_then : (s : State T D K V E) (f : Option (T × Fault E)) (r : Option (State T D K V E)) (t : State T D K V E) → unless_fault f r ≡ Some t → r ≡ Some t
  no_fault_then s None r t h = h
  no_fault_then s (Some x) r t h = none_some h

  happens_tidied : (s : State T D K V E) (e : Event) (r : Option (Spot T)) (t : State T D K V E) → happens S X s e r ≡ Some t → (m : State T D K V E) × (tidied S X m ≡ t)
  happens_tidied s e None t h = none_some h
  happens_tidied s (Begin w n) (Some x) t h = (_, begun_is s w x x.item.runs (answers S X s (S.inputs x.item.task)) t h)
  happens_tidied s (End w n) (Some x) t h = finished_is s x (is_by w x.item.runs) (answers S X s (S.inputs x.item.task)) t h
  happens_tidied s (Back w n) (Some x) t h = (_, back_is s x (is_by w x.item.runs) t h)

  pub next_bare : (s : State T D K V E) (e : Event) (t : State T D K V E) → next_state S X s e ≡ Some t → IsBare S t
  next_bare s e t h =
      let r = happens_tidied s e (find (named S X e) s.items) t (no_fault_then s s.fault (happens S X s e (find (named S X e) s.items)) t h) in
      subst (λ (z : State T D K V E). IsBare S z) r.1 (tidied_bare r.0)

  start_bare : IsBare S (start S)
  start_bare = record { places = λ a i f. i; values = λ w i f. i }

  bare_from : (es : List Event) (s t : State T D K V E) → IsBare S s → replayed_from S X (Some s) es ≡ Some t → IsBare S t
  bare_from [] s t b h = let e : s ≡ t = cc in subst (λ (z : State T D K V E). IsBare S z) e b
  bare_from (e ∷ es) s t b h = by (λ m c g. bare_from es m t c g) (next_state S X s e) refl h
    where
      by : ((m : State T D K V E) → IsBare S m → replayed_from S X (Some m) es ≡ Some t → IsBare S t) → (r : Option (State T D K V E)) → next_state S X s e ≡ r → replayed_from S X r es ≡ Some t → IsBare S t
      by ih None q h = none_some (sym (gone es) ∙ h)
        where
          gone : (fs : List Event) → replayed_from S X None fs ≡ None
          gone [] = refl
          gone (f ∷ fs) = refl
      by ih (Some m) q h = ih m (next_bare s e m q) h

  -- a replayed state has nothing of a free datum
  pub replayed_bare : (es : List Event) (s : State T D K V E) → replayed S X es ≡ Some s → IsBare S s
  replayed_bare es s h = bare_from es (start S) s start_bare h

  -- beginning and giving back change one status
  marks : (s t : State T D K V E) (n : ℕ) (r : Option ℕ) (x : Spot T) → (s.items ≡ x.before ++ x.item ∷ x.after) × (x.item.number ≡ n) → IsBare S s → tidied S X (marked S X s x r) ≡ t → MarksOnly S s n r t
  marks s t n r x at b h = record {
    before = x.before;
    item = x.item;
    after = x.after;
    number_is = at.1;
    there = at.0;
    is = sym h ∙ bare_stays (marked S X s x r) (marked_bare s x r at.0 b);
  }

  pub begin_statuses : (s t : State T D K V E) (w n : ℕ) → IsBare S s → next_state S X s (Begin w n) ≡ Some t → MarksOnly S s n (Some w) t
  begin_statuses s t w n b h = by (find n s.items) refl (no_fault_then s s.fault (happens S X s (Begin w n) (find n s.items)) t h)
    where
      by : (r : Option (Spot T)) → find n s.items ≡ r → happens S X s (Begin w n) r ≡ Some t → MarksOnly S s n (Some w) t
      by None q h = none_some h
      by (Some x) q h = marks s t n (Some w) x (find_at n s.items x q) b (begun_is s w x x.item.runs (answers S X s (S.inputs x.item.task)) t h)

  pub back_statuses : (s t : State T D K V E) (w n : ℕ) → IsBare S s → next_state S X s (Back w n) ≡ Some t → MarksOnly S s n None t
  back_statuses s t w n b h = by (find n s.items) refl (no_fault_then s s.fault (happens S X s (Back w n) (find n s.items)) t h)
    where
      by : (r : Option (Spot T)) → find n s.items ≡ r → happens S X s (Back w n) r ≡ Some t → MarksOnly S s n None t
      by None q h = none_some h
      by (Some x) q h = marks s t n None x (find_at n s.items x q) b (back_is s x (is_by w x.item.runs) t h)

  -- an End with a fault changes nothing else
  abbrev with_fault : State T D K V E → T → Fault E → State T D K V E
  with_fault s u f = record { places = s.places; stored = s.stored; items = s.items; next = s.next; lines = s.lines; fault = Some (u, f) }

  fault_stays : (s : State T D K V E) (u : T) (f : Fault E) → IsBare S s → tidied S X (with_fault s u f) ≡ with_fault s u f
  fault_stays s u f b =
      bare_stays (with_fault s u f) (record {
        places = λ a h g. b.places a h (free_of s (with_fault s u f) a refl g);
        values = λ w h g. b.values w h (free_of s (with_fault s u f) w.place refl g);
      })

  after_fault : (s t : State T D K V E) (u : T) (others : List (Item T)) → IsBare S s → (t.fault ≡ None → ⊥) → (r : Outcome T D K V E) → state_after S X s u others r ≡ t → (f : Fault E) × (t ≡ with_fault s u f)
  after_fault s t u others b n (Bad f) = λ h. (OfTask f, sym h ∙ fault_stays s u (OfTask f) b)
  after_fault s t u others b n (Good e) =
      choose (λ (z : State T D K V E). z ≡ t → (f : Fault E) × (t ≡ with_fault s u f)) (clashes S X s.stored e.writes) (tidied S X (record s { fault = Some (u, ElementTwice) })) (tidied S X (ended S s others e))
      (λ k h. (ElementTwice, sym h ∙ fault_stays s u ElementTwice b))
      (λ k h. absurd (n (ap (λ (z : State T D K V E). z.fault) (sym h))))

  fault_only : (s t : State T D K V E) (w n : ℕ) (x : Spot T) → (s.items ≡ x.before ++ x.item ∷ x.after) × (x.item.number ≡ n) → IsBare S s → (t.fault ≡ None → ⊥) → (c : Bool) → is_by w x.item.runs ≡ c → (o : Option (List (Answer K V))) → finished S X s x c o ≡ Some t → FaultOnly S s w n t
  fault_only s t w n x at b k false p o h = none_some h
  fault_only s t w n x at b k true p None h = none_some h
  fault_only s t w n x at b k true p (Some xs) h =
      let r = after_fault s t x.item.task (x.before ++ x.after) b k (S.effect x.item.task xs) cc in
      record { before = x.before; item = x.item; after = x.after; number_is = at.1; there = at.0; runs = by_sound w x.item.runs p; fault = r.0; is = r.1 }

  pub end_fault : (s t : State T D K V E) (w n : ℕ) → IsBare S s → next_state S X s (End w n) ≡ Some t → (t.fault ≡ None → ⊥) → FaultOnly S s w n t
  end_fault s t w n b h k = by (find n s.items) refl (no_fault_then s s.fault (happens S X s (End w n) (find n s.items)) t h)
    where
      by : (r : Option (Spot T)) → find n s.items ≡ r → happens S X s (End w n) r ≡ Some t → FaultOnly S s w n t
      by None q g = none_some g
      by (Some x) q g = fault_only s t w n x (find_at n s.items x q) b k (is_by w x.item.runs) refl (answers S X s (S.inputs x.item.task)) g

  -- what leaves and what closes at an End
  own_of : (s : State T D K V E) (a : D) → (Free S s a → ⊥) → ((i : Item T) × In i s.items × In a (S.may_read i.task)) ⊎ ((i : Item T) × In i s.items × In a (S.may_write i.task))
  own_of s a n = by (has_reader S X s.items a) refl (has_writer S X s.items a) refl
    where
      by : (b : Bool) → has_reader S X s.items a ≡ b → (c : Bool) → has_writer S X s.items a ≡ c → ((i : Item T) × In i s.items × In a (S.may_read i.task)) ⊎ ((i : Item T) × In i s.items × In a (S.may_write i.task))
      by true p c q = inl (a_reader S X R s.items a p)
      by false p true q = inr (a_writer S X R s.items a q)
      by false p false q = absurd (n (record { unread = no_reader S X R s.items a p; unwritten = no_writer S X R s.items a q }))

  module _ (s t : State T D K V E) (item : Item T) (before after more : List (Item T)) (at : s.items ≡ before ++ item ∷ after) (new : t.items ≡ (before ++ after) ++ more) where
    other_stays : (i : Item T) → In i s.items → In i t.items ⊎ (i ≡ item)
    other_stays i h =
        elim (in_seam i item before after (subst (λ (is : List (Item T)). In i is) at h)) [
          | inl g ↦ inl (subst (λ (is : List (Item T)). In i is) (sym new) (in_left i (before ++ after) more g))
          | inr p ↦ inr p
        ]

    only_own : IsBare S s → ((a : D) → In a s.places → (In a t.places → ⊥) → Free S t a) → OnlyItsOwn S s item.task t
    only_own b gone = record { leaves = leaves; closes = closes }
      where
        leaves : (a : D) → In a s.places → (In a t.places → ⊥) → In a (S.may_read item.task) ⊎ In a (S.may_write item.task)
        leaves a h n =
            let f = gone a h n in
            elim (own_of s a (b.places a h)) [
              | inl r ↦ elim (other_stays r.0 r.1) [ inl g ↦ absurd (f.unread r.0 g r.2) | inr p ↦ inl (subst (λ (i : Item T). In a (S.may_read i.task)) p r.2) ]
              | inr r ↦ elim (other_stays r.0 r.1) [ inl g ↦ absurd (f.unwritten r.0 g r.2) | inr p ↦ inr (subst (λ (i : Item T). In a (S.may_write i.task)) p r.2) ]
            ]

        closes : (a : D) → In a s.places → ClosedByRights S t a → ClosedByRights S s a ⊎ In a (S.may_write item.task)
        closes a h c = by (has_writer S X s.items a) refl
          where
            by : (d : Bool) → has_writer S X s.items a ≡ d → ClosedByRights S s a ⊎ In a (S.may_write item.task)
            by false p = inl (record { there = h; nobody = no_writer S X R s.items a p })
            by true p =
                let r = a_writer S X R s.items a p in
                elim (other_stays r.0 r.1) [ inl g ↦ absurd (c.nobody r.0 g r.2) | inr q ↦ inr (subst (λ (i : Item T). In a (S.may_write i.task)) q r.2) ]

  some_none : {A B : Type 0} {x : A} → ◌≡◌ {A = Option A} (Some x) None → B
  some_none h = absurd (cc)

  left_free : (mid t : State T D K V E) → Leaves S mid t → (a : D) → In a mid.places → (In a t.places → ⊥) → Free S t a
  left_free mid t l a h n =
      elim (l.stays a h) [
        | inl i ↦ absurd (n i)
        | inr f ↦ free_of t mid a (sym l.items) f
      ]

  pub end_own : (s t : State T D K V E) (w n : ℕ) → IsBare S s → Step S s (End w n) t → t.fault ≡ None → (item : Item T) × In item s.items × (item.number ≡ n) × OnlyItsOwn S s item.task t
  end_own s t w n b x none =
      (x.1.item, subst (λ (is : List (Item T)). In x.1.item is) (sym x.1.at.items) (seam_here x.1.item x.1.before x.1.after), x.1.at.number_is, by (S.effect x.1.item.task x.1.answers) x.1.result)
    where
      by : (r : Outcome T D K V E) → After S s x.1.item.task (x.1.before ++ x.1.after) r t → OnlyItsOwn S s x.1.item.task t
      by (Bad f) l = some_none (sym l.fault ∙ none)
      by (Good e) (inl l) = some_none (sym l.1.fault ∙ none)
      by (Good e) (inr l) =
          only_own s t x.1.item x.1.before x.1.after (new_items s.next (tasks_of e.opens)) x.1.at.items l.1.items b
          (λ a h g. left_free _ t l.1 a (in_right a (makes_of e.opens) s.places h) g)
