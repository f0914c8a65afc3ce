-- The next state is one that the machine steps to, and there is one where the machine has a step.
use Rattle.std.proofs.Common.{◌≡◌, inl, inr, ℕ, Bool, true, false, List, [], ◌∷◌, ◌++◌, map, refl, sym, ap, ◌∙◌, subst, Option, None, Some, arith}
use Rattle.std.specs.Prelude.{nat_eq}
use Rattle.dataflow.specs.System.{In, Distinct, Answer, Outcome, Good, Bad, System}
use Rattle.dataflow.specs.Machine.{Item, Fault, ElementTwice, State, Event, Begin, End, Back, Enabled, ended, After, Step}
use Rattle.dataflow.specs.Data.{IsTidy}
use Rattle.dataflow.proofs.Lists.{in_map, in_right}
use Rattle.dataflow.proofs.Numbers.{number_of_item}
use Rattle.board_history.specs.Replay.{Tests, AreTests, Spot, further, find, is_by, unless_fault, answers, clashes, tidied, marked, begun, given_back, state_after, finished, happens, named, next_state}
use Rattle.board_history.proofs.Tests.{choose, yes_no, none_some, clashes_sound, clashes_not}
use Rattle.board_history.proofs.Tidied.{tidied_leaves, tidied_tidy}
use Rattle.board_history.proofs.Seen.{OneValue, answers_see, all_told, all_known}

pub nat_sound : (a b : ℕ) → nat_eq a b ≡ true → a ≡ b
nat_sound a b h = grind arith

pub nat_same : (a : ℕ) → nat_eq a a ≡ true
nat_same a = grind arith

-- the item that is found stands there
pub find_at : {T : Type 0} (n : ℕ) (is : List (Item T)) (x : Spot T) → find n is ≡ Some x → (is ≡ x.before ++ x.item ∷ x.after) × (x.item.number ≡ n)
find_at n [] x = λ h. none_some h
find_at {T} n (i ∷ is) x =
    choose (λ (r : Option (Spot T)). r ≡ Some x → (i ∷ is ≡ x.before ++ x.item ∷ x.after) × (x.item.number ≡ n)) (nat_eq i.number n) (Some (record { before = []; item = i; after = is })) (further i (find n is))
    (λ t h. let e : record { before = []; item = i; after = is } ≡ x = cc in
    subst (λ (y : Spot T). (i ∷ is ≡ y.before ++ y.item ∷ y.after) × (y.item.number ≡ n)) e (refl, nat_sound i.number n t))
    (λ t h. by (λ y q. find_at n is y q) (find n is) refl h)
  where
    by : ((y : Spot T) → find n is ≡ Some y → (is ≡ y.before ++ y.item ∷ y.after) × (y.item.number ≡ n)) → (r : Option (Spot T)) → find n is ≡ r → further i r ≡ Some x → (i ∷ is ≡ x.before ++ x.item ∷ x.after) × (x.item.number ≡ n)
    by ih None q h = none_some h
    by ih (Some y) q h =
        let e : record { before = i ∷ y.before; item = y.item; after = y.after } ≡ x = cc in
        let r = ih y q in
        subst (λ (z : Spot T). (i ∷ is ≡ z.before ++ z.item ∷ z.after) × (z.item.number ≡ n)) e (ap (λ (l : List (Item T)). i ∷ l) r.0, r.1)

-- the one item of a number is found
find_here : {T : Type 0} (before after : List (Item T)) (i : Item T) → Distinct (map number_of_item (before ++ i ∷ after)) → find i.number (before ++ i ∷ after) ≡ Some (record { before = before; item = i; after = after })
find_here {T} [] after i d =
    choose (λ (r : Option (Spot T)). r ≡ Some (record { before = []; item = i; after = after })) (nat_eq i.number i.number) (Some (record { before = []; item = i; after = after })) (further i (find i.number after))
    (λ t. refl)
    (λ t. yes_no (nat_same i.number) t)
find_here {T} (b ∷ before) after i d =
    choose (λ (r : Option (Spot T)). r ≡ Some (record { before = b ∷ before; item = i; after = after })) (nat_eq b.number i.number) (Some (record { before = []; item = b; after = before ++ i ∷ after })) (further b (find i.number (before ++ i ∷ after)))
    (λ t. absurd (d.0 (subst (λ (n : ℕ). In n (map number_of_item (before ++ i ∷ after))) (sym (nat_sound b.number i.number t)) (in_map number_of_item i (before ++ i ∷ after) (in_right i before (i ∷ after) (inl refl))))))
    (λ t. ap (further b) (find_here before after i d.1))

pub by_sound : (w : ℕ) (r : Option ℕ) → is_by w r ≡ true → r ≡ Some w
by_sound w None h = yes_no h refl
by_sound w (Some v) h = ap Some (nat_sound v w h)

by_told : (w : ℕ) (r : Option ℕ) → r ≡ Some w → is_by w r ≡ true
by_told w r h = subst (λ (o : Option ℕ). is_by w o ≡ true) (sym h) (nat_same w)

module _ {T D K V E : Type 0} (S : System T D K V E) (X : Tests D K V) (R : AreTests S X) (s : State T D K V E) where
  -- what a step gives: it is one of the machine's, and tidy
  abbrev Goes : Event → State T D K V E → Type 0
  Goes e t = Step S s e t × IsTidy S t

  abbrev At_ : ℕ → Spot T → Type 0
  At_ n x = (s.items ≡ x.before ++ x.item ∷ x.after) × (x.item.number ≡ n)

  after_is : (t : T) (others : List (Item T)) (r : Outcome T D K V E) → After S s t others r (state_after S X s t others r) × IsTidy S (state_after S X s t others r)
  after_is t others (Bad f) = (tidied_leaves S X R _, tidied_tidy S X R _)
  after_is t others (Good e) =
      choose (λ (z : State T D K V E). After S s t others (Good e) z × IsTidy S z) (clashes S X s.stored e.writes) (tidied S X (record s { fault = Some (t, ElementTwice) })) (tidied S X (ended S s others e))
      (λ b. (inl (clashes_sound S X R s e b, tidied_leaves S X R _), tidied_tidy S X R _))
      (λ b. (inr (clashes_not S X R s e b, tidied_leaves S X R _), tidied_tidy S X R _))

  module _ (one : OneValue S X R s) (ok : s.fault ≡ None) where
    begun_goes : (w n : ℕ) (x : Spot T) → At_ n x → (r : Option ℕ) → x.item.runs ≡ r → (o : Option (List (Answer K V))) → answers S X s (S.inputs x.item.task) ≡ o → (t : State T D K V E) → begun S X s w x r o ≡ Some t → Goes (Begin w n) t
    begun_goes w n x at (Some v) p o q t h = none_some h
    begun_goes w n x at None p None q t h = none_some h
    begun_goes w n x at None p (Some xs) q t h =
        let e : tidied S X (marked S X s x (Some w)) ≡ t = cc in
        subst (λ (z : State T D K V E). Goes (Begin w n) z) e (
          (
            ok,
            record {
              item = x.item;
              before = x.before;
              after = x.after;
              at = record { items = at.0; number_is = at.1 };
              idle = p;
              enabled = all_known S X R s (S.inputs x.item.task) xs (answers_see S X R s one (S.inputs x.item.task) xs q);
              result = tidied_leaves S X R _;
            },
          ),
          tidied_tidy S X R _,
        )

    back_goes : (w n : ℕ) (x : Spot T) → At_ n x → (b : Bool) → is_by w x.item.runs ≡ b → (t : State T D K V E) → given_back S X s x b ≡ Some t → Goes (Back w n) t
    back_goes w n x at false p t h = none_some h
    back_goes w n x at true p t h =
        let e : tidied S X (marked S X s x None) ≡ t = cc in
        subst (λ (z : State T D K V E). Goes (Back w n) z) e (
          (ok, record { item = x.item; before = x.before; after = x.after; at = record { items = at.0; number_is = at.1 }; runs = by_sound w x.item.runs p; result = tidied_leaves S X R _ }),
          tidied_tidy S X R _,
        )

    end_goes : (w n : ℕ) (x : Spot T) → At_ n x → (b : Bool) → is_by w x.item.runs ≡ b → (o : Option (List (Answer K V))) → answers S X s (S.inputs x.item.task) ≡ o → (t : State T D K V E) → finished S X s x b o ≡ Some t → Goes (End w n) t
    end_goes w n x at false p o q t h = none_some h
    end_goes w n x at true p None q t h = none_some h
    end_goes w n x at true p (Some xs) q t h =
        let e : state_after S X s x.item.task (x.before ++ x.after) (S.effect x.item.task xs) ≡ t = cc in
        let r = after_is x.item.task (x.before ++ x.after) (S.effect x.item.task xs) in
        subst (λ (z : State T D K V E). Goes (End w n) z) e (
          (
            ok,
            record {
              item = x.item;
              before = x.before;
              after = x.after;
              at = record { items = at.0; number_is = at.1 };
              runs = by_sound w x.item.runs p;
              answers = xs;
              known = answers_see S X R s one (S.inputs x.item.task) xs q;
              result = r.0;
            },
          ),
          r.1,
        )

    happens_goes : (e : Event) (r : Option (Spot T)) → find (named S X e) s.items ≡ r → (t : State T D K V E) → happens S X s e r ≡ Some t → Goes e t
    happens_goes e None q t h = none_some h
    happens_goes (Begin w n) (Some x) q t h =
        begun_goes w n x (find_at n s.items x q) x.item.runs refl (answers S X s (S.inputs x.item.task)) refl t h
    happens_goes (End w n) (Some x) q t h =
        end_goes w n x (find_at n s.items x q) (is_by w x.item.runs) refl (answers S X s (S.inputs x.item.task)) refl t h
    happens_goes (Back w n) (Some x) q t h = back_goes w n x (find_at n s.items x q) (is_by w x.item.runs) refl t h

  -- the next state is one that the machine steps to, and it is tidy
  pub next_goes : OneValue S X R s → (e : Event) (t : State T D K V E) → next_state S X s e ≡ Some t → Step S s e t × IsTidy S t
  next_goes one e t h = by s.fault refl h
    where
      by : (f : Option (T × Fault E)) → s.fault ≡ f → unless_fault f (happens S X s e (find (named S X e) s.items)) ≡ Some t → Goes e t
      by None q h = happens_goes one q e (find (named S X e) s.items) refl t h
      by (Some x) q h = none_some h

  -- where an item of the number stands, it is found
  module _ (one : OneValue S X R s) (once : Distinct (map number_of_item s.items)) (ok : s.fault ≡ None) where
    spot_is : (n : ℕ) (item : Item T) (before after : List (Item T)) → s.items ≡ before ++ item ∷ after → item.number ≡ n → find n s.items ≡ Some (record { before = before; item = item; after = after })
    spot_is n item before after at num =
        subst (λ (m : ℕ). find m s.items ≡ Some (record { before = before; item = item; after = after })) num
        (subst (λ (is : List (Item T)). find item.number is ≡ Some (record { before = before; item = item; after = after })) (sym at)
        (find_here before after item (subst (λ (is : List (Item T)). Distinct (map number_of_item is)) at once)))

    pub begins_next : (w n : ℕ) (item : Item T) (before after : List (Item T)) → s.items ≡ before ++ item ∷ after → item.number ≡ n → item.runs ≡ None → Enabled S s item.task → (t : State T D K V E) × (next_state S X s (Begin w n) ≡ Some t)
    begins_next w n item before after at num idle en =
        let x : Spot T = record { before = before; item = item; after = after } in
        let f = spot_is n item before after at num in
        let a = all_told S X R s one (S.inputs item.task) en in (
          tidied S X (marked S X s x (Some w)),
          (λ k. unless_fault (ok k) (happens S X s (Begin w n) (f k))) ∙ (λ k. begun S X s w x (idle k) (a.1 k)),
        )

    pub ends_next : (w n : ℕ) (item : Item T) (before after : List (Item T)) → s.items ≡ before ++ item ∷ after → item.number ≡ n → item.runs ≡ Some w → Enabled S s item.task → (t : State T D K V E) × (next_state S X s (End w n) ≡ Some t)
    ends_next w n item before after at num runs en =
        let x : Spot T = record { before = before; item = item; after = after } in
        let f = spot_is n item before after at num in
        let a = all_told S X R s one (S.inputs item.task) en in
        let b = by_told w item.runs runs in (
          state_after S X s item.task (before ++ after) (S.effect item.task a.0),
          (λ k. unless_fault (ok k) (happens S X s (End w n) (f k))) ∙ (λ k. finished S X s x (b k) (a.1 k)),
        )

    pub backs_next : (w n : ℕ) (item : Item T) (before after : List (Item T)) → s.items ≡ before ++ item ∷ after → item.number ≡ n → item.runs ≡ Some w → (t : State T D K V E) × (next_state S X s (Back w n) ≡ Some t)
    backs_next w n item before after at num runs =
        let x : Spot T = record { before = before; item = item; after = after } in
        let f = spot_is n item before after at num in
        let b = by_told w item.runs runs in (
          tidied S X (marked S X s x None),
          (λ k. unless_fault (ok k) (happens S X s (Back w n) (f k))) ∙ (λ k. given_back S X s x (b k)),
        )
