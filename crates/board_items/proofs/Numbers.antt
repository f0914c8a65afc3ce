-- The numbers of items that were woken and of those behind the first ones; what items learn, told by members.
use Rattle.std.proofs.Common.{◌≡◌, ◌⊎◌, inl, inr, ◌∙◌, ℕ, zero, suc, ◌+◌, ◌<◌, ◌≤◌, Bool, true, false, List, [], ◌∷◌, map, refl, sym, ap, subst, arith}
use Rattle.std.specs.Prelude.{if◌then◌else◌}
use Rattle.dataflow.specs.System.{Distinct, In}
use Rattle.dataflow.proofs.Lists.{distinct_append, in_left, in_map, in_right, in_split}
use Rattle.board_history.proofs.Tests.{choose}
use Rattle.board_history.specs.Fields.{Waiter, Want}
use Rattle.board_items.specs.Ended.{numbers_behind}
use Rattle.board_data.specs.Wanted.{is_nil}
use Rattle.board_items.specs.Learnt.{left_to, served, waiting_on}

pub behind_first : (first count m : ℕ) → In m (numbers_behind first count) → (first < m) × (m ≤ first + count)
behind_first first zero m h = absurd h
behind_first first (suc n) m h =
    elim (in_split m (numbers_behind first n) ((first + suc n) ∷ []) h) [
      | inl g ↦ (let r = behind_first first n m g in let a = r.0 in let b = r.1 in (a, omega arith))
      | inr g ↦ elim g [ inl e ↦ (omega arith, omega arith) | inr f ↦ absurd f ]
    ]

pub first_behind : (first count m : ℕ) → first < m → m ≤ first + count → In m (numbers_behind first count)
first_behind first zero m a b = absurd (omega arith)
first_behind first (suc n) m a b = by (cases m (first + suc n) b) (first_behind first n m a)
  where
    cases : (x y : ℕ) → x ≤ y → (x ≡ y) ⊎ (x < y)
    cases zero zero h = inl refl
    cases zero (suc y) h = inr (omega arith)
    cases (suc x) zero h = absurd (omega arith)
    cases (suc x) (suc y) h = elim (cases x y (omega arith)) [ inl e ↦ inl (ap suc e) | inr l ↦ inr (omega arith) ]

    by : (m ≡ first + suc n) ⊎ (m < first + suc n) → (m ≤ first + n → In m (numbers_behind first n)) → In m (numbers_behind first (suc n))
    by (inl e) f = in_right m (numbers_behind first n) ((first + suc n) ∷ []) (inl e)
    by (inr l) f = in_left m (numbers_behind first n) ((first + suc n) ∷ []) (f (omega arith))

pub behind_once : (first count : ℕ) → Distinct (numbers_behind first count)
behind_once first zero = tt
behind_once first (suc n) =
    distinct_append (numbers_behind first n) ((first + suc n) ∷ []) (behind_once first n) ((λ h. h), tt)
    (λ m h g. elim g [ inl e ↦ (let r = (behind_first first n m h).1 in absurd (omega arith)) | inr f ↦ f ])

abbrev pub item_of : Waiter → ℕ
item_of w = w.item

module _ (known : List (Want ℕ)) where
  -- those that wait on
  pub record WaitsOn (vs : List Waiter) (w : Waiter) : Type 0 where
    pub was : Waiter
    pub there : In was vs
    pub same : was.item ≡ w.item
    pub missing_is : w.missing ≡ left_to known was
    pub some : left_to known was ≡ [] → ⊥

  pub waiting_was : (vs : List Waiter) (w : Waiter) → In w (waiting_on known vs) → WaitsOn vs w
  waiting_was [] w h = absurd h
  waiting_was (v ∷ vs) w h = by (left_to known v) refl (λ g. waiting_was vs w g)
    where
      later : WaitsOn vs w → WaitsOn (v ∷ vs) w
      later x = record { was = x.was; there = inr x.there; same = x.same; missing_is = x.missing_is; some = x.some }

      by : (us : List (Want ℕ)) → left_to known v ≡ us → (In w (waiting_on known vs) → WaitsOn vs w) → WaitsOn (v ∷ vs) w
      by [] e f = later (f (subst (λ (us : List (Want ℕ)). In w (if is_nil us then waiting_on known vs else record { item = v.item; missing = us } ∷ waiting_on known vs)) e h))
      by (u ∷ us) e f =
          elim (subst (λ (us : List (Want ℕ)). In w (if is_nil us then waiting_on known vs else record { item = v.item; missing = us } ∷ waiting_on known vs)) e h) [
            | inl p ↦ record { was = v; there = inl refl; same = ap item_of (sym p); missing_is = ap (λ (x : Waiter). x.missing) p ∙ sym e; some = λ z. no_nil (sym e ∙ z) }
            | inr g ↦ later (f g)
          ]
        where
          no_nil : ◌≡◌ {A = List (Want ℕ)} (u ∷ us) [] → ⊥
          no_nil z = absurd (cc)

  pub waiting_stays : (vs : List Waiter) (v : Waiter) → In v vs → (left_to known v ≡ [] → ⊥) → In (record { item = v.item; missing = left_to known v }) (waiting_on known vs)
  waiting_stays [] v h ne = absurd h
  waiting_stays (x ∷ vs) v (inl e) ne =
      subst (λ (y : Waiter). In (record { item = v.item; missing = left_to known v }) (if is_nil (left_to known y) then waiting_on known vs else record { item = y.item; missing = left_to known y } ∷ waiting_on known vs)) e (by (left_to known v) ne)
    where
      by : (us : List (Want ℕ)) → (us ≡ [] → ⊥) → In (record { item = v.item; missing = us }) (if is_nil us then waiting_on known vs else record { item = v.item; missing = us } ∷ waiting_on known vs)
      by [] ne = absurd (ne refl)
      by (u ∷ us) ne = inl refl
  waiting_stays (x ∷ vs) v (inr g) ne =
      choose (λ (l : List Waiter). In (record { item = v.item; missing = left_to known v }) l) (is_nil (left_to known x)) (waiting_on known vs) (record { item = x.item; missing = left_to known x } ∷ waiting_on known vs)
      (λ t. waiting_stays vs v g ne) (λ f. inr (waiting_stays vs v g ne))

  -- those that miss nothing of it
  pub record Served (vs : List Waiter) (m : ℕ) : Type 0 where
    pub was : Waiter
    pub there : In was vs
    pub same : was.item ≡ m
    pub none : left_to known was ≡ []

  pub served_was : (vs : List Waiter) (m : ℕ) → In m (served known vs) → Served vs m
  served_was [] m h = absurd h
  served_was (v ∷ vs) m h = by (left_to known v) refl (λ g. served_was vs m g)
    where
      later : Served vs m → Served (v ∷ vs) m
      later x = record { was = x.was; there = inr x.there; same = x.same; none = x.none }

      by : (us : List (Want ℕ)) → left_to known v ≡ us → (In m (served known vs) → Served vs m) → Served (v ∷ vs) m
      by [] e f =
          elim (subst (λ (us : List (Want ℕ)). In m (if is_nil us then v.item ∷ served known vs else served known vs)) e h) [
            | inl p ↦ record { was = v; there = inl refl; same = sym p; none = e }
            | inr g ↦ later (f g)
          ]
      by (u ∷ us) e f = later (f (subst (λ (us : List (Want ℕ)). In m (if is_nil us then v.item ∷ served known vs else served known vs)) e h))

  pub served_is : (vs : List Waiter) (v : Waiter) → In v vs → left_to known v ≡ [] → In v.item (served known vs)
  served_is [] v h e = absurd h
  served_is (x ∷ vs) v (inl p) e =
      subst (λ (y : Waiter). In v.item (if is_nil (left_to known y) then y.item ∷ served known vs else served known vs)) p
      (subst (λ (us : List (Want ℕ)). In v.item (if is_nil us then v.item ∷ served known vs else served known vs)) (sym e) (inl refl))
  served_is (x ∷ vs) v (inr g) e =
      choose (λ (l : List ℕ). In v.item l) (is_nil (left_to known x)) (x.item ∷ served known vs) (served known vs)
      (λ t. inr (served_is vs v g e)) (λ f. served_is vs v g e)

  -- each item is in one of the two, once
  item_waits : (vs : List Waiter) (m : ℕ) → In m (map item_of (waiting_on known vs)) → In m (map item_of vs)
  item_waits [] m h = absurd h
  item_waits (v ∷ vs) m h =
      choose (λ (l : List Waiter). In m (map item_of l) → In m (map item_of (v ∷ vs))) (is_nil (left_to known v)) (waiting_on known vs) (record { item = v.item; missing = left_to known v } ∷ waiting_on known vs)
      (λ t g. inr (item_waits vs m g)) (λ f g. elim g [ inl e ↦ inl e | inr i ↦ inr (item_waits vs m i) ]) h

  pub item_served : (vs : List Waiter) (m : ℕ) → In m (served known vs) → In m (map item_of vs)
  item_served vs m h = let r = served_was vs m h in subst (λ (k : ℕ). In k (map item_of vs)) r.same (in_map item_of r.was vs r.there)

  pub waiting_once : (vs : List Waiter) → Distinct (map item_of vs) → Distinct (map item_of (waiting_on known vs))
  waiting_once [] d = tt
  waiting_once (v ∷ vs) d =
      choose (λ (l : List Waiter). Distinct (map item_of l)) (is_nil (left_to known v)) (waiting_on known vs) (record { item = v.item; missing = left_to known v } ∷ waiting_on known vs)
      (λ t. waiting_once vs d.1) (λ f. ((λ i. d.0 (item_waits vs v.item i)), waiting_once vs d.1))

  pub served_once : (vs : List Waiter) → Distinct (map item_of vs) → Distinct (served known vs)
  served_once [] d = tt
  served_once (v ∷ vs) d =
      choose (λ (l : List ℕ). Distinct l) (is_nil (left_to known v)) (v.item ∷ served known vs) (served known vs)
      (λ t. ((λ i. d.0 (item_served vs v.item i)), served_once vs d.1)) (λ f. served_once vs d.1)

  pub served_apart : (vs : List Waiter) → Distinct (map item_of vs) → (m : ℕ) → In m (map item_of (waiting_on known vs)) → In m (served known vs) → ⊥
  served_apart [] d m h g = absurd h
  served_apart (v ∷ vs) d m h g = by (is_nil (left_to known v)) h g (λ a b. served_apart vs d.1 m a b)
    where
      by : (b : Bool) → In m (map item_of (if b then waiting_on known vs else record { item = v.item; missing = left_to known v } ∷ waiting_on known vs)) → In m (if b then v.item ∷ served known vs else served known vs) → (In m (map item_of (waiting_on known vs)) → In m (served known vs) → ⊥) → ⊥
      by true h g rest = elim g [ inl e ↦ d.0 (subst (λ (k : ℕ). In k (map item_of vs)) e (item_waits vs m h)) | inr i ↦ rest h i ]
      by false h g rest = elim h [ inl e ↦ d.0 (subst (λ (k : ℕ). In k (map item_of vs)) e (item_served vs m g)) | inr i ↦ rest i g ]
