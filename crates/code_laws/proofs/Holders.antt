-- Who stores what is waited for: in a system whose scalars have sources, what an item waits for is known, or an item that is left may write it.
use Rattle.std.proofs.Common.{◌≡◌, ◌⊎◌, inl, inr, false, List, [], ◌∷◌, refl, sym, ap, subst}
use Rattle.dataflow.specs.System.{In, tasks_of, reads_of, Input, StoredScalar, ClosedArray, ElementOf, ElementAt, Opening, Effect, Good, System}
use Rattle.dataflow.specs.Facts.{Live, live_main, live_opened, Made, Comes}
use Rattle.dataflow.specs.Laws.{Can, Laws}
use Rattle.dataflow.specs.Log.{Logged, Ended, Waits, Stored, Ready, IsLog, log_start, log_step}
use Rattle.dataflow.specs.Machine.{Item, State, ClosedByRights, Holds, IsElementKnown, IsKnown}
use Rattle.dataflow.proofs.Frozen.{Within, live_grows, written_grows}
use Rattle.dataflow.proofs.Settled.{Settled, can_of_comes, live_valid}
use Rattle.dataflow.proofs.Runs.{ended_is, enabled_comes, not_before, run_settled}
use Rattle.dataflow.proofs.Lists.{in_tasks}
use Rattle.dataflow.proofs.Decide.{in_is, value_is}
use Rattle.dataflow.proofs.Known.{one_value}
use Rattle.dataflow.proofs.Follows.{Follows}

module _ {T D K V E : Type 0} (S : System T D K V E) where
  -- an effect stores the scalar, or a task that it opens may write it
  abbrev pub Supplies : Effect T D K V → D → Type 0
  Supplies e d = ((v : V) × In (record { place = d; key = S.only; value = v }) e.writes) ⊎ ((u : T) × In u (tasks_of e.opens) × In d (S.may_write u))

  -- a system whose scalars have sources; `Begun` holds of each live task
  pub record IsSourced : Type 1 where
    pub Begun : T → Type 0
    pub main_begun : Begun S.main
    pub opened_begun : (t u : T) (e : Effect T D K V) (o : Opening T D) → Begun t → Can S t e → In o e.opens → In u o.tasks → Begun u
    pub main_reads_nothing : (a : D) → In a (S.may_read S.main) → ⊥
    pub assigned : (t u : T) (e : Effect T D K V) (o : Opening T D) (d : D) → Begun t → Can S t e → In o e.opens → In u o.tasks → S.is_array d ≡ false → In d o.makes → In d (S.may_read u) → Supplies e d
    pub handed : (t : T) (e : Effect T D K V) (d : D) → Begun t → Can S t e → S.is_array d ≡ false → In d (S.may_write t) → Supplies e d

  -- the scalar has been stored, or a task that waits may write it
  abbrev pub IsHeld : List (T × Effect T D K V) → D → Type 0
  IsHeld log d = ((v : V) × Stored S log d S.only v) ⊎ ((w : T) × Waits S log w × In d (S.may_write w))

  -- an item that is left may write the place
  pub record IsAwaited (s : State T D K V E) (a : D) : Type 0 where
    pub item : Item T
    pub there : In item s.items
    pub right : In a (S.may_write item.task)

module _ {T D K V E : Type 0} (S : System T D K V E) (L : Laws S) (R : IsSourced S) where
  begun : (F : T → Effect T D K V → Type 0) → Settled S F → {t : T} → Live S F t → R.Begun t
  begun F s live_main = R.main_begun
  begun F s (live_opened t u e o l f io iu) = R.opened_begun t u e o (begun F s l) (can_of_comes S L F s (s.comes t e f)) io iu

  module _ (d : D) (scalar : S.is_array d ≡ false) where
    -- one step more
    module _ (t : T) (e : Effect T D K V) (log : List (T × Effect T D K V)) (r : IsLog S log) (en : Ready S log t (Good e)) where
      abbrev more : List (T × Effect T D K V)
      more = (t, e) ∷ log

      older : Within (Logged S log) (Logged S more)
      older u g i = inr i

      settled : Settled S (Logged S log)
      settled = (run_settled S L r).0

      comes : Comes S (Logged S log) t (Good e)
      comes = enabled_comes S L log (run_settled S L r).0 (run_settled S L r).1 en

      ended_now : In d (S.may_write t) → IsHeld S more d
      ended_now m = by (R.handed t e d (begun (Logged S log) settled en.waits.live) (can_of_comes S L (Logged S log) settled comes) scalar m)
        where
          by : Supplies S e d → IsHeld S more d
          by (inl x) = inl (x.0, record { task = t; effect = e; fact = inl refl; write = x.1 })
          by (inr x) =
              let o = in_tasks x.0 e.opens x.1 in
              inr (
                x.0,
                record {
                  live = live_opened t x.0 e o.0 (live_grows S (Logged S log) (Logged S more) older en.waits.live) (inl refl) o.1 o.2;
                  open_yet = not_before S L log (t, e) settled en.waits comes o.0 x.0 o.1 o.2;
                },
                x.2,
              )

      still_held : IsHeld S log d → IsHeld S more d
      still_held (inl x) = inl (x.0, written_grows S (Logged S log) (Logged S more) older x.1)
      still_held (inr x) = by (L.task_is x.0 t)
        where
          by : ((x.0 ≡ t) ⊎ (x.0 ≡ t → ⊥)) → IsHeld S more d
          by (inl p) = ended_now (subst (λ (u : T). In d (S.may_write u)) p x.2)
          by (inr n) =
              inr (
                x.0,
                record {
                  live = live_grows S (Logged S log) (Logged S more) older x.1.live;
                  open_yet = λ y. elim y.fact [
                    | inl q ↦ n (ap (λ (z : T × Effect T D K V). z.0) q)
                    | inr i ↦ x.1.open_yet (record { effect = y.effect; fact = i })
                  ];
                },
                x.2,
              )

      next_held : ((u : T) → Live S (Logged S log) u → In d (S.may_write u) → IsHeld S log d) → (u : T) → Live S (Logged S more) u → In d (S.may_write u) → IsHeld S more d
      next_held before u l m = by (ended_is S L more u)
        where
          by : (Ended S more u ⊎ (Ended S more u → ⊥)) → IsHeld S more d
          by (inr n) = inr (u, record { live = l; open_yet = n }, m)
          by (inl x) =
              elim x.fact [
                | inl q ↦ ended_now (subst (λ (y : T). In d (S.may_write y)) (ap (λ (z : T × Effect T D K V). z.0) q) m)
                | inr i ↦ still_held (before u (settled.comes u x.effect i).live m)
              ]

    -- once a live task may write a scalar, it is stored or somebody may
    held : {log : List (T × Effect T D K V)} → IsLog S log → (u : T) → Live S (Logged S log) u → In d (S.may_write u) → IsHeld S log d
    held log_start u l m = by l m
      where
        by : {u : T} → Live S (Logged S []) u → In d (S.may_write u) → IsHeld S [] d
        by live_main m = absurd (L.main_writes_nothing d m)
        by (live_opened t u e o l f io iu) m = absurd f
    held (log_step t e log r en new) u l m = next_held t e log r en (λ u l m. held r u l m) u l m

    -- and so for one that a live task may read
    supplied : {log : List (T × Effect T D K V)} → IsLog S log → {u : T} → Live S (Logged S log) u → In d (S.may_read u) → IsHeld S log d
    supplied r live_main m = absurd (R.main_reads_nothing d m)
    supplied {log} r (live_opened t u e o l f io iu) m =
        by_cover (L.opens_reads t u e o d can io iu m) (λ h. supplied r l h)
      where
        can : Can S t e
        can = can_of_comes S L (Logged S log) (run_settled S L r).0 ((run_settled S L r).0.comes t e f)

        by : Supplies S e d → IsHeld S log d
        by (inl x) = inl (x.0, record { task = t; effect = e; fact = f; write = x.1 })
        by (inr x) = (let p = in_tasks x.0 e.opens x.1 in held r x.0 (live_opened t x.0 e p.0 l f p.1 p.2) x.2)

        by_cover : (In d o.makes ⊎ In d (S.may_read t)) → (In d (S.may_read t) → IsHeld S log d) → IsHeld S log d
        by_cover (inl i) g = by (R.assigned t u e o d (begun (Logged S log) (run_settled S L r).0 l) can io iu scalar i m)
        by_cover (inr h) g = g h

  -- what a live task may read has been made
  made_to_read : (log : List (T × Effect T D K V)) → Settled S (Logged S log) → (a : D) → {u : T} → Live S (Logged S log) u → In a (S.may_read u) → Made S (Logged S log) a
  made_to_read log s a live_main m = absurd (R.main_reads_nothing a m)
  made_to_read log s a (live_opened t u e o l f io iu) m =
      by_cover (L.opens_reads t u e o a (can_of_comes S L (Logged S log) s (s.comes t e f)) io iu m) (λ h. made_to_read log s a l h)
    where
      by_cover : (In a o.makes ⊎ In a (S.may_read t)) → (In a (S.may_read t) → Made S (Logged S log) a) → Made S (Logged S log) a
      by_cover (inl i) g = record { task = t; effect = e; opening = o; fact = f; opens = io; makes = i }
      by_cover (inr h) g = g h

  -- a scalar, or what nothing makes
  abbrev pub IsScalarOrNone : D → Type 0
  IsScalarOrNone d = (S.is_array d ≡ false) ⊎ ((t : T) (e : Effect T D K V) (o : Opening T D) → Can S t e → In o e.opens → In d o.makes → ⊥)

  abbrev pub HasScalars : Input D K → Type 0
  HasScalars (StoredScalar d) = IsScalarOrNone d
  HasScalars (ClosedArray a) = Unit {0}
  HasScalars (ElementOf a k) = Unit {0}
  HasScalars (ElementAt a d) = IsScalarOrNone d

  module _ (s : State T D K V E) (log : List (T × Effect T D K V)) (f : Follows S s log) where
    writer_is : (a : D) (items : List (Item T)) → ((i : Item T) × In i items × In a (S.may_write i.task)) ⊎ ((i : Item T) → In i items → In a (S.may_write i.task) → ⊥)
    writer_is a [] = inr (λ i h m. h)
    writer_is a (j ∷ items) = by (in_is S L a (S.may_write j.task)) (writer_is a items)
      where
        by : (In a (S.may_write j.task) ⊎ (In a (S.may_write j.task) → ⊥)) → (((i : Item T) × In i items × In a (S.may_write i.task)) ⊎ ((i : Item T) → In i items → In a (S.may_write i.task) → ⊥)) → ((i : Item T) × In i (j ∷ items) × In a (S.may_write i.task)) ⊎ ((i : Item T) → In i (j ∷ items) → In a (S.may_write i.task) → ⊥)
        by (inl m) r = inl (j, inl refl, m)
        by (inr n) (inl x) = inl (x.0, inr x.1, x.2)
        by (inr n) (inr g) = inr (λ i h m. elim h [ inl p ↦ n (subst (λ (y : Item T). In a (S.may_write y.task)) p m) | inr k ↦ g i k m ])

    module _ (i : Item T) (there : In i s.items) where
      settled_here : Settled S (Logged S log)
      settled_here = (run_settled S L f.run).0

      waits : Waits S log i.task
      waits = f.items.waits i there

      scalar_found : (d : D) → In d (S.may_read i.task) → IsScalarOrNone d → ((v : V) × Holds S s d S.only v) ⊎ IsAwaited S s d
      scalar_found d m (inl scalar) = by (supplied d scalar f.run waits.live m)
        where
          by : IsHeld S log d → ((v : V) × Holds S s d S.only v) ⊎ IsAwaited S s d
          by (inl x) = inl (x.0, f.store.stored_all d S.only x.0 i.task x.1 waits (inl m))
          by (inr x) = (let h = f.items.has x.0 x.1 in inr (record { item = h.0; there = h.1; right = subst (λ (t : T). In d (S.may_write t)) (sym h.2) x.2 }))
      scalar_found d m (inr none) =
          let x = made_to_read log settled_here d waits.live m in
          absurd (none x.task x.effect x.opening (can_of_comes S L (Logged S log) settled_here (settled_here.comes x.task x.effect x.fact)) x.opens x.makes)

      array_found : (a : D) → In a (S.may_read i.task) → ClosedByRights S s a ⊎ IsAwaited S s a
      array_found a m = by (writer_is a s.items)
        where
          by : ((i : Item T) × In i s.items × In a (S.may_write i.task)) ⊎ ((i : Item T) → In i s.items → In a (S.may_write i.task) → ⊥) → ClosedByRights S s a ⊎ IsAwaited S s a
          by (inl x) = inr (record { item = x.0; there = x.1; right = x.2 })
          by (inr n) = inl (record { there = f.store.data_all a i.task (made_to_read log settled_here a waits.live m) waits (inl m); nobody = n })

      abbrev pub IsOpen : Input D K → Type 0
      IsOpen n = (a : D) × In a (reads_of n) × IsAwaited S s a

      -- an input is known, or an item that is left may write a place of it
      input_found : (n : Input D K) → ((a : D) → In a (reads_of n) → In a (S.may_read i.task)) → HasScalars n → IsKnown S s n ⊎ IsOpen n
      input_found (StoredScalar d) u h = by (scalar_found d (u d (inl refl)) h)
        where
          by : (((v : V) × Holds S s d S.only v) ⊎ IsAwaited S s d) → IsKnown S s (StoredScalar d) ⊎ IsOpen (StoredScalar d)
          by (inl x) = inl x
          by (inr x) = inr (d, inl refl, x)
      input_found (ClosedArray a) u h = by (array_found a (u a (inl refl)))
        where
          by : (ClosedByRights S s a ⊎ IsAwaited S s a) → IsKnown S s (ClosedArray a) ⊎ IsOpen (ClosedArray a)
          by (inl x) = inl x
          by (inr x) = inr (a, inl refl, x)
      input_found (ElementOf a k) u h = by (array_found a (u a (inl refl)))
        where
          by : (ClosedByRights S s a ⊎ IsAwaited S s a) → IsKnown S s (ElementOf a k) ⊎ IsOpen (ElementOf a k)
          by (inl x) = inl (inr x)
          by (inr x) = inr (a, inl refl, x)
      input_found (ElementAt a d) u h = by (scalar_found d (u d (inr (inl refl))) h) (array_found a (u a (inl refl)))
        where
          by : (((v : V) × Holds S s d S.only v) ⊎ IsAwaited S s d) → (ClosedByRights S s a ⊎ IsAwaited S s a) → IsKnown S s (ElementAt a d) ⊎ IsOpen (ElementAt a d)
          by (inr x) y = inr (d, inr (inl refl), x)
          by (inl x) (inr y) = inr (a, inl refl, y)
          by (inl x) (inl y) = inl (x.0, x.1, inr y)

      inputs_found : (is : List (Input D K)) → ((n : Input D K) (a : D) → In n is → In a (reads_of n) → In a (S.may_read i.task)) → ((n : Input D K) → In n is → HasScalars n) → ((n : Input D K) → In n is → IsKnown S s n) ⊎ ((n : Input D K) × In n is × IsOpen n)
      inputs_found [] u h = inl (λ n m. absurd m)
      inputs_found (x ∷ is) u h = by (input_found x (λ a m. u x a (inl refl) m) (h x (inl refl))) (inputs_found is (λ n a m. u n a (inr m)) (λ n m. h n (inr m)))
        where
          by : (IsKnown S s x ⊎ IsOpen x) → (((n : Input D K) → In n is → IsKnown S s n) ⊎ ((n : Input D K) × In n is × IsOpen n)) → ((n : Input D K) → In n (x ∷ is) → IsKnown S s n) ⊎ ((n : Input D K) × In n (x ∷ is) × IsOpen n)
          by (inr o) r = inr (x, inl refl, o)
          by (inl k) (inr o) = inr (o.0, inr o.1, o.2)
          by (inl k) (inl all) = inl (λ n m. elim m [ inl p ↦ subst (λ (y : Input D K). IsKnown S s y) (sym p) k | inr j ↦ all n j ])

      -- an item that is not enabled waits for a place that an item which is left may write
      pub open_input : ((n : Input D K) → In n (S.inputs i.task) → HasScalars n) → (((n : Input D K) → In n (S.inputs i.task) → IsKnown S s n) → ⊥) → (n : Input D K) × In n (S.inputs i.task) × IsOpen n
      open_input h off = by (inputs_found (S.inputs i.task) (λ n a m r. L.reads_covered i.task n a (live_valid S L (Logged S log) settled_here waits.live) m r) h)
        where
          by : (((n : Input D K) → In n (S.inputs i.task) → IsKnown S s n) ⊎ ((n : Input D K) × In n (S.inputs i.task) × IsOpen n)) → (n : Input D K) × In n (S.inputs i.task) × IsOpen n
          by (inl all) = absurd (off all)
          by (inr x) = x

    closed_is : (a : D) → ClosedByRights S s a ⊎ (ClosedByRights S s a → ⊥)
    closed_is a = by (in_is S L a s.places) (writer_is a s.items)
      where
        by : (In a s.places ⊎ (In a s.places → ⊥)) → (((i : Item T) × In i s.items × In a (S.may_write i.task)) ⊎ ((i : Item T) → In i s.items → In a (S.may_write i.task) → ⊥)) → ClosedByRights S s a ⊎ (ClosedByRights S s a → ⊥)
        by (inl h) (inr n) = inl (record { there = h; nobody = n })
        by (inl h) (inl x) = inr (λ c. c.nobody x.0 x.1 x.2)
        by (inr n) x = inr (λ c. n c.there)

    element_is : (a : D) (k : K) → IsElementKnown S s a k ⊎ (IsElementKnown S s a k → ⊥)
    element_is a k = by (value_is S L a k s.stored) (closed_is a)
      where
        by : (((v : V) × Holds S s a k v) ⊎ ((v : V) → Holds S s a k v → ⊥)) → (ClosedByRights S s a ⊎ (ClosedByRights S s a → ⊥)) → IsElementKnown S s a k ⊎ (IsElementKnown S s a k → ⊥)
        by (inl x) c = inl (inl x)
        by (inr n) (inl c) = inl (inr c)
        by (inr n) (inr m) = inr (λ h. elim h [ inl x ↦ n x.0 x.1 | inr c ↦ m c ])

    -- whether an input is known
    known_is : (n : Input D K) → IsKnown S s n ⊎ (IsKnown S s n → ⊥)
    known_is (StoredScalar d) = by (value_is S L d S.only s.stored)
      where
        by : (((v : V) × Holds S s d S.only v) ⊎ ((v : V) → Holds S s d S.only v → ⊥)) → IsKnown S s (StoredScalar d) ⊎ (IsKnown S s (StoredScalar d) → ⊥)
        by (inl x) = inl x
        by (inr n) = inr (λ x. n x.0 x.1)
    known_is (ClosedArray a) = closed_is a
    known_is (ElementOf a k) = element_is a k
    known_is (ElementAt a d) = by (value_is S L d S.only s.stored)
      where
        at : (v : V) → Holds S s d S.only v → (IsElementKnown S s a (S.key_of v) ⊎ (IsElementKnown S s a (S.key_of v) → ⊥)) → IsKnown S s (ElementAt a d) ⊎ (IsKnown S s (ElementAt a d) → ⊥)
        at v h (inl k) = inl (v, h, k)
        at v h (inr n) = inr (λ x. n (subst (λ (y : V). IsElementKnown S s a (S.key_of y)) (one_value S L s log f d S.only x.0 v x.1 h) x.2))

        by : (((v : V) × Holds S s d S.only v) ⊎ ((v : V) → Holds S s d S.only v → ⊥)) → IsKnown S s (ElementAt a d) ⊎ (IsKnown S s (ElementAt a d) → ⊥)
        by (inl x) = at x.0 x.1 (element_is a (S.key_of x.0))
        by (inr n) = inr (λ x. n x.0 x.1)

    -- all of a list are known, or one is not
    pub all_known_is : (is : List (Input D K)) → ((n : Input D K) → In n is → IsKnown S s n) ⊎ ((n : Input D K) × In n is × (IsKnown S s n → ⊥))
    all_known_is [] = inl (λ n m. absurd m)
    all_known_is (x ∷ is) = by (known_is x) (all_known_is is)
      where
        by : (IsKnown S s x ⊎ (IsKnown S s x → ⊥)) → (((n : Input D K) → In n is → IsKnown S s n) ⊎ ((n : Input D K) × In n is × (IsKnown S s n → ⊥))) → ((n : Input D K) → In n (x ∷ is) → IsKnown S s n) ⊎ ((n : Input D K) × In n (x ∷ is) × (IsKnown S s n → ⊥))
        by (inr o) r = inr (x, inl refl, o)
        by (inl k) (inr o) = inr (o.0, inr o.1, o.2)
        by (inl k) (inl all) = inl (λ n m. elim m [ inl p ↦ subst (λ (y : Input D K). IsKnown S s y) (sym p) k | inr j ↦ all n j ])
