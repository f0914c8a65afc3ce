-- Counts of rights along a step.
use Rattle.std.proofs.Common.{◌≡◌, ◌⊎◌, inl, inr, ℕ, ◌+◌, List, [], ◌∷◌, ◌++◌, refl, sym, ap, ◌∙◌, subst, Option, None, Some, arith}
use Rattle.std.proofs.lemmas.List.{map-append}
use Rattle.dataflow.specs.System.{In, Distinct, tasks_of, Opening, Effect, Outcome, Good, Bad, System}
use Rattle.dataflow.specs.Facts.{Live, live_main, live_opened, Made}
use Rattle.dataflow.specs.Laws.{Laws}
use Rattle.dataflow.specs.Log.{Logged, Ready}
use Rattle.dataflow.specs.Machine.{Item, State, Event, Begin, End, Back, new_items, ClosedByRights, Free, After, Step, Run}
use Rattle.dataflow.specs.Promises.{tasks_in_items}
use Rattle.dataflow.specs.History.{log_of}
use Rattle.dataflow.proofs.Lists.{in_left, in_right, in_tasks, new_tasks, seam_here}
use Rattle.dataflow.proofs.Decide.{place_of}
use Rattle.dataflow.proofs.Ending.{fresh_made}
use Rattle.dataflow.proofs.Follows.{Follows, enabled}
use Rattle.dataflow.proofs.Runs.{run_settled, enabled_comes}
use Rattle.dataflow.proofs.Settled.{Settled, can_of_comes}
use Rattle.dataflow.proofs.Steps.{run_follows}
use Rattle.board_history.specs.Replay.{Tests, AreTests}
use Rattle.board_history.specs.Counts.{times, holds, readers, writers, SameCounts, Exchanges, StartsWith}
use Rattle.board_history.proofs.Tests.{choose, yes_no, same_of}

module _ {T D K V E : Type 0} (S : System T D K V E) (X : Tests D K V) where
  pub times_append : (a : D) (xs ys : List D) → times S X a (xs ++ ys) ≡ times S X a xs + times S X a ys
  times_append a [] ys = omega arith
  times_append a (x ∷ xs) ys = let r = times_append a xs ys in omega arith

  pub holds_append : (rights : T → List D) (a : D) (ts us : List T) → holds S X rights a (ts ++ us) ≡ holds S X rights a ts + holds S X rights a us
  holds_append rights a [] us = omega arith
  holds_append rights a (t ∷ ts) us = let r = holds_append rights a ts us in omega arith

  -- the items with one of them between
  holds_seam : (rights : T → List D) (a : D) (before after : List (Item T)) (i : Item T) → holds S X rights a (tasks_in_items S (before ++ i ∷ after)) ≡ holds S X rights a (tasks_in_items S (before ++ after)) + times S X a (rights i.task)
  holds_seam rights a [] after i = omega arith
  holds_seam rights a (b ∷ before) after i = let r = holds_seam rights a before after i in omega arith

  pub marked_counts : (rights : T → List D) (a : D) (before after : List (Item T)) (i : Item T) (r : Option ℕ) → holds S X rights a (tasks_in_items S (before ++ record { number = i.number; task = i.task; runs = r } ∷ after)) ≡ holds S X rights a (tasks_in_items S (before ++ i ∷ after))
  marked_counts rights a [] after i r = refl
  marked_counts rights a (b ∷ before) after i r = ap (λ (n : ℕ). times S X a (rights b.task) + n) (marked_counts rights a before after i r)

  -- counts are told by the items
  of_items : (s t : State T D K V E) → t.items ≡ s.items → SameCounts S X s t
  of_items s t p rights a = ap (λ (is : List (Item T)). holds S X rights a (tasks_in_items S is)) p

  -- beginning and giving back change no count
  pub begin_counts : (s t : State T D K V E) (w n : ℕ) → Step S s (Begin w n) t → SameCounts S X s t
  begin_counts s t w n x rights a =
      let b = x.1 in
      of_items (record s { items = b.before ++ record { number = b.item.number; task = b.item.task; runs = Some w } ∷ b.after }) t b.result.items rights a
      ∙ marked_counts rights a b.before b.after b.item (Some w)
      ∙ ap (λ (is : List (Item T)). holds S X rights a (tasks_in_items S is)) (sym b.at.items)

  pub back_counts : (s t : State T D K V E) (w n : ℕ) → Step S s (Back w n) t → SameCounts S X s t
  back_counts s t w n x rights a =
      let b = x.1 in
      of_items (record s { items = b.before ++ record { number = b.item.number; task = b.item.task; runs = None } ∷ b.after }) t b.result.items rights a
      ∙ marked_counts rights a b.before b.after b.item None
      ∙ ap (λ (is : List (Item T)). holds S X rights a (tasks_in_items S is)) (sym b.at.items)

  some_none : {A B : Type 0} {x : A} → ◌≡◌ {A = Option A} (Some x) None → B
  some_none h = absurd (cc)

  -- an item that ends without fault
  pub end_counts : (s t : State T D K V E) (w n : ℕ) → Step S s (End w n) t → t.fault ≡ None → Exchanges S X s n t
  end_counts s t w n x none = by (S.effect x.1.item.task x.1.answers) refl x.1.result
    where
      by : (r : Outcome T D K V E) → S.effect x.1.item.task x.1.answers ≡ r → After S s x.1.item.task (x.1.before ++ x.1.after) r t → Exchanges S X s n t
      by (Bad f) q l = some_none (sym l.fault ∙ none)
      by (Good e) q (inl l) = some_none (sym l.1.fault ∙ none)
      by (Good e) q (inr l) = record {
        item = x.1.item;
        there = subst (λ (is : List (Item T)). In x.1.item is) (sym x.1.at.items) (seam_here x.1.item x.1.before x.1.after);
        number_is = x.1.at.number_is;
        answers = x.1.answers;
        known = x.1.known;
        effect = e;
        is = q;
        counts = λ rights a.
            let old : holds S X rights a (tasks_in_items S s.items) ≡ holds S X rights a (tasks_in_items S (x.1.before ++ x.1.item ∷ x.1.after)) = ap (λ (is : List (Item T)). holds S X rights a (tasks_in_items S is)) x.1.at.items in
            let seam = holds_seam rights a x.1.before x.1.after x.1.item in
            let new : holds S X rights a (tasks_in_items S t.items) ≡ holds S X rights a (tasks_in_items S ((x.1.before ++ x.1.after) ++ new_items s.next (tasks_of e.opens))) = ap (λ (is : List (Item T)). holds S X rights a (tasks_in_items S is)) l.1.items in
            let split : holds S X rights a (tasks_in_items S ((x.1.before ++ x.1.after) ++ new_items s.next (tasks_of e.opens))) ≡ holds S X rights a (tasks_in_items S (x.1.before ++ x.1.after) ++ tasks_in_items S (new_items s.next (tasks_of e.opens))) = ap (λ (ts : List T). holds S X rights a ts) (map-append (λ (i : Item T). i.task) (x.1.before ++ x.1.after) (new_items s.next (tasks_of e.opens))) in
            let sum = holds_append rights a (tasks_in_items S (x.1.before ++ x.1.after)) (tasks_in_items S (new_items s.next (tasks_of e.opens))) in
            let fresh : holds S X rights a (tasks_in_items S (new_items s.next (tasks_of e.opens))) ≡ holds S X rights a (tasks_of e.opens) = ap (λ (ts : List T). holds S X rights a ts) (new_tasks s.next (tasks_of e.opens)) in
            omega arith;
      }

  -- a fault changes none
  pub fault_counts : (s t : State T D K V E) (w n : ℕ) → Step S s (End w n) t → (t.fault ≡ None → ⊥) → SameCounts S X s t
  fault_counts s t w n x stands = by (S.effect x.1.item.task x.1.answers) x.1.result
    where
      by : (r : Outcome T D K V E) → After S s x.1.item.task (x.1.before ++ x.1.after) r t → SameCounts S X s t
      by (Bad f) l = λ rights a. of_items s t l.items rights a
      by (Good e) (inl l) = λ rights a. of_items s t l.1.items rights a
      by (Good e) (inr l) = absurd (stands l.1.fault)

  module _ (R : AreTests S X) where
    -- a count of 0
    pub times_none : (a : D) (bs : List D) → (In a bs → ⊥) → times S X a bs ≡ 0
    times_none a [] n = refl
    times_none a (b ∷ bs) n =
        choose (λ (k : ℕ). k + times S X a bs ≡ 0) (X.same_place a b) 1 0
        (λ t. absurd (n (inl (R.place_sound a b t))))
        (λ t. let r = times_none a bs (λ i. n (inr i)) in omega arith)

    pub none_times : (a : D) (bs : List D) → times S X a bs ≡ 0 → In a bs → ⊥
    none_times a [] = λ h i. i
    none_times a (b ∷ bs) =
        choose (λ (k : ℕ). k + times S X a bs ≡ 0 → In a (b ∷ bs) → ⊥) (X.same_place a b) 1 0
        (λ t h i. let no : ⊥ = omega arith in no)
        (λ t h i. elim i [ inl p ↦ yes_no (same_of S X R a b p) t | inr j ↦ none_times a bs (omega arith) j ])

    pub holds_none : (rights : T → List D) (a : D) (ts : List T) → ((t : T) → In t ts → In a (rights t) → ⊥) → holds S X rights a ts ≡ 0
    holds_none rights a [] n = refl
    holds_none rights a (t ∷ ts) n =
        let x = times_none a (rights t) (n t (inl refl)) in
        let r = holds_none rights a ts (λ u i. n u (inr i)) in
        omega arith

    pub none_holds : (rights : T → List D) (a : D) (ts : List T) → holds S X rights a ts ≡ 0 → (t : T) → In t ts → In a (rights t) → ⊥
    none_holds rights a [] h t i m = i
    none_holds rights a (u ∷ ts) h t i m =
        elim i [
          | inl p ↦ none_times a (rights u) (omega arith) (subst (λ (x : T). In a (rights x)) p m)
          | inr j ↦ none_holds rights a ts (omega arith) t j m
        ]

    items_none : (rights : T → List D) (a : D) (is : List (Item T)) → ((i : Item T) → In i is → In a (rights i.task) → ⊥) → holds S X rights a (tasks_in_items S is) ≡ 0
    items_none rights a [] n = refl
    items_none rights a (j ∷ is) n =
        let x = times_none a (rights j.task) (n j (inl refl)) in
        let r = items_none rights a is (λ u i. n u (inr i)) in
        omega arith

    none_items : (rights : T → List D) (a : D) (is : List (Item T)) → holds S X rights a (tasks_in_items S is) ≡ 0 → (i : Item T) → In i is → In a (rights i.task) → ⊥
    none_items rights a [] h i g m = g
    none_items rights a (j ∷ is) h i g m =
        elim g [
          | inl p ↦ none_times a (rights j.task) (omega arith) (subst (λ (x : Item T). In a (rights x.task)) p m)
          | inr k ↦ none_items rights a is (omega arith) i k m
        ]

    -- both counts are 0 exactly where the datum is free
    pub free_counts : (s : State T D K V E) (a : D) → Free S s a → (readers S X s a ≡ 0) × (writers S X s a ≡ 0)
    free_counts s a f = (items_none S.may_read a s.items f.unread, items_none S.may_write a s.items f.unwritten)

    pub counts_free : (s : State T D K V E) (a : D) → readers S X s a ≡ 0 → writers S X s a ≡ 0 → Free S s a
    counts_free s a h k = record { unread = none_items S.may_read a s.items h; unwritten = none_items S.may_write a s.items k }

    -- an array that is there is closed exactly where no right to write it is held
    pub closed_counts : (s : State T D K V E) (a : D) → ClosedByRights S s a → writers S X s a ≡ 0
    closed_counts s a c = items_none S.may_write a s.items c.nobody

    pub counts_closed : (s : State T D K V E) (a : D) → In a s.places → writers S X s a ≡ 0 → ClosedByRights S s a
    counts_closed s a there h = record { there = there; nobody = none_items S.may_write a s.items h }

    module _ (L : Laws S) where
      -- what a live task may read has been made, where the main task may read nothing
      pub made_to_read : ((b : D) → In b (S.may_read S.main) → ⊥) → (F : T → Effect T D K V → Type 0) → Settled S F → (a : D) → {u : T} → Live S F u → In a (S.may_read u) → Made S F a
      made_to_read blind F st a live_main m = absurd (blind a m)
      made_to_read blind F st a (live_opened t u e o l f io iu) m =
          by (L.opens_reads t u e o a (can_of_comes S L F st (st.comes t e f)) io iu m) (λ h. made_to_read blind F st a l h)
        where
          by : (In a o.makes ⊎ (In a (S.may_read t))) → (In a (S.may_read t) → Made S F a) → Made S F a
          by (inl i) r = record { task = t; effect = e; opening = o; fact = f; opens = io; makes = i }
          by (inr h) r = r h

      pub made_to_write : (F : T → Effect T D K V → Type 0) → Settled S F → (a : D) → {u : T} → Live S F u → In a (S.may_write u) → Made S F a
      made_to_write F st a live_main m = absurd (L.main_writes_nothing a m)
      made_to_write F st a (live_opened t u e o l f io iu) m =
          by (L.opens_covered t u e o a (can_of_comes S L F st (st.comes t e f)) io iu m) (λ h. made_to_write F st a l h)
        where
          by : (In a o.makes ⊎ (In a (S.may_write t))) → (In a (S.may_write t) → Made S F a) → Made S F a
          by (inl i) r = record { task = t; effect = e; opening = o; fact = f; opens = io; makes = i }
          by (inr h) r = r h

      -- the tasks of several openings, one of them between
      tasks_seam : (pre post : List (Opening T D)) (o : Opening T D) → tasks_of (pre ++ o ∷ post) ≡ tasks_of pre ++ (o.tasks ++ tasks_of post)
      tasks_seam [] post o = refl
      tasks_seam (p ∷ pre) post o = ap (λ (ts : List T). p.tasks ++ ts) (tasks_seam pre post o) ∙ sym (assoc p.tasks (tasks_of pre) (o.tasks ++ tasks_of post))
        where
          assoc : (xs ys zs : List T) → (xs ++ ys) ++ zs ≡ xs ++ (ys ++ zs)
          assoc [] ys zs = refl
          assoc (x ∷ xs) ys zs = ap (λ (l : List T). x ∷ l) (assoc xs ys zs)

      distinct_apart : (xs ys : List T) → Distinct (xs ++ ys) → (x : T) → In x xs → In x ys → ⊥
      distinct_apart [] ys d x i j = i
      distinct_apart (z ∷ xs) ys d x i j =
          elim i [ inl p ↦ d.0 (subst (λ (y : T). In y (xs ++ ys)) p (in_right x xs ys j)) | inr k ↦ distinct_apart xs ys d.1 x k j ]

      distinct_later : (xs ys : List T) → Distinct (xs ++ ys) → Distinct ys
      distinct_later [] ys d = d
      distinct_later (z ∷ xs) ys d = distinct_later xs ys d.1

      in_openings : (o : Opening T D) (os ps : List (Opening T D)) → os ≡ ps → In o ps → In o os
      in_openings o os ps p i = subst (λ (l : List (Opening T D)). In o l) (sym p) i

      -- the holds of a new datum
      module _ (blind : (b : D) → In b (S.may_read S.main) → ⊥) (s t : State T D K V E) (log : List (T × Effect T D K V)) (f : Follows S s log) (item : Item T) (there : In item s.items) (e : Effect T D K V) (en : Ready S log item.task (Good e)) where
        settled : Settled S (Logged S log)
        settled = (run_settled S L f.run).0

        can : (o : Opening T D) → In o e.opens → (a : D) → (u : T) → In u o.tasks → (In a (S.may_read u) → (In a o.makes ⊎ In a (S.may_read item.task))) × (In a (S.may_write u) → (In a o.makes ⊎ In a (S.may_write item.task)))
        can o io a u iu =
            let c = can_of_comes S L (Logged S log) settled (enabled_comes S L log (run_settled S L f.run).0 (run_settled S L f.run).1 en) in
            ((λ m. L.opens_reads item.task u e o a c io iu m), (λ m. L.opens_covered item.task u e o a c io iu m))

        module _ (o : Opening T D) (a : D) (io : In o e.opens) (ia : In a o.makes) where
          unmade : Made S (Logged S log) a → ⊥
          unmade m = fresh_made S L log f.run item.task e en o a io ia m

          unread : (i : Item T) → In i s.items → In a (S.may_read i.task) → ⊥
          unread i h m = unmade (made_to_read blind (Logged S log) settled a (f.items.waits i h).live m)

          unwritten : (i : Item T) → In i s.items → In a (S.may_write i.task) → ⊥
          unwritten i h m = unmade (made_to_write (Logged S log) settled a (f.items.waits i h).live m)

          same_opening : (o' : Opening T D) → In o' e.opens → In a o'.makes → o' ≡ o
          same_opening o' io' ia' =
              let c = can_of_comes S L (Logged S log) settled (enabled_comes S L log (run_settled S L f.run).0 (run_settled S L f.run).1 en) in
              L.one_opening item.task e o' o a c io' io ia' ia

          distinct : Distinct (tasks_of e.opens)
          distinct =
              let c = can_of_comes S L (Logged S log) settled (enabled_comes S L log (run_settled S L f.run).0 (run_settled S L f.run).1 en) in
              L.opens_distinct item.task e c

          -- a task that holds it is one of its own block
          reader_here : (u : T) → In u (tasks_of e.opens) → In a (S.may_read u) → In u o.tasks
          reader_here u iu m =
              let p = in_tasks u e.opens iu in
              by p.0 p.1 p.2 ((can p.0 p.1 a u p.2).0 m)
            where
              by : (o' : Opening T D) → In o' e.opens → In u o'.tasks → (In a o'.makes ⊎ In a (S.may_read item.task)) → In u o.tasks
              by o' io' iu' (inl k) = subst (λ (x : Opening T D). In u x.tasks) (same_opening o' io' k) iu'
              by o' io' iu' (inr k) = absurd (unread item there k)

          writer_here : (u : T) → In u (tasks_of e.opens) → In a (S.may_write u) → In u o.tasks
          writer_here u iu m =
              let p = in_tasks u e.opens iu in
              by p.0 p.1 p.2 ((can p.0 p.1 a u p.2).1 m)
            where
              by : (o' : Opening T D) → In o' e.opens → In u o'.tasks → (In a o'.makes ⊎ In a (S.may_write item.task)) → In u o.tasks
              by o' io' iu' (inl k) = subst (λ (x : Opening T D). In u x.tasks) (same_opening o' io' k) iu'
              by o' io' iu' (inr k) = absurd (unwritten item there k)

          -- so the others of the effect hold nothing of it
          only_own : (rights : T → List D) → ((u : T) → In u (tasks_of e.opens) → In a (rights u) → In u o.tasks) → holds S X rights a (tasks_of e.opens) ≡ holds S X rights a o.tasks
          only_own rights mine =
              let p = place_of o e.opens io in
              let pre = p.0 in
              let post = p.1 in
              let q : tasks_of e.opens ≡ tasks_of pre ++ (o.tasks ++ tasks_of post) = ap tasks_of p.2 ∙ tasks_seam pre post o in
              let d : Distinct (tasks_of pre ++ (o.tasks ++ tasks_of post)) = subst (λ (ts : List T). Distinct ts) q distinct in
              let d' : Distinct (o.tasks ++ tasks_of post) = distinct_later (tasks_of pre) (o.tasks ++ tasks_of post) d in
              let x : holds S X rights a (tasks_of pre) ≡ 0 = holds_none rights a (tasks_of pre) (λ u i m.
              distinct_apart (tasks_of pre) (o.tasks ++ tasks_of post) d u i (in_left u o.tasks (tasks_of post) (mine u (subst (λ (ts : List T). In u ts) (sym q) (in_left u (tasks_of pre) (o.tasks ++ tasks_of post) i)) m))) in
              let y : holds S X rights a (tasks_of post) ≡ 0 = holds_none rights a (tasks_of post) (λ u i m.
              distinct_apart o.tasks (tasks_of post) d' u (mine u (subst (λ (ts : List T). In u ts) (sym q) (in_right u (tasks_of pre) (o.tasks ++ tasks_of post) (in_right u o.tasks (tasks_of post) i))) m) i) in
              let whole : holds S X rights a (tasks_of e.opens) ≡ holds S X rights a (tasks_of pre ++ (o.tasks ++ tasks_of post)) = ap (λ (ts : List T). holds S X rights a ts) q in
              let one = holds_append rights a (tasks_of pre) (o.tasks ++ tasks_of post) in
              let two = holds_append rights a o.tasks (tasks_of post) in
              omega arith

          own_count : (rights : T → List D) → ((i : Item T) → In i s.items → In a (rights i.task) → ⊥) → ((u : T) → In u (tasks_of e.opens) → In a (rights u) → In u o.tasks) → holds S X rights a (tasks_in_items S t.items) + times S X a (rights item.task) ≡ holds S X rights a (tasks_in_items S s.items) + holds S X rights a (tasks_of e.opens) → holds S X rights a (tasks_in_items S t.items) ≡ holds S X rights a o.tasks
          own_count rights nobody mine counts =
              let x = items_none rights a s.items nobody in
              let y = times_none a (rights item.task) (nobody item there) in
              let z = only_own rights mine in
              omega arith

        starts : ((rights : T → List D) (a : D) → holds S X rights a (tasks_in_items S t.items) + times S X a (rights item.task) ≡ holds S X rights a (tasks_in_items S s.items) + holds S X rights a (tasks_of e.opens)) → StartsWith S X t e
        starts counts = record {
          read = λ o a io ia. own_count o a io ia S.may_read (unread o a io ia) (reader_here o a io ia) (counts S.may_read a);
          written = λ o a io ia. own_count o a io ia S.may_write (unwritten o a io ia) (writer_here o a io ia) (counts S.may_write a);
        }

      -- in a run, a new datum starts with the holds of its own block
      pub run_starts : ((b : D) → In b (S.may_read S.main) → ⊥) → (es : List Event) (s : State T D K V E) → Run S es s → (t : State T D K V E) (w n : ℕ) → Step S s (End w n) t → t.fault ≡ None → (x : Exchanges S X s n t) × StartsWith S X t x.effect
      run_starts blind es s run t w n step none =
          let x = end_counts s t w n step none in
          let f = run_follows S L es s run in
          let log = log_of S es s run in
          let en : Ready S log x.item.task (Good x.effect) = subst (λ (r : Outcome T D K V E). Ready S log x.item.task r) x.is (enabled S L s log f x.item.task (f.items.waits x.item x.there) x.answers x.known) in
          (x, starts blind s t log f x.item x.there x.effect en x.counts)
