-- What the items of a state see: an enabled item has one list of answers, a closed array one content.
use Rattle.std.proofs.Common.{◌≡◌, ◌⊎◌, inl, inr, List, [], ◌∷◌, refl, sym, subst}
use Rattle.dataflow.specs.System.{In, Input, StoredScalar, ClosedArray, ElementOf, ElementAt, Answer, Found, Missing, Content, Effect, System}
use Rattle.dataflow.specs.Facts.{Written}
use Rattle.dataflow.specs.Laws.{Laws}
use Rattle.dataflow.specs.Log.{Logged, ReadsAll}
use Rattle.dataflow.specs.Machine.{State, ClosedByRights, Holds, IsElementKnown, IsKnown, Enabled, HasContent, SeesElement, Sees, SeesAll}
use Rattle.dataflow.specs.Data.{AnswersAreOne}
use Rattle.dataflow.proofs.Settled.{Settled, can_of_comes, same_value, all_same}
use Rattle.dataflow.proofs.Runs.{run_settled, all_given}
use Rattle.dataflow.proofs.Follows.{Follows, reads_enabled}
use Rattle.dataflow.proofs.Decide.{value_is, content_of}

module _ {T D K V E : Type 0} (S : System T D K V E) (L : Laws S) where
  module _ (s : State T D K V E) (log : List (T × Effect T D K V)) (f : Follows S s log) where
    settled : Settled S (Logged S log)
    settled = (run_settled S L f.run).0

    pub one_value : (a : D) (k : K) (v w : V) → Holds S s a k v → Holds S s a k w → v ≡ w
    one_value a k v w h g =
        let x : Written S (Logged S log) a k v = f.store.stored_in (record { place = a; key = k; value = v }) h in
        let y : Written S (Logged S log) a k w = f.store.stored_in (record { place = a; key = k; value = w }) g in
        same_value S L (Logged S log) (λ t e x. can_of_comes S L (Logged S log) settled (settled.comes t e x)) settled.one_effect x y (settled.one_writer a k w v y x)

    -- a closed array has its list
    pub closed_content : (a : D) → ClosedByRights S s a → (xs : List (K × V)) × HasContent S s a xs
    closed_content a c =
        let r = content_of S L a s.stored in
        let l = L.can_be_listed r.0 (λ k v w h g. one_value a k v w (r.2 k v h) (r.2 k w g)) in
        (l.0, record { closed = c; in_order = l.1; all = λ k v h. l.2 (k, v) (r.1 k v h); only = λ k v h. r.2 k v (l.3 (k, v) h) })

    element_seen : (a : D) (k : K) → IsElementKnown S s a k → (x : Answer K V) × SeesElement S s a k x
    element_seen a k (inl h) = (Found h.0, h.1)
    element_seen a k (inr c) = by (value_is S L a k s.stored)
      where
        by : (((v : V) × Holds S s a k v) ⊎ ((v : V) → Holds S s a k v → ⊥)) → (x : Answer K V) × SeesElement S s a k x
        by (inl h) = (Found h.0, h.1)
        by (inr n) = (Missing, record { closed = c; none = n })

    pub seen : (i : Input D K) → IsKnown S s i → (x : Answer K V) × Sees S s i x
    seen (StoredScalar d) h = (Found h.0, (h.0, h.1, refl))
    seen (ClosedArray a) c = (let r = closed_content a c in (Content r.0, (r.0, r.1, refl)))
    seen (ElementOf a k) h = element_seen a k h
    seen (ElementAt a d) h = (let r = element_seen a (S.key_of h.0) h.2 in (r.0, (h.0, h.1, r.1)))

    all_seen : (is : List (Input D K)) → ((n : Input D K) → In n is → IsKnown S s n) → (xs : List (Answer K V)) × SeesAll S s is xs
    all_seen [] h = ([], tt)
    all_seen (i ∷ is) h =
        let x = seen i (h i (inl refl)) in
        let r = all_seen is (λ n j. h n (inr j)) in
        (x.0 ∷ r.0, (x.1, r.1))

    element_known : (a : D) (k : K) (x : Answer K V) → SeesElement S s a k x → IsElementKnown S s a k
    element_known a k (Found v) h = inl (v, h)
    element_known a k Missing h = inr h.closed
    element_known a k (Content xs) h = absurd h

    known : (i : Input D K) (x : Answer K V) → Sees S s i x → IsKnown S s i
    known (StoredScalar d) x h = (h.0, h.1)
    known (ClosedArray a) x h = h.1.closed
    known (ElementOf a k) x h = element_known a k x h
    known (ElementAt a d) x h = (h.0, h.1, element_known a (S.key_of h.0) x h.2)

    all_known : (is : List (Input D K)) (xs : List (Answer K V)) → SeesAll S s is xs → (n : Input D K) → In n is → IsKnown S s n
    all_known [] xs h n i = absurd i
    all_known (j ∷ is) [] h n i = absurd h
    all_known (j ∷ is) (x ∷ xs) h n i = elim i [ inl p ↦ subst (λ (z : Input D K). IsKnown S s z) (sym p) (known j x h.0) | inr g ↦ all_known is xs h.1 n g ]

    pub known_by : (i : Input D K) (x : Answer K V) → Sees S s i x → IsKnown S s i
    known_by i x h = known i x h

    -- an enabled task has answers
    pub sees : (t : T) → Enabled S s t → (xs : List (Answer K V)) × SeesAll S s (S.inputs t) xs
    sees t h = all_seen (S.inputs t) h

    -- and no other has
    pub sees_only : (t : T) (xs : List (Answer K V)) → SeesAll S s (S.inputs t) xs → Enabled S s t
    sees_only t xs h = all_known (S.inputs t) xs h

    -- what a log's reader finds is one list
    pub one_read : (t : T) (xs ys : List (Answer K V)) → ReadsAll S log (S.inputs t) xs → ReadsAll S log (S.inputs t) ys → xs ≡ ys
    one_read t xs ys g h =
        let sh = run_settled S L f.run in
        all_same S L (Logged S log) (λ t e x. can_of_comes S L (Logged S log) settled (settled.comes t e x)) settled.one_effect (S.inputs t) xs ys
        (all_given S L log sh.0 sh.1 (S.inputs t) xs g) (all_given S L log sh.0 sh.1 (S.inputs t) ys h)

    pub answers_are_one : AnswersAreOne S s
    answers_are_one = record {
      some = λ i h g. sees i.task g;
      none = λ i h xs g. sees_only i.task xs g;
      one = λ i h xs ys g k. one_read i.task xs ys (reads_enabled S L s log f i.task (f.items.waits i h) xs g) (reads_enabled S L s log f i.task (f.items.waits i h) ys k);
      content = closed_content;
      one_content = λ a xs ys x y. L.one_order xs ys x.in_order y.in_order (λ p i. y.all p.0 p.1 (x.only p.0 p.1 i)) (λ p i. x.all p.0 p.1 (y.only p.0 p.1 i));
    }
