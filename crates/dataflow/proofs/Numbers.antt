-- No two items have one number, and each number is below the next one.
use Rattle.std.proofs.Common.{◌≡◌, ◌⊎◌, inl, inr, ℕ, suc, ◌+◌, ◌<◌, ◌≤◌, List, [], ◌∷◌, ◌++◌, length, map, refl, ap, sym, ◌∙◌, subst, arith}
use Rattle.std.proofs.lemmas.List.{map-append}
use Rattle.dataflow.specs.System.{In, Distinct, tasks_of, Outcome, Good, Bad, System}
use Rattle.dataflow.specs.Machine.{Item, State, Event, Begin, End, Back, new_items, Leaves, ended, After, Step, Steps, Run, start}
use Rattle.dataflow.proofs.Lists.{in_split, seam_distinct, seam_in, distinct_append, in_map, in_unmap}

abbrev pub number_of_item : {T : Type 0} → Item T → ℕ
number_of_item i = i.number

-- the numbers of new items rise from the next one
pub new_between : {T : Type 0} (n : ℕ) (ts : List T) (k : ℕ) → In k (map number_of_item (new_items n ts)) → (n ≤ k) × (k < n + length ts)
new_between n [] k h = absurd h
new_between n (t ∷ ts) k h = elim h [ inl p ↦ first p | inr j ↦ further (new_between (suc n) ts k j) ]
  where
    first : k ≡ n → (n ≤ k) × (k < n + length (t ∷ ts))
    first p = (omega arith, omega arith)

    further : (suc n ≤ k) × (k < suc n + length ts) → (n ≤ k) × (k < n + length (t ∷ ts))
    further r = let a = r.0 in let b = r.1 in (omega arith, omega arith)

new_once : {T : Type 0} (n : ℕ) (ts : List T) → Distinct (map number_of_item (new_items n ts))
new_once n [] = tt
new_once n (t ∷ ts) = ((λ h. let r = (new_between (suc n) ts n h).0 in let no : ⊥ = omega arith in no), new_once (suc n) ts)

-- a member of the shorter list is one of the longer
seam_number : {T : Type 0} (before after : List (Item T)) (i : Item T) (k : ℕ) → In k (map number_of_item (before ++ after)) → In k (map number_of_item (before ++ i ∷ after))
seam_number before after i k h =
    let x = in_unmap number_of_item k (before ++ after) h in
    subst (λ (n : ℕ). In n (map number_of_item (before ++ i ∷ after))) x.2 (in_map number_of_item x.0 (before ++ i ∷ after) (seam_in x.0 i before after x.1))

same_numbers : {T : Type 0} (before after : List (Item T)) (i j : Item T) → i.number ≡ j.number → map number_of_item (before ++ i ∷ after) ≡ map number_of_item (before ++ j ∷ after)
same_numbers [] after i j h = ap (λ (n : ℕ). n ∷ map number_of_item after) h
same_numbers (b ∷ before) after i j h = ap (λ (l : List ℕ). b.number ∷ l) (same_numbers before after i j h)

module _ {T D K V E : Type 0} (S : System T D K V E) where
  pub record Numbered (s : State T D K V E) : Type 0 where
    pub once : Distinct (map number_of_item s.items)
    pub below : (k : ℕ) → In k (map number_of_item s.items) → k < s.next

  leaves_numbered : (mid new : State T D K V E) → Numbered mid → Leaves S mid new → Numbered new
  leaves_numbered mid new n l = record {
    once = subst (λ (is : List (Item T)). Distinct (map number_of_item is)) (sym l.items) n.once;
    below = λ k h. (let r = n.below k (subst (λ (is : List (Item T)). In k (map number_of_item is)) l.items h) in subst (λ (m : ℕ). k < m) (sym l.next) r);
  }

  -- an item's mark is changed
  marked_numbered : (old new : State T D K V E) (before after : List (Item T)) (i j : Item T) → old.items ≡ before ++ i ∷ after → i.number ≡ j.number → Numbered old → Leaves S (record old { items = before ++ j ∷ after }) new → Numbered new
  marked_numbered old new before after i j at same n l =
      let e : map number_of_item old.items ≡ map number_of_item (before ++ j ∷ after) = ap (λ (is : List (Item T)). map number_of_item is) at ∙ same_numbers before after i j same in
      let m : Numbered (record old { items = before ++ j ∷ after }) = record { once = subst (λ (ks : List ℕ). Distinct ks) e n.once; below = λ k h. n.below k (subst (λ (ks : List ℕ). In k ks) (sym e) h) } in
      leaves_numbered (record old { items = before ++ j ∷ after }) new m l

  after_numbered : (old new : State T D K V E) (before after : List (Item T)) (i : Item T) → old.items ≡ before ++ i ∷ after → Numbered old → (r : Outcome T D K V E) → After S old i.task (before ++ after) r new → Numbered new
  after_numbered old new before after i at n (Bad b) l = leaves_numbered _ new (record { once = n.once; below = n.below }) l
  after_numbered old new before after i at n (Good e) (inl x) = leaves_numbered _ new (record { once = n.once; below = n.below }) x.1
  after_numbered old new before after i at n (Good e) (inr x) = leaves_numbered (ended S old (before ++ after) e) new (record { once = once; below = below }) x.1
    where
      fresh : List (Item T)
      fresh = new_items old.next (tasks_of e.opens)

      others_below : (k : ℕ) → In k (map number_of_item (before ++ after)) → k < old.next
      others_below k h = n.below k (subst (λ (is : List (Item T)). In k (map number_of_item is)) (sym at) (seam_number before after i k h))

      others_once : Distinct (map number_of_item (before ++ after))
      others_once =
          let d = subst (λ (is : List (Item T)). Distinct (map number_of_item is)) at n.once in
          let r = seam_distinct i.number (map number_of_item before) (map number_of_item after) (subst (λ (ks : List ℕ). Distinct ks) (map-append number_of_item before (i ∷ after)) d) in
          subst (λ (ks : List ℕ). Distinct ks) (sym (map-append number_of_item before after)) r.1

      apart : (k : ℕ) → In k (map number_of_item (before ++ after)) → In k (map number_of_item (new_items old.next (tasks_of e.opens))) → ⊥
      apart k h g =
          let a = others_below k h in
          let b = (new_between old.next (tasks_of e.opens) k g).0 in
          omega arith

      once : Distinct (map number_of_item ((before ++ after) ++ new_items old.next (tasks_of e.opens)))
      once = subst (λ (ks : List ℕ). Distinct ks) (sym (map-append number_of_item (before ++ after) (new_items old.next (tasks_of e.opens))))
          (distinct_append (map number_of_item (before ++ after)) (map number_of_item (new_items old.next (tasks_of e.opens))) others_once (new_once old.next (tasks_of e.opens)) apart)

      by_part : (k : ℕ) → In k (map number_of_item (before ++ after)) ⊎ In k (map number_of_item (new_items old.next (tasks_of e.opens))) → k < old.next + length (tasks_of e.opens)
      by_part k (inl h) = let a = others_below k h in omega arith
      by_part k (inr h) = (new_between old.next (tasks_of e.opens) k h).1

      below : (k : ℕ) → In k (map number_of_item ((before ++ after) ++ new_items old.next (tasks_of e.opens))) → k < old.next + length (tasks_of e.opens)
      below k h = by_part k (in_split k (map number_of_item (before ++ after)) (map number_of_item (new_items old.next (tasks_of e.opens))) (subst (λ (ks : List ℕ). In k ks) (map-append number_of_item (before ++ after) (new_items old.next (tasks_of e.opens))) h))

  pub step_numbered : (old : State T D K V E) (e : Event) (new : State T D K V E) → Numbered old → Step S old e new → Numbered new
  step_numbered old (Begin w n) new h x = marked_numbered old new x.1.before x.1.after x.1.item (record { number = x.1.item.number; task = x.1.item.task; runs = _ }) x.1.at.items refl h x.1.result
  step_numbered old (Back w n) new h x = marked_numbered old new x.1.before x.1.after x.1.item (record { number = x.1.item.number; task = x.1.item.task; runs = _ }) x.1.at.items refl h x.1.result
  step_numbered old (End w n) new h x = after_numbered old new x.1.before x.1.after x.1.item x.1.at.items h (S.effect x.1.item.task x.1.answers) x.1.result

  steps_numbered : (es : List Event) (old new : State T D K V E) → Numbered old → Steps S old es new → Numbered new
  steps_numbered [] old new h p = subst (λ (s : State T D K V E). Numbered s) p h
  steps_numbered (e ∷ es) old new h x = steps_numbered es x.0 new (step_numbered old e x.0 h x.1) x.2

  pub start_numbered : Numbered (start S)
  start_numbered = record { once = ((λ h. h), tt); below = λ k h. elim h [ inl p ↦ omega arith | inr x ↦ absurd x ] }

  pub run_numbered : (es : List Event) (s : State T D K V E) → Run S es s → Numbered s
  run_numbered es s x = steps_numbered es (start S) s start_numbered x
