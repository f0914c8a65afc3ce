-- What an item has seen it sees for as long as it is there.
use Rattle.std.proofs.Common.{[], map, ◌≡◌, ◌<◌, ◌≤◌, inl, inr, ℕ, List, ◌∷◌, ◌++◌, sym, refl, ap, ◌∙◌, subst, arith}
use Rattle.dataflow.specs.System.{In, Distinct, Answer, Effect, Outcome, Good, Bad, System, tasks_of}
use Rattle.dataflow.specs.Laws.{Laws}
use Rattle.dataflow.specs.Log.{Logged, Waits}
use Rattle.dataflow.specs.Machine.{Item, State, Event, Begin, End, Back, SeesAll, After, Step, Run, new_items}
use Rattle.dataflow.specs.History.{log_after, log_of_step}
use Rattle.dataflow.specs.Staying.{Knows}
use Rattle.dataflow.proofs.Frozen.{Within}
use Rattle.dataflow.proofs.Settled.{all_grow, settled_grounded}
use Rattle.dataflow.proofs.Runs.{run_settled, all_given, all_read}
use Rattle.dataflow.proofs.Follows.{Follows, reads_enabled, sees_enabled}
use Rattle.dataflow.proofs.Steps.{step_follow}
use Rattle.dataflow.proofs.Lists.{in_split, in_seam, seam_in, seam_here, in_map}
use Rattle.dataflow.proofs.Numbers.{number_of_item, new_between, run_numbered}

-- of items with different numbers one has a number
one_item : {T : Type 0} (is : List (Item T)) → Distinct (map number_of_item is) → (i j : Item T) → In i is → In j is → i.number ≡ j.number → i ≡ j
one_item [] d i j h g p = absurd h
one_item (k ∷ is) d i j (inl a) (inl b) p = a ∙ sym b
one_item (k ∷ is) d i j (inl a) (inr g) p = absurd (d.0 (subst (λ (n : ℕ). In n (map number_of_item is)) (sym p ∙ ap number_of_item a) (in_map number_of_item j is g)))
one_item (k ∷ is) d i j (inr h) (inl b) p = absurd (d.0 (subst (λ (n : ℕ). In n (map number_of_item is)) (p ∙ ap number_of_item b) (in_map number_of_item i is h)))
one_item (k ∷ is) d i j (inr h) (inr g) p = one_item is d.1 i j h g p

module _ {T D K V E : Type 0} (S : System T D K V E) where
  -- an item of the same number and task was there
  pub record Older (s : State T D K V E) (j : Item T) : Type 0 where
    pub item : Item T
    pub there : In item s.items
    pub number_is : item.number ≡ j.number
    pub task_is : item.task ≡ j.task

  module _ (s new : State T D K V E) where
    itself : (j : Item T) → In j s.items → Older s j
    itself j h = record { item = j; there = h; number_is = refl; task_is = refl }

    marked : (before after : List (Item T)) (i k : Item T) → s.items ≡ before ++ i ∷ after → k.number ≡ i.number → k.task ≡ i.task → (j : Item T) → In j (before ++ k ∷ after) → Older s j
    marked before after i k at number task j h =
        elim (in_seam j k before after h) [
          | inl g ↦ itself j (subst (λ (is : List (Item T)). In j is) (sym at) (seam_in j i before after g))
          | inr p ↦ record { item = i; there = subst (λ (is : List (Item T)). In i is) (sym at) (seam_here i before after); number_is = sym number ∙ ap number_of_item (sym p); task_is = sym task ∙ ap (λ (x : Item T). x.task) (sym p) }
        ]

    after_older : (before after : List (Item T)) (i : Item T) → s.items ≡ before ++ i ∷ after → (t : T) (r : Outcome T D K V E) → After S s t (before ++ after) r new → (j : Item T) → In j new.items → j.number < s.next → Older s j
    after_older before after i at t (Bad b) l j h few = itself j (subst (λ (is : List (Item T)). In j is) l.items h)
    after_older before after i at t (Good e) (inl x) j h few = itself j (subst (λ (is : List (Item T)). In j is) (x.1).items h)
    after_older before after i at t (Good e) (inr x) j h few =
        elim (in_split j (before ++ after) (new_items s.next (tasks_of e.opens)) (subst (λ (is : List (Item T)). In j is) (x.1).items h)) [
          | inl g ↦ itself j (subst (λ (is : List (Item T)). In j is) (sym at) (seam_in j i before after g))
          | inr g ↦ (let b = (new_between s.next (tasks_of e.opens) j.number (in_map number_of_item j (new_items s.next (tasks_of e.opens)) g)).0 in absurd (omega arith))
        ]

    -- a number that was given out is that of an item that was there
    pub older : (e : Event) → Step S s e new → (j : Item T) → In j new.items → j.number < s.next → Older s j
    older (Begin w n) x j h few =
        let b = x.1 in
        marked b.before b.after b.item _ b.at.items refl refl j (subst (λ (is : List (Item T)). In j is) b.result.items h)
    older (Back w n) x j h few =
        let b = x.1 in
        marked b.before b.after b.item _ b.at.items refl refl j (subst (λ (is : List (Item T)). In j is) b.result.items h)
    older (End w n) x j h few =
        let b = x.1 in
        after_older b.before b.after b.item b.at.items b.item.task (S.effect b.item.task b.answers) b.result j h few

    after_next : (t : T) (others : List (Item T)) (r : Outcome T D K V E) → After S s t others r new → s.next ≤ new.next
    after_next t others (Bad b) l = let q = l.next in omega arith
    after_next t others (Good e) (inl x) = let q = (x.1).next in omega arith
    after_next t others (Good e) (inr x) = let q = (x.1).next in omega arith

    next_grows : (e : Event) → Step S s e new → s.next ≤ new.next
    next_grows (Begin w n) x = let q = (x.1).result.next in omega arith
    next_grows (Back w n) x = let q = (x.1).result.next in omega arith
    next_grows (End w n) x = after_next (x.1).item.task ((x.1).before ++ (x.1).after) (S.effect (x.1).item.task (x.1).answers) (x.1).result

  module _ (L : Laws S) (s new : State T D K V E) (log : List (T × Effect T D K V)) where
    after_within : (t : T) (others : List (Item T)) (r : Outcome T D K V E) (x : After S s t others r new) → Within (Logged S log) (Logged S (log_after S s t others r new x log))
    after_within t others (Bad b) x u e g = g
    after_within t others (Good e') (inl x) u e g = g
    after_within t others (Good e') (inr x) u e g = inr g

    -- a step adds to the log
    within : (e : Event) (x : Step S s e new) → Within (Logged S log) (Logged S (log_of_step S s e new x log))
    within (Begin w n) x t e g = g
    within (Back w n) x t e g = g
    within (End w n) x t e g = after_within x.1.item.task (x.1.before ++ x.1.after) (S.effect x.1.item.task x.1.answers) x.1.result t e g

    seen_stays : Follows S s log → (e : Event) (x : Step S s e new) → (i j : Item T) → In i s.items → In j new.items → j.task ≡ i.task
        → (xs : List (Answer K V)) → SeesAll S s (S.inputs i.task) xs → SeesAll S new (S.inputs i.task) xs
    seen_stays f e x i j hi hj same xs seen =
        let more = log_of_step S s e new x log in
        let f' = step_follow S L s new log f e x in
        let old = run_settled S L f.run in
        let now = run_settled S L f'.run in
        let wt = f.items.waits i hi in
        let wt' : Waits S more i.task = subst (λ (t : T). Waits S more t) same (f'.items.waits j hj) in
        let given = all_given S L log old.0 old.1 (S.inputs i.task) xs (reads_enabled S L s log f i.task wt xs seen) in
        let later = all_grow S L (Logged S log) (Logged S more) (within e x) (settled_grounded S L (Logged S more) now.0) now.0.one_effect now.0.one_writer (S.inputs i.task) xs given in
        sees_enabled S L new more f' i.task wt' xs (all_read S L more now.0 (S.inputs i.task) xs later)

    pub knows_later : Follows S s log → (e : Event) → Step S s e new → (n : ℕ) (t : T) (xs : List (Answer K V)) → Knows S s n t xs → Knows S new n t xs
    knows_later f e x n t xs k =
        record {
          given = (let q = next_grows s new e x in let g = k.given in omega arith);
          task = λ j h p. (let o = was j h p in sym o.task_is ∙ k.task o.item o.there (o.number_is ∙ p));
          seen = λ j h p. (let o = was j h p in
              let task = k.task o.item o.there (o.number_is ∙ p) in
              subst (λ (u : T). SeesAll S new (S.inputs u) xs) task (seen_stays f e x o.item j o.there h (sym o.task_is) xs (subst (λ (u : T). SeesAll S s (S.inputs u) xs) (sym task) (k.seen o.item o.there (o.number_is ∙ p)))));
        }
      where
        was : (j : Item T) → In j new.items → j.number ≡ n → Older s j
        was j h p = older s new e x j h (let g = k.given in omega arith)

  -- what an item sees is known of it
  pub knows_seen : (es : List Event) (s : State T D K V E) → Run S es s → (i : Item T) → In i s.items → (xs : List (Answer K V)) → SeesAll S s (S.inputs i.task) xs → Knows S s i.number i.task xs
  knows_seen es s run i h xs seen =
      let n = run_numbered S es s run in
      record {
        given = n.below i.number (in_map number_of_item i s.items h);
        task = λ j g p. ap (λ (x : Item T). x.task) (one_item s.items n.once j i g h p);
        seen = λ j g p. seen;
      }
