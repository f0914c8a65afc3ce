-- The events of a run tell its log and its state, but for free data.
use Rattle.std.proofs.Common.{◌≡◌, ◌⊎◌, inl, inr, ℕ, ◌+◌, List, [], ◌∷◌, ◌++◌, map, refl, sym, ap, ◌∙◌, subst, Option, None, Some, length}
use Rattle.dataflow.specs.System.{In, Distinct, tasks_of, Write, Effect, Outcome, Good, Bad, System}
use Rattle.dataflow.specs.Laws.{Laws}
use Rattle.dataflow.specs.Log.{Waits, Ready, ReadsAll}
use Rattle.dataflow.specs.Machine.{Item, OfTask, ElementTwice, State, Event, Begin, End, Back, new_items, Free, Leaves, Clashes, ended, After, Step, Steps, Run, start}
use Rattle.dataflow.specs.History.{log_after, log_of_step, log_of_steps, log_of}
use Rattle.dataflow.specs.Data.{SameButFree}
use Rattle.dataflow.proofs.Lists.{in_map, in_right}
use Rattle.dataflow.proofs.Follows.{Uses, Follows, enabled, reads_enabled}
use Rattle.dataflow.proofs.Ending.{calm_is_new}
use Rattle.dataflow.proofs.Decide.{user_is}
use Rattle.dataflow.proofs.Known.{one_read}
use Rattle.dataflow.proofs.Keeping.{kept}
use Rattle.dataflow.proofs.Numbers.{number_of_item, Numbered, step_numbered, start_numbered}
use Rattle.dataflow.proofs.Steps.{start_follow, step_follow}

-- a list has one item of a number, at one place
split_once : {T : Type 0} (before before' after after' : List (Item T)) (i j : Item T) → Distinct (map number_of_item (before ++ i ∷ after)) → before ++ i ∷ after ≡ before' ++ j ∷ after' → i.number ≡ j.number → (before ≡ before') × (i ≡ j) × (after ≡ after')
split_once [] [] after after' i j d p q = (refl, (cc), (cc))
split_once {T} [] (b ∷ before') after after' i j d p q =
    let same : after ≡ before' ++ j ∷ after' = cc in
    absurd (d.0 (subst (λ (n : ℕ). In n (map number_of_item after)) (sym q) (subst (λ (is : List (Item T)). In j.number (map number_of_item is)) (sym same) (in_map number_of_item j (before' ++ j ∷ after') (in_right j before' (j ∷ after') (inl refl))))))
split_once {T} (b ∷ before) [] after after' i j d p q =
    let first : b ≡ j = cc in
    absurd (d.0 (subst (λ (n : ℕ). In n (map number_of_item (before ++ i ∷ after))) (q ∙ sym (ap number_of_item first)) (in_map number_of_item i (before ++ i ∷ after) (in_right i before (i ∷ after) (inl refl)))))
split_once {T} (b ∷ before) (b' ∷ before') after after' i j d p q =
    let first : b ≡ b' = cc in
    let rest : before ++ i ∷ after ≡ before' ++ j ∷ after' = cc in
    let r = split_once before before' after after' i j d.1 rest q in
    ((λ k. first k ∷ r.0 k), r.1, r.2)

module _ {T D K V E : Type 0} (S : System T D K V E) (L : Laws S) where
  -- two states that differ at most in their data
  pub record Alike (s s' : State T D K V E) : Type 0 where
    pub items : s.items ≡ s'.items
    pub next : s.next ≡ s'.next
    pub lines : s.lines ≡ s'.lines
    pub fault : s.fault ≡ s'.fault

  -- the same step added the same to the log, and left states that are alike
  pub record Follow (more more' : List (T × Effect T D K V)) (new new' : State T D K V E) : Type 0 where
    pub log_is : more ≡ more'
    pub states : Alike new new'

  leaves_alike : (mid mid' new new' : State T D K V E) → Alike mid mid' → Leaves S mid new → Leaves S mid' new' → Alike new new'
  leaves_alike mid mid' new new' a l l' = record {
    items = l.items ∙ a.items ∙ sym l'.items;
    next = l.next ∙ a.next ∙ sym l'.next;
    lines = l.lines ∙ a.lines ∙ sym l'.lines;
    fault = l.fault ∙ a.fault ∙ sym l'.fault;
  }

  module _ (s s' : State T D K V E) (log : List (T × Effect T D K V)) (f : Follows S s log) (f' : Follows S s' log) (alike : Alike s s') where
    -- the same item at the same place, with another mark
    marked_alike : (before before' after after' : List (Item T)) (i j : Item T) (r : Option ℕ) (new new' : State T D K V E) → (before ≡ before') × (i ≡ j) × (after ≡ after') → Leaves S (record s { items = before ++ record { number = i.number; task = i.task; runs = r } ∷ after }) new → Leaves S (record s' { items = before' ++ record { number = j.number; task = j.task; runs = r } ∷ after' }) new' → Alike new new'
    marked_alike before before' after after' i j r new new' p l l' =
        leaves_alike _ _ new new' (record { items = λ k. p.0 k ++ record { number = (p.1 k).number; task = (p.1 k).task; runs = r } ∷ p.2 k; next = alike.next; lines = alike.lines; fault = alike.fault }) l l'

    -- an effect that writes an element that is there does so in both
    clash_not_calm : (item item' : Item T) (before' after' : List (Item T)) (e e' : Effect T D K V) → s'.items ≡ before' ++ item' ∷ after' → Ready S log item'.task (Good e') → e ≡ e' → Clashes S s e → (Clashes S s' e' → ⊥) → ⊥
    clash_not_calm item item' before' after' e e' at en same x calm =
        calm_is_new S L s' log f' item' before' after' at e' en calm x.0 x.1 x.2 x.3 x.4 (subst (λ (y : Effect T D K V). In (record { place = x.0; key = x.1; value = x.2 }) y.writes) same x.5) (f.store.stored_in (record { place = x.0; key = x.1; value = x.3 }) x.6)

    module _ (f'' : Follows S s log) where
      calm_not_clash : (item item' : Item T) (before after : List (Item T)) (e e' : Effect T D K V) → s.items ≡ before ++ item ∷ after → Ready S log item.task (Good e) → e ≡ e' → (Clashes S s e → ⊥) → Clashes S s' e' → ⊥
      calm_not_clash item item' before after e e' at en same calm x =
          calm_is_new S L s log f item before after at e en calm x.0 x.1 x.2 x.3 x.4 (subst (λ (y : Effect T D K V). In (record { place = x.0; key = x.1; value = x.2 }) y.writes) (sym same) x.5) (f'.store.stored_in (record { place = x.0; key = x.1; value = x.3 }) x.6)

    after_alike : (before before' after after' : List (Item T)) (i j : Item T) (r r' : Outcome T D K V E) (new new' : State T D K V E) → s.items ≡ before ++ i ∷ after → s'.items ≡ before' ++ j ∷ after' → (before ≡ before') × (i ≡ j) × (after ≡ after') → r ≡ r' → Ready S log i.task r → Ready S log j.task r' → (x : After S s i.task (before ++ after) r new) (x' : After S s' j.task (before' ++ after') r' new') → Follow (log_after S s i.task (before ++ after) r new x log) (log_after S s' j.task (before' ++ after') r' new' x' log) new new'
    after_alike before before' after after' i j (Bad b) (Bad b') new new' at at' p q en en' l l' =
        let same : b ≡ b' = cc in
        record { log_is = refl; states = leaves_alike _ _ new new' (record { items = alike.items; next = alike.next; lines = alike.lines; fault = λ k. Some ((p.1 k).task, OfTask (same k)) }) l l' }
    after_alike before before' after after' i j (Bad b) (Good e') new new' at at' p q en en' l l' = absurd (cc)
    after_alike before before' after after' i j (Good e) (Bad b') new new' at at' p q en en' l l' = absurd (cc)
    after_alike before before' after after' i j (Good e) (Good e') new new' at at' p q en en' (inl x) (inl y) =
        record { log_is = refl; states = leaves_alike _ _ new new' (record { items = alike.items; next = alike.next; lines = alike.lines; fault = λ k. Some ((p.1 k).task, ElementTwice) }) x.1 y.1 }
    after_alike before before' after after' i j (Good e) (Good e') new new' at at' p q en en' (inl x) (inr y) =
        absurd (clash_not_calm i j before' after' e e' at' en' (cc) x.0 y.0)
    after_alike before before' after after' i j (Good e) (Good e') new new' at at' p q en en' (inr x) (inl y) =
        absurd (calm_not_clash f i j before after e e' at en (cc) x.0 y.0)
    after_alike before before' after after' i j (Good e) (Good e') new new' at at' p q en en' (inr x) (inr y) =
        let same : e ≡ e' = cc in
        record {
          log_is = λ k. ((p.1 k).task, same k) ∷ log;
          states = leaves_alike (ended S s (before ++ after) e) (ended S s' (before' ++ after') e') new new'
              (record {
                items = λ k. (p.0 k ++ p.2 k) ++ new_items (alike.next k) (tasks_of (same k).opens);
                next = λ k. alike.next k + length (tasks_of (same k).opens);
                lines = λ k. alike.lines k ++ (same k).lines;
                fault = refl;
              }) x.1 y.1;
        }

    item_waits : (item : Item T) (before after : List (Item T)) → s.items ≡ before ++ item ∷ after → Waits S log item.task
    item_waits item before after at = f.items.waits item (subst (λ (is : List (Item T)). In item is) (sym at) (in_right item before (item ∷ after) (inl refl)))

    item_waits' : (item : Item T) (before after : List (Item T)) → s'.items ≡ before ++ item ∷ after → Waits S log item.task
    item_waits' item before after at = f'.items.waits item (subst (λ (is : List (Item T)). In item is) (sym at) (in_right item before (item ∷ after) (inl refl)))

    module _ (numbered : Numbered S s) where
      same_place : (n : ℕ) (before before' after after' : List (Item T)) (i j : Item T) → s.items ≡ before ++ i ∷ after → s'.items ≡ before' ++ j ∷ after' → i.number ≡ n → j.number ≡ n → (before ≡ before') × (i ≡ j) × (after ≡ after')
      same_place n before before' after after' i j at at' p q =
          split_once before before' after after' i j (subst (λ (is : List (Item T)). Distinct (map number_of_item is)) at numbered.once) (sym at ∙ alike.items ∙ at') (p ∙ sym q)

      pub step_alike : (e : Event) (new new' : State T D K V E) (x : Step S s e new) (x' : Step S s' e new') → Follow (log_of_step S s e new x log) (log_of_step S s' e new' x' log) new new'
      step_alike (Begin w n) new new' x x' =
          let p = same_place n x.1.before x'.1.before x.1.after x'.1.after x.1.item x'.1.item x.1.at.items x'.1.at.items x.1.at.number_is x'.1.at.number_is in
          record { log_is = refl; states = marked_alike x.1.before x'.1.before x.1.after x'.1.after x.1.item x'.1.item (Some w) new new' p x.1.result x'.1.result }
      step_alike (Back w n) new new' x x' =
          let p = same_place n x.1.before x'.1.before x.1.after x'.1.after x.1.item x'.1.item x.1.at.items x'.1.at.items x.1.at.number_is x'.1.at.number_is in
          record { log_is = refl; states = marked_alike x.1.before x'.1.before x.1.after x'.1.after x.1.item x'.1.item None new new' p x.1.result x'.1.result }
      step_alike (End w n) new new' x x' =
          let p = same_place n x.1.before x'.1.before x.1.after x'.1.after x.1.item x'.1.item x.1.at.items x'.1.at.items x.1.at.number_is x'.1.at.number_is in
          let wait = item_waits x.1.item x.1.before x.1.after x.1.at.items in
          let wait' = item_waits' x'.1.item x'.1.before x'.1.after x'.1.at.items in
          let reads = reads_enabled S L s log f x.1.item.task wait x.1.answers x.1.known in
          let reads' = reads_enabled S L s' log f' x'.1.item.task wait' x'.1.answers x'.1.known in
          let same : x.1.answers ≡ x'.1.answers = one_read S L s log f x.1.item.task x.1.answers x'.1.answers reads (subst (λ (i : Item T). ReadsAll S log (S.inputs i.task) x'.1.answers) (sym p.1) reads') in
          after_alike x.1.before x'.1.before x.1.after x'.1.after x.1.item x'.1.item (S.effect x.1.item.task x.1.answers) (S.effect x'.1.item.task x'.1.answers) new new' x.1.at.items x'.1.at.items p (λ k. S.effect (p.1 k).task (same k))
          (enabled S L s log f x.1.item.task wait x.1.answers x.1.known) (enabled S L s' log f' x'.1.item.task wait' x'.1.answers x'.1.known) x.1.result x'.1.result

    -- they differ only in data that are free
    pub same_but_free : SameButFree S s s'
    same_but_free = record { items = alike.items; next = alike.next; lines = alike.lines; fault = alike.fault; places = places; values = values }
      where
        free_here : (a : D) → Free S s' a → Free S s a
        free_here a x = record {
          unread = λ i h m. x.unread i (subst (λ (is : List (Item T)). In i is) alike.items h) m;
          unwritten = λ i h m. x.unwritten i (subst (λ (is : List (Item T)). In i is) alike.items h) m;
        }

        places : (a : D) → In a s.places → In a s'.places ⊎ Free S s a
        places a h = elim (kept S L s' log f' a (f.store.data_in a h)) [ inl i ↦ inl i | inr x ↦ inr (free_here a x) ]

        values : (w : Write D K V) → In w s.stored → In w s'.stored ⊎ Free S s w.place
        values w h = by (user_is S L w.place s'.items)
          where
            by : ((i : Item T) × In i s'.items × Uses S i.task w.place) ⊎ ((i : Item T) → In i s'.items → Uses S i.task w.place → ⊥) → In w s'.stored ⊎ Free S s w.place
            by (inl u) = inl (f'.store.stored_all w.place w.key w.value u.0.task (f.store.stored_in w h) (f'.items.waits u.0 u.1) u.2)
            by (inr n) = inr (free_here w.place (record { unread = λ i g r. n i g (inl r); unwritten = λ i g m. n i g (inr m) }))

  pub record Both (more more' : List (T × Effect T D K V)) (new new' : State T D K V E) : Type 0 where
    pub log_is : more ≡ more'
    pub same : SameButFree S new new'

  steps_alike : (es : List Event) (s s' new new' : State T D K V E) (log : List (T × Effect T D K V)) (f : Follows S s log) (f' : Follows S s' log) → Alike s s' → Numbered S s → (x : Steps S s es new) (x' : Steps S s' es new') → Both (log_of_steps S s es new x log) (log_of_steps S s' es new' x' log) new new'
  steps_alike [] s s' new new' log f f' alike numbered x x' =
      record { log_is = refl; same = subst (λ (z : State T D K V E). SameButFree S z new') x (subst (λ (z : State T D K V E). SameButFree S s z) x' (same_but_free s s' log f f' alike)) }
  steps_alike (e ∷ es) s s' new new' log f f' alike numbered x x' =
      let r = step_alike s s' log f f' alike numbered e x.0 x'.0 x.1 x'.1 in
      let g = step_follow S L s x.0 log f e x.1 in
      let g' = step_follow S L s' x'.0 log f' e x'.1 in
      let more = log_of_step S s e x.0 x.1 log in
      let more' = log_of_step S s' e x'.0 x'.1 log in
      let rest = steps_alike es x.0 x'.0 new new' more g (subst (λ (l : List (T × Effect T D K V)). Follows S x'.0 l) (sym r.log_is) g') r.states (step_numbered S s e x.0 numbered x.1) x.2 x'.2 in
      record { log_is = rest.log_is ∙ ap (λ (l : List (T × Effect T D K V)). log_of_steps S x'.0 es new' x'.2 l) r.log_is; same = rest.same }

  -- two runs of the same events
  pub run_determined : (es : List Event) (s s' : State T D K V E) (x : Run S es s) (x' : Run S es s') → Both (log_of S es s x) (log_of S es s' x') s s'
  run_determined es s s' x x' =
      steps_alike es (start S) (start S) s s' [] (start_follow S L) (start_follow S L) (record { items = refl; next = refl; lines = refl; fault = refl }) (start_numbered S) x x'
