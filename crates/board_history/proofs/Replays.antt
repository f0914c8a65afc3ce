-- A history is replayed exactly where the machine has a run of it, and the state is the same but for free data.
use Rattle.std.proofs.Common.{◌≡◌, ℕ, List, [], ◌∷◌, ◌++◌, refl, sym, ap, ◌∙◌, subst, Option, None, Some}
use Rattle.dataflow.specs.System.{In, Effect, System}
use Rattle.dataflow.specs.Laws.{Laws}
use Rattle.dataflow.specs.Machine.{Item, State, Event, Begin, End, Back, Enabled, At, Step, Steps, Run, start}
use Rattle.dataflow.specs.History.{log_of_step, log_of}
use Rattle.dataflow.specs.Data.{IsTidy, DataAreExact, SameButFree}
use Rattle.dataflow.proofs.Lists.{seam_here}
use Rattle.dataflow.proofs.Follows.{Follows, reads_enabled, sees_enabled}
use Rattle.dataflow.proofs.Known.{one_value, sees, sees_only}
use Rattle.dataflow.proofs.Numbers.{Numbered, step_numbered, start_numbered}
use Rattle.dataflow.proofs.Steps.{start_follow, step_follow, run_follows}
use Rattle.dataflow.proofs.Determined.{Alike, step_alike, run_determined}
use Rattle.dataflow.proofs.Keeping.{data_exact}
use Rattle.board_history.specs.Replay.{Tests, AreTests, next_state, replayed_from, replayed, and_then}
use Rattle.board_history.proofs.Tests.{none_some}
use Rattle.board_history.proofs.Next.{next_goes, begins_next, ends_next, backs_next}

module _ {T D K V E : Type 0} (S : System T D K V E) (X : Tests D K V) (R : AreTests S X) (L : Laws S) where
  -- what a state keeps along its log
  record Kept (s : State T D K V E) (log : List (T × Effect T D K V)) : Type 0 where
    follows : Follows S s log
    numbered : Numbered S s

  kept_on : (s new : State T D K V E) (log : List (T × Effect T D K V)) (e : Event) → Kept s log → (x : Step S s e new) → Kept new (log_of_step S s e new x log)
  kept_on s new log e k x = record { follows = step_follow S L s new log k.follows e x; numbered = step_numbered S s e new k.numbered x }

  kept_start : Kept (start S) []
  kept_start = record { follows = start_follow S L; numbered = start_numbered S }

  next_step : (s : State T D K V E) (log : List (T × Effect T D K V)) → Kept s log → (e : Event) (t : State T D K V E) → next_state S X s e ≡ Some t → Step S s e t × IsTidy S t
  next_step s log k e t h = next_goes S X R s (one_value S L s log k.follows) e t h

  -- numbers are kept along several steps
  pub numbered_on : (es : List Event) (s t : State T D K V E) → Numbered S s → Steps S s es t → Numbered S t
  numbered_on [] s t n x = subst (λ (z : State T D K V E). Numbered S z) x n
  numbered_on (e ∷ es) s t n x = numbered_on es x.0 t (step_numbered S s e x.0 n x.1) x.2

  -- two states alike: what is enabled in one is so in the other
  module _ (s s' : State T D K V E) (log : List (T × Effect T D K V)) (k : Kept s log) (k' : Kept s' log) (alike : Alike S L s s') where
    enabled_too : (i : Item T) → In i s.items → Enabled S s i.task → Enabled S s' i.task
    enabled_too i h en =
        let wait = k.follows.items.waits i h in
        let a = sees S L s log k.follows i.task en in
        let reads = reads_enabled S L s log k.follows i.task wait a.0 a.1 in
        sees_only S L s' log k'.follows i.task a.0 (sees_enabled S L s' log k'.follows i.task wait a.0 reads)

    member : (n : ℕ) (item : Item T) (before after : List (Item T)) → At S s n item before after → In item s.items
    member n item before after at = subst (λ (is : List (Item T)). In item is) (sym at.items) (seam_here item before after)

    -- where one has a step, the other has its next state
    next_too : (e : Event) (new : State T D K V E) → Step S s e new → (t : State T D K V E) × (next_state S X s' e ≡ Some t)
    next_too (Begin w n) new x =
        let b = x.1 in
        begins_next S X R s' (one_value S L s' log k'.follows) k'.numbered.once (sym alike.fault ∙ x.0) w n b.item b.before b.after (sym alike.items ∙ b.at.items) b.at.number_is b.idle (enabled_too b.item (member n b.item b.before b.after b.at) b.enabled)
    next_too (End w n) new x =
        let b = x.1 in
        ends_next S X R s' (one_value S L s' log k'.follows) k'.numbered.once (sym alike.fault ∙ x.0) w n b.item b.before b.after (sym alike.items ∙ b.at.items) b.at.number_is b.runs (enabled_too b.item (member n b.item b.before b.after b.at) (sees_only S L s log k.follows b.item.task b.answers b.known))
    next_too (Back w n) new x =
        let b = x.1 in
        backs_next S X R s' (one_value S L s' log k'.follows) k'.numbered.once (sym alike.fault ∙ x.0) w n b.item b.before b.after (sym alike.items ∙ b.at.items) b.at.number_is b.runs

  alike_self : (s : State T D K V E) → Alike S L s s
  alike_self s = record { items = refl; next = refl; lines = refl; fault = refl }

  -- in a state of a run: the next state is one that the machine steps to
  pub run_next : (es : List Event) (s : State T D K V E) → Run S es s → (e : Event) (t : State T D K V E) → next_state S X s e ≡ Some t → Step S s e t × IsTidy S t
  run_next es s x e t h =
      next_goes S X R s (one_value S L s (log_of S es s x) (run_follows S L es s x)) e t h

  -- and where there is none, the machine has no step
  pub run_none : (es : List Event) (s : State T D K V E) → Run S es s → (e : Event) → next_state S X s e ≡ None → (t : State T D K V E) → Step S s e t → ⊥
  run_none es s x e h t y =
      let k : Kept s (log_of S es s x) = record { follows = run_follows S L es s x; numbered = numbered_on es (start S) s (start_numbered S) x } in
      let r = next_too s s (log_of S es s x) k k (alike_self s) e t y in
      none_some (sym h ∙ r.1)

  pub run_some : (es : List Event) (s : State T D K V E) → Run S es s → (e : Event) (new : State T D K V E) → Step S s e new → (t : State T D K V E) × (next_state S X s e ≡ Some t)
  run_some es s x e new y =
      let k : Kept s (log_of S es s x) = record { follows = run_follows S L es s x; numbered = numbered_on es (start S) s (start_numbered S) x } in
      next_too s s (log_of S es s x) k k (alike_self s) e new y

  -- what is replayed is a run
  none_on : (es : List Event) → replayed_from S X None es ≡ None
  none_on [] = refl
  none_on (e ∷ es) = refl

  steps_replayed : (es : List Event) (s t : State T D K V E) (log : List (T × Effect T D K V)) → Kept s log → IsTidy S s → replayed_from S X (Some s) es ≡ Some t → Steps S s es t × IsTidy S t
  steps_replayed [] s t log k tidy h =
      let e : s ≡ t = cc in
      (e, subst (λ (z : State T D K V E). IsTidy S z) e tidy)
  steps_replayed (e ∷ es) s t log k tidy h = by (λ m x y. steps_replayed es m t (log_of_step S s e m x log) (kept_on s m log e k x) y) (next_state S X s e) refl h
    where
      by : ((m : State T D K V E) → Step S s e m → IsTidy S m → replayed_from S X (Some m) es ≡ Some t → Steps S m es t × IsTidy S t) → (r : Option (State T D K V E)) → next_state S X s e ≡ r → replayed_from S X r es ≡ Some t → Steps S s (e ∷ es) t × IsTidy S t
      by ih None q h = none_some (sym (none_on es) ∙ h)
      by ih (Some m) q h =
          let x = next_step s log k e m q in
          let r = ih m x.0 x.1 h in
          ((m, x.0, r.0), r.1)

  pub run_replayed : (es : List Event) (s : State T D K V E) → replayed S X es ≡ Some s → Run S es s × IsTidy S s
  run_replayed es s h = steps_replayed es (start S) s [] kept_start (λ a i f. i) h

  -- each run is replayed
  replayed_steps : (es : List Event) (s s' t : State T D K V E) (log : List (T × Effect T D K V)) → Kept s log → Kept s' log → Alike S L s s' → Steps S s es t → (t' : State T D K V E) × (replayed_from S X (Some s') es ≡ Some t')
  replayed_steps [] s s' t log k k' alike x = (s', refl)
  replayed_steps (e ∷ es) s s' t log k k' alike x =
      let m = x.0 in
      let r = next_too s s' log k k' alike e m x.1 in
      let y = next_step s' log k' e r.0 r.1 in
      let f = step_alike S L s s' log k.follows k'.follows alike k.numbered e m r.0 x.1 y.0 in
      let g = kept_on s m log e k x.1 in
      let g' = kept_on s' r.0 log e k' y.0 in
      let rest = replayed_steps es m r.0 t (log_of_step S s e m x.1 log) g (subst (λ (l : List (T × Effect T D K V)). Kept r.0 l) (sym f.log_is) g') f.states x.2 in
      (rest.0, ap (λ (o : Option (State T D K V E)). replayed_from S X o es) r.1 ∙ rest.1)

  pub run_is_replayed : (es : List Event) (t : State T D K V E) → Run S es t → (s : State T D K V E) × (replayed S X es ≡ Some s) × SameButFree S s t × SameButFree S t s
  run_is_replayed es t x =
      let r = replayed_steps es (start S) (start S) t [] kept_start kept_start (alike_self (start S)) x in
      let y = (run_replayed es r.0 r.1).0 in
      (r.0, r.1, (run_determined S L es r.0 t y x).same, (run_determined S L es t r.0 x y).same)

  pub replayed_exact : (es : List Event) (s : State T D K V E) → replayed S X es ≡ Some s → (run : Run S es s) → DataAreExact S s (log_of S es s run)
  replayed_exact es s h run = data_exact S L s (log_of S es s run) (run_follows S L es s run) (run_replayed es s h).1

module _ {T D K V E : Type 0} (S : System T D K V E) (X : Tests D K V) where
  -- a history that grows
  from_append : (r : Option (State T D K V E)) (es fs : List Event) → replayed_from S X r (es ++ fs) ≡ replayed_from S X (replayed_from S X r es) fs
  from_append r [] fs = refl
  from_append None (e ∷ es) [] = refl
  from_append None (e ∷ es) (f ∷ fs) = refl
  from_append (Some s) (e ∷ es) fs = from_append (next_state S X s e) es fs

  then_is : (r : Option (State T D K V E)) (e : Event) → replayed_from S X r (e ∷ []) ≡ and_then S X r e
  then_is None e = refl
  then_is (Some s) e = refl

  pub replayed_then : (es : List Event) (e : Event) → replayed S X (es ++ e ∷ []) ≡ and_then S X (replayed S X es) e
  replayed_then es e = from_append (Some (start S)) es (e ∷ []) ∙ then_is (replayed S X es) e
