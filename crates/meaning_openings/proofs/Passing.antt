-- Statements are passed one after another: their calls are opened, and they are looked at as headers.
use Rattle.std.specs.Prelude.{◌≡◌, ◌⊎◌, ℕ, suc, ◌+◌, ◌<◌, ◌≤◌, List, [], ◌∷◌, ◌++◌, length, take, Some, None, slice_get}
use Rattle.std.proofs.Common.{inl, inr, sym, ap, ◌∙◌, subst, arith}
use Rattle.std.proofs.lemmas.List.{append_assoc}
use Rattle.language.specs.Core.{Core}
use Rattle.language.specs.Meaning.{Known}
use Rattle.language.specs.Members.{◌∈◌, first}
use Rattle.language.proofs.Members.{either, split_in, to_left, to_right}
use Rattle.meaning_invariants.specs.Active.{Active}
use Rattle.meaning_invariants.specs.Opened.{AreCalled, ArePassed, IsOpened, IsUnready}
use Rattle.meaning_invariants.proofs.Going.{called_stays, opened_stays, unready_stays}
use Rattle.meaning_round.specs.declared.state.RoundState.{RoundState}
use Rattle.meaning_round.specs.Made.{tasks_of, waiting_of}
use Rattle.meaning_openings.specs.Opening.{ArePassedBy, AreWaiting, AreWoken, IsGood, IsLookedAt, is_opened, still_waits, IsMore, IsPassed, IsStep}
use Rattle.meaning_openings.proofs.Entering.{step_joins}
use Rattle.meaning_openings.proofs.Calling.{only_one}
use Rattle.meaning_openings.proofs.Taking.{got_in, taken_all, taken_before, taken_in, taken_next}

-- ONE STATEMENT LOOKED AT

module _ {A : Type 0} (s : Core) (n : ℕ) (old new : RoundState A) (good : IsGood s n old) (step : IsStep s n old new) where
  within : (x : Active) → x ∈ tasks_of old → x.instance < length old.fact_base.instances.all.items
  within x m = (good.live x m).within

  pub still_opened : (x : Active) → x ∈ tasks_of old → IsOpened s (Known s n) old.fact_base (tasks_of old) x → IsOpened s (Known s n) new.fact_base (tasks_of new) x
  still_opened x m o = opened_stays old.fact_base new.fact_base (tasks_of old) (tasks_of new) step.goes x (within x m) o

  pub still_called : (x : Active) → x ∈ tasks_of old → AreCalled s old.fact_base (tasks_of old) x → AreCalled s new.fact_base (tasks_of new) x
  still_called x m o = called_stays old.fact_base new.fact_base (tasks_of old) (tasks_of new) step.goes s x (within x m) o

  pub still_unready : (x : Active) → x ∈ tasks_of old → IsUnready old.fact_base x → IsUnready new.fact_base x
  still_unready x m u = unready_stays old.fact_base new.fact_base (tasks_of old) (tasks_of new) step.goes x (within x m) u

  -- where those that wait are the same
  pub waiting_stays : waiting_of new ≡ waiting_of old → AreWaiting old → AreWaiting new
  waiting_stays e w = record {
    live = λ x m. step.goes.listed x (w.live x (subst (λ (z : List Active). x ∈ z) e m));
    unready = λ x m. (let i = subst (λ (z : List Active). x ∈ z) e m in still_unready x (w.live x i) (w.unready x i));
  }

  pub passed_with : waiting_of new ≡ waiting_of old → (x : Active) → x ∈ tasks_of old → IsPassed s n old x → IsPassed s n new x
  passed_with e x m p = elim p [ inl o ↦ inl (still_opened x m o) | inr w ↦ inr (subst (λ (z : List Active). x ∈ z) (sym e) w) ]

  module _ (a : Active) (there : a ∈ tasks_of old) (waiting : AreWaiting old) where
    pub looked_waiting : IsLookedAt s n old a new → AreWaiting new
    looked_waiting (is_opened o e) = waiting_stays e waiting
    looked_waiting (still_waits e u) = record {
      live = λ x m. elim (either (waiting_of old) (a ∷ []) (subst (λ (z : List Active). x ∈ z) e m)) [
        | inl i ↦ step.goes.listed x (waiting.live x i)
        | inr i ↦ subst (λ (z : Active). z ∈ tasks_of new) (sym (only_one x a i)) (step.goes.listed a there)
      ];
      unready = λ x m. elim (either (waiting_of old) (a ∷ []) (subst (λ (z : List Active). x ∈ z) e m)) [
        | inl i ↦ still_unready x (waiting.live x i) (waiting.unready x i)
        | inr i ↦ subst (λ (z : Active). IsUnready new.fact_base z) (sym (only_one x a i)) u
      ];
    }

  pub looked_passed : (a : Active) → IsLookedAt s n old a new → IsPassed s n new a
  looked_passed a (is_opened o e) = inl o
  looked_passed a (still_waits e u) = inr (subst (λ (z : List Active). a ∈ z) (sym e) (to_right (waiting_of old) (a ∷ []) first))

  pub looked_still : (a : Active) → IsLookedAt s n old a new → (x : Active) → x ∈ tasks_of old → IsPassed s n old x → IsPassed s n new x
  looked_still a (is_opened o e) x m p = passed_with e x m p
  looked_still a (still_waits e u) x m p = elim p [
    | inl o ↦ inl (still_opened x m o)
    | inr w ↦ inr (subst (λ (z : List Active). x ∈ z) (sym e) (to_left (waiting_of old) (a ∷ []) w))
  ]

-- THOSE THAT WAITED

pub none_woken : {A : Type 0} (s : Core) (n : ℕ) (old new : RoundState A) → IsStep s n old new → waiting_of new ≡ [] → AreWoken s n old new (waiting_of old)
none_woken {A} s n old new step e = record {
  step = step;
  waiting = record { live = λ x m. absurd (none x m); unready = λ x m. absurd (none x m) };
  woken = λ x m. inr m;
}
  where
    empty : (x : Active) → x ∈ [] → ⊥
    empty x m = elim m [ ]

    none : (x : Active) → x ∈ waiting_of new → ⊥
    none x m = empty x (subst (λ (z : List Active). x ∈ z) e m)

-- one more of them was looked at
pub woken_next : {A : Type 0} (s : Core) (n : ℕ) (old mid new : RoundState A) (a : Active) (left : List Active) → ((x : Active) → x ∈ waiting_of old → x ∈ tasks_of old) → a ∈ waiting_of old
    → AreWoken s n old mid (a ∷ left) → (IsGood s n mid → a ∈ tasks_of mid → IsStep s n mid new × IsLookedAt s n mid a new) → AreWoken s n old new left
woken_next {A} s n old mid new a left live there w looks =
    let in_mid : (x : Active) → x ∈ waiting_of old → x ∈ tasks_of mid = λ x m. w.step.goes.listed x (live x m) in
    let now = looks w.step.so (in_mid a there) in
    record {
      step = step_joins s n old mid new w.step now.0;
      waiting = looked_waiting s n mid new w.step.so now.0 a (in_mid a there) w.waiting now.1;
      woken = λ x m. elim (w.woken x m) [
        | inl p ↦ inl (looked_still s n mid new w.step.so now.0 a now.1 x (in_mid x m) p)
        | inr i ↦ elim (split_in i) [
          | inl e ↦ inl (subst (λ (z : Active). IsPassed s n new z) (sym e) (looked_passed s n mid new w.step.so now.0 a now.1))
          | inr j ↦ inr j
        ]
      ];
    }

-- THOSE THAT BECAME LIVE

-- where all that waited were looked at again, what was passed is passed
pub pass_first : {A : Type 0} (s : Core) (n : ℕ) (old mid : RoundState A) (j k : ℕ) → j ≤ k → j ≤ length (tasks_of old) → IsGood s n old → ArePassed s (Known s n) old.fact_base (tasks_of old) (take k (tasks_of old)) (waiting_of old)
    → AreWoken s n old mid [] → IsMore old mid → ArePassedBy s n old mid (take j (tasks_of mid))
pass_first {A} s n old mid j k below inside good passed w more =
    let before : (x : Active) → x ∈ take j (tasks_of mid) → x ∈ take k (tasks_of old)
    = λ x m. taken_before j k (tasks_of old) more.more x below inside (subst (λ (z : List Active). x ∈ take j z) more.tasks m) in
    record {
      step = w.step;
      waiting = w.waiting;
      so = record {
        called = λ x m. still_called s n old mid good w.step x (taken_in k (tasks_of old) x (before x m)) (passed.called x (before x m));
        opened = λ x m. elim (passed.opened x (before x m)) [
          | inl o ↦ inl (still_opened s n old mid good w.step x (taken_in k (tasks_of old) x (before x m)) o)
          | inr i ↦ elim (w.woken x i) [ inl p ↦ p | inr j ↦ absurd (empty x j) ]
        ];
      };
    }
  where
    empty : (x : Active) → x ∈ [] → ⊥
    empty x m = elim m [ ]

-- one more was passed
pub pass_next : {A : Type 0} (s : Core) (n : ℕ) (old mid called new : RoundState A) (a : Active) (k : ℕ) → ArePassedBy s n old mid (take k (tasks_of mid)) → slice_get (tasks_of mid) k ≡ Some a
    → (IsGood s n mid → a ∈ tasks_of mid → IsStep s n mid called × AreCalled s called.fact_base (tasks_of called) a) → waiting_of called ≡ waiting_of mid
    → (IsGood s n called → a ∈ tasks_of called → IsStep s n called new × IsLookedAt s n called a new) → IsMore mid called → IsMore called new
    → ArePassedBy s n old new (take (k + 1) (tasks_of new))
pass_next {A} s n old mid called new a k p found calls same looks more further =
    let there = got_in k (tasks_of mid) a found in
    let c = calls p.step.so there in
    let there_called = c.0.goes.listed a there in
    let o = looks c.0.so there_called in
    let both = step_joins s n mid called new c.0 o.0 in
    let tasks : tasks_of new ≡ tasks_of mid ++ (more.more ++ further.more) =
    further.tasks ∙ ap (λ (z : List Active). z ++ further.more) more.tasks ∙ append_assoc (tasks_of mid) more.more further.more in
    let one : k + 1 ≡ suc k = omega arith in
    let split : (x : Active) → x ∈ take (k + 1) (tasks_of new) → (x ∈ take k (tasks_of mid)) ⊎ (x ≡ a)
    = λ x m. taken_next k (tasks_of mid) (more.more ++ further.more) a x found (subst (λ (z : ℕ). x ∈ take z (tasks_of mid ++ (more.more ++ further.more))) one (subst (λ (z : List Active). x ∈ take (k + 1) z) tasks m)) in
    record {
      step = step_joins s n old mid new p.step both;
      waiting = looked_waiting s n called new c.0.so o.0 a there_called (waiting_stays s n mid called p.step.so c.0 same p.waiting) o.1;
      so = record {
        called = λ x m. elim (split x m) [
          | inl i ↦ still_called s n mid new p.step.so both x (taken_in k (tasks_of mid) x i) (p.so.called x i)
          | inr e ↦ subst (λ (z : Active). AreCalled s new.fact_base (tasks_of new) z) (sym e) (still_called s n called new c.0.so o.0 a there_called c.1)
        ];
        opened = λ x m. elim (split x m) [
          | inl i ↦ (
              let here = taken_in k (tasks_of mid) x i in
              looked_still s n called new c.0.so o.0 a o.1 x (c.0.goes.listed x here) (passed_with s n mid called p.step.so c.0 same x here (p.so.opened x i))
              )
          | inr e ↦ subst (λ (z : Active). IsPassed s n new z) (sym e) (looked_passed s n called new c.0.so o.0 a o.1)
        ];
      };
    }

-- all were passed
pub pass_all : {A : Type 0} (s : Core) (n : ℕ) (old mid : RoundState A) (k : ℕ) → ArePassedBy s n old mid (take k (tasks_of mid)) → slice_get (tasks_of mid) k ≡ None → ArePassedBy s n old mid (tasks_of mid)
pass_all {A} s n old mid k p none = record {
  step = p.step;
  waiting = p.waiting;
  so = record { called = λ x m. p.so.called x (taken_all k (tasks_of mid) x none m); opened = λ x m. p.so.opened x (taken_all k (tasks_of mid) x none m) };
}
