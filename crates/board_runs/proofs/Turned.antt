-- Runs by choices: what stays, and that nothing is left to be done at their end.
use Rattle.std.proofs.Common.{◌≡◌, ◌∙◌, sym, ap, subst, refl, inl, inr, ◌⊎◌, ℕ, zero, suc, List, [], ◌∷◌, drop, Option, Some, None, arith}
use Rattle.std.proofs.lemmas.Grind.{common_steps}
use Rattle.std.specs.Prelude.{slice_get}
use Rattle.dataflow.specs.Machine.{Begin, End}
use Rattle.task_code.specs.Code.{Code}
use Rattle.task_code.specs.Machine.{CodeItem, CodeStep}
use Rattle.board.specs.Board.{Accepts, Seen}
use Rattle.board_runs.specs.declared.step.StepOutcome.TheVariants.{Whole}
use Rattle.board_runs.specs.Report.{IsOver}
use Rattle.board_runs.specs.Turns.{NoneReady, RanTo, Turns, TurnsTo, starts}
use Rattle.board_runs.proofs.Idle.{AllIdle, IdleOrFault, turn_idle}

later : (cs : List ℕ) (n : ℕ) → slice_get cs (suc n) ≡ slice_get (drop 1 cs) n
later [] n = grind (arith, common_steps)
later (c ∷ cs) n = grind (arith, common_steps)

-- one more turn
pub turns_more : (n : ℕ) (cs : List ℕ) (old mid new : Seen) → Turns n cs old mid → TurnsTo Whole (slice_get cs n) mid new → Turns (suc n) cs old new
turns_more zero cs old mid new r t = (new, subst (λ (m : Seen). TurnsTo Whole (slice_get cs 0) m new) r t, refl)
turns_more (suc n) cs old mid new r t = (r.0, r.1, turns_more n (drop 1 cs) r.0 mid new r.2 (subst (λ (c : Option ℕ). TurnsTo Whole c mid new) (later cs n) t))

-- the code and the limit stay
pub turns_keep : (n : ℕ) (cs : List ℕ) (old new : Seen) → Turns n cs old new → (new.code ≡ old.code) × (new.limit ≡ old.limit)
turns_keep zero cs old new e = (ap (λ (b : Seen). b.code) e, ap (λ (b : Seen). b.limit) e)
turns_keep (suc n) cs old new r =
    let more = turns_keep n (drop 1 cs) r.0 new r.2 in let turn = r.1.3 in
    (more.0 ∙ turn.2.code ∙ turn.1.code, more.1 ∙ turn.2.limit ∙ turn.1.limit)

pub run_keeps : (cs : List ℕ) (old new : Seen) → RanTo cs old new → (new.code ≡ old.code) × (new.limit ≡ old.limit)
run_keeps cs old new r =
    let kept = turns_keep r.0 cs old r.1 r.2 in
    elim r.3 [
      | inl half ↦ (half.3.code ∙ kept.0, half.3.limit ∙ kept.1)
      | inr none ↦ (ap (λ (b : Seen). b.code) none.0 ∙ kept.0, ap (λ (b : Seen). b.limit) none.0 ∙ kept.1)
    ]

-- between turns no item runs, or a fault stands
turns_idle : (n : ℕ) (cs : List ℕ) (old new : Seen) → IdleOrFault old.state → Turns n cs old new → IdleOrFault new.state
turns_idle zero cs old new p e = subst (λ (b : Seen). IdleOrFault b.state) (sym e) p
turns_idle (suc n) cs old new p r = turns_idle n (drop 1 cs) r.0 new (turn r.1.3.0 r.1.3.1 r.1.3.2 p) r.2
  where
    turn : (mid : Seen) → Accepts old (Begin r.1.0 r.1.1) mid → Accepts mid (End r.1.0 r.1.1) r.0 → IdleOrFault old.state → IdleOrFault r.0.state
    turn mid b e (inl idle) = turn_idle old.code old.state mid.state r.0.state r.1.0 r.1.1 idle b.step (subst (λ (C : Code). CodeStep C mid.state (End r.1.0 r.1.1) r.0.state) b.code e.step)
    turn mid b e (inr fault) = absurd (fault b.going.0)

is_none_or_not : {X : Type 0} (o : Option X) → (o ≡ None) ⊎ (o ≡ None → ⊥)
is_none_or_not None = inl refl
is_none_or_not (Some x) = inr (λ e. absurd (cc (e)))

-- nothing is left to be done where no item can begin and none runs
none_left : (b : Seen) → IdleOrFault b.state → NoneReady b → IsOver b
none_left b (inr fault) none = inr (λ going. fault going.0)
none_left b (inl idle) none = elim (is_none_or_not b.state.fault) [
  | inl well ↦ inl (record {
    no_fault = well;
    idle = idle;
    none_enabled = λ i there enabled. none i (record { there = there; idle = idle i there; enabled = enabled });
  })
  | inr some ↦ inr (λ going. some going.0)
]

pub run_is_over : (cs : List ℕ) (old new : Seen) → AllIdle old.state.items → RanTo cs old new → IsOver new
run_is_over cs old new idle r =
    let mid = turns_idle r.0 cs old r.1 (inl idle) r.2 in
    elim r.3 [
      | inl half ↦ inr half.4
      | inr none ↦ subst (λ (b : Seen). IsOver b) (sym none.0) (elim none.1 [ inl ready ↦ none_left r.1 mid ready | inr ended ↦ inr ended ])
    ]

pub starts_idle : (C : Code) (limit : ℕ) → AllIdle (starts C limit).state.items
starts_idle C limit = λ i there. elim there [ inl e ↦ ap (λ (j : CodeItem). j.runs) e | inr r ↦ absurd r ]
