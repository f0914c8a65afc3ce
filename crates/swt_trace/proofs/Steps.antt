-- What a board refuses is no step.
use Rattle.std.proofs.Common.{◌≡◌, sym, subst, refl, ℕ, ◌<◌, List, length}
use Rattle.dataflow.specs.Machine.{Back, Begin, End, Event}
use Rattle.dataflow.specs.System.{In}
use Rattle.dataflow.proofs.Lists.{seam_here}
use Rattle.task_code.specs.Machine.{CodeItem}
use Rattle.board.specs.declared.refusal.BoardRefusal.{BoardRefusal}
use Rattle.board.specs.declared.refusal.BoardRefusal.TheVariants.{Ended, Memory, NotReady, NotYours, Stranger}
use Rattle.board.specs.Board.{IsGoing, IsTheirs, MayBegin, RefusesBack, RefusesBegin, RefusesWork, Seen}
use Rattle.swt_trace.specs.Replay.{IsNoStep}

-- after the end of a run there is no step
pub no_going : (b : Seen) (e : Event) → length b.history < b.limit → ¬ IsGoing b → IsNoStep b.code b.state e
no_going b (Begin w n) room ended = λ new step. ended (step.0, room)
no_going b (End w n) room ended = λ new step. ended (step.0, room)
no_going b (Back w n) room ended = λ new step. ended (step.0, room)

no_begin_if : (b : Seen) (w n : ℕ) → ¬ MayBegin b n → IsNoStep b.code b.state (Begin w n)
no_begin_if b w n cannot = λ new step.
    let begins = step.1 in
    cannot (record {
      item = begins.item;
      there = subst (λ (xs : List CodeItem). In begins.item xs) (sym begins.at.items) (seam_here begins.item begins.before begins.after);
      number_is = begins.at.number_is;
      idle = begins.idle;
      enabled = begins.enabled;
    })

no_end_if : (b : Seen) (w n : ℕ) → ¬ IsTheirs b w n → IsNoStep b.code b.state (End w n)
no_end_if b w n not = λ new step.
    let ends = step.1 in
    not (record {
      item = ends.item;
      there = subst (λ (xs : List CodeItem). In ends.item xs) (sym ends.at.items) (seam_here ends.item ends.before ends.after);
      number_is = ends.at.number_is;
      runs = ends.runs;
    })

no_back_if : (b : Seen) (w n : ℕ) → ¬ IsTheirs b w n → IsNoStep b.code b.state (Back w n)
no_back_if b w n not = λ new step.
    let backs = step.1 in
    not (record {
      item = backs.item;
      there = subst (λ (xs : List CodeItem). In backs.item xs) (sym backs.at.items) (seam_here backs.item backs.before backs.after);
      number_is = backs.at.number_is;
      runs = backs.runs;
    })

pub no_begin : (b : Seen) (w n : ℕ) (e : BoardRefusal) → length b.history < b.limit → RefusesBegin b n e → (e ≡ Memory → ⊥) → IsNoStep b.code b.state (Begin w n)
no_begin b w n Ended room refused other = no_going b (Begin w n) room refused
no_begin b w n NotReady room refused other = no_begin_if b w n refused.1
no_begin b w n Memory room refused other = absurd (other refl)
no_begin b w n NotYours room refused other = absurd refused
no_begin b w n Stranger room refused other = absurd refused

pub no_end : (b : Seen) (w n : ℕ) (e : BoardRefusal) → length b.history < b.limit → RefusesWork b w n e → (e ≡ Memory → ⊥) → IsNoStep b.code b.state (End w n)
no_end b w n Ended room refused other = no_going b (End w n) room refused
no_end b w n NotYours room refused other = no_end_if b w n refused.1
no_end b w n Memory room refused other = absurd (other refl)
no_end b w n NotReady room refused other = absurd refused
no_end b w n Stranger room refused other = absurd refused

pub no_back : (b : Seen) (w n : ℕ) (e : BoardRefusal) → length b.history < b.limit → RefusesBack b w n e → IsNoStep b.code b.state (Back w n)
no_back b w n Ended room refused = no_going b (Back w n) room refused
no_back b w n NotYours room refused = no_back_if b w n refused.1
no_back b w n Memory room refused = absurd refused
no_back b w n NotReady room refused = absurd refused
no_back b w n Stranger room refused = absurd refused
