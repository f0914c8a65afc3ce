use Rattle.std.proofs.Common.{rules, ◌≡◌, ◌∙◌, sym, inl, inr, ℕ, List}
use Rattle.task_code.specs.declared.event.Event.{Event}
use Rattle.swt_trace.specs.Trace.{IsInRange, event_line}
use Rattle.swt_trace.proofs.Lines.{no_item, out_of_range, behind_two}
use Rattle.swt_trace.proofs.read.read_line.Goals as goal

pub returns-in_err-item-clause-none : goal.returns-in_err-item-clause-none
returns-in_err-item-clause-none c =
    let none : (e : Event) (rest : List ℕ) → IsInRange e → c.args.bytes.now ≡ event_line e rest → ⊥ =
    no_item c.args.bytes.now c.in_ok-worker.behind.now c.in_ok-worker.worker c.in_ok-worker.ensures.fits
    (sym (behind_two c.args.bytes.now c.in-32.len_at_least) ∙ c.in_ok-worker.ensures.some) c.in_err-item.ensures.none in
    search (rules, none)

pub returns-then-worker-ge-THREADS-clause-none : goal.returns-then-worker-ge-THREADS-clause-none
returns-then-worker-ge-THREADS-clause-none c =
    out_of_range c.args.bytes.now c.in_ok-worker.behind.now c.in_ok-item.rest.now c.in_ok-worker.worker c.in_ok-item.item
    c.in_ok-worker.ensures.fits c.in_ok-item.ensures.fits
    (sym (behind_two c.args.bytes.now c.in-32.len_at_least) ∙ c.in_ok-worker.ensures.some) c.in_ok-item.ensures.some
    (elim c.then-worker-ge-THREADS.either [ inl far ↦ inl far | inr near ↦ inr near.1 ])
