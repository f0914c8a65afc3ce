use Rattle.std.proofs.Common.{subst, sym}
use Rattle.work_queue.specs.Slots.{IsBehind}
use Rattle.work_queue.proofs.Rising.{begins_push, inserted_behind, rising_push}
use Rattle.work_queue.proofs.slot.add_last.Goals as goal

pub returns-clause-run : goal.returns-clause-run
returns-clause-run c =
    rw c.push_back_reserved.ensures.items (record {
      rising = rising_push c.of.result _ c.requires.run.rising (subst (λ v. IsBehind v c.args.slots.now.items) (sym c.of.ensures.entry) c.requires.behind);
      begins = begins_push c.of.result _ c.of.ensures.waits c.requires.run.begins;
    })

pub returns-clause-added : goal.returns-clause-added
returns-clause-added c =
    rw c.push_back_reserved.ensures.items (inserted_behind c.args.entry c.of.result _ c.of.ensures.entry c.of.ensures.waits c.requires.behind)
