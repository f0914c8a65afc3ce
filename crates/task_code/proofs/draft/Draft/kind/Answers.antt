use Rattle.std.proofs.Common.{ap, sym}
use Rattle.task_code.specs.Code.{Entry, blank_entry, kind_of}
use Rattle.task_code.proofs.Numbers.{nth_past}
use Rattle.task_code.proofs.draft.Draft.kind.Goals as goal

pub returns-in-None : goal.returns-in-None
returns-in-None c =
    ap (λ (e : Entry). kind_of e.act) (sym (nth_past blank_entry c.args.self.now.entries c.args.number c.in-None.ensures))
