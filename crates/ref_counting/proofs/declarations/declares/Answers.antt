use Rattle.std.proofs.Common.{◌∙◌, sym}
use Rattle.ref_counting.proofs.Making.{declared_yes, declared_no}
use Rattle.ref_counting.proofs.declarations.declares.Goals as goal

pub returns-clause-yes : goal.returns-clause-yes
returns-clause-yes c = λ h. declared_yes (record { body = c.args.body; node = c.args.variable.node; array = c.args.variable.array }) c.args.made.now.keys (sym c.contains.ensures ∙ h)

pub returns-clause-no : goal.returns-clause-no
returns-clause-no c = λ t. c.contains.ensures ∙ declared_no (record { body = c.args.body; node = c.args.variable.node; array = c.args.variable.array }) c.args.made.now.keys t
