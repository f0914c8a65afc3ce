use Rattle.std.proofs.Common.{ap}
use Rattle.task_code.specs.View.{act_view}
use Rattle.board_effects.proofs.Stores.{only_tests, prints_end, tests_end}
use Rattle.board_effects.proofs.effect.EndingItem.takes_value.Goals as goal

pub returns-in-Print : goal.returns-in-Print
returns-in-Print c = λ w k. prints_end c.args.self w _ c.args.value c.into_scalar.result (ap act_view c.in-Print.is) c.into_scalar.ensures

pub returns-in_default : goal.returns-in_default
returns-in_default c = λ w k. (let t = only_tests c.args.self.entry.now.act k c.in_default.not-Cell c.in_default.not-Set c.in_default.not-Fill c.in_default.not-Print in tests_end c.args.self w t.0 c.args.value t.1)
