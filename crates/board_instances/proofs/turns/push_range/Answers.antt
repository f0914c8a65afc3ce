use Rattle.std.proofs.Common.{◌∙◌, ◌-◌, ◌+◌, ◌++◌, ◌∷◌, [], refl, pos}
use Rattle.task_code.specs.Compute.{range_turns}
use Rattle.values.specs.Ranges.{value_in}
use Rattle.values.specs.declared.key.Key.TheVariants.{Number as number_key}
use Rattle.values.specs.declared.value.Scalar.TheVariants.{Number}
use Rattle.board_instances.specs.View.{frames_view}
use Rattle.board_instances.proofs.Turned.{range_done, range_from, range_to, to_first, to_next, turns_are, turns_more, turns_none}
use Rattle.board_instances.proofs.turns.push_range.Goals as goal

pub loop-n-init : goal.loop-n-init
loop-n-init c = record {
  added = λ some there. turns_are c.args.site.around.program.now (frames_view c.args.site.around.instances.now.slots) c.args.site.around.at c.args.site.body c.args.site.offset [] (range_turns c.args.range.now.low c.args.range.now.step c.args.first (c.args.first - c.args.first)) c.args.list.now.items c.args.list.now.items (range_from c.args.range.now.low c.args.range.now.step c.args.first) (turns_none c.args.site.around.program.now (frames_view c.args.site.around.instances.now.slots) c.args.site.around.at c.args.site.body c.args.site.offset c.args.list.now.items);
  none = λ e. refl;
  to = to_first c.args.first c.min-last.result;
}

pub loop-n-preserved : goal.loop-n-preserved
loop-n-preserved c =
    record {
      added = λ some there. turns_are c.args.site.around.program.now (frames_view c.args.site.around.instances.now.slots) c.args.site.around.at c.args.site.body c.args.site.offset (range_turns c.args.range.now.low c.args.range.now.step c.args.first (c.loop-n.n - c.args.first) ++ (number_key (pos c.loop-n.n), Number (value_in c.args.range.now.low c.args.range.now.step c.loop-n.n)) ∷ []) (range_turns c.args.range.now.low c.args.range.now.step c.args.first (c.loop-n.n + 1 - c.args.first)) c.args.list.now.items c.push_number.new.list.items (range_to c.args.range.now.low c.args.range.now.step c.args.first c.loop-n.n c.loop-n.auto.n) (turns_more c.args.site.around.program.now (frames_view c.args.site.around.instances.now.slots) c.args.site.around.at c.args.site.body c.args.site.offset (range_turns c.args.range.now.low c.args.range.now.step c.args.first (c.loop-n.n - c.args.first)) ((number_key (pos c.loop-n.n), Number (value_in c.args.range.now.low c.args.range.now.step c.loop-n.n)) ∷ []) c.args.list.now.items c.loop-n.list.items c.push_number.new.list.items (c.loop-n.invariant.added some there) (c.in_ok-push_number.ensures.added some there));
      none = λ e. c.in_ok-push_number.ensures.none e ∙ c.loop-n.invariant.none e;
      to = to_next c.args.first c.loop-n.n c.min-last.result c.loop-n-test.true;
    }

pub returns-clause-added : goal.returns-clause-added
returns-clause-added c = λ some there. turns_are c.args.site.around.program.now (frames_view c.args.site.around.instances.now.slots) c.args.site.around.at c.args.site.body c.args.site.offset (range_turns c.args.range.now.low c.args.range.now.step c.args.first (c.loop-n.n - c.args.first)) _ c.args.list.now.items c.loop-n.list.items (range_done c.args.range.now.low c.args.range.now.step c.args.first c.loop-n.n c.min-last.result _ c.min-last.ensures c.loop-n.invariant.to c.loop-n-test.false) (c.loop-n.invariant.added some there)
