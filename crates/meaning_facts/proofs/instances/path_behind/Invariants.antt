use Rattle.std.proofs.Common.{◌≡◌, ◌∷◌, map, take}
use Rattle.meaning_facts.specs.Paths.{step_view}
use Rattle.meaning_facts.proofs.instances.path_behind.Given as goal

abbrev pub invariant-loop-other : goal.invariant-loop-other
invariant-loop-other l = map step_view l.longer.items ≡ step_view l.fn.step ∷ map step_view (take l.other-index l.path)
