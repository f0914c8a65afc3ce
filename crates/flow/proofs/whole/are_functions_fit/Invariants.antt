use Rattle.std.proofs.Common.{◌≡◌, drop, map}
use Rattle.std.specs.List.{list_all}
use Rattle.flow.specs.View.{function_view}
use Rattle.flow.specs.Tests.{function_fits}
use Rattle.flow.proofs.whole.are_functions_fit.Given as goal

abbrev pub invariant-loop-function : goal.invariant-loop-function
invariant-loop-function g l =
    list_all (function_fits l.count) (map function_view l.functions.items)
    ≡ list_all (function_fits l.count) (map function_view (drop l.function-index l.functions.items))
