use Rattle.std.proofs.Common.{arith, sym, ap, ◌∙◌, subst, [], ◌-◌, ◌<◌, ◌≤◌, length, List}
use Rattle.flow.specs.declared.script.Function.{Function}
use Rattle.task_code.specs.Code.{nth}
use Rattle.code_listing.specs.Labels.{signature_of, signatures_of}
use Rattle.code_listing.specs.Listing.{Signature, no_signature, function_at}
use Rattle.code_listing.proofs.Adding.{adds_same, adds_none, nth_at, nth_beyond, function_past}
use Rattle.code_listing.proofs.needs.add_parameter.Goals as goal

pub returns-in-None : goal.returns-in-None
returns-in-None g c =
    let fs : List (Function g.row.A.Denot) = c.args.scope.now.functions.now.items in
    let k = c.args.scope.now.function - 1 in
    let past : length fs ≤ k = subst (λ (z : List (Function g.row.A.Denot)). length z ≤ k) c.deref.ensures.value c.in-None.ensures.lookup.3 in
    let none = function_past (signatures_of {A = g.row.A.Denot} fs) c.args.scope.now.function k (omega (arith, c.if-scope-eq0.false)) ∙ nth_beyond (signature_of {A = g.row.A.Denot}) no_signature fs k past in
    adds_same c.args.page.now c.args.page.now [] (nth [] (function_at (signatures_of {A = g.row.A.Denot} fs) c.args.scope.now.function).parameters c.args.place) (ap (λ (s : Signature). nth [] s.parameters c.args.place) (sym none)) (adds_none c.args.page.now)

pub returns-in-Some : goal.returns-in-Some
returns-in-Some g c =
    let fs : List (Function g.row.A.Denot) = c.args.scope.now.functions.now.items in
    let k = c.args.scope.now.function - 1 in
    let there : k < length fs = subst (λ (z : List (Function g.row.A.Denot)). k < length z) c.deref.ensures.value c.in-Some.ensures.lookup.3.0 in
    let is = nth_at (signature_of {A = g.row.A.Denot}) no_signature c.deref.result.now k c.in-Some.function.now c.in-Some.ensures.lookup.3.0 c.in-Some.ensures.lookup.1 in
    let found = function_past (signatures_of {A = g.row.A.Denot} fs) c.args.scope.now.function k (omega (arith, c.if-scope-eq0.false)) ∙ ap (λ (z : List (Function g.row.A.Denot)). nth no_signature (signatures_of {A = g.row.A.Denot} z) k) (sym c.deref.ensures.value) ∙ is in
    adds_same c.args.page.now c.add_parameter_of.new.page (nth [] (signature_of {A = g.row.A.Denot} c.in-Some.function.now).parameters c.args.place) (nth [] (function_at (signatures_of {A = g.row.A.Denot} fs) c.args.scope.now.function).parameters c.args.place) (ap (λ (s : Signature). nth [] s.parameters c.args.place) (sym found)) c.add_parameter_of.ensures
