use Rattle.std.proofs.Common.{arith, sym, ap, ◌∙◌, subst, ◌-◌, ◌≤◌, length, List}
use Rattle.flow.specs.declared.script.Function.{Function}
use Rattle.task_code.specs.Code.{nth}
use Rattle.code_listing.specs.Labels.{signature_of, signatures_of}
use Rattle.code_listing.specs.Listing.{Signature, no_signature}
use Rattle.code_listing.proofs.Adding.{nth_at, nth_beyond, function_past}
use Rattle.code_listing.proofs.text.function_name.Goals as goal

pub returns-in-None : goal.returns-in-None
returns-in-None g c =
    let fs : List (Function g.row.A.Denot) = c.args.functions.now.items in
    let k = c.args.number - 1 in
    let past : length fs ≤ k = subst (λ (z : List (Function g.row.A.Denot)). length z ≤ k) c.deref.ensures.value c.in-None.ensures.lookup.3 in
    let none = function_past (signatures_of {A = g.row.A.Denot} fs) c.args.number k (omega (arith, c.if-number-eq0.false)) ∙ nth_beyond (signature_of {A = g.row.A.Denot}) no_signature fs k past in
    ap (λ (s : Signature). s.name) (sym none)

pub returns-in-Some : goal.returns-in-Some
returns-in-Some g c =
    let fs : List (Function g.row.A.Denot) = c.args.functions.now.items in
    let k = c.args.number - 1 in
    let is = nth_at (signature_of {A = g.row.A.Denot}) no_signature c.deref.result.now k c.in-Some.function.now c.in-Some.ensures.lookup.3.0 c.in-Some.ensures.lookup.1 in
    let found = function_past (signatures_of {A = g.row.A.Denot} fs) c.args.number k (omega (arith, c.if-number-eq0.false)) ∙ ap (λ (z : List (Function g.row.A.Denot)). nth no_signature (signatures_of {A = g.row.A.Denot} z) k) (sym c.deref.ensures.value) ∙ is in
    c.as_slice.ensures.value ∙ ap (λ (s : Signature). s.name) (sym found)
