use Rattle.std.proofs.Common.{◌≡◌, Some, sym, ◌∙◌}
use Rattle.types.specs.Known.{signature_of}
use Rattle.types.specs.Functions.{signatures_of}
use Rattle.types.specs.Names.{find, place_of}
use Rattle.types.proofs.lists.Places.{function_at, function_there}
use Rattle.types.proofs.functions.find_function.Goals as goal

pub returns-in_err-signature : goal.returns-in_err-signature
returns-in_err-signature c =
    let is : place_of (find (signatures_of c.args.functions.now) c.args.text.now) ≡ Some c.in_ok-place.field-0.now = sym (c.args.functions.now.placed c.args.text.now) ∙ sym c.in_ok-place.ensures.value in
    absurd (function_there signature_of c.args.functions.now.list.items c.deref.result.now c.args.text.now c.in_ok-place.field-0.now is c.deref.ensures.value c.in_err-signature.ensures.lookup.3)

pub returns : goal.returns
returns c =
    let is : place_of (find (signatures_of c.args.functions.now) c.args.text.now) ≡ Some c.in_ok-place.field-0.now = sym (c.args.functions.now.placed c.args.text.now) ∙ sym c.in_ok-place.ensures.value in
    function_at signature_of c.args.functions.now.list.items c.deref.result.now c.args.text.now c.in_ok-place.field-0.now c.in_ok-signature.signature.now is c.deref.ensures.value c.in_ok-signature.ensures.lookup.3.0 c.in_ok-signature.ensures.lookup.1
