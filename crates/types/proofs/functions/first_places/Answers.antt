use Rattle.std.proofs.Common.{◌≡◌, ℕ, ◌+◌, ◌-◌, ◌<◌, List, length, get_or, Some, cond, ap, sym, ◌∙◌, arith}
use Rattle.std.specs.Map.{lookup}
use Rattle.std.specs.Str.{bytes_eq}
use Rattle.types.specs.declared.signatures.Signature.{Signature}
use Rattle.types.specs.Known.{signature_of}
use Rattle.types.proofs.lists.Places.{lookup_inserted, place_next}
use Rattle.types.proofs.functions.first_places.Goals as goal

pub loop-behind-preserved : goal.loop-behind-preserved
loop-behind-preserved c = λ text.
    let fs = c.args.functions.now in
    let x = c.index-functions-place.result in
    let n : ℕ = length fs - (c.loop-behind.behind + 1) in
    let m : ℕ = length fs - c.loop-behind.behind in
    let below : n < length fs = omega arith in
    let next : m ≡ n + 1 = omega arith in
    let here : length fs - 1 - c.loop-behind.behind ≡ n = omega arith in
    let is : x ≡ get_or fs n x = c.index-functions-place.is ∙ ap (λ (k : ℕ). get_or fs k x) here in
    let letters : c.in_ok-text.text.items ≡ x.text.items = c.in_ok-text.ensures.items ∙ c.as_slice.ensures.value ∙ ap (λ (s : Signature). s.text.items) (sym c.index-functions-place.is) in
    ap (lookup (λ k. bytes_eq text k.items)) c.in_ok-insert.ensures.entries
    ∙ lookup_inserted (λ k. k.items) c.loop-behind.places.entries c.in_ok-text.text (length fs - 1 - c.loop-behind.behind) text
    ∙ ap (λ (t : List ℕ). cond (bytes_eq text t) (Some (length fs - 1 - c.loop-behind.behind)) (lookup (λ k. bytes_eq text k.items) c.loop-behind.places.entries)) letters
    ∙ ap (λ (k : ℕ). cond (bytes_eq text x.text.items) (Some k) (lookup (λ k. bytes_eq text k.items) c.loop-behind.places.entries)) here
    ∙ ap (cond (bytes_eq text x.text.items) (Some n)) (c.loop-behind.invariant text)
    ∙ sym (place_next signature_of fs n m x text below is next)
