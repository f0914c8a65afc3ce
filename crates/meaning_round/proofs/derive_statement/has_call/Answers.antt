use Rattle.std.proofs.Common.{◌≡◌, Bool, true, false, ◌||◌, [], ◌∷◌, sym, ap, ◌∙◌, rules}
use Rattle.flow.specs.View.{action_view, call_view, name_view, outer_view, parts_view}
use Rattle.language.specs.Core as core
use Rattle.language.specs.Parts.{parts, part_calls, outer_parts}
use Rattle.meaning_steps.specs.News.{some_call}
use Rattle.meaning_round.proofs.Calls.{call_last, some_outers}
use Rattle.meaning_round.proofs.Views.{view_call, view_insert}
use Rattle.meaning_round.proofs.derive_statement.has_call.Goals as goal

pub returns-in-Call : goal.returns-in-Call
returns-in-Call g c =
    let A = g.row.A.Denot in
    call_last (parts_view {A = A} c.in-Call.parts.items) (call_view {A = A} c.in-Call.call.value)
    ∙ ap (λ (a : core.Action). some_call (part_calls (parts a))) (sym (ap (action_view {A = A}) c.in-Call.is ∙ view_call A c.in-Call.priority c.in-Call.parts c.in-Call.call))

-- whether a call lies in the index or in the right side
either : (x : core.Name) (i r : core.Outer) (a : core.Action) → a ≡ core.insert x i r
    → some_call (part_calls (outer_parts (i ∷ []))) || some_call (part_calls (outer_parts (r ∷ []))) ≡ some_call (part_calls (parts a))
either x i r a e = sym (ap (λ (z : core.Action). some_call (part_calls (parts z))) e ∙ some_outers i (r ∷ []))

first_holds : (b d : Bool) → b ≡ true → b ≡ b || d
first_holds b d e = e ∙ ap (λ (z : Bool). z || d) (sym e)

second_holds : (b d : Bool) → b ≡ false → d ≡ b || d
second_holds b d e = ap (λ (z : Bool). z || d) (sym e)

pub returns-then-has_inner_call : goal.returns-then-has_inner_call
returns-then-has_inner_call g c =
    let A = g.row.A.Denot in
    let i = outer_view {A = A} c.in-Insert.index.value in
    let r = outer_view {A = A} c.in-Insert.right.value in
    let seen = ap (action_view {A = A}) c.in-Insert.is ∙ view_insert A c.in-Insert.array c.in-Insert.index c.in-Insert.right in
    let is : c.has_inner_call-in-Insert.result ≡ some_call (part_calls (outer_parts (i ∷ []))) = search rules in
    is ∙ first_holds (some_call (part_calls (outer_parts (i ∷ [])))) (some_call (part_calls (outer_parts (r ∷ [])))) (sym is ∙ c.if-has_inner_call.true)
    ∙ either (name_view c.in-Insert.array) i r (action_view {A = A} c.args.action.now) seen

pub returns-else-has_inner_call : goal.returns-else-has_inner_call
returns-else-has_inner_call g c =
    let A = g.row.A.Denot in
    let i = outer_view {A = A} c.in-Insert.index.value in
    let r = outer_view {A = A} c.in-Insert.right.value in
    let seen = ap (action_view {A = A}) c.in-Insert.is ∙ view_insert A c.in-Insert.array c.in-Insert.index c.in-Insert.right in
    let was : c.has_inner_call-in-Insert.result ≡ some_call (part_calls (outer_parts (i ∷ []))) = search rules in
    let is : c.has_inner_call-else-has_inner_call.result ≡ some_call (part_calls (outer_parts (r ∷ []))) = search rules in
    is ∙ second_holds (some_call (part_calls (outer_parts (i ∷ [])))) (some_call (part_calls (outer_parts (r ∷ [])))) (sym was ∙ c.if-has_inner_call.false)
    ∙ either (name_view c.in-Insert.array) i r (action_view {A = A} c.args.action.now) seen
