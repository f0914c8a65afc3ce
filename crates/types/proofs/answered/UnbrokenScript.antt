-- A script that is well typed breaks no rule.
use Rattle.std.proofs.Common.{◌≡◌, ℕ, List, [], ◌∷◌, length, map, refl, sym, ap, ap₂, ◌∙◌, subst, inl, inr}
use Rattle.std.specs.Prelude.{false, Some, suc}
use Rattle.values.specs.declared.format.FormatPiece.{FormatPiece}
use Rattle.values.specs.Formats.{pieces}
use Rattle.types.specs.declared.fault.TypeFault.{TypeFault}
use Rattle.language.specs.declared.tree.Base.{Base}
use Rattle.language.specs.declared.tree.Base.TheVariants.{Text, Boolean}
use Rattle.language.specs.Core as core
use Rattle.language.specs.Core.{Owned}
use Rattle.language.specs.Members.{◌∈◌, first, later}
use Rattle.language.proofs.Members.{split_in}
use Rattle.language.specs.Tree.{Word, Node, Declaration, Expression, expression, text, and_expression, expressions_of, RightSide, Over, Statement, statement, Command, Body, Statements, Composite, Tree}
use Rattle.language.specs.Table.{Table, Builtin, printf, assert}
use Rattle.language.specs.Scopes.{Typ, one_of, many_of, declared_type, Visible, Scope, deeper, own, IsVisible, Signature, signatures, IsBuiltinName}
use Rattle.language.specs.Typing as rules
use Rattle.language.specs.Typing.{RightType, ReferAll, SourceType, CallTyped, StatementTyped, StatementsTyped, BodyTyped, Parameters, FunctionTyped, PartsTyped, wanted}
use Rattle.types.specs.Expressions.{count}
use Rattle.types.specs.Wants.{OfTypes, no_names, and_name, Outputs, of_function, of_builtin, gives_text, gives_variable, gives_call, Want, argument, BuiltinTakes, printf_takes, assert_takes, Takes}
use Rattle.types.specs.Breaks.{alone, introduced, call, outputs_to, BuiltinCounts, Broken, visible_before, named_before, named_as_builtin, wrong_count, wrong_count_of_builtin, wrong_count_of_conversions, no_format, no_function, literal_for_scalar, literal_under_texts, other_outputs, its_name, its_call, its_arguments, itself, within, InExpressions, first_expression, later_expression, InWords, first_word, later_word, InRight, in_value, the_list, in_list, InOver, looped_name, looped_array, from_low, to_high, by_step, Values, of_array, of_range, behind, InCommand, its_declaration, its_initial, its_target, its_right, its_written, its_written_array, its_place, its_element, its_targets, its_called, its_outputs, its_inputs, called_alone, inputs_alone, its_condition, its_branch, either_condition, either_branch, other_branch, its_value, its_key, its_source, its_loop, its_awaited, its_waiting, InBody, in_braces, InStatements, first_statement, later_statement, with_parameters, parameter, InParameters, first_parameter, later_parameter, InFunction, in_outputs, in_name, in_inputs, in_body, InParts, in_function, in_statement, behind_import, behind_function, behind_statement, BreaksNothing}
use Rattle.types.proofs.answered.Breaks.{Breaking}
use Rattle.types.proofs.answered.BreaksScript.{refusal_names}
use Rattle.types.specs.Accepted.{ScriptRefused}
use Rattle.types.proofs.answered.Unbroken.{OneOfAName, many_arguments, Clear, index_of, refers_type, type_once, called_in, no_builtin_in, builtin_once, some_once, outputs_once, builtin_value_of, name_holds, array_holds, want_holds, call_holds, value_holds, value_counts, wanted_holds, arguments_hold, inputs_hold, elements_hold, values_hold, values_taken}

-- SCOPES

clear_more : (g : Scope) (x : Visible) → Clear g → ¬ IsVisible g x.text → Clear (x ∷ g)
clear_more g x clear hidden v u m k same =
    elim (split_in m) [
      | inl e ↦ elim (split_in k) [
        | inl d ↦ ap (λ (z : Visible). z.type) (e ∙ sym d)
        | inr d ↦ absurd (hidden (u, d, sym same ∙ ap (λ (z : Visible). z.text) e))
      ]
      | inr e ↦ elim (split_in k) [
        | inl d ↦ absurd (hidden (v, e, same ∙ ap (λ (z : Visible). z.text) d))
        | inr d ↦ clear v u e d same
      ]
    ]

nearer : (g : Scope) (v : Visible) → v ∈ deeper g → (u : Visible) × (u ∈ g) × (u.text ≡ v.text) × (u.type ≡ v.type)
nearer [] v m = elim m [ ]
nearer (u ∷ us) v m =
    elim (split_in m) [
      | inl e ↦ (u, first, ap (λ (x : Visible). x.text) (sym e), ap (λ (x : Visible). x.type) (sym e))
      | inr h ↦ (let it = nearer us v h in (it.0, later it.1, it.2, it.3))
    ]

clear_deeper : (g : Scope) → Clear g → Clear (deeper g)
clear_deeper g clear v u m k same =
    let a = nearer g v m in
    let b = nearer g u k in
    sym a.3 ∙ clear a.0 b.0 a.1 b.1 (a.2 ∙ same ∙ sym b.2) ∙ b.3

-- RIGHT SIDES

right_holds : {fs : List Signature} {t : Table} {g : Scope} {r : RightSide} {τ : Typ} {y : TypeFault} → OneOfAName fs → Clear g → RightType fs t g r τ → ¬ InRight fs (Breaking fs y) g τ r
right_holds one clear (rules.of_scalar has) (in_value x) = wanted_holds one clear has refl x
right_holds one clear (rules.of_copy refers) (in_value (itself x)) = want_holds one clear (gives_variable (refers_type refers)) refl x
right_holds one clear (rules.of_copy refers) (in_value (within (its_name x))) = name_holds refers x
right_holds one clear (rules.of_list all) (the_list (literal_for_scalar shape)) = absurd (cc)
right_holds one clear (rules.of_list all) (the_list (literal_under_texts shape)) = absurd (cc)
right_holds one clear (rules.of_list all) (in_list x) = elements_hold one clear all x
right_holds one clear (rules.of_array_call {f = f} calls given outs) (in_value (itself x)) = want_holds one clear (gives_call (of_function f (called_in calls) calls.same outs)) refl x
right_holds one clear (rules.of_array_call calls given outs) (in_value (within (its_call x))) = call_holds one calls (sym (many_arguments given), ap length outs) x
right_holds one clear (rules.of_array_call calls given outs) (in_value (within (its_arguments takes x))) = inputs_hold one clear calls given takes x

-- CALLS

words_hold : {fs : List Signature} {t : Table} {g : Scope} {ws : List Word} {τs : List Typ} {y : TypeFault} → ReferAll t g ws τs → ¬ InWords (Breaking fs y) g ws
words_hold rules.no_name x = elim x [ ]
words_hold (rules.one_name refers others) (first_word x) = name_holds refers x
words_hold (rules.one_name refers others) (later_word x) = words_hold others x

types_once : {t : Table} {g : Scope} {ws : List Word} {τs σs : List Typ} → Clear g → ReferAll t g ws τs → OfTypes g ws σs → τs ≡ σs
types_once clear rules.no_name no_names = refl
types_once {g = g} clear (rules.one_name {w = w} {τ = τ} refers others) (and_name {τ = σ} it more) =
    ap₂ (λ (x : Typ) (xs : List Typ). x ∷ xs) (type_once g w τ σ clear (refers_type refers) it) (types_once clear others more)

many_words : {t : Table} {g : Scope} {ws : List Word} {τs : List Typ} → ReferAll t g ws τs → length τs ≡ length ws
many_words rules.no_name = refl
many_words (rules.one_name refers others) = ap suc (many_words others)

outputs_hold : {fs : List Signature} {t : Table} {g : Scope} {w : Word} {ws : List Word} {τs : List Typ} {y : TypeFault} → OneOfAName fs → Clear g → Outputs fs w.text τs → ReferAll t g ws τs
    → ¬ Broken fs g (outputs_to w ws) y
outputs_hold {fs} {w = w} {τs = τs} one clear outs refers (other_outputs {τs = ρs} {σs = σs} others targets many not) =
    not (sym (outputs_once fs w.text τs ρs one outs others) ∙ types_once clear refers targets)

alone_holds : {fs : List Signature} {t : Table} {g : Scope} {w : Word} {es : List Expression} {y : TypeFault} → OneOfAName fs → CallTyped fs t g w es → ¬ Broken fs g (call w (expressions_of es) alone) y
alone_holds one (rules.function_called calls outs given) x = call_holds one calls (sym (many_arguments given), ap length outs) x
alone_holds {fs} one (rules.printf_called calls has given) (wrong_count h m same not) = no_builtin_in fs h printf one m (same ∙ calls.same)
alone_holds one (rules.printf_called {es = es} calls has given) (wrong_count_of_builtin b same not) =
    not (subst (λ (z : Builtin). BuiltinCounts z (suc (count (expressions_of es))) alone) (builtin_once printf b (sym calls.same ∙ same)) (λ none. absurd (cc), refl))
alone_holds one (rules.printf_called calls has given) (wrong_count_of_conversions ps same has' not) =
    not (many_arguments given ∙ ap (λ (z : List FormatPiece). length (wanted z)) (some_once has has'))
alone_holds one (rules.printf_called {nd = nd} {bytes = bytes} {ps = ps} calls has given) (no_format same not) = not (nd, bytes, ps, refl, has)
alone_holds one (rules.printf_called calls has given) (no_function none plain) = plain (printf, calls.same)
alone_holds {fs} one (rules.assert_called calls c m) (wrong_count h k same not) = no_builtin_in fs h assert one k (same ∙ calls.same)
alone_holds one (rules.assert_called calls c m) (wrong_count_of_builtin b same not) =
    not (subst (λ (z : Builtin). BuiltinCounts z 2 alone) (builtin_once assert b (sym calls.same ∙ same)) (refl, refl))
alone_holds one (rules.assert_called calls c m) (wrong_count_of_conversions ps same has' not) = let it : assert ≡ printf = builtin_once assert printf (sym calls.same ∙ same) in absurd (cc)
alone_holds one (rules.assert_called calls c m) (no_format same not) = let it : assert ≡ printf = builtin_once assert printf (sym calls.same ∙ same) in absurd (cc)
alone_holds one (rules.assert_called calls c m) (no_function none plain) = plain (assert, calls.same)

printed_hold : {fs : List Signature} {t : Table} {g : Scope} {nd : Node} {bytes : List ℕ} {ps : List FormatPiece} {wants : List Want} {y : TypeFault} → (es : List Expression) → OneOfAName fs → Clear g
    → pieces false bytes ≡ Some ps → rules.ArgumentTypes fs t g (expressions_of es) (wanted ps) → BuiltinTakes printf (and_expression (expression nd (text bytes)) (expressions_of es)) wants
    → ¬ InExpressions fs (Breaking fs y) g wants (and_expression (expression nd (text bytes)) (expressions_of es))
printed_hold es one clear has given (printf_takes ps has') (first_expression (itself x)) = want_holds one clear gives_text refl x
printed_hold es one clear has given (printf_takes ps has') (first_expression (within x)) = elim x [ ]
printed_hold {fs} {g = g} {y = y} es one clear has given (printf_takes ps has') (later_expression x) =
    arguments_hold one clear given (subst (λ (z : List FormatPiece). InExpressions fs (Breaking fs y) g (map argument (wanted z)) (expressions_of es)) (some_once has' has) x)

asserted_hold : {fs : List Signature} {t : Table} {g : Scope} {c m : Expression} {wants : List Want} {y : TypeFault} → OneOfAName fs → Clear g → rules.HasType fs t g c Boolean → rules.HasType fs t g m Text
    → BuiltinTakes assert (expressions_of (c ∷ m ∷ [])) wants → ¬ InExpressions fs (Breaking fs y) g wants (expressions_of (c ∷ m ∷ []))
asserted_hold one clear c m assert_takes (first_expression x) = wanted_holds one clear c refl x
asserted_hold one clear c m assert_takes (later_expression (first_expression x)) = wanted_holds one clear m refl x
asserted_hold one clear c m assert_takes (later_expression (later_expression x)) = elim x [ ]

alone_inputs_hold : {fs : List Signature} {t : Table} {g : Scope} {w : Word} {es : List Expression} {wants : List Want} {y : TypeFault} → OneOfAName fs → Clear g → CallTyped fs t g w es
    → Takes fs w.text (expressions_of es) wants → ¬ InExpressions fs (Breaking fs y) g wants (expressions_of es)
alone_inputs_hold one clear (rules.function_called calls outs given) takes x = inputs_hold one clear calls given takes x
alone_inputs_hold one clear (rules.printf_called {es = es} calls has given) takes x = printed_hold es one clear has given (values_taken one calls takes) x
alone_inputs_hold one clear (rules.assert_called calls c m) takes x = asserted_hold one clear c m (values_taken one calls takes) x

-- LOOPS

over_holds : {fs : List Signature} {t : Table} {g : Scope} {o : Over} {b c : Base} {y : TypeFault} → OneOfAName fs → Clear g → SourceType fs t g o b c → ¬ InOver fs (Breaking fs y) g o
over_holds one clear (rules.of_elements refers) (looped_name x) = name_holds refers x
over_holds one clear (rules.of_elements refers) (looped_array x) = array_holds clear refers x
over_holds one clear (rules.of_range low high step) (from_low x) = wanted_holds one clear low refl x
over_holds one clear (rules.of_range low high step) (to_high x) = wanted_holds one clear high refl x
over_holds one clear (rules.of_range low high (rules.a_step has)) (by_step x) = wanted_holds one clear has refl x

values_once : {fs : List Signature} {t : Table} {g : Scope} {o : Over} {b c β γ : Base} → Clear g → SourceType fs t g o b c → Values g o β γ → (β ≡ b) × (γ ≡ c)
values_once {g = g} clear (rules.of_elements {w = w} {κ = κ} {b = b} refers) (of_array {κ = ι} {b = β} it) =
    let same = type_once g w (many_of ι β) (many_of κ b) clear it (refers_type refers) in (ap (λ (x : Typ). x.base) same, ap index_of same)
values_once clear (rules.of_range low high step) of_range = (refl, refl)

-- STATEMENTS

statement_leaves : {fs : List Signature} {t : Table} {g h : Scope} {st : Statement} → Clear g → StatementTyped fs t g st h → (h ≡ behind g st) × Clear h
statement_leaves {g = g} clear (rules.declaration {d = d} (rules.fresh hidden)) = (refl, clear_more g (own d.name (declared_type d)) clear hidden)
statement_leaves {g = g} clear (rules.definition {d = d} (rules.fresh hidden) r) = (refl, clear_more g (own d.name (declared_type d)) clear hidden)
statement_leaves clear (rules.assignment refers r) = (refl, clear)
statement_leaves clear (rules.element_write refers i e) = (refl, clear)
statement_leaves clear (rules.several refers calls given) = (refl, clear)
statement_leaves clear (rules.several_builtin refers calls given) = (refl, clear)
statement_leaves clear (rules.call_statement typed) = (refl, clear)
statement_leaves clear (rules.if_statement c b) = (refl, clear)
statement_leaves clear (rules.if_else_statement c b d) = (refl, clear)
statement_leaves clear (rules.loop_statement source scope b) = (refl, clear)
statement_leaves clear (rules.wait_statement refers b) = (refl, clear)

key_seen : {fs : List Signature} {g : Scope} {w : Word} {y : TypeFault} → Broken fs g (introduced w) y → IsVisible g w.text
key_seen (visible_before v) = v

mutual
  command_holds : {fs : List Signature} {t : Table} {g h : Scope} {nd : Node} {c : Command} {y : TypeFault} → OneOfAName fs → Clear g → StatementTyped fs t g (statement nd c) h → ¬ InCommand fs (Breaking fs y) g c
  command_holds one clear (rules.declaration (rules.fresh hidden)) (its_declaration (visible_before v)) = hidden v
  command_holds one clear (rules.definition (rules.fresh hidden) r) (its_declaration (visible_before v)) = hidden v
  command_holds {g = g} one clear (rules.definition {d = d} (rules.fresh hidden) r) (its_initial x) = right_holds one (clear_more g (own d.name (declared_type d)) clear hidden) r x
  command_holds one clear (rules.assignment refers r) (its_target x) = name_holds refers x
  command_holds {fs} {g = g} {y = y} one clear (rules.assignment {w = w} {r = r} {τ = τ} refers typed) (its_right {τ = σ} it x) =
      right_holds one clear typed (subst (λ (z : Typ). InRight fs (Breaking fs y) g z r) (type_once g w σ τ clear it (refers_type refers)) x)
  command_holds one clear (rules.element_write refers i e) (its_written x) = name_holds refers x
  command_holds one clear (rules.element_write refers i e) (its_written_array x) = array_holds clear refers x
  command_holds {g = g} one clear (rules.element_write {w = w} {κ = κ} {b = b} refers i e) (its_place {κ = ι} {b = c} it x) =
      wanted_holds one clear i (ap one_of (ap index_of (type_once g w (many_of κ b) (many_of ι c) clear (refers_type refers) it))) x
  command_holds {g = g} one clear (rules.element_write {w = w} {κ = κ} {b = b} refers i e) (its_element {κ = ι} {b = c} it x) =
      wanted_holds one clear e (ap one_of (ap (λ (z : Typ). z.base) (type_once g w (many_of κ b) (many_of ι c) clear (refers_type refers) it))) x
  command_holds one clear (rules.several refers calls given) (its_targets x) = words_hold refers x
  command_holds one clear (rules.several refers calls given) (its_called x) = call_holds one calls (sym (many_arguments given), many_words refers) x
  command_holds one clear (rules.several {f = f} refers calls given) (its_outputs x) = outputs_hold one clear (of_function f (called_in calls) calls.same refl) refers x
  command_holds one clear (rules.several refers calls given) (its_inputs takes x) = inputs_hold one clear calls given takes x
  command_holds one clear (rules.several_builtin refers calls given) (its_targets (first_word x)) = name_holds refers x
  command_holds one clear (rules.several_builtin refers calls given) (its_targets (later_word x)) = elim x [ ]
  command_holds one clear (rules.several_builtin refers calls given) (its_called x) = value_holds one calls (value_counts given) x
  command_holds one clear (rules.several_builtin {f = f} refers calls given) (its_outputs x) =
      outputs_hold one clear (of_builtin f calls.same (builtin_value_of given)) (rules.one_name refers rules.no_name) x
  command_holds one clear (rules.several_builtin refers calls given) (its_inputs takes x) = values_hold one clear calls given takes x
  command_holds one clear (rules.call_statement typed) (called_alone x) = alone_holds one typed x
  command_holds one clear (rules.call_statement typed) (inputs_alone takes x) = alone_inputs_hold one clear typed takes x
  command_holds one clear (rules.if_statement c b) (its_condition x) = wanted_holds one clear c refl x
  command_holds {g = g} one clear (rules.if_statement c b) (its_branch x) = body_holds one (clear_deeper g clear) b x
  command_holds one clear (rules.if_else_statement c b d) (either_condition x) = wanted_holds one clear c refl x
  command_holds {g = g} one clear (rules.if_else_statement c b d) (either_branch x) = body_holds one (clear_deeper g clear) b x
  command_holds {g = g} one clear (rules.if_else_statement c b d) (other_branch x) = body_holds one (clear_deeper g clear) d x
  command_holds one clear (rules.loop_statement source (rules.value_only (rules.fresh hidden)) b) (its_value (visible_before v)) = hidden v
  command_holds one clear (rules.loop_statement source (rules.with_key (rules.fresh hidden) key) b) (its_value (visible_before v)) = hidden v
  command_holds one clear (rules.loop_statement {β = β} source (rules.with_key (rules.fresh hidden) (rules.fresh apart)) b) (its_key x) = apart (key_seen (x (one_of β)))
  command_holds one clear (rules.loop_statement source scope b) (its_source x) = over_holds one clear source x
  command_holds {fs} {g = g} {y = y} one clear (rules.loop_statement {v = v} {b = b} {β = β} source (rules.value_only (rules.fresh hidden)) typed) (its_loop c d values x) =
      body_holds one (clear_more (deeper g) (own v (one_of β)) (clear_deeper g clear) hidden) typed
      (subst (λ (z : Base). InBody fs (Breaking fs y) (own v (one_of z) ∷ deeper g) b) (values_once clear source values).0 x)
  command_holds {fs} {g = g} {y = y} one clear (rules.loop_statement {v = v} {b = b} {β = β} {γ = γ} source (rules.with_key {k = k} (rules.fresh hidden) (rules.fresh apart)) typed) (its_loop c d values x) =
      let same = values_once clear source values in
      body_holds one (clear_more (own v (one_of β) ∷ deeper g) (own k (one_of γ)) (clear_more (deeper g) (own v (one_of β)) (clear_deeper g clear) hidden) apart) typed
      (subst (λ (z : Base). InBody fs (Breaking fs y) (own k (one_of γ) ∷ own v (one_of z) ∷ deeper g) b) same.0
      (subst (λ (z : Base). InBody fs (Breaking fs y) (own k (one_of z) ∷ own v (one_of c) ∷ deeper g) b) same.1 x))
  command_holds one clear (rules.wait_statement refers b) (its_awaited x) = words_hold refers x
  command_holds one clear (rules.wait_statement refers b) (its_waiting x) = body_holds one clear b x

  body_holds : {fs : List Signature} {t : Table} {g : Scope} {b : Body} {y : TypeFault} → OneOfAName fs → Clear g → BodyTyped fs t g b → ¬ InBody fs (Breaking fs y) g b
  body_holds one clear (rules.in_braces typed) (in_braces x) = statements_hold one clear typed x

  statements_hold : {fs : List Signature} {t : Table} {g : Scope} {ss : Statements} {y : TypeFault} → OneOfAName fs → Clear g → StatementsTyped fs t g ss → ¬ InStatements fs (Breaking fs y) g ss
  statements_hold one clear rules.no_more_statements x = elim x [ ]
  statements_hold one clear (rules.next_statement typed others) (first_statement x) = command_holds one clear typed x
  statements_hold {fs} {y = y} one clear (rules.next_statement {ss = ss} typed others) (later_statement x) =
      let left = statement_leaves clear typed in
      statements_hold one left.1 others (subst (λ (z : Scope). InStatements fs (Breaking fs y) z ss) (sym left.0) x)

-- SCRIPTS

parameters_hold : {fs : List Signature} {owned : ℕ → Owned} {g h : Scope} {i : ℕ} {ds : List Declaration} {y : TypeFault} → Parameters owned g i ds h → ¬ InParameters (Breaking fs y) owned g i ds
parameters_hold rules.no_more x = elim x [ ]
parameters_hold (rules.one_parameter hidden others) (first_parameter (visible_before v)) = hidden v
parameters_hold (rules.one_parameter hidden others) (later_parameter x) = parameters_hold others x

parameters_leave : {owned : ℕ → Owned} {g h : Scope} {i : ℕ} {ds : List Declaration} → Clear g → Parameters owned g i ds h → (h ≡ with_parameters owned g i ds) × Clear h
parameters_leave clear rules.no_more = (refl, clear)
parameters_leave {owned} {g} {i = i} clear (rules.one_parameter {d = d} hidden others) = parameters_leave (clear_more g (parameter owned i d) clear hidden) others

function_holds : {fs : List Signature} {t : Table} {above : List (List ℕ)} {f : Composite} {y : TypeFault} → OneOfAName fs → FunctionTyped fs t above f → ¬ InFunction fs (Breaking fs y) above f
function_holds one (rules.function_typed new plain outs ins typed) (in_outputs x) = parameters_hold outs x
function_holds one (rules.function_typed new plain outs ins typed) (in_name (named_before m)) = new m
function_holds one (rules.function_typed new plain outs ins typed) (in_name (named_as_builtin b)) = plain b
function_holds {fs} {f = f} {y = y} one (rules.function_typed new plain outs ins typed) (in_inputs x) =
    let first_scope = parameters_leave (λ v u m. elim m [ ]) outs in
    parameters_hold ins (subst (λ (z : Scope). InParameters (Breaking fs y) core.input z 0 f.inputs) (sym first_scope.0) x)
function_holds {fs} {f = f} {y = y} one (rules.function_typed new plain outs ins typed) (in_body x) =
    let first_scope = parameters_leave (λ v u m. elim m [ ]) outs in
    let last_scope = parameters_leave first_scope.1 ins in
    body_holds one last_scope.1 typed (subst (λ (z : Scope). InBody fs (Breaking fs y) z f.body) (sym (last_scope.0 ∙ ap (λ (z : Scope). with_parameters core.input z 0 f.inputs) first_scope.0)) x)

parts_hold : {fs : List Signature} {t : Table} {above : List (List ℕ)} {g : Scope} {ps : Tree} {y : TypeFault} → OneOfAName fs → Clear g → PartsTyped fs t above g ps → ¬ InParts fs (Breaking fs y) above g ps
parts_hold one clear rules.no_parts x = elim x [ ]
parts_hold one clear (rules.an_import others) (behind_import x) = parts_hold one clear others x
parts_hold one clear (rules.a_function typed others) (in_function x) = function_holds one typed x
parts_hold one clear (rules.a_function typed others) (behind_function x) = parts_hold one clear others x
parts_hold one clear (rules.a_statement typed others) (in_statement x) = command_holds one clear typed x
parts_hold {fs} {above = above} {y = y} one clear (rules.a_statement {ps = ps} typed others) (behind_statement x) =
    let left = statement_leaves clear typed in
    parts_hold one left.1 others (subst (λ (z : Scope). InParts fs (Breaking fs y) above z ps) (sym left.0) x)

-- functions are not named as one above them, or a built-in one
new_names : {fs : List Signature} {t : Table} {above : List (List ℕ)} {g : Scope} {ps : Tree} → PartsTyped fs t above g ps → (f : Signature) → f ∈ signatures ps → (¬ (f.text ∈ above)) × (¬ IsBuiltinName f.text)
new_names rules.no_parts f m = elim m [ ]
new_names (rules.an_import others) f m = new_names others f m
new_names (rules.a_statement typed others) f m = new_names others f m
new_names {above = above} (rules.a_function (rules.function_typed new plain outs ins typed) others) f m =
    elim (split_in m) [
      | inl e ↦ subst (λ (x : Signature). (¬ (x.text ∈ above)) × (¬ IsBuiltinName x.text)) (sym e) (new, plain)
      | inr k ↦ let it = new_names others f k in (λ n. it.0 (later n), it.1)
    ]

-- so functions of one name are one
names_once : {fs : List Signature} {t : Table} {above : List (List ℕ)} {g : Scope} {ps : Tree} → PartsTyped fs t above g ps → (f h : Signature) → f ∈ signatures ps → h ∈ signatures ps → f.text ≡ h.text → f ≡ h
names_once rules.no_parts f h m k same = elim m [ ]
names_once (rules.an_import others) f h m k same = names_once others f h m k same
names_once (rules.a_statement typed others) f h m k same = names_once others f h m k same
names_once {above = above} (rules.a_function {f = c} typed others) f h m k same =
    elim (split_in m) [
      | inl e ↦ elim (split_in k) [
        | inl d ↦ e ∙ sym d
        | inr d ↦ absurd ((new_names others h d).0 (subst (λ (x : List ℕ). x ∈ (c.name.text ∷ above)) (ap (λ (x : Signature). x.text) (sym e) ∙ same) first))
      ]
      | inr e ↦ elim (split_in k) [
        | inl d ↦ absurd ((new_names others f e).0 (subst (λ (x : List ℕ). x ∈ (c.name.text ∷ above)) (ap (λ (x : Signature). x.text) (sym d) ∙ sym same) first))
        | inr d ↦ names_once others f h e d same
      ]
    ]

pub breaks_nothing : BreaksNothing
breaks_nothing tree y t typed broken = parts_hold (names_once typed, λ f m. (new_names typed f m).1) (λ v u m. elim m [ ]) typed broken

-- a script that is refused breaks a rule, so it is not well typed
pub script_refused : ScriptRefused
script_refused tree y is t typed = breaks_nothing tree y t typed (refusal_names tree y is)
