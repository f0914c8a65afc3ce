-- A refusal of statements and scripts names a rule that is broken there.
use Rattle.std.proofs.Common.{◌≡◌, ◌≢◌, ℕ, true, false, List, [], ◌∷◌, length, map, refl, sym, ap, ◌∙◌, subst, arith, inl, inr}
use Rattle.std.specs.Prelude.{◌⊎◌, Option, Some, None, cond, nat_eq, suc}
use Rattle.std.proofs.lemmas.Bool.{eqb-true}
use Rattle.std.specs.Str.{bytes_eq}
use Rattle.values.specs.Formats.{pieces}
use Rattle.lexer.specs.declared.token.Span.{Span}
use Rattle.types.specs.declared.fault.TypeFault.{TypeFault}
use Rattle.types.specs.declared.fault.TypeFault.TheVariants.{Declared, Mismatch, WrongCount, BadFormat}
use Rattle.types.specs.declared.typed.NameEntry.{NameEntry}
use Rattle.types.specs.declared.typed.ElementTypes.{ElementTypes}
use Rattle.types.specs.declared.typed.Binding.TheVariants.{Local}
use Rattle.types.specs.declared.typed.NameMeaning.TheVariants.{Called}
use Rattle.types.specs.declared.typed.Callee.TheVariants.{BuiltIn}
use Rattle.types.specs.declared.typed.Builtin.{Builtin}
use Rattle.types.specs.declared.typed.Builtin.TheVariants as Named
use Rattle.language.specs.declared.tree.Base.{Base}
use Rattle.language.specs.declared.tree.Base.TheVariants.{Int, Text, Boolean}
use Rattle.language.specs.declared.tree.Keys.{Keys}
use Rattle.language.specs.declared.tree.Keys.TheVariants.{Numbers, Texts}
use Rattle.language.specs.declared.tree.Shape.{Shape}
use Rattle.language.specs.declared.tree.Shape.TheVariants.{Scalar, Array}
use Rattle.language.specs.Members.{first, later}
use Rattle.language.specs.Tree.{Word, Node, Declaration, Expression, expression, number, text, truth, variable, element, prefixed, chain, Expressions, no_expressions, and_expression, expressions_of, RightSide, value, list, Calling, Over, array, range, Statement, statement, Command, declare, assign, write, assign_all, choice, choice_else, loop, waits, Body, body, Statements, no_statements, and_statement}
use Rattle.language.specs.Tree as tree
use Rattle.language.specs.Scopes.{Typ, one_of, declared_type, Scope, deeper, own, IsVisible, Signature}
use Rattle.language.specs.Typing.{wanted}
use Rattle.types.specs.Known.{Around}
use Rattle.types.specs.Typed.{builtin_name}
use Rattle.types.specs.Outcomes.{Outcome, refused, got, ◌>>=◌}
use Rattle.types.specs.Names.{refer, fresh, builtin_of, called, settles, function_called}
use Rattle.types.specs.Agrees.{scope_of}
use Rattle.types.specs.Expressions.{has_type, elements_of, first_of, count, either, whole, expected, elements, arguments, builtin_type}
use Rattle.types.specs.Statements.{under_numbers, literal_by, right, initial, refer_all, same_types, only_target, several, format_by, print, builtin_statement, call_alone, step_of, source, fresh_key, fresh_variables, inside, declared, loop_scope, stated, commanded, enclosed, in_order}
use Rattle.types.specs.Wants.{OfType, OfTypes, no_names, and_name, Outputs, of_function, of_builtin, of_type, argument, function_takes, builtin_takes, printf_takes, assert_takes}
use Rattle.types.specs.Breaks.{giving, alone, introduced, call, literal, outputs_to, BuiltinCounts, IsFormat, whole_of, Broken, wrong_count_of_conversions, no_format, literal_for_scalar, literal_under_texts, other_outputs, visible_before, InWanted, itself, within, later_expression, InWords, first_word, later_word, InRight, in_value, the_list, in_list, InOver, looped_name, looped_array, from_low, to_high, by_step, Values, of_array, of_range, with_key, behind_command, behind, InCommand, its_declaration, its_initial, its_target, its_right, its_written, its_written_array, its_place, its_element, its_targets, its_called, its_outputs, its_inputs, called_alone, inputs_alone, its_condition, its_branch, either_condition, either_branch, other_branch, its_value, its_key, its_source, its_loop, its_awaited, its_waiting, InBody, in_braces, InStatements, first_statement, later_statement}
use Rattle.types.proofs.accepted.Accepted.{call_counted, builtin_named}
use Rattle.types.proofs.settled.Settling.{same_text}
use Rattle.types.proofs.accepted.Typing.{bind_got, elements_got}
use Rattle.types.proofs.visible.Sight.{Inside, inside_more, inside_added, scope_declared, scope_inside}
use Rattle.types.proofs.accepted.Stated.{numbers, count_of, only_got, loop_inside}
use Rattle.types.proofs.accepted.Gives.{refer_type, function_found, builtin_value, whole_gives}
use Rattle.types.proofs.answered.Breaks.{bind_refused, Breaking, has_type_refused, elements_refused, type_broken, array_broken, refer_broken, fresh_visible, fresh_broken, different, function_broken, builtin_broken, CallBroken, whole_broken, expected_broken, elements_broken, arguments_broken, builtin_value_broken}

-- RIGHT SIDES

abbrev made : Base → Shape → Typ
made b h = record { base = b; shape = h }

numbers_refused : (κ : Keys) (at : Span) (s : List NameEntry) (y : TypeFault) → under_numbers κ at s ≡ refused y → (Mismatch at ≡ y) × (κ ≡ Texts)
numbers_refused Numbers at s y is = absurd (cc)
numbers_refused Texts at s y is = (cc, refl)

literal_broken : (fs : List Signature) (g : Around) (h : Shape) (b : Base) (es : List Expression) (nd : Node) (s : List NameEntry) (y : TypeFault) → literal_by h fs g b es nd s ≡ refused y
    → InRight fs (Breaking fs y) (scope_of g) (made b h) (list nd es)
literal_broken fs g (Array κ) b es nd s y is =
    elim (bind_refused (elements fs g (expressions_of es) (Some b) s) (λ u. under_numbers κ nd.first) y is) [
      | inl a ↦ in_list (elements_broken fs g (expressions_of es) (Some b) s y a)
      | inr a ↦
          let it = numbers_refused κ nd.first a.1 y a.3 in
          the_list (subst (Broken fs (scope_of g) (literal nd (made b (Array κ)))) it.0 (literal_under_texts (ap Array it.1)))
    ]
literal_broken fs g Scalar b es nd s y is =
    elim (bind_refused (elements fs g (expressions_of es) None s) (λ u r. refused (Mismatch nd.first)) y is) [
      | inl a ↦ in_list (elements_broken fs g (expressions_of es) None s y a)
      | inr a ↦
          let same : Mismatch nd.first ≡ y = (let here = a.3 in cc) in
          the_list (subst (Broken fs (scope_of g) (literal nd (made b Scalar))) same (literal_for_scalar refl))
    ]

right_broken : (fs : List Signature) (g : Around) (r : RightSide) (τ : Typ) (s : List NameEntry) (y : TypeFault) → right fs g r τ s ≡ refused y → InRight fs (Breaking fs y) (scope_of g) τ r
right_broken fs g (value e) τ s y is =
    elim (bind_refused (whole fs g e s) (λ x. has_type x τ (first_of e)) y is) [
      | inl a ↦ in_value (within (whole_broken fs g e s y a))
      | inr a ↦ in_value (itself (type_broken fs (scope_of g) e (of_type τ) a.0 y (whole_gives fs g e a.0 s a.1 a.2) (has_type_refused a.0 τ (first_of e) a.1 y a.3)))
    ]
right_broken fs g (list nd es) τ s y is = literal_broken fs g τ.shape τ.base es nd s y is

initial_broken : (fs : List Signature) (g : Around) (d : Declaration) (r : Option RightSide) (s : List NameEntry) (y : TypeFault)
    → initial fs (declared g d.name (declared_type d)) r (declared_type d) s ≡ refused y → InCommand fs (Breaking fs y) (scope_of g) (declare d r)
initial_broken fs g d None s y is = absurd (cc)
initial_broken fs g d (Some r) s y is =
    its_initial (subst (λ (x : Scope). InRight fs (Breaking fs y) x (declared_type d) r) (scope_declared g d.name (declared_type d)) (right_broken fs (declared g d.name (declared_type d)) r (declared_type d) s y is))

-- CALLS

refer_all_broken : (fs : List Signature) (g : Around) (ws : List Word) (s : List NameEntry) (y : TypeFault) → refer_all g ws s ≡ refused y → InWords (Breaking fs y) (scope_of g) ws
refer_all_broken fs g [] s y is = absurd (cc)
refer_all_broken fs g (w ∷ ws) s y is =
    elim (bind_refused (refer g w s) (λ τ r. refer_all g ws r >>= λ τs. got (τ ∷ τs)) y is) [
      | inl a ↦ first_word (refer_broken fs g w s y a)
      | inr c ↦ elim (bind_refused (refer_all g ws c.1) (λ τs. got (c.0 ∷ τs)) y c.3) [
        | inl a ↦ later_word (refer_all_broken fs g ws c.1 y a)
        | inr a ↦ absurd (let here = a.3 in cc)
      ]
    ]

refer_all_many : (g : Around) (ws : List Word) (τs : List Typ) (s s' : List NameEntry) → refer_all g ws s ≡ got τs s' → length ws ≡ length τs
refer_all_many g [] τs s s' is = let none : [] ≡ τs = cc in ap length none
refer_all_many g (w ∷ ws) τs s s' is =
    let one = bind_got (refer g w s) (λ τ r. refer_all g ws r >>= λ σs. got (τ ∷ σs)) τs s' is in
    let two = bind_got (refer_all g ws one.1) (λ σs. got (one.0 ∷ σs)) τs s' one.3 in
    let same : one.0 ∷ two.0 ≡ τs = cc in
    ap suc (refer_all_many g ws two.0 one.1 two.1 two.2) ∙ ap length same

refer_all_types : (g : Around) (ws : List Word) (τs : List Typ) (s s' : List NameEntry) → refer_all g ws s ≡ got τs s' → OfTypes (scope_of g) ws τs
refer_all_types g [] τs s s' is = let none : [] ≡ τs = cc in subst (OfTypes (scope_of g) []) none no_names
refer_all_types g (w ∷ ws) τs s s' is =
    let one = bind_got (refer g w s) (λ τ r. refer_all g ws r >>= λ σs. got (τ ∷ σs)) τs s' is in
    let two = bind_got (refer_all g ws one.1) (λ σs. got (one.0 ∷ σs)) τs s' one.3 in
    let last : got (one.0 ∷ two.0) two.1 ≡ got τs s' = two.3 in
    let same : one.0 ∷ two.0 ≡ τs = cc in
    subst (OfTypes (scope_of g) (w ∷ ws)) same (and_name (refer_type g w one.0 s one.1 one.2) (refer_all_types g ws two.0 one.1 two.1 two.2))

same_types_refused : (τs σs : List Typ) (at : Span) (s : List NameEntry) (y : TypeFault) → length τs ≡ length σs → same_types τs σs at s ≡ refused y → (Mismatch at ≡ y) × (τs ≢ σs)
same_types_refused [] σs at s y many is = absurd (cc)
same_types_refused (τ ∷ τs) [] at s y many is = absurd (cc)
same_types_refused (τ ∷ τs) (σ ∷ σs) at s y many is =
    let fewer : length τs ≡ length σs = omega arith in
    elim (bind_refused (has_type τ σ at s) (λ u. same_types τs σs at) y is) [
      | inl a ↦ let it = has_type_refused τ σ at s y a in (it.0, λ same. it.1 (let firsts : τ ≡ σ = cc in firsts))
      | inr a ↦ let it = same_types_refused τs σs at a.1 y fewer a.3 in (it.0, λ same. it.1 (let others : τs ≡ σs = cc in others))
    ]

-- outputs of other types than the variables that they go to
outputs_broken : (fs : List Signature) (g : Scope) (w : Word) (ws : List Word) (τs σs : List Typ) (y : TypeFault) → Outputs fs w.text τs → OfTypes g ws σs → length τs ≡ length σs
    → (Mismatch w.span ≡ y) × (τs ≢ σs) → Broken fs g (outputs_to w ws) y
outputs_broken fs g w ws τs σs y outs targets many why = subst (Broken fs g (outputs_to w ws)) why.0 (other_outputs outs targets many why.1)

only_target_refused : (τs : List Typ) (at : Span) (s : List NameEntry) (y : TypeFault) → only_target τs at s ≡ refused y → (WrongCount at ≡ y) × (length τs ≢ 1)
only_target_refused [] at s y is = (cc, λ one. absurd (cc))
only_target_refused (τ ∷ []) at s y is = absurd (cc)
only_target_refused (τ ∷ σ ∷ σs) at s y is = (cc, λ one. absurd (omega arith))

giving_one : (f : Builtin) (n m : ℕ) → BuiltinCounts (builtin_name f) n (giving m) → m ≡ 1
giving_one Named.Strcat n m c = let it = c.1 in cc
giving_one Named.FromInt n m c = let it = c.1 in cc
giving_one Named.ToInt n m c = let it = c.1 in cc
giving_one Named.Size n m c = let it = c.1 in cc
giving_one Named.Printf n m c = let it = c.1 in absurd (cc)
giving_one Named.Assert n m c = let it = c.1 in absurd (cc)

-- a call that is wrong for the variables that its outputs go to
abbrev SeveralBroken : List Signature → TypeFault → Scope → List Word → Calling → Type 0
SeveralBroken fs y g ws c = CallBroken fs y g c.name (expressions_of c.arguments) (giving (length ws)) ⊎ Broken fs g (outputs_to c.name ws) y

several_function_broken : (fs : List Signature) (g : Around) (ws : List Word) (c : Calling) (τs : List Typ) (s : List NameEntry) (y : TypeFault) → OfTypes (scope_of g) ws τs → length ws ≡ length τs → builtin_of c.name.text ≡ None
    → (function_called fs c.name (length c.arguments) (length τs) s >>= λ f r. arguments fs g (expressions_of c.arguments) f.inputs c.name.span r >>= λ u. same_types f.outputs τs c.name.span) ≡ refused y
    → SeveralBroken fs y (scope_of g) ws c
several_function_broken fs g ws c τs s y targets many none is =
    elim (bind_refused (function_called fs c.name (length c.arguments) (length τs) s) (λ f r. arguments fs g (expressions_of c.arguments) f.inputs c.name.span r >>= λ u. same_types f.outputs τs c.name.span) y is) [
      | inl a ↦ inl (inl (function_broken fs (scope_of g) c.name (expressions_of c.arguments) (giving (length ws)) (length c.arguments) (length τs) s y none (count_of c.arguments) many a))
      | inr d ↦
          let counts = call_counted fs c.name (length c.arguments) (length τs) d.0 s d.1 d.2 in
          let there = function_found fs c.name (length c.arguments) (length τs) d.0 s d.1 d.2 in
          elim (bind_refused (arguments fs g (expressions_of c.arguments) d.0.inputs c.name.span d.1) (λ u. same_types d.0.outputs τs c.name.span) y d.3) [
            | inl a ↦ inl (inr (
              map argument d.0.inputs,
              function_takes d.0 there.0 there.1,
              arguments_broken fs g (expressions_of c.arguments) d.0.inputs c.name.span d.1 y (count_of c.arguments ∙ sym counts.0) a,
            ))
            | inr a ↦ inr (outputs_broken fs (scope_of g) c.name ws d.0.outputs τs y (of_function d.0 there.0 there.1 refl) targets counts.1 (same_types_refused d.0.outputs τs c.name.span a.1 y counts.1 a.3))
          ]
    ]

several_builtin_broken : (fs : List Signature) (g : Around) (ws : List Word) (c : Calling) (τs : List Typ) (f : Builtin) (s : List NameEntry) (y : TypeFault) → OfTypes (scope_of g) ws τs → length ws ≡ length τs → builtin_of c.name.text ≡ Some f
    → (only_target τs c.name.span s >>= λ target r. called c.name (BuiltIn f) r >>= λ u r. builtin_type fs g f (expressions_of c.arguments) c.name.span r >>= λ b. has_type (one_of b) target c.name.span) ≡ refused y
    → SeveralBroken fs y (scope_of g) ws c
several_builtin_broken fs g ws c τs f s y targets many some is =
    elim (bind_refused (only_target τs c.name.span s) (λ target r. called c.name (BuiltIn f) r >>= λ u r. builtin_type fs g f (expressions_of c.arguments) c.name.span r >>= λ b. has_type (one_of b) target c.name.span) y is) [
      | inl a ↦
          let it = only_target_refused τs c.name.span s y a in
          inl (inl (builtin_broken fs (scope_of g) c.name (expressions_of c.arguments) (giving (length ws)) f y some it.0 (λ x. it.1 (sym many ∙ giving_one f (count (expressions_of c.arguments)) (length ws) x))))
      | inr d ↦
          let target = only_got τs c.name.span d.0 s d.1 d.2 in
          let one : 1 ≡ length ws = sym (many ∙ ap length target.0) in
          elim (bind_refused (builtin_type fs g f (expressions_of c.arguments) c.name.span (settles c.name (Called (BuiltIn f)) d.1)) (λ b. has_type (one_of b) d.0 c.name.span) y d.3) [
            | inl a ↦ inl (subst (λ (k : ℕ). CallBroken fs y (scope_of g) c.name (expressions_of c.arguments) (giving k)) one
                (builtin_value_broken fs g c.name f (expressions_of c.arguments) (settles c.name (Called (BuiltIn f)) d.1) y some a))
            | inr a ↦
                let it = has_type_refused (one_of a.0) d.0 c.name.span a.1 y a.3 in
                let value = builtin_value fs g f (expressions_of c.arguments) c.name.span a.0 (settles c.name (Called (BuiltIn f)) d.1) a.1 a.2 in
                inr (outputs_broken fs (scope_of g) c.name ws (one_of a.0 ∷ []) (d.0 ∷ []) y (of_builtin (builtin_name f) (builtin_named c.name.text f some) value)
                (subst (OfTypes (scope_of g) ws) target.0 targets) refl (it.0, λ same. it.1 (let firsts : one_of a.0 ≡ d.0 = cc in firsts)))
          ]
    ]

several_broken : (fs : List Signature) (g : Around) (ws : List Word) (c : Calling) (τs : List Typ) (s : List NameEntry) (y : TypeFault) → OfTypes (scope_of g) ws τs → length ws ≡ length τs → several fs g c τs s ≡ refused y
    → SeveralBroken fs y (scope_of g) ws c
several_broken fs g ws c τs s y targets many is =
    elim (builtin_of c.name.text) as (λ o. builtin_of c.name.text ≡ o →
    either o (λ f. only_target τs c.name.span s >>= λ target r. called c.name (BuiltIn f) r >>= λ u r. builtin_type fs g f (expressions_of c.arguments) c.name.span r >>= λ b. has_type (one_of b) target c.name.span)
    (function_called fs c.name (length c.arguments) (length τs) s >>= λ f r. arguments fs g (expressions_of c.arguments) f.inputs c.name.span r >>= λ u. same_types f.outputs τs c.name.span) ≡ refused y
    → SeveralBroken fs y (scope_of g) ws c) [
      | None ↦ λ none here. several_function_broken fs g ws c τs s y targets many none here
      | Some f ↦ λ some here. several_builtin_broken fs g ws c τs f s y targets many some here
    ] refl is

format_broken : (fs : List Signature) (g : Scope) (w : Word) (e : Expression) (es : List Expression) (y : TypeFault) → builtin_of w.text ≡ Some Named.Printf → ¬ IsFormat e
    → BadFormat (whole_of e) ≡ y → CallBroken fs y g w (expressions_of (e ∷ es)) alone
format_broken fs g w e es y some other is = inl (subst (Broken fs g (call w (expressions_of (e ∷ es)) alone)) is (no_format (builtin_named w.text Named.Printf some) other))

text_broken : (fs : List Signature) (g : Around) (w : Word) (nd : Node) (bytes : List ℕ) (es : List Expression) (s : List NameEntry) (y : TypeFault) → builtin_of w.text ≡ Some Named.Printf
    → print fs g (expression nd (text bytes) ∷ es) w.span s ≡ refused y → CallBroken fs y (scope_of g) w (expressions_of (expression nd (text bytes) ∷ es)) alone
text_broken fs g w nd bytes es s y some is =
    elim (pieces false bytes) as (λ o. pieces false bytes ≡ o
    → (format_by o (record { from = nd.first.from; to = nd.to }) s >>= λ τs r. cond (nat_eq (length es) (length τs)) (arguments fs g (expressions_of es) τs w.span r) (refused (WrongCount w.span))) ≡ refused y
    → CallBroken fs y (scope_of g) w (expressions_of (expression nd (text bytes) ∷ es)) alone) [
      | None ↦ λ none here. format_broken fs (scope_of g) w (expression nd (text bytes)) es y some
          (λ it. let same = it.3 in let letters : bytes ≡ it.1 = cc in let both : None ≡ Some it.2 = sym none ∙ ap (pieces false) letters ∙ it.4 in absurd (cc)) (cc)
      | Some ps ↦ λ has here.
          elim (nat_eq (length es) (length (wanted ps))) as (λ b. nat_eq (length es) (length (wanted ps)) ≡ b → cond b (arguments fs g (expressions_of es) (wanted ps) w.span s) (refused (WrongCount w.span)) ≡ refused y
          → CallBroken fs y (scope_of g) w (expressions_of (expression nd (text bytes) ∷ es)) alone) [
            | true ↦ λ many here. inr (
              of_type (one_of Text) ∷ map argument (wanted ps),
              builtin_takes (builtin_name Named.Printf) (builtin_named w.text Named.Printf some) (printf_takes ps has),
              later_expression (arguments_broken fs g (expressions_of es) (wanted ps) w.span s y (count_of es ∙ eqb-true (length es) (length (wanted ps)) many) here),
            )
            | false ↦ λ other here.
                let same : WrongCount w.span ≡ y = cc in
                inl (subst (Broken fs (scope_of g) (call w (expressions_of (expression nd (text bytes) ∷ es)) alone)) same
                (wrong_count_of_conversions ps (builtin_named w.text Named.Printf some) has (λ m. different (length es) (length (wanted ps)) other (sym (count_of es) ∙ m))))
          ] refl here
    ] refl is

print_broken : (fs : List Signature) (g : Around) (w : Word) (es : List Expression) (s : List NameEntry) (y : TypeFault) → builtin_of w.text ≡ Some Named.Printf
    → print fs g es w.span s ≡ refused y → CallBroken fs y (scope_of g) w (expressions_of es) alone
print_broken fs g w [] s y some is = inl (builtin_broken fs (scope_of g) w no_expressions alone Named.Printf y some (cc) (λ c. c.0 refl))
print_broken fs g w (expression nd (text bytes) ∷ es) s y some is = text_broken fs g w nd bytes es s y some is
print_broken fs g w (expression nd (number z) ∷ es) s y some is = format_broken fs (scope_of g) w (expression nd (number z)) es y some (λ it. let same = it.3 in absurd (cc)) (cc)
print_broken fs g w (expression nd (truth z) ∷ es) s y some is = format_broken fs (scope_of g) w (expression nd (truth z)) es y some (λ it. let same = it.3 in absurd (cc)) (cc)
print_broken fs g w (expression nd (variable v) ∷ es) s y some is = format_broken fs (scope_of g) w (expression nd (variable v)) es y some (λ it. let same = it.3 in absurd (cc)) (cc)
print_broken fs g w (expression nd (element v i) ∷ es) s y some is = format_broken fs (scope_of g) w (expression nd (element v i)) es y some (λ it. let same = it.3 in absurd (cc)) (cc)
print_broken fs g w (expression nd (tree.call v ds) ∷ es) s y some is = format_broken fs (scope_of g) w (expression nd (tree.call v ds)) es y some (λ it. let same = it.3 in absurd (cc)) (cc)
print_broken fs g w (expression nd (prefixed p e) ∷ es) s y some is = format_broken fs (scope_of g) w (expression nd (prefixed p e)) es y some (λ it. let same = it.3 in absurd (cc)) (cc)
print_broken fs g w (expression nd (chain os ds) ∷ es) s y some is = format_broken fs (scope_of g) w (expression nd (chain os ds)) es y some (λ it. let same = it.3 in absurd (cc)) (cc)

statement_broken : (fs : List Signature) (g : Around) (w : Word) (f : Builtin) (es : List Expression) (s : List NameEntry) (y : TypeFault) → builtin_of w.text ≡ Some f
    → builtin_statement f fs g es w.span s ≡ refused y → CallBroken fs y (scope_of g) w (expressions_of es) alone
statement_broken fs g w Named.Printf es s y some is = print_broken fs g w es s y some is
statement_broken fs g w Named.Assert es s y some is =
    elim (nat_eq (length es) 2) as (λ b. nat_eq (length es) 2 ≡ b → cond b (arguments fs g (expressions_of es) (one_of Boolean ∷ one_of Text ∷ []) w.span s) (refused (WrongCount w.span)) ≡ refused y
    → CallBroken fs y (scope_of g) w (expressions_of es) alone) [
      | true ↦ λ many here. inr (
        of_type (one_of Boolean) ∷ of_type (one_of Text) ∷ [],
        builtin_takes (builtin_name Named.Assert) (builtin_named w.text Named.Assert some) assert_takes,
        arguments_broken fs g (expressions_of es) (one_of Boolean ∷ one_of Text ∷ []) w.span s y (count_of es ∙ eqb-true (length es) 2 many) here,
      )
      | false ↦ λ other here. inl (builtin_broken fs (scope_of g) w (expressions_of es) alone Named.Assert y some (cc) (λ c. different (length es) 2 other (sym (count_of es) ∙ c.0)))
    ] refl is
statement_broken fs g w Named.Strcat es s y some is = inl (builtin_broken fs (scope_of g) w (expressions_of es) alone Named.Strcat y some (cc) (λ c. let it = c.1 in absurd (cc)))
statement_broken fs g w Named.FromInt es s y some is = inl (builtin_broken fs (scope_of g) w (expressions_of es) alone Named.FromInt y some (cc) (λ c. let it = c.1 in absurd (cc)))
statement_broken fs g w Named.ToInt es s y some is = inl (builtin_broken fs (scope_of g) w (expressions_of es) alone Named.ToInt y some (cc) (λ c. let it = c.1 in absurd (cc)))
statement_broken fs g w Named.Size es s y some is = inl (builtin_broken fs (scope_of g) w (expressions_of es) alone Named.Size y some (cc) (λ c. let it = c.1 in absurd (cc)))

alone_broken : (fs : List Signature) (g : Around) (c : Calling) (s : List NameEntry) (y : TypeFault) → call_alone fs g c s ≡ refused y
    → CallBroken fs y (scope_of g) c.name (expressions_of c.arguments) alone
alone_broken fs g c s y is =
    elim (builtin_of c.name.text) as (λ o. builtin_of c.name.text ≡ o →
    either o (λ f. called c.name (BuiltIn f) s >>= λ u. builtin_statement f fs g c.arguments c.name.span)
    (function_called fs c.name (length c.arguments) 0 s >>= λ f. arguments fs g (expressions_of c.arguments) f.inputs c.name.span) ≡ refused y
    → CallBroken fs y (scope_of g) c.name (expressions_of c.arguments) alone) [
      | None ↦ λ none here.
          elim (bind_refused (function_called fs c.name (length c.arguments) 0 s) (λ f. arguments fs g (expressions_of c.arguments) f.inputs c.name.span) y here) [
            | inl a ↦ inl (function_broken fs (scope_of g) c.name (expressions_of c.arguments) alone (length c.arguments) 0 s y none (count_of c.arguments) refl a)
            | inr d ↦
                let counts = call_counted fs c.name (length c.arguments) 0 d.0 s d.1 d.2 in
                let there = function_found fs c.name (length c.arguments) 0 d.0 s d.1 d.2 in
                inr (map argument d.0.inputs, function_takes d.0 there.0 there.1, arguments_broken fs g (expressions_of c.arguments) d.0.inputs c.name.span d.1 y (count_of c.arguments ∙ sym counts.0) d.3)
          ]
      | Some f ↦ λ some here. statement_broken fs g c.name f c.arguments (settles c.name (Called (BuiltIn f)) s) y some here
    ] refl is

-- LOOPS

source_values : (fs : List Signature) (g : Around) (o : Over) (a : ElementTypes) (s s' : List NameEntry) → source fs g o s ≡ got a s' → Values (scope_of g) o a.value a.key
source_values fs g (array w) a s s' is =
    let one = bind_got (refer g w s) (λ τ. elements_of τ w.span) a s' is in
    let type = elements_got one.0 w.span one.1 s' a one.3 in
    subst (λ (c : Base). Values (scope_of g) (array w) a.value c) type.2 (of_array (subst (OfType (scope_of g) w) type.1 (refer_type g w one.0 s one.1 one.2)))
source_values fs g (range low high step) a s s' is =
    let one = bind_got (expected fs g low Int s) (λ u r. expected fs g high Int r >>= λ u r. step_of fs g step r >>= λ u. got numbers) a s' is in
    let two = bind_got (expected fs g high Int one.1) (λ u r. step_of fs g step r >>= λ u. got numbers) a s' one.3 in
    let three = bind_got (step_of fs g step two.1) (λ u. got numbers) a s' two.3 in
    let last : got numbers three.1 ≡ got a s' = three.3 in
    let same : numbers ≡ a = cc in
    subst (λ (x : ElementTypes). Values (scope_of g) (range low high step) x.value x.key) same of_range

step_broken : (fs : List Signature) (g : Around) (low high : Expression) (e : Option Expression) (s : List NameEntry) (y : TypeFault) → step_of fs g e s ≡ refused y
    → InOver fs (Breaking fs y) (scope_of g) (range low high e)
step_broken fs g low high None s y is = absurd (cc)
step_broken fs g low high (Some e) s y is = by_step (expected_broken fs g e Int s y is)

source_broken : (fs : List Signature) (g : Around) (o : Over) (s : List NameEntry) (y : TypeFault) → source fs g o s ≡ refused y → InOver fs (Breaking fs y) (scope_of g) o
source_broken fs g (array w) s y is =
    elim (bind_refused (refer g w s) (λ τ. elements_of τ w.span) y is) [
      | inl a ↦ looped_name (refer_broken fs g w s y a)
      | inr a ↦ looped_array (array_broken fs (scope_of g) w a.0 y (refer_type g w a.0 s a.1 a.2) (elements_refused a.0 w.span a.1 y a.3))
    ]
source_broken fs g (range low high step) s y is =
    elim (bind_refused (expected fs g low Int s) (λ u r. expected fs g high Int r >>= λ u r. step_of fs g step r >>= λ u. got numbers) y is) [
      | inl a ↦ from_low (expected_broken fs g low Int s y a)
      | inr c ↦ elim (bind_refused (expected fs g high Int c.1) (λ u r. step_of fs g step r >>= λ u. got numbers) y c.3) [
        | inl a ↦ to_high (expected_broken fs g high Int c.1 y a)
        | inr d ↦ elim (bind_refused (step_of fs g step d.1) (λ u. got numbers) y d.3) [
          | inl a ↦ step_broken fs g low high step d.1 y a
          | inr a ↦ absurd (let here = a.3 in cc)
        ]
      ]
    ]

-- a key that is visible already, whatever the type of the value before it
key_visible : (fs : List Signature) (g : Scope) (v k : Word) (y : TypeFault) → Declared k.span ≡ y → ((τ : Typ) → IsVisible (own v τ ∷ g) k.text)
    → (τ : Typ) → Broken fs (own v τ ∷ g) (introduced k) y
key_visible fs g v k y is visible τ = subst (Broken fs (own v τ ∷ g) (introduced k)) is (visible_before (visible τ))

key_broken : (fs : List Signature) (g : Around) (v : Word) (k : Option Word) (o : Over) (b : Body) (s : List NameEntry) (y : TypeFault) → Inside g → fresh_key g v k s ≡ refused y
    → InCommand fs (Breaking fs y) (scope_of g) (loop v k o b)
key_broken fs g v None o b s y low is = absurd (cc)
key_broken fs g v (Some k) o b s y low is =
    elim (bind_refused (fresh g k s) (λ u r. cond (bytes_eq k.text v.text) (refused (Declared k.span)) (got (tt {0}) r)) y is) [
      | inl a ↦
          let it = fresh_visible (inside g) k s y a in
          let there : IsVisible (deeper (scope_of g)) k.text = subst (λ (x : Scope). IsVisible x k.text) (scope_inside g low) it.0 in
          its_key (key_visible fs (deeper (scope_of g)) v k y it.1 (λ τ. (there.0, later there.1, there.2)))
      | inr a ↦
          elim (bytes_eq k.text v.text) as (λ q. bytes_eq k.text v.text ≡ q → cond q (refused (Declared k.span)) (got (tt {0}) a.1) ≡ refused y → InCommand fs (Breaking fs y) (scope_of g) (loop v (Some k) o b)) [
            | true ↦ λ same here. its_key (key_visible fs (deeper (scope_of g)) v k y (cc) (λ τ. (own v τ, first, sym (same_text k.text v.text same))))
            | false ↦ λ other here. absurd (cc)
          ] refl a.3
    ]

variables_broken : (fs : List Signature) (g : Around) (v : Word) (k : Option Word) (o : Over) (b : Body) (s : List NameEntry) (y : TypeFault) → Inside g → fresh_variables g v k s ≡ refused y
    → InCommand fs (Breaking fs y) (scope_of g) (loop v k o b)
variables_broken fs g v k o b s y low is =
    elim (bind_refused (fresh g v s) (λ u. fresh_key g v k) y is) [
      | inl a ↦ its_value (subst (λ (x : Scope). Broken fs x (introduced v) y) (scope_inside g low) (fresh_broken fs (inside g) v s y a))
      | inr a ↦ key_broken fs g v k o b a.1 y low a.3
    ]

loop_scope_is : (g : Around) (v : Word) (k : Option Word) (a : ElementTypes) → Inside g → scope_of (loop_scope g v k a) ≡ with_key (own v (one_of a.value) ∷ deeper (scope_of g)) k a.key
loop_scope_is g v None a low = scope_declared (inside g) v (one_of a.value) ∙ ap (λ (x : Scope). own v (one_of a.value) ∷ x) (scope_inside g low)
loop_scope_is g v (Some k) a low =
    scope_declared (declared (inside g) v (one_of a.value)) k (one_of a.key)
    ∙ ap (λ (x : Scope). own k (one_of a.key) ∷ x) (scope_declared (inside g) v (one_of a.value) ∙ ap (λ (x : Scope). own v (one_of a.value) ∷ x) (scope_inside g low))

-- STATEMENTS

-- a check that leaves its scope as it was
same_left : {A : Type 0} (o : Outcome A) (g h : Around) (s : List NameEntry) → Inside g → (o >>= λ u. got g) ≡ got h s → Inside h × (scope_of h ≡ scope_of g)
same_left o g h s low is =
    let one = bind_got o (λ u. got g) h s is in
    let same : g ≡ h = cc in
    (subst Inside same low, ap scope_of (sym same))

command_left : (fs : List Signature) (g h : Around) (c : Command) (s s' : List NameEntry) → Inside g → commanded fs g c s ≡ got h s' → Inside h × (scope_of h ≡ behind_command (scope_of g) c)
unfolding commanded
command_left fs g h (declare d r) s s' low is =
    let one = bind_got (fresh g d.name s) (λ u r'. initial fs (declared g d.name (declared_type d)) r (declared_type d) r' >>= λ u. got (declared g d.name (declared_type d))) h s' is in
    let two = bind_got (initial fs (declared g d.name (declared_type d)) r (declared_type d) one.1) (λ u. got (declared g d.name (declared_type d))) h s' one.3 in
    let same : declared g d.name (declared_type d) ≡ h = cc in
    (subst Inside same (inside_added g d.name (Local d.name.number) (declared_type d) low), ap scope_of (sym same) ∙ scope_declared g d.name (declared_type d))
command_left fs g h (assign w r) s s' low is =
    let one = bind_got (refer g w s) (λ τ r'. right fs g r τ r' >>= λ u. got g) h s' is in
    same_left (right fs g r one.0 one.1) g h s' low one.3
command_left fs g h (write w i e) s s' low is =
    let one = bind_got (refer g w s >>= λ τ. elements_of τ w.span) (λ a r. expected fs g i a.key r >>= λ u r. expected fs g e a.value r >>= λ u. got g) h s' is in
    let two = bind_got (expected fs g i one.0.key one.1) (λ u r. expected fs g e one.0.value r >>= λ u. got g) h s' one.3 in
    same_left (expected fs g e one.0.value two.1) g h s' low two.3
command_left fs g h (assign_all ws c) s s' low is =
    let one = bind_got (refer_all g ws s) (λ τs r. several fs g c τs r >>= λ u. got g) h s' is in
    same_left (several fs g c one.0 one.1) g h s' low one.3
command_left fs g h (tree.calls p c) s s' low is = same_left (call_alone fs g c s) g h s' low is
command_left fs g h (choice e b) s s' low is =
    let one = bind_got (expected fs g e Boolean s) (λ u r. enclosed fs (inside g) b r >>= λ u. got g) h s' is in
    same_left (enclosed fs (inside g) b one.1) g h s' low one.3
command_left fs g h (choice_else e b d) s s' low is =
    let one = bind_got (expected fs g e Boolean s) (λ u r. enclosed fs (inside g) b r >>= λ u r. enclosed fs (inside g) d r >>= λ u. got g) h s' is in
    let two = bind_got (enclosed fs (inside g) b one.1) (λ u r. enclosed fs (inside g) d r >>= λ u. got g) h s' one.3 in
    same_left (enclosed fs (inside g) d two.1) g h s' low two.3
command_left fs g h (loop v k o b) s s' low is =
    let one = bind_got (fresh_variables g v k s) (λ u r. source fs g o r >>= λ a r. enclosed fs (loop_scope g v k a) b r >>= λ u. got g) h s' is in
    let two = bind_got (source fs g o one.1) (λ a r. enclosed fs (loop_scope g v k a) b r >>= λ u. got g) h s' one.3 in
    same_left (enclosed fs (loop_scope g v k two.0) b two.1) g h s' low two.3
command_left fs g h (waits ws b) s s' low is =
    let one = bind_got (refer_all g ws s) (λ τs r. enclosed fs g b r >>= λ u. got g) h s' is in
    same_left (enclosed fs g b one.1) g h s' low one.3

pub statement_left : (fs : List Signature) (g h : Around) (st : Statement) (s s' : List NameEntry) → Inside g → stated fs g st s ≡ got h s' → Inside h × (scope_of h ≡ behind (scope_of g) st)
unfolding stated
statement_left fs g h (statement nd c) s s' low is = command_left fs g h c s s' low is

mutual
  unfolding stated commanded enclosed in_order

  pub command_broken : (fs : List Signature) (g : Around) (c : Command) (s : List NameEntry) (y : TypeFault) → Inside g → commanded fs g c s ≡ refused y → InCommand fs (Breaking fs y) (scope_of g) c
  command_broken fs g (declare d r) s y low is =
      elim (bind_refused (fresh g d.name s) (λ u r'. initial fs (declared g d.name (declared_type d)) r (declared_type d) r' >>= λ u. got (declared g d.name (declared_type d))) y is) [
        | inl a ↦ its_declaration (fresh_broken fs g d.name s y a)
        | inr c ↦ elim (bind_refused (initial fs (declared g d.name (declared_type d)) r (declared_type d) c.1) (λ u. got (declared g d.name (declared_type d))) y c.3) [
          | inl a ↦ initial_broken fs g d r c.1 y a
          | inr a ↦ absurd (let here = a.3 in cc)
        ]
      ]
  command_broken fs g (assign w r) s y low is =
      elim (bind_refused (refer g w s) (λ τ r'. right fs g r τ r' >>= λ u. got g) y is) [
        | inl a ↦ its_target (refer_broken fs g w s y a)
        | inr c ↦ elim (bind_refused (right fs g r c.0 c.1) (λ u. got g) y c.3) [
          | inl a ↦ its_right (refer_type g w c.0 s c.1 c.2) (right_broken fs g r c.0 c.1 y a)
          | inr a ↦ absurd (let here = a.3 in cc)
        ]
      ]
  command_broken fs g (write w i e) s y low is =
      elim (bind_refused (refer g w s >>= λ τ. elements_of τ w.span) (λ a r. expected fs g i a.key r >>= λ u r. expected fs g e a.value r >>= λ u. got g) y is) [
        | inl c ↦ elim (bind_refused (refer g w s) (λ τ. elements_of τ w.span) y c) [
          | inl a ↦ its_written (refer_broken fs g w s y a)
          | inr a ↦ its_written_array (array_broken fs (scope_of g) w a.0 y (refer_type g w a.0 s a.1 a.2) (elements_refused a.0 w.span a.1 y a.3))
        ]
        | inr c ↦ elim (bind_refused (expected fs g i c.0.key c.1) (λ u r. expected fs g e c.0.value r >>= λ u. got g) y c.3) [
          | inl a ↦
              let name = bind_got (refer g w s) (λ τ. elements_of τ w.span) c.0 c.1 c.2 in
              let type = elements_got name.0 w.span name.1 c.1 c.0 name.3 in
              its_place (subst (OfType (scope_of g) w) type.1 (refer_type g w name.0 s name.1 name.2))
              (subst (λ (z : Base). InWanted fs (Breaking fs y) (scope_of g) (of_type (one_of z)) i) (sym type.2) (expected_broken fs g i c.0.key c.1 y a))
          | inr d ↦ elim (bind_refused (expected fs g e c.0.value d.1) (λ u. got g) y d.3) [
            | inl a ↦
                let name = bind_got (refer g w s) (λ τ. elements_of τ w.span) c.0 c.1 c.2 in
                let type = elements_got name.0 w.span name.1 c.1 c.0 name.3 in
                its_element (subst (OfType (scope_of g) w) type.1 (refer_type g w name.0 s name.1 name.2)) (expected_broken fs g e c.0.value d.1 y a)
            | inr a ↦ absurd (let here = a.3 in cc)
          ]
        ]
      ]
  command_broken fs g (assign_all ws c) s y low is =
      elim (bind_refused (refer_all g ws s) (λ τs r. several fs g c τs r >>= λ u. got g) y is) [
        | inl a ↦ its_targets (refer_all_broken fs g ws s y a)
        | inr d ↦ elim (bind_refused (several fs g c d.0 d.1) (λ u. got g) y d.3) [
          | inl a ↦ elim (several_broken fs g ws c d.0 d.1 y (refer_all_types g ws d.0 s d.1 d.2) (refer_all_many g ws d.0 s d.1 d.2) a) [
            | inl x ↦ elim x [ inl k ↦ its_called k | inr k ↦ its_inputs k.1 k.2 ]
            | inr x ↦ its_outputs x
          ]
          | inr a ↦ absurd (let here = a.3 in cc)
        ]
      ]
  command_broken fs g (tree.calls p c) s y low is =
      elim (bind_refused (call_alone fs g c s) (λ u. got g) y is) [
        | inl a ↦ elim (alone_broken fs g c s y a) [ inl x ↦ called_alone x | inr x ↦ inputs_alone x.1 x.2 ]
        | inr a ↦ absurd (let here = a.3 in cc)
      ]
  command_broken fs g (choice e b) s y low is =
      elim (bind_refused (expected fs g e Boolean s) (λ u r. enclosed fs (inside g) b r >>= λ u. got g) y is) [
        | inl a ↦ its_condition (expected_broken fs g e Boolean s y a)
        | inr c ↦ elim (bind_refused (enclosed fs (inside g) b c.1) (λ u. got g) y c.3) [
          | inl a ↦ its_branch (subst (λ (x : Scope). InBody fs (Breaking fs y) x b) (scope_inside g low) (enclosed_broken fs (inside g) b c.1 y (inside_more g low) a))
          | inr a ↦ absurd (let here = a.3 in cc)
        ]
      ]
  command_broken fs g (choice_else e b d) s y low is =
      elim (bind_refused (expected fs g e Boolean s) (λ u r. enclosed fs (inside g) b r >>= λ u r. enclosed fs (inside g) d r >>= λ u. got g) y is) [
        | inl a ↦ either_condition (expected_broken fs g e Boolean s y a)
        | inr c ↦ elim (bind_refused (enclosed fs (inside g) b c.1) (λ u r. enclosed fs (inside g) d r >>= λ u. got g) y c.3) [
          | inl a ↦ either_branch (subst (λ (x : Scope). InBody fs (Breaking fs y) x b) (scope_inside g low) (enclosed_broken fs (inside g) b c.1 y (inside_more g low) a))
          | inr k ↦ elim (bind_refused (enclosed fs (inside g) d k.1) (λ u. got g) y k.3) [
            | inl a ↦ other_branch (subst (λ (x : Scope). InBody fs (Breaking fs y) x d) (scope_inside g low) (enclosed_broken fs (inside g) d k.1 y (inside_more g low) a))
            | inr a ↦ absurd (let here = a.3 in cc)
          ]
        ]
      ]
  command_broken fs g (loop v k o b) s y low is =
      elim (bind_refused (fresh_variables g v k s) (λ u r. source fs g o r >>= λ a r. enclosed fs (loop_scope g v k a) b r >>= λ u. got g) y is) [
        | inl a ↦ variables_broken fs g v k o b s y low a
        | inr c ↦ elim (bind_refused (source fs g o c.1) (λ a r. enclosed fs (loop_scope g v k a) b r >>= λ u. got g) y c.3) [
          | inl a ↦ its_source (source_broken fs g o c.1 y a)
          | inr d ↦ elim (bind_refused (enclosed fs (loop_scope g v k d.0) b d.1) (λ u. got g) y d.3) [
            | inl a ↦ its_loop d.0.value d.0.key (source_values fs g o d.0 c.1 d.1 d.2)
                (subst (λ (x : Scope). InBody fs (Breaking fs y) x b) (loop_scope_is g v k d.0 low) (enclosed_broken fs (loop_scope g v k d.0) b d.1 y (loop_inside g v k d.0 low) a))
            | inr a ↦ absurd (let here = a.3 in cc)
          ]
        ]
      ]
  command_broken fs g (waits ws b) s y low is =
      elim (bind_refused (refer_all g ws s) (λ τs r. enclosed fs g b r >>= λ u. got g) y is) [
        | inl a ↦ its_awaited (refer_all_broken fs g ws s y a)
        | inr c ↦ elim (bind_refused (enclosed fs g b c.1) (λ u. got g) y c.3) [
          | inl a ↦ its_waiting (enclosed_broken fs g b c.1 y low a)
          | inr a ↦ absurd (let here = a.3 in cc)
        ]
      ]

  pub enclosed_broken : (fs : List Signature) (g : Around) (b : Body) (s : List NameEntry) (y : TypeFault) → Inside g → enclosed fs g b s ≡ refused y → InBody fs (Breaking fs y) (scope_of g) b
  enclosed_broken fs g (body from ss) s y low is = in_braces (in_order_broken fs g ss s y low is)

  in_order_broken : (fs : List Signature) (g : Around) (ss : Statements) (s : List NameEntry) (y : TypeFault) → Inside g → in_order fs g ss s ≡ refused y
      → InStatements fs (Breaking fs y) (scope_of g) ss
  in_order_broken fs g no_statements s y low is = absurd (cc)
  in_order_broken fs g (and_statement (statement nd c) ss) s y low is =
      elim (bind_refused (commanded fs g c s) (λ h. in_order fs h ss) y is) [
        | inl a ↦ first_statement (command_broken fs g c s y low a)
        | inr a ↦
            let left = command_left fs g a.0 c s a.1 low a.2 in
            later_statement (subst (λ (x : Scope). InStatements fs (Breaking fs y) x ss) left.1 (in_order_broken fs a.0 ss a.1 y left.0 a.3))
      ]
