-- The names of a numbered script's statements are settled in the order of their numbers.
use Rattle.std.proofs.Common.{◌≡◌, ℕ, ◌+◌, true, false, List, [], ◌∷◌, length, refl, sym, ap, ◌∙◌, subst, arith}
use Rattle.std.specs.Prelude.{Option, Some, None, cond, nat_eq, option_map, sum_by, nat_lt}
use Rattle.std.specs.Str.{bytes_eq}
use Rattle.std.proofs.lemmas.List.Sums.{sum_by-cons}
use Rattle.values.specs.declared.format.FormatPiece.{FormatPiece}
use Rattle.values.specs.Formats.{pieces}
use Rattle.lexer.specs.declared.token.Span.{Span}
use Rattle.types.specs.declared.fault.TypeFault.TheVariants.{Declared, Mismatch, WrongCount}
use Rattle.types.specs.declared.typed.NameEntry.{NameEntry}
use Rattle.types.specs.declared.typed.ElementTypes.{ElementTypes}
use Rattle.types.specs.declared.typed.NameMeaning.TheVariants.{Called}
use Rattle.types.specs.declared.typed.Binding.{Binding}
use Rattle.types.specs.declared.typed.Binding.TheVariants.{Input, Output}
use Rattle.types.specs.declared.typed.Callee.TheVariants.{BuiltIn}
use Rattle.types.specs.declared.typed.Builtin.{Builtin}
use Rattle.types.specs.declared.typed.Builtin.TheVariants as Named
use Rattle.language.specs.declared.tree.Base.{Base}
use Rattle.language.specs.declared.tree.Base.TheVariants.{Int, Text, Boolean}
use Rattle.language.specs.declared.tree.Shape.{Shape}
use Rattle.language.specs.declared.tree.Shape.TheVariants.{Scalar, Array}
use Rattle.language.specs.Tree.{Word, Node, Declaration, Expression, expression, number, text, truth, variable, element, call, prefixed, chain, Expressions, and_expression, expressions_of, RightSide, value, list, Calling, Over, array, range, Statement, statement, Command, declare, assign, write, assign_all, calls, choice, choice_else, loop, waits, Body, body, Statements, no_statements, and_statement, Composite, import, function, single, Tree}
use Rattle.language.specs.Scopes.{Typ, one_of, declared_type, Signature, signatures}
use Rattle.language.specs.Numbered.{expression_size, expressions_size, word_size, right_size, calling_size, option_size, over_size, statement_size, command_size, body_size, statements_size, composite_size, part_size, tree_size, declaration_size, numbered_word, numbered_node, numbered_each, numbered_expression, numbered_expressions, numbered_declaration, numbered_right, numbered_calling, numbered_over, numbered_statement, numbered_command, numbered_body, numbered_statements, numbered_composite, numbered_part, numbered}
use Rattle.types.specs.Known.{Around, nowhere}
use Rattle.types.specs.Outcomes.{refused, got, ◌>>=◌}
use Rattle.types.specs.Names.{refer, fresh, added, builtin_of, called, settles, function_called, missing, found, find}
use Rattle.types.specs.Rising.{Rises, none_settled}
use Rattle.types.specs.Expressions.{has_type, elements_of, first_of, either, whole, expected, elements, arguments, only, builtin_type}
use Rattle.types.specs.Statements.{under_numbers, literal_by, right, initial, refer_all, same_types, only_target, several, format_by, conversions, print, builtin_statement, call_alone, step_of, source, fresh_key, fresh_variables, inside, declared, loop_scope, stated, commanded, enclosed, in_order}
use Rattle.types.specs.Scripts.{parameters, name_by, name_of, function_checked, parts_checked, checked}
use Rattle.types.proofs.accepted.Typing.{bind_got, has_type_got, elements_got}
use Rattle.types.proofs.visible.Sight.{fresh_got}
use Rattle.types.proofs.accepted.Stated.{numbers_got, numbers, only_got}
use Rattle.types.proofs.settled.Rising.{rises_on, rises_same, settles_rises, refer_rises, function_rises, builtin_rises, whole_rises, expected_rises, arguments_rises, elements_rises, only_rises}

-- LISTS OF EXPRESSIONS

numbered_list : (n : ℕ) (es : List Expression) → expressions_of (numbered_each numbered_expression expression_size n es) ≡ numbered_expressions n (expressions_of es)
numbered_list n [] = refl
numbered_list n (e ∷ es) = ap (and_expression (numbered_expression n e)) (numbered_list (n + expression_size e) es)

size_list : (es : List Expression) → expressions_size (expressions_of es) ≡ sum_by expression_size es
size_list [] = refl
size_list (e ∷ es) = ap (λ (k : ℕ). expression_size e + k) (size_list es) ∙ sym (sum_by-cons expression_size e es)

list_arguments : (fs : List Signature) (g : Around) (n : ℕ) (es : List Expression) (τs : List Typ) (at : Span) (s s' : List NameEntry)
    → arguments fs g (expressions_of (numbered_each numbered_expression expression_size n es)) τs at s ≡ got (tt {0}) s' → Rises n s → Rises (n + sum_by expression_size es) s'
list_arguments fs g n es τs at s s' is rises =
    let same = ap (λ (x : Expressions). arguments fs g x τs at s) (sym (numbered_list n es)) ∙ is in
    subst (λ (k : ℕ). Rises (n + k) s') (size_list es) (arguments_rises fs g n (expressions_of es) τs at s s' same rises)

list_elements : (fs : List Signature) (g : Around) (n : ℕ) (es : List Expression) (b : Option Base) (s s' : List NameEntry)
    → elements fs g (expressions_of (numbered_each numbered_expression expression_size n es)) b s ≡ got (tt {0}) s' → Rises n s → Rises (n + sum_by expression_size es) s'
list_elements fs g n es b s s' is rises =
    let same = ap (λ (x : Expressions). elements fs g x b s) (sym (numbered_list n es)) ∙ is in
    subst (λ (k : ℕ). Rises (n + k) s') (size_list es) (elements_rises fs g n (expressions_of es) b s s' same rises)

list_only : (fs : List Signature) (g : Around) (n : ℕ) (es : List Expression) (f : Builtin) (at : Span) (b : Base) (s s' : List NameEntry)
    → only fs g (expressions_of (numbered_each numbered_expression expression_size n es)) f at s ≡ got b s' → Rises n s → Rises (n + sum_by expression_size es) s'
list_only fs g n es f at b s s' is rises =
    let same = ap (λ (x : Expressions). only fs g x f at s) (sym (numbered_list n es)) ∙ is in
    subst (λ (k : ℕ). Rises (n + k) s') (size_list es) (only_rises fs g n (expressions_of es) f at b s s' same rises)

-- RIGHT SIDES

literal_rises : (fs : List Signature) (g : Around) (n : ℕ) (h : Shape) (b : Base) (es : List Expression) (nd : Node) (s s' : List NameEntry)
    → literal_by h fs g b (numbered_each numbered_expression expression_size n es) nd s ≡ got (tt {0}) s' → Rises n s → Rises (n + sum_by expression_size es) s'
literal_rises fs g n (Array κ) b es nd s s' is rises =
    let one = bind_got (elements fs g (expressions_of (numbered_each numbered_expression expression_size n es)) (Some b) s) (λ u. under_numbers κ nd.first) (tt {0}) s' is in
    rises_same (n + sum_by expression_size es) one.1 s' (numbers_got κ nd.first one.1 s' one.3).1 (list_elements fs g n es (Some b) s one.1 one.2 rises)
literal_rises fs g n Scalar b es nd s s' is rises =
    let one = bind_got (elements fs g (expressions_of (numbered_each numbered_expression expression_size n es)) None s) (λ u r. refused (Mismatch nd.first)) (tt {0}) s' is in
    absurd (cc (one.3))

right_rises : (fs : List Signature) (g : Around) (n : ℕ) (r : RightSide) (τ : Typ) (s s' : List NameEntry)
    → right fs g (numbered_right n r) τ s ≡ got (tt {0}) s' → Rises n s → Rises (n + right_size r) s'
right_rises fs g n (value e) τ s s' is rises =
    let one = bind_got (whole fs g (numbered_expression n e) s) (λ found. has_type found τ (first_of (numbered_expression n e))) (tt {0}) s' is in
    let same = has_type_got one.0 τ (first_of (numbered_expression n e)) one.1 s' one.3 in
    rises_same (n + expression_size e) one.1 s' same.1 (whole_rises fs g n e one.0 s one.1 one.2 rises)
right_rises fs g n (list nd es) τ s s' is rises =
    rises_on (n + (1 + sum_by expression_size es)) (literal_rises fs g (n + 1) τ.shape τ.base es (numbered_node n nd) s s' is (rises_on (n + 1) rises (omega arith))) (omega arith)

initial_rises : (fs : List Signature) (g : Around) (n : ℕ) (r : Option RightSide) (τ : Typ) (s s' : List NameEntry)
    → initial fs g (option_map (numbered_right n) r) τ s ≡ got (tt {0}) s' → Rises n s → Rises (n + option_size right_size r) s'
initial_rises fs g n None τ s s' is rises = rises_same (n + 0) s s' (cc) (rises_on (n + 0) rises (omega arith))
initial_rises fs g n (Some r) τ s s' is rises = right_rises fs g n r τ s s' is rises

-- CALLS

refer_all_rises : (g : Around) (n : ℕ) (ws : List Word) (τs : List Typ) (s s' : List NameEntry)
    → refer_all g (numbered_each numbered_word word_size n ws) s ≡ got τs s' → Rises n s → Rises (n + sum_by word_size ws) s'
refer_all_rises g n [] τs s s' is rises = rises_same (n + 0) s s' (cc) (rises_on (n + 0) rises (omega arith))
refer_all_rises g n (w ∷ ws) τs s s' is rises =
    let one = bind_got (refer g (numbered_word n w) s) (λ τ r. refer_all g (numbered_each numbered_word word_size (n + 1) ws) r >>= λ σs. got (τ ∷ σs)) τs s' is in
    let two = bind_got (refer_all g (numbered_each numbered_word word_size (n + 1) ws) one.1) (λ σs. got (one.0 ∷ σs)) τs s' one.3 in
    let end : two.1 ≡ s' = cc in
    let more : sum_by word_size (w ∷ ws) ≡ 1 + sum_by word_size ws = sum_by-cons word_size w ws in
    rises_same (n + sum_by word_size (w ∷ ws)) two.1 s' end (rises_on (n + sum_by word_size (w ∷ ws)) (refer_all_rises g (n + 1) ws two.0 one.1 two.1 two.2 (refer_rises g w n one.0 s one.1 one.2 rises)) (omega arith))

same_types_end : (τs σs : List Typ) (at : Span) (s s' : List NameEntry) → same_types τs σs at s ≡ got (tt {0}) s' → s ≡ s'
same_types_end [] σs at s s' is = cc
same_types_end (τ ∷ τs) [] at s s' is = absurd (cc)
same_types_end (τ ∷ τs) (σ ∷ σs) at s s' is =
    let one = bind_got (has_type τ σ at s) (λ u. same_types τs σs at) (tt {0}) s' is in
    (has_type_got τ σ at s one.1 one.2).1 ∙ same_types_end τs σs at one.1 s' one.3

abbrev args : ℕ → Calling → List Expression
args n c = numbered_each numbered_expression expression_size (n + 1 + 1) c.arguments

-- a built-in function whose name has the number behind that of its call
built_rises : (fs : List Signature) (g : Around) (n : ℕ) (c : Calling) (f : Builtin) (at : Span) (b : Base) (s s' : List NameEntry)
    → builtin_type fs g f (expressions_of (args n c)) at s ≡ got b s' → Rises (n + 1 + 1) s → Rises (n + calling_size c) s'
built_rises fs g n c f at b s s' is rises =
    rises_on (n + calling_size c)
    (builtin_rises fs g f (expressions_of (args n c)) at (n + 1 + 1) (n + 1 + 1 + sum_by expression_size c.arguments) b s s' (list_elements fs g (n + 1 + 1) c.arguments (Some Text)) (list_only fs g (n + 1 + 1) c.arguments f at) is rises)
    (omega arith)

several_rises : (fs : List Signature) (g : Around) (n : ℕ) (c : Calling) (τs : List Typ) (s s' : List NameEntry)
    → several fs g (numbered_calling n c) τs s ≡ got (tt {0}) s' → Rises n s → Rises (n + calling_size c) s'
several_rises fs g n c τs s s' is rises =
    let w = numbered_word (n + 1) c.name in
    elim (builtin_of c.name.text) as (λ o.
    either o (λ f. only_target τs c.name.span s >>= λ target r. called w (BuiltIn f) r >>= λ u r. builtin_type fs g f (expressions_of (args n c)) c.name.span r >>= λ b. has_type (one_of b) target c.name.span)
    (function_called fs w (length (args n c)) (length τs) s >>= λ f r. arguments fs g (expressions_of (args n c)) f.inputs c.name.span r >>= λ u. same_types f.outputs τs c.name.span) ≡ got (tt {0}) s'
    → Rises (n + calling_size c) s') [
      | None ↦ λ here.
          let one = bind_got (function_called fs w (length (args n c)) (length τs) s) (λ f r. arguments fs g (expressions_of (args n c)) f.inputs c.name.span r >>= λ u. same_types f.outputs τs c.name.span) (tt {0}) s' here in
          let two = bind_got (arguments fs g (expressions_of (args n c)) one.0.inputs c.name.span one.1) (λ u. same_types one.0.outputs τs c.name.span) (tt {0}) s' one.3 in
          let end = same_types_end one.0.outputs τs c.name.span two.1 s' two.3 in
          let name = function_rises fs c.name (n + 1) (length (args n c)) (length τs) one.0 s one.1 one.2 (rises_on (n + 1) rises (omega arith)) in
          let given = list_arguments fs g (n + 1 + 1) c.arguments one.0.inputs c.name.span one.1 two.1 two.2 name in
          rises_same (n + calling_size c) two.1 s' end (rises_on (n + calling_size c) given (omega arith))
      | Some f ↦ λ here.
          let one = bind_got (only_target τs c.name.span s) (λ target r. called w (BuiltIn f) r >>= λ u r. builtin_type fs g f (expressions_of (args n c)) c.name.span r >>= λ b. has_type (one_of b) target c.name.span) (tt {0}) s' here in
          let two = bind_got (builtin_type fs g f (expressions_of (args n c)) c.name.span (settles w (Called (BuiltIn f)) one.1)) (λ b. has_type (one_of b) one.0 c.name.span) (tt {0}) s' one.3 in
          let target = only_got τs c.name.span one.0 s one.1 one.2 in
          let same = has_type_got (one_of two.0) one.0 c.name.span two.1 s' two.3 in
          let name = settles_rises (n + 1) c.name (Called (BuiltIn f)) one.1 (rises_on (n + 1) (rises_same n s one.1 target.1 rises) (omega arith)) in
          rises_same (n + calling_size c) two.1 s' same.1 (built_rises fs g n c f c.name.span two.0 (settles w (Called (BuiltIn f)) one.1) two.1 two.2 name)
    ] is

format_end : (o : Option (List FormatPiece)) (at : Span) (τs : List Typ) (s s' : List NameEntry) → format_by o at s ≡ got τs s' → s ≡ s'
format_end None at τs s s' is = absurd (cc)
format_end (Some ps) at τs s s' is = cc

conversions_end : (e : Expression) (τs : List Typ) (s s' : List NameEntry) → conversions e s ≡ got τs s' → s ≡ s'
conversions_end (expression nd (text bytes)) τs s s' is = format_end (pieces false bytes) (record { from = nd.first.from; to = nd.to }) τs s s' is
conversions_end (expression nd (number z)) τs s s' is = absurd (cc)
conversions_end (expression nd (truth z)) τs s s' is = absurd (cc)
conversions_end (expression nd (variable w)) τs s s' is = absurd (cc)
conversions_end (expression nd (element w i)) τs s s' is = absurd (cc)
conversions_end (expression nd (call w es)) τs s s' is = absurd (cc)
conversions_end (expression nd (prefixed p e)) τs s s' is = absurd (cc)
conversions_end (expression nd (chain os es)) τs s s' is = absurd (cc)

print_rises : (fs : List Signature) (g : Around) (n : ℕ) (es : List Expression) (at : Span) (s s' : List NameEntry)
    → print fs g (numbered_each numbered_expression expression_size n es) at s ≡ got (tt {0}) s' → Rises n s → Rises (n + sum_by expression_size es) s'
print_rises fs g n [] at s s' is rises = absurd (cc)
print_rises fs g n (e ∷ es) at s s' is rises =
    let others = numbered_each numbered_expression expression_size (n + expression_size e) es in
    let one = bind_got (conversions (numbered_expression n e) s) (λ τs r. cond (nat_eq (length others) (length τs)) (arguments fs g (expressions_of others) τs at r) (refused (WrongCount at))) (tt {0}) s' is in
    let end = conversions_end (numbered_expression n e) one.0 s one.1 one.2 in
    let more : sum_by expression_size (e ∷ es) ≡ expression_size e + sum_by expression_size es = sum_by-cons expression_size e es in
    elim (nat_eq (length others) (length one.0)) as (λ v. cond v (arguments fs g (expressions_of others) one.0 at one.1) (refused (WrongCount at)) ≡ got (tt {0}) s' → Rises (n + sum_by expression_size (e ∷ es)) s') [
      | true ↦ λ here. rises_on (n + sum_by expression_size (e ∷ es)) (list_arguments fs g (n + expression_size e) es one.0 at one.1 s' here (rises_same (n + expression_size e) s one.1 end (rises_on (n + expression_size e) rises (omega arith)))) (omega arith)
      | false ↦ λ here. absurd (cc)
    ] one.3

builtin_statement_rises : (fs : List Signature) (g : Around) (n : ℕ) (f : Builtin) (es : List Expression) (at : Span) (s s' : List NameEntry)
    → builtin_statement f fs g (numbered_each numbered_expression expression_size n es) at s ≡ got (tt {0}) s' → Rises n s → Rises (n + sum_by expression_size es) s'
builtin_statement_rises fs g n Named.Printf es at s s' is rises = print_rises fs g n es at s s' is rises
builtin_statement_rises fs g n Named.Assert es at s s' is rises =
    let given = numbered_each numbered_expression expression_size n es in
    elim (nat_eq (length given) 2) as (λ v. cond v (arguments fs g (expressions_of given) (one_of Boolean ∷ one_of Text ∷ []) at s) (refused (WrongCount at)) ≡ got (tt {0}) s' → Rises (n + sum_by expression_size es) s') [
      | true ↦ λ here. list_arguments fs g n es (one_of Boolean ∷ one_of Text ∷ []) at s s' here rises
      | false ↦ λ here. absurd (cc)
    ] is
builtin_statement_rises fs g n Named.Strcat es at s s' is rises = absurd (cc)
builtin_statement_rises fs g n Named.FromInt es at s s' is rises = absurd (cc)
builtin_statement_rises fs g n Named.ToInt es at s s' is rises = absurd (cc)
builtin_statement_rises fs g n Named.Size es at s s' is rises = absurd (cc)

call_alone_rises : (fs : List Signature) (g : Around) (n : ℕ) (c : Calling) (s s' : List NameEntry)
    → call_alone fs g (numbered_calling n c) s ≡ got (tt {0}) s' → Rises n s → Rises (n + calling_size c) s'
call_alone_rises fs g n c s s' is rises =
    let w = numbered_word (n + 1) c.name in
    elim (builtin_of c.name.text) as (λ o.
    either o (λ f. called w (BuiltIn f) s >>= λ u. builtin_statement f fs g (args n c) c.name.span)
    (function_called fs w (length (args n c)) 0 s >>= λ f. arguments fs g (expressions_of (args n c)) f.inputs c.name.span) ≡ got (tt {0}) s'
    → Rises (n + calling_size c) s') [
      | None ↦ λ here.
          let one = bind_got (function_called fs w (length (args n c)) 0 s) (λ f. arguments fs g (expressions_of (args n c)) f.inputs c.name.span) (tt {0}) s' here in
          let name = function_rises fs c.name (n + 1) (length (args n c)) 0 one.0 s one.1 one.2 (rises_on (n + 1) rises (omega arith)) in
          rises_on (n + calling_size c) (list_arguments fs g (n + 1 + 1) c.arguments one.0.inputs c.name.span one.1 s' one.3 name) (omega arith)
      | Some f ↦ λ here.
          let name = settles_rises (n + 1) c.name (Called (BuiltIn f)) s (rises_on (n + 1) rises (omega arith)) in
          rises_on (n + calling_size c) (builtin_statement_rises fs g (n + 1 + 1) f c.arguments c.name.span (settles w (Called (BuiltIn f)) s) s' here name) (omega arith)
    ] is

-- LOOPS

step_rises : (fs : List Signature) (g : Around) (n : ℕ) (e : Option Expression) (s s' : List NameEntry)
    → step_of fs g (option_map (numbered_expression n) e) s ≡ got (tt {0}) s' → Rises n s → Rises (n + option_size expression_size e) s'
step_rises fs g n None s s' is rises = rises_same (n + 0) s s' (cc) (rises_on (n + 0) rises (omega arith))
step_rises fs g n (Some e) s s' is rises = expected_rises fs g n e Int s s' is rises

source_rises : (fs : List Signature) (g : Around) (n : ℕ) (o : Over) (a : ElementTypes) (s s' : List NameEntry)
    → source fs g (numbered_over n o) s ≡ got a s' → Rises n s → Rises (n + over_size o) s'
source_rises fs g n (array w) a s s' is rises =
    let one = bind_got (refer g (numbered_word n w) s) (λ τ. elements_of τ w.span) a s' is in
    let type = elements_got one.0 w.span one.1 s' a one.3 in
    rises_same (n + 1) one.1 s' type.3 (refer_rises g w n one.0 s one.1 one.2 rises)
source_rises fs g n (range low high step) a s s' is rises =
    let n₂ = n + expression_size low in
    let n₃ = n + expression_size low + expression_size high in
    let last = option_map (numbered_expression n₃) step in
    let one = bind_got (expected fs g (numbered_expression n low) Int s) (λ u r. expected fs g (numbered_expression n₂ high) Int r >>= λ u r. step_of fs g last r >>= λ u. got numbers) a s' is in
    let two = bind_got (expected fs g (numbered_expression n₂ high) Int one.1) (λ u r. step_of fs g last r >>= λ u. got numbers) a s' one.3 in
    let three = bind_got (step_of fs g last two.1) (λ u. got numbers) a s' two.3 in
    let end : three.1 ≡ s' = cc in
    let l = expected_rises fs g n low Int s one.1 one.2 rises in
    let h = expected_rises fs g n₂ high Int one.1 two.1 two.2 l in
    let all = step_rises fs g n₃ step two.1 three.1 three.2 h in
    rises_same (n + (expression_size low + expression_size high + option_size expression_size step)) three.1 s' end (rises_on (n + (expression_size low + expression_size high + option_size expression_size step)) all (omega arith))

key_end : (g : Around) (v : Word) (k : Option Word) (s s' : List NameEntry) → fresh_key g v k s ≡ got (tt {0}) s' → s ≡ s'
key_end g v None s s' is = cc
key_end g v (Some k) s s' is =
    let one = bind_got (fresh g k s) (λ u r. cond (bytes_eq k.text v.text) (refused (Declared k.span)) (got (tt {0}) r)) (tt {0}) s' is in
    let new = fresh_got g k s one.1 one.2 in
    elim (bytes_eq k.text v.text) as (λ q. cond q (refused (Declared k.span)) (got (tt {0}) one.1) ≡ got (tt {0}) s' → s ≡ s') [
      | true ↦ λ here. absurd (cc)
      | false ↦ λ here. let end : one.1 ≡ s' = cc in new.1 ∙ end
    ] one.3

variables_end : (g : Around) (v : Word) (k : Option Word) (s s' : List NameEntry) → fresh_variables g v k s ≡ got (tt {0}) s' → s ≡ s'
variables_end g v k s s' is =
    let one = bind_got (fresh g v s) (λ u. fresh_key g v k) (tt {0}) s' is in
    (fresh_got g v s one.1 one.2).1 ∙ key_end g v k one.1 s' one.3

-- STATEMENTS

mutual
  unfolding stated commanded enclosed in_order

  pub stated_rises : (fs : List Signature) (g h : Around) (n : ℕ) (st : Statement) (s s' : List NameEntry) → stated fs g (numbered_statement n st) s ≡ got h s' → Rises n s → Rises (n + statement_size st) s'
  stated_rises fs g h n (statement nd c) s s' is rises = rises_on (n + (1 + command_size c)) (commanded_rises fs g h (n + 1) c s s' is (rises_on (n + 1) rises (omega arith))) (omega arith)

  commanded_rises : (fs : List Signature) (g h : Around) (n : ℕ) (c : Command) (s s' : List NameEntry) → commanded fs g (numbered_command n c) s ≡ got h s' → Rises n s → Rises (n + command_size c) s'
  commanded_rises fs g h n (declare d r) s s' is rises =
      let e = numbered_declaration n d in
      let one = bind_got (fresh g e.name s) (λ u r'. initial fs (declared g e.name (declared_type e)) (option_map (numbered_right (n + 1)) r) (declared_type e) r' >>= λ u. got (declared g e.name (declared_type e))) h s' is in
      let two = bind_got (initial fs (declared g e.name (declared_type e)) (option_map (numbered_right (n + 1)) r) (declared_type e) one.1) (λ u. got (declared g e.name (declared_type e))) h s' one.3 in
      let end : two.1 ≡ s' = cc in
      let new = fresh_got g e.name s one.1 one.2 in
      let all = initial_rises fs (declared g e.name (declared_type e)) (n + 1) r (declared_type e) one.1 two.1 two.2 (rises_on (n + 1) (rises_same n s one.1 new.1 rises) (omega arith)) in
      rises_same (n + (1 + option_size right_size r)) two.1 s' end (rises_on (n + (1 + option_size right_size r)) all (omega arith))
  commanded_rises fs g h n (assign w r) s s' is rises =
      let one = bind_got (refer g (numbered_word n w) s) (λ τ r'. right fs g (numbered_right (n + 1) r) τ r' >>= λ u. got g) h s' is in
      let two = bind_got (right fs g (numbered_right (n + 1) r) one.0 one.1) (λ u. got g) h s' one.3 in
      let end : two.1 ≡ s' = cc in
      let all = right_rises fs g (n + 1) r one.0 one.1 two.1 two.2 (refer_rises g w n one.0 s one.1 one.2 rises) in
      rises_same (n + (1 + right_size r)) two.1 s' end (rises_on (n + (1 + right_size r)) all (omega arith))
  commanded_rises fs g h n (write w i e) s s' is rises =
      let one = bind_got (refer g (numbered_word n w) s >>= λ τ. elements_of τ w.span) (λ a r. expected fs g (numbered_expression (n + 1) i) a.key r >>= λ u r. expected fs g (numbered_expression (n + 1 + expression_size i) e) a.value r >>= λ u. got g) h s' is in
      let name = bind_got (refer g (numbered_word n w) s) (λ τ. elements_of τ w.span) one.0 one.1 one.2 in
      let two = bind_got (expected fs g (numbered_expression (n + 1) i) one.0.key one.1) (λ u r. expected fs g (numbered_expression (n + 1 + expression_size i) e) one.0.value r >>= λ u. got g) h s' one.3 in
      let three = bind_got (expected fs g (numbered_expression (n + 1 + expression_size i) e) one.0.value two.1) (λ u. got g) h s' two.3 in
      let end : three.1 ≡ s' = cc in
      let type = elements_got name.0 w.span name.1 one.1 one.0 name.3 in
      let refers = rises_same (n + 1) name.1 one.1 type.3 (refer_rises g w n name.0 s name.1 name.2 rises) in
      let index = expected_rises fs g (n + 1) i one.0.key one.1 two.1 two.2 refers in
      let all = expected_rises fs g (n + 1 + expression_size i) e one.0.value two.1 three.1 three.2 index in
      rises_same (n + (1 + expression_size i + expression_size e)) three.1 s' end (rises_on (n + (1 + expression_size i + expression_size e)) all (omega arith))
  commanded_rises fs g h n (assign_all ws c) s s' is rises =
      let n₂ = n + sum_by word_size ws in
      let one = bind_got (refer_all g (numbered_each numbered_word word_size n ws) s) (λ τs r. several fs g (numbered_calling n₂ c) τs r >>= λ u. got g) h s' is in
      let two = bind_got (several fs g (numbered_calling n₂ c) one.0 one.1) (λ u. got g) h s' one.3 in
      let end : two.1 ≡ s' = cc in
      let all = several_rises fs g n₂ c one.0 one.1 two.1 two.2 (refer_all_rises g n ws one.0 s one.1 one.2 rises) in
      rises_same (n + (sum_by word_size ws + calling_size c)) two.1 s' end (rises_on (n + (sum_by word_size ws + calling_size c)) all (omega arith))
  commanded_rises fs g h n (calls p c) s s' is rises =
      let one = bind_got (call_alone fs g (numbered_calling n c) s) (λ u. got g) h s' is in
      let end : one.1 ≡ s' = cc in
      rises_same (n + calling_size c) one.1 s' end (call_alone_rises fs g n c s one.1 one.2 rises)
  commanded_rises fs g h n (choice e b) s s' is rises =
      let n₂ = n + expression_size e in
      let one = bind_got (expected fs g (numbered_expression n e) Boolean s) (λ u r. enclosed fs (inside g) (numbered_body n₂ b) r >>= λ u. got g) h s' is in
      let two = bind_got (enclosed fs (inside g) (numbered_body n₂ b) one.1) (λ u. got g) h s' one.3 in
      let end : two.1 ≡ s' = cc in
      let all = enclosed_rises fs (inside g) n₂ b one.1 two.1 two.2 (expected_rises fs g n e Boolean s one.1 one.2 rises) in
      rises_same (n + (expression_size e + body_size b)) two.1 s' end (rises_on (n + (expression_size e + body_size b)) all (omega arith))
  commanded_rises fs g h n (choice_else e b d) s s' is rises =
      let n₂ = n + expression_size e in
      let n₃ = n + expression_size e + body_size b in
      let one = bind_got (expected fs g (numbered_expression n e) Boolean s) (λ u r. enclosed fs (inside g) (numbered_body n₂ b) r >>= λ u r. enclosed fs (inside g) (numbered_body n₃ d) r >>= λ u. got g) h s' is in
      let two = bind_got (enclosed fs (inside g) (numbered_body n₂ b) one.1) (λ u r. enclosed fs (inside g) (numbered_body n₃ d) r >>= λ u. got g) h s' one.3 in
      let three = bind_got (enclosed fs (inside g) (numbered_body n₃ d) two.1) (λ u. got g) h s' two.3 in
      let end : three.1 ≡ s' = cc in
      let content = enclosed_rises fs (inside g) n₂ b one.1 two.1 two.2 (expected_rises fs g n e Boolean s one.1 one.2 rises) in
      let all = enclosed_rises fs (inside g) n₃ d two.1 three.1 three.2 content in
      rises_same (n + (expression_size e + body_size b + body_size d)) three.1 s' end (rises_on (n + (expression_size e + body_size b + body_size d)) all (omega arith))
  commanded_rises fs g h n (loop v k o b) s s' is rises =
      let w = numbered_word n v in
      let key = option_map (numbered_word (n + 1)) k in
      let n₂ = n + 1 + option_size word_size k in
      let n₃ = n + 1 + option_size word_size k + over_size o in
      let one = bind_got (fresh_variables g w key s) (λ u r. source fs g (numbered_over n₂ o) r >>= λ a r. enclosed fs (loop_scope g w key a) (numbered_body n₃ b) r >>= λ u. got g) h s' is in
      let two = bind_got (source fs g (numbered_over n₂ o) one.1) (λ a r. enclosed fs (loop_scope g w key a) (numbered_body n₃ b) r >>= λ u. got g) h s' one.3 in
      let three = bind_got (enclosed fs (loop_scope g w key two.0) (numbered_body n₃ b) two.1) (λ u. got g) h s' two.3 in
      let end : three.1 ≡ s' = cc in
      let names = variables_end g w key s one.1 one.2 in
      let over = source_rises fs g n₂ o two.0 one.1 two.1 two.2 (rises_on n₂ (rises_same n s one.1 names rises) (omega arith)) in
      let all = enclosed_rises fs (loop_scope g w key two.0) n₃ b two.1 three.1 three.2 over in
      rises_same (n + (1 + option_size word_size k + over_size o + body_size b)) three.1 s' end (rises_on (n + (1 + option_size word_size k + over_size o + body_size b)) all (omega arith))
  commanded_rises fs g h n (waits ws b) s s' is rises =
      let n₂ = n + sum_by word_size ws in
      let one = bind_got (refer_all g (numbered_each numbered_word word_size n ws) s) (λ τs r. enclosed fs g (numbered_body n₂ b) r >>= λ u. got g) h s' is in
      let two = bind_got (enclosed fs g (numbered_body n₂ b) one.1) (λ u. got g) h s' one.3 in
      let end : two.1 ≡ s' = cc in
      let all = enclosed_rises fs g n₂ b one.1 two.1 two.2 (refer_all_rises g n ws one.0 s one.1 one.2 rises) in
      rises_same (n + (sum_by word_size ws + body_size b)) two.1 s' end (rises_on (n + (sum_by word_size ws + body_size b)) all (omega arith))

  pub enclosed_rises : (fs : List Signature) (g : Around) (n : ℕ) (b : Body) (s s' : List NameEntry) → enclosed fs g (numbered_body n b) s ≡ got (tt {0}) s' → Rises n s → Rises (n + body_size b) s'
  enclosed_rises fs g n (body from ss) s s' is rises = in_order_rises fs g n ss s s' is rises

  in_order_rises : (fs : List Signature) (g : Around) (n : ℕ) (ss : Statements) (s s' : List NameEntry) → in_order fs g (numbered_statements n ss) s ≡ got (tt {0}) s' → Rises n s → Rises (n + statements_size ss) s'
  in_order_rises fs g n no_statements s s' is rises = rises_same (n + 0) s s' (cc) (rises_on (n + 0) rises (omega arith))
  in_order_rises fs g n (and_statement st ss) s s' is rises =
      let n₂ = n + statement_size st in
      let one = bind_got (stated fs g (numbered_statement n st) s) (λ h. in_order fs h (numbered_statements n₂ ss)) (tt {0}) s' is in
      rises_on (n + (statement_size st + statements_size ss)) (in_order_rises fs one.0 n₂ ss one.1 s' one.3 (stated_rises fs g one.0 n st s one.1 one.2 rises)) (omega arith)

-- FUNCTIONS AND SCRIPTS

parameters_end : (made : ℕ → Binding) (g h : Around) (i : ℕ) (ds : List Declaration) (s s' : List NameEntry) → parameters made g i ds s ≡ got h s' → s ≡ s'
parameters_end made g h i [] s s' is = cc
parameters_end made g h i (d ∷ ds) s s' is =
    let one = bind_got (fresh g d.name s) (λ u. parameters made (added g d.name (made i) (declared_type d)) (i + 1) ds) h s' is in
    (fresh_got g d.name s one.1 one.2).1 ∙ parameters_end made (added g d.name (made i) (declared_type d)) h (i + 1) ds one.1 s' one.3

name_end : (o : Option Builtin) (fs : List Signature) (above : ℕ) (w : Word) (s s' : List NameEntry) → name_of o fs above w s ≡ got (tt {0}) s' → s ≡ s'
name_end (Some b) fs above w s s' is = absurd (cc)
name_end None fs above w s s' is =
    elim (find fs w.text) as (λ o. name_by o above w s ≡ got (tt {0}) s' → s ≡ s') [
      | missing ↦ λ here. cc
      | found n f ↦ λ here.
          elim (nat_lt n above) as (λ v. cond v (refused (Declared w.span)) (got (tt {0}) s) ≡ got (tt {0}) s' → s ≡ s') [
            | true ↦ λ here. absurd (cc)
            | false ↦ λ here. cc
          ] here
    ] is

composite_rises : (fs : List Signature) (above n : ℕ) (f : Composite) (s s' : List NameEntry) → function_checked fs above (numbered_composite n f) s ≡ got (tt {0}) s' → Rises n s → Rises (n + composite_size f) s'
composite_rises fs above n f s s' is rises =
    let e = numbered_composite n f in
    let n₂ = n + 1 + sum_by declaration_size f.outputs + 1 + sum_by declaration_size f.inputs in
    let one = bind_got (parameters Output nowhere 0 e.outputs s) (λ g r. name_of (builtin_of f.name.text) fs above e.name r >>= λ u r. parameters Input g 0 e.inputs r >>= λ h. enclosed fs h e.body) (tt {0}) s' is in
    let two = bind_got (name_of (builtin_of f.name.text) fs above e.name one.1) (λ u r. parameters Input one.0 0 e.inputs r >>= λ h. enclosed fs h e.body) (tt {0}) s' one.3 in
    let three = bind_got (parameters Input one.0 0 e.inputs two.1) (λ h. enclosed fs h e.body) (tt {0}) s' two.3 in
    let outs = parameters_end Output nowhere one.0 0 e.outputs s one.1 one.2 in
    let name = name_end (builtin_of f.name.text) fs above e.name one.1 two.1 two.2 in
    let ins = parameters_end Input one.0 three.0 0 e.inputs two.1 three.1 three.2 in
    rises_on (n + composite_size f) (enclosed_rises fs three.0 n₂ f.body three.1 s' three.3 (rises_on n₂ (rises_same n s three.1 (outs ∙ name ∙ ins) rises) (omega arith))) (omega arith)

parts_rises : (fs : List Signature) (above : ℕ) (g : Around) (n : ℕ) (ps : Tree) (s s' : List NameEntry) → parts_checked fs above g (numbered_each numbered_part part_size n ps) s ≡ got (tt {0}) s' → Rises n s
    → Rises (n + sum_by part_size ps) s'
parts_rises fs above g n [] s s' is rises = rises_same (n + 0) s s' (cc) (rises_on (n + 0) rises (omega arith))
parts_rises fs above g n (import sp ∷ ps) s s' is rises =
    let more : sum_by part_size (import sp ∷ ps) ≡ 0 + sum_by part_size ps = sum_by-cons part_size (import sp) ps in
    rises_on (n + sum_by part_size (import sp ∷ ps)) (parts_rises fs above g (n + 0) ps s s' is (rises_on (n + 0) rises (omega arith))) (omega arith)
parts_rises fs above g n (function f ∷ ps) s s' is rises =
    let n₂ = n + composite_size f in
    let one = bind_got (function_checked fs above (numbered_composite n f) s) (λ u. parts_checked fs (above + 1) g (numbered_each numbered_part part_size n₂ ps)) (tt {0}) s' is in
    let more : sum_by part_size (function f ∷ ps) ≡ composite_size f + sum_by part_size ps = sum_by-cons part_size (function f) ps in
    rises_on (n + sum_by part_size (function f ∷ ps)) (parts_rises fs (above + 1) g n₂ ps one.1 s' one.3 (composite_rises fs above n f s one.1 one.2 rises)) (omega arith)
parts_rises fs above g n (single st ∷ ps) s s' is rises =
    let n₂ = n + statement_size st in
    let one = bind_got (stated fs g (numbered_statement n st) s) (λ h. parts_checked fs above h (numbered_each numbered_part part_size n₂ ps)) (tt {0}) s' is in
    let more : sum_by part_size (single st ∷ ps) ≡ statement_size st + sum_by part_size ps = sum_by-cons part_size (single st) ps in
    rises_on (n + sum_by part_size (single st ∷ ps)) (parts_rises fs above one.0 n₂ ps one.1 s' one.3 (stated_rises fs g one.0 n st s one.1 one.2 rises)) (omega arith)

pub numbers_rise : (n : ℕ) (tree : Tree) (s : List NameEntry) → checked (numbered n tree) ≡ got (tt {0}) s → Rises (n + tree_size tree) s
numbers_rise n tree s is = parts_rises (signatures (numbered n tree)) 0 nowhere n tree [] s is none_settled
