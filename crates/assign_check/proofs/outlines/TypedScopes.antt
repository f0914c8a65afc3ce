-- The outlines of a well typed script with numbers in reading order are scoped.
use Rattle.std.proofs.Common.{◌≡◌, ℕ, ◌+◌, ◌≤◌, List, [], ◌∷◌, ◌++◌, refl, sym, ap₂, ◌∙◌, subst, arith}
use Rattle.std.specs.Prelude.{suc, map, Option, Some, None, option_map, sum_by}
use Rattle.std.proofs.lemmas.List.{append_assoc}
use Rattle.lexer.specs.declared.token.Span.{Span}
use Rattle.language.specs.declared.tree.Base.{Base}
use Rattle.language.specs.declared.tree.Base.TheVariants.{Boolean}
use Rattle.language.specs.declared.tree.Shape.{Shape}
use Rattle.language.specs.declared.tree.Shape.TheVariants.{Scalar}
use Rattle.language.specs.Core.{Owned, local, input, output}
use Rattle.language.specs.Members.{◌∈◌, first, later}
use Rattle.language.specs.Table.{Table}
use Rattle.language.specs.Tree.{Word, Node, Declaration, expressions_of, Calling, Statement, statement, declare, assign, write, assign_all, calls, choice, choice_else, loop, waits, Body, body, Statements, no_statements, and_statement, Composite, import, function, single, Tree}
use Rattle.language.specs.Numbered.{expression_size, word_size, option_size, over_size, statement_size, body_size, statements_size, composite_size, part_size, declaration_size, numbered_word, numbered_node, numbered_each, numbered_expression, numbered_declaration, numbered_right, numbered_calling, numbered_over, numbered_statement, numbered_body, numbered_statements, numbered_composite, numbered}
use Rattle.language.specs.Kinds.{base_of_keys}
use Rattle.language.specs.Scopes.{one_of, many_of, declared_type, Visible, Scope, deeper, own, Signature, signatures}
use Rattle.language.specs.Typing as rules
use Rattle.language.specs.Typing.{Declares, LoopScope, StatementTyped, StatementsTyped, BodyTyped, Parameters, FunctionTyped, PartsTyped, WellTyped}
use Rattle.assign_check.specs.Outline as outline
use Rattle.assign_check.specs.Outline.{Kind, named, written, read, Use, Role, result, given, Declared, Outline, nothing, followed, Step, declares, uses, splits, repeats, encloses, outlined, use_of, read_in, read_all, read_right, read_over, read_names, read_calling, declared_as, declaration_steps, loop_variable, key_variable, steps_of, command_steps, body_steps, all_steps, parameters, function_steps, script_steps, function_outlines, outlines}
use Rattle.assign_check.proofs.like.Like.{result_is_not_given, own_is_not_result}
use Rattle.assign_check.proofs.outlines.Scoped.{Seen, Sees, seen, Scoped, scoped_end, scoped_declaration, scoped_use, scoped_split, scoped_loop, scoped_wait, IsLocal, ScopedBody, behind_parameters, a_parameter, IsScoped}
use Rattle.assign_check.proofs.clauses.Claims.{AllScoped}
use Rattle.assign_check.proofs.uses.Seeing.{Knows, knows_none, knows_one, knows_deeper, knows_more, Seeing, seeing_both, behind_uses, behind_uses_and, sees_named, sees_written, sees_all_named, names_seen, expression_seen, arguments_seen, builtin_seen, right_seen, source_seen, call_seen}

-- numbers may begin earlier
pub scoped_from : (vs : List Seen) (from n to : ℕ) (o : Outline) → from ≤ n → Scoped vs n o to → Scoped vs from o to
scoped_from vs from n to o less (scoped_end more) = scoped_end (omega arith)
scoped_from vs from n to o less (scoped_declaration is no_result more rest) = scoped_declaration is no_result (omega arith) rest
scoped_from vs from n to o less (scoped_use {o = p} sees rest) = scoped_use sees (scoped_from vs from n to p less rest)
scoped_from vs from n to o less (scoped_split more one two rest) = scoped_split (omega arith) one two rest
scoped_from vs from n to o less (scoped_loop more one rest) = scoped_loop (omega arith) one rest
scoped_from vs from n to o less (scoped_wait {m = m} {p = p} one rest) = scoped_wait (scoped_from vs from n m p less one) rest

-- what comes behind a scope, whichever variables are seen there
abbrev Behind : Scope → ℕ → Outline → ℕ → Type 0
Behind h n o to = (vs : List Seen) → Knows vs h → Scoped vs n o to

-- DECLARATIONS

abbrev made : Owned → Shape → Seen
made x h = record { what = x; shape = h }

-- a variable that is declared in a scope is seen, and those of the scope too
declared_known : (vs : List Seen) (g : Scope) (v : Visible) (d : Declared) → d.what ≡ v.refers_to.what → d.shape ≡ v.type.shape → Knows vs g → Knows (seen d ∷ vs) (v ∷ g)
declared_known vs g v d what shape knows = knows_one (subst (λ s. s ∈ (seen d ∷ vs)) (ap₂ made what shape) first) (knows_more (seen d) vs g knows)

-- the variable that a statement declares
abbrev declared_by : ℕ → Declaration → Declared
declared_by n d = record { what = local n; shape = d.shape; role = outline.own; span = d.name.span }

abbrev loop_declared : ℕ → Word → Declared
loop_declared n w = record { what = local n; shape = Scalar; role = given; span = w.span }

named_is_no_read : named ≡ read → ⊥
named_is_no_read is = absurd (cc)

-- a target that was declared just before it
own_target : (vs : List Seen) (d : Declared) (sp : Span) → Sees (seen d ∷ vs) (record { kind = named; of = d.what; span = sp })
own_target vs d sp = record { variable = seen d; visible = first; is = refl; scalar = λ κ shape is. named_is_no_read is }

-- STATEMENTS

-- a statement that is nothing but uses
leaf : (vs : List Seen) (h : Scope) (n m to : ℕ) (xs ys : List Step) → Knows vs h → Seeing vs xs → n ≤ m → Behind h m (outlined ys) to → Scoped vs n (outlined (xs ++ ys)) to
leaf vs h n m to xs ys knows seeing less behind = behind_uses vs n to xs ys seeing (scoped_from vs n m to (outlined ys) less (behind vs knows))

-- a body behind the variables of its loop
loop_scoped : (t : Table) (n m : ℕ) (v : Word) (k : Option Word) (g h : Scope) (b c : Base) (ys : List Step) (to : ℕ) (vs : List Seen) → Knows vs g
    → LoopScope g (numbered_word n v) b (option_map (numbered_word (n + 1)) k) c h → n + 1 + option_size word_size k ≤ m → Behind h m (outlined ys) to
    → Scoped vs n (outlined (loop_variable (numbered_word n v) ∷ (key_variable (option_map (numbered_word (n + 1)) k) ++ ys))) to
loop_scoped t n m v None g h b c ys to vs knows (rules.value_only (rules.fresh free)) less behind =
    scoped_declaration {d = loop_declared n v} refl (λ e. result_is_not_given e refl) (omega arith)
    (scoped_from (seen (loop_declared n v) ∷ vs) (suc n) m to (outlined ys) (omega arith)
    (behind (seen (loop_declared n v) ∷ vs) (declared_known vs (deeper g) (own (numbered_word n v) (one_of b)) (loop_declared n v) refl refl (knows_deeper vs g knows))))
loop_scoped t n m v (Some k) g h b c ys to vs knows (rules.with_key (rules.fresh free) (rules.fresh other)) less behind =
    let one = declared_known vs (deeper g) (own (numbered_word n v) (one_of b)) (loop_declared n v) refl refl (knows_deeper vs g knows) in
    let two = declared_known (seen (loop_declared n v) ∷ vs) (own (numbered_word n v) (one_of b) ∷ deeper g) (own (numbered_word (n + 1) k) (one_of c)) (loop_declared (n + 1) k) refl refl one in
    scoped_declaration {d = loop_declared n v} refl (λ e. result_is_not_given e refl) (omega arith)
    (scoped_declaration {d = loop_declared (n + 1) k} refl (λ e. result_is_not_given e refl) (omega arith)
    (scoped_from (seen (loop_declared (n + 1) k) ∷ seen (loop_declared n v) ∷ vs) (suc (n + 1)) m to (outlined ys) (omega arith) (behind (seen (loop_declared (n + 1) k) ∷ seen (loop_declared n v) ∷ vs) two)))

-- names and a call, and the scope that is left
several_seen : (vs : List Seen) (fs : List Signature) (t : Table) (nd : Node) (ws : List Word) (c : Calling) (g h : Scope) → Knows vs g → StatementTyped fs t g (statement nd (assign_all ws c)) h
    → Seeing vs (map (use_of t named) ws ++ read_calling t c) × (g ≡ h)
several_seen vs fs t nd ws c g h knows (rules.several {f = f} names called fit) =
    (seeing_both vs (map (use_of t named) ws) (read_calling t c) (sees_all_named vs g t ws f.outputs knows names) (arguments_seen vs fs t g (expressions_of c.arguments) f.inputs knows fit), refl)
several_seen vs fs t nd ws c g h knows (rules.several_builtin {w = w} {f = f} {b = b} refers called fit) =
    (seeing_both vs (use_of t named w ∷ []) (read_calling t c) (sees_named vs g t w (one_of b) knows refers) (builtin_seen vs fs t g f (expressions_of c.arguments) b knows fit), refl)

mutual
  pub body_scoped : (fs : List Signature) (t : Table) (n : ℕ) (b : Body) (g : Scope) (vs : List Seen) → Knows vs g → BodyTyped fs t g (numbered_body n b)
      → Scoped vs n (outlined (body_steps t (numbered_body n b))) (n + body_size b)
  body_scoped fs t n (body from ss) g vs knows (rules.in_braces typed) = statements_scoped fs t n ss g vs knows typed

  pub statements_scoped : (fs : List Signature) (t : Table) (n : ℕ) (ss : Statements) (g : Scope) (vs : List Seen) → Knows vs g → StatementsTyped fs t g (numbered_statements n ss)
      → Scoped vs n (outlined (all_steps t (numbered_statements n ss))) (n + statements_size ss)
  statements_scoped fs t n no_statements g vs knows rules.no_more_statements = scoped_end (omega arith)
  statements_scoped fs t n (and_statement s ss) g vs knows (rules.next_statement {h = h} one rest) =
      subst (λ (k : ℕ). Scoped vs n (outlined (steps_of t (numbered_statement n s) ++ all_steps t (numbered_statements (n + statement_size s) ss))) k) (omega arith)
      (statement_scoped fs t n s g h (all_steps t (numbered_statements (n + statement_size s) ss)) (n + statement_size s + statements_size ss) vs knows one
      (λ us more. statements_scoped fs t (n + statement_size s) ss h us more rest))

  pub statement_scoped : (fs : List Signature) (t : Table) (n : ℕ) (s : Statement) (g h : Scope) (ys : List Step) (to : ℕ) (vs : List Seen) → Knows vs g
      → StatementTyped fs t g (numbered_statement n s) h → Behind h (n + statement_size s) (outlined ys) to → Scoped vs n (outlined (steps_of t (numbered_statement n s) ++ ys)) to
  statement_scoped fs t n (statement nd (declare d None)) g h ys to vs knows (rules.declaration (rules.fresh free)) behind =
      scoped_declaration {d = declared_by (n + 1) d} refl (λ e. own_is_not_result refl e) (omega arith)
      (scoped_from (seen (declared_by (n + 1) d) ∷ vs) (suc (n + 1)) (n + statement_size (statement nd (declare d None))) to (outlined ys) (omega arith)
      (behind (seen (declared_by (n + 1) d) ∷ vs) (declared_known vs g (own (numbered_word (n + 1) d.name) (declared_type d)) (declared_by (n + 1) d) refl refl knows)))
  statement_scoped fs t n (statement nd (declare d (Some r))) g h ys to vs knows (rules.definition (rules.fresh free) typed) behind =
      let here = declared_known vs g (own (numbered_word (n + 1) d.name) (declared_type d)) (declared_by (n + 1) d) refl refl knows in
      scoped_declaration {d = declared_by (n + 1) d} refl (λ e. own_is_not_result refl e) (omega arith)
      (scoped_use (own_target vs (declared_by (n + 1) d) d.name.span)
      (leaf (seen (declared_by (n + 1) d) ∷ vs) h (suc (n + 1)) (n + statement_size (statement nd (declare d (Some r)))) to (read_right t (numbered_right (n + 1 + 1) r)) ys here
      (right_seen (seen (declared_by (n + 1) d) ∷ vs) fs t h (numbered_right (n + 1 + 1) r) (declared_type d) here typed) (omega arith) behind))
  statement_scoped fs t n (statement nd (assign w r)) g h ys to vs knows (rules.assignment {τ = τ} refers typed) behind =
      leaf vs g n (n + statement_size (statement nd (assign w r))) to (use_of t named (numbered_word (n + 1) w) ∷ read_right t (numbered_right (n + 1 + 1) r)) ys knows
      (seeing_both vs (use_of t named (numbered_word (n + 1) w) ∷ []) (read_right t (numbered_right (n + 1 + 1) r)) (sees_named vs g t (numbered_word (n + 1) w) τ knows refers)
      (right_seen vs fs t g (numbered_right (n + 1 + 1) r) τ knows typed)) (omega arith) behind
  statement_scoped fs t n (statement nd (write w i e)) g h ys to vs knows (rules.element_write {κ = κ} {b = b} refers index right) behind =
      let is = numbered_expression (n + 1 + 1) i in
      let es = numbered_expression (n + 1 + 1 + expression_size i) e in
      leaf vs g n (n + statement_size (statement nd (write w i e))) to (use_of t written (numbered_word (n + 1) w) ∷ (read_in t is ++ read_in t es)) ys knows
      (seeing_both vs (use_of t written (numbered_word (n + 1) w) ∷ []) (read_in t is ++ read_in t es) (sees_written vs g t (numbered_word (n + 1) w) (many_of κ b) knows refers)
      (seeing_both vs (read_in t is) (read_in t es) (expression_seen vs fs t g is (base_of_keys κ) knows index) (expression_seen vs fs t g es b knows right))) (omega arith) behind
  statement_scoped fs t n (statement nd (assign_all ws c)) g h ys to vs knows typed behind =
      let us = numbered_each numbered_word word_size (n + 1) ws in
      let d = numbered_calling (n + 1 + sum_by word_size ws) c in
      let all = several_seen vs fs t (numbered_node n nd) us d g h knows typed in
      leaf vs g n (n + statement_size (statement nd (assign_all ws c))) to (map (use_of t named) us ++ read_calling t d) ys knows all.0 (omega arith)
      (λ rs more. behind rs (subst (Knows rs) all.1 more))
  statement_scoped fs t n (statement nd (calls p c)) g h ys to vs knows (rules.call_statement typed) behind =
      let d = numbered_calling (n + 1) c in
      leaf vs g n (n + statement_size (statement nd (calls p c))) to (read_calling t d) ys knows (call_seen vs fs t g d.name d.arguments knows typed) (omega arith) behind
  statement_scoped fs t n (statement nd (choice e b)) g h ys to vs knows (rules.if_statement condition typed) behind =
      let m = n + 1 + expression_size e in
      behind_uses_and vs n to (read_in t (numbered_expression (n + 1) e)) ys (splits n nd.first (outlined (body_steps t (numbered_body m b))) nothing)
      (expression_seen vs fs t g (numbered_expression (n + 1) e) Boolean knows condition)
      (scoped_split {m = m + body_size b} {k = m + body_size b} (omega arith)
      (scoped_from vs (suc n) m (m + body_size b) (outlined (body_steps t (numbered_body m b))) (omega arith) (body_scoped fs t m b (deeper g) vs (knows_deeper vs g knows) typed))
      (scoped_end (omega arith))
      (scoped_from vs (m + body_size b) (n + statement_size (statement nd (choice e b))) to (outlined ys) (omega arith) (behind vs knows)))
  statement_scoped fs t n (statement nd (choice_else e b d)) g h ys to vs knows (rules.if_else_statement condition typed other) behind =
      let m = n + 1 + expression_size e in
      let k = m + body_size b in
      behind_uses_and vs n to (read_in t (numbered_expression (n + 1) e)) ys (splits n nd.first (outlined (body_steps t (numbered_body m b))) (outlined (body_steps t (numbered_body k d))))
      (expression_seen vs fs t g (numbered_expression (n + 1) e) Boolean knows condition)
      (scoped_split {m = k} {k = k + body_size d} (omega arith)
      (scoped_from vs (suc n) m k (outlined (body_steps t (numbered_body m b))) (omega arith) (body_scoped fs t m b (deeper g) vs (knows_deeper vs g knows) typed))
      (body_scoped fs t k d (deeper g) vs (knows_deeper vs g knows) other)
      (scoped_from vs (k + body_size d) (n + statement_size (statement nd (choice_else e b d))) to (outlined ys) (omega arith) (behind vs knows)))
  statement_scoped fs t n (statement nd (loop v k o b)) g h ys to vs knows (rules.loop_statement {h = inner} {β = β} {γ = γ} source scope typed) behind =
      let p = n + 1 + 1 + option_size word_size k in
      let m = p + over_size o in
      let bs = body_steps t (numbered_body m b) in
      behind_uses_and vs n to (read_over t (numbered_over p o)) ys (repeats n (outlined (loop_variable (numbered_word (n + 1) v) ∷ (key_variable (option_map (numbered_word (n + 1 + 1)) k) ++ bs))))
      (source_seen vs fs t g (numbered_over p o) β γ knows source)
      (scoped_loop {m = m + body_size b} (omega arith)
      (scoped_from vs (suc n) (n + 1) (m + body_size b) (outlined (loop_variable (numbered_word (n + 1) v) ∷ (key_variable (option_map (numbered_word (n + 1 + 1)) k) ++ bs))) (omega arith)
      (loop_scoped t (n + 1) m v k g inner β γ bs (m + body_size b) vs knows scope (omega arith) (λ us more. body_scoped fs t m b inner us more typed)))
      (scoped_from vs (m + body_size b) (n + statement_size (statement nd (loop v k o b))) to (outlined ys) (omega arith) (behind vs knows)))
  statement_scoped fs t n (statement nd (waits ws b)) g h ys to vs knows (rules.wait_statement {τs = τs} names typed) behind =
      let us = numbered_each numbered_word word_size (n + 1) ws in
      let m = n + 1 + sum_by word_size ws in
      behind_uses_and vs n to (read_names t us) ys (encloses (outlined (body_steps t (numbered_body m b)))) (names_seen vs g t us τs knows names)
      (scoped_wait {m = m + body_size b}
      (scoped_from vs n m (m + body_size b) (outlined (body_steps t (numbered_body m b))) (omega arith) (body_scoped fs t m b g vs knows typed))
      (scoped_from vs (m + body_size b) (n + statement_size (statement nd (waits ws b))) to (outlined ys) (omega arith) (behind vs knows)))

-- SCRIPTS

-- how many numbers parts take
abbrev sizes : Tree → ℕ
sizes [] = 0
sizes (p ∷ ps) = part_size p + sizes ps

parts_scoped : (fs : List Signature) (t : Table) (n : ℕ) (u : Tree) (names : List (List ℕ)) (g : Scope) (vs : List Seen) → Knows vs g → PartsTyped fs t names g (numbered n u)
    → Scoped vs n (outlined (script_steps t (numbered n u))) (n + sizes u)
parts_scoped fs t n [] names g vs knows typed = scoped_end (omega arith)
parts_scoped fs t n (import sp ∷ u) names g vs knows (rules.an_import typed) =
    scoped_from vs n (n + 0) (n + sizes (import sp ∷ u)) _ (omega arith)
    (subst (λ (k : ℕ). Scoped vs (n + 0) (outlined (script_steps t (numbered (n + 0) u))) k) (omega arith) (parts_scoped fs t (n + 0) u names g vs knows typed))
parts_scoped fs t n (function f ∷ u) names g vs knows (rules.a_function one typed) =
    let m = n + composite_size f in
    scoped_from vs n m (n + sizes (function f ∷ u)) (outlined (script_steps t (numbered m u))) (omega arith)
    (subst (λ (k : ℕ). Scoped vs m (outlined (script_steps t (numbered m u))) k) (omega arith) (parts_scoped fs t m u (f.name.text ∷ names) g vs knows typed))
parts_scoped fs t n (single s ∷ u) names g vs knows (rules.a_statement {h = h} one typed) =
    let m = n + statement_size s in
    statement_scoped fs t n s g h (script_steps t (numbered m u)) (n + sizes (single s ∷ u)) vs knows one
    (λ us more. subst (λ (k : ℕ). Scoped us m (outlined (script_steps t (numbered m u))) k) (omega arith) (parts_scoped fs t m u names h us more typed))

-- PARAMETERS

-- no variable that is seen is a parameter of this place or of a later one
abbrev Free : (ℕ → Owned) → ℕ → List Seen → Type 0
Free owned i vs = (j : ℕ) (v : Seen) → i ≤ j → v ∈ vs → v.what ≡ owned j → ⊥

abbrev parameter_of : Role → Owned → Declaration → Declared
parameter_of r x d = record { what = x; shape = d.shape; role = r; span = d.name.span }

output_local : (i : ℕ) → ¬ IsLocal (output i)
output_local i is = is

input_local : (i : ℕ) → ¬ IsLocal (input i)
input_local i is = is

result_is_no_own : result ≡ outline.own → ⊥
result_is_no_own is = absurd (cc)

given_is_no_own : given ≡ outline.own → ⊥
given_is_no_own is = absurd (cc)

free_after : (owned : ℕ → Owned) → ((i j : ℕ) → owned i ≡ owned j → i ≡ j) → (i : ℕ) (s : Seen) (vs : List Seen) → s.what ≡ owned i → Free owned i vs → Free owned (suc i) (s ∷ vs)
free_after owned one i s vs is free j v less first same = let e = one i j (sym is ∙ same) in absurd (omega arith)
free_after owned one i s vs is free j v less (later there) same = free j v (omega arith) there same

free_of_other : (owned : ℕ → Owned) (k : ℕ) (s : Seen) (vs : List Seen) → ((j : ℕ) → s.what ≡ owned j → ⊥) → Free owned k vs → Free owned k (s ∷ vs)
free_of_other owned k s vs other free j v less first same = other j same
free_of_other owned k s vs other free j v less (later there) same = free j v less there same

output_one : (i j : ℕ) → output i ≡ output j → i ≡ j
output_one i j is = cc

input_one : (i j : ℕ) → input i ≡ input j → i ≡ j
input_one i j is = cc

output_no_input : (i j : ℕ) → output i ≡ input j → ⊥
output_no_input i j is = absurd (cc)

inputs_scoped : (i : ℕ) (ds : List Declaration) (g h : Scope) (vs : List Seen) (ys : List Step) → Knows vs g → Free input i vs → Parameters input g i ds h
    → ((us : List Seen) → Knows us h → ScopedBody us (outlined ys)) → ScopedBody vs (outlined (parameters given input i ds ++ ys))
inputs_scoped i ds g h vs ys knows free rules.no_more behind = behind vs knows
inputs_scoped i ds g h vs ys knows free (rules.one_parameter {d = d} {ds = es} new rest) behind =
    let p = parameter_of given (input i) d in
    a_parameter (input_local i) given_is_no_own (λ v there is. free i v (omega arith) there is)
    (subst (λ (k : ℕ). ScopedBody (seen p ∷ vs) (outlined (parameters given input k es ++ ys))) (omega arith)
    (inputs_scoped (suc i) es _ h (seen p ∷ vs) ys (declared_known vs g (record { text = d.name.text; refers_to = record { up = 0; what = input i }; type = declared_type d }) p refl refl knows)
    (free_after input input_one i (seen p) vs refl free) rest behind))

outputs_scoped : (i : ℕ) (ds : List Declaration) (g h : Scope) (vs : List Seen) (ys : List Step) → Knows vs g → Free output i vs → Free input 0 vs → Parameters output g i ds h
    → ((us : List Seen) → Knows us h → Free input 0 us → ScopedBody us (outlined ys)) → ScopedBody vs (outlined (parameters result output i ds ++ ys))
outputs_scoped i ds g h vs ys knows free no_input rules.no_more behind = behind vs knows no_input
outputs_scoped i ds g h vs ys knows free no_input (rules.one_parameter {d = d} {ds = es} new rest) behind =
    let p = parameter_of result (output i) d in
    a_parameter (output_local i) result_is_no_own (λ v there is. free i v (omega arith) there is)
    (subst (λ (k : ℕ). ScopedBody (seen p ∷ vs) (outlined (parameters result output k es ++ ys))) (omega arith)
    (outputs_scoped (suc i) es _ h (seen p ∷ vs) ys (declared_known vs g (record { text = d.name.text; refers_to = record { up = 0; what = output i }; type = declared_type d }) p refl refl knows)
    (free_after output output_one i (seen p) vs refl free) (free_of_other input 0 (seen p) vs (λ j is. output_no_input i j is) no_input) rest behind))

nobody_free : (owned : ℕ → Owned) → Free owned 0 []
nobody_free owned j v less there same = elim there [ ]

-- FUNCTIONS

function_scoped : (fs : List Signature) (t : Table) (n : ℕ) (f : Composite) (names : List (List ℕ)) → FunctionTyped fs t names (numbered_composite n f) → IsScoped (outlined (function_steps t (numbered_composite n f)))
function_scoped fs t n f names (rules.function_typed {g = g} {h = h} new no_builtin outs ins typed) =
    let p = n + 1 + sum_by declaration_size f.outputs + 1 in
    let m = p + sum_by declaration_size f.inputs in
    let os = numbered_each numbered_declaration declaration_size (n + 1) f.outputs in
    let is = numbered_each numbered_declaration declaration_size p f.inputs in
    let bs = body_steps t (numbered_body m f.body) in
    subst (λ (x : List Step). IsScoped (outlined x)) (sym (append_assoc (parameters result output 0 os) (parameters given input 0 is) bs))
    (outputs_scoped 0 os [] g [] (parameters given input 0 is ++ bs) knows_none (nobody_free output) (nobody_free input) outs
    (λ us more no_input. inputs_scoped 0 is g h us bs more no_input ins
    (λ vs all. behind_parameters (body_scoped fs t m f.body h vs all typed))))

functions_scoped : (fs : List Signature) (t : Table) (n : ℕ) (u : Tree) (names : List (List ℕ)) (g : Scope) → PartsTyped fs t names g (numbered n u)
    → (o : Outline) → o ∈ function_outlines t (numbered n u) → IsScoped o
functions_scoped fs t n [] names g typed o there = elim there [ ]
functions_scoped fs t n (import sp ∷ u) names g (rules.an_import typed) o there = functions_scoped fs t (n + 0) u names g typed o there
functions_scoped fs t n (function f ∷ u) names g (rules.a_function one typed) o first = function_scoped fs t n f names one
functions_scoped fs t n (function f ∷ u) names g (rules.a_function one typed) o (later there) = functions_scoped fs t (n + composite_size f) u (f.name.text ∷ names) g typed o there
functions_scoped fs t n (single s ∷ u) names g (rules.a_statement {h = h} one typed) o there = functions_scoped fs t (n + statement_size s) u names h typed o there

outline_scoped : (t : Table) (n : ℕ) (u : Tree) → WellTyped (numbered n u) t → (o : Outline) → o ∈ outlines t (numbered n u) → IsScoped o
outline_scoped t n u typed o first = behind_parameters (parts_scoped (signatures (numbered n u)) t n u [] [] [] knows_none typed)
outline_scoped t n u typed o (later there) = functions_scoped (signatures (numbered n u)) t n u [] [] typed o there

pub all_scoped : AllScoped
all_scoped n u tree t is typed o there =
    outline_scoped t n u (subst (λ (x : Tree). WellTyped x t) is typed) o (subst (λ (x : Tree). o ∈ outlines t x) is there)
