-- What statements are, by what their parts are.
use Rattle.std.proofs.Common.{◌≡◌, ℕ, zero, suc, ◌-◌, ◌<◌, length, List, [], ◌∷◌, true, refl, ap, sym, ◌∙◌, arith}
use Rattle.std.specs.Prelude.{ℤ, Option, not}
use Rattle.lexer.specs.Items.{Lexeme}
use Rattle.lexer.specs.declared.token.TokenKind.TheVariants as Kind
use Rattle.language.specs.Tree.{Word, Calling, assign_all, calls, Part, function, Declaration, Expression, Over, loop, waits, Statement, Body, no_statements, and_statement, body, statements_of}
use Rattle.language.specs.Tree.{choice_of}
use Rattle.language.specs.Rules.{Place}
use Rattle.language.specs.Grammar.{first_of, node, does, or_zero}
use Rattle.syntax.specs.declared.grammar.stop.ParseStop.{ParseStop}
use Rattle.syntax.specs.Readers.{◌◂◌, refused, got, ◌>>=◌, at, at_end, the, ◌▸◌, made, maybe, many_over}
use Rattle.syntax.specs.Reading.{read_names, read_call, read_many, read_priority, read_calling, read_name, read_test, read_source, read_stmt, read_stmts, read_block, read_else, read_if, read_foreach, read_wait, read_command, read_part, read_script, read_parameters, read_function}
use Rattle.syntax.proofs.combining.Combine.{bind_got, got_value, got_place}
use Rattle.syntax.proofs.expressions.Chains.{taken}
use Rattle.syntax.proofs.statements.Statements.{command_same}

-- several names assigned
pub many_reads : (depth : ℕ) (s : Place) (ws : List Word) (v : Place) (t : Lexeme) (v' : Place) (c : Calling) (u : Place)
    → read_names depth s ≡ got ws v → the Kind.Assign v ≡ got t v' → (read_call depth ◂ the Kind.Semicolon) v' ≡ got c u → read_many depth s ≡ got (does s (assign_all ws c) u) u
unfolding read_many
many_reads depth s ws v t v' c u one two three = rw (one, two, three) refl

pub calling_reads : (depth : ℕ) (s : Place) (p : ℤ) (v : Place) (c : Calling) (u : Place)
    → made (λ s x u. or_zero x) (maybe (at Kind.At) read_priority) s ≡ got p v → (read_call depth ◂ the Kind.Semicolon) v ≡ got c u
    → read_calling depth s ≡ got (does s (calls p c) u) u
unfolding read_calling
calling_reads depth s p v c u one two =
    let q = bind_got (maybe (at Kind.At) read_priority s) (λ x u. got (or_zero x) u) p v one in
    let place = got_place (or_zero q.0) p q.1 v q.3 in
    let value = got_value (or_zero q.0) p q.1 v q.3 in
    let call : (read_call depth ◂ the Kind.Semicolon) q.1 ≡ got c u = ap (read_call depth ◂ the Kind.Semicolon) place ∙ two in
    rw (q.2, call) (ap (λ n. got (does s (calls n c) u) u) value)

-- an `if` behind an `else`
pub else_if : (depth : ℕ) (s : Place) (x : Statement) (u : Place) → 0 < depth → at Kind.If s ≡ true → read_command (depth - 1) s ≡ got x u
    → read_else depth s ≡ got (body (first_of s.rest).from (statements_of (x ∷ []))) u
unfolding read_else
else_if zero s x u some holds one = absurd (omega arith)
else_if (suc depth) s x u some holds one =
    let less : suc depth - 1 ≡ depth = omega arith in
    let inner : read_stmt depth s ≡ got x u = sym (command_same depth s) ∙ ap (λ d. read_command d s) (sym less) ∙ one in
    taken (at Kind.If) (made (λ s x u. body (first_of s.rest).from (and_statement x no_statements)) (read_stmt depth)) (read_block (suc depth)) s holds
    ∙ ap (λ z. z >>= λ x u. got (body (first_of s.rest).from (and_statement x no_statements)) u) inner

-- and one that is refused
pub else_if_fails : (depth : ℕ) (s : Place) → 0 < depth → at Kind.If s ≡ true → (stop : ParseStop) → read_command (depth - 1) s ≡ refused stop → read_else depth s ≡ refused stop
unfolding read_else
else_if_fails zero s some holds stop none = absurd (omega arith)
else_if_fails (suc depth) s some holds stop none =
    let less : suc depth - 1 ≡ depth = omega arith in
    let inner : read_stmt depth s ≡ refused stop = sym (command_same depth s) ∙ ap (λ d. read_command d s) (sym less) ∙ none in
    taken (at Kind.If) (made (λ s x u. body (first_of s.rest).from (and_statement x no_statements)) (read_stmt depth)) (read_block (suc depth)) s holds
    ∙ ap (λ z. z >>= λ x u. got (body (first_of s.rest).from (and_statement x no_statements)) u) inner

-- statements up to a brace
pub stmts_begin : (depth : ℕ) (s : Place) (xs : List Statement) → xs ≡ [] → read_stmts depth s ≡ many_over (λ s. not (at Kind.CloseCurly s)) (read_stmt depth) (suc (length s.rest)) xs s
unfolding read_stmts
stmts_begin depth s xs is = ap (λ ys. many_over (λ s. not (at Kind.CloseCurly s)) (read_stmt depth) (suc (length s.rest)) ys s) (sym is)

-- an `if`
pub if_reads : (depth : ℕ) (s : Place) (t : Lexeme) (v : Place) (e : Expression) (w : Place) (b : Body) (x : Place) (o : Option Body) (u : Place)
    → the Kind.If s ≡ got t v → read_test depth v ≡ got e w → read_block depth w ≡ got b x → maybe (at Kind.Else) (the Kind.Else ▸ read_else depth) x ≡ got o u
    → read_if depth s ≡ got (does s (choice_of e b o) u) u
unfolding read_if read_else
if_reads depth s t v e w b x o u one two three four = rw (one, two, three, four) refl

pub if_branch_fails : (depth : ℕ) (s : Place) (t : Lexeme) (v : Place) (e : Expression) (w : Place) (b : Body) (x : Place)
    → the Kind.If s ≡ got t v → read_test depth v ≡ got e w → read_block depth w ≡ got b x → (stop : ParseStop) → maybe (at Kind.Else) (the Kind.Else ▸ read_else depth) x ≡ refused stop
    → read_if depth s ≡ refused stop
unfolding read_if read_else
if_branch_fails depth s t v e w b x one two three stop four = rw (one, two, three, four) refl

pub foreach_reads : (depth : ℕ) (s : Place) (t : Lexeme) (v : Place) (n : Word) (v' : Place) (k : Option Word) (w : Place) (i : Lexeme) (w' : Place) (o : Over) (x : Place) (b : Body) (u : Place)
    → the Kind.Foreach s ≡ got t v → read_name v ≡ got n v' → maybe (at Kind.Comma) (the Kind.Comma ▸ read_name) v' ≡ got k w → the Kind.In w ≡ got i w' → read_source depth w' ≡ got o x
    → read_block depth x ≡ got b u → read_foreach depth s ≡ got (does s (loop n k o b) u) u
unfolding read_foreach
foreach_reads depth s t v n v' k w i w' o x b u one two three four five six = rw (one, two, three, four, five, six) refl

pub wait_reads : (depth : ℕ) (s : Place) (t : Lexeme) (v : Place) (ws : List Word) (w : Place) (b : Body) (u : Place)
    → the Kind.Wait s ≡ got t v → read_names depth v ≡ got ws w → read_block depth w ≡ got b u → read_wait depth s ≡ got (does s (waits ws b) u) u
unfolding read_wait
wait_reads depth s t v ws w b u one two three = rw (one, two, three) refl

-- a whole text
pub script_begin : (depth : ℕ) (s : Place) (xs : List Part) → xs ≡ [] → read_script depth s ≡ many_over (λ s. not (at_end s)) (read_part depth) (suc (length s.rest)) xs s
unfolding read_script
script_begin depth s xs is = ap (λ ys. many_over (λ s. not (at_end s)) (read_part depth) (suc (length s.rest)) ys s) (sym is)

-- a function
pub function_reads : (depth : ℕ) (s : Place) (outputs : List Declaration) (v : Place) (name : Word) (v' : Place) (inputs : List Declaration) (w : Place) (b : Body) (u : Place)
    → read_parameters depth s ≡ got outputs v → read_name v ≡ got name v' → read_parameters depth v' ≡ got inputs w → read_block depth w ≡ got b u
    → read_function depth s ≡ got (function (record { node = node s u; outputs = outputs; name = name; inputs = inputs; body = b })) u
unfolding read_function
function_reads depth s outputs v name v' inputs w b u one two three four = rw (one, two, three, four) refl
