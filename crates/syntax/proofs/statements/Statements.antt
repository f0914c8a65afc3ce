-- The laws of statements and blocks.
use Rattle.std.specs.Prelude.{ℤ, not, ◌||◌}
use Rattle.std.proofs.Common.{◌≡◌, ℕ, zero, suc, List, [], ◌∷◌, Option, Some, None, Bool, true, false, refl, ap, sym, ◌∙◌, subst}
use Rattle.std.proofs.lemmas.Bool.{cond-true}
use mathlib.Core.Path.{fun_ext}
use Rattle.language.specs.Tree.{RightSide, Calling, Statement, no_statements, and_statement, declare, assign, write, assign_all, calls, loop, waits, Body, body, statements_of}
use Rattle.language.specs.Tree.{choice_of}
use Rattle.lexer.specs.Items.{Lexeme}
use Rattle.lexer.specs.declared.token.TokenKind.{TokenKind}
use Rattle.lexer.specs.declared.token.TokenKind.TheVariants as Kind
use Rattle.language.specs.Kinds.{same}
use Rattle.language.specs.Rules.{Place, behind, Rule, The, ◌⋆◌, ◌▹◌, ◌◃◌, Never, Many, Made, Maybe, Round, Square, Deeper}
use Rattle.language.specs.Grammar.{first_of, does, or_zero, IsName, IsExpr, IsDecl, AreNames, IsCall, IsRight, IsPriority, IsSource, IsElse, a_block, an_if, IsStmtOver, a_declaration, an_assignment, a_write, many_assigned, a_call, a_foreach, a_wait, IsBlockOver, IsStmt, IsBlock}
use Rattle.syntax.specs.Readers.{Read, refused, got, Reader, ◌>>=◌, kind_of, kind_at, second_at, at, second, cond, the, ◌◂◌, made, stop_at, nested, tight, many, deeper}
use Rattle.syntax.specs.Reading.{at_type, read_declaration, read_assignment, read_write, read_many, read_calling, else_over, if_over, foreach_over, wait_over, stmt_over, block_over, read_stmt, read_stmts, read_block, read_else, read_if, read_foreach, read_wait, read_named_stmt, read_command}
use Rattle.syntax.proofs.combining.Combine.{Law, Any, Tests, Begins, Stops, Sound, kind_the, kind_same, same_kind, the_law, both_law, both_last_law, drop_law, keep_law, made_law, before_law, same_law, tight_law, tight_stays, nested_law, sound_as, sound_never, sound_choose, sound_test, choose_first, choose_second, begins_the, not_kind, maybe_law, many_law, tests_at, opened_deep, opened_zero}
use Rattle.syntax.proofs.expressions.Expressions.{Ends, ends_of, name_law, expr_law, second_the}
use Rattle.syntax.proofs.statements.Declarations.{names_type, tests_type, decl_law, decl_begins, names_law, index_law, test_law, call_law, right_law, priority_law, priority_begins, source_law}

-- a token of a kind that is not the end's
the_rest : (k : TokenKind) (before : ℕ) (ts : List Lexeme) → same Kind.End k ≡ false → same (kind_of ts) k ≡ true → (t : Lexeme) × (v : Place) × The k (record { before = before; rest = ts }) t v
the_rest k before [] other h = let bad = sym other ∙ h in absurd (cc)
the_rest k before (t ∷ ts) other h = (t, behind t ts, (ts, kind_same t.kind k h, refl, refl))

pub the_at : (k : TokenKind) (s : Place) → same Kind.End k ≡ false → at k s ≡ true → (t : Lexeme) × (v : Place) × The k s t v
unfolding at
the_at k s other h = the_rest k s.before s.rest other h

-- KINDS

-- no `else` follows a statement
abbrev pub After_stmt : TokenKind → Type 0
After_stmt k = same k Kind.Else ≡ false

-- the kinds that begin a statement without a type
abbrev pub opens_stmt : TokenKind → Bool
opens_stmt Kind.If = true
opens_stmt Kind.Foreach = true
opens_stmt Kind.Wait = true
opens_stmt Kind.OpenRound = true
opens_stmt Kind.At = true
opens_stmt Kind.Name = true
opens_stmt _ = false

-- the kinds that begin a statement
abbrev pub starts_stmt : TokenKind → Bool
starts_stmt k = names_type k || opens_stmt k

pub call_kinds : (depth : ℕ) (s : Place) (c : Calling) (u : Place) → IsCall depth s c u → (kind_at s ≡ Kind.Name) × (second_at s ≡ Kind.OpenRound)
call_kinds depth s c u (x, (v, (t, name, is'), (t', w, round, more)), is) = (kind_the Kind.Name s t v name, second_the Kind.Name Kind.OpenRound s t v t' w name round)

starts_call : (depth : ℕ) (p : Option ℤ) (s : Place) (c : Calling) (v w u : Place) → Maybe IsPriority s p v → IsCall depth v c w → starts_stmt (kind_at s) ≡ true
starts_call depth None s c v w u none call = ap (λ x. starts_stmt (kind_at x)) (sym none) ∙ ap starts_stmt (call_kinds depth v c w call).0
starts_call depth (Some p) s c v w u (x, (t, y, here, more), is) call = ap starts_stmt (kind_the Kind.At s t y here)

pub starts_over : (depth : ℕ) (B : Rule Body) (S : Rule Statement) → Begins (IsStmtOver depth B S) starts_stmt
starts_over depth B S s c u (a_declaration x (v, decl, more) is) = ap (λ b. b || opens_stmt (kind_at s)) (decl_begins depth s x.0 v decl)
starts_over depth B S s c u (an_assignment x (v, (t, name, is'), more) is) = ap starts_stmt (kind_the Kind.Name s t v name)
starts_over depth B S s c u (a_write x (v, (t, name, is'), more) is) = ap starts_stmt (kind_the Kind.Name s t v name)
starts_over depth B S s c u (many_assigned x (v, (t, w, here, more), others) is) = ap starts_stmt (kind_the Kind.OpenRound s t w here)
starts_over depth B S s c u (a_call x (v, priority, (t, w, call, semicolon)) is) = starts_call depth x.0 s x.1 v w u priority call
starts_over depth B S s c u (an_if x (t, v, here, more) is) = ap starts_stmt (kind_the Kind.If s t v here)
starts_over depth B S s c u (a_foreach x (t, v, here, more) is) = ap starts_stmt (kind_the Kind.Foreach s t v here)
starts_over depth B S s c u (a_wait x (t, v, here, more) is) = ap starts_stmt (kind_the Kind.Wait s t v here)

pub stmt_begins : (depth : ℕ) → Begins (IsStmt depth) starts_stmt
unfolding IsStmt
stmt_begins zero = starts_over zero Never Never
stmt_begins (suc depth) = starts_over (suc depth) (IsBlockOver (IsStmt depth)) (IsStmt depth)

-- STATEMENTS WITHOUT BLOCKS

ends_semicolon : (s : Place) (t : Lexeme) (u : Place) → The Kind.Semicolon s t u → Ends (kind_at s)
ends_semicolon s t u is = subst Ends (sym (kind_the Kind.Semicolon s t u is)) (ends_of Kind.Semicolon refl refl refl)

abbrev pub Is_declaration : ℕ → Rule Statement
Is_declaration depth = Made (λ s x u. does s (declare x.0 x.1) u) (IsDecl depth ⋆ (Maybe (The Kind.Assign ▹ IsRight depth) ◃ The Kind.Semicolon))

pub declaration_law : (depth : ℕ) → Law 1 (read_declaration depth) (Is_declaration depth) Any
unfolding read_declaration
declaration_law depth =
    made_law (λ s x u. does s (declare x.0 x.1) u)
    (both_law (decl_law depth)
    (keep_law (maybe_law (tests_at Kind.Assign) (drop_law (the_law Kind.Assign) (right_law depth) (λ s b u is after. tt)) (begins_the Kind.Assign (IsRight depth))) (the_law Kind.Semicolon)
    (λ s t u is after. (ends_semicolon s t u is, ap (λ k. same k Kind.Assign) (kind_the Kind.Semicolon s t u is))))
    (λ s b u is after. (tt, follows s b u is)))
  where
    follows : (s : Place) (b : Option RightSide) (u : Place) → (Maybe (The Kind.Assign ▹ IsRight depth) ◃ The Kind.Semicolon) s b u → same (kind_at s) Kind.OpenSquare ≡ false
    follows s None u (t, v, none, here) = ap (λ w. same (kind_at w) Kind.OpenSquare) (sym none) ∙ ap (λ k. same k Kind.OpenSquare) (kind_the Kind.Semicolon v t u here)
    follows s (Some r) u (t, v, (t', w, here, more), semicolon) = ap (λ k. same k Kind.OpenSquare) (kind_the Kind.Assign s t' w here)

abbrev pub Is_assignment : ℕ → Rule Statement
Is_assignment depth = Made (λ s x u. does s (assign x.0 x.1) u) (IsName ⋆ (The Kind.Assign ▹ (IsRight depth ◃ The Kind.Semicolon)))

pub assignment_law : (depth : ℕ) → Law 1 (read_assignment depth) (Is_assignment depth) Any
unfolding read_assignment
assignment_law depth =
    made_law (λ s x u. does s (assign x.0 x.1) u)
    (both_law name_law (drop_law (the_law Kind.Assign) (keep_law (right_law depth) (the_law Kind.Semicolon) (λ s t u is after. ends_semicolon s t u is)) (λ s b u is after. tt)) (λ s b u is after. tt))

abbrev pub Is_write : ℕ → Rule Statement
Is_write depth = Made (λ s x u. does s (write x.0 x.1.0 x.1.1) u) (IsName ⋆ (Square (Deeper IsExpr depth) ⋆ (The Kind.Assign ▹ (IsExpr depth ◃ The Kind.Semicolon))))

pub write_law : (depth : ℕ) → Law 1 (read_write depth) (Is_write depth) Any
unfolding read_write
write_law depth =
    made_law (λ s x u. does s (write x.0 x.1.0 x.1.1) u)
    (both_law name_law
    (both_law (index_law depth) (drop_law (the_law Kind.Assign) (keep_law (expr_law depth) (the_law Kind.Semicolon) (λ s t u is after. ends_semicolon s t u is)) (λ s b u is after. tt)) (λ s b u is after. tt))
    (λ s b u is after. tt))

abbrev pub Are_assigned : ℕ → Rule Statement
Are_assigned depth = Made (λ s x u. does s (assign_all x.0 x.1) u) (AreNames depth ⋆ (The Kind.Assign ▹ (IsCall depth ◃ The Kind.Semicolon)))

pub assigned_law : (depth : ℕ) → Law 1 (read_many depth) (Are_assigned depth) Any
unfolding read_many
assigned_law depth =
    made_law (λ s x u. does s (assign_all x.0 x.1) u)
    (both_law (names_law depth) (drop_law (the_law Kind.Assign) (keep_law (call_law depth) (the_law Kind.Semicolon) (λ s b u is after. tt)) (λ s b u is after. tt)) (λ s b u is after. tt))

abbrev pub Is_calling : ℕ → Rule Statement
Is_calling depth = Made (λ s x u. does s (calls (or_zero x.0) x.1) u) (Maybe IsPriority ⋆ (IsCall depth ◃ The Kind.Semicolon))

pub calling_law : (depth : ℕ) → Law 1 (read_calling depth) (Is_calling depth) Any
unfolding read_calling
calling_law depth =
    made_law (λ s x u. does s (calls (or_zero x.0) x.1) u)
    (both_last_law (maybe_law (tests_at Kind.At) priority_law priority_begins) (keep_law (call_law depth) (the_law Kind.Semicolon) (λ s b u is after. tt))
    (λ s c u (t, v, call, semicolon) after. (tt, ap (λ k. same k Kind.At) (call_kinds depth s c v call).0)))

-- BRANCHES, LOOPS AND WAITS, GIVEN WHAT A BLOCK IS

pub else_over_law : {block : Reader Body} {stmt : Reader Statement} {B : Rule Body} {S : Rule Statement} → Law 1 block B Any → Begins B (λ k. same k Kind.OpenCurly) → Law 1 stmt S After_stmt → Law 1 (else_over block stmt) (IsElse B S) After_stmt
unfolding at
else_over_law {block} {stmt} {B} {S} one begins two = record { sound = sound.gives; complete = complete }
  where
    alone : Law 1 (made (λ s x u. body (first_of s.rest).from (and_statement x no_statements)) stmt) (Made (λ s x u. body (first_of s.rest).from (and_statement x no_statements)) S) After_stmt
    alone = made_law (λ s x u. body (first_of s.rest).from (and_statement x no_statements)) two

    sound : Sound (else_over block stmt) (IsElse B S)
    sound =
        sound_test (at Kind.If) (sound_as alone (λ s b u h. h)) (λ s b u holds h. let t = the_at Kind.If s refl holds in an_if h.0 t.0 t.1 t.2 h.1 h.2)
        (sound_as one (λ s b u h. a_block h))

    complete : (s : Place) (b : Body) (u : Place) → IsElse B S s b u → After_stmt (kind_at u) → else_over block stmt s ≡ got b u
    complete s b u (a_block h) after =
        choose_second (at Kind.If) (made (λ s x u. body (first_of s.rest).from (and_statement x no_statements)) stmt) block s
        (not_kind (λ k. same k Kind.OpenCurly) (kind_at s) Kind.If (begins s b u h) refl)
        ∙ one.complete s b u h tt
    complete s b u (an_if x t v here h is) after =
        choose_first (at Kind.If) (made (λ s x u. body (first_of s.rest).from (and_statement x no_statements)) stmt) block s
        (same_kind (kind_at s) Kind.If (kind_the Kind.If s t v here))
        ∙ alone.complete s b u (x, h, is) after

abbrev pub Is_if : ℕ → Rule Body → Rule Statement → Rule Statement
Is_if depth B S = Made (λ s x u. does s (choice_of x.0 x.1.0 x.1.1) u) (The Kind.If ▹ (Round (Deeper IsExpr depth) ⋆ (B ⋆ Maybe (The Kind.Else ▹ IsElse B S))))

pub if_over_law : {block : Reader Body} {stmt : Reader Statement} {B : Rule Body} {S : Rule Statement} (depth : ℕ) → Law 1 block B Any → Begins B (λ k. same k Kind.OpenCurly) → Law 1 stmt S After_stmt
    → Law 1 (if_over depth block stmt) (Is_if depth B S) After_stmt
if_over_law {block} {stmt} {B} {S} depth one begins two =
    made_law (λ s x u. does s (choice_of x.0 x.1.0 x.1.1) u)
    (drop_law (the_law Kind.If)
    (both_law (test_law depth)
    (both_law one
    (before_law (maybe_law (tests_at Kind.Else) (drop_law (the_law Kind.Else) (else_over_law one begins two) (λ s b u is after. tt)) (begins_the Kind.Else (IsElse B S))) (λ k h. (h, h)))
    (λ s b u is after. tt))
    (λ s b u is after. tt))
    (λ s b u is after. tt))

abbrev pub Is_foreach : ℕ → Rule Body → Rule Statement
Is_foreach depth B = Made (λ s x u. does s (loop x.0 x.1.0 x.1.1.0 x.1.1.1) u) (The Kind.Foreach ▹ (IsName ⋆ (Maybe (The Kind.Comma ▹ IsName) ⋆ (The Kind.In ▹ (IsSource depth ⋆ B)))))

pub foreach_over_law : {block : Reader Body} {B : Rule Body} (depth : ℕ) → Law 1 block B Any → Law 1 (foreach_over depth block) (Is_foreach depth B) Any
foreach_over_law {block} {B} depth one =
    made_law (λ s x u. does s (loop x.0 x.1.0 x.1.1.0 x.1.1.1) u)
    (drop_law (the_law Kind.Foreach)
    (both_law name_law
    (both_last_law (maybe_law (tests_at Kind.Comma) (drop_law (the_law Kind.Comma) name_law (λ s b u is after. tt)) (begins_the Kind.Comma IsName))
    (drop_law (the_law Kind.In) (both_law (source_law depth) one (λ s b u is after. tt)) (λ s b u is after. tt))
    (λ s b u (t, v, here, more) after. (tt, ap (λ k. same k Kind.Comma) (kind_the Kind.In s t v here))))
    (λ s b u is after. tt))
    (λ s b u is after. tt))

abbrev pub Is_wait : ℕ → Rule Body → Rule Statement
Is_wait depth B = Made (λ s x u. does s (waits x.0 x.1) u) (The Kind.Wait ▹ (AreNames depth ⋆ B))

pub wait_over_law : {block : Reader Body} {B : Rule Body} (depth : ℕ) → Law 1 block B Any → Law 1 (wait_over depth block) (Is_wait depth B) Any
wait_over_law {block} {B} depth one =
    made_law (λ s x u. does s (waits x.0 x.1) u) (drop_law (the_law Kind.Wait) (both_law (names_law depth) one (λ s b u is after. tt)) (λ s b u is after. tt))

-- ALL STATEMENTS

-- by the first two kinds
abbrev stmt_by : ℕ → Reader Body → Reader Statement → TokenKind → TokenKind → Place → Read Statement
stmt_by depth block stmt k l s =
    cond (names_type k) (read_declaration depth s)
    (cond (same k Kind.If) (if_over depth block stmt s)
    (cond (same k Kind.Foreach) (foreach_over depth block s)
    (cond (same k Kind.Wait) (wait_over depth block s)
    (cond (same k Kind.OpenRound) (read_many depth s)
    (cond (same k Kind.At) (read_calling depth s)
    (cond (same k Kind.Name)
    (cond (same l Kind.Assign) (read_assignment depth s)
    (cond (same l Kind.OpenSquare) (read_write depth s)
    (read_calling depth s)))
    (refused (stop_at s))))))))

stmt_is : (depth : ℕ) (block : Reader Body) (stmt : Reader Statement) (s : Place) → stmt_over depth block stmt s ≡ stmt_by depth block stmt (kind_at s) (second_at s) s
unfolding at second at_type
stmt_is depth block stmt s = refl

by_type : (depth : ℕ) (block : Reader Body) (stmt : Reader Statement) (s : Place) → names_type (kind_at s) ≡ true → stmt_over depth block stmt s ≡ read_declaration depth s
by_type depth block stmt s is = cond-true (at_type s) (read_declaration depth s) _ (tests_type.is s ∙ is)

by_kind : (depth : ℕ) (block : Reader Body) (stmt : Reader Statement) (s : Place) (k : TokenKind) → kind_at s ≡ k → stmt_over depth block stmt s ≡ stmt_by depth block stmt k (second_at s) s
by_kind depth block stmt s k is = stmt_is depth block stmt s ∙ ap (λ x. stmt_by depth block stmt x (second_at s) s) is

by_kinds : (depth : ℕ) (block : Reader Body) (stmt : Reader Statement) (s : Place) (k l : TokenKind) → kind_at s ≡ k → second_at s ≡ l → stmt_over depth block stmt s ≡ stmt_by depth block stmt k l s
by_kinds depth block stmt s k l is is' = by_kind depth block stmt s k is ∙ ap (λ x. stmt_by depth block stmt k x s) is'

-- a call, with its priority or without one
by_call : (depth : ℕ) (block : Reader Body) (stmt : Reader Statement) (s : Place) (p : Option ℤ) (c : Calling) (v w : Place) → Maybe IsPriority s p v → IsCall depth v c w → stmt_over depth block stmt s ≡ read_calling depth s
by_call depth block stmt s None c v w none call =
    let kinds = call_kinds depth v c w call in
    by_kinds depth block stmt s Kind.Name Kind.OpenRound (ap kind_at (sym none) ∙ kinds.0) (ap second_at (sym none) ∙ kinds.1)
by_call depth block stmt s (Some p) c v w (x, (t, y, here, more), is) call = by_kind depth block stmt s Kind.At (kind_the Kind.At s t y here)

pub stmt_over_law : {block : Reader Body} {stmt : Reader Statement} {B : Rule Body} {S : Rule Statement} (depth : ℕ) → Law 1 block B Any → Begins B (λ k. same k Kind.OpenCurly) → Law 1 stmt S After_stmt
    → Law 1 (stmt_over depth block stmt) (IsStmtOver depth B S) After_stmt
stmt_over_law {block} {stmt} {B} {S} depth one begins two = record { sound = sound.gives; complete = complete }
  where
    calling : Sound (read_calling depth) (IsStmtOver depth B S)
    calling = sound_as (calling_law depth) (λ s c u h. a_call h.0 h.1 h.2)

    sound : Sound (stmt_over depth block stmt) (IsStmtOver depth B S)
    sound =
        sound_choose at_type (sound_as (declaration_law depth) (λ s c u h. a_declaration h.0 h.1 h.2))
        (sound_choose (at Kind.If) (sound_as (if_over_law depth one begins two) (λ s c u h. an_if h.0 h.1 h.2))
        (sound_choose (at Kind.Foreach) (sound_as (foreach_over_law depth one) (λ s c u h. a_foreach h.0 h.1 h.2))
        (sound_choose (at Kind.Wait) (sound_as (wait_over_law depth one) (λ s c u h. a_wait h.0 h.1 h.2))
        (sound_choose (at Kind.OpenRound) (sound_as (assigned_law depth) (λ s c u h. many_assigned h.0 h.1 h.2))
        (sound_choose (at Kind.At) calling
        (sound_choose (at Kind.Name)
        (sound_choose (second Kind.Assign) (sound_as (assignment_law depth) (λ s c u h. an_assignment h.0 h.1 h.2))
        (sound_choose (second Kind.OpenSquare) (sound_as (write_law depth) (λ s c u h. a_write h.0 h.1 h.2))
        calling))
        sound_never))))))

    complete : (s : Place) (c : Statement) (u : Place) → IsStmtOver depth B S s c u → After_stmt (kind_at u) → stmt_over depth block stmt s ≡ got c u
    complete s c u (a_declaration x h is) after =
        by_type depth block stmt s (decl_begins depth s x.0 h.0 h.1) ∙ (declaration_law depth).complete s c u (x, h, is) tt
    complete s c u (an_assignment x h is) after =
        by_kinds depth block stmt s Kind.Name Kind.Assign (kind_the Kind.Name s h.1.0 h.0 h.1.1) (second_the Kind.Name Kind.Assign s h.1.0 h.0 h.2.0 h.2.1 h.1.1 h.2.2)
        ∙ (assignment_law depth).complete s c u (x, h, is) tt
    complete s c u (a_write x h is) after =
        by_kinds depth block stmt s Kind.Name Kind.OpenSquare (kind_the Kind.Name s h.1.0 h.0 h.1.1) (second_the Kind.Name Kind.OpenSquare s h.1.0 h.0 h.2.1.0 h.2.1.1 h.1.1 h.2.1.2)
        ∙ (write_law depth).complete s c u (x, h, is) tt
    complete s c u (many_assigned x h is) after =
        by_kind depth block stmt s Kind.OpenRound (kind_the Kind.OpenRound s h.1.0 h.1.1 h.1.2) ∙ (assigned_law depth).complete s c u (x, h, is) tt
    complete s c u (a_call x h is) after = by_call depth block stmt s x.0 x.1 h.0 h.2.1 h.1 h.2.2 ∙ (calling_law depth).complete s c u (x, h, is) tt
    complete s c u (an_if x h is) after = by_kind depth block stmt s Kind.If (kind_the Kind.If s h.0 h.1 h.2) ∙ (if_over_law depth one begins two).complete s c u (x, h, is) after
    complete s c u (a_foreach x h is) after = by_kind depth block stmt s Kind.Foreach (kind_the Kind.Foreach s h.0 h.1 h.2) ∙ (foreach_over_law depth one).complete s c u (x, h, is) tt
    complete s c u (a_wait x h is) after = by_kind depth block stmt s Kind.Wait (kind_the Kind.Wait s h.0 h.1 h.2) ∙ (wait_over_law depth one).complete s c u (x, h, is) tt

-- BLOCKS

pub tests_open : Tests (λ s. not (at Kind.CloseCurly s)) (λ k. not (same k Kind.CloseCurly))
unfolding at
tests_open = record { is = λ s. refl }

pub many_stmts_law : {stmt : Reader Statement} {S : Rule Statement} → Law 1 stmt S After_stmt → Begins S starts_stmt
    → Law 0 (many (λ s. not (at Kind.CloseCurly s)) stmt []) (Many S) (Stops After_stmt (λ k. not (same k Kind.CloseCurly)))
many_stmts_law one begins =
    many_law tests_open one (λ s c u is. ap not (not_kind starts_stmt (kind_at s) Kind.CloseCurly (begins s c u is) refl))
    (λ s c u is. not_kind starts_stmt (kind_at s) Kind.Else (begins s c u is) refl)

pub block_over_law : {stmt : Reader Statement} {S : Rule Statement} → Law 1 stmt S After_stmt → Begins S starts_stmt → Law 1 (block_over stmt) (IsBlockOver S) Any
block_over_law {stmt} {S} one begins =
    made_law (λ s cs u. body (first_of s.rest).from (statements_of cs))
    (drop_law (the_law Kind.OpenCurly)
    (keep_law (many_stmts_law one begins) (the_law Kind.CloseCurly)
    (λ s t u is after. subst (Stops After_stmt (λ k. not (same k Kind.CloseCurly))) (sym (kind_the Kind.CloseCurly s t u is)) (refl, refl)))
    (λ s b u is after. tt))

pub block_over_begins : (S : Rule Statement) → Begins (IsBlockOver S) (λ k. same k Kind.OpenCurly)
block_over_begins S s b u (cs, (t, v, here, more), is) = same_kind (kind_at s) Kind.OpenCurly (kind_the Kind.OpenCurly s t v here)

pub stmt_law : (depth : ℕ) → Law 1 (read_stmt depth) (IsStmt depth) After_stmt
unfolding read_stmt IsStmt
stmt_law zero = stmt_over_law zero (tight_law Kind.OpenCurly (λ s a u is. is)) (λ s b u is. absurd is) nested_law
stmt_law (suc depth) = stmt_over_law (suc depth) (block_over_law (stmt_law depth) (stmt_begins depth)) (block_over_begins (IsStmt depth)) (stmt_law depth)

pub stmts_law : (depth : ℕ) → Law 0 (read_stmts depth) (Many (IsStmt depth)) (Stops After_stmt (λ k. not (same k Kind.CloseCurly)))
unfolding read_stmts
stmts_law depth = many_stmts_law (stmt_law depth) (stmt_begins depth)

-- THE READERS BY THEIR DEPTH

pub block_zero : read_block zero ≡ tight Kind.OpenCurly
unfolding read_block
block_zero = fun_ext (λ s. ap (λ z. z >>= λ cs u. got (body (first_of s.rest).from (statements_of cs)) u) (opened_zero Kind.OpenCurly (λ d v. (read_stmts d ◂ the Kind.CloseCurly) v) s)
    ∙ tight_stays (the Kind.OpenCurly s) (λ cs u. got (body (first_of s.rest).from (statements_of cs)) u))

pub block_deep : (depth : ℕ) → read_block (suc depth) ≡ block_over (read_stmt depth)
unfolding read_block read_stmts
block_deep depth = fun_ext (λ s. ap (λ z. z >>= λ cs u. got (body (first_of s.rest).from (statements_of cs)) u) (opened_deep Kind.OpenCurly depth (λ d v. (read_stmts d ◂ the Kind.CloseCurly) v) s))

pub block_law : (depth : ℕ) → Law 1 (read_block depth) (IsBlock depth) Any
block_law zero = same_law (tight_law Kind.OpenCurly (λ s a u is. is)) (λ s. ap (λ r. r s) block_zero)
block_law (suc depth) = same_law (block_over_law (stmt_law depth) (stmt_begins depth)) (λ s. ap (λ r. r s) (block_deep depth))

pub block_begins : (depth : ℕ) → Begins (IsBlock depth) (λ k. same k Kind.OpenCurly)
block_begins zero s b u is = absurd is
block_begins (suc depth) s b u is = block_over_begins (IsStmt depth) s b u is

pub deeper_law : (depth : ℕ) → Law 1 (deeper read_stmt depth) (Deeper IsStmt depth) After_stmt
deeper_law zero = nested_law
deeper_law (suc depth) = stmt_law depth

pub else_law : (depth : ℕ) → Law 1 (read_else depth) (IsElse (IsBlock depth) (Deeper IsStmt depth)) After_stmt
unfolding read_else
else_law depth = else_over_law (block_law depth) (block_begins depth) (deeper_law depth)

pub if_law : (depth : ℕ) → Law 1 (read_if depth) (Is_if depth (IsBlock depth) (Deeper IsStmt depth)) After_stmt
unfolding read_if
if_law depth = if_over_law depth (block_law depth) (block_begins depth) (deeper_law depth)

pub foreach_law : (depth : ℕ) → Law 1 (read_foreach depth) (Is_foreach depth (IsBlock depth)) Any
unfolding read_foreach
foreach_law depth = foreach_over_law depth (block_law depth)

pub wait_law : (depth : ℕ) → Law 1 (read_wait depth) (Is_wait depth (IsBlock depth)) Any
unfolding read_wait
wait_law depth = wait_over_law depth (block_law depth)

-- the statement by what its parts read at its depth is the statement
pub command_same : (depth : ℕ) (s : Place) → read_command depth s ≡ read_stmt depth s
unfolding read_command read_if read_foreach read_wait read_named_stmt read_stmt
command_same zero s = ap (λ b. stmt_over zero b nested s) block_zero
command_same (suc depth) s = ap (λ b. stmt_over (suc depth) b (read_stmt depth) s) (block_deep depth)

pub command_law : (depth : ℕ) → Law 1 (read_command depth) (IsStmt depth) After_stmt
command_law depth = same_law (stmt_law depth) (command_same depth)
