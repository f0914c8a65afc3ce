-- How far the readers of statements and scripts look, and what stands before a stop.
use Rattle.std.proofs.Common.{◌≡◌, ℕ, zero, suc, ◌<◌, length, List, [], ◌∷◌, ◌++◌, None, Bool, true, false, refl, ap, sym, ◌∙◌, subst, inl, inr, append_assoc, arith}
use Rattle.std.specs.Prelude.{◌⊎◌, ◌||◌, not}
use Rattle.std.proofs.lemmas.List.{append-nil}
use Rattle.lexer.specs.Items.{Lexeme}
use Rattle.lexer.specs.declared.token.TokenKind.{TokenKind}
use Rattle.lexer.specs.declared.token.TokenKind.TheVariants as Kind
use Rattle.language.specs.Kinds.{same}
use Rattle.language.specs.Tree.{Statement, declare, assign, write, assign_all, calls, loop, waits, Body, body, statements_of, no_statements, and_statement, Part, import, function, single, Tree}
use Rattle.language.specs.Tree.{choice_of}
use Rattle.language.specs.Rules.{Place, behind, Rule, The, ◌⋆◌, ◌▹◌, Many, Maybe, Round, Deeper}
use Rattle.language.specs.Grammar.{first_of, node, does, or_zero, IsExpr, IsElse, a_block, an_if, IsStmtOver, a_declaration, an_assignment, a_write, many_assigned, a_call, a_foreach, a_wait, IsBlockOver, IsStmt, IsBlock, IsModule, string, IsPart, an_import, a_function, a_statement, IsScript}
use Rattle.syntax.specs.declared.grammar.stop.ParseStop.{ParseStop}
use Rattle.syntax.specs.declared.grammar.stop.ParseStop.TheVariants.{AtEnd, Unexpected, TooNested, Memory}
use Rattle.syntax.specs.Readers.{refused, got, Reader, ◌>>=◌, kind_of, kind_at, second_at, start, at_end, none_of, cond, choose, made, many_over, nested, deeper}
use Rattle.syntax.specs.Reading.{read_declaration, read_assignment, read_write, read_many, read_calling, read_stmt, read_stmts, read_block, read_else, read_if, read_foreach, read_wait, read_named_stmt, read_command, is_module, read_module, read_import, read_function, at_function, read_part, read_script}
use Rattle.syntax.proofs.combining.Combine.{tests_at, not_kind, kind_same, same_kind}
use Rattle.syntax.proofs.statements.Declarations.{names_type, tests_type}
use Rattle.syntax.proofs.statements.Statements.{tests_open, command_same}
use Rattle.syntax.proofs.scripts.Scripts.{module_named, function_is, script_complete}
use Rattle.syntax.proofs.stopping.Prefixes.{before_of, Language, Opens, Refused, Comes, Halts, At, Looks, shift, wider, alike, bind_stops, bind_refused, falls, shorter, map_at, token, Spells, spells_to, spells_both, spells_drop, spells_keep, spells_made, spells_one, spells_nil, spells_cons, token_looks, made_looks, both_looks, drop_looks, keep_looks, none_of_all, last_both_looks, last_keep_looks, choose_at, choose_second_at, other_at, never_at, maybe_looks, many_here, The_checked, checked_looks, alike_looks, wider_looks, bracket_looks, kind_end, kind_mid}
use Rattle.syntax.specs.Viable.{Viable, StopsFirst}
use Rattle.syntax.proofs.stopping.Beginnings.{Below, name_looks, test_looks, index_looks, deep_expr, expr_looks, expr_word, decl_looks, names_looks, call_looks, right_looks, priority_looks, source_looks, parameters_looks, tests_second}
use Rattle.std.proofs.lemmas.Bool.{or_from}

-- WORDS BY THEIR FIRST TOKEN

abbrev Headed : TokenKind → Language → Language
Headed k L cs = L cs × (kind_of cs ≡ k)

kind_some : (cs us : List Lexeme) → (cs ≡ [] → ⊥) → kind_of (cs ++ us) ≡ kind_of cs
kind_some [] us some = absurd (some refl)
kind_some (c ∷ cs) us some = refl

-- what is read where a token of a kind stands begins with it
headed_at : {A I : Type 0} {T : TokenKind → Bool} {r : Reader A} {q : I → Reader A} {L : Language} (k : TokenKind) (s : Place) → kind_at s ≡ k → same Kind.End k ≡ false → T k ≡ true → At true T r q L s → At true T r q (Headed k L) s
headed_at {A} {I} {T} {r} {q} {L} k s here some starts one = record {
  gives = λ a u h.
      let p = one.gives a u h in
      (p.0, p.1, p.2, (p.3, sym (kind_some p.0 u.rest (p.2 refl)) ∙ sym (ap kind_of p.1) ∙ here), p.4);
  stops = λ f h. cases f (one.stops f h);
}
  where
    more : (xs : List Lexeme) → (xs ≡ [] → ⊥) → (zs : List Lexeme) → s.rest ≡ xs ++ zs → Opens L xs → Opens (Headed k L) xs
    more xs full zs rest (us, is) = (us, (is, kind_some xs us full ∙ sym (kind_some xs zs full) ∙ sym (ap kind_of rest) ∙ here))

    not_end : s.rest ≡ [] → ⊥
    not_end none = let bad : true ≡ false = sym (same_kind Kind.End k (sym (ap kind_of none) ∙ here)) ∙ some in absurd (cc)

    not_first : (xs : List Lexeme) (t : Lexeme) (zs : List Lexeme) → s.rest ≡ xs ++ t ∷ zs → (xs ≡ [] → T t.kind ≡ false) → xs ≡ [] → ⊥
    not_first xs t zs rest fresh none =
        let kind : kind_at s ≡ t.kind = ap kind_of rest ∙ ap (λ l. kind_of (l ++ t ∷ zs)) none in
        let bad : true ≡ false = sym starts ∙ ap T (sym here ∙ kind) ∙ fresh none in
        absurd (cc)

    full : (xs : List Lexeme) (t : Lexeme) → xs ++ t ∷ [] ≡ [] → ⊥
    full [] t h = absurd (cc)
    full (x ∷ xs) t h = absurd (cc)

    cases : (f : ParseStop) → Halts T q L s f → Halts T q (Headed k L) s f
    cases AtEnd h = more s.rest not_end [] (sym (append-nil s.rest)) h
    cases (Unexpected p) (xs, t, zs, rest, span, opens, blocks, fresh) = (xs, t, zs, rest, span, more xs (not_first xs t zs rest fresh) (t ∷ zs) rest opens, blocks, fresh)
    cases (TooNested p) (xs, t, zs, rest, span, opens) = (xs, t, zs, rest, span, more (xs ++ t ∷ []) (full xs t) zs (rest ∙ sym (append_assoc xs (t ∷ []) zs)) opens)
    cases Memory h = h

-- STATEMENTS WITHOUT BLOCKS

abbrev pub Stmt_over : ℕ → Rule Statement
Stmt_over n = IsStmtOver (suc (suc n)) (IsBlockOver (IsStmt (suc n))) (IsStmt (suc n))

declaration_looks : (n : ℕ) → Looks true none_of_all (read_declaration n) read_declaration (Spells (Stmt_over n))
unfolding read_declaration
declaration_looks n =
    wider_looks (λ cs. spells_to (λ s c u h. (c, a_declaration h.0 h.1 h.2)) cs) (λ k h. h)
    (made_looks (λ s x u. does s (declare x.0 x.1) u)
    (both_looks (decl_looks n) (last_keep_looks (maybe_looks {T'' = none_of_all} (tests_at Kind.Assign) (drop_looks (token_looks Kind.Assign) (right_looks n)) (λ k is other. refl)) (token_looks Kind.Semicolon))))

assignment_looks : (n : ℕ) → Looks true (λ x. same x Kind.Name) (read_assignment n) read_assignment (Spells (Stmt_over n))
unfolding read_assignment
assignment_looks n =
    wider_looks (λ cs. spells_to (λ s c u h. (c, an_assignment h.0 h.1 h.2)) cs) (λ k h. h)
    (made_looks (λ s x u. does s (assign x.0 x.1) u) (both_looks name_looks (drop_looks (token_looks Kind.Assign) (keep_looks (right_looks n) (token_looks Kind.Semicolon)))))

write_looks : (n : ℕ) → Looks true (λ x. same x Kind.Name) (read_write n) read_write (Spells (Stmt_over n))
unfolding read_write
write_looks n =
    wider_looks (λ cs. spells_to (λ s c u h. (c, a_write h.0 h.1 h.2)) cs) (λ k h. h)
    (made_looks (λ s x u. does s (write x.0 x.1.0 x.1.1) u)
    (both_looks name_looks (both_looks (index_looks n (deep_expr n)) (drop_looks (token_looks Kind.Assign) (keep_looks (expr_looks n) (token_looks Kind.Semicolon))))))

assigned_looks : (n : ℕ) → Looks true (λ x. same x Kind.OpenRound) (read_many n) read_many (Spells (Stmt_over n))
unfolding read_many
assigned_looks n =
    wider_looks (λ cs. spells_to (λ s c u h. (c, many_assigned h.0 h.1 h.2)) cs) (λ k h. h)
    (made_looks (λ s x u. does s (assign_all x.0 x.1) u) (both_looks (names_looks n) (drop_looks (token_looks Kind.Assign) (keep_looks (call_looks n) (token_looks Kind.Semicolon)))))

calling_looks : (n : ℕ) → Looks true (λ x. same x Kind.Name) (read_calling n) read_calling (Spells (Stmt_over n))
unfolding read_calling
calling_looks n =
    wider_looks (λ cs. spells_to (λ s c u h. (c, a_call h.0 h.1 h.2)) cs) (λ k h. h)
    (made_looks (λ s x u. does s (calls (or_zero x.0) x.1) u)
    (last_both_looks (λ x. same x Kind.Name) (maybe_looks {T'' = λ k. true} (tests_at Kind.At) priority_looks (λ k is other. let bad : true ≡ false = sym is ∙ other in absurd (cc))) (keep_looks (call_looks n) (token_looks Kind.Semicolon)) (λ k h. absurd (cc)) (λ k h. h)))

-- BLOCKS AND BRANCHES

-- the kinds at which it matters that a statement begins with them
abbrev pub Opening : TokenKind → Bool
Opening x = same x Kind.OpenRound || same x Kind.If

not_opening : (T : TokenKind → Bool) (k : TokenKind) → T k ≡ true → T Kind.OpenRound ≡ false → T Kind.If ≡ false → Opening k ≡ false
not_opening T k is one two = or_from (same k Kind.OpenRound) (same k Kind.If) (not_kind T k Kind.OpenRound is one) (not_kind T k Kind.If is two)

stmts_below : (n : ℕ) → ((d : ℕ) → n ≡ suc d → Looks true Opening (read_stmt d) read_stmt (Spells (IsStmt (suc n)))) → Below false read_stmts (λ d. Many (IsStmt d)) n
unfolding read_stmts
stmts_below n deeper d is = record { here = λ s. many_here tests_open (λ w left. (deeper d is).here w) [] (λ i. []) s; some = ([], spells_nil (IsStmt (suc n))) }

block_looks : (n : ℕ) → ((d : ℕ) → n ≡ suc d → Looks true Opening (read_stmt d) read_stmt (Spells (IsStmt (suc n)))) → Looks true (λ x. same x Kind.OpenCurly) (read_block n) read_block (Spells (IsBlock (suc (suc n))))
unfolding read_block
block_looks n deeper =
    made_looks (λ s cs u. body (first_of s.rest).from (statements_of cs)) (bracket_looks {R = Many (IsStmt (suc n))} Kind.OpenCurly Kind.CloseCurly n ([], spells_nil (IsStmt (suc n))) (stmts_below n deeper))

-- `if`, where it stands, with the least that may follow
block_word : (depth : ℕ) → Spells (IsBlockOver (IsStmt depth)) (token Kind.OpenCurly ∷ token Kind.CloseCurly ∷ [])
block_word depth =
    spells_made (λ s cs u. body (first_of s.rest).from (statements_of cs)) (token Kind.OpenCurly ∷ token Kind.CloseCurly ∷ [])
    (spells_drop (token Kind.OpenCurly ∷ []) (token Kind.CloseCurly ∷ []) (spells_one Kind.OpenCurly (token Kind.OpenCurly ∷ []) (token Kind.OpenCurly, refl, refl))
    (spells_keep [] (token Kind.CloseCurly ∷ []) (spells_nil (IsStmt depth)) (spells_one Kind.CloseCurly (token Kind.CloseCurly ∷ []) (token Kind.CloseCurly, refl, refl))))

if_word : (t : Lexeme) → t.kind ≡ Kind.If → (us : List Lexeme) × Spells (IsStmt 1) (t ∷ us)
unfolding IsStmt
if_word t kind =
    let e = expr_word 0 in
    let test = (token Kind.OpenRound ∷ e.0) ++ token Kind.CloseRound ∷ [] in
    let braces = token Kind.OpenCurly ∷ token Kind.CloseCurly ∷ [] in
    let rest = test ++ (braces ++ []) in
    let round : Spells (Round (Deeper IsExpr 1)) (token Kind.OpenRound ∷ (e.0 ++ token Kind.CloseRound ∷ [])) =
    spells_drop (token Kind.OpenRound ∷ []) (e.0 ++ token Kind.CloseRound ∷ []) (spells_one Kind.OpenRound (token Kind.OpenRound ∷ []) (token Kind.OpenRound, refl, refl))
    (spells_keep e.0 (token Kind.CloseRound ∷ []) e.1 (spells_one Kind.CloseRound (token Kind.CloseRound ∷ []) (token Kind.CloseRound, refl, refl))) in
    let whole : Spells (The Kind.If ▹ (Round (Deeper IsExpr 1) ⋆ (IsBlockOver (IsStmt 0) ⋆ Maybe (The Kind.Else ▹ IsElse (IsBlockOver (IsStmt 0)) (IsStmt 0))))) (t ∷ ((token Kind.OpenRound ∷ (e.0 ++ token Kind.CloseRound ∷ [])) ++ (braces ++ []))) =
    spells_drop (t ∷ []) ((token Kind.OpenRound ∷ (e.0 ++ token Kind.CloseRound ∷ [])) ++ (braces ++ [])) (spells_one Kind.If (t ∷ []) (t, kind, refl))
    (spells_both (token Kind.OpenRound ∷ (e.0 ++ token Kind.CloseRound ∷ [])) (braces ++ []) round (spells_both braces [] (block_word 0) (record { each = λ b ws. (None, b, refl) }))) in
    ((token Kind.OpenRound ∷ (e.0 ++ token Kind.CloseRound ∷ [])) ++ (braces ++ []), spells_to (λ s x u h. (does s (choice_of x.0 x.1.0 x.1.1) u, an_if x h refl)) _ whole)

nested_here : (n : ℕ) → n ≡ zero → (q : ℕ → Reader Statement) (s : Place) → same (kind_at s) Kind.If ≡ true → At true none_of_all nested q (Headed Kind.If (Spells (IsStmt 1))) s
nested_here n zero' q s is = rest_here s.before s.rest is
  where
    rest_here : (b : ℕ) (ts : List Lexeme) → same (kind_of ts) Kind.If ≡ true → At true none_of_all nested q (Headed Kind.If (Spells (IsStmt 1))) (before_of b ts)
    rest_here b [] h = absurd (cc)
    rest_here b (t ∷ ts) h = record {
      gives = λ a u g. absurd (cc);
      stops = λ f g.
          let stop : TooNested t.span ≡ f = cc in
          let kind = kind_same t.kind Kind.If h in
          let more = if_word t kind in
          subst (Halts none_of_all q (Headed Kind.If (Spells (IsStmt 1))) (before_of b (t ∷ ts))) stop ([], t, ts, refl, refl, (more.0, (more.1, kind)));
    }

-- an `if` behind an `else`
inner_here : (n : ℕ) → ((d : ℕ) → n ≡ suc d → Looks true Opening (read_stmt d) read_stmt (Spells (IsStmt (suc n)))) → (s : Place) → same (kind_at s) Kind.If ≡ true
    → At true none_of_all (deeper read_stmt n) (deeper read_stmt) (Headed Kind.If (Spells (IsStmt (suc n)))) s
inner_here zero one s is = nested_here zero refl (deeper read_stmt) s is
inner_here (suc n) one s is =
    alike {q = read_stmt} refl others (wider (λ cs h. h) (λ h. refl) (headed_at Kind.If s (kind_same (kind_at s) Kind.If is) refl refl ((one n refl).here s)))
  where
    others : (m : ℕ) (v : Place) → Refused (deeper read_stmt m v) ⊎ ((i : ℕ) × (deeper read_stmt m v ≡ read_stmt i v))
    others zero v = inl (TooNested (first_of v.rest), refl)
    others (suc m) v = inr (m, refl)

-- what begins with a token of the kind has it first
the_first : (k : TokenKind) (b : ℕ) (ts : List Lexeme) → same Kind.End k ≡ false → kind_of ts ≡ k → (t : Lexeme) × (v : Place) × The k (before_of b ts) t v
the_first k b [] other is = let bad : true ≡ false = sym (same_kind Kind.End k is) ∙ other in absurd (cc)
the_first k b (t ∷ ts) other is = (t, behind t ts, (ts, is, refl, refl))

branch_word : {B : Rule Body} {S : Rule Statement} (cs : List Lexeme) → Headed Kind.If (Spells S) cs → Spells (IsElse B S) cs
branch_word {B} {S} cs (one, kind) = record {
  each = λ b ws.
      let p = one.each b ws in
      let t = the_first Kind.If b (cs ++ ws) refl (headed cs ws kind) in
      (body (first_of (cs ++ ws)).from (and_statement p.0 no_statements), p.1, an_if p.0 t.0 t.1 t.2 p.2 refl);
}
  where
    headed : (cs ws : List Lexeme) → kind_of cs ≡ Kind.If → kind_of (cs ++ ws) ≡ Kind.If
    headed [] ws h = absurd (cc)
    headed (c ∷ cs) ws h = h

else_looks : (n : ℕ) → ((d : ℕ) → n ≡ suc d → Looks true Opening (read_stmt d) read_stmt (Spells (IsStmt (suc n)))) → Looks true none_of_all (read_else n) read_else (Spells (IsElse (IsBlockOver (IsStmt (suc n))) (IsStmt (suc n))))
unfolding read_else
else_looks n one = record {
  here = λ s.
      choose_at (tests_at Kind.If) s (λ is. wider branch_word (λ h. h) (map_stmt s is)) (λ other. wider (λ cs. spells_to (λ s b u h. (b, a_block h)) cs) (λ h. refl) ((block_looks n one).here s));
  some =
      let word = (block_looks n one).some in
      (word.0, spells_to (λ s b u h. (b, a_block h)) word.0 word.1);
}
  where
    map_stmt : (s : Place) → same (kind_at s) Kind.If ≡ true
        → At true none_of_all (made (λ s x u. body (first_of s.rest).from (and_statement x no_statements)) (deeper read_stmt n)) (λ m. made (λ s x u. body (first_of s.rest).from (and_statement x no_statements)) (deeper read_stmt m)) (Headed Kind.If (Spells (IsStmt (suc n)))) s
    map_stmt s is = map_at (λ s x u. body (first_of s.rest).from (and_statement x no_statements)) (λ m s x u. body (first_of s.rest).from (and_statement x no_statements)) s (inner_here n one s is)

if_looks : (n : ℕ) → ((d : ℕ) → n ≡ suc d → Looks true Opening (read_stmt d) read_stmt (Spells (IsStmt (suc n)))) → Looks true (λ x. same x Kind.If) (read_if n) read_if (Spells (Stmt_over n))
unfolding read_if read_else
if_looks n one =
    wider_looks (λ cs. spells_to (λ s c u h. (c, an_if h.0 h.1 h.2)) cs) (λ k h. h)
    (made_looks (λ s x u. does s (choice_of x.0 x.1.0 x.1.1) u)
    (drop_looks (token_looks Kind.If) (both_looks (test_looks n (deep_expr n)) (both_looks (block_looks n one)
    (maybe_looks {T'' = none_of_all} (tests_at Kind.Else) (drop_looks (token_looks Kind.Else) (else_looks n one)) (λ k is other. refl))))))

foreach_looks : (n : ℕ) → ((d : ℕ) → n ≡ suc d → Looks true Opening (read_stmt d) read_stmt (Spells (IsStmt (suc n)))) → Looks true (λ x. same x Kind.Foreach) (read_foreach n) read_foreach (Spells (Stmt_over n))
unfolding read_foreach
foreach_looks n one =
    wider_looks (λ cs. spells_to (λ s c u h. (c, a_foreach h.0 h.1 h.2)) cs) (λ k h. h)
    (made_looks (λ s x u. does s (loop x.0 x.1.0 x.1.1.0 x.1.1.1) u)
    (drop_looks (token_looks Kind.Foreach) (both_looks name_looks
    (last_both_looks none_of_all (maybe_looks {T'' = none_of_all} (tests_at Kind.Comma) (drop_looks (token_looks Kind.Comma) name_looks) (λ k is other. refl))
    (drop_looks (token_looks Kind.In) (both_looks (source_looks n) (block_looks n one))) (λ k h. h) (λ k h. refl)))))

wait_looks : (n : ℕ) → ((d : ℕ) → n ≡ suc d → Looks true Opening (read_stmt d) read_stmt (Spells (IsStmt (suc n)))) → Looks true (λ x. same x Kind.Wait) (read_wait n) read_wait (Spells (Stmt_over n))
unfolding read_wait
wait_looks n one =
    wider_looks (λ cs. spells_to (λ s c u h. (c, a_wait h.0 h.1 h.2)) cs) (λ k h. h)
    (made_looks (λ s x u. does s (waits x.0 x.1) u) (drop_looks (token_looks Kind.Wait) (both_looks (names_looks n) (block_looks n one))))

-- ALL STATEMENTS

named_stmt_here : (n : ℕ) (s : Place) → same (kind_at s) Kind.Name ≡ true → At true (λ x. same x Kind.Name) (read_named_stmt n) read_named_stmt (Spells (Stmt_over n)) s
unfolding read_named_stmt
named_stmt_here n s is =
    choose_second_at (λ a b. same b Kind.Assign) (tests_second Kind.Assign) s is ((assignment_looks n).here s)
    (choose_second_at (λ a b. same b Kind.OpenSquare) (tests_second Kind.OpenSquare) s is ((write_looks n).here s) ((calling_looks n).here s))

command_looks : (n : ℕ) → ((d : ℕ) → n ≡ suc d → Looks true Opening (read_stmt d) read_stmt (Spells (IsStmt (suc n)))) → Looks true Opening (read_command n) read_command (Spells (Stmt_over n))
unfolding read_command
command_looks n one = record { here = here; some = (declaration_looks n).some }
  where
    here : (s : Place) → At true Opening (read_command n) read_command (Spells (Stmt_over n)) s
    here s =
        choose_at tests_type s (λ is. wider (λ cs h. h) (λ h. not_opening names_type (kind_at s) is refl refl) ((declaration_looks n).here s)) (λ other.
        choose_at (tests_at Kind.If) s (λ is. wider (λ cs h. h) (λ h. let bad : true ≡ false = sym is ∙ h in absurd (cc)) ((if_looks n one).here s)) (λ no_if.
        choose_at (tests_at Kind.Foreach) s (λ is. wider (λ cs h. h) (λ h. not_opening (λ k. same k Kind.Foreach) (kind_at s) is refl refl) ((foreach_looks n one).here s)) (λ other.
        choose_at (tests_at Kind.Wait) s (λ is. wider (λ cs h. h) (λ h. not_opening (λ k. same k Kind.Wait) (kind_at s) is refl refl) ((wait_looks n one).here s)) (λ other.
        choose_at (tests_at Kind.OpenRound) s (λ is. wider (λ cs h. h) (λ h. let bad : true ≡ false = sym is ∙ h in absurd (cc)) ((assigned_looks n).here s)) (λ no_round.
        choose_at (tests_at Kind.At) s (λ is. wider (λ cs h. h) (λ h. not_opening (λ k. same k Kind.At) (kind_at s) is refl refl) ((calling_looks n).here s)) (λ other.
        choose_at (tests_at Kind.Name) s (λ is. wider (λ cs h. h) (λ h. not_opening (λ k. same k Kind.Name) (kind_at s) is refl refl) (named_stmt_here n s is)) (λ other.
        never_at s (declaration_looks n).some (or_from (same (kind_at s) Kind.OpenRound) (same (kind_at s) Kind.If) no_round no_if))))))))

pub stmt_looks : (n : ℕ) → Looks true Opening (read_stmt n) read_stmt (Spells (IsStmt (suc (suc n))))
unfolding IsStmt
stmt_looks zero = alike_looks (λ s. sym (command_same zero s)) (λ m v. (m, sym (command_same m v))) (command_looks zero (λ d is. absurd (cc)))
stmt_looks (suc n) =
    alike_looks (λ s. sym (command_same (suc n) s)) (λ m v. (m, sym (command_same m v)))
    (command_looks (suc n) (λ d is. let less : n ≡ d = cc in subst (λ x. Looks true Opening (read_stmt x) read_stmt (Spells (IsStmt (suc (suc n))))) less (stmt_looks n)))

-- PARTS

abbrev io_token : Lexeme
io_token = record { kind = Kind.Name; span = record { from = 0; to = 0 }; text = 105 ∷ 111 ∷ [] }

module_looks : Looks {I = ℕ} true none_of_all read_module (λ i. read_module) (Spells IsModule)
unfolding read_module
module_looks = record {
  here = λ s.
      choose_at (tests_at Kind.String) s (λ is. wider (λ cs. spells_to (λ s t u h. (t, string h)) cs) (λ h. refl) ((token_looks Kind.String).here s))
      (λ other. wider (λ cs. spells_to {R = The_checked is_module Kind.Name} {Q = IsModule} (λ s t u h. (t, module_named s t u h.0 h.1)) cs) (λ h. h) ((checked_looks is_module Kind.Name io_token refl refl).here s));
  some = (token Kind.String ∷ [], spells_to (λ s t u h. (t, string h)) (token Kind.String ∷ []) (spells_one Kind.String (token Kind.String ∷ []) (token Kind.String, refl, refl)));
}

import_looks : (n : ℕ) → Looks {I = ℕ} true (λ x. same x Kind.Import) read_import (λ i. read_import) (Spells (IsPart (suc (suc n))))
unfolding read_import
import_looks n =
    wider_looks (λ cs. spells_to (λ s p u h. (p, an_import h.0 h.1 h.2)) cs) (λ k h. h)
    (made_looks (λ s t u. import (first_of s.rest)) (drop_looks (token_looks Kind.Import) (keep_looks module_looks (token_looks Kind.Semicolon))))

stmt_below : (n d : ℕ) → n ≡ suc d → Looks true Opening (read_stmt d) read_stmt (Spells (IsStmt (suc n)))
stmt_below n d is = wider_looks (λ cs h. subst (λ m. Spells (IsStmt (suc m)) cs) (sym is) h) (λ k h. h) (stmt_looks d)

function_looks : (n : ℕ) → Looks true (λ x. same x Kind.OpenRound) (read_function n) read_function (Spells (IsPart (suc (suc n))))
unfolding read_function
function_looks n =
    wider_looks (λ cs. spells_to (λ s p u h. (p, a_function h.0 h.1 h.2)) cs) (λ k h. h)
    (made_looks (λ s x u. function (record { node = node s u; outputs = x.0; name = x.1.0; inputs = x.1.1.0; body = x.1.1.1 }))
    (both_looks (parameters_looks n) (both_looks name_looks (both_looks (parameters_looks n) (block_looks n (stmt_below n))))))

single_looks : (n : ℕ) → Looks true Opening (made (λ s c u. single c) (read_stmt n)) (λ m. made (λ s c u. single c) (read_stmt m)) (Spells (IsPart (suc (suc n))))
single_looks n = wider_looks (λ cs. spells_to (λ s p u h. (p, a_statement h.0 h.1 h.2)) cs) (λ k h. h) (made_looks (λ s c u. single c) (stmt_looks n))

pub part_looks : (n : ℕ) → Looks true none_of_all (read_part n) read_part (Spells (IsPart (suc (suc n))))
unfolding read_part
part_looks n = record {
  here = λ s. choose_at (tests_at Kind.Import) s (λ is. wider (λ cs h. h) (λ h. refl) ((import_looks n).here s)) (λ other. by s (same (kind_at s) Kind.OpenRound) refl);
  some = (import_looks n).some;
}
  where
    closed : (s : Place) → same (kind_at s) Kind.OpenRound ≡ false → (v : Place) → kind_at v ≡ kind_at s → at_function v ≡ false
    closed s is v kind = function_is v ∙ ap (λ b. cond b (not (same (second_at v) Kind.Name)) false) (ap (λ k. same k Kind.OpenRound) kind ∙ is)

    by : (s : Place) (b : Bool) → same (kind_at s) Kind.OpenRound ≡ b
        → At true none_of_all (choose at_function (read_function n) (made (λ s c u. single c) (read_stmt n))) (λ m. choose at_function (read_function m) (made (λ s c u. single c) (read_stmt m))) (Spells (IsPart (suc (suc n)))) s
    by s true is =
        wider {T' = λ x. same x Kind.OpenRound} (λ cs h. h) (λ h. refl)
        (choose_second_at (λ a b. cond (same a Kind.OpenRound) (not (same b Kind.Name)) false) function_is s is ((function_looks n).here s)
        (wider {T' = Opening} (λ cs h. h) (λ h. let bad : true ≡ false = sym (ap (λ b. b || same (kind_at s) Kind.If) is) ∙ h in absurd (cc)) ((single_looks n).here s)))
    by s false is =
        other_at (read_function n) read_function at_function s (closed s is s refl)
        (λ cs ws us rest kind some. closed s is (before_of s.before (cs ++ ws)) (kind_end cs ws us kind ∙ sym (ap kind_of rest)))
        (λ xs t ws zs rest fresh. closed s is (before_of s.before (xs ++ t ∷ ws)) (kind_mid xs t ws zs ∙ sym (ap kind_of rest)))
        (wider {T' = Opening} (λ cs h. h) (λ h. refl) ((single_looks n).here s))

-- SCRIPTS

abbrev more_left : Place → Bool
more_left s = not (none_of s.rest)

some_mid : (cs xs : List Lexeme) (t : Lexeme) (ws : List Lexeme) → not (none_of (cs ++ (xs ++ t ∷ ws))) ≡ true
some_mid [] [] t ws = refl
some_mid [] (x ∷ xs) t ws = refl
some_mid (c ∷ cs) xs t ws = refl

-- where a part is refused, or what stands behind it, the parts are
parts_fall : (i m : ℕ) (acc : List Part) (v w : Place) → more_left v ≡ true → Comes (read_part i v) w → ((n : ℕ) (ps : List Part) → Refused (many_over more_left (read_part i) n ps w)) → Refused (many_over more_left (read_part i) m acc v)
unfolding many_over
parts_fall i zero acc v w left comes more = (AtEnd, refl)
parts_fall i (suc m) acc v w left comes more =
    let p = falls (read_part i v) w (λ a u. many_over more_left (read_part i) m (acc ++ a ∷ []) u) comes (λ a. more m (acc ++ a ∷ [])) in
    (p.0, ap (λ b. cond b (read_part i v >>= λ a u. many_over more_left (read_part i) m (acc ++ a ∷ []) u) (got acc v)) left ∙ p.1)

parts_none : (i m : ℕ) (acc : List Part) (v : Place) → more_left v ≡ true → Refused (read_part i v) → Refused (many_over more_left (read_part i) m acc v)
unfolding many_over
parts_none i zero acc v left none = (AtEnd, refl)
parts_none i (suc m) acc v left none =
    let p = bind_refused (read_part i v) (λ a u. many_over more_left (read_part i) m (acc ++ a ∷ []) u) none in
    (p.0, ap (λ b. cond b (read_part i v >>= λ a u. many_over more_left (read_part i) m (acc ++ a ∷ []) u) (got acc v)) left ∙ p.1)

parts_halt : (n m : ℕ) (acc : List Part) (s : Place) (f : ParseStop) → length s.rest < m → many_over more_left (read_part n) m acc s ≡ refused f
    → Halts none_of_all (λ (j : ℕ × (ℕ × List Part)). many_over more_left (read_part j.0) j.1.0 j.1.1) (Spells (Many (IsPart (suc (suc n))))) s f
unfolding many_over
parts_halt n zero acc s f fuel h = absurd (omega arith)
parts_halt n (suc m) acc s f fuel h = by s.rest refl (λ a v less g. parts_halt n m (acc ++ a ∷ []) v f less g)
  where
    by : (ts : List Lexeme) → s.rest ≡ ts → ((a : Part) (v : Place) → length v.rest < m → many_over more_left (read_part n) m (acc ++ a ∷ []) v ≡ refused f
        → Halts none_of_all (λ (j : ℕ × (ℕ × List Part)). many_over more_left (read_part j.0) j.1.0 j.1.1) (Spells (Many (IsPart (suc (suc n))))) v f)
        → Halts none_of_all (λ (j : ℕ × (ℕ × List Part)). many_over more_left (read_part j.0) j.1.0 j.1.1) (Spells (Many (IsPart (suc (suc n))))) s f
    by [] rest more = let bad = sym (ap (λ l. cond (not (none_of l)) (read_part n s >>= λ a u. many_over more_left (read_part n) m (acc ++ a ∷ []) u) (got acc s)) rest) ∙ h in absurd (cc)
    by (t ∷ ts) rest more =
        cases (bind_stops (read_part n s) (λ a u. many_over more_left (read_part n) m (acc ++ a ∷ []) u) f
        (sym (ap (λ l. cond (not (none_of l)) (read_part n s >>= λ a u. many_over more_left (read_part n) m (acc ++ a ∷ []) u) (got acc s)) rest) ∙ h))
      where
        cases : (read_part n s ≡ refused f) ⊎ ((a : Part) × (v : Place) × (read_part n s ≡ got a v) × (many_over more_left (read_part n) m (acc ++ a ∷ []) v ≡ refused f))
            → Halts none_of_all (λ (j : ℕ × (ℕ × List Part)). many_over more_left (read_part j.0) j.1.0 j.1.1) (Spells (Many (IsPart (suc (suc n))))) s f
        cases (inl none) =
            shift none_of_all none_of_all (λ (j : ℕ × (ℕ × List Part)). many_over more_left (read_part j.0) j.1.0 j.1.1) read_part (Spells (Many (IsPart (suc (suc n))))) (Spells (IsPart (suc (suc n)))) [] s s refl
            (λ ds (us, is). (us ++ [], subst (Spells (Many (IsPart (suc (suc n))))) (append_assoc ds us []) (spells_cons (ds ++ us) [] is (spells_nil (IsPart (suc (suc n)))))))
            (λ xs x ws kind blocks j. parts_none j.0 j.1.0 j.1.1 (before_of s.before (xs ++ x ∷ ws)) (some_mid [] xs x ws) (blocks j.0))
            (λ first h. h) f (((part_looks n).here s).stops f none)
        cases (inr (a, v, is, none)) =
            let x = ((part_looks n).here s).gives a v is in
            let short = shorter x.0 v.rest (x.2 refl) in
            let same' = ap length x.1 in
            shift none_of_all none_of_all (λ (j : ℕ × (ℕ × List Part)). many_over more_left (read_part j.0) j.1.0 j.1.1) (λ (j : ℕ × (ℕ × List Part)). many_over more_left (read_part j.0) j.1.0 j.1.1)
            (Spells (Many (IsPart (suc (suc n))))) (Spells (Many (IsPart (suc (suc n))))) x.0 s v x.1
            (λ ds (us, word). (us, subst (Spells (Many (IsPart (suc (suc n))))) (sym (append_assoc x.0 ds us)) (spells_cons x.0 (ds ++ us) x.3 word)))
            (λ xs y ws kind blocks j.
            parts_fall j.0 j.1.0 j.1.1 (before_of s.before (x.0 ++ (xs ++ y ∷ ws))) (before_of v.before (xs ++ y ∷ ws)) (some_mid x.0 xs y ws) (x.4 j.0 (xs ++ y ∷ ws) kind) (λ i ps. blocks (j.0, (i, ps))))
            (λ first h. h) f (more a v (omega arith) none)

no_more : (ts : List Lexeme) (n : ℕ) → Spells (Many (IsPart n)) ts → (tree : Tree) × IsScript n ts tree
no_more ts n word =
    let p = word.each 0 [] in
    (p.0, (before_of p.1 [], subst (λ l. Many (IsPart n) (before_of 0 l) p.0 (before_of p.1 [])) (append-nil ts) p.2, refl))

opens_viable : (ts : List Lexeme) (n : ℕ) → Opens (Spells (Many (IsPart n))) ts → Viable ts
opens_viable ts n (us, word) = let p = no_more (ts ++ us) n word in (n, us, p.0, p.1)

-- where reading stops, the text stops being one with which a script goes on
pub stops_first : (depth : ℕ) (ts : List Lexeme) (stop : ParseStop) → read_script depth (start ts) ≡ refused stop → StopsFirst ts stop
unfolding read_script at_end
stops_first depth ts stop h = by stop (parts_halt depth (suc (length ts)) [] (start ts) stop (omega arith) h)
  where
    by : (f : ParseStop) → Halts none_of_all (λ (j : ℕ × (ℕ × List Part)). many_over more_left (read_part j.0) j.1.0 j.1.1) (Spells (Many (IsPart (suc (suc depth))))) (start ts) f → StopsFirst ts f
    by AtEnd opens = opens_viable ts (suc (suc depth)) opens
    by (Unexpected p) (xs, t, zs, rest, span, opens, blocks, fresh) = (xs, t, zs, rest, span, opens_viable xs (suc (suc depth)) opens, none)
      where
        none : Viable (xs ++ t ∷ []) → ⊥
        none (d, us, tree, is) =
            let l = (xs ++ t ∷ []) ++ us in
            let p = script_complete d l tree is in
            let q = blocks (d, (suc (length l), [])) us in
            let bad = sym (subst (λ k. many_over more_left (read_part d) (suc (length l)) [] (before_of 0 k) ≡ refused q.0) (sym (append_assoc xs (t ∷ []) us)) q.1) ∙ p.1 in
            absurd (cc)
    by (TooNested p) (xs, t, zs, rest, span, opens) = (xs, t, zs, rest, span, opens_viable (xs ++ t ∷ []) (suc (suc depth)) opens)
    by Memory h = absurd h
