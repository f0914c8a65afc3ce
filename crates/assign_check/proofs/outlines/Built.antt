-- The outline of statements stands for the block that the core has of them.
use Rattle.std.specs.Prelude.{◌≡◌, ℕ, List, [], ◌∷◌, ◌++◌, map, Some, None, refl}
use Rattle.std.proofs.Common.{inl, inr, sym, ap, subst}
use Rattle.language.specs.Core.{Name, here, Stmt, stmt, Action, declare, insert, when, choose, Block, stmts}
use Rattle.language.specs.Members.{◌∈◌, later}
use Rattle.language.specs.Numbers.{expression_numbers, right_numbers, calling_numbers, over_numbers, option_numbers}
use Rattle.language.specs.Resolved.{number_of, form_of, refers, outer, block_of, block_in, with_statement}
use Rattle.language.specs.Scopes.{Scope, Signature}
use Rattle.language.specs.Table.{Table}
use Rattle.language.specs.Tree as T
use Rattle.language.specs.Tree.{Statement, statement, Command, assign, write, assign_all, calls, choice, choice_else, loop, waits, Body, body, Statements, no_statements, and_statement}
use Rattle.language.specs.Typing.{StatementTyped, declaration, definition, assignment, element_write, several as several_typed, several_builtin, call_statement, if_statement, if_else_statement, loop_statement, wait_statement, StatementsTyped, no_more_statements, next_statement, BodyTyped, in_braces, value_only, with_key as key_too}
use Rattle.language.proofs.Members.{to_left, to_right}
use Rattle.language.proofs.Tested.{declared_of}
use Rattle.assign_check.specs.Outline as outline
use Rattle.assign_check.specs.Outline.{Declared, Outline, followed, Step, uses, outlined, steps_of, body_steps, all_steps}
use Rattle.assign_check.proofs.like.Like.{before, no_step, own_step, written_step, a_range, an_each, value_alone, with_key, Like, like_end, like_front, like_simple, like_block, StepLike, like_when, like_choose, like_loop, like_wait, named_is_not_read, written_is_not_read, given_is_not_own}
use Rattle.assign_check.proofs.uses.Reading.{Counted, Match, match_none, no_parts, reading_of}
use Rattle.assign_check.proofs.uses.Statements.{ReadHere, SameReads, same_reads, behind_target, behind_declaration, at_parts, next_outer, last_outer, in_list, Right, sets_simple, sets_declare_nothing, sets_plain, right_reads}
use Rattle.assign_check.proofs.uses.Calls.{names_plain, behind_names, assigns_plain, assigns_declare_nothing, several_assigns, one_assigns, call_assigns, loop_reads, is_loop, wait_reads}

-- the numbers of expressions and calls in statements
abbrev mutual
  pub inner_statement : Statement → List ℕ
  inner_statement (statement nd c) = inner_command c

  pub inner_command : Command → List ℕ
  inner_command (T.declare d r) = option_numbers right_numbers r
  inner_command (assign w r) = right_numbers r
  inner_command (write w i e) = expression_numbers i ++ expression_numbers e
  inner_command (assign_all ws c) = calling_numbers c
  inner_command (calls p c) = calling_numbers c
  inner_command (choice e b) = expression_numbers e ++ inner_body b
  inner_command (choice_else e b d) = expression_numbers e ++ (inner_body b ++ inner_body d)
  inner_command (loop v k o b) = over_numbers o ++ inner_body b
  inner_command (waits ws b) = inner_body b

  pub inner_body : Body → List ℕ
  inner_body (body from ss) = inner_statements ss

  pub inner_statements : Statements → List ℕ
  inner_statements no_statements = []
  inner_statements (and_statement s ss) = inner_statement s ++ inner_statements ss

-- the numbers of the variables that statements declare
abbrev mutual
  pub own_statement : Statement → List ℕ
  own_statement (statement nd c) = own_command c

  pub own_command : Command → List ℕ
  own_command (T.declare d r) = d.name.number ∷ []
  own_command (assign w r) = []
  own_command (write w i e) = []
  own_command (assign_all ws c) = []
  own_command (calls p c) = []
  own_command (choice e b) = own_body b
  own_command (choice_else e b d) = own_body b ++ own_body d
  own_command (loop v k o b) = own_body b
  own_command (waits ws b) = own_body b

  pub own_body : Body → List ℕ
  own_body (body from ss) = own_statements ss

  pub own_statements : Statements → List ℕ
  own_statements no_statements = []
  own_statements (and_statement s ss) = own_statement s ++ own_statements ss

pub before_append : (xs ys : List Step) (o : Outline) → before (xs ++ ys) o ≡ before xs (before ys o)
before_append [] ys o = refl
before_append (x ∷ xs) ys o = ap (followed x) (before_append xs ys o)

pub outlined_append : (xs ys : List Step) → outlined (xs ++ ys) ≡ before xs (outlined ys)
outlined_append [] ys = refl
outlined_append (x ∷ xs) ys = ap (followed x) (outlined_append xs ys)

blocks_declare_nothing : {R : List Step → Stmt → Type 0} {s : Step} {a : Action} {v : ℕ} → StepLike R s a → v ∈ declared_of a → ⊥
blocks_declare_nothing (like_when l) m = elim m [ ]
blocks_declare_nothing (like_choose l k) m = elim m [ ]
blocks_declare_nothing (like_loop a_range t l) m = elim m [ ]
blocks_declare_nothing (like_loop an_each t l) m = elim m [ ]
blocks_declare_nothing (like_wait l) m = elim m [ ]

pub counted_left : {Taken : ℕ → Type 0} (xs ys : List ℕ) → Counted Taken (xs ++ ys) → Counted Taken xs
counted_left xs ys k n m = k n (to_left xs ys m)

pub counted_right : {Taken : ℕ → Type 0} (xs ys : List ℕ) → Counted Taken (xs ++ ys) → Counted Taken ys
counted_right xs ys k n m = k n (to_right xs ys m)

module _ (Taken Own : ℕ → Type 0) (fs : List Signature) (t : Table) where
  abbrev Alike : List Declared → Outline → Block → Type 0
  Alike ds o b = Like (SameReads Taken Own) ds o b

  -- a statement with a block behind what it reads
  with_block : {at n : ℕ} {rs : List Step} {s : Step} {a : Action} {o : Outline} {b : Block} → Match Taken rs (λ z. ReadHere z a) → StepLike (SameReads Taken Own) s a → Alike [] o b
      → Alike [] (before (rs ++ s ∷ []) o) (stmts (stmt at n a) b)
  with_block {at} {n} {rs} {s} {a} {o} {b} m k l = subst (λ (p : Outline). Alike [] p (stmts (stmt at n a) b)) (sym (before_append rs (s ∷ []) o)) (like_block m.plain (same_reads (λ v i. absurd (blocks_declare_nothing k i)) m) k l)

  right_like : {at n : ℕ} {rs : List Step} {x : Name} {a : Action} {u : outline.Use} {o : Outline} {b : Block} → Right Taken rs x a → u.kind ≡ outline.named → x.what ≡ u.of → Alike [] o b
      → Alike [] (followed (uses u) (before rs o)) (stmts (stmt at n a) b)
  right_like r k e l = like_simple (sets_simple r.sets) (sets_plain r.sets k e r.reads.plain) (behind_target (λ q. named_is_not_read k q) (same_reads (λ v m. absurd (sets_declare_nothing r.sets m)) r.reads)) l

  nothing_read : (v : ℕ) → Match Taken [] (λ z. ReadHere z (declare v))
  nothing_read v = match_none (λ x p. elim p [ inl h ↦ no_parts h | inr z ↦ z ])

  mutual
    pub like_statement : {g h : Scope} {s : Statement} {o : Outline} {b : Block} → StatementTyped fs t g s h → Counted Taken (inner_statement s) → Counted Own (own_statement s) → Alike [] o b
        → Alike [] (before (steps_of t s) o) (with_statement t s b)
    like_statement (declaration {d = d} q) k k' l = like_simple tt (own_step refl refl no_step) (behind_declaration (same_reads (λ v m. k' v m) (nothing_read d.name.number))) l
    like_statement {g} {h} (definition {d = d} q r) k k' l =
        like_simple tt (own_step refl refl no_step) (behind_declaration (same_reads (λ v m. k' v m) (nothing_read d.name.number))) (right_like (right_reads Taken fs t h (here d.name.number) d.shape r refl k) refl refl l)
    like_statement {g} (assignment {w = w} v r) k k' l = right_like (right_reads Taken fs t g (refers t w) (t.shape_of w.number) r v.shaped k) refl refl l
    like_statement {g} (element_write {w = w} {i = i} {e = e} v h r) k k' l =
        let numbers = expression_numbers i in
        let m = at_parts (insert (refers t w) (outer t i) (outer t e)) (λ z q. q)
        (next_outer (number_of i) (form_of t i) (outer t e ∷ []) (reading_of Taken fs t g h (counted_left numbers (expression_numbers e) k))
        (last_outer (number_of e) (form_of t e) (reading_of Taken fs t g r (counted_right numbers (expression_numbers e) k)))) in
        like_simple tt (written_step refl refl m.plain) (behind_target (λ q. written_is_not_read refl q) (same_reads (λ v j. elim j [ ]) m)) l
    like_statement {g} (several_typed {ws = ws} {c = c} v q h) k k' l =
        let r = several_assigns Taken fs t g c.node.number (map (refers t) ws) q h (in_list c.arguments (λ n m. k n (later (later m)))) in
        like_simple r.simple (assigns_plain r (names_plain t ws r.reads.plain)) (behind_names t ws (same_reads (λ v m. absurd (assigns_declare_nothing r m)) r.reads)) l
    like_statement {g} (several_builtin {w = w} {c = c} v q h) k k' l =
        let r = one_assigns Taken fs t g c.node.number (refers t w) q h (in_list c.arguments (λ n m. k n (later (later m)))) in
        like_simple r.simple (assigns_plain r (names_plain t (w ∷ []) r.reads.plain)) (behind_names t (w ∷ []) (same_reads (λ v m. absurd (assigns_declare_nothing r m)) r.reads)) l
    like_statement {g} (call_statement {p = p} {c = c} h) k k' l =
        let r = call_assigns Taken fs t g p c.node.number h (λ n m. k n (later (later m))) in
        like_simple r.simple (assigns_plain r r.reads.plain) (same_reads (λ v m. absurd (assigns_declare_nothing r m)) r.reads) l
    like_statement {g} (if_statement {c = c} {b = d} h q) k k' l =
        with_block (at_parts (when (outer t c) (block_of t d)) (λ z i. i) (last_outer (number_of c) (form_of t c) (reading_of Taken fs t g h (counted_left (expression_numbers c) (inner_body d) k))))
        (like_when (like_body q (counted_right (expression_numbers c) (inner_body d) k) k')) l
    like_statement {g} (if_else_statement {c = c} {b = d} {d = e} h q r) k k' l =
        let both = inner_body d ++ inner_body e in
        let inside = counted_right (expression_numbers c) both k in
        with_block (at_parts (choose (outer t c) (block_of t d) (block_of t e)) (λ z i. i) (last_outer (number_of c) (form_of t c) (reading_of Taken fs t g h (counted_left (expression_numbers c) both k))))
        (like_choose (like_body q (counted_left (inner_body d) (inner_body e) inside) (counted_left (own_body d) (own_body e) k')) (like_body r (counted_right (inner_body d) (inner_body e) inside) (counted_right (own_body d) (own_body e) k'))) l
    like_statement {g} (loop_statement {v = v} {o = o} {b = d} s (value_only q) h) k k' l =
        with_block (loop_reads Taken fs t g v None (block_of t d) s (counted_left (over_numbers o) (inner_body d) k))
        (like_loop (is_loop t v None o (block_of t d)) (value_alone refl refl) (like_front (λ e. given_is_not_own refl e) (like_body h (counted_right (over_numbers o) (inner_body d) k) k'))) l
    like_statement {g} (loop_statement {v = v} {o = o} {b = d} s (key_too {k = i} q r) h) k k' l =
        with_block (loop_reads Taken fs t g v (Some i) (block_of t d) s (counted_left (over_numbers o) (inner_body d) k))
        (like_loop (is_loop t v (Some i) o (block_of t d)) (with_key refl refl refl refl)
        (like_front (λ e. given_is_not_own refl e) (like_front (λ e. given_is_not_own refl e) (like_body h (counted_right (over_numbers o) (inner_body d) k) k')))) l
    like_statement (wait_statement {ws = ws} {b = d} v h) k k' l = with_block (wait_reads t ws (block_of t d)) (like_wait (like_body h k k')) l

    pub like_body : {g : Scope} {b : Body} → BodyTyped fs t g b → Counted Taken (inner_body b) → Counted Own (own_body b) → Alike [] (outlined (body_steps t b)) (block_of t b)
    like_body (in_braces h) k k' = like_statements h k k'

    pub like_statements : {g : Scope} {ss : Statements} → StatementsTyped fs t g ss → Counted Taken (inner_statements ss) → Counted Own (own_statements ss) → Alike [] (outlined (all_steps t ss)) (block_in t ss)
    like_statements no_more_statements k k' = like_end
    like_statements (next_statement {s = s} {ss = ss} h q) k k' =
        subst (λ (p : Outline). Alike [] p (with_statement t s (block_in t ss))) (sym (outlined_append (steps_of t s) (all_steps t ss)))
        (like_statement h (counted_left (inner_statement s) (inner_statements ss) k) (counted_left (own_statement s) (own_statements ss) k')
        (like_statements q (counted_right (inner_statement s) (inner_statements ss) k) (counted_right (own_statement s) (own_statements ss) k')))
