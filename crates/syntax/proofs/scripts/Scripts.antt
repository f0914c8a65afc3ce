-- The laws of imports, functions and whole scripts.
use Rattle.std.specs.Prelude.{ℤ, not, ◌||◌}
use Rattle.std.proofs.Common.{◌≡◌, ℕ, zero, suc, length, List, [], ◌∷◌, Option, Some, None, Bool, true, false, refl, ap, sym, ◌∙◌, subst, arith}
use Rattle.language.specs.Tree.{Word, Declaration, Calling, Statement, Body, Part, import, function, single, Tree}
use Rattle.lexer.specs.Items.{Lexeme}
use Rattle.lexer.specs.declared.token.TokenKind.{TokenKind}
use Rattle.lexer.specs.declared.token.TokenKind.TheVariants as Kind
use Rattle.language.specs.Kinds.{same}
use Rattle.language.specs.Rules.{Place, Rule, The, ◌⋆◌, ◌▹◌, ◌◃◌, Never, Many, Made, Maybe, Commas, Perhaps, Deeper}
use Rattle.language.specs.Grammar.{first_of, node, IsName, IsDecl, AreParameters, IsCall, IsPriority, IsStmtOver, a_declaration, an_assignment, a_write, many_assigned, a_call, an_if, a_foreach, a_wait, IsBlockOver, IsStmt, IsBlock, IsModule, io, assert, string, IsPart, an_import, a_function, a_statement, IsScript}
use Rattle.syntax.specs.declared.grammar.stop.ParseStop.{ParseStop}
use Rattle.syntax.specs.declared.grammar.stop.ParseStop.TheVariants.{Unexpected}
use Rattle.syntax.specs.Readers.{refused, got, ◌>>=◌, kind_of, kind_at, second_at, at, second, start, none_of, at_end, cond, choose, the, made, checked}
use Rattle.syntax.specs.Reading.{spells, is_module, read_module, read_import, read_function, at_function, read_stmt, read_part, read_script}
use Rattle.syntax.proofs.spellings.Spelling.{spells_true}
use Rattle.syntax.proofs.combining.Combine.{Law, Any, Begins, Sound, got_value, kind_the, same_kind, the_law, both_law, drop_law, keep_law, made_law, sound_as, sound_choose, choose_first, choose_second, not_kind, checked_law, sound_many, complete_many, many_ends}
use Rattle.syntax.proofs.expressions.Expressions.{name_law, second_end}
use Rattle.syntax.proofs.statements.Declarations.{names_type, decl_begins, parameters_law, spells_is}
use Rattle.syntax.proofs.statements.Statements.{After_stmt, starts_stmt, call_kinds, stmt_begins, block_law, stmt_law}
use Rattle.std.proofs.lemmas.Bool.{or_right}

-- IMPORTS

module_spelled : (s : Place) (t : Lexeme) (u : Place) → The Kind.Name s t u → (b c : Bool) → spells t.text (105 ∷ 111 ∷ []) ≡ b → spells t.text (97 ∷ 115 ∷ 115 ∷ 101 ∷ 114 ∷ 116 ∷ []) ≡ c → (b || c) ≡ true → IsModule s t u
module_spelled s t u is true c one other h = io is (spells_is t.text (105 ∷ 111 ∷ []) one)
module_spelled s t u is false true one other h = assert is (spells_is t.text (97 ∷ 115 ∷ 115 ∷ 101 ∷ 114 ∷ 116 ∷ []) other)
module_spelled s t u is false false one other h = absurd (cc)

pub module_named : (s : Place) (t : Lexeme) (u : Place) → The Kind.Name s t u → is_module t ≡ true → IsModule s t u
module_named s t u is holds = module_spelled s t u is (spells t.text (105 ∷ 111 ∷ [])) (spells t.text (97 ∷ 115 ∷ 115 ∷ 101 ∷ 114 ∷ 116 ∷ [])) refl refl holds

pub module_law : Law 1 read_module IsModule Any
unfolding read_module at
module_law = record { sound = sound.gives; complete = complete }
  where
    named : Sound (checked is_module (the Kind.Name)) IsModule
    named = record {
      gives = λ s t u h.
          let word : Law 1 (checked is_module (the Kind.Name)) (λ s t u. The Kind.Name s t u × (is_module t ≡ true)) Any
          = checked_law (the_law Kind.Name) (λ s t u is holds. (is, holds)) (λ s t u is. is) in
          let p = word.sound s t u h in
          (module_named s t u p.0.0 p.0.1, p.1);
    }

    sound : Sound read_module IsModule
    sound = sound_choose (at Kind.String) (sound_as (the_law Kind.String) (λ s t u is. string is)) named

    by_name : (s : Place) (t : Lexeme) (u : Place) → The Kind.Name s t u → is_module t ≡ true → read_module s ≡ got t u
    by_name s t u is holds =
        choose_second (at Kind.String) (the Kind.String) (checked is_module (the Kind.Name)) s (ap (λ k. same k Kind.String) (kind_the Kind.Name s t u is))
        ∙ ap (λ z. z >>= λ a v. cond (is_module a) (got a v) (refused (Unexpected a.span))) ((the_law Kind.Name).complete s t u is tt)
        ∙ ap (λ b. cond b (got t u) (refused (Unexpected t.span))) holds

    complete : (s : Place) (t : Lexeme) (u : Place) → IsModule s t u → Any (kind_at u) → read_module s ≡ got t u
    complete s t u (io is text) after = by_name s t u is (ap (λ b. b || spells t.text (97 ∷ 115 ∷ 115 ∷ 101 ∷ 114 ∷ 116 ∷ [])) (spells_true t.text (105 ∷ 111 ∷ []) text))
    complete s t u (assert is text) after = by_name s t u is (or_right (spells t.text (105 ∷ 111 ∷ [])) (spells t.text (97 ∷ 115 ∷ 115 ∷ 101 ∷ 114 ∷ 116 ∷ [])) (spells_true t.text (97 ∷ 115 ∷ 115 ∷ 101 ∷ 114 ∷ 116 ∷ []) text))
    complete s t u (string is) after =
        choose_first (at Kind.String) (the Kind.String) (checked is_module (the Kind.Name)) s (same_kind (kind_at s) Kind.String (kind_the Kind.String s t u is))
        ∙ (the_law Kind.String).complete s t u is tt

abbrev pub Is_import : Rule Part
Is_import = Made (λ s t u. import (first_of s.rest)) (The Kind.Import ▹ (IsModule ◃ The Kind.Semicolon))

pub import_law : Law 1 read_import Is_import Any
unfolding read_import
import_law = made_law (λ s t u. import (first_of s.rest)) (drop_law (the_law Kind.Import) (keep_law module_law (the_law Kind.Semicolon) (λ s b u is after. tt)) (λ s b u is after. tt))

-- FUNCTIONS

abbrev pub composite : Place → List Declaration × (Word × (List Declaration × Body)) → Place → Part
composite s x u = function (record { node = node s u; outputs = x.0; name = x.1.0; inputs = x.1.1.0; body = x.1.1.1 })

abbrev pub Is_function : ℕ → Rule Part
Is_function depth = Made composite (AreParameters depth ⋆ (IsName ⋆ (AreParameters depth ⋆ IsBlock depth)))

pub function_law : (depth : ℕ) → Law 1 (read_function depth) (Is_function depth) Any
unfolding read_function
function_law depth =
    made_law composite (both_law (parameters_law depth) (both_law name_law (both_law (parameters_law depth) (block_law depth) (λ s b u is after. tt)) (λ s b u is after. tt)) (λ s b u is after. tt))

-- the test of a function, by the first two kinds
pub function_is : (s : Place) → at_function s ≡ cond (same (kind_at s) Kind.OpenRound) (not (same (second_at s) Kind.Name)) false
unfolding at_function at second
function_is s = refl

by_kinds : (s : Place) (k l : TokenKind) → kind_at s ≡ k → second_at s ≡ l → at_function s ≡ cond (same k Kind.OpenRound) (not (same l Kind.Name)) false
by_kinds s k l is is' = function_is s ∙ ap (λ x. cond (same x Kind.OpenRound) (not (same (second_at s) Kind.Name)) false) is ∙ ap (λ x. cond (same k Kind.OpenRound) (not (same x Kind.Name)) false) is'

-- behind the bracket that opens parameters no name stands
behind_round : (depth : ℕ) (ds : List Declaration) (s v u : Place) (t : Lexeme) → Deeper (λ d. Perhaps (Commas (IsDecl d))) depth s ds v → The Kind.CloseRound v t u → same (kind_at s) Kind.Name ≡ false
behind_round zero ds s v u t is close = absurd is
behind_round (suc depth) [] s v u t is close = ap (λ w. same (kind_at w) Kind.Name) (sym is) ∙ ap (λ k. same k Kind.Name) (kind_the Kind.CloseRound v t u close)
behind_round (suc depth) (d ∷ ds) s v u t (x, (w, decl, more), is) close = not_kind names_type (kind_at s) Kind.Name (decl_begins depth s x.0 w decl) refl

parameters_begin : (depth : ℕ) (ds : List Declaration) (s u : Place) → AreParameters depth s ds u → at_function s ≡ true
parameters_begin depth ds s u (t, v, round, (t', w, inner, close)) =
    by_kinds s Kind.OpenRound (kind_at v) (kind_the Kind.OpenRound s t v round) (second_end Kind.OpenRound s t v round)
    ∙ ap not (behind_round depth ds v w u t' inner close)

-- a statement begins as no function does
no_function : (s : Place) (k : TokenKind) → kind_at s ≡ k → same k Kind.OpenRound ≡ false → at_function s ≡ false
no_function s k is other = by_kinds s k (second_at s) is refl ∙ ap (λ b. cond b (not (same (second_at s) Kind.Name)) false) other

names_second : (depth : ℕ) (ws : List Word) (s v : Place) → Deeper (λ d. Commas IsName) depth s ws v → kind_at s ≡ Kind.Name
names_second zero ws s v is = absurd is
names_second (suc depth) ws s v (x, (w, (t, name, is'), more), is) = kind_the Kind.Name s t w name

call_no_function : (depth : ℕ) (p : Option ℤ) (s : Place) (c : Calling) (v w : Place) → Maybe IsPriority s p v → IsCall depth v c w → at_function s ≡ false
call_no_function depth None s c v w none call = no_function s Kind.Name (ap kind_at (sym none) ∙ (call_kinds depth v c w call).0) refl
call_no_function depth (Some p) s c v w (x, (t, y, here, more), is) call = no_function s Kind.At (kind_the Kind.At s t y here) refl

over_no_function : (depth : ℕ) (B : Rule Body) (S : Rule Statement) (s : Place) (c : Statement) (u : Place) → IsStmtOver depth B S s c u → at_function s ≡ false
over_no_function depth B S s c u (a_declaration x (v, decl, more) is) = no_function s (kind_at s) refl (not_kind names_type (kind_at s) Kind.OpenRound (decl_begins depth s x.0 v decl) refl)
over_no_function depth B S s c u (an_assignment x (v, (t, name, is'), more) is) = no_function s Kind.Name (kind_the Kind.Name s t v name) refl
over_no_function depth B S s c u (a_write x (v, (t, name, is'), more) is) = no_function s Kind.Name (kind_the Kind.Name s t v name) refl
over_no_function depth B S s c u (many_assigned x (v, (t, w, here, (t', y, inner, close)), others) is) =
    by_kinds s Kind.OpenRound Kind.Name (kind_the Kind.OpenRound s t w here) (second_end Kind.OpenRound s t w here ∙ names_second depth x.0 w y inner)
over_no_function depth B S s c u (a_call x (v, priority, (t, w, call, semicolon)) is) = call_no_function depth x.0 s x.1 v w priority call
over_no_function depth B S s c u (an_if x (t, v, here, more) is) = no_function s Kind.If (kind_the Kind.If s t v here) refl
over_no_function depth B S s c u (a_foreach x (t, v, here, more) is) = no_function s Kind.Foreach (kind_the Kind.Foreach s t v here) refl
over_no_function depth B S s c u (a_wait x (t, v, here, more) is) = no_function s Kind.Wait (kind_the Kind.Wait s t v here) refl

stmt_no_function : (depth : ℕ) (s : Place) (c : Statement) (u : Place) → IsStmt depth s c u → at_function s ≡ false
unfolding IsStmt
stmt_no_function zero s c u is = over_no_function zero Never Never s c u is
stmt_no_function (suc depth) s c u is = over_no_function (suc depth) (IsBlockOver (IsStmt depth)) (IsStmt depth) s c u is

-- PARTS

pub part_law : (depth : ℕ) → Law 1 (read_part depth) (IsPart depth) After_stmt
unfolding read_part at
part_law depth = record { sound = sound.gives; complete = complete }
  where
    single_law : Law 1 (made (λ s c u. single c) (read_stmt depth)) (Made (λ s c u. single c) (IsStmt depth)) After_stmt
    single_law = made_law (λ s c u. single c) (stmt_law depth)

    sound : Sound (read_part depth) (IsPart depth)
    sound =
        sound_choose (at Kind.Import) (sound_as import_law (λ s p u h. an_import h.0 h.1 h.2))
        (sound_choose at_function (sound_as (function_law depth) (λ s p u h. a_function h.0 h.1 h.2))
        (sound_as single_law (λ s p u h. a_statement h.0 h.1 h.2)))

    other : (s : Place) → same (kind_at s) Kind.Import ≡ false → (b : Bool) → at_function s ≡ b → read_part depth s ≡ cond b (read_function depth s) (made (λ s c u. single c) (read_stmt depth) s)
    other s fails b is =
        choose_second (at Kind.Import) read_import (choose at_function (read_function depth) (made (λ s c u. single c) (read_stmt depth))) s fails
        ∙ ap (λ c. cond c (read_function depth s) (made (λ s c u. single c) (read_stmt depth) s)) is

    complete : (s : Place) (p : Part) (u : Place) → IsPart depth s p u → After_stmt (kind_at u) → read_part depth s ≡ got p u
    complete s p u (an_import t h is) after =
        choose_first (at Kind.Import) read_import (choose at_function (read_function depth) (made (λ s c u. single c) (read_stmt depth))) s
        (same_kind (kind_at s) Kind.Import (kind_the Kind.Import s h.0 h.1 h.2))
        ∙ import_law.complete s p u (t, h, is) tt
    complete s p u (a_function x h is) after =
        other s (ap (λ k. same k Kind.Import) (kind_the Kind.OpenRound s h.1.0 h.1.1 h.1.2)) true (parameters_begin depth x.0 s h.0 h.1)
        ∙ (function_law depth).complete s p u (x, h, is) tt
    complete s p u (a_statement c h is) after =
        other s (not_kind starts_stmt (kind_at s) Kind.Import (stmt_begins depth s c u h) refl) false (stmt_no_function depth s c u h)
        ∙ single_law.complete s p u (c, h, is) after

-- the kinds that begin a part
abbrev pub starts_part : TokenKind → Bool
starts_part k = starts_stmt k || same k Kind.Import

pub part_begins : (depth : ℕ) → Begins (IsPart depth) starts_part
part_begins depth s p u (an_import t h is) = ap starts_part (kind_the Kind.Import s h.0 h.1 h.2)
part_begins depth s p u (a_function x h is) = ap starts_part (kind_the Kind.OpenRound s h.1.0 h.1.1 h.1.2)
part_begins depth s p u (a_statement c h is) = ap (λ b. b || same (kind_at s) Kind.Import) (stmt_begins depth s c u h)

-- SCRIPTS

not_none : (ts : List Lexeme) → same (kind_of ts) Kind.End ≡ false → not (none_of ts) ≡ true
not_none [] h = absurd (cc)
not_none (t ∷ ts) h = refl

none_is : (ts : List Lexeme) → not (none_of ts) ≡ false → ts ≡ []
none_is [] h = refl
none_is (t ∷ ts) h = absurd (cc)

passes : (depth : ℕ) (s : Place) (p : Part) (u : Place) → IsPart depth s p u → not (at_end s) ≡ true
unfolding at_end
passes depth s p u is = not_none s.rest (not_kind starts_part (kind_at s) Kind.End (part_begins depth s p u is) refl)

stops : (u : Place) → u.rest ≡ [] → not (at_end u) ≡ false
unfolding at_end
stops u h = ap (λ ts. not (none_of ts)) h

stopped : (u : Place) → not (at_end u) ≡ false → u.rest ≡ []
unfolding at_end
stopped u h = none_is u.rest h

-- what is read are parts, one behind the other, and nothing is left of the tokens
pub parts_sound : (depth : ℕ) (ts : List Lexeme) (tree : Tree) (u : Place) → read_script depth (start ts) ≡ got tree u → Many (IsPart depth) (start ts) tree u × (u.rest ≡ [])
unfolding read_script
parts_sound depth ts tree u h =
    let p = sound_many (λ s. not (at_end s)) (part_law depth) (suc (length ts)) [] (start ts) tree u h in
    (subst (λ ys. Many (IsPart depth) (start ts) ys u) (sym p.1) p.2, stopped u (many_ends (λ s. not (at_end s)) (read_part depth) (suc (length ts)) [] (start ts) tree u h))

-- they are the tree of the tokens
pub script_sound : (depth : ℕ) (ts : List Lexeme) (tree : Tree) (u : Place) → read_script depth (start ts) ≡ got tree u → IsScript depth ts tree × (u.rest ≡ [])
script_sound depth ts tree u h = let p = parts_sound depth ts tree u h in ((u, p.0, p.1), p.1)

-- the tree of the tokens is read
pub script_complete : (depth : ℕ) (ts : List Lexeme) (tree : Tree) → IsScript depth ts tree → (u : Place) × (read_script depth (start ts) ≡ got tree u) × (u.rest ≡ [])
unfolding read_script
script_complete depth ts tree (u, parts, end) = (
  u,
  complete_many (part_law depth) (passes depth) (λ s p u is. not_kind starts_part (kind_at s) Kind.Else (part_begins depth s p u is) refl)
      tree (suc (length ts)) [] (start ts) u parts (ap (λ xs. same (kind_of xs) Kind.Else) end) (stops u end) (omega arith),
  end,
)

-- where reading refuses, the tokens have no tree
pub script_refused : (depth : ℕ) (ts : List Lexeme) (stop : ParseStop) → read_script depth (start ts) ≡ refused stop → (tree : Tree) → IsScript depth ts tree → ⊥
script_refused depth ts stop none tree is = let p = script_complete depth ts tree is in let bad = sym none ∙ p.1 in absurd (cc)

-- tokens have at most one tree
pub one_tree : (depth : ℕ) (ts : List Lexeme) (t u : Tree) → IsScript depth ts t → IsScript depth ts u → t ≡ u
one_tree depth ts t u is also =
    let p = script_complete depth ts t is in
    let q = script_complete depth ts u also in
    got_value t u p.0 q.0 (sym p.1 ∙ q.1)
