-- Statements and blocks that are laid one after another, or one inside another.
use Rattle.std.proofs.Common.{◌≡◌, ℕ, suc, ◌+◌, ◌≤◌, ◌<◌, ◌^◌, Bool, List, [], ◌∷◌, ◌++◌, map, drop, get_or, length, refl, sym, ap, ◌∙◌, subst, arith, append_assoc, append-nil}
use Rattle.std.specs.Prelude.{IsTrue, OnOk, Result, Ok, Err}
use Rattle.std.proofs.lemmas.List.{length-map, drop_more, drop_all}
use Rattle.std.proofs.lemmas.Bool.{and_parts}
use Rattle.language.specs.Core.{Stmt, stmt, Action, declare, Block, no_stmts, stmts}
use Rattle.language.specs.Members.{first}
use Rattle.language.specs.Parts.{parts, stmts_within}
use Rattle.language_laws.specs.TypedValues.{own_parts}
use Rattle.flow.specs.declared.statement.Statement.{Statement}
use Rattle.flow.specs.Shapes.{statement_declared, together}
use Rattle.flow.specs.View.{block_of, statement_view}
use Rattle.task_code.specs.Code as code
use Rattle.task_code.specs.Code.{Variable}
use Rattle.task_code.specs.View.{body_view, entry_view, variable_view}
use Rattle.task_code.specs.declared.entry.Entry.{Entry as Made}
use Rattle.task_code.specs.declared.code.Body.{Body as Opened}
use Rattle.code_rules.specs.IsCodeOf.{Layout}
use Rattle.code_rules.specs.Laying.{IndexesStand, Kinds, LaysBlock, LaysStmt, Suits, declares, one_statement, no_statement}
use Rattle.code_rules.specs.Room.{ActionRoom}
use Rattle.emit_statements.specs.Into.{LaysInto, laying}
use Rattle.emit_statements.specs.declared.block_builder.BlockBuilder.{BlockBuilder}
use Rattle.wait_merge.specs.Merged.{all_merged, statement_seen}
use Rattle.emit.specs.Emits.{EmitsBlock, EmitsStmt, Lays, State, state, with_inner}
use Rattle.emit.proofs.Fitting.{first-in, fits-part, others-in, size-first}

-- a statement, and then a block behind it
pub one-more : (fs : List Kinds) (roots k : ℕ) (st : Stmt) (b : Block) (ds es : List (ℕ × Bool)) (s t u : State) → EmitsStmt fs roots k st ds s t → EmitsBlock fs roots k b es t u → EmitsBlock fs roots k (stmts st b) (ds ++ es) s u
one-more fs roots k st b ds es s t u one rest = record {
  lays = λ l room fits. (
      let size = size-first st b in
      let x : Lays (LaysStmt fs roots k st ds) (with_inner st) s t = one.lays l room.0 (fits-part (with_inner st) s.laying fits (λ y m. first-in st b m) (omega arith) (omega arith)) in
      let f = x.few in
      let fe = f.entries in
      let fb = f.bodies in
      let y : Lays (LaysBlock fs roots k b es) (stmts_within b) t u = rest.lays l room.1 (fits-part (stmts_within b) t.laying fits (λ z m. others-in st b m) (omega arith) (omega arith)) in
      let g = y.few in
      let ge = g.entries in
      let gb = g.bodies in
      record {
        numbers = x.numbers ++ y.numbers;
        data_are = x.data_are ++ y.data_are;
        by_rule = one_statement x.by_rule y.by_rule refl refl refl;
        entries = y.entries ∙ ap (λ ns. ns ++ y.numbers) x.entries ∙ append_assoc s.numbers x.numbers y.numbers;
        makes = y.makes ∙ ap (λ vs. vs ++ y.data_are) x.makes ∙ append_assoc s.makes x.data_are y.data_are;
        few = record { entries = omega arith; bodies = omega arith };
      }
      );
}

pub no-more : (fs : List Kinds) (roots k : ℕ) (s : State) → EmitsBlock fs roots k no_stmts [] s s
no-more fs roots k s = record {
  lays = λ l room fits. (
      record {
        numbers = [];
        data_are = [];
        by_rule = no_statement;
        entries = sym (append-nil s.numbers);
        makes = sym (append-nil s.makes);
        few = record { entries = omega arith; bodies = omega arith };
      }
      );
}

-- what two clauses say of the same success
pub ok-both : {T E : Type 0} (r : Result T E) (P Q R : Type 0) → (P → Q → R) → OnOk r P → OnOk r Q → OnOk r R
ok-both (Ok x) P Q R f p q = f p q
ok-both (Err e) P Q R f p q = tt

-- a statement that is told otherwise
pub emits-as : (fs : List Kinds) (roots k : ℕ) (a b : Stmt) (ds es : List (ℕ × Bool)) (s t : State) → b ≡ a → es ≡ ds → EmitsStmt fs roots k a ds s t → EmitsStmt fs roots k b es s t
emits-as fs roots k a b ds es s t e q h = subst (λ (x : Stmt). EmitsStmt fs roots k x es s t) (sym e) (subst (λ (xs : List (ℕ × Bool)). EmitsStmt fs roots k a xs s t) (sym q) h)

-- STATEMENTS OF A FLOW, ONE AFTER ANOTHER

module _ {A : Type 0} (fs : List Kinds) (roots k : ℕ) where
  abbrev pub EmitsRest : List (Statement A) → State → State → Type 0
  EmitsRest ss s t = IsTrue (all_merged (map statement_seen ss)) → EmitsBlock fs roots k (block_of (map statement_view ss)) (together (map statement_declared ss)) s t

  -- where the rest is laid from here on, the whole is
  pub record WalksOn (all rest : List (Statement A)) (from here : State) : Type 0 where
    pub walks : (t : State) → EmitsRest rest here t → EmitsRest all from t

  pub walked-none : (all : List (Statement A)) (s : State) → WalksOn all all s s
  walked-none all s = record { walks = λ t h. h }

  pub walked-one : (all ss : List (Statement A)) (i : ℕ) (one : Statement A) (from s t : State) → i < length ss → one ≡ get_or ss i one → WalksOn all (drop i ss) from s
      → (IsTrue (statement_seen one).merged → EmitsStmt fs roots k (statement_view one) (statement_declared one) s t) → WalksOn all (drop (i + 1) ss) from t
  walked-one all ss i one from s t below is before here =
      let e : drop i ss ≡ one ∷ drop (i + 1) ss = drop_more ss i one below ∙ ap (λ x. x ∷ drop (i + 1) ss) (sym is) in
      record {
        walks = λ u rest. before.walks u (subst (λ xs. EmitsRest xs s u) (sym e) (λ m. let both = and_parts (statement_seen one).merged (all_merged (map statement_seen (drop (i + 1) ss))) m in one-more fs roots k (statement_view one) (block_of (map statement_view (drop (i + 1) ss))) (statement_declared one) (together (map statement_declared (drop (i + 1) ss))) s t u (here both.0) (rest both.1)));
      }

  pub walked-all : (all ss : List (Statement A)) (i : ℕ) (from s : State) → length ss ≤ i → WalksOn all (drop i ss) from s → EmitsRest all from s
  walked-all all ss i from s done before = before.walks s (subst (λ xs. EmitsRest xs s s) (sym (drop_all i ss done)) (λ m. no-more fs roots k s))

-- STATEMENTS WITHOUT BLOCKS

-- a declaration has no entry
pub declare-emits : (fs : List Kinds) (roots k at n v : ℕ) (b : Bool) (es : List Made) (bs : List Opened) (old new : BlockBuilder) → new.entries ≡ old.entries
    → map variable_view new.makes.items ≡ map variable_view old.makes.items ++ record { node = v; array = b } ∷ []
    → EmitsStmt fs roots k (stmt at n (declare v)) ((v, b) ∷ []) (state es bs old) (state es bs new)
declare-emits fs roots k at n v b es bs old new same makes = record {
  lays = λ l room fits. (
      record {
        numbers = [];
        data_are = record { node = v; array = b } ∷ [];
        by_rule = declares b;
        entries = ap (λ x. x.items) same ∙ sym (append-nil old.entries.items);
        makes = makes;
        few = record { entries = omega arith; bodies = omega arith };
      }
      );
}

pub simple-emits : (fs : List Kinds) (roots k at n : ℕ) (a : Action) (es new_es : List Made) (bs : List Opened) (old new : BlockBuilder)
    → ((l : Layout) → ActionRoom k a → Suits l a → IndexesStand (own_parts a) → length new_es ≤ length es + suc (length (parts a)))
    → ((bodies : List code.Body) → ActionRoom k a → length new_es ≤ 2 ^ 32 → LaysInto fs roots k (stmt at n a) [] (laying es bodies) (laying new_es bodies) old new)
    → EmitsStmt fs roots k (stmt at n a) [] (state es bs old) (state new_es bs new)
simple-emits fs roots k at n a es new_es bs old new few into = record {
  lays = λ l room fits. (
      let su = fits.suits at n a first in
      let f = few l room su.0 su.1 in
      let fe = fits.entries in
      let m = length-map es entry_view in
      let m' = length-map new_es entry_view in
      let x = into (map body_view bs) room (omega arith) in
      record {
        numbers = x.numbers;
        data_are = x.data_are;
        by_rule = x.laid;
        entries = x.entries;
        makes = x.makes;
        few = record { entries = omega arith; bodies = omega arith };
      }
      );
}
