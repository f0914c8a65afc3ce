-- The results of the parser's functions, in terms of the reading functions.
use Rattle.std.specs.Prelude.{◌≡◌, ℕ, List, ◌++◌, map, Result, Ok, Err, Option, Some, None, option_map, Vec, Box}
use Rattle.syntax_trees.specs.declared.tree.Stmt.{Stmt}
use Rattle.syntax_trees.specs.declared.tree.Block.{Block}
use Rattle.language.specs.Tree.{Body, Statement, Tree}
use Rattle.language.specs.Numbered.{numbered}
use Rattle.syntax_trees.specs.View.{body_view, statement_view}
use Rattle.syntax.specs.declared.grammar.stop.ParseStop.{ParseStop}
use Rattle.syntax.specs.declared.grammar.stop.ParseStop.TheVariants.{AtEnd, Unexpected, TooNested, Memory}
use Rattle.language.specs.Rules.{Place}
use Rattle.lexer.specs.declared.fault.LexFault.{LexFault}
use Rattle.syntax.specs.declared.error.ParseFault.{ParseFault}
use Rattle.syntax.specs.declared.error.ParseFault.TheVariants as Fault
use Rattle.syntax.specs.Readers.{Read, refused, got}

-- a function stops where reading stops, or at an allocation failure
abbrev pub Fails : {A : Type 0} → ParseStop → Read A → Type 0
Fails AtEnd read = read ≡ refused AtEnd
Fails (Unexpected s) read = read ≡ refused (Unexpected s)
Fails (TooNested s) read = read ≡ refused (TooNested s)
Fails Memory read = Unit {0}

-- a function returned the result of reading, unless an allocation failed
abbrev pub Gives : {X A : Type 0} → (X → A) → Result X ParseStop → Place → Read A → Type 0
Gives view (Ok x) u read = read ≡ got (view x) u
Gives view (Err f) u read = Fails f read

-- a function returned the script that was read, numbered from 1 on, unless an allocation failed
abbrev pub GivesNumbered : {X : Type 0} → (X → Tree) → Result X ParseStop → Place → Read Tree → Type 0
GivesNumbered view (Ok x) u read = (tree : Tree) × (read ≡ got tree u) × (view x ≡ numbered 1 tree)
GivesNumbered view (Err f) u read = Fails f read

-- a function appended the result of reading to two lists, unless an allocation failed
abbrev pub Appends : {X A B : Type 0} → Result X ParseStop → Place → Read (List (A × B)) → List A → List A → List B → List B → Type 0
Appends {X} {A} {B} (Ok x) u read os os' es es' = (ps : List (A × B)) × (read ≡ got ps u) × (os' ≡ os ++ map (λ p. p.0) ps) × (es' ≡ es ++ map (λ p. p.1) ps)
Appends (Err f) u read os os' es es' = Fails f read

abbrev pub statements_view : {A : Type 0} → Vec (Stmt A) A → List Statement
statements_view v = map statement_view v.items

abbrev pub branch_view : {A : Type 0} → Option (Box (Block A) A) → Option Body
branch_view o = option_map (λ b. body_view b.value) o

-- the fault reported for a text of n bytes, by where its reading stops and the lexical fault after its last token
abbrev pub answer_of : ParseStop → Option LexFault → ℕ → ParseFault
answer_of AtEnd (Some f) n = Fault.Lex f
answer_of AtEnd None n = Fault.Unexpected (record { from = n; to = n })
answer_of (Unexpected s) fault n = Fault.Unexpected s
answer_of (TooNested s) fault n = Fault.TooNested s
answer_of Memory fault n = Fault.Memory
