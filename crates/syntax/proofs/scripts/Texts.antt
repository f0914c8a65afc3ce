-- What the parts of a text's reading say of the text.
use Rattle.std.proofs.Common.{◌≡◌, ℕ, ◌<◌, ◌≤◌, length, List, [], ◌∷◌, ◌++◌, map, refl, ap, sym, ◌∙◌, subst, inl, inr}
use Rattle.std.specs.Prelude.{Ok, Err, Option, Some, None}
use Rattle.lexer.specs.Items.{Lexeme, ends_at}
use Rattle.lexer.proofs.Items.{tokens_end}
use Rattle.lexer.specs.Tokens.{Tokens}
use Rattle.lexer.specs.declared.fault.LexFault.{LexFault}
use Rattle.language.specs.Tree.{Tree}
use Rattle.language.specs.Numbered.{numbered}
use Rattle.language.specs.Reads.{Reads}
use Rattle.language.specs.Rules.{Place}
use Rattle.syntax.specs.declared.grammar.stop.ParseStop.{ParseStop}
use Rattle.syntax.specs.declared.grammar.stop.ParseStop.TheVariants.{AtEnd, Unexpected, TooNested, Memory}
use Rattle.syntax.specs.declared.error.ParseFault.{ParseFault}
use Rattle.syntax.specs.declared.error.ParseFault.TheVariants as Fault
use Rattle.syntax.specs.Answers.{Fails, answer_of}
use Rattle.syntax.specs.Endings.{ending}
use Rattle.syntax.specs.Held.{Begins}
use Rattle.syntax.specs.Readers.{refused, got, start}
use Rattle.syntax.specs.Reading.{read_script}
use Rattle.syntax.specs.Refusals.{HasNone, Refuses}
use Rattle.syntax.proofs.Sizes.{parts_end}
use Rattle.syntax.proofs.scripts.Scripts.{parts_sound, script_sound}
use Rattle.syntax.proofs.stopping.Viable.{stops_first}
use Rattle.syntax.proofs.scripts.Trees.{whole, reads_text, long_text, refused_text, faulty_text}
use Rattle.values.specs.Limits.{max_source, max_nesting}

-- a text whose tokens are refused has no tree, whatever ends them
no_tree : (bytes : List ℕ) (ts : List Lexeme) (fault : Option LexFault) (stop : ParseStop) → Tokens bytes (map Ok ts ++ ending fault) → read_script max_nesting (start ts) ≡ refused stop → HasNone bytes
no_tree bytes ts None stop lexed read = refused_text bytes ts (whole bytes ts lexed) stop read
no_tree bytes ts (Some f) stop lexed read = faulty_text bytes ts f lexed

pub stop_refuses : (bytes : List ℕ) (ts : List Lexeme) (fault : Option LexFault) (stop : ParseStop) → length bytes ≤ max_source → Tokens bytes (map Ok ts ++ ending fault)
    → Fails stop (read_script max_nesting (start ts)) → Refuses bytes (answer_of stop fault (length bytes))
stop_refuses bytes ts None AtEnd short lexed fails = (short, no_tree bytes ts None AtEnd lexed fails, inr ((ts, lexed, fails, stops_first max_nesting ts AtEnd fails), refl))
stop_refuses bytes ts (Some f) AtEnd short lexed fails = (short, faulty_text bytes ts f lexed, inl (ts, lexed, fails, stops_first max_nesting ts AtEnd fails))
stop_refuses bytes ts fault (Unexpected s) short lexed fails = (short, no_tree bytes ts fault (Unexpected s) lexed fails, inl (fault, (ts, lexed, fails, stops_first max_nesting ts (Unexpected s) fails)))
stop_refuses bytes ts fault (TooNested s) short lexed fails = (short, no_tree bytes ts fault (TooNested s) lexed fails, fault, (ts, lexed, fails, stops_first max_nesting ts (TooNested s) fails))
stop_refuses bytes ts fault Memory short lexed fails = short

pub fault_refuses : (bytes : List ℕ) (ts : List Lexeme) (f : LexFault) (tree : Tree) (u : Place) → length bytes ≤ max_source → Tokens bytes (map Ok ts ++ Err f ∷ []) → read_script max_nesting (start ts) ≡ got tree u → Refuses bytes (Fault.Lex f)
fault_refuses bytes ts f tree u short lexed read = (short, faulty_text bytes ts f lexed, inr (ts, tree, lexed, (script_sound max_nesting ts tree u read).0))

pub long_refuses : (bytes : List ℕ) → max_source < length bytes → Refuses bytes (Fault.TooLong (record { from = max_source; to = max_source }))
long_refuses bytes long = (long, long_text bytes long, refl)

pub text_reads : (bytes : List ℕ) (ts : List Lexeme) (tree : Tree) (u : Place) (t : Tree) → length bytes ≤ max_source → Tokens bytes (map Ok ts ++ []) → read_script max_nesting (start ts) ≡ got tree u
    → t ≡ numbered 1 tree → Reads bytes t
text_reads bytes ts tree u t short lexed read is = subst (Reads bytes) (sym is) (reads_text bytes ts tree u short (whole bytes ts lexed) read)

-- THE SAME, FROM THE PLACE BEFORE ALL TOKENS

-- what ends the tokens of a text of which the last ends there
abbrev pub EndsAs : List ℕ → ℕ → Option LexFault → Type 0
EndsAs bytes to end = (ts : List Lexeme) (fault : Option LexFault) → Tokens bytes (map Ok ts ++ ending fault) → ends_at 0 ts ≡ to → end ≡ fault

-- where a script is read, the last token ends before the place behind it
begun_end : (bytes : List ℕ) (s : Place) (tree : Tree) (u : Place) → (begun : Begins bytes s) → read_script max_nesting s ≡ got tree u → ends_at 0 begun.0 ≡ u.before
begun_end bytes s tree u begun read =
    let parts = parts_sound max_nesting begun.0 tree u (sym (ap (read_script max_nesting) begun.3) ∙ read) in
    sym (parts_end max_nesting (start begun.0) tree u parts.0 parts.1)

pub begun_within : (bytes : List ℕ) (s : Place) (tree : Tree) (u : Place) → Begins bytes s → read_script max_nesting s ≡ got tree u → u.before ≤ length bytes
begun_within bytes s tree u begun read = subst (λ to. to ≤ length bytes) (begun_end bytes s tree u begun read) (tokens_end bytes begun.0 (ending begun.1) begun.2)

ended_as : (bytes : List ℕ) (s : Place) (end found : Option LexFault) (tree : Tree) (u : Place) → (begun : Begins bytes s) → read_script max_nesting s ≡ got tree u → EndsAs bytes u.before end → end ≡ found
    → Tokens bytes (map Ok begun.0 ++ ending found)
ended_as bytes s end found tree u begun read ends is =
    subst (λ f. Tokens bytes (map Ok begun.0 ++ ending f)) (sym (ends begun.0 begun.1 begun.2 (begun_end bytes s tree u begun read)) ∙ is) begun.2

pub begun_stops : (bytes : List ℕ) (s : Place) (stop : ParseStop) (answer : ParseFault) → length bytes ≤ max_source → Begins bytes s → Fails stop (read_script max_nesting s)
    → ((ts : List Lexeme) (fault : Option LexFault) → Tokens bytes (map Ok ts ++ ending fault) → answer ≡ answer_of stop fault (length bytes)) → Refuses bytes answer
begun_stops bytes s stop answer short begun fails answers =
    subst (Refuses bytes) (sym (answers begun.0 begun.1 begun.2)) (stop_refuses bytes begun.0 begun.1 stop short begun.2 (subst (λ p. Fails stop (read_script max_nesting p)) begun.3 fails))

pub begun_faulty : (bytes : List ℕ) (s : Place) (end : Option LexFault) (f : LexFault) (tree : Tree) (u : Place) → length bytes ≤ max_source → Begins bytes s → read_script max_nesting s ≡ got tree u
    → EndsAs bytes u.before end → end ≡ Some f → Refuses bytes (Fault.Lex f)
begun_faulty bytes s end f tree u short begun read ends is =
    fault_refuses bytes begun.0 f tree u short (ended_as bytes s end (Some f) tree u begun read ends is) (sym (ap (read_script max_nesting) begun.3) ∙ read)

pub begun_reads : (bytes : List ℕ) (s : Place) (end : Option LexFault) (tree : Tree) (u : Place) (t : Tree) → length bytes ≤ max_source → Begins bytes s → read_script max_nesting s ≡ got tree u
    → EndsAs bytes u.before end → end ≡ None → t ≡ numbered 1 tree → Reads bytes t
begun_reads bytes s end tree u t short begun read ends is same = text_reads bytes begun.0 tree u t short (ended_as bytes s end None tree u begun read ends is) (sym (ap (read_script max_nesting) begun.3) ∙ read) same
