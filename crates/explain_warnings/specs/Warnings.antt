-- Warnings about a script: what nothing uses, and what is certainly a mistake by its form.
use Rattle.std.specs.Prelude.{◌≡◌, ◌⊎◌, ℕ, ◌+◌, Bool, List, [], ◌∷◌, ◌++◌, Option, Some, None, if◌then◌else◌, not, ◌&&◌, ◌||◌}
use Rattle.lexer.specs.declared.token.Span.{Span}
use Rattle.language.specs.Reads.{Reads}
use Rattle.language.specs.Table.{Table}
use Rattle.language.specs.Tree.{Word, Declaration, Composite, Part, Tree, import, function, single}
use Rattle.language.specs.Typing.{WellTyped}
use Rattle.explain_warnings.specs.declared.name_use.NameUseKind.{NameUseKind}
use Rattle.explain_warnings.specs.declared.name_use.NameUseKind.TheVariants as Is
use Rattle.explain_warnings.specs.declared.name_use.NameUse.{NameUse}
use Rattle.explain_warnings.specs.declared.warning.WarningKind.{WarningKind}
use Rattle.explain_warnings.specs.declared.warning.WarningKind.TheVariants.{NeverUsed, NeverRead, IdleInput, EmptyRange, ExtraLine, NeverWritten, NeverCalled, EmptyBlock, StepBelowOne, AlwaysHolds, WaitsForItself, KeyTwice, IdleGuard, AlwaysFails, EndlessCall, CircularWait}
use Rattle.explain_warnings.specs.declared.warning.Warning.{Warning}
use Rattle.explain_warnings.specs.Endless.{own_call}
use Rattle.explain_warnings.specs.Lists.{tree_mistakes}
use Rattle.explain_warnings.specs.Mentions.{is_spared, mentions_in, function_mentions, tree_mentions}
use Rattle.explain_warnings.specs.Marks.{uses_local, uses_input, counted, is_called}

abbrev pub warned : Option WarningKind → Span → List Warning
warned None at = []
warned (Some o) at = record { warning_kind = o; at = at } ∷ []

-- the warning for a variable that is read, or only assigned or written, or not used at all
abbrev pub unread : (is_read is_written : Bool) → Option WarningKind
unread is_read is_written = if is_read then None else if is_written then Some NeverRead else Some NeverUsed

-- the warning for an array that is declared without a value: some element of it is read and none is written, or as for any variable
abbrev pub unfilled : (is_element_read is_written : Bool) → Option WarningKind → Option WarningKind
unfilled is_element_read is_written other = if is_element_read && not is_written then Some NeverWritten else other

-- the variables that are read, that are written, and of which an element is read, by the numbers of their declarations; the functions that are called
-- outside of their own bodies, by their positions
pub record Uses : Type 0 where
  pub read : ℕ → Bool
  pub written : ℕ → Bool
  pub element_read : ℕ → Bool
  pub called : ℕ → Bool

-- the warning at an occurrence
abbrev pub warning_by : NameUseKind → Uses → ℕ → Option WarningKind
warning_by Is.Declared u n = unread (u.read n) (u.written n)
warning_by Is.DeclaredArray u n = unfilled (u.element_read n) (u.written n) (unread (u.read n) (u.written n))
warning_by Is.Read u n = None
warning_by Is.ReadElement u n = None
warning_by Is.Written u n = None
warning_by Is.Called u n = None
warning_by Is.EmptyRange u n = Some EmptyRange
warning_by Is.ExtraLine u n = Some ExtraLine
warning_by Is.EmptyBlock u n = Some EmptyBlock
warning_by Is.StepBelowOne u n = Some StepBelowOne
warning_by Is.AlwaysHolds u n = Some AlwaysHolds
warning_by Is.WaitsForItself u n = Some WaitsForItself
warning_by Is.KeyTwice u n = Some KeyTwice
warning_by Is.IdleGuard u n = Some IdleGuard
warning_by Is.AlwaysFails u n = Some AlwaysFails
warning_by Is.CircularWait u n = Some CircularWait

abbrev pub warning_at : Uses → NameUse → Option WarningKind
warning_at u m = warning_by m.kind u m.number

abbrev pub warnings_at : Uses → List NameUse → List Warning
warnings_at u [] = []
warnings_at u (m ∷ ms) = warned (warning_at u m) m.at ++ warnings_at u ms

abbrev pub idle_input : (is_read : Bool) → Declaration → List Warning
idle_input is_read d = if is_read || is_spared d.name.text then [] else warned (Some IdleInput) d.name.span

-- the inputs from position i on that are not read
abbrev pub idle : (read : ℕ → Bool) → ℕ → List Declaration → List Warning
idle read i [] = []
idle read i (d ∷ ds) = idle_input (read i) d ++ idle read (i + 1) ds

-- a function that nothing calls outside of its own body
abbrev pub uncalled : (is_called : Bool) → Word → List Warning
uncalled is_called name = if is_called || is_spared name.text then [] else warned (Some NeverCalled) name.span

-- a call by which each call of a function calls it again
abbrev pub endless : Option Span → List Warning
endless None = []
endless (Some at) = warned (Some EndlessCall) at

-- the warnings of the function at position i
abbrev pub function_warnings : Table → Uses → ℕ → Composite → List Warning
function_warnings t u i f = uncalled (u.called i) f.name
    ++ (idle (uses_input t Is.Read (function_mentions f.body)) 0 f.inputs
    ++ (endless (own_call t i f.body) ++ warnings_at u (function_mentions f.body)))

-- the warnings of a part that `i` functions precede
abbrev pub part_warnings : Table → Uses → ℕ → Part → List Warning
part_warnings t u i (import sp) = []
part_warnings t u i (function f) = function_warnings t u i f
part_warnings t u i (single s) = warnings_at u (mentions_in s)

abbrev pub parts_warnings : Table → Uses → ℕ → Tree → List Warning
parts_warnings t u i [] = []
parts_warnings t u i (p ∷ ps) = part_warnings t u i p ++ parts_warnings t u (counted i p) ps

abbrev pub uses_in : Table → Tree → Uses
uses_in t tree = record {
  read = uses_local t Is.Read (tree_mentions tree);
  written = uses_local t Is.Written (tree_mentions tree);
  element_read = uses_local t Is.ReadElement (tree_mentions tree);
  called = is_called t 0 tree;
}

-- the mistakes of the statements outside of all functions as a whole, then the warnings of the parts
abbrev pub tree_warnings : Table → Uses → Tree → List Warning
tree_warnings t u tree = warnings_at u (tree_mistakes tree) ++ parts_warnings t u 0 tree

-- all warnings of a script, in the order of its text; those of keys that two statements write, and then those of cycles, stand before the others
-- of their list, and that of a call without end before the others of its function's block
abbrev pub warnings : Table → Tree → List Warning
warnings t tree = tree_warnings t (uses_in t tree) tree

-- the text parses to a tree that is well typed by this table of its names, and these are the warnings of the tree
pub record AreOfTree (src : List ℕ) (found : List Warning) : Type 0 where
  pub tree : Tree
  pub table : Table
  pub reads : Reads src tree
  pub typed : WellTyped tree table
  pub are : found ≡ warnings table tree

-- the text parses to no tree that is well typed
abbrev pub IsUntyped : List ℕ → Type 0
IsUntyped src = (tree : Tree) (t : Table) → Reads src tree → ¬ WellTyped tree t

-- all warnings of a text: those of its tree if that is well typed, and none if there is no such tree
abbrev pub AreWarnings : List ℕ → List Warning → Type 0
AreWarnings src found = AreOfTree src found ⊎ (IsUntyped src × (found ≡ []))
