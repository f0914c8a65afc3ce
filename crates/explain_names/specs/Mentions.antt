-- The occurrences of a block's variables, declarations and assignments, in the order of the text.
use Rattle.std.specs.Prelude.{ℕ, List, [], ◌∷◌, ◌++◌, map, Option, Some, None, if◌then◌else◌, nat_le, nat_lt, ◌&&◌}
use Rattle.language.specs.Tree.{Word, Declaration, RightSide, Over, array, range, Statement, statement, Command, declare, assign, write, assign_all, calls, choice, choice_else, loop, waits, Body, body, Statements, no_statements, and_statement, Composite, Tree, import, function, single}
use Rattle.explain_names.specs.declared.occurrence.OccurrenceKind.{OccurrenceKind}
use Rattle.explain_names.specs.declared.occurrence.OccurrenceKind.TheVariants.{Declared, Output, Given, Assigned, Written}
use Rattle.explain_names.specs.declared.occurrence.Occurrence.{Occurrence}
use Rattle.explain_names.specs.declared.occurrence.DisplayType.{DisplayType}
use Rattle.language.specs.declared.tree.Base.TheVariants.{Int}
use Rattle.language.specs.declared.tree.Shape.TheVariants.{Scalar}

abbrev pub occurrence : OccurrenceKind → Option DisplayType → Word → Occurrence
occurrence k s w = record { kind = k; at = w.span; sort = s }

abbrev pub declared_as : OccurrenceKind → Declaration → Occurrence
declared_as k d = occurrence k (Some (record { base = d.base; shape = d.shape })) d.name

abbrev pub whole_number : DisplayType
whole_number = record { base = Int; shape = Scalar }

-- a value of a loop over a range is a whole number; for an array the type is given where the array is declared
abbrev pub value_sort : Over → Option DisplayType
value_sort (array w) = None
value_sort (range low high step) = Some whole_number

-- a declaration with a right side also assigns the variable
abbrev pub declaration_mentions : Declaration → Option RightSide → List Occurrence
declaration_mentions d None = declared_as Declared d ∷ []
declaration_mentions d (Some r) = declared_as Declared d ∷ declared_as Assigned d ∷ []

abbrev pub key_mentions : Option DisplayType → Option Word → List Occurrence
key_mentions s None = []
key_mentions s (Some k) = occurrence Given s k ∷ []

abbrev mutual
  pub mentions_in : Statement → List Occurrence
  mentions_in (statement nd c) = command_mentions c

  pub command_mentions : Command → List Occurrence
  command_mentions (declare d r) = declaration_mentions d r
  command_mentions (assign w r) = occurrence Assigned None w ∷ []
  command_mentions (write w i e) = occurrence Written None w ∷ []
  command_mentions (assign_all ws c) = map (occurrence Assigned None) ws
  command_mentions (calls p c) = []
  command_mentions (choice e b) = body_mentions b
  command_mentions (choice_else e b d) = body_mentions b ++ body_mentions d
  command_mentions (loop v k o b) = occurrence Given (value_sort o) v ∷ (key_mentions (value_sort o) k ++ body_mentions b)
  command_mentions (waits ws b) = body_mentions b

  pub body_mentions : Body → List Occurrence
  body_mentions (body from ss) = all_mentions ss

  pub all_mentions : Statements → List Occurrence
  all_mentions no_statements = []
  all_mentions (and_statement s ss) = mentions_in s ++ all_mentions ss

-- those of a function's outputs, its inputs, and its body
abbrev pub function_mentions : Composite → List Occurrence
function_mentions f = map (declared_as Output) f.outputs ++ map (declared_as Given) f.inputs ++ body_mentions f.body

-- those of the statements outside of functions
abbrev pub script_mentions : Tree → List Occurrence
script_mentions [] = []
script_mentions (import sp ∷ ps) = script_mentions ps
script_mentions (function f ∷ ps) = script_mentions ps
script_mentions (single s ∷ ps) = mentions_in s ++ script_mentions ps

-- the first function that contains an offset
abbrev pub function_around : ℕ → Tree → Option Composite
function_around at [] = None
function_around at (import sp ∷ ps) = function_around at ps
function_around at (function f ∷ ps) = if nat_le f.node.first.from at && nat_lt at f.node.to then Some f else function_around at ps
function_around at (single s ∷ ps) = function_around at ps

-- the occurrences in that function, or else in the script's own statements
abbrev pub mentions_of : Option Composite → Tree → List Occurrence
mentions_of (Some f) tree = function_mentions f
mentions_of None tree = script_mentions tree

abbrev pub mentions_around : ℕ → Tree → List Occurrence
mentions_around at tree = mentions_of (function_around at tree) tree
