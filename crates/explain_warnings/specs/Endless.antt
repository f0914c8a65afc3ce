-- Functions of which each call calls the function again, so that no call ends.
use Rattle.std.specs.Prelude.{ℕ, List, [], ◌∷◌, ◌++◌, Option, Some, None, if◌then◌else◌}
use Rattle.lexer.specs.declared.token.Span.{Span}
use Rattle.language.specs.Table.{Table}
use Rattle.language.specs.Tree.{Statement, statement, Command, declare, assign, write, assign_all, calls, choice, choice_else, loop, waits, Body, body, Statements, no_statements, and_statement}
use Rattle.explain_warnings.specs.declared.name_use.NameUse.{NameUse}
use Rattle.explain_warnings.specs.Marks.{called_function, is_number}
use Rattle.explain_warnings.specs.Mentions.{reads_of, over_mentions, command_mentions}

-- The occurrences in what each call of a function computes of a statement in it: not those in a branch, nor in the block of a loop, which may have
-- no turn.
abbrev mutual
  pub certain : Statement → List NameUse
  certain (statement nd c) = command_certain c

  pub command_certain : Command → List NameUse
  command_certain (declare d r) = command_mentions (declare d r)
  command_certain (assign w r) = command_mentions (assign w r)
  command_certain (write w i e) = command_mentions (write w i e)
  command_certain (assign_all ws c) = command_mentions (assign_all ws c)
  command_certain (calls p c) = command_mentions (calls p c)
  command_certain (choice e b) = reads_of e
  command_certain (choice_else e b d) = reads_of e
  command_certain (loop v k o b) = over_mentions o
  command_certain (waits ws b) = body_certain b

  pub body_certain : Body → List NameUse
  body_certain (body from ss) = all_certain ss

  pub all_certain : Statements → List NameUse
  all_certain no_statements = []
  all_certain (and_statement s ss) = certain s ++ all_certain ss

-- the place of the first of these occurrences that calls the function at position i
abbrev pub first_call : Table → (i : ℕ) → List NameUse → Option Span
first_call t i [] = None
first_call t i (m ∷ ms) = if is_number i (called_function t m) then Some m.at else first_call t i ms

-- the first call by which each call of the function at position i, with this body, calls it again
abbrev pub own_call : Table → (i : ℕ) → Body → Option Span
own_call t i b = first_call t i (body_certain b)
