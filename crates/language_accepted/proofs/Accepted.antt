-- The core of a placed tree that is well typed is well formed where it is singly assigned, and has types.
use Rattle.std.specs.Prelude.{ℕ, List}
use Rattle.language.specs.Facts.{Fact, Knowledge}
use Rattle.language.specs.Meaning.{Known, Meaning}
use Rattle.language.specs.Reads.{Reads}
use Rattle.language.specs.Resolved.{core}
use Rattle.language.specs.Scopes.{signatures}
use Rattle.language.specs.Single.{SinglyAssigned}
use Rattle.language.specs.Table.{Table}
use Rattle.language.specs.Tree.{Tree}
use Rattle.language.specs.Typing.{WellTyped}
use Rattle.language.specs.WellFormed.{WellFormed}
use Rattle.language_laws.specs.TypedValues.{TypedValues}
use Rattle.language_accepted.specs.Always.{FormedAlways}
use Rattle.language_accepted.specs.Placed.{IsPlaced}
use Rattle.language_accepted.specs.Statements.{StmtsApart}
use Rattle.language_accepted.specs.Types.{Types}
use Rattle.language_accepted.proofs.Always.{always}
use Rattle.language_accepted.proofs.Apart.{read_placed}
use Rattle.language_accepted.proofs.Formed.{formed}
use Rattle.language_accepted.proofs.Once.{rising_once}
use Rattle.language_accepted.proofs.StmtsApart.{stmts_apart}
use Rattle.language_accepted.proofs.Typed.{live_stands}
use Rattle.language_accepted.proofs.TypedTree.{has_types}
use Rattle.language_accepted.proofs.Values.{meaning_has}
use Rattle.language_accepted.proofs.ValueTypes.{typed_values}

pub placed_formed : (t : Table) (tree : Tree) → IsPlaced tree → WellTyped tree t → SinglyAssigned (core t tree) → WellFormed (core t tree)
placed_formed t tree p w s = formed t tree p.in_order w s p.apart

pub placed_always : (t : Table) (tree : Tree) → IsPlaced tree → WellTyped tree t → FormedAlways (core t tree)
placed_always t tree p w = always t tree p.in_order w p.apart

pub placed_stmts : (t : Table) (tree : Tree) → IsPlaced tree → StmtsApart (core t tree)
placed_stmts t tree p = stmts_apart t tree (rising_once tree p.in_order)

-- of a tree that a text reads as
pub accepted_formed : (bytes : List ℕ) (t : Table) (tree : Tree) → Reads bytes tree → WellTyped tree t → SinglyAssigned (core t tree) → WellFormed (core t tree)
accepted_formed bytes t tree r w s = placed_formed t tree (read_placed bytes tree r) w s

pub accepted_stmts : (bytes : List ℕ) (t : Table) (tree : Tree) → Reads bytes tree → StmtsApart (core t tree)
accepted_stmts bytes t tree r = placed_stmts t tree (read_placed bytes tree r)

-- TYPES

pub placed_types : (t : Table) (tree : Tree) → IsPlaced tree → WellTyped tree t → Types t tree
placed_types t tree p w =
    let q = has_types t tree p.in_order w in
    let found = (placed_always t tree p w).call_found in
    record {
      type_of = q.0;
      has = q.1;
      declared = q.2;
      facts = meaning_has (signatures tree) q.0 (core t tree) q.1 found;
      live = λ path b l. live_stands (signatures tree) q.0 (core t tree) q.1 found l;
    }

-- no value of a wrong type is among what is ever known, nor among any part of it
values_within : (t : Table) (tree : Tree) → IsPlaced tree → WellTyped tree t → (K : Knowledge) → ((f : Fact) → K f → Meaning (core t tree) f) → TypedValues (core t tree) K
values_within t tree p w K part =
    let q = placed_types t tree p w in
    typed_values (signatures tree) q.type_of (core t tree) q.has K (λ f k. q.facts f (part f k))

pub values_meant : (t : Table) (tree : Tree) → IsPlaced tree → WellTyped tree t → TypedValues (core t tree) (Meaning (core t tree))
values_meant t tree p w = values_within t tree p w (Meaning (core t tree)) (λ f k. k)

pub values_known : (t : Table) (tree : Tree) → IsPlaced tree → WellTyped tree t → (n : ℕ) → TypedValues (core t tree) (Known (core t tree) n)
values_known t tree p w n = values_within t tree p w (Known (core t tree) n) (λ f k. (n, k))
