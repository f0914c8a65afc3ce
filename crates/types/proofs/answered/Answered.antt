-- What an exact answer says by the typing rules.
use Rattle.std.proofs.Common.{◌≡◌, ℕ, List, sym, ap, ◌∙◌, subst}
use Rattle.types.specs.declared.typed.NameEntry.{NameEntry}
use Rattle.types.specs.declared.typed.Typed as typed
use Rattle.types.specs.declared.typed.NameMeaning.TheVariants.{Nothing}
use Rattle.language.specs.Tree.{Tree}
use Rattle.language.specs.Numbered.{numbered}
use Rattle.language.specs.Typing.{WellTyped}
use Rattle.types.specs.Outcomes.{got}
use Rattle.types.specs.Typed.{table_of, meaning_at, settled_at}
use Rattle.types.specs.Scripts.{checked}
use Rattle.types.proofs.settled.Table.{script_typed}

pub accepted_typed : (tree : Tree) (t : typed.Typed) (s : List NameEntry) → checked tree ≡ got (tt {0}) s → ((k : ℕ) → meaning_at t k ≡ settled_at s k Nothing)
    → (n : ℕ) (plain : Tree) → tree ≡ numbered n plain → WellTyped tree (table_of t)
accepted_typed tree t s is says n plain same = subst (λ (x : Tree). WellTyped x (table_of t)) (sym same) (script_typed n plain t s (ap checked (sym same) ∙ is) says)
