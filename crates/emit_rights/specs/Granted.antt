-- Entries to which rights are assigned, and the code before that.
use Rattle.std.specs.Prelude.{◌≡◌, ℕ, zero, suc, ◌+◌, List, [], ◌∷◌, ◌++◌, map, take, Bool}
use Rattle.task_code.specs.Code.{Entry, Code, Name}
use Rattle.task_code.specs.declared.entry.Entry.{Entry as LaidEntry}
use Rattle.task_code.specs.declared.code.Body.{Body as LaidBody}
use Rattle.task_code.specs.View.{entry_view, body_view}
use Rattle.ref_counting.specs.declared.entry_name.EntryName.{EntryName}
use Rattle.ref_counting.specs.declared.uses.RightKind.{RightKind}
use Rattle.ref_counting.specs.declared.uses.RightKind.TheVariants.{Read, Write}
use Rattle.ref_counting.specs.Leads.{name_of}
use Rattle.language.specs.Core.{Core}
use Rattle.code_rules.specs.Emitted.{IsEmitted}
use Rattle.code_rules.specs.Laying.{bare, Kinds, LaysScript}

-- the code of these bodies and these entries
abbrev pub laid_code : List LaidBody → List LaidEntry → Code
laid_code bs es = record { entries = map entry_view es; bodies = map body_view bs }

-- an entry with one more right
abbrev pub with_right : RightKind → Entry → Name → Entry
with_right Read e r = record e { reads = e.reads ++ r ∷ [] }
with_right Write e r = record e { writes = e.writes ++ r ∷ [] }

-- the same entries, except that the entry of a number has one more right
abbrev pub given : RightKind → List Entry → ℕ → Name → List Entry
given d [] n r = []
given d (e ∷ es) zero r = with_right d e r ∷ es
given d (e ∷ es) (suc n) r = e ∷ given d es n r

-- the same entries with these rights added, one after another
abbrev pub given_all : RightKind → List Entry → List EntryName → List Entry
given_all d es [] = es
given_all d es (l ∷ ls) = given_all d (given d es l.entry (name_of l)) ls

-- the right of the next of these leads is assigned, after the first n
abbrev pub GivesNext : RightKind → List EntryName → ℕ → List Entry → List Entry → Type 0
GivesNext d ls n old new = (es : List Entry) → old ≡ given_all d es (take n ls) → new ≡ given_all d es (take (n + 1) ls)

-- the same entries, except that the entry of a number, or each of the first n, has no rights
abbrev pub bare_at : List Entry → ℕ → List Entry
bare_at [] n = []
bare_at (e ∷ es) zero = bare e ∷ es
bare_at (e ∷ es) (suc n) = e ∷ bare_at es n

abbrev pub bare_below : List Entry → ℕ → List Entry
bare_below es zero = es
bare_below [] (suc n) = []
bare_below (e ∷ es) (suc n) = bare e ∷ bare_below es n

-- for whatever core the code C is laid, D is the code emitted for it
abbrev pub EmittedAs : (laid emitted : Code) → Type 0
EmittedAs C D = (c : Core) (fs : List Kinds) (ds : List (ℕ × Bool)) → LaysScript c fs ds C → IsEmitted c fs ds D
