-- The names that entries themselves read and write.
use Rattle.std.specs.Prelude.{◌≡◌, ℕ, ◌<◌, List}
use Rattle.dataflow.specs.System.{In}
use Rattle.task_code.specs.Code.{Code, Entry, Name, entry, targets}
use Rattle.task_code.specs.Exact.{needs_of}
use Rattle.ref_counting.specs.declared.uses.RightKind.{RightKind}
use Rattle.ref_counting.specs.declared.uses.RightKind.TheVariants.{Read, Write}

abbrev pub own_of : RightKind → Entry → List Name
own_of Read = needs_of
own_of Write = targets

-- one of these names, of this entry
abbrev pub OfThis : ℕ → List Name → ℕ → Name → Type 0
OfThis n ns i r = (i ≡ n) × In r ns

-- a name that an entry below a number uses itself
abbrev pub UsesBelow : Code → (Entry → List Name) → ℕ → ℕ → Name → Type 0
UsesBelow C own n i r = (i < n) × In r (own (entry C i))
