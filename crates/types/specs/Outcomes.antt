-- Results of checks: a value with all names that were recorded so far, or the first fault.
use Rattle.std.specs.Prelude.{◌≡◌, ◌≢◌, List, Result, Ok, Err}
use Rattle.types.specs.declared.fault.TypeFault.{TypeFault}
use Rattle.types.specs.declared.fault.TypeFault.TheVariants.{Memory}
use Rattle.types.specs.declared.typed.NameEntry.{NameEntry}

pub data Outcome (A : Type 0) : Type 0 where
  refused : TypeFault → Outcome A
  got : A → List NameEntry → Outcome A

-- a check, as a function of the names recorded so far
abbrev pub Check : Type 0 → Type 0
Check A = List NameEntry → Outcome A

-- sequencing of two checks: the second one receives the value of the first
infixl 3 ◌>>=◌
abbrev pub ◌>>=◌ : {A B : Type 0} → Outcome A → (A → Check B) → Outcome B
(refused f) >>= k = refused f
(got a s) >>= k = k a s

-- a function returns the outcome of a check, except after an allocation failure
abbrev pub Gives : {X A : Type 0} → (X → A) → Result X TypeFault → List NameEntry → Outcome A → Type 0
Gives view (Ok x) settled outcome = outcome ≡ got (view x) settled
Gives view (Err f) settled outcome = f ≢ Memory → outcome ≡ refused f

-- a function that records no names returns the outcome of a check
abbrev pub Judges : {X A : Type 0} → (X → A) → Result X TypeFault → Check A → Type 0
Judges view (Ok x) check = (settled : List NameEntry) → check settled ≡ got (view x) settled
Judges view (Err f) check = (settled : List NameEntry) → check settled ≡ refused f

-- a function that records no names returns the outcome of a check, except after an allocation failure
abbrev pub Tells : {X A : Type 0} → (X → A) → Result X TypeFault → Check A → Type 0
Tells view (Ok x) check = (settled : List NameEntry) → check settled ≡ got (view x) settled
Tells view (Err f) check = f ≢ Memory → (settled : List NameEntry) → check settled ≡ refused f
