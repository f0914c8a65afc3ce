-- The printed form of a refusal: its number, its name and its span.
use Rattle.std.specs.Prelude.{ℕ, List, ◌∷◌, ◌++◌, Option, option_map, codes}
use Rattle.std.specs.Fmt.{decimal}
use Rattle.compile.specs.declared.fault.CompileFault.{CompileFault}
use Rattle.compile.specs.FaultNames.{fault_name}
use Rattle.compile.specs.Places.{span_of}
use Rattle.swt_status.specs.declared.refusal.Refusal.{Refusal}

-- the refusal for a fault of the compiler; a fault without a span has none
abbrev pub refusal_of : CompileFault → Option Refusal
refusal_of fault = option_map (λ at. record { fault = fault; at = at }) (span_of fault)

-- `S1 AssignedTwice 11 12`
abbrev pub refusal_text : Refusal → List ℕ
refusal_text r = fault_name r.fault ++ 32 ∷ (decimal r.at.from ++ 32 ∷ decimal r.at.to)
