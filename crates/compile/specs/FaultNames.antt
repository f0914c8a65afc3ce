-- The number and the name of each refusal. An allocation failure is not a refusal and has no number.
use Rattle.std.specs.Prelude.{ℕ, List, codes}
use Rattle.syntax.specs.FaultNames.{parse_name}
use Rattle.types.specs.FaultNames.{type_name}
use Rattle.assign_check.specs.FaultNames.{assign_name}
use Rattle.compile.specs.declared.fault.CompileFault.{CompileFault}
use Rattle.compile.specs.declared.fault.CompileFault.TheVariants as Compile

abbrev pub fault_name : CompileFault → List ℕ
fault_name (Compile.Parse f) = parse_name f
fault_name (Compile.Types f) = type_name f
fault_name (Compile.Assignments f) = assign_name f
fault_name Compile.Memory = codes "no memory"
