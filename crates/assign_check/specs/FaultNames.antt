-- Number and name of each rule of single assignment. An allocation failure is not a refusal and has no number.
use Rattle.std.specs.Prelude.{ℕ, List, codes}
use Rattle.assign_check.specs.declared.fault.AssignFault.{AssignFault}
use Rattle.assign_check.specs.declared.fault.AssignFault.TheVariants as Assign

abbrev pub assign_name : AssignFault → List ℕ
assign_name (Assign.AssignedTwice at) = codes "S1 AssignedTwice"
assign_name (Assign.PartlyAssigned at) = codes "S2 PartlyAssigned"
assign_name (Assign.NeverAssigned at) = codes "S3 NeverAssigned"
assign_name (Assign.OuterInLoop at) = codes "S4 OuterInLoop"
assign_name (Assign.WholeAndElements at) = codes "S5 WholeAndElements"
assign_name (Assign.OutputUnassigned at) = codes "S6 OutputUnassigned"
assign_name Assign.Memory = codes "no memory"
