-- A scoped outline without a fault is singly assigned.
use Rattle.std.specs.Prelude.{◌≡◌, [], ◌++◌, None}
use Rattle.std.specs.List.{flat_map}
use Rattle.assign_check.specs.Outline.{Declared, Outline}
use Rattle.assign_check.specs.Faults.{way_faults, split_faults, uses_in, declared_in, variable_faults}
use Rattle.assign_check.proofs.clauses.Claims.{NoFault}
use Rattle.assign_check.proofs.clauses.SingleOutline.{Owns}
use Rattle.assign_check.proofs.counting.Counts.{none_left, none_right}
use Rattle.assign_check.proofs.faults.Bodies.{UsedWell, used_well}
use Rattle.assign_check.proofs.through.Ways.{WellAssigned}
use Rattle.assign_check.proofs.through.Clean.{body_well}

pub no_fault : NoFault
no_fault o s none = record {
  once = λ d b n w. (assigned d b w).once n;
  given_once = λ d b n w. (assigned d b w).given_once n;
  alike = λ d b n at p q i j w. (assigned d b w).alike n at p q i j;
  assigned = λ d b w. (used d b w).assigned;
  outside_loops = λ d b n p w. (assigned d b w).outside_loops n p;
  one_form = λ d b w. (used d b w).one_form;
  given_form = λ d b w. (used d b w).given_form;
  output_assigned = λ d b w. (used d b w).output_assigned;
}
  where
    on_ways : way_faults None [] o ++ split_faults None o ≡ []
    on_ways = none_left (way_faults None [] o ++ split_faults None o) (flat_map (variable_faults (uses_in o)) (declared_in o)) none

    assigned : (d : Declared) (b : Outline) → Owns o d b → WellAssigned d b
    assigned d b w = body_well [] s (λ v i l. elim i [ ]) (none_left (way_faults None [] o) (split_faults None o) on_ways) (none_right (way_faults None [] o) (split_faults None o) on_ways) w.block w.declared

    used : (d : Declared) (b : Outline) → Owns o d b → UsedWell d b
    used d b w = used_well o s (none_right (way_faults None [] o ++ split_faults None o) (flat_map (variable_faults (uses_in o)) (declared_in o)) none) d b w.block w.declared
