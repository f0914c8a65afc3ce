-- A scoped outline that is singly assigned has no fault.
use Rattle.std.specs.Prelude.{[], ◌++◌, None}
use Rattle.std.specs.List.{flat_map}
use Rattle.assign_check.specs.Outline.{Declared, Outline, declares}
use Rattle.assign_check.specs.Faults.{way_faults, split_faults, uses_in, declared_in, variable_faults}
use Rattle.assign_check.proofs.clauses.Claims.{NotSingle}
use Rattle.assign_check.specs.Through.{HasStep, BlockIn}
use Rattle.assign_check.proofs.clauses.SingleOutline.{Owns, Single}
use Rattle.assign_check.proofs.counting.Counts.{none_both}
use Rattle.assign_check.proofs.faults.Bodies.{UsedWell, no_variable_fault}
use Rattle.assign_check.proofs.through.Faultless.{AllAssigned, body_free}

owns : {o b : Outline} {d : Declared} → BlockIn b o → HasStep (declares d) b → Owns o d b
owns i h = record { block = i; declared = h }

well_assigned : {o : Outline} → Single o → AllAssigned o
well_assigned s d b i h = record {
  once = λ n. s.once d b n (owns i h);
  given_once = λ n. s.given_once d b n (owns i h);
  alike = λ n at p q j k. s.alike d b n at p q j k (owns i h);
  outside_loops = λ n p. s.outside_loops d b n p (owns i h);
}

well_used : {o b : Outline} {d : Declared} → Single o → BlockIn b o → HasStep (declares d) b → UsedWell d b
well_used {b = b} {d = d} s i h = record {
  assigned = s.assigned d b (owns i h);
  one_form = s.one_form d b (owns i h);
  given_form = s.given_form d b (owns i h);
  output_assigned = s.output_assigned d b (owns i h);
}

pub not_single : NotSingle
not_single o scoped s =
    let free = body_free [] scoped (λ v i l. elim i [ ]) (λ x a i. elim i [ ]) (λ x a. elim a.visible [ ]) (well_assigned s) in
    none_both {xs = way_faults None [] o ++ split_faults None o} {ys = flat_map (variable_faults (uses_in o)) (declared_in o)}
    (none_both {xs = way_faults None [] o} {ys = split_faults None o} free.targets free.branches) (no_variable_fault o scoped (λ d b i h. well_used s i h))
