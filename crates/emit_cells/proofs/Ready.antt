-- Needs that were noted are ready for an expression over them.
use Rattle.std.proofs.Common.{◌<◌, ◌≤◌, ◌^◌, Bool, true, false, List, [], ◌∷◌, length, ap, arith}
use Rattle.std.specs.Prelude.{if◌then◌else◌}
use Rattle.std.proofs.lemmas.List.{length-map}
use Rattle.task_code.specs.Code.{Need}
use Rattle.task_code.specs.Shape.{is_same_plain}
use Rattle.code_rules.specs.CodeNames.{each_once, without}
use Rattle.emit_cells.specs.declared.needs.PlainNeed.{PlainNeed}
use Rattle.emit_cells.specs.PlainNeeds.{need_of, Noted, IsReady}

without_shorter : (n : Need) (ms : List Need) → length (without n ms) ≤ length ms
without_shorter n [] = omega arith
without_shorter n (m ∷ ms) = by (is_same_plain n m) (without_shorter n ms)
  where
    by : (b : Bool) → length (without n ms) ≤ length ms → length (if b then without n ms else m ∷ without n ms) ≤ length (m ∷ ms)
    by true h = omega arith
    by false h = omega arith

once_shorter : (ns : List Need) → length (each_once ns) ≤ length ns
once_shorter [] = omega arith
once_shorter (n ∷ ns) = let h = once_shorter ns in let w = without_shorter n (each_once ns) in omega arith

pub ready_many : (ns : List Need) (ks : List PlainNeed) → Noted ns ks → length ns < 2 ^ 32 → IsReady ks
ready_many ns ks noted few = record {
  plain = noted.plain;
  few = let a = once_shorter ns in let b = ap length noted.are in omega (arith, length-map ks need_of);
}

pub ready : (ns : List Need) (ks : List PlainNeed) → Noted ns ks → length ns < 2 ^ 30 → IsReady ks
ready ns ks noted few = ready_many ns ks noted (omega (arith, few))
