-- Lists of statements and of faults in their order.
use Rattle.std.proofs.Common.{◌≡◌, ℕ, true, List, []}
use Rattle.std.specs.Prelude.{nat_eq}
use Rattle.std.specs.Cmp.{IsStrictWeakOrder}
use Rattle.std.specs.List.Sorted.{IsPermutation, IsSortedBy}
use Rattle.meaning_outcomes.specs.Lists.{each_once, Lists}
use Rattle.paths.specs.declared.faults.Fault.{Fault}
use Rattle.paths.specs.declared.statements.StatementInstance.{StatementInstance}
use Rattle.paths.specs.Order.{fault_below, same_fault, same_statement, statement_below}
use Rattle.paths.proofs.Orders.{number_order}
use Rattle.paths.proofs.Points.{mark_below, mark_of, mark_order, point_below, point_of, point_order, same_mark, same_point}
use Rattle.meaning_outcomes.proofs.Sorted.{lists_all, weak_order}

pub number_own : (n : ℕ) → nat_eq n n ≡ true
number_own n = number_order.own n

pub statement_weak : IsStrictWeakOrder statement_below
statement_weak = weak_order point_of point_below same_point point_order

pub lists_statements : (xs sorted found : List StatementInstance) → IsPermutation xs sorted → IsSortedBy statement_below sorted → found ≡ each_once same_statement [] sorted → Lists statement_below same_statement xs found
lists_statements = lists_all point_of point_below same_point point_order

pub fault_weak : IsStrictWeakOrder fault_below
fault_weak = weak_order mark_of mark_below same_mark mark_order

pub lists_faults : (xs sorted found : List Fault) → IsPermutation xs sorted → IsSortedBy fault_below sorted → found ≡ each_once same_fault [] sorted → Lists fault_below same_fault xs found
lists_faults = lists_all mark_of mark_below same_mark mark_order
