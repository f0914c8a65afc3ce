-- The order in which entries are taken.
use Rattle.std.specs.Prelude.{Bool}
use Rattle.std.specs.declared.cmp.Ordering.{Ordering}
use Rattle.std.specs.Ordering.{nat_cmp, int_cmp, on, flip_args, then_cmp, is_lt, is_eq}
use Rattle.work_queue.specs.declared.entry.QueueEntry.{QueueEntry}

-- greater priority first, and at one priority the smaller number
abbrev pub order : QueueEntry → QueueEntry → Ordering
order = then_cmp (flip_args (on (λ e. e.priority) int_cmp)) (on (λ e. e.no) nat_cmp)

-- x is taken before y
abbrev pub precedes : QueueEntry → QueueEntry → Bool
precedes x y = is_lt (order x y)

-- x and y have the same priority and number
abbrev pub same : QueueEntry → QueueEntry → Bool
same x y = is_eq (order x y)
