-- The entries of both kinds.
use Rattle.work_queue.specs.declared.entry.Kind.{Kind}
use Rattle.work_queue.specs.declared.entry.Kind.TheVariants.{Control, Leaf}
use Rattle.work_queue.specs.Waiting.{Waiting, none}

-- the queued entries of each kind
pub record Both : Type 0 where
  pub control : Waiting
  pub leaf : Waiting

-- no entry is queued
abbrev pub empty : Both
empty = record { control = none; leaf = none }

-- the queued entries of one kind
abbrev pub of : Kind → Both → Waiting
of Control q = q.control
of Leaf q = q.leaf

-- the queue after a change of one kind
abbrev pub with_changed : Kind → (Waiting → Waiting) → Both → Both
with_changed Control change q = record q { control = change q.control }
with_changed Leaf change q = record q { leaf = change q.leaf }
