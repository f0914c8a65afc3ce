-- The results that entries can compute, by their act.
use Rattle.std.specs.Prelude.{Bool, true, false, ◌||◌, Option, Some, None}
use Rattle.task_code.specs.Code.{Act, Assert, Call, Cell, Copy, Fill, If, Loop, Print, InsertElement, Read, Set, Wait, loop_of}
use Rattle.task_code.specs.Compute.{Computed, Fails, Gives, Inserts, Opens, Takes, Turns}

-- it stores a scalar
abbrev pub gives_scalar : Act → Bool
gives_scalar (Cell e) = true
gives_scalar Read = true
gives_scalar (Set r e) = true
gives_scalar _ = false

-- it stores elements
abbrev pub gives_elements : Act → Bool
gives_elements (Fill r es) = true
gives_elements (Copy r) = true
gives_elements (InsertElement r i e) = true
gives_elements _ = false

-- it only prints or tests its value
abbrev pub keeps_nothing : Act → Bool
keeps_nothing (Print e) = true
keeps_nothing (Assert e) = true
keeps_nothing _ = false

-- it opens a branch, or one block
abbrev pub takes_branch : Act → Bool
takes_branch (If e b d) = true
takes_branch _ = false

abbrev pub enters_block : Act → Bool
enters_block (Call b rs os) = true
enters_block (Wait hs b) = true
enters_block _ = false

abbrev pub is_some_loop : Option Loop → Bool
is_some_loop None = false
is_some_loop (Some w) = true

-- an entry with this act can compute this
abbrev pub fits : Act → Computed → Bool
fits a (Fails f) = true
fits a (Gives v) = gives_scalar a || keeps_nothing a
fits a (Inserts xs) = gives_elements a
fits a (Takes b) = takes_branch a
fits a (Turns ts) = is_some_loop (loop_of a)
fits a Opens = enters_block a

abbrev pub is_fault : Computed → Bool
is_fault (Fails f) = true
is_fault _ = false
