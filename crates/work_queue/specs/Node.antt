-- The entries of a node of the search tree.
use Rattle.std.specs.Prelude.{List, [], ◌∷◌, ◌++◌}
use Rattle.work_queue.specs.declared.entry.QueueEntry.{QueueEntry}
use Rattle.work_queue.specs.declared.tree.Node.{Node}
use Rattle.work_queue.specs.declared.tree.Top.{Top}
use Rattle.work_queue.specs.declared.tree.Top.TheVariants.{Leaf, Fork}

-- the entries of a node and its children, in order
abbrev pub of_node : Node → List QueueEntry
of_node n = n.left ++ n.entry ∷ n.right

-- the entries of a tree, in order
abbrev pub of_top : Top → List QueueEntry
of_top Leaf = []
of_top (Fork b) = of_node b.value
