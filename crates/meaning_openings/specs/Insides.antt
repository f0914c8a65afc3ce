-- The blocks nested in a statement: none, those that it opens by a choice, or the content of a `wait`.
use Rattle.std.specs.Prelude.{List, map}
use Rattle.flow.specs.View.{action_view, awaited_view}
use Rattle.language.specs.Core.{Action, Awaited, Block, when, choose, range, each, wait}
use Rattle.meaning_round.specs.Standing.{content_view}
use Rattle.meaning_openings.specs.declared.headers.InnerBlocks.{InnerBlocks as Found}
use Rattle.meaning_openings.specs.declared.headers.InnerBlocks.TheVariants as Is

pub data Inside : Type 0 where
  no_block : Inside
  choices : Action → Inside
  awaited : List Awaited → Block → Inside

abbrev pub inside : Action → Inside
inside (when c b) = choices (when c b)
inside (choose c b d) = choices (choose c b d)
inside (range lo hi st x t b) = choices (range lo hi st x t b)
inside (each a x t b) = choices (each a x t b)
inside (wait ns b) = awaited ns b
inside _ = no_block

abbrev pub inside_view : {A : Type 0} → Found A → Inside
inside_view Is.Nothing = no_block
inside_view (Is.Branches action) = choices (action_view action.now)
inside_view (Is.Waits names c) = awaited (map awaited_view names.now) (content_view c)
