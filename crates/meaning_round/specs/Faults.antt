-- The faults that a round derives from a live statement in an instance, given what is seen and was derived there
-- before.
use Rattle.std.specs.Prelude.{ℕ, Bool, true, false, ◌&&◌, List, []}
use Rattle.values.specs.declared.map.Element.{Element}
use Rattle.language.specs.Facts.{Fault, Fact, fault}
use Rattle.language.specs.Places.{Path}
use Rattle.meaning_steps.specs.Environment.{Sight}
use Rattle.meaning_steps.specs.News.{Past, unless, deep_by, some_item}
use Rattle.meaning_facts.specs.declared.fact_base.FactBase.{FactBase}
use Rattle.meaning_facts.specs.Keeping.{past_of}
use Rattle.meaning_facts.specs.Paths.{path_of}
use Rattle.meaning_facts.specs.Sighted.{sight_of}
use Rattle.meaning_round.specs.declared.site.LiveStatement.{LiveStatement}

abbrev pub sight_at : FactBase → LiveStatement → Sight
sight_at l t = sight_of l t.instance

abbrev pub past_at : FactBase → LiveStatement → Past
past_at l t = past_of l t.instance

abbrev pub path_at : FactBase → LiveStatement → Path
path_at l t = path_of l.instances.all.items t.instance

-- a fault at a node, unless it is known
abbrev pub fault_news : FactBase → LiveStatement → Fault → ℕ → List Fact
fault_news l t f n = unless ((past_at l t).faulted f t.at n) (fault f t.at (path_at l t, n))

-- the fault of a path that would be too long, if something is opened
abbrev pub deep_news : FactBase → LiveStatement → Bool → List Fact
deep_news l t opens = deep_by (past_at l t) (path_at l t) t.at t.node ((past_at l t).deep && opens)

-- the fault of a path that would be too long, if an array is closed and has an element
abbrev pub each_news : FactBase → LiveStatement → (closed : Bool) → List Element → List Fact
each_news l t true es = deep_news l t (some_item es)
each_news l t false es = []
