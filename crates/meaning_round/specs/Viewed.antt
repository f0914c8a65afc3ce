-- Facts of a program as facts of the script.
use Rattle.std.specs.Prelude.{List, map}
use Rattle.language.specs.Facts as script
use Rattle.meaning_facts.specs.declared.facts.Fact.{Fact}
use Rattle.meaning_facts.specs.declared.instances.Instance.{Instance}
use Rattle.meaning_facts.specs.Growing.{fact_view}

abbrev pub facts_view : List Instance → List Fact → List script.Fact
facts_view ns fs = map (fact_view ns) fs
