use Rattle.std.proofs.Common.{rules, ◌≡◌, sym, subst}
use Rattle.language.specs.Places.{place}
use Rattle.flow.specs.View.{name_view}
use Rattle.meaning_facts.specs.declared.facts.Place.{Place as Spot}
use Rattle.meaning_facts.specs.Stands.{IsPlace}
use Rattle.meaning_facts.specs.Store.{spot}
use Rattle.meaning_facts.proofs.Standing.{lies}
use Rattle.meaning_facts.proofs.instances.Instances.place.Goals as goal

pub returns-clause-lies : goal.returns-clause-lies
returns-clause-lies c = λ s path h.
    let e : c.owner_place.result ≡ spot c.args.self.now.all.items c.args.instance (name_view c.args.name) = search rules in
    subst (λ (z : Spot). IsPlace s c.args.self.now.all.items z (place s path (name_view c.args.name))) (sym e)
    (lies s c.args.self.now.all.items c.args.instance path h (name_view c.args.name).up (name_view c.args.name).what)
