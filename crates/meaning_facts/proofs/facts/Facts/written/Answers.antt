use Rattle.std.proofs.Common.{rules, ◌≡◌, List, Some, sym, subst}
use Rattle.std.specs.Prelude.{Option}
use Rattle.std.specs.HashMap.{get}
use Rattle.values.specs.Keys.{key_seen}
use Rattle.meaning_facts.specs.declared.facts.Write.{Write}
use Rattle.meaning_facts.specs.Store.{listed_writes, same_pair, writes_under, WrittenAs}
use Rattle.meaning_facts.proofs.facts.Facts.written.Goals as goal

pub returns-in-Some : goal.returns-in-Some
returns-in-Some c =
    let there : get same_pair c.args.self.now.writes (c.args.array.instance, c.args.array.node) ≡ Some c.in-Some.writes.now = search rules in
    subst (λ (o : Option (List Write)). WrittenAs c.written.result (writes_under (listed_writes o) (key_seen c.args.key))) (sym there) c.written.ensures
