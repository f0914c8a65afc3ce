use Rattle.std.proofs.Common.{rules}
use Rattle.std.proofs.lemmas.List.Sorted.{IsPartitionPoint-from_clause}
use Rattle.values.specs.Keys.{key_below}
use Rattle.values.proofs.Maps.{rising-parted, found-parted, inserted-parted}
use Rattle.values.proofs.map.below.Goals as goal

pub returns-clause-found : goal.returns-clause-found
returns-clause-found c =
    let k = c.args.key.now in
    let es = c.args.elements.now in
    let point = IsPartitionPoint-from_clause (λ e. key_below e.key k) es c.partition_point.result c.partition_point.ensures.partitioned (rising-parted k es c.requires) (λ a r q k. search rules) in
    found-parted k es c.partition_point.result c.requires c.partition_point.ensures.bound point

pub returns-clause-gap : goal.returns-clause-gap
returns-clause-gap c =
    let k = c.args.key.now in
    let es = c.args.elements.now in
    let point = IsPartitionPoint-from_clause (λ e. key_below e.key k) es c.partition_point.result c.partition_point.ensures.partitioned (rising-parted k es c.requires) (λ a r q k. search rules) in
    inserted-parted k es c.partition_point.result c.requires c.partition_point.ensures.bound point
