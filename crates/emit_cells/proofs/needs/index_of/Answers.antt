use Rattle.std.proofs.Common.{ap, ◌∙◌, map}
use Rattle.code_rules.specs.CodeNames.{place_in}
use Rattle.emit_cells.specs.PlainNeeds.{need_of, need_named}
use Rattle.emit_cells.proofs.Keys.{some_place, none_place, need_is_named}
use Rattle.emit_cells.proofs.needs.index_of.Goals as goal

pub returns-in-Some-clause-place : goal.returns-in-Some-clause-place
returns-in-Some-clause-place c plain =
    let ks = c.args.needs.now.keys in
    some_place c.new-wanted.result ks c.in-Some.place c.new-wanted.ensures.plain plain c.in-Some.ensures.index
    ∙ ap (λ n. place_in n (map need_of ks)) (need_is_named c.new-wanted.result ∙ ap need_named c.new-wanted.ensures.name)

pub returns-in-None-clause-place : goal.returns-in-None-clause-place
returns-in-None-clause-place c plain =
    let ks = c.args.needs.now.keys in
    c.len.ensures.len
    ∙ none_place c.new-wanted.result ks c.new-wanted.ensures.plain plain c.in-None.ensures.index
    ∙ ap (λ n. place_in n (map need_of ks)) (need_is_named c.new-wanted.result ∙ ap need_named c.new-wanted.ensures.name)
