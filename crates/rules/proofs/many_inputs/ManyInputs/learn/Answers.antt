use Rattle.std.proofs.Common.{rules, ◌≡◌, not, filter, sym, ap, subst, ◌∙◌}
use Rattle.std.proofs.lemmas.Fn.{filter_same}
use Rattle.rules.specs.Inputs.{covers}
use Rattle.rules.specs.Many.{index_in, left_in}
use Rattle.rules.proofs.many_inputs.ManyInputs.learn.Goals as goal

pub returns-in-None : goal.returns-in-None
returns-in-None c =
    let i = c.args.input.now in
    let was : c.self.inside.inputs.items ≡ c.args.self.now = subst (λ o. left_in c.self.inside.inputs.items (index_in o) ≡ c.args.self.now) c.in-None.is c.self.view_is in
    let kept = filter_same _ (λ j. not (covers i j)) _ (λ x b f' called. search rules) _ _ c.retain.ensures.filtered in
    subst (λ o. left_in c.retain.new.self.items (index_in o) ≡ filter (λ j. not (covers i j)) c.args.self.now) (sym c.in-None.is) (kept ∙ ap (λ js. filter (λ j. not (covers i j)) js) was)
