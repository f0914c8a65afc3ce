use Rattle.std.proofs.Common.{rules, ◌≡◌, ◌++◌, ◌∙◌, ap, subst, List}
use Rattle.std.specs.Prelude.{IsPermutation}
use Rattle.std.specs.List.Sorted.{IsStableByKey}
use Rattle.std.specs.Ordering.{nat_cmp}
use Rattle.std.proofs.lemmas.List.Sorted.{answers_always}
use Rattle.code_listing.specs.declared.bodies.BodyPosition.{BodyPosition}
use Rattle.code_listing.specs.Labels.{infos_of}
use Rattle.code_listing.specs.Order.{body_positions}
use Rattle.code_listing.proofs.bodies.in_order.Goals as goal

pub returns : goal.returns
returns c =
    let key = λ (p : BodyPosition). p.from in
    let all : c.add_positions.new.positions.items ≡ body_positions (infos_of c.args.found.now) =
    c.in_ok-add_positions.ensures ∙ ap (λ (z : List BodyPosition). z ++ body_positions (infos_of c.args.found.now)) c.new-positions.ensures.items in
    record {
      all = subst (λ (z : List BodyPosition). IsPermutation z c.sort_by_key.new.self.items) all c.sort_by_key.ensures.permutation;
      rising = c.in_ok-sort_by_key.ensures.sorted key (answers_always _ (λ a r. r ≡ key a.0.now) _ (λ f a r g q. search rules));
      stable = subst (λ (z : List BodyPosition). IsStableByKey key nat_cmp z c.sort_by_key.new.self.items) all
          (c.sort_by_key.ensures.stable key (answers_always _ (λ a r. r ≡ key a.0.now) _ (λ f a r g q. search rules)));
    }
