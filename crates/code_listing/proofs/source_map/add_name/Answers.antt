use Rattle.std.proofs.Common.{arith, ap, ◌∙◌, refl, ◌≡◌, length, cond, nat_eq}
use Rattle.std.proofs.lemmas.Grind.{common_steps}
use Rattle.code_listing.proofs.Finding.{named_put, named_added, named_padded}
use Rattle.code_listing.proofs.source_map.add_name.Goals as goal

pub loop-lacking-preserved : goal.loop-lacking-preserved
loop-lacking-preserved c = record {
  as_before = λ n. named_padded c.loop-lacking.names.items c.push.new.self.items _ n refl c.in_ok-push.ensures.items ∙ c.loop-lacking.invariant.as_before n;
  filled = grind (arith, common_steps);
}

pub returns-then-place-len : goal.returns-then-place-len
returns-then-place-len c = λ n.
    named_put c.args.name c.loop-lacking.names.items c.args.node n (omega arith)
    ∙ ap (cond (nat_eq c.args.node n) c.args.name.now) (c.loop-lacking.invariant.as_before n)

pub returns-in_ok-push-2 : goal.returns-in_ok-push-2
returns-in_ok-push-2 c = λ n.
    let many : length c.loop-lacking.names.items ≡ c.args.node = grind (arith, common_steps) in
    named_added c.args.name c.loop-lacking.names.items c.push-else-place-len.new.self.items c.args.node n many c.in_ok-push-2.ensures.items
    ∙ ap (cond (nat_eq c.args.node n) c.args.name.now) (c.loop-lacking.invariant.as_before n)
