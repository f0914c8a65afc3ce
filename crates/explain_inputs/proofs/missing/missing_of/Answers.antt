use Rattle.std.proofs.Common.{rules, ◌≡◌, ◌++◌, ◌∙◌, [], List, ap, subst, sym}
use Rattle.language.specs.Meaning.{Known}
use Rattle.language.specs.Resolved.{core}
use Rattle.meaning_facts.specs.Paths.{path_of}
use Rattle.meaning_facts.specs.Sighted.{sight_of}
use Rattle.explain_inputs.specs.declared.input.StatementInput.{StatementInput as Told}
use Rattle.explain_inputs.specs.Inputs.{Input, inputs_view}
use Rattle.explain_inputs.specs.Missing.{not_seen, AreMissing}
use Rattle.explain_inputs.proofs.Seeing.{not_seen_exact}
use Rattle.explain_inputs.proofs.missing.missing_of.Goals as goal

pub returns : goal.returns
returns c bytes t tree r w single known within =
    let k = c.args.known.now in
    let xs = inputs_view c.args.inputs.now in
    let seen = not_seen (sight_of k.fact_base c.args.instance) xs in
    let nothing : c.new-found.result.items ≡ [] = search rules in
    let found = c.in_ok-add_missing.ensures ∙ ap (λ (z : List Told). inputs_view z ++ seen) nothing in
    subst (λ (z : List Input). AreMissing (core t tree) (Known (core t tree) k.rounds) (path_of k.fact_base.instances.all.items c.args.instance) xs z)
    (sym found) (not_seen_exact bytes t tree r w single k known c.args.instance within xs)
