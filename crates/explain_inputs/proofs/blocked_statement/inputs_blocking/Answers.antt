use Rattle.std.proofs.Common.{rules, ◌≡◌, List, map, reverse, sym, ap, subst, ◌∙◌}
use Rattle.std.specs.Prelude.{Option, Some, None, option_map}
use Rattle.std.specs.Borrow.{Bor}
use Rattle.language.specs.Meaning.{Known}
use Rattle.language.specs.Resolved.{core}
use Rattle.paths.specs.declared.steps.Step.{Step}
use Rattle.meaning_facts.specs.Paths.{at_path, path_of, step_view}
use Rattle.flow_index.specs.declared.site.Site.{Site}
use Rattle.flow_index.specs.Sites.{site_view}
use Rattle.explain_inputs.specs.declared.input.StatementInput.{StatementInput as Told}
use Rattle.explain_inputs.specs.Inputs.{inputs_view}
use Rattle.explain_inputs.specs.Missing.{AreMissing}
use Rattle.explain_inputs.proofs.Waiting.{several_there, stuck_there, waits_so}
use Rattle.meaning_outcomes.specs.Read.{path_of as statement_path}
use Rattle.explain_inputs.proofs.blocked_statement.inputs_blocking.Goals as goal

pub returns-in_default-clause-several : goal.returns-in_default-clause-several
returns-in_default-clause-several g c e s h known n a stuck =
    let A = g.row.A.Denot in
    let b = c.args.statement.now in
    let gone : c.at.result ≡ None = search rules in
    several_there s c.args.known.now.rounds n b.at a (statement_path b) stuck
    (sym (c.at.ensures s h) ∙ ap (λ (z : Option (Bor (Site A))). option_map (λ (x : Bor (Site A)). site_view x.now) z) gone)

pub returns-in_default-instance_at-clause-several : goal.returns-in_default-instance_at-clause-several
returns-in_default-instance_at-clause-several g c e s h known n a stuck =
    let t = c.args.known.now.fact_base.instances in
    let slice : c.as_slice.result.now ≡ c.args.statement.now.path.items = search rules in
    let gone : c.instance_at.result ≡ None = search rules in
    absurd (stuck_there s c.args.known.now c.args.statement.now known n a stuck
    (sym (c.instance_at.ensures ∙ ap (λ (z : List Step). at_path t (reverse (map step_view z))) slice) ∙ gone))

pub returns-clause-waits : goal.returns-clause-waits
returns-clause-waits g c bytes t tree r w single h known n a stuck =
    let A = g.row.A.Denot in
    let s = core t tree in
    let k = c.args.known.now in
    let slice : c.as_slice.result.now ≡ c.args.statement.now.path.items = search rules in
    let list : c.as_slice-2.result.now ≡ c.in_ok-inputs.inputs.items = search rules in
    let site : c.at.result ≡ Some c.in-Some.site = search rules in
    let found : c.instance_at.result ≡ Some c.in-Some-instance_at.instance = search rules in
    waits_so {A = A} s k c.args.statement.now _ (inputs_view c.in_ok-inputs.inputs.items) known
    (sym (ap (λ (z : Option (Bor (Site A))). option_map (λ (x : Bor (Site A)). site_view x.now) z) site) ∙ c.at.ensures s h)
    (sym (c.instance_at.ensures ∙ ap (λ (z : List Step). at_path k.fact_base.instances (reverse (map step_view z))) slice) ∙ found)
    c.in_ok-inputs.ensures
    (λ within. subst (λ (z : List Told). AreMissing s (Known s k.rounds) (path_of k.fact_base.instances.all.items c.in-Some-instance_at.instance) (inputs_view z) (inputs_view c.in_ok-missing.missing.items)) list
    (c.in_ok-missing.ensures bytes t tree r w single known within))
    n a stuck
