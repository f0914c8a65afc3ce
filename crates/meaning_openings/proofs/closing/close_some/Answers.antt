use Rattle.std.proofs.Common.{rules, ◌≡◌, List, map, subst}
use Rattle.flow.specs.View.{core_of}
use Rattle.meaning_facts.specs.declared.facts.Place.{Place}
use Rattle.meaning_round.specs.declared.state.LiveArray.{LiveArray}
use Rattle.meaning_round.specs.Hearing.{AreWoken}
use Rattle.meaning_round.specs.Made.{candidate_of, tasks_of}
use Rattle.meaning_round.specs.Reads.{at}
use Rattle.meaning_openings.specs.Closing.{AllStaySo}
use Rattle.meaning_openings.proofs.LookedAt.{heard_closed}
use Rattle.meaning_openings.proofs.closing.close_some.Goals as goal

pub returns-clause-so : goal.returns-clause-so
returns-clause-so g c =
    let A = g.row.A.Denot in
    let value : c.as_slice.result.now ≡ c.args.state.now.arrays.items = search rules in
    subst (λ (z : List (LiveArray g.row.A.Denot)). AllStaySo (core_of {A = A} c.args.state.now.flow.now) (map (candidate_of {A = A}) z) c.args.state.now.fact_base c.close_arrays.new.fact_base)
    value c.in_ok-closed.ensures.so

pub returns-clause-heard : goal.returns-clause-heard
returns-clause-heard g c =
    let A = g.row.A.Denot in
    let value : c.as_slice-2.result.now ≡ c.in_ok-closed.closed.items = search rules in
    let woken = subst (λ (z : List Place). AreWoken c.args.state.now.worklist c.wake_readers.new.worklist (map at z)) value c.in_ok-wake_readers.ensures in
    λ h. heard_closed c.args.state.now.fact_base c.close_arrays.new.fact_base (tasks_of {A = A} c.args.state.now) c.args.state.now.worklist c.wake_readers.new.worklist c.in_ok-closed.closed.items
    c.close_arrays.ensures.facts c.close_arrays.ensures.instances c.in_ok-closed.ensures.others woken h
