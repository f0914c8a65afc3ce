use Rattle.std.proofs.Common.{ℕ, subst, sym}
use Rattle.dataflow.specs.System.{In}
use Rattle.task_code.specs.Code.{Way, entry, ways}
use Rattle.task_code.specs.View.{name_view}
use Rattle.ref_counting.specs.Openings.{way_of}
use Rattle.ref_counting.specs.Passing.{Answers, Sees}
use Rattle.ref_counting.proofs.Handing.{seen_in_place, seen_through}
use Rattle.ref_counting.proofs.call_names.outward.Goals as goal

pub returns-in-InPlace : goal.returns-in-InPlace
returns-in-InPlace c =
    subst (λ w. Answers c.in_place.result (Sees c.args.code.now c.args.opening.entry (way_of w) c.args.body (name_view c.args.name))) (sym c.in-InPlace.is)
    (seen_in_place c.args.code.now c.args.opening.entry c.args.body (name_view c.args.name) c.args.made.now.keys c.requires.made c.requires.body
    (record { opener = c.args.opening.entry; opens = subst (λ w. In {X = Way × ℕ} (way_of w, c.args.body) (ways (entry c.args.code.now c.args.opening.entry).act)) c.in-InPlace.is c.requires.opens })
    c.in_place.result c.in_place.ensures)

pub returns-in-Through : goal.returns-in-Through
returns-in-Through c =
    subst (λ w. Answers c.through.result (Sees c.args.code.now c.args.opening.entry (way_of w) c.args.body (name_view c.args.name))) (sym c.in-Through.is)
    (seen_through c.args.code.now c.args.opening.entry c.args.body (name_view c.args.name) c.through.result c.through.ensures)
