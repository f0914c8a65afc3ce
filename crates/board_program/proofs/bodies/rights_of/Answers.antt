use Rattle.std.proofs.Common.{◌∙◌, ◌+◌, sym, ap, subst, ℕ, List, map, take, Vec, Global, arith}
use Rattle.task_code.specs.Code.{Control}
use Rattle.task_code.specs.View.{name_view}
use Rattle.task_code.specs.declared.entry.Name.{Name as NameValue}
use Rattle.board_program.proofs.Counted.{reads_next, reads_past, writes_next, writes_past}
use Rattle.board_program.proofs.Counts.{control_next, control_past}
use Rattle.board_program.proofs.Holds.{holds_next, holds_past}
use Rattle.board_program.specs.Places.{CountsMore, CountsOf}
use Rattle.board_program.specs.Tables.{HoldsOf, names_of, run_as}
use Rattle.board_program.specs.declared.outer_holds.OuterHolds.{OuterHolds}
use Rattle.board_program.proofs.bodies.rights_of.Goals as goal
use Rattle.board_program.proofs.bodies.rights_of.Goals.{in-Some+in_ok-count_names+in_ok-count_names-2+in_ok-hold_rights, in_default}

pub loop-at-preserved : goal.loop-at-preserved
loop-at-preserved c =
    let C = c.args.code.now in
    let m = c.args.places.now in
    let many = c.args.many in
    let js = c.args.entries.now in
    let i = c.loop-at.at in
    let I = c.loop-at.invariant in
    elim c.match-entry.branch [
      | in-Some+in_ok-count_names+in_ok-count_names-2+in_ok-hold_rights w ↦ record {
        reads = subst (λ (v : Vec ℕ Global). CountsOf m many (names_of C (λ e. e.reads) (take (i + 1) js)) v.items) (sym w.reads-is)
            (reads_next m C many js i 0 w.in-Some.entry.now c.loop-at.reads.items w.count_names.new.counts.items c.loop-at-test.true w.in-Some.ensures.1 I.reads
            (subst (λ (xs : List NameValue). CountsMore m (map name_view xs) c.loop-at.reads.items w.count_names.new.counts.items) w.as_slice.ensures.value w.in_ok-count_names.ensures));
        writes = subst (λ (v : Vec ℕ Global). CountsOf m many (names_of C (λ e. e.writes) (take (i + 1) js)) v.items) (sym w.writes-is)
            (writes_next m C many js i 0 w.in-Some.entry.now c.loop-at.writes.items w.count_names-in-Some.new.counts.items c.loop-at-test.true w.in-Some.ensures.1 I.writes
            (subst (λ (xs : List NameValue). CountsMore m (map name_view xs) c.loop-at.writes.items w.count_names-in-Some.new.counts.items) w.as_slice-in-Some.ensures.value w.in_ok-count_names-2.ensures));
        outer = subst (λ (o : OuterHolds). HoldsOf C c.args.body (take (i + 1) js) o.holds.items) (sym w.outer-is)
            (holds_next C c.args.body js i 0 w.in-Some.entry.now c.loop-at.outer.holds.items w.hold_rights.new.outer.holds.items I.outer c.loop-at-test.true w.in-Some.ensures.1 w.in_ok-hold_rights.ensures);
        controls = w.controls-is ∙ ap (λ n. n + w.control_count-controls.result) I.controls ∙ ap (λ n. run_as C Control (take i js) + n) w.control_count-controls.ensures.count ∙ sym (control_next C js i 0 w.in-Some.entry.now c.loop-at-test.true w.in-Some.ensures.1);
        few = omega (arith, w.controls-is, I.few, w.control_count-controls.ensures.most);
      }
      | in_default w ↦ record {
        reads = subst (λ (v : Vec ℕ Global). CountsOf m many (names_of C (λ e. e.reads) (take (i + 1) js)) v.items) (sym w.reads-is) (reads_past m C many js i 0 c.loop-at.reads.items c.loop-at-test.true w.in_default.ensures I.reads);
        writes = subst (λ (v : Vec ℕ Global). CountsOf m many (names_of C (λ e. e.writes) (take (i + 1) js)) v.items) (sym w.writes-is) (writes_past m C many js i 0 c.loop-at.writes.items c.loop-at-test.true w.in_default.ensures I.writes);
        outer = subst (λ (o : OuterHolds). HoldsOf C c.args.body (take (i + 1) js) o.holds.items) (sym w.outer-is) (holds_past C c.args.body js i 0 c.loop-at.outer.holds.items I.outer c.loop-at-test.true w.in_default.ensures);
        controls = w.controls-is ∙ I.controls ∙ sym (control_past C js i 0 c.loop-at-test.true w.in_default.ensures);
        few = omega (arith, w.controls-is, I.few);
      }
    ]
