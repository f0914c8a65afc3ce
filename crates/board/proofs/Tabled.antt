-- The work of a job by the tables of its entry.
use Rattle.std.proofs.Common.{◌≡◌, ◌↔◌, ℕ, Bool, IsTrue, List, map, sym, ap, ◌∙◌, subst, Option}
use Rattle.board_history.specs.Fields.{Counted, Does, Frame, Job}
use Rattle.task_code.specs.Code.{Code, Entry, entry}
use Rattle.board_program.specs.Tables.{IsEntryTable, body_of}
use Rattle.board_program.specs.declared.program.EntryTable.{EntryTable}
use Rattle.board_data.specs.Answered.{wanted_answer}
use Rattle.board_instances.specs.Names.{led_slot}
use Rattle.board_work.specs.Assigned.{Assigned, runs}
use Rattle.dataflow.specs.System.{Answer}
use Rattle.values.specs.declared.key.Key.{Key}
use Rattle.values.specs.declared.value.Scalar.{Scalar}
use Rattle.board.specs.Working.{IsWorkAt, answers_at}

module _ (C : Code) (fs : List (Option Frame)) (cs : List (Option Counted)) (k e c : ℕ) (j : Job) (work : Assigned) (t : EntryTable) (is : j ≡ Does k e c) (table : IsEntryTable C (body_of C e) e t) where
  pub work_at : (x : Entry) → work.job ≡ runs x → x ≡ entry C e → work.answers ≡ map (wanted_answer C cs (led_slot fs k)) t.needs.items → IsWorkAt C fs cs j work
  work_at x job same answers =
      subst (λ (i : Job). IsWorkAt C fs cs i work) (sym is) (record {
        job = job ∙ ap runs same;
        answers = answers ∙ ap (map (wanted_answer C cs (led_slot fs k))) table.needs;
      })

  pub at_work : IsWorkAt C fs cs j work → (work.job ≡ runs (entry C e)) × (work.answers ≡ map (wanted_answer C cs (led_slot fs k)) t.needs.items)
  at_work a =
      let b = subst (λ (i : Job). IsWorkAt C fs cs i work) is a in
      (b.job, b.answers ∙ sym (ap (map (wanted_answer C cs (led_slot fs k))) table.needs))

  -- and whether it is that, told by a comparison of the answers
  pub work_told : (x : Entry) → work.job ≡ runs x → x ≡ entry C e → (b : Bool) (xs ys : List (Answer Key Scalar)) → (IsTrue b ↔ (xs ≡ ys)) → xs ≡ work.answers → ys ≡ map (wanted_answer C cs (led_slot fs k)) t.needs.items → IsTrue b ↔ IsWorkAt C fs cs j work
  work_told x job same b xs ys told mine theirs = (λ h. work_at x job same (sym mine ∙ told.0 h ∙ theirs), λ a. told.1 (mine ∙ (at_work a).1 ∙ sym theirs))

  pub answers_told : (xs : List (Answer Key Scalar)) → xs ≡ map (wanted_answer C cs (led_slot fs k)) t.needs.items → xs ≡ answers_at C fs cs j
  answers_told xs h = subst (λ (i : Job). xs ≡ answers_at C fs cs i) (sym is) (h ∙ ap (map (wanted_answer C cs (led_slot fs k))) table.needs)
