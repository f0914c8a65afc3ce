-- Work of an item stays its own.
use Rattle.std.proofs.Common.{◌≡◌, ℕ, map, sym, ap, ◌∙◌, subst}
use Rattle.dataflow.specs.Machine.{Event, SeesAll}
use Rattle.dataflow.specs.History.{log_of}
use Rattle.dataflow.proofs.Steps.{run_follows}
use Rattle.dataflow.proofs.Staying.{knows_later, knows_seen}
use Rattle.task_code.specs.Machine.{Run}
use Rattle.task_code.specs.Whole.{IsCode}
use Rattle.task_code.proofs.Kept.{code_laws}
use Rattle.dataflow.specs.Staying.{Knows}
use Rattle.task_code.specs.Code.{Code}
use Rattle.task_code.specs.Effects.{Task}
use Rattle.task_code.specs.System.{code_system, task_inputs}
use Rattle.board_work.specs.Assigned.{Assigned}
use Rattle.board_history.specs.Fields.{Job}
use Rattle.board_instances.specs.View.{rows_view}
use Rattle.task_code.specs.View.{event_view}
use Rattle.board.specs.Board.{Accepts, IsItems, IsOwn, IsTheirs, Seen, answers_to, job_of}
use Rattle.board.specs.Inside.{IsSound, seen_of}
use Rattle.board.specs.Rows.{RunsOn}
use Rattle.board.specs.declared.board.Board.TheInside.{Inside}
use Rattle.board.proofs.Own.{theirs}

-- own work is that of its item, once what the item sees is known of it
pub begun_items : (b : Seen) (w : ℕ) (work : Assigned) (o : IsOwn b w work) → Knows (code_system b.code) b.state o.item.number o.item.task o.own.inputs → IsItems b work
begun_items b w work o k =
    record {
      task = o.item.task;
      inputs = o.own.inputs;
      knows = subst (λ (n : ℕ). Knows (code_system b.code) b.state n o.item.task o.own.inputs) o.number_is k;
      job = o.own.job;
      answers = o.own.answers;
    }

-- and stays so in a state where that stays known
pub items_later : (old new : Seen) → new.code ≡ old.code → (work : Assigned) (i : IsItems old work) → Knows (code_system old.code) new.state work.item i.task i.inputs → IsItems new work
items_later old new same work i k =
    subst (λ (C : Code). IsItems (record new { code = C }) work) (sym same)
    (record {
      task = i.task;
      inputs = i.inputs;
      knows = k;
      job = i.job;
      answers = i.answers;
    })

-- so own work is that of its item in every run
pub work_begun : (b : Seen) → Run b.code b.history b.state → (w : ℕ) (work : Assigned) → IsOwn b w work → IsItems b work
work_begun b run w work o = begun_items b w work o (knows_seen (code_system b.code) b.history b.state run o.item o.there o.own.inputs o.own.known)

-- and stays so, whatever is accepted next
pub work_later : (old new : Seen) → IsCode old.code → Run old.code old.history old.state → (e : Event) → Accepts old e new → (work : Assigned) → IsItems old work → IsItems new work
work_later old new I run e a work i =
    let S = code_system old.code in
    let L = code_laws old.code I in
    items_later old new a.code work i (knows_later S L old.state new.state (log_of S old.history old.state run) (run_follows S L old.history old.state run) e a.step work.item i.task i.inputs i.knows)

-- where its item runs, it is its own there
pub items_own : (b : Seen) (w : ℕ) (work : Assigned) → IsItems b work → IsTheirs b w work.item → IsOwn b w work
items_own b w work i t =
    let same : t.item.task ≡ i.task = i.knows.task t.item t.there t.number_is in
    record {
      item = t.item;
      there = t.there;
      number_is = t.number_is;
      runs = t.runs;
      own = record {
        job = i.job ∙ ap (λ (u : Task). job_of b.code u) (sym same);
        inputs = i.inputs;
        known = subst (λ (u : Task). SeesAll (code_system b.code) b.state (task_inputs b.code u) i.inputs) (sym same) (i.knows.seen t.item t.there t.number_is);
        answers = i.answers ∙ ap (λ (u : Task). answers_to b.code u i.inputs) (sym same);
      };
    }

-- the item of the row runs there
pub own_here : (b : Inside) (s : IsSound b) (w n : ℕ) (j : Job) → RunsOn (rows_view b.core.items.rows.items) w n j → (work : Assigned) → work.item ≡ n → IsItems (seen_of b) work → IsOwn (seen_of b) w work
own_here b s w n j runs work number i =
    items_own (seen_of b) w work i (subst (λ (m : ℕ). IsTheirs (seen_of b) w m) (sym number) (theirs b.program s.whole (map event_view b.history.items) b.core s.stand w n j runs))
