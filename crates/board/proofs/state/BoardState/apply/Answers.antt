use Rattle.std.proofs.Common.{◌≡◌, ◌∙◌, ◌+◌, ◌++◌, ◌≤◌, [], List, ℕ, map, refl, sym, ap, subst, arith, vec_capacity}
use Rattle.board_data.specs.View.{want_view}
use Rattle.board_instances.specs.View.{frames_view, job_view, rows_view}
use Rattle.board_instances.specs.declared.item.ItemRecord.{ItemRecord}
use Rattle.board_items.specs.Learnt.{HaveLearnt}
use Rattle.board_changes.specs.World.{WorldEnds}
use Rattle.board_history.specs.Fields.{Want}
use Rattle.rules.specs.declared.input.Input.{Input}
use Rattle.board.proofs.state.BoardState.apply.Goals as goal

note_room : (a b m k : ℕ) → b ≡ 0 → k ≡ m → a ≤ m → a + b ≤ k
note_room a b m k e q h = omega (arith, e, q, h)

pub returns-clause-made : goal.returns-clause-made
returns-clause-made c = λ none.
    let ends = c.in_ok-spare.ensures.ends in
    let heard : map want_view c.as_slice.result.now ≡ ends.0 = ap (map want_view) c.as_slice.ensures.value ∙ ends.1 ∙ ap (λ (l : List Input). map want_view l ++ ends.0) none in
    record {
      news = ends.0;
      data_state = subst (λ (l : List ItemRecord). WorldEnds c.args.program.now (job_view c.args.job) c.args.change (frames_view c.args.self.now.data_state.instances.slots) (frames_view c.end.new.self.instances.slots) (rows_view c.args.self.now.items.rows.items) (rows_view l) c.args.self.now.data_state.store c.end.new.self.store ends.0) (sym (ap (λ r. r.items) c.notify_all.ensures.rows)) ends.2;
      rising = c.in_ok-spare.ensures.rising;
      learnt = λ room start h. subst (λ (ws : List (Want ℕ)). HaveLearnt ws start c.notify_all.new.items.rules.waiting c.notify_all.new.items.woken.items) heard
          (c.notify_all.ensures.learnt (note_room _ _ _ _ c.clear-2.ensures.len c.clear-2.ensures.capacity room) [] start (subst (λ (l : List ℕ). HaveLearnt [] start c.args.self.now.items.rules.waiting l) (sym c.clear-2.ensures.items) h));
      rules = λ room. c.notify_all.ensures.room (note_room _ _ _ _ c.clear-2.ensures.len c.clear-2.ensures.capacity room);
      count = (let a = c.notify_all.ensures.count in let b = c.clear-2.ensures.len in omega (arith, a, b));
      lines = c.in_ok-put_line.ensures.put;
      queue = c.notify_all.ensures.queue;
      apart = c.notify_all.ensures.apart;
      running = c.notify_all.ensures.running;
      newly = ap (λ r. r.items) c.notify_all.ensures.newly ∙ c.clear.ensures.items;
      capacity = ap vec_capacity c.notify_all.ensures.newly ∙ c.clear.ensures.capacity;
      fault = refl;
    }
