use Rattle.std.proofs.Common.{◌≡◌, ◌∙◌, ◌*◌, ℕ, List, ap, length, vec_len, arith}
use Rattle.task_code.specs.Code.{body as body_at}
use Rattle.board_instances.specs.View.{frames_view}
use Rattle.board_changes.proofs.Placed.{placed_len}
use Rattle.board_changes.proofs.opening.open_all.Goals as goal

same : (a b n : ℕ) → b ≡ a → b ≡ n → a ≡ n
same a b n h g = omega (arith, h, g)

pub returns-clause-len : goal.returns-clause-len
returns-clause-len c =
    let p = c.in_ok-last.ensures.placed in
    let r = placed_len c.fill_all.new.list.items c.entries_of.result.now p.0 (frames_view c.place_all.new.instances.slots) c.args.rows.now.items c.place_all.new.items.items c.in_ok-last.last p.2 in
    let k = length (body_at c.args.program.now c.args.openings.body).entries in
    let n : length c.fill_all.new.list.items * length c.entries_of.result.now ≡ vec_len c.args.openings.list * k = ap (λ m. m * length c.entries_of.result.now) (same (length c.fill_all.new.list.items) (vec_len c.fill_all.new.list) (vec_len c.args.openings.list) c.fill_all.new.list.ok.0 c.fill_all.ensures.len) ∙ ap (λ (xs : List ℕ). vec_len c.args.openings.list * length xs) c.entries_of.ensures in
    omega (arith, r, n, c.place_all.new.items.ok.0, c.args.rows.now.ok.0)
