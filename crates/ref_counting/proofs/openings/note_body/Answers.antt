use Rattle.std.proofs.Common.{ap, ◌≡◌, subst, sym, take, get_or, List, ℕ, ◌++◌, ◌∷◌, [], ◌+◌, ◌<◌, length, rules, ◌∙◌, suc, arith}
use Rattle.std.proofs.Math.Seq.{take-suc}
use Rattle.ref_counting.specs.Openings.{NotesHomes}
use Rattle.ref_counting.proofs.Noting.{next_home}
use Rattle.ref_counting.proofs.openings.note_body.Goals as goal

pub loop-number-preserved : goal.loop-number-preserved
loop-number-preserved c =
    let js : List ℕ = c.args.entries.now.items in
    let i : ℕ = c.loop-number.number-index in
    let within : i < length js = search rules in
    let next : i + 1 ≡ suc i = omega arith in
    let same : c.deref-number-items.result.now ≡ js = c.deref-number-items.ensures.value in
    subst (λ ks. NotesHomes c.args.body ks c.args.homes.now c.put.new.self)
    (ap (λ ks. take i js ++ get_or ks i 0 ∷ []) same ∙ sym (ap (λ n. take n js) next ∙ take-suc js i 0 within))
    (next_home c.args.body (get_or c.deref-number-items.result.now i 0) (take i js) c.args.homes.now c.loop-number.homes c.put.new.self c.loop-number.invariant c.in_ok-put.ensures)
