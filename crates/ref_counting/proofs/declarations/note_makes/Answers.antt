use Rattle.std.proofs.Common.{ap, ◌≡◌, subst, sym, take, get_or, List, ℕ, ◌++◌, ◌∷◌, [], ◌+◌, ◌<◌, length, rules, ◌∙◌, suc, arith, map, false}
use Rattle.std.proofs.Math.Seq.{take-suc}
use Rattle.std.proofs.lemmas.List.{map_push}
use Rattle.indexmap.specs.IndexSet.{insert_key}
use Rattle.task_code.specs.declared.entry.Variable.{Variable}
use Rattle.task_code.specs.View.{variable_view}
use Rattle.ref_counting.specs.declared.declarations.DeclaredIn.{DeclaredIn}
use Rattle.ref_counting.specs.Makes.{NotesMade, made_by}
use Rattle.ref_counting.proofs.Making.{one_more, same_made}
use Rattle.ref_counting.proofs.declarations.note_makes.Goals as goal

pub loop-variable-preserved : goal.loop-variable-preserved
loop-variable-preserved c =
    let vs : List Variable = c.args.makes.now.items in
    let i : ℕ = c.loop-variable.variable-index in
    let d : Variable = record { node = 0; array = false } in
    let next : i + 1 ≡ suc i = omega arith in
    let within : i < length vs = search rules in
    let v : Variable = get_or c.deref-variable-items.result.now i d in
    let same : v ≡ get_or vs i d = ap (λ xs. get_or xs i d) c.deref-variable-items.ensures.value in
    let taken : map variable_view (take (i + 1) vs) ≡ map variable_view (take i vs) ++ variable_view v ∷ [] =
    ap (λ n. map variable_view (take n vs)) next ∙ ap (map variable_view) (take-suc vs i d within) ∙ map_push variable_view (take i vs) (get_or vs i d) ∙ ap (λ (w : Variable). map variable_view (take i vs) ++ variable_view w ∷ []) (sym same) in
    let here : List DeclaredIn = insert_key same_made c.loop-variable.made.keys (made_by c.args.body (variable_view v)) in
    let more : NotesMade c.args.body (map variable_view (take i vs) ++ variable_view v ∷ []) c.args.made.now.keys here =
    one_more c.args.body (variable_view v) (map variable_view (take i vs)) c.args.made.now.keys c.loop-variable.made.keys c.loop-variable.invariant in
    subst (λ ws. NotesMade c.args.body ws c.args.made.now.keys c.insert.new.self.keys) (sym taken)
    (subst (λ ks. NotesMade c.args.body (map variable_view (take i vs) ++ variable_view v ∷ []) c.args.made.now.keys ks) (sym c.in_ok-insert.ensures.keys) more)
