-- A loop of the code that has turns is a loop of a live block of the script, with so many turns.
use Rattle.std.proofs.Common.{◌≡◌, inl, inr, ℕ, zero, suc, ◌<◌, arith, Bool, true, false, List, [], ◌∷◌, length, refl, sym, ap, ◌∙◌, subst, Option, Some, None, Result, Ok}
use Rattle.std.specs.Prelude.{pos, ℤ, if◌then◌else◌}
use Rattle.dataflow.specs.System.{In, Effect}
use Rattle.dataflow.proofs.Lists.{in_left, in_right}
use Rattle.values.specs.declared.fault.OpFault.{OpFault}
use Rattle.values.specs.declared.key.Key.{Key}
use Rattle.values.specs.declared.value.Scalar.{Scalar}
use Rattle.values.specs.declared.value.Value.{Value}
use Rattle.values.specs.Values.{number_of}
use Rattle.values.specs.Ranges.{range_count}
use Rattle.language.specs.Core as Co
use Rattle.language.specs.Core.{Name, Expr, Outer, Stmt, stmt, Action, when, choose, range, each, wait, Block, Core}
use Rattle.language.specs.Facts.{no_cell, next_cell}
use Rattle.language.specs.Places.{Path}
use Rattle.fold_laws.specs.Same.{SameAction, same_range, same_each, SameCore}
use Rattle.fold_laws.proofs.Kept.{LiveLike, same_live, same_ready, stmt_like}
use Rattle.fold_laws.proofs.Listed.{same_list}
use Rattle.fold_laws.proofs.Turned.{turned_block, turned_core}
use Rattle.fold_laws.proofs.Views.{meant, meant_back}
use Rattle.language.specs.Meaning.{Live, in_block, Ready, cells_known, source_closed, Meaning}
use Rattle.language.specs.Members.{◌∈◌, first, later}
use Rattle.language.specs.Openings.{in_turns}
use Rattle.language.specs.Parts.{block_list}
use Rattle.language.specs.WellFormed.{WellFormed}
use Rattle.language_laws.proofs.Declared.{stmt_in}
use Rattle.language_laws.specs.Scoped.{IsIn, Scoped}
use Rattle.language_laws.specs.TypedValues.{TypedValues}
use Rattle.task_code.specs.Code as code
use Rattle.task_code.specs.Code.{Need, Act, Code, Loop, Body, entry, body, nth, blank_body, loop_of}
use Rattle.task_code.specs.Compute.{Computed, compute, ranged, range_turns, turns_or, content, listed, answer_at, in_key_order, elements, eval}
use Rattle.task_code.specs.Effects.{Task, Item, turns_of}
use Rattle.task_code.specs.Places.{Step}
use Rattle.task_code.specs.Places as CodePlaces
use Rattle.task_code.specs.System.{answered}
use Rattle.task_code.specs.Whole.{IsCode}
use Rattle.code_rules.specs.CodeNames.{name_as, wanted, over}
use Rattle.headline.specs.Headline.{script_path}
use Rattle.code_rules.specs.IsCodeOf.{Layout, seen, own_needs, own_expr, fill_act, simple_act, step_expr, IsSimple, IsEntry, PartAs, plain_literal, plain_name, a_cell, a_read, a_call, BodyAs, body_as, IsCodeOf}
use Rattle.headline.specs.Chains.{Chain}
use Rattle.headline.specs.Knows.{Knows}
use Rattle.headline.proofs.Evaluate.{Got, AnsAll}
use Rattle.headline.proofs.LiveTo as To
use Rattle.headline.proofs.LiveTo.{Fact, Ranged, ranged_of, ok_step, bounds_two, bounds_three, in_one}
use Rattle.headline.proofs.Means.{chain_live, chain_body, chain_scope}
use Rattle.headline.proofs.Roles.{PartOf, OwnAs, own_simple, own_branch, own_branches, own_range, own_each, own_wait, RoleIn, find_role}
use Rattle.headline.specs.Live.{HasTurns, of_range, of_array, IsLiveBody, IsLiveLoop}

-- a body that has an entry is there
nth_there : (bs : List Body) (t i : ℕ) → In i (nth blank_body bs t).entries → t < length bs
nth_there [] t i h = absurd h
nth_there (b ∷ bs) zero i h = omega arith
nth_there (b ∷ bs) (suc t) i h = let r = nth_there bs t i h in omega arith

pub body_there : (C : Code) (t i : ℕ) → In i (body C t).entries → t < length C.bodies
body_there C t i h = nth_there C.bodies t i h

-- HOW MANY TURNS

range_many : (low step : ℤ) (m n : ℕ) → length (range_turns low step m n) ≡ n
range_many low step m zero = refl
range_many low step m (suc n) = ap suc (range_many low step (suc m) n)

many_of : (rl rh rs : Result Value OpFault) (l h d : Value) (m : ℕ) → rl ≡ Ok l → rh ≡ Ok h → rs ≡ Ok d → range_count (number_of l) (number_of h) (number_of d) ≡ Ok m → length (turns_of (ranged rl rh rs)) ≡ m
many_of rl rh rs l h d m ql qh qd rc =
    (λ i. length (turns_of (ranged (ql i) (qh i) (qd i)))) ∙ ap (λ (z : Result ℕ OpFault). length (turns_of (turns_or z (number_of l) (number_of d)))) rc ∙ range_many (number_of l) (number_of d) 0 m

length_elements : (xs : List (Key × Scalar)) → length (elements xs) ≡ length xs
length_elements [] = refl
length_elements (x ∷ xs) = ap suc (length_elements xs)

listed_many : (xs : List (Key × Scalar)) (u : Key × Scalar) → In u (listed xs) → length (listed xs) ≡ length (elements xs)
listed_many xs u h = by (in_key_order xs) h
  where
    by : (d : Bool) → In u (if d then xs else []) → length (if d then xs else []) ≡ length (elements xs)
    by true h = sym (length_elements xs)
    by false h = absurd h

none_some : {A B : Type 0} {x : A} {o : Option A} → o ≡ None → o ≡ Some x → B
none_some h g = let z = sym h ∙ g in absurd (cc (z))

simple_no_loop : (l : Layout) (k : ℕ) (a : Action) → IsSimple a → loop_of (simple_act l k (own_needs l k a) a) ≡ None
simple_no_loop l k (Co.assign x o) z = refl
simple_no_loop l k (Co.fill x o) z = by (own_expr o)
  where
    by : (e : Expr) → loop_of (fill_act l k (own_needs l k (Co.fill x o)) x e) ≡ None
    by (Co.whole y) = refl
    by (Co.literal y) = refl
    by (Co.name y) = refl
    by (Co.operator y es) = refl
simple_no_loop l k (Co.insert x i o) z = refl
simple_no_loop l k (Co.print x o) z = refl
simple_no_loop l k (Co.assert x o) z = refl
simple_no_loop l k (Co.declare v) z = absurd z
simple_no_loop l k (Co.call_alone x y o) z = absurd z
simple_no_loop l k (when o d) z = absurd z
simple_no_loop l k (choose o d e) z = absurd z
simple_no_loop l k (range o d e f g h) z = absurd z
simple_no_loop l k (each o d e f) z = absurd z
simple_no_loop l k (wait o d) z = absurd z

same_turns : {a h : Action} {vs : List Value} {m : ℕ} → HasTurns a vs m → SameAction a h → HasTurns h vs m
same_turns (of_range b c) (same_range h k n d) = of_range b c
same_turns (of_array e) (same_each d) = of_array e

module _ (script s : Core) (same : SameCore script s) (C : Code) (w : IsCodeOf s C) (wf : WellFormed s) (kn : Knows s (Meaning s)) (I : IsCode C) (sc : Scoped s) (ty : TypedValues s (Meaning s)) where
  -- a block that is live in what the code stands for is so in the script
  pub in_script : {path : Path} {b : Block} → Live s (Meaning s) path b → LiveLike s script (turned_core same) (Meaning s) (Meaning script) (meant s script (turned_core same)) (meant_back s script (turned_core same)) path b
  in_script l = same_live s script (turned_core same) (Meaning s) (Meaning script) (meant s script (turned_core same)) (meant_back s script (turned_core same)) l

  -- a body with a chain and an entry is a live one
  abbrev pub live_body : {p : List Step} {t k : ℕ} {b : Block} → Chain s C w.layout (Meaning s) p t k b → (i : ℕ) → In i (body C t).entries → IsLiveBody script C w.layout t p
  live_body {p} {t} {k} {b} ch i there =
      let x = in_script (chain_live s C w.layout (Meaning s) wf.names I sc ch) in
      record {
        within = body_there C t i there;
        inputs = k;
        block = b;
        stands = chain_body s C w.layout (Meaning s) wf.names I sc ch;
        written = x.block;
        same = turned_block x.same_block;
        live = x.live;
      }

  module _ {p : List Step} {t k : ℕ} {b : Block} (ch : Chain s C w.layout (Meaning s) p t k b) (i c : ℕ) (there : In i (body C t).entries) (e : Effect Task CodePlaces.Place Key Scalar) (f : Fact s C w (Meaning s) wf kn I sc ty (Item i p c) e) where
    abbrev ys : List Got
    ys = answered C p (entry C i).needs f.answers

    abbrev pub turns_here : Computed → ℕ
    turns_here x = length (turns_of x)

    abbrev pub LoopHere : ℕ → Type 0
    LoopHere m = IsLiveLoop script C w.layout i p m

    loop_here : (at n : ℕ) (a : Action) (vs : List Value) (m : ℕ) (lp : Loop) → loop_of (entry C i).act ≡ Some lp → stmt at n a ∈ block_list b → (entry C i).at ≡ at → Ready s (Meaning s) (script_path p) a vs → HasTurns a vs m → LoopHere m
    loop_here at n a vs m lp is sm q r h =
        let x = in_script (chain_live s C w.layout (Meaning s) wf.names I sc ch) in
        let y = stmt_like (same_list x.same_block) sm in
        record {
          loop = lp;
          is_loop = is;
          body_number = t;
          there = there;
          live = live_body ch i there;
          at = at;
          node = n;
          header = y.action;
          values = vs;
          in_block = y.there;
          at_is = q;
          ready = same_ready s script (turned_core same) (Meaning s) (Meaning script) (meant s script (turned_core same)) (meant_back s script (turned_core same)) r y.same;
          has_turns = same_turns h y.same;
        }

    -- a loop over an array
    each_here : (at n x t' : ℕ) (a : Name) (y : Option ℕ) (d : Block) → stmt at n (each a x y d) ∈ block_list b
        → IsEntry (entry C i) at (pos 0) (own_needs w.layout k (each a x y d)) (code.Each (record { body = t'; value = x; turn = y }))
        → (u : Key × Scalar) → In u (turns_of (compute (entry C i).act ys)) → LoopHere (turns_here (compute (entry C i).act ys))
    each_here at n x t' a y d m en u h =
        subst (λ (z : Act). LoopHere (turns_here (compute z ys))) (sym en.act_is)
        (by ys (subst (λ (l : List Need). AnsAll s C (Meaning s) p l ys) en.needs_is (To.answers_all s C w (Meaning s) wf kn I sc ty ch i c there e f)) (subst (λ (z : Act). In u (turns_of (compute z ys))) en.act_is h))
      where
        g : IsIn k a
        g = sc.loops k b at n x a y d (chain_scope s C w.layout (Meaning s) wf.names I sc ch) m

        by : (zs : List Got) → AnsAll s C (Meaning s) p (code.Closed (name_as k true a) ∷ []) zs → In u (content (answer_at zs 0)) → LoopHere (length (content (answer_at zs 0)))
        by [] z j = absurd z
        by (z ∷ zs) al j =
            let says = To.says s C w (Meaning s) wf kn I sc ty ch i c there e f in
            let r = says.array a g (subst (λ (l : List Need). In (code.Closed (name_as k true a)) l) (sym en.needs_is) (inl refl)) z al.0 in
            let j' : In u (listed r.0) = subst (λ (o : Option Got). In u (content o)) (ap Some r.1) j in
            let many : length (content (Some z)) ≡ length (elements r.0) = ap (λ (o : Got). length (content (Some o))) r.1 ∙ listed_many r.0 u j' in
            loop_here at n (each a x y d) _ _ _ (ap loop_of en.act_is) m en.at_is (source_closed r.2 r.3) (of_array many)

    -- a loop over a range
    range_here : (at n x t' : ℕ) (lo hi : Outer) (st : Option Outer) (y : Option ℕ) (d : Block) → stmt at n (range lo hi st x y d) ∈ block_list b
        → (ms : List Need) → own_needs w.layout k (range lo hi st x y d) ≡ ms
        → IsEntry (entry C i) at (pos 0) ms
        (code.Range (over k ms (seen w.layout lo.cell)) (over k ms (seen w.layout hi.cell)) (over k ms (step_expr w.layout k st)) (record { body = t'; value = x; turn = y }))
        → (u : Key × Scalar) → Ranged (eval ys (over k ms (seen w.layout lo.cell))) (eval ys (over k ms (seen w.layout hi.cell))) (eval ys (over k ms (step_expr w.layout k st))) u
        → LoopHere (length (turns_of (ranged (eval ys (over k ms (seen w.layout lo.cell))) (eval ys (over k ms (seen w.layout hi.cell))) (eval ys (over k ms (step_expr w.layout k st))))))
    range_here at n x t' lo hi None y d m ms mq en u r =
        let known = To.range_known s C w (Meaning s) wf kn I sc ty ch i c there e f at n x lo hi None y d m ms mq en.needs_is in
        let e1 = wanted k (seen w.layout lo.cell) in
        let e2 = wanted k (seen w.layout hi.cell) in
        let kl = known lo first (λ z j. in_left z e1 _ j) r.low r.low_is in
        let kh = known hi (later first) (λ z j. in_right z e1 _ (in_left z e2 _ j)) r.high r.high_is in
        let ka = next_cell kl (next_cell kh no_cell) in
        let bd = ty.range_bounds (script_path p) at n x lo hi None y d (r.low ∷ r.high ∷ []) (stmt_in s (in_block (chain_live s C w.layout (Meaning s) wf.names I sc ch) m)) ka in
        let nb = bounds_two r.low r.high bd.0 bd.1 in
        let st1 : number_of r.step ≡ bd.0.step = ap number_of (ok_step r.step_is) ∙ sym nb.2 in
        let rc : range_count bd.0.low bd.0.high bd.0.step ≡ Ok r.many = (λ i. range_count (sym nb.0 i) (sym nb.1 i) (sym st1 i)) ∙ r.count in
        subst LoopHere (sym (many_of _ _ _ r.low r.high r.step r.many r.low_is r.high_is r.step_is r.count))
        (loop_here at n (range lo hi None x y d) _ r.many _ (ap loop_of en.act_is) m en.at_is (cells_known ka (in_turns bd.1 rc)) (of_range bd.1 rc))
    range_here at n x t' lo hi (Some o) y d m ms mq en u r =
        let known = To.range_known s C w (Meaning s) wf kn I sc ty ch i c there e f at n x lo hi (Some o) y d m ms mq en.needs_is in
        let e1 = wanted k (seen w.layout lo.cell) in
        let e2 = wanted k (seen w.layout hi.cell) in
        let e3 = wanted k (seen w.layout o.cell) in
        let kl = known lo first (λ z j. in_left z e1 _ j) r.low r.low_is in
        let kh = known hi (later first) (λ z j. in_right z e1 _ (in_left z e2 _ j)) r.high r.high_is in
        let ks = known o (later (later first)) (λ z j. in_right z e1 _ (in_right z e2 _ (in_left z e3 _ j))) r.step r.step_is in
        let ka = next_cell kl (next_cell kh (next_cell ks no_cell)) in
        let bd = ty.range_bounds (script_path p) at n x lo hi (Some o) y d (r.low ∷ r.high ∷ r.step ∷ []) (stmt_in s (in_block (chain_live s C w.layout (Meaning s) wf.names I sc ch) m)) ka in
        let nb = bounds_three r.low r.high r.step bd.0 bd.1 in
        let rc : range_count bd.0.low bd.0.high bd.0.step ≡ Ok r.many = (λ i. range_count (sym nb.0 i) (sym nb.1 i) (sym nb.2 i)) ∙ r.count in
        subst LoopHere (sym (many_of _ _ _ r.low r.high r.step r.many r.low_is r.high_is r.step_is r.count))
        (loop_here at n (range lo hi (Some o) x y d) _ r.many _ (ap loop_of en.act_is) m en.at_is (cells_known ka (in_turns bd.1 rc)) (of_range bd.1 rc))

    ranged_here : (at n x t' : ℕ) (lo hi : Outer) (st : Option Outer) (y : Option ℕ) (d : Block) → stmt at n (range lo hi st x y d) ∈ block_list b
        → (ms : List Need) → own_needs w.layout k (range lo hi st x y d) ≡ ms
        → IsEntry (entry C i) at (pos 0) ms
        (code.Range (over k ms (seen w.layout lo.cell)) (over k ms (seen w.layout hi.cell)) (over k ms (step_expr w.layout k st)) (record { body = t'; value = x; turn = y }))
        → (u : Key × Scalar) → In u (turns_of (compute (entry C i).act ys)) → LoopHere (turns_here (compute (entry C i).act ys))
    ranged_here at n x t' lo hi st y d m ms mq en u h =
        subst (λ (z : Act). LoopHere (turns_here (compute z ys))) (sym en.act_is)
        (range_here at n x t' lo hi st y d m ms mq en u (ranged_of _ _ _ u (subst (λ (z : Act). In u (turns_of (compute z ys))) en.act_is h)))

    -- an entry of a loop that has turns
    module _ (lp : Loop) (is_loop : loop_of (entry C i).act ≡ Some lp) (u : Key × Scalar) (turn : In u (turns_of (compute (entry C i).act ys))) where
      no_loop : {a : Act} → (entry C i).act ≡ a → loop_of a ≡ None → LoopHere (turns_here (compute (entry C i).act ys))
      no_loop q z = none_some (ap loop_of q ∙ z) is_loop

      of_part : (st : Stmt) → PartOf C w.layout k st i → LoopHere (turns_here (compute (entry C i).act ys))
      of_part st po = by po.as_part po.there
        where
          by : {x : Co.Part} {js : List ℕ} → PartAs C w.layout k po.all po.at po.priority x js → In i js → LoopHere (turns_here (compute (entry C i).act ys))
          by (plain_literal z) j = absurd j
          by (plain_name z) j = absurd j
          by (a_cell {j = j'} z nd en) j = no_loop (ap (λ (z : ℕ). (entry C z).act) (in_one i j' j) ∙ en.act_is) refl
          by (a_read {j = j'} z nd ix en) j = no_loop (ap (λ (z : ℕ). (entry C z).act) (in_one i j' j) ∙ en.act_is) refl
          by (a_call {j = j'} ca) j = no_loop (ap (λ (z : ℕ). (entry C z).act) (in_one i j' j) ∙ ca.is.act_is) refl

      of_own : (st : Stmt) → st ∈ block_list b → OwnAs C w.layout k st i → LoopHere (turns_here (compute (entry C i).act ys))
      of_own st m (own_simple {a = a} z en nd) = no_loop en.act_is (simple_no_loop w.layout k a z)
      of_own st m (own_branch en mk ba) = no_loop en.act_is refl
      of_own st m (own_branches en mk ba bb) = no_loop en.act_is refl
      of_own st m (own_range en mk ba) = ranged_here _ _ _ _ _ _ _ _ _ m _ refl en u turn
      of_own st m (own_each en mk ba) = each_here _ _ _ _ _ _ _ m en u turn
      of_own st m (own_wait wa en) = no_loop en.act_is refl

      pub live_loop : LoopHere (turns_here (compute (entry C i).act ys))
      live_loop = by_body (chain_body s C w.layout (Meaning s) wf.names I sc ch)
        where
          by_role : RoleIn C w.layout k b i → LoopHere (turns_here (compute (entry C i).act ys))
          by_role r = elim r.role [ inl po ↦ of_part r.st po | inr ow ↦ of_own r.st r.there ow ]

          by_body : BodyAs C w.layout k b t → LoopHere (turns_here (compute (entry C i).act ys))
          by_body (body_as bl mk) = by_role (find_role C w.layout bl there)
