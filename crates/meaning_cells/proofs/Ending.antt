-- What is to be finished before a block is, statement by statement and block by block.
use Rattle.std.specs.Prelude.{◌≡◌, ◌⊎◌, ◌↔◌, IsTrue, ℕ, zero, suc, ◌+◌, ◌-◌, ◌<◌, ◌≤◌, Bool, true, false, not, List, [], ◌∷◌, ◌++◌, length, drop, map, nat_le, pos, slice_get, Option, Some, None, Vec, Box, refl}
use Rattle.std.proofs.Common.{arith, inl, inr, sym, ap, ◌∙◌, subst, get_or}
use Rattle.std.proofs.lemmas.List.{append-nil, append_assoc, drop_more}
use Rattle.values.specs.declared.key.Key.{Key}
use Rattle.language.specs.Core as core
use Rattle.language.specs.Core.{Owned, Name, Block, Core, Stmt}
use Rattle.language.specs.Members.{◌∈◌, first, later}
use Rattle.language.proofs.Members.{to_left, to_right, either}
use Rattle.flow.specs.declared.name.Name.{Name as FlowName}
use Rattle.language.specs.Places.{max_path_steps}
use Rattle.flow.specs.declared.script.Function.{Function}
use Rattle.flow.specs.declared.statement.Action.{Action, Wait}
use Rattle.flow.specs.declared.statement.Block.{Block as FlowBlock}
use Rattle.flow.specs.declared.statement.Header.{Header}
use Rattle.flow.specs.declared.statement.Statement.{Statement, out-Statement}
use Rattle.flow.specs.View.{awaited_view, block_view, function_view, name_view, names_view, waits_around, action_view, block_of, statement_view, statements_view}
use Rattle.meaning_cells.specs.Chosen.{Chosen, have_come_in, key_in}
use Rattle.meaning_cells.specs.Ending.{Goal, Goals, action_goals, goals_of, task_goal, behind, body_goals, both, child_goals, function_goals, goals_in, IsDone, done, output_goals, statement_goals, turn_goals, where_aimed, where_so}
use Rattle.meaning_cells.specs.declared.finished.PendingBlock.{PendingBlock}
use Rattle.meaning_facts.specs.declared.fact_base.FactBase.{FactBase}
use Rattle.meaning_facts.specs.Paths.{child_at, path_of}
use Rattle.meaning_facts.specs.Sighted.{sight_of}
use Rattle.meaning_cells.specs.Targeted.{aims_of, aims_in, same_owned}
use Rattle.meaning_cells.proofs.Aims.{view_statement, view_wait, waits_aim}

behind_both : (gs : List Goal) (n m : Goals) → behind gs (both n m) ≡ both (behind gs n) m
behind_both gs None m = refl
behind_both gs (Some hs) None = refl
behind_both gs (Some hs) (Some ks) = ap (λ (z : List Goal). Some z) (sym (append_assoc gs hs ks))

both_nothing : (n : Goals) → both n (Some []) ≡ n
both_nothing None = refl
both_nothing (Some gs) = ap (λ (z : List Goal). Some z) (append-nil gs)

-- goals of which the first have been put behind the others
pub both_more : (whole : Goals) (gs hs : List Goal) (n m : Goals) → whole ≡ behind gs (both n m) → where_so true hs ≡ behind gs n → whole ≡ behind hs m
both_more whole gs hs n m e f = e ∙ behind_both gs n m ∙ ap (λ (z : Goals). both z m) (sym f)

-- and of which the first cannot be finished
pub both_fail : (whole : Goals) (gs hs : List Goal) (n m : Goals) → whole ≡ behind gs (both n m) → where_so false hs ≡ behind gs n → where_so false hs ≡ whole
both_fail whole gs hs n m e f = sym (e ∙ behind_both gs n m ∙ ap (λ (z : Goals). both z m) (sym f))

-- nothing is left
pub both_none : (whole : Goals) (gs : List Goal) → whole ≡ behind gs (Some []) → where_so true gs ≡ whole
both_none whole gs e = sym (e ∙ ap (λ (z : List Goal). Some z) (append-nil gs))

-- TURNS

pub turn_step : (l : FactBase) (i : ℕ) (a : Owned) (at : ℕ) (b : Block) (c : Chosen) (k n : ℕ) → k < n
    → turn_goals l i a at b c k (n - k) ≡ both (child_goals (child_at l.instances i at (key_in c k)) a b) (turn_goals l i a at b c (k + 1) (n - (k + 1)))
turn_step l i a at b c k n below =
    let left : n - k ≡ suc (n - (k + 1)) = omega arith in
    let next : suc k ≡ k + 1 = omega arith in
    ap (λ (z : ℕ). turn_goals l i a at b c k z) left
    ∙ ap (λ (z : ℕ). both (child_goals (child_at l.instances i at (key_in c k)) a b) (turn_goals l i a at b c z (n - (k + 1)))) next

pub turns_left : (l : FactBase) (i : ℕ) (a : Owned) (at : ℕ) (b : Block) (c : Chosen) (k n : ℕ) → n ≡ k → turn_goals l i a at b c k (n - k) ≡ Some []
turns_left l i a at b c k n e =
    let left : n - k ≡ 0 = omega arith in
    ap (λ (z : ℕ). turn_goals l i a at b c k z) left

pub turns_start : (l : FactBase) (i : ℕ) (a : Owned) (at : ℕ) (b : Block) (c : Chosen) (n : ℕ) → turn_goals l i a at b c 0 n ≡ turn_goals l i a at b c 0 (n - 0)
turns_start l i a at b c n = let left : n ≡ n - 0 = omega arith in ap (λ (z : ℕ). turn_goals l i a at b c 0 z) left

-- OUTPUTS

output_cons : (j : ℕ) (a : Owned) (b : Block) (k : ℕ) (x : Name) (xs : List Name) → output_goals j a b k (x ∷ xs) ≡ output_goals j a b k (x ∷ []) ++ output_goals j a b (suc k) xs
output_cons j a b k x xs = by (same_owned x.what a) refl
  where
    by : (t : Bool) → same_owned x.what a ≡ t → output_goals j a b k (x ∷ xs) ≡ output_goals j a b k (x ∷ []) ++ output_goals j a b (suc k) xs
    by true e = rw e refl
    by false e = rw e refl

pub output_more : (j : ℕ) (a : Owned) (b : Block) (whole gs hs : List Goal) (xs : List FlowName) (k : ℕ) (x : FlowName) → k < length xs → get_or xs k x ≡ x
    → whole ≡ gs ++ output_goals j a b k (names_view (drop k xs)) → hs ≡ gs ++ output_goals j a b k (name_view x ∷ [])
    → whole ≡ hs ++ output_goals j a b (k + 1) (names_view (drop (k + 1) xs))
output_more j a b whole gs hs xs k x below item e f =
    let rest = names_view (drop (k + 1) xs) in
    let next : suc k ≡ k + 1 = omega arith in
    e ∙ ap (λ (z : List FlowName). gs ++ output_goals j a b k (names_view z)) (drop_more xs k x below ∙ ap (λ (z : FlowName). z ∷ drop (k + 1) xs) item)
    ∙ ap (λ (z : List Goal). gs ++ z) (output_cons j a b k (name_view x) rest)
    ∙ sym (append_assoc gs (output_goals j a b k (name_view x ∷ [])) (output_goals j a b (suc k) rest))
    ∙ ap (λ (z : List Goal). z ++ output_goals j a b (suc k) rest) (sym f)
    ∙ ap (λ (z : ℕ). hs ++ output_goals j a b z rest) next

-- STATEMENTS

pub view_goals : {A : Type 0} (s : Core) (l : FactBase) (i : ℕ) (a : Owned) (st : Statement A) → statement_goals s l i a (statement_view st)
    ≡ where_aimed (aims_of a (action_view (out-Statement A st).action)) (action_goals s l i a (out-Statement A st).at (out-Statement A st).node (action_view (out-Statement A st).action))
view_goals {A} s l i a st = ap (λ (z : Stmt). statement_goals s l i a z) (view_statement A st)

pub statement_step : {A : Type 0} (s : Core) (l : FactBase) (i : ℕ) (a : Owned) (ss : List (Statement A)) (k : ℕ) (d : Statement A) → k < length ss → get_or ss k d ≡ d
    → goals_in s l i a (block_of (statements_view (drop k ss))) ≡ both (statement_goals s l i a (statement_view d)) (goals_in s l i a (block_of (statements_view (drop (k + 1) ss))))
statement_step {A} s l i a ss k d below item =
    ap (λ (z : List (Statement A)). goals_in s l i a (block_of (statements_view z))) (drop_more ss k d below)
    ∙ ap (λ (z : Statement A). both (statement_goals s l i a (statement_view z)) (goals_in s l i a (block_of (statements_view (drop (k + 1) ss))))) item

-- a `wait` with nothing beside it
pub wait_goals : {A : Type 0} (s : Core) (l : FactBase) (i : ℕ) (a : Owned) (h : Header A) (hs : List (Header A)) (b : Block)
    → goals_in s l i a (waits_around (h ∷ hs) b)
    ≡ where_aimed (aims_in a b) (where_so (have_come_in (sight_of l i) (map awaited_view h.names.items)) (record { instance = i; what = a; block = waits_around hs b } ∷ []))
wait_goals {A} s l i a h hs b =
    both_nothing (where_aimed (aims_in a (waits_around hs b)) (where_so (have_come_in (sight_of l i) (map awaited_view h.names.items)) (record { instance = i; what = a; block = waits_around hs b } ∷ [])))
    ∙ ap (λ (z : Bool). where_aimed z (where_so (have_come_in (sight_of l i) (map awaited_view h.names.items)) (record { instance = i; what = a; block = waits_around hs b } ∷ []))) (waits_aim a hs b)

-- the content of a `wait`, inside of others
pub view_content : {A : Type 0} (s : Core) (l : FactBase) (i : ℕ) (a : Owned) (at n : ℕ) (ns : Vec FlowName A) (hs : Vec (Header A) A) (b : Box (FlowBlock A) A) (act : Action A) → act ≡ Wait ns hs b
    → (names : List FlowName) → names ≡ ns.items → (inner : List (Header A)) → inner ≡ hs.items → (block : FlowBlock A) → block ≡ b.value
    → where_so (have_come_in (sight_of l i) (map awaited_view names)) (record { instance = i; what = a; block = waits_around inner (block_view block) } ∷ []) ≡ action_goals s l i a at n (action_view act)
view_content {A} s l i a at n ns hs b act e names f inner g block h =
    ap (λ (z : List FlowName). where_so (have_come_in (sight_of l i) (map awaited_view z)) (record { instance = i; what = a; block = waits_around inner (block_view block) } ∷ [])) f
    ∙ ap (λ (z : List (Header A)). where_so (have_come_in (sight_of l i) (map awaited_view ns.items)) (record { instance = i; what = a; block = waits_around z (block_view block) } ∷ [])) g
    ∙ ap (λ (z : FlowBlock A). where_so (have_come_in (sight_of l i) (map awaited_view ns.items)) (record { instance = i; what = a; block = waits_around hs.items (block_view {A = A} z) } ∷ [])) h
    ∙ ap (action_goals s l i a at n) (sym (ap (action_view {A = A}) e ∙ view_wait ns hs b))

-- CALLS

get_mapped : {X Y : Type 0} (f : X → Y) (xs : List X) (k : ℕ) (x : X) → slice_get xs k ≡ Some x → slice_get (map f xs) k ≡ Some (f x)
get_mapped f [] zero x e = absurd (cc (e))
get_mapped f [] (suc k) x e = absurd (cc (e))
get_mapped {X} {Y} f (y ∷ xs) zero x e = let same : y ≡ x = cc (e) in ap (λ (z : X). Some (f z)) same
get_mapped f (y ∷ xs) (suc k) x e = get_mapped f xs k x e

get_past : {X Y : Type 0} (f : X → Y) (xs : List X) (k : ℕ) → slice_get xs k ≡ None → slice_get (map f xs) k ≡ None
get_past f [] zero e = refl
get_past f [] (suc k) e = refl
get_past f (y ∷ xs) zero e = absurd (cc (e))
get_past f (y ∷ xs) (suc k) e = get_past f xs k e

-- no function is called
pub called_none : {A : Type 0} (l : FactBase) (i : ℕ) (a : Owned) (c : core.Call) (fs : List (Function A)) (gs : List Goal) (deep : Bool) → slice_get fs c.function ≡ None
    → deep ≡ nat_le max_path_steps (length (path_of l.instances.all.items i)) → where_so (not deep) gs ≡ behind gs (function_goals l i a c (slice_get (map function_view fs) c.function))
called_none {A} l i a c fs gs deep e d = by (not deep) refl
  where
    is : function_goals l i a c (slice_get (map (function_view {A = A}) fs) c.function) ≡ where_so (not deep) []
    is = ap (function_goals l i a c) (get_past (function_view {A = A}) fs c.function e) ∙ ap (λ (z : Bool). where_so (not z) []) (sym d)

    by : (t : Bool) → not deep ≡ t → where_so (not deep) gs ≡ behind gs (function_goals l i a c (slice_get (map (function_view {A = A}) fs) c.function))
    by true p = ap (λ (z : Bool). where_so z gs) p ∙ ap (λ (z : List Goal). Some z) (sym (append-nil gs)) ∙ sym (ap (behind gs) (is ∙ ap (λ (z : Bool). where_so z []) p))
    by false p = ap (λ (z : Bool). where_so z gs) p ∙ sym (ap (behind gs) (is ∙ ap (λ (z : Bool). where_so z []) p))

-- its body is not live
pub called_lost : {A : Type 0} (l : FactBase) (i : ℕ) (a : Owned) (c : core.Call) (fs : List (Function A)) (f : Function A) (gs : List Goal) → slice_get fs c.function ≡ Some f
    → child_at l.instances i c.at (Key.Number (pos 0)) ≡ None → where_so false gs ≡ behind gs (function_goals l i a c (slice_get (map function_view fs) c.function))
called_lost {A} l i a c fs f gs e lost =
    sym (ap (λ (z : Option core.Function). behind gs (function_goals l i a c z)) (get_mapped (function_view {A = A}) fs c.function f e)
    ∙ ap (λ (z : Option ℕ). behind gs (body_goals z a (block_view f.body) c.outputs)) lost)

-- its body is live
pub called_found : {A : Type 0} (l : FactBase) (i : ℕ) (a : Owned) (c : core.Call) (fs : List (Function A)) (f : Function A) (j : ℕ) (gs hs : List Goal) → slice_get fs c.function ≡ Some f
    → child_at l.instances i c.at (Key.Number (pos 0)) ≡ Some j → hs ≡ gs ++ output_goals j a (block_view f.body) 0 c.outputs → where_so true hs ≡ behind gs (function_goals l i a c (slice_get (map function_view fs) c.function))
called_found {A} l i a c fs f j gs hs e found more =
    ap (λ (z : List Goal). Some z) more
    ∙ sym (ap (λ (z : Option core.Function). behind gs (function_goals l i a c z)) (get_mapped (function_view {A = A}) fs c.function f e)
    ∙ ap (λ (z : Option ℕ). behind gs (body_goals z a (block_view f.body) c.outputs)) found)

-- BLOCKS

-- a block is finished just where all those that are left are
pub record IsLeft (s : Core) (l : FactBase) (g : Goal) (gs : List Goal) : Type 0 where
  pub so : ((h : Goal) → h ∈ gs → IsDone s l h) → IsDone s l g
  pub all : IsDone s l g → (h : Goal) → h ∈ gs → IsDone s l h

only_one : {s : Core} {l : FactBase} (g h : Goal) → IsDone s l g → h ∈ (g ∷ []) → IsDone s l h
only_one g h d first = d
only_one g h d (later m) = elim m [ ]

pub left_first : (s : Core) (l : FactBase) (g : Goal) → IsLeft s l g (g ∷ [])
left_first s l g = record { so = λ f. f g first; all = λ d h m. only_one g h d m }

pub left_none : (s : Core) (l : FactBase) (g : Goal) → IsLeft s l g [] → IsDone s l g
left_none s l g left = left.so (λ h m. elim m [ ])

-- what is to be finished with a block that is finished is so
with_it : {s : Core} {l : FactBase} {g : Goal} (gs : List Goal) → goals_in s l g.instance g.what g.block ≡ Some gs → IsDone s l g → (h : Goal) → h ∈ gs → IsDone s l h
with_it {s} {l} gs e (done {gs = hs} f all) h m = let same : hs ≡ gs = cc (e, f) in all h (subst (λ (z : List Goal). h ∈ z) (sym same) m)

never_it : {s : Core} {l : FactBase} {g : Goal} → goals_in s l g.instance g.what g.block ≡ None → IsDone s l g → ⊥
never_it e (done f all) = absurd (cc (e, f))

in_last : (rest : List Goal) (h : Goal) → h ∈ (rest ++ h ∷ [])
in_last rest h = to_right rest (h ∷ []) first

-- a block is taken from those that are left, and those come that are to be finished with it
pub left_more : (s : Core) (l : FactBase) (g h : Goal) (gs rest hs : List Goal) → IsLeft s l g gs → gs ≡ rest ++ h ∷ []
    → where_so true hs ≡ behind rest (goals_in s l h.instance h.what h.block) → IsLeft s l g hs
left_more s l g h gs rest hs left e f = by (goals_in s l h.instance h.what h.block) refl
  where
    some : (ks : List Goal) → goals_in s l h.instance h.what h.block ≡ Some ks → hs ≡ rest ++ ks → IsLeft s l g hs
    some ks p q = record {
      so = λ each. left.so (λ x m. by_place x each (either rest (h ∷ []) (subst (λ (z : List Goal). x ∈ z) e m)));
      all = λ d x m. by_part d x (either rest ks (subst (λ (z : List Goal). x ∈ z) q m));
    }
      where
        by_place : (x : Goal) → ((y : Goal) → y ∈ hs → IsDone s l y) → (x ∈ rest) ⊎ (x ∈ (h ∷ [])) → IsDone s l x
        by_place x each (inl m) = each x (subst (λ (z : List Goal). x ∈ z) (sym q) (to_left rest ks m))
        by_place x each (inr m) = only_one h x (done p (λ y n. each y (subst (λ (z : List Goal). y ∈ z) (sym q) (to_right rest ks n)))) m

        by_part : IsDone s l g → (x : Goal) → (x ∈ rest) ⊎ (x ∈ ks) → IsDone s l x
        by_part d x (inl m) = left.all d x (subst (λ (z : List Goal). x ∈ z) (sym e) (to_left rest (h ∷ []) m))
        by_part d x (inr m) = with_it ks p (left.all d h (subst (λ (z : List Goal). h ∈ z) (sym e) (in_last rest h))) x m

    by : (n : Goals) → goals_in s l h.instance h.what h.block ≡ n → IsLeft s l g hs
    by None p = let never : Some hs ≡ None = f ∙ ap (behind rest) p in absurd (cc (never))
    by (Some ks) p = let is : Some hs ≡ Some (rest ++ ks) = f ∙ ap (behind rest) p in some ks p (cc (is))

-- and where it cannot be finished, the first cannot
pub left_fails : (s : Core) (l : FactBase) (g h : Goal) (gs rest hs : List Goal) → IsLeft s l g gs → gs ≡ rest ++ h ∷ []
    → where_so false hs ≡ behind rest (goals_in s l h.instance h.what h.block) → IsDone s l g → ⊥
left_fails s l g h gs rest hs left e f d = by (goals_in s l h.instance h.what h.block) refl
  where
    by : (n : Goals) → goals_in s l h.instance h.what h.block ≡ n → ⊥
    by None p = never_it p (left.all d h (subst (λ (z : List Goal). h ∈ z) (sym e) (in_last rest h)))
    by (Some ks) p = let never : None ≡ Some (rest ++ ks) = f ∙ ap (behind rest) p in absurd (cc (never))

goals_append : {A : Type 0} (ts us : List (PendingBlock A)) → goals_of (ts ++ us) ≡ goals_of ts ++ goals_of us
goals_append [] us = refl
goals_append (t ∷ ts) us = ap (λ (z : List Goal). task_goal t ∷ z) (goals_append ts us)

-- the same of what the list of a program stands for
pub task_more : {A : Type 0} (s : Core) (l : FactBase) (g : Goal) (ts rest us : List (PendingBlock A)) (t : PendingBlock A) → ts ≡ rest ++ t ∷ [] → IsLeft s l g (goals_of ts)
    → where_so true (goals_of us) ≡ behind (goals_of rest) (goals_in s l (task_goal t).instance (task_goal t).what (task_goal t).block) → IsLeft s l g (goals_of us)
task_more s l g ts rest us t e left f = left_more s l g (task_goal t) (goals_of ts) (goals_of rest) (goals_of us) left (ap goals_of e ∙ goals_append rest (t ∷ [])) f

pub task_fails : {A : Type 0} (s : Core) (l : FactBase) (g : Goal) (ts rest us : List (PendingBlock A)) (t : PendingBlock A) → ts ≡ rest ++ t ∷ [] → IsLeft s l g (goals_of ts)
    → where_so false (goals_of us) ≡ behind (goals_of rest) (goals_in s l (task_goal t).instance (task_goal t).what (task_goal t).block) → IsDone s l g → ⊥
task_fails s l g ts rest us t e left f = left_fails s l g (task_goal t) (goals_of ts) (goals_of rest) (goals_of us) left (ap goals_of e ∙ goals_append rest (t ∷ [])) f

pub truly : {P : Type 0} → P → IsTrue true ↔ P
truly p = (λ e. p, λ q. refl)

pub falsely : {P : Type 0} → (P → ⊥) → IsTrue false ↔ P
falsely f = (λ e. absurd (cc (e)), λ q. elim (f q) [ ])

pub slice_there : {X : Type 0} (xs : List X) (k : ℕ) (x : X) → k < length xs → x ≡ get_or xs k x → slice_get xs k ≡ Some x
slice_there [] k x l e = absurd (omega (arith, l))
slice_there {X} (y ∷ xs) zero x l e = ap (λ (z : X). Some z) (sym e)
slice_there (y ∷ xs) (suc k) x l e = slice_there xs k x (omega (arith, l)) e

pub drop_past : {X : Type 0} (xs : List X) (k : ℕ) → length xs ≤ k → drop k xs ≡ []
drop_past [] zero l = refl
drop_past [] (suc k) l = refl
drop_past (x ∷ xs) zero l = absurd (omega (arith, l))
drop_past (x ∷ xs) (suc k) l = drop_past xs k (omega (arith, l))

-- the body of a call for one output more
pub output_next : (j : ℕ) (a : Owned) (b : Block) (whole gs hs : List Goal) (xs : List FlowName) (k : ℕ) (d : FlowName) → k < length xs
    → whole ≡ gs ++ output_goals j a b k (names_view (drop k xs)) → hs ≡ gs ++ output_goals j a b k (name_view (get_or xs k d) ∷ [])
    → whole ≡ hs ++ output_goals j a b (k + 1) (names_view (drop (k + 1) xs))
output_next j a b whole gs hs xs k d below e f = output_more j a b whole gs hs xs k (get_or xs k d) below (same xs k below) e f
  where
    same : (ys : List FlowName) (i : ℕ) → i < length ys → get_or ys i (get_or xs k d) ≡ get_or ys i d
    same [] i l = absurd (omega (arith, l))
    same (y ∷ ys) zero l = refl
    same (y ∷ ys) (suc i) l = same ys i (omega (arith, l))
