-- What small scripts with loops and conditions mean.
use Rattle.std.specs.Prelude.{◌≡◌, ◌⊎◌, ℕ, zero, suc, ◌-◌, ◌<◌, List, [], slice_get, Some, None, true, false, refl}
use Rattle.std.proofs.Common.{inl, inr, subst, arith}
use Rattle.values.specs.declared.fault.OpFault.TheVariants.{BadStep}
use Rattle.values.specs.declared.key.Key.{Key}
use Rattle.values.specs.declared.value.Scalar.{Scalar}
use Rattle.values.specs.declared.value.Scalar.TheVariants.{Truth}
use Rattle.values.specs.declared.value.Value.{Value}
use Rattle.values.specs.declared.value.Value.TheVariants.{One}
use Rattle.language.specs.Core.{local, stmt, Action, Awaited, each, wait, Block, no_stmts, Function, Core}
use Rattle.language_laws.specs.HeaderExamples as example
use Rattle.language_laws.specs.HeaderExamples.{nested_calls}
use Rattle.language.specs.Facts.{operation, too_deep, value, fault, no_cell, next_cell}
use Rattle.language.specs.Meaning.{Live, script, opened, waited, called, Ready, cells_known, HasValue, stored, in_turn, of_literal, computed, now, none_comes, next_comes, in_block, cell_value, bad_range, too_deep_header, Known, Meaning}
use Rattle.language.specs.Members.{◌∈◌, first, later}
use Rattle.language.specs.Openings.{Opens, then_alone, item, InTurn}
use Rattle.language.specs.Parts.{block_list}
use Rattle.language.specs.Places.{Path, Place, max_path_steps}
use Rattle.language.specs.Single.{SinglyAssigned}
use Rattle.language.specs.WellFormed.{WellFormed, each_value_role}
use Rattle.language_laws.proofs.DeepPaths.{deep_length}
use Rattle.language_laws.proofs.Ever.{sound, one_value}
use Rattle.language_laws.proofs.Printing.{main_or_other, other_blocks}
use Rattle.language_laws.proofs.TestedNames.{well_formed}
use Rattle.language_laws.proofs.TestedSingle.{singly_assigned}

-- A STEP OF 0

pub step_fault : Known example.no_step 1 (fault (operation BadStep) 0 ([], 1))
step_fault = inr (bad_range (in_block script first) (next_comes (now (computed of_literal)) (next_comes (now (computed of_literal)) (next_comes (now (computed of_literal)) none_comes))) refl refl)

-- A HEADER WHOSE PATH WOULD BE TOO LONG

abbrev H : Core
H = example.headers_without_end

abbrev h_body : Block
h_body = example.body_of_headers

h_live : (d : ℕ) → d < max_path_steps → Live H (Known H 0) (nested_calls 62 37 d) h_body
h_live zero h = called script first first refl (omega arith)
h_live (suc d) h = let l = deep_length 62 37 d in called (h_live d (omega arith)) (later first) first refl (omega arith)

pub header_fault : Known H 1 (fault too_deep 19 (nested_calls 62 37 (max_path_steps - 1), 5))
header_fault = inr (too_deep_header (in_block (h_live (max_path_steps - 1) (omega arith)) first) (inl (next_comes (now (computed of_literal)) none_comes)) then_alone (deep_length 62 37 (max_path_steps - 1)))

-- A LOOP IN A BRANCH THAT IS NOT TAKEN

abbrev L : Core
L = example.closed_loop

l_formed : WellFormed L
l_formed = well_formed L (record { nodes_once = refl; writers_once = refl; offsets_once = refl; targets = refl; named = refl; script_body = refl; headers = refl; waits = refl; functions = refl; calls = refl; hidden = refl; fills = refl })

l_single : SinglyAssigned L
l_single = singly_assigned L (record { declared = refl; outputs = refl; inputs = refl; loops = refl })

abbrev branch : Block
branch = example.untaken_branch

untaken : Known L 1 (value ([], 6) (One (Truth false)))
untaken = inr (cell_value (in_block script (later (later first))) first (computed of_literal))

truth_same : {A : Type 0} → One (Truth true) ≡ One (Truth false) → A
truth_same h = absurd (cc (h))

never_true : {path : Path} → path ≡ [] → Meaning L (value (path, 6) (One (Truth true))) → ⊥
never_true e k = truth_same (one_value L l_formed l_single ([], 6) (One (Truth true)) (One (Truth false)) (subst (λ (p : Path). Meaning L (value (p, 6) (One (Truth true)))) e k) (1, untaken))

-- nothing that the script's own block opens
opens_branch : {path : Path} {at n : ℕ} {a : Action} {vs : List Value} {k : Key} {c : Block} → path ≡ [] → stmt at n a ∈ block_list L.body → Ready L (Meaning L) path a vs → Opens a vs k c → ⊥
opens_branch e first r o = elim o [ ]
opens_branch e (later first) r o = elim o [ ]
opens_branch e (later (later first)) (cells_known (next_cell k no_cell) d) then_alone = never_true e k
opens_branch e (later (later (later m))) r o = elim m [ ]

opens_empty : {at n : ℕ} {a : Action} {vs : List Value} {k : Key} {c : Block} → stmt at n a ∈ block_list branch → Opens a vs k c → c ≡ branch → ⊥
opens_empty first (item m) e = absurd (cc (e))
opens_empty (later m) o e = elim m [ ]

script_branch : L.body ≡ branch → ⊥
script_branch e = absurd (cc (e))

wait_main : {at n : ℕ} {ns : List Awaited} {c : Block} → stmt at n (wait ns c) ∈ block_list L.body → ⊥
wait_main (later (later (later m))) = elim m [ ]

wait_branch : {at n : ℕ} {ns : List Awaited} {c : Block} → stmt at n (wait ns c) ∈ block_list branch → ⊥
wait_branch (later m) = elim m [ ]

no_function : (n : ℕ) (f : Function) → slice_get L.functions n ≡ Some f → ⊥
no_function zero f e = absurd (cc (e))
no_function (suc n) f e = absurd (cc (e))

-- the three blocks
data Spot : Path → Block → Type 0 where
  at_main : {path : Path} {b : Block} → path ≡ [] → b ≡ L.body → Spot path b
  at_branch : {path : Path} {b : Block} → b ≡ branch → Spot path b
  at_empty : {path : Path} {b : Block} → block_list b ≡ [] → Spot path b

spot_of : {path : Path} {b : Block} → (((path ≡ []) × (b ≡ L.body)) ⊎ (b ∈ other_blocks L)) → Spot path b
spot_of (inl r) = at_main r.0 r.1
spot_of (inr first) = at_branch refl
spot_of (inr (later first)) = at_empty refl
spot_of (inr (later (later m))) = elim m [ ]

nothing_in : {X : Type 0} {x : X} {xs : List X} → xs ≡ [] → x ∈ xs → ⊥
nothing_in e first = absurd (cc (e))
nothing_in e (later m) = absurd (cc (e))

-- the branch is never live
never_live : {path : Path} {b : Block} → Live L (Meaning L) path b → b ≡ branch → ⊥
never_live script e = script_branch e
never_live (opened {path = path} {b = b} {c = c} {at = at} {n = n} {header = h} {vs = vs} {k = k} l m r o d) e = by (spot_of (main_or_other L l))
  where
    by : Spot path b → ⊥
    by (at_main p q) = opens_branch p (subst (λ (z : Block). stmt at n h ∈ block_list z) q m) r o
    by (at_branch q) = opens_empty (subst (λ (z : Block). stmt at n h ∈ block_list z) q m) o e
    by (at_empty q) = nothing_in q m
never_live (waited {path = path} {b = b} {c = c} {at = at} {n = n} {ns = ns} l m r) e = by (spot_of (main_or_other L l))
  where
    by : Spot path b → ⊥
    by (at_main p q) = wait_main (subst (λ (z : Block). stmt at n (wait ns c) ∈ block_list z) q m)
    by (at_branch q) = wait_branch (subst (λ (z : Block). stmt at n (wait ns c) ∈ block_list z) q m)
    by (at_empty q) = nothing_in q m
never_live (called {f = f} {c = c} l m i q d) e = no_function c.function f q

main_turn : {at n : ℕ} {a : Action} {vs : List Value} {k : Key} {x : ℕ} {v : Scalar} → stmt at n a ∈ block_list L.body → InTurn a vs k x v → ⊥
main_turn first t = elim t [ ]
main_turn (later first) t = elim t [ ]
main_turn (later (later first)) t = elim t [ ]
main_turn (later (later (later m))) t = elim m [ ]

-- THE LOOP'S VARIABLE HAS NO VALUE
pub no_variable : (path : Path) (v : Scalar) → HasValue L (Meaning L) (path, 8) v → ⊥
no_variable path v h = of_value h refl
  where
    of_turn : {p : Path} {c : Block} {at n x : ℕ} {a : Action} {vs : List Value} {k : Key} {u : Scalar} → Spot p c → Live L (Meaning L) p c → stmt at n a ∈ block_list c → InTurn a vs k x u → ⊥
    of_turn {at = at} {n = n} {a = a} (at_main e q) l m t = main_turn (subst (λ (z : Block). stmt at n a ∈ block_list z) q m) t
    of_turn (at_branch q) l m t = never_live l q
    of_turn (at_empty q) l m t = nothing_in q m

    of_value : {p : Place} {u : Scalar} → HasValue L (Meaning L) p u → p ≡ (path, 8) → ⊥
    of_value {p} {u} (stored (n, k)) e =
        (((sound L l_formed l_single n).one_each).no_loop_value) (stmt 28 7 (each (record { up = 1; what = local 2 }) 8 None no_stmts)) 8 true path (One u) (later (later (later first))) each_value_role (subst (λ (z : Place). Known L n (value z (One u))) e k)
    of_value (in_turn l m r o t d) e = of_turn (spot_of (main_or_other L l)) l m t
