-- How many of the items that a change makes are of a kind.
use Rattle.std.proofs.Common.{◌≡◌, ℕ, ◌+◌, ◌*◌, ◌≤◌, Bool, true, false, cond, List, [], ◌∷◌, ◌++◌, map, refl, sym, ap, ◌∙◌, subst, if◌then◌else◌, length, arith}
use Rattle.std.specs.List.{filter}
use Rattle.std.proofs.Math.Nat.{mul-suc}
use Rattle.std.proofs.lemmas.List.{map-append}
use Rattle.board_history.specs.Ending.{job_kind, new_row}
use Rattle.board_history.specs.Fields.{Does, Job, Row, Script}
use Rattle.board_history.specs.Marking.{kind_eq}
use Rattle.task_code.specs.Code.{Code, Control, Kind, Leaf, entry, kind_of}
use Rattle.board_program.specs.Tables.{is_kind, run_as, runs_as}
use Rattle.board_instances.specs.Openings.{Put, put_jobs}
use Rattle.board_items.specs.Room.{apart_in}
use Rattle.board_changes.specs.Opened.{going as going_jobs}
use Rattle.board.specs.Room.{going}

kinds_same : (k l : Kind) → kind_eq k l ≡ is_kind k l
kinds_same Control Control = refl
kinds_same Control Leaf = refl
kinds_same Leaf Control = refl
kinds_same Leaf Leaf = refl

one_more : (b c : Bool) → b ≡ c → (m : ℕ) (e : ℕ) (fs : List ℕ) → m ≡ length fs → (if b then 1 else 0) + m ≡ length (cond c (e ∷ fs) fs)
one_more true true h m e fs g = omega arith
one_more true false h m e fs g = absurd (cc)
one_more false true h m e fs g = absurd (cc)
one_more false false h m e fs g = omega arith

module _ (C : Code) (k : Kind) where
  apart_append : (xs ys : List Row) → apart_in C k (xs ++ ys) ≡ apart_in C k xs + apart_in C k ys
  apart_append [] ys = omega arith
  apart_append (x ∷ xs) ys = let e = apart_append xs ys in omega arith

  apart_entries : (p : ℕ) (es : List ℕ) → apart_in C k (map new_row (map (λ (e : ℕ). Does p e 0) es)) ≡ run_as C k es
  apart_entries p [] = refl
  apart_entries p (e ∷ es) =
      one_more (kind_eq k (kind_of (entry C e).act)) (runs_as C k e) (kinds_same k (kind_of (entry C e).act)) (apart_in C k (map new_row (map (λ (e : ℕ). Does p e 0) es))) e (filter (runs_as C k) es) (apart_entries p es)

  -- of the items of instances that were put in
  pub apart_put : (es : List ℕ) (puts : List Put) → apart_in C k (map new_row (put_jobs es puts)) ≡ run_as C k es * length puts
  apart_put es [] = omega arith
  apart_put es (p ∷ ps) =
      let a = ap (apart_in C k) (map-append new_row (map (λ (e : ℕ). Does p.key e 0) es) (put_jobs es ps)) in
      let b = apart_append (map new_row (map (λ (e : ℕ). Does p.key e 0) es)) (map new_row (put_jobs es ps)) in
      let c = apart_entries p.key es in
      let d = apart_put es ps in
      let m = mul-suc (run_as C k es) (length ps) in
      omega arith

  pub apart_both : (es : List ℕ) (puts : List Put) (more : List Job) → apart_in C k (map new_row (put_jobs es puts ++ more)) ≡ run_as C k es * length puts + apart_in C k (map new_row more)
  apart_both es puts more =
      ap (apart_in C k) (map-append new_row (put_jobs es puts) more) ∙ apart_append (map new_row (put_jobs es puts)) (map new_row more)
      ∙ ap (λ (n : ℕ). n + apart_in C k (map new_row more)) (apart_put es puts)

-- of the item that goes on with a loop, which is a control item
pub apart_control : (C : Code) (j : Job) (b : Bool) → apart_in C Control (map new_row (going_jobs j b)) ≤ going b
apart_control C Script b = omega arith
apart_control C (Does k e c) false = omega arith
apart_control C (Does k e c) true = by (kind_eq Control (kind_of (entry C e).act))
  where
    by : (t : Bool) → (if t then 1 else 0) + 0 ≤ 1
    by true = omega arith
    by false = omega arith

pub apart_leaf : (C : Code) (j : Job) (b : Bool) → (b ≡ true → job_kind C j ≡ Control) → apart_in C Leaf (map new_row (going_jobs j b)) ≤ 0
apart_leaf C Script b h = omega arith
apart_leaf C (Does k e c) false h = omega arith
apart_leaf C (Does k e c) true h = subst (λ (l : Kind). (if kind_eq Leaf l then 1 else 0) + 0 ≤ 0) (sym (h refl)) (omega arith)
