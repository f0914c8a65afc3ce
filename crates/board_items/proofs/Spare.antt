-- Lists for what new items miss, told by the instances that are made.
use Rattle.std.proofs.Common.{◌≡◌, ◌∙◌, ℕ, ◌≤◌, List, [], ◌∷◌, ◌++◌, map, length, refl, sym, ap, subst, append_assoc}
use Rattle.std.specs.List.{AllZip, filter, flat_map}
use Rattle.std.specs.Prelude.{nat_lt}
use Rattle.std.proofs.lemmas.List.Elements.{filter-append}
use Rattle.std.proofs.lemmas.List.{map-append}
use Rattle.dataflow.specs.System.{Opening}
use Rattle.board_history.specs.Ending.{Instance, jobs_after, made_jobs, new_row, rest_jobs}
use Rattle.board_history.specs.Fields.{Does, Job, Row, Script}
use Rattle.rules.specs.declared.input.Input.{Input}
use Rattle.smallvec.specs.SmallVec.{SmallVec}
use Rattle.task_code.specs.Code.{Code, body, entry}
use Rattle.task_code.specs.Effects.{Task}
use Rattle.task_code.specs.Places.{Place}
use Rattle.board_items.specs.Ended.{first_needs}
use Rattle.board_items.specs.Progress.{jobs_behind}
use Rattle.board_items.specs.Room.{AreSpare}

jobs_are : (js : List Job) → map (λ (r : Row). r.job) (map new_row js) ≡ js
jobs_are [] = refl
jobs_are (j ∷ js) = ap (λ (l : List Job). j ∷ l) (jobs_are js)

behind_are : (rows : List Row) (js : List Job) → jobs_behind (length rows) (rows ++ map new_row js) ≡ js
behind_are [] js = jobs_are js
behind_are (r ∷ rows) js = behind_are rows js

module _ (C : Code) where
  abbrev long : List Job → List ℕ
  long js = filter (nat_lt 2) (map (first_needs C) js)

  abbrev long_of : Instance → List ℕ
  long_of m = filter (nat_lt 2) (map (λ e. length (entry C e).needs) (body C m.body).entries)

  entry_needs : (k : ℕ) (es : List ℕ) → map (first_needs C) (map (λ e. Does k e 0) es) ≡ map (λ e. length (entry C e).needs) es
  entry_needs k [] = refl
  entry_needs k (e ∷ es) = ap (λ (l : List ℕ). length (entry C e).needs ∷ l) (entry_needs k es)

  rest_long : (j : Job) (os : List (Opening Task Place)) → long (rest_jobs j os) ≡ []
  rest_long Script os = refl
  rest_long (Does k e c) [] = refl
  rest_long (Does k e c) (o ∷ os) = rest_long (Does k e c) os

  long_both : (xs ys : List Job) → long (xs ++ ys) ≡ long xs ++ long ys
  long_both xs ys = ap (filter (nat_lt 2)) (map-append (first_needs C) xs ys) ∙ filter-append (nat_lt 2) (map (first_needs C) xs) (map (first_needs C) ys)

  made_long : (made : List Instance) (rest : List Job) → long rest ≡ [] → long (made_jobs C made ++ rest) ≡ flat_map long_of made
  made_long [] rest h = h
  made_long (m ∷ made) rest h =
      ap long (append_assoc (map (λ e. Does m.key e 0) (body C m.body).entries) (made_jobs C made) rest)
      ∙ long_both (map (λ e. Does m.key e 0) (body C m.body).entries) (made_jobs C made ++ rest)
      ∙ ap (λ (l : List ℕ). filter (nat_lt 2) l ++ long (made_jobs C made ++ rest)) (entry_needs m.key (body C m.body).entries)
      ∙ ap (λ (l : List ℕ). long_of m ++ l) (made_long made rest h)

  pub spare_made : (made : List Instance) (j : Job) (os : List (Opening Task Place)) (rows : List Row) (ls : List (SmallVec Input)) → AllZip (λ n (l : SmallVec Input). n ≤ l.capacity) (flat_map long_of made) ls → AreSpare C (jobs_behind (length rows) (rows ++ map new_row (jobs_after C made j os))) ls
  spare_made made j os rows ls h =
      subst (λ (js : List Job). AreSpare C js ls) (sym (behind_are rows (jobs_after C made j os)))
      (subst (λ (ns : List ℕ). AllZip (λ n (l : SmallVec Input). n ≤ l.capacity) ns ls) (sym (made_long made (rest_jobs j os) (rest_long j os))) h)
