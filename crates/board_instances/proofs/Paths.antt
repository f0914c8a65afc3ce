-- Paths, step by step outwards.
use Rattle.std.proofs.Common.{◌≡◌, ◌∙◌, refl, sym, ap, ℕ, suc, ◌+◌, ◌-◌, ◌<◌, List, [], ◌∷◌, ◌++◌, map, reverse, Option, Some, None, option_map, arith}
use Rattle.std.proofs.lemmas.List.{append-nil, append_assoc, map-append, reverse-append}
use Rattle.slab.specs.Slab.{Slab, get}
use Rattle.board_history.specs.Fields.{Frame, level_of, path_from, path_of, slot_at, step_before}
use Rattle.board_history.proofs.Frames.{path_none, path_step}
use Rattle.task_code.specs.Places as Places
use Rattle.values.specs.declared.key.Key.{Key}
use Rattle.board_instances.specs.View.{frame_view, frames_view, step_view}
use Rattle.board_instances.specs.declared.instance.Instance.{Instance}
use Rattle.paths.specs.declared.steps.Step.{Step}
use Rattle.board_instances.proofs.Slots.{view_absent, view_there}

module _ (s : Slab Instance) (k n : ℕ) where
  -- nothing is there: the path ends
  pub ends_there : (steps : List Step) → None ≡ get s k → map step_view steps ++ path_from (frames_view s.slots) n None ≡ map step_view steps ++ path_from (frames_view s.slots) (suc n) (Some k)
  ends_there steps e = ap (λ xs. map step_view steps ++ xs) (path_none (frames_view s.slots) n ∙ sym (by_slot None (view_absent s k e) refl))
    where
      by_slot : (o : Option Frame) → slot_at (frames_view s.slots) k ≡ o → o ≡ None → path_from (frames_view s.slots) (suc n) (Some k) ≡ []
      by_slot o e q = ap (λ (o : Option Frame). elim o [ None ↦ [] | Some f ↦ step_before f.way (path_from (frames_view s.slots) n f.parent) ]) (e ∙ q)

  -- an instance with a step, and one without
  pub with_step : (i : Instance) (steps added : List Step) (step : Step) (key : Key) → Some i ≡ get s k → i.way ≡ Some step → key ≡ step.key → added ≡ steps ++ record { offset = step.offset; key = key } ∷ [] → map step_view added ++ path_from (frames_view s.slots) n i.parent ≡ map step_view steps ++ path_from (frames_view s.slots) (suc n) (Some k)
  with_step i steps added step key e way same made = (let is : added ≡ steps ++ step ∷ [] = made ∙ ap (λ (q : Key). steps ++ record { offset = step.offset; key = q } ∷ []) same in ap (λ xs. map step_view xs ++ path_from (frames_view s.slots) n i.parent) is ∙ ap (λ xs. xs ++ path_from (frames_view s.slots) n i.parent) (map-append step_view steps (step ∷ [])) ∙ append_assoc (map step_view steps) (step_view step ∷ []) (path_from (frames_view s.slots) n i.parent) ∙ ap (λ xs. map step_view steps ++ xs) (sym (path_step (frames_view s.slots) n k (frame_view i) (view_there s k i e) ∙ ap (λ (o : Option Step). step_before (option_map step_view o) (path_from (frames_view s.slots) n i.parent)) way)))

  pub without_step : (i : Instance) (steps added : List Step) → Some i ≡ get s k → i.way ≡ None → added ≡ steps → map step_view added ++ path_from (frames_view s.slots) n i.parent ≡ map step_view steps ++ path_from (frames_view s.slots) (suc n) (Some k)
  without_step i steps added e way is = ap (λ xs. map step_view xs ++ path_from (frames_view s.slots) n i.parent) is ∙ ap (λ xs. map step_view steps ++ xs) (sym (path_step (frames_view s.slots) n k (frame_view i) (view_there s k i e) ∙ ap (λ (o : Option Step). step_before (option_map step_view o) (path_from (frames_view s.slots) n i.parent)) way))

-- the steps that were found, and those that are left
module _ (s : Slab Instance) (at : ℕ) where
  abbrev Left : List Step → (left : ℕ) → Option ℕ → Type 0
  Left steps n next = map step_view steps ++ path_from (frames_view s.slots) n next ≡ path_of (frames_view s.slots) at

  pub steps_begin : (old steps : List Step) (levels : ℕ) (next : Option ℕ) → old ≡ [] → levels ≡ level_of (slot_at (frames_view s.slots) at) → ((n : ℕ) → map step_view steps ++ path_from (frames_view s.slots) n next ≡ map step_view old ++ path_from (frames_view s.slots) (suc n) (Some at)) → Left steps (levels - 0) next
  steps_begin old steps levels next none is h = ap (λ n. map step_view steps ++ path_from (frames_view s.slots) n next) (whole levels) ∙ h levels ∙ ap (λ (xs : List Step). map step_view xs ++ path_from (frames_view s.slots) (suc levels) (Some at)) none ∙ ap (λ n. path_from (frames_view s.slots) (suc n) (Some at)) is
    where
      whole : (n : ℕ) → n - 0 ≡ n
      whole n = omega arith

  pub steps_go : (old steps : List Step) (levels i key : ℕ) (last next : Option ℕ) → Left old (levels - i) last → last ≡ Some key → i < levels → ((n : ℕ) → map step_view steps ++ path_from (frames_view s.slots) n next ≡ map step_view old ++ path_from (frames_view s.slots) (suc n) (Some key)) → Left steps (levels - (i + 1)) next
  steps_go old steps levels i key last next x here below h = h (levels - (i + 1)) ∙ ap (λ n. map step_view old ++ path_from (frames_view s.slots) n (Some key)) (one levels i below) ∙ ap (λ (o : Option ℕ). map step_view old ++ path_from (frames_view s.slots) (levels - i) o) (sym here) ∙ x
    where
      one : (levels i : ℕ) → i < levels → suc (levels - (i + 1)) ≡ levels - i
      one levels i below = omega (arith, below)

  pub steps_end : (steps : List Step) (n : ℕ) (next : Option ℕ) → Left steps n next → next ≡ None → map step_view steps ≡ path_of (frames_view s.slots) at
  steps_end steps n next x e = sym (append-nil (map step_view steps)) ∙ ap (λ xs. map step_view steps ++ xs) (sym (ap (λ (o : Option ℕ). path_from (frames_view s.slots) n o) e ∙ path_none (frames_view s.slots) n)) ∙ x

  pub steps_done : (steps : List Step) (n : ℕ) (next : Option ℕ) → Left steps n next → n ≡ 0 → map step_view steps ≡ path_of (frames_view s.slots) at
  steps_done steps n next x e = sym (append-nil (map step_view steps)) ∙ sym (ap (λ n. map step_view steps ++ path_from (frames_view s.slots) n next) e) ∙ x

-- a list that is turned round
turned : {X Y : Type 0} (f : X → Y) (xs : List X) → map f (reverse xs) ≡ reverse (map f xs)
turned f [] = refl
turned f (x ∷ xs) = ap (map f) (reverse-append (x ∷ []) xs) ∙ map-append f (reverse xs) (x ∷ []) ∙ ap (λ ys. ys ++ f x ∷ []) (turned f xs) ∙ sym (reverse-append (f x ∷ []) (map f xs))

pub steps_turned : (steps turned_steps : List Step) (path : List Places.Step) → turned_steps ≡ reverse steps → map step_view steps ≡ path → map step_view turned_steps ≡ reverse path
steps_turned steps other path e h = ap (map step_view) e ∙ turned step_view steps ∙ ap reverse h
