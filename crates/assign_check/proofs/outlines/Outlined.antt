-- The faults of outlines, one after another.
use Rattle.std.proofs.Common.{◌≡◌, ℕ, ◌+◌, ◌<◌, List, [], ◌∷◌, ◌++◌, Bool, true, false, cond, map, drop, length, get_or, refl, ap, ap₂, sym, ◌∙◌}
use Rattle.std.specs.Prelude.{Option, Some, None}
use Rattle.std.specs.List.{flat_map}
use Rattle.std.proofs.lemmas.List.{drop_more, append-nil}
use Rattle.language.specs.Core.{Owned}
use Rattle.language.specs.Table.{Table}
use Rattle.language.specs.Tree.{Part, import, function, single}
use Rattle.assign_check.specs.declared.fault.AssignFault.{AssignFault}
use Rattle.assign_check.specs.declared.summaries.use_summary.UseSummary.{UseSummary}
use Rattle.assign_check.specs.Outline.{Outline, Step, outlined, Use, Declared, function_outlines, function_steps}
use Rattle.assign_check.specs.Faults.{precedes, first_among, way_faults, split_faults, uses_in, declared_in, variable_faults, faults_of}
use Rattle.assign_check.specs.Tallies.{unused, tally_from, tally_faults}
use Rattle.assign_check.proofs.faults.Answered.{first_among-append}
use Rattle.assign_check.proofs.counting.Tallied.{all_tallied}

some_stays : (f : AssignFault) (fs : List AssignFault) → first_among (Some f) fs ≡ None → ⊥
some_stays f [] is = cc
some_stays f (g ∷ gs) is = either (precedes g f) (λ h. some_stays h gs) is
  where
    either : (b : Bool) → ((h : AssignFault) → first_among (Some h) gs ≡ None → ⊥) → first_among (cond b (Some g) (Some f)) gs ≡ None → ⊥
    either true ih is = ih g is
    either false ih is = ih f is

-- where no fault is answered there is none
pub none_answered : (fs : List AssignFault) → first_among None fs ≡ None → fs ≡ []
none_answered [] is = refl
none_answered (f ∷ fs) is = absurd (some_stays f fs is)

pub outline_best : (o : Outline) (b walked counted a : Option AssignFault) (w : List Owned) (us : List Use) (ds : List Declared) (f : Owned → UseSummary)
    → w ≡ [] → walked ≡ first_among b (way_faults None w o) → counted ≡ first_among walked (split_faults None o) → us ≡ uses_in o → ds ≡ declared_in o → ((x : Owned) → f x ≡ tally_from unused x us)
    → a ≡ first_among counted (flat_map (λ d. tally_faults d.role d.shape d.span (f d.what)) ds) → a ≡ first_among b (faults_of o)
outline_best o b walked counted a w us ds f empty ways splits used declared tallies adds =
    adds
    ∙ ap (first_among counted) (all_tallied f us tallies ds ∙ ap₂ (λ (u : List Use) (d : List Declared). flat_map (variable_faults u) d) used declared)
    ∙ ap (λ (z : Option AssignFault). first_among z (flat_map (variable_faults (uses_in o)) (declared_in o)))
    (splits ∙ ap (λ (z : Option AssignFault). first_among z (split_faults None o)) (ways ∙ ap (λ (z : List Owned). first_among b (way_faults None z o)) empty)
    ∙ sym (first_among-append b (way_faults None [] o) (split_faults None o)))
    ∙ sym (first_among-append b (way_faults None [] o ++ split_faults None o) (flat_map (variable_faults (uses_in o)) (declared_in o)))

-- one more step of a walk
pub best_more : {X Y : Type 0} (view : X → Y) (one : Y → List AssignFault) (all : List Y → List AssignFault) → ((y : Y) (ys : List Y) → all (y ∷ ys) ≡ one y ++ all ys)
    → (total before after : Option AssignFault) (xs : List X) (i : ℕ) (x : X)
    → total ≡ first_among before (all (map view (drop i xs))) → i < length xs → x ≡ get_or xs i x → after ≡ first_among before (one (view x))
    → total ≡ first_among after (all (map view (drop (i + 1) xs)))
best_more {X = X} view one all split total before after xs i x so_far below is adds =
    so_far
    ∙ ap (λ ys. first_among before (all (map view ys))) (drop_more xs i x below)
    ∙ ap (first_among before) (split (view (get_or xs i x)) (map view (drop (i + 1) xs)))
    ∙ ap (λ (y : X). first_among before (one (view y) ++ all (map view (drop (i + 1) xs)))) (sym is)
    ∙ first_among-append before (one (view x)) (all (map view (drop (i + 1) xs)))
    ∙ ap (λ (z : Option AssignFault). first_among z (all (map view (drop (i + 1) xs)))) (sym adds)

-- parts of a script
abbrev pub part_faults : Table → List Part → List AssignFault
part_faults t ps = flat_map faults_of (function_outlines t ps)

pub one_part : (t : Table) (p : Part) (ps : List Part) → part_faults t (p ∷ ps) ≡ part_faults t (p ∷ []) ++ part_faults t ps
one_part t (import sp) ps = refl
one_part t (single s) ps = refl
one_part t (function f) ps = ap (λ (z : List AssignFault). z ++ part_faults t ps) (sym (append-nil (faults_of (outlined (function_steps t f)))))

-- behind the script's own block
pub own_first : (steps : List Step) (rest : List AssignFault) (b : Option AssignFault) → b ≡ first_among None (faults_of (outlined steps))
    → first_among None (faults_of (outlined steps) ++ rest) ≡ first_among b rest
own_first steps rest b is = first_among-append None (faults_of (outlined steps)) rest ∙ ap (λ (z : Option AssignFault). first_among z rest) (sym is)
