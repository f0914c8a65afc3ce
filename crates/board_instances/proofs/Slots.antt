-- Instances by their keys, and what is left after one is written or goes.
use Rattle.std.proofs.Common.{◌≡◌, ◌∙◌, refl, sym, ap, subst, rules, ℕ, suc, ◌-◌, ◌<◌, ◌≤◌, IfSome, IsSome, List, Option, Some, None, option_map, slice_set, arith}
use Rattle.std.proofs.lemmas.Option.{same_Some}
use Rattle.slab.specs.Slab.{Slab, Updates, get, with_value}
use Rattle.slab.proofs.SlabLemmas.{Updates-with_value}
use Rattle.board_history.specs.Ending.{SameSlots, Sets, TakenOff, goes, outside, stays, with_live}
use Rattle.board_history.specs.Fields.{Frame, slot_at}
use Rattle.board_instances.specs.Nested.{IsNested}
use Rattle.board_instances.specs.View.{frame_view, frames_view}
use Rattle.board_instances.specs.declared.instance.Instance.{Instance}
use Rattle.board_instances.proofs.Frames.{frame_there}

-- an instance that is there, or not
pub view_there : (s : Slab Instance) (k : ℕ) (i : Instance) → Some i ≡ get s k → slot_at (frames_view s.slots) k ≡ Some (frame_view i)
view_there s k i e = frame_there s k ∙ ap (option_map frame_view) (sym e)

pub view_absent : (s : Slab Instance) (k : ℕ) → None ≡ get s k → slot_at (frames_view s.slots) k ≡ None
view_absent s k e = frame_there s k ∙ ap (option_map frame_view) (sym e)

some_or_none : {X : Type 0} {B : Type 0} (o : Option X) (x : X) → o ≡ Some x → o ≡ None → B
some_or_none o x p q = absurd (cc (p, q))

pub view_is : (s : Slab Instance) (k : ℕ) (i : Instance) (f : Frame) → Some i ≡ get s k → slot_at (frames_view s.slots) k ≡ Some f → f ≡ frame_view i
view_is s k i f e h = same_Some f (frame_view i) (sym h ∙ view_there s k i e)

pub not_there : {B : Type 0} (s : Slab Instance) (k : ℕ) (f : Frame) → None ≡ get s k → slot_at (frames_view s.slots) k ≡ Some f → B
not_there s k f e h = some_or_none _ f h (view_absent s k e)

pub not_absent : {B : Type 0} (s : Slab Instance) (k : ℕ) (i : Instance) → Some i ≡ get s k → slot_at (frames_view s.slots) k ≡ None → B
not_absent s k i e h = some_or_none _ (frame_view i) (view_there s k i e) h

-- a change of one key
pub view_updates : (s t : Slab Instance) (k : ℕ) (o : Option Instance) → Updates s t k o → Sets (frames_view s.slots) k (option_map frame_view o) (frames_view t.slots)
view_updates s t k o u = record {
  here = frame_there t k ∙ ap (option_map frame_view) u.changed;
  others = λ j h. frame_there t j ∙ ap (option_map frame_view) (u.others j h) ∙ sym (frame_there s j);
}

-- the instance of a key is written with another number inside
module _ (s : Slab Instance) (k n : ℕ) (i j : Instance) (e : Some i ≡ get s k) (w : frame_view j ≡ with_live n (frame_view i)) where
  written_here : Sets (frames_view s.slots) k (Some (frame_view j)) (frames_view (slice_set s.slots k (Some j)))
  written_here = view_updates s (record { slots = slice_set s.slots k (Some j); vacant_key = s.vacant_key; capacity = s.capacity }) k (Some j) (Updates-with_value s k j (subst (λ (o : Option Instance). IsSome o) e (some_is i)))
    where
      some_is : (i : Instance) → IsSome (Some i)
      some_is i = search rules

  pub written : (f : Frame) → slot_at (frames_view s.slots) k ≡ Some f → Sets (frames_view s.slots) k (Some (with_live n f)) (frames_view (slice_set s.slots k (Some j)))
  written f h = subst (λ (x : Frame). Sets (frames_view s.slots) k (Some x) (frames_view (slice_set s.slots k (Some j)))) (w ∙ ap (with_live n) (sym (view_is s k i f e h))) written_here

-- the instance of a key goes, after a look at it
module _ (s : Slab Instance) (k : ℕ) (i : Instance) (e : Some i ≡ get s k) where
  seen : Updates s (with_value s k i) k (Some i)
  seen = Updates-with_value s k i (subst (λ (o : Option Instance). IsSome o) e (search rules))

  pub gone_is : (g : Instance) → Some g ≡ get (with_value s k i) k → Some g ≡ get s k
  gone_is g q = q ∙ seen.changed ∙ e

  pub gone_sets : (t : Slab Instance) → Updates (with_value s k i) t k None → Sets (frames_view s.slots) k None (frames_view t.slots)
  gone_sets t u = view_updates s t k None (record { changed = u.changed; others = λ j ne. u.others j ne ∙ seen.others j ne })

-- one less is inside
sets_then : (fs ms gs : List (Option Frame)) (k : ℕ) (o : Option Frame) → Sets fs k o ms → SameSlots ms gs → Sets fs k o gs
sets_then fs ms gs k o x h = record { here = h k ∙ x.here; others = λ j ne. h j ∙ x.others j ne }

nothing_left : (gs ms : List (Option Frame)) (at : Option ℕ) → at ≡ None → TakenOff gs ms at → SameSlots ms gs
nothing_left gs ms at e (outside _ _ q h) = h
nothing_left gs ms at e (stays _ _ k n f q here is set) = some_or_none at k q e
nothing_left gs ms at e (goes _ hs _ k f q here is set rest) = some_or_none at k q e

pub stays_there : (fs ms gs : List (Option Frame)) (k : ℕ) (f : Frame) → slot_at fs k ≡ Some f → 1 < f.live → Sets fs k (Some (with_live (f.live - 1) f)) ms → TakenOff gs ms None → TakenOff gs fs (Some k)
stays_there fs ms gs k f h more set off = stays fs (Some k) k (f.live - 2) f refl h (two f.live more) (sets_then fs ms gs k _ (subst (λ n. Sets fs k (Some (with_live n f)) ms) (one f.live more) set) (nothing_left gs ms None refl off))
  where
    two : (n : ℕ) → 1 < n → n ≡ suc (suc (n - 2))
    two n h = omega (arith, h)

    one : (n : ℕ) → 1 < n → n - 1 ≡ suc (n - 2)
    one n h = omega (arith, h)

pub goes_off : (fs hs gs : List (Option Frame)) (k : ℕ) (f : Frame) → slot_at fs k ≡ Some f → 0 < f.live → f.live ≤ 1 → Sets fs k None hs → TakenOff gs hs f.parent → TakenOff gs fs (Some k)
goes_off fs hs gs k f h some few set off = goes fs hs (Some k) k f refl h (one f.live some few) set off
  where
    one : (n : ℕ) → 0 < n → n ≤ 1 → n ≡ 1
    one n a b = omega (arith, a, b)

-- those up to a level lie in one another
pub record NestedTo (most : ℕ) (fs : List (Option Frame)) : Type 0 where
  pub inside : (k j : ℕ) (f : Frame) → slot_at fs k ≡ Some f → f.level ≤ most → f.parent ≡ Some j → (g : Frame) × (slot_at fs j ≡ Some g) × (f.level ≡ suc g.level)
  pub kept : (k : ℕ) (f : Frame) → slot_at fs k ≡ Some f → f.level ≤ most → 0 < f.live

pub nested_to : (most : ℕ) (fs : List (Option Frame)) → IsNested fs → NestedTo most fs
nested_to most fs x = record { inside = λ k j f h l p. x.inside k j f h p; kept = λ k f h l. x.kept k f h }

-- what is at the key, if there is one, lies in others
abbrev pub LiesIn : List (Option Frame) → Option ℕ → Type 0
LiesIn fs None = Unit {0}
LiesIn fs (Some k) = (f : Frame) × (slot_at fs k ≡ Some f) × NestedTo f.level fs

-- where an instance goes, what is around it lies in others still
pub lies_outward : (fs hs : List (Option Frame)) (k j : ℕ) (f : Frame) → slot_at fs k ≡ Some f → f.parent ≡ Some j → Sets fs k None hs → LiesIn fs (Some k) → LiesIn hs (Some j)
lies_outward fs hs k j f h p set x = (let n = same_level x.0 (same_Some x.0 f (sym x.1 ∙ h)) x.2 in let g = n.inside k j f h (omega arith) p in (g.0, set.others j (apart j g.0 g.1 g.2) ∙ g.1, outer g.0 g.2 n))
  where
    same_level : (q : Frame) → q ≡ f → NestedTo q.level fs → NestedTo f.level fs
    same_level q e y = subst (λ (q : Frame). NestedTo q.level fs) e y

    apart : (i : ℕ) (q : Frame) → slot_at fs i ≡ Some q → f.level ≡ suc q.level → i ≡ k → ⊥
    apart i q there l e = level_apart q (same_Some q f (sym there ∙ ap (slot_at fs) e ∙ h)) l
      where
        level_apart : (q : Frame) → q ≡ f → f.level ≡ suc q.level → ⊥
        level_apart q e l = let m : q.level ≡ f.level = ap (λ (x : Frame). x.level) e in omega (arith, m, l)

    was : (i : ℕ) (q : Frame) → slot_at hs i ≡ Some q → slot_at fs i ≡ Some q
    was i q e = sym (set.others i (λ same. some_or_none (slot_at hs i) q e (ap (slot_at hs) same ∙ set.here))) ∙ e

    outer : (g : Frame) → f.level ≡ suc g.level → NestedTo f.level fs → NestedTo g.level hs
    outer g l n = record {
      inside = λ i m q there most around. (let r = n.inside i m q (was i q there) (omega (arith, most, l)) around in (r.0, set.others m (lower r.0 m r.1 q r.2 most) ∙ r.1, r.2));
      kept = λ i q there most. n.kept i q (was i q there) (omega (arith, most, l));
    }
      where
        lower : (r : Frame) (m : ℕ) → slot_at fs m ≡ Some r → (q : Frame) → q.level ≡ suc r.level → q.level ≤ g.level → m ≡ k → ⊥
        lower r m there q e most same = (let v : r.level ≡ f.level = ap (λ (x : Frame). x.level) (same_Some r f (sym there ∙ ap (slot_at fs) same ∙ h)) in omega (arith, e, most, l, v))

-- what is there lies in others
pub lies_there : (fs : List (Option Frame)) (k : ℕ) → IsNested fs → IsSome (slot_at fs k) → LiesIn fs (Some k)
lies_there fs k x there = by_slot (slot_at fs k) refl there
  where
    by_slot : (o : Option Frame) → slot_at fs k ≡ o → IsSome o → LiesIn fs (Some k)
    by_slot None e h = absurd (search (rules, h))
    by_slot (Some f) e h = (f, e, nested_to f.level fs x)

-- one was taken off, and more may be left outwards
module _ (fs cur new : List (Option Frame)) (at key : ℕ) (last next : Option ℕ) (here : last ≡ Some key) (lies : LiesIn cur last) where
  lies_here : LiesIn cur (Some key)
  lies_here = subst (λ (o : Option ℕ). LiesIn cur o) here lies

  pub more_off : ((gs : List (Option Frame)) → TakenOff gs cur last → TakenOff gs fs (Some at)) → ((f : Frame) → slot_at cur key ≡ Some f → 0 < f.live → (gs : List (Option Frame)) → TakenOff gs new next → TakenOff gs cur (Some key)) → (gs : List (Option Frame)) → TakenOff gs new next → TakenOff gs fs (Some at)
  more_off so step gs off = so gs (subst (λ (o : Option ℕ). TakenOff gs cur o) (sym here) (step lies_here.0 lies_here.1 (lies_here.2.kept key lies_here.0 lies_here.1 (omega arith)) gs off))

  pub more_lies : IfSome next (λ outer. (f : Frame) × (slot_at cur key ≡ Some f) × (f.parent ≡ Some outer) × Sets cur key None new) → LiesIn new next
  more_lies h = by_next next h
    where
      by_next : (o : Option ℕ) → IfSome o (λ outer. (f : Frame) × (slot_at cur key ≡ Some f) × (f.parent ≡ Some outer) × Sets cur key None new) → LiesIn new o
      by_next None h = tt
      by_next (Some j) h = lies_outward cur new key j h.0 h.1 h.2 h.3 lies_here

-- no more is left
pub none_off : (fs cur : List (Option Frame)) (at : ℕ) (last : Option ℕ) → last ≡ None → ((gs : List (Option Frame)) → TakenOff gs cur last → TakenOff gs fs (Some at)) → TakenOff cur fs (Some at)
none_off fs cur at last e so = so cur (outside cur last e (λ k. refl))

pub view_fresh : (s : Slab Instance) (k : ℕ) → get s k ≡ None → slot_at (frames_view s.slots) k ≡ None
view_fresh s k e = view_absent s k (sym e)
