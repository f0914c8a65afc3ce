-- What is noted of an offset, statement by statement.
use Rattle.std.specs.Prelude.{◌≡◌, ℕ, zero, suc, ◌+◌, ◌<◌, ◌≤◌, Bool, true, false, cond, List, [], ◌∷◌, ◌++◌, length, take, Option, Some, None, slice_get, refl}
use Rattle.std.proofs.Common.{sym, ap, ◌∙◌, subst, arith, get_or}
use Rattle.std.proofs.lemmas.List.{append-nil, get_or-map, length-append, length-map, length-take-le, take_more}
use Rattle.std.proofs.lemmas.List.Elements.{filter-append}
use Rattle.language.specs.Core.{Stmt}
use Rattle.flow_index.specs.declared.statement_index.SiteEntry.{SiteEntry}
use Rattle.flow_index.specs.declared.statement_index.SiteEntry.TheVariants as Is
use Rattle.flow_index.specs.Candidates.{candidates, is_candidate, only}
use Rattle.flow_index.specs.Noted.{noted_if}
use Rattle.flow_index.specs.declared.site.Site.{Site}
use Rattle.flow_index.specs.Sites.{site_view, sites_view, IsNoted, nothing, one, several}

last_is : (ss : List Stmt) (st : Stmt) → slice_get (ss ++ st ∷ []) (length ss) ≡ Some st
last_is [] st = refl
last_is (u ∷ ss) st = last_is ss st

before_last : (ss : List Stmt) (st u : Stmt) (i : ℕ) → slice_get ss i ≡ Some u → slice_get (ss ++ st ∷ []) i ≡ Some u
before_last [] st u i e = absurd (cc (e))
before_last (v ∷ ss) st u zero e = e
before_last (v ∷ ss) st u (suc i) e = before_last ss st u i e

none_more : (at : ℕ) (ss : List Stmt) (st : Stmt) → is_candidate at st ≡ false → candidates at (ss ++ st ∷ []) ≡ candidates at ss
none_more at ss st e =
    filter-append (is_candidate at) ss (st ∷ [])
    ∙ ap (λ (b : Bool). candidates at ss ++ cond b (st ∷ []) []) e ∙ append-nil (candidates at ss)

one_more : (at : ℕ) (ss : List Stmt) (st : Stmt) → is_candidate at st ≡ true → candidates at (ss ++ st ∷ []) ≡ candidates at ss ++ st ∷ []
one_more at ss st e =
    filter-append (is_candidate at) ss (st ∷ []) ∙ ap (λ (b : Bool). candidates at ss ++ cond b (st ∷ []) []) e

module _ (at : ℕ) (ss : List Stmt) (st : Stmt) where
  same_noted : (o : Option SiteEntry) → is_candidate at st ≡ false → IsNoted at ss o → IsNoted at (ss ++ st ∷ []) o
  same_noted _ e (nothing c) = nothing (none_more at ss st e ∙ c)
  same_noted _ e (one {i = i} {st = u} g c) = one (before_last ss st u i g) (none_more at ss st e ∙ c)
  same_noted _ e (several l) = several (subst (λ (z : List Stmt). 2 ≤ length z) (sym (none_more at ss st e)) l)

  next_noted : (o : Option SiteEntry) → is_candidate at st ≡ true → IsNoted at ss o → IsNoted at (ss ++ st ∷ []) (noted_if true (length ss) o)
  next_noted _ e (nothing c) = one (last_is ss st) (one_more at ss st e ∙ ap (λ (z : List Stmt). z ++ st ∷ []) c)
  next_noted _ e (one {st = u} g c) =
      several (subst (λ (z : List Stmt). 2 ≤ length z) (sym (one_more at ss st e ∙ ap (λ (z : List Stmt). z ++ st ∷ []) c)) (omega arith))
  next_noted _ e (several l) =
      several (subst (λ (z : List Stmt). 2 ≤ length z) (sym (one_more at ss st e)) (let more = length-append (candidates at ss) (st ∷ []) in omega (arith, l, more)))

  noted_so : (b : Bool) (o : Option SiteEntry) → is_candidate at st ≡ b → IsNoted at ss o → IsNoted at (ss ++ st ∷ []) (noted_if b (length ss) o)
  noted_so true o e h = next_noted o e h
  noted_so false o e h = same_noted o e h

-- the next statement is noted
pub noted_next : (ss : List Stmt) (i : ℕ) (d : Stmt) (at : ℕ) (o : Option SiteEntry) → i < length ss → IsNoted at (take i ss) o
    → IsNoted at (take (i + 1) ss) (noted_if (is_candidate at (get_or ss i d)) i o)
noted_next ss i d at o l h =
    subst (λ (z : List Stmt). IsNoted at z (noted_if (is_candidate at (get_or ss i d)) i o)) (sym (take_more ss i d l))
    (subst (λ (k : ℕ). IsNoted at (take i ss ++ get_or ss i d ∷ []) (noted_if (is_candidate at (get_or ss i d)) k o)) (length-take-le i ss (omega (arith, l)))
    (noted_so at (take i ss) (get_or ss i d) (is_candidate at (get_or ss i d)) o refl h))

-- the next one of a list of sites is noted
pub noted_site : {A : Type 0} (xs : List (Site A)) (i : ℕ) (d : Site A) (at : ℕ) (o r : Option SiteEntry) → i < length xs → get_or xs i d ≡ d → IsNoted at (take i (sites_view xs)) o
    → r ≡ noted_if (is_candidate at (site_view d)) i o → IsNoted at (take (i + 1) (sites_view xs)) r
noted_site {A} xs i d at o r l g h e =
    let here : get_or (sites_view xs) i (site_view d) ≡ site_view d = get_or-map (site_view {A = A}) xs i d (site_view d) l ∙ ap (site_view {A = A}) g in
    let within : i < length (sites_view xs) = subst (λ (n : ℕ). i < n) (sym (length-map xs (site_view {A = A}))) l in
    subst (λ (z : Option SiteEntry). IsNoted at (take (i + 1) (sites_view xs)) z) (ap (λ (z : Stmt). noted_if (is_candidate at z) i o) here ∙ sym e)
    (noted_next (sites_view xs) i (site_view d) at o within h)

-- what is noted is the one statement that can be blocked
pub only_noted : (at : ℕ) (ss : List Stmt) (i : ℕ) (o : Option SiteEntry) → o ≡ Some (Is.Once i) → IsNoted at ss o → slice_get ss i ≡ only (candidates at ss)
only_noted at ss i _ e (nothing c) = absurd (cc (e))
only_noted at ss i _ e (one {i = j} {st = u} g c) = let same : j ≡ i = cc (e) in ap (slice_get ss) (sym same) ∙ g ∙ sym (ap only c)
only_noted at ss i _ e (several l) = absurd (cc (e))

none_only : (ss : List Stmt) → 2 ≤ length ss → only ss ≡ None
none_only [] l = absurd (omega (arith, l))
none_only (u ∷ []) l = absurd (omega (arith, l))
none_only (u ∷ v ∷ ss) l = refl

pub nothing_noted : (at : ℕ) (ss : List Stmt) (o : Option SiteEntry) → o ≡ None → IsNoted at ss o → only (candidates at ss) ≡ None
nothing_noted at ss _ e (nothing c) = ap only c
nothing_noted at ss _ e (one g c) = absurd (cc (e))
nothing_noted at ss _ e (several l) = absurd (cc (e))

pub several_noted : (at : ℕ) (ss : List Stmt) (o : Option SiteEntry) → o ≡ Some Is.Often → IsNoted at ss o → only (candidates at ss) ≡ None
several_noted at ss _ e (nothing c) = absurd (cc (e))
several_noted at ss _ e (one g c) = absurd (cc (e))
several_noted at ss _ e (several l) = none_only (candidates at ss) l
