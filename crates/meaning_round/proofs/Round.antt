-- What is told of all tasks is what is told of the live statements.
use Rattle.std.specs.Prelude.{◌≡◌, ◌↔◌, ◌⊎◌, ℕ, suc, ◌<◌, List, [], ◌∷◌, ◌++◌, length, refl}
use Rattle.std.proofs.Common.{sym, ap, ◌∙◌, subst, inl, inr}
use Rattle.meaning_steps.specs.Kept.{sight_by, past_by}
use Rattle.language.specs.Core.{Core, Stmt, stmt}
use Rattle.language.specs.Facts.{Fact, Knowledge}
use Rattle.language.specs.Meaning.{Known}
use Rattle.language.specs.Reads.{Reads}
use Rattle.language.specs.Resolved.{core}
use Rattle.language.specs.Single.{SinglyAssigned}
use Rattle.language.specs.Table.{Table}
use Rattle.language.specs.Tree.{Tree}
use Rattle.language.specs.Typing.{WellTyped}
use Rattle.language.specs.Members.{◌∈◌, first, later}
use Rattle.language.specs.Parts.{stmt_action, stmt_at, stmt_node}
use Rattle.language.specs.Places.{Path}
use Rattle.meaning_steps.specs.Environment.{Sight}
use Rattle.meaning_steps.specs.News.{Past, ToldOf, news}
use Rattle.meaning_facts.specs.declared.fact_base.FactBase.{FactBase}
use Rattle.meaning_facts.specs.Keeping.{kept_of, past_of, IsPlaced}
use Rattle.meaning_facts.specs.Sighted.{sight_of}
use Rattle.meaning_facts.proofs.Keeping.{name_located, sees_kept, recalls_kept}
use Rattle.language_laws.proofs.Whole.{one_scalar_known}
use Rattle.language_accepted.proofs.Accepted.{accepted_formed}
use Rattle.meaning_steps.proofs.Nodes.{accepted_nodes}
use Rattle.meaning_steps.proofs.Told as told
use Rattle.meaning_steps.proofs.Seen as seen
use Rattle.meaning_invariants.specs.Active.{Active, active}
use Rattle.meaning_round.specs.Standing.{active_path, site_of, active_news, actives_news, AreLive, IsAfter}
use Rattle.meaning_round.proofs.Meant.{told_is_news}

-- MEMBERS

in_left : {f : Fact} (xs ys : List Fact) → f ∈ xs → f ∈ (xs ++ ys)
in_left [] ys i = elim i [ ]
in_left (x ∷ xs) ys first = first
in_left (x ∷ xs) ys (later i) = later (in_left xs ys i)

in_right : {f : Fact} (xs ys : List Fact) → f ∈ ys → f ∈ (xs ++ ys)
in_right [] ys i = i
in_right (x ∷ xs) ys i = later (in_right xs ys i)

in_either : {f : Fact} (xs ys : List Fact) → f ∈ (xs ++ ys) → (f ∈ xs) ⊎ (f ∈ ys)
in_either [] ys i = inr i
in_either (x ∷ xs) ys first = inl first
in_either (x ∷ xs) ys (later i) = elim (in_either xs ys i) [ inl j ↦ inl (later j) | inr j ↦ inr j ]

split_in : {X : Type 0} {x y : X} {ys : List X} → x ∈ (y ∷ ys) → (x ≡ y) ⊎ (x ∈ ys)
split_in first = inl refl
split_in (later i) = inr i

-- one of them tells a fact
record IsTold (l : FactBase) (ls : List Active) (f : Fact) : Type 0 where
  pub active : Active
  pub there : active ∈ ls
  pub told : f ∈ active_news l active

told_later : {l : FactBase} {ls : List Active} {f : Fact} (a : Active) → IsTold l ls f → IsTold l (a ∷ ls) f
told_later a x = record { active = x.active; there = later x.there; told = x.told }

told_by_one : (l : FactBase) (ls : List Active) (f : Fact) → f ∈ actives_news l ls → IsTold l ls f
told_by_one l [] f i = elim i [ ]
told_by_one l (a ∷ ls) f i =
    elim (in_either (active_news l a) (actives_news l ls) i) [ inl j ↦ record { active = a; there = first; told = j } | inr j ↦ told_later a (told_by_one l ls f j) ]

told_by_all : (l : FactBase) (ls : List Active) (a : Active) (f : Fact) → a ∈ ls → f ∈ active_news l a → f ∈ actives_news l ls
told_by_all l [] a f i j = elim i [ ]
told_by_all l (b ∷ ls) a f i j =
    elim (split_in i) [
      | inl e ↦ in_left (active_news l b) (actives_news l ls) (subst (λ (x : Active). f ∈ active_news l x) e j)
      | inr k ↦ in_right (active_news l b) (actives_news l ls) (told_by_all l ls a f k j)
    ]

stmt_is_made : (st : Stmt) → stmt (stmt_at st) (stmt_node st) (stmt_action st) ≡ st
stmt_is_made (stmt at n a) = refl

module _ (s : Core) (l : FactBase) (placed : IsPlaced s l.instances) where
  abbrev see : Path → Sight
  see path = sight_by s (kept_of l) path

  abbrev recall : Path → Past
  recall path = past_by s (kept_of l) path

  active_meant : (a : Active) → a.instance < length l.instances.all.items → active_news l a ≡ news s (see (active_path l a)) (recall (active_path l a)) (active_path l a) a.statement
  active_meant a h =
      told_is_news s l (site_of a) (λ x. (name_located s l placed a.instance h x).view_is) (stmt_action a.statement)
      ∙ ap (λ (st : Stmt). news s (sight_of l a.instance) (past_of l a.instance) (active_path l a) st) (stmt_is_made a.statement)
      ∙ ap (λ (g : Sight). news s g (past_of l a.instance) (active_path l a) a.statement) (sees_kept s l placed a.instance h)
      ∙ ap (λ (m : Past). news s (see (active_path l a)) m (active_path l a) a.statement) (recalls_kept s l placed a.instance h)

  module _ (K : Knowledge) (ls telling : List Active) (live : AreLive s K l ls telling) where
    pub told_so : (f : Fact) → f ∈ actives_news l telling → ToldOf s K (λ path. see path) (λ path. recall path) f
    told_so f i =
        let x = told_by_one l telling f i in
        let there = live.among x.active x.there in
        record {
          path = active_path l x.active;
          st = x.active.statement;
          live = live.so x.active there;
          told = subst (λ (fs : List Fact). f ∈ fs) (active_meant x.active (live.within x.active there)) x.told;
        }

    told_here : (a : Active) (f : Fact) → a ∈ ls → f ∈ active_news l a → f ∈ actives_news l telling
    told_here a f i j = elim (live.quiet a i) [
      | inl k ↦ told_by_all l telling a f k j
      | inr e ↦ (let none : f ∈ [] = subst (λ (fs : List Fact). f ∈ fs) e j in elim none [ ])
    ]

    pub told_all : (f : Fact) → ToldOf s K (λ path. see path) (λ path. recall path) f → f ∈ actives_news l telling
    told_all f x =
        let h = live.all x.path x.st x.live in
        let a = active h.instance x.st in
        let there : f ∈ news s (see (active_path l a)) (recall (active_path l a)) (active_path l a) x.st
        = subst (λ (p : Path). f ∈ news s (see p) (recall p) p x.st) (sym h.path_is) x.told in
        told_here a f h.there (subst (λ (fs : List Fact). f ∈ fs) (sym (active_meant a (live.within a h.there))) there)

-- ROUNDS

-- what is told is what the next round adds
pub round_told : (bytes : List ℕ) (t : Table) (tree : Tree) → Reads bytes tree → WellTyped tree t → SinglyAssigned (core t tree)
    → (n : ℕ) (l : FactBase) (ls telling : List Active) (fs : List Fact) → fs ≡ actives_news l telling → IsAfter (core t tree) n l ls telling
    → (f : Fact) → Known (core t tree) (suc n) f ↔ (Known (core t tree) n f ⊎ (f ∈ fs))
round_told bytes t tree r w single n l ls telling fs e h f =
    let s = core t tree in
    let formed = accepted_formed bytes t tree r w single in
    let nodes = accepted_nodes bytes t tree r in
    let one = one_scalar_known s formed single n in
    let k = kept_of l in
    let sees = seen.sees s (Known s n) k h.keeps one in
    let recalls = seen.recalls s (Known s n) k h.keeps one in (
      λ y. elim (told.added s formed single nodes n (sight_by s k) (past_by s k) sees recalls f y)
          [ inl z ↦ inl z | inr z ↦ inr (subst (λ (gs : List Fact). f ∈ gs) (sym e) (told_all s l h.placed (Known s n) ls telling h.live f z)) ],
      λ y. told.adds s formed single nodes n (sight_by s k) (past_by s k) sees recalls f
          (elim y [ inl z ↦ inl z | inr z ↦ inr (told_so s l h.placed (Known s n) ls telling h.live f (subst (λ (gs : List Fact). f ∈ gs) e z)) ]),
    )
