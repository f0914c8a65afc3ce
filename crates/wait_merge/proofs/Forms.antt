-- Which actions are waits.
use Rattle.std.proofs.Common.{rules, ◌≡◌, false, ap, sym, ◌∙◌, Vec, Box}
use Rattle.flow.specs.declared.name.Name.{Name}
use Rattle.flow.specs.declared.statement.Header.{Header}
use Rattle.flow.specs.declared.statement.Block.{Block}
use Rattle.flow.specs.declared.statement.Statement.{Statement}
use Rattle.flow.specs.declared.statement.Action.{Action, Action-F, Wait, out-Action, roll-Action, the_lemmas}
use Rattle.flow.specs.declared.statement.Action.TheOpen as Does
use Rattle.flow.specs.Listed.{action_listed}
use Rattle.wait_merge.specs.Merged.{action_seen}

rolled : (A : Type 0) (a : Action A) → a ≡ roll-Action A (out-Action A a)
rolled A a = search (rules, the_lemmas)

rolled_wait : (A : Type 0) (ns : _) (hs : _) (b : _) → roll-Action A (Does.Wait ns hs b) ≡ Wait ns hs b
rolled_wait A ns hs b = search (rules, the_lemmas)

by_form : (A : Type 0) (d : Action-F A (Action A) (Block A) (Statement A))
    → ((ns : Vec Name A) (hs : Vec (Header A) A) (b : Box (Block A) A) → roll-Action A d ≡ Wait ns hs b → ⊥) → (action_seen (roll-Action A d)).wait ≡ false
by_form A (Does.Declare v) lacks = search (rules, the_lemmas)
by_form A (Does.Call p ps c) lacks = search (rules, the_lemmas)
by_form A (Does.Assign x e) lacks = search (rules, the_lemmas)
by_form A (Does.Fill a e) lacks = search (rules, the_lemmas)
by_form A (Does.Insert a i e) lacks = search (rules, the_lemmas)
by_form A (Does.Print p e) lacks = search (rules, the_lemmas)
by_form A (Does.Assert p e) lacks = search (rules, the_lemmas)
by_form A (Does.When e b) lacks = search (rules, the_lemmas)
by_form A (Does.Choose e b d) lacks = search (rules, the_lemmas)
by_form A (Does.Range r v k b) lacks = search (rules, the_lemmas)
by_form A (Does.Each a v k b) lacks = search (rules, the_lemmas)
by_form A (Does.Wait ns hs b) lacks = absurd (lacks ns hs b (rolled_wait A ns hs b))

-- what is no `wait` is seen as none
pub not_wait : (A : Type 0) (a : Action A) → ((ns : Vec Name A) (hs : Vec (Header A) A) (b : Box (Block A) A) → a ≡ Wait ns hs b → ⊥) → false ≡ (action_seen a).wait
not_wait A a lacks = sym (ap (λ (x : Action A). (action_seen x).wait) (rolled A a) ∙ by_form A (out-Action A a) (λ ns hs b e. lacks ns hs b (rolled A a ∙ e)))

-- both views have the same for a `wait`
alike : (A : Type 0) (d : Action-F A (Action A) (Block A) (Statement A)) → (action_listed (roll-Action A d)).wait ≡ (action_seen (roll-Action A d)).wait
alike A (Does.Declare v) = search (rules, the_lemmas)
alike A (Does.Call p ps c) = search (rules, the_lemmas)
alike A (Does.Assign x e) = search (rules, the_lemmas)
alike A (Does.Fill a e) = search (rules, the_lemmas)
alike A (Does.Insert a i e) = search (rules, the_lemmas)
alike A (Does.Print p e) = search (rules, the_lemmas)
alike A (Does.Assert p e) = search (rules, the_lemmas)
alike A (Does.When e b) = search (rules, the_lemmas)
alike A (Does.Choose e b d) = search (rules, the_lemmas)
alike A (Does.Range r v k b) = search (rules, the_lemmas)
alike A (Does.Each a v k b) = search (rules, the_lemmas)
alike A (Does.Wait ns hs b) = search (rules, the_lemmas)

pub same_wait : (A : Type 0) (a : Action A) → (action_listed a).wait ≡ (action_seen a).wait
same_wait A a = ap (λ (x : Action A). (action_listed x).wait) (rolled A a) ∙ alike A (out-Action A a) ∙ sym (ap (λ (x : Action A). (action_seen x).wait) (rolled A a))
