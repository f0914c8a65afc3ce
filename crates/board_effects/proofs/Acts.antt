-- What entries do, by the kind of their act.
use Rattle.std.proofs.Common.{◌≡◌, ◌∙◌, refl, ap, ℕ, Bool, true, false, ◌&&◌, ◌||◌, List, [], ◌∷◌, length, Option, Some, None}
use Rattle.std.specs.Prelude.{nat_le}
use Rattle.dataflow.specs.System.{Bad, Effect, Good}
use Rattle.task_code.specs.Code.{Act, Assert, Call, Cell, Control, Copy, Each, Fill, If, Loop, Name, Print, InsertElement, Range, Read, Set, Wait, kind_of, loop_of, stored_of}
use Rattle.task_code.specs.Compute.{Computed, Fails, Gives, Inserts, Opens, Takes, TooDeep, Turns}
use Rattle.task_code.specs.Effects.{Task, chunk, instances, is_some_list, is_too_deep, limited, outcome_of, prints, steps_on, turn_instances, turns_of}
use Rattle.task_code.specs.Places.{Place, Step}
use Rattle.values.specs.Limits.{max_path_steps}
use Rattle.values.specs.declared.key.Key.{Key}
use Rattle.values.specs.declared.value.Scalar.{Scalar}
use Rattle.board_effects.specs.Fits.{fits, gives_elements, gives_scalar, is_fault, keeps_nothing}

-- it opens no block
abbrev pub is_plain : Act → Bool
is_plain a = gives_scalar a || (gives_elements a || keeps_nothing a)

and_false : (b : Bool) → (b && false) ≡ false
and_false true = refl
and_false false = refl

-- a path is not too long where no step is taken, or no block is opened
pub deep_plain : (a : Act) (p : List Step) (ss : List (ℕ × List Step)) → steps_on a ≡ false → is_too_deep a p ss ≡ false
deep_plain a p ss h = ap (λ s. nat_le max_path_steps (length p) && (s && is_some_list ss)) h ∙ and_false (nat_le max_path_steps (length p))

pub deep_none : (a : Act) (p : List Step) (ss : List (ℕ × List Step)) → is_some_list ss ≡ false → is_too_deep a p ss ≡ false
deep_none a p ss h = ap (λ s. nat_le max_path_steps (length p) && (steps_on a && s)) h ∙ ap (λ b. nat_le max_path_steps (length p) && b) (and_false (steps_on a)) ∙ and_false (nat_le max_path_steps (length p))

pub deep_short : (a : Act) (p : List Step) (ss : List (ℕ × List Step)) → nat_le max_path_steps (length p) ≡ false → is_too_deep a p ss ≡ false
deep_short a p ss h = ap (λ b. b && (steps_on a && is_some_list ss)) h

pub deep_long : (a : Act) (p : List Step) (ss : List (ℕ × List Step)) → nat_le max_path_steps (length p) ≡ true → steps_on a ≡ true → is_some_list ss ≡ true → is_too_deep a p ss ≡ true
deep_long a p ss h s m = ap (λ b. b && (steps_on a && is_some_list ss)) h ∙ ap (λ b. b && is_some_list ss) s ∙ m

-- what comes of it
pub good : (x : Computed) (b : Bool) (e : Effect Task Place Key Scalar) → is_fault x ≡ false → b ≡ false → outcome_of x b e ≡ Good e
good (Fails f) b e h q = absurd (cc h)
good (Gives v) b e h q = ap (λ d. limited d e) q
good (Inserts xs) b e h q = ap (λ d. limited d e) q
good (Takes t) b e h q = ap (λ d. limited d e) q
good (Turns ts) b e h q = ap (λ d. limited d e) q
good Opens b e h q = ap (λ d. limited d e) q

pub bad : (x : Computed) (b : Bool) (e : Effect Task Place Key Scalar) → is_fault x ≡ false → b ≡ true → outcome_of x b e ≡ Bad TooDeep
bad (Fails f) b e h q = absurd (cc h)
bad (Gives v) b e h q = ap (λ d. limited d e) q
bad (Inserts xs) b e h q = ap (λ d. limited d e) q
bad (Takes t) b e h q = ap (λ d. limited d e) q
bad (Turns ts) b e h q = ap (λ d. limited d e) q
bad Opens b e h q = ap (λ d. limited d e) q

-- acts that open no block
pub plain_steps : (a : Act) → is_plain a ≡ true → steps_on a ≡ false
plain_steps (Cell e) h = refl
plain_steps Read h = refl
plain_steps (Call b rs os) h = absurd (cc h)
plain_steps (Set r e) h = refl
plain_steps (Fill r es) h = refl
plain_steps (Copy r) h = refl
plain_steps (InsertElement r i e) h = refl
plain_steps (Print e) h = refl
plain_steps (Assert e) h = refl
plain_steps (If e b d) h = absurd (cc h)
plain_steps (Range lo hi s w) h = absurd (cc h)
plain_steps (Each w) h = absurd (cc h)
plain_steps (Wait hs b) h = absurd (cc h)

pub plain_instances : (a : Act) (offset : ℕ) (p : List Step) (c : ℕ) (x : Computed) → is_plain a ≡ true → instances a offset p c x ≡ []
plain_instances (Cell e) offset p c x h = refl
plain_instances Read offset p c x h = refl
plain_instances (Call b rs os) offset p c x h = absurd (cc h)
plain_instances (Set r e) offset p c x h = refl
plain_instances (Fill r es) offset p c x h = refl
plain_instances (Copy r) offset p c x h = refl
plain_instances (InsertElement r i e) offset p c x h = refl
plain_instances (Print e) offset p c x h = refl
plain_instances (Assert e) offset p c x h = refl
plain_instances (If e b d) offset p c x h = absurd (cc h)
plain_instances (Range lo hi s w) offset p c x h = absurd (cc h)
plain_instances (Each w) offset p c x h = absurd (cc h)
plain_instances (Wait hs b) offset p c x h = absurd (cc h)

pub plain_loop : (a : Act) → is_plain a ≡ true → loop_of a ≡ None
plain_loop (Cell e) h = refl
plain_loop Read h = refl
plain_loop (Call b rs os) h = absurd (cc h)
plain_loop (Set r e) h = refl
plain_loop (Fill r es) h = refl
plain_loop (Copy r) h = refl
plain_loop (InsertElement r i e) h = refl
plain_loop (Print e) h = refl
plain_loop (Assert e) h = refl
plain_loop (If e b d) h = absurd (cc h)
plain_loop (Range lo hi s w) h = absurd (cc h)
plain_loop (Each w) h = absurd (cc h)
plain_loop (Wait hs b) h = absurd (cc h)

-- acts that store
pub scalar_plain : (a : Act) → gives_scalar a ≡ true → is_plain a ≡ true
scalar_plain (Cell e) h = refl
scalar_plain Read h = refl
scalar_plain (Call b rs os) h = absurd (cc h)
scalar_plain (Set r e) h = refl
scalar_plain (Fill r es) h = absurd (cc h)
scalar_plain (Copy r) h = absurd (cc h)
scalar_plain (InsertElement r i e) h = absurd (cc h)
scalar_plain (Print e) h = absurd (cc h)
scalar_plain (Assert e) h = absurd (cc h)
scalar_plain (If e b d) h = absurd (cc h)
scalar_plain (Range lo hi s w) h = absurd (cc h)
scalar_plain (Each w) h = absurd (cc h)
scalar_plain (Wait hs b) h = absurd (cc h)

pub elements_plain : (a : Act) → gives_elements a ≡ true → is_plain a ≡ true
elements_plain (Cell e) h = absurd (cc h)
elements_plain Read h = absurd (cc h)
elements_plain (Call b rs os) h = absurd (cc h)
elements_plain (Set r e) h = absurd (cc h)
elements_plain (Fill r es) h = refl
elements_plain (Copy r) h = refl
elements_plain (InsertElement r i e) h = refl
elements_plain (Print e) h = absurd (cc h)
elements_plain (Assert e) h = absurd (cc h)
elements_plain (If e b d) h = absurd (cc h)
elements_plain (Range lo hi s w) h = absurd (cc h)
elements_plain (Each w) h = absurd (cc h)
elements_plain (Wait hs b) h = absurd (cc h)

pub scalar_silent : (a : Act) (x : Computed) → gives_scalar a ≡ true → prints a x ≡ []
scalar_silent (Cell e) x h = refl
scalar_silent Read x h = refl
scalar_silent (Call b rs os) x h = absurd (cc h)
scalar_silent (Set r e) x h = refl
scalar_silent (Fill r es) x h = absurd (cc h)
scalar_silent (Copy r) x h = absurd (cc h)
scalar_silent (InsertElement r i e) x h = absurd (cc h)
scalar_silent (Print e) x h = absurd (cc h)
scalar_silent (Assert e) x h = absurd (cc h)
scalar_silent (If e b d) x h = absurd (cc h)
scalar_silent (Range lo hi s w) x h = absurd (cc h)
scalar_silent (Each w) x h = absurd (cc h)
scalar_silent (Wait hs b) x h = absurd (cc h)

pub elements_silent : (a : Act) (x : Computed) → gives_elements a ≡ true → prints a x ≡ []
elements_silent (Cell e) x h = absurd (cc h)
elements_silent Read x h = absurd (cc h)
elements_silent (Call b rs os) x h = absurd (cc h)
elements_silent (Set r e) x h = absurd (cc h)
elements_silent (Fill r es) x h = refl
elements_silent (Copy r) x h = refl
elements_silent (InsertElement r i e) x h = refl
elements_silent (Print e) x h = absurd (cc h)
elements_silent (Assert e) x h = absurd (cc h)
elements_silent (If e b d) x h = absurd (cc h)
elements_silent (Range lo hi s w) x h = absurd (cc h)
elements_silent (Each w) x h = absurd (cc h)
elements_silent (Wait hs b) x h = absurd (cc h)

-- an entry stores into one name at most
abbrev pub at_most_one : List Name → Bool
at_most_one [] = true
at_most_one (r ∷ []) = true
at_most_one (r ∷ s ∷ rs) = false

pub one_stored : (n : ℕ) (a : Act) → at_most_one (stored_of n a) ≡ true
one_stored n (Cell e) = refl
one_stored n Read = refl
one_stored n (Call b rs os) = refl
one_stored n (Set r e) = refl
one_stored n (Fill r es) = refl
one_stored n (Copy r) = refl
one_stored n (InsertElement r i e) = refl
one_stored n (Print e) = refl
one_stored n (Assert e) = refl
one_stored n (If e b d) = refl
one_stored n (Range lo hi s w) = refl
one_stored n (Each w) = refl
one_stored n (Wait hs b) = refl

-- a loop opens its turns, and nothing else
pub loop_steps : (a : Act) (w : Loop) → loop_of a ≡ Some w → steps_on a ≡ true
loop_steps (Cell e) u h = absurd (cc h)
loop_steps Read u h = absurd (cc h)
loop_steps (Call b rs os) u h = absurd (cc h)
loop_steps (Set r e) u h = absurd (cc h)
loop_steps (Fill r es) u h = absurd (cc h)
loop_steps (Copy r) u h = absurd (cc h)
loop_steps (InsertElement r i e) u h = absurd (cc h)
loop_steps (Print e) u h = absurd (cc h)
loop_steps (Assert e) u h = absurd (cc h)
loop_steps (If e b d) u h = absurd (cc h)
loop_steps (Range lo hi s w) u h = refl
loop_steps (Each w) u h = refl
loop_steps (Wait hs b) u h = absurd (cc h)

pub loop_instances : (a : Act) (u : Loop) (offset : ℕ) (p : List Step) (c : ℕ) (x : Computed) → loop_of a ≡ Some u → instances a offset p c x ≡ turn_instances u offset p (chunk c (turns_of x))
loop_instances (Cell e) u offset p c x h = absurd (cc h)
loop_instances Read u offset p c x h = absurd (cc h)
loop_instances (Call b rs os) u offset p c x h = absurd (cc h)
loop_instances (Set r e) u offset p c x h = absurd (cc h)
loop_instances (Fill r es) u offset p c x h = absurd (cc h)
loop_instances (Copy r) u offset p c x h = absurd (cc h)
loop_instances (InsertElement r i e) u offset p c x h = absurd (cc h)
loop_instances (Print e) u offset p c x h = absurd (cc h)
loop_instances (Assert e) u offset p c x h = absurd (cc h)
loop_instances (If e b d) u offset p c x h = absurd (cc h)
loop_instances (Range lo hi s w) u offset p c x h = ap (λ (o : Option Loop). turn_instances (elim o [ None ↦ w | Some y ↦ y ]) offset p (chunk c (turns_of x))) h
loop_instances (Each w) u offset p c x h = ap (λ (o : Option Loop). turn_instances (elim o [ None ↦ w | Some y ↦ y ]) offset p (chunk c (turns_of x))) h
loop_instances (Wait hs b) u offset p c x h = absurd (cc h)

pub loop_stores : (a : Act) (n : ℕ) (u : Loop) → loop_of a ≡ Some u → stored_of n a ≡ []
loop_stores (Cell e) n u h = absurd (cc h)
loop_stores Read n u h = absurd (cc h)
loop_stores (Call b rs os) n u h = absurd (cc h)
loop_stores (Set r e) n u h = absurd (cc h)
loop_stores (Fill r es) n u h = absurd (cc h)
loop_stores (Copy r) n u h = absurd (cc h)
loop_stores (InsertElement r i e) n u h = absurd (cc h)
loop_stores (Print e) n u h = absurd (cc h)
loop_stores (Assert e) n u h = absurd (cc h)
loop_stores (If e b d) n u h = absurd (cc h)
loop_stores (Range lo hi s w) n u h = refl
loop_stores (Each w) n u h = refl
loop_stores (Wait hs b) n u h = absurd (cc h)

pub loop_silent : (a : Act) (x : Computed) (u : Loop) → loop_of a ≡ Some u → prints a x ≡ []
loop_silent (Cell e) x u h = absurd (cc h)
loop_silent Read x u h = absurd (cc h)
loop_silent (Call b rs os) x u h = absurd (cc h)
loop_silent (Set r e) x u h = absurd (cc h)
loop_silent (Fill r es) x u h = absurd (cc h)
loop_silent (Copy r) x u h = absurd (cc h)
loop_silent (InsertElement r i e) x u h = absurd (cc h)
loop_silent (Print e) x u h = absurd (cc h)
loop_silent (Assert e) x u h = absurd (cc h)
loop_silent (If e b d) x u h = absurd (cc h)
loop_silent (Range lo hi s w) x u h = refl
loop_silent (Each w) x u h = refl
loop_silent (Wait hs b) x u h = absurd (cc h)

-- what is computed by engines
pub control_scalar : (a : Act) (v : Scalar) → kind_of a ≡ Control → fits a (Gives v) ≡ true → gives_scalar a ≡ true
control_scalar (Cell e) v k h = absurd (cc k)
control_scalar Read v k h = refl
control_scalar (Call b rs os) v k h = absurd (cc h)
control_scalar (Set r e) v k h = absurd (cc k)
control_scalar (Fill r es) v k h = absurd (cc k)
control_scalar (Copy r) v k h = absurd (cc h)
control_scalar (InsertElement r i e) v k h = absurd (cc h)
control_scalar (Print e) v k h = absurd (cc k)
control_scalar (Assert e) v k h = absurd (cc k)
control_scalar (If e b d) v k h = absurd (cc h)
control_scalar (Range lo hi s w) v k h = absurd (cc h)
control_scalar (Each w) v k h = absurd (cc h)
control_scalar (Wait hs b) v k h = absurd (cc h)
