-- One more entry that opens blocks, and one more body.
use Rattle.std.proofs.Common.{◌≡◌, ℕ, ℤ, suc, subst, ◌≤◌, ◌<◌, ◌^◌, List, [], ◌∷◌, ◌++◌, map, length, sym, ap, ap₂, ◌∙◌, arith, append_assoc, append-nil}
use Rattle.std.specs.Prelude.{pos}
use Rattle.std.proofs.lemmas.List.{length-map, length-append}
use Rattle.task_code.specs.Code as code
use Rattle.task_code.specs.Code.{Entry, Opener, Variable}
use Rattle.task_code.specs.View.{body_view, entry_view, variable_view}
use Rattle.task_code.specs.declared.entry.Entry.{Entry as Made}
use Rattle.task_code.specs.declared.code.Body.{Body as Opened}
use Rattle.emit_statements.specs.declared.block_builder.BlockBuilder.{BlockBuilder}
use Rattle.language.specs.Core.{Part}
use Rattle.code_rules.specs.Laying.{Kinds}
use Rattle.emit_cells.specs.declared.entries.StatementContext.{StatementContext}
use Rattle.emit_statements.specs.Into.{laying}
use Rattle.emit_statements.specs.Blocks.{Numbered, PartsInto}

pub one-more-long : {X Y : Type 0} (f : X → Y) (xs ys : List X) (y : Y) → map f ys ≡ map f xs ++ y ∷ [] → length ys ≡ suc (length xs)
one-more-long f xs ys y is =
    let a = length-map ys f in
    let b = length-map xs f in
    let e : length (map f ys) ≡ length (map f xs ++ y ∷ []) = ap length is in
    let d = length-append (map f xs) (y ∷ []) in
    omega arith

-- the body of a block whose statements are laid, with the variables that it had before them
pub body-is : (o : Opener) (us : List Variable) (old new : BlockBuilder) (vs : List Variable) (js : List ℕ) → old.entries.items ≡ [] → map variable_view old.makes.items ≡ us
    → new.entries.items ≡ old.entries.items ++ js → map variable_view new.makes.items ≡ map variable_view old.makes.items ++ vs
    → ◌≡◌ {A = code.Body} (record { opener = o; makes = map variable_view new.makes.items; entries = new.entries.items }) (record { opener = o; makes = us ++ vs; entries = js })
body-is o us old new vs js none are entries makes =
    ap₂ (λ (ms : List Variable) (es : List ℕ). record { opener = o; makes = ms; entries = es }) (makes ∙ ap (λ (ms : List Variable). ms ++ vs) are) (entries ∙ ap (λ (es : List ℕ). es ++ js) none)

-- a number listed in a block that was left as it was
pub numbered-in : {n count : ℕ} {F F' F2 : BlockBuilder} → F' ≡ F → Numbered n count F' F2 → Numbered n count F F2
numbered-in {n} {count} {F} {F'} {F2} same numbered = subst (λ (z : BlockBuilder). Numbered n count z F2) same numbered

pub own-number : (n : ℕ) (es : List Made) (old new : BlockBuilder) → Numbered n (length es) old new → length es < 2 ^ 32 → n ≡ length (map entry_view es)
own-number n es old new numbered few = numbered.is few ∙ sym (length-map es entry_view)

pub own-listed : (n : ℕ) (es : List Made) (before old new : BlockBuilder) (ns : List ℕ) → Numbered n (length es) old new → old.entries.items ≡ before.entries.items ++ ns → n ≡ length (map entry_view es)
    → new.entries.items ≡ before.entries.items ++ (ns ++ length (map entry_view es) ∷ [])
own-listed n es before old new ns numbered is e =
    numbered.entries ∙ ap₂ (λ (xs : List ℕ) (m : ℕ). xs ++ m ∷ []) is e ∙ append_assoc before.entries.items ns (length (map entry_view es) ∷ [])

pub own-data : (n : ℕ) (es : List Made) (old new : BlockBuilder) → Numbered n (length es) old new → map variable_view new.makes.items ≡ map variable_view old.makes.items
own-data n es old new numbered = ap (map variable_view) numbered.makes

pub two-added : (B B' B'' : List Opened) (b b' d d' : code.Body) → map body_view B' ≡ map body_view B ++ b ∷ [] → map body_view B'' ≡ map body_view B' ++ d ∷ [] → b ≡ b' → d ≡ d'
    → map body_view B'' ≡ map body_view B ++ b' ∷ d' ∷ []
two-added B B' B'' b b' d d' first second e f =
    second ∙ ap (λ (bs : List code.Body). bs ++ d ∷ []) first ∙ append_assoc (map body_view B) (b ∷ []) (d ∷ []) ∙ ap₂ (λ (x y : code.Body). map body_view B ++ x ∷ y ∷ []) e f

-- of a statement without parts
pub own-first : (n : ℕ) (es : List Made) (old new : BlockBuilder) → Numbered n (length es) old new → n ≡ length (map entry_view es) → new.entries.items ≡ old.entries.items ++ length (map entry_view es) ∷ []
own-first n es old new numbered e = numbered.entries ∙ ap (λ (m : ℕ). old.entries.items ++ m ∷ []) e

pub own-none : (n : ℕ) (es : List Made) (old new : BlockBuilder) → Numbered n (length es) old new → map variable_view new.makes.items ≡ map variable_view old.makes.items ++ []
own-none n es old new numbered = own-data n es old new numbered ∙ sym (append-nil (map variable_view old.makes.items))

-- the parts of a statement without a priority of its own
pub parts-zero : (fs : List Kinds) (s : StatementContext) (all : List Part) (old new : List Made) (before after : BlockBuilder) (room : Type 0) → s.priority ≡ pos 0
    → ((bodies : List code.Body) → room → length new ≤ 2 ^ 32 → PartsInto fs s.inputs all s.at s.priority (laying old bodies) (laying new bodies) before after)
    → (bodies : List code.Body) → room → length new ≤ 2 ^ 32 → PartsInto fs s.inputs all s.at (pos 0) (laying old bodies) (laying new bodies) before after
parts-zero fs s all old new before after room e into bodies r few = subst (λ (p : ℤ). PartsInto fs s.inputs all s.at p (laying old bodies) (laying new bodies) before after) e (into bodies r few)
