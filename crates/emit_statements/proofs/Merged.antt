-- Waits, merged one in another: their headers, and what they wait for.
use Rattle.std.proofs.Common.{◌≡◌, ◌<◌, ◌+◌, ℕ, zero, suc, List, [], ◌∷◌, ◌++◌, map, length, refl, sym, ap, subst, ◌∙◌, get_or, take, append_assoc, arith}
use Rattle.std.specs.Prelude.{pos, false, true}
use Rattle.std.specs.List.{flat_map}
use Rattle.std.proofs.lemmas.List.{append-nil, map-append, take_more, get_or_default}
use Rattle.std.proofs.lemmas.Grind.{flat_map-append}
use Rattle.language.specs.Core.{Block, wait, stmt}
use Rattle.language.specs.Core as core
use Rattle.language.specs.Resolved.{awaited_as}
use Rattle.language.specs.declared.tree.Keys.{Keys}
use Rattle.language.specs.declared.tree.Shape.{Shape}
use Rattle.language.specs.declared.tree.Shape.TheVariants as Shapes
use Rattle.flow.specs.View.{awaited_view, name_view, waits_around}
use Rattle.flow.specs.declared.name.Name.{Name as Named}
use Rattle.flow.specs.declared.name.NameBinding.TheVariants as Owned
use Rattle.flow.specs.declared.statement.Header.{Header}
use Rattle.task_code.specs.Code as code
use Rattle.task_code.specs.Code.{Need, Wait}
use Rattle.task_code.specs.declared.entry.Entry.{Entry as Made}
use Rattle.code_rules.specs.CodeNames.{awaited_need, each_once, name_as}
use Rattle.code_rules.specs.Laying.{Headers, is_one_wait, one_header, more_headers}
use Rattle.code_rules.specs.Room.{AwaitedRoom, BlockRoom, Each, NameRoom}
use Rattle.emit_cells.specs.PlainNeeds.{Noted, Notes, need_named}
use Rattle.emit_cells.specs.declared.needs.PlainNeed.{PlainNeed}
use Rattle.emit_cells.proofs.Keys.{closed_named, notes_both, stored_named}
use Rattle.emit_cells.specs.Made.{made}
use Rattle.emit_cells.specs.declared.entries.StatementContext.{StatementContext}
use Rattle.emit_statements.specs.Blocks.{InnerRoom, WaitAddedAs, header_of, inner_headers}
use Rattle.emit_statements.proofs.Entries.{AddsEntry}

-- LISTS

pub mapped_more : {X Y : Type 0} (f : X → Y) (xs : List X) (i : ℕ) (x : X) → i < length xs → x ≡ get_or xs i x → map f (take (i + 1) xs) ≡ map f (take i xs) ++ f x ∷ []
mapped_more f xs i x below is = ap (map f) (take_more xs i x below ∙ ap (λ y. take i xs ++ y ∷ []) (sym is)) ∙ map-append f (take i xs) (x ∷ [])

pub there_at : {X : Type 0} (xs ys : List X) (i : ℕ) (d : X) → ys ≡ xs → i < length xs → get_or ys i d ≡ get_or xs i (get_or ys i d)
there_at xs ys i d e below = subst (λ zs. get_or zs i d ≡ get_or xs i (get_or zs i d)) (sym e) (get_or_default xs i d (get_or xs i d) below)

pub each_at : {X : Type 0} (P : X → Type 0) (xs : List X) (i : ℕ) (x : X) → i < length xs → x ≡ get_or xs i x → Each P xs → P x
each_at P [] i x below is h = absurd (omega arith)
each_at P (y ∷ xs) zero x below is h = subst P (sym is) h.0
each_at P (y ∷ xs) (suc i) x below is h = each_at P xs i x (omega arith) is h.1

pub each_mapped : {X Y : Type 0} (V : X → Y) (P : Y → Type 0) (xs : List X) → Each P (map V xs) → Each (λ x. P (V x)) xs
each_mapped V P [] h = tt
each_mapped V P (x ∷ xs) h = (h.0, each_mapped V P xs h.1)

-- NAMES

abbrev pub blank_name : Named
blank_name = record { up = 0; what = Owned.Local 0; shape = Shapes.Scalar }

by_shape : (k : ℕ) (x : core.Name) (r : code.Name) (s : Shape) → ((κ : Keys) → s ≡ Shapes.Array κ → r ≡ name_as k true x) → (s ≡ Shapes.Scalar → r ≡ name_as k false x) → need_named r ≡ awaited_need k (awaited_as s x)
by_shape k x r (Shapes.Array κ) f g = ap need_named (f κ refl) ∙ closed_named k x
by_shape k x r Shapes.Scalar f g = ap need_named (g refl) ∙ stored_named k x

room_of : (k : ℕ) (x : core.Name) (s : Shape) → AwaitedRoom k (awaited_as s x) → NameRoom k x
room_of k x (Shapes.Array κ) h = h
room_of k x Shapes.Scalar h = h

array_scalar : (κ : Keys) → Shapes.Array κ ≡ Shapes.Scalar → ⊥
array_scalar κ e = cc

pub array_awaited : {κ : Keys} (k : ℕ) (n : Named) (r : code.Name) → n.shape ≡ Shapes.Array κ → (NameRoom k (name_view n) → r ≡ name_as k true (name_view n)) → AwaitedRoom k (awaited_view n) → need_named r ≡ awaited_need k (awaited_view n)
array_awaited {κ} k n r is f room = by_shape k (name_view n) r n.shape (λ ι e. f (room_of k (name_view n) n.shape room)) (λ e. absurd (array_scalar κ (sym is ∙ e)))

pub scalar_awaited : (k : ℕ) (n : Named) (r : code.Name) → n.shape ≡ Shapes.Scalar → (NameRoom k (name_view n) → r ≡ name_as k false (name_view n)) → AwaitedRoom k (awaited_view n) → need_named r ≡ awaited_need k (awaited_view n)
scalar_awaited k n r is f room = by_shape k (name_view n) r n.shape (λ κ e. absurd (array_scalar κ (sym e ∙ is))) (λ e. f (room_of k (name_view n) n.shape room))

abbrev pub waited : ℕ → List Named → List Need
waited k ns = map (awaited_need k) (map awaited_view ns)

pub waited_more : (k : ℕ) (ns : List Named) (i : ℕ) (x : Named) → i < length ns → x ≡ get_or ns i x → waited k (take (i + 1) ns) ≡ waited k (take i ns) ++ awaited_need k (awaited_view x) ∷ []
waited_more k ns i x below is = ap (map (awaited_need k)) (mapped_more awaited_view ns i x below is) ∙ map-append (awaited_need k) (map awaited_view (take i ns)) (awaited_view x ∷ [])

pub noted_more : (k : ℕ) (ns : List Named) (i : ℕ) (x : Named) (old mid new : List PlainNeed) (n : Need) → i < length ns → x ≡ get_or ns i x → Notes old mid (waited k (take i ns)) → Notes mid new (n ∷ []) → n ≡ awaited_need k (awaited_view x)
    → Notes old new (waited k (take (i + 1) ns))
noted_more k ns i x old mid new n below is before one e =
    subst (λ l. Notes old new l) (sym (waited_more k ns i x below is))
    (notes_both old mid new (waited k (take i ns)) (awaited_need k (awaited_view x) ∷ []) before (subst (λ m. Notes mid new (m ∷ [])) e one))

pub listed_waits : (k : ℕ) (ns : List Named) (i : ℕ) (x : Named) (before after : List Need) (n : Need) → i < length ns → x ≡ get_or ns i x → before ≡ waited k (take i ns) → n ≡ awaited_need k (awaited_view x) → after ≡ before ++ n ∷ []
    → after ≡ waited k (take (i + 1) ns)
listed_waits k ns i x before after n below is b e a = a ∙ ap (λ l. l ++ n ∷ []) b ∙ ap (λ m. waited k (take i ns) ++ m ∷ []) e ∙ sym (waited_more k ns i x below is)

-- WAITS INSIDE

abbrev pub needs_in : List code.Header → List Need
needs_in hs = flat_map (λ h. h.needs) hs

pub inner_noted : {A : Type 0} (k : ℕ) (hs : List (Header A)) (i : ℕ) (h : Header A) (old mid new : List PlainNeed) → i < length hs → h ≡ get_or hs i h → Notes old mid (needs_in (inner_headers k (take i hs))) → Notes mid new (waited k h.names.items)
    → Notes old new (needs_in (inner_headers k (take (i + 1) hs)))
inner_noted {A} k hs i h old mid new below is before one =
    let one_more = mapped_more (λ (g : Header A). header_of k g.at g.names.items) hs i h below is in
    let nothing : needs_in (header_of k h.at h.names.items ∷ []) ≡ waited k h.names.items = append-nil (waited k h.names.items) in
    subst (λ l. Notes old new l)
    (sym (ap needs_in one_more ∙ flat_map-append (λ (g : code.Header). g.needs) (inner_headers k (take i hs)) (header_of k h.at h.names.items ∷ []) ∙ ap (λ l. needs_in (inner_headers k (take i hs)) ++ l) nothing))
    (notes_both old mid new (needs_in (inner_headers k (take i hs))) (waited k h.names.items) before one)

pub headers_more : {A : Type 0} (k : ℕ) (hs : List (Header A)) (i : ℕ) (h : Header A) (old before after : List code.Header) (x : code.Header) → i < length hs → h ≡ get_or hs i h → before ≡ old ++ inner_headers k (take i hs)
    → x ≡ header_of k h.at h.names.items → after ≡ before ++ x ∷ [] → after ≡ old ++ inner_headers k (take (i + 1) hs)
headers_more {A} k hs i h old before after x below is b e a =
    a ∙ ap (λ l. l ++ x ∷ []) b ∙ ap (λ y. (old ++ inner_headers k (take i hs)) ++ y ∷ []) e
    ∙ append_assoc old (inner_headers k (take i hs)) (header_of k h.at h.names.items ∷ [])
    ∙ ap (λ l. old ++ l) (sym (mapped_more (λ (g : Header A). header_of k g.at g.names.items) hs i h below is))

pub inner_room : {A : Type 0} (k : ℕ) (hs : List (Header A)) (b : Block) → BlockRoom k (waits_around hs b) → InnerRoom k hs
inner_room k [] b room = tt
inner_room k (h ∷ hs) b room = (room.0.0, inner_room k hs b room.0.1)

merged_headers : {A : Type 0} (k at n : ℕ) (ns : List Named) (hs : List (Header A)) (b : Block) → is_one_wait b ≡ false → Headers k (stmt at n (wait (map awaited_view ns) (waits_around hs b))) (header_of k at ns ∷ inner_headers k hs) b
merged_headers k at n ns [] b lone = one_header lone refl
merged_headers k at n ns (h ∷ hs) b lone = more_headers (merged_headers k h.at h.node h.names.items hs b lone) refl

-- the own entry
pub wait_added : {A : Type 0} (s : StatementContext) (n : ℕ) (names : List Named) (inner : List (Header A)) (b : Block) (body : ℕ) (hs : List code.Header) (ks : List PlainNeed) (old new : List Made) → s.priority ≡ pos 0
    → Noted (waited s.inputs names ++ needs_in (inner_headers s.inputs inner)) ks → hs ≡ header_of s.inputs s.at names ∷ inner_headers s.inputs inner → AddsEntry s n ks (Wait hs body) old new
    → WaitAddedAs s.inputs s.at n (wait (map awaited_view names) (waits_around inner b)) b body old new
wait_added s n names inner b body hs ks old new priority noted are adds = record {
  headers = header_of s.inputs s.at names ∷ inner_headers s.inputs inner;
  merged = λ lone. merged_headers s.inputs s.at n names inner b lone;
  entry = made s (record { node = n; offset = s.at }) (each_once (waited s.inputs names ++ needs_in (inner_headers s.inputs inner))) (Wait hs body);
  is = adds (waited s.inputs names ++ needs_in (inner_headers s.inputs inner)) noted;
  own = record { at_is = refl; priority_is = priority; needs_is = refl; act_is = ap (λ l. Wait l body) are };
  offset_is = refl;
}
