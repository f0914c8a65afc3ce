-- What is found by a text in a map from texts is what stands first under it in the map's list.
use Rattle.std.proofs.Common.{◌≡◌, ℕ, Bool, true, false, cond, List, [], ◌∷◌, ◌++◌, map, Option, Some, None, option_map, refl, sym, ap, ap₂, ◌∙◌}
use Rattle.std.specs.Str.{bytes_eq}
use Rattle.std.specs.Map.{lookup}
use Rattle.std.proofs.lemmas.Bool.Decides.{same_from_decides, Decides-like}
use Rattle.std.proofs.lemmas.Slice.Eq.{bytes_eq-Decides}
use Rattle.std.proofs.lemmas.List.{map-append}
use Rattle.types.specs.declared.scope.VisibleVariable.{VisibleVariable}
use Rattle.types.specs.declared.fault.TypeFault.TheVariants.{Declared}
use Rattle.types.specs.declared.typed.NameEntry.{NameEntry}
use Rattle.language.specs.Tree.{Word}
use Rattle.types.specs.Known.{Seen, Around, seen_at, type_of}
use Rattle.types.specs.Outcomes.{got, refused, ◌>>=◌}
use Rattle.types.specs.Names.{seen, free, added}
use Rattle.types.specs.Statements.{fresh_key, fresh_variables}
use Rattle.types.proofs.visible.Growth.{made}

pub bytes_eq-sym : (xs ys : List ℕ) → bytes_eq xs ys ≡ bytes_eq ys xs
bytes_eq-sym xs ys = same_from_decides (bytes_eq xs ys) (bytes_eq ys xs) (bytes_eq-Decides xs ys) (Decides-like (bytes_eq ys xs) sym sym (bytes_eq-Decides ys xs))

-- the first one of a text, in a list of keys with what is known of them
pub seen_lookup : {K : Type 0} (text_of : K → List ℕ) (es : List (K × VisibleVariable)) (text : List ℕ)
    → seen (map (λ e. seen_at (text_of e.0) e.1) es) text ≡ option_map (seen_at text) (lookup (λ k. bytes_eq text (text_of k)) es)
seen_lookup text_of [] text = refl
seen_lookup {K} text_of (e ∷ es) text = by (bytes_eq text (text_of e.0)) refl (seen_lookup text_of es text)
  where
    by : (b : Bool) → bytes_eq text (text_of e.0) ≡ b → seen (map (λ e. seen_at (text_of e.0) e.1) es) text ≡ option_map (seen_at text) (lookup (λ k. bytes_eq text (text_of k)) es)
        → seen (map (λ e. seen_at (text_of e.0) e.1) (e ∷ es)) text ≡ option_map (seen_at text) (lookup (λ k. bytes_eq text (text_of k)) (e ∷ es))
    by true is rest =
        ap (λ b. cond b (Some (seen_at (text_of e.0) e.1)) (seen (map (λ e. seen_at (text_of e.0) e.1) es) text)) (bytes_eq-sym (text_of e.0) text ∙ is)
        ∙ ap (λ x. Some (seen_at x e.1)) (sym ((bytes_eq-Decides text (text_of e.0)).0 is))
        ∙ sym (ap (λ b. option_map (seen_at text) (cond b (Some e.1) (lookup (λ k. bytes_eq text (text_of k)) es))) is)
    by false is rest =
        ap (λ b. cond b (Some (seen_at (text_of e.0) e.1)) (seen (map (λ e. seen_at (text_of e.0) e.1) es) text)) (bytes_eq-sym (text_of e.0) text ∙ is)
        ∙ rest
        ∙ sym (ap (λ b. option_map (seen_at text) (cond b (Some e.1) (lookup (λ k. bytes_eq text (text_of k)) es))) is)

-- one more at the end
pub added_last : {K : Type 0} (text_of : K → List ℕ) (es : List (K × VisibleVariable)) (key : K) (known : VisibleVariable) (w : Word) (d : ℕ) → text_of key ≡ w.text → known.depth ≡ d
    → made d (map (λ e. seen_at (text_of e.0) e.1) (es ++ (key, known) ∷ [])) ≡ added (made d (map (λ e. seen_at (text_of e.0) e.1) es)) w known.what (type_of known.of)
added_last text_of es key known w d is deep =
    ap (made d) (map-append (λ e. seen_at (text_of e.0) e.1) es ((key, known) ∷ []))
    ∙ ap₂ (λ t n. made d (map (λ e. seen_at (text_of e.0) e.1) es ++ record { text = t; depth = n; what = known.what; of = type_of known.of } ∷ [])) is deep

unseen_by : (o : Option VisibleVariable) (text : List ℕ) → option_map (seen_at text) o ≡ None → o ≡ None
unseen_by None text none = refl
unseen_by (Some k) text none = cc

-- a text that is not seen is no key
pub unseen_lookup : {K : Type 0} (text_of : K → List ℕ) (es : List (K × VisibleVariable)) (text : List ℕ)
    → seen (map (λ e. seen_at (text_of e.0) e.1) es) text ≡ None → lookup (λ k. bytes_eq text (text_of k)) es ≡ None
unseen_lookup text_of es text none = unseen_by (lookup (λ k. bytes_eq text (text_of k)) es) text (sym (seen_lookup text_of es text) ∙ none)

-- variables of a loop that may be declared: neither is seen, and they have two names
pub unseen_value : (g : Around) (v : Word) (k : Option Word) → ((s : List NameEntry) → fresh_variables g v k s ≡ got tt s) → seen g.names v.text ≡ None
unseen_value g v k new = by (seen g.names v.text) refl
  where
    by : (o : Option Seen) → seen g.names v.text ≡ o → seen g.names v.text ≡ None
    by None is = is
    by (Some x) is =
        let fails : fresh_variables g v k [] ≡ refused (Declared v.span) = ap (λ (o : Option Seen). free v o [] >>= λ u. fresh_key g v k) is in
        absurd (cc (new []))

free_key : (g : Around) (v k : Word) → ((s : List NameEntry) → fresh_variables g v (Some k) s ≡ got tt s) → (seen g.names k.text ≡ None) × (bytes_eq k.text v.text ≡ false)
free_key g v k new = by (seen g.names k.text) (bytes_eq k.text v.text) refl refl
  where
    rest : (s : List NameEntry) → fresh_key g v (Some k) s ≡ got tt s
    rest s = sym (ap (λ (o : Option Seen). free v o s >>= λ u. fresh_key g v (Some k)) (unseen_value g v (Some k) new)) ∙ new s

    by : (o : Option Seen) (b : Bool) → seen g.names k.text ≡ o → bytes_eq k.text v.text ≡ b → (seen g.names k.text ≡ None) × (bytes_eq k.text v.text ≡ false)
    by None false is other = (is, other)
    by (Some x) b is other =
        let fails : fresh_key g v (Some k) [] ≡ refused (Declared k.span) = ap (λ (o : Option Seen). free k o [] >>= λ u s. cond (bytes_eq k.text v.text) (refused (Declared k.span)) (got tt s)) is in
        absurd (cc (rest []))
    by None true is other =
        let fails : fresh_key g v (Some k) [] ≡ refused (Declared k.span) =
        ap (λ (o : Option Seen). free k o [] >>= λ u s. cond (bytes_eq k.text v.text) (refused (Declared k.span)) (got tt s)) is
        ∙ ap (λ b. cond b (refused (Declared k.span)) (got (tt {0}) [])) other in
        absurd (cc (rest []))

seen_last : (ks : List Seen) (k : Seen) (text : List ℕ) → seen ks text ≡ None → bytes_eq k.text text ≡ false → seen (ks ++ k ∷ []) text ≡ None
seen_last [] k text none other = ap (λ b. cond b (Some k) None) other
seen_last (x ∷ ks) k text none other = by (bytes_eq x.text text) refl (λ there. seen_last ks k text there other)
  where
    by : (b : Bool) → bytes_eq x.text text ≡ b → (seen ks text ≡ None → seen (ks ++ k ∷ []) text ≡ None) → seen ((x ∷ ks) ++ k ∷ []) text ≡ None
    by true is rest = absurd (cc)
    by false is rest =
        ap (λ b. cond b (Some x) (seen (ks ++ k ∷ []) text)) is
        ∙ rest (sym (ap (λ b. cond b (Some x) (seen ks text)) is) ∙ none)

-- the second one is not seen behind the first
pub unseen_key : (g : Around) (v k : Word) (x : Seen) → ((s : List NameEntry) → fresh_variables g v (Some k) s ≡ got tt s) → x.text ≡ v.text → seen (g.names ++ x ∷ []) k.text ≡ None
unseen_key g v k x new is =
    let both = free_key g v k new in
    seen_last g.names x k.text both.0 (ap (λ t. bytes_eq t k.text) is ∙ bytes_eq-sym v.text k.text ∙ both.1)
