-- How far readers look: what is given or refused depends on the tokens up to the next one alone, and what stands before a stop can be gone on with.
use Rattle.std.proofs.Common.{◌≡◌, ℕ, zero, suc, ◌<◌, length, List, [], ◌∷◌, ◌++◌, Some, None, Bool, true, false, refl, ap, sym, ◌∙◌, subst, inl, inr, append_assoc, arith}
use Rattle.std.specs.Prelude.{◌⊎◌}
use Rattle.lexer.specs.Items.{Lexeme}
use Rattle.lexer.specs.declared.token.TokenKind.{TokenKind}
use Rattle.lexer.specs.declared.token.TokenKind.TheVariants as Kind
use Rattle.language.specs.Kinds.{same}
use Rattle.language.specs.Rules.{Place, behind, Rule, The, ◌⋆◌, ◌▹◌, ◌◃◌, Many, Maybe, AtMostOne, Perhaps, Made, cons, Commas}
use Rattle.syntax.specs.declared.grammar.stop.ParseStop.{ParseStop}
use Rattle.syntax.specs.declared.grammar.stop.ParseStop.TheVariants.{AtEnd, Unexpected, TooNested, Memory}
use Rattle.syntax.specs.Readers.{Read, refused, got, Reader, ◌>>=◌, kind_of, tail_of, kind_at, second_at, stop_of, cond, choose, next_of, the, ◌∗◌, ◌▸◌, ◌◂◌, made, never, maybe, perhaps, many_over, many, once, commas, at, bracket, checked}
use Rattle.syntax.proofs.combining.Combine.{Tests, bind_got, got_place, the_law, checked_law, tests_at}
use Rattle.syntax.proofs.expressions.Forms.{bracket_zero, bracket_deep}

-- a place before some tokens
abbrev pub before_of : ℕ → List Lexeme → Place
before_of b ts = record { before = b; rest = ts }

-- a set of lists of tokens
abbrev pub Language : Type 1
Language = List Lexeme → Type 0

-- some tokens behind these make one of them
abbrev pub Opens : Language → List Lexeme → Type 0
Opens L ts = (us : List Lexeme) × L (ts ++ us)

abbrev pub Refused : {A : Type 0} → Read A → Type 0
Refused x = (f : ParseStop) × (x ≡ refused f)

-- it comes to this place, or is refused
abbrev pub Comes : {A : Type 0} → Read A → Place → Type 0
Comes {A} x v = ((a : A) × (x ≡ got a v)) ⊎ Refused x

-- where a reader stops: what it took can be gone on with, and what stands behind a token that is none of those allowed is not looked at
abbrev pub Halts : {A I : Type 0} → (TokenKind → Bool) → (I → Reader A) → Language → Place → ParseStop → Type 0
Halts T q L s AtEnd = Opens L s.rest
Halts {A} {I} T q L s (Unexpected p) =
    (xs : List Lexeme) × (t : Lexeme) × (zs : List Lexeme) × (s.rest ≡ xs ++ t ∷ zs) × (p ≡ t.span) × Opens L xs
    × ((i : I) (ws : List Lexeme) → Refused (q i (before_of s.before (xs ++ t ∷ ws)))) × (xs ≡ [] → T t.kind ≡ false)
Halts T q L s (TooNested p) = (xs : List Lexeme) × (t : Lexeme) × (zs : List Lexeme) × (s.rest ≡ xs ++ t ∷ zs) × (p ≡ t.span) × Opens L (xs ++ t ∷ [])
Halts T q L s Memory = ⊥

-- what a reader takes at a place, and others from the same tokens; e says that it takes a token, and no token of T is refused as the first
pub record At {A I : Type 0} (e : Bool) (T : TokenKind → Bool) (r : Reader A) (q : I → Reader A) (L : Language) (s : Place) : Type 0 where
  pub gives : (a : A) (u : Place) → r s ≡ got a u → (cs : List Lexeme) × (s.rest ≡ cs ++ u.rest) × (e ≡ true → cs ≡ [] → ⊥) × L cs
      × ((i : I) (ws : List Lexeme) → kind_of ws ≡ kind_of u.rest → Comes (q i (before_of s.before (cs ++ ws))) (before_of u.before ws))
  pub stops : (f : ParseStop) → r s ≡ refused f → Halts T q L s f

-- the same everywhere, of a language that is not empty
pub record Looks {A I : Type 0} (e : Bool) (T : TokenKind → Bool) (r : Reader A) (q : I → Reader A) (L : Language) : Type 0 where
  pub here : (s : Place) → At e T r q L s
  pub some : (cs : List Lexeme) × L cs

-- LISTS

pub kind_mid : (xs : List Lexeme) (t : Lexeme) (ws zs : List Lexeme) → kind_of (xs ++ t ∷ ws) ≡ kind_of (xs ++ t ∷ zs)
kind_mid [] t ws zs = refl
kind_mid (x ∷ xs) t ws zs = refl

pub kind_end : (cs ws us : List Lexeme) → kind_of ws ≡ kind_of us → kind_of (cs ++ ws) ≡ kind_of (cs ++ us)
kind_end [] ws us h = h
kind_end (c ∷ cs) ws us h = refl

no_first : (cs xs : List Lexeme) → cs ++ xs ≡ [] → (cs ≡ []) × (xs ≡ [])
no_first [] xs h = (refl, h)
no_first (c ∷ cs) xs h = absurd (cc)

-- STOPS OF A PART

-- where a part stops behind some tokens, the whole stops
pub shift : {A B I J : Type 0} (T T' : TokenKind → Bool) (p : I → Reader A) (q : J → Reader B) (P Q : Language) (cs : List Lexeme) (s v : Place) → s.rest ≡ cs ++ v.rest
    → ((ds : List Lexeme) → Opens Q ds → Opens P (cs ++ ds))
    → ((xs : List Lexeme) (t : Lexeme) (ws : List Lexeme) → kind_of (xs ++ t ∷ ws) ≡ kind_of v.rest → ((j : J) → Refused (q j (before_of v.before (xs ++ t ∷ ws)))) → (i : I) → Refused (p i (before_of s.before (cs ++ (xs ++ t ∷ ws)))))
    → (cs ≡ [] → T' (kind_at s) ≡ false → T (kind_at s) ≡ false)
    → (f : ParseStop) → Halts T' q Q v f → Halts T p P s f
shift T T' p q P Q cs s v rest more stays first AtEnd h = subst (Opens P) (sym rest) (more v.rest h)
shift T T' p q P Q cs s v rest more stays first (Unexpected x) (xs, t, zs, rest', span, opens, blocks, fresh) = (
  cs ++ xs,
  t,
  zs,
  rest ∙ ap (λ l. cs ++ l) rest' ∙ sym (append_assoc cs xs (t ∷ zs)),
  span,
  more xs opens,
  λ i ws. subst (λ l. Refused (p i (before_of s.before l))) (sym (append_assoc cs xs (t ∷ ws))) (stays xs t ws (kind_mid xs t ws zs ∙ sym (ap kind_of rest')) (λ j. blocks j ws) i),
  λ none.
      let both = no_first cs xs none in
      let kind : kind_at s ≡ t.kind = ap kind_of rest ∙ ap (λ l. kind_of (l ++ v.rest)) both.0 ∙ ap kind_of rest' ∙ ap (λ l. kind_of (l ++ t ∷ zs)) both.1 in
      ap T (sym kind) ∙ first both.0 (ap T' kind ∙ fresh both.1),
)
shift T T' p q P Q cs s v rest more stays first (TooNested x) (xs, t, zs, rest', span, opens) = (
  cs ++ xs,
  t,
  zs,
  rest ∙ ap (λ l. cs ++ l) rest' ∙ sym (append_assoc cs xs (t ∷ zs)),
  span,
  subst (Opens P) (sym (append_assoc cs xs (t ∷ []))) (more (xs ++ t ∷ []) opens),
)
shift T T' p q P Q cs s v rest more stays first Memory h = h

-- of a larger language, and fewer kinds
pub wider : {A I : Type 0} {e : Bool} {T T' : TokenKind → Bool} {r : Reader A} {q : I → Reader A} {L M : Language} {s : Place} → ((cs : List Lexeme) → L cs → M cs) → (T' (kind_at s) ≡ false → T (kind_at s) ≡ false)
    → At e T' r q L s → At e T r q M s
wider {A} {I} {e} {T} {T'} {r} {q} {L} {M} {s} to first one = record {
  gives = λ a u h. let p = one.gives a u h in (p.0, p.1, p.2, to p.0 p.3, p.4);
  stops = λ f h. shift T T' q q M L [] s s refl (λ ds (us, h). (us, to (ds ++ us) h)) (λ xs t ws k none. none) (λ none. first) f (one.stops f h);
}

-- readers that read alike; others may also refuse
pub alike : {A I J : Type 0} {e : Bool} {T : TokenKind → Bool} {r r' : Reader A} {q : I → Reader A} {q' : J → Reader A} {L : Language} {s : Place} → r' s ≡ r s
    → ((j : J) (v : Place) → Refused (q' j v) ⊎ ((i : I) × (q' j v ≡ q i v))) → At e T r q L s → At e T r' q' L s
alike {A} {I} {J} {e} {T} {r} {r'} {q} {q'} {L} {s} same others one = record {
  gives = λ a u h.
      let p = one.gives a u (sym same ∙ h) in
      (p.0, p.1, p.2, p.3, λ j ws k. comes j (before_of s.before (p.0 ++ ws)) (before_of u.before ws) (λ i. p.4 i ws k) (others j (before_of s.before (p.0 ++ ws))));
  stops = λ f h.
      shift T T q' q L L [] s s refl (λ ds o. o) (λ xs t ws k blocks j. falls j (before_of s.before (xs ++ t ∷ ws)) blocks (others j (before_of s.before (xs ++ t ∷ ws)))) (λ none first. first) f (one.stops f (sym same ∙ h));
}
  where
    comes : (j : J) (v u : Place) → ((i : I) → Comes (q i v) u) → Refused (q' j v) ⊎ ((i : I) × (q' j v ≡ q i v)) → Comes (q' j v) u
    comes j v u more (inl none) = inr none
    comes j v u more (inr (i, is)) = subst (λ x. Comes x u) (sym is) (more i)

    falls : (j : J) (v : Place) → ((i : I) → Refused (q i v)) → Refused (q' j v) ⊎ ((i : I) × (q' j v ≡ q i v)) → Refused (q' j v)
    falls j v more (inl none) = none
    falls j v more (inr (i, is)) = ((more i).0, is ∙ (more i).1)

-- ONE BEHIND THE OTHER

pub bind_stops : {A B : Type 0} (x : Read A) (g : A → Place → Read B) (f : ParseStop) → (x >>= g) ≡ refused f → (x ≡ refused f) ⊎ ((a : A) × (v : Place) × (x ≡ got a v) × (g a v ≡ refused f))
bind_stops (refused stop) g f h = let same : stop ≡ f = cc in inl (ap refused same)
bind_stops (got a v) g f h = inr (a, v, refl, h)

pub bind_refused : {A B : Type 0} (x : Read A) (g : A → Place → Read B) → Refused x → Refused (x >>= g)
bind_refused x g (f, is) = (f, ap (λ z. z >>= g) is)

goes_on : {A B : Type 0} (x : Read A) (v : Place) (g : A → Place → Read B) (u : Place) → Comes x v → ((a : A) → Comes (g a v) u) → Comes (x >>= g) u
goes_on x v g u (inl (a, is)) more = subst (λ z. Comes (z >>= g) u) (sym is) (more a)
goes_on x v g u (inr none) more = inr (bind_refused x g none)

pub falls : {A B : Type 0} (x : Read A) (v : Place) (g : A → Place → Read B) → Comes x v → ((a : A) → Refused (g a v)) → Refused (x >>= g)
falls x v g (inl (a, is)) more = subst (λ z. Refused (z >>= g)) (sym is) (more a)
falls x v g (inr none) more = bind_refused x g none

not_both : {e e' : Bool} (cs ds : List Lexeme) → (e ≡ true → cs ≡ [] → ⊥) → (e' ≡ true → ds ≡ [] → ⊥) → (e ≡ true) ⊎ (e' ≡ true) → cs ++ ds ≡ [] → ⊥
not_both cs ds one two (inl is) none = one is (no_first cs ds none).0
not_both cs ds one two (inr is) none = two is (no_first cs ds none).1

-- a reader that goes on by another
pub bind_at : {A B I : Type 0} {e e' e'' : Bool} {T T' T'' : TokenKind → Bool} {r : Reader A} {q : I → Reader A} {L M N : Language} (k : Place → A → Reader B) (k' : I → Place → A → Reader B) (s : Place)
    → At e T r q L s → ((a : A) (v : Place) → r s ≡ got a v → At {I = I × (Place × A)} e' T' (k s a) (λ j. k' j.0 j.1.0 j.1.1) M v)
    → (ds : List Lexeme) × M ds → ((cs ds : List Lexeme) → L cs → M ds → N (cs ++ ds))
    → (e'' ≡ true → (e ≡ true) ⊎ (e' ≡ true)) → (T (kind_at s) ≡ false → T'' (kind_at s) ≡ false) → ((e ≡ true) ⊎ (T' (kind_at s) ≡ false → T'' (kind_at s) ≡ false))
    → At e'' T'' (λ x. r x >>= k x) (λ i x. q i x >>= k' i x) N s
bind_at {A} {B} {I} {e} {e'} {e''} {T} {T'} {T''} {r} {q} {L} {M} {N} k k' s one two some join takes first second = record { gives = gives; stops = stops }
  where
    gives : (b : B) (u : Place) → (r s >>= k s) ≡ got b u → (cs : List Lexeme) × (s.rest ≡ cs ++ u.rest) × (e'' ≡ true → cs ≡ [] → ⊥) × N cs
        × ((i : I) (ws : List Lexeme) → kind_of ws ≡ kind_of u.rest → Comes (q i (before_of s.before (cs ++ ws)) >>= k' i (before_of s.before (cs ++ ws))) (before_of u.before ws))
    gives b u h =
        let p = bind_got (r s) (k s) b u h in
        let x = one.gives p.0 p.1 p.2 in
        let d = (two p.0 p.1 p.2).gives b u p.3 in (
          x.0 ++ d.0,
          x.1 ∙ ap (λ l. x.0 ++ l) d.1 ∙ sym (append_assoc x.0 d.0 u.rest),
          λ is. not_both x.0 d.0 x.2 d.2 (takes is),
          join x.0 d.0 x.3 d.3,
          λ i ws kind.
              subst (λ l. Comes (q i (before_of s.before l) >>= k' i (before_of s.before l)) (before_of u.before ws)) (sym (append_assoc x.0 d.0 ws))
              (goes_on (q i (before_of s.before (x.0 ++ (d.0 ++ ws)))) (before_of p.1.before (d.0 ++ ws)) (k' i (before_of s.before (x.0 ++ (d.0 ++ ws)))) (before_of u.before ws)
              (x.4 i (d.0 ++ ws) (kind_end d.0 ws u.rest kind ∙ sym (ap kind_of d.1)))
              (λ a. d.4 (i, (before_of s.before (x.0 ++ (d.0 ++ ws)), a)) ws kind)),
        )

    grown : (cs ds : List Lexeme) → L cs → Opens M ds → Opens N (cs ++ ds)
    grown cs ds is (us, more) = (us, subst N (sym (append_assoc cs ds us)) (join cs (ds ++ us) is more))

    stops : (f : ParseStop) → (r s >>= k s) ≡ refused f → Halts T'' (λ i x. q i x >>= k' i x) N s f
    stops f h = cases (bind_stops (r s) (k s) f h)
      where
        cases : (r s ≡ refused f) ⊎ ((a : A) × (v : Place) × (r s ≡ got a v) × (k s a v ≡ refused f)) → Halts T'' (λ i x. q i x >>= k' i x) N s f
        cases (inl none) =
            shift T'' T (λ i x. q i x >>= k' i x) q N L [] s s refl (λ ds (us, is). (us ++ some.0, subst N (append_assoc ds us some.0) (join (ds ++ us) some.0 is some.1)))
            (λ xs t ws kind blocks i. bind_refused (q i (before_of s.before (xs ++ t ∷ ws))) (k' i (before_of s.before (xs ++ t ∷ ws))) (blocks i)) (λ none. first) f (one.stops f none)
        cases (inr (a, v, is, none)) =
            let x = one.gives a v is in
            shift T'' T' (λ i x. q i x >>= k' i x) (λ j. k' j.0 j.1.0 j.1.1) N M x.0 s v x.1 (λ ds. grown x.0 ds x.3)
            (λ xs t ws kind blocks i.
            let w = x.0 ++ (xs ++ t ∷ ws) in
            falls (q i (before_of s.before w)) (before_of v.before (xs ++ t ∷ ws)) (k' i (before_of s.before w)) (x.4 i (xs ++ t ∷ ws) kind) (λ b. blocks (i, (before_of s.before w, b))))
            (λ none'. either second none') f ((two a v is).stops f none)
          where
            either : (e ≡ true) ⊎ (T' (kind_at s) ≡ false → T'' (kind_at s) ≡ false) → (one.gives a v is).0 ≡ [] → T' (kind_at s) ≡ false → T'' (kind_at s) ≡ false
            either (inl some') none' other = absurd ((one.gives a v is).2 some' none')
            either (inr to) none' other = to other

-- nothing more is read
pub done_at : {A I : Type 0} {T : TokenKind → Bool} (a : A) (b : I → A) (s : Place) → At false T (λ u. got a u) (λ i u. got (b i) u) (λ cs. cs ≡ []) s
done_at a b s = record {
  gives = λ c u h. ([], ap (λ w. w.rest) (got_place a c s u h), λ is. absurd (cc), refl, λ i ws kind. subst (λ w. Comes (got (b i) (before_of s.before ws)) (before_of w.before ws)) (got_place a c s u h) (inl (b i, refl)));
  stops = λ f h. absurd (cc);
}

-- ONE TOKEN

abbrev pub token : TokenKind → Lexeme
token k = record { kind = k; span = record { from = 0; to = 0 }; text = [] }

-- one token of a kind
abbrev pub One : TokenKind → Language
One k cs = (t : Lexeme) × (t.kind ≡ k) × (cs ≡ t ∷ [])

-- a token that is taken, and one that is not
reads : (k : TokenKind) (b : ℕ) (t : Lexeme) (ws : List Lexeme) → t.kind ≡ k → the k (before_of b (t ∷ ws)) ≡ got t (behind t ws)
reads k b t ws kind = (the_law k).complete (before_of b (t ∷ ws)) t (behind t ws) (ws, kind, refl, refl) tt

not_read : (k : TokenKind) (b : ℕ) (t : Lexeme) (ws : List Lexeme) → same t.kind k ≡ false → the k (before_of b (t ∷ ws)) ≡ refused (Unexpected t.span)
unfolding the
not_read k b t ws other = ap (λ c. cond c (got t (behind t ws)) (refused (Unexpected t.span))) other

-- why it is not taken
abbrev Missed : TokenKind → List Lexeme → ParseStop → Type 0
Missed k ts f = ((ts ≡ []) × (AtEnd ≡ f)) ⊎ ((t : Lexeme) × (us : List Lexeme) × (ts ≡ t ∷ us) × (Unexpected t.span ≡ f) × (same t.kind k ≡ false))

missed_over : (k : TokenKind) (ts : List Lexeme) (f : ParseStop) → cond (same (kind_of ts) k) (next_of ts) (refused (stop_of ts)) ≡ refused f → Missed k ts f
missed_over k [] f h = cases (same Kind.End k) h
  where
    cases : (b : Bool) → ◌≡◌ {A = Read Lexeme} (cond b (refused AtEnd) (refused AtEnd)) (refused f) → Missed k [] f
    cases true g = let is : AtEnd ≡ f = cc in inl (refl, is)
    cases false g = let is : AtEnd ≡ f = cc in inl (refl, is)
missed_over k (t ∷ ts) f h = cases (same t.kind k) refl h
  where
    cases : (b : Bool) → same t.kind k ≡ b → cond b (got t (behind t ts)) (refused (Unexpected t.span)) ≡ refused f → Missed k (t ∷ ts) f
    cases true other g = absurd (cc)
    cases false other g = let is : Unexpected t.span ≡ f = cc in inr (t, ts, refl, is, other)

missed : (k : TokenKind) (s : Place) (f : ParseStop) → the k s ≡ refused f → Missed k s.rest f
unfolding the
missed k s f h = missed_over k s.rest f h

-- where its first token is missed, a reader stops
first_stops : {A I : Type 0} (T : TokenKind → Bool) (k : TokenKind) (q : I → Reader A) (L : Language) (s : Place) (f : ParseStop) → (ds : List Lexeme) × L ds
    → ((i : I) (t : Lexeme) (ws : List Lexeme) → same t.kind k ≡ false → Refused (q i (before_of s.before (t ∷ ws)))) → ((t : Lexeme) → same t.kind k ≡ false → T t.kind ≡ false)
    → Missed k s.rest f → Halts T q L s f
first_stops T k q L s f some blocks fresh (inl (none, is)) = subst (Halts T q L s) is (subst (Opens L) (sym none) some)
first_stops T k q L s f some blocks fresh (inr (t, us, rest, is, other)) =
    subst (Halts T q L s) is ([], t, us, rest, refl, some, λ i ws. blocks i t ws other, λ none. fresh t other)

pub the_looks : {I : Type 0} (k : TokenKind) → Looks {I = I} true (λ x. same x k) (the k) (λ i. the k) (One k)
the_looks {I} k = record {
  here = λ s.
      record {
        gives = λ a u h.
            let p = ((the_law k).sound s a u h).0 in (
              a ∷ [],
              p.2 ∙ ap (λ w. a ∷ w.rest) (sym p.3),
              λ is none. absurd (cc),
              (a, p.1, refl),
              λ i ws kind. inl (a, reads k s.before a ws p.1 ∙ ap (λ w. got a (before_of w.before ws)) (sym p.3)),
            );
        stops = λ f h. first_stops (λ x. same x k) k (λ (i : I). the k) (One k) s f (token k ∷ [], (token k, refl, refl)) (λ i t ws other. (Unexpected t.span, not_read k s.before t ws other)) (λ t other. other) (missed k s f h);
      };
  some = (token k ∷ [], (token k, refl, refl));
}

-- WHAT RULES SPELL

-- these tokens are by the rule, wherever they stand
pub record Spells {A : Type 0} (R : Rule A) (cs : List Lexeme) : Type 0 where
  pub each : (b : ℕ) (ws : List Lexeme) → (a : A) × (b' : ℕ) × R (before_of b (cs ++ ws)) a (before_of b' ws)

pub spells_to : {A B : Type 0} {R : Rule A} {Q : Rule B} → ((s : Place) (a : A) (u : Place) → R s a u → (b : B) × Q s b u) → (cs : List Lexeme) → Spells R cs → Spells Q cs
spells_to to cs one = record {
  each = λ b ws.
      let p = one.each b ws in
      let q = to (before_of b (cs ++ ws)) p.0 (before_of p.1 ws) p.2 in
      (q.0, p.1, q.1);
}

pub spells_both : {A B : Type 0} {R : Rule A} {Q : Rule B} (cs ds : List Lexeme) → Spells R cs → Spells Q ds → Spells (R ⋆ Q) (cs ++ ds)
spells_both {A} {B} {R} {Q} cs ds one two = record {
  each = λ b ws.
      let p = one.each b (ds ++ ws) in
      let q = two.each p.1 ws in
      let whole : (R ⋆ Q) (before_of b (cs ++ (ds ++ ws))) (p.0, q.0) (before_of q.1 ws) = (before_of p.1 (ds ++ ws), p.2, q.2) in
      ((p.0, q.0), q.1, subst (λ l. (R ⋆ Q) (before_of b l) (p.0, q.0) (before_of q.1 ws)) (sym (append_assoc cs ds ws)) whole);
}

pub spells_drop : {A B : Type 0} {R : Rule A} {Q : Rule B} (cs ds : List Lexeme) → Spells R cs → Spells Q ds → Spells (R ▹ Q) (cs ++ ds)
spells_drop {R = R} {Q = Q} cs ds one two = spells_to {R = R ⋆ Q} {Q = R ▹ Q} (λ s x u (v, a, b). (x.1, (x.0, v, a, b))) (cs ++ ds) (spells_both {R = R} {Q = Q} cs ds one two)

pub spells_keep : {A B : Type 0} {R : Rule A} {Q : Rule B} (cs ds : List Lexeme) → Spells R cs → Spells Q ds → Spells (R ◃ Q) (cs ++ ds)
spells_keep {R = R} {Q = Q} cs ds one two = spells_to {R = R ⋆ Q} {Q = R ◃ Q} (λ s x u (v, a, b). (x.0, (x.1, v, a, b))) (cs ++ ds) (spells_both {R = R} {Q = Q} cs ds one two)

pub spells_made : {A B : Type 0} {R : Rule A} (make : Place → A → Place → B) (cs : List Lexeme) → Spells R cs → Spells (Made make R) cs
spells_made {R = R} make cs one = spells_to {R = R} {Q = Made make R} (λ s a u is. (make s a u, (a, is, refl))) cs one

pub spells_one : (k : TokenKind) (cs : List Lexeme) → One k cs → Spells (The k) cs
spells_one k cs (t, kind, is) = subst (Spells (The k)) (sym is) (record { each = λ b ws. (t, t.span.to, (ws, kind, refl, refl)) })

pub spells_nil : {A : Type 0} (R : Rule A) → Spells (Many R) []
spells_nil R = record { each = λ b ws. ([], b, refl) }

pub spells_cons : {A : Type 0} {R : Rule A} (cs ds : List Lexeme) → Spells R cs → Spells (Many R) ds → Spells (Many R) (cs ++ ds)
spells_cons {A} {R} cs ds one more = spells_to {R = R ⋆ Many R} {Q = Many R} (λ s x u (v, a, b). (x.0 ∷ x.1, (v, a, b))) (cs ++ ds) (spells_both cs ds one more)

pub token_looks : {I : Type 0} (k : TokenKind) → Looks {I = I} true (λ x. same x k) (the k) (λ i. the k) (Spells (The k))
token_looks k = record { here = λ s. wider (spells_one k) (λ h. h) ((the_looks k).here s); some = (token k ∷ [], spells_one k (token k ∷ []) (token k, refl, refl)) }

-- READERS TOGETHER

-- what is made of what is read
pub map_at : {A B I : Type 0} {e : Bool} {T : TokenKind → Bool} {r : Reader A} {q : I → Reader A} {L : Language} (g : Place → A → Place → B) (g' : I → Place → A → Place → B) (s : Place)
    → At e T r q L s → At e T (λ x. r x >>= λ a u. got (g x a u) u) (λ i x. q i x >>= λ a u. got (g' i x a u) u) L s
map_at {A} {B} {I} {e} {T} {r} {q} {L} g g' s one = record { gives = gives; stops = stops }
  where
    gives : (b : B) (u : Place) → (r s >>= λ a w. got (g s a w) w) ≡ got b u → (cs : List Lexeme) × (s.rest ≡ cs ++ u.rest) × (e ≡ true → cs ≡ [] → ⊥) × L cs
        × ((i : I) (ws : List Lexeme) → kind_of ws ≡ kind_of u.rest → Comes (q i (before_of s.before (cs ++ ws)) >>= λ a w. got (g' i (before_of s.before (cs ++ ws)) a w) w) (before_of u.before ws))
    gives b u h =
        let p = bind_got (r s) (λ a w. got (g s a w) w) b u h in
        let place = got_place (g s p.0 p.1) b p.1 u p.3 in
        let x = one.gives p.0 u (p.2 ∙ ap (got p.0) place) in (
          x.0,
          x.1,
          x.2,
          x.3,
          λ i ws kind.
              goes_on (q i (before_of s.before (x.0 ++ ws))) (before_of u.before ws) (λ a w. got (g' i (before_of s.before (x.0 ++ ws)) a w) w) (before_of u.before ws) (x.4 i ws kind)
              (λ a. inl (g' i (before_of s.before (x.0 ++ ws)) a (before_of u.before ws), refl)),
        )

    no_got : (a : A) (w : Place) (f : ParseStop) → ◌≡◌ {A = Read B} (got (g s a w) w) (refused f) → ⊥
    no_got a w f h = absurd (cc)

    stops : (f : ParseStop) → (r s >>= λ a w. got (g s a w) w) ≡ refused f → Halts T (λ i x. q i x >>= λ a u. got (g' i x a u) u) L s f
    stops f h = cases (bind_stops (r s) (λ a w. got (g s a w) w) f h)
      where
        cases : (r s ≡ refused f) ⊎ ((a : A) × (v : Place) × (r s ≡ got a v) × (got (g s a v) v ≡ refused f)) → Halts T (λ i x. q i x >>= λ a u. got (g' i x a u) u) L s f
        cases (inl none) =
            shift T T (λ i x. q i x >>= λ a u. got (g' i x a u) u) q L L [] s s refl (λ ds o. o)
            (λ xs t ws kind blocks i. bind_refused (q i (before_of s.before (xs ++ t ∷ ws))) (λ a u. got (g' i (before_of s.before (xs ++ t ∷ ws)) a u) u) (blocks i)) (λ none first. first) f (one.stops f none)
        cases (inr (a, v, is, none)) = absurd (no_got a v f none)

pub made_looks : {A B I : Type 0} {e : Bool} {T : TokenKind → Bool} {r : Reader A} {q : I → Reader A} {R : Rule A} (make : Place → A → Place → B) → Looks e T r q (Spells R)
    → Looks e T (made make r) (λ i. made make (q i)) (Spells (Made make R))
made_looks make one = record {
  here = λ s. wider (spells_made make) (λ h. h) (map_at make (λ i. make) s (one.here s));
  some = (one.some.0, spells_made make one.some.0 one.some.1);
}

-- the one, which takes a token, and then the other
pub both_here : {A B I : Type 0} {e : Bool} {T T' : TokenKind → Bool} {r : Reader A} {q : I → Reader A} {r' : Reader B} {q' : I → Reader B} {R : Rule A} {Q : Rule B} (s : Place)
    → At true T r q (Spells R) s → Looks e T' r' q' (Spells Q) → At true T (r ∗ r') (λ i. q i ∗ q' i) (Spells (R ⋆ Q)) s
both_here {r' = r'} {q' = q'} s one two =
    bind_at (λ x a v. r' v >>= λ b u. got (a, b) u) (λ i x a v. q' i v >>= λ b u. got (a, b) u) s one
    (λ a v h. map_at (λ x b u. (a, b)) (λ j x b u. (j.1.1, b)) v (alike refl (λ j w. inr (j.0, refl)) (two.here v))) two.some spells_both (λ is. inl refl) (λ h. h) (inl refl)

pub both_looks : {A B I : Type 0} {e : Bool} {T T' : TokenKind → Bool} {r : Reader A} {q : I → Reader A} {r' : Reader B} {q' : I → Reader B} {R : Rule A} {Q : Rule B}
    → Looks true T r q (Spells R) → Looks e T' r' q' (Spells Q) → Looks true T (r ∗ r') (λ i. q i ∗ q' i) (Spells (R ⋆ Q))
both_looks one two = record { here = λ s. both_here s (one.here s) two; some = (one.some.0 ++ two.some.0, spells_both one.some.0 two.some.0 one.some.1 two.some.1) }

pub drop_looks : {A B I : Type 0} {e : Bool} {T T' : TokenKind → Bool} {r : Reader A} {q : I → Reader A} {r' : Reader B} {q' : I → Reader B} {R : Rule A} {Q : Rule B}
    → Looks true T r q (Spells R) → Looks e T' r' q' (Spells Q) → Looks true T (r ▸ r') (λ i. q i ▸ q' i) (Spells (R ▹ Q))
drop_looks {r' = r'} {q' = q'} one two = record {
  here = λ s. bind_at (λ x a v. r' v) (λ i x a v. q' i v) s (one.here s) (λ a v h. alike refl (λ j w. inr (j.0, refl)) (two.here v)) two.some spells_drop (λ is. inl refl) (λ h. h) (inl refl);
  some = (one.some.0 ++ two.some.0, spells_drop one.some.0 two.some.0 one.some.1 two.some.1);
}

pub keep_looks : {A B I : Type 0} {e : Bool} {T T' : TokenKind → Bool} {r : Reader A} {q : I → Reader A} {r' : Reader B} {q' : I → Reader B} {R : Rule A} {Q : Rule B}
    → Looks true T r q (Spells R) → Looks e T' r' q' (Spells Q) → Looks true T (r ◂ r') (λ i. q i ◂ q' i) (Spells (R ◃ Q))
keep_looks {r' = r'} {q' = q'} one two = record {
  here = λ s.
      bind_at (λ x a v. r' v >>= λ b u. got a u) (λ i x a v. q' i v >>= λ b u. got a u) s (one.here s)
      (λ a v h. map_at (λ x b u. a) (λ j x b u. j.1.1) v (alike refl (λ j w. inr (j.0, refl)) (two.here v))) two.some spells_keep (λ is. inl refl) (λ h. h) (inl refl);
  some = (one.some.0 ++ two.some.0, spells_keep one.some.0 two.some.0 one.some.1 two.some.1);
}

-- the same, where the first may take none
abbrev pub none_of_all : TokenKind → Bool
none_of_all k = false

pub last_both_looks : {A B I : Type 0} {e e' : Bool} {T T' : TokenKind → Bool} {r : Reader A} {q : I → Reader A} {r' : Reader B} {q' : I → Reader B} {R : Rule A} {Q : Rule B} (T'' : TokenKind → Bool)
    → Looks e T r q (Spells R) → Looks e' T' r' q' (Spells Q) → ((k : TokenKind) → T k ≡ false → T'' k ≡ false) → ((k : TokenKind) → T' k ≡ false → T'' k ≡ false)
    → Looks e' T'' (r ∗ r') (λ i. q i ∗ q' i) (Spells (R ⋆ Q))
last_both_looks {r' = r'} {q' = q'} T'' one two first second = record {
  here = λ s.
      bind_at (λ x a v. r' v >>= λ b u. got (a, b) u) (λ i x a v. q' i v >>= λ b u. got (a, b) u) s (one.here s)
      (λ a v h. map_at (λ x b u. (a, b)) (λ j x b u. (j.1.1, b)) v (alike refl (λ j w. inr (j.0, refl)) (two.here v))) two.some spells_both (λ is. inr is) (first (kind_at s)) (inr (second (kind_at s)));
  some = (one.some.0 ++ two.some.0, spells_both one.some.0 two.some.0 one.some.1 two.some.1);
}

pub last_keep_looks : {A B I : Type 0} {e e' : Bool} {T T' : TokenKind → Bool} {r : Reader A} {q : I → Reader A} {r' : Reader B} {q' : I → Reader B} {R : Rule A} {Q : Rule B}
    → Looks e T r q (Spells R) → Looks e' T' r' q' (Spells Q) → Looks e' none_of_all (r ◂ r') (λ i. q i ◂ q' i) (Spells (R ◃ Q))
last_keep_looks {r' = r'} {q' = q'} one two = record {
  here = λ s.
      bind_at (λ x a v. r' v >>= λ b u. got a u) (λ i x a v. q' i v >>= λ b u. got a u) s (one.here s)
      (λ a v h. map_at (λ x b u. a) (λ j x b u. j.1.1) v (alike refl (λ j w. inr (j.0, refl)) (two.here v))) two.some spells_keep (λ is. inr is) (λ h. refl) (inr (λ h. refl));
  some = (one.some.0 ++ two.some.0, spells_keep one.some.0 two.some.0 one.some.1 two.some.1);
}

-- ALTERNATIVES

take_first : {A : Type 0} (b : Bool) (x y : Read A) → b ≡ true → cond b x y ≡ x
take_first b x y is = ap (λ c. cond c x y) is

take_second : {A : Type 0} (b : Bool) (x y : Read A) → b ≡ false → cond b x y ≡ y
take_second b x y is = ap (λ c. cond c x y) is

-- a reader that reads at a place, and behind other tokens too, as one that is known
pub same_at : {A I : Type 0} {e : Bool} {T : TokenKind → Bool} {r R : Reader A} {q Q : I → Reader A} {L : Language} (s : Place) → R s ≡ r s
    → ((i : I) (cs ws us : List Lexeme) → s.rest ≡ cs ++ us → kind_of ws ≡ kind_of us → (e ≡ true → cs ≡ [] → ⊥) → Q i (before_of s.before (cs ++ ws)) ≡ q i (before_of s.before (cs ++ ws)))
    → ((i : I) (xs : List Lexeme) (t : Lexeme) (ws zs : List Lexeme) → s.rest ≡ xs ++ t ∷ zs → (xs ≡ [] → T t.kind ≡ false) → Q i (before_of s.before (xs ++ t ∷ ws)) ≡ q i (before_of s.before (xs ++ t ∷ ws)))
    → At e T r q L s → At e T R Q L s
same_at {A} {I} {e} {T} {r} {R} {q} {Q} {L} s is given stopped one = record {
  gives = λ a u h.
      let p = one.gives a u (sym is ∙ h) in (
        p.0,
        p.1,
        p.2,
        p.3,
        λ i ws kind. subst (λ x. Comes x (before_of u.before ws)) (sym (given i p.0 ws u.rest p.1 kind p.2)) (p.4 i ws kind),
      );
  stops = λ f h. cases f (one.stops f (sym is ∙ h));
}
  where
    cases : (f : ParseStop) → Halts T q L s f → Halts T Q L s f
    cases AtEnd h = h
    cases (Unexpected p) (xs, t, zs, rest, span, opens, blocks, fresh) = (
      xs,
      t,
      zs,
      rest,
      span,
      opens,
      λ i ws. let none = blocks i ws in (none.0, stopped i xs t ws zs rest fresh ∙ none.1),
      fresh,
    )
    cases (TooNested p) h = h
    cases Memory h = h

-- at a place where a test takes the first, and behind other tokens too
pub first_at : {A I : Type 0} {e : Bool} {T : TokenKind → Bool} {r : Reader A} {q : I → Reader A} {L : Language} (r' : Reader A) (q' : I → Reader A) (test : Place → Bool) (s : Place) → test s ≡ true
    → ((cs ws us : List Lexeme) → s.rest ≡ cs ++ us → kind_of ws ≡ kind_of us → (e ≡ true → cs ≡ [] → ⊥) → test (before_of s.before (cs ++ ws)) ≡ true)
    → ((xs : List Lexeme) (t : Lexeme) (ws zs : List Lexeme) → s.rest ≡ xs ++ t ∷ zs → (xs ≡ [] → T t.kind ≡ false) → test (before_of s.before (xs ++ t ∷ ws)) ≡ true)
    → At e T r q L s → At e T (choose test r r') (λ i. choose test (q i) (q' i)) L s
first_at {r = r} {q = q} r' q' test s is given stopped one =
    same_at s (take_first (test s) (r s) (r' s) is)
    (λ i cs ws us rest kind some. (let v : Place = before_of s.before (cs ++ ws) in take_first (test v) (q i v) (q' i v) (given cs ws us rest kind some)))
    (λ i xs t ws zs rest fresh. (let v : Place = before_of s.before (xs ++ t ∷ ws) in take_first (test v) (q i v) (q' i v) (stopped xs t ws zs rest fresh)))
    one

pub other_at : {A I : Type 0} {e : Bool} {T : TokenKind → Bool} {r' : Reader A} {q' : I → Reader A} {L : Language} (r : Reader A) (q : I → Reader A) (test : Place → Bool) (s : Place) → test s ≡ false
    → ((cs ws us : List Lexeme) → s.rest ≡ cs ++ us → kind_of ws ≡ kind_of us → (e ≡ true → cs ≡ [] → ⊥) → test (before_of s.before (cs ++ ws)) ≡ false)
    → ((xs : List Lexeme) (t : Lexeme) (ws zs : List Lexeme) → s.rest ≡ xs ++ t ∷ zs → (xs ≡ [] → T t.kind ≡ false) → test (before_of s.before (xs ++ t ∷ ws)) ≡ false)
    → At e T r' q' L s → At e T (choose test r r') (λ i. choose test (q i) (q' i)) L s
other_at {r' = r'} {q' = q'} r q test s is given stopped one =
    same_at s (take_second (test s) (r s) (r' s) is)
    (λ i cs ws us rest kind some. (let v : Place = before_of s.before (cs ++ ws) in take_second (test v) (q i v) (q' i v) (given cs ws us rest kind some)))
    (λ i xs t ws zs rest fresh. (let v : Place = before_of s.before (xs ++ t ∷ ws) in take_second (test v) (q i v) (q' i v) (stopped xs t ws zs rest fresh)))
    one

-- by the next kind
pub choose_at : {A I : Type 0} {e : Bool} {T K : TokenKind → Bool} {r r' : Reader A} {q q' : I → Reader A} {L : Language} {test : Place → Bool} → Tests test K → (s : Place)
    → (K (kind_at s) ≡ true → At e T r q L s) → (K (kind_at s) ≡ false → At e T r' q' L s) → At e T (choose test r r') (λ i. choose test (q i) (q' i)) L s
choose_at {A} {I} {e} {T} {K} {r} {r'} {q} {q'} {L} {test} tests s one two = cases (K (kind_at s)) refl
  where
    given : (b : Bool) → K (kind_at s) ≡ b → (cs ws us : List Lexeme) → s.rest ≡ cs ++ us → kind_of ws ≡ kind_of us → test (before_of s.before (cs ++ ws)) ≡ b
    given b is cs ws us rest kind = tests.is (before_of s.before (cs ++ ws)) ∙ ap K (kind_end cs ws us kind ∙ sym (ap kind_of rest)) ∙ is

    stopped : (b : Bool) → K (kind_at s) ≡ b → (xs : List Lexeme) (t : Lexeme) (ws zs : List Lexeme) → s.rest ≡ xs ++ t ∷ zs → test (before_of s.before (xs ++ t ∷ ws)) ≡ b
    stopped b is xs t ws zs rest = tests.is (before_of s.before (xs ++ t ∷ ws)) ∙ ap K (kind_mid xs t ws zs ∙ sym (ap kind_of rest)) ∙ is

    cases : (b : Bool) → K (kind_at s) ≡ b → At e T (choose test r r') (λ i. choose test (q i) (q' i)) L s
    cases true is = first_at r' q' test s (tests.is s ∙ is) (λ cs ws us rest kind some. given true is cs ws us rest kind) (λ xs t ws zs rest fresh. stopped true is xs t ws zs rest) (one is)
    cases false is = other_at r q test s (tests.is s ∙ is) (λ cs ws us rest kind some. given false is cs ws us rest kind) (λ xs t ws zs rest fresh. stopped false is xs t ws zs rest) (two is)

second_given : (cs ws us : List Lexeme) → kind_of ws ≡ kind_of us → (cs ≡ [] → ⊥) → kind_of (tail_of (cs ++ ws)) ≡ kind_of (tail_of (cs ++ us))
second_given [] ws us kind some = absurd (some refl)
second_given (c ∷ cs) ws us kind some = kind_end cs ws us kind

second_stopped : (xs : List Lexeme) (t : Lexeme) (ws zs : List Lexeme) → (xs ≡ [] → ⊥) → kind_of (tail_of (xs ++ t ∷ ws)) ≡ kind_of (tail_of (xs ++ t ∷ zs))
second_stopped [] t ws zs some = absurd (some refl)
second_stopped (x ∷ xs) t ws zs some = kind_mid xs t ws zs

-- by the first kind and the one behind it, where the first is refused by neither
pub choose_second_at : {A I : Type 0} {T : TokenKind → Bool} {r r' : Reader A} {q q' : I → Reader A} {L : Language} {test : Place → Bool} (K : TokenKind → TokenKind → Bool) → ((s : Place) → test s ≡ K (kind_at s) (second_at s))
    → (s : Place) → T (kind_at s) ≡ true → At true T r q L s → At true T r' q' L s → At true T (choose test r r') (λ i. choose test (q i) (q' i)) L s
choose_second_at {A} {I} {T} {r} {r'} {q} {q'} {L} {test} K tests s starts one two = cases (K (kind_at s) (second_at s)) refl
  where
    given : (b : Bool) → K (kind_at s) (second_at s) ≡ b → (cs ws us : List Lexeme) → s.rest ≡ cs ++ us → kind_of ws ≡ kind_of us → (cs ≡ [] → ⊥) → test (before_of s.before (cs ++ ws)) ≡ b
    given b is cs ws us rest kind some =
        tests (before_of s.before (cs ++ ws)) ∙ ap (λ k. K k (kind_of (tail_of (cs ++ ws)))) (kind_end cs ws us kind ∙ sym (ap kind_of rest))
        ∙ ap (K (kind_at s)) (second_given cs ws us kind some ∙ sym (ap (λ l. kind_of (tail_of l)) rest)) ∙ is

    fresh_some : (xs : List Lexeme) (t : Lexeme) (zs : List Lexeme) → s.rest ≡ xs ++ t ∷ zs → (xs ≡ [] → T t.kind ≡ false) → xs ≡ [] → ⊥
    fresh_some xs t zs rest fresh none =
        let kind : kind_at s ≡ t.kind = ap kind_of rest ∙ ap (λ l. kind_of (l ++ t ∷ zs)) none in
        let bad : true ≡ false = sym starts ∙ ap T kind ∙ fresh none in
        absurd (cc)

    stopped : (b : Bool) → K (kind_at s) (second_at s) ≡ b → (xs : List Lexeme) (t : Lexeme) (ws zs : List Lexeme) → s.rest ≡ xs ++ t ∷ zs → (xs ≡ [] → T t.kind ≡ false) → test (before_of s.before (xs ++ t ∷ ws)) ≡ b
    stopped b is xs t ws zs rest fresh =
        tests (before_of s.before (xs ++ t ∷ ws)) ∙ ap (λ k. K k (kind_of (tail_of (xs ++ t ∷ ws)))) (kind_mid xs t ws zs ∙ sym (ap kind_of rest))
        ∙ ap (K (kind_at s)) (second_stopped xs t ws zs (fresh_some xs t zs rest fresh) ∙ sym (ap (λ l. kind_of (tail_of l)) rest)) ∙ is

    cases : (b : Bool) → K (kind_at s) (second_at s) ≡ b → At true T (choose test r r') (λ i. choose test (q i) (q' i)) L s
    cases true is = first_at r' q' test s (tests s ∙ is) (λ cs ws us rest kind some. given true is cs ws us rest kind (some refl)) (stopped true is) one
    cases false is = other_at r q test s (tests s ∙ is) (λ cs ws us rest kind some. given false is cs ws us rest kind (some refl)) (stopped false is) two

-- no token may stand here
pub never_at : {A I : Type 0} {T : TokenKind → Bool} {L : Language} (s : Place) → (ds : List Lexeme) × L ds → T (kind_at s) ≡ false → At {A = A} {I = I} true T never (λ i. never) L s
never_at {A} {I} {T} {L} s some none = rest_at s.before s.rest none
  where
    rest_at : (b : ℕ) (ts : List Lexeme) → T (kind_of ts) ≡ false → At {A = A} {I = I} true T never (λ i. never) L (before_of b ts)
    rest_at b [] none = record {
      gives = λ a u h. absurd (cc);
      stops = λ f h. let is : AtEnd ≡ f = cc in subst (Halts T (λ (i : I). never {A = A}) L (before_of b [])) is some;
    }
    rest_at b (t ∷ ts) none = record {
      gives = λ a u h. absurd (cc);
      stops = λ f h. let is : Unexpected t.span ≡ f = cc in subst (Halts T (λ (i : I). never {A = A}) L (before_of b (t ∷ ts))) is ([], t, ts, refl, refl, some, λ i ws. (Unexpected t.span, refl), λ none'. none);
    }

-- NONE OR ONE OR MORE

spells_some : {A : Type 0} (R : Rule A) (cs : List Lexeme) → Spells R cs → Spells (Maybe R) cs
spells_some R cs one = spells_to {R = R} {Q = Maybe R} (λ s a u is. (Some a, is)) cs one

pub spells_no : {A : Type 0} (R : Rule A) (cs : List Lexeme) → cs ≡ [] → Spells (Maybe R) cs
spells_no R cs is = subst (Spells (Maybe R)) (sym is) (record { each = λ b ws. (None, b, refl) })

pub loose : {A I : Type 0} {e : Bool} {T : TokenKind → Bool} {r : Reader A} {q : I → Reader A} {L : Language} {s : Place} → At e T r q L s → At false T r q L s
loose one = record { gives = λ a u h. let p = one.gives a u h in (p.0, p.1, λ is. absurd (cc), p.3, p.4); stops = one.stops }

pub maybe_looks : {A I : Type 0} {T K T'' : TokenKind → Bool} {r : Reader A} {q : I → Reader A} {R : Rule A} {test : Place → Bool} → Tests test K → Looks true T r q (Spells R) → ((k : TokenKind) → K k ≡ true → T k ≡ false → T'' k ≡ false)
    → Looks false T'' (maybe test r) (λ i. maybe test (q i)) (Spells (Maybe R))
maybe_looks {A} {I} {T} {K} {T''} {r} {q} {R} {test} tests one first = record {
  here = λ s.
      choose_at {r' = λ u. got None u} {q' = λ i u. got None u} tests s
      (λ is. wider (spells_some R) (first (kind_at s) is) (loose (map_at (λ x a u. Some a) (λ i x a u. Some a) s (one.here s))))
      (λ is. wider {T' = T''} (spells_no R) (λ h. h) (done_at None (λ i. None) s));
  some = ([], spells_no R [] refl);
}

pub shorter : (cs : List Lexeme) (w : List Lexeme) → (cs ≡ [] → ⊥) → length w < length (cs ++ w)
shorter [] w some = absurd (some refl)
shorter (c ∷ cs) w some = longer cs w
  where
    longer : (ds : List Lexeme) (w : List Lexeme) → length w < suc (length (ds ++ w))
    longer [] w = omega arith
    longer (d ∷ ds) w = let more = longer ds w in omega arith

pub many_at : {A I : Type 0} {T K : TokenKind → Bool} {r : Reader A} {q : I → Reader A} {R : Rule A} {test : Place → Bool} → Tests test K → ((s : Place) → K (kind_at s) ≡ true → At true T r q (Spells R) s)
    → (n : ℕ) (acc : List A) (s : Place) → length s.rest < n → At {I = I × (ℕ × List A)} false none_of_all (many_over test r n acc) (λ j. many_over test (q j.0) j.1.0 j.1.1) (Spells (Many R)) s
unfolding many_over
many_at tests one zero acc s fuel = absurd (omega arith)
many_at {A} {I} {T} {K} {r} {q} {R} {test} tests one (suc n) acc s fuel =
    alike {r = choose test (λ x. r x >>= λ a u. many_over test r n (acc ++ a ∷ []) u) (λ u. got acc u)} {q = twins} refl (λ j v. others j.0 j.1.0 j.1.1 v)
    (choose_at tests s (λ is. more is (λ a v less. many_at tests one n (acc ++ a ∷ []) v less)) (λ is. wider {T' = none_of_all} (λ cs none. subst (Spells (Many R)) (sym none) (spells_nil R)) (λ h. h) (done_at acc (λ j. j.1.1) s)))
  where
    twins : I × (ℕ × List A) → Reader (List A)
    twins j = choose test (λ x. q j.0 x >>= λ a u. many_over test (q j.0) j.1.0 (j.1.1 ++ a ∷ []) u) (λ u. got j.1.1 u)

    others : (i : I) (m : ℕ) (ys : List A) (v : Place) → Refused (many_over test (q i) m ys v) ⊎ ((j : I × (ℕ × List A)) × (many_over test (q i) m ys v ≡ twins j v))
    others i zero ys v = inl (AtEnd, refl)
    others i (suc m) ys v = inr ((i, (m, ys)), refl)

    more : K (kind_at s) ≡ true → ((a : A) (v : Place) → length v.rest < n → At {I = I × (ℕ × List A)} false none_of_all (many_over test r n (acc ++ a ∷ [])) (λ j. many_over test (q j.0) j.1.0 j.1.1) (Spells (Many R)) v)
        → At {I = I × (ℕ × List A)} false none_of_all (λ x. r x >>= λ a u. many_over test r n (acc ++ a ∷ []) u) (λ j x. q j.0 x >>= λ a u. many_over test (q j.0) j.1.0 (j.1.1 ++ a ∷ []) u) (Spells (Many R)) s
    more is deeper =
        bind_at (λ x a u. many_over test r n (acc ++ a ∷ []) u) (λ j x a u. many_over test (q j.0) j.1.0 (j.1.1 ++ a ∷ []) u) s (alike {q = q} {q' = λ j. q j.0} refl (λ j w. inr (j.0, refl)) (one s is))
        (λ a v h.
        let p = (one s is).gives a v h in
        let short = shorter p.0 v.rest (p.2 refl) in
        let same = ap length p.1 in
        alike {q = λ j. many_over test (q j.0) j.1.0 j.1.1} refl (λ j w. inr ((j.0.0, (j.0.1.0, j.0.1.1 ++ j.1.1 ∷ [])), refl)) (deeper a v (omega arith)))
        ([], spells_nil R) spells_cons (λ takes. absurd (cc)) (λ h. refl) (inr (λ h. refl))

pub many_here : {A I : Type 0} {T K : TokenKind → Bool} {r : Reader A} {q : I → Reader A} {R : Rule A} {test : Place → Bool} → Tests test K → ((s : Place) → K (kind_at s) ≡ true → At true T r q (Spells R) s)
    → (acc : List A) (accs : I → List A) (s : Place) → At false none_of_all (many test r acc) (λ i. many test (q i) (accs i)) (Spells (Many R)) s
many_here {q = q} {test = test} tests one acc accs s =
    alike {q = λ j. many_over test (q j.0) j.1.0 j.1.1} refl (λ i v. inr ((i, (suc (length v.rest), accs i)), refl)) (many_at tests one (suc (length s.rest)) acc s (omega arith))

spells_single : {A : Type 0} (R : Rule A) (cs : List Lexeme) → Spells R cs → Spells (AtMostOne R) cs
spells_single R cs one = spells_to {R = R} {Q = AtMostOne R} (λ s a u is. (a ∷ [], is)) cs one

pub spells_zero : {A : Type 0} (R : Rule A) (cs : List Lexeme) → cs ≡ [] → Spells (AtMostOne R) cs
spells_zero R cs is = subst (Spells (AtMostOne R)) (sym is) (record { each = λ b ws. ([], b, refl) })

pub once_here : {A I : Type 0} {T K : TokenKind → Bool} {r : Reader A} {q : I → Reader A} {R : Rule A} {test : Place → Bool} → Tests test K → ((s : Place) → K (kind_at s) ≡ true → At true T r q (Spells R) s)
    → (s : Place) → At false none_of_all (once test r []) (λ i. once test (q i) []) (Spells (AtMostOne R)) s
once_here {q = q} {R = R} {test = test} tests one s =
    choose_at {r' = λ u. got [] u} {q' = λ i u. got [] u} tests s
    (λ is. wider (spells_single R) (λ h. refl) (loose (map_at (λ x a u. a ∷ []) (λ i x a u. a ∷ []) s (one s is))))
    (λ is. wider {T' = none_of_all} (spells_zero R) (λ h. h) (done_at [] (λ i. []) s))

pub commas_looks : {A I : Type 0} {T : TokenKind → Bool} {r : Reader A} {q : I → Reader A} {R : Rule A} → Looks true T r q (Spells R) → Looks true T (commas r) (λ i. commas (q i)) (Spells (Commas R))
commas_looks {A} {I} {T} {r} {q} {R} one = record {
  here = λ s.
      bind_at (λ x a. many (at Kind.Comma) (the Kind.Comma ▸ r) (a ∷ [])) (λ i x a. many (at Kind.Comma) (the Kind.Comma ▸ q i) (a ∷ [])) s (one.here s)
      (λ a v h. many_here {q = λ j. the Kind.Comma ▸ q j.0} (tests_at Kind.Comma) (λ w is. alike {q = λ i. the Kind.Comma ▸ q i} refl (λ j x. inr (j.0, refl)) (comma.here w)) (a ∷ []) (λ j. j.1.1 ∷ []) v)
      ([], spells_nil (The Kind.Comma ▹ R)) join (λ is. inl refl) (λ h. h) (inl refl);
  some = (one.some.0 ++ [], join one.some.0 [] one.some.1 (spells_nil (The Kind.Comma ▹ R)));
}
  where
    comma : Looks true (λ x. same x Kind.Comma) (the Kind.Comma ▸ r) (λ i. the Kind.Comma ▸ q i) (Spells (The Kind.Comma ▹ R))
    comma = drop_looks (token_looks Kind.Comma) one

    join : (cs ds : List Lexeme) → Spells R cs → Spells (Many (The Kind.Comma ▹ R)) ds → Spells (Commas R) (cs ++ ds)
    join cs ds is more = spells_made cons (cs ++ ds) (spells_both cs ds is more)

spells_list : {A : Type 0} (R : Rule A) (cs : List Lexeme) → Spells (Commas R) cs → Spells (Perhaps (Commas R)) cs
spells_list R cs one = spells_to {R = Commas R} {Q = Perhaps (Commas R)} (λ s xs u (x, more, is). (x.0 ∷ x.1, (x, more, refl))) cs one

spells_empty : {A : Type 0} (R : Rule A) (cs : List Lexeme) → cs ≡ [] → Spells (Perhaps (Commas R)) cs
spells_empty R cs is = subst (Spells (Perhaps (Commas R))) (sym is) (record { each = λ b ws. ([], b, refl) })

pub perhaps_looks : {A I : Type 0} {T K : TokenKind → Bool} {r : Reader A} {q : I → Reader A} {R : Rule A} {test : Place → Bool} → Tests test K → Looks true T r q (Spells R)
    → Looks false none_of_all (perhaps test (commas r)) (λ i. perhaps test (commas (q i))) (Spells (Perhaps (Commas R)))
perhaps_looks {R = R} tests one = record {
  here = λ s.
      choose_at {r = λ u. got [] u} {q = λ i u. got [] u} tests s (λ is. wider {T' = none_of_all} (spells_empty R) (λ h. h) (done_at [] (λ i. []) s))
      (λ is. wider (spells_list R) (λ h. refl) (loose ((commas_looks one).here s)));
  some = ([], spells_empty R [] refl);
}

-- TOKENS THAT PASS A TEST

abbrev pub The_checked : (Lexeme → Bool) → TokenKind → Rule Lexeme
The_checked test k s t u = The k s t u × (test t ≡ true)

pub checked_looks : {I : Type 0} (test : Lexeme → Bool) (k : TokenKind) (t : Lexeme) → t.kind ≡ k → test t ≡ true → Looks {I = I} true none_of_all (checked test (the k)) (λ i. checked test (the k)) (Spells (The_checked test k))
checked_looks {I} test k t₀ kind₀ test₀ = record { here = λ s. record { gives = λ a u h. gives s a u h; stops = λ f h. stops s f h }; some = word }
  where
    spelled : (t : Lexeme) → t.kind ≡ k → test t ≡ true → Spells (The_checked test k) (t ∷ [])
    spelled t kind passes = record { each = λ b ws. (t, t.span.to, ((ws, kind, refl, refl), passes)) }

    word : (cs : List Lexeme) × Spells (The_checked test k) cs
    word = (t₀ ∷ [], spelled t₀ kind₀ test₀)

    gives : (s : Place) (a : Lexeme) (u : Place) → checked test (the k) s ≡ got a u → (cs : List Lexeme) × (s.rest ≡ cs ++ u.rest) × (true ≡ true → cs ≡ [] → ⊥) × Spells (The_checked test k) cs
        × ((i : I) (ws : List Lexeme) → kind_of ws ≡ kind_of u.rest → Comes (checked test (the k) (before_of s.before (cs ++ ws))) (before_of u.before ws))
    gives s a u h =
        let p = ((checked_law {Q = The_checked test k} (the_law k) (λ s t u is holds. (is, holds)) (λ s t u is. is)).sound s a u h).0 in
        let ts = p.0.0 in
        let here : u ≡ behind a ts = p.0.3 in (
          a ∷ [],
          p.0.2 ∙ ap (λ w. a ∷ w.rest) (sym here),
          λ is none. absurd (cc),
          spelled a p.0.1 p.1,
          λ i ws kind. inl (a, ap (λ z. z >>= λ t u. cond (test t) (got t u) (refused (Unexpected t.span))) (reads k s.before a ws p.0.1) ∙ ap (λ b. cond b (got a (behind a ws)) (refused (Unexpected a.span))) p.1 ∙ ap (λ w. got a (before_of w.before ws)) (sym here)),
        )

    fails : (b : ℕ) (t : Lexeme) (ws : List Lexeme) → t.kind ≡ k → test t ≡ false → checked test (the k) (before_of b (t ∷ ws)) ≡ refused (Unexpected t.span)
    fails b t ws kind no' = ap (λ z. z >>= λ t u. cond (test t) (got t u) (refused (Unexpected t.span))) (reads k b t ws kind) ∙ ap (λ b. cond b (got t (behind t ws)) (refused (Unexpected t.span))) no'

    tested : (s : Place) (f : ParseStop) (t : Lexeme) (v : Place) → the k s ≡ got t v → (b : Bool) → test t ≡ b → cond b (got t v) (refused (Unexpected t.span)) ≡ refused f → Halts none_of_all (λ (i : I). checked test (the k)) (Spells (The_checked test k)) s f
    tested s f t v read true is h = absurd (cc)
    tested s f t v read false is h =
        let same' : Unexpected t.span ≡ f = cc in
        let p = ((the_law k).sound s t v read).0 in
        subst (Halts none_of_all (λ (i : I). checked test (the k)) (Spells (The_checked test k)) s) same' ([], t, p.0, p.2, refl, word, λ i ws. (Unexpected t.span, fails s.before t ws p.1 is), λ none. refl)

    stops : (s : Place) (f : ParseStop) → checked test (the k) s ≡ refused f → Halts none_of_all (λ (i : I). checked test (the k)) (Spells (The_checked test k)) s f
    stops s f h = cases (bind_stops (the k s) (λ t u. cond (test t) (got t u) (refused (Unexpected t.span))) f h)
      where
        cases : (the k s ≡ refused f) ⊎ ((t : Lexeme) × (v : Place) × (the k s ≡ got t v) × (cond (test t) (got t v) (refused (Unexpected t.span)) ≡ refused f)) → Halts none_of_all (λ (i : I). checked test (the k)) (Spells (The_checked test k)) s f
        cases (inl none) =
            first_stops none_of_all k (λ (i : I). checked test (the k)) (Spells (The_checked test k)) s f word
            (λ i t ws other. (Unexpected t.span, ap (λ z. z >>= λ t u. cond (test t) (got t u) (refused (Unexpected t.span))) (not_read k s.before t ws other))) (λ t other. refl) (missed k s f none)
        cases (inr (t, v, read, none)) = tested s f t v read (test t) refl none

-- LEVELS OF NESTING

-- what stands one level deeper behind a token, if a level is left
abbrev pub level_over : {A : Type 0} → (ℕ → Reader A) → ℕ → Lexeme → Place → Read A
level_over body zero t u = refused (TooNested t.span)
level_over body (suc depth) t u = body depth u

abbrev pub level : {A : Type 0} → TokenKind → (ℕ → Reader A) → ℕ → Reader A
level k body depth s = the k s >>= level_over body depth

level_missed : {A : Type 0} (k : TokenKind) (body : ℕ → Reader A) (m : ℕ) (b : ℕ) (t : Lexeme) (ws : List Lexeme) → same t.kind k ≡ false → Refused (level k body m (before_of b (t ∷ ws)))
level_missed k body m b t ws other = bind_refused (the k (before_of b (t ∷ ws))) (level_over body m) (Unexpected t.span, not_read k b t ws other)

pub level_looks : {A : Type 0} {e : Bool} {T : TokenKind → Bool} {R : Rule A} (k : TokenKind) (body : ℕ → Reader A) (n : ℕ) → (cs : List Lexeme) × Spells R cs
    → ((d : ℕ) → n ≡ suc d → Looks e T (body d) body (Spells R)) → Looks true (λ x. same x k) (level k body n) (level k body) (Spells (The k ▹ R))
level_looks {A} {e} {T} {R} k body n word deeper = record { here = λ s. by n deeper s; some = begun (token k) refl }
  where
    begun : (t : Lexeme) → t.kind ≡ k → (cs : List Lexeme) × Spells (The k ▹ R) cs
    begun t kind = (t ∷ word.0, spells_drop (t ∷ []) word.0 (spells_one k (t ∷ []) (t, kind, refl)) word.1)

    shut : (f : ParseStop) (s : Place) → (the k s ≡ refused f) ⊎ ((t : Lexeme) × (v : Place) × (the k s ≡ got t v) × (◌≡◌ {A = Read A} (refused (TooNested t.span)) (refused f))) → Halts (λ x. same x k) (level k body) (Spells (The k ▹ R)) s f
    shut f s (inl none) =
        first_stops (λ x. same x k) k (level k body) (Spells (The k ▹ R)) s f (begun (token k) refl) (λ m t ws other. level_missed k body m s.before t ws other) (λ t other. other) (missed k s f none)
    shut f s (inr (t, v, read, none)) =
        let is : TooNested t.span ≡ f = cc in
        let p = ((the_law k).sound s t v read).0 in
        subst (Halts (λ x. same x k) (level k body) (Spells (The k ▹ R)) s) is ([], t, p.0, p.2, refl, (word.0, (begun t p.1).1))

    no_level : (s : Place) (a : A) (u : Place) → (the k s >>= λ t v. refused (TooNested t.span)) ≡ got a u → ⊥
    no_level s a u h = let p = bind_got (the k s) (λ t v. refused (TooNested t.span)) a u h in let bad = p.3 in absurd (cc)

    open_more : (d : ℕ) (one : Looks e T (body d) body (Spells R)) (j : ℕ × (Place × Lexeme)) (w : Place) → Refused (level_over body j.0 j.1.1 w) ⊎ ((i : ℕ) × (level_over body j.0 j.1.1 w ≡ body i w))
    open_more d one j w = cases j.0
      where
        cases : (m : ℕ) → Refused (level_over body m j.1.1 w) ⊎ ((i : ℕ) × (level_over body m j.1.1 w ≡ body i w))
        cases zero = inl (TooNested j.1.1.span, refl)
        cases (suc m) = inr (m, refl)

    by : (m : ℕ) → ((d : ℕ) → m ≡ suc d → Looks e T (body d) body (Spells R)) → (s : Place) → At true (λ x. same x k) (level k body m) (level k body) (Spells (The k ▹ R)) s
    by zero deep s = record {
      gives = λ a u h. absurd (no_level s a u h);
      stops = λ f h. shut f s (bind_stops (the k s) (λ t v. refused (TooNested t.span)) f h);
    }
    by (suc d) deep s =
        let one = deep d refl in
        bind_at (λ x t u. body d u) (λ m x t u. level_over body m t u) s ((token_looks k).here s) (λ t v h. alike {q = body} refl (open_more d one) (one.here v)) one.some spells_drop (λ is. inl refl) (λ h. h) (inl refl)

pub alike_looks : {A I J : Type 0} {e : Bool} {T : TokenKind → Bool} {r r' : Reader A} {q : I → Reader A} {q' : J → Reader A} {L : Language} → ((s : Place) → r' s ≡ r s) → ((j : J) (v : Place) → (i : I) × (q' j v ≡ q i v))
    → Looks e T r q L → Looks e T r' q' L
alike_looks same others one = record { here = λ s. alike (same s) (λ j v. inr (others j v)) (one.here s); some = one.some }

pub wider_looks : {A I : Type 0} {e : Bool} {T T' : TokenKind → Bool} {r : Reader A} {q : I → Reader A} {L M : Language} → ((cs : List Lexeme) → L cs → M cs) → ((k : TokenKind) → T' k ≡ false → T k ≡ false) → Looks e T' r q L → Looks e T r q M
wider_looks to first one = record { here = λ s. wider to (first (kind_at s)) (one.here s); some = (one.some.0, to one.some.0 one.some.1) }

-- in brackets
pub bracket_level : {A : Type 0} (k l : TokenKind) (r : ℕ → Reader A) (m : ℕ) (v : Place) → bracket k l r m v ≡ level k (λ d. r d ◂ the l) m v
bracket_level k l r zero v = bracket_zero k l r v
bracket_level k l r (suc m) v = bracket_deep k l r m v

pub bracket_looks : {A : Type 0} {e : Bool} {T : TokenKind → Bool} {r : ℕ → Reader A} {R : Rule A} (k l : TokenKind) (n : ℕ) → (cs : List Lexeme) × Spells R cs → ((d : ℕ) → n ≡ suc d → Looks e T (r d) r (Spells R))
    → Looks true (λ x. same x k) (bracket k l r n) (bracket k l r) (Spells (The k ▹ (R ◃ The l)))
bracket_looks {r = r} {R = R} k l n word deeper =
    alike_looks (bracket_level k l r n) (λ m v. (m, bracket_level k l r m v))
    (level_looks {R = R ◃ The l} k (λ d. r d ◂ the l) n (word.0 ++ token l ∷ [], spells_keep word.0 (token l ∷ []) word.1 (spells_one l (token l ∷ []) (token l, refl, refl))) (λ d is. last_keep_looks (deeper d is) (token_looks l)))
