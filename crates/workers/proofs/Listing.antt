-- A list to which the items come one by one that can begin from now on.
use Rattle.std.proofs.Common.{◌≡◌, ◌⊎◌, ◌∙◌, inl, inr, ℕ, ◌+◌, ◌<◌, List, [], ◌∷◌, ◌++◌, All, Some, OnErr, OnOk, Result, Ok, Err, ap, get_or, arith, length, map, refl, slice_get, sym, take}
use Rattle.std.proofs.lemmas.List.{append-nil, append_assoc, map-append, take_all, take_more}
use Rattle.std.proofs.lemmas.Option.{get_or_from_slice_get}
use Rattle.board.specs.Board.{Seen}
use Rattle.pool.specs.declared.offers.ReadyItem.{ReadyItem}
use Rattle.workers.specs.Offering.{AreListed, IsOffer}
use Rattle.workers.proofs.Added.{all_more}

-- so many of them are there
pub record IsListedTo (b : Seen) (old new : List ReadyItem) (k : ℕ) : Type 0 where
  pub more : List ReadyItem
  pub is : new ≡ old ++ more
  pub numbers : map (λ (f : ReadyItem). f.number) more ≡ take k b.newly
  pub offers : All (IsOffer b) more

pub none_listed : (b : Seen) (old : List ReadyItem) → IsListedTo b old old 0
none_listed b old = record { more = []; is = sym (append-nil old); numbers = refl; offers = λ k d lt. absurd (omega arith) }

pub one_listed : (b : Seen) (old mid new : List ReadyItem) (k : ℕ) (f : ReadyItem) → k < length b.newly → IsListedTo b old mid k → new ≡ mid ++ f ∷ []
    → slice_get b.newly k ≡ Some f.number → IsOffer b f → IsListedTo b old new (k + 1)
one_listed b old mid new k f lt l is at offer =
    let number : ReadyItem → ℕ = λ (x : ReadyItem). x.number in
    let here : get_or b.newly k 0 ≡ f.number = get_or_from_slice_get b.newly k f.number 0 at in
    record {
      more = l.more ++ f ∷ [];
      is = is ∙ (ap (λ (x : List ReadyItem). x ++ f ∷ []) l.is ∙ append_assoc old l.more (f ∷ []));
      numbers = map-append number l.more (f ∷ []) ∙ (ap (λ (x : List ℕ). x ++ f.number ∷ []) l.numbers ∙ (ap (λ (n : ℕ). take k b.newly ++ n ∷ []) (sym here) ∙ sym (take_more b.newly k 0 lt)));
      offers = all_more (IsOffer b) l.more (l.more ++ f ∷ []) f refl l.offers offer;
    }

pub all_listed : (b : Seen) (old new : List ReadyItem) (k : ℕ) → k ≡ length b.newly → IsListedTo b old new k → AreListed b old new
all_listed b old new k whole l = (l.more, l.is, l.numbers ∙ take_all k b.newly (omega (arith, whole)), l.offers)

-- what is so at either answer
pub either_way : {X Y P Q : Type 0} (r : Result X Y) → OnOk r P → OnErr r Q → P ⊎ Q
either_way (Ok x) p q = inl p
either_way (Err y) p q = inr q
