-- Histories in which nothing was changed.
use Rattle.std.proofs.Common.{◌≡◌, refl, ℕ, List, [], ◌∷◌, true}
use Rattle.host.specs.Events.{Event, Argument, Followed, LedTo, Named, Streamed, Opened, Known, Got, Unopened, Broken, Began, Emptied, Put, Renamed, Removed, Failed, changes, given, is_safe, replaced}

-- nothing was given
pub none_given : (h : List Event) → changes h ≡ [] → given h ≡ []
none_given [] e = refl
none_given (Argument w ∷ h) e = none_given h e
none_given (Followed n ∷ h) e = none_given h e
none_given (LedTo f ∷ h) e = none_given h e
none_given (Named n f ∷ h) e = none_given h e
none_given (Streamed s f ∷ h) e = none_given h e
none_given (Opened n ∷ h) e = none_given h e
none_given (Known f ∷ h) e = none_given h e
none_given (Got b ∷ h) e = none_given h e
none_given (Unopened n ∷ h) e = none_given h e
none_given (Broken ∷ h) e = none_given h e
none_given (Began n ∷ h) e = absurd (cc (e))
none_given (Emptied n ∷ h) e = absurd (cc (e))
none_given (Put b ∷ h) e = absurd (cc (e))
none_given (Renamed b n ∷ h) e = absurd (cc (e))
none_given (Removed n ∷ h) e = absurd (cc (e))
none_given (Failed ∷ h) e = none_given h e

-- and all is safe
pub none_unsafe : (name : List ℕ) (h : List Event) → changes h ≡ [] → is_safe name h ≡ true
none_unsafe name [] e = refl
none_unsafe name (Argument w ∷ h) e = none_unsafe name h e
none_unsafe name (Followed n ∷ h) e = none_unsafe name h e
none_unsafe name (LedTo f ∷ h) e = none_unsafe name h e
none_unsafe name (Named n f ∷ h) e = none_unsafe name h e
none_unsafe name (Streamed s f ∷ h) e = none_unsafe name h e
none_unsafe name (Opened n ∷ h) e = none_unsafe name h e
none_unsafe name (Known f ∷ h) e = none_unsafe name h e
none_unsafe name (Got b ∷ h) e = none_unsafe name h e
none_unsafe name (Unopened n ∷ h) e = none_unsafe name h e
none_unsafe name (Broken ∷ h) e = none_unsafe name h e
none_unsafe name (Began n ∷ h) e = absurd (cc (e))
none_unsafe name (Emptied n ∷ h) e = absurd (cc (e))
none_unsafe name (Put b ∷ h) e = absurd (cc (e))
none_unsafe name (Renamed b n ∷ h) e = absurd (cc (e))
none_unsafe name (Removed n ∷ h) e = absurd (cc (e))
none_unsafe name (Failed ∷ h) e = none_unsafe name h e

-- no name was given
pub none_replaced : (h : List Event) → changes h ≡ [] → replaced h ≡ []
none_replaced [] e = refl
none_replaced (Argument w ∷ h) e = none_replaced h e
none_replaced (Followed n ∷ h) e = none_replaced h e
none_replaced (LedTo f ∷ h) e = none_replaced h e
none_replaced (Named n f ∷ h) e = none_replaced h e
none_replaced (Streamed s f ∷ h) e = none_replaced h e
none_replaced (Opened n ∷ h) e = none_replaced h e
none_replaced (Known f ∷ h) e = none_replaced h e
none_replaced (Got b ∷ h) e = none_replaced h e
none_replaced (Unopened n ∷ h) e = none_replaced h e
none_replaced (Broken ∷ h) e = none_replaced h e
none_replaced (Began n ∷ h) e = absurd (cc (e))
none_replaced (Emptied n ∷ h) e = absurd (cc (e))
none_replaced (Put b ∷ h) e = absurd (cc (e))
none_replaced (Renamed b n ∷ h) e = absurd (cc (e))
none_replaced (Removed n ∷ h) e = absurd (cc (e))
none_replaced (Failed ∷ h) e = none_replaced h e
