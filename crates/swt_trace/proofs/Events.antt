-- Events of the program, and those of the machine that they stand for.
use Rattle.std.proofs.Common.{◌≡◌, refl, List, [], ◌∷◌, map}
use Rattle.task_code.specs.declared.event.Event.{Event}
use Rattle.task_code.specs.declared.event.Event.TheVariants.{Back, Begin, End}
use Rattle.task_code.specs.View.{event_view}

-- events are told by what they stand for
same_event : (e f : Event) → event_view e ≡ event_view f → e ≡ f
same_event (Begin v i) (Begin w j) e = (let p : v ≡ w = cc in let q : i ≡ j = cc in (λ k. Begin (p k) (q k)))
same_event (End v i) (End w j) e = (let p : v ≡ w = cc in let q : i ≡ j = cc in (λ k. End (p k) (q k)))
same_event (Back v i) (Back w j) e = (let p : v ≡ w = cc in let q : i ≡ j = cc in (λ k. Back (p k) (q k)))
same_event (Begin v i) (End w j) e = absurd (cc (e))
same_event (Begin v i) (Back w j) e = absurd (cc (e))
same_event (End v i) (Begin w j) e = absurd (cc (e))
same_event (End v i) (Back w j) e = absurd (cc (e))
same_event (Back v i) (Begin w j) e = absurd (cc (e))
same_event (Back v i) (End w j) e = absurd (cc (e))

pub same_events : (es fs : List Event) → map event_view es ≡ map event_view fs → es ≡ fs
same_events [] [] e = refl
same_events [] (g ∷ fs) e = absurd (cc (e))
same_events (f ∷ es) [] e = absurd (cc (e))
same_events (f ∷ es) (g ∷ fs) e =
    let first : event_view f ≡ event_view g = cc in
    let rest : map event_view es ≡ map event_view fs = cc in
    let one = same_event f g first in
    let more = same_events es fs rest in
    (λ k. one k ∷ more k)
