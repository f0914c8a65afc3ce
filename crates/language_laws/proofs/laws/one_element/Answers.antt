use Rattle.language_laws.proofs.Ever as law
use Rattle.language_laws.proofs.laws.one_element.Goals as goal

pub returns : goal.returns
returns c = λ s w h a k u v x f g. law.one_element s w h a k u v x f g
