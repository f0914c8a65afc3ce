use Rattle.code_laws.proofs.Accepted.{accepted_code}
use Rattle.compile.proofs.Whole.{exact_rights, headline_emitted, whole_emitted}
use Rattle.compile.proofs.emitted_code.Goals as goal

pub returns-clause-stands : goal.returns-clause-stands
returns-clause-stands g = λ t tree fs ds C place typed single kinds declared emitted. accepted_code t tree fs ds C place emitted.laid

pub returns-clause-whole : goal.returns-clause-whole
returns-clause-whole g = λ t tree fs ds C place typed single kinds declared emitted. whole_emitted t tree fs ds C place typed single kinds declared emitted

pub returns-clause-exact : goal.returns-clause-exact
returns-clause-exact g = λ t tree fs ds C emitted. exact_rights C emitted.rights

pub returns-clause-headline : goal.returns-clause-headline
returns-clause-headline g = λ t tree fs ds C place typed single kinds declared emitted. headline_emitted t tree fs ds C place typed single kinds declared emitted
