use Rattle.std.proofs.Common.{◌≡◌, [], None}
use Rattle.host.specs.Events.{asked, changes, inputs, links, reads, words}
use Rattle.swt_process.proofs.words.read_words.Given as goal

abbrev pub invariant-loop-count : goal.invariant-loop-count
invariant-loop-count g l = record {
  words : words (g.H.Host.history l.host) ≡ l.all.items;
  some : asked (g.H.Host.history l.host) ≡ None;
  reads : reads (g.H.Host.history l.host) ≡ [];
  links : links (g.H.Host.history l.host) ≡ [];
  inputs : inputs (g.H.Host.history l.host) ≡ [];
  changes : changes (g.H.Host.history l.host) ≡ [];
}
