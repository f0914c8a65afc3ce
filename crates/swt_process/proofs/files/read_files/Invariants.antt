use Rattle.std.proofs.Common.{◌≡◌, length, take, reverse}
use Rattle.host.specs.Events.{asked, changes, inputs, links, reads}
use Rattle.swt_command.specs.Files.{contents}
use Rattle.swt_process.specs.Reads.{AreRead}
use Rattle.swt_process.proofs.files.read_files.Given as goal

abbrev pub invariant-loop-place : goal.invariant-loop-place
invariant-loop-place g l = record {
  read : AreRead l.line (take l.place l.names) (contents l.files.items) (reverse (reads (g.H.Host.history l.host)));
  count : length l.files.items ≡ l.place;
  known : l.known.items ≡ inputs (g.H.Host.history l.host);
  asked : asked (g.H.Host.history l.host) ≡ asked (g.H.Host.history l.fn.host);
  links : links (g.H.Host.history l.host) ≡ links (g.H.Host.history l.fn.host);
  changes : changes (g.H.Host.history l.host) ≡ changes (g.H.Host.history l.fn.host);
}
