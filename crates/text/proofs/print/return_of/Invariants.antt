use Rattle.std.proofs.Common.{◌≡◌, ◌+◌, ◌*◌, ◌++◌, ◌≤◌, length}
use Rattle.text.specs.Print.{title, lines_to}
use Rattle.text.proofs.print.return_of.Given as goal

abbrev pub invariant-loop-i : goal.invariant-loop-i
invariant-loop-i l = record {
  text : l.text.items ≡ title ++ lines_to l.b l.i;
  short : length l.text.items ≤ 56 + 160 * l.i;
}
