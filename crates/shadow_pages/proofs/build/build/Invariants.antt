use Rattle.std.proofs.Common.{◌≡◌, ◌+◌, length}
use Rattle.shadow_pages.specs.Pages.{AreWritten}
use Rattle.shadow_pages.proofs.build.build.Given as goal

abbrev pub invariant-loop-i : goal.invariant-loop-i
invariant-loop-i l = record {
  len : length l.made.items + l.fn.span.first ≡ l.i;
  made : AreWritten (record { size = l.w.size; pages = l.pages }) l.w.at l.w.bytes.now l.handed l.fn.span.first l.made.items;
}
