use Rattle.std.proofs.Common.{◌≡◌, ◌≤◌, take}
use Rattle.file_content.specs.Pages.{pages_needed}
use Rattle.audit_tree.proofs.operating.few_needed.Given as goal

abbrev pub invariant-loop-page : goal.invariant-loop-page
invariant-loop-page l = record {
  few : l.needed ≤ l.page-index;
  counted : l.needed ≡ pages_needed (take l.page-index l.pages) l.changed;
}
