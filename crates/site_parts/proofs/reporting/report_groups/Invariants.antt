use Rattle.std.proofs.Common.{◌≡◌, ◌++◌, ℕ, List, drop}
use Rattle.std.specs.List.{flat_map}
use Rattle.role_steps.specs.Views.{SiteView}
use Rattle.role_steps.specs.Epochs.{report_packets}
use Rattle.site_packs.specs.Copies.{copies_on}
use Rattle.site_packs.specs.Packs.{AreShown, groups_of}
use Rattle.site_parts.proofs.reporting.report_groups.Given as goal

abbrev pub invariant-loop-group : goal.invariant-loop-group
invariant-loop-group l = record {
  packets : (v : SiteView) (image : List ℕ) → AreShown l.packs.packs image → v.store.copies ≡ copies_on (groups_of l.packs) image → l.out.packets ++ flat_map (report_packets l.frame v) (drop l.group-index l.groups) ≡ l.initial.out.packets ++ flat_map (report_packets l.frame v) l.groups;
  records : l.out.records ≡ l.initial.out.records;
}
