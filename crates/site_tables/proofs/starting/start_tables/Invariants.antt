use Rattle.std.proofs.Common.{◌≡◌, ◌&&◌, drop, filter, map}
use Rattle.locus_ids.specs.Sites.{has}
use Rattle.role_steps.specs.Views.{all_groups, pack_sites}
use Rattle.role_steps.specs.Epochs.{is_sync_site}
use Rattle.role_steps.specs.Reports.{new_table}
use Rattle.site_tables.proofs.starting.start_tables.Given as goal

abbrev pub invariant-loop-group : goal.invariant-loop-group
invariant-loop-group l = l.tables ≡ map new_table (filter (λ g. has (pack_sites l.frame.config g) l.frame.me && is_sync_site l.frame.config l.frame.me l.frame.members g) (drop l.group all_groups))
