use Rattle.std.proofs.Common.{◌≡◌, ◌∙◌, ◌&&◌, sym, ap, map, filter, drop, arith}
use Rattle.locus_ids.specs.Sites.{has}
use Rattle.role_steps.specs.Views.{all_groups, pack_sites}
use Rattle.role_steps.specs.Tables.{with_row}
use Rattle.role_steps.specs.Adoption.{table_group}
use Rattle.role_steps.specs.Epochs.{is_sync_site}
use Rattle.role_steps.specs.Reports.{new_table}
use Rattle.site_tables.proofs.Served.{filter_both, table_put, table_skipped}
use Rattle.site_tables.proofs.starting.start_tables.Goals as goal

pub loop-group-preserved-in-Continue-1 : goal.loop-group-preserved-in-Continue-1
loop-group-preserved-in-Continue-1 c = c.in_ok-put.ensures.ok ∙ (ap (λ t. with_row table_group t c.loop-group.tables) c.new.ensures ∙ table_put (λ g. has (pack_sites c.args.frame.now.config g) c.args.frame.now.me && is_sync_site c.args.frame.now.config c.args.frame.now.me c.args.frame.now.members g) c.loop-group.group c.loop-group.tables (omega arith) (omega arith) (sym c.is_served.ensures ∙ c.if-is_served.true) c.loop-group.invariant)

pub loop-group-preserved : goal.loop-group-preserved
loop-group-preserved c = table_skipped (λ g. has (pack_sites c.args.frame.now.config g) c.args.frame.now.me && is_sync_site c.args.frame.now.config c.args.frame.now.me c.args.frame.now.members g) c.loop-group.group c.loop-group.tables (omega arith) (omega arith) (sym c.is_served.ensures ∙ c.if-is_served.false) c.loop-group.invariant

pub returns : goal.returns
returns c =
    let z : c.loop-group.group ≡ 0 = omega arith in
    c.loop-group.invariant ∙ (ap (λ n. map new_table (filter (λ g. has (pack_sites c.args.frame.now.config g) c.args.frame.now.me && is_sync_site c.args.frame.now.config c.args.frame.now.me c.args.frame.now.members g) (drop n all_groups))) z ∙ sym (ap (map new_table) (filter_both (is_sync_site c.args.frame.now.config c.args.frame.now.me c.args.frame.now.members) (λ g. has (pack_sites c.args.frame.now.config g) c.args.frame.now.me) all_groups)))
