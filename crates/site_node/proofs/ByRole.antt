-- A packet of the epoch is taken by its role.
use Rattle.std.proofs.Common.{◌≡◌, ℕ, List, append-nil, refl, sym, subst}
use Rattle.wire_messages.specs.declared.body.Body.{Body}
use Rattle.wire_messages.specs.declared.body.Body.TheVariants as body
use Rattle.role_steps.specs.Views.{Frame, SiteView, Outcome}
use Rattle.role_steps.specs.Tables.{row, first_that}
use Rattle.role_steps.specs.Adoption.{table_group}
use Rattle.role_steps.specs.declared.synchronizing.SyncTable.{SyncTable}
use Rattle.locus_ids.specs.declared.ids.Serial.{Serial}
use Rattle.std.proofs.Common.{Option, None, Some}
use Rattle.the_run.specs.Steps.{takes_inside, at_table, at_table_of, at_table_with, is_opened_in}
use Rattle.role_steps.specs.Reports.{on_report, on_open, on_look, on_closed, on_have}
use Rattle.role_steps.specs.Opens.{on_opened}
use Rattle.site_parts.specs.of_site_tables.Tables.{tables_at, tables_at_of, tables_with}
use Rattle.role_steps.specs.Views.{within}
use Rattle.site_node.specs.Roles.{answered, role_takes, with_tables, without_report}
use Rattle.site_parts.specs.Roles.{role_of}
use Rattle.wire_messages.specs.Outboxes.{Outgoing}
use Rattle.site_node.specs.Views.{view_of, Works}
use Rattle.site_node.specs.declared.node.SiteNode.{SiteNode}
use Rattle.site_parts.specs.declared.roles.Role.TheVariants as role

table_of : (g : SyncTable → Outcome SyncTable) (o : Option SyncTable) (v : SiteView) → at_table_of g o v ≡ within (with_tables v) (tables_at_of g o v.tables)
table_of g None v = refl
table_of g (Some t) v = refl

table_at : (g : SyncTable → Outcome SyncTable) (group : ℕ) (v : SiteView) → at_table g group v ≡ within (with_tables v) (tables_at g group v.tables)
table_at g group v = table_of g (row table_group group v.tables) v

table_with : (g : SyncTable → Outcome SyncTable) (inst : Serial) (v : SiteView) → at_table_with g inst v ≡ within (with_tables v) (tables_with g inst v.tables)
table_with g inst v = table_of g (first_that (is_opened_in inst) v.tables) v

pub takes_by_role : (f : Frame) (from : ℕ) (b : Body) (v : SiteView) → takes_inside f from b v ≡ role_takes (role_of b) f from b v
takes_by_role f from (body.Report group copies) v = table_at (on_report f from copies) group v
takes_by_role f from (body.Open serial call process request file how) v = table_at (on_open f from (record { serial = serial; call = call; process = process; request = request; file = file; how = how })) file.group v
takes_by_role f from (body.Opened inst answer) v = table_with (on_opened f inst answer) inst v
takes_by_role f from (body.Closed inst made) v = table_with (on_closed f from inst made) inst v
takes_by_role f from (body.Look call process request take file what) v = table_at (on_look f from (record { call = call; process = process; request = request; take = take; file = file; what = what })) file.group v
takes_by_role f from (body.Have file stamp) v = table_at (on_have from file stamp) file.group v
takes_by_role f from x v = refl

reports_left : (b : Body) (n : SiteNode) (image : List ℕ) → view_of (record n { epochs = answered b n.epochs }) image ≡ without_report b (view_of n image)
reports_left (body.ReportOk group) n image = refl
reports_left _ n image = refl

pub reports_work : (f : Frame) (from : ℕ) (b : Body) (old new : SiteNode) (a : Outgoing) → new ≡ record old { epochs = answered b old.epochs } → Works (role_takes role.Epochs f from b) old new a a
reports_work f from b old new a e = subst (λ (n : SiteNode). Works (role_takes role.Epochs f from b) old n a a) (sym e) (record {
  gives = λ image h. record { view = reports_left b old image; packets = sym (append-nil a.packets); records = sym (append-nil a.records) };
  packs = refl;
  config = refl;
  me = refl;
})
