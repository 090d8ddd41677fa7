-- What happens at one of the synchronization tables of a site, among all of them.
use Rattle.std.specs.Prelude.{ℕ, List, Option, None, Some}
use Rattle.locus_ids.specs.declared.ids.FileId.{FileId}
use Rattle.locus_ids.specs.declared.ids.Serial.{Serial}
use Rattle.locus_ids.specs.declared.ids.Stamp.{Stamp}
use Rattle.wire_messages.specs.declared.body.Body.{Body}
use Rattle.wire_messages.specs.declared.body.Body.TheVariants as body
use Rattle.role_steps.specs.Tables.{row, with_row, first_that}
use Rattle.role_steps.specs.Views.{Frame, Outcome, quiet, within}
use Rattle.role_steps.specs.Versions.{file_row}
use Rattle.role_steps.specs.Opens.{on_opened}
use Rattle.role_steps.specs.Reports.{on_report, on_open, on_look, on_closed, on_have, on_have_of}
use Rattle.role_steps.specs.Adoption.{table_group}
use Rattle.role_steps.specs.declared.synchronizing.SyncTable.{SyncTable}
use Rattle.the_run.specs.Steps.{is_opened_in}

abbrev pub in_tables : List SyncTable → SyncTable → List SyncTable
in_tables ts now = with_row table_group now ts

abbrev pub tables_at_of : (SyncTable → Outcome SyncTable) → Option SyncTable → List SyncTable → Outcome (List SyncTable)
tables_at_of g None ts = quiet ts
tables_at_of g (Some t) ts = within (in_tables ts) (g t)

-- at the table of a group
abbrev pub tables_at : (SyncTable → Outcome SyncTable) → ℕ → List SyncTable → Outcome (List SyncTable)
tables_at g group ts = tables_at_of g (row table_group group ts) ts

-- at the first table that was asked for the instance
abbrev pub tables_with : (SyncTable → Outcome SyncTable) → Serial → List SyncTable → Outcome (List SyncTable)
tables_with g inst ts = tables_at_of g (first_that (is_opened_in inst) ts) ts

abbrev pub group_in : Option SyncTable → Option ℕ
group_in None = None
group_in (Some t) = Some t.group

-- what comes to a synchronization site in an epoch
abbrev pub tables_take : Frame → ℕ → Body → List SyncTable → Outcome (List SyncTable)
tables_take f from (body.Report group copies) ts = tables_at (on_report f from copies) group ts
tables_take f from (body.Open serial call process request file how) ts =
    tables_at (on_open f from (record { serial = serial; call = call; process = process; request = request; file = file; how = how })) file.group ts
tables_take f from (body.Opened inst answer) ts = tables_with (on_opened f inst answer) inst ts
tables_take f from (body.Closed inst made) ts = tables_with (on_closed f from inst made) inst ts
tables_take f from (body.Look call process request take file what) ts =
    tables_at (on_look f from (record { call = call; process = process; request = request; take = take; file = file; what = what })) file.group ts
tables_take f from (body.Have file stamp) ts = tables_at (on_have from file stamp) file.group ts
tables_take f from _ ts = quiet ts

-- the site holds this version of the file itself
abbrev pub noting_own_of : ℕ → FileId → Stamp → Option SyncTable → List SyncTable → List SyncTable
noting_own_of me file stamp None ts = ts
noting_own_of me file stamp (Some t) ts = in_tables ts (on_have_of me stamp (file_row t file.ino) t)

abbrev pub noting_own : ℕ → FileId → Stamp → List SyncTable → List SyncTable
noting_own me file stamp ts = noting_own_of me file stamp (row table_group file.group ts) ts
