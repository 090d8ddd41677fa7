-- What each role of a site takes of the packets of its epoch.
use Rattle.std.specs.Prelude.{ℕ, List, [], Option, None}
use Rattle.locus_ids.specs.declared.ids.FileId.{FileId}
use Rattle.locus_ids.specs.declared.ids.Stamp.{Stamp}
use Rattle.wire_messages.specs.declared.body.Body.{Body}
use Rattle.wire_messages.specs.declared.body.Granted.{Granted}
use Rattle.wire_messages.specs.declared.body.Body.TheVariants as body
use Rattle.role_steps.specs.Tables.{without_row}
use Rattle.role_steps.specs.Views.{Frame, Users, SiteView, Outcome, quiet, within}
use Rattle.role_steps.specs.Storage.{copy_of}
use Rattle.role_steps.specs.Pulling.{on_notify, on_page, on_delta}
use Rattle.role_steps.specs.Using.{on_open_done, on_op_done, on_as_held, on_close_done, on_look_done}
use Rattle.role_steps.specs.Epochs.{with_users}
use Rattle.role_steps.specs.Adoption.{with_store}
use Rattle.role_steps.specs.Mends.{kept_stamps}
use Rattle.role_steps.specs.declared.copies.FileCopy.{FileCopy}
use Rattle.role_steps.specs.declared.pulls.Pull.{Pull}
use Rattle.role_steps.specs.declared.synchronizing.SyncTable.{SyncTable}
use Rattle.the_run.specs.Steps.{with_pulls}
use Rattle.merge_protocol.specs.Parts.{EpochPart}
use Rattle.site_parts.specs.of_site_tables.Tables.{tables_take}
use Rattle.site_parts.specs.Roles.{mending_by, store_take}
use Rattle.site_parts.specs.declared.roles.Role.{Role}
use Rattle.site_parts.specs.declared.roles.Role.TheVariants as role

-- ---- what a role takes ----

abbrev pub users_take : Frame → (FileId → List Stamp) → Body → Users → Outcome Users
users_take f all (body.OpenDone serial answer) u = on_open_done f all serial answer u
users_take f all (body.OpDone serial n result) u = on_op_done f serial n result u
users_take f all (body.AsHeld serial n len) u = on_as_held f serial n u
users_take f all (body.CloseDone serial answer) u = on_close_done f serial answer u
users_take f all (body.LookDone call request take answer) u = on_look_done f call request take answer u
users_take f all _ u = quiet u

abbrev pub pulls_take : Frame → (FileId → Option FileCopy) → ℕ → Body → List Pull → Outcome (List Pull)
pulls_take f own from (body.Notify file kind set size stamp vector holder) pulls =
    on_notify f from (own file) (record { file = file; kind = kind; set = set; size = size; stamp = stamp; vector = vector; holder = holder; base = None; wanted = None; content = [] }) pulls
pulls_take f own from (body.Page file stamp page bytes) pulls = on_page f file stamp page bytes pulls
pulls_take f own from (body.Delta file wanted pages) pulls = on_delta f (own file) file wanted pages pulls
pulls_take f own from _ pulls = quiet pulls

abbrev pub without_report : Body → SiteView → SiteView
without_report (body.ReportOk group) v = record v { reports = without_row (λ g. g) group v.reports }
without_report _ v = v

-- ---- by role ----

abbrev pub with_tables : SiteView → List SyncTable → SiteView
with_tables v ts = record v { tables = ts }

abbrev pub role_takes : Role → Frame → ℕ → Body → SiteView → Outcome SiteView
role_takes role.Tables f from b v = within (with_tables v) (tables_take f from b v.tables)
role_takes role.Store f from b v = within (with_store v) (store_take f (mending_by v.tables v.users v.store) from b v.store)
role_takes role.Users f from b v = within (with_users v) (users_take f (kept_stamps v) b v.users)
role_takes role.Pulls f from b v = within (with_pulls v) (pulls_take f (copy_of v.store) from b v.pulls)
role_takes role.Epochs f from b v = quiet (without_report b v)
role_takes role.Nobody f from b v = quiet v

-- an answer to an open
abbrev pub opened_at : Frame → ℕ → Granted → SiteView → Outcome SiteView
opened_at f serial answer v = within (with_users v) (on_open_done f (kept_stamps v) serial answer v.users)

-- the site's place in its epoch, once a report is answered
abbrev pub answered : Body → EpochPart → EpochPart
answered (body.ReportOk group) e = record e { reports = without_row (λ g. g) group e.reports }
answered _ e = e
