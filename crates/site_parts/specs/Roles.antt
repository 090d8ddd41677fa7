-- Which role of a site takes a packet of its epoch, and what the storage site makes of one.
use Rattle.std.specs.Prelude.{ℕ, List}
use Rattle.locus_ids.specs.declared.ids.Serial.{Serial}
use Rattle.wire_messages.specs.declared.body.Body.{Body}
use Rattle.wire_messages.specs.declared.body.Body.TheVariants as body
use Rattle.role_steps.specs.Tables.{row, first_that}
use Rattle.role_steps.specs.Views.{Frame, Store, Users, Outcome, quiet}
use Rattle.role_steps.specs.Storage.{instance_of, on_open_ss, on_close, on_closed_ok, on_look_ss, on_pull, on_want}
use Rattle.role_steps.specs.Operations.{on_op, on_read_held}
use Rattle.role_steps.specs.OperationEffects.{Mending}
use Rattle.role_steps.specs.Adoption.{table_group}
use Rattle.role_steps.specs.Mends.{brought_by, is_mend_in, vectors_of}
use Rattle.role_steps.specs.declared.synchronizing.SyncTable.{SyncTable}
use Rattle.run_laws.specs.of_the_run.Steps.{from_user, group_of}
use Rattle.site_parts.specs.declared.roles.Role.{Role}
use Rattle.site_parts.specs.declared.roles.Role.TheVariants as role

abbrev pub role_of : Body → Role
role_of (body.Report group copies) = role.Tables
role_of (body.ReportOk group) = role.Epochs
role_of (body.Open serial call process request file how) = role.Tables
role_of (body.OpenSs inst file mode set kind base vector parents) = role.Store
role_of (body.Opened inst answer) = role.Tables
role_of (body.OpenDone serial answer) = role.Users
role_of (body.Op serial n o seen) = role.Store
role_of (body.OpDone serial n result) = role.Users
role_of (body.ReadHeld serial n at len) = role.Store
role_of (body.AsHeld serial n len) = role.Users
role_of (body.Close serial) = role.Store
role_of (body.Closed inst made) = role.Tables
role_of (body.ClosedOk inst) = role.Store
role_of (body.CloseDone serial answer) = role.Users
role_of (body.Look call process request take file what) = role.Tables
role_of (body.LookSs us call process request take file what serve) = role.Store
role_of (body.LookDone call request take answer) = role.Users
role_of (body.Notify file kind set size stamp vector holder) = role.Pulls
role_of (body.Pull file stamp page) = role.Store
role_of (body.Page file stamp page bytes) = role.Pulls
role_of (body.Have file stamp) = role.Tables
role_of (body.Want file wanted own) = role.Store
role_of (body.Delta file wanted pages) = role.Pulls
role_of _ = role.Nobody

-- the mend that an operation on this instance works for, by the site's tables, its using site and its store
abbrev pub mending_by : List SyncTable → Users → Store → Serial → Mending
mending_by tables users s inst = record {
  contents = brought_by (first_that (is_mend_in (group_of (instance_of s inst))) users.waiting);
  kept = vectors_of (row table_group (group_of (instance_of s inst)) tables);
}

abbrev pub store_take : Frame → (Serial → Mending) → ℕ → Body → Store → Outcome Store
store_take f m from (body.OpenSs inst file mode set kind base vector parents) s =
    on_open_ss f (record { inst = inst; file = file; mode = mode; set = set; kind = kind; base = base; vector = vector; parents = parents }) s
store_take f m from (body.Op serial n o seen) s = on_op f (m (from_user from serial)) (from_user from serial) n o seen s
store_take f m from (body.ReadHeld serial n at len) s = on_read_held f (from_user from serial) n at len s
store_take f m from (body.Close serial) s = on_close f (from_user from serial) s
store_take f m from (body.ClosedOk inst) s = on_closed_ok f inst s
store_take f m from (body.LookSs us call process request take file what serve) s =
    on_look_ss f us (record { call = call; process = process; request = request; take = take; file = file; what = what }) serve s
store_take f m from (body.Pull file stamp page) s = on_pull f from file stamp page s
store_take f m from (body.Want file wanted own) s = on_want f from file wanted own s
store_take f m from _ s = quiet s
