-- A packet of an epoch, by the part of the site that takes it; and where a law by kinds is all that is asked of a part.
use Rattle.std.proofs.Common.{◌≡◌, ℕ, List, [], ◌∷◌, Option, None, refl}
use Rattle.role_steps.specs.of_wire_messages.declared.body.Body.{Body}
use Rattle.role_steps.specs.of_wire_messages.declared.body.Body.TheVariants as body
use Rattle.role_steps.specs.Own.{Every}
use Rattle.role_steps.specs.Tables.{row, first_that}
use Rattle.role_steps.specs.Views.{Frame, Store, Users, SiteView, Outcome, within, packet}
use Rattle.role_steps.specs.Reports.{on_report, on_open, on_look, on_closed, on_have}
use Rattle.role_steps.specs.Opens.{on_opened}
use Rattle.role_steps.specs.Storage.{copy_of, instance_of, on_open_ss, on_close, on_closed_ok, on_look_ss, on_pull, on_want}
use Rattle.role_steps.specs.Operations.{on_op, on_read_held}
use Rattle.role_steps.specs.Pulling.{on_notify, on_page, on_delta}
use Rattle.role_steps.specs.Using.{on_open_done, on_op_done, on_as_held, on_close_done, on_look_done}
use Rattle.role_steps.specs.Epochs.{with_users}
use Rattle.role_steps.specs.Adoption.{table_group, with_store}
use Rattle.role_steps.specs.Mends.{mending, kept_stamps}
use Rattle.role_steps.specs.declared.pulls.Pull.{Pull}
use Rattle.role_steps.specs.declared.synchronizing.SyncTable.{SyncTable}
use Rattle.the_run.specs.Steps.{from_user, group_of, at_table_of, is_opened_in, takes_inside, with_pulls}
use Rattle.the_run.specs.Kinds.{IsStoreAnswer}
use Rattle.the_run.specs.KindLaws.{Law, TablesKeep, TableAnswers, StoresKeep, VersionsKeep, ReadersKeep, UsersKeep, Part, TablePart}
use Rattle.the_run.proofs.Rows.{Found, row_found, first_found}
use Rattle.the_run.proofs.SyncWalks.{on_report_walk, on_open_walk, on_opened_walk, on_closed_walk, on_look_walk, on_have_walk}
use Rattle.the_run.proofs.RoleWalks.{on_open_ss_walk, on_close_walk, on_closed_ok_walk, on_op_walk, on_read_held_walk, on_look_ss_walk, on_pull_walk, on_want_walk, on_notify_walk, on_page_walk, on_delta_walk, on_open_done_walk, on_op_done_walk, on_as_held_walk, on_close_done_walk, on_look_done_walk}
use Rattle.the_run.specs.Roles.{IsForTable, IsForStore, IsForReader, IsForUser, IsForPull, ByRole}

pub by_role : (Q : Body → Outcome SiteView → Type 0) (f : Frame) (from : ℕ) (v : SiteView) → ByRole Q f from v → (x : Body) → Q x (takes_inside f from x v)
by_role Q f from v k (body.Report group copies) = k.tables _ tt
by_role Q f from v k (body.Open serial call process request file how) = k.tables _ tt
by_role Q f from v k (body.Opened inst answer) = k.tables _ tt
by_role Q f from v k (body.Closed inst made) = k.tables _ tt
by_role Q f from v k (body.Look call process request take file what) = k.tables _ tt
by_role Q f from v k (body.Have file stamp) = k.tables _ tt
by_role Q f from v k (body.OpenSs inst file mode set kind base vector parents) = k.stores _ tt
by_role Q f from v k (body.Op serial n o seen) = k.stores _ tt
by_role Q f from v k (body.ReadHeld serial n at len) = k.stores _ tt
by_role Q f from v k (body.Close serial) = k.stores _ tt
by_role Q f from v k (body.ClosedOk inst) = k.stores _ tt
by_role Q f from v k (body.LookSs us call process request take file what serve) = k.readers _ tt
by_role Q f from v k (body.Pull file stamp page) = k.readers _ tt
by_role Q f from v k (body.Want file wanted own) = k.readers _ tt
by_role Q f from v k (body.OpenDone serial answer) = k.users _ tt
by_role Q f from v k (body.OpDone serial n result) = k.users _ tt
by_role Q f from v k (body.AsHeld serial n len) = k.users _ tt
by_role Q f from v k (body.CloseDone serial answer) = k.users _ tt
by_role Q f from v k (body.LookDone call request take answer) = k.users _ tt
by_role Q f from v k (body.Notify file kind set size stamp vector holder) = k.pulls _ tt
by_role Q f from v k (body.Page file stamp page bytes) = k.pulls _ tt
by_role Q f from v k (body.Delta file wanted pages) = k.pulls _ tt
by_role Q f from v k (body.ReportOk group) = k.reported group
by_role Q f from v k x = k.forming x tt

every_so : {A : Type 0} (P : A → Type 0) → ((x : A) → P x) → (xs : List A) → Every P xs
every_so P h [] = tt
every_so P h (x ∷ xs) = (h x, every_so P h xs)

-- ---- a part of which a law by kinds is asked ----

module _ (Q : Body → Outcome SiteView → Type 0) (law : Law) (f : Frame) (from : ℕ) (v : SiteView) where
  -- the table that takes it is of the law, where all are
  pub tables_of : (keeps : TablesKeep law f) → TableAnswers law f from → Every law.table v.tables → ((x : Body) (g : SyncTable → Outcome SyncTable) (o : Option SyncTable) → IsForTable x → Found law.table o → ((t : SyncTable) → law.table t → TablePart law t (g t)) → Q x (at_table_of g o v)) →
      (x : Body) → IsForTable x → Q x (takes_inside f from x v)
  tables_of keeps back ok q (body.Report group copies) h = q _ (on_report f from copies) (row table_group group v.tables) tt (row_found law.table table_group group v.tables ok) (λ t k. on_report_walk law f keeps from copies t (back.reported t k) (keeps.looks t k))
  tables_of keeps back ok q (body.Open serial call process request file how) h =
      q _ (on_open f from (record { serial = serial; call = call; process = process; request = request; file = file; how = how })) (row table_group file.group v.tables) tt (row_found law.table table_group file.group v.tables ok) (λ t k. on_open_walk law f keeps from _ t (keeps.looks t k))
  tables_of keeps back ok q (body.Opened inst answer) h = q _ (on_opened f inst answer) (first_that (is_opened_in inst) v.tables) tt (first_found law.table (is_opened_in inst) v.tables ok) (λ t k. on_opened_walk law f keeps inst answer t (keeps.looks t k))
  tables_of keeps back ok q (body.Closed inst made) h = q _ (on_closed f from inst made) (first_that (is_opened_in inst) v.tables) tt (first_found law.table (is_opened_in inst) v.tables ok) (λ t k. on_closed_walk law f keeps from back inst made t (keeps.looks t k))
  tables_of keeps back ok q (body.Look call process request take file what) h =
      q _ (on_look f from (record { call = call; process = process; request = request; take = take; file = file; what = what })) (row table_group file.group v.tables) tt (row_found law.table table_group file.group v.tables ok) (λ t k. on_look_walk law f keeps from _ t (keeps.looks t k))
  tables_of keeps back ok q (body.Have file stamp) h = q _ (on_have from file stamp) (row table_group file.group v.tables) tt (row_found law.table table_group file.group v.tables ok) (λ t k. on_have_walk law f keeps from file stamp t (keeps.looks t k))
  tables_of keeps back ok q _ h = absurd h

  pub tables_by : (keeps : TablesKeep law f) → TableAnswers law f from → ((t : SyncTable) → law.table t) → ((x : Body) (g : SyncTable → Outcome SyncTable) (o : Option SyncTable) → IsForTable x → ((t : SyncTable) → TablePart law t (g t)) → Q x (at_table_of g o v)) →
      (x : Body) → IsForTable x → Q x (takes_inside f from x v)
  tables_by keeps back all q = tables_of keeps back (every_so law.table all v.tables) (λ x g o is found h. q x g o is (λ t. h t (all t)))

  pub stores_by : (keeps : StoresKeep law f) → VersionsKeep law → ((x : Body) (o : Outcome Store) → IsForStore x → Part law o → Q x (within (with_store v) o)) → (x : Body) → IsForStore x → Q x (takes_inside f from x v)
  stores_by keeps versions q (body.OpenSs inst file mode set kind base vector parents) h = q _ (on_open_ss f (record { inst = inst; file = file; mode = mode; set = set; kind = kind; base = base; vector = vector; parents = parents }) v.store) tt (on_open_ss_walk law f keeps _ v.store)
  stores_by keeps versions q (body.Op serial n o seen) h =
      q _ (on_op f (mending v (group_of (instance_of v.store (from_user from serial)))) (from_user from serial) n o seen v.store) tt (on_op_walk law f keeps versions (mending v (group_of (instance_of v.store (from_user from serial)))) (from_user from serial) n o seen v.store)
  stores_by keeps versions q (body.ReadHeld serial n at len) h = q _ (on_read_held f (from_user from serial) n at len v.store) tt (on_read_held_walk law f keeps (from_user from serial) n at len v.store)
  stores_by keeps versions q (body.Close serial) h = q _ (on_close f (from_user from serial) v.store) tt (on_close_walk law f keeps versions (from_user from serial) v.store)
  stores_by keeps versions q (body.ClosedOk inst) h = q _ (on_closed_ok f inst v.store) tt (on_closed_ok_walk law f keeps inst v.store)
  stores_by keeps versions q _ h = absurd h

  pub readers_by : (keeps : ReadersKeep law f) → ((b : Body) → IsStoreAnswer b → law.sent (packet f from b)) → ((x : Body) (o : Outcome Store) → IsForReader x → o.view ≡ v.store → Part law o → Q x (within (with_store v) o)) →
      (x : Body) → IsForReader x → Q x (takes_inside f from x v)
  readers_by keeps back q (body.LookSs us call process request take file what serve) h = q _ (on_look_ss f us (record { call = call; process = process; request = request; take = take; file = file; what = what }) serve v.store) tt refl (on_look_ss_walk law f keeps us (record { call = call; process = process; request = request; take = take; file = file; what = what }) serve v.store)
  readers_by keeps back q (body.Pull file stamp page) h = q _ (on_pull f from file stamp page v.store) tt refl (on_pull_walk law f keeps from file stamp page (λ bytes. back _ tt) v.store)
  readers_by keeps back q (body.Want file wanted own) h = q _ (on_want f from file wanted own v.store) tt refl (on_want_walk law f keeps from file wanted own (λ pages. back _ tt) v.store)
  readers_by keeps back q _ h = absurd h

  pub users_by : (keeps : UsersKeep law f) → ((x : Body) (o : Outcome Users) → IsForUser x → Part law o → Q x (within (with_users v) o)) → (x : Body) → IsForUser x → Q x (takes_inside f from x v)
  users_by keeps q (body.OpenDone serial answer) h = q _ (on_open_done f (kept_stamps v) serial answer v.users) tt (on_open_done_walk law f keeps (kept_stamps v) serial answer v.users)
  users_by keeps q (body.OpDone serial n result) h = q _ (on_op_done f serial n result v.users) tt (on_op_done_walk law f keeps serial n result v.users)
  users_by keeps q (body.AsHeld serial n len) h = q _ (on_as_held f serial n v.users) tt (on_as_held_walk law f keeps serial n v.users)
  users_by keeps q (body.CloseDone serial answer) h = q _ (on_close_done f serial answer v.users) tt (on_close_done_walk law f keeps serial answer v.users)
  users_by keeps q (body.LookDone call request take answer) h = q _ (on_look_done f call request take answer v.users) tt (on_look_done_walk law f keeps call request take answer v.users)
  users_by keeps q _ h = absurd h

  pub pulls_by : (keeps : ReadersKeep law f) → ((b : Body) → IsStoreAnswer b → law.sent (packet f from b)) → ((x : Body) (o : Outcome (List Pull)) → IsForPull x → Part law o → Q x (within (with_pulls v) o)) → (x : Body) → IsForPull x → Q x (takes_inside f from x v)
  pulls_by keeps back q (body.Notify file kind set size stamp vector holder) h = q _ (on_notify f from (copy_of v.store file) (record { file = file; kind = kind; set = set; size = size; stamp = stamp; vector = vector; holder = holder; base = None; wanted = None; content = [] }) v.pulls) tt (on_notify_walk law f keeps from (copy_of v.store file) _ (back _ tt) v.pulls)
  pulls_by keeps back q (body.Page file stamp page bytes) h = q _ (on_page f file stamp page bytes v.pulls) tt (on_page_walk law f keeps file stamp page bytes v.pulls)
  pulls_by keeps back q (body.Delta file wanted pages) h = q _ (on_delta f (copy_of v.store file) file wanted pages v.pulls) tt (on_delta_walk law f keeps (copy_of v.store file) file wanted pages v.pulls)
  pulls_by keeps back q _ h = absurd h
