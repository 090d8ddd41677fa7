-- The answer to an open comes to a using site.
use Rattle.std.proofs.Common.{◌≡◌, ℕ, ◌≤◌, true, List, length, Some, sym, ◌∙◌, ap, subst}
use Rattle.locus_ids.specs.declared.config.Config.{Config}
use Rattle.locus_ids.specs.declared.ids.EpochId.{EpochId}
use Rattle.wire_messages.specs.declared.body.Body.TheVariants as body
use Rattle.wire_messages.specs.declared.body.Granted.{Granted}
use Rattle.wire_messages.specs.declared.packet.Packet.{Packet}
use Rattle.role_steps.specs.Adoption.{table_group}
use Rattle.role_steps.specs.Mends.{kept_stamps, stamps_in}
use Rattle.role_steps.specs.Tables.{row}
use Rattle.role_steps.specs.Using.{on_open_done}
use Rattle.role_steps.specs.Views.{Frame, SiteView, sync_site}
use Rattle.role_steps.specs.declared.synchronizing.SyncTable.{SyncTable}
use Rattle.the_run.specs.Kept.{Among}
use Rattle.the_run.specs.Worlds.{Line}
use Rattle.tree_model.specs.Packs as tree
use Rattle.tree_model.specs.Tree.{kept_in, tree_of}
use Rattle.tree_laws.specs.Printed.{entries}
use Rattle.tree_laws.specs.Doing.{FrameFact}
use Rattle.tree_laws.specs.Packets.{OpenDoneFact, file_in}
use Rattle.tree_laws.specs.Tables.{FilesFact, StartedFiles, TableFact}
use Rattle.tree_laws.proofs.Orders.ProcessSynchronizing.{sync_same}
use Rattle.store_laws.specs.Users.Rests.{IsKeptBy}
use Rattle.store_laws.proofs.Users.OnOpen.{open_done_fine}
use Rattle.store_laws.specs.OneTree.Places.{InsideFact, synced_groups}
use Rattle.store_laws.specs.OneTree.Rest.{AllRest}
use Rattle.store_laws.specs.OneTree.Roles.{Came, CallsFine, Ready}
use Rattle.store_laws.proofs.OneTree.Rising.{every_among, row_key}
use Rattle.store_laws.specs.OneTree.UserStepRests.{UserRests}
use Rattle.store_laws.proofs.OneTree.UserStepAnswering.{its_fact}
use Rattle.store_laws.proofs.OneTree.UserStepGroups.{among_row, among_synced}
use Rattle.store_laws.proofs.OneTree.UserStepResting.{calls_fine, staying}

-- what the tables of a site keep is what is kept
pub kept_so : (c : Config) (t : List Line) (f : Frame) (v : SiteView) → length c.packs ≤ 4 → FrameFact c t f → InsideFact c f t v → IsKeptBy c t f (kept_stamps v)
kept_so c t f v few frame k file sync started = ap (stamps_in file) found.1 ∙ (files.kept_is file.ino ∙ ap (λ (g : ℕ). kept_in c (entries t) f.epoch (file_in g file.ino)) group_is)
  where
    synced : sync_site f.config f.members file.group ≡ Some f.me
    synced = subst (λ (x : Config). sync_site x f.members file.group ≡ Some f.me) (sym frame.config_is) (sync_same c f.members file.group ∙ (ap (tree.sync_site c file.group) (sym frame.members_are) ∙ sync))

    among : Among file.group (synced_groups f)
    among = among_synced f file.group (subst (λ (x : Config). length x.packs ≤ 4) (sym frame.config_is) few) synced

    found : (tab : SyncTable) × (row table_group file.group v.tables ≡ Some tab)
    found = among_row table_group file.group v.tables (subst (Among file.group) (sym k.groups) among)

    is : Among found.0 v.tables × (found.0.group ≡ file.group)
    is = row_key table_group file.group v.tables found.0 found.1

    group_is : found.0.group ≡ file.group
    group_is = is.1

    fact : TableFact c t f found.0
    fact = every_among (TableFact c t f) found.0 v.tables is.0 k.tables

    files : StartedFiles c t f found.0
    files = subst (FilesFact c t f found.0) (fact.started ∙ subst (λ (g : ℕ). (tree_of c f.epoch g (entries t)).started ≡ true) (sym group_is) started) fact.files

pub opened : (c : Config) → UserRests c → (n : ℕ) (t : List Line) (f : Frame) (p : Packet) (serial : ℕ) (a : Granted) (v : SiteView) → Ready c t f → InsideFact c f t v → Came c t f p (body.OpenDone serial a) → AllRest c n t (on_open_done f (kept_stamps v) serial a v.users).told → CallsFine c n t f (on_open_done f (kept_stamps v) serial a v.users)
opened c rests n t f p serial a v ready k came rest = calls_fine c n t f (on_open_done f (kept_stamps v) serial a v.users)
    (open_done_fine c n t f v.users (kept_stamps v) serial a ready.past.followed ready.frame k.users.inside (rests.opens t ready.past) (kept_so c t f v rests.few ready.frame k) fact (staying c rests n t (on_open_done f (kept_stamps v) serial a v.users).told ready.past rest))
  where
    fact : OpenDoneFact c t f.epoch f.me serial a
    fact = subst (λ (e : EpochId). OpenDoneFact c t e f.me serial a) came.received.epoch_is
        (subst (λ (s : ℕ). OpenDoneFact c t p.epoch s serial a) came.received.to_is (its_fact c t f p (body.OpenDone serial a) came))
