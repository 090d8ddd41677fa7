-- Adoptions, mends, and how an epoch is formed: what a site tells, keeps and sends of instances is as it went on.
use Rattle.std.proofs.Common.{◌≡◌, ℕ, List, [], ◌∷◌, Option, Some, None, refl, sym, subst}
use Rattle.run_laws.proofs.of_plain_facts.Tests.{false_true}
use Rattle.locus_ids.specs.declared.ids.EpochId.{EpochId}
use Rattle.locus_ids.specs.declared.sites.Members.{Members}
use Rattle.locus_ids.specs.declared.config.Config.{Config}
use Rattle.wire_messages.specs.declared.body.Body.TheVariants as body
use Rattle.role_steps.specs.Own.{Every}
use Rattle.role_steps.specs.Tables.{row}
use Rattle.role_steps.specs.Views.{Frame, SiteView, Told, Shown, Outcome, sends, tells}
use Rattle.role_steps.specs.Reports.{new_table, on_have_of}
use Rattle.role_steps.specs.Storage.{report_of}
use Rattle.role_steps.specs.Versions.{file_row}
use Rattle.role_steps.specs.Epochs.{frame_in, leaves_of, report_packets, all_reports, joined_view, joins}
use Rattle.role_steps.specs.Adoption.{notes_own_at, adopt_record, table_group, adopts_pull, with_adopted}
use Rattle.role_steps.specs.declared.instances.Instance.{Instance}
use Rattle.role_steps.specs.declared.pulls.Pull.{Pull}
use Rattle.role_steps.specs.declared.rounds.InEpoch.{InEpoch}
use Rattle.role_steps.specs.declared.synchronizing.SyncTable.{SyncTable}
use Rattle.role_steps.specs.declared.users.Asking.{Asking}
use Rattle.role_steps.specs.declared.users.Asking.TheVariants as asking
use Rattle.role_steps.specs.declared.users.WaitingCall.{WaitingCall}
use Rattle.role_steps.specs.declared.users.UserInstance.{UserInstance}
use Rattle.role_steps.proofs.Sending.{every_map, every_flat_map}
use Rattle.the_run.specs.Steps.{epoch_id}
use Rattle.the_run.proofs.InsideSync.{every_row, Found, row_found}
use Rattle.the_run.proofs.Boots.{every_weaker}
use Rattle.site_laws.specs.Vectors.Facts.{onto}
use Rattle.site_laws.specs.Locks.Facts.{PacketFact, HeldFact, AskingFact, WaitingFact, UsersFact, InstanceFact, TableFact, InEpochFact, ViewFact}
use Rattle.site_laws.proofs.Locks.Facts.{Later, one_later, users_later, instances_later, tables_later, Aloof, aloof_go, SiteFine}
use Rattle.site_laws.proofs.Locks.SyncFacts.{have_fact}
use Rattle.site_laws.proofs.Locks.StoreFacts.{sync_fact}
use Rattle.site_laws.proofs.Locks.UserFacts.{users_leave_keep}
use Rattle.site_laws.proofs.Locks.SiteFacts.{inside_of}

-- ---- adoptions ----

noted_fact : (f : Frame) (past : List Told) (me : ℕ) (p : Pull) (e : InEpoch) (o : Option SyncTable) (v : SiteView) → v.epoch ≡ Some e → Found (TableFact past e.id) o → ViewFact past me v → ViewFact past me (notes_own_at f p o v)
noted_fact f past me p e None v here k h = h
noted_fact f past me p e (Some t) v here k h =
    let new : SyncTable = on_have_of f.me p.stamp (file_row t p.file.ino) t in
    let i : Every (InstanceFact past me e.id) v.store.instances × Every (TableFact past e.id) v.tables = inside_of past me v e here h in
    record { users = h.users; inside = subst (InEpochFact past me (notes_own_at f p (Some t) v)) (sym here) (i.0, every_row (TableFact past e.id) table_group new v.tables (have_fact past e.id f.me p.stamp (file_row t p.file.ino) t k) i.1) }

pub adopts_pull_fact : (f : Frame) (past : List Told) (me : ℕ) (p : Pull) (e : InEpoch) (v : SiteView) → v.epoch ≡ Some e → ViewFact past me v → SiteFine me past (adopts_pull f p v)
adopts_pull_fact f past me p e v here h =
    let x : Told = Shown (adopt_record f p) in
    let now : List Told = x ∷ past in
    let later : Later past now = one_later x past in
    let w : SiteView = with_adopted p v in
    let i : Every (InstanceFact past me e.id) v.store.instances × Every (TableFact past e.id) v.tables = inside_of past me v e here h in
    let ts : Every (TableFact now e.id) v.tables = tables_later past now later e.id v.tables i.1 in
    let g : ViewFact now me w = record {
      users = users_later past now later me (epoch_id v.epoch) v.users h.users;
      inside = subst (InEpochFact now me w) (sym here) (instances_later past now later me e.id v.store.instances i.0, ts);
    } in
    record {
      view = noted_fact f now me p e (row table_group p.file.group v.tables) w here (row_found (TableFact now e.id) table_group p.file.group v.tables ts) g;
      sent = sync_fact now f p.file.group _ (λ to. tt);
      goes = (tt, tt);
      disk = tt;
    }

-- ---- how an epoch is formed ----

pub leaves_fact : (me : ℕ) (past : List Told) (e : InEpoch) (v : SiteView) → ViewFact past me v → SiteFine me past (leaves_of me (Some e) v)
leaves_fact me past e v h =
    let o : Outcome SiteView = leaves_of me (Some e) v in
    let k : UsersFact (onto o.told past) me None _ × Every Aloof _ = users_leave_keep (onto o.told past) me v.boot e.id v.users in
    record { view = record { users = k.0; inside = (refl, refl) }; sent = tt; goes = aloof_go past o.told (tt, k.1); disk = tt }

-- ---- joining ----

pub all_reports_aloof : (f : Frame) (past : List Told) (v : SiteView) → Every (PacketFact past) (all_reports f v)
all_reports_aloof f past v = every_flat_map (PacketFact past) (report_packets f v) v.reports (λ g. sync_fact past f g (body.Report g (report_of g v.store.copies)) (λ to. tt))

-- who was in no epoch holds nothing, and asks no operation
held_none : (past now : List Told) (s : ℕ) (e : EpochId) (i : UserInstance) → HeldFact past s None i → HeldFact now s (Some e) i
held_none past now s e i h = absurd h

asking_none : (past now : List Told) (s : ℕ) (e : EpochId) (a : Asking) → AskingFact past s None a → AskingFact now s (Some e) a
asking_none past now s e (asking.Op serial ss number it seen) h = absurd h
asking_none past now s e (asking.Close serial ss) h = absurd h
asking_none past now s e (asking.Look file what take) h = tt
asking_none past now s e (asking.Open serial file how) h = tt

pub joins_fact : (c : Config) (me : ℕ) (past : List Told) (id : EpochId) (m : Members) (v : SiteView) → v.epoch ≡ None → ViewFact past me v → SiteFine me past (joins c me id m v)
joins_fact c me past id m v gone h =
    let o : Outcome SiteView = joins c me id m v in
    let now : List Told = onto o.told past in
    let none : v.store.instances ≡ [] = (subst (InEpochFact past me v) gone h.inside).0 in
    let users : UsersFact past me None v.users = subst (λ (x : Option InEpoch). UsersFact past me (epoch_id x) v.users) gone h.users in
    record {
      view = record {
        users = record {
          instances = every_weaker (HeldFact past me None) (HeldFact now me (Some id)) v.users.instances (held_none past now me id) users.instances;
          waiting = every_weaker (WaitingFact past me None) (WaitingFact now me (Some id)) v.users.waiting (λ (w : WaitingCall). asking_none past now me id w.asking) users.waiting;
        };
        inside = (subst (λ (xs : List Instance). Every (InstanceFact now me id) xs) (sym none) tt, every_map (TableFact now id) new_table _ (λ g. record { started = λ s. absurd (false_true s); opens = tt; apart = tt; looks = tt; early = tt }));
      };
      sent = all_reports_aloof (frame_in c me v.boot (record { id = id; members = m })) now (joined_view c me id m v);
      goes = (tt, tt);
      disk = tt;
    }
