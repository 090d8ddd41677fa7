-- Adoptions, mends, and how an epoch is formed: what a site keeps and sends of versions is as it was told.
use Rattle.std.proofs.Common.{◌≡◌, ℕ, ◌==◌, true, false, cond, List, [], ◌∷◌, Option, Some, None, refl, sym, subst, arith}
use Rattle.std.proofs.lemmas.Bool.Decides.{nat_tests}
use Rattle.locus_ids.specs.declared.ids.EpochId.{EpochId}
use Rattle.locus_ids.specs.declared.ids.FileId.{FileId}
use Rattle.locus_ids.specs.declared.sites.Members.{Members}
use Rattle.locus_ids.specs.declared.config.Config.{Config}
use Rattle.run_laws.specs.of_wire_messages.declared.body.Body.TheVariants as body
use Rattle.run_laws.specs.of_role_steps.Own.{Every}
use Rattle.run_laws.specs.of_role_steps.Tables.{row}
use Rattle.run_laws.specs.of_role_steps.Views.{Frame, SiteView, Told, Shown, Outcome, sends}
use Rattle.run_laws.specs.of_role_steps.Reports.{new_table, on_have_of}
use Rattle.run_laws.specs.of_role_steps.Storage.{copy_key, report_of, reported}
use Rattle.run_laws.specs.of_role_steps.Pulling.{pull_key}
use Rattle.run_laws.specs.of_role_steps.Using.{reply_record}
use Rattle.run_laws.specs.of_role_steps.Versions.{file_row, row_ino}
use Rattle.run_laws.specs.of_role_steps.Epochs.{frame_in, leaves_of, report_packets, all_reports, joined_view, joins}
use Rattle.run_laws.specs.of_role_steps.Adoption.{notes_own_at, copy_adopted, adopt_record, table_group, without_pull, adopts_pull, with_adopted, content_under}
use Rattle.run_laws.specs.of_role_steps.declared.copies.FileCopy.{FileCopy}
use Rattle.run_laws.specs.of_role_steps.declared.instances.Instance.{Instance}
use Rattle.run_laws.specs.of_role_steps.declared.pulls.Pull.{Pull}
use Rattle.run_laws.specs.of_role_steps.declared.rounds.InEpoch.{InEpoch}
use Rattle.run_laws.specs.of_role_steps.declared.synchronizing.SyncTable.{SyncTable}
use Rattle.run_laws.specs.of_role_steps.declared.users.WaitingCall.{WaitingCall}
use Rattle.run_laws.proofs.of_role_steps.Sending.{every_map, every_flat_map}
use Rattle.run_laws.proofs.of_the_run.InsideSync.{every_row, every_without, Found, row_found}
use Rattle.site_laws.specs.Vectors.Written.{WrittenAs}
use Rattle.site_laws.specs.Vectors.Facts.{ReportedFact, PacketFact, CopyFact, PullFact, InstanceFact, RowFact, TableFact, InEpochFact, ViewFact, NotCommit, onto}
use Rattle.site_laws.proofs.Vectors.Facts.{Later, one_later, onto_later, copies_later, pulls_later, instances_later, tables_later, numbered_none}
use Rattle.site_laws.proofs.Vectors.SyncFacts.{file_eq}
use Rattle.site_laws.proofs.Vectors.SyncEvents.{have_fact}
use Rattle.site_laws.proofs.Vectors.StoreFacts.{sync_fact}
use Rattle.site_laws.proofs.Vectors.SiteFacts.{SiteFine, inside_alike, inside_of}

-- ---- adoptions ----

noted_fact : (f : Frame) (past : List Told) (p : Pull) (e : InEpoch) (o : Option SyncTable) (v : SiteView) → f.epoch ≡ e.id → v.epoch ≡ Some e → Found (TableFact past e.id) o → ViewFact past v → ViewFact past (notes_own_at f p o v)
noted_fact f past p e None v at here k h = h
noted_fact f past p e (Some t) v at here k h =
    let g : TableFact past f.epoch t = subst (λ (i : EpochId). TableFact past i t) (sym at) k in
    let q : TableFact past f.epoch (on_have_of f.me p.stamp (file_row t p.file.ino) t) = have_fact past f f.me p.stamp (file_row t p.file.ino) t (row_found (RowFact past t.group) row_ino p.file.ino t.files g.files) g in
    let w : SiteView = notes_own_at f p (Some t) v in
    let i : Every (InstanceFact past e.id) v.store.instances × Every (TableFact past e.id) v.tables = inside_of past v e here h in
    record { copies = h.copies; pulls = h.pulls; inside = subst (InEpochFact past w) (sym here) (i.0, every_row (TableFact past e.id) table_group (on_have_of f.me p.stamp (file_row t p.file.ino) t) v.tables (subst (λ (n : EpochId). TableFact past n (on_have_of f.me p.stamp (file_row t p.file.ino) t)) at q) i.1) }

pub adopts_pull_fact : (f : Frame) (past : List Told) (p : Pull) (e : InEpoch) (v : SiteView) → f.epoch ≡ e.id → v.epoch ≡ Some e → PullFact past p → ViewFact past v → SiteFine past (adopts_pull f p v)
adopts_pull_fact f past p e v at here k h =
    let x : Told = Shown (adopt_record f p) in
    let now : List Told = x ∷ past in
    let later : Later past now = one_later x past in
    let w : SiteView = with_adopted p v in
    let c : CopyFact now (copy_adopted p (content_under v p)) = later.written p.file p.stamp p.vector k in
    let i : Every (InstanceFact past e.id) v.store.instances × Every (TableFact past e.id) v.tables = inside_of past v e here h in
    let g : ViewFact now w = record {
      copies = every_row (CopyFact now) copy_key (copy_adopted p (content_under v p)) v.store.copies c (copies_later past now later v.store.copies h.copies);
      pulls = every_without (PullFact now) pull_key (pull_key p) v.pulls (pulls_later past now later v.pulls h.pulls);
      inside = subst (InEpochFact now w) (sym here) (instances_later past now later e.id v.store.instances i.0, tables_later past now later e.id v.tables i.1);
    } in
    record {
      view = noted_fact f now p e (row table_group p.file.group v.tables) w at here (row_found (TableFact now e.id) table_group p.file.group v.tables (tables_later past now later e.id v.tables i.1)) g;
      sent = sync_fact now f p.file.group _ tt;
      numbered = (tt, tt);
      disk = (tt, c);
    }

pub without_fact : (past : List Told) (p : Pull) (v : SiteView) → ViewFact past v → ViewFact past (without_pull p v)
without_fact past p v h = record { copies = h.copies; pulls = every_without (PullFact past) pull_key (pull_key p) v.pulls h.pulls; inside = inside_alike past v (without_pull p v) v.epoch refl refl h.inside }

-- ---- how an epoch is formed ----

pub leaves_fact : (me : ℕ) (past : List Told) (e : InEpoch) (v : SiteView) → ViewFact past v → SiteFine past (leaves_of me (Some e) v)
leaves_fact me past e v h =
    let o : Outcome SiteView = leaves_of me (Some e) v in
    record {
      view = record { copies = copies_later past (onto o.told past) (onto_later o.told past) v.store.copies h.copies; pulls = tt; inside = refl };
      sent = tt;
      numbered = numbered_none past o.told (tt, every_map NotCommit (λ (w : WaitingCall). reply_record me v.boot w _) v.users.waiting (λ w. tt));
      disk = tt;
    }

-- ---- joining: each copy is reported as it is ----

report_fact : (past : List Told) (group : ℕ) (xs : List FileCopy) → Every (CopyFact past) xs → Every (ReportedFact past group) (report_of group xs)
report_fact past group [] h = tt
report_fact past group (x ∷ xs) h =
    (elim (x.file.group == group) as (λ b. (x.file.group == group) ≡ b → Every (ReportedFact past group) (cond b (reported x ∷ report_of group xs) (report_of group xs))) [
      | true ↦ λ e. (subst (λ (file : FileId). WrittenAs past file x.stamp x.vector) (file_eq x.file group x.file.ino (group_same e) refl) h.0, report_fact past group xs h.1)
      | false ↦ λ e. report_fact past group xs h.1
    ]) refl
  where
    group_same : (x.file.group == group) ≡ true → x.file.group ≡ group
    group_same e = grind (arith, nat_tests)

pub all_reports_fact : (past : List Told) (f : Frame) (v : SiteView) → Every (CopyFact past) v.store.copies → Every (PacketFact past) (all_reports f v)
all_reports_fact past f v h = every_flat_map (PacketFact past) (report_packets f v) v.reports (λ g. sync_fact past f g (body.Report g (report_of g v.store.copies)) (report_fact past g v.store.copies h))

pub joins_fact : (c : Config) (me : ℕ) (past : List Told) (id : EpochId) (m : Members) (v : SiteView) → v.epoch ≡ None → ViewFact past v → SiteFine past (joins c me id m v)
joins_fact c me past id m v gone h =
    let o : Outcome SiteView = joins c me id m v in
    let now : List Told = onto o.told past in
    let copies : Every (CopyFact now) v.store.copies = copies_later past now (onto_later o.told past) v.store.copies h.copies in
    let none : v.store.instances ≡ [] = subst (InEpochFact past v) gone h.inside in
    record {
      view = record {
        copies = copies;
        pulls = pulls_later past now (onto_later o.told past) v.pulls h.pulls;
        inside = (subst (λ (xs : List Instance). Every (InstanceFact now id) xs) (sym none) tt, every_map (TableFact now id) new_table _ (λ g. record { files = tt; opens = tt; looks = tt; early = tt }));
      };
      sent = all_reports_fact now (frame_in c me v.boot (record { id = id; members = m })) (joined_view c me id m v) copies;
      numbered = (tt, tt);
      disk = tt;
    }
