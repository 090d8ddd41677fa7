-- What a site does in its epoch: packets of the format come, and such are sent.
use Rattle.std.proofs.Common.{◌≡◌, ◌≤◌, ◌<◌, ◌^◌, ℕ, ◌+◌, Bool, true, false, cond, not, ◌&&◌, List, [], ◌∷◌, length, Option, None, Some, refl, arith}
use Rattle.std.specs.List.{flat_map, list_all}
use Rattle.std.proofs.lemmas.Bool.Decides.{nat_tests}
use Rattle.locus_ids.specs.declared.ids.CallId.{CallId}
use Rattle.locus_ids.specs.declared.config.Config.{Config}
use Rattle.locus_ids.specs.declared.ids.FileId.{FileId}
use Rattle.trace_book.specs.Messages.{message_name}
use Rattle.trace_book.specs.Names.{is_name}
use Rattle.trace_book.specs.declared.call.Call.{Call}
use Rattle.trace_book.specs.declared.call.Call.TheVariants as call
use Rattle.trace_book.specs.declared.descriptor.Beginning.{Beginning}
use Rattle.trace_book.specs.declared.descriptor.Beginning.TheVariants as begins
use Rattle.call_rules.specs.Descriptors.{beginning, begins_again, begins_change, begins_read, is_in, stale_or}
use Rattle.call_rules.specs.Words.{is_too_long}
use Rattle.schedule_lines.specs.Ranges.{fits_call, is_byte, is_descriptor}
use Rattle.wire_fields.specs.Parts.{processes, stamps}
use Rattle.wire_messages.specs.declared.body.Body.{Body}
use Rattle.wire_messages.specs.declared.body.Body.TheVariants as body
use Rattle.wire_messages.specs.declared.packet.Packet.{Packet}
use Rattle.role_steps.specs.Adoption.{adopts_first, adopts_pull, content_adopted, copy_adopted, is_ready, notes_own_at, table_group, with_store, without_pull, with_adopted, fits_own, content_under}
use Rattle.role_steps.specs.Epochs.{all_reports, report_packets, with_users}
use Rattle.role_steps.specs.Mends.{has_mend_in, kept_stamps, mending, row_file, stamps_in, starts_mend, starts_mend_of, starts_mends_in, wants_mend}
use Rattle.role_steps.specs.Opens.{on_opened}
use Rattle.role_steps.specs.Own.{Every}
use Rattle.role_steps.specs.Pulling.{on_delta, on_notify, on_page, pull_key, pull_repeats, wanted_pages}
use Rattle.role_steps.specs.Reports.{on_closed, on_have, on_look, on_open, on_report, sync_repeats}
use Rattle.role_steps.specs.Requests.{descriptors_of, users_repeats}
use Rattle.role_steps.specs.Storage.{on_close, on_closed_ok, on_look_ss, on_open_ss, on_pull, on_want, copy_of, instance_of, report_of, store_repeats}
use Rattle.role_steps.specs.Tables.{first_that, row}
use Rattle.role_steps.specs.Operations.{on_op, on_read_held}
use Rattle.role_steps.specs.Using.{on_as_held, on_call, on_close_done, on_look_done, on_op_done, on_open_done, own_call}
use Rattle.role_steps.specs.Versions.{file_row, kept}
use Rattle.role_steps.specs.Views.{Frame, Outcome, SiteView, Store, Users, file_key, quiet, within}
use Rattle.role_steps.specs.declared.pulls.Pull.{Pull}
use Rattle.role_steps.specs.declared.rounds.InEpoch.{InEpoch}
use Rattle.role_steps.specs.declared.synchronizing.FileRow.{FileRow}
use Rattle.role_steps.specs.declared.synchronizing.SyncTable.{SyncTable}
use Rattle.locus_ids.specs.declared.ids.EpochId.{EpochId}
use Rattle.locus_ids.specs.declared.refusal.Refusal.TheVariants as refusal
use Rattle.locus_ids.specs.Sizes.{file_bytes_max}
use Rattle.trace_book.specs.declared.descriptor.Descriptor.{Descriptor}
use Rattle.trace_book.specs.declared.descriptor.OneVersion.{OneVersion}
use Rattle.std.specs.Prelude.{nat_le, nat_lt}
use Rattle.role_steps.proofs.of_plain_facts.Tests.{both_true}
use Rattle.role_steps.proofs.Sending.{every_append}
use Rattle.the_run.specs.Steps.{with_pulls, at_table_of, at_users, from_user, group_of, in_order, is_opened_in, repeats_inside, takes_inside}
use Rattle.the_run.proofs.Boots.{every_weaker}
use Rattle.the_run.proofs.InsideSync.{Found, every_row, every_without, first_found, row_found}
use Rattle.the_run.proofs.StepSends.{order_sent}
use Rattle.packet_laws.specs.Fitting.Fields.{AreBoots, IsSite}
use Rattle.packet_laws.specs.Values.Bodies.{FitsBut, IsListed, NamesListed}
use Rattle.packet_laws.specs.Values.Values.{KeptFits, CallFits, FileFits, Grounds, KeptAt, PullFits, SentFits, SiteValues, TableFits}
use Rattle.packet_laws.proofs.Values.Copies.{found_copy, laid_short, report_fits, with_copy_fits}
use Rattle.packet_laws.proofs.Values.Fields.{AskedFits, every_flat, size_fits, size_most, sync_asks}
use Rattle.packet_laws.proofs.Values.Files.{found_file}
use Rattle.packet_laws.proofs.Values.Operating.{on_look_ss_fits, on_op_fits, on_pull_fits, on_read_held_fits, on_want_fits}
use Rattle.packet_laws.proofs.Values.Pulls.{PullsDone, on_delta_fits, on_notify_fits, on_page_fits, pull_repeats_fit}
use Rattle.packet_laws.proofs.Values.Store.{StoreDone, on_close_fits, on_closed_ok_fits, on_open_ss_fits, store_repeats_fit}
use Rattle.packet_laws.proofs.Values.Sync.{TableDone, have_fits, kept_of_fit, on_closed_fits, on_look_fits, on_open_fits, on_opened_fits, on_report_fits, sync_repeats_fit}
use Rattle.packet_laws.proofs.Values.Users.{EntryFits, UsersDone, on_as_held_fits, on_call_fits, on_close_done_fits, on_look_done_fits, on_op_done_fits, on_open_done_fits, users_repeats_fit}

pub record SiteDone (c : Config) (boots : List ℕ) (o : Outcome SiteView) : Type 0 where
  pub sent : Every (SentFits boots) o.sent
  pub view : SiteValues c boots o.view

-- packets that name no site
pub record AskingDone (c : Config) (boots : List ℕ) (o : Outcome SiteView) : Type 0 where
  pub sent : Every (AskedFits boots) o.sent
  pub view : SiteValues c boots o.view

pub asked_sent : (boots : List ℕ) (ps : List Packet) → Every (AskedFits boots) ps → Every (SentFits boots) ps
asked_sent boots ps h = every_weaker (AskedFits boots) (SentFits boots) ps (λ p k. k.0) h

pub quiet_done : (c : Config) (boots : List ℕ) (v : SiteView) → SiteValues c boots v → SiteDone c boots (quiet v)
quiet_done c boots v h = record { sent = tt; view = h }

pub quiet_asking : (c : Config) (boots : List ℕ) (v : SiteView) → SiteValues c boots v → AskingDone c boots (quiet v)
quiet_asking c boots v h = record { sent = tt; view = h }

-- ---- roles in the site ----

store_done : (c : Config) (boots : List ℕ) (o : Outcome Store) (v : SiteView) → SiteValues c boots v → StoreDone boots o → SiteDone c boots (within (with_store v) o)
store_done c boots o v h k = record { sent = k.0; view = record { store = k.1; users = h.users; tables = h.tables; pulls = h.pulls; reports = h.reports } }

users_done : (c : Config) (boots : List ℕ) (o : Outcome Users) (v : SiteView) → SiteValues c boots v → UsersDone c boots o → AskingDone c boots (within (with_users v) o)
users_done c boots o v h k = record { sent = k.0; view = record { store = h.store; users = k.1; tables = h.tables; pulls = h.pulls; reports = h.reports } }

asking_done : (c : Config) (boots : List ℕ) (o : Outcome SiteView) → AskingDone c boots o → SiteDone c boots o
asking_done c boots o h = record { sent = asked_sent boots o.sent h.sent; view = h.view }

pulls_done : (c : Config) (boots : List ℕ) (o : Outcome (List Pull)) (v : SiteView) → SiteValues c boots v → PullsDone boots o → SiteDone c boots (within (with_pulls v) o)
pulls_done c boots o v h k = record { sent = k.0; view = record { store = h.store; users = h.users; tables = h.tables; pulls = k.1; reports = h.reports } }

table_done : (c : Config) (boots : List ℕ) (g : SyncTable → Outcome SyncTable) (o : Option SyncTable) (v : SiteView) → SiteValues c boots v → Found (TableFits boots) o → ((t : SyncTable) → o ≡ Some t → TableFits boots t → TableDone boots (g t)) → SiteDone c boots (at_table_of g o v)
table_done c boots g None v h found k = quiet_done c boots v h
table_done c boots g (Some t) v h found k =
    let r : TableDone boots (g t) = k t refl found in
    record { sent = r.0; view = record { store = h.store; users = h.users; tables = every_row (TableFits boots) table_group (g t).view v.tables r.1 h.tables; pulls = h.pulls; reports = h.reports } }

group_done : (c : Config) (boots : List ℕ) (g : SyncTable → Outcome SyncTable) (group : ℕ) (v : SiteView) → SiteValues c boots v → ((t : SyncTable) → row table_group group v.tables ≡ Some t → TableFits boots t → TableDone boots (g t)) → SiteDone c boots (at_table_of g (row table_group group v.tables) v)
group_done c boots g group v h k = table_done c boots g (row table_group group v.tables) v h (row_found (TableFits boots) table_group group v.tables h.tables) k

stamps_in_fit : (boots : List ℕ) (file : FileId) (o : Option SyncTable) → Found (TableFits boots) o → Every stamps.Fits (stamps_in file o)
stamps_in_fit boots file None h = tt
stamps_in_fit boots file (Some t) h = kept_of_fit boots (file_row t file.ino) (found_file boots t file.ino h)

-- ---- a packet ----

module _ (f : Frame) (fit : AreBoots f.members.boot) (own : IsListed f.members.boot f.me) (site : IsSite f.me) (g : Grounds f.config) where
  pub inside_done : (from : ℕ) (x : Body) (v : SiteView) → IsListed f.members.boot from → FitsBut x → NamesListed f.members.boot x → KeptAt v from x → SiteValues f.config f.members.boot v → SiteDone f.config f.members.boot (takes_inside f from x v)
  inside_done from (body.Report group copies) v listed k names kept h =
      group_done f.config f.members.boot (on_report f from copies) group v h (λ t e t_fits. on_report_fits f fit own from copies t listed k.1 t_fits (kept t e))
  inside_done from (body.ReportOk group) v listed k names kept h =
      record { sent = tt; view = record { store = h.store; users = h.users; tables = h.tables; pulls = h.pulls; reports = every_without (λ (n : ℕ). n < 2 ^ 8) (λ (n : ℕ). n) group v.reports h.reports } }
  inside_done from (body.Open serial call process request file it) v listed k names kept h =
      group_done f.config f.members.boot (on_open f from (record { serial = serial; call = call; process = process; request = request; file = file; how = it })) file.group v h (λ t e t_fits. on_open_fits f fit own from (record { serial = serial; call = call; process = process; request = request; file = file; how = it }) t (record { body = k; from = listed }) t_fits (kept t e))
  inside_done from (body.OpenSs inst file mode set kind base vector parents) v listed k names kept h =
      store_done f.config f.members.boot (on_open_ss f (record { inst = inst; file = file; mode = mode; set = set; kind = kind; base = base; vector = vector; parents = parents }) v.store) v h (on_open_ss_fits f site (record { inst = inst; file = file; mode = mode; set = set; kind = kind; base = base; vector = vector; parents = parents }) v.store (record { body = k; listed = names }) h.store)
  inside_done from (body.Opened inst answer) v listed k names kept h =
      table_done f.config f.members.boot (on_opened f inst answer) (first_that (is_opened_in inst) v.tables) v h (first_found (TableFits f.members.boot) (is_opened_in inst) v.tables h.tables) (λ t e t_fits. on_opened_fits f fit own inst answer t k.1 t_fits)
  inside_done from (body.OpenDone serial answer) v listed k names kept h =
      asking_done f.config f.members.boot (within (with_users v) (on_open_done f (kept_stamps v) serial answer v.users)) (users_done f.config f.members.boot (on_open_done f (kept_stamps v) serial answer v.users) v h (on_open_done_fits f g.scripts g.packs (kept_stamps v) serial answer v.users (λ file. stamps_in_fit f.members.boot file (row table_group file.group v.tables) (row_found (TableFits f.members.boot) table_group file.group v.tables h.tables)) k names h.users))
  inside_done from (body.Op serial n o seen) v listed k names kept h =
      store_done f.config f.members.boot (on_op f (mending v (group_of (instance_of v.store (from_user from serial)))) (from_user from serial) n o seen v.store) v h (on_op_fits f site g.shown (mending v (group_of (instance_of v.store (from_user from serial)))) (from_user from serial) n o seen v.store k.1 h.store)
  inside_done from (body.OpDone serial n result) v listed k names kept h =
      asking_done f.config f.members.boot (within (with_users v) (on_op_done f serial n result v.users)) (users_done f.config f.members.boot (on_op_done f serial n result v.users) v h (on_op_done_fits f g.scripts g.packs serial n result v.users k.1 h.users))
  inside_done from (body.ReadHeld serial n at len) v listed k names kept h =
      store_done f.config f.members.boot (on_read_held f (from_user from serial) n at len v.store) v h (on_read_held_fits f site g.shown (from_user from serial) n at len v.store k.1 h.store)
  inside_done from (body.AsHeld serial n len) v listed k names kept h =
      asking_done f.config f.members.boot (within (with_users v) (on_as_held f serial n v.users)) (users_done f.config f.members.boot (on_as_held f serial n v.users) v h (on_as_held_fits f g.scripts g.packs serial n v.users h.users))
  inside_done from (body.Close serial) v listed k names kept h =
      store_done f.config f.members.boot (on_close f (from_user from serial) v.store) v h (on_close_fits f site (from_user from serial) v.store h.store)
  inside_done from (body.Closed inst made) v listed k names kept h =
      table_done f.config f.members.boot (on_closed f from inst made) (first_that (is_opened_in inst) v.tables) v h (first_found (TableFits f.members.boot) (is_opened_in inst) v.tables h.tables) (λ t e t_fits. on_closed_fits f fit own from inst made t listed k.1 t_fits)
  inside_done from (body.ClosedOk inst) v listed k names kept h =
      store_done f.config f.members.boot (on_closed_ok f inst v.store) v h (on_closed_ok_fits f inst v.store h.store)
  inside_done from (body.CloseDone serial answer) v listed k names kept h =
      asking_done f.config f.members.boot (within (with_users v) (on_close_done f serial answer v.users)) (users_done f.config f.members.boot (on_close_done f serial answer v.users) v h (on_close_done_fits f g.scripts g.packs serial answer v.users h.users))
  inside_done from (body.Look call process request take file what) v listed k names kept h =
      group_done f.config f.members.boot (on_look f from (record { call = call; process = process; request = request; take = take; file = file; what = what })) file.group v h (λ t e t_fits. on_look_fits f fit own from (record { call = call; process = process; request = request; take = take; file = file; what = what }) t (record { body = k; from = listed }) t_fits)
  inside_done from (body.LookSs us call process request take file what serve) v listed k names kept h =
      store_done f.config f.members.boot (on_look_ss f us (record { call = call; process = process; request = request; take = take; file = file; what = what }) serve v.store) v h (on_look_ss_fits f us (record { call = call; process = process; request = request; take = take; file = file; what = what }) serve v.store names k.3 h.store)
  inside_done from (body.LookDone call request take answer) v listed k names kept h =
      asking_done f.config f.members.boot (within (with_users v) (on_look_done f call request take answer v.users)) (users_done f.config f.members.boot (on_look_done f call request take answer v.users) v h (on_look_done_fits f g.scripts g.packs call request take answer v.users k h.users))
  inside_done from (body.Notify file kind set size stamp vector holder) v listed k names kept h =
      pulls_done f.config f.members.boot (on_notify f from (copy_of v.store file) (record { file = file; kind = kind; set = set; size = size; stamp = stamp; vector = vector; holder = holder; base = None; wanted = None; content = [] }) v.pulls) v h (on_notify_fits f from (copy_of v.store file) (record { file = file; kind = kind; set = set; size = size; stamp = stamp; vector = vector; holder = holder; base = None; wanted = None; content = [] }) v.pulls listed (found_copy v.store (file_key file) h.store.copies) (record { file = k.0; set = k.1.1.0; size = k.1.1.1.0; version = k.1.1.1.1.0; holder = names; base = tt; pages = tt }) h.pulls)
  inside_done from (body.Pull file stamp page) v listed k names kept h =
      store_done f.config f.members.boot (on_pull f from file stamp page v.store) v h (on_pull_fits f from file stamp page v.store listed k.0 k.1.0 h.store)
  inside_done from (body.Page file stamp page bytes) v listed k names kept h =
      pulls_done f.config f.members.boot (on_page f file stamp page bytes v.pulls) v h (on_page_fits f file stamp page bytes v.pulls h.pulls)
  inside_done from (body.Want file wanted own) v listed k names kept h =
      store_done f.config f.members.boot (on_want f from file wanted own v.store) v h (on_want_fits f from file wanted own v.store listed k.0 k.1.0 h.store)
  inside_done from (body.Delta file wanted pages) v listed k names kept h =
      pulls_done f.config f.members.boot (on_delta f (copy_of v.store file) file wanted pages v.pulls) v h (on_delta_fits f (copy_of v.store file) file wanted pages v.pulls h.pulls)
  inside_done from (body.Have file stamp) v listed k names kept h =
      group_done f.config f.members.boot (on_have from file stamp) file.group v h (λ t e t_fits. (tt, have_fits f.members.boot from stamp (file_row t file.ino) t listed (found_file f.members.boot t file.ino t_fits) t_fits))
  inside_done from body.Poll v listed k names kept h =
      quiet_done f.config f.members.boot v h
  inside_done from (body.Promise reach) v listed k names kept h =
      quiet_done f.config f.members.boot v h
  inside_done from (body.Refuse promised) v listed k names kept h =
      quiet_done f.config f.members.boot v h
  inside_done from (body.Install members) v listed k names kept h =
      quiet_done f.config f.members.boot v h
  inside_done from body.Joined v listed k names kept h =
      quiet_done f.config f.members.boot v h

  -- ---- adoptions ----

  tables_noted : (p : Pull) (o : Option SyncTable) (v : SiteView) → Found (TableFits f.members.boot) o → Every (TableFits f.members.boot) v.tables → Every (TableFits f.members.boot) (notes_own_at f p o v).tables
  tables_noted p None v found h = h
  tables_noted p (Some t) v found h = every_row (TableFits f.members.boot) table_group _ v.tables (have_fits f.members.boot f.me p.stamp (file_row t p.file.ino) t own (found_file f.members.boot t p.file.ino found) found) h

  noted_view : (p : Pull) (o : Option SyncTable) (v : SiteView) → Found (TableFits f.members.boot) o → SiteValues f.config f.members.boot v → SiteValues f.config f.members.boot (notes_own_at f p o v)
  noted_view p None v found h = h
  noted_view p (Some t) v found h = record { store = h.store; users = h.users; tables = tables_noted p (Some t) v found h.tables; pulls = h.pulls; reports = h.reports }

  adopts_pull_done : (p : Pull) (v : SiteView) → PullFits f.members.boot p → SiteValues f.config f.members.boot v → AskingDone f.config f.members.boot (adopts_pull f p v)
  adopts_pull_done p v k h =
      let now : SiteView = with_adopted p v in
      let now_fits : SiteValues f.config f.members.boot now = record {
        store = record { copies = with_copy_fits (copy_adopted p (content_under v p)) v.store.copies (record { file = k.file; set = k.set; size = size_fits (length (content_adopted p (content_under v p))) (laid_short p.size (wanted_pages p) p.content (content_under v p) (size_most p.size k.size)); version = k.version }) h.store.copies; instances = h.store.instances };
        users = h.users;
        tables = h.tables;
        pulls = every_without (PullFits f.members.boot) pull_key (pull_key p) v.pulls h.pulls;
        reports = h.reports;
      } in
      record { sent = sync_asks f p.file.group (body.Have p.file p.stamp) (k.file, k.version.0) (λ boots. tt); view = noted_view p (row table_group p.file.group now.tables) now (row_found (TableFits f.members.boot) table_group p.file.group now.tables now_fits.tables) now_fits }

  pub adopts_first_done : (ps : List Pull) (v : SiteView) → Every (PullFits f.members.boot) ps → SiteValues f.config f.members.boot v → AskingDone f.config f.members.boot (adopts_first f ps v)
  adopts_first_done [] v k h = quiet_asking f.config f.members.boot v h
  adopts_first_done (p ∷ ps) v k h =
      over (adopts_first_done ps (without_pull p v) k.1 (record { store = h.store; users = h.users; tables = h.tables; pulls = every_without (PullFits f.members.boot) pull_key (pull_key p) v.pulls h.pulls; reports = h.reports })) (adopts_first_done ps v k.1 h) (is_ready v p) (fits_own p (copy_of v.store p.file))
    where
      over : AskingDone f.config f.members.boot (adopts_first f ps (without_pull p v)) → AskingDone f.config f.members.boot (adopts_first f ps v) → (a b : Bool) → AskingDone f.config f.members.boot (elim a as (λ (t : Bool). Outcome SiteView) [ true ↦ elim b as (λ (t : Bool). Outcome SiteView) [ true ↦ adopts_pull f p v | false ↦ adopts_first f ps (without_pull p v) ] | false ↦ adopts_first f ps v ])
      over less rest true true = adopts_pull_done p v k.0 h
      over less rest true false = less
      over less rest false b = rest

-- ---- calls and mends ----

third : (a b x d : Bool) → (a && b && x && d) ≡ true → x ≡ true
third a b true d h = refl
third true true false d h = absurd (cc)
third true false false d h = absurd (cc)
third false b false d h = absurd (cc)

write_lengths : (n fd at : ℕ) (bytes : List ℕ) → fits_call n (call.Write fd at bytes) ≡ true → (1 ≤ length bytes) × (length bytes ≤ 4096)
write_lengths n fd at bytes h = of (both_true (nat_le 1 (length bytes)) (nat_le (length bytes) 4096) (third (is_descriptor fd) (nat_le at file_bytes_max) (nat_le 1 (length bytes) && nat_le (length bytes) 4096) (list_all is_byte bytes) h))
  where
    low : nat_le 1 (length bytes) ≡ true → 1 ≤ length bytes
    low e = grind (arith, nat_tests)

    high : nat_le (length bytes) 4096 ≡ true → length bytes ≤ 4096
    high e = grind (arith, nat_tests)

    of : (nat_le 1 (length bytes) ≡ true) × (nat_le (length bytes) 4096 ≡ true) → (1 ≤ length bytes) × (length bytes ≤ 4096)
    of e = (low e.0, high e.1)

write_fits : (c : Config) (fd at : ℕ) (bytes : List ℕ) (b : Beginning) → fits_call c.sites (call.Write fd at bytes) ≡ true → CallFits c (call.Write fd at bytes) (cond (is_too_long (call.Write fd at bytes)) (begins.Denied refusal.TooLong) b)
write_fits c fd at bytes b h = over (nat_lt file_bytes_max (at + length bytes)) refl b
  where
    short : nat_lt file_bytes_max (at + length bytes) ≡ false → at + length bytes ≤ file_bytes_max
    short e = grind (arith, nat_tests)

    by_begin : (b : Beginning) → at + length bytes ≤ file_bytes_max → CallFits c (call.Write fd at bytes) b
    by_begin (begins.Denied why) le = h
    by_begin (begins.Uses e inst) le = (let k : (1 ≤ length bytes) × (length bytes ≤ 4096) = write_lengths c.sites fd at bytes h in (k.0, k.1, le))
    by_begin (begins.Walks id) le = h
    by_begin (begins.Reopens kept last) le = h
    by_begin begins.Frees le = h

    over : (t : Bool) → nat_lt file_bytes_max (at + length bytes) ≡ t → (b : Beginning) → CallFits c (call.Write fd at bytes) (cond t (begins.Denied refusal.TooLong) b)
    over true e b = h
    over false e b = by_begin b (short e)

-- a read that opens a version again does so of a file
read_fits : (c : Config) (fd at len : ℕ) (now : Option EpochId) (o : Option Descriptor) → EntryFits o → fits_call c.sites (call.Read fd at len) ≡ true → CallFits c (call.Read fd at len) (begins_read now o)
read_fits c fd at len now None k h = h
read_fits c fd at len now (Some d) k h = over (is_in now d.epoch)
  where
    stale : (at_epoch : Option EpochId) (kept : Option OneVersion) → KeptFits kept → CallFits c (call.Read fd at len) (stale_or (begins_again at_epoch d.epoch) d.epoch kept)
    stale at_epoch None fits = h
    stale None (Some kept) fits = h
    stale (Some e) (Some kept) fits = (h, fits)

    over : (b : Bool) → CallFits c (call.Read fd at len) (cond b (begins.Uses d.epoch d.inst) (stale_or (begins_again now d.epoch) d.epoch d.steady))
    over true = h
    over false = stale now d.steady k

-- the words of a line, where the call begins by them
pub call_fits : (c : Config) (table : ℕ → Option Descriptor) (now : Option EpochId) (id : CallId) (words : Call) → ((fd : ℕ) → EntryFits (table fd)) → fits_call c.sites words ≡ true → is_name (message_name id) ≡ true → CallFits c words (beginning table now id words)
call_fits c table now id (call.Mend file) entries h named = absurd (cc)
call_fits c table now id (call.Read fd at len) entries h named = read_fits c fd at len now (table fd) (entries fd) h
call_fits c table now id (call.Write fd at bytes) entries h named = write_fits c fd at bytes (begins_change now (table fd)) h
call_fits c table None id (call.Mail path bytes) entries h named = h
call_fits c table (Some e) id (call.Mail path bytes) entries h named = (h, named)
call_fits c table now id _ entries h named = h

pub call_done : (f : Frame) (g : Grounds f.config) (now : Option EpochId) (process : ℕ) (words : Call) (v : SiteView) → processes.Fits process → CallFits f.config words (beginning (descriptors_of v.users process) now (own_call f.me f.boot (v.users.calls + 1)) words) → SiteValues f.config f.members.boot v → AskingDone f.config f.members.boot (at_users (on_call f now process words) v)
call_done f g now process words v p k h = users_done f.config f.members.boot (on_call f now process words v.users) v h (on_call_fits f g.scripts g.packs now process words v.users p k h.users)

no_process : processes.Fits 0
no_process = (refl, omega arith)

module _ (f : Frame) (g : Grounds f.config) where
  mend_of_done : (t : SyncTable) (o : Option FileRow) (v : SiteView) → TableFits f.members.boot t → Found (FileFits f.members.boot) o → SiteValues f.config f.members.boot v → AskingDone f.config f.members.boot (starts_mend_of f t o v)
  mend_of_done t None v k found h = quiet_asking f.config f.members.boot v h
  mend_of_done t (Some r) v k found h = call_done f g (Some f.epoch) 0 (call.Mend (row_file t r)) v no_process (k.group, found.ino) h

  mend_done : (t : SyncTable) (v : SiteView) → TableFits f.members.boot t → SiteValues f.config f.members.boot v → AskingDone f.config f.members.boot (starts_mend f t v)
  mend_done t v k h = over (t.started && not (has_mend_in v.users t.group))
    where
      over : (b : Bool) → AskingDone f.config f.members.boot (elim b as (λ (x : Bool). Outcome SiteView) [ true ↦ starts_mend_of f t (first_that (wants_mend v t) t.files) v | false ↦ quiet v ])
      over true = mend_of_done t (first_that (wants_mend v t) t.files) v k (first_found (FileFits f.members.boot) (wants_mend v t) t.files k.files) h
      over false = quiet_asking f.config f.members.boot v h

  pub mends_done : (ts : List SyncTable) (v : SiteView) → Every (TableFits f.members.boot) ts → SiteValues f.config f.members.boot v → AskingDone f.config f.members.boot (starts_mends_in f ts v)
  mends_done [] v k h = quiet_asking f.config f.members.boot v h
  mends_done (t ∷ ts) v k h =
      let o : AskingDone f.config f.members.boot (starts_mend f t v) = mend_done t v k.0 h in
      let now : SiteView = (starts_mend f t v).view in
      let rest : AskingDone f.config f.members.boot (starts_mends_in f ts now) = mends_done ts now k.1 o.view in
      record { sent = every_append (AskedFits f.members.boot) (starts_mend f t v).sent (starts_mends_in f ts now).sent o.sent rest.sent; view = rest.view }

  -- ---- what is sent again ----

  pub reports_fit : (v : SiteView) → SiteValues f.config f.members.boot v → Every (AskedFits f.members.boot) (all_reports f v)
  reports_fit v h = every_flat (λ (n : ℕ). n < 2 ^ 8) (AskedFits f.members.boot) (report_packets f v) v.reports (λ n low. sync_asks f n (body.Report n (report_of n v.store.copies)) (low, report_fits n v.store.copies h.store.copies) (λ boots. tt)) h.reports

  pub inside_repeats : (fit : AreBoots f.members.boot) (own : IsListed f.members.boot f.me) (e : InEpoch) (v : SiteView) → SiteValues f.config f.members.boot v → Every (SentFits f.members.boot) (repeats_inside f e v)
  inside_repeats fit own e v h =
      every_append (SentFits f.members.boot) (in_order (all_reports f v)) _ (order_sent (SentFits f.members.boot) (all_reports f v) (asked_sent f.members.boot (all_reports f v) (reports_fit v h)))
      (every_append (SentFits f.members.boot) (users_repeats f v.users) _ (asked_sent f.members.boot (users_repeats f v.users) (users_repeats_fit f v.users h.users))
      (every_append (SentFits f.members.boot) (in_order (store_repeats f v.store)) _ (order_sent (SentFits f.members.boot) (store_repeats f v.store) (store_repeats_fit f v.store h.store))
      (every_append (SentFits f.members.boot) (in_order (pull_repeats f v.pulls)) _ (order_sent (SentFits f.members.boot) (pull_repeats f v.pulls) (pull_repeats_fit f v.pulls h.pulls))
      (order_sent (SentFits f.members.boot) (flat_map (sync_repeats f) v.tables) (every_flat (TableFits f.members.boot) (SentFits f.members.boot) (sync_repeats f) v.tables (λ t k. sync_repeats_fit f fit own t k) h.tables)))))
