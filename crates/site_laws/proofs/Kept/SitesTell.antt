-- What an event of a site tells, by any property that all has but what closes an instance, where that has it too.
use Rattle.std.proofs.Common.{◌≡◌, ℕ, false, Option, Some, None, refl}
use Rattle.locus_ids.specs.declared.ids.EpochId.{EpochId}
use Rattle.locus_ids.specs.declared.ids.FileId.{FileId}
use Rattle.locus_ids.specs.declared.ids.Serial.{Serial}
use Rattle.locus_ids.specs.declared.ids.Mode.{Mode}
use Rattle.locus_ids.specs.declared.ids.Mode.TheVariants as mode
use Rattle.locus_ids.specs.declared.sites.Links.{Links}
use Rattle.locus_ids.specs.declared.config.Config.{Config}
use Rattle.wire_messages.specs.declared.packet.Packet.{Packet}
use Rattle.wire_messages.specs.declared.body.Body.{Body}
use Rattle.wire_messages.specs.declared.body.Body.TheVariants as body
use Rattle.role_steps.specs.Own.{Every}
use Rattle.role_steps.specs.Tables.{row, first_that}
use Rattle.role_steps.specs.Views.{Frame, Store, SiteView, Told, Begins, Reserves, Outcome, Event, Receives, tells}
use Rattle.role_steps.specs.Opens.{on_opened}
use Rattle.role_steps.specs.Reports.{on_report, on_closed, on_have}
use Rattle.role_steps.specs.Storage.{StoreRequest, instance_of, own_ino, opens_made, opens, on_open_ss_of}
use Rattle.role_steps.specs.Epochs.{frame_in}
use Rattle.role_steps.specs.Adoption.{table_group}
use Rattle.role_steps.specs.Mends.{mending}
use Rattle.role_steps.specs.declared.instances.Instance.{Instance}
use Rattle.role_steps.specs.declared.rounds.InEpoch.{InEpoch}
use Rattle.role_steps.specs.declared.synchronizing.SyncTable.{SyncTable}
use Rattle.the_run.specs.Steps.{from_user, group_of, at_table_of, is_opened_in, takes_inside, is_dropped, takes_framed, step}
use Rattle.the_run.proofs.InsideSync.{Found, first_found}
use Rattle.the_run.specs.Roles.{IsForTable, IsForStore}
use Rattle.site_laws.proofs.Makes.Telling.{Aside, Storing, storing_aside_one}
use Rattle.site_laws.proofs.Makes.EventTells as events
use Rattle.site_laws.proofs.Makes.StoresTell.{on_close_tells, on_closed_ok_tells, on_op_tells, on_read_held_tells}
use Rattle.site_laws.proofs.Kept.TablesTell.{OfTables, on_open_tells, on_opened_tells, on_look_tells, on_report_tells}

-- ---- outcomes of a site ----

-- a property of what is told that all has but releases
pub record OfSites (P : Told → Type 0) : Type 0 where
  pub aside : (x : Told) → Aside x → P x
  pub reserving : (s : ℕ) (e : EpochId) (inst : Serial) (file : FileId) → P (Reserves s e inst file)
  pub tables : OfTables P

-- all that an outcome tells has it
abbrev pub SiteTells : (Told → Type 0) → Outcome SiteView → Type 0
SiteTells P o = Every P o.told

stored : (P : Told → Type 0) → OfSites P → (x : Told) → Storing x → P x
stored P each x h = each.aside x (storing_aside_one x h)

-- ---- packets inside the epoch ----

table_part : (P : Told → Type 0) → OfSites P → (g : SyncTable → Outcome SyncTable) (o : Option SyncTable) (v : SiteView) → ((t : SyncTable) → Every P (g t).told) → SiteTells P (at_table_of g o v)
table_part P each g None v h = tt
table_part P each g (Some t) v h = h t

closed_part : (P : Told → Type 0) (g : SyncTable → Outcome SyncTable) (o : Option SyncTable) (v : SiteView) → Found (λ (t : SyncTable). Every P (g t).told) o → SiteTells P (at_table_of g o v)
closed_part P g None v h = tt
closed_part P g (Some t) v h = h

made_tells : (P : Told → Type 0) → OfSites P → (f : Frame) (r : StoreRequest) (o : Option ℕ) (s : Store) → Every P (opens_made f r o s).told
made_tells P each f r None s = tt
made_tells P each f r (Some ino) s = let file : FileId = record { group = r.file.group; ino = ino } in (each.aside (Begins f.me f.epoch r.inst file) tt, (each.reserving f.me f.epoch r.inst file, tt))

opens_tells : (P : Told → Type 0) → OfSites P → (f : Frame) (r : StoreRequest) (m : Mode) (s : Store) → Every P (opens f r m s).told
opens_tells P each f r mode.Make s = made_tells P each f r (own_ino s r.file.group f.me) s
opens_tells P each f r m s = (each.aside (Begins f.me f.epoch r.inst r.file) tt, tt)

open_ss_tells : (P : Told → Type 0) → OfSites P → (f : Frame) (r : StoreRequest) (o : Option Instance) (s : Store) → Every P (on_open_ss_of f r o s).told
open_ss_tells P each f r None s = opens_tells P each f r r.mode s
open_ss_tells P each f r (Some i) s = tt

-- what closes an instance has it, at whichever table of the site
abbrev pub ClosesTell : (Told → Type 0) → Frame → ℕ → SiteView → Body → Type 0
ClosesTell P f from v (body.Closed inst made) = Every (λ (t : SyncTable). Every P (on_closed f from inst made t).told) v.tables
ClosesTell P f from v _ = Unit {0}

tables_tell : (P : Told → Type 0) → OfSites P → (f : Frame) (from : ℕ) (v : SiteView) (x : Body) → IsForTable x → ClosesTell P f from v x → SiteTells P (takes_inside f from x v)
tables_tell P each f from v (body.Report group copies) is h = table_part P each (on_report f from copies) (row table_group group v.tables) v (on_report_tells P each.tables f from copies)
tables_tell P each f from v (body.Open serial call process request file how) is h = table_part P each _ (row table_group file.group v.tables) v (on_open_tells P each.tables f from (record { serial = serial; call = call; process = process; request = request; file = file; how = how }))
tables_tell P each f from v (body.Opened inst answer) is h = table_part P each (on_opened f inst answer) (first_that (is_opened_in inst) v.tables) v (on_opened_tells P each.tables f inst answer)
tables_tell P each f from v (body.Closed inst made) is h = closed_part P (on_closed f from inst made) (first_that (is_opened_in inst) v.tables) v (first_found (λ (t : SyncTable). Every P (on_closed f from inst made t).told) (is_opened_in inst) v.tables h)
tables_tell P each f from v (body.Look call process request take file what) is h = table_part P each _ (row table_group file.group v.tables) v (on_look_tells P each.tables f from (record { call = call; process = process; request = request; take = take; file = file; what = what }))
tables_tell P each f from v (body.Have file stamp) is h = table_part P each (on_have from file stamp) (row table_group file.group v.tables) v (λ t. tt)
tables_tell P each f from v _ is h = absurd is

stores_tell : (P : Told → Type 0) → OfSites P → (f : Frame) (from : ℕ) (v : SiteView) (x : Body) → IsForStore x → ClosesTell P f from v x → SiteTells P (takes_inside f from x v)
stores_tell P each f from v (body.OpenSs inst file mode set kind base vector parents) is h = let r : StoreRequest = record { inst = inst; file = file; mode = mode; set = set; kind = kind; base = base; vector = vector; parents = parents } in open_ss_tells P each f r (instance_of v.store inst) v.store
stores_tell P each f from v (body.Op serial n o seen) is h = events.all_stored P (stored P each) _ (on_op_tells f (mending v (group_of (instance_of v.store (from_user from serial)))) (from_user from serial) n o seen v.store)
stores_tell P each f from v (body.ReadHeld serial n at len) is h = events.all_stored P (stored P each) _ (on_read_held_tells f (from_user from serial) n at len v.store)
stores_tell P each f from v (body.Close serial) is h = events.all_stored P (stored P each) _ (on_close_tells f (from_user from serial) v.store)
stores_tell P each f from v (body.ClosedOk inst) is h = events.all_stored P (stored P each) _ (on_closed_ok_tells f inst v.store)
stores_tell P each f from v _ is h = absurd is

-- ---- the step ----

-- what a packet closes in the epoch of the site has it
abbrev pub FramedTell : (Told → Type 0) → Config → ℕ → Packet → SiteView → Type 0
FramedTell P c me p v = (e : InEpoch) → v.epoch ≡ Some e → ClosesTell P (frame_in c me v.boot e) p.from v p.body

framed_tells : (P : Told → Type 0) → OfSites P → (c : Config) (me : ℕ) (p : Packet) (e : Option InEpoch) (v : SiteView) → v.epoch ≡ e → FramedTell P c me p v → SiteTells P (takes_framed c me p e v)
framed_tells P each c me p None v here h = tt
framed_tells P each c me p (Some e) v here h = let f : Frame = frame_in c me v.boot e in events.inside_tells P (stored P each) (ClosesTell P f p.from v) f p.from v (tables_tell P each f p.from v) (stores_tell P each f p.from v) p.body (h e here)

-- what the packet of an event closes has it
abbrev pub EventTells : (Told → Type 0) → Config → ℕ → SiteView → Event → Type 0
EventTells P c me v (Receives p) = is_dropped p v ≡ false → FramedTell P c me p v
EventTells P c me v _ = Unit {0}

pub step_tells : (P : Told → Type 0) → OfSites P → (c : Config) (me : ℕ) (links : Links) (v : SiteView) (e : Event) → EventTells P c me v e → SiteTells P (step c me links v e)
step_tells P each c me links v (Receives p) h = events.step_tells P (stored P each) c me links v (Receives p) (λ d. framed_tells P each c me p v.epoch v refl (h d))
step_tells P each c me links v e h = events.step_tells P (stored P each) c me links v e tt
