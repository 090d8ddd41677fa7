-- What an event of a site tells is neither a begin nor a reserve, but where its store is asked to open.
use Rattle.std.proofs.Common.{◌≡◌, ℕ, ◌+◌, true, false, List, [], ◌∷◌, ◌++◌, Option, Some, None, refl, sym, ap, subst, ◌⊎◌, inl, inr}
use Rattle.locus_ids.specs.declared.sites.Links.{Links}
use Rattle.locus_ids.specs.declared.config.Config.{Config}
use Rattle.wire_messages.specs.declared.packet.Packet.{Packet}
use Rattle.wire_messages.specs.declared.body.Body.{Body}
use Rattle.wire_messages.specs.declared.body.Body.TheVariants as body
use Rattle.wire_messages.specs.declared.body.ReportedCopy.{ReportedCopy}
use Rattle.role_steps.specs.Own.{Every}
use Rattle.role_steps.specs.Tables.{row, first_that}
use Rattle.role_steps.specs.Views.{Frame, SiteView, Told, Outcome, Event, Receives, quiet, tells}
use Rattle.role_steps.specs.Opens.{on_opened}
use Rattle.role_steps.specs.Reports.{on_report, on_closed, on_have}
use Rattle.role_steps.specs.Storage.{StoreRequest, instance_of, on_open_ss}
use Rattle.role_steps.specs.Epochs.{frame_in}
use Rattle.role_steps.specs.Adoption.{table_group}
use Rattle.role_steps.specs.Mends.{mending}
use Rattle.role_steps.specs.declared.rounds.InEpoch.{InEpoch}
use Rattle.role_steps.specs.declared.synchronizing.SyncTable.{SyncTable}
use Rattle.the_run.specs.Steps.{from_user, group_of, at_table_of, is_opened_in, takes_inside, is_dropped, takes_framed, takes, tries_at, ends_event, whole, step}
use Rattle.the_run.proofs.InsideSync.{Found, row_found}
use Rattle.the_run.specs.Roles.{IsForTable, IsForStore}
use Rattle.site_laws.proofs.Makes.Telling.{Groups, AnyGroup, At, storing_one}
use Rattle.site_laws.proofs.Makes.EventTells as events
use Rattle.site_laws.proofs.Makes.TablesTell.{TableTells, on_open_tells, on_opened_tells, on_look_tells, on_closed_tells, on_report_tells}
use Rattle.site_laws.proofs.Makes.StoresTell.{on_close_tells, on_closed_ok_tells, on_op_tells, on_read_held_tells}

-- ---- outcomes of a site ----

abbrev pub SiteTells : Groups → Outcome SiteView → Type 0
SiteTells G o = Every (At G) o.told

table_part : (G : Groups) (g : SyncTable → Outcome SyncTable) (o : Option SyncTable) (v : SiteView) → ((t : SyncTable) → TableTells G (g t)) → SiteTells G (at_table_of g o v)
table_part G g None v h = tt
table_part G g (Some t) v h = h t

-- the tables of a site are of such groups
abbrev pub TablesAt : Groups → List SyncTable → Type 0
TablesAt G ts = Every (λ (t : SyncTable). G t.group) ts

report_part : (G : Groups) (f : Frame) (from : ℕ) (xs : List ReportedCopy) (o : Option SyncTable) (v : SiteView) → Found (λ (t : SyncTable). G t.group) o → SiteTells G (at_table_of (on_report f from xs) o v)
report_part G f from xs None v h = tt
report_part G f from xs (Some t) v h = on_report_tells G f from xs t h

-- the body doesn't ask a storage site to open
abbrev NoOpenSs : Body → Type 0
NoOpenSs (body.OpenSs inst file mode set kind base vector parents) = ⊥
NoOpenSs _ = Unit {0}

tables_tell : (G : Groups) (f : Frame) (from : ℕ) (v : SiteView) → TablesAt G v.tables → (x : Body) → IsForTable x → SiteTells G (takes_inside f from x v)
tables_tell G f from v ts (body.Report group copies) is = report_part G f from copies (row table_group group v.tables) v (row_found (λ (t : SyncTable). G t.group) table_group group v.tables ts)
tables_tell G f from v ts (body.Open serial call process request file how) is = table_part G _ (row table_group file.group v.tables) v (on_open_tells G f from (record { serial = serial; call = call; process = process; request = request; file = file; how = how }))
tables_tell G f from v ts (body.Opened inst answer) is = table_part G (on_opened f inst answer) (first_that (is_opened_in inst) v.tables) v (on_opened_tells G f inst answer)
tables_tell G f from v ts (body.Closed inst made) is = table_part G (on_closed f from inst made) (first_that (is_opened_in inst) v.tables) v (on_closed_tells G f from inst made)
tables_tell G f from v ts (body.Look call process request take file what) is = table_part G _ (row table_group file.group v.tables) v (on_look_tells G f from (record { call = call; process = process; request = request; take = take; file = file; what = what }))
tables_tell G f from v ts (body.Have file stamp) is = table_part G (on_have from file stamp) (row table_group file.group v.tables) v (λ t. tt)
tables_tell G f from v ts _ is = absurd is

stores_tell : (G : Groups) (f : Frame) (from : ℕ) (v : SiteView) → (x : Body) → IsForStore x → NoOpenSs x → SiteTells G (takes_inside f from x v)
stores_tell G f from v (body.OpenSs inst file mode set kind base vector parents) is h = absurd h
stores_tell G f from v (body.Op serial n o seen) is h = events.all_stored (At G) (storing_one G) _ (on_op_tells f (mending v (group_of (instance_of v.store (from_user from serial)))) (from_user from serial) n o seen v.store)
stores_tell G f from v (body.ReadHeld serial n at len) is h = events.all_stored (At G) (storing_one G) _ (on_read_held_tells f (from_user from serial) n at len v.store)
stores_tell G f from v (body.Close serial) is h = events.all_stored (At G) (storing_one G) _ (on_close_tells f (from_user from serial) v.store)
stores_tell G f from v (body.ClosedOk inst) is h = events.all_stored (At G) (storing_one G) _ (on_closed_ok_tells f inst v.store)
stores_tell G f from v _ is h = absurd is

inside_told : (G : Groups) (f : Frame) (from : ℕ) (x : Body) (v : SiteView) → TablesAt G v.tables → NoOpenSs x → SiteTells G (takes_inside f from x v)
inside_told G f from x v ts h = events.inside_tells (At G) (storing_one G) NoOpenSs f from v (λ y is k. tables_tell G f from v ts y is) (stores_tell G f from v) x h

-- ---- the step ----

abbrev pub open_body : StoreRequest → Body
open_body r = body.OpenSs r.inst r.file r.mode r.set r.kind r.base r.vector r.parents

-- the event is an open that is asked of this store, and tells first what the store tells of it
pub record IsOpened (G : Groups) (c : Config) (me : ℕ) (v : SiteView) (e : Event) (told : List Told) : Type 0 where
  pub packet : Packet
  pub event : e ≡ Receives packet
  pub taken : is_dropped packet v ≡ false
  pub epoch : InEpoch
  pub here : v.epoch ≡ Some epoch
  pub asked : StoreRequest
  pub body_is : packet.body ≡ open_body asked
  pub after : List Told
  pub told_is : told ≡ (on_open_ss (frame_in c me v.boot epoch) asked v.store).told ++ after
  pub plain : Every (At G) after

abbrev pub ToldAs : Groups → Config → ℕ → SiteView → Event → List Told → Type 0
ToldAs G c me v e told = Every (At G) told ⊎ IsOpened G c me v e told

framed_tells : (G : Groups) (c : Config) (me : ℕ) (p : Packet) (x : Body) (e : Option InEpoch) (v : SiteView) → TablesAt G v.tables → p.body ≡ x → NoOpenSs x → SiteTells G (takes_framed c me p e v)
framed_tells G c me p x None v ts q h = tt
framed_tells G c me p x (Some e) v ts q h = inside_told G (frame_in c me v.boot e) p.from p.body v ts (subst NoOpenSs (sym q) h)

opened_tells : (G : Groups) (c : Config) (me : ℕ) (links : Links) (p : Packet) (r : StoreRequest) (o : Option InEpoch) (v : SiteView) → p.body ≡ open_body r → is_dropped p v ≡ false → v.epoch ≡ o → ToldAs G c me v (Receives p) (whole c me links (takes_framed c me p o v) quiet).told
opened_tells G c me links p r None v q d here = inl (events.whole_tells (At G) (storing_one G) c me links (quiet v) quiet tt tt)
opened_tells G c me links p r (Some e) v q d here =
    let o : Outcome SiteView = takes_framed c me p (Some e) v in
    let last : Outcome SiteView = ends_event c me links o.view in
    inr (record {
      packet = p;
      event = refl;
      taken = d;
      epoch = e;
      here = here;
      asked = r;
      body_is = q;
      after = last.told;
      told_is = ap (λ (x : Body). (takes_inside (frame_in c me v.boot e) p.from x v).told ++ last.told) q;
      plain = events.ends_tells (At G) (storing_one G) c me links o.view;
    })

took : (G : Groups) (c : Config) (me : ℕ) (links : Links) (p : Packet) (x : Body) (v : SiteView) → TablesAt G v.tables → p.body ≡ x → is_dropped p v ≡ false → ToldAs G c me v (Receives p) (whole c me links (takes c me links p x v) (tries_at c me x)).told
took G c me links p (body.OpenSs inst file m set kind base vector parents) v ts q d = opened_tells G c me links p (record { inst = inst; file = file; mode = m; set = set; kind = kind; base = base; vector = vector; parents = parents }) v.epoch v q d refl
took G c me links p x v ts q d = inl (events.took (At G) (storing_one G) c me links p x v (framed_tells G c me p x v.epoch v ts q tt))

abbrev Took : Groups → Config → ℕ → SiteView → Packet → Outcome SiteView → Type 0
Took G c me v p o = ToldAs G c me v (Receives p) o.told

-- an event tells neither begins nor reserves, or first what the store tells of an open that is asked of it
pub step_tells : (G : Groups) (c : Config) (me : ℕ) (links : Links) (v : SiteView) (e : Event) → TablesAt G v.tables → ToldAs G c me v e (step c me links v e).told
step_tells G c me links v (Receives p) ts =
    (elim (is_dropped p v) as (λ t. is_dropped p v ≡ t → Took G c me v p (elim t [ true ↦ quiet v | false ↦ whole c me links (takes c me links p p.body v) (tries_at c me p.body) ])) [
      | true ↦ λ d. inl tt
      | false ↦ λ d. took G c me links p p.body v ts refl d
    ]) refl
step_tells G c me links v e ts = inl (events.step_tells (At G) (storing_one G) c me links v e tt)

-- by the begins and reserves alone
pub step_plain : (c : Config) (me : ℕ) (links : Links) (v : SiteView) (e : Event) → ToldAs AnyGroup c me v e (step c me links v e).told
step_plain c me links v e = step_tells AnyGroup c me links v e (any v.tables)
  where
    any : (ts : List SyncTable) → TablesAt AnyGroup ts
    any [] = tt
    any (t ∷ ts) = (tt, any ts)
