-- What comes to a storage site may be taken.
use Rattle.std.proofs.Common.{◌≡◌, ◌+◌, ◌≤◌, ℕ, List, length, Option, None, Some, refl}
use Rattle.locus_ids.specs.declared.config.Config.{Config}
use Rattle.locus_ids.specs.declared.ids.Serial.{Serial}
use Rattle.schedule_lines.specs.declared.line.ScheduleLine.{ScheduleLine}
use Rattle.trace_book.specs.declared.operation.Op.{Op}
use Rattle.trace_book.specs.declared.operation.Op.TheVariants as op
use Rattle.wire_messages.specs.declared.body.Body.{Body}
use Rattle.wire_messages.specs.declared.body.Body.TheVariants as body
use Rattle.role_steps.specs.Adoption.{table_group}
use Rattle.role_steps.specs.Epochs.{frame_in}
use Rattle.role_steps.specs.OperationEffects.{Mending}
use Rattle.role_steps.specs.Own.{Every}
use Rattle.role_steps.specs.Storage.{instance_key, instance_of}
use Rattle.role_steps.specs.Tables.{row}
use Rattle.role_steps.specs.Views.{Frame, SiteView, Store, serial_key}
use Rattle.role_steps.specs.declared.instances.Instance.{Instance}
use Rattle.role_steps.specs.declared.instances.Stage.{Stage}
use Rattle.role_steps.specs.declared.instances.Stage.TheVariants as stage
use Rattle.role_steps.specs.declared.rounds.InEpoch.{InEpoch}
use Rattle.role_steps.specs.declared.synchronizing.SyncTable.{SyncTable}
use Rattle.the_run.specs.Kept.{WasSent}
use Rattle.the_run.specs.Runs.{run_in}
use Rattle.the_run.specs.Steps.{from_user, group_of}
use Rattle.the_run.specs.Worlds.{Numbered, Running, place_at}
use Rattle.packet_laws.specs.of_row_laws.Voids.{LinesFit}
use Rattle.packet_laws.specs.of_tree_laws.Orders.Joining.{PacksAreOfSites}
use Rattle.packet_laws.proofs.of_store_laws.OneTree.Rising.{every_among, row_key}
use Rattle.site_node.specs.of_store_instances.Fitting.{CanClose, CanCommit, CanExecute, CanOperate}
use Rattle.site_node.specs.of_storage_site.Fitting.{CanCloseAt, CanCloseOf, CanOperateAt, CanOperateOf}
use Rattle.site_node.specs.of_site_parts.Fitting.{AreInodesOf, CanRest, CanTakeAtStore}
use Rattle.calm_laws.specs.of_rest_laws.Fits.Inodes.{AreInodes}
use Rattle.calm_laws.specs.of_rest_laws.Fits.Opens.{OpensForSite}
use Rattle.calm_laws.specs.of_rest_laws.Fits.Storing.{AreStorable, MayStore, RunsStorable}
use Rattle.calm_laws.proofs.of_rest_laws.Fits.Opens.{run_opens}
use Rattle.calm_laws.proofs.of_rest_laws.Fits.Running.{run_storable}
use Rattle.calm_laws.proofs.of_rest_laws.Fits.Tables.{run_tables}
use Rattle.complete_laws.specs.FitCallJoining.{HasGroups, JoinsIf, JoinsIfMend}

-- where a mend is the next operation of an instance that runs, its contents can be joined
abbrev pub JoinsNext : Store → Mending → Serial → ℕ → Op → Type 0
JoinsNext s m inst n o = (i : Instance) → instance_of s inst ≡ Some i → i.stage ≡ stage.Running → n ≡ i.work.ops + 1 → JoinsIf m o

abbrev pub JoinsBody : Store → (Serial → Mending) → ℕ → Body → Type 0
JoinsBody s m from (body.Op serial n o seen) = JoinsNext s (m (from_user from serial)) (from_user from serial) n o
JoinsBody s m from _ = Unit {0}

module _ (c : Config) (f : Frame) (groups : List ℕ) (packs : HasGroups c f.me groups) (s : Store) (all : AreStorable c f s) where
  -- what may be stored can be
  stores : (i : Instance) → MayStore c f s i → CanCommit f groups s.copies i
  stores i k owes unspent = record { group = packs i.file.group k.packed; room = k.room; low = k.number.0; high = k.number.1; version = k.version; pages = k.pages; kept = k.kept }

  executes : (m : Mending) (i : Instance) (o : Op) → JoinsIf m o → MayStore c f s i → CanExecute f m groups s.copies i o
  executes m i op.Commit joins k = stores i k
  executes m i op.Mend joins k = joins
  executes m i (op.Probe name) joins k = tt
  executes m i (op.Find component) joins k = tt
  executes m i (op.Insert name ino kind) joins k = tt
  executes m i (op.Remove name ino) joins k = tt
  executes m i (op.Rename component name) joins k = tt
  executes m i op.Empty joins k = tt
  executes m i (op.Read at len) joins k = tt
  executes m i (op.Write at bytes) joins k = tt
  executes m i (op.Cut len) joins k = tt
  executes m i op.Abort joins k = tt

  operates : (m : Mending) (i : Instance) (g : Stage) (n : ℕ) (o : Op) → (g ≡ stage.Running → n ≡ i.work.ops + 1 → JoinsIf m o) → RunsStorable c f s i g → CanOperate f m groups s.copies i g n o
  operates m i stage.Running n o joins k = λ next. executes m i o (joins refl next) k
  operates m i (stage.Closing made a) n o joins k = tt
  operates m i (stage.Closed a) n o joins k = tt

  closes : (i : Instance) (g : Stage) → RunsStorable c f s i g → CanClose f groups s.copies i g
  closes i stage.Running k = stores i k
  closes i (stage.Closing made a) k = tt
  closes i (stage.Closed a) k = tt

  -- the instance of this name
  its : (inst : Serial) (i : Instance) → instance_of s inst ≡ Some i → RunsStorable c f s i i.stage
  its inst i e = every_among (λ (j : Instance). RunsStorable c f s j j.stage) i s.instances (row_key instance_key (serial_key inst) s.instances i e).0 all

  operates_of : (m : Mending) (inst : Serial) (n : ℕ) (o : Op) → JoinsNext s m inst n o → (x : Option Instance) → instance_of s inst ≡ x → CanOperateOf f m groups s.copies n o x
  operates_of m inst n o joins None e = tt
  operates_of m inst n o joins (Some i) e = operates m i i.stage n o (joins i e) (its inst i e)

  closes_of : (inst : Serial) (x : Option Instance) → instance_of s inst ≡ x → CanCloseOf f groups s.copies x
  closes_of inst None e = tt
  closes_of inst (Some i) e = closes i i.stage (its inst i e)

  pub operates_at : (m : Mending) (inst : Serial) (n : ℕ) (o : Op) → JoinsNext s m inst n o → CanOperateAt f m groups inst n o s
  operates_at m inst n o joins = operates_of m inst n o joins (instance_of s inst) refl

  pub closes_at : (inst : Serial) → CanCloseAt f groups inst s
  closes_at inst = closes_of inst (instance_of s inst) refl

-- ---- tables ----

table_inodes : (tables : List SyncTable) → Every AreInodes tables → (group : ℕ) (o : Option SyncTable) → row table_group group tables ≡ o → AreInodesOf o
table_inodes tables all group None e = tt
table_inodes tables all group (Some t) e = every_among AreInodes t tables (row_key table_group group tables t e).0 all

rests : (tables : List SyncTable) → Every AreInodes tables → (group : ℕ) (o : Op) → CanRest tables group o
rests tables all group op.Mend = table_inodes tables all group (row table_group group tables) refl
rests tables all group op.Commit = tt
rests tables all group op.Abort = tt
rests tables all group (op.Probe name) = tt
rests tables all group (op.Find component) = tt
rests tables all group (op.Insert name ino kind) = tt
rests tables all group (op.Remove name ino) = tt
rests tables all group (op.Rename component name) = tt
rests tables all group op.Empty = tt
rests tables all group (op.Read at len) = tt
rests tables all group (op.Write at bytes) = tt
rests tables all group (op.Cut len) = tt

-- ---- a packet ----

pub takes_at : (c : Config) (f : Frame) (groups : List ℕ) → HasGroups c f.me groups → (tables : List SyncTable) → Every AreInodes tables → (s : Store) → AreStorable c f s → (m : Serial → Mending) (from : ℕ) (b : Body) → OpensForSite b → JoinsBody s m from b → CanTakeAtStore f m tables groups f.me from b s
takes_at c f groups packs tables inodes s all m from (body.OpenSs inst file mode set kind base vector parents) site joins = record { low = site.low; high = site.high; own = λ make. refl }
takes_at c f groups packs tables inodes s all m from (body.Op serial n o seen) site joins = record {
  rests = rests tables inodes (group_of (instance_of s (from_user from serial))) o;
  operates = operates_at c f groups packs s all (m (from_user from serial)) (from_user from serial) n o joins;
}
takes_at c f groups packs tables inodes s all m from (body.Close serial) site joins = closes_at c f groups packs s all (from_user from serial)
takes_at c f groups packs tables inodes s all m from _ site joins = tt

joins_body : (s : Store) (m : Serial → Mending) (from : ℕ) (b : Body) → JoinsIfMend m from b → JoinsBody s m from b
joins_body s m from (body.Op serial n o seen) joins = λ i e q next. joins
joins_body s m from _ joins = tt

pub run_takes : (c : Config) (lines : List ScheduleLine) → LinesFit c lines → PacksAreOfSites c → length c.packs ≤ 4 → (x : Numbered) → WasSent (run_in c lines) x → (v : SiteView) (e : InEpoch) → place_at (run_in c lines) x.packet.to ≡ Some (Running v) → v.epoch ≡ Some e →
    (groups : List ℕ) → HasGroups c x.packet.to groups → (m : Serial → Mending) → JoinsIfMend m x.packet.from x.packet.body → CanTakeAtStore (frame_in c x.packet.to v.boot e) m v.tables groups x.packet.to x.packet.from x.packet.body v.store
run_takes c lines fit packs few x was v e here inside groups has m joins =
    takes_at c (frame_in c x.packet.to v.boot e) groups has v.tables (run_tables c lines fit packs few x.packet.to v here) v.store (run_storable c lines fit packs few x.packet.to v e here inside) m x.packet.from x.packet.body (run_opens c lines fit packs few x was) (joins_body v.store m x.packet.from x.packet.body joins)
