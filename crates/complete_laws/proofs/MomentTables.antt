-- Whatever comes to a site, the numbers in its tables are those of inodes before mends start.
use Rattle.std.proofs.Common.{◌≡◌, ℕ, ◌+◌, nat_lt, Bool, true, false, ◌&&◌, not, cond, List, [], ◌∷◌, map, filter, Option, None, Some, refl, sym, ◌∙◌, ap, subst, inl, inr, ◌⊎◌}
use Rattle.role_steps.proofs.of_plain_facts.Options.{none_some, some_same}
use Rattle.role_steps.proofs.of_plain_facts.Tests.{true_false}
use Rattle.locus_ids.specs.Sites.{has}
use Rattle.locus_ids.specs.declared.config.Config.{Config}
use Rattle.locus_ids.specs.declared.ids.EpochId.{EpochId}
use Rattle.locus_ids.specs.declared.ids.FileId.{FileId}
use Rattle.locus_ids.specs.declared.ids.Serial.{Serial}
use Rattle.locus_ids.specs.declared.sites.Links.{Links}
use Rattle.locus_ids.specs.declared.sites.Members.{Members}
use Rattle.locus_ids.specs.declared.sites.Sites.{Sites}
use Rattle.trace_book.specs.Same.{same_epoch}
use Rattle.trace_book.specs.declared.record.Record.{Record}
use Rattle.trace_book.specs.declared.record.Record.TheVariants as says
use Rattle.wire_messages.specs.declared.body.Body.{Body}
use Rattle.wire_messages.specs.declared.body.Body.TheVariants as body
use Rattle.wire_messages.specs.declared.body.MadeVersion.{MadeVersion}
use Rattle.wire_messages.specs.declared.body.ReportedCopy.{ReportedCopy}
use Rattle.wire_messages.specs.Bodies.{kind_number}
use Rattle.wire_messages.specs.declared.packet.Packet.{Packet}
use Rattle.role_steps.specs.Adoption.{adopts_first, adopts_pull, is_ready, notes_own_at, table_group, without_pull, with_adopted, fits_own}
use Rattle.role_steps.specs.Epochs.{begins_round, boots_where, joined_packet, promise_packet, refuse_packet, chosen_members, chosen_set, decides_if, frame_in, is_epoch_below, is_in, is_sync_site, joins, leaves_of, may_install, merge_boot, on_install, on_joined, on_poll, on_promise_of, on_refuse_of, own_groups, part_boot, passed_over, passes_over, passes_over_of, promises, reached, starts_merge, starts_part, starts_part_of, unanswered, leaves}
use Rattle.role_steps.specs.Opens.{open_key, open_row}
use Rattle.role_steps.specs.Own.{Every}
use Rattle.role_steps.specs.Reports.{new_table, on_closed, on_have_of, on_report}
use Rattle.role_steps.specs.Versions.{file_row}
use Rattle.role_steps.specs.Storage.{copy_of}
use Rattle.role_steps.specs.Tables.{first_that, row, without_row}
use Rattle.role_steps.specs.Views.{Frame, Outcome, Shown, SiteView, Told, Begins, and_then, quiet, sends, serial_key}
use Rattle.role_steps.specs.declared.pulls.Pull.{Pull}
use Rattle.role_steps.specs.declared.rounds.InEpoch.{InEpoch}
use Rattle.role_steps.specs.declared.rounds.Round.{Round}
use Rattle.role_steps.specs.declared.synchronizing.OpenRow.{OpenRow}
use Rattle.role_steps.specs.declared.synchronizing.OpenStage.TheVariants as stage
use Rattle.role_steps.specs.declared.synchronizing.SyncTable.{SyncTable}
use Rattle.the_run.specs.Kept.{Among}
use Rattle.the_run.specs.Steps.{adopts_in, adopts_of, at_table_of, is_dropped, is_opened_in, takes, takes_framed, takes_inside, tries_at}
use Rattle.the_run.specs.Worlds.{Line}
use Rattle.the_run.proofs.InsideSync.{every_row}
use Rattle.packet_laws.specs.of_site_laws.Vectors.Written as written
use Rattle.packet_laws.specs.of_site_laws.Vectors.Written.{InstancesAgree, past_of}
use Rattle.packet_laws.proofs.of_site_laws.Makes.Happening.{taken_epoch}
use Rattle.tree_laws.specs.Doing.{FrameFact}
use Rattle.tree_laws.specs.Instances.{IsStarted}
use Rattle.tree_laws.specs.Packets.{BodyFact, ClosedFact, IsReporter, MadeFact, MaybeMade, PacketFact, ReportFact, ReportedNow, ReportsNow, file_in}
use Rattle.tree_laws.specs.Past.{BeginsIt, GrantRecord, Printed, WasBegun, WasGranted}
use Rattle.tree_laws.specs.Tables.{IsGrantedNow, RowFact, StageFact, TableFact}
use Rattle.packet_laws.proofs.of_rest_laws.EpochTreeMembers.{reporter_counts}
use Rattle.packet_laws.specs.of_store_laws.OneTree.Places.{InsideFact, SiteFact, SiteIn}
use Rattle.packet_laws.specs.of_store_laws.OneTree.Rest.{Past}
use Rattle.packet_laws.proofs.of_store_laws.OneTree.Rising.{every_among, row_key}
use Rattle.calm_laws.specs.of_rest_laws.Fits.Inodes.{AreInodes, IsInodeNumber}
use Rattle.calm_laws.proofs.of_rest_laws.Fits.Numbers.{stands_inode}
use Rattle.calm_laws.proofs.of_rest_laws.Fits.Tables.{site_tables}
use Rattle.complete_laws.proofs.MomentRows.{Rows, close_rows, have_rows, on_look_files, on_open_files, on_opened_files, report_rows, rows_in, rows_out, same_rows}

abbrev pub OfInodes : SiteView → Type 0
OfInodes v = Every AreInodes v.tables

-- ---- what was begun is what was granted ----

begun_key : (t : List Line) (s : ℕ) (e : EpochId) (i : Serial) (f : FileId) → WasBegun t s e i f → written.WasBegun (past_of t) e (serial_key i) f
begun_key [] s e i f k = k
begun_key (x ∷ older) s e i f (inr k) = inr (begun_key older s e i f k)
begun_key (x ∷ older) s e i f (inl k) = inl (over x.told k)
  where
    over : (y : Told) → BeginsIt s e i f older y → written.Begun e (serial_key i) f y
    over (Begins site at inst file) k = (k.epoch_is, ap serial_key k.serial_is, k.file_is)
    over y k = absurd k

granted_key : (t : List Line) (e : EpochId) (d : _) (request : ℕ) (i : Serial) (m : _) (f : FileId) (stamp : _) (ss : ℕ) → WasGranted t e d request i m f stamp ss → written.WasGranted (past_of t) e (serial_key i) f
granted_key [] e d request i m f stamp ss k = k
granted_key (x ∷ older) e d request i m f stamp ss (inr k) = inr (granted_key older e d request i m f stamp ss k)
granted_key (x ∷ older) e d request i m f stamp ss (inl k) = inl (over x.told k)
  where
    of : (r : Record) → GrantRecord e d request i m f stamp ss older r → written.GrantedRecord e (serial_key i) f r
    of (says.Grant at call number inst mode file on place) k = (k.epoch_is, ap serial_key k.serial_is, k.file_is)
    of r k = absurd k

    over : (y : Told) → Printed (GrantRecord e d request i m f stamp ss) older y → written.Granted e (serial_key i) f y
    over (Shown r) k = of r k
    over y k = absurd k

-- ---- one table ----

module _ (c : Config) (t : List Line) (past : Past c t) (agree : InstancesAgree (past_of t)) (f : Frame) (frame : FrameFact c t f) (tab : SyncTable) (fact : TableFact c t f tab) where
  copies_inodes : (from : ℕ) (xs : List ReportedCopy) → Every (ReportedNow c t f.epoch from tab.group) xs → Every (λ (x : ReportedCopy). IsInodeNumber x.ino) xs
  copies_inodes from [] h = tt
  copies_inodes from (x ∷ xs) h = (stands_inode c (file_in tab.group x.ino) h.0.version.stamp t past.rest.each h.0.is_version.stands, copies_inodes from xs h.1)

  report_keeps : (from : ℕ) (xs : List ReportedCopy) → IsReporter c t f.epoch from tab.group → ReportFact c t f.epoch from tab.group xs → Rows tab → Rows (on_report f from xs tab).view
  report_keeps from xs reporter brought h = report_rows f from xs tab (λ new. over new brought) h
    where
      over : has tab.reported from ≡ false → IsStarted c t f.epoch tab.group ⊎ ReportsNow c t f.epoch from tab.group xs → Every (λ (x : ReportedCopy). IsInodeNumber x.ino) xs
      over new (inl started) = absurd (true_false (sym (reporter_counts c t f from tab past frame reporter (fact.all (fact.started ∙ started))).1 ∙ new))
      over new (inr now) = copies_inodes from xs now.each

  close_keeps : (from : ℕ) (inst : Serial) (made : Option MadeVersion) → ClosedFact c t f.epoch from inst made → Rows tab → Rows (on_closed f from inst made tab).view
  close_keeps from inst made closed h = close_rows f from inst made tab (λ r v found granted e. its r v found granted (subst (MaybeMade c t f.epoch from inst) e closed.version)) h
    where
      its : (r : OpenRow) (v : MadeVersion) → open_row tab inst ≡ Some r → r.stage ≡ stage.Granted → MadeFact c t f.epoch from inst v → IsInodeNumber r.file.ino
      its r v found granted made =
          let at : Among r tab.opens × (open_key r ≡ serial_key inst) = row_key open_key (serial_key inst) tab.opens r found in
          let opened : RowFact c t f.epoch tab.group r = every_among (RowFact c t f.epoch tab.group) r tab.opens at.0 fact.opens in
          let was : IsGrantedNow t f.epoch r opened.call = (subst (StageFact c t f.epoch r opened.call) granted opened.stage).0 in
          let same : made.file ≡ r.file = agree f.epoch (serial_key inst) made.file r.file (begun_key t from f.epoch inst made.file made.begun)
          (subst (λ (k : ℕ). written.WasGranted (past_of t) f.epoch k r.file) at.1 (granted_key t f.epoch opened.call r.request r.inst r.mode r.file r.stamp r.ss was.was_granted)) in
          subst (λ (g : FileId). IsInodeNumber g.ino) same (stands_inode c made.file made.version.stamp t past.rest.each made.is_version.stands)

-- ---- a packet in the epoch ----

first_among : {A : Type 0} (test : A → Bool) (xs : List A) (x : A) → first_that test xs ≡ Some x → Among x xs
first_among {A} test [] x e = absurd (none_some x e)
first_among {A} test (y ∷ ys) x e = over (test y) e (first_among test ys x)
  where
    over : (b : Bool) → elim b as (λ (z : Bool). Option A) [ true ↦ Some y | false ↦ first_that test ys ] ≡ Some x → (first_that test ys ≡ Some x → Among x ys) → Among x (y ∷ ys)
    over true e later = inl (sym (some_same y x e))
    over false e later = inr (later e)

at_table_keeps : (g : SyncTable → Outcome SyncTable) (o : Option SyncTable) (v : SiteView) → ((tab : SyncTable) → o ≡ Some tab → Rows (g tab).view) → OfInodes v → OfInodes (at_table_of g o v).view
at_table_keeps g None v k h = h
at_table_keeps g (Some tab) v k h = every_row AreInodes table_group (g tab).view v.tables (rows_out (g tab).view (k tab refl)) h

module _ (c : Config) (t : List Line) (past : Past c t) (agree : InstancesAgree (past_of t)) (f : Frame) (v : SiteView) (inside : InsideFact c f t v) (h : OfInodes v) where
  rows_of : (tab : SyncTable) → Among tab v.tables → Rows tab
  rows_of tab a = rows_in tab (every_among AreInodes tab v.tables a h)

  fact_of : (tab : SyncTable) → Among tab v.tables → TableFact c t f tab
  fact_of tab a = every_among (TableFact c t f) tab v.tables a inside.tables

  at_group : (group : ℕ) (tab : SyncTable) → row table_group group v.tables ≡ Some tab → Among tab v.tables × (tab.group ≡ group)
  at_group group tab e = row_key table_group group v.tables tab e

  -- files stay as they are
  plainly : (g : SyncTable → Outcome SyncTable) (o : Option SyncTable) → ((tab : SyncTable) → (g tab).view.files ≡ tab.files) → ((tab : SyncTable) → o ≡ Some tab → Among tab v.tables) → OfInodes (at_table_of g o v).view
  plainly g o same found = at_table_keeps g o v (λ tab e. same_rows tab (g tab) (same tab) (rows_of tab (found tab e))) h

  pub inside_inodes : (p : Packet) (b : Body) → p.epoch ≡ f.epoch → BodyFact c t p b → OfInodes (takes_inside f p.from b v).view
  inside_inodes p (body.Report group copies) at k = at_table_keeps _ (row table_group group v.tables) v (λ tab e. report_keeps c t past agree f inside.frame tab (fact_of tab (at_group group tab e).0) p.from copies
      (subst (λ (g : ℕ). IsReporter c t f.epoch p.from g) (sym (at_group group tab e).1) (subst (λ (x : EpochId). IsReporter c t x p.from group) at k.0))
      (subst (λ (g : ℕ). ReportFact c t f.epoch p.from g copies) (sym (at_group group tab e).1) (subst (λ (x : EpochId). ReportFact c t x p.from group copies) at k.1))
      (rows_of tab (at_group group tab e).0)) h
  inside_inodes p (body.Open serial call process request file how) at k = plainly _ (row table_group file.group v.tables) (λ tab. on_open_files f p.from _ tab) (λ tab e. (at_group file.group tab e).0)
  inside_inodes p (body.Opened inst answer) at k = plainly _ (first_that (is_opened_in inst) v.tables) (λ tab. on_opened_files f inst answer tab) (λ tab e. first_among (is_opened_in inst) v.tables tab e)
  inside_inodes p (body.Closed inst made) at k = at_table_keeps _ (first_that (is_opened_in inst) v.tables) v (λ tab e. close_keeps c t past agree f inside.frame tab (fact_of tab (first_among (is_opened_in inst) v.tables tab e)) p.from inst made
      (subst (λ (x : EpochId). ClosedFact c t x p.from inst made) at k) (rows_of tab (first_among (is_opened_in inst) v.tables tab e))) h
  inside_inodes p (body.Look call process request take file what) at k = plainly _ (row table_group file.group v.tables) (λ tab. on_look_files f p.from _ tab) (λ tab e. (at_group file.group tab e).0)
  inside_inodes p (body.Have file stamp) at k = at_table_keeps _ (row table_group file.group v.tables) v (λ tab e. have_rows p.from stamp file.ino tab (rows_of tab (at_group file.group tab e).0)) h
  inside_inodes p x at k = h

-- ---- how an epoch is formed ----

abbrev Keeps : SiteView → Outcome SiteView → Type 0
Keeps v o = OfInodes v → OfInodes o.view

leaves_of_keep : (me : ℕ) (e : Option InEpoch) (v : SiteView) → Keeps v (leaves_of me e v)
leaves_of_keep me None v h = h
leaves_of_keep me (Some e) v h = tt

begins_keep : (me : ℕ) (links : Links) (number : ℕ) (polled : Links) (v : SiteView) → Keeps v (begins_round me links number polled v)
begins_keep me links number polled v h = leaves_of_keep me v.epoch v h

part_keeps : (me : ℕ) (links : Links) (e : Option InEpoch) (v : SiteView) → Keeps v (starts_part_of me links e v)
part_keeps me links None v h = h
part_keeps me links (Some e) v h = begins_keep me links (v.promised.number + 1) (boots_where (part_boot me links e.members)) v h

pub starts_part_keeps : (me : ℕ) (links : Links) (v : SiteView) → Keeps v (starts_part me links v)
starts_part_keeps me links v h = part_keeps me links v.epoch v h

pub starts_merge_keeps : (me : ℕ) (links : Links) (v : SiteView) → Keeps v (starts_merge me links v)
starts_merge_keeps me links v h = begins_keep me links (v.promised.number + 1) (boots_where (merge_boot me links)) v h

pub leaves_keep : (me : ℕ) (v : SiteView) → Keeps v (leaves me v)
leaves_keep me v h = leaves_of_keep me v.epoch v h

poll_keeps : (me : ℕ) (links : Links) (from from_boot : ℕ) (id : EpochId) (v : SiteView) → Keeps v (on_poll me links from from_boot id v)
poll_keeps me links from from_boot id v h = over (is_epoch_below v.promised id)
  where
    over : (b : Bool) → OfInodes (elim b as (λ (x : Bool). Outcome SiteView) [ true ↦ and_then (promises me id (reached links) v) (λ now. sends (promise_packet me links from from_boot id now) now) | false ↦ sends (cond (same_epoch id v.promised && not v.installed) (promise_packet me links from from_boot id v) (refuse_packet me from from_boot id v)) v ]).view
    over true = leaves_of_keep me v.epoch v h
    over false = h

promise_keeps : (from from_boot : ℕ) (id : EpochId) (reach : Sites) (o : Option Round) (v : SiteView) → Keeps v (on_promise_of from from_boot id reach o v)
promise_keeps from from_boot id reach None v h = h
promise_keeps from from_boot id reach (Some r) v h = h

refuse_keeps : (me : ℕ) (links : Links) (id theirs : EpochId) (o : Option Round) (v : SiteView) → Keeps v (on_refuse_of me links id theirs o v)
refuse_keeps me links id theirs None v h = h
refuse_keeps me links id theirs (Some r) v h = over (same_epoch r.id id)
  where
    over : (b : Bool) → OfInodes (elim b as (λ (x : Bool). Outcome SiteView) [ true ↦ begins_round me links (theirs.number + 1) r.polled v | false ↦ quiet v ]).view
    over true = begins_keep me links (theirs.number + 1) r.polled v h
    over false = h

-- the tables of a new epoch have no file
new_tables : (gs : List ℕ) → Every AreInodes (map new_table gs)
new_tables [] = tt
new_tables (g ∷ gs) = (tt, new_tables gs)

joins_keep : (c : Config) (me : ℕ) (id : EpochId) (m : Members) (v : SiteView) → OfInodes (joins c me id m v).view
joins_keep c me id m v = new_tables (filter (is_sync_site c me m) (own_groups c me))

install_keeps : (c : Config) (me from from_boot : ℕ) (id : EpochId) (m : Members) (v : SiteView) → Keeps v (on_install c me from from_boot id m v)
install_keeps c me from from_boot id m v h = over (may_install me id m v)
  where
    over : (b : Bool) → OfInodes (elim b as (λ (x : Bool). Outcome SiteView) [ true ↦ and_then (joins c me id m v) (λ now. sends (joined_packet me from from_boot id now) now) | false ↦ sends (cond (is_in id v.epoch) (joined_packet me from from_boot id v) []) v ]).view
    over true = joins_keep c me id m v
    over false = h

joined_keeps : (from : ℕ) (id : EpochId) (v : SiteView) → Keeps v (on_joined from id v)
joined_keeps from id v h = over (is_in id v.epoch)
  where
    over : (b : Bool) → OfInodes (cond b (record v { installs = without_row (λ s. s) from v.installs }) v)
    over true = h
    over false = h

decides_keep : (c : Config) (me : ℕ) (links : Links) (r : Round) (xs : List ℕ) (v : SiteView) → Keeps v (decides_if c me links r xs v)
decides_keep c me links r [] v h = joins_keep c me r.id (chosen_members me v.boot r (chosen_set me links r)) v
decides_keep c me links r (x ∷ xs) v h = h

pub passes_keep : (c : Config) (me : ℕ) (links : Links) (v : SiteView) → Keeps v (passes_over c me links v)
passes_keep c me links v h = over v.round
  where
    over : (o : Option Round) → OfInodes (passes_over_of c me links o v).view
    over None = h
    over (Some r) = decides_keep c me links (passed_over links r) (unanswered (passed_over links r)) v h

-- ---- an adoption ----

noted_keeps : (f : Frame) (p : Pull) (o : Option SyncTable) (v : SiteView) → ((tab : SyncTable) → o ≡ Some tab → Among tab v.tables) → OfInodes v → OfInodes (notes_own_at f p o v)
noted_keeps f p None v found h = h
noted_keeps f p (Some tab) v found h =
    every_row AreInodes table_group (on_have_of f.me p.stamp (file_row tab p.file.ino) tab) v.tables
    (rows_out (on_have_of f.me p.stamp (file_row tab p.file.ino) tab) (have_rows f.me p.stamp p.file.ino tab (rows_in tab (every_among AreInodes tab v.tables (found tab refl) h)))) h

pull_keeps : (f : Frame) (p : Pull) (v : SiteView) → Keeps v (adopts_pull f p v)
pull_keeps f p v h = noted_keeps f p (row table_group p.file.group v.tables) (with_adopted p v) (λ tab e. (row_key table_group p.file.group v.tables tab e).0) h

first_keeps : (f : Frame) (ps : List Pull) (v : SiteView) → Keeps v (adopts_first f ps v)
first_keeps f [] v h = h
first_keeps f (p ∷ ps) v h = over (is_ready v p) (fits_own p (copy_of v.store p.file)) (first_keeps f ps v h) (first_keeps f ps (without_pull p v) h)
  where
    over : (a b : Bool) → OfInodes (adopts_first f ps v).view → OfInodes (adopts_first f ps (without_pull p v)).view → OfInodes (elim a as (λ (x : Bool). Outcome SiteView) [ true ↦ elim b as (λ (y : Bool). Outcome SiteView) [ true ↦ adopts_pull f p v | false ↦ adopts_first f ps (without_pull p v) ] | false ↦ adopts_first f ps v ]).view
    over true true k l = pull_keeps f p v h
    over true false k l = l
    over false b k l = k

pub adopts_keep : (c : Config) (me : ℕ) (v : SiteView) → Keeps v (adopts_in c me v)
adopts_keep c me v h = over v.epoch
  where
    over : (o : Option InEpoch) → OfInodes (adopts_of c me o v).view
    over None = h
    over (Some e) = first_keeps (frame_in c me v.boot e) v.pulls v h

pub tries_keep : (c : Config) (me : ℕ) (b : Body) (v : SiteView) → Keeps v (tries_at c me b v)
tries_keep c me (body.Notify file kind set size stamp vector holder) v h = adopts_keep c me v h
tries_keep c me (body.Page file stamp page bytes) v h = adopts_keep c me v h
tries_keep c me (body.Delta file wanted pages) v h = adopts_keep c me v h
tries_keep c me _ v h = h

-- ---- a packet that isn't dropped ----

module _ (c : Config) (t : List Line) (past : Past c t) (agree : InstancesAgree (past_of t)) (links : Links) (p : Packet) (v : SiteView) (fact : SiteFact c p.to t v) (it : PacketFact c t p) (taken : is_dropped p v ≡ false) where
  own : OfInodes v
  own = site_tables c p.to t v v.epoch past.rest.each fact

  framed : (b : Body) → p.body ≡ b → nat_lt (kind_number b) 6 ≡ false → (o : Option InEpoch) → v.epoch ≡ o → OfInodes (takes_framed c p.to p o v).view
  framed b is inner None e = own
  framed b is inner (Some e) here = inside_inodes c t past agree (frame_in c p.to v.boot e) v (subst (SiteIn c p.to t v) here fact) own p p.body (taken_epoch p b v e is inner taken here) it

  pub takes_inodes : (b : Body) → p.body ≡ b → OfInodes (takes c p.to links p b v).view
  takes_inodes body.Poll is = poll_keeps p.to links p.from p.from_boot p.epoch v own
  takes_inodes (body.Promise reach) is = promise_keeps p.from p.from_boot p.epoch reach v.round v own
  takes_inodes (body.Refuse promised) is = refuse_keeps p.to links p.epoch promised v.round v own
  takes_inodes (body.Install members) is = install_keeps c p.to p.from p.from_boot p.epoch members v own
  takes_inodes body.Joined is = joined_keeps p.from p.epoch v own
  takes_inodes x is = framed x is refl v.epoch refl
