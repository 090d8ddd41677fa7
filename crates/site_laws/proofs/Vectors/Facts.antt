-- Facts stay when more is told.
use Rattle.std.proofs.Common.{◌≡◌, ℕ, List, [], ◌∷◌, Option, Some, None, inl, inr}
use Rattle.locus_ids.specs.declared.ids.EpochId.{EpochId}
use Rattle.locus_ids.specs.declared.ids.FileId.{FileId}
use Rattle.locus_ids.specs.declared.ids.Stamp.{Stamp}
use Rattle.locus_ids.specs.declared.ids.Mode.{Mode}
use Rattle.locus_ids.specs.declared.ids.Mode.TheVariants as mode
use Rattle.trace_book.specs.declared.record.Record.{Record}
use Rattle.trace_book.specs.declared.record.Record.TheVariants as says
use Rattle.run_laws.specs.of_wire_messages.declared.packet.Packet.{Packet}
use Rattle.run_laws.specs.of_wire_messages.declared.body.Body.{Body}
use Rattle.run_laws.specs.of_wire_messages.declared.body.Body.TheVariants as body
use Rattle.run_laws.specs.of_wire_messages.declared.body.MadeVersion.{MadeVersion}
use Rattle.run_laws.specs.of_role_steps.Own.{Every}
use Rattle.run_laws.specs.of_role_steps.Views.{Store, SiteView, Told, Shown, Outcome, joined_to, serial_key}
use Rattle.run_laws.specs.of_role_steps.declared.copies.FileCopy.{FileCopy}
use Rattle.run_laws.specs.of_role_steps.declared.instances.Instance.{Instance}
use Rattle.run_laws.specs.of_role_steps.declared.instances.Stage.{Stage}
use Rattle.run_laws.specs.of_role_steps.declared.instances.Stage.TheVariants as stage
use Rattle.run_laws.specs.of_role_steps.declared.pulls.Pull.{Pull}
use Rattle.run_laws.specs.of_role_steps.declared.rounds.InEpoch.{InEpoch}
use Rattle.run_laws.specs.of_role_steps.declared.synchronizing.SyncTable.{SyncTable}
use Rattle.run_laws.specs.of_role_steps.declared.synchronizing.FileRow.{FileRow}
use Rattle.run_laws.specs.of_role_steps.declared.synchronizing.VersionRow.{VersionRow}
use Rattle.run_laws.specs.of_role_steps.declared.synchronizing.OpenRow.{OpenRow}
use Rattle.run_laws.specs.of_role_steps.declared.synchronizing.OpenStage.{OpenStage}
use Rattle.run_laws.specs.of_role_steps.declared.synchronizing.OpenStage.TheVariants as opening
use Rattle.run_laws.proofs.of_the_run.Boots.{every_weaker}
use Rattle.run_laws.specs.FactWalks.Facts.{Fine as Owes}
use Rattle.run_laws.specs.FactWalks.Keeping.{Growing}
use Rattle.run_laws.proofs.FactWalks.Outcomes.{told_each, then_fine as then_owes}
use Rattle.site_laws.specs.Vectors.Written.{NumberedRecord, NumberedTold, JoinsAll, WrittenAs, WasBegun, WasGranted, InstancesAgree}
use Rattle.site_laws.specs.Vectors.Facts.{NotCommitRecord, NotCommit, NumberedAll, Fine, ReportedFact, BaseFact, MaybeMade, BodyFact, PacketFact, NoFact, Factless, CopyFact, PullFact, ClosingFact, StageFact, LastMade, InstanceFact, StoreFact, VersionFact, RowFact, GrantFact, OpenFact, TableFact, InEpochFact, ViewFact, versions, onto, file_in}
pub use Rattle.run_laws.proofs.FactWalks.Outcomes.{onto_append}

-- whatever was told before is told later
pub record Later (past now : List Told) : Type 0 where
  pub written : (file : FileId) (stamp : Stamp) (vector : List ℕ) → WrittenAs past file stamp vector → WrittenAs now file stamp vector
  pub begun : (e : EpochId) (key : ℕ) (file : FileId) → WasBegun past e key file → WasBegun now e key file
  pub granted : (e : EpochId) (key : ℕ) (file : FileId) → WasGranted past e key file → WasGranted now e key file

pub same_later : (past : List Told) → Later past past
same_later past = record { written = λ f s v h. h; begun = λ e k f h. h; granted = λ e k f h. h }

pub then_later : (a b c : List Told) → Later a b → Later b c → Later a c
then_later a b c h g = record { written = λ f s v k. g.written f s v (h.written f s v k); begun = λ e n f k. g.begun e n f (h.begun e n f k); granted = λ e n f k. g.granted e n f (h.granted e n f k) }

pub one_later : (x : Told) (past : List Told) → Later past (x ∷ past)
one_later x past = record { written = λ f s v h. inl h; begun = λ e k f h. inr h; granted = λ e k f h. inr h }

pub onto_later : (told past : List Told) → Later past (onto told past)
onto_later [] past = same_later past
onto_later (x ∷ xs) past = then_later past (x ∷ past) (onto xs (x ∷ past)) (one_later x past) (onto_later xs (x ∷ past))

pub agree_before : (past now : List Told) → Later past now → InstancesAgree now → InstancesAgree past
agree_before past now h g e key f k a b = g e key f k (h.begun e key f a) (h.granted e key k b)

-- ---- the frame lemma of each fact ----

pub joins_later : (a b : List Told) → Later a b → (file : FileId) (ps : List Stamp) (base : List ℕ) → JoinsAll (WrittenAs a file) ps base → JoinsAll (WrittenAs b file) ps base
joins_later a b l file [] base h = h
joins_later a b l file (p ∷ ps) base h = (h.0, h.1, l.written file p h.0 h.2, joins_later a b l file ps h.1 h.3, h.4)

pub base_later : (a b : List Told) → Later a b → (file : FileId) (m : Mode) (ps : List Stamp) (vector : List ℕ) → BaseFact a file m ps vector → BaseFact b file m ps vector
base_later a b l file mode.Make ps vector h = h
base_later a b l file _ ps vector h = joins_later a b l file ps vector h

pub made_later : (a b : List Told) → Later a b → (e : EpochId) (key : ℕ) (m : Option MadeVersion) → MaybeMade a e key m → MaybeMade b e key m
made_later a b l e key None h = tt
made_later a b l e key (Some m) h = record { file = h.file; begun = l.begun e key h.file h.begun; written = l.written h.file m.stamp m.vector h.written }

pub body_later : (a b : List Told) → Later a b → (e : EpochId) (x : Body) → BodyFact a e x → BodyFact b e x
body_later a b l e (body.Report group copies) h = every_weaker (ReportedFact a group) (ReportedFact b group) copies (λ x. l.written (file_in group x.ino) x.stamp x.vector) h
body_later a b l e (body.OpenSs inst file mode set kind base vector parents) h = base_later a b l file mode parents vector h
body_later a b l e (body.Closed inst made) h = made_later a b l e (serial_key inst) made h
body_later a b l e (body.Notify file kind set size stamp vector holder) h = l.written file stamp vector h
body_later a b l e _ h = tt

pub packets_later : (a b : List Told) → Later a b → (ps : List Packet) → Every (PacketFact a) ps → Every (PacketFact b) ps
packets_later a b l ps h = every_weaker (PacketFact a) (PacketFact b) ps (λ p. body_later a b l p.epoch p.body) h

pub no_fact : (past : List Told) (e : EpochId) (x : Body) → NoFact x → BodyFact past e x
no_fact past e (body.Report group copies) h = absurd h
no_fact past e (body.OpenSs inst file mode set kind base vector parents) h = absurd h
no_fact past e (body.Closed inst made) h = absurd h
no_fact past e (body.Notify file kind set size stamp vector holder) h = absurd h
no_fact past e _ h = tt

pub factless : (past : List Told) (ps : List Packet) → Every Factless ps → Every (PacketFact past) ps
factless past ps h = every_weaker Factless (PacketFact past) ps (λ p. no_fact past p.epoch p.body) h

pub copies_later : (a b : List Told) → Later a b → (xs : List FileCopy) → Every (CopyFact a) xs → Every (CopyFact b) xs
copies_later a b l xs h = every_weaker (CopyFact a) (CopyFact b) xs (λ x. l.written x.file x.stamp x.vector) h

pub pulls_later : (a b : List Told) → Later a b → (xs : List Pull) → Every (PullFact a) xs → Every (PullFact b) xs
pulls_later a b l xs h = every_weaker (PullFact a) (PullFact b) xs (λ x. l.written x.file x.stamp x.vector) h

pub closing_later : (a b : List Told) → Later a b → (file : FileId) (m : Option MadeVersion) → ClosingFact a file m → ClosingFact b file m
closing_later a b l file None h = tt
closing_later a b l file (Some m) h = l.written file m.stamp m.vector h

pub stage_later : (a b : List Told) → Later a b → (file : FileId) (s : Stage) → StageFact a file s → StageFact b file s
stage_later a b l file stage.Running h = tt
stage_later a b l file (stage.Closing made answer) h = closing_later a b l file made h
stage_later a b l file (stage.Closed answer) h = tt

pub last_later : (a b : List Told) → Later a b → (file : FileId) (vector : List ℕ) (o : Option Stamp) → LastMade a file vector o → LastMade b file vector o
last_later a b l file vector None h = tt
last_later a b l file vector (Some stamp) h = l.written file stamp vector h

pub instance_later : (a b : List Told) → Later a b → (e : EpochId) (i : Instance) → InstanceFact a e i → InstanceFact b e i
instance_later a b l e i h = record {
  begun = l.begun e (serial_key i.inst) i.file h.begun;
  base = joins_later a b l i.file i.parents i.vector h.base;
  made = last_later a b l i.file i.vector i.work.committed h.made;
  stage = stage_later a b l i.file i.stage h.stage;
}

pub instances_later : (a b : List Told) → Later a b → (e : EpochId) (xs : List Instance) → Every (InstanceFact a e) xs → Every (InstanceFact b e) xs
instances_later a b l e xs h = every_weaker (InstanceFact a e) (InstanceFact b e) xs (instance_later a b l e) h

pub store_later : (a b : List Told) → Later a b → (e : EpochId) (s : Store) → StoreFact a e s → StoreFact b e s
store_later a b l e s h = record { copies = copies_later a b l s.copies h.copies; instances = instances_later a b l e s.instances h.instances }

versions_later : (a b : List Told) → Later a b → (file : FileId) (xs : List VersionRow) → Every (VersionFact a file) xs → Every (VersionFact b file) xs
versions_later a b l file xs h = every_weaker (VersionFact a file) (VersionFact b file) xs (λ v. l.written file v.stamp v.vector) h

row_later : (a b : List Told) → Later a b → (group : ℕ) (r : FileRow) → RowFact a group r → RowFact b group r
row_later a b l group r h = record { versions = versions_later a b l (file_in group r.ino) r.versions h.versions; kept = versions_later a b l (file_in group r.ino) r.kept h.kept }

grant_later : (a b : List Told) → Later a b → (e : EpochId) (r : OpenRow) (m : Mode) (s : OpenStage) → GrantFact a e r m s → GrantFact b e r m s
grant_later a b l e r mode.Make opening.Asked h = tt
grant_later a b l e r mode.Read opening.Asked h = l.granted e (serial_key r.inst) r.file h
grant_later a b l e r mode.Write opening.Asked h = l.granted e (serial_key r.inst) r.file h
grant_later a b l e r mode.Resolve opening.Asked h = l.granted e (serial_key r.inst) r.file h
grant_later a b l e r mode.Mend opening.Asked h = l.granted e (serial_key r.inst) r.file h
grant_later a b l e r mode.Make opening.Granted h = l.granted e (serial_key r.inst) r.file h
grant_later a b l e r mode.Read opening.Granted h = l.granted e (serial_key r.inst) r.file h
grant_later a b l e r mode.Write opening.Granted h = l.granted e (serial_key r.inst) r.file h
grant_later a b l e r mode.Resolve opening.Granted h = l.granted e (serial_key r.inst) r.file h
grant_later a b l e r mode.Mend opening.Granted h = l.granted e (serial_key r.inst) r.file h
grant_later a b l e r m (opening.Refused why) h = no_grant b e r m (opening.Refused why)
  where
    no_grant : (past : List Told) (e : EpochId) (r : OpenRow) (m : Mode) (s : OpenStage) → GrantFact past e r m (opening.Refused why)
    no_grant past e r mode.Make s = tt
    no_grant past e r mode.Read s = tt
    no_grant past e r mode.Write s = tt
    no_grant past e r mode.Resolve s = tt
    no_grant past e r mode.Mend s = tt
grant_later a b l e r m opening.Ended h = no_grant b e r m
  where
    no_grant : (past : List Told) (e : EpochId) (r : OpenRow) (m : Mode) → GrantFact past e r m opening.Ended
    no_grant past e r mode.Make = tt
    no_grant past e r mode.Read = tt
    no_grant past e r mode.Write = tt
    no_grant past e r mode.Resolve = tt
    no_grant past e r mode.Mend = tt

open_later : (a b : List Told) → Later a b → (e : EpochId) (group : ℕ) (r : OpenRow) → OpenFact a e group r → OpenFact b e group r
open_later a b l e group r h = record { group_is = h.group_is; base = base_later a b l r.file r.mode r.parents r.vector h.base; granted = grant_later a b l e r r.mode r.stage h.granted }

pub table_later : (a b : List Told) → Later a b → (e : EpochId) (t : SyncTable) → TableFact a e t → TableFact b e t
table_later a b l e t h = record { files = every_weaker (RowFact a t.group) (RowFact b t.group) t.files (row_later a b l t.group) h.files; opens = every_weaker (OpenFact a e t.group) (OpenFact b e t.group) t.opens (open_later a b l e t.group) h.opens; looks = h.looks; early = h.early }

pub tables_later : (a b : List Told) → Later a b → (e : EpochId) (ts : List SyncTable) → Every (TableFact a e) ts → Every (TableFact b e) ts
tables_later a b l e ts h = every_weaker (TableFact a e) (TableFact b e) ts (table_later a b l e) h

inside_later : (a b : List Told) → Later a b → (v : SiteView) (o : Option InEpoch) → InEpochFact a v o → InEpochFact b v o
inside_later a b l v None h = h
inside_later a b l v (Some e) h = (instances_later a b l e.id v.store.instances h.0, tables_later a b l e.id v.tables h.1)

-- the frame lemma of a view
pub view_later : (a b : List Told) → Later a b → (v : SiteView) → ViewFact a v → ViewFact b v
view_later a b l v h = record { copies = copies_later a b l v.store.copies h.copies; pulls = pulls_later a b l v.pulls h.pulls; inside = inside_later a b l v v.epoch h.inside }

-- ---- outcomes ----

numbered_record : (past : List Told) (r : Record) → NotCommitRecord r → NumberedRecord past r
numbered_record past (says.Commit file s stamp parents content) h = absurd h
numbered_record past _ h = tt

numbered_told : (past : List Told) (x : Told) → NotCommit x → NumberedTold past x
numbered_told past (Shown r) h = numbered_record past r h
numbered_told past _ h = tt

-- what tells of no commit is numbered
pub numbered_none : (past : List Told) (xs : List Told) → Every NotCommit xs → NumberedAll past xs
numbered_none past xs h = told_each versions NotCommit numbered_told past xs h

pub growing : Growing versions
growing = record {
  carries = λ past x from to e b. body_later past (x ∷ past) (one_later x past) e b;
  view = λ past x me v. view_later past (x ∷ past) (one_later x past) v;
  disk = λ past x copies. copies_later past (x ∷ past) (one_later x past) copies;
}

-- an outcome owes what the walk of facts asks
pub fine_in : {V : Type 0} (F : List Told → V → Type 0) (past : List Told) (o : Outcome V) → Fine F past o → Owes versions F past o
fine_in F past o h = record { view = h.view; sent = h.sent; told = h.numbered; written = h.disk }

pub fine_of : {V : Type 0} (F : List Told → V → Type 0) (past : List Told) (o : Outcome V) → Owes versions F past o → Fine F past o
fine_of F past o h = record { view = h.view; sent = h.sent; numbered = h.told; disk = h.written }

-- one thing, and then another that writes nothing
pub then_fine : {V W : Type 0} (F : List Told → V → Type 0) (G : List Told → W → Type 0) (past : List Told) (o : Outcome V) (p : Outcome W) → Fine F past o → Fine G (onto o.told past) p → p.written ≡ None → Fine G past (joined_to o p)
then_fine F G past o p h g e = fine_of G past (joined_to o p) (then_owes versions growing F G past o p (fine_in F past o h) (fine_in G (onto o.told past) p g) e)
