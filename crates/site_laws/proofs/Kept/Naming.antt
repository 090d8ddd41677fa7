-- What closes an instance publishes a version that was told; and so does an event, which adopts such a version alone.
use Rattle.std.proofs.Common.{◌≡◌, ℕ, nat_lt, false, List, [], ◌∷◌, ◌++◌, Option, Some, None, refl, sym, subst, inl, inr}
use Rattle.locus_ids.specs.declared.ids.FileId.{FileId}
use Rattle.locus_ids.specs.declared.ids.EpochId.{EpochId}
use Rattle.locus_ids.specs.declared.ids.Serial.{Serial}
use Rattle.locus_ids.specs.declared.ids.Stamp.{Stamp}
use Rattle.locus_ids.specs.declared.ids.Mode.{Mode}
use Rattle.locus_ids.specs.declared.ids.Mode.TheVariants as mode
use Rattle.trace_book.specs.declared.record.Record.{Record}
use Rattle.trace_book.specs.declared.record.Record.TheVariants as says
use Rattle.wire_messages.specs.Bodies.{kind_number}
use Rattle.wire_messages.specs.declared.body.Body.{Body}
use Rattle.wire_messages.specs.declared.body.Body.TheVariants as body
use Rattle.wire_messages.specs.declared.body.MadeVersion.{MadeVersion}
use Rattle.role_steps.specs.Own.{Every}
use Rattle.role_steps.specs.Views.{Frame, SiteView, Told, Shown, DiskWrite, serial_key}
use Rattle.role_steps.specs.Opens.{open_row, open_key}
use Rattle.role_steps.specs.Reports.{closes_at, on_closed_of, on_closed, stamp_made}
use Rattle.role_steps.specs.declared.copies.FileCopy.{FileCopy}
use Rattle.role_steps.specs.declared.synchronizing.SyncTable.{SyncTable}
use Rattle.role_steps.specs.declared.synchronizing.OpenRow.{OpenRow}
use Rattle.role_steps.specs.declared.synchronizing.OpenStage.{OpenStage}
use Rattle.role_steps.specs.declared.synchronizing.OpenStage.TheVariants as stage
use Rattle.the_run.proofs.Boots.{every_weaker}
use Rattle.site_laws.specs.Vectors.Held.{IsOf, StillRecord, Still, OnDisk}
use Rattle.site_laws.specs.Vectors.Written.{WrittenAs, InstancesAgree, WasGranted}
use Rattle.site_laws.specs.Vectors.Facts.{MaybeMade, BodyFact, GrantFact, OpenFact, TableFact, CopyFact, DiskFact, onto}
use Rattle.site_laws.proofs.Vectors.Facts.{Later, one_later, onto_later, then_later}
use Rattle.site_laws.proofs.Vectors.SyncFacts.{FoundAt, row_at}
use Rattle.site_laws.proofs.Makes.Telling.{AsideRecord, Aside}
use Rattle.site_laws.specs.Kept.Known.{IsVersion, NamedRecord, NamedTold, NamesAreVersions}
use Rattle.site_laws.proofs.Kept.SitesTell.{OfSites, ClosesTell}

-- ---- what an event publishes ----

-- what a release publishes is a version
abbrev pub PublishedRecord : List Told → Record → Type 0
PublishedRecord past (says.Release e inst file (Some stamp)) = IsVersion past file stamp
PublishedRecord past _ = Unit {0}

abbrev pub Publishes : List Told → Told → Type 0
Publishes past (Shown r) = PublishedRecord past r
Publishes past _ = Unit {0}

aside_record : (past : List Told) (r : Record) → AsideRecord r → PublishedRecord past r
aside_record past (says.Release e inst file made) h = absurd h
aside_record past _ h = tt

aside_told : (past : List Told) (x : Told) → Aside x → Publishes past x
aside_told past (Shown r) h = aside_record past r h
aside_told past _ h = tt

pub all_publish : (past : List Told) → OfSites (Publishes past)
all_publish past = record {
  aside = aside_told past;
  reserving = λ s e inst file. tt;
  tables = record {
    starting = λ e group brought. tt;
    looking = λ e call request file what r. tt;
    granting = λ e call request inst m file stamp ss. tt;
    refusing = λ e call request inst m file why. tt;
  };
}

-- ---- a close ----

granted_now : (past : List Told) (e : EpochId) (r : OpenRow) (m : Mode) → GrantFact past e r m stage.Granted → WasGranted past e (serial_key r.inst) r.file
granted_now past e r mode.Make h = h
granted_now past e r mode.Read h = h
granted_now past e r mode.Write h = h
granted_now past e r mode.Resolve h = h
granted_now past e r mode.Mend h = h

published_made : (past : List Told) (e : EpochId) (inst : Serial) (r : OpenRow) (made : Option MadeVersion) → InstancesAgree past → open_key r ≡ serial_key inst → WasGranted past e (serial_key r.inst) r.file → MaybeMade past e (serial_key inst) made → Publishes past (Shown (says.Release e r.inst r.file (stamp_made made)))
published_made past e inst r None agree key granted m = tt
published_made past e inst r (Some v) agree key granted m =
    let same : m.file ≡ r.file = agree e (serial_key inst) m.file r.file m.begun (subst (λ (k : ℕ). WasGranted past e k r.file) key granted) in
    (v.vector, subst (λ (f : FileId). WrittenAs past f v.stamp v.vector) same m.written)

closes_publish : (past : List Told) (f : Frame) (ss : ℕ) (inst : Serial) (r : OpenRow) (made : Option MadeVersion) (s : OpenStage) (t : SyncTable) → InstancesAgree past → open_key r ≡ serial_key inst → r.stage ≡ s → OpenFact past f.epoch t.group r → MaybeMade past f.epoch (serial_key inst) made → Every (Publishes past) (closes_at f ss r made s t).told
closes_publish past f ss inst r made stage.Asked t agree key at k m = tt
closes_publish past f ss inst r made stage.Granted t agree key at k m = (published_made past f.epoch inst r made agree key (granted_now past f.epoch r r.mode (subst (GrantFact past f.epoch r r.mode) at k.granted)) m, tt)
closes_publish past f ss inst r made (stage.Refused why) t agree key at k m = tt
closes_publish past f ss inst r made stage.Ended t agree key at k m = tt

closed_publish : (past : List Told) (f : Frame) (ss : ℕ) (inst : Serial) (made : Option MadeVersion) (o : Option OpenRow) (t : SyncTable) → InstancesAgree past → FoundAt (OpenFact past f.epoch t.group) open_key (serial_key inst) o → MaybeMade past f.epoch (serial_key inst) made → Every (Publishes past) (on_closed_of f ss made o t).told
closed_publish past f ss inst made None t agree k m = tt
closed_publish past f ss inst made (Some r) t agree k m = closes_publish past f ss inst r made r.stage t agree k.0 refl k.1 m

pub body_publishes : (past : List Told) (f : Frame) (from : ℕ) (v : SiteView) (at : EpochId) (x : Body) → InstancesAgree past → (nat_lt (kind_number x) 6 ≡ false → at ≡ f.epoch) → BodyFact past at x → Every (TableFact past f.epoch) v.tables → ClosesTell (Publishes past) f from v x
body_publishes past f from v at (body.Closed inst made) agree same m h =
    let now : MaybeMade past f.epoch (serial_key inst) made = subst (λ (e : EpochId). MaybeMade past e (serial_key inst) made) (same refl) m in
    every_weaker (TableFact past f.epoch) (λ (t : SyncTable). Every (Publishes past) (on_closed f from inst made t).told) v.tables
    (λ t g. closed_publish past f from inst made (open_row t inst) t agree (row_at (OpenFact past f.epoch t.group) open_key (serial_key inst) t.opens g.opens) now) h
body_publishes past f from v at _ agree same m h = tt

-- ---- what is told names versions ----

version_later : (a b : List Told) → Later a b → (file : FileId) (stamp : Stamp) → IsVersion a file stamp → IsVersion b file stamp
version_later a b l file stamp h = (h.0, l.written file stamp h.0 h.1)

record_later : (a b : List Told) → Later a b → (r : Record) → PublishedRecord a r → PublishedRecord b r
record_later a b l (says.Release e inst file (Some stamp)) h = version_later a b l file stamp h
record_later a b l (says.Release e inst file None) h = tt
record_later a b l _ h = tt

told_later : (a b : List Told) → Later a b → (x : Told) → Publishes a x → Publishes b x
told_later a b l (Shown r) h = record_later a b l r h
told_later a b l _ h = tt

all_later : (a b : List Told) → Later a b → (xs : List Told) → Every (Publishes a) xs → Every (Publishes b) xs
all_later a b l xs h = every_weaker (Publishes a) (Publishes b) xs (told_later a b l) h

still_named : (past : List Told) (r : Record) → StillRecord r → PublishedRecord past r → NamedRecord past r
still_named past (says.Adopt file s stamp) h g = absurd h
still_named past (says.Release e inst file (Some stamp)) h g = g
still_named past (says.Release e inst file None) h g = tt
still_named past _ h g = tt

named_still : (past : List Told) (x : Told) → Still x → Publishes past x → NamedTold past x
named_still past (Shown r) h g = still_named past r h g
named_still past _ h g = tt

-- each by what was told before it
abbrev pub AllNamed : List Told → List Told → Type 0
AllNamed past [] = Unit {0}
AllNamed past (x ∷ xs) = NamedTold past x × AllNamed (x ∷ past) xs

pub all_still : (past xs : List Told) → Every Still xs → Every (Publishes past) xs → AllNamed past xs
all_still past [] h g = tt
all_still past (x ∷ xs) h g = (named_still past x h.0 g.0, all_still (x ∷ past) xs h.1 (all_later past (x ∷ past) (one_later x past) xs g.1))

all_append : (past a b : List Told) → AllNamed past a → AllNamed (onto a past) b → AllNamed past (a ++ b)
all_append past [] b h g = g
all_append past (x ∷ xs) b h g = (h.0, all_append (x ∷ past) xs b h.1 g)

pub names_onto : (told past : List Told) → AllNamed past told → NamesAreVersions past → NamesAreVersions (onto told past)
names_onto [] past h g = g
names_onto (x ∷ xs) past h g = names_onto xs (x ∷ past) h.1 (h.0, g)

split_left : (P : Told → Type 0) (a b : List Told) → Every P (a ++ b) → Every P a
split_left P [] b h = tt
split_left P (x ∷ xs) b h = (h.0, split_left P xs b h.1)

split_right : (P : Told → Type 0) (a b : List Told) → Every P (a ++ b) → Every P b
split_right P [] b h = h
split_right P (x ∷ xs) b h = split_right P xs b h.1

-- the record of what is written names a version of before
pub written_named : (past : List Told) (s : ℕ) (r : Record) (x : FileCopy) → IsOf s r x → CopyFact (Shown r ∷ past) x → NamedRecord past r
written_named past s (says.Commit file t stamp parents content) x is h = tt
written_named past s (says.Adopt file t stamp) x is (inl h) = (x.vector, subst (λ (f : FileId). WrittenAs past f stamp x.vector) is.1 (subst (λ (p : Stamp). WrittenAs past x.file p x.vector) is.2 h))
written_named past s (says.Adopt file t stamp) x is (inr h) = absurd h
written_named past s _ x is h = absurd is

named_later : (a b : List Told) → Later a b → (r : Record) → NamedRecord a r → NamedRecord b r
named_later a b l (says.Adopt file s stamp) h = version_later a b l file stamp h
named_later a b l (says.Release e inst file (Some stamp)) h = version_later a b l file stamp h
named_later a b l (says.Release e inst file None) h = tt
named_later a b l _ h = tt

pub disk_named : (past : List Told) (s : ℕ) (old new : List FileCopy) (told : List Told) (w : Option DiskWrite) → OnDisk s old new told w → DiskFact past w → Every (Publishes past) told → AllNamed past told
disk_named past s old new told w (inl h) fact g = all_still past told h.still g
disk_named past s old new told w (inr h) fact g =
    let d : DiskWrite = h.0 in
    let k : _ × _ = subst (DiskFact past) h.1.is_written fact in
    let middle : List Told = onto h.1.before past in
    let after : List Told = Shown d.says ∷ middle in
    let all : Every (Publishes past) (h.1.before ++ Shown d.says ∷ h.1.after) = subst (λ (xs : List Told). Every (Publishes past) xs) h.1.told_is g in
    let rest : Every (Publishes past) (Shown d.says ∷ h.1.after) = split_right (Publishes past) h.1.before (Shown d.says ∷ h.1.after) all in
    let l : Later past middle = onto_later h.1.before past in
    subst (AllNamed past) (sym h.1.told_is)
    (all_append past h.1.before (Shown d.says ∷ h.1.after) (all_still past h.1.before h.1.still_before (split_left (Publishes past) h.1.before (Shown d.says ∷ h.1.after) all))
    (named_later past middle l d.says (written_named past s d.says d.copy h.1.says_so k.1), all_still after h.1.after h.1.still_after (all_later past after (then_later past middle after l (one_later (Shown d.says) middle)) h.1.after rest.1)))
