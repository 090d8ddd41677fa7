-- What a table knows of files that are being made stays, whatever others tell.
use Rattle.std.proofs.Common.{◌≡◌, ℕ, false, ◌⊎◌, List, [], ◌∷◌, refl, sym, ◌∙◌, ap, subst, inl, inr}
use Rattle.locus_ids.specs.declared.ids.EpochId.{EpochId}
use Rattle.locus_ids.specs.declared.ids.FileId.{FileId}
use Rattle.locus_ids.specs.declared.ids.Mode.{Mode}
use Rattle.locus_ids.specs.declared.ids.Mode.TheVariants as mode
use Rattle.locus_ids.specs.declared.ids.Stamp.{Stamp}
use Rattle.locus_ids.specs.declared.sites.Members.{Members}
use Rattle.locus_ids.specs.declared.config.Config.{Config}
use Rattle.trace_book.specs.declared.record.Record.{Record}
use Rattle.trace_book.specs.declared.record.Record.TheVariants as says
use Rattle.role_steps.specs.Own.{Every}
use Rattle.role_steps.specs.Views.{Told, Shown, Begins, Reserves, serial_key}
use Rattle.role_steps.specs.declared.synchronizing.SyncTable.{SyncTable}
use Rattle.role_steps.specs.declared.synchronizing.FileRow.{FileRow}
use Rattle.role_steps.specs.declared.synchronizing.OpenRow.{OpenRow}
use Rattle.role_steps.specs.declared.synchronizing.OpenStage.{OpenStage}
use Rattle.role_steps.specs.declared.synchronizing.OpenStage.TheVariants as stage
use Rattle.the_run.proofs.Boots.{every_weaker}
use Rattle.site_laws.specs.Vectors.Written.{WasTold, WrittenAs, IsWrittenBy, IsCommitOf, GrantedRecord, Granted, WasGranted}
use Rattle.site_laws.specs.Vectors.Facts.{onto, file_in}
use Rattle.site_laws.specs.Locks.Going.{BegunAt, WasBegunAt, StartedRecord, Started, WasStarted, ReleasedRecord, Released, WasReleased, RecordGoesOn, InstanceGoesOn, InstancesGoOn}
use Rattle.site_laws.specs.Locks.Grants.{GrantedAsRecord, GrantedAs, WasGrantedAs}
use Rattle.site_laws.proofs.Locks.Facts.{Later, one_later}
use Rattle.site_laws.proofs.Locks.GrantSites.{orderly_before}
use Rattle.site_laws.specs.Packs.Making.{CommitsRecord, CommitsFile, WasCommitted}
use Rattle.site_laws.specs.Makes.Fresh.{FreshTold, NumbersAreFresh}
use Rattle.site_laws.specs.Makes.Holding.{ReservedAt, WasReserved, ReservedRecord, ReservedTold, MakesAreReserved, ApartTold, ReservesAreApart}
use Rattle.site_laws.specs.Makes.Tables.{IsKnown, IsFree, ReleasedOnRecord, ReleasedOn, RowMade, StageMade, OpenMade, HasEnded, TableMade, Ordered}
use Rattle.site_laws.proofs.Makes.Telling.{TabularRecord, Tabular}

-- ---- what was told, later ----

pub known_later : (a b : List Told) → Later a b → (file : FileId) → IsKnown a file → IsKnown b file
known_later a b l file (inl h) = inl h
known_later a b l file (inr h) = inr (l _ h)

pub ordered_before : (told past : List Told) → Ordered (onto told past) → Ordered past
ordered_before [] past h = h
ordered_before (x ∷ xs) past h =
    let k : Ordered (x ∷ past) = ordered_before xs (x ∷ past) h in
    record { orderly = orderly_before (x ∷ []) past k.orderly; goes = k.goes.1; agree = λ e key begun granted a b. k.agree e key begun granted (inr a) (inr b); alike = λ e key f g m n a b. k.alike e key f g m n (inr a) (inr b); fresh = k.fresh.1; reserved = k.reserved.1; apart = k.apart.1 }

abbrev pub AllFresh : List Told → List Told → Type 0
AllFresh past [] = Unit {0}
AllFresh past (x ∷ xs) = FreshTold past x × AllFresh (x ∷ past) xs

fresh_before : (told past : List Told) → NumbersAreFresh (onto told past) → NumbersAreFresh past
fresh_before [] past h = h
fresh_before (x ∷ xs) past h = (fresh_before xs (x ∷ past) h).1

pub all_fresh : (told past : List Told) → NumbersAreFresh (onto told past) → AllFresh past told
all_fresh [] past h = tt
all_fresh (x ∷ xs) past h = ((fresh_before xs (x ∷ past) h).0, all_fresh xs (x ∷ past) h)

-- what has a written vector is known
committed_record : (W : FileId → Stamp → List ℕ → Type 0) (r : Record) (file : FileId) (stamp : Stamp) (vector : List ℕ) → IsCommitOf W r file stamp vector → CommitsRecord file r
committed_record W (says.Commit g s made parents content) file stamp vector h = h.0
committed_record W _ file stamp vector h = absurd h

committed_told : (W : FileId → Stamp → List ℕ → Type 0) (x : Told) (file : FileId) (stamp : Stamp) (vector : List ℕ) → IsWrittenBy W x file stamp vector → CommitsFile file x
committed_told W (Shown r) file stamp vector h = committed_record W r file stamp vector h
committed_told W _ file stamp vector h = absurd h

pub written_known : (past : List Told) (file : FileId) (stamp : Stamp) (vector : List ℕ) → WrittenAs past file stamp vector → IsKnown past file
written_known [] file stamp vector h = inl h.root
written_known (x ∷ older) file stamp vector (inl h) = known_later older (x ∷ older) (one_later x older) file (written_known older file stamp vector h)
written_known (x ∷ older) file stamp vector (inr h) = inr (inl (committed_told (WrittenAs older) x file stamp vector h))

-- ---- reserves ----

-- where a number was reserved the group has started
begun_started : (past : List Told) (s : ℕ) (e : EpochId) (key : ℕ) (file : FileId) → InstancesGoOn past → WasBegunAt past s e key file → WasStarted past e file.group
begun_started [] s e key file goes h = absurd h
begun_started (x ∷ older) s e key file goes (inl h) = inr (by_told x goes.0 h)
  where
    by_told : (y : Told) → InstanceGoesOn older y → BegunAt s e key file y → WasStarted older e file.group
    by_told (Begins t at inst of) g k = subst (λ (f : FileId). WasStarted older e f.group) k.3 (subst (λ (i : EpochId). WasStarted older i of.group) k.1 g)
    by_told _ g k = absurd k
begun_started (x ∷ older) s e key file goes (inr h) = inr (begun_started older s e key file goes.1 h)

reserved_begun : (past : List Told) (s : ℕ) (e : EpochId) (key : ℕ) (file : FileId) → ReservesAreApart past → WasReserved past s e key file → WasBegunAt past s e key file
reserved_begun [] s e key file apart h = absurd h
reserved_begun (x ∷ older) s e key file apart (inl h) = inr (by_told x apart.0 h)
  where
    by_told : (y : Told) → ApartTold older y → ReservedAt s e key file y → WasBegunAt older s e key file
    by_told (Reserves t at inst of) g k = subst (λ (n : ℕ). WasBegunAt older n e key file) k.0 (subst (λ (i : EpochId). WasBegunAt older t i key file) k.1 (subst (λ (n : ℕ). WasBegunAt older t at n file) k.2 (subst (WasBegunAt older t at (serial_key inst)) k.3 g.0)))
    by_told _ g k = absurd k
reserved_begun (x ∷ older) s e key file apart (inr h) = inr (reserved_begun older s e key file apart.1 h)

pub reserved_started : (past : List Told) (s : ℕ) (e : EpochId) (key : ℕ) (file : FileId) → InstancesGoOn past → ReservesAreApart past → WasReserved past s e key file → WasStarted past e file.group
reserved_started past s e key file goes apart h = begun_started past s e key file goes (reserved_begun past s e key file apart h)

-- of two reserves of a file in an epoch one is of an instance that is released, or both are of one
later_pair : (older : List Told) (x : Told) (s t : ℕ) (e : EpochId) (j k : ℕ) (file : FileId) → ApartTold older x → ReservedAt s e j file x → WasReserved older t e k file → WasReleased older e k
later_pair older (Reserves r at inst of) s t e j k file h q g = subst (λ (i : EpochId). WasReleased older i k) q.1 (h.1 t k (subst (WasReserved older t at k) (sym q.3) (subst (λ (i : EpochId). WasReserved older t i k file) (sym q.1) g)))
later_pair older _ s t e j k file h q g = absurd q

same_key : (x : Told) (s t : ℕ) (e : EpochId) (j k : ℕ) (file : FileId) → ReservedAt s e j file x → ReservedAt t e k file x → j ≡ k
same_key (Reserves r at inst of) s t e j k file q g = sym q.2 ∙ g.2
same_key _ s t e j k file q g = absurd q

pub pair : (past : List Told) (s t : ℕ) (e : EpochId) (j k : ℕ) (file : FileId) → ReservesAreApart past → WasReserved past s e j file → WasReserved past t e k file → (j ≡ k) ⊎ (WasReleased past e j ⊎ WasReleased past e k)
pair [] s t e j k file h a b = absurd a
pair (x ∷ older) s t e j k file h (inl a) (inl b) = inl (same_key x s t e j k file a b)
pair (x ∷ older) s t e j k file h (inl a) (inr b) = inr (inr (inr (later_pair older x s t e j k file h.0 a b)))
pair (x ∷ older) s t e j k file h (inr a) (inl b) = inr (inl (inr (later_pair older x t s e k j file h.0 b a)))
pair (x ∷ older) s t e j k file h (inr a) (inr b) = rest (pair older s t e j k file h.1 a b)
  where
    rest : (j ≡ k) ⊎ (WasReleased older e j ⊎ WasReleased older e k) → (j ≡ k) ⊎ (WasReleased (x ∷ older) e j ⊎ WasReleased (x ∷ older) e k)
    rest (inl q) = inl q
    rest (inr (inl q)) = inr (inl (inr q))
    rest (inr (inr q)) = inr (inr (inr q))

-- ---- grants and releases ----

granted_reserved_record : (older : List Told) (r : Record) (e : EpochId) (key : ℕ) (file : FileId) → ReservedRecord older r → GrantedAsRecord e key file mode.Make r → (s : ℕ) × WasReserved older s e key file
granted_reserved_record older (says.Grant at call request inst mode.Make of stamp ss) e key file h k = (h.0, subst (λ (i : EpochId). WasReserved older h.0 i key file) k.0 (subst (λ (n : ℕ). WasReserved older h.0 at n file) k.1 (subst (WasReserved older h.0 at (serial_key inst)) k.2 h.1)))
granted_reserved_record older (says.Grant at call request inst mode.Read of stamp ss) e key file h k = absurd (not_make k.3)
  where
    not_make : ◌≡◌ {A = Mode} mode.Read mode.Make → ⊥
    not_make q = cc
granted_reserved_record older (says.Grant at call request inst mode.Write of stamp ss) e key file h k = absurd (not_make k.3)
  where
    not_make : ◌≡◌ {A = Mode} mode.Write mode.Make → ⊥
    not_make q = cc
granted_reserved_record older (says.Grant at call request inst mode.Resolve of stamp ss) e key file h k = absurd (not_make k.3)
  where
    not_make : ◌≡◌ {A = Mode} mode.Resolve mode.Make → ⊥
    not_make q = cc
granted_reserved_record older (says.Grant at call request inst mode.Mend of stamp ss) e key file h k = absurd (not_make k.3)
  where
    not_make : ◌≡◌ {A = Mode} mode.Mend mode.Make → ⊥
    not_make q = cc
granted_reserved_record older _ e key file h k = absurd k

granted_reserved_told : (older : List Told) (x : Told) (e : EpochId) (key : ℕ) (file : FileId) → ReservedTold older x → GrantedAs e key file mode.Make x → (s : ℕ) × WasReserved older s e key file
granted_reserved_told older (Shown r) e key file h k = granted_reserved_record older r e key file h k
granted_reserved_told older _ e key file h k = absurd k

pub granted_reserved : (past : List Told) (e : EpochId) (key : ℕ) (file : FileId) → MakesAreReserved past → WasGrantedAs past e key file mode.Make → (s : ℕ) × WasReserved past s e key file
granted_reserved [] e key file h k = absurd k
granted_reserved (x ∷ older) e key file h (inl k) = let q : (s : ℕ) × WasReserved older s e key file = granted_reserved_told older x e key file h.0 k in (q.0, inr q.1)
granted_reserved (x ∷ older) e key file h (inr k) = let q : (s : ℕ) × WasReserved older s e key file = granted_reserved older e key file h.1 k in (q.0, inr q.1)

-- what was granted was granted in some mode
as_record : (e : EpochId) (key : ℕ) (file : FileId) (r : Record) → GrantedRecord e key file r → (m : Mode) × GrantedAsRecord e key file m r
as_record e key file (says.Grant at call request inst m of stamp ss) h = (m, (h.0, h.1, h.2, refl))
as_record e key file _ h = absurd h

as_told : (e : EpochId) (key : ℕ) (file : FileId) (x : Told) → Granted e key file x → (m : Mode) × GrantedAs e key file m x
as_told e key file (Shown r) h = as_record e key file r h
as_told e key file _ h = absurd h

pub granted_as : (past : List Told) (e : EpochId) (key : ℕ) (file : FileId) → WasGranted past e key file → (m : Mode) × WasGrantedAs past e key file m
granted_as [] e key file h = absurd h
granted_as (x ∷ older) e key file (inl h) = let q : (m : Mode) × GrantedAs e key file m x = as_told e key file x h in (q.0, inl q.1)
granted_as (x ∷ older) e key file (inr h) = let q : (m : Mode) × WasGrantedAs older e key file m = granted_as older e key file h in (q.0, inr q.1)

-- a release is on a file that was granted under its key
pub record ReleasedFile (past : List Told) (e : EpochId) (key : ℕ) : Type 0 where
  pub file : FileId
  pub released : WasTold (ReleasedOn e key file) past
  pub granted : WasGranted past e key file

released_record : (older : List Told) (e : EpochId) (key : ℕ) (r : Record) → RecordGoesOn older r → ReleasedRecord e key r → ReleasedFile (Shown r ∷ older) e key
released_record older e key (says.Release at inst of made) g h = record {
  file = of;
  released = inl (h.0, h.1, refl);
  granted = inr (subst (λ (i : EpochId). WasGranted older i key of) h.0 (subst (λ (n : ℕ). WasGranted older at n of) h.1 g.granted));
}
released_record older e key _ g h = absurd h

released_told : (older : List Told) (e : EpochId) (key : ℕ) (x : Told) → InstanceGoesOn older x → Released e key x → ReleasedFile (x ∷ older) e key
released_told older e key (Shown r) g h = released_record older e key r g h
released_told older e key _ g h = absurd h

pub released_file : (past : List Told) (e : EpochId) (key : ℕ) → InstancesGoOn past → WasReleased past e key → ReleasedFile past e key
released_file [] e key goes h = absurd h
released_file (x ∷ older) e key goes (inl h) = released_told older e key x goes.0 h
released_file (x ∷ older) e key goes (inr h) = let q : ReleasedFile older e key = released_file older e key goes.1 h in record { file = q.file; released = inr q.released; granted = inr q.granted }

-- ---- a table, where others tell ----

-- it is no start of the group, no release of one of its files
pub record IsForeign (e : EpochId) (group : ℕ) (x : Told) : Type 0 where
  pub start : Started e group x → ⊥
  pub release : (key : ℕ) (file : FileId) → file.group ≡ group → ReleasedOn e key file x → ⊥

started_record : (e : EpochId) (group : ℕ) (r : Record) → StartedRecord e group r → TabularRecord e group r
started_record e group (says.Start at of brought) h = h
started_record e group _ h = absurd h

pub started_tabular : (e : EpochId) (group : ℕ) (x : Told) → Started e group x → Tabular e group x
started_tabular e group (Shown r) h = started_record e group r h
started_tabular e group _ h = absurd h

released_tabular_record : (e : EpochId) (key : ℕ) (file : FileId) (r : Record) → ReleasedOnRecord e key file r → TabularRecord e file.group r
released_tabular_record e key file (says.Release at inst of made) h = (h.0, ap (λ (f : FileId). f.group) h.2)
released_tabular_record e key file _ h = absurd h

pub released_tabular : (e : EpochId) (key : ℕ) (file : FileId) (x : Told) → ReleasedOn e key file x → Tabular e file.group x
released_tabular e key file (Shown r) h = released_tabular_record e key file r h
released_tabular e key file _ h = absurd h

pub not_tabular : (e : EpochId) (group : ℕ) (x : Told) → (Tabular e group x → ⊥) → IsForeign e group x
not_tabular e group x h = record { start = λ k. h (started_tabular e group x k); release = λ key file same k. h (subst (λ (n : ℕ). Tabular e n x) same (released_tabular e key file x k)) }

reserve_known : (past : List Told) (x : Told) (s : ℕ) (e : EpochId) (key : ℕ) (file : FileId) → FreshTold past x → IsKnown past file → ReservedAt s e key file x → ⊥
reserve_known past (Reserves t at inst of) s e key file fresh (inl root) k = fresh.0 (ap (λ (f : FileId). f.ino) k.3 ∙ root)
reserve_known past (Reserves t at inst of) s e key file fresh (inr committed) k = fresh.1 (subst (WasCommitted past) (sym k.3) committed)
reserve_known past _ s e key file fresh known k = k

pub free_later : (past : List Told) (x : Told) (e : EpochId) (file : FileId) → FreshTold past x → IsKnown past file → IsFree past e file → IsFree (x ∷ past) e file
free_later past x e file fresh known free s key (inl k) = absurd (reserve_known past x s e key file fresh known k)
free_later past x e file fresh known free s key (inr k) = inr (free s key k)

pub row_later : (past : List Told) (x : Told) (e : EpochId) (group : ℕ) (r : FileRow) → FreshTold past x → RowMade past e group r → RowMade (x ∷ past) e group r
row_later past x e group r fresh h = record { known = λ n. known_later past (x ∷ past) (one_later x past) (file_in group r.ino) (h.known n); free = λ n. free_later past x e (file_in group r.ino) fresh (h.known n) (h.free n) }

stage_later : (past : List Told) (x : Told) (e : EpochId) (files : List FileRow) (r : OpenRow) (s : OpenStage) → StageMade past e files r s → StageMade (x ∷ past) e files r s
stage_later past x e files r stage.Asked h = h
stage_later past x e files r stage.Granted h = (h.0, λ m. inr (h.1 m))
stage_later past x e files r (stage.Refused why) h = tt
stage_later past x e files r stage.Ended h = tt

pub open_later : (past : List Told) (x : Told) (e : EpochId) (group : ℕ) (files : List FileRow) (r : OpenRow) → OpenMade past e group files r → OpenMade (x ∷ past) e group files r
open_later past x e group files r h = record { group_is = h.group_is; stage = stage_later past x e files r r.stage h.stage }

pub table_one : (c : Config) (past : List Told) (x : Told) (me : ℕ) (e : EpochId) (members : Members) (t : SyncTable) → IsForeign e t.group x → FreshTold past x → TableMade c past me e members t → TableMade c (x ∷ past) me e members t
table_one c past x me e members t far fresh h = record {
  synced = h.synced;
  unstarted = λ n k. unstarted n k;
  all = h.all;
  files = every_weaker (RowMade past e t.group) (RowMade (x ∷ past) e t.group) t.files (λ r. row_later past x e t.group r fresh) h.files;
  opens = every_weaker (OpenMade past e t.group t.files) (OpenMade (x ∷ past) e t.group t.files) t.opens (open_later past x e t.group t.files) h.opens;
  ended = λ key file same k. ended key file same k;
  early = h.early;
}
  where
    unstarted : t.started ≡ false → WasStarted (x ∷ past) e t.group → ⊥
    unstarted n (inl k) = far.start k
    unstarted n (inr k) = h.unstarted n k

    ended : (key : ℕ) (file : FileId) → file.group ≡ t.group → WasTold (ReleasedOn e key file) (x ∷ past) → HasEnded t.opens key
    ended key file same (inl k) = absurd (far.release key file same k)
    ended key file same (inr k) = h.ended key file same k

pub table_later : (c : Config) (told past : List Told) (me : ℕ) (e : EpochId) (members : Members) (t : SyncTable) → Every (IsForeign e t.group) told → AllFresh past told → TableMade c past me e members t → TableMade c (onto told past) me e members t
table_later c [] past me e members t far fresh h = h
table_later c (x ∷ xs) past me e members t far fresh h = table_later c xs (x ∷ past) me e members t far.1 fresh.1 (table_one c past x me e members t far.0 fresh.0 h)
