-- What becomes of the disk in a part of an event.
use Rattle.std.proofs.Common.{◌≡◌, ℕ, ◌≤◌, Bool, List, ◌++◌, ◌∷◌, [], refl, sym, ap, ◌∙◌, subst, inl, arith}
use Rattle.std.specs.Prelude.{◌⊎◌, Option, None, Some, is_some, Result, Ok, Err, OnErr, IsErrAnd}
use Rattle.disk_model.specs.declared.disk.DiskFault.{DiskFault}
use Rattle.disk_model.specs.declared.disk.DiskFault.TheVariants.{Failed}
use Rattle.disk_model.specs.Disk.{Moment, IsSettled, Exactly, Goes, HasCause}
use Rattle.disk_model.specs.Images.{Same}
use Rattle.disk_model.specs.Moments.{LeavesOnly, TellsMany}
use Rattle.disk_model.proofs.ReadRuns.{leaves_same, reads_alone}
use Rattle.disk_model.proofs.Tells.{tells_few, tells_none}
use Rattle.wire_messages.specs.Outboxes.{Outgoing}
use Rattle.role_steps.specs.Adoption.{adopt_record, adopt_write, content_adopted, content_laid, copy_adopted}
use Rattle.role_steps.specs.Pulling.{wanted_pages}
use Rattle.role_steps.specs.Storage.{content_of}
use Rattle.role_steps.specs.Views.{DiskWrite, Frame}
use Rattle.role_steps.specs.declared.copies.FileCopy.{FileCopy}
use Rattle.role_steps.specs.declared.pulls.Pull.{Pull}
use Rattle.site_packs.specs.declared.faults.CommitFault.{CommitFault}
use Rattle.site_packs.specs.declared.faults.CommitFault.TheVariants as commit
use Rattle.site_packs.specs.declared.faults.WriteSize.{WriteSize}
use Rattle.site_packs.specs.Committing.{MayBeLeft, blocks_over, calls_of, commit_answer, commit_calls}
use Rattle.site_packs.specs.Cutting.{HasSize, IsCut}
use Rattle.site_packs.specs.Packs.{PacksState, copy_at}
use Rattle.merge_protocol.specs.declared.errors.EpochError.{EpochError}
use Rattle.merge_protocol.specs.declared.errors.EpochError.TheVariants as epoch
use Rattle.packet_order.specs.declared.fault.OrderFault.{OrderFault}
use Rattle.packet_order.specs.declared.fault.OrderFault.TheVariants as order
use Rattle.site_mends.specs.Mending.{WasRead}
use Rattle.site_mends.specs.declared.fault.MendFault.{MendFault}
use Rattle.site_mends.specs.declared.fault.MendFault.TheVariants as mend
use Rattle.storage_site.specs.of_store_instances.declared.fault.StoreFault.{StoreFault}
use Rattle.storage_site.specs.of_store_instances.declared.fault.StoreFault.TheVariants as store
use Rattle.storage_site.specs.of_store_instances.Writes.{LeavesEver, MayLeave, Reads, Writes, blocks_in, calls_in}
use Rattle.storage_site.proofs.of_store_instances.Stays.{OnlyNow, leaves_ever, leaves_still}
use Rattle.site_parts.specs.declared.fault.NodeFault.{NodeFault}
use Rattle.site_parts.specs.declared.fault.NodeFault.TheVariants.{Disk, Cut}
use Rattle.site_parts.specs.Faults.{IsOffDisk, fault_of_commit, fault_of_epoch, fault_of_mend, fault_of_order, fault_of_reading, fault_of_store}
use Rattle.site_parts.specs.Writing.{EventWrites, IsCutIn, replaces}
use Rattle.site_parts.proofs.Causes.{Causes, causes_adopt, causes_at, causes_mend, causes_off, causes_ok, causes_read, causes_store}

same_fault : {T : Type 0} (e f : NodeFault) → ◌≡◌ {A = Result T NodeFault} (Err e) (Err f) → e ≡ f
same_fault e f h = cc

same_size : (s t : WriteSize) → Cut s ≡ Cut t → s ≡ t
same_size s t h = cc

as_err : {T : Type 0} (e f : NodeFault) → e ≡ f → ◌≡◌ {A = Result T NodeFault} (Err e) (Err f)
as_err e f h = cc

-- ---- the ways that a part ends ----

-- it ended well
well : {T : Type 0} (w : Option DiskWrite) (p : PacksState) (m n : Moment) (a b : Outgoing) (x : T) → LeavesEver p w m n → n.how ≡ m.how → TellsMany {T = Unit {0}} {E = DiskFault} (calls_in p m.seen w) m.passing n.passing (Ok tt) → m.faults ≤ n.faults → EventWrites w p m n a b (Ok x)
well {T = T} w p m n a b x leaves how passes later = let c : Causes {T = T} m n (Ok x) = causes_ok m n x later in record {
  leaves = leaves;
  how = how;
  passes = passes;
  cut = λ size h. absurd cc;
  cause = c.cause;
  told = c.told;
  free = c.free;
}

-- a fault in which a write may be cut off
ill : {T S : Type 0} (w : Option DiskWrite) (p : PacksState) (m n : Moment) (a b : Outgoing) (r : Result T NodeFault) (e : NodeFault) → IsErrAnd r (λ f. f ≡ e) → ((size : WriteSize) → e ≡ Cut size → IsCutIn w p size m n a b) → LeavesEver p w m n → n.how ≡ m.how → Causes {T = S} m n (Err e) → EventWrites w p m n a b r
ill w p m n a b (Ok x) e h u l k c = absurd h
ill {T = T} {S = S} w p m n a b (Err f) e h u l k c = let d : Causes {T = T} m n (Err f) = causes_at {T = T} {S = S} m n (Err f) e h c in record {
  leaves = l;
  how = k;
  passes = tt;
  cut = λ size g. u size (sym h ∙ same_fault f (Cut size) g);
  cause = d.cause;
  told = d.told;
  free = d.free;
}

disk_uncut : (size : WriteSize) → Disk ≡ Cut size → ⊥
disk_uncut size h = cc

off_uncut : (e : NodeFault) → IsOffDisk e → (size : WriteSize) → e ≡ Cut size → ⊥
off_uncut e u size h = subst IsOffDisk h u

-- a settled disk of which nothing was asked
pub untouched : {T : Type 0} (w : Option DiskWrite) (p : PacksState) (m : Moment) (a b : Outgoing) (x : T) → w ≡ None → IsSettled m → OnlyNow m → EventWrites w p m m a b (Ok x)
untouched w p m a b x e settled only =
    well w p m m a b x (leaves_still w p m settled only) refl (subst (λ (o : Option DiskWrite). TellsMany {T = Unit {0}} {E = DiskFault} (calls_in p m.seen o) m.passing m.passing (Ok tt)) (sym e) (tells_none m.passing)) (omega arith)

-- a fault that isn't the disk's
pub failed : {T : Type 0} (w : Option DiskWrite) (p : PacksState) (m n : Moment) (a b : Outgoing) (r : Result T NodeFault) (e : NodeFault) → IsErrAnd r (λ f. f ≡ e) → IsOffDisk e → LeavesEver p w m n → n.how ≡ m.how → m.faults ≤ n.faults → EventWrites w p m n a b r
failed {T = T} w p m n a b r e h u l k later = ill {T = T} {S = T} w p m n a b r e h (λ size g. absurd (off_uncut e u size g)) l k (causes_off m n e u later)

pub epoch_off : (e : EpochError) → IsOffDisk (fault_of_epoch e)
epoch_off epoch.NoMemory = tt
epoch_off epoch.NoNumber = tt

pub order_off : (e : OrderFault) → IsOffDisk (fault_of_order e)
order_off order.NoMemory = tt
order_off order.Unfit = tt

pub failed_still : {T : Type 0} (w : Option DiskWrite) (p : PacksState) (m : Moment) (a b : Outgoing) (r : Result T NodeFault) (e : NodeFault) → IsErrAnd r (λ f. f ≡ e) → IsOffDisk e → IsSettled m → OnlyNow m → EventWrites w p m m a b r
failed_still w p m a b r e h u settled only = failed w p m m a b r e h u (leaves_still w p m settled only) refl (omega arith)

-- a fault behind a part that ended well
pub failed_after : {T S : Type 0} (w : Option DiskWrite) (p : PacksState) (m n : Moment) (a b c d : Outgoing) (x : S) (r : Result T NodeFault) (e : NodeFault) → EventWrites w p m n c d (Ok x) → IsErrAnd r (λ f. f ≡ e) → IsOffDisk e → EventWrites w p m n a b r
failed_after w p m n a b c d x r e k h u = failed w p m n a b r e h u k.leaves k.how k.cause.later

-- the fault of a part, as a `?` hands it on
pub handed : {T S : Type 0} (w : Option DiskWrite) (p : PacksState) (m n : Moment) (a b : Outgoing) (r : Result T NodeFault) (e : NodeFault) → IsErrAnd r (λ f. f ≡ e) → EventWrites {T = S} w p m n a b (Err e) → EventWrites w p m n a b r
handed {T = T} {S = S} w p m n a b r e h k = ill {T = T} {S = S} w p m n a b r e h (λ size g. k.cut size (as_err {T = S} e (Cut size) g)) k.leaves k.how (record { cause = k.cause; told = k.told; free = k.free })

-- ---- the storage role ----

cut_in : {T : Type 0} (w : Option DiskWrite) (p : PacksState) (m n : Moment) (a b : Outgoing) (size : WriteSize) → Writes {T = T} w p m n a b (Err (store.Cut size)) → IsCutIn w p size m n a b
cut_in None p m n a b size k = absurd k.size
cut_in (Some w) p m n a b size k = record {
  blocks = k.size.0;
  older = k.size.1;
  records = (k.stopped refl).records;
  packets = (k.stopped refl).packets;
  early = λ passed e. tells_few (calls_in p m.seen (Some w)) m.passing n.passing (Err Failed) passed k.tells e;
  left = λ passed e. k.cut passed e;
}

pub store_ok : {T S : Type 0} (w : Option DiskWrite) (p : PacksState) (m n : Moment) (a b : Outgoing) (x : T) (y : S) → Writes w p m n a b (Ok y) → EventWrites w p m n a b (Ok x)
store_ok w p m n a b x y k = well w p m n a b x k.leaves k.how k.tells k.cause.later

store_cut : {S : Type 0} (w : Option DiskWrite) (p : PacksState) (m n : Moment) (a b : Outgoing) (e : StoreFault) → Writes {T = S} w p m n a b (Err e) → (size : WriteSize) → fault_of_store e ≡ Cut size → IsCutIn w p size m n a b
store_cut w p m n a b store.Disk k size g = absurd (disk_uncut size g)
store_cut w p m n a b store.Unfit k size g = absurd (off_uncut (fault_of_store store.Unfit) tt size g)
store_cut w p m n a b store.NoMemory k size g = absurd (off_uncut (fault_of_store store.NoMemory) tt size g)
store_cut {S = S} w p m n a b (store.Cut s) k size g = subst (λ (z : WriteSize). IsCutIn w p z m n a b) (same_size s size g) (cut_in {T = S} w p m n a b s k)

pub store_err : {T S : Type 0} (w : Option DiskWrite) (p : PacksState) (m n : Moment) (a b : Outgoing) (r : Result T NodeFault) (e : StoreFault) → IsErrAnd r (λ f. f ≡ fault_of_store e) → Writes {T = S} w p m n a b (Err e) → EventWrites w p m n a b r
store_err {T = T} {S = S} w p m n a b r e h k = ill {T = T} {S = T} w p m n a b r (fault_of_store e) h (store_cut {S = S} w p m n a b e k) k.leaves k.how (causes_store {T = T} {S = S} w p m n a b e k)

-- ---- an adoption ----

abbrev Committed : ℕ → Bool → Moment → Moment → Result (Unit {0}) CommitFault → Type 0
Committed blocks older m n r = TellsMany (commit_calls blocks older r) m.passing n.passing (commit_answer r)

adopt_cut : (w : DiskWrite) (p : PacksState) (m n : Moment) (a b : Outgoing) (size : WriteSize) → Committed (blocks_in p m.seen w) (replaces p m.seen w) m n (Err (commit.Cut size)) → HasSize (blocks_in p m.seen w) (replaces p m.seen w) (commit.Cut size)
    → ((passed : ℕ) → m.passing ≡ Exactly passed → IsCut p w.copy (blocks_in p m.seen w) m.how passed m.seen n.left) → b ≡ record a { records = a.records ++ w.says ∷ [] } → IsCutIn (Some w) p size m n a b
adopt_cut w p m n a b size tells big left told = record {
  blocks = big.0;
  older = big.1;
  records = ap (λ (o : Outgoing). o.records) told;
  packets = ap (λ (o : Outgoing). o.packets) told;
  early = λ passed e. tells_few (calls_of (blocks_in p m.seen w) (replaces p m.seen w)) m.passing n.passing (Err Failed) passed tells e;
  left = left;
}

adopt_ok : (w : DiskWrite) (p : PacksState) (m n : Moment) (a b : Outgoing) → LeavesOnly m n (MayBeLeft p w.copy m.seen) → n.how ≡ m.how → Committed (blocks_in p m.seen w) (replaces p m.seen w) m n (Ok tt) → m.faults ≤ n.faults → EventWrites {T = Unit {0}} (Some w) p m n a b (Ok tt)
adopt_ok w p m n a b leaves how tells later = well (Some w) p m n a b tt (leaves_ever (Some w) p m n leaves) how tells later

cut_by : (w : DiskWrite) (p : PacksState) (m n : Moment) (a b : Outgoing) (e : CommitFault) → Committed (blocks_in p m.seen w) (replaces p m.seen w) m n (Err e) → HasSize (blocks_in p m.seen w) (replaces p m.seen w) e
    → ((passed : ℕ) → m.passing ≡ Exactly passed → OnErr (commit_answer {T = Unit {0}} (Err e)) (IsCut p w.copy (blocks_in p m.seen w) m.how passed m.seen n.left)) → b ≡ record a { records = a.records ++ w.says ∷ [] } → (size : WriteSize) → fault_of_commit e ≡ Cut size → IsCutIn (Some w) p size m n a b
cut_by w p m n a b commit.Disk tells big left told size g = absurd (disk_uncut size g)
cut_by w p m n a b commit.NoSpace tells big left told size g = absurd (off_uncut (fault_of_commit commit.NoSpace) tt size g)
cut_by w p m n a b commit.Unfit tells big left told size g = absurd (off_uncut (fault_of_commit commit.Unfit) tt size g)
cut_by w p m n a b commit.NoMemory tells big left told size g = absurd (off_uncut (fault_of_commit commit.NoMemory) tt size g)
cut_by w p m n a b (commit.Cut s) tells big left told size g = subst (λ (z : WriteSize). IsCutIn (Some w) p z m n a b) (same_size s size g) (adopt_cut w p m n a b s tells big left told)

adopt_err : (w : DiskWrite) (p : PacksState) (m n : Moment) (a b : Outgoing) (r : Result (Unit {0}) NodeFault) (e : CommitFault) → IsErrAnd r (λ f. f ≡ fault_of_commit e) → LeavesOnly m n (MayBeLeft p w.copy m.seen) → n.how ≡ m.how
    → Committed (blocks_in p m.seen w) (replaces p m.seen w) m n (Err e) → HasSize (blocks_in p m.seen w) (replaces p m.seen w) e
    → ((passed : ℕ) → m.passing ≡ Exactly passed → OnErr (commit_answer {T = Unit {0}} (Err e)) (IsCut p w.copy (blocks_in p m.seen w) m.how passed m.seen n.left)) → b ≡ record a { records = a.records ++ w.says ∷ [] }
    → HasCause m.faults n.faults (commit_answer {T = Unit {0}} (Err e)) → (e ≡ commit.Disk → ⊥) → EventWrites (Some w) p m n a b r
adopt_err w p m n a b r e h leaves how tells big left told cause read =
    ill {T = Unit {0}} {S = Unit {0}} (Some w) p m n a b r (fault_of_commit e) h (cut_by w p m n a b e tells big left told) (leaves_ever (Some w) p m n leaves) how (causes_adopt (blocks_in p m.seen w) (replaces p m.seen w) m n e cause tells read)

as_refused : (e f : CommitFault) → e ≡ f → ◌≡◌ {A = Result (Unit {0}) CommitFault} (Err e) (Err f)
as_refused e f h = cc

pub unread_adopt : (e : CommitFault) → (◌≡◌ {A = Result (Unit {0}) CommitFault} (Err e) (Err commit.Disk) → ⊥) → e ≡ commit.Disk → ⊥
unread_adopt e h g = h (as_refused e commit.Disk g)

-- the copy of a pulled version, with this content
abbrev pub copy_with : Pull → List ℕ → FileCopy
copy_with p xs = record { file = p.file; kind = p.kind; set = p.set; stamp = p.stamp; vector = p.vector; content = xs }

-- the content that pages which came make of the own copy
abbrev pub content_come : Pull → PacksState → List ℕ → (numbers came : List ℕ) → List ℕ
content_come p packs image numbers came = content_laid p.size numbers came (content_of (copy_at packs image p.file))

module _ (f : Frame) (p : Pull) (numbers came : List ℕ) (numbered : numbers ≡ wanted_pages p) (filled : came ≡ p.content) (packs : PacksState) (m n : Moment) (a b : Outgoing)
    (left_so : LeavesOnly m n (MayBeLeft packs (copy_with p (content_come p packs m.seen numbers came)) m.seen)) (how : n.how ≡ m.how) where
  abbrev own : List ℕ
  own = content_of (copy_at packs m.seen p.file)

  abbrev made : List ℕ
  made = content_come p packs m.seen numbers came

  is : made ≡ content_adopted p own
  is = λ i. content_laid p.size (numbered i) (filled i) own

  -- the blocks that the pack is given are those of the adoption
  blocks : blocks_over (copy_at packs m.seen p.file) made numbers ≡ blocks_in packs m.seen (adopt_write f p own)
  blocks = λ i. blocks_over (copy_at packs m.seen p.file) (is i) (numbered i)

  leaves : LeavesOnly m n (MayBeLeft packs (copy_adopted p own) m.seen)
  leaves = subst (λ (ys : List ℕ). LeavesOnly m n (MayBeLeft packs (copy_with p ys) m.seen)) is left_so

  pub pull_ok : Committed (blocks_over (copy_at packs m.seen p.file) made numbers) (is_some (copy_at packs m.seen p.file)) m n (Ok tt) → m.faults ≤ n.faults → EventWrites {T = Unit {0}} (Some (adopt_write f p own)) packs m n a b (Ok tt)
  pull_ok tells later = adopt_ok (adopt_write f p own) packs m n a b leaves how (subst (λ (k : ℕ). Committed k (is_some (copy_at packs m.seen p.file)) m n (Ok tt)) blocks tells) later

  pub pull_err : (r : Result (Unit {0}) NodeFault) (e : CommitFault) → IsErrAnd r (λ f. f ≡ fault_of_commit e) → Committed (blocks_over (copy_at packs m.seen p.file) made numbers) (is_some (copy_at packs m.seen p.file)) m n (Err e) → HasSize (blocks_over (copy_at packs m.seen p.file) made numbers) (is_some (copy_at packs m.seen p.file)) e
      → ((passed : ℕ) → m.passing ≡ Exactly passed → OnErr (commit_answer {T = Unit {0}} (Err e)) (IsCut packs (copy_with p made) (blocks_over (copy_at packs m.seen p.file) made numbers) m.how passed m.seen n.left)) → b ≡ record a { records = a.records ++ adopt_record f p ∷ [] }
      → HasCause m.faults n.faults (commit_answer {T = Unit {0}} (Err e)) → (e ≡ commit.Disk → ⊥) → EventWrites (Some (adopt_write f p own)) packs m n a b r
  pull_err r e h tells big left told cause read =
      adopt_err (adopt_write f p own) packs m n a b r e h leaves how
      (subst (λ (k : ℕ). Committed k (is_some (copy_at packs m.seen p.file)) m n (Err e)) blocks tells)
      (subst (λ (k : ℕ). HasSize k (is_some (copy_at packs m.seen p.file)) e) blocks big)
      (λ passed here. subst (λ (ys : List ℕ). OnErr (commit_answer {T = Unit {0}} (Err e)) (IsCut packs (copy_with p ys) (blocks_in packs m.seen (adopt_write f p own)) m.how passed m.seen n.left)) is (subst (λ (k : ℕ). OnErr (commit_answer {T = Unit {0}} (Err e)) (IsCut packs (copy_with p made) k m.how passed m.seen n.left)) blocks (left passed here)))
      told cause read

  -- a fault behind it
  pub pull_failed : {T : Type 0} (r : Result T NodeFault) (e : NodeFault) → IsErrAnd r (λ f. f ≡ e) → IsOffDisk e → m.faults ≤ n.faults → EventWrites (Some (adopt_write f p own)) packs m n a b r
  pull_failed r e h u later = failed (Some (adopt_write f p own)) packs m n a b r e h u (leaves_ever (Some (adopt_write f p own)) packs m n leaves) how later

-- ---- what only reads ----

reading_uncut : (s : StoreFault) (size : WriteSize) → fault_of_reading s ≡ Cut size → ⊥
reading_uncut store.Disk size g = disk_uncut size g
reading_uncut (store.Cut z) size g = disk_uncut size g
reading_uncut store.Unfit size g = off_uncut (fault_of_store store.Unfit) tt size g
reading_uncut store.NoMemory size g = off_uncut (fault_of_store store.NoMemory) tt size g

mend_uncut : (e : MendFault) (size : WriteSize) → fault_of_mend e ≡ Cut size → ⊥
mend_uncut mend.Disk size g = disk_uncut size g
mend_uncut mend.NoMemory size g = off_uncut (fault_of_mend mend.NoMemory) tt size g
mend_uncut mend.Unfit size g = off_uncut (fault_of_mend mend.Unfit) tt size g

module _ {D : Type 0} (moment : D → Moment) where
  reads_leave : (w : Option DiskWrite) (p : PacksState) (old new : D) → IsSettled (moment old) → OnlyNow (moment old) → Goes Same (moment old) (moment new) → LeavesEver p w (moment old) (moment new)
  reads_leave w p old new settled only goes = leaves_same moment old new (moment old).seen (λ (image : List ℕ). (image ≡ (moment old).seen) ⊎ MayLeave p w (moment old).seen image) settled only goes (inl refl)

  pub reads_well : {T S : Type 0} (p : PacksState) (old new : D) (a b : Outgoing) (x : T) (y : S) → IsSettled (moment old) → OnlyNow (moment old) → Reads (moment old) (moment new) (Ok y) → EventWrites None p (moment old) (moment new) a b (Ok x)
  reads_well p old new a b x y settled only k = well None p (moment old) (moment new) a b x (reads_leave None p old new settled only k.same) k.how (reads_alone (moment old).passing (moment new).passing k.tells) k.cause.later

  pub reads_ill : {T S : Type 0} (p : PacksState) (old new : D) (a b : Outgoing) (e : NodeFault) (s : StoreFault) → e ≡ fault_of_reading s → IsSettled (moment old) → OnlyNow (moment old) → Reads {T = S} (moment old) (moment new) (Err s) → EventWrites {T = T} None p (moment old) (moment new) a b (Err e)
  reads_ill {T = T} {S = S} p old new a b e s h settled only k = ill {T = T} {S = T} None p (moment old) (moment new) a b (Err e) (fault_of_reading s) h (reading_uncut s) (reads_leave None p old new settled only k.same) k.how (causes_read {T = T} {S = S} (moment old) (moment new) s k)

  pub mends_well : {T S : Type 0} (p : PacksState) (old new : D) (a b : Outgoing) (x : T) (y : S) → IsSettled (moment old) → OnlyNow (moment old) → WasRead p (moment old) (moment new) (Ok y) → EventWrites None p (moment old) (moment new) a b (Ok x)
  mends_well p old new a b x y settled only k = well None p (moment old) (moment new) a b x (reads_leave None p old new settled only k.same) k.how (reads_alone (moment old).passing (moment new).passing k.passes) k.later

  pub mends_ill : {T S : Type 0} (p : PacksState) (old new : D) (a b : Outgoing) (r : Result T NodeFault) (e : MendFault) → IsErrAnd r (λ f. f ≡ fault_of_mend e) → IsSettled (moment old) → OnlyNow (moment old) → WasRead {T = S} p (moment old) (moment new) (Err e) → EventWrites None p (moment old) (moment new) a b r
  mends_ill {T = T} {S = S} p old new a b r e h settled only k = ill {T = T} {S = T} None p (moment old) (moment new) a b r (fault_of_mend e) h (mend_uncut e) (reads_leave None p old new settled only k.same) k.how (causes_mend {T = T} {S = S} p (moment old) (moment new) e k)

-- the same write, named otherwise
pub written_as : {T : Type 0} (w x : Option DiskWrite) (p : PacksState) (m n : Moment) (a b : Outgoing) (r : Result T NodeFault) → w ≡ x → EventWrites x p m n a b r → EventWrites w p m n a b r
written_as {T = T} w x p m n a b r e k = subst (λ (o : Option DiskWrite). EventWrites {T = T} o p m n a b r) (sym e) k

-- what only reads, whatever the packs and the outbox are
pub none_at : {T : Type 0} (p q : PacksState) (m n : Moment) (a b c d : Outgoing) (r : Result T NodeFault) → EventWrites None q m n c d r → EventWrites None p m n a b r
none_at p q m n a b c d r k = record { leaves = k.leaves; how = k.how; passes = k.passes; cut = λ size g. k.cut size g; cause = k.cause; told = k.told; free = k.free }

-- ---- an event that writes nothing, by its end ----

module _ (w : Option DiskWrite) (none : w ≡ None) (p q : PacksState) (m n : Moment) (a b c d : Outgoing) where
  pub ended_well : {T S : Type 0} (x : T) (y : S) → EventWrites None q m n c d (Ok y) → EventWrites w p m n a b (Ok x)
  ended_well {T = T} x y k = written_as {T = T} w None p m n a b (Ok x) none (well None p m n a b x k.leaves k.how k.passes k.cause.later)

  pub ended_ill : {T S : Type 0} (r : Result T NodeFault) (e : NodeFault) → IsErrAnd r (λ f. f ≡ e) → EventWrites {T = S} None q m n c d (Err e) → EventWrites w p m n a b r
  ended_ill {T = T} {S = S} r e h k = written_as {T = T} w None p m n a b r none (handed {T = T} {S = S} None p m n a b r e h (none_at {T = S} p q m n a b c d (Err e) k))

  pub ended_late : {T S : Type 0} (r : Result T NodeFault) (e : NodeFault) (y : S) → IsErrAnd r (λ f. f ≡ e) → IsOffDisk e → EventWrites None q m n c d (Ok y) → EventWrites w p m n a b r
  ended_late {T = T} r e y h u k = written_as {T = T} w None p m n a b r none (failed None p m n a b r e h u k.leaves k.how k.cause.later)
