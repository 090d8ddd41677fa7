-- The mends that start at the end of an event.
use Rattle.std.proofs.Common.{◌≡◌, ℕ, true, false, Bool, not, ◌&&◌, List, [], ◌∷◌, length, take, drop, get_or, ◌≤◌, ◌-◌, arith, Option, None, Some, refl, sym, ap, ◌∙◌, subst}
use Rattle.std.proofs.lemmas.List.{take_all}
use Rattle.std.proofs.lemmas.Bool.{false≢true}
use Rattle.std.specs.Prelude.{Result, Ok, Err, OnOk, IfErr, IsErrAnd}
use Rattle.disk_model.specs.declared.disk.DiskFault.{DiskFault}
use Rattle.disk_model.specs.declared.disk.DiskFault.TheVariants.{Failed}
use Rattle.disk_model.specs.Disk.{Moment, Passing, Untold, All, Exactly, Goes, HasCause, Rose, TellsRead}
use Rattle.disk_model.specs.Images.{Same}
use Rattle.disk_model.proofs.Moments.{on_ok}
use Rattle.disk_model.proofs.ReadRuns.{goes_same, reads_join}
use Rattle.locus_ids.specs.declared.ids.FileId.{FileId}
use Rattle.wire_messages.specs.Outboxes.{Outgoing}
use Rattle.site_frame.specs.of_role_steps.Views.{Frame, SiteView, Users, Outcome, quiet}
use Rattle.site_frame.specs.of_role_steps.Epochs.{with_users}
use Rattle.site_frame.specs.of_role_steps.Using.{on_call}
use Rattle.site_frame.specs.of_role_steps.Tables.{first_that}
use Rattle.site_frame.specs.of_role_steps.declared.synchronizing.FileRow.{FileRow}
use Rattle.trace_book.specs.declared.call.Call.TheVariants as call
use Rattle.site_frame.specs.of_role_steps.Mends.{has_mend_in, row_file, starts_mend, starts_mend_of, starts_mends_in, wants_mend}
use Rattle.site_frame.specs.of_role_steps.declared.synchronizing.SyncTable.{SyncTable}
use Rattle.site_packs.specs.Copies.{copies_on}
use Rattle.site_packs.specs.Committing.{read_answer}
use Rattle.site_packs.specs.Packs.{PacksState, Stand, groups_of}
use Rattle.site_packs.specs.declared.faults.ReadFault.{ReadFault}
use Rattle.site_packs.specs.declared.faults.ReadFault.TheVariants as read
use Rattle.site_tables.specs.of_using_site.Steps.{Gives}
use Rattle.site_tables.proofs.Giving.{gives_as, gives_then, gives_within}
use Rattle.site_mends.specs.Mending.{IsCause, IsOffDisk, IsSeen, WasRead, fault_of_read, file_in}
use Rattle.site_mends.specs.declared.fault.MendFault.{MendFault}
use Rattle.site_mends.specs.declared.fault.MendFault.TheVariants.{NoMemory, Disk, Unfit}

pub seen_with : (v : SiteView) (packs : PacksState) (image after : List ℕ) (u now : Users) → after ≡ image → IsSeen v packs image u → IsSeen (with_users v now) packs after now
seen_with v packs image after u now e h = record { copies = h.copies ∙ ap (λ xs. copies_on (groups_of packs) xs) (sym e); users = refl }

-- ---- why a reading failed ----

abbrev IsTold : Passing → Type 0
IsTold Untold = ⊥
IsTold All = Unit {0}
IsTold (Exactly n) = Unit {0}

rose_then : (old mid new : ℕ) → old ≤ mid → Rose mid new → Rose old new
rose_then old mid new le rose = omega (arith, le, rose)

told_well : {T : Type 0} (r : Result T MendFault) (p q : Passing) → TellsRead {T = Unit {0}} {E = DiskFault} p q (Ok tt) → OnOk r (TellsRead {T = Unit {0}} {E = DiskFault} p q (Ok tt))
told_well (Ok x) p q t = t
told_well (Err e) p q t = tt

on_err : {T : Type 0} (r : Result T MendFault) (A B : MendFault → Type 0) → ((f : MendFault) → A f → B f) → IfErr r A → IfErr r B
on_err (Ok x) A B f a = tt
on_err (Err e) A B f a = f e a

-- where the disk tells nothing after reads that passed, it told nothing before them
untold_then : (p q : Passing) → TellsRead {T = Unit {0}} {E = DiskFault} p q (Ok tt) → q ≡ Untold → p ≡ Untold
untold_then Untold q t e = refl
untold_then All q t e = absurd (subst IsTold (sym t.1 ∙ e) tt)
untold_then (Exactly n) q t e = absurd (subst IsTold (sym t.1 ∙ e) tt)

untold : (p q : Passing) (x : DiskFault) → TellsRead {T = Unit {0}} {E = DiskFault} p q (Err x) → p ≡ Untold
untold Untold q x t = refl
untold All q x t = absurd (false≢true t.0)
untold (Exactly n) q x t = absurd (false≢true t.0)

-- the count that rose after reads that passed rose over all
cause_then : (old mid new : Moment) (f : MendFault) → old.faults ≤ mid.faults → TellsRead {T = Unit {0}} {E = DiskFault} old.passing mid.passing (Ok tt) → IsCause mid new f → IsCause old new f
cause_then old mid new Disk le t c = (rose_then old.faults mid.faults new.faults le c.0, untold_then old.passing mid.passing t c.1)
cause_then old mid new NoMemory le t c = tt
cause_then old mid new Unfit le t c = tt

cause_off : {T : Type 0} (old new : Moment) (r : Result T MendFault) → IfErr r IsOffDisk → IfErr r (IsCause old new)
cause_off old new (Ok x) h = tt
cause_off old new (Err Disk) h = absurd h
cause_off old new (Err NoMemory) h = tt
cause_off old new (Err Unfit) h = tt

cause_read : (old new : Moment) (e : ReadFault) → HasCause old.faults new.faults (read_answer {T = Unit {0}} (Err e)) → TellsRead old.passing new.passing (read_answer {T = Unit {0}} (Err e)) → IsCause old new (fault_of_read e)
cause_read old new read.Disk h t = (h.failed, untold old.passing new.passing Failed t)
cause_read old new read.NoMemory h t = tt

-- a content that couldn't be read
pub read_ill : {T : Type 0} (packs : PacksState) (old new : Moment) (r : Result T MendFault) (e : ReadFault) → IsErrAnd r (λ f. f ≡ fault_of_read e) → new.seen ≡ old.seen → Stand packs new → new.how ≡ old.how → Goes Same old new
    → HasCause old.faults new.faults (read_answer {T = Unit {0}} (Err e)) → TellsRead old.passing new.passing (read_answer {T = Unit {0}} (Err e)) → WasRead packs old new r
read_ill packs old new (Ok x) e h seen stands how same c t = absurd h
read_ill packs old new (Err f) e h seen stands how same c t = record {
  seen = seen;
  stands = stands;
  how = how;
  same = same;
  passes = tt;
  later = c.later;
  cause = subst (IsCause old new) (sym h) (cause_read old new e c t);
}

-- what was read well, whatever is then answered of it
pub read_well : {T : Type 0} (packs : PacksState) (old new : Moment) (r : Result T MendFault) → new.seen ≡ old.seen → Stand packs new → new.how ≡ old.how → Goes Same old new → HasCause {T = Unit {0}} {E = DiskFault} old.faults new.faults (Ok tt)
    → TellsRead {T = Unit {0}} {E = DiskFault} old.passing new.passing (Ok tt) → IfErr r IsOffDisk → WasRead packs old new r
read_well packs old new r seen stands how same c t h = record {
  seen = seen;
  stands = stands;
  how = how;
  same = same;
  passes = told_well r old.passing new.passing t;
  later = c.later;
  cause = cause_off old new r h;
}

-- whatever it gave
pub read_alone : {T : Type 0} (packs : PacksState) (old new : Moment) (x : T) → WasRead packs old new (Ok x) → WasRead {T = Unit {0}} packs old new (Ok tt)
read_alone packs old new x h = record { seen = h.seen; stands = h.stands; how = h.how; same = h.same; passes = h.passes; later = h.later; cause = tt }

-- one reading after another
module _ {D : Type 0} (moment : D → Moment) where
  pub read_then : {S T : Type 0} (packs : PacksState) (old mid new : D) (x : S) (r : Result T MendFault) → WasRead packs (moment old) (moment mid) (Ok x) → WasRead packs (moment mid) (moment new) r → WasRead packs (moment old) (moment new) r
  read_then packs old mid new x r h k = record {
    seen = k.seen ∙ h.seen;
    stands = k.stands;
    how = k.how ∙ h.how;
    same = goes_same moment old mid new h.same k.same;
    passes = on_ok r (TellsRead {T = Unit {0}} {E = DiskFault} (moment mid).passing (moment new).passing (Ok tt)) (TellsRead {T = Unit {0}} {E = DiskFault} (moment old).passing (moment new).passing (Ok tt)) (λ t. reads_join (moment old).passing (moment mid).passing (moment new).passing (Ok tt) h.passes t) k.passes;
    later = omega (arith, h.later, k.later);
    cause = on_err r (IsCause (moment mid) (moment new)) (IsCause (moment old) (moment new)) (λ f c. cause_then (moment old) (moment mid) (moment new) f h.later h.passes c) k.cause;
  }

-- ---- the mend of one group ----

no_file : {P : Type 0} (file : FileId) → ◌≡◌ {A = Option FileId} (Some file) None → P
no_file file e = absurd (cc)

same_found : (a b : FileId) → ◌≡◌ {A = Option FileId} (Some a) (Some b) → a ≡ b
same_found a b e = cc

mend_of : (f : Frame) (t : SyncTable) (v : SiteView) (r : Option FileRow) (u now : Users) (file : FileId) (a b : Outgoing) → v.users ≡ u → ◌≡◌ {A = Option FileId} (Some file) (file_in t r) → Gives (on_call f (Some f.epoch) 0 (call.Mend file) u) now a b → Gives (starts_mend_of f t r v) (with_users v now) a b
mend_of f t v None u now file a b h e g = no_file file e
mend_of f t v (Some r) u now file a b h e g =
    gives_within (with_users v) (on_call f (Some f.epoch) 0 (call.Mend (row_file t r)) v.users) now a b (gives_as (on_call f (Some f.epoch) 0 (call.Mend file) u) (on_call f (Some f.epoch) 0 (call.Mend (row_file t r)) v.users) now a b (ap (λ x. on_call f (Some f.epoch) 0 (call.Mend (row_file t r)) x) h ∙ ap (λ x. on_call f (Some f.epoch) 0 (call.Mend x) u) (sym (same_found file (row_file t r) e))) g)

abbrev starts_by : Frame → SyncTable → SiteView → Bool → Outcome SiteView
starts_by f t v b = elim b [
  | true ↦ starts_mend_of f t (first_that (wants_mend v t) t.files) v
  | false ↦ quiet v
]

may_start : (t : SyncTable) (v : SiteView) (u : Users) → v.users ≡ u → t.started ≡ true → has_mend_in u t.group ≡ false → (t.started && not (has_mend_in v.users t.group)) ≡ true
may_start t v u h s n = ap (λ b. b && not (has_mend_in v.users t.group)) s ∙ (ap (λ x. not (has_mend_in x t.group)) h ∙ ap not n)

-- the first directory that wants a mend gets it, where the table has started and none waits
pub mend_starts : (f : Frame) (t : SyncTable) (v : SiteView) (u now : Users) (file : FileId) (a b : Outgoing) → v.users ≡ u → t.started ≡ true → has_mend_in u t.group ≡ false → ◌≡◌ {A = Option FileId} (Some file) (file_in t (first_that (wants_mend v t) t.files)) → Gives (on_call f (Some f.epoch) 0 (call.Mend file) u) now a b → Gives (starts_mend f t v) (with_users v now) a b
mend_starts f t v u now file a b h s n e g =
    gives_as (starts_mend_of f t (first_that (wants_mend v t) t.files) v) (starts_mend f t v) (with_users v now) a b (ap (starts_by f t v) (may_start t v u h s n)) (mend_of f t v (first_that (wants_mend v t) t.files) u now file a b h e g)

-- a mend in one group, and then in the others
pub mends_then : (f : Frame) (t : SyncTable) (ts : List SyncTable) (v : SiteView) (u w : Users) (a b c : Outgoing) → Gives (starts_mend f t v) (with_users v u) a b → Gives (starts_mends_in f ts (with_users v u)) (with_users (with_users v u) w) b c → Gives (starts_mends_in f (t ∷ ts) v) (with_users v w) a c
mends_then f t ts v u w a b c g h = gives_then (starts_mend f t v) (starts_mends_in f ts) (with_users v u) (with_users v w) a b c g h

rest_of : (t : SyncTable) (ts : List SyncTable) → take (length (t ∷ ts) - 1) (drop 1 (t ∷ ts)) ≡ ts
rest_of t ts = take_all (length (t ∷ ts) - 1) ts (omega arith)

-- the same of a list that begins with this table
pub mends_of : (f : Frame) (all : List SyncTable) (t : SyncTable) (v : SiteView) (u w : Users) (a b c : Outgoing) → 1 ≤ length all → t ≡ get_or all 0 t → Gives (starts_mend f t v) (with_users v u) a b → Gives (starts_mends_in f (take (length all - 1) (drop 1 all)) (with_users v u)) (with_users (with_users v u) w) b c → Gives (starts_mends_in f all v) (with_users v w) a c
mends_of f [] t v u w a b c some e g h = absurd (omega arith)
mends_of f (x ∷ ts) t v u w a b c some e g h =
    mends_then f x ts v u w a b c (subst (λ y. Gives (starts_mend f y v) (with_users v u) a b) e g) (subst (λ l. Gives (starts_mends_in f l (with_users v u)) (with_users (with_users v u) w) b c) (rest_of x ts) h)
