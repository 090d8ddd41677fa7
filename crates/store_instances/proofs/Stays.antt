-- What becomes of the disk in a call that writes nothing, and in one that hands on what became of it.
use Rattle.std.proofs.Common.{◌≡◌, ℕ, List, refl, sym, subst, arith, inl, inr, ⊎_elim}
use Rattle.std.specs.Prelude.{Option, None, Result, Ok, Err, IsErrAnd}
use Rattle.disk_model.specs.Disk.{Moment, IsSettled}
use Rattle.disk_model.specs.Moments.{LeavesOnly}
use Rattle.disk_model.proofs.ReadRuns.{reads_alone, reads_start}
use Rattle.wire_messages.specs.Outboxes.{Outgoing}
use Rattle.role_steps.specs.Views.{DiskWrite}
use Rattle.site_packs.specs.Packs.{PacksState}
use Rattle.store_instances.specs.declared.fault.StoreFault.{StoreFault}
use Rattle.store_instances.specs.declared.fault.StoreFault.TheVariants as fault
use Rattle.store_instances.specs.Writes.{LeavesEver, MayLeave, Writes}

-- a crash now leaves only what has left it before
abbrev pub OnlyNow : Moment → Type 0
OnlyNow m = (c : List ℕ) → m.may_have_left m.now c → m.may_leave c

-- where nothing was asked of a settled disk
pub leaves_still : (write : Option DiskWrite) (p : PacksState) (m : Moment) → IsSettled m → OnlyNow m → LeavesEver p write m m
leaves_still write p m settled only = record {
  later = omega arith;
  each = λ c left. inl (settled c (only c left));
  before = λ t c le left. inl left;
}

-- where its write, or what the disk failed in, leaves this
pub leaves_ever : (write : Option DiskWrite) (p : PacksState) (old new : Moment) → LeavesOnly old new (MayLeave p write old.seen) → LeavesEver p write old new
leaves_ever write p old new leaves = record {
  later = leaves.later;
  each = λ c left. inr (leaves.each c left);
  before = λ t c le left. ⊎_elim (λ was. inl was) (λ is. inr (inr is)) (leaves.before t c le left);
}

-- nothing was written, and nothing asked of the disk
pub nothing_written : {T : Type 0} (p : PacksState) (m : Moment) (before after : Outgoing) (x : T) → IsSettled m → OnlyNow m → Writes None p m m before after (Ok x)
nothing_written p m before after x settled only = record {
  stopped = λ e. absurd cc;
  leaves = leaves_still None p m settled only;
  unread = λ e. absurd cc;
  cause = record { later = omega arith; failed = tt };
  tells = reads_alone m.passing m.passing (reads_start m.passing);
  told = λ passed e is. absurd cc;
  cut = λ passed e. tt;
  size = tt;
  how = refl;
}

-- a fault of the role, as a `?` hands it on
same_fault : {T S : Type 0} (write : Option DiskWrite) (p : PacksState) (old new : Moment) (before after : Outgoing) (e : StoreFault) → Writes {T = S} write p old new before after (Err e) → Writes {T = T} write p old new before after (Err e)
same_fault write p old new before after fault.Disk w = record { stopped = w.stopped; leaves = w.leaves; unread = λ e. w.unread refl; cause = w.cause; tells = w.tells; told = λ passed e is. w.told passed e refl; cut = w.cut; size = w.size; how = w.how }
same_fault write p old new before after (fault.Cut size) w = record { stopped = w.stopped; leaves = w.leaves; unread = λ e. absurd cc; cause = w.cause; tells = w.tells; told = λ passed e is. absurd cc; cut = w.cut; size = w.size; how = w.how }
same_fault write p old new before after fault.Unfit w = record { stopped = w.stopped; leaves = w.leaves; unread = λ e. absurd cc; cause = w.cause; tells = tt; told = λ passed e is. absurd cc; cut = w.cut; size = w.size; how = w.how }
same_fault write p old new before after fault.NoMemory w = record { stopped = w.stopped; leaves = w.leaves; unread = λ e. absurd cc; cause = w.cause; tells = tt; told = λ passed e is. absurd cc; cut = w.cut; size = w.size; how = w.how }

pub same_at : {T S : Type 0} (write : Option DiskWrite) (p : PacksState) (old new : Moment) (before after : Outgoing) (r : Result T StoreFault) (e : StoreFault) → IsErrAnd r (λ f. f ≡ e) → Writes {T = S} write p old new before after (Err e) → Writes write p old new before after r
same_at write p old new before after (Ok x) e h w = absurd h
same_at {T = T} {S = S} write p old new before after (Err f) e h w = same_fault {T = T} {S = S} write p old new before after f (subst (λ (g : StoreFault). Writes {T = S} write p old new before after (Err g)) (sym h) w)

-- the same where memory was wanting
pub nothing_failed : {T : Type 0} (p : PacksState) (m : Moment) (before after : Outgoing) (r : Result T StoreFault) → IsErrAnd r (λ f. f ≡ fault.NoMemory) → IsSettled m → OnlyNow m → Writes None p m m before after r
nothing_failed {T = T} p m before after r h settled only = same_at {T = T} {S = T} None p m m before after r fault.NoMemory h (record {
  stopped = λ e. absurd cc;
  leaves = leaves_still None p m settled only;
  unread = λ e. absurd cc;
  cause = record { later = omega arith; failed = tt };
  tells = tt;
  told = λ passed e is. absurd cc;
  cut = λ passed e. tt;
  size = tt;
  how = refl;
})
