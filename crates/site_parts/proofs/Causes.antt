-- Which answers of an event the disk causes.
use Rattle.std.proofs.Common.{◌≡◌, ℕ, ◌-◌, ◌≤◌, Bool, refl, sym, ◌∙◌, subst, arith}
use Rattle.std.proofs.lemmas.Bool.{false≢true}
use Rattle.std.specs.Prelude.{Option, Result, Ok, Err, IsOk, IsErrAnd}
use Rattle.disk_model.specs.declared.disk.DiskFault.{DiskFault}
use Rattle.disk_model.specs.declared.disk.DiskFault.TheVariants.{Failed}
use Rattle.disk_model.specs.Disk.{Moment, Passing, Untold, All, Exactly, HasCause, Rose, TellsRead}
use Rattle.disk_model.specs.Moments.{TellsMany}
use Rattle.disk_model.proofs.Tells.{tells_rest}
use Rattle.wire_messages.specs.Outboxes.{Outgoing}
use Rattle.role_steps.specs.Views.{DiskWrite}
use Rattle.site_packs.specs.declared.faults.CommitFault.{CommitFault}
use Rattle.site_packs.specs.declared.faults.CommitFault.TheVariants as commit
use Rattle.site_packs.specs.Committing.{calls_of, commit_answer, commit_calls}
use Rattle.site_packs.specs.Packs.{PacksState}
use Rattle.site_mends.specs.Mending.{WasRead}
use Rattle.site_mends.specs.declared.fault.MendFault.{MendFault}
use Rattle.site_mends.specs.declared.fault.MendFault.TheVariants as mend
use Rattle.storage_site.specs.of_store_instances.declared.fault.StoreFault.{StoreFault}
use Rattle.storage_site.specs.of_store_instances.declared.fault.StoreFault.TheVariants as store
use Rattle.storage_site.specs.of_store_instances.Writes.{Reads, Writes, calls_in}
use Rattle.site_parts.specs.declared.fault.NodeFault.{NodeFault}
use Rattle.site_parts.specs.declared.fault.NodeFault.TheVariants.{NoMemory, Disk, Cut, NoNumber, Unfit}
use Rattle.site_parts.specs.Faults.{IsOffDisk, fault_of_commit, fault_of_mend, fault_of_reading, fault_of_store}
use Rattle.site_parts.specs.Writing.{disk_answer}

abbrev Answer : Type 0
Answer = Result (Unit {0}) DiskFault

-- what an event says of its answer and the disk
pub record Causes {T : Type 0} (m n : Moment) (r : Result T NodeFault) : Type 0 where
  pub cause : HasCause m.faults n.faults (disk_answer r)
  pub told : (passed : ℕ) → m.passing ≡ Exactly passed → r ≡ Err Disk → ⊥
  pub free : m.passing ≡ All → IsOk (disk_answer r)

pub causes_ok : {T : Type 0} (m n : Moment) (x : T) → m.faults ≤ n.faults → Causes m n (Ok x)
causes_ok m n x le = record { cause = record { later = le; failed = tt }; told = λ passed e is. absurd cc; free = λ e. refl }

-- a fault that isn't the disk's
pub causes_off : {T : Type 0} (m n : Moment) (e : NodeFault) → IsOffDisk e → m.faults ≤ n.faults → Causes {T = T} m n (Err e)
causes_off m n NoMemory u le = record { cause = record { later = le; failed = tt }; told = λ passed e is. absurd cc; free = λ e. refl }
causes_off m n Disk u le = absurd u
causes_off m n (Cut size) u le = absurd u
causes_off m n NoNumber u le = record { cause = record { later = le; failed = tt }; told = λ passed e is. absurd cc; free = λ e. refl }
causes_off m n Unfit u le = record { cause = record { later = le; failed = tt }; told = λ passed e is. absurd cc; free = λ e. refl }

-- the same fault, of a call that gives something else
pub causes_as : {T S : Type 0} (m n : Moment) (e : NodeFault) → Causes {T = S} m n (Err e) → Causes {T = T} m n (Err e)
causes_as m n NoMemory k = causes_off m n NoMemory tt k.cause.later
causes_as m n Disk k = record { cause = k.cause; told = λ passed e is. k.told passed e refl; free = k.free }
causes_as m n (Cut size) k = record { cause = k.cause; told = λ passed e is. absurd cc; free = k.free }
causes_as m n NoNumber k = causes_off m n NoNumber tt k.cause.later
causes_as m n Unfit k = causes_off m n Unfit tt k.cause.later

pub causes_at : {T S : Type 0} (m n : Moment) (r : Result T NodeFault) (e : NodeFault) → IsErrAnd r (λ f. f ≡ e) → Causes {T = S} m n (Err e) → Causes m n r
causes_at m n (Ok x) e h k = absurd h
causes_at {T = T} {S = S} m n (Err f) e h k = subst (λ (g : NodeFault). Causes {T = T} m n (Err g)) (sym h) (causes_as {T = T} {S = S} m n e k)

-- ---- one part after another ----

rose_then : (a b c : ℕ) → a ≤ b → Rose b c → Rose a c
rose_then a b c le rose = omega (arith, le, rose)

cause_then : (a b c : ℕ) (r : Answer) → a ≤ b → HasCause b c r → HasCause a c r
cause_then a b c (Ok x) le k = record { later = omega (arith, le, k.later); failed = tt }
cause_then a b c (Err e) le k = record { later = omega (arith, le, k.later); failed = rose_then a b c le k.failed }

all_left : (calls : ℕ) (p q : Passing) → TellsMany {T = Unit {0}} {E = DiskFault} calls p q (Ok tt) → p ≡ All → q ≡ All
all_left calls Untold q t e = absurd cc
all_left calls All q t e = t.1
all_left calls (Exactly n) q t e = absurd cc

pub causes_then : {T : Type 0} (calls : ℕ) (m mid n : Moment) (r : Result T NodeFault) → m.faults ≤ mid.faults → TellsMany {T = Unit {0}} {E = DiskFault} calls m.passing mid.passing (Ok tt) → Causes mid n r → Causes m n r
causes_then calls m mid n r le t k = record {
  cause = cause_then m.faults mid.faults n.faults (disk_answer r) le k.cause;
  told = λ passed e is. k.told (passed - calls) (tells_rest calls m.passing mid.passing passed t e).1 is;
  free = λ e. k.free (all_left calls m.passing mid.passing t e);
}

-- ---- the faults of the parts ----

passes_all : (calls : ℕ) (p q : Passing) (r : Answer) → TellsMany calls p q r → p ≡ All → IsOk r
passes_all calls Untold q r t e = absurd cc
passes_all calls All q r t e = t.0
passes_all calls (Exactly n) q r t e = absurd cc

reads_all : (p q : Passing) (r : Answer) → TellsRead p q r → p ≡ All → IsOk r
reads_all Untold q r t e = absurd cc
reads_all All q r t e = t.0
reads_all (Exactly n) q r t e = absurd cc

reads_told : (p q : Passing) (r : Answer) (passed : ℕ) → TellsRead p q r → p ≡ Exactly passed → IsOk r
reads_told Untold q r passed t e = absurd cc
reads_told All q r passed t e = absurd cc
reads_told (Exactly n) q r passed t e = t.0

pub causes_store : {T S : Type 0} (w : Option DiskWrite) (p : PacksState) (m n : Moment) (a b : Outgoing) (e : StoreFault) → Writes {T = S} w p m n a b (Err e) → Causes {T = T} m n (Err (fault_of_store e))
causes_store w p m n a b store.Disk k = record { cause = k.cause; told = λ passed e is. k.told passed e refl; free = λ e. passes_all (calls_in p m.seen w) m.passing n.passing (Err Failed) k.tells e }
causes_store w p m n a b (store.Cut size) k = record { cause = k.cause; told = λ passed e is. absurd cc; free = λ e. passes_all (calls_in p m.seen w) m.passing n.passing (Err Failed) k.tells e }
causes_store w p m n a b store.Unfit k = causes_off m n Unfit tt k.cause.later
causes_store w p m n a b store.NoMemory k = causes_off m n NoMemory tt k.cause.later

-- a read that failed
causes_unread : {T : Type 0} (m n : Moment) → HasCause {T = Unit {0}} {E = DiskFault} m.faults n.faults (Err Failed) → TellsRead {T = Unit {0}} {E = DiskFault} m.passing n.passing (Err Failed) → Causes {T = T} m n (Err Disk)
causes_unread m n c t = record {
  cause = c;
  told = λ passed e is. false≢true (reads_told m.passing n.passing (Err Failed) passed t e);
  free = λ e. reads_all m.passing n.passing (Err Failed) t e;
}

pub causes_read : {T S : Type 0} (m n : Moment) (e : StoreFault) → Reads {T = S} m n (Err e) → Causes {T = T} m n (Err (fault_of_reading e))
causes_read m n store.Disk k = causes_unread m n k.cause k.tells
causes_read m n (store.Cut size) k = causes_unread m n k.cause k.tells
causes_read m n store.Unfit k = causes_off m n Unfit tt k.cause.later
causes_read m n store.NoMemory k = causes_off m n NoMemory tt k.cause.later

pub causes_mend : {T S : Type 0} (p : PacksState) (m n : Moment) (e : MendFault) → WasRead {T = S} p m n (Err e) → Causes {T = T} m n (Err (fault_of_mend e))
causes_mend p m n mend.Disk k = record {
  cause = record { later = k.later; failed = k.cause.0 };
  told = λ passed e is. untold_once passed (sym k.cause.1 ∙ e);
  free = λ e. absurd (untold_all (sym k.cause.1 ∙ e));
}
  where
    untold_once : (passed : ℕ) → Untold ≡ Exactly passed → ⊥
    untold_once passed h = cc

    untold_all : Untold ≡ All → ⊥
    untold_all h = cc
causes_mend p m n mend.NoMemory k = causes_off m n NoMemory tt k.later
causes_mend p m n mend.Unfit k = causes_off m n Unfit tt k.later

-- an adoption answers no failed read
pub causes_adopt : {T : Type 0} (blocks : ℕ) (older : Bool) (m n : Moment) (e : CommitFault) → HasCause m.faults n.faults (commit_answer {T = Unit {0}} (Err e)) → TellsMany (commit_calls {T = Unit {0}} blocks older (Err e)) m.passing n.passing (commit_answer {T = Unit {0}} (Err e)) → (e ≡ commit.Disk → ⊥)
    → Causes {T = T} m n (Err (fault_of_commit e))
causes_adopt blocks older m n commit.Disk c t h = absurd (h refl)
causes_adopt blocks older m n (commit.Cut size) c t h = record { cause = c; told = λ passed e is. absurd cc; free = λ e. passes_all (calls_of blocks older) m.passing n.passing (Err Failed) t e }
causes_adopt blocks older m n commit.NoSpace c t h = causes_off m n Unfit tt c.later
causes_adopt blocks older m n commit.Unfit c t h = causes_off m n Unfit tt c.later
causes_adopt blocks older m n commit.NoMemory c t h = causes_off m n NoMemory tt c.later
