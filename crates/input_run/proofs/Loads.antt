-- What `make` promises comes from how its load ends.
use Rattle.std.proofs.Common.{◌≡◌, ℕ, List, Option, Some, None, true, false, refl, sym, ap, ◌∙◌, inl, inr}
use Rattle.std.proofs.lemmas.Bool.{false≢true}
use Rattle.input_run.specs.declared.status.Status.{Status}
use Rattle.std.specs.Io.KnownBytes.{Appends}
use Rattle.locus_io.specs.Causes.{AppendsFront}
use Rattle.locus_io.specs.declared.traits.WriteFault.{WriteFault}
use Rattle.locus_io.specs.declared.traits.WriteFault.TheVariants as write
use Rattle.the_run.specs.Worlds.{Limit}
use Rattle.the_run.specs.Worlds as bound
use Rattle.run_book.specs.Ledgers.{limit_named}
use Rattle.run_book.specs.declared.fault.Passed.{Passed}
use Rattle.schedule_run.specs.declared.load_fault.LoadFault.{LoadFault}
use Rattle.schedule_run.specs.declared.load_fault.LoadFault.TheVariants as load
use Rattle.input_run.specs.declared.status.Status.TheVariants as status
use Rattle.input_run.specs.Codes.{limited, ends_load, status_of}
use Rattle.input_run.specs.Ends.{status_of_load}
use Rattle.input_run.specs.Promises.{LoadPromises}
use Rattle.input_run.proofs.Told.{AppendsFront-whole}
use Rattle.input_run.proofs.Runs.{none_of}
use Rattle.input_run.proofs.Turns.{keeps_same, limited_once}

over_both : (o : Option Limit) (l : Limit) → o ≡ None → o ≡ Some l → ⊥
over_both o l e f = cc

limits_end : (l : Limit) → ends_load (status.Limit (limited l)) ≡ true
limits_end bound.Packets = refl
limits_end bound.Bytes = refl
limits_end bound.Trace = refl

ok_no_limit : (m : Limit) → status.Ok ≡ status.Limit (limited m) → ⊥
ok_no_limit m e = cc

memory_no_limit : (m : Limit) → status.NoMemory ≡ status.Limit (limited m) → ⊥
memory_no_limit m e = cc

write_no_limit : (m : Limit) → status.WriteFault ≡ status.Limit (limited m) → ⊥
write_no_limit m e = cc

-- the counts are written
pub load_whole : (over : Option Limit) (text : List ℕ) (t u : Option (List ℕ)) → over ≡ None → Appends t u text → LoadPromises over text status.Ok t u
load_whole over text t u free written = record {
  within = λ e. free;
  whole = λ e. written;
  limit = λ l e. absurd (ok_no_limit l e);
  stops = λ l e. absurd (over_both over l free e);
  only = refl;
  front = AppendsFront-whole t u text written;
  complete = λ f n. inl refl;
}

-- a write failed
pub load_unwritten : (over : Option Limit) (text : List ℕ) (fault : WriteFault) (t u : Option (List ℕ)) → over ≡ None → AppendsFront t u text → LoadPromises over text (status_of fault) t u
load_unwritten over text write.Failed t u free front = record {
  within = λ e. absurd (cc);
  whole = λ e. absurd (cc);
  limit = λ l e. absurd (write_no_limit l e);
  stops = λ l e. absurd (over_both over l free e);
  only = refl;
  front = front;
  complete = λ f n. absurd (n refl);
}
load_unwritten over text write.NoMemory t u free front = record {
  within = λ e. absurd (cc);
  whole = λ e. absurd (cc);
  limit = λ l e. absurd (memory_no_limit l e);
  stops = λ l e. absurd (over_both over l free e);
  only = refl;
  front = front;
  complete = λ f n. inr refl;
}

pub no_load : (over : Option Limit) (text : List ℕ) (t : Option (List ℕ)) → LoadPromises over text status.NoMemory t t
no_load over text t = record {
  within = λ e. absurd (cc);
  whole = λ e. absurd (cc);
  limit = λ l e. absurd (memory_no_limit l e);
  stops = λ l e. keeps_same t;
  only = refl;
  front = none_of t text;
  complete = λ f n. inr refl;
}

for_limit : (over : Option Limit) (text : List ℕ) (t : Option (List ℕ)) (m : Limit) → over ≡ Some m → LoadPromises over text (status.Limit (limited m)) t t
for_limit over text t m passes = record {
  within = λ e. absurd (ok_no_limit m (sym e));
  whole = λ e. absurd (ok_no_limit m (sym e));
  limit = λ l e. passes ∙ ap (λ (x : Limit). Some x) (limited_once m l e);
  stops = λ l e. keeps_same t;
  only = limits_end m;
  front = none_of t text;
  complete = λ f n. absurd (over_both over m f passes);
}

-- the load was not run to its end
pub load_undone : (over : Option Limit) (text : List ℕ) (fault : LoadFault) (t : Option (List ℕ)) → ((p : Passed) → fault ≡ load.Limit p → over ≡ Some (limit_named p)) → LoadPromises over text (status_of_load fault) t t
load_undone over text (load.Limit p) t passes = for_limit over text t (limit_named p) (passes p refl)
load_undone over text load.NoMemory t passes = no_load over text t
load_undone over text (load.World cause) t passes = no_load over text t

limit_not_written : (l : Limit) → status.Limit (limited l) ≡ status.WriteFault → ⊥
limit_not_written l e = cc

-- it is no fault of a write
pub undone_no_write : (fault : LoadFault) → status_of_load fault ≡ status.WriteFault → ⊥
undone_no_write (load.Limit p) e = limit_not_written (limit_named p) e
undone_no_write load.NoMemory e = cc
undone_no_write (load.World cause) e = cc

pub undone_not_ok : (fault : LoadFault) → status_of_load fault ≡ status.Ok → ⊥
undone_not_ok (load.Limit p) e = ok_no_limit (limit_named p) (sym e)
undone_not_ok load.NoMemory e = cc
undone_not_ok (load.World cause) e = cc

pub undone_ends : (fault : LoadFault) → ends_load (status_of_load fault) ≡ true
undone_ends (load.Limit p) = limits_end (limit_named p)
undone_ends load.NoMemory = refl
undone_ends (load.World cause) = refl

pub write_ends_load : (fault : WriteFault) → ends_load (status_of fault) ≡ true
write_ends_load write.Failed = refl
write_ends_load write.NoMemory = refl

pub write_not_ok : (fault : WriteFault) → status_of fault ≡ status.Ok → ⊥
write_not_ok write.Failed e = cc
write_not_ok write.NoMemory e = cc

-- a load doesn't end otherwise
pub load_not : (s t : Status) → ends_load s ≡ true → ends_load t ≡ false → s ≡ t → ⊥
load_not s t h f e = false≢true (sym f ∙ (ap ends_load (sym e) ∙ h))
