-- Which turns end a run, and how.
use Rattle.std.proofs.Common.{◌≡◌, ℕ, ◌≤◌, arith, ⊎_elim, Bool, true, false, List, Option, None, Some, Result, Ok, Err, ◌⊎◌, ap, sym, subst, ◌∙◌, refl}
use Rattle.std.specs.Prelude.{OnOk, OnErr, IfErr, IsErrAnd}
use Rattle.std.specs.Io.KnownBytes.{Keeps}
use Rattle.std.proofs.lemmas.Bool.{false≢true}
use Rattle.locus_io.specs.Causes.{Rose}
use Rattle.locus_io.specs.declared.traits.WriteFault.{WriteFault}
use Rattle.locus_io.specs.declared.traits.WriteFault.TheVariants as write
use Rattle.the_run.specs.Worlds.{Limit}
use Rattle.the_run.specs.Worlds as bound
use Rattle.schedule_run.specs.declared.fault.RunFault.{RunFault}
use Rattle.schedule_run.specs.declared.fault.RunFault.TheVariants.{Bad, NoMemory, World}
use Rattle.input_run.specs.Codes.{ends_written, limited, status_of}
use Rattle.input_run.specs.Turns.{ends_turn, ends_telling}
use Rattle.input_run.specs.Ends.{status_of_line}
use Rattle.input_run.specs.declared.status.Status.{Status}
use Rattle.input_run.specs.declared.status.Status.TheVariants as status
use Rattle.input_run.specs.declared.status.Limited.{Limited}
use Rattle.input_run.specs.declared.status.Limited.TheVariants as what

-- only a bad line ends a run as one
pub line_is_bad : (f : RunFault) (n line : ℕ) → status_of_line f n ≡ status.BadLine line → (f ≡ Bad) × (line ≡ n)
line_is_bad Bad n line e = (refl, cc)
line_is_bad NoMemory n line e = absurd (cc)
line_is_bad (World x) n line e = absurd (cc)

-- a fault ends a turn
pub faults_end : (f : RunFault) (n : ℕ) → ends_turn (status_of_line f n) ≡ true
faults_end Bad n = refl
faults_end NoMemory n = refl
faults_end (World x) n = refl

-- and is no limit
pub no_limit_is : (f : RunFault) (n : ℕ) (what : Limited) → status_of_line f n ≡ status.Limit what → ⊥
no_limit_is Bad n what e = cc
no_limit_is NoMemory n what e = cc
no_limit_is (World x) n what e = cc

-- nor a fault of a write
pub no_write_is : (f : RunFault) (n : ℕ) → status_of_line f n ≡ status.WriteFault → ⊥
no_write_is Bad n e = cc
no_write_is NoMemory n e = cc
no_write_is (World x) n e = cc

-- the limits of a run end a turn
pub limits_end : (l : Limit) → ends_telling (status.Limit (limited l)) ≡ true
limits_end bound.Packets = refl
limits_end bound.Bytes = refl
limits_end bound.Trace = refl

one_limited : (a b : Limited) → status.Limit a ≡ status.Limit b → a ≡ b
one_limited a b e = cc

-- each has its own name
pub limited_once : (l m : Limit) → status.Limit (limited l) ≡ status.Limit (limited m) → l ≡ m
limited_once bound.Packets bound.Packets e = refl
limited_once bound.Packets bound.Bytes e = absurd (let f = one_limited (limited bound.Packets) (limited bound.Bytes) e in cc)
limited_once bound.Packets bound.Trace e = absurd (let f = one_limited (limited bound.Packets) (limited bound.Trace) e in cc)
limited_once bound.Bytes bound.Packets e = absurd (let f = one_limited (limited bound.Bytes) (limited bound.Packets) e in cc)
limited_once bound.Bytes bound.Bytes e = refl
limited_once bound.Bytes bound.Trace e = absurd (let f = one_limited (limited bound.Bytes) (limited bound.Trace) e in cc)
limited_once bound.Trace bound.Packets e = absurd (let f = one_limited (limited bound.Trace) (limited bound.Packets) e in cc)
limited_once bound.Trace bound.Bytes e = absurd (let f = one_limited (limited bound.Trace) (limited bound.Bytes) e in cc)
limited_once bound.Trace bound.Trace e = refl

-- telling ends a turn as it ends a run
pub telling_ends : (s : Status) → ends_telling s ≡ true → ends_turn s ≡ true
telling_ends status.Ok h = h
telling_ends status.BadWords h = h
telling_ends (status.BadLine line) h = refl
telling_ends status.ReadFault h = h
telling_ends status.WriteFault h = h
telling_ends status.NoMemory h = h
telling_ends (status.Limit what.Packets) h = h
telling_ends (status.Limit what.Bytes) h = h
telling_ends (status.Limit what.Trace) h = h
telling_ends (status.Limit what.Line) h = h
telling_ends (status.Limit what.Lines) h = h

-- telling doesn't end a run otherwise
pub telling_not : (s t : Status) → ends_telling s ≡ true → ends_telling t ≡ false → s ≡ t → ⊥
telling_not s t h f e = false≢true (sym f ∙ (ap ends_telling (sym e) ∙ h))

-- a turn doesn't end a run otherwise
pub ends_not : (s t : Status) → ends_turn s ≡ true → ends_turn t ≡ false → s ≡ t → ⊥
ends_not s t h f e = false≢true (sym f ∙ (ap ends_turn (sym e) ∙ h))

-- ---- what a turn does ----

-- bytes that nothing came to
pub keeps_same : (a : Option (List ℕ)) → Keeps a a
keeps_same None = tt
keeps_same (Some xs) = refl

-- what a write that fails comes to
pub write_ends : (f : WriteFault) → ends_telling (status_of f) ≡ true
write_ends write.Failed = refl
write_ends write.NoMemory = refl

pub write_holds : (f : WriteFault) → ends_written (status_of f) ≡ false
write_holds write.Failed = refl
write_holds write.NoMemory = refl

pub write_failed : (f : WriteFault) → status_of f ≡ status.WriteFault → f ≡ write.Failed
write_failed write.Failed e = refl
write_failed write.NoMemory e = absurd (cc)

pub write_no_limit : (f : WriteFault) (what : Limited) → status_of f ≡ status.Limit what → ⊥
write_no_limit write.Failed what e = cc
write_no_limit write.NoMemory what e = cc

-- a turn's last answer: no limit was passed, or the one that was
abbrev pub Stopped : Option Limit → Status → Type 0
Stopped passed s = (limit : Limit) × (passed ≡ Some limit) × (s ≡ status.Limit (limited limit))

pub stopped_ends : (o : Option Limit) (s : Status) → Stopped o s → ends_telling s ≡ true
stopped_ends o s h = ap ends_telling h.2 ∙ limits_end h.0

pub stopped_at : (o : Option Limit) (s : Status) (limit : Limit) → Stopped o s → s ≡ status.Limit (limited limit) → o ≡ Some limit
stopped_at o s limit h e = h.1 ∙ ap (λ (l : Limit). Some l) (limited_once h.0 limit (sym h.2 ∙ e))

no_write_limit : (what : Limited) → status.Limit what ≡ status.WriteFault → ⊥
no_write_limit what e = cc

pub stopped_no_write : (o : Option Limit) (s : Status) → Stopped o s → s ≡ status.WriteFault → ⊥
stopped_no_write o s h e = no_write_limit (limited h.0) (sym h.2 ∙ e)

-- ---- answers ----

pub same_err : {T E : Type 0} (x y : E) → ◌≡◌ {A = Result T E} (Err x) (Err y) → x ≡ y
same_err x y e = cc

pub always_err : {T E P : Type 0} (r : Result T E) → P → OnErr r P
always_err (Ok x) p = tt
always_err (Err y) p = p

pub always_ok : {T E P : Type 0} (r : Result T E) → P → OnOk r P
always_ok (Ok x) p = p
always_ok (Err y) p = tt

pub then_ok : {T E P Q : Type 0} (r : Result T E) → OnOk r P → (P → Q) → OnOk r Q
then_ok (Ok x) p f = f p
then_ok (Err y) p f = tt

pub then_err : {T E : Type 0} {P Q : E → Type 0} (r : Result T E) → IfErr r P → ((e : E) → P e → Q e) → IfErr r Q
then_err (Ok x) p f = tt
then_err (Err y) p f = f y p

pub then_on_err : {T E P Q : Type 0} (r : Result T E) → OnErr r P → (P → Q) → OnErr r Q
then_on_err (Ok x) p f = tt
then_on_err (Err y) p f = f p

pub at_err : {T E : Type 0} (P : E → Type 0) (r : Result T E) (e : E) → IfErr r P → r ≡ Err e → P e
at_err P (Ok x) e p q = absurd (cc)
at_err P (Err y) e p q = subst P (same_err y e q) p

-- an answer that hands on a fault of a write
abbrev pub HandsOn : Result (Unit {0}) Status → WriteFault → Type 0
HandsOn r f = IsErrAnd r (λ s. s ≡ status_of f)

pub hands_no_ok : (P : Type 0) (r : Result (Unit {0}) Status) (f : WriteFault) → HandsOn r f → OnOk r P
hands_no_ok P (Ok x) f m = absurd m
hands_no_ok P (Err s) f m = tt

pub hands_ends : (r : Result (Unit {0}) Status) (f : WriteFault) → HandsOn r f → IfErr r (λ s. ends_telling s ≡ true)
hands_ends (Ok x) f m = tt
hands_ends (Err s) f m = ap ends_telling m ∙ write_ends f

pub hands_held : (P : Type 0) (r : Result (Unit {0}) Status) (f : WriteFault) → HandsOn r f → IfErr r (λ s. ends_written s ≡ true → P)
hands_held P (Ok x) f m = tt
hands_held P (Err s) f m = λ h. absurd (false≢true (sym (write_holds f) ∙ (sym (ap ends_written m) ∙ h)))

pub hands_is : (r : Result (Unit {0}) Status) (f : WriteFault) (t : Status) → HandsOn r f → r ≡ Err t → status_of f ≡ t
hands_is (Ok x) f t m e = absurd m
hands_is (Err s) f t m e = sym m ∙ same_err s t e

-- ---- how reading a line ends a run ----

abbrev pub by_reading : Status → Bool
by_reading status.ReadFault = true
by_reading (status.Limit what.Line) = true
by_reading (status.Limit what.Lines) = true
by_reading _ = false

pub reads_end : {T : Type 0} (s : Status) → (◌≡◌ {A = Result T Status} (Err s) (Err status.ReadFault)) ⊎ (◌≡◌ {A = Result T Status} (Err s) (Err (status.Limit what.Line))) ⊎ (◌≡◌ {A = Result T Status} (Err s) (Err (status.Limit what.Lines))) → by_reading s ≡ true
reads_end {T = T} s h = ⊎_elim
    (λ e. ap by_reading (same_err {T = T} s _ e))
    (λ k. ⊎_elim (λ e. ap by_reading (same_err {T = T} s _ e)) (λ e. ap by_reading (same_err {T = T} s _ e)) k)
    h

pub reads_not : (s t : Status) → by_reading s ≡ true → by_reading t ≡ false → s ≡ t → ⊥
reads_not s t h f e = false≢true (sym f ∙ (ap by_reading (sym e) ∙ h))

pub no_read_limit : (l : Limit) → by_reading (status.Limit (limited l)) ≡ false
no_read_limit bound.Packets = refl
no_read_limit bound.Bytes = refl
no_read_limit bound.Trace = refl

-- a count that rose has risen since before
pub rose_since : (a b c : ℕ) → a ≤ b → Rose b c → Rose a c
rose_since a b c p h = omega (arith, p, h)
