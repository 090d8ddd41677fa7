-- What the script of a disk is, from what the disk tells of the calls that pass.
use Rattle.std.proofs.Common.{◌≡◌, ⊎_elim, ℕ, ◌-◌, ◌<◌, ◌≤◌, Bool, true, false, refl, sym, ◌∙◌, ap, subst}
use Rattle.std.specs.Prelude.{Option, None, Some, Ok, Err}
use Rattle.std.specs.Option.{option_map}
use Rattle.std.proofs.lemmas.Bool.{false≢true, cases_lt}
use Rattle.disk_model.specs.declared.disk.DiskFault.{DiskFault}
use Rattle.disk_model.specs.declared.disk.DiskFault.TheVariants.{Failed}
use Rattle.disk_model.specs.declared.script.Armed.{Armed}
use Rattle.disk_model.specs.declared.script.Armed.TheVariants.{Nothing, StopAfter, FaultAfter}
use Rattle.disk_model.specs.declared.script.Fired.{Fired}
use Rattle.disk_model.specs.declared.script.Fired.TheVariants.{No, Stop, Fault}
use Rattle.disk_model.specs.declared.script.Leave.{Leave}
use Rattle.disk_model.specs.declared.script.Leave.TheVariants.{Old}
use Rattle.disk_model.specs.declared.script.Script.{Script}
use Rattle.disk_model.specs.Cut.{Cut, Stops, Fails}
use Rattle.disk_model.specs.Disk.{Passing, Untold, All, Exactly}
use Rattle.disk_model.specs.Moments.{TellsMany}
use Rattle.disk_model.specs.Script.{passing_at, passing_of, how_at, how_of}
use Rattle.site_disk.specs.Run.{as_cut}
use Rattle.site_place.specs.declared.script.CallCut.{CallCut}
use Rattle.site_place.specs.declared.script.CallCut.TheVariants as script
use Rattle.site_place.specs.declared.script.DiskScript.{DiskScript}
use Rattle.site_place.specs.Places.{cut_by}
use Rattle.site_place.specs.Counts.{counted, armed_disk, armed_by_script, waiting}

-- ---- what is told ----

abbrev is_all : Passing → Bool
is_all Untold = false
is_all All = true
is_all (Exactly calls) = false

abbrev is_exact : Passing → Bool
is_exact Untold = false
is_exact All = false
is_exact (Exactly calls) = true

abbrev count_of : Passing → ℕ
count_of Untold = 0
count_of All = 0
count_of (Exactly calls) = calls

abbrev stops : Cut → Bool
stops (Stops leave) = true
stops Fails = false

abbrev leave_in : Cut → Leave
leave_in (Stops leave) = leave
leave_in Fails = Old

waits : (s : Script) (writes : Armed) → s.fired ≡ No → s.reads ≡ None → s.writes ≡ writes → s ≡ waiting writes s.faults
waits s writes fired reads is = (λ i. record { writes = is i; reads = reads i; fired = fired i; faults = s.faults })

all_at : (fired : Fired) (reads : Option ℕ) (writes : Armed) → passing_at fired reads writes ≡ All → (fired ≡ No) × (reads ≡ None) × (writes ≡ Nothing)
all_at No None Nothing e = (refl, refl, refl)
all_at No None (StopAfter calls leave) e = absurd (false≢true (ap is_all e))
all_at No None (FaultAfter calls) e = absurd (false≢true (ap is_all e))
all_at No (Some reads) writes e = absurd (false≢true (ap is_all e))
all_at Stop reads writes e = absurd (false≢true (ap is_all e))
all_at Fault reads writes e = absurd (false≢true (ap is_all e))

-- where all calls pass no script is armed
pub all_script : (s : Script) → passing_of s ≡ All → s ≡ waiting Nothing s.faults
all_script s e = let at = all_at s.fired s.reads s.writes e in waits s Nothing at.0 at.1 at.2

left_at : (fired : Fired) (reads : Option ℕ) (writes : Armed) (n : ℕ) (how : CallCut) → passing_at fired reads writes ≡ Exactly n → how_at writes ≡ as_cut (cut_by how) → (fired ≡ No) × (reads ≡ None) × (writes ≡ armed_disk n how)
left_at No None Nothing n how e h = absurd (false≢true (ap is_exact e))
left_at No None (StopAfter calls leave) n (script.Stops l) e h = (refl, refl, (let count = ap count_of e in let left = ap leave_in h in (λ i. StopAfter (count i) (left i))))
left_at No None (StopAfter calls leave) n script.Fails e h = absurd (false≢true (sym (ap stops h)))
left_at No None (FaultAfter calls) n (script.Stops l) e h = absurd (false≢true (ap stops h))
left_at No None (FaultAfter calls) n script.Fails e h = (refl, refl, ap FaultAfter (ap count_of e))
left_at No (Some reads) writes n how e h = absurd (false≢true (ap is_exact e))
left_at Stop reads writes n how e h = absurd (false≢true (ap is_exact e))
left_at Fault reads writes n how e h = absurd (false≢true (ap is_exact e))

-- where so many pass, and the next one is cut off so, the script says it
pub left_script : (s : Script) (n : ℕ) (how : CallCut) → passing_of s ≡ Exactly n → how_of s ≡ as_cut (cut_by how) → s ≡ waiting (armed_disk n how) s.faults
left_script s n how e h = let at = left_at s.fired s.reads s.writes n how e h in waits s (armed_disk n how) at.0 at.1 at.2

-- ---- what an armed script tells ----

passing_armed : (n : ℕ) (how : CallCut) (faults : ℕ) → passing_of (waiting (armed_disk n how) faults) ≡ Exactly n
passing_armed n (script.Stops leave) faults = refl
passing_armed n script.Fails faults = refl

how_armed : (n : ℕ) (how : CallCut) (faults : ℕ) → how_of (waiting (armed_disk n how) faults) ≡ as_cut (cut_by how)
how_armed n (script.Stops leave) faults = refl
how_armed n script.Fails faults = refl

counted_armed : (n kept : ℕ) (how : CallCut) (faults : ℕ) → counted (waiting (armed_disk n how) faults) kept ≡ n
counted_armed n kept (script.Stops leave) faults = refl
counted_armed n kept script.Fails faults = refl

pub passing_is : (s : Script) (x : DiskScript) (faults : ℕ) → s ≡ waiting (armed_by_script (Some x)) faults → passing_of s ≡ Exactly x.left
passing_is s x faults is = ap (λ (k : Script). passing_of k) is ∙ passing_armed x.left x.how faults

pub how_is : (s : Script) (x : DiskScript) (faults : ℕ) → s ≡ waiting (armed_by_script (Some x)) faults → how_of s ≡ as_cut (cut_by x.how)
how_is s x faults is = ap (λ (k : Script). how_of k) is ∙ how_armed x.left x.how faults

-- ---- calls that passed ----

abbrev pub with_count : ℕ → Option DiskScript → Option DiskScript
with_count left armed = option_map (λ (x : DiskScript). record x { left = left }) armed

-- so many calls passed of the script, where one was armed
abbrev pub AllPassed : Option DiskScript → ℕ → ℕ → Type 0
AllPassed None n left = Unit {0}
AllPassed (Some x) n left = (n ≤ x.left) × (left ≡ x.left - n)

pub record HasPassed (armed : Option DiskScript) (n left : ℕ) (new : Script) : Type 0 where
  pub passed : AllPassed armed n left
  pub script : new ≡ waiting (armed_by_script (with_count left armed)) new.faults

exactly : (n calls : ℕ) (q : Passing) → TellsMany {T = Unit {0}} {E = DiskFault} n (Exactly calls) q (Ok tt) → (n ≤ calls) × (q ≡ Exactly (calls - n))
exactly n calls q told =
    let le : n ≤ calls = ⊎_elim (λ (lt : calls < n). absurd (false≢true (told.too_few lt).0)) (λ (ge : n ≤ calls). ge) (cases_lt calls n) in
    (le, (told.enough le).1)

-- after calls that passed the script has fewer left
pub has_passed : (armed : Option DiskScript) (n left faults : ℕ) (old new : Script) → old ≡ waiting (armed_by_script armed) faults → TellsMany {T = Unit {0}} {E = DiskFault} n (passing_of old) (passing_of new) (Ok tt)
    → how_of new ≡ how_of old → counted new left ≡ left → HasPassed armed n left new
has_passed None n left faults old new was tells how count =
    let told = subst (λ (k : Passing). TellsMany {T = Unit {0}} {E = DiskFault} n k (passing_of new) (Ok tt)) (ap (λ (k : Script). passing_of k) was) tells in
    record { passed = tt; script = all_script new told.1 }
has_passed (Some x) n left faults old new was tells how count =
    let told = exactly n x.left (passing_of new) (subst (λ (k : Passing). TellsMany {T = Unit {0}} {E = DiskFault} n k (passing_of new) (Ok tt)) (passing_is old x faults was) tells) in
    let now = left_script new (x.left - n) x.how told.1 (how ∙ how_is old x faults was) in
    let kept : left ≡ x.left - n = sym count ∙ (ap (λ (k : Script). counted k left) now ∙ counted_armed (x.left - n) left x.how new.faults) in
    record {
      passed = (told.0, kept);
      script = now ∙ ap (λ (k : ℕ). waiting (armed_disk k x.how) new.faults) (sym kept);
    }

-- calls that didn't all pass were more than the script lets pass
pub too_few : (n calls : ℕ) (p q : Passing) → p ≡ Exactly calls → TellsMany {T = Unit {0}} {E = DiskFault} n p q (Err Failed) → calls < n
too_few n calls p q exact tells =
    let told = subst (λ (k : Passing). TellsMany {T = Unit {0}} {E = DiskFault} n k q (Err Failed)) exact tells in
    ⊎_elim (λ (lt : calls < n). lt) (λ (ge : n ≤ calls). absurd (false≢true (told.enough ge).0)) (cases_lt calls n)

-- calls that all pass don't fail
pub not_failed : (n : ℕ) (p q : Passing) → p ≡ All → TellsMany {T = Unit {0}} {E = DiskFault} n p q (Err Failed) → ⊥
not_failed n p q all tells = false≢true (subst (λ (k : Passing). TellsMany {T = Unit {0}} {E = DiskFault} n k q (Err Failed)) all tells).0
