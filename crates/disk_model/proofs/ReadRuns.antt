-- Reads of a disk, one after another, and runs of calls that follow each other.
use Rattle.std.proofs.Common.{◌≡◌, ⊎_elim, ◌≤◌, ◌-◌, ℕ, List, refl, sym, ◌∙◌, ap, subst, arith, inl, inr}
use Rattle.std.specs.Prelude.{Result, Ok, Err, IsErr}
use Rattle.std.proofs.lemmas.Bool.{false≢true}
use Rattle.disk_model.specs.Disk.{Moment, Passing, Untold, All, Exactly, TellsRead, Goes, IsAfter, Only}
use Rattle.disk_model.specs.Images.{Same}
use Rattle.disk_model.specs.declared.disk.DiskFault.{DiskFault}
use Rattle.disk_model.specs.declared.disk.DiskFault.TheVariants.{Failed}
use Rattle.disk_model.specs.Moments.{TellsMany, LeavesOnly}
use Rattle.disk_model.proofs.Moments.{goes_more}
use Rattle.disk_model.proofs.Tells.{tells_longer}

abbrev Answer : Type 0
Answer = Result (Unit {0}) DiskFault

pub reads_start : (p : Passing) → TellsRead {T = Unit {0}} {E = DiskFault} p p (Ok tt)
reads_start Untold = tt
reads_start All = (refl, refl)
reads_start (Exactly n) = (refl, refl)

-- whatever a read gave
pub reads_ok : {T : Type 0} (x : T) (p q : Passing) → TellsRead {T = T} {E = DiskFault} p q (Ok x) → TellsRead {T = Unit {0}} {E = DiskFault} p q (Ok tt)
reads_ok x Untold q tells = tt
reads_ok x All q tells = tells
reads_ok x (Exactly n) q tells = tells

pub reads_join : {T : Type 0} (p q r : Passing) (result : Result T DiskFault) → TellsRead {T = Unit {0}} {E = DiskFault} p q (Ok tt) → TellsRead q r result → TellsRead p r result
reads_join Untold q r result first then = tt
reads_join All q r result first then = subst (λ (k : Passing). TellsRead k r result) first.1 then
reads_join (Exactly n) q r result first then = subst (λ (k : Passing). TellsRead k r result) first.1 then

-- reads, and then a run of writes and syncs
pub reads_then : (n : ℕ) (p q r : Passing) (result : Answer) → TellsRead {T = Unit {0}} {E = DiskFault} p q (Ok tt) → TellsMany n q r result → TellsMany n p r result
reads_then n Untold q r result first then = tt
reads_then n All q r result first then = subst (λ (k : Passing). TellsMany n k r result) first.1 then
reads_then n (Exactly calls) q r result first then = subst (λ (k : Passing). TellsMany n k r result) first.1 then

-- reads alone, as a run of no writes and syncs
pub reads_alone : (p q : Passing) → TellsRead {T = Unit {0}} {E = DiskFault} p q (Ok tt) → TellsMany {T = Unit {0}} {E = DiskFault} 0 p q (Ok tt)
reads_alone Untold q tells = tt
reads_alone All q tells = tells
reads_alone (Exactly calls) q tells = record {
  enough = λ le. (refl, tells.1 ∙ (let e : calls ≡ calls - 0 = omega arith in ap Exactly e));
  too_few = λ lt. absurd (omega arith);
}

-- after a read as many pass
pub reads_exact : {T : Type 0} (x : T) (p q : Passing) (passed : ℕ) → TellsRead {T = T} {E = DiskFault} p q (Ok x) → p ≡ Exactly passed → q ≡ Exactly passed
reads_exact {T} x p q passed tells is = (subst (λ (k : Passing). TellsRead {T = T} {E = DiskFault} k q (Ok x)) is tells).1

-- a run that failed within a longer one, whatever the fault is called
pub tells_failed : (n m : ℕ) (p q : Passing) (result : Answer) (fault : DiskFault) → IsErr result → n ≤ m → TellsMany {T = Unit {0}} {E = DiskFault} n p q (Err fault) → TellsMany m p q result
tells_failed n m p q (Ok x) fault err le tells = absurd (false≢true err)
tells_failed n m p q (Err Failed) Failed err le tells = tells_longer n m p q Failed le tells

module _ {D : Type 0} (moment : D → Moment) where
  pub goes_same : (old mid new : D) → Goes Same (moment old) (moment mid) → Goes Same (moment mid) (moment new) → Goes Same (moment old) (moment new)
  goes_same old mid new first then = goes_more moment Same Same old mid new (λ a b same. same) (λ a b c one two. two ∙ one) first then

  pub leaves_same : (old new : D) (seen : List ℕ) (P : List ℕ → Type 0) → Only seen (moment old).may_leave → ((c : List ℕ) → (moment old).may_have_left (moment old).now c → (moment old).may_leave c) → Goes Same (moment old) (moment new) → P seen → LeavesOnly (moment old) (moment new) P
  leaves_same old new seen P only now_only goes here = record {
    later = goes.later;
    each = λ c left. ⊎_elim (λ was. from c (now_only c was)) (λ after. again c after) (goes.since (moment old).now c (omega arith) left);
    before = λ t c le left. ⊎_elim (λ was. inl was) (λ after. inr (again c after)) (goes.since t c le left);
  }
    where
      from : (c : List ℕ) → (moment old).may_leave c → P c
      from c is = subst P (sym (only c is)) here

      again : (c : List ℕ) → IsAfter Same (moment old).may_leave c → P c
      again c after = subst P (sym (after.2 ∙ only after.0 after.1)) here

  -- one run after another
  pub leaves_joins : (old mid new : D) (P : List ℕ → Type 0) → LeavesOnly (moment old) (moment mid) P → LeavesOnly (moment mid) (moment new) P → LeavesOnly (moment old) (moment new) P
  leaves_joins old mid new P first then = record {
    later = omega (arith, first.later, then.later);
    each = λ c left. ⊎_elim (first.each c) (λ is. is) (then.before (moment old).now c first.later left);
    before = λ t c le left. ⊎_elim (first.before t c le) (λ is. inr is) (then.before t c (omega (arith, le, first.later)) left);
  }

  pub leaves_both : (old new : D) (P Q : List ℕ → Type 0) → LeavesOnly (moment old) (moment new) P → LeavesOnly (moment old) (moment new) Q → LeavesOnly (moment old) (moment new) (λ c. P c × Q c)
  leaves_both old new P Q one two = record {
    later = one.later;
    each = λ c left. (one.each c left, two.each c left);
    before = λ t c le left. ⊎_elim (λ was. inl was) (λ p. ⊎_elim (λ was. inl was) (λ q. inr (p, q)) (two.before t c le left)) (one.before t c le left);
  }
