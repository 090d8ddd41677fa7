-- How many calls pass, over runs of calls.
use Rattle.std.proofs.Common.{◌≡◌, ⊎_elim, ◌<◌, ◌≤◌, ◌+◌, ◌-◌, ℕ, zero, suc, refl, ◌∙◌, ap, subst, arith}
use Rattle.std.specs.Prelude.{Result, Ok, Err, IsOk, IsErr, OnErr}
use Rattle.std.proofs.lemmas.Bool.{cases_lt, false≢true}
use Rattle.disk_model.specs.Disk.{Passing, Untold, All, Exactly, Tells}
use Rattle.disk_model.specs.declared.disk.DiskFault.{DiskFault}
use Rattle.disk_model.specs.Moments.{TellsExactly, TellsMany}

abbrev Answer : Type 0
Answer = Result (Unit {0}) DiskFault

pub tells_none : (p : Passing) → TellsMany {T = Unit {0}} {E = DiskFault} 0 p p (Ok tt)
tells_none Untold = tt
tells_none All = (refl, refl)
tells_none (Exactly calls) = record {
  enough = λ le. (refl, let e : calls ≡ calls - 0 = omega arith in ap Exactly e);
  too_few = λ lt. absurd (omega arith);
}

-- a single call
pub tells_one : (p q : Passing) (result : Answer) → Tells p q result → TellsMany 1 p q result
tells_one Untold q result tells = tt
tells_one All q result tells = tells
tells_one (Exactly zero) q result tells = record { enough = λ le. absurd (omega arith); too_few = λ lt. tells }
tells_one (Exactly (suc calls)) q result tells = record {
  enough = λ le. (tells.0, tells.1 ∙ (let e : calls ≡ suc calls - 1 = omega arith in ap Exactly e));
  too_few = λ lt. absurd (omega arith);
}

-- a run that failed is the front of a longer one
pub tells_longer : (n m : ℕ) (p q : Passing) (e : DiskFault) → n ≤ m → TellsMany {T = Unit {0}} {E = DiskFault} n p q (Err e) → TellsMany {T = Unit {0}} {E = DiskFault} m p q (Err e)
tells_longer n m Untold q e le tells = tt
tells_longer n m All q e le tells = absurd (false≢true tells.0)
tells_longer n m (Exactly calls) q e le tells = record {
  enough = λ all. absurd (false≢true (tells.enough (omega arith)).0);
  too_few = λ few. ⊎_elim (λ (lt : calls < n). tells.too_few lt) (λ (ge : n ≤ calls). absurd (false≢true (tells.enough ge).0)) (cases_lt calls n);
}

-- one run after another that passed
pub tells_join : (n m : ℕ) (p q r : Passing) (result : Answer) → TellsMany {T = Unit {0}} {E = DiskFault} n p q (Ok tt) → TellsMany m q r result → TellsMany (n + m) p r result
tells_join n m Untold q r result first then = tt
tells_join n m All q r result first then = subst (λ (k : Passing). TellsMany m k r result) first.1 then
tells_join n m (Exactly calls) q r result first then = record { enough = enough; too_few = too_few }
  where
    rest : n ≤ calls → TellsExactly {T = Unit {0}} {E = DiskFault} m (calls - n) r result
    rest le = subst (λ (k : Passing). TellsMany m k r result) (first.enough le).1 then

    enough : n + m ≤ calls → IsOk result × (r ≡ Exactly (calls - (n + m)))
    enough le =
        let n_fits : n ≤ calls = omega arith in
        let m_fits : m ≤ calls - n = omega arith in
        let more = (rest n_fits).enough m_fits in
        (more.0, more.1 ∙ (let e : calls - n - m ≡ calls - (n + m) = omega arith in ap Exactly e))

    too_few : calls < n + m → IsErr result × (r ≡ Untold)
    too_few lt = ⊎_elim
        (λ (few : calls < n). absurd (false≢true (first.too_few few).0))
        (λ (fits : n ≤ calls). let short : calls - n < m = omega arith in (rest fits).too_few short)
        (cases_lt calls n)

-- where a run failed, fewer passed than it makes
pub tells_few : (n : ℕ) (p q : Passing) (result : Answer) (passed : ℕ) → TellsMany n p q result → p ≡ Exactly passed → OnErr result (passed < n)
tells_few n p q (Ok x) passed tells is = tt
tells_few n p q (Err e) passed tells is = by (subst (λ (k : Passing). TellsMany {T = Unit {0}} {E = DiskFault} n k q (Err e)) is tells)
  where
    by : TellsExactly {T = Unit {0}} {E = DiskFault} n passed q (Err e) → passed < n
    by told = ⊎_elim (λ (lt : passed < n). lt) (λ (le : n ≤ passed). absurd (false≢true (told.enough le).0)) (cases_lt passed n)

pub on_err : {T E : Type 0} (r : Result T E) (A B C : Type 0) → (A → B → C) → OnErr r A → OnErr r B → OnErr r C
on_err (Ok x) A B C f a b = a
on_err (Err e) A B C f a b = f a b

-- and where it passed, so many fewer pass after it
pub tells_rest : (n : ℕ) (p q : Passing) (passed : ℕ) → TellsMany {T = Unit {0}} {E = DiskFault} n p q (Ok tt) → p ≡ Exactly passed → (n ≤ passed) × (q ≡ Exactly (passed - n))
tells_rest n p q passed tells is = by (subst (λ (k : Passing). TellsMany {T = Unit {0}} {E = DiskFault} n k q (Ok tt)) is tells)
  where
    by : TellsExactly {T = Unit {0}} {E = DiskFault} n passed q (Ok tt) → (n ≤ passed) × (q ≡ Exactly (passed - n))
    by told = ⊎_elim (λ (lt : passed < n). absurd (false≢true (told.too_few lt).0)) (λ (le : n ≤ passed). (le, (told.enough le).1)) (cases_lt passed n)

pub answers_err : {T E : Type 0} (r : Result T E) (A : Type 0) → A → OnErr r A
answers_err (Ok x) A a = tt
answers_err (Err e) A a = a
