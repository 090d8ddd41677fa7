-- A written vector counts at most as many commits as were told, and so does each number of a version.
use Rattle.std.proofs.Common.{zero, suc, ◌≡◌, ◌≤◌, ℕ, ◌+◌, ◌-◌, List, [], ◌∷◌, inl, inr, ap, arith}
use Rattle.locus_ids.specs.declared.ids.FileId.{FileId}
use Rattle.locus_ids.specs.declared.ids.Stamp.{Stamp}
use Rattle.version_vector.specs.Counters.{part, raised}
use Rattle.trace_book.specs.declared.record.Record.{Record}
use Rattle.trace_book.specs.declared.record.Record.TheVariants as says
use Rattle.role_steps.specs.Views.{Told, Shown}
use Rattle.site_laws.specs.Vectors.Written.{JoinsAll, IsCommitOf, IsWrittenBy, WrittenAs, NumberedTold, CommitsAreNumbered}
use Rattle.site_laws.specs.Packs.CounterNumbers.{commits_recorded, commits_told, commits_in, IsLowTold, NumbersAreLow}

-- ---- vectors ----

raised_most : (v : List ℕ) (i j : ℕ) → part (raised v i) j ≤ part v j + 1
raised_most [] zero zero = omega arith
raised_most [] zero (suc j) = omega arith
raised_most [] (suc i) zero = omega arith
raised_most [] (suc i) (suc j) = raised_most [] i j
raised_most (x ∷ v) zero zero = omega arith
raised_most (x ∷ v) zero (suc j) = omega arith
raised_most (x ∷ v) (suc i) zero = omega arith
raised_most (x ∷ v) (suc i) (suc j) = raised_most v i j

-- a join counts no more than each of what is joined
joins_most : (W : Stamp → List ℕ → Type 0) (n : ℕ) → ((p : Stamp) (v : List ℕ) → W p v → (t : ℕ) → part v t ≤ n) → (ps : List Stamp) (base : List ℕ) → JoinsAll W ps base → (t : ℕ) → part base t ≤ n
joins_most W n most [] base none t = let zero_here : part base t ≡ 0 = none t in omega (arith, zero_here)
joins_most W n most (p ∷ ps) base (a, b, wa, wb, is) t =
    let first : part a t ≤ n = most p a wa t in
    let rest : part b t ≤ n = joins_most W n most ps b wb t in
    omega (arith, is t, first, rest)

written_most : (past : List Told) (file : FileId) (stamp : Stamp) (v : List ℕ) → WrittenAs past file stamp v → (t : ℕ) → part v t ≤ commits_in past
written_most [] file stamp v format t = let zero_here : part v t ≡ 0 = format.none t in omega (arith, zero_here)
written_most (x ∷ older) file stamp v (inl before) t =
    let k : part v t ≤ commits_in older = written_most older file stamp v before t in omega (arith, k)
written_most (x ∷ older) file stamp v (inr here) t = by_told (λ g p u w i. written_most older g p u w i) x here
  where
    Most : Type 0
    Most = (g : FileId) (p : Stamp) (u : List ℕ) → WrittenAs older g p u → (i : ℕ) → part u i ≤ commits_in older

    by_record : Most → (r : Record) → IsCommitOf (WrittenAs older) r file stamp v → part v t ≤ commits_recorded r + commits_in older
    by_record most_before (says.Commit g s made parents content) (same_file, same_stamp, raises) =
        let base_most : part raises.base t ≤ commits_in older = joins_most (WrittenAs older g) (commits_in older) (most_before g) parents raises.base raises.joins t in
        let most : part (raised raises.base (s - 1)) t ≤ part raises.base t + 1 = raised_most raises.base (s - 1) t in
        let is : part v t ≡ part (raised raises.base (s - 1)) t = ap (λ (u : List ℕ). part u t) raises.raised_is in
        omega (arith, base_most, most, is)
    by_record most_before _ h = absurd h

    by_told : Most → (y : Told) → IsWrittenBy (WrittenAs older) y file stamp v → part v t ≤ commits_told y + commits_in older
    by_told most_before (Shown r) h = by_record most_before r h
    by_told most_before _ h = absurd h

-- ---- numbers ----

numbered_most : (x : Told) (older : List Told) (n : ℕ) → commits_told x + commits_in older ≤ n → n ≤ 134217728 → NumberedTold older x → IsLowTold x
numbered_most x older n few room numbered = by_told x few numbered
  where
    by_record : (r : Record) → commits_recorded r + commits_in older ≤ n → NumberedTold older (Shown r) → IsLowTold (Shown r)
    by_record (says.Commit file s stamp parents content) few k =
        let base_most : part k.base (s - 1) ≤ commits_in older = joins_most (WrittenAs older file) (commits_in older) (λ p u w i. written_most older file p u w i) parents k.base k.joins (s - 1) in
        let most : part (raised k.base (s - 1)) (s - 1) ≤ part k.base (s - 1) + 1 = raised_most k.base (s - 1) (s - 1) in
        omega (arith, base_most, most, k.number, few, room)
    by_record _ few k = tt

    by_told : (y : Told) → commits_told y + commits_in older ≤ n → NumberedTold older y → IsLowTold y
    by_told (Shown r) few k = by_record r few k
    by_told _ few k = tt

pub all_low : (past : List Told) → CommitsAreNumbered past → commits_in past ≤ 134217728 → NumbersAreLow past
all_low [] numbered few = tt
all_low (x ∷ older) numbered few = (numbered_most x older (commits_in (x ∷ older)) (omega arith) few numbered.0, all_low older numbered.1 (omega (arith, few)))
