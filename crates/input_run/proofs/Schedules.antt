-- A schedule that grows by a line, and one that is cut in two.
use Rattle.std.proofs.Common.{◌≡◌, ℕ, ◌≤◌, ◌+◌, suc, List, [], ◌∷◌, ◌++◌, length, refl, ap, sym, subst, arith, append_assoc, length-append}
use Rattle.std.proofs.lemmas.List.{append-nil}
use Rattle.std.specs.List.{AllByRecursion}
use Rattle.schedule_lines.specs.declared.line.ScheduleLine.{ScheduleLine}
use Rattle.schedule_lines.specs.Schedule.{Reads, ReadsAfter, IsSchedule}
use Rattle.input_run.specs.Runs.{IsWithinLimits}

ReadsAfter-push : (earlier : List ScheduleLine) (bs : List (List ℕ)) (ls : List ScheduleLine) (b : List ℕ) (l : ScheduleLine) →
    ReadsAfter earlier bs ls → Reads (earlier ++ ls) b l → ReadsAfter earlier (bs ++ b ∷ []) (ls ++ l ∷ [])
ReadsAfter-push earlier [] [] b l h r = (subst (λ (ls : List ScheduleLine). Reads ls b l) (append-nil earlier) r, tt)
ReadsAfter-push earlier [] (y ∷ ys) b l h r = absurd h
ReadsAfter-push earlier (x ∷ xs) [] b l h r = absurd h
ReadsAfter-push earlier (x ∷ xs) (y ∷ ys) b l h r =
    (h.0, ReadsAfter-push (earlier ++ y ∷ []) xs ys b l h.1 (subst (λ (ls : List ScheduleLine). Reads ls b l) (sym (append_assoc earlier (y ∷ []) ys)) r))

-- a schedule goes on by a line that may stand after it
pub IsSchedule-push : (bs : List (List ℕ)) (ls : List ScheduleLine) (b : List ℕ) (l : ScheduleLine) → IsSchedule bs ls → Reads ls b l → IsSchedule (bs ++ b ∷ []) (ls ++ l ∷ [])
IsSchedule-push bs ls b l h r = ReadsAfter-push [] bs ls b l h r

ReadsAfter-length : (earlier : List ScheduleLine) (bs : List (List ℕ)) (ls : List ScheduleLine) → ReadsAfter earlier bs ls → length ls ≡ length bs
ReadsAfter-length earlier [] [] h = refl
ReadsAfter-length earlier [] (y ∷ ys) h = absurd h
ReadsAfter-length earlier (x ∷ xs) [] h = absurd h
ReadsAfter-length earlier (x ∷ xs) (y ∷ ys) h = ap suc (ReadsAfter-length (earlier ++ y ∷ []) xs ys h.1)

pub IsSchedule-length : (bs : List (List ℕ)) (ls : List ScheduleLine) → IsSchedule bs ls → length ls ≡ length bs
IsSchedule-length bs ls h = ReadsAfter-length [] bs ls h

-- the lines of some first bytes, and those of the rest
pub record CutAt (earlier : List ScheduleLine) (front rest : List (List ℕ)) (lines : List ScheduleLine) : Type 0 where
  pub first : List ScheduleLine
  pub later : List ScheduleLine
  pub split : lines ≡ first ++ later
  pub reads : ReadsAfter earlier front first
  pub goes_on : ReadsAfter (earlier ++ first) rest later

pub cut_at : (front : List (List ℕ)) (rest : List (List ℕ)) (earlier lines : List ScheduleLine) → ReadsAfter earlier (front ++ rest) lines → CutAt earlier front rest lines
cut_at [] rest earlier lines h = record {
  first = [];
  later = lines;
  split = refl;
  reads = tt;
  goes_on = subst (λ (s : List ScheduleLine). ReadsAfter s rest lines) (sym (append-nil earlier)) h;
}
cut_at (b ∷ bs) rest earlier [] h = absurd h
cut_at (b ∷ bs) rest earlier (l ∷ ls) h =
    let more = cut_at bs rest (earlier ++ l ∷ []) ls h.1 in
    record {
      first = l ∷ more.first;
      later = more.later;
      split = ap (λ (s : List ScheduleLine). l ∷ s) more.split;
      reads = (h.0, more.reads);
      goes_on = subst (λ (s : List ScheduleLine). ReadsAfter s rest more.later) (append_assoc earlier (l ∷ []) more.first) more.goes_on;
    }

-- one line of bytes is read as one line
pub read_one : (earlier : List ScheduleLine) (bytes : List ℕ) (lines : List ScheduleLine) → ReadsAfter earlier (bytes ∷ []) lines → (l : ScheduleLine) × Reads earlier bytes l
read_one earlier bytes [] h = absurd h
read_one earlier bytes (l ∷ ls) h = (l, h.0)

all-push : {X : Type 0} (P : X → Type 0) (xs : List X) (x : X) → AllByRecursion P xs → P x → AllByRecursion P (xs ++ x ∷ [])
all-push P [] x h p = (p, tt)
all-push P (y ∷ ys) x h p = (h.0, all-push P ys x h.1 p)

pub IsWithinLimits-push : (lines : List (List ℕ)) (line : List ℕ) (number : ℕ) → IsWithinLimits lines → length lines + 1 ≡ number → number ≤ 1000000 → length line ≤ 16384 → IsWithinLimits (lines ++ line ∷ [])
IsWithinLimits-push lines line number h e few short = record {
  few = omega (arith, length-append lines (line ∷ []), e, few);
  short = all-push (λ (l : List ℕ). length l ≤ 16384) lines line h.short short;
}
