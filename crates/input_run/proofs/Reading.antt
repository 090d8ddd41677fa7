-- An accepted input has no bad line, no long one and none too many, and the run of its first lines passes no limit that the whole
-- one doesn't pass.
use Rattle.std.proofs.Common.{◌≡◌, ℕ, ◌<◌, ◌≤◌, List, [], ◌∷◌, ◌++◌, Option, None, Some, length, refl, ap, sym, ◌∙◌, subst, arith, append_assoc, length-append, ⊎_elim}
use Rattle.std.proofs.lemmas.List.{append-nil}
use Rattle.std.specs.List.{AllByRecursion}
use Rattle.schedule_lines.specs.declared.line.ScheduleLine.{ScheduleLine}
use Rattle.the_run.specs.Worlds.{Limit}
use Rattle.the_run.specs.Runs.{run}
use Rattle.input_run.specs.Inputs.{Input, StandsFor, MayEndAfter, opening_of}
use Rattle.input_run.specs.Runs.{IsWithinLimits, IsAccepted, IsBadAfter, StopsAtBad, StopsAtLimit, PassesInOpening, PassesAtLine}
use Rattle.input_run.proofs.Inputs.{stands_first, stands_once, stands_in_front, over_stays}

-- a line and what comes after it
one_line_on : (earlier : List (List ℕ)) (bytes : List ℕ) (rest : List (List ℕ)) → earlier ++ bytes ∷ rest ≡ (earlier ++ bytes ∷ []) ++ rest
one_line_on earlier bytes rest = sym (append_assoc earlier (bytes ∷ []) rest)

-- no line of an accepted input is bad
no_bad_after : (input : Input) (earlier later : List (List ℕ)) (lines found : List ScheduleLine) →
    StandsFor input (earlier ++ later) lines → MayEndAfter input lines → StandsFor input earlier found → IsBadAfter input earlier found later → ⊥
no_bad_after input earlier [] lines found whole ends stands bad =
    let same : lines ≡ found = stands_once input earlier lines found (subst (λ (bs : List (List ℕ)). StandsFor input bs lines) (append-nil earlier) whole) stands in
    bad (subst (MayEndAfter input) same ends)
no_bad_after input earlier (b ∷ rest) lines found whole ends stands bad =
    let front = stands_in_front input (earlier ++ b ∷ []) rest lines (subst (λ (bs : List (List ℕ)). StandsFor input bs lines) (one_line_on earlier b rest) whole) in
    bad front.0 front.1

pub no_bad : (input : Input) (all : List (List ℕ)) (lines : List ScheduleLine) (n : ℕ) (t u : Option (List ℕ)) → IsAccepted input all lines → StopsAtBad input all n t u → ⊥
no_bad input all lines n t u ok stop =
    no_bad_after input stop.earlier stop.later lines stop.lines (subst (λ (bs : List (List ℕ)). StandsFor input bs lines) stop.split ok.stands) ok.ends stop.stands stop.bad

all_at : {X : Type 0} (P : X → Type 0) (xs : List X) (x : X) (ys : List X) → AllByRecursion P (xs ++ x ∷ ys) → P x
all_at P [] x ys h = h.0
all_at P (z ∷ zs) x ys h = all_at P zs x ys h.1

-- no line of an accepted input is too long
pub no_long : (all earlier : List (List ℕ)) (line : List ℕ) (later : List (List ℕ)) → IsWithinLimits all → all ≡ earlier ++ line ∷ later → 16384 < length line → ⊥
no_long all earlier line later within split long =
    let within' = subst IsWithinLimits split within in
    omega (arith, long, all_at (λ (l : List ℕ). length l ≤ 16384) earlier line later within'.short)

-- and there are not too many
pub no_more : (all earlier later : List (List ℕ)) → IsWithinLimits all → all ≡ earlier ++ later → length earlier ≡ 1000000 → 0 < length later → ⊥
no_more all earlier later within split full more = omega (arith, within.few, ap length split, length-append earlier later, full, more)

over_both : (o : Option Limit) (limit : Limit) → o ≡ None → o ≡ Some limit → ⊥
over_both o limit e f = cc

-- a run that passes no limit passes none in its first lines
no_limit_in_front : (input : Input) (all front rest : List (List ℕ)) (lines some : List ScheduleLine) (limit : Limit) →
    StandsFor input all lines → (run lines).over ≡ None → all ≡ front ++ rest → StandsFor input front some → (run some).over ≡ Some limit → ⊥
no_limit_in_front input all front rest lines some limit whole free split stands passes =
    over_both (run lines).over limit free (over_stays input front rest lines some limit (subst (λ (bs : List (List ℕ)). StandsFor input bs lines) split whole) stands passes)

pub no_limit : (input : Input) (all : List (List ℕ)) (lines : List ScheduleLine) (limit : Limit) (t u : Option (List ℕ)) → StandsFor input all lines → (run lines).over ≡ None → StopsAtLimit input all limit t u → ⊥
no_limit input all lines limit t u whole free stop = ⊎_elim
    (λ (opens : PassesInOpening input limit t u). no_limit_in_front input all [] all lines (opening_of input) limit whole free refl (stands_first input) opens.passes)
    (λ (at : PassesAtLine input all limit t u). no_limit_in_front input all (at.earlier ++ at.bytes ∷ []) at.later lines at.longer limit whole free (at.split ∙ one_line_on at.earlier at.bytes at.later) at.next at.passes)
    stop
