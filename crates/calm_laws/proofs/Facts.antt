-- The one-tree invariant in each world of a round: what each site has and each packet carries is so by the trace.
use Rattle.std.proofs.Common.{◌≡◌, ℕ, zero, suc, ◌+◌, ◌-◌, ◌≤◌, true, List, [], ◌∷◌, ◌++◌, length, take, refl, sym, ◌∙◌, ap, subst, inl, inr, slice_index_or, arith}
use Rattle.std.proofs.lemmas.Bool.Decides.{nat_tests}
use Rattle.locus_ids.specs.declared.config.Config.{Config}
use Rattle.schedule_lines.specs.Ranges.{fits_event}
use Rattle.schedule_lines.specs.declared.line.Line.{Line as LineWords}
use Rattle.schedule_lines.specs.declared.line.Line.TheVariants as line
use Rattle.schedule_lines.specs.declared.line.ScheduleLine.{ScheduleLine}
use Rattle.schedule_lines.specs.declared.line.ScheduleLine.TheVariants.{Passed, Event as EventLine}
use Rattle.trace_book.specs.declared.record.Record.TheVariants as says
use Rattle.role_steps.specs.Views.{Shown, Ticks, all_sites}
use Rattle.lawful_trace.specs.Places.{line_at, lines_before}
use Rattle.the_run.specs.Runs.{delivers, ticks_to, run_in}
use Rattle.the_run.specs.Worlds.{World, Line}
use Rattle.row_laws.specs.Voids.{LinesFit}
use Rattle.row_laws.specs.Orderly.Calm.{delivered}
use Rattle.row_laws.proofs.Orderly.Rounds.{RoundKept, ticks_kept}
use Rattle.store_laws.specs.OneTree.Places.{WorldFact}
use Rattle.store_laws.specs.OneTree.Rest.{EachRest, IsRest}
use Rattle.store_laws.specs.OneTree.Roles.{RolesDo}
use Rattle.store_laws.proofs.OneTree.Run.{does, pass_holds, receives_holds, run_holds}
use Rattle.store_laws.proofs.OneTree.Staying.{stays}
use Rattle.store_laws.proofs.OneTree.Worlds.{Holds, says_holds}
use Rattle.rest_laws.proofs.Resting.{run_low, run_rests}
use Rattle.rest_laws.proofs.Roles.{roles_do}
use Rattle.calm_laws.specs.Rounds.{IsInRound}
use Rattle.calm_laws.proofs.Limits.{line_there, take_length, take_fit}
use Rattle.calm_laws.proofs.Moments.{GoesOn, goes_itself, goes_round_kept}
use Rattle.calm_laws.proofs.Rounds.{delivered_kept, delivered_then}
use Rattle.calm_laws.proofs.Twins.{EndsAs, delivers_as, with_round, round_run}

-- ---- what a round keeps ----

pub holds_round : (c : Config) (n : ℕ) → RolesDo c → RoundKept c n (Holds c)
holds_round c n roles = record {
  ticks = λ s v w here g. does c roles (stays c) n s Ticks v w here (λ r. tt) (λ r. tt) g;
  receives = λ x v w here a undropped g. receives_holds c roles (stays c) n x v w here (inr a) g;
  drops = λ x w a dropped g. pass_holds c x.number w g;
  budgets = λ w g. says_holds c roles (stays c) n (Shown says.Budget ∷ []) w (tt, tt) g;
}

-- ---- a schedule with a round ----

round_low : (sites most : ℕ) → fits_event sites (line.Settle most) ≡ true → most ≤ 1000000
round_low sites most h = grind (arith, nat_tests)

round_fits : (sites j : ℕ) → 1 ≤ j → j ≤ 1000000 → fits_event sites (line.Settle j) ≡ true
round_fits sites j low high = grind (arith, nat_tests)

passed_event : (l : LineWords) → Passed ≡ EventLine l → ⊥
passed_event l e = cc

-- the lines, and one more that is in range
more_fit : (sites : ℕ) (xs : List ScheduleLine) (x l : LineWords) (k : ℕ) → ((i : ℕ) (y : LineWords) → slice_index_or xs i Passed ≡ EventLine y → fits_event sites y ≡ true) → fits_event sites x ≡ true → slice_index_or (xs ++ EventLine x ∷ []) k Passed ≡ EventLine l → fits_event sites l ≡ true
more_fit sites [] x l zero h g e = subst (λ (y : LineWords). fits_event sites y ≡ true) (same e) g
  where
    same : EventLine x ≡ EventLine l → x ≡ l
    same q = cc
more_fit sites [] x l (suc k) h g e = absurd (passed_event l e)
more_fit sites (y ∷ ys) x l zero h g e = h 0 l e
more_fit sites (y ∷ ys) x l (suc k) h g e = more_fit sites ys x l k (λ i z q. h (suc i) z q) g e

with_round_fit : (c : Config) (lines : List ScheduleLine) (j : ℕ) → LinesFit c lines → fits_event c.sites (line.Settle j) ≡ true → LinesFit c (with_round lines j)
with_round_fit c lines j h g zero l e = absurd (passed_event l e)
with_round_fit c lines j h g (suc k) l e = more_fit c.sites lines (line.Settle j) l k (λ i y q. h (suc i) y q) g e

rest_earlier : (c : Config) (new old : List Line) → EachRest c (new ++ old) → EachRest c old
rest_earlier c [] old h = h
rest_earlier c (x ∷ xs) old h = rest_earlier c xs old h.1

-- ---- the invariant ----

size_of : (lines : List ScheduleLine) (n most : ℕ) → line_at lines n ≡ EventLine (line.Settle most) → 1 + length (lines_before lines n) ≡ n
size_of lines zero most e = absurd (passed_event (line.Settle most) e)
size_of lines (suc k) most e =
    let there : suc k ≤ length lines = line_there lines k (line.Settle most) e in
    let l : length (take (suc k - 1) lines) ≡ suc k - 1 = take_length (suc k - 1) lines (omega (arith, there)) in omega (arith, l)

pub record RoundFacts (c : Config) (w : World) : Type 0 where
  pub rest : IsRest c w.trace
  pub fact : WorldFact c w

pub round_facts : (c : Config) (lines : List ScheduleLine) (n : ℕ) (w : World) → IsInRound c lines n w → RoundFacts c w
round_facts c lines n w h = record { rest = rest; fact = facts rest }
  where
    first_lines : List ScheduleLine
    first_lines = lines_before lines n

    first : World
    first = run_in c first_lines

    start : World
    start = ticks_to c n all_sites first

    roles : RolesDo c
    roles = roles_do c h.groups

    fit : LinesFit c first_lines
    fit = take_fit c lines (n - 1) h.fit

    -- one delivery more, so that there is one
    later : World
    later = delivered c n 1 w

    top : h.most ≤ 1000000
    top = round_low c.sites h.most (h.fit n (line.Settle h.most) h.settles)

    most_some : (m : ℕ) → fits_event c.sites (line.Settle m) ≡ true → 1 ≤ m
    most_some m q = grind (arith, nat_tests)

    run_rest : (j : ℕ) → 1 ≤ j → j ≤ h.most → IsRest c (run_in c (with_round first_lines j)).trace
    run_rest j low high = (let f : LinesFit c (with_round first_lines j) = with_round_fit c first_lines j fit (round_fits c.sites j low (omega (arith, high, top))) in run_rests c (with_round first_lines j) f h.packs (run_low c (with_round first_lines j)))

    -- the schedule's world goes on from this one
    goes : (j : ℕ) → j ≤ h.most → (i : ℕ) → h.deliveries + i ≡ j → GoesOn w (run_in c (with_round first_lines j))
    goes j high i e =
        subst (λ (u : World). GoesOn w u) (sym (round_run c first_lines n j (size_of lines n h.most h.settles)))
        (by_end (delivers c n j start) (delivers_as c n j start) (subst (λ (u : World). GoesOn w u) there (delivered_kept c n (GoesOn w) (goes_round_kept c n w) i w (goes_itself w))))
      where
        there : delivered c n i w ≡ delivered c n j start
        there = ap (delivered c n i) h.is_world ∙ (sym (delivered_then c n h.deliveries i start) ∙ ap (λ (k : ℕ). delivered c n k start) e)

        by_end : (u : World) → EndsAs n u (delivered c n j start) → GoesOn w (delivered c n j start) → GoesOn w u
        by_end u (inl q) g = subst (λ (z : World). GoesOn w z) (sym q) g
        by_end u (inr q) g = subst (λ (z : World). GoesOn w z) (sym q) ((goes_round_kept c n w).budgets (delivered c n j start) g)

    earlier : (j : ℕ) → IsRest c (run_in c (with_round first_lines j)).trace → GoesOn w (run_in c (with_round first_lines j)) → IsRest c w.trace
    earlier j r g = record { each = rest_earlier c g.lines w.trace (subst (λ (t : List Line). EachRest c t) g.trace r.each); packs = r.packs }

    rest : IsRest c w.trace
    rest = by_count h.deliveries refl
      where
        by_count : (d : ℕ) → h.deliveries ≡ d → IsRest c w.trace
        by_count zero e = (let low : 1 ≤ h.most = most_some h.most (h.fit n (line.Settle h.most) h.settles) in earlier 1 (run_rest 1 (omega arith) low) (goes 1 low 1 (ap (λ (k : ℕ). k + 1) e)))
        by_count (suc d) e = (let high : h.deliveries ≤ h.most = h.few in earlier (suc d) (run_rest (suc d) (omega arith) (omega (arith, e, high))) (goes (suc d) (omega (arith, e, high)) 0 (omega (arith, e))))

    facts : Holds c w
    facts = subst (λ (u : World). Holds c u) (sym h.is_world) (delivered_kept c n (Holds c) (holds_round c n roles) h.deliveries start (ticks_kept c n (Holds c) (holds_round c n roles) all_sites first (λ r. run_holds c first_lines fit roles (stays c) r)))
