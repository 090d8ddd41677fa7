-- A round that ends by its budget has delivered so many packets, and one more can come.
use Rattle.std.proofs.Common.{◌≡◌, ℕ, zero, suc, ◌+◌, ◌-◌, ◌≤◌, ◌<◌, nat_le, ◌⊎◌, Bool, true, false, List, [], ◌∷◌, ◌++◌, length, take, Option, Some, None, refl, sym, ◌∙◌, ap, subst, inl, inr, arith}
use Rattle.std.proofs.lemmas.Bool.Decides.{nat_tests}
use Rattle.std.specs.List.{list_any}
use Rattle.role_steps.proofs.of_plain_facts.Tests.{true_false}
use Rattle.locus_ids.specs.declared.config.Config.{Config}
use Rattle.schedule_lines.specs.declared.line.Line.{Line as LineWords}
use Rattle.schedule_lines.specs.declared.line.Line.TheVariants as line
use Rattle.schedule_lines.specs.declared.line.ScheduleLine.{ScheduleLine}
use Rattle.schedule_lines.specs.declared.line.ScheduleLine.TheVariants.{Passed, Event as EventLine}
use Rattle.trace_book.specs.declared.record.Record.TheVariants as says
use Rattle.role_steps.specs.Views.{Shown, Receives, Ticks, all_sites}
use Rattle.the_run.specs.Kept.{Among}
use Rattle.the_run.specs.Steps.{is_dropped, step}
use Rattle.the_run.specs.Worlds.{World, Line, Place, Running, Stopped, Numbered, place_at, links_of, passed, happens, happens_at}
use Rattle.the_run.specs.Runs.{arrives_at, arrives, next_packet, goes_round, budget_ends, ends_round, delivers, ticks_to, acts_line, run_in}
use Rattle.the_run.proofs.Events.{happened_keeps}
use Rattle.the_run.proofs.Runs.{every_run}
use Rattle.lawful_trace.specs.Calm.{is_budget, tells_budget}
use Rattle.lawful_trace.specs.Places.{line_at}
use Rattle.row_laws.specs.Shown.{shown, trace_of}
use Rattle.row_laws.specs.Orderly.Calm.{delivers_next, delivered}
use Rattle.row_laws.proofs.Orderly.Counts.{Counted, acts_counts, taken_counts, counted_kept, first_counts}
use Rattle.row_laws.proofs.Orderly.Rounds.{next_among}
use Rattle.calm_laws.proofs.Limits.{line_there, take_length}
use Rattle.calm_laws.proofs.Moments.{GoesOn, goes_itself, goes_round_kept}
use Rattle.calm_laws.proofs.Rounds.{delivered_kept, delivered_then}
use Rattle.calm_laws.proofs.Twins.{EndsAs, delivers_as, nothing_more, with_round, round_run}
use Rattle.calm_laws.proofs.of_row_laws.OrderlyRows.Spans.{world, next_world, before_at}
use Rattle.headline_laws.proofs.WholeRuns.Rounds.{large_rounds}
use Rattle.headline_laws.proofs.Promises.LineTells.{none_earlier, none_later}
use Rattle.headline_laws.specs.Promises.Budgets.{BudgetsWerePassed}

-- ---- what a round has sent ----

arrives_counts : (c : Config) (n more : ℕ) (x : Numbered) (w : World) → Among x w.underway → Counted more w → Counted (more + 1) (arrives c n x w)
arrives_counts c n more x w a g = by_place (place_at w x.packet.to)
  where
    t : Counted (more + 1) (passed x.number w)
    t = taken_counts more x w a g

    happening : (o : Option Place) → Counted (more + 1) (happens_at c n x.packet.to (Receives x.packet) o (passed x.number w))
    happening None = t
    happening (Some (Stopped d)) = t
    happening (Some (Running v)) = acts_counts (more + 1) n x.packet.to v (step c x.packet.to (links_of (passed x.number w) x.packet.to) v (Receives x.packet)) (passed x.number w) t

    by_place : (o : Option Place) → Counted (more + 1) (arrives_at c n x.packet o (passed x.number w))
    by_place None = t
    by_place (Some (Stopped d)) = t
    by_place (Some (Running v)) = elim (is_dropped x.packet v) as (λ b. Counted (more + 1) (elim b [ true ↦ passed x.number w | false ↦ happens c n x.packet.to (Receives x.packet) (passed x.number w) ])) [
      | true ↦ t
      | false ↦ happening (place_at (passed x.number w) x.packet.to)
    ]

ticks_counts : (c : Config) (n : ℕ) (ss : List ℕ) (w : World) → Counted 0 w → Counted 0 (ticks_to c n ss w)
ticks_counts c n [] w g = g
ticks_counts c n (s ∷ ss) w g = ticks_counts c n ss (happens c n s Ticks w) (one_tick (place_at w s))
  where
    one_tick : (o : Option Place) → Counted 0 (happens_at c n s Ticks o w)
    one_tick None = g
    one_tick (Some (Stopped d)) = g
    one_tick (Some (Running v)) = acts_counts 0 n s v (step c s (links_of w s) v Ticks) w g

there_length : (x : Numbered) (xs : List Numbered) → Among x xs → 1 ≤ length xs
there_length x [] a = absurd a
there_length x (y ∷ ys) a = omega arith

-- the record of it sends nothing
budget_sends : (n k : ℕ) (w : World) → k < w.packets → k < (budget_ends n w).packets
budget_sends n k w le = happened_keeps (λ u. k < u.packets) n [] (Shown says.Budget ∷ []) (λ now. now) w le (λ l. le) (λ a b t. omega (arith, le))

-- a round delivers all that can come, or more was sent than its budget
goes_out : (c : Config) (n budget more : ℕ) (w : World) → Counted more w → (delivers c n budget w ≡ delivered c n budget w) ⊎ (more + budget < (delivers c n budget w).packets)
goes_out c n zero more w g = by_next (next_packet w) refl
  where
    by_next : (o : Option Numbered) → next_packet w ≡ o → (ends_round n w o ≡ w) ⊎ (more + 0 < (ends_round n w o).packets)
    by_next None e = inl refl
    by_next (Some x) e = inr (budget_sends n (more + 0) w (let a : 1 ≤ length w.underway = there_length x w.underway (next_among w w.over x e) in let b : more + length w.underway ≤ w.packets = g.under in omega (arith, a, b)))
goes_out c n (suc budget) more w g = by_next (goes_out c n budget (more + 1)) (next_packet w) refl
  where
    longer : (u : World) → more + 1 + budget < u.packets → more + suc budget < u.packets
    longer u h = omega (arith, h)

    by_next : ((u : World) → Counted (more + 1) u → (delivers c n budget u ≡ delivered c n budget u) ⊎ (more + 1 + budget < (delivers c n budget u).packets)) → (o : Option Numbered) → next_packet w ≡ o →
        (goes_round c n (delivers c n budget) w o ≡ delivered c n budget (delivers_next c n w o)) ⊎ (more + suc budget < (goes_round c n (delivers c n budget) w o).packets)
    by_next f None e = inl (sym (nothing_more c n budget w e))
    by_next f (Some x) e = over (f (arrives c n x w) (arrives_counts c n more x w (next_among w w.over x e) g))
      where
        over : (delivers c n budget (arrives c n x w) ≡ delivered c n budget (arrives c n x w)) ⊎ (more + 1 + budget < (delivers c n budget (arrives c n x w)).packets) →
            (delivers c n budget (arrives c n x w) ≡ delivered c n budget (arrives c n x w)) ⊎ (more + suc budget < (delivers c n budget (arrives c n x w)).packets)
        over (inl k) = inl k
        over (inr k) = inr (longer (delivers c n budget (arrives c n x w)) k)

-- ---- what it tells ----

earlier_world : (n : ℕ) (w u : World) → GoesOn w u → list_any (tells_budget n) (trace_of u) ≡ false → list_any (tells_budget n) (trace_of w) ≡ false
earlier_world n w u g h = none_earlier is_budget n g.lines w.trace (ap (λ (t : List Line). list_any (tells_budget n) (shown t)) (sym g.trace) ∙ h)

last_line : (first : List ScheduleLine) (l : ScheduleLine) → line_at (first ++ l ∷ []) (1 + length first) ≡ l
last_line [] l = refl
last_line (x ∷ xs) l = ap (line_at (x ∷ xs ++ l ∷ [])) {x = 1 + length (x ∷ xs)} {y = suc (suc (length xs))} (omega arith) ∙ (ap (λ (k : ℕ). line_at (xs ++ l ∷ []) k) {x = suc (length xs)} {y = 1 + length xs} (omega arith) ∙ last_line xs l)

-- so many deliveries, of a round of at most the greatest budget, tell nothing of it
deliveries_tell : (c : Config) (first : List ScheduleLine) (n most : ℕ) → 1 + length first ≡ n → most ≤ 262144 → list_any (tells_budget n) (trace_of (delivered c n most (ticks_to c n all_sites (run_in c first)))) ≡ false
deliveries_tell c first n most size le = earlier_world n at large (subst (GoesOn at) (sym is_large) (ended)) (large_rounds c (with_round first 262144) n 262144 (ap (line_at (with_round first 262144)) (sym size) ∙ last_line first (EventLine (line.Settle 262144))) (omega arith))
  where
    start : World
    start = ticks_to c n all_sites (run_in c first)

    at : World
    at = delivered c n most start

    large : World
    large = run_in c (with_round first 262144)

    is_large : large ≡ delivers c n 262144 start
    is_large = round_run c first n 262144 size

    until : GoesOn at (delivered c n 262144 start)
    until = subst (GoesOn at) (sym (ap (λ (i : ℕ). delivered c n i start) {x = 262144} {y = most + (262144 - most)} (omega (arith, le)) ∙ delivered_then c n most (262144 - most) start))
        (delivered_kept c n (GoesOn at) (goes_round_kept c n at) (262144 - most) at (goes_itself at))

    ended : GoesOn at (delivers c n 262144 start)
    ended = by_end (delivers c n 262144 start) (delivers_as c n 262144 start)
      where
        by_end : (u : World) → EndsAs n u (delivered c n 262144 start) → GoesOn at u
        by_end u (inl q) = subst (GoesOn at) (sym q) until
        by_end u (inr q) = subst (GoesOn at) (sym q) ((goes_round_kept c n at).budgets (delivered c n 262144 start) until)

-- ---- the law ----

passed_event : (l : LineWords) → Passed ≡ EventLine l → ⊥
passed_event l e = cc

pub budgets_passed : (c : Config) (lines : List ScheduleLine) → BudgetsWerePassed c lines
budgets_passed c lines zero most is told = absurd (passed_event (line.Settle most) is)
budgets_passed c lines (suc k) most is told = subst (λ (w : World). most < w.packets) (sym last_is) (by_end (goes_out c (suc k) most 0 start (ticks_counts c (suc k) all_sites (world c lines k) (every_run c (Counted 0) (counted_kept c) (first_counts c) (take k lines)))))
  where
    start : World
    start = ticks_to c (suc k) all_sites (world c lines k)

    last : World
    last = delivers c (suc k) most start

    last_is : run_in c (take (suc k) lines) ≡ last
    last_is = next_world c lines k ∙ ap (λ (x : ScheduleLine). acts_line c (suc k) x (world c lines k)) is

    size : 1 + length (take k lines) ≡ suc k
    size = let there : suc k ≤ length lines = line_there lines k (line.Settle most) is in let l : length (take k lines) ≡ k = take_length k lines (omega (arith, there)) in omega (arith, l)

    none_told : list_any (tells_budget (suc k)) (trace_of last) ≡ false → ⊥
    none_told h = true_false (sym told ∙ none_later is_budget (suc k) (trace_of (run_in c lines)) (ap (list_any (tells_budget (suc k))) (before_at c lines (suc k) ∙ ap trace_of last_is) ∙ h))

    small : most ≤ 262144 → last ≡ delivered c (suc k) most start → ⊥
    small le e = none_told (ap (λ (w : World). list_any (tells_budget (suc k)) (trace_of w)) e ∙ deliveries_tell c (take k lines) (suc k) most size le)

    large : 262144 ≤ most → ⊥
    large le = true_false (sym told ∙ large_rounds c lines (suc k) most is le)

    by_size : (b : Bool) → nat_le most 262144 ≡ b → last ≡ delivered c (suc k) most start → ⊥
    by_size true q e = small (low q) e
      where
        low : nat_le most 262144 ≡ true → most ≤ 262144
        low q = grind (arith, nat_tests)
    by_size false q e = large (high q)
      where
        high : nat_le most 262144 ≡ false → 262144 ≤ most
        high q = grind (arith, nat_tests)

    by_end : (last ≡ delivered c (suc k) most start) ⊎ (0 + most < last.packets) → most < last.packets
    by_end (inl e) = absurd (by_size (nat_le most 262144) refl e)
    by_end (inr h) = omega (arith, h)
