-- In an orderly schedule a site leaves only by its own line, or in the round that ends a block in which it is polled.
use Rattle.std.proofs.Common.{◌≡◌, ◌≢◌, ℕ, zero, suc, ◌+◌, ◌-◌, ◌≤◌, ◌<◌, ◌==◌, nat_lt, Bool, true, false, cond, not, ◌||◌, List, [], ◌∷◌, length, take, Option, Some, None, refl, sym, ◌∙◌, ap, subst, ◌⊎◌, inl, inr, slice_index_or, arith}
use Rattle.std.proofs.lemmas.Bool.Decides.{nat_tests}
use Rattle.role_steps.proofs.of_plain_facts.Numbers.{not_zero_test}
use Rattle.locus_ids.specs.declared.ids.EpochId.{EpochId}
use Rattle.locus_ids.specs.declared.sites.Links.{Links}
use Rattle.locus_ids.specs.declared.config.Config.{Config}
use Rattle.trace_book.specs.declared.entry.Entry.{Entry}
use Rattle.trace_book.specs.declared.record.Record.TheVariants as says
use Rattle.schedule_lines.specs.Cluster.{config_of}
use Rattle.schedule_lines.specs.Schedule.{AreInOrder}
use Rattle.schedule_lines.specs.declared.line.Line.TheVariants as line
use Rattle.schedule_lines.specs.declared.line.ScheduleLine.{ScheduleLine}
use Rattle.schedule_lines.specs.declared.line.ScheduleLine.TheVariants.{Passed, Event as EventLine}
use Rattle.role_steps.specs.Own.{Every}
use Rattle.role_steps.specs.Views.{Told, Shown, boot_in}
use Rattle.tree_model.specs.Folds.{Trace, before_line}
use Rattle.lawful_trace.specs.Places.{line_at, initiator}
use Rattle.lawful_trace.specs.SiteRows.{makes_leave}
use Rattle.lawful_trace.specs.Orderly.{IsPolledBefore, LeavesAreOwn}
use Rattle.the_run.specs.Kept.{Among}
use Rattle.the_run.specs.Worlds.{World, Line}
use Rattle.the_run.specs.Runs.{acts_line, run}
use Rattle.row_laws.specs.Course.{Ascends}
use Rattle.row_laws.specs.Shown.{shown, with_told, trace_of}
use Rattle.row_laws.proofs.AskedRun.{run_courses}
use Rattle.row_laws.proofs.Fitting.{schedule_few}
use Rattle.row_laws.proofs.Tracing.{ascends_later}
use Rattle.run_laws.specs.Epochs.Known.{Good}
use Rattle.run_laws.proofs.Epochs.Run as known
use Rattle.row_laws.specs.Orderly.Blocks.{StartsBy, starts_of}
use Rattle.row_laws.specs.Orderly.Quiet.{IsQuiet}
use Rattle.row_laws.specs.Orderly.Rounds.{Unbroken}
use Rattle.row_laws.specs.OrderlyRows.Agreeing.{IsWithin}
use Rattle.row_laws.specs.OrderlyRows.Fits.{EachFits, IsCluster}
use Rattle.row_laws.specs.OrderlyRows.Leaving.{LeaveRecord, LeaveTold, LeaveLine, Leavers, IsAsked}
use Rattle.row_laws.proofs.OrderlyRows.Blocked.{Begins}
use Rattle.row_laws.proofs.OrderlyRows.Closing.{Closes, all_apart, stretch, run_ascends, round_ends, unbroken_at}
use Rattle.row_laws.proofs.OrderlyRows.Course.{Orderly, State, walk, is_passed, closing}
use Rattle.row_laws.proofs.OrderlyRows.Forms.{starter, order_fits}
use Rattle.row_laws.proofs.OrderlyRows.Leavers.{Own, IsNew, new_line, leavers_weaker, quiet_leavers, part_leavers, merge_leavers, block_leavers}
use Rattle.row_laws.proofs.OrderlyRows.Polled.{polled_is}
use Rattle.row_laws.proofs.OrderlyRows.Spans.{take_length, next_world, span, span_world, before_at}
use Rattle.row_laws.proofs.OrderlyRows.Walk.{StartsLine, StartsIn, at, starts_in, span_block, span_apart, begins_at, starter_is}

-- ---- records ----

among_of : (xs : Trace) (z : Entry) (k : ℕ) → k < length xs → slice_index_or xs k z ≡ z → Among z xs
among_of [] z k less e = absurd (omega (arith, less))
among_of (x ∷ xs) z zero less e = inl (sym e)
among_of (x ∷ xs) z (suc k) less e = inr (among_of xs z k (omega (arith, less)) e)

before_among : (trace : Trace) (n : ℕ) (z : Entry) → Among z trace → z.line < n → Among z (before_line trace n)
before_among [] n z a less = absurd a
before_among (r ∷ older) n z a less =
    (elim (nat_lt r.line n) as (λ b. nat_lt r.line n ≡ b → Among z (cond b (r ∷ older) (before_line older n))) [
      | true ↦ λ e. a
      | false ↦ λ e. before_among older n z (other e a) less
    ]) refl
  where
    true_false : true ≡ false → ⊥
    true_false e = cc

    test : (m : ℕ) → m < n → nat_lt m n ≡ true
    test m h = grind (arith, nat_tests)

    other : nat_lt r.line n ≡ false → Among z (r ∷ older) → Among z older
    other e (inl same) = absurd (true_false (sym (test z.line less) ∙ (ap (λ (y : Entry). nat_lt y.line n) same ∙ e)))
    other e (inr k) = k

abbrev left_record : ℕ → ℕ → EpochId → Entry
left_record n site e = record { line = n; what = says.Leave site e }

left_with : (L : ℕ → Type 0) (n k site : ℕ) (e : EpochId) (t : Told) (older : Trace) → (k ≡ n → LeaveTold L t) → (Among (left_record n site e) older → L site) → Among (left_record n site e) (with_told k t older) → L site
left_with L n k site e (Shown r) older f g (inl same) = subst (LeaveRecord L) (sym (ap (λ (y : Entry). y.what) same)) (f (sym (ap (λ (y : Entry). y.line) same)))
left_with L n k site e (Shown r) older f g (inr a) = g a
left_with L n k site e _ older f g a = g a

left_told : (L : ℕ → Type 0) (n site : ℕ) (e : EpochId) (xs : List Line) → Every (LeaveLine n L) xs → Among (left_record n site e) (shown xs) → L site
left_told L n site e [] h a = absurd a
left_told L n site e (x ∷ older) h a = left_with L n x.number site e x.told (shown older) h.0 (left_told L n site e older h.1) a

-- ---- lines that have not come yet ----

ascends_new : (n m : ℕ) (trace : List Line) → n < m → Ascends n trace → Every (IsNew m) trace
ascends_new n m [] less a = tt
ascends_new n m (x ∷ older) less a = (λ e. (let le : x.number ≤ n = a.1 in absurd (omega (arith, e, le, less))), ascends_new x.number m older (let le : x.number ≤ n = a.1 in omega (arith, le, less)) a.2)

new_at : (lines : List ScheduleLine) (k : ℕ) → Every (IsNew (suc k)) (at lines k).trace
new_at lines k = ascends_new k (suc k) (at lines k).trace (omega arith) (ascends_later (length (take k lines)) k (at lines k).trace (take_length k lines) (run_courses (config_of lines) (take k lines)).course.ascends)

-- ---- the round that ends a block ----

asked_test : (site s b : ℕ) → b ≢ 0 → ((s == site) || not (b == 0)) ≡ true
asked_test site s b some = ap (λ (z : Bool). (s == site) || z) (not_zero_test b some) ∙ or_true (s == site)
  where
    or_true : (z : Bool) → (z || true) ≡ true
    or_true true = refl
    or_true false = refl

-- whom one of those that start asks is polled by its line
polled_before : (lines : List ScheduleLine) (b j s : ℕ) → EachFits lines → IsCluster lines → Closes lines b (b + j) → IsAsked (starts_of (config_of lines) (suc b) (span lines b j) (at lines b)) s → IsPolledBefore lines (trace_of (run lines)) s (suc (b + j))
polled_before lines b j s fits few h a = record {
  n = suc i;
  by = a.by;
  starts = starts;
  block = record { order = (let less : i < b + j = k.to in omega (arith, less)); only = only; most = h.most; settles = h.settles; unbroken = h.unbroken };
  polled = polled_is lines fits few i a.by a.polled (starter lines fits i a.by a.polled starts k.starts) s ∙ asked_test a.by s (boot_in a.polled.boot s) a.asked;
}
  where
    k : StartsIn (config_of lines) lines b (b + j) a.by a.polled
    k = starts_in (config_of lines) lines b j (b + j) a.by a.polled (omega arith) a.starts

    i : ℕ
    i = k.line

    low : b ≤ i
    low = k.from

    starts : StartsLine lines i a.by
    starts = starter_is lines fits i a.by a.polled (h.inside i k.from k.to) k.starts

    only : (q : ℕ) → suc i < q → q < suc (b + j) → (line_at lines q ≡ Passed) ⊎ ((site : ℕ) × (initiator lines (trace_of (run lines)) q ≡ Some site))
    only zero less high = absurd (omega (arith, less))
    only (suc q) less high = h.inside q (omega (arith, less, low)) (omega (arith, high))

-- a site leaves by its own line, the one with the next number, or in the round that this line is
abbrev Left : List ScheduleLine → ℕ → ℕ → Type 0
Left lines k s = (makes_leave (line_at lines (suc k)) s ≡ true) ⊎ IsPolledBefore lines (trace_of (run lines)) s (suc k)

closed_leavers : (lines : List ScheduleLine) (b j : ℕ) → EachFits lines → IsCluster lines → IsWithin lines → IsQuiet (at lines b) → Closes lines b (b + j) → Leavers (suc (b + j)) (Left lines (b + j)) (at lines (suc (b + j)))
closed_leavers lines b j fits few within quiet h =
    leavers_weaker (suc (b + j)) (IsAsked (starts_of c (suc b) (span lines b j) (at lines b))) (Left lines (b + j)) (at lines (suc (b + j))) (λ s a. inr (polled_before lines b j s fits few h a))
    (subst (Leavers (suc (b + j)) (IsAsked (starts_of c (suc b) (span lines b j) (at lines b)))) (round_ends lines b j h.most h.settles)
    (block_leavers c (suc b) (suc (b + j)) h.most (at lines b) (span lines b j) (known.run_good c (take b lines)) (run_ascends c (take b lines)) quiet
    (span_block c lines b j (b + j) (omega arith) (stretch lines b (b + j) fits h))
    (span_apart c lines b b j (b + j) (omega arith) (omega arith) (all_apart lines b (b + j) fits h))
    (subst (Unbroken (suc (b + j))) (sym (round_ends lines b j h.most h.settles)) (unbroken_at lines (suc (b + j)) within h.unbroken))
    (subst (λ (u : World). Every (IsNew (suc (b + j))) u.trace) (sym (span_world c lines b j)) (new_at lines (b + j)))))
  where
    c : Config
    c = config_of lines

closing_leavers : (lines : List ScheduleLine) (b k : ℕ) → EachFits lines → IsCluster lines → IsWithin lines → IsQuiet (at lines b) → Closes lines b k → Leavers (suc k) (Left lines k) (at lines (suc k))
closing_leavers lines b k fits few within quiet h =
    let low : b ≤ k = h.low in
    subst (λ (i : ℕ). Closes lines b i → Leavers (suc i) (Left lines i) (at lines (suc i))) {x = b + (k - b)} {y = k} (omega (arith, low)) (closed_leavers lines b (k - b) fits few within quiet) h

-- ---- a line ----

starter_leavers : (c : Config) (n s : ℕ) (P : Links) (x : ScheduleLine) (w : World) → Good w → StartsBy x w s P → Leavers n (Own x) w → Leavers n (Own x) (acts_line c n x w)
starter_leavers c n s P (EventLine (line.Part p)) w good h g = part_leavers c n p w good g
starter_leavers c n s P (EventLine (line.Merge p)) w good h g = merge_leavers c n p w good g
starter_leavers c n s P _ w good h g = absurd h

own_left : (lines : List ScheduleLine) (k : ℕ) → Leavers (suc k) (Own (line_at lines (suc k))) (acts_line (config_of lines) (suc k) (line_at lines (suc k)) (at lines k)) → Leavers (suc k) (Left lines k) (at lines (suc k))
own_left lines k h = leavers_weaker (suc k) (Own (line_at lines (suc k))) (Left lines k) (at lines (suc k)) (λ s o. inl o) (subst (Leavers (suc k) (Own (line_at lines (suc k)))) (sym (next_world (config_of lines) lines k)) h)

line_leavers : (lines : List ScheduleLine) (last k : ℕ) → EachFits lines → IsCluster lines → IsWithin lines → Orderly lines last → suc k ≤ last → Leavers (suc k) (Left lines k) (at lines (suc k))
line_leavers lines last k fits few within orderly le = by_starter (initiator lines (trace_of (run lines)) (suc k)) refl
  where
    c : Config
    c = config_of lines

    good : Good (at lines k)
    good = known.run_good c (take k lines)

    st : State lines k
    st = walk lines last k fits within orderly (omega (arith, le))

    new : Leavers (suc k) (Own (line_at lines (suc k))) (at lines k)
    new = new_line (suc k) (Own (line_at lines (suc k))) (at lines k) (new_at lines k)

    quietly : IsQuiet (at lines k) → Leavers (suc k) (Left lines k) (at lines (suc k))
    quietly quiet = own_left lines k (quiet_leavers c (suc k) (line_at lines (suc k)) (at lines k) (record { good = good; ascend = run_ascends c (take k lines); quiet = quiet }) new)

    by_first : initiator lines (trace_of (run lines)) (suc k) ≡ None → (line_at lines (suc k) ≡ Passed) ⊎ (line_at lines (suc k) ≡ Passed → ⊥) → (st.b ≡ k) ⊎ ((t : ℕ) × StartsLine lines st.b t) → Leavers (suc k) (Left lines k) (at lines (suc k))
    by_first none p (inl e) = quietly (subst (λ (j : ℕ). IsQuiet (at lines j)) e st.quiet)
    by_first none (inl p) (inr y) = own_left lines k (subst (λ (x : ScheduleLine). Leavers (suc k) (Own (line_at lines (suc k))) (acts_line c (suc k) x (at lines k))) (sym p) new)
    by_first none (inr p) (inr y) = closing_leavers lines st.b k fits few within st.quiet (closing lines last k orderly le st none p y)

    by_starter : (o : Option ℕ) → initiator lines (trace_of (run lines)) (suc k) ≡ o → Leavers (suc k) (Left lines k) (at lines (suc k))
    by_starter (Some s) e = (let b : Begins (line_at lines (suc k)) (at lines k) s = begins_at lines fits k s e in own_left lines k (starter_leavers c (suc k) s b.polled (line_at lines (suc k)) (at lines k) good b.starts new))
    by_starter None e = by_first e (is_passed (line_at lines (suc k))) st.first

-- ---- the law ----

-- a record of a line is among those up to its end
among_at : (lines : List ScheduleLine) (k : ℕ) (z : Entry) → Among z (trace_of (run lines)) → z.line < suc k → Among z (trace_of (at lines k))
among_at lines k z a less = subst (Among z) (before_at (config_of lines) lines k) (before_among (trace_of (run lines)) (suc k) z a less)

pub leaves_are_own : (lines : List ScheduleLine) → AreInOrder lines → IsWithin lines → LeavesAreOwn lines (trace_of (run lines))
leaves_are_own lines order within zero last site e there le orderly = absurd (among_at lines 0 (left_record 0 site e) (among_of (trace_of (run lines)) (left_record 0 site e) there.0 there.1 there.2) (omega arith))
leaves_are_own lines order within (suc k) last site e there le orderly =
    left_told (Left lines k) (suc k) site e (at lines (suc k)).trace (line_leavers lines last k (order_fits lines order) (schedule_few lines order) within orderly le)
    (among_at lines (suc k) (left_record (suc k) site e) (among_of (trace_of (run lines)) (left_record (suc k) site e) there.0 there.1 there.2) (omega arith))
