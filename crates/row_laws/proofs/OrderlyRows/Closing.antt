-- A round that ends a block: no limit is passed by then, and it isn't cut short; then the block has agreed.
use Rattle.std.proofs.Common.{◌≡◌, ℕ, suc, ◌+◌, ◌-◌, ◌≤◌, ◌<◌, ◌==◌, nat_lt, Bool, true, false, cond, ◌&&◌, ◌||◌, List, [], ◌∷◌, length, take, Some, None, refl, sym, ◌∙◌, ap, subst, arith}
use Rattle.std.specs.List.{list_any}
use Rattle.std.proofs.lemmas.Bool.Decides.{nat_tests}
use Rattle.role_steps.proofs.of_plain_facts.Numbers.{equal_test}
use Rattle.role_steps.proofs.of_plain_facts.Tests.{and_true, false_true, or_neither}
use Rattle.locus_ids.specs.declared.sites.Links.{Links}
use Rattle.locus_ids.specs.declared.config.Config.{Config}
use Rattle.locus_ids.specs.Sizes.{sites_max}
use Rattle.trace_book.specs.declared.entry.Entry.{Entry}
use Rattle.trace_book.specs.declared.record.Record.{Record}
use Rattle.trace_book.specs.declared.record.Record.TheVariants as says
use Rattle.schedule_lines.specs.Cluster.{config_of}
use Rattle.schedule_lines.specs.declared.line.Line.TheVariants as line
use Rattle.schedule_lines.specs.declared.line.ScheduleLine.{ScheduleLine}
use Rattle.schedule_lines.specs.declared.line.ScheduleLine.TheVariants.{Event as EventLine}
use Rattle.role_steps.specs.Own.{Every}
use Rattle.role_steps.specs.Views.{SiteView, Told, Shown, Outcome}
use Rattle.tree_model.specs.Folds.{Trace, before_line}
use Rattle.lawful_trace.specs.Places.{line_at}
use Rattle.lawful_trace.specs.Orderly.{is_break, tells_break}
use Rattle.lawful_trace.specs.Orderly as orderly
use Rattle.the_run.specs.Disks.{Booted, Whole as WholeBoot, CutOff, boots}
use Rattle.the_run.specs.Kept.{Kept}
use Rattle.the_run.specs.Steps.{step}
use Rattle.the_run.specs.Worlds.{World, Line, links_of, script_of, puts, arms, passed, stops_with, disk_of, acts}
use Rattle.the_run.specs.Runs.{boots_as, settles, acts_line, run_from, run_in, run}
use Rattle.the_run.proofs.Events.{acts_keeps}
use Rattle.the_run.proofs.Runs.{run_from_keeps, every_run}
use Rattle.row_laws.specs.Shown.{shown, with_told, trace_of}
use Rattle.row_laws.specs.Orderly.Agreeing.{Agrees}
use Rattle.row_laws.specs.Orderly.Blocks.{StartsBy, starts_of}
use Rattle.row_laws.specs.Orderly.Quiet.{IsQuiet}
use Rattle.row_laws.specs.Orderly.Rounds.{IsBreak, BreaksTold, Whole, Unbroken}
use Rattle.row_laws.proofs.Orderly.Blocks.{happened_within, block_agrees}
use Rattle.row_laws.proofs.Orderly.Numbers.{ascend_kept, first_ascends}
use Rattle.row_laws.specs.Orderly.Numbers.{NumbersAscend}
use Rattle.run_laws.proofs.Epochs.Run as known
use Rattle.row_laws.specs.OrderlyRows.Fits.{EachFits}
use Rattle.row_laws.specs.OrderlyRows.Agreeing.{IsWithin}
use Rattle.row_laws.proofs.OrderlyRows.Spans.{next_world, span, span_world, whole_run, before_at}
use Rattle.row_laws.proofs.OrderlyRows.Walk.{Inside, Apart, StartsLine, MayStand, at, in_starts, span_block, span_apart, stands_in, starter_is, starter_boot, starter_site, reaches_itself, is_reached_at, reaches_same}

-- ---- limits ----

acts_over : (n s : ℕ) (v : SiteView) (o : Outcome SiteView) (w : World) → (acts n s v o w).over ≡ None → w.over ≡ None
acts_over n s v o w = acts_keeps (λ (u : World). u.over ≡ None → w.over ≡ None) n s v o w
    (λ ps told place. happened_within n ps told (λ now. puts s place now) w)
    (λ ps told place a. happened_within n ps told (λ now. puts s place (arms a now)) w)
    (λ ps told d. happened_within n ps told (stops_with s d) w)

as_over : (n s : ℕ) (x : Booted) (w : World) → (boots_as n s x w).over ≡ None → w.over ≡ None
as_over n s (WholeBoot y None) w = happened_within n [] _ _ w
as_over n s (WholeBoot y (Some a)) w = happened_within n [] _ _ w
as_over n s (CutOff y how) w = happened_within n [] _ _ w

over_kept : (c : Config) (first : World) → Kept c (λ (u : World). u.over ≡ None → first.over ≡ None)
over_kept c first = record {
  steps = λ n s e v w here own p k. p (acts_over n s v (step c s (links_of w s) v e) w k);
  receives = λ n x v w here sent p k. p (acts_over n x.packet.to v _ (passed x.number w) k);
  passes = λ j w p k. p k;
  drops = λ j w p k. p k;
  recuts = λ xs w p k. p k;
  arming = λ a w p k. p k;
  voiding = λ n w p k. p (happened_within n [] _ (λ now. now) w k);
  budgets = λ n w p k. p (happened_within n [] _ (λ now. now) w k);
  pending = λ n w p k. p (happened_within n [] _ (λ now. now) w k);
  stopping = λ n s v w here p k. p (happened_within n [] _ (stops_with s (disk_of v)) w k);
  booting = λ n s d w here p k. p (as_over n s (boots (script_of w s) d) w k);
}

within_at : (lines : List ScheduleLine) (k : ℕ) → IsWithin lines → (at lines k).over ≡ None
within_at lines k h =
    let c : Config = config_of lines in
    run_from_keeps c (λ (u : World). u.over ≡ None → (at lines k).over ≡ None) (over_kept c (at lines k)) (suc k) (span lines k (length lines)) (at lines k) (λ e. e) (ap (λ (u : World). u.over) (whole_run c lines k) ∙ h)

-- ---- no break is told ----

break_told : (r : Record) → IsBreak r → is_break r ≡ true
break_told says.Budget h = refl
break_told (says.Stopped s why) h = refl
break_told _ h = absurd h

whole_told : (n k : ℕ) (t : Told) (older : Trace) → list_any (tells_break n) (with_told k t older) ≡ false → (k ≡ n → BreaksTold t → ⊥) × (list_any (tells_break n) older ≡ false)
whole_told n k (Shown r) older h =
    let g : (tells_break n (record { line = k; what = r }) ≡ false) × (list_any (tells_break n) older ≡ false) = or_neither (tells_break n (record { line = k; what = r })) (list_any (tells_break n) older) h in
    (λ e b. false_true (sym g.0 ∙ and_true (is_break r) (k == n) (break_told r b) (equal_test k n e)), g.1)
whole_told n k _ older h = (λ e b. absurd b, h)

whole_of : (n : ℕ) (trace : List Line) → list_any (tells_break n) (shown trace) ≡ false → Every (Whole n) trace
whole_of n [] h = tt
whole_of n (x ∷ older) h = (let g : (x.number ≡ n → BreaksTold x.told → ⊥) × (list_any (tells_break n) (shown older) ≡ false) = whole_told n x.number x.told (shown older) h in (g.0, whole_of n older g.1))

-- records before a line are some of all
before_any : (p : Entry → Bool) (trace : Trace) (n : ℕ) → list_any p trace ≡ false → list_any p (before_line trace n) ≡ false
before_any p [] n h = refl
before_any p (r ∷ older) n h =
    elim (nat_lt r.line n) as (λ b. list_any p (cond b (r ∷ older) (before_line older n)) ≡ false) [
      | true ↦ h
      | false ↦ before_any p older n (or_neither (p r) (list_any p older) h).1
    ]

pub unbroken_at : (lines : List ScheduleLine) (k : ℕ) → IsWithin lines → list_any (tells_break k) (trace_of (run lines)) ≡ false → Unbroken k (at lines k)
unbroken_at lines k within h = record {
  within = within_at lines k within;
  whole = whole_of k (at lines k).trace (ap (list_any (tells_break k)) (sym (before_at (config_of lines) lines k)) ∙ before_any (tells_break k) (trace_of (run lines)) (suc k) h);
}

-- ---- the block that the line after m ends ----

-- lines b + 1 to m stand in a block, which the next line ends, each apart from each later one
pub record Closes (lines : List ScheduleLine) (b m : ℕ) : Type 0 where
  pub low : b ≤ m
  pub inside : (i : ℕ) → b ≤ i → i < m → MayStand lines i
  pub most : ℕ
  pub settles : line_at lines (suc m) ≡ EventLine (line.Settle most)
  pub unbroken : list_any (tells_break (suc m)) (trace_of (run lines)) ≡ false
  pub apart : (i k X Y : ℕ) → b ≤ i → i < k → k < m → StartsLine lines i X → StartsLine lines k Y → orderly.AreApart lines (trace_of (run lines)) (suc m) X Y

pub record Closed (lines : List ScheduleLine) (b m : ℕ) : Type 0 where
  pub agrees : (i X : ℕ) (P : Links) → b ≤ i → i < m → StartsBy (line_at lines (suc i)) (at lines i) X P → Agrees (at lines b) (at lines (suc m)) X P
  pub quiet : IsQuiet (at lines (suc m))

pub stretch : (lines : List ScheduleLine) (b m : ℕ) → EachFits lines → Closes lines b m → Inside (config_of lines) lines b m
stretch lines b m fits h = λ i low high. stands_in lines fits i (h.inside i low high)

pub all_apart : (lines : List ScheduleLine) (b m : ℕ) → EachFits lines → Closes lines b m → Apart (config_of lines) lines b m
all_apart lines b m fits h = record {
  itself = λ i X P low high r. (let s : (1 ≤ X) × ((X ≤ sites_max) × (X ≤ (config_of lines).sites)) = starter_site lines fits i X P (inside i low high) r in
      reaches_itself lines fits b X s.0 s.1.0 (starter_boot lines fits b m i b X P low high (omega arith) h.low inside r));
  differ = λ i k X Y P L low less high r q. (told i k X Y P L low less high r q).0;
  apart = λ i k X Y P L t low less high r q x y. (told i k X Y P L low less high r q).1 t
      (is_reached_at lines fits m X t (starter_boot lines fits b m i m X P low (omega (arith, less, high)) h.low (omega arith) inside r) (reaches_same lines b m m X t h.low (omega arith) inside x))
      (is_reached_at lines fits m Y t (starter_boot lines fits b m k m Y L (omega (arith, low, less)) high h.low (omega arith) inside q) (reaches_same lines b m m Y t h.low (omega arith) inside y));
}
  where
    inside : Inside (config_of lines) lines b m
    inside = stretch lines b m fits h

    told : (i k X Y : ℕ) (P L : Links) → b ≤ i → i < k → k < m → StartsBy (line_at lines (suc i)) (at lines i) X P → StartsBy (line_at lines (suc k)) (at lines k) Y L → orderly.AreApart lines (trace_of (run lines)) (suc m) X Y
    told i k X Y P L low less high r q = h.apart i k X Y low less high
        (starter_is lines fits i X P (h.inside i low (omega (arith, less, high))) r)
        (starter_is lines fits k Y L (h.inside k (omega (arith, low, less)) high) q)

pub run_ascends : (c : Config) (lines : List ScheduleLine) → NumbersAscend (run_in c lines)
run_ascends c lines = every_run c NumbersAscend (ascend_kept c) (first_ascends c) lines

-- the world at the end of the round
pub round_ends : (lines : List ScheduleLine) (b j most : ℕ) → line_at lines (suc (b + j)) ≡ EventLine (line.Settle most) → settles (config_of lines) (suc (b + j)) most (run_from (config_of lines) (suc b) (span lines b j) (at lines b)) ≡ at lines (suc (b + j))
round_ends lines b j most e =
    let c : Config = config_of lines in
    ap (settles c (suc (b + j)) most) (span_world c lines b j) ∙ (ap (λ (x : ScheduleLine). acts_line c (suc (b + j)) x (at lines (b + j))) (sym e) ∙ sym (next_world c lines (b + j)))

-- all from the first world on, by the lengths of lists
closes_from : (lines : List ScheduleLine) (b j : ℕ) → EachFits lines → IsWithin lines → IsQuiet (at lines b) → Closes lines b (b + j) →
    ((X : ℕ) (P : Links) → starts_of (config_of lines) (suc b) (span lines b j) (at lines b) X P → Agrees (at lines b) (at lines (suc (b + j))) X P) × IsQuiet (at lines (suc (b + j)))
closes_from lines b j fits within quiet h =
    subst (λ (u : World). ((X : ℕ) (P : Links) → starts_of c (suc b) (span lines b j) (at lines b) X P → Agrees (at lines b) u X P) × IsQuiet u) ends
    (block_agrees c (suc b) (suc (b + j)) h.most (at lines b) (span lines b j) (known.run_good c (take b lines)) (run_ascends c (take b lines)) quiet
    (span_block c lines b j (b + j) (omega arith) (stretch lines b (b + j) fits h))
    (span_apart c lines b b j (b + j) (omega arith) (omega arith) (all_apart lines b (b + j) fits h))
    (subst (Unbroken (suc (b + j))) (sym ends) (unbroken_at lines (suc (b + j)) within h.unbroken)))
  where
    c : Config
    c = config_of lines

    ends : settles c (suc (b + j)) h.most (run_from c (suc b) (span lines b j) (at lines b)) ≡ at lines (suc (b + j))
    ends = round_ends lines b j h.most h.settles

pub closes : (lines : List ScheduleLine) (b m : ℕ) → EachFits lines → IsWithin lines → IsQuiet (at lines b) → Closes lines b m → Closed lines b m
closes lines b m fits within quiet h = subst (λ (k : ℕ). Closes lines b k → Closed lines b k) {x = b + (m - b)} {y = m} (omega (arith, low)) by_length h
  where
    low : b ≤ m
    low = h.low

    by_length : Closes lines b (b + (m - b)) → Closed lines b (b + (m - b))
    by_length g =
        let r : ((X : ℕ) (P : Links) → starts_of (config_of lines) (suc b) (span lines b (m - b)) (at lines b) X P → Agrees (at lines b) (at lines (suc (b + (m - b)))) X P) × IsQuiet (at lines (suc (b + (m - b)))) = closes_from lines b (m - b) fits within quiet g in
        record { agrees = λ i X P less high s. r.0 X P (in_starts (config_of lines) lines b (m - b) i X P less high s); quiet = r.1 }
