-- In an orderly schedule each block forms its epochs, as the records tell it.
use Rattle.std.proofs.Common.{◌≡◌, ◌≢◌, ℕ, zero, suc, ◌-◌, ◌≤◌, ◌==◌, nat_lt, Bool, true, false, cond, not, ◌||◌, List, take, Option, Some, None, refl, sym, ◌∙◌, ap, subst, ◌⊎◌, inl, inr, [], ◌∷◌, slice_index_or, arith, ◌<◌}
use Rattle.std.proofs.lemmas.Bool.Decides.{nat_tests}
use Rattle.role_steps.proofs.of_plain_facts.Numbers.{equal, not_zero}
use Rattle.role_steps.proofs.of_plain_facts.Options.{none_some}
use Rattle.role_steps.proofs.of_plain_facts.Tests.{false_unless}
use Rattle.locus_ids.specs.declared.config.Config.{Config}
use Rattle.locus_ids.specs.declared.sites.Links.{Links}
use Rattle.locus_ids.specs.Sizes.{sites_max}
use Rattle.schedule_lines.specs.Cluster.{config_of}
use Rattle.schedule_lines.specs.Ranges.{is_site, fits_event}
use Rattle.schedule_lines.specs.Schedule.{AreInOrder}
use Rattle.schedule_lines.specs.declared.line.Line.{Line as LineWords}
use Rattle.schedule_lines.specs.declared.line.ScheduleLine.{ScheduleLine}
use Rattle.schedule_lines.specs.declared.line.ScheduleLine.TheVariants.{Passed, Event as EventLine}
use Rattle.role_steps.specs.Own.{Every}
use Rattle.role_steps.specs.Views.{SiteView, all_sites}
use Rattle.role_steps.specs.Views as views
use Rattle.role_steps.specs.declared.rounds.InEpoch.{InEpoch}
use Rattle.tree_model.specs.Folds.{Trace, before_line}
use Rattle.tree_model.specs.Epochs.{boot_of, epoch_of, members_of}
use Rattle.tree_model.specs.Packs.{boot_in, is_member}
use Rattle.lawful_trace.specs.Places.{line_at, initiator, through_line}
use Rattle.lawful_trace.specs.Orderly.{is_polled, Forms, OrderlyBlocksForm}
use Rattle.lawful_trace.specs.Orderly as orderly
use Rattle.the_run.specs.Steps.{epoch_id}
use Rattle.the_run.specs.Worlds.{World, Running, place_at}
use Rattle.the_run.specs.Runs.{run}
use Rattle.the_run.proofs.OneList.{epochs_joined}
use Rattle.row_laws.specs.Shown.{trace_of}
use Rattle.row_laws.proofs.AskedRun.{run_short}
use Rattle.row_laws.proofs.Fitting.{schedule_fits, schedule_few}
use Rattle.row_laws.specs.Orderly.Agreeing.{IsIn, Agrees}
use Rattle.row_laws.specs.Orderly.Blocks.{StartsBy}
use Rattle.row_laws.specs.Orderly.Settling.{boot_at, reaches, is_asked, is_chosen, asked_boot}
use Rattle.row_laws.proofs.Orderly.Places.{boot_here}
use Rattle.row_laws.specs.OrderlyRows.Fits.{FitsCluster, EachFits, IsCluster}
use Rattle.row_laws.specs.OrderlyRows.Agreeing.{IsWithin, BlockAgrees}
use Rattle.row_laws.proofs.OrderlyRows.Blocked.{Begins, starter_runs, site_there}
use Rattle.row_laws.proofs.OrderlyRows.Circuits.{line_fits}
use Rattle.row_laws.proofs.OrderlyRows.Course.{orderly_blocks_agree}
use Rattle.row_laws.proofs.OrderlyRows.Listed.{own_boot, list_told}
use Rattle.row_laws.proofs.OrderlyRows.Polled.{range, at_most_sixteen, booted_at, uncut, Starter, polled_is, polled_reached, narrowed_within, chosen_is}
use Rattle.row_laws.proofs.OrderlyRows.Reached.{running_boot, running_epoch}
use Rattle.row_laws.proofs.OrderlyRows.Spans.{one_more, before_at}
use Rattle.row_laws.proofs.OrderlyRows.Walk.{at, begins_at}

-- ---- who starts ----

pub starter : (lines : List ScheduleLine) → EachFits lines → (k site : ℕ) (P : Links) → initiator lines (trace_of (run lines)) (suc k) ≡ Some site → StartsBy (line_at lines (suc k)) (at lines k) site P → Starter lines k site P
starter lines fits k site P h starts = record { inside = b.inside; starts = starts; low = place.0; high = place.1.0; runs = booted (boot_at (at lines k) site) u.1.0.boot (boot_here (at lines k) site u.1.0 u.1.1) (booted_at lines k site u.1.0 u.1.1) }
  where
    b : Begins (line_at lines (suc k)) (at lines k) site
    b = begins_at lines fits k site h

    u : (is_site (config_of lines).sites site ≡ true) × ((v : SiteView) × (place_at (at lines k) site ≡ Some (Running v)))
    u = starter_runs (line_at lines (suc k)) (at lines k) (config_of lines).sites site P (line_fits (config_of lines).sites lines k fits) b.inside starts

    place : (1 ≤ site) × ((site ≤ sites_max) × (site ≤ (config_of lines).sites))
    place = site_there (config_of lines).sites site u.0

    booted : (p q : ℕ) → p ≡ q → 1 ≤ q → p ≢ 0
    booted p q e le z = omega (arith, e, le, z)

-- ---- the list ----

asked_some : (w : World) (site s : ℕ) (P : Links) → boot_at w site ≢ 0 → is_asked site P s ≡ true → asked_boot w site P s ≢ 0
asked_some w site s P some h =
    (elim (s == site) as (λ b. (b || not (views.boot_in P.boot s == 0)) ≡ true → cond b (boot_at w site) (views.boot_in P.boot s) ≢ 0) [
      | true ↦ λ g. some
      | false ↦ λ g. not_zero (views.boot_in P.boot s) g
    ]) h

listed_test : (b : Bool) (n asked : ℕ) → n ≡ cond b asked 0 → (b ≡ true → asked ≢ 0) → nat_lt 0 n ≡ b
listed_test true n asked e some = above n asked e (some refl)
  where
    above : (n asked : ℕ) → n ≡ asked → asked ≢ 0 → nat_lt 0 n ≡ true
    above n asked e some = grind (arith, nat_tests)
listed_test false n asked e some = ap (nat_lt 0) e

-- ---- the law ----

record Block (lines : List ScheduleLine) (k site m : ℕ) (P : Links) : Type 0 where
  start : Starter lines k site P
  agrees : Agrees (at lines k) (at lines m) site P

through : (lines : List ScheduleLine) (m : ℕ) → through_line (trace_of (run lines)) m ≡ trace_of (at lines m)
through lines m = ap (before_line (trace_of (run lines))) (one_more m) ∙ before_at (config_of lines) lines m

forms : (lines : List ScheduleLine) → EachFits lines → IsCluster lines → (k site m : ℕ) (P : Links) → Block lines k site m P → Forms lines (trace_of (run lines)) (suc k) site m
forms lines fits few k site m P h = record {
  epoch = e.id;
  own = h.agrees.own;
  members = e.members;
  listed = ap (λ (t : Trace). members_of t e.id) (through lines m) ∙ list_told c (take m lines) site itself.view e itself.here itself.epoch;
  exactly = λ s. exactly s (range s);
  boots = λ s a. (let i : IsIn (at lines m) s (Some e) = chosen_in s (sym (chosen s) ∙ a) in
      own_boot c (take m lines) (uncut lines fits m) s i.view e i.here i.epoch ∙ (sym (running_boot c (take m lines) s i.view i.here) ∙ ap (λ (t : Trace). boot_of t s) (sym (through lines m))));
  inside = λ s a. (let i : IsIn (at lines m) s (Some e) = chosen_in s (sym (chosen s) ∙ a) in
      ap (λ (t : Trace). epoch_of t s) (through lines m) ∙ (running_epoch c (take m lines) s i.view i.here ∙ ap epoch_id i.epoch));
  others = λ s asked out. (let i : IsIn (at lines m) s None = left_out s (sym (polled s) ∙ asked) (sym (chosen s) ∙ out) in
      ap (λ (t : Trace). epoch_of t s) (through lines m) ∙ (running_epoch c (take m lines) s i.view i.here ∙ ap epoch_id i.epoch));
}
  where
    c : Config
    c = config_of lines

    e : InEpoch
    e = h.agrees.epoch

    itself : IsIn (at lines m) site (Some e)
    itself = h.agrees.itself

    chosen : (s : ℕ) → orderly.is_chosen lines (trace_of (run lines)) (suc k) site s ≡ is_chosen (at lines k) site P s
    chosen = chosen_is lines fits few k site P h.start

    polled : (s : ℕ) → is_polled lines (trace_of (run lines)) (suc k) site s ≡ is_asked site P s
    polled = polled_is lines fits few k site P h.start

    is_asked_of : (s : ℕ) → is_chosen (at lines k) site P s ≡ true → is_asked site P s ≡ true
    is_asked_of s a = narrowed_within (reaches (at lines k)) (is_asked site P) all_sites s a

    test : (s : ℕ) → s ≤ sites_max → 1 ≤ s → is_member e.members s ≡ orderly.is_chosen lines (trace_of (run lines)) (suc k) site s
    test s high low = listed_test (is_chosen (at lines k) site P s) (boot_in e.members s) (asked_boot (at lines k) site P s) (h.agrees.exactly s low high) (λ a. asked_some (at lines k) site s P h.start.runs (is_asked_of s a)) ∙ sym (chosen s)

    -- only sites of the cluster are chosen
    reached : (s : ℕ) → orderly.is_chosen lines (trace_of (run lines)) (suc k) site s ≡ true → (1 ≤ s) × (s ≤ c.sites) × (boot_at (at lines k) s ≢ 0)
    reached s a = polled_reached lines fits few k site s (polled s ∙ is_asked_of s (sym (chosen s) ∙ a))

    exactly : (s : ℕ) → (s ≤ sites_max) ⊎ (sites_max < s) → is_member e.members s ≡ orderly.is_chosen lines (trace_of (run lines)) (suc k) site s
    exactly zero r = sym (false_unless (orderly.is_chosen lines (trace_of (run lines)) (suc k) site zero) (λ a. nothing (reached zero a).0))
      where
        nothing : 1 ≤ 0 → ⊥
        nothing le = omega (arith, le)
    exactly (suc s) (inl le) = test (suc s) le (omega arith)
    exactly (suc s) (inr le) = ap (nat_lt 0) (run_short c (take m lines) e.id.site e.id e.members ((epochs_joined c (take m lines)).joined site itself.view e itself.here itself.epoch) (suc s) le) ∙ sym (false_unless (orderly.is_chosen lines (trace_of (run lines)) (suc k) site (suc s)) (λ a. beyond (suc s) le (at_most_sixteen (suc s) c.sites (reached (suc s) a).1 few)))
      where
        beyond : (n : ℕ) → sites_max < n → n ≤ sites_max → ⊥
        beyond n p q = omega (arith, p, q)

    asked_other : (s : ℕ) (b : Bool) → (s == site) ≡ b → (b || not (views.boot_in P.boot s == 0)) ≡ true → (s ≡ site) ⊎ (views.boot_in P.boot s ≢ 0)
    asked_other s true f g = inl (equal s site f)
    asked_other s false f g = inr (not_zero (views.boot_in P.boot s) g)

    chosen_in : (s : ℕ) → is_chosen (at lines k) site P s ≡ true → IsIn (at lines m) s (Some e)
    chosen_in s a = by_place (asked_other s (s == site) refl (is_asked_of s a))
      where
        by_place : (s ≡ site) ⊎ (views.boot_in P.boot s ≢ 0) → IsIn (at lines m) s (Some e)
        by_place (inl f) = subst (λ (t : ℕ). IsIn (at lines m) t (Some e)) (sym f) itself
        by_place (inr some) = h.agrees.members s some a

    -- the site itself is in its list, so it was chosen
    self_chosen : is_chosen (at lines k) site P site ≡ false → ⊥
    self_chosen out = none itself.view.boot (booted_at lines m site itself.view itself.here)
        (sym (own_boot c (take m lines) (uncut lines fits m) site itself.view e itself.here itself.epoch) ∙ (h.agrees.exactly site h.start.low h.start.high ∙ ap (λ (b : Bool). cond b (asked_boot (at lines k) site P site) 0) out))
      where
        none : (n : ℕ) → 1 ≤ n → n ≡ 0 → ⊥
        none n le z = omega (arith, le, z)

    left_out : (s : ℕ) → is_asked site P s ≡ true → is_chosen (at lines k) site P s ≡ false → IsIn (at lines m) s None
    left_out s asked out = by_place (asked_other s (s == site) refl asked)
      where
        by_place : (s ≡ site) ⊎ (views.boot_in P.boot s ≢ 0) → IsIn (at lines m) s None
        by_place (inl f) = absurd (self_chosen (ap (is_chosen (at lines k) site P) (sym f) ∙ out))
        by_place (inr some) = h.agrees.others s some out

block_of : (lines : List ScheduleLine) → EachFits lines → (k site m : ℕ) → initiator lines (trace_of (run lines)) (suc k) ≡ Some site → (b : BlockAgrees lines (suc k) site m) → Block lines k site m b.polled
block_of lines fits k site m h b = record {
  start = starter lines fits k site b.polled h (subst (λ (j : ℕ). StartsBy (line_at lines (suc k)) (at lines j) site b.polled) {x = suc k - 1} {y = k} (omega arith) b.starts);
  agrees = subst (λ (j : ℕ). Agrees (at lines j) (at lines m) site b.polled) {x = suc k - 1} {y = k} (omega arith) b.agrees;
}

fits_of : (c : Config) (lines : List ScheduleLine) → ((k : ℕ) (l : LineWords) → slice_index_or lines k Passed ≡ EventLine l → fits_event c.sites l ≡ true) → Every (FitsCluster c.sites) lines
fits_of c [] h = tt
fits_of c (x ∷ xs) h = (one x (h 0), fits_of c xs (λ k. h (suc k)))
  where
    one : (x : ScheduleLine) → ((l : LineWords) → x ≡ EventLine l → fits_event c.sites l ≡ true) → FitsCluster c.sites x
    one (EventLine l) h = h l refl
    one _ h = tt

pub order_fits : (lines : List ScheduleLine) → AreInOrder lines → EachFits lines
order_fits lines h = fits_of (config_of lines) lines (λ k l is. schedule_fits lines h (suc k) l is)

pub blocks_form : (lines : List ScheduleLine) → AreInOrder lines → IsWithin lines → OrderlyBlocksForm lines (trace_of (run lines))
blocks_form lines order within zero site settle h block all = absurd (none_some site h)
blocks_form lines order within (suc k) site settle h block all =
    let fits : EachFits lines = order_fits lines order in
    let b : BlockAgrees lines (suc k) site settle = orderly_blocks_agree lines fits within (suc k) site settle h block all in
    forms lines fits (schedule_few lines order) k site settle b.polled (block_of lines fits k site settle h b)
