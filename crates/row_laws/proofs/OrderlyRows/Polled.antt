-- Whom a line asks and chooses, told by the records as by the world that the line finds.
use Rattle.std.proofs.Common.{◌≡◌, ◌≢◌, ℕ, zero, suc, ◌-◌, ◌≤◌, ◌==◌, nat_le, nat_lt, Bool, true, false, cond, not, ◌&&◌, ◌||◌, List, [], ◌∷◌, take, Option, Some, None, refl, sym, ◌∙◌, ap, ◌⊎◌, inl, inr, arith, ◌<◌}
use Rattle.std.proofs.lemmas.Bool.Decides.{nat_tests}
use Rattle.std.specs.Option.{is_some}
use Rattle.role_steps.proofs.of_plain_facts.Numbers.{at_most, equal, not_zero, not_zero_test}
use Rattle.role_steps.proofs.of_plain_facts.Tests.{not_true, same_truth, true_false}
use Rattle.locus_ids.specs.declared.config.Config.{Config}
use Rattle.locus_ids.specs.declared.sites.Links.{Links}
use Rattle.locus_ids.specs.declared.sites.Members.{Members}
use Rattle.locus_ids.specs.Sizes.{sites_max}
use Rattle.schedule_lines.specs.Cluster.{config_of}
use Rattle.schedule_lines.specs.declared.line.Line.TheVariants as line
use Rattle.schedule_lines.specs.declared.line.ScheduleLine.{ScheduleLine}
use Rattle.schedule_lines.specs.declared.line.ScheduleLine.TheVariants.{Event as EventLine}
use Rattle.role_steps.specs.Views.{SiteView, all_sites}
use Rattle.role_steps.specs.Views as views
use Rattle.role_steps.specs.Epochs.{boots_where, merge_boot, part_boot}
use Rattle.role_steps.specs.declared.rounds.InEpoch.{InEpoch}
use Rattle.tree_model.specs.Folds.{Trace, before_line}
use Rattle.tree_model.specs.Epochs.{is_up, boot_of}
use Rattle.tree_model.specs.Packs.{boot_in, is_member}
use Rattle.lawful_trace.specs.Places.{line_at}
use Rattle.lawful_trace.specs.Places as lawful
use Rattle.lawful_trace.specs.Orderly.{is_reached, lists, members_with, may_be_asked, is_polled, narrowed}
use Rattle.lawful_trace.specs.Orderly as orderly
use Rattle.the_run.specs.Steps.{epoch_id}
use Rattle.the_run.specs.Worlds.{World, Place, Running, Stopped, place_at, is_cut, link_of, links_of}
use Rattle.the_run.specs.Runs.{is_in_no_epoch, run}
use Rattle.row_laws.specs.Shown.{trace_of}
use Rattle.row_laws.specs.Voids.{CutsNoSelf}
use Rattle.row_laws.proofs.AskedRun.{run_courses}
use Rattle.run_laws.proofs.Epochs.Boots.{boot_there, boot_nowhere}
use Rattle.run_laws.proofs.Epochs.Run as known
use Rattle.row_laws.specs.Orderly.Blocks.{StartsBy, IsInBlock, asked_by_merge, asked_by_part, asked_at, asked_inside}
use Rattle.row_laws.specs.Orderly.Settling.{boot_at, reaches, is_asked, is_chosen}
use Rattle.row_laws.proofs.Orderly.Chosen.{and_true_right}
use Rattle.row_laws.proofs.Orderly.Places.{runs, boot_here, link_boot, link_sized}
use Rattle.row_laws.specs.OrderlyRows.Fits.{EachFits, IsCluster}
use Rattle.row_laws.proofs.OrderlyRows.Circuits.{take_fits, cuts_no_self, cut_is, self_uncut}
use Rattle.row_laws.proofs.OrderlyRows.Listed.{own_boot, list_told}
use Rattle.row_laws.proofs.OrderlyRows.Placed.{placed}
use Rattle.row_laws.proofs.OrderlyRows.Reached.{running_boot, running_epoch}
use Rattle.row_laws.proofs.OrderlyRows.Spans.{before_at}
use Rattle.row_laws.proofs.OrderlyRows.Walk.{at, reaches_itself, is_reached_at}

pub range : (s : ℕ) → (s ≤ sites_max) ⊎ (sites_max < s)
range s =
    (elim (nat_le s sites_max) as (λ b. nat_le s sites_max ≡ b → (s ≤ sites_max) ⊎ (sites_max < s)) [
      | true ↦ λ e. inl (within e)
      | false ↦ λ e. inr (beyond e)
    ]) refl
  where
    within : nat_le s sites_max ≡ true → s ≤ sites_max
    within e = grind (arith, nat_tests)

    beyond : nat_le s sites_max ≡ false → sites_max < s
    beyond e = grind (arith, nat_tests)

-- ---- whom a site reaches ----

pub at_most_sixteen : (a b : ℕ) → a ≤ b → b ≤ sites_max → a ≤ sites_max
at_most_sixteen a b p q = omega (arith, p, q)

-- a site of the cluster that is up has its place, and runs
there : (lines : List ScheduleLine) → IsCluster lines → (k t : ℕ) → 1 ≤ t → t ≤ (config_of lines).sites → is_up (config_of lines) (trace_of (at lines k)) t ≡ true → (v : SiteView) × (place_at (at lines k) t ≡ Some (Running v))
there lines few k t low high up = by_place (place_at (at lines k) t) refl
  where
    by_place : (o : Option Place) → place_at (at lines k) t ≡ o → (v : SiteView) × (place_at (at lines k) t ≡ Some (Running v))
    by_place None e = absurd (placed (config_of lines) (take k lines) t ((low, at_most_sixteen t (config_of lines).sites high few), high) e)
    by_place (Some (Stopped d)) e = absurd (true_false (sym up ∙ ((run_courses (config_of lines) (take k lines)).course.places t (Stopped d) e).0))
    by_place (Some (Running v)) e = (v, e)

pub booted_at : (lines : List ScheduleLine) (k t : ℕ) (v : SiteView) → place_at (at lines k) t ≡ Some (Running v) → 1 ≤ v.boot
booted_at lines k t v here = ((known.run_good (config_of lines) (take k lines)).views t v here).booted

all_parts : (a b x y z : Bool) → (a && (b && (x && y && z))) ≡ true → (a ≡ true) × (b ≡ true) × (y ≡ true) × (z ≡ true)
all_parts false b x y z h = absurd (true_false (sym h))
all_parts true false x y z h = absurd (true_false (sym h))
all_parts true true false y z h = absurd (true_false (sym h))
all_parts true true true false z h = absurd (true_false (sym h))
all_parts true true true true z h = (refl, refl, refl, h)

above : (p q : ℕ) → p ≡ q → 1 ≤ q → p ≡ 0 → ⊥
above p q e le z = omega (arith, e, le, z)

reach_back : (lines : List ScheduleLine) → EachFits lines → IsCluster lines → (k X t : ℕ) → is_reached lines (trace_of (run lines)) (suc k) X t ≡ true → reaches (at lines k) X t ≡ true
reach_back lines fits few k X t h = not_zero_test link (above link to.0.boot link_is (booted_at lines k t to.0 to.1))
  where
    c : Config
    c = config_of lines

    tr : Trace
    tr = before_line (trace_of (run lines)) (suc k)

    link : ℕ
    link = views.boot_in (links_of (at lines k) X).boot t

    g : (nat_le 1 t ≡ true) × (nat_le t c.sites ≡ true) × (is_up (config_of lines) tr t ≡ true) × (((X == t) || not (lawful.is_cut (take (suc k - 1) lines) X t)) ≡ true)
    g = all_parts (nat_le 1 t) (nat_le t c.sites) (is_up (config_of lines) tr X) (is_up (config_of lines) tr t) ((X == t) || not (lawful.is_cut (take (suc k - 1) lines) X t)) h

    low : 1 ≤ t
    low = at_most 1 t g.0

    high : t ≤ c.sites
    high = at_most t c.sites g.1

    to : (v : SiteView) × (place_at (at lines k) t ≡ Some (Running v))
    to = there lines few k t low high (ap (λ (z : Trace). is_up (config_of lines) z t) (sym (before_at c lines k)) ∙ g.2)

    whole : (b : Bool) → (X == t) ≡ b → (b || not (lawful.is_cut (take (suc k - 1) lines) X t)) ≡ true → is_cut (at lines k) X t ≡ false
    whole true e f = ap (is_cut (at lines k) X) (sym (equal X t e)) ∙ self_uncut c (take k lines) (take_fits c.sites lines k fits) X
    whole false e f = cut_is c (take k lines) (take_fits c.sites lines k fits) X t ∙ (ap (λ (j : ℕ). lawful.is_cut (take j lines) X t) {x = k} {y = suc k - 1} (omega arith) ∙ not_true (lawful.is_cut (take (suc k - 1) lines) X t) f)

    link_is : link ≡ to.0.boot
    link_is = boot_there (link_of (at lines k) X) t low (at_most_sixteen t c.sites high few) ∙ (ap (λ (b : Bool). cond b 0 (boot_at (at lines k) t)) (whole (X == t) refl g.3) ∙ boot_here (at lines k) t to.0 to.1)

-- a running site reaches the same by the records as by the world
pub reach_is : (lines : List ScheduleLine) → EachFits lines → IsCluster lines → (k X t : ℕ) → boot_at (at lines k) X ≢ 0 → is_reached lines (trace_of (run lines)) (suc k) X t ≡ reaches (at lines k) X t
reach_is lines fits few k X t some = same_truth (is_reached lines (trace_of (run lines)) (suc k) X t) (reaches (at lines k) X t) (reach_back lines fits few k X t) (is_reached_at lines fits k X t some)

-- ---- whom a line asks ----

-- all that the site reaches, itself apart
merge_there : (w : World) (site s : ℕ) → (s == site) ≡ false → views.boot_in (asked_by_merge w site).boot s ≡ views.boot_in (links_of w site).boot s
merge_there w site zero e = refl
merge_there w site (suc t) e = by_range (range (suc t))
  where
    low : (n : ℕ) → 1 ≤ suc n
    low n = omega arith

    by_range : (suc t ≤ sites_max) ⊎ (sites_max < suc t) → views.boot_in (asked_by_merge w site).boot (suc t) ≡ views.boot_in (links_of w site).boot (suc t)
    by_range (inl le) = boot_there (merge_boot site (links_of w site)) (suc t) (low t) le ∙ ap (λ (b : Bool). cond b 0 (views.boot_in (links_of w site).boot (suc t))) e
    by_range (inr le) = boot_nowhere (merge_boot site (links_of w site)) (suc t) le ∙ sym (link_sized w site (suc t) le)

merge_asks : (w : World) (site s : ℕ) → reaches w site site ≡ true → (reaches w site s && true) ≡ is_asked site (asked_by_merge w site) s
merge_asks w site s itself =
    and_true_right (reaches w site s) ∙ (elim (s == site) as (λ b. (s == site) ≡ b → reaches w site s ≡ (b || not (views.boot_in (asked_by_merge w site).boot s == 0))) [
      | true ↦ λ e. ap (reaches w site) (equal s site e) ∙ itself
      | false ↦ λ e. ap (λ (n : ℕ). not (n == 0)) (sym (merge_there w site s e))
    ]) refl

-- the members that the site reaches in the boots that the list has
part_there : (w : World) (site s : ℕ) (m : Members) → (s == site) ≡ false → 1 ≤ s → s ≤ sites_max → views.boot_in (boots_where (part_boot site (links_of w site) m)).boot s ≡ cond (not (views.boot_in (links_of w site).boot s == boot_in m s)) 0 (boot_in m s)
part_there w site s m e low high = boot_there (part_boot site (links_of w site) m) s low high ∙ ap (λ (b : Bool). cond (b || not (views.boot_in (links_of w site).boot s == boot_in m s)) 0 (boot_in m s)) e

own_numbers : (l b r v : ℕ) → not (l == 0) ≡ true → b ≡ v → r ≡ v → 1 ≤ v → (not (l == 0) && (nat_lt 0 b && (b == r))) ≡ true
own_numbers l b r v e f g le = grind (arith, nat_tests)

numbers : (l b r : ℕ) → (l ≢ 0 → r ≡ l) → (not (l == 0) && (nat_lt 0 b && (b == r))) ≡ not (cond (not (l == b)) 0 b == 0)
numbers l b r f =
    (elim (l == 0) as (λ z. (l == 0) ≡ z → (not z && (nat_lt 0 b && (b == r))) ≡ not (cond (not (l == b)) 0 b == 0)) [
      | true ↦ λ e. nobody e
      | false ↦ λ e. somebody (f (λ z. differ z e))
    ]) refl
  where
    differ : l ≡ 0 → (l == 0) ≡ false → ⊥
    differ z e = grind (arith, nat_tests)

    same_zero : (l == 0) ≡ true → (l == b) ≡ true → false ≡ not (b == 0)
    same_zero e g = grind (arith, nat_tests)

    nobody : (l == 0) ≡ true → false ≡ not (cond (not (l == b)) 0 b == 0)
    nobody e = (elim (l == b) as (λ z. (l == b) ≡ z → false ≡ not (cond (not z) 0 b == 0)) [
      | true ↦ λ g. same_zero e g
      | false ↦ λ g. refl
    ]) refl

    both_same : r ≡ l → (l == b) ≡ true → (nat_lt 0 b && (b == r)) ≡ not (b == 0)
    both_same e g = grind (arith, nat_tests)

    apart : r ≡ l → (l == b) ≡ false → (nat_lt 0 b && (b == r)) ≡ false
    apart e g = grind (arith, nat_tests)

    somebody : r ≡ l → (nat_lt 0 b && (b == r)) ≡ not (cond (not (l == b)) 0 b == 0)
    somebody e = (elim (l == b) as (λ z. (l == b) ≡ z → (nat_lt 0 b && (b == r)) ≡ not (cond (not z) 0 b == 0)) [
      | true ↦ λ g. both_same e g
      | false ↦ λ g. apart e g
    ]) refl

-- by the boot that the records tell of a site
part_asks : (w : World) (site s r own : ℕ) (m : Members) → reaches w site site ≡ true → boot_in m site ≡ own → 1 ≤ own → (s ≡ site → r ≡ own) → (views.boot_in (links_of w site).boot s ≢ 0 → r ≡ views.boot_in (links_of w site).boot s) →
    (reaches w site s && (is_member m s && (boot_in m s == r))) ≡ is_asked site (boots_where (part_boot site (links_of w site) m)) s
part_asks w site s r own m itself mine booted here linked =
    (elim (s == site) as (λ b. (s == site) ≡ b → (reaches w site s && (is_member m s && (boot_in m s == r))) ≡ (b || not (views.boot_in (boots_where (part_boot site (links_of w site) m)).boot s == 0))) [
      | true ↦ λ e. own_numbers (views.boot_in (links_of w site).boot s) (boot_in m s) r own (ap (reaches w site) (equal s site e) ∙ itself) (ap (boot_in m) (equal s site e) ∙ mine) (here (equal s site e)) booted
      | false ↦ λ e. other s e linked
    ]) refl
  where
    low : (n : ℕ) → 1 ≤ suc n
    low n = omega arith

    other : (s : ℕ) → (s == site) ≡ false → (views.boot_in (links_of w site).boot s ≢ 0 → r ≡ views.boot_in (links_of w site).boot s) →
        (reaches w site s && (is_member m s && (boot_in m s == r))) ≡ not (views.boot_in (boots_where (part_boot site (links_of w site) m)).boot s == 0)
    other zero e f = refl
    other (suc t) e f = by_range (range (suc t))
      where
        by_range : (suc t ≤ sites_max) ⊎ (sites_max < suc t) → (reaches w site (suc t) && (is_member m (suc t) && (boot_in m (suc t) == r))) ≡ not (views.boot_in (boots_where (part_boot site (links_of w site) m)).boot (suc t) == 0)
        by_range (inl le) = numbers (views.boot_in (links_of w site).boot (suc t)) (boot_in m (suc t)) r f ∙ ap (λ (n : ℕ). not (n == 0)) (sym (part_there w site (suc t) m e (low t) le))
        by_range (inr le) = ap (λ (n : ℕ). not (n == 0) && (is_member m (suc t) && (boot_in m (suc t) == r))) (link_sized w site (suc t) le) ∙ ap (λ (n : ℕ). not (n == 0)) (sym (boot_nowhere (part_boot site (links_of w site) m) (suc t) le))

-- ---- a line by which a site starts ----

pub uncut : (lines : List ScheduleLine) → EachFits lines → (k : ℕ) → CutsNoSelf (take k lines)
uncut lines fits k = cuts_no_self (config_of lines) (take k lines) (take_fits (config_of lines).sites lines k fits)

-- a site that is linked runs in the boot that the link has, and the records tell that boot
linked_boot : (lines : List ScheduleLine) (k X s : ℕ) → views.boot_in (links_of (at lines k) X).boot s ≢ 0 → boot_of (trace_of (at lines k)) s ≡ views.boot_in (links_of (at lines k) X).boot s
linked_boot lines k X s some =
    let is : (views.boot_in (links_of (at lines k) X).boot s ≡ boot_at (at lines k) s) × (is_cut (at lines k) X s ≡ false) = link_boot (at lines k) X s some in
    let to : (v : SiteView) × (place_at (at lines k) s ≡ Some (Running v)) × (v.boot ≡ boot_at (at lines k) s) = runs (place_at (at lines k) s) (λ z. some (is.0 ∙ z)) in
    running_boot (config_of lines) (take k lines) s to.0 to.1 ∙ (to.2 ∙ sym is.0)

inside_view : (o : Option Place) → is_in_no_epoch o ≡ false → (v : SiteView) × (o ≡ Some (Running v)) × ((e : InEpoch) × (v.epoch ≡ Some e))
inside_view None h = absurd (true_false h)
inside_view (Some (Stopped d)) h = absurd (true_false h)
inside_view (Some (Running v)) h = (v, refl, by_epoch v.epoch h)
  where
    by_epoch : (o : Option InEpoch) → not (is_some o) ≡ false → (e : InEpoch) × (o ≡ Some e)
    by_epoch None h = absurd (true_false h)
    by_epoch (Some e) h = (e, refl)

part_line : (lines : List ScheduleLine) → EachFits lines → (k p s : ℕ) → reaches (at lines k) p p ≡ true → is_in_no_epoch (place_at (at lines k) p) ≡ false →
    (reaches (at lines k) p s && may_be_asked (EventLine (line.Part p)) (trace_of (at lines k)) s) ≡ is_asked p (asked_by_part (at lines k) p) s
part_line lines fits k p s itself inside =
    ap (λ (o : Option Members). reaches w p s && lists o s (boot_of (trace_of w) s)) (ap (members_with (trace_of w)) (running_epoch c ls p q.0 q.1 ∙ ap epoch_id q.2.1) ∙ list_told c ls p q.0 q.2.0 q.1 q.2.1)
    ∙ (part_asks w p s (boot_of (trace_of w) s) q.0.boot q.2.0.members itself (own_boot c ls (uncut lines fits k) p q.0 q.2.0 q.1 q.2.1) (booted_at lines k p q.0 q.1) (λ e. ap (boot_of (trace_of w)) e ∙ running_boot c ls p q.0 q.1) (linked_boot lines k p s)
    ∙ ap (λ (l : Links). is_asked p l s) (sym (ap (asked_at w p) q.1 ∙ ap (asked_inside w p) q.2.1)))
  where
    c : Config
    c = config_of lines

    ls : List ScheduleLine
    ls = take k lines

    w : World
    w = at lines k

    q : (v : SiteView) × (place_at (at lines k) p ≡ Some (Running v)) × ((e : InEpoch) × (v.epoch ≡ Some e))
    q = inside_view (place_at (at lines k) p) inside

asked_line : (lines : List ScheduleLine) → EachFits lines → (k site s : ℕ) (x : ScheduleLine) (P : Links) → reaches (at lines k) site site ≡ true → IsInBlock x (at lines k) → StartsBy x (at lines k) site P →
    (reaches (at lines k) site s && may_be_asked x (trace_of (at lines k)) s) ≡ is_asked site P s
asked_line lines fits k site s (EventLine (line.Part p)) P itself inside h =
    ap (λ (y : ℕ). reaches (at lines k) y s && may_be_asked (EventLine (line.Part p)) (trace_of (at lines k)) s) h.0
    ∙ (part_line lines fits k p s (ap (λ (y : ℕ). reaches (at lines k) y y) (sym h.0) ∙ itself) inside
    ∙ (ap (λ (y : ℕ). is_asked y (asked_by_part (at lines k) p) s) (sym h.0) ∙ ap (λ (l : Links). is_asked site l s) (sym h.1)))
asked_line lines fits k site s (EventLine (line.Merge p)) P itself inside h =
    merge_asks (at lines k) site s itself ∙ ap (λ (l : Links). is_asked site l s) (ap (asked_by_merge (at lines k)) h.0 ∙ sym h.1)
asked_line lines fits k site s _ P itself inside h = absurd h

-- what the line finds of the site that starts by it
pub record Starter (lines : List ScheduleLine) (k site : ℕ) (P : Links) : Type 0 where
  pub inside : IsInBlock (line_at lines (suc k)) (at lines k)
  pub starts : StartsBy (line_at lines (suc k)) (at lines k) site P
  pub low : 1 ≤ site
  pub high : site ≤ sites_max
  pub runs : boot_at (at lines k) site ≢ 0

pub polled_is : (lines : List ScheduleLine) → EachFits lines → IsCluster lines → (k site : ℕ) (P : Links) → Starter lines k site P → (s : ℕ) → is_polled lines (trace_of (run lines)) (suc k) site s ≡ is_asked site P s
polled_is lines fits few k site P h s =
    ap (λ (b : Bool). b && may_be_asked (line_at lines (suc k)) (before_line (trace_of (run lines)) (suc k)) s) (reach_is lines fits few k site s h.runs)
    ∙ (ap (λ (t : Trace). reaches (at lines k) site s && may_be_asked (line_at lines (suc k)) t s) (before_at (config_of lines) lines k)
    ∙ asked_line lines fits k site s (line_at lines (suc k)) P (reaches_itself lines fits k site h.low h.high h.runs) h.inside h.starts)

-- ---- whom it chooses ----

-- the same set, where what each of it reaches is the same
narrowed_same : (R S : ℕ → ℕ → Bool) (f g : ℕ → Bool) (xs : List ℕ) → ((s : ℕ) → f s ≡ g s) → ((x t : ℕ) → f x ≡ true → R x t ≡ S x t) → (s : ℕ) → narrowed R f xs s ≡ narrowed S g xs s
narrowed_same R S f g [] same reach s = same s
narrowed_same R S f g (x ∷ xs) same reach s =
    narrowed_same R S (λ t. f t && (not (f x) || R x t)) (λ t. g t && (not (g x) || S x t)) xs
    (λ t. left (f x) refl t ∙ right t)
    (λ y t a. reach y t (first (f y) (not (f x) || R x y) a)) s
  where
    first : (a b : Bool) → (a && b) ≡ true → a ≡ true
    first true b h = refl
    first false b h = h

    left : (b : Bool) → f x ≡ b → (t : ℕ) → (f t && (not (f x) || R x t)) ≡ (f t && (not (f x) || S x t))
    left true e t = ap (λ (z : Bool). f t && (not (f x) || z)) (reach x t e)
    left false e t = ap (λ (z : Bool). f t && (not z || R x t)) e ∙ ap (λ (z : Bool). f t && (not z || S x t)) (sym e)

    right : (t : ℕ) → (f t && (not (f x) || S x t)) ≡ (g t && (not (g x) || S x t))
    right t = ap (λ (z : Bool). z && (not (f x) || S x t)) (same t) ∙ ap (λ (z : Bool). g t && (not z || S x t)) (same x)

pub narrowed_within : (R : ℕ → ℕ → Bool) (f : ℕ → Bool) (xs : List ℕ) (s : ℕ) → narrowed R f xs s ≡ true → f s ≡ true
narrowed_within R f [] s h = h
narrowed_within R f (x ∷ xs) s h = first (f s) (not (f x) || R x s) (narrowed_within R (λ t. f t && (not (f x) || R x t)) xs s h)
  where
    first : (a b : Bool) → (a && b) ≡ true → a ≡ true
    first true b h = refl
    first false b h = h

pub polled_reached : (lines : List ScheduleLine) → EachFits lines → IsCluster lines → (k site s : ℕ) → is_polled lines (trace_of (run lines)) (suc k) site s ≡ true → (1 ≤ s) × (s ≤ (config_of lines).sites) × (boot_at (at lines k) s ≢ 0)
polled_reached lines fits few k site s h =
    (at_most 1 s (first (nat_le 1 s) (nat_le s (config_of lines).sites && lawful.reaches (config_of lines) (lawful.lines_before lines (suc k)) tr site s) reached), at_most s (config_of lines).sites (first (nat_le s (config_of lines).sites) (lawful.reaches (config_of lines) (lawful.lines_before lines (suc k)) tr site s) (second (nat_le 1 s) (nat_le s (config_of lines).sites && lawful.reaches (config_of lines) (lawful.lines_before lines (suc k)) tr site s) reached)), λ z. not_zero (views.boot_in (links_of (at lines k) site).boot s) (reach_back lines fits few k site s reached) (by_link z))
  where
    first : (a b : Bool) → (a && b) ≡ true → a ≡ true
    first true b h = refl
    first false b h = h

    second : (a b : Bool) → (a && b) ≡ true → b ≡ true
    second true b h = h
    second false b h = absurd (true_false (sym h))

    tr : Trace
    tr = before_line (trace_of (run lines)) (suc k)

    reached : is_reached lines (trace_of (run lines)) (suc k) site s ≡ true
    reached = first (is_reached lines (trace_of (run lines)) (suc k) site s) (may_be_asked (line_at lines (suc k)) tr s) h

    by_link : boot_at (at lines k) s ≡ 0 → views.boot_in (links_of (at lines k) site).boot s ≡ 0
    by_link z = (link_boot (at lines k) site s (not_zero (views.boot_in (links_of (at lines k) site).boot s) (reach_back lines fits few k site s reached))).0 ∙ z

pub chosen_is : (lines : List ScheduleLine) → EachFits lines → IsCluster lines → (k site : ℕ) (P : Links) → Starter lines k site P → (s : ℕ) → orderly.is_chosen lines (trace_of (run lines)) (suc k) site s ≡ is_chosen (at lines k) site P s
chosen_is lines fits few k site P h =
    narrowed_same (is_reached lines (trace_of (run lines)) (suc k)) (reaches (at lines k)) (is_polled lines (trace_of (run lines)) (suc k) site) (is_asked site P) all_sites (polled_is lines fits few k site P h)
    (λ x t a. reach_is lines fits few k x t (polled_reached lines fits few k site x a).2)
