-- From block to block of an orderly schedule: all is quiet before each block, and each forms its epochs.
use Rattle.std.proofs.Common.{◌≡◌, ◌≢◌, ℕ, zero, suc, ◌+◌, ◌-◌, ◌≤◌, ◌<◌, ◌==◌, nat_le, Bool, true, false, cond, not, ◌&&◌, ◌||◌, List, take, Some, refl, sym, ◌∙◌, ap, subst, ◌⊎◌, inl, inr, arith}
use Rattle.std.proofs.lemmas.Bool.Decides.{nat_tests}
use Rattle.role_steps.proofs.of_plain_facts.Numbers.{not_zero, not_zero_test}
use Rattle.locus_ids.specs.declared.sites.Links.{Links}
use Rattle.locus_ids.specs.declared.config.Config.{Config}
use Rattle.locus_ids.specs.Sizes.{sites_max}
use Rattle.schedule_lines.specs.Cluster.{config_of}
use Rattle.schedule_lines.specs.Ranges.{is_site}
use Rattle.schedule_lines.specs.declared.line.ScheduleLine.{ScheduleLine}
use Rattle.schedule_lines.specs.declared.line.ScheduleLine.TheVariants.{Passed}
use Rattle.role_steps.specs.Views.{SiteView, boot_in}
use Rattle.tree_model.specs.Folds.{Trace, before_line}
use Rattle.tree_model.specs.Epochs.{is_up}
use Rattle.lawful_trace.specs.Places.{line_at, starts_at, initiator}
use Rattle.lawful_trace.specs.Places as lawful
use Rattle.lawful_trace.specs.Orderly.{is_reached}
use Rattle.the_run.specs.Worlds.{World, Running, place_at, boot_of, is_cut, link_of, links_of}
use Rattle.the_run.specs.Runs.{acts_line, run}
use Rattle.row_laws.specs.Shown.{trace_of}
use Rattle.run_laws.proofs.Epochs.Boots.{boot_there}
use Rattle.run_laws.proofs.Epochs.Run as known
use Rattle.row_laws.specs.Orderly.Blocks.{StartsBy, IsInBlock, starts_of, StandApart, AreLinesApart}
use Rattle.row_laws.specs.Orderly.Blocks as blocks
use Rattle.row_laws.specs.Orderly.Settling.{boot_at, reaches}
use Rattle.row_laws.proofs.Orderly.Places.{runs, links_same, link_boot}
use Rattle.row_laws.specs.OrderlyRows.Fits.{EachFits}
use Rattle.row_laws.proofs.OrderlyRows.Blocked.{Begins, line_begins, starts_same, starter_runs, site_there, Unmoved, unmoved, unmoved_then, line_unmoved}
use Rattle.row_laws.proofs.OrderlyRows.Circuits.{line_fits, take_fits, cut_is, self_uncut}
use Rattle.row_laws.proofs.OrderlyRows.Placed.{place_within}
use Rattle.row_laws.proofs.OrderlyRows.Reached.{running_up}
use Rattle.row_laws.proofs.OrderlyRows.Spans.{world, next_world, span, one_more, before_at}

-- ---- a stretch of lines, each of a block ----

-- lines b + 1 to e are such
abbrev pub Inside : Config → List ScheduleLine → ℕ → ℕ → Type 0
Inside c lines b e = (i : ℕ) → b ≤ i → i < e → IsInBlock (line_at lines (suc i)) (world c lines i)

next_is : (c : Config) (lines : List ScheduleLine) (k : ℕ) (P : World → Type 0) → P (acts_line c (suc k) (line_at lines (suc k)) (world c lines k)) → P (world c lines (suc k))
next_is c lines k P = subst P (sym (next_world c lines k))

is_next : (c : Config) (lines : List ScheduleLine) (k : ℕ) (P : World → Type 0) → P (world c lines (suc k)) → P (acts_line c (suc k) (line_at lines (suc k)) (world c lines k))
is_next c lines k P = subst P (next_world c lines k)

span_unmoved : (c : Config) (lines : List ScheduleLine) (b j : ℕ) → Inside c lines b (b + j) → Unmoved (world c lines b) (world c lines (b + j))
span_unmoved c lines b zero h = subst (λ (k : ℕ). Unmoved (world c lines b) (world c lines k)) {x = b} {y = b + 0} (omega arith) (unmoved (world c lines b))
span_unmoved c lines b (suc j) h =
    subst (λ (k : ℕ). Unmoved (world c lines b) (world c lines k)) {x = suc (b + j)} {y = b + suc j} (omega arith)
    (unmoved_then (world c lines b) (world c lines (b + j)) (world c lines (suc (b + j))) (span_unmoved c lines b j (λ i low high. h i low (omega (arith, high))))
    (next_is c lines (b + j) (Unmoved (world c lines (b + j))) (line_unmoved c (suc (b + j)) (line_at lines (suc (b + j))) (world c lines (b + j)) (λ s v here. ((known.run_good c (take (b + j) lines)).views s v here).tables) (h (b + j) (omega arith) (omega arith)))))

-- between any two worlds of it
pub unmoved_in : (c : Config) (lines : List ScheduleLine) (b i e : ℕ) → b ≤ i → i ≤ e → Inside c lines b e → Unmoved (world c lines b) (world c lines i)
unmoved_in c lines b i e low high h =
    let eq : b + (i - b) ≡ i = omega (arith, low) in
    subst (λ (k : ℕ). Unmoved (world c lines b) (world c lines k)) eq (span_unmoved c lines b (i - b) (λ k a z. h k a (omega (arith, z, low, high))))

pub span_block : (c : Config) (lines : List ScheduleLine) (b j e : ℕ) → b + j ≤ e → Inside c lines b e → blocks.IsBlock c (suc b) (span lines b j) (world c lines b)
span_block c lines b zero e le h = tt
span_block c lines b (suc j) e le h = (h b (omega arith) (omega (arith, le)), is_next c lines b (λ w. blocks.IsBlock c (suc b + 1) (span lines (suc b) j) w) (subst (λ (n : ℕ). blocks.IsBlock c n (span lines (suc b) j) (world c lines (suc b))) (sym (one_more (suc b))) (span_block c lines (suc b) j e (omega (arith, le)) (λ i low high. h i (omega (arith, low)) high))))

-- a start of the stretch is of one of its lines
pub record StartsIn (c : Config) (lines : List ScheduleLine) (b e X : ℕ) (P : Links) : Type 0 where
  pub line : ℕ
  pub from : b ≤ line
  pub to : line < e
  pub starts : StartsBy (line_at lines (suc line)) (world c lines line) X P

pub starts_in : (c : Config) (lines : List ScheduleLine) (b j e X : ℕ) (P : Links) → b + j ≤ e → starts_of c (suc b) (span lines b j) (world c lines b) X P → StartsIn c lines b e X P
starts_in c lines b zero e X P le h = absurd h
starts_in c lines b (suc j) e X P le (inl h) = record { line = b; from = omega arith; to = omega (arith, le); starts = h }
starts_in c lines b (suc j) e X P le (inr h) =
    let k : StartsIn c lines (suc b) e X P = starts_in c lines (suc b) j e X P (omega (arith, le)) (subst (λ (n : ℕ). starts_of c n (span lines (suc b) j) (world c lines (suc b)) X P) (one_more (suc b)) (next_is c lines b (λ w. starts_of c (suc b + 1) (span lines (suc b) j) w X P) h)) in
    record { line = k.line; from = (let f : suc b ≤ k.line = k.from in omega (arith, f)); to = k.to; starts = k.starts }

pub in_starts : (c : Config) (lines : List ScheduleLine) (b j i X : ℕ) (P : Links) → b ≤ i → i < b + j → StartsBy (line_at lines (suc i)) (world c lines i) X P → starts_of c (suc b) (span lines b j) (world c lines b) X P
in_starts c lines b zero i X P low high h = absurd (omega (arith, low, high))
in_starts c lines b (suc j) i X P low high h = by_order (λ le. in_starts c lines (suc b) j i X P le (omega (arith, high)) h) (at_or_later b i low)
  where
    at_or_later : (a d : ℕ) → a ≤ d → (d ≡ a) ⊎ (suc a ≤ d)
    at_or_later zero zero le = inl refl
    at_or_later zero (suc d) le = inr (omega arith)
    at_or_later (suc a) zero le = absurd (omega (arith, le))
    at_or_later (suc a) (suc d) le = up (at_or_later a d (omega (arith, le)))
      where
        up : (d ≡ a) ⊎ (suc a ≤ d) → (suc d ≡ suc a) ⊎ (suc (suc a) ≤ suc d)
        up (inl e) = inl (ap suc e)
        up (inr e) = inr (omega (arith, e))

    by_order : (suc b ≤ i → starts_of c (suc (suc b)) (span lines (suc b) j) (world c lines (suc b)) X P) → (i ≡ b) ⊎ (suc b ≤ i) → starts_of c (suc b) (span lines b (suc j)) (world c lines b) X P
    by_order f (inl e) = inl (subst (λ (k : ℕ). StartsBy (line_at lines (suc k)) (world c lines k) X P) e h)
    by_order f (inr le) = inr (is_next c lines b (λ w. starts_of c (suc b + 1) (span lines (suc b) j) w X P) (subst (λ (n : ℕ). starts_of c n (span lines (suc b) j) (world c lines (suc b)) X P) (sym (one_more (suc b))) (f le)))

-- ---- apart ----

-- what any two starts of the stretch have
pub record Apart (c : Config) (lines : List ScheduleLine) (b e : ℕ) : Type 0 where
  pub itself : (i X : ℕ) (P : Links) → b ≤ i → i < e → StartsBy (line_at lines (suc i)) (world c lines i) X P → reaches (world c lines b) X X ≡ true
  pub differ : (i k X Y : ℕ) (P L : Links) → b ≤ i → i < k → k < e → StartsBy (line_at lines (suc i)) (world c lines i) X P → StartsBy (line_at lines (suc k)) (world c lines k) Y L → X ≡ Y → ⊥
  pub apart : (i k X Y : ℕ) (P L : Links) (t : ℕ) → b ≤ i → i < k → k < e → StartsBy (line_at lines (suc i)) (world c lines i) X P → StartsBy (line_at lines (suc k)) (world c lines k) Y L → reaches (world c lines b) X t ≡ true → reaches (world c lines b) Y t ≡ true → ⊥

pub span_apart : (c : Config) (lines : List ScheduleLine) (first b j e : ℕ) → first ≤ b → b + j ≤ e → Apart c lines first e → AreLinesApart (world c lines first) c (suc b) (span lines b j) (world c lines b)
span_apart c lines first b zero e low le h = tt
span_apart c lines first b (suc j) e low le h = pairs (span_apart c lines first (suc b) j e (omega (arith, low)) (omega (arith, le)) h)
  where
    found : (Y : ℕ) (L : Links) → starts_of c (suc (suc b)) (span lines (suc b) j) (world c lines (suc b)) Y L → StartsIn c lines (suc b) e Y L
    found Y L q = starts_in c lines (suc b) j e Y L (omega (arith, le)) q

    here : StandApart (world c lines first) (StartsBy (line_at lines (suc b)) (world c lines b)) (starts_of c (suc (suc b)) (span lines (suc b) j) (world c lines (suc b)))
    here = record {
      itself = λ X P r. h.itself b X P low (omega (arith, le)) r;
      differ = λ X P Y L r q. (let k : StartsIn c lines (suc b) e Y L = found Y L q in h.differ b k.line X Y P L low k.from k.to r k.starts);
      apart = λ X P Y L t r q. (let k : StartsIn c lines (suc b) e Y L = found Y L q in h.apart b k.line X Y P L t low k.from k.to r k.starts);
    }

    pairs : AreLinesApart (world c lines first) c (suc (suc b)) (span lines (suc b) j) (world c lines (suc b)) → AreLinesApart (world c lines first) c (suc b) (span lines b (suc j)) (world c lines b)
    pairs rest = (is_next c lines b (λ w. StandApart (world c lines first) (StartsBy (line_at lines (suc b)) (world c lines b)) (starts_of c (suc b + 1) (span lines (suc b) j) w)) (subst (λ (n : ℕ). StandApart (world c lines first) (StartsBy (line_at lines (suc b)) (world c lines b)) (starts_of c n (span lines (suc b) j) (world c lines (suc b)))) (sym (one_more (suc b))) here), is_next c lines b (λ w. AreLinesApart (world c lines first) c (suc b + 1) (span lines (suc b) j) w) (subst (λ (n : ℕ). AreLinesApart (world c lines first) c n (span lines (suc b) j) (world c lines (suc b))) (sym (one_more (suc b))) rest))

-- ---- lines by their records ----

-- the line with the next number starts this site
abbrev pub StartsLine : List ScheduleLine → ℕ → ℕ → Type 0
StartsLine lines i s = initiator lines (trace_of (run lines)) (suc i) ≡ Some s

abbrev pub MayStand : List ScheduleLine → ℕ → Type 0
MayStand lines i = (line_at lines (suc i) ≡ Passed) ⊎ ((s : ℕ) × StartsLine lines i s)

abbrev pub at : List ScheduleLine → ℕ → World
at lines k = world (config_of lines) lines k

pub starts_is : (lines : List ScheduleLine) (i : ℕ) → initiator lines (trace_of (run lines)) (suc i) ≡ starts_at (config_of lines) (line_at lines (suc i)) (trace_of (at lines i))
starts_is lines i = ap (starts_at (config_of lines) (line_at lines (suc i))) (before_at (config_of lines) lines i)

pub begins_at : (lines : List ScheduleLine) → EachFits lines → (i s : ℕ) → StartsLine lines i s → Begins (line_at lines (suc i)) (at lines i) s
begins_at lines fits i s h = line_begins (config_of lines) (take i lines) (line_at lines (suc i)) s (line_fits (config_of lines).sites lines i fits) (sym (starts_is lines i) ∙ h)

pub stands_in : (lines : List ScheduleLine) → EachFits lines → (i : ℕ) → MayStand lines i → IsInBlock (line_at lines (suc i)) (at lines i)
stands_in lines fits i (inl e) = subst (λ (x : ScheduleLine). IsInBlock x (at lines i)) (sym e) tt
stands_in lines fits i (inr h) = (begins_at lines fits i h.0 h.1).inside

-- who starts by it is its initiator
pub starter_is : (lines : List ScheduleLine) → EachFits lines → (i X : ℕ) (P : Links) → MayStand lines i → StartsBy (line_at lines (suc i)) (at lines i) X P → StartsLine lines i X
starter_is lines fits i X P (inl e) r = absurd (subst (λ (x : ScheduleLine). StartsBy x (at lines i) X P) e r)
starter_is lines fits i X P (inr h) r =
    let k : Begins (line_at lines (suc i)) (at lines i) h.0 = begins_at lines fits i h.0 h.1 in
    h.1 ∙ ap Some (starts_same (line_at lines (suc i)) (at lines i) h.0 X k.polled P k.starts r)

-- ---- whom a site reaches ----

-- a starter of the stretch runs in each world of it
pub starter_boot : (lines : List ScheduleLine) → EachFits lines → (b e i k X : ℕ) (P : Links) → b ≤ i → i < e → b ≤ k → k ≤ e → Inside (config_of lines) lines b e → StartsBy (line_at lines (suc i)) (at lines i) X P → boot_at (at lines k) X ≢ 0
starter_boot lines fits b e i k X P low high l m h r =
    let c : Config = config_of lines in
    let u : (is_site c.sites X ≡ true) × ((v : SiteView) × (place_at (at lines i) X ≡ Some (Running v))) = starter_runs (line_at lines (suc i)) (at lines i) c.sites X P (line_fits c.sites lines i fits) (h i low high) r in
    let booted : 1 ≤ u.1.0.boot = ((known.run_good c (take i lines)).views X u.1.0 u.1.1).booted in
    let same : boot_at (at lines k) X ≡ u.1.0.boot = (unmoved_in c lines b k e l m h).boots X ∙ (sym ((unmoved_in c lines b i e low (omega (arith, high)) h).boots X) ∙ ap boot_of u.1.1) in
    λ z. above (boot_at (at lines k) X) u.1.0.boot same booted z
  where
    above : (p q : ℕ) → p ≡ q → 1 ≤ q → p ≡ 0 → ⊥
    above p q e le z = omega (arith, e, le, z)

pub starter_site : (lines : List ScheduleLine) → EachFits lines → (i X : ℕ) (P : Links) → IsInBlock (line_at lines (suc i)) (at lines i) → StartsBy (line_at lines (suc i)) (at lines i) X P → (1 ≤ X) × ((X ≤ sites_max) × (X ≤ (config_of lines).sites))
starter_site lines fits i X P h r = site_there (config_of lines).sites X (starter_runs (line_at lines (suc i)) (at lines i) (config_of lines).sites X P (line_fits (config_of lines).sites lines i fits) h r).0

pub reaches_itself : (lines : List ScheduleLine) → EachFits lines → (k X : ℕ) → 1 ≤ X → X ≤ sites_max → boot_at (at lines k) X ≢ 0 → reaches (at lines k) X X ≡ true
reaches_itself lines fits k X low high some =
    let c : Config = config_of lines in
    let whole : is_cut (at lines k) X X ≡ false = self_uncut c (take k lines) (take_fits c.sites lines k fits) X in
    let link : boot_in (links_of (at lines k) X).boot X ≡ boot_at (at lines k) X = boot_there (link_of (at lines k) X) X low high ∙ ap (λ (b : Bool). cond b 0 (boot_at (at lines k) X)) whole in
    not_zero_test (boot_in (links_of (at lines k) X).boot X) (λ z. some (sym link ∙ z))

all_true : (a b x y p q : Bool) → a ≡ true → b ≡ true → x ≡ true → y ≡ true → q ≡ false → (a && (b && (x && y && (p || not q)))) ≡ true
all_true false b x y p q ea eb ex ey eq = absurd (cc)
all_true true false x y p q ea eb ex ey eq = absurd (cc)
all_true true true false y p q ea eb ex ey eq = absurd (cc)
all_true true true true false p q ea eb ex ey eq = absurd (cc)
all_true true true true true p true ea eb ex ey eq = absurd (cc)
all_true true true true true true false ea eb ex ey eq = refl
all_true true true true true false false ea eb ex ey eq = refl

site_low : (w : World) (X t : ℕ) → boot_in (links_of w X).boot t ≢ 0 → 1 ≤ t
site_low w X zero h = absurd (h refl)
site_low w X (suc t) h = omega arith

-- told by the records: at the line after k
pub is_reached_at : (lines : List ScheduleLine) → EachFits lines → (k X t : ℕ) → boot_at (at lines k) X ≢ 0 → reaches (at lines k) X t ≡ true → is_reached lines (trace_of (run lines)) (suc k) X t ≡ true
is_reached_at lines fits k X t some h =
    let c : Config = config_of lines in
    let w : World = at lines k in
    let link : boot_in (links_of w X).boot t ≢ 0 = not_zero (boot_in (links_of w X).boot t) h in
    let is : (boot_in (links_of w X).boot t ≡ boot_at w t) × (is_cut w X t ≡ false) = link_boot w X t link in
    let from : (v : SiteView) × (place_at w X ≡ Some (Running v)) × (v.boot ≡ boot_at w X) = runs (place_at w X) some in
    let to : (v : SiteView) × (place_at w t ≡ Some (Running v)) × (v.boot ≡ boot_at w t) = runs (place_at w t) (λ z. link (is.0 ∙ z)) in
    let low : 1 ≤ t = site_low w X t link in
    let high : t ≤ c.sites = place_within c (take k lines) t (Running to.0) to.1 in
    all_true (nat_le 1 t) (nat_le t c.sites) (is_up (config_of lines) (before_line (trace_of (run lines)) (suc k)) X) (is_up (config_of lines) (before_line (trace_of (run lines)) (suc k)) t) (X == t) (lawful.is_cut (take (suc k - 1) lines) X t)
    (at_most 1 t low) (at_most t c.sites high)
    (ap (λ (z : Trace). is_up (config_of lines) z X) (before_at c lines k) ∙ running_up c (take k lines) X from.0 from.1)
    (ap (λ (z : Trace). is_up (config_of lines) z t) (before_at c lines k) ∙ running_up c (take k lines) t to.0 to.1)
    (ap (λ (j : ℕ). lawful.is_cut (take j lines) X t) {x = suc k - 1} {y = k} (omega arith) ∙ (sym (cut_is c (take k lines) (take_fits c.sites lines k fits) X t) ∙ is.1))
  where
    at_most : (a b : ℕ) → a ≤ b → nat_le a b ≡ true
    at_most a b le = grind (arith, nat_tests)

-- the same in each world of the stretch
pub reaches_same : (lines : List ScheduleLine) (b k e X t : ℕ) → b ≤ k → k ≤ e → Inside (config_of lines) lines b e → reaches (at lines b) X t ≡ true → reaches (at lines k) X t ≡ true
reaches_same lines b k e X t low high h r =
    let u : Unmoved (at lines b) (at lines k) = unmoved_in (config_of lines) lines b k e low high h in
    ap (λ (l : Links). not (boot_in l.boot t == 0)) (links_same (at lines b) (at lines k) X u.boots u.circuits) ∙ r
