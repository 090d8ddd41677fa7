-- From line to line of an orderly schedule: before each block all is quiet, and each block agrees.
use Rattle.std.proofs.Common.{◌≡◌, ℕ, zero, suc, ◌-◌, ◌≤◌, ◌<◌, ◌==◌, Bool, cond, not, List, take, Option, Some, None, refl, sym, ◌∙◌, ap, subst, ◌⊎◌, inl, inr, arith}
use Rattle.role_steps.proofs.of_plain_facts.Options.{none_some}
use Rattle.locus_ids.specs.declared.sites.Links.{Links}
use Rattle.locus_ids.specs.declared.config.Config.{Config}
use Rattle.schedule_lines.specs.Cluster.{config_of}
use Rattle.schedule_lines.specs.declared.line.Line.TheVariants as line
use Rattle.schedule_lines.specs.declared.line.ScheduleLine.{ScheduleLine}
use Rattle.schedule_lines.specs.declared.line.ScheduleLine.TheVariants.{Passed, Header, Event as EventLine}
use Rattle.tree_model.specs.Folds.{before_line}
use Rattle.lawful_trace.specs.Places.{line_at, starts_at, initiator}
use Rattle.lawful_trace.specs.Orderly.{IsBlock, IsOrderly, IsOrderlyLine}
use Rattle.the_run.specs.Worlds.{World}
use Rattle.the_run.specs.Runs.{acts_line, run}
use Rattle.row_laws.specs.Shown.{trace_of}
use Rattle.run_laws.proofs.Epochs.Run as known
use Rattle.lawful_trace.specs.Orderly.{narrowed}
use Rattle.role_steps.specs.Views.{boot_in, all_sites}
use Rattle.row_laws.specs.Orderly.Agreeing.{Agrees}
use Rattle.row_laws.specs.Orderly.Blocks.{StartsBy, StartsNobody}
use Rattle.row_laws.specs.Orderly.Settling.{reaches, is_asked, is_chosen, asked_boot}
use Rattle.row_laws.proofs.Orderly.Places.{links_same}
use Rattle.row_laws.specs.Orderly.Quiet.{IsQuiet}
use Rattle.row_laws.proofs.Orderly.Blocks.{first_quiet}
use Rattle.row_laws.proofs.Orderly.Quiet.{Still, act_still}
use Rattle.row_laws.specs.OrderlyRows.Fits.{EachFits}
use Rattle.row_laws.specs.OrderlyRows.Agreeing.{IsWithin, BlockAgrees, OrderlyBlocksAgree}
use Rattle.row_laws.proofs.OrderlyRows.Blocked.{Begins, line_starts_none, Unmoved}
use Rattle.row_laws.proofs.OrderlyRows.Closing.{Closes, Closed, closes, run_ascends, stretch}
use Rattle.row_laws.proofs.OrderlyRows.Spans.{next_world}
use Rattle.row_laws.proofs.OrderlyRows.Walk.{StartsLine, MayStand, at, starts_is, begins_at, unmoved_in}

-- ---- numbers and lines ----

abbrev Order : ℕ → ℕ → Type 0
Order a b = (a < b) ⊎ ((a ≡ b) ⊎ (b < a))

order : (a b : ℕ) → Order a b
order zero zero = inr (inl refl)
order zero (suc b) = inl (omega arith)
order (suc a) zero = inr (inr (omega arith))
order (suc a) (suc b) = up (order a b)
  where
    up : Order a b → Order (suc a) (suc b)
    up (inl e) = inl (omega (arith, e))
    up (inr (inl e)) = inr (inl (ap suc e))
    up (inr (inr e)) = inr (inr (omega (arith, e)))

pub is_passed : (x : ScheduleLine) → (x ≡ Passed) ⊎ (x ≡ Passed → ⊥)
is_passed Passed = inl refl
is_passed (Header h) = inr (λ e. cc)
is_passed (EventLine y) = inr (λ e. cc)

settle_passed : (most : ℕ) → EventLine (line.Settle most) ≡ Passed → ⊥
settle_passed most e = cc

-- nobody starts by a round
settle_starts : (lines : List ScheduleLine) (k most : ℕ) → line_at lines (suc k) ≡ EventLine (line.Settle most) → initiator lines (trace_of (run lines)) (suc k) ≡ None
settle_starts lines k most e = ap (λ (x : ScheduleLine). starts_at (config_of lines) x (before_line (trace_of (run lines)) (suc k))) e

settle_stands : (lines : List ScheduleLine) (k most : ℕ) → line_at lines (suc k) ≡ EventLine (line.Settle most) → MayStand lines k → ⊥
settle_stands lines k most e (inl p) = settle_passed most (sym e ∙ p)
settle_stands lines k most e (inr h) = none_some h.0 (sym (settle_starts lines k most e) ∙ h.1)

-- ---- a block ends at the first line that can't stand in it ----

record Ends (lines : List ScheduleLine) (b k : ℕ) : Type 0 where
  low : b ≤ k
  inside : (i : ℕ) → b ≤ i → i < k → MayStand lines i
  first : ℕ
  starts : StartsLine lines b first
  some : b < k
  nobody : initiator lines (trace_of (run lines)) (suc k) ≡ None
  whole : line_at lines (suc k) ≡ Passed → ⊥
  orderly : (i s : ℕ) → b ≤ i → i < k → StartsLine lines i s → (settle : ℕ) × IsOrderlyLine lines (trace_of (run lines)) (suc i) s settle

ends_at : (lines : List ScheduleLine) (b k i s settle : ℕ) → Ends lines b k → b ≤ i → i < k → IsOrderlyLine lines (trace_of (run lines)) (suc i) s settle → settle ≡ suc k
ends_at lines b k i s zero h low high o = absurd (let f : suc i < 0 = o.block.order in omega (arith, f))
ends_at lines b k i s (suc q) h low high o = by_order (order q k)
  where
    after : suc i < suc q
    after = o.block.order

    here : (line_at lines (suc k) ≡ Passed) ⊎ ((site : ℕ) × (initiator lines (trace_of (run lines)) (suc k) ≡ Some site)) → suc q ≡ suc k
    here (inl e) = absurd (h.whole e)
    here (inr e) = absurd (none_some e.0 (sym h.nobody ∙ e.1))

    by_order : Order q k → suc q ≡ suc k
    by_order (inl less) = absurd (settle_stands lines q o.block.most o.block.settles (h.inside q (omega (arith, low, after)) less))
    by_order (inr (inl e)) = ap suc e
    by_order (inr (inr more)) = here (o.block.only (suc k) (omega (arith, high)) (omega (arith, more)))

closes_of : (lines : List ScheduleLine) (b k : ℕ) → Ends lines b k → Closes lines b k
closes_of lines b k h = record {
  low = h.low;
  inside = h.inside;
  most = whole.block.most;
  settles = whole.block.settles;
  unbroken = whole.block.unbroken;
  apart = λ i j X Y low less high x y. (of i X low (omega (arith, less, high)) x).apart (suc j) Y (omega (arith, less)) (omega (arith, high)) y;
}
  where
    of : (i s : ℕ) → b ≤ i → i < k → StartsLine lines i s → IsOrderlyLine lines (trace_of (run lines)) (suc i) s (suc k)
    of i s low high x = (let o : (settle : ℕ) × IsOrderlyLine lines (trace_of (run lines)) (suc i) s settle = h.orderly i s low high x in
        subst (IsOrderlyLine lines (trace_of (run lines)) (suc i) s) (ends_at lines b k i s o.0 h low high o.1) o.1)

    whole : IsOrderlyLine lines (trace_of (run lines)) (suc b) h.first (suc k)
    whole = of b h.first (omega arith) h.some h.starts

-- ---- the state before each line ----

-- all was quiet before line b + 1, which starts a site, and the lines since are of its block; or all is quiet now
pub record State (lines : List ScheduleLine) (k : ℕ) : Type 0 where
  pub b : ℕ
  pub le : b ≤ k
  pub quiet : IsQuiet (at lines b)
  pub inside : (i : ℕ) → b ≤ i → i < k → MayStand lines i
  pub first : (b ≡ k) ⊎ ((s : ℕ) × StartsLine lines b s)

quiet_state : (lines : List ScheduleLine) (k : ℕ) → IsQuiet (at lines k) → State lines k
quiet_state lines k h = record { b = k; le = omega arith; quiet = h; inside = λ i low high. absurd (omega (arith, low, high)); first = inl refl }

-- one more line that may stand in the block
more : (lines : List ScheduleLine) (b k : ℕ) → MayStand lines k → ((i : ℕ) → b ≤ i → i < k → MayStand lines i) → (i : ℕ) → b ≤ i → i < suc k → MayStand lines i
more lines b k x h i low high = by_order (order i k)
  where
    by_order : Order i k → MayStand lines i
    by_order (inl less) = h i low less
    by_order (inr (inl e)) = subst (MayStand lines) (sym e) x
    by_order (inr (inr beyond)) = absurd (omega (arith, high, beyond))

line_still : (c : Config) (n : ℕ) (x : ScheduleLine) (w : World) → StartsNobody x w → Still w → Still (acts_line c n x w)
line_still c n Passed w none h = h
line_still c n (Header y) w none h = h
line_still c n (EventLine y) w none h = act_still c n y w none h

-- a line by which nobody starts, while all is quiet
still_next : (lines : List ScheduleLine) (k : ℕ) → initiator lines (trace_of (run lines)) (suc k) ≡ None → IsQuiet (at lines k) → IsQuiet (at lines (suc k))
still_next lines k none quiet =
    let c : Config = config_of lines in
    subst IsQuiet (sym (next_world c lines k))
    (line_still c (suc k) (line_at lines (suc k)) (at lines k) (line_starts_none c (take k lines) (line_at lines (suc k)) (sym (starts_is lines k) ∙ none)) (record { good = known.run_good c (take k lines); ascend = run_ascends c (take k lines); quiet = quiet })).quiet

abbrev pub Orderly : List ScheduleLine → ℕ → Type 0
Orderly lines last = IsOrderly lines (trace_of (run lines)) last

-- the block that the next line ends
pub closing : (lines : List ScheduleLine) (last k : ℕ) → Orderly lines last → suc k ≤ last → (st : State lines k) → initiator lines (trace_of (run lines)) (suc k) ≡ None → (line_at lines (suc k) ≡ Passed → ⊥) → (t : ℕ) × StartsLine lines st.b t → Closes lines st.b k
closing lines last k orderly le st none p y = closes_of lines st.b k (record {
  low = low;
  inside = st.inside;
  first = y.0;
  starts = y.1;
  some = below (order st.b k);
  nobody = none;
  whole = p;
  orderly = λ i s a z x. (let o : (settle : ℕ) × (settle ≤ last) × IsOrderlyLine lines (trace_of (run lines)) (suc i) s settle = orderly (suc i) s (omega (arith, z, le)) x in (o.0, o.2));
})
  where
    low : st.b ≤ k
    low = st.le

    below : Order st.b k → st.b < k
    below (inl less) = less
    below (inr (inl e)) = absurd (none_some y.0 (sym (subst (λ (j : ℕ). initiator lines (trace_of (run lines)) (suc j) ≡ None) (sym e) none) ∙ y.1))
    below (inr (inr beyond)) = absurd (omega (arith, low, beyond))

next_state : (lines : List ScheduleLine) (last k : ℕ) → EachFits lines → IsWithin lines → Orderly lines last → suc k ≤ last → State lines k → State lines (suc k)
next_state lines last k fits within orderly le st = by_starter (initiator lines (trace_of (run lines)) (suc k)) refl
  where
    low : st.b ≤ k
    low = st.le

    started : (s : ℕ) → StartsLine lines k s → (st.b ≡ k) ⊎ ((t : ℕ) × StartsLine lines st.b t) → (t : ℕ) × StartsLine lines st.b t
    started s x (inl e) = (s, subst (λ (j : ℕ). StartsLine lines j s) (sym e) x)
    started s x (inr y) = y

    by_first : initiator lines (trace_of (run lines)) (suc k) ≡ None → (line_at lines (suc k) ≡ Passed) ⊎ (line_at lines (suc k) ≡ Passed → ⊥) → (st.b ≡ k) ⊎ ((t : ℕ) × StartsLine lines st.b t) → State lines (suc k)
    by_first none p (inl e) = quiet_state lines (suc k) (still_next lines k none (subst (λ (j : ℕ). IsQuiet (at lines j)) e st.quiet))
    by_first none (inl p) (inr y) = record { b = st.b; le = omega (arith, low); quiet = st.quiet; inside = more lines st.b k (inl p) st.inside; first = inr y }
    by_first none (inr p) (inr y) = quiet_state lines (suc k) (closes lines st.b k fits within st.quiet (closing lines last k orderly le st none p y)).quiet

    by_starter : (o : Option ℕ) → initiator lines (trace_of (run lines)) (suc k) ≡ o → State lines (suc k)
    by_starter (Some s) e = record { b = st.b; le = omega (arith, low); quiet = st.quiet; inside = more lines st.b k (inr (s, e)) st.inside; first = inr (started s e st.first) }
    by_starter None e = by_first e (is_passed (line_at lines (suc k))) st.first

pub walk : (lines : List ScheduleLine) (last k : ℕ) → EachFits lines → IsWithin lines → Orderly lines last → k ≤ last → State lines k
walk lines last zero fits within orderly le = quiet_state lines 0 (first_quiet (config_of lines))
walk lines last (suc k) fits within orderly le = next_state lines last k fits within orderly le (walk lines last k fits within orderly (omega (arith, le)))

-- ---- the law ----

-- no circuit and no boot changes in the block, so what the line finds is what the block's first line found
agrees_same : (first w now : World) (site : ℕ) (P : Links) → Unmoved first w → Agrees first now site P → Agrees w now site P
agrees_same first w now site P u h = record {
  epoch = h.epoch;
  own = h.own;
  exactly = λ s low high. h.exactly s low high ∙ (ap (λ (z : Bool). cond z (asked_boot first site P s) 0) (sym (chosen s)) ∙ ap (λ (z : ℕ). cond (is_chosen w site P s) z 0) (sym (boots s)));
  itself = h.itself;
  members = λ s some z. h.members s some (sym (chosen s) ∙ z);
  others = λ s some z. h.others s some (sym (chosen s) ∙ z);
}
  where
    reach : reaches w ≡ reaches first
    reach = λ j s t. not (boot_in ((links_same first w s u.boots u.circuits) j).boot t == 0)

    chosen : (s : ℕ) → is_chosen w site P s ≡ is_chosen first site P s
    chosen s = ap (λ (r : ℕ → ℕ → Bool). narrowed r (is_asked site P) all_sites s) reach

    boots : (s : ℕ) → asked_boot w site P s ≡ asked_boot first site P s
    boots s = ap (λ (z : ℕ). cond (s == site) z (boot_in P.boot s)) (u.boots site)

agrees_at : (lines : List ScheduleLine) (i site m : ℕ) → EachFits lines → IsWithin lines → StartsLine lines i site → IsBlock lines (trace_of (run lines)) (suc i) (suc m) → Orderly lines (suc m) → BlockAgrees lines (suc i) site (suc m)
agrees_at lines i site m fits within starts block orderly = record {
  polled = k.polled;
  starts = subst (λ (j : ℕ). StartsBy (line_at lines (suc i)) (at lines j) site k.polled) {x = i} {y = suc i - 1} (omega arith) k.starts;
  agrees = subst (λ (j : ℕ). Agrees (at lines j) (at lines (suc m)) site k.polled) {x = i} {y = suc i - 1} (omega arith)
      (agrees_same (at lines st.b) (at lines i) (at lines (suc m)) site k.polled (unmoved_in (config_of lines) lines st.b i m low (omega (arith, high)) (stretch lines st.b m fits closing)) (closed.agrees i site k.polled low high k.starts));
  quiet = closed.quiet;
}
  where
    high : i < m
    high = (let f : suc i < suc m = block.order in omega (arith, f))

    st : State lines i
    st = walk lines (suc m) i fits within orderly (omega (arith, high))

    low : st.b ≤ i
    low = st.le

    k : Begins (line_at lines (suc i)) (at lines i) site
    k = begins_at lines fits i site starts

    started : (st.b ≡ i) ⊎ ((t : ℕ) × StartsLine lines st.b t) → (t : ℕ) × StartsLine lines st.b t
    started (inl e) = (site, subst (λ (j : ℕ). StartsLine lines j site) (sym e) starts)
    started (inr y) = y

    inside : (q : ℕ) → st.b ≤ q → q < m → MayStand lines q
    inside q a z = by_order (order i q)
      where
        by_order : Order i q → MayStand lines q
        by_order (inl less) = block.only (suc q) (omega (arith, less)) (omega (arith, z))
        by_order (inr (inl e)) = inr (site, subst (λ (j : ℕ). StartsLine lines j site) e starts)
        by_order (inr (inr beyond)) = st.inside q a beyond

    closing : Closes lines st.b m
    closing = closes_of lines st.b m (record {
      low = omega (arith, low, high);
      inside = inside;
      first = (started st.first).0;
      starts = (started st.first).1;
      some = omega (arith, low, high);
      nobody = settle_starts lines m block.most block.settles;
      whole = λ e. settle_passed block.most (sym block.settles ∙ e);
      orderly = λ j s a z x. (let o : (settle : ℕ) × (settle ≤ suc m) × IsOrderlyLine lines (trace_of (run lines)) (suc j) s settle = orderly (suc j) s (omega (arith, z)) x in (o.0, o.2));
    })

    closed : Closed lines st.b m
    closed = closes lines st.b m fits within st.quiet closing

pub orderly_blocks_agree : (lines : List ScheduleLine) → EachFits lines → IsWithin lines → OrderlyBlocksAgree lines
orderly_blocks_agree lines fits within zero site settle h block orderly = absurd (none_some site h)
orderly_blocks_agree lines fits within (suc i) site zero h block orderly = absurd (let f : suc i < 0 = block.order in omega (arith, f))
orderly_blocks_agree lines fits within (suc i) site (suc m) h block orderly = agrees_at lines i site m fits within h block orderly
