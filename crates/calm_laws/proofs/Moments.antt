-- The moments of a round by its records: the records of each world of the round, those before its line the first.
use Rattle.std.proofs.Common.{◌≤◌, ◌≡◌, ℕ, zero, suc, ◌+◌, ◌==◌, Bool, true, false, ◌||◌, List, [], ◌∷◌, ◌++◌, Option, Some, None, refl, sym, ◌∙◌, ap, append_assoc, arith}
use Rattle.std.proofs.lemmas.Bool.Decides.{nat_tests}
use Rattle.std.specs.List.{list_any}
use Rattle.role_steps.proofs.of_plain_facts.Numbers.{equal_test}
use Rattle.role_steps.proofs.of_plain_facts.Tests.{false_true, or_neither}
use Rattle.locus_ids.specs.declared.config.Config.{Config}
use Rattle.trace_book.specs.declared.record.Record.{Record}
use Rattle.trace_book.specs.declared.record.Record.TheVariants as says
use Rattle.wire_messages.specs.declared.packet.Packet.{Packet}
use Rattle.role_steps.specs.Own.{Every}
use Rattle.role_steps.specs.Views.{SiteView, Told, Shown, Outcome}
use Rattle.tree_model.specs.Folds.{Trace, before_line}
use Rattle.lawful_trace.specs.Calm.{IsMoment, tells_budget}
use Rattle.the_run.specs.Runs.{arrives, next_packet, goes_round, budget_ends, ends_round, delivers}
use Rattle.the_run.specs.Worlds.{World, Limit, Numbered, Line, told_onto, happened, puts, arms, passed, stops_with, acts}
use Rattle.the_run.proofs.Events.{happened_keeps, acts_keeps, onto_front}
use Rattle.row_laws.specs.Shown.{shown, with_told, trace_of}
use Rattle.row_laws.specs.Orderly.Calm.{delivers_next, delivered}
use Rattle.row_laws.proofs.Orderly.Rounds.{RoundKept, happened_cases}

-- ---- what a round leaves ----

-- the later world has all lines of the trace, and the same circuits
pub record GoesOn (first w : World) : Type 0 where
  pub lines : List Line
  pub trace : w.trace ≡ lines ++ first.trace
  pub circuits : w.circuits ≡ first.circuits

pub goes_itself : (w : World) → GoesOn w w
goes_itself w = record { lines = []; trace = refl; circuits = refl }

onto_goes : (n : ℕ) (told : List Told) (first w : World) → GoesOn first w → (u : World) → u.trace ≡ told_onto n told w.trace → u.circuits ≡ w.circuits → GoesOn first u
onto_goes n told first w g u e k =
    let r : (lines : List Line) × (told_onto n told w.trace ≡ lines ++ w.trace) = onto_front n told w.trace in
    record { lines = r.0 ++ g.lines; trace = e ∙ (r.1 ∙ (ap (λ (xs : List Line). r.0 ++ xs) g.trace ∙ sym (append_assoc r.0 g.lines first.trace))); circuits = k ∙ g.circuits }

happened_goes : (n : ℕ) (ps : List Packet) (told : List Told) (change : World → World) (first w : World) → (change w).circuits ≡ w.circuits → GoesOn first w → GoesOn first (happened n ps told change w)
happened_goes n ps told change first w same g =
    happened_keeps (GoesOn first) n ps told change w g (λ l. record { lines = g.lines; trace = g.trace; circuits = g.circuits }) (λ k b t. onto_goes n told first w g _ refl same)

acts_goes : (n s : ℕ) (v : SiteView) (o : Outcome SiteView) (first w : World) → GoesOn first w → GoesOn first (acts n s v o w)
acts_goes n s v o first w g = acts_keeps (GoesOn first) n s v o w
    (λ ps told place. happened_goes n ps told (λ now. puts s place now) first w refl g)
    (λ ps told place a. happened_goes n ps told (λ now. puts s place (arms a now)) first w refl g)
    (λ ps told d. happened_goes n ps told (stops_with s d) first w refl g)

pub goes_round_kept : (c : Config) (n : ℕ) (first : World) → RoundKept c n (GoesOn first)
goes_round_kept c n first = record {
  ticks = λ s v w here g. acts_goes n s v _ first w g;
  receives = λ x v w here a undropped g. acts_goes n x.packet.to v _ first (passed x.number w) (record { lines = g.lines; trace = g.trace; circuits = g.circuits });
  drops = λ x w a dropped g. record { lines = g.lines; trace = g.trace; circuits = g.circuits };
  budgets = λ w g. happened_goes n [] (Shown says.Budget ∷ []) (λ now. now) first w refl g;
}

-- ---- moments ----

shown_then : (xs ys : List Line) → shown (xs ++ ys) ≡ shown xs ++ shown ys
shown_then [] ys = refl
shown_then (x ∷ xs) ys = told_then x.number x.told (shown xs) (shown ys) (shown (xs ++ ys)) (shown_then xs ys)
  where
    told_then : (n : ℕ) (t : Told) (a b both : Trace) → both ≡ a ++ b → with_told n t both ≡ with_told n t a ++ b
    told_then n (Shown r) a b both e = ap (λ (z : Trace). record { line = n; what = r } ∷ z) e
    told_then n _ a b both e = e

goes_trace : (first w : World) (g : GoesOn first w) → trace_of w ≡ shown g.lines ++ trace_of first
goes_trace first w g = ap shown g.trace ∙ shown_then g.lines first.trace

-- a world between the one that the line finds and the one that it leaves is at a moment of the line
pub moment_of : (trace : Trace) (n : ℕ) (first w last : World) → before_line trace n ≡ trace_of first → before_line trace (n + 1) ≡ trace_of last → GoesOn first w → GoesOn w last → IsMoment trace n (trace_of w)
moment_of trace n first w last begins ends g h = record {
  so_far = shown g.lines;
  later = shown h.lines;
  begun = goes_trace first w g ∙ ap (λ (z : Trace). shown g.lines ++ z) (sym begins);
  ends = ends ∙ goes_trace w last h;
}

-- ---- a round that doesn't end by its budget ----

-- no line of this number tells that
abbrev pub IsBudgetTold : Told → Type 0
IsBudgetTold (Shown says.Budget) = Unit {0}
IsBudgetTold _ = ⊥

abbrev pub TellsNoBudget : ℕ → Line → Type 0
TellsNoBudget n x = x.number ≡ n → IsBudgetTold x.told → ⊥

record_case : (n k : ℕ) (r : Record) (older : Trace) → list_any (tells_budget n) (record { line = k; what = r } ∷ older) ≡ false → (k ≡ n → IsBudgetTold (Shown r) → ⊥) × (list_any (tells_budget n) older ≡ false)
record_case n k says.Budget older h =
    let g : (tells_budget n (record { line = k; what = says.Budget }) ≡ false) × (list_any (tells_budget n) older ≡ false) = or_neither (tells_budget n (record { line = k; what = says.Budget })) (list_any (tells_budget n) older) h in
    (λ e b. false_true (sym g.0 ∙ equal_test k n e), g.1)
record_case n k _ older h = (λ e b. b, h)

pub no_budget : (n : ℕ) (trace : List Line) → list_any (tells_budget n) (shown trace) ≡ false → Every (TellsNoBudget n) trace
no_budget n [] h = tt
no_budget n (x ∷ older) h = (let g : (x.number ≡ n → IsBudgetTold x.told → ⊥) × (list_any (tells_budget n) (shown older) ≡ false) = told_case x.number x.told h in (g.0, no_budget n older g.1))
  where
    told_case : (k : ℕ) (t : Told) → list_any (tells_budget n) (with_told k t (shown older)) ≡ false → (k ≡ n → IsBudgetTold t → ⊥) × (list_any (tells_budget n) (shown older) ≡ false)
    told_case k (Shown r) h = record_case n k r (shown older) h
    told_case k _ h = (λ e b. b, h)

-- after the round it hasn't ended so
pub record RunsOut (c : Config) (n budget : ℕ) (w u : World) : Type 0 where
  pub deliveries : ℕ
  pub few : deliveries ≤ budget
  pub is_world : u ≡ delivered c n deliveries w
  pub ended : next_packet u ≡ None

budget_not : (n : ℕ) (w : World) → (budget_ends n w).over ≡ None → Every (TellsNoBudget n) (budget_ends n w).trace → ⊥
budget_not n w =
    happened_cases (λ u. u.over ≡ None → Every (TellsNoBudget n) u.trace → ⊥) n [] (Shown says.Budget ∷ []) (λ now. now) w
    (λ l e k h. some_limit l (sym e ∙ k))
    (λ l k h. some_limit l k)
    (λ k b t e g h. h.0 refl tt)
  where
    some_limit : (l : Limit) → ◌≡◌ {A = Option Limit} (Some l) None → ⊥
    some_limit l e = cc

pub runs_out : (c : Config) (n budget : ℕ) (w : World) → (delivers c n budget w).over ≡ None → Every (TellsNoBudget n) (delivers c n budget w).trace → RunsOut c n budget w (delivers c n budget w)
runs_out c n zero w = by_next (next_packet w) refl
  where
    by_next : (o : Option Numbered) → next_packet w ≡ o → (ends_round n w o).over ≡ None → Every (TellsNoBudget n) (ends_round n w o).trace → RunsOut c n zero w (ends_round n w o)
    by_next None e k h = record { deliveries = 0; few = omega arith; is_world = refl; ended = e }
    by_next (Some x) e k h = absurd (budget_not n w k h)
runs_out c n (suc budget) w = by_next (next_packet w) refl (λ u. runs_out c n budget u)
  where
    by_next : (o : Option Numbered) → next_packet w ≡ o → ((u : World) → (delivers c n budget u).over ≡ None → Every (TellsNoBudget n) (delivers c n budget u).trace → RunsOut c n budget u (delivers c n budget u)) → (goes_round c n (delivers c n budget) w o).over ≡ None → Every (TellsNoBudget n) (goes_round c n (delivers c n budget) w o).trace →
        RunsOut c n (suc budget) w (goes_round c n (delivers c n budget) w o)
    by_next None e f k h = record { deliveries = 0; few = omega arith; is_world = refl; ended = e }
    by_next (Some x) e f k h =
        let r : RunsOut c n budget (arrives c n x w) (delivers c n budget (arrives c n x w)) = f (arrives c n x w) k h in
        record { deliveries = suc r.deliveries; few = (let le : r.deliveries ≤ budget = r.few in omega (arith, le)); is_world = r.is_world ∙ ap (λ (o : Option Numbered). delivered c n r.deliveries (delivers_next c n w o)) (sym e); ended = r.ended }
