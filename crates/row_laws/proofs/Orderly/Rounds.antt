-- A round, event by event, and how it ends.
use Rattle.std.proofs.Common.{◌≡◌, ℕ, zero, suc, ◌+◌, ◌⊎◌, Bool, true, false, cond, List, [], ◌∷◌, ◌++◌, length, Option, Some, None, refl, sym, ◌∙◌, ap, subst, inl, inr}
use Rattle.role_steps.proofs.of_plain_facts.Options.{none_some, some_same}
use Rattle.locus_ids.specs.declared.config.Config.{Config}
use Rattle.trace_book.specs.declared.record.Record.TheVariants as says
use Rattle.trace_book.specs.declared.record.StopCause.{StopCause}
use Rattle.wire_messages.specs.declared.packet.Packet.{Packet}
use Rattle.role_steps.specs.Own.{Every}
use Rattle.role_steps.specs.Tables.{total, first_that}
use Rattle.role_steps.specs.Views.{SiteView, Told, Shown, Outcome, Receives, Ticks, all_sites}
use Rattle.the_run.specs.Disks.{Disk, is_on_disk}
use Rattle.the_run.specs.Kept.{Among}
use Rattle.the_run.specs.Steps.{is_dropped, step}
use Rattle.the_run.specs.Worlds.{World, Limit, Place, Running, Stopped, Numbered, Line, place_at, links_of, newest_onto, happened, happened_of, unless_over, limit_passed, with_numbered, numbered_from, told_onto, told_size, packet_size, puts, arms, passed, stops_with, cut_told, cause_of, acts, happens, happens_at}
use Rattle.the_run.specs.Runs.{can_come, arrives_at, arrives, next_packet_of, next_packet, goes_round, budget_ends, ends_round, delivers, ticks_to, settles}
use Rattle.the_run.proofs.Boots.{acts_cases}
use Rattle.the_run.proofs.Events.{puts_other, puts_same}
use Rattle.row_laws.specs.Orderly.Rounds.{Whole, Unbroken, Ran}

-- ---- an event as a whole ----

-- with the limit that stood before
pub happened_cases : (P : World → Type 0) (n : ℕ) (ps : List Packet) (told : List Told) (change : World → World) (w : World) →
    ((l : Limit) → w.over ≡ Some l → P w) → ((l : Limit) → P (record w { over = Some l })) → ((k b t : ℕ) → w.over ≡ None → P (with_numbered (numbered_from (w.packets + 1) ps) (told_onto n told w.trace) k b t (change w))) → P (happened n ps told change w)
happened_cases P n ps told change w stood passes makes = by_over w.over refl
  where
    by_limit : (l : Option Limit) (k b t : ℕ) → w.over ≡ None → P (unless_over l n ps told change k b t w)
    by_limit (Some l) k b t e = passes l
    by_limit None k b t e = makes k b t e

    by_over : (o : Option Limit) → w.over ≡ o → P (happened_of o n ps told change w)
    by_over (Some l) e = stood l e
    by_over None e = by_limit (limit_passed (w.packets + length ps) (w.bytes + total packet_size ps) (w.text + total (told_size n) told)) (w.packets + length ps) (w.bytes + total packet_size ps) (w.text + total (told_size n) told) e

none_limit : (l : Limit) → ◌≡◌ {A = Option Limit} (Some l) None → ⊥
none_limit l e = cc

pub onto_before : (P : Line → Type 0) (n : ℕ) (told : List Told) (trace : List Line) → Every P (told_onto n told trace) → Every P trace
onto_before P n [] trace h = h
onto_before P n (x ∷ xs) trace h = (onto_before P n xs (record { number = n; told = x } ∷ trace) h).1

runs_whole : (n s : ℕ) (o : Outcome SiteView) (change : World → World) (w : World) → (change w).circuits ≡ w.circuits → (change w).sent ≡ w.sent → (change w).underway ≡ w.underway → (change w).over ≡ w.over →
    ((t : ℕ) → place_at (change w) t ≡ place_at w t) → Unbroken n (happened n o.sent o.told (λ now. puts s (Running o.view) (change now)) w) → Ran n s o w (happened n o.sent o.told (λ now. puts s (Running o.view) (change now)) w)
runs_whole n s o change w circuits sent underway over places =
    happened_cases (λ u. Unbroken n u → Ran n s o w u) n o.sent o.told (λ now. puts s (Running o.view) (change now)) w
    (λ l e k. absurd (none_limit l (sym e ∙ k.within)))
    (λ l k. absurd (none_limit l k.within))
    (λ k b t e h. record {
      here = puts_same s (Running o.view) (change w);
      others = λ x ne. puts_other s x (Running o.view) (change w) ne ∙ places x;
      circuits = circuits;
      sent = ap (λ (xs : List Numbered). newest_onto (numbered_from (w.packets + 1) o.sent) xs) sent;
      underway = ap (λ (xs : List Numbered). xs ++ numbered_from (w.packets + 1) o.sent) underway;
      trace = refl;
      before = record { within = e; whole = onto_before (Whole n) n o.told w.trace h.whole };
    })

-- a stop tells that it came
stop_told : (n s : ℕ) (c : StopCause) (b : Bool) (r : _) (trace : List Line) → Every (Whole n) (told_onto n (cond b (Shown r ∷ Shown (says.Stopped s c) ∷ []) (Shown (says.Stopped s c) ∷ [])) trace) → ⊥
stop_told n s c true r trace h = h.0 refl tt
stop_told n s c false r trace h = h.0 refl tt

-- an event of a site in a round that isn't cut short
pub acts_ran : (n s : ℕ) (v : SiteView) (o : Outcome SiteView) (w : World) → Unbroken n (acts n s v o w) → Ran n s o w (acts n s v o w)
acts_ran n s v o w =
    acts_cases (λ u. Unbroken n u → Ran n s o w u) n s v o w
    (runs_whole n s o (λ now. now) w refl refl refl refl (λ t. refl))
    (λ a. runs_whole n s o (arms a) w refl refl refl refl (λ t. refl))
    (λ d a e. happened_cases (λ u. Unbroken n u → Ran n s o w u) n [] (cut_told s v.store d a.how a.left) (stops_with s _) w
    (λ l e k. absurd (none_limit l (sym e ∙ k.within)))
    (λ l k. absurd (none_limit l k.within))
    (λ k b t e h. absurd (stop_told n s (cause_of a.how) (is_on_disk v.store d a.how a.left) d.says w.trace h.whole)))

-- a budget that ends the round tells so
pub budget_broken : (n : ℕ) (w : World) → Unbroken n (budget_ends n w) → ⊥
budget_broken n w =
    happened_cases (λ u. Unbroken n u → ⊥) n [] (Shown says.Budget ∷ []) (λ now. now) w
    (λ l e k. none_limit l (sym e ∙ k.within))
    (λ l k. none_limit l k.within)
    (λ k b t e h. h.whole.0 refl tt)

-- ---- all events of a round ----

pub record RoundKept (c : Config) (n : ℕ) (P : World → Type 0) : Type 0 where
  pub ticks : (s : ℕ) (v : SiteView) (w : World) → place_at w s ≡ Some (Running v) → P w → P (acts n s v (step c s (links_of w s) v Ticks) w)
  pub receives : (x : Numbered) (v : SiteView) (w : World) → place_at w x.packet.to ≡ Some (Running v) → Among x w.underway → is_dropped x.packet v ≡ false → P w →
      P (acts n x.packet.to v (step c x.packet.to (links_of (passed x.number w) x.packet.to) v (Receives x.packet)) (passed x.number w))
  pub drops : (x : Numbered) (w : World) → Among x w.underway → ((v : SiteView) → place_at w x.packet.to ≡ Some (Running v) → is_dropped x.packet v ≡ true) → P w → P (passed x.number w)
  pub budgets : (w : World) → P w → P (budget_ends n w)

running_view : (v u : SiteView) → ◌≡◌ {A = Option Place} (Some (Running v)) (Some (Running u)) → v ≡ u
running_view v u e = cc

not_running : (v : SiteView) → ◌≡◌ {A = Option Place} None (Some (Running v)) → ⊥
not_running v e = cc

stopped_running : (d : Disk) (v : SiteView) → ◌≡◌ {A = Option Place} (Some (Stopped d)) (Some (Running v)) → ⊥
stopped_running d v e = cc

pub arrives_kept : (c : Config) (n : ℕ) (P : World → Type 0) → RoundKept c n P → (x : Numbered) (w : World) → Among x w.underway → P w → P (arrives c n x w)
arrives_kept c n P k x w a p = by_place (place_at w x.packet.to) refl
  where
    none : (o : Option Place) → place_at w x.packet.to ≡ o → ((v : SiteView) → o ≡ Some (Running v) → ⊥) → (v : SiteView) → place_at w x.packet.to ≡ Some (Running v) → is_dropped x.packet v ≡ true
    none o e never v here = absurd (never v (sym e ∙ here))

    happening : (v : SiteView) → place_at w x.packet.to ≡ Some (Running v) → is_dropped x.packet v ≡ false → P (happens_at c n x.packet.to (Receives x.packet) (place_at w x.packet.to) (passed x.number w))
    happening v e undropped = subst (λ (o : Option Place). P (happens_at c n x.packet.to (Receives x.packet) o (passed x.number w))) (sym e) (k.receives x v w e a undropped p)

    by_place : (o : Option Place) → place_at w x.packet.to ≡ o → P (arrives_at c n x.packet o (passed x.number w))
    by_place None e = k.drops x w a (none None e not_running) p
    by_place (Some (Stopped d)) e = k.drops x w a (none (Some (Stopped d)) e (stopped_running d)) p
    by_place (Some (Running v)) e =
        (elim (is_dropped x.packet v) as (λ b. is_dropped x.packet v ≡ b → P (elim b [ true ↦ passed x.number w | false ↦ happens c n x.packet.to (Receives x.packet) (passed x.number w) ])) [
          | true ↦ λ d. k.drops x w a (λ u here. subst (λ (y : SiteView). is_dropped x.packet y ≡ true) (running_view v u (sym e ∙ here)) d) p
          | false ↦ λ d. happening v e d
        ]) refl

first_there : {A : Type 0} (test : A → Bool) (xs : List A) (x : A) → first_that test xs ≡ Some x → Among x xs
first_there test [] x e = absurd (none_some x e)
first_there test (y ∷ ys) x e =
    (elim (test y) as (λ b. elim b [ true ↦ Some y | false ↦ first_that test ys ] ≡ Some x → Among x (y ∷ ys)) [
      | true ↦ λ f. inl (sym (some_same y x f))
      | false ↦ λ f. inr (first_there test ys x f)
    ]) e

pub next_among : (w : World) (l : Option Limit) (x : Numbered) → next_packet_of w l ≡ Some x → Among x w.underway
next_among w (Some l) x e = absurd (none_some x e)
next_among w None x e = first_there (can_come w) w.underway x e

-- nothing can come any more, or it ended by its budget
abbrev pub Ended : ℕ → World → Type 0
Ended n u = (next_packet u ≡ None) ⊎ ((w : World) × (u ≡ budget_ends n w))

delivers_kept : (c : Config) (n : ℕ) (P : World → Type 0) → RoundKept c n P → (budget : ℕ) (w : World) → P w → P (delivers c n budget w) × Ended n (delivers c n budget w)
delivers_kept c n P k zero w p = ends (next_packet w) refl
  where
    ends : (o : Option Numbered) → next_packet w ≡ o → P (ends_round n w o) × Ended n (ends_round n w o)
    ends None e = (p, inl e)
    ends (Some x) e = (k.budgets w p, inr (w, refl))
delivers_kept c n P k (suc budget) w p = goes (delivers_kept c n P k budget) (next_packet w) refl
  where
    goes : ((u : World) → P u → P (delivers c n budget u) × Ended n (delivers c n budget u)) → (o : Option Numbered) → next_packet w ≡ o → P (goes_round c n (delivers c n budget) w o) × Ended n (goes_round c n (delivers c n budget) w o)
    goes rest None e = (p, inl e)
    goes rest (Some x) e = rest (arrives c n x w) (arrives_kept c n P k x w (next_among w w.over x e) p)

tick_kept : (c : Config) (n : ℕ) (P : World → Type 0) → RoundKept c n P → (s : ℕ) (w : World) → P w → P (happens c n s Ticks w)
tick_kept c n P k s w p = by_place (place_at w s) refl
  where
    by_place : (o : Option Place) → place_at w s ≡ o → P (happens_at c n s Ticks o w)
    by_place None e = p
    by_place (Some (Stopped d)) e = p
    by_place (Some (Running v)) e = k.ticks s v w e p

pub ticks_kept : (c : Config) (n : ℕ) (P : World → Type 0) → RoundKept c n P → (ss : List ℕ) (w : World) → P w → P (ticks_to c n ss w)
ticks_kept c n P k [] w p = p
ticks_kept c n P k (s ∷ ss) w p = ticks_kept c n P k ss (happens c n s Ticks w) (tick_kept c n P k s w p)

pub settles_kept : (c : Config) (n : ℕ) (P : World → Type 0) → RoundKept c n P → (budget : ℕ) (w : World) → P w → P (settles c n budget w) × Ended n (settles c n budget w)
settles_kept c n P k budget w p = delivers_kept c n P k budget (ticks_to c n all_sites w) (ticks_kept c n P k all_sites w p)
