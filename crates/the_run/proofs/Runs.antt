-- A property that each event and each change of the world keeps holds in every run.
use Rattle.std.proofs.Common.{◌≡◌, ℕ, zero, suc, ◌+◌, ◌==◌, Bool, true, false, ◌||◌, ◌⊎◌, not, List, [], ◌∷◌, Option, Some, None, refl, sym, inl, inr}
use Rattle.role_steps.proofs.of_plain_facts.Options.{none_some, some_same}
use Rattle.locus_ids.specs.declared.config.Config.{Config}
use Rattle.disk_calls.specs.of_schedule_lines.declared.line.Line.{Line as LineWords}
use Rattle.disk_calls.specs.of_schedule_lines.declared.line.Line.TheVariants as line
use Rattle.disk_calls.specs.of_schedule_lines.declared.line.ScheduleLine.{ScheduleLine}
use Rattle.disk_calls.specs.of_schedule_lines.declared.line.ScheduleLine.TheVariants.{Passed, Header, Event as EventLine}
use Rattle.role_steps.specs.Tables.{row, first_that}
use Rattle.role_steps.specs.Views.{SiteView, Event, Calls, Receives, Ticks, Parts, Merges, GivesUp, all_sites}
use Rattle.the_run.specs.Disks.{Stops, Fails}
use Rattle.the_run.specs.Steps.{is_dropped}
use Rattle.the_run.specs.Worlds.{World, Limit, Place, Running, Stopped, Numbered, place_at, is_cut, number_of, passed, loses, happens, happens_at, first_world}
use Rattle.the_run.specs.Runs.{packet_at, can_come, arrives_at, arrives, next_packet_of, next_packet, goes_round, ends_round, delivers, ticks_to, is_stopped, is_in_no_epoch, is_busy, is_lost, unless_void, delivers_line, loses_line, cuts_circuit, mends_circuit, stops_line, boots_line, act, acts_line, run_from, run_in}
use Rattle.the_run.specs.Kept.{Among, WasSent, IsOwn, Kept}

-- ---- what is found in a list is one of its elements ----

found_first : {A : Type 0} (y x : A) (ys : List A) (rest : Option A) (b : Bool) → elim b [ true ↦ Some y | false ↦ rest ] ≡ Some x → (rest ≡ Some x → Among x ys) → (x ≡ y) ⊎ Among x ys
found_first y x ys rest true e h = inl (sym (some_same y x e))
found_first y x ys rest false e h = inr (h e)

first_among : {A : Type 0} (test : A → Bool) (xs : List A) (x : A) → first_that test xs ≡ Some x → Among x xs
first_among test [] x e = absurd (none_some x e)
first_among test (y ∷ ys) x e = found_first y x ys (first_that test ys) (test y) e (first_among test ys x)

row_among : {A : Type 0} (key : A → ℕ) (k : ℕ) (xs : List A) (x : A) → row key k xs ≡ Some x → Among x xs
row_among key k [] x e = absurd (none_some x e)
row_among key k (y ∷ ys) x e = found_first y x ys (row key k ys) (key y == k) e (row_among key k ys x)

-- ---- an event of a site ----

happens_at_keeps : (c : Config) (P : World → Type 0) → Kept c P → (n s : ℕ) (e : Event) (o : Option Place) (w : World) → place_at w s ≡ o → IsOwn e → P w → P (happens_at c n s e o w)
happens_at_keeps c P k n s e None w h own p = p
happens_at_keeps c P k n s e (Some (Stopped d)) w h own p = p
happens_at_keeps c P k n s e (Some (Running v)) w h own p = k.steps n s e v w h own p

happens_keeps : (c : Config) (P : World → Type 0) → Kept c P → (n s : ℕ) (e : Event) (w : World) → IsOwn e → P w → P (happens c n s e w)
happens_keeps c P k n s e w own p = happens_at_keeps c P k n s e (place_at w s) w refl own p

-- ---- a delivery ----

taken_keeps : (c : Config) (P : World → Type 0) → Kept c P → (n : ℕ) (x : Numbered) (v : SiteView) (w : World) → WasSent w x → (o : Option Place) → place_at w x.packet.to ≡ o → P w → P (happens_at c n x.packet.to (Receives x.packet) o (passed x.number w))
taken_keeps c P k n x v w sent None h p = k.passes x.number w p
taken_keeps c P k n x v w sent (Some (Stopped d)) h p = k.passes x.number w p
taken_keeps c P k n x v w sent (Some (Running u)) h p = k.receives n x u w h sent p

arrives_at_keeps : (c : Config) (P : World → Type 0) → Kept c P → (n : ℕ) (x : Numbered) (w : World) → WasSent w x → (o : Option Place) → P w → P (arrives_at c n x.packet o (passed x.number w))
arrives_at_keeps c P k n x w sent None p = k.passes x.number w p
arrives_at_keeps c P k n x w sent (Some (Stopped d)) p = k.passes x.number w p
arrives_at_keeps c P k n x w sent (Some (Running v)) p =
    elim (is_dropped x.packet v) as (λ b. P (elim b [ true ↦ passed x.number w | false ↦ happens c n x.packet.to (Receives x.packet) (passed x.number w) ])) [
      | true ↦ k.passes x.number w p
      | false ↦ taken_keeps c P k n x v w sent (place_at w x.packet.to) refl p
    ]

arrives_keeps : (c : Config) (P : World → Type 0) → Kept c P → (n : ℕ) (x : Numbered) (w : World) → WasSent w x → P w → P (arrives c n x w)
arrives_keeps c P k n x w sent p = arrives_at_keeps c P k n x w sent (place_at w x.packet.to) p

-- ---- a round ----

next_sent : (w : World) (l : Option Limit) (x : Numbered) → next_packet_of w l ≡ Some x → WasSent w x
next_sent w (Some l) x e = absurd (none_some x e)
next_sent w None x e = inr (first_among (can_come w) w.underway x e)

ends_round_keeps : (c : Config) (P : World → Type 0) → Kept c P → (n : ℕ) (w : World) (o : Option Numbered) → P w → P (ends_round n w o)
ends_round_keeps c P k n w None p = p
ends_round_keeps c P k n w (Some x) p = k.budgets n w p

goes_round_keeps : (c : Config) (P : World → Type 0) → Kept c P → (n : ℕ) (rest : World → World) (w : World) (o : Option Numbered) → next_packet w ≡ o → ((u : World) → P u → P (rest u)) → P w → P (goes_round c n rest w o)
goes_round_keeps c P k n rest w None e ih p = p
goes_round_keeps c P k n rest w (Some x) e ih p = ih (arrives c n x w) (arrives_keeps c P k n x w (next_sent w w.over x e) p)

delivers_keeps : (c : Config) (P : World → Type 0) → Kept c P → (n budget : ℕ) (w : World) → P w → P (delivers c n budget w)
delivers_keeps c P k n zero w p = ends_round_keeps c P k n w (next_packet w) p
delivers_keeps c P k n (suc budget) w p = goes_round_keeps c P k n (delivers c n budget) w (next_packet w) refl (λ u q. delivers_keeps c P k n budget u q) p

ticks_keep : (c : Config) (P : World → Type 0) → Kept c P → (n : ℕ) (ss : List ℕ) (w : World) → P w → P (ticks_to c n ss w)
ticks_keep c P k n [] w p = p
ticks_keep c P k n (s ∷ ss) w p = ticks_keep c P k n ss (happens c n s Ticks w) (happens_keeps c P k n s Ticks w tt p)

-- ---- lines ----

unless_void_keeps : (c : Config) (P : World → Type 0) → Kept c P → (n : ℕ) (b : Bool) (f : World → World) (w : World) → (P w → P (f w)) → P w → P (unless_void n b f w)
unless_void_keeps c P k n true f w h p = k.voiding n w p
unless_void_keeps c P k n false f w h p = h p

delivers_line_keeps : (c : Config) (P : World → Type 0) → Kept c P → (n j : ℕ) (o : Option Numbered) (w : World) → packet_at w j ≡ o → P w → P (delivers_line c n o w)
delivers_line_keeps c P k n j None w e p = k.voiding n w p
delivers_line_keeps c P k n j (Some x) w e p =
    unless_void_keeps c P k n (is_lost w x.number || not (can_come w x)) (arrives c n x) w (λ q. arrives_keeps c P k n x w (inl (row_among number_of j w.sent x e)) q) p

loses_line_keeps : (c : Config) (P : World → Type 0) → Kept c P → (n : ℕ) (o : Option Numbered) (w : World) → P w → P (loses_line n o w)
loses_line_keeps c P k n None w p = k.voiding n w p
loses_line_keeps c P k n (Some x) w p = unless_void_keeps c P k n (is_lost w x.number) (loses x.number) w (λ q. k.drops x.number w q) p

stops_line_keeps : (c : Config) (P : World → Type 0) → Kept c P → (n s : ℕ) (o : Option Place) (w : World) → place_at w s ≡ o → P w → P (stops_line n s o w)
stops_line_keeps c P k n s None w h p = k.voiding n w p
stops_line_keeps c P k n s (Some (Stopped d)) w h p = k.voiding n w p
stops_line_keeps c P k n s (Some (Running v)) w h p = k.stopping n s v w h p

boots_line_keeps : (c : Config) (P : World → Type 0) → Kept c P → (n s : ℕ) (o : Option Place) (w : World) → place_at w s ≡ o → P w → P (boots_line n s o w)
boots_line_keeps c P k n s None w h p = k.voiding n w p
boots_line_keeps c P k n s (Some (Running v)) w h p = k.voiding n w p
boots_line_keeps c P k n s (Some (Stopped d)) w h p = k.booting n s d w h p

act_keeps : (c : Config) (P : World → Type 0) → Kept c P → (n : ℕ) (x : LineWords) (w : World) → P w → P (act c n x w)
act_keeps c P k n (line.Call s process words) w p = unless_void_keeps c P k n (is_busy process (place_at w s)) (happens c n s (Calls process words)) w (λ q. happens_keeps c P k n s (Calls process words) w tt q) p
act_keeps c P k n (line.Deliver j) w p = delivers_line_keeps c P k n j (packet_at w j) w refl p
act_keeps c P k n (line.Lose j) w p = loses_line_keeps c P k n (packet_at w j) w p
act_keeps c P k n (line.Tick s) w p = unless_void_keeps c P k n (is_stopped (place_at w s)) (happens c n s Ticks) w (λ q. happens_keeps c P k n s Ticks w tt q) p
act_keeps c P k n (line.Down a b) w p = unless_void_keeps c P k n (is_cut w a b) (cuts_circuit a b) w (λ q. k.recuts (cuts_circuit a b w).circuits w q) p
act_keeps c P k n (line.Up a b) w p = unless_void_keeps c P k n (not (is_cut w a b)) (mends_circuit a b) w (λ q. k.recuts (mends_circuit a b w).circuits w q) p
act_keeps c P k n (line.Part s) w p = unless_void_keeps c P k n (is_in_no_epoch (place_at w s)) (happens c n s Parts) w (λ q. happens_keeps c P k n s Parts w tt q) p
act_keeps c P k n (line.Merge s) w p = unless_void_keeps c P k n (is_stopped (place_at w s)) (happens c n s Merges) w (λ q. happens_keeps c P k n s Merges w tt q) p
act_keeps c P k n (line.GiveUp s) w p = unless_void_keeps c P k n (is_in_no_epoch (place_at w s)) (happens c n s GivesUp) w (λ q. happens_keeps c P k n s GivesUp w tt q) p
act_keeps c P k n (line.Stop s) w p = stops_line_keeps c P k n s (place_at w s) w refl p
act_keeps c P k n (line.ArmStop s calls l) w p = k.arming (record { site = s; left = calls; how = Stops l }) w p
act_keeps c P k n (line.ArmFail s calls) w p = k.arming (record { site = s; left = calls; how = Fails }) w p
act_keeps c P k n (line.Boot s) w p = boots_line_keeps c P k n s (place_at w s) w refl p
act_keeps c P k n (line.Settle budget) w p = delivers_keeps c P k n budget (ticks_to c n all_sites w) (ticks_keep c P k n all_sites w p)
act_keeps c P k n line.Pending w p = k.pending n w p

acts_line_keeps : (c : Config) (P : World → Type 0) → Kept c P → (n : ℕ) (x : ScheduleLine) (w : World) → P w → P (acts_line c n x w)
acts_line_keeps c P k n Passed w p = p
acts_line_keeps c P k n (Header h) w p = p
acts_line_keeps c P k n (EventLine e) w p = act_keeps c P k n e w p

-- ---- the run ----

pub run_from_keeps : (c : Config) (P : World → Type 0) → Kept c P → (n : ℕ) (lines : List ScheduleLine) (w : World) → P w → P (run_from c n lines w)
run_from_keeps c P k n [] w p = p
run_from_keeps c P k n (x ∷ xs) w p = run_from_keeps c P k (n + 1) xs (acts_line c n x w) (acts_line_keeps c P k n x w p)

-- a property of the first world that each of these keeps holds after every schedule
pub every_run : (c : Config) (P : World → Type 0) → Kept c P → P (first_world c) → (lines : List ScheduleLine) → P (run_in c lines)
every_run c P k p lines = run_from_keeps c P k 1 lines (first_world c) p
