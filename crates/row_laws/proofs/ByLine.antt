-- A property that each line keeps holds in the run of these lines.
use Rattle.std.proofs.Common.{◌≡◌, ◌<◌, ℕ, zero, suc, ◌+◌, ◌==◌, Bool, true, false, ◌||◌, ◌⊎◌, not, List, [], ◌∷◌, ◌++◌, length, slice_index_or, Option, Some, None, refl, sym, ◌∙◌, ap, subst, inl, inr, arith, append_assoc}
use Rattle.std.proofs.lemmas.List.{length-append}
use Rattle.role_steps.proofs.of_plain_facts.Options.{none_some, some_same}
use Rattle.role_steps.proofs.of_plain_facts.Tests.{true_false}
use Rattle.locus_ids.specs.declared.config.Config.{Config}
use Rattle.schedule_lines.specs.declared.line.Line.{Line as LineWords}
use Rattle.schedule_lines.specs.declared.line.Line.TheVariants as line
use Rattle.schedule_lines.specs.declared.line.ScheduleLine.{ScheduleLine}
use Rattle.schedule_lines.specs.declared.line.ScheduleLine.TheVariants.{Passed, Header, Event as EventLine}
use Rattle.role_steps.specs.Tables.{row, first_that}
use Rattle.role_steps.specs.Views.{Event, Calls, Receives, Ticks, Parts, Merges, GivesUp, all_sites}
use Rattle.site_laws.specs.of_the_run.Disks.{Stops, Fails}
use Rattle.site_laws.specs.of_the_run.Steps.{is_dropped}
use Rattle.site_laws.specs.of_the_run.Worlds.{World, Limit, Place, Running, Stopped, Numbered, place_at, is_cut, number_of, passed, loses, happens, happens_at, voids, first_world}
use Rattle.site_laws.specs.of_the_run.Runs.{packet_at, can_come, arrives_at, arrives, next_packet_of, next_packet, goes_round, ends_round, delivers, ticks_to, is_stopped, is_in_no_epoch, is_busy, is_lost, unless_void, delivers_line, loses_line, cuts_circuit, mends_circuit, stops_line, boots_line, act, acts_line, run_from, run_in}
use Rattle.site_laws.specs.of_the_run.Kept.{Among, WasSent}
use Rattle.lawful_trace.specs.Places.{line_at}
use Rattle.row_laws.specs.ByLine.{IsLine, begins_quietly, cannot_boot, IsVoidIn, Gives, Delivers, KeptIn}

-- ---- what is found in a list is one of its elements ----

found_first : {A : Type 0} (y x : A) (ys : List A) (rest : Option A) (b : Bool) → elim b [ true ↦ Some y | false ↦ rest ] ≡ Some x → (rest ≡ Some x → Among x ys) → (x ≡ y) ⊎ Among x ys
found_first y x ys rest true e h = inl (sym (some_same y x e))
found_first y x ys rest false e h = inr (h e)

first_among : {A : Type 0} (test : A → Bool) (xs : List A) (x : A) → first_that test xs ≡ Some x → Among x xs
first_among test [] x e = absurd (none_some x e)
first_among test (y ∷ ys) x e = found_first y x ys (first_that test ys) (test y) e (first_among test ys x)

row_among : {A : Type 0} (key : A → ℕ) (k : ℕ) (xs : List A) (x : A) → row key k xs ≡ Some x → Among x xs
row_among key k [] x e = absurd (none_some x e)
row_among key k (y ∷ ys) x e = found_first y x ys (row key k ys) (key y == k) e (row_among key k ys x)

next_sent : (w : World) (l : Option Limit) (x : Numbered) → next_packet_of w l ≡ Some x → WasSent w x
next_sent w (Some l) x e = absurd (none_some x e)
next_sent w None x e = inr (first_among (can_come w) w.underway x e)

-- ---- the line with a number ----

next_suc : (n : ℕ) → n + 1 ≡ suc n
next_suc n = omega arith

at_head : (earlier : List ScheduleLine) (x : ScheduleLine) (rest : List ScheduleLine) → slice_index_or (earlier ++ x ∷ rest) (length earlier) Passed ≡ x
at_head [] x rest = refl
at_head (y ∷ ys) x rest = at_head ys x rest

pub line_here : (lines earlier : List ScheduleLine) (x : ScheduleLine) (rest : List ScheduleLine) (n : ℕ) → lines ≡ earlier ++ x ∷ rest → n ≡ length earlier → line_at lines (n + 1) ≡ x
line_here lines earlier x rest n e k =
    ap (line_at lines) (next_suc n) ∙ (ap (λ (m : ℕ). slice_index_or lines m Passed) k ∙ (ap (λ (ls : List ScheduleLine). slice_index_or ls (length earlier) Passed) e ∙ at_head earlier x rest))

-- ---- one line ----

-- in the course of a line, whose number is n
record Course (c : Config) (lines : List ScheduleLine) (P : ℕ → World → Type 0) (n : ℕ) (l : LineWords) : Type 0 where
  kept : KeptIn c lines P
  is : IsLine lines n l

taken_keeps : (c : Config) (lines : List ScheduleLine) (P : ℕ → World → Type 0) (n : ℕ) (l : LineWords) → Course c lines P n l → Delivers l → (x : Numbered) (w : World) → WasSent w x → (o : Option Place) → place_at w x.packet.to ≡ o → P n w → P n (happens_at c n x.packet.to (Receives x.packet) o (passed x.number w))
taken_keeps c lines P n l k d x w sent None h p = k.kept.passes n x.number w p
taken_keeps c lines P n l k d x w sent (Some (Stopped disk)) h p = k.kept.passes n x.number w p
taken_keeps c lines P n l k d x w sent (Some (Running u)) h p = k.kept.receives n l x u w k.is d h sent p

arrives_at_keeps : (c : Config) (lines : List ScheduleLine) (P : ℕ → World → Type 0) (n : ℕ) (l : LineWords) → Course c lines P n l → Delivers l → (x : Numbered) (w : World) → WasSent w x → (o : Option Place) → P n w → P n (arrives_at c n x.packet o (passed x.number w))
arrives_at_keeps c lines P n l k d x w sent None p = k.kept.passes n x.number w p
arrives_at_keeps c lines P n l k d x w sent (Some (Stopped disk)) p = k.kept.passes n x.number w p
arrives_at_keeps c lines P n l k d x w sent (Some (Running v)) p =
    elim (is_dropped x.packet v) as (λ b. P n (elim b [ true ↦ passed x.number w | false ↦ happens c n x.packet.to (Receives x.packet) (passed x.number w) ])) [
      | true ↦ k.kept.passes n x.number w p
      | false ↦ taken_keeps c lines P n l k d x w sent (place_at w x.packet.to) refl p
    ]

arrives_keeps : (c : Config) (lines : List ScheduleLine) (P : ℕ → World → Type 0) (n : ℕ) (l : LineWords) → Course c lines P n l → Delivers l → (x : Numbered) (w : World) → WasSent w x → P n w → P n (arrives c n x w)
arrives_keeps c lines P n l k d x w sent p = arrives_at_keeps c lines P n l k d x w sent (place_at w x.packet.to) p

-- ---- a round ----

ends_round_keeps : (c : Config) (lines : List ScheduleLine) (P : ℕ → World → Type 0) (n most : ℕ) → Course c lines P n (line.Settle most) → (w : World) (o : Option Numbered) → P n w → P n (ends_round n w o)
ends_round_keeps c lines P n most k w None p = p
ends_round_keeps c lines P n most k w (Some x) p = k.kept.budgets n most w k.is p

goes_round_keeps : (c : Config) (lines : List ScheduleLine) (P : ℕ → World → Type 0) (n most : ℕ) → Course c lines P n (line.Settle most) → (rest : World → World) (w : World) (o : Option Numbered) → next_packet w ≡ o → ((u : World) → P n u → P n (rest u)) → P n w → P n (goes_round c n rest w o)
goes_round_keeps c lines P n most k rest w None e ih p = p
goes_round_keeps c lines P n most k rest w (Some x) e ih p = ih (arrives c n x w) (arrives_keeps c lines P n (line.Settle most) k tt x w (next_sent w w.over x e) p)

delivers_keeps : (c : Config) (lines : List ScheduleLine) (P : ℕ → World → Type 0) (n most : ℕ) → Course c lines P n (line.Settle most) → (budget : ℕ) (w : World) → P n w → P n (delivers c n budget w)
delivers_keeps c lines P n most k zero w p = ends_round_keeps c lines P n most k w (next_packet w) p
delivers_keeps c lines P n most k (suc budget) w p = goes_round_keeps c lines P n most k (delivers c n budget) w (next_packet w) refl (λ u q. delivers_keeps c lines P n most k budget u q) p

tick_keeps : (c : Config) (lines : List ScheduleLine) (P : ℕ → World → Type 0) (n most : ℕ) → Course c lines P n (line.Settle most) → (s : ℕ) (o : Option Place) (w : World) → place_at w s ≡ o → P n w → P n (happens_at c n s Ticks o w)
tick_keeps c lines P n most k s None w h p = p
tick_keeps c lines P n most k s (Some (Stopped d)) w h p = p
tick_keeps c lines P n most k s (Some (Running v)) w h p = k.kept.ticks n most s v w k.is h p

ticks_keep : (c : Config) (lines : List ScheduleLine) (P : ℕ → World → Type 0) (n most : ℕ) → Course c lines P n (line.Settle most) → (ss : List ℕ) (w : World) → P n w → P n (ticks_to c n ss w)
ticks_keep c lines P n most k [] w p = p
ticks_keep c lines P n most k (s ∷ ss) w p = ticks_keep c lines P n most k ss (happens c n s Ticks w) (tick_keeps c lines P n most k s (place_at w s) w refl p)

-- ---- lines ----

unless_void_keeps : (P : World → Type 0) (n : ℕ) (b : Bool) (f : World → World) (w : World) → (b ≡ true → P (voids n w)) → (b ≡ false → P (f w)) → P (unless_void n b f w)
unless_void_keeps P n true f w h g = h refl
unless_void_keeps P n false f w h g = g refl

-- a line that has begun after the earlier ones
record Line (c : Config) (lines : List ScheduleLine) (P : ℕ → World → Type 0) (n : ℕ) (l : LineWords) (w : World) : Type 0 where
  course : Course c lines P (n + 1) l
  there : n < length lines
  before : P n w

begun : (c : Config) (lines : List ScheduleLine) (P : ℕ → World → Type 0) (n : ℕ) (l : LineWords) (w : World) → Line c lines P n l w → begins_quietly (EventLine l) ≡ true → P (n + 1) w
begun c lines P n l w k e = k.course.kept.begins n w k.there (ap begins_quietly k.course.is ∙ e) k.before

-- an event of the line's site, where the line isn't void: the site runs
at_site : (c : Config) (lines : List ScheduleLine) (P : ℕ → World → Type 0) (n : ℕ) (l : LineWords) (w : World) → Line c lines P n l w → (s : ℕ) (e : Event) (o : Option Place) → place_at w s ≡ o → is_stopped o ≡ false → Gives w l s e → P (n + 1) (happens_at c (n + 1) s e o w)
at_site c lines P n l w k s e None h up g = absurd (true_false up)
at_site c lines P n l w k s e (Some (Stopped d)) h up g = absurd (true_false up)
at_site c lines P n l w k s e (Some (Running v)) h up g = k.course.kept.steps n s l e v w k.there k.course.is g h k.before

step_keeps : (c : Config) (lines : List ScheduleLine) (P : ℕ → World → Type 0) (n : ℕ) (l : LineWords) (w : World) → Line c lines P n l w → (s : ℕ) (e : Event) → is_stopped (place_at w s) ≡ false → Gives w l s e → P (n + 1) (happens c (n + 1) s e w)
step_keeps c lines P n l w k s e up g = at_site c lines P n l w k s e (place_at w s) refl up g

idle_runs : (process : ℕ) (o : Option Place) → is_busy process o ≡ false → is_stopped o ≡ false
idle_runs process None e = absurd (true_false e)
idle_runs process (Some (Stopped d)) e = absurd (true_false e)
idle_runs process (Some (Running v)) e = refl

inside_runs : (o : Option Place) → is_in_no_epoch o ≡ false → is_stopped o ≡ false
inside_runs None e = absurd (true_false e)
inside_runs (Some (Stopped d)) e = absurd (true_false e)
inside_runs (Some (Running v)) e = refl

voided : (c : Config) (lines : List ScheduleLine) (P : ℕ → World → Type 0) (n : ℕ) (l : LineWords) (w : World) → Line c lines P n l w → IsVoidIn w l → P (n + 1) (voids (n + 1) w)
voided c lines P n l w k v = k.course.kept.voiding n l w k.there k.course.is v k.before

delivers_line_keeps : (c : Config) (lines : List ScheduleLine) (P : ℕ → World → Type 0) (n j : ℕ) (o : Option Numbered) (w : World) → Line c lines P n (line.Deliver j) w → packet_at w j ≡ o → P (n + 1) (delivers_line c (n + 1) o w)
delivers_line_keeps c lines P n j None w k e = voided c lines P n (line.Deliver j) w k tt
delivers_line_keeps c lines P n j (Some x) w k e =
    unless_void_keeps (P (n + 1)) (n + 1) (is_lost w x.number || not (can_come w x)) (arrives c (n + 1) x) w
    (λ b. voided c lines P n (line.Deliver j) w k tt)
    (λ b. arrives_keeps c lines P (n + 1) (line.Deliver j) k.course tt x w (inl (row_among number_of j w.sent x e)) (begun c lines P n (line.Deliver j) w k refl))

loses_line_keeps : (c : Config) (lines : List ScheduleLine) (P : ℕ → World → Type 0) (n j : ℕ) (o : Option Numbered) (w : World) → Line c lines P n (line.Lose j) w → P (n + 1) (loses_line (n + 1) o w)
loses_line_keeps c lines P n j None w k = voided c lines P n (line.Lose j) w k tt
loses_line_keeps c lines P n j (Some x) w k =
    unless_void_keeps (P (n + 1)) (n + 1) (is_lost w x.number) (loses x.number) w (λ b. voided c lines P n (line.Lose j) w k tt) (λ b. k.course.kept.drops (n + 1) x.number w (begun c lines P n (line.Lose j) w k refl))

stops_line_keeps : (c : Config) (lines : List ScheduleLine) (P : ℕ → World → Type 0) (n s : ℕ) (o : Option Place) (w : World) → Line c lines P n (line.Stop s) w → place_at w s ≡ o → P (n + 1) (stops_line (n + 1) s o w)
stops_line_keeps c lines P n s None w k h = voided c lines P n (line.Stop s) w k (ap is_stopped h)
stops_line_keeps c lines P n s (Some (Stopped d)) w k h = voided c lines P n (line.Stop s) w k (ap is_stopped h)
stops_line_keeps c lines P n s (Some (Running v)) w k h = k.course.kept.stopping n s v w k.there k.course.is h k.before

boots_line_keeps : (c : Config) (lines : List ScheduleLine) (P : ℕ → World → Type 0) (n s : ℕ) (o : Option Place) (w : World) → Line c lines P n (line.Boot s) w → place_at w s ≡ o → P (n + 1) (boots_line (n + 1) s o w)
boots_line_keeps c lines P n s None w k h = voided c lines P n (line.Boot s) w k (ap cannot_boot h)
boots_line_keeps c lines P n s (Some (Running v)) w k h = voided c lines P n (line.Boot s) w k (ap cannot_boot h)
boots_line_keeps c lines P n s (Some (Stopped d)) w k h = k.course.kept.booting n s d w k.there k.course.is h k.before

act_keeps : (c : Config) (lines : List ScheduleLine) (P : ℕ → World → Type 0) (n : ℕ) (l : LineWords) (w : World) → Line c lines P n l w → P (n + 1) (act c (n + 1) l w)
act_keeps c lines P n (line.Call s process words) w k =
    unless_void_keeps (P (n + 1)) (n + 1) (is_busy process (place_at w s)) (happens c (n + 1) s (Calls process words)) w
    (λ b. voided c lines P n (line.Call s process words) w k b)
    (λ b. step_keeps c lines P n (line.Call s process words) w k s (Calls process words) (idle_runs process (place_at w s) b) (refl, refl, refl, b))
act_keeps c lines P n (line.Deliver j) w k = delivers_line_keeps c lines P n j (packet_at w j) w k refl
act_keeps c lines P n (line.Lose j) w k = loses_line_keeps c lines P n j (packet_at w j) w k
act_keeps c lines P n (line.Tick s) w k =
    unless_void_keeps (P (n + 1)) (n + 1) (is_stopped (place_at w s)) (happens c (n + 1) s Ticks) w (λ b. voided c lines P n (line.Tick s) w k b)
    (λ b. step_keeps c lines P n (line.Tick s) w k s Ticks b refl)
act_keeps c lines P n (line.Down a b) w k =
    unless_void_keeps (P (n + 1)) (n + 1) (is_cut w a b) (cuts_circuit a b) w (λ v. voided c lines P n (line.Down a b) w k v) (λ v. k.course.kept.cutting n a b w k.there k.course.is v k.before)
act_keeps c lines P n (line.Up a b) w k =
    unless_void_keeps (P (n + 1)) (n + 1) (not (is_cut w a b)) (mends_circuit a b) w (λ v. voided c lines P n (line.Up a b) w k v) (λ v. k.course.kept.mending n a b w k.there k.course.is v k.before)
act_keeps c lines P n (line.Part s) w k =
    unless_void_keeps (P (n + 1)) (n + 1) (is_in_no_epoch (place_at w s)) (happens c (n + 1) s Parts) w (λ b. voided c lines P n (line.Part s) w k b)
    (λ b. step_keeps c lines P n (line.Part s) w k s Parts (inside_runs (place_at w s) b) (refl, b))
act_keeps c lines P n (line.Merge s) w k =
    unless_void_keeps (P (n + 1)) (n + 1) (is_stopped (place_at w s)) (happens c (n + 1) s Merges) w (λ b. voided c lines P n (line.Merge s) w k b)
    (λ b. step_keeps c lines P n (line.Merge s) w k s Merges b refl)
act_keeps c lines P n (line.GiveUp s) w k =
    unless_void_keeps (P (n + 1)) (n + 1) (is_in_no_epoch (place_at w s)) (happens c (n + 1) s GivesUp) w (λ b. voided c lines P n (line.GiveUp s) w k b)
    (λ b. step_keeps c lines P n (line.GiveUp s) w k s GivesUp (inside_runs (place_at w s) b) (refl, b))
act_keeps c lines P n (line.Stop s) w k = stops_line_keeps c lines P n s (place_at w s) w k refl
act_keeps c lines P n (line.ArmStop s calls l) w k = k.course.kept.arming n (line.ArmStop s calls l) (record { site = s; left = calls; how = Stops l }) w k.there k.course.is refl k.before
act_keeps c lines P n (line.ArmFail s calls) w k = k.course.kept.arming n (line.ArmFail s calls) (record { site = s; left = calls; how = Fails }) w k.there k.course.is refl k.before
act_keeps c lines P n (line.Boot s) w k = boots_line_keeps c lines P n s (place_at w s) w k refl
act_keeps c lines P n (line.Settle budget) w k = delivers_keeps c lines P (n + 1) budget k.course budget (ticks_to c (n + 1) all_sites w) (ticks_keep c lines P (n + 1) budget k.course all_sites w (begun c lines P n (line.Settle budget) w k refl))
act_keeps c lines P n line.Pending w k = k.course.kept.pending n w k.there k.course.is k.before

-- ---- the lines one after another ----

-- the line that comes is made to be, and the property holds after it
pub line_keeps : (c : Config) (lines : List ScheduleLine) (P : ℕ → World → Type 0) → KeptIn c lines P → (n : ℕ) (x : ScheduleLine) (w : World) → n < length lines → line_at lines (n + 1) ≡ x → P n w → P (n + 1) (acts_line c (n + 1) x w)
line_keeps c lines P k n Passed w there is p = k.begins n w there (ap begins_quietly is) p
line_keeps c lines P k n (Header h) w there is p = k.begins n w there (ap begins_quietly is) p
line_keeps c lines P k n (EventLine l) w there is p = act_keeps c lines P n l w (record { course = record { kept = k; is = is }; there = there; before = p })

-- what each line keeps
abbrev pub EachLineKeeps : Config → List ScheduleLine → (ℕ → World → Type 0) → Type 0
EachLineKeeps c lines P = (n : ℕ) (x : ScheduleLine) (w : World) → n < length lines → line_at lines (n + 1) ≡ x → P n w → P (n + 1) (acts_line c (n + 1) x w)

longer : (earlier : List ScheduleLine) (x : ScheduleLine) → length (earlier ++ x ∷ []) ≡ length earlier + 1
longer earlier x = length-append earlier (x ∷ [])

within : (lines earlier : List ScheduleLine) (x : ScheduleLine) (rest : List ScheduleLine) (n : ℕ) → lines ≡ earlier ++ x ∷ rest → n ≡ length earlier → n < length lines
within lines earlier x rest n e k = let a : length lines ≡ length (earlier ++ x ∷ rest) = ap length e in let b : length (earlier ++ x ∷ rest) ≡ length earlier + length (x ∷ rest) = length-append earlier (x ∷ rest) in let d : length (x ∷ rest) ≡ length rest + 1 = omega arith in omega (arith, a, b, d, k)

from_here : (c : Config) (lines : List ScheduleLine) (P : ℕ → World → Type 0) → EachLineKeeps c lines P → (earlier rest : List ScheduleLine) (n : ℕ) (w : World) → lines ≡ earlier ++ rest → n ≡ length earlier → P n w → P (length lines) (run_from c (n + 1) rest w)
from_here c lines P k earlier [] n w e len p = subst (λ (m : ℕ). P m w) (all n e len) p
  where
    all : (n : ℕ) → lines ≡ earlier ++ [] → n ≡ length earlier → n ≡ length lines
    all n e len = let a : length lines ≡ length (earlier ++ []) = ap length e in let b : length (earlier ++ []) ≡ length earlier + 0 = length-append earlier [] in omega (arith, a, b, len)
from_here c lines P k earlier (x ∷ rest) n w e len p =
    from_here c lines P k (earlier ++ x ∷ []) rest (n + 1) (acts_line c (n + 1) x w) (e ∙ sym (append_assoc earlier (x ∷ []) rest)) (ap (λ (m : ℕ). m + 1) len ∙ sym (longer earlier x))
    (k n x w (within lines earlier x rest n e len) (line_here lines earlier x rest n e len) p)

-- a property of the first world that each line keeps holds after all
pub by_lines : (c : Config) (lines : List ScheduleLine) (P : ℕ → World → Type 0) → EachLineKeeps c lines P → P 0 (first_world c) → P (length lines) (run_in c lines)
by_lines c lines P k p = from_here c lines P k [] lines 0 (first_world c) refl refl p

pub every_line : (c : Config) (lines : List ScheduleLine) (P : ℕ → World → Type 0) → KeptIn c lines P → P 0 (first_world c) → P (length lines) (run_in c lines)
every_line c lines P k p = by_lines c lines P (line_keeps c lines P k) p
