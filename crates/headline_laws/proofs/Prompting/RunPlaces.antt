-- In every run each record stands at a line at which it may.
use Rattle.std.proofs.Common.{◌≡◌, ◌<◌, ◌≤◌, nat_le, arith, ℕ, ◌+◌, Bool, true, false, cond, not, ◌&&◌, ◌||◌, List, [], ◌∷◌, ◌++◌, filter, map, length, Option, None, Some, refl, sym, ◌∙◌, ap, subst, inl, inr}
use Rattle.std.specs.Option.{is_some}
use Rattle.role_steps.proofs.of_plain_facts.Options.{none_some, some_same}
use Rattle.role_steps.proofs.of_plain_facts.Tests.{true_false}
use Rattle.locus_ids.specs.declared.config.Config.{Config}
use Rattle.locus_ids.specs.declared.sites.Links.{Links}
use Rattle.schedule_lines.specs.declared.line.Line.{Line as LineWords}
use Rattle.schedule_lines.specs.declared.line.Line.TheVariants as line
use Rattle.schedule_lines.specs.declared.line.ScheduleLine.{ScheduleLine}
use Rattle.schedule_lines.specs.declared.line.ScheduleLine.TheVariants.{Event}
use Rattle.trace_book.specs.declared.record.Record.{Record}
use Rattle.trace_book.specs.declared.record.Record.TheVariants as says
use Rattle.trace_book.specs.declared.record.StopCause.TheVariants as cause
use Rattle.wire_messages.specs.declared.packet.Packet.{Packet}
use Rattle.role_steps.specs.Own.{Every}
use Rattle.role_steps.specs.Views as views
use Rattle.role_steps.specs.Views.{DiskWrite, GivesUp, Outcome, Receives, Shown, SiteView, Ticks, Told}
use Rattle.role_steps.specs.declared.rounds.InEpoch.{InEpoch}
use Rattle.role_steps.specs.declared.rounds.Round.{Round}
use Rattle.role_steps.proofs.Sending.{every_map}
use Rattle.lawful_trace.specs.Places.{line_at}
use Rattle.lawful_trace.specs.LineRows.{is_mend}
use Rattle.lawful_trace.specs.Prompt.{stands_at}
use Rattle.the_run.specs.Disks.{Armed, Booted, CutOff, Whole, boots, cut_disk, is_on_disk}
use Rattle.the_run.specs.Kept.{Kept}
use Rattle.the_run.specs.Runs.{boots_as, cuts_circuit, mends_circuit, is_in_no_epoch, packet_record, rearms, run}
use Rattle.the_run.specs.Steps.{step}
use Rattle.the_run.specs.Worlds.{Line, Running, World, acts, arms, cause_of, cut_told, disk_of, fresh, happened, links_of, passed, place_at, puts, script_of, stops_with, told_onto}
use Rattle.the_run.proofs.Boots.{acts_cases}
use Rattle.the_run.proofs.Events.{happened_keeps}
use Rattle.run_laws.specs.Epochs.Known.{Good, ViewFact}
use Rattle.run_laws.proofs.Epochs.Run.{first_good, good_kept}
use Rattle.tree_laws.specs.Printed.{entries}
use Rattle.row_laws.specs.ByLine.{Delivers, Gives as LineGives, IsLine, KeptIn}
use Rattle.row_laws.specs.Shown.{EachRecord, trace_of}
use Rattle.site_laws.specs.Vectors.Held.{OnDisk}
use Rattle.row_laws.proofs.ByLine.{every_line}
use Rattle.site_laws.proofs.Vectors.SiteDisks.{step_disk}
use Rattle.rest_laws.proofs.Shown.{shown_entries}
use Rattle.calm_laws.specs.of_store_laws.OneTree.Rest.{more}
use Rattle.std.proofs.lemmas.Bool.Decides.{nat_tests}
use Rattle.locus_ids.specs.Sites.{has}
use Rattle.schedule_lines.specs.Cluster.{config_of}
use Rattle.schedule_lines.specs.Ranges.{fits_call, is_site}
use Rattle.schedule_lines.specs.Schedule.{AreInOrder}
use Rattle.trace_book.specs.declared.call.Call.{Call}
use Rattle.trace_book.specs.declared.call.Call.TheVariants as call
use Rattle.role_steps.specs.Adoption.{table_group}
use Rattle.role_steps.specs.Epochs.{frame_in, is_sync_site, own_groups}
use Rattle.role_steps.specs.Requests.{waiting_span}
use Rattle.role_steps.specs.Using.{is_packed, is_some_site}
use Rattle.role_steps.specs.Views.{all_groups, pack_sites}
use Rattle.role_steps.specs.declared.synchronizing.SyncTable.{SyncTable}
use Rattle.the_run.specs.Kept.{Among}
use Rattle.tree_laws.proofs.Boots.{every_filter}
use Rattle.row_laws.proofs.of_site_laws.Locks.GrantSites.{is_synced}
use Rattle.calm_laws.proofs.of_row_laws.Bounds.EachView.{EachView, KeepsViews, views_first, views_kept}
use Rattle.calm_laws.proofs.Convergence.DirectoriesMended.{MendsHaveStarted, step_mended}
use Rattle.row_laws.specs.Voids.{LinesFit}
use Rattle.row_laws.proofs.Fitting.{schedule_fits}
use Rattle.rest_laws.proofs.Packs.{schedule_packs}
use Rattle.rest_laws.proofs.Resting.{run_low, run_rests}
use Rattle.rest_laws.proofs.Roles.{roles_do}
use Rattle.rest_laws.proofs.StoreStepFirst.{four_groups}
use Rattle.calm_laws.specs.of_store_laws.OneTree.Places.{SiteFact, SiteIn, synced_groups}
use Rattle.calm_laws.specs.of_store_laws.OneTree.Rest.{IsRest}
use Rattle.calm_laws.specs.of_store_laws.OneTree.Roles.{EventFact, RolesDo}
use Rattle.calm_laws.proofs.of_store_laws.OneTree.Composing.{rest_before}
use Rattle.calm_laws.proofs.of_store_laws.OneTree.Run.{event_fact, first_holds, kept}
use Rattle.calm_laws.proofs.of_store_laws.OneTree.Staying.{stays}
use Rattle.calm_laws.proofs.of_store_laws.OneTree.Worlds.{Holds}
use Rattle.headline_laws.specs.Prompting.Places.{StandsWhereItMay}
use Rattle.headline_laws.proofs.Prompting.Run.{EachLine, gives_own}
use Rattle.headline_laws.proofs.Prompting.MendsQuiet.{IsMended}
use Rattle.headline_laws.proofs.Prompting.Standing.{IsUserCall, Stands, own_stand}

every_here : {A : Type 0} (P : A → Type 0) (xs : List A) (y : A) (ys : List A) → Every P (xs ++ y ∷ ys) → P y
every_here P [] y ys h = h.0
every_here P (x ∷ xs) y ys h = every_here P xs y ys h.1

-- ---- where packets are delivered all stands ----

or_true : (b : Bool) → (b || true) ≡ true
or_true true = refl
or_true false = refl

record_stands : (l : LineWords) → Delivers l → (r : Record) → stands_at (Event l) r ≡ true
record_stands (line.Deliver packet) d (says.Accept site process call words) = or_true (not (is_mend words))
record_stands (line.Deliver packet) d _ = refl
record_stands (line.Settle most) d (says.Accept site process call words) = or_true (not (is_mend words))
record_stands (line.Settle most) d _ = refl
record_stands _ d r = absurd d

told_stands : (l : LineWords) → Delivers l → (x : Told) → Stands (Event l) x
told_stands l d (Shown r) = record_stands l d r
told_stands l d _ = tt

all_stand : (l : LineWords) → Delivers l → (xs : List Told) → Every (Stands (Event l)) xs
all_stand l d [] = tt
all_stand l d (x ∷ xs) = (told_stands l d x, all_stand l d xs)

-- ---- a cut event leaves no more than its one version, and the stop ----

cut_stands : (l : ScheduleLine) (s : ℕ) (v : SiteView) (o : Outcome SiteView) (d : DiskWrite) (a : Armed) → o.written ≡ Some d → OnDisk s v.store.copies o.view.store.copies o.told o.written → Every (Stands l) o.told → Every (Stands l) (cut_told s v.store d a.how a.left)
cut_stands l s v o d a q (inl k) h = absurd (none_some d (sym k.none ∙ q))
cut_stands l s v o d a q (inr k) h = by_disk (is_on_disk v.store d a.how a.left)
  where
    same : k.0 ≡ d
    same = some_same k.0 d (sym k.1.is_written ∙ q)

    one : Stands l (Shown d.says)
    one = subst (λ (x : DiskWrite). Stands l (Shown x.says)) same (every_here (Stands l) k.1.before (Shown k.0.says) k.1.after (subst (Every (Stands l)) k.1.told_is h))

    by_disk : (b : Bool) → Every (Stands l) (cond b (Shown d.says ∷ Shown (says.Stopped s (cause_of a.how)) ∷ []) (Shown (says.Stopped s (cause_of a.how)) ∷ []))
    by_disk true = (one, (refl, tt))
    by_disk false = (refl, tt)

-- ---- what is told stands ----

abbrev StandsTold : List ScheduleLine → ℕ → List Line → Told → Type 0
StandsTold lines n t x = Stands (line_at lines n) x

stands_onto : (lines : List ScheduleLine) (n : ℕ) (xs : List Told) (t : List Line) → Every (Stands (line_at lines n)) xs → EachLine (StandsTold lines) t → EachLine (StandsTold lines) (told_onto n xs t)
stands_onto lines n [] t k h = h
stands_onto lines n (x ∷ xs) t k h = stands_onto lines n xs (more n x t) k.1 (k.0, h)

-- where the world is as it may be
abbrev AllStand : Config → List ScheduleLine → World → Type 0
AllStand c lines w = IsRest c w.trace → EachLine (StandsTold lines) w.trace

happened_stands : (c : Config) (lines : List ScheduleLine) (n : ℕ) (ps : List Packet) (told : List Told) (change : World → World) (w : World) → (IsRest c w.trace → Every (Stands (line_at lines n)) told) → AllStand c lines w → AllStand c lines (happened n ps told change w)
happened_stands c lines n ps told change w k h = happened_keeps (AllStand c lines) n ps told change w h (λ l r. h r) (λ a b d r. (let old : IsRest c w.trace = rest_before c n told w.trace r in stands_onto lines n told w.trace (k old) (h old)))

does : (c : Config) (lines : List ScheduleLine) (n s : ℕ) (links : Links) (e : views.Event) (v : SiteView) (w : World) → (IsRest c w.trace → Every (Stands (line_at lines n)) (step c s links v e).told) → AllStand c lines w → AllStand c lines (acts n s v (step c s links v e) w)
does c lines n s links e v w k h = acts_cases (AllStand c lines) n s v (step c s links v e) w
    (happened_stands c lines n _ _ (λ now. puts s (Running (step c s links v e).view) now) w k h)
    (λ a. happened_stands c lines n _ _ (λ now. puts s (Running (step c s links v e).view) (arms a now)) w k h)
    (λ d a q. happened_stands c lines n [] (cut_told s v.store d a.how a.left) (stops_with s (cut_disk v.boot v.store d a.how a.left)) w (λ r. cut_stands (line_at lines n) s v (step c s links v e) d a q (step_disk c s links v e) (k r)) h)

booted : (c : Config) (lines : List ScheduleLine) (n s : ℕ) (b : Booted) (w : World) → AllStand c lines w → AllStand c lines (boots_as n s b w)
booted c lines n s (Whole x a) w h = happened_stands c lines n [] (Shown (says.Up s x.label.boot) ∷ []) (λ now. rearms s a (puts s (Running (fresh x.label.boot x.copies)) now)) w (λ r. (refl, tt)) h
booted c lines n s (CutOff x how) w h = happened_stands c lines n [] (Shown (says.Stopped s (cause_of how)) ∷ []) (stops_with s x) w (λ r. (refl, tt)) h

-- ---- inside an epoch no round is undecided ----

inside_some : (o : Option InEpoch) → not (is_some o) ≡ false → (e : InEpoch) × (o ≡ Some e)
inside_some None k = absurd (true_false k)
inside_some (Some e) k = (e, refl)

no_round : (w : World) (l : LineWords) (s : ℕ) (v : SiteView) → LineGives w l s GivesUp → place_at w s ≡ Some (Running v) → Good w → v.round ≡ None
no_round w (line.GiveUp site) s v g here good = by_round v.round refl
  where
    there : (e : InEpoch) × (v.epoch ≡ Some e)
    there = inside_some v.epoch (ap is_in_no_epoch (sym (ap (place_at w) g.0 ∙ here)) ∙ g.1)

    by_round : (o : Option Round) → v.round ≡ o → o ≡ None
    by_round None h = refl
    by_round (Some r) h = absurd (true_false (sym ((good.views s v here).inside there.0 there.1).1 ∙ ((good.views s v here).round r h).joins_later))
no_round w _ s v g here good = absurd g

-- ---- no mend is left to start ----

among_mapped : (P : ℕ → Type 0) (ts : List SyncTable) (t : SyncTable) → Every P (map table_group ts) → Among t ts → P t.group
among_mapped P [] t h a = absurd a
among_mapped P (x ∷ ts) t h (inl e) = subst (λ (y : SyncTable). P y.group) (sym e) h.0
among_mapped P (x ∷ ts) t h (inr a) = among_mapped P ts t h.1 a

passed_all : (p : ℕ → Bool) (Q : ℕ → Type 0) (xs : List ℕ) → Every Q xs → Every (λ (g : ℕ). (p g ≡ true) × Q g) (filter p xs)
passed_all p Q [] h = tt
passed_all p Q (x ∷ xs) h = at (p x) refl (passed_all p Q xs h.1)
  where
    at : (b : Bool) → p x ≡ b → Every (λ (g : ℕ). (p g ≡ true) × Q g) (filter p xs) → Every (λ (g : ℕ). (p g ≡ true) × Q g) (cond b (x ∷ filter p xs) (filter p xs))
    at true e k = ((e, h.0), k)
    at false e k = k

all_small : Every (λ (g : ℕ). g < waiting_span) all_groups
all_small = (omega (arith), (omega (arith), (omega (arith), (omega (arith), tt))))

-- its tables are of groups that it synchronizes
abbrev IsSynced : Config → ℕ → InEpoch → ℕ → Type 0
IsSynced c s e g = (is_sync_site c s e.members g ≡ true) × (g < waiting_span)

synced_all : (c : Config) (s boot : ℕ) (e : InEpoch) → Every (IsSynced c s e) (synced_groups (frame_in c s boot e))
synced_all c s boot e = passed_all (is_sync_site c s e.members) (λ (g : ℕ). g < waiting_span) (own_groups c s) (every_filter (λ (g : ℕ). g < waiting_span) (λ (g : ℕ). has (pack_sites c g) s) all_groups all_small)

packed_in : (c : Config) (s : ℕ) (e : InEpoch) (g : ℕ) → is_sync_site c s e.members g ≡ true → is_packed (frame_in c 0 0 e) g ≡ true
packed_in c s e g k = ap is_some_site (is_synced c s e.members g k)

mended : (c : Config) (s : ℕ) (t : List Line) (v : SiteView) (w : World) → SiteFact c s t v → ViewFact (place_at w) s v → MendsHaveStarted c v → IsMended v
mended c s t v w site view starts = by_epoch v.epoch refl site
  where
    by_epoch : (o : Option InEpoch) → v.epoch ≡ o → SiteIn c s t v o → IsMended v
    by_epoch None k fact = inl k
    by_epoch (Some e) k fact = inr (by_round v.round refl, λ x a. record { small = (synced x a).1; none = λ started idle. starts e k (λ y b. packed_in c s e y.group (synced y b).0) x a started (packed_in c s e x.group (synced x a).0) idle })
      where
        synced : (x : SyncTable) → Among x v.tables → IsSynced c s e x.group
        synced x a = among_mapped (IsSynced c s e) v.tables x (subst (Every (IsSynced c s e)) (sym fact.groups) (synced_all c s v.boot e)) a

        by_round : (o : Option Round) → v.round ≡ o → o ≡ None
        by_round None h = refl
        by_round (Some r) h = absurd (true_false (sym (view.inside e k).1 ∙ (view.round r h).joins_later))

-- ---- calls of users ----

user_words : (n : ℕ) (words : Call) → fits_call n words ≡ true → is_mend words ≡ false
user_words n (call.Mend file) k = absurd (true_false (sym k))
user_words n _ k = refl

user_call : (c : Config) (t : List Line) (s : ℕ) (v : SiteView) (e : views.Event) → EventFact c t s v e → IsUserCall e
user_call c t s v (views.Calls process words) may = parts (is_site c.sites s) (nat_le 1 process) (nat_le process 8) refl may.fits
  where
    parts : (a b d : Bool) → nat_le 1 process ≡ b → (a && (b && d) && fits_call c.sites words) ≡ true → (is_mend words ≡ false) × (1 ≤ process)
    parts true true true e k = (user_words c.sites words k, grind (arith, nat_tests, e))
    parts _ _ _ e k = absurd (true_false (sym k))
user_call c t s v _ may = tt

-- ---- all lines ----

record Both (c : Config) (lines : List ScheduleLine) (w : World) : Type 0 where
  holds : Holds c w
  good : Good w
  mends : EachView (MendsHaveStarted c) w
  stand : AllStand c lines w

mends_keep : (c : Config) → KeepsViews c (MendsHaveStarted c)
mends_keep c = record { steps = λ me links v e h. step_mended c me links v e h; booted = λ boot copies e inside. absurd (none_some e inside) }

kept_lines : (c : Config) (lines : List ScheduleLine) → LinesFit c lines → RolesDo c → KeptIn c lines (λ n w. Both c lines w)
kept_lines c lines fit roles = record {
  begins = λ n w le q g. record { holds = all.begins n w le q g.holds; good = g.good; mends = g.mends; stand = g.stand };
  ticks = λ n most s v w at here g. record { holds = all.ticks n most s v w at here g.holds; good = one.steps n s Ticks v w here tt g.good; mends = own.steps n s Ticks v w here tt g.mends; stand = does c lines n s (links_of w s) Ticks v w (λ r. at_line n (line.Settle most) at _ (all_stand (line.Settle most) tt _)) g.stand };
  receives = λ n l x v w at d here sent g. record { holds = all.receives n l x v w at d here sent g.holds; good = one.receives n x v w here sent g.good; mends = own.receives n x v w here sent g.mends; stand = does c lines n x.packet.to (links_of (passed x.number w) x.packet.to) (Receives x.packet) v (passed x.number w) (λ r. at_line n l at _ (all_stand l d _)) g.stand };
  passes = λ n k w g. record { holds = all.passes n k w g.holds; good = one.passes k w g.good; mends = own.passes k w g.mends; stand = g.stand };
  drops = λ n k w g. record { holds = all.drops n k w g.holds; good = one.drops k w g.good; mends = own.drops k w g.mends; stand = g.stand };
  budgets = λ n most w at g. record { holds = all.budgets n most w at g.holds; good = one.budgets n w g.good; mends = own.budgets n w g.mends; stand = happened_stands c lines n [] (Shown says.Budget ∷ []) (λ now. now) w (λ r. (refl, tt)) g.stand };
  voiding = λ n l w le at void g. record { holds = all.voiding n l w le at void g.holds; good = one.voiding (n + 1) w g.good; mends = own.voiding (n + 1) w g.mends; stand = happened_stands c lines (n + 1) [] (Shown says.Void ∷ []) (λ now. now) w (λ r. (refl, tt)) g.stand };
  steps = λ n s l e v w le at gives here g. record { holds = all.steps n s l e v w le at gives here g.holds; good = one.steps (n + 1) s e v w here (gives_own w l s e gives) g.good; mends = own.steps (n + 1) s e v w here (gives_own w l s e gives) g.mends; stand = does c lines (n + 1) s (links_of w s) e v w (λ r. at_line (n + 1) l at _ (own_stand c l s e (links_of w s) v w gives (user_call c w.trace s v e (event_fact c lines (n + 1) s l e v w fit at gives here)) (mended c s w.trace v w ((g.holds r).places s (Running v) here) (g.good.views s v here) (g.mends s v here)) (λ up. no_round w l s v (subst (LineGives w l s) up gives) here g.good))) g.stand };
  cutting = λ n a b w le at cut g. record { holds = all.cutting n a b w le at cut g.holds; good = one.recuts (cuts_circuit a b w).circuits w g.good; mends = own.recuts (cuts_circuit a b w).circuits w g.mends; stand = g.stand };
  mending = λ n a b w le at cut g. record { holds = all.mending n a b w le at cut g.holds; good = one.recuts (mends_circuit a b w).circuits w g.good; mends = own.recuts (mends_circuit a b w).circuits w g.mends; stand = g.stand };
  arming = λ n l a w le at it g. record { holds = all.arming n l a w le at it g.holds; good = one.arming a w g.good; mends = own.arming a w g.mends; stand = g.stand };
  pending = λ n w le at g. record { holds = all.pending n w le at g.holds; good = one.pending (n + 1) w g.good; mends = own.pending (n + 1) w g.mends; stand = happened_stands c lines (n + 1) [] (map packet_record w.underway) (λ now. now) w (λ r. every_map (Stands (line_at lines (n + 1))) packet_record w.underway (λ x. refl)) g.stand };
  stopping = λ n s v w le at here g. record { holds = all.stopping n s v w le at here g.holds; good = one.stopping (n + 1) s v w here g.good; mends = own.stopping (n + 1) s v w here g.mends; stand = happened_stands c lines (n + 1) [] (Shown (says.Stopped s cause.Asked) ∷ []) (stops_with s (disk_of v)) w (λ r. (refl, tt)) g.stand };
  booting = λ n s d w le at here g. record { holds = all.booting n s d w le at here g.holds; good = one.booting (n + 1) s d w here g.good; mends = own.booting (n + 1) s d w here g.mends; stand = booted c lines (n + 1) s (boots (script_of w s) d) w g.stand };
}
  where
    one : Kept c Good
    one = good_kept c

    own : Kept c (EachView (MendsHaveStarted c))
    own = views_kept c (MendsHaveStarted c) (mends_keep c)

    all : KeptIn c lines (λ n w. Holds c w)
    all = kept c lines fit roles (stays c)

    at_line : (n : ℕ) (l : LineWords) → IsLine lines n l → (xs : List Told) → Every (Stands (Event l)) xs → Every (Stands (line_at lines n)) xs
    at_line n l at xs k = subst (λ (x : ScheduleLine). Every (Stands x) xs) (sym at) k

-- ---- by the printed trace ----

placed_told : (lines : List ScheduleLine) (n : ℕ) (t : List Line) (x : Told) → StandsTold lines n t x → EachRecord (StandsWhereItMay lines) (entries t) → EachRecord (StandsWhereItMay lines) (entries (more n x t))
placed_told lines n t (Shown r) fact k = (fact, k)
placed_told lines n t _ fact k = k

each_placed : (lines : List ScheduleLine) (t : List Line) → EachLine (StandsTold lines) t → EachRecord (StandsWhereItMay lines) (entries t)
each_placed lines [] k = tt
each_placed lines (x ∷ older) k = placed_told lines x.number older x.told k.0 (each_placed lines older k.1)

pub records_stand : (lines : List ScheduleLine) → AreInOrder lines → EachRecord (StandsWhereItMay lines) (trace_of (run lines))
records_stand lines order =
    let c : Config = config_of lines in
    let few : length c.packs ≤ 4 = omega (arith, four_groups lines) in
    let roles : RolesDo c = roles_do c few in
    let ends : Both c lines (run lines) = every_line c lines (λ n w. Both c lines w) (kept_lines c lines (schedule_fits lines order) roles) (record { holds = first_holds c roles; good = first_good c; mends = views_first c (MendsHaveStarted c) (mends_keep c); stand = λ r. tt }) in
    subst (EachRecord (StandsWhereItMay lines)) (sym (shown_entries (run lines).trace)) (each_placed lines (run lines).trace (ends.stand (run_rests c lines (schedule_fits lines order) (schedule_packs lines order) (run_low c lines))))
