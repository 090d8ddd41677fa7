-- In every run whose lines fit the cluster, and that passes no limit, each line is told, where it isn't a call.
use Rattle.schedule_lines.specs.Cluster.{config_of}
use Rattle.std.proofs.Common.{◌≡◌, ◌≤◌, ◌<◌, ℕ, zero, suc, ◌+◌, ◌==◌, Bool, true, false, cond, ◌||◌, not, List, [], ◌∷◌, ◌++◌, length, take, map, Option, Some, None, refl, sym, ◌∙◌, ap, subst, arith}
use Rattle.std.proofs.lemmas.Bool.Decides.{nat_tests}
use Rattle.std.specs.Option.{is_none, is_some}
use Rattle.role_steps.proofs.of_plain_facts.Numbers.{equal_self}
use Rattle.role_steps.proofs.of_plain_facts.Tests.{false_true}
use Rattle.locus_ids.specs.declared.config.Config.{Config}
use Rattle.locus_ids.specs.declared.sites.Links.{Links}
use Rattle.schedule_lines.specs.declared.line.Line.{Line as LineWords}
use Rattle.schedule_lines.specs.declared.line.Line.TheVariants as line
use Rattle.schedule_lines.specs.declared.line.ScheduleLine.{ScheduleLine}
use Rattle.schedule_lines.specs.declared.line.ScheduleLine.TheVariants.{Event as EventLine}
use Rattle.trace_book.specs.declared.record.Record.{Record}
use Rattle.trace_book.specs.declared.record.Record.TheVariants as says
use Rattle.trace_book.specs.declared.record.StopCause.TheVariants as cause
use Rattle.role_steps.specs.Own.{Every}
use Rattle.role_steps.specs.Views.{SiteView, Told, Shown, DiskWrite, Outcome, Event, Calls, Receives, Ticks, Parts, Merges, GivesUp}
use Rattle.role_steps.specs.Using.{reply_record}
use Rattle.role_steps.specs.Epochs.{leaves_of}
use Rattle.role_steps.specs.declared.rounds.InEpoch.{InEpoch}
use Rattle.role_steps.specs.declared.users.WaitingCall.{WaitingCall}
use Rattle.role_steps.proofs.Sending.{every_append, every_map}
use Rattle.lawful_trace.specs.of_tree_model.Epochs.{is_up, epoch_of}
use Rattle.site_laws.specs.of_the_run.Disks.{Booted, Whole, CutOff, boots, is_on_disk, cut_disk}
use Rattle.site_laws.specs.of_the_run.Steps.{epoch_id, ends_event, whole, step}
use Rattle.site_laws.specs.of_the_run.Worlds.{World, Running, Stopped, place_at, links_of, script_of, told_onto, puts, arms, passed, stops_with, cut_told, cause_of, acts_of, acts, disk_of}
use Rattle.site_laws.specs.of_the_run.Runs.{is_in_no_epoch, boots_as, packet_record, run_in}
use Rattle.site_laws.proofs.of_the_run.Boots.{acts_cases, every_weaker}
use Rattle.site_laws.specs.of_run_laws.Naming.{DeedsOf, Good}
use Rattle.site_laws.specs.Vectors.Held.{Untouched}
use Rattle.site_laws.proofs.Vectors.SiteDisks.{ends_keeps}
use Rattle.lawful_trace.specs.Places.{line_at}
use Rattle.lawful_trace.specs.LineRows.{is_apart, has_no_effect, tale, must_tell, is_told}
use Rattle.row_laws.specs.Shown.{shown, trace_of}
use Rattle.row_laws.specs.Inward.{RoleWrite}
use Rattle.row_laws.specs.Events.{Causes, SiteRecord, SiteTold, Comes, Forms, causes_of}
use Rattle.row_laws.specs.ByLine.{IsLine, begins_quietly, Gives, Delivers, ArmsAs, KeptIn}
use Rattle.row_laws.specs.Course.{InCourse}
use Rattle.row_laws.specs.Voids.{LinesFit, is_call}
use Rattle.row_laws.specs.Tales.{ToldTo, TalesTold}
use Rattle.row_laws.proofs.Walks.{served_role}
use Rattle.row_laws.proofs.Forming.{role_told, leaves_of_forms}
use Rattle.row_laws.proofs.StepForms.{step_forms, ends_forms}
use Rattle.row_laws.proofs.Causes.{epoch_here, sent_polls}
use Rattle.row_laws.proofs.Voids.{NoVoid, NoVoidRecord, site_told, site_all, void_says, Voids, voids_kept, first_voids}
use Rattle.row_laws.proofs.Tales.{Passes, told_to_onto, told_to_next, voids_told, silent_told, tale_told, quiet_told, course_told, happened_tales}
use Rattle.row_laws.proofs.ByLine.{every_line}

-- ---- the invariant ----

record TalesOf (c : Config) (lines : List ScheduleLine) (n : ℕ) (w : World) : Type 0 where
  voids : Voids c lines n w
  tales : TalesTold lines n w

-- what the line that begins tells, and the lines before
next_told : (lines : List ScheduleLine) (n : ℕ) (told : List Told) (w : World) → TalesTold lines n w → (is_call (line_at lines (n + 1)) ≡ false → is_told lines (shown (told_onto (n + 1) told w.trace)) (n + 1) ≡ true) → w.over ≡ None → ToldTo lines (n + 1) (shown (told_onto (n + 1) told w.trace))
next_told lines n told w t here none = told_to_next lines n (shown (told_onto (n + 1) told w.trace)) (told_to_onto lines n (n + 1) told w.trace (omega arith) (t none)) here

-- ---- in the course of a line ----

course_to : (lines : List ScheduleLine) (n : ℕ) (l : LineWords) (told : List Told) (w : World) → IsLine lines n l → begins_quietly (EventLine l) ≡ true → Every NoVoid told → 1 ≤ n → ToldTo lines n (trace_of w) → ToldTo lines n (shown (told_onto n told w.trace))
course_to lines n l told w is q h one t m low high none =
    (elim (m == n) as (λ b. (m == n) ≡ b → is_told lines (shown (told_onto n told w.trace)) m ≡ true) [
      | true ↦ λ e. subst (λ (k : ℕ). is_told lines (shown (told_onto n told w.trace)) k ≡ true) (sym (same m n e)) (course_told lines n (EventLine l) told w.trace is q h (t n one (at_most n) (subst (λ (k : ℕ). is_call (line_at lines k) ≡ false) (same m n e) none)))
      | false ↦ λ e. told_to_onto lines m n told w.trace (less m n high e) (λ k low_k high_k none_k. t k low_k (at_last k m n high_k high) none_k) m low (at_most m) none
    ]) refl
  where
    same : (m n : ℕ) → (m == n) ≡ true → m ≡ n
    same m n e = grind (arith, nat_tests)

    less : (m n : ℕ) → m ≤ n → (m == n) ≡ false → m < n
    less m n h e = grind (arith, nat_tests)

    at_most : (n : ℕ) → n ≤ n
    at_most n = omega arith

    at_last : (k m n : ℕ) → k ≤ m → m ≤ n → k ≤ n
    at_last k m n h g = omega (arith, h, g)

-- an event of a site, whatever it tells but void lines
acts_tales : (lines : List ScheduleLine) (m s : ℕ) (k : Causes) (v : SiteView) (o : Outcome SiteView) (w : World) → Forms s v.boot k o → ((told : List Told) → Every NoVoid told → w.over ≡ None → ToldTo lines m (shown (told_onto m told w.trace))) → TalesTold lines m (acts m s v o w)
acts_tales lines m s k v o w h t =
    acts_cases (TalesTold lines m) m s v o w
    (happened_tales lines m o.sent o.told (λ now. puts s (Running o.view) now) w (t o.told all))
    (λ a. happened_tales lines m o.sent o.told (λ now. puts s (Running o.view) (arms a now)) w (t o.told all))
    (λ d a e. happened_tales lines m [] (cut_told s v.store d a.how a.left) (stops_with s (cut_disk v.boot v.store d a.how a.left)) w (t (cut_told s v.store d a.how a.left) (cut_none d a.how (is_on_disk v.store d a.how a.left) (site_told s k (Shown d.says) (role_told s k (Shown d.says) (served_role d.says (subst RoleWrite e h.written)))))))
  where
    all : Every NoVoid o.told
    all = site_all s k o.told h.told

    cut_none : (d : DiskWrite) (how : _) (b : Bool) → NoVoidRecord d.says → Every NoVoid (cond b (Shown d.says ∷ Shown (says.Stopped s (cause_of how)) ∷ []) (Shown (says.Stopped s (cause_of how)) ∷ []))
    cut_none d how true h = (h, (tt, tt))
    cut_none d how false h = (tt, tt)

-- ---- lines that aren't void ----

some_false : (b : Bool) → b ≡ true → ◌≡◌ {A = Option Bool} (Some (not b)) (Some false)
some_false b e = ap (λ (x : Bool). Some (not x)) e

some_here : (o : Option InEpoch) → not (is_some o) ≡ false → is_none (epoch_id o) ≡ false
some_here None e = absurd (false_true (sym e))
some_here (Some x) e = refl

not_apart : (c : Config) (lines : List ScheduleLine) (n s : ℕ) (v : SiteView) (w : World) → place_at w s ≡ Some (Running v) → is_in_no_epoch (place_at w s) ≡ false → Good w → InCourse c lines n w → is_apart (config_of lines) (trace_of w) s ≡ false
not_apart c lines n s v w here inside good f =
    ap (λ (b : Bool). not b || is_none (epoch_of (trace_of w) s)) (f.places s (Running v) here).0
    ∙ (ap is_none (epoch_here c lines n s v w here good f) ∙ some_here v.epoch (sym (ap is_in_no_epoch here) ∙ inside))

-- ---- a line that has its site leave ----

abbrev no_causes : Causes
no_causes = record { leave = ⊥; promise = λ id. ⊥; join = λ members. Unit {0}; accept = λ process words. ⊥ }

no_leave_record : (s site : ℕ) (r : Record) → SiteRecord s no_causes r → tale (line.GiveUp site) r ≡ false
no_leave_record s site (says.Leave t id) h = absurd h.1
no_leave_record s site _ h = refl

no_leave : (s site : ℕ) (x : Told) → SiteTold s no_causes x → Passes (tale (line.GiveUp site)) false x
no_leave s site (Shown r) h = no_leave_record s site r h
no_leave s site _ h = tt

-- it writes nothing, and tells of one leave, first
record Leaves (s : ℕ) (o : Outcome SiteView) : Type 0 where
  first : Record
  rest : List Told
  told_is : o.told ≡ Shown first ∷ rest
  leaves_so : tale (line.GiveUp s) first ≡ true
  others : Every (Passes (tale (line.GiveUp s)) false) rest
  none : o.written ≡ None

gives_up : (c : Config) (s : ℕ) (links : Links) (v : SiteView) (o : Option InEpoch) → v.epoch ≡ o → is_some o ≡ true → Forms s v.boot (causes_of s links v GivesUp) (leaves_of s o v) → Leaves s (whole c s links (leaves_of s o v) (λ now. record { view = now; sent = []; told = []; written = None }))
gives_up c s links v None e inside h = absurd (false_true inside)
gives_up c s links v (Some x) e inside h =
    let left : SiteView = (leaves_of s (Some x) v).view in
    let last : Outcome SiteView = ends_event c s links left in
    let k : Untouched left.store.copies last.view.store.copies last.told last.written = ends_keeps c s links left in
    record {
      first = says.Leave s x.id;
      rest = map (λ (w : WaitingCall). reply_record s v.boot w _) v.users.waiting ++ last.told;
      told_is = refl;
      leaves_so = equal_self s;
      others = every_append (Passes (tale (line.GiveUp s)) false) (map (λ (w : WaitingCall). reply_record s v.boot w _) v.users.waiting) last.told
          (every_map (Passes (tale (line.GiveUp s)) false) (λ (w : WaitingCall). reply_record s v.boot w _) v.users.waiting (λ w. refl))
          (every_weaker (SiteTold s no_causes) (Passes (tale (line.GiveUp s)) false) last.told (no_leave s s) (ends_forms s v.boot no_causes c links left (λ m j short. tt) h.boot_is h.view).told);
      none = k.none;
    }

left_some : (o : Option InEpoch) → not (is_some o) ≡ false → is_some o ≡ true
left_some None e = absurd (false_true (sym e))
left_some (Some x) e = refl

give_tales : (c : Config) (lines : List ScheduleLine) (n s : ℕ) (v : SiteView) (w : World) → IsLine lines (n + 1) (line.GiveUp s) → place_at w s ≡ Some (Running v) → is_in_no_epoch (place_at w s) ≡ false → TalesOf c lines n w → TalesTold lines (n + 1) (acts (n + 1) s v (step c s (links_of w s) v GivesUp) w)
give_tales c lines n s v w is here inside p =
    subst (λ (x : Option DiskWrite). TalesTold lines (n + 1) (acts_of (n + 1) s v o x w)) (sym g.none)
    (happened_tales lines (n + 1) o.sent o.told (λ now. puts s (Running o.view) now) w
    (next_told lines n o.told w p.tales (λ none. subst (λ (xs : List Told). is_told lines (shown (told_onto (n + 1) xs w.trace)) (n + 1) ≡ true) (sym g.told_is)
    (tale_told c lines n (line.GiveUp s) g.first g.rest w is p.voids.courses.course (ap Some (not_apart c lines n s v w here inside p.voids.courses.good p.voids.courses.course)) g.leaves_so g.others))))
  where
    o : Outcome SiteView
    o = step c s (links_of w s) v GivesUp

    g : Leaves s o
    g = gives_up c s (links_of w s) v v.epoch refl (left_some v.epoch (sym (ap is_in_no_epoch here) ∙ inside)) (leaves_of_forms s v.boot (causes_of s (links_of w s) v GivesUp) v.epoch v (λ i. tt) refl (p.voids.courses.course.places s (Running v) here).2)

-- ---- the other lines of sites ----

silent_tales : (c : Config) (lines : List ScheduleLine) (n s : ℕ) (l : LineWords) (e : Event) (v : SiteView) (w : World) → Comes e → IsLine lines (n + 1) l → has_no_effect c (take n lines) (trace_of w) l ≡ Some false → must_tell l ≡ false → place_at w s ≡ Some (Running v) → TalesOf c lines n w → TalesTold lines (n + 1) (acts (n + 1) s v (step c s (links_of w s) v e) w)
silent_tales c lines n s l e v w comes is none must here p =
    acts_tales lines (n + 1) s (causes_of s (links_of w s) v e) v (step c s (links_of w s) v e) w (step_forms (DeedsOf w.trace s) s c (links_of w s) v e (p.voids.courses.good.views s v here) (p.voids.courses.course.places s (Running v) here).2 comes)
    (λ told h. next_told lines n told w p.tales (λ q. silent_told c lines n l told w is p.voids.courses.course none must))

call_tales : (c : Config) (lines : List ScheduleLine) (n s : ℕ) (l : LineWords) (e : Event) (v : SiteView) (w : World) → Comes e → IsLine lines (n + 1) l → is_call (EventLine l) ≡ true → place_at w s ≡ Some (Running v) → TalesOf c lines n w → TalesTold lines (n + 1) (acts (n + 1) s v (step c s (links_of w s) v e) w)
call_tales c lines n s l e v w comes is call here p =
    acts_tales lines (n + 1) s (causes_of s (links_of w s) v e) v (step c s (links_of w s) v e) w (step_forms (DeedsOf w.trace s) s c (links_of w s) v e (p.voids.courses.good.views s v here) (p.voids.courses.course.places s (Running v) here).2 comes)
    (λ told h. next_told lines n told w p.tales (λ q. absurd (false_true (sym q ∙ (ap is_call is ∙ call)))))

step_tales : (c : Config) (lines : List ScheduleLine) (n s : ℕ) (l : LineWords) (e : Event) (v : SiteView) (w : World) → IsLine lines (n + 1) l → Gives w l s e → place_at w s ≡ Some (Running v) → TalesOf c lines n w → TalesTold lines (n + 1) (acts (n + 1) s v (step c s (links_of w s) v e) w)
step_tales c lines n s (line.Call site process words) (Calls p x) v w is g here q = call_tales c lines n s (line.Call site process words) (Calls p x) v w tt is refl here q
step_tales c lines n s (line.Tick site) Ticks v w is g here q = silent_tales c lines n s (line.Tick site) Ticks v w tt is (ap (λ (t : ℕ). Some (not (is_up c (trace_of w) t))) g ∙ some_false (is_up c (trace_of w) s) (q.voids.courses.course.places s (Running v) here).0) refl here q
step_tales c lines n s (line.Merge site) Merges v w is g here q = silent_tales c lines n s (line.Merge site) Merges v w tt is (ap (λ (t : ℕ). Some (not (is_up c (trace_of w) t))) g ∙ some_false (is_up c (trace_of w) s) (q.voids.courses.course.places s (Running v) here).0) refl here q
step_tales c lines n s (line.Part site) Parts v w is g here q =
    silent_tales c lines n s (line.Part site) Parts v w tt is (ap (λ (t : ℕ). Some (is_apart c (trace_of w) t)) g.0 ∙ ap Some (not_apart c lines n s v w here (subst (λ (t : ℕ). is_in_no_epoch (place_at w t) ≡ false) g.0 g.1) q.voids.courses.good q.voids.courses.course)) refl here q
step_tales c lines n s (line.GiveUp site) GivesUp v w is g here q =
    give_tales c lines n s v w (subst (λ (t : ℕ). IsLine lines (n + 1) (line.GiveUp t)) g.0 is) here (subst (λ (t : ℕ). is_in_no_epoch (place_at w t) ≡ false) g.0 g.1) q
step_tales c lines n s _ _ v w is g here q = absurd g

-- ---- boots ----

booted_tales : (c : Config) (lines : List ScheduleLine) (n s : ℕ) (b : Booted) (w : World) → IsLine lines (n + 1) (line.Boot s) → is_up c (trace_of w) s ≡ false → TalesOf c lines n w → TalesTold lines (n + 1) (boots_as (n + 1) s b w)
booted_tales c lines n s (Whole d a) w is down p =
    happened_tales lines (n + 1) [] (Shown (says.Up s d.label.boot) ∷ []) _ w (next_told lines n (Shown (says.Up s d.label.boot) ∷ []) w p.tales (λ q. tale_told c lines n (line.Boot s) (says.Up s d.label.boot) [] w is p.voids.courses.course (ap Some down) (equal_self s) tt))
booted_tales c lines n s (CutOff d how) w is down p =
    happened_tales lines (n + 1) [] (Shown (says.Stopped s (cause_of how)) ∷ []) (stops_with s d) w (next_told lines n (Shown (says.Stopped s (cause_of how)) ∷ []) w p.tales (λ q. tale_told c lines n (line.Boot s) (says.Stopped s (cause_of how)) [] w is p.voids.courses.course (ap Some down) (equal_self s) tt))

-- ---- every event and change ----

arming_silent : (c : Config) (lines : List ScheduleLine) (n : ℕ) (l : LineWords) (a : _) (w : World) → IsLine lines (n + 1) l → ArmsAs l a → TalesOf c lines n w → is_told lines (trace_of w) (n + 1) ≡ true
arming_silent c lines n (line.ArmStop site calls left) a w is so p = silent_told c lines n (line.ArmStop site calls left) [] w is p.voids.courses.course refl refl
arming_silent c lines n (line.ArmFail site calls) a w is so p = silent_told c lines n (line.ArmFail site calls) [] w is p.voids.courses.course refl refl
arming_silent c lines n (line.Call site process words) a w is so p = absurd so
arming_silent c lines n (line.Deliver packet) a w is so p = absurd so
arming_silent c lines n (line.Lose packet) a w is so p = absurd so
arming_silent c lines n (line.Tick site) a w is so p = absurd so
arming_silent c lines n (line.Down one other) a w is so p = absurd so
arming_silent c lines n (line.Up one other) a w is so p = absurd so
arming_silent c lines n (line.Part site) a w is so p = absurd so
arming_silent c lines n (line.Merge site) a w is so p = absurd so
arming_silent c lines n (line.GiveUp site) a w is so p = absurd so
arming_silent c lines n (line.Stop site) a w is so p = absurd so
arming_silent c lines n (line.Boot site) a w is so p = absurd so
arming_silent c lines n (line.Settle most) a w is so p = absurd so
arming_silent c lines n line.Pending a w is so p = absurd so

delivers_quietly : (l : LineWords) → Delivers l → begins_quietly (EventLine l) ≡ true
delivers_quietly (line.Deliver packet) d = refl
delivers_quietly (line.Settle most) d = refl
delivers_quietly (line.Call site process words) d = absurd d
delivers_quietly (line.Lose packet) d = absurd d
delivers_quietly (line.Tick site) d = absurd d
delivers_quietly (line.Down one other) d = absurd d
delivers_quietly (line.Up one other) d = absurd d
delivers_quietly (line.Part site) d = absurd d
delivers_quietly (line.Merge site) d = absurd d
delivers_quietly (line.GiveUp site) d = absurd d
delivers_quietly (line.Stop site) d = absurd d
delivers_quietly (line.ArmStop site calls left) d = absurd d
delivers_quietly (line.ArmFail site calls) d = absurd d
delivers_quietly (line.Boot site) d = absurd d
delivers_quietly line.Pending d = absurd d

line_one : (lines : List ScheduleLine) (n : ℕ) (l : LineWords) → IsLine lines n l → 1 ≤ n
line_one lines zero l is = absurd (cc)
line_one lines (suc n) l is = omega arith

tales_kept : (c : Config) (lines : List ScheduleLine) → LinesFit c lines → KeptIn c lines (TalesOf c lines)
tales_kept c lines fit = record {
  begins = λ n w there quiet p. record { voids = kept.begins n w there quiet p.voids; tales = λ none. told_to_next lines n (trace_of w) (p.tales none) (λ q. quiet_told c lines n w quiet p.voids.courses.course) };
  ticks = λ n most s v w is here p. record {
    voids = kept.ticks n most s v w is here p.voids;
    tales = acts_tales lines n s (causes_of s (links_of w s) v Ticks) v (step c s (links_of w s) v Ticks) w (step_forms (DeedsOf w.trace s) s c (links_of w s) v Ticks (p.voids.courses.good.views s v here) (p.voids.courses.course.places s (Running v) here).2 tt)
        (λ told h none. course_to lines n (line.Settle most) told w is refl h (line_one lines n (line.Settle most) is) (p.tales none));
  };
  receives = λ n l x v w is d here sent p. record {
    voids = kept.receives n l x v w is d here sent p.voids;
    tales = acts_tales lines n x.packet.to (causes_of x.packet.to (links_of w x.packet.to) v (Receives x.packet)) v (step c x.packet.to (links_of (passed x.number w) x.packet.to) v (Receives x.packet)) (passed x.number w)
        (step_forms (DeedsOf w.trace x.packet.to) x.packet.to c (links_of (passed x.number w) x.packet.to) v (Receives x.packet) (p.voids.courses.good.views x.packet.to v here) (p.voids.courses.course.places x.packet.to (Running v) here).2 (sent_polls c lines n w x sent p.voids.courses.course))
        (λ told h none. course_to lines n l told w is (delivers_quietly l d) h (line_one lines n l is) (p.tales none));
  };
  passes = λ n k w p. record { voids = kept.passes n k w p.voids; tales = p.tales };
  drops = λ n k w p. record { voids = kept.drops n k w p.voids; tales = p.tales };
  budgets = λ n most w is p. record { voids = kept.budgets n most w is p.voids; tales = happened_tales lines n [] (Shown says.Budget ∷ []) (λ now. now) w (λ none. course_to lines n (line.Settle most) (Shown says.Budget ∷ []) w is refl (tt, tt) (line_one lines n (line.Settle most) is) (p.tales none)) };
  voiding = λ n l w there is void p. record {
    voids = kept.voiding n l w there is void p.voids;
    tales = happened_tales lines (n + 1) [] (Shown says.Void ∷ []) (λ now. now) w (next_told lines n (Shown says.Void ∷ []) w p.tales (λ q. voids_told c lines n l w is p.voids.courses.course (void_says c lines n l w (fit (n + 1) l is) (sym (ap is_call is) ∙ q) void p.voids.courses.good p.voids.courses.course p.voids.voids.places p.voids.voids.circuits)));
  };
  steps = λ n s l e v w there is g here p. record { voids = kept.steps n s l e v w there is g here p.voids; tales = step_tales c lines n s l e v w is g here p };
  cutting = λ n one other w there is cut p. record { voids = kept.cutting n one other w there is cut p.voids; tales = λ none. told_to_next lines n (trace_of w) (p.tales none) (λ q. silent_told c lines n (line.Down one other) [] w is p.voids.courses.course (ap Some (sym (p.voids.voids.circuits one other) ∙ cut)) refl) };
  mending = λ n one other w there is cut p. record { voids = kept.mending n one other w there is cut p.voids; tales = λ none. told_to_next lines n (trace_of w) (p.tales none) (λ q. silent_told c lines n (line.Up one other) [] w is p.voids.courses.course (ap Some (ap not (sym (p.voids.voids.circuits one other)) ∙ cut)) refl) };
  arming = λ n l a w there is so p. record { voids = kept.arming n l a w there is so p.voids; tales = λ none. told_to_next lines n (trace_of w) (p.tales none) (λ q. arming_silent c lines n l a w is so p) };
  pending = λ n w there is p. record { voids = kept.pending n w there is p.voids; tales = happened_tales lines (n + 1) [] (map packet_record w.underway) (λ now. now) w (next_told lines n (map packet_record w.underway) w p.tales (λ q. silent_told c lines n line.Pending (map packet_record w.underway) w is p.voids.courses.course refl refl)) };
  stopping = λ n s v w there is here p. record {
    voids = kept.stopping n s v w there is here p.voids;
    tales = happened_tales lines (n + 1) [] (Shown (says.Stopped s cause.Asked) ∷ []) (stops_with s (disk_of v)) w (next_told lines n (Shown (says.Stopped s cause.Asked) ∷ []) w p.tales
        (λ q. tale_told c lines n (line.Stop s) (says.Stopped s cause.Asked) [] w is p.voids.courses.course (some_false (is_up c (trace_of w) s) (p.voids.courses.course.places s (Running v) here).0) (equal_self s) tt));
  };
  booting = λ n s d w there is here p. record { voids = kept.booting n s d w there is here p.voids; tales = booted_tales c lines n s (boots (script_of w s) d) w is (p.voids.courses.course.places s (Stopped d) here).0 p };
}
  where
    kept : KeptIn c lines (Voids c lines)
    kept = voids_kept c lines fit

none_first_line : (m : ℕ) → 1 ≤ m → m ≤ 0 → ⊥
none_first_line m h g = omega (arith, h, g)

pub run_tales : (c : Config) (lines : List ScheduleLine) → LinesFit c lines → (run_in c lines).over ≡ None → ToldTo lines (length lines) (trace_of (run_in c lines))
run_tales c lines fit none =
    let p : TalesOf c lines (length lines) (run_in c lines) = every_line c lines (TalesOf c lines) (tales_kept c lines fit) (record { voids = first_voids c lines; tales = λ e m low high q. absurd (none_first_line m low high) }) in p.tales none
