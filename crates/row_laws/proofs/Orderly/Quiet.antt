-- A line that begins no round keeps sites quiet.
use Rattle.std.proofs.Common.{◌≡◌, ℕ, ◌+◌, ◌≤◌, ◌==◌, Bool, true, false, not, ◌||◌, List, [], ◌∷◌, map, Option, Some, None, refl, sym, ◌∙◌, ap, subst, inl, inr, arith}
use Rattle.locus_ids.specs.declared.ids.EpochId.{EpochId}
use Rattle.locus_ids.specs.declared.config.Config.{Config}
use Rattle.role_steps.specs.Epochs.{is_epoch_below}
use Rattle.schedule_lines.specs.declared.line.Line.{Line as LineWords}
use Rattle.schedule_lines.specs.declared.line.Line.TheVariants as line
use Rattle.trace_book.specs.declared.record.Record.TheVariants as says
use Rattle.trace_book.specs.declared.record.StopCause.TheVariants as cause
use Rattle.wire_messages.specs.declared.packet.Packet.{Packet}
use Rattle.wire_messages.specs.declared.body.Body.{Body}
use Rattle.wire_messages.specs.declared.body.Body.TheVariants as body
use Rattle.role_steps.specs.Own.{Every}
use Rattle.role_steps.specs.Tables.{row}
use Rattle.role_steps.specs.Views.{SiteView, Told, Shown, Outcome, Event, Calls, Receives, Ticks, Parts, Merges, GivesUp}
use Rattle.role_steps.proofs.Sending.{every_append}
use Rattle.the_run.specs.Disks.{Disk, Armed, Booted, Whole, CutOff, Stops, Fails, boots, cut_disk}
use Rattle.the_run.specs.Joins.{IsAtMost}
use Rattle.the_run.specs.Kept.{Among, WasSent, IsOwn, with_circuits}
use Rattle.the_run.specs.Laws.{boot_on}
use Rattle.the_run.specs.Steps.{is_dropped, step}
use Rattle.the_run.specs.Worlds.{World, Place, Running, Stopped, Numbered, CutCircuit, number_of, place_at, links_of, script_of, happened, numbered_from, disk_of, puts, arms, passed, loses, stops_with, cut_told, cause_of, acts, happens, happens_at, voids, fresh, is_cut}
use Rattle.the_run.specs.Runs.{packet_at, can_come, arrives_at, arrives, is_stopped, is_in_no_epoch, is_busy, is_lost, unless_void, delivers_line, loses_line, cuts_circuit, mends_circuit, stops_line, boots_line, boots_as, packet_record, act}
use Rattle.the_run.proofs.Boots.{at_each, Reached, boots_reached, acts_cases, every_newest, every_numbered, every_weaker}
use Rattle.the_run.proofs.Events.{happened_keeps, puts_other}
use Rattle.the_run.proofs.InsideSync.{every_without}
use Rattle.the_run.proofs.Joining.{same_at_most}
use Rattle.run_laws.proofs.Run.{found_among}
use Rattle.run_laws.specs.Epochs.Known.{Places, boots_on, FormFact, NumberedFact, Good}
use Rattle.run_laws.proofs.Epochs.Boots.{at_most_trans}
use Rattle.run_laws.proofs.Epochs.Run.{WentOn, Later, same_later, puts_later, running_view, stopped_never, place_there, good_kept}
use Rattle.schedule_lines.specs.declared.line.ScheduleLine.TheVariants.{Event as EventLine}
use Rattle.row_laws.specs.Orderly.Blocks.{StartsNobody}
use Rattle.row_laws.specs.Orderly.Effects.{Promised, Change, SentCase, Sent, Roundless}
use Rattle.row_laws.specs.Orderly.Numbers.{NumbersAscend}
use Rattle.row_laws.specs.Orderly.Quiet.{IsDead, OnPoll, DeadPoll, IsQuiet}
use Rattle.row_laws.proofs.Orderly.Effects.{BeginsNone, change_round, step_roundless}
use Rattle.row_laws.proofs.Orderly.Numbers.{ascend_kept}
use Rattle.row_laws.proofs.Orderly.Rounds.{RoundKept, settles_kept}

-- ---- dead polls stay dead ----

pub dead_later : (at now : Places) (p : Packet) → Later at now → p.to_boot ≤ boots_on at p.to → IsDead at p → IsDead now p
dead_later at now p l had h v here same = by_case (l.went p.to v here)
  where
    by_case : WentOn at p.to v → IsAtMost p.epoch v.promised
    by_case (inl g) = at_most_trans p.epoch g.0.promised v.promised (h g.0 g.1 (g.2 ∙ same)) g.3
    by_case (inr g) = absurd (omega (arith, g, same, had))

poll_later : (at now : Places) (p : Packet) (x : Body) → Later at now → FormFact (boots_on at) p x → OnPoll (IsDead at p) x → OnPoll (IsDead now p) x
poll_later at now p body.Poll l f h = dead_later at now p l f.had h
poll_later at now p _ l f h = tt

pub every_pair : {A : Type 0} (P Q R : A → Type 0) (xs : List A) → ((x : A) → P x → Q x → R x) → Every P xs → Every Q xs → Every R xs
every_pair P Q R [] f h g = tt
every_pair P Q R (x ∷ xs) f h g = (f x h.0 g.0, every_pair P Q R xs f h.1 g.1)

polls_later : (at now : Places) (xs : List Numbered) → Later at now → Every (NumberedFact at) xs → Every (DeadPoll at) xs → Every (DeadPoll now) xs
polls_later at now xs l f h = every_pair (NumberedFact at) (DeadPoll at) (DeadPoll now) xs (λ x k d. poll_later at now x.packet x.packet.body l k.1 d) f h

-- ---- one event ----

abbrev pub NoPoll : Packet → Type 0
NoPoll p = OnPoll ⊥ p.body

no_poll : (A : Type 0) (x : Body) → OnPoll ⊥ x → OnPoll A x
no_poll A body.Poll h = absurd h
no_poll A _ h = tt

happened_quiet : (n : ℕ) (ps : List Packet) (told : List Told) (change : World → World) (w : World) → Later (place_at w) (place_at (change w)) → ((s : ℕ) (v : SiteView) → place_at (change w) s ≡ Some (Running v) → v.round ≡ None) →
    (change w).sent ≡ w.sent → (change w).underway ≡ w.underway → Every NoPoll ps → Good w → IsQuiet w → IsQuiet (happened n ps told change w)
happened_quiet n ps told change w later rounds sent underway none g q =
    happened_keeps IsQuiet n ps told change w q
    (λ l. record { rounds = q.rounds; sent = q.sent; underway = q.underway })
    (λ k b t. record {
      rounds = rounds;
      sent = every_newest D (numbered_from (w.packets + 1) ps) (change w).sent added (subst (λ (xs : List Numbered). Every D xs) (sym sent) (polls_later (place_at w) (place_at (change w)) w.sent later g.packets q.sent));
      underway = every_append D (change w).underway (numbered_from (w.packets + 1) ps) (subst (λ (xs : List Numbered). Every D xs) (sym underway) (polls_later (place_at w) (place_at (change w)) w.underway later g.underway q.underway)) added;
    })
  where
    D : Numbered → Type 0
    D = DeadPoll (place_at (change w))

    added : Every D (numbered_from (w.packets + 1) ps)
    added = every_numbered (λ (p : Packet). OnPoll (IsDead (place_at (change w)) p) p.body) (w.packets + 1) ps (every_weaker NoPoll (λ (p : Packet). OnPoll (IsDead (place_at (change w)) p) p.body) ps (λ p h. no_poll (IsDead (place_at (change w)) p) p.body h) none)

puts_rounds : (s : ℕ) (new : Place) (w : World) → IsQuiet w → ((v : SiteView) → new ≡ Running v → v.round ≡ None) → (t : ℕ) (v : SiteView) → place_at (puts s new w) t ≡ Some (Running v) → v.round ≡ None
puts_rounds s new w q fine t v h = at_each s t (v.round ≡ None)
    (λ e. fine v (place_there s new w v (ap (place_at (puts s new w)) e ∙ h)))
    (λ ne. q.rounds t v (sym (puts_other s t new w ne) ∙ h))

stops_quiet : (n s : ℕ) (old : Place) (d : Disk) (told : List Told) (w : World) → place_at w s ≡ Some old → boot_on (Some old) ≤ d.label.boot → Good w → IsQuiet w → IsQuiet (happened n [] told (stops_with s d) w)
stops_quiet n s old d told w here le g q = happened_quiet n [] told (stops_with s d) w (puts_later s old (Stopped d) w here le (λ v e. absurd (stopped_never d v e))) (puts_rounds s (Stopped d) w q (λ v e. absurd (stopped_never d v e))) refl refl tt g q

told_quiet : (n : ℕ) (told : List Told) (w : World) → Good w → IsQuiet w → IsQuiet (happened n [] told (λ now. now) w)
told_quiet n told w g q = happened_quiet n [] told (λ now. now) w (same_later (place_at w)) q.rounds refl refl tt g q

-- a poll that comes is dead
abbrev EventDead : Places → ℕ → Event → Type 0
EventDead at s (Receives p) = (p.to ≡ s) × OnPoll (IsDead at p) p.body
EventDead at s _ = Unit {0}

pub greater_not : (a b : EpochId) → IsAtMost b a → is_epoch_below a b ≡ true → ⊥
greater_not a b h e = true_false (sym e ∙ h)
  where
    true_false : true ≡ false → ⊥
    true_false k = cc

promised_never : (at : Places) (s : ℕ) (v u : SiteView) (e : Event) → at s ≡ Some (Running v) → EventDead at s e → Promised v e u → ⊥
promised_never at s v u e here dead h =
    let d : EventDead at s (Receives h.poll) = subst (EventDead at s) h.comes dead in
    let k : IsDead at h.poll = subst (OnPoll (IsDead at h.poll)) h.is_poll d.1 in
    greater_not v.promised h.poll.epoch (k v (ap at d.0 ∙ here) (sym h.to_boot)) h.greater

-- in quiet a site keeps what it has promised
change_promised : (at : Places) (s : ℕ) (v u : SiteView) (e : Event) → at s ≡ Some (Running v) → EventDead at s e → Change s v e u → (u.boot ≡ v.boot) × (u.promised ≡ v.promised)
change_promised at s v u e here dead (inl h) = (h.boot, h.promised)
change_promised at s v u e here dead (inr (inl h)) = (h.boot, h.promised)
change_promised at s v u e here dead (inr (inr (inl h))) = absurd (promised_never at s v u e here dead h)
change_promised at s v u e here dead (inr (inr (inr h))) = (h.boot, h.promised)

pub sent_no_poll : (s : ℕ) (links : _) (v : SiteView) (e : Event) (u : SiteView) (p : Packet) (x : Body) → SentCase s links v e u p x → OnPoll ⊥ x
sent_no_poll s links v e u p body.Poll h = h
sent_no_poll s links v e u p _ h = tt

acts_quiet : (c : Config) (n s : ℕ) (e : Event) (v : SiteView) (w : World) → place_at w s ≡ Some (Running v) → BeginsNone e → EventDead (place_at w) s e → Good w → IsQuiet w → IsQuiet (acts n s v (step c s (links_of w s) v e) w)
acts_quiet c n s e v w here own dead g q =
    acts_cases IsQuiet n s v o w
    (happened_quiet n o.sent o.told (λ now. puts s (Running o.view) now) w later rounds refl refl none g q)
    (λ a. happened_quiet n o.sent o.told (λ now. puts s (Running o.view) (arms a now)) w later rounds refl refl none g q)
    (λ d a f. stops_quiet n s (Running v) (cut_disk v.boot v.store d a.how a.left) (cut_told s v.store d a.how a.left) w here (omega arith) g q)
  where
    o : Outcome SiteView
    o = step c s (links_of w s) v e

    r : Roundless s (links_of w s) v e o
    r = step_roundless c s (links_of w s) v e (q.rounds s v here) (g.views s v here).tables own

    kept : (o.view.boot ≡ v.boot) × (o.view.promised ≡ v.promised)
    kept = change_promised (place_at w) s v o.view e here dead r.change

    later : Later (place_at w) (place_at (puts s (Running o.view) w))
    later = puts_later s (Running v) (Running o.view) w here (let b : o.view.boot ≡ v.boot = kept.0 in omega (arith, b))
        (λ u f. subst (λ (y : SiteView). WentOn (place_at w) s y) (running_view o.view u f) (inl (v, here, sym kept.0, subst (λ (i : EpochId). IsAtMost v.promised i) (sym kept.1) (same_at_most v.promised))))

    rounds : (t : ℕ) (u : SiteView) → place_at (puts s (Running o.view) w) t ≡ Some (Running u) → u.round ≡ None
    rounds = puts_rounds s (Running o.view) w q (λ u f. subst (λ (y : SiteView). y.round ≡ None) (running_view o.view u f) (change_round s v e o.view (q.rounds s v here) r.change))

    none : Every NoPoll o.sent
    none = every_weaker (Sent s (links_of w s) v e o.view) NoPoll o.sent (λ p h. sent_no_poll s (links_of w s) v e o.view p p.body h) r.sent

boots_quiet : (n s : ℕ) (d x : Disk) (change : World → World) (w : World) → place_at w s ≡ Some (Stopped d) → d.label.boot + 1 ≤ x.label.boot → place_at (change w) ≡ place_at (puts s (Running (fresh x.label.boot x.copies)) w) → (change w).sent ≡ w.sent → (change w).underway ≡ w.underway → Good w → IsQuiet w →
    IsQuiet (happened n [] (Shown (says.Up s x.label.boot) ∷ []) change w)
boots_quiet n s d x change w here above same sent underway g q =
    happened_quiet n [] (Shown (says.Up s x.label.boot) ∷ []) change w (subst (λ (at : Places). Later (place_at w) at) (sym same) later)
    (subst (λ (at : Places). (t : ℕ) (u : SiteView) → at t ≡ Some (Running u) → u.round ≡ None) (sym same) rounds) sent underway tt g q
  where
    view : SiteView
    view = fresh x.label.boot x.copies

    later : Later (place_at w) (place_at (puts s (Running view) w))
    later = puts_later s (Stopped d) (Running view) w here (omega (arith, above)) (λ u e. inr (let a : boots_on (place_at w) s ≡ d.label.boot = ap boot_on here in let b : x.label.boot ≡ u.boot = ap (λ (y : SiteView). y.boot) (running_view view u e) in omega (arith, a, b, above)))

    rounds : (t : ℕ) (u : SiteView) → place_at (puts s (Running view) w) t ≡ Some (Running u) → u.round ≡ None
    rounds = puts_rounds s (Running view) w q (λ u e. subst (λ (y : SiteView). y.round ≡ None) (running_view view u e) refl)

as_quiet : (n s : ℕ) (d : Disk) (b : Booted) (w : World) → place_at w s ≡ Some (Stopped d) → Reached d.label.boot (d.label.boot + 1) b → Good w → IsQuiet w → IsQuiet (boots_as n s b w)
as_quiet n s d (Whole x None) w here r g q = boots_quiet n s d x _ w here r refl refl refl g q
as_quiet n s d (Whole x (Some a)) w here r g q = boots_quiet n s d x _ w here r refl refl refl g q
as_quiet n s d (CutOff x how) w here r g q = stops_quiet n s (Stopped d) x (Shown (says.Stopped s (cause_of how)) ∷ []) w here r g q

-- ---- all that stands in quiet ----

pub record Still (w : World) : Type 0 where
  pub good : Good w
  pub ascend : NumbersAscend w
  pub quiet : IsQuiet w

passed_quiet : (k : ℕ) (w : World) → IsQuiet w → IsQuiet (passed k w)
passed_quiet k w q = record { rounds = q.rounds; sent = q.sent; underway = every_without (DeadPoll (place_at w)) number_of k w.underway q.underway }

passed_still : (c : Config) (k : ℕ) (w : World) → Still w → Still (passed k w)
passed_still c k w h = record { good = (good_kept c).passes k w h.good; ascend = (ascend_kept c).passes k w h.ascend; quiet = passed_quiet k w h.quiet }

steps_still : (c : Config) (n s : ℕ) (e : Event) (v : SiteView) (w : World) → place_at w s ≡ Some (Running v) → IsOwn e → BeginsNone e → EventDead (place_at w) s e → Still w → Still (acts n s v (step c s (links_of w s) v e) w)
steps_still c n s e v w here own begins dead h = record { good = (good_kept c).steps n s e v w here own h.good; ascend = (ascend_kept c).steps n s e v w here own h.ascend; quiet = acts_quiet c n s e v w here begins dead h.good h.quiet }

pub dead_sent : (w : World) (x : Numbered) → WasSent w x → IsQuiet w → OnPoll (IsDead (place_at w) x.packet) x.packet.body
dead_sent w x (inl a) q = found_among (DeadPoll (place_at w)) x w.sent q.sent a
dead_sent w x (inr a) q = found_among (DeadPoll (place_at w)) x w.underway q.underway a

receives_still : (c : Config) (n : ℕ) (x : Numbered) (v : SiteView) (w : World) → place_at w x.packet.to ≡ Some (Running v) → WasSent w x → Still w →
    Still (acts n x.packet.to v (step c x.packet.to (links_of (passed x.number w) x.packet.to) v (Receives x.packet)) (passed x.number w))
receives_still c n x v w here sent h = record {
  good = (good_kept c).receives n x v w here sent h.good;
  ascend = (ascend_kept c).receives n x v w here sent h.ascend;
  quiet = acts_quiet c n x.packet.to (Receives x.packet) v (passed x.number w) here tt (refl, dead_sent w x sent h.quiet) ((good_kept c).passes x.number w h.good) (passed_quiet x.number w h.quiet);
}

told_still : (c : Config) (n : ℕ) (told : List Told) (w : World) → Good (happened n [] told (λ now. now) w) → NumbersAscend (happened n [] told (λ now. now) w) → Still w → Still (happened n [] told (λ now. now) w)
told_still c n told w g a h = record { good = g; ascend = a; quiet = told_quiet n told w h.good h.quiet }

voids_still : (c : Config) (n : ℕ) (w : World) → Still w → Still (voids n w)
voids_still c n w h = told_still c n (Shown says.Void ∷ []) w ((good_kept c).voiding n w h.good) ((ascend_kept c).voiding n w h.ascend) h

pub round_still : (c : Config) (n : ℕ) → RoundKept c n Still
round_still c n = record {
  ticks = λ s v w here h. steps_still c n s Ticks v w here tt tt tt h;
  receives = λ x v w here a undropped h. receives_still c n x v w here (inr a) h;
  drops = λ x w a never h. passed_still c x.number w h;
  budgets = λ w h. told_still c n (Shown says.Budget ∷ []) w ((good_kept c).budgets n w h.good) ((ascend_kept c).budgets n w h.ascend) h;
}

-- ---- lines ----

happens_still : (c : Config) (n s : ℕ) (e : Event) (w : World) → IsOwn e → BeginsNone e → ((at : Places) → EventDead at s e) → Still w → Still (happens c n s e w)
happens_still c n s e w own begins dead h = by_place (place_at w s) refl
  where
    by_place : (o : Option Place) → place_at w s ≡ o → Still (happens_at c n s e o w)
    by_place None f = h
    by_place (Some (Stopped d)) f = h
    by_place (Some (Running v)) f = steps_still c n s e v w f own begins (dead (place_at w)) h

unless_still : (c : Config) (n : ℕ) (b : Bool) (f : World → World) (w : World) → (Still w → Still (f w)) → Still w → Still (unless_void n b f w)
unless_still c n true f w k h = voids_still c n w h
unless_still c n false f w k h = k h

arrives_still : (c : Config) (n : ℕ) (x : Numbered) (w : World) → WasSent w x → Still w → Still (arrives c n x w)
arrives_still c n x w sent h = by_place (place_at w x.packet.to) refl
  where
    happening : (v : SiteView) → place_at w x.packet.to ≡ Some (Running v) → Still (happens_at c n x.packet.to (Receives x.packet) (place_at w x.packet.to) (passed x.number w))
    happening v e = subst (λ (o : Option Place). Still (happens_at c n x.packet.to (Receives x.packet) o (passed x.number w))) (sym e) (receives_still c n x v w e sent h)

    by_place : (o : Option Place) → place_at w x.packet.to ≡ o → Still (arrives_at c n x.packet o (passed x.number w))
    by_place None e = passed_still c x.number w h
    by_place (Some (Stopped d)) e = passed_still c x.number w h
    by_place (Some (Running v)) e =
        elim (is_dropped x.packet v) as (λ b. Still (elim b [ true ↦ passed x.number w | false ↦ happens c n x.packet.to (Receives x.packet) (passed x.number w) ])) [
          | true ↦ passed_still c x.number w h
          | false ↦ happening v e
        ]

pub row_there : {A : Type 0} (key : A → ℕ) (k : ℕ) (xs : List A) (x : A) → row key k xs ≡ Some x → Among x xs
row_there key k [] x e = absurd (none_some x e)
  where
    none_some : {A : Type 0} (x : A) → ◌≡◌ {A = Option A} None (Some x) → ⊥
    none_some x e = cc
row_there key k (y ∷ ys) x e =
    (elim (key y == k) as (λ b. elim b [ true ↦ Some y | false ↦ row key k ys ] ≡ Some x → Among x (y ∷ ys)) [
      | true ↦ λ f. inl (sym (some_eq y x f))
      | false ↦ λ f. inr (row_there key k ys x f)
    ]) e
  where
    some_eq : {A : Type 0} (x a : A) → ◌≡◌ {A = Option A} (Some x) (Some a) → x ≡ a
    some_eq x a e = cc

delivers_line_still : (c : Config) (n j : ℕ) (o : Option Numbered) (w : World) → packet_at w j ≡ o → Still w → Still (delivers_line c n o w)
delivers_line_still c n j None w e h = voids_still c n w h
delivers_line_still c n j (Some x) w e h = unless_still c n (is_lost w x.number || not (can_come w x)) (arrives c n x) w (λ g. arrives_still c n x w (inl (row_there number_of j w.sent x e)) g) h

loses_still : (c : Config) (k : ℕ) (w : World) → Still w → Still (loses k w)
loses_still c k w h = (let q : IsQuiet (passed k w) = passed_quiet k w h.quiet in record { good = (good_kept c).drops k w h.good; ascend = (ascend_kept c).drops k w h.ascend; quiet = record { rounds = q.rounds; sent = q.sent; underway = q.underway } })

loses_line_still : (c : Config) (n : ℕ) (o : Option Numbered) (w : World) → Still w → Still (loses_line n o w)
loses_line_still c n None w h = voids_still c n w h
loses_line_still c n (Some x) w h = unless_still c n (is_lost w x.number) (loses x.number) w (loses_still c x.number w) h

recuts_still : (c : Config) (xs : List CutCircuit) (w : World) → Still w → Still (with_circuits xs w)
recuts_still c xs w h = record { good = (good_kept c).recuts xs w h.good; ascend = (ascend_kept c).recuts xs w h.ascend; quiet = record { rounds = h.quiet.rounds; sent = h.quiet.sent; underway = h.quiet.underway } }

arms_still : (c : Config) (a : Armed) (w : World) → Still w → Still (arms a w)
arms_still c a w h = record { good = (good_kept c).arming a w h.good; ascend = (ascend_kept c).arming a w h.ascend; quiet = record { rounds = h.quiet.rounds; sent = h.quiet.sent; underway = h.quiet.underway } }

stops_line_still : (c : Config) (n s : ℕ) (o : Option Place) (w : World) → place_at w s ≡ o → Still w → Still (stops_line n s o w)
stops_line_still c n s None w e h = voids_still c n w h
stops_line_still c n s (Some (Stopped d)) w e h = voids_still c n w h
stops_line_still c n s (Some (Running v)) w e h = record { good = (good_kept c).stopping n s v w e h.good; ascend = (ascend_kept c).stopping n s v w e h.ascend; quiet = stops_quiet n s (Running v) (disk_of v) (Shown (says.Stopped s cause.Asked) ∷ []) w e (omega arith) h.good h.quiet }

boots_line_still : (c : Config) (n s : ℕ) (o : Option Place) (w : World) → place_at w s ≡ o → Still w → Still (boots_line n s o w)
boots_line_still c n s None w e h = voids_still c n w h
boots_line_still c n s (Some (Running v)) w e h = voids_still c n w h
boots_line_still c n s (Some (Stopped d)) w e h = record { good = (good_kept c).booting n s d w e h.good; ascend = (ascend_kept c).booting n s d w e h.ascend; quiet = as_quiet n s d (boots (script_of w s) d) w e (boots_reached (script_of w s) d) h.good h.quiet }

voided_still : (c : Config) (n : ℕ) (b : Bool) (f : World → World) (w : World) → b ≡ true → Still w → Still (unless_void n b f w)
voided_still c n true f w e h = voids_still c n w h
voided_still c n false f w e h = absurd (cc)

pub act_still : (c : Config) (n : ℕ) (x : LineWords) (w : World) → StartsNobody (EventLine x) w → Still w → Still (act c n x w)
act_still c n (line.Call s process words) w none h = unless_still c n (is_busy process (place_at w s)) (happens c n s (Calls process words)) w (happens_still c n s (Calls process words) w tt tt (λ at. tt)) h
act_still c n (line.Deliver j) w none h = delivers_line_still c n j (packet_at w j) w refl h
act_still c n (line.Lose j) w none h = loses_line_still c n (packet_at w j) w h
act_still c n (line.Tick s) w none h = unless_still c n (is_stopped (place_at w s)) (happens c n s Ticks) w (happens_still c n s Ticks w tt tt (λ at. tt)) h
act_still c n (line.Down a b) w none h = unless_still c n (is_cut w a b) (cuts_circuit a b) w (recuts_still c (cuts_circuit a b w).circuits w) h
act_still c n (line.Up a b) w none h = unless_still c n (not (is_cut w a b)) (mends_circuit a b) w (recuts_still c (mends_circuit a b w).circuits w) h
act_still c n (line.Part s) w none h = voided_still c n (is_in_no_epoch (place_at w s)) (happens c n s Parts) w none h
act_still c n (line.Merge s) w none h = voided_still c n (is_stopped (place_at w s)) (happens c n s Merges) w none h
act_still c n (line.GiveUp s) w none h = unless_still c n (is_in_no_epoch (place_at w s)) (happens c n s GivesUp) w (happens_still c n s GivesUp w tt tt (λ at. tt)) h
act_still c n (line.Stop s) w none h = stops_line_still c n s (place_at w s) w refl h
act_still c n (line.ArmStop s calls l) w none h = arms_still c (record { site = s; left = calls; how = Stops l }) w h
act_still c n (line.ArmFail s calls) w none h = arms_still c (record { site = s; left = calls; how = Fails }) w h
act_still c n (line.Boot s) w none h = boots_line_still c n s (place_at w s) w refl h
act_still c n (line.Settle budget) w none h = (settles_kept c n Still (round_still c n) budget w h).0
act_still c n line.Pending w none h = told_still c n (map packet_record w.underway) w ((good_kept c).pending n w h.good) ((ascend_kept c).pending n w h.ascend) h
