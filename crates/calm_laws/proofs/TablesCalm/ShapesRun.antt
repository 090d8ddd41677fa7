-- In every run the tables of each site have their shape.
use Rattle.std.proofs.Common.{◌≡◌, ◌≢◌, ◌≤◌, ℕ, ◌+◌, List, [], ◌∷◌, map, Option, Some, None, refl, sym, ◌∙◌, ap, subst, ◌⊎◌, inl, inr, arith}
use Rattle.role_steps.proofs.of_plain_facts.Options.{some_same}
use Rattle.locus_ids.specs.declared.config.Config.{Config}
use Rattle.locus_ids.specs.declared.ids.EpochId.{EpochId}
use Rattle.locus_ids.specs.declared.ids.Serial.{Serial}
use Rattle.schedule_lines.specs.declared.line.ScheduleLine.{ScheduleLine}
use Rattle.trace_book.specs.declared.record.Record.{Record}
use Rattle.trace_book.specs.declared.record.Record.TheVariants as says
use Rattle.trace_book.specs.declared.record.StopCause.TheVariants as cause
use Rattle.wire_messages.specs.declared.body.Body.{Body}
use Rattle.wire_messages.specs.declared.packet.Packet.{Packet}
use Rattle.role_steps.specs.Own.{Every}
use Rattle.role_steps.specs.Views.{SiteView, Told, Shown, Event, Outcome, Receives}
use Rattle.role_steps.specs.declared.rounds.InEpoch.{InEpoch}
use Rattle.role_steps.specs.declared.synchronizing.Early.{Early}
use Rattle.role_steps.specs.declared.synchronizing.LastLook.{LastLook}
use Rattle.role_steps.specs.declared.synchronizing.OpenRow.{OpenRow}
use Rattle.role_steps.specs.declared.synchronizing.SyncTable.{SyncTable}
use Rattle.the_run.specs.Disks.{Disk, Booted, Whole, CutOff, boots, cut_disk}
use Rattle.the_run.specs.Kept.{Among, Kept, IsOwn, WasSent}
use Rattle.the_run.specs.Runs.{boots_as, packet_record, run_in}
use Rattle.the_run.specs.Steps.{step}
use Rattle.the_run.specs.Worlds.{World, Running, Stopped, Numbered, Line, links_of, place_at, script_of, happened, told_onto, numbered_from, newest_onto, disk_of, puts, arms, passed, cut_told, stops_with, cause_of, acts, fresh, first_world}
use Rattle.the_run.proofs.Boots.{at_each, acts_cases, every_weaker}
use Rattle.the_run.proofs.Events.{happened_keeps, puts_other, puts_same}
use Rattle.the_run.proofs.Runs.{every_run}
use Rattle.site_laws.proofs.Packs.WriterAsksRun.{newest_leads}
use Rattle.site_laws.proofs.Makes.RunningUnderway.{UnderwaySent, sent_among, underway_kept, first_underway}
use Rattle.site_laws.specs.Makes.Made.{IsSender, NumberedSender, WorldSent}
use Rattle.site_laws.proofs.Makes.SendersRun.{sent_kept, first_sent}
use Rattle.site_laws.proofs.of_run_laws.Walks.FirstWorld.{first_views}
use Rattle.calm_laws.specs.TablesCalm.Shapes.{CameIn, IsRequest, IsAnswered, IsNamedIn, IsMaking, RowShape, ShapeIn, AreShaped, TablesAreShaped}
use Rattle.calm_laws.proofs.TablesCalm.Shaping.{TellsRecord, TellsNamed}
use Rattle.calm_laws.proofs.TablesCalm.Shaped.{WasSentFor, step_keeps}

-- ---- more is told and sent ----

-- what is named there is named here
abbrev More : List Line → List Line → Type 0
More old new = (e : EpochId) (group : ℕ) (i : Serial) → IsNamedIn old e group i → IsNamedIn new e group i

onto_more : (n : ℕ) (told : List Told) (trace : List Line) → More trace (told_onto n told trace)
onto_more n [] trace e group i k = k
onto_more n (x ∷ xs) trace e group i k = onto_more n xs (record { number = n; told = x } ∷ trace) e group i (k.0, inr k.1, k.2)

record_named : (n : ℕ) (r : Record) (trace : List Line) → TellsRecord (IsNamedIn (record { number = n; told = Shown r } ∷ trace)) r
record_named n (says.Grant at call number inst m file stamp ss) trace = (record { number = n; told = Shown (says.Grant at call number inst m file stamp ss) }, inl refl, (refl, refl, refl))
record_named n (says.Refuse at call number inst m file why) trace = (record { number = n; told = Shown (says.Refuse at call number inst m file why) }, inl refl, (refl, refl, refl))
record_named n _ trace = tt

told_named : (n : ℕ) (x : Told) (trace : List Line) → TellsNamed (IsNamedIn (record { number = n; told = x } ∷ trace)) x
told_named n (Shown r) trace = record_named n r trace
told_named n _ trace = tt

record_more : (old new : List Line) → More old new → (r : Record) → TellsRecord (IsNamedIn old) r → TellsRecord (IsNamedIn new) r
record_more old new more (says.Grant at call number inst m file stamp ss) k = more at file.group inst k
record_more old new more (says.Refuse at call number inst m file why) k = more at file.group inst k
record_more old new more _ k = tt

told_more : (old new : List Line) → More old new → (x : Told) → TellsNamed (IsNamedIn old) x → TellsNamed (IsNamedIn new) x
told_more old new more (Shown r) k = record_more old new more r k
told_more old new more _ k = tt

-- what an event tells is named then
onto_named : (n : ℕ) (told : List Told) (trace : List Line) → Every (TellsNamed (IsNamedIn (told_onto n told trace))) told
onto_named n [] trace = tt
onto_named n (x ∷ xs) trace = (
  told_more (record { number = n; told = x } ∷ trace) (told_onto n xs (record { number = n; told = x } ∷ trace)) (onto_more n xs (record { number = n; told = x } ∷ trace)) x (told_named n x trace),
  onto_named n xs (record { number = n; told = x } ∷ trace),
)

-- all that was sent there was sent here
abbrev MoreSent : List Numbered → List Numbered → Type 0
MoreSent old new = (x : Numbered) → Among x old → Among x new

came_more : (old new : List Numbered) → MoreSent old new → (e : EpochId) (from : ℕ) (b : Body) → CameIn old e from b → CameIn new e from b
came_more old new more e from b k = (k.0, more k.0 k.1, k.2, k.3, k.4)

-- ---- shapes stay ----

module _ (old new : List Line) (more : More old new) (sent later : List Numbered) (all : MoreSent sent later) where
  row_more : (e : InEpoch) (group : ℕ) (r : OpenRow) → RowShape e (IsNamedIn old e.id group) group r → RowShape e (IsNamedIn new e.id group) group r
  row_more e group r k = record { group_is = k.group_is; asked = k.asked; was_named = over k.was_named }
    where
      over : IsMaking r ⊎ IsNamedIn old e.id group r.inst → IsMaking r ⊎ IsNamedIn new e.id group r.inst
      over (inl z) = inl z
      over (inr z) = inr (more e.id group r.inst z)

  early_more : (e : InEpoch) (group : ℕ) (x : Early) → IsRequest e (CameIn sent) group x → IsRequest e (CameIn later) group x
  early_more e group x k = (k.0, came_more sent later all e.id x.site x.body k.1)

  look_more : (e : InEpoch) (l : LastLook) → IsAnswered e (CameIn sent) l → IsAnswered e (CameIn later) l
  look_more e l k = (k.0, k.1, k.2, came_more sent later all e.id l.site _ k.3)

  table_more : (c : Config) (s : ℕ) (o : Option InEpoch) (t : SyncTable) → ShapeIn c s (IsNamedIn old) (CameIn sent) o t → ShapeIn c s (IsNamedIn new) (CameIn later) o t
  table_more c s None t k = tt
  table_more c s (Some e) t k = record {
    synced = k.synced;
    own = k.own;
    early = every_weaker (IsRequest e (CameIn sent) t.group) (IsRequest e (CameIn later) t.group) t.early (early_more e t.group) k.early;
    looks = every_weaker (IsAnswered e (CameIn sent)) (IsAnswered e (CameIn later)) t.looks (look_more e) k.looks;
    holders = k.holders;
    opens = every_weaker (RowShape e (IsNamedIn old e.id t.group) t.group) (RowShape e (IsNamedIn new e.id t.group) t.group) t.opens (row_more e t.group) k.opens;
  }

  all_more : (c : Config) (s : ℕ) (o : Option InEpoch) (ts : List SyncTable) → AreShaped c s (IsNamedIn old) (CameIn sent) o ts → AreShaped c s (IsNamedIn new) (CameIn later) o ts
  all_more c s o ts h = every_weaker (ShapeIn c s (IsNamedIn old) (CameIn sent) o) (ShapeIn c s (IsNamedIn new) (CameIn later) o) ts (table_more c s o) h

-- ---- one event ----

abbrev ShapedBy : Config → List Line → List Numbered → World → Type 0
ShapedBy c trace sent w = (s : ℕ) (v : SiteView) → place_at w s ≡ Some (Running v) → AreShaped c s (IsNamedIn trace) (CameIn sent) v.epoch v.tables

-- what the world has sent once these are sent too
abbrev sent_then : List Packet → World → List Numbered
sent_then ps w = newest_onto (numbered_from (w.packets + 1) ps) w.sent

later_shaped : (c : Config) (n : ℕ) (ps : List Packet) (told : List Told) (w : World) → TablesAreShaped c w → ShapedBy c (told_onto n told w.trace) (sent_then ps w) w
later_shaped c n ps told w g s v here = all_more w.trace (told_onto n told w.trace) (onto_more n told w.trace) w.sent (sent_then ps w) (newest_leads (numbered_from (w.packets + 1) ps) w.sent) c s v.epoch v.tables (g s v here)

happens : (c : Config) (n : ℕ) (ps : List Packet) (told : List Told) (change : World → World) (w : World) → (change w).sent ≡ w.sent → ShapedBy c (told_onto n told w.trace) (sent_then ps w) (change w) → TablesAreShaped c w → TablesAreShaped c (happened n ps told change w)
happens c n ps told change w same views g = happened_keeps (TablesAreShaped c) n ps told change w g (λ l. g)
    (λ k b t s v here. subst (λ (xs : List Numbered). AreShaped c s (IsNamedIn (told_onto n told w.trace)) (CameIn (newest_onto (numbered_from (w.packets + 1) ps) xs)) v.epoch v.tables) (sym same) (views s v here))

-- the sites stay as they are
nothing_changes : (c : Config) (n : ℕ) (told : List Told) (w : World) → TablesAreShaped c w → TablesAreShaped c (happened n [] told (λ now. now) w)
nothing_changes c n told w g = happens c n [] told (λ now. now) w refl (later_shaped c n [] told w g) g

running_view : (v u : SiteView) → Running v ≡ Running u → v ≡ u
running_view v u e = cc

stopped_never : (d : Disk) (v : SiteView) → Stopped d ≡ Running v → ⊥
stopped_never d v e = cc

puts_running : (c : Config) (trace : List Line) (sent : List Numbered) (s : ℕ) (new : SiteView) (w : World) → AreShaped c s (IsNamedIn trace) (CameIn sent) new.epoch new.tables → ShapedBy c trace sent w → ShapedBy c trace sent (puts s (Running new) w)
puts_running c trace sent s new w h g t v here = at_each s t (AreShaped c t (IsNamedIn trace) (CameIn sent) v.epoch v.tables)
    (λ e. subst (λ (n : ℕ). AreShaped c n (IsNamedIn trace) (CameIn sent) v.epoch v.tables) e
    (subst (λ (u : SiteView). AreShaped c s (IsNamedIn trace) (CameIn sent) u.epoch u.tables) (running_view new v (some_same (Running new) (Running v) (sym (puts_same s (Running new) w) ∙ (ap (place_at (puts s (Running new) w)) e ∙ here)))) h))
    (λ ne. g t v (sym (puts_other s t (Running new) w ne) ∙ here))

puts_stopped : (c : Config) (trace : List Line) (sent : List Numbered) (s : ℕ) (d : Disk) (w : World) → ShapedBy c trace sent w → ShapedBy c trace sent (puts s (Stopped d) w)
puts_stopped c trace sent s d w g t v here = at_each s t (AreShaped c t (IsNamedIn trace) (CameIn sent) v.epoch v.tables)
    (λ e. absurd (stopped_never d v (some_same (Stopped d) (Running v) (sym (puts_same s (Stopped d) w) ∙ (ap (place_at (puts s (Stopped d) w)) e ∙ here)))))
    (λ ne. g t v (sym (puts_other s t (Stopped d) w ne) ∙ here))

-- a site stops
stops : (c : Config) (n s : ℕ) (d : Disk) (told : List Told) (w : World) → TablesAreShaped c w → TablesAreShaped c (happened n [] told (stops_with s d) w)
stops c n s d told w g = happens c n [] told (stops_with s d) w refl (puts_stopped c (told_onto n told w.trace) (sent_then [] w) s d w (later_shaped c n [] told w g)) g

acts_shaped : (c : Config) (n s : ℕ) (v : SiteView) (o : Outcome SiteView) (w : World) → AreShaped c s (IsNamedIn (told_onto n o.told w.trace)) (CameIn (sent_then o.sent w)) o.view.epoch o.view.tables → TablesAreShaped c w → TablesAreShaped c (acts n s v o w)
acts_shaped c n s v o w h g =
    acts_cases (TablesAreShaped c) n s v o w
    (happens c n o.sent o.told (λ now. puts s (Running o.view) now) w refl (puts_running c new sent s o.view w h later) g)
    (λ a. happens c n o.sent o.told (λ now. puts s (Running o.view) (arms a now)) w refl (puts_running c new sent s o.view w h later) g)
    (λ d a e. stops c n s (cut_disk v.boot v.store d a.how a.left) (cut_told s v.store d a.how a.left) w g)
  where
    new : List Line
    new = told_onto n o.told w.trace

    sent : List Numbered
    sent = sent_then o.sent w

    later : ShapedBy c new sent w
    later = later_shaped c n o.sent o.told w g

boots_shaped : (c : Config) (n s : ℕ) (b : Booted) (w : World) → TablesAreShaped c w → TablesAreShaped c (boots_as n s b w)
boots_shaped c n s (Whole x None) w g = happens c n [] (Shown (says.Up s x.label.boot) ∷ []) _ w refl (λ t v at. puts_running c (told_onto n (Shown (says.Up s x.label.boot) ∷ []) w.trace) (sent_then [] w) s (fresh x.label.boot x.copies) w tt (later_shaped c n [] (Shown (says.Up s x.label.boot) ∷ []) w g) t v at) g
boots_shaped c n s (Whole x (Some a)) w g = happens c n [] (Shown (says.Up s x.label.boot) ∷ []) _ w refl (λ t v at. puts_running c (told_onto n (Shown (says.Up s x.label.boot) ∷ []) w.trace) (sent_then [] w) s (fresh x.label.boot x.copies) w tt (later_shaped c n [] (Shown (says.Up s x.label.boot) ∷ []) w g) t v at) g
boots_shaped c n s (CutOff x how) w g = stops c n s x (Shown (says.Stopped s (cause_of how)) ∷ []) w g

-- a step of a site, by the lines that it adds and the packets that it sends, in a world of which only what is under way has changed
stepped : (c : Config) (n s : ℕ) (e : Event) (v : SiteView) (w u : World) → place_at w s ≡ Some (Running v) → u.trace ≡ w.trace → u.sent ≡ w.sent → WasSentFor c s (IsNamedIn w.trace) (CameIn w.sent) e → TablesAreShaped c w →
    AreShaped c s (IsNamedIn (told_onto n (step c s (links_of u s) v e).told u.trace)) (CameIn (sent_then (step c s (links_of u s) v e).sent u)) (step c s (links_of u s) v e).view.epoch (step c s (links_of u s) v e).view.tables
stepped c n s e v w u here same_trace same_sent was g =
    step_keeps c s (IsNamedIn new) (CameIn sent) (links_of u s) v e (sent_for e was) (onto_named n o.told u.trace)
    (all_more w.trace new (λ i group j k. onto_more n o.told u.trace i group j (subst (λ (t : List Line). IsNamedIn t i group j) (sym same_trace) k)) w.sent sent more_sent c s v.epoch v.tables (g s v here))
  where
    o : Outcome SiteView
    o = step c s (links_of u s) v e

    new : List Line
    new = told_onto n o.told u.trace

    sent : List Numbered
    sent = sent_then o.sent u

    more_sent : MoreSent w.sent sent
    more_sent x a = newest_leads (numbered_from (u.packets + 1) o.sent) u.sent x (subst (λ (xs : List Numbered). Among x xs) (sym same_sent) a)

    sent_for : (z : Event) → WasSentFor c s (IsNamedIn w.trace) (CameIn w.sent) z → WasSentFor c s (IsNamedIn new) (CameIn sent) z
    sent_for (Receives p) k = (k.0, came_more w.sent sent more_sent p.epoch p.from p.body k.1)
    sent_for _ k = tt

own_sent : (c : Config) (s : ℕ) (w : World) (e : Event) → IsOwn e → WasSentFor c s (IsNamedIn w.trace) (CameIn w.sent) e
own_sent c s w (Receives p) own = absurd own
own_sent c s w _ own = tt

sender_boot : (p : Packet) → IsSender p → p.from_boot ≢ 0
sender_boot p k = low p.from_boot k.boot
  where
    low : (n : ℕ) → 1 ≤ n → n ≡ 0 → ⊥
    low n h z = omega (arith, h, z)

among_every : (x : Numbered) (xs : List Numbered) → Among x xs → Every NumberedSender xs → IsSender x.packet
among_every x [] a h = absurd a
among_every x (y ∷ ys) (inl e) h = subst NumberedSender (sym e) h.0
among_every x (y ∷ ys) (inr a) h = among_every x ys a h.1

-- ---- every run ----

pub record Shaped (c : Config) (w : World) : Type 0 where
  pub senders : WorldSent w
  pub underway : UnderwaySent w
  pub tables : TablesAreShaped c w

received : (c : Config) (x : Numbered) (w : World) → WasSent w x → Shaped c w → WasSentFor c x.packet.to (IsNamedIn w.trace) (CameIn w.sent) (Receives x.packet)
received c x w sent g = (let a : Among x w.sent = sent_among w x sent g.underway in (sender_boot x.packet (among_every x w.sent a g.senders.senders), (x, a, refl, refl, refl)))

pub shaped_kept : (c : Config) → Kept c (Shaped c)
shaped_kept c = record {
  steps = λ n s e v w here own g. record { senders = k.steps n s e v w here own g.senders; underway = j.steps n s e v w here own g.underway; tables = acts_shaped c n s v (step c s (links_of w s) v e) w (stepped c n s e v w w here refl refl (own_sent c s w e own) g.tables) g.tables };
  receives = λ n x v w here sent g. record {
    senders = k.receives n x v w here sent g.senders;
    underway = j.receives n x v w here sent g.underway;
    tables = acts_shaped c n x.packet.to v (step c x.packet.to (links_of (passed x.number w) x.packet.to) v (Receives x.packet)) (passed x.number w) (stepped c n x.packet.to (Receives x.packet) v w (passed x.number w) here refl refl (received c x w sent g) g.tables) g.tables;
  };
  passes = λ i w g. record { senders = k.passes i w g.senders; underway = j.passes i w g.underway; tables = g.tables };
  drops = λ i w g. record { senders = k.drops i w g.senders; underway = j.drops i w g.underway; tables = g.tables };
  recuts = λ xs w g. record { senders = k.recuts xs w g.senders; underway = j.recuts xs w g.underway; tables = g.tables };
  arming = λ a w g. record { senders = k.arming a w g.senders; underway = j.arming a w g.underway; tables = g.tables };
  voiding = λ n w g. record { senders = k.voiding n w g.senders; underway = j.voiding n w g.underway; tables = nothing_changes c n (Shown says.Void ∷ []) w g.tables };
  budgets = λ n w g. record { senders = k.budgets n w g.senders; underway = j.budgets n w g.underway; tables = nothing_changes c n (Shown says.Budget ∷ []) w g.tables };
  pending = λ n w g. record { senders = k.pending n w g.senders; underway = j.pending n w g.underway; tables = nothing_changes c n (map packet_record w.underway) w g.tables };
  stopping = λ n s v w here g. record { senders = k.stopping n s v w here g.senders; underway = j.stopping n s v w here g.underway; tables = stops c n s (disk_of v) (Shown (says.Stopped s cause.Asked) ∷ []) w g.tables };
  booting = λ n s d w here g. record { senders = k.booting n s d w here g.senders; underway = j.booting n s d w here g.underway; tables = boots_shaped c n s (boots (script_of w s) d) w g.tables };
}
  where
    k : Kept c WorldSent
    k = sent_kept c

    j : Kept c UnderwaySent
    j = underway_kept c

-- ---- the first world ----

pub first_shaped : (c : Config) → Shaped c (first_world c)
first_shaped c = record { senders = first_sent c; underway = first_underway c; tables = first_views c (λ s v. AreShaped c s (IsNamedIn []) (CameIn []) v.epoch v.tables) (λ s own. tt) }

pub run_shaped : (c : Config) (lines : List ScheduleLine) → TablesAreShaped c (run_in c lines)
run_shaped c lines = (every_run c (Shaped c) (shaped_kept c) (first_shaped c) lines).tables
