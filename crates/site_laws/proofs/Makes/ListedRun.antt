-- In every run the groups that start are listed, as those of tables are.
use Rattle.std.proofs.Common.{◌≡◌, ℕ, Bool, true, false, cond, List, [], ◌∷◌, map, Option, Some, None, sym, ◌∙◌, ap, subst, inl, inr}
use Rattle.role_steps.proofs.of_plain_facts.Options.{some_same}
use Rattle.locus_ids.specs.declared.ids.EpochId.{EpochId}
use Rattle.locus_ids.specs.declared.config.Config.{Config}
use Rattle.trace_book.specs.declared.record.Record.{Record}
use Rattle.trace_book.specs.declared.record.Record.TheVariants as says
use Rattle.trace_book.specs.declared.record.StopCause.{StopCause}
use Rattle.trace_book.specs.declared.record.StopCause.TheVariants as cause
use Rattle.wire_messages.specs.declared.packet.Packet.{Packet}
use Rattle.role_steps.specs.Own.{Every}
use Rattle.role_steps.specs.Views.{Frame, Store, SiteView, Told, Shown, DiskWrite, Outcome, Event, Receives}
use Rattle.role_steps.specs.Epochs.{frame_in}
use Rattle.role_steps.specs.Storage.{StoreRequest, on_open_ss}
use Rattle.role_steps.specs.declared.copies.FileCopy.{FileCopy}
use Rattle.role_steps.proofs.Sending.{every_append, every_map}
use Rattle.the_run.specs.Disks.{Disk, Booted, Whole, CutOff, boots, cut_disk, is_on_disk}
use Rattle.the_run.specs.Steps.{step}
use Rattle.the_run.specs.Worlds.{World, Running, Stopped, links_of, place_at, script_of, happened, disk_of, puts, arms, passed, stops_with, cause_of, acts, fresh, first_world}
use Rattle.the_run.specs.Runs.{boots_as, packet_record}
use Rattle.the_run.specs.Kept.{Kept}
use Rattle.the_run.proofs.Boots.{at_each, acts_cases, every_weaker}
use Rattle.the_run.proofs.Events.{happened_keeps, puts_other, puts_same}
use Rattle.site_laws.specs.Vectors.Held.{IsOf}
use Rattle.site_laws.specs.Vectors.Written.{past_of}
use Rattle.site_laws.specs.Vectors.Facts.{onto}
use Rattle.site_laws.proofs.Vectors.SiteDisks.{SiteDisk, step_disk}
use Rattle.site_laws.proofs.Vectors.FactsRun.{past_onto}
use Rattle.site_laws.specs.Locks.Going.{Started, StartedRecord, WasStarted}
use Rattle.run_laws.proofs.Walks.FirstWorld.{first_views}
use Rattle.site_laws.specs.Makes.Made.{IsListed, StartRecord, StartListed, WorldListed}
use Rattle.site_laws.proofs.Makes.Telling.{At, AtRecord}
use Rattle.site_laws.proofs.Makes.SitesTell.{TablesAt, ToldAs, step_tells}
use Rattle.site_laws.proofs.Makes.SiteGroups.{step_keeps}
use Rattle.site_laws.proofs.Makes.Opening.{OpenTold, open_told}

-- ---- what is told ----

at_listed : (x : Told) → At IsListed x → StartListed x
at_listed (Shown r) h = record_listed r h
  where
    record_listed : (q : Record) → AtRecord IsListed q → StartRecord q
    record_listed (says.Start e group brought) k = k
    record_listed _ k = tt
at_listed _ h = tt

all_listed : (xs : List Told) → Every (At IsListed) xs → Every StartListed xs
all_listed xs h = every_weaker (At IsListed) StartListed xs at_listed h

opened_listed : (f : Frame) (r : StoreRequest) (s : Store) (told : List Told) → OpenTold f r s told → Every StartListed told
opened_listed f r s told (inl o) = subst (Every StartListed) (sym o) tt
opened_listed f r s told (inr (inl o)) = subst (Every StartListed) (sym o.told_is) (tt, tt)
opened_listed f r s told (inr (inr o)) = subst (Every StartListed) (sym o.told_is) (tt, (tt, tt))

event_listed : (c : Config) (me : ℕ) (v : SiteView) (e : Event) (told : List Told) → ToldAs IsListed c me v e told → Every StartListed told
event_listed c me v e told (inl h) = all_listed told h
event_listed c me v e told (inr o) =
    let f : Frame = frame_in c me v.boot o.epoch in
    subst (Every StartListed) (sym o.told_is) (every_append StartListed (on_open_ss f o.asked v.store).told o.after (opened_listed f o.asked v.store (on_open_ss f o.asked v.store).told (open_told f o.asked v.store)) (all_listed o.after o.plain))

started_record : (e : EpochId) (group : ℕ) (r : Record) → StartRecord r → StartedRecord e group r → IsListed group
started_record e group (says.Start at of brought) h k = subst IsListed k.1 h
started_record e group _ h k = absurd k

started_told : (e : EpochId) (group : ℕ) (x : Told) → StartListed x → Started e group x → IsListed group
started_told e group (Shown r) h k = started_record e group r h k
started_told e group _ h k = absurd k

pub started_listed : (e : EpochId) (group : ℕ) (past : List Told) → Every StartListed past → WasStarted past e group → IsListed group
started_listed e group [] h k = absurd k
started_listed e group (x ∷ older) h (inl k) = started_told e group x h.0 k
started_listed e group (x ∷ older) h (inr k) = started_listed e group older h.1 k

-- ---- one event ----

every_onto : (told past : List Told) → Every StartListed told → Every StartListed past → Every StartListed (onto told past)
every_onto [] past h g = g
every_onto (x ∷ xs) past h g = every_onto xs (x ∷ past) h.1 (h.0, g)

abbrev ViewsListed : World → Type 0
ViewsListed w = (s : ℕ) (v : SiteView) → place_at w s ≡ Some (Running v) → TablesAt IsListed v.tables

happened_listed : (n : ℕ) (ps : List Packet) (told : List Told) (change : World → World) (w : World) → Every StartListed told → ViewsListed (change w) → WorldListed w → WorldListed (happened n ps told change w)
happened_listed n ps told change w h views g =
    happened_keeps WorldListed n ps told change w g
    (λ l. record { starts = g.starts; tables = g.tables })
    (λ k b t. record { starts = subst (Every StartListed) (sym (past_onto n told w.trace)) (every_onto told (past_of w.trace) h g.starts); tables = views })

running_view : (v u : SiteView) → Running v ≡ Running u → v ≡ u
running_view v u e = cc

stopped_never : (d : Disk) (v : SiteView) → Stopped d ≡ Running v → ⊥
stopped_never d v e = cc

runs_listed : (s : ℕ) (new : SiteView) (w : World) → TablesAt IsListed new.tables → ViewsListed w → ViewsListed (puts s (Running new) w)
runs_listed s new w h g t v here = at_each s t (TablesAt IsListed v.tables)
    (λ e. subst (λ (u : SiteView). TablesAt IsListed u.tables) (running_view new v (some_same (Running new) (Running v) (sym (puts_same s (Running new) w) ∙ (ap (place_at (puts s (Running new) w)) e ∙ here)))) h)
    (λ ne. g t v (sym (puts_other s t (Running new) w ne) ∙ here))

stops_listed : (s : ℕ) (d : Disk) (w : World) → ViewsListed w → ViewsListed (puts s (Stopped d) w)
stops_listed s d w g t v here = at_each s t (TablesAt IsListed v.tables)
    (λ e. absurd (stopped_never d v (some_same (Stopped d) (Running v) (sym (puts_same s (Stopped d) w) ∙ (ap (place_at (puts s (Stopped d) w)) e ∙ here)))))
    (λ ne. g t v (sym (puts_other s t (Stopped d) w ne) ∙ here))

-- what is written is a commit or an adoption
says_listed : (s : ℕ) (r : Record) (x : FileCopy) → IsOf s r x → StartListed (Shown r)
says_listed s (says.Start e group brought) x h = absurd h
says_listed s _ x h = tt

no_write : (d : DiskWrite) → ◌≡◌ {A = Option DiskWrite} None (Some d) → ⊥
no_write d e = cc

written_listed : (s : ℕ) (v : SiteView) (o : Outcome SiteView) (d : DiskWrite) → o.written ≡ Some d → SiteDisk s v o → StartListed (Shown d.says)
written_listed s v o d e (inl h) = absurd (no_write d (sym h.none ∙ e))
written_listed s v o d e (inr h) = subst (λ (x : DiskWrite). StartListed (Shown x.says)) (some_same h.0 d (sym h.1.is_written ∙ e)) (says_listed s h.0.says h.0.copy h.1.says_so)

cut_listed : (b : Bool) (r : Record) (s : ℕ) (how : StopCause) → StartListed (Shown r) → Every StartListed (cond b (Shown r ∷ Shown (says.Stopped s how) ∷ []) (Shown (says.Stopped s how) ∷ []))
cut_listed true r s how h = (h, (tt, tt))
cut_listed false r s how h = (tt, tt)

acts_listed : (n s : ℕ) (v : SiteView) (o : Outcome SiteView) (w : World) → Every StartListed o.told → TablesAt IsListed o.view.tables → SiteDisk s v o → WorldListed w → WorldListed (acts n s v o w)
acts_listed n s v o w told tables disk g =
    acts_cases WorldListed n s v o w
    (happened_listed n o.sent o.told (λ now. puts s (Running o.view) now) w told (runs_listed s o.view w tables g.tables) g)
    (λ a. happened_listed n o.sent o.told (λ now. puts s (Running o.view) (arms a now)) w told (runs_listed s o.view w tables g.tables) g)
    (λ d a e. happened_listed n [] _ (stops_with s (cut_disk v.boot v.store d a.how a.left)) w (cut_listed (is_on_disk v.store d a.how a.left) d.says s (cause_of a.how) (written_listed s v o d e disk)) (stops_listed s (cut_disk v.boot v.store d a.how a.left) w g.tables) g)

as_listed : (n s : ℕ) (b : Booted) (w : World) → WorldListed w → WorldListed (boots_as n s b w)
as_listed n s (Whole x None) w g = happened_listed n [] (Shown (says.Up s x.label.boot) ∷ []) _ w (tt, tt) (λ t v at. runs_listed s (fresh x.label.boot x.copies) w tt g.tables t v at) g
as_listed n s (Whole x (Some a)) w g = happened_listed n [] (Shown (says.Up s x.label.boot) ∷ []) _ w (tt, tt) (λ t v at. runs_listed s (fresh x.label.boot x.copies) w tt g.tables t v at) g
as_listed n s (CutOff x how) w g = happened_listed n [] (Shown (says.Stopped s (cause_of how)) ∷ []) (stops_with s x) w (tt, tt) (stops_listed s x w g.tables) g

pub listed_kept : (c : Config) → Kept c WorldListed
listed_kept c = record {
  steps = λ n s e v w here own g. acts_listed n s v (step c s (links_of w s) v e) w (event_listed c s v e (step c s (links_of w s) v e).told (step_tells IsListed c s (links_of w s) v e (g.tables s v here))) (step_keeps c s (links_of w s) v e (g.tables s v here)) (step_disk c s (links_of w s) v e) g;
  receives = λ n x v w here sent g. acts_listed n x.packet.to v (step c x.packet.to (links_of (passed x.number w) x.packet.to) v (Receives x.packet)) (passed x.number w) (event_listed c x.packet.to v (Receives x.packet) (step c x.packet.to (links_of (passed x.number w) x.packet.to) v (Receives x.packet)).told (step_tells IsListed c x.packet.to (links_of (passed x.number w) x.packet.to) v (Receives x.packet) (g.tables x.packet.to v here))) (step_keeps c x.packet.to (links_of (passed x.number w) x.packet.to) v (Receives x.packet) (g.tables x.packet.to v here)) (step_disk c x.packet.to (links_of (passed x.number w) x.packet.to) v (Receives x.packet)) (record { starts = g.starts; tables = g.tables });
  passes = λ k w g. record { starts = g.starts; tables = g.tables };
  drops = λ k w g. record { starts = g.starts; tables = g.tables };
  recuts = λ xs w g. record { starts = g.starts; tables = g.tables };
  arming = λ a w g. record { starts = g.starts; tables = g.tables };
  voiding = λ n w g. happened_listed n [] (Shown says.Void ∷ []) (λ now. now) w (tt, tt) g.tables g;
  budgets = λ n w g. happened_listed n [] (Shown says.Budget ∷ []) (λ now. now) w (tt, tt) g.tables g;
  pending = λ n w g. happened_listed n [] (map packet_record w.underway) (λ now. now) w (every_map StartListed packet_record w.underway (λ x. tt)) g.tables g;
  stopping = λ n s v w here g. happened_listed n [] (Shown (says.Stopped s cause.Asked) ∷ []) (stops_with s (disk_of v)) w (tt, tt) (stops_listed s (disk_of v) w g.tables) g;
  booting = λ n s d w here g. as_listed n s (boots (script_of w s) d) w g;
}

-- ---- the first world ----

pub first_listed : (c : Config) → WorldListed (first_world c)
first_listed c = record { starts = tt; tables = first_views c (λ s v. TablesAt IsListed v.tables) (λ s own. tt) }
