-- In every run each version that a record adopts or publishes is one by then.
use Rattle.std.proofs.Common.{◌≡◌, ℕ, Bool, true, false, cond, List, [], ◌∷◌, map, Option, Some, None, refl, sym, ◌∙◌, subst, inl, inr}
use Rattle.role_steps.proofs.of_plain_facts.Options.{some_same}
use Rattle.locus_ids.specs.declared.config.Config.{Config}
use Rattle.locus_ids.specs.declared.sites.Links.{Links}
use Rattle.schedule_lines.specs.declared.line.ScheduleLine.{ScheduleLine}
use Rattle.trace_book.specs.declared.record.Record.TheVariants as says
use Rattle.trace_book.specs.declared.record.StopCause.{StopCause}
use Rattle.trace_book.specs.declared.record.StopCause.TheVariants as cause
use Rattle.wire_messages.specs.declared.packet.Packet.{Packet}
use Rattle.role_steps.specs.Own.{Every}
use Rattle.role_steps.specs.Views.{SiteView, Told, Shown, DiskWrite, Outcome, Event, Calls, Receives, Ticks, Parts, Merges, GivesUp}
use Rattle.role_steps.specs.Epochs.{frame_in}
use Rattle.the_run.specs.Disks.{Booted, Whole, CutOff, boots, cut_disk, is_on_disk}
use Rattle.the_run.specs.Steps.{is_dropped, step}
use Rattle.the_run.specs.Worlds.{World, Running, Numbered, links_of, place_at, script_of, happened, disk_of, puts, arms, passed, stops_with, cut_told, cause_of, acts}
use Rattle.the_run.specs.Runs.{boots_as, packet_record, run_in}
use Rattle.the_run.specs.Kept.{WasSent, IsOwn, Kept}
use Rattle.the_run.proofs.Boots.{acts_cases}
use Rattle.the_run.proofs.Events.{happened_keeps}
use Rattle.the_run.proofs.Runs.{every_run}
use Rattle.run_laws.specs.Naming.{DeedsOf}
use Rattle.run_laws.proofs.Run.{was_sent}
use Rattle.run_laws.proofs.Steps.{EventNames}
use Rattle.site_laws.specs.Vectors.Held.{IsOf}
use Rattle.site_laws.specs.Vectors.Written.{past_of, InstancesAgree}
use Rattle.site_laws.specs.Vectors.Facts.{DiskFact, onto, WorldFact}
use Rattle.site_laws.proofs.Vectors.Facts.{onto_later, agree_before}
use Rattle.site_laws.proofs.Vectors.FactsRun.{past_onto}
use Rattle.site_laws.proofs.Vectors.SiteDisks.{SiteDisk, step_disk}
use Rattle.site_laws.proofs.Vectors.SiteFacts.{SiteFine, inside_of}
use Rattle.site_laws.proofs.Vectors.StepFacts.{EventFact, step_fact}
use Rattle.site_laws.proofs.Packs.InstanceAgree.{run_agrees}
use Rattle.site_laws.proofs.Makes.Happening.{taken_epoch}
use Rattle.site_laws.proofs.Makes.VectorsKept.{Both, sent_fact, both_kept, first_vectors}
use Rattle.site_laws.specs.Kept.Known.{NamesAreVersions}
use Rattle.site_laws.proofs.Kept.SitesTell.{FramedTell, EventTells, step_tells}
use Rattle.site_laws.proofs.Kept.Naming.{Publishes, AllNamed, all_publish, body_publishes, names_onto, written_named, disk_named}

abbrev WhereNamed : World → Type 0
WhereNamed w = InstancesAgree (past_of w.trace) → NamesAreVersions (past_of w.trace)

-- ---- one event ----

named_event : (n : ℕ) (ps : List Packet) (told : List Told) (change : World → World) (w : World) → (InstancesAgree (past_of w.trace) → AllNamed (past_of w.trace) told) → WhereNamed w → WhereNamed (happened n ps told change w)
named_event n ps told change w now g =
    happened_keeps WhereNamed n ps told change w g (λ l h. g h)
    (λ k b t h. (let before : InstancesAgree past = agree_before past (onto told past) (onto_later told past) (subst InstancesAgree (past_onto n told w.trace) h) in
    subst NamesAreVersions (sym (past_onto n told w.trace)) (names_onto told past (now before) (g before))))
  where
    past : List Told
    past = past_of w.trace

-- what an outcome of a site owes
record Owes (s : ℕ) (past : List Told) (v : SiteView) (o : Outcome SiteView) : Type 0 where
  disk : SiteDisk s v o
  fact : DiskFact past o.written
  publishes : Every (Publishes past) o.told

no_write : (d : DiskWrite) → ◌≡◌ {A = Option DiskWrite} None (Some d) → ⊥
no_write d e = cc

write_is : (s : ℕ) (v : SiteView) (o : Outcome SiteView) (d : DiskWrite) → o.written ≡ Some d → SiteDisk s v o → IsOf s d.says d.copy
write_is s v o d e (inl h) = absurd (no_write d (sym h.none ∙ e))
write_is s v o d e (inr h) = subst (λ (x : DiskWrite). IsOf s x.says x.copy) (some_same h.0 d (sym h.1.is_written ∙ e)) h.1.says_so

cut_named : (s : ℕ) (past : List Told) (v : SiteView) (o : Outcome SiteView) (d : DiskWrite) (how : StopCause) (b : Bool) → o.written ≡ Some d → Owes s past v o → AllNamed past (cond b (Shown d.says ∷ Shown (says.Stopped s how) ∷ []) (Shown (says.Stopped s how) ∷ []))
cut_named s past v o d how true e r = let k : _ × _ = subst (DiskFact past) e r.fact in (written_named past s d.says d.copy (write_is s v o d e r.disk) k.1, (tt, tt))
cut_named s past v o d how false e r = (tt, tt)

acts_named : (n s : ℕ) (v : SiteView) (o : Outcome SiteView) (w : World) → (InstancesAgree (past_of w.trace) → Owes s (past_of w.trace) v o) → WhereNamed w → WhereNamed (acts n s v o w)
acts_named n s v o w owes g =
    acts_cases WhereNamed n s v o w
    (named_event n o.sent o.told (λ now. puts s (Running o.view) now) w all g)
    (λ a. named_event n o.sent o.told (λ now. puts s (Running o.view) (arms a now)) w all g)
    (λ d a e. named_event n [] (cut_told s v.store d a.how a.left) (stops_with s (cut_disk v.boot v.store d a.how a.left)) w (λ h. cut_named s (past_of w.trace) v o d (cause_of a.how) (is_on_disk v.store d a.how a.left) e (owes h)) g)
  where
    all : InstancesAgree (past_of w.trace) → AllNamed (past_of w.trace) o.told
    all h = let r : Owes s (past_of w.trace) v o = owes h in disk_named (past_of w.trace) s v.store.copies o.view.store.copies o.told o.written r.disk r.fact r.publishes

still_event : (n : ℕ) (told : List Told) (change : World → World) (w : World) → ((past : List Told) → AllNamed past told) → WhereNamed w → WhereNamed (happened n [] told change w)
still_event n told change w h g = named_event n [] told change w (λ a. h (past_of w.trace)) g

as_named : (n s : ℕ) (b : Booted) (w : World) → WhereNamed w → WhereNamed (boots_as n s b w)
as_named n s (Whole x None) w g = still_event n (Shown (says.Up s x.label.boot) ∷ []) _ w (λ past. (tt, tt)) g
as_named n s (Whole x (Some a)) w g = still_event n (Shown (says.Up s x.label.boot) ∷ []) _ w (λ past. (tt, tt)) g
as_named n s (CutOff x how) w g = still_event n (Shown (says.Stopped s (cause_of how)) ∷ []) (stops_with s x) w (λ past. (tt, tt)) g

packets_named : (xs : List Numbered) (past : List Told) → AllNamed past (map packet_record xs)
packets_named [] past = tt
packets_named (x ∷ xs) past = (tt, packets_named xs (packet_record x ∷ past))

-- ---- events ----

own_fact : (past : List Told) (e : Event) → IsOwn e → EventFact past e
own_fact past (Calls process words) h = tt
own_fact past (Receives p) h = absurd h
own_fact past Ticks h = tt
own_fact past Parts h = tt
own_fact past Merges h = tt
own_fact past GivesUp h = tt

own_names : (w : World) (s : ℕ) (e : Event) → IsOwn e → EventNames (DeedsOf w.trace s) e
own_names w s (Calls process words) h = tt
own_names w s (Receives p) h = absurd h
own_names w s Ticks h = tt
own_names w s Parts h = tt
own_names w s Merges h = tt
own_names w s GivesUp h = tt

own_tells : (past : List Told) (c : Config) (s : ℕ) (v : SiteView) (e : Event) → IsOwn e → EventTells (Publishes past) c s v e
own_tells past c s v (Calls process words) h = tt
own_tells past c s v (Receives p) h = absurd h
own_tells past c s v Ticks h = tt
own_tells past c s v Parts h = tt
own_tells past c s v Merges h = tt
own_tells past c s v GivesUp h = tt

abbrev All : World → Type 0
All w = Both w × WhereNamed w

all_kept : (c : Config) → Kept c All
all_kept c = record {
  steps = λ n s e v w here own g. (vectors.steps n s e v w here own g.0, own_event n s e v w here own g);
  receives = λ n x v w here sent g. (vectors.receives n x v w here sent g.0, received n x v w here sent g);
  passes = λ k w g. (vectors.passes k w g.0, λ h. g.1 h);
  drops = λ k w g. (vectors.drops k w g.0, λ h. g.1 h);
  recuts = λ xs w g. (vectors.recuts xs w g.0, λ h. g.1 h);
  arming = λ a w g. (vectors.arming a w g.0, λ h. g.1 h);
  voiding = λ n w g. (vectors.voiding n w g.0, still_event n (Shown says.Void ∷ []) (λ now. now) w (λ past. (tt, tt)) g.1);
  budgets = λ n w g. (vectors.budgets n w g.0, still_event n (Shown says.Budget ∷ []) (λ now. now) w (λ past. (tt, tt)) g.1);
  pending = λ n w g. (vectors.pending n w g.0, still_event n (map packet_record w.underway) (λ now. now) w (packets_named w.underway) g.1);
  stopping = λ n s v w here g. (vectors.stopping n s v w here g.0, still_event n (Shown (says.Stopped s cause.Asked) ∷ []) (stops_with s (disk_of v)) w (λ past. (tt, tt)) g.1);
  booting = λ n s d w here g. (vectors.booting n s d w here g.0, as_named n s (boots (script_of w s) d) w g.1);
}
  where
    vectors : Kept c Both
    vectors = both_kept c

    own_event : (n s : ℕ) (e : Event) (v : SiteView) (w : World) → place_at w s ≡ Some (Running v) → IsOwn e → All w → WhereNamed (acts n s v (step c s (links_of w s) v e) w)
    own_event n s e v w here own g = acts_named n s v (step c s (links_of w s) v e) w
        (λ h. (let f : WorldFact w = g.0.1 h in let k : SiteFine (past_of w.trace) (step c s (links_of w s) v e) = step_fact (DeedsOf w.trace s) (DeedsOf w.trace s) c s (past_of w.trace) (links_of w s) v e h (own_fact (past_of w.trace) e own) (own_names w s e own) (g.0.0.views s v here) (f.views s v here) in record {
          disk = step_disk c s (links_of w s) v e;
          fact = k.disk;
          publishes = step_tells (Publishes (past_of w.trace)) (all_publish (past_of w.trace)) c s (links_of w s) v e (own_tells (past_of w.trace) c s v e own);
        })) g.1

    received : (n : ℕ) (x : Numbered) (v : SiteView) (w : World) → place_at w x.packet.to ≡ Some (Running v) → WasSent w x → All w → WhereNamed (acts n x.packet.to v (step c x.packet.to (links_of (passed x.number w) x.packet.to) v (Receives x.packet)) (passed x.number w))
    received n x v w here sent g = acts_named n s v (step c s links v (Receives x.packet)) (passed x.number w) owes (λ h. g.1 h)
      where
        s : ℕ
        s = x.packet.to

        past : List Told
        past = past_of w.trace

        links : Links
        links = links_of (passed x.number w) x.packet.to

        closes : InstancesAgree past → is_dropped x.packet v ≡ false → FramedTell (Publishes past) c s x.packet v
        closes h taken e at =
            let f : WorldFact w = g.0.1 h in
            body_publishes past (frame_in c s v.boot e) x.packet.from v x.packet.epoch x.packet.body h (λ inside. taken_epoch x.packet x.packet.body v e refl inside taken at) (sent_fact w x sent f) (inside_of past v e at (f.views s v here)).1

        owes : InstancesAgree past → Owes s past v (step c s links v (Receives x.packet))
        owes h =
            let f : WorldFact w = g.0.1 h in
            let k : SiteFine past (step c s links v (Receives x.packet)) = step_fact (DeedsOf w.trace s) (DeedsOf w.trace x.packet.from) c s past links v (Receives x.packet) h (sent_fact w x sent f) (was_sent w x sent g.0.0) (g.0.0.views s v here) (f.views s v here) in
            record {
              disk = step_disk c s links v (Receives x.packet);
              fact = k.disk;
              publishes = step_tells (Publishes past) (all_publish past) c s links v (Receives x.packet) (closes h);
            }

pub run_named : (c : Config) (lines : List ScheduleLine) → NamesAreVersions (past_of (run_in c lines).trace)
run_named c lines = (every_run c All (all_kept c) (first_vectors c, λ h. tt) lines).1 (run_agrees c lines)
