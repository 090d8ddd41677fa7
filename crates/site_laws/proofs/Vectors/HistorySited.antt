-- In every run each commit is of one of the sixteen sites; and so vectors tell ancestors, where no stamp is given twice.
use Rattle.std.proofs.Common.{◌≡◌, ℕ, Bool, true, false, cond, List, [], ◌∷◌, map, Option, Some, None, sym, ◌∙◌, subst, inl, inr}
use Rattle.run_laws.proofs.of_plain_facts.Options.{some_same}
use Rattle.locus_ids.specs.declared.ids.FileId.{FileId}
use Rattle.locus_ids.specs.declared.config.Config.{Config}
use Rattle.run_laws.specs.of_schedule_lines.declared.line.ScheduleLine.{ScheduleLine}
use Rattle.conflict_flags.proofs.Vectors.{vector-written}
use Rattle.trace_book.specs.declared.record.Record.{Record}
use Rattle.trace_book.specs.declared.record.Record.TheVariants as says
use Rattle.trace_book.specs.declared.record.StopCause.{StopCause}
use Rattle.trace_book.specs.declared.record.StopCause.TheVariants as cause
use Rattle.run_laws.specs.of_wire_messages.declared.packet.Packet.{Packet}
use Rattle.run_laws.specs.of_role_steps.Own.{Every}
use Rattle.run_laws.specs.of_role_steps.Views.{SiteView, Told, Shown, DiskWrite, Outcome, Receives}
use Rattle.run_laws.specs.of_role_steps.declared.copies.FileCopy.{FileCopy}
use Rattle.run_laws.proofs.of_role_steps.Sending.{every_append, every_map}
use Rattle.run_laws.specs.of_the_run.Disks.{Disk, Booted, Whole, CutOff, boots, cut_disk, is_on_disk}
use Rattle.run_laws.specs.of_the_run.Steps.{step}
use Rattle.run_laws.specs.of_the_run.Worlds.{World, Place, Running, Stopped, links_of, place_at, script_of, happened, disk_of, puts, arms, passed, stops_with, cut_told, cause_of, acts, fresh, first_world}
use Rattle.run_laws.specs.of_the_run.Runs.{boots_as, packet_record, run_in}
use Rattle.run_laws.specs.of_the_run.Kept.{Kept}
use Rattle.run_laws.proofs.of_the_run.Boots.{at_each, acts_cases, every_weaker}
use Rattle.run_laws.proofs.of_the_run.Events.{happened_keeps, puts_other}
use Rattle.run_laws.proofs.of_the_run.Runs.{every_run}
use Rattle.run_laws.proofs.Walks.FirstWorld.{first_places}
use Rattle.site_laws.specs.Vectors.Held.{IsOf, StillRecord, Still, OnDisk, copies_on}
use Rattle.site_laws.specs.Vectors.Written.{past_of, CommitsAreNumbered, InstancesAgree}
use Rattle.site_laws.specs.Vectors.Facts.{CopyFact, onto}
use Rattle.site_laws.proofs.Vectors.FactsRun.{past_onto, run_vectors, run_numbered}
use Rattle.site_laws.proofs.Vectors.SiteDisks.{SiteDisk, step_disk}
use Rattle.site_laws.specs.Vectors.HistoryCommits.{commits_of, StampsAreOnce, IsSite, SitedRecord, SitedTold, CommitsAreSited, SitesAreKnown, VectorsTell, IsTrueCopy, CopiesAreTrue}
use Rattle.site_laws.proofs.Vectors.HistoryHistory.{Stands, Sound, sound, all_own, vectors_tell}

-- ---- what is told ----

still_record : (r : Record) → StillRecord r → SitedRecord r
still_record (says.Commit g s stamp parents content) h = absurd h
still_record _ h = tt

still_told : (x : Told) → Still x → SitedTold x
still_told (Shown r) h = still_record r h
still_told _ h = tt

still_sited : (xs : List Told) → Every Still xs → Every SitedTold xs
still_sited xs h = every_weaker Still SitedTold xs still_told h

own_sited : (s : ℕ) (r : Record) (x : FileCopy) → IsSite s → IsOf s r x → SitedTold (Shown r)
own_sited s (says.Commit g t stamp parents content) x site h = subst IsSite (sym h.0) site
own_sited s (says.Adopt g t stamp) x site h = tt
own_sited s _ x site h = absurd h

disk_sited : (s : ℕ) (old new : List FileCopy) (told : List Told) (w : Option DiskWrite) → IsSite s → OnDisk s old new told w → Every SitedTold told
disk_sited s old new told w site (inl h) = still_sited told h.still
disk_sited s old new told w site (inr h) = subst (Every SitedTold) (sym h.1.told_is) (every_append SitedTold h.1.before (Shown h.0.says ∷ h.1.after) (still_sited h.1.before h.1.still_before) (own_sited s h.0.says h.0.copy site h.1.says_so, still_sited h.1.after h.1.still_after))

onto_sited : (told past : List Told) → Every SitedTold told → Every SitedTold past → Every SitedTold (onto told past)
onto_sited [] past h g = g
onto_sited (x ∷ xs) past h g = onto_sited xs (x ∷ past) h.1 (h.0, g)

-- ---- one event ----

sited_event : (n : ℕ) (ps : List Packet) (told : List Told) (change : World → World) (w : World) → ((t : ℕ) (p : Place) → place_at (change w) t ≡ Some p → IsSite t) → Every SitedTold told → SitesAreKnown w → SitesAreKnown (happened n ps told change w)
sited_event n ps told change w places new g =
    happened_keeps SitesAreKnown n ps told change w g (λ l. record { places = g.places; commits = g.commits })
    (λ k b t. record { places = places; commits = subst CommitsAreSited (sym (past_onto n told w.trace)) (onto_sited told (past_of w.trace) new g.commits) })

puts_sited : (s : ℕ) (new : Place) (w : World) → IsSite s → SitesAreKnown w → (t : ℕ) (p : Place) → place_at (puts s new w) t ≡ Some p → IsSite t
puts_sited s new w site g t p here = at_each s t (IsSite t) (λ e. subst IsSite e site) (λ ne. g.places t p (sym (puts_other s t new w ne) ∙ here))

no_write : (d : DiskWrite) → ◌≡◌ {A = Option DiskWrite} None (Some d) → ⊥
no_write d e = cc

write_sited : (s : ℕ) (v : SiteView) (o : Outcome SiteView) (d : DiskWrite) → o.written ≡ Some d → IsSite s → SiteDisk s v o → SitedTold (Shown d.says)
write_sited s v o d e site (inl h) = absurd (no_write d (sym h.none ∙ e))
write_sited s v o d e site (inr h) = subst (λ (x : DiskWrite). SitedTold (Shown x.says)) (some_same h.0 d (sym h.1.is_written ∙ e)) (own_sited s h.0.says h.0.copy site h.1.says_so)

cut_sited : (s : ℕ) (b : Bool) (d : DiskWrite) (how : StopCause) → SitedTold (Shown d.says) → Every SitedTold (cond b (Shown d.says ∷ Shown (says.Stopped s how) ∷ []) (Shown (says.Stopped s how) ∷ []))
cut_sited s true d how h = (h, (tt, tt))
cut_sited s false d how h = (tt, tt)

acts_sited : (n s : ℕ) (v : SiteView) (o : Outcome SiteView) (w : World) → place_at w s ≡ Some (Running v) → SiteDisk s v o → SitesAreKnown w → SitesAreKnown (acts n s v o w)
acts_sited n s v o w here disk g =
    acts_cases SitesAreKnown n s v o w
    (sited_event n o.sent o.told (λ now. puts s (Running o.view) now) w (puts_sited s (Running o.view) w site g) told g)
    (λ a. sited_event n o.sent o.told (λ now. puts s (Running o.view) (arms a now)) w (puts_sited s (Running o.view) w site g) told g)
    (λ d a e. sited_event n [] (cut_told s v.store d a.how a.left) (stops_with s (cut_disk v.boot v.store d a.how a.left)) w (puts_sited s (Stopped (cut_disk v.boot v.store d a.how a.left)) w site g) (cut_sited s (is_on_disk v.store d a.how a.left) d (cause_of a.how) (write_sited s v o d e site disk)) g)
  where
    site : IsSite s
    site = g.places s (Running v) here

    told : Every SitedTold o.told
    told = disk_sited s v.store.copies o.view.store.copies o.told o.written site disk

as_sited : (n s : ℕ) (d : Disk) (b : Booted) (w : World) → place_at w s ≡ Some (Stopped d) → SitesAreKnown w → SitesAreKnown (boots_as n s b w)
as_sited n s d (Whole x None) w here g = sited_event n [] (Shown (says.Up s x.label.boot) ∷ []) _ w (puts_sited s (Running (fresh x.label.boot x.copies)) w (g.places s (Stopped d) here) g) (tt, tt) g
as_sited n s d (Whole x (Some a)) w here g = sited_event n [] (Shown (says.Up s x.label.boot) ∷ []) _ w (puts_sited s (Running (fresh x.label.boot x.copies)) w (g.places s (Stopped d) here) g) (tt, tt) g
as_sited n s d (CutOff x how) w here g = sited_event n [] (Shown (says.Stopped s (cause_of how)) ∷ []) _ w (puts_sited s (Stopped x) w (g.places s (Stopped d) here) g) (tt, tt) g

sited_kept : (c : Config) → Kept c SitesAreKnown
sited_kept c = record {
  steps = λ n s e v w here own g. acts_sited n s v (step c s (links_of w s) v e) w here (step_disk c s (links_of w s) v e) g;
  receives = λ n x v w here sent g. acts_sited n x.packet.to v (step c x.packet.to (links_of (passed x.number w) x.packet.to) v (Receives x.packet)) (passed x.number w) here (step_disk c x.packet.to (links_of (passed x.number w) x.packet.to) v (Receives x.packet)) (record { places = g.places; commits = g.commits });
  passes = λ k w g. record { places = g.places; commits = g.commits };
  drops = λ k w g. record { places = g.places; commits = g.commits };
  recuts = λ xs w g. record { places = g.places; commits = g.commits };
  arming = λ a w g. record { places = g.places; commits = g.commits };
  voiding = λ n w g. sited_event n [] (Shown says.Void ∷ []) (λ now. now) w g.places (tt, tt) g;
  budgets = λ n w g. sited_event n [] (Shown says.Budget ∷ []) (λ now. now) w g.places (tt, tt) g;
  pending = λ n w g. sited_event n [] (map packet_record w.underway) (λ now. now) w g.places (every_map SitedTold packet_record w.underway (λ x. tt)) g;
  stopping = λ n s v w here g. sited_event n [] (Shown (says.Stopped s cause.Asked) ∷ []) (stops_with s (disk_of v)) w (puts_sited s (Stopped (disk_of v)) w (g.places s (Running v) here) g) (tt, tt) g;
  booting = λ n s d w here g. as_sited n s d (boots (script_of w s) d) w here g;
}

-- ---- the first world ----

first_known : (c : Config) → SitesAreKnown (first_world c)
first_known c = record { places = first_places c (λ t q. IsSite t) (λ t own. record { low = own.0.0; high = own.0.1 }); commits = tt }

pub run_sited : (c : Config) (lines : List ScheduleLine) → SitesAreKnown (run_in c lines)
run_sited c lines = every_run c SitesAreKnown (sited_kept c) (first_known c) lines

-- ---- the laws ----

pub run_vectors_tell : (c : Config) (lines : List ScheduleLine) → InstancesAgree (past_of (run_in c lines).trace) → StampsAreOnce (past_of (run_in c lines).trace) → (file : FileId) → VectorsTell file (commits_of file (past_of (run_in c lines).trace))
run_vectors_tell c lines agree once file = let s : SitesAreKnown (run_in c lines) = run_sited c lines in vectors_tell file (past_of (run_in c lines).trace) (run_numbered c lines agree) s.commits (once file)

-- a copy of a version that was told is one of the history
pub true_copy : (past : List Told) → CommitsAreNumbered past → CommitsAreSited past → StampsAreOnce past → (x : FileCopy) → CopyFact past x → IsTrueCopy past x
true_copy past numbered sited once x h = by_case (k.stands x.stamp x.vector h)
  where
    k : Sound x.file past
    k = sound x.file past numbered sited (once x.file)

    by_case : Stands x.file (commits_of x.file past) x.stamp x.vector → IsTrueCopy past x
    by_case (inl f) = inl f
    by_case (inr f) = inr (f.0, λ t. f.1 t ∙ vector-written x.file (commits_of x.file past) k.counted (all_own x.file past numbered sited) x.stamp t)

pub run_true_copies : (c : Config) (lines : List ScheduleLine) → InstancesAgree (past_of (run_in c lines).trace) → StampsAreOnce (past_of (run_in c lines).trace) → CopiesAreTrue (run_in c lines)
run_true_copies c lines agree once s p here =
    let past : List Told = past_of (run_in c lines).trace in
    every_weaker (CopyFact past) (IsTrueCopy past) (copies_on p) (true_copy past (run_numbered c lines agree) (run_sited c lines).commits once) (run_vectors c lines agree s p here)
