-- In every run no file has two commits with one stamp.
use Rattle.std.proofs.Common.{◌≡◌, ℕ, ◌≤◌, List, [], ◌∷◌, map, Option, Some, None, refl, sym, ◌∙◌, ap, subst, inl, inr, arith, ◌-◌}
use Rattle.locus_ids.specs.declared.ids.FileId.{FileId}
use Rattle.locus_ids.specs.declared.config.Config.{Config}
use Rattle.locus_ids.specs.Sizes.{inode_span}
use Rattle.schedule_lines.specs.declared.line.ScheduleLine.{ScheduleLine}
use Rattle.trace_book.specs.declared.record.Record.TheVariants as says
use Rattle.trace_book.specs.declared.record.StopCause.TheVariants as cause
use Rattle.role_steps.specs.Own.{Every}
use Rattle.role_steps.specs.Tables.{row}
use Rattle.role_steps.specs.Views.{SiteView, Told, Shown, Event, Calls, Receives, Ticks, Parts, Merges, GivesUp, file_key}
use Rattle.role_steps.specs.Storage.{copy_key, instance_key}
use Rattle.role_steps.specs.Epochs.{frame_in}
use Rattle.role_steps.specs.declared.copies.FileCopy.{FileCopy}
use Rattle.role_steps.specs.declared.instances.Instance.{Instance}
use Rattle.role_steps.specs.declared.instances.Stage.TheVariants as stage
use Rattle.role_steps.specs.declared.rounds.InEpoch.{InEpoch}
use Rattle.role_steps.proofs.Sending.{every_map}
use Rattle.the_run.specs.Disks.{boots}
use Rattle.the_run.specs.Steps.{epoch_id, step}
use Rattle.the_run.specs.Worlds.{World, Running, Numbered, Line, number_of, links_of, place_at, script_of, disk_of, passed, acts, fresh, root_copy, formatted, first_world}
use Rattle.the_run.specs.Runs.{packet_record, run_in}
use Rattle.the_run.specs.Kept.{WasSent, IsOwn, Kept}
use Rattle.the_run.proofs.Boots.{boots_reached}
use Rattle.the_run.proofs.InsideSync.{every_without}
use Rattle.the_run.proofs.Runs.{every_run}
use Rattle.run_laws.specs.Naming.{Deeds, DeedsOf, Good}
use Rattle.run_laws.specs.Standing.{Standing as Stood, standing, after_told}
use Rattle.run_laws.proofs.Run.{found_among, was_sent}
use Rattle.run_laws.proofs.Steps.{EventNames}
use Rattle.site_laws.specs.Vectors.Written.{past_of}
use Rattle.site_laws.specs.Vectors.Facts.{CopyFact, InstanceFact, TableFact as Versions, InEpochFact, ViewFact}
use Rattle.site_laws.proofs.Vectors.SiteDisks.{step_disk}
use Rattle.site_laws.proofs.Vectors.StepFacts.{EventFact, step_fact}
use Rattle.site_laws.proofs.Vectors.SyncFacts.{FoundAt, row_at, seen_none}
use Rattle.site_laws.proofs.Vectors.Held.{boots_copies}
use Rattle.site_laws.specs.Vectors.HistoryCommits.{IsSite, StampsAreOnce}
use Rattle.site_laws.specs.Locks.Facts.{NumberedFact as LockNumbered, WorldFact as LockWorld}
use Rattle.site_laws.specs.Makes.RunningStores.{InstanceSo, Stands}
use Rattle.site_laws.proofs.Makes.RunningStandRun.{Orderly, Standing, standing_kept, first_standing, stores_stand}
use Rattle.run_laws.proofs.Walks.FirstWorld.{first_places}
use Rattle.site_laws.specs.Kept.StampCommits.{stood, Here}
use Rattle.site_laws.specs.Kept.StampLaws.{Laws}
use Rattle.site_laws.specs.Kept.StampCovering.{CopyCounts}
use Rattle.site_laws.proofs.Kept.StampOutcomes.{Idle}
use Rattle.site_laws.proofs.Kept.StampStoreCovers.{Knows}
use Rattle.site_laws.proofs.Kept.StampCommitCovers.{key_file}
use Rattle.site_laws.proofs.Kept.StampStepCovers.{Known, Arrives, EventArrives, step_fine}
use Rattle.site_laws.proofs.Kept.StampWriteSteps.{step_owes}
use Rattle.site_laws.proofs.Kept.StampStamps.{Commits, joins_low, one_vector}
use Rattle.site_laws.proofs.Kept.StampCoversRun.{PlaceCovers, NumberedBoth, WorldCovers, Where, running_place, stops_covers, told_covers, Does, acts_covers, as_covers}

-- ---- what is known of a site when an event comes ----

stood_in : (s : ℕ) (trace : List Line) → stood s (past_of trace) ≡ standing s trace
stood_in s [] = refl
stood_in s (x ∷ xs) = ap (after_told s x.told) (stood_in s xs)

-- a site is in the epoch of its view
here_of : (w : World) (s : ℕ) (v : SiteView) (e : InEpoch) → Good w → place_at w s ≡ Some (Running v) → v.epoch ≡ Some e → Here (past_of w.trace) s e.id
here_of w s v e good here at = ap (λ (q : Stood). q.epoch) (stood_in s w.trace ∙ good.stands s v here) ∙ ap epoch_id at

commits_of_world : (c : Config) (w : World) → Laws c (past_of w.trace) → WorldCovers c w → Commits (past_of w.trace)
commits_of_world c w l f = record { numbered = f.numbered; sited = l.sited; once = f.once; fit = f.fit }

some_same : (x y : Instance) → ◌≡◌ {A = Option Instance} (Some x) (Some y) → x ≡ y
some_same x y e = cc

found_has : (P : Instance → Type 0) (key : ℕ) (is : List Instance) (i : Instance) → Every P is → row instance_key key is ≡ Some i → P i
found_has P key is i h e = let q : (instance_key i ≡ key) × P i = subst (FoundAt P instance_key key) e (row_at P instance_key key is h) in q.1

versions_in : (past : List Told) (v : SiteView) (e : InEpoch) → v.epoch ≡ Some e → ViewFact past v → Every (InstanceFact past e.id) v.store.instances × Every (Versions past e.id) v.tables
versions_in past v e here h = subst (InEpochFact past v) here h.inside

knows_of : (c : Config) (w : World) (s : ℕ) (v : SiteView) (e : InEpoch) → Standing w → Orderly w → Laws c (past_of w.trace) → WorldCovers c w → place_at w s ≡ Some (Running v) → v.epoch ≡ Some e → Knows (past_of w.trace) (frame_in c s v.boot e) v.store
knows_of c w s v e g order l f here at = record {
  here = here_of w s v e g.0.0.0 here at;
  site = site;
  begun = λ key file b. (let q : (i : Instance) × (row instance_key key v.store.instances ≡ Some i) × (i.file ≡ file) = stands.begun key file b in (q.0, q.1));
  unshut = λ key i found running shut. (let q : (j : Instance) × (row instance_key key v.store.instances ≡ Some j) × (j.stage ≡ stage.Running → ⊥) = stands.shut key shut in q.2 (subst (λ (j : Instance). j.stage ≡ stage.Running) (some_same i q.0 (sym found ∙ q.1)) running));
  writes = λ key i found owes. (let q : InstanceSo w.sent s e.id i = found_has (InstanceSo w.sent s e.id) key v.store.instances i stands.each found in q.owes owes);
  low = λ key i found. (let q : InstanceFact (past_of w.trace) e.id i = found_has (InstanceFact (past_of w.trace) e.id) key v.store.instances i (versions_in (past_of w.trace) v e at versions).0 found in joins_low (past_of w.trace) i.file s (commits_of_world c w l f) site.low i.parents i.vector q.base);
}
  where
    stands : Stands w.sent (past_of w.trace) s e.id v.store.instances
    stands = stores_stand w g order s v e here at

    site : IsSite s
    site = (f.places s (Running v) here).site

    versions : ViewFact (past_of w.trace) v
    versions = (f.places s (Running v) here).versions v refl

known_of : (c : Config) (w : World) (s : ℕ) (v : SiteView) → Standing w → WorldCovers c w → place_at w s ≡ Some (Running v) → Known (DeedsOf w.trace s) c (past_of w.trace) s v
known_of c w s v g f here = record { ok = g.0.0.0.views s v here; site = (f.places s (Running v) here).site; synced = f.synced }

-- ---- events ----

own_fact : (past : List Told) (e : Event) → IsOwn e → EventFact past e
own_fact past (Calls process words) h = tt
own_fact past (Receives p) h = absurd h
own_fact past Ticks h = tt
own_fact past Parts h = tt
own_fact past Merges h = tt
own_fact past GivesUp h = tt

own_names : (J : Deeds) (e : Event) → IsOwn e → EventNames J e
own_names J (Calls process words) h = tt
own_names J (Receives p) h = absurd h
own_names J Ticks h = tt
own_names J Parts h = tt
own_names J Merges h = tt
own_names J GivesUp h = tt

own_arrives : (past : List Told) (c : Config) (s : ℕ) (v : SiteView) (e : Event) → IsOwn e → EventArrives past c s v e
own_arrives past c s v (Calls process words) h = tt
own_arrives past c s v (Receives p) h = absurd h
own_arrives past c s v Ticks h = tt
own_arrives past c s v Parts h = tt
own_arrives past c s v Merges h = tt
own_arrives past c s v GivesUp h = tt

sent_both : (c : Config) (w : World) (x : Numbered) → WasSent w x → WorldCovers c w → NumberedBoth (past_of w.trace) x
sent_both c w x (inl a) f = found_among (NumberedBoth (past_of w.trace)) x w.sent f.packets a
sent_both c w x (inr a) f = found_among (NumberedBoth (past_of w.trace)) x w.underway f.underway a

sent_lock : (w : World) (x : Numbered) → WasSent w x → LockWorld w → LockNumbered (past_of w.trace) x
sent_lock w x (inl a) f = found_among (LockNumbered (past_of w.trace)) x w.sent f.packets a
sent_lock w x (inr a) f = found_among (LockNumbered (past_of w.trace)) x w.underway f.underway a

arrives_of : (c : Config) (w : World) (x : Numbered) (v : SiteView) → Standing w → Orderly w → Laws c (past_of w.trace) → WorldCovers c w → WasSent w x → place_at w x.packet.to ≡ Some (Running v) → Arrives (past_of w.trace) c x.packet.to v x.packet x.packet.body
arrives_of c w x v g order l f sent here = record {
  one = one_vector (past_of w.trace) (commits_of_world c w l f);
  versions = (sent_both c w x sent f).0;
  lock = sent_lock w x sent g.0.0.1;
  covers = (sent_both c w x sent f).1;
  tables = λ e at. (versions_in (past_of w.trace) v e at ((f.places x.packet.to (Running v) here).versions v refl)).1;
  knows = λ e at. knows_of c w x.packet.to v e g order l f here at;
}

passed_world : (c : Config) (k : ℕ) (w : World) → WorldCovers c w → WorldCovers c (passed k w)
passed_world c k w f = record { numbered = f.numbered; once = f.once; fit = f.fit; synced = f.synced; places = f.places; packets = f.packets; underway = every_without (NumberedBoth (past_of w.trace)) number_of k w.underway f.underway }

-- ---- every event and change ----

abbrev All : Config → World → Type 0
All c w = Standing w × Where c w

all_kept : (c : Config) → Kept c (All c)
all_kept c = record {
  steps = λ n s e v w here own g. (stands.steps n s e v w here own g.0, own_event n s e v w here own g);
  receives = λ n x v w here sent g. (stands.receives n x v w here sent g.0, received n x v w here sent g);
  passes = λ k w g. (stands.passes k w g.0, λ l o. passed_world c k w (g.1 l o));
  drops = λ k w g. (stands.drops k w g.0, λ l o. (let f : WorldCovers c (passed k w) = passed_world c k w (g.1 l o) in record { numbered = f.numbered; once = f.once; fit = f.fit; synced = f.synced; places = f.places; packets = f.packets; underway = f.underway }));
  recuts = λ xs w g. (stands.recuts xs w g.0, λ l o. (let f : WorldCovers c w = g.1 l o in record { numbered = f.numbered; once = f.once; fit = f.fit; synced = f.synced; places = f.places; packets = f.packets; underway = f.underway }));
  arming = λ a w g. (stands.arming a w g.0, λ l o. (let f : WorldCovers c w = g.1 l o in record { numbered = f.numbered; once = f.once; fit = f.fit; synced = f.synced; places = f.places; packets = f.packets; underway = f.underway }));
  voiding = λ n w g. (stands.voiding n w g.0, told_covers c n (Shown says.Void ∷ []) w (tt, tt) g.1);
  budgets = λ n w g. (stands.budgets n w g.0, told_covers c n (Shown says.Budget ∷ []) w (tt, tt) g.1);
  pending = λ n w g. (stands.pending n w g.0, told_covers c n (map packet_record w.underway) w (every_map Idle packet_record w.underway (λ x. tt)) g.1);
  stopping = λ n s v w here g. (stands.stopping n s v w here g.0, stops_covers c n s (Running v) (disk_of v) (Shown (says.Stopped s cause.Asked) ∷ []) w here refl (tt, tt) g.1);
  booting = λ n s d w here g. (stands.booting n s d w here g.0, as_covers c n s d (boots (script_of w s) d) w here (boots_copies (script_of w s) d) (boots_reached (script_of w s) d) g.1);
}
  where
    stands : Kept c Standing
    stands = standing_kept c

    own_event : (n s : ℕ) (e : Event) (v : SiteView) (w : World) → place_at w s ≡ Some (Running v) → IsOwn e → All c w → Where c (acts n s v (step c s (links_of w s) v e) w)
    own_event n s e v w here own g = acts_covers c n s v (step c s (links_of w s) v e) w here does g.1
      where
        past : List Told
        past = past_of w.trace

        does : Laws c past → Orderly w → WorldCovers c w → Does c s past v (step c s (links_of w s) v e)
        does l order f =
            let q : PlaceCovers c past s (Running v) = f.places s (Running v) here in
            record {
              versions = step_fact (DeedsOf w.trace s) (DeedsOf w.trace s) c s past (links_of w s) v e l.agree (own_fact past e own) (own_names (DeedsOf w.trace s) e own) (g.0.0.0.0.views s v here) (q.versions v refl);
              fine = step_fine (DeedsOf w.trace s) (DeedsOf w.trace s) c s past (links_of w s) v e (own_arrives past c s v e own) (own_names (DeedsOf w.trace s) e own) (known_of c w s v g.0 f here) (q.view v refl);
              owes = step_owes c s past (links_of w s) v e (own_arrives past c s v e own) (q.view v refl);
              disk = step_disk c s (links_of w s) v e;
            }

    received : (n : ℕ) (x : Numbered) (v : SiteView) (w : World) → place_at w x.packet.to ≡ Some (Running v) → WasSent w x → All c w → Where c (acts n x.packet.to v (step c x.packet.to (links_of (passed x.number w) x.packet.to) v (Receives x.packet)) (passed x.number w))
    received n x v w here sent g = acts_covers c n x.packet.to v (step c x.packet.to (links_of (passed x.number w) x.packet.to) v (Receives x.packet)) (passed x.number w) here does (λ l o. passed_world c x.number w (g.1 l o))
      where
        past : List Told
        past = past_of w.trace

        s : ℕ
        s = x.packet.to

        does : Laws c past → Orderly (passed x.number w) → WorldCovers c (passed x.number w) → Does c s past v (step c s (links_of (passed x.number w) s) v (Receives x.packet))
        does l order now =
            let f : WorldCovers c w = g.1 l order in
            let q : PlaceCovers c past s (Running v) = f.places s (Running v) here in
            let a : Arrives past c s v x.packet x.packet.body = arrives_of c w x v g.0 order l f sent here in
            record {
              versions = step_fact (DeedsOf w.trace s) (DeedsOf w.trace x.packet.from) c s past (links_of (passed x.number w) s) v (Receives x.packet) l.agree (sent_both c w x sent f).0 (was_sent w x sent g.0.0.0.0) (g.0.0.0.0.views s v here) (q.versions v refl);
              fine = step_fine (DeedsOf w.trace s) (DeedsOf w.trace x.packet.from) c s past (links_of (passed x.number w) s) v (Receives x.packet) a (was_sent w x sent g.0.0.0.0) (known_of c w s v g.0 f here) (q.view v refl);
              owes = step_owes c s past (links_of (passed x.number w) s) v (Receives x.packet) a (q.view v refl);
              disk = step_disk c s (links_of (passed x.number w) s) v (Receives x.packet);
            }

-- ---- the first world ----

one_not_zero : ◌≡◌ {A = ℕ} 1 0 → ⊥
one_not_zero e = cc

-- where nothing was told nothing is to be counted
none_counts : (s : ℕ) (file : FileId) (o : Option FileCopy) → FoundAt (λ (x : FileCopy). x.file.ino ≡ 1) copy_key (file_key file) o → file.ino ≤ inode_span - 1 → CopyCounts [] s file o
none_counts s file None h small = λ n m. m
none_counts s file (Some x) h small = (key_file x.file file (let e : x.file.ino ≡ 1 = h.1 in omega (arith, e)) (omega (arith, small)) h.0, λ n m. absurd m)

first_site : (c : Config) (t : ℕ) → IsSite t → PlaceCovers c [] t (Running (fresh 1 (formatted c t)))
first_site c t site = running_place c [] t (fresh 1 (formatted c t)) site
    (record { copies = every_map (CopyFact []) (root_copy c) _ (λ g. record { root = refl; site = refl; number = refl; none = seen_none }); pulls = tt; inside = refl })
    (record { boot = one_not_zero; disk = λ file small. none_counts t file (row copy_key (file_key file) (formatted c t)) (row_at (λ (x : FileCopy). x.file.ino ≡ 1) copy_key (file_key file) (formatted c t) (every_map (λ (x : FileCopy). x.file.ino ≡ 1) (root_copy c) _ (λ g. refl))) (omega (arith, small)); inside = (refl, refl) })

first_covers : (c : Config) → WorldCovers c (first_world c)
first_covers c = record {
  numbered = tt;
  once = λ file. tt;
  fit = λ s file n m. absurd m;
  synced = λ e key file r. absurd r;
  places = first_places c (PlaceCovers c []) (λ s own. first_site c s (record { low = own.0.0; high = own.0.1 }));
  packets = tt;
  underway = tt;
}

-- ---- the law, where the laws of the trace hold ----

pub run_once : (c : Config) (lines : List ScheduleLine) → Laws c (past_of (run_in c lines).trace) → Orderly (run_in c lines) → StampsAreOnce (past_of (run_in c lines).trace)
run_once c lines l order = let f : WorldCovers c (run_in c lines) = (every_run c (All c) (all_kept c) (first_standing c, λ l o. first_covers c) lines).1 l order in f.once
