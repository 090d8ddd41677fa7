-- What stores tell in every run, as it was owed: where instances are begun, and that what is done is of running instances.
use Rattle.std.proofs.Common.{◌≡◌, ◌≤◌, ℕ, false, List, [], ◌∷◌, refl, sym, subst, inl, inr}
use Rattle.locus_ids.specs.declared.ids.EpochId.{EpochId}
use Rattle.locus_ids.specs.declared.ids.FileId.{FileId}
use Rattle.locus_ids.specs.declared.ids.Mode.{Mode}
use Rattle.locus_ids.specs.declared.config.Config.{Config}
use Rattle.commit_graph.specs.Grants.{is_read}
use Rattle.schedule_lines.specs.declared.line.ScheduleLine.{ScheduleLine}
use Rattle.trace_book.specs.declared.record.Record.{Record}
use Rattle.trace_book.specs.declared.record.Record.TheVariants as says
use Rattle.role_steps.specs.Views.{Told, Shown, Begins, Shuts, serial_key}
use Rattle.the_run.specs.Worlds.{World, Numbered}
use Rattle.the_run.specs.Runs.{run_in}
use Rattle.site_laws.specs.Vectors.Written.{past_of, WasTold, Begun, WasBegun, GrantedRecord, Granted as WasGrantedBy, WasGranted, InstancesAgree}
use Rattle.site_laws.proofs.Packs.InstanceAgree.{run_agrees}
use Rattle.site_laws.specs.Locks.Going.{BegunAt, WasBegunAt, ShutAt, WasShutAt, ReleasedRecord, Released, WasReleased, RecordGoesOn, InstanceGoesOn, InstancesGoOn}
use Rattle.site_laws.specs.Locks.Locks.{IsOfAFile}
use Rattle.site_laws.specs.Locks.Grants.{WasGrantedAs}
use Rattle.site_laws.proofs.Locks.Facts.{Later, same_later, one_later, then_later}
use Rattle.site_laws.proofs.Locks.FactsRun.{run_goes}
use Rattle.site_laws.specs.Packs.WriterGranting.{GrantedThere, GrantsNameTheirSite}
use Rattle.site_laws.proofs.Packs.WriterPlacesRun.{run_sites}
use Rattle.site_laws.specs.Makes.RunningStores.{IsAsked, StoresStand}
use Rattle.site_laws.specs.Makes.RunningRunning.{IsRunning, RecordRuns, ToldRuns, InstancesRun, BegunAtOneSite, OpensAreAsGranted}
use Rattle.site_laws.proofs.Makes.RunningSpine.{Owed}
use Rattle.site_laws.proofs.Makes.RunningSpineRun.{EachOwed, Holds}
use Rattle.site_laws.proofs.Makes.RunningStand.{Runs, RecordOwed, StandFacts, StandOwed}
use Rattle.site_laws.proofs.Makes.RunningStandRun.{stores_stand, run_standing}
use Rattle.site_laws.proofs.Makes.RunningOrders.{run_orderly, run_as_granted}
use Rattle.site_laws.proofs.Makes.RunningOneSite.{run_one_site}

-- in every run stores stand as they must, and what they owe is met
pub run_holds : (c : Config) (lines : List ScheduleLine) → Holds StandFacts StandOwed (run_in c lines)
run_holds c lines = (run_standing c lines).1 (run_orderly c lines)

pub run_stores : (c : Config) (lines : List ScheduleLine) → StoresStand (run_in c lines)
run_stores c lines = stores_stand (run_in c lines) (run_standing c lines) (run_orderly c lines)

-- ---- where instances are begun ----

-- what is owed of something that was told
record Owing (G : Owed) (Q : Told → Type 0) : Type 0 where
  told : Told
  older : List Told
  owed : G older told
  it : Q told

each_found : (G : Owed) (Q : Told → Type 0) (past : List Told) → EachOwed G past → WasTold Q past → Owing G Q
each_found G Q [] h k = absurd k
each_found G Q (x ∷ xs) h (inl k) = record { told = x; older = xs; owed = h.0; it = k }
each_found G Q (x ∷ xs) h (inr k) = each_found G Q xs h.1 k

begins_sited : (sent : List Numbered) (past : List Told) (s : ℕ) (e : EpochId) (key : ℕ) (file : FileId) (x : Told) → StandOwed sent past x → BegunAt s e key file x → 1 ≤ s
begins_sited sent past s e key file (Begins t at inst of) h k = subst (λ (n : ℕ). 1 ≤ n) k.0 h.site
begins_sited sent past s e key file _ h k = absurd k

-- sites are numbered from 1
pub run_sited : (c : Config) (lines : List ScheduleLine) (s : ℕ) (e : EpochId) (key : ℕ) (file : FileId) → WasBegunAt (past_of (run_in c lines).trace) s e key file → 1 ≤ s
run_sited c lines s e key file h =
    let w : World = run_in c lines in
    let k : Owing (StandOwed w.sent) (BegunAt s e key file) = each_found (StandOwed w.sent) (BegunAt s e key file) (past_of w.trace) (run_holds c lines).owed h in
    begins_sited w.sent k.older s e key file k.told k.owed k.it

-- ---- what was shut was begun, and what was released was shut ----

shuts_begun : (older : List Told) (s : ℕ) (e : EpochId) (key : ℕ) (x : Told) → InstanceGoesOn older x → ShutAt s e key x → (file : FileId) × WasBegunAt older s e key file
shuts_begun older s e key (Shuts t at inst) h k = (h.0, subst (λ (n : ℕ). WasBegunAt older s e n h.0) k.2 (subst (λ (i : EpochId). WasBegunAt older s i (serial_key inst) h.0) k.1 (subst (λ (n : ℕ). WasBegunAt older n at (serial_key inst) h.0) k.0 h.1)))
shuts_begun older s e key _ h k = absurd k

pub shut_begun : (past : List Told) (s : ℕ) (e : EpochId) (key : ℕ) → InstancesGoOn past → WasShutAt past s e key → (file : FileId) × WasBegunAt past s e key file
shut_begun [] s e key h k = absurd k
shut_begun (x ∷ older) s e key h (inl k) = let r : (file : FileId) × WasBegunAt older s e key file = shuts_begun older s e key x h.0 k in (r.0, inr r.1)
shut_begun (x ∷ older) s e key h (inr k) = let r : (file : FileId) × WasBegunAt older s e key file = shut_begun older s e key h.1 k in (r.0, inr r.1)

ends_record : (older : List Told) (e : EpochId) (key : ℕ) (r : Record) → RecordGoesOn older r → ReleasedRecord e key r → (s : ℕ) × WasShutAt older s e key
ends_record older e key (says.Release at inst file made) h k = (h.ss, subst (λ (n : ℕ). WasShutAt older h.ss e n) k.1 (subst (λ (i : EpochId). WasShutAt older h.ss i (serial_key inst)) k.0 h.was_shut))
ends_record older e key _ h k = absurd k

ends_told : (older : List Told) (e : EpochId) (key : ℕ) (x : Told) → InstanceGoesOn older x → Released e key x → (s : ℕ) × WasShutAt older s e key
ends_told older e key (Shown r) h k = ends_record older e key r h k
ends_told older e key _ h k = absurd k

pub released_shut : (past : List Told) (e : EpochId) (key : ℕ) → InstancesGoOn past → WasReleased past e key → (s : ℕ) × WasShutAt past s e key
released_shut [] e key h k = absurd k
released_shut (x ∷ older) e key h (inl k) = let r : (s : ℕ) × WasShutAt older s e key = ends_told older e key x h.0 k in (r.0, inr r.1)
released_shut (x ∷ older) e key h (inr k) = let r : (s : ℕ) × WasShutAt older s e key = released_shut older e key h.1 k in (r.0, inr r.1)

-- ---- a grant has a mode, and names a site ----

record Whole (past : List Told) (e : EpochId) (key : ℕ) (file : FileId) : Type 0 where
  mode : Mode
  ss : ℕ
  granted : WasGrantedAs past e key file mode
  there : IsOfAFile mode → WasTold (GrantedThere e key ss) past

whole_record : (older : List Told) (e : EpochId) (key : ℕ) (file : FileId) (r : Record) → GrantedRecord e key file r → Whole (Shown r ∷ older) e key file
whole_record older e key file (says.Grant at call request inst m of stamp ss) h = record { mode = m; ss = ss; granted = inl (h.0, h.1, h.2, refl); there = λ it. inl (h.0, h.1, refl, it) }
whole_record older e key file _ h = absurd h

whole_told : (older : List Told) (e : EpochId) (key : ℕ) (file : FileId) (x : Told) → WasGrantedBy e key file x → Whole (x ∷ older) e key file
whole_told older e key file (Shown r) h = whole_record older e key file r h
whole_told older e key file _ h = absurd h

whole : (past : List Told) (e : EpochId) (key : ℕ) (file : FileId) → WasGranted past e key file → Whole past e key file
whole [] e key file h = absurd h
whole (x ∷ older) e key file (inl h) = whole_told older e key file x h
whole (x ∷ older) e key file (inr h) = let k : Whole older e key file = whole older e key file h in record { mode = k.mode; ss = k.ss; granted = inr k.granted; there = λ it. inr (k.there it) }

begun_here : (s : ℕ) (e : EpochId) (key : ℕ) (file : FileId) (x : Told) → BegunAt s e key file x → Begun e key file x
begun_here s e key file (Begins t at inst of) h = (h.1, h.2, h.3)
begun_here s e key file _ h = absurd h

was_begun : (s : ℕ) (e : EpochId) (key : ℕ) (file : FileId) (past : List Told) → WasBegunAt past s e key file → WasBegun past e key file
was_begun s e key file [] h = absurd h
was_begun s e key file (x ∷ older) (inl h) = inl (begun_here s e key file x h)
was_begun s e key file (x ∷ older) (inr h) = inr (was_begun s e key file older h)

-- ---- what runs, by laws of all that is told in the end ----

record Laws (w : World) : Type 0 where
  one_site : BegunAtOneSite (past_of w.trace)
  agree : InstancesAgree (past_of w.trace)
  names : GrantsNameTheirSite (past_of w.trace)
  as_granted : OpensAreAsGranted w

record InMode (past : List Told) (s : ℕ) (e : EpochId) (key : ℕ) (file : FileId) : Type 0 where
  mode : Mode
  runs : IsRunning past s e key file mode

runs_whole : (w : World) (older : List Told) (s : ℕ) (e : EpochId) (key : ℕ) (file : FileId) → Laws w → Later older (past_of w.trace) → InstancesGoOn older → Runs older s e key file → InMode older s e key file
runs_whole w older s e key file laws later goes h = record {
  mode = k.mode;
  runs = record {
    was_begun = h.was_begun;
    granted = k.granted;
    there = λ it. subst (λ (t : ℕ). WasTold (GrantedThere e key t) older) (sym (laws.names e key s k.ss file (later _ h.was_begun) (later _ (k.there it)))) (k.there it);
    not_shut = not_shut;
    not_released = λ r. (let q : (t : ℕ) × WasShutAt older t e key = released_shut older e key goes r in not_shut q.0 q.1);
  };
}
  where
    same : file ≡ h.granted.0
    same = laws.agree e key file h.granted.0 (was_begun s e key file (past_of w.trace) (later _ h.was_begun)) (later _ h.granted.1)

    k : Whole older e key file
    k = whole older e key file (subst (λ (f : FileId). WasGranted older e key f) (sym same) h.granted.1)

    not_shut : (t : ℕ) → WasShutAt older t e key → ⊥
    not_shut t q =
        let b : (g : FileId) × WasBegunAt older t e key g = shut_begun older t e key goes q in
        let here : s ≡ t = laws.one_site e key s t file b.0 (later _ h.was_begun) (later _ b.1) in
        h.not_shut (subst (λ (n : ℕ). WasShutAt older n e key) (sym here) q)

record_runs : (w : World) (older : List Told) (r : Record) → Laws w → Later older (past_of w.trace) → InstancesGoOn older → RecordOwed w.sent older r → RecordRuns older r
record_runs w older (says.Act e inst n o result) laws later goes h = let k : InMode older h.ss e (serial_key inst) h.file = runs_whole w older h.ss e (serial_key inst) h.file laws later goes h.runs in record { ss = h.ss; file = h.file; mode = k.mode; runs = k.runs }
record_runs w older (says.Commit file s stamp parents content) laws later goes h =
    let k : InMode older s h.epoch h.key file = runs_whole w older s h.epoch h.key file laws later goes h.runs in
    let a : IsAsked w.sent s h.epoch h.key h.mode file = h.asked in
    let same : h.mode ≡ k.mode = (laws.as_granted a.opening h.key h.mode k.mode file file a.was_sent a.asks (subst (λ (e : EpochId). WasGrantedAs (past_of w.trace) e h.key file k.mode) (sym a.epoch_is) (later _ k.runs.granted))).0 in
    record { epoch = h.epoch; key = h.key; mode = k.mode; runs = k.runs; writes = subst (λ (m : Mode). is_read m ≡ false) same h.writes }
record_runs w older _ laws later goes h = tt

told_runs : (w : World) (older : List Told) (x : Told) → Laws w → Later (x ∷ older) (past_of w.trace) → InstancesGoOn older → StandOwed w.sent older x → ToldRuns older x
told_runs w older (Shown r) laws later goes h = record_runs w older r laws (then_later older (Shown r ∷ older) (past_of w.trace) (one_later (Shown r) older) later) goes h
told_runs w older (Begins s e inst file) laws later goes h = λ t other k. h.new other (subst (λ (n : ℕ). WasBegunAt older n e (serial_key inst) other) (sym (laws.one_site e (serial_key inst) s t file other (later _ (inl (refl, refl, refl, refl))) (later _ (inr k)))) k)
told_runs w older _ laws later goes h = tt

each_runs : (w : World) (past : List Told) → Laws w → Later past (past_of w.trace) → InstancesGoOn past → EachOwed (StandOwed w.sent) past → InstancesRun past
each_runs w [] laws later goes h = tt
each_runs w (x ∷ older) laws later goes h = (told_runs w older x laws later goes.1 h.0, each_runs w older laws (then_later older (x ∷ older) (past_of w.trace) (one_later x older) later) goes.1 h.1)

run_laws_of : (c : Config) (lines : List ScheduleLine) → Laws (run_in c lines)
run_laws_of c lines = record { one_site = run_one_site c lines; agree = run_agrees c lines; names = run_sites c lines; as_granted = run_as_granted c lines }

pub run_instances : (c : Config) (lines : List ScheduleLine) → InstancesRun (past_of (run_in c lines).trace)
run_instances c lines = let w : World = run_in c lines in each_runs w (past_of w.trace) (run_laws_of c lines) (same_later (past_of w.trace)) (run_goes c lines) (run_holds c lines).owed
