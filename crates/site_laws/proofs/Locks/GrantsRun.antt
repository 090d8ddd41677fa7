-- In every run each plain grant is locked by the earlier ones of its file in its epoch.
use Rattle.std.proofs.Common.{◌≡◌, ◌≢◌, ℕ, Bool, true, false, cond, List, [], ◌∷◌, map, Option, Some, None, refl, sym, ◌∙◌, ap, subst, inl, inr}
use Rattle.run_laws.proofs.of_plain_facts.Options.{some_same as some_eq, some_same}
use Rattle.locus_ids.specs.declared.ids.EpochId.{EpochId}
use Rattle.locus_ids.specs.declared.ids.FileId.{FileId}
use Rattle.locus_ids.specs.declared.ids.Mode.{Mode}
use Rattle.locus_ids.specs.declared.sites.Members.{Members}
use Rattle.locus_ids.specs.declared.config.Config.{Config}
use Rattle.schedule_lines.specs.declared.line.ScheduleLine.{ScheduleLine}
use Rattle.trace_book.specs.declared.record.Record.{Record}
use Rattle.trace_book.specs.declared.record.Record.TheVariants as says
use Rattle.trace_book.specs.declared.record.StopCause.{StopCause}
use Rattle.trace_book.specs.declared.record.StopCause.TheVariants as cause
use Rattle.wire_messages.specs.declared.packet.Packet.{Packet}
use Rattle.role_steps.specs.Own.{Every}
use Rattle.role_steps.specs.Views.{SiteView, Told, Shown, DiskWrite, Outcome, Receives, sync_site}
use Rattle.role_steps.specs.declared.copies.FileCopy.{FileCopy}
use Rattle.role_steps.specs.declared.rounds.InEpoch.{InEpoch}
use Rattle.role_steps.proofs.Sending.{every_map}
use Rattle.the_run.specs.Disks.{Disk, Booted, Whole, CutOff, boots, cut_disk, is_on_disk}
use Rattle.the_run.specs.Steps.{step}
use Rattle.the_run.specs.Joins.{Joined}
use Rattle.the_run.specs.Worlds.{World, Running, Stopped, Numbered, Line, links_of, place_at, script_of, happened, told_onto, disk_of, puts, arms, passed, stops_with, cause_of, acts, fresh, first_world}
use Rattle.the_run.specs.Runs.{boots_as, packet_record, run_in}
use Rattle.the_run.specs.Kept.{Kept}
use Rattle.the_run.proofs.Boots.{at_each, acts_cases, every_weaker}
use Rattle.the_run.proofs.Events.{happened_keeps, puts_other, puts_same}
use Rattle.the_run.proofs.OneList.{one_list}
use Rattle.the_run.proofs.Runs.{every_run}
use Rattle.site_laws.specs.Vectors.Written.{past_of}
use Rattle.site_laws.specs.Vectors.Held.{IsOf, Writes, OnDisk}
use Rattle.site_laws.specs.Vectors.Facts.{onto}
use Rattle.site_laws.proofs.Vectors.SiteDisks.{step_disk}
use Rattle.site_laws.proofs.Vectors.FactsRun.{past_onto}
use Rattle.run_laws.proofs.Walks.FirstWorld.{first_views}
use Rattle.site_laws.specs.Locks.Joins.{WasJoined}
use Rattle.site_laws.specs.Locks.Locks.{IsOfAFile}
use Rattle.site_laws.specs.Locks.Grants.{WasGrantedAs, GrantsAreLocked}
use Rattle.site_laws.proofs.Locks.Facts.{onto_later}
use Rattle.site_laws.proofs.Locks.GrantTold.{TableLock, lock_later, BareRecord, Bare, AllLocked, bare_locked}
use Rattle.site_laws.proofs.Locks.BareRoles.{BareWrite}
use Rattle.site_laws.specs.Locks.Synced.{OneTold, Orderly, SyncedBy}
use Rattle.site_laws.proofs.Locks.GrantSites.{GrantsSynced, GrantBy, GrantsIn, SiteLock, SiteKeeps, orderly_before, synced_after, bares_by, granted_by, in_bare}
use Rattle.site_laws.proofs.Locks.GrantSteps.{step_site}
use Rattle.site_laws.proofs.Locks.JoinsRun.{run_joins_once}

record GrantFact (c : Config) (w : World) : Type 0 where
  synced : GrantsSynced c (past_of w.trace)
  locked : GrantsAreLocked (past_of w.trace)
  views : (s : ℕ) (v : SiteView) → place_at w s ≡ Some (Running v) → SiteLock c (past_of w.trace) s v

abbrev WhereOrderly : Config → World → Type 0
WhereOrderly c w = Orderly (past_of w.trace) → GrantFact c w

all_locked : (told past : List Told) → AllLocked past told → GrantsAreLocked past → GrantsAreLocked (onto told past)
all_locked [] past h g = g
all_locked (x ∷ xs) past h g = all_locked xs (x ∷ past) h.1 (h.0, g)

-- ---- another site's event ----

-- a grant of another site is of another group or epoch
others_before : (c : Config) (now : List Told) (s : ℕ) (e : EpochId) (key : ℕ) (file : FileId) (m : Mode) (told past : List Told) → IsOfAFile m → (SyncedBy c now e file.group s → ⊥) → Every (GrantBy c now s) told → WasGrantedAs (onto told past) e key file m → WasGrantedAs past e key file m
others_before c now s e key file m [] past it other h g = g
others_before c now s e key file m (x ∷ xs) past it other h g = old (others_before c now s e key file m xs (x ∷ past) it other h.1 g)
  where
    old : WasGrantedAs (x ∷ past) e key file m → WasGrantedAs past e key file m
    old (inl k) = absurd (other (granted_by c now s e key file m x it h.0 k))
    old (inr k) = k

not_there : (c : Config) (now : List Told) (s t : ℕ) (e : EpochId) (members : Members) (group : ℕ) → s ≢ t → OneTold now → WasJoined now t e members → sync_site c members group ≡ Some t → SyncedBy c now e group s → ⊥
not_there c now s t e members group ne one joined synced h =
    let same : h.members ≡ members = one s t e h.members members h.joined joined in
    ne (some_same s t (sym (subst (λ (n : Members). sync_site c n group ≡ Some s) same h.synced) ∙ synced))

others_in : (c : Config) (told past : List Told) (s t : ℕ) (v : SiteView) (o : Option InEpoch) → s ≢ t → OneTold (onto told past) → Every (GrantBy c (onto told past) s) told → GrantsIn c past t v o → GrantsIn c (onto told past) t v o
others_in c told past s t v None ne one h k = k
others_in c told past s t v (Some e) ne one h k =
    let now : List Told = onto told past in
    let joined : WasJoined now t e.id e.members = onto_later told past _ k.0 in
    (joined, every_weaker (TableLock c past t e.id e.members) (TableLock c now t e.id e.members) v.tables (λ u q. lock_later c past now (onto_later told past) t e.id e.members u (λ key file m it group g. others_before c now s e.id key file m told past it (λ b. not_there c now s t e.id e.members u.group ne one joined q.synced (subst (λ (n : ℕ). SyncedBy c now e.id n s) group b)) h g) q) k.1, k.2)

-- ---- one event ----

record Owed (c : Config) (told : List Told) (change : World → World) (w : World) (me : ℕ) : Type 0 where
  by : Every (GrantBy c (onto told (past_of w.trace)) me) told
  locked : AllLocked (past_of w.trace) told
  views : (t : ℕ) (v : SiteView) → place_at (change w) t ≡ Some (Running v) → SiteLock c (onto told (past_of w.trace)) t v

happened_fact : (c : Config) (me n : ℕ) (ps : List Packet) (told : List Told) (change : World → World) (w : World) → (Orderly (onto told (past_of w.trace)) → GrantFact c w → Owed c told change w me) → WhereOrderly c w → WhereOrderly c (happened n ps told change w)
happened_fact c me n ps told change w now g =
    happened_keeps (WhereOrderly c) n ps told change w g
    (λ l h. (let f : GrantFact c w = g h in record { synced = f.synced; locked = f.locked; views = f.views }))
    (λ k b t h. (let order : Orderly (onto told (past_of w.trace)) = subst Orderly same h in let f : GrantFact c w = g (orderly_before told (past_of w.trace) order) in let r : Owed c told change w me = now order f in record {
      synced = subst (GrantsSynced c) (sym same) (synced_after c me told (past_of w.trace) r.by f.synced);
      locked = subst GrantsAreLocked (sym same) (all_locked told (past_of w.trace) r.locked f.locked);
      views = λ s v here. subst (λ (x : List Told). SiteLock c x s v) (sym same) (r.views s v here);
    }))
  where
    same : past_of (told_onto n told w.trace) ≡ onto told (past_of w.trace)
    same = past_onto n told w.trace

running_view : (v u : SiteView) → Running v ≡ Running u → v ≡ u
running_view v u e = cc

stopped_never : (d : Disk) (v : SiteView) → Stopped d ≡ Running v → ⊥
stopped_never d v e = cc

-- ---- where no grant is told ----

old_bare : (c : Config) (told : List Told) (w : World) → Every Bare told → GrantFact c w → (t : ℕ) (v : SiteView) → place_at w t ≡ Some (Running v) → SiteLock c (onto told (past_of w.trace)) t v
old_bare c told w bare f t v here = in_bare c told (past_of w.trace) t v v.epoch bare (f.views t v here)

told_fact : (c : Config) (n : ℕ) (told : List Told) (w : World) → Every Bare told → WhereOrderly c w → WhereOrderly c (happened n [] told (λ now. now) w)
told_fact c n told w bare g = happened_fact c 0 n [] told (λ now. now) w (λ order f. record { by = bares_by c (onto told (past_of w.trace)) 0 told bare; locked = bare_locked (past_of w.trace) told bare; views = old_bare c told w bare f }) g

stops_fact : (c : Config) (n s : ℕ) (d : Disk) (told : List Told) (w : World) → Every Bare told → WhereOrderly c w → WhereOrderly c (happened n [] told (stops_with s d) w)
stops_fact c n s d told w bare g = happened_fact c s n [] told (stops_with s d) w (λ order f. record { by = bares_by c (onto told (past_of w.trace)) s told bare; locked = bare_locked (past_of w.trace) told bare; views = views f }) g
  where
    views : GrantFact c w → (t : ℕ) (v : SiteView) → place_at (puts s (Stopped d) w) t ≡ Some (Running v) → SiteLock c (onto told (past_of w.trace)) t v
    views f t v here = at_each s t (SiteLock c (onto told (past_of w.trace)) t v)
        (λ e. absurd (stopped_never d v (some_eq (Stopped d) (Running v) (sym (puts_same s (Stopped d) w) ∙ (ap (place_at (puts s (Stopped d) w)) e ∙ here)))))
        (λ ne. old_bare c told w bare f t v (sym (puts_other s t (Stopped d) w ne) ∙ here))

-- what a step writes is a commit or an adoption
says_bare : (s : ℕ) (r : Record) (x : FileCopy) → IsOf s r x → BareRecord r
says_bare s (says.Grant at call request inst m file stamp ss) x h = absurd h
says_bare s _ x h = tt

written_bare : (s : ℕ) (old new : List FileCopy) (told : List Told) (written : Option DiskWrite) → OnDisk s old new told written → BareWrite written
written_bare s old new told written (inl h) = subst BareWrite (sym h.none) tt
written_bare s old new told written (inr h) = let k : Writes s old new told written h.0 = h.1 in subst BareWrite (sym k.is_written) (says_bare s h.0.says h.0.copy k.says_so)

cut_fact : (c : Config) (n s : ℕ) (d : DiskWrite) (disk : Disk) (how : StopCause) (b : Bool) (w : World) → BareWrite (Some d) → WhereOrderly c w → WhereOrderly c (happened n [] (cond b (Shown d.says ∷ Shown (says.Stopped s how) ∷ []) (Shown (says.Stopped s how) ∷ [])) (stops_with s disk) w)
cut_fact c n s d disk how true w k g = stops_fact c n s disk (Shown d.says ∷ Shown (says.Stopped s how) ∷ []) w (k, (tt, tt)) g
cut_fact c n s d disk how false w k g = stops_fact c n s disk (Shown (says.Stopped s how) ∷ []) w (tt, tt) g

-- ---- an event of a site ----

views_of : (c : Config) (s : ℕ) (o : Outcome SiteView) (w : World) → Orderly (onto o.told (past_of w.trace)) → SiteKeeps c s (past_of w.trace) o → GrantFact c w → (t : ℕ) (u : SiteView) → place_at (puts s (Running o.view) w) t ≡ Some (Running u) → SiteLock c (onto o.told (past_of w.trace)) t u
views_of c s o w order k f t u here = at_each s t (SiteLock c (onto o.told (past_of w.trace)) t u)
    (λ e. subst (λ (n : ℕ). SiteLock c (onto o.told (past_of w.trace)) n u) e (subst (SiteLock c (onto o.told (past_of w.trace)) s) (running_view o.view u (some_eq (Running o.view) (Running u) (sym (puts_same s (Running o.view) w) ∙ (ap (place_at (puts s (Running o.view) w)) e ∙ here)))) k.view))
    (λ ne. others_in c o.told (past_of w.trace) s t u u.epoch ne order.one k.by (f.views t u (sym (puts_other s t (Running o.view) w ne) ∙ here)))

acts_fact : (c : Config) (n s : ℕ) (v : SiteView) (o : Outcome SiteView) (w : World) → place_at w s ≡ Some (Running v) → BareWrite o.written → (GrantsSynced c (past_of w.trace) → Orderly (onto o.told (past_of w.trace)) → SiteLock c (past_of w.trace) s v → SiteKeeps c s (past_of w.trace) o) → WhereOrderly c w → WhereOrderly c (acts n s v o w)
acts_fact c n s v o w here bare step g =
    acts_cases (WhereOrderly c) n s v o w
    (happened_fact c s n o.sent o.told (λ now. puts s (Running o.view) now) w owed g)
    (λ a. happened_fact c s n o.sent o.told (λ now. puts s (Running o.view) (arms a now)) w (λ order f. (let r : Owed c o.told (λ now. puts s (Running o.view) now) w s = owed order f in record { by = r.by; locked = r.locked; views = r.views })) g)
    (λ d a e. cut_fact c n s d (cut_disk v.boot v.store d a.how a.left) (cause_of a.how) (is_on_disk v.store d a.how a.left) w (subst BareWrite e bare) g)
  where
    owed : Orderly (onto o.told (past_of w.trace)) → GrantFact c w → Owed c o.told (λ now. puts s (Running o.view) now) w s
    owed order f = let k : SiteKeeps c s (past_of w.trace) o = step f.synced order (f.views s v here) in record { by = k.by; locked = k.locked; views = views_of c s o w order k f }

-- ---- a boot ----

up_fact : (c : Config) (n s : ℕ) (x : Disk) (change : World → World) (w : World) → ((t : ℕ) → place_at (change w) t ≡ place_at (puts s (Running (fresh x.label.boot x.copies)) w) t) → WhereOrderly c w → WhereOrderly c (happened n [] (Shown (says.Up s x.label.boot) ∷ []) change w)
up_fact c n s x change w same g = happened_fact c s n [] (Shown (says.Up s x.label.boot) ∷ []) change w (λ order f. record { by = (tt, tt); locked = (tt, tt); views = views f }) g
  where
    view : SiteView
    view = fresh x.label.boot x.copies

    now : List Told
    now = Shown (says.Up s x.label.boot) ∷ past_of w.trace

    views : GrantFact c w → (t : ℕ) (u : SiteView) → place_at (change w) t ≡ Some (Running u) → SiteLock c now t u
    views f t u here = at_each s t (SiteLock c now t u)
        (λ e. subst (λ (n : ℕ). SiteLock c now n u) e (subst (SiteLock c now s) (running_view view u (some_eq (Running view) (Running u) (sym (puts_same s (Running view) w) ∙ (sym (same s) ∙ (ap (place_at (change w)) e ∙ here))))) refl))
        (λ ne. old_bare c (Shown (says.Up s x.label.boot) ∷ []) w (tt, tt) f t u (sym (puts_other s t (Running view) w ne) ∙ (sym (same t) ∙ here)))

as_fact : (c : Config) (n s : ℕ) (b : Booted) (w : World) → WhereOrderly c w → WhereOrderly c (boots_as n s b w)
as_fact c n s (Whole x None) w g = up_fact c n s x _ w (λ t. refl) g
as_fact c n s (Whole x (Some a)) w g = up_fact c n s x _ w (λ t. refl) g
as_fact c n s (CutOff x how) w g = stops_fact c n s x (Shown (says.Stopped s (cause_of how)) ∷ []) w (tt, tt) g

-- ---- every event and change ----

packets_bare : (xs : List Numbered) → Every Bare (map packet_record xs)
packets_bare xs = every_map Bare packet_record xs (λ x. tt)

grant_kept : (c : Config) → Kept c (WhereOrderly c)
grant_kept c = record {
  steps = λ n s e v w here own g. acts_fact c n s v (step c s (links_of w s) v e) w here (written_bare s v.store.copies (step c s (links_of w s) v e).view.store.copies (step c s (links_of w s) v e).told (step c s (links_of w s) v e).written (step_disk c s (links_of w s) v e)) (step_site c s (past_of w.trace) (links_of w s) v e) g;
  receives = λ n x v w here sent g. received n x v w here g;
  passes = λ k w g. λ h. (let f : GrantFact c w = g h in record { synced = f.synced; locked = f.locked; views = f.views });
  drops = λ k w g. λ h. (let f : GrantFact c w = g h in record { synced = f.synced; locked = f.locked; views = f.views });
  recuts = λ xs w g. λ h. (let f : GrantFact c w = g h in record { synced = f.synced; locked = f.locked; views = f.views });
  arming = λ a w g. λ h. (let f : GrantFact c w = g h in record { synced = f.synced; locked = f.locked; views = f.views });
  voiding = λ n w g. told_fact c n (Shown says.Void ∷ []) w (tt, tt) g;
  budgets = λ n w g. told_fact c n (Shown says.Budget ∷ []) w (tt, tt) g;
  pending = λ n w g. told_fact c n (map packet_record w.underway) w (packets_bare w.underway) g;
  stopping = λ n s v w here g. stops_fact c n s (disk_of v) (Shown (says.Stopped s cause.Asked) ∷ []) w (tt, tt) g;
  booting = λ n s d w here g. as_fact c n s (boots (script_of w s) d) w g;
}
  where
    received : (n : ℕ) (x : Numbered) (v : SiteView) (w : World) → place_at w x.packet.to ≡ Some (Running v) → WhereOrderly c w → WhereOrderly c (acts n x.packet.to v (step c x.packet.to (links_of (passed x.number w) x.packet.to) v (Receives x.packet)) (passed x.number w))
    received n x v w here g =
        let s : ℕ = x.packet.to in
        let o : Outcome SiteView = step c x.packet.to (links_of (passed x.number w) x.packet.to) v (Receives x.packet) in
        acts_fact c n x.packet.to v o (passed x.number w) here (written_bare x.packet.to v.store.copies o.view.store.copies o.told o.written (step_disk c x.packet.to (links_of (passed x.number w) x.packet.to) v (Receives x.packet))) (step_site c x.packet.to (past_of w.trace) (links_of (passed x.number w) x.packet.to) v (Receives x.packet))
        (λ h. (let f : GrantFact c w = g h in record { synced = f.synced; locked = f.locked; views = f.views }))

-- ---- the first world, and the law ----

first_grants : (c : Config) → WhereOrderly c (first_world c)
first_grants c h = record { synced = λ e key file m it g. absurd g; locked = tt; views = first_views c (SiteLock c []) (λ s own. refl) }

joined_line : (s : ℕ) (id : EpochId) (m : Members) (trace : List Line) → WasJoined (past_of trace) s id m → Joined s id m trace
joined_line s id m [] h = absurd h
joined_line s id m (x ∷ xs) (inl h) = inl h
joined_line s id m (x ∷ xs) (inr h) = inr (joined_line s id m xs h)

run_orderly : (c : Config) (lines : List ScheduleLine) → Orderly (past_of (run_in c lines).trace)
run_orderly c lines = record { once = run_joins_once c lines; one = λ s t id m n a b. one_list c lines s t id m n (joined_line s id m (run_in c lines).trace a) (joined_line t id n (run_in c lines).trace b) }

pub run_grants : (c : Config) (lines : List ScheduleLine) → GrantsAreLocked (past_of (run_in c lines).trace)
run_grants c lines = let f : GrantFact c (run_in c lines) = every_run c (WhereOrderly c) (grant_kept c) (first_grants c) lines (run_orderly c lines) in f.locked
