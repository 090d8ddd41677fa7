-- What an event of the world leaves of what tables know of files that are being made.
use Rattle.std.proofs.Common.{◌≡◌, ◌≢◌, ℕ, Bool, true, false, cond, List, [], ◌∷◌, Option, Some, None, refl, sym, ◌∙◌, ap, subst, inl, inr}
use Rattle.role_steps.proofs.of_plain_facts.Options.{some_same as some_eq, some_same}
use Rattle.locus_ids.specs.declared.ids.EpochId.{EpochId}
use Rattle.locus_ids.specs.declared.sites.Members.{Members}
use Rattle.locus_ids.specs.declared.config.Config.{Config}
use Rattle.trace_book.specs.declared.record.Record.{Record}
use Rattle.trace_book.specs.declared.record.Record.TheVariants as says
use Rattle.trace_book.specs.declared.record.StopCause.{StopCause}
use Rattle.wire_messages.specs.declared.packet.Packet.{Packet}
use Rattle.role_steps.specs.Own.{Every}
use Rattle.role_steps.specs.Views.{SiteView, Told, Shown, DiskWrite, Outcome, sync_site}
use Rattle.role_steps.specs.declared.copies.FileCopy.{FileCopy}
use Rattle.role_steps.specs.declared.rounds.InEpoch.{InEpoch}
use Rattle.the_run.specs.Disks.{Disk, Booted, Whole, CutOff, cut_disk, is_on_disk}
use Rattle.the_run.specs.Steps.{step}
use Rattle.the_run.specs.Worlds.{World, Running, Stopped, place_at, happened, told_onto, puts, arms, stops_with, cause_of, acts, fresh}
use Rattle.the_run.specs.Runs.{boots_as}
use Rattle.the_run.proofs.Boots.{at_each, acts_cases, every_weaker}
use Rattle.the_run.proofs.Events.{happened_keeps, puts_other, puts_same}
use Rattle.site_laws.specs.Vectors.Written.{past_of}
use Rattle.site_laws.specs.Vectors.Held.{IsOf, Writes, OnDisk}
use Rattle.site_laws.specs.Vectors.Facts.{onto}
use Rattle.site_laws.proofs.Vectors.FactsRun.{past_onto}
use Rattle.site_laws.specs.Locks.Joins.{WasJoined}
use Rattle.site_laws.proofs.Locks.Facts.{onto_later}
use Rattle.site_laws.specs.Locks.Synced.{OneTold, SyncedBy}
use Rattle.site_laws.specs.Makes.Tables.{TableMade, Ordered, PlainGrantsAreFree}
use Rattle.site_laws.proofs.Makes.Telling.{AsideRecord, Aside}
use Rattle.site_laws.proofs.Makes.TableTold.{ordered_before, all_fresh, IsForeign, not_tabular, table_later}
use Rattle.site_laws.proofs.Makes.TableOpens.{AllPlain}
use Rattle.site_laws.proofs.Makes.MakeSites.{TabularBy, TabularsSynced, asides_by, aside_plain, MadeIn, SiteMade, SiteKeeps, synced_after, in_aside}

pub record WorldTables (c : Config) (w : World) : Type 0 where
  pub synced : TabularsSynced c (past_of w.trace)
  pub plain : PlainGrantsAreFree (past_of w.trace)
  pub views : (s : ℕ) (v : SiteView) → place_at w s ≡ Some (Running v) → SiteMade c (past_of w.trace) s v

abbrev pub WhereOrdered : Config → World → Type 0
WhereOrdered c w = Ordered (past_of w.trace) → WorldTables c w

all_plain : (told past : List Told) → AllPlain past told → PlainGrantsAreFree past → PlainGrantsAreFree (onto told past)
all_plain [] past h g = g
all_plain (x ∷ xs) past h g = all_plain xs (x ∷ past) h.1 (h.0, g)

-- ---- another site's event ----

not_there : (c : Config) (now : List Told) (s t : ℕ) (e : EpochId) (members : Members) (group : ℕ) → s ≢ t → OneTold now → WasJoined now t e members → sync_site c members group ≡ Some t → SyncedBy c now e group s → ⊥
not_there c now s t e members group ne one joined synced h =
    let same : h.members ≡ members = one s t e h.members members h.joined joined in
    ne (some_same s t (sym (subst (λ (n : Members). sync_site c n group ≡ Some s) same h.synced) ∙ synced))

others_in : (c : Config) (told past : List Told) (s t : ℕ) (v : SiteView) (o : Option InEpoch) → s ≢ t → Ordered (onto told past) → Every (TabularBy c (onto told past) s) told → MadeIn c past t v o → MadeIn c (onto told past) t v o
others_in c told past s t v None ne law h k = k
others_in c told past s t v (Some e) ne law h k =
    let now : List Told = onto told past in
    let joined : WasJoined now t e.id e.members = onto_later told past _ k.0 in
    (joined, every_weaker (TableMade c past t e.id e.members) (TableMade c now t e.id e.members) v.tables (λ u q. table_later c told past t e.id e.members u (every_weaker (TabularBy c now s) (IsForeign e.id u.group) told (λ x by. not_tabular e.id u.group x (λ y. not_there c now s t e.id e.members u.group ne law.orderly.one joined q.synced (by e.id u.group y))) h) (all_fresh told past law.fresh) q) k.1, k.2)

-- ---- one event ----

record Owed (c : Config) (told : List Told) (change : World → World) (w : World) (me : ℕ) : Type 0 where
  by : Every (TabularBy c (onto told (past_of w.trace)) me) told
  plain : AllPlain (past_of w.trace) told
  views : (t : ℕ) (v : SiteView) → place_at (change w) t ≡ Some (Running v) → SiteMade c (onto told (past_of w.trace)) t v

happened_fact : (c : Config) (me n : ℕ) (ps : List Packet) (told : List Told) (change : World → World) (w : World) → (Ordered (onto told (past_of w.trace)) → WorldTables c w → Owed c told change w me) → WhereOrdered c w → WhereOrdered c (happened n ps told change w)
happened_fact c me n ps told change w now g =
    happened_keeps (WhereOrdered c) n ps told change w g
    (λ l h. (let f : WorldTables c w = g h in record { synced = f.synced; plain = f.plain; views = f.views }))
    (λ k b t h. (let order : Ordered (onto told (past_of w.trace)) = subst Ordered same h in let f : WorldTables c w = g (ordered_before told (past_of w.trace) order) in let r : Owed c told change w me = now order f in record {
      synced = subst (TabularsSynced c) (sym same) (synced_after c me told (past_of w.trace) r.by f.synced);
      plain = subst PlainGrantsAreFree (sym same) (all_plain told (past_of w.trace) r.plain f.plain);
      views = λ s v here. subst (λ (x : List Told). SiteMade c x s v) (sym same) (r.views s v here);
    }))
  where
    same : past_of (told_onto n told w.trace) ≡ onto told (past_of w.trace)
    same = past_onto n told w.trace

pub running_view : (v u : SiteView) → Running v ≡ Running u → v ≡ u
running_view v u e = cc

stopped_never : (d : Disk) (v : SiteView) → Stopped d ≡ Running v → ⊥
stopped_never d v e = cc

-- ---- where no grant is told ----

old_bare : (c : Config) (told : List Told) (w : World) → Every Aside told → WorldTables c w → (t : ℕ) (v : SiteView) → place_at w t ≡ Some (Running v) → SiteMade c (onto told (past_of w.trace)) t v
old_bare c told w bare f t v here = in_aside c told (past_of w.trace) t v v.epoch bare (f.views t v here)

pub told_fact : (c : Config) (n : ℕ) (told : List Told) (w : World) → Every Aside told → WhereOrdered c w → WhereOrdered c (happened n [] told (λ now. now) w)
told_fact c n told w bare g = happened_fact c 0 n [] told (λ now. now) w (λ order f. record { by = asides_by c (onto told (past_of w.trace)) 0 told bare; plain = aside_plain told (past_of w.trace) bare; views = old_bare c told w bare f }) g

pub stops_fact : (c : Config) (n s : ℕ) (d : Disk) (told : List Told) (w : World) → Every Aside told → WhereOrdered c w → WhereOrdered c (happened n [] told (stops_with s d) w)
stops_fact c n s d told w bare g = happened_fact c s n [] told (stops_with s d) w (λ order f. record { by = asides_by c (onto told (past_of w.trace)) s told bare; plain = aside_plain told (past_of w.trace) bare; views = views f }) g
  where
    views : WorldTables c w → (t : ℕ) (v : SiteView) → place_at (puts s (Stopped d) w) t ≡ Some (Running v) → SiteMade c (onto told (past_of w.trace)) t v
    views f t v here = at_each s t (SiteMade c (onto told (past_of w.trace)) t v)
        (λ e. absurd (stopped_never d v (some_eq (Stopped d) (Running v) (sym (puts_same s (Stopped d) w) ∙ (ap (place_at (puts s (Stopped d) w)) e ∙ here)))))
        (λ ne. old_bare c told w bare f t v (sym (puts_other s t (Stopped d) w ne) ∙ here))

abbrev pub AsideWrite : Option DiskWrite → Type 0
AsideWrite None = Unit {0}
AsideWrite (Some d) = AsideRecord d.says

-- what a step writes is a commit or an adoption
says_aside : (s : ℕ) (r : Record) (x : FileCopy) → IsOf s r x → AsideRecord r
says_aside s (says.Start e group brought) x h = absurd h
says_aside s (says.Grant at call request inst m file stamp ss) x h = absurd h
says_aside s (says.Refuse at call request inst m file why) x h = absurd h
says_aside s (says.Release at inst file made) x h = absurd h
says_aside s _ x h = tt

pub written_aside : (s : ℕ) (old new : List FileCopy) (told : List Told) (written : Option DiskWrite) → OnDisk s old new told written → AsideWrite written
written_aside s old new told written (inl h) = subst AsideWrite (sym h.none) tt
written_aside s old new told written (inr h) = let k : Writes s old new told written h.0 = h.1 in subst AsideWrite (sym k.is_written) (says_aside s h.0.says h.0.copy k.says_so)

cut_fact : (c : Config) (n s : ℕ) (d : DiskWrite) (disk : Disk) (how : StopCause) (b : Bool) (w : World) → AsideWrite (Some d) → WhereOrdered c w → WhereOrdered c (happened n [] (cond b (Shown d.says ∷ Shown (says.Stopped s how) ∷ []) (Shown (says.Stopped s how) ∷ [])) (stops_with s disk) w)
cut_fact c n s d disk how true w k g = stops_fact c n s disk (Shown d.says ∷ Shown (says.Stopped s how) ∷ []) w (k, (tt, tt)) g
cut_fact c n s d disk how false w k g = stops_fact c n s disk (Shown (says.Stopped s how) ∷ []) w (tt, tt) g

-- ---- an event of a site ----

views_of : (c : Config) (s : ℕ) (o : Outcome SiteView) (w : World) → Ordered (onto o.told (past_of w.trace)) → SiteKeeps c s (past_of w.trace) o → WorldTables c w → (t : ℕ) (u : SiteView) → place_at (puts s (Running o.view) w) t ≡ Some (Running u) → SiteMade c (onto o.told (past_of w.trace)) t u
views_of c s o w order k f t u here = at_each s t (SiteMade c (onto o.told (past_of w.trace)) t u)
    (λ e. subst (λ (n : ℕ). SiteMade c (onto o.told (past_of w.trace)) n u) e (subst (SiteMade c (onto o.told (past_of w.trace)) s) (running_view o.view u (some_eq (Running o.view) (Running u) (sym (puts_same s (Running o.view) w) ∙ (ap (place_at (puts s (Running o.view) w)) e ∙ here)))) k.view))
    (λ ne. others_in c o.told (past_of w.trace) s t u u.epoch ne order k.by (f.views t u (sym (puts_other s t (Running o.view) w ne) ∙ here)))

pub acts_fact : (c : Config) (n s : ℕ) (v : SiteView) (o : Outcome SiteView) (w : World) → place_at w s ≡ Some (Running v) → AsideWrite o.written → (TabularsSynced c (past_of w.trace) → Ordered (onto o.told (past_of w.trace)) → SiteMade c (past_of w.trace) s v → SiteKeeps c s (past_of w.trace) o) → WhereOrdered c w → WhereOrdered c (acts n s v o w)
acts_fact c n s v o w here bare step g =
    acts_cases (WhereOrdered c) n s v o w
    (happened_fact c s n o.sent o.told (λ now. puts s (Running o.view) now) w owed g)
    (λ a. happened_fact c s n o.sent o.told (λ now. puts s (Running o.view) (arms a now)) w (λ order f. (let r : Owed c o.told (λ now. puts s (Running o.view) now) w s = owed order f in record { by = r.by; plain = r.plain; views = r.views })) g)
    (λ d a e. cut_fact c n s d (cut_disk v.boot v.store d a.how a.left) (cause_of a.how) (is_on_disk v.store d a.how a.left) w (subst AsideWrite e bare) g)
  where
    owed : Ordered (onto o.told (past_of w.trace)) → WorldTables c w → Owed c o.told (λ now. puts s (Running o.view) now) w s
    owed order f = let k : SiteKeeps c s (past_of w.trace) o = step f.synced order (f.views s v here) in record { by = k.by; plain = k.plain; views = views_of c s o w order k f }

-- ---- a boot ----

up_fact : (c : Config) (n s : ℕ) (x : Disk) (change : World → World) (w : World) → ((t : ℕ) → place_at (change w) t ≡ place_at (puts s (Running (fresh x.label.boot x.copies)) w) t) → WhereOrdered c w → WhereOrdered c (happened n [] (Shown (says.Up s x.label.boot) ∷ []) change w)
up_fact c n s x change w same g = happened_fact c s n [] (Shown (says.Up s x.label.boot) ∷ []) change w (λ order f. record { by = ((λ e group k. absurd k), tt); plain = (tt, tt); views = views f }) g
  where
    view : SiteView
    view = fresh x.label.boot x.copies

    now : List Told
    now = Shown (says.Up s x.label.boot) ∷ past_of w.trace

    views : WorldTables c w → (t : ℕ) (u : SiteView) → place_at (change w) t ≡ Some (Running u) → SiteMade c now t u
    views f t u here = at_each s t (SiteMade c now t u)
        (λ e. subst (λ (n : ℕ). SiteMade c now n u) e (subst (SiteMade c now s) (running_view view u (some_eq (Running view) (Running u) (sym (puts_same s (Running view) w) ∙ (sym (same s) ∙ (ap (place_at (change w)) e ∙ here))))) refl))
        (λ ne. old_bare c (Shown (says.Up s x.label.boot) ∷ []) w (tt, tt) f t u (sym (puts_other s t (Running view) w ne) ∙ (sym (same t) ∙ here)))

pub as_fact : (c : Config) (n s : ℕ) (b : Booted) (w : World) → WhereOrdered c w → WhereOrdered c (boots_as n s b w)
as_fact c n s (Whole x None) w g = up_fact c n s x _ w (λ t. refl) g
as_fact c n s (Whole x (Some a)) w g = up_fact c n s x _ w (λ t. refl) g
as_fact c n s (CutOff x how) w g = stops_fact c n s x (Shown (says.Stopped s (cause_of how)) ∷ []) w (tt, tt) g
