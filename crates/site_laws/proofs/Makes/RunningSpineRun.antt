-- In every run the facts about the instances of each site hold, and what is owed of what is told, where stores keep them.
use Rattle.std.proofs.Common.{◌≡◌, ◌≢◌, ℕ, ◌+◌, Bool, true, false, cond, List, [], ◌∷◌, map, Option, Some, None, refl, sym, ◌∙◌, ap, subst}
use Rattle.role_steps.proofs.of_plain_facts.Options.{some_same}
use Rattle.locus_ids.specs.declared.config.Config.{Config}
use Rattle.trace_book.specs.declared.record.Record.TheVariants as says
use Rattle.trace_book.specs.declared.record.StopCause.{StopCause}
use Rattle.trace_book.specs.declared.record.StopCause.TheVariants as cause
use Rattle.wire_messages.specs.declared.packet.Packet.{Packet}
use Rattle.role_steps.specs.Own.{Every}
use Rattle.role_steps.specs.Views.{SiteView, Told, Shown, DiskWrite, Outcome, Event, Calls, Receives, Ticks, Parts, Merges, GivesUp}
use Rattle.role_steps.specs.declared.instances.Instance.{Instance}
use Rattle.role_steps.specs.declared.rounds.InEpoch.{InEpoch}
use Rattle.role_steps.proofs.Sending.{every_map}
use Rattle.the_run.specs.Disks.{Disk, Booted, Whole, CutOff, boots, cut_disk, is_on_disk}
use Rattle.the_run.specs.Steps.{step}
use Rattle.the_run.specs.Worlds.{World, Running, Stopped, Numbered, links_of, place_at, script_of, happened, newest_onto, numbered_from, told_onto, disk_of, puts, arms, passed, stops_with, cause_of, acts, fresh, first_world}
use Rattle.the_run.specs.Runs.{boots_as, packet_record}
use Rattle.the_run.specs.Kept.{WasSent, IsOwn, Kept}
use Rattle.the_run.proofs.Boots.{at_each, acts_cases, every_weaker}
use Rattle.the_run.proofs.Events.{happened_keeps, puts_other, puts_same}
use Rattle.run_laws.specs.Naming.{Deeds, DeedsOf, Good}
use Rattle.run_laws.proofs.Run.{was_sent}
use Rattle.run_laws.proofs.Steps.{EventNames}
use Rattle.site_laws.specs.Vectors.Written.{past_of}
use Rattle.site_laws.specs.Vectors.Facts.{onto}
use Rattle.site_laws.proofs.Vectors.FactsRun.{past_onto}
use Rattle.site_laws.specs.Locks.Joins.{JoinsAreOnce}
use Rattle.site_laws.proofs.Packs.WriterAsksRun.{Leads, newest_leads}
use Rattle.run_laws.proofs.Walks.FirstWorld.{first_views}
use Rattle.site_laws.proofs.Makes.RunningSpine.{Facts, Owed, Free, Elsewhere, Mine, JoinedTold, StoresJoined, Spine, InSite, AllOwed, DiskOwed, Keeps, free_mine, free_elsewhere, mine_elsewhere, free_joins, free_owed, in_elsewhere, stores_after, order_before}
use Rattle.site_laws.proofs.Makes.RunningSpineStep.{PacketDone, EventDone, step_keeps}

-- ---- facts over the packets that were sent ----

abbrev pub SentFacts : Type 1
SentFacts = List Numbered → Facts

abbrev pub SentOwed : Type 1
SentOwed = List Numbered → Owed

-- a premise on what was sent and told
abbrev pub Premise : Type 1
Premise = List Numbered → List Told → Type 0

pub record Spines (P : Premise) (F : SentFacts) (G : SentOwed) : Type 0 where
  pub at : (sent : List Numbered) → Spine (F sent) (G sent)
  -- facts stay when more is sent
  pub more : (old new : List Numbered) → Leads old new → (past : List Told) (me : ℕ) (e : InEpoch) (is : List Instance) → F old past me e is → F new past me e is
  pub owed_more : (old new : List Numbered) → Leads old new → (past : List Told) (x : Told) → G old past x → G new past x
  -- the premise holds of what was before
  pub earlier : (old new : List Numbered) → Leads old new → (told past : List Told) → P new (onto told past) → P old past

abbrev pub EachOwed : Owed → List Told → Type 0
EachOwed G [] = Unit {0}
EachOwed G (x ∷ older) = G older x × EachOwed G older

pub record Holds (F : SentFacts) (G : SentOwed) (w : World) : Type 0 where
  pub stores : StoresJoined (past_of w.trace)
  pub owed : EachOwed (G w.sent) (past_of w.trace)
  pub views : (s : ℕ) (v : SiteView) → place_at w s ≡ Some (Running v) → InSite (F w.sent) (past_of w.trace) s v v.epoch

-- no site has joined an epoch twice, and the premise holds
abbrev pub Before : Premise → World → Type 0
Before P w = JoinsAreOnce (past_of w.trace) × P w.sent (past_of w.trace)

abbrev pub Where : Premise → SentFacts → SentOwed → World → Type 0
Where P F G w = Before P w → Holds F G w

-- ---- more is sent and told ----

site_more : (P : Premise) (F : SentFacts) (G : SentOwed) → Spines P F G → (old new : List Numbered) → Leads old new → (past : List Told) (me : ℕ) (v : SiteView) (o : Option InEpoch) → InSite (F old) past me v o → InSite (F new) past me v o
site_more P F G s old new l past me v None h = h
site_more P F G s old new l past me v (Some e) h = (h.0, s.more old new l past me e v.store.instances h.1)

each_more : (P : Premise) (F : SentFacts) (G : SentOwed) → Spines P F G → (old new : List Numbered) → Leads old new → (past : List Told) → EachOwed (G old) past → EachOwed (G new) past
each_more P F G s old new l [] h = tt
each_more P F G s old new l (x ∷ older) h = (s.owed_more old new l older x h.0, each_more P F G s old new l older h.1)

each_onto : (G : Owed) (told past : List Told) → AllOwed G past told → EachOwed G past → EachOwed G (onto told past)
each_onto G [] past h g = g
each_onto G (x ∷ xs) past h g = each_onto G xs (x ∷ past) h.1 (h.0, g)

-- ---- one event ----

-- a view after an event
abbrev SiteNow : SentFacts → World → List Told → ℕ → SiteView → Type 0
SiteNow F w told t v = InSite (F w.sent) (onto told (past_of w.trace)) t v v.epoch

-- what an event of a site owes
record Owes (F : SentFacts) (G : SentOwed) (told : List Told) (change : World → World) (w : World) : Type 0 where
  owed : AllOwed (G w.sent) (past_of w.trace) told
  joined : Every (JoinedTold (onto told (past_of w.trace))) told
  views : (t : ℕ) (v : SiteView) → place_at (change w) t ≡ Some (Running v) → SiteNow F w told t v

happened_where : (P : Premise) (F : SentFacts) (G : SentOwed) → Spines P F G → (n : ℕ) (ps : List Packet) (told : List Told) (change : World → World) (w : World) → (change w).sent ≡ w.sent →
    (JoinsAreOnce (onto told (past_of w.trace)) → P w.sent (past_of w.trace) → Holds F G w → Owes F G told change w) → Where P F G w → Where P F G (happened n ps told change w)
happened_where P F G s n ps told change w sent now g =
    happened_keeps (Where P F G) n ps told change w g
    (λ l b. (let f : Holds F G w = g b in record { stores = f.stores; owed = f.owed; views = f.views }))
    (λ k b t h. (let order : JoinsAreOnce (onto told past) = subst JoinsAreOnce same h.0 in let premise : P w.sent past = s.earlier w.sent new leads told past (subst (P new) same h.1) in let f : Holds F G w = g (order_before told past order, premise) in let r : Owes F G told change w = now order premise f in record {
      stores = subst StoresJoined (sym same) (stores_after told past r.joined f.stores);
      owed = subst (EachOwed (G new)) (sym same) (each_more P F G s w.sent new leads (onto told past) (each_onto (G w.sent) told past r.owed f.owed));
      views = λ t v here. subst (λ (x : List Told). InSite (F new) x t v v.epoch) (sym same) (site_more P F G s w.sent new leads (onto told past) t v v.epoch (r.views t v here));
    }))
  where
    past : List Told
    past = past_of w.trace

    new : List Numbered
    new = newest_onto (numbered_from (w.packets + 1) ps) (change w).sent

    leads : Leads w.sent new
    leads = subst (λ (xs : List Numbered). Leads xs new) sent (newest_leads (numbered_from (w.packets + 1) ps) (change w).sent)

    same : past_of (told_onto n told w.trace) ≡ onto told past
    same = past_onto n told w.trace

running_view : (v u : SiteView) → Running v ≡ Running u → v ≡ u
running_view v u e = cc

stopped_never : (d : Disk) (v : SiteView) → Stopped d ≡ Running v → ⊥
stopped_never d v e = cc

-- ---- another site's view ----

-- what is told of one site's store leaves the facts of the others
beside : (P : Premise) (F : SentFacts) (G : SentOwed) → Spines P F G → (s t : ℕ) (told : List Told) (w : World) (v : SiteView) → s ≢ t → Every (Mine s) told → place_at w t ≡ Some (Running v) → Holds F G w → SiteNow F w told t v
beside P F G q s t told w v ne mine here f = in_elsewhere (F w.sent) (G w.sent) (q.at w.sent) told (past_of w.trace) t v v.epoch (every_weaker (Mine s) (Elsewhere t) told (λ x. mine_elsewhere s t x ne) mine) (f.views t v here)

free_beside : (P : Premise) (F : SentFacts) (G : SentOwed) → Spines P F G → (t : ℕ) (told : List Told) (w : World) (v : SiteView) → Every Free told → place_at w t ≡ Some (Running v) → Holds F G w → SiteNow F w told t v
free_beside P F G q t told w v free here f = in_elsewhere (F w.sent) (G w.sent) (q.at w.sent) told (past_of w.trace) t v v.epoch (every_weaker Free (Elsewhere t) told (free_elsewhere t) free) (f.views t v here)

-- an event of the world itself
told_where : (P : Premise) (F : SentFacts) (G : SentOwed) → Spines P F G → (n : ℕ) (told : List Told) (w : World) → Every Free told → Where P F G w → Where P F G (happened n [] told (λ now. now) w)
told_where P F G q n told w free g = happened_where P F G q n [] told (λ now. now) w refl (λ order premise f. record {
  owed = free_owed (F w.sent) (G w.sent) (q.at w.sent) (past_of w.trace) told free;
  joined = free_joins (onto told (past_of w.trace)) told free;
  views = λ t v here. free_beside P F G q t told w v free here f;
}) g

-- a stop
stops_where : (P : Premise) (F : SentFacts) (G : SentOwed) → Spines P F G → (n s : ℕ) (d : Disk) (told : List Told) (w : World) → (Before P w → Holds F G w → AllOwed (G w.sent) (past_of w.trace) told × Every (Mine s) told × Every (JoinedTold (onto told (past_of w.trace))) told) → Where P F G w → Where P F G (happened n [] told (stops_with s d) w)
stops_where P F G q n s d told w owes g = happened_where P F G q n [] told (stops_with s d) w refl (λ order premise f. (let r : _ × _ × _ = owes (order_before told (past_of w.trace) order, premise) f in record { owed = r.0; joined = r.2; views = λ t v here. views f r.1 t v here })) g
  where
    views : Holds F G w → Every (Mine s) told → (t : ℕ) (v : SiteView) → place_at (puts s (Stopped d) w) t ≡ Some (Running v) → SiteNow F w told t v
    views f mine t v here = at_each s t (SiteNow F w told t v)
        (λ e. absurd (stopped_never d v (some_same (Stopped d) (Running v) (sym (puts_same s (Stopped d) w) ∙ (ap (place_at (puts s (Stopped d) w)) e ∙ here)))))
        (λ ne. beside P F G q s t told w v ne mine (sym (puts_other s t (Stopped d) w ne) ∙ here) f)

plain_stop : (P : Premise) (F : SentFacts) (G : SentOwed) → Spines P F G → (n s : ℕ) (d : Disk) (told : List Told) (w : World) → Every Free told → Where P F G w → Where P F G (happened n [] told (stops_with s d) w)
plain_stop P F G q n s d told w free g = stops_where P F G q n s d told w (λ b f. (free_owed (F w.sent) (G w.sent) (q.at w.sent) (past_of w.trace) told free, every_weaker Free (Mine s) told (free_mine s) free, free_joins (onto told (past_of w.trace)) told free)) g

-- an event that is cut off in its commit or adoption
cut_where : (P : Premise) (F : SentFacts) (G : SentOwed) → Spines P F G → (n s : ℕ) (d : DiskWrite) (disk : Disk) (how : StopCause) (b : Bool) (w : World) → (Before P w → Holds F G w → DiskOwed (G w.sent) s (past_of w.trace) (Some d)) → Where P F G w → Where P F G (happened n [] (cond b (Shown d.says ∷ Shown (says.Stopped s how) ∷ []) (Shown (says.Stopped s how) ∷ [])) (stops_with s disk) w)
cut_where P F G q n s d disk how true w k g = stops_where P F G q n s disk (Shown d.says ∷ Shown (says.Stopped s how) ∷ []) w (λ b f. (let r : _ × _ = k b f in ((r.0, ((q.at w.sent).free _ _ tt, tt)), (r.1, (tt, tt)), (tt, (tt, tt))))) g
cut_where P F G q n s d disk how false w k g = plain_stop P F G q n s disk (Shown (says.Stopped s how) ∷ []) w (tt, tt) g

-- ---- an event of a site ----

views_of : (P : Premise) (F : SentFacts) (G : SentOwed) → Spines P F G → (s : ℕ) (o : Outcome SiteView) (w : World) → JoinsAreOnce (onto o.told (past_of w.trace)) → Keeps (F w.sent) (G w.sent) s (past_of w.trace) o → Holds F G w → (t : ℕ) (u : SiteView) → place_at (puts s (Running o.view) w) t ≡ Some (Running u) → SiteNow F w o.told t u
views_of P F G q s o w order k f t u here = at_each s t (SiteNow F w o.told t u)
    (λ e. subst (λ (n : ℕ). SiteNow F w o.told n u) e (subst (SiteNow F w o.told s) (running_view o.view u (some_same (Running o.view) (Running u) (sym (puts_same s (Running o.view) w) ∙ (ap (place_at (puts s (Running o.view) w)) e ∙ here)))) (k.view order)))
    (λ ne. beside P F G q s t o.told w u ne k.mine (sym (puts_other s t (Running o.view) w ne) ∙ here) f)

acts_where : (P : Premise) (F : SentFacts) (G : SentOwed) → Spines P F G → (n s : ℕ) (v : SiteView) (o : Outcome SiteView) (w : World) → place_at w s ≡ Some (Running v) → (Before P w → Holds F G w → Keeps (F w.sent) (G w.sent) s (past_of w.trace) o) → Where P F G w → Where P F G (acts n s v o w)
acts_where P F G q n s v o w here step g =
    acts_cases (Where P F G) n s v o w
    (happened_where P F G q n o.sent o.told (λ now. puts s (Running o.view) now) w refl owed g)
    (λ a. happened_where P F G q n o.sent o.told (λ now. puts s (Running o.view) (arms a now)) w refl (λ order premise f. (let r : Owes F G o.told (λ now. puts s (Running o.view) now) w = owed order premise f in record { owed = r.owed; joined = r.joined; views = r.views })) g)
    (λ d a e. cut_where P F G q n s d (cut_disk v.boot v.store d a.how a.left) (cause_of a.how) (is_on_disk v.store d a.how a.left) w (λ b f. subst (DiskOwed (G w.sent) s (past_of w.trace)) e (step b f).disk) g)
  where
    owed : JoinsAreOnce (onto o.told (past_of w.trace)) → P w.sent (past_of w.trace) → Holds F G w → Owes F G o.told (λ now. puts s (Running o.view) now) w
    owed order premise f = let k : Keeps (F w.sent) (G w.sent) s (past_of w.trace) o = step (order_before o.told (past_of w.trace) order, premise) f in record { owed = k.owed; joined = k.joined; views = views_of P F G q s o w order k f }

-- ---- a boot ----

up_where : (P : Premise) (F : SentFacts) (G : SentOwed) → Spines P F G → (n s : ℕ) (x : Disk) (change : World → World) (w : World) → ((t : ℕ) → place_at (change w) t ≡ place_at (puts s (Running (fresh x.label.boot x.copies)) w) t) → (change w).sent ≡ w.sent → Where P F G w → Where P F G (happened n [] (Shown (says.Up s x.label.boot) ∷ []) change w)
up_where P F G q n s x change w same sent g = happened_where P F G q n [] told change w sent (λ order premise f. record { owed = ((q.at w.sent).free _ _ tt, tt); joined = (tt, tt); views = views f }) g
  where
    view : SiteView
    view = fresh x.label.boot x.copies

    told : List Told
    told = Shown (says.Up s x.label.boot) ∷ []

    views : Holds F G w → (t : ℕ) (u : SiteView) → place_at (change w) t ≡ Some (Running u) → SiteNow F w told t u
    views f t u here = at_each s t (SiteNow F w told t u)
        (λ e. subst (λ (n : ℕ). SiteNow F w told n u) e (subst (SiteNow F w told s) (running_view view u (some_same (Running view) (Running u) (sym (puts_same s (Running view) w) ∙ (sym (same s) ∙ (ap (place_at (change w)) e ∙ here))))) refl))
        (λ ne. free_beside P F G q t told w u (tt, tt) (sym (puts_other s t (Running view) w ne) ∙ (sym (same t) ∙ here)) f)

as_where : (P : Premise) (F : SentFacts) (G : SentOwed) → Spines P F G → (n s : ℕ) (b : Booted) (w : World) → Where P F G w → Where P F G (boots_as n s b w)
as_where P F G q n s (Whole x None) w g = up_where P F G q n s x _ w (λ t. refl) refl g
as_where P F G q n s (Whole x (Some a)) w g = up_where P F G q n s x _ w (λ t. refl) refl g
as_where P F G q n s (CutOff x how) w g = plain_stop P F G q n s x (Shown (says.Stopped s (cause_of how)) ∷ []) w (tt, tt) g

-- ---- every event and change, beside other facts ----

own_done : (F : Facts) (G : Owed) (c : Config) (me : ℕ) (past : List Told) (v : SiteView) (e : Event) → IsOwn e → EventDone F G c me past v e
own_done F G c me past v (Calls process words) h = tt
own_done F G c me past v (Receives p) h = absurd h
own_done F G c me past v Ticks h = tt
own_done F G c me past v Parts h = tt
own_done F G c me past v Merges h = tt
own_done F G c me past v GivesUp h = tt

own_names : (J : Deeds) (e : Event) → IsOwn e → EventNames J e
own_names J (Calls process words) h = tt
own_names J (Receives p) h = absurd h
own_names J Ticks h = tt
own_names J Parts h = tt
own_names J Merges h = tt
own_names J GivesUp h = tt

packets_free : (xs : List Numbered) → Every Free (map packet_record xs)
packets_free xs = every_map Free packet_record xs (λ x. tt)

-- the store keeps the facts where a packet comes that was sent
abbrev pub Stores : Config → (World → Type 0) → Premise → SentFacts → SentOwed → Type 0
Stores c W P F G = (x : Numbered) (v : SiteView) (w : World) → place_at w x.packet.to ≡ Some (Running v) → WasSent w x → W w → Before P w → Holds F G w → PacketDone (F w.sent) (G w.sent) c x.packet.to (past_of w.trace) x.packet v

pub where_kept : (c : Config) (W : World → Type 0) (P : Premise) (F : SentFacts) (G : SentOwed) → ((w : World) → W w → Good w) → Kept c W → Spines P F G → Stores c W P F G → Kept c (λ (w : World). W w × Where P F G w)
where_kept c W P F G good kept q stores = record {
  steps = λ n s e v w here own g. (kept.steps n s e v w here own g.0, acts_where P F G q n s v (step c s (links_of w s) v e) w here (λ b f. step_keeps (F w.sent) (G w.sent) (q.at w.sent) (DeedsOf w.trace s) (DeedsOf w.trace s) c s (past_of w.trace) (links_of w s) v e (own_done (F w.sent) (G w.sent) c s (past_of w.trace) v e own) (own_names (DeedsOf w.trace s) e own) ((good w g.0).views s v here) f.stores (f.views s v here)) g.1);
  receives = λ n x v w here sent g. (kept.receives n x v w here sent g.0, received n x v w here sent g);
  passes = λ k w g. (kept.passes k w g.0, (λ b. same_holds w (passed k w) (λ t v h. h) refl refl (g.1 b)));
  drops = λ k w g. (kept.drops k w g.0, (λ b. same_holds w _ (λ t v h. h) refl refl (g.1 b)));
  recuts = λ xs w g. (kept.recuts xs w g.0, (λ b. same_holds w _ (λ t v h. h) refl refl (g.1 b)));
  arming = λ a w g. (kept.arming a w g.0, (λ b. same_holds w _ (λ t v h. h) refl refl (g.1 b)));
  voiding = λ n w g. (kept.voiding n w g.0, told_where P F G q n (Shown says.Void ∷ []) w (tt, tt) g.1);
  budgets = λ n w g. (kept.budgets n w g.0, told_where P F G q n (Shown says.Budget ∷ []) w (tt, tt) g.1);
  pending = λ n w g. (kept.pending n w g.0, told_where P F G q n (map packet_record w.underway) w (packets_free w.underway) g.1);
  stopping = λ n s v w here g. (kept.stopping n s v w here g.0, plain_stop P F G q n s (disk_of v) (Shown (says.Stopped s cause.Asked) ∷ []) w (tt, tt) g.1);
  booting = λ n s d w here g. (kept.booting n s d w here g.0, as_where P F G q n s (boots (script_of w s) d) w g.1);
}
  where
    -- a change that leaves places, packets and the trace
    same_holds : (w u : World) → ((t : ℕ) (v : SiteView) → place_at u t ≡ Some (Running v) → place_at w t ≡ Some (Running v)) → u.trace ≡ w.trace → u.sent ≡ w.sent → Holds F G w → Holds F G u
    same_holds w u places trace sent f = record {
      stores = subst (λ (t : _). StoresJoined (past_of t)) (sym trace) f.stores;
      owed = subst (λ (xs : List Numbered). EachOwed (G xs) (past_of u.trace)) (sym sent) (subst (λ (t : _). EachOwed (G w.sent) (past_of t)) (sym trace) f.owed);
      views = λ t v here. subst (λ (xs : List Numbered). InSite (F xs) (past_of u.trace) t v v.epoch) (sym sent) (subst (λ (l : _). InSite (F w.sent) (past_of l) t v v.epoch) (sym trace) (f.views t v (places t v here)));
    }

    received : (n : ℕ) (x : Numbered) (v : SiteView) (w : World) → place_at w x.packet.to ≡ Some (Running v) → WasSent w x → W w × Where P F G w → Where P F G (acts n x.packet.to v (step c x.packet.to (links_of (passed x.number w) x.packet.to) v (Receives x.packet)) (passed x.number w))
    received n x v w here sent g =
        acts_where P F G q n x.packet.to v (step c x.packet.to (links_of (passed x.number w) x.packet.to) v (Receives x.packet)) (passed x.number w) here
        (λ b f. step_keeps (F w.sent) (G w.sent) (q.at w.sent) (DeedsOf w.trace x.packet.to) (DeedsOf w.trace x.packet.from) c x.packet.to (past_of w.trace) (links_of (passed x.number w) x.packet.to) v (Receives x.packet) (stores x v w here sent g.0 b (g.1 b)) (was_sent w x sent (good w g.0)) ((good w g.0).views x.packet.to v here) f.stores (f.views x.packet.to v here))
        (λ b. same_holds w (passed x.number w) (λ t u h. h) refl refl (g.1 b))

-- ---- the first world ----

pub first_where : (c : Config) (P : Premise) (F : SentFacts) (G : SentOwed) → Where P F G (first_world c)
first_where c P F G b = record { stores = λ s e k. absurd k; owed = tt; views = first_views c (λ s v. InSite (F []) [] s v v.epoch) (λ s own. refl) }
