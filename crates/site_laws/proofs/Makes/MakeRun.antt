-- In every run each plain grant is of a file that is known, and free.
use Rattle.std.proofs.Common.{◌≡◌, ◌≤◌, ℕ, ◌==◌, Bool, true, false, cond, ◌&&◌, not, List, [], ◌∷◌, filter, map, Option, Some, None, refl, sym, ◌∙◌, subst, inl, inr, arith}
use Rattle.locus_ids.specs.declared.ids.EpochId.{EpochId}
use Rattle.locus_ids.specs.declared.sites.Members.{Members}
use Rattle.locus_ids.specs.declared.config.Config.{Config}
use Rattle.schedule_lines.specs.declared.line.ScheduleLine.{ScheduleLine}
use Rattle.trace_book.specs.declared.record.Record.TheVariants as says
use Rattle.trace_book.specs.declared.record.StopCause.TheVariants as cause
use Rattle.wire_messages.specs.declared.packet.Packet.{Packet}
use Rattle.role_steps.specs.Own.{Every}
use Rattle.role_steps.specs.Tables.{row}
use Rattle.role_steps.specs.Views.{SiteView, Told, Shown, Receives}
use Rattle.role_steps.specs.declared.rounds.InEpoch.{InEpoch}
use Rattle.role_steps.proofs.Sending.{every_map}
use Rattle.the_run.specs.Disks.{boots}
use Rattle.the_run.specs.Steps.{step}
use Rattle.the_run.specs.Joins.{Joined}
use Rattle.the_run.specs.Worlds.{World, Running, Numbered, Line, links_of, place_at, script_of, disk_of, passed, acts, fresh, first_world}
use Rattle.the_run.specs.Runs.{packet_record, run_in}
use Rattle.the_run.specs.Kept.{Kept}
use Rattle.the_run.proofs.Boots.{every_weaker}
use Rattle.the_run.proofs.Runs.{every_run}
use Rattle.site_laws.specs.Vectors.Written.{past_of}
use Rattle.site_laws.specs.Vectors.Facts.{onto}
use Rattle.site_laws.proofs.Vectors.SiteDisks.{step_disk}
use Rattle.site_laws.specs.Locks.Joins.{WasJoined}
use Rattle.std.proofs.lemmas.Bool.Decides.{nat_tests}
use Rattle.role_steps.proofs.of_plain_facts.Options.{some_same}
use Rattle.role_steps.proofs.of_plain_facts.Tests.{and_true, false_true}
use Rattle.wire_messages.specs.declared.body.Body.{Body}
use Rattle.wire_messages.specs.declared.body.Body.TheVariants as body
use Rattle.wire_messages.specs.declared.body.MadeVersion.{MadeVersion}
use Rattle.locus_ids.specs.Sites.{has}
use Rattle.role_steps.specs.Views.{Event, Calls, Ticks, Parts, Merges, GivesUp, all_sites, members_of, pack_sites, is_member, boot_in, serial_key}
use Rattle.role_steps.specs.Opens.{open_key}
use Rattle.role_steps.specs.declared.synchronizing.SyncTable.{SyncTable}
use Rattle.role_steps.specs.declared.synchronizing.OpenRow.{OpenRow}
use Rattle.role_steps.specs.declared.synchronizing.OpenStage.{OpenStage}
use Rattle.role_steps.specs.declared.synchronizing.OpenStage.TheVariants as stage
use Rattle.the_run.specs.Kept.{Among, WasSent, IsOwn}
use Rattle.the_run.specs.Steps.{is_dropped}
use Rattle.the_run.specs.Worlds.{loses}
use Rattle.the_run.proofs.OneList.{one_list}
use Rattle.run_laws.proofs.Run.{found_among}
use Rattle.site_laws.specs.Vectors.Written.{InstancesAgree, WasGranted}
use Rattle.locus_ids.specs.declared.sites.Links.{Links}
use Rattle.site_laws.specs.Vectors.Facts as vectors
use Rattle.site_laws.proofs.Vectors.SyncFacts.{FoundAt, row_at}
use Rattle.site_laws.proofs.Packs.InstanceAgree.{run_agrees}
use Rattle.site_laws.specs.Locks.Facts as locks
use Rattle.site_laws.proofs.Locks.JoinsRun.{run_joins_once}
use Rattle.site_laws.proofs.Locks.FactsRun.{run_goes}
use Rattle.site_laws.proofs.Packs.WriterGranting.{run_alike}
use Rattle.site_laws.specs.Packs.Packs.{HasPack}
use Rattle.site_laws.specs.Packs.Packed.{BodyPacked}
use Rattle.run_laws.proofs.Walks.FirstWorld.{first_views}
use Rattle.site_laws.specs.Makes.Made.{IsSender, NumberedSender, WorldSent}
use Rattle.site_laws.specs.Makes.Holding.{ReservesAreApart}
use Rattle.site_laws.specs.Makes.Tables.{Ordered, PlainGrantsAreFree}
use Rattle.site_laws.proofs.Makes.Telling.{Aside}
use Rattle.site_laws.proofs.Makes.Happening.{taken_epoch, taken_boot}
use Rattle.site_laws.proofs.Packs.PacksRun.{All as PacksAll, all_kept, first_all, sent_packed}
use Rattle.site_laws.proofs.Makes.VectorsKept.{Both as VectorsBoth, both_kept, first_vectors, sent_fact}
use Rattle.site_laws.proofs.Makes.SendersRun.{sent_kept, first_sent}
use Rattle.site_laws.proofs.Makes.FreshRun.{run_fresh}
use Rattle.site_laws.proofs.Makes.Modes.{run_reserved}
use Rattle.site_laws.proofs.Makes.TableCloses.{IsKnownIf, ClosesKnown, made_known}
use Rattle.site_laws.proofs.Makes.TableTold.{ordered_before}
use Rattle.site_laws.proofs.Makes.MakeSites.{SiteMade}
use Rattle.site_laws.proofs.Makes.MakeInside.{TableClosed, BodyMade}
use Rattle.site_laws.proofs.Makes.MakeSteps.{Brings, EventBrings, step_site}
use Rattle.site_laws.proofs.Makes.TablesRun.{WhereOrdered, WorldTables, AsideWrite, written_aside, told_fact, stops_fact, acts_fact, as_fact}

-- ---- what a packet brings ----

filter_has : (test : ℕ → Bool) (s : ℕ) (ss : List ℕ) → Among s ss → test s ≡ true → Among s (filter test ss)
filter_has test s [] m e = absurd m
filter_has test s (x ∷ xs) m e = by_test (test x) refl (filter_has test s xs) m
  where
    by_test : (b : Bool) → test x ≡ b → (Among s xs → test s ≡ true → Among s (filter test xs)) → Among s (x ∷ xs) → Among s (cond b (x ∷ filter test xs) (filter test xs))
    by_test true q rest (inl k) = inl k
    by_test true q rest (inr k) = inr (rest k e)
    by_test false q rest (inl k) = absurd (false_true (sym q ∙ subst (λ (n : ℕ). test n ≡ true) k e))
    by_test false q rest (inr k) = rest k e

not_none : (n m : ℕ) → n ≡ m → 1 ≤ m → not (n == 0) ≡ true
not_none n m e low = grind (arith, nat_tests, e, low)

-- the sender of a Report is a member that has a pack
sender_member : (c : Config) (p : Packet) (v : SiteView) (e : InEpoch) (group : ℕ) → IsSender p → HasPack c group p.from → boot_in e.members.boot p.from ≡ p.from_boot → Among p.from (members_of e.members (pack_sites c group))
sender_member c p v e group s pack boot = filter_has (λ n. has (pack_sites c group) n && is_member e.members n) p.from all_sites s.site (and_true (has (pack_sites c group) p.from) (is_member e.members p.from) pack (not_none (boot_in e.members.boot p.from) p.from_boot boot s.boot))

-- what a close brings is known of the row that it closes
granted_row : (past : List Told) (e : EpochId) (r : OpenRow) (s : OpenStage) → r.stage ≡ s → locks.RowFact past e r s → r.stage ≡ stage.Granted → locks.RowFact past e r stage.Granted
granted_row past e r s q h g = subst (locks.RowFact past e r) (sym q ∙ g) h

made_if : (past : List Told) (e : EpochId) (key : ℕ) (r : OpenRow) (made : Option MadeVersion) → InstancesAgree past → vectors.MaybeMade past e key made → open_key r ≡ key → locks.RowFact past e r stage.Granted → IsKnownIf made past r.file
made_if past e key r None agree m k g = tt
made_if past e key r (Some v) agree m k g = made_known past e key r.file v agree (subst (λ (n : ℕ). WasGranted past e n r.file) k g.granted) m

-- what is found in a table of what was told
row_closes : (past : List Told) (e : EpochId) (group key : ℕ) (made : Option MadeVersion) (r : OpenRow) (o : Option OpenRow) → InstancesAgree past → vectors.MaybeMade past e key made → FoundAt (locks.OpenFact past e group) open_key key o → o ≡ Some r → ClosesKnown past e key made r
row_closes past e group key made r None agree m h q = absurd (none_row r q)
  where
    none_row : (x : OpenRow) → ◌≡◌ {A = Option OpenRow} None (Some x) → ⊥
    none_row x z = cc
row_closes past e group key made r (Some x) agree m h q = λ k g. made_if past e key r made agree m k (granted_row past e r r.stage refl (fact h).row g)
  where
    same : x ≡ r
    same = some_same x r q

    fact : (open_key x ≡ key) × locks.OpenFact past e group x → locks.OpenFact past e group r
    fact k = subst (locks.OpenFact past e group) same k.1

table_closes : (past : List Told) (e : EpochId) (key : ℕ) (made : Option MadeVersion) (t : SyncTable) → InstancesAgree past → vectors.MaybeMade past e key made → locks.TableFact past e t → TableClosed past e key made t
table_closes past e key made t agree m h r q = row_closes past e t.group key made r (row open_key key t.opens) agree m (row_at (locks.OpenFact past e t.group) open_key key t.opens h.opens) q

brought : (c : Config) (past : List Told) (p : Packet) (x : Body) (v : SiteView) (e : InEpoch) → p.body ≡ x → InstancesAgree past → is_dropped p v ≡ false → v.epoch ≡ Some e → IsSender p → BodyPacked c p.from p.to x → vectors.BodyFact past p.epoch x → Every (locks.TableFact past e.id) v.tables → BodyMade c past e p.from x v
brought c past p (body.Report group copies) v e q agree d here s k f ts = record { member = sender_member c p v e group s k.0 (taken_boot p (body.Report group copies) v e q refl d here); copies_so = f }
brought c past p (body.Closed inst made) v e q agree d here s k f ts =
    let m : vectors.MaybeMade past e.id (serial_key inst) made = subst (λ (i : EpochId). vectors.MaybeMade past i (serial_key inst) made) (taken_epoch p (body.Closed inst made) v e q refl d here) f in
    every_weaker (locks.TableFact past e.id) (TableClosed past e.id (serial_key inst) made) v.tables (λ t h. table_closes past e.id (serial_key inst) made t agree m h) ts
brought c past p _ v e q agree d here s k f ts = tt

pub tables_there : (past : List Told) (s : ℕ) (v : SiteView) (e : InEpoch) (o : Option InEpoch) → o ≡ Some e → locks.InEpochFact past s v o → Every (locks.TableFact past e.id) v.tables
tables_there past s v e None q h = absurd (none_epoch e q)
  where
    none_epoch : (x : InEpoch) → ◌≡◌ {A = Option InEpoch} None (Some x) → ⊥
    none_epoch x z = cc
tables_there past s v e (Some x) q h = subst (λ (i : InEpoch). Every (locks.TableFact past i.id) v.tables) (same_in x e q) h.1
  where
    same_in : (a b : InEpoch) → Some a ≡ Some b → a ≡ b
    same_in a b z = cc

-- ---- the run ----

abbrev pub Ordering : Config → World → Type 0
Ordering c w = (PacksAll c w × VectorsBoth w) × (WorldSent w × WhereOrdered c w)

sender_of : (w : World) (x : Numbered) → WasSent w x → WorldSent w → IsSender x.packet
sender_of w x (inl a) f = found_among NumberedSender x w.sent f.senders a
sender_of w x (inr a) f = found_among NumberedSender x w.underway f.underway a

brings : (c : Config) (w : World) (x : Numbered) (v : SiteView) → place_at w x.packet.to ≡ Some (Running v) → WasSent w x → Ordering c w → InstancesAgree (past_of w.trace) → is_dropped x.packet v ≡ false → Brings c (past_of w.trace) x.packet v
brings c w x v here sent g agree d e inside =
    let lock : locks.WorldFact w = g.0.0.0.1 in
    brought c (past_of w.trace) x.packet x.packet.body v e refl agree d inside (sender_of w x sent g.1.0) (sent_packed c w x sent (g.0.0.1 agree)) (sent_fact w x sent (g.0.1.1 agree)) (tables_there (past_of w.trace) x.packet.to v e v.epoch inside (lock.views x.packet.to v here).inside)

packets_aside : (xs : List Numbered) → Every Aside (map packet_record xs)
packets_aside xs = every_map Aside packet_record xs (λ x. tt)

passed_ordered : (c : Config) (k : ℕ) (w : World) → WhereOrdered c w → WhereOrdered c (passed k w)
passed_ordered c k w g h = let f : WorldTables c w = g h in record { synced = f.synced; plain = f.plain; views = f.views }

-- an event that a site has of itself brings nothing
own_brings : (c : Config) (past : List Told) (v : SiteView) (e : Event) → IsOwn e → EventBrings c past v e
own_brings c past v (Calls process words) h = tt
own_brings c past v (Receives p) h = absurd h
own_brings c past v Ticks h = tt
own_brings c past v Parts h = tt
own_brings c past v Merges h = tt
own_brings c past v GivesUp h = tt

ordered_kept : (c : Config) → Kept c (Ordering c)
ordered_kept c = record {
  steps = λ n s e v w here own g. ((packs.steps n s e v w here own g.0.0, vecs.steps n s e v w here own g.0.1), (sends.steps n s e v w here own g.1.0, acts_fact c n s v (step c s (links_of w s) v e) w here (aside s v e (links_of w s)) (λ synced order h. step_site c s (past_of w.trace) (links_of w s) v e (own_brings c (past_of w.trace) v e own) synced order h) g.1.1));
  receives = λ n x v w here sent g. ((packs.receives n x v w here sent g.0.0, vecs.receives n x v w here sent g.0.1), (sends.receives n x v w here sent g.1.0, received n x v w here sent g));
  passes = λ k w g. ((packs.passes k w g.0.0, vecs.passes k w g.0.1), (sends.passes k w g.1.0, passed_ordered c k w g.1.1));
  drops = λ k w g. ((packs.drops k w g.0.0, vecs.drops k w g.0.1), (sends.drops k w g.1.0, dropped k w g.1.1));
  recuts = λ xs w g. ((packs.recuts xs w g.0.0, vecs.recuts xs w g.0.1), (sends.recuts xs w g.1.0, (λ h. (let f : WorldTables c w = g.1.1 h in record { synced = f.synced; plain = f.plain; views = f.views }))));
  arming = λ a w g. ((packs.arming a w g.0.0, vecs.arming a w g.0.1), (sends.arming a w g.1.0, (λ h. (let f : WorldTables c w = g.1.1 h in record { synced = f.synced; plain = f.plain; views = f.views }))));
  voiding = λ n w g. ((packs.voiding n w g.0.0, vecs.voiding n w g.0.1), (sends.voiding n w g.1.0, told_fact c n (Shown says.Void ∷ []) w (tt, tt) g.1.1));
  budgets = λ n w g. ((packs.budgets n w g.0.0, vecs.budgets n w g.0.1), (sends.budgets n w g.1.0, told_fact c n (Shown says.Budget ∷ []) w (tt, tt) g.1.1));
  pending = λ n w g. ((packs.pending n w g.0.0, vecs.pending n w g.0.1), (sends.pending n w g.1.0, told_fact c n (map packet_record w.underway) w (packets_aside w.underway) g.1.1));
  stopping = λ n s v w here g. ((packs.stopping n s v w here g.0.0, vecs.stopping n s v w here g.0.1), (sends.stopping n s v w here g.1.0, stops_fact c n s (disk_of v) (Shown (says.Stopped s cause.Asked) ∷ []) w (tt, tt) g.1.1));
  booting = λ n s d w here g. ((packs.booting n s d w here g.0.0, vecs.booting n s d w here g.0.1), (sends.booting n s d w here g.1.0, as_fact c n s (boots (script_of w s) d) w g.1.1));
}
  where
    packs : Kept c (PacksAll c)
    packs = all_kept c

    vecs : Kept c VectorsBoth
    vecs = both_kept c

    sends : Kept c WorldSent
    sends = sent_kept c

    aside : (s : ℕ) (v : SiteView) (e : Event) (links : Links) → AsideWrite (step c s links v e).written
    aside s v e links = written_aside s v.store.copies (step c s links v e).view.store.copies (step c s links v e).told (step c s links v e).written (step_disk c s links v e)

    dropped : (k : ℕ) (w : World) → WhereOrdered c w → WhereOrdered c (loses k w)
    dropped k w g h = let f : WorldTables c w = g h in record { synced = f.synced; plain = f.plain; views = f.views }

    agrees : (told past : List Told) → Ordered (onto told past) → InstancesAgree past
    agrees told past h = let k : Ordered past = ordered_before told past h in k.agree

    received : (n : ℕ) (x : Numbered) (v : SiteView) (w : World) → place_at w x.packet.to ≡ Some (Running v) → WasSent w x → Ordering c w → WhereOrdered c (acts n x.packet.to v (step c x.packet.to (links_of (passed x.number w) x.packet.to) v (Receives x.packet)) (passed x.number w))
    received n x v w here sent g =
        acts_fact c n x.packet.to v (step c x.packet.to (links_of (passed x.number w) x.packet.to) v (Receives x.packet)) (passed x.number w) here (aside x.packet.to v (Receives x.packet) (links_of (passed x.number w) x.packet.to))
        (λ synced order h. step_site c x.packet.to (past_of w.trace) (links_of (passed x.number w) x.packet.to) v (Receives x.packet) (λ d. brings c w x v here sent g (agrees (step c x.packet.to (links_of (passed x.number w) x.packet.to) v (Receives x.packet)).told (past_of w.trace) order) d) synced order h)
        (passed_ordered c x.number w g.1.1)

-- ---- the first world, and the law ----

first_ordered : (c : Config) → Ordering c (first_world c)
first_ordered c = ((first_all c, first_vectors c), (first_sent c, (λ h. record { synced = λ e group k. absurd k; plain = tt; views = first_views c (SiteMade c []) (λ s own. refl) })))

joined_line : (s : ℕ) (id : EpochId) (m : Members) (trace : List Line) → WasJoined (past_of trace) s id m → Joined s id m trace
joined_line s id m [] h = absurd h
joined_line s id m (x ∷ xs) (inl h) = inl h
joined_line s id m (x ∷ xs) (inr h) = inr (joined_line s id m xs h)

-- what rests on who has reserved a number before
pub run_ordered : (c : Config) (lines : List ScheduleLine) → ReservesAreApart (past_of (run_in c lines).trace) → Ordered (past_of (run_in c lines).trace)
run_ordered c lines apart = record {
  orderly = record { once = run_joins_once c lines; one = λ s t id m n a b. one_list c lines s t id m n (joined_line s id m (run_in c lines).trace a) (joined_line t id n (run_in c lines).trace b) };
  goes = run_goes c lines;
  agree = run_agrees c lines;
  alike = run_alike c lines;
  fresh = run_fresh c lines;
  reserved = run_reserved c lines;
  apart = apart;
}

pub run_ordering : (c : Config) (lines : List ScheduleLine) → Ordering c (run_in c lines)
run_ordering c lines = every_run c (Ordering c) (ordered_kept c) (first_ordered c) lines

pub run_free : (c : Config) (lines : List ScheduleLine) → ReservesAreApart (past_of (run_in c lines).trace) → PlainGrantsAreFree (past_of (run_in c lines).trace)
run_free c lines apart =
    let g : Ordering c (run_in c lines) = run_ordering c lines in
    let f : WorldTables c (run_in c lines) = g.1.1 (run_ordered c lines apart) in
    f.plain
