-- In every run the packs of each site have room.
use Rattle.std.proofs.Common.{◌≡◌, ◌≤◌, ℕ, ◌+◌, ◌==◌, Bool, true, false, cond, List, [], ◌∷◌, length, map, Option, None, Some, refl, sym, ◌∙◌, ap, subst, arith}
use Rattle.locus_ids.specs.declared.config.Config.{Config}
use Rattle.locus_ids.specs.declared.ids.Serial.{Serial}
use Rattle.locus_ids.specs.declared.sites.Links.{Links}
use Rattle.locus_ids.specs.Sizes.{pack_pages}
use Rattle.schedule_lines.specs.declared.line.ScheduleLine.{ScheduleLine}
use Rattle.trace_book.specs.declared.record.Record.TheVariants as says
use Rattle.wire_messages.specs.declared.packet.Packet.{Packet}
use Rattle.role_steps.specs.Epochs.{frame_in}
use Rattle.role_steps.specs.Storage.{copy_key, copy_pages, changed_pages, instance_key, instance_of}
use Rattle.role_steps.specs.Tables.{row, total, with_row}
use Rattle.role_steps.specs.Views.{DiskWrite, Event, Frame, Outcome, Receives, Shown, SiteView, Store, Ticks, Told, serial_key}
use Rattle.role_steps.specs.declared.copies.FileCopy.{FileCopy}
use Rattle.role_steps.specs.declared.instances.Instance.{Instance}
use Rattle.role_steps.specs.declared.instances.Stage.TheVariants as stage
use Rattle.role_steps.specs.declared.rounds.InEpoch.{InEpoch}
use Rattle.the_run.specs.Disks.{Armed, Booted, CutOff, Disk, Whole, boots, cut_disk, is_on_disk}
use Rattle.the_run.specs.Runs.{boots_as, packet_record, rearms, run_in}
use Rattle.the_run.specs.Steps.{step}
use Rattle.the_run.specs.Worlds.{Line, Place, Running, Stopped, World, acts, arms, cut_told, disk_of, first_world, formatted, fresh, happened, links_of, place_at, puts, root_copy, script_of, stops_with}
use Rattle.the_run.proofs.Boots.{acts_cases, at_each}
use Rattle.the_run.proofs.Events.{happened_keeps, puts_other, puts_same}
use Rattle.store_laws.specs.of_row_laws.ByLine.{KeptIn}
use Rattle.store_laws.specs.of_row_laws.Voids.{LinesFit}
use Rattle.store_laws.proofs.of_row_laws.ByLine.{every_line}
use Rattle.site_laws.proofs.Vectors.Held.{KeepsCopies, boots_copies}
use Rattle.tree_laws.specs.Orders.Joining.{PacksAreOfSites}
use Rattle.tree_laws.specs.Doing.{FrameFact, StoreHeld}
use Rattle.tree_laws.specs.Stores.{Ascends, InstanceFact, StageFact}
use Rattle.store_laws.specs.OneTree.Places.{SiteFact, SiteIn, WorldFact}
use Rattle.store_laws.specs.OneTree.Rest.{IsRest, Past}
use Rattle.store_laws.specs.OneTree.Roles.{EventFact, RolesDo}
use Rattle.store_laws.proofs.OneTree.Composing.{rest_before}
use Rattle.store_laws.proofs.OneTree.Rising.{every_among, row_key}
use Rattle.store_laws.proofs.OneTree.Run.{arrives_fact, event_fact, first_holds, kept}
use Rattle.store_laws.proofs.OneTree.Staying.{stays}
use Rattle.store_laws.proofs.OneTree.Worlds.{Holds}
use Rattle.rest_laws.proofs.Roles.{roles_do}
use Rattle.run_laws.proofs.Walks.FirstWorld.{first_places}
use Rattle.rest_laws.specs.Fits.Room.{RoomFits}
use Rattle.rest_laws.proofs.Fits.RoomSites.{SiteRooms, step_room}
use Rattle.rest_laws.proofs.Fits.RoomStore.{FitsHere, StoreGood, WriteRoom}
use Rattle.rest_laws.proofs.Fits.Storing.{fits_running, own_group}
use Rattle.rest_laws.proofs.Fits.Tables.{rest_of}
use Rattle.rest_laws.proofs.Fits.Tried.{event_room}

-- ---- a site by its facts ----

inside_good : (c : Config) (t : List Line) → Past c t → (f : Frame) → FrameFact c t f → (s : Store) → StoreHeld c f t s → StoreGood s
inside_good c t past f frame s store = record { ascends = store.copies.ascends; runs = λ inst i e q. here inst i e q }
  where
    here : (inst : Serial) (i : Instance) → instance_of s inst ≡ Some i → i.stage ≡ stage.Running → FitsHere s i
    here inst i e q =
        let fact : InstanceFact c t f i = every_among (InstanceFact c t f) i s.instances (row_key instance_key (serial_key inst) s.instances i e).0 store.instances.instances in
        record { fits = fits_running c t past f frame s store i fact (subst (StageFact c t f i) q fact.stage); own = own_group c t past f frame s store i fact }

outside_good : (s : Store) → Ascends copy_key s.copies → s.instances ≡ [] → StoreGood s
outside_good s ascends none = record { ascends = ascends; runs = λ inst i e q. absurd (never inst i e) }
  where
    none_some : (i : Instance) → ◌≡◌ {A = Option Instance} None (Some i) → ⊥
    none_some i e = cc

    never : (inst : Serial) (i : Instance) → instance_of s inst ≡ Some i → ⊥
    never inst i e = none_some i (sym (ap (λ (xs : List Instance). row instance_key (serial_key inst) xs) none) ∙ e)

site_good : (c : Config) (t : List Line) → Past c t → (me : ℕ) (v : SiteView) (o : Option InEpoch) → SiteIn c me t v o → StoreGood v.store
site_good c t past me v None h = outside_good v.store h.copies.ascends h.instances
site_good c t past me v (Some e) h = inside_good c t past (frame_in c me v.boot e) h.frame v.store h.store

-- whatever comes next, the packs have room after it
pub next_room : (c : Config) → RolesDo c → (t : List Line) (me : ℕ) (links : Links) (v : SiteView) (e : Event) → Past c t → SiteFact c me t v → EventFact c t me v e → RoomFits v.store → RoomFits (step c me links v e).view.store
next_room c roles t me links v e past fact comes h = (step_room c me links v e (site_good c t past me v v.epoch fact) (event_room c roles t past me v e fact comes)).view h

-- ---- the world ----

abbrev pub PlaceRoom : Place → Type 0
PlaceRoom (Running v) = RoomFits v.store
PlaceRoom (Stopped d) = RoomFits (record { copies = d.copies; instances = []; steps = [] })

abbrev pub RoomWorld : World → Type 0
RoomWorld w = (s : ℕ) (p : Place) → place_at w s ≡ Some p → PlaceRoom p

abbrev pub Roomy : Config → World → Type 0
Roomy c w = IsRest c w.trace → RoomWorld w

some_place : (p q : Place) → ◌≡◌ {A = Option Place} (Some p) (Some q) → p ≡ q
some_place p q e = cc

-- one site becomes this place
placed : (s : ℕ) (new : Place) (w : World) → PlaceRoom new → RoomWorld w → (t : ℕ) (p : Place) → place_at (puts s new w) t ≡ Some p → PlaceRoom p
placed s new w fact f t p here = at_each s t (PlaceRoom p)
    (λ e. subst PlaceRoom (some_place new p (sym (puts_same s new w) ∙ (ap (place_at (puts s new w)) e ∙ here))) fact)
    (λ ne. f t p (sym (puts_other s t new w ne) ∙ here))

happened_room : (c : Config) (n : ℕ) (ps : List Packet) (told : List Told) (change : World → World) (w : World) → (IsRest c w.trace → RoomWorld w → (t : ℕ) (p : Place) → place_at (change w) t ≡ Some p → PlaceRoom p) → Roomy c w → Roomy c (happened n ps told change w)
happened_room c n ps told change w places g =
    happened_keeps (Roomy c) n ps told change w g (λ l r. g r) (λ k b t r. (let old : IsRest c w.trace = rest_before c n told w.trace r in places old (g old)))

without_instances : (s : Store) → RoomFits s → RoomFits (record { copies = s.copies; instances = []; steps = [] })
without_instances s h g = less (total (copy_pages g) s.copies) (total (changed_pages g) s.instances) (h g)
  where
    less : (a b : ℕ) → a + b ≤ pack_pages → a + 0 ≤ pack_pages
    less a b l = omega (arith, l)

-- what a cut write leaves
cut_room : (v : SiteView) (written : Option DiskWrite) (d : DiskWrite) → written ≡ Some d → WriteRoom v.store written → RoomFits v.store → (b : Bool) → RoomFits (record { copies = cond b (with_row copy_key d.copy v.store.copies) v.store.copies; instances = []; steps = [] })
cut_room v written d e write h false = without_instances v.store h
cut_room v written d e write h true = λ g. more (total (copy_pages g) (with_row copy_key d.copy v.store.copies)) (its g)
  where
    its : WriteRoom v.store (Some d)
    its = subst (WriteRoom v.store) e write

    more : (a : ℕ) → a ≤ pack_pages → a + 0 ≤ pack_pages
    more a l = omega (arith, l)

does : (c : Config) → RolesDo c → (n s : ℕ) (e : Event) (v : SiteView) (w : World) → place_at w s ≡ Some (Running v) → (IsRest c w.trace → EventFact c w.trace s v e) → Holds c w → Roomy c w → Roomy c (acts n s v (step c s (links_of w s) v e) w)
does c roles n s e v w here comes holds g = acts_cases (Roomy c) n s v o w
    (happened_room c n o.sent o.told (λ now. puts s (Running o.view) now) w (λ r f t p. placed s (Running o.view) w ((rooms r).view (f s (Running v) here)) f t p) g)
    (λ a. happened_room c n o.sent o.told (λ now. puts s (Running o.view) (arms a now)) w (λ r f t p. placed s (Running o.view) (arms a w) ((rooms r).view (f s (Running v) here)) f t p) g)
    (λ d a q. happened_room c n [] (cut_told s v.store d a.how a.left) (stops_with s (cut_disk v.boot v.store d a.how a.left)) w
    (λ r f t p. placed s (Stopped (cut_disk v.boot v.store d a.how a.left)) w (cut_room v o.written d q ((rooms r).disk (f s (Running v) here)) (f s (Running v) here) (is_on_disk v.store d a.how a.left)) f t p) g)
  where
    o : Outcome SiteView
    o = step c s (links_of w s) v e

    rooms : IsRest c w.trace → SiteRooms v o
    rooms r = (let f : WorldFact c w = holds r in
        let past : Past c w.trace = record { followed = f.followed; rest = r } in
        step_room c s (links_of w s) v e (site_good c w.trace past s v v.epoch (f.places s (Running v) here)) (event_room c roles w.trace past s v e (f.places s (Running v) here) (comes r)))

stops : (c : Config) (n s : ℕ) (told : List Told) (d : Disk) (w : World) → (RoomWorld w → RoomFits (record { copies = d.copies; instances = []; steps = [] })) → Roomy c w → Roomy c (happened n [] told (stops_with s d) w)
stops c n s told d w room g = happened_room c n [] told (stops_with s d) w (λ r f t p. placed s (Stopped d) w (room f) f t p) g

boot_places : (a : Option Armed) (s : ℕ) (p : Place) (w : World) (t : ℕ) → place_at (rearms s a (puts s p w)) t ≡ place_at (puts s p w) t
boot_places None s p w t = refl
boot_places (Some a) s p w t = refl

booted : (c : Config) (n s : ℕ) (d : Disk) (b : Booted) (w : World) → place_at w s ≡ Some (Stopped d) → KeepsCopies d.copies b → Roomy c w → Roomy c (boots_as n s b w)
booted c n s d (Whole x a) w here same g =
    let new : Place = Running (fresh x.label.boot x.copies) in
    happened_room c n [] (Shown (says.Up s x.label.boot) ∷ []) (λ now. rearms s a (puts s new now)) w
    (λ r f t p e. placed s new w (subst (λ (xs : List FileCopy). RoomFits (record { copies = xs; instances = []; steps = [] })) (sym same) (f s (Stopped d) here)) f t p (sym (boot_places a s new w t) ∙ e)) g
booted c n s d (CutOff x how) w here same g = stops c n s _ x w (λ f. subst (λ (xs : List FileCopy). RoomFits (record { copies = xs; instances = []; steps = [] })) (sym same) (f s (Stopped d) here)) g

-- ---- all lines ----

abbrev pub Both : Config → World → Type 0
Both c w = Holds c w × Roomy c w

pub kept_room : (c : Config) (lines : List ScheduleLine) → LinesFit c lines → RolesDo c → KeptIn c lines (λ n w. Both c w)
kept_room c lines fit roles = record {
  begins = λ n w le q g. g;
  ticks = λ n most s v w at here g. (one.ticks n most s v w at here g.0, does c roles n s Ticks v w here (λ r. tt) g.0 g.1);
  receives = λ n l x v w at d here sent g. (one.receives n l x v w at d here sent g.0, does c roles n x.packet.to (Receives x.packet) v _ here (λ r. (refl, arrives_fact c w x v (g.0 r) sent here)) (one.passes n x.number w g.0) g.1);
  passes = λ n k w g. (one.passes n k w g.0, g.1);
  drops = λ n k w g. (one.drops n k w g.0, g.1);
  budgets = λ n most w at g. (one.budgets n most w at g.0, happened_room c n [] (Shown says.Budget ∷ []) (λ now. now) w (λ r f t p e. f t p e) g.1);
  voiding = λ n l w le at void g. (one.voiding n l w le at void g.0, happened_room c (n + 1) [] (Shown says.Void ∷ []) (λ now. now) w (λ r f t p e. f t p e) g.1);
  steps = λ n s l e v w le at gives here g. (one.steps n s l e v w le at gives here g.0, does c roles (n + 1) s e v w here (λ r. event_fact c lines (n + 1) s l e v w fit at gives here) g.0 g.1);
  cutting = λ n a b w le at cut g. (one.cutting n a b w le at cut g.0, g.1);
  mending = λ n a b w le at cut g. (one.mending n a b w le at cut g.0, g.1);
  arming = λ n l a w le at it g. (one.arming n l a w le at it g.0, g.1);
  pending = λ n w le at g. (one.pending n w le at g.0, happened_room c (n + 1) [] (map packet_record w.underway) (λ now. now) w (λ r f t p e. f t p e) g.1);
  stopping = λ n s v w le at here g. (one.stopping n s v w le at here g.0, stops c (n + 1) s _ (disk_of v) w (λ f. without_instances v.store (f s (Running v) here)) g.1);
  booting = λ n s d w le at here g. (one.booting n s d w le at here g.0, booted c (n + 1) s d (boots (script_of w s) d) w here (boots_copies (script_of w s) d) g.1);
}
  where
    one : KeptIn c lines (λ n w. Holds c w)
    one = kept c lines fit roles (stays c)

-- ---- the first world ----

root_pages : (c : Config) (g : ℕ) (gs : List ℕ) → total (copy_pages g) (map (root_copy c) gs) ≡ 0
root_pages c g [] = refl
root_pages c g (k ∷ ks) = over (k == g) (root_pages c g ks)
  where
    over : (b : Bool) → total (copy_pages g) (map (root_copy c) ks) ≡ 0 → cond b 0 0 + total (copy_pages g) (map (root_copy c) ks) ≡ 0
    over true e = omega (arith, e)
    over false e = omega (arith, e)

formatted_fits : (c : Config) (s : ℕ) → RoomFits (record { copies = formatted c s; instances = []; steps = [] })
formatted_fits c s g = nothing (total (copy_pages g) (formatted c s)) (root_pages c g _)
  where
    nothing : (n : ℕ) → n ≡ 0 → n + 0 ≤ pack_pages
    nothing n e = omega (arith, e)

pub first_room : (c : Config) → Roomy c (first_world c)
first_room c r = first_places c (λ s. PlaceRoom) (λ s own. formatted_fits c s)

-- ---- every run ----

pub run_room : (c : Config) (lines : List ScheduleLine) → LinesFit c lines → PacksAreOfSites c → length c.packs ≤ 4 → (s : ℕ) (v : SiteView) → place_at (run_in c lines) s ≡ Some (Running v) → RoomFits v.store
run_room c lines fit packs few s v here = (every_line c lines (λ n w. Both c w) (kept_room c lines fit (roles_do c few)) (first_holds c (roles_do c few), first_room c)).1 (rest_of c lines fit packs) s (Running v) here
