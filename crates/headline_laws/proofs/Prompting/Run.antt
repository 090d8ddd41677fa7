-- What holds of all that each event tells holds of all that a run has told.
use Rattle.std.proofs.Common.{◌≡◌, ◌≤◌, ℕ, ◌+◌, Bool, true, false, cond, List, [], ◌∷◌, length, map, Some, refl, subst}
use Rattle.locus_ids.specs.declared.config.Config.{Config}
use Rattle.locus_ids.specs.declared.sites.Links.{Links}
use Rattle.schedule_lines.specs.declared.line.Line.{Line as LineWords}
use Rattle.schedule_lines.specs.declared.line.Line.TheVariants as line
use Rattle.schedule_lines.specs.declared.line.ScheduleLine.{ScheduleLine}
use Rattle.the_run.specs.Kept.{IsOwn, WasSent}
use Rattle.trace_book.specs.declared.record.Record.{Record}
use Rattle.trace_book.specs.declared.record.Record.TheVariants as says
use Rattle.wire_messages.specs.declared.packet.Packet.{Packet}
use Rattle.role_steps.specs.Own.{Every}
use Rattle.role_steps.specs.Views.{Calls, DiskWrite, Event, GivesUp, Merges, Parts, Receives, Shown, SiteView, Ticks, Told}
use Rattle.role_steps.proofs.Sending.{every_map}
use Rattle.the_run.specs.Disks.{Armed, Booted, CutOff, Whole, boots, cut_disk, is_on_disk}
use Rattle.the_run.specs.Runs.{boots_as, packet_record, rearms, run_in}
use Rattle.the_run.specs.Steps.{step}
use Rattle.the_run.specs.Worlds.{Line, Numbered, Place, passed, Running, Stopped, first_world, World, acts, arms, cause_of, cut_told, disk_of, fresh, happened, links_of, place_at, puts, script_of, stops_with, told_onto}
use Rattle.the_run.proofs.Boots.{acts_cases}
use Rattle.the_run.proofs.Events.{happened_keeps}
use Rattle.tree_laws.specs.Doing.{AllTold, IsWriteOf}
use Rattle.tree_laws.specs.Following.{IsFollowed}
use Rattle.row_laws.specs.ByLine.{Gives, KeptIn}
use Rattle.row_laws.specs.Voids.{LinesFit}
use Rattle.row_laws.proofs.ByLine.{every_line}
use Rattle.tree_laws.specs.Orders.Joining.{PacksAreOfSites}
use Rattle.calm_laws.specs.of_store_laws.OneTree.Places.{AllAt, WorldFact}
use Rattle.calm_laws.specs.of_store_laws.OneTree.Rest.{AllRest, IsRest}
use Rattle.calm_laws.specs.of_store_laws.OneTree.Roles.{EventFact, RolesDo}
use Rattle.calm_laws.proofs.of_store_laws.OneTree.Composing.{rest_before, rest_told}
use Rattle.calm_laws.proofs.of_store_laws.OneTree.Cuts.{WritesSo, step_writes}
use Rattle.calm_laws.proofs.of_store_laws.OneTree.Run.{arrives_fact, event_fact, first_holds, kept}
use Rattle.calm_laws.proofs.of_store_laws.OneTree.Staying.{stays}
use Rattle.calm_laws.proofs.of_store_laws.OneTree.Worlds.{Holds}
use Rattle.rest_laws.proofs.Resting.{run_low, run_rests}
use Rattle.rest_laws.proofs.Roles.{roles_do}

-- ---- what an event tells ----

-- the world has the site
abbrev pub HasPlace : World → ℕ → Type 0
HasPlace w s = (p : Place) × (place_at w s ≡ Some p)

-- a record that no site tells in the course of an event, or that a cut event leaves
abbrev pub IsLoneRecord : World → Record → Type 0
IsLoneRecord w (says.Up site boot) = HasPlace w site
IsLoneRecord w (says.Stopped site cause) = HasPlace w site
IsLoneRecord w (says.Packet number from to kind) = Unit {0}
IsLoneRecord w says.Void = Unit {0}
IsLoneRecord w says.Budget = Unit {0}
IsLoneRecord w (says.Commit file site stamp parents content) = Unit {0}
IsLoneRecord w (says.Adopt file site stamp) = Unit {0}
IsLoneRecord w _ = ⊥

abbrev pub IsLone : World → Told → Type 0
IsLone w (Shown r) = IsLoneRecord w r
IsLone w _ = ⊥

-- It holds of all that an event tells, in whatever world it happens, and what it stands on is kept. (Other laws give the rest of what
-- is told.)
pub record Tells (c : Config) (A : World → Type 0) (E : World → Event → Type 0) (P : ℕ → List Line → Told → Type 0) (S : List Line → Type 0) : Type 0 where
  pub first : S []
  -- what is known of the event: of one that needs no packet, and of a packet that was sent
  pub own : (w : World) (e : Event) → IsOwn e → E w e
  pub came : (w : World) (x : Numbered) → WasSent w x → A w → E (passed x.number w) (Receives x.packet)
  pub steps : (n s : ℕ) (links : Links) (v : SiteView) (e : Event) (w : World) → A w → WorldFact c w → IsRest c w.trace → place_at w s ≡ Some (Running v) → EventFact c w.trace s v e → E w e → links ≡ links_of w s → AllTold c n w.trace (step c s links v e).told → AllRest c n w.trace (step c s links v e).told → S w.trace →
      AllAt (P n) n w.trace (step c s links v e).told × S (told_onto n (step c s links v e).told w.trace)
  pub lone : (n : ℕ) (told : List Told) (w : World) → A w → WorldFact c w → IsRest c w.trace → Every (IsLone w) told → AllTold c n w.trace told → S w.trace → AllAt (P n) n w.trace told × S (told_onto n told w.trace)

-- of each line that was told
abbrev pub EachLine : (ℕ → List Line → Told → Type 0) → List Line → Type 0
EachLine P [] = Unit {0}
EachLine P (x ∷ older) = P x.number older x.told × EachLine P older

pub told_of : (c : Config) (n : ℕ) (xs : List Told) (t : List Line) → IsFollowed c (told_onto n xs t) → AllTold c n t xs × IsFollowed c t
told_of c n [] t h = (tt, h)
told_of c n (x ∷ xs) t h = (let k : AllTold c n (record { number = n; told = x } ∷ t) xs × IsFollowed c (record { number = n; told = x } ∷ t) = told_of c n xs (record { number = n; told = x } ∷ t) h in ((k.1.0, k.0), k.1.1))

lines_onto : (P : ℕ → List Line → Told → Type 0) (n : ℕ) (xs : List Told) (t : List Line) → AllAt (P n) n t xs → EachLine P t → EachLine P (told_onto n xs t)
lines_onto P n [] t k h = h
lines_onto P n (x ∷ xs) t k h = lines_onto P n xs (record { number = n; told = x } ∷ t) k.1 (k.0, h)

write_lone : (w : World) (s : ℕ) (r : Record) → IsWriteOf s r → IsLone w (Shown r)
write_lone w s (says.Commit file site stamp parents content) k = tt
write_lone w s (says.Adopt file site stamp) k = tt
write_lone w s _ k = absurd k

-- what a line has a site do needs no packet
pub gives_own : (w : World) (l : LineWords) (s : ℕ) (e : Event) → Gives w l s e → IsOwn e
gives_own w (line.Call site process words) s (Calls p x) g = tt
gives_own w (line.Tick site) s Ticks g = tt
gives_own w (line.Part site) s Parts g = tt
gives_own w (line.Merge site) s Merges g = tt
gives_own w (line.GiveUp site) s GivesUp g = tt
gives_own w _ s e g = absurd g

module _ (c : Config) (A : World → Type 0) (E : World → Event → Type 0) (P : ℕ → List Line → Told → Type 0) (S : List Line → Type 0) (tells : Tells c A E P S) where
  abbrev Facts : World → Type 0
  Facts w = IsRest c w.trace → EachLine P w.trace × S w.trace

  abbrev Both : World → Type 0
  Both w = Holds c w × Facts w × A w

  abbrev Told_so : ℕ → List Told → World → Type 0
  Told_so n told w = AllAt (P n) n w.trace told × S (told_onto n told w.trace)

  -- where the world after it is as it may be
  happened_facts : (n : ℕ) (ps : List Packet) (told : List Told) (change : World → World) (w : World) → (WorldFact c w → IsRest c w.trace → IsRest c (told_onto n told w.trace) → AllTold c n w.trace told → S w.trace → Told_so n told w) → Both w → Holds c (happened n ps told change w) → Facts (happened n ps told change w)
  happened_facts n ps told change w each g =
      happened_keeps (λ u. Holds c u → Facts u) n ps told change w (λ k. g.1) (λ l k r. g.1 r)
      (λ a b d k r.
      let old : IsRest c w.trace = rest_before c n told w.trace r in
      let now : Told_so n told w = each (g.0 old) old r (told_of c n told w.trace (k r).followed).0 (g.1 old).1 in
      (lines_onto P n told w.trace now.0 (g.1 old).0, now.1))

  lone_facts : (n : ℕ) (told : List Told) (change : World → World) (w : World) → Every (IsLone w) told → Both w → Holds c (happened n [] told change w) → Facts (happened n [] told change w)
  lone_facts n told change w lone g = happened_facts n [] told change w (λ f old r may so. tells.lone n told w g.2 f old lone may so) g

  -- ---- an event of a site ----

  cut_lone : (n s : ℕ) (v : SiteView) (d : DiskWrite) (a : Armed) (w : World) → HasPlace w s → (IsRest c w.trace → WritesSo c n w.trace s v.store (Some d)) → IsRest c w.trace → IsRest c (told_onto n (cut_told s v.store d a.how a.left) w.trace) → Every (IsLone w) (cut_told s v.store d a.how a.left)
  cut_lone n s v d a w here writes old r = over (is_on_disk v.store d a.how a.left) r
    where
      over : (b : Bool) → IsRest c (told_onto n (cond b (Shown d.says ∷ Shown (says.Stopped s (cause_of a.how)) ∷ []) (Shown (says.Stopped s (cause_of a.how)) ∷ [])) w.trace) → Every (IsLone w) (cond b (Shown d.says ∷ Shown (says.Stopped s (cause_of a.how)) ∷ []) (Shown (says.Stopped s (cause_of a.how)) ∷ []))
      over true r = (write_lone w s d.says (writes old d refl (rest_told c n (Shown d.says ∷ Shown (says.Stopped s (cause_of a.how)) ∷ []) w.trace r).0).own, (here, tt))
      over false r = (here, tt)

  does : RolesDo c → (n s : ℕ) (e : Event) (v : SiteView) (w : World) → place_at w s ≡ Some (Running v) → (IsRest c w.trace → EventFact c w.trace s v e) → E w e → Both w → Holds c (acts n s v (step c s (links_of w s) v e) w) → Facts (acts n s v (step c s (links_of w s) v e) w)
  does roles n s e v w here event known g = acts_cases (λ u. Holds c u → Facts u) n s v (step c s (links_of w s) v e) w
      (happened_facts n _ _ _ w each g)
      (λ a. happened_facts n _ _ (λ now. puts s (Running (step c s (links_of w s) v e).view) (arms a now)) w each g)
      (λ d a q. happened_facts n [] (cut_told s v.store d a.how a.left) (stops_with s (cut_disk v.boot v.store d a.how a.left)) w
      (λ f old r may so. tells.lone n (cut_told s v.store d a.how a.left) w g.2 f old (cut_lone n s v d a w (Running v, here) (λ b. subst (WritesSo c n w.trace s v.store) q (writes f b)) old r) may so) g)
    where
      each : WorldFact c w → IsRest c w.trace → IsRest c (told_onto n (step c s (links_of w s) v e).told w.trace) → AllTold c n w.trace (step c s (links_of w s) v e).told → S w.trace → Told_so n (step c s (links_of w s) v e).told w
      each f old r may so = tells.steps n s (links_of w s) v e w g.2 f old here (event old) known refl may (rest_told c n (step c s (links_of w s) v e).told w.trace r) so

      writes : WorldFact c w → IsRest c w.trace → WritesSo c n w.trace s v.store (step c s (links_of w s) v e).written
      writes f b = step_writes c roles n s (links_of w s) w.trace v e (record { followed = f.followed; rest = b }) (f.places s (Running v) here) (event b)

  booted : (n s : ℕ) (b : Booted) (w : World) → HasPlace w s → Both w → Holds c (boots_as n s b w) → Facts (boots_as n s b w)
  booted n s (Whole x a) w here g = lone_facts n (Shown (says.Up s x.label.boot) ∷ []) (λ now. rearms s a (puts s (Running (fresh x.label.boot x.copies)) now)) w (here, tt) g
  booted n s (CutOff x how) w here g = lone_facts n (Shown (says.Stopped s (cause_of how)) ∷ []) (stops_with s x) w (here, tt) g

  -- ---- all lines ----

  pub kept_lines : (lines : List ScheduleLine) → LinesFit c lines → RolesDo c → KeptIn c lines (λ n w. A w) → KeptIn c lines (λ n w. Both w)
  kept_lines lines fit roles also = record {
    begins = λ n w le q g. (g.0, g.1, also.begins n w le q g.2);
    ticks = λ n most s v w at here g. both (one.ticks n most s v w at here g.0) (does roles n s Ticks v w here (λ r. tt) (tells.own w Ticks tt) g) (also.ticks n most s v w at here g.2);
    receives = λ n l x v w at d here sent g. both (one.receives n l x v w at d here sent g.0) (does roles n x.packet.to (Receives x.packet) v _ here (λ r. (refl, arrives_fact c w x v (g.0 r) sent here)) (tells.came w x sent g.2) (one.passes n x.number w g.0, g.1, also.passes n x.number w g.2)) (also.receives n l x v w at d here sent g.2);
    passes = λ n k w g. (one.passes n k w g.0, g.1, also.passes n k w g.2);
    drops = λ n k w g. (one.drops n k w g.0, g.1, also.drops n k w g.2);
    budgets = λ n most w at g. both (one.budgets n most w at g.0) (lone_facts n (Shown says.Budget ∷ []) (λ now. now) w (tt, tt) g) (also.budgets n most w at g.2);
    voiding = λ n l w le at void g. both (one.voiding n l w le at void g.0) (lone_facts (n + 1) (Shown says.Void ∷ []) (λ now. now) w (tt, tt) g) (also.voiding n l w le at void g.2);
    steps = λ n s l e v w le at gives here g. both (one.steps n s l e v w le at gives here g.0) (does roles (n + 1) s e v w here (λ r. event_fact c lines (n + 1) s l e v w fit at gives here) (tells.own w e (gives_own w l s e gives)) g) (also.steps n s l e v w le at gives here g.2);
    cutting = λ n a b w le at cut g. (one.cutting n a b w le at cut g.0, g.1, also.cutting n a b w le at cut g.2);
    mending = λ n a b w le at cut g. (one.mending n a b w le at cut g.0, g.1, also.mending n a b w le at cut g.2);
    arming = λ n l a w le at it g. (one.arming n l a w le at it g.0, g.1, also.arming n l a w le at it g.2);
    pending = λ n w le at g. both (one.pending n w le at g.0) (lone_facts (n + 1) (map packet_record w.underway) (λ now. now) w (every_map (IsLone w) packet_record w.underway (λ x. tt)) g) (also.pending n w le at g.2);
    stopping = λ n s v w le at here g. both (one.stopping n s v w le at here g.0) (lone_facts (n + 1) _ (stops_with s (disk_of v)) w ((Running v, here), tt) g) (also.stopping n s v w le at here g.2);
    booting = λ n s d w le at here g. both (one.booting n s d w le at here g.0) (booted (n + 1) s (boots (script_of w s) d) w (Stopped d, here) g) (also.booting n s d w le at here g.2);
  }
    where
      one : KeptIn c lines (λ n w. Holds c w)
      one = kept c lines fit roles (stays c)

      both : {w : World} → Holds c w → (Holds c w → Facts w) → A w → Both w
      both k f a = (k, f k, a)

  pub run_tells : (lines : List ScheduleLine) → LinesFit c lines → PacksAreOfSites c → length c.packs ≤ 4 → KeptIn c lines (λ n w. A w) → A (first_world c) → EachLine P (run_in c lines).trace × S (run_in c lines).trace
  run_tells lines fit packs few also first = (every_line c lines (λ n w. Both w) (kept_lines lines fit (roles_do c few) also) (first_holds c (roles_do c few), (λ r. (tt, tells.first)), first)).1 (run_rests c lines fit packs (run_low c lines))

-- what holds of all worlds is kept
pub nothing_kept : (c : Config) (lines : List ScheduleLine) → KeptIn c lines (λ n w. Unit {0})
nothing_kept c lines = record {
  begins = λ n w le q g. tt;
  ticks = λ n most s v w at here g. tt;
  receives = λ n l x v w at d here sent g. tt;
  passes = λ n k w g. tt;
  drops = λ n k w g. tt;
  budgets = λ n most w at g. tt;
  voiding = λ n l w le at void g. tt;
  steps = λ n s l e v w le at gives here g. tt;
  cutting = λ n a b w le at cut g. tt;
  mending = λ n a b w le at cut g. tt;
  arming = λ n l a w le at it g. tt;
  pending = λ n w le at g. tt;
  stopping = λ n s v w le at here g. tt;
  booting = λ n s d w le at here g. tt;
}
