-- Two calm rounds with any lines between them, in which nobody has a file open that has one kept version at their end: it has it all the
-- time from the end of the first on, whoever synchronizes it knows that, and its group has started.
use Rattle.std.proofs.Common.{List, None, Option, Some, [], ap, append_assoc, arith, inl, inr, length, refl, subst, suc, sym, take, true, zero, ℕ, ◌++◌, ◌+◌, ◌-◌, ◌<◌, ◌∙◌, ◌∷◌, ◌≡◌, ◌≤◌, ◌⊎◌}
use Rattle.std.proofs.lemmas.Bool.Decides.{nat_tests}
use Rattle.calm_laws.proofs.Calm.{calm_in_round}
use Rattle.calm_laws.proofs.Delivered.{inside_fact}
use Rattle.calm_laws.proofs.Facts.{RoundFacts, round_facts}
use Rattle.calm_laws.proofs.Limits.{take_fit}
use Rattle.calm_laws.proofs.Lists.{every_among, row_key}
use Rattle.calm_laws.proofs.Members.{sync_is}
use Rattle.calm_laws.proofs.Moments.{GoesOn, goes_itself, goes_round_kept}
use Rattle.calm_laws.proofs.Rounds.{delivered_kept, one_more}
use Rattle.calm_laws.proofs.TableThere.{table_there}
use Rattle.calm_laws.proofs.Ticks.{no_round, sites_apart}
use Rattle.row_laws.proofs.OrderlyRows.Spans.{world}
use Rattle.rest_laws.proofs.Roles.{roles_do}
use Rattle.calm_laws.specs.Carrying.{IsMember, frame_of}
use Rattle.calm_laws.specs.Rounds.{CalmLeft, Delivery, IsCalm, IsInRound, after}
use Rattle.commit_graph.specs.Versions.{same_file}
use Rattle.calm_laws.proofs.Convergence.Between.{Course}
use Rattle.calm_laws.proofs.Convergence.Due.{IsDueTo, OnlyOf, only_of}
use Rattle.calm_laws.proofs.Convergence.DueSteps.{DueOr, delivery_due, passed_due}
use Rattle.calm_laws.proofs.Convergence.Midst.{Midst, midst_in}
use Rattle.calm_laws.proofs.Convergence.Passing.{IsPassed, taken_or_passed}
use Rattle.calm_laws.proofs.Convergence.Reaching.{due_rests}
use Rattle.calm_laws.proofs.Convergence.Resting.{RestsBy, last_offer, rests_back}
use Rattle.calm_laws.proofs.Convergence.Started.{all_started, still_started}
use Rattle.calm_laws.proofs.Convergence.Starting.{round_ends, ticks_leave, within_after}
use Rattle.calm_laws.proofs.Convergence.TableSteps.{Changed, MayChange, WasSo, tries_stay}
use Rattle.calm_laws.proofs.Convergence.Ticking.{HasTried, has_tried}
use Rattle.calm_laws.proofs.Convergence.TraceTicked.{rest_earlier}
use Rattle.calm_laws.specs.Convergence.Converging.{GroupsHaveStarted}
use Rattle.calm_laws.specs.Convergence.Copies.{IsOnlyKept, IsOpenStill, NobodyHasOpen}
use Rattle.calm_laws.specs.Convergence.Offers.{IsToHold, Offer}
use Rattle.calm_laws.specs.Convergence.Rounds.{AreCalmRounds, IsShutFrom, IsUndisturbed}
use Rattle.run_laws.proofs.Epochs.Run.{run_good}
use Rattle.run_laws.specs.Epochs.Known.{Good}
use Rattle.lawful_trace.specs.Places.{lines_before}
use Rattle.locus_ids.specs.Sites.{has}
use Rattle.locus_ids.specs.declared.config.Config.{Config}
use Rattle.locus_ids.specs.declared.ids.FileId.{FileId}
use Rattle.locus_ids.specs.declared.ids.Stamp.{Stamp}
use Rattle.locus_ids.specs.declared.sites.Sites.{Sites}
use Rattle.row_laws.proofs.Orderly.Rounds.{ticks_kept}
use Rattle.row_laws.specs.Orderly.Calm.{AreTogether, IsInside, delivered, delivers_next}
use Rattle.store_laws.proofs.OneTree.Run.{run_holds}
use Rattle.store_laws.proofs.OneTree.Staying.{stays}
use Rattle.tree_laws.proofs.Syncs.Versions.{row_vector}
use Rattle.calm_laws.specs.Pulls.Known.{written}
use Rattle.store_laws.specs.OneTree.Places.{InsideFact}
use Rattle.store_laws.specs.OneTree.Rest.{EachRest, IsRest}
use Rattle.role_steps.proofs.of_plain_facts.Tests.{true_false}
use Rattle.role_steps.specs.Adoption.{table_group}
use Rattle.role_steps.specs.Epochs.{frame_in}
use Rattle.role_steps.specs.Tables.{row}
use Rattle.role_steps.specs.Views.{SiteView, all_sites, boot_in, sync_site}
use Rattle.role_steps.specs.declared.rounds.InEpoch.{InEpoch}
use Rattle.role_steps.specs.declared.synchronizing.SyncTable.{SyncTable}
use Rattle.role_steps.specs.declared.synchronizing.VersionRow.{VersionRow}
use Rattle.schedule_lines.specs.declared.line.ScheduleLine.{ScheduleLine}
use Rattle.the_run.proofs.Growing.{run_grows}
use Rattle.the_run.specs.Kept.{Among}
use Rattle.the_run.specs.Runs.{arrives, next_packet, run_in, ticks_to}
use Rattle.the_run.specs.Worlds.{Line, Numbered, Running, World, place_at}
use Rattle.tree_laws.specs.Instances.{IsStarted}
use Rattle.tree_laws.specs.Printed.{entries}
use Rattle.tree_laws.specs.Tables.{RowFact, TableFact}
use Rattle.tree_model.specs.Epochs.{members_of}

-- ---- what the lines between tell ----

take_none : {A : Type 0} (n : ℕ) → take {A = A} n [] ≡ []
take_none zero = refl
take_none (suc n) = refl

take_split : {A : Type 0} (n i : ℕ) (xs : List A) → (more : List A) × (take (n + i) xs ≡ take n xs ++ more)
take_split zero i xs = (take i xs, ap (λ (k : ℕ). take k xs) {x = 0 + i} {y = i} (omega arith))
take_split {A = A} (suc n) i [] = ([], take_none {A = A} (suc n + i))
take_split (suc n) i (x ∷ xs) = (let r : (more : List _) × (take (n + i) xs ≡ take n xs ++ more) = take_split n i xs in
    (r.0, ap (λ (k : ℕ). take k (x ∷ xs)) {x = suc n + i} {y = suc (n + i)} (omega arith) ∙ ap (λ (l : List _). x ∷ l) r.1))

pub world_grows : (c : Config) (lines : List ScheduleLine) (n i : ℕ) → (more : List Line) × ((world c lines (n + i)).trace ≡ more ++ (world c lines n).trace)
world_grows c lines n i =
    let r : (more : List ScheduleLine) × (take (n + i) lines ≡ take n lines ++ more) = take_split n i lines in
    ((run_grows c (take n lines) r.0).lines, ap (λ (xs : List ScheduleLine). (run_in c xs).trace) r.1 ∙ (run_grows c (take n lines) r.0).trace)

-- a calm round begins in a world of which this stands
pub start_goes : (c : Config) (m j : ℕ) (from : World) → GoesOn from (delivered c m j (ticks_to c m all_sites from))
start_goes c m j from = delivered_kept c m (GoesOn from) (goes_round_kept c m from) j (ticks_to c m all_sites from) (ticks_kept c m (GoesOn from) (goes_round_kept c m from) all_sites from (goes_itself from))

pub start_facts : (c : Config) (lines : List ScheduleLine) (m : ℕ) (e : InEpoch) (l : ℕ) → IsCalm c lines m e l → RoundFacts c (run_in c (lines_before lines m))
start_facts c lines m e l calm = record { rest = rest; fact = run_holds c (lines_before lines m) (take_fit c lines (m - 1) calm.fit) (roles_do c calm.groups) (stays c) rest }
  where
    start : World
    start = run_in c (lines_before lines m)

    goes : GoesOn start (after c lines m 0)
    goes = start_goes c m 0 start

    later : IsRest c (after c lines m 0).trace
    later = (round_facts c lines m (after c lines m 0) (calm_in_round c lines m e l 0 calm (omega arith))).rest

    rest : IsRest c start.trace
    rest = record { each = rest_earlier c goes.lines start.trace (subst (λ (t : List Line). EachRest c t) goes.trace later.each); packs = later.packs }

-- ---- the ticks of a calm round ----

module _ (c : Config) (lines : List ScheduleLine) (m : ℕ) (e : InEpoch) (l : ℕ) (calm : IsCalm c lines m e l) where
  abbrev start : World
  start = run_in c (lines_before lines m)

  abbrev at : ℕ → World
  at j = after c lines m j

  good : Good start
  good = run_good c (lines_before lines m)

  -- a member's view after the ticks, by that before
  pub tried_of : (t : ℕ) → IsMember e t → (i : IsInside start e t) (z : SiteView) → place_at (at 0) t ≡ Some (Running z) → HasTried (frame_in c t i.view.boot e) i.view z
  tried_of t q i z there = has_tried c e t i.view z (good.views t i.view i.here).tables (no_round start t i.view e good i.here i.epoch) i.epoch
      (ticks_leave c m all_sites start t i.view z sites_apart (calm.sites t q) i.here there (within_after c lines m e l calm 0 (omega arith)))

  -- what a member is to hold then it was to hold before
  pub ticked_due : (s : ℕ) (o : Offer) → IsDueTo c e (at 0) s o → IsDueTo c e start s o
  ticked_due s o due = record {
    hold = record {
      file_known = was.file_is.file_known;
      known = record { css = h.known.css; synced = h.known.synced; view = i.view; here = i.here; table = was.table; found = was.found; is_row = was.file_is.found };
      version = h.version;
      only = sym was.file_is.kept ∙ h.only;
      stamp = h.stamp;
      vector = h.vector;
      in_set = ap (λ (x : Sites). has x s) (sym was.file_is.set) ∙ h.in_set;
    };
    started = was.started;
  }
    where
      h : IsToHold c e (place_at (at 0)) s o
      h = due.hold

      css : IsMember e h.known.css
      css = (sync_is c e o.file.group h.known.css h.known.synced).1

      i : IsInside start e h.known.css
      i = calm.first.inside h.known.css css

      tried : HasTried (frame_in c h.known.css i.view.boot e) i.view h.known.view
      tried = tried_of h.known.css css i h.known.view h.known.here

      was : WasSo i.view.tables o.file.group o.file.ino h.file_known
      was = tries_stay (frame_in c h.known.css i.view.boot e) i.view.pulls i.view o.file.group h.known.table (ap (λ (ts : List SyncTable). row table_group o.file.group ts) (sym tried.tables) ∙ h.known.found) due.started o.file.ino h.file_known h.known.is_row

  -- ---- its deliveries ----

  module _ (file : FileId) (undisturbed : IsUndisturbed c lines m e l file) (groups : (j : ℕ) → j ≤ l → GroupsHaveStarted e (place_at (at j))) (s : ℕ) (d : Offer) (is_file : d.file ≡ file) where
    round : (j : ℕ) → j ≤ l → IsInRound c lines m (at j)
    round j le = calm_in_round c lines m e l j calm le

    nobody : (j : ℕ) → j ≤ l → NobodyHasOpen c e (place_at (at j)) d.file
    nobody j le = subst (λ (f : FileId). NobodyHasOpen c e (place_at (at j)) f) (sym is_file) (undisturbed (at j) (inr (j, le, refl)))

    file_itself : (f : FileId) → same_file f f ≡ true
    file_itself f = grind (arith, nat_tests)

    -- a change of the file needs an instance of it, or a group that hasn't started
    unchanged : (j : ℕ) (le : j ≤ l) (css : ℕ) (view : SiteView) → sync_site c e.members d.file.group ≡ Some css → place_at (at j) css ≡ Some (Running view) → Changed view.tables d.file.group d.file.ino → ⊥
    unchanged j le css view sync here ch = by_why ch.why
      where
        is_css : IsMember e css
        is_css = (sync_is c e d.file.group css sync).1

        at_table : Among ch.table view.tables × (ch.table.group ≡ d.file.group)
        at_table = row_key table_group d.file.group view.tables ch.table ch.found

        table : TableFact c (at j).trace (frame_of c e css) ch.table
        table = every_among (TableFact c (at j).trace (frame_of c e css)) ch.table view.tables at_table.0 (inside_fact c e (at j) css view (round_facts c lines m (at j) (round j le)).fact (calm.each j le) is_css here).tables

        by_why : MayChange ch.table d.file.ino → ⊥
        by_why (inl unstarted) = true_false (sym (groups j le css d.file.group view ch.table is_css here ch.found) ∙ unstarted)
        by_why (inr q) = nobody j le css view ch.table q.0 sync here ch.found q.1 (subst (λ (f : FileId). same_file f d.file ≡ true) (sym row_is) (file_itself d.file)) (subst IsOpenStill (sym q.2) tt)
          where
            row_fact : RowFact c (at j).trace e.id ch.table.group q.0
            row_fact = every_among (RowFact c (at j).trace e.id ch.table.group) q.0 ch.table.opens q.1 table.opens

            row_is : q.0.file ≡ d.file
            row_is = λ i. record { group = (row_fact.group_is ∙ at_table.1) i; ino = q.3 i }

    due_one : (j : ℕ) → suc j ≤ l → IsDueTo c e (at (suc j)) s d → IsDueTo c e (at j) s d
    due_one j le due = by_next (next_packet (at j)) refl (one_more c m j (ticks_to c m all_sites start))
      where
        low : j ≤ l
        low = omega (arith, le)

        by_next : (o : Option Numbered) → next_packet (at j) ≡ o → at (suc j) ≡ delivers_next c m (at j) (next_packet (at j)) → IsDueTo c e (at j) s d
        by_next None is eq = subst (λ (z : World). IsDueTo c e z s d) (eq ∙ ap (delivers_next c m (at j)) is) due
        by_next (Some x) is eq = over (taken_or_passed c lines m e x (at j) (round j low) is (subst (λ (z : World). IsInRound c lines m z) now (round (suc j) le)) (calm.each j low) (subst (λ (z : World). AreTogether z e) now (calm.each (suc j) le)) (ap (λ (z : World). z.over) (sym now) ∙ within_after c lines m e l calm (suc j) le))
          where
            now : at (suc j) ≡ arrives c m x (at j)
            now = eq ∙ ap (delivers_next c m (at j)) is

            due_now : IsDueTo c e (arrives c m x (at j)) s d
            due_now = subst (λ (z : World). IsDueTo c e z s d) now due

            over : Delivery c lines m e x (at j) ⊎ IsPassed c m e x (at j) → IsDueTo c e (at j) s d
            over (inr p) = passed_due c m e x (at j) p s d due_now
            over (inl g) = by_due (delivery_due c lines m e x (at j) g s d due_now)
              where
                by_due : DueOr c e (at j) (arrives c m x (at j)) x.packet.to g.view s d due_now → IsDueTo c e (at j) s d
                by_due (inl before) = before
                by_due (inr z) = absurd (unchanged j low x.packet.to g.view (due_now.hold.known.synced ∙ ap (λ (i : ℕ). Some i) (sym z.1.0)) g.here z.1.1)

    due_by : (i j : ℕ) → i + j ≡ l → IsDueTo c e (at l) s d → IsDueTo c e (at j) s d
    due_by zero j eq due = subst (λ (i : ℕ). IsDueTo c e (at i) s d) {x = l} {y = j} (sym eq ∙ plus_zero j) due
      where
        plus_zero : (i : ℕ) → 0 + i ≡ i
        plus_zero i = omega arith
    due_by (suc i) j eq due = due_one j (omega (arith, eq)) (due_by i (suc j) (omega (arith, eq)) due)

    -- what is due at the end was due after the ticks and after each delivery
    pub due_back : IsDueTo c e (at l) s d → (j : ℕ) → j ≤ l → IsDueTo c e (at j) s d
    due_back due j le = due_by (l - j) j (omega (arith, le)) due

-- ---- two rounds ----

module _ (c : Config) (left : CalmLeft c) (lines : List ScheduleLine) (n m : ℕ) (e : InEpoch) (k l : ℕ) (rounds : AreCalmRounds c lines n m e k l) where
  abbrev first : World
  first = after c lines n k

  abbrev begun : World
  begun = run_in c (lines_before lines m)

  pub begun_grows : (more : List Line) × (begun.trace ≡ more ++ first.trace)
  begun_grows = (let r : (more : List Line) × ((world c lines (n + (m - 1 - n))).trace ≡ more ++ (world c lines n).trace) = world_grows c lines n (m - 1 - n) in
      (r.0, ap (λ (i : ℕ). (world c lines i).trace) {x = m - 1} {y = n + (m - 1 - n)} (let low : n < m = rounds.order in omega (arith, low)) ∙ (r.1 ∙ ap (λ (w : World). r.0 ++ w.trace) (round_ends c lines n e k rounds.first))))

  pub later_grows : (j : ℕ) → (more : List Line) × ((after c lines m j).trace ≡ more ++ first.trace)
  later_grows j = (let g : GoesOn begun (after c lines m j) = start_goes c m j begun in (g.lines ++ begun_grows.0, g.trace ∙ (ap (λ (t : List Line). g.lines ++ t) begun_grows.1 ∙ sym (append_assoc g.lines begun_grows.0 first.trace))))

  -- all groups have started in the second
  pub started_late : (j : ℕ) → j ≤ l → GroupsHaveStarted e (place_at (after c lines m j))
  started_late j le = still_started c e lines n m first (after c lines m j) (calm_in_round c lines n e k k rounds.first (omega arith)) (rounds.first.each k (omega arith)) (calm_in_round c lines m e l j rounds.second le) (rounds.second.each j le) (later_grows j).0 (later_grows j).1
      (all_started c lines n e k left rounds.first)

  module _ (file : FileId) (v : VersionRow) (set : Sites) (kept : IsOnlyKept c e (place_at (after c lines m l)) file v set) (in_second : IsUndisturbed c lines m e l file) (s : ℕ) (in_set : has set s ≡ true) where
    abbrev d : Offer
    d = last_offer file v

    due_at_end : IsDueTo c e (after c lines m l) s d
    due_at_end = record {
      hold = record { file_known = kept.file_known; known = kept.known; version = v; only = kept.only; stamp = refl; vector = refl; in_set = ap (λ (x : Sites). has x s) kept.sites ∙ in_set };
      started = started_late l (omega arith) kept.known.css file.group kept.known.view kept.known.table (sync_is c e file.group kept.known.css kept.known.synced).1 kept.known.here kept.known.found;
    }

    pub due_late : (j : ℕ) → j ≤ l → IsDueTo c e (after c lines m j) s d
    due_late j le = due_back c lines m e l rounds.second file in_second started_late s d refl due_at_end j le

    pub due_begun : IsDueTo c e begun s d
    due_begun = ticked_due c lines m e l rounds.second s d (due_late 0 (omega arith))

    pub rests_begun : RestsBy c e file v s begun.trace
    rests_begun = due_rests c e begun (start_facts c lines m e l rounds.second) rounds.second.groups rounds.second.first s file v due_begun (in_second begun (inl (0, refl)))

    -- so it is by the records at the end of the first, where its group had started
    pub group_first : IsStarted c first.trace e.id file.group
    group_first = by_table (table_there c first.trace e file.group css (boot_in e.members.boot css) i.view rounds.first.groups inside due_begun.hold.known.synced)
      where
        css : ℕ
        css = due_begun.hold.known.css

        is_css : IsMember e css
        is_css = (sync_is c e file.group css due_begun.hold.known.synced).1

        i : IsInside first e css
        i = (rounds.first.each k (omega arith)).inside css is_css

        inside : InsideFact c (frame_of c e css) first.trace i.view
        inside = inside_fact c e first css i.view (round_facts c lines n first (calm_in_round c lines n e k k rounds.first (omega arith))).fact (rounds.first.each k (omega arith)) is_css i.here

        by_table : (t : SyncTable) × (row table_group file.group i.view.tables ≡ Some t) → IsStarted c first.trace e.id file.group
        by_table t = (let a : Among t.0 i.view.tables × (t.0.group ≡ file.group) = row_key table_group file.group i.view.tables t.0 t.1 in
            subst (λ (g : ℕ). IsStarted c first.trace e.id g) a.1 (sym (every_among (TableFact c first.trace (frame_of c e css)) t.0 i.view.tables a.0 inside.tables).started ∙ all_started c lines n e k left rounds.first css file.group i.view t.0 is_css i.here t.1))

    -- nobody has it open between them
    module _ (between : IsShutFrom c e file first.trace begun.trace) where
      pub rests_first : RestsBy c e file v s first.trace
      rests_first = rests_back c e file v s begun_grows.0 first.trace group_first (subst (λ (t : List Line). IsShutFrom c e file first.trace t) begun_grows.1 between) (subst (λ (t : List Line). RestsBy c e file v s t) begun_grows.1 rests_begun)

      -- the course from the end of the first to the start of the second
      pub between_course : Course c e file v s first.trace begun.trace
      between_course = record {
        rests = rests_begun;
        started = group_first;
        shut = between;
        groups = rounds.first.groups;
        listed = listed;
        was = λ t q. (inside_first t q).frame.inside;
        is = λ t q. (inside_begun t q).frame.inside;
        followed = rests_first.past.followed;
      }
        where
          inside_first : (t : ℕ) → (q : IsMember e t) → InsideFact c (frame_of c e t) first.trace ((rounds.first.each k (omega arith)).inside t q).view
          inside_first t q = inside_fact c e first t ((rounds.first.each k (omega arith)).inside t q).view (round_facts c lines n first (calm_in_round c lines n e k k rounds.first (omega arith))).fact (rounds.first.each k (omega arith)) q ((rounds.first.each k (omega arith)).inside t q).here

          inside_begun : (t : ℕ) → (q : IsMember e t) → InsideFact c (frame_of c e t) begun.trace (rounds.second.first.inside t q).view
          inside_begun t q = inside_fact c e begun t (rounds.second.first.inside t q).view (start_facts c lines m e l rounds.second).fact rounds.second.first q (rounds.second.first.inside t q).here

          listed : members_of (entries first.trace) e.id ≡ Some e.members
          listed = (inside_first due_begun.hold.known.css (sync_is c e file.group due_begun.hold.known.css due_begun.hold.known.synced).1).frame.members_are

      -- whom it is due to then
      pub due_first : IsMember e s → IsDueTo c e first s d
      due_first member = subst (λ (o : Offer). IsDueTo c e first s o) (offer_is one) one.due
        where
          k1 : Midst c e first
          k1 = midst_in c lines n e first (calm_in_round c lines n e k k rounds.first (omega arith)) (rounds.first.each k (omega arith))

          one : OnlyOf c e first s file
          one = only_of c e first k1 (λ t q. (rounds.first.each k (omega arith)).inside t q) s member file group_first (ap length rests_first.kept.only) rests_first.in_set

          same_head : (a b : Stamp) → ◌≡◌ {A = List Stamp} (a ∷ []) (b ∷ []) → a ≡ b
          same_head a b q = cc

          offer_is : (o : OnlyOf c e first s file) → ◌≡◌ {A = Offer} (record { file = file; stamp = o.version.stamp; vector = o.version.vector }) d
          offer_is o = λ i. record { file = file; stamp = stamp_is i; vector = vector_is i }
            where
              stamp_is : o.version.stamp ≡ v.stamp
              stamp_is = same_head o.version.stamp v.stamp (sym o.only ∙ rests_first.kept.only)

              vector_is : o.version.vector ≡ v.vector
              vector_is = row_vector c first.trace file o.version o.fact ∙ (ap (written c first.trace file) stamp_is ∙ sym rests_first.kept.vector)
