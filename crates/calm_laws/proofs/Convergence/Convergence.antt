-- Two calm rounds with any lines between them: in the first a member pulls the only kept version of a file that nobody has open, and in the
-- second it adopts it, or lacks room for it.
use Rattle.std.proofs.Common.{Bool, List, None, Some, [], arith, false, inl, inr, length, refl, subst, suc, sym, take, true, zero, ℕ, ◌++◌, ◌+◌, ◌-◌, ◌<◌, ◌∙◌, ◌∷◌, ◌≡◌, ◌≤◌, ◌⊎◌, ap, map}
use Rattle.calm_laws.proofs.Calm.{calm_in_round}
use Rattle.calm_laws.proofs.Delivered.{inside_fact}
use Rattle.calm_laws.proofs.Facts.{RoundFacts, round_facts}
use Rattle.calm_laws.proofs.Limits.{line_there, take_fit}
use Rattle.calm_laws.proofs.Lists.{every_among, row_key}
use Rattle.calm_laws.proofs.Members.{sync_is}
use Rattle.calm_laws.proofs.Moments.{GoesOn, goes_itself, goes_round_kept}
use Rattle.calm_laws.proofs.Rounds.{delivered_kept, delivered_then}
use Rattle.calm_laws.proofs.Ticks.{over_round}
use Rattle.row_laws.proofs.OrderlyRows.Spans.{world}
use Rattle.rest_laws.proofs.Roles.{roles_do}
use Rattle.calm_laws.specs.Carrying.{IsMember, frame_of}
use Rattle.calm_laws.specs.Rounds.{CalmLeft, after}
use Rattle.commit_graph.specs.Versions.{content_of}
use Rattle.calm_laws.proofs.Convergence.Between.{Base, Course, IsReady, Since}
use Rattle.calm_laws.proofs.Convergence.BetweenLines.{since_line}
use Rattle.calm_laws.proofs.Convergence.Due.{HasIt, IsDueTo}
use Rattle.calm_laws.proofs.Convergence.Late.{between_course, due_first, due_late, rests_begun}
use Rattle.calm_laws.proofs.Convergence.Midst.{Midst, midst_in, past_of_round, pull_in}
use Rattle.calm_laws.proofs.Convergence.PulledEnd.{IsShutAt, free_at_end, pulled_whole}
use Rattle.calm_laws.proofs.Convergence.Reached.{has_or_pulls}
use Rattle.calm_laws.proofs.Convergence.Reaching.{PullsIt, due_rests}
use Rattle.calm_laws.proofs.Convergence.Ready.{adopted_at_end}
use Rattle.calm_laws.proofs.Convergence.Resting.{RestsBy, last_offer}
use Rattle.calm_laws.proofs.Convergence.Starting.{round_ends, within_after}
use Rattle.calm_laws.proofs.Convergence.Vectors.{rising_few}
use Rattle.calm_laws.specs.Convergence.Copies.{HoldsTheOnly, IsOnlyKept}
use Rattle.calm_laws.specs.Convergence.Offers.{Offer, is_above, offer_of}
use Rattle.calm_laws.specs.Convergence.Rounds.{AreCalmRounds, CopiesConverge, IsAtRest, LackedRoom}
use Rattle.run_laws.proofs.Epochs.Run.{run_good}
use Rattle.file_content.specs.Pages.{pages_of}
use Rattle.lawful_trace.specs.Places.{line_at, lines_before}
use Rattle.locus_ids.specs.Sites.{has}
use Rattle.locus_ids.specs.declared.config.Config.{Config}
use Rattle.locus_ids.specs.declared.ids.FileId.{FileId}
use Rattle.locus_ids.specs.declared.ids.Stamp.{Stamp}
use Rattle.locus_ids.specs.declared.sites.Sites.{Sites}
use Rattle.row_laws.proofs.Orderly.Places.{view_eq}
use Rattle.row_laws.proofs.Orderly.Rounds.{ticks_kept}
use Rattle.row_laws.specs.Orderly.Calm.{AreTogether, IsInside}
use Rattle.calm_laws.proofs.Pulls.Ascending.{ascend_kept, first_ascend}
use Rattle.calm_laws.proofs.Pulls.Falling.{past_earlier, stands_later}
use Rattle.store_laws.proofs.OneTree.Run.{run_holds}
use Rattle.store_laws.proofs.OneTree.Staying.{stays}
use Rattle.tree_laws.proofs.Syncs.Versions.{row_size}
use Rattle.calm_laws.specs.Pulls.Pulls.{PullsAscend}
use Rattle.store_laws.specs.OneTree.Places.{InsideFact}
use Rattle.store_laws.specs.OneTree.Rest.{Past}
use Rattle.store_laws.specs.OneTree.Roles.{RolesDo}
use Rattle.row_laws.specs.Voids.{LinesFit}
use Rattle.role_steps.specs.Adoption.{table_group}
use Rattle.role_steps.specs.Pulling.{wanted_pages}
use Rattle.role_steps.specs.Storage.{copy_of}
use Rattle.role_steps.specs.Versions.{row_ino}
use Rattle.role_steps.specs.Views.{SiteView, all_sites}
use Rattle.role_steps.specs.declared.pulls.Pull.{Pull}
use Rattle.role_steps.specs.declared.rounds.InEpoch.{InEpoch}
use Rattle.role_steps.specs.declared.synchronizing.FileRow.{FileRow}
use Rattle.role_steps.specs.declared.synchronizing.SyncTable.{SyncTable}
use Rattle.role_steps.specs.declared.synchronizing.VersionRow.{VersionRow}
use Rattle.schedule_lines.specs.declared.line.Line.TheVariants as line
use Rattle.schedule_lines.specs.declared.line.ScheduleLine.{ScheduleLine}
use Rattle.schedule_lines.specs.declared.line.ScheduleLine.TheVariants.{Event}
use Rattle.the_run.proofs.Runs.{every_run}
use Rattle.the_run.specs.Kept.{Among}
use Rattle.the_run.specs.Runs.{run_in, ticks_to}
use Rattle.the_run.specs.Worlds.{Line, Running, World, place_at}
use Rattle.tree_laws.proofs.Histories.{content_same}
use Rattle.tree_laws.specs.Instances.{Stands}
use Rattle.tree_laws.specs.Packets.{file_in}
use Rattle.tree_laws.specs.Printed.{entries}
use Rattle.tree_laws.specs.Stores.{PullFact}
use Rattle.tree_laws.specs.Tables.{FileFact, TableFact, VersionFact}
use Rattle.tree_model.specs.Files.{HeldVersion}
use Rattle.tree_model.specs.Histories.{history}

settles_there : (lines : List ScheduleLine) (n most : ℕ) → line_at lines n ≡ Event (line.Settle most) → n ≤ length lines
settles_there lines zero most e = omega arith
settles_there lines (suc k) most e = line_there lines k (line.Settle most) e

-- a version that stands keeps its content
contents_later : (c : Config) (new old : List Line) → Past c (new ++ old) → (f : FileId) (v : Stamp) → Stands c old f v → content_of (history c (entries (new ++ old))) f v ≡ content_of (history c (entries old)) f v
contents_later c [] old p f v k = refl
contents_later c (x ∷ xs) old p f v k = content_same c x.number x.told (xs ++ old) f v p.rest.each.0.fresh (stands_later c xs old f v k) ∙ contents_later c xs old (past_earlier c (x ∷ []) (xs ++ old) p) f v k

-- what the synchronization site knows of the only kept version
kept_fact : (c : Config) (e : InEpoch) (w : World) → RoundFacts c w → AreTogether w e → (file : FileId) (v : VersionRow) (set : Sites) → IsOnlyKept c e (place_at w) file v set → VersionFact c w.trace file v
kept_fact c e w facts together file v set h = subst (λ (f : FileId). VersionFact c w.trace f v) is_file (every_among (VersionFact c w.trace (file_in t.group r.ino)) v r.kept (subst (λ (vs : List VersionRow). Among v vs) (sym h.only) (inl refl)) of_row.keeps)
  where
    r : FileRow
    r = h.file_known

    t : SyncTable
    t = h.known.table

    inside : InsideFact c (frame_of c e h.known.css) w.trace h.known.view
    inside = inside_fact c e w h.known.css h.known.view facts.fact together (sync_is c e file.group h.known.css h.known.synced).1 h.known.here

    at_table : Among t h.known.view.tables × (t.group ≡ file.group)
    at_table = row_key table_group file.group h.known.view.tables t h.known.found

    at_row : Among r t.files × (r.ino ≡ file.ino)
    at_row = row_key row_ino file.ino t.files r h.known.is_row

    fact : TableFact c w.trace (frame_of c e h.known.css) t
    fact = every_among (TableFact c w.trace (frame_of c e h.known.css)) t h.known.view.tables at_table.0 inside.tables

    of_row : FileFact c w.trace e.id t.group r
    of_row = every_among (FileFact c w.trace e.id t.group) r t.files at_row.0 fact.rows

    is_file : file_in t.group r.ino ≡ file
    is_file = ap (λ (g : ℕ). file_in g r.ino) at_table.1 ∙ ap (λ (i : ℕ). file_in file.group i) at_row.1

-- ---- where the first round has ended ----

module _ (c : Config) (left : CalmLeft c) (lines : List ScheduleLine) (n m : ℕ) (e : InEpoch) (k l : ℕ) (file : FileId) (v : VersionRow) (set : Sites) (s : ℕ) (rest : IsAtRest c lines n m e k l file v set) (member : IsMember e s) (in_set : has set s ≡ true) where
  abbrev rounds : AreCalmRounds c lines n m e k l
  rounds = rest.rounds

  abbrev first : World
  first = after c lines n k

  abbrev begun : World
  begun = run_in c (lines_before lines m)

  abbrev at : ℕ → World
  at j = after c lines m j

  due : IsDueTo c e first s (last_offer file v)
  due = due_first c left lines n m e k l rounds file v set rest.kept rest.undisturbed.in_second s in_set rest.undisturbed.between member

  ready_first : (z : SiteView) → place_at first s ≡ Some (Running z) → IsReady z file v
  ready_first z here = over (has_or_pulls c lines n e k rounds.first file rest.undisturbed.in_first s member v due)
    where
      free : IsShutAt z file
      free = free_at_end c left lines n e k rounds.first file rest.undisturbed.in_first s member v due z here

      over : HasIt first s (last_offer file v) ⊎ PullsIt first s file v → IsReady z file v
      over (inl h) = inl (ap (λ (y : SiteView). is_above v.vector (copy_of y.store file)) (view_eq (place_at first s) z h.view here h.here) ∙ h.low)
      over (inr p) = (let same : p.view ≡ z = view_eq (place_at first s) p.view z p.here here in
          subst (λ (y : SiteView). IsReady y file v) same (by_above (is_above v.vector (copy_of p.view.store file)) refl))
        where
          by_above : (b : Bool) → is_above v.vector (copy_of p.view.store file) ≡ b → IsReady p.view file v
          by_above false low = inl low
          by_above true above = (let same : p.view ≡ z = view_eq (place_at first s) p.view z p.here here in
              let f : IsShutAt p.view file = subst (λ (y : SiteView). IsShutAt y file) (sym same) free in
              inr (record { pulls = p.pulls; whole = pulled_whole c left lines n e k rounds.first file rest.undisturbed.in_first s member v due p above; closed = f.closed; unmended = f.unmended }))

  -- ---- through the lines between ----

  course : Course c e file v s first.trace begun.trace
  course = between_course c left lines n m e k l rounds file v set rest.kept rest.undisturbed.in_second s in_set rest.undisturbed.between

  fit : LinesFit c lines
  fit = rounds.first.fit

  roles : RolesDo c
  roles = roles_do c rounds.first.groups

  base : Base c (world c lines n)
  base = (run_holds c (take n lines) (take_fit c lines n fit) roles (stays c), (run_good c (take n lines), every_run c PullsAscend (ascend_kept c) (first_ascend c) (take n lines)))

  ends : world c lines n ≡ first
  ends = round_ends c lines n e k rounds.first

  since_first : Since c e file v s member first.trace begun.trace course (world c lines n)
  since_first = record { back = []; since = ap (λ (w : World). w.trace) ends; state = λ ahead goes within u there. ready_first u (ap (λ (w : World). place_at w s) (sym ends) ∙ there) }

  long : n + (m - 1 - n) ≤ length lines
  long = (let low : n < m = rounds.order in let last : m ≤ length lines = settles_there lines m rounds.second.most rounds.second.settles in omega (arith, low, last))

  since_begun : Base c (world c lines (n + (m - 1 - n))) × Since c e file v s member first.trace begun.trace course (world c lines (n + (m - 1 - n)))
  since_begun = since_line c e file v s member first.trace begun.trace course lines fit roles n (m - 1 - n) long (base, since_first)

  is_begun : world c lines (n + (m - 1 - n)) ≡ begun
  is_begun = ap (world c lines) {x = n + (m - 1 - n)} {y = m - 1} (let low : n < m = rounds.order in omega (arith, low))

  within_begun : begun.over ≡ None
  within_begun = ticks_kept c m (λ (z : World). z.over ≡ None → begun.over ≡ None) (over_round c m begun) all_sites begun (λ z. z) (within_after c lines m e l rounds.second 0 (omega arith))

  ready_begun : (i : IsInside begun e s) → IsReady i.view file v
  ready_begun i = (subst (λ (w : World). Since c e file v s member first.trace begun.trace course w) is_begun since_begun.1).state [] refl within_begun i.view i.here

  -- ---- the second round ----

  rests_at_each : (j : ℕ) → j ≤ l → RestsBy c e file v s (at j).trace
  rests_at_each j le = due_rests c e (at j) (round_facts c lines m (at j) (calm_in_round c lines m e l j rounds.second le)) rounds.second.groups (rounds.second.each j le) s file v (due_late c left lines n m e k l rounds file v set rest.kept rest.undisturbed.in_second s in_set j le) (rest.undisturbed.in_second (at j) (inr (j, le, refl)))

  -- what is pulled of it are some of its pages
  few_pages : (j : ℕ) → j ≤ l → (z : SiteView) (p : Pull) → place_at (at j) s ≡ Some (Running z) → Among p z.pulls → offer_of p ≡ last_offer file v → length (wanted_pages p) ≤ pages_of v.size
  few_pages j le z p here a is = subst (λ (i : ℕ). length (wanted_pages p) ≤ pages_of i) size_is (rising_few (wanted_pages p) 0 (pages_of (length f.version.content)) f.rising f.inside)
    where
      k1 : Midst c e (at j)
      k1 = midst_in c lines m e (at j) (calm_in_round c lines m e l j rounds.second le) (rounds.second.each j le)

      f : PullFact c (at j).trace e.id s p
      f = pull_in c e (at j) k1 s z member here p a

      stamp_is : f.version.stamp ≡ v.stamp
      stamp_is = f.stamp_is ∙ ap (λ (o : Offer). o.stamp) is

      file_is : p.file ≡ file
      file_is = ap (λ (o : Offer). o.file) is

      goes : GoesOn (at j) (at l)
      goes = subst (GoesOn (at j)) (sym (ap (λ (i : ℕ). after c lines m i) {x = l} {y = j + (l - j)} (omega (arith, le)) ∙ delivered_then c m j (l - j) (ticks_to c m all_sites begun)))
          (delivered_kept c m (GoesOn (at j)) (goes_round_kept c m (at j)) (l - j) (at j) (goes_itself (at j)))

      here_is : length f.version.content ≡ length (content_of (history c (entries (at j).trace)) file v.stamp)
      here_is = ap (λ (y : HeldVersion). length y.content) f.is_version.same ∙ (ap (λ (g : FileId). length (content_of (history c (entries (at j).trace)) g f.version.stamp)) file_is ∙ ap (λ (g : Stamp). length (content_of (history c (entries (at j).trace)) file g)) stamp_is)

      end_facts : RoundFacts c (at l)
      end_facts = round_facts c lines m (at l) (calm_in_round c lines m e l l rounds.second (omega arith))

      later_is : content_of (history c (entries (at l).trace)) file v.stamp ≡ content_of (history c (entries (at j).trace)) file v.stamp
      later_is = subst (λ (t : List Line). content_of (history c (entries t)) file v.stamp ≡ content_of (history c (entries (at j).trace)) file v.stamp) (sym goes.trace)
          (contents_later c goes.lines (at j).trace (subst (λ (t : List Line). Past c t) goes.trace (past_of_round c (at l) end_facts)) file v.stamp (rests_at_each j le).kept.stands)

      end_fact : VersionFact c (at l).trace file v
      end_fact = kept_fact c e (at l) end_facts (rounds.second.each l (omega arith)) file v set rest.kept

      size_is : length f.version.content ≡ v.size
      size_is = here_is ∙ (ap length (sym later_is) ∙ sym (row_size c (at l).trace file v end_fact))

  pub converges : HoldsTheOnly (place_at (at l)) s file v ⊎ LackedRoom c lines m l s file v
  converges = adopted_at_end c lines m e l rounds.second file v s member few_pages (rests_begun c left lines n m e k l rounds file v set rest.kept rest.undisturbed.in_second s in_set) rests_at_each i (ready_begun i)
    where
      i : IsInside begun e s
      i = rounds.second.first.inside s member

pub converge : (c : Config) → CalmLeft c → CopiesConverge c
converge c left lines n m e k l file v set rest s member in_set = converges c left lines n m e k l file v set s rest member in_set
