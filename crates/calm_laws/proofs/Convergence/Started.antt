-- Once a calm round has ended, each group that a member synchronizes has started: nothing of the group is under way any more, so all of
-- its members have reported. And in the epoch a group that has started stays so.
use Rattle.std.proofs.Common.{Bool, List, Some, [], ap, arith, false, inl, inr, map, refl, subst, sym, true, ℕ, ◌&&◌, ◌++◌, ◌∙◌, ◌∷◌, ◌≡◌, ◌≤◌, ◌⊎◌}
use Rattle.calm_laws.proofs.Calm.{calm_in_round, round_carries}
use Rattle.calm_laws.proofs.Delivered.{inside_fact}
use Rattle.calm_laws.proofs.Facts.{round_facts}
use Rattle.calm_laws.proofs.Lists.{all_pass, every_among, row_key}
use Rattle.calm_laws.proofs.Members.{member_of, nothing_goes}
use Rattle.calm_laws.proofs.Moments.{GoesOn, goes_itself, goes_round_kept}
use Rattle.calm_laws.proofs.Rounds.{delivered_kept}
use Rattle.calm_laws.proofs.StartsRun.{groups_start}
use Rattle.calm_laws.specs.Calming.{StartsInTime}
use Rattle.calm_laws.specs.Carrying.{HasReported, IsMember, Reports, frame_of}
use Rattle.calm_laws.specs.Rounds.{CalmLeft, IsCalm, IsInRound, after}
use Rattle.calm_laws.proofs.Convergence.Starting.{second_begins}
use Rattle.calm_laws.specs.Convergence.Converging.{GroupsHaveStarted}
use Rattle.calm_laws.specs.Convergence.Rounds.{AreDirectRounds}
use Rattle.lawful_trace.specs.Places.{lines_before}
use Rattle.locus_ids.specs.Sites.{has}
use Rattle.locus_ids.specs.declared.config.Config.{Config}
use Rattle.locus_ids.specs.declared.ids.EpochId.{EpochId}
use Rattle.row_laws.proofs.Orderly.Places.{view_eq}
use Rattle.row_laws.proofs.Orderly.Rounds.{ticks_kept}
use Rattle.row_laws.specs.Orderly.Calm.{AreTogether, IsInside}
use Rattle.store_laws.proofs.OneTree.Parts.{synced_one}
use Rattle.store_laws.proofs.OneTree.Rising.{among_map}
use Rattle.store_laws.proofs.OneTree.UserStepGroups.{among_row}
use Rattle.store_laws.specs.OneTree.Places.{InsideFact}
use Rattle.role_steps.proofs.of_plain_facts.Numbers.{same}
use Rattle.role_steps.proofs.of_plain_facts.Tests.{both_true, true_false}
use Rattle.role_steps.specs.Adoption.{table_group}
use Rattle.role_steps.specs.Epochs.{frame_in}
use Rattle.role_steps.specs.Reports.{have_all_reported}
use Rattle.role_steps.specs.Tables.{row}
use Rattle.role_steps.specs.Views.{SiteView, all_sites, is_member, pack_sites, sync_site}
use Rattle.role_steps.specs.declared.rounds.InEpoch.{InEpoch}
use Rattle.role_steps.specs.declared.synchronizing.SyncTable.{SyncTable}
use Rattle.schedule_lines.specs.declared.line.ScheduleLine.{ScheduleLine}
use Rattle.the_run.specs.Kept.{Among}
use Rattle.the_run.specs.Runs.{run_in, ticks_to}
use Rattle.the_run.specs.Worlds.{Line, Running, World, place_at}
use Rattle.tree_laws.proofs.Kinship.{started_stays}
use Rattle.tree_laws.specs.Instances.{IsStarted}
use Rattle.tree_laws.specs.Printed.{entries}
use Rattle.tree_laws.specs.Tables.{TableFact}
use Rattle.tree_model.specs.Tree.{tree_of}
use Rattle.wire_messages.specs.declared.body.Body.TheVariants as body

-- ---- the end of a calm round ----

-- the table that a member has is that of a group which it synchronizes
record Synced (c : Config) (e : InEpoch) (w : World) (s group : ℕ) (t : SyncTable) : Type 0 where
  synced : sync_site c e.members group ≡ Some s
  fact : TableFact c w.trace (frame_of c e s) t
  is_group : t.group ≡ group

is_synced : (c : Config) (lines : List ScheduleLine) (n : ℕ) (e : InEpoch) (w : World) → IsInRound c lines n w → AreTogether w e → (s group : ℕ) (v : SiteView) (t : SyncTable) → IsMember e s → place_at w s ≡ Some (Running v) → row table_group group v.tables ≡ Some t → Synced c e w s group t
is_synced c lines n e w round together s group v t m here found =
    let a : Among t v.tables × (t.group ≡ group) = row_key table_group group v.tables t found in
    let i : InsideFact c (frame_of c e s) w.trace v = inside_fact c e w s v (round_facts c lines n w round).fact together m here in
    record {
      synced = subst (λ (g : ℕ). sync_site c e.members g ≡ Some s) a.1 (synced_one (frame_of c e s) v.tables i.groups t a.0);
      fact = every_among (TableFact c w.trace (frame_of c e s)) t v.tables a.0 i.tables;
      is_group = a.1;
    }

-- where nothing comes any more and all is carried, each group has started
pub all_started : (c : Config) (lines : List ScheduleLine) (n : ℕ) (e : InEpoch) (k : ℕ) → CalmLeft c → IsCalm c lines n e k → GroupsHaveStarted e (place_at (after c lines n k))
all_started c lines n e k left calm s group v t m here found = by_started t.started refl
  where
    w : World
    w = after c lines n k

    round : IsInRound c lines n w
    round = calm_in_round c lines n e k k calm (omega arith)

    together : AreTogether w e
    together = calm.each k (omega arith)

    z : Synced c e w s group t
    z = is_synced c lines n e w round together s group v t m here found

    inside : IsInside w e s
    inside = together.inside s m

    is_view : inside.view ≡ v
    is_view = view_eq (place_at w s) inside.view v inside.here here

    reported : (i : ℕ) → IsMember e i → has (pack_sites c group) i ≡ true → HasReported (place_at w) s group i
    reported i q packed = by_case ((round_carries c left lines n e k k calm (omega arith)).reports group s i z.synced q packed)
      where
        by_case : HasReported (place_at w) s group i ⊎ Reports c e w.underway s group i → HasReported (place_at w) s group i
        by_case (inl r) = r
        by_case (inr r) = absurd (nothing_goes c e w i s (body.Report group r.copies) r.letter together calm.reach calm.within calm.ended r.there r.goes)

    counted : (i : ℕ) → IsMember e i → has (pack_sites c group) i ≡ true → has t.reported i ≡ true
    counted i n packed =
        let r : HasReported (place_at w) s group i = reported i n packed in
        let eq : r.view ≡ v = view_eq (place_at w s) r.view v r.here here in
        ap (λ (y : SyncTable). has y.reported i) (same_some t r.table (sym found ∙ (ap (λ (y : SiteView). row table_group group y.tables) (sym eq) ∙ r.found))) ∙ r.reported
      where
        same_some : (x y : SyncTable) → Some x ≡ Some y → x ≡ y
        same_some x y q = cc

    all : have_all_reported (frame_of c e s) t ≡ true
    all = all_pass (has t.reported) (λ i. has (pack_sites c t.group) i && is_member e.members i) all_sites
        (λ i q. (let b : (has (pack_sites c t.group) i ≡ true) × (is_member e.members i ≡ true) = both_true (has (pack_sites c t.group) i) (is_member e.members i) q in counted i (member_of e i b.1) (subst (λ (g : ℕ). has (pack_sites c g) i ≡ true) z.is_group b.0)))

    lacks : t.started ≡ false → have_all_reported (frame_of c e s) t ≡ false
    lacks = subst (λ (b : ℕ). StartsInTime (frame_in c s b e) t) (ap (λ (y : SiteView). y.boot) (sym is_view) ∙ inside.boot)
        (every_among (StartsInTime (frame_in c s v.boot e)) t v.tables (row_key table_group group v.tables t found).0 (groups_start c lines n w round s v e here (ap (λ (y : SiteView). y.epoch) (sym is_view) ∙ inside.epoch)))

    by_started : (b : Bool) → t.started ≡ b → t.started ≡ true
    by_started true q = q
    by_started false q = absurd (true_false (sym all ∙ lacks q))

-- ---- a group that has started stays so ----

starts_stay : (c : Config) (new old : List Line) (e : EpochId) (g : ℕ) → IsStarted c old e g → IsStarted c (new ++ old) e g
starts_stay c [] old e g h = h
starts_stay c (x ∷ xs) old e g h = started_stays c x.number x.told (xs ++ old) e g (starts_stay c xs old e g h)

-- a table of the same group was there before
table_before : (v u : SiteView) (group : ℕ) (t : SyncTable) → map table_group v.tables ≡ map table_group u.tables → row table_group group u.tables ≡ Some t → (b : SyncTable) × (row table_group group v.tables ≡ Some b)
table_before v u group t same found =
    let a : Among t u.tables × (t.group ≡ group) = row_key table_group group u.tables t found in
    among_row table_group group v.tables (subst (λ (gs : List ℕ). Among group gs) (sym same) (subst (λ (g : ℕ). Among g (map table_group u.tables)) a.1 (among_map table_group t u.tables a.0)))

-- so the groups of members have started in each later world of a round
pub still_started : (c : Config) (e : InEpoch) (lines : List ScheduleLine) (n m : ℕ) (w u : World) → IsInRound c lines n w → AreTogether w e → IsInRound c lines m u → AreTogether u e → (more : List Line) → u.trace ≡ more ++ w.trace → GroupsHaveStarted e (place_at w) → GroupsHaveStarted e (place_at u)
still_started c e lines n m w u round together round_u together_u more goes old s group v t k here found = z.fact.started ∙ in_tree
  where
    z : Synced c e u s group t
    z = is_synced c lines m e u round_u together_u s group v t k here found

    i : IsInside w e s
    i = together.inside s k

    theirs : InsideFact c (frame_of c e s) u.trace v
    theirs = inside_fact c e u s v (round_facts c lines m u round_u).fact together_u k here

    mine : InsideFact c (frame_of c e s) w.trace i.view
    mine = inside_fact c e w s i.view (round_facts c lines n w round).fact together k i.here

    b : (x : SyncTable) × (row table_group group i.view.tables ≡ Some x)
    b = table_before i.view v group t (mine.groups ∙ sym theirs.groups) found

    y : Synced c e w s group b.0
    y = is_synced c lines n e w round together s group i.view b.0 k i.here b.1

    was : IsStarted c w.trace e.id group
    was = subst (λ (g : ℕ). IsStarted c w.trace e.id g) y.is_group (sym y.fact.started ∙ old s group i.view b.0 k i.here b.1)

    in_tree : (tree_of c e.id t.group (entries u.trace)).started ≡ true
    in_tree = subst (λ (g : ℕ). IsStarted c u.trace e.id g) (sym z.is_group) (subst (λ (l : List Line). IsStarted c l e.id group) (sym goes) (starts_stay c more w.trace e.id group was))

-- ---- two rounds ----

-- the second round goes on from the end of the first
pub rounds_go_on : (c : Config) (lines : List ScheduleLine) (n m : ℕ) (e : InEpoch) (k l : ℕ) → AreDirectRounds c lines n m e k l → (j : ℕ) → GoesOn (after c lines n k) (after c lines m j)
rounds_go_on c lines n m e k l h j = subst (λ (w : World). GoesOn w (after c lines m j)) (second_begins c lines n m e k l h) goes_on
  where
    from : World
    from = run_in c (lines_before lines m)

    goes_on : GoesOn from (after c lines m j)
    goes_on = delivered_kept c m (GoesOn from) (goes_round_kept c m from) j (ticks_to c m all_sites from) (ticks_kept c m (GoesOn from) (goes_round_kept c m from) all_sites from (goes_itself from))

pub started : (c : Config) → CalmLeft c → (lines : List ScheduleLine) (n m : ℕ) (e : InEpoch) (k l j : ℕ) → AreDirectRounds c lines n m e k l → j ≤ l → GroupsHaveStarted e (place_at (after c lines m j))
started c left lines n m e k l j h le =
    still_started c e lines n m (after c lines n k) (after c lines m j) (calm_in_round c lines n e k k h.rounds.first (omega arith)) (h.rounds.first.each k (omega arith)) (calm_in_round c lines m e l j h.rounds.second le) (h.rounds.second.each j le) (rounds_go_on c lines n m e k l h j).lines (rounds_go_on c lines n m e k l h j).trace
    (all_started c lines n e k left h.rounds.first)
