-- In three calm rounds that stand directly one after another: a directory whose only kept version its synchronization site doesn't hold at the
-- end is undisturbed in the last two. No call but a mend runs in these, and a mend begins where that site has the only kept version.
use Rattle.std.proofs.Common.{List, [], arith, inl, inr, subst, sym, true, zero, ℕ, ◌++◌, ◌∷◌, ◌≡◌, ◌≤◌, ◌⊎◌}
use Rattle.calm_laws.proofs.Calm.{calm_in_round}
use Rattle.calm_laws.specs.Rounds.{CalmLeft, IsCalm, IsInRound, after}
use Rattle.calm_laws.proofs.Convergence.DirectoriesBegun.{MayHaveBegun, Since, known_later, since_front}
use Rattle.calm_laws.proofs.Convergence.DirectoriesFirst.{group_started, may_begin}
use Rattle.calm_laws.proofs.Convergence.DirectoriesHeld.{holds_known}
use Rattle.calm_laws.proofs.Convergence.DirectoriesKept.{HasKnown}
use Rattle.calm_laws.proofs.Convergence.DirectoriesLast.{open_known, since_first}
use Rattle.calm_laws.proofs.Convergence.DirectoriesTicks.{closed_between}
use Rattle.calm_laws.proofs.Convergence.DirectoriesTold.{MendsSince, later_mends, mends_itself, mends_then, round_mends}
use Rattle.calm_laws.proofs.Convergence.Starting.{second_begins}
use Rattle.calm_laws.specs.Convergence.Copies.{HoldsTheOnly, Knows, NobodyHasOpen}
use Rattle.calm_laws.specs.Convergence.Directories.{AreThreeRounds}
use Rattle.calm_laws.specs.Convergence.Rounds as rounds
use Rattle.calm_laws.specs.Convergence.Rounds.{AreDirectRounds, IsMoment, IsUndisturbed}
use Rattle.lawful_trace.specs.Places.{lines_before}
use Rattle.locus_ids.specs.declared.config.Config.{Config}
use Rattle.locus_ids.specs.declared.ids.FileId.{FileId}
use Rattle.row_laws.specs.Orderly.Calm.{AreTogether}
use Rattle.role_steps.specs.Mends.{is_dir}
use Rattle.role_steps.specs.declared.rounds.InEpoch.{InEpoch}
use Rattle.role_steps.specs.declared.synchronizing.FileRow.{FileRow}
use Rattle.role_steps.specs.declared.synchronizing.VersionRow.{VersionRow}
use Rattle.schedule_lines.specs.declared.line.ScheduleLine.{ScheduleLine}
use Rattle.the_run.specs.Runs.{run_in}
use Rattle.the_run.specs.Worlds.{Line, World, place_at}

-- a round that stands directly after another one is undisturbed, where nobody has the file open at the end of that one, and in each of its worlds
-- after all ticks
round_undisturbed : (c : Config) (lines : List ScheduleLine) (n m : ℕ) (e : InEpoch) (k l : ℕ) (file : FileId) → AreDirectRounds c lines n m e k l → NobodyHasOpen c e (place_at (after c lines n k)) file → ((i : ℕ) → i ≤ l → NobodyHasOpen c e (place_at (after c lines m i)) file) → IsUndisturbed c lines m e l file
round_undisturbed c lines n m e k l file rounds before each w moment = by_moment moment
  where
    by_moment : IsMoment c lines m l w → NobodyHasOpen c e (place_at w) file
    by_moment (inl (i, is)) = subst (λ (u : World). NobodyHasOpen c e (place_at u) file) (sym is)
        (closed_between c m i e file (run_in c (lines_before lines m)) (subst (λ (u : World). NobodyHasOpen c e (place_at u) file) (sym (second_begins c lines n m e k l rounds)) before) (each zero (omega arith)))
    by_moment (inr (i, le, is)) = subst (λ (u : World). NobodyHasOpen c e (place_at u) file) (sym is) (each i le)

-- since the end of the round before only mends were accepted
mends_after : (c : Config) (lines : List ScheduleLine) (n m : ℕ) (e : InEpoch) (k l : ℕ) → AreDirectRounds c lines n m e k l → (i : ℕ) → MendsSince (after c lines n k) (after c lines m i)
mends_after c lines n m e k l rounds i = subst (λ (u : World). MendsSince u (after c lines m i)) (second_begins c lines n m e k l rounds) (round_mends c lines m rounds.rounds.second.most i rounds.rounds.second.settles)

mends_within : (c : Config) (lines : List ScheduleLine) (n : ℕ) (e : InEpoch) (k : ℕ) → IsCalm c lines n e k → (i : ℕ) → i ≤ k → MendsSince (after c lines n i) (after c lines n k)
mends_within c lines n e k h i le = later_mends c lines n h.most i k h.settles le

module _ (c : Config) (left : CalmLeft c) (lines : List ScheduleLine) (o n m : ℕ) (e : InEpoch) (j k l : ℕ) (file : FileId) (r : FileRow) (v : VersionRow) (three : AreThreeRounds c lines o n m e j k l) (d : Knows c e (place_at (after c lines m l)) file r) (dir : is_dir r.kind ≡ true) (only : r.kept ≡ v ∷ [])
    (none : HoldsTheOnly (place_at (after c lines m l)) d.css file v → ⊥) where
  abbrev first : World
  first = after c lines o j

  abbrev middle : World
  middle = after c lines n k

  abbrev end : World
  end = after c lines m l

  abbrev calm_first : IsCalm c lines o e j
  calm_first = three.first.rounds.first

  abbrev calm_last : IsCalm c lines m e l
  calm_last = three.last.rounds.second

  to_middle : (i : ℕ) → MendsSince first (after c lines n i)
  to_middle i = mends_after c lines o n e j k three.first i

  to_last : (i : ℕ) → MendsSince first (after c lines m i)
  to_last i = mends_then first middle (after c lines m i) (to_middle k) (mends_after c lines n m e k l three.last i)

  since : (g : MendsSince first end) → Since c first.trace e.id file d.css g.lines
  since g = since_first c left lines o m e j l file r calm_first calm_last d dir (group_started c left lines o e j calm_first file d.css d.synced) g

  -- the site doesn't have each known version at the end
  unknown : (g : MendsSince first end) → HasKnown c (g.lines ++ first.trace) e.id file d.css → ⊥
  unknown g known = none (holds_known c left lines m e l calm_last file r d dir v only (subst (λ (t : List Line). HasKnown c t e.id file d.css) (sym g.trace) known))

  fit : MayHaveBegun c first.trace e.id file d.css
  fit = by_case (may_begin c left lines o e j calm_first file d.css d.synced (since_front c first.trace e.id file d.css (to_last l).lines [] (since g)).no_plain)
    where
      g : MendsSince first end
      g = mends_then first first end (mends_itself first) (to_last l)

      by_case : HasKnown c first.trace e.id file d.css ⊎ MayHaveBegun c first.trace e.id file d.css → MayHaveBegun c first.trace e.id file d.css
      by_case (inl known) = absurd (unknown g (known_later c first.trace e.id file d.css (to_last l).lines [] (since g) known))
      by_case (inr f) = f

  -- so nobody has it open in any world between
  closed : (w : World) (p : ℕ) → IsInRound c lines p w → AreTogether w e → MendsSince first w → MendsSince w end → NobodyHasOpen c e (place_at w) file
  closed w p here there g h = open_known c left lines o m e j l file r calm_first calm_last d dir w p here there g h (since (mends_then first w end g h)) fit (unknown (mends_then first w end g h))

  closed_in_middle : (i : ℕ) → i ≤ k → NobodyHasOpen c e (place_at (after c lines n i)) file
  closed_in_middle i le = closed (after c lines n i) n (calm_in_round c lines n e k i three.last.rounds.first le) (three.last.rounds.first.each i le) (to_middle i)
      (mends_then (after c lines n i) middle end (mends_within c lines n e k three.last.rounds.first i le) (mends_after c lines n m e k l three.last l))

  closed_in_last : (i : ℕ) → i ≤ l → NobodyHasOpen c e (place_at (after c lines m i)) file
  closed_in_last i le = closed (after c lines m i) m (calm_in_round c lines m e l i calm_last le) (calm_last.each i le) (to_last i) (mends_within c lines m e l calm_last i le)

  closed_first : NobodyHasOpen c e (place_at first) file
  closed_first = closed first o (calm_in_round c lines o e j j calm_first (omega arith)) (calm_first.each j (omega arith)) (mends_itself first) (to_last l)

  pub undisturbed : IsUndisturbed c lines n e k file × IsUndisturbed c lines m e l file
  undisturbed = (round_undisturbed c lines o n e j k file three.first closed_first closed_in_middle, round_undisturbed c lines n m e k l file three.last (closed_in_middle k (omega arith)) closed_in_last)
