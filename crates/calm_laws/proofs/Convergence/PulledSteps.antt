-- Of a file that nobody has open what a member waits for, which pulls the only kept version over its copy, is on its way: each packet that
-- comes keeps that.
use Rattle.std.proofs.Common.{Bool, List, None, Option, Some, [], ap, false, inl, inr, refl, subst, sym, true, ℕ, ◌<◌, ◌∙◌, ◌∷◌, ◌≡◌, ◌⊎◌}
use Rattle.std.specs.Option.{is_some, option_map}
use Rattle.calm_laws.proofs.Lists.{row_key}
use Rattle.calm_laws.proofs.Moments.{GoesOn}
use Rattle.rest_laws.proofs.StoreStepKnown.{stands_narrow}
use Rattle.rest_laws.proofs.TableNoting.{ascends_found}
use Rattle.calm_laws.specs.Carrying.{IsMember}
use Rattle.calm_laws.specs.Rounds.{IsInRound}
use Rattle.commit_graph.specs.Versions.{same_stamp}
use Rattle.calm_laws.proofs.Convergence.Midst.{Midst, copy_stays, file_of_key, low_stays, midst_in, pull_in, pull_narrow}
use Rattle.calm_laws.proofs.Convergence.PulledCarried.{IsGoing, stamp_itself}
use Rattle.calm_laws.proofs.Convergence.PulledHeld.{Settled, settled_at}
use Rattle.calm_laws.proofs.Convergence.Resting.{kept_known}
use Rattle.calm_laws.specs.Convergence.Copies.{NobodyHasOpen}
use Rattle.calm_laws.specs.Convergence.Offers.{is_above}
use Rattle.locus_ids.specs.Sizes.{inode_span}
use Rattle.locus_ids.specs.declared.config.Config.{Config}
use Rattle.locus_ids.specs.declared.ids.FileId.{FileId}
use Rattle.locus_ids.specs.declared.ids.Stamp.{Stamp}
use Rattle.row_laws.specs.Orderly.Calm.{AreTogether}
use Rattle.store_laws.proofs.Holdings.Rising.{known_stands}
use Rattle.role_steps.proofs.of_plain_facts.Tests.{true_false}
use Rattle.role_steps.specs.Pulling.{is_over, pull_key, pull_of}
use Rattle.role_steps.specs.Storage.{copy_of}
use Rattle.role_steps.specs.Tables.{row}
use Rattle.role_steps.specs.Versions.{is_below}
use Rattle.role_steps.specs.Views.{SiteView, file_key, packet}
use Rattle.role_steps.specs.declared.copies.FileCopy.{FileCopy}
use Rattle.role_steps.specs.declared.pulls.Pull.{Pull}
use Rattle.role_steps.specs.declared.rounds.InEpoch.{InEpoch}
use Rattle.schedule_lines.specs.declared.line.ScheduleLine.{ScheduleLine}
use Rattle.the_run.specs.Kept.{Among}
use Rattle.the_run.specs.Worlds.{Running, World, place_at}
use Rattle.tree_laws.proofs.Rows.{followed_rows}
use Rattle.tree_laws.specs.Deltas.{BaseFact, PullsOver}
use Rattle.tree_laws.specs.Printed.{entries}
use Rattle.tree_laws.specs.Stores.{PullFact, copy_for}
use Rattle.tree_model.specs.Files.{HeldVersion, held_version}
use Rattle.tree_model.specs.Tree.{kept_in}
use Rattle.wire_messages.specs.declared.body.Body.TheVariants as body

-- ---- a pull over the copy ----

-- the site pulls the only kept version of the file over its copy, which is below it
pub record Pulling (c : Config) (e : InEpoch) (w : World) (s : ℕ) (file : FileId) (y : SiteView) (p : Pull) : Type 0 where
  pub here : place_at w s ≡ Some (Running y)
  pub found : pull_of y.pulls file ≡ Some p
  pub over : is_over (copy_of y.store file) p.base ≡ true
  pub above : is_above p.vector (copy_of y.store file) ≡ true
  pub kept : kept_in c (entries w.trace) e.id file ≡ p.stamp ∷ []

-- what it waits for is on its way
abbrev pub AllGo : Config → InEpoch → World → ℕ → FileId → Type 0
AllGo c e w s file = (y : SiteView) (p : Pull) → Pulling c e w s file y p → IsGoing c e w s p

module _ (c : Config) (e : InEpoch) (w : World) (k : Midst c e w) (s : ℕ) (m : IsMember e s) (file : FileId) (y : SiteView) (p : Pull) (g : Pulling c e w s file y p) where
  pub narrow_file : file.ino < inode_span
  narrow_file = stands_narrow c w.trace k.past.rest.each file p.stamp (known_stands c (entries w.trace) (followed_rows c w.trace k.past.followed) e.id file p.stamp (kept_known c e file p.stamp w.trace g.kept))

  pub pull_there : Among p y.pulls × (pull_key p ≡ file_key file)
  pull_there = row_key pull_key (file_key file) y.pulls p g.found

  pub file_is : p.file ≡ file
  file_is = file_of_key p.file file (pull_narrow c w.trace k.past e.id s p (pull_in c e w k s y m g.here p pull_there.0)) narrow_file pull_there.1

  pub copy_is : copy_of y.store file ≡ option_map (copy_for file) (held_version c (entries w.trace) s file)
  copy_is = (k.site s y m g.here).store.copies.are file narrow_file

  -- where it has no copy it knows which pages
  pub known_alone : p.base ≡ None → is_some p.wanted ≡ true
  known_alone none = by (held_version c (entries w.trace) s file) refl (subst (λ (f : FileId). PullsOver (held_version c (entries w.trace) s f) p fact.version) file_is fact.over)
    where
      fact : PullFact c w.trace e.id s p
      fact = pull_in c e w k s y m g.here p pull_there.0

      by : (h : Option HeldVersion) → held_version c (entries w.trace) s file ≡ h → PullsOver h p fact.version → is_some p.wanted ≡ true
      by None q all = ap is_some (all none)
      by (Some now) q all = absurd (true_false (sym (sym (ap (is_over (copy_of y.store file)) none) ∙ g.over) ∙ ap (λ (o : Option FileCopy). is_over o None) (copy_is ∙ ap (option_map (copy_for file)) q)))

-- ---- before the packet came ----

module _ (c : Config) (lines : List ScheduleLine) (n : ℕ) (e : InEpoch) (w u : World) (goes : GoesOn w u) (round : IsInRound c lines n w) (together : AreTogether w e) (follows : IsInRound c lines n u) (later : AreTogether u e) (file : FileId) (nobody : NobodyHasOpen c e (place_at w) file) (s : ℕ) (m : IsMember e s) (y : SiteView) (p : Pull) (g : Pulling c e u s file y p) (v : SiteView) (here : place_at w s ≡ Some (Running v)) (a : Among p v.pulls) where
  abbrev k : Midst c e w
  k = midst_in c lines n e w round together

  abbrev j : Midst c e u
  j = midst_in c lines n e u follows later

  is_file : p.file ≡ file
  is_file = file_is c e u j s m file y p g

  narrow : file.ino < inode_span
  narrow = narrow_file c e u j s m file y p g

  pub settled : Settled c e w file p.stamp
  settled = settled_at c lines n e w goes.lines u.trace file s v p round together nobody j.past goes.trace m here a is_file g.kept

  fact : PullFact c w.trace e.id s p
  fact = pull_in c e w k s v m here p a

  above : is_above p.vector (copy_of v.store file) ≡ true
  above = over (is_above p.vector (copy_of v.store file)) refl
    where
      over : (b : Bool) → is_above p.vector (copy_of v.store file) ≡ b → is_above p.vector (copy_of v.store file) ≡ true
      over true q = q
      over false q = absurd (true_false (sym g.above ∙ low_stays c e w u goes.lines k j goes.trace s m v y here g.here file narrow p.vector q))

  over_copy : is_over (copy_of v.store file) p.base ≡ true
  over_copy = by p.base refl (subst (λ (f : FileId). BaseFact c w.trace (held_version c (entries w.trace) s f) p p.base) is_file fact.based)
    where
      no_copy : (o : Option FileCopy) → is_over o None ≡ true → o ≡ None
      no_copy None q = refl
      no_copy (Some x) q = absurd (true_false (sym q))

      copy_is : copy_of v.store file ≡ option_map (copy_for file) (held_version c (entries w.trace) s file)
      copy_is = (k.site s v m here).store.copies.are file narrow

      by : (b : Option Stamp) → p.base ≡ b → BaseFact c w.trace (held_version c (entries w.trace) s file) p b → is_over (copy_of v.store file) p.base ≡ true
      by None q h = ap (is_over (copy_of v.store file)) q ∙ ap (λ (o : Option FileCopy). is_over o None)
          (copy_stays c e w u goes.lines k j goes.trace s m v y here g.here file narrow (no_copy (copy_of y.store file) (sym (ap (is_over (copy_of y.store file)) q) ∙ g.over)))
      by (Some base) q h = at h.over
        where
          found : copy_of v.store file ≡ Some (copy_for file h.now)
          found = copy_is ∙ ap (option_map (copy_for file)) h.has

          at : (h.now.stamp ≡ base) ⊎ (is_below h.now.vector p.vector ≡ false) → is_over (copy_of v.store file) p.base ≡ true
          at (inl same) = ap (is_over (copy_of v.store file)) q ∙ (ap (λ (o : Option FileCopy). is_over o (Some base)) found ∙ subst (λ (x : Stamp). same_stamp h.now.stamp x ≡ true) same (stamp_itself h.now.stamp))
          at (inr low) = absurd (true_false (sym above ∙ (ap (is_above p.vector) found ∙ low)))

  pub pulled_before : Pulling c e w s file v p
  pulled_before = record { here = here; found = ap (λ (f : FileId). row pull_key (file_key f) v.pulls) (sym is_file) ∙ ascends_found pull_key v.pulls p (k.ascend s v here) a; over = over_copy; above = above; kept = settled.kept_one }
