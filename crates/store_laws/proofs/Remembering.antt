-- What a storage site remembers of a version that it commits: the pages that it has changed are all in which the version differs from the
-- one before it.
use Rattle.std.proofs.Common.{◌≡◌, ℕ, ◌<◌, Bool, true, false, ◌||◌, List, [], ◌∷◌, Option, Some, None, refl, sym, ◌∙◌, ap, subst, ◌⊎◌, inl, inr}
use Rattle.std.specs.Prelude.{nat_le}
use Rattle.role_steps.proofs.of_plain_facts.Tests.{and_first}
use Rattle.locus_ids.specs.declared.config.Config.{Config}
use Rattle.locus_ids.specs.declared.ids.FileId.{FileId}
use Rattle.locus_ids.specs.declared.ids.Stamp.{Stamp}
use Rattle.locus_ids.specs.Sizes.{inode_span}
use Rattle.commit_graph.specs.Grants.{is_read}
use Rattle.commit_graph.specs.Versions.{content_of as version_content, is_in, is_version, same_file, same_stamp}
use Rattle.commit_graph.specs.declared.history.Version.{Version}
use Rattle.file_content.specs.Pages.{ascending, placed}
use Rattle.file_effects.specs.declared.work.Work.{Work}
use Rattle.role_steps.specs.Storage.{commit_record, copy_made, copy_of, next_stamp, next_vector, step_to, with_commit}
use Rattle.role_steps.specs.Views.{Frame, Store, Told, Shown}
use Rattle.role_steps.specs.declared.copies.FileCopy.{FileCopy}
use Rattle.role_steps.specs.declared.instances.Instance.{Instance}
use Rattle.the_run.specs.Kept.{Among}
use Rattle.the_run.specs.Worlds.{Line}
use Rattle.tree_model.specs.declared.instance.Instance.{Instance as Open}
use Rattle.tree_model.specs.Histories.{history, held, stamped_content}
use Rattle.tree_laws.specs.Printed.{entries}
use Rattle.tree_laws.specs.Deltas.{AgreeBut, StepFact, StepsFact}
use Rattle.tree_laws.specs.Doing.{FrameFact, StoreHeld}
use Rattle.tree_laws.specs.Following.{IsFollowed}
use Rattle.tree_laws.specs.Frames.{AllStay, VersionsStay}
use Rattle.tree_laws.specs.Instances.{held_in, Stands}
use Rattle.tree_laws.specs.Past.{WasShut}
use Rattle.tree_laws.specs.Stores.{InstanceFact, WorksAs}
use Rattle.tree_laws.proofs.Versions.{versions_stay}
use Rattle.store_laws.specs.Works.Working.{FitsOver}
use Rattle.tree_laws.specs.Orders.Joining.{PacksAreOfSites}
use Rattle.tree_laws.proofs.Orders.Standing.{same_file_eq}
use Rattle.store_laws.specs.Rests.{StoreRests}
use Rattle.store_laws.proofs.Commits.{content_now, may_commit, narrow_now, stands_now}
use Rattle.store_laws.proofs.Differing.{agree_more, agree_working, step_more, steps_stay}
use Rattle.store_laws.proofs.Serving.{IsCopy, copy_is}

-- ---- ascending pages ----

among_own : (page : ℕ) (ps : List ℕ) → Among page (placed page ps)
among_own page [] = inl refl
among_own page (p ∷ ps) = over (nat_le page p) (among_own page ps)
  where
    over : (b : Bool) → Among page (placed page ps) → Among page (elim b [ true ↦ page ∷ p ∷ ps | false ↦ p ∷ placed page ps ])
    over true later = inl refl
    over false later = inr later

among_placed : (x page : ℕ) (ps : List ℕ) → Among x ps → Among x (placed page ps)
among_placed x page [] m = absurd m
among_placed x page (p ∷ ps) m = over (nat_le page p) m (λ k. among_placed x page ps k)
  where
    over : (b : Bool) → (x ≡ p) ⊎ Among x ps → (Among x ps → Among x (placed page ps)) → Among x (elim b [ true ↦ page ∷ p ∷ ps | false ↦ p ∷ placed page ps ])
    over true m later = inr m
    over false (inl e) later = inl e
    over false (inr m) later = inr (later m)

among_ascending : (x : ℕ) (ps : List ℕ) → Among x ps → Among x (ascending ps)
among_ascending x [] m = absurd m
among_ascending x (p ∷ ps) (inl e) = subst (λ (y : ℕ). Among y (placed p (ascending ps))) (sym e) (among_own p (ascending ps))
among_ascending x (p ∷ ps) (inr m) = among_placed x p (ascending ps) (among_ascending x ps m)

-- ---- the step of a commit ----

module _ (c : Config) (n : ℕ) (trace : List Line) (few : PacksAreOfSites c) (h : IsFollowed c trace) (rests : StoreRests c trace) (f : Frame) (frame : FrameFact c trace f) (s : Store) (kept : StoreHeld c f trace s) (i : Instance) (k : InstanceFact c trace f i) (x : Open) (w : WorksAs c trace f i x) (unshut : WasShut trace f.me f.epoch i.inst → ⊥) (owes : i.work.owes ≡ true) (writes : is_read i.mode ≡ false) where
  abbrev stamp : Stamp
  stamp = next_stamp f (next_vector f i)

  abbrev told : Told
  told = Shown (commit_record f i (next_stamp f (next_vector f i)))

  abbrev after : List Line
  after = record { number = n; told = Shown (commit_record f i (next_stamp f (next_vector f i))) } ∷ trace

  abbrev h_before : List Version
  h_before = history c (entries trace)

  -- it works over the version that the site holds
  base_is : (t : Stamp) → held c (entries trace) f.me i.file ≡ Some t → x.work.last ≡ Some t
  base_is t e = (rests.stands f.epoch i.inst x w.open_at.found).last_is ∙ (ap (λ (site : ℕ). held_in c (entries trace) f.epoch site x.grant.file) w.open_at.place
      ∙ (ap (held_in c (entries trace) f.epoch f.me) w.file_is ∙ (rests.inside f.epoch f.me i.file frame.inside ∙ e)))

  fits : (t : Stamp) → held c (entries trace) f.me i.file ≡ Some t → FitsOver (version_content h_before i.file t) i.work.content i.work.changed
  fits t e = subst (λ (y : Work). FitsOver (version_content h_before i.file t) y.content y.changed) w.work_is
      (subst (λ (o : Option Stamp). FitsOver (stamped_content h_before i.file o) x.work.content x.work.changed) (base_is t e)
      (subst (λ (g : FileId). FitsOver (stamped_content h_before g x.work.last) x.work.content x.work.changed) w.file_is (rests.works f.epoch i.inst x w.open_at.found)))

  agree : (t : Stamp) → held c (entries trace) f.me i.file ≡ Some t → AgreeBut (version_content h_before i.file t) i.work.content (ascending i.work.changed)
  agree t e = agree_more (version_content h_before i.file t) i.work.content i.work.changed (ascending i.work.changed) (λ page m. among_ascending page i.work.changed m) (agree_working (version_content h_before i.file t) i.work.content i.work.changed (fits t e).kept)

  module _ (stay : AllStay c trace after told) where
    versions : VersionsStay c trace after
    versions = versions_stay c n told trace h (may_commit c n trace few h rests f frame s kept i k x w unshut owes writes) stay.fresh stay.order

    narrow : i.file.ino < inode_span
    narrow = narrow_now c n trace few h rests f frame s kept i k x w unshut owes writes stay

    step_so : (o : Option FileCopy) → ((y : FileCopy) → o ≡ Some y → IsCopy c trace f.me i.file y) → StepFact c after i.file (step_to (copy_made i (next_vector f i) stamp) (ascending i.work.changed) o)
    step_so None are = stands_now c n trace few h rests f frame s kept i k x w unshut owes writes
    step_so (Some y) are = record {
      earlier_stands = versions.stands i.file y.stamp before;
      later_stands = stands_now c n trace few h rests f frame s kept i k x w unshut owes writes;
      agree = subst (λ (xs : List ℕ). AgreeBut (version_content (history c (entries after)) i.file y.stamp) xs (ascending i.work.changed)) (sym (content_now c n trace few h rests f frame s kept i k x w unshut owes writes))
          (subst (λ (xs : List ℕ). AgreeBut xs i.work.content (ascending i.work.changed)) (sym (versions.contents i.file y.stamp before)) (agree y.stamp ((are y refl).holds ∙ ap Some (sym at))));
    }
      where
        at : y.stamp ≡ (are y refl).stamp
        at = ap (λ (z : FileCopy). z.stamp) (are y refl).same

        before : Stands c trace i.file y.stamp
        before = subst (Stands c trace i.file) (sym at) (are y refl).stands

    -- files that stand then have numbers of 16 bits
    narrow_after : (g : FileId) (t : Stamp) → Stands c after g t → g.ino < inode_span
    narrow_after g t = over (is_version g t made) refl
      where
        made : Version
        made = record { file = i.file; site = f.me; stamp = stamp; parents = i.parents; content = i.work.content }

        over : (b : Bool) → is_version g t made ≡ b → b || is_in h_before g t ≡ true → g.ino < inode_span
        over true e there = subst (λ (y : FileId). y.ino < inode_span) (same_file_eq i.file g (and_first (same_file i.file g) (same_stamp stamp t) e)) narrow
        over false e there = rests.narrow g t there

    pub steps_committed : StepsFact c after (with_commit i (next_vector f i) (next_stamp f (next_vector f i)) s).steps
    steps_committed = step_more c after narrow_after i.file narrow (step_to (copy_made i (next_vector f i) stamp) (ascending i.work.changed) (copy_of s i.file)) (step_so (copy_of s i.file) (λ y e. copy_is c trace h f.me s kept.copies i.file narrow y e)) s.steps
        (steps_stay c trace after versions s.steps kept.instances.steps)
