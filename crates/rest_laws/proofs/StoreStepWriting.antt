-- What a storage site's instance owes it may commit: it isn't open only to read, and the counter of its site can rise.
use Rattle.std.proofs.Common.{◌≡◌, Bool, true, false, List, refl, sym, ◌∙◌, ap, inl, inr}
use Rattle.role_steps.proofs.of_plain_facts.Tests.{true_false}
use Rattle.locus_ids.specs.declared.config.Config.{Config}
use Rattle.commit_graph.specs.Grants.{is_read}
use Rattle.file_effects.specs.declared.work.Work.{Work}
use Rattle.role_steps.specs.Views.{Frame, Store}
use Rattle.role_steps.specs.declared.instances.Instance.{Instance}
use Rattle.role_steps.specs.declared.instances.Stage.{Stage}
use Rattle.role_steps.specs.declared.instances.Stage.TheVariants as stage
use Rattle.the_run.specs.Kept.{Among}
use Rattle.the_run.specs.Worlds.{Line}
use Rattle.tree_laws.specs.Doing.{FrameFact, StoreHeld}
use Rattle.tree_laws.specs.Stores.{InstanceFact, RunsAs, StageFact}
use Rattle.tree_laws.proofs.Later.{every_among}
use Rattle.store_laws.specs.Rests.{MayWrite}
use Rattle.store_laws.specs.OneTree.Rest.{Past}
use Rattle.rest_laws.proofs.StoreStepCounters.{unspent}
use Rattle.rest_laws.proofs.StoreStepKnown.{inside_site}
use Rattle.rest_laws.proofs.StoreStepOwing.{reader_clean}

owes_to_write : (c : Config) (t : List Line) → Past c t → (f : Frame) (i : Instance) (at : Stage) → StageFact c t f i at → i.work.owes ≡ true → is_read i.mode ≡ false
owes_to_write c t past f i stage.Running k owes = runs k.0
  where
    test : (b : Bool) → is_read i.mode ≡ b → (is_read i.mode ≡ true → i.work.owes ≡ false) → b ≡ false
    test false e none = refl
    test true e none = absurd (true_false (sym owes ∙ none e))

    runs : RunsAs c t f i → is_read i.mode ≡ false
    runs (inl w) = test (is_read i.mode) refl (λ e. ap (λ (y : Work). y.owes) (sym w.1.work_is) ∙ reader_clean c t past.followed f.epoch i.inst w.0 w.1.open_at.found (ap is_read w.1.mode_is ∙ e))
    runs (inr w) = ap is_read w.mode_is
owes_to_write c t past f i (stage.Closing made a) k owes = absurd (true_false (sym owes ∙ k.1.owes))
owes_to_write c t past f i (stage.Closed a) k owes = absurd (true_false (sym owes ∙ k.1.owes))

pub may_write : (c : Config) (t : List Line) → Past c t → (f : Frame) → FrameFact c t f → (s : Store) → StoreHeld c f t s → (i : Instance) → Among i s.instances → MayWrite f i
may_write c t past f frame s held i among =
    let k : InstanceFact c t f i = every_among (InstanceFact c t f) i s.instances held.instances.instances among in
    record {
      writes = owes_to_write c t past f i i.stage k.stage;
      unspent = unspent c t past.followed past.rest.each f (inside_site c t past.rest.each f.me f.epoch frame.inside).low (inside_site c t past.rest.each f.me f.epoch frame.inside).high i k.vector_is;
    }
