-- What is asked of a running instance of a member as its next operation can be done.
use Rattle.std.proofs.Common.{◌≡◌, ℕ, List, Some, refl, sym, ◌∙◌, ap, subst, inl, inr, ◌⊎◌}
use Rattle.role_steps.proofs.of_plain_facts.Options.{some_same}
use Rattle.locus_ids.specs.declared.config.Config.{Config}
use Rattle.schedule_lines.specs.declared.line.ScheduleLine.{ScheduleLine}
use Rattle.trace_book.specs.declared.operation.Op.{Op}
use Rattle.trace_book.specs.declared.operation.Op.TheVariants as op
use Rattle.file_effects.specs.declared.work.Work.{Work}
use Rattle.role_steps.specs.Mends.{mending}
use Rattle.role_steps.specs.OperationEffects.{Mending}
use Rattle.role_steps.specs.Storage.{instance_key, instance_of}
use Rattle.role_steps.specs.Views.{Frame, SiteView, serial_key}
use Rattle.role_steps.specs.declared.instances.Instance.{Instance}
use Rattle.role_steps.specs.declared.instances.Stage.{Stage}
use Rattle.role_steps.specs.declared.instances.Stage.TheVariants as running
use Rattle.role_steps.specs.declared.rounds.InEpoch.{InEpoch}
use Rattle.the_run.specs.Worlds.{World, Running, place_at}
use Rattle.tree_model.specs.declared.instance.Instance.{Instance as Open}
use Rattle.tree_laws.specs.Packets.{OpsNow}
use Rattle.tree_laws.specs.Stores.{InstanceFact, RunsAs, StageFact, WorksAs}
use Rattle.tree_laws.proofs.Grants.{open_named}
use Rattle.store_laws.proofs.Tabled.{row_found}
use Rattle.store_laws.specs.OneTree.Places.{InsideFact}
use Rattle.store_laws.specs.OneTree.Rest.{Past}
use Rattle.row_laws.specs.Orderly.Calm.{AreTogether}
use Rattle.rest_laws.specs.Fits.CalmAskingAsked.{IsDoable}
use Rattle.rest_laws.proofs.Fits.CalmAskingDoing.{doable}
use Rattle.calm_laws.specs.Carrying.{IsMember, frame_of}
use Rattle.calm_laws.specs.Rounds.{IsInRound, IsLawful, OperationsAreLawful}
use Rattle.calm_laws.proofs.CloseAgreed.{past_of}
use Rattle.calm_laws.proofs.Delivered.{inside_fact}
use Rattle.calm_laws.proofs.Facts.{RoundFacts, round_facts}

lawful_of : (m : Mending) (i : Instance) (o : Op) (seen : List ℕ) → IsDoable o seen i.work → IsLawful m i o seen
lawful_of m i op.Commit seen k = k
lawful_of m i op.Abort seen k = tt
lawful_of m i o seen k = k m

pub operations_lawful : (c : Config) (lines : List ScheduleLine) (n : ℕ) (e : InEpoch) (w : World) → IsInRound c lines n w → AreTogether w e → OperationsAreLawful c e w
operations_lawful c lines number e w round together m v member here i found runs n o seen asked next = lawful_of (mending v i.file.group) i o seen (subst (IsDoable o seen) (ap (λ (x : Open). x.work) same ∙ works.1.work_is) (doable c w.trace past e.id m i.inst n o seen asked))
  where
    r : RoundFacts c w
    r = round_facts c lines number w round

    past : Past c w.trace
    past = past_of c w r

    f : Frame
    f = frame_of c e m

    inside : InsideFact c f w.trace v
    inside = inside_fact c e w m v r.fact together member here

    known : InstanceFact c w.trace f i
    known = (row_found instance_key (serial_key i.inst) v.store.instances i (InstanceFact c w.trace f) found inside.store.instances.instances).0

    works : (x : Open) × WorksAs c w.trace f i x
    works = over (subst (StageFact c w.trace f i) runs known.stage).0
      where
        over : RunsAs c w.trace f i → (x : Open) × WorksAs c w.trace f i x
        over (inl k) = k
        over (inr k) = absurd (k.unnamed (open_named c w.trace e.id i.inst asked.at asked.open_at.found))

    same : asked.at ≡ works.0
    same = some_same asked.at works.0 (sym asked.open_at.found ∙ works.1.open_at.found)
