-- An instance that this site has begun to close ends as it was to end: nothing is done with it until it is released, and then with
-- that version and that answer.
use Rattle.std.proofs.Common.{◌≡◌, ℕ, true, List, Option, Some, sym, ◌∙◌, ap, subst, ◌⊎◌, inl, inr}
use Rattle.role_steps.proofs.of_plain_facts.Tests.{true_false}
use Rattle.locus_ids.specs.declared.config.Config.{Config}
use Rattle.locus_ids.specs.declared.ids.EpochId.{EpochId}
use Rattle.locus_ids.specs.declared.ids.Serial.{Serial}
use Rattle.locus_ids.specs.declared.ids.Stamp.{Stamp}
use Rattle.trace_book.specs.declared.record.Record.{Record}
use Rattle.trace_book.specs.declared.record.Record.TheVariants as says
use Rattle.wire_messages.specs.declared.body.CloseAnswer.{CloseAnswer}
use Rattle.wire_messages.specs.declared.body.MadeVersion.{MadeVersion}
use Rattle.file_effects.specs.declared.work.Work.{Work}
use Rattle.role_steps.specs.Reports.{stamp_made}
use Rattle.role_steps.specs.Using.{close_answer}
use Rattle.role_steps.specs.Views.{Frame, Told, Shown}
use Rattle.role_steps.specs.declared.instances.Instance.{Instance}
use Rattle.the_run.specs.Worlds.{Line}
use Rattle.tree_model.specs.declared.instance.Instance.{Instance as Open}
use Rattle.tree_model.specs.Given.{gives_release}
use Rattle.tree_model.specs.Histories.{history}
use Rattle.tree_model.specs.State.{instance_in}
use Rattle.tree_model.specs.Tree.{tree_of}
use Rattle.lawful_trace.specs.Progress.{close_answer as answer_of_close}
use Rattle.lawful_trace.specs.TreeRows.{granted_group}
use Rattle.tree_laws.specs.Printed.{entries}
use Rattle.tree_laws.specs.Following.{MayTell, IsFollowed}
use Rattle.tree_laws.specs.Frames.{CommitsTold, OwnersStay, VersionsStay}
use Rattle.tree_laws.specs.Past.{ReleaseRecord, WasReleasedWith}
use Rattle.tree_laws.specs.Stores.{EndsAs, ClosesAs}
use Rattle.tree_laws.proofs.CarriedCloses.{StaysClosing, closing_stays, released_last}
use Rattle.tree_laws.proofs.CarriedLooks.{More}
use Rattle.tree_laws.proofs.CarriedVersions.{maybe_stays}
use Rattle.tree_laws.proofs.Kinship.{Ends}
use Rattle.tree_laws.proofs.Opened.{EndsIt}
use Rattle.tree_laws.proofs.Owing.{commits_owe}

-- what a close is answered hangs on the work alone
answer_by_work : (stamp : Option Stamp) (x y : Open) → x.work ≡ y.work → answer_of_close stamp (Some x) ≡ answer_of_close stamp (Some y)
answer_by_work stamp x y e = ap (λ (w : Work). answer_of_close stamp (Some (record { grant = y.grant; work = w }))) e

-- it is released as it was to end
released_so : (c : Config) (older : List Line) (f : Frame) (i : Instance) (made : Option MadeVersion) (a : CloseAnswer) → EndsAs c older f i made a → (r : Record) → MayTell c older (Shown r) → EndsIt f.epoch i.inst r → ReleaseRecord c f.epoch i.inst (stamp_made made) (close_answer a) older r
released_so c older f i made a k (says.Release at inst file stamp) may end = record { epoch_is = end.0; serial_is = end.1; stamp_is = stamp_is; answer_is = answer_is }
  where
    gives : gives_release (history c (entries older)) (tree_of c f.epoch file.group (entries older)) i.inst file stamp ≡ true
    gives = subst (λ (j : Serial). gives_release (history c (entries older)) (tree_of c f.epoch file.group (entries older)) j file stamp ≡ true) end.1 (subst (λ (y : EpochId). gives_release (history c (entries older)) (tree_of c y file.group (entries older)) inst file stamp ≡ true) end.0 may.row.gives)

    group : granted_group (entries older) f.epoch i.inst ≡ file.group
    group = subst (λ (j : Serial). granted_group (entries older) f.epoch j ≡ file.group) end.1 (subst (λ (y : EpochId). granted_group (entries older) y inst ≡ file.group) end.0 may.in_time.group_is)

    found : instance_in (tree_of c f.epoch file.group (entries older)) i.inst ≡ Some k.now.at
    found = subst (λ (g : ℕ). instance_in (tree_of c f.epoch g (entries older)) i.inst ≡ Some k.now.at) group k.now.closes.open_at.found

    stamp_is : stamp ≡ stamp_made made
    stamp_is = released_last (history c (entries older)) (tree_of c f.epoch file.group (entries older)) i.inst file stamp k.now.at found gives ∙ k.now.committed

    answer_is : answer_of_close stamp (instance_in (tree_of c f.epoch file.group (entries older)) inst) ≡ close_answer a
    answer_is = ap (λ (j : Serial). answer_of_close stamp (instance_in (tree_of c f.epoch file.group (entries older)) j)) end.1 ∙ (ap (answer_of_close stamp) found ∙ (ap (λ (s : Option Stamp). answer_of_close s (Some k.now.at)) stamp_is ∙ k.answer_is))
released_so c older f i made a k _ may end = absurd end

released_told : (c : Config) (n : ℕ) (older : List Line) (f : Frame) (i : Instance) (made : Option MadeVersion) (a : CloseAnswer) → EndsAs c older f i made a → (z : Told) → MayTell c older z → Ends f.epoch i.inst z → WasReleasedWith c (More n z older) f.epoch i.inst (stamp_made made) (close_answer a)
released_told c n older f i made a k (Shown r) may end = inl (released_so c older f i made a k r may end)
released_told c n older f i made a k _ may end = absurd end

pub ends_stay : (c : Config) (n : ℕ) (x : Told) (older : List Line) → IsFollowed c older → MayTell c older x → OwnersStay c older (More n x older) → (f : Frame) (i : Instance) (made : Option MadeVersion) (a : CloseAnswer) → EndsAs c older f i made a →
    WasReleasedWith c (More n x older) f.epoch i.inst (stamp_made made) (close_answer a) ⊎ EndsAs c (More n x older) f i made a
ends_stay c n x older h may owners f i made a k = over (closing_stays c n x older h may owners f.epoch f.me i.inst k.now.at k.now.closes)
  where
    owed : CommitsTold c older f.epoch i.inst k.now.at x → ⊥
    owed t = true_false (sym ((commits_owe c older x may).owes f.epoch i.inst k.now.at k.now.closes.open_at.found t) ∙ k.now.owes)

    kept : (s : StaysClosing c n x older f.epoch f.me i.inst k.now.at) → (s.new.work ≡ k.now.at.work) ⊎ CommitsTold c older f.epoch i.inst k.now.at x → EndsAs c (More n x older) f i made a
    kept s (inl same) = record {
      now = record { at = s.new; closes = s.closes; shut = inr k.now.shut; owes = ap (λ (w : Work). w.owes) same ∙ k.now.owes; committed = ap (λ (w : Work). w.committed) same ∙ k.now.committed };
      answer_is = answer_by_work (stamp_made made) s.new k.now.at same ∙ k.answer_is;
      unchanged = ap (λ (w : Work). w.changed) same ∙ k.unchanged;
    }
    kept s (inr t) = absurd (owed t)

    over : StaysClosing c n x older f.epoch f.me i.inst k.now.at ⊎ Ends f.epoch i.inst x → WasReleasedWith c (More n x older) f.epoch i.inst (stamp_made made) (close_answer a) ⊎ EndsAs c (More n x older) f i made a
    over (inl s) = inr (kept s s.work)
    over (inr end) = inl (released_told c n older f i made a k x may end)

pub closes_stay : (c : Config) (n : ℕ) (x : Told) (older : List Line) → IsFollowed c older → MayTell c older x → OwnersStay c older (More n x older) → VersionsStay c older (More n x older) → (f : Frame) (i : Instance) (made : Option MadeVersion) (a : CloseAnswer) → ClosesAs c older f i made a → ClosesAs c (More n x older) f i made a
closes_stay c n x older h may owners v f i made a k = record { ends = over k.ends; version = maybe_stays c n x older v f.epoch f.me i.inst made k.version }
  where
    over : WasReleasedWith c older f.epoch i.inst (stamp_made made) (close_answer a) ⊎ EndsAs c older f i made a → WasReleasedWith c (More n x older) f.epoch i.inst (stamp_made made) (close_answer a) ⊎ EndsAs c (More n x older) f i made a
    over (inl r) = inl (inr r)
    over (inr e) = ends_stay c n x older h may owners f i made a e
