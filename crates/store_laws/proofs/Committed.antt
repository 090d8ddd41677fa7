-- A store whose instance has just been committed: the instance is the tree's but for its stage, and the others are.
use Rattle.std.proofs.Common.{◌≡◌, ℕ, true, false, List, [], ◌∷◌, length, Option, Some, None, refl, sym, ◌∙◌, ap, inl, inr}
use Rattle.locus_ids.specs.declared.config.Config.{Config}
use Rattle.locus_ids.specs.declared.ids.FileId.{FileId}
use Rattle.locus_ids.specs.declared.ids.Mode.{Mode}
use Rattle.locus_ids.specs.declared.ids.Mode.TheVariants as mode
use Rattle.locus_ids.specs.declared.ids.Serial.{Serial}
use Rattle.locus_ids.specs.declared.ids.Stamp.{Stamp}
use Rattle.commit_graph.specs.Grants.{is_read}
use Rattle.trace_book.specs.declared.operation.Outcome.{Outcome as Result}
use Rattle.role_steps.specs.Storage.{commit_record, commit_write, instance_committed, instance_key, instance_of, next_stamp, next_vector, with_instance, with_commit}
use Rattle.role_steps.specs.Views.{Frame, Store, Told, Shown, serial_key}
use Rattle.role_steps.specs.declared.instances.Instance.{Instance}
use Rattle.the_run.specs.Worlds.{Line}
use Rattle.tree_model.specs.declared.instance.Instance.{Instance as Open}
use Rattle.file_effects.specs.declared.work.Work.{Work}
use Rattle.tree_model.specs.Files.{committing}
use Rattle.lawful_trace.specs.Disks.{pages_changed, pages_now}
use Rattle.file_content.specs.Pages.{ascending, pages_of}
use Rattle.tree_laws.specs.Printed.{entries}
use Rattle.tree_laws.specs.Doing.{FrameFact, StoreHeld, WriteFact}
use Rattle.tree_laws.specs.Following.{MayTell, IsFollowed}
use Rattle.tree_laws.specs.Frames.{AllStay}
use Rattle.tree_laws.specs.Past.{WasBegun, WasShut}
use Rattle.tree_laws.specs.Stores.{AnsweredFact, CopiesAreHeld, HoldsMade, InstanceFact, WorksAs}
use Rattle.tree_laws.specs.Orders.Joining.{PacksAreOfSites}
use Rattle.tree_laws.proofs.CarriedSizes.{begun_size_stays}
use Rattle.tree_laws.proofs.Versions.{versions_stay}
use Rattle.store_laws.proofs.Remembering.{steps_committed}
use Rattle.store_laws.specs.Rests.{StoreRests}
use Rattle.store_laws.proofs.Closes.{lies_with}
use Rattle.store_laws.proofs.Commits.{committing_is, copies_now, has_now, joins_now, lies_after, may_commit, others_now}
use Rattle.store_laws.proofs.Shutting.{IsBegunSo, OthersHold}
use Rattle.store_laws.proofs.Tabled.{apart_latest, every_latest, latest_has}

module _ (c : Config) (n : ℕ) (trace : List Line) (few : PacksAreOfSites c) (h : IsFollowed c trace) (rests : StoreRests c trace) (f : Frame) (frame : FrameFact c trace f) (s : Store) (kept : StoreHeld c f trace s) (i : Instance) (k : InstanceFact c trace f i) (x : Open) (w : WorksAs c trace f i x) (unshut : WasShut trace f.me f.epoch i.inst → ⊥) (owes : i.work.owes ≡ true) (writes : is_read i.mode ≡ false) where
  abbrev vector : List ℕ
  vector = next_vector f i

  abbrev stamp : Stamp
  stamp = next_stamp f (next_vector f i)

  abbrev told : Told
  told = Shown (commit_record f i (next_stamp f (next_vector f i)))

  abbrev after : List Line
  after = record { number = n; told = Shown (commit_record f i (next_stamp f (next_vector f i))) } ∷ trace

  abbrev made_instance : Instance
  made_instance = instance_committed i (next_vector f i) (next_stamp f (next_vector f i))

  abbrev disk : Store
  disk = with_commit i (next_vector f i) (next_stamp f (next_vector f i)) s

  abbrev now : Store
  now = with_instance (instance_committed i (next_vector f i) (next_stamp f (next_vector f i))) (with_commit i (next_vector f i) (next_stamp f (next_vector f i)) s)

  pub may : MayTell c trace told
  may = may_commit c n trace few h rests f frame s kept i k x w unshut owes writes

  pub frame_after : FrameFact c after f
  frame_after = record { config_is = frame.config_is; inside = frame.inside; members_are = frame.members_are; up = frame.up; boot_is = frame.boot_is; is_member = frame.is_member }

  module _ (stay : AllStay c trace after told) where
    holds_committed : (m : Mode) → HoldsMade c after f made_instance m
    holds_committed mode.Make = inr (stamp, has_now c n trace few h rests f frame s kept i k x w unshut owes writes)
    holds_committed mode.Read = tt
    holds_committed mode.Write = tt
    holds_committed mode.Resolve = tt
    holds_committed mode.Mend = tt

    answered_committed : (o : Option Result) → AnsweredFact trace f i o → AnsweredFact after f made_instance o
    answered_committed None y = y
    answered_committed (Some r) y = (y.0, inr y.1)

    pub begun_after : IsBegunSo c after f made_instance
    begun_after = record {
      begun = inr k.begun;
      sized = begun_size_stays c n told trace h may (versions_stay c n told trace h may stay.fresh stay.order) f.epoch f.me i.inst i.file i.size k.begun k.sized;
      user = k.user;
      vector_is = joins_now c n trace few h rests f frame s kept i k x w unshut owes writes;
      lies = lies_with c after f i vector (stamp ∷ []) made_instance.work i.answered i.stage i.mode (lies_after c n trace few h rests f frame s kept i k x w unshut owes writes stay);
      holds = holds_committed i.mode;
      answered = answered_committed i.answered k.answered;
    }

    pub others_after : OthersHold c after f made_instance now
    others_after = record {
      copies = record { are = copies.are; ascends = copies.ascends };
      others = every_latest instance_key made_instance (InstanceFact c trace f) (λ (j : Instance). (instance_key j ≡ instance_key made_instance → ⊥) → InstanceFact c after f j) s.instances
          (λ j other y. λ ne. others_now c n trace few h rests f frame s kept i k x w unshut owes writes stay j other y) kept.instances.apart kept.instances.instances (λ ne. absurd (ne refl));
      apart = apart_latest instance_key made_instance s.instances kept.instances.apart;
      has = has_after;
      steps = steps_committed c n trace few h rests f frame s kept i k x w unshut owes writes stay;
    }
      where
        copies : CopiesAreHeld c after f.me disk
        copies = copies_now c n trace few h rests f frame s kept i k x w unshut owes writes stay

        has_after : (j : Serial) (file : FileId) → WasBegun after f.me f.epoch j file → (y : Instance) × (instance_of now j ≡ Some y)
        has_after j file (inl p) = absurd p
        has_after j file (inr p) = latest_has instance_key made_instance (serial_key j) s.instances (kept.instances.has j file p)

    pub unshut_after : WasShut after f.me f.epoch i.inst → ⊥
    unshut_after (inl p) = p
    unshut_after (inr p) = unshut p

    pub written_so : WriteFact c n trace f.me s (commit_write f i vector stamp)
    written_so = record { own = refl; may = may; held = copies_now c n trace few h rests f frame s kept i k x w unshut owes writes stay; pages = changed_pages; now = all_pages }
      where
        changed_pages : ascending i.work.changed ≡ pages_changed (committing c (entries trace) i.file f.me)
        changed_pages = ap (λ (y : Work). ascending y.changed) (sym w.work_is) ∙ ap pages_changed (sym (committing_is c n trace few h rests f frame s kept i k x w unshut owes writes))

        all_pages : pages_of (length i.work.content) ≡ pages_now (committing c (entries trace) i.file f.me)
        all_pages = ap (λ (y : Work). pages_of (length y.content)) (sym w.work_is) ∙ ap pages_now (sym (committing_is c n trace few h rests f frame s kept i k x w unshut owes writes))
