-- The close of an instance at its storage site, by its stage and by what it owes.
use Rattle.std.proofs.Common.{◌≡◌, ℕ, ◌≤◌, Bool, true, false, List, [], ◌∷◌, length, Option, Some, None, refl, sym, ◌∙◌, ap, subst, inl, inr}
use Rattle.role_steps.proofs.of_plain_facts.Options.{none_some, some_same}
use Rattle.role_steps.proofs.of_plain_facts.Tests.{true_false}
use Rattle.locus_ids.specs.declared.config.Config.{Config}
use Rattle.locus_ids.specs.declared.ids.EpochId.{EpochId}
use Rattle.locus_ids.specs.declared.ids.Serial.{Serial}
use Rattle.locus_ids.specs.declared.ids.Stamp.{Stamp}
use Rattle.commit_graph.specs.Grants.{is_read}
use Rattle.trace_book.specs.declared.record.Record.TheVariants as says
use Rattle.wire_messages.specs.declared.body.CloseAnswer.TheVariants as closing
use Rattle.role_steps.specs.Reports.{stamp_made}
use Rattle.role_steps.specs.Storage.{closes, closes_owing, commit_record, commits, content_of, copy_key, copy_made, copy_of, instance_committed, instance_key, instance_of, is_spent, made_version, next_stamp, next_vector, on_close, on_close_at, on_close_of, shuts, shuts_again, with_instance, with_commit}
use Rattle.role_steps.specs.Views.{Frame, Store, Told, Shown, Shuts, and_then, joined_to, serial_key, Outcome}
use Rattle.role_steps.specs.declared.instances.Instance.{Instance}
use Rattle.role_steps.specs.declared.instances.Stage.{Stage}
use Rattle.role_steps.specs.declared.instances.Stage.TheVariants as stage
use Rattle.the_run.specs.Kept.{Among}
use Rattle.the_run.specs.Worlds.{Line}
use Rattle.tree_model.specs.declared.instance.Instance.{Instance as Open}
use Rattle.tree_model.specs.Files.{version_of}
use Rattle.tree_model.specs.Tree.{once_committed}
use Rattle.tree_laws.specs.Printed.{entries}
use Rattle.tree_laws.specs.Doing.{FrameFact, StoreFine, StoreHeld}
use Rattle.tree_laws.specs.Following.{MayTell, IsFollowed}
use Rattle.tree_laws.specs.Frames.{AllStay}
use Rattle.locus_ids.specs.declared.refusal.Refusal.TheVariants as refusal
use Rattle.locus_ids.specs.Sizes.{sites_max}
use Rattle.tree_laws.specs.Packets.{CloseFact, ClosesNow, MaybeMade}
use Rattle.tree_laws.specs.Past.{EndRecord, Printed, WasNamed, WasReleased, WasShut}
use Rattle.tree_laws.specs.Stores.{InstanceFact, IsSettled, RunsAs, StageFact, WorksAs}
use Rattle.tree_laws.proofs.Grants.{open_named}
use Rattle.tree_laws.specs.Orders.Joining.{PacksAreOfSites}
use Rattle.store_laws.specs.Rests.{AllStays, MayWrite, StoreRests}
use Rattle.store_laws.proofs.Closes.{closed_sent, done_sent, found_instance}
use Rattle.store_laws.proofs.Committed.{begun_after, frame_after, may, others_after, unshut_after, written_so}
use Rattle.store_laws.proofs.Commits.{content_now, stands_now, works_now, written}
use Rattle.store_laws.proofs.Shutting.{IsBegunSo, IsToEnd, OthersHold, begun_so, made_so, made_stamp, may_shut, nothing_answered, others_hold, shut_sent, shut_view}
use Rattle.store_laws.proofs.Tabled.{latest_same, row_among, row_same}

-- ---- what owes nothing ----

module _ (c : Config) (n : ℕ) (trace : List Line) (few : PacksAreOfSites c) (h : IsFollowed c trace) (rests : StoreRests c trace) (f : Frame) (frame : FrameFact c trace f) (s : Store) (kept : StoreHeld c f trace s) (i : Instance) (k : InstanceFact c trace f i) (x : Open) (w : WorksAs c trace f i x) (settled : IsSettled i) (unshut : WasShut trace f.me f.epoch i.inst → ⊥) (closed : ClosesNow c trace f.epoch f.me i.inst x) where
  ends_nothing : i.work.owes ≡ false → IsToEnd c trace f i x (made_version i (copy_of s i.file) i.work.committed) closing.Nothing
  ends_nothing owes = record {
    works = w;
    closes = closed;
    unshut = unshut;
    owes = owes;
    changed = settled.clean owes;
    made_is = made_stamp i (copy_of s i.file) i.work.committed;
    answer_is = nothing_answered x i.work (stamp_made (made_version i (copy_of s i.file) i.work.committed)) w.work_is owes settled.fresh;
    version = made_so c trace h rests f frame s kept.copies i (begun_so c trace f i k) x w i.work.committed refl;
  }

  closed_clean : i.work.owes ≡ false → AllStays c n trace (shuts f i closing.Nothing s).told → StoreFine c n trace f s (shuts f i closing.Nothing s)
  closed_clean owes stays = record {
    told = (shuts_now, tt);
    own = (refl, tt);
    view = shut_view c n trace few h f frame s i (begun_so c trace f i k) (others_hold c trace f i s kept) x _ closing.Nothing (ends_nothing owes) (stays shuts_now).0;
    sent = shut_sent c n trace few h f frame s i (begun_so c trace f i k) (others_hold c trace f i s kept) x _ closing.Nothing (ends_nothing owes) (stays shuts_now).0;
    written = tt;
  }
    where
      shuts_now : MayTell c trace (Shuts f.me f.epoch i.inst)
      shuts_now = may_shut c n trace few h f frame s i (begun_so c trace f i k) (others_hold c trace f i s kept) x _ closing.Nothing (ends_nothing owes)

  -- ---- what owes a version ----

  module _ (owes : i.work.owes ≡ true) (writes : is_read i.mode ≡ false) where
    abbrev vector : List ℕ
    vector = next_vector f i

    abbrev stamp : Stamp
    stamp = next_stamp f (next_vector f i)

    abbrev told : Told
    told = Shown (commit_record f i (next_stamp f (next_vector f i)))

    abbrev after : List Line
    after = record { number = n; told = Shown (commit_record f i (next_stamp f (next_vector f i))) } ∷ trace

    abbrev made_instance : Instance
    made_instance = instance_committed i (next_vector f i) (next_stamp f (next_vector f i))

    abbrev now : Store
    now = with_instance (instance_committed i (next_vector f i) (next_stamp f (next_vector f i))) (with_commit i (next_vector f i) (next_stamp f (next_vector f i)) s)

    module _ (stay : AllStay c trace after told) where
      made_after : MaybeMade c after f.epoch f.me i.inst (made_version made_instance (copy_of now i.file) (Some stamp))
      made_after = record {
        file = i.file;
        begun = inr k.begun;
        version = version_of c (entries after) i.file stamp;
        is_version = record { stands = stands_now c n trace few h rests f frame s kept i k x w unshut owes writes; same = refl };
        same = λ j. record { stamp = stamp; vector = written c n trace few h rests f frame s kept i k x w unshut owes writes j; size = length (content_so j) };
      }
        where
          content_so : content_of (copy_of now i.file) ≡ (version_of c (entries after) i.file stamp).content
          content_so = ap content_of (row_same copy_key (copy_made i vector stamp) s.copies) ∙ sym (content_now c n trace few h rests f frame s kept i k x w unshut owes writes)

      ends_made : IsToEnd c after f made_instance (once_committed stamp x) (made_version made_instance (copy_of now i.file) (Some stamp)) (closing.Made stamp)
      ends_made = record {
        works = works_now c n trace few h rests f frame s kept i k x w unshut owes writes;
        closes = record {
          call = closed.call;
          owner = closed.owner;
          inside = record { accepted = closed.inside.accepted; named = closed.inside.named; made_in = closed.inside.made_in };
          asks = record { asked = closed.asks.asked; request = closed.asks.request; nothing_waits = closed.asks.nothing_waits };
          open_at = (works_now c n trace few h rests f frame s kept i k x w unshut owes writes).open_at;
        };
        unshut = unshut_after c n trace few h rests f frame s kept i k x w unshut owes writes stay;
        owes = refl;
        changed = refl;
        made_is = refl;
        answer_is = refl;
        version = made_after;
      }

    closed_made : (o : Option Instance) → o ≡ Some made_instance → AllStays c n trace (joined_to (commits f i s) (shuts_again f (closing.Made stamp) o now)).told → StoreFine c n trace f s (joined_to (commits f i s) (shuts_again f (closing.Made stamp) o now))
    closed_made None e stays = absurd (none_some made_instance e)
    closed_made (Some y) e stays = subst (λ (z : Instance). AllStays c n trace (joined_to (commits f i s) (shuts_again f (closing.Made stamp) (Some z) now)).told → StoreFine c n trace f s (joined_to (commits f i s) (shuts_again f (closing.Made stamp) (Some z) now))) (sym (some_same y made_instance e)) closes_it stays
      where
        closes_it : AllStays c n trace (joined_to (commits f i s) (shuts f made_instance (closing.Made stamp) now)).told → StoreFine c n trace f s (joined_to (commits f i s) (shuts f made_instance (closing.Made stamp) now))
        closes_it stays = record {
          told = (first, (second, tt));
          own = (refl, (refl, tt));
          view = shut_view c n after few (first, h) f (frame_after c n trace few h rests f frame s kept i k x w unshut owes writes) now made_instance begun others (once_committed stamp x) _ (closing.Made stamp) (ends_made stay) later;
          sent = shut_sent c n after few (first, h) f (frame_after c n trace few h rests f frame s kept i k x w unshut owes writes) now made_instance begun others (once_committed stamp x) _ (closing.Made stamp) (ends_made stay) later;
          written = written_so c n trace few h rests f frame s kept i k x w unshut owes writes stay;
        }
          where
            first : MayTell c trace told
            first = may c n trace few h rests f frame s kept i k x w unshut owes writes

            stay : AllStay c trace after told
            stay = (stays first).0

            begun : IsBegunSo c after f made_instance
            begun = begun_after c n trace few h rests f frame s kept i k x w unshut owes writes stay

            others : OthersHold c after f made_instance now
            others = others_after c n trace few h rests f frame s kept i k x w unshut owes writes stay

            second : MayTell c after (Shuts f.me f.epoch i.inst)
            second = may_shut c n after few (first, h) f (frame_after c n trace few h rests f frame s kept i k x w unshut owes writes) now made_instance begun others (once_committed stamp x) _ (closing.Made stamp) (ends_made stay)

            later : AllStay c after (record { number = n; told = Shuts f.me f.epoch i.inst } ∷ after) (Shuts f.me f.epoch i.inst)
            later = ((stays first).1 second).0

    closed_owing : (b : Bool) → is_spent f i ≡ b → is_spent f i ≡ false →
        AllStays c n trace (elim b as (λ (z : Bool). Outcome Store) [ true ↦ shuts f i (closing.No refusal.Spent) s | false ↦ and_then (commits f i s) (λ later. shuts_again f (closing.Made (next_stamp f (next_vector f i))) (instance_of later i.inst) later) ]).told →
        StoreFine c n trace f s (elim b as (λ (z : Bool). Outcome Store) [ true ↦ shuts f i (closing.No refusal.Spent) s | false ↦ and_then (commits f i s) (λ later. shuts_again f (closing.Made (next_stamp f (next_vector f i))) (instance_of later i.inst) later) ])
    closed_owing true e unspent stays = absurd (true_false (sym e ∙ unspent))
    closed_owing false e unspent stays = closed_made (instance_of now i.inst) (latest_same instance_key made_instance s.instances) stays

  -- what runs is closed
  closed_running : (b : Bool) → i.work.owes ≡ b → MayWrite f i → AllStays c n trace (elim b as (λ (z : Bool). Outcome Store) [ true ↦ closes_owing f i s | false ↦ shuts f i closing.Nothing s ]).told → StoreFine c n trace f s (elim b as (λ (z : Bool). Outcome Store) [ true ↦ closes_owing f i s | false ↦ shuts f i closing.Nothing s ])
  closed_running true e m stays = closed_owing e (m.writes e) (is_spent f i) refl m.unspent stays
  closed_running false e m stays = closed_clean e stays

-- ---- by its stage ----

-- what was released was named
released_named : (c : Config) (trace : List Line) → IsFollowed c trace → (e : EpochId) (i : Serial) → WasReleased trace e i → WasNamed trace e i
released_named c [] h e i r = absurd r
released_named c (y ∷ older) h e i (inr r) = inr (released_named c older h.1 e i r)
released_named c (y ∷ older) h e i (inl r) = inr (now y.told h.0 r)
  where
    now : (z : Told) → MayTell c older z → Printed (EndRecord e i) older z → WasNamed older e i
    now (Shown (says.Release at inst file last)) m p = subst (λ (j : Serial). WasNamed older e j) p.serial_is (subst (λ (y : EpochId). WasNamed older y inst) p.epoch_is (open_named c older at inst m.in_time.at m.in_time.open_at.found))
    now _ m p = absurd p

module _ (c : Config) (n : ℕ) (trace : List Line) (few : PacksAreOfSites c) (h : IsFollowed c trace) (rests : StoreRests c trace) (f : Frame) (frame : FrameFact c trace f) (s : Store) (kept : StoreHeld c f trace s) (i : Instance) (k : InstanceFact c trace f i) (ready : MayWrite f i) where
  -- the instance that its call closes runs as the tree's
  closing_runs : RunsAs c trace f i → IsSettled i → (WasShut trace f.me f.epoch i.inst → ⊥) → CloseFact c trace f.epoch f.me i.inst → AllStays c n trace (closes f i s).told → StoreFine c n trace f s (closes f i s)
  closing_runs (inl w) settled unshut (inl r) stays = absurd (rests.released f.epoch i.inst w.0 r w.1.open_at.found)
  closing_runs (inr w) settled unshut (inl r) stays = absurd (w.unnamed (released_named c trace h f.epoch i.inst r))
  closing_runs (inr w) settled unshut (inr k2) stays = absurd (w.unnamed (open_named c trace f.epoch i.inst k2.0 k2.1.open_at.found))
  closing_runs (inl w) settled unshut (inr k2) stays = closed_running c n trace few h rests f frame s kept i k w.0 w.1 settled unshut
      (subst (λ (y : Open). ClosesNow c trace f.epoch f.me i.inst y) (some_same k2.0 w.0 (sym k2.1.open_at.found ∙ w.1.open_at.found)) k2.1) i.work.owes refl ready stays

  closing_at : (t : Stage) → StageFact c trace f i t → CloseFact c trace f.epoch f.me i.inst → AllStays c n trace (on_close_at f i t s).told → StoreFine c n trace f s (on_close_at f i t s)
  closing_at stage.Running fact close stays = closing_runs fact.0 fact.1 fact.2 close stays
  closing_at (stage.Closing made a) fact close stays = record { told = tt; own = tt; view = kept; sent = closed_sent c trace f i made a fact.0; written = tt }
  closing_at (stage.Closed a) fact close stays = record { told = tt; own = tt; view = kept; sent = done_sent c trace f i a fact.0.0 fact.0.1; written = tt }

pub close_fine : (c : Config) (n : ℕ) (trace : List Line) → PacksAreOfSites c → IsFollowed c trace → StoreRests c trace → (f : Frame) → FrameFact c trace f → (s : Store) → StoreHeld c f trace s → ((i : Instance) → Among i s.instances → MayWrite f i) → (inst : Serial) → inst.us ≤ sites_max → CloseFact c trace f.epoch f.me inst →
    AllStays c n trace (on_close f inst s).told → StoreFine c n trace f s (on_close f inst s)
close_fine c n trace few h rests f frame s kept ready inst low close stays = over (instance_of s inst) refl stays
  where
    over : (o : Option Instance) → instance_of s inst ≡ o → AllStays c n trace (on_close_of f o s).told → StoreFine c n trace f s (on_close_of f o s)
    over None e stays = record { told = tt; own = tt; view = kept; sent = tt; written = tt }
    over (Some i) e stays = (let k : InstanceFact c trace f i × (i.inst ≡ inst) = found_instance c trace f s kept inst low i e in
        closing_at c n trace few h rests f frame s kept i k.0 (ready i (row_among instance_key (serial_key inst) s.instances i e)) i.stage k.0.stage (subst (λ (j : Serial). CloseFact c trace f.epoch f.me j) (sym k.1) close) stays)
