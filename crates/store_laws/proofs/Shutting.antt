-- The close of an instance at its storage site: what it owes is committed first; then it is shut, and the synchronization site is told
-- what it made.
use Rattle.std.proofs.Common.{◌≡◌, ℕ, ◌≤◌, Bool, true, false, cond, ◌&&◌, List, [], ◌∷◌, length, max, Option, Some, None, refl, sym, ◌∙◌, ap, subst, arith, inl, inr}
use Rattle.std.specs.Option.{is_none, option_map}
use Rattle.std.proofs.lemmas.Bool.Decides.{nat_tests}
use Rattle.role_steps.proofs.of_plain_facts.Tests.{true_false}
use Rattle.locus_ids.specs.declared.config.Config.{Config}
use Rattle.locus_ids.specs.declared.ids.FileId.{FileId}
use Rattle.locus_ids.specs.declared.ids.Mode.{Mode}
use Rattle.locus_ids.specs.declared.ids.Mode.TheVariants as mode
use Rattle.locus_ids.specs.declared.ids.Serial.{Serial}
use Rattle.locus_ids.specs.declared.ids.Stamp.{Stamp}
use Rattle.version_vector.specs.Counters.{part}
use Rattle.commit_graph.specs.Vectors.{vector_of}
use Rattle.trace_book.specs.declared.operation.Outcome.{Outcome}
use Rattle.call_rules.specs.declared.answer.Answer.TheVariants as answer
use Rattle.locus_ids.specs.declared.refusal.Refusal.TheVariants as refusal
use Rattle.locus_ids.specs.Sizes.{sites_max}
use Rattle.wire_messages.specs.declared.body.CloseAnswer.{CloseAnswer}
use Rattle.wire_messages.specs.declared.body.CloseAnswer.TheVariants as closing
use Rattle.wire_messages.specs.declared.body.MadeVersion.{MadeVersion}
use Rattle.file_effects.specs.declared.work.Work.{Work}
use Rattle.role_steps.specs.Own.{Every}
use Rattle.role_steps.specs.Reports.{stamp_made}
use Rattle.role_steps.specs.Storage.{closed_packets, content_of, copy_of, instance_key, instance_of, made_version, shut, with_instance}
use Rattle.role_steps.specs.Using.{close_answer}
use Rattle.role_steps.specs.Views.{Frame, Store, Shuts, serial_key}
use Rattle.role_steps.specs.declared.copies.FileCopy.{FileCopy}
use Rattle.role_steps.specs.declared.instances.Instance.{Instance}
use Rattle.the_run.specs.Worlds.{Line}
use Rattle.tree_model.specs.declared.instance.Instance.{Instance as Open}
use Rattle.tree_model.specs.Files.{version_of}
use Rattle.tree_model.specs.Histories.{history, held}
use Rattle.tree_model.specs.Tree.{tree_of}
use Rattle.tree_model.specs.State.{kept_of}
use Rattle.tree_model.specs.Working.{list_of, merges}
use Rattle.lawful_trace.specs.Progress.{close_answer as answer_of_close}
use Rattle.tree_laws.specs.Printed.{entries}
use Rattle.tree_laws.specs.Doing.{FrameFact, StoreHeld}
use Rattle.tree_laws.specs.Following.{MayShut, IsFollowed}
use Rattle.tree_laws.specs.Frames.{AllStay, VersionsStay}
use Rattle.tree_laws.specs.Instances.{held_in, Stands}
use Rattle.tree_laws.specs.Packets.{ClosesNow, JoinsParents, MaybeMade, PacketFact}
use Rattle.tree_laws.specs.Past.{WasBegun, WasShut}
use Rattle.tree_laws.specs.Stores.{AnsweredFact, AreApart, ClosesAs, CopiesAreHeld, HoldsMade, InstanceFact, LiesAs, WorksAs, copy_for}
use Rattle.tree_laws.proofs.CarriedVersions.{joins_stay, maybe_stays}
use Rattle.tree_laws.proofs.Rows.{followed_rows}
use Rattle.tree_laws.proofs.Versions.{versions_stay}
use Rattle.tree_laws.specs.Orders.Joining.{PacksAreOfSites}
use Rattle.tree_laws.proofs.CarriedSizes.{begun_size_stays}
use Rattle.tree_laws.specs.Deltas.{StepsFact}
use Rattle.tree_laws.specs.Packets.{BegunSize}
use Rattle.store_laws.proofs.Differing.{steps_stay}
use Rattle.store_laws.specs.Rests.{StoreRests}
use Rattle.store_laws.proofs.Closes.{closed_sent, lies_with}
use Rattle.store_laws.proofs.Holding.{held_stands}
use Rattle.store_laws.proofs.Makers.{lies_stay}
use Rattle.store_laws.proofs.Raising.{lists_same, sixteen}
use Rattle.store_laws.proofs.Staying.{instance_more}
use Rattle.store_laws.proofs.Tabled.{apart_latest, every_latest, latest_has}

-- ---- an instance that is to be shut ----

-- what an instance is that is begun, whatever its stage
pub record IsBegunSo (c : Config) (trace : List Line) (f : Frame) (i : Instance) : Type 0 where
  pub begun : WasBegun trace f.me f.epoch i.inst i.file
  pub sized : BegunSize c trace f.epoch i.inst i.size
  pub user : i.inst.us ≤ sites_max
  pub vector_is : JoinsParents c trace i.file i.parents i.vector
  pub lies : LiesAs c trace f i i.mode
  pub holds : HoldsMade c trace f i i.mode
  pub answered : AnsweredFact trace f i i.answered

-- a store whose other instances are the tree's
pub record OthersHold (c : Config) (trace : List Line) (f : Frame) (i : Instance) (s : Store) : Type 0 where
  pub copies : CopiesAreHeld c trace f.me s
  pub others : Every (λ (j : Instance). (instance_key j ≡ instance_key i → ⊥) → InstanceFact c trace f j) s.instances
  pub apart : AreApart instance_key s.instances
  pub has : (j : Serial) (file : FileId) → WasBegun trace f.me f.epoch j file → (y : Instance) × (instance_of s j ≡ Some y)
  pub steps : StepsFact c trace s.steps

-- it is closed now, owes nothing, and this is what it made and what it is answered
pub record IsToEnd (c : Config) (trace : List Line) (f : Frame) (i : Instance) (x : Open) (made : Option MadeVersion) (a : CloseAnswer) : Type 0 where
  pub works : WorksAs c trace f i x
  pub closes : ClosesNow c trace f.epoch f.me i.inst x
  pub unshut : WasShut trace f.me f.epoch i.inst → ⊥
  pub owes : i.work.owes ≡ false
  pub changed : i.work.changed ≡ []
  pub made_is : stamp_made made ≡ i.work.committed
  pub answer_is : answer_of_close (stamp_made made) (Some x) ≡ close_answer a
  pub version : MaybeMade c trace f.epoch f.me i.inst made

module _ (c : Config) (n : ℕ) (trace : List Line) (few : PacksAreOfSites c) (h : IsFollowed c trace) (f : Frame) (frame : FrameFact c trace f) (s : Store) (i : Instance) (b : IsBegunSo c trace f i) (kept : OthersHold c trace f i s) (x : Open) (made : Option MadeVersion) (a : CloseAnswer) (k : IsToEnd c trace f i x made a) where
  abbrev after : List Line
  after = record { number = n; told = Shuts f.me f.epoch i.inst } ∷ trace

  pub may_shut : MayShut c trace f.me f.epoch i.inst
  may_shut = record {
    inside = frame.inside;
    call = k.closes.call;
    owner = k.closes.owner;
    asks = k.closes.asks;
    at = x;
    open_at = k.closes.open_at;
    owes = ap (λ (y : Work). y.owes) k.works.work_is ∙ k.owes;
    runs = record { begun = subst (λ (y : FileId). WasBegun trace f.me f.epoch i.inst y) (sym k.works.file_is) b.begun; not_shut = k.unshut };
  }

  module _ (stay : AllStay c trace after (Shuts f.me f.epoch i.inst)) where
    versions : VersionsStay c trace after
    versions = versions_stay c n (Shuts f.me f.epoch i.inst) trace h may_shut stay.fresh stay.order

    made_after : (m : Option MadeVersion) → MaybeMade c trace f.epoch f.me i.inst m → MaybeMade c after f.epoch f.me i.inst m
    made_after m v = maybe_stays c n (Shuts f.me f.epoch i.inst) trace versions f.epoch f.me i.inst m v

    abbrev closed : Instance
    closed = shut i made a

    ends : ClosesAs c after f closed made a
    ends = record {
      ends = inr (record {
        now = record {
          at = x;
          closes = record { call = k.closes.call; owner = k.closes.owner; inside = k.closes.inside; asks = record { asked = k.closes.asks.asked; request = k.closes.asks.request; nothing_waits = k.closes.asks.nothing_waits }; open_at = record { found = k.closes.open_at.found; place = k.closes.open_at.place } };
          shut = inl (record { site_is = refl; epoch_is = refl; serial_is = refl });
          owes = ap (λ (y : Work). y.owes) k.works.work_is ∙ k.owes;
          committed = ap (λ (y : Work). y.committed) k.works.work_is ∙ sym k.made_is;
        };
        answer_is = k.answer_is;
        unchanged = ap (λ (y : Work). y.changed) k.works.work_is ∙ k.changed;
      });
      version = made_after made k.version;
    }

    holds_closed : (m : Mode) → HoldsMade c trace f i m → HoldsMade c after f closed m
    holds_closed mode.Make (inl y) = absurd (true_false (sym y.1 ∙ k.owes))
    holds_closed mode.Make (inr y) = inr (y.0, versions.have f.epoch f.me i.file y.0 y.1)
    holds_closed mode.Read y = tt
    holds_closed mode.Write y = tt
    holds_closed mode.Resolve y = tt
    holds_closed mode.Mend y = tt

    answered_closed : (o : Option Outcome) → AnsweredFact trace f i o → AnsweredFact after f closed o
    answered_closed None y = y
    answered_closed (Some r) y = (y.0, inr y.1)

    fact : InstanceFact c after f closed
    fact = record {
      begun = inr b.begun;
      sized = begun_size_stays c n (Shuts f.me f.epoch i.inst) trace h may_shut versions f.epoch f.me i.inst i.file i.size b.begun b.sized;
      user = b.user;
      vector_is = joins_stay c trace after versions i.file i.parents i.vector b.vector_is;
      lies = lies_with c after f i i.vector i.parents closed.work i.answered closed.stage i.mode (lies_stay c n (Shuts f.me f.epoch i.inst) trace h may_shut versions f i b.begun i.mode b.lies);
      holds = holds_closed i.mode b.holds;
      stage = (ends, record { owes = refl; changed = refl }, inl (record { site_is = refl; epoch_is = refl; serial_is = refl }));
      answered = answered_closed i.answered b.answered;
    }

    pub shut_view : StoreHeld c f after (with_instance closed s)
    shut_view = record {
      copies = record { are = kept.copies.are; ascends = kept.copies.ascends };
      instances = record {
        instances = every_latest instance_key closed (λ (j : Instance). (instance_key j ≡ instance_key i → ⊥) → InstanceFact c trace f j) (InstanceFact c after f) s.instances
            (λ j other y. instance_more c n (Shuts f.me f.epoch i.inst) trace few h may_shut stay f j (λ p q r. other (ap serial_key (sym r))) (y other)) kept.apart kept.others fact;
        apart = apart_latest instance_key closed s.instances kept.apart;
        has = has_after;
        steps = steps_stay c trace after versions s.steps kept.steps;
      };
    }
      where
        has_after : (j : Serial) (file : FileId) → WasBegun after f.me f.epoch j file → (y : Instance) × (instance_of (with_instance closed s) j ≡ Some y)
        has_after j file (inl p) = absurd p
        has_after j file (inr p) = latest_has instance_key closed (serial_key j) s.instances (kept.has j file p)

    pub shut_sent : Every (PacketFact c after) (closed_packets f i made)
    shut_sent = closed_sent c after f closed made a ends

-- ---- what owes nothing ----

-- a store whose instance runs is one whose others are the tree's
pub others_hold : (c : Config) (trace : List Line) (f : Frame) (i : Instance) (s : Store) → StoreHeld c f trace s → OthersHold c trace f i s
others_hold c trace f i s kept = record { copies = kept.copies; others = all_more s.instances kept.instances.instances; apart = kept.instances.apart; has = kept.instances.has; steps = kept.instances.steps }
  where
    all_more : (xs : List Instance) → Every (InstanceFact c trace f) xs → Every (λ (j : Instance). (instance_key j ≡ instance_key i → ⊥) → InstanceFact c trace f j) xs
    all_more [] y = tt
    all_more (x ∷ xs) y = ((λ ne. y.0), all_more xs y.1)

pub begun_so : (c : Config) (trace : List Line) (f : Frame) (i : Instance) → InstanceFact c trace f i → IsBegunSo c trace f i
begun_so c trace f i k = record { begun = k.begun; sized = k.sized; user = k.user; vector_is = k.vector_is; lies = k.lies; holds = k.holds; answered = k.answered }

pub made_stamp : (i : Instance) (x : Option FileCopy) (o : Option Stamp) → stamp_made (made_version i x o) ≡ o
made_stamp i x None = refl
made_stamp i x (Some t) = refl

-- the version that was committed last is what the site holds, and its vector is the written one
pub made_so : (c : Config) (trace : List Line) → IsFollowed c trace → StoreRests c trace → (f : Frame) → FrameFact c trace f → (s : Store) → CopiesAreHeld c trace f.me s → (i : Instance) → IsBegunSo c trace f i → (x : Open) → WorksAs c trace f i x → (o : Option Stamp) → i.work.committed ≡ o → MaybeMade c trace f.epoch f.me i.inst (made_version i (copy_of s i.file) o)
made_so c trace h rests f frame s copies i b x w None e = tt
made_so c trace h rests f frame s copies i b x w (Some t) e = record {
  file = i.file;
  begun = b.begun;
  version = version_of c (entries trace) i.file t;
  is_version = record { stands = stands; same = refl };
  same = λ j. record { stamp = t; vector = vector_is j; size = length (content_so j) };
}
  where
    last_is : x.work.last ≡ Some t
    last_is = (rests.stands f.epoch i.inst x w.open_at.found).made t (ap (λ (y : Work). y.committed) w.work_is ∙ e)

    holds : held c (entries trace) f.me i.file ≡ Some t
    holds = sym (rests.inside f.epoch f.me i.file frame.inside) ∙ (ap (λ (g : FileId). held_in c (entries trace) f.epoch f.me g) (sym w.file_is) ∙ (ap (λ (z : ℕ). held_in c (entries trace) f.epoch z x.grant.file) (sym w.open_at.place) ∙ (sym (rests.stands f.epoch i.inst x w.open_at.found).last_is ∙ last_is)))

    stands : Stands c trace i.file t
    stands = held_stands c (entries trace) (followed_rows c trace h) f.me i.file t holds

    content_so : content_of (copy_of s i.file) ≡ (version_of c (entries trace) i.file t).content
    content_so = ap content_of (copies.are i.file (rests.narrow i.file t stands) ∙ ap (λ (o : Option Stamp). option_map (copy_for i.file) (option_map (version_of c (entries trace) i.file) o)) holds)

    parents_so : i.parents ≡ t ∷ []
    parents_so = w.parents_are ∙ (ap (λ (o : Option Stamp). cond (merges x.grant.mode && is_none o) (kept_of (history c (entries trace)) (tree_of c f.epoch i.file.group (entries trace)) x.grant.file) (list_of x.work.last)) (ap (λ (y : Work). y.committed) w.work_is ∙ e) ∙ (over (merges x.grant.mode) ∙ ap list_of last_is))
      where
        over : (b : Bool) → cond (b && false) (kept_of (history c (entries trace)) (tree_of c f.epoch i.file.group (entries trace)) x.grant.file) (list_of x.work.last) ≡ list_of x.work.last
        over true = refl
        over false = refl

    joins : JoinsParents c trace i.file (t ∷ []) i.vector
    joins = subst (λ (ps : List Stamp). JoinsParents c trace i.file ps i.vector) parents_so b.vector_is

    no_more : (u v : ℕ) → v ≡ 0 → max u v ≡ u
    no_more u v e = grind (arith, nat_tests)

    vector_is : i.vector ≡ vector_of (history c (entries trace)) i.file t
    vector_is = lists_same i.vector (vector_of (history c (entries trace)) i.file t) (sixteen c trace i.file (t ∷ []) i.vector joins) (λ m lt. joins.3 m ∙ no_more (part (vector_of (history c (entries trace)) i.file t) m) (part joins.0 m) (joins.2.0 m))

pub nothing_answered : (x : Open) (w : Work) (o : Option Stamp) → x.work ≡ w → w.owes ≡ false → w.fresh ≡ false → answer_of_close o (Some x) ≡ close_answer closing.Nothing
nothing_answered x w o e owes fresh = ap (λ (y : Work). cond y.owes (answer.Refused refusal.Spent) (answer.Ended (cond y.fresh o None))) e ∙ (ap (λ (b : Bool). cond b (answer.Refused refusal.Spent) (answer.Ended (cond w.fresh o None))) owes ∙ ap (λ (b : Bool). answer.Ended (cond b o None)) fresh)
