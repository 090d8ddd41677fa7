-- An operation at its storage site: its record comes as it may, and the instance goes on as the tree's.
use Rattle.std.proofs.Common.{◌≡◌, ℕ, ◌+◌, ◌==◌, Bool, true, false, cond, ◌&&◌, List, [], ◌∷◌, Option, Some, None, refl, sym, ◌∙◌, ap, subst, inl, inr}
use Rattle.std.specs.List.{find}
use Rattle.std.specs.Option.{is_none}
use Rattle.role_steps.proofs.of_plain_facts.Numbers.{equal_self}
use Rattle.role_steps.proofs.of_plain_facts.Options.{some_same}
use Rattle.role_steps.proofs.of_plain_facts.Tests.{and_true}
use Rattle.locus_ids.specs.declared.config.Config.{Config}
use Rattle.locus_ids.specs.declared.ids.CallId.{CallId}
use Rattle.locus_ids.specs.declared.ids.EpochId.{EpochId}
use Rattle.locus_ids.specs.declared.ids.FileId.{FileId}
use Rattle.locus_ids.specs.declared.ids.Mode.{Mode}
use Rattle.locus_ids.specs.declared.ids.Mode.TheVariants as mode
use Rattle.locus_ids.specs.declared.ids.Serial.{Serial}
use Rattle.locus_ids.specs.declared.ids.Stamp.{Stamp}
use Rattle.trace_book.specs.Same.{same_epoch}
use Rattle.trace_book.specs.declared.operation.Op.{Op}
use Rattle.trace_book.specs.declared.operation.Outcome.{Outcome as Result}
use Rattle.call_rules.specs.declared.want.Want.TheVariants as want
use Rattle.trace_book.specs.declared.operation.What.{What}
use Rattle.file_effects.specs.Works.{begins_owing}
use Rattle.file_effects.specs.declared.work.Work.{Work}
use Rattle.role_steps.specs.Operations.{act_record, op_done}
use Rattle.role_steps.specs.Own.{Every}
use Rattle.role_steps.specs.Storage.{instance_key, instance_of, with_instance}
use Rattle.role_steps.specs.Views.{Frame, Store, serial_key}
use Rattle.role_steps.specs.declared.instances.Instance.{Instance}
use Rattle.role_steps.specs.declared.instances.Stage.{Stage}
use Rattle.role_steps.specs.declared.instances.Stage.TheVariants as stage
use Rattle.the_run.specs.Worlds.{Line}
use Rattle.tree_model.specs.declared.instance.Instance.{Instance as Open}
use Rattle.tree_model.specs.Epochs.{has_joined}
use Rattle.tree_model.specs.Given.{gives_act, instance_gives}
use Rattle.tree_model.specs.Histories.{history}
use Rattle.tree_model.specs.Lists.{change_first}
use Rattle.tree_model.specs.Same.{is_given}
use Rattle.tree_model.specs.State.{TreeState, instance_in, is_granted_here, is_named, kept_of}
use Rattle.tree_model.specs.Tree.{acted, once_acted, tree_of}
use Rattle.tree_model.specs.Working.{list_of, merges, parents_of, result_on, work_after}
use Rattle.lawful_trace.specs.Tables.{call_of_act}
use Rattle.lawful_trace.specs.TreeRows.{IsCallIn, granted_group, is_stored_within}
use Rattle.tree_laws.specs.Printed.{entries}
use Rattle.tree_laws.specs.Calls.{Asks}
use Rattle.tree_laws.specs.Doing.{StoreHeld}
use Rattle.tree_laws.specs.Following.{MayTell, IsFollowed, Runs}
use Rattle.tree_laws.specs.Frames.{AllStay, VersionsStay}
use Rattle.tree_laws.specs.Packets.{PacketFact}
use Rattle.tree_laws.specs.Past.{WasBegun, WasDone, WasShut}
use Rattle.tree_laws.specs.Stores.{HoldsMade, InstanceFact, StageFact, WorksAs}
use Rattle.tree_laws.proofs.CarriedVersions.{joins_stay}
use Rattle.tree_laws.proofs.Hearing.{asks_next}
use Rattle.tree_laws.proofs.Kinship.{tree_epoch_is}
use Rattle.tree_laws.proofs.Names.{same_epoch_own}
use Rattle.tree_laws.proofs.Versions.{versions_stay}
use Rattle.tree_laws.specs.Orders.Joining.{PacksAreOfSites}
use Rattle.tree_laws.proofs.CarriedSizes.{begun_size_stays}
use Rattle.store_laws.proofs.Differing.{steps_stay}
use Rattle.store_laws.proofs.Closes.{lies_with}
use Rattle.store_laws.proofs.Effects.{GoesOn, outcome_own}
use Rattle.store_laws.proofs.Makers.{lies_stay}
use Rattle.store_laws.proofs.Runs.{found_in, open_group}
use Rattle.store_laws.proofs.Shutting.{IsBegunSo, OthersHold}
use Rattle.store_laws.proofs.Staying.{instance_more}
use Rattle.store_laws.proofs.Tabled.{apart_latest, every_latest, latest_has}

-- ---- what is asked ----

-- a call asks this operation now
pub record AsksIt (c : Config) (trace : List Line) (e : EpochId) (i : Serial) (n : ℕ) (o : Op) : Type 0 where
  pub call : CallId
  pub owner : call_of_act (entries trace) e i n ≡ Some call
  pub inside : IsCallIn (entries trace) e call
  pub asks : Asks c trace call (want.Do i o)

-- what the tree gives, and what the storage site makes of the instance's work, are one
pub record IsStep (c : Config) (trace : List Line) (f : Frame) (i : Instance) (x : Open) (o : Op) (r : Result) (w : Work) : Type 0 where
  pub result_is : result_on (history c (entries trace)) (tree_of c f.epoch i.file.group (entries trace)) o x ≡ Some r
  pub work_is : work_after (history c (entries trace)) (tree_of c f.epoch i.file.group (entries trace)) o r x ≡ w
  pub goes : GoesOn i.mode i.work w
  pub clean : w.owes ≡ false → w.changed ≡ []

-- the named one is changed
named_changed : (p : Open → Bool) (change : Open → Open) → ((y : Open) → p (change y) ≡ p y) → (xs : List Open) (x : Open) → find p xs ≡ Some x → find p (change_first p change xs) ≡ Some (change x)
named_changed p change same [] x e = absurd (none_some e)
  where
    none_some : ◌≡◌ {A = Option Open} None (Some x) → ⊥
    none_some e = cc
named_changed p change same (y ∷ ys) x e = at (named_changed p change same ys x) (p y) refl e
  where
    at : (find p ys ≡ Some x → find p (change_first p change ys) ≡ Some (change x)) → (b : Bool) → p y ≡ b → cond b (Some y) (find p ys) ≡ Some x → find p (cond b (change y ∷ ys) (y ∷ change_first p change ys)) ≡ Some (change x)
    at later true t k = ap (λ (b : Bool). cond b (Some (change y)) (find p ys)) (same y ∙ t) ∙ ap (λ z. Some (change z)) (some_same y x k)
    at later false t k = ap (λ (b : Bool). cond b (Some y) (find p (change_first p change ys))) t ∙ later k

module _ (c : Config) (n : ℕ) (trace : List Line) (few : PacksAreOfSites c) (h : IsFollowed c trace) (f : Frame) (inside : has_joined (entries trace) f.me f.epoch ≡ true) (s : Store) (i : Instance) (b : IsBegunSo c trace f i) (kept : OthersHold c trace f i s) (x : Open) (works : WorksAs c trace f i x) (unshut : WasShut trace f.me f.epoch i.inst → ⊥) (running : i.stage ≡ stage.Running) (granted : is_granted_here (tree_of c f.epoch i.file.group (entries trace)) i.inst ≡ true)
    (o : Op) (r : Result) (w : Work) (step : IsStep c trace f i x o r w) (k : AsksIt c trace f.epoch i.inst w.ops o) where
  abbrev after : List Line
  after = record { number = n; told = act_record f i w.ops o r } ∷ trace

  abbrev tree : TreeState
  tree = tree_of c f.epoch i.file.group (entries trace)

  group : granted_group (entries trace) f.epoch i.inst ≡ i.file.group
  group = sym (open_group c trace f.epoch i.inst x works.open_at.found) ∙ ap (λ (y : FileId). y.group) works.file_is

  found : instance_in tree i.inst ≡ Some x
  found = found_in c trace f.epoch i.inst x i.file.group works.open_at.found (ap (λ (y : FileId). y.group) works.file_is)

  -- ---- it comes as it may ----

  next : (w.ops == x.work.ops + 1) ≡ true
  next = subst (λ (m : ℕ). (w.ops == m) ≡ true) (step.goes.ops_is ∙ ap (λ (y : Work). y.ops + 1) (sym works.work_is)) (equal_self w.ops)

  given : gives_act (history c (entries trace)) tree i.inst w.ops o r ≡ true
  given = ap (instance_gives (history c (entries trace)) tree w.ops o r) found ∙ and_true (w.ops == x.work.ops + 1) (is_given (result_on (history c (entries trace)) tree o x) r) next (ap (λ (y : Option Result). is_given y r) step.result_is ∙ outcome_own r)

  not_look : (g : FileId) (what : What) → want.Do i.inst o ≡ want.Look g what → ⊥
  not_look g what e = cc

  pub may_act : MayTell c trace (act_record f i w.ops o r)
  may_act = record {
    row = record {
      gives = subst (λ (g : ℕ). gives_act (history c (entries trace)) (tree_of c f.epoch g (entries trace)) i.inst w.ops o r ≡ true) (sym group) given;
      there = ap (is_stored_within (entries trace) f.epoch) works.open_at.found ∙ (ap (λ (z : ℕ). has_joined (entries trace) z f.epoch) works.open_at.place ∙ inside);
      step = record { call = k.call; owned = k.owner; step = k.inside; asked = (asks_next c trace k.call (want.Do i.inst o) h k.asks not_look).0 };
    };
    in_time = record {
      call = k.call;
      owner = k.owner;
      asks = k.asks;
      at = x;
      open_at = record { found = works.open_at.found; place = refl };
      runs = subst (λ (m : ℕ). Runs trace m f.epoch i.inst x.grant.file) (sym works.open_at.place) (record { begun = subst (λ (y : FileId). WasBegun trace f.me f.epoch i.inst y) (sym works.file_is) b.begun; not_shut = unshut });
    };
  }

  -- ---- the instance goes on ----

  abbrev now : Open
  now = once_acted (history c (entries trace)) tree o r x

  here : same_epoch f.epoch tree.epoch && is_granted_here tree i.inst ≡ true
  here = and_true (same_epoch f.epoch tree.epoch) (is_granted_here tree i.inst) (subst (λ (y : EpochId). same_epoch f.epoch y ≡ true) (sym (tree_epoch_is c f.epoch i.file.group (entries trace))) (same_epoch_own f.epoch)) granted

  found_now : instance_in (tree_of c f.epoch i.file.group (entries after)) i.inst ≡ Some now
  found_now = ap (λ (y : Bool). instance_in (cond y (acted (history c (entries trace)) i.inst o r tree) tree) i.inst) here
      ∙ named_changed (is_named i.inst) (once_acted (history c (entries trace)) tree o r) (λ y. refl) tree.instances x found

  known_same : kept_of (history c (entries after)) (tree_of c f.epoch i.file.group (entries after)) x.grant.file ≡ kept_of (history c (entries trace)) tree x.grant.file
  known_same = over (same_epoch f.epoch tree.epoch && is_granted_here tree i.inst)
    where
      over : (y : Bool) → kept_of (history c (entries trace)) (cond y (acted (history c (entries trace)) i.inst o r tree) tree) x.grant.file ≡ kept_of (history c (entries trace)) tree x.grant.file
      over true = refl
      over false = refl

  abbrev gone_on : Instance
  gone_on = record i { work = w; answered = Some r }

  pub works_on : WorksAs c after f gone_on now
  works_on = record {
    open_at = record { found = subst (λ (g : ℕ). instance_in (tree_of c f.epoch g (entries after)) i.inst ≡ Some now) (sym group) found_now; place = works.open_at.place };
    file_is = works.file_is;
    mode_is = works.mode_is;
    work_is = step.work_is;
    parents_are = works.parents_are ∙ sym same;
  }
    where
      same : parents_of (history c (entries after)) (tree_of c f.epoch i.file.group (entries after)) now ≡ parents_of (history c (entries trace)) tree x
      same = ap (λ (y : Work). cond (merges x.grant.mode && is_none y.committed) (kept_of (history c (entries after)) (tree_of c f.epoch i.file.group (entries after)) x.grant.file) (list_of y.last)) step.work_is
          ∙ (ap (λ (y : Option Stamp). cond (merges x.grant.mode && is_none y) (kept_of (history c (entries after)) (tree_of c f.epoch i.file.group (entries after)) x.grant.file) (list_of w.last)) (step.goes.committed_is ∙ ap (λ (y : Work). y.committed) (sym works.work_is))
          ∙ (ap (λ (y : Option Stamp). cond (merges x.grant.mode && is_none x.work.committed) (kept_of (history c (entries after)) (tree_of c f.epoch i.file.group (entries after)) x.grant.file) (list_of y)) (step.goes.last_is ∙ ap (λ (y : Work). y.last) (sym works.work_is))
          ∙ ap (λ (ks : List Stamp). cond (merges x.grant.mode && is_none x.work.committed) ks (list_of x.work.last)) known_same))

  module _ (stay : AllStay c trace after (act_record f i w.ops o r)) where
    versions : VersionsStay c trace after
    versions = versions_stay c n (act_record f i w.ops o r) trace h may_act stay.fresh stay.order

    done : WasDone after f.epoch i.inst w.ops o r
    done = inl (record { epoch_is = refl; serial_is = refl; number_is = refl; operation_is = refl; result_is = refl })

    unshut_after : WasShut after f.me f.epoch i.inst → ⊥
    unshut_after (inl p) = p
    unshut_after (inr p) = unshut p

    holds_on : (m : Mode) → i.mode ≡ m → HoldsMade c trace f i m → HoldsMade c after f gone_on m
    holds_on mode.Make is (inl y) = inl (step.goes.committed_is ∙ y.0, step.goes.owes_is (ap begins_owing is) y.0 y.1)
    holds_on mode.Make is (inr y) = inr (y.0, versions.have f.epoch f.me i.file y.0 y.1)
    holds_on mode.Read is y = tt
    holds_on mode.Write is y = tt
    holds_on mode.Resolve is y = tt
    holds_on mode.Mend is y = tt

    fact : InstanceFact c after f gone_on
    fact = record {
      begun = inr b.begun;
      sized = begun_size_stays c n (act_record f i w.ops o r) trace h may_act versions f.epoch f.me i.inst i.file i.size b.begun b.sized;
      user = b.user;
      vector_is = joins_stay c trace after versions i.file i.parents i.vector b.vector_is;
      lies = lies_with c after f i i.vector i.parents w (Some r) i.stage i.mode (lies_stay c n (act_record f i w.ops o r) trace h may_act versions f i b.begun i.mode b.lies);
      holds = holds_on i.mode refl b.holds;
      stage = subst (λ (t : Stage). StageFact c after f gone_on t) (sym running) (inl (now, works_on), record { fresh = step.goes.fresh_is; clean = step.clean }, unshut_after);
      answered = (o, done);
    }

    pub act_view : StoreHeld c f after (with_instance gone_on s)
    act_view = record {
      copies = record { are = kept.copies.are; ascends = kept.copies.ascends };
      instances = record {
        instances = every_latest instance_key gone_on (λ (j : Instance). (instance_key j ≡ instance_key i → ⊥) → InstanceFact c trace f j) (InstanceFact c after f) s.instances
            (λ j other y. instance_more c n (act_record f i w.ops o r) trace few h may_act stay f j (λ p q. other (ap serial_key (sym q))) (y other)) kept.apart kept.others fact;
        apart = apart_latest instance_key gone_on s.instances kept.apart;
        has = has_after;
        steps = steps_stay c trace after versions s.steps kept.steps;
      };
    }
      where
        has_after : (j : Serial) (file : FileId) → WasBegun after f.me f.epoch j file → (y : Instance) × (instance_of (with_instance gone_on s) j ≡ Some y)
        has_after j file (inl p) = absurd p
        has_after j file (inr p) = latest_has instance_key gone_on (serial_key j) s.instances (kept.has j file p)

    pub act_sent : Every (PacketFact c after) (op_done f i w.ops r)
    act_sent = ((o, done), tt)
