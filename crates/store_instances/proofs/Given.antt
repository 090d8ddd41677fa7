-- What an event at one instance gives.
use Rattle.std.proofs.Common.{◌≡◌, ℕ, ◌+◌, ◌==◌, Bool, true, false, List, [], ◌∷◌, ◌++◌, Option, Some, None, refl, sym, ap, ◌∙◌, subst, arith}
use Rattle.std.proofs.lemmas.Bool.Decides.{nat_tests}
use Rattle.role_steps.proofs.of_plain_facts.Numbers.{apart_test, equal_test}
use Rattle.locus_ids.specs.declared.ids.FileId.{FileId}
use Rattle.locus_ids.specs.declared.ids.Serial.{Serial}
use Rattle.locus_ids.specs.declared.ids.Stamp.{Stamp}
use Rattle.locus_ids.specs.declared.refusal.Refusal.TheVariants as refusal
use Rattle.trace_book.specs.declared.operation.Op.{Op}
use Rattle.trace_book.specs.declared.operation.Op.TheVariants as op
use Rattle.trace_book.specs.declared.operation.Outcome.{Outcome as Result}
use Rattle.trace_book.specs.declared.operation.Outcome.TheVariants as result
use Rattle.trace_book.specs.declared.record.Record.{Record}
use Rattle.trace_book.specs.declared.record.Record.TheVariants as says
use Rattle.file_content.specs.Pages.{ascending}
use Rattle.file_effects.specs.Effects.{Effect}
use Rattle.file_effects.specs.Works.{counted}
use Rattle.file_effects.specs.declared.work.Work.{Work}
use Rattle.wire_messages.specs.declared.packet.Packet.{Packet}
use Rattle.wire_messages.specs.declared.body.CloseAnswer.{CloseAnswer}
use Rattle.wire_messages.specs.declared.body.CloseAnswer.TheVariants as closing
use Rattle.wire_messages.specs.declared.body.Body.TheVariants as body
use Rattle.wire_messages.specs.declared.body.OpenedAs.TheVariants as opened
use Rattle.wire_messages.specs.declared.body.MadeVersion.{MadeVersion}
use Rattle.wire_messages.specs.Outboxes.{Outgoing}
use Rattle.role_steps.specs.Tables.{row, with_row, with_latest}
use Rattle.role_steps.specs.Views.{FileSteps, Frame, Store, Outcome, quiet, sends, joined_to, to_sync, file_key}
use Rattle.role_steps.specs.Storage.{copy_key, copy_made, step_to, with_step, instance_key, instance_of, with_instance, is_spent, commits, next_stamp, next_vector, instance_committed, commit_record, closed_packets, made_version, opened_packets, shut, shuts, shuts_again, closes, on_close_at}
use Rattle.role_steps.specs.Operations.{acts, acts_committed, by_number, commit_op, last_committed, executes, executes_effect, on_op_at, op_again, op_done}
use Rattle.role_steps.specs.OperationEffects.{Mending, effect_of}
use Rattle.role_steps.specs.declared.copies.FileCopy.{FileCopy}
use Rattle.role_steps.specs.declared.copies.Step.{Step}
use Rattle.role_steps.specs.declared.instances.Instance.{Instance}
use Rattle.role_steps.specs.declared.instances.Stage.{Stage}
use Rattle.role_steps.specs.declared.instances.Stage.TheVariants as stage
use Rattle.operation_effects.specs.Settling.{Worked, worked, worked_so}
use Rattle.site_packs.specs.Packs.{PacksState, groups_of, copy_at}
use Rattle.site_packs.specs.Copies.{copies_on}
use Rattle.store_instances.specs.Stores.{IsRow, RowGives, StoreState, again_packets, commits_and_acts, commits_and_shuts, is_running, store_of, with_row_made}
use Rattle.store_instances.proofs.Latest.{nothing_more, in_turn, latest_row, latest_same, latest_twice}

module _ (r : StoreState) (p : PacksState) (image : List ℕ) where
  abbrev pub s : Store
  s = store_of r p image

  same_store : (i new : Instance) → IsRow i r.instances → new ≡ i → store_of (with_row_made r None new) p image ≡ s
  same_store i new h e = ap (λ (ys : List Instance). store_of (record r { instances = ys }) p image) (ap (λ (j : Instance). with_latest instance_key j r.instances) e ∙ latest_same instance_key i r.instances h)

  pub quiet_so : (i new : Instance) (before after : Outgoing) → IsRow i r.instances → new ≡ i → after ≡ before → RowGives (quiet s) r None new p image before after
  quiet_so i new before after h e o = record {
    view = same_store i new h e;
    packets = ap (λ (x : Outgoing). x.packets) o ∙ nothing_more before.packets;
    records = ap (λ (x : Outgoing). x.records) o ∙ nothing_more before.records;
  }

  pub sends_so : (ps : List Packet) (i new : Instance) (before after : Outgoing) → IsRow i r.instances → new ≡ i → after.packets ≡ before.packets ++ ps → after.records ≡ before.records → RowGives (sends ps s) r None new p image before after
  sends_so ps i new before after h e sent told = record { view = same_store i new h e; packets = sent; records = told ∙ nothing_more before.records }

  pub acts_so : (f : Frame) (i : Instance) (o : Op) (gave : Result) (w : Work) (new : Instance) (before after : Outgoing) → new ≡ record i { work = w; answered = Some gave }
      → after.packets ≡ before.packets ++ op_done f i w.ops gave → after.records ≡ before.records ++ says.Act f.epoch i.inst w.ops o gave ∷ [] → RowGives (acts f i o gave w s) r None new p image before after
  acts_so f i o gave w new before after e sent told = record { view = ap (λ (j : Instance). store_of (with_row_made r None j) p image) e; packets = sent; records = told }

  gave_none : (e : Option Effect) (free : ℕ) (w new : Work) → worked_so None new ≡ worked free w e → (e ≡ None) × (new ≡ w)
  gave_none None free w new h = (refl, ap (λ (x : Worked). x.work) h)
  gave_none (Some e) free w new h = absurd (no_some (ap (λ (x : Worked). x.gave) h)) where
    no_some : {r : Result} → ◌≡◌ {A = Option Result} None (Some r) → ⊥
    no_some k = cc

  pub executes_none : (f : Frame) (i : Instance) (o : Op) (e : Option Effect) (free : ℕ) (w : Work) (new : Instance) (before after : Outgoing) → worked_so None w ≡ worked free i.work e → IsRow i r.instances
      → new ≡ record i { work = w } → after ≡ before → RowGives (executes_effect f i o e s) r None new p image before after
  executes_none f i o e free w new before after h is n same =
      let two = gave_none e free i.work w h in
      subst (λ (eff : Option Effect). RowGives (executes_effect f i o eff s) r None new p image before after) (sym two.0)
      (quiet_so i new before after is (n ∙ ap (λ (v : Work). record i { work = v }) two.1) same)

-- ---- commits ----

abbrev stored : List FileCopy → List Instance → List FileSteps → Store
stored cs ys ss = record { copies = cs; instances = ys; steps = ss }

module _ (f : Frame) (i : Instance) (r : StoreState) (p q : PacksState) (image later : List ℕ) (new : Instance) (before after : Outgoing) where
  abbrev rises : List ℕ
  rises = next_vector f i

  abbrev stamp : Stamp
  stamp = next_stamp f rises

  abbrev made : Instance
  made = instance_committed i rises stamp

  abbrev copied : List FileCopy
  copied = with_row copy_key (copy_made i rises stamp) (copies_on (groups_of p) image)

  -- the step to it
  abbrev step : Step
  step = step_to (copy_made i rises stamp) (ascending i.work.changed) (copy_at p image i.file)

  abbrev now : Store
  now = stored copied (with_latest instance_key made r.instances) (with_step i.file step r.steps)

  -- the instance is found again
  found : instance_of now i.inst ≡ Some made
  found = latest_row instance_key made r.instances

  -- the store with the instance as it is in the end
  stores : (end : Instance) → copies_on (groups_of q) later ≡ copied → instance_key made ≡ instance_key end → end.file ≡ i.file → new ≡ end
      → store_of (with_row_made r (Some step) new) q later ≡ with_instance end now
  stores end copies key file is =
      ap (λ (cs : List FileCopy). stored cs (with_latest instance_key new r.instances) (with_step new.file step r.steps)) copies
      ∙ ap (λ (j : Instance). stored copied (with_latest instance_key j r.instances) (with_step j.file step r.steps)) is
      ∙ ap (λ (x : FileId). stored copied (with_latest instance_key end r.instances) (with_step x step r.steps)) file
      ∙ ap (λ (ys : List Instance). stored copied ys (with_step i.file step r.steps)) (sym (latest_twice instance_key made end r.instances key))

  abbrev acted : Instance
  acted = record made { work = counted made.work; answered = Some (result.Committed stamp) }

  -- a commit that was owed
  pub committed_so : copies_on (groups_of q) later ≡ copied → new ≡ acted
      → after.packets ≡ before.packets ++ op_done f i (counted made.work).ops (result.Committed stamp)
      → after.records ≡ before.records ++ (commit_record f i stamp ∷ says.Act f.epoch i.inst (counted made.work).ops op.Commit (result.Committed stamp) ∷ [])
      → RowGives (commits_and_acts f i (store_of r p image)) r (Some step) new q later before after
  committed_so copies is sent told =
      subst (λ (row : Option Instance). RowGives (joined_to (commits f i (store_of r p image)) (acts_committed f stamp row now)) r (Some step) new q later before after) (sym found)
      (record { view = stores acted copies refl refl is; packets = sent; records = told })

  abbrev version : Option MadeVersion
  version = made_version made (row copy_key (file_key i.file) copied) made.work.committed

  -- a close that commits what is owed
  pub closed_so : copies_on (groups_of q) later ≡ copied → new ≡ shut made version (closing.Made stamp)
      → after.packets ≡ before.packets ++ closed_packets f made version → after.records ≡ before.records ++ commit_record f i stamp ∷ []
      → RowGives (commits_and_shuts f i (store_of r p image)) r (Some step) new q later before after
  closed_so copies is sent told =
      subst (λ (row : Option Instance). RowGives (joined_to (commits f i (store_of r p image)) (shuts_again f (closing.Made stamp) row now)) r (Some step) new q later before after) (sym found)
      (record { view = stores (shut made version (closing.Made stamp)) copies refl refl is; packets = sent; records = told })

  module _ (vec : List ℕ) (mark : Stamp) (given : Step) (left : Instance) (middle : Outgoing) (v : vec ≡ next_vector f i) (m : mark ≡ next_stamp f vec)
      (g : given ≡ step_to (copy_made i vec (next_stamp f vec)) (ascending i.work.changed) (copy_at p image i.file)) (l : left ≡ instance_committed i vec (next_stamp f vec))
      (copies : copies_on (groups_of q) later ≡ with_row copy_key (copy_made i vec (next_stamp f vec)) (copies_on (groups_of p) image))
      (packets : middle.packets ≡ before.packets) (records : middle.records ≡ before.records ++ commit_record f i (next_stamp f vec) ∷ []) where
    is_stamp : mark ≡ stamp
    is_stamp = m ∙ ap (next_stamp f) v

    is_step : given ≡ step
    is_step = g ∙ ap (λ (w : List ℕ). step_to (copy_made i w (next_stamp f w)) (ascending i.work.changed) (copy_at p image i.file)) v

    is_made : left ≡ made
    is_made = l ∙ ap (λ (w : List ℕ). instance_committed i w (next_stamp f w)) v

    are_copied : copies_on (groups_of q) later ≡ copied
    are_copied = copies ∙ ap (λ (w : List ℕ). with_row copy_key (copy_made i w (next_stamp f w)) (copies_on (groups_of p) image)) v

    are_told : middle.records ≡ before.records ++ commit_record f i stamp ∷ []
    are_told = records ∙ ap (λ (w : List ℕ). before.records ++ commit_record f i (next_stamp f w) ∷ []) v

    pub owed_so : new ≡ record left { work = counted left.work; answered = Some (result.Committed mark) }
        → after.packets ≡ middle.packets ++ op_done f left (counted left.work).ops (result.Committed mark)
        → after.records ≡ middle.records ++ says.Act f.epoch left.inst (counted left.work).ops op.Commit (result.Committed mark) ∷ []
        → RowGives (commits_and_acts f i (store_of r p image)) r (Some given) new q later before after
    owed_so n sent told =
        subst (λ (t : Step). RowGives (commits_and_acts f i (store_of r p image)) r (Some t) new q later before after) (sym is_step)
        (committed_so are_copied
        (n ∙ ap (λ (j : Instance). record j { work = counted j.work; answered = Some (result.Committed mark) }) is_made ∙ ap (λ (t : Stamp). record made { work = counted made.work; answered = Some (result.Committed t) }) is_stamp)
        (sent ∙ ap (λ (ps : List Packet). ps ++ op_done f left (counted left.work).ops (result.Committed mark)) packets
        ∙ ap (λ (j : Instance). before.packets ++ op_done f j (counted j.work).ops (result.Committed mark)) is_made
        ∙ ap (λ (t : Stamp). before.packets ++ op_done f made (counted made.work).ops (result.Committed t)) is_stamp)
        (told ∙ ap (λ (rs : List Record). rs ++ says.Act f.epoch left.inst (counted left.work).ops op.Commit (result.Committed mark) ∷ []) are_told
        ∙ ap (λ (j : Instance). (before.records ++ commit_record f i stamp ∷ []) ++ says.Act f.epoch j.inst (counted j.work).ops op.Commit (result.Committed mark) ∷ []) is_made
        ∙ ap (λ (t : Stamp). (before.records ++ commit_record f i stamp ∷ []) ++ says.Act f.epoch made.inst (counted made.work).ops op.Commit (result.Committed t) ∷ []) is_stamp
        ∙ in_turn before.records (commit_record f i stamp) (says.Act f.epoch made.inst (counted made.work).ops op.Commit (result.Committed stamp))))

    is_version : made_version left (copy_at q later left.file) left.work.committed ≡ version
    is_version =
        ap (λ (j : Instance). made_version j (copy_at q later j.file) j.work.committed) is_made
        ∙ ap (λ (cs : List FileCopy). made_version made (row copy_key (file_key i.file) cs) made.work.committed) are_copied

    pub owed_closed_so : new ≡ shut left (made_version left (copy_at q later left.file) left.work.committed) (closing.Made mark)
        → after.packets ≡ middle.packets ++ closed_packets f left (made_version left (copy_at q later left.file) left.work.committed)
        → after.records ≡ middle.records → RowGives (commits_and_shuts f i (store_of r p image)) r (Some given) new q later before after
    owed_closed_so n sent told =
        subst (λ (t : Step). RowGives (commits_and_shuts f i (store_of r p image)) r (Some t) new q later before after) (sym is_step)
        (closed_so are_copied
        (n ∙ ap (λ (u : Option MadeVersion). shut left u (closing.Made mark)) is_version ∙ ap (λ (j : Instance). shut j version (closing.Made mark)) is_made ∙ ap (λ (t : Stamp). shut made version (closing.Made t)) is_stamp)
        (sent ∙ ap (λ (ps : List Packet). ps ++ closed_packets f left (made_version left (copy_at q later left.file) left.work.committed)) packets
        ∙ ap (λ (u : Option MadeVersion). before.packets ++ closed_packets f left u) is_version ∙ ap (λ (j : Instance). before.packets ++ closed_packets f j version) is_made)
        (told ∙ are_told))

-- a close that commits nothing
pub shut_so : (f : Frame) (i : Instance) (a : CloseAnswer) (r : StoreState) (p : PacksState) (image : List ℕ) (new : Instance) (before after : Outgoing)
    → new ≡ shut i (made_version i (copy_at p image i.file) i.work.committed) a
    → after.packets ≡ before.packets ++ closed_packets f i (made_version i (copy_at p image i.file) i.work.committed)
    → after.records ≡ before.records → RowGives (shuts f i a (store_of r p image)) r None new p image before after
shut_so f i a r p image new before after is sent told = record {
  view = ap (λ (j : Instance). store_of (with_row_made r None j) p image) is;
  packets = sent;
  records = told ∙ nothing_more before.records;
}

-- what is sent of a close
pub closed_as : (f : Frame) (i : Instance) (inst : Serial) (file : FileId) (made : Option MadeVersion) → inst ≡ i.inst → file ≡ i.file → to_sync f file.group (body.Closed inst made) ≡ closed_packets f i made
closed_as f i inst file made e h = ap (λ (n : Serial). to_sync f file.group (body.Closed n made)) e ∙ ap (λ (x : FileId). to_sync f x.group (body.Closed i.inst made)) h

-- the cases

op_by : (f : Frame) (i : Instance) (s : Store) (o : Outcome Store) (b c : Bool)
    → (b ≡ true → c ≡ true → o ≡ acts f i op.Commit (result.No refusal.Spent) (counted i.work) s) → (b ≡ true → c ≡ false → o ≡ commits_and_acts f i s) → (b ≡ false → o ≡ last_committed f i i.work.last s)
    → o ≡ elim b [ true ↦ elim c [ true ↦ acts f i op.Commit (result.No refusal.Spent) (counted i.work) s | false ↦ commits_and_acts f i s ] | false ↦ last_committed f i i.work.last s ]
op_by f i s o true true x y z = x refl refl
op_by f i s o true false x y z = y refl refl
op_by f i s o false c x y z = z refl

true_false : (b : Bool) → b ≡ true → b ≡ false → ⊥
true_false b h k = no (sym h ∙ k) where
  no : true ≡ false → ⊥
  no e = cc

pub owing_op : (f : Frame) (i : Instance) (s : Store) → i.work.owes ≡ true → is_spent f i ≡ false → commits_and_acts f i s ≡ commit_op f i s
owing_op f i s owes rises =
    op_by f i s (commits_and_acts f i s) i.work.owes (is_spent f i) (λ h k. absurd (true_false (is_spent f i) k rises)) (λ h k. refl) (λ h. absurd (true_false i.work.owes owes h))

pub spent_op : (f : Frame) (i : Instance) (s : Store) → i.work.owes ≡ true → is_spent f i ≡ true → acts f i op.Commit (result.No refusal.Spent) (counted i.work) s ≡ commit_op f i s
spent_op f i s owes spent =
    op_by f i s (acts f i op.Commit (result.No refusal.Spent) (counted i.work) s) i.work.owes (is_spent f i) (λ h k. refl) (λ h k. absurd (true_false (is_spent f i) spent k)) (λ h. absurd (true_false i.work.owes owes h))

close_by : (f : Frame) (i : Instance) (s : Store) (o : Outcome Store) (b c : Bool)
    → (b ≡ true → c ≡ true → o ≡ shuts f i (closing.No refusal.Spent) s) → (b ≡ true → c ≡ false → o ≡ commits_and_shuts f i s) → (b ≡ false → o ≡ shuts f i closing.Nothing s)
    → o ≡ elim b [ true ↦ elim c [ true ↦ shuts f i (closing.No refusal.Spent) s | false ↦ commits_and_shuts f i s ] | false ↦ shuts f i closing.Nothing s ]
close_by f i s o true true x y z = x refl refl
close_by f i s o true false x y z = y refl refl
close_by f i s o false c x y z = z refl

pub owing_close : (f : Frame) (i : Instance) (s : Store) → i.work.owes ≡ true → is_spent f i ≡ false → commits_and_shuts f i s ≡ closes f i s
owing_close f i s owes rises =
    close_by f i s (commits_and_shuts f i s) i.work.owes (is_spent f i) (λ h k. absurd (true_false (is_spent f i) k rises)) (λ h k. refl) (λ h. absurd (true_false i.work.owes owes h))

pub spent_close : (f : Frame) (i : Instance) (s : Store) → i.work.owes ≡ true → is_spent f i ≡ true → shuts f i (closing.No refusal.Spent) s ≡ closes f i s
spent_close f i s owes spent =
    close_by f i s (shuts f i (closing.No refusal.Spent) s) i.work.owes (is_spent f i) (λ h k. refl) (λ h k. absurd (true_false (is_spent f i) spent k)) (λ h. absurd (true_false i.work.owes owes h))

pub idle_close : (f : Frame) (i : Instance) (s : Store) → i.work.owes ≡ false → shuts f i closing.Nothing s ≡ closes f i s
idle_close f i s owes =
    close_by f i s (shuts f i closing.Nothing s) i.work.owes (is_spent f i) (λ h k. absurd (true_false i.work.owes h owes)) (λ h k. absurd (true_false i.work.owes h owes)) (λ h. refl)

-- an operation on an instance that runs or doesn't, by its number

pub not_running : (f : Frame) (m : Mending) (i : Instance) (st : Stage) (n : ℕ) (o : Op) (seen : List ℕ) (s : Store) → is_running st ≡ false → quiet s ≡ on_op_at f m i st n o seen s
not_running f m i stage.Running n o seen s h = absurd cc
not_running f m i (stage.Closing made a) n o seen s h = refl
not_running f m i (stage.Closed a) n o seen s h = refl

running : (f : Frame) (m : Mending) (i : Instance) (st : Stage) (n : ℕ) (o : Op) (seen : List ℕ) (s : Store) → is_running st ≡ true → by_number f m i n o seen s ≡ on_op_at f m i st n o seen s
running f m i stage.Running n o seen s h = refl
running f m i (stage.Closing made a) n o seen s h = absurd cc
running f m i (stage.Closed a) n o seen s h = absurd cc

pub again_op : (f : Frame) (m : Mending) (i : Instance) (n : ℕ) (o : Op) (seen : List ℕ) (s : Store) → is_running i.stage ≡ true → n ≡ i.work.ops → sends (op_again f i n i.answered) s ≡ on_op_at f m i i.stage n o seen s
again_op f m i n o seen s h e = by (n == i.work.ops) (equal_test n i.work.ops e) ∙ running f m i i.stage n o seen s h where
  by : (b : Bool) → b ≡ true → sends (op_again f i n i.answered) s ≡ elim b [ true ↦ sends (op_again f i n i.answered) s | false ↦ elim (n == i.work.ops + 1) [ true ↦ executes f m i o seen s | false ↦ quiet s ] ]
  by true k = refl
  by false k = absurd cc

pub unknown_op : (f : Frame) (m : Mending) (i : Instance) (n : ℕ) (o : Op) (seen : List ℕ) (s : Store) → is_running i.stage ≡ true → (n ≡ i.work.ops → ⊥) → (n == i.work.ops + 1) ≡ false → quiet s ≡ on_op_at f m i i.stage n o seen s
unknown_op f m i n o seen s h e k = by (n == i.work.ops) (n == i.work.ops + 1) (apart_test n i.work.ops e) k ∙ running f m i i.stage n o seen s h where
  by : (b c : Bool) → b ≡ false → c ≡ false → quiet s ≡ elim b [ true ↦ sends (op_again f i n i.answered) s | false ↦ elim c [ true ↦ executes f m i o seen s | false ↦ quiet s ] ]
  by false false j l = refl
  by false true j l = absurd cc
  by true c j l = absurd cc

pub next_op : (f : Frame) (m : Mending) (i : Instance) (n : ℕ) (o : Op) (seen : List ℕ) (s : Store) → is_running i.stage ≡ true → (n ≡ i.work.ops → ⊥) → (n == i.work.ops + 1) ≡ true → executes f m i o seen s ≡ on_op_at f m i i.stage n o seen s
next_op f m i n o seen s h e k = by (n == i.work.ops) (n == i.work.ops + 1) (apart_test n i.work.ops e) k ∙ running f m i i.stage n o seen s h where
  by : (b c : Bool) → b ≡ false → c ≡ true → executes f m i o seen s ≡ elim b [ true ↦ sends (op_again f i n i.answered) s | false ↦ elim c [ true ↦ executes f m i o seen s | false ↦ quiet s ] ]
  by false true j l = refl
  by false false j l = absurd cc
  by true c j l = absurd cc

-- a close of an instance that runs or doesn't

pub running_close : (f : Frame) (i : Instance) (st : Stage) (s : Store) → is_running st ≡ true → closes f i s ≡ on_close_at f i st s
running_close f i stage.Running s h = refl
running_close f i (stage.Closing made a) s h = absurd cc
running_close f i (stage.Closed a) s h = absurd cc

pub again_close : (f : Frame) (i : Instance) (st : Stage) (s : Store) → is_running st ≡ false → sends (again_packets f i st) s ≡ on_close_at f i st s
again_close f i stage.Running s h = absurd cc
again_close f i (stage.Closing made a) s h = refl
again_close f i (stage.Closed a) s h = refl

-- what an operation writes to the disk, where it is neither a commit nor an abort

effect_written : (f : Frame) (i : Instance) (o : Op) (e : Option Effect) (s : Store) → None ≡ (executes_effect f i o e s).written
effect_written f i o None s = refl
effect_written f i o (Some e) s = refl

pub other_written : (f : Frame) (m : Mending) (i : Instance) (o : Op) (seen : List ℕ) (s : Store) → (o ≡ op.Commit → ⊥) → (o ≡ op.Abort → ⊥) → None ≡ (executes f m i o seen s).written
other_written f m i (op.Probe name) seen s c a = effect_written f i (op.Probe name) (effect_of (op.Probe name) seen m i.work.content) s
other_written f m i (op.Find component) seen s c a = effect_written f i (op.Find component) (effect_of (op.Find component) seen m i.work.content) s
other_written f m i (op.Insert name ino kind) seen s c a = effect_written f i (op.Insert name ino kind) (effect_of (op.Insert name ino kind) seen m i.work.content) s
other_written f m i (op.Remove name ino) seen s c a = effect_written f i (op.Remove name ino) (effect_of (op.Remove name ino) seen m i.work.content) s
other_written f m i (op.Rename component name) seen s c a = effect_written f i (op.Rename component name) (effect_of (op.Rename component name) seen m i.work.content) s
other_written f m i op.Empty seen s c a = effect_written f i op.Empty (effect_of op.Empty seen m i.work.content) s
other_written f m i (op.Read at len) seen s c a = effect_written f i (op.Read at len) (effect_of (op.Read at len) seen m i.work.content) s
other_written f m i (op.Write at bytes) seen s c a = effect_written f i (op.Write at bytes) (effect_of (op.Write at bytes) seen m i.work.content) s
other_written f m i (op.Cut len) seen s c a = effect_written f i (op.Cut len) (effect_of (op.Cut len) seen m i.work.content) s
other_written f m i op.Commit seen s c a = absurd (c refl)
other_written f m i op.Abort seen s c a = absurd (a refl)
other_written f m i op.Mend seen s c a = effect_written f i op.Mend (effect_of op.Mend seen m i.work.content) s

-- what is sent of an open
pub opened_as : (f : Frame) (i : Instance) (inst : Serial) (file : FileId) (size : ℕ) → inst ≡ i.inst → file ≡ i.file → size ≡ i.size → to_sync f file.group (body.Opened inst (opened.Open file.ino size)) ≡ opened_packets f i
opened_as f i inst file size e h k =
    ap (λ (n : Serial). to_sync f file.group (body.Opened n (opened.Open file.ino size))) e ∙ ap (λ (x : FileId). to_sync f x.group (body.Opened i.inst (opened.Open x.ino size))) h ∙ ap (λ (n : ℕ). to_sync f i.file.group (body.Opened i.inst (opened.Open i.file.ino n))) k
