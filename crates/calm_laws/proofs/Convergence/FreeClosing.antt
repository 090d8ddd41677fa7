-- An instance that a storage site is closing after an event was open there before it, with the same file: what an event adds runs.
use Rattle.std.proofs.Common.{Bool, List, None, Option, Some, [], ap, arith, false, inl, inr, refl, subst, sym, true, ℕ, ◌&&◌, ◌+◌, ◌==◌, ◌||◌, ◌∙◌, ◌∷◌, ◌≡◌, ◌⊎◌}
use Rattle.std.proofs.lemmas.Bool.Decides.{nat_tests}
use Rattle.std.specs.List.{list_any}
use Rattle.calm_laws.proofs.HeldOperation.{form_view}
use Rattle.calm_laws.proofs.Lists.{row_key}
use Rattle.row_laws.proofs.OrderlyRows.Course.{closing}
use Rattle.commit_graph.specs.Versions.{same_file}
use Rattle.calm_laws.specs.Convergence.Converging.{IsClosing}
use Rattle.dir_format.specs.Entries.{nothing_seen}
use Rattle.file_effects.specs.Effects.{Effect}
use Rattle.file_effects.specs.Works.{aborted, counted, operated, result_in}
use Rattle.file_effects.specs.declared.work.Work.{Work}
use Rattle.locus_ids.specs.declared.config.Config.{Config}
use Rattle.locus_ids.specs.declared.ids.FileId.{FileId}
use Rattle.locus_ids.specs.declared.ids.Mode.{Mode}
use Rattle.locus_ids.specs.declared.ids.Mode.TheVariants as mode
use Rattle.locus_ids.specs.declared.ids.Serial.{Serial}
use Rattle.locus_ids.specs.declared.ids.Stamp.{Stamp}
use Rattle.locus_ids.specs.declared.refusal.Refusal.TheVariants as refusal
use Rattle.tree_laws.proofs.Orders.Standing.{same_file_eq}
use Rattle.store_laws.proofs.Tabled.{latest_same}
use Rattle.role_steps.proofs.of_plain_facts.Options.{none_some, some_same}
use Rattle.role_steps.proofs.of_plain_facts.Tests.{true_false}
use Rattle.role_steps.specs.Adoption.{adopts_first, adopts_pull, fits_own, is_ready, notes_own_at, table_group, with_adopted, without_pull}
use Rattle.role_steps.specs.Epochs.{frame_in}
use Rattle.role_steps.specs.Mends.{mending}
use Rattle.role_steps.specs.Opens.{on_opened}
use Rattle.role_steps.specs.OperationEffects.{Mending, effect_of}
use Rattle.role_steps.specs.Operations.{acts, acts_committed, by_number, commit_op, commits_owing, executes, executes_effect, last_committed, nothing_to_mend, on_op, on_op_at, on_op_of, op_again}
use Rattle.role_steps.specs.Reports.{on_closed, on_have, on_look, on_open, on_report}
use Rattle.role_steps.specs.Storage.{StoreRequest, closed_packets, closes, closes_owing, commits, content_of, copy_of, ends_at, free_pages, has_open, instance_committed, instance_key, instance_of, is_open, is_open_of, is_spent, made_version, next_stamp, next_vector, on_close_at, on_close_of, on_closed_ok_of, on_open_ss_of, opens, opens_made, own_ino, shut, shuts, shuts_again, with_instance}
use Rattle.role_steps.specs.Tables.{first_that, row, with_latest}
use Rattle.role_steps.specs.Views.{Frame, Outcome, SiteView, Store, and_then, quiet, sends}
use Rattle.role_steps.specs.declared.instances.Instance.{Instance}
use Rattle.role_steps.specs.declared.instances.Stage.{Stage}
use Rattle.role_steps.specs.declared.instances.Stage.TheVariants as stage
use Rattle.role_steps.specs.declared.pulls.Pull.{Pull}
use Rattle.role_steps.specs.declared.rounds.InEpoch.{InEpoch}
use Rattle.role_steps.specs.declared.synchronizing.SyncTable.{SyncTable}
use Rattle.the_run.specs.Kept.{Among}
use Rattle.the_run.specs.Steps.{adopts_in, adopts_of, at_table_of, from_user, group_of, is_opened_in, takes_inside, tries_at}
use Rattle.trace_book.specs.declared.operation.Op.{Op}
use Rattle.trace_book.specs.declared.operation.Op.TheVariants as op
use Rattle.trace_book.specs.declared.operation.Outcome.{Outcome as Result}
use Rattle.trace_book.specs.declared.operation.Outcome.TheVariants as result
use Rattle.wire_messages.specs.declared.body.Body.{Body}
use Rattle.wire_messages.specs.declared.body.Body.TheVariants as body
use Rattle.wire_messages.specs.declared.body.CloseAnswer.TheVariants as closing
use Rattle.wire_messages.specs.declared.body.CloseAnswer.{CloseAnswer}
use Rattle.wire_messages.specs.declared.body.CloseAnswer.TheVariants as closing
use Rattle.wire_messages.specs.declared.body.MadeVersion.{MadeVersion}
use Rattle.wire_messages.specs.declared.packet.Packet.{Packet}

-- whose close has begun is open
pub closing_open : (g : Stage) → IsClosing g → is_open g ≡ true
closing_open stage.Running h = absurd h
closing_open (stage.Closing made r) h = refl
closing_open (stage.Closed r) h = absurd h

-- ---- instances ----

among_latest : {A : Type 0} (key : A → ℕ) (x y : A) (xs : List A) → Among y (with_latest key x xs) → (y ≡ x) ⊎ Among y xs
among_latest key x y [] (inl e) = inl e
among_latest key x y [] (inr a) = absurd a
among_latest {A = A} key x y (z ∷ zs) a = over (key z == key x) a (among_latest key x y zs)
  where
    over : (b : Bool) → Among {A = A} y (elim b [ true ↦ x ∷ zs | false ↦ z ∷ with_latest key x zs ]) → (Among y (with_latest key x zs) → (y ≡ x) ⊎ Among y zs) → (y ≡ x) ⊎ Among y (z ∷ zs)
    over true (inl e) f = inl e
    over true (inr m) f = inr (inr m)
    over false (inl e) f = inr (inl e)
    over false (inr m) f = later (f m)
      where
        later : (y ≡ x) ⊎ Among y zs → (y ≡ x) ⊎ Among y (z ∷ zs)
        later (inl e) = inl e
        later (inr k) = inr (inr k)

-- such an instance was open before
pub record WasOpen (s : Store) (file : FileId) : Type 0 where
  pub instance : Instance
  pub there : Among instance s.instances
  pub same : instance.file ≡ file
  pub opened : is_open instance.stage ≡ true

itself : (s : Store) (i : Instance) → Among i s.instances → IsClosing i.stage → WasOpen s i.file
itself s i a h = record { instance = i; there = a; same = refl; opened = closing_open i.stage h }

-- it is an instance of before, as it was
abbrev ClosingStays : Store → Store → Type 0
ClosingStays s t = (i : Instance) → Among i t.instances → IsClosing i.stage → Among i s.instances

abbrev StaysIn : Store → Outcome Store → Type 0
StaysIn s o = ClosingStays s o.view

stays_itself : (s : Store) → ClosingStays s s
stays_itself s i a h = a

-- one instance is put in place that doesn't close
put_stays : (s t : Store) (j : Instance) → ClosingStays s t → (IsClosing j.stage → ⊥) → ClosingStays s (with_instance j t)
put_stays s t j old new i a h = over (among_latest instance_key j i t.instances a)
  where
    over : (i ≡ j) ⊎ Among i t.instances → Among i s.instances
    over (inl e) = absurd (new (subst (λ (k : Instance). IsClosing k.stage) e h))
    over (inr m) = old i m h

put_running : (s t : Store) (j : Instance) → ClosingStays s t → j.stage ≡ stage.Running → ClosingStays s (with_instance j t)
put_running s t j old is = put_stays s t j old (λ k. subst IsClosing is k)

-- ---- OpenSs ----

opens_made_stays : (f : Frame) (r : StoreRequest) (o : Option ℕ) (s : Store) → ClosingStays s (opens_made f r o s).view
opens_made_stays f r None s = stays_itself s
opens_made_stays f r (Some ino) s = put_running s s _ (stays_itself s) refl

opens_stays : (f : Frame) (r : StoreRequest) (m : Mode) (s : Store) → ClosingStays s (opens f r m s).view
opens_stays f r mode.Make s = opens_made_stays f r (own_ino s r.file.group f.me) s
opens_stays f r _ s = put_running s s _ (stays_itself s) refl

open_ss_stays : (f : Frame) (r : StoreRequest) (o : Option Instance) (s : Store) → ClosingStays s (on_open_ss_of f r o s).view
open_ss_stays f r None s = opens_stays f r r.mode s
open_ss_stays f r (Some i) s = stays_itself s

-- ---- Op ----

acts_stays : (f : Frame) (i : Instance) (o : Op) (r : Result) (w : Work) (s t : Store) → i.stage ≡ stage.Running → ClosingStays s t → ClosingStays s (acts f i o r w t).view
acts_stays f i o r w s t is old = put_running s t (record i { work = w; answered = Some r }) old is

commits_stays : (f : Frame) (i : Instance) (s : Store) → i.stage ≡ stage.Running → ClosingStays s (commits f i s).view
commits_stays f i s is = put_running s s (instance_committed i (next_vector f i) (next_stamp f (next_vector f i))) (stays_itself s) is

owing_stays : (f : Frame) (i : Instance) (s : Store) → i.stage ≡ stage.Running → ClosingStays s (commits_owing f i s).view
owing_stays f i s is = over (is_spent f i)
  where
    made : Instance
    made = instance_committed i (next_vector f i) (next_stamp f (next_vector f i))

    now : Store
    now = (commits f i s).view

    again : (o : Option Instance) → o ≡ Some made → ClosingStays s (acts_committed f (next_stamp f (next_vector f i)) o now).view
    again None e = absurd (none_some made e)
    again (Some j) e = acts_stays f j op.Commit (result.Committed (next_stamp f (next_vector f i))) (counted j.work) s now (ap (λ (z : Instance). z.stage) (some_same j made e) ∙ is) (commits_stays f i s is)

    over : (b : Bool) → StaysIn s (elim b [
      | true ↦ acts f i op.Commit (result.No refusal.Spent) (counted i.work) s
      | false ↦ and_then (commits f i s) (λ z. acts_committed f (next_stamp f (next_vector f i)) (instance_of z i.inst) z)
    ])
    over true = acts_stays f i op.Commit (result.No refusal.Spent) (counted i.work) s s is (stays_itself s)
    over false = again (instance_of now i.inst) (latest_same instance_key made s.instances)

last_stays : (f : Frame) (i : Instance) (o : Option Stamp) (s : Store) → i.stage ≡ stage.Running → ClosingStays s (last_committed f i o s).view
last_stays f i None s is = stays_itself s
last_stays f i (Some stamp) s is = acts_stays f i op.Commit (result.Committed stamp) (counted i.work) s s is (stays_itself s)

commit_stays : (f : Frame) (i : Instance) (s : Store) → i.stage ≡ stage.Running → ClosingStays s (commit_op f i s).view
commit_stays f i s is = elim i.work.owes as (λ b. StaysIn s (elim b [ true ↦ commits_owing f i s | false ↦ last_committed f i i.work.last s ])) [ true ↦ owing_stays f i s is | false ↦ last_stays f i i.work.last s is ]

effect_stays : (f : Frame) (i : Instance) (o : Op) (e : Option Effect) (s : Store) → i.stage ≡ stage.Running → ClosingStays s (executes_effect f i o e s).view
effect_stays f i o None s is = stays_itself s
effect_stays f i o (Some e) s is = (let r : Result = result_in (free_pages s i.file.group) i.work.changed e in acts_stays f i o r (operated e r i.work) s s is (stays_itself s))

executes_stays : (f : Frame) (m : Mending) (i : Instance) (o : Op) (seen : List ℕ) (s : Store) → i.stage ≡ stage.Running → ClosingStays s (executes f m i o seen s).view
executes_stays f m i op.Commit seen s is = commit_stays f i s is
executes_stays f m i op.Abort seen s is = acts_stays f i op.Abort result.Done (aborted i.mode (content_of (copy_of s i.file)) i.work) s s is (stays_itself s)
executes_stays f m i o seen s is = effect_stays f i o (effect_of o seen m i.work.content) s is

number_stays : (f : Frame) (m : Mending) (i : Instance) (n : ℕ) (o : Op) (seen : List ℕ) (s : Store) → i.stage ≡ stage.Running → ClosingStays s (by_number f m i n o seen s).view
number_stays f m i n o seen s is = over (n == i.work.ops) (n == i.work.ops + 1)
  where
    over : (a b : Bool) → StaysIn s (elim a [ true ↦ sends (op_again f i n i.answered) s | false ↦ elim b [ true ↦ executes f m i o seen s | false ↦ quiet s ] ])
    over true b = stays_itself s
    over false true = executes_stays f m i o seen s is
    over false false = stays_itself s

op_at_stays : (f : Frame) (m : Mending) (i : Instance) (g : Stage) (n : ℕ) (o : Op) (seen : List ℕ) (s : Store) → i.stage ≡ g → ClosingStays s (on_op_at f m i g n o seen s).view
op_at_stays f m i stage.Running n o seen s is = number_stays f m i n o seen s is
op_at_stays f m i (stage.Closing made a) n o seen s is = stays_itself s
op_at_stays f m i (stage.Closed a) n o seen s is = stays_itself s

op_stays : (f : Frame) (m : Mending) (q : Option Instance) (n : ℕ) (o : Op) (seen : List ℕ) (s : Store) → ClosingStays s (on_op_of f m q n o seen s).view
op_stays f m None n o seen s = stays_itself s
op_stays f m (Some i) n o seen s = op_at_stays f m i i.stage n o seen s refl

-- ---- Close ----

abbrev ClosingWas : Store → Outcome Store → Type 0
ClosingWas s o = (i : Instance) → Among i o.view.instances → IsClosing i.stage → WasOpen s i.file

shuts_was : (f : Frame) (i : Instance) (a : CloseAnswer) (s t : Store) → WasOpen s i.file → ClosingStays s t → ClosingWas s (shuts f i a t)
shuts_was f i a s t was old j there h = over (among_latest instance_key (shut i (made_version i (copy_of t i.file) i.work.committed) a) j t.instances there)
  where
    over : (j ≡ shut i (made_version i (copy_of t i.file) i.work.committed) a) ⊎ Among j t.instances → WasOpen s j.file
    over (inl e) = subst (λ (k : Instance). WasOpen s k.file) (sym e) was
    over (inr m) = itself s j (old j m h) h

closes_was : (f : Frame) (i : Instance) (s : Store) → Among i s.instances → i.stage ≡ stage.Running → ClosingWas s (closes f i s)
closes_was f i s a is = over i.work.owes
  where
    was : WasOpen s i.file
    was = record { instance = i; there = a; same = refl; opened = subst (λ (g : Stage). is_open g ≡ true) (sym is) refl }

    made : Instance
    made = instance_committed i (next_vector f i) (next_stamp f (next_vector f i))

    now : Store
    now = (commits f i s).view

    again : (o : Option Instance) → o ≡ Some made → ClosingWas s (shuts_again f (closing.Made (next_stamp f (next_vector f i))) o now)
    again None e = absurd (none_some made e)
    again (Some j) e = shuts_was f j (closing.Made (next_stamp f (next_vector f i))) s now (subst (λ (z : Instance). WasOpen s z.file) (sym (some_same j made e)) was) (commits_stays f i s is)

    spent : (b : Bool) → ClosingWas s (elim b [
      | true ↦ shuts f i (closing.No refusal.Spent) s
      | false ↦ and_then (commits f i s) (λ z. shuts_again f (closing.Made (next_stamp f (next_vector f i))) (instance_of z i.inst) z)
    ])
    spent true = shuts_was f i (closing.No refusal.Spent) s s was (stays_itself s)
    spent false = again (instance_of now i.inst) (latest_same instance_key made s.instances)

    over : (b : Bool) → ClosingWas s (elim b [ true ↦ closes_owing f i s | false ↦ shuts f i closing.Nothing s ])
    over true = spent (is_spent f i)
    over false = shuts_was f i closing.Nothing s s was (stays_itself s)

close_at_was : (f : Frame) (i : Instance) (g : Stage) (s : Store) → Among i s.instances → i.stage ≡ g → ClosingWas s (on_close_at f i g s)
close_at_was f i stage.Running s a is = closes_was f i s a is
close_at_was f i (stage.Closing made r) s a is = itself s
close_at_was f i (stage.Closed r) s a is = itself s

close_was : (f : Frame) (inst : Serial) (q : Option Instance) (s : Store) → instance_of s inst ≡ q → ClosingWas s (on_close_of f q s)
close_was f inst None s e = itself s
close_was f inst (Some i) s e = close_at_was f i i.stage s (row_key instance_key _ s.instances i e).0 refl

-- ---- ClosedOk ----

ends_stays : (f : Frame) (i : Instance) (g : Stage) (s : Store) → ClosingStays s (ends_at f i g s).view
ends_stays f i (stage.Closing made a) s = put_stays s s (record i { stage = stage.Closed a }) (stays_itself s) (λ k. k)
ends_stays f i stage.Running s = stays_itself s
ends_stays f i (stage.Closed a) s = stays_itself s

closed_ok_stays : (f : Frame) (q : Option Instance) (s : Store) → ClosingStays s (on_closed_ok_of f q s).view
closed_ok_stays f None s = stays_itself s
closed_ok_stays f (Some i) s = ends_stays f i i.stage s

-- ---- a site ----

table_stays : (g : SyncTable → Outcome SyncTable) (o : Option SyncTable) (v : SiteView) → ClosingStays v.store (at_table_of g o v).view.store
table_stays g None v = stays_itself v.store
table_stays g (Some t) v = stays_itself v.store

abbrev IsNoClose : Body → Type 0
IsNoClose (body.Close serial) = ⊥
IsNoClose _ = Unit {0}

inside_stays : (f : Frame) (from : ℕ) (b : Body) (v : SiteView) → IsNoClose b → ClosingStays v.store (takes_inside f from b v).view.store
inside_stays f from (body.OpenSs inst about m set kind base vector parents) v k =
    let r : StoreRequest = record { inst = inst; file = about; mode = m; set = set; kind = kind; base = base; vector = vector; parents = parents } in
    open_ss_stays f r (instance_of v.store inst) v.store
inside_stays f from (body.Op serial n o seen) v k = op_stays f (mending v (group_of (instance_of v.store (from_user from serial)))) (instance_of v.store (from_user from serial)) n o seen v.store
inside_stays f from (body.ReadHeld serial n at len) v k = subst (λ (s : Store). ClosingStays v.store s) (sym (form_view (instance_of v.store (from_user from serial)) (on_op f nothing_to_mend (from_user from serial) n (op.Read at len) nothing_seen v.store))) (op_stays f nothing_to_mend (instance_of v.store (from_user from serial)) n (op.Read at len) nothing_seen v.store)
inside_stays f from (body.Close serial) v k = absurd k
inside_stays f from (body.ClosedOk inst) v k = closed_ok_stays f (instance_of v.store inst) v.store
inside_stays f from (body.Report group copies) v k = table_stays (on_report f from copies) (row table_group group v.tables) v
inside_stays f from (body.Open serial call process request about how) v k = table_stays (on_open f from (record { serial = serial; call = call; process = process; request = request; file = about; how = how })) (row table_group about.group v.tables) v
inside_stays f from (body.Opened inst answer) v k = table_stays (on_opened f inst answer) (first_that (is_opened_in inst) v.tables) v
inside_stays f from (body.Closed inst made) v k = table_stays (on_closed f from inst made) (first_that (is_opened_in inst) v.tables) v
inside_stays f from (body.Look call process request take about what) v k = table_stays (on_look f from (record { call = call; process = process; request = request; take = take; file = about; what = what })) (row table_group about.group v.tables) v
inside_stays f from (body.Have about stamp) v k = table_stays (on_have from about stamp) (row table_group about.group v.tables) v
inside_stays f from _ v k = stays_itself v.store

pub inside_was : (f : Frame) (from : ℕ) (b : Body) (v : SiteView) (i : Instance) → Among i (takes_inside f from b v).view.store.instances → IsClosing i.stage → WasOpen v.store i.file
inside_was f from (body.Close serial) v = close_was f (from_user from serial) (instance_of v.store (from_user from serial)) v.store refl
inside_was f from b v = λ i a h. itself v.store i (inside_stays f from b v tt i a h) h

-- ---- what the site tells of it ----

-- where it is as it was, or the synchronization site is told in the event
abbrev pub TellsClosing : Frame → Store → Instance → List Packet → Type 0
TellsClosing f s i sent = Among i s.instances ⊎ ((made : Option MadeVersion) (a : CloseAnswer) → i.stage ≡ stage.Closing made a → (q : Packet) → Among q (closed_packets f i made) → Among q sent)

abbrev ClosingTold : Frame → Store → Outcome Store → Type 0
ClosingTold f s o = (i : Instance) → Among i o.view.instances → IsClosing i.stage → TellsClosing f s i o.sent

shuts_told : (f : Frame) (i : Instance) (a : CloseAnswer) (s t : Store) → ClosingStays s t → ClosingTold f s (shuts f i a t)
shuts_told f i a s t old j there h = over (among_latest instance_key new j t.instances there)
  where
    ver : Option MadeVersion
    ver = made_version i (copy_of t i.file) i.work.committed

    new : Instance
    new = shut i (made_version i (copy_of t i.file) i.work.committed) a

    made_is : (x y : Option MadeVersion) (b d : CloseAnswer) → stage.Closing x b ≡ stage.Closing y d → x ≡ y
    made_is x y b d e = cc

    over : (j ≡ new) ⊎ Among j t.instances → TellsClosing f s j (closed_packets f i ver)
    over (inl e) = inr (λ made b is q k. subst (λ (m : Option MadeVersion). Among q (closed_packets f i m)) (sym (made_is ver made a b (sym (ap (λ (z : Instance). z.stage) e) ∙ is))) (subst (λ (z : Instance). Among q (closed_packets f z made)) e k))
    over (inr m) = inl (old j m h)

closes_told : (f : Frame) (i : Instance) (s : Store) → i.stage ≡ stage.Running → ClosingTold f s (closes f i s)
closes_told f i s is = over i.work.owes
  where
    made : Instance
    made = instance_committed i (next_vector f i) (next_stamp f (next_vector f i))

    now : Store
    now = (commits f i s).view

    again : (o : Option Instance) → o ≡ Some made → ClosingTold f s (shuts_again f (closing.Made (next_stamp f (next_vector f i))) o now)
    again None e = absurd (none_some made e)
    again (Some j) e = shuts_told f j (closing.Made (next_stamp f (next_vector f i))) s now (commits_stays f i s is)

    spent : (b : Bool) → ClosingTold f s (elim b [
      | true ↦ shuts f i (closing.No refusal.Spent) s
      | false ↦ and_then (commits f i s) (λ z. shuts_again f (closing.Made (next_stamp f (next_vector f i))) (instance_of z i.inst) z)
    ])
    spent true = shuts_told f i (closing.No refusal.Spent) s s (stays_itself s)
    spent false = again (instance_of now i.inst) (latest_same instance_key made s.instances)

    over : (b : Bool) → ClosingTold f s (elim b [ true ↦ closes_owing f i s | false ↦ shuts f i closing.Nothing s ])
    over true = spent (is_spent f i)
    over false = shuts_told f i closing.Nothing s s (stays_itself s)

close_at_told : (f : Frame) (i : Instance) (g : Stage) (s : Store) → i.stage ≡ g → ClosingTold f s (on_close_at f i g s)
close_at_told f i stage.Running s is = closes_told f i s is
close_at_told f i (stage.Closing made r) s is = λ j a h. inl a
close_at_told f i (stage.Closed r) s is = λ j a h. inl a

close_told : (f : Frame) (q : Option Instance) (s : Store) → ClosingTold f s (on_close_of f q s)
close_told f None s = λ j a h. inl a
close_told f (Some i) s = close_at_told f i i.stage s refl

pub inside_told : (f : Frame) (from : ℕ) (b : Body) (v : SiteView) (i : Instance) → Among i (takes_inside f from b v).view.store.instances → IsClosing i.stage → TellsClosing f v.store i (takes_inside f from b v).sent
inside_told f from (body.Close serial) v = close_told f (instance_of v.store (from_user from serial)) v.store
inside_told f from b v = λ i a h. inl (inside_stays f from b v tt i a h)

-- ---- adoptions ----

notes_instances : (f : Frame) (p : Pull) (o : Option SyncTable) (v : SiteView) → (notes_own_at f p o v).store.instances ≡ v.store.instances
notes_instances f p None v = refl
notes_instances f p (Some t) v = refl

pub adopts_instances : (f : Frame) (ps : List Pull) (v : SiteView) → (adopts_first f ps v).view.store.instances ≡ v.store.instances
adopts_instances f [] v = refl
adopts_instances f (p ∷ ps) v = by_ready (is_ready v p) (adopts_instances f ps v) (adopts_instances f ps (without_pull p v))
  where
    Same : Outcome SiteView → Type 0
    Same o = o.view.store.instances ≡ v.store.instances

    by_above : (b : Bool) → Same (adopts_first f ps (without_pull p v)) → Same (elim b [ true ↦ adopts_pull f p v | false ↦ adopts_first f ps (without_pull p v) ])
    by_above true k = (let mid : SiteView = with_adopted p v in notes_instances f p (row table_group p.file.group mid.tables) mid)
    by_above false k = k

    by_ready : (b : Bool) → Same (adopts_first f ps v) → Same (adopts_first f ps (without_pull p v)) → Same (elim b [ true ↦ elim (fits_own p (copy_of v.store p.file)) [ true ↦ adopts_pull f p v | false ↦ adopts_first f ps (without_pull p v) ] | false ↦ adopts_first f ps v ])
    by_ready true h k = by_above (fits_own p (copy_of v.store p.file)) k
    by_ready false h k = h

adopts_of_instances : (c : Config) (me : ℕ) (o : Option InEpoch) (v : SiteView) → (adopts_of c me o v).view.store.instances ≡ v.store.instances
adopts_of_instances c me None v = refl
adopts_of_instances c me (Some e) v = adopts_instances (frame_in c me v.boot e) v.pulls v

pub tries_instances : (c : Config) (me : ℕ) (b : Body) (v : SiteView) → (tries_at c me b v).view.store.instances ≡ v.store.instances
tries_instances c me (body.Notify about kind set size stamp vector holder) v = adopts_of_instances c me v.epoch v
tries_instances c me (body.Page about stamp page bytes) v = adopts_of_instances c me v.epoch v
tries_instances c me (body.Delta about wanted pages) v = adopts_of_instances c me v.epoch v
tries_instances c me _ v = refl

pub tick_instances : (c : Config) (me : ℕ) (v : SiteView) → (adopts_in c me v).view.store.instances ≡ v.store.instances
tick_instances c me v = adopts_of_instances c me v.epoch v

-- ---- what is open ----

pub open_there : (s : Store) (file : FileId) → has_open s file ≡ true → (i : Instance) × Among i s.instances × (is_open i.stage ≡ true) × (i.file ≡ file)
open_there s file h = over s.instances h
  where
    over : (xs : List Instance) → list_any (is_open_of file) xs ≡ true → (i : Instance) × Among i xs × (is_open i.stage ≡ true) × (i.file ≡ file)
    over [] k = absurd (true_false (sym k))
    over (x ∷ xs) k = at (is_open x.stage) (same_file x.file file) refl refl k (over xs)
      where
        later : (list_any (is_open_of file) xs ≡ true → (i : Instance) × Among i xs × (is_open i.stage ≡ true) × (i.file ≡ file)) → list_any (is_open_of file) xs ≡ true → (i : Instance) × Among i (x ∷ xs) × (is_open i.stage ≡ true) × (i.file ≡ file)
        later f q = (let r : (i : Instance) × Among i xs × (is_open i.stage ≡ true) × (i.file ≡ file) = f q in (r.0, inr r.1, r.2, r.3))

        at : (a b : Bool) → is_open x.stage ≡ a → same_file x.file file ≡ b → ((a && b) || list_any (is_open_of file) xs) ≡ true → (list_any (is_open_of file) xs ≡ true → (i : Instance) × Among i xs × (is_open i.stage ≡ true) × (i.file ≡ file)) →
            (i : Instance) × Among i (x ∷ xs) × (is_open i.stage ≡ true) × (i.file ≡ file)
        at true true p q k f = (x, inl refl, p, same_file_eq x.file file q)
        at true false p q k f = later f k
        at false b p q k f = later f k

pub there_open : (s : Store) (file : FileId) (i : Instance) → Among i s.instances → is_open i.stage ≡ true → i.file ≡ file → has_open s file ≡ true
there_open s file i a h is = over s.instances a
  where
    same : (f : FileId) → same_file f f ≡ true
    same f = grind (arith, nat_tests)

    passes : is_open_of file i ≡ true
    passes = ap (λ (b : Bool). b && same_file i.file file) h ∙ subst (λ (f : FileId). same_file i.file f ≡ true) is (same i.file)

    either : (a b : Bool) → b ≡ true → (a || b) ≡ true
    either true b k = refl
    either false b k = k

    over : (xs : List Instance) → Among i xs → list_any (is_open_of file) xs ≡ true
    over [] b = absurd b
    over (x ∷ xs) (inl eq) = ap (λ (b : Bool). b || list_any (is_open_of file) xs) (subst (λ (y : Instance). is_open_of file y ≡ true) eq passes)
    over (x ∷ xs) (inr b) = either (is_open_of file x) (list_any (is_open_of file) xs) (over xs b)

pub stage_open : (g : Stage) → is_open g ≡ true → (g ≡ stage.Running) ⊎ IsClosing g
stage_open stage.Running h = inl refl
stage_open (stage.Closing made a) h = inr tt
stage_open (stage.Closed a) h = absurd (true_false (sym h))

-- none is open, where none runs and none closes
pub none_is : (s : Store) (file : FileId) → ((i : Instance) → Among i s.instances → i.file ≡ file → i.stage ≡ stage.Running → ⊥) → ((i : Instance) → Among i s.instances → i.file ≡ file → IsClosing i.stage → ⊥) → has_open s file ≡ false
none_is s file runs closes = over (has_open s file) refl
  where
    by_stage : (i : Instance) → Among i s.instances → i.file ≡ file → (i.stage ≡ stage.Running) ⊎ IsClosing i.stage → ⊥
    by_stage i a is (inl k) = runs i a is k
    by_stage i a is (inr k) = closes i a is k

    over : (b : Bool) → has_open s file ≡ b → b ≡ false
    over true h = (let r : (i : Instance) × Among i s.instances × (is_open i.stage ≡ true) × (i.file ≡ file) = open_there s file h in absurd (by_stage r.0 r.1 r.3 (stage_open r.0.stage r.2)))
    over false h = refl
