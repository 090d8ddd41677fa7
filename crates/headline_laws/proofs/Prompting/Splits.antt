-- What the step of a site tells: its head, and the rest, which answers no call but a mend.
use Rattle.std.proofs.Common.{◌≡◌, ℕ, ◌+◌, ◌&&◌, not, cond, Bool, true, false, List, [], ◌∷◌, ◌++◌, Option, Some, None, refl, sym, ap, subst, ◌∙◌, ◌⊎◌, inl, inr, append_assoc}
use Rattle.std.proofs.lemmas.List.{append-nil}
use Rattle.locus_ids.specs.declared.config.Config.{Config}
use Rattle.locus_ids.specs.declared.ids.EpochId.{EpochId}
use Rattle.locus_ids.specs.declared.sites.Links.{Links}
use Rattle.trace_book.specs.Same.{same_epoch}
use Rattle.trace_book.specs.declared.call.Call.{Call}
use Rattle.trace_book.specs.declared.operation.Outcome.{Outcome as Result}
use Rattle.trace_book.specs.declared.operation.What.TheVariants as what
use Rattle.trace_book.specs.declared.record.Record.{Record}
use Rattle.trace_book.specs.declared.record.Record.TheVariants as says
use Rattle.call_rules.specs.declared.answer.Answer.{Answer}
use Rattle.wire_messages.specs.declared.body.Body.{Body}
use Rattle.wire_messages.specs.declared.body.Body.TheVariants as body
use Rattle.wire_messages.specs.declared.body.CloseAnswer.{CloseAnswer}
use Rattle.wire_messages.specs.declared.body.Granted.{Granted}
use Rattle.wire_messages.specs.declared.body.Granted.TheVariants as granted
use Rattle.wire_messages.specs.declared.body.LookAnswer.{LookAnswer}
use Rattle.wire_messages.specs.declared.body.LookAnswer.TheVariants as looked
use Rattle.wire_messages.specs.declared.packet.Packet.{Packet}
use Rattle.locus_ids.specs.declared.sites.Members.{Members}
use Rattle.locus_ids.specs.declared.sites.Sites.{Sites}
use Rattle.role_steps.specs.Epochs.{is_in, joined_packet, joins, promise_packet, promises, reached, refuse_packet, round_id, starts_merge, starts_part, boots_where, frame_in, leaves, may_install, merge_boot, on_install, on_poll, on_promise_of, on_refuse_of, begins_round, is_epoch_below, starts_part_of, part_boot}
use Rattle.role_steps.specs.Mends.{kept_stamps}
use Rattle.role_steps.specs.Own.{Every}
use Rattle.role_steps.specs.Pulling.{pull_of, pages_in}
use Rattle.role_steps.specs.Storage.{copy_of}
use Rattle.role_steps.specs.Tables.{first_that}
use Rattle.role_steps.specs.Using.{asks_close_of, asks_op_number, asks_open_of, asks_take, close_answer, content_answer, looks_again, with_brought, on_close_done_of, on_look_done_of, on_op_done_of, on_open_done_of, op_answer, takes_answer, takes_look, asks_held_number, keeps_brought, takes_copied, on_as_held_of}
use Rattle.role_steps.specs.Views.{Event, Calls, Receives, Ticks, Parts, Merges, GivesUp, Frame, SiteView, Told, Shown, Promises, Users, Outcome, and_then, quiet, sends}
use Rattle.role_steps.specs.declared.rounds.InEpoch.{InEpoch}
use Rattle.role_steps.specs.declared.rounds.Round.{Round}
use Rattle.role_steps.specs.declared.synchronizing.SyncTable.{SyncTable}
use Rattle.role_steps.specs.declared.users.Asking.{Asking}
use Rattle.role_steps.specs.declared.users.Asking.TheVariants as asking
use Rattle.role_steps.specs.declared.users.WaitingCall.{WaitingCall}
use Rattle.the_run.specs.Kept.{Among}
use Rattle.the_run.specs.Steps.{adopts_in, at_table_of, ends_event, is_dropped, step, takes, takes_call, takes_framed, takes_inside, tries_at, whole}
use Rattle.role_steps.proofs.Caching.{kept_only}
use Rattle.run_laws.specs.Walks.Kinds.{IsVersion, TellsStore, TellsTable}
use Rattle.run_laws.specs.Walks.Laws.{Law, StoresKeep, TableAnswers, TablesKeep, VersionsKeep, frame_law}
use Rattle.run_laws.proofs.Walks.Premises.{frame_stores, frame_tables}
use Rattle.the_run.specs.Roles.{IsForUser}
use Rattle.the_run.proofs.Roles.{by_role, tables_by, stores_by, readers_by, pulls_by}
use Rattle.site_laws.proofs.Locks.StepFacts.{framed_notify, notify_silent, page_silent, delta_silent}
use Rattle.headline_laws.proofs.Prompting.Heads.{Mild, MildTold, accepted_by, adopts_of_mild, ends_mild, mild_any, mild_append}

-- ---- roles that answer no call ----

every_mild : (xs : List Told) → Every (MildTold None) xs → Mild None xs
every_mild [] h = tt
every_mild (x ∷ xs) h = (h.0, mild_any (accepted_by x) xs (every_mild xs h.1))

abbrev mild_law : Law
mild_law = frame_law (λ p. Unit {0}) (MildTold None) (λ d. Unit {0})

table_tells : (t : Told) → TellsTable t → MildTold None t
table_tells (Shown (says.Start epoch group files)) k = tt
table_tells (Shown (says.Look epoch id request file what result)) k = tt
table_tells (Shown (says.Grant epoch id request inst mode file stamp ss)) k = tt
table_tells (Shown (says.Refuse epoch id request inst mode file why)) k = tt
table_tells (Shown (says.Release epoch inst file made)) k = tt
table_tells (Shown _) k = absurd k
table_tells _ k = tt

store_tells : (t : Told) → TellsStore t → MildTold None t
store_tells (Shown (says.Act epoch inst n o result)) k = tt
store_tells (Shown _) k = absurd k
store_tells _ k = tt

version_tells : (r : Record) → IsVersion r → MildTold None (Shown r)
version_tells (says.Commit file site stamp parents content) k = tt
version_tells (says.Adopt file site stamp) k = tt
version_tells _ k = absurd k

tables : (f : Frame) → TablesKeep mild_law f
tables f = frame_tables (λ p. Unit {0}) (MildTold None) (λ d. Unit {0}) f (λ to b. tt) table_tells tt

stores : (f : Frame) → StoresKeep mild_law f
stores f = frame_stores (λ p. Unit {0}) (MildTold None) (λ d. Unit {0}) f (λ to b. tt) store_tells tt

versions : VersionsKeep mild_law
versions = record { tells = version_tells; writes = λ d k. tt }

backs : (f : Frame) (from : ℕ) → TableAnswers mild_law f from
backs f from = record { reported = λ t k. tt; closed = λ i. tt }

table_mild : (g : SyncTable → Outcome SyncTable) (o : Option SyncTable) (v : SiteView) → ((t : SyncTable) → Every (MildTold None) (g t).told) → Mild None (at_table_of g o v).told
table_mild g None v h = tt
table_mild g (Some t) v h = every_mild (g t).told (h t)

-- ---- heads ----

-- a process takes an answer, and its call goes on
pub record IsTaken (f : Frame) (v : SiteView) (told : List Told) : Type 0 where
  pub call : WaitingCall
  pub among : Among call v.users.waiting
  pub brought : List (List ℕ)
  pub answer : Answer
  pub users : Users
  pub descriptors : users.descriptors ≡ v.users.descriptors
  pub told_is : told ≡ (takes_answer f (record call { brought = brought }) answer users).told

-- a packet of the epoch
abbrev pub Inside : Frame → SiteView → List Told → Type 0
Inside f v told = Mild None told ⊎ IsTaken f v told

found_in : {A : Type 0} (test : A → Bool) (xs : List A) (x : A) → first_that test xs ≡ Some x → Among x xs
found_in test [] x e = absurd (cc)
found_in {A} test (y ∷ ys) x e = at (found_in test ys x) (test y) e
  where
    at : (first_that test ys ≡ Some x → Among x ys) → (b : Bool) → elim b as (λ (k : Bool). Option A) [ true ↦ Some y | false ↦ first_that test ys ] ≡ Some x → (x ≡ y) ⊎ Among x ys
    at later true k = inl (cc)
    at later false k = inr (later k)

opened_inside : (f : Frame) (v : SiteView) (serial : ℕ) (a : Granted) (o : Option WaitingCall) → ((w : WaitingCall) → o ≡ Some w → Among w v.users.waiting) → Inside f v (on_open_done_of f (kept_stamps v) serial a o v.users).told
opened_inside f v serial a None among = inl tt
opened_inside f v serial (granted.Open ss ino size stamp vector) (Some w) among = inr (record { call = w; among = among w refl; brought = w.brought; answer = _; users = _; descriptors = refl; told_is = refl })
opened_inside f v serial (granted.No why) (Some w) among = inr (record { call = w; among = among w refl; brought = w.brought; answer = _; users = v.users; descriptors = refl; told_is = refl })

acted_inside : (f : Frame) (v : SiteView) (r : Result) (o : Option WaitingCall) → ((w : WaitingCall) → o ≡ Some w → Among w v.users.waiting) → Inside f v (on_op_done_of f r o v.users).told
acted_inside f v r None among = inl tt
acted_inside f v r (Some w) among = inr (record { call = w; among = among w refl; brought = w.brought; answer = op_answer r; users = keeps_brought w.asking r v.users; descriptors = kept_only (λ (u : Users). u.descriptors ≡ v.users.descriptors) w.asking r v.users (λ pages. refl); told_is = refl })

copied_inside : (f : Frame) (v : SiteView) (w : WaitingCall) (copied : Option (List ℕ)) → Among w v.users.waiting → Inside f v (takes_copied f w copied v.users).told
copied_inside f v w None among = inl tt
copied_inside f v w (Some bytes) among = inr (record { call = w; among = among; brought = w.brought; answer = _; users = v.users; descriptors = refl; told_is = refl })

held_inside : (f : Frame) (v : SiteView) (o : Option WaitingCall) → ((w : WaitingCall) → o ≡ Some w → Among w v.users.waiting) → Inside f v (on_as_held_of f o v.users).told
held_inside f v None among = inl tt
held_inside f v (Some w) among = copied_inside f v w w.copied (among w refl)

closed_inside : (f : Frame) (v : SiteView) (serial : ℕ) (a : CloseAnswer) (o : Option WaitingCall) → ((w : WaitingCall) → o ≡ Some w → Among w v.users.waiting) → Inside f v (on_close_done_of f serial a o v.users).told
closed_inside f v serial a None among = inl tt
closed_inside f v serial a (Some w) among = inr (record { call = w; among = among w refl; brought = w.brought; answer = close_answer a; users = _; descriptors = refl; told_is = refl })

again_mild : (f : Frame) (w : WaitingCall) (a : Asking) (u : Users) → Mild None (looks_again f w a u).told
again_mild f w (asking.Look file what take) u = (tt, tt)
again_mild f w _ u = tt

whole_inside : (f : Frame) (v : SiteView) (w : WaitingCall) (among : Among w v.users.waiting) (bytes : List ℕ) (a : Asking) → w.asking ≡ a → Inside f v (takes_look f w (looked.Content bytes) v.users).told
whole_inside f v w among bytes (asking.Look file (what.Whole stamp) take) e = inr (record { call = w; among = among; brought = w.brought ++ bytes ∷ []; answer = _; users = v.users; descriptors = refl; told_is = ap (λ (x : Asking). (takes_answer f (with_brought x bytes w) (content_answer x bytes) v.users).told) e })
whole_inside f v w among bytes _ e = inr (record { call = w; among = among; brought = w.brought; answer = _; users = v.users; descriptors = refl; told_is = ap (λ (x : Asking). (takes_answer f (with_brought x bytes w) (content_answer x bytes) v.users).told) e })

looked_inside : (f : Frame) (v : SiteView) (a : LookAnswer) (o : Option WaitingCall) → ((w : WaitingCall) → o ≡ Some w → Among w v.users.waiting) → Inside f v (on_look_done_of f a o v.users).told
looked_inside f v a None among = inl tt
looked_inside f v (looked.Found ino kind) (Some w) among = inr (record { call = w; among = among w refl; brought = w.brought; answer = _; users = v.users; descriptors = refl; told_is = refl })
looked_inside f v (looked.Content bytes) (Some w) among = whole_inside f v w (among w refl) bytes w.asking refl
looked_inside f v (looked.Stat kind size stamp) (Some w) among = inr (record { call = w; among = among w refl; brought = w.brought; answer = _; users = v.users; descriptors = refl; told_is = refl })
looked_inside f v looked.Moved (Some w) among = inl (again_mild f w w.asking v.users)
looked_inside f v (looked.No why) (Some w) among = inr (record { call = w; among = among w refl; brought = w.brought; answer = _; users = v.users; descriptors = refl; told_is = refl })

-- ---- a packet of the epoch ----

users_inside : (f : Frame) (from : ℕ) (v : SiteView) (x : Body) → IsForUser x → Inside f v (takes_inside f from x v).told
users_inside f from v (body.OpenDone serial answer) h = opened_inside f v serial answer (first_that (asks_open_of serial) v.users.waiting) (found_in (asks_open_of serial) v.users.waiting)
users_inside f from v (body.OpDone serial n result) h = acted_inside f v result (first_that (asks_op_number serial n result) v.users.waiting) (found_in (asks_op_number serial n result) v.users.waiting)
users_inside f from v (body.AsHeld serial n len) h = held_inside f v (first_that (asks_held_number serial n) v.users.waiting) (found_in (asks_held_number serial n) v.users.waiting)
users_inside f from v (body.CloseDone serial answer) h = closed_inside f v serial answer (first_that (asks_close_of serial) v.users.waiting) (found_in (asks_close_of serial) v.users.waiting)
users_inside f from v (body.LookDone call request take answer) h = looked_inside f v answer (first_that (asks_take call request take answer) v.users.waiting) (found_in (asks_take call request take answer) v.users.waiting)
users_inside f from v _ h = absurd h

abbrev InsideOf : Frame → SiteView → Body → Outcome SiteView → Type 0
InsideOf f v x o = Inside f v o.told

inside_told : (f : Frame) (from : ℕ) (x : Body) (v : SiteView) → Inside f v (takes_inside f from x v).told
inside_told f from x v = by_role (InsideOf f v) f from v (record {
  tables = tables_by (InsideOf f v) mild_law f from v (tables f) (backs f from) (λ t. tt) (λ y g o is h. inl (table_mild g o v (λ t. (h t).1)));
  stores = stores_by (InsideOf f v) mild_law f from v (stores f) versions (λ y o is h. inl (every_mild o.told h.1));
  readers = readers_by (InsideOf f v) mild_law f from v (stores f).reads (λ b is. tt) (λ y o is same h. inl (every_mild o.told h.1));
  users = users_inside f from v;
  pulls = pulls_by (InsideOf f v) mild_law f from v (stores f).reads (λ b is. tt) (λ y o is h. inl (every_mild o.told h.1));
  reported = λ group. inl tt;
  forming = λ y is. inl tt;
}) x

-- ---- an event ----

-- a line asks a call
pub record IsCalled (c : Config) (me : ℕ) (v : SiteView) (e : Event) (told : List Told) : Type 0 where
  pub process : ℕ
  pub words : Call
  pub event_is : e ≡ Calls process words
  pub told_is : told ≡ (takes_call c me process words v).told

-- an answer is taken in the epoch of the site
pub record IsTakenIn (c : Config) (me : ℕ) (v : SiteView) (told : List Told) : Type 0 where
  pub epoch : InEpoch
  pub inside : v.epoch ≡ Some epoch
  pub taken : IsTaken (frame_in c me v.boot epoch) v told

abbrev pub Head : Config → ℕ → SiteView → Event → List Told → Type 0
Head c me v e told = (told ≡ []) ⊎ (IsCalled c me v e told ⊎ (IsTakenIn c me v told ⊎ (told ≡ (leaves me v).told)))

pub record Splits (c : Config) (me : ℕ) (v : SiteView) (e : Event) (told : List Told) : Type 0 where
  pub first : List Told
  pub rest : List Told
  pub told_is : told ≡ first ++ rest
  pub head : Head c me v e first
  pub mild : Mild None rest

mild_splits : (c : Config) (me : ℕ) (v : SiteView) (e : Event) (told : List Told) → Mild None told → Splits c me v e told
mild_splits c me v e told m = record { first = []; rest = told; told_is = refl; head = inl refl; mild = m }

-- more comes after it
splits_then : (c : Config) (me : ℕ) (v : SiteView) (e : Event) (told more : List Told) → Splits c me v e told → Mild None more → Splits c me v e (told ++ more)
splits_then c me v e told more k m = record { first = k.first; rest = k.rest ++ more; told_is = ap (λ (xs : List Told). xs ++ more) k.told_is ∙ append_assoc k.first k.rest more; head = k.head; mild = mild_append None k.rest more k.mild m }

leaves_splits : (c : Config) (me : ℕ) (v : SiteView) (e : Event) → Splits c me v e (leaves me v).told
leaves_splits c me v e = record { first = (leaves me v).told; rest = []; told_is = sym (append-nil (leaves me v).told); head = inr (inr (inr refl)); mild = tt }

framed_splits : (c : Config) (me : ℕ) (p : Packet) (e : Event) (o : Option InEpoch) (v : SiteView) → v.epoch ≡ o → Splits c me v e (takes_framed c me p o v).told
framed_splits c me p e None v here = mild_splits c me v e [] tt
framed_splits c me p e (Some i) v here = over (inside_told (frame_in c me v.boot i) p.from p.body v)
  where
    over : Inside (frame_in c me v.boot i) v (takes_inside (frame_in c me v.boot i) p.from p.body v).told → Splits c me v e (takes_inside (frame_in c me v.boot i) p.from p.body v).told
    over (inl m) = mild_splits c me v e _ m
    over (inr k) = record { first = _; rest = []; told_is = sym (append-nil _); head = inr (inr (inl (record { epoch = i; inside = here; taken = k }))); mild = tt }

-- ---- what forms an epoch ----

begins_splits : (c : Config) (me : ℕ) (e : Event) (links : Links) (number : ℕ) (polled : Links) (v : SiteView) → Splits c me v e (begins_round me links number polled v).told
begins_splits c me e links number polled v = splits_then c me v e ((leaves me v).told ++ Promises me (round_id me number v) (reached links) ∷ []) [] (splits_then c me v e (leaves me v).told (Promises me (round_id me number v) (reached links) ∷ []) (leaves_splits c me v e) (tt, tt)) tt

parts_splits : (c : Config) (me : ℕ) (e : Event) (links : Links) (o : Option InEpoch) (v : SiteView) → Splits c me v e (starts_part_of me links o v).told
parts_splits c me e links None v = mild_splits c me v e [] tt
parts_splits c me e links (Some i) v = begins_splits c me e links (v.promised.number + 1) (boots_where (part_boot me links i.members)) v

poll_splits : (c : Config) (me : ℕ) (e : Event) (links : Links) (from from_boot : ℕ) (id : EpochId) (v : SiteView) → Splits c me v e (on_poll me links from from_boot id v).told
poll_splits c me e links from from_boot id v = over (is_epoch_below v.promised id)
  where
    over : (b : Bool) → Splits c me v e (elim b as (λ (x : Bool). Outcome SiteView) [ true ↦ and_then (promises me id (reached links) v) (λ now. sends (promise_packet me links from from_boot id now) now) | false ↦ sends (cond (same_epoch id v.promised && not v.installed) (promise_packet me links from from_boot id v) (refuse_packet me from from_boot id v)) v ]).told
    over true = splits_then c me v e ((leaves me v).told ++ Promises me id (reached links) ∷ []) [] (splits_then c me v e (leaves me v).told (Promises me id (reached links) ∷ []) (leaves_splits c me v e) (tt, tt)) tt
    over false = mild_splits c me v e [] tt

promise_splits : (c : Config) (me : ℕ) (e : Event) (from from_boot : ℕ) (id : EpochId) (reach : Sites) (o : Option Round) (v : SiteView) → Splits c me v e (on_promise_of from from_boot id reach o v).told
promise_splits c me e from from_boot id reach None v = mild_splits c me v e [] tt
promise_splits c me e from from_boot id reach (Some r) v = mild_splits c me v e [] tt

refuse_splits : (c : Config) (me : ℕ) (e : Event) (links : Links) (id theirs : EpochId) (o : Option Round) (v : SiteView) → Splits c me v e (on_refuse_of me links id theirs o v).told
refuse_splits c me e links id theirs None v = mild_splits c me v e [] tt
refuse_splits c me e links id theirs (Some r) v = over (same_epoch r.id id)
  where
    over : (b : Bool) → Splits c me v e (elim b as (λ (x : Bool). Outcome SiteView) [ true ↦ begins_round me links (theirs.number + 1) r.polled v | false ↦ quiet v ]).told
    over true = begins_splits c me e links (theirs.number + 1) r.polled v
    over false = mild_splits c me v e [] tt

install_splits : (c : Config) (me : ℕ) (e : Event) (from from_boot : ℕ) (id : EpochId) (members : Members) (v : SiteView) → Splits c me v e (on_install c me from from_boot id members v).told
install_splits c me e from from_boot id members v = over (may_install me id members v)
  where
    over : (b : Bool) → Splits c me v e (elim b as (λ (x : Bool). Outcome SiteView) [ true ↦ and_then (joins c me id members v) (λ now. sends (joined_packet me from from_boot id now) now) | false ↦ sends (cond (is_in id v.epoch) (joined_packet me from from_boot id v) []) v ]).told
    over true = mild_splits c me v e (Shown (says.Join me id members) ∷ []) (tt, tt)
    over false = mild_splits c me v e [] tt

takes_splits : (c : Config) (me : ℕ) (links : Links) (p : Packet) (x : Body) (e : Event) (v : SiteView) → Splits c me v e (takes c me links p x v).told
takes_splits c me links p body.Poll e v = poll_splits c me e links p.from p.from_boot p.epoch v
takes_splits c me links p (body.Promise reach) e v = promise_splits c me e p.from p.from_boot p.epoch reach v.round v
takes_splits c me links p (body.Refuse promised) e v = refuse_splits c me e links p.epoch promised v.round v
takes_splits c me links p (body.Install members) e v = install_splits c me e p.from p.from_boot p.epoch members v
takes_splits c me links p body.Joined e v = mild_splits c me v e [] tt
takes_splits c me links p _ e v = framed_splits c me p e v.epoch v refl

-- ---- every event ----

untried_splits : (c : Config) (me : ℕ) (links : Links) (e : Event) (v : SiteView) (o : Outcome SiteView) → Splits c me v e o.told → Splits c me v e (whole c me links o quiet).told
untried_splits c me links e v o k = splits_then c me v e o.told (ends_event c me links o.view).told k (ends_mild c me links o.view)

tried_splits : (c : Config) (me : ℕ) (links : Links) (e : Event) (v : SiteView) (o : Outcome SiteView) → o.told ≡ [] → Splits c me v e (whole c me links o (adopts_in c me)).told
tried_splits c me links e v o none = mild_splits c me v e _ (mild_append None (adopts_in c me o.view).told (o.told ++ (ends_event c me links (adopts_in c me o.view).view).told) (adopts_of_mild c me o.view.epoch o.view)
    (subst (λ (xs : List Told). Mild None (xs ++ (ends_event c me links (adopts_in c me o.view).view).told)) (sym none) (ends_mild c me links (adopts_in c me o.view).view)))

received_splits : (c : Config) (me : ℕ) (links : Links) (p : Packet) (x : Body) (e : Event) (v : SiteView) → p.body ≡ x → Splits c me v e (whole c me links (takes c me links p x v) (tries_at c me x)).told
received_splits c me links p (body.Notify file kind set size stamp vector holder) e v q =
    tried_splits c me links e v (takes_framed c me p v.epoch v) (framed_notify c me p (body.Notify file kind set size stamp vector holder) v.epoch v q (λ f. notify_silent f p.from (copy_of v.store file) (record { file = file; kind = kind; set = set; size = size; stamp = stamp; vector = vector; holder = holder; base = None; wanted = None; content = [] }) v.pulls)).0
received_splits c me links p (body.Page file stamp page bytes) e v q =
    tried_splits c me links e v (takes_framed c me p v.epoch v) (framed_notify c me p (body.Page file stamp page bytes) v.epoch v q (λ f. page_silent f stamp page bytes (pull_of v.pulls file) v.pulls)).0
received_splits c me links p (body.Delta file wanted pages) e v q =
    tried_splits c me links e v (takes_framed c me p v.epoch v) (framed_notify c me p (body.Delta file wanted pages) v.epoch v q (λ f. delta_silent f (pages_in (copy_of v.store file)) wanted pages (pull_of v.pulls file) v.pulls)).0
received_splits c me links p x e v q = untried_splits c me links e v (takes c me links p x v) (takes_splits c me links p x e v)

pub step_splits : (c : Config) (me : ℕ) (links : Links) (v : SiteView) (e : Event) → Splits c me v e (step c me links v e).told
step_splits c me links v (Calls process words) = untried_splits c me links (Calls process words) v (takes_call c me process words v) (record { first = _; rest = []; told_is = sym (append-nil _); head = inr (inl (record { process = process; words = words; event_is = refl; told_is = refl })); mild = tt })
step_splits c me links v (Receives p) = over (is_dropped p v)
  where
    over : (b : Bool) → Splits c me v (Receives p) (elim b as (λ (x : Bool). Outcome SiteView) [ true ↦ quiet v | false ↦ whole c me links (takes c me links p p.body v) (tries_at c me p.body) ]).told
    over true = mild_splits c me v (Receives p) [] tt
    over false = received_splits c me links p p.body (Receives p) v refl
step_splits c me links v Ticks = mild_splits c me v Ticks _ (mild_append None (adopts_in c me v).told (ends_event c me links (adopts_in c me v).view).told (adopts_of_mild c me v.epoch v) (ends_mild c me links (adopts_in c me v).view))
step_splits c me links v Parts = untried_splits c me links Parts v (starts_part me links v) (parts_splits c me Parts links v.epoch v)
step_splits c me links v Merges = untried_splits c me links Merges v (starts_merge me links v) (begins_splits c me Merges links (v.promised.number + 1) (boots_where (merge_boot me links)) v)
step_splits c me links v GivesUp = untried_splits c me links GivesUp v (leaves me v) (leaves_splits c me v GivesUp)
