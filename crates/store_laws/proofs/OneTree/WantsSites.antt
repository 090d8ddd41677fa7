-- What a site does but for pulls and answers to wants: it sends neither wants nor deltas, and in its epoch it leaves what it pulls; or it
-- leaves the epoch, or joins one.
use Rattle.std.proofs.Common.{◌≡◌, ℕ, ◌+◌, ◌&&◌, not, Bool, true, false, cond, List, [], ◌∷◌, ◌++◌, map, Option, Some, None, refl, sym, ◌∙◌, ◌⊎◌, inl, inr}
use Rattle.locus_ids.specs.declared.config.Config.{Config}
use Rattle.locus_ids.specs.declared.ids.EpochId.{EpochId}
use Rattle.locus_ids.specs.declared.sites.Links.{Links}
use Rattle.locus_ids.specs.declared.sites.Members.{Members}
use Rattle.locus_ids.specs.declared.sites.Sites.{Sites}
use Rattle.trace_book.specs.Same.{same_epoch}
use Rattle.trace_book.specs.declared.call.Call.{Call}
use Rattle.trace_book.specs.declared.call.Call.TheVariants as call
use Rattle.trace_book.specs.declared.record.Record.{Record}
use Rattle.trace_book.specs.declared.record.Record.TheVariants as says
use Rattle.wire_messages.specs.declared.body.Body.{Body}
use Rattle.wire_messages.specs.declared.body.Body.TheVariants as body
use Rattle.wire_messages.specs.declared.packet.Packet.{Packet}
use Rattle.role_steps.specs.Epochs.{is_epoch_below, frame_in, leaves_of, leaves, promises, promised_view, reached, poll_packet, polled_sites, polls, round_id, begins_round, starts_merge, boots_where, merge_boot, part_boot, starts_part_of, starts_part, promise_packet, refuse_packet, on_poll, on_promise_of, on_refuse_of, report_packets, all_reports, joined_view, joins, may_install, is_in, joined_packet, on_install, on_joined, passed_over, unanswered, chosen_members, chosen_set, others_of, install_packet, installs_all, decides, decides_if, passes_over_of, passes_over, poll_repeats, install_repeats}
use Rattle.role_steps.specs.Mends.{has_mend_in, wants_mend, starts_mend_of, starts_mend, starts_mends_in, starts_mends, row_file}
use Rattle.role_steps.specs.Own.{Every}
use Rattle.role_steps.specs.Pulling.{pull_key}
use Rattle.role_steps.specs.Requests.{users_repeats}
use Rattle.role_steps.specs.Tables.{without_row, first_that}
use Rattle.role_steps.specs.Using.{changed_records, on_call}
use Rattle.role_steps.specs.Views.{Frame, SiteView, Users, Told, Shown, Promises, Takes, LooksAgain, Outcome, DiskWrite, quiet, sends, tells, and_then, packet}
use Rattle.role_steps.specs.declared.rounds.InEpoch.{InEpoch}
use Rattle.role_steps.specs.declared.rounds.Round.{Round}
use Rattle.role_steps.specs.declared.synchronizing.FileRow.{FileRow}
use Rattle.role_steps.specs.declared.synchronizing.LastLook.{LastLook}
use Rattle.role_steps.specs.declared.synchronizing.SyncTable.{SyncTable}
use Rattle.role_steps.specs.declared.users.WaitingCall.{WaitingCall}
use Rattle.role_steps.proofs.Sending.{every_append, every_cond, every_flat_map, every_map}
use Rattle.the_run.specs.Kept.{Among}
use Rattle.the_run.specs.Steps.{ends_event, starts_mends_of}
use Rattle.row_laws.specs.of_run_laws.Walks.Kinds.{IsOfTable, IsUserRequest, IsOfUser, IsTableRecord, TellsTable, IsCallRecord, TellsCall}
use Rattle.row_laws.specs.of_run_laws.Walks.Laws.{Law, TablesKeep, UsersKeep, TableAnswers, body_law}
use Rattle.row_laws.proofs.of_run_laws.Walks.Premises.{body_tables}
use Rattle.row_laws.proofs.of_run_laws.Walks.RoleWalks.{on_call_walk}
use Rattle.tree_laws.specs.Stores.{Ascends}
use Rattle.store_laws.specs.OneTree.Wants.{IsPlain}
use Rattle.store_laws.proofs.OneTree.WantsStores.{OfPlain, plain_sync}

-- ---- neither wants nor deltas ----

abbrev pub PlainSent : Packet → Type 0
PlainSent p = IsPlain p.body

pub of_plain : (f : Frame) → OfPlain PlainSent f
of_plain f = λ to b k. k

pub table_plain : (b : Body) → IsOfTable b → IsPlain b
table_plain (body.OpenSs inst file mode set kind base vector parents) h = tt
table_plain (body.OpenDone serial answer) h = tt
table_plain (body.LookSs us call process request take file what serve) h = tt
table_plain (body.LookDone call request take answer) h = tt
table_plain (body.Notify file kind set size stamp vector holder) h = tt
table_plain _ h = absurd h

request_plain : (b : Body) → IsUserRequest b → IsPlain b
request_plain (body.Open serial call process request file how) h = tt
request_plain (body.Look call process request take file what) h = tt
request_plain _ h = absurd h

user_plain : (b : Body) → IsOfUser b → IsPlain b
user_plain (body.Op serial n o seen) h = tt
user_plain (body.ReadHeld serial n at len) h = tt
user_plain (body.Close serial) h = tt
user_plain _ h = absurd h

-- ---- no adoptions ----

abbrev pub IsKeptRecord : Record → Type 0
IsKeptRecord (says.Adopt file site stamp) = ⊥
IsKeptRecord _ = Unit {0}

-- no version is adopted
abbrev pub NoAdoption : Told → Type 0
NoAdoption (Shown r) = IsKeptRecord r
NoAdoption _ = Unit {0}

table_record : (r : Record) → IsTableRecord r → IsKeptRecord r
table_record (says.Start epoch group files) h = tt
table_record (says.Look epoch id request file what result) h = tt
table_record (says.Grant epoch id request inst mode file stamp ss) h = tt
table_record (says.Refuse epoch id request inst mode file why) h = tt
table_record (says.Release epoch inst file made) h = tt
table_record _ h = absurd h

table_told : (t : Told) → TellsTable t → NoAdoption t
table_told (Shown r) h = table_record r h
table_told _ h = absurd h

call_record : (r : Record) → IsCallRecord r → IsKeptRecord r
call_record (says.Accept site process call words) h = tt
call_record (says.Answer site process call r) h = tt
call_record _ h = absurd h

call_told : (t : Told) → TellsCall t → NoAdoption t
call_told (Shown r) h = call_record r h
call_told (Takes site call request take a) h = tt
call_told (LooksAgain site call request take) h = tt
call_told _ h = absurd h

changed_told : (me boot : ℕ) (e : EpochId) (ws : List WaitingCall) → Every NoAdoption (changed_records me boot e ws)
changed_told me boot e [] = tt
changed_told me boot e (w ∷ ws) = (tt, changed_told me boot e ws)

abbrev pub plain_law : Law
plain_law = body_law IsPlain NoAdoption (λ w. Unit {0})

pub tables_plain : (f : Frame) → TablesKeep plain_law f
tables_plain f = body_tables IsPlain NoAdoption (λ w. Unit {0}) f table_plain table_told tt

pub users_plain : (f : Frame) → UsersKeep plain_law f
users_plain f = record { asks = λ group to b k e. request_plain b k; sends = λ to b k. user_plain b k; tells = call_told; unwritten = tt }

pub answers_plain : (f : Frame) (from : ℕ) → TableAnswers plain_law f from
answers_plain f from = record { reported = λ t k. tt; closed = λ i. tt }

-- ---- where a part of an event leaves the site ----

-- in the epoch in which it was, with the same pulls; in none; or in one that it has just joined
abbrev pub Goes : ℕ → SiteView → Outcome SiteView → Type 0
Goes me v o = ((o.view.epoch ≡ v.epoch) × (o.view.pulls ≡ v.pulls)) ⊎ ((o.view.epoch ≡ None) ⊎ ((e : InEpoch) × (o.view.epoch ≡ Some e) × Among (Shown (says.Join me e.id e.members)) o.told))

pub record IsPlainPart (me : ℕ) (v : SiteView) (o : Outcome SiteView) : Type 0 where
  pub sent : Every PlainSent o.sent
  pub told : Every NoAdoption o.told
  pub goes : Goes me v o
  pub ascends : Ascends pull_key v.pulls → Ascends pull_key o.view.pulls

among_first : (x : Told) (xs ys : List Told) → Among x xs → Among x (xs ++ ys)
among_first x [] ys m = absurd m
among_first x (z ∷ xs) ys (inl e) = inl e
among_first x (z ∷ xs) ys (inr m) = inr (among_first x xs ys m)

among_last : (x : Told) (xs ys : List Told) → Among x ys → Among x (xs ++ ys)
among_last x [] ys m = m
among_last x (z ∷ xs) ys m = inr (among_last x xs ys m)

goes_then : (me : ℕ) (v : SiteView) (o p : Outcome SiteView) → Goes me v o → Goes me o.view p → Goes me v (and_then o (λ now. p))
goes_then me v o p (inl a) (inl b) = inl (b.0 ∙ a.0, b.1 ∙ a.1)
goes_then me v o p (inr (inl a)) (inl b) = inr (inl (b.0 ∙ a))
goes_then me v o p (inr (inr a)) (inl b) = inr (inr (a.0, b.0 ∙ a.1, among_first (Shown (says.Join me a.0.id a.0.members)) o.told p.told a.2))
goes_then me v o p a (inr (inl b)) = inr (inl b)
goes_then me v o p a (inr (inr b)) = inr (inr (b.0, b.1, among_last (Shown (says.Join me b.0.id b.0.members)) o.told p.told b.2))

pub part_then : (me : ℕ) (v : SiteView) (o : Outcome SiteView) (g : SiteView → Outcome SiteView) → IsPlainPart me v o → IsPlainPart me o.view (g o.view) → IsPlainPart me v (and_then o g)
part_then me v o g a b = record {
  sent = every_append PlainSent o.sent (g o.view).sent a.sent b.sent;
  told = every_append NoAdoption o.told (g o.view).told a.told b.told;
  goes = goes_then me v o (g o.view) a.goes b.goes;
  ascends = λ k. b.ascends (a.ascends k);
}

pub quiet_part : (me : ℕ) (v : SiteView) → IsPlainPart me v (quiet v)
quiet_part me v = record { sent = tt; told = tt; goes = inl (refl, refl); ascends = λ k. k }

-- ---- leaving, promises, rounds ----

leaves_of_part : (me : ℕ) (e : Option InEpoch) (v : SiteView) → IsPlainPart me v (leaves_of me e v)
leaves_of_part me None v = quiet_part me v
leaves_of_part me (Some e) v = record { sent = tt; told = (tt, changed_told me v.boot e.id v.users.waiting); goes = inr (inl refl); ascends = λ k. tt }

pub leaves_part : (me : ℕ) (v : SiteView) → IsPlainPart me v (leaves me v)
leaves_part me v = leaves_of_part me v.epoch v

promises_part : (me : ℕ) (id : EpochId) (reach : Sites) (v : SiteView) → IsPlainPart me v (promises me id reach v)
promises_part me id reach v = part_then me v (leaves me v) (λ now. tells (Promises me id reach ∷ []) (promised_view id now)) (leaves_part me v) (record { sent = tt; told = (tt, tt); goes = inl (refl, refl); ascends = λ k. k })

polls_part : (me : ℕ) (id : EpochId) (polled : Links) (v : SiteView) → IsPlainPart me v (polls me id polled v)
polls_part me id polled v = record { sent = every_map PlainSent (poll_packet me v.boot id polled) (polled_sites polled) (λ s. tt); told = tt; goes = inl (refl, refl); ascends = λ k. k }

pub begins_part : (me : ℕ) (links : Links) (number : ℕ) (polled : Links) (v : SiteView) → IsPlainPart me v (begins_round me links number polled v)
begins_part me links number polled v = part_then me v (promises me (round_id me number v) (reached links) v) (polls me (round_id me number v) polled) (promises_part me (round_id me number v) (reached links) v) (polls_part me (round_id me number v) polled (promises me (round_id me number v) (reached links) v).view)

starts_part_of_part : (me : ℕ) (links : Links) (e : Option InEpoch) (v : SiteView) → IsPlainPart me v (starts_part_of me links e v)
starts_part_of_part me links None v = quiet_part me v
starts_part_of_part me links (Some e) v = begins_part me links (v.promised.number + 1) (boots_where (part_boot me links e.members)) v

pub starts_part_part : (me : ℕ) (links : Links) (v : SiteView) → IsPlainPart me v (starts_part me links v)
starts_part_part me links v = starts_part_of_part me links v.epoch v

-- ---- what forms an epoch ----

pub poll_part : (me : ℕ) (links : Links) (from from_boot : ℕ) (id : EpochId) (v : SiteView) → IsPlainPart me v (on_poll me links from from_boot id v)
poll_part me links from from_boot id v =
    elim (is_epoch_below v.promised id) as (λ t. IsPlainPart me v (elim t [ true ↦ and_then (promises me id (reached links) v) (λ now. sends (promise_packet me links from from_boot id now) now) | false ↦ sends (cond (same_epoch id v.promised && not v.installed) (promise_packet me links from from_boot id v) (refuse_packet me from from_boot id v)) v ])) [
      | true ↦ part_then me v (promises me id (reached links) v) (λ now. sends (promise_packet me links from from_boot id now) now) (promises_part me id (reached links) v) (record { sent = (tt, tt); told = tt; goes = inl (refl, refl); ascends = λ k. k })
      | false ↦ record { sent = every_cond PlainSent (same_epoch id v.promised && not v.installed) (promise_packet me links from from_boot id v) (refuse_packet me from from_boot id v) (tt, tt) (tt, tt); told = tt; goes = inl (refl, refl); ascends = λ k. k }
    ]

pub promise_part : (me from from_boot : ℕ) (id : EpochId) (reach : Sites) (r : Option Round) (v : SiteView) → IsPlainPart me v (on_promise_of from from_boot id reach r v)
promise_part me from from_boot id reach None v = quiet_part me v
promise_part me from from_boot id reach (Some r) v = record { sent = tt; told = tt; goes = inl (refl, refl); ascends = λ k. k }

pub refuse_part : (me : ℕ) (links : Links) (id theirs : EpochId) (r : Option Round) (v : SiteView) → IsPlainPart me v (on_refuse_of me links id theirs r v)
refuse_part me links id theirs None v = quiet_part me v
refuse_part me links id theirs (Some r) v =
    elim (same_epoch r.id id) as (λ t. IsPlainPart me v (elim t [ true ↦ begins_round me links (theirs.number + 1) r.polled v | false ↦ quiet v ])) [
      | true ↦ begins_part me links (theirs.number + 1) r.polled v
      | false ↦ quiet_part me v
    ]

pub reports_plain : (f : Frame) (v : SiteView) → Every PlainSent (all_reports f v)
reports_plain f v = every_flat_map PlainSent (report_packets f v) v.reports (λ g. plain_sync PlainSent f (of_plain f) g _ tt)

joins_part : (c : Config) (me : ℕ) (id : EpochId) (members : Members) (v : SiteView) → IsPlainPart me v (joins c me id members v)
joins_part c me id members v = record {
  sent = reports_plain (frame_in c me v.boot (record { id = id; members = members })) (joined_view c me id members v);
  told = (tt, tt);
  goes = inr (inr (record { id = id; members = members }, refl, inl refl));
  ascends = λ k. k;
}

pub install_part : (c : Config) (me from from_boot : ℕ) (id : EpochId) (members : Members) (v : SiteView) → IsPlainPart me v (on_install c me from from_boot id members v)
install_part c me from from_boot id members v =
    elim (may_install me id members v) as (λ t. IsPlainPart me v (elim t [ true ↦ and_then (joins c me id members v) (λ now. sends (joined_packet me from from_boot id now) now) | false ↦ sends (cond (is_in id v.epoch) (joined_packet me from from_boot id v) []) v ])) [
      | true ↦ part_then me v (joins c me id members v) (λ now. sends (joined_packet me from from_boot id now) now) (joins_part c me id members v) (record { sent = (tt, tt); told = tt; goes = inl (refl, refl); ascends = λ k. k })
      | false ↦ record { sent = every_cond PlainSent (is_in id v.epoch) (joined_packet me from from_boot id v) [] (tt, tt) tt; told = tt; goes = inl (refl, refl); ascends = λ k. k }
    ]

pub joined_part : (me from : ℕ) (id : EpochId) (v : SiteView) → IsPlainPart me v (on_joined from id v)
joined_part me from id v = over (is_in id v.epoch)
  where
    over : (b : Bool) → IsPlainPart me v (quiet (cond b (record v { installs = without_row (λ s. s) from v.installs }) v))
    over true = record { sent = tt; told = tt; goes = inl (refl, refl); ascends = λ k. k }
    over false = record { sent = tt; told = tt; goes = inl (refl, refl); ascends = λ k. k }

-- ---- the end of an event ----

decides_part : (c : Config) (me : ℕ) (id : EpochId) (members : Members) (v : SiteView) → IsPlainPart me v (decides c me id members v)
decides_part c me id members v = part_then me v (joins c me id members v) (installs_all me id members) (joins_part c me id members v) (record { sent = every_map PlainSent (install_packet me v.boot id members) (others_of me members) (λ s. tt); told = tt; goes = inl (refl, refl); ascends = λ k. k })

decides_if_part : (c : Config) (me : ℕ) (links : Links) (r : Round) (xs : List ℕ) (v : SiteView) → IsPlainPart me v (decides_if c me links r xs v)
decides_if_part c me links r [] v = decides_part c me r.id (chosen_members me v.boot r (chosen_set me links r)) v
decides_if_part c me links r (s ∷ ss) v = record { sent = tt; told = tt; goes = inl (refl, refl); ascends = λ k. k }

passes_over_of_part : (c : Config) (me : ℕ) (links : Links) (r : Option Round) (v : SiteView) → IsPlainPart me v (passes_over_of c me links r v)
passes_over_of_part c me links None v = quiet_part me v
passes_over_of_part c me links (Some r) v = decides_if_part c me links (passed_over links r) (unanswered (passed_over links r)) v

-- ---- mends ----

starts_mend_of_part : (me : ℕ) (f : Frame) (t : SyncTable) (o : Option FileRow) (v : SiteView) → IsPlainPart me v (starts_mend_of f t o v)
starts_mend_of_part me f t None v = quiet_part me v
starts_mend_of_part me f t (Some r) v = record { sent = (on_call_walk plain_law f (users_plain f) (Some f.epoch) 0 (call.Mend (row_file t r)) v.users (λ n. tt)).0; told = (on_call_walk plain_law f (users_plain f) (Some f.epoch) 0 (call.Mend (row_file t r)) v.users (λ n. tt)).1; goes = inl (refl, refl); ascends = λ k. k }

starts_mend_part : (me : ℕ) (f : Frame) (t : SyncTable) (v : SiteView) → IsPlainPart me v (starts_mend f t v)
starts_mend_part me f t v =
    elim (t.started && not (has_mend_in v.users t.group)) as (λ x. IsPlainPart me v (elim x [ true ↦ starts_mend_of f t (first_that (wants_mend v t) t.files) v | false ↦ quiet v ])) [
      | true ↦ starts_mend_of_part me f t (first_that (wants_mend v t) t.files) v
      | false ↦ quiet_part me v
    ]

starts_mends_in_part : (me : ℕ) (f : Frame) (ts : List SyncTable) (v : SiteView) → IsPlainPart me v (starts_mends_in f ts v)
starts_mends_in_part me f [] v = quiet_part me v
starts_mends_in_part me f (t ∷ ts) v = part_then me v (starts_mend f t v) (starts_mends_in f ts) (starts_mend_part me f t v) (starts_mends_in_part me f ts (starts_mend f t v).view)

mends_of_part : (c : Config) (me : ℕ) (e : Option InEpoch) (v : SiteView) → IsPlainPart me v (starts_mends_of c me e v)
mends_of_part c me None v = quiet_part me v
mends_of_part c me (Some e) v = starts_mends_in_part me (frame_in c me v.boot e) v.tables v

pub ends_part : (c : Config) (me : ℕ) (links : Links) (v : SiteView) → IsPlainPart me v (ends_event c me links v)
ends_part c me links v = part_then me v (passes_over c me links v) (λ now. starts_mends_of c me now.epoch now) (passes_over_of_part c me links v.round v) (mends_of_part c me (passes_over c me links v).view.epoch (passes_over c me links v).view)

-- ---- what is sent again ----

pub polls_again_plain : (me : ℕ) (v : SiteView) (r : Option Round) → Every PlainSent (poll_repeats me v r)
polls_again_plain me v None = tt
polls_again_plain me v (Some r) = every_map PlainSent (poll_packet me v.boot r.id r.polled) (unanswered r) (λ s. tt)

pub installs_again_plain : (me : ℕ) (v : SiteView) (e : InEpoch) → Every PlainSent (install_repeats me v e)
installs_again_plain me v e = every_map PlainSent (install_packet me v.boot e.id e.members) v.installs (λ s. tt)
