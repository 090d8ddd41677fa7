-- The step of a site: one event, one outcome.
use Rattle.std.specs.Prelude.{ℕ, ◌==◌, nat_lt, Bool, true, false, not, ◌&&◌, ◌||◌, List, [], ◌++◌, Option, Some, None}
use Rattle.std.specs.List.{list_any, flat_map}
use Rattle.std.specs.Ordering.{nat_cmp, is_lt}
use Rattle.std.specs.Cmp.Lexicographic.{slice_cmp}
use Rattle.std.specs.declared.cmp.Ordering.TheVariants.{Less, Equal, Greater}
use Rattle.locus_ids.specs.declared.ids.Serial.{Serial}
use Rattle.locus_ids.specs.declared.ids.EpochId.{EpochId}
use Rattle.locus_ids.specs.declared.sites.Links.{Links}
use Rattle.locus_ids.specs.declared.config.Config.{Config}
use Rattle.role_steps.specs.of_trace_book.Same.{same_epoch, same_serial}
use Rattle.role_steps.specs.of_trace_book.declared.call.Call.{Call}
use Rattle.role_steps.specs.of_wire_messages.Bodies.{kind_number, body_bytes}
use Rattle.role_steps.specs.of_wire_messages.declared.packet.Packet.{Packet}
use Rattle.role_steps.specs.of_wire_messages.declared.body.Body.{Body}
use Rattle.role_steps.specs.of_wire_messages.declared.body.Body.TheVariants as body
use Rattle.role_steps.specs.Tables.{row, without_row, first_that, sorted}
use Rattle.role_steps.specs.Views.{Frame, Store, Users, SiteView, Outcome, Event, Calls, Receives, Ticks, Parts, Merges, GivesUp, quiet, and_then, first_written, within, boot_in}
use Rattle.role_steps.specs.Opens.{on_opened}
use Rattle.role_steps.specs.Reports.{on_report, on_open, on_look, on_closed, on_have, sync_repeats}
use Rattle.role_steps.specs.Storage.{copy_of, instance_of, on_open_ss, on_close, on_closed_ok, on_look_ss, on_pull, on_want, store_repeats}
use Rattle.role_steps.specs.Operations.{on_op, on_read_held}
use Rattle.role_steps.specs.Pulling.{on_notify, on_page, on_delta, pull_repeats}
use Rattle.role_steps.specs.Requests.{users_repeats}
use Rattle.role_steps.specs.Using.{on_call, on_open_done, on_op_done, on_as_held, on_close_done, on_look_done}
use Rattle.role_steps.specs.Epochs.{frame_in, with_users, no_members, leaves, starts_merge, starts_part, on_poll, on_promise, on_refuse, on_install, on_joined, passes_over, poll_repeats, install_repeats, all_reports}
use Rattle.role_steps.specs.Adoption.{table_group, with_table, with_store, adopts}
use Rattle.role_steps.specs.Mends.{mending, kept_stamps, starts_mends}
use Rattle.role_steps.specs.declared.instances.Instance.{Instance}
use Rattle.role_steps.specs.declared.pulls.Pull.{Pull}
use Rattle.role_steps.specs.declared.rounds.InEpoch.{InEpoch}
use Rattle.role_steps.specs.declared.synchronizing.SyncTable.{SyncTable}
use Rattle.role_steps.specs.declared.synchronizing.OpenRow.{OpenRow}

-- ---- the order of packets ----

-- packets go by kind, then by receiver, then by the bytes of their bodies
abbrev pub is_before : Packet → Packet → Bool
is_before p q = elim (nat_cmp (kind_number p.body) (kind_number q.body)) [
  | Less ↦ true
  | Greater ↦ false
  | Equal ↦ elim (nat_cmp p.to q.to) [
    | Less ↦ true
    | Greater ↦ false
    | Equal ↦ is_lt (slice_cmp nat_cmp (body_bytes p.body) (body_bytes q.body))
  ]
]

abbrev pub in_order : List Packet → List Packet
in_order ps = sorted is_before ps

-- ---- a role's outcome in the site ----

abbrev pub at_table_of : (SyncTable → Outcome SyncTable) → Option SyncTable → SiteView → Outcome SiteView
at_table_of g None v = quiet v
at_table_of g (Some t) v = within (λ (now : SyncTable). with_table now v) (g t)

-- at the synchronization site of the group
abbrev pub at_table : (SyncTable → Outcome SyncTable) → ℕ → SiteView → Outcome SiteView
at_table g group v = at_table_of g (row table_group group v.tables) v

abbrev pub is_opened_in : Serial → SyncTable → Bool
is_opened_in inst t = list_any (λ (r : OpenRow). same_serial r.inst inst) t.opens

-- at the synchronization site of the instance's group: a serial number is used once in all groups
abbrev pub at_table_with : (SyncTable → Outcome SyncTable) → Serial → SiteView → Outcome SiteView
at_table_with g inst v = at_table_of g (first_that (is_opened_in inst) v.tables) v

abbrev pub at_store : (Store → Outcome Store) → SiteView → Outcome SiteView
at_store g v = within (with_store v) (g v.store)

abbrev pub at_users : (Users → Outcome Users) → SiteView → Outcome SiteView
at_users g v = within (with_users v) (g v.users)

abbrev pub with_pulls : SiteView → List Pull → SiteView
with_pulls v ps = record v { pulls = ps }

abbrev pub at_pulls : (List Pull → Outcome (List Pull)) → SiteView → Outcome SiteView
at_pulls g v = within (with_pulls v) (g v.pulls)

-- ---- a packet in the epoch of the site, by its kind ----

abbrev pub from_user : ℕ → ℕ → Serial
from_user us serial = record { us = us; serial = serial }

abbrev pub group_of : Option Instance → ℕ
group_of None = 0
group_of (Some i) = i.file.group

abbrev pub takes_inside : Frame → ℕ → Body → SiteView → Outcome SiteView
takes_inside f from (body.Report group copies) v = at_table (on_report f from copies) group v
takes_inside f from (body.ReportOk group) v = quiet (record v { reports = without_row (λ g. g) group v.reports })
takes_inside f from (body.Open serial call process request file how) v =
    at_table (on_open f from (record { serial = serial; call = call; process = process; request = request; file = file; how = how })) file.group v
takes_inside f from (body.OpenSs inst file mode set kind base vector parents) v =
    at_store (on_open_ss f (record { inst = inst; file = file; mode = mode; set = set; kind = kind; base = base; vector = vector; parents = parents })) v
takes_inside f from (body.Opened inst answer) v = at_table_with (on_opened f inst answer) inst v
takes_inside f from (body.OpenDone serial answer) v = at_users (on_open_done f (kept_stamps v) serial answer) v
takes_inside f from (body.Op serial n o seen) v =
    at_store (on_op f (mending v (group_of (instance_of v.store (from_user from serial)))) (from_user from serial) n o seen) v
takes_inside f from (body.OpDone serial n result) v = at_users (on_op_done f serial n result) v
takes_inside f from (body.ReadHeld serial n at len) v = at_store (on_read_held f (from_user from serial) n at len) v
takes_inside f from (body.AsHeld serial n len) v = at_users (on_as_held f serial n) v
takes_inside f from (body.Close serial) v = at_store (on_close f (from_user from serial)) v
takes_inside f from (body.Closed inst made) v = at_table_with (on_closed f from inst made) inst v
takes_inside f from (body.ClosedOk inst) v = at_store (on_closed_ok f inst) v
takes_inside f from (body.CloseDone serial answer) v = at_users (on_close_done f serial answer) v
takes_inside f from (body.Look call process request take file what) v =
    at_table (on_look f from (record { call = call; process = process; request = request; take = take; file = file; what = what })) file.group v
takes_inside f from (body.LookSs us call process request take file what serve) v =
    at_store (on_look_ss f us (record { call = call; process = process; request = request; take = take; file = file; what = what }) serve) v
takes_inside f from (body.LookDone call request take answer) v = at_users (on_look_done f call request take answer) v
takes_inside f from (body.Notify file kind set size stamp vector holder) v =
    at_pulls (on_notify f from (copy_of v.store file) (record { file = file; kind = kind; set = set; size = size; stamp = stamp; vector = vector; holder = holder; base = None; wanted = None; content = [] })) v
takes_inside f from (body.Pull file stamp page) v = at_store (on_pull f from file stamp page) v
takes_inside f from (body.Page file stamp page bytes) v = at_pulls (on_page f file stamp page bytes) v
takes_inside f from (body.Have file stamp) v = at_table (on_have from file stamp) file.group v
takes_inside f from (body.Want file wanted own) v = at_store (on_want f from file wanted own) v
takes_inside f from (body.Delta file wanted pages) v = at_pulls (on_delta f (copy_of v.store file) file wanted pages) v
takes_inside f from _ v = quiet v

-- ---- the frame of a packet ----

-- the packet's epoch is the site's, and its sender is a member with its boot number
abbrev pub is_framed : Packet → Option InEpoch → Bool
is_framed p None = false
is_framed p (Some e) = same_epoch e.id p.epoch && (boot_in e.members.boot p.from == p.from_boot)

-- the packet forms an epoch
abbrev pub is_forming : Packet → Bool
is_forming p = nat_lt (kind_number p.body) 6

-- a packet to another boot of the site, or of another epoch, is dropped: nothing at all happens
abbrev pub is_dropped : Packet → SiteView → Bool
is_dropped p v = not ((p.to_boot == v.boot) && (is_forming p || is_framed p v.epoch))

abbrev pub takes_framed : Config → ℕ → Packet → Option InEpoch → SiteView → Outcome SiteView
takes_framed c me p None v = quiet v
takes_framed c me p (Some e) v = takes_inside (frame_in c me v.boot e) p.from p.body v

abbrev pub takes : Config → ℕ → Links → Packet → Body → SiteView → Outcome SiteView
takes c me links p body.Poll v = on_poll me links p.from p.from_boot p.epoch v
takes c me links p (body.Promise reach) v = on_promise p.from p.from_boot p.epoch reach v
takes c me links p (body.Refuse promised) v = on_refuse me links p.epoch promised v
takes c me links p (body.Install members) v = on_install c me p.from p.from_boot p.epoch members v
takes c me links p body.Joined v = on_joined p.from p.epoch v
takes c me links p _ v = takes_framed c me p v.epoch v

-- ---- adoptions ----

abbrev pub adopts_of : Config → ℕ → Option InEpoch → SiteView → Outcome SiteView
adopts_of c me None v = quiet v
adopts_of c me (Some e) v = adopts (frame_in c me v.boot e) v

abbrev pub adopts_in : Config → ℕ → SiteView → Outcome SiteView
adopts_in c me v = adopts_of c me v.epoch v

-- an adoption is tried at each Notify, each Page and each Delta
abbrev pub tries_at : Config → ℕ → Body → SiteView → Outcome SiteView
tries_at c me (body.Notify file kind set size stamp vector holder) v = adopts_in c me v
tries_at c me (body.Page file stamp page bytes) v = adopts_in c me v
tries_at c me (body.Delta file wanted pages) v = adopts_in c me v
tries_at c me _ v = quiet v

-- ---- the end of an event ----

abbrev pub starts_mends_of : Config → ℕ → Option InEpoch → SiteView → Outcome SiteView
starts_mends_of c me None v = quiet v
starts_mends_of c me (Some e) v = starts_mends (frame_in c me v.boot e) v

-- sites are passed over, a round whose answers are all there is decided, and mends start
abbrev pub ends_event : Config → ℕ → Links → SiteView → Outcome SiteView
ends_event c me links v = and_then (passes_over c me links v) (λ now. starts_mends_of c me now.epoch now)

-- An event and its end: the adoption that it tries is told first and its Have is sent first; all other packets go in their
-- order together.
abbrev pub ended : Outcome SiteView → Outcome SiteView → Outcome SiteView → Outcome SiteView
ended o adopted last = record {
  view = last.view;
  sent = adopted.sent ++ in_order (o.sent ++ last.sent);
  told = adopted.told ++ (o.told ++ last.told);
  written = first_written adopted.written (first_written o.written last.written);
}

abbrev pub ends_after : Config → ℕ → Links → Outcome SiteView → Outcome SiteView → Outcome SiteView
ends_after c me links o adopted = ended o adopted (ends_event c me links adopted.view)

abbrev pub whole : Config → ℕ → Links → Outcome SiteView → (SiteView → Outcome SiteView) → Outcome SiteView
whole c me links o tries = ends_after c me links o (tries o.view)

-- ---- a tick ----

abbrev pub repeats_inside : Frame → InEpoch → SiteView → List Packet
repeats_inside f e v =
    in_order (all_reports f v)
    ++ (users_repeats f v.users
    ++ (in_order (store_repeats f v.store)
    ++ (in_order (pull_repeats f v.pulls)
    ++ in_order (flat_map (sync_repeats f) v.tables))))

abbrev pub repeats_of : Config → ℕ → Option InEpoch → SiteView → List Packet
repeats_of c me None v = in_order (poll_repeats me v v.round)
repeats_of c me (Some e) v = in_order (poll_repeats me v v.round ++ install_repeats me v e) ++ repeats_inside (frame_in c me v.boot e) e v

-- What a site sends again, class by class: Polls and Installs, Reports, the current request of each waiting call, each
-- Closed, each Want and Pull, and Notifies. Requests go by process, all others in their order.
abbrev pub repeats : Config → ℕ → SiteView → List Packet
repeats c me v = repeats_of c me v.epoch v

abbrev pub tick_ended : Outcome SiteView → List Packet → Outcome SiteView → Outcome SiteView
tick_ended adopted again last = record {
  view = last.view;
  sent = adopted.sent ++ (again ++ in_order last.sent);
  told = adopted.told ++ last.told;
  written = first_written adopted.written last.written;
}

abbrev pub ticks_after : Config → ℕ → Links → Outcome SiteView → Outcome SiteView
ticks_after c me links adopted = tick_ended adopted (repeats c me adopted.view) (ends_event c me links adopted.view)

-- ---- calls ----

-- outside of an epoch a call runs in the frame of no members, where it is refused at once
abbrev pub call_frame : Config → ℕ → ℕ → Option InEpoch → Frame
call_frame c me boot None = record { config = c; me = me; boot = boot; epoch = record { number = 0; site = 0; boot = 0 }; members = no_members }
call_frame c me boot (Some e) = frame_in c me boot e

abbrev pub epoch_id : Option InEpoch → Option EpochId
epoch_id None = None
epoch_id (Some e) = Some e.id

abbrev pub takes_call : Config → ℕ → ℕ → Call → SiteView → Outcome SiteView
takes_call c me process words v = at_users (on_call (call_frame c me v.boot v.epoch) (epoch_id v.epoch) process words) v

-- ---- the step ----

abbrev pub step : Config → ℕ → Links → SiteView → Event → Outcome SiteView
step c me links v (Calls process words) = whole c me links (takes_call c me process words v) quiet
step c me links v (Receives p) = elim (is_dropped p v) [
  | true ↦ quiet v
  | false ↦ whole c me links (takes c me links p p.body v) (tries_at c me p.body)
]
step c me links v Ticks = ticks_after c me links (adopts_in c me v)
step c me links v Parts = whole c me links (starts_part me links v) quiet
step c me links v Merges = whole c me links (starts_merge me links v) quiet
step c me links v GivesUp = whole c me links (leaves me v) quiet
