-- How sites agree on an epoch: polls, promises, refusals, the decision, and joining and leaving.
use Rattle.std.specs.Prelude.{ℕ, ◌+◌, ◌==◌, nat_lt, Bool, true, false, not, ◌&&◌, ◌||◌, cond, List, [], ◌∷◌, map, filter, Option, Some, None}
use Rattle.std.specs.List.{list_any, flat_map}
use Rattle.locus_ids.specs.Sites.{has, with_site, both}
use Rattle.locus_ids.specs.declared.ids.EpochId.{EpochId}
use Rattle.locus_ids.specs.declared.sites.Members.{Members}
use Rattle.locus_ids.specs.declared.sites.Links.{Links}
use Rattle.locus_ids.specs.declared.sites.Sites.{Sites}
use Rattle.locus_ids.specs.declared.config.Config.{Config}
use Rattle.wire_messages.specs.of_trace_book.Same.{same_epoch}
use Rattle.wire_messages.specs.of_trace_book.declared.record.Record.TheVariants as says
use Rattle.wire_messages.specs.declared.packet.Packet.{Packet}
use Rattle.wire_messages.specs.declared.body.Body.{Body}
use Rattle.wire_messages.specs.declared.body.Body.TheVariants as body
use Rattle.role_steps.specs.Tables.{with_row, without_row}
use Rattle.role_steps.specs.Views.{Frame, Users, SiteView, Shown, Promises, Outcome, quiet, sends, tells, and_then, within, boot_in, all_sites, all_groups, pack_sites, sync_site, to_sync}
use Rattle.role_steps.specs.Reports.{new_table}
use Rattle.role_steps.specs.Storage.{report_of}
use Rattle.role_steps.specs.Using.{users_leave}
use Rattle.role_steps.specs.declared.rounds.InEpoch.{InEpoch}
use Rattle.role_steps.specs.declared.rounds.Promise.{Promise}
use Rattle.role_steps.specs.declared.rounds.Round.{Round}

-- ---- ids ----

-- ids are ordered by number, then site, then boot
abbrev pub is_epoch_below : EpochId → EpochId → Bool
is_epoch_below a b = nat_lt a.number b.number || ((a.number == b.number) && (nat_lt a.site b.site || ((a.site == b.site) && nat_lt a.boot b.boot)))

-- a packet that forms an epoch names the id of that epoch
abbrev pub forming : ℕ → ℕ → EpochId → ℕ → ℕ → Body → Packet
forming me boot id to to_boot b = record { from = me; from_boot = boot; to = to; to_boot = to_boot; epoch = id; body = b }

-- ---- the frame of the epoch that a site is in ----

abbrev pub frame_in : Config → ℕ → ℕ → InEpoch → Frame
frame_in c me boot e = record { config = c; me = me; boot = boot; epoch = e.id; members = e.members }

-- ---- leaving ----

abbrev pub no_members : Members
no_members = record { boot = [] }

abbrev pub left_view : SiteView → SiteView
left_view v = record v { epoch = None; installs = []; reports = []; tables = []; store = record { copies = v.store.copies; instances = []; steps = [] }; pulls = [] }

abbrev pub with_users : SiteView → Users → SiteView
with_users v u = record v { users = u }

-- leaving answers Changed to each waiting call, drops all instances and tables, and ends the repeats of Installs
abbrev pub leaves_of : ℕ → Option InEpoch → SiteView → Outcome SiteView
leaves_of me None v = quiet v
leaves_of me (Some e) v =
    and_then (tells (Shown (says.Leave me e.id) ∷ []) (left_view v)) (λ now. within (with_users now) (users_leave me now.boot e.id now.users))

abbrev pub leaves : ℕ → SiteView → Outcome SiteView
leaves me v = leaves_of me v.epoch v

-- ---- promises ----

-- the site promises a greater id: it leaves its epoch, and the round that it had undecided ends
abbrev pub promised_view : EpochId → SiteView → SiteView
promised_view id v = record v { promised = id; installed = false; round = None }

abbrev pub promises : ℕ → EpochId → Sites → SiteView → Outcome SiteView
promises me id reach v = and_then (leaves me v) (λ now. tells (Promises me id reach ∷ []) (promised_view id now))

-- the sites that are connected
abbrev pub reached : Links → Sites
reached links = reached_of all_sites
  where
    reached_of : List ℕ → Sites
    reached_of [] = record { 0 = 0 }
    reached_of (s ∷ ss) = cond (boot_in links.boot s == 0) (reached_of ss) (with_site (reached_of ss) s)

-- ---- a round of polls ----

abbrev pub new_round : EpochId → Links → Round
new_round id polled = record { id = id; polled = polled; promises = [] }

abbrev pub poll_packet : ℕ → ℕ → EpochId → Links → ℕ → Packet
poll_packet me boot id polled to = forming me boot id to (boot_in polled.boot to) body.Poll

-- the polled sites, ascending
abbrev pub polled_sites : Links → List ℕ
polled_sites polled = filter (λ s. not (boot_in polled.boot s == 0)) all_sites

abbrev pub polls : ℕ → EpochId → Links → SiteView → Outcome SiteView
polls me id polled v = sends (map (poll_packet me v.boot id polled) (polled_sites polled)) (record v { round = Some (new_round id polled) })

abbrev pub round_id : ℕ → ℕ → SiteView → EpochId
round_id me number v = record { number = number; site = me; boot = v.boot }

-- an initiator promises the id to itself and polls
abbrev pub begins_round : ℕ → Links → ℕ → Links → SiteView → Outcome SiteView
begins_round me links number polled v = and_then (promises me (round_id me number v) (reached links) v) (polls me (round_id me number v) polled)

-- the boot numbers of some sites, site 1 first
abbrev pub boots_where : (ℕ → ℕ) → Links
boots_where boot = record { boot = map boot all_sites }

abbrev pub merge_boot : ℕ → Links → ℕ → ℕ
merge_boot me links s = cond (s == me) 0 (boot_in links.boot s)

-- merge polls all connected sites but itself
abbrev pub starts_merge : ℕ → Links → SiteView → Outcome SiteView
starts_merge me links v = begins_round me links (v.promised.number + 1) (boots_where (merge_boot me links)) v

abbrev pub part_boot : ℕ → Links → Members → ℕ → ℕ
part_boot me links members s = cond ((s == me) || not (boot_in links.boot s == boot_in members.boot s)) 0 (boot_in members.boot s)

-- part polls the connected members of its epoch but itself
abbrev pub starts_part_of : ℕ → Links → Option InEpoch → SiteView → Outcome SiteView
starts_part_of me links None v = quiet v
starts_part_of me links (Some e) v = begins_round me links (v.promised.number + 1) (boots_where (part_boot me links e.members)) v

abbrev pub starts_part : ℕ → Links → SiteView → Outcome SiteView
starts_part me links v = starts_part_of me links v.epoch v

-- ---- Poll ----

abbrev pub promise_packet : ℕ → Links → ℕ → ℕ → EpochId → SiteView → List Packet
promise_packet me links from from_boot id v = forming me v.boot id from from_boot (body.Promise (reached links)) ∷ []

abbrev pub refuse_packet : ℕ → ℕ → ℕ → EpochId → SiteView → List Packet
refuse_packet me from from_boot id v = forming me v.boot id from from_boot (body.Refuse v.promised) ∷ []

-- the promised id that isn't installed is promised again; any other that isn't greater is refused with the promised one
abbrev pub on_poll : ℕ → Links → ℕ → ℕ → EpochId → SiteView → Outcome SiteView
on_poll me links from from_boot id v = elim (is_epoch_below v.promised id) [
  | true ↦ and_then (promises me id (reached links) v) (λ now. sends (promise_packet me links from from_boot id now) now)
  | false ↦ sends (cond (same_epoch id v.promised && not v.installed) (promise_packet me links from from_boot id v) (refuse_packet me from from_boot id v)) v
]

-- ---- Promise ----

abbrev pub promise_site : Promise → ℕ
promise_site p = p.site

abbrev pub counts_promise : ℕ → ℕ → EpochId → Round → Bool
counts_promise from from_boot id r = same_epoch r.id id && (boot_in r.polled.boot from == from_boot)

-- of several promises of a site the last one counts
abbrev pub with_promise : ℕ → Sites → Round → Round
with_promise from reach r = record r { promises = with_row promise_site (record { site = from; reach = reach }) r.promises }

abbrev pub on_promise_of : ℕ → ℕ → EpochId → Sites → Option Round → SiteView → Outcome SiteView
on_promise_of from from_boot id reach None v = quiet v
on_promise_of from from_boot id reach (Some r) v = quiet (record v { round = Some (cond (counts_promise from from_boot id r) (with_promise from reach r) r) })

abbrev pub on_promise : ℕ → ℕ → EpochId → Sites → SiteView → Outcome SiteView
on_promise from from_boot id reach v = on_promise_of from from_boot id reach v.round v

-- ---- Refuse ----

-- a refusal of the undecided round makes its initiator start again, one above the id that the refusal names, with the same
-- sites that it hasn't passed over
abbrev pub on_refuse_of : ℕ → Links → EpochId → EpochId → Option Round → SiteView → Outcome SiteView
on_refuse_of me links id promised None v = quiet v
on_refuse_of me links id promised (Some r) v = elim (same_epoch r.id id) [
  | true ↦ begins_round me links (promised.number + 1) r.polled v
  | false ↦ quiet v
]

abbrev pub on_refuse : ℕ → Links → EpochId → EpochId → SiteView → Outcome SiteView
on_refuse me links id promised v = on_refuse_of me links id promised v.round v

-- ---- joining ----

-- the groups of which this site has a pack
abbrev pub own_groups : Config → ℕ → List ℕ
own_groups c me = filter (λ g. has (pack_sites c g) me) all_groups

abbrev pub is_sync_site : Config → ℕ → Members → ℕ → Bool
is_sync_site c me members group = is_me (sync_site c members group)
  where
    is_me : Option ℕ → Bool
    is_me None = false
    is_me (Some s) = s == me

abbrev pub joined_view : Config → ℕ → EpochId → Members → SiteView → SiteView
joined_view c me id members v = record v {
  installed = true;
  round = None;
  epoch = Some (record { id = id; members = members });
  installs = [];
  reports = own_groups c me;
  tables = map new_table (filter (is_sync_site c me members) (own_groups c me));
}

-- the report of a pack, as its copies are now
abbrev pub report_packets : Frame → SiteView → ℕ → List Packet
report_packets f v group = to_sync f group (body.Report group (report_of group v.store.copies))

abbrev pub all_reports : Frame → SiteView → List Packet
all_reports f v = flat_map (report_packets f v) v.reports

-- each pack of the site is reported to the synchronization site of its group
abbrev pub reports_all : Config → ℕ → InEpoch → SiteView → Outcome SiteView
reports_all c me e v = sends (all_reports (frame_in c me v.boot e) v) v

abbrev pub joins : Config → ℕ → EpochId → Members → SiteView → Outcome SiteView
joins c me id members v =
    and_then (tells (Shown (says.Join me id members) ∷ []) (joined_view c me id members v)) (reports_all c me (record { id = id; members = members }))

-- ---- Install and Joined ----

abbrev pub may_install : ℕ → EpochId → Members → SiteView → Bool
may_install me id members v = same_epoch id v.promised && (not v.installed && (boot_in members.boot me == v.boot))

abbrev pub is_in : EpochId → Option InEpoch → Bool
is_in id None = false
is_in id (Some e) = same_epoch e.id id

abbrev pub joined_packet : ℕ → ℕ → ℕ → EpochId → SiteView → List Packet
joined_packet me from from_boot id v = forming me v.boot id from from_boot body.Joined ∷ []

-- a site joins on an Install of exactly its promised id, once, where the list has its own site and boot; a repeated Install
-- of its epoch is answered again
abbrev pub on_install : Config → ℕ → ℕ → ℕ → EpochId → Members → SiteView → Outcome SiteView
on_install c me from from_boot id members v = elim (may_install me id members v) [
  | true ↦ and_then (joins c me id members v) (λ now. sends (joined_packet me from from_boot id now) now)
  | false ↦ sends (cond (is_in id v.epoch) (joined_packet me from from_boot id v) []) v
]

abbrev pub on_joined : ℕ → EpochId → SiteView → Outcome SiteView
on_joined from id v = quiet (cond (is_in id v.epoch) (record v { installs = without_row (λ s. s) from v.installs }) v)

-- ---- the end of an event: sites are passed over, and a round is decided ----

abbrev pub left_boot : Links → Links → ℕ → ℕ
left_boot links polled s = cond (boot_in links.boot s == boot_in polled.boot s) (boot_in polled.boot s) 0

abbrev pub is_polled : Links → Promise → Bool
is_polled polled p = not (boot_in polled.boot p.site == 0)

abbrev pub passed_to : Round → Links → Round
passed_to r polled = record { id = r.id; polled = polled; promises = filter (is_polled polled) r.promises }

-- polled sites that are no longer connected with the boot number that was polled are passed over
abbrev pub passed_over : Links → Round → Round
passed_over links r = passed_to r (boots_where (left_boot links r.polled))

abbrev pub has_promised : Round → ℕ → Bool
has_promised r s = list_any (λ (p : Promise). p.site == s) r.promises

-- the polled sites whose promise hasn't come
abbrev pub unanswered : Round → List ℕ
unanswered r = filter (λ s. not (has_promised r s)) (polled_sites r.polled)

-- candidates are the initiator and those that promised and reach it
abbrev pub candidates : ℕ → List Promise → Sites
candidates me [] = with_site (record { 0 = 0 }) me
candidates me (p ∷ ps) = cond (has p.reach me) (with_site (candidates me ps) p.site) (candidates me ps)

-- for each candidate in ascending order that is still in the set, the set is met with what that candidate reaches
abbrev pub met_by : Sites → Promise → Sites
met_by set p = cond (has set p.site) (both set p.reach) set

abbrev pub met_by_all : Sites → List Promise → Sites
met_by_all set [] = set
met_by_all set (p ∷ ps) = met_by_all (met_by set p) ps

-- the initiator's own answer stands among the promises, at its place
abbrev pub all_promises : ℕ → Links → Round → List Promise
all_promises me links r = with_row promise_site (record { site = me; reach = reached links }) r.promises

abbrev pub chosen_set : ℕ → Links → Round → Sites
chosen_set me links r = met_by_all (both (candidates me r.promises) (reached links)) (all_promises me links r)

abbrev pub polled_boot : ℕ → ℕ → Round → ℕ → ℕ
polled_boot me boot r s = cond (s == me) boot (boot_in r.polled.boot s)

abbrev pub member_boot : ℕ → ℕ → Round → Sites → ℕ → ℕ
member_boot me boot r set s = cond (has set s) (polled_boot me boot r s) 0

abbrev pub chosen_members : ℕ → ℕ → Round → Sites → Members
chosen_members me boot r set = record { boot = map (member_boot me boot r set) all_sites }

-- the other members
abbrev pub others_of : ℕ → Members → List ℕ
others_of me members = filter (λ s. not ((boot_in members.boot s == 0) || (s == me))) all_sites

abbrev pub install_packet : ℕ → ℕ → EpochId → Members → ℕ → Packet
install_packet me boot id members to = forming me boot id to (boot_in members.boot to) (body.Install members)

abbrev pub installs_all : ℕ → EpochId → Members → SiteView → Outcome SiteView
installs_all me id members v = sends (map (install_packet me v.boot id members) (others_of me members)) (record v { installs = others_of me members })

-- the initiator joins at once and sends an Install to each other member
abbrev pub decides : Config → ℕ → EpochId → Members → SiteView → Outcome SiteView
decides c me id members v = and_then (joins c me id members v) (installs_all me id members)

abbrev pub decides_if : Config → ℕ → Links → Round → List ℕ → SiteView → Outcome SiteView
decides_if c me links r [] v = decides c me r.id (chosen_members me v.boot r (chosen_set me links r)) v
decides_if c me links r (s ∷ ss) v = quiet (record v { round = Some r })

abbrev pub decides_round : Config → ℕ → Links → Round → SiteView → Outcome SiteView
decides_round c me links r v = decides_if c me links r (unanswered r) v

-- when no answer is missing, the round is decided
abbrev pub passes_over_of : Config → ℕ → Links → Option Round → SiteView → Outcome SiteView
passes_over_of c me links None v = quiet v
passes_over_of c me links (Some r) v = decides_round c me links (passed_over links r) v

abbrev pub passes_over : Config → ℕ → Links → SiteView → Outcome SiteView
passes_over c me links v = passes_over_of c me links v.round v

-- ---- a tick: Polls without an answer and Installs without a Joined ----

abbrev pub poll_repeats : ℕ → SiteView → Option Round → List Packet
poll_repeats me v None = []
poll_repeats me v (Some r) = map (poll_packet me v.boot r.id r.polled) (unanswered r)

abbrev pub install_repeats : ℕ → SiteView → InEpoch → List Packet
install_repeats me v e = map (install_packet me v.boot e.id e.members) v.installs
