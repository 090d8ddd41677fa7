-- What a site sends in the event of one packet that comes.
use Rattle.std.proofs.Common.{◌≡◌, ℕ, ◌+◌, ◌≤◌, Bool, true, false, cond, ◌&&◌, not, List, [], ◌∷◌, ◌++◌, Option, Some, None, refl, arith}
use Rattle.role_steps.proofs.of_plain_facts.Tests.{true_false}
use Rattle.locus_ids.specs.declared.ids.EpochId.{EpochId}
use Rattle.locus_ids.specs.declared.sites.Sites.{Sites}
use Rattle.locus_ids.specs.declared.sites.Members.{Members}
use Rattle.locus_ids.specs.declared.sites.Links.{Links}
use Rattle.locus_ids.specs.declared.config.Config.{Config}
use Rattle.trace_book.specs.Same.{same_epoch}
use Rattle.wire_messages.specs.declared.packet.Packet.{Packet}
use Rattle.wire_messages.specs.declared.body.Body.{Body}
use Rattle.wire_messages.specs.declared.body.Body.TheVariants as body
use Rattle.role_steps.specs.Own.{Every}
use Rattle.role_steps.specs.Tables.{row, first_that}
use Rattle.role_steps.specs.Views.{Frame, SiteView, Outcome, Receives, quiet, sends, and_then, to_some, sync_site}
use Rattle.role_steps.specs.Storage.{copy_of, report_of, instance_of}
use Rattle.role_steps.specs.Adoption.{table_group, is_ready, adopts_pull, without_pull, adopts_first, fits_own}
use Rattle.role_steps.specs.Mends.{mending, kept_stamps}
use Rattle.role_steps.specs.Epochs.{is_epoch_below, frame_in, leaves_of, leaves, promises, reached, poll_packet, polled_sites, polls, round_id, begins_round, promise_packet, refuse_packet, on_poll, on_promise_of, on_refuse_of, report_packets, all_reports, joined_view, joins, may_install, is_in, joined_packet, on_install, passed_over, unanswered, chosen_members, chosen_set, others_of, install_packet, installs_all, decides_if, passes_over_of, passes_over}
use Rattle.role_steps.specs.declared.pulls.Pull.{Pull}
use Rattle.role_steps.specs.declared.rounds.InEpoch.{InEpoch}
use Rattle.role_steps.specs.declared.rounds.Round.{Round}
use Rattle.role_steps.specs.declared.synchronizing.SyncTable.{SyncTable}
use Rattle.role_steps.proofs.Sending.{every_map, every_flat_map}
use Rattle.the_run.specs.Steps.{from_user, group_of, in_order, at_table_of, is_opened_in, takes_inside, is_dropped, takes_framed, takes, adopts_of, tries_at, starts_mends_of, whole, step}
use Rattle.the_run.proofs.InsideSync.{Found, row_found}
use Rattle.row_laws.specs.Bounds.Deliveries.{serves_other, opens_mend_in, count, SendsOne, is_report, LooksOpenNone}
use Rattle.row_laws.proofs.Bounds.Counting.{Apart, ServesNone, apart_none, apart_one, apart_every, apart_append, few_none, few_apart, count_append, count_order}
use Rattle.row_laws.proofs.Bounds.FewRoles.{SendsFew, on_open_few, on_opened_few, on_look_few, on_closed_few, on_open_ss_few, on_close_few, on_closed_ok_few, on_look_ss_few, on_op_few, on_pull_few, on_notify_few, on_page_few, on_want_few, on_delta_few}
use Rattle.row_laws.proofs.Bounds.FewHeld.{on_read_held_few}
use Rattle.row_laws.proofs.Bounds.FewUsers.{on_open_done_few, on_op_done_few, on_close_done_few, on_look_done_few, on_as_held_few}
use Rattle.row_laws.proofs.Bounds.KeptLooks.{TablesFine}
use Rattle.row_laws.proofs.Bounds.Mending.{mends_sent}

-- the outcome serves no call
abbrev SendsApart : Outcome SiteView → Type 0
SendsApart o = Apart o.sent

abbrev OutOne : Outcome SiteView → Type 0
OutOne o = SendsOne o.sent

-- ---- how an epoch is formed ----

leaves_apart : (me : ℕ) (e : Option InEpoch) (v : SiteView) → SendsApart (leaves_of me e v)
leaves_apart me None v = apart_none
leaves_apart me (Some e) v = apart_none

promises_apart : (me : ℕ) (id : EpochId) (reach : Sites) (v : SiteView) → SendsApart (promises me id reach v)
promises_apart me id reach v = apart_append (leaves me v).sent [] (leaves_apart me v.epoch v) apart_none

begins_apart : (me : ℕ) (links : Links) (number : ℕ) (polled : Links) (v : SiteView) → SendsApart (begins_round me links number polled v)
begins_apart me links number polled v =
    let id : EpochId = round_id me number v in
    let o : Outcome SiteView = promises me id (reached links) v in
    apart_append o.sent (polls me id polled o.view).sent (promises_apart me id (reached links) v) (apart_every _ (every_map (λ (p : Packet). ServesNone p.body) (poll_packet me o.view.boot id polled) (polled_sites polled) (λ s. refl)))

poll_apart : (me : ℕ) (links : Links) (from from_boot : ℕ) (id : EpochId) (v : SiteView) → SendsApart (on_poll me links from from_boot id v)
poll_apart me links from from_boot id v = by_test (is_epoch_below v.promised id)
  where
    by_answer : (b : Bool) → Apart (cond b (promise_packet me links from from_boot id v) (refuse_packet me from from_boot id v))
    by_answer true = apart_one _ [] refl apart_none
    by_answer false = apart_one _ [] refl apart_none

    by_test : (b : Bool) → SendsApart (elim b [
      | true ↦ and_then (promises me id (reached links) v) (λ now. sends (promise_packet me links from from_boot id now) now)
      | false ↦ sends (cond (same_epoch id v.promised && not v.installed) (promise_packet me links from from_boot id v) (refuse_packet me from from_boot id v)) v
    ])
    by_test true = apart_append (promises me id (reached links) v).sent _ (promises_apart me id (reached links) v) (apart_one _ [] refl apart_none)
    by_test false = by_answer (same_epoch id v.promised && not v.installed)

promise_apart : (from from_boot : ℕ) (id : EpochId) (reach : Sites) (o : Option Round) (v : SiteView) → SendsApart (on_promise_of from from_boot id reach o v)
promise_apart from from_boot id reach None v = apart_none
promise_apart from from_boot id reach (Some r) v = apart_none

refuse_apart : (me : ℕ) (links : Links) (id theirs : EpochId) (o : Option Round) (v : SiteView) → SendsApart (on_refuse_of me links id theirs o v)
refuse_apart me links id theirs None v = apart_none
refuse_apart me links id theirs (Some r) v = by_test (same_epoch r.id id)
  where
    by_test : (b : Bool) → SendsApart (elim b [ true ↦ begins_round me links (theirs.number + 1) r.polled v | false ↦ quiet v ])
    by_test true = begins_apart me links (theirs.number + 1) r.polled v
    by_test false = apart_none

some_apart : (f : Frame) (b : Body) (o : Option ℕ) → ServesNone b → Every (λ (p : Packet). ServesNone p.body) (to_some f b o)
some_apart f b None h = tt
some_apart f b (Some to) h = (h, tt)

joins_apart : (c : Config) (me : ℕ) (id : EpochId) (m : Members) (v : SiteView) → SendsApart (joins c me id m v)
joins_apart c me id m v =
    let f : Frame = frame_in c me v.boot (record { id = id; members = m }) in
    let now : SiteView = joined_view c me id m v in
    apart_every (all_reports f now) (every_flat_map (λ (p : Packet). ServesNone p.body) (report_packets f now) now.reports (λ g. some_apart f (body.Report g (report_of g now.store.copies)) (sync_site f.config f.members g) refl))

install_apart : (c : Config) (me from from_boot : ℕ) (id : EpochId) (m : Members) (v : SiteView) → SendsApart (on_install c me from from_boot id m v)
install_apart c me from from_boot id m v = by_test (may_install me id m v)
  where
    by_answer : (b : Bool) → Apart (cond b (joined_packet me from from_boot id v) [])
    by_answer true = apart_one _ [] refl apart_none
    by_answer false = apart_none

    by_test : (b : Bool) → SendsApart (elim b [ true ↦ and_then (joins c me id m v) (λ now. sends (joined_packet me from from_boot id now) now) | false ↦ sends (cond (is_in id v.epoch) (joined_packet me from from_boot id v) []) v ])
    by_test true = apart_append (joins c me id m v).sent _ (joins_apart c me id m v) (apart_one _ [] refl apart_none)
    by_test false = by_answer (is_in id v.epoch)

decides_apart : (c : Config) (me : ℕ) (links : Links) (r : Round) (xs : List ℕ) (v : SiteView) → SendsApart (decides_if c me links r xs v)
decides_apart c me links r [] v =
    let m : Members = chosen_members me v.boot r (chosen_set me links r) in
    let o : Outcome SiteView = joins c me r.id m v in
    apart_append o.sent (installs_all me r.id m o.view).sent (joins_apart c me r.id m v) (apart_every _ (every_map (λ (p : Packet). ServesNone p.body) (install_packet me o.view.boot r.id m) (others_of me m) (λ s. refl)))
decides_apart c me links r (x ∷ xs) v = apart_none

over_apart : (c : Config) (me : ℕ) (links : Links) (o : Option Round) (v : SiteView) → SendsApart (passes_over_of c me links o v)
over_apart c me links None v = apart_none
over_apart c me links (Some r) v = decides_apart c me links (passed_over links r) (unanswered (passed_over links r)) v

-- ---- a packet ----

table_few : (g : SyncTable → Outcome SyncTable) (o : Option SyncTable) (v : SiteView) → ((t : SyncTable) → LooksOpenNone t → SendsFew (g t)) → Found LooksOpenNone o → SendsFew (at_table_of g o v)
table_few g None v k found = few_none
table_few g (Some t) v k found = k t found

plain_few : (g : SyncTable → Outcome SyncTable) (o : Option SyncTable) (v : SiteView) → ((t : SyncTable) → SendsFew (g t)) → SendsFew (at_table_of g o v)
plain_few g None v k = few_none
plain_few g (Some t) v k = k t

inside_few : (f : Frame) (from : ℕ) (x : Body) (v : SiteView) → is_report x ≡ false → TablesFine v → SendsFew (takes_inside f from x v)
inside_few f from (body.Report group copies) v n h = absurd (true_false n)
inside_few f from (body.Open serial call process request file how) v n h = plain_few _ (row table_group file.group v.tables) v (on_open_few f from (record { serial = serial; call = call; process = process; request = request; file = file; how = how }))
inside_few f from (body.OpenSs inst file mode set kind base vector parents) v n h = on_open_ss_few f _ v.store
inside_few f from (body.Opened inst answer) v n h = plain_few _ (first_that (is_opened_in inst) v.tables) v (on_opened_few f inst answer)
inside_few f from (body.OpenDone serial answer) v n h = on_open_done_few f (kept_stamps v) serial answer v.users
inside_few f from (body.Op serial number o seen) v n h = on_op_few f (mending v (group_of (instance_of v.store (from_user from serial)))) (from_user from serial) number o seen v.store
inside_few f from (body.ReadHeld serial number at len) v n h = on_read_held_few f (from_user from serial) number at len v.store
inside_few f from (body.OpDone serial number result) v n h = on_op_done_few f serial number result v.users
inside_few f from (body.AsHeld serial number len) v n h = on_as_held_few f serial number v.users
inside_few f from (body.Close serial) v n h = on_close_few f (from_user from serial) v.store
inside_few f from (body.Closed inst made) v n h = plain_few _ (first_that (is_opened_in inst) v.tables) v (on_closed_few f from inst made)
inside_few f from (body.ClosedOk inst) v n h = on_closed_ok_few f inst v.store
inside_few f from (body.CloseDone serial answer) v n h = on_close_done_few f serial answer v.users
inside_few f from (body.Look call process request take file what) v n h = table_few _ (row table_group file.group v.tables) v (on_look_few f from (record { call = call; process = process; request = request; take = take; file = file; what = what })) (row_found LooksOpenNone table_group file.group v.tables h)
inside_few f from (body.LookSs us call process request take file what serve) v n h = on_look_ss_few f us (record { call = call; process = process; request = request; take = take; file = file; what = what }) serve v.store
inside_few f from (body.LookDone call request take answer) v n h = on_look_done_few f call request take answer v.users
inside_few f from (body.Notify file kind set size stamp vector holder) v n h = on_notify_few f from (copy_of v.store file) (record { file = file; kind = kind; set = set; size = size; stamp = stamp; vector = vector; holder = holder; base = None; wanted = None; content = [] }) v.pulls
inside_few f from (body.Pull file stamp page) v n h = on_pull_few f from file stamp page v.store
inside_few f from (body.Want file wanted own) v n h = on_want_few f from file wanted own v.store
inside_few f from (body.Page file stamp page bytes) v n h = on_page_few f file stamp page bytes v.pulls
inside_few f from (body.Delta file wanted pages) v n h = on_delta_few f (copy_of v.store file) file wanted pages v.pulls
inside_few f from (body.Have file stamp) v n h = plain_few _ (row table_group file.group v.tables) v (λ t. few_none)
inside_few f from _ v n h = few_none

framed_few : (c : Config) (me : ℕ) (p : Packet) (e : Option InEpoch) (v : SiteView) → is_report p.body ≡ false → TablesFine v → SendsFew (takes_framed c me p e v)
framed_few c me p None v n h = few_none
framed_few c me p (Some e) v n h = inside_few (frame_in c me v.boot e) p.from p.body v n h

takes_few : (c : Config) (me : ℕ) (links : Links) (p : Packet) (x : Body) (v : SiteView) → is_report p.body ≡ false → TablesFine v → SendsFew (takes c me links p x v)
takes_few c me links p body.Poll v n h = few_apart _ (poll_apart me links p.from p.from_boot p.epoch v)
takes_few c me links p (body.Promise reach) v n h = few_apart _ (promise_apart p.from p.from_boot p.epoch reach v.round v)
takes_few c me links p (body.Refuse promised) v n h = few_apart _ (refuse_apart me links p.epoch promised v.round v)
takes_few c me links p (body.Install members) v n h = few_apart _ (install_apart c me p.from p.from_boot p.epoch members v)
takes_few c me links p body.Joined v n h = few_none
takes_few c me links p _ v n h = framed_few c me p v.epoch v n h

-- ---- an adoption ----

adopts_apart : (f : Frame) (ps : List Pull) (v : SiteView) → SendsApart (adopts_first f ps v)
adopts_apart f [] v = apart_none
adopts_apart f (p ∷ ps) v =
    elim (is_ready v p) as (λ t. SendsApart (elim t [ true ↦ elim (fits_own p (copy_of v.store p.file)) [ true ↦ adopts_pull f p v | false ↦ adopts_first f ps (without_pull p v) ] | false ↦ adopts_first f ps v ])) [
      | true ↦ elim (fits_own p (copy_of v.store p.file)) as (λ t. SendsApart (elim t [ true ↦ adopts_pull f p v | false ↦ adopts_first f ps (without_pull p v) ])) [
        | true ↦ apart_every _ (some_apart f (body.Have p.file p.stamp) (sync_site f.config f.members p.file.group) refl)
        | false ↦ adopts_apart f ps (without_pull p v)
      ]
      | false ↦ adopts_apart f ps v
    ]

adopts_of_apart : (c : Config) (me : ℕ) (e : Option InEpoch) (v : SiteView) → SendsApart (adopts_of c me e v)
adopts_of_apart c me None v = apart_none
adopts_of_apart c me (Some e) v = adopts_apart (frame_in c me v.boot e) v.pulls v

tries_apart : (c : Config) (me : ℕ) (x : Body) (v : SiteView) → SendsApart (tries_at c me x v)
tries_apart c me (body.Notify file kind set size stamp vector holder) v = adopts_of_apart c me v.epoch v
tries_apart c me (body.Page file stamp page bytes) v = adopts_of_apart c me v.epoch v
tries_apart c me (body.Delta file wanted pages) v = adopts_of_apart c me v.epoch v
tries_apart c me _ v = apart_none

-- ---- the event ----

-- how many of some lists in turn
count_three : (test : Body → Bool) (a o over mends : List Packet) → count test (a ++ in_order (o ++ (over ++ mends))) ≡ count test a + (count test o + (count test over + count test mends))
count_three test a o over mends =
    let e : count test (a ++ in_order (o ++ (over ++ mends))) ≡ count test a + count test (in_order (o ++ (over ++ mends))) = count_append test a (in_order (o ++ (over ++ mends))) in
    let i : count test (in_order (o ++ (over ++ mends))) ≡ count test (o ++ (over ++ mends)) = count_order test (o ++ (over ++ mends)) in
    let p : count test (o ++ (over ++ mends)) ≡ count test o + count test (over ++ mends) = count_append test o (over ++ mends) in
    let q : count test (over ++ mends) ≡ count test over + count test mends = count_append test over mends in
    omega (arith, e, i, p, q)

whole_one : (c : Config) (me : ℕ) (links : Links) (o : Outcome SiteView) (tries : SiteView → Outcome SiteView) → SendsFew o → SendsApart (tries o.view) → SendsOne (whole c me links o tries).sent
whole_one c me links o tries few apart = record {
  calls = (let e : count serves_other (whole c me links o tries).sent ≡ count serves_other a.sent + (count serves_other o.sent + (count serves_other over.sent + count serves_other mends.sent)) = count_three serves_other a.sent o.sent over.sent mends.sent in
      let p : count serves_other a.sent ≡ 0 = apart.calls in let q : count serves_other o.sent ≤ 1 = few.calls in let r : count serves_other over.sent ≡ 0 = beside.calls in let s : count serves_other mends.sent ≡ 0 = last.0 in omega (arith, e, p, q, r, s));
  mends = λ g. (let e : count (opens_mend_in g) (whole c me links o tries).sent ≡ count (opens_mend_in g) a.sent + (count (opens_mend_in g) o.sent + (count (opens_mend_in g) over.sent + count (opens_mend_in g) mends.sent)) = count_three (opens_mend_in g) a.sent o.sent over.sent mends.sent in
      let p : count (opens_mend_in g) a.sent ≡ 0 = apart.mends g in let q : count (opens_mend_in g) o.sent ≡ 0 = few.mends g in let r : count (opens_mend_in g) over.sent ≡ 0 = beside.mends g in let s : count (opens_mend_in g) mends.sent ≤ 1 = last.1 g in omega (arith, e, p, q, r, s));
}
  where
    a : Outcome SiteView
    a = tries o.view

    over : Outcome SiteView
    over = passes_over c me links a.view

    mends : Outcome SiteView
    mends = starts_mends_of c me over.view.epoch over.view

    beside : Apart over.sent
    beside = over_apart c me links a.view.round a.view

    last : (count serves_other mends.sent ≡ 0) × ((g : ℕ) → count (opens_mend_in g) mends.sent ≤ 1)
    last = mends_sent c me over.view.epoch over.view

-- a packet comes, and is no Report
pub step_one : (c : Config) (me : ℕ) (links : Links) (v : SiteView) (p : Packet) → is_report p.body ≡ false → TablesFine v → SendsOne (step c me links v (Receives p)).sent
step_one c me links v p n h = by_test (is_dropped p v)
  where
    by_test : (b : Bool) → OutOne (elim b [ true ↦ quiet v | false ↦ whole c me links (takes c me links p p.body v) (tries_at c me p.body) ])
    by_test true = record { calls = omega arith; mends = λ g. omega arith }
    by_test false = whole_one c me links (takes c me links p p.body v) (tries_at c me p.body) (takes_few c me links p p.body v n h) (tries_apart c me p.body (takes c me links p p.body v).view)
