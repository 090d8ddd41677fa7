-- At every moment of a run no site has counted many calls or opens.
use Rattle.std.proofs.Common.{◌≡◌, ◌≤◌, ℕ, ◌+◌, Bool, true, false, cond, ◌&&◌, not, List, [], ◌∷◌, ◌++◌, length, Option, Some, None, refl, sym, ◌∙◌, ap, subst, arith}
use Rattle.std.proofs.lemmas.Bool.Decides.{nat_tests}
use Rattle.locus_ids.specs.declared.ids.EpochId.{EpochId}
use Rattle.locus_ids.specs.declared.sites.Sites.{Sites}
use Rattle.locus_ids.specs.declared.sites.Members.{Members}
use Rattle.locus_ids.specs.declared.sites.Links.{Links}
use Rattle.locus_ids.specs.declared.config.Config.{Config}
use Rattle.schedule_lines.specs.declared.line.ScheduleLine.{ScheduleLine}
use Rattle.trace_book.specs.Same.{same_epoch}
use Rattle.trace_book.specs.declared.call.Call.TheVariants as call
use Rattle.wire_messages.specs.declared.packet.Packet.{Packet}
use Rattle.wire_messages.specs.declared.body.Body.{Body}
use Rattle.wire_messages.specs.declared.body.Body.TheVariants as body
use Rattle.role_steps.specs.Tables.{row, total, first_that, without_row}
use Rattle.role_steps.specs.Views.{Frame, SiteView, Told, Outcome, Event, Calls, Receives, Ticks, Parts, Merges, GivesUp, quiet, sends, and_then}
use Rattle.role_steps.specs.Opens.{on_opened}
use Rattle.role_steps.specs.Reports.{on_report, on_open, on_look, on_closed, on_have}
use Rattle.role_steps.specs.Storage.{copy_of}
use Rattle.role_steps.specs.Epochs.{is_epoch_below, frame_in, leaves_of, leaves, promises, reached, begins_round, starts_merge, boots_where, merge_boot, part_boot, starts_part_of, starts_part, promise_packet, refuse_packet, on_poll, on_promise_of, on_refuse_of, joins, may_install, is_in, joined_packet, on_install, on_joined, passed_over, unanswered, decides_if, passes_over_of, passes_over}
use Rattle.role_steps.specs.Adoption.{table_group, is_ready, notes_own_at, without_pull, adopts_pull, adopts_first, with_adopted, fits_own}
use Rattle.role_steps.specs.Mends.{kept_stamps, has_mend_in, wants_mend, row_file, starts_mend_of, starts_mend, starts_mends_in}
use Rattle.role_steps.specs.declared.pulls.Pull.{Pull}
use Rattle.role_steps.specs.declared.rounds.InEpoch.{InEpoch}
use Rattle.role_steps.specs.declared.rounds.Round.{Round}
use Rattle.role_steps.specs.declared.synchronizing.SyncTable.{SyncTable}
use Rattle.role_steps.specs.declared.synchronizing.FileRow.{FileRow}
use Rattle.the_run.specs.Disks.{Disk, Booted, Whole, CutOff, boots, cut_disk}
use Rattle.the_run.specs.Kept.{Kept}
use Rattle.the_run.specs.Steps.{in_order, at_table_of, is_opened_in, takes_inside, is_dropped, takes_framed, takes, adopts_of, tries_at, adopts_in, starts_mends_of, ends_event, whole, repeats, ticks_after, call_frame, epoch_id, takes_call, step}
use Rattle.the_run.specs.Worlds.{World, Place, Running, Stopped, Limit, place_at, links_of, script_of, happened, happened_of, unless_over, limit_passed, told_size, packet_size, disk_of, puts, arms, passed, stops_with, cut_told, acts, fresh, first_world}
use Rattle.the_run.specs.Runs.{boots_as, run_in}
use Rattle.the_run.proofs.Boots.{at_each, acts_cases}
use Rattle.the_run.proofs.Events.{puts_other}
use Rattle.the_run.proofs.Runs.{every_run}
use Rattle.run_laws.proofs.Epochs.Run.{running_view, stopped_never, place_there}
use Rattle.run_laws.proofs.Walks.FirstWorld.{first_views}
use Rattle.packet_laws.specs.Fitting.Counts.{CountsAreLow}
use Rattle.packet_laws.proofs.Fitting.Costs.{order_length, append_length, append_total}
use Rattle.packet_laws.proofs.Fitting.Counts.{spent, Rises, spent_both, rises_then, same_counts, call_rise, open_done_rise, op_done_rise, close_done_rise, look_done_rise, as_held_rise}

-- ---- a site ----

abbrev SiteRises : ℕ → SiteView → Outcome SiteView → Type 0
SiteRises n v o = Rises n v.users o.view.users (spent n o)

-- the counts are as they were
abbrev Stays : SiteView → SiteView → Type 0
Stays v now = (now.users.calls ≡ v.users.calls) × (now.users.serials ≡ v.users.serials)

stays_rise : (n : ℕ) (v : SiteView) (o : Outcome SiteView) → Stays v o.view → SiteRises n v o
stays_rise n v o h = same_counts n v.users o.view.users (spent n o) h.0 h.1

then_rise : (n : ℕ) (v : SiteView) (o : Outcome SiteView) (f : SiteView → Outcome SiteView) → SiteRises n v o → SiteRises n o.view (f o.view) → SiteRises n v (and_then o f)
then_rise n v o f h g = rises_then n v.users o.view.users (f o.view).view.users (spent n o) (spent n (f o.view)) (spent n (and_then o f)) (omega (arith, spent_both n o (f o.view))) h g

-- ---- epochs ----

leaves_stay : (me : ℕ) (e : Option InEpoch) (v : SiteView) → Stays v (leaves_of me e v).view
leaves_stay me None v = (refl, refl)
leaves_stay me (Some e) v = (refl, refl)

begins_stay : (me : ℕ) (links : Links) (number : ℕ) (polled : Links) (v : SiteView) → Stays v (begins_round me links number polled v).view
begins_stay me links number polled v = leaves_stay me v.epoch v

part_stays : (me : ℕ) (links : Links) (e : Option InEpoch) (v : SiteView) → Stays v (starts_part_of me links e v).view
part_stays me links None v = (refl, refl)
part_stays me links (Some e) v = begins_stay me links (v.promised.number + 1) (boots_where (part_boot me links e.members)) v

poll_stays : (me : ℕ) (links : Links) (from from_boot : ℕ) (id : EpochId) (v : SiteView) → Stays v (on_poll me links from from_boot id v).view
poll_stays me links from from_boot id v =
    elim (is_epoch_below v.promised id) as (λ t. Stays v (elim t as (λ (x : Bool). Outcome SiteView) [ true ↦ and_then (promises me id (reached links) v) (λ now. sends (promise_packet me links from from_boot id now) now) | false ↦ sends (cond (same_epoch id v.promised && not v.installed) (promise_packet me links from from_boot id v) (refuse_packet me from from_boot id v)) v ]).view) [
      | true ↦ leaves_stay me v.epoch v
      | false ↦ (refl, refl)
    ]

promise_stays : (from from_boot : ℕ) (id : EpochId) (reach : Sites) (o : Option Round) (v : SiteView) → Stays v (on_promise_of from from_boot id reach o v).view
promise_stays from from_boot id reach None v = (refl, refl)
promise_stays from from_boot id reach (Some r) v = (refl, refl)

refuse_stays : (me : ℕ) (links : Links) (id theirs : EpochId) (o : Option Round) (v : SiteView) → Stays v (on_refuse_of me links id theirs o v).view
refuse_stays me links id theirs None v = (refl, refl)
refuse_stays me links id theirs (Some r) v =
    elim (same_epoch r.id id) as (λ t. Stays v (elim t as (λ (x : Bool). Outcome SiteView) [ true ↦ begins_round me links (theirs.number + 1) r.polled v | false ↦ quiet v ]).view) [
      | true ↦ begins_stay me links (theirs.number + 1) r.polled v
      | false ↦ (refl, refl)
    ]

install_stays : (c : Config) (me from from_boot : ℕ) (id : EpochId) (m : Members) (v : SiteView) → Stays v (on_install c me from from_boot id m v).view
install_stays c me from from_boot id m v =
    elim (may_install me id m v) as (λ t. Stays v (elim t as (λ (x : Bool). Outcome SiteView) [ true ↦ and_then (joins c me id m v) (λ now. sends (joined_packet me from from_boot id now) now) | false ↦ sends (cond (is_in id v.epoch) (joined_packet me from from_boot id v) []) v ]).view) [
      | true ↦ (refl, refl)
      | false ↦ (refl, refl)
    ]

joined_stays : (from : ℕ) (id : EpochId) (v : SiteView) → Stays v (on_joined from id v).view
joined_stays from id v =
    elim (is_in id v.epoch) as (λ b. Stays v (cond b (record v { installs = without_row (λ s. s) from v.installs }) v)) [
      | true ↦ (refl, refl)
      | false ↦ (refl, refl)
    ]

decides_stay : (c : Config) (me : ℕ) (links : Links) (q : Round) (xs : List ℕ) (v : SiteView) → Stays v (decides_if c me links q xs v).view
decides_stay c me links q [] v = (refl, refl)
decides_stay c me links q (x ∷ xs) v = (refl, refl)

passes_stay : (c : Config) (me : ℕ) (links : Links) (o : Option Round) (v : SiteView) → Stays v (passes_over_of c me links o v).view
passes_stay c me links None v = (refl, refl)
passes_stay c me links (Some r) v = decides_stay c me links (passed_over links r) (unanswered (passed_over links r)) v

-- ---- adoptions and mends ----

noted_stays : (f : Frame) (p : Pull) (o : Option SyncTable) (v : SiteView) → Stays v (notes_own_at f p o v)
noted_stays f p None v = (refl, refl)
noted_stays f p (Some t) v = (refl, refl)

first_stays : (f : Frame) (ps : List Pull) (v : SiteView) → Stays v (adopts_first f ps v).view
first_stays f [] v = (refl, refl)
first_stays f (p ∷ ps) v =
    elim (is_ready v p) as (λ t. Stays v (elim t as (λ (x : Bool). Outcome SiteView) [ true ↦ elim (fits_own p (copy_of v.store p.file)) as (λ (x : Bool). Outcome SiteView) [ true ↦ adopts_pull f p v | false ↦ adopts_first f ps (without_pull p v) ] | false ↦ adopts_first f ps v ]).view) [
      | true ↦ elim (fits_own p (copy_of v.store p.file)) as (λ t. Stays v (elim t as (λ (x : Bool). Outcome SiteView) [ true ↦ adopts_pull f p v | false ↦ adopts_first f ps (without_pull p v) ]).view) [
        | true ↦ noted_stays f p (row table_group p.file.group v.tables) (with_adopted p v)
        | false ↦ first_stays f ps (without_pull p v)
      ]
      | false ↦ first_stays f ps v
    ]

adopts_stay : (c : Config) (me : ℕ) (e : Option InEpoch) (v : SiteView) → Stays v (adopts_of c me e v).view
adopts_stay c me None v = (refl, refl)
adopts_stay c me (Some e) v = first_stays (frame_in c me v.boot e) v.pulls v

tries_stay : (c : Config) (me : ℕ) (x : Body) (v : SiteView) → Stays v (tries_at c me x v).view
tries_stay c me (body.Notify file kind set size stamp vector holder) v = adopts_stay c me v.epoch v
tries_stay c me (body.Page file stamp page bytes) v = adopts_stay c me v.epoch v
tries_stay c me (body.Delta file wanted pages) v = adopts_stay c me v.epoch v
tries_stay c me _ v = (refl, refl)

mend_of_rise : (n : ℕ) (f : Frame) (t : SyncTable) (o : Option FileRow) (v : SiteView) → SiteRises n v (starts_mend_of f t o v)
mend_of_rise n f t None v = stays_rise n v (quiet v) (refl, refl)
mend_of_rise n f t (Some r) v = call_rise n f (Some f.epoch) 0 (call.Mend (row_file t r)) v.users

mend_rise : (n : ℕ) (f : Frame) (t : SyncTable) (v : SiteView) → SiteRises n v (starts_mend f t v)
mend_rise n f t v =
    elim (t.started && not (has_mend_in v.users t.group)) as (λ x. SiteRises n v (elim x as (λ (y : Bool). Outcome SiteView) [ true ↦ starts_mend_of f t (first_that (wants_mend v t) t.files) v | false ↦ quiet v ])) [
      | true ↦ mend_of_rise n f t (first_that (wants_mend v t) t.files) v
      | false ↦ stays_rise n v (quiet v) (refl, refl)
    ]

mends_in_rise : (n : ℕ) (f : Frame) (ts : List SyncTable) (v : SiteView) → SiteRises n v (starts_mends_in f ts v)
mends_in_rise n f [] v = stays_rise n v (quiet v) (refl, refl)
mends_in_rise n f (t ∷ ts) v = then_rise n v (starts_mend f t v) (starts_mends_in f ts) (mend_rise n f t v) (mends_in_rise n f ts (starts_mend f t v).view)

mends_rise : (n : ℕ) (c : Config) (me : ℕ) (e : Option InEpoch) (v : SiteView) → SiteRises n v (starts_mends_of c me e v)
mends_rise n c me None v = stays_rise n v (quiet v) (refl, refl)
mends_rise n c me (Some e) v = mends_in_rise n (frame_in c me v.boot e) v.tables v

ends_rise : (n : ℕ) (c : Config) (me : ℕ) (links : Links) (v : SiteView) → SiteRises n v (ends_event c me links v)
ends_rise n c me links v =
    let o : Outcome SiteView = passes_over c me links v in
    then_rise n v o (λ now. starts_mends_of c me now.epoch now) (stays_rise n v o (passes_stay c me links v.round v)) (mends_rise n c me o.view.epoch o.view)

-- ---- packets ----

table_stays : (g : SyncTable → Outcome SyncTable) (o : Option SyncTable) (v : SiteView) → Stays v (at_table_of g o v).view
table_stays g None v = (refl, refl)
table_stays g (Some t) v = (refl, refl)

table_rise : (n : ℕ) (g : SyncTable → Outcome SyncTable) (o : Option SyncTable) (v : SiteView) → SiteRises n v (at_table_of g o v)
table_rise n g o v = stays_rise n v (at_table_of g o v) (table_stays g o v)

inside_rise : (n : ℕ) (f : Frame) (from : ℕ) (x : Body) (v : SiteView) → SiteRises n v (takes_inside f from x v)
inside_rise n f from (body.OpenDone serial answer) v = open_done_rise n f (kept_stamps v) serial answer v.users
inside_rise n f from (body.OpDone serial number result) v = op_done_rise n f serial number result v.users
inside_rise n f from (body.AsHeld serial number len) v = as_held_rise n f serial number v.users
inside_rise n f from (body.CloseDone serial answer) v = close_done_rise n f serial answer v.users
inside_rise n f from (body.LookDone number request take answer) v = look_done_rise n f number request take answer v.users
inside_rise n f from (body.Report group copies) v = table_rise n (on_report f from copies) (row table_group group v.tables) v
inside_rise n f from (body.Open serial call process request file how) v = table_rise n (on_open f from (record { serial = serial; call = call; process = process; request = request; file = file; how = how })) (row table_group file.group v.tables) v
inside_rise n f from (body.Opened inst answer) v = table_rise n (on_opened f inst answer) (first_that (is_opened_in inst) v.tables) v
inside_rise n f from (body.Closed inst made) v = table_rise n (on_closed f from inst made) (first_that (is_opened_in inst) v.tables) v
inside_rise n f from (body.Look call process request take file what) v = table_rise n (on_look f from (record { call = call; process = process; request = request; take = take; file = file; what = what })) (row table_group file.group v.tables) v
inside_rise n f from (body.Have file stamp) v = table_rise n (on_have from file stamp) (row table_group file.group v.tables) v
inside_rise n f from x v = stays_rise n v (takes_inside f from x v) (refl, refl)

framed_rise : (n : ℕ) (c : Config) (me : ℕ) (p : Packet) (e : Option InEpoch) (v : SiteView) → SiteRises n v (takes_framed c me p e v)
framed_rise n c me p None v = stays_rise n v (quiet v) (refl, refl)
framed_rise n c me p (Some e) v = inside_rise n (frame_in c me v.boot e) p.from p.body v

takes_rise : (n : ℕ) (c : Config) (me : ℕ) (links : Links) (p : Packet) (x : Body) (v : SiteView) → SiteRises n v (takes c me links p x v)
takes_rise n c me links p body.Poll v = stays_rise n v (on_poll me links p.from p.from_boot p.epoch v) (poll_stays me links p.from p.from_boot p.epoch v)
takes_rise n c me links p (body.Promise reach) v = stays_rise n v (on_promise_of p.from p.from_boot p.epoch reach v.round v) (promise_stays p.from p.from_boot p.epoch reach v.round v)
takes_rise n c me links p (body.Refuse promised) v = stays_rise n v (on_refuse_of me links p.epoch promised v.round v) (refuse_stays me links p.epoch promised v.round v)
takes_rise n c me links p (body.Install members) v = stays_rise n v (on_install c me p.from p.from_boot p.epoch members v) (install_stays c me p.from p.from_boot p.epoch members v)
takes_rise n c me links p body.Joined v = stays_rise n v (on_joined p.from p.epoch v) (joined_stays p.from p.epoch v)
takes_rise n c me links p _ v = framed_rise n c me p v.epoch v

-- ---- the step ----

whole_rise : (n : ℕ) (c : Config) (me : ℕ) (links : Links) (v : SiteView) (o : Outcome SiteView) (tries : SiteView → Outcome SiteView) → SiteRises n v o → ((u : SiteView) → Stays u (tries u).view) → SiteRises n v (whole c me links o tries)
whole_rise n c me links v o tries h stays =
    let a : Outcome SiteView = tries o.view in
    let last : Outcome SiteView = ends_event c me links a.view in
    let e : SiteRises n a.view last = ends_rise n c me links a.view in
    let k : Stays o.view a.view = stays o.view in
    let s : length (a.sent ++ in_order (o.sent ++ last.sent)) ≡ length a.sent + length (in_order (o.sent ++ last.sent)) = append_length a.sent (in_order (o.sent ++ last.sent)) in
    let r : length (in_order (o.sent ++ last.sent)) ≡ length (o.sent ++ last.sent) = order_length (o.sent ++ last.sent) in
    let b : length (o.sent ++ last.sent) ≡ length o.sent + length last.sent = append_length o.sent last.sent in
    let t : total (told_size n) (a.told ++ (o.told ++ last.told)) ≡ total (told_size n) a.told + total (told_size n) (o.told ++ last.told) = append_total (told_size n) a.told (o.told ++ last.told) in
    let u : total (told_size n) (o.told ++ last.told) ≡ total (told_size n) o.told + total (told_size n) last.told = append_total (told_size n) o.told last.told in
    record { calls = omega (arith, h.calls, e.calls, k.0, s, r, b, t, u); serials = omega (arith, h.serials, e.serials, k.1, s, r, b, t, u) }

ticks_rise : (n : ℕ) (c : Config) (me : ℕ) (links : Links) (v : SiteView) (a : Outcome SiteView) → Stays v a.view → SiteRises n v (ticks_after c me links a)
ticks_rise n c me links v a k =
    let last : Outcome SiteView = ends_event c me links a.view in
    let again : List Packet = repeats c me a.view in
    let e : SiteRises n a.view last = ends_rise n c me links a.view in
    let s : length (a.sent ++ (again ++ in_order last.sent)) ≡ length a.sent + length (again ++ in_order last.sent) = append_length a.sent (again ++ in_order last.sent) in
    let r : length (again ++ in_order last.sent) ≡ length again + length (in_order last.sent) = append_length again (in_order last.sent) in
    let b : length (in_order last.sent) ≡ length last.sent = order_length last.sent in
    let t : total (told_size n) (a.told ++ last.told) ≡ total (told_size n) a.told + total (told_size n) last.told = append_total (told_size n) a.told last.told in
    record { calls = omega (arith, e.calls, k.0, s, r, b, t); serials = omega (arith, e.serials, k.1, s, r, b, t) }

step_rise : (n : ℕ) (c : Config) (me : ℕ) (links : Links) (v : SiteView) (e : Event) → SiteRises n v (step c me links v e)
step_rise n c me links v (Calls process words) = whole_rise n c me links v (takes_call c me process words v) quiet (call_rise n (call_frame c me v.boot v.epoch) (epoch_id v.epoch) process words v.users) (λ u. (refl, refl))
step_rise n c me links v (Receives p) =
    elim (is_dropped p v) as (λ t. SiteRises n v (elim t as (λ (x : Bool). Outcome SiteView) [ true ↦ quiet v | false ↦ whole c me links (takes c me links p p.body v) (tries_at c me p.body) ])) [
      | true ↦ stays_rise n v (quiet v) (refl, refl)
      | false ↦ whole_rise n c me links v (takes c me links p p.body v) (tries_at c me p.body) (takes_rise n c me links p p.body v) (tries_stay c me p.body)
    ]
step_rise n c me links v Ticks = ticks_rise n c me links v (adopts_in c me v) (adopts_stay c me v.epoch v)
step_rise n c me links v Parts = whole_rise n c me links v (starts_part me links v) quiet (stays_rise n v (starts_part me links v) (part_stays me links v.epoch v)) (λ u. (refl, refl))
step_rise n c me links v Merges = whole_rise n c me links v (starts_merge me links v) quiet (stays_rise n v (starts_merge me links v) (begins_stay me links (v.promised.number + 1) (boots_where (merge_boot me links)) v)) (λ u. (refl, refl))
step_rise n c me links v GivesUp = whole_rise n c me links v (leaves me v) quiet (stays_rise n v (leaves me v) (leaves_stay me v.epoch v)) (λ u. (refl, refl))

-- ---- the world ----

abbrev size : World → ℕ
size w = w.packets + w.text

abbrev Counts : ℕ → SiteView → Type 0
Counts m v = (v.users.calls ≤ m) × (v.users.serials ≤ m)

pub record Counted (w : World) : Type 0 where
  pub views : (s : ℕ) (v : SiteView) → place_at w s ≡ Some (Running v) → Counts (size w) v
  pub room : size w ≤ 134479872

within : (packets bytes text : ℕ) → limit_passed packets bytes text ≡ None → packets + text ≤ 134479872
within packets bytes text none = grind (arith, nat_tests)

counts_more : (m n : ℕ) (v : SiteView) → m ≤ n → Counts m v → Counts n v
counts_more m n v le h = (omega (arith, le, h.0), omega (arith, le, h.1))

happened_counted : (n : ℕ) (ps : List Packet) (told : List Told) (change : World → World) (w : World) → ((s : ℕ) (v : SiteView) → place_at (change w) s ≡ Some (Running v) → Counts (size w + (length ps + total (told_size n) told)) v) → Counted w → Counted (happened n ps told change w)
happened_counted n ps told change w views g = by_over w.over
  where
    bytes : ℕ
    bytes = w.bytes + total packet_size ps

    text : ℕ
    text = w.text + total (told_size n) told

    by_limit : (l : Option Limit) → limit_passed (w.packets + length ps) bytes text ≡ l → Counted (unless_over l n ps told change (w.packets + length ps) bytes text w)
    by_limit (Some l) is = record { views = g.views; room = g.room }
    by_limit None is = record { views = λ s v here. counts_more (size w + (length ps + total (told_size n) told)) ((w.packets + length ps) + text) v (omega arith) (views s v here); room = within (w.packets + length ps) bytes text is }

    by_over : (o : Option Limit) → Counted (happened_of o n ps told change w)
    by_over (Some l) = g
    by_over None = by_limit (limit_passed (w.packets + length ps) bytes text) refl

still_counted : (n : ℕ) (told : List Told) (w : World) → Counted w → Counted (happened n [] told (λ now. now) w)
still_counted n told w g = happened_counted n [] told (λ now. now) w (λ s v here. counts_more (size w) _ v (omega arith) (g.views s v here)) g

put_counts : (s : ℕ) (p : Place) (w : World) (m : ℕ) → size w ≤ m → ((v : SiteView) → p ≡ Running v → Counts m v) → Counted w → (t : ℕ) (u : SiteView) → place_at (puts s p w) t ≡ Some (Running u) → Counts m u
put_counts s p w m le mine g t u here = at_each s t (Counts m u)
    (λ e. mine u (place_there s p w u (ap (place_at (puts s p w)) e ∙ here)))
    (λ ne. counts_more (size w) m u le (g.views t u (sym (puts_other s t p w ne) ∙ here)))

stops_counted : (n s : ℕ) (d : Disk) (told : List Told) (w : World) → Counted w → Counted (happened n [] told (stops_with s d) w)
stops_counted n s d told w g = happened_counted n [] told (stops_with s d) w (put_counts s (Stopped d) w _ (omega arith) (λ v e. absurd (stopped_never d v e)) g) g

acts_counted : (n s : ℕ) (v : SiteView) (o : Outcome SiteView) (w : World) → place_at w s ≡ Some (Running v) → SiteRises n v o → Counted w → Counted (acts n s v o w)
acts_counted n s v o w here h g =
    acts_cases Counted n s v o w
    (happened_counted n o.sent o.told (λ now. puts s (Running o.view) now) w views g)
    (λ a. happened_counted n o.sent o.told (λ now. puts s (Running o.view) (arms a now)) w views g)
    (λ d a e. stops_counted n s (cut_disk v.boot v.store d a.how a.left) (cut_told s v.store d a.how a.left) w g)
  where
    old : Counts (size w) v
    old = g.views s v here

    mine : Counts (size w + spent n o) o.view
    mine = (omega (arith, h.calls, old.0), omega (arith, h.serials, old.1))

    views : (t : ℕ) (u : SiteView) → place_at (puts s (Running o.view) w) t ≡ Some (Running u) → Counts (size w + spent n o) u
    views = put_counts s (Running o.view) w (size w + spent n o) (omega arith) (λ u e. subst (λ (y : SiteView). Counts (size w + spent n o) y) (running_view o.view u e) mine) g

fresh_counts : (s : ℕ) (x : Disk) (w : World) (m : ℕ) → size w ≤ m → Counted w → (t : ℕ) (u : SiteView) → place_at (puts s (Running (fresh x.label.boot x.copies)) w) t ≡ Some (Running u) → Counts m u
fresh_counts s x w m le g = put_counts s (Running (fresh x.label.boot x.copies)) w m le (λ v e. subst (λ (y : SiteView). Counts m y) (running_view (fresh x.label.boot x.copies) v e) (omega arith, omega arith)) g

boots_counted : (n s : ℕ) (b : Booted) (w : World) → Counted w → Counted (boots_as n s b w)
boots_counted n s (Whole x None) w g = happened_counted n [] _ _ w (fresh_counts s x w _ (omega arith) g) g
boots_counted n s (Whole x (Some a)) w g = happened_counted n [] _ _ w (fresh_counts s x w _ (omega arith) g) g
boots_counted n s (CutOff x how) w g = stops_counted n s x _ w g

pub counted_kept : (c : Config) → Kept c Counted
counted_kept c = record {
  steps = λ n s e v w here own g. acts_counted n s v (step c s (links_of w s) v e) w here (step_rise n c s (links_of w s) v e) g;
  receives = λ n x v w here sent g. acts_counted n x.packet.to v (step c x.packet.to (links_of (passed x.number w) x.packet.to) v (Receives x.packet)) (passed x.number w) here (step_rise n c x.packet.to (links_of (passed x.number w) x.packet.to) v (Receives x.packet)) (record { views = g.views; room = g.room });
  passes = λ k w g. record { views = g.views; room = g.room };
  drops = λ k w g. record { views = g.views; room = g.room };
  recuts = λ xs w g. record { views = g.views; room = g.room };
  arming = λ a w g. record { views = g.views; room = g.room };
  voiding = λ n w g. still_counted n _ w g;
  budgets = λ n w g. still_counted n _ w g;
  pending = λ n w g. still_counted n _ w g;
  stopping = λ n s v w here g. stops_counted n s (disk_of v) _ w g;
  booting = λ n s d w here g. boots_counted n s (boots (script_of w s) d) w g;
}

pub first_counted : (c : Config) → Counted (first_world c)
first_counted c = record { views = first_views c (λ s. Counts 0) (λ s own. (omega arith, omega arith)); room = omega arith }

pub counts_low : (w : World) → Counted w → CountsAreLow w
counts_low w g s v here = let k : Counts (size w) v = g.views s v here in record { calls = omega (arith, k.0, g.room); serials = omega (arith, k.1, g.room) }

pub run_counts_low : (c : Config) (lines : List ScheduleLine) → CountsAreLow (run_in c lines)
run_counts_low c lines = counts_low (run_in c lines) (every_run c Counted (counted_kept c) (first_counted c) lines)
