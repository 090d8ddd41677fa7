-- What each event of a site does in the room of its packs.
use Rattle.std.proofs.Common.{◌≡◌, ◌≤◌, ℕ, ◌+◌, ◌-◌, ◌==◌, length, Bool, true, false, cond, ◌&&◌, not, List, [], ◌∷◌, Option, Some, None, refl, sym, ap, subst, arith}
use Rattle.locus_ids.specs.declared.ids.EpochId.{EpochId}
use Rattle.locus_ids.specs.declared.sites.Links.{Links}
use Rattle.locus_ids.specs.declared.sites.Members.{Members}
use Rattle.locus_ids.specs.declared.sites.Sites.{Sites}
use Rattle.locus_ids.specs.declared.config.Config.{Config}
use Rattle.locus_ids.specs.Sizes.{pack_pages}
use Rattle.trace_book.specs.Same.{same_epoch}
use Rattle.trace_book.specs.declared.call.Call.TheVariants as call
use Rattle.wire_messages.specs.declared.packet.Packet.{Packet}
use Rattle.wire_messages.specs.declared.body.Body.{Body}
use Rattle.wire_messages.specs.declared.body.Body.TheVariants as body
use Rattle.role_steps.specs.Tables.{row, without_row, first_that, total, with_row}
use Rattle.role_steps.specs.Views.{Frame, Store, SiteView, Promises, DiskWrite, Outcome, Event, Calls, Receives, Ticks, Parts, Merges, GivesUp, quiet, sends, tells, and_then, first_written}
use Rattle.role_steps.specs.Storage.{content_of, copy_of, instance_of, on_open_ss, changed_pages, copy_key, copy_pages, free_pages}
use Rattle.role_steps.specs.Epochs.{is_epoch_below, frame_in, leaves_of, leaves, promises, promised_view, reached, polls, round_id, begins_round, starts_merge, boots_where, merge_boot, part_boot, starts_part_of, starts_part, promise_packet, refuse_packet, on_poll, on_promise_of, on_refuse_of, joins, may_install, is_in, joined_packet, on_install, on_joined, passed_over, unanswered, chosen_members, chosen_set, installs_all, decides_if, passes_over_of, passes_over}
use Rattle.role_steps.specs.Adoption.{notes_own_at, copy_adopted, table_group, without_pull, is_ready, adopts_pull, adopts_first, has_room, with_adopted, fits_own, content_under}
use Rattle.role_steps.specs.Mends.{mending, has_mend_in, wants_mend, starts_mend_of, starts_mend, starts_mends_in, row_file}
use Rattle.role_steps.specs.declared.pulls.Pull.{Pull}
use Rattle.role_steps.specs.declared.rounds.InEpoch.{InEpoch}
use Rattle.role_steps.specs.declared.rounds.Round.{Round}
use Rattle.role_steps.specs.declared.synchronizing.SyncTable.{SyncTable}
use Rattle.role_steps.specs.declared.synchronizing.FileRow.{FileRow}
use Rattle.the_run.specs.Roles.{IsForStore}
use Rattle.run_laws.proofs.Walks.Untouched.{Untouched, untouched}
use Rattle.the_run.specs.Steps.{from_user, group_of, takes_inside, is_dropped, takes_framed, takes, adopts_of, adopts_in, tries_at, starts_mends_of, ends_event, whole, ticks_after, call_frame, epoch_id, takes_call, step}
use Rattle.run_laws.proofs.Telling.{on_call_talks}
use Rattle.std.specs.Prelude.{nat_le}
use Rattle.std.proofs.lemmas.Bool.Decides.{nat_tests}
use Rattle.role_steps.proofs.of_plain_facts.Numbers.{equal}
use Rattle.role_steps.proofs.of_plain_facts.Tests.{and_first, and_second}
use Rattle.role_steps.specs.Pulling.{is_complete, wanted_pages}
use Rattle.role_steps.specs.declared.copies.FileCopy.{FileCopy}
use Rattle.tree_laws.specs.Stores.{Ascends}
use Rattle.role_steps.specs.Own.{Every}
use Rattle.rest_laws.specs.Fits.Room.{RoomFits}
use Rattle.rest_laws.proofs.Fits.RoomStore.{Calm, Rooms, StoreGood, calm_rooms, calm_same, calm_then, on_close_room, on_closed_ok_calm, on_op_room, on_read_held_room, on_open_ss_calm, rooms_then, then_rooms}
use Rattle.rest_laws.proofs.Fits.Totals.{measured, row_total}

abbrev pub Keeps : SiteView → Outcome SiteView → Type 0
Keeps v o = Calm v.store o.view.store o.written

abbrev pub SiteRooms : SiteView → Outcome SiteView → Type 0
SiteRooms v o = Rooms v.store o.view.store o.written

still : (v : SiteView) (o : Outcome SiteView) → o.view.store ≡ v.store → o.written ≡ None → Keeps v o
still v o e none = calm_same v.store o.view.store o.written e none

quiet_keeps : (v : SiteView) → Keeps v (quiet v)
quiet_keeps v = still v (quiet v) refl refl

quietly : (s : Store) (written : Option DiskWrite) → written ≡ None → Calm s s written
quietly s written none = calm_same s s written refl none

rooming : {old new : Store} {written : Option DiskWrite} → Calm old new written → Rooms old new written
rooming {old} {new} {written} k = calm_rooms old new written k

then_keeps : (v : SiteView) (o : Outcome SiteView) (g : SiteView → Outcome SiteView) → Keeps v o → Keeps o.view (g o.view) → Keeps v (and_then o g)
then_keeps v o g h k = calm_then v.store o.view.store (g o.view).view.store o.written (g o.view).written h k

-- ---- packets inside the epoch ----

apart_keeps : (f : Frame) (from : ℕ) (x : Body) (v : SiteView) → (IsForStore x → ⊥) → Keeps v (takes_inside f from x v)
apart_keeps f from x v n = (let u : Untouched v (takes_inside f from x v) = untouched f from x v n in still v (takes_inside f from x v) u.0 u.1)

inside_room : (f : Frame) (from : ℕ) (x : Body) (v : SiteView) → StoreGood v.store → SiteRooms v (takes_inside f from x v)
inside_room f from (body.OpenSs inst file mode set kind base vector parents) v good = (let k : Calm v.store (on_open_ss f (record { inst = inst; file = file; mode = mode; set = set; kind = kind; base = base; vector = vector; parents = parents }) v.store).view (on_open_ss f (record { inst = inst; file = file; mode = mode; set = set; kind = kind; base = base; vector = vector; parents = parents }) v.store).written = on_open_ss_calm f (record { inst = inst; file = file; mode = mode; set = set; kind = kind; base = base; vector = vector; parents = parents }) v.store in calm_rooms v.store _ _ k)
inside_room f from (body.Op serial n o seen) v good = on_op_room f (mending v (group_of (instance_of v.store (from_user from serial)))) (from_user from serial) n o seen v.store good
inside_room f from (body.ReadHeld serial n at len) v good = on_read_held_room f (from_user from serial) n at len v.store good
inside_room f from (body.Close serial) v good = on_close_room f (from_user from serial) v.store good
inside_room f from (body.ClosedOk inst) v good = calm_rooms v.store _ _ (on_closed_ok_calm f inst v.store)
inside_room f from x v good = rooming (apart_keeps f from x v (λ n. n))

framed_room : (c : Config) (me : ℕ) (p : Packet) (e : Option InEpoch) (v : SiteView) → StoreGood v.store → SiteRooms v (takes_framed c me p e v)
framed_room c me p None v good = rooming (quiet_keeps v)
framed_room c me p (Some e) v good = inside_room (frame_in c me v.boot e) p.from p.body v good

-- a packet that no instance takes
framed_keeps : (c : Config) (me : ℕ) (p : Packet) (x : Body) (v : SiteView) → p.body ≡ x → (IsForStore x → ⊥) → (o : Option InEpoch) → Keeps v (takes_framed c me p o v)
framed_keeps c me p x v e n None = quiet_keeps v
framed_keeps c me p x v e n (Some i) = subst (λ (y : Body). Keeps v (takes_inside (frame_in c me v.boot i) p.from y v)) (sym e) (apart_keeps (frame_in c me v.boot i) p.from x v n)

-- ---- adoptions and mends ----

noted_store : (f : Frame) (p : Pull) (o : Option SyncTable) (v : SiteView) → (notes_own_at f p o v).store ≡ v.store
noted_store f p None v = refl
noted_store f p (Some t) v = refl

-- a ready pull has room
pub ready_room : (v : SiteView) (p : Pull) → is_ready v p ≡ true → length (wanted_pages p) ≤ free_pages v.store p.file.group
ready_room v p h = low (and_first (has_room v.store p) _ (and_second (is_complete p) _ h))
  where
    low : nat_le (length (wanted_pages p)) (free_pages v.store p.file.group) ≡ true → length (wanted_pages p) ≤ free_pages v.store p.file.group
    low e = grind (arith, nat_tests)

-- laid over the site's own copy, what was pulled takes no more pages than this one and those that came
abbrev pub PullRoom : Store → Pull → Type 0
PullRoom s p = is_complete p ≡ true → fits_own p (copy_of s p.file) ≡ true → (g : ℕ) → copy_pages g (copy_adopted p (content_of (copy_of s p.file))) ≤ measured (copy_pages g) (copy_of s p.file) + cond (p.file.group == g) (length (wanted_pages p)) 0

-- so it is with all that a site pulls
pub record PullsRoom (v : SiteView) : Type 0 where
  pub ascends : Ascends copy_key v.store.copies
  pub pulls : Every (PullRoom v.store) v.pulls

adopted_fits : (v : SiteView) (p : Pull) → is_ready v p ≡ true → fits_own p (copy_of v.store p.file) ≡ true → Ascends copy_key v.store.copies → PullRoom v.store p → RoomFits v.store → (g : ℕ) →
    (total (copy_pages g) (with_row copy_key (copy_adopted p (content_under v p)) v.store.copies) + total (changed_pages g) v.store.instances ≤ pack_pages)
adopted_fits v p ready fits ascends room h g = over (p.file.group == g) refl
  where
    adopted : FileCopy
    adopted = copy_adopted p (content_under v p)

    all : total (copy_pages g) (with_row copy_key adopted v.store.copies) + measured (copy_pages g) (copy_of v.store p.file) ≡ total (copy_pages g) v.store.copies + copy_pages g adopted
    all = row_total (copy_pages g) copy_key adopted v.store.copies ascends

    more : copy_pages g adopted ≤ measured (copy_pages g) (copy_of v.store p.file) + cond (p.file.group == g) (length (wanted_pages p)) 0
    more = room (and_first (is_complete p) _ ready) fits g

    free_is : p.file.group ≡ g → length (wanted_pages p) ≤ pack_pages - (total (copy_pages g) v.store.copies + total (changed_pages g) v.store.instances)
    free_is e = subst (λ (n : ℕ). length (wanted_pages p) ≤ pack_pages - (total (copy_pages n) v.store.copies + total (changed_pages n) v.store.instances)) e (ready_room v p ready)

    here : (a m b x y z w : ℕ) → a + m ≡ b + x → x ≤ m + z → z ≡ w → w ≤ pack_pages - (b + y) → b + y ≤ pack_pages → a + y ≤ pack_pages
    here a m b x y z w e l k q n = omega (arith, e, l, k, q, n)

    other : (a m b x y z : ℕ) → a + m ≡ b + x → x ≤ m + z → z ≡ 0 → b + y ≤ pack_pages → a + y ≤ pack_pages
    other a m b x y z e l k n = omega (arith, e, l, k, n)

    over : (b : Bool) → (p.file.group == g) ≡ b → total (copy_pages g) (with_row copy_key adopted v.store.copies) + total (changed_pages g) v.store.instances ≤ pack_pages
    over true e = here (total (copy_pages g) (with_row copy_key adopted v.store.copies)) (measured (copy_pages g) (copy_of v.store p.file)) (total (copy_pages g) v.store.copies) (copy_pages g adopted) (total (changed_pages g) v.store.instances) (cond (p.file.group == g) (length (wanted_pages p)) 0) (length (wanted_pages p))
        all more (ap (λ (x : Bool). cond x (length (wanted_pages p)) 0) e) (free_is (equal p.file.group g e)) (h g)
    over false e = other (total (copy_pages g) (with_row copy_key adopted v.store.copies)) (measured (copy_pages g) (copy_of v.store p.file)) (total (copy_pages g) v.store.copies) (copy_pages g adopted) (total (changed_pages g) v.store.instances) (cond (p.file.group == g) (length (wanted_pages p)) 0)
        all more (ap (λ (x : Bool). cond x (length (wanted_pages p)) 0) e) (h g)

adopts_pull_room : (f : Frame) (p : Pull) (v : SiteView) → is_ready v p ≡ true → fits_own p (copy_of v.store p.file) ≡ true → Ascends copy_key v.store.copies → PullRoom v.store p → SiteRooms v (adopts_pull f p v)
adopts_pull_room f p v ready fits ascends room = record {
  view = λ h. subst RoomFits (sym (noted_store f p (row table_group p.file.group v.tables) (with_adopted p v))) (adopted_fits v p ready fits ascends room h);
  disk = λ h g. less (total (copy_pages g) (with_row copy_key (copy_adopted p (content_under v p)) v.store.copies)) (total (changed_pages g) v.store.instances) (adopted_fits v p ready fits ascends room h g);
}
  where
    less : (a b : ℕ) → a + b ≤ pack_pages → a ≤ pack_pages
    less a b l = omega (arith, l)

adopts_first_room : (f : Frame) (ps : List Pull) (v : SiteView) → Ascends copy_key v.store.copies → Every (PullRoom v.store) ps → SiteRooms v (adopts_first f ps v)
adopts_first_room f [] v ascends rooms = rooming (quiet_keeps v)
adopts_first_room f (p ∷ ps) v ascends rooms =
    (elim (is_ready v p) as (λ t. is_ready v p ≡ t → SiteRooms v (elim t [ true ↦ elim (fits_own p (copy_of v.store p.file)) [ true ↦ adopts_pull f p v | false ↦ adopts_first f ps (without_pull p v) ] | false ↦ adopts_first f ps v ])) [
      | true ↦ λ e. (elim (fits_own p (copy_of v.store p.file)) as (λ t. fits_own p (copy_of v.store p.file) ≡ t → SiteRooms v (elim t [ true ↦ adopts_pull f p v | false ↦ adopts_first f ps (without_pull p v) ])) [
        | true ↦ λ k. adopts_pull_room f p v e k ascends rooms.0
        | false ↦ λ k. adopts_first_room f ps (without_pull p v) ascends rooms.1
      ]) refl
      | false ↦ λ e. adopts_first_room f ps v ascends rooms.1
    ]) refl

adopts_of_room : (c : Config) (me : ℕ) (e : Option InEpoch) (v : SiteView) → PullsRoom v → SiteRooms v (adopts_of c me e v)
adopts_of_room c me None v room = rooming (quiet_keeps v)
adopts_of_room c me (Some e) v room = adopts_first_room (frame_in c me v.boot e) v.pulls v room.ascends room.pulls

starts_mend_of_keeps : (f : Frame) (t : SyncTable) (o : Option FileRow) (v : SiteView) → Keeps v (starts_mend_of f t o v)
starts_mend_of_keeps f t None v = quiet_keeps v
starts_mend_of_keeps f t (Some r) v = quietly v.store _ (on_call_talks f (Some f.epoch) 0 (call.Mend (row_file t r)) v.users).1

starts_mend_keeps : (f : Frame) (t : SyncTable) (v : SiteView) → Keeps v (starts_mend f t v)
starts_mend_keeps f t v =
    elim (t.started && not (has_mend_in v.users t.group)) as (λ x. Keeps v (elim x [ true ↦ starts_mend_of f t (first_that (wants_mend v t) t.files) v | false ↦ quiet v ])) [
      | true ↦ starts_mend_of_keeps f t (first_that (wants_mend v t) t.files) v
      | false ↦ quiet_keeps v
    ]

starts_mends_keeps : (f : Frame) (ts : List SyncTable) (v : SiteView) → Keeps v (starts_mends_in f ts v)
starts_mends_keeps f [] v = quiet_keeps v
starts_mends_keeps f (t ∷ ts) v = then_keeps v (starts_mend f t v) (starts_mends_in f ts) (starts_mend_keeps f t v) (starts_mends_keeps f ts (starts_mend f t v).view)

mends_of_keeps : (c : Config) (me : ℕ) (e : Option InEpoch) (v : SiteView) → Keeps v (starts_mends_of c me e v)
mends_of_keeps c me None v = quiet_keeps v
mends_of_keeps c me (Some e) v = starts_mends_keeps (frame_in c me v.boot e) v.tables v

-- ---- how an epoch is formed ----

leaves_of_keeps : (me : ℕ) (e : Option InEpoch) (v : SiteView) → Keeps v (leaves_of me e v)
leaves_of_keeps me None v = quiet_keeps v
leaves_of_keeps me (Some e) v = record { copies = refl; changed = λ g. nothing (total (changed_pages g) v.store.instances); none = refl }
  where
    nothing : (n : ℕ) → 0 ≤ n
    nothing n = omega arith

promises_keeps : (me : ℕ) (id : EpochId) (reach : Sites) (v : SiteView) → Keeps v (promises me id reach v)
promises_keeps me id reach v = then_keeps v (leaves me v) (λ now. tells (Promises me id reach ∷ []) (promised_view id now)) (leaves_of_keeps me v.epoch v) (quietly _ None refl)

begins_keeps : (me : ℕ) (links : Links) (number : ℕ) (polled : Links) (v : SiteView) → Keeps v (begins_round me links number polled v)
begins_keeps me links number polled v = then_keeps v (promises me (round_id me number v) (reached links) v) (polls me (round_id me number v) polled) (promises_keeps me (round_id me number v) (reached links) v) (quietly _ None refl)

starts_part_keeps : (me : ℕ) (links : Links) (e : Option InEpoch) (v : SiteView) → Keeps v (starts_part_of me links e v)
starts_part_keeps me links None v = quiet_keeps v
starts_part_keeps me links (Some e) v = begins_keeps me links (v.promised.number + 1) (boots_where (part_boot me links e.members)) v

on_poll_keeps : (me : ℕ) (links : Links) (from from_boot : ℕ) (id : EpochId) (v : SiteView) → Keeps v (on_poll me links from from_boot id v)
on_poll_keeps me links from from_boot id v =
    elim (is_epoch_below v.promised id) as (λ t. Keeps v (elim t [ true ↦ and_then (promises me id (reached links) v) (λ now. sends (promise_packet me links from from_boot id now) now) | false ↦ sends (cond (same_epoch id v.promised && not v.installed) (promise_packet me links from from_boot id v) (refuse_packet me from from_boot id v)) v ])) [
      | true ↦ then_keeps v (promises me id (reached links) v) (λ now. sends (promise_packet me links from from_boot id now) now) (promises_keeps me id (reached links) v) (quietly _ None refl)
      | false ↦ quietly _ None refl
    ]

on_promise_keeps : (from from_boot : ℕ) (id : EpochId) (reach : Sites) (o : Option Round) (v : SiteView) → Keeps v (on_promise_of from from_boot id reach o v)
on_promise_keeps from from_boot id reach None v = quiet_keeps v
on_promise_keeps from from_boot id reach (Some r) v = quietly v.store None refl

on_refuse_keeps : (me : ℕ) (links : Links) (id theirs : EpochId) (o : Option Round) (v : SiteView) → Keeps v (on_refuse_of me links id theirs o v)
on_refuse_keeps me links id theirs None v = quiet_keeps v
on_refuse_keeps me links id theirs (Some r) v =
    elim (same_epoch r.id id) as (λ t. Keeps v (elim t [ true ↦ begins_round me links (theirs.number + 1) r.polled v | false ↦ quiet v ])) [
      | true ↦ begins_keeps me links (theirs.number + 1) r.polled v
      | false ↦ quiet_keeps v
    ]

joins_keeps : (c : Config) (me : ℕ) (id : EpochId) (m : Members) (v : SiteView) → Keeps v (joins c me id m v)
joins_keeps c me id m v = quietly v.store None refl

on_install_keeps : (c : Config) (me from from_boot : ℕ) (id : EpochId) (m : Members) (v : SiteView) → Keeps v (on_install c me from from_boot id m v)
on_install_keeps c me from from_boot id m v =
    elim (may_install me id m v) as (λ t. Keeps v (elim t [ true ↦ and_then (joins c me id m v) (λ now. sends (joined_packet me from from_boot id now) now) | false ↦ sends (cond (is_in id v.epoch) (joined_packet me from from_boot id v) []) v ])) [
      | true ↦ then_keeps v (joins c me id m v) (λ now. sends (joined_packet me from from_boot id now) now) (joins_keeps c me id m v) (quietly _ None refl)
      | false ↦ quietly _ None refl
    ]

on_joined_keeps : (from : ℕ) (id : EpochId) (v : SiteView) → Keeps v (on_joined from id v)
on_joined_keeps from id v =
    elim (is_in id v.epoch) as (λ b. Keeps v (quiet (cond b (record v { installs = without_row (λ s. s) from v.installs }) v))) [ true ↦ quietly _ None refl | false ↦ quiet_keeps v ]

decides_if_keeps : (c : Config) (me : ℕ) (links : Links) (r : Round) (xs : List ℕ) (v : SiteView) → Keeps v (decides_if c me links r xs v)
decides_if_keeps c me links r [] v =
    let m : Members = chosen_members me v.boot r (chosen_set me links r) in
    then_keeps v (joins c me r.id m v) (installs_all me r.id m) (joins_keeps c me r.id m v) (quietly _ None refl)
decides_if_keeps c me links r (x ∷ xs) v = quietly v.store None refl

passes_over_keeps : (c : Config) (me : ℕ) (links : Links) (o : Option Round) (v : SiteView) → Keeps v (passes_over_of c me links o v)
passes_over_keeps c me links None v = quiet_keeps v
passes_over_keeps c me links (Some r) v = decides_if_keeps c me links (passed_over links r) (unanswered (passed_over links r)) v

ends_keeps : (c : Config) (me : ℕ) (links : Links) (v : SiteView) → Keeps v (ends_event c me links v)
ends_keeps c me links v = then_keeps v (passes_over c me links v) (λ now. starts_mends_of c me now.epoch now) (passes_over_keeps c me links v.round v) (mends_of_keeps c me (passes_over c me links v).view.epoch (passes_over c me links v).view)

-- ---- the step ----

-- where the event itself may write, no adoption is tried
writes_room : (c : Config) (me : ℕ) (links : Links) (v : SiteView) (o : Outcome SiteView) → SiteRooms v o → SiteRooms v (whole c me links o quiet)
writes_room c me links v o h = rooms_then v.store o.view.store (ends_event c me links o.view).view.store o.written (ends_event c me links o.view).written h (ends_keeps c me links o.view)

-- an adoption that is tried; the event itself writes nothing then
tried_room : (c : Config) (me : ℕ) (links : Links) (v : SiteView) (o : Outcome SiteView) → Keeps v o → PullsRoom o.view → SiteRooms v (whole c me links o (adopts_in c me))
tried_room c me links v o h room =
    let a : Outcome SiteView = adopts_in c me o.view in
    let last : Outcome SiteView = ends_event c me links a.view in
    rooms_then v.store a.view.store last.view.store a.written (first_written o.written last.written)
    (then_rooms v.store o.view.store a.view.store o.written a.written h (adopts_of_room c me o.view.epoch o.view room))
    (calm_then a.view.store a.view.store last.view.store o.written last.written (calm_same a.view.store a.view.store o.written refl h.none) (ends_keeps c me links a.view))

-- after what is taken an adoption is tried, and all that is pulled then has room
abbrev pub TakesRoom : Config → ℕ → Packet → Body → SiteView → Type 0
TakesRoom c me p (body.Notify file kind set size stamp vector holder) v = PullsRoom (takes_framed c me p v.epoch v).view
TakesRoom c me p (body.Page file stamp page bytes) v = PullsRoom (takes_framed c me p v.epoch v).view
TakesRoom c me p (body.Delta file wanted pages) v = PullsRoom (takes_framed c me p v.epoch v).view
TakesRoom c me p _ v = Unit {0}

received_room : (c : Config) (me : ℕ) (links : Links) (p : Packet) (x : Body) (v : SiteView) → p.body ≡ x → StoreGood v.store → TakesRoom c me p x v → SiteRooms v (whole c me links (takes c me links p x v) (tries_at c me x))
received_room c me links p body.Poll v e good room = writes_room c me links v (takes c me links p body.Poll v) (rooming (on_poll_keeps me links p.from p.from_boot p.epoch v))
received_room c me links p (body.Promise reach) v e good room = writes_room c me links v (takes c me links p (body.Promise reach) v) (rooming (on_promise_keeps p.from p.from_boot p.epoch reach v.round v))
received_room c me links p (body.Refuse promised) v e good room = writes_room c me links v (takes c me links p (body.Refuse promised) v) (rooming (on_refuse_keeps me links p.epoch promised v.round v))
received_room c me links p (body.Install members) v e good room = writes_room c me links v (takes c me links p (body.Install members) v) (rooming (on_install_keeps c me p.from p.from_boot p.epoch members v))
received_room c me links p body.Joined v e good room = writes_room c me links v (takes c me links p body.Joined v) (rooming (on_joined_keeps p.from p.epoch v))
received_room c me links p (body.Notify file kind set size stamp vector holder) v e good room = tried_room c me links v (takes_framed c me p v.epoch v) (framed_keeps c me p _ v e (λ n. n) v.epoch) room
received_room c me links p (body.Page file stamp page bytes) v e good room = tried_room c me links v (takes_framed c me p v.epoch v) (framed_keeps c me p _ v e (λ n. n) v.epoch) room
received_room c me links p (body.Delta file wanted pages) v e good room = tried_room c me links v (takes_framed c me p v.epoch v) (framed_keeps c me p _ v e (λ n. n) v.epoch) room
received_room c me links p _ v e good room = writes_room c me links v (takes_framed c me p v.epoch v) (framed_room c me p v.epoch v good)

ticks_room : (c : Config) (me : ℕ) (links : Links) (v : SiteView) → PullsRoom v → SiteRooms v (ticks_after c me links (adopts_in c me v))
ticks_room c me links v room = (let a : Outcome SiteView = adopts_in c me v in rooms_then v.store a.view.store (ends_event c me links a.view).view.store a.written (ends_event c me links a.view).written (adopts_of_room c me v.epoch v room) (ends_keeps c me links a.view))

-- what is pulled has room in the view in which an adoption is tried
abbrev pub EventRoom : Config → ℕ → SiteView → Event → Type 0
EventRoom c me v (Receives p) = is_dropped p v ≡ false → TakesRoom c me p p.body v
EventRoom c me v Ticks = PullsRoom v
EventRoom c me v _ = Unit {0}

pub step_room : (c : Config) (me : ℕ) (links : Links) (v : SiteView) (e : Event) → StoreGood v.store → EventRoom c me v e → SiteRooms v (step c me links v e)
step_room c me links v (Calls process words) good room = writes_room c me links v (takes_call c me process words v) (rooming (quietly v.store _ (on_call_talks (call_frame c me v.boot v.epoch) (epoch_id v.epoch) process words v.users).1))
step_room c me links v (Receives p) good room =
    (elim (is_dropped p v) as (λ t. is_dropped p v ≡ t → SiteRooms v (elim t [ true ↦ quiet v | false ↦ whole c me links (takes c me links p p.body v) (tries_at c me p.body) ])) [
      | true ↦ λ e. rooming (quiet_keeps v)
      | false ↦ λ e. received_room c me links p p.body v refl good (room e)
    ]) refl
step_room c me links v Ticks good room = ticks_room c me links v room
step_room c me links v Parts good room = writes_room c me links v (starts_part me links v) (rooming (starts_part_keeps me links v.epoch v))
step_room c me links v Merges good room = writes_room c me links v (starts_merge me links v) (rooming (begins_keeps me links (v.promised.number + 1) (boots_where (merge_boot me links)) v))
step_room c me links v GivesUp good room = writes_room c me links v (leaves me v) (rooming (leaves_of_keeps me v.epoch v))
