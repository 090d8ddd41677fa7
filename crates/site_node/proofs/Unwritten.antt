-- Which parts of an event write no version.
use Rattle.std.proofs.Common.{◌≡◌, ℕ, Bool, true, false, cond, not, ◌&&◌, ◌+◌, List, [], ◌∷◌, Option, None, Some, refl, sym, ap, ◌∙◌, subst}
use Rattle.locus_ids.specs.declared.config.Config.{Config}
use Rattle.locus_ids.specs.declared.ids.EpochId.{EpochId}
use Rattle.locus_ids.specs.declared.sites.Links.{Links}
use Rattle.locus_ids.specs.declared.sites.Members.{Members}
use Rattle.locus_ids.specs.declared.sites.Sites.{Sites}
use Rattle.trace_book.specs.Same.{same_epoch}
use Rattle.trace_book.specs.declared.call.Call.{Call}
use Rattle.trace_book.specs.declared.call.Call.TheVariants as call
use Rattle.wire_messages.specs.declared.body.Body.{Body}
use Rattle.wire_messages.specs.declared.body.Body.TheVariants as body
use Rattle.wire_messages.specs.declared.packet.Packet.{Packet}
use Rattle.role_steps.specs.Tables.{first_that}
use Rattle.role_steps.specs.Views.{Frame, SiteView, Outcome, DiskWrite, quiet, sends, and_then, first_written}
use Rattle.role_steps.specs.Epochs.{frame_in, is_epoch_below, leaves, leaves_of, promises, reached, promise_packet, refuse_packet, begins_round, boots_where, round_id, merge_boot, part_boot, starts_merge, starts_part, starts_part_of, on_poll, on_promise_of, on_refuse_of, may_install, joins, joined_packet, is_in, on_install, decides_if, passed_over, unanswered, passes_over, passes_over_of}
use Rattle.role_steps.specs.Mends.{has_mend_in, row_file, starts_mend, starts_mend_of, starts_mends_in, wants_mend}
use Rattle.role_steps.specs.declared.rounds.InEpoch.{InEpoch}
use Rattle.role_steps.specs.declared.rounds.Round.{Round}
use Rattle.role_steps.specs.declared.synchronizing.FileRow.{FileRow}
use Rattle.role_steps.specs.declared.synchronizing.SyncTable.{SyncTable}
use Rattle.the_run.specs.Steps.{adopts_in, call_frame, ends_after, ends_event, epoch_id, starts_mends_of, takes, takes_call, takes_framed, takes_inside, ticks_after, tries_at, whole}
use Rattle.site_parts.proofs.of_run_laws.Telling.{on_call_talks}
use Rattle.site_parts.proofs.of_run_laws.Walks.Untouched.{untouched}
use Rattle.site_parts.specs.Roles.{role_of}
use Rattle.site_node.specs.Taking.{is_tried, taken}
use Rattle.site_parts.specs.declared.roles.Role.{Role}
use Rattle.site_parts.specs.declared.roles.Role.TheVariants as role

abbrev by_case : Bool → Outcome SiteView → Outcome SiteView → Outcome SiteView
by_case b x y = elim b [
  | true ↦ x
  | false ↦ y
]

-- one of two that write nothing
by_none : (b : Bool) (x y : Outcome SiteView) → x.written ≡ None → y.written ≡ None → (by_case b x y).written ≡ None
by_none true x y h k = h
by_none false x y h k = k

-- ---- what forms an epoch ----

pub leaves_none : (me : ℕ) (e : Option InEpoch) (v : SiteView) → (leaves_of me e v).written ≡ None
leaves_none me None v = refl
leaves_none me (Some e) v = refl

promises_none : (me : ℕ) (id : EpochId) (reach : Sites) (v : SiteView) → (promises me id reach v).written ≡ None
promises_none me id reach v = ap (λ (w : Option DiskWrite). first_written w None) (leaves_none me v.epoch v)

begins_none : (me : ℕ) (links : Links) (number : ℕ) (polled : Links) (v : SiteView) → (begins_round me links number polled v).written ≡ None
begins_none me links number polled v = ap (λ (w : Option DiskWrite). first_written w None) (promises_none me (round_id me number v) (reached links) v)

pub merges_none : (me : ℕ) (links : Links) (v : SiteView) → (starts_merge me links v).written ≡ None
merges_none me links v = begins_none me links (v.promised.number + 1) (boots_where (merge_boot me links)) v

parts_of : (me : ℕ) (links : Links) (e : Option InEpoch) (v : SiteView) → (starts_part_of me links e v).written ≡ None
parts_of me links None v = refl
parts_of me links (Some e) v = begins_none me links (v.promised.number + 1) (boots_where (part_boot me links e.members)) v

pub parts_none : (me : ℕ) (links : Links) (v : SiteView) → (starts_part me links v).written ≡ None
parts_none me links v = parts_of me links v.epoch v

poll_none : (me : ℕ) (links : Links) (from from_boot : ℕ) (id : EpochId) (v : SiteView) → (on_poll me links from from_boot id v).written ≡ None
poll_none me links from from_boot id v =
    by_none (is_epoch_below v.promised id) (and_then (promises me id (reached links) v) (λ now. sends (promise_packet me links from from_boot id now) now)) (sends (cond (same_epoch id v.promised && not v.installed) (promise_packet me links from from_boot id v) (refuse_packet me from from_boot id v)) v) (ap (λ (w : Option DiskWrite). first_written w None) (promises_none me id (reached links) v)) refl

promise_none : (from from_boot : ℕ) (id : EpochId) (reach : Sites) (o : Option Round) (v : SiteView) → (on_promise_of from from_boot id reach o v).written ≡ None
promise_none from from_boot id reach None v = refl
promise_none from from_boot id reach (Some r) v = refl

refuse_none : (me : ℕ) (links : Links) (id theirs : EpochId) (o : Option Round) (v : SiteView) → (on_refuse_of me links id theirs o v).written ≡ None
refuse_none me links id theirs None v = refl
refuse_none me links id theirs (Some r) v =
    by_none (same_epoch r.id id) (begins_round me links (theirs.number + 1) r.polled v) (quiet v) (begins_none me links (theirs.number + 1) r.polled v) refl

install_none : (c : Config) (me from from_boot : ℕ) (id : EpochId) (m : Members) (v : SiteView) → (on_install c me from from_boot id m v).written ≡ None
install_none c me from from_boot id m v =
    by_none (may_install me id m v) (and_then (joins c me id m v) (λ now. sends (joined_packet me from from_boot id now) now)) (sends (cond (is_in id v.epoch) (joined_packet me from from_boot id v) []) v) refl refl

decides_none : (c : Config) (me : ℕ) (links : Links) (r : Round) (xs : List ℕ) (v : SiteView) → (decides_if c me links r xs v).written ≡ None
decides_none c me links r [] v = refl
decides_none c me links r (x ∷ xs) v = refl

passes_of : (c : Config) (me : ℕ) (links : Links) (o : Option Round) (v : SiteView) → (passes_over_of c me links o v).written ≡ None
passes_of c me links None v = refl
passes_of c me links (Some r) v = decides_none c me links (passed_over links r) (unanswered (passed_over links r)) v

-- ---- the end of an event ----

none_then : (a b : Option DiskWrite) → a ≡ None → b ≡ None → first_written a b ≡ None
none_then a b e f = subst (λ (x : Option DiskWrite). first_written x b ≡ None) (sym e) f

mend_of : (f : Frame) (t : SyncTable) (o : Option FileRow) (v : SiteView) → (starts_mend_of f t o v).written ≡ None
mend_of f t None v = refl
mend_of f t (Some r) v = (on_call_talks f (Some f.epoch) 0 (call.Mend (row_file t r)) v.users).1

mend_none : (f : Frame) (t : SyncTable) (v : SiteView) → (starts_mend f t v).written ≡ None
mend_none f t v =
    by_none (t.started && not (has_mend_in v.users t.group)) (starts_mend_of f t (first_that (wants_mend v t) t.files) v) (quiet v) (mend_of f t (first_that (wants_mend v t) t.files) v) refl

mends_in : (f : Frame) (ts : List SyncTable) (v : SiteView) → (starts_mends_in f ts v).written ≡ None
mends_in f [] v = refl
mends_in f (t ∷ ts) v = none_then (starts_mend f t v).written (starts_mends_in f ts (starts_mend f t v).view).written (mend_none f t v) (mends_in f ts (starts_mend f t v).view)

mends_none : (c : Config) (me : ℕ) (e : Option InEpoch) (v : SiteView) → (starts_mends_of c me e v).written ≡ None
mends_none c me None v = refl
mends_none c me (Some e) v = mends_in (frame_in c me v.boot e) v.tables v

pub ends_none : (c : Config) (me : ℕ) (links : Links) (v : SiteView) → (ends_event c me links v).written ≡ None
ends_none c me links v = let now : SiteView = (passes_over c me links v).view in none_then (passes_over c me links v).written (starts_mends_of c me now.epoch now).written (passes_of c me links v.round v) (mends_none c me now.epoch now)

-- ---- a packet of the epoch ----

-- no role but the storage site writes
pub unwritten : (f : Frame) (from : ℕ) (b : Body) (v : SiteView) → (role_of b ≡ role.Store → ⊥) → (takes_inside f from b v).written ≡ None
unwritten f from (body.OpenSs inst file mode set kind base vector parents) v h = absurd (h refl)
unwritten f from (body.Op serial n o seen) v h = absurd (h refl)
unwritten f from (body.ReadHeld serial n at len) v h = absurd (h refl)
unwritten f from (body.Close serial) v h = absurd (h refl)
unwritten f from (body.ClosedOk inst) v h = absurd (h refl)
unwritten f from (body.LookSs us call process request take file what serve) v h = absurd (h refl)
unwritten f from (body.Pull file stamp page) v h = absurd (h refl)
unwritten f from (body.Want file wanted own) v h = absurd (h refl)
unwritten f from x v h = (untouched f from x v (λ k. k)).1

abbrev pub IsNoStore : Role → Type 0
IsNoStore role.Store = ⊥
IsNoStore role.Tables = Unit {0}
IsNoStore role.Users = Unit {0}
IsNoStore role.Pulls = Unit {0}
IsNoStore role.Epochs = Unit {0}
IsNoStore role.Nobody = Unit {0}

pub unwritten_by : (f : Frame) (from : ℕ) (b : Body) (v : SiteView) (r : Role) → r ≡ role_of b → IsNoStore r → (takes_inside f from b v).written ≡ None
unwritten_by f from b v r e h = unwritten f from b v (λ k. subst IsNoStore (e ∙ k) h)

framed_none : (c : Config) (me : ℕ) (p : Packet) (e : Option InEpoch) (v : SiteView) → (role_of p.body ≡ role.Store → ⊥) → (takes_framed c me p e v).written ≡ None
framed_none c me p None v h = refl
framed_none c me p (Some e) v h = unwritten (frame_in c me v.boot e) p.from p.body v h

-- ---- a packet ----

abbrev pub Forms : Body → Type 0
Forms body.Poll = Unit {0}
Forms (body.Promise reach) = Unit {0}
Forms (body.Refuse promised) = Unit {0}
Forms (body.Install members) = Unit {0}
Forms body.Joined = Unit {0}
Forms _ = ⊥

forms_as : (c : Config) (me : ℕ) (links : Links) (p : Packet) (b : Body) (v : SiteView) → Forms b → (takes c me links p b v).written ≡ None
forms_as c me links p body.Poll v h = poll_none me links p.from p.from_boot p.epoch v
forms_as c me links p (body.Promise reach) v h = promise_none p.from p.from_boot p.epoch reach v.round v
forms_as c me links p (body.Refuse promised) v h = refuse_none me links p.epoch promised v.round v
forms_as c me links p (body.Install members) v h = install_none c me p.from p.from_boot p.epoch members v
forms_as c me links p body.Joined v h = refl
forms_as c me links p _ v h = absurd h

pub forms_none : (c : Config) (me : ℕ) (links : Links) (p : Packet) (b : Body) (v : SiteView) → p.body ≡ b → Forms b → (taken c me links p v).written ≡ None
forms_none c me links p b v e h = subst (λ (x : Body). (takes c me links p x v).written ≡ None) (sym e) (forms_as c me links p b v h)

pulls_no_store : role.Pulls ≡ role.Store → ⊥
pulls_no_store e = cc

tried_as : (c : Config) (me : ℕ) (links : Links) (p : Packet) (b : Body) (v : SiteView) → p.body ≡ b → is_tried b ≡ true → (takes c me links p b v).written ≡ None
tried_as c me links p (body.Notify file kind set size stamp vector holder) v e h = framed_none c me p v.epoch v (λ k. pulls_no_store (sym (ap role_of e) ∙ k))
tried_as c me links p (body.Page file stamp page bytes) v e h = framed_none c me p v.epoch v (λ k. pulls_no_store (sym (ap role_of e) ∙ k))
tried_as c me links p (body.Delta file wanted pages) v e h = framed_none c me p v.epoch v (λ k. pulls_no_store (sym (ap role_of e) ∙ k))
tried_as c me links p _ v e h = absurd (cc)

-- what tries an adoption writes nothing itself
pub tried_none : (c : Config) (me : ℕ) (links : Links) (p : Packet) (v : SiteView) → is_tried p.body ≡ true → (taken c me links p v).written ≡ None
tried_none c me links p v h = tried_as c me links p p.body v refl h

pub untried_none : (c : Config) (me : ℕ) (b : Body) (v : SiteView) → is_tried b ≡ false → (tries_at c me b v).written ≡ None
untried_none c me (body.Notify file kind set size stamp vector holder) v e = absurd (cc)
untried_none c me (body.Page file stamp page bytes) v e = absurd (cc)
untried_none c me (body.Delta file wanted pages) v e = absurd (cc)
untried_none c me _ v e = refl

-- ---- a call ----

pub calls_none : (c : Config) (me process : ℕ) (words : Call) (v : SiteView) → (takes_call c me process words v).written ≡ None
calls_none c me process words v = (on_call_talks (call_frame c me v.boot v.epoch) (epoch_id v.epoch) process words v.users).1

-- ---- events ----

pub first_none : (w : Option DiskWrite) → first_written w None ≡ w
first_none None = refl
first_none (Some w) = refl

-- what is written where the end of an event isn't
with_end : (a o last : Option DiskWrite) → last ≡ None → first_written a (first_written o last) ≡ first_written a o
with_end a o last e = ap (λ (x : Option DiskWrite). first_written a (first_written o x)) e ∙ ap (λ (x : Option DiskWrite). first_written a x) (first_none o)

module _ (c : Config) (me : ℕ) (links : Links) where
  -- an event that tries no adoption
  whole_alone : (o : Outcome SiteView) → o.written ≡ None → (whole c me links o quiet).written ≡ None
  whole_alone o e = none_then o.written (ends_event c me links o.view).written e (ends_none c me links o.view)

  pub call_step : (process : ℕ) (words : Call) (v : SiteView) → (whole c me links (takes_call c me process words v) quiet).written ≡ None
  call_step process words v = whole_alone (takes_call c me process words v) (calls_none c me process words v)

  pub part_step : (v : SiteView) → (whole c me links (starts_part me links v) quiet).written ≡ None
  part_step v = whole_alone (starts_part me links v) (parts_none me links v)

  pub merge_step : (v : SiteView) → (whole c me links (starts_merge me links v) quiet).written ≡ None
  merge_step v = whole_alone (starts_merge me links v) (merges_none me links v)

  pub leave_step : (v : SiteView) → (whole c me links (leaves me v) quiet).written ≡ None
  leave_step v = whole_alone (leaves me v) (leaves_none me v.epoch v)

  -- one that tries an adoption
  pub both_step : (o adopted : Outcome SiteView) → (ends_after c me links o adopted).written ≡ first_written adopted.written o.written
  both_step o adopted = with_end adopted.written o.written (ends_event c me links adopted.view).written (ends_none c me links adopted.view)

  pub tick_step : (v : SiteView) → (ticks_after c me links (adopts_in c me v)).written ≡ (adopts_in c me v).written
  tick_step v = ap (λ (x : Option DiskWrite). first_written (adopts_in c me v).written x) (ends_none c me links (adopts_in c me v).view) ∙ first_none (adopts_in c me v).written
