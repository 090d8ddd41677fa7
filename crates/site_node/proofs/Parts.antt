-- What one role does, in the site around it.
use Rattle.std.proofs.Common.{◌≡◌, ◌++◌, ℕ, ◌≤◌, Bool, true, false, List, [], append-nil, Option, None, Some, refl, sym, ap, ◌∙◌, subst}
use Rattle.std.specs.Option.{option_map}
use Rattle.locus_ids.specs.Sizes.{file_bytes_max}
use Rattle.locus_ids.specs.declared.ids.FileId.{FileId}
use Rattle.locus_ids.specs.declared.ids.Stamp.{Stamp}
use Rattle.commit_graph.specs.Versions.{same_stamp}
use Rattle.disk_model.specs.Disk.{Moment}
use Rattle.wire_messages.specs.Outboxes.{Outgoing}
use Rattle.wire_messages.specs.declared.body.ReportedCopy.{ReportedCopy}
use Rattle.role_steps.specs.Versions.{is_below}
use Rattle.role_steps.specs.Storage.{copy_of, reported, stamp_of}
use Rattle.role_steps.specs.Pulling.{begins_pull, is_awaited, is_delta, on_delta, on_delta_of, on_notify, on_page, on_page_of, pages_in, pull_of, replaces_pull}
use Rattle.role_steps.specs.declared.copies.FileCopy.{FileCopy}
use Rattle.propagation.specs.Sized.{head_of, IsNew}
use Rattle.propagation.specs.declared.own_copy.CopyHead.{CopyHead}
use Rattle.role_steps.specs.Views.{quiet, Frame, SiteView, Store, Told, Users, Outcome, within}
use Rattle.role_steps.specs.Epochs.{with_users}
use Rattle.role_steps.specs.Adoption.{with_store}
use Rattle.role_steps.specs.declared.pulls.Pull.{Pull}
use Rattle.role_steps.specs.declared.synchronizing.SyncTable.{SyncTable}
use Rattle.site_packs.specs.Packs.{AreShown, PacksState, Stand, SamePlaces, copy_at}
use Rattle.site_frame.specs.Printed.{printed}
use Rattle.the_run.specs.Steps.{with_pulls}
use Rattle.site_parts.specs.of_storage_site.of_store_instances.Stores.{StoreState, store_of}
use Rattle.site_parts.specs.of_storage_site.of_store_instances.Stores.{Gives as StoreGives}
use Rattle.site_parts.specs.of_using_site.Steps.{Gives}
use Rattle.role_steps.specs.Mends.{kept_stamps}
use Rattle.wire_messages.specs.declared.body.Body.{Body}
use Rattle.wire_messages.specs.declared.body.Body.TheVariants as body
use Rattle.wire_messages.specs.declared.body.CloseAnswer.{CloseAnswer}
use Rattle.wire_messages.specs.declared.body.Granted.{Granted}
use Rattle.wire_messages.specs.declared.body.LookAnswer.{LookAnswer}
use Rattle.trace_book.specs.declared.operation.Outcome.{Outcome as Done}
use Rattle.site_parts.specs.declared.roles.Role.TheVariants as role
use Rattle.site_node.proofs.Moving.{works_as, works_none}
use Rattle.site_node.specs.Roles.{role_takes, users_take, with_tables}
use Rattle.site_parts.specs.Roles.{mending_by, store_take}
use Rattle.site_parts.specs.declared.fault.NodeFault.{NodeFault}
use Rattle.std.specs.Prelude.{Result, Ok, Err, OnOk}
use Rattle.site_node.specs.Views.{view_of, Moves, Works}
use Rattle.site_node.specs.declared.node.SiteNode.{SiteNode}
use Rattle.site_parts.proofs.of_site_tables.Giving.{gives_within}

pub users_work : (o : SiteView → Outcome Users) (old : SiteNode) (users : Users) (a b : Outgoing) → ((image : List ℕ) → Gives (o (view_of old image)) users a b) → Works (λ v. within (with_users v) (o v)) old (record old { users = users }) a b
users_work o old users a b g = record { gives = λ image h. gives_within (with_users (view_of old image)) (o (view_of old image)) users a b (g image); packs = refl; config = refl; me = refl }

pub tables_work : (o : SiteView → Outcome (List SyncTable)) (old : SiteNode) (tables : List SyncTable) (a b : Outgoing) → ((image : List ℕ) → Gives (o (view_of old image)) tables a b) → Works (λ v. within (with_tables v) (o v)) old (record old { tables = tables }) a b
tables_work o old tables a b g = record { gives = λ image h. gives_within (with_tables (view_of old image)) (o (view_of old image)) tables a b (g image); packs = refl; config = refl; me = refl }

pub store_moves : (o : SiteView → Outcome Store) (old : SiteNode) (store : StoreState) (packs : PacksState) (m n : Moment) (a b : Outgoing) → StoreGives (o (view_of old m.seen)) (store_of store packs n.seen) a b → Stand packs n → SamePlaces old.packs packs
    → Moves (λ v. within (with_store v) (o v)) old m (record old { store = store; packs = packs }) n a b
store_moves o old store packs m n a b g s p = record {
  gives = record { view = ap (with_store (view_of old m.seen)) g.view; packets = g.packets; records = g.records };
  stands = s;
  places = p;
  config = refl;
  me = refl;
}

-- what the storage site makes of a packet
pub store_taken : (r : Result (Unit {0}) NodeFault) (from : ℕ) (b : Body) (old : SiteNode) (store : StoreState) (packs : PacksState) (m n : Moment) (given now : Outgoing)
    → OnOk r (StoreGives (store_take old.frame (mending_by old.tables old.users (store_of old.store old.packs m.seen)) from b (store_of old.store old.packs m.seen)) (store_of store packs n.seen) given now) → OnOk r (Stand packs n) → OnOk r (SamePlaces old.packs packs)
    → OnOk r (Moves (role_takes role.Store old.frame from b) old m (record old { store = store; packs = packs }) n given now)
store_taken (Ok x) from b old store packs m n given now g s p = store_moves (λ v. store_take old.frame (mending_by v.tables v.users v.store) from b v.store) old store packs m n given now g s p
store_taken (Err e) from b old store packs m n given now g s p = tt

pub pulls_work : (o : SiteView → Outcome (List Pull)) (old : SiteNode) (pulls : List Pull) (a b : Outgoing) → ((image : List ℕ) → AreShown old.packs.packs image → pulls ≡ (o (view_of old image)).view) → ((image : List ℕ) → AreShown old.packs.packs image → b.packets ≡ a.packets ++ (o (view_of old image)).sent)
    → b.records ≡ a.records → ((v : SiteView) → (o v).told ≡ []) → Works (λ v. within (with_pulls v) (o v)) old (record old { pulls = pulls }) a b
pulls_work o old pulls a b v p r t = record {
  gives = λ image h. record {
    view = ap (with_pulls (view_of old image)) (v image h);
    packets = p image h;
    records = r ∙ (sym (append-nil a.records) ∙ ap (λ (ts : List Told). a.records ++ printed ts) (sym (t (view_of old image))));
  };
  packs = refl;
  config = refl;
  me = refl;
}

-- ---- what the site has of a file, and what it pulls ----

pub headed_none : (o : Option FileCopy) → ◌≡◌ {A = Option ReportedCopy} None (option_map reported o) → head_of o ≡ None
headed_none None e = refl
headed_none (Some x) e = absurd (cc)

reported_as : (r : ReportedCopy) (x : FileCopy) → ◌≡◌ {A = Option ReportedCopy} (Some r) (Some (reported x)) → r ≡ reported x
reported_as r x e = cc

pub headed_some : (o : Option FileCopy) (r : ReportedCopy) → ◌≡◌ {A = Option ReportedCopy} (Some r) (option_map reported o) → head_of o ≡ Some (record { stamp = r.stamp; vector = r.vector; size = r.size })
headed_some None r e = absurd (cc)
headed_some (Some x) r e = ap (λ (y : ReportedCopy). Some (head_as y)) (sym (reported_as r x e)) where
  head_as : ReportedCopy → CopyHead
  head_as y = record { stamp = y.stamp; vector = y.vector; size = y.size }

pub stamped_none : (o : Option FileCopy) → ◌≡◌ {A = Option ReportedCopy} None (option_map reported o) → stamp_of o ≡ None
stamped_none None e = refl
stamped_none (Some x) e = absurd (cc)

pub stamped_some : (o : Option FileCopy) (r : ReportedCopy) → ◌≡◌ {A = Option ReportedCopy} (Some r) (option_map reported o) → stamp_of o ≡ Some r.stamp
stamped_some None r e = absurd (cc)
stamped_some (Some x) r e = ap (λ (y : ReportedCopy). Some y.stamp) (sym (reported_as r x e))

begins_none : (f : Frame) (own : Option FileCopy) (p : Pull) (pulls : List Pull) (b : Bool) → replaces_pull own p (pull_of pulls p.file) ≡ b → (begins_pull f own p pulls).told ≡ []
begins_none f own p pulls true e = rw (e, begins_pull) refl
begins_none f own p pulls false e = rw (e, begins_pull) refl

begins_untold : (f : Frame) (own : Option FileCopy) (p : Pull) (pulls : List Pull) → (begins_pull f own p pulls).told ≡ []
begins_untold f own p pulls = begins_none f own p pulls (replaces_pull own p (pull_of pulls p.file)) refl

pub notify_untold : (f : Frame) (from : ℕ) (own : Option FileCopy) (p : Pull) (pulls : List Pull) → (on_notify f from own p pulls).told ≡ []
notify_untold f from None p pulls = begins_untold f None p pulls
notify_untold f from (Some own) p pulls = by_case (same_stamp own.stamp p.stamp) (is_below own.vector p.vector) refl refl where
  by_case : (a b : Bool) → same_stamp own.stamp p.stamp ≡ a → is_below own.vector p.vector ≡ b → (on_notify f from (Some own) p pulls).told ≡ []
  by_case true b e g = rw (e, on_notify) refl
  by_case false true e g = rw (e, on_notify) (rw (g, on_notify) (begins_untold f (Some own) p pulls))
  by_case false false e g = rw (e, on_notify) (rw (g, on_notify) refl)

page_at : (f : Frame) (stamp : Stamp) (page : ℕ) (bytes : List ℕ) (o : Option Pull) (pulls : List Pull) → (on_page_of f stamp page bytes o pulls).told ≡ []
page_at f stamp page bytes None pulls = refl
page_at f stamp page bytes (Some p) pulls = by_case (is_awaited p stamp page bytes) refl where
  by_case : (a : Bool) → is_awaited p stamp page bytes ≡ a → (on_page_of f stamp page bytes (Some p) pulls).told ≡ []
  by_case true e = rw (e, on_page_of) refl
  by_case false e = rw (e, on_page_of) refl

pub page_untold : (f : Frame) (file : FileId) (stamp : Stamp) (page : ℕ) (bytes : List ℕ) (pulls : List Pull) → (on_page f file stamp page bytes pulls).told ≡ []
page_untold f file stamp page bytes pulls = page_at f stamp page bytes (pull_of pulls file) pulls

delta_at : (f : Frame) (own : ℕ) (wanted : Stamp) (pages : List ℕ) (o : Option Pull) (pulls : List Pull) → (on_delta_of f own wanted pages o pulls).told ≡ []
delta_at f own wanted pages None pulls = refl
delta_at f own wanted pages (Some p) pulls = by_case (is_delta own p wanted pages) refl where
  by_case : (a : Bool) → is_delta own p wanted pages ≡ a → (on_delta_of f own wanted pages (Some p) pulls).told ≡ []
  by_case true e = rw (e, on_delta_of) refl
  by_case false e = rw (e, on_delta_of) refl

delta_untold : (f : Frame) (own : Option FileCopy) (file : FileId) (wanted : Stamp) (pages : List ℕ) (pulls : List Pull) → (on_delta f own file wanted pages pulls).told ≡ []
delta_untold f own file wanted pages pulls = delta_at f (pages_in own) wanted pages (pull_of pulls file) pulls

abbrev notified_pulls : Frame → ℕ → Pull → SiteView → Outcome (List Pull)
notified_pulls f from p v = on_notify f from (copy_of v.store p.file) p v.pulls

-- a notify of a version of which nothing has come yet
pub notified_works : (from : ℕ) (own : Option CopyHead) (p : Pull) (old : SiteNode) (pulls : List Pull) (a b : Outgoing) → p.content ≡ [] → p.size ≤ file_bytes_max
    → ((image : List ℕ) → AreShown old.packs.packs image → head_of (copy_at old.packs image p.file) ≡ own)
    → ((copy : Option FileCopy) → head_of copy ≡ own → IsNew p → pulls ≡ (on_notify old.frame from copy p old.pulls).view)
    → ((copy : Option FileCopy) → head_of copy ≡ own → IsNew p → b.packets ≡ a.packets ++ (on_notify old.frame from copy p old.pulls).sent) → b.records ≡ a.records
    → Works (λ v. within (with_pulls v) (notified_pulls old.frame from (record p { content = [] }) v)) old (record old { pulls = pulls }) a b
notified_works from own p old pulls a b e s h v q r =
    let new : IsNew p = record { size = s; content = e } in
    subst (λ (bytes : List ℕ). Works (λ w. within (with_pulls w) (notified_pulls old.frame from (record p { content = bytes }) w)) old (record old { pulls = pulls }) a b) e
    (pulls_work (notified_pulls old.frame from p) old pulls a b (λ image k. v (copy_at old.packs image p.file) (h image k) new) (λ image k. q (copy_at old.packs image p.file) (h image k) new) r (λ w. notify_untold old.frame from (copy_of w.store p.file) p w.pulls))

-- a page that was asked for, or another one
pub paged_works : (file : FileId) (stamp : Stamp) (page : ℕ) (seen bytes : List ℕ) (old : SiteNode) (pulls : List Pull) (a b : Outgoing) → seen ≡ bytes → pulls ≡ (on_page old.frame file stamp page seen old.pulls).view
    → b.packets ≡ a.packets ++ (on_page old.frame file stamp page seen old.pulls).sent → b.records ≡ a.records → Works (λ v. within (with_pulls v) (on_page old.frame file stamp page bytes v.pulls)) old (record old { pulls = pulls }) a b
paged_works file stamp page seen bytes old pulls a b e v q r = subst (λ (bs : List ℕ). Works (λ w. within (with_pulls w) (on_page old.frame file stamp page bs w.pulls)) old (record old { pulls = pulls }) a b) e
    (pulls_work (λ w. on_page old.frame file stamp page seen w.pulls) old pulls a b (λ image h. v) (λ image h. q) r (λ w. page_untold old.frame file stamp page seen w.pulls))

abbrev delta_pulls : Frame → FileId → Stamp → List ℕ → SiteView → Outcome (List Pull)
delta_pulls f file wanted pages v = on_delta f (copy_of v.store file) file wanted pages v.pulls

-- which pages are to be pulled, or another answer
pub delta_works : (file : FileId) (own : Option CopyHead) (wanted : Stamp) (seen pages : List ℕ) (old : SiteNode) (pulls : List Pull) (a b : Outgoing) → seen ≡ pages
    → ((image : List ℕ) → AreShown old.packs.packs image → head_of (copy_at old.packs image file) ≡ own)
    → ((copy : Option FileCopy) → head_of copy ≡ own → pulls ≡ (on_delta old.frame copy file wanted seen old.pulls).view)
    → ((copy : Option FileCopy) → head_of copy ≡ own → b.packets ≡ a.packets ++ (on_delta old.frame copy file wanted seen old.pulls).sent) → b.records ≡ a.records
    → Works (λ v. within (with_pulls v) (delta_pulls old.frame file wanted pages v)) old (record old { pulls = pulls }) a b
delta_works file own wanted seen pages old pulls a b e h v q r = subst (λ (ps : List ℕ). Works (λ w. within (with_pulls w) (delta_pulls old.frame file wanted ps w)) old (record old { pulls = pulls }) a b) e
    (pulls_work (delta_pulls old.frame file wanted seen) old pulls a b (λ image k. v (copy_at old.packs image file) (h image k)) (λ image k. q (copy_at old.packs image file) (h image k)) r
    (λ w. delta_untold old.frame (copy_of w.store file) file wanted seen w.pulls))

-- ---- a packet that isn't for the using site ----

users_quiet : (f : Frame) (all : FileId → List Stamp) (b : Body) (u : Users) → ((serial : ℕ) (answer : Granted) → b ≡ body.OpenDone serial answer → ⊥) → ((serial n : ℕ) (done : Done) → b ≡ body.OpDone serial n done → ⊥) → ((serial n len : ℕ) → b ≡ body.AsHeld serial n len → ⊥)
    → ((serial : ℕ) (answer : CloseAnswer) → b ≡ body.CloseDone serial answer → ⊥) → ((call request take : ℕ) (answer : LookAnswer) → b ≡ body.LookDone call request take answer → ⊥) → users_take f all b u ≡ quiet u
users_quiet f all (body.OpenDone serial answer) u h i g j k = absurd (h serial answer refl)
users_quiet f all (body.OpDone serial n done) u h i g j k = absurd (i serial n done refl)
users_quiet f all (body.AsHeld serial n len) u h i g j k = absurd (g serial n len refl)
users_quiet f all (body.CloseDone serial answer) u h i g j k = absurd (j serial answer refl)
users_quiet f all (body.LookDone call request take answer) u h i g j k = absurd (k call request take answer refl)
users_quiet f all _ u h i g j k = refl

pub users_pass : (f : Frame) (from : ℕ) (b : Body) (n : SiteNode) (a : Outgoing) → ((serial : ℕ) (answer : Granted) → b ≡ body.OpenDone serial answer → ⊥) → ((serial n : ℕ) (done : Done) → b ≡ body.OpDone serial n done → ⊥) → ((serial n len : ℕ) → b ≡ body.AsHeld serial n len → ⊥)
    → ((serial : ℕ) (answer : CloseAnswer) → b ≡ body.CloseDone serial answer → ⊥) → ((call request take : ℕ) (answer : LookAnswer) → b ≡ body.LookDone call request take answer → ⊥) → Works (role_takes role.Users f from b) n n a a
users_pass f from b n a h i g j k = works_as quiet (role_takes role.Users f from b) n n a a (λ v. ap (within (with_users v)) (users_quiet f (kept_stamps v) b v.users h i g j k)) (works_none n a)
