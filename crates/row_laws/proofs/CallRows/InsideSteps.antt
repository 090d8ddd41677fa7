-- What a packet of the epoch, an adoption and the start of mends leave of the calls of a site.
use Rattle.std.proofs.Common.{◌≡◌, ◌<◌, ℕ, ◌==◌, ◌⊎◌, Bool, true, false, ◌||◌, ◌&&◌, not, List, [], ◌∷◌, Option, Some, None, refl, sym, ◌∙◌, ap, subst, inl, inr, arith}
use Rattle.std.proofs.lemmas.Bool.Decides.{nat_tests}
use Rattle.std.specs.List.{list_any}
use Rattle.role_steps.proofs.of_plain_facts.Tests.{both_true, not_true}
use Rattle.locus_ids.specs.declared.config.Config.{Config}
use Rattle.trace_book.specs.declared.call.Call.{Call}
use Rattle.trace_book.specs.declared.call.Call.TheVariants as call
use Rattle.wire_messages.specs.declared.packet.Packet.{Packet}
use Rattle.wire_messages.specs.declared.body.Body.{Body}
use Rattle.wire_messages.specs.declared.body.Body.TheVariants as body
use Rattle.role_steps.specs.Own.{Every}
use Rattle.role_steps.specs.Tables.{row, first_that}
use Rattle.role_steps.specs.Views.{Frame, Users, SiteView, Outcome, quiet, within}
use Rattle.role_steps.specs.Adoption.{with_store, notes_own_at, notes_own, table_group, is_ready, adopts_pull, without_pull, adopts_first, with_adopted, fits_own}
use Rattle.role_steps.specs.Epochs.{frame_in}
use Rattle.role_steps.specs.Mends.{mends_in, is_mend_in, has_mend_in, kept_stamps, wants_mend, row_file, starts_mend_of, starts_mend, starts_mends_in}
use Rattle.role_steps.specs.Requests.{waiting_of, waiting_span}
use Rattle.role_steps.specs.Storage.{copy_of}
use Rattle.role_steps.specs.Using.{on_call, on_open_done, on_op_done, on_as_held, on_close_done, on_look_done}
use Rattle.role_steps.specs.Versions.{file_row}
use Rattle.role_steps.specs.declared.pulls.Pull.{Pull}
use Rattle.role_steps.specs.declared.rounds.InEpoch.{InEpoch}
use Rattle.role_steps.specs.declared.synchronizing.FileRow.{FileRow}
use Rattle.role_steps.specs.declared.synchronizing.SyncTable.{SyncTable}
use Rattle.tree_model.specs.Folds.{Trace}
use Rattle.the_run.specs.Kept.{Among}
use Rattle.the_run.specs.Steps.{with_pulls, at_users, at_table_of, takes_inside, takes_framed, adopts_of, tries_at, starts_mends_of, epoch_id}
use Rattle.the_run.specs.Roles.{IsForUser}
use Rattle.the_run.specs.KindLaws.{TablePart}
use Rattle.the_run.proofs.Roles.{by_role, tables_of, stores_by, readers_by, pulls_by}
use Rattle.the_run.proofs.InsideSync.{Found, every_row, row_found}
use Rattle.row_laws.specs.Inward.{ServedTold, AllServed, LooksInward}
use Rattle.row_laws.proofs.Walks.{servedly, same_table, served_tables, served_stores, served_versions, back, have_ok}
use Rattle.row_laws.specs.CallRows.Serials.{Owned}
use Rattle.row_laws.specs.CallRows.Waiting.{after, KeyedAs, CallFree}
use Rattle.row_laws.specs.CallRows.Standing.{UsersDo, WasIn, IsInside, Stands, SiteDone, SiteDoes}
use Rattle.row_laws.proofs.CallRows.UserSteps.{on_open_done_do, on_op_done_do, on_as_held_do, on_close_done_do, on_look_done_do}
use Rattle.row_laws.proofs.CallRows.CallSteps.{on_call_do}
use Rattle.row_laws.proofs.CallRows.Sites.{all_served_free, plain_done, quiet_done, users_done, then_does}

-- ---- tables, stores and pulls ----

table_done : (c : Config) (s m : ℕ) (t : Trace) (g : SyncTable → Outcome SyncTable) (o : Option SyncTable) (v : SiteView) → Found LooksInward o → ((x : SyncTable) → LooksInward x → TablePart servedly x (g x)) → Stands c s t v → SiteDone c s m t (at_table_of g o v)
table_done c s m t g None v k f h = quiet_done c s m t v h
table_done c s m t g (Some x) v k f h =
    let r : TablePart servedly x (g x) = f x k in
    plain_done c s m t v (at_table_of g (Some x) v) refl refl refl (every_row LooksInward table_group (g x).view v.tables (same_table x (g x).view k r.4 r.3) h.tables) (all_served_free (g x).told r.1) h

-- a part of the users, in the epoch of the site
inside_users : (c : Config) (s m : ℕ) (t : Trace) (g : Users → Outcome Users) (v : SiteView) (e : InEpoch) → v.epoch ≡ Some e → (WasIn s t e.id → Owned (WasIn s t) (Some e.id) v.users → UsersDo c (WasIn s t) s v.boot (Some e.id) m t (g v.users)) → Stands c s t v → SiteDone c s m t (at_users g v)
inside_users c s m t g v e here go h =
    users_done c s m t v g h
    (subst (λ (o : Option InEpoch). UsersDo c (WasIn s t) s v.boot (epoch_id o) m t (g v.users)) (sym here) (go (subst (IsInside s t) here h.inside) (subst (λ (o : Option InEpoch). Owned (WasIn s t) (epoch_id o) v.users) here h.owned)))

-- ---- a packet of the epoch ----

module _ (c : Config) (s m : ℕ) (t : Trace) (from : ℕ) (v : SiteView) (e : InEpoch) (here : v.epoch ≡ Some e) (h : Stands c s t v) where
  abbrev f : Frame
  f = frame_in c s v.boot e

  abbrev Done : Body → Outcome SiteView → Type 0
  Done x o = SiteDone c s m t o

  users_inside : (x : Body) → IsForUser x → SiteDone c s m t (takes_inside f from x v)
  users_inside (body.OpenDone serial answer) is = inside_users c s m t (on_open_done f (kept_stamps v) serial answer) v e here (λ k o. on_open_done_do c (WasIn s t) f (Some e.id) m t (kept_stamps v) serial answer v.users k h.waits o) h
  users_inside (body.OpDone serial n result) is = inside_users c s m t (on_op_done f serial n result) v e here (λ k o. on_op_done_do c (WasIn s t) f (Some e.id) m t serial n result v.users k h.waits o) h
  users_inside (body.AsHeld serial n len) is = inside_users c s m t (on_as_held f serial n) v e here (λ k o. on_as_held_do c (WasIn s t) f (Some e.id) m t serial n v.users k h.waits o) h
  users_inside (body.CloseDone serial answer) is = inside_users c s m t (on_close_done f serial answer) v e here (λ k o. on_close_done_do c (WasIn s t) f (Some e.id) m t serial answer v.users h.waits o) h
  users_inside (body.LookDone call request take answer) is = inside_users c s m t (on_look_done f call request take answer) v e here (λ k o. on_look_done_do c (WasIn s t) f (Some e.id) m t call request take answer v.users h.waits o) h
  users_inside _ is = absurd is

  -- a part that tells of no call
  served_done : (o : Outcome SiteView) → o.view.users ≡ v.users → o.view.epoch ≡ v.epoch → o.view.boot ≡ v.boot → o.view.tables ≡ v.tables → AllServed o → SiteDone c s m t o
  served_done o a b d same k = plain_done c s m t v o a b d (subst (Every LooksInward) (sym same) h.tables) (all_served_free o.told k.1) h

  inside_done : (x : Body) → SiteDone c s m t (takes_inside f from x v)
  inside_done x = by_role Done f from v (record {
    tables = tables_of Done servedly f from v (served_tables f) (back ServedTold f from).tables h.tables (λ y g o is found k. table_done c s m t g o v found k h);
    stores = stores_by Done servedly f from v (served_stores f) served_versions (λ y o is k. served_done (within (with_store v) o) refl refl refl refl k);
    readers = readers_by Done servedly f from v (served_stores f).reads (back ServedTold f from).stores (λ y o is same k. served_done (within (with_store v) o) refl refl refl refl k);
    users = users_inside;
    pulls = pulls_by Done servedly f from v (served_stores f).reads (back ServedTold f from).stores (λ y o is k. served_done (within (with_pulls v) o) refl refl refl refl k);
    reported = λ group. served_done (takes_inside f from (body.ReportOk group) v) refl refl refl refl (tt, tt, tt);
    forming = λ y is. quiet_done c s m t v h;
  }) x

pub framed_done : (c : Config) (s m : ℕ) (t : Trace) (p : Packet) (o : Option InEpoch) (v : SiteView) → v.epoch ≡ o → Stands c s t v → SiteDone c s m t (takes_framed c s p o v)
framed_done c s m t p None v here h = quiet_done c s m t v h
framed_done c s m t p (Some e) v here h = inside_done c s m t p.from v e here h p.body

-- ---- adoptions ----

-- the users stay, and what is told and written is an adoption's
pub record Adopts (v : SiteView) (o : Outcome SiteView) : Type 0 where
  pub users : o.view.users ≡ v.users
  pub epoch : o.view.epoch ≡ v.epoch
  pub boot : o.view.boot ≡ v.boot
  pub tables : Every LooksInward v.tables → Every LooksInward o.view.tables
  pub free : Every CallFree o.told

pub quiet_adopts : (v : SiteView) → Adopts v (quiet v)
quiet_adopts v = record { users = refl; epoch = refl; boot = refl; tables = λ ok. ok; free = tt }

noted_same : (f : Frame) (p : Pull) (o : Option SyncTable) (v : SiteView) → ((notes_own_at f p o v).users ≡ v.users) × ((notes_own_at f p o v).epoch ≡ v.epoch) × ((notes_own_at f p o v).boot ≡ v.boot)
noted_same f p None v = (refl, refl, refl)
noted_same f p (Some t) v = (refl, refl, refl)

noted_tables : (f : Frame) (p : Pull) (o : Option SyncTable) (v : SiteView) → Found LooksInward o → Every LooksInward v.tables → Every LooksInward (notes_own_at f p o v).tables
noted_tables f p None v k ok = ok
noted_tables f p (Some t) v k ok = every_row LooksInward table_group _ v.tables (have_ok f.me p.stamp (file_row t p.file.ino) t k) ok

adopts_pull_adopts : (f : Frame) (p : Pull) (v : SiteView) → Adopts v (adopts_pull f p v)
adopts_pull_adopts f p v =
    let kept : SiteView = with_adopted p v in
    let same : ((notes_own f p kept).users ≡ v.users) × ((notes_own f p kept).epoch ≡ v.epoch) × ((notes_own f p kept).boot ≡ v.boot) = noted_same f p (row table_group p.file.group v.tables) kept in
    record {
      users = same.0;
      epoch = same.1;
      boot = same.2;
      tables = λ ok. noted_tables f p (row table_group p.file.group v.tables) kept (row_found LooksInward table_group p.file.group v.tables ok) ok;
      free = (tt, tt);
    }

adopts_first_adopts : (f : Frame) (ps : List Pull) (v : SiteView) → Adopts v (adopts_first f ps v)
adopts_first_adopts f [] v = quiet_adopts v
adopts_first_adopts f (p ∷ ps) v =
    elim (is_ready v p) as (λ t. Adopts v (elim t [ true ↦ elim (fits_own p (copy_of v.store p.file)) [ true ↦ adopts_pull f p v | false ↦ adopts_first f ps (without_pull p v) ] | false ↦ adopts_first f ps v ])) [
      | true ↦ elim (fits_own p (copy_of v.store p.file)) as (λ t. Adopts v (elim t [ true ↦ adopts_pull f p v | false ↦ adopts_first f ps (without_pull p v) ])) [
        | true ↦ adopts_pull_adopts f p v
        | false ↦ (let g : Adopts (without_pull p v) (adopts_first f ps (without_pull p v)) = adopts_first_adopts f ps (without_pull p v) in record { users = g.users; epoch = g.epoch; boot = g.boot; tables = g.tables; free = g.free })
      ]
      | false ↦ adopts_first_adopts f ps v
    ]

pub adopts_of_adopts : (c : Config) (me : ℕ) (e : Option InEpoch) (v : SiteView) → Adopts v (adopts_of c me e v)
adopts_of_adopts c me None v = quiet_adopts v
adopts_of_adopts c me (Some e) v = adopts_first_adopts (frame_in c me v.boot e) v.pulls v

pub tries_adopts : (c : Config) (me : ℕ) (x : Body) (v : SiteView) → Adopts v (tries_at c me x v)
tries_adopts c me (body.Notify file kind set size stamp vector holder) v = adopts_of_adopts c me v.epoch v
tries_adopts c me (body.Page file stamp page bytes) v = adopts_of_adopts c me v.epoch v
tries_adopts c me (body.Delta file wanted pages) v = adopts_of_adopts c me v.epoch v
tries_adopts c me _ v = quiet_adopts v

-- ---- mends ----

none_other : {A : Type 0} (p : A → Bool) (xs : List A) → list_any p xs ≡ false → (x : A) → Among x xs → p x ≡ false
none_other p [] h x a = absurd a
none_other p (y ∷ ys) h x a = by_place a (parts (p y) (list_any p ys) h) (λ k b. none_other p ys k x b)
  where
    parts : (a b : Bool) → (a || b) ≡ false → (a ≡ false) × (b ≡ false)
    parts true b h = absurd (cc)
    parts false b h = (refl, h)

    by_place : (x ≡ y) ⊎ Among x ys → (p y ≡ false) × (list_any p ys ≡ false) → (list_any p ys ≡ false → Among x ys → p x ≡ false) → p x ≡ false
    by_place (inl e) k go = ap p e ∙ k.0
    by_place (inr b) k go = go k.1 b

-- a row that is no mend of the group has another key
mend_alone : (process group : ℕ) (words : Call) → KeyedAs process words → group < waiting_span → mends_in group words ≡ false → waiting_of process words ≡ group → ⊥
mend_alone process group (call.Mend file) k low none e = differs file.group group none e
  where
    differs : (a b : ℕ) → (a == b) ≡ false → a ≡ b → ⊥
    differs a b n e = grind (arith, nat_tests)
mend_alone process group _ k low none e = absurd (omega (arith, k, low, e))

mend_done : (c : Config) (s m : ℕ) (t : Trace) (x : SyncTable) (o : Option FileRow) (v : SiteView) (e : InEpoch) → v.epoch ≡ Some e → LooksInward x → has_mend_in v.users x.group ≡ false → Stands c s t v → SiteDone c s m t (starts_mend_of (frame_in c s v.boot e) x o v)
mend_done c s m t x None v e here ok none h = quiet_done c s m t v h
mend_done c s m t x (Some r) v e here ok none h =
    inside_users c s m t (on_call (frame_in c s v.boot e) (Some e.id) 0 (call.Mend (row_file x r))) v e here
    (λ k o. on_call_do c (WasIn s t) (frame_in c s v.boot e) (Some e.id) m 0 t (call.Mend (row_file x r)) v.users
    (λ q a f. mend_alone q.process x.group q.words (h.waits.keyed q a) ok.1 (none_other (is_mend_in x.group) v.users.waiting none q a) f) ok.1 tt h.waits o) h

starts_done : (c : Config) (s m : ℕ) (t : Trace) (x : SyncTable) (v : SiteView) (e : InEpoch) → v.epoch ≡ Some e → LooksInward x → Stands c s t v → SiteDone c s m t (starts_mend (frame_in c s v.boot e) x v)
starts_done c s m t x v e here ok h =
    (elim (x.started && not (has_mend_in v.users x.group)) as (λ b. (x.started && not (has_mend_in v.users x.group)) ≡ b → SiteDone c s m t (elim b [ true ↦ starts_mend_of (frame_in c s v.boot e) x (first_that (wants_mend v x) x.files) v | false ↦ quiet v ])) [
      | true ↦ λ k. mend_done c s m t x (first_that (wants_mend v x) x.files) v e here ok (not_true (has_mend_in v.users x.group) (both_true x.started (not (has_mend_in v.users x.group)) k).1) h
      | false ↦ λ k. quiet_done c s m t v h
    ]) refl

-- a mend leaves the epoch and the boot
abbrev Same : SiteView → Outcome SiteView → Type 0
Same v o = (o.view.epoch ≡ v.epoch) × (o.view.boot ≡ v.boot)

mend_same : (f : Frame) (x : SyncTable) (o : Option FileRow) (v : SiteView) → Same v (starts_mend_of f x o v)
mend_same f x None v = (refl, refl)
mend_same f x (Some r) v = (refl, refl)

starts_same : (f : Frame) (x : SyncTable) (v : SiteView) → Same v (starts_mend f x v)
starts_same f x v = elim (x.started && not (has_mend_in v.users x.group)) as (λ b. Same v (elim b [ true ↦ starts_mend_of f x (first_that (wants_mend v x) x.files) v | false ↦ quiet v ])) [ true ↦ mend_same f x (first_that (wants_mend v x) x.files) v | false ↦ (refl, refl) ]

all_start : (c : Config) (s m boot : ℕ) (t : Trace) (ts : List SyncTable) (v : SiteView) (e : InEpoch) → v.boot ≡ boot → v.epoch ≡ Some e → Every LooksInward ts → Stands c s t v → SiteDoes c s m t (starts_mends_in (frame_in c s boot e) ts v)
all_start c s m boot t [] v e own here ok h = λ new. quiet_done c s m t v h
all_start c s m boot t (x ∷ xs) v e own here ok h =
    let k : Same v (starts_mend (frame_in c s boot e) x v) = starts_same (frame_in c s boot e) x v in
    then_does c s m t (starts_mend (frame_in c s boot e) x v) (starts_mends_in (frame_in c s boot e) xs) (λ new. subst (λ (b : ℕ). SiteDone c s m t (starts_mend (frame_in c s b e) x v)) own (starts_done c s m t x v e here ok.0 h))
    (λ g. all_start c s m boot (after m (starts_mend (frame_in c s boot e) x v).told t) xs (starts_mend (frame_in c s boot e) x v).view e (k.1 ∙ own) (k.0 ∙ here) ok.1 g)

pub mends_does : (c : Config) (s m : ℕ) (t : Trace) (o : Option InEpoch) (v : SiteView) → v.epoch ≡ o → Stands c s t v → SiteDoes c s m t (starts_mends_of c s o v)
mends_does c s m t None v here h = λ new. quiet_done c s m t v h
mends_does c s m t (Some e) v here h = all_start c s m v.boot t v.tables v e refl here h.tables h
