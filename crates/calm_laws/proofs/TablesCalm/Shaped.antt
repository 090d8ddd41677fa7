-- Each event of a site keeps the shape of its tables, where a packet that comes is of a boot and what the event tells is named.
use Rattle.std.proofs.Common.{◌≡◌, ◌≢◌, ℕ, ◌+◌, ◌==◌, ◌||◌, Bool, true, false, ◌&&◌, not, cond, List, [], ◌∷◌, ◌++◌, map, filter, Option, Some, None, refl, sym, ◌∙◌, ap, subst, nat_lt, arith}
use Rattle.std.proofs.lemmas.Bool.Decides.{nat_tests}
use Rattle.role_steps.proofs.of_plain_facts.Numbers.{equal}
use Rattle.role_steps.proofs.of_plain_facts.Options.{none_some, some_same}
use Rattle.role_steps.proofs.of_plain_facts.Tests.{true_false}
use Rattle.locus_ids.specs.Sites.{has}
use Rattle.locus_ids.specs.declared.config.Config.{Config}
use Rattle.locus_ids.specs.declared.ids.EpochId.{EpochId}
use Rattle.locus_ids.specs.declared.ids.Serial.{Serial}
use Rattle.locus_ids.specs.declared.sites.Links.{Links}
use Rattle.locus_ids.specs.declared.sites.Members.{Members}
use Rattle.locus_ids.specs.declared.sites.Sites.{Sites}
use Rattle.trace_book.specs.Same.{same_epoch}
use Rattle.wire_messages.specs.Bodies.{kind_number}
use Rattle.wire_messages.specs.declared.body.Body.{Body}
use Rattle.wire_messages.specs.declared.body.Body.TheVariants as body
use Rattle.wire_messages.specs.declared.packet.Packet.{Packet}
use Rattle.role_steps.specs.Adoption.{notes_own_at, table_group, without_pull, is_ready, adopts_pull, adopts_first, with_adopted, fits_own}
use Rattle.role_steps.specs.Epochs.{is_epoch_below, frame_in, leaves_of, leaves, promises, reached, begins_round, starts_part_of, starts_part, starts_merge, promise_packet, refuse_packet, on_poll, on_promise_of, on_refuse_of, own_groups, is_sync_site, joins, may_install, is_in, joined_packet, on_install, on_joined, passed_over, unanswered, chosen_members, chosen_set, decides_if, passes_over_of, passes_over}
use Rattle.role_steps.specs.Looks.{LookRequest}
use Rattle.role_steps.specs.Mends.{has_mend_in, wants_mend, starts_mend_of, starts_mend, starts_mends_in}
use Rattle.role_steps.specs.Opens.{OpenRequest, on_opened}
use Rattle.role_steps.specs.Own.{Every}
use Rattle.role_steps.specs.Reports.{new_table, on_open, on_look, on_have_of, on_report, on_closed, on_have}
use Rattle.role_steps.specs.Storage.{copy_of}
use Rattle.role_steps.specs.Tables.{row, without_row, first_that}
use Rattle.role_steps.specs.Versions.{file_row}
use Rattle.role_steps.specs.Views.{Frame, SiteView, Told, Event, Calls, Receives, Ticks, Parts, Merges, GivesUp, Outcome, quiet, sends, and_then, boot_in, is_member, members_of, pack_sites, all_sites, first_site, sync_site}
use Rattle.role_steps.specs.declared.pulls.Pull.{Pull}
use Rattle.role_steps.specs.declared.rounds.InEpoch.{InEpoch}
use Rattle.role_steps.specs.declared.rounds.Round.{Round}
use Rattle.role_steps.specs.declared.synchronizing.FileRow.{FileRow}
use Rattle.role_steps.specs.declared.synchronizing.SyncTable.{SyncTable}
use Rattle.the_run.specs.Steps.{at_table_of, is_dropped, is_framed, is_forming, takes_framed, takes, takes_inside, adopts_in, adopts_of, tries_at, whole, takes_call, step, starts_mends_of, ends_event, is_opened_in}
use Rattle.the_run.proofs.InsideSync.{Found, every_row, row_found, first_found}
use Rattle.site_laws.proofs.Locks.GrantSites.{is_synced}
use Rattle.calm_laws.specs.TablesCalm.Shapes.{IsListed, TableShape, ShapeIn, AreShaped}
use Rattle.calm_laws.proofs.TablesCalm.Shaping.{TellsNamed, every_left, every_right, member_listed, on_report_shape, open_keeps, look_keeps, opened_keeps, closed_keeps, have_shape}

-- a row that is found has its key
row_key : {A : Type 0} (key : A → ℕ) (k : ℕ) (xs : List A) (x : A) → row key k xs ≡ Some x → key x ≡ k
row_key key k [] x e = absurd (none_some x e)
row_key {A = A} key k (y ∷ ys) x e = over (key y == k) refl (row_key key k ys x) e
  where
    over : (b : Bool) → (key y == k) ≡ b → (row key k ys ≡ Some x → key x ≡ k) → ◌≡◌ {A = Option A} (elim b [ true ↦ Some y | false ↦ row key k ys ]) (Some x) → key x ≡ k
    over true t later f = ap key (sym (some_same y x f)) ∙ equal (key y) k t
    over false t later f = later f

module _ (c : Config) (me : ℕ) (named : EpochId → ℕ → Serial → Type 0) (came : EpochId → ℕ → Body → Type 0) where
  abbrev In : Option InEpoch → SyncTable → Type 0
  In o t = ShapeIn c me named came o t

  -- the tables of the one view have their shape where those of the other do
  abbrev Stays : SiteView → SiteView → Type 0
  Stays v u = AreShaped c me named came v.epoch v.tables → AreShaped c me named came u.epoch u.tables

  abbrev Tells : List Told → Type 0
  Tells told = Every (TellsNamed named) told

  abbrev Keeps : SiteView → Outcome SiteView → Type 0
  Keeps v o = Tells o.told → Stays v o.view

  -- ---- a packet in the epoch ----

  at_keeps : (g : SyncTable → Outcome SyncTable) (o : Option SyncTable) (v : SiteView) → Found (In v.epoch) o → ((t : SyncTable) → o ≡ Some t → Tells (g t).told → In v.epoch t → In v.epoch (g t).view) → Keeps v (at_table_of g o v)
  at_keeps g None v k h told ts = ts
  at_keeps g (Some t) v k h told ts = every_row (In v.epoch) table_group (g t).view v.tables (h t refl told k) ts

  group_keeps : (g : SyncTable → Outcome SyncTable) (group : ℕ) (v : SiteView) (e : InEpoch) → v.epoch ≡ Some e → ((t : SyncTable) → t.group ≡ group → Tells (g t).told → TableShape c me e named came t → TableShape c me e named came (g t).view) → Keeps v (at_table_of g (row table_group group v.tables) v)
  group_keeps g group v e inside h told ts = at_keeps g (row table_group group v.tables) v (row_found (In v.epoch) table_group group v.tables ts)
      (λ t found says k. subst (λ (o : Option InEpoch). In o (g t).view) (sym inside) (h t (row_key table_group group v.tables t found) says (subst (λ (o : Option InEpoch). In o t) inside k))) told ts

  first_keeps : (g : SyncTable → Outcome SyncTable) (test : SyncTable → Bool) (v : SiteView) (e : InEpoch) → v.epoch ≡ Some e → ((t : SyncTable) → Tells (g t).told → TableShape c me e named came t → TableShape c me e named came (g t).view) → Keeps v (at_table_of g (first_that test v.tables) v)
  first_keeps g test v e inside h told ts = at_keeps g (first_that test v.tables) v (first_found (In v.epoch) test v.tables ts)
      (λ t found says k. subst (λ (o : Option InEpoch). In o (g t).view) (sym inside) (h t says (subst (λ (o : Option InEpoch). In o t) inside k))) told ts

  inside_keeps : (e : InEpoch) (from : ℕ) (x : Body) (v : SiteView) → v.epoch ≡ Some e → IsListed e from → came e.id from x → Keeps v (takes_inside (frame_in c me v.boot e) from x v)
  inside_keeps e from (body.Report group copies) v inside member sent = group_keeps (on_report (frame_in c me v.boot e) from copies) group v e inside (λ t same told k. on_report_shape c me v.boot e named came from copies t member told k)
  inside_keeps e from (body.Open serial call process request file how) v inside member sent = group_keeps (on_open (frame_in c me v.boot e) from o) file.group v e inside (λ t same told k. (open_keeps c me v.boot e named came from o t (sym same) sent).shape told k)
    where
      o : OpenRequest
      o = record { serial = serial; call = call; process = process; request = request; file = file; how = how }
  inside_keeps e from (body.Opened inst answer) v inside member sent = first_keeps (on_opened (frame_in c me v.boot e) inst answer) (is_opened_in inst) v e inside (λ t told k. opened_keeps c me v.boot e named came inst answer t told k)
  inside_keeps e from (body.Closed inst made) v inside member sent = first_keeps (on_closed (frame_in c me v.boot e) from inst made) (is_opened_in inst) v e inside (λ t told k. closed_keeps c me v.boot e named came from inst made t member told k)
  inside_keeps e from (body.Look call process request take file what) v inside member sent = group_keeps (on_look (frame_in c me v.boot e) from l) file.group v e inside (λ t same told k. (look_keeps c me v.boot e named came from l t (sym same) sent).shape told k)
    where
      l : LookRequest
      l = record { call = call; process = process; request = request; take = take; file = file; what = what }
  inside_keeps e from (body.Have file stamp) v inside member sent = group_keeps (on_have from file stamp) file.group v e inside (λ t same told k. have_shape c me v.boot e named came from file stamp t member k)
  inside_keeps e from _ v inside member sent = λ told ts. ts

  -- ---- adoptions ----

  noted_stays : (f : Frame) (p : Pull) (o : Option SyncTable) (v : SiteView) (e : Option InEpoch) → f.me ≡ me → v.epoch ≡ e → Found (In e) o → Stays v (notes_own_at f p o v)
  noted_stays f p None v e own inside k = λ ts. ts
  noted_stays f p (Some t) v None own inside k = λ ts. subst (λ (o : Option InEpoch). Every (In o) (notes_own_at f p (Some t) v).tables) (sym inside) (every_row (In None) table_group (on_have_of f.me p.stamp (file_row t p.file.ino) t) v.tables tt (subst (λ (o : Option InEpoch). Every (In o) v.tables) inside ts))
  noted_stays f p (Some t) v (Some e) own inside k = λ ts. subst (λ (o : Option InEpoch). Every (In o) (notes_own_at f p (Some t) v).tables) (sym inside)
      (every_row (In (Some e)) table_group (on_have_of f.me p.stamp (file_row t p.file.ino) t) v.tables (have_shape c me v.boot e named came f.me p.file p.stamp t (subst (IsListed e) (sym own) k.own) k) (subst (λ (o : Option InEpoch). Every (In o) v.tables) inside ts))

  adoption_stays : (f : Frame) (ps : List Pull) (v : SiteView) → f.me ≡ me → Stays v (adopts_first f ps v).view
  adoption_stays f [] v own = λ ts. ts
  adoption_stays f (p ∷ ps) v own =
      elim (is_ready v p) as (λ t. Stays v (elim t as (λ (z : Bool). Outcome SiteView) [ true ↦ elim (fits_own p (copy_of v.store p.file)) [ true ↦ adopts_pull f p v | false ↦ adopts_first f ps (without_pull p v) ] | false ↦ adopts_first f ps v ]).view) [
        | true ↦ elim (fits_own p (copy_of v.store p.file)) as (λ t. Stays v (elim t as (λ (z : Bool). Outcome SiteView) [ true ↦ adopts_pull f p v | false ↦ adopts_first f ps (without_pull p v) ]).view) [
          | true ↦ λ ts. noted_stays f p (row table_group p.file.group v.tables) (with_adopted p v) v.epoch own refl (row_found (In v.epoch) table_group p.file.group v.tables ts) ts
          | false ↦ adoption_stays f ps (without_pull p v) own
        ]
        | false ↦ adoption_stays f ps v own
      ]

  adopts_stay : (e : Option InEpoch) (v : SiteView) → Stays v (adopts_of c me e v).view
  adopts_stay None v = λ ts. ts
  adopts_stay (Some e) v = adoption_stays (frame_in c me v.boot e) v.pulls v refl

  tries_stay : (x : Body) (v : SiteView) → Stays v (tries_at c me x v).view
  tries_stay (body.Notify file kind set size stamp vector holder) v = adopts_stay v.epoch v
  tries_stay (body.Page file stamp page bytes) v = adopts_stay v.epoch v
  tries_stay (body.Delta file wanted pages) v = adopts_stay v.epoch v
  tries_stay _ v = λ ts. ts

  -- ---- mends ----

  mend_stays : (f : Frame) (t : SyncTable) (o : Option FileRow) (v : SiteView) → Stays v (starts_mend_of f t o v).view
  mend_stays f t None v = λ ts. ts
  mend_stays f t (Some r) v = λ ts. ts

  starts_mend_stays : (f : Frame) (t : SyncTable) (v : SiteView) → Stays v (starts_mend f t v).view
  starts_mend_stays f t v =
      elim (t.started && not (has_mend_in v.users t.group)) as (λ x. Stays v (elim x as (λ (z : Bool). Outcome SiteView) [ true ↦ starts_mend_of f t (first_that (wants_mend v t) t.files) v | false ↦ quiet v ]).view) [
        | true ↦ mend_stays f t (first_that (wants_mend v t) t.files) v
        | false ↦ λ ts. ts
      ]

  mends_stay : (f : Frame) (us : List SyncTable) (v : SiteView) → Stays v (starts_mends_in f us v).view
  mends_stay f [] v = λ ts. ts
  mends_stay f (u ∷ us) v = λ ts. mends_stay f us (starts_mend f u v).view (starts_mend_stays f u v ts)

  mends_of_stay : (e : Option InEpoch) (v : SiteView) → Stays v (starts_mends_of c me e v).view
  mends_of_stay None v = λ ts. ts
  mends_of_stay (Some e) v = mends_stay (frame_in c me v.boot e) v.tables v

  -- ---- epochs ----

  leaves_stay : (e : Option InEpoch) (v : SiteView) → Stays v (leaves_of me e v).view
  leaves_stay None v = λ ts. ts
  leaves_stay (Some e) v = λ ts. tt

  part_stays : (links : Links) (e : Option InEpoch) (v : SiteView) → Stays v (starts_part_of me links e v).view
  part_stays links None v = λ ts. ts
  part_stays links (Some e) v = leaves_stay v.epoch v

  poll_stays : (links : Links) (from from_boot : ℕ) (id : EpochId) (v : SiteView) → Stays v (on_poll me links from from_boot id v).view
  poll_stays links from from_boot id v =
      elim (is_epoch_below v.promised id) as (λ t. Stays v (elim t as (λ (z : Bool). Outcome SiteView) [ true ↦ and_then (promises me id (reached links) v) (λ now. sends (promise_packet me links from from_boot id now) now) | false ↦ sends (cond (same_epoch id v.promised && not v.installed) (promise_packet me links from from_boot id v) (refuse_packet me from from_boot id v)) v ]).view) [
        | true ↦ leaves_stay v.epoch v
        | false ↦ λ ts. ts
      ]

  promise_stays : (from from_boot : ℕ) (id : EpochId) (reach : Sites) (o : Option Round) (v : SiteView) → Stays v (on_promise_of from from_boot id reach o v).view
  promise_stays from from_boot id reach None v = λ ts. ts
  promise_stays from from_boot id reach (Some r) v = λ ts. ts

  refuse_stays : (links : Links) (id theirs : EpochId) (o : Option Round) (v : SiteView) → Stays v (on_refuse_of me links id theirs o v).view
  refuse_stays links id theirs None v = λ ts. ts
  refuse_stays links id theirs (Some r) v = elim (same_epoch r.id id) as (λ t. Stays v (elim t as (λ (z : Bool). Outcome SiteView) [ true ↦ begins_round me links (theirs.number + 1) r.polled v | false ↦ quiet v ]).view) [ true ↦ leaves_stay v.epoch v | false ↦ λ ts. ts ]

  -- each that is left by a test passes it
  filtered : (test : ℕ → Bool) (gs : List ℕ) → Every (λ (g : ℕ). test g ≡ true) (filter test gs)
  filtered test [] = tt
  filtered test (g ∷ gs) = over (test g) refl (filtered test gs)
    where
      over : (b : Bool) → test g ≡ b → Every (λ (x : ℕ). test x ≡ true) (filter test gs) → Every (λ (x : ℕ). test x ≡ true) (cond b (g ∷ filter test gs) (filter test gs))
      over true e h = (e, h)
      over false e h = h

  first_passes : (test : ℕ → Bool) (xs : List ℕ) (s : ℕ) → Every (λ (x : ℕ). test x ≡ true) xs → first_site xs ≡ Some s → test s ≡ true
  first_passes test [] s h e = absurd (none_some s e)
  first_passes test (x ∷ xs) s h e = subst (λ (y : ℕ). test y ≡ true) (some_same x s e) h.0

  second_of : (a b : Bool) → (a && b) ≡ true → b ≡ true
  second_of true b h = h
  second_of false b h = absurd (true_false (sym h))

  new_shape : (e : InEpoch) (group : ℕ) → is_sync_site c me e.members group ≡ true → TableShape c me e named came (new_table group)
  new_shape e group h = record {
    synced = synced;
    own = member_listed e me (second_of (has (pack_sites c group) me) (is_member e.members me) (first_passes (λ s. has (pack_sites c group) s && is_member e.members s) (members_of e.members (pack_sites c group)) me (filtered (λ s. has (pack_sites c group) s && is_member e.members s) all_sites) synced));
    early = tt;
    looks = tt;
    holders = tt;
    opens = tt;
  }
    where
      synced : sync_site c e.members group ≡ Some me
      synced = is_synced c me e.members group h

  mapped : (e : InEpoch) (gs : List ℕ) → Every (λ (g : ℕ). is_sync_site c me e.members g ≡ true) gs → Every (TableShape c me e named came) (map new_table gs)
  mapped e [] h = tt
  mapped e (g ∷ gs) h = (new_shape e g h.0, mapped e gs h.1)

  joined : (id : EpochId) (m : Members) → Every (TableShape c me (record { id = id; members = m }) named came) (map new_table (filter (is_sync_site c me m) (own_groups c me)))
  joined id m = mapped (record { id = id; members = m }) (filter (is_sync_site c me m) (own_groups c me)) (filtered (is_sync_site c me m) (own_groups c me))

  install_stays : (from from_boot : ℕ) (id : EpochId) (m : Members) (v : SiteView) → Stays v (on_install c me from from_boot id m v).view
  install_stays from from_boot id m v =
      elim (may_install me id m v) as (λ t. Stays v (elim t as (λ (z : Bool). Outcome SiteView) [ true ↦ and_then (joins c me id m v) (λ now. sends (joined_packet me from from_boot id now) now) | false ↦ sends (cond (is_in id v.epoch) (joined_packet me from from_boot id v) []) v ]).view) [
        | true ↦ λ ts. joined id m
        | false ↦ λ ts. ts
      ]

  joined_stays : (from : ℕ) (id : EpochId) (v : SiteView) → Stays v (on_joined from id v).view
  joined_stays from id v =
      elim (is_in id v.epoch) as (λ b. Stays v (cond b (record v { installs = without_row (λ s. s) from v.installs }) v)) [ true ↦ λ ts. ts | false ↦ λ ts. ts ]

  decides_stay : (links : Links) (q : Round) (xs : List ℕ) (v : SiteView) → Stays v (decides_if c me links q xs v).view
  decides_stay links q [] v = λ ts. joined q.id (chosen_members me v.boot q (chosen_set me links q))
  decides_stay links q (x ∷ xs) v = λ ts. ts

  passes_stay : (links : Links) (o : Option Round) (v : SiteView) → Stays v (passes_over_of c me links o v).view
  passes_stay links None v = λ ts. ts
  passes_stay links (Some r) v = decides_stay links (passed_over links r) (unanswered (passed_over links r)) v

  ends_stay : (links : Links) (v : SiteView) → Stays v (ends_event c me links v).view
  ends_stay links v = λ ts. mends_of_stay (passes_over c me links v).view.epoch (passes_over c me links v).view (passes_stay links v.round v ts)

  -- ---- whole events ----

  -- a packet of the epoch comes from a member
  framed_listed : (p : Packet) (e : InEpoch) (v : SiteView) → p.from_boot ≢ 0 → is_forming p ≡ false → is_dropped p v ≡ false → v.epoch ≡ Some e → IsListed e p.from × (e.id ≡ p.epoch)
  framed_listed p e v sent forms taken inside = (
    λ z. sent (sym (equal (boot_in e.members.boot p.from) p.from_boot (second_of (same_epoch e.id p.epoch) (boot_in e.members.boot p.from == p.from_boot) framed)) ∙ z),
    epoch_eq e.id p.epoch (first_of (same_epoch e.id p.epoch) (boot_in e.members.boot p.from == p.from_boot) framed),
  )
    where
      first_of : (a b : Bool) → (a && b) ≡ true → a ≡ true
      first_of true b h = refl
      first_of false b h = absurd (true_false (sym h))

      epoch_eq : (a b : EpochId) → same_epoch a b ≡ true → a ≡ b
      epoch_eq a b h = id_eq (grind (arith, nat_tests)) (grind (arith, nat_tests)) (grind (arith, nat_tests))
        where
          id_eq : a.number ≡ b.number → a.site ≡ b.site → a.boot ≡ b.boot → a ≡ b
          id_eq q g h = λ i. record { number = q i; site = g i; boot = h i }

      undropped : (a f b : Bool) → f ≡ false → not (a && (f || b)) ≡ false → b ≡ true
      undropped true false true q h = refl
      undropped true false false q h = absurd (true_false h)
      undropped true true b q h = absurd (true_false q)
      undropped false f b q h = absurd (true_false h)

      framed : is_framed p (Some e) ≡ true
      framed = ap (is_framed p) (sym inside) ∙ undropped (p.to_boot == v.boot) (is_forming p) (is_framed p v.epoch) forms taken

  -- a packet that comes was sent in some boot
  abbrev pub WasSent : Packet → Type 0
  WasSent p = (p.from_boot ≢ 0) × came p.epoch p.from p.body

  framed_keeps : (p : Packet) (e : Option InEpoch) (v : SiteView) → WasSent p → is_forming p ≡ false → is_dropped p v ≡ false → v.epoch ≡ e → Keeps v (takes_framed c me p e v)
  framed_keeps p None v sent forms taken inside = λ told ts. ts
  framed_keeps p (Some e) v sent forms taken inside = inside_keeps e p.from p.body v inside member.0 (subst (λ (i : EpochId). came i p.from p.body) (sym member.1) sent.1)
    where
      member : IsListed e p.from × (e.id ≡ p.epoch)
      member = framed_listed p e v sent.0 forms taken inside

  takes_keeps : (links : Links) (p : Packet) (x : Body) (v : SiteView) → p.body ≡ x → WasSent p → is_dropped p v ≡ false → Keeps v (takes c me links p x v)
  takes_keeps links p body.Poll v is sent taken = λ told. poll_stays links p.from p.from_boot p.epoch v
  takes_keeps links p (body.Promise reach) v is sent taken = λ told. promise_stays p.from p.from_boot p.epoch reach v.round v
  takes_keeps links p (body.Refuse promised) v is sent taken = λ told. refuse_stays links p.epoch promised v.round v
  takes_keeps links p (body.Install members) v is sent taken = λ told. install_stays p.from p.from_boot p.epoch members v
  takes_keeps links p body.Joined v is sent taken = λ told. joined_stays p.from p.epoch v
  takes_keeps links p x v is sent taken = framed_keeps p v.epoch v sent (ap (λ (y : Body). nat_lt (kind_number y) 6) is) taken refl

  whole_keeps : (links : Links) (v : SiteView) (o : Outcome SiteView) (tries : SiteView → Outcome SiteView) → Keeps v o → Stays o.view (tries o.view).view → Keeps v (whole c me links o tries)
  whole_keeps links v o tries h t told ts = ends_stay links (tries o.view).view (t (h (every_left (TellsNamed named) o.told (ends_event c me links (tries o.view).view).told (every_right (TellsNamed named) (tries o.view).told (o.told ++ (ends_event c me links (tries o.view).view).told) told)) ts))

  abbrev pub WasSentFor : Event → Type 0
  WasSentFor (Receives p) = WasSent p
  WasSentFor _ = Unit {0}

  -- each event keeps that
  pub step_keeps : (links : Links) (v : SiteView) (e : Event) → WasSentFor e → Keeps v (step c me links v e)
  step_keeps links v (Calls process words) sent = whole_keeps links v (takes_call c me process words v) quiet (λ told ts. ts) (λ ts. ts)
  step_keeps links v (Receives p) sent =
      (elim (is_dropped p v) as (λ t. is_dropped p v ≡ t → Keeps v (elim t [ true ↦ quiet v | false ↦ whole c me links (takes c me links p p.body v) (tries_at c me p.body) ])) [
        | true ↦ λ e told ts. ts
        | false ↦ λ e. whole_keeps links v (takes c me links p p.body v) (tries_at c me p.body) (takes_keeps links p p.body v refl sent e) (tries_stay p.body (takes c me links p p.body v).view)
      ]) refl
  step_keeps links v Ticks sent = λ told ts. ends_stay links (adopts_in c me v).view (adopts_stay v.epoch v ts)
  step_keeps links v Parts sent = whole_keeps links v (starts_part me links v) quiet (λ told. part_stays links v.epoch v) (λ ts. ts)
  step_keeps links v Merges sent = whole_keeps links v (starts_merge me links v) quiet (λ told. leaves_stay v.epoch v) (λ ts. ts)
  step_keeps links v GivesUp sent = whole_keeps links v (leaves me v) quiet (λ told. leaves_stay v.epoch v) (λ ts. ts)
