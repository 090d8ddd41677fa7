-- What a site does of a packet of its epoch, by the packet's kind.
use Rattle.std.proofs.Common.{◌≡◌, ℕ, ◌==◌, Bool, true, false, List, [], ◌∷◌, Option, Some, None, refl, sym, subst}
use Rattle.locus_ids.specs.declared.config.Config.{Config}
use Rattle.locus_ids.specs.declared.ids.Serial.{Serial}
use Rattle.wire_messages.specs.declared.body.Body.{Body}
use Rattle.wire_messages.specs.declared.body.Body.TheVariants as body
use Rattle.wire_messages.specs.declared.packet.Packet.{Packet}
use Rattle.role_steps.specs.Adoption.{table_group}
use Rattle.role_steps.specs.Looks.{LookRequest}
use Rattle.role_steps.specs.Opens.{OpenRequest, on_opened}
use Rattle.role_steps.specs.Reports.{on_report, on_open, on_look, on_closed, on_have}
use Rattle.role_steps.specs.Own.{Every}
use Rattle.role_steps.specs.Storage.{copy_of}
use Rattle.role_steps.specs.Tables.{row, first_that, without_row}
use Rattle.role_steps.specs.Views.{Frame, SiteView, DiskWrite, Outcome, quiet}
use Rattle.role_steps.specs.declared.synchronizing.SyncTable.{SyncTable}
use Rattle.the_run.specs.Kept.{Among}
use Rattle.the_run.specs.Steps.{at_table_of, is_opened_in, takes_inside}
use Rattle.the_run.specs.Worlds.{Line}
use Rattle.tree_model.specs.Packs.{has_pack}
use Rattle.tree_laws.specs.Doing.{IsReceived, WrittenFact, NoWrite, WriteFact, TableFine}
use Rattle.tree_laws.specs.Packets.{PacketFact}
use Rattle.tree_laws.specs.Tables.{TableFact}
use Rattle.store_laws.specs.OneTree.Places.{InsideFact, SiteFine}
use Rattle.store_laws.specs.OneTree.Rest.{AllRest}
use Rattle.store_laws.specs.OneTree.Roles.{Ready, TableHere, RolesDo}
use Rattle.store_laws.specs.OneTree.Wants.{DeltaOf}
use Rattle.store_laws.proofs.OneTree.Lifting.{InsideFine, inside_quiet, users_inside, store_inside, table_inside, pulls_inside}
use Rattle.store_laws.proofs.OneTree.Parts.{synced_one}
use Rattle.store_laws.proofs.OneTree.PullsAscend.{delta_ascends, notify_ascends, page_ascends}
use Rattle.store_laws.proofs.OneTree.Rising.{row_key, first_among, every_among}

-- ---- what is written ----

no_write : (W : DiskWrite → Type 0) (d : Option DiskWrite) → WrittenFact NoWrite d → WrittenFact W d
no_write W None h = tt
no_write W (Some d) h = absurd h

pub writes_nothing : (c : Config) (n : ℕ) (trace : List Line) (me : ℕ) (F : List Line → SiteView → Type 0) (W : DiskWrite → Type 0) (o : Outcome SiteView) → SiteFine c n trace me F NoWrite o → SiteFine c n trace me F W o
writes_nothing c n trace me F W o h = record { told = h.told; own = h.own; view = h.view; sent = h.sent; written = no_write W o.written h.written }

-- ---- at a table ----

pub table_here : (c : Config) (trace : List Line) (f : Frame) (v : SiteView) → InsideFact c f trace v → (t : SyncTable) → Among t v.tables → TableHere c trace f t
table_here c trace f v h t m = record { synced = synced_one f v.tables h.groups t m; fact = every_among (TableFact c trace f) t v.tables m h.tables }

abbrev TableStep : Config → ℕ → List Line → Frame → ℕ → (SyncTable → Outcome SyncTable) → SyncTable → Type 0
TableStep c n trace f group g t = TableHere c trace f t → t.group ≡ group → AllRest c n trace (g t).told → TableFine c n trace f group (g t)

group_fine : (c : Config) → RolesDo c → (n : ℕ) (trace : List Line) (f : Frame) (v : SiteView) (g : SyncTable → Outcome SyncTable) (group : ℕ) → Ready c trace f → InsideFact c f trace v → ((t : SyncTable) → TableStep c n trace f group g t) →
    (o : Option SyncTable) → row table_group group v.tables ≡ o → AllRest c n trace (at_table_of g o v).told → InsideFine c n trace f NoWrite (at_table_of g o v)
group_fine c roles n trace f v g group ready h step None e fresh = inside_quiet c n trace f v h
group_fine c roles n trace f v g group ready h step (Some t) e fresh =
    let found : Among t v.tables × (t.group ≡ group) = row_key table_group group v.tables t e in
    table_inside c roles n trace f v t (g t) ready h fresh found.0 (subst (λ (k : ℕ). TableFine c n trace f k (g t)) (sym found.1) (step t (table_here c trace f v h t found.0) found.1 fresh))

first_fine : (c : Config) → RolesDo c → (n : ℕ) (trace : List Line) (f : Frame) (v : SiteView) (g : SyncTable → Outcome SyncTable) (i : Serial) → Ready c trace f → InsideFact c f trace v → ((t : SyncTable) → TableHere c trace f t → AllRest c n trace (g t).told → TableFine c n trace f t.group (g t)) →
    (o : Option SyncTable) → first_that (is_opened_in i) v.tables ≡ o → AllRest c n trace (at_table_of g o v).told → InsideFine c n trace f NoWrite (at_table_of g o v)
first_fine c roles n trace f v g i ready h step None e fresh = inside_quiet c n trace f v h
first_fine c roles n trace f v g i ready h step (Some t) e fresh =
    let m : Among t v.tables = first_among (is_opened_in i) v.tables t e in
    table_inside c roles n trace f v t (g t) ready h fresh m (step t (table_here c trace f v h t m) fresh)

-- ---- a row less ----

every_without : {A : Type 0} (P : A → Type 0) (key : A → ℕ) (k : ℕ) (xs : List A) → Every P xs → Every P (without_row key k xs)
every_without P key k [] h = tt
every_without P key k (x ∷ xs) h = over (key x == k) (every_without P key k xs h.1)
  where
    over : (b : Bool) → Every P (without_row key k xs) → Every P (elim b [ true ↦ xs | false ↦ x ∷ without_row key k xs ])
    over true later = h.1
    over false later = (h.0, later)

-- ---- by kind ----

pub inside_fine : (c : Config) → RolesDo c → (n : ℕ) (trace : List Line) (f : Frame) (p : Packet) (b : Body) (v : SiteView) → Ready c trace f → InsideFact c f trace v → IsReceived f p → p.body ≡ b → PacketFact c trace p → DeltaOf c trace f.me v.pulls b → AllRest c n trace (takes_inside f p.from b v).told →
    InsideFine c n trace f (WriteFact c n trace f.me v.store) (takes_inside f p.from b v)
inside_fine c roles n trace f p (body.Report group copies) v ready h r q fact deltas fresh =
    writes_nothing c n trace f.me (InsideFact c f) _ _ (group_fine c roles n trace f v (on_report f p.from copies) group ready h (λ t here e r0. roles.tables.reports n trace f p group copies t ready here (record { received = r; body_is = q; fact = fact }) e r0) (row table_group group v.tables) refl fresh)
inside_fine c roles n trace f p (body.ReportOk group) v ready h r q fact deltas fresh = record {
  told = tt;
  own = tt;
  view = record { frame = h.frame; users = h.users; store = h.store; groups = h.groups; tables = h.tables; pulls = h.pulls; pulls_ascend = h.pulls_ascend; reports = every_without (λ (g : ℕ). has_pack c g f.me ≡ true) (λ (g : ℕ). g) group v.reports h.reports };
  sent = tt;
  written = tt;
}
inside_fine c roles n trace f p (body.Open serial call process request file how) v ready h r q fact deltas fresh =
    let o : OpenRequest = record { serial = serial; call = call; process = process; request = request; file = file; how = how } in
    writes_nothing c n trace f.me (InsideFact c f) _ _ (group_fine c roles n trace f v (on_open f p.from o) file.group ready h (λ t here e r0. roles.tables.opens n trace f p o t ready here (record { received = r; body_is = q; fact = fact }) e r0) (row table_group file.group v.tables) refl fresh)
inside_fine c roles n trace f p (body.OpenSs inst file mode set kind base vector parents) v ready h r q fact deltas fresh =
    store_inside c roles n trace f v _ ready h fresh (roles.stores.opens n trace f p (record { inst = inst; file = file; mode = mode; set = set; kind = kind; base = base; vector = vector; parents = parents }) v.store ready h.store (record { received = r; body_is = q; fact = fact }) fresh)
inside_fine c roles n trace f p (body.Opened inst answer) v ready h r q fact deltas fresh =
    writes_nothing c n trace f.me (InsideFact c f) _ _ (first_fine c roles n trace f v (on_opened f inst answer) inst ready h (λ t here r0. roles.tables.opened n trace f p inst answer t ready here (record { received = r; body_is = q; fact = fact }) r0) (first_that (is_opened_in inst) v.tables) refl fresh)
inside_fine c roles n trace f p (body.OpenDone serial answer) v ready h r q fact deltas fresh =
    writes_nothing c n trace f.me (InsideFact c f) _ _ (users_inside c roles n trace f v _ ready h fresh (roles.users.opened n trace f p serial answer v ready h (record { received = r; body_is = q; fact = fact }) fresh))
inside_fine c roles n trace f p (body.Op serial k o seen) v ready h r q fact deltas fresh =
    store_inside c roles n trace f v _ ready h fresh (roles.stores.acts n trace f p serial k o seen v ready h (record { received = r; body_is = q; fact = fact }) fresh)
inside_fine c roles n trace f p (body.OpDone serial k result) v ready h r q fact deltas fresh =
    writes_nothing c n trace f.me (InsideFact c f) _ _ (users_inside c roles n trace f v _ ready h fresh (roles.users.acted n trace f p serial k result v.users ready h.users (record { received = r; body_is = q; fact = fact }) fresh))
inside_fine c roles n trace f p (body.ReadHeld serial k at len) v ready h r q fact deltas fresh =
    store_inside c roles n trace f v _ ready h fresh (roles.stores.reads n trace f p serial k at len v.store ready h.store (record { received = r; body_is = q; fact = fact }) fresh)
inside_fine c roles n trace f p (body.AsHeld serial k len) v ready h r q fact deltas fresh =
    writes_nothing c n trace f.me (InsideFact c f) _ _ (users_inside c roles n trace f v _ ready h fresh (roles.users.held n trace f p serial k len v.users ready h.users (record { received = r; body_is = q; fact = fact }) fresh))
inside_fine c roles n trace f p (body.Close serial) v ready h r q fact deltas fresh =
    store_inside c roles n trace f v _ ready h fresh (roles.stores.closes n trace f p serial v.store ready h.store (record { received = r; body_is = q; fact = fact }) fresh)
inside_fine c roles n trace f p (body.Closed inst made) v ready h r q fact deltas fresh =
    writes_nothing c n trace f.me (InsideFact c f) _ _ (first_fine c roles n trace f v (on_closed f p.from inst made) inst ready h (λ t here r0. roles.tables.closed n trace f p inst made t ready here (record { received = r; body_is = q; fact = fact }) r0) (first_that (is_opened_in inst) v.tables) refl fresh)
inside_fine c roles n trace f p (body.ClosedOk inst) v ready h r q fact deltas fresh =
    store_inside c roles n trace f v _ ready h fresh (roles.stores.ends n trace f p inst v.store ready h.store (record { received = r; body_is = q; fact = fact }) fresh)
inside_fine c roles n trace f p (body.CloseDone serial answer) v ready h r q fact deltas fresh =
    writes_nothing c n trace f.me (InsideFact c f) _ _ (users_inside c roles n trace f v _ ready h fresh (roles.users.closed n trace f p serial answer v.users ready h.users (record { received = r; body_is = q; fact = fact }) fresh))
inside_fine c roles n trace f p (body.Look call process request take file what) v ready h r q fact deltas fresh =
    let l : LookRequest = record { call = call; process = process; request = request; take = take; file = file; what = what } in
    writes_nothing c n trace f.me (InsideFact c f) _ _ (group_fine c roles n trace f v (on_look f p.from l) file.group ready h (λ t here e r0. roles.tables.looks n trace f p l t ready here (record { received = r; body_is = q; fact = fact }) e r0) (row table_group file.group v.tables) refl fresh)
inside_fine c roles n trace f p (body.LookSs us call process request take file what serve) v ready h r q fact deltas fresh =
    store_inside c roles n trace f v _ ready h fresh (roles.stores.serves n trace f p us (record { call = call; process = process; request = request; take = take; file = file; what = what }) serve v.store ready h.store (record { received = r; body_is = q; fact = fact }) fresh)
inside_fine c roles n trace f p (body.LookDone call request take answer) v ready h r q fact deltas fresh =
    writes_nothing c n trace f.me (InsideFact c f) _ _ (users_inside c roles n trace f v _ ready h fresh (roles.users.looked n trace f p call request take answer v.users ready h.users (record { received = r; body_is = q; fact = fact }) fresh))
inside_fine c roles n trace f p (body.Notify file kind set size stamp vector holder) v ready h r q fact deltas fresh =
    writes_nothing c n trace f.me (InsideFact c f) _ _ (pulls_inside c n trace f v _ h (λ a. notify_ascends f p.from (copy_of v.store file) (record { file = file; kind = kind; set = set; size = size; stamp = stamp; vector = vector; holder = holder; base = None; wanted = None; content = [] }) v.pulls a) (roles.pulls.notified n trace f p (record { file = file; kind = kind; set = set; size = size; stamp = stamp; vector = vector; holder = holder; base = None; wanted = None; content = [] }) v.store v.pulls ready h.store h.pulls refl (record { received = r; body_is = q; fact = fact })))
inside_fine c roles n trace f p (body.Pull file stamp page) v ready h r q fact deltas fresh =
    store_inside c roles n trace f v _ ready h fresh (roles.stores.gives n trace f p file stamp page v.store ready h.store (record { received = r; body_is = q; fact = fact }) fresh)
inside_fine c roles n trace f p (body.Page file stamp page bytes) v ready h r q fact deltas fresh =
    writes_nothing c n trace f.me (InsideFact c f) _ _ (pulls_inside c n trace f v _ h (λ a. page_ascends f file stamp page bytes v.pulls a) (roles.pulls.paged n trace f p file stamp page bytes v.pulls ready h.pulls (record { received = r; body_is = q; fact = fact })))
inside_fine c roles n trace f p (body.Want file wanted own) v ready h r q fact deltas fresh =
    store_inside c roles n trace f v _ ready h fresh (roles.stores.wants n trace f p file wanted own v.store ready h.store (record { received = r; body_is = q; fact = fact }) fresh)
inside_fine c roles n trace f p (body.Delta file wanted pages) v ready h r q fact deltas fresh =
    writes_nothing c n trace f.me (InsideFact c f) _ _ (pulls_inside c n trace f v _ h (λ a. delta_ascends f (copy_of v.store file) file wanted pages v.pulls a) (roles.pulls.told n trace f p (copy_of v.store file) file wanted pages v.pulls ready h.pulls (record { received = r; body_is = q; fact = fact }) deltas))
inside_fine c roles n trace f p (body.Have file stamp) v ready h r q fact deltas fresh =
    writes_nothing c n trace f.me (InsideFact c f) _ _ (group_fine c roles n trace f v (on_have p.from file stamp) file.group ready h (λ t here e r0. roles.tables.notes n trace f p file stamp t ready here (record { received = r; body_is = q; fact = fact }) e r0) (row table_group file.group v.tables) refl fresh)
inside_fine c roles n trace f p _ v ready h r q fact deltas fresh = writes_nothing c n trace f.me (InsideFact c f) _ _ (inside_quiet c n trace f v h)

-- ---- the boot and the epoch stay ----

pub record Stands (v : SiteView) (o : Outcome SiteView) : Type 0 where
  pub boot : o.view.boot ≡ v.boot
  pub epoch : o.view.epoch ≡ v.epoch

pub stands_still : (v : SiteView) → Stands v (quiet v)
stands_still v = record { boot = refl; epoch = refl }

stands_table : (g : SyncTable → Outcome SyncTable) (o : Option SyncTable) (v : SiteView) → Stands v (at_table_of g o v)
stands_table g None v = record { boot = refl; epoch = refl }
stands_table g (Some t) v = record { boot = refl; epoch = refl }

pub inside_stands : (f : Frame) (from : ℕ) (b : Body) (v : SiteView) → Stands v (takes_inside f from b v)
inside_stands f from (body.Report group copies) v = stands_table _ (row table_group group v.tables) v
inside_stands f from (body.Open serial call process request file how) v = stands_table _ (row table_group file.group v.tables) v
inside_stands f from (body.Opened inst answer) v = stands_table _ (first_that (is_opened_in inst) v.tables) v
inside_stands f from (body.Closed inst made) v = stands_table _ (first_that (is_opened_in inst) v.tables) v
inside_stands f from (body.Look call process request take file what) v = stands_table _ (row table_group file.group v.tables) v
inside_stands f from (body.Have file stamp) v = stands_table _ (row table_group file.group v.tables) v
inside_stands f from _ v = record { boot = refl; epoch = refl }
