-- The parts of a site in its epoch, and that each stays while another part of it tells what it does.
use Rattle.std.proofs.Common.{◌≡◌, ℕ, List, [], ◌∷◌, map, Some, refl, sym, subst, inl, inr, arith}
use Rattle.locus_ids.specs.Sites.{has}
use Rattle.locus_ids.specs.declared.config.Config.{Config}
use Rattle.locus_ids.specs.declared.ids.EpochId.{EpochId}
use Rattle.role_steps.specs.Adoption.{table_group}
use Rattle.role_steps.specs.Epochs.{is_sync_site, own_groups}
use Rattle.role_steps.specs.Own.{Every}
use Rattle.role_steps.specs.Views.{Frame, Store, Users, Told, all_groups, pack_sites, sync_site}
use Rattle.role_steps.specs.declared.pulls.Pull.{Pull}
use Rattle.role_steps.specs.declared.synchronizing.SyncTable.{SyncTable}
use Rattle.the_run.specs.Kept.{Among}
use Rattle.the_run.specs.Worlds.{Line, told_onto}
use Rattle.row_laws.proofs.of_site_laws.Locks.GrantSites.{is_synced}
use Rattle.tree_laws.specs.Doing.{AllTold, FrameFact, IsOfUsers, IsOfStore, IsAdopted, IsOfTable, IsOfSite, UsersInside, StoreHeld, PullsFact}
use Rattle.tree_laws.specs.Stores.{CopiesAreHeld}
use Rattle.tree_laws.specs.Tables.{TableFact}
use Rattle.store_laws.specs.OneTree.Places.{AllAt, synced_groups, UsersOf}
use Rattle.store_laws.specs.OneTree.Rest.{AllRest, Past, Comes, more}
use Rattle.store_laws.specs.OneTree.Roles.{RolesDo}
use Rattle.store_laws.proofs.OneTree.Frames.{pulls_frame, store_frame, table_frame, users_frame}
use Rattle.store_laws.proofs.OneTree.Composing.{past_more}
use Rattle.store_laws.proofs.OneTree.Framing.{frame_stays, stay_over}
use Rattle.store_laws.proofs.OneTree.Rising.{Rising, rising_filter, among_map, among_filter}

-- ---- the groups of a site's tables ----

all_rise : Rising all_groups
all_rise = ((omega arith, (omega arith, (omega arith, tt))), ((omega arith, (omega arith, tt)), ((omega arith, tt), (tt, tt))))

pub groups_rise : (f : Frame) → Rising (synced_groups f)
groups_rise f = rising_filter (is_sync_site f.config f.me f.members) (own_groups f.config f.me) (rising_filter (λ (g : ℕ). has (pack_sites f.config g) f.me) all_groups all_rise)

pub tables_rise : (f : Frame) (tables : List SyncTable) → map table_group tables ≡ synced_groups f → Rising (map table_group tables)
tables_rise f tables e = subst Rising (sym e) (groups_rise f)

pub synced_one : (f : Frame) (tables : List SyncTable) → map table_group tables ≡ synced_groups f → (t : SyncTable) → Among t tables → sync_site f.config f.members t.group ≡ Some f.me
synced_one f tables e t m = is_synced f.config f.me f.members t.group (among_filter (is_sync_site f.config f.me f.members) t.group (own_groups f.config f.me) (subst (λ (gs : List ℕ). Among t.group gs) e (among_map table_group t tables m)))

every_from : {A : Type 0} (P : A → Type 0) (xs : List A) → ((x : A) → Among x xs → P x) → Every P xs
every_from P [] f = tt
every_from P (x ∷ xs) f = (f x (inl refl), every_from P xs (λ y m. f y (inr m)))

abbrev pub Synced : Frame → SyncTable → Type 0
Synced f t = sync_site f.config f.members t.group ≡ Some f.me

pub synced_each : (f : Frame) (tables : List SyncTable) → map table_group tables ≡ synced_groups f → Every (Synced f) tables
synced_each f tables e = every_from (Synced f) tables (synced_one f tables e)

-- a disk is as it is held, whatever instances there are
pub copies_bare : (c : Config) (t : List Line) (me : ℕ) (s : Store) → CopiesAreHeld c t me s → CopiesAreHeld c t me (record { copies = s.copies; instances = []; steps = [] })
copies_bare c t me s h = record { are = h.are; ascends = h.ascends }

-- ---- one line ----

-- the frame with the tables of a site
pub record TablesAt (c : Config) (f : Frame) (P : SyncTable → Type 0) (tables : List SyncTable) (t : List Line) : Type 0 where
  pub frame : FrameFact c t f
  pub each : Every (λ (x : SyncTable). P x → TableFact c t f x) tables

each_stays : (c : Config) → RolesDo c → (n : ℕ) (x : Told) (older : List Line) (f : Frame) (P : SyncTable → Type 0) → Comes c older x → FrameFact c older f → (IsAdopted f.me x → ⊥) → (tables : List SyncTable) → Every (Synced f) tables → Every (λ (t : SyncTable). P t → IsOfTable f t.group x → ⊥) tables →
    Every (λ (t : SyncTable). P t → TableFact c older f t) tables → Every (λ (t : SyncTable). P t → TableFact c (more n x older) f t) tables
each_stays c roles n x older f P k frame a [] s other h = tt
each_stays c roles n x older f P k frame a (t ∷ ts) s other h =
    (λ p. table_frame c n x older f t k (other.0 p) a (h.0 p), each_stays c roles n x older f P k frame a ts s.1 other.1 h.1)

pub tables_stay : (c : Config) → RolesDo c → (n : ℕ) (f : Frame) (P : SyncTable → Type 0) (tables : List SyncTable) → Every (Synced f) tables → (x : Told) (older : List Line) → Comes c older x → (IsOfSite f.me x → ⊥) → (IsAdopted f.me x → ⊥) → Every (λ (t : SyncTable). P t → IsOfTable f t.group x → ⊥) tables →
    TablesAt c f P tables older → TablesAt c f P tables (more n x older)
tables_stay c roles n f P tables s x older k site adopted other h = record {
  frame = frame_stays c n x older f k site h.frame;
  each = each_stays c roles n x older f P k h.frame adopted tables s other h.each;
}

-- ---- over all that an event tells ----

-- a line is none of these
pub record NoUsers (me : ℕ) (x : Told) : Type 0 where
  pub users : IsOfUsers me x → ⊥
  pub site : IsOfSite me x → ⊥

pub record NoStore (me : ℕ) (t : List Line) (x : Told) : Type 0 where
  pub store : (e : EpochId) → IsOfStore t me e x → ⊥
  pub adopted : IsAdopted me x → ⊥
  pub site : IsOfSite me x → ⊥

pub record NoTable (f : Frame) (P : SyncTable → Type 0) (tables : List SyncTable) (x : Told) : Type 0 where
  pub others : Every (λ (t : SyncTable). P t → IsOfTable f t.group x → ⊥) tables
  pub adopted : IsAdopted f.me x → ⊥
  pub site : IsOfSite f.me x → ⊥

pub users_over : (c : Config) → RolesDo c → (n : ℕ) (f : Frame) (u : Users) (told : List Told) (trace : List Line) → Past c trace → AllTold c n trace told → AllRest c n trace told → AllAt (λ t x. NoUsers f.me x) n trace told → FrameFact c trace f → UsersOf c f trace u → UsersOf c f (told_onto n told trace) u
users_over c roles n f u told trace h k fresh q frame fact = record {
  inside = (stay_over c n (λ t x. NoUsers f.me x) (λ t. FrameFact c t f × UsersInside c f t u) (λ x older s no p. (frame_stays c n x older f s no.site p.0, users_frame c n x older f u s p.0 no.users no.site p.1)) told trace h k fresh q (frame, fact.inside)).1;
  apart = fact.apart;
  waiting_ascends = fact.waiting_ascends;
  instances_ascend = fact.instances_ascend;
  descriptors_ascend = fact.descriptors_ascend;
}

pub store_over : (c : Config) → RolesDo c → (n : ℕ) (f : Frame) (s : Store) (told : List Told) (trace : List Line) → Past c trace → AllTold c n trace told → AllRest c n trace told → AllAt (λ t x. NoStore f.me t x) n trace told → StoreHeld c f trace s → StoreHeld c f (told_onto n told trace) s
store_over c roles n f s told trace h k fresh q fact = stay_over c n (λ t x. NoStore f.me t x) (λ t. StoreHeld c f t s) (λ x older comes no p. store_frame c n x older f s comes no.store no.adopted p) told trace h k fresh q fact

pub tables_over : (c : Config) → RolesDo c → (n : ℕ) (f : Frame) (P : SyncTable → Type 0) (tables : List SyncTable) → Every (Synced f) tables → (told : List Told) (trace : List Line) → Past c trace → AllTold c n trace told → AllRest c n trace told → AllAt (λ t x. NoTable f P tables x) n trace told → TablesAt c f P tables trace → TablesAt c f P tables (told_onto n told trace)
tables_over c roles n f P tables s told trace h k fresh q fact = stay_over c n (λ t x. NoTable f P tables x) (TablesAt c f P tables) (λ x older comes no p. tables_stay c roles n f P tables s x older comes no.site no.adopted no.others p) told trace h k fresh q fact

pub pulls_over : (c : Config) → RolesDo c → (n : ℕ) (f : Frame) (ps : List Pull) (told : List Told) (trace : List Line) → Past c trace → AllTold c n trace told → AllRest c n trace told → AllAt (λ t x. IsAdopted f.me x → ⊥) n trace told → PullsFact c f trace ps → PullsFact c f (told_onto n told trace) ps
pulls_over c roles n f ps told trace h k fresh q fact = stay_over c n (λ t x. IsAdopted f.me x → ⊥) (λ t. PullsFact c f t ps) (λ x older comes no p. pulls_frame c n x older f ps comes no p) told trace h k fresh q fact
