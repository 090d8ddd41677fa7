-- What one role of a site does as it may, the site does: its other parts stay.
use Rattle.std.proofs.Common.{◌≡◌, ℕ, List, [], ◌∷◌, map, refl, sym, ◌∙◌, subst, inl, inr}
use Rattle.locus_ids.specs.declared.config.Config.{Config}
use Rattle.role_steps.specs.Adoption.{table_group, with_table, with_store}
use Rattle.role_steps.specs.Epochs.{with_users}
use Rattle.role_steps.specs.Own.{Every}
use Rattle.role_steps.specs.Pulling.{pull_key}
use Rattle.role_steps.specs.Views.{Frame, Store, Users, SiteView, Told, DiskWrite, Outcome, quiet, within}
use Rattle.role_steps.specs.declared.pulls.Pull.{Pull}
use Rattle.role_steps.specs.declared.synchronizing.SyncTable.{SyncTable}
use Rattle.the_run.specs.Kept.{Among}
use Rattle.the_run.specs.Steps.{with_pulls}
use Rattle.the_run.specs.Worlds.{Line, told_onto}
use Rattle.tree_laws.specs.Doing.{AllTold, FrameFact, IsAdopted, IsOfUsers, IsOfStore, IsOfTable, IsOfNone, NoWrite, WriteFact, StoreFine, TableFine, PullsFact, PullsFine}
use Rattle.tree_laws.specs.Packets.{PacketFact}
use Rattle.tree_laws.specs.Stores.{Ascends}
use Rattle.tree_laws.specs.Tables.{TableFact}
use Rattle.store_laws.specs.OneTree.Places.{AllAt, AllOf, IsOf, InsideFact, SiteFine}
use Rattle.store_laws.specs.OneTree.Rest.{AllRest, Past, more}
use Rattle.store_laws.specs.OneTree.Roles.{Ready, RolesDo, CallsFine}
use Rattle.store_laws.proofs.OneTree.Composing.{past_more}
use Rattle.store_laws.proofs.OneTree.Framing.{every_at, at_weaker, kept_at, frame_over}
use Rattle.store_laws.proofs.OneTree.Parts.{synced_each, synced_one, tables_rise, TablesAt, NoUsers, NoStore, NoTable, users_over, store_over, tables_over, pulls_over}
use Rattle.store_laws.proofs.OneTree.Rising.{Rising, every_replaced, keys_same, among_map}
use Rattle.store_laws.proofs.OneTree.Sorts.{users_store, users_table, users_site, users_adopted, store_users, store_table, store_site, store_adopted, store_later, table_users, table_store, table_site, table_adopted, one_table}

-- what a site in its epoch does as it may
abbrev pub InsideFine : Config → ℕ → List Line → Frame → (DiskWrite → Type 0) → Outcome SiteView → Type 0
InsideFine c n trace f W o = SiteFine c n trace f.me (InsideFact c f) W o

abbrev AnyTable : SyncTable → Type 0
AnyTable t = Unit {0}

none_of : (f : Frame) (tables : List SyncTable) (x : Told) → ((g : ℕ) → IsOfTable f g x → ⊥) → Every (λ (t : SyncTable). AnyTable t → IsOfTable f t.group x → ⊥) tables
none_of f [] x h = tt
none_of f (t ∷ ts) x h = (λ a k. h t.group k, none_of f ts x h)

any_facts : (c : Config) (f : Frame) (trace : List Line) (tables : List SyncTable) → Every (TableFact c trace f) tables → Every (λ (t : SyncTable). AnyTable t → TableFact c trace f t) tables
any_facts c f trace [] h = tt
any_facts c f trace (t ∷ ts) h = (λ a. h.0, any_facts c f trace ts h.1)

all_facts : (c : Config) (f : Frame) (trace : List Line) (tables : List SyncTable) → Every (λ (t : SyncTable). AnyTable t → TableFact c trace f t) tables → Every (TableFact c trace f) tables
all_facts c f trace [] h = tt
all_facts c f trace (t ∷ ts) h = (h.0 tt, all_facts c f trace ts h.1)

-- ---- nothing is told ----

pub inside_quiet : (c : Config) (n : ℕ) (trace : List Line) (f : Frame) (v : SiteView) → InsideFact c f trace v → InsideFine c n trace f NoWrite (quiet v)
inside_quiet c n trace f v h = record { told = tt; own = tt; view = h; sent = tt; written = tt }

-- ---- the using site ----

pub users_inside : (c : Config) → RolesDo c → (n : ℕ) (trace : List Line) (f : Frame) (v : SiteView) (o : Outcome Users) → Ready c trace f → InsideFact c f trace v → AllRest c n trace o.told → CallsFine c n trace f o → InsideFine c n trace f NoWrite (within (with_users v) o)
users_inside c roles n trace f v o ready h fresh k = record {
  told = k.told;
  own = every_at n (IsOfUsers f.me) (λ t x. IsOf c t f.me x) (λ x t u. inl u) o.told trace k.own;
  view = record {
    frame = tables.frame;
    users = k.view;
    store = store_over c roles n f v.store o.told trace ready.past k.told fresh
        (every_at n (IsOfUsers f.me) (λ t x. NoStore f.me t x) (λ x t u. record { store = λ e s. users_store f.me f.me t e x u s; adopted = λ a. users_adopted f.me f.me x u a; site = λ s. users_site f.me f.me x u s }) o.told trace k.own) h.store;
    groups = h.groups;
    tables = all_facts c f (told_onto n o.told trace) v.tables tables.each;
    pulls = pulls_over c roles n f v.pulls o.told trace ready.past k.told fresh (every_at n (IsOfUsers f.me) (λ t x. IsAdopted f.me x → ⊥) (λ x t u a. users_adopted f.me f.me x u a) o.told trace k.own) h.pulls;
    pulls_ascend = h.pulls_ascend;
    reports = h.reports;
  };
  sent = k.sent;
  written = k.written;
}
  where
    tables : TablesAt c f AnyTable v.tables (told_onto n o.told trace)
    tables = tables_over c roles n f AnyTable v.tables (synced_each f v.tables h.groups) o.told trace ready.past k.told fresh
        (every_at n (IsOfUsers f.me) (λ t x. NoTable f AnyTable v.tables x) (λ x t u. record { others = none_of f v.tables x (λ g s. users_table f.me f g x u s); adopted = λ a. users_adopted f.me f.me x u a; site = λ s. users_site f.me f.me x u s }) o.told trace k.own)
        (record { frame = h.frame; each = any_facts c f trace v.tables h.tables })

-- ---- the storage site ----

pub store_inside : (c : Config) → RolesDo c → (n : ℕ) (trace : List Line) (f : Frame) (v : SiteView) (o : Outcome Store) → Ready c trace f → InsideFact c f trace v → AllRest c n trace o.told → StoreFine c n trace f v.store o → InsideFine c n trace f (WriteFact c n trace f.me v.store) (within (with_store v) o)
store_inside c roles n trace f v o ready h fresh k = record {
  told = k.told;
  own = at_weaker n (λ t x. IsOfStore t f.me f.epoch x) (λ t x. IsOf c t f.me x) (λ x t s. inr (inr (inr (inl (f.epoch, s))))) o.told trace own;
  view = record {
    frame = tables.frame;
    users = users_over c roles n f v.users o.told trace ready.past k.told fresh
        (at_weaker n (λ t x. IsOfStore t f.me f.epoch x) (λ t x. NoUsers f.me x) (λ x t s. record { users = λ u. store_users f.me f.me t f.epoch x s u; site = λ u. store_site f.me f.me t f.epoch x s u }) o.told trace own) h.frame h.users;
    store = k.view;
    groups = h.groups;
    tables = all_facts c f (told_onto n o.told trace) v.tables tables.each;
    pulls = pulls_over c roles n f v.pulls o.told trace ready.past k.told fresh (at_weaker n (λ t x. IsOfStore t f.me f.epoch x) (λ t x. IsAdopted f.me x → ⊥) (λ x t s a. store_adopted f.me f.me t f.epoch x s a) o.told trace own) h.pulls;
    pulls_ascend = h.pulls_ascend;
    reports = h.reports;
  };
  sent = k.sent;
  written = k.written;
}
  where
    own : AllAt (λ t x. IsOfStore t f.me f.epoch x) n trace o.told
    own = kept_at n (λ t x. IsOfStore t f.me f.epoch x) (λ x y t s. store_later f.me y t f.epoch x s) o.told trace k.own

    tables : TablesAt c f AnyTable v.tables (told_onto n o.told trace)
    tables = tables_over c roles n f AnyTable v.tables (synced_each f v.tables h.groups) o.told trace ready.past k.told fresh
        (at_weaker n (λ t x. IsOfStore t f.me f.epoch x) (λ t x. NoTable f AnyTable v.tables x) (λ x t s. record { others = none_of f v.tables x (λ g u. store_table f.me t f.epoch f g x s u); adopted = λ a. store_adopted f.me f.me t f.epoch x s a; site = λ u. store_site f.me f.me t f.epoch x s u }) o.told trace own)
        (record { frame = h.frame; each = any_facts c f trace v.tables h.tables })

-- ---- the synchronization site of a group ----

abbrev Another : ℕ → SyncTable → Type 0
Another group t = t.group ≡ group → ⊥

others_of : (f : Frame) (group : ℕ) (tables : List SyncTable) (x : Told) → IsOfTable f group x → Every (λ (t : SyncTable). Another group t → IsOfTable f t.group x → ⊥) tables
others_of f group [] x h = tt
others_of f group (t ∷ ts) x h = (λ a k. a (one_table f f t.group group x k h).1, others_of f group ts x h)

other_facts : (c : Config) (f : Frame) (trace : List Line) (group : ℕ) (tables : List SyncTable) → Every (TableFact c trace f) tables → Every (λ (t : SyncTable). Another group t → TableFact c trace f t) tables
other_facts c f trace group [] h = tt
other_facts c f trace group (t ∷ ts) h = (λ a. h.0, other_facts c f trace group ts h.1)

pub table_inside : (c : Config) → RolesDo c → (n : ℕ) (trace : List Line) (f : Frame) (v : SiteView) (t : SyncTable) (o : Outcome SyncTable) → Ready c trace f → InsideFact c f trace v → AllRest c n trace o.told → Among t v.tables → TableFine c n trace f t.group o →
    InsideFine c n trace f NoWrite (within (λ (now : SyncTable). with_table now v) o)
table_inside c roles n trace f v t o ready h fresh m k = record {
  told = k.told;
  own = tables_own o.told trace ready.past k.told fresh h.frame k.own;
  view = record {
    frame = tables.frame;
    users = users_over c roles n f v.users o.told trace ready.past k.told fresh (every_at n (IsOfTable f t.group) (λ u x. NoUsers f.me x) (λ x u s. record { users = λ a. table_users f.me f t.group x s a; site = λ a. table_site f.me f t.group x s a }) o.told trace k.own) h.frame h.users;
    store = store_over c roles n f v.store o.told trace ready.past k.told fresh
        (every_at n (IsOfTable f t.group) (λ u x. NoStore f.me u x) (λ x u s. record { store = λ e a. table_store f.me u e f t.group x s a; adopted = λ a. table_adopted f.me f t.group x s a; site = λ a. table_site f.me f t.group x s a }) o.told trace k.own) h.store;
    groups = keys_same table_group o.view v.tables rises here ∙ h.groups;
    tables = every_replaced (TableFact c (told_onto n o.told trace) f) table_group o.view v.tables rises k.view.table (subst (λ (g : ℕ). Every (λ (u : SyncTable). (u.group ≡ g → ⊥) → TableFact c (told_onto n o.told trace) f u) v.tables) (sym k.view.group_is) tables.each);
    pulls = pulls_over c roles n f v.pulls o.told trace ready.past k.told fresh (every_at n (IsOfTable f t.group) (λ u x. IsAdopted f.me x → ⊥) (λ x u s a. table_adopted f.me f t.group x s a) o.told trace k.own) h.pulls;
    pulls_ascend = h.pulls_ascend;
    reports = h.reports;
  };
  sent = k.sent;
  written = k.written;
}
  where
    rises : Rising (map table_group v.tables)
    rises = tables_rise f v.tables h.groups

    here : Among o.view.group (map table_group v.tables)
    here = subst (λ (g : ℕ). Among g (map table_group v.tables)) (sym k.view.group_is) (among_map table_group t v.tables m)

    tables : TablesAt c f (Another t.group) v.tables (told_onto n o.told trace)
    tables = tables_over c roles n f (Another t.group) v.tables (synced_each f v.tables h.groups) o.told trace ready.past k.told fresh
        (every_at n (IsOfTable f t.group) (λ u x. NoTable f (Another t.group) v.tables x) (λ x u s. record { others = others_of f t.group v.tables x s; adopted = λ a. table_adopted f.me f t.group x s a; site = λ a. table_site f.me f t.group x s a }) o.told trace k.own)
        (record { frame = h.frame; each = other_facts c f trace t.group v.tables h.tables })

    tables_own : (told : List Told) (t0 : List Line) → Past c t0 → AllTold c n t0 told → AllRest c n t0 told → FrameFact c t0 f → Every (IsOfTable f t.group) told → AllOf c n t0 f.me told
    tables_own [] t0 followed may new fr q = tt
    tables_own (x ∷ xs) t0 followed may new fr q = (
      inr (inr (inr (inr (inl (record { frame = f; config_is = fr.config_is; me_is = refl; members_are = fr.members_are; group = t.group; synced = synced_one f v.tables h.groups t m; of = q.0 }))))),
      tables_own xs (more n x t0) (past_more c n x t0 followed may.0 new.0) may.1 new.1 (frame_over c n f (x ∷ []) t0 followed (may.0, tt) (new.0, tt) ((λ s. table_site f.me f t.group x q.0 s), tt) fr) q.1,
    )

-- ---- pulls ----

pub pulls_inside : (c : Config) (n : ℕ) (trace : List Line) (f : Frame) (v : SiteView) (o : Outcome (List Pull)) → InsideFact c f trace v → (Ascends pull_key v.pulls → Ascends pull_key o.view) → PullsFine c n trace f o → InsideFine c n trace f NoWrite (within (with_pulls v) o)
pulls_inside c n trace f v o h ascends k = silent o.told k.told k.own k.view k.sent
  where
    silent : (told : List Told) → AllTold c n trace told → Every IsOfNone told → PullsFact c f (told_onto n told trace) o.view → Every (PacketFact c (told_onto n told trace)) o.sent → InsideFine c n trace f NoWrite (record { view = with_pulls v o.view; sent = o.sent; told = told; written = o.written })
    silent [] a b view sent = record { told = tt; own = tt; view = record { frame = h.frame; users = h.users; store = h.store; groups = h.groups; tables = h.tables; pulls = view; pulls_ascend = ascends h.pulls_ascend; reports = h.reports }; sent = sent; written = k.written }
    silent (x ∷ xs) a b view sent = absurd b.0
