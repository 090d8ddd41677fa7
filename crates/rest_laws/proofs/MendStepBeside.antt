-- What a site has beside its using site stays while the using site tells what it does.
use Rattle.std.proofs.Common.{ℕ, List}
use Rattle.locus_ids.specs.declared.config.Config.{Config}
use Rattle.role_steps.specs.Epochs.{with_users}
use Rattle.role_steps.specs.Own.{Every}
use Rattle.role_steps.specs.Views.{Frame, Users, SiteView, Told, Outcome}
use Rattle.role_steps.specs.declared.synchronizing.SyncTable.{SyncTable}
use Rattle.the_run.specs.Worlds.{Line, told_onto}
use Rattle.tree_laws.specs.Doing.{IsOfSite, IsOfUsers, PullsFact, StoreHeld}
use Rattle.tree_laws.specs.Tables.{TableFact}
use Rattle.tree_laws.proofs.Boots.{every_both}
use Rattle.store_laws.specs.OneTree.Places.{AllAt, InsideFact}
use Rattle.store_laws.specs.OneTree.Rest.{AllRest, Comes, Past, more}
use Rattle.store_laws.specs.OneTree.Roles.{CallsFine}
use Rattle.store_laws.proofs.OneTree.Frames.{pulls_frame, store_frame, table_frame}
use Rattle.store_laws.proofs.OneTree.Framing.{every_at, frame_over, stay_over}
use Rattle.store_laws.proofs.OneTree.Sorts.{users_adopted, users_site, users_store, users_table}

tables_stay : (c : Config) (n : ℕ) (f : Frame) (x : Told) (older : List Line) → Comes c older x → IsOfUsers f.me x → (ts : List SyncTable) → Every (TableFact c older f) ts → Every (TableFact c (more n x older) f) ts
tables_stay c n f x older comes own ts facts = every_both (TableFact c older f) (TableFact c (more n x older) f) ts (λ t fact. table_frame c n x older f t comes (λ s. users_table f.me f t.group x own s) (λ a. users_adopted f.me f.me x own a) fact) facts

-- its calls have done as they may, and all else is as it was
pub users_beside : (c : Config) (n : ℕ) (t : List Line) (f : Frame) (v : SiteView) (o : Outcome Users) → Past c t → InsideFact c f t v → AllRest c n t o.told → CallsFine c n t f o → InsideFact c f (told_onto n o.told t) (with_users v o.view)
users_beside c n t f v o past k fresh done = record {
  frame = frame_over c n f o.told t past done.told fresh (every_at n (IsOfUsers f.me) (λ u x. IsOfSite f.me x → ⊥) (λ x u own. λ s. users_site f.me f.me x own s) o.told t done.own) k.frame;
  users = done.view;
  store = stay_over c n (λ u x. IsOfUsers f.me x) (λ u. StoreHeld c f u v.store) (λ x older comes mine held. store_frame c n x older f v.store comes (λ e s. users_store f.me f.me older e x mine s) (λ a. users_adopted f.me f.me x mine a) held) o.told t past done.told fresh all_own k.store;
  groups = k.groups;
  tables = stay_over c n (λ u x. IsOfUsers f.me x) (λ u. Every (TableFact c u f) v.tables) (λ x older comes mine facts. tables_stay c n f x older comes mine v.tables facts) o.told t past done.told fresh all_own k.tables;
  reports = k.reports;
  pulls = stay_over c n (λ u x. IsOfUsers f.me x) (λ u. PullsFact c f u v.pulls) (λ x older comes mine facts. pulls_frame c n x older f v.pulls comes (λ a. users_adopted f.me f.me x mine a) facts) o.told t past done.told fresh all_own k.pulls;
  pulls_ascend = k.pulls_ascend;
}
  where
    all_own : AllAt (λ u x. IsOfUsers f.me x) n t o.told
    all_own = every_at n (IsOfUsers f.me) (λ u x. IsOfUsers f.me x) (λ x u mine. mine) o.told t done.own
