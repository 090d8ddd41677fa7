-- A packet of the epoch that no instance takes leaves the store as it is, and writes nothing.
use Rattle.std.proofs.Common.{◌≡◌, ℕ, Option, Some, None, refl}
use Rattle.the_run.specs.of_wire_messages.declared.body.Body.{Body}
use Rattle.the_run.specs.of_role_steps.Views.{Frame, SiteView, Outcome}
use Rattle.the_run.specs.of_role_steps.declared.synchronizing.SyncTable.{SyncTable}
use Rattle.the_run.specs.Steps.{at_table_of, takes_inside}
use Rattle.the_run.specs.Roles.{IsForStore}
use Rattle.the_run.specs.KindLaws.{Law, frame_law, TablesKeep, ReadersKeep, UsersKeep}
use Rattle.the_run.proofs.Premises.{frame_tables, frame_stores, frame_users}
use Rattle.the_run.proofs.Roles.{by_role, tables_by, readers_by, users_by, pulls_by}

abbrev pub Untouched : SiteView → Outcome SiteView → Type 0
Untouched v o = (o.view.store ≡ v.store) × (o.written ≡ None)

-- the law by kinds that asks that nothing is written
abbrev writes_none : Law
writes_none = frame_law (λ p. Unit {0}) (λ t. Unit {0}) (λ w. w ≡ None)

tables : (f : Frame) → TablesKeep writes_none f
tables f = frame_tables (λ p. Unit {0}) (λ t. Unit {0}) (λ w. w ≡ None) f (λ to b. tt) (λ t k. tt) refl

readers : (f : Frame) → ReadersKeep writes_none f
readers f = (frame_stores (λ p. Unit {0}) (λ t. Unit {0}) (λ w. w ≡ None) f (λ to b. tt) (λ t k. tt) refl).reads

users : (f : Frame) → UsersKeep writes_none f
users f = frame_users (λ p. Unit {0}) (λ t. Unit {0}) (λ w. w ≡ None) f (λ to b. tt) (λ t k. tt) refl

at_table : (g : SyncTable → Outcome SyncTable) (o : Option SyncTable) (v : SiteView) → ((t : SyncTable) → (g t).written ≡ None) → Untouched v (at_table_of g o v)
at_table g None v h = (refl, refl)
at_table g (Some t) v h = (refl, h t)

abbrev Q : SiteView → Body → Outcome SiteView → Type 0
Q v x o = (IsForStore x → ⊥) → Untouched v o

pub untouched : (f : Frame) (from : ℕ) (x : Body) (v : SiteView) → (IsForStore x → ⊥) → Untouched v (takes_inside f from x v)
untouched f from x v = by_role (Q v) f from v (record {
  tables = tables_by (Q v) writes_none f from v (tables f) (record { reported = λ t k. tt; closed = λ i. tt }) (λ t. tt) (λ y g o is h k. at_table g o v (λ t. (h t).2));
  stores = λ y is k. absurd (k is);
  readers = readers_by (Q v) writes_none f from v (readers f) (λ b is. tt) (λ y o is same h k. (same, h.2));
  users = users_by (Q v) writes_none f from v (users f) (λ y o is h k. (refl, h.2));
  pulls = pulls_by (Q v) writes_none f from v (readers f) (λ b is. tt) (λ y o is h k. (refl, h.2));
  reported = λ group k. (refl, refl);
  forming = λ y is k. (refl, refl);
}) x
