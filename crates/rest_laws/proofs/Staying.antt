-- What a line of a table leaves as it is of the order of versions.
use Rattle.std.proofs.Common.{◌≡◌, ℕ, List, ◌∷◌, Option, Some, subst}
use Rattle.locus_ids.specs.declared.config.Config.{Config}
use Rattle.trace_book.specs.declared.record.Record.{Record}
use Rattle.trace_book.specs.declared.record.Record.TheVariants as says
use Rattle.role_steps.specs.Views.{Frame, Store, Told, Shown, Begins, Reserves}
use Rattle.role_steps.specs.Views as role
use Rattle.role_steps.specs.declared.synchronizing.SyncTable.{SyncTable}
use Rattle.the_run.specs.Worlds.{Line}
use Rattle.store_laws.specs.of_site_laws.Vectors.Written.{past_of}
use Rattle.store_laws.specs.of_site_laws.Vectors.HistoryCommits.{StampsAreOnce}
use Rattle.tree_laws.specs.Doing.{FrameFact, IsOfTable}
use Rattle.tree_laws.specs.Following.{MayTell}
use Rattle.tree_laws.specs.Frames.{IsFresh, OrderStays}
use Rattle.tree_laws.specs.Printed.{entries, onto_entries}
use Rattle.store_laws.proofs.Holdings.Below.{commits_new, line_fresh, packs_hold}
use Rattle.store_laws.proofs.Holdings.Kept.{kept_stays}
use Rattle.store_laws.proofs.Holdings.Made.{CommitsAreNew}
use Rattle.store_laws.proofs.Holdings.Reports.{report_stays}
use Rattle.store_laws.proofs.Holdings.Rising.{held_rises}
use Rattle.store_laws.proofs.Holdings.OneVersionSingle.{single_stays}
use Rattle.store_laws.proofs.of_tree_laws.Orders.ProcessSynchronizing.{sync_same}
use Rattle.store_laws.specs.of_tree_laws.Syncs.Serving.{Serving}
use Rattle.store_laws.specs.of_tree_laws.Syncs.Staying.{BringsNothing, FilesStay}
use Rattle.store_laws.specs.OneTree.Rest.{Past, more}
use Rattle.store_laws.specs.OneTree.Roles.{TableHere}
use Rattle.store_laws.proofs.OneTree.Staying.{rest_below}
use Rattle.rest_laws.specs.Asking.{OpensAreSaid}
use Rattle.rest_laws.proofs.Premises.{calls_known}

-- ---- a line of a table ----

-- a line of a table commits nothing and joins nothing
record IsTableLine (c : Config) (older : List Line) (n : ℕ) (x : Told) : Type 0 where
  once : StampsAreOnce (x ∷ past_of older)
  fresh : IsFresh c older x
  nothing : BringsNothing c older (more n x older) x

table_record : (c : Config) (older : List Line) (n : ℕ) (f : Frame) (group : ℕ) (r : Record) → IsOfTable f group (Shown r) → StampsAreOnce (past_of older) → IsTableLine c older n (Shown r)
table_record c older n f group (says.Start at g copies) of once = record { once = once; fresh = tt; nothing = tt }
table_record c older n f group (says.Look at call request file what result) of once = record { once = once; fresh = tt; nothing = tt }
table_record c older n f group (says.Grant at call request i m file stamp ss) of once = record { once = once; fresh = tt; nothing = tt }
table_record c older n f group (says.Refuse at call request i m file why) of once = record { once = once; fresh = tt; nothing = tt }
table_record c older n f group (says.Release at i file stamp) of once = record { once = once; fresh = tt; nothing = tt }
table_record c older n f group _ of once = absurd of

table_line : (c : Config) (older : List Line) (n : ℕ) (f : Frame) (group : ℕ) (x : Told) → IsOfTable f group x → StampsAreOnce (past_of older) → IsTableLine c older n x
table_line c older n f group (Shown r) of once = table_record c older n f group r of once
table_line c older n f group _ of once = absurd of

-- the order of versions stays when a line of a new stamp, or of none, is told
order_from : (c : Config) (older : List Line) (n : ℕ) (x : Told) → Past c older → MayTell c older x → StampsAreOnce (x ∷ past_of older) → OrderStays c older (more n x older)
order_from c older n x past may once = record {
  have = λ e site f s k. held_rises c older n x past.followed may (packs_hold c older (rest_below c older past.rest).packed) new e site f s k;
  reports = λ e site group copies k. report_stays c older n x past.followed may (line_fresh c older n x new) e site group copies k;
  kept = λ e d request i m f stamp ss parents granted is. kept_stays c older n x past.rest.packs past.followed may new e d request i m f stamp ss parents granted is;
  single = λ e f started one. single_stays c older n x past.rest.packs past.followed may new e f started one;
}
  where
    new : CommitsAreNew c (onto_entries n x (entries older))
    new = commits_new c (more n x older) (may, past.followed) once

-- so a line of a table leaves what stands of files
pub table_stays : (c : Config) (n : ℕ) (older : List Line) (f : Frame) (group : ℕ) → Past c older → (x : Told) → MayTell c older x → IsOfTable f group x → FilesStay c older (more n x older) x
table_stays c n older f group past x may of =
    let k : IsTableLine c older n x = table_line c older n f group x of (rest_below c older past.rest).once in
    record { stay = record { fresh = k.fresh; order = order_from c older n x past may k.once }; packs = past.rest.packs; nothing = k.nothing }

-- ---- a synchronization site ----

pub serving : (c : Config) (n : ℕ) (trace : List Line) (f : Frame) (t : SyncTable) → Past c trace → FrameFact c trace f → OpensAreSaid c trace → TableHere c trace f t → Serving c n trace f t
serving c n trace f t past frame said here = record {
  followed = past.followed;
  frame = frame;
  serves = subst (λ (o : Option ℕ). o ≡ Some f.me) (sync_same c f.members t.group) (subst (λ (k : Config). role.sync_site k f.members t.group ≡ Some f.me) frame.config_is here.synced);
  table = here.fact;
  calls = calls_known c trace past said;
  stay = λ x may of. table_stays c n trace f t.group past x may of;
}
