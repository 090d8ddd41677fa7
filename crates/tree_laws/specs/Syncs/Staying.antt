-- What a synchronization site has of a group stays while others tell what they do: which lines are of its table, and what the
-- order of versions has to give.
use Rattle.std.specs.Prelude.{ℕ, ◌≡◌, ◌⊎◌, List}
use Rattle.locus_ids.specs.declared.config.Config.{Config}
use Rattle.locus_ids.specs.declared.ids.FileId.{FileId}
use Rattle.trace_book.specs.declared.record.Record.TheVariants as says
use Rattle.role_steps.specs.Views.{Frame, Told, Shown}
use Rattle.the_run.specs.Worlds.{Line}
use Rattle.tree_laws.specs.Frames.{AllStay}
use Rattle.tree_laws.specs.Instances.{IsStarted, held_in}
use Rattle.tree_laws.specs.Printed.{entries}
use Rattle.tree_laws.specs.Orders.Joining.{PacksAreOfSites}

-- What a synchronization site tells of a group in the frame's epoch: that it starts,
abbrev pub Starts : Frame → ℕ → Told → Type 0
Starts f group (Shown (says.Start at g copies)) = (at ≡ f.epoch) × (g ≡ group)
Starts f group _ = ⊥

-- what a look is served,
abbrev pub Looks : Frame → ℕ → Told → Type 0
Looks f group (Shown (says.Look at call request file what result)) = (at ≡ f.epoch) × (file.group ≡ group)
Looks f group _ = ⊥

-- that an open is granted or refused,
abbrev pub Names : Frame → ℕ → Told → Type 0
Names f group (Shown (says.Grant at call request i m file stamp ss)) = (at ≡ f.epoch) × (file.group ≡ group)
Names f group (Shown (says.Refuse at call request i m file why)) = (at ≡ f.epoch) × (file.group ≡ group)
Names f group _ = ⊥

-- and that an instance is released.
abbrev pub Releases : Frame → ℕ → Told → Type 0
Releases f group (Shown (says.Release at i file stamp)) = (at ≡ f.epoch) × (file.group ≡ group)
Releases f group _ = ⊥

-- the site adopts a file of the group, and notes it at once
abbrev pub Adopts : Frame → ℕ → Told → Type 0
Adopts f group (Shown (says.Adopt file site stamp)) = (site ≡ f.me) × (file.group ≡ group)
Adopts f group _ = ⊥

-- what is told changes the table of the group in the frame's epoch
abbrev pub TouchesTable : Frame → ℕ → Told → Type 0
TouchesTable f group x = Starts f group x ⊎ (Looks f group x ⊎ (Names f group x ⊎ (Releases f group x ⊎ Adopts f group x)))

-- a site that joins an epoch brings nothing of a group that has started in it
abbrev pub BringsNothing : Config → List Line → List Line → Told → Type 0
BringsNothing c older new (Shown (says.Join site e members)) = (f : FileId) → IsStarted c older e f.group → held_in c (entries new) e site f ≡ held_in c (entries older) e site f
BringsNothing c older new _ = Unit {0}

-- What tables want of the order of versions, for a line that is added.
pub record FilesStay (c : Config) (older new : List Line) (x : Told) : Type 0 where
  pub stay : AllStay c older new x
  pub packs : PacksAreOfSites c
  pub nothing : BringsNothing c older new x
