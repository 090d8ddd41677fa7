-- The locks that a synchronization site gives: which of its rows may be open side by side.
use Rattle.std.specs.Prelude.{ℕ, ◌≡◌, true, List, [], ◌∷◌, Some}
use Rattle.locus_ids.specs.declared.ids.Mode.{Mode}
use Rattle.locus_ids.specs.declared.ids.Mode.TheVariants as mode
use Rattle.commit_graph.specs.Versions.{same_file}
use Rattle.commit_graph.specs.Grants.{is_read}
use Rattle.role_steps.specs.Own.{Every}
use Rattle.role_steps.specs.Views.{SiteView}
use Rattle.role_steps.specs.Opens.{is_open_stage}
use Rattle.role_steps.specs.declared.synchronizing.SyncTable.{SyncTable}
use Rattle.role_steps.specs.declared.synchronizing.OpenRow.{OpenRow}
use Rattle.the_run.specs.Worlds.{World, Running, place_at}

-- a make has no file before it has a number
abbrev pub IsOfAFile : Mode → Type 0
IsOfAFile mode.Make = ⊥
IsOfAFile _ = Unit {0}

-- of two open rows of one file that aren't makes both only read
abbrev pub Apart : OpenRow → OpenRow → Type 0
Apart r q = IsOfAFile r.mode → IsOfAFile q.mode → is_open_stage r.stage ≡ true → is_open_stage q.stage ≡ true → same_file r.file q.file ≡ true → (is_read r.mode ≡ true) × (is_read q.mode ≡ true)

abbrev pub AllApart : List OpenRow → Type 0
AllApart [] = Unit {0}
AllApart (r ∷ rs) = Every (Apart r) rs × AllApart rs

-- so it is in each table of each running site
abbrev pub TablesAreLocked : World → Type 0
TablesAreLocked w = (s : ℕ) (v : SiteView) → place_at w s ≡ Some (Running v) → Every (λ (t : SyncTable). AllApart t.opens) v.tables
