-- Where a make goes: the table's choice is the tree's.
use Rattle.std.specs.Prelude.{ℕ, ◌≡◌, ◌<◌, ◌==◌, cond, List, Option, None}
use Rattle.locus_ids.specs.Sites.{both}
use Rattle.locus_ids.specs.declared.config.Config.{Config}
use Rattle.locus_ids.specs.declared.ids.CallId.{CallId}
use Rattle.locus_ids.specs.declared.ids.EpochId.{EpochId}
use Rattle.locus_ids.specs.declared.ids.FileId.{FileId}
use Rattle.locus_ids.specs.declared.ids.Kind.{Kind}
use Rattle.locus_ids.specs.declared.sites.Members.{Members}
use Rattle.locus_ids.specs.declared.sites.Sites.{Sites}
use Rattle.locus_ids.specs.Sizes.{set_span}
use Rattle.wire_messages.specs.declared.body.Opening.TheVariants as how
use Rattle.role_steps.specs.Versions.{chosen_site}
use Rattle.role_steps.specs.Views.{Frame, members_of, pack_sites}
use Rattle.the_run.specs.Worlds.{Line}
use Rattle.tree_model.specs.Opening.{making_set}
use Rattle.tree_model.specs.Packs.{is_good_set, making_site_in}
use Rattle.tree_model.specs.Tree.{tree_of}
use Rattle.tree_laws.specs.Instances.{AsksOpen}
use Rattle.tree_laws.specs.Printed.{entries}

-- where a table has a file made for these sites, if anywhere
abbrev pub table_place : Frame → ℕ → ℕ → Sites → Option ℕ
table_place f group us set = cond ((both set (pack_sites f.config group)).0 == set.0) (chosen_site us f.me (members_of f.members set)) None

-- where the tree has it made
abbrev pub tree_place : Config → ℕ → Option Members → ℕ → Sites → Option ℕ
tree_place c group members own set = cond (is_good_set c group members set) (making_site_in c group members own set) None

-- makes are asked as the words of their calls say, for some of the sixteen sites
pub record MakesAreSaid (c : Config) (trace : List Line) : Type 0 where
  pub said : (e : EpochId) (d : CallId) (request serial : ℕ) (file : FileId) (set : Sites) (k : Kind) → AsksOpen c trace e d request serial file (how.Make set k) → making_set (tree_of c e file.group (entries trace)) d ≡ set
  pub fits : (e : EpochId) (d : CallId) (request serial : ℕ) (file : FileId) (set : Sites) (k : Kind) → AsksOpen c trace e d request serial file (how.Make set k) → set.0 < set_span
