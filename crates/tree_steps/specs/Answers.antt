-- Parts of what a tree gives and of what becomes of it, over lists.
use Rattle.std.specs.Prelude.{ℕ, ◌==◌, List, Option, None, Some, map, filter}
use Rattle.locus_ids.specs.declared.ids.FileId.{FileId}
use Rattle.locus_ids.specs.declared.ids.Mode.{Mode}
use Rattle.locus_ids.specs.declared.refusal.Refusal.{Refusal}
use Rattle.locus_ids.specs.declared.refusal.Refusal.TheVariants.{Busy}
use Rattle.commit_graph.specs.Versions.{same_file}
use Rattle.commit_graph.specs.Grants.{Opener, excluder}
use Rattle.locus_ids.specs.declared.ids.Brought.{Brought}
use Rattle.tree_model.specs.declared.copy.HeldCopy.{HeldCopy}
use Rattle.tree_model.specs.declared.instance.Instance.{Instance}
use Rattle.tree_model.specs.State.{TreeState, opener_of, with_all}
use Rattle.tree_model.specs.Tree.{with_root}

-- the refusal by the instance that excludes an open
abbrev pub busy_by : Option Opener → Option Refusal
busy_by None = None
busy_by (Some o) = Some (Busy o.site o.process)

-- the refusal by the earliest of these instances that excludes an open of the file
abbrev pub busy_among : Mode → FileId → List Instance → Option Refusal
busy_among mode f xs = busy_by (excluder mode (map opener_of (filter (λ (x : Instance). same_file x.grant.file f) xs)))

-- the known versions, with those that a site has, and the root directory of the format where it stands
abbrev pub brought_with : TreeState → ℕ → List Brought
brought_with t site = with_all (filter (λ (c : HeldCopy). c.site == site) (with_root t site)) t.known
