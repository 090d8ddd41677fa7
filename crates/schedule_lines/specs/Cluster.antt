-- The cluster that header lines make, and which header line may stand next.
use Rattle.std.specs.Prelude.{ℕ, ◌==◌, Bool, not, ◌&&◌, ◌||◌, List, [], ◌∷◌, ◌++◌, fold, slice_index_or, slice_set}
use Rattle.std.specs.List.{list_any}
use Rattle.std.specs.Str.{bytes_eq}
use Rattle.trace_book.specs.of_locus_ids.Sizes.{sites_max}
use Rattle.trace_book.specs.of_locus_ids.declared.sites.Sites.{Sites}
use Rattle.trace_book.specs.of_locus_ids.declared.config.Config.{Config}
use Rattle.trace_book.specs.Names.{is_name}
use Rattle.schedule_lines.specs.Ranges.{is_between, is_some_sites}
use Rattle.schedule_lines.specs.declared.header.Header.{Header}
use Rattle.schedule_lines.specs.declared.header.HeaderLine.{HeaderLine}
use Rattle.schedule_lines.specs.declared.header.HeaderLine.TheVariants as header
use Rattle.schedule_lines.specs.declared.line.ScheduleLine.{ScheduleLine}
use Rattle.schedule_lines.specs.declared.line.ScheduleLine.TheVariants as line

abbrev pub no_sites : Sites
no_sites = record { 0 = 0 }

-- no site, no pack of any group, and no mount
abbrev pub no_cluster : Config
no_cluster = record { sites = 0; packs = no_sites ∷ no_sites ∷ no_sites ∷ no_sites ∷ []; mounts = [] }

-- the sites that have a pack of the group
abbrev pub packs_of : Config → ℕ → Sites
packs_of c group = slice_index_or c.packs group no_sites

-- a line has said which sites have packs of the group
abbrev pub has_packs : Config → ℕ → Bool
has_packs c group = not ((packs_of c group).0 == 0)

abbrev pub is_mounted : Config → ℕ → Bool
is_mounted c group = list_any (λ m. m.group == group) c.mounts

-- a group is mounted on this name
abbrev pub is_mount_name : Config → List ℕ → Bool
is_mount_name c name = list_any (λ m. bytes_eq m.name name) c.mounts

abbrev pub is_settled : Config → ℕ → Bool
is_settled c group = not (has_packs c group) || is_mounted c group

-- group 0 is there and every other group is mounted, so that event lines, or the end, may follow
abbrev pub is_whole : Config → Bool
is_whole c = has_packs c 0 && is_settled c 1 && is_settled c 2 && is_settled c 3

-- The header line may stand next: the number of sites first and once, each group once, with some of these sites, and
-- each mount once, after its group, on a plain name that no other group is mounted on.
abbrev pub may_join : Config → HeaderLine → Bool
may_join c (header.Sites count) = c.sites == 0 && is_between 1 sites_max count
may_join c (header.Group group set) = is_between 0 3 group && not (has_packs c group) && is_some_sites c.sites set
may_join c (header.Mount group name) = is_between 1 3 group && has_packs c group && not (is_mounted c group) && is_name name && not (is_mount_name c name)

-- the cluster with what the header line says
abbrev pub with_header : Config → HeaderLine → Config
with_header c (header.Sites count) = record c { sites = count }
with_header c (header.Group group set) = record c { packs = slice_set c.packs group set }
with_header c (header.Mount group name) = record c { mounts = c.mounts ++ record { group = group; name = name } ∷ [] }

abbrev pub with_line : Config → ScheduleLine → Config
with_line c line.Passed = c
with_line c (line.Header h) = with_header c h
with_line c (line.Event e) = c

-- the cluster that the lines make
abbrev pub config_of : List ScheduleLine → Config
config_of lines = fold with_line no_cluster lines

-- the header that makes this cluster
abbrev pub header_of : Config → Header
header_of c = record { config = c; whole = is_whole c }
