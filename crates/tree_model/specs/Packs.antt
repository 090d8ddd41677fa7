-- Which sites have a pack of a group, and which site has which role for it among the members of an epoch.
use Rattle.std.specs.Prelude.{ℕ, zero, suc, Bool, false, not, ◌&&◌, ◌||◌, List, Option, None, Some, cond, nat_lt, slice_index_or}
use Rattle.std.specs.List.{find, list_all}
use Rattle.std.specs.Option.{is_some, option_or}
use Rattle.locus_ids.specs.Sites.{has}
use Rattle.locus_ids.specs.declared.sites.Sites.{Sites}
use Rattle.locus_ids.specs.declared.sites.Members.{Members}
use Rattle.locus_ids.specs.declared.config.Config.{Config}
pub use Rattle.commit_graph.specs.Vectors.{all_sites}

-- the least site that passes
abbrev pub least_site : (ℕ → Bool) → Option ℕ
least_site p = find p all_sites

-- every site of the one set is in the other
abbrev pub is_within : Sites → Sites → Bool
is_within a b = list_all (λ site. not (has a site) || has b site) all_sites

abbrev pub no_sites : Sites
no_sites = record { 0 = 0 }

-- the sites that have a pack of the group
abbrev pub packs_of : Config → ℕ → Sites
packs_of c group = slice_index_or c.packs group no_sites

abbrev pub has_pack : Config → ℕ → ℕ → Bool
has_pack c group site = has (packs_of c group) site

abbrev pub boot_in : Members → ℕ → ℕ
boot_in m zero = 0
boot_in m (suc place) = slice_index_or m.boot place 0

-- a site with a boot number is a member
abbrev pub is_member : Members → ℕ → Bool
is_member m site = nat_lt 0 (boot_in m site)

abbrev pub is_member_of : Option Members → ℕ → Bool
is_member_of None site = false
is_member_of (Some m) site = is_member m site

-- the synchronization site of a group: the lowest-numbered member that has a pack of it
abbrev pub sync_site : Config → ℕ → Option Members → Option ℕ
sync_site c group members = least_site (λ site. is_member_of members site && has_pack c group site)

-- Where a file is made.

-- a member that the set has
abbrev pub is_place : Option Members → Sites → ℕ → Bool
is_place members set site = is_member_of members site && has set site

-- every site of the set has a pack of the group, and some member is in it
abbrev pub is_good_set : Config → ℕ → Option Members → Sites → Bool
is_good_set c group members set = is_within set (packs_of c group) && is_some (least_site (is_place members set))

-- the site, where it passes
abbrev pub that_passes : (ℕ → Bool) → Option ℕ → Option ℕ
that_passes p None = None
that_passes p (Some site) = cond (p site) (Some site) None

-- the storage site of a new file for these sites: the call's own site where that is a member in the set, else the
-- synchronization site where it is, else the least such member
abbrev pub making_site_in : Config → ℕ → Option Members → ℕ → Sites → Option ℕ
making_site_in c group members own set =
    option_or (that_passes (is_place members set) (Some own))
    (option_or (that_passes (is_place members set) (sync_site c group members))
    (least_site (is_place members set)))
