-- What the tree of an epoch gives, by those parts of the past alone that it hangs on.
use Rattle.std.specs.Prelude.{ℕ, ◌+◌, ◌-◌, ◌*◌, ◌==◌, Bool, ◌&&◌, cond, nat_le, nat_lt, List, ◌∷◌, ◌++◌, length, filter, take, Option, None, Some}
use Rattle.std.specs.List.{list_any}
use Rattle.locus_ids.specs.declared.config.Config.{Config}
use Rattle.locus_ids.specs.declared.sites.Sites.{Sites}
use Rattle.locus_ids.specs.declared.sites.Members.{Members}
use Rattle.locus_ids.specs.declared.ids.FileId.{FileId}
use Rattle.locus_ids.specs.declared.ids.Stamp.{Stamp}
use Rattle.locus_ids.specs.declared.refusal.Refusal.{Refusal}
use Rattle.locus_ids.specs.declared.refusal.Refusal.TheVariants.{NoStorage}
use Rattle.locus_ids.specs.Sites.{has}
use Rattle.commit_graph.specs.Versions.{same_file}
use Rattle.trace_book.specs.declared.call.Call.{Call}
use Rattle.locus_ids.specs.Sizes.{site_inodes}
use Rattle.tree_model.specs.Opening.{sites_made}
use Rattle.tree_model.specs.Packs.{all_sites, has_pack, is_member, is_within, packs_of}
use Rattle.tree_model.specs.State.{has_stamp}
use Rattle.promises.specs.Past.{Copy}

-- the synchronization site of a group among these members; none where there is none
abbrev pub sync_in : Config → Members → ℕ → List ℕ
sync_in c members group = take 1 (filter (λ site. is_member members site && has_pack c group site) all_sites)

-- the sites that a file is for which a call with these words makes in the group
abbrev pub set_in : Config → ℕ → Call → Sites
set_in c group words = sites_made (packs_of c group) (Some words)

-- the storage site of a file that such a call of this site makes
abbrev pub place_in : Config → Members → (group own : ℕ) → Call → List ℕ
place_in c members group own words = take 1 (filter (λ site. is_member members site && has (set_in c group words) site) (own ∷ sync_in c members group ++ all_sites))

-- why such a make is refused, or none
abbrev pub make_refusal_in : Config → Members → (group own : ℕ) → Call → Option Refusal
make_refusal_in c members group own words = cond (is_within (set_in c group words) (packs_of c group) && nat_lt 0 (length (place_in c members group own words))) None (Some NoStorage)

-- one of these versions of the file is kept
abbrev pub has_kept_among : FileId → List Stamp → List Copy → Bool
has_kept_among f kept copies = list_any (λ (v : Copy). same_file v.file f && has_stamp kept v.stamp) copies

-- the number is one of those that the site gives to files: is_number (range_of site), without the list of them
abbrev pub is_given : (site ino : ℕ) → Bool
is_given site ino = nat_lt (site_inodes * (site - 1)) ino && nat_le ino (site_inodes * (site - 1) + site_inodes)

-- those of these files of the group that have numbers of the site
abbrev pub used_among : (group site : ℕ) → List Copy → List Copy
used_among group site copies = filter (λ (v : Copy). (v.file.group == group) && is_given site v.file.ino) copies
