-- Parts of the rules of records, over the one part of the past that each hangs on.
use Rattle.std.specs.Prelude.{ℕ, ◌==◌, Bool, not, ◌&&◌, ◌||◌, List, [], ◌∷◌, filter, map, take, Option, None, Some}
use Rattle.std.specs.List.{list_all, list_any}
use Rattle.std.specs.Str.{bytes_eq}
use Rattle.locus_ids.specs.declared.config.Config.{Config}
use Rattle.locus_ids.specs.declared.sites.Members.{Members}
use Rattle.locus_ids.specs.declared.ids.EpochId.{EpochId}
use Rattle.locus_ids.specs.declared.ids.FileId.{FileId}
use Rattle.locus_ids.specs.declared.ids.Stamp.{Stamp}
use Rattle.locus_ids.specs.declared.ids.Brought.{Brought}
use Rattle.commit_graph.specs.Versions.{same_file, same_stamp}
use Rattle.tree_model.specs.Epochs.{is_epoch_below}
use Rattle.tree_model.specs.Packs.{all_sites, has_pack, is_member}
use Rattle.tree_model.specs.Same.{same_version}
use Rattle.tree_model.specs.Working.{list_of}
use Rattle.role_steps.specs.of_file_effects.declared.work.Work.{Work}
use Rattle.promises.specs.Past.{Copy, Instance, Site, is_number}
use Rattle.promises.specs.Same.{same_list}

-- the site is above all that it joined in this boot
abbrev pub is_above_joined : Site → EpochId → Bool
is_above_joined s e = list_all (λ last. is_epoch_below last e) (list_of s.joined)

-- the members that have a pack of the group, ascending
abbrev pub packing_among : Config → Members → ℕ → List ℕ
packing_among c members group = filter (λ site. is_member members site && has_pack c group site) all_sites

-- the synchronization site of the group is one of these
abbrev pub is_synced_among : Config → Members → List ℕ → ℕ → Bool
is_synced_among c members joined group = list_any (is_number joined) (take 1 (packing_among c members group))

-- all members with a pack of the group are among these
abbrev pub are_joined_among : Config → Members → List ℕ → ℕ → Bool
are_joined_among c members joined group = list_all (is_number joined) (packing_among c members group)

-- versions of a group, as a start tells them
abbrev pub brought_of : List Copy → List Brought
brought_of copies = map (λ (v : Copy). record { ino = v.file.ino; stamp = v.stamp }) copies

-- the only one of a list; none where there are none or several
abbrev pub only_of : {X : Type 0} → List X → Option X
only_of (x ∷ []) = Some x
only_of _ = None

-- what has become of an instance owes a commit of this content, which stands on these parents, where its stamp is the right one
abbrev pub commits_work : List Stamp → List ℕ → List Stamp → (stamped : Bool) → Work → Bool
commits_work parents content stands_on stamped w =
    w.owes && (bytes_eq content w.content && (same_list same_stamp parents stands_on && stamped))

-- the instance does so at this site
abbrev pub commits_so : ℕ → List Stamp → List ℕ → List Stamp → (stamped : Bool) → Instance → Bool
commits_so site parents content stands_on stamped x = (x.grant.ss == site) && commits_work parents content stands_on stamped x.work

-- the instance may end, where a counter that it must raise has its greatest value or not
abbrev pub may_end : FileId → Option Stamp → (spent : Bool) → Instance → Bool
may_end f stamp spent x = same_file x.grant.file f && (same_version stamp x.work.committed && (not x.work.owes || spent))
