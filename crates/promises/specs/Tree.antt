-- What the one tree of an epoch and a group gives: what refuses an open, where it is granted, and what an operation does.
use Rattle.std.specs.Prelude.{ℕ, ◌+◌, ◌-◌, ◌==◌, Bool, not, ◌&&◌, cond, nat_lt, nat_le, List, [], ◌∷◌, ◌++◌, take, length, filter, map, sum_by, Option, None, Some}
use Rattle.std.specs.List.{find, list_any}
use Rattle.std.specs.Option.{is_none, option_or}
use Rattle.locus_ids.specs.declared.config.Config.{Config}
use Rattle.locus_ids.specs.declared.sites.Sites.{Sites}
use Rattle.locus_ids.specs.declared.ids.FileId.{FileId}
use Rattle.locus_ids.specs.declared.ids.Stamp.{Stamp}
use Rattle.locus_ids.specs.declared.ids.Mode.{Mode}
use Rattle.locus_ids.specs.declared.ids.Mode.TheVariants as mode
use Rattle.locus_ids.specs.declared.refusal.Refusal.{Refusal}
use Rattle.locus_ids.specs.declared.refusal.Refusal.TheVariants.{NoStorage}
use Rattle.commit_graph.specs.Versions.{same_file, same_stamp, content_of}
use Rattle.locus_ids.specs.Sites.{has}
use Rattle.trace_book.specs.declared.call.Call.{Call}
use Rattle.trace_book.specs.declared.call.Call.TheVariants as call
use Rattle.trace_book.specs.declared.call.OpenMode.TheVariants as how
use Rattle.commit_graph.specs.Counters.{next_number}
use Rattle.commit_graph.specs.Vectors.{vector_of}
use Rattle.commit_graph.specs.Grants.{Opener, grant_refusal}
use Rattle.trace_book.specs.Same.{same_call}
use Rattle.trace_book.specs.declared.operation.Op.{Op}
use Rattle.trace_book.specs.declared.operation.Op.TheVariants as op
use Rattle.trace_book.specs.declared.operation.Outcome.{Outcome}
use Rattle.trace_book.specs.declared.operation.Outcome.TheVariants as outcome
use Rattle.file_content.specs.Pages.{pages_of}
use Rattle.lawful_trace.specs.of_dir_format.Contents.{entries_of}
use Rattle.lawful_trace.specs.of_dir_format.Grammar.{dir_bytes}
use Rattle.lawful_trace.specs.of_dir_reconcile.declared.kept.KeptVector.{KeptVector}
use Rattle.lawful_trace.specs.of_dir_reconcile.Rescues.{rescued, rescue_wanted}
use Rattle.lawful_trace.specs.of_dir_format.declared.entry.Entry.{Entry}
use Rattle.lawful_trace.specs.of_file_effects.Effects.{Deed, As, Removes, Mends, Effect}
use Rattle.lawful_trace.specs.of_file_effects.Works.{counted, aborted, commit_result}
use Rattle.lawful_trace.specs.of_file_effects.declared.work.Work.{Work}
use Rattle.lawful_trace.specs.of_tree_model.declared.instance.Granted.{Granted}
use Rattle.lawful_trace.specs.of_tree_model.Histories.{stamped_content}
use Rattle.lawful_trace.specs.of_tree_model.Mending.{joined_all}
use Rattle.lawful_trace.specs.of_tree_model.Packs.{packs_of, is_within, is_member, all_sites}
use Rattle.promises.specs.Same.{same_list}
use Rattle.lawful_trace.specs.of_tree_model.Same.{same_version}
use Rattle.lawful_trace.specs.of_tree_model.State.{has_stamp}
use Rattle.lawful_trace.specs.of_tree_model.Opening.{sites_made, range_of}
use Rattle.lawful_trace.specs.of_tree_model.Working.{are_several, merges, list_of, max_counter, effect_of, in_room, operated_by}
use Rattle.locus_ids.specs.Sizes.{pack_pages}
use Rattle.promises.specs.Past.{Past, Epoch, Instance, CallSoFar, Copy, Make, held_in, copies_in, kept_in, sync_of, is_number}

-- Makes.

-- the sites that a made file is for, as the call's words say
abbrev pub set_for : Config → ℕ → CallSoFar → Sites
set_for c group k = sites_made (packs_of c group) (Some k.words)

-- the storage site of the file that a call makes: the call's own site where that is a member in the set, else the
-- synchronization site where it is, else the least such member; none where no member is
abbrev pub place_for : Config → Epoch → ℕ → CallSoFar → List ℕ
place_for c t group k = take 1 (filter (λ site. is_member t.members site && has (set_for c group k) site) (k.id.site ∷ sync_of c t group ++ all_sites))

-- the numbers of a site's range that it has files of
abbrev pub numbers_used : Past → Epoch → ℕ → ℕ → List Copy
numbers_used p t group site = filter (λ (v : Copy). (v.file.group == group) && is_number (range_of site) v.file.ino) (copies_in p t site)

-- the make is underway in the group, and its file is for this site to store
abbrev pub is_underway_at : Config → Past → Epoch → ℕ → ℕ → Make → Bool
is_underway_at c p t group site m = (m.group == group) && list_any (λ (k : CallSoFar). same_call k.id m.call && is_number (place_for c t group k) site) p.calls

-- the numbers in use and the makes underway are as many as the site has numbers, at least
abbrev pub lacks_numbers : Config → Past → Epoch → ℕ → ℕ → Bool
lacks_numbers c p t group site = nat_le (length (range_of site)) (length (numbers_used p t group site) + length (filter (is_underway_at c p t group site) t.makes))

-- Opens.

abbrev pub opener_of : Instance → Opener
opener_of x = record { site = x.grant.call.site; process = x.grant.process; mode = x.grant.mode }

-- the open instances of a file, as they exclude others, the earliest granted first
abbrev pub openers : Epoch → FileId → List Opener
openers t f = map opener_of (filter (λ (x : Instance). same_file x.grant.file f) t.opened)

-- the site that the call names to settle a conflict by its version
abbrev pub resolves_from : Call → List ℕ
resolves_from (call.Open path (how.Resolve site)) = site ∷ []
resolves_from _ = []

-- the site has a kept version of the file
abbrev pub has_kept : Past → Epoch → FileId → ℕ → Bool
has_kept p t f site = list_any (λ (v : Copy). same_file v.file f && has_stamp (kept_in p t f) v.stamp) (copies_in p t site)

-- what refuses an open besides the open instances and the kept versions: a resolution from a site without a kept version,
-- and a make for a site without a pack or for no member
abbrev pub place_refusal : Config → Past → Epoch → CallSoFar → Mode → FileId → Option Refusal
place_refusal c p t k mode.Resolve f = cond (list_any (has_kept p t f) (resolves_from k.words)) None (Some NoStorage)
place_refusal c p t k mode.Make f = cond (is_within (set_for c f.group k) (packs_of c f.group) && nat_lt 0 (length (place_for c t f.group k))) None (Some NoStorage)
place_refusal c p t k _ f = None

-- the first that refuses an open, or none: a make's file isn't there yet, so no instance excludes it
abbrev pub open_refusal : Config → Past → Epoch → CallSoFar → Mode → FileId → Option Refusal
open_refusal c p t k mode.Make f = place_refusal c p t k mode.Make f
open_refusal c p t k m f = option_or (grant_refusal m (openers t f) (kept_in p t f)) (place_refusal c p t k m f)

-- the number is one of the storage site's, and no file and no instance has it
abbrev pub is_new_at : Past → Epoch → FileId → ℕ → Bool
is_new_at p t f ss = is_number (range_of ss) f.ino && (nat_lt 1 f.ino && (is_none (held_in p t ss f) && not (list_any (λ (g : Granted). same_file g.file f) t.granted)))

-- The open may be granted at this storage site, on this version: a read or a write where the only kept one is, a resolution at the
-- site that it names and a mend at the synchronization site, on what they have, and a make as a new file.
abbrev pub is_placed : Config → Past → Epoch → CallSoFar → Mode → FileId → Option Stamp → ℕ → Bool
is_placed c p t k mode.Read f stamp ss = same_list same_stamp (kept_in p t f) (list_of stamp) && same_version (held_in p t ss f) stamp
is_placed c p t k mode.Write f stamp ss = same_list same_stamp (kept_in p t f) (list_of stamp) && same_version (held_in p t ss f) stamp
is_placed c p t k mode.Resolve f stamp ss = is_number (resolves_from k.words) ss && same_version (held_in p t ss f) stamp
is_placed c p t k mode.Mend f stamp ss = is_number (sync_of c t f.group) ss && same_version (held_in p t ss f) stamp
is_placed c p t k mode.Make f stamp ss = is_number (place_for c t f.group k) ss && (is_new_at p t f ss && is_none stamp)

-- Mends.

-- the vectors of the kept versions of all files of a group
abbrev pub kept_vectors : Past → Epoch → ℕ → List KeptVector
kept_vectors p t group = map
    (λ (v : Copy). record { ino = v.file.ino; vector = vector_of p.history v.file v.stamp })
    (filter (λ (v : Copy). (v.file.group == group) && has_stamp (kept_in p t v.file) v.stamp) t.known)

-- the join of the kept versions of a directory
abbrev pub join_of_kept : Past → Epoch → FileId → List Entry
join_of_kept p t f = joined_all (map (λ s. entries_of (content_of p.history f s)) (kept_in p t f))

-- the content that a mend makes of the directory: the join with its rescues
abbrev pub mended : Past → Epoch → FileId → List ℕ
mended p t f = dir_bytes (rescued (join_of_kept p t f) (kept_vectors p t f.group))

-- a file of the directory wants to live again
abbrev pub wants_rescue : Past → Epoch → FileId → Bool
wants_rescue p t f = rescue_wanted (join_of_kept p t f) (kept_vectors p t f.group)

-- Operations.

-- the instance by which the same call has the file open that is removed
abbrev pub is_target : Instance → ℕ → Instance → Bool
is_target x ino y = same_call y.grant.call x.grant.call && same_file y.grant.file (record { group = x.grant.file.group; ino = ino })

-- a remove sees the written vector of the version that this instance stands on
abbrev pub removes : List ℕ → ℕ → Past → Option Instance → Option Deed
removes name ino p None = None
removes name ino p (Some y) = removes_seeing y.work.last
  where
    removes_seeing : Option Stamp → Option Deed
    removes_seeing None = None
    removes_seeing (Some s) = Some (Removes name ino (vector_of p.history y.grant.file s))

-- the operation with what the tree adds to its words, or none where it isn't lawful
abbrev pub deed_of : Past → Epoch → Op → Instance → Option Deed
deed_of p t (op.Remove name ino) x = removes name ino p (find (is_target x ino) t.opened)
deed_of p t op.Mend x = Some (Mends (are_several (kept_in p t x.grant.file)) (mended p t x.grant.file))
deed_of p t o x = Some (As o)

-- what the operation does on the working content of the instance, or none where it isn't lawful
abbrev pub effect_on : Past → Epoch → Op → Instance → Option Effect
effect_on p t o x = effect_of (deed_of p t o x) x.work.content

-- the pages of the files of the group that a site has in the epoch
abbrev pub held_pages : Past → Epoch → ℕ → ℕ → ℕ
held_pages p t group site = sum_by (λ (v : Copy). pages_of (length (content_of p.history v.file v.stamp))) (filter (λ (v : Copy). v.file.group == group) (copies_in p t site))

-- the changed pages of the open instances of the group there
abbrev pub changed_pages : Epoch → ℕ → ℕ → ℕ
changed_pages t group site = sum_by (λ (x : Instance). length x.work.changed) (filter (λ (x : Instance). (x.grant.ss == site) && (x.grant.file.group == group)) t.opened)

abbrev pub free_pages : Past → Epoch → ℕ → ℕ → ℕ
free_pages p t group site = pack_pages - (held_pages p t group site + changed_pages t group site)

-- the parents of a commit: the last version, or for the first commit of a merge all kept versions
abbrev pub parents_of : Past → Epoch → Instance → List Stamp
parents_of p t x = cond (merges x.grant.mode && is_none x.work.committed) (kept_in p t x.grant.file) (list_of x.work.last)

-- the counter that a commit must raise has its greatest value
abbrev pub is_spent : Past → Epoch → Instance → Bool
is_spent p t x = nat_lt max_counter (next_number p.history x.grant.file (parents_of p t x) x.grant.ss)

-- what an operation gives on an open instance, or none where it isn't lawful
abbrev pub result_on : Past → Epoch → Op → Instance → Option Outcome
result_on p t op.Commit x = commit_result (is_spent p t x) x.work
result_on p t op.Abort x = Some outcome.Done
result_on p t o x = in_room (free_pages p t x.grant.file.group x.grant.ss) x.work.changed (effect_on p t o x)

-- what becomes of the instance by an operation with this result
abbrev pub work_after : Past → Epoch → Op → Outcome → Instance → Work
work_after p t op.Commit result x = counted x.work
work_after p t op.Abort result x = aborted x.grant.mode (stamped_content p.history x.grant.file x.work.last) x.work
work_after p t o result x = operated_by result (effect_on p t o x) x.work
