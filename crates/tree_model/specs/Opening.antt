-- What refuses an open, and where it is granted.
use Rattle.std.specs.Prelude.{ℕ, ◌+◌, ◌-◌, ◌*◌, ◌==◌, Bool, false, not, ◌&&◌, List, [], ◌∷◌, length, filter, Option, None, Some, cond, nat_lt, nat_le}
use Rattle.std.specs.Option.{is_none, is_some, option_or}
use Rattle.locus_ids.specs.declared.sites.Sites.{Sites}
use Rattle.locus_ids.specs.declared.ids.FileId.{FileId}
use Rattle.locus_ids.specs.declared.ids.Stamp.{Stamp}
use Rattle.locus_ids.specs.declared.ids.CallId.{CallId}
use Rattle.locus_ids.specs.declared.ids.Mode.{Mode}
use Rattle.locus_ids.specs.declared.ids.Mode.TheVariants as mode
use Rattle.locus_ids.specs.declared.refusal.Refusal.{Refusal}
use Rattle.locus_ids.specs.declared.refusal.Refusal.TheVariants.{NoStorage}
use Rattle.locus_ids.specs.Sizes.{site_inodes}
use Rattle.commit_graph.specs.declared.history.Version.{Version}
use Rattle.commit_graph.specs.Versions.{same_stamp}
use Rattle.commit_graph.specs.Vectors.{numbers_from}
use Rattle.commit_graph.specs.Grants.{grant_refusal}
use Rattle.dir_reconcile.specs.of_trace_book.declared.call.Call.{Call}
use Rattle.dir_reconcile.specs.of_trace_book.declared.call.Call.TheVariants as call
use Rattle.dir_reconcile.specs.of_trace_book.declared.call.OpenMode.TheVariants as how
use Rattle.tree_model.specs.Same.{same_version}
use Rattle.tree_model.specs.Packs.{packs_of, is_good_set, making_site_in, sync_site}
use Rattle.tree_model.specs.State.{TreeState, held_at, kept_of, has_stamp_of, call_in, words_of, is_taken, openers}

-- What the words of a call say.

-- the site from whose version a call resolves
abbrev pub site_named : Option Call → Option ℕ
site_named (Some (call.Open path (how.Resolve site))) = Some site
site_named _ = None

-- the sites that a new file is for: those that the call gives, or all that have a pack of the group
abbrev pub sites_made : Sites → Option Call → Sites
sites_made packs (Some (call.Create path (Some sites))) = sites
sites_made packs _ = packs

abbrev pub words_in : TreeState → CallId → Option Call
words_in t call = words_of (call_in t.calls call)

abbrev pub resolving_site : TreeState → CallId → Option ℕ
resolving_site t call = site_named (words_in t call)

abbrev pub making_set : TreeState → CallId → Sites
making_set t call = sites_made (packs_of t.config t.group) (words_in t call)

-- the storage site of the file that a call makes
abbrev pub making_site : TreeState → CallId → Option ℕ
making_site t call = making_site_in t.config t.group t.members call.site (making_set t call)

-- Refusals.

abbrev pub held_by : TreeState → Option ℕ → ℕ → Option Stamp
held_by t None ino = None
held_by t (Some site) ino = held_at t site ino

-- what refuses an open besides the open instances and the kept versions: a resolution from a site that has no kept
-- version, and a make for a site without a pack, or for no member
abbrev pub place_refusal : List Version → TreeState → Mode → CallId → FileId → Option Refusal
place_refusal h t mode.Resolve call f = cond (has_stamp_of (kept_of h t f) (held_by t (resolving_site t call) f.ino)) None (Some NoStorage)
place_refusal h t mode.Make call f = cond (is_good_set t.config t.group t.members (making_set t call)) None (Some NoStorage)
place_refusal h t _ call f = None

-- the first that refuses an open, or none: a make's file isn't there yet, so no instance excludes it
abbrev pub open_refusal : List Version → TreeState → Mode → CallId → FileId → Option Refusal
open_refusal h t mode.Make call f = place_refusal h t mode.Make call f
open_refusal h t mode call f = option_or (grant_refusal mode (openers t f) (kept_of h t f)) (place_refusal h t mode call f)

-- Numbers of new files.

-- the numbers that the site gives to new files of a group
abbrev pub range_of : ℕ → List ℕ
range_of site = numbers_from (site_inodes * (site - 1) + 1) site_inodes

-- a number that the site may give to a new file; number 1 is the root's
abbrev pub is_given_by : ℕ → ℕ → Bool
is_given_by site ino = nat_lt (site_inodes * site) (ino + site_inodes) && (nat_le ino (site_inodes * site) && nat_lt 1 ino)

-- how many numbers of its range the site has files of
abbrev pub numbers_used : TreeState → ℕ → ℕ
numbers_used t site = length (filter (λ ino. is_some (held_at t site ino)) (range_of site))

abbrev pub is_site : Option ℕ → ℕ → Bool
is_site None site = false
is_site (Some s) site = s == site

-- the makes underway whose files this site is to store
abbrev pub makes_at : TreeState → ℕ → List CallId
makes_at t site = filter (λ call. is_site (making_site t call) site) t.makes

-- the numbers of a storage site, in use or wanted by makes that are underway, are as many as it has at least
abbrev pub lacks_numbers : TreeState → Option ℕ → Bool
lacks_numbers t None = false
lacks_numbers t (Some site) = nat_le site_inodes (numbers_used t site + length (makes_at t site))

-- Grants.

-- the version is the only one of these
abbrev pub is_only : List Stamp → Option Stamp → Bool
is_only (a ∷ []) (Some s) = same_stamp a s
is_only _ _ = false

-- a make is granted a new number of its storage site, which has no file and no instance of that number
abbrev pub is_new_file : TreeState → CallId → FileId → ℕ → Bool
is_new_file t call f ss = is_site (making_site t call) ss && (is_given_by ss f.ino && (is_none (held_at t ss f.ino) && not (is_taken t f)))

-- where an open is granted, and on which version: a read or write at a site that has the only kept one, a resolution at
-- the site that it names, a mend at the synchronization site, with what that site has
abbrev pub is_placed : List Version → TreeState → CallId → Mode → FileId → Option Stamp → ℕ → Bool
is_placed h t call mode.Read f stamp ss = is_only (kept_of h t f) stamp && same_version (held_at t ss f.ino) stamp
is_placed h t call mode.Write f stamp ss = is_only (kept_of h t f) stamp && same_version (held_at t ss f.ino) stamp
is_placed h t call mode.Resolve f stamp ss = is_site (resolving_site t call) ss && same_version (held_at t ss f.ino) stamp
is_placed h t call mode.Mend f stamp ss = is_site (sync_site t.config t.group t.members) ss && same_version (held_at t ss f.ino) stamp
is_placed h t call mode.Make f stamp ss = is_new_file t call f ss && is_none stamp
