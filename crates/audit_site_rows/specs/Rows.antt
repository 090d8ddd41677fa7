-- Rows of records that no call asks for, by the parts of the past that they hang on.
use Rattle.std.specs.Prelude.{ℕ, ◌≤◌, ◌==◌, Bool, not, ◌&&◌, ◌||◌, List, length, filter}
use Rattle.std.specs.List.{list_all, list_any}
use Rattle.locus_ids.specs.declared.ids.EpochId.{EpochId}
use Rattle.locus_ids.specs.declared.ids.FileId.{FileId}
use Rattle.locus_ids.specs.declared.ids.Stamp.{Stamp}
use Rattle.locus_ids.specs.Sites.{has}
use Rattle.commit_graph.specs.declared.history.Version.{Version}
use Rattle.commit_graph.specs.Versions.{same_file, same_stamp, is_proper_ancestor}
use Rattle.commit_graph.specs.Counters.{next_number}
use Rattle.tree_model.specs.State.{has_stamp}
use Rattle.promises.specs.Past.{Copy, Epoch, Instance, Past, candidates, first_or, making_of, unformed}
use Rattle.promises.specs.After.{is_epoch}
use Rattle.promises.specs.Rows.{is_above_held, is_the_one, is_writing}
use Rattle.promises.specs.Tree.{parents_of}
use Rattle.audit_row_parts.specs.Parts.{commits_so}

-- each epoch is there once
abbrev pub AreApart : List Epoch → Type 0
AreApart epochs = (e : EpochId) → length (filter (is_epoch e) epochs) ≤ 1

-- the epoch of this name, or one that nobody has joined
abbrev pub epoch_of : List Epoch → EpochId → Epoch
epoch_of epochs e = first_or (unformed e) (is_epoch e) epochs

-- what one has of the file is a proper ancestor of the version
abbrev pub are_below : List Version → FileId → Stamp → List Copy → Bool
are_below h f stamp copies = list_all (λ (v : Copy). not (same_file v.file f) || is_proper_ancestor h f v.stamp stamp) copies

-- a site that is in the epoch may adopt this
abbrev pub adopts : Past → FileId → ℕ → Stamp → Epoch → Bool
adopts p f site stamp t =
    has_stamp (candidates t f) stamp
    && (has (making_of p f).set site
    && (is_above_held p site f stamp
    && not (list_any (λ (x : Instance). (x.grant.ss == site) && same_file x.grant.file f) t.opened)))

-- an open instance of the epoch of a site commits this there
abbrev pub commits_in : Past → FileId → ℕ → Stamp → List Stamp → List ℕ → Epoch → Bool
commits_in p f site stamp parents content t = is_the_one
    (λ (x : Instance). commits_so site parents content (parents_of p t x) (same_stamp stamp (record { site = site; n = next_number p.history f parents site })) x)
    (filter (is_writing f) t.opened)
