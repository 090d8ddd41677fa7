-- What a step makes of the open instances.
use Rattle.std.specs.Prelude.{ℕ, ◌+◌, ◌==◌, ◌&&◌, Bool, true, List, [], length, filter, sum_by, None}
use Rattle.locus_ids.specs.declared.ids.FileId.{FileId}
use Rattle.locus_ids.specs.declared.ids.CallId.{CallId}
use Rattle.locus_ids.specs.declared.ids.Stamp.{Stamp}
use Rattle.locus_ids.specs.declared.ids.Mode.TheVariants.{Read}
use Rattle.commit_graph.specs.Versions.{same_file}
use Rattle.trace_book.specs.Same.{same_call}
use Rattle.operation_effects.specs.of_role_steps.of_file_effects.declared.work.Work.{Work}
use Rattle.operation_effects.specs.of_role_steps.of_file_effects.Works.{begun, committed}
use Rattle.past_laws.specs.of_promises.Past.{Instance}

-- what is left of an instance while an operation works on it
abbrev pub no_work : Work
no_work = begun Read None []

abbrev pub with_work : Work → Instance → Instance
with_work w x = record x { work = w }

abbrev pub once_named : Instance → Instance
once_named x = record x { named = true }

-- a read of a steady descriptor has opened it, which names it and is its first use
abbrev pub held_again : Instance → Instance
held_again x = record x { named = true; again = true; uses = x.uses + 1 }

abbrev pub used_once : Instance → Instance
used_once x = record x { uses = x.uses + 1 }

-- its content is committed as this version
abbrev pub commits : Stamp → Instance → Instance
commits stamp x = with_work (committed stamp x.work) x

-- the call has this file open by it
abbrev pub is_open_by : CallId → FileId → Instance → Bool
is_open_by call f x = same_call x.grant.call call && same_file x.grant.file f

-- an instance of the file
abbrev pub is_of : FileId → Instance → Bool
is_of f x = same_file x.grant.file f

-- an instance of the file at this storage site
abbrev pub is_at : ℕ → FileId → Instance → Bool
is_at site f x = (x.grant.ss == site) && same_file x.grant.file f

-- an instance of the group at this storage site
abbrev pub is_stored_at : ℕ → ℕ → Instance → Bool
is_stored_at group site x = (x.grant.ss == site) && (x.grant.file.group == group)

-- the changed pages of these instances at a storage site
abbrev pub pages_changed : List Instance → ℕ → ℕ → ℕ
pages_changed xs group site = sum_by (λ (x : Instance). length x.work.changed) (filter (is_stored_at group site) xs)
