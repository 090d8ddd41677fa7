-- What an operation gives on an open instance of a tree, and what becomes of the instance.
use Rattle.std.specs.Prelude.{ℕ, ◌+◌, ◌-◌, ◌==◌, Bool, true, false, ◌&&◌, cond, nat_lt, List, [], ◌∷◌, length, filter, Option, None, Some, sum_by}
use Rattle.std.specs.List.{find}
use Rattle.std.specs.Option.{is_none}
use Rattle.locus_ids.specs.declared.ids.Stamp.{Stamp}
use Rattle.locus_ids.specs.declared.ids.CallId.{CallId}
use Rattle.locus_ids.specs.declared.ids.Mode.{Mode}
use Rattle.locus_ids.specs.declared.ids.Mode.TheVariants as mode
use Rattle.locus_ids.specs.Sizes.{pack_pages}
use Rattle.commit_graph.specs.declared.history.Version.{Version}
use Rattle.commit_graph.specs.Counters.{next_number}
use Rattle.commit_graph.specs.Vectors.{vector_of}
use Rattle.dir_reconcile.specs.of_trace_book.Same.{same_call}
use Rattle.dir_reconcile.specs.of_trace_book.declared.operation.Op.{Op}
use Rattle.dir_reconcile.specs.of_trace_book.declared.operation.Op.TheVariants as op
use Rattle.dir_reconcile.specs.of_trace_book.declared.operation.Outcome.{Outcome}
use Rattle.dir_reconcile.specs.of_trace_book.declared.operation.Outcome.TheVariants as outcome
use Rattle.file_effects.specs.of_file_content.Pages.{pages_of}
use Rattle.file_effects.specs.Effects.{Deed, As, Removes, Mends, Effect, effect}
use Rattle.file_effects.specs.Works.{result_in, counted, operated, aborted, commit_result}
use Rattle.file_effects.specs.declared.work.Work.{Work}
use Rattle.tree_model.specs.declared.copy.HeldCopy.{HeldCopy}
use Rattle.tree_model.specs.declared.instance.Instance.{Instance}
use Rattle.tree_model.specs.Histories.{stamped_content}
use Rattle.tree_model.specs.State.{TreeState, kept_of}
use Rattle.tree_model.specs.Mending.{joined_content}

-- What an operation needs besides its words.

-- the open instance that the same call has of the inode
abbrev pub is_target : CallId → ℕ → Instance → Bool
is_target call ino x = same_call x.grant.call call && (x.grant.file.ino == ino)

-- a remove sees the written vector of the version on which the target's instance stands
abbrev pub sees : List Version → List ℕ → ℕ → Option Instance → Option Deed
sees h name ino None = None
sees h name ino (Some x) = seen_from x.work.last
  where
    seen_from : Option Stamp → Option Deed
    seen_from None = None
    seen_from (Some s) = Some (Removes name ino (vector_of h x.grant.file s))

abbrev pub are_several : List Stamp → Bool
are_several stamps = nat_lt 1 (length stamps)

-- the operation with what the tree adds to its words, or none where it isn't lawful
abbrev pub deed_of : List Version → TreeState → Op → Instance → Option Deed
deed_of h t (op.Remove name ino) x = sees h name ino (find (is_target x.grant.call ino) t.instances)
deed_of h t op.Mend x = Some (Mends (are_several (kept_of h t x.grant.file)) (joined_content h t x.grant.file))
deed_of h t o x = Some (As o)

abbrev pub effect_of : Option Deed → List ℕ → Option Effect
effect_of None content = None
effect_of (Some d) content = effect d content

abbrev pub effect_on : List Version → TreeState → Op → Instance → Option Effect
effect_on h t o x = effect_of (deed_of h t o x) x.work.content

-- Room.

-- the pages of the version that a site has in the epoch
abbrev pub pages_of_copy : List Version → ℕ → HeldCopy → ℕ
pages_of_copy h group c = pages_of (length (stamped_content h (record { group = group; ino = c.ino }) c.held))

-- the pages of all files of the group that the site has in the epoch
abbrev pub held_pages : List Version → TreeState → ℕ → ℕ
held_pages h t site = sum_by (pages_of_copy h t.group) (filter (λ (c : HeldCopy). c.site == site) t.copies)

-- the changed pages of the open instances there
abbrev pub changed_pages : TreeState → ℕ → ℕ
changed_pages t site = sum_by (λ (x : Instance). length x.work.changed) (filter (λ (x : Instance). x.grant.ss == site) t.instances)

-- the pages that are free for the group at a site
abbrev pub free_pages : List Version → TreeState → ℕ → ℕ
free_pages h t site = pack_pages - (held_pages h t site + changed_pages t site)

-- Commits.

abbrev pub merges : Mode → Bool
merges mode.Resolve = true
merges mode.Mend = true
merges mode.Read = false
merges mode.Write = false
merges mode.Make = false

abbrev pub list_of : {X : Type 0} → Option X → List X
list_of None = []
list_of (Some x) = x ∷ []

-- the parents of a commit: the last version, or for the first commit of a merge all kept versions
abbrev pub parents_of : List Version → TreeState → Instance → List Stamp
parents_of h t x = cond (merges x.grant.mode && is_none x.work.committed) (kept_of h t x.grant.file) (list_of x.work.last)

-- the greatest value of a counter
abbrev pub max_counter : ℕ
max_counter = 4294967295

-- the counter that a commit of the instance must raise can't rise
abbrev pub is_spent : List Version → TreeState → Instance → Bool
is_spent h t x = nat_lt max_counter (next_number h x.grant.file (parents_of h t x) x.grant.ss)

-- Operations.

abbrev pub in_room : ℕ → List ℕ → Option Effect → Option Outcome
in_room free changed None = None
in_room free changed (Some e) = Some (result_in free changed e)

-- what an operation gives on an open instance, or none where it isn't lawful
abbrev pub result_on : List Version → TreeState → Op → Instance → Option Outcome
result_on h t op.Commit x = commit_result (is_spent h t x) x.work
result_on h t op.Abort x = Some outcome.Done
result_on h t o x = in_room (free_pages h t x.grant.ss) x.work.changed (effect_on h t o x)

abbrev pub operated_by : Outcome → Option Effect → Work → Work
operated_by result None w = counted w
operated_by result (Some e) w = operated e result w

-- what becomes of an open instance by an operation with this result
abbrev pub work_after : List Version → TreeState → Op → Outcome → Instance → Work
work_after h t op.Commit result x = counted x.work
work_after h t op.Abort result x = aborted x.grant.mode (stamped_content h x.grant.file x.work.last) x.work
work_after h t o result x = operated_by result (effect_on h t o x) x.work
