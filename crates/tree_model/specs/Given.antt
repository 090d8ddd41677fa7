-- What the one tree gives next: which start, look, grant, refusal, operation and release may come, of whatever call it is a
-- step.
use Rattle.std.specs.Prelude.{ℕ, ◌≡◌, ◌+◌, ◌==◌, Bool, true, false, not, ◌&&◌, ◌||◌, List, Option, None, Some, cond}
use Rattle.std.specs.Option.{is_none}
use Rattle.locus_ids.specs.declared.ids.FileId.{FileId}
use Rattle.locus_ids.specs.declared.ids.Stamp.{Stamp}
use Rattle.locus_ids.specs.declared.ids.Serial.{Serial}
use Rattle.locus_ids.specs.declared.ids.CallId.{CallId}
use Rattle.locus_ids.specs.declared.ids.Mode.{Mode}
use Rattle.locus_ids.specs.declared.ids.Brought.{Brought}
use Rattle.locus_ids.specs.declared.refusal.Refusal.{Refusal}
use Rattle.locus_ids.specs.declared.refusal.Refusal.TheVariants.{Conflict, NoStorage}
use Rattle.commit_graph.specs.declared.history.Version.{Version}
use Rattle.commit_graph.specs.Versions.{same_file}
use Rattle.commit_graph.specs.Grants.{by_kept}
use Rattle.dir_reconcile.specs.of_trace_book.Same.{same_epoch}
use Rattle.dir_reconcile.specs.of_trace_book.declared.record.Record.{Record}
use Rattle.dir_reconcile.specs.of_trace_book.declared.record.Record.TheVariants.{Start, Look, Grant, Refuse, Act, Release}
use Rattle.dir_reconcile.specs.of_trace_book.declared.operation.Op.{Op}
use Rattle.dir_reconcile.specs.of_trace_book.declared.operation.What.{What}
use Rattle.dir_reconcile.specs.of_trace_book.declared.operation.What.TheVariants as what
use Rattle.dir_reconcile.specs.of_trace_book.declared.operation.Served.{Served}
use Rattle.dir_reconcile.specs.of_trace_book.declared.operation.Served.TheVariants as served
use Rattle.dir_reconcile.specs.of_trace_book.declared.operation.Outcome.{Outcome}
use Rattle.tree_model.specs.declared.instance.Instance.{Instance}
use Rattle.tree_model.specs.State.{TreeState, kept_of, has_stamp, is_granted, is_granted_here, instance_in, is_make}
use Rattle.tree_model.specs.Working.{result_on, is_spent}
use Rattle.tree_model.specs.Same.{same_refusal, same_version, same_all, is_given, is_served, is_no_inode}
use Rattle.tree_model.specs.Opening.{open_refusal, lacks_numbers, making_site, is_placed}

-- the group starts once, with the versions that its members brought
abbrev pub gives_start : TreeState → List Brought → Bool
gives_start t copies = not t.started && same_all copies t.known

-- the only kept version, or why there is none
abbrev pub only_kept : List Stamp → Served
only_kept kept = by_kept (served.No NoStorage) (λ s. served.At s) (λ a b. served.No (Conflict a b)) kept

-- what a look is served: the only kept version; of a look at a whole content the kept version that it asks, and none where
-- that isn't kept
abbrev pub served_by : What → List Stamp → Option Served
served_by (what.Whole asked) kept = cond (has_stamp kept asked) (Some (served.At asked)) None
served_by (what.Name component) kept = Some (only_kept kept)
served_by what.List kept = Some (only_kept kept)
served_by what.Stat kept = Some (only_kept kept)

abbrev pub gives_look : List Version → TreeState → FileId → What → Served → Bool
gives_look h t f w result = t.started && is_served (served_by w (kept_of h t f)) result

-- an open that nothing refuses is granted, as an instance of the call's site that no grant of the epoch has named
abbrev pub gives_grant : List Version → TreeState → CallId → Serial → Mode → FileId → Option Stamp → ℕ → Bool
gives_grant h t call i m f stamp ss =
    t.started
    && (is_none (open_refusal h t m call f)
    && ((i.us == call.site)
    && (not (is_granted t i)
    && is_placed h t call m f stamp ss)))

-- a refused make has no inode yet
abbrev pub is_unnumbered : Mode → FileId → Bool
is_unnumbered m f = cond (is_make m) (f.ino == 0) true

-- an open is refused for the first that refuses it; and a make that nothing refuses may be refused where its storage site
-- lacks numbers
abbrev pub refuses : List Version → TreeState → CallId → Mode → FileId → Refusal → Option Refusal → Bool
refuses h t call m f why None = is_make m && (is_no_inode why && lacks_numbers t (making_site t call))
refuses h t call m f why (Some r) = same_refusal r why

abbrev pub gives_refusal : List Version → TreeState → CallId → Mode → FileId → Refusal → Bool
gives_refusal h t call m f why = t.started && (is_unnumbered m f && refuses h t call m f why (open_refusal h t m call f))

-- an open instance executes its next operation, and gives what the operation makes of its working content in the room
-- that there is
abbrev pub instance_gives : List Version → TreeState → ℕ → Op → Outcome → Option Instance → Bool
instance_gives h t n o result None = false
instance_gives h t n o result (Some x) = (n == x.work.ops + 1) && is_given (result_on h t o x) result

abbrev pub gives_act : List Version → TreeState → Serial → ℕ → Op → Outcome → Bool
gives_act h t i n o result = instance_gives h t n o result (instance_in t i)

-- an instance is released that owes no commit, or none that can be; and its last version is published
abbrev pub instance_ends : List Version → TreeState → FileId → Option Stamp → Option Instance → Bool
instance_ends h t f stamp None = false
instance_ends h t f stamp (Some x) =
    same_file x.grant.file f
    && (same_version stamp x.work.committed
    && (not x.work.owes || is_spent h t x))

abbrev pub gives_release : List Version → TreeState → Serial → FileId → Option Stamp → Bool
gives_release h t i f stamp = instance_ends h t f stamp (instance_in t i)

-- the record is a step of this tree; an operation is one of the group in which its instance was granted
abbrev pub concerns : TreeState → Record → Bool
concerns t (Start e group copies) = same_epoch e t.epoch && (group == t.group)
concerns t (Look e call request f w result) = same_epoch e t.epoch && (f.group == t.group)
concerns t (Grant e call request i m f stamp ss) = same_epoch e t.epoch && (f.group == t.group)
concerns t (Refuse e call request i m f why) = same_epoch e t.epoch && (f.group == t.group)
concerns t (Act e i n o result) = same_epoch e t.epoch && is_granted_here t i
concerns t (Release e i f stamp) = same_epoch e t.epoch && (f.group == t.group)
concerns t _ = false

-- the tree gives the record, a step of it
abbrev pub gives : List Version → TreeState → Record → Bool
gives h t (Start e group copies) = gives_start t copies
gives h t (Look e call request f w result) = gives_look h t f w result
gives h t (Grant e call request i m f stamp ss) = gives_grant h t call i m f stamp ss
gives h t (Refuse e call request i m f why) = gives_refusal h t call m f why
gives h t (Act e i n o result) = gives_act h t i n o result
gives h t (Release e i f stamp) = gives_release h t i f stamp
gives h t _ = false

abbrev pub Gives : List Version → TreeState → Record → Type 0
Gives h t r = gives h t r ≡ true
