-- Whether two refusals, outcomes, answers to looks or lists of brought versions are the same.
use Rattle.std.specs.Prelude.{◌==◌, Bool, true, false, ◌&&◌, List, [], ◌∷◌, Option, None, Some}
use Rattle.std.specs.Str.{bytes_eq}
use Rattle.locus_ids.specs.declared.ids.Kind.{Kind}
use Rattle.locus_ids.specs.declared.ids.Kind.TheVariants as kind
use Rattle.locus_ids.specs.declared.ids.Stamp.{Stamp}
use Rattle.locus_ids.specs.declared.ids.Brought.{Brought}
use Rattle.locus_ids.specs.declared.refusal.Refusal.{Refusal}
use Rattle.locus_ids.specs.declared.refusal.Refusal.TheVariants as refusal
use Rattle.commit_graph.specs.Versions.{same_stamp}
use Rattle.dir_reconcile.specs.of_trace_book.Same.{same_epoch}
use Rattle.dir_reconcile.specs.of_trace_book.declared.operation.Outcome.{Outcome}
use Rattle.dir_reconcile.specs.of_trace_book.declared.operation.Outcome.TheVariants as outcome
use Rattle.dir_reconcile.specs.of_trace_book.declared.operation.Served.{Served}
use Rattle.dir_reconcile.specs.of_trace_book.declared.operation.Served.TheVariants as served

abbrev pub same_kind : Kind → Kind → Bool
same_kind kind.File kind.File = true
same_kind kind.Dir kind.Dir = true
same_kind _ _ = false

abbrev pub same_refusal : Refusal → Refusal → Bool
same_refusal (refusal.Busy site process) (refusal.Busy s p) = (site == s) && (process == p)
same_refusal (refusal.Absent name) (refusal.Absent n) = bytes_eq name n
same_refusal (refusal.NotDir name) (refusal.NotDir n) = bytes_eq name n
same_refusal refusal.IsDir refusal.IsDir = true
same_refusal (refusal.Exists ino) (refusal.Exists i) = ino == i
same_refusal (refusal.NotEmpty name) (refusal.NotEmpty n) = bytes_eq name n
same_refusal (refusal.Conflict a b) (refusal.Conflict c d) = same_stamp a c && same_stamp b d
same_refusal (refusal.Ambiguous a b) (refusal.Ambiguous c d) = (a == c) && (b == d)
same_refusal refusal.NoStorage refusal.NoStorage = true
same_refusal refusal.NoPartition refusal.NoPartition = true
same_refusal (refusal.Changed epoch) (refusal.Changed e) = same_epoch epoch e
same_refusal refusal.BadDescriptor refusal.BadDescriptor = true
same_refusal (refusal.Stale epoch) (refusal.Stale e) = same_epoch epoch e
same_refusal refusal.TooLong refusal.TooLong = true
same_refusal (refusal.NoSpace needed free) (refusal.NoSpace n f) = (needed == n) && (free == f)
same_refusal refusal.NoInode refusal.NoInode = true
same_refusal refusal.BadName refusal.BadName = true
same_refusal refusal.ReadOnly refusal.ReadOnly = true
same_refusal refusal.NoDescriptor refusal.NoDescriptor = true
same_refusal refusal.Spent refusal.Spent = true
same_refusal refusal.NoConflict refusal.NoConflict = true
same_refusal _ _ = false

abbrev pub same_outcome : Outcome → Outcome → Bool
same_outcome outcome.Done outcome.Done = true
same_outcome (outcome.Found ino k) (outcome.Found i l) = (ino == i) && same_kind k l
same_outcome (outcome.Data bytes) (outcome.Data bs) = bytes_eq bytes bs
same_outcome (outcome.Committed stamp) (outcome.Committed s) = same_stamp stamp s
same_outcome (outcome.No why) (outcome.No w) = same_refusal why w
same_outcome _ _ = false

abbrev pub same_served : Served → Served → Bool
same_served (served.At stamp) (served.At s) = same_stamp stamp s
same_served (served.No why) (served.No w) = same_refusal why w
same_served _ _ = false

abbrev pub same_version : Option Stamp → Option Stamp → Bool
same_version None None = true
same_version (Some a) (Some b) = same_stamp a b
same_version _ _ = false

abbrev pub same_brought : Brought → Brought → Bool
same_brought a b = (a.ino == b.ino) && same_stamp a.stamp b.stamp

-- the same versions, one by one
abbrev pub same_all : List Brought → List Brought → Bool
same_all [] [] = true
same_all (a ∷ as_after) (b ∷ bs_after) = same_brought a b && same_all as_after bs_after
same_all _ _ = false

-- the answer is there, and is this one
abbrev pub is_given : Option Outcome → Outcome → Bool
is_given None result = false
is_given (Some o) result = same_outcome o result

abbrev pub is_served : Option Served → Served → Bool
is_served None result = false
is_served (Some s) result = same_served s result

abbrev pub is_no_inode : Refusal → Bool
is_no_inode refusal.NoInode = true
is_no_inode _ = false
