-- A request, a reply or a refusal is the same as itself.
use Rattle.std.proofs.Common.{◌≡◌, ℕ, ◌==◌, Bool, true, List, [], ◌∷◌, Option, Some, None, refl}
use Rattle.std.specs.Str.{bytes_eq}
use Rattle.std.proofs.lemmas.Slice.Eq.{bytes_eq-Decides}
use Rattle.locus_ids.specs.declared.ids.Kind.{Kind}
use Rattle.locus_ids.specs.declared.ids.Kind.TheVariants as kind
use Rattle.locus_ids.specs.declared.ids.Stamp.{Stamp}
use Rattle.locus_ids.specs.declared.refusal.Refusal.{Refusal}
use Rattle.locus_ids.specs.declared.refusal.Refusal.TheVariants as refusal
use Rattle.commit_graph.specs.Versions.{same_file, same_stamp}
use Rattle.trace_book.specs.declared.operation.Op.{Op}
use Rattle.trace_book.specs.declared.operation.Op.TheVariants as op
use Rattle.trace_book.specs.declared.operation.What.{What}
use Rattle.trace_book.specs.declared.operation.What.TheVariants as what
use Rattle.trace_book.specs.declared.reply.Reply.{Reply}
use Rattle.trace_book.specs.declared.reply.Reply.TheVariants as reply
use Rattle.tree_model.specs.Same.{same_kind, same_refusal, same_version}
use Rattle.promises.specs.Same.{same_list, same_op, same_what, same_reply}
use Rattle.past_laws.proofs.Names.{both, number_own, epoch_own, file_own, stamp_own}

pub bytes_own : (xs : List ℕ) → bytes_eq xs xs ≡ true
bytes_own xs = (bytes_eq-Decides xs xs).1 refl

pub list_own : {X : Type 0} (same : X → X → Bool) → ((x : X) → same x x ≡ true) → (xs : List X) → same_list same xs xs ≡ true
list_own same own [] = refl
list_own same own (x ∷ xs) = both (same x x) (same_list same xs xs) (own x) (list_own same own xs)

pub kind_own : (k : Kind) → same_kind k k ≡ true
kind_own kind.File = refl
kind_own kind.Dir = refl

pub version_own : (v : Option Stamp) → same_version v v ≡ true
version_own None = refl
version_own (Some s) = stamp_own s

pub refusal_own : (why : Refusal) → same_refusal why why ≡ true
refusal_own (refusal.Busy site process) = both (site == site) (process == process) (number_own site) (number_own process)
refusal_own (refusal.Absent name) = bytes_own name
refusal_own (refusal.NotDir name) = bytes_own name
refusal_own refusal.IsDir = refl
refusal_own (refusal.Exists ino) = number_own ino
refusal_own (refusal.NotEmpty name) = bytes_own name
refusal_own (refusal.Conflict a b) = both (same_stamp a a) (same_stamp b b) (stamp_own a) (stamp_own b)
refusal_own (refusal.Ambiguous a b) = both (a == a) (b == b) (number_own a) (number_own b)
refusal_own refusal.NoStorage = refl
refusal_own refusal.NoPartition = refl
refusal_own (refusal.Changed e) = epoch_own e
refusal_own refusal.BadDescriptor = refl
refusal_own (refusal.Stale e) = epoch_own e
refusal_own refusal.TooLong = refl
refusal_own (refusal.NoSpace needed free) = both (needed == needed) (free == free) (number_own needed) (number_own free)
refusal_own refusal.NoInode = refl
refusal_own refusal.BadName = refl
refusal_own refusal.ReadOnly = refl
refusal_own refusal.NoDescriptor = refl
refusal_own refusal.Spent = refl
refusal_own refusal.NoConflict = refl

pub op_own : (o : Op) → same_op o o ≡ true
op_own (op.Probe name) = bytes_own name
op_own (op.Find component) = bytes_own component
op_own (op.Insert name ino k) = both (bytes_eq name name) _ (bytes_own name) (both (ino == ino) (same_kind k k) (number_own ino) (kind_own k))
op_own (op.Remove name ino) = both (bytes_eq name name) (ino == ino) (bytes_own name) (number_own ino)
op_own (op.Rename component name) = both (bytes_eq component component) (bytes_eq name name) (bytes_own component) (bytes_own name)
op_own op.Empty = refl
op_own (op.Read at len) = both (at == at) (len == len) (number_own at) (number_own len)
op_own (op.Write at bytes) = both (at == at) (bytes_eq bytes bytes) (number_own at) (bytes_own bytes)
op_own (op.Cut len) = number_own len
op_own op.Commit = refl
op_own op.Abort = refl
op_own op.Mend = refl

pub what_own : (w : What) → same_what w w ≡ true
what_own (what.Name component) = bytes_own component
what_own what.List = refl
what_own what.Stat = refl
what_own (what.Whole stamp) = stamp_own stamp

pub reply_own : (r : Reply) → same_reply r r ≡ true
reply_own (reply.Made ino) = number_own ino
reply_own reply.Done = refl
reply_own (reply.Names names) = list_own bytes_eq bytes_own names
reply_own (reply.Stat k file size stamp) = both (same_kind k k) _ (kind_own k) (both (same_file file file) _ (file_own file) (both (size == size) (same_stamp stamp stamp) (number_own size) (stamp_own stamp)))
reply_own (reply.Opened fd) = number_own fd
reply_own (reply.Data bytes) = bytes_own bytes
reply_own (reply.Committed stamp) = stamp_own stamp
reply_own (reply.Closed stamp) = version_own stamp
reply_own (reply.No why) = refusal_own why
