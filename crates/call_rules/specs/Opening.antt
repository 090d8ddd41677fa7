-- The calls that change no directory: open, list and stat walk to a file, and the others use an open descriptor.
use Rattle.std.specs.Prelude.{ℕ, Bool, true, false, cond, List, [], ◌∷◌, Option, Some}
use Rattle.std.specs.Ordering.{nat_cmp}
use Rattle.std.specs.Cmp.Lexicographic.{slice_cmp}
use Rattle.std.specs.declared.cmp.Ordering.{Ordering}
use Rattle.std.specs.declared.cmp.Ordering.TheVariants.{Less, Equal, Greater}
use Rattle.trace_book.specs.of_locus_ids.declared.ids.FileId.{FileId}
use Rattle.trace_book.specs.of_locus_ids.declared.ids.Serial.{Serial}
use Rattle.trace_book.specs.of_locus_ids.declared.ids.Mode.{Mode}
use Rattle.trace_book.specs.of_locus_ids.declared.ids.Mode.TheVariants as mode
use Rattle.trace_book.specs.of_locus_ids.declared.ids.Kind.{Kind}
use Rattle.trace_book.specs.of_locus_ids.declared.ids.Kind.TheVariants.{File, Dir}
use Rattle.trace_book.specs.of_locus_ids.declared.config.Mount.{Mount}
use Rattle.trace_book.specs.of_locus_ids.declared.refusal.Refusal.TheVariants.{NotDir, IsDir}
use Rattle.trace_book.specs.declared.call.Call.{Call}
use Rattle.trace_book.specs.declared.call.Call.TheVariants as call
use Rattle.trace_book.specs.declared.call.OpenMode.{OpenMode}
use Rattle.trace_book.specs.declared.call.OpenMode.TheVariants as how
use Rattle.trace_book.specs.declared.operation.Op.{Op}
use Rattle.trace_book.specs.declared.operation.Op.TheVariants as op
use Rattle.trace_book.specs.declared.operation.What.TheVariants as what
use Rattle.trace_book.specs.declared.operation.Outcome.{Outcome}
use Rattle.trace_book.specs.declared.operation.Outcome.TheVariants as outcome
use Rattle.trace_book.specs.declared.reply.Reply.{Reply}
use Rattle.trace_book.specs.declared.reply.Reply.TheVariants as reply
use Rattle.trace_book.specs.Names.{plain_name}
use Rattle.call_rules.specs.declared.answer.Answer.{Answer}
use Rattle.call_rules.specs.declared.answer.Answer.TheVariants.{Showed, Described, Opened, Reading, Did, Ended, Refused}
use Rattle.call_rules.specs.declared.want.Want.{Want}
use Rattle.call_rules.specs.declared.want.Want.TheVariants.{Look, Open, Do, Close, Give, Never}
use Rattle.call_rules.specs.Walks.{is_first_root}

-- open: `free` is the lowest free descriptor
abbrev pub mode_of : OpenMode → Mode
mode_of how.Read = mode.Read
mode_of how.Write = mode.Write
mode_of (how.Resolve site) = mode.Resolve
mode_of how.Steady = mode.Read

-- the words ask for a descriptor that reads one version and outlives changes of partition
abbrev pub is_steady : Call → Bool
is_steady (call.Open path how.Steady) = true
is_steady _ = false

abbrev pub opens_file : OpenMode → Option ℕ → FileId → Kind → List Answer → Want
opens_file how free file Dir answers = Give (reply.No IsDir)
opens_file how free file File [] = Open file how
opens_file how (Some fd) file File (Opened i ino ∷ []) = Give (reply.Opened fd)
opens_file how (Some fd) file File (Reading i version ∷ []) = Give (reply.Opened fd)
opens_file how free file File (Refused why ∷ []) = Give (reply.No why)
opens_file how free file File (_ ∷ rest) = Never

-- one operation on an open instance, and the reply that its outcome makes
abbrev pub reply_to : Outcome → Reply
reply_to outcome.Done = reply.Done
reply_to (outcome.Found ino kind) = reply.Done
reply_to (outcome.Data bytes) = reply.Data bytes
reply_to (outcome.Committed stamp) = reply.Committed stamp
reply_to (outcome.No why) = reply.No why

abbrev pub op_wants : Serial → Op → List Answer → Want
op_wants i o [] = Do i o
op_wants i o (Did result ∷ []) = Give (reply_to result)
op_wants i o (Refused why ∷ []) = Give (reply.No why)
op_wants i o (_ ∷ rest) = Never

abbrev pub close_wants : Serial → List Answer → Want
close_wants i [] = Close i
close_wants i (Ended stamp ∷ []) = Give (reply.Closed stamp)
close_wants i (Refused why ∷ []) = Give (reply.No why)
close_wants i (_ ∷ rest) = Never

-- a call on an open instance
abbrev pub uses_wants : Call → Serial → List Answer → Want
uses_wants (call.Read fd at len) i answers = op_wants i (op.Read at len) answers
uses_wants (call.Write fd at bytes) i answers = op_wants i (op.Write at bytes) answers
uses_wants (call.Cut fd len) i answers = op_wants i (op.Cut len) answers
uses_wants (call.Commit fd) i answers = op_wants i op.Commit answers
uses_wants (call.Abort fd) i answers = op_wants i op.Abort answers
uses_wants (call.Close fd) i answers = close_wants i answers
uses_wants _ i answers = Never

-- the root of group 0 shows all mount names too, each at its place among the plain names by its bytes
abbrev pub before_name : Ordering → Bool
before_name Less = true
before_name Equal = false
before_name Greater = false

abbrev pub with_name : List ℕ → List (List ℕ) → List (List ℕ)
with_name name [] = name ∷ []
with_name name (n ∷ ns) = cond (before_name (slice_cmp nat_cmp name (plain_name n))) (name ∷ n ∷ ns) (n ∷ with_name name ns)

abbrev pub with_mounts : List Mount → List (List ℕ) → List (List ℕ)
with_mounts [] names = names
with_mounts (m ∷ ms) names = with_name m.name (with_mounts ms names)

abbrev pub shown_in : List Mount → FileId → List (List ℕ) → List (List ℕ)
shown_in mounts dir names = cond (is_first_root dir) (with_mounts mounts names) names

-- what of the names of a directory is told
abbrev pub Shows : Type 0
Shows = FileId → List (List ℕ) → List (List ℕ)

-- look at the names of the directory, and tell of them what is shown. `list` shows all, with those of mounts
abbrev pub lists : Shows → List ℕ → FileId → Kind → List Answer → Want
lists shows reached at File answers = Give (reply.No (NotDir reached))
lists shows reached at Dir [] = Look at what.List
lists shows reached at Dir (Showed names ∷ []) = Give (reply.Names (shows at names))
lists shows reached at Dir (Refused why ∷ []) = Give (reply.No why)
lists shows reached at Dir (_ ∷ rest) = Never

-- stat: look at what the file or directory is
abbrev pub describes : FileId → Kind → List Answer → Want
describes at kind [] = Look at what.Stat
describes at kind (Described k size stamp ∷ []) = Give (reply.Stat k at size stamp)
describes at kind (Refused why ∷ []) = Give (reply.No why)
describes at kind (_ ∷ rest) = Never
