-- The scripts of calls: what a call asks next, by its words, the cluster, where it began, and what its requests were
-- answered so far, the earliest answer first.
use Rattle.std.specs.Prelude.{ℕ, Bool, true, false, cond, List, Option, None}
use Rattle.trace_book.specs.of_locus_ids.declared.ids.CallId.{CallId}
use Rattle.trace_book.specs.of_locus_ids.declared.ids.Kind.TheVariants.{File, Dir}
use Rattle.trace_book.specs.of_locus_ids.declared.config.Mount.{Mount}
use Rattle.trace_book.specs.of_locus_ids.declared.refusal.Refusal.TheVariants.{BadName, NoStorage}
use Rattle.trace_book.specs.declared.call.Call.{Call}
use Rattle.trace_book.specs.declared.call.Call.TheVariants as call
use Rattle.trace_book.specs.declared.descriptor.Beginning.{Beginning}
use Rattle.trace_book.specs.declared.descriptor.Beginning.TheVariants.{Denied, Uses, Walks, Reopens, Frees}
use Rattle.trace_book.specs.declared.reply.Reply.TheVariants as reply
use Rattle.trace_book.specs.Names.{components, last_of}
use Rattle.call_rules.specs.declared.answer.Answer.{Answer}
use Rattle.call_rules.specs.declared.want.Want.{Want}
use Rattle.call_rules.specs.declared.want.Want.TheVariants.{Look, Open, OpenToMend, Make, Do, Close, Give, Never}
use Rattle.call_rules.specs.Words.{is_badly_named}
use Rattle.call_rules.specs.Walks.{walked}
use Rattle.call_rules.specs.Making.{make_wants}
use Rattle.call_rules.specs.Removing.{remove_wants}
use Rattle.call_rules.specs.Naming.{rename_wants}
use Rattle.call_rules.specs.Opening.{opens_file, lists, describes, shown_in, uses_wants}
use Rattle.call_rules.specs.Mending.{mend_wants}
use Rattle.call_rules.specs.Mailing.{shown_messages, mail_wants}
use Rattle.call_rules.specs.Reopening.{reopen_wants}

-- the call of this name, which walks a path, or mends; `free` is the lowest free descriptor of its process
abbrev pub path_wants : List Mount → Option ℕ → CallId → Call → List Answer → Want
path_wants mounts free id (call.Create path sites) answers = make_wants mounts path File sites answers
path_wants mounts free id (call.MakeDir path) answers = make_wants mounts path Dir None answers
path_wants mounts free id (call.Unlink path) answers = remove_wants mounts path File answers
path_wants mounts free id (call.RemoveDir path) answers = remove_wants mounts path Dir answers
path_wants mounts free id (call.Rename path name) answers = rename_wants mounts path name answers
path_wants mounts free id (call.List path) answers = walked mounts (components path) answers (lists (shown_in mounts) (last_of (components path)))
path_wants mounts free id (call.Stat path) answers = walked mounts (components path) answers describes
path_wants mounts free id (call.Open path how) answers = walked mounts (components path) answers (opens_file how free)
path_wants mounts free id (call.Mend file) answers = mend_wants file answers
path_wants mounts free id (call.Mail path bytes) answers = mail_wants mounts id path bytes answers
path_wants mounts free id (call.Mails path) answers = walked mounts (components path) answers (lists shown_messages (last_of (components path)))
path_wants mounts free id _ answers = Never

-- by where the call began: a refusal there is its reply, and so is the close of what no instance holds
abbrev pub begun_wants : List Mount → Option ℕ → Call → Beginning → List Answer → Want
begun_wants mounts free words (Denied why) answers = Give (reply.No why)
begun_wants mounts free words (Uses epoch inst) answers = uses_wants words inst answers
begun_wants mounts free words (Walks id) answers = path_wants mounts free id words answers
begun_wants mounts free words (Reopens kept last) answers = reopen_wants words kept last answers
begun_wants mounts free words Frees answers = Give (reply.Closed None)

-- a name that isn't allowed is refused before anything else
abbrev pub named_wants : List Mount → Option ℕ → Call → Beginning → List Answer → Want
named_wants mounts free words begins answers = cond (is_badly_named mounts words) (Give (reply.No BadName)) (begun_wants mounts free words begins answers)

-- a request in a group that no member of the epoch packs is sent to nobody: its call has no storage
abbrev pub in_group : (ℕ → Bool) → ℕ → Want → Want
in_group is_packed group want = cond (is_packed group) want (Give (reply.No NoStorage))

abbrev pub where_packed : (ℕ → Bool) → Want → Want
where_packed is_packed (Look file what) = in_group is_packed file.group (Look file what)
where_packed is_packed (Open file how) = in_group is_packed file.group (Open file how)
where_packed is_packed (OpenToMend file) = in_group is_packed file.group (OpenToMend file)
where_packed is_packed (Make group kind sites) = in_group is_packed group (Make group kind sites)
where_packed is_packed (Do i o) = Do i o
where_packed is_packed (Close i) = Close i
where_packed is_packed (Give r) = Give r
where_packed is_packed Never = Never

-- What a call asks next, or its reply. `is_packed` tells the groups of which some member of the call's epoch has a pack.
abbrev pub wants : List Mount → (ℕ → Bool) → Option ℕ → Call → Beginning → List Answer → Want
wants mounts is_packed free words begins answers = where_packed is_packed (named_wants mounts free words begins answers)

-- the call has its reply
abbrev pub gives_reply : Want → Bool
gives_reply (Give r) = true
gives_reply (Look file what) = false
gives_reply (Open file how) = false
gives_reply (OpenToMend file) = false
gives_reply (Make group kind sites) = false
gives_reply (Do i o) = false
gives_reply (Close i) = false
gives_reply Never = false
