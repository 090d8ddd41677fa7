-- The rows of the lawful trace that speak of calls: they are accepted, mends among them, and answered.
use Rattle.std.specs.Prelude.{ℕ, ◌≡◌, ◌+◌, ◌==◌, Bool, true, false, ◌&&◌, ◌||◌, List, Option, None, Some}
use Rattle.std.specs.List.{find, list_any}
use Rattle.locus_ids.specs.declared.config.Config.{Config}
use Rattle.locus_ids.specs.declared.ids.FileId.{FileId}
use Rattle.locus_ids.specs.declared.ids.EpochId.{EpochId}
use Rattle.locus_ids.specs.declared.ids.CallId.{CallId}
use Rattle.locus_ids.specs.declared.ids.Kind.TheVariants.{Dir}
use Rattle.locus_ids.specs.declared.refusal.Refusal.{Refusal}
use Rattle.locus_ids.specs.declared.refusal.Refusal.TheVariants.{TooLong, NoSpace, Spent}
use Rattle.call_rules.specs.of_commit_graph.declared.history.Version.{Version}
use Rattle.call_rules.specs.of_commit_graph.Versions.{same_file}
use Rattle.trace_book.specs.Same.{same_call}
use Rattle.trace_book.specs.Text.{reply_text}
use Rattle.trace_book.specs.declared.record.Record.{Record}
use Rattle.trace_book.specs.declared.record.Record.TheVariants.{Answer}
use Rattle.trace_book.specs.declared.call.Call.{Call}
use Rattle.trace_book.specs.declared.call.Call.TheVariants.{Mend}
use Rattle.trace_book.specs.declared.reply.Reply.{Reply}
use Rattle.trace_book.specs.declared.reply.Reply.TheVariants as reply
use Rattle.call_rules.specs.declared.want.Want.TheVariants.{Give}
use Rattle.disk_calls.specs.of_schedule_lines.declared.line.ScheduleLine.{ScheduleLine}
use Rattle.disk_calls.specs.of_schedule_lines.declared.line.ScheduleLine.TheVariants.{Event}
use Rattle.disk_calls.specs.of_schedule_lines.declared.line.Line.TheVariants as line
use Rattle.tree_model.specs.declared.accepted.Waiting.{Waiting}
use Rattle.tree_model.specs.declared.instance.Instance.{Instance}
use Rattle.tree_model.specs.Folds.{Trace, over}
use Rattle.tree_model.specs.Epochs.{is_up, is_in, boot_of, epoch_of, members_of, calls_accepted}
use Rattle.tree_model.specs.Packs.{sync_site}
use Rattle.tree_model.specs.Histories.{history}
use Rattle.tree_model.specs.Calls.{call_named, waiting, waiting_of, is_of}
use Rattle.tree_model.specs.State.{TreeState, held_at, kept_of}
use Rattle.tree_model.specs.Mending.{wants_rescue_in}
use Rattle.tree_model.specs.Working.{are_several}
use Rattle.tree_model.specs.Opening.{is_only}
use Rattle.tree_model.specs.Tree.{tree_of}
use Rattle.tree_model.specs.Files.{kind_of_file}
use Rattle.lawful_trace.specs.Places.{line_at}
use Rattle.lawful_trace.specs.Progress.{now_wants}

-- The name of the next call that the site accepts: calls are counted in its boot, mends included.
abbrev pub next_call : Trace → ℕ → CallId
next_call before site = record { site = site; boot = boot_of before site; n = calls_accepted before site + 1 }

-- A call is accepted where its site runs and its process waits for nothing.
pub record MayAccept (c : Config) (before : Trace) (site process : ℕ) (call : CallId) : Type 0 where
  pub up : is_up c before site ≡ true
  pub idle : waiting_of site process (waiting before) ≡ None
  pub numbered : call ≡ next_call before site

-- Its line asks for it, with these words.
pub record IsCallAsked (lines : List ScheduleLine) (n site process : ℕ) (words : Call) : Type 0 where
  pub asked : line_at lines n ≡ Event (line.Call site process words)

-- Mends.

abbrev pub is_mend_of : FileId → Call → Bool
is_mend_of f (Mend g) = same_file g f
is_mend_of f _ = false

abbrev pub is_mend_in : ℕ → Call → Bool
is_mend_in group (Mend g) = g.group == group
is_mend_in group _ = false

-- a mend that was refused so isn't tried again in its epoch
abbrev pub ends_mending : Refusal → Bool
ends_mending TooLong = true
ends_mending (NoSpace needed free) = true
ends_mending Spent = true
ends_mending _ = false

abbrev pub is_lost_mend : EpochId → FileId → Reply → Option Waiting → Bool
is_lost_mend e f (reply.No why) (Some w) = ends_mending why && (is_in w.epoch e && is_mend_of f w.words)
is_lost_mend e f _ _ = false

abbrev pub mend_lost_after : Record → Trace → EpochId → FileId → Bool → Bool
mend_lost_after (Answer site process call r) before e f old = is_lost_mend e f r (call_named before call) || old
mend_lost_after _ before e f old = old

-- a mend of the directory was refused in the epoch since its content or a counter would be too great, or for want of room
abbrev pub has_lost_mend : Trace → EpochId → FileId → Bool
has_lost_mend trace e f = over false (λ r before old. mend_lost_after r.what before e f old) trace

-- a mend of the group waits at the site
abbrev pub mend_waits : Trace → ℕ → ℕ → Bool
mend_waits before site group = list_any (λ (w : Waiting). (w.site == site) && is_mend_in group w.words) (waiting before)

abbrev pub has_open : TreeState → FileId → Bool
has_open t f = list_any (λ (x : Instance). same_file x.grant.file f) t.instances

-- the directory is flagged; or it wants a rescue, and its only kept version is what the site has in the epoch
abbrev pub is_mend_wanted : List Version → TreeState → ℕ → FileId → Bool
is_mend_wanted h t site f = are_several (kept_of h t f) || (wants_rescue_in h t f && is_only (kept_of h t f) (held_at t site f.ino))

-- The synchronization site of a group mends a directory of it that wants it. The group has started, nobody has the
-- directory open, no mend of it was refused for good in this epoch, and no other mend of the group waits.
pub record MayMend (c : Config) (before : Trace) (site process : ℕ) (call : CallId) (file : FileId) : Type 0 where
  pub system : process ≡ 0
  pub epoch : EpochId
  pub inside : epoch_of before site ≡ Some epoch
  pub synchronizes : sync_site c file.group (members_of before epoch) ≡ Some site
  pub directory : kind_of_file c before file ≡ Dir
  pub started : (tree_of c epoch file.group before).started ≡ true
  pub shut : has_open (tree_of c epoch file.group before) file ≡ false
  pub unrefused : has_lost_mend before epoch file ≡ false
  pub alone : mend_waits before site file.group ≡ false
  pub wanted : is_mend_wanted (history c before) (tree_of c epoch file.group before) site file ≡ true
  pub numbered : call ≡ next_call before site

abbrev pub CallRow : Config → Trace → ℕ → ℕ → CallId → Call → Type 0
CallRow c before site process call (Mend file) = MayMend c before site process call file
CallRow c before site process call _ = MayAccept c before site process call

-- no line asks for a mend
abbrev pub CallLine : List ScheduleLine → ℕ → ℕ → ℕ → Call → Type 0
CallLine lines n site process (Mend file) = Unit {0}
CallLine lines n site process words = IsCallAsked lines n site process words

-- Replies.

abbrev pub is_this : ℕ → ℕ → CallId → Waiting → Bool
is_this site process call w = is_of site process w && same_call w.call call

-- A call that waits is answered as its script says; where its site has left its epoch, that this has changed. The text of
-- the reply is what counts.
pub record MayAnswer (c : Config) (before : Trace) (site process : ℕ) (call : CallId) (r : Reply) : Type 0 where
  pub caller : Waiting
  pub waits : find (is_this site process call) (waiting before) ≡ Some caller
  pub given : Reply
  pub gives : now_wants c before caller ≡ Give given
  pub text : reply_text r ≡ reply_text given
