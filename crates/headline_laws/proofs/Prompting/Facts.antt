-- What holds of each reply as it is told.
use Rattle.std.proofs.Common.{◌≡◌, ℕ, true, not, ◌||◌, List, refl, sym, ◌∙◌}
use Rattle.role_steps.proofs.of_plain_facts.Options.{none_some}
use Rattle.locus_ids.specs.declared.config.Config.{Config}
use Rattle.locus_ids.specs.declared.ids.CallId.{CallId}
use Rattle.locus_ids.specs.declared.ids.EpochId.{EpochId}
use Rattle.locus_ids.specs.declared.refusal.Refusal.TheVariants as refusal
use Rattle.trace_book.specs.declared.record.Record.{Record}
use Rattle.trace_book.specs.declared.record.Record.TheVariants as says
use Rattle.trace_book.specs.declared.reply.Reply.{Reply}
use Rattle.trace_book.specs.declared.reply.Reply.TheVariants as reply
use Rattle.role_steps.specs.Views.{Frame, Told, Shown}
use Rattle.the_run.specs.Worlds.{Line}
use Rattle.tree_model.specs.Folds.{Trace}
use Rattle.lawful_trace.specs.Progress.{answers}
use Rattle.lawful_trace.specs.Prompt.{is_unanswered}
use Rattle.tree_laws.specs.Doing.{FrameFact}
use Rattle.tree_laws.specs.Following.{AnswersInTime, RepliesInTime}
use Rattle.tree_laws.specs.Printed.{entries}
use Rattle.tree_laws.specs.Users.{own_call}
use Rattle.headline_laws.specs.Prompting.Directly.{StandsBefore, accepts, is_last}
use Rattle.headline_laws.specs.Prompting.Given.{IsGiven}

-- a reply is the one that is to be given, and stands where it may
abbrev pub RecordFact : Config → ℕ → Trace → Record → Type 0
RecordFact c n before (says.Answer site process call r) = IsGiven c before site process call r × StandsBefore c n before site process call r
RecordFact c n before _ = Unit {0}

abbrev pub ToldFact : Config → ℕ → List Line → Told → Type 0
ToldFact c n t (Shown r) = RecordFact c n (entries t) r
ToldFact c n t _ = Unit {0}

-- the reply doesn't say that the epoch was left
abbrev pub NotLeft : Reply → Type 0
NotLeft r = (e : EpochId) → r ≡ reply.No (refusal.Changed e) → ⊥

pub plain_stands : (c : Config) (n : ℕ) (before : Trace) (site process : ℕ) (d : CallId) (r : Reply) → NotLeft r → not (is_unanswered (answers c before d)) || is_last (accepts d) n before ≡ true → StandsBefore c n before site process d r
plain_stands c n before site process d (reply.No (refusal.Changed e)) unlike k = absurd (unlike e refl)
plain_stands c n before site process d r unlike k = k

-- at a site in an epoch no reply says so
pub in_epoch : (c : Config) (t : List Line) (f : Frame) (m : ℕ) → FrameFact c t f → (e : EpochId) → AnswersInTime c t (own_call f.me f.boot m) (reply.No (refusal.Changed e)) → ⊥
in_epoch c t f m frame e out = none_some f.epoch (sym out ∙ frame.inside)

pub replies_in_time : (c : Config) (t : List Line) (d : CallId) (r : Reply) → ((e : EpochId) → AnswersInTime c t d (reply.No (refusal.Changed e)) → ⊥) → AnswersInTime c t d r → RepliesInTime c t d
replies_in_time c t d (reply.No (refusal.Changed e)) never k = absurd (never e k)
replies_in_time c t d (reply.Opened fd) never k = k.replies
replies_in_time c t d (reply.Data bytes) never k = k.replies
replies_in_time c t d r never k = k
