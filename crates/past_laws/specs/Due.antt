-- When a reply comes: directly after what it answers.
use Rattle.std.specs.Prelude.{ℕ, ◌≡◌, ◌==◌, Bool, true, false, ◌&&◌, ◌||◌, nat_lt, nat_le, [], ◌∷◌, length, Some}
use Rattle.locus_ids.specs.declared.config.Config.{Config}
use Rattle.locus_ids.specs.declared.ids.CallId.{CallId}
use Rattle.locus_ids.specs.declared.ids.EpochId.{EpochId}
use Rattle.locus_ids.specs.declared.refusal.Refusal.TheVariants.{Changed}
use Rattle.trace_book.specs.Same.{same_epoch, same_call}
use Rattle.trace_book.specs.declared.record.Record.{Record}
use Rattle.trace_book.specs.declared.record.Record.TheVariants as says
use Rattle.trace_book.specs.declared.reply.Reply.TheVariants as reply
use Rattle.tree_model.specs.Epochs.{last_joined}
use Rattle.tree_model.specs.Folds.{Trace}
use Rattle.promises.specs.of_lawful_trace.Progress.{answers}
use Rattle.promises.specs.Past.{Last, Another}
use Rattle.promises.specs.After.{last_by}

-- the last record is such a one
abbrev pub is_after : (Record → Bool) → Trace → Bool
is_after test [] = false
is_after test (r ∷ before) = test r.what

-- it accepts this call
abbrev pub accepts : CallId → Record → Bool
accepts call (says.Accept site process d words) = same_call d call
accepts call _ = false

-- it tells that the site leaves the epoch, or answers so a call of a process of the site, this one or a lower one
abbrev pub tells_left : ℕ → ℕ → EpochId → Record → Bool
tells_left site process e (says.Leave s left) = (s == site) && same_epoch left e
tells_left site process e (says.Answer s p d (reply.No (Changed left))) = (s == site) && (nat_le p process && same_epoch left e)
tells_left site process e _ = false

-- what the next record may hang on, by the last one
abbrev pub last_of : Trace → Last
last_of [] = Another
last_of (r ∷ before) = last_by r.what

-- That an epoch was left is answered directly after the leave or another such reply, anything else directly after the call is
-- accepted or once a request of it was answered.
abbrev pub SaysDue : Config → Trace → Record → Type 0
SaysDue c before (says.Answer site process call (reply.No (Changed e))) = is_after (tells_left site process e) before ≡ true
SaysDue c before (says.Answer site process call r) = nat_lt 0 (length (answers c before call)) || is_after (accepts call) before ≡ true
SaysDue c before _ = Unit {0}

-- the epoch that the last record tells to be left is the one that the site joined last
pub record TellsLast (before : Trace) : Type 0 where
  pub joined : (site process : ℕ) (e : EpochId) → is_after (tells_left site process e) before ≡ true → last_joined before site ≡ Some e
