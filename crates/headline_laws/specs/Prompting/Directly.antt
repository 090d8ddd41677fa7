-- Which record stands directly before a reply.
use Rattle.std.specs.Prelude.{ℕ, ◌≡◌, ◌==◌, Bool, true, false, not, ◌&&◌, ◌||◌, [], ◌∷◌, nat_le}
use Rattle.locus_ids.specs.declared.config.Config.{Config}
use Rattle.locus_ids.specs.declared.ids.CallId.{CallId}
use Rattle.locus_ids.specs.declared.ids.EpochId.{EpochId}
use Rattle.locus_ids.specs.declared.refusal.Refusal.TheVariants as refusal
use Rattle.trace_book.specs.Same.{same_call, same_epoch}
use Rattle.trace_book.specs.declared.entry.Entry.{Entry}
use Rattle.trace_book.specs.declared.record.Record.{Record}
use Rattle.trace_book.specs.declared.record.Record.TheVariants as says
use Rattle.trace_book.specs.declared.reply.Reply.{Reply}
use Rattle.trace_book.specs.declared.reply.Reply.TheVariants as reply
use Rattle.tree_model.specs.Folds.{Trace}
use Rattle.lawful_trace.specs.Progress.{answers}
use Rattle.lawful_trace.specs.Prompt.{is_unanswered}

-- the last record stands at this line, and is such a one
abbrev pub is_last : (Record → Bool) → ℕ → Trace → Bool
is_last p n [] = false
is_last p n (r ∷ before) = (r.line == n) && p r.what

-- it accepts this call
abbrev pub accepts : CallId → Record → Bool
accepts call (says.Accept site process d words) = same_call d call
accepts call _ = false

-- it tells that the site leaves the epoch, or answers so a call of a process of the site, this one or a lower one
abbrev pub tells_left : ℕ → ℕ → EpochId → Record → Bool
tells_left site process e (says.Leave s left) = (s == site) && same_epoch left e
tells_left site process e (says.Answer s p d (reply.No (refusal.Changed left))) = (s == site) && (nat_le p process && same_epoch left e)
tells_left site process e _ = false

-- That its epoch was left is answered directly after the leave, or after another such reply at the site, in order of process; any
-- other reply comes directly after its call is accepted, or after a request of the call was answered.
abbrev pub StandsBefore : Config → ℕ → Trace → ℕ → ℕ → CallId → Reply → Type 0
StandsBefore c n before site process call (reply.No (refusal.Changed e)) = is_last (tells_left site process e) n before ≡ true
StandsBefore c n before site process call _ = not (is_unanswered (answers c before call)) || is_last (accepts call) n before ≡ true

abbrev pub DirectRecord : Config → ℕ → Trace → Record → Type 0
DirectRecord c n before (says.Answer site process call r) = StandsBefore c n before site process call r
DirectRecord c n before _ = Unit {0}

abbrev pub IsDirectRow : Config → Trace → Entry → Type 0
IsDirectRow c before r = DirectRecord c r.line before r.what
