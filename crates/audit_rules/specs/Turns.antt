-- In which order calls are told that their epoch has changed.
use Rattle.std.specs.Prelude.{ℕ, ◌==◌, Bool, true, not, ◌&&◌, nat_lt}
use Rattle.std.specs.List.{list_any}
use Rattle.locus_ids.specs.declared.ids.EpochId.{EpochId}
use Rattle.locus_ids.specs.declared.refusal.Refusal.TheVariants.{Changed}
use Rattle.trace_book.specs.declared.record.Record.{Record}
use Rattle.trace_book.specs.declared.record.Record.TheVariants.{Answer}
use Rattle.trace_book.specs.declared.reply.Reply.TheVariants.{No}
use Rattle.tree_model.specs.Epochs.{is_in}
use Rattle.promises.specs.Past.{Past, CallSoFar}

-- the call waits at the site, of a lower process, and was accepted in the epoch
abbrev pub is_before : ℕ → ℕ → EpochId → CallSoFar → Bool
is_before site process e k = k.waits && ((k.id.site == site) && (nat_lt k.process process && is_in k.epoch e))

-- that its epoch has changed a call is told once no call of a lower process waits for that at the site
abbrev pub is_in_turn : Past → Record → Bool
is_in_turn p (Answer site process id (No (Changed e))) = not (list_any (is_before site process e) p.calls)
is_in_turn p _ = true
