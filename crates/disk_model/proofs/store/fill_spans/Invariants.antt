use Rattle.std.proofs.Common.{◌≡◌, ℕ, length, take, cond, get_or}
use Rattle.disk_model.specs.Images.{covers}
use Rattle.disk_model.proofs.store.fill_spans.Given as goal

abbrev pub invariant-loop-span : goal.invariant-loop-span
invariant-loop-span l = (length l.to ≡ length l.initial.to) × ((k : ℕ) → get_or l.to k 0 ≡ cond (covers (take l.span-index l.spans) k) l.byte (get_or l.initial.to k 0))
