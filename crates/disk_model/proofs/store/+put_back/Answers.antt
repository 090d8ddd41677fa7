use Rattle.std.proofs.Common.{ap, ◌∙◌, List, ℕ, length}
use Rattle.disk_model.proofs.Spans.{length-overwritten}
use Rattle.disk_model.proofs.PutBack.{fits_first}
use Rattle.disk_model.proofs.store.+put_back.Goals as goal

pub write-requires : goal.write-requires
write-requires t c = fits_first c.args.spans.now _ c.args.before.now c.args.seen.now c.put_back.new.seen c.in-len1-up.len_at_least c.requires.in_range c.put_back.ensures.long

pub returns-clause-long : goal.returns-clause-long
returns-clause-long t c =
    ap (λ (l : List ℕ). length l) c.write.ensures
    ∙ length-overwritten _ _ _ (fits_first c.args.spans.now _ c.args.before.now c.args.seen.now c.put_back.new.seen c.in-len1-up.len_at_least c.requires.in_range c.put_back.ensures.long)
    ∙ c.put_back.ensures.long
