use Rattle.std.proofs.Common.{ap, ◌∙◌}
use Rattle.line_text.specs.Words.{split_at}
use Rattle.line_text.proofs.Splits.{none_map, some_both, split_found, split_none}
use Rattle.line_text.proofs.words.split_at.Goals as goal

pub returns-clause-found : goal.returns-clause-found
returns-clause-found c =
    some_both c.cut_at.result c.cut_at.ensures.found c.cut_at.ensures.first
    (λ p e f. ap (split_at c.args.separator) e ∙ split_found c.args.separator p.0.now p.1.now f)

pub returns-clause-none : goal.returns-clause-none
returns-clause-none c = none_map c.cut_at.result c.cut_at.ensures.none (split_none c.args.separator c.args.bytes.now)
