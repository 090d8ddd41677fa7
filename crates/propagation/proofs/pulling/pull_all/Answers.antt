use Rattle.std.proofs.Common.{◌∙◌, ap}
use Rattle.file_content.specs.Pages.{pages_from}
use Rattle.propagation.proofs.Sizes.{sized_whole}
use Rattle.propagation.proofs.pulling.pull_all.Goals as goal

pub returns-clause-sized : goal.returns-clause-sized
returns-clause-sized c = sized_whole c.args.pull c.in_ok-wanted.wanted c.requires (c.in_ok-wanted.ensures ∙ ap (pages_from 0) c.pages_of-count.ensures)
