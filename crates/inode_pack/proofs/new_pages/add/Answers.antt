use Rattle.std.proofs.Common.{◌≡◌, ◌∙◌, ℕ, List, set, ap, arith}
use Rattle.pack_layout.specs.Layout.{numbers_of}
use Rattle.disk_model.proofs.Moments.{on_ok}
use Rattle.inode_pack.proofs.PageLists.{parts_more}
use Rattle.inode_pack.proofs.new_pages.add.Goals as goal

pub returns-clause-set : goal.returns-clause-set
returns-clause-set c =
    let first = c.args.numbers.now.first in
    let more = c.args.numbers.now.more in
    on_ok c.push.result _ (numbers_of first c.push.new.self ≡ set (numbers_of first more) c.args.page c.args.number)
    (λ e. ap (λ (l : List ℕ). numbers_of first l) e ∙ parts_more first more c.args.page c.args.number c.requires.front (omega arith) c.requires.before c.requires.most) c.push.ensures.ok
