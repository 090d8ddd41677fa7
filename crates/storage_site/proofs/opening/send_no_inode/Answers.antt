use Rattle.std.proofs.Common.{◌++◌, ap, ◌∙◌}
use Rattle.role_steps.specs.Storage.{StoreRequest}
use Rattle.storage_site.specs.Serving.{no_inode_packets}
use Rattle.storage_site.proofs.opening.send_no_inode.Goals as goal

pub returns-clause-packets : goal.returns-clause-packets
returns-clause-packets c =
    c.in_ok-send_to_sync.ensures.packets ∙ ap (λ (r : StoreRequest). c.args.out.now.packets ++ no_inode_packets c.args.frame.now r) c.asked.view_is
