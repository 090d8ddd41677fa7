use Rattle.std.proofs.Common.{◌≡◌, ◌++◌, drop, map}
use Rattle.role_steps.specs.Epochs.{install_packet}
use Rattle.merge_protocol.proofs.joining.send_installs.Given as goal

abbrev pub invariant-loop-site : goal.invariant-loop-site
invariant-loop-site l = record {
  packets : l.out.packets ++ map (install_packet l.sender.me l.sender.boot l.epoch.id l.epoch.members) (drop l.site-index l.sites) ≡ l.fn.out.packets ++ map (install_packet l.sender.me l.sender.boot l.epoch.id l.epoch.members) l.sites;
  records : l.out.records ≡ l.fn.out.records;
}
