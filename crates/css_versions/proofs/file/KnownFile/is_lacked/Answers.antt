use Rattle.std.proofs.Common.{◌&&◌, not, arith}
use Rattle.locus_ids.specs.Sites.{has}
use Rattle.role_steps.specs.Versions.{is_among, holders_of}
use Rattle.role_steps.specs.Views.{is_member}
use Rattle.css_versions.specs.Lists.{is_lacked}
use Rattle.css_versions.proofs.Lacking.{lacked_here, lacked_later, lacked_nowhere}
use Rattle.css_versions.proofs.file.KnownFile.is_lacked.Goals as goal

pub returns-then-is_lacked_at : goal.returns-then-is_lacked_at
returns-then-is_lacked_at c =
    lacked_here (λ s. not (is_among s (holders_of c.args.self.now c.args.stamp))) (λ s. has c.args.self.now.set s && is_member c.args.members.now s) c.loop-place.place c.is_lacked_at.result (is_lacked c.args.members.now c.args.self.now c.args.stamp) (omega arith) c.is_lacked_at.ensures c.if-is_lacked_at.true c.loop-place.invariant

pub loop-place-preserved : goal.loop-place-preserved
loop-place-preserved c =
    lacked_later (λ s. not (is_among s (holders_of c.args.self.now c.args.stamp))) (λ s. has c.args.self.now.set s && is_member c.args.members.now s) c.loop-place.place c.is_lacked_at.result (is_lacked c.args.members.now c.args.self.now c.args.stamp) (omega arith) c.is_lacked_at.ensures c.if-is_lacked_at.false c.loop-place.invariant

pub returns : goal.returns
returns c =
    lacked_nowhere (λ s. not (is_among s (holders_of c.args.self.now c.args.stamp))) (λ s. has c.args.self.now.set s && is_member c.args.members.now s) c.loop-place.place (is_lacked c.args.members.now c.args.self.now c.args.stamp) (omega arith) c.loop-place.invariant
