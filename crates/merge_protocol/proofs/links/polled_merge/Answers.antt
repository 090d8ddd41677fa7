use Rattle.std.proofs.Common.{◌∙◌, ℕ, List, ap, arith}
use Rattle.std.proofs.Math.ListN.{length-set}
use Rattle.locus_ids.specs.declared.sites.Links.{Links}
use Rattle.role_steps.specs.Epochs.{merge_boot}
use Rattle.epoch_rules.proofs.EachSite.{one_made, made_for_each}
use Rattle.merge_protocol.proofs.links.polled_merge.Goals as goal

pub loop-place-preserved : goal.loop-place-preserved
loop-place-preserved c = record {
  whole = length-set c.loop-place.boot c.loop-place.place c.merge_boot.result ∙ c.loop-place.invariant.whole;
  made = one_made (merge_boot c.args.me c.args.links.now) c.loop-place.boot c.loop-place.place c.site_at.result c.merge_boot.result c.loop-place.invariant.whole (omega arith) c.loop-place.invariant.made c.site_at.ensures c.merge_boot.ensures;
}

pub returns : goal.returns
returns c = ap (λ (bs : List ℕ). let made : Links = record { boot = bs } in made) (made_for_each (merge_boot c.args.me c.args.links.now) c.loop-place.boot c.loop-place.invariant.whole (λ k l. c.loop-place.invariant.made k (omega arith)))
