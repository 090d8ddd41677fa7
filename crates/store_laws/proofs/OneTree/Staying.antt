-- Whatever comes as it may keeps what packets ask of the order of versions.
use Rattle.std.proofs.Common.{ℕ, List, [], ◌∷◌}
use Rattle.locus_ids.specs.declared.config.Config.{Config}
use Rattle.role_steps.specs.Own.{Every}
use Rattle.role_steps.specs.Views.{Told}
use Rattle.the_run.specs.Worlds.{Line}
use Rattle.site_laws.specs.Vectors.Written.{past_of}
use Rattle.site_laws.specs.Vectors.HistoryCommits.{StampsAreOnce}
use Rattle.site_laws.specs.Packs.Packs.{ToldPacked}
use Rattle.tree_laws.specs.Frames.{AllStay}
use Rattle.store_laws.specs.Holdings.Below.{LawsBelow}
use Rattle.store_laws.proofs.Holdings.OneVersionOrder.{order_stays}
use Rattle.store_laws.specs.OneTree.Rest.{EachRest, IsRest, Comes, more}

pub record Stays (c : Config) : Type 0 where
  pub all : (n : ℕ) (x : Told) (older : List Line) → Comes c older x → AllStay c older (more n x older) x

each_packed : (c : Config) (trace : List Line) → EachRest c trace → Every (ToldPacked c) (past_of trace)
each_packed c [] h = tt
each_packed c (x ∷ older) h = (h.0.packed, each_packed c older h.1)

-- what other laws give is what the laws of the order of versions rest on
pub rest_below : (c : Config) (trace : List Line) → IsRest c trace → LawsBelow c trace
rest_below c trace h = record { once = once trace h.each; packed = each_packed c trace h.each; packs = h.packs }
  where
    once : (t : List Line) → EachRest c t → StampsAreOnce (past_of t)
    once [] k = λ file. tt
    once (x ∷ older) k = k.0.once

pub stays : (c : Config) → Stays c
stays c = record { all = λ n x older k. record { fresh = k.rest.fresh; order = order_stays c older n x k.past.followed k.may (rest_below c (more n x older) (record { each = (k.rest, k.past.rest.each); packs = k.past.rest.packs })) } }
