-- The set of a make is the one that the words of its call say.
use Rattle.std.proofs.Common.{◌≡◌, ℕ, List, Option, Some, None, refl, ◌∙◌, ap}
use Rattle.std.specs.Option.{option_map}
use Rattle.locus_ids.specs.declared.config.Config.{Config}
use Rattle.locus_ids.specs.declared.ids.CallId.{CallId}
use Rattle.locus_ids.specs.declared.ids.EpochId.{EpochId}
use Rattle.the_run.specs.Worlds.{Line}
use Rattle.tree_model.specs.declared.accepted.Waiting.{Waiting}
use Rattle.tree_model.specs.Calls.{call_named}
use Rattle.tree_model.specs.Files.{words_named}
use Rattle.tree_model.specs.Opening.{making_set, sites_made}
use Rattle.tree_model.specs.Packs.{packs_of}
use Rattle.tree_model.specs.State.{call_in, words_of}
use Rattle.tree_model.specs.Tree.{tree_of}
use Rattle.tree_laws.specs.Printed.{entries}
use Rattle.tree_laws.proofs.Kinship.{tree_group_is}
use Rattle.tree_laws.proofs.Orders.Knowing.{tree_config}
use Rattle.tree_laws.proofs.Syncs.TreeCalls.{call_in_is}

words_same : (c : Config) (e : EpochId) (g : ℕ) (t : List Line) (d : CallId) → words_of (call_in (tree_of c e g (entries t)).calls d) ≡ words_named (entries t) (Some d)
words_same c e g t d = ap words_of (call_in_is c e g (entries t) d) ∙ over (call_named (entries t) d)
  where
    over : (o : Option Waiting) → words_of (option_map (λ (w : Waiting). record { call = w.call; process = w.process; words = w.words }) o) ≡ option_map (λ (w : Waiting). w.words) o
    over None = refl
    over (Some w) = refl

pub making_said : (c : Config) (t : List Line) (e : EpochId) (d : CallId) (g : ℕ) → making_set (tree_of c e g (entries t)) d ≡ sites_made (packs_of c g) (words_named (entries t) (Some d))
making_said c t e d g =
    ap (λ (k : Config). sites_made (packs_of k (tree_of c e g (entries t)).group) (words_of (call_in (tree_of c e g (entries t)).calls d))) (tree_config c e g (entries t)) ∙
    (ap (λ (k : ℕ). sites_made (packs_of c k) (words_of (call_in (tree_of c e g (entries t)).calls d))) (tree_group_is c e g (entries t)) ∙ ap (sites_made (packs_of c g)) (words_same c e g t d))
