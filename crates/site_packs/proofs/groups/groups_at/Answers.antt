use Rattle.std.proofs.Common.{◌∙◌, ◌++◌, ℕ, List, ap}
use Rattle.locus_ids.specs.Sites.{has}
use Rattle.role_steps.specs.Views.{pack_sites}
use Rattle.site_packs.proofs.Mounts.{chosen, groups_are_made}
use Rattle.site_packs.proofs.groups.groups_at.Goals as goal

pub returns : goal.returns
returns c =
    let config = c.args.config.now in
    let site = c.args.site in
    c.in_ok-push_group-4.ensures
    ∙ ap (λ (l : List ℕ). l ++ chosen (has (pack_sites config 3) site) 3) c.in_ok-push_group-3.ensures
    ∙ ap (λ (l : List ℕ). (l ++ chosen (has (pack_sites config 2) site) 2) ++ chosen (has (pack_sites config 3) site) 3) c.in_ok-push_group-2.ensures
    ∙ ap (λ (l : List ℕ). ((l ++ chosen (has (pack_sites config 1) site) 1) ++ chosen (has (pack_sites config 2) site) 2) ++ chosen (has (pack_sites config 3) site) 3) c.in_ok-push_group.ensures
    ∙ ap (λ (l : List ℕ). (((l ++ chosen (has (pack_sites config 0) site) 0) ++ chosen (has (pack_sites config 1) site) 1) ++ chosen (has (pack_sites config 2) site) 2) ++ chosen (has (pack_sites config 3) site) 3) c.new-groups.ensures
    ∙ groups_are_made config site
