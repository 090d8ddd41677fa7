-- Of how many groups a site has a pack.
use Rattle.std.proofs.Common.{◌≡◌, ℕ, ◌+◌, Bool, true, false, cond, List, [], ◌∷◌, length, arith}
use Rattle.locus_ids.specs.Sites.{has}
use Rattle.locus_ids.specs.declared.config.Config.{Config}
use Rattle.role_steps.specs.Views.{pack_sites}
use Rattle.site_packs.specs.Packs.{groups_at}

abbrev with_first : Bool → ℕ → List ℕ → List ℕ
with_first b g rest = cond b (g ∷ rest) rest

one_more : (b : Bool) (g : ℕ) (rest : List ℕ) → length (with_first b g rest) ≡ cond b 1 0 + length rest
one_more true g rest = omega arith
one_more false g rest = omega arith

four_counted : (a b c d : Bool) → length (with_first a 0 (with_first b 1 (with_first c 2 (with_first d 3 [])))) ≡ (cond a 1 0 + cond b 1 0) + (cond c 1 0 + cond d 1 0)
four_counted a b c d =
    let one = one_more a 0 (with_first b 1 (with_first c 2 (with_first d 3 []))) in
    let two = one_more b 1 (with_first c 2 (with_first d 3 [])) in
    let three = one_more c 2 (with_first d 3 []) in
    let four = one_more d 3 [] in
    omega arith

pub groups_counted : (c : Config) (site : ℕ) → length (groups_at c site) ≡ (cond (has (pack_sites c 0) site) 1 0 + cond (has (pack_sites c 1) site) 1 0) + (cond (has (pack_sites c 2) site) 1 0 + cond (has (pack_sites c 3) site) 1 0)
unfolding groups_at
groups_counted c site = four_counted (has (pack_sites c 0) site) (has (pack_sites c 1) site) (has (pack_sites c 2) site) (has (pack_sites c 3) site)
