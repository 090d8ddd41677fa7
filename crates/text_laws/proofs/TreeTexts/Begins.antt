-- The past before the first record is one of texts.
use Rattle.std.proofs.Common.{◌≡◌, ◌≤◌, ℕ, zero, suc, ◌+◌, true, filter, map, refl, arith}
use Rattle.std.proofs.lemmas.Bool.Decides.{nat_tests}
use Rattle.std.specs.List.{AllByRecursion}
use Rattle.std.specs.Prelude.{nat_lt}
use Rattle.locus_ids.specs.Sizes.{sites_max}
use Rattle.locus_ids.specs.declared.config.Config.{Config}
use Rattle.locus_ids.specs.declared.ids.Kind.TheVariants.{Dir}
use Rattle.commit_graph.specs.Vectors.{numbers_from}
use Rattle.call_rules.specs.Walks.{root_of}
use Rattle.tree_model.specs.Histories.{format_stamp, format_version}
use Rattle.tree_model.specs.Packs.{has_pack, packs_of}
use Rattle.promises.specs.Past.{Copy, Making, first_site, groups, nothing_yet}
use Rattle.past_laws.specs.Along.{IsNamed}
use Rattle.past_laws.proofs.Alls.{all_filtered, all_images, all_mapped}
use Rattle.record_reading.specs.Ranges as range
use Rattle.text_laws.proofs.TreeTexts.Texts.{PastText, SiteText, has_data, is_copy, is_making}

root_copy : ℕ → Copy
root_copy group = record { file = root_of group; stamp = format_stamp }

root_making : Config → ℕ → Making
root_making c group = record { file = root_of group; kind = Dir; set = packs_of c group }

first_text : (c : Config) (site : ℕ) → range.is_any_site site ≡ true → SiteText (first_site c site)
unfolding root_copy
first_text c site h = record {
  number = h;
  epoch = refl;
  names = refl;
  held = all_images is_copy root_copy (filter (λ group. has_pack c group site) groups) (all_filtered (λ group. is_copy (root_copy group)) (λ group. has_pack c group site) groups refl);
}

sites_text : (c : Config) (first many : ℕ) → 1 ≤ first → first + many ≤ sites_max + 1 → AllByRecursion SiteText (map (first_site c) (numbers_from first many))
sites_text c first zero low high = tt
sites_text c first (suc many) low high = (first_text c first (test first low (omega (arith, high))), sites_text c (first + 1) many (omega arith) (omega (arith, high)))
  where
    test : (n : ℕ) → 1 ≤ n → n ≤ sites_max → range.is_any_site n ≡ true
    test n a b = grind (arith, nat_tests)

pub nothing_text : (c : Config) → IsNamed c → PastText (nothing_yet c)
unfolding root_making
nothing_text c named = record {
  sites = sites_text c 1 c.sites (omega arith) (let few = named.sites in omega (arith, few));
  epochs = tt;
  calls = tt;
  history = all_mapped has_data format_version (λ group. refl) (filter (λ group. nat_lt 0 (packs_of c group).0) groups);
  files = all_images is_making (root_making c) groups refl;
}
