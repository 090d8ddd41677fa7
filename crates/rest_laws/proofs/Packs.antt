-- The packs of a schedule's cluster are at some of its sites, of which there are at most sixteen.
use Rattle.std.proofs.Common.{◌≡◌, ◌<◌, ℕ, zero, suc, Bool, true, false, ◌&&◌, not, List, [], ◌∷◌, ◌++◌, slice_index_or, slice_set, sym, subst, append_assoc, arith}
use Rattle.std.proofs.lemmas.List.Sums.{fold-append}
use Rattle.role_steps.proofs.of_plain_facts.Tests.{and_second}
use Rattle.locus_ids.specs.declared.config.Config.{Config}
use Rattle.locus_ids.specs.declared.sites.Sites.{Sites}
use Rattle.locus_ids.specs.Sizes.{set_span}
use Rattle.schedule_lines.specs.Cluster.{config_of, has_packs, no_cluster, no_sites, with_line}
use Rattle.schedule_lines.specs.Ranges.{is_between, is_some_sites}
use Rattle.schedule_lines.specs.Schedule.{AreInOrder, MayFollow, MayStand, has_begun}
use Rattle.schedule_lines.specs.declared.header.HeaderLine.TheVariants as header
use Rattle.schedule_lines.specs.declared.line.ScheduleLine.{ScheduleLine}
use Rattle.schedule_lines.specs.declared.line.ScheduleLine.TheVariants.{Passed, Header, Event}
use Rattle.role_steps.specs.Own.{Every}
use Rattle.store_laws.specs.of_tree_laws.Orders.Joining.{PacksAreOfSites}
use Rattle.rest_laws.proofs.Premises.{some_low}

-- the cluster with one line more
config_more : (earlier : List ScheduleLine) (l : ScheduleLine) → config_of (earlier ++ l ∷ []) ≡ with_line (config_of earlier) l
config_more earlier l = fold-append with_line no_cluster earlier (l ∷ [])

-- the sites are some of the sixteen
abbrev Low : Sites → Type 0
Low set = set.0 < set_span

low_set : (xs : List Sites) (i : ℕ) (set : Sites) → Low set → Every Low xs → Every Low (slice_set xs i set)
low_set [] i set k h = tt
low_set (x ∷ xs) zero set k h = (k, h.1)
low_set (x ∷ xs) (suc i) set k h = (h.0, low_set xs i set k h.1)

low_at : (xs : List Sites) (i : ℕ) → Every Low xs → Low (slice_index_or xs i no_sites)
low_at [] i h = omega arith
low_at (x ∷ xs) zero h = h.0
low_at (x ∷ xs) (suc i) h = low_at xs i h.1

few_line : (earlier : List ScheduleLine) (l : ScheduleLine) → MayStand earlier l → Every Low (config_of earlier).packs → Every Low (with_line (config_of earlier) l).packs
few_line earlier (Header (header.Sites count)) h few = few
few_line earlier (Header (header.Group group set)) h few =
    low_set (config_of earlier).packs group set
    (some_low (config_of earlier).sites set (and_second (is_between 0 3 group && not (has_packs (config_of earlier) group)) (is_some_sites (config_of earlier).sites set) (and_second (not (has_begun earlier)) (is_between 0 3 group && not (has_packs (config_of earlier) group) && is_some_sites (config_of earlier).sites set) h)))
    few
few_line earlier (Header (header.Mount group name)) h few = few
few_line earlier Passed h few = few
few_line earlier (Event e) h few = few

few_packs : (earlier later : List ScheduleLine) → MayFollow earlier later → Every Low (config_of earlier).packs → Every Low (config_of (earlier ++ later)).packs
few_packs earlier [] h few = subst (λ (c : Config). Every Low c.packs) (sym (fold-append with_line no_cluster earlier [])) few
few_packs earlier (l ∷ later) h few =
    subst (λ (ls : List ScheduleLine). Every Low (config_of ls).packs) (append_assoc earlier (l ∷ []) later)
    (few_packs (earlier ++ l ∷ []) later h.1 (subst (λ (c : Config). Every Low c.packs) (sym (config_more earlier l)) (few_line earlier l h.0 few)))

none_low : Low no_sites
none_low = omega arith

pub schedule_packs : (lines : List ScheduleLine) → AreInOrder lines → PacksAreOfSites (config_of lines)
schedule_packs lines h group = low_at (config_of lines).packs group (few_packs [] lines h (none_low, (none_low, (none_low, (none_low, tt)))))
