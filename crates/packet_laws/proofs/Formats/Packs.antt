-- A group of which some member has a pack is one of four, and some sites have packs of it.
use Rattle.std.proofs.Common.{◌≡◌, ◌≤◌, ◌<◌, ◌⊎◌, ℕ, zero, suc, ◌==◌, Bool, true, false, List, [], ◌∷◌, length, is_some, refl, ap, subst, arith, inl, inr, ◌-◌}
use Rattle.std.proofs.lemmas.Bool.Decides.{nat_tests}
use Rattle.std.specs.Prelude.{slice_index_or}
use Rattle.locus_ids.specs.declared.config.Config.{Config}
use Rattle.locus_ids.specs.declared.sites.Members.{Members}
use Rattle.locus_ids.specs.declared.sites.Sites.{Sites}
use Rattle.locus_ids.specs.Sizes.{set_span}
use Rattle.wire_fields.proofs.Members.{in_range}
use Rattle.role_steps.specs.Views.{first_site, members_of, pack_sites}
use Rattle.rest_laws.specs.of_tree_laws.Orders.Joining.{PacksAreOfSites}
use Rattle.packet_laws.specs.Values.Values.{PackFits, PacksFit}

-- nobody has a pack of no sites
none_synced : (m : Members) → is_some (first_site (members_of m (record { 0 = 0 }))) ≡ true → ⊥
none_synced m e = never e
  where
    never : false ≡ true → ⊥
    never e = cc

synced_some : (m : Members) (set : Sites) → is_some (first_site (members_of m set)) ≡ true → 1 ≤ set.0
synced_some m set e = over (set.0 == 0) refl
  where
    none : (set.0 == 0) ≡ true → set.0 ≡ 0
    none q = grind (arith, nat_tests)

    some : (set.0 == 0) ≡ false → 1 ≤ set.0
    some q = grind (arith, nat_tests)

    over : (b : Bool) → (set.0 == 0) ≡ b → 1 ≤ set.0
    over true q = absurd (none_synced m (subst (λ (n : ℕ). is_some (first_site (members_of m (record { 0 = n }))) ≡ true) (none q) e))
    over false q = some q

beyond : (xs : List Sites) (k : ℕ) (d : Sites) → length xs ≤ k → slice_index_or xs k d ≡ d
beyond [] k d h = refl
beyond (x ∷ xs) zero d h = absurd (omega (arith, h))
beyond (x ∷ xs) (suc k) d h = beyond xs k d (omega (arith, h))

below_or : (a b : ℕ) → (a < b) ⊎ (b ≤ a)
below_or a zero = inr (omega arith)
below_or zero (suc b) = inl (omega arith)
below_or (suc a) (suc b) = over (below_or a b)
  where
    over : (a < b) ⊎ (b ≤ a) → (suc a < suc b) ⊎ (suc b ≤ suc a)
    over (inl h) = inl (omega (arith, h))
    over (inr h) = inr (omega (arith, h))

pub packs_fit : (c : Config) → PacksAreOfSites c → length c.packs ≤ 4 → PacksFit c
packs_fit c packs few members group e = over (below_or group (length c.packs))
  where
    some : 1 ≤ (pack_sites c group).0
    some = synced_some members (pack_sites c group) e

    narrow : (pack_sites c group).0 < set_span
    narrow = packs group

    over : (group < length c.packs) ⊎ (length c.packs ≤ group) → PackFits c group
    over (inl h) = (omega (arith, h, few), (in_range 1 (set_span - 1) (pack_sites c group).0 some (omega (arith, narrow)), narrow))
    over (inr h) = absurd (let k : (pack_sites c group).0 ≡ 0 = ap (λ (s : Sites). s.0) (beyond c.packs group (record { 0 = 0 }) h) in omega (arith, some, k))
