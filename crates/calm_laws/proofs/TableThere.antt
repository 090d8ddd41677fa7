-- The synchronization site of a group has its table.
use Rattle.std.proofs.Common.{◌≡◌, ℕ, zero, suc, ◌-◌, ◌==◌, ◌<◌, ◌≤◌, ◌⊎◌, Bool, true, false, cond, List, [], ◌∷◌, map, filter, length, Some, refl, sym, ◌∙◌, ap, subst, inl, inr, arith}
use Rattle.std.proofs.lemmas.Bool.Decides.{nat_tests}
use Rattle.std.proofs.lemmas.Nat.Bits.{bit_at-zero}
use Rattle.std.specs.List.{slice_index_or}
use Rattle.role_steps.proofs.of_plain_facts.Tests.{true_false}
use Rattle.locus_ids.specs.Sites.{has}
use Rattle.locus_ids.specs.declared.config.Config.{Config}
use Rattle.locus_ids.specs.declared.sites.Sites.{Sites}
use Rattle.role_steps.specs.Adoption.{table_group}
use Rattle.role_steps.specs.Epochs.{frame_in, is_sync_site, own_groups}
use Rattle.role_steps.specs.Tables.{row}
use Rattle.role_steps.specs.Views.{SiteView, all_groups, pack_sites, sync_site}
use Rattle.role_steps.specs.declared.rounds.InEpoch.{InEpoch}
use Rattle.role_steps.specs.declared.synchronizing.SyncTable.{SyncTable}
use Rattle.the_run.specs.Kept.{Among}
use Rattle.the_run.specs.Worlds.{Line}
use Rattle.store_laws.specs.OneTree.Places.{InsideFact}
use Rattle.calm_laws.proofs.Members.{sync_is}

-- ---- lists ----

pub left_in : (p : ℕ → Bool) (k : ℕ) (xs : List ℕ) → Among k xs → p k ≡ true → Among k (filter p xs)
left_in p k [] a h = a
left_in p k (x ∷ xs) a h = over (p x) refl a (λ b. left_in p k xs b h)
  where
    over : (b : Bool) → p x ≡ b → (k ≡ x) ⊎ Among k xs → (Among k xs → Among k (filter p xs)) → Among k (cond b (x ∷ filter p xs) (filter p xs))
    over true is (inl e) later = inl e
    over true is (inr m) later = inr (later m)
    over false is (inl e) later = absurd (true_false (sym h ∙ (ap p e ∙ is)))
    over false is (inr m) later = later m

row_there : (g : ℕ) (ts : List SyncTable) → Among g (map table_group ts) → (t : SyncTable) × (row table_group g ts ≡ Some t)
row_there g [] a = absurd a
row_there g (x ∷ xs) a = over (table_group x == g) refl a (row_there g xs)
  where
    same : (n k : ℕ) → k ≡ n → (n == k) ≡ true
    same n k e = grind (arith, nat_tests)

    over : (b : Bool) → (table_group x == g) ≡ b → (g ≡ table_group x) ⊎ Among g (map table_group xs) → (Among g (map table_group xs) → (t : SyncTable) × (row table_group g xs ≡ Some t)) → (t : SyncTable) × (elim b [ true ↦ Some x | false ↦ row table_group g xs ] ≡ Some t)
    over true is m later = (x, refl)
    over false is (inl e) later = absurd (true_false (sym (same (table_group x) g e) ∙ is))
    over false is (inr m) later = later m

-- ---- groups of which a pack is ----

beyond : (xs : List Sites) (k : ℕ) (d : Sites) → length xs ≤ k → slice_index_or xs k d ≡ d
beyond [] k d h = refl
beyond (x ∷ xs) zero d h = absurd (omega (arith, h))
beyond (x ∷ xs) (suc k) d h = beyond xs k d (omega (arith, h))

none_has : (s : ℕ) → has (record { 0 = 0 }) s ≡ false
none_has s = rw (bit_at-zero (s - 1)) refl

below_or : (a b : ℕ) → (a < b) ⊎ (b ≤ a)
below_or a zero = inr (omega arith)
below_or zero (suc b) = inl (omega arith)
below_or (suc a) (suc b) = over (below_or a b)
  where
    over : (a < b) ⊎ (b ≤ a) → (suc a < suc b) ⊎ (suc b ≤ suc a)
    over (inl h) = inl (omega (arith, h))
    over (inr h) = inr (omega (arith, h))

pub packed_low : (c : Config) (group s : ℕ) → has (pack_sites c group) s ≡ true → group < length c.packs
packed_low c group s h = over (below_or group (length c.packs))
  where
    over : (group < length c.packs) ⊎ (length c.packs ≤ group) → group < length c.packs
    over (inl k) = k
    over (inr k) = absurd (true_false (sym h ∙ (ap (λ (x : Sites). has x s) (beyond c.packs group (record { 0 = 0 }) k) ∙ none_has s)))

pub listed : (group : ℕ) → group < 4 → Among group all_groups
listed zero h = inl refl
listed (suc zero) h = inr (inl refl)
listed (suc (suc zero)) h = inr (inr (inl refl))
listed (suc (suc (suc zero))) h = inr (inr (inr (inl refl)))
listed (suc (suc (suc (suc k)))) h = absurd (omega (arith, h))

-- ---- the table ----

synced_here : (c : Config) (e : InEpoch) (group css : ℕ) → sync_site c e.members group ≡ Some css → is_sync_site c css e.members group ≡ true
synced_here c e group css h = is ∙ same css
  where
    is : is_sync_site c css e.members group ≡ (css == css)
    is = rw h refl

    same : (n : ℕ) → (n == n) ≡ true
    same n = grind (arith, nat_tests)

pub table_there : (c : Config) (trace : List Line) (e : InEpoch) (group css boot : ℕ) (v : SiteView) → length c.packs ≤ 4 → InsideFact c (frame_in c css boot e) trace v → sync_site c e.members group ≡ Some css → (t : SyncTable) × (row table_group group v.tables ≡ Some t)
table_there c trace e group css boot v few inside sync = row_there group v.tables (subst (λ (gs : List ℕ). Among group gs) (sym inside.groups)
    (left_in (is_sync_site c css e.members) group (own_groups c css) (left_in (λ (g : ℕ). has (pack_sites c g) css) group all_groups (listed group low) packed) (synced_here c e group css sync)))
  where
    packed : has (pack_sites c group) css ≡ true
    packed = (sync_is c e group css sync).0

    low : group < 4
    low = (let k : group < length c.packs = packed_low c group css packed in omega (arith, k, few))
