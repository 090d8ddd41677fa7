-- In a cluster of at most four groups, a site has a table of each group that it synchronizes.
use Rattle.std.proofs.Common.{◌≡◌, ℕ, zero, suc, ◌-◌, ◌==◌, ◌≤◌, ◌<◌, arith, Bool, true, false, cond, ◌&&◌, List, [], ◌∷◌, length, map, filter, slice_index_or, Option, Some, None, refl, sym, ◌∙◌, ap, subst, ◌⊎◌, inl, inr}
use Rattle.std.proofs.lemmas.Bool.Decides.{nat_tests}
use Rattle.std.proofs.lemmas.Nat.Bits.{bit_at-zero}
use Rattle.std.specs.Int.{bit_at}
use Rattle.role_steps.proofs.of_plain_facts.Numbers.{equal, equal_self}
use Rattle.role_steps.proofs.of_plain_facts.Tests.{and_first, true_false}
use Rattle.locus_ids.specs.Sites.{has}
use Rattle.locus_ids.specs.declared.config.Config.{Config}
use Rattle.locus_ids.specs.declared.sites.Members.{Members}
use Rattle.locus_ids.specs.declared.sites.Sites.{Sites}
use Rattle.role_steps.specs.Epochs.{is_sync_site, own_groups}
use Rattle.role_steps.specs.Tables.{row}
use Rattle.role_steps.specs.Views.{Frame, all_groups, all_sites, first_site, is_member, members_of, pack_sites, sync_site}
use Rattle.the_run.specs.Kept.{Among}
use Rattle.tree_model.specs.Packs as tree
use Rattle.tree_laws.proofs.Alone.{compare}
use Rattle.tree_laws.proofs.Orders.ProcessSynchronizing.{sync_same}
use Rattle.store_laws.specs.OneTree.Places.{synced_groups}
use Rattle.store_laws.proofs.OneTree.Rising.{among_filter}

none_in : (s : Sites) (site : ℕ) → s.0 ≡ 0 → has s site ≡ true → ⊥
none_in s site z h = true_false (sym h ∙ ap (λ (n : ℕ). bit_at n (site - 1) == 1) z ∙ ap (λ (n : ℕ). n == 1) (bit_at-zero (site - 1)))

beyond : (packs : List Sites) (k : ℕ) (d : Sites) → length packs ≤ k → slice_index_or packs k d ≡ d
beyond [] k d h = refl
beyond (x ∷ xs) zero d h = absurd (omega (arith, h))
beyond (x ∷ xs) (suc k) d h = beyond xs k d (omega (arith, h))

-- a pack is of one of the groups
pub packed_low : (c : Config) (g site : ℕ) → length c.packs ≤ 4 → has (pack_sites c g) site ≡ true → g < 4
packed_low c g site few h = at (compare g 4)
  where
    high : 4 ≤ g → ⊥
    high le = none_in (pack_sites c g) site (ap (λ (s : Sites). s.0) (beyond c.packs g (record { 0 = 0 }) (omega (arith, few, le)))) h

    at : (g < 4) ⊎ ((4 < g) ⊎ (g ≡ 4)) → g < 4
    at (inl lt) = lt
    at (inr (inl gt)) = absurd (high (omega (arith, gt)))
    at (inr (inr e)) = absurd (high (omega (arith, e)))

-- ---- who synchronizes ----

first_in : (ss : List ℕ) (s : ℕ) → first_site ss ≡ Some s → Among s ss
first_in [] s e = absurd (none s e)
  where
    none : (s : ℕ) → ◌≡◌ {A = Option ℕ} None (Some s) → ⊥
    none s e = cc
first_in (x ∷ ss) s e = inl (some x s e)
  where
    some : (x s : ℕ) → ◌≡◌ {A = Option ℕ} (Some x) (Some s) → s ≡ x
    some x s e = cc

sync_packed : (c : Config) (m : Members) (g me : ℕ) → sync_site c m g ≡ Some me → has (pack_sites c g) me ≡ true
sync_packed c m g me e = and_first (has (pack_sites c g) me) (is_member m me) (among_filter (λ (s : ℕ). has (pack_sites c g) s && is_member m s) me all_sites (first_in (members_of m (pack_sites c g)) me e))

-- a group that is synchronized is one of the four
pub synced_low : (c : Config) (m : Members) (g me : ℕ) → length c.packs ≤ 4 → tree.sync_site c g (Some m) ≡ Some me → g < 4
synced_low c m g me few e = packed_low c g me few (sync_packed c m g me (sync_same c m g ∙ e))

-- ---- its tables ----

among_groups : (g : ℕ) → g < 4 → Among g all_groups
among_groups g lt = at (g == 0) (g == 1) (g == 2) refl refl refl
  where
    last : (g == 0) ≡ false → (g == 1) ≡ false → (g == 2) ≡ false → g ≡ 3
    last a b d = grind (arith, nat_tests)

    at : (a b d : Bool) → (g == 0) ≡ a → (g == 1) ≡ b → (g == 2) ≡ d → Among g all_groups
    at true b d p q r = inl (equal g 0 p)
    at false true d p q r = inr (inl (equal g 1 q))
    at false false true p q r = inr (inr (inl (equal g 2 r)))
    at false false false p q r = inr (inr (inr (inl (last p q r))))

within : (p : ℕ → Bool) (k : ℕ) (xs : List ℕ) → Among k xs → p k ≡ true → Among k (filter p xs)
within p k [] m t = absurd m
within p k (x ∷ xs) m t = at (λ (q : Among k xs). within p k xs q t) (p x) refl m
  where
    at : (Among k xs → Among k (filter p xs)) → (b : Bool) → p x ≡ b → (k ≡ x) ⊎ Among k xs → Among k (cond b (x ∷ filter p xs) (filter p xs))
    at later true e (inl i) = inl i
    at later true e (inr q) = inr (later q)
    at later false e (inl i) = absurd (true_false (sym t ∙ (ap p i ∙ e)))
    at later false e (inr q) = later q

pub among_synced : (f : Frame) (g : ℕ) → length f.config.packs ≤ 4 → sync_site f.config f.members g ≡ Some f.me → Among g (synced_groups f)
among_synced f g few e = within (is_sync_site f.config f.me f.members) g (own_groups f.config f.me)
    (within (λ (k : ℕ). has (pack_sites f.config k) f.me) g all_groups (among_groups g (packed_low f.config g f.me few packed)) packed) synced
  where
    packed : has (pack_sites f.config g) f.me ≡ true
    packed = sync_packed f.config f.members g f.me e

    synced : is_sync_site f.config f.me f.members g ≡ true
    synced = rw e (equal_self f.me)

-- a row with the key is found
pub among_row : {A : Type 0} (key : A → ℕ) (k : ℕ) (xs : List A) → Among k (map key xs) → (x : A) × (row key k xs ≡ Some x)
among_row key k [] m = absurd m
among_row {A} key k (y ∷ ys) m = at (λ (q : Among k (map key ys)). among_row key k ys q) (key y == k) refl m
  where
    at : (Among k (map key ys) → (x : A) × (row key k ys ≡ Some x)) → (b : Bool) → (key y == k) ≡ b → (k ≡ key y) ⊎ Among k (map key ys) → (x : A) × (◌≡◌ {A = Option A} (elim b [ true ↦ Some y | false ↦ row key k ys ]) (Some x))
    at later true e m = (y, refl)
    at later false e (inl i) = absurd (true_false (sym (subst (λ (j : ℕ). (key y == j) ≡ true) (sym i) (equal_self (key y))) ∙ e))
    at later false e (inr q) = later q
