-- The tables of a site that joins an epoch: one for each group that it synchronizes.
use Rattle.std.proofs.Common.{◌≡◌, ◌≤◌, ℕ, zero, suc, ◌+◌, ◌==◌, Bool, true, false, not, ◌&&◌, cond, List, [], ◌∷◌, map, filter, get_or, Option, Some, None, refl, ◌∙◌, ap, subst, ◌⊎◌, inl, inr, arith}
use Rattle.std.proofs.lemmas.Bool.Decides.{nat_tests}
use Rattle.role_steps.proofs.of_plain_facts.Numbers.{equal_self}
use Rattle.role_steps.proofs.of_plain_facts.Options.{none_some, some_same}
use Rattle.role_steps.proofs.of_plain_facts.Tests.{and_second}
use Rattle.locus_ids.specs.Sites.{has}
use Rattle.locus_ids.specs.declared.ids.Serial.{Serial}
use Rattle.locus_ids.specs.declared.sites.Members.{Members}
use Rattle.locus_ids.specs.declared.sites.Sites.{Sites}
use Rattle.locus_ids.specs.declared.config.Config.{Config}
use Rattle.role_steps.specs.Views.{Frame, boot_in, is_member, all_sites, all_groups, pack_sites, first_site, sync_site}
use Rattle.role_steps.specs.Reports.{new_table}
use Rattle.role_steps.specs.Epochs.{frame_in, own_groups, is_sync_site, member_boot, chosen_members}
use Rattle.role_steps.specs.declared.rounds.InEpoch.{InEpoch}
use Rattle.role_steps.specs.declared.rounds.Round.{Round}
use Rattle.role_steps.specs.declared.synchronizing.SyncTable.{SyncTable}
use Rattle.role_steps.proofs.Counted.{CountsFrom, sites_count}
use Rattle.the_run.specs.Kept.{Among}
use Rattle.site_laws.proofs.Locks.GrantSites.{is_synced}
use Rattle.site_laws.specs.Packs.InstanceBook.{Placed, Book}
use Rattle.site_laws.specs.Packs.InstanceFacts.{TableFact, TablesFact}

-- ---- the boot number of a site among the members ----

at_place : (f : ℕ → ℕ) (start : ℕ) (xs : List ℕ) (place : ℕ) → CountsFrom start xs → (get_or (map f xs) place 0 ≡ f (start + place)) ⊎ (get_or (map f xs) place 0 ≡ 0)
at_place f start [] zero h = inr refl
at_place f start [] (suc place) h = inr refl
at_place f start (x ∷ xs) zero h = inl (ap f (h.0 ∙ plus_none start))
  where
    plus_none : (n : ℕ) → n ≡ n + 0
    plus_none n = omega arith
at_place f start (x ∷ xs) (suc place) h = moved (at_place f (start + 1) xs place h.1)
  where
    next : (n k : ℕ) → n + 1 + k ≡ n + suc k
    next n k = omega arith

    moved : (get_or (map f xs) place 0 ≡ f (start + 1 + place)) ⊎ (get_or (map f xs) place 0 ≡ 0) → (get_or (map f xs) place 0 ≡ f (start + suc place)) ⊎ (get_or (map f xs) place 0 ≡ 0)
    moved (inl e) = inl (e ∙ ap f (next start place))
    moved (inr e) = inr e

mapped : (f : ℕ → ℕ) (s : ℕ) → (boot_in (map f all_sites) s ≡ f s) ⊎ (boot_in (map f all_sites) s ≡ 0)
mapped f zero = inr refl
mapped f (suc place) = moved (at_place f 1 all_sites place sites_count)
  where
    one_more : (k : ℕ) → 1 + k ≡ suc k
    one_more k = omega arith

    moved : (get_or (map f all_sites) place 0 ≡ f (1 + place)) ⊎ (get_or (map f all_sites) place 0 ≡ 0) → (get_or (map f all_sites) place 0 ≡ f (suc place)) ⊎ (get_or (map f all_sites) place 0 ≡ 0)
    moved (inl e) = inl (e ∙ ap f (one_more place))
    moved (inr e) = inr e

-- a member has this boot number in the list, if it is in it
abbrev pub OwnBoot : Members → ℕ → ℕ → Type 0
OwnBoot m me boot = (boot_in m.boot me ≡ boot) ⊎ (boot_in m.boot me ≡ 0)

own_case : (b : Bool) (boot other : ℕ) (t : Bool) → t ≡ true → (cond b (cond t boot other) 0 ≡ boot) ⊎ (cond b (cond t boot other) 0 ≡ 0)
own_case true boot other true e = inl refl
own_case true boot other false e = absurd (cc)
own_case false boot other t e = inr refl

pub chosen_boot : (me boot : ℕ) (r : Round) (set : Sites) → OwnBoot (chosen_members me boot r set) me boot
chosen_boot me boot r set = pick (mapped (member_boot me boot r set) me) (own_case (has set me) boot (boot_in r.polled.boot me) (me == me) (equal_self me))
  where
    B : ℕ
    B = boot_in (map (member_boot me boot r set) all_sites) me

    pick : (B ≡ member_boot me boot r set me) ⊎ (B ≡ 0) → (member_boot me boot r set me ≡ boot) ⊎ (member_boot me boot r set me ≡ 0) → (B ≡ boot) ⊎ (B ≡ 0)
    pick (inr e) g = inr e
    pick (inl e) (inl g) = inl (e ∙ g)
    pick (inl e) (inr g) = inr (e ∙ g)

-- ---- the synchronization site is a member ----

first_case : (test : ℕ → Bool) (x : ℕ) (xs : List ℕ) (s : ℕ) (b : Bool) → test x ≡ b → (first_site xs ≡ Some s → test s ≡ true) → first_site (cond b (x ∷ xs) xs) ≡ Some s → test s ≡ true
first_case test x xs s true e rest g = subst (λ (y : ℕ). test y ≡ true) (some_same x s g) e
first_case test x xs s false e rest g = rest g

first_passes : (test : ℕ → Bool) (xs : List ℕ) (s : ℕ) → first_site (filter test xs) ≡ Some s → test s ≡ true
first_passes test [] s h = absurd (none_some s h)
first_passes test (x ∷ xs) s h = first_case test x (filter test xs) s (test x) refl (first_passes test xs s) h

member_boots : (boot : ℕ) → not (boot == 0) ≡ true → boot ≡ 0 → ⊥
member_boots boot h e = grind (arith, nat_tests)

pub sync_boot : (c : Config) (m : Members) (group me boot : ℕ) → sync_site c m group ≡ Some me → OwnBoot m me boot → boot_in m.boot me ≡ boot
sync_boot c m group me boot h (inl e) = e
sync_boot c m group me boot h (inr e) = absurd (member_boots (boot_in m.boot me) (and_second (has (pack_sites c group) me) (is_member m me) (first_passes (λ s. has (pack_sites c group) s && is_member m s) all_sites me h)) e)

-- ---- the new tables ----

-- numbers that ascend from this one on
abbrev Ascends : ℕ → List ℕ → Type 0
Ascends low [] = Unit {0}
Ascends low (x ∷ xs) = (low ≤ x) × Ascends (x + 1) xs

lower : (low high : ℕ) (xs : List ℕ) → low ≤ high → Ascends high xs → Ascends low xs
lower low high [] le h = tt
lower low high (x ∷ xs) le h = (at_least x h.0, h.1)
  where
    at_least : (y : ℕ) → high ≤ y → low ≤ y
    at_least y k = omega (arith, le, k)

filtered_case : (low x : ℕ) (xs : List ℕ) (b : Bool) → low ≤ x → Ascends (x + 1) xs → Ascends low (cond b (x ∷ xs) xs)
filtered_case low x xs true le h = (le, h)
filtered_case low x xs false le h = lower low (x + 1) xs (omega (arith, le)) h

filtered : (test : ℕ → Bool) (low : ℕ) (xs : List ℕ) → Ascends low xs → Ascends low (filter test xs)
filtered test low [] h = tt
filtered test low (x ∷ xs) h = filtered_case low x (filter test xs) (test x) h.0 (filtered test (x + 1) xs h.1)

four : Ascends 0 all_groups
four = (omega arith, (omega arith, (omega arith, (omega arith, tt))))

-- nothing was placed in the epoch by this boot
abbrev pub Unplaced : Frame → Book → Type 0
Unplaced f book = (inst : Serial) (group ss : ℕ) → Among (Placed f.epoch inst group f.me f.boot ss) book → ⊥

-- a lower bound of tables
lower_tables : (book : Book) (f : Frame) (low high : ℕ) (ts : List SyncTable) → low ≤ high → TablesFact book f high ts → TablesFact book f low ts
lower_tables book f low high [] le k = tt
lower_tables book f low high (t ∷ ts) le k = (at_least t.group k.0, k.1, k.2)
  where
    at_least : (y : ℕ) → high ≤ y → low ≤ y
    at_least y q = omega (arith, le, q)

table_case : (book : Book) (f : Frame) (low g : ℕ) (gs : List ℕ) (b : Bool) → low ≤ g → (b ≡ true → TableFact book f (new_table g)) → TablesFact book f (g + 1) (map new_table gs) → TablesFact book f low (map new_table (cond b (g ∷ gs) gs))
table_case book f low g gs true le fact rest = (le, fact refl, rest)
table_case book f low g gs false le fact rest = lower_tables book f low (g + 1) (map new_table gs) (omega (arith, le)) rest

new_fact : (book : Book) (f : Frame) (g : ℕ) → Unplaced f book → OwnBoot f.members f.me f.boot → sync_site f.config f.members g ≡ Some f.me → TableFact book f (new_table g)
new_fact book f g none own is = record {
  css_is = is;
  boot_is = sync_boot f.config f.members g f.me f.boot is own;
  opens = tt;
  looks = tt;
  early = tt;
  has = λ inst ss n. absurd (none inst g ss n);
}

each_table : (book : Book) (f : Frame) (low : ℕ) (gs : List ℕ) → Unplaced f book → OwnBoot f.members f.me f.boot → Ascends low gs → ((g : ℕ) → is_sync_site f.config f.me f.members g ≡ true → sync_site f.config f.members g ≡ Some f.me) →
    TablesFact book f low (map new_table (filter (is_sync_site f.config f.me f.members) gs))
each_table book f low [] none own h is = tt
each_table book f low (g ∷ gs) none own h is =
    table_case book f low g (filter (is_sync_site f.config f.me f.members) gs) (is_sync_site f.config f.me f.members g) h.0 (λ e. new_fact book f g none own (is g e)) (each_table book f (g + 1) gs none own h.1 is)

-- the tables of a site that has just joined
pub new_tables : (book : Book) (c : Config) (me boot : ℕ) (e : InEpoch) → Unplaced (frame_in c me boot e) book → OwnBoot e.members me boot → TablesFact book (frame_in c me boot e) 0 (map new_table (filter (is_sync_site c me e.members) (own_groups c me)))
new_tables book c me boot e none own = each_table book (frame_in c me boot e) 0 (own_groups c me) none own (filtered (λ g. has (pack_sites c g) me) 0 all_groups four) (is_synced c me e.members)
