-- A new pack is sound, and its view is the root.
use Rattle.std.proofs.Common.{◌≡◌, ◌≢◌, ℕ, ◌+◌, ◌-◌, ◌*◌, ◌≤◌, ◌<◌, Bool, true, false, List, [], length, get_or, replicate, refl, sym, ◌∙◌, ap, subst, arith, inl, ⊎_elim}
use Rattle.std.specs.Prelude.{None, Some, ◌==◌, if◌then◌else◌}
use Rattle.std.proofs.lemmas.Bool.{eqb-true, eq-eqb, cases_Bool, cases_eq, cases_lt}
use Rattle.std.proofs.lemmas.List.{get_or-replicate, get_or_past, length-replicate}
use Rattle.std.proofs.lemmas.Nat.Bits.{bit_at-zero}
use Rattle.std.specs.Int.{bit_at}
use Rattle.locus_ids.specs.Sizes.{sites_max, inodes_max, slot_pages, content_tables_max, pack_pages, pack_tables, set_span}
use Rattle.locus_ids.specs.declared.sites.Sites.{Sites}
use Rattle.locus_ids.specs.Sites.{has}
use Rattle.disk_model.specs.Images.{bytes_at, overwritten, Torn}
use Rattle.pack_layout.specs.declared.half.Half.{Half}
use Rattle.pack_layout.specs.declared.half.Half.TheVariants.{First, Second}
use Rattle.pack_layout.specs.Layout.{area_length, tables_at, slot_at, slot_bytes, none, numbers_of, NameApart, NamePages, IsSlot, half_number}
use Rattle.pack_layout.proofs.Halves.{half_most}
use Rattle.inode_switch.specs.View.{is_open}
use Rattle.pack_slots.specs.Copies.{superblock, ShowsCopy, ShowsCopies}
use Rattle.pack_slots.specs.Slots.{IsGoodInode, IsFound, counting_place}
use Rattle.pack_slots.specs.Mounting.{IsSound, IsShared, IsSharedTable}
use Rattle.inode_switch.proofs.of_gate_switch.Tearing.{bytes_below, torn_above, written_there}
use Rattle.pack_layout.specs.of_file_content.Pages.{pages_of}
use Rattle.pack_slots.proofs.Numbers.{few_named}
use Rattle.pack_slots.proofs.Counting.{found_counts}
use Rattle.pack_slots.proofs.Finding.{found_good}
use Rattle.pack_slots.specs.Format.{root_slot, new_copy, IsNew}

pub stored_somewhere : (set : Sites) (site : ℕ) → has set site ≡ true → 1 ≤ set.0
stored_somewhere set site is = ⊎_elim
    (λ (none : set.0 < 1).
    let e : set.0 ≡ 0 = omega arith in
    let zero_bit : bit_at set.0 (site - 1) ≡ 0 = ap (λ (n : ℕ). bit_at n (site - 1)) e ∙ bit_at-zero (site - 1) in
    let one = eqb-true (bit_at set.0 (site - 1)) 1 is in
    absurd (omega arith))
    (λ some. some)
    (cases_lt set.0 1)

abbrev none_set : Sites
none_set = record { 0 = 0 }

no_counter : (i : ℕ) → get_or (root_slot none_set).vector i 0 ≡ 0
no_counter i = ⊎_elim
    (λ (lt : i < sites_max). get_or-replicate sites_max i 0 0 lt)
    (λ (le : sites_max ≤ i). get_or_past (root_slot none_set).vector i 0 le)
    (cases_lt i sites_max)

-- numbers that name nothing
names_nothing : (most limit : ℕ) → NameApart most limit 0 (replicate most none)
names_nothing most limit = record {
  count = length-replicate most none;
  inside = λ i lt. absurd (omega arith);
  distinct = λ i j lt below. absurd (omega arith);
  rest = λ i le lt. get_or-replicate most i none 0 lt;
}

pub root_is_slot : (set : Sites) → 1 ≤ set.0 → set.0 < set_span → IsSlot (root_slot set)
root_is_slot set some sites = record {
  turn = omega arith;
  low = omega arith;
  high = omega arith;
  some = some;
  sites = sites;
  size = omega arith;
  stamp = inl (refl, refl);
  vector = record { count = refl; each = λ i. let e = no_counter i in omega arith; own = λ le. absurd (omega arith); none = λ e i. no_counter i };
  pages = names_nothing slot_pages pack_pages;
  tables = names_nothing content_tables_max pack_tables;
}

-- and its tables name nothing
root_names : (set : Sites) → NamePages (pages_of (root_slot set).size) (numbers_of (root_slot set).pages [])
root_names set = few_named 0 (root_slot set).pages (omega arith) (names_nothing slot_pages pack_pages)

pub length-superblock : (group site : ℕ) → length (superblock group site) ≡ 1024
unfolding superblock
length-superblock group site = refl

-- the first bytes are written, all slots are cleared, and then the root is written
pub made_new : (base group site : ℕ) (set : Sites) (old first cleared new : List ℕ) → base + area_length ≤ length old → first ≡ overwritten old base (superblock group site) → Torn (base + 1024) 2097152 first cleared
    → ((k : ℕ) → 1024 ≤ k → k < tables_at → get_or cleared (base + k) 0 ≡ 0) → Torn (base + 1024) 512 cleared new → bytes_at new (base + 1024) 512 ≡ slot_bytes (root_slot set) → IsNew base group site set new
made_new base group site set old first cleared new area is clears zeros beside root =
    let block = superblock group site in
    let long = length-superblock group site in
    record {
      named = bytes_below (base + 1024) 512 cleared new beside base 1024 (omega arith) ∙ bytes_below (base + 1024) 2097152 first cleared clears base 1024 (omega arith)
          ∙ ap (λ (l : List ℕ). bytes_at l base 1024) is ∙ ap (λ (n : ℕ). bytes_at (overwritten old base block) base n) (sym long) ∙ written_there old base block (omega arith);
      root = root;
      zeros = λ k low high. torn_above (base + 1024) 512 cleared new beside (base + k) (omega arith) ∙ zeros k (omega arith) high;
    }

module _ (base group site : ℕ) (set : Sites) (image : List ℕ) (new : IsNew base group site set image) (slot : IsSlot (root_slot set)) where
  shut_at : (place k : ℕ) → place ≡ base + k → 1536 ≤ k → k < tables_at → is_open image place ≡ false
  shut_at place k e low high = ap (λ (n : ℕ). get_or image n 0 == 165) e ∙ ap (λ (n : ℕ). n == 165) (new.zeros k low high)

  shut : (ino : ℕ) (half : Half) → 1 ≤ ino → ino ≤ inodes_max → (ino ≡ 1 → half ≡ Second) → is_open image (slot_at base ino half) ≡ false
  shut ino half low high other = shut_at (slot_at base ino half) (1024 + 1024 * (ino - 1) + 512 * half_number half) (omega arith)
      (⊎_elim (λ (e : ino ≡ 1). let f = ap half_number (other e) in omega arith) (λ (ne : ino ≢ 1). omega arith) (cases_eq ino 1)) (let most = half_most half in omega arith)

  root_found : IsFound base 1 image (Some (record { half = First; slot = root_slot set; more = [] })) false
  root_found = record {
    says = record { bytes = subst (λ (n : ℕ). bytes_at image n 512 ≡ slot_bytes (root_slot set)) (let e : base + 1024 ≡ slot_at base 1 First = omega arith in e) new.root; other = shut 1 Second (omega arith) (omega arith) (λ e. refl) };
    own = record { slot = slot; own = refl; pages = root_names set };
    tables = λ k lt. absurd (omega arith);
  }

  pub new_copies : ShowsCopies base image (new_copy set)
  new_copies ino low high = ⊎_elim
      (λ (e : ino ≡ 1).
      let is : (ino == 1) ≡ true = eq-eqb ino 1 e in
      subst (λ (b : Bool). ShowsCopy base ino image (if b then Some (record { half = First; slot = root_slot set; more = [] }) else None)) (sym is)
      (subst (λ (i : ℕ). ShowsCopy base i image (Some (record { half = First; slot = root_slot set; more = [] }))) (sym e) (root_found.says, root_found.tables)))
      (λ (ne : ino ≢ 1).
      let is : (ino == 1) ≡ false = ⊎_elim (λ (yes : (ino == 1) ≡ true). absurd (ne (eqb-true ino 1 yes))) (λ (no : (ino == 1) ≡ false). no) (cases_Bool (ino == 1)) in
      subst (λ (b : Bool). ShowsCopy base ino image (if b then Some (record { half = First; slot = root_slot set; more = [] }) else None)) (sym is)
      ((λ half. shut ino half low high (λ e. absurd (ne e))), tt))
      (cases_eq ino 1)

  none_found : (ino : ℕ) → 1 < ino → ino ≤ inodes_max → IsFound base ino image None false
  none_found ino low high = record { says = λ half. shut ino half (omega arith) high (λ e. absurd (omega arith)); own = tt; tables = tt }

  good_inode : (ino : ℕ) → 1 ≤ ino → ino ≤ inodes_max → IsGoodInode base ino image
  good_inode ino low high = ⊎_elim
      (λ (e : ino ≡ 1). subst (λ (i : ℕ). IsGoodInode base i image) (sym e) (found_good base 1 image (Some (record { half = First; slot = root_slot set; more = [] })) false root_found))
      (λ (ne : ino ≢ 1). found_good base ino image None false (none_found ino (omega arith) high))
      (cases_eq ino 1)

  no_place : (ino : ℕ) → 1 < ino → ino ≤ inodes_max → counting_place base ino image ≡ None
  no_place ino low high = found_counts base ino image None false (none_found ino low high)

  none_shared : (number : ℕ) → IsShared base number image → ⊥
  none_shared number shared =
      let low = shared.low in
      let apart = shared.apart in
      let none : None ≡ Some shared.second.place = sym (no_place shared.other (omega arith) shared.high) ∙ shared.second.counts in
      absurd cc

  no_table_shared : (number : ℕ) → IsSharedTable base number image → ⊥
  no_table_shared number shared =
      let low = shared.low in
      let apart = shared.apart in
      let none : None ≡ Some shared.second.place = sym (no_place shared.other (omega arith) shared.high) ∙ shared.second.counts in
      absurd cc

  pub new_is_sound : IsSound base group site image
  new_is_sound = record { named = new.named; inodes = good_inode; tables = no_table_shared; pages = none_shared }
