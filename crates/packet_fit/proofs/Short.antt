-- The bytes of a body of the format are few.
use Rattle.std.proofs.Common.{◌≡◌, ℕ, suc, ◌+◌, ◌*◌, ◌≤◌, List, [], ◌∷◌, length, Option, None, Some, Bool, arith, ◌-◌}
use Rattle.std.proofs.lemmas.List.{length-append}
use Rattle.locus_ids.specs.Sizes.{sites_max, inodes_max, file_bytes_max, set_span}
use Rattle.trace_book.specs.Names.{is_name}
use Rattle.wire_fields.specs.Components.{is_component}
use Rattle.locus_ids.specs.declared.ids.Stamp.{Stamp}
use Rattle.locus_ids.specs.declared.ids.Kind.{Kind}
use Rattle.locus_ids.specs.declared.ids.Kind.TheVariants.{File, Dir}
use Rattle.locus_ids.specs.declared.refusal.Refusal.{Refusal}
use Rattle.locus_ids.specs.declared.refusal.Refusal.TheVariants as no
use Rattle.field_codec.specs.Codec.{Codec, u8, u16, u32, within, from_to, followed_by, pair, made, empty}
use Rattle.field_codec.specs.Lists.{counted, AllFit, spell_all}
use Rattle.field_codec.specs.Shapes.{Spelled, bytes_of, IsInRange, cases, counted_bytes}
use Rattle.field_codec.specs.Sums.{Kinds, variant}
use Rattle.wire_fields.proofs.Members.{range}
use Rattle.wire_fields.specs.Parts.{sites, numbers, processes, inodes, sizes, epochs, instances, files, files_or_new, any_set, some_set, kinds, stamps, stamps_after, ascending_stamps, vectors, vectors_of, no_vector, names, components, stamp_of, parts_of, site_after, is_after, agrees}
use Rattle.wire_fields.specs.Refusals.{refusal_number, refusal_fields, refusal_kinds, refusals}

-- the bytes of each value of the format are at most so many
pub record Within {A : Type 0} (n : ℕ) (c : Codec A) : Type 0 where
  pub most : (x : A) → c.Fits x → length (c.spell x) ≤ n

pub u8_w : Within 1 u8
u8_w = record { most = λ x h. omega arith }

pub u16_w : Within 2 u16
u16_w = record { most = λ x h. omega arith }

pub u32_w : Within 4 u32
u32_w = record { most = λ x h. omega arith }

pub test_w : {A : Type 0} {n : ℕ} {c : Codec A} (test : A → Bool) → Within n c → Within n (within test c)
test_w test w = record { most = λ x h. w.most x h.1 }

pub made_w : {A B : Type 0} {n : ℕ} {c : Codec A} (to : A → B) (from : B → A) → Within n c → Within n (made to from c)
made_w to from w = record { most = λ x h. w.most (from x) h }

pub followed_w : {A B : Type 0} {m n : ℕ} {c : Codec A} (d : A → Codec B) → Within m c → ((a : A) → Within n (d a)) → Within (m + n) (followed_by c d)
followed_w {m = m} {n = n} {c = c} d w v = record { most = λ x h. (let a = w.most x.0 h.0 in let b = (v x.0).most x.1 h.1 in omega (arith, length-append (c.spell x.0) ((d x.0).spell x.1))) }

pub pair_w : {A B : Type 0} {m n : ℕ} {c : Codec A} {d : Codec B} → Within m c → Within n d → Within (m + n) (pair c d)
pair_w {d = d} w v = followed_w (λ _. d) w (λ _. v)

pub counted_bytes_w : {m : ℕ} {count : Codec ℕ} (k : ℕ) → Within m count → ((n : ℕ) → count.Fits n → n ≤ k) → Within (m + k) (counted_bytes count)
counted_bytes_w {count = count} k w f = record { most = λ bs h. (let a = w.most (length bs) h in let b = f (length bs) h in omega (arith, length-append (count.spell (length bs)) bs)) }

pub spell_all_w : {A P : Type 0} (item : P → Codec A) (next : P → A → P) (n : ℕ) → ((p : P) → Within n (item p)) → (p : P) (xs : List A) → AllFit item next p xs → length (spell_all item next p xs) ≤ n * length xs
spell_all_w item next n w p [] h = omega arith
spell_all_w item next n w p (x ∷ xs) h =
    let a = (w p).most x h.0 in
    let b = spell_all_w item next n w (next p x) xs h.1 in
    let l : n * suc (length xs) ≡ n + n * length xs = grind arith in
    omega (arith, length-append ((item p).spell x) (spell_all item next (next p x) xs))

pub counted_w : {A P : Type 0} {m : ℕ} {count : Codec ℕ} (item : P → Codec A) (next : P → A → P) (n k : ℕ) (p : P) → Within m count → ((i : ℕ) → count.Fits i → n * i ≤ k) → ((p : P) → Within n (item p)) → Within (m + k) (counted item next count p)
counted_w {count = count} item next n k p w f v = record { most = λ xs h. (let a = w.most (length xs) h.0 in let b = f (length xs) h.0 in let d = spell_all_w item next n v p xs h.1 in omega (arith, length-append (count.spell (length xs)) (spell_all item next p xs))) }

-- ---- the parts ----

pub sites_w : Within 1 sites
sites_w = test_w (from_to 1 sites_max) u8_w

pub numbers_w : Within 4 numbers
numbers_w = test_w (from_to 1 4294967295) u32_w

pub processes_w : Within 1 processes
processes_w = test_w (from_to 0 8) u8_w

pub inodes_w : Within 2 inodes
inodes_w = test_w (from_to 1 inodes_max) u16_w

pub sizes_w : Within 4 sizes
sizes_w = test_w (from_to 0 file_bytes_max) u32_w

pub kinds_w : Within 1 kinds
kinds_w = record { most = most } where
  most : (k : Kind) → kinds.Fits k → length (kinds.spell k) ≤ 1
  most File h = omega arith
  most Dir h = omega arith

pub epochs_w : Within 9 epochs
epochs_w = made_w (λ p. record { number = p.0; site = p.1.0; boot = p.1.1 }) (λ e. (e.number, (e.site, e.boot))) (pair_w numbers_w (pair_w sites_w numbers_w))

pub instances_w : Within 5 instances
instances_w = made_w (λ p. record { us = p.0; serial = p.1 }) (λ s. (s.us, s.serial)) (pair_w sites_w numbers_w)

pub files_w : Within 3 files
files_w = made_w (λ p. record { group = p.0; ino = p.1 }) (λ f. (f.group, f.ino)) (pair_w u8_w inodes_w)

pub files_or_new_w : Within 3 files_or_new
files_or_new_w = made_w (λ p. record { group = p.0; ino = p.1 }) (λ f. (f.group, f.ino)) (pair_w u8_w (test_w (from_to 0 inodes_max) u16_w))

pub any_set_w : Within 2 any_set
any_set_w = made_w (λ n. record { 0 = n }) (λ s. s.0) u16_w

pub some_set_w : Within 2 some_set
some_set_w = made_w (λ n. record { 0 = n }) (λ s. s.0) (test_w (from_to 1 (set_span - 1)) u16_w)

pub stamps_after_w : (last : Option Stamp) → Within 5 (stamps_after last)
stamps_after_w last = made_w stamp_of parts_of (followed_w (λ site. within (is_after last site) u32) (test_w (from_to (site_after last) sites_max) u8_w) (λ site. test_w (is_after last site) u32_w))

pub stamps_w : Within 5 stamps
stamps_w = stamps_after_w None

pub ascending_w : Within 1276 ascending_stamps
ascending_w = counted_w stamps_after (λ _ stamp. Some stamp) 5 1275 None u8_w (λ i h. omega arith) stamps_after_w

abbrev pub sixteen : Codec ℕ
sixteen = variant (λ (_ : Unit {0}). sites_max) (λ _. tt) empty

pub sixteen_w : Within 0 sixteen
sixteen_w = record { most = λ x h. omega arith }

pub vectors_w : Within 64 vectors
vectors_w = counted_w {m = 0} {count = sixteen} (λ (_ : Unit {0}). u32) (λ _ _. tt) 4 64 tt sixteen_w (λ i h. let e : sites_max ≡ i = h.0 in omega arith) (λ _. u32_w)

pub vectors_of_w : (stamp : Stamp) → Within 64 (vectors_of stamp)
vectors_of_w stamp = test_w (agrees stamp) vectors_w

pub no_vector_w : Within 0 no_vector
no_vector_w = record { most = λ x h. omega arith }

pub names_w : Within 61 names
names_w = test_w is_name (counted_bytes_w 60 (test_w (from_to 1 60) u8_w) (λ n h. (range 1 60 n h.0).1))

pub components_w : Within 66 components
components_w = test_w is_component (counted_bytes_w 65 (test_w (from_to 1 65) u8_w) (λ n h. (range 1 65 n h.0).1))

-- ---- refusals, operations and answers ----

pub up : {A : Type 0} {n : ℕ} {c : Codec A} (k : ℕ) → n ≤ k → Within n c → (x : A) → c.Fits x → length (c.spell x) ≤ k
up k l w x h = let a = w.most x h in omega arith

pub refusal_short : (r : Refusal) → IsInRange (refusal_fields r) → length (bytes_of (refusal_fields r)) ≤ 66
refusal_short (no.Busy a b) h = up 66 (omega arith) (pair_w sites_w processes_w) (a, b) h
refusal_short (no.Absent name) h = components_w.most name h
refusal_short (no.NotDir _) h = absurd h
refusal_short no.IsDir h = absurd h
refusal_short (no.Exists ino) h = up 66 (omega arith) inodes_w ino h
refusal_short (no.NotEmpty name) h = components_w.most name h
refusal_short (no.Conflict a b) h = up 66 (omega arith) (pair_w stamps_w stamps_w) (a, b) h
refusal_short (no.Ambiguous a b) h = up 66 (omega arith) (pair_w inodes_w inodes_w) (a, b) h
refusal_short no.NoStorage h = omega arith
refusal_short no.NoPartition h = absurd h
refusal_short (no.Changed _) h = absurd h
refusal_short no.BadDescriptor h = absurd h
refusal_short (no.Stale _) h = absurd h
refusal_short no.TooLong h = omega arith
refusal_short (no.NoSpace a b) h = up 66 (omega arith) (pair_w u16_w u16_w) (a, b) h
refusal_short no.NoInode h = omega arith
refusal_short no.BadName h = absurd h
refusal_short no.ReadOnly h = absurd h
refusal_short no.NoDescriptor h = absurd h
refusal_short no.Spent h = omega arith
refusal_short no.NoConflict h = omega arith

pub cases_w : {B : Type 0} (n : ℕ) (tag_of : B → ℕ) (fields : B → Spelled) (kinds : Kinds B) → ((b : B) → IsInRange (fields b) → length (bytes_of (fields b)) ≤ n) → Within (1 + n) (cases tag_of fields kinds)
cases_w n tag_of fields kinds f = record { most = λ b h. (let a = f b h in omega arith) }

pub refusals_w : Within 67 refusals
refusals_w = cases_w 66 refusal_number refusal_fields refusal_kinds refusal_short
