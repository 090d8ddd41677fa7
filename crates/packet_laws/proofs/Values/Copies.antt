-- Copies of files, as they are stored and reported.
use Rattle.std.proofs.Common.{◌≡◌, ◌≤◌, ◌<◌, ◌^◌, ℕ, zero, suc, ◌+◌, ◌*◌, ◌==◌, min, nat_lt, Bool, true, false, cond, List, [], ◌∷◌, ◌++◌, drop, length, take, length-append, Option, None, Some, refl, sym, subst, arith}
use Rattle.std.proofs.lemmas.Bool.Decides.{nat_tests}
use Rattle.std.proofs.lemmas.List.{length-take}
use Rattle.std.specs.List.{flat_map}
use Rattle.locus_ids.specs.Sizes.{file_bytes_max, inode_span, inodes_max, page_bytes}
use Rattle.file_content.specs.Pages.{page_of, pages_from, pages_of}
use Rattle.field_codec.specs.Lists.{AllFit}
use Rattle.wire_fields.specs.Parts.{sizes}
use Rattle.wire_fields.proofs.Members.{in_range, range}
use Rattle.wire_messages.specs.Answers.{copies_from, reported_copies}
use Rattle.wire_messages.specs.declared.body.ReportedCopy.{ReportedCopy}
use Rattle.role_steps.specs.Adoption.{content_laid, page_laid, page_laid_at, place_from}
use Rattle.role_steps.specs.Own.{Every}
use Rattle.role_steps.specs.Pulling.{bytes_in}
use Rattle.role_steps.specs.Storage.{content_of, copy_key, report_of, reported}
use Rattle.role_steps.specs.Tables.{row, with_row}
use Rattle.role_steps.specs.Views.{Store}
use Rattle.role_steps.specs.declared.copies.FileCopy.{FileCopy}
use Rattle.the_run.proofs.InsideSync.{Found, every_row, row_found}
use Rattle.packet_laws.specs.Values.Values.{CopiesFit, CopyFits, RisesFrom}
use Rattle.packet_laws.proofs.Values.Fields.{ino_range, kind_fits}

-- ---- one more copy ----

rises_row : (least : ℕ) (x : FileCopy) (xs : List FileCopy) → least ≤ copy_key x → RisesFrom least xs → RisesFrom least (with_row copy_key x xs)
rises_row least x [] le h = (le, tt)
rises_row least x (y ∷ ys) le h = over (λ k. rises_row (copy_key y + 1) x ys k h.1) (nat_lt (copy_key y) (copy_key x)) refl (copy_key y == copy_key x) refl
  where
    below : nat_lt (copy_key y) (copy_key x) ≡ true → copy_key y + 1 ≤ copy_key x
    below e = grind (arith, nat_tests)

    same : (copy_key y == copy_key x) ≡ true → copy_key y ≡ copy_key x
    same e = grind (arith, nat_tests)

    above : nat_lt (copy_key y) (copy_key x) ≡ false → (copy_key y == copy_key x) ≡ false → copy_key x + 1 ≤ copy_key y
    above e g = grind (arith, nat_tests)

    over : (copy_key y + 1 ≤ copy_key x → RisesFrom (copy_key y + 1) (with_row copy_key x ys)) → (a : Bool) → nat_lt (copy_key y) (copy_key x) ≡ a → (b : Bool) → (copy_key y == copy_key x) ≡ b →
        RisesFrom least (elim a as (λ (t : Bool). List FileCopy) [ true ↦ y ∷ with_row copy_key x ys | false ↦ elim b as (λ (t : Bool). List FileCopy) [ true ↦ x ∷ ys | false ↦ x ∷ y ∷ ys ] ])
    over rest true e b g = (h.0, rest (below e))
    over rest false e true g = (le, subst (λ (k : ℕ). RisesFrom (k + 1) ys) (same g) h.1)
    over rest false e false g = (le, (above e g, h.1))

pub with_copy_fits : (x : FileCopy) (xs : List FileCopy) → CopyFits x → CopiesFit xs → CopiesFit (with_row copy_key x xs)
with_copy_fits x xs k h = record { each = every_row CopyFits copy_key x xs k h.each; rise = rises_row 0 x xs (omega arith) h.rise }

-- ---- a version that is laid over a copy ----

module _ (size : ℕ) (numbers came under : List ℕ) where
  part_short : (content : List ℕ) (page : ℕ) → length (page_of content page) ≤ page_bytes
  part_short content page = let e : length (page_of content page) ≡ min page_bytes (length (drop (page_bytes * page) content)) = length-take page_bytes (drop (page_bytes * page) content) in omega (arith, e)

  page_short : (page : ℕ) (o : Option ℕ) → length (page_laid_at size numbers came under page o) ≤ page_bytes
  page_short page (Some k) = part_short came k
  page_short page None = let e : length (take (bytes_in size page) (page_of under page)) ≡ min (bytes_in size page) (length (page_of under page)) = length-take (bytes_in size page) (page_of under page) in omega (arith, e, part_short under page)

  pages_short : (first count : ℕ) → length (flat_map (page_laid size numbers came under) (pages_from first count)) ≤ page_bytes * count
  pages_short first zero = omega arith
  pages_short first (suc more) =
      let one : List ℕ = page_laid size numbers came under first in
      let rest : List ℕ = flat_map (page_laid size numbers came under) (pages_from (first + 1) more) in
      let e : length (one ++ rest) ≡ length one + length rest = length-append one rest in
      omega (arith, e, page_short first (place_from 0 numbers first), pages_short (first + 1) more)

  pub laid_short : size ≤ file_bytes_max → length (content_laid size numbers came under) ≤ file_bytes_max
  laid_short most = all (length (content_laid size numbers came under)) (pages_short 0 (pages_of size))
    where
      all : (n : ℕ) → n ≤ page_bytes * pages_of size → n ≤ file_bytes_max
      all n few = omega (arith, most, few)

-- ---- the copy of a file ----

pub found_copy : (s : Store) (key : ℕ) → CopiesFit s.copies → Found CopyFits (row copy_key key s.copies)
found_copy s key h = row_found CopyFits copy_key key s.copies h.each

pub content_fits : (o : Option FileCopy) → Found CopyFits o → sizes.Fits (length (content_of o))
content_fits None h = (in_range 0 file_bytes_max 0 (omega arith) (omega arith), omega arith)
content_fits (Some x) h = h.size

-- ---- the report of a group ----

abbrev Reported : ℕ → List ReportedCopy → Type 0
Reported least xs = AllFit copies_from (λ _ (copy : ReportedCopy). copy.ino + 1) least xs

one_reported : (least : ℕ) (x : FileCopy) → CopyFits x → least ≤ x.file.ino → (copies_from least).Fits (reported x)
one_reported least x h le = ((in_range least inodes_max x.file.ino le (ino_range x.file.ino h.file.1).1, h.file.1.1), (kind_fits x.kind, (h.set, (h.size, h.version))))

-- each copy of the group from this key on has a number from this one on
abbrev AreFrom : ℕ → ℕ → ℕ → Type 0
AreFrom group least k = (n : ℕ) → 1 ≤ n → k ≤ group * inode_span + n → least ≤ n

all_reported : (group least k : ℕ) (xs : List FileCopy) → AreFrom group least k → Every CopyFits xs → RisesFrom k xs → Reported least (report_of group xs)
all_reported group least k [] low h r = tt
all_reported group least k (x ∷ xs) low h r = over (λ n from. all_reported group n (copy_key x + 1) xs from h.1 r.1) (x.file.group == group) refl
  where
    key : ℕ
    key = x.file.group * inode_span + x.file.ino

    same : (x.file.group == group) ≡ true → x.file.group ≡ group
    same e = grind (arith, nat_tests)

    from_here : x.file.group ≡ group → least ≤ x.file.ino
    from_here e = low x.file.ino (ino_range x.file.ino h.0.file.1).0 (subst (λ (y : ℕ). k ≤ y * inode_span + x.file.ino) e r.0)

    on : x.file.group ≡ group → AreFrom group (x.file.ino + 1) (key + 1)
    on e n some le = let g : x.file.group * inode_span + x.file.ino + 1 ≤ x.file.group * inode_span + n = subst (λ (y : ℕ). key + 1 ≤ y * inode_span + n) (sym e) le in omega (arith, g)

    past : AreFrom group least (key + 1)
    past n some le = low n some (let at : k ≤ key = r.0 in omega (arith, at, le))

    over : ((n : ℕ) → AreFrom group n (key + 1) → Reported n (report_of group xs)) → (b : Bool) → (x.file.group == group) ≡ b → Reported least (cond b (reported x ∷ report_of group xs) (report_of group xs))
    over rest true e = (one_reported least x h.0 (from_here (same e)), rest (x.file.ino + 1) (on (same e)))
    over rest false e = rest least past

few_reported : (least : ℕ) (xs : List ReportedCopy) → least ≤ inodes_max + 1 → Reported least xs → length xs + least ≤ inodes_max + 1
few_reported least [] le h = omega (arith, le)
few_reported least (x ∷ xs) le h =
    let r : (least ≤ x.ino) × (x.ino ≤ inodes_max) = range least inodes_max x.ino h.0.0.0 in
    let k : length xs + (x.ino + 1) ≤ inodes_max + 1 = few_reported (x.ino + 1) xs (omega (arith, r.1)) h.1 in
    omega (arith, k, r.0)

pub report_fits : (group : ℕ) (xs : List FileCopy) → CopiesFit xs → reported_copies.Fits (report_of group xs)
report_fits group xs h = (few (few_reported 1 (report_of group xs) (omega arith) all), all)
  where
    all : Reported 1 (report_of group xs)
    all = all_reported group 1 0 xs (λ n some le. some) h.each h.rise

    few : length (report_of group xs) + 1 ≤ inodes_max + 1 → length (report_of group xs) < 2 ^ 16
    few le = omega (arith, le)
