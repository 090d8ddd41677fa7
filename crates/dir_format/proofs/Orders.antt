-- The order of entries.
use Rattle.std.proofs.Common.{◌≡◌, ℕ, Bool, true, false, not, cond, ◌||◌, ltb, eqb, List, refl, sym, ap, ◌∙◌}
use Rattle.std.proofs.lemmas.Bool.{false≢true}
use Rattle.std.proofs.lemmas.Cmp.{nat_list_cmp_total, nat_cmp_total, then_total, on_total}
use Rattle.std.proofs.lemmas.Map.Text.{is_eq-slice_cmp}
use Rattle.std.specs.Cmp.{IsTotalOrder}
use Rattle.std.specs.Ordering.{nat_cmp, ordering_then, ordering_reverse, is_lt, is_eq}
use Rattle.std.specs.Cmp.Lexicographic.{slice_cmp}
use Rattle.std.specs.Str.{bytes_eq}
use Rattle.std.specs.declared.cmp.Ordering.{Ordering}
use Rattle.std.specs.declared.cmp.Ordering.TheVariants.{Less, Equal, Greater}
use Rattle.dir_format.specs.declared.entry.Entry.{Entry}
use Rattle.dir_format.specs.Entries.{entry_cmp}

pub entry_total : IsTotalOrder entry_cmp
entry_total = then_total (on_total (λ (d : Entry). d.name) nat_list_cmp_total) (on_total (λ (d : Entry). d.ino) nat_cmp_total)

is_less : (b c : Bool) → cond b Less (cond c Equal Greater) ≡ Less → b ≡ true
is_less true c h = refl
is_less false true h = absurd cc
is_less false false h = absurd cc

pub nat_less : (x y : ℕ) → nat_cmp x y ≡ Less → ltb x y ≡ true
nat_less x y h = is_less (ltb x y) (eqb x y) h

by_name : (o : Ordering) (x y : ℕ) → not (is_lt (ordering_reverse o)) ≡ true → (not (is_eq (ordering_reverse o)) || ltb x y) ≡ true → ordering_then o (nat_cmp x y) ≡ Less
by_name Less x y h k = refl
by_name Equal x y h k = rw k refl
by_name Greater x y h k = absurd (false≢true h)

by_name_back : (o : Ordering) (x y : ℕ) → ordering_then o (nat_cmp x y) ≡ Less → (not (is_lt (ordering_reverse o)) ≡ true) × ((not (is_eq (ordering_reverse o)) || ltb x y) ≡ true)
by_name_back Less x y h = (refl, refl)
by_name_back Equal x y h = (refl, nat_less x y h)
by_name_back Greater x y h = absurd cc

back : (a b : List ℕ) → slice_cmp nat_cmp b a ≡ ordering_reverse (slice_cmp nat_cmp a b)
back a b = nat_list_cmp_total.antisymm b a

same : (a b : List ℕ) → bytes_eq b a ≡ is_eq (ordering_reverse (slice_cmp nat_cmp a b))
same a b = sym (is_eq-slice_cmp b a) ∙ ap is_eq (back a b)

-- an entry that isn't before by name, and under the same name has a greater inode, comes after
pub less_from_tests : (a b : Entry) → not (is_lt (slice_cmp nat_cmp b.name a.name)) ≡ true → (not (bytes_eq b.name a.name) || ltb a.ino b.ino) ≡ true → entry_cmp a b ≡ Less
less_from_tests a b h k = by_name (slice_cmp nat_cmp a.name b.name) a.ino b.ino (rw (back a.name b.name) at h) (rw (same a.name b.name) at k)

pub tests_from_less : (a b : Entry) → entry_cmp a b ≡ Less → (not (is_lt (slice_cmp nat_cmp b.name a.name)) ≡ true) × ((not (bytes_eq b.name a.name) || ltb a.ino b.ino) ≡ true)
tests_from_less a b h = rw (back a.name b.name, same a.name b.name) (by_name_back (slice_cmp nat_cmp a.name b.name) a.ino b.ino h)
