-- Which entries may follow which, and which lists are so made: those of a directory.
use Rattle.std.proofs.Common.{◌≡◌, ℕ, zero, suc, ◌^◌, ◌<◌, ◌≤◌, ◌==◌, eqb, ltb, leb, Bool, true, false, not, ◌&&◌, ◌||◌, List, [], ◌∷◌, length, get_or, replicate, refl, sym, subst, arith}
use Rattle.std.proofs.lemmas.Bool.{false≢true, leb-true, ltb-true}
use Rattle.std.proofs.lemmas.Bool.Decides.{nat_tests}
use Rattle.std.specs.Prelude.{codes}
use Rattle.std.specs.List.{list_all, AllByRecursion}
use Rattle.std.specs.Str.{bytes_eq}
use Rattle.std.specs.Ordering.{nat_cmp, is_lt}
use Rattle.std.specs.Cmp.Lexicographic.{slice_cmp}
use Rattle.std.specs.declared.cmp.Ordering.TheVariants.{Less}
use Rattle.field_codec.specs.of_locus_ids.Sizes.{sites_max, inodes_max}
use Rattle.field_codec.specs.of_locus_ids.declared.ids.Kind.{Kind}
use Rattle.field_codec.specs.of_locus_ids.declared.ids.Kind.TheVariants.{File, Dir}
use Rattle.field_codec.specs.Codec.{AreBytes, u32}
use Rattle.field_codec.specs.Lists.{AllFit}
use Rattle.trace_book.specs.Names.{is_name, is_name_byte}
use Rattle.dir_format.specs.declared.entry.Entry.{Entry}
use Rattle.dir_format.specs.Entries.{is_live, nothing_seen, entry_cmp, IsVector, IsEntry, Ascends, OneKind, HasKind, IsDir}
use Rattle.dir_format.specs.Grammar.{kind_byte, seen_field, name_follows, ino_follows, kind_follows, entry_after}
use Rattle.dir_format.proofs.Tests.{both, both_back, or_other, in_range, in_range_back, all_tell, all_told, all_weaker}
use Rattle.dir_format.proofs.Orders.{entry_total, less_from_tests, tests_from_less}

-- what a name is made of
pub name_some : (name : List ℕ) → is_name name ≡ true → 1 ≤ length name
name_some name h = omega (arith, ltb-true 0 (length name) (both _ _ h).0)

pub name_short : (name : List ℕ) → is_name name ≡ true → length name ≤ 60
name_short name h = leb-true (length name) 60 (both _ _ (both _ _ h).1).0

name_bytes : (name : List ℕ) → is_name name ≡ true → list_all is_name_byte name ≡ true
name_bytes name h =
    let a = both (ltb 0 (length name)) (leb (length name) 60 && (not (bytes_eq name (codes ".")) && (not (bytes_eq name (codes "..")) && list_all is_name_byte name))) h in
    let b = both (leb (length name) 60) (not (bytes_eq name (codes ".")) && (not (bytes_eq name (codes "..")) && list_all is_name_byte name)) a.1 in
    let d = both (not (bytes_eq name (codes "."))) (not (bytes_eq name (codes "..")) && list_all is_name_byte name) b.1 in
    (both (not (bytes_eq name (codes ".."))) (list_all is_name_byte name) d.1).1

are_bytes : (name : List ℕ) → list_all is_name_byte name ≡ true → AreBytes name
are_bytes [] h i = omega arith
are_bytes (c ∷ cs) h zero =
    let a = both (leb 33 c && leb c 126 && not (eqb c 47)) (not (eqb c 64)) (both (is_name_byte c) (list_all is_name_byte cs) h).0 in
    let b = both (leb 33 c && leb c 126) (not (eqb c 47)) a.0 in
    omega (arith, leb-true c 126 (both (leb 33 c) (leb c 126) b.0).1)
are_bytes (c ∷ cs) h (suc i) = are_bytes cs (both (is_name_byte c) (list_all is_name_byte cs) h).1 i

-- what may stand after a count
pub vector_of_nothing : IsVector nothing_seen
vector_of_nothing = record { sites = refl; counters = zeros sites_max } where
  zeros : (n : ℕ) → AllByRecursion (λ (k : ℕ). k < 2 ^ 32) (replicate n 0)
  zeros zero = tt
  zeros (suc n) = (omega arith, zeros n)

counters_from : (v : List ℕ) → AllFit (λ (_ : Unit {0}). u32) (λ _ _. tt) tt v → AllByRecursion (λ (n : ℕ). n < 2 ^ 32) v
counters_from [] h = tt
counters_from (n ∷ v) h = (h.0, counters_from v h.1)

counters_back : (v : List ℕ) → AllByRecursion (λ (n : ℕ). n < 2 ^ 32) v → AllFit (λ (_ : Unit {0}). u32) (λ _ _. tt) tt v
counters_back [] h = tt
counters_back (n ∷ v) h = (h.0, counters_back v h.1)

seen_from : (b : Bool) (seen : List ℕ) → (seen_field b).Fits seen → IsVector seen × (b ≡ true → seen ≡ nothing_seen)
seen_from true seen h = (subst IsVector (sym h) vector_of_nothing, λ _. h)
seen_from false seen h = (record { sites = h.0; counters = counters_from seen h.1 }, λ e. absurd (false≢true e))

seen_back : (b : Bool) (seen : List ℕ) → IsVector seen → (b ≡ true → seen ≡ nothing_seen) → (seen_field b).Fits seen
seen_back true seen v live = live refl
seen_back false seen v live = (v.sites, counters_back seen v.counters)

-- an entry that may follow those before
pub record Follows (before : List Entry) (d : Entry) : Type 0 where
  pub entry : IsEntry d
  pub name : name_follows before d.name ≡ true
  pub ino : ino_follows before d.name d.ino ≡ true
  pub kind : kind_follows before d.ino d.kind ≡ true

name_of_follows : (before : List Entry) (name : List ℕ) → name_follows before name ≡ true → is_name name ≡ true
name_of_follows [] name h = h
name_of_follows (last ∷ before) name h = (both (is_name name) (not (is_lt (slice_cmp nat_cmp name last.name))) h).0

pub follows_from_fits : (before : List Entry) (d : Entry) → (entry_after before).Fits d → Follows before d
follows_from_fits before d h =
    let seen = seen_from (is_live d) d.seen h.1.1.1.1 in
    let counted = in_range 1 4294967295 d.count h.1.1.1.0.0 in
    record {
      entry = record {
        name = name_of_follows before d.name h.0.0;
        ino = in_range 1 inodes_max d.ino h.1.0.1.0;
        count = (counted.0, omega (arith, counted.1));
        seen = seen.0;
        live = seen.1;
      };
      name = h.0.0;
      ino = h.1.0.0;
      kind = h.1.1.0.0;
    }

pub fits_from_follows : (before : List Entry) (d : Entry) → Follows before d → (entry_after before).Fits d
fits_from_follows before d f =
    let e = f.entry in (
      (f.name, ((name_some d.name e.name, name_short d.name e.name), are_bytes d.name (name_bytes d.name e.name))),
      (
        (f.ino, (in_range_back 1 inodes_max d.ino e.ino.0 e.ino.1, omega (arith, e.ino.1))),
        (
          (f.kind, tt),
          (
            (in_range_back 1 4294967295 d.count e.count.0 (omega (arith, e.count.1)), e.count.1),
            seen_back (is_live d) d.seen e.seen e.live,
          ),
        ),
      ),
    )

abbrev pub AllFollow : List Entry → List Entry → Type 0
AllFollow before [] = Unit {0}
AllFollow before (d ∷ ds) = Follows before d × AllFollow (d ∷ before) ds

-- From the fields to the whole.

each_entry : (before ds : List Entry) → AllFollow before ds → AllByRecursion IsEntry ds
each_entry before [] h = tt
each_entry before (d ∷ ds) h = (h.0.entry, each_entry (d ∷ before) ds h.1)

last_is_less : (last : Entry) (before : List Entry) (d : Entry) → Follows (last ∷ before) d → entry_cmp last d ≡ Less
last_is_less last before d f = less_from_tests last d (both (is_name d.name) _ f.name).1 f.ino

all_after : (last : Entry) (before ds : List Entry) → AllFollow (last ∷ before) ds → AllByRecursion (λ e. entry_cmp last e ≡ Less) ds
all_after last before [] h = tt
all_after last before (d ∷ ds) h =
    let first : entry_cmp last d ≡ Less = last_is_less last before d h.0 in
    (first, all_weaker (λ e k. entry_total.trans last d e first k) ds (all_after d (last ∷ before) ds h.1))

in_order : (before ds : List Entry) → AllFollow before ds → Ascends ds
in_order before [] h = tt
in_order before (d ∷ ds) h = (all_after d before ds h.1, in_order (d ∷ before) ds h.1)

same_kind : (k m : Kind) → (kind_byte k == kind_byte m) ≡ true → m ≡ k
same_kind File File h = refl
same_kind File Dir h = absurd cc
same_kind Dir File h = absurd cc
same_kind Dir Dir h = refl

same_kind_back : (k m : Kind) → m ≡ k → (kind_byte k == kind_byte m) ≡ true
same_kind_back File m h = rw h refl
same_kind_back Dir m h = rw h refl

-- those before know the kind of an entry's inode
abbrev Knows : Entry → List Entry → Type 0
Knows x before = (ino : ℕ) (kind : Kind) → kind_follows before ino kind ≡ true → ino ≡ x.ino → kind ≡ x.kind

itself : (a b : ℕ) → a ≡ b → (b == a) ≡ true
itself a b e = grind (arith, nat_tests)

knows_first : (x : Entry) (before : List Entry) → Knows x (x ∷ before)
knows_first x before ino kind h e = same_kind x.kind kind (or_other (x.ino == ino) (kind_byte x.kind == kind_byte kind) (both (not (x.ino == ino) || (kind_byte x.kind == kind_byte kind)) _ h).0 (itself ino x.ino e))

knows_still : (x d : Entry) (before : List Entry) → Knows x before → Knows x (d ∷ before)
knows_still x d before k ino kind h e = k ino kind (both (not (d.ino == ino) || (kind_byte d.kind == kind_byte kind)) _ h).1 e

kind_of_all : (x : Entry) (before ds : List Entry) → Knows x before → AllFollow before ds → AllByRecursion (λ e. e.ino ≡ x.ino → e.kind ≡ x.kind) ds
kind_of_all x before [] k h = tt
kind_of_all x before (d ∷ ds) k h = (k d.ino d.kind h.0.kind, kind_of_all x (d ∷ before) ds (knows_still x d before k) h.1)

one_kind : (before ds : List Entry) → AllFollow before ds → OneKind ds
one_kind before [] h = tt
one_kind before (d ∷ ds) h = (kind_of_all d (d ∷ before) ds (knows_first d before) h.1, one_kind (d ∷ before) ds h.1)

pub dir_from_follow : (ds : List Entry) → AllFollow [] ds → IsDir ds
dir_from_follow ds h = record { entries = each_entry [] ds h; order = in_order [] ds h; kinds = one_kind [] ds h }

-- From the whole to the fields.

kind_test : (d e : Entry) → (e.ino ≡ d.ino → e.kind ≡ d.kind) → (not (d.ino == e.ino) || (kind_byte d.kind == kind_byte e.kind)) ≡ true
kind_test d e h = by (d.ino == e.ino) refl where
  by : (b : Bool) → (d.ino == e.ino) ≡ b → (not (d.ino == e.ino) || (kind_byte d.kind == kind_byte e.kind)) ≡ true
  by true w = let is : e.ino ≡ d.ino = grind (arith, nat_tests, w) in rw w (same_kind_back d.kind e.kind (h is))
  by false w = rw w refl

follow_more : (d : Entry) (before ds : List Entry) → IsEntry d → name_follows before d.name ≡ true → ino_follows before d.name d.ino ≡ true → kind_follows before d.ino d.kind ≡ true
    → AllByRecursion IsEntry ds → AllByRecursion (λ e. entry_cmp d e ≡ Less) ds × Ascends ds → AllByRecursion (λ e. e.ino ≡ d.ino → e.kind ≡ d.kind) ds × OneKind ds
    → AllByRecursion (λ e. kind_follows before e.ino e.kind ≡ true) ds → AllFollow before (d ∷ ds)
follow_more d before [] entry name ino kind entries order kinds known = (record { entry = entry; name = name; ino = ino; kind = kind }, tt)
follow_more d before (e ∷ ds) entry name ino kind entries order kinds known =
    let tests = tests_from_less d e order.0.0 in (
      record { entry = entry; name = name; ino = ino; kind = kind },
      follow_more e (d ∷ before) ds entries.0 (both_back (is_name e.name) _ entries.0.name tests.0) tests.1
          (both_back _ (kind_follows before e.ino e.kind) (kind_test d e kinds.0.0) known.0)
          entries.1 order.1 kinds.1 (more ds kinds.0.1 known.1),
    ) where
      more : (xs : List Entry) → AllByRecursion (λ x. x.ino ≡ d.ino → x.kind ≡ d.kind) xs → AllByRecursion (λ x. kind_follows before x.ino x.kind ≡ true) xs → AllByRecursion (λ x. kind_follows (d ∷ before) x.ino x.kind ≡ true) xs
      more [] h k = tt
      more (x ∷ xs) h k = (both_back _ (kind_follows before x.ino x.kind) (kind_test d x h.0) k.0, more xs h.1 k.1)

nothing_before : (ds : List Entry) → AllByRecursion (λ e. kind_follows [] e.ino e.kind ≡ true) ds
nothing_before [] = tt
nothing_before (d ∷ ds) = (refl, nothing_before ds)

pub follow_from_dir : (ds : List Entry) → IsDir ds → AllFollow [] ds
follow_from_dir [] h = tt
follow_from_dir (d ∷ ds) h = follow_more d [] ds h.entries.0 h.entries.0.name refl refl h.entries.1 h.order h.kinds (nothing_before ds)

pub each_counter : (v : List ℕ) → ((i : ℕ) → get_or v i 0 < 2 ^ 32) → AllByRecursion (λ (n : ℕ). n < 2 ^ 32) v
each_counter [] h = tt
each_counter (n ∷ v) h = (h 0, each_counter v (λ i. h (suc i)))

-- the test of kinds
kind_tells : (ino : ℕ) (kind : Kind) (e : Entry) → (not (e.ino == ino) || (kind_byte e.kind == kind_byte kind)) ≡ true → e.ino ≡ ino → e.kind ≡ kind
kind_tells ino kind e h is = sym (same_kind e.kind kind (or_other (e.ino == ino) (kind_byte e.kind == kind_byte kind) h (itself ino e.ino (sym is))))

kind_told : (ino : ℕ) (kind : Kind) (e : Entry) → (e.ino ≡ ino → e.kind ≡ kind) → (not (e.ino == ino) || (kind_byte e.kind == kind_byte kind)) ≡ true
kind_told ino kind e h = by (e.ino == ino) refl where
  by : (b : Bool) → (e.ino == ino) ≡ b → (not (e.ino == ino) || (kind_byte e.kind == kind_byte kind)) ≡ true
  by true w = let is : e.ino ≡ ino = grind (arith, nat_tests, w) in rw w (same_kind_back e.kind kind (sym (h is)))
  by false w = rw w refl

pub kinds_tell : (ino : ℕ) (kind : Kind) (ds : List Entry) → list_all (λ e. not (e.ino == ino) || (kind_byte e.kind == kind_byte kind)) ds ≡ true → HasKind ino kind ds
kinds_tell ino kind ds h = all_tell (λ e. not (e.ino == ino) || (kind_byte e.kind == kind_byte kind)) (λ e. e.ino ≡ ino → e.kind ≡ kind) (kind_tells ino kind) ds h

pub kinds_told : (ino : ℕ) (kind : Kind) (ds : List Entry) → HasKind ino kind ds → list_all (λ e. not (e.ino == ino) || (kind_byte e.kind == kind_byte kind)) ds ≡ true
kinds_told ino kind ds h = all_told (λ e. not (e.ino == ino) || (kind_byte e.kind == kind_byte kind)) (λ e. e.ino ≡ ino → e.kind ≡ kind) (kind_told ino kind) ds h
