-- The table of kinds after one more entry.
use Rattle.std.proofs.Common.{◌≡◌, ◌≢◌, ℕ, zero, suc, ◌<◌, ◌==◌, Bool, true, false, ◌&&◌, List, [], ◌∷◌, ◌++◌, length, get_or, set, refl, sym, ◌∙◌, subst, reverse, replicate, arith}
use Rattle.std.proofs.lemmas.List.{get_or-set_same, get_or-set_other, reverse-append}
use Rattle.std.proofs.lemmas.Bool.Decides.{nat_tests}
use Rattle.std.proofs.lemmas.Bool.{false≢true}
use Rattle.locus_ids.specs.declared.ids.Kind.{Kind}
use Rattle.locus_ids.specs.declared.ids.Kind.TheVariants.{File, Dir}
use Rattle.dir_format.specs.declared.entry.Entry.{Entry}
use Rattle.dir_format.specs.Grammar.{kind_byte, kind_follows}
use Rattle.dir_operations.specs.Kinds.{KnowsKinds, table_allows}

here : (mine other : Kind) (earlier : Kind → Bool) → earlier mine ≡ true → ((kind_byte mine == kind_byte other) && earlier other) ≡ table_allows (kind_byte mine) other
here File File earlier h = h
here File Dir earlier h = refl
here Dir File earlier h = refl
here Dir Dir earlier h = h

pub knows_more : (table : List ℕ) (before : List Entry) (d : Entry) → d.ino < length table → kind_follows before d.ino d.kind ≡ true → KnowsKinds table before → KnowsKinds (set table d.ino (kind_byte d.kind)) (d ∷ before)
knows_more table before d lt fits known = record { each = each } where
  at : (ino : ℕ) (kind : Kind) (same : Bool) → (d.ino == ino) ≡ same → kind_follows (d ∷ before) ino kind ≡ table_allows (get_or (set table d.ino (kind_byte d.kind)) ino 0) kind
  at ino kind true e =
      let is : d.ino ≡ ino = grind (arith, nat_tests, e) in
      subst (λ (n : ℕ). kind_follows (d ∷ before) n kind ≡ table_allows (get_or (set table d.ino (kind_byte d.kind)) n 0) kind) is
      (let self : (d.ino == d.ino) ≡ true = grind (arith, nat_tests) in
      rw (get_or-set_same table d.ino (kind_byte d.kind) 0 lt, self) (here d.kind kind (λ k. kind_follows before d.ino k) fits))
  at ino kind false e =
      let ne : ino ≢ d.ino = λ (w : ino ≡ d.ino). false≢true (sym e ∙ (let self : (d.ino == ino) ≡ true = grind (arith, nat_tests, w) in self)) in
      rw (get_or-set_other table d.ino ino (kind_byte d.kind) 0 ne, e) (known.each ino kind)

  each : (ino : ℕ) (kind : Kind) → kind_follows (d ∷ before) ino kind ≡ table_allows (get_or (set table d.ino (kind_byte d.kind)) ino 0) kind
  each ino kind = at ino kind (d.ino == ino) refl

pub knows_more_after : (table : List ℕ) (front : List Entry) (d : Entry) → d.ino < length table → kind_follows (reverse front) d.ino d.kind ≡ true → KnowsKinds table (reverse front)
    → KnowsKinds (set table d.ino (kind_byte d.kind)) (reverse (front ++ d ∷ []))
knows_more_after table front d lt fits known = subst (λ (before : List Entry). KnowsKinds (set table d.ino (kind_byte d.kind)) before) (sym (reverse-append front (d ∷ []))) (knows_more table (reverse front) d lt fits known)

zeros_at : (n i : ℕ) → let nothing : ℕ = 0 in get_or (replicate n nothing) i nothing ≡ nothing
zeros_at zero i = refl
zeros_at (suc n) zero = refl
zeros_at (suc n) (suc i) = zeros_at n i

pub knows_nothing : (n : ℕ) → KnowsKinds (replicate n 0) []
knows_nothing n = record { each = λ ino kind. rw (zeros_at n ino) refl }
