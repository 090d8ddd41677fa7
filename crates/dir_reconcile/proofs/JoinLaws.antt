-- The join makes no difference between the order and the sequence in which directories come, nor how often one does.
use Rattle.std.proofs.Common.{◌≡◌, ℕ, List, [], ◌∷◌, refl, sym, ap, ◌∙◌}
use Rattle.std.proofs.lemmas.Cmp.{nat_cmp_total, tied_itself, alike_right}
use Rattle.std.proofs.lemmas.Map.Lookups.{exact_bytes, exact_unsigned}
use Rattle.std.specs.Ordering.{nat_cmp, ordering_then, ordering_reverse}
use Rattle.std.specs.Cmp.Lexicographic.{slice_cmp}
use Rattle.std.specs.declared.cmp.Ordering.{Ordering}
use Rattle.std.specs.declared.cmp.Ordering.TheVariants.{Less, Equal, Greater}
use Rattle.dir_format.specs.of_version_vector.Counters.{joined}
use Rattle.dir_format.proofs.of_version_vector.Counting.{joined-commutes, joined-associates, joined-again}
use Rattle.dir_format.specs.declared.entry.Entry.{Entry}
use Rattle.dir_format.specs.Entries.{entry_cmp}
use Rattle.dir_format.proofs.Orders.{entry_total}
use Rattle.dir_reconcile.specs.Joins.{joined_by, joined_entry, joined_dirs, AgreeOnKinds}
use Rattle.dir_reconcile.proofs.Steps.{joined_so, joined_is, nothing_joined}

-- what an order says the other way round
pub back : (a b : Entry) (o : Ordering) → entry_cmp a b ≡ o → entry_cmp b a ≡ ordering_reverse o
back a b o e = entry_total.antisymm b a ∙ ap ordering_reverse e

-- of one pair
same_then : (o p : Ordering) → ordering_then o p ≡ Equal → (o ≡ Equal) × (p ≡ Equal)
same_then Less p h = absurd cc
same_then Equal p h = (refl, h)
same_then Greater p h = absurd cc

pub same_name : (a b : Entry) → entry_cmp a b ≡ Equal → a.name ≡ b.name
same_name a b h = exact_bytes a.name b.name (same_then (slice_cmp nat_cmp a.name b.name) (nat_cmp a.ino b.ino) h).0

pub same_ino : (a b : Entry) → entry_cmp a b ≡ Equal → a.ino ≡ b.ino
same_ino a b h = exact_unsigned a.ino b.ino (same_then (slice_cmp nat_cmp a.name b.name) (nat_cmp a.ino b.ino) h).1

-- joined to itself
by_itself : (a : Entry) (o : Ordering) → nat_cmp a.count a.count ≡ o → joined_by o a a ≡ a
by_itself a Less e = refl
by_itself a Equal e = ap (λ (v : List ℕ). record { name = a.name; ino = a.ino; kind = a.kind; count = a.count; seen = v }) (joined-again a.seen)
by_itself a Greater e = refl

pub idempotent : (xs : List Entry) → joined_dirs xs xs ≡ xs
idempotent [] = refl
idempotent (x ∷ xs) =
    joined_is x x xs xs Equal (tied_itself entry_total x)
    ∙ ap (λ (e : Entry). e ∷ joined_dirs xs xs) (by_itself x (nat_cmp x.count x.count) refl)
    ∙ ap (λ (l : List Entry). x ∷ l) (idempotent xs)

-- the one to the other

record_same : (a b : Entry) (v w : List ℕ) → a.name ≡ b.name → a.ino ≡ b.ino → a.kind ≡ b.kind → a.count ≡ b.count → v ≡ w
    → (let made : Entry = record { name = a.name; ino = a.ino; kind = a.kind; count = a.count; seen = v } in made) ≡ record { name = b.name; ino = b.ino; kind = b.kind; count = b.count; seen = w }
record_same a b v w n i k c s = rw (n, i, k, c, s) refl

counts_back : (a b : Entry) (o : Ordering) → nat_cmp a.count b.count ≡ o → nat_cmp b.count a.count ≡ ordering_reverse o
counts_back a b o e = nat_cmp_total.antisymm b.count a.count ∙ ap ordering_reverse e

commutes_by : (a b : Entry) → entry_cmp a b ≡ Equal → a.kind ≡ b.kind → (o : Ordering) → nat_cmp a.count b.count ≡ o → joined_by o a b ≡ joined_by (ordering_reverse o) b a
commutes_by a b same kinds Less e = refl
commutes_by a b same kinds Equal e = record_same a b (joined a.seen b.seen) (joined b.seen a.seen) (same_name a b same) (same_ino a b same) kinds (exact_unsigned a.count b.count e) (joined-commutes a.seen b.seen)
commutes_by a b same kinds Greater e = refl

entry_commutes : (a b : Entry) → entry_cmp a b ≡ Equal → a.kind ≡ b.kind → joined_entry a b ≡ joined_entry b a
entry_commutes a b same kinds =
    commutes_by a b same kinds (nat_cmp a.count b.count) refl ∙ ap (λ (o : Ordering). joined_by o b a) (sym (counts_back a b (nat_cmp a.count b.count) refl))

-- those that agree on kinds still do without the first
agree_after : (xs ys : List Entry) (y : Entry) → AgreeOnKinds xs (y ∷ ys) → AgreeOnKinds xs ys
agree_after [] ys y h = tt
agree_after (x ∷ xs) ys y h = (h.0.1, agree_after xs ys y h.1)

module _ (x : Entry) (xs : List Entry) (others : (ys : List Entry) → AgreeOnKinds xs ys → joined_dirs xs ys ≡ joined_dirs ys xs) where
  commute_so : (y : Entry) (ys : List Entry) → AgreeOnKinds (x ∷ xs) (y ∷ ys) → joined_dirs (x ∷ xs) ys ≡ joined_dirs ys (x ∷ xs) → (o : Ordering) → entry_cmp x y ≡ o
      → joined_dirs (x ∷ xs) (y ∷ ys) ≡ joined_dirs (y ∷ ys) (x ∷ xs)
  commute_so y ys h rest Less e =
      joined_is x y xs ys Less e ∙ ap (λ (l : List Entry). x ∷ l) (others (y ∷ ys) h.1) ∙ sym (joined_is y x ys xs Greater (back x y Less e))
  commute_so y ys h rest Equal e =
      joined_is x y xs ys Equal e ∙ ap (λ (l : List Entry). joined_entry x y ∷ l) (others ys (agree_after xs ys y h.1))
      ∙ ap (λ (d : Entry). d ∷ joined_dirs ys xs) (entry_commutes x y e (sym (h.0.0 (sym (same_ino x y e)))))
      ∙ sym (joined_is y x ys xs Equal (back x y Equal e))
  commute_so y ys h rest Greater e =
      joined_is x y xs ys Greater e ∙ ap (λ (l : List Entry). y ∷ l) rest ∙ sym (joined_is y x ys xs Less (back x y Greater e))

  commute_from : (ys : List Entry) → AgreeOnKinds (x ∷ xs) ys → joined_dirs (x ∷ xs) ys ≡ joined_dirs ys (x ∷ xs)
  commute_from [] h = nothing_joined (x ∷ xs)
  commute_from (y ∷ ys) h = commute_so y ys h (commute_from ys (agree_after (x ∷ xs) ys y h)) (entry_cmp x y) refl

pub commutative : (xs ys : List Entry) → AgreeOnKinds xs ys → joined_dirs xs ys ≡ joined_dirs ys xs
commutative [] ys h = sym (nothing_joined ys)
commutative (x ∷ xs) ys h = commute_from x xs (commutative xs) ys h

-- in any sequence

-- a joined entry stands as each of the two
left_by : (x y z : Entry) → entry_cmp x y ≡ Equal → (o : Ordering) → entry_cmp (joined_by o x y) z ≡ entry_cmp y z
left_by x y z same Less = refl
left_by x y z same Equal = entry_total.congr x y z same
left_by x y z same Greater = entry_total.congr x y z same

right_by : (x y z : Entry) → entry_cmp y z ≡ Equal → (o : Ordering) → entry_cmp x (joined_by o y z) ≡ entry_cmp x y
right_by x y z same Less = sym (alike_right entry_total y z x same)
right_by x y z same Equal = refl
right_by x y z same Greater = refl

pub joined_left : (x y z : Entry) → entry_cmp x y ≡ Equal → entry_cmp (joined_entry x y) z ≡ entry_cmp y z
joined_left x y z same = left_by x y z same (nat_cmp x.count y.count)

pub joined_right : (x y z : Entry) → entry_cmp y z ≡ Equal → entry_cmp x (joined_entry y z) ≡ entry_cmp x y
joined_right x y z same = right_by x y z same (nat_cmp y.count z.count)

seen_after : (a : Entry) (v w : List ℕ) → v ≡ w → (let made : Entry = record { name = a.name; ino = a.ino; kind = a.kind; count = a.count; seen = v } in made) ≡ record { name = a.name; ino = a.ino; kind = a.kind; count = a.count; seen = w }
seen_after a v w e = rw e refl

-- the greater count goes through
less_less : (a b c : ℕ) → nat_cmp a b ≡ Less → nat_cmp b c ≡ Less → nat_cmp a c ≡ Less
less_less a b c = nat_cmp_total.trans a b c

greater_greater : (a b c : ℕ) → nat_cmp a b ≡ Greater → nat_cmp b c ≡ Greater → nat_cmp a c ≡ Greater
greater_greater a b c e f =
    nat_cmp_total.antisymm a c ∙ ap ordering_reverse (nat_cmp_total.trans c b a (nat_cmp_total.antisymm c b ∙ ap ordering_reverse f) (nat_cmp_total.antisymm b a ∙ ap ordering_reverse e))

entry_by : (x y z : Entry) (o p : Ordering) → nat_cmp x.count y.count ≡ o → nat_cmp y.count z.count ≡ p → joined_entry (joined_entry x y) z ≡ joined_entry x (joined_entry y z)
entry_by x y z Less Less e f = let g = less_less x.count y.count z.count e f in rw (e, f, g) refl
entry_by x y z Less Equal e f = rw (e, f, e) refl
entry_by x y z Less Greater e f = rw (e, f, e) refl
entry_by x y z Equal Less e f = let g : nat_cmp x.count z.count ≡ Less = nat_cmp_total.congr x.count y.count z.count e ∙ f in rw (e, g, f, g) refl
entry_by x y z Equal Equal e f =
    let g : nat_cmp x.count z.count ≡ Equal = nat_cmp_total.congr x.count y.count z.count e ∙ f in
    rw (e, f, g, e) (seen_after x (joined (joined x.seen y.seen) z.seen) (joined x.seen (joined y.seen z.seen)) (joined-associates x.seen y.seen z.seen))
entry_by x y z Equal Greater e f = let g : nat_cmp x.count z.count ≡ Greater = nat_cmp_total.congr x.count y.count z.count e ∙ f in rw (e, f, g, e) refl
entry_by x y z Greater Less e f = rw (e, f) refl
entry_by x y z Greater Equal e f = let g : nat_cmp x.count z.count ≡ Greater = sym (alike_right nat_cmp_total y.count z.count x.count f) ∙ e in rw (e, f, g, e) refl
entry_by x y z Greater Greater e f = let g = greater_greater x.count y.count z.count e f in rw (e, f, g, e) refl

entry_associates : (x y z : Entry) → joined_entry (joined_entry x y) z ≡ joined_entry x (joined_entry y z)
entry_associates x y z = entry_by x y z (nat_cmp x.count y.count) (nat_cmp y.count z.count) refl refl

abbrev join : List Entry → List Entry → List Entry
join = joined_dirs

module _ (x y z : Entry) (xs ys zs : List Entry) where
  -- of the first two, and of the last two, as the first entries stand
  first_two : (o : Ordering) → entry_cmp x y ≡ o → join (join (x ∷ xs) (y ∷ ys)) (z ∷ zs) ≡ join (joined_so x y xs ys o) (z ∷ zs)
  first_two o e = ap (λ (l : List Entry). join l (z ∷ zs)) (joined_is x y xs ys o e)

  last_two : (o : Ordering) → entry_cmp y z ≡ o → join (x ∷ xs) (joined_so y z ys zs o) ≡ join (x ∷ xs) (join (y ∷ ys) (z ∷ zs))
  last_two o e = ap (λ (l : List Entry). join (x ∷ xs) l) (sym (joined_is y z ys zs o e))

  module _ (by_xs : (ys zs : List Entry) → join (join xs ys) zs ≡ join xs (join ys zs)) (by_ys : (zs : List Entry) → join (join (x ∷ xs) ys) zs ≡ join (x ∷ xs) (join ys zs))
      (by_zs : join (join (x ∷ xs) (y ∷ ys)) zs ≡ join (x ∷ xs) (join (y ∷ ys) zs)) where
    -- the last one is before both
    last_first : (o : Ordering) (hd : Entry) (tl : List Entry) → entry_cmp x y ≡ o → joined_so x y xs ys o ≡ hd ∷ tl → entry_cmp hd z ≡ Greater → entry_cmp x z ≡ Greater → entry_cmp y z ≡ Greater
        → join (join (x ∷ xs) (y ∷ ys)) (z ∷ zs) ≡ join (x ∷ xs) (join (y ∷ ys) (z ∷ zs))
    last_first o hd tl e parts r q p =
        let both : join (x ∷ xs) (y ∷ ys) ≡ hd ∷ tl = joined_is x y xs ys o e ∙ parts in
        ap (λ (l : List Entry). join l (z ∷ zs)) both
        ∙ joined_is hd z tl zs Greater r
        ∙ ap (λ (l : List Entry). z ∷ join l zs) (sym both)
        ∙ ap (λ (l : List Entry). z ∷ l) by_zs
        ∙ sym (joined_is x z xs (join (y ∷ ys) zs) Greater q)
        ∙ last_two Greater p

    less_greater : (q : Ordering) → entry_cmp x y ≡ Less → entry_cmp y z ≡ Greater → entry_cmp x z ≡ q → join (join (x ∷ xs) (y ∷ ys)) (z ∷ zs) ≡ join (x ∷ xs) (join (y ∷ ys) (z ∷ zs))
    less_greater Less e f g =
        first_two Less e ∙ joined_is x z (join xs (y ∷ ys)) zs Less g
        ∙ ap (λ (l : List Entry). x ∷ l) (by_xs (y ∷ ys) (z ∷ zs) ∙ ap (λ (l : List Entry). join xs l) (joined_is y z ys zs Greater f))
        ∙ sym (joined_is x z xs (join (y ∷ ys) zs) Less g) ∙ last_two Greater f
    less_greater Equal e f g =
        first_two Less e ∙ joined_is x z (join xs (y ∷ ys)) zs Equal g
        ∙ ap (λ (l : List Entry). joined_entry x z ∷ l) (by_xs (y ∷ ys) zs)
        ∙ sym (joined_is x z xs (join (y ∷ ys) zs) Equal g) ∙ last_two Greater f
    less_greater Greater e f g = last_first Less x (join xs (y ∷ ys)) e refl g g f

    associates_so : (o p : Ordering) → entry_cmp x y ≡ o → entry_cmp y z ≡ p → join (join (x ∷ xs) (y ∷ ys)) (z ∷ zs) ≡ join (x ∷ xs) (join (y ∷ ys) (z ∷ zs))
    associates_so Less Less e f =
        let g : entry_cmp x z ≡ Less = entry_total.trans x y z e f in
        first_two Less e ∙ joined_is x z (join xs (y ∷ ys)) zs Less g
        ∙ ap (λ (l : List Entry). x ∷ l) (by_xs (y ∷ ys) (z ∷ zs) ∙ ap (λ (l : List Entry). join xs l) (joined_is y z ys zs Less f))
        ∙ sym (joined_is x y xs (join ys (z ∷ zs)) Less e) ∙ last_two Less f
    associates_so Less Equal e f =
        let g : entry_cmp x z ≡ Less = sym (alike_right entry_total y z x f) ∙ e in
        first_two Less e ∙ joined_is x z (join xs (y ∷ ys)) zs Less g
        ∙ ap (λ (l : List Entry). x ∷ l) (by_xs (y ∷ ys) (z ∷ zs) ∙ ap (λ (l : List Entry). join xs l) (joined_is y z ys zs Equal f))
        ∙ sym (joined_is x (joined_entry y z) xs (join ys zs) Less (joined_right x y z f ∙ e)) ∙ last_two Equal f
    associates_so Less Greater e f = less_greater (entry_cmp x z) e f refl
    associates_so Equal Less e f =
        first_two Equal e ∙ joined_is (joined_entry x y) z (join xs ys) zs Less (joined_left x y z e ∙ f)
        ∙ ap (λ (l : List Entry). joined_entry x y ∷ l) (by_xs ys (z ∷ zs))
        ∙ sym (joined_is x y xs (join ys (z ∷ zs)) Equal e) ∙ last_two Less f
    associates_so Equal Equal e f =
        first_two Equal e ∙ joined_is (joined_entry x y) z (join xs ys) zs Equal (joined_left x y z e ∙ f)
        ∙ ap (λ (l : List Entry). joined_entry (joined_entry x y) z ∷ l) (by_xs ys zs)
        ∙ ap (λ (d : Entry). d ∷ join xs (join ys zs)) (entry_associates x y z)
        ∙ sym (joined_is x (joined_entry y z) xs (join ys zs) Equal (joined_right x y z f ∙ e)) ∙ last_two Equal f
    associates_so Equal Greater e f =
        let g : entry_cmp x z ≡ Greater = entry_total.congr x y z e ∙ f in
        last_first Equal (joined_entry x y) (join xs ys) e refl (joined_left x y z e ∙ f) g f
    associates_so Greater Less e f =
        first_two Greater e ∙ joined_is y z (join (x ∷ xs) ys) zs Less f
        ∙ ap (λ (l : List Entry). y ∷ l) (by_ys (z ∷ zs))
        ∙ sym (joined_is x y xs (join ys (z ∷ zs)) Greater e) ∙ last_two Less f
    associates_so Greater Equal e f =
        first_two Greater e ∙ joined_is y z (join (x ∷ xs) ys) zs Equal f
        ∙ ap (λ (l : List Entry). joined_entry y z ∷ l) (by_ys zs)
        ∙ sym (joined_is x (joined_entry y z) xs (join ys zs) Greater (joined_right x y z f ∙ e)) ∙ last_two Equal f
    associates_so Greater Greater e f =
        let g : entry_cmp x z ≡ Greater = back z x Less (entry_total.trans z y x (back y z Greater f) (back x y Greater e)) in
        last_first Greater y (join (x ∷ xs) ys) e refl f g f

module _ (x : Entry) (xs : List Entry) (by_xs : (ys zs : List Entry) → join (join xs ys) zs ≡ join xs (join ys zs)) where
  module _ (y : Entry) (ys : List Entry) (by_ys : (zs : List Entry) → join (join (x ∷ xs) ys) zs ≡ join (x ∷ xs) (join ys zs)) where
    associates_last : (zs : List Entry) → join (join (x ∷ xs) (y ∷ ys)) zs ≡ join (x ∷ xs) (join (y ∷ ys) zs)
    associates_last [] = nothing_joined (join (x ∷ xs) (y ∷ ys)) ∙ ap (λ (l : List Entry). join (x ∷ xs) l) (sym (nothing_joined (y ∷ ys)))
    associates_last (z ∷ zs) = associates_so x y z xs ys zs by_xs by_ys (associates_last zs) (entry_cmp x y) (entry_cmp y z) refl refl

  associates_middle : (ys zs : List Entry) → join (join (x ∷ xs) ys) zs ≡ join (x ∷ xs) (join ys zs)
  associates_middle [] zs = ap (λ (l : List Entry). join l zs) (nothing_joined (x ∷ xs))
  associates_middle (y ∷ ys) zs = associates_last y ys (associates_middle ys) zs

pub associative : (xs ys zs : List Entry) → joined_dirs (joined_dirs xs ys) zs ≡ joined_dirs xs (joined_dirs ys zs)
associative [] ys zs = refl
associative (x ∷ xs) ys zs = associates_middle x xs (associative xs) ys zs
