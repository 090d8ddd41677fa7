-- Members are their entries, both ways.
use Rattle.std.proofs.Common.{◌≡◌, ℕ, zero, suc, ◌+◌, ◌-◌, ◌<◌, ◌≤◌, inl, inr, Bool, true, false, IsTrue, eqb, leb, ◌&&◌, List, [], ◌∷◌, ◌++◌, length, set, replicate, Ok, Err, refl, sym, ap, subst, ◌∙◌, append_assoc, arith}
use Rattle.std.proofs.lemmas.Bool.{le-leb}
use Rattle.std.proofs.lemmas.Bool.Decides.{eqb_tells, leb_tells}
use Rattle.std.proofs.lemmas.List.{length-append}
use Rattle.field_codec.specs.of_locus_ids.Sizes.{sites_max}
use Rattle.field_codec.specs.of_locus_ids.declared.sites.Members.{Members}
use Rattle.std.proofs.Math.Dec.{eqb-suc-zero}
use Rattle.field_codec.specs.declared.faults.FieldFault.{FieldFault}
use Rattle.field_codec.specs.Codec.{Codec, Unread, Read, ◌>>=◌, AreBytes, u8, u8_in, pair, from_to}
use Rattle.field_codec.specs.Lists.{AllFit, read_times}
use Rattle.field_codec.proofs.Loop.{spelled_alike}
use Rattle.field_codec.proofs.Laws.{Lawful, Takes, rest_at, bind_ok, ok_is, u8_laws, pair_laws}
use Rattle.field_codec.proofs.Lists.{counted_laws}
use Rattle.wire_fields.specs.Parts.{numbers}
use Rattle.wire_fields.specs.Memberships.{Entry, entries, entries_from, boots_with, members_of, entries_of, members, spelled_entries}
use Rattle.wire_fields.proofs.PartLaws.{u8_in_laws, numbers_laws}

abbrev pub entry_from : ℕ → Codec Entry
entry_from least = pair (u8_in least sites_max) numbers

abbrev pub next_least : ℕ → Entry → ℕ
next_least _ entry = entry.0 + 1

abbrev pub Ascend : ℕ → List Entry → Type 0
Ascend s es = AllFit entry_from next_least s es

pub entries_laws : Lawful entries
entries_laws = counted_laws entry_from next_least (λ least. pair_laws (u8_in_laws least sites_max) numbers_laws) u8 u8_laws 1

both : (a b : Bool) → (a && b) ≡ true → (a ≡ true) × (b ≡ true)
both true true h = (refl, refl)
both true false h = absurd cc
both false b h = absurd cc

pub range : (lo hi n : ℕ) → IsTrue (from_to lo hi n) → (lo ≤ n) × (n ≤ hi)
range lo hi n h = let k = both (leb lo n) (leb n hi) h in (grind (arith, leb_tells lo n, k.0), grind (arith, leb_tells n hi, k.1))

pub in_range : (lo hi n : ℕ) → lo ≤ n → n ≤ hi → IsTrue (from_to lo hi n)
in_range lo hi n low high = rw (le-leb lo n low, le-leb n hi high) refl

pub set_behind : (front rest : List ℕ) (x y : ℕ) (p : ℕ) → p ≡ length front → set (front ++ x ∷ rest) p y ≡ front ++ y ∷ rest
set_behind [] rest x y p e = rw e refl
set_behind (f ∷ front) rest x y zero e = absurd (omega arith)
set_behind (f ∷ front) rest x y (suc p) e = ap (λ (t : List ℕ). f ∷ t) (set_behind front rest x y p (omega arith))

-- the entries of some boots make these boots
pub boots_again : (front bs : List ℕ) (s : ℕ) → s ≡ length front + 1 → boots_with (front ++ replicate (length bs) 0) (entries_from s bs) ≡ front ++ bs
boots_again front [] s e = refl
boots_again front (b ∷ bs) s e = elim (eqb_tells b 0) [
  | inl is ↦ rw is.0 (
      ap (λ (t : List ℕ). boots_with t (entries_from (s + 1) bs)) (sym (append_assoc front (0 ∷ []) (replicate (length bs) 0)))
      ∙ boots_again (front ++ 0 ∷ []) bs (s + 1) (omega (arith, length-append front (0 ∷ [])))
      ∙ append_assoc front (0 ∷ []) bs
      ∙ ap (λ (n : ℕ). front ++ n ∷ bs) (sym is.1)
      )
  | inr isnt ↦ rw isnt.0 (
      ap (λ (t : List ℕ). boots_with t (entries_from (s + 1) bs)) (set_behind front (replicate (length bs) 0) 0 b (s - 1) (omega arith) ∙ sym (append_assoc front (b ∷ []) (replicate (length bs) 0)))
      ∙ boots_again (front ++ b ∷ []) bs (s + 1) (omega (arith, length-append front (b ∷ [])))
      ∙ append_assoc front (b ∷ []) bs
      )
]

abbrev pub Boots : ℕ → ℕ → List Entry → Type 0
Boots n s es = (bs : List ℕ) × (length bs ≡ n) × (entries_from s bs ≡ es)

none_after : (s : ℕ) → sites_max + 1 ≤ s → (es : List Entry) → Ascend s es → es ≡ []
none_after s le [] h = refl
none_after s le (e ∷ es) h = let r = range s sites_max e.0 h.0.0.0 in absurd (omega (arith, r.0, r.1))

same_entry : (e : Entry) (s : ℕ) → e.0 ≡ s → (let p : Entry = (s, e.1) in p) ≡ e
same_entry e s same = ap (λ (n : ℕ). (n, e.1)) (sym same)

-- entries that ascend are those of some boots
pub boots_of : (n s : ℕ) → n + s ≡ sites_max + 1 → (es : List Entry) → Ascend s es → Boots n s es
boots_of zero s sum es h = ([], refl, sym (none_after s (omega arith) es h))
boots_of (suc n) s sum [] h = let k = boots_of n (s + 1) (omega arith) [] tt in (0 ∷ k.0, omega (arith, k.1), k.2)
boots_of (suc n) s sum (e ∷ es) h = elim (eqb_tells e.0 s) [
  | inl is ↦
      let k = boots_of n (s + 1) (omega arith) es (subst (λ (m : ℕ). Ascend (m + 1) es) is.1 h.1) in
      let some : eqb e.1 0 ≡ false = positive e.1 (range 1 4294967295 e.1 h.0.1.0).0 in
      (e.1 ∷ k.0, omega (arith, k.1), rw some (ap (λ (t : List Entry). (s, e.1) ∷ t) k.2 ∙ ap (λ (x : Entry). x ∷ es) (same_entry e s is.1)))
  | inr isnt ↦
      let r = range s sites_max e.0 h.0.0.0 in
      let less : s + 1 ≤ e.0 = omega (arith, r.0, isnt.1) in
      let k = boots_of n (s + 1) (omega arith) (e ∷ es) (((in_range (s + 1) sites_max e.0 less r.1, h.0.0.1), h.0.1), h.1) in
      (0 ∷ k.0, omega (arith, k.1), k.2)
] where
  positive : (n : ℕ) → 1 ≤ n → eqb n 0 ≡ false
  positive zero le = absurd (omega arith)
  positive (suc n) le = eqb-suc-zero n

module _ (es : List Entry) (h : Ascend 1 es) where
  pub members_again : (entries_of (members_of es) ≡ es) × (length (members_of es).boot ≡ sites_max)
  members_again =
      let k = boots_of sites_max 1 (omega arith) es h in
      let same : boots_with (replicate sites_max 0) es ≡ k.0 =
      ap (λ (t : List Entry). boots_with (replicate sites_max 0) t) (sym k.2)
      ∙ ap (λ (n : ℕ). boots_with (replicate n 0) (entries_from 1 k.0)) (sym k.1)
      ∙ boots_again [] k.0 1 refl in
      (ap (entries_from 1) same ∙ k.2, ap length same ∙ k.1)

pub of_entries : (m : Members) → length m.boot ≡ sites_max → members_of (entries_of m) ≡ m
of_entries m e =
    ap (λ (bs : List ℕ). record { boot = bs }) (ap (λ (n : ℕ). boots_with (replicate n 0) (entries_from 1 m.boot)) (sym e) ∙ boots_again [] m.boot 1 refl)

pub members_laws : Lawful members
members_laws = record { takes = takes; again = again } where
  takes : (u : Unread) (x : Members) (after : Unread) → AreBytes u.bytes → members.read u ≡ Ok (x, after) → Takes u (members.spell x) after × members.Fits x
  takes u x after h e =
      let a = bind_ok (entries.read u) (λ r. Ok (members_of r.0, r.1)) (x, after) e in
      let k = entries_laws.takes u a.0.0 a.0.1 h a.1 in
      let m = members_again a.0.0 k.1.1 in
      subst (λ (y : Members × Unread). Takes u (members.spell y.0) y.1 × members.Fits y.0) (ok_is (members_of a.0.0, a.0.1) (x, after) a.2)
      (subst (λ (es : List Entry). Takes u (entries.spell es) a.0.1) (sym m.0) k.0, (m.1, subst (λ (es : List Entry). entries.Fits es) (sym m.0) k.1))

  again : (x : Members) (at : ℕ) (rest : List ℕ) → members.Fits x → members.read (rest_at at (members.spell x ++ rest)) ≡ Ok (x, rest_at (at + length (members.spell x)) rest)
  again x at rest h = rw (entries_laws.again (entries_of x) at rest h.1) (ap (λ (m : Members). Ok (m, rest_at (at + length (members.spell x)) rest)) (of_entries x h.0))

-- what was read before, and what is still read
abbrev pub with_boots : List ℕ → Read (List Entry) → Read (List ℕ)
with_boots boots read = read >>= λ s. Ok (boots_with boots s.0, s.1)

abbrev pub entries_times : ℕ → ℕ → Unread → Read (List Entry)
entries_times least n u = read_times entry_from next_least least n u

module _ (boots : List ℕ) (least count i : ℕ) (u : Unread) (total : Read (List ℕ)) where
  one_set : (e : Entry) (read : Read (List Entry)) → with_boots boots (read >>= λ s. Ok (e ∷ s.0, s.1)) ≡ with_boots (set boots (e.0 - 1) e.1) read
  one_set e (Ok s) = refl
  one_set e (Err d) = refl

  pub boots_more : (e : Entry) (after : Unread) → i < count → (entry_from least).read u ≡ Ok (e, after) → with_boots boots (entries_times least (count - i) u) ≡ total
      → with_boots (set boots (e.0 - 1) e.1) (entries_times (e.0 + 1) (count - (i + 1)) after) ≡ total
  unfolding read_times
  boots_more e after lt h so_far =
      let k : count - i ≡ suc (count - (i + 1)) = omega arith in
      let one : with_boots boots (entries_times least (count - i) u) ≡ with_boots (set boots (e.0 - 1) e.1) (entries_times (e.0 + 1) (count - (i + 1)) after) = rw (k, h) (one_set e (entries_times (e.0 + 1) (count - (i + 1)) after)) in
      sym one ∙ so_far

  pub boots_end : (d : FieldFault) → i < count → (entry_from least).read u ≡ Err d → with_boots boots (entries_times least (count - i) u) ≡ total → total ≡ Err d
  unfolding read_times
  boots_end d lt h so_far =
      let k : count - i ≡ suc (count - (i + 1)) = omega arith in
      let one : with_boots boots (entries_times least (count - i) u) ≡ Err d = rw (k, h) refl in
      sym so_far ∙ one

  pub boots_done : count ≤ i → with_boots boots (entries_times least (count - i) u) ≡ total → total ≡ Ok (boots, u)
  unfolding read_times
  boots_done le so_far =
      let k : count - i ≡ 0 = omega arith in
      let one : with_boots boots (entries_times least (count - i) u) ≡ Ok (boots, u) = rw k refl in
      sym so_far ∙ one

-- the members of the entries that were read
abbrev pub remade : Read (List Entry) → Read Members
remade r = r >>= λ s. Ok (members_of s.0, s.1)

abbrev pub no_boots : List ℕ
no_boots = replicate sites_max 0

-- all members, of all boots
pub members_read : (r : Read (List Entry)) (after : Unread) (boots : List ℕ) → with_boots no_boots r ≡ Ok (boots, after) → remade r ≡ Ok (record { boot = boots }, after)
members_read (Ok s) after boots h = ap (λ (p : List ℕ × Unread). Ok (record { boot = p.0 }, p.1)) (ok_is (boots_with no_boots s.0, s.1) (boots, after) h)
members_read (Err d) after boots h = absurd cc

pub members_err : (r : Read (List Entry)) (d : FieldFault) → with_boots no_boots r ≡ Err d → remade r ≡ Err d
members_err (Ok s) d h = absurd cc
members_err (Err x) d h = cc

pub entries_spelled : (es : List Entry) → entries.spell es ≡ length es ∷ spelled_entries es
entries_spelled es = ap (λ (t : List ℕ). length es ∷ t) (spelled_alike entry_from next_least (pair u8 numbers).spell (λ _ _. refl) 1 es)
