-- Packets that ascend by kind and receiver are in order.
use Rattle.std.proofs.Common.{◌≡◌, ℕ, zero, suc, ◌+◌, ◌<◌, ◌≤◌, List, [], ◌∷◌, ◌++◌, length, take, drop, get_or, slice_get, Some, false, ⊎_elim, refl, sym, ap, subst, ◌∙◌, arith}
use Rattle.std.specs.List.{AllByRecursion}
use Rattle.std.specs.declared.cmp.Ordering.TheVariants.{Equal, Greater}
use Rattle.std.specs.Cmp.{nat_cmp_is}
use Rattle.std.proofs.lemmas.Bool.{cases_lt}
use Rattle.locus_ids.specs.Sizes.{sites_max}
use Rattle.wire_messages.specs.declared.packet.Packet.{Packet}
use Rattle.wire_messages.specs.Bodies.{kind_number}
use Rattle.epoch_rules.specs.of_role_steps.Tables.{put_before, sorted_onto}
use Rattle.the_run.specs.Steps.{is_before, in_order}
use Rattle.packet_order.specs.Orders.{key}
use Rattle.packet_order.proofs.Placing.{drop_at, get_some}

-- one with a greater key isn't before one with a lesser
behind : (x y : Packet) → x.to ≤ sites_max → key y < key x → is_before x y ≡ false
behind x y few lt = ⊎_elim
    (λ (less : kind_number y.body < kind_number x.body). let e = nat_cmp_is (kind_number x.body) (kind_number y.body) Greater less in rw (is_before, sym e) refl)
    (λ (ge : kind_number x.body ≤ kind_number y.body).
    let same : kind_number x.body ≡ kind_number y.body = omega arith in
    let more : y.to < x.to = omega arith in
    let e = nat_cmp_is (kind_number x.body) (kind_number y.body) Equal same in
    let f = nat_cmp_is x.to y.to Greater more in
    rw (is_before, sym e, sym f) refl)
    (cases_lt (kind_number y.body) (kind_number x.body))

-- so it comes last
comes_last : (x : Packet) (done : List Packet) (last : ℕ) → x.to ≤ sites_max → last < key x → AllByRecursion (λ (y : Packet). key y ≤ last) done → put_before is_before x done ≡ done ++ x ∷ []
comes_last x [] last few lt all = refl
comes_last x (y ∷ ys) last few lt all =
    let first : key y ≤ last = all.0 in
    rw (behind x y few (omega arith), put_before) (ap (λ (zs : List Packet). y ∷ zs) (comes_last x ys last few lt all.1))

none_above : (x : Packet) (done : List Packet) (last : ℕ) → last < key x → AllByRecursion (λ (y : Packet). key y ≤ last) done → AllByRecursion (λ (y : Packet). key y ≤ key x) (done ++ x ∷ [])
none_above x [] last lt all = (omega arith, tt)
none_above x (y ∷ ys) last lt all = (let first : key y ≤ last = all.0 in omega arith, none_above x ys last lt all.1)

take_next : (ps : List Packet) (i : ℕ) (p : Packet) → slice_get ps i ≡ Some p → take (suc i) ps ≡ take i ps ++ p ∷ []
take_next [] i p e = absurd (cc)
take_next (q ∷ ps) zero p e = let f : q ≡ p = cc in ap (λ (z : Packet). z ∷ []) f
take_next (q ∷ ps) (suc i) p e = ap (λ (zs : List Packet). q ∷ zs) (take_next ps i p e)

-- the first i packets ascend up to a key, and are in order
pub record AscendTo (ps : List Packet) (i last : ℕ) : Type 0 where
  pub sorted : sorted_onto is_before (take i ps) (drop i ps) ≡ in_order ps
  pub below : AllByRecursion (λ (y : Packet). key y ≤ last) (take i ps)

ascend_more : (ps : List Packet) (i last : ℕ) (p : Packet) → i < length ps → p ≡ get_or ps i p → p.to ≤ sites_max → last < key p → AscendTo ps i last → AscendTo ps (i + 1) (key p)
ascend_more ps i last p lt is few more so_far =
    let at : slice_get ps i ≡ Some p = get_some ps i p lt ∙ ap Some (sym is) in
    let next : suc i ≡ i + 1 = omega arith in
    let taken : take (i + 1) ps ≡ take i ps ++ p ∷ [] = ap (λ (k : ℕ). take k ps) (sym next) ∙ take_next ps i p at in
    let left : drop i ps ≡ p ∷ drop (i + 1) ps = drop_at ps i p at ∙ ap (λ (k : ℕ). p ∷ drop k ps) next in
    record {
      sorted =
          ap (λ (done : List Packet). sorted_onto is_before done (drop (i + 1) ps)) (taken ∙ sym (comes_last p (take i ps) last few more so_far.below))
          ∙ (sym (ap (sorted_onto is_before (take i ps)) left) ∙ so_far.sorted);
      below = rw taken (none_above p (take i ps) last more so_far.below);
    }

-- in code
pub ascend_next : (ps : List Packet) (i last more : ℕ) (p : Packet) → i < length ps → p ≡ get_or ps i p → p.to ≤ sites_max → more ≡ key p → last < more → AscendTo ps i last → AscendTo ps (i + 1) more
ascend_next ps i last more p lt is few e above so_far = subst (AscendTo ps (i + 1)) (sym e) (ascend_more ps i last p lt is few (omega arith) so_far)
