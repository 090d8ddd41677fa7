-- Lots of sites that start, one more of them, and whom they ask.
use Rattle.std.proofs.Common.{◌≡◌, ◌≢◌, ℕ, zero, suc, ◌≤◌, ◌==◌, ◌⊎◌, Bool, true, false, cond, ◌||◌, not, refl, sym, ◌∙◌, ap, subst, inl, inr, arith, ◌<◌}
use Rattle.std.proofs.lemmas.Bool.Decides.{nat_tests}
use Rattle.role_steps.proofs.of_plain_facts.Numbers.{equal_self, not_zero, not_zero_test}
use Rattle.locus_ids.specs.declared.sites.Links.{Links}
use Rattle.locus_ids.specs.declared.sites.Members.{Members}
use Rattle.locus_ids.specs.Sizes.{sites_max}
use Rattle.wire_messages.specs.declared.packet.Packet.{Packet}
use Rattle.wire_messages.specs.declared.body.Body.{Body}
use Rattle.wire_messages.specs.declared.body.Body.TheVariants as body
use Rattle.role_steps.specs.Views.{boot_in}
use Rattle.role_steps.specs.Epochs.{boots_where, merge_boot, part_boot}
use Rattle.the_run.specs.Worlds.{World, place_at, links_of}
use Rattle.the_run.proofs.Boots.{every_weaker}
use Rattle.run_laws.specs.Epochs.Known.{Places}
use Rattle.run_laws.proofs.Epochs.Boots.{boot_or_none, boots_without}
use Rattle.row_laws.specs.Orderly.Blocks.{StandApart}
use Rattle.row_laws.specs.Orderly.Quiet.{IsDead, OnPoll}
use Rattle.row_laws.specs.Orderly.Settling.{Starts, reaches, AreApart, IsLive, PollOk, Settling}
use Rattle.row_laws.proofs.Orderly.StartTurn.{With}

-- ---- lots of sites that start ----

abbrev pub Join : Starts → Starts → Starts
Join R Q X P = R X P ⊎ Q X P

abbrev pub Within : Starts → Starts → Type 0
Within R Q = (X : ℕ) (P : Links) → R X P → Q X P

pub apart_same : (first : World) (R Q : Starts) → Within Q R → AreApart first R → AreApart first Q
apart_same first R Q f h = record {
  linked = λ s P t r. h.linked s P t (f s P r);
  sized = λ s P t r. h.sized s P t (f s P r);
  itself = λ s P r. h.itself s P (f s P r);
  others = λ s P t L r q. h.others s P t L (f s P r) (f t L q);
  apart = λ s P t L x r q. h.apart s P t L x (f s P r) (f t L q);
  one = λ s P L r q. h.one s P L (f s P r) (f s L q);
}

live_same : (first : World) (R Q : Starts) (at : Places) (p : Packet) (x : Body) → Within R Q → OnPoll (IsDead at p ⊎ IsLive first R p) x → OnPoll (IsDead at p ⊎ IsLive first Q p) x
live_same first R Q at p body.Poll f (inl d) = inl d
live_same first R Q at p body.Poll f (inr l) = inr (record { polled = l.polled; starts = f p.epoch.site l.polled l.starts; asked = l.asked; some = l.some; boot = l.boot })
live_same first R Q at p _ f h = tt

pub settling_same : (first w : World) (R Q : Starts) → Within R Q → Within Q R → Settling first R w → Settling first Q w
settling_same first w R Q f g h = record {
  boots = h.boots;
  circuits = h.circuits;
  sent = every_weaker (PollOk first R (place_at w)) (PollOk first Q (place_at w)) w.sent (λ x k. live_same first R Q (place_at w) x.packet x.packet.body f k) h.sent;
  underway = every_weaker (PollOk first R (place_at w)) (PollOk first Q (place_at w)) w.underway (λ x k. live_same first R Q (place_at w) x.packet x.packet.body f k) h.underway;
  rounds = λ s v r here round. (let k : (P : Links) × R s P = h.rounds s v r here round in (k.0, f s k.0 k.1));
  rows = λ s P q. h.rows s P (g s P q);
}

-- ---- one more site ----

zero_or : (n : ℕ) → (n ≡ 0) ⊎ (n ≢ 0)
zero_or zero = inl refl
zero_or (suc n) = inr (λ e. absurd (cc))

pub with_apart : (first : World) (R : Starts) (s : ℕ) (P : Links) → AreApart first R → StandApart first R (λ X L. (X ≡ s) × (L ≡ P)) → reaches first s s ≡ true → boot_in P.boot s ≡ 0 → ((t : ℕ) → boot_in P.boot t ≢ 0 → boot_in P.boot t ≡ boot_in (links_of first s).boot t) → ((t : ℕ) → sites_max < t → boot_in P.boot t ≡ 0) → AreApart first (With R s P)
with_apart first R s P h d own self linked sized = record {
  linked = λ x L t r some. by_linked x L t r some;
  sized = λ x L t r high. by_sized x L t r high;
  itself = λ x L r. by_itself x L r;
  others = λ x L y M r q. by_others x L y M r q;
  apart = λ x L y M t r q a b. by_apart x L y M t r q a b;
  one = λ x L M r q. by_one x L M r q;
}
  where
    by_linked : (x : ℕ) (L : Links) (t : ℕ) → With R s P x L → boot_in L.boot t ≢ 0 → boot_in L.boot t ≡ boot_in (links_of first x).boot t
    by_linked x L t (inl r) some = h.linked x L t r some
    by_linked x L t (inr k) some = ap (λ (M : Links). boot_in M.boot t) k.1 ∙ (linked t (λ z. some (ap (λ (M : Links). boot_in M.boot t) k.1 ∙ z)) ∙ ap (λ (y : ℕ). boot_in (links_of first y).boot t) (sym k.0))

    by_sized : (x : ℕ) (L : Links) (t : ℕ) → With R s P x L → sites_max < t → boot_in L.boot t ≡ 0
    by_sized x L t (inl r) high = h.sized x L t r high
    by_sized x L t (inr k) high = ap (λ (M : Links). boot_in M.boot t) k.1 ∙ sized t high

    by_itself : (x : ℕ) (L : Links) → With R s P x L → boot_in (links_of first x).boot x ≢ 0
    by_itself x L (inl r) = h.itself x L r
    by_itself x L (inr k) = λ z. not_zero (boot_in (links_of first s).boot s) own (ap (λ (y : ℕ). boot_in (links_of first y).boot y) (sym k.0) ∙ z)

    -- whom one asks it reaches
    asks : (x : ℕ) (L : Links) (t : ℕ) → With R s P x L → boot_in L.boot t ≢ 0 → reaches first x t ≡ true
    asks x L t r some = not_zero_test (boot_in (links_of first x).boot t) (λ z. some (by_linked x L t r some ∙ z))

    self_of : (x : ℕ) (L : Links) → With R s P x L → reaches first x x ≡ true
    self_of x L r = not_zero_test (boot_in (links_of first x).boot x) (by_itself x L r)

    by_others : (x : ℕ) (L : Links) (y : ℕ) (M : Links) → With R s P x L → With R s P y M → boot_in M.boot x ≡ 0
    by_others x L y M (inl r) (inl q) = h.others x L y M r q
    by_others x L y M (inr k) (inr m) = ap (λ (N : Links). boot_in N.boot x) m.1 ∙ (ap (boot_in P.boot) k.0 ∙ self)
    by_others x L y M (inl r) (inr m) = by_zero (zero_or (boot_in M.boot x))
      where
        by_zero : (boot_in M.boot x ≡ 0) ⊎ (boot_in M.boot x ≢ 0) → boot_in M.boot x ≡ 0
        by_zero (inl z) = z
        by_zero (inr some) = absurd (d.apart x L y M x r m (self_of x L (inl r)) (asks y M x (inr m) some))
    by_others x L y M (inr k) (inl q) = by_zero (zero_or (boot_in M.boot x))
      where
        by_zero : (boot_in M.boot x ≡ 0) ⊎ (boot_in M.boot x ≢ 0) → boot_in M.boot x ≡ 0
        by_zero (inl z) = z
        by_zero (inr some) = absurd (d.apart y M x L x q k (asks y M x (inl q) some) (self_of x L (inr k)))

    by_apart : (x : ℕ) (L : Links) (y : ℕ) (M : Links) (t : ℕ) → With R s P x L → With R s P y M → boot_in L.boot t ≢ 0 → boot_in M.boot t ≢ 0 → x ≡ y
    by_apart x L y M t (inl r) (inl q) a b = h.apart x L y M t r q a b
    by_apart x L y M t (inr k) (inr m) a b = k.0 ∙ sym m.0
    by_apart x L y M t (inl r) (inr m) a b = absurd (d.apart x L y M t r m (asks x L t (inl r) a) (asks y M t (inr m) b))
    by_apart x L y M t (inr k) (inl q) a b = absurd (d.apart y M x L t q k (asks y M t (inl q) b) (asks x L t (inr k) a))

    by_one : (x : ℕ) (L M : Links) → With R s P x L → With R s P x M → L ≡ M
    by_one x L M (inl r) (inl q) = h.one x L M r q
    by_one x L M (inr k) (inr m) = k.1 ∙ sym m.1
    by_one x L M (inl r) (inr m) = absurd (d.differ x L x M r m refl)
    by_one x L M (inr k) (inl q) = absurd (d.differ x M x L q k refl)

-- ---- whom a line asks ----

-- it doesn't ask itself
pub merge_others : (s : ℕ) (links : Links) → boot_in (boots_where (merge_boot s links)).boot s ≡ 0
merge_others s links = boots_without (merge_boot s links) s (subst (λ (b : Bool). cond b 0 (boot_in links.boot s) ≡ 0) (sym (equal_self s)) refl)

pub part_others : (s : ℕ) (links : Links) (m : Members) → boot_in (boots_where (part_boot s links m)).boot s ≡ 0
part_others s links m = boots_without (part_boot s links m) s (subst (λ (b : Bool). cond (b || not (boot_in links.boot s == boot_in m.boot s)) 0 (boot_in m.boot s) ≡ 0) (sym (equal_self s)) refl)

cond_or : (b : Bool) (n : ℕ) → (cond b 0 n ≡ n) ⊎ (cond b 0 n ≡ 0)
cond_or true n = inr refl
cond_or false n = inl refl

pub merge_linked : (links : Links) (s t : ℕ) → boot_in (boots_where (merge_boot s links)).boot t ≢ 0 → boot_in (boots_where (merge_boot s links)).boot t ≡ boot_in links.boot t
merge_linked links s t some = by_case (boot_or_none (merge_boot s links) t)
  where
    by_case : (boot_in (boots_where (merge_boot s links)).boot t ≡ merge_boot s links t) ⊎ (boot_in (boots_where (merge_boot s links)).boot t ≡ 0) → boot_in (boots_where (merge_boot s links)).boot t ≡ boot_in links.boot t
    by_case (inr z) = absurd (some z)
    by_case (inl e) = by_self (cond_or (t == s) (boot_in links.boot t))
      where
        by_self : (merge_boot s links t ≡ boot_in links.boot t) ⊎ (merge_boot s links t ≡ 0) → boot_in (boots_where (merge_boot s links)).boot t ≡ boot_in links.boot t
        by_self (inl k) = e ∙ k
        by_self (inr k) = absurd (some (e ∙ k))

pub part_linked : (links : Links) (m : Members) (s t : ℕ) → boot_in (boots_where (part_boot s links m)).boot t ≢ 0 → boot_in (boots_where (part_boot s links m)).boot t ≡ boot_in links.boot t
part_linked links m s t some = by_case (boot_or_none (part_boot s links m) t)
  where
    by_case : (boot_in (boots_where (part_boot s links m)).boot t ≡ part_boot s links m t) ⊎ (boot_in (boots_where (part_boot s links m)).boot t ≡ 0) → boot_in (boots_where (part_boot s links m)).boot t ≡ boot_in links.boot t
    by_case (inr z) = absurd (some z)
    by_case (inl e) = by_test (t == s) (boot_in links.boot t == boot_in m.boot t) refl e
      where
        equal : (a b : ℕ) → (a == b) ≡ true → a ≡ b
        equal a b f = grind (arith, nat_tests)

        by_test : (x y : Bool) → (boot_in links.boot t == boot_in m.boot t) ≡ y → boot_in (boots_where (part_boot s links m)).boot t ≡ cond (x || not y) 0 (boot_in m.boot t) → boot_in (boots_where (part_boot s links m)).boot t ≡ boot_in links.boot t
        by_test true y f g = absurd (some g)
        by_test false false f g = absurd (some g)
        by_test false true f g = g ∙ sym (equal (boot_in links.boot t) (boot_in m.boot t) f)
