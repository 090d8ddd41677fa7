-- The versions that notices under way name: where packets are sent, and where one has come.
use Rattle.std.proofs.Common.{Bool, List, [], ap, append_assoc, arith, false, inl, inr, length, length-append, refl, subst, sym, true, ℕ, ◌++◌, ◌+◌, ◌==◌, ◌∙◌, ◌∷◌, ◌≡◌, ◌≤◌, ◌⊎◌}
use Rattle.std.proofs.lemmas.Bool.Decides.{nat_tests}
use Rattle.calm_laws.proofs.Convergence.Lists.{among_either}
use Rattle.calm_laws.specs.Convergence.Offers.{Offer, is_for, named, names, names_to, notice_in}
use Rattle.row_laws.proofs.Orderly.Formed.{among_left, among_right}
use Rattle.role_steps.proofs.of_plain_facts.Numbers.{equal}
use Rattle.role_steps.proofs.of_plain_facts.Tests.{both_true}
use Rattle.role_steps.specs.Tables.{without_row}
use Rattle.role_steps.specs.declared.rounds.InEpoch.{InEpoch}
use Rattle.the_run.specs.Kept.{Among}
use Rattle.the_run.specs.Worlds.{Numbered, number_of}
use Rattle.wire_messages.specs.declared.body.Body.{Body}
use Rattle.wire_messages.specs.declared.body.Body.TheVariants as body
use Rattle.wire_messages.specs.declared.packet.Packet.{Packet}

-- a packet names one version at most
notice_one : (b : Body) → length (notice_in b) ≤ 1
notice_one (body.Notify file kind set size stamp vector holder) = omega arith
notice_one _ = omega arith

pub names_one : (e : InEpoch) (s : ℕ) (p : Packet) → length (names e s p) ≤ 1
names_one e s p = over (is_for e s p)
  where
    over : (b : Bool) → length (names_to b p.body) ≤ 1
    over true = notice_one p.body
    over false = omega arith

-- ---- packets sent ----

pub named_both : (e : InEpoch) (s : ℕ) (xs ys : List Numbered) → named e s (xs ++ ys) ≡ named e s xs ++ named e s ys
named_both e s [] ys = refl
named_both e s (x ∷ xs) ys = ap (λ (l : List Offer). names e s x.packet ++ l) (named_both e s xs ys) ∙ sym (append_assoc (names e s x.packet) (named e s xs) (named e s ys))

-- ---- a packet that has come ----

pub named_there : (e : InEpoch) (s : ℕ) (d : Offer) (x : Numbered) (xs : List Numbered) → Among x xs → Among d (names e s x.packet) → Among d (named e s xs)
named_there e s d x [] a b = absurd a
named_there e s d x (y ∷ ys) (inl k) b = among_left d (names e s y.packet) (named e s ys) (subst (λ (z : Numbered). Among d (names e s z.packet)) k b)
named_there e s d x (y ∷ ys) (inr k) b = among_right d (names e s y.packet) (named e s ys) (named_there e s d x ys k b)

-- what is named without it was named with it
pub named_less : (e : InEpoch) (s : ℕ) (d : Offer) (k : ℕ) (xs : List Numbered) → Among d (named e s (without_row number_of k xs)) → Among d (named e s xs)
named_less e s d k [] a = a
named_less e s d k (x ∷ xs) a = over (number_of x == k) (λ b. named_less e s d k xs b) a
  where
    over : (t : Bool) → (Among d (named e s (without_row number_of k xs)) → Among d (named e s xs)) → Among d (named e s (elim t [ true ↦ xs | false ↦ x ∷ without_row number_of k xs ])) → Among d (names e s x.packet ++ named e s xs)
    over true f b = among_right d (names e s x.packet) (named e s xs) b
    over false f b = next (among_either d (names e s x.packet) (named e s (without_row number_of k xs)) b)
      where
        next : Among d (names e s x.packet) ⊎ Among d (named e s (without_row number_of k xs)) → Among d (names e s x.packet ++ named e s xs)
        next (inl z) = among_left d (names e s x.packet) (named e s xs) z
        next (inr z) = among_right d (names e s x.packet) (named e s xs) (f z)

-- and all others are still named
pub named_rest : (e : InEpoch) (s : ℕ) (x : Numbered) (xs : List Numbered) → ((y : Numbered) → Among y xs → y.number ≡ x.number → y ≡ x) → length (named e s xs) ≤ length (names e s x.packet) + length (named e s (without_row number_of x.number xs))
named_rest e s x [] one = omega arith
named_rest e s x (y ∷ ys) one = over (number_of y == x.number) refl (named_rest e s x ys (λ z a. one z (inr a)))
  where
    equal : (i j : ℕ) → (i == j) ≡ true → i ≡ j
    equal i j h = grind (arith, nat_tests)

    over : (t : Bool) → (number_of y == x.number) ≡ t → length (named e s ys) ≤ length (names e s x.packet) + length (named e s (without_row number_of x.number ys)) →
        length (names e s y.packet ++ named e s ys) ≤ length (names e s x.packet) + length (named e s (elim t [ true ↦ ys | false ↦ y ∷ without_row number_of x.number ys ]))
    over true h k =
        let same : length (names e s y.packet) ≡ length (names e s x.packet) = ap (λ (z : Numbered). length (names e s z.packet)) (one y (inl refl) (equal y.number x.number h)) in
        let sum : length (names e s y.packet ++ named e s ys) ≡ length (names e s y.packet) + length (named e s ys) = length-append (names e s y.packet) (named e s ys) in
        omega (arith, same, sum)
    over false h k =
        let a : length (names e s y.packet ++ named e s ys) ≡ length (names e s y.packet) + length (named e s ys) = length-append (names e s y.packet) (named e s ys) in
        let b : length (names e s y.packet ++ named e s (without_row number_of x.number ys)) ≡ length (names e s y.packet) + length (named e s (without_row number_of x.number ys)) = length-append (names e s y.packet) (named e s (without_row number_of x.number ys)) in
        omega (arith, a, b, k)

-- ---- who names it ----

-- what is named is named by a packet
pub named_by : (e : InEpoch) (s : ℕ) (d : Offer) (xs : List Numbered) → Among d (named e s xs) → (y : Numbered) × Among y xs × Among d (names e s y.packet)
named_by e s d [] a = absurd a
named_by e s d (x ∷ xs) a = over (among_either d (names e s x.packet) (named e s xs) a) (λ k. named_by e s d xs k)
  where
    over : Among d (names e s x.packet) ⊎ Among d (named e s xs) → (Among d (named e s xs) → (y : Numbered) × Among y xs × Among d (names e s y.packet)) → (y : Numbered) × Among y (x ∷ xs) × Among d (names e s y.packet)
    over (inl k) later = (x, inl refl, k)
    over (inr k) later = (let r : (y : Numbered) × Among y xs × Among d (names e s y.packet) = later k in (r.0, inr r.1, r.2))

-- a packet that names a version to a member is for it, and a notice of the version
pub names_for : (e : InEpoch) (s : ℕ) (d : Offer) (p : Packet) → Among d (names e s p) → (p.to ≡ s) × Among d (notice_in p.body) × (is_for e s p ≡ true)
names_for e s d p a = over (is_for e s p) refl a
  where
    over : (b : Bool) → is_for e s p ≡ b → Among d (names_to b p.body) → (p.to ≡ s) × Among d (notice_in p.body) × (is_for e s p ≡ true)
    over true h k = (equal p.to s (both_true (p.to == s) _ h).0, k, h)
    over false h k = absurd k
