-- Sites and their root directories, one number after the other.
use Rattle.std.proofs.Common.{◌≡◌, ℕ, zero, suc, ◌+◌, ◌-◌, ◌<◌, Bool, true, false, cond, List, [], ◌∷◌, ◌++◌, length, refl, sym, ap, ◌∙◌, append_assoc}
use Rattle.std.specs.Prelude.{map, filter}
use Rattle.locus_ids.specs.declared.config.Config.{Config}
use Rattle.commit_graph.specs.Vectors.{numbers_from}
use Rattle.tree_tables.proofs.Counting.{next_number}
use Rattle.promises.specs.Past.{Site, first_site}
use Rattle.audit_sites.specs.Rows.{IsNumbered}

-- one more number has its row
pub row_more : {X : Type 0} (f : ℕ → X) (n end : ℕ) (made now all : List X) (x : X) → n < end → now ≡ made ++ x ∷ [] → x ≡ f n
    → made ++ map f (numbers_from n (end - n)) ≡ all → now ++ map f (numbers_from (n + 1) (end - (n + 1))) ≡ all
row_more f n end made now all x l pushed is before =
    ap (λ ys. ys ++ map f (numbers_from (n + 1) (end - (n + 1)))) (pushed ∙ ap (λ y. made ++ y ∷ []) is)
    ∙ append_assoc made (f n ∷ []) (map f (numbers_from (n + 1) (end - (n + 1))))
    ∙ ap (λ ns. made ++ map f ns) (sym (next_number n end l))
    ∙ before

-- the same of those that pass
pub passing_more : {X : Type 0} (p : ℕ → Bool) (f : ℕ → X) (n end : ℕ) (made now all : List X) (x : X) → n < end → p n ≡ true → now ≡ made ++ x ∷ [] → x ≡ f n
    → made ++ map f (filter p (numbers_from n (end - n))) ≡ all → now ++ map f (filter p (numbers_from (n + 1) (end - (n + 1)))) ≡ all
passing_more p f n end made now all x l passed pushed is before =
    ap (λ ys. ys ++ map f (filter p (numbers_from (n + 1) (end - (n + 1))))) (pushed ∙ ap (λ y. made ++ y ∷ []) is)
    ∙ append_assoc made (f n ∷ []) (map f (filter p (numbers_from (n + 1) (end - (n + 1)))))
    ∙ ap (λ b. made ++ map f (cond b (n ∷ filter p (numbers_from (n + 1) (end - (n + 1)))) (filter p (numbers_from (n + 1) (end - (n + 1)))))) (sym passed)
    ∙ ap (λ ns. made ++ map f (filter p ns)) (sym (next_number n end l))
    ∙ before

pub passing_past : {X : Type 0} (p : ℕ → Bool) (f : ℕ → X) (n end : ℕ) (made now all : List X) → n < end → p n ≡ false → now ≡ made
    → made ++ map f (filter p (numbers_from n (end - n))) ≡ all → now ++ map f (filter p (numbers_from (n + 1) (end - (n + 1)))) ≡ all
passing_past p f n end made now all l failed same before =
    ap (λ ys. ys ++ map f (filter p (numbers_from (n + 1) (end - (n + 1))))) same
    ∙ ap (λ b. made ++ map f (cond b (n ∷ filter p (numbers_from (n + 1) (end - (n + 1)))) (filter p (numbers_from (n + 1) (end - (n + 1)))))) (sym failed)
    ∙ ap (λ ns. made ++ map f (filter p ns)) (sym (next_number n end l))
    ∙ before

own_numbers : (c : Config) (ns : List ℕ) → map (λ (s : Site). s.number) (map (first_site c) ns) ≡ ns
own_numbers c [] = refl
own_numbers c (n ∷ ns) = ap (λ ms. n ∷ ms) (own_numbers c ns)

as_many : (c : Config) (first count : ℕ) → length (map (first_site c) (numbers_from first count)) ≡ count
as_many c first zero = refl
as_many c first (suc count) = ap suc (as_many c (first + 1) count)

pub first_numbered : (c : Config) (rows : List Site) (count : ℕ) → rows ≡ map (first_site c) (numbers_from 1 count) → IsNumbered rows
first_numbered c rows count e =
    ap (map (λ (s : Site). s.number)) e
    ∙ own_numbers c (numbers_from 1 count)
    ∙ ap (numbers_from 1) (sym (ap length e ∙ as_many c 1 count))
