-- Which lines were wholly read where the source fails.
use Rattle.std.proofs.Common.{◌≡◌, ℕ, false, List, [], ◌∷◌, ◌++◌, Option, Some, None, refl, ap, sym, ◌∙◌, subst, append_assoc}
use Rattle.std.proofs.lemmas.List.{append-nil}
use Rattle.std.specs.Io.KnownBytes.{Keeps}
use Rattle.line_reader.specs.Reading.{whole_lines, has_feed, to_read, Between, EndsInFeed}
use Rattle.line_reader.proofs.Whole.{whole_lines-part, whole_lines-line}

-- these lines, each with its line feed, are what was read of xs before ys
pub record AreWhole (lines : List (List ℕ)) (xs ys : List ℕ) : Type 0 where
  pub front : List ℕ
  pub split : xs ≡ front ++ ys
  pub ends : (zs : List ℕ) → whole_lines (front ++ zs) ≡ lines ++ whole_lines zs

pub Between-whole-none : (a : Option (List ℕ)) → Between a (to_read [] a) (AreWhole [])
Between-whole-none None = tt
Between-whole-none (Some xs) = record { front = []; split = refl; ends = λ zs. refl }

one-more : (lines : List (List ℕ)) (line xs ys zs : List ℕ) → AreWhole lines xs ys → ys ≡ line ++ 10 ∷ zs → has_feed line ≡ false → AreWhole (lines ++ line ∷ []) xs zs
one-more lines line xs ys zs w e free = record {
  front = w.front ++ (line ++ 10 ∷ []);
  split = w.split ∙ ap (λ s. w.front ++ s) (e ∙ sym (append_assoc line (10 ∷ []) zs)) ∙ sym (append_assoc w.front (line ++ 10 ∷ []) zs);
  ends = λ rest.
      ap whole_lines (append_assoc w.front (line ++ 10 ∷ []) rest ∙ ap (λ s. w.front ++ s) (append_assoc line (10 ∷ []) rest))
      ∙ w.ends (line ++ 10 ∷ rest) ∙ ap (λ s. lines ++ s) (whole_lines-line line rest free) ∙ sym (append_assoc lines (line ∷ []) (whole_lines rest));
}

pub Between-whole-line : (a b c : Option (List ℕ)) (lines : List (List ℕ)) (line : List ℕ) →
    Between a b (AreWhole lines) → Between b c (EndsInFeed line) → Between a c (AreWhole (lines ++ line ∷ []))
Between-whole-line None b c lines line p q = tt
Between-whole-line (Some x) None c lines line p q = absurd p
Between-whole-line (Some x) (Some y) None lines line p q = absurd q
Between-whole-line (Some x) (Some y) (Some z) lines line p q = one-more lines line x y z p q.parts q.free

all-taken : (lines : List (List ℕ)) (xs ahead left : List ℕ) (P : Type 0) → AreWhole lines xs (ahead ++ left) → has_feed ahead ≡ false
    → ((taken : List ℕ) → xs ≡ taken ++ left → lines ≡ whole_lines taken → P) → P
all-taken lines xs ahead left P w free f =
    f (w.front ++ ahead) (w.split ∙ sym (append_assoc w.front ahead left)) (sym (w.ends ahead ∙ ap (λ s. lines ++ s) (whole_lines-part ahead free) ∙ append-nil lines))

-- where the source fails with no whole line taken ahead
pub wholly_read : (a b : Option (List ℕ)) (ahead : List ℕ) (left : Option (List ℕ)) (lines : List (List ℕ)) (R : List ℕ → List ℕ → Type 0)
    → Between a b (AreWhole lines) → Keeps b (to_read ahead left) → has_feed ahead ≡ false
    → ((input taken rest : List ℕ) → input ≡ taken ++ rest → lines ≡ whole_lines taken → R input rest) → Between a left R
wholly_read None b ahead left lines R whole keeps free f = tt
wholly_read (Some x) None ahead left lines R whole keeps free f = absurd whole
wholly_read (Some x) (Some y) ahead None lines R whole keeps free f = absurd keeps
wholly_read (Some x) (Some y) ahead (Some z) lines R whole keeps free f =
    all-taken lines x ahead z (R x z) (subst (λ (s : List ℕ). AreWhole lines x s) (sym keeps) whole) free (λ taken split read. f x taken z split read)
