-- Bytes that are told or not, and what goes on with them.
use Rattle.std.proofs.Common.{◌≡◌, ℕ, ◌+◌, take, List, [], ◌++◌, Option, Some, None, length, refl, ap, sym, ◌∙◌, arith, append_assoc}
use Rattle.std.proofs.lemmas.List.{append-nil, take_all}
use Rattle.std.proofs.Math.Seq.{take-append-add}
use Rattle.std.specs.Prelude.{IfSome}
use Rattle.std.specs.Io.KnownBytes.{Appends, Keeps}
use Rattle.locus_io.specs.Causes.{AppendsFront}
use Rattle.line_reader.specs.Reading.{Between, lines_of}
use Rattle.line_reader.proofs.ReadLines.{ReadsLines}

pub Appends-nothing : (a : Option (List ℕ)) → Appends a a []
Appends-nothing None = tt
Appends-nothing (Some xs) = sym (append-nil xs)

pub Appends-then : (a : Option (List ℕ)) (b : Option (List ℕ)) (c : Option (List ℕ)) (xs : List ℕ) (ys : List ℕ) → Appends a b xs → Appends b c ys → Appends a c (xs ++ ys)
Appends-then None b c xs ys p q = tt
Appends-then (Some x) None c xs ys p q = absurd p
Appends-then (Some x) (Some y) None xs ys p q = absurd q
Appends-then (Some x) (Some y) (Some z) xs ys p q = q ∙ ap (λ s. s ++ ys) p ∙ append_assoc x xs ys

pub AppendsFront-whole : (t : Option (List ℕ)) (u : Option (List ℕ)) (xs : List ℕ) → Appends t u xs → AppendsFront t u xs
AppendsFront-whole None u xs h = tt
AppendsFront-whole (Some t) None xs h = absurd h
AppendsFront-whole (Some t) (Some u) xs h = (length xs, h ∙ ap (λ s. t ++ s) (sym (take_all (length xs) xs (omega arith))))

pub AppendsFront-kept : (a : Option (List ℕ)) (b : Option (List ℕ)) (c : Option (List ℕ)) (xs : List ℕ) → Appends a b xs → Keeps b c → AppendsFront a c xs
AppendsFront-kept None b c xs p q = tt
AppendsFront-kept (Some x) None c xs p q = absurd p
AppendsFront-kept (Some x) (Some y) None xs p q = absurd q
AppendsFront-kept (Some x) (Some y) (Some z) xs p q = AppendsFront-whole (Some x) (Some z) xs (q ∙ p)

-- some bytes are given, and then a front of others
pub AppendsFront-then : (a : Option (List ℕ)) (b : Option (List ℕ)) (c : Option (List ℕ)) (xs : List ℕ) (ys : List ℕ) → Appends a b xs → AppendsFront b c ys → AppendsFront a c (xs ++ ys)
AppendsFront-then None b c xs ys p q = tt
AppendsFront-then (Some x) None c xs ys p q = absurd p
AppendsFront-then (Some x) (Some y) None xs ys p q = absurd q
AppendsFront-then (Some x) (Some y) (Some z) xs ys p q = (length xs + q.0, q.1 ∙ ap (λ s. s ++ take q.0 ys) p ∙ append_assoc x xs (take q.0 ys) ∙ ap (λ s. x ++ s) (sym (take-append-add xs ys q.0)))

-- where lines were read
pub Between-read : (a : Option (List ℕ)) (b : Option (List ℕ)) (lines : List (List ℕ)) →
    Between a b (ReadsLines lines) → IfSome a (λ input. (rest : List (List ℕ)) × (lines_of input ≡ lines ++ rest))
Between-read None b lines p = tt
Between-read (Some x) None lines p = absurd p
Between-read (Some x) (Some y) lines p = (lines_of y, p)
