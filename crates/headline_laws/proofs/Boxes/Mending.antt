-- The script of a mend: the one operation that it asks is to mend, and it asks it once.
use Rattle.std.proofs.Common.{◌≡◌, ℕ, Bool, List, [], ◌∷◌, ◌++◌, Option, sym, ◌∙◌, subst, inl, inr}
use Rattle.locus_ids.specs.declared.config.Mount.{Mount}
use Rattle.locus_ids.specs.declared.ids.CallId.{CallId}
use Rattle.locus_ids.specs.declared.ids.FileId.{FileId}
use Rattle.locus_ids.specs.declared.ids.Serial.{Serial}
use Rattle.locus_ids.specs.declared.ids.Stamp.{Stamp}
use Rattle.locus_ids.specs.declared.refusal.Refusal.{Refusal}
use Rattle.trace_book.specs.declared.call.Call.TheVariants as call
use Rattle.trace_book.specs.declared.descriptor.Beginning.TheVariants as begins
use Rattle.trace_book.specs.declared.operation.Op.{Op}
use Rattle.trace_book.specs.declared.operation.Op.TheVariants as op
use Rattle.call_rules.specs.Closing.{Unchanged, give_up}
use Rattle.call_rules.specs.Mending.{after_mend, brings, mend_wants}
use Rattle.call_rules.specs.Opening.{close_wants}
use Rattle.call_rules.specs.Scripts.{wants, where_packed}
use Rattle.call_rules.specs.declared.answer.Answer.{Answer}
use Rattle.call_rules.specs.declared.answer.Answer.TheVariants as answer
use Rattle.call_rules.specs.declared.want.Want.{Want}
use Rattle.call_rules.specs.declared.want.Want.TheVariants as want
use Rattle.tree_laws.proofs.Holding.{Script}
use Rattle.rest_laws.proofs.of_store_laws.OneTree.RemoveScripts.{IsOr, packed_is}

-- ---- what a mend asks ----

abbrev NotDo : Want → Type 0
NotDo (want.Do i o) = ⊥
NotDo _ = Unit {0}

abbrev pub OnlyMends : Want → Type 0
OnlyMends (want.Do i op.Mend) = Unit {0}
OnlyMends (want.Do i _) = ⊥
OnlyMends _ = Unit {0}

undone_mends : (w : Want) → NotDo w → OnlyMends w
undone_mends (want.Do i o) k = absurd k
undone_mends _ k = tt

closed_none : (i : Serial) (xs : List Answer) → NotDo (close_wants i xs)
closed_none i [] = tt
closed_none i (answer.Ended stamp ∷ []) = tt
closed_none i (answer.Ended stamp ∷ (a ∷ xs)) = tt
closed_none i (answer.Refused why ∷ []) = tt
closed_none i (answer.Refused why ∷ (a ∷ xs)) = tt
closed_none i (_ ∷ xs) = tt

given_up_none : (i : Serial) (why : Refusal) (xs : List Answer) → NotDo (give_up (Unchanged i ∷ []) why xs)
given_up_none i why [] = tt
given_up_none i why (answer.Ended stamp ∷ []) = tt
given_up_none i why (answer.Ended stamp ∷ (a ∷ xs)) = tt
given_up_none i why (answer.Refused reason ∷ []) = tt
given_up_none i why (answer.Refused reason ∷ (a ∷ xs)) = tt
given_up_none i why (_ ∷ xs) = tt

after_none : (i : Serial) (a : Answer) (xs : List Answer) → NotDo (after_mend i (a ∷ xs))
after_none i (answer.Did o) xs = closed_none i xs
after_none i (answer.Refused why) xs = given_up_none i why xs
after_none i _ xs = tt

-- The script asks an operation once, and that is to mend.
pub record MendsOnce (k : Script) : Type 0 where
  pub mends : (xs : List Answer) → OnlyMends (k xs)
  pub once : (xs : List Answer) (a : Answer) (ys : List Answer) (i j : Serial) (o p : Op) → k xs ≡ want.Do i o → k (xs ++ a ∷ ys) ≡ want.Do j p → ⊥

none_mends : (k : Script) → ((xs : List Answer) → NotDo (k xs)) → MendsOnce k
none_mends k quiet = record { mends = λ xs. undone_mends (k xs) (quiet xs); once = λ xs a ys i j o p e q. subst NotDo e (quiet xs) }

later_mends : (k : Script) → NotDo (k []) → ((a : Answer) → MendsOnce (λ ys. k (a ∷ ys))) → MendsOnce k
later_mends k quiet rest = record { mends = mends; once = once }
  where
    mends : (xs : List Answer) → OnlyMends (k xs)
    mends [] = undone_mends (k []) quiet
    mends (a ∷ xs) = (rest a).mends xs

    once : (xs : List Answer) (a : Answer) (ys : List Answer) (i j : Serial) (o p : Op) → k xs ≡ want.Do i o → k (xs ++ a ∷ ys) ≡ want.Do j p → ⊥
    once [] a ys i j o p e q = subst NotDo e quiet
    once (x ∷ xs) a ys i j o p e q = (rest x).once xs a ys i j o p e q

mending_once : (i : Serial) → MendsOnce (after_mend i)
mending_once i = record { mends = mends; once = once }
  where
    mends : (xs : List Answer) → OnlyMends (after_mend i xs)
    mends [] = tt
    mends (a ∷ xs) = undone_mends (after_mend i (a ∷ xs)) (after_none i a xs)

    once : (xs : List Answer) (a : Answer) (ys : List Answer) (k j : Serial) (o p : Op) → after_mend i xs ≡ want.Do k o → after_mend i (xs ++ a ∷ ys) ≡ want.Do j p → ⊥
    once [] a ys k j o p e q = subst NotDo q (after_none i a ys)
    once (x ∷ xs) a ys k j o p e q = subst NotDo e (after_none i x xs)

brings_once : (i : Serial) (f : FileId) (stamps : List Stamp) → MendsOnce (brings i f stamps)
brings_once i f [] = mending_once i
brings_once i f (s ∷ stamps) = later_mends (brings i f (s ∷ stamps)) tt (rest (brings_once i f stamps))
  where
    rest : MendsOnce (brings i f stamps) → (a : Answer) → MendsOnce (λ ys. brings i f (s ∷ stamps) (a ∷ ys))
    rest later answer.Brought = later
    rest later (answer.Refused why) = none_mends _ (λ xs. given_up_none i why xs)
    rest later _ = none_mends _ (λ xs. tt)

wants_once : (f : FileId) → MendsOnce (mend_wants f)
wants_once f = later_mends (mend_wants f) tt rest
  where
    refused : (why : Refusal) (xs : List Answer) → NotDo (mend_wants f (answer.Refused why ∷ xs))
    refused why [] = tt
    refused why (a ∷ xs) = tt

    rest : (a : Answer) → MendsOnce (λ ys. mend_wants f (a ∷ ys))
    rest (answer.Merging i kept) = brings_once i f kept
    rest (answer.Refused why) = none_mends _ (refused why)
    rest _ = none_mends _ (λ xs. tt)

packed_only : (p : ℕ → Bool) (w : Want) → OnlyMends w → OnlyMends (where_packed p w)
packed_only p w k = over (packed_is p w)
  where
    over : IsOr (where_packed p w) w → OnlyMends (where_packed p w)
    over (inl q) = subst OnlyMends (sym q) k
    over (inr q) = subst OnlyMends (sym q) tt

packed_does : (p : ℕ → Bool) (w : Want) (i : Serial) (o : Op) → where_packed p w ≡ want.Do i o → w ≡ want.Do i o
packed_does p w i o e = over (packed_is p w)
  where
    over : IsOr (where_packed p w) w → w ≡ want.Do i o
    over (inl q) = sym q ∙ e
    over (inr q) = absurd (subst NotDo (sym q ∙ e) tt)

pub mend_once : (mounts : List Mount) (p : ℕ → Bool) (free : Option ℕ) (id : CallId) (f : FileId) → MendsOnce (wants mounts p free (call.Mend f) (begins.Walks id))
mend_once mounts p free id f = record {
  mends = λ xs. packed_only p (mend_wants f xs) ((wants_once f).mends xs);
  once = λ xs a ys i j o q e r. (wants_once f).once xs a ys i j o q (packed_does p (mend_wants f xs) i o e) (packed_does p (mend_wants f (xs ++ a ∷ ys)) j q r);
}
